-- When a text fits on a page, what is then written, and one text after another.
use Rattle.std.proofs.Common.{◌≡◌, ℕ, ◌+◌, ◌≤◌, List, [], ◌++◌, length, take, drop, Ok, Err, Result, sym, refl, ap, ◌∙◌, add-zero, arith}
use Rattle.std.proofs.lemmas.List.{append_assoc, drop_at, drop-drop, length-append, length-drop, length-take-le, take-append-drop, take_at}
use Rattle.std.proofs.lemmas.Bool.Decides.{nat_tests}
use Rattle.text.specs.declared.page.Page.{Page}
use Rattle.text.specs.declared.room.TooShort.{TooShort}
use Rattle.text.specs.Pages.{PutOn}
use Rattle.text.specs.Puts.{overlaid}

length-overlaid : (old : List ℕ) (at : ℕ) (ys : List ℕ) → at + length ys ≤ length old → length (overlaid old at ys) ≡ length old
length-overlaid old at ys fits = simp (length-append, length-drop) (omega (arith, length-take-le at old (omega arith)))

-- one text after another
overlaid-append : (old : List ℕ) (at : ℕ) (xs ys : List ℕ) → at + length xs ≤ length old → overlaid (overlaid old at xs) (at + length xs) ys ≡ overlaid old at (xs ++ ys)
overlaid-append old at xs ys fits =
    let front : List ℕ = take at old ++ xs in
    let n : ℕ = at + length xs in
    let long : length front ≡ n = length-append (take at old) xs ∙ ap (λ k. k + length xs) (length-take-le at old (omega arith)) in
    let whole : overlaid old at xs ≡ front ++ drop n old = sym (append_assoc (take at old) xs (drop n old)) in
    let later : drop (n + length ys) (front ++ drop n old) ≡ drop (n + length ys) old = sym (drop-drop (length ys) n (front ++ drop n old)) ∙ ap (drop (length ys)) (drop_at front (drop n old) n long) ∙ drop-drop (length ys) n old in
    let end : at + length (xs ++ ys) ≡ n + length ys = omega (arith, length-append xs ys) in
    let regrouped : front ++ (ys ++ drop (n + length ys) old) ≡ take at old ++ ((xs ++ ys) ++ drop (n + length ys) old) = simp append_assoc in
    rw (whole, take_at front (drop n old) n long, later, end) regrouped

-- ys stands on a page, and the next text begins behind it
record Stands (before : Page) (ys : List ℕ) (after : Page) : Type 0 where
  fits : before.at + length ys ≤ length before.bytes.now
  ends : after.at ≡ before.at + length ys
  writes : after.bytes.now ≡ overlaid before.bytes.now before.at ys
  lent : after.bytes.ghost_name ≡ before.bytes.ghost_name

-- what a put that answers says, and back
stands : {before after : Page} {ys : List ℕ} → PutOn before ys after (Ok tt) → Stands before ys after
stands p = record {
  fits = grind (arith, nat_tests, p.put.answer);
  ends = grind (arith, nat_tests, p.put.answer);
  writes = grind (arith, nat_tests, p.put.answer, p.put.writes);
  lent = p.lent;
}

put : {before after : Page} {ys : List ℕ} → Stands before ys after → PutOn before ys after (Ok tt)
put s = record { put = record { answer = grind (arith, nat_tests); writes = grind (arith, nat_tests) }; stays = tt; lent = s.lent }

-- nothing was put
pub none_put : (page : Page) → page.at ≤ length page.bytes.now → PutOn page [] page (Ok tt)
none_put page within = put (record { fits = omega arith; ends = sym (add-zero page.at); writes = sym (rw add-zero (take-append-drop page.at page.bytes.now)); lent = refl })

module _ {first before : Page} {xs : List ℕ} (so_far : PutOn first xs before (Ok tt)) where
  -- and ys after it
  pub then_put : {ys : List ℕ} {after : Page} → PutOn before ys after (Ok tt) → PutOn first (xs ++ ys) after (Ok tt)
  then_put {ys} {after} p =
      let one = stands so_far in
      let next = stands p in
      let long = ap length one.writes ∙ length-overlaid first.bytes.now first.at xs one.fits in
      put (record {
        fits = omega (arith, length-append xs ys, long, one.ends, next.fits);
        ends = omega (arith, length-append xs ys, one.ends, next.ends);
        writes = next.writes ∙ rw (one.writes, one.ends) (overlaid-append first.bytes.now first.at xs ys one.fits);
        lent = next.lent ∙ one.lent;
      })

  -- with room for both, ys is not refused
  module _ (ys : List ℕ) (room : first.at + length (xs ++ ys) ≤ length first.bytes.now) where
    pub not_refused : {after : Page} {x : TooShort} → PutOn before ys after (Err x) → ⊥
    not_refused p =
        let one = stands so_far in
        let fits : before.at + length ys ≤ length before.bytes.now = omega (arith, length-append xs ys, ap length one.writes ∙ length-overlaid first.bytes.now first.at xs one.fits, one.ends) in
        grind (arith, nat_tests, p.put.answer)

    pub last_put : {after : Page} (r : Result (Unit {0}) TooShort) → PutOn before ys after r → PutOn first (xs ++ ys) after r
    last_put (Ok tt) p = then_put p
    last_put (Err x) p = absurd (not_refused p)
