-- The numbers below n that pass a test, listed once each.
use Rattle.std.proofs.Common.{◌≡◌, ℕ, zero, suc, ◌<◌, Bool, true, false, cond, eqb, sym, refl, ap, ◌∙◌, ⊎_elim, arith}
use Rattle.std.proofs.lemmas.Bool.{cases_Bool, cases_eq, eq-eqb, ne_eqb, false≢true}

pub record Listed (test : ℕ → Bool) (n : ℕ) : Type 0 where
  pub size : ℕ
  pub at : ℕ → ℕ
  pub inside : (d : ℕ) → d < size → at d < n
  pub passes : (d : ℕ) → d < size → test (at d) ≡ true
  pub once : (d e : ℕ) → d < size → e < size → at d ≡ at e → d ≡ e
  pub found : (u : ℕ) → u < n → test u ≡ true → (d : ℕ) × (d < size) × (at d ≡ u)

ne_less : (d n : ℕ) → d < suc n → (d ≡ n → ⊥) → d < n
ne_less d n below ne = omega (arith, below, ne)

-- a place more at the end of a list
abbrev longer : ℕ → (ℕ → ℕ) → ℕ → ℕ → ℕ
longer size at n d = cond (eqb d size) n (at d)

at_end : (size : ℕ) (at : ℕ → ℕ) (n d : ℕ) → d ≡ size → longer size at n d ≡ n
at_end size at n d is = rw (eq-eqb d size is) refl

at_before : (size : ℕ) (at : ℕ → ℕ) (n d : ℕ) → (d ≡ size → ⊥) → longer size at n d ≡ at d
at_before size at n d ne = rw (ne_eqb d size ne) refl

module _ (test : ℕ → Bool) (n : ℕ) (l : Listed test n) where
  one_more : test n ≡ true → Listed test (suc n)
  one_more passes =
      let at = longer l.size l.at n in
      record {
        size = suc l.size;
        at = at;
        inside = λ d below. ⊎_elim
            (λ (is : d ≡ l.size). omega (arith, at_end l.size l.at n d is))
            (λ (ne : d ≡ l.size → ⊥). let less : d < l.size = ne_less d l.size below ne in omega (arith, l.inside d less, at_before l.size l.at n d ne))
            (cases_eq d l.size);
        passes = λ d below. ⊎_elim
            (λ (is : d ≡ l.size). ap test (at_end l.size l.at n d is) ∙ passes)
            (λ (ne : d ≡ l.size → ⊥). ap test (at_before l.size l.at n d ne) ∙ l.passes d (ne_less d l.size below ne))
            (cases_eq d l.size);
        once = λ d e below less same. ⊎_elim
            (λ (is : d ≡ l.size). ⊎_elim
            (λ (is_e : e ≡ l.size). is ∙ sym is_e)
            (λ (ne_e : e ≡ l.size → ⊥). absurd (omega (arith, l.inside e (ne_less e l.size less ne_e), at_end l.size l.at n d is, at_before l.size l.at n e ne_e, same)))
            (cases_eq e l.size))
            (λ (ne : d ≡ l.size → ⊥). ⊎_elim
            (λ (is_e : e ≡ l.size). absurd (omega (arith, l.inside d (ne_less d l.size below ne), at_before l.size l.at n d ne, at_end l.size l.at n e is_e, same)))
            (λ (ne_e : e ≡ l.size → ⊥). l.once d e (ne_less d l.size below ne) (ne_less e l.size less ne_e) (sym (at_before l.size l.at n d ne) ∙ same ∙ at_before l.size l.at n e ne_e))
            (cases_eq e l.size))
            (cases_eq d l.size);
        found = λ u below passes_u. ⊎_elim
            (λ (is : u ≡ n). (l.size, omega arith, at_end l.size l.at n l.size refl ∙ sym is))
            (λ (ne : u ≡ n → ⊥). let there = l.found u (ne_less u n below ne) passes_u in
            (there.0, omega (arith, there.1), at_before l.size l.at n there.0 (λ is. omega (arith, is, there.1)) ∙ there.2))
            (cases_eq u n);
      }

  none_more : test n ≡ false → Listed test (suc n)
  none_more fails = record {
    size = l.size;
    at = l.at;
    inside = λ d below. omega (arith, l.inside d below);
    passes = l.passes;
    once = l.once;
    found = λ u below passes_u. ⊎_elim
        (λ (is : u ≡ n). absurd (false≢true (sym fails ∙ ap test (sym is) ∙ passes_u)))
        (λ (ne : u ≡ n → ⊥). l.found u (ne_less u n below ne) passes_u)
        (cases_eq u n);
  }

pub list_below : (test : ℕ → Bool) (n : ℕ) → Listed test n
list_below test zero = record {
  size = 0;
  at = λ d. 0;
  inside = λ d below. absurd (omega arith);
  passes = λ d below. absurd (omega arith);
  once = λ d e below less same. absurd (omega arith);
  found = λ u below passes. absurd (omega arith);
}
list_below test (suc n) = ⊎_elim (one_more test n (list_below test n)) (none_more test n (list_below test n)) (cases_Bool (test n))
