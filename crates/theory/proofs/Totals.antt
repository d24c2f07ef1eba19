-- Totals of totals: parts may be added in any order, and grouped by the state that they stand for.
use Rattle.std.proofs.Common.{◌≡◌, ℕ, zero, suc, ◌<◌, cond, eqb, sym, refl, subst, ⊎_elim, arith}
use Rattle.std.proofs.lemmas.Bool.{cases_eq, eq-eqb, ne_eqb}
use Rattle.amounts.specs.Kinds.{Kind, Laws, Same, IsNothing}
use Rattle.theory.specs.Models.{total_below}
use Rattle.theory.proofs.Rows.{total_both, totals_at_most}
use Rattle.theory.proofs.Sameness.{same_refl, same_sym, same_trans, same_total, total_nothing_right}

module _ {S : Type 0} {k : Kind S} (laws : Laws k) where
  same_both : {x y v w : S} → Same k x y → Same k v w → Same k (k.total x v) (k.total y w)
  same_both p q = record { there = total_both laws p.there q.there; back = total_both laws p.back q.back }

  pub totals_same : (f g : ℕ → S) (n : ℕ) → ((u : ℕ) → u < n → Same k (f u) (g u)) → Same k (total_below k f n) (total_below k g n)
  totals_same f g n same = record {
    there = totals_at_most laws f g n (λ u below. (same u below).there);
    back = totals_at_most laws g f n (λ u below. (same u below).back);
  }

  pub totals_nothing : (f : ℕ → S) (n : ℕ) → ((u : ℕ) → u < n → IsNothing k (f u)) → IsNothing k (total_below k f n)
  unfolding total_below
  totals_nothing f zero none = same_refl laws k.nothing
  totals_nothing f (suc n) none = same_trans laws (same_both (totals_nothing f n (λ u below. none u (omega arith))) (none n (omega arith))) (laws.total_nothing k.nothing)

  -- (a + b) + (c + d) is (a + c) + (b + d)
  exchange : (a b c d : S) → Same k (k.total (k.total a b) (k.total c d)) (k.total (k.total a c) (k.total b d))
  exchange a b c d =
      same_trans laws (laws.total_assoc a b (k.total c d))
      (same_trans laws (same_both (same_refl laws a) (same_trans laws (same_sym laws (laws.total_assoc b c d)) (same_trans laws (same_total laws d (laws.total_comm b c)) (laws.total_assoc c b d))))
      (same_sym laws (laws.total_assoc a c (k.total b d))))

  pub totals_add : (f g : ℕ → S) (n : ℕ) → Same k (total_below k (λ u. k.total (f u) (g u)) n) (k.total (total_below k f n) (total_below k g n))
  unfolding total_below
  totals_add f g zero = same_sym laws (laws.total_nothing k.nothing)
  totals_add f g (suc n) = same_trans laws (same_total laws (k.total (f n) (g n)) (totals_add f g n)) (exchange (total_below k f n) (total_below k g n) (f n) (g n))

  pub totals_swap : (a : ℕ → ℕ → S) (m n : ℕ) → Same k (total_below k (λ u. total_below k (a u) n) m) (total_below k (λ d. total_below k (λ u. a u d) m) n)
  unfolding total_below
  totals_swap a m zero = totals_nothing (λ u. k.nothing) m (λ u below. same_refl laws k.nothing)
  totals_swap a m (suc n) =
      same_trans laws (totals_add (λ u. total_below k (a u) n) (λ u. a u n) m)
      (same_total laws (total_below k (λ u. a u n) m) (totals_swap a m n))

  -- where all but one are nothing, that one is the total
  pub total_but_one : (f : ℕ → S) (s n : ℕ) → s < n → ((u : ℕ) → u < n → (s ≡ u → ⊥) → IsNothing k (f u)) → Same k (total_below k f n) (f s)
  unfolding total_below
  total_but_one f s zero below none = absurd (omega arith)
  total_but_one f s (suc n) below none = ⊎_elim
      (λ (is : s ≡ n). same_trans laws (same_both
      (totals_nothing f n (λ u less. none u (omega arith) (λ same. omega (arith, same, is, less))))
      (subst (λ (v : ℕ). Same k (f n) (f v)) (sym is) (same_refl laws (f n))))
      (laws.total_nothing (f s)))
      (λ (ne : s ≡ n → ⊥). same_trans laws (same_both
      (total_but_one f s n (omega (arith, below, ne)) (λ u less. none u (omega arith)))
      (none n (omega arith) ne))
      (total_nothing_right laws (f s)))
      (cases_eq s n)

  -- one amount among nothings
  pub total_one : (x : S) (s n : ℕ) → s < n → Same k (total_below k (λ u. cond (eqb s u) x k.nothing) n) x
  total_one x s n below = same_trans laws
      (total_but_one (λ u. cond (eqb s u) x k.nothing) s n below (λ u less ne. rw (ne_eqb s u ne) (same_refl laws k.nothing)))
      (rw (eq-eqb s s refl) (same_refl laws x))

  -- the total of what stands for each u, over all u, is the total
  pub totals_grouped : (f : ℕ → S) (s : ℕ → ℕ) (n m : ℕ) → ((d : ℕ) → d < n → s d < m) → Same k (total_below k (λ u. total_below k (λ d. cond (eqb (s d) u) (f d) k.nothing) n) m) (total_below k f n)
  totals_grouped f s n m inside =
      same_trans laws (totals_swap (λ u d. cond (eqb (s d) u) (f d) k.nothing) m n)
      (totals_same (λ d. total_below k (λ u. cond (eqb (s d) u) (f d) k.nothing) m) f n (λ d below. total_one (f d) (s d) m (inside d below)))
