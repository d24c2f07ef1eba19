-- Counting one record more.
use Rattle.std.proofs.Common.{◌≡◌, ℕ, ◌+◌, ◌-◌, ◌^◌, ◌<◌, Bool, cond, List, [], ◌∷◌, ◌++◌, length, count_by, refl, arith}
use Rattle.std.proofs.lemmas.List.Sums.{sum_by-cons, sum_by_push}
use Rattle.records.specs.declared.counts.Counts.{Counts}
use Rattle.records.specs.Counts.{with_one, is_band_entry, is_name_entry, counts_of}
use Rattle.records.specs.Format.{Entry, band, name}

count_cons : (p : Entry → Bool) (e : Entry) (es : List Entry) → count_by p (e ∷ es) ≡ cond (p e) 1 0 + count_by p es
count_cons p = sum_by-cons (λ x. cond (p x) 1 0)

count_push : (p : Entry → Bool) (es : List Entry) (e : Entry) → count_by p (es ++ (e ∷ [])) ≡ count_by p es + cond (p e) 1 0
count_push p = sum_by_push (λ x. cond (p x) 1 0)

-- every record is a band or a name
pub all_counted : (es : List Entry) → count_by is_band_entry es + count_by is_name_entry es ≡ length es
all_counted [] = refl
all_counted (e ∷ es) = omega (arith, count_cons is_band_entry e es, count_cons is_name_entry e es, one_kind e, all_counted es)
  where
    one_kind : (x : Entry) → cond (is_band_entry x) 1 0 + cond (is_name_entry x) 1 0 ≡ 1
    one_kind (band source target low high) = refl
    one_kind (name state place bytes) = refl

same_counts : {a b c d : ℕ} → a ≡ b → c ≡ d → ◌≡◌ {A = Counts} (record { bands = a; names = c }) (record { bands = b; names = d })
same_counts p q = λ i. record { bands = p i; names = q i }

-- as long as the count stays below the largest number
pub counts_push : (es : List Entry) (e : Entry) → length es < 2 ^ 64 - 1 → with_one (counts_of es) e ≡ counts_of (es ++ (e ∷ []))
counts_push es (band source target low high) few =
    let e : Entry = band source target low high in
    same_counts (omega (arith, count_push is_band_entry es e, all_counted es)) (omega (arith, count_push is_name_entry es e))
counts_push es (name state place bytes) few =
    let e : Entry = name state place bytes in
    same_counts (omega (arith, count_push is_band_entry es e)) (omega (arith, count_push is_name_entry es e, all_counted es))
