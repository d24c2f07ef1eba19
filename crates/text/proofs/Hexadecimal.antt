-- Bytes as hexadecimal digits.
use Rattle.std.proofs.Common.{◌≡◌, ℕ, ◌*◌, ◌/◌, ◌%◌, ◌<◌, ◌≤◌, ◌+◌, true, List, [], ◌∷◌, ◌++◌, length, get_or, take, drop, refl, ap, ◌∙◌, arith}
use Rattle.std.proofs.lemmas.List.{append_assoc, drop_at, drop-drop, length-take-le, take_at, take_more}
use Rattle.std.specs.Fmt.{digit_glyph}
use Rattle.text.specs.Puts.{hexadecimal}

pub length-hexadecimal : (bs : List ℕ) → length (hexadecimal bs) ≡ 2 * length bs
length-hexadecimal [] = refl
length-hexadecimal (b ∷ bs) = omega (arith, length-hexadecimal bs)

hexadecimal-append : (bs cs : List ℕ) → hexadecimal (bs ++ cs) ≡ hexadecimal bs ++ hexadecimal cs
hexadecimal-append [] cs = refl
hexadecimal-append (b ∷ bs) cs = ap (λ (ds : List ℕ). digit_glyph true (b / 16) ∷ digit_glyph true (b % 16) ∷ ds) (hexadecimal-append bs cs)

module _ (bytes : List ℕ) (i : ℕ) (below : i < length bytes) where
  -- there is room for one byte more
  pub byte_room : {n : ℕ} → n ≡ length (hexadecimal bytes) → 2 * i + 2 ≤ n
  byte_room long = omega (arith, long, length-hexadecimal bytes)

  one_more : hexadecimal (take (i + 1) bytes) ≡ hexadecimal (take i bytes) ++ hexadecimal (get_or bytes i 0 ∷ [])
  one_more = ap hexadecimal (take_more bytes i 0 below) ∙ hexadecimal-append (take i bytes) (get_or bytes i 0 ∷ [])

  -- its digits come after those of the bytes before it, and the rest is as it was
  pub spelled_more : (old text : List ℕ) → text ≡ hexadecimal (take i bytes) ++ drop (2 * i) old → (n : ℕ) → n ≡ 2 → take (2 * i) text ++ (hexadecimal (get_or bytes i 0 ∷ []) ++ drop n (drop (2 * i) text)) ≡ hexadecimal (take (i + 1) bytes) ++ drop (2 * (i + 1)) old
  spelled_more old text is n two =
      let so_far : List ℕ = hexadecimal (take i bytes) in
      let rest : List ℕ = drop (2 * i) old in
      let long : length so_far ≡ 2 * i = length-hexadecimal (take i bytes) ∙ ap (λ k. 2 * k) (length-take-le i bytes (omega arith)) in
      let later : drop 2 rest ≡ drop (2 * (i + 1)) old = drop-drop 2 (2 * i) old ∙ ap (λ k. drop k old) (omega arith) in
      rw (is, two, one_more, take_at so_far rest (2 * i) long, drop_at so_far rest (2 * i) long, later) (simp append_assoc)
