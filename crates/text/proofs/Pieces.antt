-- Pieces one after another: what one more says, that there is room for it, and how long all are.
use Rattle.std.proofs.Common.{◌≡◌, ℕ, ◌+◌, ◌-◌, ◌^◌, ◌<◌, ◌≤◌, min, List, [], ◌∷◌, ◌++◌, length, get_or, take, map, fold, sym, ap, ◌∙◌, arith}
use Rattle.std.proofs.lemmas.List.{flat_map_more, length-append, take_more}
use Rattle.std.proofs.lemmas.List.Folds.{length-flat_map-take}
use Rattle.text.specs.declared.piece.Piece.{Piece}
use Rattle.text.specs.declared.piece.Piece.TheVariants.{Word}
use Rattle.text.specs.Pieces.{bytes_of, printed}

-- the default with which the checker reads an element
abbrev no_piece : Piece
no_piece = Word (record { ref_ptr = (0, 0); now = [] })

module _ (ps : List Piece) (i : ℕ) (below : i < length ps) where
  pub printed_more : printed (take (i + 1) ps) ≡ printed (take i ps) ++ bytes_of (get_or ps i no_piece)
  printed_more = ap printed (take_more ps i _ below) ∙ sym (flat_map_more bytes_of [] (take i ps) (get_or ps i no_piece))

  -- with room for all, there is room for it
  pub next_room : (n at : ℕ) → at + length (printed ps) ≤ n → at + length (printed (take i ps) ++ bytes_of (get_or ps i no_piece)) ≤ n
  next_room n at room = omega (arith, length-append (printed (take i ps)) (bytes_of (get_or ps i no_piece)), length-flat_map-take bytes_of ps i no_piece below)

-- a sum of lengths that stops at the largest 64-bit number
abbrev pub capped_sum : ℕ → ℕ → ℕ
capped_sum sum len = min (sum + len) (2 ^ 64 - 1)

abbrev pub lens : List Piece → List ℕ
lens ps = map (λ p. length (bytes_of p)) ps

pub capped_lens : (sum : ℕ) (ps : List Piece) → sum < 2 ^ 64 → fold capped_sum sum (lens ps) ≡ min (sum + length (printed ps)) (2 ^ 64 - 1)
capped_lens sum [] small = omega arith
capped_lens sum (p ∷ ps) small = omega (arith, capped_lens (capped_sum sum (length (bytes_of p))) ps (omega arith), length-append (bytes_of p) (printed ps))
