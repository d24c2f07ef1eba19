-- `read_all`: a read puts what it gave behind what was read, and an interrupted one gives nothing.
use Rattle.std.proofs.Common.{◌≡◌, ℕ, ◌+◌, ◌≤◌, List, ◌++◌, length, take, sym, ap, ◌∙◌, subst, rules, le_refl, length-take-le}
use Rattle.std.proofs.KnownBytes.{Consumes-trans, Consumes-kept}
use Rattle.std.proofs.Math.Seq.{take-append-add}
use Rattle.std.proofs.lemmas.List.{take-append-le}
use Rattle.std.proofs.lemmas.Slice.{take-put_mid_below}
use Rattle.std.specs.Io.KnownBytes.{Consumes}
use borrow.Rule.Slice.PartMut.{put_mid, post_of}
use Rattle.input.proofs.read_all.Goals as goal
use Rattle.input.proofs.read_all.Goals.{in-Ok, in-Err}

-- after a read of n bytes into a part of the bytes
one_read : (at k n : ℕ) (bytes part : List ℕ) → at ≤ length bytes → n ≤ length part → take (at + n) (put_mid at k bytes part) ≡ take at bytes ++ take n part
one_read at k n bytes part within fits =
    let long = length-take-le at bytes within in
    ap (λ m. take (m + n) (put_mid at k bytes part)) (sym long) ∙ take-append-add (take at bytes) (part ++ post_of at k bytes) n ∙ ap (λ ys. take at bytes ++ ys) (take-append-le n part (post_of at k bytes) fits)

pub loop-preserved : goal.loop-preserved
loop-preserved g c =
    let sofar = c.loop.invariant in
    elim c.match-read.branch [
      | in-Ok w ↦ record {
        long = search rules;
        within = search (rules, w.count-is);
        read = rw w.count-is (subst (Consumes _ _) (sym (one_read c.loop.count _ w.in-Ok.got c.loop.bytes c.read.new.buf sofar.within w.in-Ok.ensures.bound.0)) (Consumes-trans _ _ _ _ _ sofar.read w.in-Ok.ensures.bytes.0));
      }
      | in-Err w ↦ record {
        long = search rules;
        within = search (rules, w.count-is);
        read = rw w.count-is (subst (Consumes _ _) (sym (take-put_mid_below _ _ _ _ _ (le_refl _) sofar.within)) (Consumes-kept _ _ _ _ sofar.read w.in-Err.ensures.bytes));
      }
    ]
