-- Pieces put one behind the other are one piece.
use Prim.Native.Nat.{ℕ, suc, ◌+◌, ◌≤◌}
use borrow.Rule.Slice.PartMut.{mid_of, put_mid}
use lib.ListN.{length, set, take, drop, replicate, length-append, length-drop}
use lib.Seq.{sets, sets-eq, set_comm, take-length}
use mathlib.Core.List.{List, [], ◌∷◌, ◌++◌}
use mathlib.Core.Path.{◌≡◌, refl, ap, sym, ◌∙◌}
use native.Mathlib.Omega.{arith}
use Rattle.frame.proofs.Stores.{sets_join}
use Rattle.frame.specs.Putting.{Put}
use Rattle.std.proofs.Common.{length-take-le}
use Rattle.std.proofs.lemmas.List.{length-replicate}
use Rattle.std.proofs.lemmas.Slice.{put_mid-paste}

pub put_join : (a b : List ℕ) (at : ℕ) (before middle after : List ℕ) (next last : ℕ) → Put a at before middle next → Put b next middle after last
    → Put (a ++ b) at before after last
put_join a b at before middle after next last first second =
    record {
      output_is = second.output_is ∙ rw (first.output_is, first.next_is) (sets_join before at a b);
      next_is = omega (arith, first.next_is, second.next_is, length-append a b);
    }

-- a byte that is stored behind where a run of stores ends may be stored before it
pub set_before : (l : List ℕ) (i : ℕ) (vs : List ℕ) (j v : ℕ) → i + length vs ≤ j → sets (set l j v) i vs ≡ set (sets l i vs) j v
set_before l i [] j v h = refl
set_before l i (w ∷ vs) j v h =
    ap (λ (k : List ℕ). sets k (suc i) vs) (set_comm l j i v w (λ e. omega arith)) ∙ set_before (set l i w) (suc i) vs j v (omega arith)

-- a piece written over as many bytes as it has
pub part_put : (before new piece : List ℕ) (at k : ℕ) → at + length piece ≤ length before → new ≡ piece → k ≡ length piece
    → put_mid at k before new ≡ sets before at piece
part_put before new piece at k room e few =
    put_mid-paste at k before new piece (length piece) e (sym few) refl
    ∙ ap (λ (l : List ℕ). take at before ++ l ++ drop (at + length piece) before) (take-length piece)
    ∙ sym (sets-eq piece before at room)

-- a part of so many bytes that is filled with one
pub filled_put : (before new : List ℕ) (at n k b : ℕ) → at + n ≤ length before → k ≡ n → new ≡ replicate (length (mid_of at k before)) b
    → put_mid at k before new ≡ sets before at (replicate n b)
filled_put before new at n k b room e filled =
    let all : length (mid_of at k before) ≡ n = length-take-le k (drop at before) (omega (arith, length-drop at before)) ∙ e in
    part_put before new (replicate n b) at k (omega (arith, length-replicate n b)) (filled ∙ ap (λ (m : ℕ). replicate m b) all)
    (omega (arith, length-replicate n b))
