-- A text laid over a row that stands in a buffer is the row with the text laid over it, in its place.
use Prim.Native.Nat.{ℕ, zero, suc, ◌+◌, ◌≤◌, ◌<◌}
use lib.ListN.{length, set, length-set}
use lib.Seq.{sets, set-set, set_comm}
use mathlib.Core.List.{List, [], ◌∷◌}
use mathlib.Core.Path.{◌≡◌, refl, ap, ◌∙◌}
use native.Mathlib.Omega.{arith}

-- a byte stored before a run of stores may be stored behind it
set_first : (l : List ℕ) (i : ℕ) (vs : List ℕ) (j v : ℕ) → j < i → set (sets l i vs) j v ≡ sets (set l j v) i vs
set_first l i [] j v h = refl
set_first l i (w ∷ vs) j v h =
    set_first (set l i w) (suc i) vs j v (omega arith) ∙ ap (λ (k : List ℕ). sets k (suc i) vs) (set_comm l i j w v (λ e. omega arith))

set_inside : (before : List ℕ) (at : ℕ) (row : List ℕ) (place v : ℕ) → place < length row → set (sets before at row) (at + place) v ≡ sets before at (set row place v)
set_inside before at [] place v h = absurd (omega arith)
set_inside before at (w ∷ row) zero v h =
    ap (λ (k : ℕ). set (sets (set before at w) (suc at) row) k v) (omega arith)
    ∙ set_first (set before at w) (suc at) row at v (omega arith)
    ∙ ap (λ (l : List ℕ). sets l (suc at) row) (set-set before at w v)
set_inside before at (w ∷ row) (suc place) v h =
    ap (λ (k : ℕ). set (sets (set before at w) (suc at) row) k v) (omega arith)
    ∙ set_inside (set before at w) (suc at) row place v (omega arith)

pub overlay : (before : List ℕ) (at : ℕ) (row : List ℕ) (place : ℕ) (piece : List ℕ) → place + length piece ≤ length row
    → sets (sets before at row) (at + place) piece ≡ sets before at (sets row place piece)
overlay before at row place [] h = refl
overlay before at row place (v ∷ piece) h =
    ap (λ (l : List ℕ). sets l (suc (at + place)) piece) (set_inside before at row place v (omega arith))
    ∙ ap (λ (k : ℕ). sets (sets before at (set row place v)) k piece) (omega arith)
    ∙ overlay before at (set row place v) (suc place) piece (omega (arith, length-set row place v))
