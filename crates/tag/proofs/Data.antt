-- A number among a Write's data is one among its parameters, nine places on.
use Prim.Native.Nat.{ℕ, ◌+◌}
use lib.Seq.{get_or-drop}
use mathlib.Core.List.{List}
use mathlib.Core.Path.{◌≡◌}
use native.Mathlib.Omega.{arith}
use Rattle.frame.specs.Bytes.{byte, number}
use Rattle.tag.specs.Commands.{data_in}

pub number_in_data : (parameters : List ℕ) (i : ℕ) → number (data_in parameters) i ≡ number parameters (9 + i)
unfolding data_in number byte
number_in_data parameters i = let next : 9 + (i + 1) ≡ 9 + i + 1 = omega arith in simp (get_or-drop, next)
