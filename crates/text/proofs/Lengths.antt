-- How long spaces, the two digits of a byte and a word for a number are.
use Prim.Native.Nat.{ℕ, zero, suc, ◌≤◌}
use lib.Dec.{eqb}
use lib.ListN.{length}
use mathlib.Core.List.{List}
use mathlib.Core.Path.{◌≡◌, refl, ap}
use native.Mathlib.Omega.{arith}
use Rattle.frame.proofs.Picks.{by_test}
use Rattle.frame.specs.Bytes.{pick}
use Rattle.text.specs.Digits.{hex_byte}
use Rattle.text.specs.Laying.{spaces}

pub length_spaces : (n : ℕ) → length (spaces n) ≡ n
unfolding spaces
length_spaces zero = refl
length_spaces (suc n) = ap suc (length_spaces n)

pub hex_short : (b : ℕ) → length (hex_byte b) ≤ 2
unfolding hex_byte
hex_short b = omega arith

pub either_short : (n most : ℕ) (one more : List ℕ) → length one ≤ most → length more ≤ most → length (pick (eqb n 1) one more) ≤ most
either_short n most one more h k = by_test (λ (l : List ℕ). length l ≤ most) (eqb n 1) (λ _. h) (λ _. k)
