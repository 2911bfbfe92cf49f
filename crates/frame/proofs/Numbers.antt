-- Laws of the bytes and numbers in a list: behind the end they are 0.
use Rattle.std.proofs.Common.{◌≡◌, ℕ, zero, suc, ◌+◌, ◌/◌, ◌%◌, ◌<◌, ◌≤◌, List, [], ◌∷◌, length, refl, ◌∙◌, arith, length-append}
use lib.ListN.{get_or-eq_default}
use Rattle.frame.specs.Bytes.{byte, number, double, bytes_of, two_bytes}

pub byte_behind : (bytes : List ℕ) (i : ℕ) → length bytes ≤ i → byte bytes i ≡ 0
unfolding byte
byte_behind bytes i h = get_or-eq_default bytes 0 h

pub number_behind : (bytes : List ℕ) (i : ℕ) → length bytes ≤ i → 0 ≡ number bytes i
unfolding number
number_behind bytes i h = simp (byte_behind bytes i h, byte_behind bytes (i + 1) (omega arith))

pub double_behind : (bytes : List ℕ) (i : ℕ) → length bytes ≤ i → 0 ≡ double bytes i
unfolding double
double_behind bytes i h = simp (← (number_behind bytes i h), ← (number_behind bytes (i + 2) (omega arith)))

pub number_two_bytes : (n : ℕ) → n < 65536 → number (two_bytes n) 0 ≡ n
unfolding number byte bytes_of
number_two_bytes n h = omega arith

pub length_bytes_of : (n value : ℕ) → length (bytes_of n value) ≡ n
unfolding bytes_of
length_bytes_of zero value = refl
length_bytes_of (suc n) value =
    length-append (bytes_of n (value / 256)) (value % 256 ∷ []) ∙ omega (arith, length_bytes_of n (value / 256))

pub byte_one : (b : ℕ) → byte (b ∷ []) 0 ≡ b
unfolding byte
byte_one b = refl
