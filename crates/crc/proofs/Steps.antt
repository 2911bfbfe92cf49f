-- Laws of the CRC's steps: one bit in each direction, one bit more of a byte, one byte more of the bytes.
use Prim.Native.Nat.{ℕ, suc, ◌+◌, ◌-◌, ◌*◌, ◌/◌, ◌%◌, ◌≤◌, ◌<◌}
use borrow.Author.Tests.{le-leb, lt-leb, eq-eqb, ne_eqb}
use lib.Bits.{bit_xor}
use lib.ListN.{length, drop, get_or}
use lib.Seq.{drop-cons}
use mathlib.Core.List.{List, [], ◌∷◌}
use mathlib.Core.Path.{◌≡◌, refl}
use native.Mathlib.Nat.{add-zero}
use native.Mathlib.Numerals.{add-one, add-two}
use native.Mathlib.Omega.{arith}
use Rattle.crc.proofs.Chunks.{chunk_byte}
use Rattle.std.specs.Simd.{first_chunks}
use Rattle.crc.specs.Crc.{leaving, shifted, added, bit_step, bit_steps, byte_step, crc}
use Rattle.crc.specs.declared.Direction.{Direction}
use Rattle.crc.specs.declared.Direction.TheVariants.{HighFirst, LowFirst}

module _ (polynomial register : ℕ) where
  pub high_one : 0x8000 ≤ register → bit_xor (register % 0x8000 * 2) polynomial ≡ bit_step HighFirst polynomial register
  unfolding bit_step leaving shifted added
  high_one one =
      let up : register % 0x8000 * 2 ≡ register * 2 % 0x10000 = omega arith in
      simp (le-leb 0x8000 register one, up)

  pub high_zero : register < 0x8000 → register * 2 ≡ bit_step HighFirst polynomial register
  unfolding bit_step leaving shifted added
  high_zero none =
      let up : register * 2 % 0x10000 ≡ register * 2 = omega arith in
      simp (lt-leb 0x8000 register none, up)

  pub low_one : register % 2 ≡ 1 → bit_xor (register / 2) polynomial ≡ bit_step LowFirst polynomial register
  unfolding bit_step leaving shifted added
  low_one one = simp (eq-eqb (register % 2) 1 one)

  pub low_zero : (register % 2 ≡ 1 → ⊥) → register / 2 ≡ bit_step LowFirst polynomial register
  unfolding bit_step leaving shifted added
  low_zero none = simp (ne_eqb (register % 2) 1 none)

module _ (direction : Direction) (polynomial : ℕ) where
  -- of the bits left, one is worked now
  pub bits_next : (i register : ℕ) → i < 8
      → bit_steps direction polynomial (8 - (i + 1)) (bit_step direction polynomial register) ≡ bit_steps direction polynomial (8 - i) register
  unfolding bit_steps
  bits_next i register some =
      let left : 8 - i ≡ suc (8 - (i + 1)) = omega arith in
      rw left

  pub bits_none : (i register : ℕ) → 8 ≤ i → bit_steps direction polynomial (8 - i) register ≡ register
  unfolding bit_steps
  bits_none i register none =
      let left : 8 - i ≡ 0 = omega arith in
      rw left

  -- of the bytes left, one is worked now
  pub bytes_next : (bytes : List ℕ) (i register : ℕ) → i < length bytes
      → crc direction polynomial (byte_step direction polynomial register (get_or bytes i 0)) (drop (i + 1) bytes) ≡ crc direction polynomial register (drop i bytes)
  unfolding crc
  bytes_next bytes i register inside = rw (add-one, drop-cons bytes i 0)

  -- two of them
  pub two_bytes_next : (bytes : List ℕ) (i register : ℕ) → 2 ≤ length bytes - i
      → crc direction polynomial (byte_step direction polynomial (byte_step direction polynomial register (get_or bytes i 0)) (get_or bytes (i + 1) 0)) (drop (i + 2) bytes)
      ≡ crc direction polynomial register (drop i bytes)
  unfolding crc
  two_bytes_next bytes i register inside =
      let next : suc i < length bytes = omega arith in
      rw (add-one i, add-two i, drop-cons bytes i 0 (omega arith), drop-cons bytes (suc i) 0 next)

  -- two of them, as the array that they are cut into
  pub pair_next : (bytes : List ℕ) (pairs : List (List ℕ)) (k register : ℕ) → pairs ≡ first_chunks 2 (length bytes / 2) bytes → k < length bytes / 2
      → let pair : List ℕ = get_or pairs k [] in
      crc direction polynomial (byte_step direction polynomial (byte_step direction polynomial register (get_or pair 0 0)) (get_or pair 1 0)) (drop ((k + 1) * 2) bytes)
      ≡ crc direction polynomial register (drop (k * 2) bytes)
  pair_next bytes pairs k register cut inside =
      let first : get_or (get_or pairs k []) 0 0 ≡ get_or bytes (k * 2 + 0) 0 = chunk_byte bytes 2 (length bytes / 2) pairs cut k 0 inside (omega arith) in
      let second : get_or (get_or pairs k []) 1 0 ≡ get_or bytes (k * 2 + 1) 0 = chunk_byte bytes 2 (length bytes / 2) pairs cut k 1 inside (omega arith) in
      let next : (k + 1) * 2 ≡ k * 2 + 2 = omega arith in
      rw (first, second, next, add-zero (k * 2)) (two_bytes_next bytes (k * 2) register (omega arith))

  -- the last one, and none
  pub one_left : (bytes : List ℕ) (register : ℕ) → length bytes ≡ 1
      → byte_step direction polynomial register (get_or bytes 0 0) ≡ crc direction polynomial register bytes
  unfolding crc
  one_left (b ∷ []) register one = refl
  one_left [] register one = absurd (omega arith)
  one_left (a ∷ b ∷ bytes) register one = absurd (omega arith)

  pub none_left : (bytes : List ℕ) (register : ℕ) → length bytes ≡ 0 → register ≡ crc direction polynomial register bytes
  unfolding crc
  none_left [] register none = refl
  none_left (b ∷ bytes) register none = absurd (omega arith)
