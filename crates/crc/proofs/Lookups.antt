-- Laws of the bytes that are looked up: two more, the last one, and none. They hold for any tables.
use Rattle.std.proofs.Common.{◌≡◌, ℕ, suc, ◌+◌, ◌-◌, ◌*◌, ◌/◌, ◌<◌, ◌≤◌, List, [], ◌∷◌, length, drop, get_or, refl, ap, ◌∙◌, add-one, arith, drop-cons}
use Rattle.std.specs.Simd.{first_chunks}
use native.Mathlib.Nat.{add-zero}
use native.Mathlib.Numerals.{add-two}
use Rattle.crc.proofs.Chunks.{chunk_byte}
use Rattle.crc.specs.Tables.{table_step, table_steps, table_crc}
use Rattle.crc.specs.declared.Direction.{Direction}

module _ (direction : Direction) (near far : List ℕ) where
  two_next : (bytes : List ℕ) (i register : ℕ) → 2 ≤ length bytes - i
      → table_crc direction near far (table_steps direction near far register (get_or bytes i 0) (get_or bytes (i + 1) 0)) (drop (i + 2) bytes)
      ≡ table_crc direction near far register (drop i bytes)
  unfolding table_crc
  two_next bytes i register inside =
      let next : suc i < length bytes = omega arith in
      let here : drop i bytes ≡ get_or bytes i 0 ∷ get_or bytes (suc i) 0 ∷ drop (suc (suc i)) bytes
      = drop-cons bytes i 0 (omega arith) ∙ ap (◌∷◌ (get_or bytes i 0)) (drop-cons bytes (suc i) 0 next) in
      rw (here, add-one i, add-two i)

  pub pair_next : (bytes : List ℕ) (pairs : List (List ℕ)) (k register : ℕ) → pairs ≡ first_chunks 2 (length bytes / 2) bytes → k < length bytes / 2
      → let pair : List ℕ = get_or pairs k [] in
      table_crc direction near far (table_steps direction near far register (get_or pair 0 0) (get_or pair 1 0)) (drop ((k + 1) * 2) bytes)
      ≡ table_crc direction near far register (drop (k * 2) bytes)
  pair_next bytes pairs k register cut inside =
      let first : get_or (get_or pairs k []) 0 0 ≡ get_or bytes (k * 2 + 0) 0 = chunk_byte bytes 2 (length bytes / 2) pairs cut k 0 inside (omega arith) in
      let second : get_or (get_or pairs k []) 1 0 ≡ get_or bytes (k * 2 + 1) 0 = chunk_byte bytes 2 (length bytes / 2) pairs cut k 1 inside (omega arith) in
      let next : (k + 1) * 2 ≡ k * 2 + 2 = omega arith in
      rw (first, second, next, add-zero (k * 2)) (two_next bytes (k * 2) register (omega arith))

  pub one_left : (bytes : List ℕ) (register : ℕ) → length bytes ≡ 1
      → table_step direction near register (get_or bytes 0 0) ≡ table_crc direction near far register bytes
  unfolding table_crc
  one_left (b ∷ []) register one = refl
  one_left [] register one = absurd (omega arith)
  one_left (a ∷ b ∷ bytes) register one = absurd (omega arith)

  pub none_left : (bytes : List ℕ) (register : ℕ) → length bytes ≡ 0 → register ≡ table_crc direction near far register bytes
  unfolding table_crc
  none_left [] register none = refl
  none_left (b ∷ bytes) register none = absurd (omega arith)
