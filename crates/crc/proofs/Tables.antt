-- The law of the tables, over every polynomial of sixteen bits and both directions: a byte looked up is eight plain steps, two bytes looked up
-- are sixteen, and so both engines give the same number on every list of bytes, from every register.
use Prim.Native.Nat.{ℕ, zero, suc, ◌+◌, ◌*◌, ◌/◌, ◌%◌, ◌^◌, ◌≤◌, ◌<◌}
use lib.Bits.{bit_xor, xor_block, xor_comm, xor_lt, xor_shifted, xor_zero_r, shifted_half, shifted_even}
use lib.ListN.{get_or}
use lib.Pow.{pow_pos}
use mathlib.Core.List.{List, [], ◌∷◌}
use mathlib.Core.Path.{◌≡◌, refl, sym, ap, ap₂, ◌∙◌}
use native.Mathlib.Nat.{add-zero, le-mul_of_pos_right, mul_assoc, mul_comm, pow-suc}
use native.Mathlib.Omega.{arith}
use Rattle.crc.proofs.Linear.{steps_small, steps_xor}
use Rattle.crc.proofs.Steps.{high_zero, low_zero}
use Rattle.crc.proofs.Xors.{xor_assoc}
use Rattle.crc.specs.Crc.{bit_steps, entered, byte_step, crc}
use Rattle.crc.specs.Tables.{entries, table_of, place, moved, table_step, table_steps, table_crc}
use Rattle.crc.specs.declared.Direction.{Direction}
use Rattle.crc.specs.declared.Direction.TheVariants.{HighFirst, LowFirst}

-- bytes are below 256
abbrev pub Bytes : List ℕ → Type 0
Bytes bytes = (i : ℕ) → get_or bytes i 0 < 256

module _ (direction : Direction) (polynomial bits : ℕ) where
  entries_at : (n b i : ℕ) → i < n → get_or (entries direction polynomial bits n b) i 0 ≡ bit_steps direction polynomial bits (entered direction 0 (b + i))
  unfolding entries
  entries_at zero b i inside = absurd (omega arith)
  entries_at (suc n) b zero inside = rw add-zero
  entries_at (suc n) b (suc i) inside =
      entries_at n (suc b) i (omega arith) ∙ ap (λ (k : ℕ). bit_steps direction polynomial bits (entered direction 0 k)) (omega arith)

  pub table_at : (i : ℕ) → i < 256 → get_or (table_of direction polynomial bits) i 0 ≡ bit_steps direction polynomial bits (entered direction 0 i)
  unfolding table_of
  table_at i inside = entries_at 256 0 i inside ∙ ap (λ (k : ℕ). bit_steps direction polynomial bits (entered direction 0 k)) (omega arith)

-- ---- what of the register does not meet the byte

abbrev rest : Direction → ℕ → ℕ
rest HighFirst register = register % 256
rest LowFirst register = register / 256 * 256

module _ (register b : ℕ) (word : register < 0x10000) (byte : b < 256) where
  pub place_small : (direction : Direction) → place direction register b < 256
  unfolding place
  place_small HighFirst = xor_lt 8 (register / 256) b (omega arith) byte
  place_small LowFirst = xor_lt 8 (register % 256) b (omega arith) byte

  -- the byte and the eight bits that it meets stand apart from the other eight
  meets : (direction : Direction) → entered direction register b ≡ bit_xor (entered direction 0 (place direction register b)) (rest direction register)
  unfolding entered place
  meets HighFirst =
      let whole : register / 256 * 256 + register % 256 ≡ register = omega arith in
      let above : b * 256 + 0 ≡ b * 256 = omega arith in
      ap₂ bit_xor (sym whole) (sym above)
      ∙ (xor_block 8 (register / 256) b (register % 256) 0 (omega arith) (omega arith)
      ∙ (ap (λ (x : ℕ). bit_xor (register / 256) b * 256 + x) (xor_zero_r (register % 256))
      ∙ sym (xor_shifted (bit_xor (register / 256) b) 8 (register % 256) (omega arith))))
  meets LowFirst =
      let whole : register / 256 * 256 + register % 256 ≡ register = omega arith in
      let below : 0 + b ≡ b = omega arith in
      ap₂ bit_xor (sym whole) (sym below)
      ∙ (xor_block 8 (register / 256) 0 (register % 256) b (omega arith) byte
      ∙ (ap (λ (x : ℕ). x * 256 + bit_xor (register % 256) b) (xor_zero_r (register / 256))
      ∙ (sym (xor_shifted (register / 256) 8 (bit_xor (register % 256) b) (xor_lt 8 (register % 256) b (omega arith) byte))
      ∙ xor_comm (register / 256 * 256) (bit_xor (register % 256) b))))

-- ---- these eight only move

pub up : (polynomial n x : ℕ) → x * 2 ^ n < 0x10000 → bit_steps HighFirst polynomial n x ≡ x * 2 ^ n
unfolding bit_steps
up polynomial zero x h = omega arith
up polynomial (suc n) x h =
    let double : x * 2 ^ suc n ≡ x * 2 * 2 ^ n = ap (λ (k : ℕ). x * k) (pow-suc 2 n ∙ mul_comm (2 ^ n) 2) ∙ sym (mul_assoc x 2 (2 ^ n)) in
    let above : x * 2 ≤ x * 2 * 2 ^ n = le-mul_of_pos_right (x * 2) (pow_pos n) in
    ap (bit_steps HighFirst polynomial n) (sym (high_zero polynomial x (omega arith))) ∙ (up polynomial n (x * 2) (omega arith) ∙ sym double)

down : (polynomial n x : ℕ) → bit_steps LowFirst polynomial n (x * 2 ^ n) ≡ x
unfolding bit_steps
down polynomial zero x = omega arith
down polynomial (suc n) x =
    let even : x * 2 ^ suc n % 2 ≡ 0 = shifted_even x n in
    ap (bit_steps LowFirst polynomial n) (sym (low_zero polynomial (x * 2 ^ suc n) (λ (odd : x * 2 ^ suc n % 2 ≡ 1). omega arith)) ∙ shifted_half x n)
    ∙ down polynomial n x

rest_moves : (direction : Direction) (polynomial register : ℕ) → bit_steps direction polynomial 8 (rest direction register) ≡ moved direction register
unfolding moved
rest_moves HighFirst polynomial register = up polynomial 8 (register % 256) (omega arith)
rest_moves LowFirst polynomial register = down polynomial 8 (register / 256)

-- ---- the shared law

entered_small : (direction : Direction) (i : ℕ) → i < 256 → entered direction 0 i < 0x10000
unfolding entered
entered_small HighFirst i h = omega arith
entered_small LowFirst i h = omega arith

rest_small : (direction : Direction) (register : ℕ) → register < 0x10000 → rest direction register < 0x10000
rest_small HighFirst register h = omega arith
rest_small LowFirst register h = omega arith

moved_small : (direction : Direction) (register : ℕ) → register < 0x10000 → moved direction register < 0x10000
unfolding moved
moved_small HighFirst register h = omega arith
moved_small LowFirst register h = omega arith

-- nothing is left of a register that moved twice
moved_out : (direction : Direction) (register : ℕ) → register < 0x10000 → moved direction (moved direction register) ≡ 0
unfolding moved
moved_out HighFirst register h = omega arith
moved_out LowFirst register h = omega arith

entered_xor : (direction : Direction) (a register b : ℕ) → entered direction (bit_xor a register) b ≡ bit_xor a (entered direction register b)
unfolding entered
entered_xor HighFirst a register b = xor_assoc a register (b * 256)
entered_xor LowFirst a register b = xor_assoc a register b

entered_word : (direction : Direction) (register b : ℕ) → register < 0x10000 → b < 256 → entered direction register b < 0x10000
unfolding entered
entered_word HighFirst register b h k = xor_lt 16 register (b * 256) h (omega arith)
entered_word LowFirst register b h k = xor_lt 16 register b h (omega arith)

module _ (direction : Direction) (polynomial : ℕ) (small : polynomial < 0x10000) where
  module _ (register : ℕ) (word : register < 0x10000) where
    -- a byte is looked up
    pub one_byte : (b : ℕ) → b < 256 → byte_step direction polynomial register b ≡ table_step direction (table_of direction polynomial 8) register b
    unfolding byte_step table_step
    one_byte b byte =
        let at : place direction register b < 256 = place_small register b word byte direction in
        ap (bit_steps direction polynomial 8) (meets register b word byte direction)
        ∙ (steps_xor direction polynomial small 8 _ _ (entered_small direction (place direction register b) at) (rest_small direction register word)
        ∙ ap₂ bit_xor (sym (table_at direction polynomial 8 (place direction register b) at)) (rest_moves direction polynomial register))

    pub byte_small : (b : ℕ) → b < 256 → byte_step direction polynomial register b < 0x10000
    unfolding byte_step
    byte_small b byte = steps_small direction polynomial small 8 _ (entered_word direction register b word byte)

  -- a byte enters a sum
  byte_xor : (a register b : ℕ) → a < 0x10000 → register < 0x10000 → b < 256
      → byte_step direction polynomial (bit_xor a register) b ≡ bit_xor (bit_steps direction polynomial 8 a) (byte_step direction polynomial register b)
  unfolding byte_step
  byte_xor a register b left word byte =
      ap (bit_steps direction polynomial 8) (entered_xor direction a register b)
      ∙ steps_xor direction polynomial small 8 a (entered direction register b) left (entered_word direction register b word byte)

  -- sixteen steps are eight, and eight more
  pub sixteen : (a : ℕ) → bit_steps direction polynomial 8 (bit_steps direction polynomial 8 a) ≡ bit_steps direction polynomial 16 a
  unfolding bit_steps
  sixteen a = refl

  module _ (register : ℕ) (word : register < 0x10000) (a b : ℕ) (first : a < 256) (second : b < 256) where
    -- two bytes are looked up together
    pub two_bytes : byte_step direction polynomial (byte_step direction polynomial register a) b
        ≡ table_steps direction (table_of direction polynomial 8) (table_of direction polynomial 16) register a b
    unfolding table_step table_steps
    two_bytes =
        let at : place direction register a < 256 = place_small register a word first direction in
        let enters : entered direction 0 (place direction register a) < 0x10000 = entered_small direction (place direction register a) at in
        let left : moved direction register < 0x10000 = moved_small direction register word in
        let looked : ℕ = get_or (table_of direction polynomial 8) (place direction (moved direction register) b) 0 in
        ap (λ (x : ℕ). byte_step direction polynomial x b)
        (one_byte register word a first
        ∙ ap (λ (x : ℕ). bit_xor x (moved direction register)) (table_at direction polynomial 8 (place direction register a) at))
        ∙ (byte_xor _ (moved direction register) b (steps_small direction polynomial small 8 _ enters) left second
        ∙ ap₂ bit_xor
        (sixteen (entered direction 0 (place direction register a)) ∙ sym (table_at direction polynomial 16 (place direction register a) at))
        (one_byte (moved direction register) left b second ∙ (ap (bit_xor looked) (moved_out direction register word) ∙ xor_zero_r looked)))

  pub crc_small : (register : ℕ) (bytes : List ℕ) → register < 0x10000 → Bytes bytes → crc direction polynomial register bytes < 0x10000
  unfolding crc
  crc_small register [] word all = word
  crc_small register (b ∷ bytes) word all =
      crc_small (byte_step direction polynomial register b) bytes (byte_small register word b (all 0)) (λ i. all (suc i))

  -- both engines give the same number
  pub same_number : (register : ℕ) (bytes : List ℕ) → register < 0x10000 → Bytes bytes
      → table_crc direction (table_of direction polynomial 8) (table_of direction polynomial 16) register bytes ≡ crc direction polynomial register bytes
  unfolding table_crc crc
  same_number register [] word all = refl
  same_number register (b ∷ []) word all = sym (one_byte register word b (all 0))
  same_number register (a ∷ b ∷ bytes) word all =
      let first : a < 256 = all 0 in
      let second : b < 256 = all 1 in
      let next : byte_step direction polynomial register a < 0x10000 = byte_small register word a first in
      ap (λ (x : ℕ). table_crc direction (table_of direction polynomial 8) (table_of direction polynomial 16) x bytes) (sym (two_bytes register word a b first second))
      ∙ same_number (byte_step direction polynomial (byte_step direction polynomial register a) b) bytes (byte_small _ next b second) (λ i. all (suc (suc i)))

  -- and so with whatever lists are found to be these tables
  pub by_tables : (near far : List ℕ) → near ≡ table_of direction polynomial 8 → far ≡ table_of direction polynomial 16
      → (register : ℕ) (bytes : List ℕ) → register < 0x10000 → Bytes bytes
      → table_crc direction near far register bytes ≡ crc direction polynomial register bytes
  by_tables near far p q register bytes word all =
      ap₂ (λ (one two : List ℕ). table_crc direction one two register bytes) p q ∙ same_number register bytes word all
