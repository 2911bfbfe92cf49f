-- The claims page of the CRC: its rules once more, over raw numbers, in the order in which they are used. A rule does not cite what it pins; the last
-- one is that the two engines give the same number. Proved in proofs/Claimed.antt.
use Rattle.std.specs.Prelude.{ℕ, ◌+◌, ◌-◌, ◌*◌, ◌/◌, ◌%◌, ◌^◌, ◌≤◌, ◌<◌, length, get_or, List, [], ◌∷◌, ◌≡◌}
use Rattle.std.specs.Int.Bits.{bit_xor}
use Rattle.crc.specs.Crc.{bit_step, crc, tag_crc, reader_crc}
use Rattle.crc.specs.Tables.{table_of, near_table, far_table, table_crc}
use Rattle.crc.specs.declared.Direction.{Direction}
use Rattle.crc.specs.declared.Direction.TheVariants.{HighFirst, LowFirst}

-- A bit. Source document 003: "if(uiCrcValue & 0x0001) uiCrcValue = (uiCrcValue >> 1) ^ POLYNOMIAL", else "(uiCrcValue >> 1)". The tag's is the same with
-- the ends of the register changed round.
pub record BitRules (polynomial register : ℕ) : Type 0 where
  pub low_one : register % 2 ≡ 1 → bit_step LowFirst polynomial register ≡ bit_xor (register / 2) polynomial
  pub low_zero : register % 2 ≡ 0 → bit_step LowFirst polynomial register ≡ register / 2
  pub high_one : 2 ^ 15 ≤ register → register < 2 ^ 16 → bit_step HighFirst polynomial register ≡ bit_xor (register * 2 - 2 ^ 16) polynomial
  pub high_zero : register < 2 ^ 15 → bit_step HighFirst polynomial register ≡ register * 2

-- eight bits, one after the other
abbrev pub eight : Direction → ℕ → ℕ → ℕ
eight direction polynomial register =
    let step : ℕ → ℕ = bit_step direction polynomial in
    step (step (step (step (step (step (step (step register)))))))

-- A byte. Source document 003: "uiCrcValue = uiCrcValue ^ *(pucY + ucI)" and then eight bits; the tag's enters at the other end.
pub record ByteRules (polynomial register b : ℕ) (bytes : List ℕ) : Type 0 where
  pub none : (direction : Direction) → crc direction polynomial register [] ≡ register
  pub low_byte : crc LowFirst polynomial register (b ∷ bytes) ≡ crc LowFirst polynomial (eight LowFirst polynomial (bit_xor register b)) bytes
  pub high_byte : crc HighFirst polynomial register (b ∷ bytes) ≡ crc HighFirst polynomial (eight HighFirst polynomial (bit_xor register (b * 2 ^ 8))) bytes

-- "Gen2: polynomial 1021 hex, preset FFFF, complemented"; source document 003: "PRESET_VALUE 0xFFFF", "POLYNOMIAL 0x8408", and the value as it is
pub record Presets (bytes : List ℕ) : Type 0 where
  pub of_the_tag : ((i : ℕ) → get_or bytes i 0 < 2 ^ 8) → tag_crc bytes + crc HighFirst 0x1021 0xFFFF bytes ≡ 0xFFFF
  pub of_the_reader : reader_crc bytes ≡ crc LowFirst 0x8408 0xFFFF bytes

-- What the papers print, number by number: document 01's sample tag, and the three of source document 003.
pub record Published : Type 0 where
  pub sample_tag : tag_crc (0x34 ∷ 0x00 ∷ 0x30 ∷ 0x75 ∷ 0x1F ∷ 0xEB ∷ 0x70 ∷ 0x5C ∷ 0x59 ∷ 0x04 ∷ 0xE3 ∷ 0xD5 ∷ 0x0D ∷ 0x70 ∷ []) ≡ 0x3A76
  pub module_int : reader_crc (0xCF ∷ 0xFF ∷ 0x00 ∷ 0x50 ∷ 0x00 ∷ []) ≡ 0x0726
  pub inventory : reader_crc (0xCF ∷ 0xFF ∷ 0x00 ∷ 0x01 ∷ 0x05 ∷ 0x00 ∷ 0x00 ∷ 0x00 ∷ 0x00 ∷ 0x00 ∷ []) ≡ 0xF5B5
  pub inventory_answer : reader_crc (0xCF ∷ 0x00 ∷ 0x00 ∷ 0x01 ∷ 0x12 ∷ 0x00 ∷ 0xFE ∷ 0x48 ∷ 0x01 ∷ 0x00 ∷ 0x0C
      ∷ 0xE2 ∷ 0x80 ∷ 0x6F ∷ 0x12 ∷ 0x00 ∷ 0x00 ∷ 0x00 ∷ 0x02 ∷ 0x21 ∷ 0x50 ∷ 0x60 ∷ 0x94 ∷ []) ≡ 0x7B78

-- "each table entry agrees with eight plain steps": of the byte alone, at the end where it enters; the second table has eight more
pub record Entries (b : ℕ) : Type 0 where
  pub high_near : get_or (near_table HighFirst) b 0 ≡ eight HighFirst 0x1021 (b * 2 ^ 8)
  pub high_far : get_or (far_table HighFirst) b 0 ≡ eight HighFirst 0x1021 (eight HighFirst 0x1021 (b * 2 ^ 8))
  pub low_near : get_or (near_table LowFirst) b 0 ≡ eight LowFirst 0x8408 b
  pub low_far : get_or (far_table LowFirst) b 0 ≡ eight LowFirst 0x8408 (eight LowFirst 0x8408 b)

-- "a table of 256 words"
pub record Tables : Type 0 where
  pub near_words : (direction : Direction) → length (near_table direction) ≡ 256
  pub far_words : (direction : Direction) → length (far_table direction) ≡ 256
  pub entries : (b : ℕ) → b < 256 → Entries b

-- "The shared law is stated once over the polynomial and direction"; then with the tables that the code holds, for their polynomials
pub record SameNumber (register : ℕ) (bytes : List ℕ) : Type 0 where
  pub shared : (direction : Direction) (polynomial : ℕ) → polynomial < 2 ^ 16
      → table_crc direction (table_of direction polynomial 8) (table_of direction polynomial 16) register bytes ≡ crc direction polynomial register bytes
  pub high : table_crc HighFirst (near_table HighFirst) (far_table HighFirst) register bytes ≡ crc HighFirst 0x1021 register bytes
  pub low : table_crc LowFirst (near_table LowFirst) (far_table LowFirst) register bytes ≡ crc LowFirst 0x8408 register bytes

-- "Both engines give the same number on every byte list", from every register of sixteen bits
abbrev pub BothEngines : Type 0
BothEngines = (register : ℕ) (bytes : List ℕ) → register < 2 ^ 16 → ((i : ℕ) → get_or bytes i 0 < 2 ^ 8) → SameNumber register bytes
