-- Document 01, "The commands", 0x22: "CRC-16 of PC and EPC (Gen2: polynomial 1021 hex, preset FFFF, complemented, high
-- byte first)". A register of sixteen bits takes the bytes in order. The polynomial and the direction are parameters:
-- HighFirst shifts the register up and takes each byte at its upper end, LowFirst the other way round.
use Rattle.std.specs.Prelude.{ℕ, zero, suc, ◌-◌, ◌*◌, ◌/◌, ◌%◌, Bool, true, false, List, [], ◌∷◌, eqb, leb}
use Rattle.std.specs.Int.Bits.{bit_xor}
use Rattle.crc.specs.declared.Direction.{Direction}
use Rattle.crc.specs.declared.Direction.TheVariants.{HighFirst, LowFirst}

-- the bit that leaves the register, and the register shifted by one
unfoldable pub leaving : Direction → ℕ → Bool
leaving HighFirst register = leb 0x8000 register
leaving LowFirst register = eqb (register % 2) 1

unfoldable pub shifted : Direction → ℕ → ℕ
shifted HighFirst register = register * 2 % 0x10000
shifted LowFirst register = register / 2

-- where the bit that left was 1, the polynomial is added
unfoldable pub added : Bool → ℕ → ℕ → ℕ
added true register polynomial = bit_xor register polynomial
added false register polynomial = register

unfoldable pub bit_step : Direction → ℕ → ℕ → ℕ
bit_step direction polynomial register = added (leaving direction register) (shifted direction register) polynomial

unfoldable pub bit_steps : Direction → ℕ → ℕ → ℕ → ℕ
bit_steps direction polynomial zero register = register
bit_steps direction polynomial (suc n) register = bit_steps direction polynomial n (bit_step direction polynomial register)

-- a byte enters, and eight bits are worked
unfoldable pub entered : Direction → ℕ → ℕ → ℕ
entered HighFirst register b = bit_xor register (b * 256)
entered LowFirst register b = bit_xor register b

unfoldable pub byte_step : Direction → ℕ → ℕ → ℕ → ℕ
byte_step direction polynomial register b = bit_steps direction polynomial 8 (entered direction register b)

unfoldable pub crc : Direction → ℕ → ℕ → List ℕ → ℕ
crc direction polynomial register [] = register
crc direction polynomial register (b ∷ bytes) = crc direction polynomial (byte_step direction polynomial register b) bytes

-- the tag's own: polynomial 1021 hex, preset FFFF, complemented
unfoldable pub tag_crc : List ℕ → ℕ
tag_crc bytes = 0xFFFF - crc HighFirst 0x1021 0xFFFF bytes

-- the one of source document 003, "CRC16 Calculation": polynomial 8408 hex, lowest bit first, preset FFFF, not complemented. On the wire its
-- high byte goes first: `crc_msb = value >> 0x08`, `return bytearray([crc_msb, crc_lsb])`.
unfoldable pub reader_crc : List ℕ → ℕ
reader_crc bytes = crc LowFirst 0x8408 0xFFFF bytes
