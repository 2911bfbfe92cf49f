-- The CRC worked from tables of 256 words, two bytes at a time. A table has for every byte what so many plain steps make of it,
-- where it enters an empty register: eight steps for the byte that stands last, sixteen for the one before it. By what law this is
-- the same number as the plain one stands on the claims page.
use Rattle.std.specs.Prelude.{ℕ, zero, suc, ◌*◌, ◌/◌, ◌%◌, List, [], ◌∷◌, get_or}
use Rattle.std.specs.Int.Bits.{bit_xor}
use Rattle.crc.specs.Crc.{bit_steps, entered}
use Rattle.crc.specs.declared.Direction.{Direction}
use Rattle.crc.specs.declared.Direction.TheVariants.{HighFirst, LowFirst}

-- the tag's polynomial, and the reflected one of source document 003
unfoldable pub polynomial_of : Direction → ℕ
polynomial_of HighFirst = 0x1021
polynomial_of LowFirst = 0x8408

-- n entries, from a byte on; a table has one for each byte
unfoldable pub entries : Direction → ℕ → ℕ → ℕ → ℕ → List ℕ
entries direction polynomial bits zero b = []
entries direction polynomial bits (suc n) b = bit_steps direction polynomial bits (entered direction 0 b) ∷ entries direction polynomial bits n (suc b)

unfoldable pub table_of : Direction → ℕ → ℕ → List ℕ
table_of direction polynomial bits = entries direction polynomial bits 256 0

-- the two that the code holds for a direction: of a step, and of two
unfoldable pub near_table : Direction → List ℕ
near_table direction = table_of direction (polynomial_of direction) 8

unfoldable pub far_table : Direction → List ℕ
far_table direction = table_of direction (polynomial_of direction) 16

-- eight bits leave the register together: with the byte that enters they are a place in the table, and the other eight move up
unfoldable pub place : Direction → ℕ → ℕ → ℕ
place HighFirst register b = bit_xor (register / 256) b
place LowFirst register b = bit_xor (register % 256) b

unfoldable pub moved : Direction → ℕ → ℕ
moved HighFirst register = register % 256 * 256
moved LowFirst register = register / 256

unfoldable pub table_step : Direction → List ℕ → ℕ → ℕ → ℕ
table_step direction near register b = bit_xor (get_or near (place direction register b) 0) (moved direction register)

-- two bytes: what moved up meets the second, and nothing of the register is left
unfoldable pub table_steps : Direction → List ℕ → List ℕ → ℕ → ℕ → ℕ → ℕ
table_steps direction near far register a b =
    bit_xor (get_or far (place direction register a) 0) (get_or near (place direction (moved direction register) b) 0)

unfoldable pub table_crc : Direction → List ℕ → List ℕ → ℕ → List ℕ → ℕ
table_crc direction near far register [] = register
table_crc direction near far register (b ∷ []) = table_step direction near register b
table_crc direction near far register (a ∷ b ∷ bytes) = table_crc direction near far (table_steps direction near far register a b) bytes
