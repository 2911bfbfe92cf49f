-- The tag's CRC by shifts: what its parts are promised to work.
use Rattle.std.specs.Prelude.{ℕ, ◌*◌, ◌/◌, ◌%◌}
use Rattle.std.specs.Int.Bits.{bit_xor}
use Rattle.crc.specs.Crc.{bit_steps}
use Rattle.crc.specs.declared.Direction.TheVariants.{HighFirst}

-- the terms x^12, x^5 and 1 of the polynomial, times s, in a register
abbrev pub spread : ℕ → ℕ
spread s = bit_xor (bit_xor (s % 16 * 4096) (s % 2048 * 32)) s

-- sixteen plain steps; these twice, each with two bytes more of a number of four; and four times, with eight
abbrev pub steps : ℕ → ℕ
steps register = bit_steps HighFirst 0x1021 16 register

abbrev pub four_steps : ℕ → ℕ → ℕ
four_steps register four = steps (bit_xor (steps (bit_xor register (four / 65536))) (four % 65536))

abbrev pub eight_steps : ℕ → ℕ → ℕ → ℕ
eight_steps register high low = four_steps (four_steps register high) low
