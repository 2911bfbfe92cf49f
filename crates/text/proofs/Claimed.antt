-- Every claim of specs/Claims.antt holds.
use mathlib.Core.Path.{refl}
use Rattle.text.proofs.CountLines as counts
use Rattle.text.proofs.Decimals as decimals
use Rattle.text.specs.Claims.{HexDigits, HexBytes, OneDigit, MoreDigits, CountsInOrder, RefusedNumber}
use Rattle.text.specs.Digits.{hex_byte}

pub hex_digits : HexDigits
hex_digits = decimals.hex_digits

pub hex_bytes : HexBytes
unfolding hex_byte
hex_bytes b = refl

pub one_digit : OneDigit
one_digit = decimals.one_digit

pub more_digits : MoreDigits
more_digits = decimals.more_digits

pub counts_in_order : CountsInOrder
counts_in_order = counts.counts_in_order

pub refused_number : RefusedNumber
refused_number = counts.refused_number
