-- Numbers as text: a byte in two upper-case hex digits, and a number in decimal without leading zeros.
use Rattle.std.specs.Prelude.{ℕ, zero, suc, ◌+◌, ◌/◌, ◌%◌, List, [], ◌∷◌, ◌++◌, ltb}
use Rattle.frame.specs.Bytes.{pick}

-- 0 to 9, then A to F
unfoldable pub hex_digit : ℕ → ℕ
hex_digit n = pick (ltb n 10) (48 + n) (55 + n)

unfoldable pub hex_byte : ℕ → List ℕ
hex_byte b = hex_digit (b / 16) ∷ hex_digit (b % 16) ∷ []

-- how many digits n has; n tenths are enough to come below ten
unfoldable pub width_by : ℕ → ℕ → ℕ
width_by zero n = 1
width_by (suc tenths) n = pick (ltb n 10) 1 (1 + width_by tenths (n / 10))

unfoldable pub width : ℕ → ℕ
width n = width_by n n

-- the last w digits of n, most significant first
unfoldable pub digits : ℕ → ℕ → List ℕ
digits zero n = []
digits (suc w) n = digits w (n / 10) ++ ((48 + n % 10) ∷ [])

unfoldable pub decimal : ℕ → List ℕ
decimal n = digits (width n) n
