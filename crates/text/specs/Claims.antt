-- The claims page of numbers and counts as text. Each statement is proved in proofs/Claimed.antt.
use Rattle.std.specs.Prelude.{ℕ, ◌+◌, ◌/◌, ◌%◌, ◌≤◌, ◌<◌, [], ◌∷◌, ◌++◌, map, ◌≡◌}
use Rattle.reader.specs.declared.tally.Tally.{Tally}
use Rattle.text.specs.Counts.{counts_line, refused_line}
use Rattle.text.specs.Digits.{hex_digit, hex_byte, decimal}

-- The digits of a byte are `0` to `9` and `A` to `F`, the one of sixteens first.
abbrev pub HexDigits : Type 0
HexDigits =
    map hex_digit (0 ∷ 1 ∷ 2 ∷ 3 ∷ 4 ∷ 5 ∷ 6 ∷ 7 ∷ 8 ∷ 9 ∷ 10 ∷ 11 ∷ 12 ∷ 13 ∷ 14 ∷ 15 ∷ [])
    ≡ 48 ∷ 49 ∷ 50 ∷ 51 ∷ 52 ∷ 53 ∷ 54 ∷ 55 ∷ 56 ∷ 57 ∷ 65 ∷ 66 ∷ 67 ∷ 68 ∷ 69 ∷ 70 ∷ []

abbrev pub HexBytes : Type 0
HexBytes = (b : ℕ) → hex_byte b ≡ hex_digit (b / 16) ∷ hex_digit (b % 16) ∷ []

-- A number below ten is its digit; any other is the digits of its tenth, and its last digit: so no number begins with a zero but 0 itself.
abbrev pub OneDigit : Type 0
OneDigit = (n : ℕ) → n < 10 → decimal n ≡ (48 + n) ∷ []

abbrev pub MoreDigits : Type 0
MoreDigits = (n : ℕ) → 10 ≤ n → decimal n ≡ decimal (n / 10) ++ ((48 + n % 10) ∷ [])

-- "GOOD, ERROR, DROPPED with the five numbers in order, LEFT": `GOOD `, ` ERROR `, ` DROPPED `, a space before each further reason, ` LEFT ` and the
-- newline
abbrev pub CountsInOrder : Type 0
CountsInOrder =
    (t : Tally) (left : ℕ)
    → counts_line t left
    ≡ ((71 ∷ 79 ∷ 79 ∷ 68 ∷ 32 ∷ []) ++ decimal t.good)
    ++ (((32 ∷ 69 ∷ 82 ∷ 82 ∷ 79 ∷ 82 ∷ 32 ∷ []) ++ decimal t.error)
    ++ (((32 ∷ 68 ∷ 82 ∷ 79 ∷ 80 ∷ 80 ∷ 69 ∷ 68 ∷ 32 ∷ []) ++ decimal t.header)
    ++ (((32 ∷ []) ++ decimal t.kind)
    ++ (((32 ∷ []) ++ decimal t.long)
    ++ (((32 ∷ []) ++ decimal t.check)
    ++ (((32 ∷ []) ++ decimal t.end)
    ++ (((32 ∷ 76 ∷ 69 ∷ 70 ∷ 84 ∷ 32 ∷ []) ++ decimal left)
    ++ (10 ∷ []))))))))

-- "`REFUSED` and the number"
abbrev pub RefusedNumber : Type 0
RefusedNumber = (n : ℕ) → refused_line n ≡ ((82 ∷ 69 ∷ 70 ∷ 85 ∷ 83 ∷ 69 ∷ 68 ∷ 32 ∷ []) ++ decimal n) ++ (10 ∷ [])
