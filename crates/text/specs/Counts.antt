-- The line of the counts and that of a refusal, as bytes. Document 01, the last part of "The sample tag and its frames".
use Rattle.std.specs.Prelude.{ℕ, List, [], ◌∷◌, ◌++◌}
use Rattle.reader.specs.declared.tally.Tally.{Tally}
use Rattle.text.specs.Digits.{decimal}

-- ---- the words, with the spaces round them

-- "GOOD "
unfoldable pub good_word : List ℕ
good_word = 71 ∷ 79 ∷ 79 ∷ 68 ∷ 32 ∷ []

-- " ERROR "
unfoldable pub error_word : List ℕ
error_word = 32 ∷ 69 ∷ 82 ∷ 82 ∷ 79 ∷ 82 ∷ 32 ∷ []

-- " DROPPED "
unfoldable pub dropped_word : List ℕ
dropped_word = 32 ∷ 68 ∷ 82 ∷ 79 ∷ 80 ∷ 80 ∷ 69 ∷ 68 ∷ 32 ∷ []

-- " "
unfoldable pub space_word : List ℕ
space_word = 32 ∷ []

-- " LEFT "
unfoldable pub left_word : List ℕ
left_word = 32 ∷ 76 ∷ 69 ∷ 70 ∷ 84 ∷ 32 ∷ []

-- "REFUSED "
unfoldable pub refused_word : List ℕ
refused_word = 82 ∷ 69 ∷ 70 ∷ 85 ∷ 83 ∷ 69 ∷ 68 ∷ 32 ∷ []

-- ---- the lines, each with its newline

-- `GOOD 1 ERROR 0 DROPPED 1 0 0 0 0 LEFT 0`: "GOOD, ERROR, DROPPED with the five numbers in order, LEFT"
unfoldable pub count_part : List ℕ → ℕ → List ℕ
count_part word n = word ++ decimal n

unfoldable pub two_counts : List ℕ → ℕ → List ℕ → ℕ → List ℕ
two_counts first m second n = count_part first m ++ count_part second n

unfoldable pub tally_part : Tally → List ℕ
tally_part t =
    ((two_counts good_word t.good error_word t.error ++ two_counts dropped_word t.header space_word t.kind)
    ++ two_counts space_word t.long space_word t.check)
    ++ count_part space_word t.end

unfoldable pub counts_line : Tally → ℕ → List ℕ
counts_line t left = (tally_part t ++ count_part left_word left) ++ (10 ∷ [])

-- `REFUSED 11`
unfoldable pub refused_line : ℕ → List ℕ
refused_line n = count_part refused_word n ++ (10 ∷ [])
