-- A row of the sheet has 99 columns and a newline. It begins blank, with its two boxes, and the text of each column is laid over it.
use Rattle.std.specs.Prelude.{ℕ, ◌-◌, List, [], ◌∷◌, ◌++◌, leb, length}
use Rattle.std.proofs.lemmas.List.Edits.{sets}
use Rattle.frame.specs.Bytes.{pick}
use Rattle.text.specs.Digits.{decimal}
use Rattle.text.specs.Laying.{spaces}
use Rattle.text.specs.Words.{ascii}

-- where the columns begin
abbrev pub byte_column : ℕ
byte_column = 7

abbrev pub command_column : ℕ
command_column = 20

abbrev pub result_column : ℕ
result_column = 50

-- a row with nothing in it but its boxes, and one without boxes
unfoldable pub boxed_row : List ℕ
boxed_row = spaces 88 ++ (ascii "  [ ]   [ ]" ++ (10 ∷ []))

unfoldable pub plain_row : List ℕ
plain_row = spaces 99 ++ (10 ∷ [])

-- the number of an item ends with the fourth column
unfoldable pub number_place : ℕ → ℕ
number_place n = 4 - length (decimal n)

unfoldable pub numbered : ℕ → List ℕ → List ℕ
numbered n row = sets row (number_place n) (decimal n)

-- Two reasons of dropped bytes stand in a row.
unfoldable pub blank_rows : ℕ → List ℕ
blank_rows reasons = pick (leb reasons 2) boxed_row (pick (leb reasons 4) (boxed_row ++ plain_row) (boxed_row ++ plain_row ++ plain_row))
