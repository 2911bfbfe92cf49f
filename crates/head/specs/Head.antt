-- The head of the sheet: each file with its length, how many commands were taken, and the names of the columns.
use Rattle.std.specs.Prelude.{ℕ, ◌≤◌, Bool, ◌&&◌, List, [], ◌∷◌, ◌++◌, ◌≡◌, leb, length}
use Rattle.std.proofs.lemmas.List.Edits.{sets}
use Rattle.frame.specs.Bytes.{pick}
use Rattle.head.specs.Commands.{commands_in, commands_text}
use Rattle.head.specs.Files.{file_text, tag_lines}
use Rattle.text.specs.Words.{ascii}

unfoldable pub title_line : List ℕ
title_line = ascii "POLDRISK FAILURE SHEET" ++ (10 ∷ [])

-- a blank line, and the names of the columns
unfoldable pub column_lines : List ℕ
column_lines =
    (10 ∷ []) ++ ascii "ITEM   BYTE         COMMAND                       RESULT                                MEANT FAULT" ++ (10 ∷ [])

unfoldable pub head_of : Bool → List ℕ → List ℕ → List ℕ
head_of is_crate input sizes =
    title_line ++ file_text (ascii "commands.bin") (length input) ++ commands_text (commands_in input) ++ (10 ∷ []) ++ tag_lines is_crate 0 sizes ++ column_lines

-- ---- into a buffer

-- no crate has more than sixteen tags, and no head of so many has more than 2,048 bytes
unfoldable pub has_room : List ℕ → List ℕ → Bool
has_room sizes buffer = leb (length sizes) 16 && leb 2048 (length buffer)

-- the head stands at the start, and the result is its length; where it has no room nothing is stored, and the result is 0
pub record Headed (is_crate : Bool) (input sizes before after : List ℕ) (result : ℕ) : Type 0 where
  pub bytes_are : after ≡ pick (has_room sizes before) (sets before 0 (head_of is_crate input sizes)) before
  pub result_is : result ≡ pick (has_room sizes before) (length (head_of is_crate input sizes)) 0
  pub within : result ≤ length before
