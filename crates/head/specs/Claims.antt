-- The claims page of the sheet's head. Each statement is proved in proofs/Claimed.antt.
use Rattle.std.specs.Prelude.{ℕ, ◌+◌, ◌-◌, ◌/◌, ◌%◌, ◌≤◌, Bool, true, false, List, [], ◌∷◌, ◌++◌, ◌≡◌, length, drop, replicate}
use Rattle.frame.specs.Finding.{find}
use Rattle.frame.specs.Formats.{commands}
use Rattle.frame.specs.declared.finding.Found.TheVariants.{End, Drop, Wait, Accept}
use Rattle.frame.specs.declared.finding.Reason.{Reason}
use Rattle.head.specs.Commands.{commands_in, commands_text}
use Rattle.head.specs.Files.{tag_name, file_text, tag_lines}
use Rattle.head.specs.Head.{head_of}
use Rattle.text.specs.Digits.{decimal}
use Rattle.text.specs.Words.{ascii}

-- The finding rules alone say how many commands were taken: an accepted frame is one, a dropped byte is none, and the count ends where the rules do.
pub record ByTheRules (rest : List ℕ) : Type 0 where
  pub at_end : find commands rest ≡ End → commands_in rest ≡ 0
  pub waiting : find commands rest ≡ Wait → commands_in rest ≡ 0
  pub dropped : (r : Reason) → find commands rest ≡ Drop r → commands_in rest ≡ commands_in (drop 1 rest)
  pub accepted : (pl : ℕ) → find commands rest ≡ Accept pl → commands_in rest ≡ 1 + commands_in (drop (7 + pl) rest)

abbrev pub CommandsTaken : Type 0
CommandsTaken = (rest : List ℕ) → ByTheRules rest

-- ` command taken` for one, ` commands taken` for any other number, behind a comma and a space
abbrev pub OneCommand : Type 0
OneCommand = commands_text 1 ≡ ascii ", 1 command taken"

abbrev pub MoreCommands : Type 0
MoreCommands =
    (n : ℕ) → (n ≡ 1 → ⊥)
    → commands_text n ≡ ascii ", " ++ decimal n ++ ascii " commands taken"

-- `tag.img`, and of a crate `tag-00.img` and so on
abbrev pub OneName : Type 0
OneName = (i : ℕ) → tag_name false i ≡ ascii "tag.img"

abbrev pub CrateNames : Type 0
CrateNames = (i : ℕ) → tag_name true i ≡ ascii "tag-" ++ ((48 + i / 10) ∷ (48 + i % 10) ∷ []) ++ ascii ".img"

-- A name and a length that have room in twenty columns stand at the left and at the right of them, with spaces between; then comes the unit.
abbrev pub columns : List ℕ → ℕ → List ℕ
columns name size = name ++ replicate (20 - length name - length (decimal size)) 32 ++ decimal size

pub record FileLine (name : List ℕ) (size : ℕ) : Type 0 where
  pub one : size ≡ 1 → file_text name size ≡ columns name size ++ ascii " byte"
  pub more : (size ≡ 1 → ⊥) → file_text name size ≡ columns name size ++ ascii " bytes"

abbrev pub FileLines : Type 0
FileLines = (name : List ℕ) (size : ℕ) → length name + length (decimal size) ≤ 20 → FileLine name size

-- The head: the title, the commands, a line for each tag, a blank line, and the names of the columns.
abbrev pub HeadLines : Type 0
HeadLines =
    (is_crate : Bool) (input sizes : List ℕ)
    → head_of is_crate input sizes
    ≡ (ascii "POLDRISK FAILURE SHEET" ++ (10 ∷ []))
    ++ file_text (ascii "commands.bin") (length input)
    ++ commands_text (commands_in input)
    ++ (10 ∷ [])
    ++ tag_lines is_crate 0 sizes
    ++ ((10 ∷ []) ++ ascii "ITEM   BYTE         COMMAND                       RESULT                                MEANT FAULT" ++ (10 ∷ []))

-- a line for each, and none behind the last
pub record TagLinesFrom (is_crate : Bool) (i : ℕ) : Type 0 where
  pub none : tag_lines is_crate i [] ≡ []
  pub one_more : (size : ℕ) (sizes : List ℕ)
      → tag_lines is_crate i (size ∷ sizes) ≡ file_text (tag_name is_crate i) size ++ (10 ∷ []) ++ tag_lines is_crate (i + 1) sizes

abbrev pub TagLines : Type 0
TagLines = (is_crate : Bool) (i : ℕ) → TagLinesFrom is_crate i
