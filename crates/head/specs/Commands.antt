-- How many commands the input holds, and the words for it.
use Rattle.std.specs.Prelude.{ℕ, zero, suc, ◌+◌, List, ◌++◌, eqb, length, drop}
use Rattle.frame.specs.Bytes.{pick}
use Rattle.frame.specs.Finding.{find}
use Rattle.frame.specs.Formats.{commands}
use Rattle.frame.specs.Frames.{frame_length}
use Rattle.frame.specs.declared.finding.Found.{Found}
use Rattle.frame.specs.declared.finding.Found.TheVariants.{End, Drop, Wait, Accept}
use Rattle.text.specs.Digits.{decimal}
use Rattle.text.specs.Words.{ascii}

-- The finding rules alone say how many commands the input holds: no tag has a part in it.
unfoldable pub taken_for : (List ℕ → ℕ) → List ℕ → Found → ℕ
taken_for more rest End = 0
taken_for more rest Wait = 0
taken_for more rest (Drop r) = more (drop 1 rest)
taken_for more rest (Accept pl) = 1 + more (drop (frame_length pl) rest)

unfoldable pub taken_by : ℕ → List ℕ → ℕ
taken_by zero rest = 0
taken_by (suc n) rest = taken_for (taken_by n) rest (find commands rest)

unfoldable pub commands_in : List ℕ → ℕ
commands_in input = taken_by (length input) input

unfoldable pub commands_text : ℕ → List ℕ
commands_text n = ascii ", " ++ decimal n ++ pick (eqb n 1) (ascii " command taken") (ascii " commands taken")
