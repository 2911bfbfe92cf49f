-- The lent list of failures in its places: of n records acknowledged "the rest move up", and "what stands behind the records is left free".
use Rattle.std.specs.Prelude.{ℕ, ◌+◌, ◌-◌, ◌*◌, ◌/◌, Bool, ◌&&◌, List, [], ◌∷◌, ◌++◌, leb, ltb, length, take, drop, set}
use Rattle.failures.specs.Records.{record_of}
use Rattle.failures.specs.declared.record.Record.{Record}
use Rattle.frame.specs.Bytes.{pick}

-- "n above the number held, or a number held above the room, is refused"
abbrev pub may_remove : ℕ → ℕ → ℕ → Bool
may_remove room held n = leb n held && leb held room

-- how many are kept where the first n of `held` go; where that is refused none moves
unfoldable pub kept_of : ℕ → ℕ → ℕ → ℕ
kept_of room held n = pick (may_remove room held n) (held - n) 0

-- the m that stand from place n on stand at the start, and what stands behind them is as it was
unfoldable pub moved_up : {A : Type 0} → List A → ℕ → ℕ → List A
moved_up slots n m = take m (drop n slots) ++ drop m slots

-- ---- the list as C lends it, three numbers for each record

unfoldable pub slots_in : List ℕ → List Record
slots_in [] = []
slots_in (x ∷ []) = []
slots_in (x ∷ y ∷ []) = []
slots_in (cursor ∷ code ∷ error ∷ rest) = record_of cursor code error ∷ slots_in rest

abbrev pub room_in : List ℕ → ℕ
room_in numbers = length numbers / 3

-- with the three numbers of a record at its place; a place behind the room changes nothing
unfoldable pub numbers_with : List ℕ → ℕ → Record → List ℕ
numbers_with numbers at item =
    pick (ltb at (room_in numbers)) (set (set (set numbers (3 * at) item.cursor) (3 * at + 1) item.code) (3 * at + 2) item.error) numbers
