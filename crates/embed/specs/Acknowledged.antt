-- One acknowledge call on the lent list and the packed state. "It makes no other test and touches nothing else."
use Rattle.std.specs.Prelude.{ℕ, ◌-◌, ◌*◌, not, List, eqb, length, set}
use Rattle.embed.specs.Packed.{held_in, records_fit}
use Rattle.failures.specs.Lists.{may_remove, moved_up, room_in}
use Rattle.frame.specs.Bytes.{pick}

-- what it leaves: the answer number, and all that was lent
pub record ListLeft : Type 0 where
  pub answer : ℕ
  pub records : List ℕ
  pub state : List ℕ

abbrev pub list_left_by : ℕ → List ℕ → List ℕ → ListLeft
list_left_by answer records state = record { answer = answer; records = records; state = state }

-- "An acknowledge call answers 16, removes the first n records, and the rest move up", three numbers for each; only the number held changes
unfoldable pub removed_in : List ℕ → List ℕ → ℕ → ListLeft
removed_in records state n =
    list_left_by 16 (moved_up records (3 * n) (3 * (held_in state - n))) (set state 12 (held_in state - n))

-- "n above the number held, or a number held above the room, is refused with 15"; before it, a state that does not have thirteen numbers with 20 and records
-- that have not three numbers each with 23, and under these nothing changes
unfoldable pub acknowledged_on : List ℕ → List ℕ → ℕ → ListLeft
acknowledged_on records state n =
    pick (not (eqb (length state) 13)) (list_left_by 20 records state)
    (pick (not (records_fit records)) (list_left_by 23 records state)
    (pick (may_remove (room_in records) (held_in state) n) (removed_in records state n) (list_left_by 15 records state)))
