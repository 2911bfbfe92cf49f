-- "Drops that follow one another, with no command between them, are one item, with their reasons summed." Any other failure is an item of its own.
use Rattle.std.specs.Prelude.{ℕ, ◌+◌, Bool, true, false, not, ◌&&◌, List, eqb, ltb}
use Rattle.frame.specs.Bytes.{pick, byte}
use Rattle.frame.specs.declared.finding.Reason.{Reason}
use Rattle.reader.specs.Tallies.{fresh_tally, with_dropped}
use Rattle.reader.specs.declared.outcome.Outcome.{Outcome}
use Rattle.reader.specs.declared.outcome.Outcome.TheVariants.{Answered, AtEnd, Incomplete, Dropped, PastEnd, BadImage, ShortOutput, FullTally, FullList}
use Rattle.reader.specs.declared.tally.Tally.{Tally}
use Rattle.rows.specs.declared.items.Item.{Item}
use Rattle.sheet.specs.declared.items.Failing.{Failing}
use Rattle.sheet.specs.declared.items.Failing.TheVariants.{Passed, Error, Drop}
use Rattle.sheet.specs.declared.items.Items.{Items}

abbrev pub item_of : ℕ → ℕ → ℕ → Tally → Item
item_of first last error drops = record { first = first; last = last; error = error; drops = drops }

abbrev pub items_of : ℕ → Item → Items
items_of count last = record { count = count; last = last }

abbrev pub no_items : Items
no_items = items_of 0 (item_of 0 0 0 fresh_tally)

-- what a call means for the items: "An error answer is one with code FF", and its byte stands behind the five in front
unfoldable pub failing : List ℕ → Outcome → Failing
failing output Answered = pick (eqb (byte output 2) 0xFF) (Error (byte output 5)) Passed
failing output (Dropped r) = Drop r
failing output AtEnd = Passed
failing output Incomplete = Passed
failing output PastEnd = Passed
failing output BadImage = Passed
failing output ShortOutput = Passed
failing output FullTally = Passed
failing output FullList = Passed

-- A drop takes one byte, and a command at least seven: so no command stands between two bytes that were dropped one behind the other.
unfoldable pub joins : Items → ℕ → Bool
joins items cursor = ltb 0 items.count && (eqb items.last.error 0 && eqb (items.last.last + 1) cursor)

unfoldable pub grown : Items → ℕ → Reason → Items
grown items cursor r =
    items_of items.count (item_of items.last.first cursor 0 (with_dropped r items.last.drops))

-- no run comes to the most that the number can hold
unfoldable pub one_more : ℕ → ℕ
one_more n = pick (eqb n 18446744073709551615) n (n + 1)

unfoldable pub items_after : Items → ℕ → Failing → Items
items_after items cursor Passed = items
items_after items cursor (Error e) = items_of (one_more items.count) (item_of cursor cursor e fresh_tally)
items_after items cursor (Drop r) =
    pick (joins items cursor) (grown items cursor r) (items_of (one_more items.count) (item_of cursor cursor 0 (with_dropped r fresh_tally)))

-- the last item is whole once another begins
unfoldable pub closes : Items → ℕ → Failing → Bool
closes items cursor Passed = false
closes items cursor (Error e) = true
closes items cursor (Drop r) = not (joins items cursor)
