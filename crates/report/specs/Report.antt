-- The report of document 01: the lines of the calls on one input, from any state of the machine, up to the call that ends it.
use Rattle.std.specs.Prelude.{ℕ, zero, suc, Bool, false, ◌||◌, List, [], ◌∷◌, ◌++◌, ltb, length, replicate, take, get_or, set, Result, Ok, Err}
use Rattle.machine.specs.Machine.{State, state_of, call, Step, step, work, after}
use Rattle.frame.specs.Bytes.{pick}
use Rattle.frame.specs.Frames.{sum}
use Rattle.population.specs.Places.{nowhere}
use Rattle.population.specs.declared.places.Place.{Place}
use Rattle.population.specs.declared.places.Population.{Population}
use Rattle.reader.specs.Readers.{fresh_reader}
use Rattle.report.specs.Lines.{too_long_line, unreadable_line, line_of, ends}
use Rattle.report.specs.declared.limits.Unfit.{Unfit}
use Rattle.report.specs.declared.limits.Unfit.TheVariants.{Unreadable, TooLong}

-- the steps of the calls up to the first that ends the report, or of as many calls as `most` says
unfoldable pub steps_by : ℕ → List ℕ → State → List Step
steps_by zero input s = []
steps_by (suc most) input s = step (call input) s ∷ pick (ends (step (call input) s).outcome) [] (steps_by most input (step (call input) s).next)

-- Every call after which the report goes on lowers the work that is left, so that as many calls, and one more, are enough.
unfoldable pub steps : List ℕ → State → List Step
steps input s = steps_by (suc (work input s)) input s

-- the line of each step, from the state that the one before left
unfoldable pub lines_of : List ℕ → State → List Step → List ℕ
lines_of input s [] = []
lines_of input s (x ∷ rest) = line_of input s x ++ lines_of input x.next rest

-- the report from a state on; of a report that is over no step is left to tell
unfoldable pub steps_from : List ℕ → Bool → State → List Step
steps_from input over s = pick over [] (steps input s)

unfoldable pub report_from : List ℕ → Bool → State → List ℕ
report_from input over s = lines_of input s (steps_from input over s)

-- the state that the last of them leaves
unfoldable pub last_state : List ℕ → Bool → State → State
last_state input over s = after (replicate (length (steps_from input over s)) (call input)) s

-- "The program reads commands.bin and tag.img, at most 32,768 and 2,048 bytes; a longer file gives only `TOO LONG`": so it is with each file of a crate's
-- tags, whose sizes are listed
unfoldable pub any_long : List ℕ → Bool
any_long [] = false
any_long (size ∷ sizes) = ltb 2048 size || any_long sizes

unfoldable pub too_long : ℕ → List ℕ → Bool
too_long commands sizes = ltb 32768 commands || any_long sizes

-- The tags lie one behind the other in one memory: tag i begins behind the files before its own. Of more than sixteen the first sixteen have a place.
unfoldable pub place_in : List ℕ → ℕ → Place
place_in sizes i = record { from = sum (take i sizes); size = get_or sizes i 0 }

unfoldable pub laid_out : List ℕ → ℕ → List Place
laid_out sizes zero = replicate 16 nowhere
laid_out sizes (suc n) = set (laid_out sizes n) n (place_in sizes n)

unfoldable pub places_of : List ℕ → List Place
places_of sizes = laid_out sizes (pick (ltb 16 (length sizes)) 16 (length sizes))

abbrev pub population_of : List ℕ → Population
population_of sizes = record { places = places_of sizes; tags = length sizes }

-- where the program begins: an empty selection, an output of 136 bytes, cursor 0, a fresh tally, and no tag to hand out
unfoldable pub fresh : List ℕ → List ℕ → State
fresh memory sizes = state_of memory (places_of sizes) (length sizes) [] (replicate 136 0) fresh_reader 16

unfoldable pub report_of : List ℕ → List ℕ → List ℕ → List ℕ
report_of commands memory sizes = pick (too_long (length commands) sizes) too_long_line (report_from commands false (fresh memory sizes))

-- ---- what the program prints

-- how its files stand before a run. Document 01 counts a file that can't be opened as empty, and says nothing of one that opens and
-- can't be read to its end: that one is told first, whatever its length and those of the others.
unfoldable pub files_of : Bool → ℕ → List ℕ → Result (Unit {0}) Unfit
files_of readable commands sizes = pick readable (pick (too_long commands sizes) (Err TooLong) (Ok tt)) (Err Unreadable)

-- the only line where they are not run
unfoldable pub notice_of : Result (Unit {0}) Unfit → List ℕ
notice_of (Err Unreadable) = unreadable_line
notice_of (Err TooLong) = too_long_line
notice_of (Ok _) = []

unfoldable pub printed : Bool → List ℕ → List ℕ → List ℕ → List ℕ
printed readable commands memory sizes = pick readable (report_of commands memory sizes) unreadable_line
