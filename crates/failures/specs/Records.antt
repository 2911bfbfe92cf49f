-- P12: "keep a lent list of failure records: cursor before the call, command code .. or drop reason, error byte (.. 0 for a drop)".
use Rattle.std.specs.Prelude.{ℕ, List, [], ◌∷◌, eqb, leb, length, take, replicate}
use Rattle.machine.specs.Machine.{State, Step, code_at}
use Rattle.failures.specs.declared.record.Record.{Record}
use Rattle.frame.specs.Bytes.{pick, byte}
use Rattle.frame.specs.Finding.{reason_number}
use Rattle.reader.specs.declared.outcome.Outcome.{Outcome}
use Rattle.reader.specs.declared.outcome.Outcome.TheVariants.{Answered, AtEnd, Incomplete, Dropped, PastEnd, BadImage, ShortOutput, FullTally, FullList}

abbrev pub record_of : ℕ → ℕ → ℕ → Record
record_of cursor code error = record { cursor = cursor; code = code; error = error }

abbrev pub blank : Record
blank = record_of 0 0 0

-- The first `held` of the lent places are the list. A number held above the room stands for as many blank records, which are more than have room.
unfoldable pub records_in : List Record → ℕ → List Record
records_in slots held = pick (leb held (length slots)) (take held slots) (replicate held blank)

-- "Each error answer and each drop adds exactly one record": the code is that of the command at the cursor, the error byte stands behind the five bytes in front
-- of the answer's parameters
unfoldable pub failure_for : ℕ → ℕ → List ℕ → Outcome → List Record
failure_for cursor code output Answered = pick (eqb (byte output 2) 0xFF) (record_of cursor code (byte output 5) ∷ []) []
failure_for cursor code output (Dropped r) = record_of cursor (reason_number r) 0 ∷ []
failure_for cursor code output AtEnd = []
failure_for cursor code output Incomplete = []
failure_for cursor code output PastEnd = []
failure_for cursor code output BadImage = []
failure_for cursor code output ShortOutput = []
failure_for cursor code output FullTally = []
failure_for cursor code output FullList = []

-- of a step x from the state s
unfoldable pub failure_of : List ℕ → State → Step → List Record
failure_of input s x = failure_for s.reader.cursor (code_at input s.reader.cursor) x.next.output x.outcome
