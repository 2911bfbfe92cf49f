-- What printing a report leaves. No contract can say what standard output took; the result does. The memory is that of the whole run where
-- it is true, and else that after some of the run's calls. Files that are not run leave the memory as it is.
use Rattle.std.specs.Prelude.{ℕ, ◌≤◌, Bool, true, false, List, [], ◌≢◌, ◌≡◌, length, replicate, Result, Ok}
use Rattle.machine.specs.Machine.{State, state_of, call, after}
use Rattle.population.specs.declared.places.Population.{Population}
use Rattle.reader.specs.Readers.{fresh_reader}
use Rattle.report.specs.Report.{steps_from, last_state, fresh, files_of, notice_of}
use Rattle.report.specs.Writing.{Told}
use Rattle.report.specs.declared.limits.Unfit.{Unfit}

-- a run from the state s that leaves the memory `left`
pub record RunFrom (commands : List ℕ) (s : State) (left : List ℕ) (whole : Bool) : Type 0 where
  pub all_calls : whole ≡ true → left ≡ (last_state commands false s).memory
  pub some_calls : (k : ℕ) × (k ≤ length (steps_from commands false s)) × (left ≡ (after (replicate k (call commands)) s).memory)

-- with an empty selection, a fresh tally and no tag to hand out
abbrev pub begun : List ℕ → Population → List ℕ → State
begun memory population output = state_of memory population.places population.tags [] output fresh_reader 16

abbrev pub RanFrom : List ℕ → List ℕ → Population → List ℕ → List ℕ → Bool → Type 0
RanFrom commands memory population output left whole = RunFrom commands (begun memory population output) left whole

-- The line of files that are not run stands at the start of the buffer, where it has room; where files are run, or it has none, nothing is stored.
pub record Noticed (files : Result (Unit {0}) Unfit) (before after : List ℕ) : Type 0 where
  pub used : ℕ
  pub told : Told (notice_of files) before after used

pub record Ran (readable : Bool) (commands memory sizes left : List ℕ) (whole : Bool) : Type 0 where
  pub not_run : files_of readable (length commands) sizes ≢ Ok tt → left ≡ memory
  pub run : files_of readable (length commands) sizes ≡ Ok tt → RunFrom commands (fresh memory sizes) left whole
