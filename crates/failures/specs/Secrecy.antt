-- Demand 3 with the list of failures: which commands a run accepts, and one call in both runs.
use Rattle.std.specs.Prelude.{ℕ, ◌<◌, Bool, true, false, List, [], ◌∷◌, ◌++◌, ◌≡◌}
use Rattle.machine.specs.Machine as Inner
use Rattle.machine.specs.Secrecy.{PasswordsStay, Outside, accepted_by as bench_accepted}
use Rattle.effects.specs.Secrecy.{Command}
use Rattle.failures.specs.Machine.{State, Call, call, acknowledge, Step, is_full, step}
use Rattle.frame.specs.Bytes.{pick, byte}
use Rattle.population.specs.Claims.{place_of_tag, image_of}
use Rattle.population.specs.declared.places.Place.{Place}

-- with the list full no command is accepted, and an acknowledge call looks at none
unfoldable pub accepted_by : Call → State → List Command
accepted_by (call input) s = pick (is_full s) [] (bench_accepted (Inner.call input) s.bench)
accepted_by (acknowledge n) s = []

unfoldable pub accepted : List Call → State → List Command
accepted [] s = []
accepted (c ∷ calls) s = accepted_by c s ++ accepted calls (step c s).next

-- One call in both runs, of the memories m and n at the start, where the tags that `differs` names may differ: "the same answer number and length", "the same output
-- bytes, cursor and counts", the same selection and tags to hand out, and the same list
pub record SameCall (tags : ℕ) (places : List Place) (differs : ℕ → Bool) (m n : List ℕ) (x y : Step) : Type 0 where
  pub same_number : x.number ≡ y.number
  pub same_reason : x.reason ≡ y.reason
  pub same_length : x.length ≡ y.length
  pub same_output : x.next.bench.output ≡ y.next.bench.output
  pub same_reader : x.next.bench.reader ≡ y.next.bench.reader
  pub same_selection : x.next.bench.selection ≡ y.next.bench.selection
  pub same_next : x.next.bench.next ≡ y.next.bench.next
  pub same_room : x.next.room ≡ y.next.room
  pub same_records : x.next.records ≡ y.next.records
  pub differing : (i : ℕ) → i < tags → differs i ≡ true
      → PasswordsStay (image_of m (place_of_tag places i)) (image_of n (place_of_tag places i)) (image_of x.next.bench.memory (place_of_tag places i))
      (image_of y.next.bench.memory (place_of_tag places i))
  pub others : (i : ℕ) → i < tags → differs i ≡ false
      → image_of x.next.bench.memory (place_of_tag places i) ≡ image_of y.next.bench.memory (place_of_tag places i)
  pub outside : (k : ℕ) → Outside tags places k → byte x.next.bench.memory k ≡ byte y.next.bench.memory k

-- a relation between two runs, call by call
abbrev pub Throughout : (Step → Step → Type 0) → List Step → List Step → Type 0
Throughout R [] [] = Unit
Throughout R [] (y ∷ ys) = ⊥
Throughout R (x ∷ xs) [] = ⊥
Throughout R (x ∷ xs) (y ∷ ys) = R x y × Throughout R xs ys
