-- One command on the tag at one place of the memory: its image becomes what the command makes of it, and every other byte stays. A place
-- that leaves the memory is refused, and nothing changes.
use Rattle.std.specs.Prelude.{ℕ, List, ◌≡◌}
use Rattle.std.proofs.lemmas.List.Edits.{sets}
use Rattle.frame.specs.Bytes.{pick}
use Rattle.execution.specs.Execution.{image_after, output_after, result_of}
use Rattle.execution.specs.declared.execute.Executed.{Executed}
use Rattle.execution.specs.declared.execute.Executed.TheVariants.{Refused}
use Rattle.population.specs.Places.{inside, image_at}
use Rattle.population.specs.declared.places.Place.{Place}

-- the memory with another image at a place
unfoldable pub replaced : List ℕ → Place → List ℕ → List ℕ
replaced memory p image = sets memory p.from image

-- what `execute_at` promises of the memory and the output it was lent, those it leaves, and its result
pub record ExecutionAt (memory : List ℕ) (place : Place) (output : List ℕ) (code : ℕ) (p memory_left output_left : List ℕ) (result : Executed) : Type 0 where
  pub memory_is : memory_left ≡ pick (inside memory place) (replaced memory place (image_after (image_at memory place) output code p)) memory
  pub output_is : output_left ≡ pick (inside memory place) (output_after (image_at memory place) output code p) output
  pub result_is : result ≡ pick (inside memory place) (result_of (image_at memory place) output code p) Refused
