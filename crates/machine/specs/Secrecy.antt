-- Document 01, "For demand 3", read for a crate of tags as P5 has it.
use Rattle.std.specs.Prelude.{ℕ, ◌<◌, Bool, true, false, ◌&&◌, List, [], ◌∷◌, ◌++◌, ◌≡◌, eqb}
use Rattle.reader.specs.Outcomes.{number_of, reason_of}
use Rattle.effects.specs.Secrecy.{passwords_at, EqualElsewhere, Hidden, Command, none_carries}
use Rattle.machine.specs.Machine.{State, Call, Step, waiting, step, rest_of}
use Rattle.frame.specs.Bytes.{pick, byte, part}
use Rattle.frame.specs.Formats.{code_in, parameters_in}
use Rattle.population.specs.Claims.{Holds, place_of_tag, image_of}
use Rattle.std.specs.Prelude.{Option, None, Some}
use Rattle.population.specs.declared.places.Place.{Place}

unfoldable pub is_none : Option (ℕ × Place) → Bool
is_none None = true
is_none (Some (n, p)) = false

-- "A command is accepted if finding rule 7 accepts it and the call answers 0." A call that hands out a tag answers 0 before the finding rules: what stands
-- at the cursor then is not accepted.
unfoldable pub accepted_by : Call → State → List Command
accepted_by c s =
    pick (eqb (number_of (step c s).outcome) 0 && is_none (waiting s))
    (record { code = code_in (rest_of c s); parameters = parameters_in (rest_of c s) } ∷ [])
    []

unfoldable pub accepted : List Call → State → List Command
accepted [] s = []
accepted (c ∷ calls) s = accepted_by c s ++ accepted calls (step c s).next

-- "the two runs may differ in the password bytes of every tag that meets its premises": a and b are the images of one tag at the start, and the commands are
-- those accepted in the one run and in the other
pub record MayDiffer (a b : List ℕ) (first second : List Command) : Type 0 where
  pub differ_only : EqualElsewhere (passwords_at a) a b
  pub first_hidden : Hidden a
  pub second_hidden : Hidden b
  pub first_run : none_carries a b first ≡ true
  pub second_run : none_carries a b second ≡ true

-- what became of that tag: "these bytes stay as they were", and "the images stay equal elsewhere"
pub record PasswordsStay (a b x y : List ℕ) : Type 0 where
  pub first_kept : part x (passwords_at a) 8 ≡ part a (passwords_at a) 8
  pub second_kept : part y (passwords_at b) 8 ≡ part b (passwords_at b) 8
  pub same_elsewhere : EqualElsewhere (passwords_at a) x y

-- no byte of any tag
abbrev pub Outside : ℕ → List Place → ℕ → Type 0
Outside tags places k = (i : ℕ) → i < tags → Holds (place_of_tag places i) k → ⊥

-- One call in both runs, of the memories m and n at the start, where the tags that `differs` names may differ.
pub record SameCall (tags : ℕ) (places : List Place) (differs : ℕ → Bool) (m n : List ℕ) (x y : Step) : Type 0 where
  pub same_number : number_of x.outcome ≡ number_of y.outcome
  pub same_reason : reason_of x.outcome ≡ reason_of y.outcome
  pub same_length : x.length ≡ y.length
  pub same_output : x.next.output ≡ y.next.output
  pub same_reader : x.next.reader ≡ y.next.reader
  pub same_selection : x.next.selection ≡ y.next.selection
  pub same_next : x.next.next ≡ y.next.next
  pub differing : (i : ℕ) → i < tags → differs i ≡ true
      → PasswordsStay (image_of m (place_of_tag places i)) (image_of n (place_of_tag places i)) (image_of x.next.memory (place_of_tag places i))
      (image_of y.next.memory (place_of_tag places i))
  pub others : (i : ℕ) → i < tags → differs i ≡ false
      → image_of x.next.memory (place_of_tag places i) ≡ image_of y.next.memory (place_of_tag places i)
  pub outside : (k : ℕ) → Outside tags places k → byte x.next.memory k ≡ byte y.next.memory k

-- a relation between two runs, call by call
abbrev pub Throughout : (Step → Step → Type 0) → List Step → List Step → Type 0
Throughout R [] [] = Unit
Throughout R [] (y ∷ ys) = ⊥
Throughout R (x ∷ xs) [] = ⊥
Throughout R (x ∷ xs) (y ∷ ys) = R x y × Throughout R xs ys
