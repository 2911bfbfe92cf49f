-- What a call answers, and what it leaves where it answers no frame.
use Rattle.population.specs.declared.places.Place.{Place}
use Prim.Native.Nat.{ℕ, ◌+◌, ◌%◌}
use lib.Dec.{eqb, leb, ltb}
use lib.ListN.{length, drop}
use mathlib.Core.Bool.{Bool, true, false, not, ◌&&◌, or-false}
use mathlib.Core.List.{List, [], ◌∷◌}
use mathlib.Core.Logic.{◌≢◌}
use mathlib.Core.Path.{◌≡◌, refl, ap}
use native.Mathlib.Omega.{arith}
use Rattle.reader.proofs.Counts.{one_more}
use Rattle.reader.specs.Outcomes.{number_of, reason_of}
use Rattle.reader.specs.Readers.{reader_of}
use Rattle.reader.specs.declared.outcome.Outcome.{Outcome}
use Rattle.reader.specs.declared.outcome.Outcome.TheVariants.{Answered, AtEnd, Incomplete, Dropped, PastEnd, BadImage, ShortOutput, FullTally, FullList}
use Rattle.machine.proofs.Steps.{step_cases}
use Rattle.machine.specs.Claims.{AnswerNumbers, DropReasons, NothingChanges, DropTakesOneByte}
use Rattle.machine.specs.Machine.{State, state_of, Call, Step, code_at, aim_job, command_job, found_job, find_job, hand_out, waiting, decide, unchanged, dropped, told, selecting, missed, acted, aimed, carried_out, input_of, rest_of, step, is_refused, unless, step_unless}
use Rattle.machine.specs.Secrecy.{is_none}
use Rattle.machine.specs.declared.deciding.Job.{Job}
use Rattle.machine.specs.declared.deciding.Job.TheVariants.{Stay, Select}
use Rattle.frame.proofs.Finds.{find_reason}
use Rattle.frame.proofs.Picks.{pick_or, pick_false, by_test}
use Rattle.frame.specs.Bytes.{pick, first_of, byte, number, part}
use Rattle.frame.specs.Finding.{find}
use Rattle.frame.specs.Formats.{commands, pl_in, sum_right, last_right}
use Rattle.frame.specs.Frames.{sum, check_of, frame_length, longest_command, longest_answer}
use Rattle.frame.specs.declared.finding.Found.{Found}
use Rattle.frame.specs.declared.finding.Found.TheVariants.{End, Drop, Wait, Accept}
use Rattle.frame.specs.declared.finding.Reason.{Reason}
use Rattle.population.specs.Lowest.{lowest}
use Rattle.population.specs.Places.{good_population}
use Rattle.population.specs.Selections.{taken, good_selection}
use Rattle.std.specs.Prelude.{Option, None, Some}
use Rattle.reader.specs.Tallies.{any_at_limit, full, limit}
use Rattle.reader.specs.declared.tally.Tally.{Tally}

-- a Set Select is answered, taken or not
pub selecting_answers : (s : State) (p : List ℕ) (behind : ℕ) → (selecting s p behind).outcome ≡ Answered
unfolding selecting told
selecting_answers s p behind = by_test (λ (x : Step). x.outcome ≡ Answered) (taken p) (λ _. refl) (λ _. refl)

-- ---- the number of a job

module _ (input : List ℕ) (s : State) where
  abbrev pub number_for : Job → ℕ
  number_for job = number_of (carried_out input s job).outcome

  number_pick : (test : Bool) (x y : Job) → number_for (pick test x y) ≡ pick test (number_for x) (number_for y)
  unfolding pick
  number_pick true x y = refl
  number_pick false x y = refl

  pub number_hand_out : (cursor : ℕ) (else : Job) (low : Option (ℕ × Place)) → number_for (hand_out cursor else low) ≡ pick (not (is_none low)) 0 (number_for else)
  unfolding pick hand_out is_none carried_out aimed acted number_of
  number_hand_out cursor else None = refl
  number_hand_out cursor else (Some (n, p)) = refl

  number_aim : (cursor pl : ℕ) (low : Option (ℕ × Place)) → number_for (aim_job input cursor pl low) ≡ 0
  unfolding aim_job carried_out aimed acted missed told number_of
  number_aim cursor pl None = refl
  number_aim cursor pl (Some (n, p)) = refl

  number_select : (pl : ℕ) → number_for (Select pl) ≡ 0
  unfolding carried_out number_of
  number_select pl = ap number_of (selecting_answers s _ _)

-- and of what was found
unfoldable pub number_of_found : Found → ℕ
number_of_found End = 1
number_of_found Wait = 2
number_of_found (Drop r) = 3
number_of_found (Accept pl) = 0

found_pick : (test : Bool) (x y : Found) → number_of_found (pick test x y) ≡ pick test (number_of_found x) (number_of_found y)
unfolding pick
found_pick true x y = refl
found_pick false x y = refl

number_found : (input : List ℕ) (s : State) (f : Found)
    → number_for input s (found_job input s.memory s.tags s.places s.selection s.reader.cursor f) ≡ number_of_found f
unfolding number_of_found found_job command_job carried_out unchanged dropped number_of
number_found input s End = refl
number_found input s Wait = refl
number_found input s (Drop r) = refl
number_found input s (Accept pl) =
    by_test (λ (j : Job). number_for input s j ≡ 0) (eqb (code_at input s.reader.cursor) 0x0C) (λ _. number_select input s pl)
    (λ _. number_aim input s s.reader.cursor pl (lowest s.memory s.tags s.places s.selection 0))

-- and of what the finding rules come to
pub number_find : (input : List ℕ) (s : State)
    → number_for input s (find_job input s.memory s.tags s.places s.selection s.reader.cursor) ≡ number_of_found (find commands (drop s.reader.cursor input))
unfolding find_job
number_find input s = number_found input s (find commands (drop s.reader.cursor input))

pub answer_numbers : AnswerNumbers
unfolding first_of step decide waiting find_job number_of_found carried_out number_of unchanged full any_at_limit limit longest_answer find sum_right last_right check_of pl_in frame_length longest_command rest_of
answer_numbers c s = simp (number_pick, number_hand_out, number_found, found_pick, pick_or, or-false)

-- ---- the same with a full list behind 13

unless_pick : (list_full test : Bool) (x y : Job) → unless list_full (pick test x y) ≡ pick test (unless list_full x) (unless list_full y)
unfolding pick
unless_pick list_full true x y = refl
unless_pick list_full false x y = refl

-- 10 to 13 stay
same_either : (b : Bool) (x : Job) → pick b x x ≡ x
unfolding pick
same_either true x = refl
same_either false x = refl

unless_past : (list_full : Bool) → unless list_full (Stay PastEnd) ≡ Stay PastEnd
unfolding unless is_refused number_of pick
unless_past list_full = same_either list_full (Stay PastEnd)

unless_bad : (list_full : Bool) → unless list_full (Stay BadImage) ≡ Stay BadImage
unfolding unless is_refused number_of pick
unless_bad list_full = same_either list_full (Stay BadImage)

unless_short : (list_full : Bool) → unless list_full (Stay ShortOutput) ≡ Stay ShortOutput
unfolding unless is_refused number_of pick
unless_short list_full = same_either list_full (Stay ShortOutput)

unless_filled : (list_full : Bool) → unless list_full (Stay FullTally) ≡ Stay FullTally
unfolding unless is_refused number_of pick
unless_filled list_full = same_either list_full (Stay FullTally)

-- what comes behind the tests is no refusal
module _ (input : List ℕ) (s : State) where
  aim_goes_on : (cursor pl : ℕ) (low : Option (ℕ × Place)) → is_refused (aim_job input cursor pl low) ≡ false
  unfolding aim_job is_refused
  aim_goes_on cursor pl None = refl
  aim_goes_on cursor pl (Some (n, p)) = refl

  found_goes_on : (f : Found) → is_refused (found_job input s.memory s.tags s.places s.selection s.reader.cursor f) ≡ false
  unfolding found_job command_job is_refused number_of
  found_goes_on End = refl
  found_goes_on Wait = refl
  found_goes_on (Drop r) = refl
  found_goes_on (Accept pl) =
      by_test (λ (j : Job). is_refused j ≡ false) (eqb (code_at input s.reader.cursor) 0x0C) (λ _. refl)
      (λ _. aim_goes_on s.reader.cursor pl (lowest s.memory s.tags s.places s.selection 0))

  hand_goes_on : (low : Option (ℕ × Place))
      → is_refused (hand_out s.reader.cursor (find_job input s.memory s.tags s.places s.selection s.reader.cursor) low) ≡ false
  unfolding hand_out find_job is_refused
  hand_goes_on None = found_goes_on (find commands (drop s.reader.cursor input))
  hand_goes_on (Some (n, p)) = refl

  unless_hand_out : (list_full : Bool) (low : Option (ℕ × Place))
      → unless list_full (hand_out s.reader.cursor (find_job input s.memory s.tags s.places s.selection s.reader.cursor) low)
      ≡ pick list_full (Stay FullList) (hand_out s.reader.cursor (find_job input s.memory s.tags s.places s.selection s.reader.cursor) low)
  unfolding unless
  unless_hand_out list_full low = rw (hand_goes_on low, pick_false)

pub unless_numbers : (list_full : Bool) (c : Call) (s : State)
    → number_of (step_unless list_full c s).outcome
    ≡ first_of
    ((ltb (length (input_of c)) s.reader.cursor, 10)
    ∷ (not (good_selection s.selection), 11)
    ∷ (not (good_population s.memory s.tags s.places), 11)
    ∷ (ltb (length s.output) 136, 12)
    ∷ (eqb s.reader.tally.good 4294967295, 13)
    ∷ (eqb s.reader.tally.error 4294967295, 13)
    ∷ (eqb s.reader.tally.header 4294967295, 13)
    ∷ (eqb s.reader.tally.kind 4294967295, 13)
    ∷ (eqb s.reader.tally.long 4294967295, 13)
    ∷ (eqb s.reader.tally.check 4294967295, 13)
    ∷ (eqb s.reader.tally.end 4294967295, 13)
    ∷ (list_full, 14)
    ∷ (not (is_none (lowest s.memory s.tags s.places s.selection s.next)), 0)
    ∷ (eqb (length (rest_of c s)) 0, 1)
    ∷ (not (eqb (byte (rest_of c s) 0) 0xBB), 3)
    ∷ (leb 2 (length (rest_of c s)) && not (eqb (byte (rest_of c s) 1) 0x00), 3)
    ∷ (leb 5 (length (rest_of c s)) && ltb 80 (number (rest_of c s) 3), 3)
    ∷ (ltb (length (rest_of c s)) (7 + number (rest_of c s) 3), 2)
    ∷ (not (eqb (byte (rest_of c s) (5 + number (rest_of c s) 3)) (sum (part (rest_of c s) 1 (4 + number (rest_of c s) 3)) % 256)), 3)
    ∷ (not (eqb (byte (rest_of c s) (6 + number (rest_of c s) 3)) 0x7E), 3)
    ∷ [])
    0
unfolding first_of step_unless decide waiting number_of_found carried_out number_of unchanged full any_at_limit limit longest_answer find sum_right last_right check_of pl_in frame_length longest_command rest_of
unless_numbers list_full c s =
    simp (unless_pick, unless_past, unless_bad, unless_short, unless_filled, unless_hand_out, number_pick, number_hand_out, number_find, found_pick, pick_or, or-false)

-- the table of the reasons, as the claim has it
abbrev reason_by : List ℕ → ℕ
reason_by rest =
    first_of
    ((not (eqb (byte rest 0) 0xBB), 1)
    ∷ (leb 2 (length rest) && not (eqb (byte rest 1) 0x00), 2)
    ∷ (leb 5 (length rest) && ltb 80 (number rest 3), 3)
    ∷ (not (eqb (byte rest (5 + number rest 3)) (sum (part rest 1 (4 + number rest 3)) % 256)), 4)
    ∷ [])
    5

-- an answered step has no reason, and is neither refused nor a drop
no_reason : (o : Outcome) → number_of o ≢ 3 → reason_of o ≡ 0
unfolding number_of reason_of
no_reason Answered h = refl
no_reason AtEnd h = refl
no_reason Incomplete h = refl
no_reason (Dropped r) h = absurd (h refl)
no_reason PastEnd h = refl
no_reason BadImage h = refl
no_reason ShortOutput h = refl
no_reason FullTally h = refl
no_reason FullList h = refl

-- a property of every step that is answered needs none of the cases
module _ (c : Call) (s : State) (P : Step → Type 0) where
  pub three_cases : ((o : Outcome) → number_of o ≢ 0 → number_of o ≢ 3 → P (unchanged s o))
      → ((r : Reason) → full s.reader.tally ≡ false → find commands (rest_of c s) ≡ Drop r → P (dropped s r))
      → ((x : Step) → x.outcome ≡ Answered → P x)
      → P (step c s)
  unfolding aimed acted missed told
  three_cases stays drops answers =
      step_cases c s P stays (λ t n p e. answers _ refl) (λ t none r found some. drops r t.not_full found) (λ pl a code. answers _ (selecting_answers s _ _))
      (λ pl a code none. answers _ refl)
      (λ pl a code n p e. answers _ refl)

answered_number : (x : Step) → x.outcome ≡ Answered → number_of x.outcome ≡ 0
unfolding number_of
answered_number x e = ap number_of e

pub drop_reasons : DropReasons
unfolding unchanged dropped number_of reason_of sum_right check_of pl_in longest_command
drop_reasons c s = (
  λ other. no_reason (step c s).outcome other,
  λ three.
      three_cases c s
      (λ (x : Step). number_of x.outcome ≡ 3 → reason_of x.outcome ≡ reason_by (rest_of c s))
      (λ o m n h. absurd (n h))
      (λ r room found h. find_reason commands (rest_of c s) r found)
      (λ x e h. absurd (omega (arith, answered_number x e, h)))
      three,
)

pub nothing_changes : NothingChanges
unfolding unchanged dropped number_of
nothing_changes c s =
    three_cases c s (λ (x : Step). number_of x.outcome ≢ 0 → number_of x.outcome ≢ 3 → (x.next ≡ s) × (x.length ≡ 0))
    (λ o m n zero three. (refl, refl))
    (λ r room found zero three. absurd (three refl))
    (λ x e zero three. absurd (zero (answered_number x e)))

pub drop_takes_one_byte : DropTakesOneByte
unfolding unchanged dropped number_of reason_of
drop_takes_one_byte c s =
    three_cases c s
    (λ (x : Step).
    number_of x.outcome ≡ 3
    → (x.length ≡ 0)
    × (x.next
    ≡ state_of s.memory s.places s.tags s.selection s.output
    record {
      cursor = s.reader.cursor + 1;
      tally =
          record {
            good = s.reader.tally.good;
            error = s.reader.tally.error;
            header = s.reader.tally.header + pick (eqb (reason_of x.outcome) 1) 1 0;
            kind = s.reader.tally.kind + pick (eqb (reason_of x.outcome) 2) 1 0;
            long = s.reader.tally.long + pick (eqb (reason_of x.outcome) 3) 1 0;
            check = s.reader.tally.check + pick (eqb (reason_of x.outcome) 4) 1 0;
            end = s.reader.tally.end + pick (eqb (reason_of x.outcome) 5) 1 0;
          };
    }
    s.next))
    (λ o m n three. absurd (n three))
    (λ r room found three. (
      refl,
      ap (λ (t : Tally). state_of s.memory s.places s.tags s.selection s.output (reader_of (s.reader.cursor + 1) t) s.next)
          (one_more s.reader.tally room r),
    ))
    (λ x e three. absurd (omega (arith, answered_number x e, three)))
