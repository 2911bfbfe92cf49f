-- One step, by cases: nothing changes, a byte is dropped, a tag is handed out, or a command is answered, by the reader, with no tag, or by a tag.
use Prim.Native.Nat.{ℕ, ◌+◌, ◌≤◌}
use borrow.Author.Tests.{ltb-false, not-false, eqb-true, eqb-false}
use lib.Dec.{eqb, ltb}
use lib.ListN.{length, drop, length-drop}
use mathlib.Core.Bool.{true, false, not}
use mathlib.Core.List.{List, []}
use mathlib.Core.Logic.{◌≢◌}
use mathlib.Core.Path.{◌≡◌, refl}
use native.Mathlib.Omega.{arith}
use Rattle.reader.specs.Outcomes.{number_of}
use Rattle.reader.specs.declared.outcome.Outcome.{Outcome}
use Rattle.reader.specs.declared.outcome.Outcome.TheVariants.{AtEnd, Incomplete, PastEnd, BadImage, ShortOutput, FullTally}
use Rattle.machine.proofs.Lowests.{TheLowest, the_lowest}
use Rattle.machine.specs.Machine.{State, Call, Step, code_at, parameters_at, error_without, aim_job, command_job, found_job, find_job, hand_out, waiting, decide, unchanged, dropped, selecting, missed, aimed, carried_out, input_of, rest_of, step}
use Rattle.machine.specs.declared.deciding.Aimed.{Aimed}
use Rattle.machine.specs.declared.deciding.Job.{Job}
use Rattle.machine.specs.declared.deciding.Job.TheVariants.{Stay, DropByte, Select, Miss, Aim}
use Rattle.frame.proofs.Accepting.{Accepted}
use Rattle.frame.proofs.Finds.{find_cases}
use Rattle.frame.proofs.Picks.{by_test}
use Rattle.frame.specs.Bytes.{part}
use Rattle.frame.specs.Finding.{find}
use Rattle.frame.specs.Formats.{commands}
use Rattle.frame.specs.Frames.{frame_length, longest_answer}
use Rattle.frame.specs.declared.finding.Found.{Found}
use Rattle.frame.specs.declared.finding.Found.TheVariants.{Drop}
use Rattle.frame.specs.declared.finding.Reason.{Reason}
use Rattle.population.proofs.GoodPopulations.{population_facts}
use Rattle.population.specs.Lowest.{lowest, no_tag, tag_at}
use Rattle.population.specs.Places.{good_population}
use Rattle.population.specs.Selections.{good_selection}
use Rattle.std.specs.Prelude.{Option, None, Some}
use Rattle.population.specs.declared.places.Place.{Place}
use Rattle.reader.specs.Tallies.{full}
use Rattle.tag.specs.Commands.{parse}

-- no test 10 to 13 refuses the call
pub record Tested (input : List ℕ) (s : State) : Type 0 where
  pub not_past : s.reader.cursor ≤ length input
  pub selection_good : good_selection s.selection ≡ true
  pub population_good : good_population s.memory s.tags s.places ≡ true
  pub room : 136 ≤ length s.output
  pub not_full : full s.reader.tally ≡ false

-- the tag that an accepted command is for, and the two jobs for one tag: handing it out, and the command at the cursor
abbrev pub lowest_tag : State → Option (ℕ × Place)
lowest_tag s = lowest s.memory s.tags s.places s.selection 0

abbrev pub hand_out_at : State → ℕ → Place → Aimed
hand_out_at s n p = record { number = n; place = p; code = 0x22; first = 0; pl = 0; behind = s.reader.cursor }

abbrev pub command_at : List ℕ → State → ℕ → ℕ → Place → Aimed
command_at input s pl n p =
    record {
      number = n;
      place = p;
      code = code_at input s.reader.cursor;
      first = s.reader.cursor + 5;
      pl = pl;
      behind = s.reader.cursor + frame_length pl;
    }

abbrev pub error_at : List ℕ → State → ℕ → ℕ
error_at input s pl = error_without (parse (code_at input s.reader.cursor) (parameters_at input s.reader.cursor pl))

-- an accepted command, with no tag left to hand out
pub record Accepts (input : List ℕ) (s : State) (pl : ℕ) : Type 0 where
  pub tested : Tested input s
  pub none_waits : waiting s ≡ no_tag
  pub accepts : Accepted commands (drop s.reader.cursor input) pl

lowest_kinds : (P : Option (ℕ × Place) → Type 0) (r : Option (ℕ × Place)) → (r ≡ no_tag → P no_tag) → ((n : ℕ) (p : Place) → r ≡ tag_at n p → P (tag_at n p)) → P r
lowest_kinds P None none one = none refl
lowest_kinds P (Some (n, p)) none one = one n p refl

module _ (input : List ℕ) (s : State) (P : Job → Type 0) where
  abbrev rest : List ℕ
  rest = drop s.reader.cursor input

  -- every job of an accepted command
  command_cases : (pl : ℕ)
      → (code_at input s.reader.cursor ≡ 0x0C → P (Select pl))
      → (code_at input s.reader.cursor ≢ 0x0C → lowest_tag s ≡ no_tag → P (Miss (error_at input s pl) pl))
      → (code_at input s.reader.cursor ≢ 0x0C → (n : ℕ) (p : Place) → lowest_tag s ≡ tag_at n p → P (Aim (command_at input s pl n p)))
      → P (command_job input s.memory s.tags s.places s.selection s.reader.cursor pl)
  unfolding command_job aim_job
  command_cases pl selects misses aims =
      by_test P (eqb (code_at input s.reader.cursor) 0x0C) (λ e. selects (eqb-true _ _ e)) λ other.
      lowest_kinds (λ (r : Option (ℕ × Place)). P (aim_job input s.reader.cursor pl r)) (lowest_tag s) (misses (eqb-false _ _ other)) (aims (eqb-false _ _ other))

  -- every job where no test refuses
  pub tested_cases : Tested input s
      → (waiting s ≡ no_tag → P (Stay AtEnd))
      → (waiting s ≡ no_tag → P (Stay Incomplete))
      → ((n : ℕ) (p : Place) → waiting s ≡ tag_at n p → P (Aim (hand_out_at s n p)))
      → (waiting s ≡ no_tag → (r : Reason) → find commands rest ≡ Drop r → 1 ≤ length rest → P (DropByte r))
      → ((pl : ℕ) → Accepts input s pl → code_at input s.reader.cursor ≡ 0x0C → P (Select pl))
      → ((pl : ℕ) → Accepts input s pl → code_at input s.reader.cursor ≢ 0x0C → lowest_tag s ≡ no_tag → P (Miss (error_at input s pl) pl))
      → ((pl : ℕ) → Accepts input s pl → code_at input s.reader.cursor ≢ 0x0C → (n : ℕ) (p : Place) → lowest_tag s ≡ tag_at n p
      → P (Aim (command_at input s pl n p)))
      → P (hand_out s.reader.cursor (find_job input s.memory s.tags s.places s.selection s.reader.cursor) (waiting s))
  unfolding hand_out find_job found_job
  tested_cases t at_end incomplete hands drops selects misses aims =
      lowest_kinds
      (λ (r : Option (ℕ × Place)).
      P (hand_out s.reader.cursor (find_job input s.memory s.tags s.places s.selection s.reader.cursor) r))
      (waiting s)
      (λ none.
      find_cases commands rest (λ (f : Found). P (found_job input s.memory s.tags s.places s.selection s.reader.cursor f)) (at_end none)
      (drops none) (incomplete none)
      (λ pl a.
      let accepts : Accepts input s pl = record { tested = t; none_waits = none; accepts = a } in
      command_cases pl (selects pl accepts) (misses pl accepts) (aims pl accepts)))
      hands

  pub job_cases : ((o : Outcome) → number_of o ≢ 0 → number_of o ≢ 3 → P (Stay o))
      → (Tested input s → (n : ℕ) (p : Place) → waiting s ≡ tag_at n p → P (Aim (hand_out_at s n p)))
      → (Tested input s → waiting s ≡ no_tag → (r : Reason) → find commands rest ≡ Drop r → 1 ≤ length rest → P (DropByte r))
      → ((pl : ℕ) → Accepts input s pl → code_at input s.reader.cursor ≡ 0x0C → P (Select pl))
      → ((pl : ℕ) → Accepts input s pl → code_at input s.reader.cursor ≢ 0x0C → lowest_tag s ≡ no_tag → P (Miss (error_at input s pl) pl))
      → ((pl : ℕ) → Accepts input s pl → code_at input s.reader.cursor ≢ 0x0C → (n : ℕ) (p : Place) → lowest_tag s ≡ tag_at n p
      → P (Aim (command_at input s pl n p)))
      → P (decide input s)
  unfolding decide number_of longest_answer
  job_cases stays hands drops selects misses aims =
      by_test P (ltb (length input) s.reader.cursor) (λ h. stays PastEnd (omega arith) (omega arith)) λ past.
      by_test P (not (good_selection s.selection)) (λ h. stays BadImage (omega arith) (omega arith)) λ chosen.
      by_test P (not (good_population s.memory s.tags s.places)) (λ h. stays BadImage (omega arith) (omega arith)) λ placed.
      by_test P (ltb (length s.output) 136) (λ h. stays ShortOutput (omega arith) (omega arith)) λ short.
      by_test P (full s.reader.tally) (λ h. stays FullTally (omega arith) (omega arith)) λ not_full.
      let t : Tested input s =
      record {
        not_past = ltb-false (length input) s.reader.cursor past;
        selection_good = not-false (good_selection s.selection) chosen;
        population_good = not-false (good_population s.memory s.tags s.places) placed;
        room = ltb-false (length s.output) 136 short;
        not_full = not_full;
      }
      in
      tested_cases t (λ none. stays AtEnd (omega arith) (omega arith)) (λ none. stays Incomplete (omega arith) (omega arith)) (hands t) (drops t) selects misses aims

-- ---- what the tests have shown of the job

module _ (input : List ℕ) (s : State) where
  -- a tag that was found
  pub found_tag : Tested input s → (start n : ℕ) (p : Place) → lowest s.memory s.tags s.places s.selection start ≡ tag_at n p
      → TheLowest s.memory s.tags s.places s.selection start n p
  found_tag t start n p e =
      the_lowest s.memory s.tags s.places s.selection start (population_facts s.memory s.tags s.places t.population_good).few n p e

  pub frame_inside : (pl : ℕ) → Accepts input s pl → s.reader.cursor + (7 + pl) ≤ length input
  frame_inside pl a = omega (arith, a.accepts.fits, length-drop s.reader.cursor input, a.tested.not_past)

-- ---- the step

module _ (c : Call) (s : State) (P : Step → Type 0) where
  -- the parameters of a command at the cursor, and the cursor behind it
  abbrev given : ℕ → List ℕ
  given pl = parameters_at (input_of c) s.reader.cursor pl

  abbrev behind : ℕ → ℕ
  behind pl = s.reader.cursor + frame_length pl

  pub step_cases : ((o : Outcome) → number_of o ≢ 0 → number_of o ≢ 3 → P (unchanged s o))
      → (Tested (input_of c) s → (n : ℕ) (p : Place) → waiting s ≡ tag_at n p → P (aimed s (hand_out_at s n p) []))
      → (Tested (input_of c) s → waiting s ≡ no_tag → (r : Reason) → find commands (rest_of c s) ≡ Drop r → 1 ≤ length (rest_of c s) → P (dropped s r))
      → ((pl : ℕ) → Accepts (input_of c) s pl → code_at (input_of c) s.reader.cursor ≡ 0x0C → P (selecting s (given pl) (behind pl)))
      → ((pl : ℕ) → Accepts (input_of c) s pl → code_at (input_of c) s.reader.cursor ≢ 0x0C → lowest_tag s ≡ no_tag
      → P (missed s (error_at (input_of c) s pl) (behind pl)))
      → ((pl : ℕ) → Accepts (input_of c) s pl → code_at (input_of c) s.reader.cursor ≢ 0x0C → (n : ℕ) (p : Place) → lowest_tag s ≡ tag_at n p
      → P (aimed s (command_at (input_of c) s pl n p) (given pl)))
      → P (step c s)
  unfolding step carried_out rest_of parameters_at part
  step_cases stays hands drops selects misses aims =
      job_cases (input_of c) s (λ (j : Job). P (carried_out (input_of c) s j)) stays hands drops selects misses aims
