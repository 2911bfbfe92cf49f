-- What a call answers where no test refuses it: 0 where a tag is still to hand out, and else by what the finding rules come to.
use Prim.Native.Nat.{ℕ, ◌≤◌}
use lib.Dec.{ltb}
use lib.ListN.{length, drop}
use mathlib.Core.Bool.{not}
use mathlib.Core.List.{List}
use mathlib.Core.Path.{◌≡◌, ap, ◌∙◌}
use native.Mathlib.Omega.{arith}
use Rattle.machine.proofs.Answering.{number_for, number_hand_out, number_of_found, number_find}
use Rattle.machine.specs.Machine.{State, call, waiting, decide, unchanged, carried_out, input_of, step}
use Rattle.machine.specs.Secrecy.{is_none}
use Rattle.machine.specs.declared.deciding.Job.{Job}
use Rattle.frame.proofs.Picks.{by_test, pick_true, pick_false}
use Rattle.frame.specs.Bytes.{pick}
use Rattle.frame.specs.Finding.{find}
use Rattle.frame.specs.Formats.{commands}
use Rattle.frame.specs.Frames.{longest_answer}
use Rattle.population.specs.Places.{good_population}
use Rattle.population.specs.Selections.{good_selection}
use Rattle.population.specs.Lowest.{no_tag, tag_at}
use Rattle.population.specs.declared.places.Place.{Place}
use Rattle.reader.specs.Outcomes.{number_of}
use Rattle.reader.specs.Tallies.{full}

module _ (input : List ℕ) (s : State) where
  abbrev found : ℕ
  found = number_of_found (find commands (drop s.reader.cursor input))

  abbrev Not_refused : Job → Type 0
  Not_refused job = number_for input s job ≤ 3 → number_for input s job ≡ pick (not (is_none (waiting s))) 0 found

  behind_the_tests : Not_refused (decide input s)
  unfolding decide carried_out unchanged number_of longest_answer
  behind_the_tests =
      by_test Not_refused (ltb (length input) s.reader.cursor) (λ _ few. absurd (omega arith)) λ _.
      by_test Not_refused (not (good_selection s.selection)) (λ _ few. absurd (omega arith)) λ _.
      by_test Not_refused (not (good_population s.memory s.tags s.places)) (λ _ few. absurd (omega arith)) λ _.
      by_test Not_refused (ltb (length s.output) 136) (λ _ few. absurd (omega arith)) λ _.
      by_test Not_refused (full s.reader.tally) (λ _ few. absurd (omega arith)) λ _ few.
      number_hand_out input s s.reader.cursor _ (waiting s)
      ∙ ap (pick (not (is_none (waiting s))) 0) (number_find input s)

  -- the same of the step
  not_refused : number_of (step (call input) s).outcome ≤ 3 → number_of (step (call input) s).outcome ≡ pick (not (is_none (waiting s))) 0 found
  unfolding step input_of
  not_refused few = behind_the_tests few

  pub by_found : waiting s ≡ no_tag → number_of (step (call input) s).outcome ≤ 3 → number_of (step (call input) s).outcome ≡ found
  unfolding is_none
  by_found none few = not_refused few ∙ simp (none, pick_false)

  pub by_waiting : (n : ℕ) (p : Place) → waiting s ≡ tag_at n p → number_of (step (call input) s).outcome ≤ 3 → number_of (step (call input) s).outcome ≡ 0
  unfolding is_none
  by_waiting n p some few = not_refused few ∙ simp (some, pick_true)
