-- A full list of failures: what is refused before it stays refused, and what is not is refused by it.
use borrow.Author.Tests.{leb-true}
use lib.Dec.{leb}
use mathlib.Core.Bool.{Bool, true, false, true≢false}
use mathlib.Core.List.{List}
use Prim.Native.Nat.{ℕ, ◌≤◌, ◌<◌}
use lib.ListN.{length}
use mathlib.Core.Path.{◌≡◌, refl, ap, sym, ◌∙◌}
use native.Mathlib.Omega.{arith}
use Rattle.machine.proofs.Jobs.{tested}
use Rattle.machine.proofs.Steps.{tested_cases}
use Rattle.machine.specs.Machine.{State, Call, decide, carried_out, input_of, unchanged, step, is_refused, unless, step_unless}
use Rattle.machine.specs.declared.deciding.Job.{Job}
use Rattle.machine.specs.declared.deciding.Job.TheVariants.{Stay, DropByte, Select, Miss, Aim}
use Rattle.frame.proofs.Picks.{by_test, pick_true, pick_false}
use Rattle.frame.proofs.Tests.{either}
use Rattle.frame.specs.Bytes.{pick}
use Rattle.population.specs.Places.{good_population}
use Rattle.population.specs.Selections.{good_selection}
use Rattle.reader.specs.Outcomes.{number_of}
use Rattle.reader.specs.Tallies.{full}
use Rattle.reader.specs.declared.outcome.Outcome.{Outcome}
use Rattle.reader.specs.declared.outcome.Outcome.TheVariants.{FullList}

-- a list with room changes nothing
pub with_room : (list_full : Bool) (job : Job) → list_full ≡ false → unless list_full job ≡ job
unfolding unless
with_room list_full job e = rw (e, pick_false)

pub room_job : (list_full : Bool) (job decided : Job) → list_full ≡ false → job ≡ decided → job ≡ unless list_full decided
room_job list_full job decided e is = is ∙ sym (with_room list_full decided e)

-- 10 to 13 come first
pub refused_first : (list_full : Bool) (o : Outcome) (decided : Job) → leb 10 (number_of o) ≡ true → Stay o ≡ decided → Stay o ≡ unless list_full decided
unfolding unless is_refused pick
refused_first true o decided high is = ap (λ (b : Bool). pick b (Stay o) (Stay FullList)) (sym high) ∙ ap (λ (j : Job). pick (is_refused j) j (Stay FullList)) is
refused_first false o decided high is = is

module _ (input : List ℕ) (s : State) (h : s.reader.cursor ≤ length input) (c : good_selection s.selection ≡ true)
    (g : good_population s.memory s.tags s.places ≡ true) (o : 136 ≤ length s.output) (f : full s.reader.tally ≡ false) where
  not_refused : is_refused (decide input s) ≡ false
  unfolding is_refused number_of
  not_refused =
      ap is_refused (tested input s h c g o f)
      ∙ tested_cases input s (λ (j : Job). is_refused j ≡ false) record { not_past = h; selection_good = c; population_good = g; room = o; not_full = f }
      (λ none. refl) (λ none. refl) (λ n p e. refl) (λ none r found some. refl) (λ pl a code. refl) (λ pl a code none. refl) (λ pl a code n p e. refl)

  pub full_list : (list_full : Bool) → list_full ≡ true → Stay FullList ≡ unless list_full (decide input s)
  unfolding unless
  full_list list_full e = sym (rw (e, pick_true, not_refused, pick_false))

-- ---- the step

pub step_with_room : (c : Call) (s : State) → step_unless false c s ≡ step c s
unfolding step_unless step
step_with_room c s = ap (carried_out (input_of c) s) (with_room false (decide (input_of c) s) refl)

pub room_step : (list_full : Bool) (c : Call) (s : State) → list_full ≡ false → step_unless list_full c s ≡ step c s
room_step list_full c s e = ap (λ (b : Bool). step_unless b c s) e ∙ step_with_room c s

-- with the list full nothing is done, and the number is 10 or above
stays_put : (input : List ℕ) (s : State) (job : Job) → is_refused job ≡ true → (o : Outcome) × ((10 ≤ number_of o) × (carried_out input s job ≡ unchanged s o))
unfolding is_refused carried_out
stays_put input s (Stay o) h = (o, (leb-true 10 (number_of o) h, refl))
stays_put input s (DropByte r) h = absurd (true≢false (sym h))
stays_put input s (Select pl) h = absurd (true≢false (sym h))
stays_put input s (Miss e pl) h = absurd (true≢false (sym h))
stays_put input s (Aim a) h = absurd (true≢false (sym h))

pub full_stays : (c : Call) (s : State) → (o : Outcome) × ((10 ≤ number_of o) × (step_unless true c s ≡ unchanged s o))
unfolding step_unless unless carried_out number_of
full_stays c s =
    by_test (λ (j : Job). (o : Outcome) × ((10 ≤ number_of o) × (carried_out (input_of c) s (pick true j (decide (input_of c) s)) ≡ unchanged s o))) (is_refused (decide (input_of c) s))
    (λ h. let r = stays_put (input_of c) s (decide (input_of c) s) h in (r.0, (r.1.0, ap (carried_out (input_of c) s) (pick_true _ _) ∙ r.1.1)))
    (λ h. (FullList, (omega arith, ap (carried_out (input_of c) s) (pick_true _ _))))

-- whatever is not refused before is refused by a full list
refused_number : (input : List ℕ) (s : State) (job : Job) → is_refused job ≡ true → 10 ≤ number_of (carried_out input s job).outcome
unfolding is_refused carried_out unchanged
refused_number input s (Stay o) h = leb-true 10 (number_of o) h
refused_number input s (DropByte r) h = absurd (true≢false (sym h))
refused_number input s (Select pl) h = absurd (true≢false (sym h))
refused_number input s (Miss e pl) h = absurd (true≢false (sym h))
refused_number input s (Aim a) h = absurd (true≢false (sym h))

pub full_number : (c : Call) (s : State) → number_of (step c s).outcome < 10 → number_of (step_unless true c s).outcome ≡ 14
unfolding step step_unless unless carried_out unchanged number_of pick
full_number c s low =
    either (is_refused (decide (input_of c) s)) (λ h. absurd (omega (arith, low, refused_number (input_of c) s (decide (input_of c) s) h)))
    (λ h. ap (λ (b : Bool). number_of (carried_out (input_of c) s (pick b (decide (input_of c) s) (Stay FullList))).outcome) h)
