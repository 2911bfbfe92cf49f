-- What the tests have shown of a job, before it is done, and what comes of doing it.
use Prim.Native.Nat.{ℕ, ◌+◌, ◌≤◌}
use lib.ListN.{length, length-drop}
use mathlib.Core.Bool.{Bool}
use mathlib.Core.List.{List}
use mathlib.Core.Path.{◌≡◌, ap, sym, subst, ◌∙◌}
use native.Mathlib.Omega.{arith}
use Rattle.calls.specs.Calls.{Lent, lent_after, lent_by, Framed, Aimable, Doable}
use Rattle.frame.proofs.Picks.{by_test}
use Rattle.machine.proofs.Lowests.{lowest_inside, lowest_good}
use Rattle.machine.proofs.Steps.{Tested, Accepts, hand_out_at, command_at, job_cases, found_tag, frame_inside}
use Rattle.machine.specs.Machine.{State, call, Step, waiting, decide, carried_out, input_of, is_refused, unless, step_unless}
use Rattle.machine.specs.declared.deciding.Aimed.{Aimed}
use Rattle.machine.specs.declared.deciding.Job.{Job}
use Rattle.population.proofs.GoodPopulations.{population_facts}
use Rattle.population.specs.Lowest.{lowest, tag_at}

module _ (input : List ℕ) (s : State) where
  aimable : Tested input s → (start : ℕ) (a : Aimed) → lowest s.memory s.tags s.places s.selection start ≡ tag_at a.number a.place
      → a.first + a.pl ≤ length input → Aimable input s.memory s.output a
  aimable t start a e there =
      let tag = found_tag input s t start a.number a.place e in
      record {
        ready =
            record {
              there = lowest_inside s.memory s.tags s.places s.selection start t.population_good _ _ tag;
              image_good = lowest_good s.memory s.tags s.places s.selection start t.population_good _ _ tag;
              room = t.room;
            };
        parameters_there = there;
        numbered = omega (arith, tag.one_of, (population_facts s.memory s.tags s.places t.population_good).few);
      }

  framed : (pl : ℕ) → Accepts input s pl → Framed input s.output s.reader pl
  framed pl a = record { frame_there = frame_inside input s pl a; room = a.tested.room }

  pub doable : Doable input s.memory s.output s.reader (decide input s)
  unfolding waiting
  doable =
      job_cases input s (Doable input s.memory s.output s.reader) (λ o m n. tt)
      (λ t n p e. aimable t s.next (hand_out_at s n p) e (omega arith))
      (λ t none r found some. omega (arith, length-drop s.reader.cursor input))
      (λ pl a code. framed pl a)
      (λ pl a code none. framed pl a)
      (λ pl a code n p e. aimable a.tested 0 (command_at input s pl n p) e (omega (arith, frame_inside input s pl a)))

  unless_doable : (list_full : Bool) → Doable input s.memory s.output s.reader (unless list_full (decide input s))
  unfolding unless
  unless_doable list_full =
      by_test (Doable input s.memory s.output s.reader) list_full
      (λ _. by_test (Doable input s.memory s.output s.reader) (is_refused (decide input s)) (λ _. doable) (λ _. tt)) (λ _. doable)

  pub decided_doable : (list_full : Bool) (job : Job) → job ≡ unless list_full (decide input s) → Doable input s.memory s.output s.reader job
  decided_doable list_full job e = subst (Doable input s.memory s.output s.reader) (sym e) (unless_doable list_full)

  pub called : (list_full : Bool) (x : Step) (job : Job) → x ≡ carried_out input s job → job ≡ unless list_full (decide input s) → x ≡ step_unless list_full (call input) s
  unfolding step_unless input_of
  called list_full x job done e = done ∙ ap (carried_out input s) e

  pub lent_called : (list_full : Bool) (l x : Lent) (job : Job) → x ≡ lent_after input s.reader.cursor l job → job ≡ unless list_full (decide input s)
      → x ≡ lent_by list_full input s l
  unfolding lent_by
  lent_called list_full l x job done e = done ∙ ap (lent_after input s.reader.cursor l) e
