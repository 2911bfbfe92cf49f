-- Demand 3 for a crate: two runs on memories that are equal but for the hidden passwords of some tags, with no command accepted that carries one of these, are the
-- same call by call.
use Prim.Native.Nat.{ℕ, ◌+◌, ◌<◌}
use lib.Dec.{eqb}
use lib.ListN.{length, take, drop, get_or}
use lib.Seq.{get_or-drop, drop-drop}
use mathlib.Core.Bool.{Bool, true, false, true≢false}
use mathlib.Core.List.{List, [], ◌∷◌, ◌++◌}
use mathlib.Core.Logic.{inl, inr, ⊎_elim}
use mathlib.Core.Path.{◌≡◌, refl, ap, ap₂, sym, subst, ◌∙◌}
use Rattle.effects.proofs.Quiet.{Untold, untold}
use Rattle.effects.proofs.Secret.{none_append}
use Rattle.reader.specs.Outcomes.{number_of, reason_of}
use Rattle.reader.specs.Readers.{reader_of}
use Rattle.effects.specs.Secrecy.{passwords_at, Command, none_carries}
use Rattle.reader.specs.declared.outcome.Outcome.{Outcome}
use Rattle.reader.specs.declared.outcome.Outcome.TheVariants.{FullList}
use Rattle.machine.proofs.Choosing.{Blind, good_blind}
use Rattle.machine.proofs.Listing.{step_with_room}
use Rattle.machine.proofs.Hiding.{TagAlike, Both, Quiet, lowest_alike, acts, act_keeps}
use Rattle.machine.proofs.Steps.{Accepts, hand_out_at, command_at, found_tag, job_cases}
use Rattle.machine.specs.Claims.{Demand3}
use Rattle.machine.specs.Machine.{State, state_of, Call, call, Step, code_at, command_job, aim_job, found_job, find_job, hand_out, waiting, decide, unchanged, dropped, told, selecting, missed, next_after, image_for, act_for, acted, aimed, carried_out, input_of, rest_of, step, run, counted, is_refused, unless, step_unless}
use Rattle.machine.specs.Secrecy.{is_none, accepted_by, accepted, MayDiffer, PasswordsStay, SameCall, Throughout, Outside}
use Rattle.machine.specs.declared.deciding.Aimed.{Aimed}
use Rattle.machine.specs.declared.deciding.Job.{Job}
use Rattle.machine.specs.declared.deciding.Job.TheVariants.{Stay, DropByte, Select, Miss, Aim}
use Rattle.frame.proofs.Accepting.{Accepted}
use Rattle.frame.proofs.Picks.{by_test, pick_true, pick_false}
use Rattle.frame.proofs.Tests.{either, and_left}
use Rattle.frame.specs.Bytes.{pick, all, byte, part}
use Rattle.frame.specs.Finding.{find}
use Rattle.frame.specs.Formats.{commands, code_in, parameters_in}
use Rattle.frame.specs.Frames.{written}
use Rattle.frame.specs.declared.finding.Found.{Found}
use Rattle.frame.specs.declared.finding.Found.TheVariants.{End, Drop, Wait, Accept}
use Rattle.frame.specs.declared.finding.Reason.{Reason}
use Rattle.population.proofs.GoodPopulations.{population_facts, population_holds}
use Rattle.population.specs.Lowest.{lowest, no_tag}
use Rattle.population.specs.Places.{place_at, image_at, good_population}
use Rattle.population.specs.Selections.{taken, good_selection}
use Rattle.std.specs.Prelude.{Option}
use Rattle.population.specs.declared.places.Place.{Place}
use Rattle.reader.specs.declared.state.Reader.{Reader}
use Rattle.tag.specs.Errors.{Verdict}

-- an inventory carries no password
inventory_untold : (a : List ℕ) → Untold a record { code = 0x22; parameters = [] }
inventory_untold a = record { access = λ h four. absurd (true≢false (sym h)); kill = λ h four. absurd (true≢false (sym h)) }

-- the frame at the cursor, as the finding rules see it
module _ (input : List ℕ) (cursor : ℕ) where
  pub code_there : code_at input cursor ≡ code_in (drop cursor input)
  unfolding code_at code_in byte
  code_there = sym (get_or-drop cursor input 2 0)

  pub parameters_there : (pl : ℕ) → Accepted commands (drop cursor input) pl → part input (cursor + 5) pl ≡ parameters_in (drop cursor input)
  unfolding parameters_in part
  parameters_there pl a = ap₂ (λ (k : ℕ) (l : List ℕ). take k l) a.read (sym (drop-drop 5 cursor input))

-- ---- one step; a and b are the memories at the start

module _ (tags : ℕ) (places : List Place) (differs : ℕ → Bool) (a b : List ℕ) where
  -- the state with this crate
  abbrev pub state_in : List ℕ → List ℕ → List ℕ → Reader → ℕ → State
  state_in memory selection output reader next = state_of memory places tags selection output reader next

  -- a state is such a state
  abbrev pub Stays : State → Type 0
  Stays u = u ≡ state_in u.memory u.selection u.output u.reader u.next

  pub record Alike (x y : Step) : Type 0 where
    pub outcome : x.outcome ≡ y.outcome
    pub length : x.length ≡ y.length
    pub selection : x.next.selection ≡ y.next.selection
    pub output : x.next.output ≡ y.next.output
    pub reader : x.next.reader ≡ y.next.reader
    pub next : x.next.next ≡ y.next.next
    pub first_stays : Stays x.next
    pub second_stays : Stays y.next
    pub memories : Both tags places differs a b x.next.memory y.next.memory

  -- no command of a list carries a password of a tag that differs
  unfoldable pub QuietRun : List Command → Type 0
  QuietRun ms = (i : ℕ) → i < tags → differs i ≡ true → none_carries (image_at a (place_at places i)) (image_at b (place_at places i)) ms ≡ true

  module _ (m n selection output : List ℕ) (reader : Reader) (next : ℕ) (r : Both tags places differs a b m n) where
    abbrev s : State
    s = state_in m selection output reader next

    abbrev t : State
    t = state_in n selection output reader next

    unchanged_alike : (o : Outcome) → Alike (unchanged s o) (unchanged t o)
    unfolding unchanged
    unchanged_alike o =
        record { outcome = refl; length = refl; selection = refl; output = refl; reader = refl; next = refl; first_stays = refl; second_stays = refl; memories = r }

    dropped_alike : (why : Reason) → Alike (dropped s why) (dropped t why)
    unfolding dropped
    dropped_alike why =
        record { outcome = refl; length = refl; selection = refl; output = refl; reader = refl; next = refl; first_stays = refl; second_stays = refl; memories = r }

    told_alike : (frame chosen : List ℕ) (after : Reader) → Alike (told s frame chosen after) (told t frame chosen after)
    unfolding told
    told_alike frame chosen after =
        record { outcome = refl; length = refl; selection = refl; output = refl; reader = refl; next = refl; first_stays = refl; second_stays = refl; memories = r }

    selecting_alike : (p : List ℕ) (behind : ℕ) → Alike (selecting s p behind) (selecting t p behind)
    unfolding selecting
    selecting_alike p behind =
        either (taken p) (λ h. simp (h, pick_true) (told_alike _ _ _)) (λ h. simp (h, pick_false) (told_alike _ _ _))

    missed_alike : (e behind : ℕ) → Alike (missed s e behind) (missed t e behind)
    unfolding missed
    missed_alike e behind = told_alike _ _ _

    -- a command for tag i
    module _ (i : ℕ) (h : i < tags) (code first pl behind : ℕ) (p : List ℕ) (quiet : Quiet tags places differs a b code p) where
      abbrev g : Aimed
      g = record { number = i; place = place_at places i; code = code; first = first; pl = pl; behind = behind }

      aimed_alike : Alike (aimed s g p) (aimed t g p)
      unfolding aimed acted act_for image_for
      aimed_alike =
          let both = acts tags places differs a b m n r i h code p quiet in
          record {
            outcome = refl;
            length = ap (λ (l : List ℕ). lib.ListN.length l) both.frame;
            selection = refl;
            output = ap (λ (l : List ℕ). written l output) both.frame;
            reader = ap (λ (act : Verdict). reader_of behind (counted act reader.tally)) both.act;
            next = ap (next_after g) both.act;
            first_stays = refl;
            second_stays = refl;
            memories = act_keeps tags places differs a b m n r i h code p quiet;
          }

    aims_alike : (f : Place → Aimed) (p : List ℕ) (i : ℕ) (q : Place) → q ≡ place_at places i
        → Alike (aimed s (f (place_at places i)) p) (aimed t (f (place_at places i)) p) → Alike (aimed s (f q) p) (aimed t (f q) p)
    aims_alike f p i q here = subst (λ (k : Place). Alike (aimed s (f k) p) (aimed t (f k) p)) (sym here)

    -- ---- the same is decided of both

    module _ (input : List ℕ) (blind : Blind selection) where
      low : (start : ℕ) → lowest n tags places selection start ≡ lowest m tags places selection start
      low start = sym (lowest_alike tags places differs a b m n r selection blind start)

      same_found : (cursor : ℕ) (f : Found) → found_job input n tags places selection cursor f ≡ found_job input m tags places selection cursor f
      unfolding found_job command_job
      same_found cursor End = refl
      same_found cursor (Drop why) = refl
      same_found cursor Wait = refl
      same_found cursor (Accept pl) =
          ap (λ (l : Option (ℕ × Place)). pick (eqb (code_at input cursor) 0x0C) (Select pl) (aim_job input cursor pl l)) (low 0)

      same_turn : hand_out reader.cursor (find_job input n tags places selection reader.cursor) (lowest n tags places selection next)
          ≡ hand_out reader.cursor (find_job input m tags places selection reader.cursor) (lowest m tags places selection next)
      unfolding find_job
      same_turn = ap₂ (hand_out reader.cursor) (same_found reader.cursor (find commands (drop reader.cursor input))) (low next)

    same_job : (input : List ℕ) → decide input t ≡ decide input s
    unfolding decide waiting
    same_job input =
        let gm : good_population m tags places ≡ true = population_holds m tags places r.first in
        let gn : good_population n tags places ≡ true = population_holds n tags places r.second in
        either (good_selection selection)
        (λ chosen. simp (gm, gn, same_turn input (good_blind selection chosen)))
        (λ bad. simp (bad, pick_true))

    -- ---- and it comes to the same

    -- a command for a tag, at the cursor, is among those accepted
    accepts : (input : List ℕ) (g : Aimed) → decide input s ≡ Aim g → waiting s ≡ no_tag
        → accepted_by (call input) s ≡ record { code = code_in (drop reader.cursor input); parameters = parameters_in (drop reader.cursor input) } ∷ []
    unfolding accepted_by step carried_out aimed acted number_of is_none input_of rest_of
    accepts input g e none = simp (e, none, pick_true)

    quiet_command : (input : List ℕ) (pl i : ℕ) (q : Place) → Accepts input s pl → decide input s ≡ Aim (command_at input s pl i q)
        → QuietRun (accepted_by (call input) s)
        → Quiet tags places differs a b (code_at input reader.cursor) (part input (reader.cursor + 5) pl)
    unfolding QuietRun none_carries all
    quiet_command input pl i q ok e quiet j h d =
        let said : List Command = accepted_by (call input) s in
        let none : none_carries (image_at a (place_at places j)) (image_at b (place_at places j)) (record { code = code_in (drop reader.cursor input); parameters = parameters_in (drop reader.cursor input) } ∷ []) ≡ true =
        subst (λ (l : List Command). none_carries (image_at a (place_at places j)) (image_at b (place_at places j)) l ≡ true) (accepts input _ e ok.none_waits)
        (quiet j h d)
        in
        subst (λ (m : Command). Untold (image_at a (place_at places j)) m × Untold (image_at b (place_at places j)) m)
        (ap₂ (λ (k : ℕ) (l : List ℕ). record { code = k; parameters = l }) (sym (code_there input reader.cursor))
        (sym (parameters_there input reader.cursor pl ok.accepts)))
        (untold _ _ _ (and_left _ (all []) none))

    job_alike : (input : List ℕ) → QuietRun (accepted_by (call input) s)
        → Alike (carried_out input s (decide input s)) (carried_out input t (decide input s))
    unfolding carried_out waiting part
    job_alike input quiet =
        job_cases input s (λ (j : Job). decide input s ≡ j → Alike (carried_out input s j) (carried_out input t j))
        (λ o k l e. unchanged_alike o)
        (λ ok i q low e.
        let tag = found_tag input s ok next i q low in
        aims_alike (hand_out_at s i) [] i q tag.at_place
        (aimed_alike i tag.one_of 0x22 0 0 reader.cursor [] (λ j h d. (inventory_untold _, inventory_untold _))))
        (λ ok none why found some e. dropped_alike why)
        (λ pl ok code e. selecting_alike _ _)
        (λ pl ok code none e. missed_alike _ _)
        (λ pl ok code i q low e.
        let tag = found_tag input s ok.tested 0 i q low in
        aims_alike (command_at input s pl i) (part input (reader.cursor + 5) pl) i q tag.at_place
        (aimed_alike i tag.one_of _ _ pl _ (part input (reader.cursor + 5) pl) (quiet_command input pl i q ok e quiet)))
        refl

    step_alike : (c : Call) → QuietRun (accepted_by c s) → Alike (step c s) (step c t)
    unfolding step input_of
    step_alike (call input) quiet =
        subst (λ (j : Job). Alike (carried_out input s (decide input s)) (carried_out input t j)) (sym (same_job input)) (job_alike input quiet)

    -- a list of failures that is full is so in both
    stay_alike : (input : List ℕ) (job : Job) → is_refused job ≡ true → Alike (carried_out input s job) (carried_out input t job)
    unfolding is_refused carried_out
    stay_alike input (Stay o) h = unchanged_alike o
    stay_alike input (DropByte why) h = absurd (true≢false (sym h))
    stay_alike input (Select pl) h = absurd (true≢false (sym h))
    stay_alike input (Miss e pl) h = absurd (true≢false (sym h))
    stay_alike input (Aim g) h = absurd (true≢false (sym h))

    full_alike : (input : List ℕ) → Alike (carried_out input s (unless true (decide input s))) (carried_out input t (unless true (decide input s)))
    unfolding unless pick carried_out
    full_alike input =
        by_test (λ (j : Job). Alike (carried_out input s j) (carried_out input t j)) (is_refused (decide input s)) (λ h. stay_alike input (decide input s) h)
        (λ h. unchanged_alike FullList)

    pub unless_alike : (full : Bool) (c : Call) → QuietRun (pick full [] (accepted_by c s)) → Alike (step_unless full c s) (step_unless full c t)
    unfolding step_unless input_of pick
    unless_alike true (call input) quiet =
        subst (λ (j : Job). Alike (carried_out input s (unless true (decide input s))) (carried_out input t (unless true j))) (sym (same_job input)) (full_alike input)
    unless_alike false (call input) quiet =
        subst (λ (x : Step). Alike x (step_unless false (call input) t)) (sym (step_with_room (call input) s))
        (subst (λ (y : Step). Alike (step (call input) s) y) (sym (step_with_room (call input) t)) (step_alike (call input) quiet))

  -- ---- the run

  pub quiet_parts : (xs ys : List Command) → QuietRun (xs ++ ys) → QuietRun xs × QuietRun ys
  unfolding QuietRun
  quiet_parts xs ys quiet = (λ i h d. (none_append _ _ xs ys (quiet i h d)).0, λ i h d. (none_append _ _ xs ys (quiet i h d)).1)

  pub kept_tag : (x y : List ℕ) (i : ℕ) → differs i ≡ true → TagAlike tags places differs a b i x y
      → PasswordsStay (image_at a (place_at places i)) (image_at b (place_at places i)) x y
  kept_tag x y i d =
      ⊎_elim (λ e. absurd (true≢false (sym d ∙ e.0)))
      (λ e. record { first_kept = e.1.pair.first.bytes; second_kept = e.1.pair.second.bytes; same_elsewhere = e.1.pair.elsewhere })

  pub same_tag : (x y : List ℕ) (i : ℕ) → differs i ≡ false → TagAlike tags places differs a b i x y → x ≡ y
  same_tag x y i d = ⊎_elim (λ e. e.1) (λ e. absurd (true≢false (sym e.0 ∙ d)))

  same_call : (x y : Step) → Alike x y → SameCall tags places differs a b x y
  unfolding place_at image_at
  same_call x y l =
      record {
        same_number = ap number_of l.outcome;
        same_reason = ap reason_of l.outcome;
        same_length = l.length;
        same_output = l.output;
        same_reader = l.reader;
        same_selection = l.selection;
        same_next = l.next;
        differing = λ i h d. kept_tag _ _ i d (l.memories.related.each i h);
        others = λ i h d. same_tag _ _ i d (l.memories.related.each i h);
        outside = l.memories.related.outside;
      }

  same_runs : (calls : List Call) (m n selection output : List ℕ) (reader : Reader) (next : ℕ) → Both tags places differs a b m n
      → QuietRun (accepted calls (state_in m selection output reader next))
      → Throughout (SameCall tags places differs a b) (run calls (state_in m selection output reader next)) (run calls (state_in n selection output reader next))
  unfolding run accepted
  same_runs [] m n selection output reader next r quiet = tt
  same_runs (c ∷ calls) m n selection output reader next r quiet =
      let x : Step = step c (state_in m selection output reader next) in
      let y : Step = step c (state_in n selection output reader next) in
      let quiets = quiet_parts (accepted_by c (state_in m selection output reader next)) (accepted calls x.next) quiet in
      let l : Alike x y = step_alike m n selection output reader next r c quiets.0 in
      let rest = same_runs calls x.next.memory y.next.memory x.next.selection x.next.output x.next.reader x.next.next l.memories
      (subst (λ (u : State). QuietRun (accepted calls u)) l.first_stays quiets.1)
      in
      let other : state_in y.next.memory x.next.selection x.next.output x.next.reader x.next.next ≡ y.next =
      (λ i. state_in y.next.memory (l.selection i) (l.output i) (l.reader i) (l.next i)) ∙ sym l.second_stays
      in (
        same_call x y l,
        subst (λ (u : State). Throughout (SameCall tags places differs a b) (run calls u) (run calls y.next)) (sym l.first_stays)
            (subst
            (λ (u : State).
            Throughout (SameCall tags places differs a b)
            (run calls (state_in x.next.memory x.next.selection x.next.output x.next.reader x.next.next)) (run calls u))
            other rest),
      )

-- ---- the start

-- the two memories at the start, whatever commands are accepted
pub both_at_start : (s : State) (n : List ℕ) (differs : ℕ → Bool) (first-commands second-commands : List Command)
    → good_population s.memory s.tags s.places ≡ true → good_population n s.tags s.places ≡ true → length s.memory ≡ length n
    → ((i : ℕ) → i < s.tags → differs i ≡ true → MayDiffer (image_at s.memory (place_at s.places i)) (image_at n (place_at s.places i)) first-commands second-commands)
    → ((i : ℕ) → i < s.tags → differs i ≡ false → image_at s.memory (place_at s.places i) ≡ image_at n (place_at s.places i))
    → ((k : ℕ) → Outside s.tags s.places k → byte s.memory k ≡ byte n k)
    → Both s.tags s.places differs s.memory n s.memory n
unfolding place_at image_at passwords_at
both_at_start s n differs first-commands second-commands first_good second_good same_size differing others outside =
    let first = population_facts s.memory s.tags s.places first_good in
    let second = population_facts n s.tags s.places second_good in
    record {
      first = first;
      second = second;
      related =
          record {
            same_length = same_size;
            each = λ i h.
                either (differs i)
                (λ d.
                let may = differing i h d in
                inr (
                  d,
                  record {
                    first_hidden = may.first_hidden;
                    second_hidden = may.second_hidden;
                    pair =
                        record {
                          first = record { kept = record { image_good = first.images i h; place = refl; kill = refl; access = refl; locks = refl }; bytes = refl };
                          second = record { kept = record { image_good = second.images i h; place = refl; kill = refl; access = refl; locks = refl }; bytes = refl };
                          elsewhere = may.differ_only;
                        };
                  },
                ))
                (λ d. inl (d, others i h d));
            outside = outside;
          };
    }

pub demand3 : Demand3
unfolding QuietRun place_at image_at
demand3 s n differs calls pre =
    same_runs s.tags s.places differs s.memory n calls s.memory n s.selection s.output s.reader s.next
    (both_at_start s n differs _ _ pre.first_good pre.second_good pre.same_size pre.differing pre.others pre.outside)
    (λ i h d. (pre.differing i h d).first_run)
