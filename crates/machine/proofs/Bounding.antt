-- The bound on calls: a call that takes something lowers the work that is left, and all but an accepted inventory lower bytes and tags left together.
use Prim.Native.Nat.{ℕ, zero, suc, ◌+◌, ◌-◌, ◌*◌, ◌≤◌, ◌<◌}
use borrow.Author.Tests.{ne_eqb, eqb-false}
use lib.Dec.{eqb}
use lib.ListN.{length, drop, replicate, length-drop}
use mathlib.Core.Bool.{true, false, ◌&&◌, ◌||◌, true≢false}
use mathlib.Core.List.{List, [], ◌∷◌, ◌++◌}
use mathlib.Core.Logic.{◌⊎◌, inl, inr, ⊎_elim}
use mathlib.Core.Path.{◌≡◌, refl, ap, sym, subst, ◌∙◌}
use native.Mathlib.Omega.{arith}
use Rattle.reader.proofs.Counts.{total, one_answer_most, dropped_most}
use Rattle.reader.specs.Readers.{fresh_reader}
use Rattle.reader.specs.Outcomes.{number_of}
use Rattle.effects.specs.Secrecy.{Command}
use Rattle.reader.specs.declared.outcome.Outcome.{Outcome}
use Rattle.machine.proofs.Answering.{selecting_answers, nothing_changes}
use Rattle.machine.proofs.Jobs.{tested}
use Rattle.machine.proofs.Lowests.{lowest_good}
use Rattle.machine.proofs.Handing.{command_in, hands_out}
use Rattle.machine.proofs.Secrets.{code_there}
use Rattle.machine.proofs.Staying.{step_good}
use Rattle.machine.proofs.Steps.{Tested, Accepts, hand_out_at, command_at, found_tag, frame_inside, tested_cases, step_cases}
use Rattle.machine.specs.Claims.{count, takes, inventories, WorkFalls, Bound, answer_of}
use Rattle.machine.specs.Machine.{State, Call, call, Step, code_at, waiting, unchanged, dropped, told, selecting, missed, next_after, image_for, act_for, acted, aimed, carried_out, input_of, rest_of, step, tags_left, bytes_left, work, run, after, counted}
use Rattle.machine.specs.Secrecy.{is_none, accepted_by, accepted}
use Rattle.machine.specs.declared.deciding.Aimed.{Aimed}
use Rattle.machine.specs.declared.deciding.Job.{Job}
use Rattle.frame.proofs.FrameBytes.{length_frame, length_written}
use Rattle.frame.proofs.Picks.{pick_true, pick_false, by_test}
use Rattle.frame.proofs.Tests.{either, or_neither}
use Rattle.frame.specs.Bytes.{pick}
use Rattle.frame.specs.Formats.{code_in}
use Rattle.frame.specs.Frames.{sum, frame_of, frame_length, written}
use Rattle.image.specs.Image.{good}
use Rattle.frame.specs.declared.finding.Reason.{Reason}
use Rattle.population.proofs.GoodPopulations.{population_facts}
use Rattle.population.proofs.Selects.{lowest_cases}
use Rattle.population.specs.Lowest.{lowest, no_tag, tag_at}
use Rattle.population.specs.Places.{image_at, good_population}
use Rattle.population.specs.Selections.{taken, good_selection}
use Rattle.std.specs.Prelude.{Option}
use Rattle.population.specs.declared.places.Place.{Place}
use Rattle.reader.proofs.Tallies.{few_counts, raised_most}
use Rattle.reader.specs.Tallies.{counts_of, limit, full, with_good, with_error}
use Rattle.reader.specs.declared.state.Reader.{Reader}
use Rattle.reader.specs.declared.tally.Tally.{Tally}
use Rattle.tag.proofs.AnswerBytes.{answer_most}
use Rattle.tag.specs.Answers.{answer, is_error}
use Rattle.tag.specs.Commands.{act_of}
use Rattle.tag.specs.Errors.{Verdict}

-- no more tags are left than there are numbers from the next on
fewer_left : (u : State) → u.tags ≤ 16 → tags_left (waiting u) ≤ 16 - u.next
unfolding tags_left waiting
fewer_left u few =
    lowest_cases u.memory u.tags u.places u.selection u.next few (λ (r : Option (ℕ × Place)). tags_left r ≤ 16 - u.next) (λ none. omega arith)
    (λ n l m passes none. omega arith)

-- a command leaves none, but an inventory, which leaves 15 at most
next_least : (a : Aimed) (act : Verdict) → 1 ≤ next_after a act
unfolding next_after
next_least a act =
    by_test (λ (k : ℕ). 1 ≤ k) (is_error act) (λ _. omega arith)
    (λ _. by_test (λ (k : ℕ). 1 ≤ k) (eqb a.code 0x22) (λ _. omega arith) (λ _. omega arith))

next_other : (a : Aimed) (act : Verdict) → eqb a.code 0x22 ≡ false → next_after a act ≡ 16
unfolding next_after
next_other a act h = by_test (λ (k : ℕ). k ≡ 16) (is_error act) (λ _. refl) (λ _. simp (h, pick_false))

module _ (input : List ℕ) (s : State) where
  abbrev c : Call
  c = call input

  -- what a step that takes something leaves, and whether it was an inventory
  record Less (x : Step) (inventory : ℕ) : Type 0 where
    bytes_fall : bytes_left input x.next + 7 * inventory ≤ bytes_left input s
    tags_few : tags_left (waiting x.next) ≤ 15 * inventory + tags_left (waiting s)
    one_falls : bytes_left input x.next + tags_left (waiting x.next) + 1 ≤ bytes_left input s + tags_left (waiting s) + 15 * inventory

  -- as the accepted commands count it
  abbrev found : Step → ℕ
  found x =
      inventories
      (pick (eqb (number_of x.outcome) 0 && is_none (waiting s)) (command_in c s ∷ []) [])

  few_tags : Tested input s → s.tags ≤ 16
  few_tags t = (population_facts s.memory s.tags s.places t.population_good).few

  -- with no inventory, it is enough that one of the two falls
  less_none : (x : Step) → bytes_left input x.next ≤ bytes_left input s → tags_left (waiting x.next) ≤ tags_left (waiting s)
      → bytes_left input x.next + tags_left (waiting x.next) + 1 ≤ bytes_left input s + tags_left (waiting s) → Less x 0
  less_none x bytes tags one = record { bytes_fall = omega arith; tags_few = omega arith; one_falls = omega arith }

  hand_out_less : Tested input s → (n : ℕ) (p : Place) → waiting s ≡ tag_at n p → Less (aimed s (hand_out_at s n p) []) 0
  unfolding aimed acted bytes_left tags_left waiting
  hand_out_less t n p e =
      let x : Step = aimed s (hand_out_at s n p) [] in
      let tag = found_tag input s t s.next n p e in
      let few = few_tags t in
      let left : tags_left (waiting s) ≡ 16 - n = ap tags_left e in
      let fewer : tags_left (waiting x.next) ≤ 16 - x.next.next = fewer_left x.next few in
      let further : x.next.next ≡ n + 1 = (hands_out input s t n p e).behind_it in
      less_none x (omega arith) (omega arith) (omega (arith, tag.one_of))

  dropped_less : waiting s ≡ no_tag → (r : Reason) → 1 ≤ length (drop s.reader.cursor input) → Less (dropped s r) 0
  unfolding dropped bytes_left tags_left waiting
  dropped_less none r some =
      less_none (dropped s r) (omega arith) (omega arith) (omega (arith, length-drop s.reader.cursor input))

  -- a command that leaves no tag to hand out
  done_less : (x : Step) (pl : ℕ) → Accepts input s pl → x.next.tags ≡ s.tags → x.next.reader.cursor ≡ s.reader.cursor + frame_length pl
      → x.next.next ≡ 16 → Less x 0
  unfolding bytes_left frame_length
  done_less x pl a tags cursor next =
      let few : x.next.tags ≤ 16 = omega (arith, few_tags a.tested) in
      let none : tags_left (waiting x.next) ≤ 16 - x.next.next = fewer_left x.next few in
      less_none x (omega arith) (omega arith) (omega (arith, frame_inside input s pl a))

  selecting_less : (p : List ℕ) (pl : ℕ) → Accepts input s pl → Less (selecting s p (s.reader.cursor + frame_length pl)) 0
  unfolding selecting told
  selecting_less p pl a =
      by_test (λ (x : Step). Less x 0) (taken p) (λ _. done_less _ pl a refl refl refl) (λ _. done_less _ pl a refl refl refl)

  missed_less : (e pl : ℕ) → Accepts input s pl → Less (missed s e (s.reader.cursor + frame_length pl)) 0
  unfolding missed told
  missed_less e pl a = done_less _ pl a refl refl refl

  module _ (pl n : ℕ) (p : Place) (q : List ℕ) (a : Accepts input s pl) where
    abbrev x : Step
    x = aimed s (command_at input s pl n p) q

    other_less : eqb (code_at input s.reader.cursor) 0x22 ≡ false → Less x 0
    unfolding aimed acted
    other_less h = done_less x pl a refl refl (next_other (command_at input s pl n p) (act_for s (command_at input s pl n p) q) h)

    inventory_less : Less x 1
    unfolding aimed acted bytes_left frame_length
    inventory_less =
        let few : x.next.tags ≤ 16 = few_tags a.tested in
        let fewer : tags_left (waiting x.next) ≤ 16 - x.next.next = fewer_left x.next few in
        let further : 1 ≤ x.next.next = next_least (command_at input s pl n p) (act_for s (command_at input s pl n p) q) in
        let there = frame_inside input s pl a in
        record { bytes_fall = omega arith; tags_few = omega arith; one_falls = omega arith }

  -- ---- every step that takes something

  -- how many inventories were accepted is what the list of the accepted commands says
  abbrev Falls : Step → Type 0
  Falls x = takes x ≡ true → (k : ℕ) × (k ≤ 1) × (k ≤ found x) × Less x k

  none_found : (x : Step) → Less x 0 → Falls x
  none_found x l t = (0, omega arith, omega arith, l)

  aims_falls : (pl n : ℕ) (p : Place) (q : List ℕ) (a : Accepts input s pl) → Falls (aimed s (command_at input s pl n p) q)
  unfolding inventories number_of is_none aimed acted rest_of input_of
  aims_falls pl n p q a t =
      either (eqb (code_at input s.reader.cursor) 0x22)
      (λ h.
      let code : eqb (code_in (drop s.reader.cursor input)) 0x22 ≡ true = ap (λ (k : ℕ). eqb k 0x22) (sym (code_there input s.reader.cursor)) ∙ h in
      let one : found (aimed s (command_at input s pl n p) q) ≡ 1 = simp (a.none_waits, pick_true, code) in
      (1, omega arith, omega arith, inventory_less pl n p q a))
      (λ h. none_found _ (other_less pl n p q a h) t)

  falls : Falls (step c s)
  unfolding takes unchanged input_of rest_of
  falls =
      step_cases c s Falls (λ o m n t. absurd (true≢false (sym t ∙ simp (ne_eqb (number_of o) 0 m, ne_eqb (number_of o) 3 n))))
      (λ t n p e. none_found _ (hand_out_less t n p e))
      (λ t none r found some. none_found _ (dropped_less none r some))
      (λ pl a code. none_found _ (selecting_less _ pl a))
      (λ pl a code none. none_found _ (missed_less _ pl a))
      (λ pl a code n p e. aims_falls pl n p _ a)

pub work_falls : WorkFalls
unfolding work
work_falls input s t =
    let f = falls input s t in
    let l = f.3 in
    let x : Step = step (call input) s in
    let bytes : bytes_left input x.next + 7 * f.0 ≤ bytes_left input s = l.bytes_fall in
    let tags : tags_left (waiting x.next) ≤ 15 * f.0 + tags_left (waiting s) = l.tags_few in
    let one : bytes_left input x.next + tags_left (waiting x.next) + 1 ≤ bytes_left input s + tags_left (waiting s) + 15 * f.0 = l.one_falls in
    let most : f.0 ≤ 1 = f.1 in
    omega arith

-- ---- over a list of calls

-- bytes and tags left together
potential : List ℕ → State → ℕ
potential input s = bytes_left input s + tags_left (waiting s)

not_taken : (x : Step) → takes x ≡ false → (eqb (number_of x.outcome) 0 || eqb (number_of x.outcome) 3) ≡ false
unfolding takes
not_taken x t = t

step_potential : (input : List ℕ) (s : State)
    → pick (takes (step (call input) s)) 1 0 + potential input (step (call input) s).next
    ≤ potential input s + 15 * inventories (accepted_by (call input) s)
unfolding potential accepted_by
step_potential input s =
    let x : Step = step (call input) s in
    either (takes x)
    (λ t.
    let f = falls input s t in
    let k : ℕ = f.0 in
    let fewer : k ≤ inventories (accepted_by (call input) s) = f.2 in
    let one : bytes_left input x.next + tags_left (waiting x.next) + 1 ≤ bytes_left input s + tags_left (waiting s) + 15 * k = f.3.one_falls in
    simp (t, pick_true) (omega arith))
    (λ t.
    let neither = or_neither (eqb (number_of x.outcome) 0) (eqb (number_of x.outcome) 3) (not_taken x t) in
    let same : x.next ≡ s = (nothing_changes (call input) s (eqb-false _ _ neither.0) (eqb-false _ _ neither.1)).0 in
    let left : bytes_left input x.next + tags_left (waiting x.next) ≡ bytes_left input s + tags_left (waiting s) =
    ap (λ (u : State). bytes_left input u + tags_left (waiting u)) same
    in
    simp (t, pick_false) (omega arith))

inventories_append : (xs ys : List Command) → inventories (xs ++ ys) ≡ inventories xs + inventories ys
unfolding inventories
inventories_append [] ys = omega arith
inventories_append (m ∷ xs) ys = omega (arith, inventories_append xs ys)

run_potential : (input : List ℕ) (k : ℕ) (s : State)
    → count takes (run (replicate k (call input)) s) + potential input (after (replicate k (call input)) s)
    ≤ potential input s + 15 * inventories (accepted (replicate k (call input)) s)
unfolding run after accepted count inventories
run_potential input zero s = omega arith
run_potential input (suc k) s =
    let u : State = (step (call input) s).next in
    omega (
      arith,
      step_potential input s,
      run_potential input k u,
      inventories_append (accepted_by (call input) s) (accepted (replicate k (call input)) u),
    )

-- from a start with none to hand out, however many calls were made
pub few_takes : (input : List ℕ) (s : State) → s.reader ≡ fresh_reader → waiting s ≡ no_tag → (k : ℕ)
    → count takes (run (replicate k (call input)) s) ≤ length input + 15 * inventories (accepted (replicate k (call input)) s)
unfolding potential bytes_left tags_left
few_takes input s fresh none k =
    let cursor : s.reader.cursor ≡ 0 = ap (λ (r : Reader). r.cursor) fresh in
    let left : tags_left (waiting s) ≡ 0 = ap tags_left none in
    omega (arith, run_potential input k s)

-- ---- what holds of the state at every call

module _ (input : List ℕ) (most : ℕ) (small : most < limit) where
  record Fit (s : State) : Type 0 where
    not_past : s.reader.cursor ≤ length input
    selection_good : good_selection s.selection ≡ true
    population_good : good_population s.memory s.tags s.places ≡ true
    room : 136 ≤ length s.output
    few : total s.reader.tally + work input s ≤ most

  ready : (s : State) → Fit s → Tested input s
  unfolding total full
  ready s f =
      record {
        not_past = f.not_past;
        selection_good = f.selection_good;
        population_good = f.population_good;
        room = f.room;
        not_full = few_counts (counts_of s.reader.tally) most (omega (arith, f.few)) small;
      }

  -- what a step keeps
  record Keeps (s : State) (x : Step) : Type 0 where
    inside : x.next.reader.cursor ≤ length input
    roomy : 136 ≤ length x.next.output
    one_more : total x.next.reader.tally ≤ total s.reader.tally + 1

  framed_room : (frame output : List ℕ) → 136 ≤ length output → length frame ≤ 136 → 136 ≤ length (written frame output)
  framed_room frame output room short = omega (arith, length_written frame output (omega arith))

  aimed_keeps : (s : State) → Tested input s → (start : ℕ) (a : Aimed) (p : List ℕ)
      → lowest s.memory s.tags s.places s.selection start ≡ tag_at a.number a.place → a.behind ≤ length input → Keeps s (aimed s a p)
  unfolding aimed acted act_for image_for counted
  aimed_keeps s t start a p e there =
      let image : List ℕ = image_at s.memory a.place in
      let fine : good image ≡ true =
      lowest_good s.memory s.tags s.places s.selection start t.population_good _ _ (found_tag input s t start a.number a.place e)
      in
      record {
        inside = there;
        roomy = framed_room (answer image (act_of image a.code p)) s.output t.room (answer_most image p a.code fine);
        one_more = one_answer_most s.reader.tally (is_error (act_of image a.code p));
      }

  told_keeps : (s : State) → Tested input s → (code b : ℕ) (selection : List ℕ) (reader : Reader) → reader.cursor ≤ length input
      → total reader.tally ≤ total s.reader.tally + 1 → Keeps s (told s (frame_of 0x01 code (b ∷ [])) selection reader)
  unfolding told
  told_keeps s t code b selection reader there one =
      record {
        inside = there;
        roomy = framed_room (frame_of 0x01 code (b ∷ [])) s.output t.room (omega (arith, length_frame 0x01 code (b ∷ [])));
        one_more = one;
      }

  good_most : (t : Tally) → total (with_good t) ≤ total t + 1
  unfolding total sum
  good_most t = omega (arith, raised_most t.good)

  error_most : (t : Tally) → total (with_error t) ≤ total t + 1
  unfolding total sum
  error_most t = omega (arith, raised_most t.error)

  step_keeps : (s : State) → Tested input s → Keeps s (step (call input) s)
  unfolding unchanged dropped selecting missed waiting input_of rest_of frame_length
  step_keeps s t =
      step_cases (call input) s (Keeps s) (λ o m n. record { inside = t.not_past; roomy = t.room; one_more = omega arith })
      (λ _ n p e. aimed_keeps s t s.next (hand_out_at s n p) [] e t.not_past)
      (λ _ none r found some.
      record { inside = omega (arith, length-drop s.reader.cursor input); roomy = t.room; one_more = dropped_most s.reader.tally r })
      (λ pl a code.
      by_test (Keeps s) (taken _) (λ _. told_keeps s t 0x0C 0x00 _ _ (frame_inside input s pl a) (good_most s.reader.tally))
      (λ _. told_keeps s t 0xFF 0x17 _ _ (frame_inside input s pl a) (error_most s.reader.tally)))
      (λ pl a code none. told_keeps s t 0xFF _ _ _ (frame_inside input s pl a) (error_most s.reader.tally))
      (λ pl a code n p e. aimed_keeps s t 0 (command_at input s pl n p) _ e (frame_inside input s pl a))

  -- ---- a step ends the run, or takes something

  Ends : Step → Type 0
  Ends x = (number_of x.outcome ≡ 1) ⊎ (number_of x.outcome ≡ 2)

  ends_or_takes : (s : State) → Tested input s → Ends (step (call input) s) ⊎ (takes (step (call input) s) ≡ true)
  unfolding Ends takes step input_of carried_out unchanged dropped missed told aimed acted number_of
  ends_or_takes s t =
      subst (λ (j : Job). Ends (carried_out input s j) ⊎ (takes (carried_out input s j) ≡ true))
      (sym (tested input s t.not_past t.selection_good t.population_good t.room t.not_full))
      (tested_cases input s (λ (j : Job). Ends (carried_out input s j) ⊎ (takes (carried_out input s j) ≡ true)) t (λ _. inl (inl refl)) (λ _. inl (inr refl))
      (λ n p e. inr refl)
      (λ none r found some. inr refl)
      (λ pl a code. inr (ap (λ (o : Outcome). eqb (number_of o) 0 || eqb (number_of o) 3) (selecting_answers s _ _)))
      (λ pl a code none. inr refl)
      (λ pl a code n p e. inr refl))

  fit_after : (s : State) → Fit s → takes (step (call input) s) ≡ true → Fit (step (call input) s).next
  fit_after s f t =
      let keeps : Keeps s (step (call input) s) = step_keeps s (ready s f) in
      let still = step_good (call input) s in
      record {
        not_past = keeps.inside;
        selection_good = still.selection f.selection_good;
        population_good = still.population f.population_good;
        room = keeps.roomy;
        few = omega (arith, keeps.one_more, work_falls input s t, f.few);
      }

  Within : ℕ → State → Type 0
  Within m s =
      (k : ℕ)
      × (count takes (run (replicate k (call input)) s) ≡ k)
      × ((answer_of (call input) (after (replicate k (call input)) s) ≡ 1) ⊎ (answer_of (call input) (after (replicate k (call input)) s) ≡ 2))

  one_longer : (m : ℕ) (s : State) → takes (step (call input) s) ≡ true → Within m (step (call input) s).next → Within (suc m) s
  unfolding Within run after count pick
  one_longer m s t w = (suc w.0, rw t (omega (arith, w.1)), w.2)

  within : (m : ℕ) (s : State) → Fit s → work input s ≤ m → Within m s
  unfolding Within Ends run after count
  within zero s f h =
      ⊎_elim (λ ends. (0, refl, ends)) (λ t. absurd (omega (arith, work_falls input s t))) (ends_or_takes s (ready s f))
  within (suc m) s f h =
      ⊎_elim (λ ends. (0, refl, ends))
      (λ t. one_longer m s t (within m (step (call input) s).next (fit_after s f t) (omega (arith, work_falls input s t, h))))
      (ends_or_takes s (ready s f))

pub bound : Bound
unfolding Within limit work bytes_left tags_left total sum potential
bound input s small fresh chosen placed room none =
    let cursor : s.reader.cursor ≡ 0 = ap (λ (r : Reader). r.cursor) fresh in
    let counts : total s.reader.tally ≡ 0 = ap (λ (r : Reader). total r.tally) fresh in
    let left : tags_left (waiting s) ≡ 0 = ap tags_left none in
    let fit : Fit input 1000000 (omega arith) s =
    record { not_past = omega arith; selection_good = chosen; population_good = placed; room = room; few = omega arith }
    in
    let w = within input 1000000 (omega arith) (work input s) s fit (omega arith) in
    (w.0, omega (arith, run_potential input w.0 s, w.1), w.1, w.2)
