-- Handing out: the lowest tag from the next number on, and over a list of calls each of them once, in rising number.
use Rattle.std.specs.Prelude.{Ok}
use Rattle.population.proofs.Firsts.{same_tags}
use Prim.Native.Nat.{ℕ, zero, suc, ◌+◌, ◌-◌, ◌≤◌, ◌<◌}
use borrow.Author.Tests.{ne_eqb, eqb-true, eqb-false}
use lib.Dec.{eqb}
use lib.ListN.{length, take, drop}
use mathlib.Core.Bool.{Bool, true, ◌&&◌}
use mathlib.Core.List.{List, [], ◌∷◌, ◌++◌, append_assoc}
use mathlib.Core.Path.{◌≡◌, refl, ap, ap₂, sym, subst, ◌∙◌}
use native.Mathlib.Omega.{arith}
use Rattle.reader.specs.Outcomes.{number_of}
use Rattle.effects.specs.Secrecy.{Command}
use Rattle.reader.specs.declared.outcome.Outcome.{Outcome}
use Rattle.reader.specs.declared.outcome.Outcome.TheVariants.{Answered}
use Rattle.machine.proofs.Answering.{selecting_answers}
use Rattle.machine.proofs.Lowests.{TheLowest, lowest_inside}
use Rattle.machine.proofs.Secrets.{code_there}
use Rattle.machine.proofs.Staying.{replaced_same, present_notifies, selected_present, hand_out_notifies, hand_out_stores_nothing, step_good}
use Rattle.machine.proofs.Steps.{Tested, found_tag, hand_out_at, command_at, step_cases}
use Rattle.machine.specs.Claims.{HandsOut, HandOut, passing, is_candidate, candidates, number_in, handed_by, handed, ExactlyOnce, InventoryStarts}
use Rattle.machine.specs.Machine.{State, Call, Step, parameters_at, waiting, unchanged, dropped, told, missed, next_after, image_for, act_for, acted, aimed, input_of, rest_of, step, after, counted}
use Rattle.machine.specs.declared.deciding.Aimed.{Aimed}
use Rattle.machine.specs.Secrecy.{is_none, accepted_by, accepted}
use Rattle.frame.proofs.FrameBytes.{take_written, drop_written}
use Rattle.frame.proofs.Picks.{pick_true, pick_false}
use Rattle.frame.proofs.Tests.{either}
use Rattle.frame.specs.Bytes.{pick, byte, part}
use Rattle.frame.specs.Formats.{code_in, pl_in, parameters_in}
use Rattle.population.proofs.Claimed.{lowest_tag}
use Rattle.population.proofs.Firsts.{NonePasses}
use Rattle.population.proofs.GoodPopulations.{population_facts}
use Rattle.population.specs.Executing.{replaced}
use Rattle.population.specs.Lowest.{selected_image, selected, selected_at, no_tag, tag_at}
use Rattle.population.specs.Places.{place_at, inside, image_at, good_population}
use Rattle.population.specs.declared.places.Place.{Place}
use Rattle.reader.proofs.Tallies.{not_full, raised_below}
use Rattle.tag.specs.Answers.{answer, changed, is_error}
use Rattle.tag.specs.Claims.{outcome}
use Rattle.tag.specs.Commands.{act_of}
use Rattle.tag.specs.Errors.{Verdict}
use Rattle.tag.specs.declared.commands.Act.TheVariants.{Notify}

-- ---- one hand-out

module _ (input : List ℕ) (s : State) (t : Tested input s) (n : ℕ) (p : Place) (e : waiting s ≡ tag_at n p) where
  tag : TheLowest s.memory s.tags s.places s.selection s.next n p
  unfolding waiting
  tag = found_tag input s t s.next n p e

  pub hands_out : HandsOut s n p (aimed s (hand_out_at s n p) [])
  unfolding aimed acted act_for image_for counted next_after is_error waiting outcome image_at
  hands_out =
      let notifies : act_for s (hand_out_at s n p) [] ≡ Ok Notify = hand_out_notifies input s t n p tag in
      record {
        lowest_from_next = ((lowest_tag s.memory s.tags s.places s.selection s.next t.population_good).0 n p).0 e;
        notification = take_written (answer (image_at s.memory p) (act_for s (hand_out_at s n p) [])) s.output;
        behind_stays = drop_written (answer (image_at s.memory p) (act_for s (hand_out_at s n p) [])) s.output;
        memory_stays = hand_out_stores_nothing input s t n p tag;
        selection_stays = refl;
        cursor_stays = refl;
        good_raised = simp (notifies, pick_false, raised_below s.reader.tally.good (not_full s.reader.tally t.not_full 0 (omega arith)));
        behind_it = simp (notifies, pick_true, pick_false);
      }

-- a tag that waits is handed out, and nothing else happens
module _ (s : State) where
  two_tags : (n k : ℕ) (p q : Place) → waiting s ≡ tag_at n p → waiting s ≡ tag_at k q → (n ≡ k) × (p ≡ q)
  two_tags n k p q e f = same_tags n k p q (sym e ∙ f)

  none_or_one : (n : ℕ) (p : Place) → waiting s ≡ no_tag → waiting s ≡ tag_at n p → ⊥
  none_or_one n p e f = let same : no_tag ≡ tag_at n p = sym e ∙ f in let z : ◌≡◌ {A = ℕ} 0 1 = cc in omega arith

pub hand_out : HandOut
unfolding unchanged dropped number_of
hand_out c s n p e =
    step_cases c s (λ (x : Step). number_of x.outcome ≡ 0 → HandsOut s n p x) (λ o m k h. absurd (m h))
    (λ t k q f h.
    let same = two_tags s k n q p f e in
    subst (λ (r : Place). HandsOut s n r (aimed s (hand_out_at s k q) [])) same.1
    (subst (λ (i : ℕ). HandsOut s i q (aimed s (hand_out_at s k q) [])) same.0 (hands_out (input_of c) s t k q f)))
    (λ t none r found some h. absurd (none_or_one s n p none e))
    (λ pl a code h. absurd (none_or_one s n p a.none_waits e))
    (λ pl a code none h. absurd (none_or_one s n p a.none_waits e))
    (λ pl a code k q f h. absurd (none_or_one s n p a.none_waits e))

-- ---- the numbers that pass a test, in rising number

passing_first : (test : ℕ → Bool) (k start n : ℕ) → start ≤ n → n < start + k → test n ≡ true → NonePasses test start n
    → passing test start k ≡ n ∷ passing test (n + 1) (start + k - (n + 1))
unfolding passing
passing_first test zero start n l h holds none = absurd (omega arith)
passing_first test (suc k) start n l h holds none =
    either (eqb start n)
    (λ e.
    let same : start ≡ n = eqb-true start n e in
    let left : k ≡ start + suc k - (n + 1) = omega arith in
    simp (ap test same ∙ holds, pick_true) (ap₂ (λ (i j : ℕ). i ∷ passing test (i + 1) j) same left))
    (λ e.
    let more : start + 1 ≤ n = omega (arith, eqb-false start n e) in
    let left : start + 1 + k - (n + 1) ≡ start + suc k - (n + 1) = omega arith in
    simp (none start (omega arith) (omega arith), pick_false)
    (passing_first test k (start + 1) n more (omega arith) holds (λ j a b. none j (omega arith) b)
    ∙ ap (λ (j : ℕ). n ∷ passing test (n + 1) j) left))

passing_none : (test : ℕ → Bool) (k start : ℕ) → NonePasses test start (start + k) → passing test start k ≡ []
unfolding passing
passing_none test zero start none = refl
passing_none test (suc k) start none =
    simp (none start (omega arith) (omega arith), pick_false) (passing_none test k (start + 1) (λ j a b. none j (omega arith) (omega arith)))

-- ---- the candidates

module _ (s : State) (g : good_population s.memory s.tags s.places ≡ true) where
  candidate_is : (i : ℕ) → i < s.tags → is_candidate s i ≡ selected_at s.memory s.selection s.places i
  unfolding is_candidate selected_at selected selected_image place_at image_at
  candidate_is i h =
      let there : inside s.memory (place_at s.places i) ≡ true = (population_facts s.memory s.tags s.places g).within i h in
      sym (simp there)

  pub candidates_first : (start n : ℕ) (p : Place) → TheLowest s.memory s.tags s.places s.selection start n p
      → candidates s start ≡ n ∷ candidates s (n + 1)
  unfolding candidates
  candidates_first start n p tag =
      let whole : start + (s.tags - start) - (n + 1) ≡ s.tags - (n + 1) = omega (arith, tag.from_start, tag.one_of) in
      passing_first (is_candidate s) (s.tags - start) start n tag.from_start (omega (arith, tag.one_of)) (candidate_is n tag.one_of ∙ tag.passes)
      (λ j a b. candidate_is j (omega (arith, tag.one_of)) ∙ tag.none_before j a b)
      ∙ ap (λ (k : ℕ). n ∷ passing (is_candidate s) (n + 1) k) whole

candidates_same : (s t : State) → t.memory ≡ s.memory → t.places ≡ s.places → t.tags ≡ s.tags → t.selection ≡ s.selection
    → (start : ℕ) → candidates t start ≡ candidates s start
unfolding candidates is_candidate
candidates_same s t memory places tags selection start =
    λ i.
    candidates
    record {
      memory = memory i;
      places = places i;
      tags = tags i;
      selection = selection i;
      output = t.output;
      reader = t.reader;
      next = t.next;
    }
    start

-- ---- over a list of calls

-- the command at the cursor
abbrev pub command_in : Call → State → Command
command_in c s = record { code = code_in (rest_of c s); parameters = parameters_in (rest_of c s) }

-- an answer where no tag waits is that of an accepted command
some_accepted : (s : State) (m : Command) (o : Outcome) → o ≡ Answered → waiting s ≡ no_tag
    → pick (eqb (number_of o) 0 && is_none (waiting s)) (m ∷ []) [] ≡ [] → ⊥
unfolding number_of is_none
some_accepted s m o e none h =
    let one : pick (eqb (number_of o) 0 && is_none (waiting s)) (m ∷ []) [] ≡ m ∷ [] = simp (e, none, pick_true) in
    omega (arith, ap (λ (l : List Command). length l) (sym one ∙ h))

step_once : (c : Call) (s : State) → good_population s.memory s.tags s.places ≡ true → accepted_by c s ≡ []
    → handed_by c s ++ candidates (step c s).next (step c s).next.next ≡ candidates s s.next
unfolding accepted_by handed_by unchanged dropped missed told aimed acted number_of number_in waiting
step_once c s g =
    step_cases c s
    (λ (x : Step).
    pick (eqb (number_of x.outcome) 0 && is_none (waiting s)) (command_in c s ∷ []) [] ≡ []
    → pick (eqb (number_of x.outcome) 0) (number_in (waiting s)) [] ++ candidates x.next x.next.next ≡ candidates s s.next)
    (λ o m k h. simp (ne_eqb (number_of o) 0 m, pick_false))
    (λ t n p e h.
    let x : Step = aimed s (hand_out_at s n p) [] in
    let out : HandsOut s n p x = hands_out (input_of c) s t n p e in
    let handed-one : pick true (number_in (waiting s)) [] ≡ n ∷ [] = simp (e, pick_true) in
    ap (λ (l : List ℕ). l ++ candidates x.next x.next.next) handed-one
    ∙ ap (λ (l : List ℕ). n ∷ l)
    (candidates_same s x.next out.memory_stays refl refl refl x.next.next ∙ ap (candidates s) out.behind_it)
    ∙ sym (candidates_first s g s.next n p (found_tag (input_of c) s t s.next n p e)))
    (λ t none r found some h. simp pick_false (candidates_same s (dropped s r).next refl refl refl refl s.next))
    (λ pl a code h. absurd (some_accepted s _ _ (selecting_answers s _ _) a.none_waits h))
    (λ pl a code none h. absurd (some_accepted s _ _ refl a.none_waits h))
    (λ pl a code n p e h. absurd (some_accepted s _ _ refl a.none_waits h))

none_left : (xs ys : List Command) → xs ++ ys ≡ [] → (xs ≡ []) × (ys ≡ [])
none_left [] ys h = (refl, h)
none_left (x ∷ xs) ys h = absurd (omega (arith, ap (λ (l : List Command). length l) h))

pub exactly_once : ExactlyOnce
unfolding handed accepted after
exactly_once [] s g h = refl
exactly_once (c ∷ calls) s g h =
    let none = none_left (accepted_by c s) (accepted calls (step c s).next) h in
    append_assoc (handed_by c s) (handed calls (step c s).next) _
    ∙ ap (λ (l : List ℕ). handed_by c s ++ l) (exactly_once calls (step c s).next ((step_good c s).population g) none.1)
    ∙ step_once c s g none.0

-- ---- the inventory that starts it

-- an inventory at a present tag
module _ (s : State) (a : Aimed) (p : List ℕ) (code : a.code ≡ 0x22) (empty : p ≡ []) (present : byte (image_at s.memory a.place) 22 ≡ 0) where
  notifies : act_for s a p ≡ Ok Notify
  unfolding act_for image_for
  notifies = ap₂ (λ (k : ℕ) (l : List ℕ). act_of (image_at s.memory a.place) k l) code empty ∙ present_notifies (image_at s.memory a.place) present

  inventory_memory : inside s.memory a.place ≡ true → (aimed s a p).next.memory ≡ s.memory
  unfolding aimed acted image_for changed
  inventory_memory there =
      ap (λ (act : Verdict). replaced s.memory a.place (changed (image_at s.memory a.place) p act)) notifies ∙ replaced_same s.memory a.place there

  inventory_next : (aimed s a p).next.next ≡ a.number + 1
  unfolding aimed acted next_after is_error
  inventory_next = simp (notifies, code, pick_true, pick_false)

pub inventory_starts : InventoryStarts
unfolding unchanged dropped number_of code_in pl_in rest_of parameters_at part aimed acted
inventory_starts c s n p answers none low code pl =
    step_cases c s
    (λ (x : Step). number_of x.outcome ≡ 0 → n ∷ candidates x.next x.next.next ≡ candidates s 0)
    (λ o m k h. absurd (m h))
    (λ t k q e h. absurd (none_or_one s k q none e))
    (λ t none r found some h. absurd (omega (arith, h)))
    (λ k a other h. absurd (omega (arith, code, other, code_there (input_of c) s.reader.cursor)))
    (λ k a other missing h. let same : no_tag ≡ tag_at n p = sym missing ∙ low in let z : ◌≡◌ {A = ℕ} 0 1 = cc in absurd (omega arith))
    (λ k a other m q e h.
    let number_is : m ≡ n = (same_tags m n q p (sym e ∙ low)).0 in
    let g = a.tested.population_good in
    let tag = found_tag (input_of c) s a.tested 0 m q e in
    let job : Aimed = command_at (input_of c) s k m q in
    let given : List ℕ = parameters_at (input_of c) s.reader.cursor k in
    let is_code : job.code ≡ 0x22 = code_there (input_of c) s.reader.cursor ∙ code in
    let no_bytes : k ≡ 0 = a.accepts.read ∙ pl in
    let empty : given ≡ [] = ap (λ (j : ℕ). take j (drop (s.reader.cursor + 5) (input_of c))) no_bytes in
    let present : byte (image_at s.memory q) 22 ≡ 0 =
    subst (λ (l : Place). byte (image_at s.memory l) 22 ≡ 0) (sym tag.at_place)
    (selected_present s.memory s.selection s.places m tag.passes)
    in
    let there : inside s.memory q ≡ true = lowest_inside s.memory s.tags s.places s.selection 0 g m q tag in
    let x : Step = aimed s job given in
    ap₂ (λ (j : ℕ) (l : List ℕ). j ∷ l) (sym number_is)
    (candidates_same s x.next (inventory_memory s job given is_code empty present there) refl refl refl x.next.next
    ∙ ap (candidates s) (inventory_next s job given is_code empty present))
    ∙ sym (candidates_first s g 0 m q tag))
    answers
