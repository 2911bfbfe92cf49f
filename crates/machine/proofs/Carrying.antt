-- What an accepted command comes to: at the lowest tag, with none, or as the selection.
use Rattle.population.proofs.Firsts.{same_tags}
use Prim.Native.Nat.{ℕ, ◌+◌}
use borrow.Author.Tests.{ne_eqb}
use lib.ListN.{length, take}
use mathlib.Core.Bool.{true}
use mathlib.Core.List.{List, [], ◌∷◌}
use mathlib.Core.Logic.{◌≢◌}
use mathlib.Core.Path.{◌≡◌, refl, ap, ap₂, sym, subst, ◌∙◌}
use native.Mathlib.Omega.{arith}
use Rattle.reader.specs.Outcomes.{number_of}
use Rattle.reader.specs.Readers.{reader_of}
use Rattle.machine.proofs.Absents.{byte_without, act_without}
use Rattle.machine.proofs.Lowests.{TheLowest, lowest_inside}
use Rattle.machine.proofs.Secrets.{code_there, parameters_there}
use Rattle.machine.proofs.Steps.{Accepts, command_at, error_at, found_tag, step_cases}
use Rattle.machine.specs.Claims.{CarriedOutAt, CommandsAim, AnsweredWithout, CommandsMiss, select_row, SelectionSet, SetSelect}
use Rattle.machine.specs.Machine.{State, Call, Step, code_at, parameters_at, unchanged, dropped, told, plain_error, select_taken, selecting, missed, next_after, image_for, act_for, acted, aimed, input_of, rest_of}
use Rattle.machine.specs.declared.deciding.Aimed.{Aimed}
use Rattle.frame.proofs.FrameBytes.{take_written}
use Rattle.frame.proofs.Picks.{pick_true, pick_false, by_test}
use Rattle.frame.proofs.Tests.{either}
use Rattle.frame.specs.Bytes.{first_of, bytes_of}
use Rattle.frame.specs.Formats.{code_in, pl_in, parameters_in}
use Rattle.frame.specs.Frames.{sum, check_of, checked, frame_of, frame_length}
use Rattle.population.proofs.Executes.{inside_there, image_length}
use Rattle.population.proofs.Images.{image_same}
use Rattle.population.proofs.OnePlace.{length_changed}
use Rattle.population.specs.Places.{inside, image_at}
use Rattle.population.specs.Selections.{taken}
use Rattle.population.specs.Lowest.{no_tag, tag_at}
use Rattle.std.specs.Prelude.{Option}
use Rattle.population.specs.declared.places.Place.{Place}
use Rattle.reader.specs.Tallies.{with_good, with_error}
use Rattle.tag.specs.Answers.{answer, changed, is_error}
use Rattle.tag.specs.Claims.{comes_to, framed, outcome}
use Rattle.tag.specs.Commands.{parse, act_of}
use Rattle.tag.specs.Errors.{Verdict}

-- only an inventory leaves tags to hand out
other_next : (a : Aimed) (act : Verdict) → a.code ≢ 0x22 → next_after a act ≡ 16
unfolding next_after
other_next a act d = by_test (λ (k : ℕ). k ≡ 16) (is_error act) (λ _. refl) (λ _. simp (ne_eqb a.code 0x22 d, pick_false))

module _ (c : Call) (s : State) (pl : ℕ) (a : Accepts (input_of c) s pl) where
  abbrev cursor : ℕ
  cursor = s.reader.cursor

  abbrev given : List ℕ
  given = parameters_at (input_of c) cursor pl

  code_is : code_at (input_of c) cursor ≡ code_in (rest_of c s)
  unfolding rest_of
  code_is = code_there (input_of c) cursor

  given_is : given ≡ parameters_in (rest_of c s)
  unfolding rest_of parameters_at
  given_is = parameters_there (input_of c) cursor pl a.accepts

  behind_is : cursor + frame_length pl ≡ cursor + (7 + pl_in (rest_of c s))
  unfolding rest_of frame_length
  behind_is = ap (λ (k : ℕ). cursor + (7 + k)) a.accepts.read

  carried_out_lem : (n : ℕ) (p : Place) → TheLowest s.memory s.tags s.places s.selection 0 n p
      → CarriedOutAt c s n p (aimed s (command_at (input_of c) s pl n p) given)
  unfolding aimed acted act_for image_for code_in pl_in parameters_in outcome image_at
  carried_out_lem n p tag =
      let image : List ℕ = image_at s.memory p in
      let code : ℕ = code_at (input_of c) cursor in
      let act : Verdict = act_of image code given in
      let there : inside s.memory p ≡ true =
      lowest_inside s.memory s.tags s.places s.selection 0 a.tested.population_good n p tag
      in
      let size : length (changed image given act) ≡ p.size = length_changed image given act ∙ image_length s.memory p there in
      let x : Step = aimed s (command_at (input_of c) s pl n p) given in
      let frame : take x.length x.next.output ≡ answer image act = take_written (answer image act) s.output in
      let left : image_at x.next.memory p ≡ changed image given act =
      image_same s.memory p (changed image given act) size (inside_there s.memory p there)
      in
      record {
        it_comes_to =
            ap₂ (λ (f i : List ℕ). (f, i)) frame left
            ∙ ap₂ (λ (k : ℕ) (l : List ℕ). comes_to image k l) code_is given_is;
        selection_stays = refl;
        over_the_command = behind_is;
        none_to_hand_out = λ d. other_next (command_at (input_of c) s pl n p) act (λ e. d (sym code_is ∙ e));
      }

  answered_without : AnsweredWithout c s (missed s (error_at (input_of c) s pl) (cursor + frame_length pl))
  unfolding missed told code_in pl_in parameters_in outcome answer
  answered_without =
      let code : ℕ = code_at (input_of c) cursor in
      record {
        as_an_absent_tag = λ image away.
            take_written (plain_error (error_at (input_of c) s pl)) s.output
            ∙ ap plain_error (sym (byte_without (parse code given)))
            ∙ ap (answer image) (sym (act_without image given away code))
            ∙ ap₂ (λ (k : ℕ) (l : List ℕ). (comes_to image k l).0) code_is given_is;
        memory_stays = refl;
        selection_stays = refl;
        over_the_command = behind_is;
        none_to_hand_out = refl;
      }

  -- the frames, byte by byte
  taken_frame : select_taken ≡ framed 0x01 0x0C (0x00 ∷ [])
  unfolding frame_of checked check_of sum bytes_of
  taken_frame = refl

  refused_frame : plain_error 0x17 ≡ framed 0x01 0xFF (0x17 ∷ [])
  unfolding frame_of checked check_of sum bytes_of
  refused_frame = refl

  abbrev Row : Step → List ℕ → Type 0
  Row x l =
      (take x.length x.next.output, x.next.selection)
      ≡ select_row s.selection l

  selection_row : Row (selecting s given (cursor + frame_length pl)) given
  unfolding selecting told first_of
  selection_row =
      either (taken given)
      (λ h. simp (h, pick_true) (ap (λ (f : List ℕ). (f, given)) (take_written select_taken s.output ∙ taken_frame)))
      (λ h. simp (h, pick_false) (ap (λ (f : List ℕ). (f, s.selection)) (take_written (plain_error 0x17) s.output ∙ refused_frame)))

  -- what holds of both answers
  selecting_leaves : (P : Step → Type 0) → P (told s select_taken given (reader_of (cursor + frame_length pl) (with_good s.reader.tally)))
      → P (told s (plain_error 0x17) s.selection (reader_of (cursor + frame_length pl) (with_error s.reader.tally)))
      → P (selecting s given (cursor + frame_length pl))
  unfolding selecting
  selecting_leaves P good error = by_test P (taken given) (λ _. good) (λ _. error)

  selection_set : SelectionSet c s (selecting s given (cursor + frame_length pl))
  unfolding code_in pl_in parameters_in told
  selection_set =
      let x : Step = selecting s given (cursor + frame_length pl) in
      record {
        frame_and_selection = subst (Row x) given_is selection_row;
        memory_stays = selecting_leaves (λ (y : Step). y.next.memory ≡ s.memory) refl refl;
        over_the_command = selecting_leaves (λ (y : Step). y.next.reader.cursor ≡ cursor + frame_length pl) refl refl ∙ behind_is;
        none_to_hand_out = selecting_leaves (λ (y : Step). y.next.next ≡ 16) refl refl;
      }

-- ---- the claims

clash : {C : Type 0} (n : ℕ) (p : Place) (r : Option (ℕ × Place)) → r ≡ no_tag → r ≡ tag_at n p → C
clash n p r e f = let same : no_tag ≡ tag_at n p = sym e ∙ f in let z : ◌≡◌ {A = ℕ} 0 1 = cc in absurd (omega arith)

pub commands_aim : CommandsAim
unfolding unchanged dropped number_of code_in
commands_aim c s n p accepting code low =
    step_cases c s (λ (x : Step). number_of x.outcome ≡ 0 → CarriedOutAt c s n p x) (λ o m k h. absurd (m h))
    (λ t k q e h. clash k q _ accepting.1 e)
    (λ t none r found some h. absurd (omega (arith, h)))
    (λ pl a is h. absurd (code (sym (code_is c s pl a) ∙ is)))
    (λ pl a other missing h. clash n p _ missing low)
    (λ pl a other m q e h.
    let same : (m ≡ n) × (q ≡ p) = same_tags m n q p (sym e ∙ low) in
    let x : Step = aimed s (command_at (input_of c) s pl m q) (given c s pl a) in
    subst (λ (r : Place). CarriedOutAt c s n r x) same.1
    (subst (λ (k : ℕ). CarriedOutAt c s k q x) same.0 (carried_out_lem c s pl a m q (found_tag (input_of c) s a.tested 0 m q e))))
    accepting.0

pub commands_miss : CommandsMiss
unfolding unchanged dropped number_of code_in
commands_miss c s accepting code low =
    step_cases c s (λ (x : Step). number_of x.outcome ≡ 0 → AnsweredWithout c s x) (λ o m k h. absurd (m h))
    (λ t k q e h. clash k q _ accepting.1 e)
    (λ t none r found some h. absurd (omega (arith, h)))
    (λ pl a is h. absurd (code (sym (code_is c s pl a) ∙ is)))
    (λ pl a other missing h. answered_without c s pl a)
    (λ pl a other m q e h. clash m q _ low e)
    accepting.0

pub set_select : SetSelect
unfolding unchanged dropped number_of code_in
set_select c s accepting code =
    step_cases c s (λ (x : Step). number_of x.outcome ≡ 0 → SelectionSet c s x) (λ o m k h. absurd (m h))
    (λ t k q e h. clash k q _ accepting.1 e)
    (λ t none r found some h. absurd (omega (arith, h)))
    (λ pl a is h. selection_set c s pl a)
    (λ pl a other missing h. absurd (other (code_is c s pl a ∙ code)))
    (λ pl a other m q e h. absurd (other (code_is c s pl a ∙ code)))
    accepting.0
