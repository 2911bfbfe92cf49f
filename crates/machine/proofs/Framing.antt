-- An answer is one frame, whichever answers it is; and where the cursor stands behind it.
use Prim.Native.Nat.{ℕ, ◌+◌, ◌≤◌, ◌<◌}
use lib.ListN.{length, length-drop}
use mathlib.Core.List.{List, [], ◌∷◌}
use mathlib.Core.Path.{◌≡◌, refl, ap}
use native.Mathlib.Omega.{arith}
use Rattle.std.specs.Prelude.{Ok, Err}
use Rattle.reader.specs.Outcomes.{number_of}
use Rattle.machine.proofs.Lowests.{lowest_good}
use Rattle.machine.proofs.Steps.{Tested, Accepts, hand_out_at, command_at, found_tag, frame_inside, step_cases}
use Rattle.machine.specs.Claims.{OneFrame, AnswerIsOneFrame}
use Rattle.machine.specs.Machine.{State, Call, Step, parameters_at, unchanged, dropped, told, selecting, missed, image_for, act_for, acted, aimed, input_of, rest_of, waiting, step}
use Rattle.machine.specs.declared.deciding.Aimed.{Aimed}
use Rattle.frame.proofs.FrameBytes.{length_frame, length_written, drop_written}
use Rattle.frame.proofs.Picks.{by_test}
use Rattle.frame.specs.Formats.{pl_in}
use Rattle.frame.specs.Frames.{frame_of, frame_length}
use Rattle.population.specs.Lowest.{lowest, no_tag, tag_at}
use Rattle.population.specs.Places.{image_at}
use Rattle.population.specs.Selections.{taken}
use Rattle.population.specs.declared.places.Place.{Place}
use Rattle.reader.specs.declared.state.Reader.{Reader}
use Rattle.tag.proofs.AnswerBytes.{answer_most}
use Rattle.tag.specs.Answers.{answer}
use Rattle.tag.specs.Commands.{act_of}
use Rattle.tag.specs.Errors.{Verdict}
use Rattle.tag.specs.declared.commands.Act.TheVariants.{Notify, Give, Store, Set}
use Rattle.tag.specs.declared.errors.Refusal.TheVariants.{Plain, Tag as OfTag}

frame_some : (type code : ℕ) (p : List ℕ) → 0 < length (frame_of type code p)
frame_some type code p = omega (arith, length_frame type code p)

answer_some : (image : List ℕ) (act : Verdict) → 0 < length (answer image act)
unfolding answer
answer_some image (Err (Plain e)) = frame_some _ _ _
answer_some image (Err (OfTag e)) = frame_some _ _ _
answer_some image (Ok Notify) = frame_some _ _ _
answer_some image (Ok (Give at n)) = frame_some _ _ _
answer_some image (Ok (Store at)) = frame_some _ _ _
answer_some image (Ok (Set code at count value)) = frame_some _ _ _

-- no tag waits, and one does
apart : {C : Type 0} (s : State) (n : ℕ) (p : Place) → waiting s ≡ no_tag → waiting s ≡ tag_at n p → C
apart s n p none one = let z : ◌≡◌ {A = ℕ} 0 1 = cc in absurd (omega arith)

module _ (c : Call) (s : State) where
  -- where the cursor is to stand: behind the command, or where it stood
  record Stands (at : ℕ) : Type 0 where
    over : waiting s ≡ no_tag → at ≡ s.reader.cursor + (7 + pl_in (rest_of c s))
    stays : (n : ℕ) (p : Place) → waiting s ≡ tag_at n p → at ≡ s.reader.cursor
    inside : at ≤ length (input_of c)

  behind_command : (pl : ℕ) → Accepts (input_of c) s pl → Stands (s.reader.cursor + frame_length pl)
  unfolding frame_length rest_of
  behind_command pl a =
      record {
        over = λ none. ap (λ (k : ℕ). s.reader.cursor + (7 + k)) a.accepts.read;
        stays = λ n p one. apart s n p a.none_waits one;
        inside = frame_inside (input_of c) s pl a;
      }

  abbrev Framed : Step → Type 0
  Framed x = OneFrame c s x

  at_a_tag : Tested (input_of c) s → (start : ℕ) (a : Aimed) (p : List ℕ)
      → lowest s.memory s.tags s.places s.selection start ≡ tag_at a.number a.place → Stands a.behind
      → Framed (aimed s a p)
  unfolding aimed acted act_for image_for pl_in
  at_a_tag t start a p e stands =
      let image : List ℕ = image_at s.memory a.place in
      let good = lowest_good s.memory s.tags s.places s.selection start t.population_good _ _ (found_tag (input_of c) s t start _ _ e) in
      let frame : List ℕ = answer image (act_of image a.code p) in
      let short = answer_most image p a.code good in
      record {
        some = answer_some image (act_of image a.code p);
        at_most_136 = short;
        behind_stays = drop_written frame s.output;
        room_stays = length_written frame s.output (omega (arith, short, t.room));
        in_the_output = omega (arith, short, t.room, length_written frame s.output (omega (arith, short, t.room)));
        over_the_command = stands.over;
        stays_with_a_tag = stands.stays;
        not_past_the_end = stands.inside;
      }

  by_the_reader : (pl : ℕ) → Accepts (input_of c) s pl → (code b : ℕ) (selection : List ℕ) (reader : Reader) → Stands reader.cursor
      → Framed (told s (frame_of 0x01 code (b ∷ [])) selection reader)
  unfolding told pl_in
  by_the_reader pl a code b selection reader stands =
      let frame : List ℕ = frame_of 0x01 code (b ∷ []) in
      let size = length_frame 0x01 code (b ∷ []) in
      record {
        some = omega (arith, size);
        at_most_136 = omega (arith, size);
        behind_stays = drop_written frame s.output;
        room_stays = length_written frame s.output (omega (arith, size, a.tested.room));
        in_the_output = omega (arith, size, a.tested.room, length_written frame s.output (omega (arith, size, a.tested.room)));
        over_the_command = stands.over;
        stays_with_a_tag = stands.stays;
        not_past_the_end = stands.inside;
      }

pub answer_is_one_frame : AnswerIsOneFrame
unfolding unchanged dropped number_of waiting selecting missed
answer_is_one_frame c s =
    step_cases c s (λ (x : Step). number_of x.outcome ≡ 0 → OneFrame c s x) (λ o m n e. absurd (m e))
    (λ t n p w e.
    at_a_tag c s t s.next (hand_out_at s n p) [] w
    record { over = λ none. apart s n p none w; stays = λ m q one. refl; inside = t.not_past })
    (λ t none r found some e. absurd (omega (arith, e)))
    (λ pl a code e.
    let stands = behind_command c s pl a in
    by_test (λ (x : Step). OneFrame c s x) (taken (parameters_at (input_of c) s.reader.cursor pl))
    (λ _. by_the_reader c s pl a _ _ _ _ stands)
    (λ _. by_the_reader c s pl a _ _ _ _ stands))
    (λ pl a code none e. by_the_reader c s pl a _ _ _ _ (behind_command c s pl a))
    (λ pl a code n p low e. at_a_tag c s a.tested 0 (command_at (input_of c) s pl n p) _ low (behind_command c s pl a))

-- no call moves the cursor past the end of its input
pub never_past : (c : Call) (s : State) → s.reader.cursor ≤ length (input_of c) → (step c s).next.reader.cursor ≤ length (input_of c)
unfolding unchanged dropped aimed acted selecting missed told frame_length rest_of
never_past c s h =
    step_cases c s (λ (x : Step). x.next.reader.cursor ≤ length (input_of c)) (λ o m n. h)
    (λ t n p w. h)
    (λ t none r found some. omega (arith, length-drop s.reader.cursor (input_of c), some))
    (λ pl a code.
    let in-it = frame_inside (input_of c) s pl a in
    by_test (λ (x : Step). x.next.reader.cursor ≤ length (input_of c)) (taken (parameters_at (input_of c) s.reader.cursor pl)) (λ _. in-it) (λ _. in-it))
    (λ pl a code none. frame_inside (input_of c) s pl a)
    (λ pl a code n p low. frame_inside (input_of c) s pl a)
