-- The outcomes of an act, undone or done, and of a command: refused, for a short output or an image that cannot be answered from, or
-- what its act comes to.
use Prim.Native.Nat.{ℕ, ◌≤◌, ◌<◌}
use borrow.Author.Tests.{le-leb, lt-leb}
use lib.ListN.{length}
use mathlib.Core.Bool.{true, false}
use mathlib.Core.List.{List}
use mathlib.Core.Path.{◌≡◌, ◌∙◌}
use Rattle.frame.proofs.Picks.{pick_true, pick_false}
use Rattle.frame.specs.Frames.{longest_answer}
use Rattle.tag.specs.Answers.{answer, changed, is_error}
use Rattle.tag.specs.Commands.{act_of}
use Rattle.tag.specs.Errors.{Verdict}
use Rattle.execution.specs.Execution.{executable, image_after, output_after, reported, result_of, FrameWritten, Acted, Execution}
use Rattle.execution.specs.Reach.{answerable, has_named, in_reach}
use Rattle.execution.specs.declared.execute.Executed.{Executed}
use Rattle.execution.specs.declared.execute.Executed.TheVariants.{Refused, Good, Error}

-- ---- an act

module _ (image output p : List ℕ) (act : Verdict) where
  pub undone : has_named image p act ≡ false → Acted image output p act image output Refused
  undone lacks = record { image_is = simp (lacks, pick_false); output_is = simp (lacks, pick_false); result_is = simp (lacks, pick_false) }

  module _
      (there : has_named image p act ≡ true)
      (image_left output_left : List ℕ) (n : ℕ)
      (writes : FrameWritten (answer image act) output output_left n)
      (stores : image_left ≡ changed image p act) where
    acted : Acted image output p act image_left output_left (reported act n)
    acted =
        record {
          image_is = stores ∙ simp (there, pick_true);
          output_is = writes.output_is ∙ simp (there, pick_true);
          result_is = simp (writes.length_is, there, pick_true);
        }

    pub acted_error : is_error act ≡ true → Acted image output p act image_left output_left (Error n)
    unfolding reported
    acted_error e = simp (e, pick_true) at acted

    pub acted_good : is_error act ≡ false → Acted image output p act image_left output_left (Good n)
    unfolding reported
    acted_good e = simp (e, pick_false) at acted

-- ---- a command

pub runs : (image output p : List ℕ) (act : Verdict) → 136 ≤ length output → in_reach image p act ≡ true → executable image output p act ≡ true
unfolding executable longest_answer
runs image output p act room h = simp (le-leb 136 (length output) room, h)

module _ (image output : List ℕ) (code : ℕ) (p : List ℕ) where
  unexecuted : executable image output p (act_of image code p) ≡ false → Execution image output code p image output Refused
  unfolding image_after output_after result_of
  unexecuted not_run =
      record { image_is = simp (not_run, pick_false); output_is = simp (not_run, pick_false); result_is = simp (not_run, pick_false) }

  pub refused_short : length output < 136 → Execution image output code p image output Refused
  unfolding executable longest_answer
  refused_short short = unexecuted (simp (lt-leb 136 (length output) short))

  module _ (room : 136 ≤ length output) where
    pub refused_out : answerable image ≡ false → Execution image output code p image output Refused
    unfolding executable longest_answer in_reach
    refused_out out = unexecuted (simp (le-leb 136 (length output) room, out))

    -- the act, told apart, is done or undone
    pub executed : answerable image ≡ true → {act told : Verdict} → act ≡ act_of image code p → act ≡ told
        → {image_left output_left : List ℕ} {result : Executed}
        → Acted image output p told image_left output_left result → Execution image output code p image_left output_left result
    unfolding image_after output_after result_of executable longest_answer in_reach
    executed h judged told a =
        record {
          image_is = a.image_is ∙ simp (← judged, told, le-leb 136 (length output) room, h);
          output_is = a.output_is ∙ simp (← judged, told, le-leb 136 (length output) room, h);
          result_is = a.result_is ∙ simp (← judged, told, le-leb 136 (length output) room, h);
        }
