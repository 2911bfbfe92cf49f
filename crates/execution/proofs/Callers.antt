-- What a caller learns of a command on a good image with room for an answer: it is never refused, and its result tells the act's kind.
use Prim.Native.Nat.{ℕ, ◌≤◌}
use lib.ListN.{length}
use mathlib.Core.Bool.{true, false}
use mathlib.Core.List.{List}
use mathlib.Core.Path.{◌≡◌, ◌∙◌}
use native.Mathlib.Omega.{arith}
use Rattle.frame.proofs.Picks.{pick_true, by_test}
use Rattle.frame.specs.Frames.{written}
use Rattle.tag.specs.Answers.{answer, changed, is_error}
use Rattle.tag.specs.Commands.{act_of}
use Rattle.image.specs.Image.{good}
use Rattle.tag.specs.Errors.{Verdict}
use Rattle.execution.proofs.Executions.{runs}
use Rattle.execution.proofs.Reaches.{good_in_reach}
use Rattle.execution.specs.Execution.{image_after, output_after, reported, result_of, Execution}
use Rattle.execution.specs.declared.execute.Executed.{Executed}
use Rattle.execution.specs.declared.execute.Executed.TheVariants.{Refused, Good, Error}

pub record Ran (image output : List ℕ) (p : List ℕ) (act : Verdict) (image_left output_left : List ℕ) (result : Executed) : Type 0 where
  pub image_is : image_left ≡ changed image p act
  pub output_is : output_left ≡ written (answer image act) output
  pub result_is : result ≡ reported act (length (answer image act))

pub ran : (image output : List ℕ) (code : ℕ) (p image_left output_left : List ℕ) (result : Executed) → good image ≡ true → 136 ≤ length output
    → Execution image output code p image_left output_left result → Ran image output p (act_of image code p) image_left output_left result
unfolding image_after output_after result_of
ran image output code p image_left output_left result h room e =
    record {
      image_is = e.image_is ∙ simp (runs image output p (act_of image code p) room (good_in_reach image h code p), pick_true);
      output_is = e.output_is ∙ simp (runs image output p (act_of image code p) room (good_in_reach image h code p), pick_true);
      result_is = e.result_is ∙ simp (runs image output p (act_of image code p) room (good_in_reach image h code p), pick_true);
    }

-- the kind of an act, and the length of its answer, from the result
module _ (act : Verdict) (m : ℕ) where
  pub told_refused : Refused ≡ reported act m → ⊥
  unfolding reported
  told_refused =
      by_test (λ (r : Executed). Refused ≡ r → ⊥) (is_error act)
      (λ error e. let z : ◌≡◌ {A = ℕ} 0 1 = cc in omega arith)
      (λ well e. let z : ◌≡◌ {A = ℕ} 0 1 = cc in omega arith)

  pub told_error : (n : ℕ) → Error n ≡ reported act m → (is_error act ≡ true) × (n ≡ m)
  unfolding reported
  told_error n =
      by_test (λ (r : Executed). Error n ≡ r → (is_error act ≡ true) × (n ≡ m)) (is_error act)
      (λ error e. (error, cc))
      (λ well e. let z : ◌≡◌ {A = ℕ} 0 1 = cc in absurd (omega arith))

  pub told_good : (n : ℕ) → Good n ≡ reported act m → (is_error act ≡ false) × (n ≡ m)
  unfolding reported
  told_good n =
      by_test (λ (r : Executed). Good n ≡ r → (is_error act ≡ false) × (n ≡ m)) (is_error act)
      (λ error e. let z : ◌≡◌ {A = ℕ} 0 1 = cc in absurd (omega arith))
      (λ well e. (well, cc))
