-- One command on one image: what becomes of the image and of the output, and how the command went. The bytes of the
-- output behind the frame stay. Where the image lacks bytes that the command needs, or an answer might not fit, nothing changes.
use Rattle.std.specs.Prelude.{ℕ, Bool, ◌&&◌, List, ◌≡◌, leb, length}
use Rattle.frame.specs.Bytes.{pick}
use Rattle.frame.specs.Frames.{longest_answer, written}
use Rattle.tag.specs.Answers.{answer, changed, is_error}
use Rattle.tag.specs.Commands.{act_of}
use Rattle.tag.specs.Errors.{Verdict}
use Rattle.execution.specs.Reach.{has_named, in_reach}
use Rattle.execution.specs.declared.execute.Executed.{Executed}
use Rattle.execution.specs.declared.execute.Executed.TheVariants.{Refused, Good, Error}

-- an output of at least 136 bytes, and an image that has what the verdict needs
unfoldable pub executable : List ℕ → List ℕ → List ℕ → Verdict → Bool
executable image output p verdict = leb longest_answer (length output) && in_reach image p verdict

-- the image, the output and the result after the command of this code and these parameters
unfoldable pub image_after : List ℕ → List ℕ → ℕ → List ℕ → List ℕ
image_after image output code p =
    let verdict : Verdict = act_of image code p in
    pick (executable image output p verdict) (changed image p verdict) image

unfoldable pub output_after : List ℕ → List ℕ → ℕ → List ℕ → List ℕ
output_after image output code p =
    let verdict : Verdict = act_of image code p in
    pick (executable image output p verdict) (written (answer image verdict) output) output

-- how a verdict with an answer of n bytes went, by whether it is an error
unfoldable pub reported : Verdict → ℕ → Executed
reported verdict n = pick (is_error verdict) (Error n) (Good n)

unfoldable pub result_of : List ℕ → List ℕ → ℕ → List ℕ → Executed
result_of image output code p =
    let verdict : Verdict = act_of image code p in
    pick (executable image output p verdict) (reported verdict (length (answer image verdict))) Refused

-- what `execute` promises of the image and the output it was lent, those it leaves, and its result
pub record Execution (image output : List ℕ) (code : ℕ) (p image_left output_left : List ℕ) (result : Executed) : Type 0 where
  pub image_is : image_left ≡ image_after image output code p
  pub output_is : output_left ≡ output_after image output code p
  pub result_is : result ≡ result_of image output code p

-- ---- in parts

-- the frame is written over the output, and the result is its length
pub record FrameWritten (frame before after : List ℕ) (result : ℕ) : Type 0 where
  pub output_is : after ≡ written frame before
  pub length_is : result ≡ length frame

-- what a verdict alone promises of image and output, those it leaves and its result, where there is room for an answer and the image has
-- what every answer needs: where it lacks bytes that the verdict names, nothing changes
pub record Acted (image output p : List ℕ) (verdict : Verdict) (image_left output_left : List ℕ) (result : Executed) : Type 0 where
  pub image_is : image_left ≡ pick (has_named image p verdict) (changed image p verdict) image
  pub output_is : output_left ≡ pick (has_named image p verdict) (written (answer image verdict) output) output
  pub result_is : result ≡ pick (has_named image p verdict) (reported verdict (length (answer image verdict))) Refused
