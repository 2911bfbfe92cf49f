-- The PC and the EPC of an image that has them: at most 64 bytes, and the tail is these behind their count.
use Prim.Native.Nat.{ℕ, suc, ◌+◌, ◌*◌, ◌/◌, ◌-◌, ◌≤◌}
use lib.ListN.{length, take, drop, set}
use lib.Seq.{sets}
use mathlib.Core.Bool.{true}
use mathlib.Core.List.{List}
use mathlib.Core.Path.{◌≡◌, refl, ap, ◌∙◌}
use native.Mathlib.Numerals.{add-one}
use native.Mathlib.Omega.{arith}
use Rattle.frame.proofs.Copies.{reaches_there, length_part_inside, copied_is}
use Rattle.frame.specs.Bytes.{part}
use Rattle.frame.specs.Copying.{copied}
use Rattle.frame.specs.Putting.{Put}
use Rattle.tag.specs.Answers.{tail}
use Rattle.image.specs.Image.{view, word_at, epc_length, pc_and_epc}
use Rattle.image.specs.Spans.{EpcSpan}
use Rattle.image.specs.declared.header.Span.{Span}
use Rattle.image.specs.declared.header.View.{View}
use Rattle.execution.specs.Reach.{has_epc}

-- where the PC stands, and how many bytes it has with the EPC
abbrev pub epc_from : View → ℕ
epc_from v = v.epc.offset + 2

abbrev pub epc_bytes : View → ℕ
epc_bytes v = 2 + 2 * (v.pc / 2048)

module _ (image : List ℕ) (h : has_epc image ≡ true) where
  there : epc_from (view image) + epc_bytes (view image) ≤ length image
  unfolding has_epc word_at epc_length
  there = reaches_there image (epc_from (view image)) (epc_bytes (view image)) h

  -- EPC word 0 stands before the PC
  pub word_there : (view image).epc.offset + 2 ≤ length image
  word_there = omega (arith, there)

  epc_is : part image (epc_from (view image)) (epc_bytes (view image)) ≡ pc_and_epc image
  unfolding pc_and_epc epc_length word_at
  epc_is = refl

  length_epc : length (pc_and_epc image) ≡ epc_bytes (view image)
  length_epc = rw (← epc_is) (length_part_inside image (epc_from (view image)) (epc_bytes (view image)) there)

  -- with the place read by whatever means
  module _ (p : Span) (read : EpcSpan image p) where
    pub epc_most : p.count ≤ 64
    epc_most = omega (arith, read.count_is, read.count_small)

    pub epc_there : p.from + p.count ≤ length image
    epc_there = omega (arith, read.from_is, read.count_is, there)

    place_is : part image p.from p.count ≡ pc_and_epc image
    place_is = simp (read.from_is, read.count_is) epc_is

    pub epc_put : (output : List ℕ) (at : ℕ) → at + 64 ≤ length output
        → (after : List ℕ) → after ≡ copied image p.from p.count output at → Put (pc_and_epc image) at output after (at + p.count)
    epc_put output at room after e =
        let copies : copied image p.from p.count output at ≡ sets output at (part image p.from p.count) =
        copied_is image p.from p.count output at epc_there (omega (arith, epc_most))
        in
        record {
          output_is = e ∙ copies ∙ ap (λ (l : List ℕ). sets output at l) place_is;
          next_is = simp (length_epc, read.count_is);
        }

    pub tail_put : (output : List ℕ) (at : ℕ) (after : List ℕ) (next : ℕ)
        → Put (pc_and_epc image) (at + 1) (set output at p.count) after next → Put (tail image) at output after next
    unfolding tail epc_length
    tail_put output at after next put =
        record {
          output_is =
              put.output_is
              ∙ ap (λ (n : ℕ). sets (set output at p.count) n (pc_and_epc image)) (add-one at)
              ∙ ap (λ (n : ℕ). sets (set output at n) (suc at) (pc_and_epc image)) read.count_is;
          next_is = put.next_is ∙ omega arith;
        }

    pub epc_between : take (p.from + p.count - p.from) (drop p.from image) ≡ pc_and_epc image
    unfolding part
    epc_between =
        let n : p.from + p.count - p.from ≡ p.count = omega arith in
        rw n place_is
