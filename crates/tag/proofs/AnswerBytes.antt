-- Answer frames: no longer than 136 bytes, and code FF exactly for an error.
use Prim.Native.Nat.{ℕ, ◌+◌, ◌*◌, ◌≤◌, ◌<◌}
use lib.Dec.{eqb}
use lib.ListN.{length, length-append}
use mathlib.Core.Bool.{true, true≢false}
use mathlib.Core.List.{List, [], ◌∷◌, ◌++◌}
use mathlib.Core.Path.{◌≡◌, sym}
use Rattle.std.specs.Prelude.{Ok}
use native.Mathlib.Omega.{arith}
use Rattle.frame.proofs.FrameBytes.{length_frame, code_frame, first_frame, length_part}
use Rattle.frame.specs.Bytes.{byte, part}
use Rattle.frame.specs.Frames.{frame_of, written}
use Rattle.tag.proofs.Cases.{place_of, act_cases}
use Rattle.image.proofs.GoodImages.{Good, good_facts}
use Rattle.tag.specs.Answers.{tail, answer, is_error}
use Rattle.tag.specs.Commands.{count_in, act_of}
use Rattle.image.specs.Image.{good, view, rssi, word_at, epc_length, pc_and_epc}
use Rattle.tag.specs.Errors.{plain_byte, tag_byte, Verdict}
use Rattle.tag.specs.declared.commands.Act.TheVariants.{Notify, Give}
use Rattle.tag.specs.declared.errors.PlainError.{PlainError}
use Rattle.tag.specs.declared.errors.PlainError.TheVariants.{NotInventoried, NotRead, NotWritten, NotLocked, NotKilled, NoCommand}
use Rattle.tag.specs.declared.errors.TagError.{TagError}
use Rattle.tag.specs.declared.errors.TagError.TheVariants.{WrongPassword, ReadOutside, ReadLocked, WriteOutside, WriteLocked, NoUserWords, Permalocked, NoKillPassword}

-- what stands behind the byte of a tag error
abbrev behind : List ℕ → TagError → List ℕ
behind image e = tail image

module _ (image : List ℕ) (g : Good (view image)) where
  pc_and_epc_most : length (pc_and_epc image) ≤ 64
  unfolding pc_and_epc
  pc_and_epc_most = omega (arith, length_part image (word_at (view image).epc 1) (2 + 2 * epc_length (view image).pc), g.epc_fits, g.epc_most)

  tail_most : length (tail image) ≤ 65
  unfolding tail
  tail_most = omega (arith, pc_and_epc_most)

  behind_most : (e : TagError) → length (behind image e) ≤ 65
  behind_most e = tail_most

  done_most : (code : ℕ) → length (frame_of 0x01 code (tail image ++ (0x00 ∷ []))) ≤ 136
  done_most code = omega (arith, length_frame 0x01 code (tail image ++ (0x00 ∷ [])), length-append (tail image) (0x00 ∷ []), tail_most)

  notify_most : length (answer image (Ok Notify)) ≤ 136
  unfolding answer
  notify_most =
      let crc : List ℕ = part image (view image).epc.offset 2 in
      omega (
        arith,
        length_frame 0x02 0x22 (rssi image ∷ (pc_and_epc image ++ crc)),
        length-append (pc_and_epc image) crc,
        length_part image (view image).epc.offset 2,
        pc_and_epc_most,
      )

  give_most : (at n : ℕ) → n ≤ 64 → length (answer image (Ok (Give at n))) ≤ 136
  unfolding answer
  give_most at n h =
      omega (
        arith,
        length_frame 0x01 0x39 (tail image ++ part image at n),
        length-append (tail image) (part image at n),
        length_part image at n,
        tail_most,
      )

-- "Answers have at most 136 bytes."
pub answer_most : (image p : List ℕ) (code : ℕ) → good image ≡ true → length (answer image (act_of image code p)) ≤ 136
unfolding answer
answer_most image p code h =
    let g : Good (view image) = good_facts image h in
    act_cases (λ (verdict : Verdict). length (answer image verdict) ≤ 136)
    (λ e. omega (arith, length_frame 0x01 0xFF (plain_byte e ∷ [])))
    (λ e. omega (arith, length_frame 0x01 0xFF (tag_byte e ∷ behind image e), behind_most image g e))
    image p code
    (λ n. notify_most image g)
    (λ n reads. give_most image g (place_of image p) (2 * count_in p) (omega (arith, reads.aim.count_most)))
    (λ n writes. done_most image g 0x49)
    (λ n secured. done_most image g 0x82)
    (λ n equal. done_most image g 0x65)

-- "An error answer is one with code FF."
pub error_code : (image p : List ℕ) (code : ℕ) (output : List ℕ)
    → eqb (byte (written (answer image (act_of image code p)) output) 2) 0xFF ≡ is_error (act_of image code p)
unfolding answer is_error
error_code image p code output =
    act_cases (λ (verdict : Verdict). eqb (byte (written (answer image verdict) output) 2) 0xFF ≡ is_error verdict)
    (λ e. rw (code_frame 0x01 0xFF (plain_byte e ∷ []) output))
    (λ e. rw (code_frame 0x01 0xFF (tag_byte e ∷ behind image e) output))
    image p code
    (λ n. rw (code_frame 0x02 0x22 (rssi image ∷ (pc_and_epc image ++ part image (view image).epc.offset 2)) output))
    (λ n reads. rw (code_frame 0x01 0x39 (tail image ++ part image (place_of image p) (2 * count_in p)) output))
    (λ n writes. rw (code_frame 0x01 0x49 (tail image ++ (0x00 ∷ [])) output))
    (λ n locks. rw (code_frame 0x01 0x82 (tail image ++ (0x00 ∷ [])) output))
    (λ n kills. rw (code_frame 0x01 0x65 (tail image ++ (0x00 ∷ [])) output))

-- and its byte is not 0
plain_some : (e : PlainError) → 0 < plain_byte e
unfolding plain_byte
plain_some NotInventoried = omega arith
plain_some NotRead = omega arith
plain_some NotWritten = omega arith
plain_some NotLocked = omega arith
plain_some NotKilled = omega arith
plain_some NoCommand = omega arith

tag_some : (e : TagError) → 0 < tag_byte e
unfolding tag_byte
tag_some WrongPassword = omega arith
tag_some ReadOutside = omega arith
tag_some ReadLocked = omega arith
tag_some WriteOutside = omega arith
tag_some WriteLocked = omega arith
tag_some NoUserWords = omega arith
tag_some Permalocked = omega arith
tag_some NoKillPassword = omega arith

pub error_named : (image p : List ℕ) (code : ℕ) (output : List ℕ) → is_error (act_of image code p) ≡ true
    → 0 < byte (written (answer image (act_of image code p)) output) 5
unfolding answer is_error
error_named image p code output =
    act_cases (λ (verdict : Verdict). is_error verdict ≡ true → 0 < byte (written (answer image verdict) output) 5)
    (λ e error. omega (arith, first_frame 0x01 0xFF (plain_byte e) [] output, plain_some e))
    (λ e error. omega (arith, first_frame 0x01 0xFF (tag_byte e) (behind image e) output, tag_some e))
    image p code
    (λ n error. absurd (true≢false (sym error)))
    (λ n reads error. absurd (true≢false (sym error)))
    (λ n writes error. absurd (true≢false (sym error)))
    (λ n locks error. absurd (true≢false (sym error)))
    (λ n kills error. absurd (true≢false (sym error)))
