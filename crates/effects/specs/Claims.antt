-- The claims page of one command on one tag: what it leaves of the image, each as a named statement with the papers' words beside it. `comes_to` is the frame and
-- the image of the tables on the tag's claims page; an error answer is one with code FF. Each statement is proved in proofs/Claimed.antt.
use Rattle.std.specs.Prelude.{ℕ, ◌+◌, ◌*◌, ◌/◌, ◌%◌, ◌^◌, ◌≤◌, ◌<◌, true, List, [], ◌∷◌, ◌⊎◌, ◌≢◌, ◌≡◌, length, take, drop}
use Rattle.crc.specs.Crc.{tag_crc}
use Rattle.frame.specs.Bytes.{byte, number, part, two_bytes}
use Rattle.image.specs.Image.{good, view, bank_of, end_of, word_at}
use Rattle.tag.specs.Claims.{comes_to}
use Rattle.tag.specs.Commands.{bank_in, pointer_in, count_in, data_in, ld_in}
use Rattle.tag.specs.Locks.{pairs, bits_of, new_pairs}
use Rattle.tag.specs.declared.locks.Pairs.{Pairs}

-- `bytes` stand from `at` on, and all else is as before
pub record Overwritten (at : ℕ) (bytes old new : List ℕ) : Type 0 where
  pub before_stays : take at new ≡ take at old
  pub stored : part new at (length bytes) ≡ bytes
  pub behind_stays : drop (at + length bytes) new ≡ drop (at + length bytes) old

-- "a write lands whole or not at all": with an error answer nothing is stored, with a good one all of it, which is what `Stored` says of the new image. The
-- command came to the frame and the image of `made`.
pub record Effect (image : List ℕ) (made : List ℕ × List ℕ) (Stored : List ℕ → Type 0) : Type 0 where
  pub error_stores_nothing : byte made.0 2 ≡ 0xFF → made.1 ≡ image
  pub good_stores_all : byte made.0 2 ≢ 0xFF → Stored made.1

-- where the named words start
abbrev pub place_named : List ℕ → List ℕ → ℕ
place_named image p = word_at (bank_of (view image) (bank_in p)) (pointer_in p)

-- P4: "Demand 2's 'only on the named words' reads from then on: the named words, and EPC word 0 kept by this rule." EPC word 0 stands at `word`, and L counts
-- the words behind the PC
pub record Written (image p new : List ℕ) (word : ℕ) : Type 0 where
  pub named_words : part new (place_named image p) (length (data_in p)) ≡ data_in p
  pub crc_word_is : number new word ≡ tag_crc (part new (word + 2) (2 + 2 * (number new (word + 2) / 2 ^ 11)))
  pub all_else_stays :
      (i : ℕ)
      → (i < place_named image p) ⊎ (place_named image p + length (data_in p) ≤ i)
      → (i < word) ⊎ (word + 2 ≤ i)
      → byte new i ≡ byte image i
  -- a Write behind the L words, or to another bank, leaves EPC word 0 as it is
  pub crc_stays : (bank_in p ≢ 1) ⊎ (number image (word + 2) / 2 ^ 11 + 1 < pointer_in p) → number new word ≡ number image word
  pub same_length : length new ≡ length image

-- "only on the named words": they are in the named bank, and each has its two data bytes
pub record NamedWords (image p : List ℕ) : Type 0 where
  pub bank_known : bank_in p ≤ 3
  pub in_the_bank : pointer_in p + count_in p ≤ (bank_of (view image) (bank_in p)).words
  pub all_of_them : length (data_in p) ≡ 2 * count_in p

abbrev pub WriteEffect : Type 0
WriteEffect =
    (image p : List ℕ)
    → good image ≡ true
    → Effect image (comes_to image 0x49 p) (λ new. Written image p new (number image 10))
    × (byte (comes_to image 0x49 p).0 2 ≢ 0xFF → NamedWords image p)

-- "all pairs are stored": bytes 20 and 21; LD bits 19 to 10 are the mask, 9 to 0 the action
abbrev pub pairs_after : List ℕ → List ℕ → Pairs
pairs_after image p = new_pairs (pairs (ld_in p / 1024)) (pairs (ld_in p % 1024)) (pairs (view image).locks)

abbrev pub LockEffect : Type 0
LockEffect =
    (image p : List ℕ) → good image ≡ true → Effect image (comes_to image 0x82 p) (Overwritten 20 (two_bytes (bits_of (pairs_after image p))) image)

-- "state becomes 1": byte 22
abbrev pub KillEffect : Type 0
KillEffect = (image p : List ℕ) → good image ≡ true → Effect image (comes_to image 0x65 p) (Overwritten 22 (1 ∷ []) image)

abbrev pub NoOtherEffect : Type 0
NoOtherEffect =
    (image : List ℕ) (code : ℕ) (p : List ℕ) → code ≢ 0x49 → code ≢ 0x82 → code ≢ 0x65 → (comes_to image code p).1 ≡ image

-- "Gap bytes never change.": those behind the header and in no bank
abbrev pub GapsStay : Type 0
GapsStay =
    (image : List ℕ) (code : ℕ) (p : List ℕ)
    → good image ≡ true
    → (i : ℕ)
    → 24 ≤ i
    → ((bank : ℕ) → bank ≤ 3 → (i < (bank_of (view image) bank).offset) ⊎ (end_of (bank_of (view image) bank) ≤ i))
    → byte (comes_to image code p).1 i ≡ byte image i

-- ---- Permalocks

-- A pair whose permalock bit is set stays as it is. P3: what such a region is asked is refused, "ignored", or "changes nothing".
pub record Permalocks (old new : Pairs) : Type 0 where
  pub kill : old.kill % 2 ≡ 1 → new.kill ≡ old.kill
  pub access : old.access % 2 ≡ 1 → new.access ≡ old.access
  pub epc : old.epc % 2 ≡ 1 → new.epc ≡ old.epc
  pub tid : old.tid % 2 ≡ 1 → new.tid ≡ old.tid
  pub user : old.user % 2 ≡ 1 → new.user ≡ old.user

-- a Lock, whatever it asks
abbrev pub PermalockRule : Type 0
PermalockRule = (image p : List ℕ) → Permalocks (pairs (view image).locks) (pairs_after image p)

-- any command: bytes 20 and 21 of the image, before and after it
abbrev pub PermalocksStay : Type 0
PermalocksStay =
    (image : List ℕ) (code : ℕ) (p : List ℕ)
    → good image ≡ true
    → Permalocks (pairs (number image 20)) (pairs (number (comes_to image code p).1 20))
