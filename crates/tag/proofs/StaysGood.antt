-- Whatever a command does, a good image stays good.
use Prim.Native.Nat.{ℕ, ◌+◌, ◌-◌, ◌*◌, ◌/◌, ◌%◌, ◌≤◌, ◌<◌}
use borrow.Author.Tests.{leb-true, leb-false, ltb-true, ltb-false, le-leb, lt-ltb}
use lib.Dec.{eqb, leb, ltb}
use lib.ListN.{length}
use lib.Seq.{sets}
use mathlib.Core.Bool.{true, false}
use mathlib.Core.List.{List, [], ◌∷◌}
use mathlib.Core.Logic.{⊎_elim}
use mathlib.Core.Path.{◌≡◌, ap, sym, subst, ◌∙◌}
use native.Mathlib.Omega.{arith}
use Rattle.frame.proofs.Numbers.{byte_one, number_two_bytes, length_bytes_of}
use Rattle.frame.proofs.Stores.{byte_sets_before, byte_sets_behind, byte_sets_in, number_sets_before, number_sets_behind, number_sets_in}
use Rattle.frame.proofs.Picks.{by_test}
use Rattle.frame.proofs.Tests.{either}
use Rattle.frame.specs.Bytes.{byte, number, bytes_of, two_bytes}
use Rattle.tag.proofs.Cases.{Writes, place_of, new_bits, act_cases}
use Rattle.image.proofs.Places.{bank_cases}
use Rattle.tag.proofs.NamedWords.{Inside, inside, away, data_length}
use Rattle.image.proofs.Changes.{view_sets}
use Rattle.image.proofs.CrcStores.{offset_stays, kept_before, kept_behind, good_anew, kept_anew}
use Rattle.image.proofs.GoodImages.{Good, good_facts, crc_kept_lem, good_holds}
use Rattle.tag.proofs.LockPairs.{pairs_small, new_pairs_small, bits_small}
use Rattle.tag.specs.Answers.{crc_kept, changed}
use Rattle.tag.specs.Commands.{bank_in, pointer_in, count_in, data_in, ld_in, length_broken, act_of}
use Rattle.image.specs.Image.{good, view, bank_at, bank_of, word_at, epc_length}
use Rattle.tag.proofs.LockPairs.{Paired}
use Rattle.tag.specs.Locks.{pairs, new_pairs}
use Rattle.tag.specs.Errors.{Verdict}
use Rattle.image.specs.declared.header.Bank.{Bank}
use Rattle.image.specs.declared.header.View.{View}

-- a store from the lock bits on leaves the image good where the lock bits, the state and the PC after it are such
good_after : (image : List ℕ) (at : ℕ) (bytes : List ℕ) → Good (view image) → 20 ≤ at
    → number (sets image at bytes) 20 < 1024
    → byte (sets image at bytes) 22 ≤ 2
    → epc_length (number (sets image at bytes) ((view image).epc.offset + 2)) + 2 ≤ (view image).epc.words
    → Good (view (sets image at bytes))
unfolding view bank_at
good_after image at bytes g behind locks state fits =
    subst Good (sym (view_sets image at bytes behind))
    record {
      format_1 = g.format_1;
      total_lent = g.total_lent;
      total_least = g.total_least;
      total_most = g.total_most;
      reserved_words = g.reserved_words;
      epc_least = g.epc_least;
      epc_most = g.epc_most;
      tid_least = g.tid_least;
      tid_most = g.tid_most;
      user_most = g.user_most;
      upper_six = locks;
      state_known = state;
      reserved_place = g.reserved_place;
      epc_place = g.epc_place;
      tid_place = g.tid_place;
      user_place = g.user_place;
      last_end = g.last_end;
      epc_fits = fits;
    }

-- ---- a Write: the PC after it

-- where the new PC is among the data, the last check has seen it
broken_not : (v : View) (pointer count : ℕ) (words : List ℕ) → length_broken v 1 pointer count words ≡ false → pointer ≤ 1 → 1 < pointer + count
    → epc_length (number words (2 * (1 - pointer))) + 2 ≤ v.epc.words
unfolding length_broken
broken_not v pointer count words kept low far =
    ltb-false _ _ (simp (le-leb pointer 1 low, lt-ltb 1 (pointer + count) far) at kept)

module _ (image : List ℕ) (g : Good (view image)) (pointer count : ℕ) (words : List ℕ) (sized : length words ≡ 2 * count) where
  -- the PC of the image after the words are stored from `pointer` of bank b on
  pc_after : Bank → ℕ
  pc_after b = number (sets image (word_at b pointer) words) ((view image).epc.offset + 2)

  FitsAfter : ℕ → Bank → Type 0
  FitsAfter bank b =
      pointer + count ≤ b.words → length_broken (view image) bank pointer count words ≡ false → epc_length (pc_after b) + 2 ≤ (view image).epc.words

  -- the store is all before the PC, or all behind it
  before_it : (b : Bank) → word_at b pointer + 2 * count ≤ (view image).epc.offset + 2 → epc_length (pc_after b) + 2 ≤ (view image).epc.words
  unfolding view bank_at pc_after
  before_it b h =
      rw (number_sets_behind image (word_at b pointer) words ((view image).epc.offset + 2) (omega arith)) g.epc_fits

  behind_it : (b : Bank) → (view image).epc.offset + 3 < word_at b pointer → epc_length (pc_after b) + 2 ≤ (view image).epc.words
  unfolding view bank_at pc_after
  behind_it b h =
      rw (number_sets_before image (word_at b pointer) words ((view image).epc.offset + 2) (omega arith)) g.epc_fits

  -- the PC is among the words
  over_it : pointer ≤ 1 → 1 < pointer + count → pointer + count ≤ (view image).epc.words
      → length_broken (view image) 1 pointer count words ≡ false → epc_length (pc_after (view image).epc) + 2 ≤ (view image).epc.words
  unfolding view bank_at pc_after word_at
  over_it low far fits kept =
      let place : (view image).epc.offset + 2 ≡ word_at (view image).epc pointer + 2 * (1 - pointer) = omega arith in
      let new : number (sets image (word_at (view image).epc pointer) words) (word_at (view image).epc pointer + 2 * (1 - pointer)) ≡ number words (2 * (1 - pointer)) =
      number_sets_in image (word_at (view image).epc pointer) words (2 * (1 - pointer)) (omega arith) (omega arith)
      in
      subst (λ (n : ℕ). epc_length n + 2 ≤ (view image).epc.words)
      (sym (ap (λ (i : ℕ). number (sets image (word_at (view image).epc pointer) words) i) place ∙ new))
      (broken_not (view image) pointer count words kept low far)

  fits_after : (bank : ℕ) → bank ≤ 3 → FitsAfter bank (bank_of (view image) bank)
  unfolding FitsAfter word_at
  fits_after =
      bank_cases (view image) FitsAfter
      (λ fits kept. before_it (view image).reserved (omega arith))
      (λ fits kept.
      either (leb pointer 1)
      (λ low.
      either (ltb 1 (pointer + count))
      (λ far. over_it (leb-true _ _ low) (ltb-true _ _ far) fits kept)
      (λ near. before_it (view image).epc (omega (arith, ltb-false 1 (pointer + count) near))))
      (λ high. behind_it (view image).epc (omega (arith, leb-false pointer 1 high))))
      (λ fits kept. behind_it (view image).tid (omega arith))
      (λ fits kept. behind_it (view image).user (omega arith))

-- ---- the three stores

pub good_store : (image p : List ℕ) → Good (view image) → Writes image p → Good (view (sets image (place_of image p) (data_in p)))
unfolding FitsAfter pc_after view bank_at
good_store image p g w =
    let at : Inside image p = inside image p g w.aim in
    good_after image (place_of image p) (data_in p) g (omega arith)
    (rw (number_sets_before image (place_of image p) (data_in p) 20 (omega arith)) g.upper_six)
    (rw (byte_sets_before image (place_of image p) (data_in p) 22 (omega arith)) g.state_known)
    (fits_after image g (pointer_in p) (count_in p) (data_in p) (data_length image p w) (bank_in p) w.aim.bank_known w.aim.inside w.kept)

-- ---- and the CRC word

pub good_write : (image p : List ℕ) → good image ≡ true → Writes image p
    → good (crc_kept (bank_in p) (view image).epc.offset (sets image (place_of image p) (data_in p))) ≡ true
unfolding crc_kept
good_write image p h w =
    let g : Good (view image) = good_facts image h in
    let at : Inside image p = inside image p g w.aim in
    let new : List ℕ = sets image (place_of image p) (data_in p) in
    let place : (view image).epc.offset ≡ (view new).epc.offset = sym (offset_stays image (place_of image p) (data_in p) (omega (arith, at.from))) in
    let stored : Good (view new) = good_store image p g w in
    by_test (λ (l : List ℕ). good l ≡ true) (eqb (bank_in p) 1)
    (λ epc. good_holds _ (good_anew new stored _ place) (kept_anew new stored _ place))
    (λ not-epc.
    good_holds _ stored
    (⊎_elim (λ before. kept_behind image (place_of image p) (data_in p) (omega (arith, at.from)) (crc_kept_lem image h) (omega (arith, data_length image p w)))
    (λ behind. kept_before image (place_of image p) (data_in p) (omega (arith, at.from)) (crc_kept_lem image h) (omega (arith, g.epc_fits)))
    (away image p g w.aim not-epc)))

-- what a Lock stores is read again as it is
pub stored_locks : (image : List ℕ) (bits : ℕ) → 24 ≤ length image → bits < 1024 → number (sets image 20 (two_bytes bits)) 20 ≡ bits
stored_locks image bits there small =
    number_sets_in image 20 (two_bytes bits) 0 (omega (arith, length_bytes_of 2 bits)) (omega arith) ∙ number_two_bytes bits (omega arith)

pub new_locks_paired : (image p : List ℕ) → Paired (new_pairs (pairs (ld_in p / 1024)) (pairs (ld_in p % 1024)) (pairs (view image).locks))
new_locks_paired image p = new_pairs_small _ _ _ (pairs_small (ld_in p % 1024)) (pairs_small (view image).locks)

good_locks : (image : List ℕ) (bits : ℕ) → Good (view image) → bits < 1024 → Good (view (sets image 20 (two_bytes bits)))
unfolding view bank_at
good_locks image bits g small =
    let two : length (two_bytes bits) ≡ 2 = length_bytes_of 2 bits in
    good_after image 20 (two_bytes bits) g (omega arith) (rw (stored_locks image bits (omega arith) small) small)
    (rw (byte_sets_behind image 20 (two_bytes bits) 22 (omega arith)) g.state_known)
    (rw (number_sets_behind image 20 (two_bytes bits) ((view image).epc.offset + 2) (omega arith)) g.epc_fits)

good_killed : (image : List ℕ) → Good (view image) → Good (view (sets image 22 (1 ∷ [])))
unfolding view bank_at
good_killed image g =
    let new : byte (sets image 22 (1 ∷ [])) 22 ≡ 1 = byte_sets_in image 22 (1 ∷ []) 0 (omega arith) (omega arith) ∙ byte_one 1 in
    good_after image 22 (1 ∷ []) g (omega arith)
    (rw (number_sets_before image 22 (1 ∷ []) 20 (omega arith)) g.upper_six)
    (rw new (omega arith))
    (rw (number_sets_behind image 22 (1 ∷ []) ((view image).epc.offset + 2) (omega arith)) g.epc_fits)

-- "After every call a good image is good."
pub stays_good : (image p : List ℕ) (code : ℕ) → good image ≡ true → good (changed image p (act_of image code p)) ≡ true
unfolding changed bytes_of
stays_good image p code h =
    let g : Good (view image) = good_facts image h in
    act_cases (λ (verdict : Verdict). good (changed image p verdict) ≡ true) (λ e. h) (λ e. h) image p code
    (λ n. h)
    (λ n reads. h)
    (λ n writes. good_write image p h writes)
    (λ n secured.
    good_holds _ (good_locks image (new_bits image p) g (bits_small _ (new_locks_paired image p)))
    (kept_behind image 20 (two_bytes (new_bits image p)) (omega arith) (crc_kept_lem image h) (omega (arith, length_bytes_of 2 (new_bits image p)))))
    (λ n equal. good_holds _ (good_killed image g) (kept_behind image 22 (1 ∷ []) (omega arith) (crc_kept_lem image h) (omega arith)))
