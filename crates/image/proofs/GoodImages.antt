-- A good image, by tests and by facts.
use Prim.Native.Nat.{ℕ, ◌+◌, ◌*◌, ◌≤◌, ◌<◌}
use borrow.Author.Tests.{eqb-true, leb-true, ltb-true, eq-eqb, le-leb, lt-ltb}
use lib.Dec.{eqb}
use lib.ListN.{length}
use mathlib.Core.Bool.{Bool, true, ◌&&◌}
use mathlib.Core.List.{List}
use mathlib.Core.Path.{◌≡◌}
use native.Mathlib.Omega.{arith}
use Rattle.frame.proofs.Tests.{and_left, and_right, and_both, all_at, all_cons, all_nil}
use Rattle.frame.specs.Bytes.{number}
use Rattle.image.specs.Image.{good, good_header, good_banks, good_tag, good_crc, word_at, end_of, epc_length, crc_word, view}
use Rattle.image.specs.declared.header.View.{View}

-- a good image as facts, one for each line of the table in document 01 and each sentence under it
pub record Good (v : View) : Type 0 where
  pub format_1 : v.format ≡ 1
  pub total_lent : v.total ≡ v.size
  pub total_least : 24 ≤ v.total
  pub total_most : v.total ≤ 2048
  pub reserved_words : v.reserved.words ≡ 4
  pub epc_least : 2 ≤ v.epc.words
  pub epc_most : v.epc.words ≤ 33
  pub tid_least : 1 ≤ v.tid.words
  pub tid_most : v.tid.words ≤ 32
  pub user_most : v.user.words ≤ 512
  pub upper_six : v.locks < 1024
  pub state_known : v.state ≤ 2
  pub reserved_place : 24 ≤ v.reserved.offset
  pub epc_place : v.reserved.offset + 8 ≤ v.epc.offset
  pub tid_place : v.epc.offset + 2 * v.epc.words ≤ v.tid.offset
  pub user_place : v.tid.offset + 2 * v.tid.words ≤ v.user.offset
  pub last_end : v.user.offset + 2 * v.user.words ≤ v.total
  pub epc_fits : epc_length v.pc + 2 ≤ v.epc.words

facts : (v : View) → good_header v ≡ true → good_banks v ≡ true → good_tag v ≡ true → Good v
unfolding good_header good_banks good_tag end_of word_at
facts v header banks tag =
    let words : v.reserved.words ≡ 4 = eqb-true _ _ (all_at _ 0 banks) in
    let total : v.total ≡ v.size = eqb-true _ _ (all_at _ 2 header) in
    let least : 24 ≤ v.size = leb-true _ _ (all_at _ 0 header) in
    let most : v.size ≤ 2048 = leb-true _ _ (all_at _ 3 header) in
    let epc : v.reserved.offset + 2 * v.reserved.words ≤ v.epc.offset = leb-true _ _ (all_at _ 7 banks) in
    record {
      format_1 = eqb-true _ _ (all_at _ 1 header);
      total_lent = total;
      total_least = omega arith;
      total_most = omega arith;
      reserved_words = words;
      epc_least = leb-true _ _ (all_at _ 1 banks);
      epc_most = leb-true _ _ (all_at _ 2 banks);
      tid_least = leb-true _ _ (all_at _ 3 banks);
      tid_most = leb-true _ _ (all_at _ 4 banks);
      user_most = leb-true _ _ (all_at _ 5 banks);
      upper_six = ltb-true _ _ (all_at _ 0 tag);
      state_known = leb-true _ _ (all_at _ 1 tag);
      reserved_place = leb-true _ _ (all_at _ 6 banks);
      epc_place = omega arith;
      tid_place = leb-true _ _ (all_at _ 8 banks);
      user_place = leb-true _ _ (all_at _ 9 banks);
      last_end = leb-true _ _ (all_at _ 10 banks);
      epc_fits = leb-true _ _ (all_at _ 2 tag);
    }

header_holds : (v : View) → Good v → good_header v ≡ true
unfolding good_header
header_holds v g =
    all_cons _ _ (le-leb 24 v.size (omega arith))
    (all_cons _ _ (eq-eqb _ _ g.format_1)
    (all_cons _ _ (eq-eqb _ _ g.total_lent) (all_cons _ _ (le-leb v.size 2048 (omega arith)) all_nil)))

banks_hold : (v : View) → Good v → good_banks v ≡ true
unfolding good_banks end_of word_at
banks_hold v g =
    all_cons _ _ (eq-eqb _ _ g.reserved_words)
    (all_cons _ _ (le-leb _ _ g.epc_least)
    (all_cons _ _ (le-leb _ _ g.epc_most)
    (all_cons _ _ (le-leb _ _ g.tid_least)
    (all_cons _ _ (le-leb _ _ g.tid_most)
    (all_cons _ _ (le-leb _ _ g.user_most)
    (all_cons _ _ (le-leb _ _ g.reserved_place)
    (all_cons _ _ (le-leb (v.reserved.offset + 2 * v.reserved.words) v.epc.offset (omega arith))
    (all_cons _ _ (le-leb _ _ g.tid_place)
    (all_cons _ _ (le-leb _ _ g.user_place) (all_cons _ _ (le-leb _ _ g.last_end) all_nil))))))))))

tag_holds : (v : View) → Good v → good_tag v ≡ true
unfolding good_tag
tag_holds v g =
    all_cons _ _ (lt-ltb _ _ g.upper_six)
    (all_cons _ _ (le-leb _ _ g.state_known) (all_cons _ _ (le-leb _ _ g.epc_fits) all_nil))

-- EPC word 0 holds the CRC word
abbrev pub CrcKept : List ℕ → Type 0
CrcKept image = number image (view image).epc.offset ≡ crc_word image

both_facts : (image : List ℕ) → good image ≡ true → Good (view image) × CrcKept image
unfolding good good_crc
both_facts image h =
    let v : View = view image in
    let last : Bool = eqb (number image v.epc.offset) (crc_word image) in
    let behind-header : (good_banks v && (good_tag v && last)) ≡ true = and_right (good_header v) (good_banks v && (good_tag v && last)) h in
    let behind-banks : (good_tag v && last) ≡ true = and_right (good_banks v) (good_tag v && last) behind-header in (
      facts v (and_left (good_header v) (good_banks v && (good_tag v && last)) h) (and_left (good_banks v) (good_tag v && last) behind-header)
          (and_left (good_tag v) last behind-banks),
      eqb-true _ _ (and_right (good_tag v) last behind-banks),
    )

pub good_facts : (image : List ℕ) → good image ≡ true → Good (view image)
good_facts image h = (both_facts image h).0

pub crc_kept_lem : (image : List ℕ) → good image ≡ true → CrcKept image
crc_kept_lem image h = (both_facts image h).1

pub good_holds : (image : List ℕ) → Good (view image) → CrcKept image → good image ≡ true
unfolding good good_crc
good_holds image g kept =
    let v : View = view image in
    let last : Bool = eqb (number image v.epc.offset) (crc_word image) in
    and_both (good_header v) (good_banks v && (good_tag v && last)) (header_holds v g)
    (and_both (good_banks v) (good_tag v && last) (banks_hold v g) (and_both (good_tag v) last (tag_holds v g) (eq-eqb _ _ kept)))

pub header_there : (image : List ℕ) → good image ≡ true → 24 ≤ length image
unfolding view
header_there image h = omega (arith, (good_facts image h).total_lent, (good_facts image h).total_least)
