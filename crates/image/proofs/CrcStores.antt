-- The CRC word and stores: a store away from PC and EPC leaves it right, and where it is stored anew it is right.
use Prim.Native.Nat.{ℕ, ◌+◌, ◌*◌, ◌≤◌, ◌<◌}
use lib.ListN.{length}
use lib.Seq.{sets}
use mathlib.Core.List.{List}
use mathlib.Core.Path.{◌≡◌, ap, sym, subst, ◌∙◌}
use native.Mathlib.Nat.{add-zero}
use native.Mathlib.Omega.{arith}
use Rattle.crc.specs.Crc.{tag_crc}
use Rattle.frame.proofs.Numbers.{number_two_bytes, length_bytes_of}
use Rattle.frame.proofs.Stores.{byte_sets_before, number_sets_before, number_sets_behind, number_sets_in, part_sets_before, part_sets_behind}
use Rattle.frame.specs.Bytes.{number, part, two_bytes}
use Rattle.image.proofs.Changes.{view_sets}
use Rattle.image.proofs.GoodImages.{Good, CrcKept}
use Rattle.image.specs.Image.{view, bank_at, word_at, epc_length, pc_and_epc, crc_word, with_crc}
use Rattle.image.specs.declared.header.Bank.{Bank}
use Rattle.image.specs.declared.header.View.{View}

crc_small : (image : List ℕ) → crc_word image < 65536
unfolding crc_word tag_crc
crc_small image = omega arith

-- how many bytes PC and EPC have
abbrev epc_bytes : List ℕ → ℕ
epc_bytes image = 2 + 2 * epc_length (view image).pc

-- the same place, length and bytes
crc_same : (image new : List ℕ) → (view new).epc ≡ (view image).epc → (view new).pc ≡ (view image).pc
    → part new ((view image).epc.offset + 2) (epc_bytes image) ≡ part image ((view image).epc.offset + 2) (epc_bytes image)
    → crc_word new ≡ crc_word image
unfolding crc_word pc_and_epc word_at
crc_same image new epc pc bytes = ap tag_crc (rw (epc, pc) bytes)

-- ---- a store that leaves the PC, or that keeps away from PC and EPC

module _ (image : List ℕ) (at : ℕ) (vs : List ℕ) (from : 20 ≤ at) where
  epc_stays : (view (sets image at vs)).epc ≡ (view image).epc
  epc_stays = ap (λ (v : View). v.epc) (view_sets image at vs from)

  pub offset_stays : (view (sets image at vs)).epc.offset ≡ (view image).epc.offset
  offset_stays = ap (λ (b : Bank). b.offset) epc_stays

  pc_stays : number (sets image at vs) (number image 10 + 2) ≡ number image (number image 10 + 2) → (view (sets image at vs)).pc ≡ (view image).pc
  unfolding view bank_at
  pc_stays e = ap (λ (v : View). v.pc) (view_sets image at vs from) ∙ e

  pub kept_before : CrcKept image → (view image).epc.offset + 2 + epc_bytes image ≤ at → CrcKept (sets image at vs)
  unfolding view bank_at
  kept_before kept away =
      rw offset_stays
      (number_sets_before image at vs (view image).epc.offset (omega arith)
      ∙ kept
      ∙ sym
      (crc_same image (sets image at vs) epc_stays (pc_stays (number_sets_before image at vs (number image 10 + 2) (omega arith)))
      (part_sets_before image at vs ((view image).epc.offset + 2) (epc_bytes image) away)))

  pub kept_behind : CrcKept image → at + length vs ≤ (view image).epc.offset → CrcKept (sets image at vs)
  unfolding view bank_at
  kept_behind kept away =
      rw offset_stays
      (number_sets_behind image at vs (view image).epc.offset away
      ∙ kept
      ∙ sym
      (crc_same image (sets image at vs) epc_stays (pc_stays (number_sets_behind image at vs (number image 10 + 2) (omega arith)))
      (part_sets_behind image at vs ((view image).epc.offset + 2) (epc_bytes image) (omega arith))))

-- ---- the CRC word stored anew

module _ (image : List ℕ) (g : Good (view image)) (at : ℕ) (place : at ≡ (view image).epc.offset) where
  two : length (two_bytes (crc_word image)) ≡ 2
  two = length_bytes_of 2 (crc_word image)

  same_view : view (with_crc at image) ≡ view image
  unfolding with_crc view bank_at
  same_view =
      let bytes : List ℕ = two_bytes (crc_word image) in
      view_sets image at bytes (omega arith)
      ∙ simp (
        number_sets_behind image at bytes (number image 10 + 2) (omega (arith, two)),
        number_sets_before image at bytes 20 (omega arith),
        byte_sets_before image at bytes 22 (omega arith),
      )

  pub good_anew : Good (view (with_crc at image))
  good_anew = subst Good (sym same_view) g

  pub stored_crc : number (with_crc at image) at ≡ crc_word image
  unfolding with_crc view bank_at
  stored_crc =
      let bytes : List ℕ = two_bytes (crc_word image) in
      ap (number (sets image at bytes)) (sym (add-zero at))
      ∙ number_sets_in image at bytes 0 (omega (arith, two)) (omega arith)
      ∙ number_two_bytes (crc_word image) (crc_small image)

  pub kept_anew : CrcKept (with_crc at image)
  unfolding with_crc view bank_at
  kept_anew =
      let bytes : List ℕ = two_bytes (crc_word image) in
      ap (λ (v : View). number (sets image at bytes) v.epc.offset) same_view
      ∙ ap (number (sets image at bytes)) (sym place)
      ∙ stored_crc
      ∙ sym
      (crc_same image (sets image at bytes) (ap (λ (v : View). v.epc) same_view) (ap (λ (v : View). v.pc) same_view)
      (part_sets_behind image at bytes ((view image).epc.offset + 2) (epc_bytes image) (omega (arith, two))))
