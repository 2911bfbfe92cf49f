-- What a Write stores: the named words and EPC word 0, and nothing else.
use Prim.Native.Nat.{ℕ, zero, suc, ◌+◌, ◌*◌, ◌/◌, ◌^◌, ◌≤◌, ◌<◌}
use borrow.Author.Tests.{eqb-true, eqb-false}
use lib.Dec.{eqb}
use lib.ListN.{length}
use lib.Seq.{sets, length-sets}
use mathlib.Core.Bool.{true, false}
use mathlib.Core.List.{List}
use mathlib.Core.Logic.{◌≢◌, ⊎_elim}
use mathlib.Core.Path.{◌≡◌, refl, ap, sym, subst, ◌∙◌}
use native.Mathlib.Omega.{arith}
use Rattle.effects.specs.Claims.{Written}
use Rattle.crc.specs.Crc.{tag_crc}
use Rattle.frame.proofs.Numbers.{length_bytes_of}
use Rattle.frame.proofs.Picks.{pick_true, pick_false}
use Rattle.frame.proofs.Stores.{byte_sets_before, byte_sets_behind, number_sets_before, number_sets_behind, part_sets, part_sets_behind}
use Rattle.frame.proofs.Tests.{either, and_second}
use Rattle.frame.specs.Bytes.{pick, number, part, two_bytes}
use Rattle.image.proofs.CrcStores.{kept_before, stored_crc}
use Rattle.image.proofs.GoodImages.{Good, good_facts, crc_kept_lem}
use Rattle.image.proofs.ImageTable.{good_images}
use Rattle.image.specs.Image.{good, view, bank_at, bank_of, word_at, epc_length, crc_word, with_crc}
use Rattle.tag.proofs.Cases.{Writes, place_of}
use Rattle.tag.proofs.NamedWords.{Inside, inside, away, data_length}
use Rattle.tag.proofs.StaysGood.{good_store, good_write}
use Rattle.tag.specs.Answers.{crc_kept}
use Rattle.tag.specs.Commands.{bank_in, pointer_in, data_in, names_crc}

-- a good image holds the CRC word where its header says
crc_there : (l : List ℕ) (word : ℕ) → good l ≡ true → number l 10 ≡ word
    → number l word ≡ tag_crc (part l (word + 2) (2 + 2 * (number l (word + 2) / 2 ^ 11)))
crc_there l word h e =
    subst (λ (k : ℕ). number l k ≡ tag_crc (part l (k + 2) (2 + 2 * (number l (k + 2) / 2 ^ 11)))) e ((good_images l).0 h).crc_in_word_0

positive : (n : ℕ) → n ≢ 0 → 1 ≤ n
positive zero some = absurd (some refl)
positive (suc n) some = omega arith

behind_epc : (pc pointer word : ℕ) → pc / 2 ^ 11 + 1 < pointer → word + 4 + 2 * epc_length pc ≤ word + 2 * pointer
unfolding epc_length
behind_epc pc pointer word behind = omega arith

module _ (image p : List ℕ) (h : good image ≡ true) (w : Writes image p) where
  abbrev word : ℕ
  word = number image 10

  abbrev at : ℕ
  at = place_of image p

  -- the image with the named words
  abbrev named : List ℕ
  named = sets image at (data_in p)

  g : Good (view image)
  g = good_facts image h

  there : Inside image p
  there = inside image p g w.aim

  room : at + length (data_in p) ≤ length image
  room = omega (arith, there.to, data_length image p w)

  header_stays : number named 10 ≡ word
  header_stays = number_sets_before image at (data_in p) 10 (omega (arith, there.from))

  -- ---- a Write to another bank

  other_bank : eqb (bank_in p) 1 ≡ false → good named ≡ true → Written image p named word
  unfolding view bank_at
  other_bank other good_new =
      record {
        named_words = part_sets image at (data_in p) room;
        crc_word_is = crc_there named word good_new header_stays;
        all_else_stays = λ i outside away-from-crc.
            ⊎_elim (λ before. byte_sets_before image at (data_in p) i before) (λ behind. byte_sets_behind image at (data_in p) i behind) outside;
        crc_stays = λ why.
            ⊎_elim (λ before. number_sets_behind image at (data_in p) word (omega (arith, data_length image p w)))
            (λ behind. number_sets_before image at (data_in p) word (omega (arith, g.epc_least)))
            (away image p g w.aim other);
        same_length = length-sets image at (data_in p);
      }

  -- ---- a Write to the EPC bank

  module _ (epc : eqb (bank_in p) 1 ≡ true) where
    place_is : at ≡ word + 2 * pointer_in p
    unfolding bank_of pick view bank_at word_at
    place_is = ap (λ (bank : ℕ). word_at (bank_of (view image) bank) (pointer_in p)) (eqb-true (bank_in p) 1 epc)

    -- the named words stand behind EPC word 0
    behind_word : word + 2 ≤ at
    unfolding names_crc
    behind_word =
        let some : eqb (pointer_in p) 0 ≡ false = and_second (eqb (bank_in p) 1) (eqb (pointer_in p) 0) epc w.not_crc in
        rw place_is (omega (arith, positive (pointer_in p) (eqb-false _ _ some)))

    good_named : Good (view named)
    good_named = good_store image p g w

    offset_stays : word ≡ (view named).epc.offset
    unfolding view bank_at
    offset_stays = sym header_stays

    two : length (two_bytes (crc_word named)) ≡ 2
    two = length_bytes_of 2 (crc_word named)

    -- where the words are behind PC and EPC, the CRC is the one that was stored before
    unchanged_crc : word + 4 + 2 * epc_length (view image).pc ≤ at → crc_word named ≡ number image word
    unfolding view bank_at
    unchanged_crc away-from-epc =
        sym (kept_before image at (data_in p) (omega (arith, there.from)) (crc_kept_lem image h) (omega arith))
        ∙ ap (number named) header_stays
        ∙ number_sets_before image at (data_in p) word (omega arith)

    epc_bank : good (with_crc word named) ≡ true → Written image p (with_crc word named) word
    unfolding with_crc view bank_at
    epc_bank good_new =
        let crc : List ℕ = two_bytes (crc_word named) in
        record {
          named_words = part_sets_behind named word crc at (length (data_in p)) (omega (arith, two, behind_word)) ∙ part_sets image at (data_in p) room;
          crc_word_is = crc_there (sets named word crc) word good_new (number_sets_before named word crc 10 (omega (arith, g.reserved_place, g.epc_place)) ∙ header_stays);
          all_else_stays = λ i outside away-from-crc.
              ⊎_elim (λ before. byte_sets_before named word crc i before) (λ behind. byte_sets_behind named word crc i (omega (arith, two))) away-from-crc
              ∙ ⊎_elim (λ before. byte_sets_before image at (data_in p) i before) (λ behind. byte_sets_behind image at (data_in p) i behind) outside;
          crc_stays = λ why.
              stored_crc named good_named word offset_stays
              ∙ ⊎_elim (λ other. absurd (other (eqb-true (bank_in p) 1 epc)))
              (λ behind. unchanged_crc (rw place_is (behind_epc (number image (word + 2)) (pointer_in p) word behind)))
              why;
          same_length = length-sets named word crc ∙ length-sets image at (data_in p);
        }

  pub written : Written image p (crc_kept (bank_in p) word named) word
  unfolding crc_kept view bank_at
  written =
      let good_new : good (crc_kept (bank_in p) word named) ≡ true = good_write image p h w in
      either (eqb (bank_in p) 1)
      (λ epc. simp (epc, pick_true) (epc_bank epc (simp (epc, pick_true) at good_new)))
      (λ other. simp (other, pick_false) (other_bank other (simp (other, pick_false) at good_new)))
