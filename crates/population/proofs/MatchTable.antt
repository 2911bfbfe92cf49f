-- A tag matches exactly as the rules of P5 say it, bit by bit.
use Prim.Native.Nat.{ℕ, ◌+◌, ◌*◌, ◌/◌, ◌%◌, ◌≤◌}
use borrow.Author.Tests.{eqb-true, eqb-false, eq-eqb, ltb-false}
use lib.Dec.{eqb, ltb}
use lib.ListN.{length}
use mathlib.Core.Bool.{Bool, true, false, not, true≢false}
use mathlib.Core.List.{List, [], ◌∷◌}
use mathlib.Core.Logic.{inl, inr, ⊎_elim, ◌↔◌}
use mathlib.Core.Path.{◌≡◌, refl, ap, sym, subst, ◌∙◌}
use native.Mathlib.Omega.{arith}
use Rattle.frame.proofs.Picks.{by_test}
use Rattle.frame.proofs.Tests.{either}
use Rattle.frame.specs.Bytes.{byte, double}
use Rattle.image.specs.Image.{view, bank_of}
use Rattle.image.specs.declared.header.Bank.{Bank}
use Rattle.population.proofs.Below.{below_all, below_each}
use Rattle.population.proofs.Matches.{HeaderBank, header_bank, empty_mask, in_bank, match_empty, match_turned, match_plain}
use Rattle.population.specs.Claims.{bit_from, MaskThere, Found, MatchingTags}
use Rattle.population.specs.Matching.{bit_at, same_bit, same_bits, mask_found, matches}
use Rattle.population.specs.Selections.{mask_bank, mask_pointer, mask_bits}
use Rattle.tag.specs.Claims.{words_of, offset_of}

-- ---- bits

bit_from_lem : (bytes : List ℕ) (from j : ℕ) → bit_at bytes (8 * from + j) ≡ bit_from bytes from j
unfolding bit_at
bit_from_lem bytes from j =
    let whole : (8 * from + j) / 8 ≡ from + j / 8 = omega arith in
    let rest : (8 * from + j) % 8 ≡ j % 8 = omega arith in
    rw (whole, rest)

module _ (image s : List ℕ) (from pointer k : ℕ) where
  image_bit : bit_at image (8 * from + pointer + k) ≡ bit_from image from (pointer + k)
  image_bit =
      let e : 8 * from + pointer + k ≡ 8 * from + (pointer + k) = omega arith in
      ap (λ (n : ℕ). bit_at image n) e ∙ bit_from_lem image from (pointer + k)

  bits_told : same_bit image (8 * from + pointer) s k ≡ true → bit_from image from (pointer + k) ≡ bit_from s 7 k
  unfolding same_bit
  bits_told h = sym image_bit ∙ eqb-true _ _ h ∙ bit_from_lem s 7 k

  bits_tell : bit_from image from (pointer + k) ≡ bit_from s 7 k → same_bit image (8 * from + pointer) s k ≡ true
  unfolding same_bit
  bits_tell h = eq-eqb _ _ (image_bit ∙ h ∙ sym (bit_from_lem s 7 k))

-- ---- the mask, in the bank that SelParam names

module _ (image s : List ℕ) where
  in_header : HeaderBank image (byte s 0 % 4) (bank_of (view image) (byte s 0 % 4))
  in_header = header_bank image (byte s 0 % 4) (omega arith)

  -- the mask against the bits from the pointer on
  same : Bool
  same = same_bits image (8 * offset_of image (byte s 0 % 4) + double s 1) s (byte s 5)

  there_told : double s 1 + byte s 5 ≤ 16 * words_of image (byte s 0 % 4) → same ≡ true → MaskThere image s (byte s 0 % 4)
  unfolding same same_bits
  there_told within h =
      record {
        not_past_the_end = within;
        every_bit = λ k l. bits_told image s (offset_of image (byte s 0 % 4)) (double s 1) k (below_each _ (byte s 5) h k l);
      }

  there_tells : MaskThere image s (byte s 0 % 4) → same ≡ true
  unfolding same same_bits
  there_tells m =
      below_all _ (byte s 5) (λ k l. bits_tell image s (offset_of image (byte s 0 % 4)) (double s 1) k (m.every_bit k l))

  found_told : mask_found image s ≡ true → Found image s (byte s 0 % 4)
  unfolding mask_found mask_bits mask_bank mask_pointer same
  found_told =
      let b : Bank = bank_of (view image) (byte s 0 % 4) in
      let P : Bool → Type 0 = λ (v : Bool). v ≡ true → Found image s (byte s 0 % 4) in
      by_test P (eqb (byte s 5) 0) (λ e _. inl (eqb-true _ _ e))
      (λ _. by_test P (ltb (16 * b.words) (double s 1 + byte s 5)) (λ _ h. absurd (true≢false (sym h)))
      (λ e h. inr
      (there_told (omega (arith, ltb-false (16 * b.words) (double s 1 + byte s 5) e, in_header.words_at)) (rw in_header.offset_at at h))))

  found_tells : Found image s (byte s 0 % 4) → mask_found image s ≡ true
  unfolding same
  found_tells =
      ⊎_elim (λ e. sym (empty_mask image s e))
      (λ m. either (eqb (byte s 5) 0) (λ e. sym (empty_mask image s (eqb-true _ _ e)))
      (λ e. sym
      (in_bank image s (byte s 5) (byte s 0) (double s 1) _ refl (eqb-false _ _ e) refl refl refl m.not_past_the_end _ true refl
      (sym (there_tells m)))))

-- ---- the turn

not_told : (b : Bool) → not b ≡ true → b ≡ true → ⊥
not_told true n h = true≢false (sym n)
not_told false n h = true≢false (sym h)

not_tells : (b : Bool) → (b ≡ true → ⊥) → not b ≡ true
not_tells true h = absurd (h refl)
not_tells false h = refl

some_bytes : (s : List ℕ) → 1 ≤ byte s 0 → length s ≡ 0 → ⊥
unfolding byte
some_bytes [] h e = omega arith
some_bytes (b ∷ s) h e = omega arith

module _ (image s : List ℕ) (bank : ℕ) (least : 1 ≤ bank) (most : bank ≤ 3) where
  plainly : byte s 0 ≡ bank → matches image s ≡ true ↔ Found image s bank
  plainly e =
      let same-bank : byte s 0 % 4 ≡ bank = omega arith in
      let plain : mask_found image s ≡ matches image s =
      match_plain image s (some_bytes s (omega arith)) (byte s 0) (mask_found image s) refl refl (λ z. omega arith)
      in (
        λ h. subst (Found image s) same-bank (found_told image s (plain ∙ h)),
        λ f. sym plain ∙ found_tells image s (subst (Found image s) (sym same-bank) f),
      )

  turned : byte s 0 ≡ 0x10 + bank → matches image s ≡ true ↔ (Found image s bank → ⊥)
  turned e =
      let same-bank : byte s 0 % 4 ≡ bank = omega arith in
      let round : not (mask_found image s) ≡ matches image s =
      let upper : byte s 0 / 4 ≡ 4 = omega arith in
      match_turned image s (some_bytes s (omega arith)) (byte s 0) (mask_found image s) refl refl (rw upper)
      in (
        λ h f. not_told (mask_found image s) (round ∙ h) (found_tells image s (subst (Found image s) (sym same-bank) f)),
        λ n. sym round ∙ not_tells (mask_found image s) (λ h. n (subst (Found image s) same-bank (found_told image s h))),
      )

pub matching_tags : MatchingTags
matching_tags image s =
    record {
      empty_selection = λ h. sym (match_empty image s h);
      as_it_is = plainly image s;
      turned_round = turned image s;
    }
