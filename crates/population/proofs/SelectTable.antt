-- What Set Select takes is exactly what keeps the rules of P5, byte by byte.
use Prim.Native.Nat.{ℕ, ◌+◌, ◌/◌, ◌%◌, ◌<◌}
use borrow.Author.Tests.{eqb-true, eqb-false, eq-eqb}
use lib.Dec.{eqb, leb}
use lib.ListN.{length}
use mathlib.Core.Bool.{Bool, true, ◌&&◌, true≢false}
use mathlib.Core.List.{List}
use mathlib.Core.Logic.{◌⊎◌, inl, inr, ⊎_elim}
use mathlib.Core.Path.{◌≡◌, refl, sym, subst, ◌∙◌}
use native.Mathlib.Omega.{arith}
use Rattle.frame.proofs.Picks.{pick_true, by_test}
use Rattle.frame.proofs.Tests.{and_both, all_at, all_cons, all_nil, either}
use Rattle.frame.specs.Bytes.{pick, first_of, byte}
use Rattle.population.proofs.Below.{below_each}
use Rattle.population.proofs.Takings.{none_is_good, taken_decides}
use Rattle.population.specs.Below.{all_below}
use Rattle.population.specs.Claims.{listed, SelectRules, TakenSelections, GoodSelections}
use Rattle.population.specs.Selections.{target_of, action_of, mask_bank, mask_bits, truncate_of, mask_bytes, known_action, taken, good_selection}

-- ---- SelParam: the six that are listed, and the fields that are taken

record Fields (b : ℕ) : Type 0 where
  target : eqb (b / 32) 0 ≡ true
  action : known_action (b / 4 % 8) ≡ true
  bank : leb 1 (b % 4) ≡ true

fields_at : (n : ℕ) → Fields n → (b : ℕ) → eqb b n ≡ true → Fields b
fields_at n f b e = subst Fields (sym (eqb-true b n e)) f

listed_fields : (b : ℕ) → listed b ≡ true → Fields b
unfolding first_of
listed_fields b =
    let P : Bool → Type 0 = λ (v : Bool). v ≡ true → Fields b in
    by_test P (eqb b 0x01) (λ e _. fields_at 0x01 record { target = refl; action = refl; bank = refl } b e)
    (λ _. by_test P (eqb b 0x02) (λ e _. fields_at 0x02 record { target = refl; action = refl; bank = refl } b e)
    (λ _. by_test P (eqb b 0x03) (λ e _. fields_at 0x03 record { target = refl; action = refl; bank = refl } b e)
    (λ _. by_test P (eqb b 0x11) (λ e _. fields_at 0x11 record { target = refl; action = refl; bank = refl } b e)
    (λ _. by_test P (eqb b 0x12) (λ e _. fields_at 0x12 record { target = refl; action = refl; bank = refl } b e)
    (λ _. by_test P (eqb b 0x13) (λ e _. fields_at 0x13 record { target = refl; action = refl; bank = refl } b e)
    (λ _ h. absurd (true≢false (sym h))))))))

-- a SelParam with these fields is listed: computed for all 32 whose target is 000
fields_listed : ℕ → Bool
fields_listed b = pick (known_action (b / 4 % 8) && leb 1 (b % 4)) (listed b) true

all_listed : all_below fields_listed 32 ≡ true
unfolding fields_listed all_below first_of pick
all_listed = refl

fields_listed_lem : (b : ℕ) → Fields b → listed b ≡ true
unfolding fields_listed
fields_listed_lem b f =
    let low : b < 32 = omega (arith, eqb-true (b / 32) 0 f.target) in
    let both : (known_action (b / 4 % 8) && leb 1 (b % 4)) ≡ true = and_both _ _ f.action f.bank in
    sym (rw (both, pick_true)) ∙ below_each fields_listed 32 all_listed b low

-- ---- all parameters

module _ (s : List ℕ) where
  rules_kept : taken s ≡ true → SelectRules s
  unfolding taken target_of action_of mask_bank truncate_of mask_bytes mask_bits
  rules_kept h =
      let whole : length s ≡ 7 + (byte s 5 + 7) / 8 = eqb-true _ _ (all_at _ 4 h) in
      record {
        parameter_listed = fields_listed_lem (byte s 0) record { target = all_at _ 0 h; action = all_at _ 1 h; bank = all_at _ 2 h };
        truncate_0 = eqb-true _ _ (all_at _ 3 h);
        seven_bytes_first = omega arith;
        bits_have_room = omega arith;
        fewer_than_8_spare = omega arith;
      }

  rules_suffice : SelectRules s → taken s ≡ true
  unfolding taken target_of action_of mask_bank truncate_of mask_bytes mask_bits
  rules_suffice r =
      let f = listed_fields (byte s 0) r.parameter_listed in
      let whole : length s ≡ 7 + (byte s 5 + 7) / 8 = omega (arith, r.seven_bytes_first, r.bits_have_room, r.fewer_than_8_spare) in
      all_cons _ _ f.target
      (all_cons _ _ f.action
      (all_cons _ _ f.bank (all_cons _ _ (eq-eqb _ _ r.truncate_0) (all_cons _ _ (eq-eqb _ _ whole) all_nil))))

pub taken_selections : TakenSelections
taken_selections s = (rules_kept s, rules_suffice s)

pub good_selections : GoodSelections
unfolding good_selection
good_selections s = (
  by_test (λ (v : Bool). v ≡ true → (length s ≡ 0) ⊎ SelectRules s) (eqb (length s) 0)
      (λ e _. inl (eqb-true _ _ e))
      (λ _ h. inr (rules_kept s h)),
  ⊎_elim (λ e. sym (none_is_good s e))
      (λ r. either (eqb (length s) 0) (λ e. sym (none_is_good s (eqb-true _ _ e)))
      (λ e. sym (taken_decides s (eqb-false _ _ e) true (sym (rules_suffice s r))))),
)
