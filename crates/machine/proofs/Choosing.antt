-- A selection that is empty, or on a bank other than Reserved, sees no password: a tag that differs in its passwords alone is selected in both memories or in
-- none.
use Prim.Native.Nat.{ℕ, zero, suc, ◌+◌, ◌-◌, ◌*◌, ◌/◌, ◌%◌, ◌^◌, ◌≤◌, ◌<◌}
use borrow.Author.Tests.{eqb-true, leb-true}
use lib.Dec.{eqb, ltb}
use lib.ListN.{length}
use mathlib.Core.Bool.{Bool, true, false, not, ◌&&◌}
use mathlib.Core.List.{List}
use mathlib.Core.Logic.{◌⊎◌, inl, inr, ⊎_elim}
use mathlib.Core.Path.{◌≡◌, refl, ap, ap₂, ◌∙◌}
use native.Mathlib.Omega.{arith}
use Rattle.effects.proofs.Secret.{Pair, sight, gx}
use Rattle.effects.proofs.Twins.{byte_behind}
use Rattle.effects.specs.Secrecy.{passwords_at}
use Rattle.frame.proofs.Picks.{pick_true, pick_false}
use Rattle.frame.proofs.Tests.{either, all_at}
use Rattle.frame.specs.Bytes.{pick, byte}
use Rattle.image.proofs.Places.{placed}
use Rattle.image.specs.Image.{view, bank_of}
use Rattle.image.specs.declared.header.View.{View}
use Rattle.population.specs.Below.{all_below}
use Rattle.population.specs.Lowest.{selected_image}
use Rattle.population.specs.Matching.{bit_at, same_bit, same_bits, mask_found, matches}
use Rattle.population.specs.Selections.{action_of, mask_bank, mask_pointer, mask_bits, taken, good_selection}

-- two tests that agree below n
below_same : (test other : ℕ → Bool) (n : ℕ) → ((k : ℕ) → k < n → test k ≡ other k) → all_below test n ≡ all_below other n
unfolding all_below
below_same test other zero h = refl
below_same test other (suc n) h = ap₂ (λ (a b : Bool). a && b) (h n (omega arith)) (below_same test other n (λ k l. h k (omega arith)))

-- what a good selection looks at
pub Blind : List ℕ → Type 0
Blind s = (length s ≡ 0) ⊎ (1 ≤ mask_bank s)

pub good_blind : (s : List ℕ) → good_selection s ≡ true → Blind s
unfolding Blind good_selection taken
good_blind s g =
    either (eqb (length s) 0) (λ e. inl (eqb-true (length s) 0 e))
    (λ e. inr (leb-true 1 (mask_bank s) (all_at _ 2 (simp (e, pick_false) at g))))

module _ (a b x y : List ℕ) (t : Pair a b x y) (s : List ℕ) where
  module _ (bank : 1 ≤ mask_bank s) where
    same_bit_lem : (at k : ℕ) → passwords_at a + 8 ≤ (at + k) / 8 → same_bit x at s k ≡ same_bit y at s k
    unfolding same_bit bit_at
    same_bit_lem at k h =
        ap (λ (n : ℕ). eqb (n / 2 ^ (7 - (at + k) % 8) % 2) (byte s ((56 + k) / 8) / 2 ^ (7 - (56 + k) % 8) % 2))
        (byte_behind (passwords_at a) x y t.elsewhere ((at + k) / 8) h)

    known_bank : mask_bank s ≤ 3
    unfolding mask_bank
    known_bank = omega arith

    abbrev offset : ℕ
    offset = (bank_of (view x) (mask_bank s)).offset

    behind : passwords_at a + 8 ≤ offset
    unfolding passwords_at
    behind = omega (arith, (placed (view x) (gx a b x y t) (mask_bank s) known_bank).behind bank, t.first.kept.place)

    same_bits_lem : same_bits x (8 * offset + mask_pointer s) s (mask_bits s) ≡ same_bits y (8 * offset + mask_pointer s) s (mask_bits s)
    unfolding same_bits
    same_bits_lem =
        below_same (same_bit x (8 * offset + mask_pointer s) s) (same_bit y (8 * offset + mask_pointer s) s) (mask_bits s)
        (λ k l. same_bit_lem (8 * offset + mask_pointer s) k (omega (arith, behind)))

    same_mask : mask_found x s ≡ mask_found y s
    unfolding mask_found
    same_mask =
        ap
        (λ (r : Bool).
        pick (eqb (mask_bits s) 0) true (pick (ltb (16 * (bank_of (view x) (mask_bank s)).words) (mask_pointer s + mask_bits s)) false r))
        same_bits_lem
        ∙ ap
        (λ (v : View).
        pick (eqb (mask_bits s) 0) true
        (pick (ltb (16 * (bank_of v (mask_bank s)).words) (mask_pointer s + mask_bits s)) false
        (same_bits y (8 * (bank_of v (mask_bank s)).offset + mask_pointer s) s (mask_bits s))))
        (sight a b x y t)

  same_matches : Blind s → matches x s ≡ matches y s
  unfolding Blind matches
  same_matches =
      ⊎_elim (λ e. simp (e, pick_true))
      (λ bank. ap (λ (r : Bool). pick (eqb (length s) 0) true (pick (eqb (action_of s) 4) (not r) r)) (same_mask bank))

  pub same_selected : Blind s → selected_image s x ≡ selected_image s y
  unfolding selected_image view
  same_selected known = ap₂ (λ (v : View) (r : Bool). eqb v.state 0 && r) (sight a b x y t) (same_matches known)
