-- Where the named words of a Read or a Write lie in a good image.
use Prim.Native.Nat.{ℕ, ◌+◌, ◌*◌, ◌≤◌}
use lib.Dec.{eqb}
use lib.ListN.{length, length-drop}
use mathlib.Core.Bool.{false, true≢false}
use mathlib.Core.List.{List}
use mathlib.Core.Logic.{◌⊎◌, inl, inr}
use mathlib.Core.Path.{◌≡◌, ◌∙◌}
use native.Mathlib.Omega.{arith}
use Rattle.image.proofs.GoodImages.{Good}
use Rattle.image.proofs.Places.{bank_cases, Placed, placed}
use Rattle.image.specs.Image.{bank_of, word_at, view}
use Rattle.image.specs.declared.header.Bank.{Bank}
use Rattle.image.specs.declared.header.View.{View}
use Rattle.tag.proofs.Cases.{Aimed, place_of, Writes}
use Rattle.tag.specs.Commands.{bank_in, pointer_in, count_in, data_in}

-- the named words lie in their bank
pub record Inside (image p : List ℕ) : Type 0 where
  pub from : 24 ≤ place_of image p
  pub to : place_of image p + 2 * count_in p ≤ length image
  pub behind : 1 ≤ bank_in p → (view image).reserved.offset + 8 ≤ place_of image p

pub inside : (image p : List ℕ) → Good (view image) → Aimed (view image) (bank_in p) (pointer_in p) (count_in p) → Inside image p
unfolding word_at view
inside image p g a =
    let at : Placed (view image) (bank_in p) (bank_of (view image) (bank_in p)) = placed (view image) g (bank_in p) a.bank_known in
    record { from = omega arith; to = omega arith; behind = λ h. omega (arith, at.behind h) }

-- those of another bank lie before the EPC bank or behind it
pub away : (image p : List ℕ) → Good (view image) → Aimed (view image) (bank_in p) (pointer_in p) (count_in p) → eqb (bank_in p) 1 ≡ false
    → (place_of image p + 2 * count_in p ≤ (view image).epc.offset) ⊎ ((view image).epc.offset + 2 * (view image).epc.words ≤ place_of image p)
unfolding word_at
away image p g a not-epc =
    let v : View = view image in
    let Away : ℕ → Bank → Type 0 =
    λ bank b.
    eqb bank 1 ≡ false → pointer_in p + count_in p ≤ b.words
    → (word_at b (pointer_in p) + 2 * count_in p ≤ v.epc.offset) ⊎ (v.epc.offset + 2 * v.epc.words ≤ word_at b (pointer_in p))
    in
    bank_cases v Away (λ e fits. inl (omega arith)) (λ e fits. absurd (true≢false e)) (λ e fits. inr (omega arith)) (λ e fits. inr (omega arith)) (bank_in p)
    a.bank_known not-epc a.inside

pub data_length : (image p : List ℕ) → Writes image p → length (data_in p) ≡ 2 * count_in p
unfolding data_in
data_length image p w = length-drop 9 p ∙ omega (arith, w.fields)
