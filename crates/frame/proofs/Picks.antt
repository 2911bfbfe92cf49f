-- Laws of `pick`, the choice by a test: what it is where the test is known, and the proof by cases.
use Rattle.std.proofs.Common.{◌≡◌, Bool, true, false, not, ◌&&◌, ◌||◌, refl}
use Rattle.frame.specs.Bytes.{pick}

pub pick_true {ℓ} : {X : Type ℓ} (x y : X) → pick true x y ≡ x
unfolding pick
pick_true x y = refl

pub pick_false {ℓ} : {X : Type ℓ} (x y : X) → pick false x y ≡ y
unfolding pick
pick_false x y = refl

-- a property of both outcomes, each under what the test then says, is one of the choice
pub by_test {ℓ κ} : {X : Type ℓ} (P : X → Type κ) (test : Bool) {x y : X} → (test ≡ true → P x) → (test ≡ false → P y) → P (pick test x y)
unfolding pick
by_test P true yes-case no-case = yes-case refl
by_test P false yes-case no-case = no-case refl

-- a choice after a test "or", and after a test "not both", is two choices
pub pick_or {ℓ} : {X : Type ℓ} (a b : Bool) (x y : X) → pick (a || b) x y ≡ pick a x (pick b x y)
unfolding pick
pick_or true b x y = refl
pick_or false b x y = refl

pub pick_not_both {ℓ} : {X : Type ℓ} (a b : Bool) (x y : X) → pick (not (a && b)) x y ≡ pick (not a) x (pick (not b) x y)
unfolding pick
pick_not_both true b x y = refl
pick_not_both false b x y = refl

-- a choice the other way round; and one after a test "both" or "all three", as the choices that fail first
pub pick_not {ℓ} : {X : Type ℓ} (a : Bool) (x y : X) → pick a x y ≡ pick (not a) y x
unfolding pick
pick_not true x y = refl
pick_not false x y = refl

pub pick_both {ℓ} : {X : Type ℓ} (a b : Bool) (x y : X) → pick (a && b) x y ≡ pick (not a) y (pick (not b) y x)
unfolding pick
pick_both true b x y = pick_not b x y
pick_both false b x y = refl

pub pick_all_three {ℓ} : {X : Type ℓ} (a b c : Bool) (x y : X) → pick (a && (b && c)) x y ≡ pick (not a) y (pick (not b) y (pick (not c) y x))
unfolding pick
pick_all_three true b c x y = pick_both b c x y
pick_all_three false b c x y = refl
