-- Laws of tests joined by "and", and of lists of tests.
use Rattle.std.proofs.Common.{◌≡◌, ℕ, zero, suc, Bool, true, false, not, ◌&&◌, ◌||◌, ltb, leb, List, [], ◌∷◌, get_or, sym, refl, ◌∙◌, ltb-false, ltb-true, le-leb}
use borrow.Author.Tests.{not-true, not-false, lt-leb}
use Rattle.frame.specs.Bytes.{all}

pub and_left : (a b : Bool) → (a && b) ≡ true → a ≡ true
and_left true b h = refl
and_left false b h = h

pub and_right : (a b : Bool) → (a && b) ≡ true → b ≡ true
and_right true b h = h
and_right false b h = cc

pub and_second : (a b : Bool) → a ≡ true → (a && b) ≡ false → b ≡ false
and_second true b h k = k
and_second false b h k = cc

pub and_both : (a b : Bool) → a ≡ true → b ≡ true → (a && b) ≡ true
and_both a b h k = simp (h, k)

pub or_neither : (a b : Bool) → (a || b) ≡ false → (a ≡ false) × (b ≡ false)
or_neither true b h = (h, cc)
or_neither false b h = (refl, h)

pub or_first : (a b : Bool) → a ≡ true → (a || b) ≡ true
or_first a b h = simp h

pub or_second : (a b : Bool) → b ≡ true → (a || b) ≡ true
or_second true b h = refl
or_second false b h = h

-- a proof by which of two tests holds
pub or_cases {ℓ} : {C : Type ℓ} (a b : Bool) → (a || b) ≡ true → (a ≡ true → C) → (b ≡ true → C) → C
or_cases true b h first second = first refl
or_cases false b h first second = second h

-- test k of a list of which every test holds
pub all_at : (ts : List Bool) (k : ℕ) → all ts ≡ true → get_or ts k true ≡ true
unfolding all
all_at [] k h = refl
all_at (t ∷ ts) zero h = and_left t (all ts) h
all_at (t ∷ ts) (suc k) h = all_at ts k (and_right t (all ts) h)

pub all_cons : (t : Bool) (ts : List Bool) → t ≡ true → all ts ≡ true → all (t ∷ ts) ≡ true
unfolding all
all_cons t ts h k = and_both t (all ts) h k

pub all_nil : all [] ≡ true
unfolding all
all_nil = refl

-- a proof by whether a test holds
pub either {ℓ} : {C : Type ℓ} (test : Bool) → (test ≡ true → C) → (test ≡ false → C) → C
either true yes-case no-case = yes-case refl
either false yes-case no-case = no-case refl

pub not_leb : (a b : ℕ) → not (leb a b) ≡ ltb b a
not_leb a b = either (ltb b a) (λ h. rw (h, lt-leb a b (ltb-true b a h))) (λ h. rw (h, le-leb a b (ltb-false b a h)))

-- ---- what a call's answer, tested by an `if`, says of the definition that it is promised to equal

pub holds : {answer test : Bool} → answer ≡ true → answer ≡ test → test ≡ true
holds a e = sym e ∙ a

pub fails : {answer test : Bool} → answer ≡ false → answer ≡ test → test ≡ false
fails a e = sym e ∙ a

pub not_holds : {answer test : Bool} → not answer ≡ true → answer ≡ test → test ≡ false
not_holds {answer = answer} a e = sym e ∙ not-true answer a

pub not_fails : {answer test : Bool} → not answer ≡ false → answer ≡ test → test ≡ true
not_fails {answer = answer} a e = sym e ∙ not-false answer a
