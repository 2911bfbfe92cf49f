-- The finding rules, by cases: what a property of the answer asks.
use Rattle.std.proofs.Common.{◌≡◌, ℕ, ◌≤◌, not, ◌&&◌, eqb, ltb, leb, List, [], ◌∷◌, length, refl, arith, eqb-true}
use borrow.Author.Tests.{eqb-false}
use Rattle.frame.proofs.Accepting.{Accepted, accepted}
use Rattle.frame.proofs.Rules.{find_end}
use Rattle.frame.proofs.Tests.{either}
use Rattle.frame.proofs.Picks.{by_test, pick_true, pick_false}
use Rattle.frame.specs.Bytes.{byte, first_of}
use Rattle.frame.specs.Finding.{find, reason_number}
use Rattle.frame.specs.Formats.{Format}
use Rattle.frame.specs.Frames.{frame_length}
use Rattle.frame.specs.declared.finding.Found.{Found}
use Rattle.frame.specs.declared.finding.Reason.{Reason}
use Rattle.frame.specs.declared.finding.Reason.TheVariants.{NoHeader, WrongType, TooLong, WrongCheck, WrongEnd}
use Rattle.frame.specs.declared.finding.Found.TheVariants.{End, Drop, Wait, Accept}

-- a byte that is dropped is there
pub drops_some : (f : Format) (rest : List ℕ) (r : Reason) → find f rest ≡ Drop r → 1 ≤ length rest
drops_some f rest r e =
    either (eqb (length rest) 0)
    (λ none.
    let ends : find f rest ≡ End = find_end f rest (eqb-true _ _ none) in
    let z : ◌≡◌ {A = ℕ} 0 1 = cc in
    absurd (omega arith))
    (λ some. omega (arith, eqb-false (length rest) 0 some))

pub find_cases : (f : Format) (rest : List ℕ) (P : Found → Type 0)
    → P End
    → ((r : Reason) → find f rest ≡ Drop r → 1 ≤ length rest → P (Drop r))
    → P Wait
    → ((pl : ℕ) → Accepted f rest pl → P (Accept pl))
    → P (find f rest)
find_cases f rest P ends drops waits accepts = go (find f rest) refl
  where
    go : (found : Found) → find f rest ≡ found → P found
    go End e = ends
    go (Drop r) e = drops r e (drops_some f rest r e)
    go Wait e = waits
    go (Accept pl) e = accepts pl (accepted f rest pl e)

-- the reason of a drop is that of the first test that fails, where the frame is all there
pub find_reason : (f : Format) (rest : List ℕ) (r : Reason) → find f rest ≡ Drop r
    → reason_number r
    ≡ first_of
    ((not (eqb (byte rest 0) f.head), 1)
    ∷ (leb 2 (length rest) && not (f.second_right (byte rest 1)), 2)
    ∷ (leb 5 (length rest) && ltb f.longest (f.length_in rest), 3)
    ∷ (not (f.check_right (f.length_in rest) rest), 4)
    ∷ [])
    5
unfolding find first_of reason_number
find_reason f rest r =
    by_test C (eqb (length rest) 0) (λ none e. let z : ◌≡◌ {A = ℕ} 0 1 = cc in absurd (omega arith)) λ some.
    by_test C (not (eqb (byte rest 0) f.head)) (λ h e. let same : NoHeader ≡ r = cc in rw (← same) (simp (h, pick_true))) λ header.
    by_test C (leb 2 (length rest) && not (f.second_right (byte rest 1)))
    (λ h e. let same : WrongType ≡ r = cc in rw (← same) (simp (header, h, pick_true, pick_false)))
    λ second.
    by_test C (leb 5 (length rest) && ltb f.longest (f.length_in rest))
    (λ h e. let same : TooLong ≡ r = cc in rw (← same) (simp (header, second, h, pick_true, pick_false)))
    λ short.
    by_test C (ltb (length rest) (frame_length (f.length_in rest))) (λ h e. let z : ◌≡◌ {A = ℕ} 0 1 = cc in absurd (omega arith)) λ whole.
    by_test C (not (f.check_right (f.length_in rest) rest))
    (λ h e. let same : WrongCheck ≡ r = cc in rw (← same) (simp (header, second, short, h, pick_true, pick_false)))
    λ sum.
    by_test C (not (f.end_right (f.length_in rest) rest))
    (λ h e. let same : WrongEnd ≡ r = cc in rw (← same) (simp (header, second, short, sum, pick_false)))
    (λ last e. let z : ◌≡◌ {A = ℕ} 0 1 = cc in absurd (omega arith))
  where
    C : Found → Type 0
    C found =
        found ≡ Drop r
        → reason_number r
        ≡ first_of
        ((not (eqb (byte rest 0) f.head), 1)
        ∷ (leb 2 (length rest) && not (f.second_right (byte rest 1)), 2)
        ∷ (leb 5 (length rest) && ltb f.longest (f.length_in rest), 3)
        ∷ (not (f.check_right (f.length_in rest) rest), 4)
        ∷ [])
        5
