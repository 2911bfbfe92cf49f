-- What a caller knows of an accepted frame: every test of the finding rules, read backwards from the answer. Over any format.
use Rattle.std.proofs.Common.{◌≡◌, ℕ, ◌+◌, ◌≤◌, true, false, not, ◌&&◌, eqb, ltb, leb, List, length, arith, ltb-false, eqb-true, le-leb}
use borrow.Author.Tests.{not-false}
use Rattle.frame.specs.Bytes.{byte}
use Rattle.frame.specs.Finding.{find}
use Rattle.frame.specs.Formats.{Format}
use Rattle.frame.specs.Frames.{frame_length}
use Rattle.frame.specs.declared.finding.Found.{Found}
use Rattle.frame.specs.declared.finding.Found.TheVariants.{End, Drop, Wait, Accept}
use Rattle.frame.specs.declared.finding.Reason.{Reason}
use Rattle.frame.specs.declared.finding.Reason.TheVariants.{NoHeader, WrongType, TooLong, WrongCheck, WrongEnd}
use Rattle.frame.proofs.Picks.{by_test}
use Rattle.frame.proofs.Tests.{and_second}

pub record Accepted (f : Format) (rest : List ℕ) (n : ℕ) : Type 0 where
  pub read : n ≡ f.length_in rest
  pub short : n ≤ f.longest
  pub fits : 7 + n ≤ length rest
  pub header : byte rest 0 ≡ f.head
  pub second_is_right : f.second_right (byte rest 1) ≡ true
  pub check_is_right : f.check_right (f.length_in rest) rest ≡ true
  pub end_is_right : f.end_right (f.length_in rest) rest ≡ true

module _ (f : Format) (rest : List ℕ) (n : ℕ) where
  abbrev Claim : Found → Type 0
  Claim found = found ≡ Accept n → Accepted f rest n

  no_end : Claim End
  no_end e = let z : ◌≡◌ {A = ℕ} 0 1 = cc in absurd (omega arith)

  no_drop : (r : Reason) → Claim (Drop r)
  no_drop r e = let z : ◌≡◌ {A = ℕ} 0 1 = cc in absurd (omega arith)

  no_wait : Claim Wait
  no_wait e = let z : ◌≡◌ {A = ℕ} 0 1 = cc in absurd (omega arith)

  module _
      (header : not (eqb (byte rest 0) f.head) ≡ false)
      (second : (leb 2 (length rest) && not (f.second_right (byte rest 1))) ≡ false)
      (short : (leb 5 (length rest) && ltb f.longest (f.length_in rest)) ≡ false)
      (whole : ltb (length rest) (frame_length (f.length_in rest)) ≡ false)
      (sum : not (f.check_right (f.length_in rest) rest) ≡ false)
      (last : not (f.end_right (f.length_in rest) rest) ≡ false) where
    all_passed : Claim (Accept (f.length_in rest))
    unfolding frame_length
    all_passed e =
        let same : n ≡ f.length_in rest = cc in
        let room : 7 + f.length_in rest ≤ length rest = ltb-false (length rest) (7 + f.length_in rest) whole in
        let typed : not (f.second_right (byte rest 1)) ≡ false = and_second _ _ (le-leb 2 (length rest) (omega arith)) second in
        let few : f.length_in rest ≤ f.longest = ltb-false f.longest (f.length_in rest) (and_second _ _ (le-leb 5 (length rest) (omega arith)) short) in
        record {
          read = same;
          short = omega arith;
          fits = omega arith;
          header = eqb-true (byte rest 0) f.head (not-false _ header);
          second_is_right = not-false _ typed;
          check_is_right = not-false _ sum;
          end_is_right = not-false _ last;
        }

  pub accepted : find f rest ≡ Accept n → Accepted f rest n
  unfolding find
  accepted =
      by_test Claim (eqb (length rest) 0) (λ none. no_end)
      (λ some. by_test Claim (not (eqb (byte rest 0) f.head)) (λ other. no_drop NoHeader)
      (λ header. by_test Claim (leb 2 (length rest) && not (f.second_right (byte rest 1))) (λ other. no_drop WrongType)
      (λ second. by_test Claim (leb 5 (length rest) && ltb f.longest (f.length_in rest)) (λ long. no_drop TooLong)
      (λ short. by_test Claim (ltb (length rest) (frame_length (f.length_in rest))) (λ part-there. no_wait)
      (λ whole. by_test Claim (not (f.check_right (f.length_in rest) rest)) (λ wrong. no_drop WrongCheck)
      (λ sum. by_test Claim (not (f.end_right (f.length_in rest) rest)) (λ wrong. no_drop WrongEnd)
      (λ last. all_passed header second short whole sum last)))))))
