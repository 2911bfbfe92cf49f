-- The rules of finding a frame, one law for each: what `find` is where the rule applies and those before it do not. Over any format.
use Rattle.std.proofs.Common.{◌≡◌, ℕ, ◌+◌, ◌-◌, ◌<◌, ◌≤◌, Bool, true, false, not, ◌&&◌, eqb, ltb, leb, List, length, take, drop, refl, arith, le-ltb, lt-ltb, eq-eqb, ne_eqb, le-leb, leb-true}
use Rattle.frame.specs.Bytes.{byte, part}
use Rattle.frame.specs.Finding.{find}
use Rattle.frame.specs.Formats.{Format}
use Rattle.frame.specs.Frames.{frame_length}
use Rattle.frame.specs.declared.finding.Found.TheVariants.{End, Drop, Wait, Accept}
use Rattle.frame.specs.declared.finding.Reason.TheVariants.{NoHeader, WrongType, TooLong, WrongCheck, WrongEnd}
use Rattle.frame.proofs.Picks.{pick_true, pick_false}

not_both : (one other : Bool) → (one ≡ true → other ≡ false) → (one && other) ≡ false
not_both true other h = h refl
not_both false other h = refl

module _ (f : Format) (rest : List ℕ) where
  pub find_end : length rest ≡ 0 → find f rest ≡ End
  unfolding find
  find_end none = simp (eq-eqb (length rest) 0 none, pick_true)

  pub find_no_header : 0 < length rest → (byte rest 0 ≡ f.head → ⊥) → find f rest ≡ Drop NoHeader
  unfolding find
  find_no_header some other =
      simp (ne_eqb (length rest) 0 (λ none. omega arith), ne_eqb (byte rest 0) f.head other, pick_true, pick_false)

  module _ (some : 0 < length rest) (header : byte rest 0 ≡ f.head) where
    some_left : eqb (length rest) 0 ≡ false
    some_left = ne_eqb (length rest) 0 (λ none. omega arith)

    header_there : not (eqb (byte rest 0) f.head) ≡ false
    header_there = simp (eq-eqb (byte rest 0) f.head header)

    pub find_wrong_type : 2 ≤ length rest → f.second_right (byte rest 1) ≡ false → find f rest ≡ Drop WrongType
    unfolding find
    find_wrong_type two other = simp (some_left, header_there, le-leb 2 (length rest) two, other, pick_true, pick_false)

    module _ (second : 2 ≤ length rest → f.second_right (byte rest 1) ≡ true) where
      second_there : (leb 2 (length rest) && not (f.second_right (byte rest 1))) ≡ false
      second_there = not_both _ _ (λ two. simp (second (leb-true 2 (length rest) two)))

      pub find_too_long : 5 ≤ length rest → f.longest < f.length_in rest → find f rest ≡ Drop TooLong
      unfolding find
      find_too_long five long =
          simp (
            some_left,
            header_there,
            second_there,
            le-leb 5 (length rest) five,
            lt-ltb f.longest (f.length_in rest) long,
            pick_true,
            pick_false,
          )

      module _ (short : 5 ≤ length rest → f.length_in rest ≤ f.longest) where
        short_there : (leb 5 (length rest) && ltb f.longest (f.length_in rest)) ≡ false
        short_there = not_both _ _ (λ five. le-ltb f.longest (f.length_in rest) (short (leb-true 5 (length rest) five)))

        pub find_wait : length rest < 7 + f.length_in rest → find f rest ≡ Wait
        unfolding find frame_length
        find_wait part-there =
            simp (
              some_left,
              header_there,
              second_there,
              short_there,
              lt-ltb (length rest) (7 + f.length_in rest) part-there,
              pick_true,
              pick_false,
            )

        -- the length read by whatever means
        module _ (n : ℕ) (read : n ≡ f.length_in rest) (whole : 7 + n ≤ length rest) where
          whole_there : ltb (length rest) (frame_length (f.length_in rest)) ≡ false
          unfolding frame_length
          whole_there = le-ltb (length rest) (7 + f.length_in rest) (rw read at whole)

          pub find_check_wrong : f.check_right n rest ≡ false → find f rest ≡ Drop WrongCheck
          unfolding find
          find_check_wrong wrong =
              simp (some_left, header_there, second_there, short_there, whole_there, rw read at wrong, pick_true, pick_false)

          module _ (right : f.check_right n rest ≡ true) where
            check_there : f.check_right (f.length_in rest) rest ≡ true
            check_there = rw read at right

            pub find_last_wrong : f.end_right n rest ≡ false → find f rest ≡ Drop WrongEnd
            unfolding find
            find_last_wrong wrong =
                simp (some_left, header_there, second_there, short_there, whole_there, check_there, rw read at wrong, pick_true, pick_false)

            pub find_accept : f.end_right n rest ≡ true → find f rest ≡ Accept n
            unfolding find
            find_accept last =
                simp (some_left, header_there, second_there, short_there, whole_there, check_there, rw read at last, pick_false, read)

-- the bytes between the BB and the check, as a part from 1 to 5 + PL
pub checked_between : (rest : List ℕ) (pl : ℕ) → take (5 + pl - 1) (drop 1 rest) ≡ part rest 1 (4 + pl)
unfolding part
checked_between rest pl =
    let e : 5 + pl - 1 ≡ 4 + pl = omega arith in
    rw e
