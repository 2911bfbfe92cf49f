-- Laws of reaching bytes and of copying them: where the bytes are not all there, or have no room, nothing changes; else one byte more
-- is copied at each turn.
use Rattle.std.proofs.Common.{◌≡◌, ℕ, ◌+◌, ◌<◌, ◌≤◌, true, false, List, ◌++◌, length, get_or, set, take, drop, add-one, sym, ap, ◌∙◌, arith, length-drop, length-take-le, get_or-drop, take_all, get_or-take, le-leb, leb-true}
use lib.Seq.{sets, sets-eq, paste, paste-suc}
use mathlib.Core.Bool.{and-false}
use Rattle.frame.specs.Bytes.{part, reaches}
use Rattle.frame.specs.Copying.{copied}
use Rattle.frame.proofs.Picks.{pick_true, pick_false}

module _ (bytes : List ℕ) (i n : ℕ) where
  pub there_reaches : i + n ≤ length bytes → reaches bytes i n ≡ true
  unfolding reaches
  there_reaches h = le-leb (i + n) (length bytes) h

  pub reaches_there : reaches bytes i n ≡ true → i + n ≤ length bytes
  unfolding reaches
  reaches_there h = leb-true (i + n) (length bytes) h

-- a part that is all there
module _ (bytes : List ℕ) (i n : ℕ) (there : i + n ≤ length bytes) where
  pub length_part_inside : length (part bytes i n) ≡ n
  unfolding part
  length_part_inside = length-take-le n (drop i bytes) (omega (arith, length-drop i bytes))

  pub part_at : (k : ℕ) → k < n → get_or (part bytes i n) k 0 ≡ get_or bytes (i + k) 0
  unfolding part
  part_at k h = get_or-take n (drop i bytes) k 0 h ∙ get_or-drop i bytes k 0

module _ (from : List ℕ) (start n : ℕ) (to : List ℕ) (at : ℕ) where
  pub copied_short : reaches from start n ≡ false → to ≡ copied from start n to at
  unfolding copied
  copied_short short = simp (short, pick_false)

  pub copied_no_room : reaches to at n ≡ false → to ≡ copied from start n to at
  unfolding copied
  copied_no_room none = simp (none, and-false, pick_false)

  module _ (there : start + n ≤ length from) (room : at + n ≤ length to) where
    pub copied_is : copied from start n to at ≡ sets to at (part from start n)
    unfolding copied
    copied_is = simp (there_reaches from start n there, there_reaches to at n room, pick_true)

    pub copied_more : (i : ℕ) → i < n
        → set (paste to at (part from start n) i) (at + i) (get_or from (start + i) 0) ≡ paste to at (part from start n) (i + 1)
    copied_more i more =
        rw (← part_at from start n there i more, add-one)
        (paste-suc to at (part from start n) i 0 (omega arith) (omega (arith, length_part_inside from start n there)))

    pub copied_whole : paste to at (part from start n) n ≡ copied from start n to at
    copied_whole =
        let whole : length (part from start n) ≡ n = length_part_inside from start n there in
        ap (λ (l : List ℕ). take at to ++ l ++ drop (at + n) to) (take_all n (part from start n) (omega arith))
        ∙ ap (λ (k : ℕ). take at to ++ part from start n ++ drop (at + k) to) (sym whole)
        ∙ sym (sets-eq (part from start n) to at (omega arith))
        ∙ sym copied_is
