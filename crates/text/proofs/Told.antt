-- Laws of a text that is told part by part: a part and the rest, a piece and the rest, and pieces one behind the other.
use Prim.Native.Nat.{ℕ, zero, suc, ◌-◌, ◌≤◌, ◌<◌}
use borrow.Author.Tests.{lt-ltb, le-ltb, ltb-true, ltb-false}
use lib.Dec.{ltb}
use lib.ListN.{length, replicate}
use mathlib.Core.Bool.{Bool, true, false}
use mathlib.Core.List.{List, [], ◌∷◌, ◌++◌, append_assoc, append-nil}
use mathlib.Core.Path.{◌≡◌, refl, ap, sym, ◌∙◌}
use native.Mathlib.Omega.{arith}
use Rattle.frame.proofs.Picks.{pick_true, pick_false}
use Rattle.frame.proofs.Tests.{either}
use Rattle.frame.specs.Bytes.{pick}
use Rattle.text.specs.Telling.{Teller, left, text_by, text_from, Piece, nothing, behind, fill_by, fill, pieces}

module _ {S : Type 0} (t : Teller S) (falls : (s : S) → t.last s ≡ false → t.work (t.next s) < t.work s) where
  pub left_is : (s : S) → left t false s ≡ suc (t.work s)
  unfolding left
  left_is s = pick_false 0 (suc (t.work s))

  left_over : (s : S) → left t true s ≡ 0
  unfolding left
  left_over s = pick_true 0 (suc (t.work s))

  -- what is left is less behind each part
  pub left_falls : (s : S) → left t (t.last s) (t.next s) < left t false s
  unfolding left
  left_falls s =
      either (t.last s) (λ last. simp (last, pick_true, pick_false) (omega arith))
      (λ more.
      let less = falls s more in
      simp (more, pick_false) (omega arith))

  -- ---- the text

  enough_text : (m n : ℕ) (s : S) → left t false s ≤ m → left t false s ≤ n → text_by m t s ≡ text_by n t s
  unfolding text_by left
  enough_text zero n s hm hn = absurd (omega (arith, simp pick_false at hm))
  enough_text (suc m) zero s hm hn = absurd (omega (arith, simp pick_false at hn))
  enough_text (suc m) (suc n) s hm hn =
      either (t.last s) (λ last. simp (last, pick_true))
      (λ more.
      let less = falls s more in
      ap (λ (rest : List ℕ). t.part s ++ pick (t.last s) [] rest)
      (enough_text m n (t.next s) (simp pick_false (omega (arith, simp pick_false at hm))) (simp pick_false (omega (arith, simp pick_false at hn)))))

  pub text_over : (s : S) → text_from t true s ≡ []
  unfolding text_from
  text_over s = pick_true [] (text_by (left t true s) t s)

  pub text_more : (s : S) → text_from t false s ≡ t.part s ++ text_from t (t.last s) (t.next s)
  unfolding text_from left text_by
  text_more s =
      either (t.last s) (λ last. simp (last, pick_true, pick_false))
      (λ more.
      let less = falls s more in
      simp (more, pick_false)
      (ap (λ (rest : List ℕ). t.part s ++ rest) (enough_text (t.work s) (suc (t.work (t.next s))) (t.next s) (simp pick_false (omega arith)) (simp pick_false (omega arith)))))

  -- ---- a piece

  enough_fill : (m n most room : ℕ) (over : Bool) (s : S) → left t over s ≤ m → left t over s ≤ n → fill_by m t most room over s ≡ fill_by n t most room over s
  unfolding fill_by left
  enough_fill zero zero most room over s hm hn = refl
  enough_fill zero (suc n) most room true s hm hn = simp pick_true
  enough_fill zero (suc n) most room false s hm hn = absurd (omega (arith, simp pick_false at hm))
  enough_fill (suc m) zero most room true s hm hn = simp pick_true
  enough_fill (suc m) zero most room false s hm hn = absurd (omega (arith, simp pick_false at hn))
  enough_fill (suc m) (suc n) most room true s hm hn = simp pick_true
  enough_fill (suc m) (suc n) most room false s hm hn =
      let less = left_falls s in
      ap (λ (rest : Piece S). pick (ltb room most) (nothing false s) (behind (t.part s) rest))
      (enough_fill m n most (room - length (t.part s)) (t.last s) (t.next s) (omega (arith, hm)) (omega (arith, hn)))

  module _ (most : ℕ) where
    pub fill_over : (room : ℕ) (s : S) → fill t most room true s ≡ nothing true s
    unfolding fill left fill_by
    fill_over room s = simp pick_true

    pub fill_short : (room : ℕ) (over : Bool) (s : S) → room < most → fill t most room over s ≡ nothing over s
    unfolding fill left fill_by
    fill_short room true s h = simp pick_true
    fill_short room false s h = simp (pick_false, lt-ltb room most h, pick_true)

    fill_first : (room : ℕ) (s : S) → most ≤ room
        → fill_by (left t false s) t most room false s ≡ behind (t.part s) (fill_by (t.work s) t most (room - length (t.part s)) (t.last s) (t.next s))
    unfolding left fill_by
    fill_first room s h = simp (pick_false, le-ltb room most h)

    pub fill_more : (room : ℕ) (s : S) → most ≤ room
        → fill t most room false s ≡ behind (t.part s) (fill t most (room - length (t.part s)) (t.last s) (t.next s))
    unfolding fill
    fill_more room s h =
        fill_first room s h
        ∙ ap (λ (rest : Piece S). behind (t.part s) rest)
        (enough_fill (t.work s) (left t (t.last s) (t.next s)) most (room - length (t.part s)) (t.last s) (t.next s)
        (omega (arith, left_falls s, left_is s)) (omega arith))

    -- ---- a piece, and what is left behind it

    abbrev Splits : ℕ → Bool → S → Type 0
    Splits room over s = (fill t most room over s).bytes ++ text_from t (fill t most room over s).over (fill t most room over s).state ≡ text_from t over s

    splits_first : (room : ℕ) (over : Bool) (s : S) → (over ≡ false → Splits (room - length (t.part s)) (t.last s) (t.next s)) → Splits room over s
    splits_first room true s rest = rw (fill_over room s)
    splits_first room false s rest =
        either (ltb room most) (λ short. rw (fill_short room false s (ltb-true room most short)))
        (λ enough.
        rw (fill_more room s (ltb-false room most enough))
        (append_assoc (t.part s) _ _ ∙ ap (λ (l : List ℕ). t.part s ++ l) (rest refl) ∙ sym (text_more s)))

    splits_by : (n room : ℕ) (over : Bool) (s : S) → left t over s ≤ n → Splits room over s
    splits_by zero room over s h = splits_first room over s (λ on. absurd (omega (arith, left_is s, rw on at h)))
    splits_by (suc n) room over s h = splits_first room over s (λ on. splits_by n _ _ _ (omega (arith, left_falls s, rw on at h)))

    pub splits : (room : ℕ) (over : Bool) (s : S) → Splits room over s
    splits room over s = splits_by (left t over s) room over s (omega arith)

    abbrev LeftBy : ℕ → Bool → S → ℕ
    LeftBy room over s = left t (fill t most room over s).over (fill t most room over s).state

    no_more_first : (room : ℕ) (over : Bool) (s : S) → (over ≡ false → LeftBy (room - length (t.part s)) (t.last s) (t.next s) ≤ left t (t.last s) (t.next s))
        → LeftBy room over s ≤ left t over s
    no_more_first room true s rest = rw (fill_over room s) (omega arith)
    no_more_first room false s rest =
        either (ltb room most) (λ short. rw (fill_short room false s (ltb-true room most short)) (omega arith))
        (λ enough.
        let less = left_falls s in
        let few = rest refl in
        rw (fill_more room s (ltb-false room most enough)) (omega arith))

    no_more_by : (n room : ℕ) (over : Bool) (s : S) → left t over s ≤ n → LeftBy room over s ≤ left t over s
    no_more_by zero room over s h = no_more_first room over s (λ on. absurd (omega (arith, left_is s, rw on at h)))
    no_more_by (suc n) room over s h = no_more_first room over s (λ on. no_more_by n _ _ _ (omega (arith, left_falls s, rw on at h)))

    pub less_behind : (room : ℕ) (s : S) → most ≤ room → LeftBy room false s < left t false s
    less_behind room s h =
        let less = left_falls s in
        let rest = no_more_by (left t (t.last s) (t.next s)) (room - length (t.part s)) (t.last s) (t.next s) (omega arith) in
        rw (fill_more room s h) (omega arith)

    -- ---- pieces one behind the other

    pub all_pieces : (rooms : List ℕ) (over : Bool) (s : S)
        → (pieces t most rooms over s).bytes ++ text_from t (pieces t most rooms over s).over (pieces t most rooms over s).state ≡ text_from t over s
    unfolding pieces
    all_pieces [] over s = refl
    all_pieces (room ∷ rooms) over s =
        append_assoc (fill t most room over s).bytes _ _
        ∙ ap (λ (l : List ℕ). (fill t most room over s).bytes ++ l) (all_pieces rooms (fill t most room over s).over (fill t most room over s).state)
        ∙ splits room over s

    pub whole : (rooms : List ℕ) (s : S) → (pieces t most rooms false s).over ≡ true → (pieces t most rooms false s).bytes ≡ text_from t false s
    whole rooms s ended =
        let p : Piece S = pieces t most rooms false s in
        sym (append-nil p.bytes)
        ∙ ap (λ (l : List ℕ). p.bytes ++ l) (sym (text_over p.state))
        ∙ ap (λ (b : Bool). p.bytes ++ text_from t b p.state) (sym ended)
        ∙ all_pieces rooms false s

    none_left : (over : Bool) (s : S) → left t over s ≤ 0 → over ≡ true
    none_left true s h = refl
    none_left false s h = absurd (omega (arith, left_is s))

    less_by : (n room : ℕ) (over : Bool) (s : S) → most ≤ room → left t over s ≤ suc n → LeftBy room over s ≤ n
    less_by n room true s h few = rw (fill_over room s) (omega (arith, left_over s))
    less_by n room false s h few = omega (arith, less_behind room s h)

    pub enough : (n room : ℕ) (over : Bool) (s : S) → most ≤ room → left t over s ≤ n → (pieces t most (replicate n room) over s).over ≡ true
    unfolding pieces
    enough zero room over s h few = none_left over s few
    enough (suc n) room over s h few = enough n room _ _ h (less_by n room over s h few)
