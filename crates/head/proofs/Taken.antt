-- How many commands are taken, step by step: more steps than there are bytes change nothing.
use Prim.Native.Nat.{ℕ, zero, suc, ◌+◌, ◌-◌, ◌≤◌, ◌<◌}
use lib.ListN.{length, take, drop, length-drop}
use lib.Seq.{take_all}
use mathlib.Core.List.{List, [], ◌∷◌}
use mathlib.Core.Path.{◌≡◌, refl, ap, sym, ◌∙◌}
use native.Mathlib.Omega.{arith}
use Rattle.frame.specs.Bytes.{pick}
use Rattle.frame.specs.Finding.{find}
use Rattle.frame.specs.Formats.{commands}
use Rattle.frame.specs.Frames.{frame_length}
use Rattle.frame.specs.declared.finding.Found.{Found}
use Rattle.frame.specs.declared.finding.Found.TheVariants.{End, Drop, Wait, Accept}
use Rattle.frame.specs.declared.finding.Reason.{Reason}
use Rattle.head.specs.Claims.{ByTheRules}
use Rattle.head.specs.Commands.{taken_for, taken_by, commands_in}
use Rattle.std.proofs.Common.{◌⊎◌, inl, inr}

-- of the bytes that are left at least one is taken, or nothing more is counted
same_for : (f g : List ℕ → ℕ) (rest : List ℕ) → ((k : ℕ) → 0 < k → f (drop k rest) ≡ g (drop k rest)) → (found : Found)
    → taken_for f rest found ≡ taken_for g rest found
unfolding taken_for frame_length
same_for f g rest same End = refl
same_for f g rest same Wait = refl
same_for f g rest same (Drop r) = same 1 (omega arith)
same_for f g rest same (Accept pl) = ap (λ (n : ℕ). 1 + n) (same (7 + pl) (omega arith))

none_taken : (n : ℕ) (rest : List ℕ) → length rest ≤ 0 → taken_by n rest ≡ 0
unfolding taken_by taken_for find pick
none_taken zero rest h = refl
none_taken (suc n) [] h = refl
none_taken (suc n) (b ∷ rest) h = absurd (omega arith)

enough : (m n : ℕ) (rest : List ℕ) → length rest ≤ m → length rest ≤ n → taken_by m rest ≡ taken_by n rest
unfolding taken_by
enough zero n rest h k = sym (none_taken n rest h)
enough (suc m) zero rest h k = none_taken (suc m) rest k
enough (suc m) (suc n) rest h k =
    same_for (taken_by m) (taken_by n) rest
    (λ j some. let left = length-drop j rest in enough m n (drop j rest) (omega arith) (omega arith))
    (find commands rest)

one_step : (n : ℕ) (rest : List ℕ) → taken_by (suc n) rest ≡ taken_for (taken_by n) rest (find commands rest)
unfolding taken_by
one_step n rest = refl

pub unrolled : (rest : List ℕ) → commands_in rest ≡ taken_for commands_in rest (find commands rest)
unfolding commands_in
unrolled rest =
    enough (length rest) (suc (length rest)) rest (omega arith) (omega arith)
    ∙ one_step (length rest) rest
    ∙ same_for (taken_by (length rest)) commands_in rest
    (λ k some. enough (length rest) (length (drop k rest)) (drop k rest) (omega (arith, length-drop k rest)) (omega arith))
    (find commands rest)

-- a byte is dropped only where there is one
pub drop_there : (rest : List ℕ) (r : Reason) → find commands rest ≡ Drop r → 1 ≤ length rest
unfolding find pick
drop_there [] r e = let z : ◌≡◌ {A = ℕ} 0 1 = cc in absurd (omega arith)
drop_there (b ∷ rest) r e = omega arith

-- The finding rules alone say it.
pub by_rules : (rest : List ℕ) → ByTheRules rest
unfolding taken_for frame_length
by_rules rest =
    record {
      at_end = λ e. unrolled rest ∙ ap (taken_for commands_in rest) e;
      waiting = λ e. unrolled rest ∙ ap (taken_for commands_in rest) e;
      dropped = λ r e. unrolled rest ∙ ap (taken_for commands_in rest) e;
      accepted = λ pl e. unrolled rest ∙ ap (taken_for commands_in rest) e;
    }

-- ---- what is left of the input behind so many bytes

module _ (rest : List ℕ) where
  left_is : (bytes : ℕ) → take (length rest - bytes) (drop bytes rest) ≡ drop bytes rest
  left_is bytes = take_all (length rest - bytes) (drop bytes rest) (omega (arith, length-drop bytes rest))

  pub length_left : (bytes : ℕ) → length (take (length rest - bytes) (drop bytes rest)) ≡ length rest - bytes
  length_left bytes = ap length (left_is bytes) ∙ length-drop bytes rest

  pub none_more : {found : Found} → found ≡ find commands rest → (found ≡ End) ⊎ (found ≡ Wait) → commands_in rest ≡ 0
  none_more is stops =
      elim stops [
        | inl e ↦ (by_rules rest).at_end (sym is ∙ e)
        | inr e ↦ (by_rules rest).waiting (sym is ∙ e)
      ]

  pub after_drop : (r : Reason) → find commands rest ≡ Drop r → commands_in rest ≡ commands_in (take (length rest - 1) (drop 1 rest))
  after_drop r e = (by_rules rest).dropped r e ∙ ap commands_in (sym (left_is 1))

  pub after_accept : (pl : ℕ) → find commands rest ≡ Accept pl
      → commands_in rest ≡ 1 + commands_in (take (length rest - (7 + pl)) (drop (7 + pl) rest))
  after_accept pl e = (by_rules rest).accepted pl e ∙ ap (λ (l : List ℕ). 1 + commands_in l) (sym (left_is (7 + pl)))
