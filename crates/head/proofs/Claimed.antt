-- Every claim of specs/Claims.antt holds.
use Prim.Native.Nat.{ℕ, zero, suc, ◌+◌, ◌-◌, ◌≤◌}
use borrow.Author.Tests.{eq-eqb, ne_eqb}
use lib.ListN.{length, take, drop, length-append}
use lib.Seq.{sets, sets-eq, take-append-add, drop-length, drop-nil}
use mathlib.Core.List.{List, ◌∷◌, ◌++◌, append-nil}
use mathlib.Core.Path.{◌≡◌, refl, ap, ◌∙◌}
use native.Mathlib.Omega.{arith}
use Rattle.frame.proofs.Picks.{pick_true, pick_false}
use Rattle.frame.specs.Bytes.{pick}
use Rattle.head.proofs.Taken.{by_rules}
use Rattle.head.specs.Claims.{CommandsTaken, OneCommand, MoreCommands, OneName, CrateNames, columns, FileLines, HeadLines, TagLines}
use Rattle.head.specs.Commands.{commands_text}
use Rattle.head.specs.Files.{tag_name, file_text, tag_lines}
use Rattle.head.specs.Head.{title_line, column_lines, head_of}
use Rattle.text.proofs.Decimals.{one_digit}
use Rattle.text.proofs.Lengths.{length_spaces}
use Rattle.text.specs.Digits.{decimal}
use Rattle.text.specs.Laying.{spaces}

pub commands_taken : CommandsTaken
commands_taken = by_rules

pub one_name : OneName
unfolding tag_name pick
one_name i = refl

pub crate_names : CrateNames
unfolding tag_name pick
crate_names i = refl

pub one_command : OneCommand
unfolding commands_text pick
one_command = rw (one_digit 1 (omega arith))

pub more_commands : MoreCommands
unfolding commands_text
more_commands n other = simp (ne_eqb n 1 other, pick_false)

pub head_lines : HeadLines
unfolding head_of title_line column_lines
head_lines is_crate input sizes = refl

pub tag_lines_lem : TagLines
unfolding tag_lines
tag_lines_lem is_crate i = record { none = refl; one_more = λ size sizes. refl }

-- ---- a name and a length, with spaces between

drop_spaces : (k n : ℕ) → drop k (spaces n) ≡ spaces (n - k)
unfolding spaces
drop_spaces zero n = let e : n ≡ n - zero = omega arith in ap spaces e
drop_spaces (suc k) zero = let e : zero ≡ zero - suc k = omega arith in drop-nil (suc k) ∙ ap spaces e
drop_spaces (suc k) (suc n) = let e : n - k ≡ suc n - suc k = omega arith in drop_spaces k n ∙ ap spaces e

take_spaces : (k n : ℕ) → k ≤ n → take k (spaces n) ≡ spaces k
unfolding spaces
take_spaces zero n h = refl
take_spaces (suc k) zero h = absurd (omega arith)
take_spaces (suc k) (suc n) h = ap (λ (l : List ℕ). 32 ∷ l) (take_spaces k n (omega arith))

module _ (name : List ℕ) (size : ℕ) (room : length name + length (decimal size) ≤ 20) where
  named : sets (spaces 20) 0 name ≡ name ++ spaces (20 - length name)
  named =
      let e : 0 + length name ≡ length name = omega arith in
      sets-eq name (spaces 20) 0 (omega (arith, length_spaces 20))
      ∙ ap (λ (l : List ℕ). name ++ l) (ap (λ (k : ℕ). drop k (spaces 20)) e ∙ drop_spaces (length name) 20)

  left : take (20 - length (decimal size)) (name ++ spaces (20 - length name)) ≡ name ++ spaces (20 - length name - length (decimal size))
  left =
      let e : 20 - length (decimal size) ≡ length name + (20 - length name - length (decimal size)) = omega arith in
      ap (λ (k : ℕ). take k (name ++ spaces (20 - length name))) e
      ∙ take-append-add name (spaces (20 - length name)) (20 - length name - length (decimal size))
      ∙ ap (λ (l : List ℕ). name ++ l) (take_spaces (20 - length name - length (decimal size)) (20 - length name) (omega arith))

  row : sets (sets (spaces 20) 0 name) (20 - length (decimal size)) (decimal size) ≡ columns name size
  unfolding spaces
  row =
      let line : List ℕ = name ++ spaces (20 - length name) in
      let long : length line ≡ 20 = length-append name (spaces (20 - length name)) ∙ omega (arith, length_spaces (20 - length name)) in
      let all : 20 - length (decimal size) + length (decimal size) ≡ length line = omega arith in
      ap (λ (l : List ℕ). sets l (20 - length (decimal size)) (decimal size)) named
      ∙ sets-eq (decimal size) line (20 - length (decimal size)) (omega arith)
      ∙ ap (λ (l : List ℕ). take (20 - length (decimal size)) line ++ decimal size ++ l) (ap (λ (k : ℕ). drop k line) all ∙ drop-length line)
      ∙ append-nil (take (20 - length (decimal size)) line ++ decimal size)
      ∙ ap (λ (l : List ℕ). l ++ decimal size) left

pub file_lines : FileLines
unfolding file_text
file_lines name size room =
    record {
      one = λ e. rw (row name size room, eq-eqb size 1 e, pick_true);
      more = λ other. rw (row name size room, ne_eqb size 1 other, pick_false);
    }
