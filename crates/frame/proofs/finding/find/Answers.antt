-- `find` meets its contract: each return is one of the rules.
use Rattle.std.proofs.Common.{◌≡◌, ℕ, ◌+◌, ◌-◌, ◌≤◌, Bool, false, eqb, List, length, take, drop, sym, ap, ◌∙◌, arith, eq-eqb, ne_eqb, eqb-true}
use borrow.Author.Tests.{eqb-false}
use Rattle.frame.proofs.Tests.{holds, fails}
use Rattle.frame.specs.Bytes.{byte, part}
use Rattle.frame.specs.Formats.{commands, pl_in, sum_right, last_right}
use Rattle.frame.specs.Frames.{check_of, longest_command}
use Rattle.frame.proofs.Rules.{find_end, find_no_header, find_wrong_type, find_too_long, find_wait, find_check_wrong, find_last_wrong, find_accept, checked_between}
use Rattle.frame.proofs.finding.find.Goals as goal

-- the check that was computed is that of the frame's bytes
summed : (rest : List ℕ) (pl total : ℕ) → total ≡ check_of (take (5 + pl - 1) (drop 1 rest)) → total ≡ check_of (part rest 1 (4 + pl))
summed rest pl total e = e ∙ ap check_of (checked_between _ _)

-- a slice that is not empty has a first byte
some : {answer : Bool} (rest : List ℕ) → answer ≡ false → answer ≡ eqb (length rest) 0 → 1 ≤ length rest
some rest a e = omega (arith, eqb-false (length rest) 0 (fails a e))

pub returns-then-is_empty : goal.returns-then-is_empty
returns-then-is_empty c = sym (find_end commands _ (eqb-true _ _ (holds c.if-is_empty.true c.is_empty.ensures)))

pub returns-then-rest : goal.returns-then-rest
unfolding byte
returns-then-rest c = sym (find_no_header commands _ (some _ c.if-is_empty.false c.is_empty.ensures) c.if-rest.true)

pub returns-then-rest-eq1 : goal.returns-then-rest-eq1
unfolding byte
returns-then-rest-eq1 c =
    sym (find_wait commands _ (some _ c.if-is_empty.false c.is_empty.ensures) c.if-rest.false (λ two. absurd (omega arith)) (λ five. omega arith) (omega arith))

pub returns-then-rest-ne0 : goal.returns-then-rest-ne0
unfolding byte
returns-then-rest-ne0 c =
    sym (find_wrong_type commands _ (some _ c.if-is_empty.false c.is_empty.ensures) c.if-rest.false (omega (arith, some _ c.if-is_empty.false c.is_empty.ensures)) (ne_eqb _ _ c.if-rest-ne0.true))

pub returns-then-rest-lt5 : goal.returns-then-rest-lt5
unfolding byte
returns-then-rest-lt5 c =
    sym (find_wait commands _ (some _ c.if-is_empty.false c.is_empty.ensures) c.if-rest.false (λ two. eq-eqb _ _ c.if-rest-ne0.false) (λ five. omega arith) (omega arith))

pub returns-then-pl-gt80 : goal.returns-then-pl-gt80
unfolding byte pl_in longest_command
returns-then-pl-gt80 c =
    sym (find_too_long commands _ (some _ c.if-is_empty.false c.is_empty.ensures) c.if-rest.false (λ two. eq-eqb _ _ c.if-rest-ne0.false) (omega arith) (omega arith))

pub returns-then-rest-pl : goal.returns-then-rest-pl
unfolding byte pl_in longest_command
returns-then-rest-pl c =
    sym (find_wait commands _ (some _ c.if-is_empty.false c.is_empty.ensures) c.if-rest.false (λ two. eq-eqb _ _ c.if-rest-ne0.false) (λ five. omega arith) (omega arith))

pub returns-then-rest-pl-2 : goal.returns-then-rest-pl-2
unfolding byte pl_in longest_command sum_right last_right
returns-then-rest-pl-2 c =
    sym
    (find_check_wrong commands _ (some _ c.if-is_empty.false c.is_empty.ensures) c.if-rest.false (λ two. eq-eqb _ _ c.if-rest-ne0.false) (λ five. omega arith)
    _ (c.from-pl.ensures ∙ c.number_at.ensures) c.if-rest-pl.false (ne_eqb _ _ (λ right. c.if-rest-pl-2.true (right ∙ sym (summed _ _ _ c.check.ensures)))))

pub returns-then-rest-pl-ne126 : goal.returns-then-rest-pl-ne126
unfolding byte pl_in longest_command sum_right last_right
returns-then-rest-pl-ne126 c =
    sym
    (find_last_wrong commands _ (some _ c.if-is_empty.false c.is_empty.ensures) c.if-rest.false (λ two. eq-eqb _ _ c.if-rest-ne0.false) (λ five. omega arith)
    _ (c.from-pl.ensures ∙ c.number_at.ensures) c.if-rest-pl.false (eq-eqb _ _ (c.if-rest-pl-2.false ∙ summed _ _ _ c.check.ensures)) (ne_eqb _ _ c.if-rest-pl-ne126.true))

pub returns : goal.returns
unfolding byte pl_in longest_command sum_right last_right
returns c =
    sym
    (find_accept commands _ (some _ c.if-is_empty.false c.is_empty.ensures) c.if-rest.false (λ two. eq-eqb _ _ c.if-rest-ne0.false) (λ five. omega arith)
    _ (c.from-pl.ensures ∙ c.number_at.ensures) c.if-rest-pl.false (eq-eqb _ _ (c.if-rest-pl-2.false ∙ summed _ _ _ c.check.ensures)) (eq-eqb _ _ c.if-rest-pl-ne126.false))
