-- `admit` meets its contract: the state comes before the password.
use Rattle.std.proofs.Common.{◌≡◌, false, inl, inr}
use Rattle.frame.specs.Bytes.{pick}
use Rattle.tag.specs.Commands.{gone}
use Rattle.tag.specs.Locks.{is_wrong}
use Rattle.tag.proofs.Admissions.{let_through}
use Rattle.tag.proofs.admission.admit.Goals as goal

pub returns-in-Wrong : goal.returns-in-Wrong
unfolding pick is_wrong
returns-in-Wrong c =
    let there : gone c.args.v ≡ false = let_through _ _ c.admit_present.ensures c.in_ok-admit_present.was in
    simp (there, c.in-Wrong.is)

pub returns-in-Secured : goal.returns-in-Secured
unfolding pick is_wrong
returns-in-Secured c =
    let there : gone c.args.v ≡ false = let_through _ _ c.admit_present.ensures c.in_ok-admit_present.was in
    elim c.in-Secured.is [ inl secured ↦ simp (there, secured) | inr other ↦ simp (there, other) ]
