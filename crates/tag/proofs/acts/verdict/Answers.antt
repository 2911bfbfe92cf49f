-- `verdict` meets its contract, command by command.
use Rattle.std.proofs.Common.{ap, sym, ◌∙◌}
use Rattle.tag.proofs.Admissions.{handed_on, absent, present, refused, admitted}
use Rattle.tag.specs.Commands.{if_present, admitted as admitted_of, of_tag, inventory_verdict, read_verdict, write_verdict, lock_verdict, kill_act, kill_verdict, verdict}
use Rattle.tag.proofs.acts.verdict.Goals as goal

pub returns-in_err-admit_present-in-Inventory : goal.returns-in_err-admit_present-in-Inventory
unfolding verdict inventory_verdict if_present
returns-in_err-admit_present-in-Inventory c =
    simp (c.in-Inventory.is, ← c.view_of-v.ensures)
    (handed_on _ _ c.from_residual.ensures ∙ absent _ _ _ c.admit_present.ensures c.in_err-admit_present-in-Inventory.was)

pub returns-in_ok-admit_present-in-Inventory : goal.returns-in_ok-admit_present-in-Inventory
unfolding verdict inventory_verdict if_present
returns-in_ok-admit_present-in-Inventory c =
    simp (c.in-Inventory.is, ← c.view_of-v.ensures)
    (present _ _ _ c.admit_present.ensures c.in_ok-admit_present-in-Inventory.was)

pub returns-in_err-admit-in-Read : goal.returns-in_err-admit-in-Read
unfolding verdict read_verdict admitted_of if_present
returns-in_err-admit-in-Read c =
    simp (c.in-Read.is, ← c.standing_to-s.ensures, ← c.view_of-v.ensures)
    (handed_on _ _ c.from_residual-in_err-admit-in-Read.ensures ∙ refused _ _ _ _ _ c.admit.ensures c.in_err-admit-in-Read.was)

pub returns-in_err-read_act-in-Read : goal.returns-in_err-read_act-in-Read
unfolding verdict read_verdict admitted_of if_present of_tag
returns-in_err-read_act-in-Read c =
    simp (c.in-Read.is, ← c.standing_to-s.ensures, ← c.view_of-v.ensures)
    (handed_on _ _ c.from_residual-in_err-read_act-in-Read.ensures
    ∙ sym (ap of_tag (sym c.read_act.ensures ∙ c.in_err-read_act-in-Read.was))
    ∙ admitted _ _ _ _ _ c.admit.ensures c.in_ok-admit-in-Read.was)

pub returns-in_ok-read_act-in-Read : goal.returns-in_ok-read_act-in-Read
unfolding verdict read_verdict admitted_of if_present of_tag
returns-in_ok-read_act-in-Read c =
    simp (c.in-Read.is, ← c.standing_to-s.ensures, ← c.view_of-v.ensures)
    (sym (ap of_tag (sym c.read_act.ensures ∙ c.in_ok-read_act-in-Read.was)) ∙ admitted _ _ _ _ _ c.admit.ensures c.in_ok-admit-in-Read.was)

pub returns-in_err-admit-in-Write : goal.returns-in_err-admit-in-Write
unfolding verdict write_verdict admitted_of if_present
returns-in_err-admit-in-Write c =
    simp (c.in-Write.is, ← c.standing_to-s-in-Write.ensures, ← c.view_of-v.ensures)
    (handed_on _ _ c.from_residual-in_err-admit-in-Write.ensures ∙ refused _ _ _ _ _ c.admit-in-Write.ensures c.in_err-admit-in-Write.was)

pub returns-in_err-write_act-in-Write : goal.returns-in_err-write_act-in-Write
unfolding verdict write_verdict admitted_of if_present of_tag
returns-in_err-write_act-in-Write c =
    simp (c.in-Write.is, ← c.standing_to-s-in-Write.ensures, ← c.view_of-v.ensures)
    (handed_on _ _ c.from_residual-in_err-write_act-in-Write.ensures
    ∙ sym (ap of_tag (sym c.write_act.ensures ∙ c.in_err-write_act-in-Write.was))
    ∙ admitted _ _ _ _ _ c.admit-in-Write.ensures c.in_ok-admit-in-Write.was)

pub returns-in_ok-write_act-in-Write : goal.returns-in_ok-write_act-in-Write
unfolding verdict write_verdict admitted_of if_present of_tag
returns-in_ok-write_act-in-Write c =
    simp (c.in-Write.is, ← c.standing_to-s-in-Write.ensures, ← c.view_of-v.ensures)
    (sym (ap of_tag (sym c.write_act.ensures ∙ c.in_ok-write_act-in-Write.was)) ∙ admitted _ _ _ _ _ c.admit-in-Write.ensures c.in_ok-admit-in-Write.was)

pub returns-in_err-admit-in-Lock : goal.returns-in_err-admit-in-Lock
unfolding verdict lock_verdict admitted_of if_present
returns-in_err-admit-in-Lock c =
    simp (c.in-Lock.is, ← c.standing_to-s-in-Lock.ensures, ← c.view_of-v.ensures)
    (handed_on _ _ c.from_residual-in_err-admit-in-Lock.ensures ∙ refused _ _ _ _ _ c.admit-in-Lock.ensures c.in_err-admit-in-Lock.was)

pub returns-in_ok-admit-in-Lock : goal.returns-in_ok-admit-in-Lock
unfolding verdict lock_verdict admitted_of if_present
returns-in_ok-admit-in-Lock c =
    simp (c.in-Lock.is, ← c.standing_to-s-in-Lock.ensures, ← c.view_of-v.ensures)
    (c.lock_act.ensures ∙ admitted _ _ _ _ _ c.admit-in-Lock.ensures c.in_ok-admit-in-Lock.was)

pub returns-in_err-admit_present-in-Kill : goal.returns-in_err-admit_present-in-Kill
unfolding verdict kill_verdict if_present
returns-in_err-admit_present-in-Kill c =
    simp (c.in-Kill.is, ← c.view_of-v.ensures)
    (handed_on _ _ c.from_residual-in_err-admit_present-in-Kill.ensures ∙ absent _ _ _ c.admit_present-in-Kill.ensures c.in_err-admit_present-in-Kill.was)

pub returns-in_ok-admit_present-in-Kill : goal.returns-in_ok-admit_present-in-Kill
unfolding verdict kill_verdict if_present
returns-in_ok-admit_present-in-Kill c =
    simp (c.in-Kill.is, ← c.view_of-v.ensures)
    (c.kill_act.ensures ∙ ap kill_act c.kill_standing_to.ensures ∙ present _ _ _ c.admit_present-in-Kill.ensures c.in_ok-admit_present-in-Kill.was)
