-- `put_fields` meets its contract, command by command.
use mathlib.Core.Path.{ap, sym}
use native.Mathlib.Omega.{arith}
use Rattle.naming.specs.Commands.{fields_text}
use Rattle.text.proofs.Writing.{nothing_put, word_put, put_behind, same_piece, more_room}
use Rattle.naming.proofs.commands.put_fields.Goals as goal

pub returns-in-Malformed : goal.returns-in-Malformed
unfolding fields_text
returns-in-Malformed c = same_piece (ap fields_text (sym c.in-Malformed.is)) (nothing_put 57 _)

pub returns-in-Inventory : goal.returns-in-Inventory
unfolding fields_text
returns-in-Inventory c = more_room 57 (omega arith) (same_piece (ap fields_text (sym c.in-Inventory.is)) (word_put c.put_text.ensures))

pub returns-in-Read : goal.returns-in-Read
unfolding fields_text
returns-in-Read c =
    more_room 57 (omega arith) (same_piece (ap fields_text (sym c.in-Read.is)) (put_behind (word_put c.put_text-in-Read.ensures) c.put_aim.ensures))

pub returns-in-Write : goal.returns-in-Write
unfolding fields_text
returns-in-Write c =
    same_piece (ap fields_text (sym c.in-Write.is)) (put_behind (word_put c.put_text-in-Write.ensures) c.put_aim-in-Write.ensures)

pub returns-in-Lock : goal.returns-in-Lock
unfolding fields_text
returns-in-Lock c = more_room 57 (omega arith) (same_piece (ap fields_text (sym c.in-Lock.is)) c.put_lock.ensures)

pub returns-in-Kill : goal.returns-in-Kill
unfolding fields_text
returns-in-Kill c = more_room 57 (omega arith) (same_piece (ap fields_text (sym c.in-Kill.is)) (word_put c.put_text-in-Kill.ensures))
