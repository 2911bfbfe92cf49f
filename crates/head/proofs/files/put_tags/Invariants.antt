-- `put_tags` meets its contract. The loop's invariant: the lines of the first i tags are put.
use Prim.Native.Nat.{◌*◌}
use lib.ListN.{take}
use Rattle.head.specs.Files.{tag_lines}
use Rattle.text.specs.Writing.{Puts}
use Rattle.head.proofs.files.put_tags.Given as goal

abbrev pub invariant-loop-i : goal.invariant-loop-i
invariant-loop-i l = Puts (27 * l.i) (tag_lines l.numbered 0 (take l.i l.sizes)) l.initial.writer l.writer
