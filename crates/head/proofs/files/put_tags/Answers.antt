-- `put_tags` meets its contract. The loop's invariant: the lines of the first i tags are put.
use Rattle.head.proofs.FilePuts.{no_tags, tags_next}
use Rattle.text.proofs.Writing.{nothing_put, same_piece}
use Rattle.head.proofs.files.put_tags.Goals as goal

pub loop-i-init : goal.loop-i-init
loop-i-init c = same_piece (no_tags _) (nothing_put 0 _)

pub loop-i-preserved : goal.loop-i-preserved
loop-i-preserved c = tags_next _ _ c.loop-i.i c.loop-i-test.true c.loop-i.invariant c.put_tag.ensures
