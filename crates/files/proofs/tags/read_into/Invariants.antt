-- Each file is read behind the one before it, and has room there.
use Rattle.files.proofs.Reading.{FilesRead}
use Rattle.files.proofs.tags.read_into.Given as goal

abbrev pub invariant-loop-i : goal.invariant-loop-i
invariant-loop-i g l = FilesRead l.initial.memory l.initial.sizes l.memory l.sizes l.count l.at l.i
