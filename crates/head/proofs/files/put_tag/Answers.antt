-- `put_tag` meets its contract: the file by its name, and the newline.
use Rattle.head.proofs.FilePuts.{one_name, crate_name, named_file}
use Rattle.head.specs.Files.{tag_name, file_text}
use Rattle.text.proofs.Writing.{word_put, put_behind}
use Rattle.text.specs.Writing.{Puts}
use Rattle.head.proofs.files.put_tag.Goals as goal
use Rattle.head.proofs.files.put_tag.Goals.{then-numbered, else-numbered}

pub returns : goal.returns
returns c =
    let file : Puts 26 (file_text (tag_name c.args.numbered c.args.i) c.args.size) c.args.writer.now c.if-numbered.writer =
    elim c.if-numbered.branch [
      | then-numbered w ↦ named_file c.args.size (crate_name c.args.i w.if-numbered.true) w.writer-is w.put_file.ensures
      | else-numbered w ↦ named_file c.args.size (one_name c.args.i w.if-numbered.false) w.writer-is w.put_file-else-numbered.ensures
    ]
    in
    put_behind file (word_put c.put_text.ensures)
