-- All that the page is made of, opened at once for what is computed.
use Rattle.head.specs.Commands.{taken_for, taken_by, commands_in, commands_text}
use Rattle.head.specs.Files.{tag_name, file_text, tag_lines}
use Rattle.head.specs.Head.{title_line, column_lines, head_of}
use Rattle.page.specs.Page.{sheet_of}
use Rattle.report.specs.Report.{any_long, too_long}
use Rattle.sheet.proofs.Computed.{opened as sheet}

unfoldable pub opened : Unit {0}
unfolding sheet any_long too_long taken_for taken_by commands_in commands_text tag_name file_text tag_lines title_line column_lines head_of sheet_of
opened = tt
