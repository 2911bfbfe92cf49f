-- `command_there` meets its contract: some of it, or all.
use mathlib.Core.Path.{◌∙◌}
use Rattle.sheet.proofs.Parts.{command_cut, command_whole}
use Rattle.sheet.proofs.telling.command_there.Goals as goal

pub returns-then-input-first : goal.returns-then-input-first
returns-then-input-first c =
    command_cut _ _ _ _ _ c.requires (c.from-pl.ensures ∙ c.number_at.ensures) c.if-input-first.true c.parse_command.ensures

pub returns : goal.returns
returns c =
    command_whole _ _ _ _ _ c.requires (c.from-pl.ensures ∙ c.number_at.ensures) c.parse_command-2.ensures
