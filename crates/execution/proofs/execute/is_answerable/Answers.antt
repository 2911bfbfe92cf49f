-- `is_answerable` meets its contract: the header, and the place of the PC and the EPC.
use Rattle.execution.proofs.ReachTests.{no_header, epc_had}
use mathlib.Core.Path.{◌∙◌}
use Rattle.execution.proofs.execute.is_answerable.Goals as goal

pub returns-then-image-lt24 : goal.returns-then-image-lt24
returns-then-image-lt24 c = no_header _ c.if-image-lt24.true

pub returns : goal.returns
returns c = c.reaches.ensures ∙ epc_had _ c.if-image-lt24.false _ c.epc_span-place.ensures
