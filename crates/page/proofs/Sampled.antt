-- Pages as literal text, computed.
use mathlib.Core.Path.{refl}
use Rattle.page.proofs.Computed.{opened}
use Rattle.page.specs.Claims.{SampleSheet, FailingSheet}

pub sample_sheet : SampleSheet
unfolding opened
sample_sheet = refl

pub failing_sheet : FailingSheet
unfolding opened
failing_sheet = refl
