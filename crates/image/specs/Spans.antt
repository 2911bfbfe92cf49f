-- Where the PC and the EPC stand in an image, as far as an answer and the CRC need it.
use Rattle.std.specs.Prelude.{ℕ, ◌+◌, ◌*◌, ◌/◌, ◌<◌, List, ◌≡◌}
use Rattle.image.specs.Image.{view}
use Rattle.image.specs.declared.header.Span.{Span}

pub record EpcSpan (image : List ℕ) (p : Span) : Type 0 where
  pub from_is : p.from ≡ (view image).epc.offset + 2
  pub count_is : p.count ≡ 2 + 2 * ((view image).pc / 2048)
  pub from_small : p.from < 65538
  pub count_small : p.count < 66
