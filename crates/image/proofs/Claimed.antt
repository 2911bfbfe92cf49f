-- A proof of the statement on the claims page, specs/Claims.antt.
use Rattle.image.proofs.ImageTable as ImageTable
use Rattle.image.specs.Claims.{GoodImages}

pub good_images : GoodImages
good_images = ImageTable.good_images
