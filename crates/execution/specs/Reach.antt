-- What a command needs of the image, good or not: the header, the PC and the EPC for the answer, and the bytes that its act names.
use Rattle.std.specs.Prelude.{ℕ, ◌+◌, ◌*◌, Bool, true, ◌&&◌, List, Ok, Err, leb, length}
use Rattle.frame.specs.Bytes.{reaches}
use Rattle.tag.specs.Commands.{data_in}
use Rattle.image.specs.Image.{view, word_at, epc_length}
use Rattle.tag.specs.Errors.{Verdict}
use Rattle.tag.specs.declared.commands.Act.TheVariants.{Notify, Give, Store, Set}

-- the PC and the L words behind it are there
unfoldable pub has_epc : List ℕ → Bool
has_epc image = reaches image (word_at (view image).epc 1) (2 + 2 * epc_length (view image).pc)

-- what every answer needs: the header, the PC and the EPC
unfoldable pub answerable : List ℕ → Bool
answerable image = leb 24 (length image) && has_epc image

-- the bytes of a Read, no more than 32 words, are there; so is the room for a Write's data, which follow the first nine of the
-- parameters `p`, and for what a Lock or a Kill sets
unfoldable pub has_named : List ℕ → List ℕ → Verdict → Bool
has_named image p (Err refusal) = true
has_named image p (Ok Notify) = true
has_named image p (Ok (Give at n)) = leb n 64 && reaches image at n
has_named image p (Ok (Store at)) = leb 9 (length p) && reaches image at (length (data_in p))
has_named image p (Ok (Set code at count value)) = reaches image at count

unfoldable pub in_reach : List ℕ → List ℕ → Verdict → Bool
in_reach image p verdict = answerable image && has_named image p verdict
