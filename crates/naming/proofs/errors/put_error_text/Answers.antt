-- `put_error_text` meets its contract: the byte, a space and the words.
use Rattle.naming.proofs.ErrorTexts.{error_words_short}
use Rattle.naming.specs.Errors.{error_text}
use Rattle.text.proofs.Writing.{hex_put, word_put, put_behind, text_put}
use Rattle.naming.proofs.errors.put_error_text.Goals as goal

pub returns : goal.returns
unfolding error_text
returns c =
    put_behind (put_behind (hex_put _ c.put_hex.ensures) (word_put c.put_text.ensures))
    (text_put 33 c.error_words.ensures (error_words_short _) c.put_text-2.ensures)
