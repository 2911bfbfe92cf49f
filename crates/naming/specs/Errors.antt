-- What the sheet says of an error answer: its byte, and what that means.
use Rattle.std.specs.Prelude.{ℕ, List, [], ◌∷◌, ◌++◌, eqb}
use Rattle.frame.specs.Bytes.{first_of}
use Rattle.text.specs.Digits.{hex_byte}
use Rattle.text.specs.Words.{ascii}

-- a tag error
unfoldable pub tag_words : ℕ → List ℕ
tag_words e =
    first_of
    ((eqb e 0x16, ascii "wrong access password")
    ∷ (eqb e 0xA3, ascii "the bank has no such words")
    ∷ (eqb e 0xB3, ascii "no such words, or PC does not fit")
    ∷ (eqb e 0xA4, ascii "region locked")
    ∷ (eqb e 0xB4, ascii "region locked, or EPC word 0")
    ∷ (eqb e 0xC3, ascii "the tag has no User words")
    ∷ (eqb e 0xC4, ascii "a permalocked region would change")
    ∷ (eqb e 0xD0, ascii "no kill password is stored")
    ∷ [])
    (ascii "not listed")

-- a plain one, or else one of these
unfoldable pub error_words : ℕ → List ℕ
error_words e =
    first_of
    ((eqb e 0x17, ascii "code not listed, or a wrong field")
    ∷ (eqb e 0x15, ascii "no tag present that matches")
    ∷ (eqb e 0x09, ascii "no tag present that matches")
    ∷ (eqb e 0x10, ascii "no tag present that matches")
    ∷ (eqb e 0x13, ascii "no tag present, or not secured")
    ∷ (eqb e 0x12, ascii "no tag, or another kill password")
    ∷ [])
    (tag_words e)

unfoldable pub error_text : ℕ → List ℕ
error_text e = hex_byte e ++ ascii " " ++ error_words e
