-- The files of a run, each with its length.
use Rattle.std.specs.Prelude.{ℕ, ◌+◌, ◌-◌, ◌/◌, ◌%◌, Bool, List, [], ◌∷◌, ◌++◌, eqb, length}
use Rattle.std.proofs.lemmas.List.Edits.{sets}
use Rattle.frame.specs.Bytes.{pick}
use Rattle.text.specs.Digits.{decimal}
use Rattle.text.specs.Laying.{spaces}
use Rattle.text.specs.Words.{ascii}

-- `tag.img`, or `tag-00.img` and so on
unfoldable pub tag_name : Bool → ℕ → List ℕ
tag_name is_crate i = pick is_crate (ascii "tag-" ++ ((48 + i / 10) ∷ (48 + i % 10) ∷ []) ++ ascii ".img") (ascii "tag.img")

-- a name, and a length that ends with the twentieth column
unfoldable pub file_text : List ℕ → ℕ → List ℕ
file_text name size =
    sets (sets (spaces 20) 0 name) (20 - length (decimal size)) (decimal size) ++ pick (eqb size 1) (ascii " byte") (ascii " bytes")

unfoldable pub tag_lines : Bool → ℕ → List ℕ → List ℕ
tag_lines is_crate i [] = []
tag_lines is_crate i (size ∷ sizes) = (file_text (tag_name is_crate i) size ++ (10 ∷ [])) ++ tag_lines is_crate (i + 1) sizes
