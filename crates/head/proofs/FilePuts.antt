-- The parts of the head, laid one behind the other.
use Prim.Native.Nat.{ℕ, ◌+◌, ◌-◌, ◌*◌, ◌/◌, ◌%◌, ◌≤◌, ◌<◌}
use lib.Dec.{eqb}
use lib.ListN.{length, take, get_or, length-append}
use lib.Seq.{sets, length-sets, take-suc, length-take-le}
use mathlib.Core.Bool.{Bool, true, false}
use mathlib.Core.List.{List, [], ◌∷◌, ◌++◌, append_assoc, append-nil}
use mathlib.Core.Path.{◌≡◌, refl, ap, sym, subst, ◌∙◌}
use native.Mathlib.Numerals.{add-one}
use native.Mathlib.Omega.{arith}
use Rattle.frame.proofs.Picks.{pick_true, pick_false}
use Rattle.frame.specs.Bytes.{pick}
use Rattle.frame.specs.Putting.{Put}
use Rattle.text.proofs.Overlays.{overlay}
use Rattle.head.specs.Files.{tag_name, file_text, tag_lines}
use Rattle.text.proofs.Puts.{put_join}
use Rattle.text.proofs.Writing.{put_behind, same_piece, more_room}
use Rattle.text.proofs.Lengths.{length_spaces, either_short}
use Rattle.text.specs.Digits.{decimal}
use Rattle.text.specs.Laying.{spaces}
use Rattle.text.specs.Words.{ascii}
use Rattle.text.specs.Writing.{Puts, PutsRight}
use Rattle.text.specs.declared.writer.Writer.{Writer}

-- ---- a file

abbrev unit : ℕ → List ℕ
unit size = pick (eqb size 1) (ascii " byte") (ascii " bytes")

unit_short : (size : ℕ) → length (unit size) ≤ 6
unit_short size = either_short size 6 (ascii " byte") (ascii " bytes") (omega arith) (omega arith)

module _ (name : List ℕ) (size : ℕ) where
  abbrev named : List ℕ
  named = sets (spaces 20) 0 name

  length_named : length named ≡ 20
  length_named = length-sets (spaces 20) 0 name ∙ length_spaces 20

  -- where the length begins
  abbrev place : ℕ
  place = 20 - length (decimal size)

  file_short : length (file_text name size) ≤ 26
  unfolding file_text
  file_short = omega (arith, length-append (sets named place (decimal size)) (unit size), length-sets named place (decimal size), length_named, unit_short size)

  -- the name over the spaces, the length over both, and the unit behind
  columns_put : (at : ℕ) (before one two three after : List ℕ) (next behind last end : ℕ) → length name ≤ 20 → length (decimal size) ≤ 20
      → Put (spaces 20) at before one next → Put name at one two behind → Put (decimal size) (at + place) two three last
      → Put (unit size) last three after end → Put (file_text name size) at before after end
  unfolding file_text
  columns_put at before one two three after next behind last end short few blank put digits sized =
      let start : at ≡ at + 0 = omega arith in
      let over : two ≡ sets before at named =
      put.output_is
      ∙ ap (λ (k : ℕ). sets one k name) start
      ∙ ap (λ (l : List ℕ). sets l (at + 0) name) blank.output_is
      ∙ overlay before at (spaces 20) 0 name (omega (arith, length_spaces 20))
      in
      put_join (sets named place (decimal size)) (unit size) at before three after last end
      record {
        output_is =
            digits.output_is
            ∙ ap (λ (l : List ℕ). sets l (at + place) (decimal size)) over
            ∙ overlay before at named place (decimal size) (omega (arith, length_named));
        next_is = omega (arith, digits.next_is, length-sets named place (decimal size), length_named);
      }
      sized

  pub file_put : {before one two three after : Writer} → length name ≤ 20 → length (decimal size) ≤ 20 → Puts 20 (spaces 20) before one
      → Puts 20 name (record one { at = before.at }) two → PutsRight 20 size (record two { at = before.at }) three → Puts 6 (unit size) three after
      → Puts 26 (file_text name size) before after
  file_put {before = before} {one = one} {two = two} {three = three} {after = after} short few blank put digits sized =
      record {
        same_reference = sized.same_reference ∙ digits.same_reference ∙ put.same_reference ∙ blank.same_reference;
        same_length = sized.same_length ∙ digits.same_length ∙ put.same_length ∙ blank.same_length;
        short = file_short;
        put = λ room.
            let at_right = digits.put (omega (arith, put.same_length, blank.same_length)) (omega (arith, put.same_length, blank.same_length)) in
            columns_put before.at before.buffer.now one.buffer.now two.buffer.now three.buffer.now after.buffer.now one.at two.at three.at after.at short few
            (blank.put (omega arith)) (put.put (omega (arith, blank.same_length))) at_right
            (sized.put (omega (arith, at_right.next_is, digits.same_length, put.same_length, blank.same_length)));
      }

-- ---- the names of the tags

pub one_name : {numbered : Bool} (i : ℕ) → numbered ≡ false → ascii "tag.img" ≡ tag_name numbered i
unfolding tag_name
one_name i alone = rw (alone, pick_false)

pub crate_name : {numbered : Bool} (i : ℕ) → numbered ≡ true → ascii "tag-" ++ ((48 + i / 10) ∷ (48 + i % 10) ∷ []) ++ ascii ".img" ≡ tag_name numbered i
unfolding tag_name
crate_name i several = rw (several, pick_true)

pub named_file : {name other : List ℕ} (size : ℕ) {before middle after : Writer} → name ≡ other → after ≡ middle
    → Puts 26 (file_text name size) before middle → Puts 26 (file_text other size) before after
named_file {name = name} size {before = before} e same puts =
    same_piece (ap (λ (l : List ℕ). file_text l size) e) (subst (λ (w : Writer). Puts 26 (file_text name size) before w) (sym same) puts)

-- ---- the lines of the tags

abbrev tag_line : Bool → ℕ → ℕ → List ℕ
tag_line numbered i size = file_text (tag_name numbered i) size ++ (10 ∷ [])

tags_more : (numbered : Bool) (k : ℕ) (sizes : List ℕ) (size : ℕ)
    → tag_lines numbered k (sizes ++ (size ∷ [])) ≡ tag_lines numbered k sizes ++ tag_line numbered (k + length sizes) size
unfolding tag_lines
tags_more numbered k [] size = append-nil _ ∙ ap (λ (i : ℕ). tag_line numbered i size) (omega arith)
tags_more numbered k (s ∷ sizes) size =
    ap (λ (l : List ℕ). tag_line numbered k s ++ l) (tags_more numbered (k + 1) sizes size)
    ∙ sym (append_assoc (tag_line numbered k s) (tag_lines numbered (k + 1) sizes) _)
    ∙ ap (λ (i : ℕ). (tag_line numbered k s ++ tag_lines numbered (k + 1) sizes) ++ tag_line numbered i size) (omega arith)

pub no_tags : (numbered : Bool) → [] ≡ tag_lines numbered 0 []
unfolding tag_lines
no_tags numbered = refl

-- the lines of the first i tags, and one more
pub tags_next : (numbered : Bool) (sizes : List ℕ) (i : ℕ) {before middle after : Writer} → i < length sizes
    → Puts (27 * i) (tag_lines numbered 0 (take i sizes)) before middle → Puts 27 (tag_line numbered i (get_or sizes i 0)) middle after
    → Puts (27 * (i + 1)) (tag_lines numbered 0 (take (i + 1) sizes)) before after
tags_next numbered sizes i more first line =
    let count : length (take i sizes) ≡ i = length-take-le i sizes (omega arith) in
    let grown : tag_lines numbered 0 (take i sizes) ++ tag_line numbered i (get_or sizes i 0) ≡ tag_lines numbered 0 (take (i + 1) sizes) =
    sym
    (ap (λ (l : List ℕ). tag_lines numbered 0 l) (ap (λ (k : ℕ). take k sizes) (add-one i) ∙ take-suc sizes i 0 more)
    ∙ tags_more numbered 0 (take i sizes) (get_or sizes i 0)
    ∙ ap (λ (k : ℕ). tag_lines numbered 0 (take i sizes) ++ tag_line numbered k (get_or sizes i 0)) (omega arith))
    in
    more_room (27 * (i + 1)) (omega arith) (same_piece grown (put_behind first line))
