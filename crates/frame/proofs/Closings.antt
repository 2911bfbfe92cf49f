-- Laws of closing a frame: where it does not fit nothing changes, and where it does the seven stores round the parameters
-- make the frame.
use Rattle.std.proofs.Common.{◌≡◌, ℕ, suc, ◌+◌, ◌-◌, ◌/◌, ◌%◌, ◌<◌, ◌≤◌, true, false, List, [], ◌∷◌, ◌++◌, length, get_or, take, drop, set, sym, refl, ap, ◌∙◌, append_assoc, arith, length-append, take-append-drop, length-take-le, drop-cons, take_at, drop_at, le-leb}
use borrow.Author.Tests.{lt-leb}
use lib.Seq.{set_at}
use Rattle.frame.specs.Bytes.{part, bytes_of}
use Rattle.frame.specs.Closing.{closable, closed, closed_length, Closing}
use Rattle.frame.specs.Frames.{check_of, checked, frame_of, frame_length, longest_answer, written}
use Rattle.frame.proofs.Picks.{pick_true, pick_false}

module _ (pl : ℕ) (output : List ℕ) where
  too_long : 129 < pl → closable pl output ≡ false
  unfolding closable frame_length longest_answer
  too_long long = simp (lt-leb (7 + pl) 136 (omega arith))

  no_room : pl ≤ 129 → length output < 7 + pl → closable pl output ≡ false
  unfolding closable frame_length longest_answer
  no_room short none = simp (le-leb (7 + pl) 136 (omega arith), lt-leb (7 + pl) (length output) none)

  room : pl ≤ 129 → 7 + pl ≤ length output → closable pl output ≡ true
  unfolding closable frame_length longest_answer
  room short fits = simp (le-leb (7 + pl) 136 (omega arith), le-leb (7 + pl) (length output) fits)

-- the five stores in front
abbrev pub fronted : ℕ → ℕ → ℕ → List ℕ → List ℕ
fronted type code pl output = set (set (set (set (set output 0 0xBB) 1 type) 2 code) 3 0) 4 pl

module _ (type code : ℕ) (parameters : List ℕ) (short : length parameters ≤ 129) where
  checked_is : checked type code parameters ≡ type ∷ code ∷ 0 ∷ length parameters ∷ parameters
  unfolding checked bytes_of
  checked_is =
      let high : length parameters / 256 % 256 ≡ 0 = omega arith in
      let low : length parameters % 256 ≡ length parameters = omega arith in
      simp (high, low)

  module _ (b0 b1 b2 b3 b4 b5 b6 : ℕ) (tail : List ℕ) where
    abbrev laid : List ℕ
    laid = b0 ∷ b1 ∷ b2 ∷ b3 ∷ b4 ∷ (parameters ++ b5 ∷ b6 ∷ tail)

    between : (pl : ℕ) → length parameters ≡ pl → part laid 5 pl ≡ parameters
    unfolding part
    between pl e = take_at parameters (b5 ∷ b6 ∷ tail) pl e

    summed : (pl : ℕ) → length parameters ≡ pl → take (5 + pl - 1) (drop 1 (fronted type code pl laid)) ≡ checked type code parameters
    summed pl e =
        take_at (type ∷ code ∷ 0 ∷ pl ∷ parameters) (b5 ∷ b6 ∷ tail) (5 + pl - 1) (omega arith) ∙ rw (← e) (sym checked_is)

    stored : (total pl : ℕ) → length parameters ≡ pl
        → set (set (fronted type code pl laid) (5 + pl) total) (6 + pl) 0x7E ≡ 0xBB ∷ type ∷ code ∷ 0 ∷ pl ∷ (parameters ++ total ∷ 0x7E ∷ tail)
    stored total pl e =
        let whole : length (parameters ++ total ∷ []) ≡ pl + 1 = simp length-append (omega arith) in
        ap (λ (l : List ℕ). set l (6 + pl) 0x7E)
        (set_at (0xBB ∷ type ∷ code ∷ 0 ∷ pl ∷ parameters) b5 (b6 ∷ tail) total (5 + pl) (omega arith))
        ∙ (simp append_assoc at (set_at (0xBB ∷ type ∷ code ∷ 0 ∷ pl ∷ (parameters ++ total ∷ [])) b6 tail 0x7E (6 + pl) (omega arith)))

    frame_is : (total : ℕ) → check_of (checked type code parameters) ≡ total
        → frame_of type code parameters ≡ 0xBB ∷ type ∷ code ∷ 0 ∷ length parameters ∷ (parameters ++ total ∷ 0x7E ∷ [])
    unfolding frame_of
    frame_is total e = rw (e, checked_is)

    behind : (total : ℕ) → drop (length (parameters ++ total ∷ 0x7E ∷ [])) (parameters ++ b5 ∷ b6 ∷ tail) ≡ tail
    behind total =
        simp append_assoc at (drop_at (parameters ++ b5 ∷ b6 ∷ []) tail (length (parameters ++ total ∷ 0x7E ∷ [])) (simp length-append))

    frame_laid : (total pl : ℕ) → check_of (checked type code parameters) ≡ total → length parameters ≡ pl
        → written (frame_of type code parameters) laid ≡ 0xBB ∷ type ∷ code ∷ 0 ∷ pl ∷ (parameters ++ total ∷ 0x7E ∷ tail)
    unfolding written
    frame_laid total pl sum e = rw (frame_is total sum) (simp (behind total, append_assoc, e))

-- an output with room for the frame is the seven bytes that are stored, the parameters and what lies behind
laid_out : (P : List ℕ → Type 0) (pl : ℕ)
    → ((b0 b1 b2 b3 b4 b5 b6 : ℕ) (parameters tail : List ℕ) → length parameters ≡ pl → P (b0 ∷ b1 ∷ b2 ∷ b3 ∷ b4 ∷ (parameters ++ b5 ∷ b6 ∷ tail)))
    → (output : List ℕ) → 7 + pl ≤ length output → P output
laid_out P pl each [] fits = absurd (omega arith)
laid_out P pl each (_ ∷ []) fits = absurd (omega arith)
laid_out P pl each (_ ∷ _ ∷ []) fits = absurd (omega arith)
laid_out P pl each (_ ∷ _ ∷ _ ∷ []) fits = absurd (omega arith)
laid_out P pl each (_ ∷ _ ∷ _ ∷ _ ∷ []) fits = absurd (omega arith)
laid_out P pl each (b0 ∷ b1 ∷ b2 ∷ b3 ∷ b4 ∷ rest) fits =
    let one : drop pl rest ≡ get_or rest pl 0 ∷ drop (suc pl) rest = drop-cons rest pl 0 (omega arith) in
    let two : drop (suc pl) rest ≡ get_or rest (suc pl) 0 ∷ drop (suc (suc pl)) rest = drop-cons rest (suc pl) 0 (omega arith) in
    rw (← take-append-drop pl rest, one, two)
    (each b0 b1 b2 b3 b4 (get_or rest pl 0) (get_or rest (suc pl) 0) (take pl rest) (drop (suc (suc pl)) rest) (length-take-le pl rest (omega arith)))

module _ (type code pl : ℕ) (output : List ℕ) where
  pub unclosed_long : 129 < pl → Closing type code pl output output 0
  unfolding closed closed_length
  unclosed_long long =
      record { output_is = simp (too_long pl output long, pick_false); length_is = simp (too_long pl output long, pick_false) }

  pub unclosed_room : pl ≤ 129 → length output < 7 + pl → Closing type code pl output output 0
  unfolding closed closed_length
  unclosed_room short none =
      record { output_is = simp (no_room pl output short none, pick_false); length_is = simp (no_room pl output short none, pick_false) }

  module _ (short : pl ≤ 129) (fits : 7 + pl ≤ length output) where
    pub closed_is : closed type code pl output ≡ written (frame_of type code (part output 5 pl)) output
    unfolding closed
    closed_is = simp (room pl output short fits, pick_true)

    pub closed_length_is : closed_length pl output ≡ 7 + pl
    unfolding closed_length frame_length
    closed_length_is = simp (room pl output short fits, pick_true)

    framed :
        set (set (fronted type code pl output) (5 + pl) (check_of (take (5 + pl - 1) (drop 1 (fronted type code pl output))))) (6 + pl) 0x7E
        ≡ written (frame_of type code (part output 5 pl)) output
    framed =
        laid_out
        (λ (l : List ℕ).
        set (set (fronted type code pl l) (5 + pl) (check_of (take (5 + pl - 1) (drop 1 (fronted type code pl l))))) (6 + pl) 0x7E
        ≡ written (frame_of type code (part l 5 pl)) l)
        pl
        (λ b0 b1 b2 b3 b4 b5 b6 parameters tail e.
        let fit : length parameters ≤ 129 = omega arith in
        let total = check_of (checked type code parameters) in
        rw (
          summed type code parameters fit b0 b1 b2 b3 b4 b5 b6 tail pl e,
          between type code parameters fit b0 b1 b2 b3 b4 b5 b6 tail pl e,
        )
        (stored type code parameters fit b0 b1 b2 b3 b4 b5 b6 tail total pl e
        ∙ sym (frame_laid type code parameters fit b0 b1 b2 b3 b4 b5 b6 tail total pl refl e)))
        output
        fits

    pub closed_framed : (total : ℕ) → total ≡ check_of (take (5 + pl - 1) (drop 1 (fronted type code pl output)))
        → Closing type code pl output (set (set (fronted type code pl output) (5 + pl) total) (6 + pl) 0x7E) (7 + pl)
    closed_framed total sum = record { output_is = simp (sum, closed_is, framed); length_is = sym closed_length_is }
