-- Each job, done as the code does it, is the machine's.
use Prim.Native.Nat.{ℕ, ◌+◌, ◌-◌, ◌≤◌}
use borrow.Author.Tests.{le-leb}
use lib.Dec.{eqb}
use lib.ListN.{length, take, drop, set}
use lib.Seq.{sets, take_all}
use mathlib.Core.Bool.{true, false}
use mathlib.Core.List.{List, [], ◌∷◌}
use mathlib.Core.Path.{◌≡◌, refl, ap, ap₂, sym, subst, ◌∙◌}
use native.Mathlib.Nat.{add_assoc}
use native.Mathlib.Omega.{arith}
use Rattle.reader.specs.Readers.{reader_of}
use Rattle.reader.specs.declared.outcome.Outcome.{Outcome}
use Rattle.reader.specs.declared.outcome.Outcome.TheVariants.{Answered, Dropped}
use Rattle.machine.specs.Lent.{selection_in}
use Rattle.calls.specs.Calls.{called_of, step_of, Lent, lent_of, with_selected, lent_after, Ready, Framed, Aimable, Doable, AimDone, Told, Selected}
use Rattle.machine.specs.Machine.{State, state_of, parameters_at, unchanged, dropped, told, plain_error, select_taken, selecting, missed, next_after, image_for, act_for, acted, aimed, carried_out, counted}
use Rattle.calls.specs.declared.calling.Called.{Called}
use Rattle.machine.specs.declared.deciding.Aimed.{Aimed}
use Rattle.machine.specs.declared.deciding.Job.{Job}
use Rattle.machine.specs.declared.deciding.Job.TheVariants.{Stay, DropByte, Select, Miss, Aim}
use Rattle.execution.proofs.Callers.{Ran, ran, told_refused, told_error, told_good}
use Rattle.execution.proofs.Rounds.{closed_round}
use Rattle.execution.specs.Execution.{FrameWritten, image_after}
use Rattle.execution.specs.declared.execute.Executed.{Executed}
use Rattle.execution.specs.declared.execute.Executed.TheVariants.{Refused, Good, Error}
use Rattle.frame.proofs.Copies.{copied_is}
use Rattle.frame.proofs.Picks.{pick_true, pick_false}
use Rattle.frame.proofs.Stores.{part_sets}
use Rattle.frame.proofs.Tests.{either}
use Rattle.frame.specs.Bytes.{pick, part}
use Rattle.frame.specs.Closing.{Closing}
use Rattle.frame.specs.Copying.{copied}
use Rattle.frame.specs.Frames.{frame_of, frame_length}
use Rattle.frame.specs.declared.finding.Reason.{Reason}
use Rattle.population.specs.Executing.{ExecutionAt, replaced}
use Rattle.population.specs.Places.{image_at}
use Rattle.population.specs.Selections.{taken}
use Rattle.population.specs.declared.places.Place.{Place}
use Rattle.reader.specs.Tallies.{with_good, with_error, with_dropped}
use Rattle.reader.specs.declared.state.Reader.{Reader}
use Rattle.reader.specs.declared.tally.Tally.{Tally}
use Rattle.tag.specs.Answers.{answer, changed, is_error}
use Rattle.tag.specs.Commands.{act_of}
use Rattle.tag.specs.Errors.{Verdict}

-- ---- an answer with one byte

pub byte_closed : (output : List ℕ) → 136 ≤ length output → (code b : ℕ) (after : List ℕ) (result : ℕ) → Closing 0x01 code 1 (set output 5 b) after result
    → FrameWritten (frame_of 0x01 code (b ∷ [])) output after result
byte_closed output room code b after result = closed_round 0x01 code (b ∷ []) output (omega arith) room (set output 5 b) refl 1 refl after result

pub tells : (frame output output_left : List ℕ) (n : ℕ) → FrameWritten frame output output_left n
    → (behind count : ℕ) (t u : Tally) → t ≡ u
    → Told frame output output_left (reader_of behind u) count (called_of Answered n (reader_of behind t) 16 count)
tells frame output output_left n f behind count t u e =
    record {
      output_is = f.output_is;
      result_is = ap₂ (λ (k : ℕ) (v : Tally). (called_of Answered k (reader_of behind v) 16 count)) f.length_is e;
    }

-- ---- Set Select

pub in_front : (bytes p : List ℕ) → length p ≤ 39 → length bytes ≡ 39 → selection_in (sets bytes 0 p) (length p) ≡ p
unfolding selection_in part
in_front bytes p few room = simp (le-leb (length p) 39 few, pick_true) (part_sets bytes 0 p (omega arith))

module _ (bytes output p : List ℕ) (reader : Reader) (count behind : ℕ) (output_left : List ℕ) where
  pub not_taken : taken p ≡ false → (r : Called) → Told (plain_error 0x17) output output_left (reader_of behind (with_error reader.tally)) count r
      → Selected bytes output p reader count behind bytes output_left r
  unfolding with_selected
  not_taken h r t =
      record {
        selection_is = ap (λ (x : Called). selection_in bytes x.state.selected) t.result_is ∙ sym (simp (h, pick_false));
        lent_is = ap (λ (x : Called). lent_of bytes x.state.selected) t.result_is ∙ sym (simp (h, pick_false));
        output_is = t.output_is ∙ sym (simp (h, pick_false));
        outcome_is = ap (λ (x : Called). x.outcome) t.result_is;
        length_is = ap (λ (x : Called). x.length) t.result_is ∙ sym (simp (h, pick_false));
        reader_is = ap (λ (x : Called). x.state.reader) t.result_is ∙ sym (simp (h, pick_false));
        next_is = ap (λ (x : Called). x.state.next) t.result_is;
      }

  -- the parameters stand in front of the lent bytes
  put_in_front : length p ≤ 39 → length bytes ≡ 39 → copied p 0 (length p) bytes 0 ≡ sets bytes 0 p
  unfolding part
  put_in_front few room =
      let whole : part p 0 (length p) ≡ p = take_all (length p) p (omega arith) in
      copied_is p 0 (length p) bytes 0 (omega arith) (omega arith) ∙ ap (λ (l : List ℕ). sets bytes 0 l) whole

  -- as many as there are
  module _ (h : taken p ≡ true) (few : length p ≤ 39) where
    pub is_taken : length bytes ≡ 39 → (bytes_left : List ℕ) → bytes_left ≡ copied p 0 (length p) bytes 0
        → (n : ℕ) → FrameWritten select_taken output output_left n → (t : Tally) → t ≡ with_good reader.tally
        → Selected bytes output p reader count behind bytes_left output_left (called_of Answered n (reader_of behind t) 16 (length p))
    unfolding with_selected
    is_taken room bytes_left left n f t counts =
        let lent : lent_of bytes_left (length p) ≡ lent_of (sets bytes 0 p) (length p) =
        ap (λ (l : List ℕ). lent_of l (length p)) (left ∙ put_in_front few room)
        in
        record {
          selection_is = ap (λ (l : Lent). selection_in l.bytes l.count) lent ∙ in_front bytes p few room ∙ sym (simp (h, pick_true));
          lent_is = lent ∙ sym (simp (h, pick_true));
          output_is = f.output_is ∙ sym (simp (h, pick_true));
          outcome_is = refl;
          length_is = f.length_is ∙ sym (simp (h, pick_true));
          reader_is = ap (reader_of behind) counts ∙ sym (simp (h, pick_true));
          next_is = refl;
        }

-- ---- a command at one tag

module _ (memory output p : List ℕ) (a : Aimed) (reader : Reader) (next count : ℕ) (ready : Ready memory output a.place) (memory_left output_left : List ℕ)
    (executed : Executed) (e : ExecutionAt memory a.place output a.code p memory_left output_left executed) where
  abbrev image : List ℕ
  image = image_at memory a.place

  abbrev act : Verdict
  act = act_of image a.code p

  done : Ran image output p act (image_after image output a.code p) output_left executed
  done =
      ran image output a.code p _ output_left executed ready.image_good ready.room
      record {
        image_is = refl;
        output_is = e.output_is ∙ simp (ready.there, pick_true);
        result_is = e.result_is ∙ simp (ready.there, pick_true);
      }

  memory_done : memory_left ≡ replaced memory a.place (changed image p act)
  memory_done = e.memory_is ∙ (simp (ready.there, pick_true)) ∙ ap (replaced memory a.place) done.image_is

  abbrev Done : Called → Type 0
  Done r = AimDone memory output p a reader next count act memory_left output_left r

  pub aims_good : (n : ℕ) (t : Tally) → executed ≡ Good n → t ≡ with_good reader.tally
      → Done (called_of Answered n (reader_of a.behind t) next count)
  unfolding counted
  aims_good n t kind counts =
      let known : (is_error act ≡ false) × (n ≡ length (answer image act)) = told_good act _ n (sym kind ∙ done.result_is) in
      record { memory_is = memory_done; output_is = done.output_is; result_is = simp (known.0, known.1, counts, pick_false) }

  pub aims_error : (n : ℕ) (t : Tally) → executed ≡ Error n → t ≡ with_error reader.tally
      → Done (called_of Answered n (reader_of a.behind t) 16 count)
  unfolding counted
  aims_error n t kind counts =
      let known : (is_error act ≡ true) × (n ≡ length (answer image act)) = told_error act _ n (sym kind ∙ done.result_is) in
      record { memory_is = memory_done; output_is = done.output_is; result_is = simp (known.0, known.1, counts, pick_true) }

  pub never_refused : executed ≡ Refused → ⊥
  never_refused kind = told_refused act _ (sym kind ∙ done.result_is)

-- ---- and each is the machine's step

module _ (input memory output bytes : List ℕ) (reader : Reader) (next count : ℕ) (places : List Place) (tags : ℕ) where
  abbrev s : State
  s = state_of memory places tags (selection_in bytes count) output reader next

  pub does_stay : (job : Job) (o : Outcome) → job ≡ Stay o
      → step_of (called_of o 0 reader next count) memory places tags bytes output ≡ carried_out input s job
  unfolding carried_out unchanged
  does_stay job o e = sym (ap (carried_out input s) e)

  pub does_drop : (job : Job) (r : Reason) → job ≡ DropByte r → (t : Tally) → t ≡ with_dropped r reader.tally
      → step_of (called_of (Dropped r) 0 (reader_of (reader.cursor + 1) t) next count) memory places tags bytes output
      ≡ carried_out input s job
  unfolding carried_out dropped
  does_drop job r e t counts = simp counts (sym (ap (carried_out input s) e))

  pub does_miss : (job : Job) (error pl : ℕ) → job ≡ Miss error pl → (output_left : List ℕ) (r : Called)
      → Told (plain_error error) output output_left (reader_of (reader.cursor + 7 + pl) (with_error reader.tally)) count r
      → step_of r memory places tags bytes output_left ≡ carried_out input s job
  unfolding carried_out missed told frame_length
  does_miss job error pl e output_left r t =
      simp (t.result_is, t.output_is, add_assoc reader.cursor 7 pl) (sym (ap (carried_out input s) e))

  pub does_select : (job : Job) (pl : ℕ) → job ≡ Select pl → (p : List ℕ) → p ≡ parameters_at input reader.cursor pl
      → (bytes_left output_left : List ℕ) (r : Called) → Selected bytes output p reader count (reader.cursor + 7 + pl) bytes_left output_left r
      → step_of r memory places tags bytes_left output_left ≡ carried_out input s job
  unfolding carried_out selecting told frame_length
  does_select job pl e p same bytes_left output_left r t =
      let here : step_of r memory places tags bytes_left output_left ≡ selecting s p (reader.cursor + 7 + pl) =
      either (taken p)
      (λ h. simp (t.selection_is, t.output_is, t.outcome_is, t.length_is, t.reader_is, t.next_is, h, pick_true))
      (λ h. simp (t.selection_is, t.output_is, t.outcome_is, t.length_is, t.reader_is, t.next_is, h, pick_false))
      in
      here
      ∙ ap₂ (λ (l : List ℕ) (n : ℕ). selecting s l n) same (add_assoc reader.cursor 7 pl)
      ∙ sym (ap (carried_out input s) e)

  pub does_aim : (job : Job) (a : Aimed) → job ≡ Aim a → (p : List ℕ) → p ≡ part input a.first a.pl
      → (n : ℕ) → n ≡ pick (eqb a.code 0x22) (a.number + 1) 16
      → (memory_left output_left : List ℕ) (r : Called)
      → AimDone memory output p a reader n count (act_of (image_at memory a.place) a.code p) memory_left output_left r
      → step_of r memory_left places tags bytes output_left ≡ carried_out input s job
  unfolding carried_out aimed acted act_for image_for next_after
  does_aim job a e p same n next_is memory_left output_left r t =
      let here : step_of r memory_left places tags bytes output_left ≡ aimed s a p = simp (t.result_is, t.memory_is, t.output_is, next_is) in
      here ∙ ap (aimed s a) same ∙ sym (ap (carried_out input s) e)

-- ---- and leaves the lent bytes as it says

module _ (input : List ℕ) (cursor : ℕ) (l : Lent) (job : Job) where
  lends : (kind : Job) → job ≡ kind → lent_after input cursor l kind ≡ lent_after input cursor l job
  lends kind e = sym (ap (lent_after input cursor l) e)

  pub lends_stay : (o : Outcome) → job ≡ Stay o → l ≡ lent_after input cursor l job
  unfolding lent_after
  lends_stay o e = lends (Stay o) e

  pub lends_drop : (r : Reason) → job ≡ DropByte r → l ≡ lent_after input cursor l job
  unfolding lent_after
  lends_drop r e = lends (DropByte r) e

  pub lends_miss : (error pl : ℕ) → job ≡ Miss error pl → (frame output output_left : List ℕ) (reader : Reader) (r : Called)
      → Told frame output output_left reader l.count r
      → lent_of l.bytes r.state.selected ≡ lent_after input cursor l job
  unfolding lent_after
  lends_miss error pl e frame output output_left reader r t = ap (λ (x : Called). lent_of l.bytes x.state.selected) t.result_is ∙ lends (Miss error pl) e

  pub lends_select : (pl : ℕ) → job ≡ Select pl → (p : List ℕ) → p ≡ parameters_at input cursor pl
      → (output : List ℕ) (reader : Reader) (behind : ℕ) (bytes_left output_left : List ℕ) (r : Called)
      → Selected l.bytes output p reader l.count behind bytes_left output_left r
      → lent_of bytes_left r.state.selected ≡ lent_after input cursor l job
  unfolding lent_after
  lends_select pl e p same output reader behind bytes_left output_left r t =
      t.lent_is ∙ ap (λ (q : List ℕ). with_selected q l) same ∙ lends (Select pl) e

  pub lends_aim : (a : Aimed) → job ≡ Aim a → (memory output p : List ℕ) (reader : Reader) (n : ℕ) (act : Verdict) (memory_left output_left : List ℕ) (r : Called)
      → AimDone memory output p a reader n l.count act memory_left output_left r
      → lent_of l.bytes r.state.selected ≡ lent_after input cursor l job
  unfolding lent_after
  lends_aim a e memory output p reader n act memory_left output_left r t =
      ap (λ (x : Called). lent_of l.bytes x.state.selected) t.result_is ∙ lends (Aim a) e

-- ---- what was shown of each job

module _ (input memory output : List ℕ) (reader : Reader) (job : Job) (can : Doable input memory output reader job) where
  shown : (kind : Job) → job ≡ kind → Doable input memory output reader kind
  shown kind e = subst (Doable input memory output reader) e can

  pub can_select : (pl : ℕ) → job ≡ Select pl → Framed input output reader pl
  can_select pl e = shown (Select pl) e

  pub can_miss : (error pl : ℕ) → job ≡ Miss error pl → Framed input output reader pl
  can_miss error pl e = shown (Miss error pl) e

  pub can_aim : (a : Aimed) → job ≡ Aim a → Aimable input memory output a
  can_aim a e = shown (Aim a) e

-- a part of the input as the code cuts it
pub cut_parameters : (input : List ℕ) (first pl : ℕ) → take (first + pl - first) (drop first input) ≡ part input first pl
unfolding part
cut_parameters input first pl =
    let n : first + pl - first ≡ pl = omega arith in
    ap (λ (k : ℕ). take k (drop first input)) n

pub cut_at : (input : List ℕ) (cursor pl : ℕ) → take (cursor + 5 + pl - (cursor + 5)) (drop (cursor + 5) input) ≡ parameters_at input cursor pl
unfolding parameters_at
cut_at input cursor pl = cut_parameters input (cursor + 5) pl
