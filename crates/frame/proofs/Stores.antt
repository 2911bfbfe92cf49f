-- Laws of a run of stores, `sets l i vs`: what stands before it and behind it stays, and in it stand the new bytes.
use Rattle.std.proofs.Common.{◌≡◌, ℕ, zero, suc, ◌+◌, ◌-◌, ◌<◌, ◌≤◌, List, [], ◌∷◌, ◌++◌, length, take, drop, set, sym, refl, ap, ◌∙◌, append_assoc, add-suc, arith, length-set, length-take-le, get_or-set_other, get_or-set_same, take_at, drop-set-lt, drop_at}
use lib.Seq.{sets, length-sets, sets-eq, take-set-le, drop-set-add}
use Rattle.frame.specs.Bytes.{byte, number, part}
use Rattle.frame.specs.Putting.{Put}

-- ---- parts of the list

pub take_sets : (n : ℕ) (l : List ℕ) (i : ℕ) (vs : List ℕ) → n ≤ i → take n (sets l i vs) ≡ take n l
take_sets n l i [] h = refl
take_sets n l i (v ∷ vs) h = take_sets n (set l i v) (suc i) vs (omega arith) ∙ take-set-le n l i v h

pub drop_sets : (n : ℕ) (l : List ℕ) (i : ℕ) (vs : List ℕ) → drop n (sets l (n + i) vs) ≡ sets (drop n l) i vs
drop_sets n l i [] = refl
drop_sets n l i (v ∷ vs) =
    ap (λ (k : ℕ). drop n (sets (set l (n + i) v) k vs)) (sym (add-suc n i))
    ∙ drop_sets n (set l (n + i) v) (suc i) vs
    ∙ ap (λ (t : List ℕ). sets t (suc i) vs) (drop-set-add n l i v)

pub drop_sets_behind : (n : ℕ) (l : List ℕ) (i : ℕ) (vs : List ℕ) → i + length vs ≤ n → drop n (sets l i vs) ≡ drop n l
drop_sets_behind n l i [] h = refl
drop_sets_behind n l i (v ∷ vs) h = drop_sets_behind n (set l i v) (suc i) vs (omega arith) ∙ drop-set-lt n l i v (omega arith)

pub part_sets : (l : List ℕ) (i : ℕ) (vs : List ℕ) → i + length vs ≤ length l → part (sets l i vs) i (length vs) ≡ vs
unfolding part
part_sets l i vs h =
    ap (λ (t : List ℕ). take (length vs) (drop i t)) (sets-eq vs l i h ∙ append_assoc (take i l) vs (drop (i + length vs) l))
    ∙ ap (λ (t : List ℕ). take (length vs) t) (drop_at (take i l) (vs ++ drop (i + length vs) l) i (length-take-le i l (omega arith)))
    ∙ take_at vs (drop (i + length vs) l) (length vs) refl

-- a part before the stores, and one behind them
pub part_sets_before : (l : List ℕ) (i : ℕ) (vs : List ℕ) (j n : ℕ) → j + n ≤ i → part (sets l i vs) j n ≡ part l j n
unfolding part
part_sets_before l i vs j n h =
    let k : j + (i - j) ≡ i = omega arith in
    ap (λ (m : ℕ). take n (drop j (sets l m vs))) (sym k)
    ∙ ap (λ (t : List ℕ). take n t) (drop_sets j l (i - j) vs)
    ∙ take_sets n (drop j l) (i - j) vs (omega arith)

pub part_sets_behind : (l : List ℕ) (i : ℕ) (vs : List ℕ) (j n : ℕ) → i + length vs ≤ j → part (sets l i vs) j n ≡ part l j n
unfolding part
part_sets_behind l i vs j n h = ap (λ (t : List ℕ). take n t) (drop_sets_behind j l i vs h)

-- ---- pieces one behind the other

pub length_put : (piece : List ℕ) (at : ℕ) (before after : List ℕ) (next : ℕ) → Put piece at before after next → length after ≡ length before
length_put piece at before after next put = ap length put.output_is ∙ length-sets before at piece

pub sets_join : (l : List ℕ) (i : ℕ) (vs ws : List ℕ) → sets (sets l i vs) (i + length vs) ws ≡ sets l i (vs ++ ws)
sets_join l i [] ws = ap (λ (k : ℕ). sets l k ws) (omega arith)
sets_join l i (v ∷ vs) ws =
    ap (λ (k : ℕ). sets (sets (set l i v) (suc i) vs) k ws) (omega arith) ∙ sets_join (set l i v) (suc i) vs ws

-- a byte stored behind a piece
pub set_join : (l : List ℕ) (i : ℕ) (vs : List ℕ) (w : ℕ) → set (sets l i vs) (i + length vs) w ≡ sets l i (vs ++ (w ∷ []))
set_join l i vs w = sets_join l i vs (w ∷ [])

-- ---- single bytes and numbers

pub byte_sets_before : (l : List ℕ) (i : ℕ) (vs : List ℕ) (j : ℕ) → j < i → byte (sets l i vs) j ≡ byte l j
unfolding byte
byte_sets_before l i [] j h = refl
byte_sets_before l i (v ∷ vs) j h =
    byte_sets_before (set l i v) (suc i) vs j (omega arith) ∙ get_or-set_other l i j v 0 (omega arith)

pub byte_sets_behind : (l : List ℕ) (i : ℕ) (vs : List ℕ) (j : ℕ) → i + length vs ≤ j → byte (sets l i vs) j ≡ byte l j
unfolding byte
byte_sets_behind l i [] j h = refl
byte_sets_behind l i (v ∷ vs) j h =
    byte_sets_behind (set l i v) (suc i) vs j (omega arith) ∙ get_or-set_other l i j v 0 (omega arith)

pub byte_sets_in : (l : List ℕ) (i : ℕ) (vs : List ℕ) (k : ℕ) → k < length vs → i + k < length l → byte (sets l i vs) (i + k) ≡ byte vs k
unfolding byte
byte_sets_in l i [] k h m = absurd (omega arith)
byte_sets_in l i (v ∷ vs) zero h m =
    ap (λ (n : ℕ). byte (sets (set l i v) (suc i) vs) n) (omega arith)
    ∙ byte_sets_before (set l i v) (suc i) vs i (omega arith)
    ∙ get_or-set_same l i v 0 (omega arith)
byte_sets_in l i (v ∷ vs) (suc k) h m =
    ap (λ (n : ℕ). byte (sets (set l i v) (suc i) vs) n) (omega arith)
    ∙ byte_sets_in (set l i v) (suc i) vs k (omega arith) (omega (arith, length-set l i v))

module _ (l : List ℕ) (i : ℕ) (vs : List ℕ) (j : ℕ) where
  pub number_sets_before : j + 1 < i → number (sets l i vs) j ≡ number l j
  unfolding number
  number_sets_before h = simp (byte_sets_before l i vs j (omega arith), byte_sets_before l i vs (j + 1) h)

  pub number_sets_behind : i + length vs ≤ j → number (sets l i vs) j ≡ number l j
  unfolding number
  number_sets_behind h = simp (byte_sets_behind l i vs j h, byte_sets_behind l i vs (j + 1) (omega arith))

  pub number_sets_in : j + 1 < length vs → i + (j + 1) < length l → number (sets l i vs) (i + j) ≡ number vs j
  unfolding number
  number_sets_in h m =
      let second : byte (sets l i vs) (i + j + 1) ≡ byte vs (j + 1) =
      ap (λ (n : ℕ). byte (sets l i vs) n) (omega arith) ∙ byte_sets_in l i vs (j + 1) h m
      in
      simp (byte_sets_in l i vs j (omega arith) (omega arith), second)
