-- Two images that differ only in hidden passwords, in the course of a run with no command that carries one.
use Prim.Native.Nat.{ℕ, ◌+◌, ◌-◌, ◌≤◌, ◌<◌}
use lib.Dec.{eqb}
use lib.ListN.{drop}
use lib.Seq.{sets}
use mathlib.Core.Bool.{true}
use mathlib.Core.List.{List, [], ◌∷◌, ◌++◌}
use mathlib.Core.Path.{◌≡◌, refl, ap, ap₂, sym, subst, ◌∙◌}
use native.Mathlib.Omega.{arith}
use Rattle.std.specs.Prelude.{Ok, Err}
use Rattle.effects.proofs.Quiet.{Kept, Public}
use Rattle.effects.proofs.Twins.{part_behind, same_crc, same_view, same_rssi, same_epc, same_word, same_tail}
use Rattle.effects.specs.Secrecy.{passwords_at, EqualElsewhere, Command, carries_none, none_carries}
use Rattle.frame.proofs.Picks.{pick_true, pick_false, by_test}
use Rattle.frame.proofs.Stores.{take_sets, drop_sets, number_sets_before, part_sets_before}
use Rattle.frame.proofs.Tests.{either, and_left, and_right, and_both}
use Rattle.frame.specs.Bytes.{all, number, double, part, two_bytes}
use Rattle.frame.specs.Frames.{frame_of}
use Rattle.image.proofs.GoodImages.{Good, good_facts}
use Rattle.tag.specs.Answers.{answer, crc_kept, changed}
use Rattle.tag.specs.Commands.{bank_in, data_in}
use Rattle.image.specs.Image.{good, view, bank_at, crc_word, with_crc, kill_password, access_password}
use Rattle.tag.specs.Errors.{tag_byte, Verdict}
use Rattle.image.specs.declared.header.View.{View}
use Rattle.tag.specs.declared.commands.Act.TheVariants.{Notify, Give, Store, Set}
use Rattle.tag.specs.declared.errors.Refusal.TheVariants.{Plain, Tag}

-- ---- a store behind the passwords

double_sets_before : (l : List ℕ) (i : ℕ) (vs : List ℕ) (j : ℕ) → j + 3 < i → double (sets l i vs) j ≡ double l j
unfolding double
double_sets_before l i vs j h = simp (number_sets_before l i vs j (omega arith), number_sets_before l i vs (j + 2) (omega arith))

drop_sets_from : (n : ℕ) (l : List ℕ) (i : ℕ) (vs : List ℕ) → n ≤ i → drop n (sets l i vs) ≡ sets (drop n l) (i - n) vs
drop_sets_from n l i vs h =
    let k : n + (i - n) ≡ i = omega arith in
    ap (λ (m : ℕ). drop n (sets l m vs)) (sym k) ∙ drop_sets n l (i - n) vs

-- one image of the pair in the course of a run, with its password bytes
pub record Course (a x : List ℕ) : Type 0 where
  pub kept : Kept a x
  pub bytes : part x (passwords_at a) 8 ≡ part a (passwords_at a) 8

-- what a store behind the passwords spares: where they stand, what they are, and the locks
record Spared (a x : List ℕ) : Type 0 where
  place : passwords_at x ≡ passwords_at a
  kill : kill_password x ≡ kill_password a
  access : access_password x ≡ access_password a
  locks : (view x).locks ≡ (view a).locks
  bytes : part x (passwords_at a) 8 ≡ part a (passwords_at a) 8

spared : (a x : List ℕ) → Course a x → Spared a x
spared a x k =
    record { place = k.kept.place; kill = k.kept.kill; access = k.kept.access; locks = k.kept.locks; bytes = k.bytes }

course : (a x : List ℕ) → Spared a x → good x ≡ true → Course a x
course a x k h =
    record { kept = record { image_good = h; place = k.place; kill = k.kill; access = k.access; locks = k.locks }; bytes = k.bytes }

spared_stored : (a x : List ℕ) → Spared a x → (at : ℕ) (vs : List ℕ) → 24 ≤ at → passwords_at x + 8 ≤ at → Spared a (sets x at vs)
unfolding passwords_at kill_password access_password view bank_at
spared_stored a x k at vs far behind =
    let place : number (sets x at vs) 6 ≡ number x 6 = number_sets_before x at vs 6 (omega arith) in
    record {
      place = place ∙ k.place;
      kill = ap (λ (n : ℕ). double (sets x at vs) n) place ∙ double_sets_before x at vs (number x 6) (omega arith) ∙ k.kill;
      access = ap (λ (n : ℕ). double (sets x at vs) (n + 4)) place ∙ double_sets_before x at vs (number x 6 + 4) (omega arith) ∙ k.access;
      locks = number_sets_before x at vs 20 (omega arith) ∙ k.locks;
      bytes = part_sets_before x at vs (passwords_at a) 8 (omega (arith, k.place)) ∙ k.bytes;
    }

-- a Write behind the passwords, with the CRC word that it keeps
spared_written : (a x : List ℕ) → Course a x → (bank at : ℕ) (vs : List ℕ) → passwords_at x + 8 ≤ at
    → Spared a (crc_kept bank (view x).epc.offset (sets x at vs))
unfolding crc_kept with_crc passwords_at view bank_at
spared_written a x k bank at vs behind =
    let g : Good (view x) = good_facts x k.kept.image_good in
    let first : Spared a (sets x at vs) = spared_stored a x (spared a x k) at vs (omega (arith, g.reserved_place)) behind in
    by_test (Spared a) (eqb bank 1)
    (λ epc.
    spared_stored a (sets x at vs) first (number x 10) (two_bytes (crc_word (sets x at vs))) (omega (arith, g.reserved_place, g.epc_place))
    (omega (arith, first.place, k.kept.place, g.epc_place)))
    (λ other. first)

elsewhere_stored : (p : ℕ) (x y : List ℕ) → EqualElsewhere p x y → (at : ℕ) (vs : List ℕ) → p + 8 ≤ at → EqualElsewhere p (sets x at vs) (sets y at vs)
elsewhere_stored p x y e at vs h =
    record {
      before = take_sets p x at vs (omega arith) ∙ e.before ∙ sym (take_sets p y at vs (omega arith));
      behind =
          drop_sets_from (p + 8) x at vs h
          ∙ ap (λ (l : List ℕ). sets l (at - (p + 8)) vs) e.behind
          ∙ sym (drop_sets_from (p + 8) y at vs h);
    }

-- and the same Write, with the CRC word that each keeps, leaves them equal elsewhere
elsewhere_written : (p : ℕ) (x y : List ℕ) → EqualElsewhere p x y → (at : ℕ) (vs : List ℕ) → 24 ≤ p → p + 8 ≤ at
    → (bank word : ℕ) → word ≡ number x 10 → p + 8 ≤ word
    → EqualElsewhere p (crc_kept bank word (sets x at vs)) (crc_kept bank word (sets y at vs))
unfolding crc_kept with_crc
elsewhere_written p x y e at vs far behind bank word place within =
    let stored : EqualElsewhere p (sets x at vs) (sets y at vs) = elsewhere_stored p x y e at vs behind in
    let stays : number (sets x at vs) 10 ≡ number x 10 = number_sets_before x at vs 10 (omega arith) in
    let crc : crc_word (sets x at vs) ≡ crc_word (sets y at vs) = same_crc p (sets x at vs) (sets y at vs) stored far (omega arith) in
    either (eqb bank 1)
    (λ epc. simp (epc, pick_true, crc) (elsewhere_stored p (sets x at vs) (sets y at vs) stored word (two_bytes (crc_word (sets y at vs))) within))
    (λ other. simp (other, pick_false) stored)

-- ---- the two images together

pub record Pair (a b x y : List ℕ) : Type 0 where
  pub first : Course a x
  pub second : Course b y
  pub elsewhere : EqualElsewhere (passwords_at a) x y

module _ (a b x y : List ℕ) (t : Pair a b x y) where
  pub gx : Good (view x)
  gx = good_facts x t.first.kept.image_good

  gy : Good (view y)
  gy = good_facts y t.second.kept.image_good

  pub sight : view x ≡ view y
  sight = same_view (passwords_at a) x y t.elsewhere t.first.kept.place gx gy

  -- an act that touches no password is answered alike
  pub same_answer : (act : Verdict) → Public (view x) act → answer x act ≡ answer y act
  unfolding answer passwords_at
  same_answer (Err (Plain e)) p = refl
  same_answer (Err (Tag e)) p = ap (λ (l : List ℕ). frame_of 0x01 0xFF (tag_byte e ∷ l)) (same_tail (passwords_at a) x y t.elsewhere t.first.kept.place gx gy)
  same_answer (Ok Notify) p =
      ap₂ (λ (r : ℕ) (l : List ℕ). frame_of 0x02 0x22 (r ∷ l))
      (same_rssi (passwords_at a) x y t.elsewhere t.first.kept.place gx gy)
      (ap₂ (λ (l m : List ℕ). l ++ m) (same_epc (passwords_at a) x y t.elsewhere t.first.kept.place gx gy)
      (same_word (passwords_at a) x y t.elsewhere t.first.kept.place gx gy))
  same_answer (Ok (Give at n)) p =
      ap₂ (λ (l m : List ℕ). frame_of 0x01 0x39 (l ++ m)) (same_tail (passwords_at a) x y t.elsewhere t.first.kept.place gx gy)
      (part_behind (passwords_at a) x y t.elsewhere at n (omega (arith, t.first.kept.place)))
  same_answer (Ok (Store at)) p =
      ap (λ (l : List ℕ). frame_of 0x01 0x49 (l ++ (0x00 ∷ []))) (same_tail (passwords_at a) x y t.elsewhere t.first.kept.place gx gy)
  same_answer (Ok (Set code at count value)) p = absurd p

  -- and leaves the pair a pair
  pub pair_after : (q : List ℕ) (act : Verdict) → Public (view x) act → good (changed x q act) ≡ true → good (changed y q act) ≡ true
      → Pair a b (changed x q act) (changed y q act)
  unfolding changed passwords_at view bank_at
  pair_after q (Err refusal) p hx hy = t
  pair_after q (Ok Notify) p hx hy = t
  pair_after q (Ok (Give at n)) p hx hy = t
  pair_after q (Ok (Store at)) p hx hy =
      let words : number x 10 ≡ number y 10 = ap (λ (v : View). v.epc.offset) sight in
      record {
        first = course a _ (spared_written a x t.first (bank_in q) at (data_in q) p) hx;
        second =
            course b _ (spared_written b y t.second (bank_in q) at (data_in q) (subst (λ (v : View). v.reserved.offset + 8 ≤ at) sight p)) hy;
        elsewhere =
            subst
            (λ (word : ℕ). EqualElsewhere (passwords_at a) (crc_kept (bank_in q) (number x 10) (sets x at (data_in q))) (crc_kept (bank_in q) word (sets y at (data_in q))))
            words
            (elsewhere_written (passwords_at a) x y t.elsewhere at (data_in q) (omega (arith, t.first.kept.place, gx.reserved_place))
            (omega (arith, t.first.kept.place)) (bank_in q) (number x 10) refl (omega (arith, t.first.kept.place, gx.epc_place)));
      }
  pair_after q (Ok (Set code at count value)) p hx hy = absurd p

-- ---- the commands of two lists

pub none_append : (a b : List ℕ) (xs ys : List Command) → none_carries a b (xs ++ ys) ≡ true → (none_carries a b xs ≡ true) × (none_carries a b ys ≡ true)
unfolding none_carries all
none_append a b [] ys h = (refl, h)
none_append a b (x ∷ xs) ys h =
    let rest : (none_carries a b xs ≡ true) × (none_carries a b ys ≡ true) =
    none_append a b xs ys (and_right (carries_none a b x) (none_carries a b (xs ++ ys)) h)
    in
    (and_both (carries_none a b x) (none_carries a b xs) (and_left (carries_none a b x) (none_carries a b (xs ++ ys)) h) rest.0, rest.1)
