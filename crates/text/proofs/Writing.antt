-- Pieces that a writer puts one behind the other are put as one piece where all of them have room.
use Prim.Native.Nat.{ℕ, ◌+◌, ◌-◌, ◌≤◌, ◌<◌}
use borrow.Author.Tests.{lt-leb}
use lib.ListN.{length, length-append}
use lib.Seq.{sets, length-sets}
use mathlib.Core.Bool.{Bool, false}
use mathlib.Core.List.{List, [], ◌++◌}
use mathlib.Core.Path.{◌≡◌, refl, ap, subst, ◌∙◌}
use native.Mathlib.Omega.{arith}
use Rattle.frame.proofs.Copies.{there_reaches}
use Rattle.frame.proofs.Picks.{by_test}
use Rattle.frame.specs.Bytes.{pick, reaches}
use Rattle.frame.specs.Putting.{Put}
use Rattle.text.proofs.Decimals.{length_decimal, decimal_64}
use Rattle.text.proofs.Laying.{laid_put, put_laid, none_laid, within_put, put_within, none_within}
use Rattle.text.proofs.Lengths.{hex_short}
use Rattle.text.proofs.Puts.{put_join}
use Rattle.text.specs.Counts.{count_part}
use Rattle.text.specs.Digits.{hex_byte, width, decimal}
use Rattle.text.specs.Writing.{Lays, LaysWithin, Puts, PutsRight}
use Rattle.text.specs.declared.writer.Writer.{Writer}

short_of : (bytes : List ℕ) (at n : ℕ) → length bytes < at + n → reaches bytes at n ≡ false
unfolding reaches
short_of bytes at n short = lt-leb (at + n) (length bytes) short

pick_length : (fits : Bool) (piece : List ℕ) (at : ℕ) (before after : List ℕ) → after ≡ pick fits (sets before at piece) before → length after ≡ length before
pick_length fits piece at before after e =
    ap length e ∙ by_test (λ (l : List ℕ). length l ≡ length before) fits (λ _. length-sets before at piece) (λ _. refl)

-- ---- one piece

pub lays_put : {piece : List ℕ} {before after : Writer} → before.at + length piece ≤ length before.buffer.now
    → after.buffer.ghost_name ≡ before.buffer.ghost_name → after.buffer.now ≡ sets before.buffer.now before.at piece
    → after.at ≡ before.at + length piece → Lays piece before after
lays_put {piece = piece} {before = before} {after = after} room same bytes place =
    record {
      same_reference = same;
      laid =
          put_laid piece before.at before.buffer.now after.buffer.now after.at (there_reaches before.buffer.now before.at (length piece) room)
          record { output_is = bytes; next_is = place };
    }

pub lays_nothing : (piece : List ℕ) (writer : Writer) → length writer.buffer.now < writer.at + length piece → Lays piece writer writer
lays_nothing piece writer short =
    record { same_reference = refl; laid = none_laid piece writer.at writer.buffer.now (short_of writer.buffer.now writer.at (length piece) short) }

module _ {most : ℕ} {piece : List ℕ} {before after : Writer} where
  -- a piece that is laid is put where so many have room
  pub short_put : length piece ≤ most → Lays piece before after → Puts most piece before after
  short_put short lays =
      record {
        same_reference = lays.same_reference;
        same_length = pick_length _ piece before.at before.buffer.now after.buffer.now lays.laid.bytes_are;
        short = short;
        put = λ room. laid_put piece before.at before.buffer.now after.buffer.now after.at (omega arith) lays.laid;
      }

  pub within_puts : LaysWithin most piece before after → Puts most piece before after
  within_puts lays =
      record {
        same_reference = lays.same_reference;
        same_length = pick_length _ piece before.at before.buffer.now after.buffer.now lays.laid.bytes_are;
        short = lays.laid.short;
        put = λ room. within_put most piece before.at before.buffer.now after.buffer.now after.at room lays.laid;
      }

  pub puts_within : before.at + most ≤ length before.buffer.now → Puts most piece before after → LaysWithin most piece before after
  puts_within room puts =
      record {
        same_reference = puts.same_reference;
        laid =
            put_within most piece before.at before.buffer.now after.buffer.now after.at
            (there_reaches before.buffer.now before.at most room) puts.short (puts.put room);
      }

  -- the same piece, in other words, and with more room than it may take
  pub same_piece : {other : List ℕ} → piece ≡ other → Puts most piece before after → Puts most other before after
  same_piece e = subst (λ (text : List ℕ). Puts most text before after) e

  pub more_room : (more : ℕ) → most ≤ more → Puts most piece before after → Puts more piece before after
  more_room more few puts =
      record {
        same_reference = puts.same_reference;
        same_length = puts.same_length;
        short = omega (arith, puts.short);
        put = λ room. puts.put (omega arith);
      }

-- where so many have no room nothing is put
pub within_nothing : (most : ℕ) (piece : List ℕ) (writer : Writer) → length piece ≤ most → length writer.buffer.now < writer.at + most
    → LaysWithin most piece writer writer
within_nothing most piece writer few short =
    record {
      same_reference = refl;
      laid = none_within most piece writer.at writer.buffer.now (short_of writer.buffer.now writer.at most short) few;
    }

pub nothing_put : (most : ℕ) (writer : Writer) → Puts most [] writer writer
nothing_put most writer =
    record {
      same_reference = refl;
      same_length = refl;
      short = omega arith;
      put = λ room. record { output_is = refl; next_is = omega arith };
    }

-- one piece behind another
pub put_behind : {m n : ℕ} {a b : List ℕ} {before middle after : Writer} → Puts m a before middle → Puts n b middle after → Puts (m + n) (a ++ b) before after
put_behind {m = m} {n = n} {a = a} {b = b} {before = before} {middle = middle} {after = after} first second =
    record {
      same_reference = second.same_reference ∙ first.same_reference;
      same_length = second.same_length ∙ first.same_length;
      short = omega (arith, first.short, second.short, length-append a b);
      put = λ room.
          let one : Put a before.at before.buffer.now middle.buffer.now middle.at = first.put (omega arith) in
          put_join a b before.at before.buffer.now middle.buffer.now after.buffer.now middle.at after.at one
          (second.put (omega (arith, one.next_is, first.short, first.same_length)));
    }

-- ---- words and numbers

pub word_put : {word : List ℕ} {before after : Writer} → Lays word before after → Puts (length word) word before after
word_put = short_put (omega arith)

-- a text that a call gave
pub text_put : {piece text : List ℕ} {before after : Writer} (most : ℕ) → piece ≡ text → length text ≤ most → Lays piece before after
    → Puts most text before after
text_put {before = before} {after = after} most e few lays = short_put few (subst (λ (l : List ℕ). Lays l before after) e lays)

pub count_put : (word : List ℕ) {n m : ℕ} {before after : Writer} → n ≡ m → LaysWithin (length word + 20) (count_part word n) before after
    → Puts (length word + 20) (count_part word m) before after
count_put word e lays = same_piece (ap (count_part word) e) (within_puts lays)

pub decimal_put : {n : ℕ} {before after : Writer} → n < 18446744073709551616 → Lays (decimal n) before after → Puts 20 (decimal n) before after
decimal_put {n = n} small = short_put (decimal_64 n small)

pub hex_put : (b : ℕ) {before after : Writer} → Lays (hex_byte b) before after → Puts 2 (hex_byte b) before after
hex_put b = short_put (hex_short b)

-- ---- a number at the right of its columns

pub right_put : (columns n w free : ℕ) (before : Writer) {after : Writer} → w ≡ width n → free ≡ columns - w
    → Lays (decimal n) (record before { at = before.at + free }) after → PutsRight columns n before after
right_put columns n w free before {after = after} wide left lays =
    let digits : length (decimal n) ≡ w = length_decimal n w wide in
    let there : free ≡ columns - length (decimal n) = omega arith in
    record {
      same_reference = lays.same_reference;
      same_length = pick_length _ (decimal n) (before.at + free) before.buffer.now after.buffer.now lays.laid.bytes_are;
      put = λ room long.
          subst (λ (k : ℕ). Put (decimal n) (before.at + k) before.buffer.now after.buffer.now after.at) there
          (laid_put (decimal n) (before.at + free) before.buffer.now after.buffer.now after.at (omega arith) lays.laid);
    }

pub right_nothing : (columns n : ℕ) (writer : Writer) → length writer.buffer.now < writer.at + columns → PutsRight columns n writer writer
right_nothing columns n writer short =
    record { same_reference = refl; same_length = refl; put = λ room long. absurd (omega arith) }
