-- What the acts that store make of the image.
use Prim.Native.Nat.{ℕ, zero, suc, ◌+◌, ◌-◌, ◌/◌, ◌%◌, ◌≤◌}
use lib.ListN.{length, set, drop, length-drop}
use lib.Seq.{sets, take_all}
use mathlib.Core.List.{List}
use mathlib.Core.Path.{◌≡◌, ap, ap₂, sym, ◌∙◌}
use native.Mathlib.Omega.{arith}
use Rattle.std.specs.Prelude.{Ok}
use Rattle.frame.proofs.Copies.{copied_is}
use Rattle.frame.proofs.Numbers.{length_bytes_of}
use Rattle.frame.proofs.Stores.{set_join}
use Rattle.frame.specs.Bytes.{byte, number, part, bytes_of}
use Rattle.frame.specs.Copying.{copied}
use Rattle.image.specs.Image.{view, bank_at}
use Rattle.tag.specs.Answers.{crc_kept, changed}
use Rattle.tag.specs.Commands.{bank_in, data_in}
use Rattle.tag.specs.declared.commands.Act.TheVariants.{Store}

-- a Write's data, as they are copied
data_part : (p : List ℕ) → part p 9 (length p - 9) ≡ data_in p
unfolding part data_in
data_part p = take_all (length p - 9) (drop 9 p) (omega (arith, length-drop 9 p))

-- the data are copied, and then the CRC word is kept at the place that EPC word 0 has in the header before
pub store_copied : (image p : List ℕ) (at : ℕ) (copies after : List ℕ) (word : ℕ) → 9 ≤ length p → at + (length p - 9) ≤ length image
    → copies ≡ copied p 9 (length p - 9) image at
    → word ≡ number image 10
    → after ≡ crc_kept (byte p 4) word copies
    → after ≡ changed image p (Ok (Store at))
unfolding changed bank_in view bank_at
store_copied image p at copies after word fields room e place kept =
    kept
    ∙ ap₂ (crc_kept (byte p 4)) place
    (e ∙ copied_is p 9 (length p - 9) image at (omega arith) room ∙ ap (λ (l : List ℕ). sets image at l) (data_part p))

-- the bytes of a number: all but the last, and then that
pub last_byte : (l : List ℕ) (at n value : ℕ) → 1 ≤ n
    → set (sets l at (bytes_of (n - 1) (value / 256))) (at + (n - 1)) (value % 256) ≡ sets l at (bytes_of n value)
unfolding bytes_of
last_byte l at zero value some = elim some [ ]
last_byte l at (suc n) value some =
    let before : suc n - 1 ≡ n = omega arith in
    let most : List ℕ = bytes_of n (value / 256) in
    rw before
    (ap (λ (k : ℕ). set (sets l at most) (at + k) (value % 256)) (sym (length_bytes_of n (value / 256))) ∙ set_join l at most (value % 256))
