-- The bytes that the CRC word is worked of: those of the PC and the EPC that are there.
use Rattle.std.proofs.Common.{◌≡◌, ℕ, ◌+◌, ◌-◌, ◌≤◌, ◌<◌, List, length, take, drop, min, sym, ap, ◌∙◌, arith, length-drop}
use Rattle.std.proofs.lemmas.List.{take_min}
use borrow.Author.Tests.{ltb-true, ltb-false}
use lib.Dec.{ltb}
use lib.ListN.{drop_of_length-le}
use Rattle.crc.specs.Crc.{tag_crc}
use Rattle.frame.proofs.Tests.{either}
use Rattle.frame.specs.Bytes.{part}

-- bytes that are asked for behind the end are left out
count_cut : (l : List ℕ) (i n : ℕ) → take (min n (length l - i)) (drop i l) ≡ take n (drop i l)
count_cut l i n = rw (← length-drop i l) (take_min n (drop i l))

from_cut : (l : List ℕ) (i : ℕ) → drop (min i (length l)) l ≡ drop i l
from_cut l i =
    either (ltb (length l) i)
    (λ h.
    let behind : length l < i = ltb-true _ _ h in
    let last : min i (length l) ≡ length l = omega arith in
    rw last (drop_of_length-le l (omega arith) ∙ sym (drop_of_length-le l (omega arith))))
    (λ h.
    let before : i ≤ length l = ltb-false _ _ h in
    let same : min i (length l) ≡ i = omega arith in
    rw same)

pub worked_bytes : (image : List ℕ) (start bytes : ℕ)
    → let from : ℕ = min start (length image) in
    let count : ℕ = min bytes (length image - from) in
    tag_crc (take (from + count - from) (drop from image)) ≡ tag_crc (part image start bytes)
unfolding part
worked_bytes image start bytes =
    let from : ℕ = min start (length image) in
    let count : ℕ = min bytes (length image - from) in
    let whole : from + count - from ≡ count = omega arith in
    ap tag_crc (rw whole (count_cut image from bytes ∙ ap (take bytes) (from_cut image start)))
