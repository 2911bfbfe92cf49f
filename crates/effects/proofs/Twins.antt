-- Two good images that are equal but for the password bytes: what the rules see of them is the same, and so is every part behind
-- the passwords.
use Prim.Native.Nat.{ℕ, ◌+◌, ◌-◌, ◌*◌, ◌≤◌, ◌<◌}
use lib.ListN.{length, take, drop, get_or}
use lib.Seq.{get_or-take, get_or-drop, drop-drop}
use mathlib.Core.List.{List, ◌∷◌}
use mathlib.Core.Path.{◌≡◌, refl, ap, ap₂, sym, ◌∙◌}
use native.Mathlib.Omega.{arith}
use Rattle.effects.specs.Secrecy.{EqualElsewhere, passwords_at}
use Rattle.crc.specs.Crc.{tag_crc}
use Rattle.frame.specs.Bytes.{byte, number, part}
use Rattle.image.proofs.GoodImages.{Good}
use Rattle.tag.specs.Answers.{tail}
use Rattle.image.specs.Image.{view, bank_at, rssi, word_at, epc_length, pc_and_epc, crc_word}
use Rattle.image.specs.declared.header.View.{View}

module _ (at : ℕ) (x y : List ℕ) (e : EqualElsewhere at x y) where
  byte_before : (i : ℕ) → i < at → byte x i ≡ byte y i
  unfolding byte
  byte_before i h = sym (get_or-take at x i 0 h) ∙ ap (λ (l : List ℕ). get_or l i 0) e.before ∙ get_or-take at y i 0 h

  pub byte_behind : (i : ℕ) → at + 8 ≤ i → byte x i ≡ byte y i
  unfolding byte
  byte_behind i h =
      let k : at + 8 + (i - (at + 8)) ≡ i = omega arith in
      ap (λ (n : ℕ). get_or x n 0) (sym k)
      ∙ sym (get_or-drop (at + 8) x (i - (at + 8)) 0)
      ∙ ap (λ (l : List ℕ). get_or l (i - (at + 8)) 0) e.behind
      ∙ get_or-drop (at + 8) y (i - (at + 8)) 0
      ∙ ap (λ (n : ℕ). get_or y n 0) k

  number_before : (i : ℕ) → i + 1 < at → number x i ≡ number y i
  unfolding number
  number_before i h = simp (byte_before i (omega arith), byte_before (i + 1) h)

  number_behind : (i : ℕ) → at + 8 ≤ i → number x i ≡ number y i
  unfolding number
  number_behind i h = simp (byte_behind i h, byte_behind (i + 1) (omega arith))

  pub part_behind : (i n : ℕ) → at + 8 ≤ i → part x i n ≡ part y i n
  unfolding part
  part_behind i n h =
      let k : at + 8 + (i - (at + 8)) ≡ i = omega arith in
      ap (λ (j : ℕ). take n (drop j x)) (sym k)
      ∙ ap (λ (l : List ℕ). take n l)
      (sym (drop-drop (i - (at + 8)) (at + 8) x) ∙ ap (λ (l : List ℕ). drop (i - (at + 8)) l) e.behind ∙ drop-drop (i - (at + 8)) (at + 8) y)
      ∙ ap (λ (j : ℕ). take n (drop j y)) k

  -- the CRC word is worked of bytes behind the passwords
  pub same_crc : 24 ≤ at → at + 8 ≤ number x 10 → crc_word x ≡ crc_word y
  unfolding crc_word pc_and_epc word_at view bank_at
  same_crc far behind =
      let epc : number x 10 ≡ number y 10 = number_before 10 (omega arith) in
      let pc : number x (number x 10 + 2) ≡ number y (number x 10 + 2) = number_behind (number x 10 + 2) (omega arith) in
      ap tag_crc
      (part_behind (number x 10 + 2 * 1) (2 + 2 * epc_length (number x (number x 10 + 2))) (omega arith) ∙ rw (pc, epc) refl)

  module _ (place : passwords_at x ≡ at) (gx : Good (view x)) (gy : Good (view y)) where
    header_far : 24 ≤ at
    unfolding passwords_at
    header_far = omega (arith, gx.reserved_place, place)

    pub same_rssi : rssi x ≡ rssi y
    unfolding rssi
    same_rssi = byte_before 23 (omega (arith, header_far))

    same_size : length x ≡ length y
    unfolding view bank_at
    same_size = omega (arith, gx.total_lent, gy.total_lent, number_before 2 (omega (arith, header_far)))

    pub same_view : view x ≡ view y
    unfolding view bank_at passwords_at
    same_view =
        let far : 24 ≤ at = header_far in
        let epc : number x 10 ≡ number y 10 = number_before 10 (omega arith) in
        let behind : at + 8 ≤ number y 10 + 2 = omega (arith, gx.epc_place, place, epc) in
        let pc : number x (number y 10 + 2) ≡ number y (number y 10 + 2) = number_behind (number y 10 + 2) behind in
        simp (
          pc,
          same_size,
          number_before 0 (omega arith),
          number_before 2 (omega arith),
          number_before 4 (omega arith),
          number_before 6 (omega arith),
          number_before 8 (omega arith),
          epc,
          number_before 12 (omega arith),
          number_before 14 (omega arith),
          number_before 16 (omega arith),
          number_before 18 (omega arith),
          number_before 20 (omega arith),
          byte_before 22 (omega arith),
        )

    pub same_epc : pc_and_epc x ≡ pc_and_epc y
    unfolding pc_and_epc word_at passwords_at
    same_epc =
        part_behind (word_at (view x).epc 1) (2 + 2 * epc_length (view x).pc) (omega (arith, gx.epc_place, place))
        ∙ ap (λ (v : View). part y (word_at v.epc 1) (2 + 2 * epc_length v.pc)) same_view

    pub same_word : part x (view x).epc.offset 2 ≡ part y (view y).epc.offset 2
    unfolding passwords_at
    same_word =
        part_behind (view x).epc.offset 2 (omega (arith, gx.epc_place, place)) ∙ ap (λ (v : View). part y v.epc.offset 2) same_view

    pub same_tail : tail x ≡ tail y
    unfolding tail
    same_tail = ap₂ (λ (v : View) (l : List ℕ). (2 + 2 * epc_length v.pc) ∷ l) same_view same_epc
