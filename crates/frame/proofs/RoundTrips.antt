-- A frame that is written is found again, whatever stands behind it.
use Rattle.std.proofs.Common.{◌≡◌, ℕ, ◌+◌, ◌/◌, ◌%◌, ◌<◌, ◌≤◌, Bool, true, eqb, List, [], ◌∷◌, ◌++◌, length, get_or, sym, refl, ap, ◌∙◌, append_assoc, arith, length-append, take_at, get_or-append-add, eq-eqb}
use Rattle.frame.proofs.Rules.{find_accept}
use Rattle.frame.specs.Bytes.{byte, number, bytes_of, part}
use Rattle.frame.specs.Claims.{RoundTrip}
use Rattle.frame.specs.Finding.{find}
use Rattle.frame.specs.Formats.{reader_frames, code_in, pl_in, parameters_in, sum_right, last_right}
use Rattle.frame.specs.Frames.{check_of, checked, frame_of, longest_command}
use Rattle.frame.specs.declared.finding.Found.TheVariants.{Accept}

module _ (type code : ℕ) (p behind : List ℕ) (fits : length p < 65536) where
  abbrev input : List ℕ
  input = frame_of type code p ++ behind

  abbrev check : ℕ
  check = check_of (checked type code p)

  -- the frame with its first five bytes in sight, the parameters, check and end, and what stands behind
  spread : input ≡ 0xBB ∷ type ∷ code ∷ length p / 256 % 256 ∷ length p % 256 ∷ (p ++ (check ∷ 0x7E ∷ behind))
  unfolding frame_of checked bytes_of
  spread = ap (λ (l : List ℕ). 0xBB ∷ type ∷ code ∷ length p / 256 % 256 ∷ length p % 256 ∷ l) (append_assoc p (check ∷ 0x7E ∷ []) behind)

  length_read : pl_in input ≡ length p
  unfolding pl_in number byte
  length_read = rw spread (omega arith)

  head_read : byte input 0 ≡ 0xBB
  unfolding byte
  head_read = rw spread

  type_read : byte input 1 ≡ type
  unfolding byte
  type_read = rw spread

  code_read : code_in input ≡ code
  unfolding code_in byte
  code_read = rw spread

  parameters_read : parameters_in input ≡ p
  unfolding parameters_in part
  parameters_read = rw (length_read, spread) (take_at p (check ∷ 0x7E ∷ behind) (length p) refl)

  long_enough : 7 + length p ≤ length input
  long_enough = rw spread (omega (arith, length-append p (check ∷ 0x7E ∷ behind)))

  -- the bytes from n behind the parameters on are those of check, end and what follows
  behind_parameters : (n : ℕ) → byte input (5 + (length p + n)) ≡ get_or (check ∷ 0x7E ∷ behind) n 0
  unfolding byte
  behind_parameters n =
      rw spread
      (get_or-append-add (0xBB ∷ type ∷ code ∷ length p / 256 % 256 ∷ length p % 256 ∷ []) (p ++ (check ∷ 0x7E ∷ behind)) (length p + n) 0
      ∙ get_or-append-add p (check ∷ 0x7E ∷ behind) n 0)

  checked_read : part input 1 (4 + length p) ≡ checked type code p
  unfolding part checked bytes_of
  checked_read =
      rw spread (take_at (type ∷ code ∷ length p / 256 % 256 ∷ length p % 256 ∷ p) (check ∷ 0x7E ∷ behind) (4 + length p) (omega arith))

  sum_read : sum_right (length p) input ≡ true
  unfolding sum_right
  sum_read =
      let at : 5 + length p ≡ 5 + (length p + 0) = omega arith in
      eq-eqb _ _ (ap (byte input) at ∙ behind_parameters 0 ∙ ap check_of (sym checked_read))

  last_read : last_right (length p) input ≡ true
  unfolding last_right
  last_read =
      let at : 6 + length p ≡ 5 + (length p + 1) = omega arith in
      eq-eqb _ _ (ap (byte input) at ∙ behind_parameters 1)

  -- in any format of the reader protocol that has its type and its length
  pub found_again : (types : ℕ → Bool) (most : ℕ) → types type ≡ true → length p ≤ most → find (reader_frames types most) input ≡ Accept (length p)
  found_again types most right short =
      find_accept (reader_frames types most) input (omega (arith, long_enough)) head_read (λ two. rw type_read right) (λ five. omega (arith, length_read))
      (length p) (sym length_read) long_enough sum_read last_read

pub round_trip : RoundTrip
unfolding longest_command
round_trip code p behind short =
    record {
      accepted = found_again 0x00 code p behind (omega arith) (λ type. eqb type 0x00) longest_command refl short;
      same_code = code_read 0x00 code p behind (omega arith);
      same_parameters = parameters_read 0x00 code p behind (omega arith);
    }
