-- Document 01, "The frame".
use Rattle.std.specs.Prelude.{ℕ, ◌+◌, ◌%◌, List, [], ◌∷◌, ◌++◌, length, drop}
use Rattle.frame.specs.Bytes.{two_bytes}

-- "Check is the sum of all bytes from type to the last parameter, modulo 256."
unfoldable pub sum : List ℕ → ℕ
sum [] = 0
sum (b ∷ bytes) = b + sum bytes

unfoldable pub check_of : List ℕ → ℕ
check_of bytes = sum bytes % 256

-- the bytes that the check is over: type, code, "PL as two bytes high first, PL parameter bytes"
unfoldable pub checked : ℕ → ℕ → List ℕ → List ℕ
checked type code parameters = type ∷ code ∷ (two_bytes (length parameters) ++ parameters)

-- "Bytes: BB, type, code, PL as two bytes high first, PL parameter bytes, check, 7E."
unfoldable pub frame_of : ℕ → ℕ → List ℕ → List ℕ
frame_of type code parameters = 0xBB ∷ (checked type code parameters ++ (check_of (checked type code parameters) ∷ 0x7E ∷ []))

-- "A frame has 7 + PL bytes."
unfoldable pub frame_length : ℕ → ℕ
frame_length pl = 7 + pl

-- "Commands here have PL at most 80 (house)"; "Answers have at most 136 bytes."
unfoldable pub longest_command : ℕ
longest_command = 80

unfoldable pub longest_answer : ℕ
longest_answer = 136

-- "Answer numbers of a call": "one frame at the start of the output"; "Bytes of the output behind the written frame stay."
unfoldable pub written : List ℕ → List ℕ → List ℕ
written frame output = frame ++ drop (length frame) output
