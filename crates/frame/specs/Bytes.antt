-- Numbers and parts of byte lists, as document 01 speaks of them, and the choice by a test in which its rules are written.
use Rattle.std.specs.Prelude.{ℕ, zero, suc, ◌+◌, ◌*◌, ◌/◌, ◌%◌, Bool, true, false, ◌&&◌, List, [], ◌∷◌, ◌++◌, length, get_or, take, drop, nat_le}

-- `pick test x y`: x where the test holds, else y. A row of rules, tried in order, is a chain of these.
unfoldable pub pick {ℓ} : {X : Type ℓ} → Bool → X → X → X
pick true x y = x
pick false x y = y

-- the first row whose test holds gives the value; where none holds, the last one is given
unfoldable pub first_of {ℓ} : {X : Type ℓ} → List (Bool × X) → X → X
first_of [] last = last
first_of (row ∷ rows) last = pick row.0 row.1 (first_of rows last)

-- every test of a list holds
unfoldable pub all : List Bool → Bool
all [] = true
all (test ∷ tests) = test && all tests

-- the byte at i, the two-byte number at i, "high first", and the four-byte number at i
unfoldable pub byte : List ℕ → ℕ → ℕ
byte bytes i = get_or bytes i 0

unfoldable pub number : List ℕ → ℕ → ℕ
number bytes i = byte bytes i * 256 + byte bytes (i + 1)

unfoldable pub double : List ℕ → ℕ → ℕ
double bytes i = number bytes i * 65536 + number bytes (i + 2)

-- the last n bytes of a number, "high first"; and a number as two bytes
unfoldable pub bytes_of : ℕ → ℕ → List ℕ
bytes_of zero value = []
bytes_of (suc n) value = bytes_of n (value / 256) ++ (value % 256 ∷ [])

abbrev pub two_bytes : ℕ → List ℕ
two_bytes value = bytes_of 2 value

-- the n bytes from i on
unfoldable pub part : List ℕ → ℕ → ℕ → List ℕ
part bytes i n = take n (drop i bytes)

-- the n bytes from i on are all there
unfoldable pub reaches : List ℕ → ℕ → ℕ → Bool
reaches bytes i n = nat_le (i + n) (length bytes)
