-- Document 01, "Demand 2's machine", "For demand 3": the words that demand 3 is put in, of one tag and of one command.
use Rattle.std.specs.Prelude.{ℕ, ◌+◌, Bool, not, ◌&&◌, ◌||◌, List, [], ◌∷◌, ◌⊎◌, ◌≢◌, ◌≡◌, eqb, leb, length, take, drop}
use Rattle.frame.specs.Bytes.{all, double}
use Rattle.image.specs.Image.{view, kill_password, access_password}
use Rattle.tag.specs.Locks.{pairs}

-- "the password bytes are the eight of the Reserved bank"
unfoldable pub passwords_at : List ℕ → ℕ
passwords_at image = (view image).reserved.offset

-- "two good images that differ only in the eight password bytes"; "equal elsewhere"
pub record EqualElsewhere (at : ℕ) (a b : List ℕ) : Type 0 where
  pub before : take at a ≡ take at b
  pub behind : drop (at + 8) a ≡ drop (at + 8) b

-- "A password region is locked if its pair is 10 or 11."
abbrev pub Locked : ℕ → Type 0
Locked pair = (pair ≡ 0b10) ⊎ (pair ≡ 0b11)

-- "All four passwords are nonzero, and both password regions are locked, for good or not."
pub record Hidden (image : List ℕ) : Type 0 where
  pub kill_nonzero : kill_password image ≢ 0
  pub access_nonzero : access_password image ≢ 0
  pub kill_locked : Locked (pairs (view image).locks).kill
  pub access_locked : Locked (pairs (view image).locks).access

-- a command that was accepted
pub record Command : Type 0 where
  pub code : ℕ
  pub parameters : List ℕ

-- "A Read, Write, Lock or Kill carries its first four parameter bytes as a password; one with fewer carries none."
unfoldable pub carries : Command → ℕ → Bool
carries m password = leb 4 (length m.parameters) && eqb (double m.parameters 0) password

-- "no Read, Write or Lock carries an access password of either image, and no Kill a kill password of either"
unfoldable pub carries_none : List ℕ → List ℕ → Command → Bool
carries_none a b m =
    not ((eqb m.code 0x39 || eqb m.code 0x49 || eqb m.code 0x82) && (carries m (access_password a) || carries m (access_password b)))
    && not (eqb m.code 0x65 && (carries m (kill_password a) || carries m (kill_password b)))

unfoldable pub none_carries : List ℕ → List ℕ → List Command → Bool
none_carries a b [] = all []
none_carries a b (m ∷ commands) = carries_none a b m && none_carries a b commands
