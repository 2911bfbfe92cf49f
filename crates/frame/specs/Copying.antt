-- Copying bytes from one slice into another: n bytes from `start` of the one to `at` of the other. Where either has
-- not so many there, nothing is copied.
use Rattle.std.specs.Prelude.{ℕ, ◌&&◌, List}
use Rattle.std.proofs.lemmas.List.Edits.{sets}
use Rattle.frame.specs.Bytes.{pick, part, reaches}

-- the bytes after
unfoldable pub copied : List ℕ → ℕ → ℕ → List ℕ → ℕ → List ℕ
copied from start n to at = pick (reaches from start n && reaches to at n) (sets to at (part from start n)) to
