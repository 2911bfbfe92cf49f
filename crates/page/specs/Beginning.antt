-- What the function that begins a page promises.
use Rattle.std.specs.Prelude.{ℕ, ◌≤◌, ◌<◌, Bool, false, List, ◌≡◌, length}
use Rattle.frame.specs.Frames.{written}
use Rattle.page.specs.declared.beginning.Begun.{Begun}

-- The page begins with this text, at the start of the buffer, and what lies behind it stays. In a buffer of less than 2,048 bytes nothing is written.
pub record Begins (text : List ℕ) (rows : Bool) (before after : List ℕ) (r : Begun) : Type 0 where
  pub short : length before < 2048 → (r.used ≡ 0) × ((r.rows ≡ false) × (after ≡ before))
  pub long : 2048 ≤ length before → (r.used ≡ length text) × ((r.rows ≡ rows) × (after ≡ written text before))
  pub within : r.used ≤ length before
