-- What was read of a file that is not handed over whole.
use Rattle.std.specs.Prelude.{ℕ}
use Rattle.files.specs.declared.ReadError.{ReadError}
use Rattle.files.specs.declared.ReadError.TheVariants.{NotOpened, Unreadable}

-- how many bytes of it stand at the start of the buffer
unfoldable pub before_failure : ReadError → ℕ
before_failure NotOpened = 0
before_failure (Unreadable n) = n
