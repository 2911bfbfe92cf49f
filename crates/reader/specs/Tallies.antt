-- Document 01, "Answer numbers of a call": the tally, with the five counts of request P1. "The tally's one dropped count becomes five, each under the
-- limit of answer 13."
use Rattle.std.specs.Prelude.{ℕ, ◌+◌, Bool, false, ◌||◌, List, [], ◌∷◌, eqb}
use Rattle.frame.specs.Bytes.{pick}
use Rattle.frame.specs.declared.finding.Reason.{Reason}
use Rattle.frame.specs.declared.finding.Reason.TheVariants.{NoHeader, WrongType, TooLong, WrongCheck, WrongEnd}
use Rattle.reader.specs.declared.tally.Tally.{Tally}

-- good answers, error answers, and bytes dropped for no header, a wrong type, being too long, a wrong check and a wrong end
abbrev pub tally_of : ℕ → ℕ → ℕ → ℕ → ℕ → ℕ → ℕ → Tally
tally_of good error header kind long check end =
    record { good = good; error = error; header = header; kind = kind; long = long; check = check; end = end }

abbrev pub counts_of : Tally → List ℕ
counts_of t = t.good ∷ t.error ∷ t.header ∷ t.kind ∷ t.long ∷ t.check ∷ t.end ∷ []

-- "any tally count at 4,294,967,295"
unfoldable pub limit : ℕ
limit = 4294967295

unfoldable pub any_at_limit : List ℕ → Bool
any_at_limit [] = false
any_at_limit (n ∷ counts) = eqb n limit || any_at_limit counts

unfoldable pub full : Tally → Bool
full t = any_at_limit (counts_of t)

-- a count raised by one; at the limit it stays
unfoldable pub raised : ℕ → ℕ
raised count = pick (eqb count limit) count (count + 1)

-- a fresh tally, and a tally with one count raised
abbrev pub fresh_tally : Tally
fresh_tally = tally_of 0 0 0 0 0 0 0

abbrev pub with_good : Tally → Tally
with_good t = tally_of (raised t.good) t.error t.header t.kind t.long t.check t.end

abbrev pub with_error : Tally → Tally
with_error t = tally_of t.good (raised t.error) t.header t.kind t.long t.check t.end

abbrev pub with_no_header : Tally → Tally
with_no_header t = tally_of t.good t.error (raised t.header) t.kind t.long t.check t.end

abbrev pub with_wrong_type : Tally → Tally
with_wrong_type t = tally_of t.good t.error t.header (raised t.kind) t.long t.check t.end

abbrev pub with_too_long : Tally → Tally
with_too_long t = tally_of t.good t.error t.header t.kind (raised t.long) t.check t.end

abbrev pub with_wrong_check : Tally → Tally
with_wrong_check t = tally_of t.good t.error t.header t.kind t.long (raised t.check) t.end

abbrev pub with_wrong_end : Tally → Tally
with_wrong_end t = tally_of t.good t.error t.header t.kind t.long t.check (raised t.end)

unfoldable pub with_dropped : Reason → Tally → Tally
with_dropped NoHeader t = with_no_header t
with_dropped WrongType t = with_wrong_type t
with_dropped TooLong t = with_too_long t
with_dropped WrongCheck t = with_wrong_check t
with_dropped WrongEnd t = with_wrong_end t
