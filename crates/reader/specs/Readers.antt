-- The reader's own state, and that before the first call: "cursor 0 .. and a fresh tally".
use Rattle.std.specs.Prelude.{ℕ}
use Rattle.reader.specs.Tallies.{fresh_tally}
use Rattle.reader.specs.declared.state.BenchState.{BenchState}
use Rattle.reader.specs.declared.state.Reader.{Reader}
use Rattle.reader.specs.declared.tally.Tally.{Tally}

abbrev pub reader_of : ℕ → Tally → Reader
reader_of cursor tally = record { cursor = cursor; tally = tally }

abbrev pub fresh_reader : Reader
fresh_reader = record { cursor = 0; tally = fresh_tally }

-- a bench before its first call: 16 stands for no tag to hand out, and the selection "starts empty"
abbrev pub fresh_bench : BenchState
fresh_bench = record { reader = fresh_reader; next = 16; selected = 0 }
