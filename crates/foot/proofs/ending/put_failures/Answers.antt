-- `put_failures` meets its contract: four numbers, each behind its word.
use Prim.Native.Nat.{◌+◌}
use mathlib.Core.Path.{◌≡◌, refl}
use native.Mathlib.Omega.{arith}
use Rattle.foot.specs.Foot.{failures_line}
use Rattle.rows.specs.Rows.{dropped_in}
use Rattle.text.proofs.Writing.{count_put, word_put, put_behind}
use Rattle.text.specs.Words.{ascii}
use Rattle.foot.proofs.ending.put_failures.Goals as goal

pub returns : goal.returns
unfolding failures_line
returns c =
    let t = c.args.tally in
    let error = c.from-error.ensures in
    let dropped = c.dropped_in-dropped.ensures.value in
    let all : c.from-error.result + c.dropped_in-dropped.result ≡ t.error + dropped_in t = omega arith in
    let both = put_behind (count_put (ascii "FAILURES ") all c.put_count.ensures) (count_put (ascii " = ERROR ") error c.put_count-2.ensures) in
    let three = put_behind both (count_put (ascii " + DROPPED ") dropped c.put_count-3.ensures) in
    put_behind (put_behind three (count_put (ascii ", ITEMS ") refl c.put_count-4.ensures)) (word_put c.put_text.ensures)
