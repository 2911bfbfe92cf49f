-- A proof of every statement on the claims page, specs/Claims.antt, in its order.
use Prim.Native.Nat.{ℕ}
use mathlib.Core.List.{List}
use Rattle.tag.proofs.CommandRows as CommandRows
use Rattle.tag.proofs.LockWords as LockWords
use Rattle.tag.specs.Claims.{OtherCodes, InventoryRows, ReadRows, WriteRows, LockRows, KillRows, PairBits, LockTable, Regions, RangeBeforeLock, Standings, PairTable}
use Rattle.image.specs.declared.header.View.{View}
use Rattle.tag.specs.declared.locks.Standing.{Standing}

pub other_codes : OtherCodes
other_codes = CommandRows.other_codes

pub inventory_rows : InventoryRows
inventory_rows = CommandRows.inventory_rows

pub read_rows : ReadRows
read_rows = CommandRows.read_rows

pub write_rows : WriteRows
write_rows = CommandRows.write_rows

pub lock_rows : LockRows
lock_rows = CommandRows.lock_rows

pub kill_rows : KillRows
kill_rows = CommandRows.kill_rows

pub pair_bits : PairBits
pair_bits = LockWords.pair_bits

pub lock_table : LockTable
lock_table = LockWords.lock_table

pub regions : (v : View) (s : Standing) (pointer n : ℕ) → Regions v s pointer n
regions = LockWords.regions

pub range_before_lock : (v : View) (s : Standing) (bank pointer n : ℕ) (words : List ℕ) → RangeBeforeLock v s bank pointer n words
range_before_lock = LockWords.range_before_lock

pub standings : (stored given : ℕ) → Standings stored given
standings = LockWords.standings

pub pair_table : PairTable
pair_table = LockWords.pair_table
