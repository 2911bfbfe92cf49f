-- Document 01, "Lock bits".
use Rattle.std.specs.Prelude.{ℕ, ◌+◌, ◌*◌, ◌/◌, ◌%◌, Bool, true, false, not, ◌&&◌, ◌||◌, List, eqb, ltb}
use Rattle.frame.specs.Bytes.{pick}
use Rattle.image.specs.Image.{kill_password, access_password}
use Rattle.tag.specs.declared.locks.KillStanding.{KillStanding}
use Rattle.tag.specs.declared.locks.KillStanding.TheVariants.{NoneStored, Equal, Different}
use Rattle.tag.specs.declared.locks.Pairs.{Pairs}
use Rattle.tag.specs.declared.locks.Standing.{Standing}
use Rattle.tag.specs.declared.locks.Standing.TheVariants.{Secured, Open, Wrong}
use Rattle.image.specs.declared.header.View.{View}

-- "Pairs, from bit 9 down: kill 9,8; access 7,6; EPC 5,4; TID 3,2; User 1,0."
unfoldable pub pairs : ℕ → Pairs
pairs bits = record { kill = bits / 256 % 4; access = bits / 64 % 4; epc = bits / 16 % 4; tid = bits / 4 % 4; user = bits % 4 }

unfoldable pub bits_of : Pairs → ℕ
bits_of p = p.kill * 256 + p.access * 64 + p.epc * 16 + p.tid * 4 + p.user

-- "The high bit of a pair is the password bit, the low bit the permalock bit"
unfoldable pub permalocked : ℕ → Bool
permalocked pair = eqb (pair % 2) 1

-- "A tag is secured for one command if its stored access password is zero and the command's is zero, or the command's is
-- nonzero and equal. A nonzero password that differs is wrong, also where the stored one is zero. A zero password against
-- a nonzero stored one leaves the tag open."
unfoldable pub standing_of : ℕ → ℕ → Standing
standing_of stored given = pick (eqb given 0) (pick (eqb stored 0) Secured Open) (pick (eqb given stored) Secured Wrong)

unfoldable pub standing : List ℕ → ℕ → Standing
standing image given = standing_of (access_password image) given

unfoldable pub is_secured : Standing → Bool
is_secured Secured = true
is_secured Open = false
is_secured Wrong = false

unfoldable pub is_wrong : Standing → Bool
is_wrong Secured = false
is_wrong Open = false
is_wrong Wrong = true

-- "The commands", 0x65: "Stored one zero: D0. Different: plain 12."
unfoldable pub kill_standing_of : ℕ → ℕ → KillStanding
kill_standing_of stored given = pick (eqb stored 0) NoneStored (pick (eqb given stored) Equal Different)

unfoldable pub kill_standing : List ℕ → ℕ → KillStanding
kill_standing image given = kill_standing_of (kill_password image) given

-- The table: 00 and 01 free, 10 only when secured, 11 never.
unfoldable pub allows : ℕ → Standing → Bool
allows pair s = pick (eqb pair 0b00) true (pick (eqb pair 0b01) true (pick (eqb pair 0b10) (is_secured s) false))

-- some of the words from `pointer` on, `count` of them, is word `first` or the next one
unfoldable pub touches : ℕ → ℕ → ℕ → Bool
touches pointer count first = ltb pointer (first + 2) && ltb first (pointer + count)

-- Each password region that is touched lets the command through, to read or to write.
unfoldable pub may_touch_passwords : View → Standing → ℕ → ℕ → Bool
may_touch_passwords v s pointer count =
    (not (touches pointer count 0) || allows (pairs v.locks).kill s) && (not (touches pointer count 2) || allows (pairs v.locks).access s)

-- "EPC, TID and User can always be read."
unfoldable pub may_read : View → Standing → ℕ → ℕ → ℕ → Bool
may_read v s bank pointer count = pick (eqb bank 0) (may_touch_passwords v s pointer count) true

unfoldable pub may_write : View → Standing → ℕ → ℕ → ℕ → Bool
may_write v s bank pointer count =
    pick (eqb bank 0) (may_touch_passwords v s pointer count)
    (pick (eqb bank 1) (allows (pairs v.locks).epc s)
    (pick (eqb bank 2) (allows (pairs v.locks).tid s)
    (allows (pairs v.locks).user s)))

-- ---- "The commands", 0x82, with request P3: what a Lock makes of one pair, from its mask and action

-- "For each region whose permalock bit is already 1: a masked permalock bit with action 0 refuses the whole command with C4 ..; if only the password bit
-- is masked, a differing action refuses with C4 and an equal one changes nothing."
unfoldable pub refuses_pair : ℕ → ℕ → ℕ → Bool
refuses_pair mask action old =
    permalocked old && pick (eqb (mask % 2) 1) (eqb (action % 2) 0) (eqb (mask / 2) 1 && not (eqb (action / 2) (old / 2)))

-- "A new pair takes masked bits from the action, others from the old pair."
unfoldable pub new_bit : ℕ → ℕ → ℕ → ℕ
new_bit mask action old = pick (eqb mask 1) action old

unfoldable pub masked_pair : ℕ → ℕ → ℕ → ℕ
masked_pair mask action old = new_bit (mask / 2) (action / 2) (old / 2) * 2 + new_bit (mask % 2) (action % 2) (old % 2)

-- "a masked one with action 1 makes this region's field ignored and the rest is carried out": where no pair refuses, one whose permalock bit is 1 stays
unfoldable pub new_pair : ℕ → ℕ → ℕ → ℕ
new_pair mask action old = pick (permalocked old) old (masked_pair mask action old)

unfoldable pub new_pairs : Pairs → Pairs → Pairs → Pairs
new_pairs mask action old =
    record {
      kill = new_pair mask.kill action.kill old.kill;
      access = new_pair mask.access action.access old.access;
      epc = new_pair mask.epc action.epc old.epc;
      tid = new_pair mask.tid action.tid old.tid;
      user = new_pair mask.user action.user old.user;
    }

-- "Refusal of any region comes before any store."
unfoldable pub refuses_lock : Pairs → Pairs → Pairs → Bool
refuses_lock mask action old =
    refuses_pair mask.kill action.kill old.kill
    || refuses_pair mask.access action.access old.access
    || refuses_pair mask.epc action.epc old.epc
    || refuses_pair mask.tid action.tid old.tid
    || refuses_pair mask.user action.user old.user
