-- A proof of every statement on the claims page, specs/Claims.antt, in its order.
use Rattle.machine.proofs.Answering as Answering
use Rattle.machine.proofs.Bounding as Bounding
use Rattle.machine.proofs.Carrying as Carrying
use Rattle.machine.proofs.Counting as Counting
use Rattle.machine.proofs.Effecting as Effecting
use Rattle.machine.proofs.ErrorBytes as ErrorBytes
use Rattle.machine.proofs.Framing as Framing
use Rattle.machine.proofs.Handing as Handing
use Rattle.machine.proofs.Instances as Instances
use Rattle.machine.proofs.Secrets as Secrets
use Rattle.machine.proofs.Staying as Staying
use Rattle.machine.specs.Claims.{AnswerNumbers, DropReasons, NothingChanges, DropTakesOneByte, AnswerIsOneFrame, ErrorsHaveAByte, HandOut, ExactlyOnce, InventoryStarts, CommandsAim, CommandsMiss, SetSelect, Starred, WriteEffect, LockEffect, KillEffect, NoOtherEffect, GapsStay, PermalocksStay, OneTagOnly, GoodStaysGood, History, WorkFalls, Bound, Demand3, Demand3CanBeMet}

pub answer_numbers : AnswerNumbers
answer_numbers = Answering.answer_numbers

pub drop_reasons : DropReasons
drop_reasons = Answering.drop_reasons

pub nothing_changes : NothingChanges
nothing_changes = Answering.nothing_changes

pub drop_takes_one_byte : DropTakesOneByte
drop_takes_one_byte = Answering.drop_takes_one_byte

pub answer_is_one_frame : AnswerIsOneFrame
answer_is_one_frame = Framing.answer_is_one_frame

pub errors_have_a_byte : ErrorsHaveAByte
errors_have_a_byte = ErrorBytes.errors_named

pub hand_out : HandOut
hand_out = Handing.hand_out

pub exactly_once : ExactlyOnce
exactly_once = Handing.exactly_once

pub inventory_starts : InventoryStarts
inventory_starts = Handing.inventory_starts

pub commands_aim : CommandsAim
commands_aim = Carrying.commands_aim

pub commands_miss : CommandsMiss
commands_miss = Carrying.commands_miss

pub set_select : SetSelect
set_select = Carrying.set_select

pub starred : Starred
starred = Instances.starred

pub write_effect : WriteEffect
write_effect = Effecting.write_effect

pub lock_effect : LockEffect
lock_effect = Effecting.lock_effect

pub kill_effect : KillEffect
kill_effect = Effecting.kill_effect

pub no_other_effect : NoOtherEffect
no_other_effect = Effecting.no_other_effect

pub gaps_stay : GapsStay
gaps_stay = Effecting.gaps_stay

pub permalocks_stay : PermalocksStay
permalocks_stay = Effecting.permalocks_stay

pub one_tag_only : OneTagOnly
one_tag_only = Staying.one_tag_only

pub good_stays_good : GoodStaysGood
good_stays_good = Staying.good_stays_good

pub history : History
history = Counting.history

pub work_falls : WorkFalls
work_falls = Bounding.work_falls

pub bound : Bound
bound = Bounding.bound

pub demand3 : Demand3
demand3 = Secrets.demand3

pub demand3_can_be_met : Demand3CanBeMet
demand3_can_be_met = Instances.demand3_can_be_met
