-- A proof of every statement on the claims page, specs/Claims.antt, in its order.
use Rattle.effects.proofs.Effects as Effects
use Rattle.effects.proofs.Permalocked as Permalocked
use Rattle.effects.specs.Claims.{WriteEffect, LockEffect, KillEffect, NoOtherEffect, GapsStay, PermalockRule, PermalocksStay}

pub write_effect : WriteEffect
write_effect = Effects.write_effect

pub lock_effect : LockEffect
lock_effect = Effects.lock_effect

pub kill_effect : KillEffect
kill_effect = Effects.kill_effect

pub no_other_effect : NoOtherEffect
no_other_effect = Effects.no_other_effect

pub gaps_stay : GapsStay
gaps_stay = Effects.gaps_stay

pub permalock_rule : PermalockRule
permalock_rule = Permalocked.permalock_rule

pub permalocks_stay : PermalocksStay
permalocks_stay = Permalocked.permalocks_stay
