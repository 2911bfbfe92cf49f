-- A tag that is out of the field answers each command with the plain error for no tag.
use Prim.Native.Nat.{ℕ}
use borrow.Author.Tests.{ne_eqb}
use mathlib.Core.Bool.{true}
use mathlib.Core.List.{List}
use mathlib.Core.Logic.{◌≢◌}
use mathlib.Core.Path.{◌≡◌, refl, sym, ap, ◌∙◌}
use Rattle.std.specs.Prelude.{Err}
use Rattle.machine.specs.Machine.{error_without}
use Rattle.frame.proofs.Picks.{pick_true}
use Rattle.frame.specs.Bytes.{byte}
use Rattle.image.specs.Image.{view}
use Rattle.tag.specs.Commands.{parse, gone, if_present, admitted, inventory_verdict, read_verdict, write_verdict, lock_verdict, kill_verdict, verdict, act_of}
use Rattle.tag.specs.Errors.{plain_byte, Verdict}
use Rattle.tag.specs.declared.errors.PlainError.{PlainError}
use Rattle.tag.specs.declared.errors.PlainError.TheVariants.{NotInventoried, NotRead, NotWritten, NotLocked, NotKilled, NoCommand}
use Rattle.tag.specs.declared.errors.Refusal.TheVariants.{Plain}
use Rattle.tag.specs.declared.commands.Parsed.{Parsed}
use Rattle.tag.specs.declared.commands.Parsed.TheVariants.{Malformed, Inventory, Read, Write, Lock, Kill}

-- the error of a command for which no tag is there
unfoldable pub without : Parsed → PlainError
without Malformed = NoCommand
without Inventory = NotInventoried
without (Read password bank pointer count) = NotRead
without (Write password bank pointer count) = NotWritten
without (Lock password mask action) = NotLocked
without (Kill password) = NotKilled

pub byte_without : (m : Parsed) → plain_byte (without m) ≡ error_without m
unfolding without plain_byte error_without
byte_without Malformed = refl
byte_without Inventory = refl
byte_without (Read password bank pointer count) = refl
byte_without (Write password bank pointer count) = refl
byte_without (Lock password mask action) = refl
byte_without (Kill password) = refl

module _ (image p : List ℕ) (away : byte image 22 ≢ 0) where
  is_gone : gone (view image) ≡ true
  unfolding gone view
  is_gone = simp (ne_eqb (byte image 22) 0 away)

  verdict_without : (m : Parsed) → verdict image p m ≡ Err (Plain (without m))
  unfolding verdict without inventory_verdict read_verdict write_verdict lock_verdict kill_verdict admitted if_present
  verdict_without Malformed = refl
  verdict_without Inventory = simp (is_gone, pick_true)
  verdict_without (Read password bank pointer count) = simp (is_gone, pick_true)
  verdict_without (Write password bank pointer count) = simp (is_gone, pick_true)
  verdict_without (Lock password mask action) = simp (is_gone, pick_true)
  verdict_without (Kill password) = simp (is_gone, pick_true)

  pub act_without : (code : ℕ) → act_of image code p ≡ Err (Plain (without (parse code p)))
  unfolding act_of
  act_without code = verdict_without (parse code p)

  -- the verdict that the code was told is that plain error, and no other
  module _ (code : ℕ) (told : Verdict) (is : told ≡ act_of image code p) where
    pub told_error : (e : PlainError) → told ≡ Err (Plain e) → plain_byte e ≡ error_without (parse code p)
    told_error e kind =
        let same : e ≡ without (parse code p) = (let both : Err (Plain e) ≡ told = sym kind in let all = both ∙ is ∙ act_without code in cc) in
        ap plain_byte same ∙ byte_without (parse code p)

    pub no_other : ((e : PlainError) → told ≡ Err (Plain e) → ⊥) → ⊥
    no_other none = none _ (is ∙ act_without code)
