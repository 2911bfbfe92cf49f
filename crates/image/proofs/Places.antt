-- Where the banks of a good image lie.
use Prim.Native.Nat.{ℕ, zero, suc, ◌+◌, ◌*◌, ◌≤◌}
use native.Mathlib.Omega.{arith}
use Rattle.frame.specs.Bytes.{pick}
use Rattle.image.proofs.GoodImages.{Good}
use Rattle.image.specs.Image.{bank_of}
use Rattle.image.specs.declared.header.Bank.{Bank}
use Rattle.image.specs.declared.header.View.{View}

pub bank_cases : (v : View) (P : ℕ → Bank → Type 0) → P 0 v.reserved → P 1 v.epc → P 2 v.tid → P 3 v.user
    → (bank : ℕ) → bank ≤ 3 → P bank (bank_of v bank)
unfolding bank_of pick
bank_cases v P reserved epc tid user zero h = reserved
bank_cases v P reserved epc tid user (suc zero) h = epc
bank_cases v P reserved epc tid user (suc (suc zero)) h = tid
bank_cases v P reserved epc tid user (suc (suc (suc zero))) h = user
bank_cases v P reserved epc tid user (suc (suc (suc (suc n)))) h = absurd (omega arith)

-- a bank lies behind the header and inside the image; all but Reserved lie behind Reserved
pub record Placed (v : View) (bank : ℕ) (b : Bank) : Type 0 where
  pub from : 24 ≤ b.offset
  pub to : b.offset + 2 * b.words ≤ v.size
  pub behind : 1 ≤ bank → v.reserved.offset + 8 ≤ b.offset

pub placed : (v : View) → Good v → (bank : ℕ) → bank ≤ 3 → Placed v bank (bank_of v bank)
placed v g =
    bank_cases v (Placed v) record { from = omega arith; to = omega arith; behind = λ h. absurd (omega arith) }
    record { from = omega arith; to = omega arith; behind = λ h. omega arith }
    record { from = omega arith; to = omega arith; behind = λ h. omega arith }
    record { from = omega arith; to = omega arith; behind = λ h. omega arith }
