-- What a check that a command met says of its verdict: where it refuses, the verdict is that refusal, and else it is what is left to check.
use Rattle.std.proofs.Common.{◌≡◌, Bool, true, false, Result, Ok, Err, IsErr, IsErrAnd, refl}
use Rattle.std.specs.Bool.{⊤}
use Rattle.frame.specs.Bytes.{pick}
use Rattle.tag.specs.Errors.{Verdict}
use Rattle.tag.specs.declared.errors.PlainError.{PlainError}
use Rattle.tag.specs.declared.errors.Refusal.{Refusal}
use Rattle.tag.specs.declared.errors.Refusal.TheVariants.{Plain}

-- the error that a `?` hands on
pub handed_on : (r : Verdict) (refusal : Refusal) → IsErr r × IsErrAnd r (λ y. y ≡ refusal) → r ≡ Err refusal
handed_on (Err y) refusal told = cc
handed_on (Ok act) refusal told = absurd told.1

-- the state alone
pub let_through : (gone : Bool) {E : Type 0} (e : E) {r : Result ⊤ E} {u : ⊤} → r ≡ pick gone (Err e) (Ok tt) → r ≡ Ok u → gone ≡ false
unfolding pick
let_through true e is told = cc
let_through false e is told = refl

pub absent : (gone : Bool) (e : PlainError) {x : PlainError} {r : Result ⊤ PlainError} (rest : Verdict) → r ≡ pick gone (Err e) (Ok tt) → r ≡ Err x
    → Err (Plain x) ≡ pick gone (Err (Plain e)) rest
unfolding pick
absent true e rest is told = cc
absent false e rest is told = cc

pub present : (gone : Bool) (e : PlainError) {r : Result ⊤ PlainError} {u : ⊤} (rest : Verdict) → r ≡ pick gone (Err e) (Ok tt) → r ≡ Ok u
    → rest ≡ pick gone (Err (Plain e)) rest
unfolding pick
present true e rest is told = cc
present false e rest is told = refl

-- the state, and then the password
pub refused : (gone wrong : Bool) (e f : Refusal) {x : Refusal} {r : Result ⊤ Refusal} (rest : Verdict)
    → r ≡ pick gone (Err e) (pick wrong (Err f) (Ok tt)) → r ≡ Err x
    → Err x ≡ pick gone (Err e) (pick wrong (Err f) rest)
unfolding pick
refused true wrong e f rest is told = cc
refused false true e f rest is told = cc
refused false false e f rest is told = cc

pub admitted : (gone wrong : Bool) (e f : Refusal) {r : Result ⊤ Refusal} {u : ⊤} (rest : Verdict)
    → r ≡ pick gone (Err e) (pick wrong (Err f) (Ok tt)) → r ≡ Ok u
    → rest ≡ pick gone (Err e) (pick wrong (Err f) rest)
unfolding pick
admitted true wrong e f rest is told = cc
admitted false true e f rest is told = cc
admitted false false e f rest is told = refl
