-- What each command stores: all of it or nothing, on its own bytes alone.
use Prim.Native.Nat.{ℕ, ◌+◌, ◌≤◌, ◌<◌}
use borrow.Author.Tests.{eq-eqb, ne_eqb}
use lib.Dec.{eqb}
use lib.ListN.{length}
use lib.Seq.{sets, drop-nil}
use mathlib.Core.Bool.{true, false, true≢false}
use mathlib.Core.List.{List, [], ◌∷◌, ◌++◌, append-nil}
use mathlib.Core.Logic.{◌⊎◌, ◌≢◌, inl, inr, ⊎_elim}
use mathlib.Core.Path.{◌≡◌, refl, ap, sym, ◌∙◌}
use native.Mathlib.Omega.{arith}
use Rattle.effects.proofs.Writing.{written}
use Rattle.effects.specs.Claims.{Overwritten, Effect, Written, NamedWords, WriteEffect, LockEffect, KillEffect, NoOtherEffect, GapsStay}
use Rattle.frame.proofs.Numbers.{length_bytes_of}
use Rattle.frame.proofs.Stores.{take_sets, drop_sets_behind, part_sets, byte_sets_behind}
use Rattle.frame.specs.Bytes.{pick, byte, number, bytes_of, two_bytes}
use Rattle.frame.specs.Frames.{written as wrote_over}
use Rattle.image.proofs.GoodImages.{good_facts, header_there}
use Rattle.image.specs.Image.{view, bank_at, bank_of, word_at, end_of}
use Rattle.tag.proofs.AnswerBytes.{error_code}
use Rattle.tag.proofs.Cases.{new_bits, act_cases}
use Rattle.tag.proofs.NamedWords.{data_length}
use Rattle.tag.specs.Answers.{answer, changed, is_error}
use Rattle.tag.specs.Claims.{comes_to, outcome}
use Rattle.tag.specs.Commands.{bank_in, act_of}
use Rattle.tag.specs.Errors.{Verdict}

overwritten : (at : ℕ) (bytes old : List ℕ) → at + length bytes ≤ length old → Overwritten at bytes old (sets old at bytes)
overwritten at bytes old h =
    record {
      before_stays = take_sets at old at bytes (omega arith);
      stored = part_sets old at bytes h;
      behind_stays = drop_sets_behind (at + length bytes) old at bytes (omega arith);
    }

-- from what an act does to what the command comes to
record ActEffect (image p : List ℕ) (Stored : List ℕ → Type 0) (Also : Type 0) (act : Verdict) : Type 0 where
  error_keeps : is_error act ≡ true → changed image p act ≡ image
  good_stores : is_error act ≡ false → Stored (changed image p act)
  good_also : is_error act ≡ false → Also

-- the answer has code FF exactly if the act is an error
error_code_of : (image p : List ℕ) (code : ℕ) → eqb (byte (answer image (act_of image code p)) 2) 0xFF ≡ is_error (act_of image code p)
unfolding wrote_over
error_code_of image p code =
    let frame : List ℕ = answer image (act_of image code p) in
    let alone : wrote_over frame [] ≡ frame = ap (λ (l : List ℕ). frame ++ l) (drop-nil (length frame)) ∙ append-nil frame in
    sym (ap (λ (l : List ℕ). eqb (byte l 2) 0xFF) alone) ∙ error_code image p code []

module _ (image p : List ℕ) (code : ℕ) where
  is_error_lem : byte (comes_to image code p).0 2 ≡ 0xFF → is_error (act_of image code p) ≡ true
  unfolding outcome
  is_error_lem h = sym (error_code_of image p code) ∙ eq-eqb _ _ h

  is_good : byte (comes_to image code p).0 2 ≢ 0xFF → is_error (act_of image code p) ≡ false
  unfolding outcome
  is_good h = sym (error_code_of image p code) ∙ ne_eqb _ _ h

  from_act : (Stored : List ℕ → Type 0) (Also : Type 0) → ActEffect image p Stored Also (act_of image code p)
      → Effect image (comes_to image code p) Stored × (byte (comes_to image code p).0 2 ≢ 0xFF → Also)
  unfolding outcome
  from_act Stored Also e = (
    record { error_stores_nothing = λ h. e.error_keeps (is_error_lem h); good_stores_all = λ h. e.good_stores (is_good h) },
    λ h. e.good_also (is_good h),
  )

-- ---- the acts

module _ (image p : List ℕ) (Stored : List ℕ → Type 0) (Also : Type 0) where
  keeps : (act : Verdict) → is_error act ≡ true → changed image p act ≡ image → ActEffect image p Stored Also act
  keeps act h k =
      record { error_keeps = λ e. k; good_stores = λ e. absurd (true≢false (sym h ∙ e)); good_also = λ e. absurd (true≢false (sym h ∙ e)) }

  stores : (act : Verdict) → is_error act ≡ false → Stored (changed image p act) → Also → ActEffect image p Stored Also act
  stores act h o w = record { error_keeps = λ e. absurd (true≢false (sym e ∙ h)); good_stores = λ e. o; good_also = λ e. w }

-- where the code is one, no case of another code can be
other : {C : Type 0} (code m n : ℕ) → code ≡ m → code ≡ n → m ≢ n → C
other code m n e f d = absurd (d (sym e ∙ f))

pub write_effect : WriteEffect
unfolding changed view bank_at is_error
write_effect image p h =
    let Stored : List ℕ → Type 0 = λ new. Written image p new (number image 10) in
    from_act image p 0x49 Stored (NamedWords image p)
    (act_cases (ActEffect image p Stored (NamedWords image p))
    (λ e. keeps image p _ _ _ refl refl)
    (λ e. keeps image p _ _ _ refl refl)
    image p 0x49
    (λ e. absurd (omega arith))
    (λ e reads. absurd (omega arith))
    (λ e writes.
    stores image p _ _ _ refl (written image p h writes)
    record { bank_known = writes.aim.bank_known; in_the_bank = writes.aim.inside; all_of_them = data_length image p writes })
    (λ e secured. absurd (omega arith))
    (λ e equal. absurd (omega arith)))

pub lock_effect : LockEffect
unfolding changed is_error
lock_effect image p h =
    let Stored : List ℕ → Type 0 = Overwritten 20 (two_bytes (new_bits image p)) image in
    (from_act image p 0x82 Stored Unit
    (act_cases (ActEffect image p Stored Unit)
    (λ e. keeps image p _ _ _ refl refl)
    (λ e. keeps image p _ _ _ refl refl)
    image p 0x82
    (λ e. absurd (omega arith))
    (λ e reads. absurd (omega arith))
    (λ e writes. absurd (omega arith))
    (λ e locks.
    stores image p _ _ _ refl
    (overwritten 20 (two_bytes (new_bits image p)) image (omega (arith, header_there image h, length_bytes_of 2 (new_bits image p))))
    tt)
    (λ e equal. absurd (omega arith)))
    ).0

pub kill_effect : KillEffect
unfolding changed bytes_of is_error
kill_effect image p h =
    let Stored : List ℕ → Type 0 = Overwritten 22 (1 ∷ []) image in
    (from_act image p 0x65 Stored Unit
    (act_cases (ActEffect image p Stored Unit)
    (λ e. keeps image p _ _ _ refl refl)
    (λ e. keeps image p _ _ _ refl refl)
    image p 0x65
    (λ e. absurd (omega arith))
    (λ e reads. absurd (omega arith))
    (λ e writes. absurd (omega arith))
    (λ e secured. absurd (omega arith))
    (λ e equal. stores image p _ _ _ refl (overwritten 22 (1 ∷ []) image (omega (arith, header_there image h))) tt))
    ).0

pub no_other_effect : NoOtherEffect
unfolding outcome changed
no_other_effect image code p not-write not-lock not-kill =
    act_cases (λ (act : Verdict). changed image p act ≡ image) (λ e. refl) (λ e. refl) image p code
    (λ e. refl)
    (λ e reads. refl)
    (λ e writes. absurd (not-write e))
    (λ e secured. absurd (not-lock e))
    (λ e equal. absurd (not-kill e))

pub gaps_stay : GapsStay
unfolding outcome changed bytes_of word_at end_of view bank_at bank_of pick
gaps_stay image code p h i far gap =
    act_cases (λ (act : Verdict). byte (changed image p act) i ≡ byte image i) (λ e. refl) (λ e. refl) image p code
    (λ e. refl)
    (λ e reads. refl)
    (λ e writes.
    let epc : (i < number image 10) ⊎ (number image 10 + 2 ≤ i) =
    ⊎_elim (λ before. inl before) (λ behind. inr (omega (arith, (good_facts image h).epc_least))) (gap 1 (omega arith))
    in
    (written image p h writes).all_else_stays i
    (⊎_elim (λ before. inl (omega arith)) (λ behind. inr (omega (arith, data_length image p writes, writes.aim.inside)))
    (gap (bank_in p) writes.aim.bank_known))
    epc)
    (λ e secured. byte_sets_behind image 20 (two_bytes (new_bits image p)) i (omega (arith, length_bytes_of 2 (new_bits image p))))
    (λ e equal. byte_sets_behind image 22 (1 ∷ []) i (omega arith))
