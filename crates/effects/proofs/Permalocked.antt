-- A pair whose permalock bit is set stays, whatever the command.
use Prim.Native.Nat.{ℕ, ◌%◌}
use borrow.Author.Tests.{eq-eqb}
use lib.Dec.{eqb}
use lib.Seq.{sets}
use mathlib.Core.Bool.{true}
use mathlib.Core.List.{List, [], ◌∷◌}
use mathlib.Core.Path.{◌≡◌, refl, ap, sym, subst, ◌∙◌}
use native.Mathlib.Omega.{arith}
use Rattle.std.specs.Prelude.{Ok}
use Rattle.effects.specs.Claims.{Permalocks, PermalockRule, PermalocksStay}
use Rattle.frame.proofs.Picks.{pick_true, by_test}
use Rattle.frame.proofs.Stores.{number_sets_before}
use Rattle.frame.specs.Bytes.{number, bytes_of, two_bytes}
use Rattle.image.proofs.GoodImages.{Good, good_facts, header_there}
use Rattle.image.specs.Image.{good, view, bank_at, crc_word, with_crc}
use Rattle.tag.proofs.Cases.{Writes, place_of, new_bits, act_cases}
use Rattle.tag.proofs.LockPairs.{bits_small, pairs_of_bits}
use Rattle.tag.proofs.NamedWords.{Inside, inside}
use Rattle.tag.proofs.StaysGood.{stored_locks, new_locks_paired}
use Rattle.tag.specs.Answers.{crc_kept, changed}
use Rattle.tag.specs.Claims.{outcome}
use Rattle.tag.specs.Commands.{bank_in, data_in, act_of}
use Rattle.tag.specs.Locks.{pairs, permalocked, new_pair, new_pairs}
use Rattle.tag.specs.Errors.{Verdict}
use Rattle.tag.specs.declared.commands.Act.TheVariants.{Store}
use Rattle.tag.specs.declared.locks.Pairs.{Pairs}

stays : (mask action old : ℕ) → old % 2 ≡ 1 → new_pair mask action old ≡ old
unfolding new_pair permalocked
stays mask action old set = simp (eq-eqb _ _ set, pick_true)

new_ones : (mask action old : Pairs) → Permalocks old (new_pairs mask action old)
unfolding new_pairs
new_ones mask action old = record { kill = stays _ _ _; access = stays _ _ _; epc = stays _ _ _; tid = stays _ _ _; user = stays _ _ _ }

pub permalock_rule : PermalockRule
permalock_rule image p = new_ones _ _ _

pub same : (old new : Pairs) → new ≡ old → Permalocks old new
same old new e = subst (Permalocks old) (sym e) record { kill = λ h. refl; access = λ h. refl; epc = λ h. refl; tid = λ h. refl; user = λ h. refl }

-- a pair that stayed still has its permalock bit
then : (a b c : ℕ) → (a % 2 ≡ 1 → b ≡ a) → (b % 2 ≡ 1 → c ≡ b) → a % 2 ≡ 1 → c ≡ a
then a b c first second set = second (subst (λ (n : ℕ). n % 2 ≡ 1) (sym (first set)) set) ∙ first set

pub both : (old mid new : Pairs) → Permalocks old mid → Permalocks mid new → Permalocks old new
both old mid new first second =
    record {
      kill = then _ _ _ first.kill second.kill;
      access = then _ _ _ first.access second.access;
      epc = then _ _ _ first.epc second.epc;
      tid = then _ _ _ first.tid second.tid;
      user = then _ _ _ first.user second.user;
    }

-- a Write, and the CRC word that it keeps, are behind the lock bits
written_locks : (image p : List ℕ) → good image ≡ true → Writes image p → number (changed image p (Ok (Store (place_of image p)))) 20 ≡ number image 20
unfolding changed crc_kept with_crc view bank_at
written_locks image p h w =
    let g : Good (view image) = good_facts image h in
    let at : Inside image p = inside image p g w.aim in
    let new : List ℕ = sets image (place_of image p) (data_in p) in
    let named : number new 20 ≡ number image 20 = number_sets_before image (place_of image p) (data_in p) 20 (omega (arith, at.from)) in
    by_test (λ (l : List ℕ). number l 20 ≡ number image 20) (eqb (bank_in p) 1)
    (λ epc. number_sets_before new (number image 10) (two_bytes (crc_word new)) 20 (omega (arith, g.reserved_place, g.epc_place)) ∙ named)
    (λ other. named)

-- one command: only a Lock touches the lock bits
by_act : (image p : List ℕ) (code : ℕ) → good image ≡ true
    → Permalocks (pairs (number image 20)) (pairs (number (changed image p (act_of image code p)) 20))
unfolding changed view bytes_of
by_act image p code h =
    let Kept : Verdict → Type 0 = λ act. Permalocks (pairs (number image 20)) (pairs (number (changed image p act) 20)) in
    act_cases Kept (λ e. same _ _ refl) (λ e. same _ _ refl) image p code
    (λ e. same _ _ refl)
    (λ e reads. same _ _ refl)
    (λ e writes.
    same _ _ (ap pairs (written_locks image p h writes)))
    (λ e locks.
    rw (stored_locks image (new_bits image p) (header_there image h) (bits_small _ (new_locks_paired image p)), pairs_of_bits _ (new_locks_paired image p))
    (new_ones _ _ _))
    (λ e equal. same _ _ (rw (number_sets_before image 22 (1 ∷ []) 20 (omega arith))))

pub permalocks_stay : PermalocksStay
unfolding outcome
permalocks_stay image code p h = by_act image p code h
