-- The bound on calls: while there is room, the calls are those of the crate.
use Prim.Native.Nat.{ℕ, zero, suc, ◌+◌, ◌≤◌, ◌<◌}
use lib.Dec.{eqb}
use lib.ListN.{replicate}
use mathlib.Core.Bool.{Bool, true, false, ◌||◌}
use mathlib.Core.List.{List, ◌++◌}
use mathlib.Core.Logic.{◌⊎◌, inl, inr, ⊎_elim}
use mathlib.Core.Path.{◌≡◌, refl, ap, ap₂, sym, subst, ◌∙◌}
use native.Mathlib.Omega.{arith}
use borrow.Author.Tests.{eqb-true}
use Rattle.machine.proofs.Bounding.{few_takes}
use Rattle.machine.proofs.Claimed.{bound as bench-bound}
use Rattle.machine.proofs.Listing.{full_number}
use Rattle.machine.specs.Claims.{inventories, count as bench_count, takes as bench_takes}
use Rattle.machine.specs.Machine as Inner
use Rattle.machine.specs.Secrecy.{accepted_by as bench_accepted_by, accepted as bench_accepted}
use Rattle.effects.specs.Secrecy.{Command}
use Rattle.failures.proofs.Numbers.{room_bench}
use Rattle.failures.specs.Claims.{count, takes, Bound}
use Rattle.failures.specs.Machine.{State, call, is_full, bench_step, listed, step, run, after}
use Rattle.failures.specs.Secrecy.{accepted_by, accepted}
use Rattle.frame.proofs.Picks.{by_test, pick_true, pick_false}
use Rattle.frame.proofs.Tests.{either, or_cases}
use Rattle.reader.specs.Outcomes.{number_of}

module _ (input : List ℕ) where
  -- calls of the crate that all take something: the first does, and so do the others
  few : (k : ℕ) (s : Inner.State) → bench_count bench_takes (Inner.run (replicate k (Inner.call input)) s) ≤ k
  unfolding Inner.run bench_count
  few zero s = omega arith
  few (suc k) s =
      by_test (λ (n : ℕ). n + bench_count bench_takes (Inner.run (replicate k (Inner.call input)) (Inner.step (Inner.call input) s).next) ≤ suc k)
      (bench_takes (Inner.step (Inner.call input) s))
      (λ h. omega (arith, few k (Inner.step (Inner.call input) s).next))
      (λ h. omega (arith, few k (Inner.step (Inner.call input) s).next))

  record Taken (k : ℕ) (s : Inner.State) : Type 0 where
    first : bench_takes (Inner.step (Inner.call input) s) ≡ true
    rest : bench_count bench_takes (Inner.run (replicate k (Inner.call input)) (Inner.step (Inner.call input) s).next) ≡ k

  all_taken : (k : ℕ) (s : Inner.State) → bench_count bench_takes (Inner.run (replicate (suc k) (Inner.call input)) s) ≡ suc k → Taken k s
  unfolding Inner.run bench_count
  all_taken k s =
      either (bench_takes (Inner.step (Inner.call input) s))
      (λ h e. record { first = h; rest = omega (arith, simp (h, pick_true) at e) })
      (λ h e. absurd (omega (arith, simp (h, pick_false) at e, few k (Inner.step (Inner.call input) s).next)))

  low_number : (x : Inner.Step) → bench_takes x ≡ true → number_of x.outcome < 10
  unfolding bench_takes
  low_number x t =
      or_cases (eqb (number_of x.outcome) 0) (eqb (number_of x.outcome) 3) t (λ e. omega (arith, eqb-true (number_of x.outcome) 0 e))
      (λ e. omega (arith, eqb-true (number_of x.outcome) 3 e))

  Ends : ℕ → Type 0
  Ends n = (n ≡ 1) ⊎ ((n ≡ 2) ⊎ (n ≡ 14))

  -- a full list, or the crate's own number
  full_now : (s : State) → is_full s ≡ true → number_of (Inner.step (Inner.call input) s.bench).outcome < 10 → (step (call input) s).number ≡ 14
  unfolding step listed bench_step
  full_now s full low = ap (λ (b : Bool). number_of (Inner.step_unless b (Inner.call input) s.bench).outcome) full ∙ full_number (Inner.call input) s.bench low

  number_now : (s : State) → is_full s ≡ false → (step (call input) s).number ≡ number_of (Inner.step (Inner.call input) s.bench).outcome
  unfolding step listed
  number_now s room = ap (λ (x : Inner.Step). number_of x.outcome) (room_bench input s room)

  takes_now : (s : State) → is_full s ≡ false → bench_takes (Inner.step (Inner.call input) s.bench) ≡ true → takes (step (call input) s) ≡ true
  unfolding takes bench_takes
  takes_now s room t = ap (λ (n : ℕ). eqb n 0 || eqb n 3) (number_now s room) ∙ t

  bench_now : (s : State) → is_full s ≡ false → (step (call input) s).next.bench ≡ (Inner.step (Inner.call input) s.bench).next
  unfolding step listed
  bench_now s room = ap (λ (x : Inner.Step). x.next) (room_bench input s room)

  accepted_now : (s : State) → is_full s ≡ false → accepted_by (call input) s ≡ bench_accepted_by (Inner.call input) s.bench
  unfolding accepted_by
  accepted_now s room = rw (room, pick_false)

  -- j calls were made with room, and the next one ends the run
  record Stops (s : State) : Type 0 where
    calls : ℕ
    all_take : count takes (run (replicate calls (call input)) s) ≡ calls
    bench_takes_lem : bench_count bench_takes (Inner.run (replicate calls (Inner.call input)) s.bench) ≡ calls
    same_accepted : accepted (replicate calls (call input)) s ≡ bench_accepted (replicate calls (Inner.call input)) s.bench
    ends : Ends (step (call input) (after (replicate calls (call input)) s)).number

  at_once : (s : State) → Ends (step (call input) s).number → Stops s
  unfolding run after count accepted bench_accepted Inner.run bench_count
  at_once s e = record { calls = 0; all_take = refl; bench_takes_lem = refl; same_accepted = refl; ends = e }

  one_later : (s : State) → is_full s ≡ false → bench_takes (Inner.step (Inner.call input) s.bench) ≡ true → Stops (step (call input) s).next → Stops s
  unfolding run after count accepted bench_accepted Inner.run bench_count
  one_later s room t r =
      let next : State = (step (call input) s).next in
      let bench : next.bench ≡ (Inner.step (Inner.call input) s.bench).next = bench_now s room in
      let first : takes (step (call input) s) ≡ true = takes_now s room t in
      record {
        calls = suc r.calls;
        all_take = rw (first, pick_true) (omega (arith, r.all_take));
        bench_takes_lem =
            rw (t, pick_true)
            (omega (arith, r.bench_takes_lem, ap (λ (u : Inner.State). bench_count bench_takes (Inner.run (replicate r.calls (Inner.call input)) u)) bench));
        same_accepted =
            ap₂ (λ (one rest : List Command). one ++ rest) (accepted_now s room)
            (r.same_accepted ∙ ap (λ (u : Inner.State). bench_accepted (replicate r.calls (Inner.call input)) u) bench);
        ends = r.ends;
      }

  stops : (k : ℕ) (s : State) → bench_count bench_takes (Inner.run (replicate k (Inner.call input)) s.bench) ≡ k
      → (number_of (Inner.step (Inner.call input) (Inner.after (replicate k (Inner.call input)) s.bench)).outcome ≡ 1)
      ⊎ (number_of (Inner.step (Inner.call input) (Inner.after (replicate k (Inner.call input)) s.bench)).outcome ≡ 2)
      → Stops s
  unfolding Inner.after Ends
  stops zero s all last =
      either (is_full s)
      (λ full. at_once s (inr (inr (full_now s full (⊎_elim (λ e. omega (arith, e)) (λ e. omega (arith, e)) last)))))
      (λ room. at_once s (⊎_elim (λ e. inl (number_now s room ∙ e)) (λ e. inr (inl (number_now s room ∙ e))) last))
  stops (suc k) s all last =
      let t = all_taken k s.bench all in
      either (is_full s)
      (λ full. at_once s (inr (inr (full_now s full (low_number (Inner.step (Inner.call input) s.bench) t.first)))))
      (λ room.
      let bench = bench_now s room in
      one_later s room t.first
      (stops k (step (call input) s).next
      (ap (λ (u : Inner.State). bench_count bench_takes (Inner.run (replicate k (Inner.call input)) u)) bench ∙ t.rest)
      (subst
      (λ (u : Inner.State).
      (number_of (Inner.step (Inner.call input) (Inner.after (replicate k (Inner.call input)) u)).outcome ≡ 1)
      ⊎ (number_of (Inner.step (Inner.call input) (Inner.after (replicate k (Inner.call input)) u)).outcome ≡ 2))
      (sym bench) last)))

pub bound : Bound
unfolding Ends
bound input s small fresh chosen placed room none =
    let b = bench-bound input s.bench small fresh chosen placed room none in
    let r = stops input b.0 s b.2 b.3 in
    let most = few_takes input s.bench fresh none r.calls in (
      r.calls,
      omega (arith, most, r.bench_takes_lem, ap inventories r.same_accepted),
      r.all_take,
      r.ends,
    )
