-- What is computed: the starred cases, and a crate of three tags that meets demand 3's premises.
use Prim.Native.Nat.{ℕ, zero, suc, ◌≤◌, ◌<◌}
use borrow.Author.Tests.{leb-true, leb-false}
use lib.Dec.{leb}
use lib.ListN.{length, replicate, get_or-eq_default}
use lib.Seq.{sets}
use mathlib.Core.Bool.{Bool, true, false, true≢false}
use mathlib.Core.List.{List, [], ◌∷◌, ◌++◌, map}
use mathlib.Core.Logic.{◌≢◌, inl}
use mathlib.Core.Path.{◌≡◌, refl, ap, sym, subst, ◌∙◌}
use native.Mathlib.Omega.{arith}
use Rattle.machine.proofs.Computed.{opened}
use Rattle.machine.specs.Claims.{Starred, passing, number_in, handed_by, handed, Premises, with_memory, Demand3CanBeMet}
use Rattle.machine.specs.Machine.{State, state_of, Call, call, after}
use Rattle.machine.specs.Secrecy.{accepted, MayDiffer, Outside}
use Rattle.effects.specs.Sample.{sample}
use Rattle.effects.specs.Secrecy.{Command, none_carries}
use Rattle.frame.proofs.Tests.{either}
use Rattle.frame.specs.Bytes.{byte, bytes_of as bytes}
use Rattle.image.specs.Image.{kill_password, access_password}
use Rattle.population.specs.Claims.{place_of_tag, image_of}
use Rattle.population.specs.declared.places.Place.{Place}
use Rattle.reader.specs.Readers.{fresh_reader}

pub starred : Starred
unfolding opened
starred = (refl, refl)

-- ---- a crate of three

-- the sample tag with both password regions locked, and with these passwords
unfoldable pub locked_tag : ℕ → List ℕ
locked_tag passwords = sets (sets sample 20 (bytes 2 0x02_80)) 24 (bytes 8 passwords)

first : List ℕ
unfolding locked_tag
first = locked_tag 0x0000FFFF_0000FFFF ++ (locked_tag 0x0000FFFF_0000FFFF ++ sample)

second : List ℕ
unfolding locked_tag
second = locked_tag 0x11223344_55667788 ++ (locked_tag 0xAABBCCDD_01020304 ++ sample)

places : List Place
places =
    record { from = 0; size = 86 } ∷ record { from = 86; size = 86 } ∷ record { from = 172; size = 86 } ∷ replicate 13 record { from = 0; size = 0 }

start : State
unfolding first places
start = state_of first places 3 [] (replicate 136 0) fresh_reader 16

differs : ℕ → Bool
differs zero = true
differs (suc zero) = true
differs (suc (suc i)) = false

-- an inventory; the published Set Select, which matches all three; a Read, a Write and a Lock with password 00000000; and a Kill with 00000001
commands : List ℕ
commands =
    bytes 7 0xBB_00_22_00_00_22_7E
    ++ bytes 26 0xBB_00_0C_00_13_01_00_00_00_20_60_00_30_75_1F_EB_70_5C_59_04_E3_D5_0D_70_AD_7E
    ++ bytes 16 0xBB_00_39_00_09_00_00_00_00_03_00_00_00_02_47_7E
    ++ bytes 18 0xBB_00_49_00_0B_00_00_00_00_03_00_00_00_01_DE_AD_E3_7E
    ++ bytes 14 0xBB_00_82_00_07_00_00_00_00_02_00_80_0B_7E
    ++ bytes 11 0xBB_00_65_00_04_00_00_00_01_6A_7E

calls : List Call
unfolding commands
calls = replicate 8 (call commands)

-- what both runs accept: each run is computed once, and what is asked of its commands is computed over these
heard : List Command
heard =
    record { code = 0x22; parameters = [] }
    ∷ record { code = 0x0C; parameters = bytes 19 0x01_00_00_00_20_60_00_30_75_1F_EB_70_5C_59_04_E3_D5_0D_70 }
    ∷ record { code = 0x39; parameters = bytes 9 0x00_00_00_00_03_00_00_00_02 }
    ∷ record { code = 0x49; parameters = bytes 11 0x00_00_00_00_03_00_00_00_01_DE_AD }
    ∷ record { code = 0x82; parameters = bytes 7 0x00_00_00_00_02_00_80 }
    ∷ record { code = 0x65; parameters = bytes 4 0x00_00_00_01 }
    ∷ []

first_heard : accepted calls start ≡ heard
unfolding opened locked_tag first places start commands calls heard
first_heard = refl

second_heard : accepted calls (with_memory start second) ≡ heard
unfolding opened locked_tag first second places start commands calls heard
second_heard = refl

-- ---- the premises

abbrev Hears : ℕ → List Command → Type 0
Hears i list = none_carries (image_of first (place_of_tag places i)) (image_of second (place_of_tag places i)) list ≡ true

module _ (i : ℕ) (none : Hears i heard) where
  in_first : Hears i (accepted calls start)
  in_first = subst (Hears i) (sym first_heard) none

  in_second : Hears i (accepted calls (with_memory start second))
  in_second = subst (Hears i) (sym second_heard) none

first_silent : Hears 0 heard
unfolding opened locked_tag first second places heard
first_silent = refl

second_silent : Hears 1 heard
unfolding opened locked_tag first second places heard
second_silent = refl

first_tag : MayDiffer (image_of first (place_of_tag places 0)) (image_of second (place_of_tag places 0)) (accepted calls start) (accepted calls (with_memory start second))
unfolding opened locked_tag first second places
first_tag =
    record {
      differ_only = record { before = refl; behind = refl };
      first_hidden = record { kill_nonzero = omega arith; access_nonzero = omega arith; kill_locked = inl refl; access_locked = inl refl };
      second_hidden = record { kill_nonzero = omega arith; access_nonzero = omega arith; kill_locked = inl refl; access_locked = inl refl };
      first_run = in_first 0 first_silent;
      second_run = in_second 0 first_silent;
    }

second_tag : MayDiffer (image_of first (place_of_tag places 1)) (image_of second (place_of_tag places 1)) (accepted calls start) (accepted calls (with_memory start second))
unfolding opened locked_tag first second places
second_tag =
    record {
      differ_only = record { before = refl; behind = refl };
      first_hidden = record { kill_nonzero = omega arith; access_nonzero = omega arith; kill_locked = inl refl; access_locked = inl refl };
      second_hidden = record { kill_nonzero = omega arith; access_nonzero = omega arith; kill_locked = inl refl; access_locked = inl refl };
      first_run = in_first 1 second_silent;
      second_run = in_second 1 second_silent;
    }

may_differ : (i : ℕ) → i < 3 → differs i ≡ true
    → MayDiffer (image_of first (place_of_tag places i)) (image_of second (place_of_tag places i)) (accepted calls start) (accepted calls (with_memory start second))
unfolding differs
may_differ zero l d = first_tag
may_differ (suc zero) l d = second_tag
may_differ (suc (suc i)) l d = absurd (true≢false (sym d))

same_tag : (i : ℕ) → i < 3 → differs i ≡ false → image_of first (place_of_tag places i) ≡ image_of second (place_of_tag places i)
unfolding opened locked_tag first second places differs
same_tag zero l d = absurd (true≢false d)
same_tag (suc zero) l d = absurd (true≢false d)
same_tag (suc (suc zero)) l d = refl
same_tag (suc (suc (suc i))) l d = absurd (omega arith)

-- the three tags fill the memory
all_held : (k : ℕ) → Outside 3 places k → 258 ≤ k
unfolding places
all_held k out =
    either (leb 258 k) (λ h. leb-true 258 k h)
    (λ h.
    let short : k < 258 = leb-false 258 k h in
    either (leb 172 k) (λ third. absurd (out 2 (omega arith) (leb-true 172 k third, omega arith)))
    (λ not_third.
    let less : k < 172 = leb-false 172 k not_third in
    either (leb 86 k) (λ second. absurd (out 1 (omega arith) (leb-true 86 k second, omega arith)))
    (λ not-second. absurd (out 0 (omega arith) (omega arith, leb-false 86 k not-second)))))

size : (length first ≡ 258) × (length second ≡ 258)
unfolding opened locked_tag first second
size = (refl, refl)

same_outside : (k : ℕ) → Outside 3 places k → byte first k ≡ byte second k
unfolding byte
same_outside k out =
    get_or-eq_default first 0 (omega (arith, all_held k out, size.0)) ∙ sym (get_or-eq_default second 0 (omega (arith, all_held k out, size.1)))

premises : Premises start second differs calls (with_memory start second)
unfolding opened locked_tag first second places start
premises =
    record {
      first_good = refl;
      second_good = refl;
      same_size = refl;
      differing = may_differ;
      others = same_tag;
      outside = same_outside;
    }

kill_differ : (i : ℕ) → i < 2 → kill_password (image_of first (place_of_tag places i)) ≢ kill_password (image_of second (place_of_tag places i))
unfolding opened locked_tag first second places
kill_differ zero l = omega arith
kill_differ (suc zero) l = omega arith
kill_differ (suc (suc i)) l = absurd (omega arith)

access_differ : (i : ℕ) → i < 2 → access_password (image_of first (place_of_tag places i)) ≢ access_password (image_of second (place_of_tag places i))
unfolding opened locked_tag first second places
access_differ zero l = omega arith
access_differ (suc zero) l = omega arith
access_differ (suc (suc i)) l = absurd (omega arith)

select_taken : length (after calls start).selection ≡ 19
unfolding opened after locked_tag first places start commands calls
select_taken = refl

none_at_first : length start.selection ≡ 0
unfolding start
none_at_first = refl

handed_out : handed calls start ≡ 1 ∷ 2 ∷ []
unfolding opened passing number_in handed_by handed locked_tag first places start commands calls
handed_out = refl

codes_heard : map (λ m. m.code) heard ≡ 0x22 ∷ 0x0C ∷ 0x39 ∷ 0x49 ∷ 0x82 ∷ 0x65 ∷ []
unfolding heard
codes_heard = refl

pub demand3_can_be_met : Demand3CanBeMet
unfolding start differs
demand3_can_be_met = (
  start,
  second,
  differs,
  calls,
  record {
    premises = premises;
    three_tags = refl;
    two_differ = (refl, (refl, refl));
    kill_differs = kill_differ;
    access_differs = access_differ;
    handed_out = handed_out;
    six_commands = ap (map (λ m. m.code)) first_heard ∙ codes_heard;
    select_taken = λ e. omega (arith, ap length e, select_taken, none_at_first);
  },
)
