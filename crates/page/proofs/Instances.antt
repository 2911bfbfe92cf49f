-- What is computed: a tag that meets the premises under which two pages are the same.
use Prim.Native.Nat.{ℕ, zero, suc, ◌≤◌, ◌<◌}
use borrow.Author.Tests.{leb-true, leb-false}
use lib.Dec.{leb}
use lib.ListN.{length, replicate, get_or-eq_default}
use mathlib.Core.Bool.{Bool, true, false, true≢false}
use mathlib.Core.List.{List, [], ◌∷◌}
use mathlib.Core.Logic.{inl}
use mathlib.Core.Path.{◌≡◌, refl, ap, sym, ◌∙◌}
use native.Mathlib.Omega.{arith}
use Rattle.frame.proofs.Tests.{either}
use Rattle.frame.specs.Bytes.{byte, part, bytes_of as bytes}
use Rattle.machine.proofs.Instances.{locked_tag}
use Rattle.machine.specs.Claims.{Premises}
use Rattle.machine.specs.Machine.{call}
use Rattle.machine.specs.Secrecy.{accepted, MayDiffer, Outside}
use Rattle.page.proofs.Computed.{opened}
use Rattle.page.specs.Claims.{SamePageCanBeMet}
use Rattle.population.specs.Claims.{place_of_tag, image_of}
use Rattle.report.specs.Report.{places_of, fresh}
use Rattle.sheet.specs.Claims.{GoesOn}
use Rattle.sheet.specs.Itemised.{advanced, pending, closed_by, itemised}
use Rattle.sheet.specs.Sheet.{begun_on}

-- the sample tag with both password regions locked, and with other passwords
first : List ℕ
unfolding locked_tag
first = locked_tag 0x0000FFFF_0000FFFF

second : List ℕ
unfolding locked_tag
second = locked_tag 0x11223344_55667788

-- a Read with password 00000001
commands : List ℕ
commands = bytes 16 0xBB_00_39_00_09_00_00_00_01_03_00_00_00_02_48_7E

abbrev sizes : List ℕ
sizes = 86 ∷ []

differs : ℕ → Bool
differs i = true

may_differ : (i : ℕ) → i < 1 → differs i ≡ true
    → MayDiffer (image_of first (place_of_tag (places_of sizes) i)) (image_of second (place_of_tag (places_of sizes) i)) (accepted (replicate 2 (call commands)) (fresh first sizes))
    (accepted (replicate 2 (call commands)) (fresh second sizes))
unfolding opened locked_tag first second commands
may_differ zero l d =
    record {
      differ_only = record { before = refl; behind = refl };
      first_hidden = record { kill_nonzero = omega arith; access_nonzero = omega arith; kill_locked = inl refl; access_locked = inl refl };
      second_hidden = record { kill_nonzero = omega arith; access_nonzero = omega arith; kill_locked = inl refl; access_locked = inl refl };
      first_run = refl;
      second_run = refl;
    }
may_differ (suc i) l d = absurd (omega arith)

none_same : (i : ℕ) → i < 1 → differs i ≡ false → image_of first (place_of_tag (places_of sizes) i) ≡ image_of second (place_of_tag (places_of sizes) i)
unfolding differs
none_same i l d = absurd (true≢false d)

-- the tag fills the memory
all_held : (k : ℕ) → Outside 1 (places_of sizes) k → 86 ≤ k
unfolding opened
all_held k out =
    either (leb 86 k) (λ h. leb-true 86 k h) (λ h. absurd (out 0 (omega arith) (omega arith, leb-false 86 k h)))

size : (length first ≡ 86) × (length second ≡ 86)
unfolding opened locked_tag first second
size = (refl, refl)

same_outside : (k : ℕ) → Outside 1 (places_of sizes) k → byte first k ≡ byte second k
unfolding byte
same_outside k out =
    get_or-eq_default first 0 (omega (arith, all_held k out, size.0)) ∙ sym (get_or-eq_default second 0 (omega (arith, all_held k out, size.1)))

premises : Premises (fresh first sizes) second differs (replicate 2 (call commands)) (fresh second sizes)
unfolding opened locked_tag first second commands
premises =
    record {
      first_good = refl;
      second_good = refl;
      same_size = refl;
      differing = may_differ;
      others = none_same;
      outside = same_outside;
    }

goes_on : GoesOn 1 commands (fresh first sizes)
unfolding opened GoesOn locked_tag first commands
goes_on = (refl, refl)

-- the first password byte tells them apart
first_bytes : (byte (part first 24 8) 0 ≡ 0x00) × (byte (part second 24 8) 0 ≡ 0x11)
unfolding opened locked_tag first second
first_bytes = (refl, refl)

one_item : length (itemised 1 commands (begun_on first sizes)) ≡ 1
unfolding opened advanced pending closed_by itemised locked_tag first commands
one_item = refl

pub same_page_can_be_met : SamePageCanBeMet
unfolding differs
same_page_can_be_met = (
  1,
  commands,
  first,
  second,
  sizes,
  differs,
  record {
    premises = premises;
    goes_on = goes_on;
    first_differs = refl;
    other_passwords = λ e. omega (arith, ap (λ (l : List ℕ). byte l 0) e, first_bytes.0, first_bytes.1);
    one_item = one_item;
  },
)
