-- What a command needs of the image: a good one has it.
use Prim.Native.Nat.{ℕ, ◌*◌, ◌≤◌}
use borrow.Author.Tests.{le-leb}
use lib.ListN.{length}
use mathlib.Core.Bool.{true}
use mathlib.Core.List.{List}
use mathlib.Core.Path.{◌≡◌, refl}
use native.Mathlib.Omega.{arith}
use Rattle.std.specs.Prelude.{Ok}
use Rattle.frame.proofs.Copies.{there_reaches}
use Rattle.frame.proofs.Tests.{and_both}
use Rattle.tag.proofs.Cases.{Reads, Writes, place_of, act_cases}
use Rattle.image.proofs.GoodImages.{Good, good_facts}
use Rattle.tag.proofs.NamedWords.{Inside, inside, data_length}
use Rattle.tag.specs.Commands.{data_in, count_in, act_of}
use Rattle.image.specs.Image.{good, view, word_at, epc_length}
use Rattle.tag.specs.Errors.{Verdict}
use Rattle.tag.specs.declared.commands.Act.TheVariants.{Give, Store}
use Rattle.execution.specs.Reach.{has_epc, answerable, has_named, in_reach}

module _ (image : List ℕ) (g : Good (view image)) where
  least : 24 ≤ length image
  unfolding view
  least = omega (arith, g.total_least, g.total_lent)

  epc : has_epc image ≡ true
  unfolding has_epc word_at epc_length view
  epc = there_reaches image _ _ (omega (arith, g.epc_fits, g.tid_place, g.user_place, g.last_end, g.total_lent))

  module _ (p : List ℕ) where
    read_named : Reads image p → has_named image p (Ok (Give (place_of image p) (2 * count_in p))) ≡ true
    unfolding has_named
    read_named reads =
        let home : Inside image p = inside image p g reads.aim in
        and_both _ _ (le-leb (2 * count_in p) 64 (omega (arith, reads.aim.count_most)))
        (there_reaches image (place_of image p) (2 * count_in p) (omega (arith, home.to)))

    write_named : Writes image p → has_named image p (Ok (Store (place_of image p))) ≡ true
    unfolding has_named
    write_named writes =
        let home : Inside image p = inside image p g writes.aim in
        and_both _ _ (le-leb 9 (length p) (omega (arith, writes.fields)))
        (there_reaches image (place_of image p) (length (data_in p)) (omega (arith, home.to, data_length image p writes)))

    command_named : (code : ℕ) → has_named image p (act_of image code p) ≡ true
    unfolding has_named
    command_named code =
        act_cases (λ (verdict : Verdict). has_named image p verdict ≡ true) (λ e. refl) (λ e. refl) image p code (λ c. refl)
        (λ c reads. read_named reads) (λ c writes. write_named writes)
        (λ c locks. there_reaches image 20 2 (omega (arith, least)))
        (λ c kills. there_reaches image 22 1 (omega (arith, least)))

pub good_in_reach : (image : List ℕ) → good image ≡ true → (code : ℕ) (p : List ℕ) → in_reach image p (act_of image code p) ≡ true
unfolding in_reach answerable
good_in_reach image h code p =
    let g : Good (view image) = good_facts image h in
    and_both _ _ (and_both _ _ (le-leb 24 (length image) (least image g)) (epc image g)) (command_named image g p code)
