-- The tests of what a command needs of the image, one by one.
use Prim.Native.Nat.{ℕ, ◌-◌, ◌≤◌, ◌<◌}
use borrow.Author.Tests.{le-leb, lt-leb}
use lib.Dec.{leb}
use lib.ListN.{length, length-drop}
use mathlib.Core.Bool.{true, false, and-false}
use mathlib.Core.List.{List}
use mathlib.Core.Path.{◌≡◌}
use Rattle.std.specs.Prelude.{Ok}
use Rattle.frame.proofs.Tests.{and_right}
use Rattle.frame.specs.Bytes.{reaches}
use Rattle.tag.specs.Commands.{data_in}
use Rattle.image.specs.Image.{word_at, epc_length}
use Rattle.image.specs.Spans.{EpcSpan}
use Rattle.tag.specs.declared.commands.Act.TheVariants.{Give, Store}
use Rattle.image.specs.declared.header.Span.{Span}
use Rattle.execution.specs.Reach.{has_epc, answerable, has_named}

module _ (image : List ℕ) where
  pub no_header : length image < 24 → false ≡ answerable image
  unfolding answerable
  no_header h = simp (lt-leb 24 (length image) h)

  -- the place of PC and EPC, read by whatever means
  pub epc_had : 24 ≤ length image → (p : Span) → EpcSpan image p → reaches image p.from p.count ≡ answerable image
  unfolding answerable has_epc word_at epc_length
  epc_had header p read = simp (le-leb 24 (length image) header, read.from_is, read.count_is)

  pub answerable_epc : answerable image ≡ true → has_epc image ≡ true
  unfolding answerable
  answerable_epc h = and_right (leb 24 (length image)) (has_epc image) h

module _ (image p : List ℕ) (at : ℕ) where
  module _ (n : ℕ) where
    pub given_long : 64 < n → has_named image p (Ok (Give at n)) ≡ false
    unfolding has_named
    given_long h = simp (lt-leb n 64 h)

    pub given_out : reaches image at n ≡ false → has_named image p (Ok (Give at n)) ≡ false
    unfolding has_named
    given_out h = simp (h, and-false)

    pub given_there : n ≤ 64 → reaches image at n ≡ true → has_named image p (Ok (Give at n)) ≡ true
    unfolding has_named
    given_there few h = simp (le-leb n 64 few, h)

  pub stored_short : length p < 9 → has_named image p (Ok (Store at)) ≡ false
  unfolding has_named
  stored_short h = simp (lt-leb 9 (length p) h)

  pub stored_out : reaches image at (length p - 9) ≡ false → has_named image p (Ok (Store at)) ≡ false
  unfolding has_named data_in
  stored_out h = simp (length-drop, h, and-false)

  pub stored_there : 9 ≤ length p → reaches image at (length p - 9) ≡ true → has_named image p (Ok (Store at)) ≡ true
  unfolding has_named data_in
  stored_there fields h = simp (length-drop, le-leb 9 (length p) fields, h)
