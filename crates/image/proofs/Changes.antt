-- What a store does to the view of an image: a Write can change only the PC in it, a Lock the lock bits, a Kill the state.
use Prim.Native.Nat.{ℕ, ◌+◌, ◌≤◌}
use lib.Seq.{sets, length-sets}
use mathlib.Core.List.{List}
use mathlib.Core.Path.{◌≡◌}
use native.Mathlib.Omega.{arith}
use Rattle.frame.proofs.Stores.{number_sets_before}
use Rattle.frame.specs.Bytes.{byte, number}
use Rattle.image.specs.Image.{view, bank_at}
use Rattle.image.specs.declared.header.View.{View}

-- a view with another PC, other lock bits, another state
abbrev pub changed_view : View → ℕ → ℕ → ℕ → View
changed_view v pc locks state =
    record {
      size = v.size;
      format = v.format;
      total = v.total;
      reserved = v.reserved;
      epc = v.epc;
      tid = v.tid;
      user = v.user;
      locks = locks;
      state = state;
      pc = pc;
    }

-- the banks' places and the sizes stay where the first 20 bytes do
module _ (image : List ℕ) (at : ℕ) (vs : List ℕ) (from : 20 ≤ at) where
  pub view_sets : view (sets image at vs)
      ≡ changed_view (view image) (number (sets image at vs) (number image 10 + 2)) (number (sets image at vs) 20) (byte (sets image at vs) 22)
  unfolding view bank_at
  view_sets =
      simp (
        length-sets image at vs,
        number_sets_before image at vs 0 (omega arith),
        number_sets_before image at vs 2 (omega arith),
        number_sets_before image at vs 4 (omega arith),
        number_sets_before image at vs 6 (omega arith),
        number_sets_before image at vs 8 (omega arith),
        number_sets_before image at vs 10 (omega arith),
        number_sets_before image at vs 12 (omega arith),
        number_sets_before image at vs 14 (omega arith),
        number_sets_before image at vs 16 (omega arith),
        number_sets_before image at vs 18 (omega arith),
      )
