-- Proofs of the statements on the claims page, specs/Claims.antt.
use Prim.Native.Nat.{ℕ, zero, suc, ◌-◌, ◌*◌, ◌%◌, ◌^◌, ◌<◌}
use lib.ListN.{length}
use mathlib.Core.List.{List}
use mathlib.Core.Path.{◌≡◌, refl, sym, ap}
use native.Mathlib.Omega.{arith}
use Rattle.crc.proofs.Steps as Steps
use Rattle.crc.proofs.Tables as Laws
use Rattle.crc.specs.Claims.{BitRules, ByteRules, Presets, Published, Entries, Tables, BothEngines}
use Rattle.crc.specs.Crc.{leaving, shifted, added, bit_step, bit_steps, entered, byte_step, crc, tag_crc, reader_crc}
use Rattle.crc.specs.Tables.{polynomial_of, entries, table_of, near_table, far_table}
use Rattle.crc.specs.declared.Direction.{Direction}
use Rattle.crc.specs.declared.Direction.TheVariants.{HighFirst, LowFirst}

pub bit_rules : (polynomial register : ℕ) → BitRules polynomial register
bit_rules polynomial register = record {
  low_one = λ one. sym (Steps.low_one polynomial register one);
  low_zero = λ none. sym (Steps.low_zero polynomial register (λ one. omega arith));
  high_one = λ one word.
      let up : register * 2 - 2 ^ 16 ≡ register % 0x8000 * 2 = omega arith in
      sym (rw up (Steps.high_one polynomial register one));
  high_zero = λ none. sym (Steps.high_zero polynomial register none);
}

pub byte_rules : (polynomial register b : ℕ) (bytes : List ℕ) → ByteRules polynomial register b bytes
unfolding crc byte_step bit_steps entered
byte_rules polynomial register b bytes = record { none = λ direction. refl; low_byte = refl; high_byte = refl }

pub presets : (bytes : List ℕ) → Presets bytes
unfolding tag_crc reader_crc
presets bytes = record {
  of_the_tag = λ all.
      let word : crc HighFirst 0x1021 0xFFFF bytes < 0x10000 = Laws.crc_small HighFirst 0x1021 (omega arith) 0xFFFF bytes (omega arith) all in
      omega arith;
  of_the_reader = refl;
}

pub published : Published
unfolding tag_crc reader_crc crc byte_step bit_steps bit_step leaving shifted added entered
published = record { sample_tag = refl; module_int = refl; inventory = refl; inventory_answer = refl }

pub both_engines : BothEngines
unfolding near_table far_table polynomial_of
both_engines register bytes word all = record {
  shared = λ direction polynomial small. Laws.same_number direction polynomial small register bytes word all;
  high = Laws.same_number HighFirst 0x1021 (omega arith) register bytes word all;
  low = Laws.same_number LowFirst 0x8408 (omega arith) register bytes word all;
}

entries_length : (direction : Direction) (polynomial bits n b : ℕ) → length (entries direction polynomial bits n b) ≡ n
unfolding entries
entries_length direction polynomial bits zero b = refl
entries_length direction polynomial bits (suc n) b = ap suc (entries_length direction polynomial bits n (suc b))

at : (b : ℕ) → b < 256 → Entries b
unfolding near_table far_table polynomial_of bit_steps entered
at b byte = record {
  high_near = Laws.table_at HighFirst 0x1021 8 b byte;
  high_far = Laws.table_at HighFirst 0x1021 16 b byte;
  low_near = Laws.table_at LowFirst 0x8408 8 b byte;
  low_far = Laws.table_at LowFirst 0x8408 16 b byte;
}

pub tables : Tables
unfolding near_table far_table table_of
tables = record {
  near_words = λ direction. entries_length direction (polynomial_of direction) 8 256 0;
  far_words = λ direction. entries_length direction (polynomial_of direction) 16 256 0;
  entries = at;
}
