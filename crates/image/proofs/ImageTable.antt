-- A good image is exactly one that keeps the table of document 01.
use mathlib.Core.List.{List}
use native.Mathlib.Omega.{arith}
use Rattle.image.proofs.GoodImages.{Good, CrcKept, good_facts, crc_kept_lem, good_holds}
use Rattle.image.specs.Claims.{ImageRules, GoodImages}
use Rattle.image.specs.Image.{bank_at, view, word_at, epc_length, pc_and_epc, crc_word}
use Prim.Native.Nat.{ℕ}

rules_kept : (image : List ℕ) → Good (view image) → CrcKept image → ImageRules image
unfolding view bank_at epc_length crc_word pc_and_epc word_at
rules_kept image g kept =
    record {
      format_must_be_1 = g.format_1;
      total_is_the_lent_length = g.total_lent;
      total_from_24 = g.total_least;
      total_to_2048 = g.total_most;
      reserved_exactly_4 = g.reserved_words;
      epc_from_2 = g.epc_least;
      epc_to_33 = g.epc_most;
      tid_from_1 = g.tid_least;
      tid_to_32 = g.tid_most;
      user_to_512 = g.user_most;
      upper_six_are_0 = omega (arith, g.upper_six);
      state_to_2 = g.state_known;
      reserved_from_24 = g.reserved_place;
      epc_behind_reserved = omega (arith, g.reserved_words, g.epc_place);
      tid_behind_epc = g.tid_place;
      user_behind_tid = g.user_place;
      last_end_within = g.last_end;
      length_within = g.epc_fits;
      crc_in_word_0 = kept;
    }

rules_suffice : (image : List ℕ) → ImageRules image → Good (view image)
unfolding view bank_at epc_length
rules_suffice image g =
    record {
      format_1 = g.format_must_be_1;
      total_lent = g.total_is_the_lent_length;
      total_least = g.total_from_24;
      total_most = g.total_to_2048;
      reserved_words = g.reserved_exactly_4;
      epc_least = g.epc_from_2;
      epc_most = g.epc_to_33;
      tid_least = g.tid_from_1;
      tid_most = g.tid_to_32;
      user_most = g.user_to_512;
      upper_six = omega (arith, g.upper_six_are_0);
      state_known = g.state_to_2;
      reserved_place = g.reserved_from_24;
      epc_place = omega (arith, g.reserved_exactly_4, g.epc_behind_reserved);
      tid_place = g.tid_behind_epc;
      user_place = g.user_behind_tid;
      last_end = g.last_end_within;
      epc_fits = g.length_within;
    }

kept_again : (image : List ℕ) → ImageRules image → CrcKept image
unfolding view bank_at epc_length crc_word pc_and_epc word_at
kept_again image g = g.crc_in_word_0

pub good_images : GoodImages
good_images image =
    (λ h. rules_kept image (good_facts image h) (crc_kept_lem image h), λ g. good_holds image (rules_suffice image g) (kept_again image g))
