-- Document 01, "The sample tag and its frames": the starred cases, each with all that its call answers and leaves.
use Rattle.std.specs.Prelude.{ℕ, ◌-◌, List, [], ◌∷◌, ◌++◌, length, replicate}
use Rattle.std.proofs.lemmas.List.Edits.{sets}
use Rattle.machine.specs.Machine.{State, state_of, call, Step, step}
use Rattle.effects.specs.Sample.{sample, killed, no_kill_password}
use Rattle.frame.specs.Bytes.{bytes_of as bytes}
use Rattle.frame.specs.declared.finding.Reason.TheVariants.{WrongCheck}
use Rattle.reader.specs.Readers.{reader_of, fresh_reader}
use Rattle.reader.specs.Tallies.{tally_of, fresh_tally}
use Rattle.reader.specs.declared.outcome.Outcome.{Outcome}
use Rattle.reader.specs.declared.outcome.Outcome.TheVariants.{Answered, Incomplete, Dropped}
use Rattle.reader.specs.declared.state.Reader.{Reader}
use Rattle.reader.specs.declared.tally.Tally.{Tally}

-- One call: "Each case starts afresh", with an output of 136 bytes, cursor 0 and a fresh tally; the call must end so, write this frame,
-- and leave this image, cursor and counts.
pub record Case : Type 0 where
  pub image : List ℕ
  pub input : List ℕ
  pub outcome : Outcome
  pub frame : List ℕ
  pub image_left : List ℕ
  pub cursor : ℕ
  pub tally : Tally
  pub next : ℕ

-- a crate of one tag, which has all of the memory, and an empty selection
abbrev pub one_tag : List ℕ → List ℕ → Reader → ℕ → State
one_tag image output reader next =
    state_of image (record { from = 0; size = length image } ∷ replicate 15 record { from = 0; size = 0 }) 1 [] output reader next

abbrev pub given : Case → Step
given k = step (call k.input) (one_tag k.image (replicate 136 0) fresh_reader 16)

abbrev pub expected : Case → Step
expected k =
    record {
      outcome = k.outcome;
      length = length k.frame;
      next = one_tag k.image_left (k.frame ++ replicate (136 - length k.frame) 0) (reader_of k.cursor k.tally) k.next;
    }

abbrev pub case : List ℕ → List ℕ → Outcome → List ℕ → List ℕ → ℕ → Tally → Case
case image input outcome frame image_left cursor tally =
    record { image = image; input = input; outcome = outcome; frame = frame; image_left = image_left; cursor = cursor; tally = tally; next = 16 }

-- an inventory: the tags behind number 0 would be handed out next
abbrev pub inventory_case : List ℕ → List ℕ → List ℕ → Case
inventory_case image input frame =
    record { image = image; input = input; outcome = Answered; frame = frame; image_left = image; cursor = 7; tally = tally_of 1 0 0 0 0 0 0; next = 1 }

abbrev pub one_good : Tally
one_good = tally_of 1 0 0 0 0 0 0

abbrev pub one_error : Tally
one_error = tally_of 0 1 0 0 0 0 0

abbrev pub one_wrong_check : Tally
one_wrong_check = tally_of 0 0 0 0 0 1 0

-- the starred cases, in the order of the paper
abbrev pub cases : List Case
cases =
    inventory_case sample (bytes 7 0xBB_00_22_00_00_22_7E) (bytes 24 0xBB_02_22_00_11_C9_34_00_30_75_1F_EB_70_5C_59_04_E3_D5_0D_70_3A_76_EF_7E)
    -- "gives check B0 and data 12 34 56 78"
    ∷ case sample (bytes 16 0xBB_00_39_00_09_00_00_FF_FF_03_00_00_00_02_45_7E) Answered (bytes 26 0xBB_01_39_00_13_0E_34_00_30_75_1F_EB_70_5C_59_04_E3_D5_0D_70_12_34_56_78_B0_7E) sample 16 one_good
    -- "The same frame with check 46: one byte dropped."
    ∷ case sample (bytes 16 0xBB_00_39_00_09_00_00_FF_FF_03_00_00_00_02_46_7E) (Dropped WrongCheck) [] sample 1 one_wrong_check
    -- "Pointer 14, count 2, User: good."
    ∷ case sample (bytes 16 0xBB_00_39_00_09_00_00_FF_FF_03_00_0E_00_02_53_7E) Answered (bytes 26 0xBB_01_39_00_13_0E_34_00_30_75_1F_EB_70_5C_59_04_E3_D5_0D_70_00_00_00_00_9C_7E) sample 16 one_good
    -- "Pointer 15, count 2: A3, check 02."
    ∷ case sample (bytes 16 0xBB_00_39_00_09_00_00_FF_FF_03_00_0F_00_02_54_7E) Answered (bytes 23 0xBB_01_FF_00_10_A3_0E_34_00_30_75_1F_EB_70_5C_59_04_E3_D5_0D_70_02_7E) sample 16 one_error
    -- "Read with password 00000001: 16, check 75."
    ∷ case sample (bytes 16 0xBB_00_39_00_09_00_00_00_01_03_00_00_00_02_48_7E) Answered (bytes 23 0xBB_01_FF_00_10_16_0E_34_00_30_75_1F_EB_70_5C_59_04_E3_D5_0D_70_75_7E) sample 16 one_error
    -- "Write ..: PL 0010, check A9."
    ∷ case sample (bytes 20 0xBB_00_49_00_0D_00_00_FF_FF_03_00_00_00_02_12_34_56_78_6D_7E) Answered (bytes 23 0xBB_01_49_00_10_0E_34_00_30_75_1F_EB_70_5C_59_04_E3_D5_0D_70_00_A9_7E) sample 20 one_good
    -- "Write of 3C00 to EPC word 1 (L 7, 8 words): B3, check 12."
    ∷ case sample (bytes 18 0xBB_00_49_00_0B_00_00_FF_FF_01_00_01_00_01_3C_00_91_7E) Answered (bytes 23 0xBB_01_FF_00_10_B3_0E_34_00_30_75_1F_EB_70_5C_59_04_E3_D5_0D_70_12_7E) sample 18 one_error
    -- "Of 3000: good.", P4: the CRC-16 of 3000 and the six words that its L counts is C7D3
    ∷ case sample (bytes 18 0xBB_00_49_00_0B_00_00_FF_FF_01_00_01_00_01_30_00_85_7E) Answered (bytes 23 0xBB_01_49_00_10_0E_34_00_30_75_1F_EB_70_5C_59_04_E3_D5_0D_70_00_A9_7E) (sets sample 32 (bytes 4 0xC7_D3_30_00)) 18 one_good
    -- "Lock ..: lock bits become 0080, check E2."
    ∷ case sample (bytes 14 0xBB_00_82_00_07_00_00_FF_FF_02_00_80_09_7E) Answered (bytes 23 0xBB_01_82_00_10_0E_34_00_30_75_1F_EB_70_5C_59_04_E3_D5_0D_70_00_E2_7E) (sets sample 20 (bytes 2 0x00_80)) 14 one_good
    -- "Kill with 0000FFFF: check C5"
    ∷ case sample (bytes 11 0xBB_00_65_00_04_00_00_FF_FF_67_7E) Answered (bytes 23 0xBB_01_65_00_10_0E_34_00_30_75_1F_EB_70_5C_59_04_E3_D5_0D_70_00_C5_7E) killed 11 one_good
    -- "a second Kill: plain 12."
    ∷ case killed (bytes 11 0xBB_00_65_00_04_00_00_FF_FF_67_7E) Answered (bytes 8 0xBB_01_FF_00_01_12_13_7E) killed 11 one_error
    -- "Stored kill password 0: D0, check 2F."
    ∷ case no_kill_password (bytes 11 0xBB_00_65_00_04_00_00_FF_FF_67_7E) Answered (bytes 23 0xBB_01_FF_00_10_D0_0E_34_00_30_75_1F_EB_70_5C_59_04_E3_D5_0D_70_2F_7E) no_kill_password 11 one_error
    -- "`BB` alone: answer 2."
    ∷ case sample (bytes 1 0xBB) Incomplete [] sample 0 fresh_tally
    -- "Code 77 with PL 0: plain 17, check 18."
    ∷ case sample (bytes 7 0xBB_00_77_00_00_77_7E) Answered (bytes 8 0xBB_01_FF_00_01_17_18_7E) sample 7 one_error
    ∷ []
