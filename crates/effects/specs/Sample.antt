-- Document 01, "The sample tag and its frames": the sample tag.
use Rattle.std.specs.Prelude.{ℕ, List, [], ◌∷◌, ◌++◌, replicate}
use Rattle.std.proofs.lemmas.List.Edits.{sets}
use Rattle.frame.specs.Bytes.{bytes_of as bytes}

-- "Total 86; offsets 24, 32, 48, 54; words 4, 8, 3, 16; locks 0; state 0; RSSI C9 (-55). Both passwords 0000FFFF. EPC bank: 0000 3400
-- 3075 1FEB 705C 5904 E3D5 0D70. TID all 0. User 1234 5678, then zeros." P4: "The sample tag's EPC bank now starts with 3A76"
abbrev pub sample : List ℕ
sample =
    bytes 24 0x0001_0056_0004_0018_0008_0020_0003_0030_0010_0036_0000_00_C9
    ++ bytes 8 0x0000FFFF_0000FFFF
    ++ bytes 16 0x3A76_3400_3075_1FEB_705C_5904_E3D5_0D70
    ++ replicate 6 0
    ++ bytes 4 0x1234_5678
    ++ replicate 28 0

-- what a first Kill leaves, and the sample tag with a stored kill password of 0
abbrev pub killed : List ℕ
killed = sets sample 22 (1 ∷ [])

abbrev pub no_kill_password : List ℕ
no_kill_password = sets sample 24 (replicate 4 0)
