-- Document 01, "Finding a command": what a call makes of the input from the cursor on, here `rest`. The rules are over the format of the frames
-- that are looked for.
use Rattle.std.specs.Prelude.{ℕ, not, ◌&&◌, List, length, ◌==◌, nat_le, nat_lt}
use Rattle.frame.specs.Bytes.{pick, byte}
use Rattle.frame.specs.Formats.{Format}
use Rattle.frame.specs.Frames.{frame_length}
use Rattle.frame.specs.declared.finding.Found.{Found}
use Rattle.frame.specs.declared.finding.Found.TheVariants.{End, Drop, Wait, Accept}
use Rattle.frame.specs.declared.finding.Reason.{Reason}
use Rattle.frame.specs.declared.finding.Reason.TheVariants.{NoHeader, WrongType, TooLong, WrongCheck, WrongEnd}

-- "1 no header, 2 wrong type, 3 too long, 4 wrong check, 5 wrong end"
unfoldable pub reason_number : Reason → ℕ
reason_number NoHeader = 1
reason_number WrongType = 2
reason_number TooLong = 3
reason_number WrongCheck = 4
reason_number WrongEnd = 5

-- The rules, in order; a drop carries its reason, "in the order of the finding rules, check before end":
--   1. nothing left: answer 1;
--   2. first byte not BB: drop it;
--   3. second byte there and not 00: drop the BB;
--   4. five bytes there and PL above 80: drop the BB;
--   5. frame not all there: answer 2;
--   6. check wrong, or last byte not 7E: drop the BB;
--   7. else the frame is accepted.
unfoldable pub find : Format → List ℕ → Found
find f rest =
    let n : ℕ = f.length_in rest in
    pick (length rest == 0) End
    (pick (not (byte rest 0 == f.head)) (Drop NoHeader)
    (pick (nat_le 2 (length rest) && not (f.second_right (byte rest 1))) (Drop WrongType)
    (pick (nat_le 5 (length rest) && nat_lt f.longest n) (Drop TooLong)
    (pick (nat_lt (length rest) (frame_length n)) Wait
    (pick (not (f.check_right n rest)) (Drop WrongCheck)
    (pick (not (f.end_right n rest)) (Drop WrongEnd)
    (Accept n)))))))
