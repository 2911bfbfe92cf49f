-- The claims page of a call over a crate of tags: what P5 promises of the machine, each as a named statement with the papers' words beside it. Each
-- statement is proved in proofs/Claimed.antt.
use Rattle.std.specs.Prelude.{ℕ, zero, suc, ◌+◌, ◌-◌, ◌*◌, ◌%◌, ◌≤◌, ◌<◌, Bool, true, false, not, ◌&&◌, ◌||◌, List, [], ◌∷◌, ◌++◌, map, ◌⊎◌, ◌≢◌, ◌≡◌, eqb, leb, ltb, length, take, drop, replicate}
use Rattle.reader.specs.Outcomes.{number_of, reason_of}
use Rattle.effects.specs.Claims.{Overwritten, Effect, Written, NamedWords, pairs_after, Permalocks}
use Rattle.effects.specs.Secrecy.{Command}
use Rattle.machine.specs.Machine.{State, state_of, Call, call, Step, input_of, rest_of, waiting, step, work, run, after}
use Rattle.machine.specs.Secrecy.{is_none, accepted, MayDiffer, Outside, SameCall, Throughout}
use Rattle.machine.specs.Starred.{cases, given, expected}
use Rattle.frame.specs.Bytes.{pick, first_of, byte, number, part, two_bytes}
use Rattle.frame.specs.Frames.{sum}
use Rattle.image.specs.Image.{view, bank_of, end_of, kill_password, access_password}
use Rattle.population.specs.Claims.{Holds, place_of_tag, image_of, LowestRules}
use Rattle.population.specs.Lowest.{lowest, no_tag, tag_at}
use Rattle.population.specs.Matching.{matches}
use Rattle.population.specs.Places.{good_population}
use Rattle.population.specs.Selections.{taken, good_selection}
use Rattle.std.specs.Prelude.{Option, None, Some}
use Rattle.population.specs.declared.places.Place.{Place}
use Rattle.reader.specs.Readers.{fresh_reader}
use Rattle.tag.specs.Claims.{comes_to, framed}
use Rattle.tag.specs.Locks.{pairs, bits_of}

-- the answer number of a call, and the reason of its drop (0: none)
abbrev pub answer_of : Call → State → ℕ
answer_of c s = number_of (step c s).outcome

abbrev pub reason_in : Call → State → ℕ
reason_in c s = reason_of (step c s).outcome

-- ---- Demand 1: every call ends with one named answer

-- "Tests in the order 10, 11, 12, 13, then the finding rules; each is given exactly then." P5: "more tags, places that overlap or leave the memory, a bad image, or
-- a selection that is neither empty nor one that Set Select takes, make it bad (11)"; a tag still to hand out comes before the finding rules
abbrev pub AnswerNumbers : Type 0
AnswerNumbers =
    (c : Call) (s : State)
    → answer_of c s
    ≡ first_of
    ((ltb (length (input_of c)) s.reader.cursor, 10)
    ∷ (not (good_selection s.selection), 11)
    ∷ (not (good_population s.memory s.tags s.places), 11)
    ∷ (ltb (length s.output) 136, 12)
    ∷ (eqb s.reader.tally.good 4294967295, 13)
    ∷ (eqb s.reader.tally.error 4294967295, 13)
    ∷ (eqb s.reader.tally.header 4294967295, 13)
    ∷ (eqb s.reader.tally.kind 4294967295, 13)
    ∷ (eqb s.reader.tally.long 4294967295, 13)
    ∷ (eqb s.reader.tally.check 4294967295, 13)
    ∷ (eqb s.reader.tally.end 4294967295, 13)
    ∷ (not (is_none (lowest s.memory s.tags s.places s.selection s.next)), 0)
    ∷ (eqb (length (rest_of c s)) 0, 1)
    ∷ (not (eqb (byte (rest_of c s) 0) 0xBB), 3)
    ∷ (leb 2 (length (rest_of c s)) && not (eqb (byte (rest_of c s) 1) 0x00), 3)
    ∷ (leb 5 (length (rest_of c s)) && ltb 80 (number (rest_of c s) 3), 3)
    ∷ (ltb (length (rest_of c s)) (7 + number (rest_of c s) 3), 2)
    ∷ (not (eqb (byte (rest_of c s) (5 + number (rest_of c s) 3)) (sum (part (rest_of c s) 1 (4 + number (rest_of c s) 3)) % 256)), 3)
    ∷ (not (eqb (byte (rest_of c s) (6 + number (rest_of c s) 3)) 0x7E), 3)
    ∷ [])
    0

-- "Answer 3 now carries a reason: 1 no header, 2 wrong type, 3 too long, 4 wrong check, 5 wrong end"; a call that drops no byte has none
abbrev pub DropReasons : Type 0
DropReasons =
    (c : Call) (s : State)
    → (answer_of c s ≢ 3 → reason_in c s ≡ 0)
    × (answer_of c s ≡ 3
    → reason_in c s
    ≡ first_of
    ((not (eqb (byte (rest_of c s) 0) 0xBB), 1)
    ∷ (leb 2 (length (rest_of c s)) && not (eqb (byte (rest_of c s) 1) 0x00), 2)
    ∷ (leb 5 (length (rest_of c s)) && ltb 80 (number (rest_of c s) 3), 3)
    ∷ (not (eqb (byte (rest_of c s) (5 + number (rest_of c s) 3)) (sum (part (rest_of c s) 1 (4 + number (rest_of c s) 3)) % 256)), 4)
    ∷ [])
    5)

-- "Under 1, 2 and 10 to 13 the next state is the old one"; "The call reports the length written, 0 in all other cases."
abbrev pub NothingChanges : Type 0
NothingChanges = (c : Call) (s : State) → answer_of c s ≢ 0 → answer_of c s ≢ 3 → ((step c s).next ≡ s) × ((step c s).length ≡ 0)

-- "A drop takes exactly one byte"; "under 3 only cursor and tally change": the count of the drop's reason goes up by one
abbrev pub DropTakesOneByte : Type 0
DropTakesOneByte =
    (c : Call) (s : State)
    → answer_of c s ≡ 3
    → ((step c s).length ≡ 0)
    × ((step c s).next
    ≡ state_of s.memory s.places s.tags s.selection s.output
    record {
      cursor = s.reader.cursor + 1;
      tally =
          record {
            good = s.reader.tally.good;
            error = s.reader.tally.error;
            header = s.reader.tally.header + pick (eqb (reason_in c s) 1) 1 0;
            kind = s.reader.tally.kind + pick (eqb (reason_in c s) 2) 1 0;
            long = s.reader.tally.long + pick (eqb (reason_in c s) 3) 1 0;
            check = s.reader.tally.check + pick (eqb (reason_in c s) 4) 1 0;
            end = s.reader.tally.end + pick (eqb (reason_in c s) 5) 1 0;
          };
    }
    s.next)

-- 0: "one frame at the start of the output; cursor moves over the command"; "Answers have at most 136 bytes."; "Bytes of the output behind the written frame
-- stay." P5: "The cursor moves with the first of them only". Which frame it is, the claims below say.
pub record OneFrame (c : Call) (s : State) (x : Step) : Type 0 where
  pub some : 0 < x.length
  pub at_most_136 : x.length ≤ 136
  pub behind_stays : drop x.length x.next.output ≡ drop x.length s.output
  pub room_stays : length x.next.output ≡ length s.output
  pub in_the_output : x.length ≤ length x.next.output
  pub over_the_command : waiting s ≡ no_tag → x.next.reader.cursor ≡ s.reader.cursor + (7 + number (rest_of c s) 3)
  pub stays_with_a_tag : (n : ℕ) (p : Place) → waiting s ≡ tag_at n p → x.next.reader.cursor ≡ s.reader.cursor
  pub not_past_the_end : x.next.reader.cursor ≤ length (input_of c)

abbrev pub AnswerIsOneFrame : Type 0
AnswerIsOneFrame = (c : Call) (s : State) → answer_of c s ≡ 0 → OneFrame c s (step c s)

-- "A plain error frame has code FF and one byte; a tag error frame has code FF, the byte and the tail": no such byte is 0, so that 0 may stand for a drop
-- wherever failures are told
abbrev pub ErrorsHaveAByte : Type 0
ErrorsHaveAByte = (c : Call) (s : State) → answer_of c s ≡ 0 → byte (step c s).next.output 2 ≡ 0xFF → 0 < byte (step c s).next.output 5

-- ---- Hand-out: "Inventory hands out each matching present tag exactly once, in rising number, one per call, then takes the next command"

-- A tag is still to hand out, and no test 10 to 13 refuses: "The cursor moves with the first of them only, each raises the good count"; "one no longer present and
-- matching at its turn is passed over". The frame is that of an inventory at this tag.
pub record HandsOut (s : State) (n : ℕ) (p : Place) (x : Step) : Type 0 where
  pub lowest_from_next : LowestRules s.memory s.tags s.places s.selection s.next n p
  pub notification : take x.length x.next.output ≡ (comes_to (image_of s.memory p) 0x22 []).0
  pub behind_stays : drop x.length x.next.output ≡ drop x.length s.output
  pub memory_stays : x.next.memory ≡ s.memory
  pub selection_stays : x.next.selection ≡ s.selection
  pub cursor_stays : x.next.reader.cursor ≡ s.reader.cursor
  pub good_raised : x.next.reader.tally
      ≡ record {
        good = s.reader.tally.good + 1;
        error = s.reader.tally.error;
        header = s.reader.tally.header;
        kind = s.reader.tally.kind;
        long = s.reader.tally.long;
        check = s.reader.tally.check;
        end = s.reader.tally.end;
      }
  pub behind_it : x.next.next ≡ n + 1

abbrev pub HandOut : Type 0
HandOut = (c : Call) (s : State) (n : ℕ) (p : Place) → waiting s ≡ tag_at n p → answer_of c s ≡ 0 → HandsOut s n p (step c s)

-- the numbers from i on, k of them, that pass a test
unfoldable pub passing : (ℕ → Bool) → ℕ → ℕ → List ℕ
passing test i zero = []
passing test i (suc k) = pick (test i) (i ∷ passing test (i + 1) k) (passing test (i + 1) k)

-- the matching present tags from a number on, in rising number
unfoldable pub is_candidate : State → ℕ → Bool
is_candidate s i =
    eqb (byte (image_of s.memory (place_of_tag s.places i)) 22) 0 && matches (image_of s.memory (place_of_tag s.places i)) s.selection

unfoldable pub candidates : State → ℕ → List ℕ
candidates s start = passing (is_candidate s) start (s.tags - start)

unfoldable pub number_in : Option (ℕ × Place) → List ℕ
number_in None = []
number_in (Some (number, place)) = number ∷ []

-- the numbers that a list of calls hands out: a call that answers 0 while a tag is still to hand out
unfoldable pub handed_by : Call → State → List ℕ
handed_by c s = pick (eqb (answer_of c s) 0) (number_in (waiting s)) []

unfoldable pub handed : List Call → State → List ℕ
handed [] s = []
handed (c ∷ calls) s = handed_by c s ++ handed calls (step c s).next

-- While nothing is accepted, whatever the input of the calls: those handed out, and then those still to hand out, are those of the start. So each is handed out
-- exactly once, and none is left out.
abbrev pub ExactlyOnce : Type 0
ExactlyOnce =
    (calls : List Call) (s : State)
    → good_population s.memory s.tags s.places ≡ true
    → accepted calls s ≡ []
    → handed calls s ++ candidates (after calls s) (after calls s).next ≡ candidates s s.next

-- an accepted inventory answers with the first of all of them, and leaves the others to hand out
abbrev pub InventoryStarts : Type 0
InventoryStarts =
    (c : Call) (s : State) (n : ℕ) (p : Place)
    → answer_of c s ≡ 0
    → waiting s ≡ no_tag
    → lowest s.memory s.tags s.places s.selection 0 ≡ tag_at n p
    → byte (rest_of c s) 2 ≡ 0x22
    → number (rest_of c s) 3 ≡ 0
    → n ∷ candidates (step c s).next (step c s).next.next ≡ candidates s 0

-- ---- Accepted commands

-- "A command is accepted if finding rule 7 accepts it and the call answers 0", with none still to hand out: the cursor moves over it
abbrev pub Accepting : Call → State → Type 0
Accepting c s = (answer_of c s ≡ 0) × (waiting s ≡ no_tag)

-- its code and its parameters, as they stand in the frame
abbrev pub code_of : Call → State → ℕ
code_of c s = byte (rest_of c s) 2

abbrev pub parameters_of : Call → State → List ℕ
parameters_of c s = part (rest_of c s) 5 (number (rest_of c s) 3)

-- "Read, Write, Lock and Kill go to the lowest-numbered present tag that matches", and inventory too: the tables of the tag's claims page say what it comes to
-- there, in frame and image. Every command but an inventory that found a tag leaves none to hand out.
pub record CarriedOutAt (c : Call) (s : State) (n : ℕ) (p : Place) (x : Step) : Type 0 where
  pub it_comes_to : (take x.length x.next.output, image_of x.next.memory p) ≡ comes_to (image_of s.memory p) (code_of c s) (parameters_of c s)
  pub selection_stays : x.next.selection ≡ s.selection
  pub over_the_command : x.next.reader.cursor ≡ s.reader.cursor + (7 + number (rest_of c s) 3)
  pub none_to_hand_out : code_of c s ≢ 0x22 → x.next.next ≡ 16

abbrev pub CommandsAim : Type 0
CommandsAim =
    (c : Call) (s : State) (n : ℕ) (p : Place)
    → Accepting c s
    → code_of c s ≢ 0x0C
    → lowest s.memory s.tags s.places s.selection 0 ≡ tag_at n p
    → CarriedOutAt c s n p (step c s)

-- "or answer as with no tag": as any tag does that is killed or out of the field, and nothing is stored
pub record AnsweredWithout (c : Call) (s : State) (x : Step) : Type 0 where
  pub as_an_absent_tag : (image : List ℕ) → byte image 22 ≢ 0 → take x.length x.next.output ≡ (comes_to image (code_of c s) (parameters_of c s)).0
  pub memory_stays : x.next.memory ≡ s.memory
  pub selection_stays : x.next.selection ≡ s.selection
  pub over_the_command : x.next.reader.cursor ≡ s.reader.cursor + (7 + number (rest_of c s) 3)
  pub none_to_hand_out : x.next.next ≡ 16

abbrev pub CommandsMiss : Type 0
CommandsMiss =
    (c : Call) (s : State)
    → Accepting c s
    → code_of c s ≢ 0x0C
    → lowest s.memory s.tags s.places s.selection 0 ≡ no_tag
    → AnsweredWithout c s (step c s)

-- Set Select "answers 00", and its parameters become the selection; "anything else, or the Reserved bank, is plain 17", and the selection stays. It looks at no tag.
abbrev pub select_row : List ℕ → List ℕ → List ℕ × List ℕ
select_row selection p = first_of ((taken p, (framed 0x01 0x0C (0x00 ∷ []), p)) ∷ []) (framed 0x01 0xFF (0x17 ∷ []), selection)

pub record SelectionSet (c : Call) (s : State) (x : Step) : Type 0 where
  pub frame_and_selection : (take x.length x.next.output, x.next.selection)
      ≡ select_row s.selection (parameters_of c s)
  pub memory_stays : x.next.memory ≡ s.memory
  pub over_the_command : x.next.reader.cursor ≡ s.reader.cursor + (7 + number (rest_of c s) 3)
  pub none_to_hand_out : x.next.next ≡ 16

abbrev pub SetSelect : Type 0
SetSelect = (c : Call) (s : State) → Accepting c s → code_of c s ≡ 0x0C → SelectionSet c s (step c s)

-- ---- Demand 2: each command has its effect and answer

-- The starred cases, fifteen of them, each on a crate of one tag: answer, frame and the whole state that is left
abbrev pub Starred : Type 0
Starred = (map given cases ≡ map expected cases) × (length cases ≡ 15)

-- a command that is aimed at tag n, at the place p; the frame and the image that it comes to there
abbrev pub AimedAt : Call → State → ℕ → Place → Type 0
AimedAt c s n p = Accepting c s × (lowest s.memory s.tags s.places s.selection 0 ≡ tag_at n p)

abbrev pub made_at : Place → Step → List ℕ × List ℕ
made_at p x = (take x.length x.next.output, image_of x.next.memory p)

-- "a write lands whole or not at all"; "only on the named words", and EPC word 0 kept by P4's rule
abbrev pub WriteEffect : Type 0
WriteEffect =
    (c : Call) (s : State) (n : ℕ) (p : Place)
    → AimedAt c s n p
    → code_of c s ≡ 0x49
    → Effect (image_of s.memory p) (made_at p (step c s))
    (λ new. Written (image_of s.memory p) (parameters_of c s) new (number (image_of s.memory p) 10))
    × (byte (made_at p (step c s)).0 2 ≢ 0xFF → NamedWords (image_of s.memory p) (parameters_of c s))

-- "all pairs are stored"
abbrev pub LockEffect : Type 0
LockEffect =
    (c : Call) (s : State) (n : ℕ) (p : Place)
    → AimedAt c s n p
    → code_of c s ≡ 0x82
    → Effect (image_of s.memory p) (made_at p (step c s))
    (Overwritten 20 (two_bytes (bits_of (pairs_after (image_of s.memory p) (parameters_of c s)))) (image_of s.memory p))

-- "state becomes 1"
abbrev pub KillEffect : Type 0
KillEffect =
    (c : Call) (s : State) (n : ℕ) (p : Place)
    → AimedAt c s n p
    → code_of c s ≡ 0x65
    → Effect (image_of s.memory p) (made_at p (step c s)) (Overwritten 22 (1 ∷ []) (image_of s.memory p))

-- no other call stores anything
abbrev pub NoOtherEffect : Type 0
NoOtherEffect =
    (c : Call) (s : State)
    → (Accepting c s → (code_of c s ≢ 0x49) × ((code_of c s ≢ 0x82) × (code_of c s ≢ 0x65)))
    → (step c s).next.memory ≡ s.memory

-- "Gap bytes never change.": of no tag, whichever the command is for
abbrev pub GapsStay : Type 0
GapsStay =
    (c : Call) (s : State) (j i : ℕ)
    → j < s.tags
    → 24 ≤ i
    → ((bank : ℕ)
    → bank ≤ 3
    → (i < (bank_of (view (image_of s.memory (place_of_tag s.places j))) bank).offset)
    ⊎ (end_of (bank_of (view (image_of s.memory (place_of_tag s.places j))) bank) ≤ i))
    → byte (image_of (step c s).next.memory (place_of_tag s.places j)) i ≡ byte (image_of s.memory (place_of_tag s.places j)) i

-- A pair whose permalock bit is set never changes, whatever calls come: bytes 20 and 21 of each tag's image, before and after them.
abbrev pub PermalocksStay : Type 0
PermalocksStay =
    (calls : List Call) (s : State) (j : ℕ)
    → j < s.tags
    → Permalocks (pairs (number (image_of s.memory (place_of_tag s.places j)) 20))
    (pairs (number (image_of (after calls s).memory (place_of_tag s.places j)) 20))

-- ---- The memory

-- "A command aimed at one tag leaves all bytes of the others.": nothing is stored, or it is stored at the lowest matching present tag alone
pub record StoredAt (s : State) (n : ℕ) (p : Place) (memory : List ℕ) : Type 0 where
  pub the_lowest : LowestRules s.memory s.tags s.places s.selection 0 n p
  pub same_length : length memory ≡ length s.memory
  pub other_bytes_stay : (k : ℕ) → (Holds p k → ⊥) → byte memory k ≡ byte s.memory k
  pub other_tags_stay : (j : ℕ) → j < s.tags → n ≢ j
      → image_of memory (place_of_tag s.places j) ≡ image_of s.memory (place_of_tag s.places j)

abbrev pub OneTagOnly : Type 0
OneTagOnly = (c : Call) (s : State) → ((step c s).next.memory ≡ s.memory) ⊎ ((n : ℕ) × (p : Place) × StoredAt s n p (step c s).next.memory)

-- "After every call a good image is good.": the crate and its selection, and tags and places are as they were
pub record StillGood (s t : State) : Type 0 where
  pub population : good_population s.memory s.tags s.places ≡ true → good_population t.memory t.tags t.places ≡ true
  pub selection : good_selection s.selection ≡ true → good_selection t.selection ≡ true
  pub same_tags : t.tags ≡ s.tags
  pub same_places : t.places ≡ s.places

abbrev pub GoodStaysGood : Type 0
GoodStaysGood = (calls : List Call) (s : State) → StillGood s (after calls s)

-- ---- Counts and calls

-- how many steps of a run pass a test; "An error answer is one with code FF."
unfoldable pub count : (Step → Bool) → List Step → ℕ
count test [] = 0
count test (x ∷ steps) = pick (test x) 1 0 + count test steps

unfoldable pub is_good : Step → Bool
is_good x = eqb (number_of x.outcome) 0 && not (eqb (byte x.next.output 2) 0xFF)

unfoldable pub is_error : Step → Bool
is_error x = eqb (number_of x.outcome) 0 && eqb (byte x.next.output 2) 0xFF

unfoldable pub is_dropped : ℕ → Step → Bool
is_dropped reason x = eqb (number_of x.outcome) 3 && eqb (reason_of x.outcome) reason

-- "Each answer 0 or 3 raises exactly one of them by one; nothing else does." "counts equal those at the start plus the number of such
-- calls in the history", each reason by its own
abbrev pub History : Type 0
History =
    (calls : List Call) (s : State)
    → (after calls s).reader.tally
    ≡ record {
      good = s.reader.tally.good + count is_good (run calls s);
      error = s.reader.tally.error + count is_error (run calls s);
      header = s.reader.tally.header + count (is_dropped 1) (run calls s);
      kind = s.reader.tally.kind + count (is_dropped 2) (run calls s);
      long = s.reader.tally.long + count (is_dropped 3) (run calls s);
      check = s.reader.tally.check + count (is_dropped 4) (run calls s);
      end = s.reader.tally.end + count (is_dropped 5) (run calls s);
    }

-- Each answer 0 or 3 lowers the work that is left.
unfoldable pub takes : Step → Bool
takes x = eqb (number_of x.outcome) 0 || eqb (number_of x.outcome) 3

abbrev pub WorkFalls : Type 0
WorkFalls = (input : List ℕ) (s : State) → takes (step (call input) s) ≡ true → work input (step (call input) s).next < work input s

-- the inventories among accepted commands
unfoldable pub inventories : List Command → ℕ
inventories [] = 0
inventories (m ∷ commands) = pick (eqb m.code 0x22) 1 0 + inventories commands

-- "From cursor 0 of n bytes (n at most 65,536), with a good image, an output of 136 bytes and a fresh tally, at most n calls answer 0 or 3 before one answers 1 or
-- 2." P5: "the bound on calls, from a start with none to hand out, grows by 15 for each accepted inventory". The output may also be longer.
abbrev pub Bound : Type 0
Bound =
    (input : List ℕ) (s : State)
    → length input ≤ 65536
    → s.reader ≡ fresh_reader
    → good_selection s.selection ≡ true
    → good_population s.memory s.tags s.places ≡ true
    → 136 ≤ length s.output
    → waiting s ≡ no_tag
    → (k : ℕ)
    × (k ≤ length input + 15 * inventories (accepted (replicate k (call input)) s))
    × (count takes (run (replicate k (call input)) s) ≡ k)
    × ((answer_of (call input) (after (replicate k (call input)) s) ≡ 1) ⊎ (answer_of (call input) (after (replicate k (call input)) s) ≡ 2))

-- ---- Demand 3: the log does not tell the passwords

-- "the two runs may differ in the password bytes of every tag that meets its premises .. and both runs start with the same selection and the same tags still to
-- hand out": s is the start of the one run, and the other has the memory n in its place
pub record Premises (s : State) (n : List ℕ) (differs : ℕ → Bool) (calls : List Call) (t : State) : Type 0 where
  pub first_good : good_population s.memory s.tags s.places ≡ true
  pub second_good : good_population n s.tags s.places ≡ true
  pub same_size : length s.memory ≡ length n
  pub differing : (i : ℕ) → i < s.tags → differs i ≡ true
      → MayDiffer (image_of s.memory (place_of_tag s.places i)) (image_of n (place_of_tag s.places i)) (accepted calls s) (accepted calls t)
  pub others : (i : ℕ) → i < s.tags → differs i ≡ false
      → image_of s.memory (place_of_tag s.places i) ≡ image_of n (place_of_tag s.places i)
  pub outside : (k : ℕ) → Outside s.tags s.places k → byte s.memory k ≡ byte n k

abbrev pub with_memory : State → List ℕ → State
with_memory s n = state_of n s.places s.tags s.selection s.output s.reader s.next

-- "Then every call of the list gives the same answer number and length in both runs, and leaves the same output bytes, cursor and counts." P5: "these bytes
-- stay as they were"; selection and tags still to hand out are the same after each call too. For a list of calls of any length.
abbrev pub Demand3 : Type 0
Demand3 =
    (s : State) (n : List ℕ) (differs : ℕ → Bool) (calls : List Call)
    → Premises s n differs calls (with_memory s n)
    → Throughout (SameCall s.tags s.places differs s.memory n) (run calls s) (run calls (with_memory s n))

-- The premises can be met by a crate of three tags, the first two of them with other passwords in the one run than in the other, with an inventory that is handed
-- out in full, and a Set Select, a Read, a Write, a Lock and a Kill accepted.
pub record PremisesMet (s : State) (n : List ℕ) (differs : ℕ → Bool) (calls : List Call) : Type 0 where
  pub premises : Premises s n differs calls (with_memory s n)
  pub three_tags : s.tags ≡ 3
  pub two_differ : (differs 0 ≡ true) × ((differs 1 ≡ true) × (differs 2 ≡ false))
  pub kill_differs : (i : ℕ) → i < 2
      → kill_password (image_of s.memory (place_of_tag s.places i)) ≢ kill_password (image_of n (place_of_tag s.places i))
  pub access_differs : (i : ℕ) → i < 2
      → access_password (image_of s.memory (place_of_tag s.places i)) ≢ access_password (image_of n (place_of_tag s.places i))
  pub handed_out : handed calls s ≡ 1 ∷ 2 ∷ []
  pub six_commands : map (λ m. m.code) (accepted calls s) ≡ 0x22 ∷ 0x0C ∷ 0x39 ∷ 0x49 ∷ 0x82 ∷ 0x65 ∷ []
  pub select_taken : (after calls s).selection ≢ s.selection

abbrev pub Demand3CanBeMet : Type 0
Demand3CanBeMet = (s : State) × (n : List ℕ) × (differs : ℕ → Bool) × (calls : List Call) × PremisesMet s n differs calls
