-- The claims page of the population: what P5 says of a crate of tags, of Set Select and of its match, of the tag that a command goes to and of the bytes
-- that it leaves, once more and over raw numbers and bytes. Of this crate's definitions it cites only those that it claims of: `good_population`, `taken`,
-- `good_selection`, `matches`, `lowest` and `ExecutionAt`. `good`, and `Execution`, which `execute` promises of one image, have claims of their own.
-- Each statement is proved in proofs/Claimed.antt.
use Rattle.std.specs.Prelude.{ℕ, ◌+◌, ◌-◌, ◌*◌, ◌/◌, ◌%◌, ◌^◌, ◌≤◌, ◌<◌, Bool, true, false, List, [], ◌∷◌, ◌⊎◌, ◌↔◌, ◌≢◌, ◌≡◌, eqb, length, get_or}
use Rattle.execution.specs.Execution.{Execution}
use Rattle.execution.specs.declared.execute.Executed.{Executed}
use Rattle.execution.specs.declared.execute.Executed.TheVariants.{Refused}
use Rattle.frame.specs.Bytes.{first_of, byte, double, part}
use Rattle.image.specs.Image.{good}
use Rattle.tag.specs.Claims.{words_of, offset_of}
use Rattle.population.specs.Executing.{ExecutionAt}
use Rattle.population.specs.Lowest.{lowest, no_tag, tag_at}
use Rattle.population.specs.Matching.{matches}
use Rattle.population.specs.Places.{good_population}
use Rattle.population.specs.Selections.{taken, good_selection}
use Rattle.population.specs.declared.places.Place.{Place}

-- ---- "A crate holds up to 16 tags, each with its place in one lent memory and its own image"

-- the place of tag i, whether byte k of the memory is in a place, and the bytes there
abbrev pub place_of_tag : List Place → ℕ → Place
place_of_tag places i = get_or places i record { from = 0; size = 0 }

abbrev pub Holds : Place → ℕ → Type 0
Holds p k = (p.from ≤ k) × (k < p.from + p.size)

abbrev pub image_of : List ℕ → Place → List ℕ
image_of memory p = part memory p.from p.size

pub record PopulationRules (memory : List ℕ) (tags : ℕ) (places : List Place) : Type 0 where
  -- "up to 16 tags"
  pub up_to_16 : tags ≤ 16
  -- "places that .. leave the memory": the sum is the true one, also where it has more than 32 bits
  pub inside_the_memory : (i : ℕ) → i < tags → (place_of_tag places i).from + (place_of_tag places i).size ≤ length memory
  -- "places that overlap": no byte is in two of them
  pub no_overlap : (i j : ℕ) → i < tags → j < tags → i ≢ j → (k : ℕ) → Holds (place_of_tag places i) k → Holds (place_of_tag places j) k → ⊥
  -- "a bad image"
  pub images_good : (i : ℕ) → i < tags → good (image_of memory (place_of_tag places i)) ≡ true

-- "more tags, places that overlap or leave the memory, a bad image .. make it bad", and nothing else does
abbrev pub GoodPopulations : Type 0
GoodPopulations = (memory : List ℕ) (tags : ℕ) (places : List Place) → good_population memory tags places ≡ true ↔ PopulationRules memory tags places

-- ---- "Set Select 0x0C comes in, laid out as source document 001 gives it"

-- "SelParam (top bits first: target 000, action 000, or 100 to turn the match round, bank)", without "the Reserved bank"
abbrev pub listed : ℕ → Bool
listed parameter =
    first_of
    -- 000 000 01, 000 000 10, 000 000 11
    ((eqb parameter 0x01, true)
    ∷ (eqb parameter 0x02, true)
    ∷ (eqb parameter 0x03, true)
    -- 000 100 01, 000 100 10, 000 100 11
    ∷ (eqb parameter 0x11, true)
    ∷ (eqb parameter 0x12, true)
    ∷ (eqb parameter 0x13, true)
    ∷ [])
    false

-- SelParam (1), bit pointer (4), mask length (1), truncate (1), the mask
pub record SelectRules (s : List ℕ) : Type 0 where
  pub parameter_listed : listed (byte s 0) ≡ true
  -- "mask length in bits, truncate 0"
  pub truncate_0 : byte s 6 ≡ 0
  -- "the mask in whole bytes, spare last bits": its bits have room behind the first seven bytes, and would not with a byte less
  pub seven_bytes_first : 7 ≤ length s
  pub bits_have_room : byte s 5 ≤ 8 * (length s - 7)
  pub fewer_than_8_spare : 8 * (length s - 7) < byte s 5 + 8

-- "anything else, or the Reserved bank, is plain 17"; "a selection that is neither empty nor one that Set Select takes" is bad
abbrev pub TakenSelections : Type 0
TakenSelections = (s : List ℕ) → taken s ≡ true ↔ SelectRules s

abbrev pub GoodSelections : Type 0
GoodSelections = (s : List ℕ) → good_selection s ≡ true ↔ (length s ≡ 0) ⊎ SelectRules s

-- ---- which tags match

-- bit j of the bytes from `from` on, the highest bit of a byte first
abbrev pub bit_from : List ℕ → ℕ → ℕ → ℕ
bit_from bytes from j = byte bytes (from + j / 8) / 2 ^ (7 - j % 8) % 2

-- "one that runs past the end of the bank does not [match]": a word of the bank has 16 bits; "spare last bits not looked at": only bits below the mask length
pub record MaskThere (image s : List ℕ) (bank : ℕ) : Type 0 where
  pub not_past_the_end : double s 1 + byte s 5 ≤ 16 * words_of image bank
  pub every_bit : (k : ℕ) → k < byte s 5 → bit_from image (offset_of image bank) (double s 1 + k) ≡ bit_from s 7 k

-- "An empty mask matches every tag", whatever the pointer
abbrev pub Found : List ℕ → List ℕ → ℕ → Type 0
Found image s bank = (byte s 5 ≡ 0) ⊎ MaskThere image s bank

pub record MatchRules (image s : List ℕ) : Type 0 where
  -- the selection "starts empty": then every tag matches
  pub empty_selection : length s ≡ 0 → matches image s ≡ true
  -- SelParam 000 000 and the bank; 000 100 and the bank: "the turn comes last"
  pub as_it_is : (bank : ℕ) → 1 ≤ bank → bank ≤ 3 → byte s 0 ≡ bank → matches image s ≡ true ↔ Found image s bank
  pub turned_round : (bank : ℕ) → 1 ≤ bank → bank ≤ 3 → byte s 0 ≡ 0x10 + bank → matches image s ≡ true ↔ (Found image s bank → ⊥)

abbrev pub MatchingTags : Type 0
MatchingTags = (image s : List ℕ) → MatchRules image s

-- ---- "the lowest-numbered present tag that matches"

-- "22 | 0 present", and it matches
abbrev pub Candidate : List ℕ → List Place → List ℕ → ℕ → Type 0
Candidate memory places s i = (byte (image_of memory (place_of_tag places i)) 22 ≡ 0) × (matches (image_of memory (place_of_tag places i)) s ≡ true)

pub record LowestRules (memory : List ℕ) (tags : ℕ) (places : List Place) (s : List ℕ) (start n : ℕ) (p : Place) : Type 0 where
  pub from_the_start_on : start ≤ n
  pub one_of_the_tags : n < tags
  pub at_its_place : p ≡ place_of_tag places n
  pub present_and_matching : Candidate memory places s n
  pub none_before : (i : ℕ) → start ≤ i → i < n → Candidate memory places s i → ⊥

abbrev pub LowestTag : Type 0
LowestTag =
    (memory : List ℕ) (tags : ℕ) (places : List Place) (s : List ℕ) (start : ℕ)
    → good_population memory tags places ≡ true
    → ((n : ℕ) (p : Place) → lowest memory tags places s start ≡ tag_at n p ↔ LowestRules memory tags places s start n p)
    × (lowest memory tags places s start ≡ no_tag ↔ ((i : ℕ) → start ≤ i → i < tags → Candidate memory places s i → ⊥))

-- ---- "A command aimed at one tag leaves all bytes of the others."

pub record OnePlace (memory : List ℕ) (place : Place) (output : List ℕ) (code : ℕ) (p memory_left output_left : List ℕ) (result : Executed) : Type 0 where
  pub length_stays : length memory_left ≡ length memory
  pub other_bytes_stay : (k : ℕ) → (Holds place k → ⊥) → byte memory_left k ≡ byte memory k
  -- in the place happens what `execute` promises of an image that stands alone
  pub executed_there : place.from + place.size ≤ length memory
      → Execution (image_of memory place) output code p (image_of memory_left place) output_left result
  pub else_refused : length memory < place.from + place.size → (memory_left ≡ memory) × ((output_left ≡ output) × (result ≡ Refused))

abbrev pub CommandAtOnePlace : Type 0
CommandAtOnePlace =
    (memory : List ℕ) (place : Place) (output : List ℕ) (code : ℕ) (p memory_left output_left : List ℕ) (result : Executed)
    → ExecutionAt memory place output code p memory_left output_left result
    → OnePlace memory place output code p memory_left output_left result

-- the others are the tags of a good population at all other numbers
abbrev pub OthersStay : Type 0
OthersStay =
    (memory : List ℕ) (tags : ℕ) (places : List Place)
    → good_population memory tags places ≡ true
    → (i j : ℕ)
    → i < tags
    → j < tags
    → i ≢ j
    → (output : List ℕ) (code : ℕ) (p memory_left output_left : List ℕ) (result : Executed)
    → ExecutionAt memory (place_of_tag places i) output code p memory_left output_left result
    → image_of memory_left (place_of_tag places j) ≡ image_of memory (place_of_tag places j)
