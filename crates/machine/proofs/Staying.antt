-- What a step leaves in the memory: one image is replaced at most, by a good one of its size.
use Prim.Native.Nat.{ℕ, ◌+◌, ◌<◌}
use lib.Dec.{eqb}
use lib.ListN.{length, take, drop, take-append-drop}
use lib.Seq.{sets-eq, drop-drop}
use mathlib.Core.Bool.{Bool, true}
use mathlib.Core.List.{List, [], ◌∷◌, ◌++◌, append_assoc}
use mathlib.Core.Logic.{◌⊎◌, ◌≢◌, inl, inr}
use mathlib.Core.Path.{◌≡◌, refl, ap, sym, subst, ◌∙◌}
use native.Mathlib.Omega.{arith}
use Rattle.std.specs.Prelude.{Ok}
use Rattle.machine.proofs.Lowests.{TheLowest}
use Rattle.machine.proofs.Steps.{Tested, found_tag, hand_out_at, command_at, step_cases}
use Rattle.machine.specs.Claims.{StoredAt, OneTagOnly, StillGood, GoodStaysGood}
use Rattle.machine.specs.Machine.{State, Call, Step, waiting, unchanged, dropped, told, selecting, missed, image_for, act_for, acted, aimed, input_of, step, after}
use Rattle.machine.specs.declared.deciding.Aimed.{Aimed}
use Rattle.frame.proofs.Copies.{length_part_inside}
use Rattle.frame.proofs.Picks.{pick_true, pick_false, by_test}
use Rattle.frame.specs.Bytes.{byte, part}
use Rattle.image.specs.Image.{view}
use Rattle.population.proofs.Claimed.{lowest_tag}
use Rattle.population.proofs.Executes.{inside_there, image_length}
use Rattle.population.proofs.GoodPopulations.{PopulationFacts, population_facts, population_holds, good_still, other_still}
use Rattle.population.proofs.Images.{length_replaced, byte_outside}
use Rattle.population.proofs.OnePlace.{length_changed}
use Rattle.population.specs.Claims.{Holds}
use Rattle.population.specs.Executing.{replaced}
use Rattle.population.specs.Lowest.{selected_image, selected, selected_at}
use Rattle.population.specs.Places.{place_at, inside, image_at, good_population}
use Rattle.population.specs.Selections.{taken, good_selection}
use Rattle.population.specs.declared.places.Place.{Place}
use Rattle.tag.proofs.StaysGood.{stays_good}
use Rattle.tag.specs.Answers.{changed}
use Rattle.tag.specs.Commands.{parse, parse_inventory, gone, if_present, inventory_verdict, verdict, act_of}
use Rattle.tag.specs.Errors.{Verdict}
use Rattle.tag.specs.declared.commands.Act.TheVariants.{Notify}
use borrow.Author.Tests.{eqb-true}
use Rattle.frame.proofs.Tests.{and_left, and_right}

-- an image put back where it stood
pub replaced_same : (memory : List ℕ) (p : Place) → inside memory p ≡ true → replaced memory p (image_at memory p) ≡ memory
unfolding replaced image_at part
replaced_same memory p h =
    let there = inside_there memory p h in
    let whole : length (part memory p.from p.size) ≡ p.size = length_part_inside memory p.from p.size there in
    sets-eq (part memory p.from p.size) memory p.from (omega arith)
    ∙ append_assoc (take p.from memory) (part memory p.from p.size) (drop (p.from + length (part memory p.from p.size)) memory)
    ∙ ap (λ (l : List ℕ). take p.from memory ++ (part memory p.from p.size ++ l))
    (ap (λ (k : ℕ). drop (p.from + k) memory) whole ∙ sym (drop-drop p.size p.from memory))
    ∙ ap (λ (l : List ℕ). take p.from memory ++ l) (take-append-drop p.size (drop p.from memory))
    ∙ take-append-drop p.from memory

-- a present tag answers an inventory with its notification
pub present_notifies : (image : List ℕ) → byte image 22 ≡ 0 → act_of image 0x22 [] ≡ Ok Notify
unfolding act_of parse parse_inventory verdict inventory_verdict if_present gone view
present_notifies image h = simp (h, pick_true, pick_false)

-- ---- a command for one tag

module _ (s : State) (a : Aimed) (p : List ℕ) (g : good_population s.memory s.tags s.places ≡ true) (h : a.number < s.tags)
    (here : a.place ≡ place_at s.places a.number) where
  abbrev facts : PopulationFacts s.memory s.tags s.places
  facts = population_facts s.memory s.tags s.places g

  abbrev image : List ℕ
  image = image_at s.memory (place_at s.places a.number)

  abbrev new : List ℕ
  new = changed image p (act_of image a.code p)

  pub memory_is : (aimed s a p).next.memory ≡ replaced s.memory (place_at s.places a.number) new
  unfolding aimed acted act_for image_for
  memory_is =
      ap (λ (q : Place). replaced s.memory q (changed (image_at s.memory q) p (act_of (image_at s.memory q) a.code p))) here

  size_is : length new ≡ (place_at s.places a.number).size
  size_is = length_changed image p (act_of image a.code p) ∙ image_length s.memory _ (facts.within a.number h)

  pub aimed_good : good_population (aimed s a p).next.memory s.tags s.places ≡ true
  aimed_good =
      ap (λ (m : List ℕ). good_population m s.tags s.places) memory_is
      ∙ population_holds _ s.tags s.places
      (good_still s.memory s.tags s.places facts a.number h new size_is (stays_good image p a.code (facts.images a.number h)))

  pub aimed_length : length (aimed s a p).next.memory ≡ length s.memory
  aimed_length = ap (λ (m : List ℕ). length m) memory_is ∙ length_replaced s.memory _ new size_is

  pub aimed_outside : (k : ℕ) → (Holds a.place k → ⊥) → byte (aimed s a p).next.memory k ≡ byte s.memory k
  aimed_outside k out =
      ap (λ (m : List ℕ). byte m k) memory_is
      ∙ byte_outside s.memory (place_at s.places a.number) new size_is k (subst (λ (q : Place). Holds q k → ⊥) here out)

  pub aimed_others : (j : ℕ) → j < s.tags → a.number ≢ j
      → image_at (aimed s a p).next.memory (place_at s.places j) ≡ image_at s.memory (place_at s.places j)
  aimed_others j l d =
      ap (λ (m : List ℕ). image_at m (place_at s.places j)) memory_is
      ∙ other_still s.memory s.tags s.places facts a.number h new size_is j l d

  pub aimed_still : StillGood s (aimed s a p).next
  unfolding aimed acted
  aimed_still = record { population = λ _. aimed_good; selection = λ g. g; same_tags = refl; same_places = refl }

-- ---- handing a tag out stores nothing

pub selected_present : (memory selection : List ℕ) (places : List Place) (n : ℕ) → selected_at memory selection places n ≡ true
    → byte (image_at memory (place_at places n)) 22 ≡ 0
unfolding selected_at selected selected_image
selected_present memory selection places n h =
    let image : List ℕ = image_at memory (place_at places n) in
    eqb-true (byte image 22) 0 (and_left _ _ (and_right (inside memory (place_at places n)) (selected_image selection image) h))

module _ (input : List ℕ) (s : State) (t : Tested input s) (n : ℕ) (p : Place)
    (tag : TheLowest s.memory s.tags s.places s.selection s.next n p) where
  pub hand_out_notifies : act_for s (hand_out_at s n p) [] ≡ Ok Notify
  unfolding act_for image_for
  hand_out_notifies =
      present_notifies (image_at s.memory p)
      (subst (λ (q : Place). byte (image_at s.memory q) 22 ≡ 0) (sym tag.at_place)
      (selected_present s.memory s.selection s.places n tag.passes))

  pub hand_out_stores_nothing : (aimed s (hand_out_at s n p) []).next.memory ≡ s.memory
  unfolding aimed acted image_for changed
  hand_out_stores_nothing =
      let facts = population_facts s.memory s.tags s.places t.population_good in
      ap (λ (act : Verdict). replaced s.memory p (changed (image_at s.memory p) [] act)) hand_out_notifies
      ∙ replaced_same s.memory p (subst (λ (q : Place). inside s.memory q ≡ true) (sym tag.at_place) (facts.within n tag.one_of))

-- ---- Set Select leaves memory, tags and places, and a good selection

module _ (s : State) (p : List ℕ) (behind : ℕ) where
  pub selecting_memory : (selecting s p behind).next.memory ≡ s.memory
  unfolding selecting told
  selecting_memory = by_test (λ (x : Step). x.next.memory ≡ s.memory) (taken p) (λ _. refl) (λ _. refl)

  taken_good : taken p ≡ true → good_selection p ≡ true
  unfolding good_selection
  taken_good h = by_test (λ (b : Bool). b ≡ true) (eqb (length p) 0) (λ _. refl) (λ _. h)

  selecting_good : StillGood s (selecting s p behind).next
  unfolding selecting told
  selecting_good =
      by_test (λ (x : Step). StillGood s x.next) (taken p)
      (λ h. record { population = λ g. g; selection = λ g. taken_good h; same_tags = refl; same_places = refl })
      (λ h. record { population = λ g. g; selection = λ g. g; same_tags = refl; same_places = refl })

-- ---- the claims

pub one_tag_only : OneTagOnly
unfolding unchanged dropped missed told waiting place_at image_at
one_tag_only c s =
    step_cases c s (λ (x : Step). (x.next.memory ≡ s.memory) ⊎ ((n : ℕ) × (p : Place) × StoredAt s n p x.next.memory)) (λ o m n. inl refl)
    (λ t n p e. inl (hand_out_stores_nothing (input_of c) s t n p (found_tag (input_of c) s t s.next n p e)))
    (λ t none r found some. inl refl)
    (λ pl a code. inl (selecting_memory s _ _))
    (λ pl a code none. inl refl)
    (λ pl a code n p e.
    let tag = found_tag (input_of c) s a.tested 0 n p e in
    let g = a.tested.population_good in
    inr (
      n,
      p,
      record {
        the_lowest = ((lowest_tag s.memory s.tags s.places s.selection 0 g).0 n p).0 e;
        same_length = aimed_length s _ _ g tag.one_of tag.at_place;
        other_bytes_stay = aimed_outside s _ _ g tag.one_of tag.at_place;
        other_tags_stay = aimed_others s _ _ g tag.one_of tag.at_place;
      },
    ))

stays_as_it_is : (s : State) → StillGood s s
stays_as_it_is s = record { population = λ g. g; selection = λ g. g; same_tags = refl; same_places = refl }

pub step_good : (c : Call) (s : State) → StillGood s (step c s).next
unfolding unchanged dropped missed told waiting
step_good c s =
    step_cases c s (λ (x : Step). StillGood s x.next) (λ o m n. stays_as_it_is s)
    (λ t n p e. aims_good (hand_out_at s n p) [] t.population_good (found_tag (input_of c) s t s.next n p e))
    (λ t none r found some. record { population = λ g. g; selection = λ g. g; same_tags = refl; same_places = refl })
    (λ pl a code. selecting_good s _ _)
    (λ pl a code none. record { population = λ g. g; selection = λ g. g; same_tags = refl; same_places = refl })
    (λ pl a code n p e.
    aims_good (command_at (input_of c) s pl n p) _ a.tested.population_good (found_tag (input_of c) s a.tested 0 n p e))
  where
    aims_good : {start : ℕ} (a : Aimed) (p : List ℕ) → good_population s.memory s.tags s.places ≡ true
        → TheLowest s.memory s.tags s.places s.selection start a.number a.place → StillGood s (aimed s a p).next
    aims_good a p good tag = aimed_still s a p good tag.one_of tag.at_place

pub good_stays_good : GoodStaysGood
unfolding after
good_stays_good [] s = stays_as_it_is s
good_stays_good (c ∷ calls) s =
    let first : StillGood s (step c s).next = step_good c s in
    let rest : StillGood (step c s).next (after calls (step c s).next) = good_stays_good calls (step c s).next in
    record {
      population = λ g. rest.population (first.population g);
      selection = λ g. rest.selection (first.selection g);
      same_tags = rest.same_tags ∙ first.same_tags;
      same_places = rest.same_places ∙ first.same_places;
    }
