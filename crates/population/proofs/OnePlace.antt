-- A command at one place changes no byte outside it.
use Prim.Native.Nat.{ℕ}
use lib.Dec.{eqb}
use lib.ListN.{length}
use lib.Seq.{length-sets}
use mathlib.Core.Bool.{true, false, true≢false}
use mathlib.Core.List.{List}
use mathlib.Core.Path.{◌≡◌, refl, ap, sym, ◌∙◌}
use native.Mathlib.Omega.{arith}
use Rattle.std.specs.Prelude.{Ok, Err}
use Rattle.execution.specs.Execution.{executable, image_after, Execution}
use Rattle.execution.specs.declared.execute.Executed.{Executed}
use Rattle.frame.proofs.Copies.{there_reaches}
use Rattle.frame.proofs.Picks.{pick_true, pick_false, by_test}
use Rattle.frame.proofs.Tests.{either}
use Rattle.frame.specs.Bytes.{byte}
use Rattle.image.specs.Image.{with_crc}
use Rattle.tag.specs.Answers.{crc_kept, changed}
use Rattle.tag.specs.Commands.{bank_in, act_of}
use Rattle.tag.specs.Errors.{Verdict}
use Rattle.tag.specs.declared.commands.Act.TheVariants.{Notify, Give, Store, Set}
use Rattle.population.proofs.Executes.{inside_there, image_length}
use Rattle.population.proofs.GoodPopulations.{population_facts}
use Rattle.population.proofs.Images.{length_replaced, image_same, image_other, byte_outside}
use Rattle.population.specs.Claims.{OnePlace, CommandAtOnePlace, OthersStay}
use Rattle.population.specs.Executing.{replaced, ExecutionAt}
use Rattle.population.specs.Places.{place_at, inside, image_at, apart}
use Rattle.population.specs.declared.places.Place.{Place}

-- ---- a command keeps the length of its image

pub length_changed : (image p : List ℕ) (act : Verdict) → length (changed image p act) ≡ length image
unfolding changed crc_kept with_crc
length_changed image p (Err refusal) = refl
length_changed image p (Ok Notify) = refl
length_changed image p (Ok (Give at n)) = refl
length_changed image p (Ok (Store at)) =
    by_test (λ (l : List ℕ). length l ≡ length image) (eqb (bank_in p) 1) (λ _. simp length-sets) (λ _. simp length-sets)
length_changed image p (Ok (Set code at count value)) = simp length-sets

pub length_after : (image output : List ℕ) (code : ℕ) (p : List ℕ) → length (image_after image output code p) ≡ length image
unfolding image_after
length_after image output code p =
    by_test (λ (l : List ℕ). length l ≡ length image) (executable image output p (act_of image code p))
    (λ _. length_changed image p (act_of image code p))
    (λ _. refl)

-- ---- the memory

module _ (memory : List ℕ) (place : Place) (output : List ℕ) (code : ℕ) (p memory_left output_left : List ℕ) (result : Executed)
    (e : ExecutionAt memory place output code p memory_left output_left result) where
  -- the image that is left
  new : List ℕ
  new = image_after (image_at memory place) output code p

  module _ (h : inside memory place ≡ true) where
    memory_there : memory_left ≡ replaced memory place new
    unfolding new
    memory_there = e.memory_is ∙ simp (h, pick_true)

    new_size : length new ≡ place.size
    unfolding new
    new_size = length_after (image_at memory place) output code p ∙ image_length memory place h

    image_there : image_at memory_left place ≡ new
    image_there = ap (λ (l : List ℕ). image_at l place) memory_there ∙ image_same memory place new new_size (inside_there memory place h)

    ran : Execution (image_at memory place) output code p (image_at memory_left place) output_left result
    unfolding new
    ran =
        record {
          image_is = image_there;
          output_is = e.output_is ∙ simp (h, pick_true);
          result_is = e.result_is ∙ simp (h, pick_true);
        }

    other_there : (q : Place) → apart place q ≡ true → image_at memory_left q ≡ image_at memory q
    other_there q away = ap (λ (l : List ℕ). image_at l q) memory_there ∙ image_other memory place new new_size q away

    executed : OnePlace memory place output code p memory_left output_left result
    unfolding image_at
    executed =
        record {
          length_stays = ap length memory_there ∙ length_replaced memory place new new_size;
          other_bytes_stay = λ k out. ap (λ (l : List ℕ). byte l k) memory_there ∙ byte_outside memory place new new_size k out;
          executed_there = λ _. ran;
          else_refused = λ l. absurd (omega (arith, inside_there memory place h));
        }

  module _ (h : inside memory place ≡ false) where
    memory_kept : memory_left ≡ memory
    memory_kept = e.memory_is ∙ simp (h, pick_false)

    not_executed : OnePlace memory place output code p memory_left output_left result
    unfolding inside
    not_executed =
        record {
          length_stays = ap length memory_kept;
          other_bytes_stay = λ k _. ap (λ (l : List ℕ). byte l k) memory_kept;
          executed_there = λ l. absurd (true≢false (sym (there_reaches memory place.from place.size l) ∙ h));
          else_refused = λ _. (memory_kept, (e.output_is ∙ simp (h, pick_false), e.result_is ∙ simp (h, pick_false)));
        }

pub command_at_one_place : CommandAtOnePlace
command_at_one_place memory place output code p memory_left output_left result e =
    either (inside memory place) (executed memory place output code p memory_left output_left result e)
    (not_executed memory place output code p memory_left output_left result e)

pub others_stay : OthersStay
unfolding place_at image_at
others_stay memory tags places good i j h l d output code p memory_left output_left result e =
    let g = population_facts memory tags places good in
    other_there memory (place_at places i) output code p memory_left output_left result e (g.within i h) (place_at places j) (g.apart_all i j h l d)
