-- All that the machine is made of, opened at once for what is computed.
use Rattle.effects.proofs.Computed.{everything as one_tag}
use Rattle.machine.specs.Machine.{counted, code_at, parameters_at, error_without, aim_job, command_job, found_job, find_job, hand_out, waiting, decide, unchanged, dropped, told, selecting, missed, next_after, image_for, act_for, acted, aimed, carried_out, input_of, rest_of, step, run}
use Rattle.machine.specs.Secrecy.{is_none, accepted_by, accepted}
use Rattle.population.specs.Below.{all_below}
use Rattle.population.specs.Executing.{replaced}
use Rattle.population.specs.Lowest.{selected_image, selected, selected_at, first_tag, lowest}
use Rattle.population.specs.Matching.{bit_at, bits_from, same_bit, same_bits, mask_found, matches}
use Rattle.population.specs.Places.{place_at, inside, image_at, apart, apart_from, apart_below, good_at, good_population}
use Rattle.population.specs.Selections.{target_of, action_of, mask_bank, mask_pointer, mask_bits, truncate_of, mask_bytes, taken, good_selection}
use Rattle.frame.specs.Bytes.{reaches}
use Rattle.reader.specs.Outcomes.{number_of}
use Rattle.reader.specs.Tallies.{limit, any_at_limit, full, raised, with_dropped}

unfoldable pub opened : Unit {0}
unfolding one_tag limit any_at_limit full raised with_dropped number_of counted code_at parameters_at error_without aim_job command_job found_job find_job hand_out waiting decide unchanged dropped told selecting missed next_after image_for act_for acted aimed carried_out input_of rest_of step run is_none accepted_by accepted all_below replaced selected_image selected selected_at first_tag lowest bit_at bits_from same_bit same_bits mask_found matches place_at inside image_at apart apart_from apart_below good_at good_population target_of action_of mask_bank mask_pointer mask_bits truncate_of mask_bytes taken good_selection reaches
opened = tt
