-- All that a command on one tag is made of, opened at once for what is computed.
use Rattle.crc.specs.Crc.{leaving, shifted, added, bit_step, bit_steps, entered, byte_step, crc, tag_crc}
use Rattle.effects.specs.Secrecy.{passwords_at, carries, carries_none, none_carries}
use Rattle.frame.specs.Bytes.{pick, all, byte, number, double, bytes_of, part}
use Rattle.frame.specs.Finding.{find}
use Rattle.frame.specs.Formats.{code_in, pl_in, parameters_in, sum_right, last_right}
use Rattle.frame.specs.Frames.{sum, check_of, checked, frame_of, frame_length, longest_command, longest_answer, written}
use Rattle.tag.specs.Answers.{tail, answer, crc_kept, changed, is_error}
use Rattle.tag.specs.Errors.{plain_byte, tag_byte}
use Rattle.tag.specs.Commands.{password_in, bank_in, pointer_in, count_in, data_in, ld_in, aim_right, parse_inventory, parse_read, parse_write, parse_lock, parse_kill, parse, gone, if_present, admitted, of_tag, outside, inventory_verdict, read_act, read_verdict, names_crc, length_broken, write_act, write_verdict, lock_act, lock_verdict, kill_act, kill_verdict, verdict, act_of}
use Rattle.image.specs.Image.{bank_at, view, rssi, bank_of, word_at, end_of, epc_length, kill_password, access_password, crc_word, with_crc, good_header, good_banks, good_tag, good_crc, good, pc_and_epc}
use Rattle.tag.specs.Locks.{pairs, bits_of, permalocked, standing_of, standing, is_secured, is_wrong, kill_standing_of, kill_standing, allows, touches, may_touch_passwords, may_read, may_write, refuses_pair, new_bit, masked_pair, new_pair, new_pairs, refuses_lock}

unfoldable pub everything : Unit {0}
unfolding written leaving shifted added bit_step bit_steps entered byte_step crc tag_crc pick all byte number double bytes_of part code_in pl_in parameters_in sum_right last_right find sum check_of checked frame_of frame_length longest_command longest_answer pc_and_epc tail answer crc_kept changed is_error password_in bank_in pointer_in count_in data_in ld_in aim_right parse_inventory parse_read parse_write parse_lock parse_kill parse gone if_present admitted of_tag plain_byte tag_byte outside inventory_verdict read_act read_verdict names_crc length_broken write_act write_verdict lock_act lock_verdict kill_act kill_verdict verdict act_of bank_at view rssi bank_of word_at end_of epc_length kill_password access_password crc_word with_crc good_header good_banks good_tag good_crc good pairs bits_of permalocked standing_of standing is_secured is_wrong kill_standing_of kill_standing allows touches may_touch_passwords may_read may_write refuses_pair new_bit masked_pair new_pair new_pairs refuses_lock passwords_at carries carries_none none_carries
everything = tt
