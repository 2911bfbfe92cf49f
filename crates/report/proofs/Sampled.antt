-- What is computed: document 01's sample report and the image behind it, and the reports on an empty image and on no tag.
use mathlib.Core.Path.{refl}
use Rattle.machine.proofs.Computed.{opened as machine}
use Rattle.machine.specs.Machine.{bytes_left, tags_left, work, after}
use Rattle.report.specs.Claims.{SampleReport, SampleImage, EmptyImage, EmptyCrate}
use Rattle.report.specs.Lines.{drop_word, too_long_line, drop_line, separator, frame_line, line_for, line_of, ends}
use Rattle.report.specs.Report.{steps_by, steps, steps_from, lines_of, report_from, last_state, any_long, too_long, place_in, laid_out, places_of, fresh, report_of}
use Rattle.text.specs.Counts.{good_word, error_word, dropped_word, space_word, left_word, refused_word, count_part, two_counts, tally_part, counts_line, refused_line}
use Rattle.text.specs.Digits.{hex_digit, hex_byte, width_by, width, digits, decimal}

-- all that the report is made of beside the machine, opened at once
opened : Unit {0}
unfolding machine bytes_left tags_left work hex_digit hex_byte width_by width digits decimal drop_word good_word error_word dropped_word space_word left_word refused_word too_long_line drop_line separator frame_line count_part two_counts tally_part counts_line refused_line line_for line_of ends steps_by steps steps_from lines_of report_from any_long too_long place_in laid_out places_of fresh report_of
opened = tt

pub sample_report : SampleReport
unfolding opened
sample_report = refl

pub sample_image : SampleImage
unfolding opened last_state after
sample_image = refl

pub empty_image : EmptyImage
unfolding opened
empty_image = refl

pub empty_crate : EmptyCrate
unfolding opened
empty_crate = refl
