-- The lines of the foot.
use borrow.Author.Tests.{le-leb, lt-leb}
use mathlib.Core.Path.{refl}
use Rattle.frame.proofs.Picks.{pick_true, pick_false}
use Rattle.frame.specs.Bytes.{pick}
use Rattle.foot.specs.Claims.{FootLines, WhatWaits, EndsBy}
use Rattle.foot.specs.Foot.{failures_line, name_line, end_line, signature_lines, waiting_rows, foot, end_for}
use Rattle.reader.specs.Outcomes.{number_of}
use Rattle.text.specs.Counts.{refused_word, count_part, refused_line}
use Rattle.text.specs.Digits.{width_by, width, digits, decimal}

pub foot_lines : FootLines
unfolding foot failures_line count_part signature_lines name_line end_line
foot_lines input reader items = refl

pub what_waits : WhatWaits
unfolding waiting_rows
what_waits cursor size =
    record { none = λ h. rw (le-leb size cursor h, pick_true); some = λ h. rw (lt-leb size cursor h, pick_false) }

pub ends_by : EndsBy
unfolding end_for number_of refused_line refused_word count_part decimal digits width width_by pick
ends_by input reader items =
    record {
      answered = refl;
      dropped = λ r. refl;
      at_end = refl;
      incomplete = refl;
      past_end = refl;
      bad_image = refl;
      short_output = refl;
      full_tally = refl;
      full_list = refl;
    }
