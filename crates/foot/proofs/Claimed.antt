-- Every claim of specs/Claims.antt holds.
use Rattle.foot.proofs.LinesOfFoot as LinesOfFoot
use Rattle.foot.specs.Claims.{FootLines, WhatWaits, EndsBy}

pub foot_lines : FootLines
foot_lines = LinesOfFoot.foot_lines

pub what_waits : WhatWaits
what_waits = LinesOfFoot.what_waits

pub ends_by : EndsBy
ends_by = LinesOfFoot.ends_by
