-- A proof of every statement on the claims page, specs/Claims.antt, in its order.
use Rattle.report.proofs.Counted as Counted
use Rattle.report.proofs.Laid as Laid
use Rattle.report.proofs.LinesOfCalls as LinesOfCalls
use Rattle.report.proofs.NotRun as NotRun
use Rattle.report.proofs.Sampled as Sampled
use Rattle.report.proofs.Together as Together
use Rattle.report.proofs.Whole as Whole
use Rattle.report.specs.Claims.{SampleReport, SampleImage, EmptyImage, EmptyCrate, GoodFiles, TooLongReport, LongFiles, UnreadableReport, NoticeAlone, RunPrinted, FrameLines, DropLines, CountLines, RefusedLines, LineByLine, GoodCrateReport, BadCrateReport, CountsAreLines, BytesAddUp, PieceByPiece, ShortBuffer, NothingLeft, PiecesAreTheReport, EnoughPieces}

pub sample_report : SampleReport
sample_report = Sampled.sample_report

pub sample_image : SampleImage
sample_image = Sampled.sample_image

pub empty_image : EmptyImage
empty_image = Sampled.empty_image

pub empty_crate : EmptyCrate
empty_crate = Sampled.empty_crate

pub good_files : GoodFiles
good_files = Laid.good_files

pub too_long_report : TooLongReport
too_long_report = Whole.too_long_report

pub long_files : LongFiles
long_files = NotRun.long_files

pub unreadable_report : UnreadableReport
unreadable_report = NotRun.unreadable_report

pub notice_alone : NoticeAlone
notice_alone = NotRun.notice_alone

pub run_printed : RunPrinted
run_printed = NotRun.run_printed

pub frame_lines : FrameLines
frame_lines = LinesOfCalls.frame_lines

pub drop_lines : DropLines
drop_lines = LinesOfCalls.drop_lines

pub count_lines : CountLines
count_lines = LinesOfCalls.count_lines

pub refused_lines : RefusedLines
refused_lines = LinesOfCalls.refused_lines

pub line_by_line : LineByLine
line_by_line = Whole.line_by_line

pub good_crate_report : GoodCrateReport
good_crate_report = Whole.good_crate_report

pub bad_crate_report : BadCrateReport
bad_crate_report = Whole.bad_crate_report

pub counts_are_lines : CountsAreLines
counts_are_lines = Counted.counts_are_lines

pub bytes_add_up : BytesAddUp
bytes_add_up = Counted.bytes_add_up

pub piece_by_piece : PieceByPiece
piece_by_piece = Together.piece_by_piece

pub short_buffer : ShortBuffer
short_buffer = Together.short_buffer

pub nothing_left : NothingLeft
nothing_left = Together.nothing_left

pub pieces_are_the_report : PiecesAreTheReport
pieces_are_the_report = Together.pieces_are_the_report

pub enough_pieces : EnoughPieces
enough_pieces = Together.enough_pieces
