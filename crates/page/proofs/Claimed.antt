-- Every claim of specs/Claims.antt holds.
use Rattle.page.proofs.Instances as Instances
use Rattle.page.proofs.Pages as Pages
use Rattle.page.proofs.Sampled as Sampled
use Rattle.page.proofs.Sheets as Sheets
use Rattle.page.specs.Claims.{GoodCrateSheet, NoSheet, ReadableSheet, PagePrinted, SamePage, SamePageCanBeMet, SampleSheet, FailingSheet}

pub good_crate_sheet : GoodCrateSheet
good_crate_sheet = Sheets.good_crate_sheet

pub no_sheet : NoSheet
no_sheet = Sheets.no_sheet

pub readable_sheet : ReadableSheet
readable_sheet = Pages.readable_sheet

pub page_printed : PagePrinted
page_printed = Pages.page_printed

pub same_page : SamePage
same_page = Pages.same_page

pub same_page_can_be_met : SamePageCanBeMet
same_page_can_be_met = Instances.same_page_can_be_met

pub sample_sheet : SampleSheet
sample_sheet = Sampled.sample_sheet

pub failing_sheet : FailingSheet
failing_sheet = Sampled.failing_sheet
