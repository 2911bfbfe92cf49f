-- `begin` meets its contract: no room, or by how the files stand.
use Rattle.page.proofs.Beginnings.{too_short, notice_begins, unfit_page, run_page}
use Rattle.page.proofs.beginning.begin.Goals as goal

pub returns-then-buffer-lt2048 : goal.returns-then-buffer-lt2048
returns-then-buffer-lt2048 c = too_short _ _ _ c.if-buffer-lt2048.true

pub returns-in-Ok : goal.returns-in-Ok
returns-in-Ok c = run_page _ _ _ _ _ _ _ _ _ _ c.judge.ensures _ c.in-Ok.is c.begin_run.ensures

pub returns-in-Err : goal.returns-in-Err
returns-in-Err c =
    unfit_page _ _ _ _ _ _ _ _ _ _ c.judge.ensures _ c.in-Err.is (notice_begins _ c.if-buffer-lt2048.false _ _ _ c.write_notice.ensures)
