-- `driver::start` meets its contract: what it returns and writes is the definitions', and the theorem on lists holds of it.
-- Assumes nothing.
-- By the search, with `started` and `start_refused` named on the function, it did not close: the promise is a record, whose fields it
-- takes one by one, and the lemma gives the whole.
use Rattle.refusals.proofs.Refusals.{handed_on}
use Rattle.driver.proofs.Promises.{started, start_refused}
use Rattle.driver.proofs.start.Goals as goal

pub returns-in_err-check_settings : goal.returns-in_err-check_settings
returns-in_err-check_settings c =
    rw (handed_on _ c.from_residual.ensures.1) (start_refused c.args.set c.args.pool.now _ c.in_err-check_settings.ensures)

pub returns : goal.returns
returns c =
    started c.args.set c.args.pool.now _ _
    c.in_ok-check_settings.ensures
    c.to_idle-m.ensures
    (rw c.frame_start-at.ensures at c.imm_ack_frame.ensures)
