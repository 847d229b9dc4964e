-- `driver_service::start` meets its contract: what the driver's start promises, and the line empty where it is accepted.
-- Assumes nothing.
-- By the search, with `begun` named on the function, it did not close: the promise is a record, as in step.
use Rattle.std.proofs.Common.{refl}
use Rattle.refusals.proofs.Refusals.{not_zero, handed_on}
use Rattle.driver_service.proofs.Promises.{begun}
use Rattle.driver_service.proofs.start.Goals as goal

pub returns : goal.returns
returns c = begun _ _ _ _ _ _ c.in_ok-idle.ensures c.clear.ensures

pub returns-in_err-idle : goal.returns-in_err-idle
returns-in_err-idle c =
    rw (handed_on _ c.from_residual.ensures.1) (begun _ _ _ _ _ _ c.in_err-idle.ensures (rw (not_zero _) refl))
