-- `driver_service::step` meets its contract: 2 to 4 come first, and the theorems on every call hold of what the call comes to.
-- Assumes nothing.
-- By the search, with `stepped` named on the function, it did not close: the promise is a record, whose fields it takes one by one, and
-- the lemma gives the whole.
use Rattle.std.proofs.Common.{refl}
use Rattle.refusals.proofs.Refusals.{not_zero, handed_on}
use Rattle.service.specs.Service.{service_of, unless_refused}
use Rattle.driver_service.proofs.Promises.{stepped}
use Rattle.driver_service.proofs.step.Goals as goal

pub returns : goal.returns
unfolding service_of unless_refused
returns c = stepped _ _ _ _ _ _ _ (rw (← c.in_ok-check_settings.ensures) c.call.ensures)

pub returns-in_err-check_settings : goal.returns-in_err-check_settings
unfolding service_of unless_refused
returns-in_err-check_settings c =
    rw (handed_on _ c.from_residual.ensures.1) (stepped _ _ _ _ _ _ _ (rw (← c.in_err-check_settings.ensures, not_zero _) refl))
