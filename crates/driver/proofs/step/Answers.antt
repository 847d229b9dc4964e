-- `driver::step` meets its contract: the outcome is the move's, the pool has the number that it writes, and the theorems on
-- every call hold of them.
-- Assumes nothing.
-- By the search, with `stepped` named on the function, it did not close: the promise is a record, as in start.
use Rattle.std.proofs.Common.{◌∙◌, ap}
use Rattle.refusals.proofs.Refusals.{handed_on}
use Rattle.moves.specs.Move.{Move}
use Rattle.engine.specs.Step.{outcome_of, written_by, step_of, step_pool}
use Rattle.driver.proofs.Promises.{stepped}
use Rattle.driver.proofs.step.Goals as goal

pub returns-in_err-m : goal.returns-in_err-m
unfolding step_of step_pool written_by
returns-in_err-m c =
    let a = c.args in
    rw (handed_on _ c.from_residual.ensures.1)
    (stepped a.s a.pool.now a.c _ _
    (ap outcome_of c.in_err-m.ensures)
    (ap (λ (m : Move). written_by a.s.set a.pool.now m.number) c.in_err-m.ensures))

pub returns : goal.returns
unfolding step_of step_pool
returns c =
    let a = c.args in
    stepped a.s a.pool.now a.c _ _
    (ap outcome_of c.in_ok-m.ensures)
    (c.write_number.ensures ∙ ap (λ (m : Move). written_by a.s.set a.pool.now m.number) c.in_ok-m.ensures)
