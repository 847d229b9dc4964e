-- `exported::start` meets its contract. The search, tried with the lemmas of Calls.antt, proves none of the goals.
-- Assumes nothing.
use Rattle.std.proofs.Common.{sym, ◌∙◌}
use borrow.Author.Tests.{eqb-false}
use Rattle.refusals.proofs.Refusals.{not_zero, handed_on}
use Rattle.byte_calls.proofs.History.{always_byte_sound}
use Rattle.exported.proofs.Calls.{start_done, start_not_done, start_refused}
use Rattle.exported.proofs.start.Goals as goal

pub returns-then-not-slices_fit : goal.returns-then-not-slices_fit
returns-then-not-slices_fit c =
    let a = c.args in
    start_refused a.n a.state.now a.line.now a.reply.now a.pool.now (always_byte_sound a.n a.state.now a.line.now a.reply.now a.pool.now)
    (sym c.slices_fit.ensures ∙ c.if-not-slices_fit.true)

pub returns-in_err-finish : goal.returns-in_err-finish
returns-in_err-finish c =
    let a = c.args in
    rw (handed_on _ c.from_residual.ensures.1)
    (start_not_done a.n a.state.now a.line.now a.reply.now a.pool.now (always_byte_sound a.n a.state.now a.line.now a.reply.now a.pool.now)
    (sym c.slices_fit.ensures ∙ c.if-not-slices_fit.false) _ _ _ _ _ _ (rw c.new-waiting.ensures at c.begun.ensures) (c.in_err-finish.ensures _) (eqb-false _ 0 (not_zero _)))

pub returns : goal.returns
returns c =
    let a = c.args in
    start_done a.n a.state.now a.line.now a.reply.now a.pool.now (always_byte_sound a.n a.state.now a.line.now a.reply.now a.pool.now)
    (sym c.slices_fit.ensures ∙ c.if-not-slices_fit.false) _ _ _ _ _ _ (rw c.new-waiting.ensures at c.begun.ensures) (c.in_ok-finish.ensures _) c.write_line.ensures
