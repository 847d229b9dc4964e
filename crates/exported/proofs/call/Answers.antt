-- `exported::call` meets its contract. The search, tried with the lemmas of Calls.antt (also restated over equations alone), proves none of
-- the goals.
-- Assumes nothing.
use Rattle.std.proofs.Common.{sym, ◌∙◌}
use borrow.Author.Tests.{eqb-false}
use Rattle.refusals.proofs.Refusals.{not_zero, handed_on}
use Rattle.slices.proofs.Slices.{read_ok, read_err}
use Rattle.exported.proofs.Calls.{done_refused, done_changed, done_same, not_done}
use Rattle.exported.proofs.call.Goals as goal

pub returns-in_err-s : goal.returns-in_err-s
returns-in_err-s c =
    let a = c.args in
    let e = read_err a.state.now a.line.now _ c.in_err-s.ensures.case in
    rw (handed_on _ c.from_residual.ensures.1, e.1) (not_done a.state.now a.line.now a.reply.now a.pool.now a.x e.0)

pub returns-in_err-finish : goal.returns-in_err-finish
returns-in_err-finish c =
    let a = c.args in
    rw (handed_on _ c.from_residual-in_err-finish.ensures.1)
    (done_refused a.state.now a.line.now a.reply.now a.pool.now a.x (read_ok a.state.now a.line.now _ c.in_ok-s.ensures.case) c.in_ok-s.ensures.line
    _ _ _ _ _ _ c.made.ensures (c.in_err-finish.ensures c.in_ok-s.s) (eqb-false _ 0 (not_zero _)))

pub returns-then-changes_line : goal.returns-then-changes_line
returns-then-changes_line c =
    let a = c.args in
    done_changed a.state.now a.line.now a.reply.now a.pool.now a.x (read_ok a.state.now a.line.now _ c.in_ok-s.ensures.case) c.in_ok-s.ensures.line
    _ _ _ _ _ _ c.made.ensures (c.in_ok-finish.ensures c.in_ok-s.s) c.write_line.ensures

pub returns-else-changes_line : goal.returns-else-changes_line
returns-else-changes_line c =
    let a = c.args in
    done_same a.state.now a.line.now a.reply.now a.pool.now a.x (read_ok a.state.now a.line.now _ c.in_ok-s.ensures.case) c.in_ok-s.ensures.line
    _ _ _ _ _ c.made.ensures (c.in_ok-finish.ensures c.in_ok-s.s) (sym c.changes_line.ensures ∙ c.if-changes_line.false)
