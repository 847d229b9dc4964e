use Rattle.std.proofs.Common.{◌≡◌, drop}
use Rattle.line_bytes.specs.Valid.{line_fits}
use Rattle.line_bytes.proofs.line_fits.Given as goal

-- the requests so far fit, with those behind them
abbrev pub invariant-loop-i : goal.invariant-loop-i
invariant-loop-i l = line_fits l.s l.requests ≡ line_fits l.s (drop l.i l.requests)
