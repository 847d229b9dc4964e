use Rattle.std.proofs.Common.{◌≡◌, take}
use Rattle.waiting_line.specs.Line.{waiting}
use Rattle.waiting_line.proofs.Line.from_run.Given as goal

abbrev pub invariant-loop-r : goal.invariant-loop-r
invariant-loop-r l = l.line ≡ take 4 (waiting (take l.r-index l.run))
