use Rattle.std.proofs.Common.{◌≡◌, take, length}
use Rattle.waiting_line.specs.Line.{records}
use Rattle.waiting_line.proofs.Line.write_run.Given as goal

abbrev pub invariant-loop-i : goal.invariant-loop-i
invariant-loop-i l = take l.i l.run ≡ take l.i (records (length l.run) l.self)
