use Rattle.std.proofs.Common.{◌≡◌, ◌-◌, ◌++◌, map, take, replicate}
use Rattle.line_bytes.specs.Layout.{record_bytes, free_bytes}
use Rattle.line_bytes.proofs.encode.Given as goal

-- the records written so far, and free ones behind them
abbrev pub invariant-loop-i : goal.invariant-loop-i
invariant-loop-i l = l.records ≡ map record_bytes (take l.i l.q-items) ++ replicate (4 - l.i) free_bytes
