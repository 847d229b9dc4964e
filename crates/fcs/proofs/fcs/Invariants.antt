-- The invariant of both loops of `fcs::fcs`: the register is what the pairs so far make of it.
-- Assumes nothing.
use Rattle.std.proofs.Common.{◌≡◌, take}
use Rattle.std.specs.List.{fold}
use Rattle.fcs.specs.Fcs.{fcs_from}
use Rattle.fcs.proofs.fcs.Given as goal

abbrev pub invariant-loop-pair : goal.invariant-loop-pair
invariant-loop-pair l = l.register ≡ fold fcs_from l.initial.register (take l.pair-index l.pairs)

abbrev pub invariant-loop-pair-else-bytes-lt-BY_TABLE_FROM : goal.invariant-loop-pair-else-bytes-lt-BY_TABLE_FROM
invariant-loop-pair-else-bytes-lt-BY_TABLE_FROM l = l.register ≡ fold fcs_from l.initial.register (take l.pair-index l.pairs)
