-- The invariant of the loop of `fcs::entry_by_bits`: the division of the register, in the steps that are left, leaves the byte's
-- checksum.
-- Assumes nothing.
use mathlib.Core.Path.{◌≡◌}
use mathlib.Core.List.{[], ◌∷◌}
use Prim.Native.Nat.{◌-◌, ◌^◌, ◌<◌}
use Rattle.fcs.specs.Fcs.{fcs_of}
use Rattle.fcs.proofs.Entry.{left_after}
use Rattle.fcs.proofs.entry_by_bits.Given as goal

abbrev pub invariant-loop : goal.invariant-loop
invariant-loop l =
    (l.register < 2 ^ 16) × (left_after (8 - l.counter) l.register ≡ fcs_of (l.byte ∷ []))
