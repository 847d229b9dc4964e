-- A copy between slices of one length.
-- Assumes nothing.
use Prim.Native.Nat.{ℕ}
use mathlib.Core.Path.{◌≡◌}
use mathlib.Core.List.{List}
use lib.ListN.{length}
use borrow.Author.Tests.{eq-eqb}
use Rattle.util.specs.Bytes.{stored_over}

pub over : (s d : List ℕ) → length s ≡ length d → stored_over s d ≡ s
unfolding stored_over
over s d e = simp (eq-eqb _ _ e)
