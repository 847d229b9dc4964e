-- The code of a spacing is at most 2.
-- Assumes nothing.
use Prim.Native.Nat.{ℕ, ◌≤◌}
use mathlib.Core.Path.{◌≡◌}
use native.Mathlib.Omega.{arith}
use Rattle.phy.specs.declared.Ifs.{Ifs}
use Rattle.phy.specs.Phy.{ifs_code}

pub code_fits : (i : Ifs) {r : ℕ} → r ≡ ifs_code i → r ≤ 2
unfolding ifs_code
code_fits Ifs.Aifs e = omega arith
code_fits Ifs.Sifs e = omega arith
code_fits Ifs.Lifs e = omega arith
