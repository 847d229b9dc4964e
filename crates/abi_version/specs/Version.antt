-- The version of the exported form: docs/LAYOUTS.md, "The version".
-- Assumes nothing.
use Rattle.std.specs.Prelude.{ℕ}

-- "The version is 1." (docs/LAYOUTS.md)
abbrev pub abi_version_number : ℕ
abi_version_number = 1
