-- What the code tells of a fact is what the layout's definitions say of it.
-- Assumes nothing.
use mathlib.Core.Path.{◌≡◌, refl}
use Rattle.std.proofs.Common.{Option, Some, None, ℕ}
use Rattle.std.specs.Int.{from_bool}
use Rattle.std.specs.Option.{is_some, option_and, unwrap_or}
use Rattle.info_bytes.specs.Info.{there, beside}

pub is_there : {A : Type 0} (f : Option A) → from_bool (is_some f) ≡ there f
is_there None = refl
is_there (Some x) = refl

pub is_beside : {A : Type 0} (f : Option A) (n : ℕ) → unwrap_or (option_and f (Some n)) 0 ≡ beside f n
is_beside None n = refl
is_beside (Some x) n = refl
