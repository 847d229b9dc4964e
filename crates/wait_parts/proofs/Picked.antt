-- A case that a code picks out of a table.
-- Assumes nothing.
use Prim.Native.Nat.{ℕ, zero, suc}
use mathlib.Core.List.{List, [], ◌∷◌}
use lib.ListN.{get_or}

abbrev pub All : {A : Type 0} → (A → Type 0) → List A → Type 0
All P [] = Unit {0}
All P (x ∷ l) = P x × All P l

-- what holds of every case of a table holds of the case that a code stands for
pub picked : {A : Type 0} (P : A → Type 0) (l : List A) (d : A) (n : ℕ) → All P l → P d → P (get_or l n d)
picked P [] d n h k = k
picked P (x ∷ l) d zero h k = h.0
picked P (x ∷ l) d (suc n) h k = picked P l d n h.1 k
