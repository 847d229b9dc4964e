-- Flags as numbers, and numbers in bytes.
-- Assumes nothing.
use Rattle.std.specs.Prelude.{ℕ, zero, suc, ◌+◌, ◌*◌, ◌/◌, ◌%◌, ◌^◌, ◌<◌, Bool, true, false, cond, ◌≡◌, List, [], ◌∷◌, eqb, length, get_or}

-- a flag as a number
abbrev pub flag_number : Bool → ℕ
flag_number true = 1
flag_number false = 0

-- new bytes over old ones that are as many
unfoldable pub stored_over : List ℕ → List ℕ → List ℕ
stored_over new old = cond (eqb (length new) (length old)) new old

-- "each low byte first": the number that stands in the n bytes from a place on
unfoldable pub number_at : List ℕ → ℕ → ℕ → ℕ
number_at bytes at zero = 0
number_at bytes at (suc n) = get_or bytes at 0 + 256 * number_at bytes (at + 1) n

-- the n bytes of a number, the low byte first
abbrev pub bytes_of : ℕ → ℕ → List ℕ
bytes_of zero v = []
bytes_of (suc n) v = v % 256 ∷ bytes_of n (v / 256)

-- every element of a list is a byte
abbrev pub AllBytes : List ℕ → Type 0
AllBytes [] = Unit {0}
AllBytes (b ∷ bytes) = (b < 256) × AllBytes bytes

-- Laws of these definitions; proofs/Numbers.antt has their proofs.

-- a number that fits n bytes is read back from them
abbrev pub ReadBack : Type 0
ReadBack = (n v : ℕ) → v < 256 ^ n → number_at (bytes_of n v) 0 n ≡ v

-- n bytes hold no larger number
abbrev pub FitsBytes : Type 0
FitsBytes = (bytes : List ℕ) → AllBytes bytes → (at n : ℕ) → number_at bytes at n < 256 ^ n
