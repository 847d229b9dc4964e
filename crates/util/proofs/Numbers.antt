-- Numbers in bytes: writing and reading.
-- Assumes nothing.
use Prim.Native.Nat.{ℕ, zero, suc, ◌+◌, ◌*◌, ◌/◌, ◌%◌, ◌^◌, ◌≤◌, ◌<◌}
use mathlib.Core.Path.{◌≡◌, refl, ◌∙◌, ap}
use mathlib.Core.List.{List, [], ◌∷◌, ◌++◌}
use lib.ListN.{get_or, take, drop, replicate}
use Rattle.std.proofs.lemmas.List.{drop-replicate}
use lib.Seq.{get_or-take, get_or-drop}
use native.Mathlib.Omega.{arith}
use Rattle.std.specs.Int.{to_le_bytes, w32, w64}
use borrow.Author.Rules.{rules}
use Rattle.util.specs.Bytes.{number_at, bytes_of, AllBytes, ReadBack, FitsBytes}

-- past its first byte a list is read as its rest is
shifted : (b : ℕ) (bytes : List ℕ) (at n : ℕ) → number_at (b ∷ bytes) (suc at) n ≡ number_at bytes at n
unfolding number_at
shifted b bytes at zero = refl
shifted b bytes at (suc n) =
    let e : suc at + 1 ≡ suc (at + 1) = omega arith in
    rw e (ap (λ (k : ℕ). get_or bytes at 0 + 256 * k) (shifted b bytes (at + 1) n))

pub read_back : ReadBack
unfolding number_at
read_back zero v h = omega arith
read_back (suc n) v h =
    let small : v / 256 < 256 ^ n = omega arith in
    let rest : number_at (v % 256 ∷ bytes_of n (v / 256)) 1 n ≡ v / 256 = shifted (v % 256) (bytes_of n (v / 256)) 0 n ∙ read_back n (v / 256) small in
    rw rest (omega arith)

pub byte_at : (bytes : List ℕ) → AllBytes bytes → (at : ℕ) → get_or bytes at 0 < 256
byte_at [] A at = omega arith
byte_at (b ∷ bytes) A zero = A.0
byte_at (b ∷ bytes) A (suc at) = byte_at bytes A.1 at

-- a part of some bytes is bytes
pub take_bytes : (k : ℕ) (bytes : List ℕ) → AllBytes bytes → AllBytes (take k bytes)
take_bytes zero bytes A = tt
take_bytes (suc k) [] A = tt
take_bytes (suc k) (b ∷ bytes) A = (A.0, take_bytes k bytes A.1)

pub drop_bytes : (k : ℕ) (bytes : List ℕ) → AllBytes bytes → AllBytes (drop k bytes)
drop_bytes zero bytes A = A
drop_bytes (suc k) [] A = tt
drop_bytes (suc k) (b ∷ bytes) A = drop_bytes k bytes A.1

pub fits_bytes : FitsBytes
unfolding number_at
fits_bytes bytes A at zero = omega arith
fits_bytes bytes A at (suc n) =
    let low = byte_at bytes A at in
    let high = fits_bytes bytes A (at + 1) n in
    omega arith

-- a part that holds all bytes of a number gives the same number
in_part : (bytes : List ℕ) (at w k n : ℕ) → k + n ≤ w → number_at (take w (drop at bytes)) k n ≡ number_at bytes (at + k) n
unfolding number_at
in_part bytes at w k zero h = refl
in_part bytes at w k (suc n) h =
    let e : at + (k + 1) ≡ at + k + 1 = omega arith in
    rw (get_or-take w (drop at bytes) k 0 (omega arith), get_or-drop at bytes k 0, in_part bytes at w (k + 1) n (omega arith), e)

pub in_place : (bytes : List ℕ) (at n : ℕ) → number_at (take n (drop at bytes)) 0 n ≡ number_at bytes at n
in_place bytes at n =
    let z : at + 0 ≡ at = omega arith in
    rw (in_part bytes at n 0 n (omega arith), z)

-- zeros after some bytes are read as what is past their end
zeros : (n k : ℕ) → ◌≡◌ {A = ℕ} (get_or (replicate n 0) k 0) 0
zeros zero k = refl
zeros (suc n) zero = refl
zeros (suc n) (suc k) = zeros n k

past : (bytes : List ℕ) (n k : ℕ) → get_or (bytes ++ replicate n 0) k 0 ≡ get_or bytes k 0
past [] n k = zeros n k
past (b ∷ bytes) n zero = refl
past (b ∷ bytes) n (suc k) = past bytes n k

padded : (bytes : List ℕ) (m at n : ℕ) → number_at (bytes ++ replicate m 0) at n ≡ number_at bytes at n
unfolding number_at
padded bytes m at zero = refl
padded bytes m at (suc n) = rw (past bytes m at, padded bytes m (at + 1) n)

-- so the bytes from a place on, with zeros for those past the end, give the same number
pub from_place : (bytes field : List ℕ) (at j n : ℕ) → field ≡ take n (drop at bytes) → number_at (field ++ drop j (replicate n 0)) 0 n ≡ number_at bytes at n
from_place bytes field at j n e = rw (drop-replicate, e, padded) (in_place bytes at n)

-- what std writes a number as is the definition's bytes of it (of two bytes the search sees that itself)
pub le_bytes_4 : (v : ℕ) {bytes : List ℕ} → bytes ≡ to_le_bytes w32 v → bytes ≡ bytes_of 4 v
le_bytes_4 v e = let same : to_le_bytes w32 v ≡ bytes_of 4 v = search rules in e ∙ same

pub le_bytes_8 : (v : ℕ) {bytes : List ℕ} → bytes ≡ to_le_bytes w64 v → bytes ≡ bytes_of 8 v
le_bytes_8 v e = let same : to_le_bytes w64 v ≡ bytes_of 8 v = search rules in e ∙ same
