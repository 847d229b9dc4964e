-- The table: each entry is what the bit rule gives, by one test that antt computes entry by entry; and so table and bit rule agree.
-- Assumes nothing.
use Prim.Native.Nat.{ℕ, zero, suc, ◌+◌, ◌*◌, ◌/◌, ◌%◌, ◌^◌, ◌<◌}
use mathlib.Core.Path.{◌≡◌, refl, sym, ◌∙◌, ap, ap₂, subst}
use mathlib.Core.Bool.{Bool, true, false, ◌&&◌, xor}
use mathlib.Core.List.{List, [], ◌∷◌, ◌++◌}
use native.Mathlib.Nat.{zero-add, add-zero, add-suc, suc-add, le_of_suc-le-suc, not-suc-le-zero}
use native.Mathlib.Omega.{arith}
use lib.Bits.{bit_xor, xor_comm, xor_lt}
use lib.Dec.{T, eqb, eqb→eq}
use lib.ListN.{length, get_or}
use Rattle.util.specs.Bytes.{AllBytes}
use Rattle.fcs.specs.Fcs.{minus, bits_of, number_of, sent_bits, divide, remainder, fcs_from, fcs_of}
use Rattle.fcs.specs.Table.{fcs_table, EveryEntry, table_step, by_table, TableAgrees}
use Rattle.fcs.proofs.Bits.{number_minus, bits_xor, number_bits, bits_number, number_below, bits_low}
use Rattle.fcs.proofs.Division.{minus_zeros, carried, remainder_append, length_minus, length_remainder, zeros}

-- a test passes at each entry of a list, whose places are counted from i on
abbrev pub every : (ℕ → ℕ → Bool) → ℕ → List ℕ → Bool
every f i [] = true
every f i (x ∷ xs) = f i x && every f (suc i) xs

pub both_left : (a b : Bool) → T (a && b) → T a
both_left true b t = tt
both_left false b t = t

pub both_right : (a b : Bool) → T (a && b) → T b
both_right true b t = t
both_right false b t = absurd t

from : (f : ℕ → ℕ → Bool) (xs : List ℕ) (i : ℕ) → T (every f i xs) → (k : ℕ) → k < length xs → T (f (i + k) (get_or xs k 0))
from f [] i t k h = absurd (not-suc-le-zero h)
from f (x ∷ xs) i t zero h = subst (λ (m : ℕ). T (f m x)) (sym (add-zero i)) (both_left (f i x) (every f (suc i) xs) t)
from f (x ∷ xs) i t (suc k) h =
    subst (λ (m : ℕ). T (f m (get_or xs k 0))) (suc-add i k ∙ sym (add-suc i k))
    (from f xs (suc i) (both_right (f i x) (every f (suc i) xs) t) k (le_of_suc-le-suc h))

pub at : (f : ℕ → ℕ → Bool) (xs : List ℕ) → T (every f 0 xs) → (k : ℕ) → k < length xs → T (f k (get_or xs k 0))
at f xs t k h = subst (λ (m : ℕ). T (f m (get_or xs k 0))) (zero-add k) (from f xs 0 t k h)

right : ℕ → ℕ → Bool
right place entry = eqb entry (fcs_of (place ∷ []))

pub every_entry : EveryEntry
unfolding fcs_table right fcs_of fcs_from xor
every_entry = (refl, λ place h. eqb→eq (get_or fcs_table place 0) (fcs_of (place ∷ [])) (at right fcs_table tt place h))

-- bytes before others leave the start value of these
pub from_cons : (start b : ℕ) (bytes : List ℕ) → fcs_from start (b ∷ bytes) ≡ fcs_from (fcs_from start (b ∷ [])) bytes
unfolding fcs_from
from_cons start b bytes =
    let left = remainder (bits_of 16 start) (bits_of 8 b) in
    let whole : bits_of 16 (number_of left) ≡ left
    = subst (λ (k : ℕ). bits_of k (number_of left) ≡ left) (length_remainder (bits_of 16 start) (bits_of 8 b)) (bits_number left) in
    ap number_of (remainder_append (bits_of 16 start) (bits_of 8 b) (sent_bits bytes) (omega arith))
    ∙ ap (λ (l : List Bool). number_of (remainder l (sent_bits bytes))) (sym whole)

pub from_fits : (start : ℕ) (bytes : List ℕ) → fcs_from start bytes < 2 ^ 16
unfolding fcs_from
from_fits start bytes =
    let left = remainder (bits_of 16 start) (sent_bits bytes) in
    subst (λ (k : ℕ). number_of left < 2 ^ k) (length_remainder (bits_of 16 start) (sent_bits bytes)) (number_below left)

pub from_none : (start : ℕ) → start < 2 ^ 16 → fcs_from start [] ≡ start
unfolding fcs_from
from_none start h = number_minus zeros (bits_of 16 start) (omega arith) ∙ number_bits 16 start h

-- The start value's high byte stands in the division behind the byte, and its low byte under it.
pub from_byte : (start b : ℕ) → start < 2 ^ 16 → fcs_from start (b ∷ []) ≡ bit_xor (start / 256) (fcs_of (bit_xor (start % 256) b ∷ []))
unfolding fcs_from fcs_of
from_byte start b h =
    let place = bit_xor (start % 256) b in
    let high = bits_of 8 (start / 256) in
    let i8 = minus (bits_of 8 b) (bits_of 8 start) in
    let left = remainder [] i8 in
    let halved : start / 2 / 2 / 2 / 2 / 2 / 2 / 2 / 2 ≡ start / 256 = omega arith in
    let parted : start % 256 + 2 * (2 * (2 * (2 * (2 * (2 * (2 * (2 * (start / 256)))))))) ≡ start = omega arith in
    let same_low : bits_of 8 start ≡ bits_of 8 (start % 256) = ap (bits_of 8) (sym parted) ∙ bits_low 8 (start % 256) (start / 256) in
    let same_place : i8 ≡ bits_of 8 place
    = ap (minus (bits_of 8 b)) same_low ∙ sym (bits_xor 8 b (start % 256)) ∙ ap (bits_of 8) (xor_comm b (start % 256)) in
    ap (λ (n : ℕ). number_of (remainder (bits_of 8 start ++ bits_of 8 n) (bits_of 8 b))) halved
    ∙ ap number_of (carried i8 (minus zeros high) [] (omega arith))
    ∙ number_minus (minus zeros high) left (omega (arith, length_minus zeros high, length_remainder [] i8))
    ∙ ap₂ bit_xor
    (number_minus zeros high (omega arith) ∙ number_bits 8 (start / 256) (omega arith))
    (ap (λ (l : List Bool). number_of (remainder [] l)) same_place
    ∙ ap (λ (l : List Bool). number_of (divide 8 l)) (sym (minus_zeros 16 (bits_of 8 place ++ zeros))))

-- the table's step is the bit rule's for a byte
pub table_byte : (start b : ℕ) → start < 2 ^ 16 → b < 256 → table_step start b ≡ fcs_from start (b ∷ [])
unfolding table_step
table_byte start b h k =
    let place = xor_lt 8 (start % 256) b (omega arith) k in
    ap (bit_xor (start / 256)) (every_entry.1 (bit_xor (start % 256) b) place) ∙ sym (from_byte start b h)

table_from : (start : ℕ) (bytes : List ℕ) → start < 2 ^ 16 → AllBytes bytes → by_table start bytes ≡ fcs_from start bytes
unfolding by_table
table_from start [] h A = sym (from_none start h)
table_from start (b ∷ bytes) h A =
    ap (λ (n : ℕ). by_table n bytes) (table_byte start b h A.0)
    ∙ table_from (fcs_from start (b ∷ [])) bytes (from_fits start (b ∷ [])) A.1
    ∙ sym (from_cons start b bytes)

pub table_agrees : TableAgrees
unfolding fcs_of
table_agrees bytes A = table_from 0 bytes (omega arith) A

-- bytes before others, more than one
pub from_append : (start : ℕ) (xs ys : List ℕ) → start < 2 ^ 16 → fcs_from start (xs ++ ys) ≡ fcs_from (fcs_from start xs) ys
from_append start [] ys h = ap (λ (n : ℕ). fcs_from n ys) (sym (from_none start h))
from_append start (x ∷ xs) ys h =
    from_cons start x (xs ++ ys)
    ∙ from_append (fcs_from start (x ∷ [])) xs ys (from_fits start (x ∷ []))
    ∙ ap (λ (n : ℕ). fcs_from n ys) (sym (from_cons start x xs))
