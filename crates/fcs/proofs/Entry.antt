-- The bit rule on a register of sixteen bits: bits above those of a number are zeros, and a step of the division leaves them so.
-- Assumes nothing.
use Prim.Native.Nat.{ℕ, zero, suc, ◌+◌, ◌/◌, ◌%◌, ◌^◌, ◌≤◌, ◌<◌}
use mathlib.Core.Path.{◌≡◌, refl, sym, ◌∙◌, ap, ap₂}
use mathlib.Core.Bool.{Bool, true, false, xor}
use mathlib.Core.List.{List, [], ◌∷◌, ◌++◌}
use native.Mathlib.Nat.{zero-add, suc-add, le_of_suc-le-suc, not-suc-le-zero}
use native.Mathlib.Omega.{arith}
use borrow.Author.Tests.{eq-eqb}
use lib.Bits.{bit_xor}
use lib.Dec.{eqb}
use lib.ListN.{length, replicate}
use Rattle.fcs.specs.Fcs.{coefficients_below, minus, divide_once, divide, bits_of, number_of, fcs_from, fcs_of}
use Rattle.fcs.proofs.Bits.{bits_xor, number_bits}
use Rattle.fcs.proofs.Division.{zeros, minus_zeros}

bits_zero : (k : ℕ) → bits_of k 0 ≡ replicate k false
bits_zero zero = refl
bits_zero (suc k) = ap (λ (l : List Bool). false ∷ l) (bits_zero k)

-- a number that fits j bits has zeros above them
padded : (j k v : ℕ) → v < 2 ^ j → bits_of (j + k) v ≡ bits_of j v ++ replicate k false
padded zero k v h =
    let none : v ≡ 0 = omega arith in
    ap₂ bits_of (zero-add k) none ∙ bits_zero k
padded (suc j) k v h =
    ap (λ (n : ℕ). bits_of n v) (suc-add j k)
    ∙ ap (λ (l : List Bool). eqb (v % 2) 1 ∷ l) (padded j k (v / 2) (omega arith))

minus_before : (xs after ys : List Bool) → length ys ≤ length xs → minus (xs ++ after) ys ≡ minus xs ys ++ after
minus_before xs after [] h = refl
minus_before [] after (y ∷ ys) h = absurd (not-suc-le-zero h)
minus_before (x ∷ xs) after (y ∷ ys) h = ap (λ (l : List Bool). xor x y ∷ l) (minus_before xs after ys (le_of_suc-le-suc h))

once_before : (x : Bool) (xs after : List Bool) → 16 ≤ length xs → divide_once (x ∷ (xs ++ after)) ≡ divide_once (x ∷ xs) ++ after
once_before true xs after h = minus_before xs after (coefficients_below 16) h
once_before false xs after h = refl

-- what the division of a register leaves, in so many steps
unfoldable pub left_after : ℕ → ℕ → ℕ
left_after steps register = number_of (divide steps (bits_of (steps + 16) register))

-- one turn of the loop, after which k steps are left
pub turn : (left k register next : ℕ) → left ≡ k + 1 → register < 2 ^ 16 → next < 2 ^ 16 → bits_of 16 next ≡ divide_once (bits_of 17 register)
    → left_after k next ≡ left_after left register
unfolding left_after
turn left k register next e fits fits' step =
    let one_more : left ≡ suc k = omega arith in
    let above : left + 16 ≡ 17 + k = omega arith in
    let below : k + 16 ≡ 16 + k = omega arith in
    let once : divide_once (bits_of (left + 16) register) ≡ bits_of (k + 16) next
    = ap (λ (n : ℕ). divide_once (bits_of n register)) above
    ∙ ap divide_once (padded 17 k register (omega arith))
    ∙ once_before (eqb (register % 2) 1) (bits_of 16 (register / 2)) (replicate k false) (omega arith)
    ∙ ap (λ (l : List Bool). l ++ replicate k false) (sym step)
    ∙ sym (padded 16 k next fits')
    ∙ ap (λ (n : ℕ). bits_of n next) (sym below) in
    ap (λ (l : List Bool). number_of (divide k l)) (sym once) ∙ ap (λ (n : ℕ). number_of (divide n (bits_of (left + 16) register))) (sym one_more)

-- the division of one byte, as a register begins it
pub entry_start : (byte : ℕ) → byte < 2 ^ 8 → fcs_of (byte ∷ []) ≡ left_after 8 byte
unfolding fcs_of fcs_from left_after
entry_start byte h =
    ap
    (λ (l : List Bool). number_of (divide 8 l))
    (minus_zeros 16 (bits_of 8 byte ++ zeros) ∙ sym (padded 8 16 byte h))

-- no step is left
pub ended : (left register : ℕ) → left ≡ 0 → register < 2 ^ 16 → left_after left register ≡ register
unfolding left_after
ended left register e fits = ap (λ (n : ℕ). number_of (divide n (bits_of (n + 16) register))) e ∙ number_bits 16 register fits

-- one step, where the lowest bit is 1
pub odd_step : (register : ℕ) → register % 2 ≡ 1 → bits_of 16 (bit_xor (register / 2) 0x8408) ≡ divide_once (bits_of 17 register)
odd_step register e =
    bits_xor 16 (register / 2) 0x8408
    ∙ ap (λ b. divide_once (b ∷ bits_of 16 (register / 2))) (sym (eq-eqb (register % 2) 1 e))
