-- Bits, lowest first, and the numbers that they are.
-- Assumes nothing.
use Prim.Native.Nat.{ℕ, zero, suc, ◌+◌, ◌*◌, ◌/◌, ◌%◌, ◌^◌, ◌≤◌, ◌<◌}
use mathlib.Core.Path.{◌≡◌, refl, sym, ◌∙◌, ap, ap₂}
use mathlib.Core.Bool.{Bool, true, false, xor}
use mathlib.Core.List.{List, [], ◌∷◌}
use native.Mathlib.Nat.{le_of_suc-le-suc, not-suc-le-zero}
use native.Mathlib.Omega.{arith}
use lib.Bits.{bit_xor, differ, xor_step, xor_zero_r, xor_comm, xor_assoc, xor_shr, xor_mod}
use lib.Dec.{eqb}
use lib.ListN.{length}
use Rattle.util.specs.Bytes.{flag_number}
use Rattle.fcs.specs.Fcs.{minus, bits_of, number_of}

-- exclusive ors of two numbers each, the inner numbers exchanged
pub xor_exchange : (a b c d : ℕ) → bit_xor (bit_xor a b) (bit_xor c d) ≡ bit_xor (bit_xor a c) (bit_xor b d)
xor_exchange a b c d =
    xor_assoc a b (bit_xor c d)
    ∙ ap (bit_xor a) (sym (xor_assoc b c d) ∙ ap (λ (n : ℕ). bit_xor n d) (xor_comm b c) ∙ xor_assoc c b d)
    ∙ sym (xor_assoc a c (bit_xor b d))

-- ---- Bits and numbers

half : (x : Bool) (n : ℕ) → (flag_number x + 2 * n) / 2 ≡ n
half true n = omega arith
half false n = omega arith

low : (x : Bool) (n : ℕ) → (flag_number x + 2 * n) % 2 ≡ flag_number x
low true n = omega arith
low false n = omega arith

-- the lowest bits of two numbers are compared by themselves
digit : (x y : Bool) (n : ℕ) → n * 2 + differ (flag_number x) (flag_number y) ≡ flag_number (xor x y) + 2 * n
unfolding xor
digit true true n = omega arith
digit true false n = omega arith
digit false true n = omega arith
digit false false n = omega arith

xor_digit : (x y : Bool) (m n : ℕ) → bit_xor (flag_number x + 2 * m) (flag_number y + 2 * n) ≡ flag_number (xor x y) + 2 * bit_xor m n
xor_digit x y m n =
    xor_step (flag_number x + 2 * m) (flag_number y + 2 * n)
    ∙ ap₂ (λ (k d : ℕ). k * 2 + d) (ap₂ bit_xor (half x m) (half y n)) (ap₂ differ (low x m) (low y n))
    ∙ digit x y (bit_xor m n)

pub number_minus : (xs ys : List Bool) → length ys ≤ length xs → number_of (minus xs ys) ≡ bit_xor (number_of xs) (number_of ys)
number_minus xs [] h = sym (xor_zero_r (number_of xs))
number_minus [] (y ∷ ys) h = absurd (not-suc-le-zero h)
number_minus (x ∷ xs) (y ∷ ys) h =
    ap (λ (n : ℕ). flag_number (xor x y) + 2 * n) (number_minus xs ys (le_of_suc-le-suc h))
    ∙ sym (xor_digit x y (number_of xs) (number_of ys))

odd_differ : (a b : ℕ) → a < 2 → b < 2 → eqb (bit_xor a b) 1 ≡ xor (eqb a 1) (eqb b 1)
unfolding xor
odd_differ zero zero h k = refl
odd_differ zero (suc zero) h k = refl
odd_differ (suc zero) zero h k = refl
odd_differ (suc zero) (suc zero) h k = refl
odd_differ zero (suc (suc b)) h k = absurd (omega arith)
odd_differ (suc zero) (suc (suc b)) h k = absurd (omega arith)
odd_differ (suc (suc a)) b h k = absurd (omega arith)

odd_xor : (x y : ℕ) → eqb (bit_xor x y % 2) 1 ≡ xor (eqb (x % 2) 1) (eqb (y % 2) 1)
odd_xor x y = ap (λ (n : ℕ). eqb n 1) (xor_mod x y 1) ∙ odd_differ (x % 2) (y % 2) (omega arith) (omega arith)

pub bits_xor : (k x y : ℕ) → bits_of k (bit_xor x y) ≡ minus (bits_of k x) (bits_of k y)
bits_xor zero x y = refl
bits_xor (suc k) x y = ap₂ (λ (b : Bool) (l : List Bool). b ∷ l) (odd_xor x y) (ap (bits_of k) (xor_shr x y 1) ∙ bits_xor k (x / 2) (y / 2))

lowest : (a : ℕ) → a < 2 → flag_number (eqb a 1) ≡ a
lowest zero h = refl
lowest (suc zero) h = refl
lowest (suc (suc a)) h = absurd (omega arith)

pub number_bits : (k v : ℕ) → v < 2 ^ k → number_of (bits_of k v) ≡ v
number_bits zero v h = omega arith
number_bits (suc k) v h =
    let first = lowest (v % 2) (omega arith) in
    let rest = number_bits k (v / 2) (omega arith) in
    ap₂ (λ (a n : ℕ). a + 2 * n) first rest ∙ omega arith

is_flag : (x : Bool) → eqb (flag_number x) 1 ≡ x
is_flag true = refl
is_flag false = refl

pub bits_number : (xs : List Bool) → bits_of (length xs) (number_of xs) ≡ xs
bits_number [] = refl
bits_number (x ∷ xs) =
    ap₂
    (λ (b : Bool) (l : List Bool). b ∷ l)
    (ap (λ (n : ℕ). eqb n 1) (low x (number_of xs)) ∙ is_flag x)
    (ap (bits_of (length xs)) (half x (number_of xs)) ∙ bits_number xs)

one_bit_more : (x : Bool) (n k : ℕ) → n < 2 ^ k → flag_number x + 2 * n < 2 ^ suc k
one_bit_more true n k h = omega arith
one_bit_more false n k h = omega arith

pub number_below : (xs : List Bool) → number_of xs < 2 ^ length xs
number_below [] = omega arith
number_below (x ∷ xs) = one_bit_more x (number_of xs) (length xs) (number_below xs)

-- a number times 2 that many times
abbrev pub doubled : ℕ → ℕ → ℕ
doubled zero v = v
doubled (suc k) v = 2 * doubled k v

-- the lowest bits of a number do not change with those above them
pub bits_low : (k v w : ℕ) → bits_of k (v + doubled k w) ≡ bits_of k v
bits_low zero v w = refl
bits_low (suc k) v w =
    let same : (v + 2 * doubled k w) % 2 ≡ v % 2 = omega arith in
    let rest : (v + 2 * doubled k w) / 2 ≡ v / 2 + doubled k w = omega arith in
    ap₂ (λ (b : Bool) (l : List Bool). b ∷ l) (ap (λ (n : ℕ). eqb n 1) same) (ap (bits_of k) rest ∙ bits_low k (v / 2) w)
