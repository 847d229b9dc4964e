-- The division: what is left after some bits goes into the division of those that follow.
-- Assumes nothing.
use Prim.Native.Nat.{ℕ, zero, suc, ◌+◌, ◌≤◌}
use mathlib.Core.Path.{◌≡◌, refl, sym, ◌∙◌, ap, ap₂}
use mathlib.Core.Bool.{Bool, true, false, xor}
use mathlib.Core.List.{List, [], ◌∷◌, ◌++◌, append_assoc}
use native.Mathlib.Nat.{le_of_suc-le-suc, not-suc-le-zero}
use native.Mathlib.Omega.{arith}
use lib.ListN.{length, replicate, length-append}
use Rattle.fcs.specs.Fcs.{coefficients_below, minus, divide_once, divide, remainder}

abbrev pub zeros : List Bool
zeros = replicate 16 false

pub xor_assoc : (x y z : Bool) → xor (xor x y) z ≡ xor x (xor y z)
unfolding xor
xor_assoc true true true = refl
xor_assoc true true false = refl
xor_assoc true false true = refl
xor_assoc true false false = refl
xor_assoc false true true = refl
xor_assoc false true false = refl
xor_assoc false false true = refl
xor_assoc false false false = refl

xor_false : (x : Bool) → xor x false ≡ x
unfolding xor
xor_false true = refl
xor_false false = refl

false_xor : (x : Bool) → xor false x ≡ x
unfolding xor
false_xor true = refl
false_xor false = refl

-- two polynomials together, each from its highest coefficient on
plus : List Bool → List Bool → List Bool
plus [] ys = ys
plus (x ∷ xs) [] = x ∷ xs
plus (x ∷ xs) (y ∷ ys) = xor x y ∷ plus xs ys

plus_length : (n : ℕ) (xs ys : List Bool) → length xs ≤ n → length ys ≤ n → length (plus xs ys) ≤ n
unfolding plus
plus_length n [] ys h k = k
plus_length n (x ∷ xs) [] h k = h
plus_length zero (x ∷ xs) (y ∷ ys) h k = absurd (not-suc-le-zero h)
plus_length (suc n) (x ∷ xs) (y ∷ ys) h k =
    let rest = plus_length n xs ys (le_of_suc-le-suc h) (le_of_suc-le-suc k) in
    omega arith

minus_minus : (zs xs ys : List Bool) → minus (minus zs xs) ys ≡ minus zs (plus xs ys)
unfolding plus
minus_minus zs [] ys = refl
minus_minus zs (x ∷ xs) [] = refl
minus_minus [] (x ∷ xs) (y ∷ ys) = refl
minus_minus (z ∷ zs) (x ∷ xs) (y ∷ ys) = ap₂ (λ (b : Bool) (l : List Bool). b ∷ l) (xor_assoc z x y) (minus_minus zs xs ys)

pub minus_zeros : (k : ℕ) (xs : List Bool) → minus xs (replicate k false) ≡ xs
minus_zeros zero xs = refl
minus_zeros (suc k) [] = refl
minus_zeros (suc k) (x ∷ xs) = ap₂ (λ (b : Bool) (l : List Bool). b ∷ l) (xor_false x) (minus_zeros k xs)

-- what is taken away from zeros is taken away itself
minus_late : (k : ℕ) (xs ys : List Bool) → length ys ≤ k → minus xs (minus (replicate k false) ys) ≡ minus xs ys
minus_late k xs [] h = minus_zeros k xs
minus_late zero xs (y ∷ ys) h = absurd (not-suc-le-zero h)
minus_late (suc k) [] (y ∷ ys) h = refl
minus_late (suc k) (x ∷ xs) (y ∷ ys) h = ap₂ (λ (b : Bool) (l : List Bool). b ∷ l) (ap (xor x) (false_xor y)) (minus_late k xs ys (le_of_suc-le-suc h))

-- What the division of some bits leaves in the coefficients after them is what it leaves in zeros, and those themselves.
abbrev pub Carried : List Bool → List Bool → Type 0
Carried bits after =
    (start : List Bool) → length start ≤ 16
    → divide (length bits) (minus (bits ++ after) start) ≡ minus after (divide (length bits) (minus (bits ++ zeros) start))

one_more : (highest : Bool) (bits after start : List Bool) → Carried bits after → length start ≤ 16
    → divide (length bits) (divide_once (highest ∷ minus (bits ++ after) start))
    ≡ minus after (divide (length bits) (divide_once (highest ∷ minus (bits ++ zeros) start)))
one_more false bits after start carried h = carried start h
one_more true bits after start carried h =
    let below = coefficients_below 16 in
    ap (divide (length bits)) (minus_minus (bits ++ after) start below)
    ∙ carried (plus start below) (plus_length 16 start below h (omega arith))
    ∙ ap (λ (l : List Bool). minus after (divide (length bits) l)) (sym (minus_minus (bits ++ zeros) start below))

pub carried : (bits after : List Bool) → Carried bits after
carried [] after start h = sym (minus_late 16 after start h)
carried (b ∷ bits) after [] h = one_more b bits after [] (carried bits after) h
carried (b ∷ bits) after (x ∷ start) h = one_more (xor b x) bits after start (carried bits after) (omega arith)

divide_append : (xs ys dividend : List Bool) → divide (length (xs ++ ys)) dividend ≡ divide (length ys) (divide (length xs) dividend)
divide_append [] ys dividend = refl
divide_append (x ∷ xs) ys dividend = divide_append xs ys (divide_once dividend)

-- the remainder of some bits is the start value of those that follow
pub remainder_append : (start xs ys : List Bool) → length start ≤ 16 → remainder start (xs ++ ys) ≡ remainder (remainder start xs) ys
remainder_append start xs ys h =
    divide_append xs ys (minus ((xs ++ ys) ++ replicate 16 false) start)
    ∙ ap
    (λ (l : List Bool). divide (length ys) (divide (length xs) (minus l start)))
    (append_assoc xs ys (replicate 16 false))
    ∙ ap (divide (length ys)) (carried xs (ys ++ replicate 16 false) start h)

pub length_minus : (xs ys : List Bool) → length (minus xs ys) ≡ length xs
length_minus xs [] = refl
length_minus [] (y ∷ ys) = refl
length_minus (x ∷ xs) (y ∷ ys) = ap suc (length_minus xs ys)

length_once : (x : Bool) (xs : List Bool) → length (divide_once (x ∷ xs)) ≡ length xs
length_once true xs = length_minus xs (coefficients_below 16)
length_once false xs = refl

length_divide : (k : ℕ) (bits dividend : List Bool) → length dividend ≡ length bits + k → length (divide (length bits) dividend) ≡ k
length_divide k [] dividend h = h ∙ omega arith
length_divide k (b ∷ bits) [] h = absurd (omega arith)
length_divide k (b ∷ bits) (x ∷ dividend) h =
    let once = length_once x dividend in
    length_divide k bits (divide_once (x ∷ dividend)) (omega arith)

pub length_remainder : (start bits : List Bool) → length (remainder start bits) ≡ 16
length_remainder start bits =
    length_divide 16 bits (minus (bits ++ replicate 16 false) start)
    (length_minus (bits ++ replicate 16 false) start ∙ length-append bits (replicate 16 false))
