-- The 16-bit FCS of IEEE 802.15.4, by the bit rule: a polynomial is divided by another, coefficient by coefficient. Nothing of the
-- table stands here.
-- Assumes nothing.
use Rattle.std.specs.Prelude.{ℕ, zero, suc, ◌+◌, ◌*◌, ◌/◌, ◌%◌, Bool, true, false, ◌||◌, List, [], ◌∷◌, ◌++◌, eqb, length, drop, replicate}
use Rattle.std.specs.Bool.{xor}
use Rattle.util.specs.Bytes.{flag_number, bytes_of}

-- A polynomial is the list of its coefficients, that of the highest power first; true is 1 and false is 0.

-- "polynomial with terms 16, 12, 5 and 0"
abbrev pub terms : List ℕ
terms = 16 ∷ 12 ∷ 5 ∷ 0 ∷ []

-- whether the power k is among them
abbrev pub is_term : ℕ → List ℕ → Bool
is_term k [] = false
is_term k (t ∷ ts) = eqb k t || is_term k ts

-- that polynomial, the generator: its coefficients below the power n, and all of them, from that of the power 16 to that of the
-- power 0
abbrev pub coefficients_below : ℕ → List Bool
coefficients_below zero = []
coefficients_below (suc k) = is_term k terms ∷ coefficients_below k

abbrev pub generator : List Bool
generator = coefficients_below 17

-- One polynomial taken away from another that has as many coefficients or more, the highest under each other. Coefficients are
-- counted modulo 2: two that are the same leave 0, two that are not leave 1.
abbrev pub minus : List Bool → List Bool → List Bool
minus xs [] = xs
minus [] (y ∷ ys) = []
minus (x ∷ xs) (y ∷ ys) = xor x y ∷ minus xs ys

-- One step of a division, as it is done on paper: where the highest coefficient is 1, the generator is taken away. In either case
-- the highest coefficient is now 0, and is left out.
abbrev pub divide_once : List Bool → List Bool
divide_once [] = []
divide_once (true ∷ rest) = drop 1 (minus (true ∷ rest) generator)
divide_once (false ∷ rest) = rest

-- that many steps of it
abbrev pub divide : ℕ → List Bool → List Bool
divide zero dividend = dividend
divide (suc n) dividend = divide n (divide_once dividend)

-- "each byte's lowest bit first": the n lowest bits of a number, and the number that such bits are
abbrev pub bits_of : ℕ → ℕ → List Bool
bits_of zero v = []
bits_of (suc n) v = eqb (v % 2) 1 ∷ bits_of n (v / 2)

abbrev pub number_of : List Bool → ℕ
number_of [] = 0
number_of (b ∷ bits) = flag_number b + 2 * number_of bits

-- all bits of some bytes, in the order in which they are sent
abbrev pub sent_bits : List ℕ → List Bool
sent_bits [] = []
sent_bits (b ∷ bytes) = bits_of 8 b ++ sent_bits bytes

-- What the division leaves, 16 coefficients. The bits are a polynomial, the first one that of the highest power. It is multiplied
-- by x^16, so that 16 zeros follow; a start value is taken away from the first 16 coefficients; and it is divided by the generator,
-- a step for each bit.
abbrev pub remainder : List Bool → List Bool → List Bool
remainder start bits = divide (length bits) (minus (bits ++ replicate 16 false) start)

-- that as a number, whose lowest bit is the first of the 16, as it is in each byte
unfoldable pub fcs_from : ℕ → List ℕ → ℕ
fcs_from start bytes = number_of (remainder (bits_of 16 start) (sent_bits bytes))

-- "start value zero"
unfoldable pub fcs_of : List ℕ → ℕ
fcs_of bytes = fcs_from 0 bytes

-- "result sent low byte first"
unfoldable pub fcs_bytes : List ℕ → List ℕ
fcs_bytes bytes = bytes_of 2 (fcs_of bytes)
