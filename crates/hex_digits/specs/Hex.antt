-- Hexadecimal digits, and the bytes that pairs of them stand for.
-- Assumes nothing.
use Rattle.std.specs.Prelude.{ℕ, zero, suc, ◌+◌, ◌*◌, ◌%◌, ◌≡◌, cond, List, [], ◌∷◌, ◌++◌, ltb, map}
use Rattle.std.specs.List.{range_with_len}

-- The value of a digit, given as the byte that a text has for it: '0' to '9' are the bytes 48 to 57 and have the values 0 to 9, 'a' to
-- 'f' are 97 to 102 and have 10 to 15, and so have 'A' to 'F', 65 to 70. The two rules give every other byte a value below 16 too, so
-- that every text is read; a space, which is 32, has 0.
abbrev pub digit_value : ℕ → ℕ
digit_value c = cond (ltb c 64) (c % 16) ((c % 16 + 9) % 16)

-- The byte that the pair of digits at a place stands for: the first two digits are the pair at place 0, and of each pair the first digit
-- is the high one. It is 0 where the digits end before the pair does.
abbrev pub byte_of_pair : List ℕ → ℕ → ℕ
byte_of_pair [] place = 0
byte_of_pair (lone ∷ []) place = 0
byte_of_pair (high ∷ low ∷ digits) zero = 16 * digit_value high + digit_value low
byte_of_pair (high ∷ low ∷ digits) (suc place) = byte_of_pair digits place

-- the bytes at the first n places
abbrev pub bytes_of_digits : ℕ → List ℕ → List ℕ
bytes_of_digits n digits = map (byte_of_pair digits) (range_with_len 0 n)

-- A law of the first definition; proofs/Pairs.antt has its proof. The bytes of '0' to '9', and then of 'a' to 'f', have the values 0 to 15.
abbrev pub DigitsInOrder : Type 0
DigitsInOrder = map digit_value (range_with_len 48 10 ++ range_with_len 97 6) ≡ range_with_len 0 16
