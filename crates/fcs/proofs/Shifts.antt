-- Two bytes at once without the table. Shifts and exclusive ors go through an exclusive or, so what they make of two bytes is what
-- they make of each by itself; and that is found by one test over all bytes.
-- Assumes nothing.
use Prim.Native.Nat.{ℕ, ◌+◌, ◌*◌, ◌/◌, ◌%◌, ◌^◌, ◌<◌}
use mathlib.Core.Path.{◌≡◌, refl, sym, ◌∙◌, ap, ap₂}
use mathlib.Core.Bool.{Bool, ◌&&◌}
use mathlib.Core.List.{List, [], ◌∷◌}
use native.Mathlib.Nat.{add-zero}
use native.Mathlib.Omega.{arith}
use lib.Bits.{bit_xor, xor_comm, xor_assoc, xor_lt, xor_shr, xor_mod, xor_zero_r, xor_block, xor_shifted}
use lib.Dec.{T, eqb, eqb→eq}
use lib.ListN.{length, get_or}
use lib.Pow.{pow_pos}
use Rattle.std.specs.Int.{w8, w16, from_le_bytes}
use Rattle.std.proofs.Common.{Fits}
use Rattle.fcs.specs.Fcs.{fcs_from, fcs_of}
use Rattle.fcs.specs.Table.{fcs_table}
use Rattle.fcs.proofs.Bits.{xor_exchange}
use Rattle.fcs.proofs.ByTable.{every_entry, at, both_left, both_right}
use Rattle.fcs.proofs.Pairs.{two_bytes}

-- ---- What goes through an exclusive or

abbrev Additive : (ℕ → ℕ) → Type 0
Additive f = (a b : ℕ) → f (bit_xor a b) ≡ bit_xor (f a) (f b)

-- the bits of a word so many places up, those beyond it left out
abbrev up : ℕ → ℕ → ℕ
up k w = (w * 2 ^ k) % 2 ^ 16

xor_times : (k a b : ℕ) → bit_xor a b * 2 ^ k ≡ bit_xor (a * 2 ^ k) (b * 2 ^ k)
xor_times k a b =
    sym (add-zero (bit_xor a b * 2 ^ k))
    ∙ sym (xor_block k a b 0 0 (pow_pos k) (pow_pos k))
    ∙ ap₂ bit_xor (add-zero (a * 2 ^ k)) (add-zero (b * 2 ^ k))

up_additive : (k : ℕ) → Additive (up k)
up_additive k a b = ap (λ (n : ℕ). n % 2 ^ 16) (xor_times k a b) ∙ xor_mod (a * 2 ^ k) (b * 2 ^ k) 16

down_additive : (k : ℕ) → Additive (λ w. w / 2 ^ k)
down_additive k a b = xor_shr a b k

sum_additive : (f g : ℕ → ℕ) → Additive f → Additive g → Additive (λ w. bit_xor (f w) (g w))
sum_additive f g F G a b = ap₂ bit_xor (F a b) (G a b) ∙ xor_exchange (f a) (f b) (g a) (g b)

after_additive : (f g : ℕ → ℕ) → Additive f → Additive g → Additive (λ w. f (g w))
after_additive f g F G a b = ap f (G a b) ∙ F (g a) (g b)

-- ---- The code's shifts

abbrev pub four : ℕ → ℕ
four w = bit_xor w (up 4 w)

abbrev pub quotient : ℕ → ℕ
quotient w = bit_xor (bit_xor (four w) (up 8 (four w))) (up 11 w)

abbrev pub left : ℕ → ℕ
left q = bit_xor (bit_xor q (q / 2 ^ 5)) (q / 2 ^ 12)

unfoldable pub shifts : ℕ → ℕ
shifts w = left (quotient w)

shifts_additive : Additive shifts
unfolding shifts
shifts_additive =
    let same : Additive (λ w. w) = λ a b. refl in
    let four-additive = sum_additive (λ w. w) (up 4) same (up_additive 4) in
    let twice = sum_additive four (λ w. up 8 (four w)) four-additive (after_additive (up 8) four (up_additive 8) four-additive) in
    let quotient-additive = sum_additive (λ w. bit_xor (four w) (up 8 (four w))) (up 11) twice (up_additive 11) in
    let once = sum_additive (λ w. w) (λ w. w / 2 ^ 5) same (down_additive 5) in
    let left-additive = sum_additive (λ w. bit_xor w (w / 2 ^ 5)) (λ w. w / 2 ^ 12) once (down_additive 12) in
    after_additive left quotient left-additive quotient-additive

-- ---- Each byte by itself

-- the entry that stands at a place
abbrev entry_at : ℕ → ℕ
entry_at place = get_or fcs_table place 0

-- a byte in the high place gives its entry; one in the low place gives what the table makes of it and a zero after it
right : ℕ → ℕ → Bool
right place entry = eqb (shifts (place * 2 ^ 8)) entry && eqb (shifts place) (bit_xor (entry / 256) (entry_at (entry % 256)))

every_byte : (place : ℕ) → place < 256 → T (right place (entry_at place))
unfolding fcs_table right shifts
every_byte place h = at right fcs_table tt place h

high_byte : (place : ℕ) → place < 256 → shifts (place * 2 ^ 8) ≡ entry_at place
unfolding right
high_byte place h =
    let entry = entry_at place in
    let first = eqb (shifts (place * 2 ^ 8)) entry in
    let second = eqb (shifts place) (bit_xor (entry / 256) (entry_at (entry % 256))) in
    eqb→eq (shifts (place * 2 ^ 8)) entry (both_left first second (every_byte place h))

low_byte : (place : ℕ) → place < 256 → shifts place ≡ bit_xor (entry_at place / 256) (entry_at (entry_at place % 256))
unfolding right
low_byte place h =
    let entry = entry_at place in
    let second = bit_xor (entry / 256) (entry_at (entry % 256)) in
    eqb→eq (shifts place) second (both_right (eqb (shifts (place * 2 ^ 8)) entry) (eqb (shifts place) second) (every_byte place h))

entry_additive : (a b : ℕ) → a < 256 → b < 256 → entry_at (bit_xor a b) ≡ bit_xor (entry_at a) (entry_at b)
entry_additive a b h k =
    sym (high_byte (bit_xor a b) (xor_lt 8 a b h k))
    ∙ ap shifts (xor_times 8 a b)
    ∙ shifts_additive (a * 2 ^ 8) (b * 2 ^ 8)
    ∙ ap₂ bit_xor (high_byte a h) (high_byte b k)

-- ---- Both bytes

-- the shifts do what two steps of the table do
as_table : (low high : ℕ) → low < 256 → high < 256
    → shifts (bit_xor (high * 2 ^ 8) low) ≡ bit_xor (entry_at low / 256) (entry_at (bit_xor (entry_at low % 256) high))
as_table low high h k =
    let entry = entry_at low in
    shifts_additive (high * 2 ^ 8) low
    ∙ ap₂ bit_xor (high_byte high k) (low_byte low h)
    ∙ xor_comm (entry_at high) (bit_xor (entry / 256) (entry_at (entry % 256)))
    ∙ xor_assoc (entry / 256) (entry_at (entry % 256)) (entry_at high)
    ∙ ap (bit_xor (entry / 256)) (sym (entry_additive (entry % 256) high (omega arith) k))

of_two : (start b c word : ℕ) → start < 2 ^ 16 → b < 256 → c < 256
    → word % 256 ≡ bit_xor (start % 256) b → word / 256 ≡ bit_xor (start / 256) c → shifts word ≡ fcs_from start (b ∷ c ∷ [])
of_two start b c word f g h low high =
    let first = xor_lt 8 (start % 256) b (omega arith) g in
    let second = xor_lt 8 (start / 256) c (omega arith) h in
    let parts : word ≡ word / 256 * 2 ^ 8 + word % 256 = omega arith in
    ap shifts (parts ∙ ap₂ (λ (n k : ℕ). n * 2 ^ 8 + k) high low ∙ sym (xor_shifted (bit_xor (start / 256) c) 8 (bit_xor (start % 256) b) first))
    ∙ as_table (bit_xor (start % 256) b) (bit_xor (start / 256) c) first second
    ∙ two_bytes start b c f g h (entry_at (bit_xor (start % 256) b)) refl

-- two zeros that come after others: sixteen steps of the register as it is
pub two_zeros : (word : ℕ) → word < 2 ^ 16 → fcs_from word (0 ∷ 0 ∷ []) ≡ left (quotient word)
unfolding shifts
two_zeros word f = sym (of_two word 0 0 word f (omega arith) (omega arith) (sym (xor_zero_r (word % 256))) (sym (xor_zero_r (word / 256))))

-- ---- One byte by itself

abbrev pub byte_quotient : ℕ → ℕ
byte_quotient b = bit_xor b (b * 2 ^ 4 % 2 ^ 8)

abbrev pub byte_shifts : ℕ → ℕ
byte_shifts b = bit_xor (bit_xor (byte_quotient b * 2 ^ 8 % 2 ^ 16) (byte_quotient b * 2 ^ 3 % 2 ^ 16)) (byte_quotient b / 2 ^ 4)

right_alone : ℕ → ℕ → Bool
right_alone place entry = eqb (byte_shifts place) entry

-- the shifts of a byte give its entry, by one test over all
pub byte_alone : (b : ℕ) → b < 256 → fcs_of (b ∷ []) ≡ byte_shifts b
unfolding fcs_table right_alone
byte_alone b h = sym (every_entry.1 b h) ∙ sym (eqb→eq (byte_shifts b) (entry_at b) (at right_alone fcs_table tt b h))

-- two other bytes go into the register
pub word_step : (start : ℕ) (pair : List ℕ) → start < 2 ^ 16 → length pair ≡ 2 → ((i : ℕ) → Fits w8 (get_or pair i 0))
    → fcs_from start pair ≡ fcs_from (bit_xor start (from_le_bytes w16 pair)) (0 ∷ 0 ∷ [])
unfolding shifts
word_step start [] f h bytes = absurd (omega arith)
word_step start (b ∷ []) f h bytes = absurd (omega arith)
word_step start (b ∷ c ∷ d ∷ pair) f h bytes = absurd (omega arith)
word_step start (b ∷ c ∷ []) f h bytes =
    let first : b < 256 = (bytes 0).fits in
    let second : c < 256 = (bytes 1).fits in
    let word = from_le_bytes w16 (b ∷ c ∷ []) in
    let low : word % 256 ≡ b = omega arith in
    let high : word / 256 ≡ c = omega arith in
    sym
    (of_two start b c (bit_xor start word) f first second
    (xor_mod start word 8 ∙ ap (bit_xor (start % 256)) low)
    (xor_shr start word 8 ∙ ap (bit_xor (start / 256)) high))
    ∙ sym (two_zeros (bit_xor start word) (xor_lt 16 start word f (omega arith)))
