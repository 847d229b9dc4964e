-- Any one wrong byte is found: two registers that differ, or the same register with two bytes that differ, stay different.
-- Assumes nothing.
use Prim.Native.Nat.{ℕ, zero, suc, ◌-◌, ◌/◌, ◌%◌, ◌^◌, ◌≤◌, ◌<◌}
use mathlib.Core.Path.{◌≡◌, refl, sym, ◌∙◌, ap, ap₂, subst⁻¹}
use mathlib.Core.Bool.{Bool, true, false, cond}
use mathlib.Core.Logic.{⊎_elim}
use mathlib.Core.List.{List, [], ◌∷◌, ◌++◌}
use Rattle.std.specs.Prelude.{Ok, Err}
use Rattle.refusals.specs.declared.Refusal.{Refusal}
use native.Mathlib.Nat.{le_of_suc-le-suc, not-suc-le-zero}
use native.Mathlib.Omega.{arith}
use lib.Bits.{bit_xor, xor_comm, xor_assoc, xor_lt, xor_shr, xor_mod, xor_self, xor_zero_r}
use lib.Dec.{eqb, eqb→eq}
use lib.ListN.{length, get_or, set, take-append-drop, length-set}
use Rattle.util.specs.Bytes.{AllBytes, bytes_of}
use Rattle.util.proofs.Numbers.{take_bytes}
use Rattle.fcs.specs.Fcs.{fcs_of, fcs_bytes}
use Rattle.fcs.specs.Table.{fcs_table, table_step, by_table}
use Rattle.fcs.specs.Check.{last_two, rest_of, ends_in_own_fcs, check_of, check_number}
use Rattle.fcs.specs.Laws.{OneWrongByteIsFound}
use Rattle.fcs.proofs.ByTable.{at, from_fits, table_byte, table_agrees}
use Rattle.fcs.proofs.Check.{decided, refused, taken, yes_exactly}

-- the place of the first entry, counted from k on, that has this high byte
place_of : ℕ → ℕ → List ℕ → ℕ
place_of k high [] = 0
place_of k high (entry ∷ entries) = cond (eqb (entry / 256) high) k (place_of (suc k) high entries)

own_place : ℕ → ℕ → Bool
own_place place entry = eqb (place_of 0 (entry / 256) fcs_table) place

-- no two entries have the same high byte
high_bytes : (i j : ℕ) → i < 256 → j < 256 → get_or fcs_table i 0 / 256 ≡ get_or fcs_table j 0 / 256 → i ≡ j
unfolding fcs_table own_place place_of
high_bytes i j h k e =
    let found : (p : ℕ) → p < 256 → place_of 0 (get_or fcs_table p 0 / 256) fcs_table ≡ p
    = λ p l. eqb→eq (place_of 0 (get_or fcs_table p 0 / 256) fcs_table) p (at own_place fcs_table tt p l) in
    sym (found i h) ∙ ap (λ (v : ℕ). place_of 0 v fcs_table) e ∙ found j k

cancel : (a x y : ℕ) → bit_xor a x ≡ bit_xor a y → x ≡ y
cancel a x y e =
    let back : (z : ℕ) → bit_xor a (bit_xor a z) ≡ z
    = λ z. sym (xor_assoc a a z) ∙ ap (λ (n : ℕ). bit_xor n z) (xor_self a) in
    sym (back x) ∙ ap (bit_xor a) e ∙ back y

-- the same step from two registers: the places are the same, and so are the high bytes of the registers
same_step : (r s b c : ℕ) → r < 2 ^ 16 → s < 2 ^ 16 → b < 256 → c < 256 → table_step r b ≡ table_step s c
    → (bit_xor (r % 256) b ≡ bit_xor (s % 256) c) × (r / 256 ≡ s / 256)
unfolding table_step
same_step r s b c f g h k e =
    let i = bit_xor (r % 256) b in
    let j = bit_xor (s % 256) c in
    let high : (q entry : ℕ) → q < 2 ^ 16 → bit_xor (q / 256) entry / 256 ≡ entry / 256
    = λ q entry l. (let none : q / 256 / 256 ≡ 0 = omega arith in xor_shr (q / 256) entry 8 ∙ ap (λ (n : ℕ). bit_xor n (entry / 256)) none) in
    let low : (q entry : ℕ) → q < 2 ^ 16 → bit_xor (q / 256) entry % 256 ≡ bit_xor (entry % 256) (q / 256)
    = λ q entry l. (let whole : q / 256 % 256 ≡ q / 256 = omega arith in
    xor_mod (q / 256) entry 8 ∙ ap (λ (n : ℕ). bit_xor n (entry % 256)) whole ∙ xor_comm (q / 256) (entry % 256)) in
    let places : i ≡ j
    = high_bytes i j (xor_lt 8 (r % 256) b (omega arith) h) (xor_lt 8 (s % 256) c (omega arith) k)
    (sym (high r (get_or fcs_table i 0) f) ∙ ap (λ (n : ℕ). n / 256) e ∙ high s (get_or fcs_table j 0) g) in
    let entry = get_or fcs_table j 0 in
    let lows : bit_xor (entry % 256) (r / 256) ≡ bit_xor (entry % 256) (s / 256)
    = sym (low r entry f)
    ∙ ap (λ (n : ℕ). bit_xor (r / 256) (get_or fcs_table n 0) % 256) (sym places)
    ∙ ap (λ (n : ℕ). n % 256) e
    ∙ low s entry g in
    (places, cancel (entry % 256) (r / 256) (s / 256) lows)

step_fits : (r b : ℕ) → r < 2 ^ 16 → b < 256 → table_step r b < 2 ^ 16
step_fits r b f h = subst⁻¹ (λ (n : ℕ). n < 2 ^ 16) (table_byte r b f h) (from_fits r (b ∷ []))

-- different registers stay different over the same bytes
same_start : (r s : ℕ) (bytes : List ℕ) → r < 2 ^ 16 → s < 2 ^ 16 → AllBytes bytes → by_table r bytes ≡ by_table s bytes → r ≡ s
unfolding by_table
same_start r s [] f g A e = e
same_start r s (b ∷ bytes) f g A e =
    let before = same_start (table_step r b) (table_step s b) bytes (step_fits r b f A.0) (step_fits s b g A.0) A.1 e in
    let same = same_step r s b b f g A.0 A.0 before in
    let swapped : bit_xor b (r % 256) ≡ bit_xor b (s % 256) = xor_comm b (r % 256) ∙ same.0 ∙ xor_comm (s % 256) b in
    let low = cancel b (r % 256) (s % 256) swapped in
    let high = same.1 in
    omega arith

-- one wrong byte makes another register
same_byte : (r : ℕ) (bytes : List ℕ) (place wrong : ℕ) → r < 2 ^ 16 → AllBytes bytes → place < length bytes → wrong < 256
    → by_table r (set bytes place wrong) ≡ by_table r bytes → wrong ≡ get_or bytes place 0
unfolding by_table
same_byte r [] place wrong f A h k e = absurd (not-suc-le-zero h)
same_byte r (b ∷ bytes) zero wrong f A h k e =
    let before = same_start (table_step r wrong) (table_step r b) bytes (step_fits r wrong f k) (step_fits r b f A.0) A.1 e in
    cancel (r % 256) wrong b (same_step r r wrong b f f k A.0 before).0
same_byte r (b ∷ bytes) (suc place) wrong f A h k e =
    same_byte (table_step r b) bytes place wrong (step_fits r b f A.0) A.1 (le_of_suc-le-suc h) k e

by_append : (r : ℕ) (xs ys : List ℕ) → by_table r (xs ++ ys) ≡ by_table (by_table r xs) ys
unfolding by_table
by_append r [] ys = refl
by_append r (x ∷ xs) ys = by_append (table_step r x) xs ys

-- the two bytes of a register, after it, leave nothing
own_bytes : (v : ℕ) → v < 2 ^ 16 → by_table v (bytes_of 2 v) ≡ 0
unfolding by_table table_step fcs_table
own_bytes v h =
    let none : v / 256 / 256 ≡ 0 = omega arith in
    let first : table_step v (v % 256) ≡ v / 256
    = ap (λ (n : ℕ). bit_xor (v / 256) (get_or fcs_table n 0)) (xor_self (v % 256)) ∙ xor_zero_r (v / 256) in
    ap (λ (n : ℕ). table_step n (v / 256 % 256)) first
    ∙ ap₂ (λ (n k : ℕ). bit_xor n (get_or fcs_table k 0)) none (xor_self (v / 256 % 256))

-- a check that says yes takes the length
yes_taken : (frame : List ℕ) → check_of frame ≡ Ok true → (3 ≤ length frame) × (length frame ≤ 127)
yes_taken frame e =
    ⊎_elim (λ h. let clash : Err Refusal.FrameLength ≡ Ok true = sym (refused frame h) ∙ e in absurd cc) (λ h. h) (decided frame)

set_bytes : (bytes : List ℕ) (place v : ℕ) → AllBytes bytes → v < 256 → AllBytes (set bytes place v)
set_bytes [] place v A h = tt
set_bytes (b ∷ bytes) zero v A h = (h, A.1)
set_bytes (b ∷ bytes) (suc place) v A h = (A.0, set_bytes bytes place v A.1 h)

-- a frame of which the check says yes leaves nothing
nothing_left : (frame : List ℕ) → AllBytes frame → check_of frame ≡ Ok true → by_table 0 frame ≡ 0
unfolding fcs_bytes fcs_of
nothing_left frame A e =
    let length_taken = yes_taken frame e in
    let rest = rest_of frame in
    let two = (yes_exactly frame length_taken.0 length_taken.1).0 (ap check_number e) in
    let sum = table_agrees rest (take_bytes (length frame - 2) frame A) in
    ap (by_table 0) (sym (take-append-drop (length frame - 2) frame))
    ∙ by_append 0 rest (last_two frame)
    ∙ ap₂ by_table sum two
    ∙ own_bytes (fcs_of rest) (from_fits 0 rest)

not_yes : (own : Bool) → (own ≡ true → ⊥) → own ≡ false
not_yes true h = absurd (h refl)
not_yes false h = refl

pub one_wrong_byte_is_found : OneWrongByteIsFound
one_wrong_byte_is_found frame A e place wrong h k differs =
    let other = set frame place wrong in
    let bounds = yes_taken frame e in
    let same = length-set frame place wrong in
    let said = taken other (omega arith) (omega arith) in
    said
    ∙ ap Ok
    (not_yes (ends_in_own_fcs other)
    (λ yes. differs
    (same_byte 0 frame place wrong (omega arith) A h k
    (nothing_left other (set_bytes frame place wrong A k) (said ∙ ap Ok yes) ∙ sym (nothing_left frame A e)))))
