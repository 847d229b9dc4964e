-- Two bytes at a time: an odd first byte and the pairs after it, and a step by the table.
-- Assumes nothing.
use Prim.Native.Nat.{ℕ, zero, suc, ◌*◌, ◌/◌, ◌%◌, ◌^◌, ◌≤◌, ◌<◌}
use mathlib.Core.Path.{◌≡◌, refl, sym, ◌∙◌, ap, ap₂, subst⁻¹}
use mathlib.Core.Bool.{xor}
use mathlib.Core.List.{List, [], ◌∷◌}
use native.Mathlib.Omega.{arith}
use lib.Bits.{bit_xor, xor_comm, xor_assoc, xor_lt, xor_shr, xor_mod}
use lib.ListN.{length, get_or, take, drop, length-drop, take-append-drop}
use Rattle.std.specs.List.{fold}
use Rattle.std.proofs.lemmas.List.{take_all}
use Rattle.std.specs.Simd.{first_chunks}
use Rattle.fcs.specs.Fcs.{fcs_from, fcs_of}
use Rattle.fcs.specs.Table.{fcs_table, table_step}
use Rattle.fcs.proofs.ByTable.{every_entry, from_cons, from_append, from_fits, from_none, table_byte}

-- the checksum of one byte, or of none
pub one_byte : (odd : List ℕ) → 0 < length odd → length odd < 2 → fcs_of odd ≡ fcs_of (get_or odd 0 0 ∷ [])
one_byte [] some h = absurd (omega arith)
one_byte (b ∷ c ∷ odd) some h = absurd (omega arith)
one_byte (b ∷ []) some h = refl

pub no_byte : (odd : List ℕ) → length odd ≡ 0 → fcs_of odd ≡ 0
unfolding fcs_of fcs_from xor
no_byte [] e = refl
no_byte (b ∷ odd) e = absurd (omega arith)

-- steps of two bytes each, over bytes that are even in number
over_pairs : (k start : ℕ) (bytes : List ℕ) → start < 2 ^ 16 → length bytes ≡ k * 2 → fold fcs_from start (first_chunks 2 k bytes) ≡ fcs_from start bytes
over_pairs zero start [] f h = sym (from_none start f)
over_pairs zero start (b ∷ bytes) f h = absurd (omega arith)
over_pairs (suc k) start [] f h = absurd (omega arith)
over_pairs (suc k) start (b ∷ []) f h = absurd (omega arith)
over_pairs (suc k) start (b ∷ c ∷ bytes) f h =
    over_pairs k (fcs_from start (b ∷ c ∷ [])) bytes (from_fits start (b ∷ c ∷ [])) (omega arith)
    ∙ sym (from_append start (b ∷ c ∷ []) bytes f)

-- an odd first byte, and then the others up to the last
pub odd_and_pairs : (bytes : List ℕ) (pairs : List (List ℕ)) (register i : ℕ) → register ≡ fcs_of (take (length bytes % 2) bytes)
    → pairs ≡ first_chunks 2 (length bytes / 2) (drop (length bytes % 2) bytes) → length pairs ≤ i
    → fold fcs_from register (take i pairs) ≡ fcs_of bytes
unfolding fcs_of
odd_and_pairs bytes pairs register i r p h =
    let k = length bytes % 2 in
    let fits : register < 2 ^ 16 = subst⁻¹ (λ (n : ℕ). n < 2 ^ 16) r (from_fits 0 (take k bytes)) in
    ap (fold fcs_from register) (take_all i pairs h ∙ p)
    ∙ over_pairs (length bytes / 2) register (drop k bytes) fits (length-drop k bytes ∙ omega arith)
    ∙ ap (λ (n : ℕ). fcs_from n (drop k bytes)) r
    ∙ sym (from_append 0 (take k bytes) (drop k bytes) (omega arith))
    ∙ ap (fcs_from 0) (take-append-drop k bytes)

-- a step by the table: the register's low byte goes with the first of two bytes, its high byte with the second
pub two_bytes : (start b c : ℕ) → start < 2 ^ 16 → b < 256 → c < 256
    → (entry : ℕ) → entry ≡ get_or fcs_table (bit_xor (start % 256) b) 0
    → bit_xor (entry / 256) (get_or fcs_table (bit_xor (entry % 256) (bit_xor (start / 256) c)) 0) ≡ fcs_from start (b ∷ c ∷ [])
unfolding table_step
two_bytes start b c f g h entry e =
    let first : bit_xor (start / 256) entry ≡ fcs_from start (b ∷ []) = ap (bit_xor (start / 256)) e ∙ table_byte start b f g in
    let none : start / 256 / 256 ≡ 0 = omega arith in
    let whole : start / 256 % 256 ≡ start / 256 = omega arith in
    let high : bit_xor (start / 256) entry / 256 ≡ entry / 256
    = xor_shr (start / 256) entry 8 ∙ ap (λ (n : ℕ). bit_xor n (entry / 256)) none in
    let low : bit_xor (start / 256) entry % 256 ≡ bit_xor (entry % 256) (start / 256)
    = xor_mod (start / 256) entry 8 ∙ ap (λ (n : ℕ). bit_xor n (entry % 256)) whole ∙ xor_comm (start / 256) (entry % 256) in
    let place : bit_xor (bit_xor (start / 256) entry % 256) c ≡ bit_xor (entry % 256) (bit_xor (start / 256) c)
    = ap (λ (n : ℕ). bit_xor n c) low ∙ xor_assoc (entry % 256) (start / 256) c in
    ap₂ bit_xor (sym high) (ap (λ (n : ℕ). get_or fcs_table n 0) (sym place))
    ∙ ap (λ (n : ℕ). table_step n c) first
    ∙ table_byte (fcs_from start (b ∷ [])) c (from_fits start (b ∷ [])) h
    ∙ sym (from_cons start b (c ∷ []))

-- the same of two bytes as a pair, with the two bytes of the register and of the entry
pub pair_by_table : (start : ℕ) (pair : List ℕ) → start < 2 ^ 16 → length pair ≡ 2 → get_or pair 0 0 < 256 → get_or pair 1 0 < 256
    → fcs_from start pair
    ≡ bit_xor
    (get_or fcs_table (bit_xor (start % 256) (get_or pair 0 0)) 0 / 256 % 256)
    (get_or fcs_table
    (bit_xor (bit_xor (get_or fcs_table (bit_xor (start % 256) (get_or pair 0 0)) 0 % 256) (start / 256 % 256)) (get_or pair 1 0)) 0)
unfolding fcs_of
pair_by_table start [] f h g k = absurd (omega arith)
pair_by_table start (b ∷ []) f h g k = absurd (omega arith)
pair_by_table start (b ∷ c ∷ d ∷ pair) f h g k = absurd (omega arith)
pair_by_table start (b ∷ c ∷ []) f h g k =
    let place = bit_xor (start % 256) b in
    let entry = get_or fcs_table place 0 in
    let is_entry : entry ≡ fcs_from 0 (place ∷ []) = every_entry.1 place (xor_lt 8 (start % 256) b (omega arith) g) in
    let fits : entry < 2 ^ 16 = rw is_entry (from_fits 0 (place ∷ [])) in
    let high : entry / 256 % 256 ≡ entry / 256 = omega arith in
    let whole : start / 256 % 256 ≡ start / 256 = omega arith in
    sym (rw (high, whole, xor_assoc (entry % 256) (start / 256) c) (two_bytes start b c f g k entry refl))
