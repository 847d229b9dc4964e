-- The check: its answer, when it is refused and when it is yes, and a frame that ends with its own checksum.
-- Assumes nothing.
use Prim.Native.Nat.{ℕ, ◌+◌, ◌*◌, ◌-◌, ◌/◌, ◌%◌, ◌^◌, ◌≤◌, ◌<◌}
use mathlib.Core.Path.{◌≡◌, refl, sym, ◌∙◌, ap, ap₂}
use mathlib.Core.Logic.{◌⊎◌, inl, inr, ⊎_elim}
use mathlib.Core.Bool.{Bool, true, false, cond, ◌&&◌, xor}
use mathlib.Core.List.{List, [], ◌∷◌, ◌++◌}
use native.Mathlib.Omega.{arith}
use lib.Dec.{eqb}
use lib.ListN.{length, get_or, take, drop, length-append, length-drop}
use lib.Seq.{get_or-drop, take-append_seam, drop-append_seam}
use Rattle.std.specs.Prelude.{Result, Ok, Err}
use Rattle.std.specs.Int.{w8, w16, from_le_bytes}
use Rattle.std.proofs.Common.{Fits}
use Rattle.std.proofs.lemmas.Bool.{cases_lt}
use Rattle.std.proofs.lemmas.Bool.Decides.{nat_tests}
use Rattle.refusals.specs.declared.Refusal.{Refusal}
use Rattle.fcs.specs.Fcs.{fcs_of, fcs_from, fcs_bytes}
use Rattle.fcs.specs.Check.{unfit_length, last_two, rest_of, same_two, ends_in_own_fcs, check_of, check_number, FcsChecked}
use Rattle.fcs.specs.Laws.{MarkedRow, RefusedExactly, YesExactly, OwnChecksumIsRight}
use Rattle.fcs.proofs.ByTable.{from_fits}

pub marked_row : MarkedRow
unfolding fcs_bytes fcs_of fcs_from xor
marked_row = refl

-- ---- The answer

unfit : (frame : List ℕ) → (length frame < 3) ⊎ (127 < length frame) → unfit_length frame ≡ true
unfit frame h = grind (arith, nat_tests)

fit : (frame : List ℕ) → 3 ≤ length frame → length frame ≤ 127 → unfit_length frame ≡ false
fit frame h k = grind (arith, nat_tests)

pub refused : (frame : List ℕ) → (length frame < 3) ⊎ (127 < length frame) → check_of frame ≡ Err Refusal.FrameLength
unfolding check_of
refused frame h = rw (unfit frame h)

pub taken : (frame : List ℕ) → 3 ≤ length frame → length frame ≤ 127 → check_of frame ≡ Ok (ends_in_own_fcs frame)
unfolding check_of
taken frame h k = rw (fit frame h k)

-- two bytes are those of a number exactly if they make that number
same_number : (low high n : ℕ) → low < 256 → high < 256 → n < 2 ^ 16
    → eqb n (low + high * 256) ≡ (eqb low (n % 256) && eqb high (n / 256 % 256))
same_number low high n f g k = grind (arith, nat_tests)

-- the number goes with the case
number_of : (unfit own : Bool) → check_number (cond unfit (Err Refusal.FrameLength) (Ok own)) ≡ cond unfit 14 (cond own 0 255)
number_of true own = refl
number_of false true = refl
number_of false false = refl

pub checked : (frame : List ℕ) (r : Result Bool Refusal) → r ≡ check_of frame → FcsChecked frame r
unfolding check_of
checked frame r e = record { case = e; number = ap check_number e ∙ number_of (unfit_length frame) (ends_in_own_fcs frame) }

pub answered_refused : (frame : List ℕ) → (length frame < 3) ⊎ (127 < length frame) → FcsChecked frame (Err Refusal.FrameLength)
answered_refused frame h = checked frame _ (sym (refused frame h))

-- the answer by the two numbers that the code compares: the checksum of the rest, and that which the last two bytes are
pub answered : (frame : List ℕ) → 3 ≤ length frame → length frame ≤ 127 → ((i : ℕ) → Fits w8 (get_or frame i 0))
    → FcsChecked frame (Ok (eqb (fcs_of (rest_of frame)) (from_le_bytes w16 (last_two frame))))
unfolding fcs_bytes fcs_of
answered frame h k bytes =
    let n = length frame - 2 in
    let fits : fcs_of (rest_of frame) < 2 ^ 16 = from_fits 0 (rest_of frame) in
    let low : get_or (last_two frame) 0 0 < 256 = rw get_or-drop (bytes (n + 0)).fits in
    let high : get_or (last_two frame) 1 0 < 256 = rw get_or-drop (bytes (n + 1)).fits in
    checked frame _
    (ap Ok (same_number (get_or (last_two frame) 0 0) (get_or (last_two frame) 1 0) (fcs_of (rest_of frame)) low high fits)
    ∙ sym (taken frame h k))

-- ---- When it is refused, and when it is yes

-- a frame is refused, or its bytes decide
pub decided : (frame : List ℕ) → ((length frame < 3) ⊎ (127 < length frame)) ⊎ ((3 ≤ length frame) × (length frame ≤ 127))
decided frame =
    ⊎_elim
    (λ h. inl (inl h))
    (λ h. ⊎_elim (λ k. inl (inr k)) (λ k. inr (h, k)) (cases_lt 127 (length frame)))
    (cases_lt (length frame) 3)

not_refused : (own : Bool) → check_number (Ok own) ≡ 14 → ⊥
not_refused true e = absurd (omega arith)
not_refused false e = absurd (omega arith)

pub refused_exactly : RefusedExactly
refused_exactly frame = (
  λ e. ⊎_elim (λ h. h) (λ h. absurd (not_refused _ (ap check_number (sym (taken frame h.0 h.1)) ∙ e))) (decided frame),
  λ h. ap check_number (refused frame h),
)

said_yes : (own : Bool) → check_number (Ok own) ≡ 0 → own ≡ true
said_yes true e = refl
said_yes false e = absurd (omega arith)

two_same : (xs ys : List ℕ) → length xs ≡ 2 → length ys ≡ 2 → same_two xs ys ≡ true → xs ≡ ys
two_same [] ys h k t = absurd (omega arith)
two_same (x ∷ []) ys h k t = absurd (omega arith)
two_same (x ∷ x' ∷ x'' ∷ xs) ys h k t = absurd (omega arith)
two_same (x ∷ x' ∷ []) [] h k t = absurd (omega arith)
two_same (x ∷ x' ∷ []) (y ∷ []) h k t = absurd (omega arith)
two_same (x ∷ x' ∷ []) (y ∷ y' ∷ y'' ∷ ys) h k t = absurd (omega arith)
two_same (x ∷ x' ∷ []) (y ∷ y' ∷ []) h k t = grind (arith, nat_tests)

same_two_lem : (xs : List ℕ) → same_two xs xs ≡ true
same_two_lem xs = grind (arith, nat_tests)

pub yes_exactly : YesExactly
unfolding fcs_bytes
yes_exactly frame h k =
    let ends = last_two frame in
    let own = fcs_bytes (rest_of frame) in
    let two : length ends ≡ 2 = length-drop (length frame - 2) frame ∙ omega arith in (
      λ e. two_same ends own two refl (said_yes (ends_in_own_fcs frame) (sym (ap check_number (taken frame h k)) ∙ e)),
      λ e. ap check_number (taken frame h k ∙ ap Ok (ap (λ (l : List ℕ). same_two l own) e ∙ same_two_lem own)),
    )

pub own_checksum_is_right : OwnChecksumIsRight
unfolding fcs_bytes
own_checksum_is_right bytes h k =
    let frame = bytes ++ fcs_bytes bytes in
    let whole : length frame ≡ length bytes + 2 = length-append bytes (fcs_bytes bytes) in
    let n : length frame - 2 ≡ length bytes = omega arith in
    let ends : last_two frame ≡ fcs_bytes bytes = ap (λ (j : ℕ). drop j frame) n ∙ drop-append_seam bytes (fcs_bytes bytes) in
    let begins : rest_of frame ≡ bytes = ap (λ (j : ℕ). take j frame) n ∙ take-append_seam bytes (fcs_bytes bytes) in
    taken frame (omega arith) (omega arith) ∙ ap Ok (ap₂ (λ (xs ys : List ℕ). same_two xs (fcs_bytes ys)) ends begins ∙ same_two_lem (fcs_bytes bytes))
