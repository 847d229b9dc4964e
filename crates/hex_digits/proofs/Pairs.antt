-- The bytes of pairs, in the chunks of two digits that the code takes, and as an array that is made place by place.
-- Assumes nothing.
use mathlib.Core.Path.{◌≡◌, refl, subst, ◌∙◌}
use mathlib.Core.List.{List, [], ◌∷◌, map}
use Prim.Native.Nat.{ℕ, zero, suc, ◌+◌, ◌*◌, ◌/◌, ◌<◌, ◌≤◌}
use native.Mathlib.Omega.{arith}
use lib.ListN.{length, get_or}
use denote.Param.Members.{Mut, Called}
use Rattle.std.specs.Array.{IsFromFnResultFrom, IsFromFnResult}
use Rattle.std.specs.List.{range_with_len}
use Rattle.std.specs.Simd.{first_chunks}
use Rattle.std.proofs.lemmas.List.FromFn.{fill_by_all}
use Rattle.hex_digits.specs.Hex.{digit_value, byte_of_pair, DigitsInOrder}

pub digits_in_order : DigitsInOrder
digits_in_order = refl

-- the byte of a pair that is there
of_chunk : (digits : List ℕ) (k place : ℕ) → k ≡ length digits / 2 → place < k
    → byte_of_pair digits place
    ≡ 16 * digit_value (get_or (get_or (first_chunks 2 k digits) place []) 0 0) + digit_value (get_or (get_or (first_chunks 2 k digits) place []) 1 0)
of_chunk digits zero place e h = absurd (omega arith)
of_chunk [] (suc k) place e h = absurd (omega arith)
of_chunk (lone ∷ []) (suc k) place e h = absurd (omega arith)
of_chunk (high ∷ low ∷ digits) (suc k) zero e h = refl
of_chunk (high ∷ low ∷ digits) (suc k) (suc place) e h = of_chunk digits k place (omega arith) (omega arith)

pub of_pair : (digits : List ℕ) (place : ℕ) → place < length digits / 2
    → byte_of_pair digits place
    ≡ 16 * digit_value (get_or (get_or (first_chunks 2 (length digits / 2) digits) place []) 0 0)
    + digit_value (get_or (get_or (first_chunks 2 (length digits / 2) digits) place []) 1 0)
of_pair digits place h = of_chunk digits (length digits / 2) place refl h

-- where there is none
pub no_pair : (digits : List ℕ) (place : ℕ) → length digits / 2 ≤ place → byte_of_pair digits place ≡ 0
no_pair [] place h = refl
no_pair (lone ∷ []) place h = refl
no_pair (high ∷ low ∷ digits) zero h = absurd (omega arith)
no_pair (high ∷ low ∷ digits) (suc place) h = no_pair digits place (omega arith)

-- An array from a closure that no call changes.
module _ {F : Type 0} (g : Mut F (ℕ × Unit {0}) ℕ) (value : ℕ → ℕ) (f : F) (h : (i y : ℕ) (f' : F) → Called g f (i, tt) y f' → (y ≡ value i) × (f' ≡ f)) where
  each_same : (ys : List ℕ) (i n : ℕ) → IsFromFnResultFrom g f ys i n → (k j : ℕ) → k < n → i + k ≡ j → get_or ys j 0 ≡ value j
  each_same ys i zero t k j l e = absurd (omega arith)
  each_same ys i (suc n) t zero j l e =
      let first : i ≡ j = omega arith in
      subst (λ (x : ℕ). get_or ys x 0 ≡ value x) first (t.2.1 0 ∙ (h i t.1 t.0 t.3).0)
  each_same ys i (suc n) t (suc k) j l e =
      each_same ys (i + 1) n (subst (λ (q : F). IsFromFnResultFrom g q ys (i + 1) n) (h i t.1 t.0 t.3).1 t.4) k j (omega arith) (omega arith)

  pub made_same : (ys : List ℕ) (n : ℕ) → IsFromFnResult g f ys n → ys ≡ map value (range_with_len 0 n)
  made_same ys n t = fill_by_all value ys n 0 t.long (λ k l. each_same ys 0 n t.each k k l (omega arith))
