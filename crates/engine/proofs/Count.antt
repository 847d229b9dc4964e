-- How often a number stands in a list, after one is put in front and after one is struck out.
-- Assumes nothing.
use Prim.Native.Nat.{ℕ, suc, ◌+◌, ◌≤◌}
use mathlib.Core.Path.{◌≡◌, refl, sym, ◌∙◌, ap}
use mathlib.Core.Bool.{Bool, true, false, cond}
use mathlib.Core.List.{List, [], ◌∷◌}
use lib.Dec.{eqb, ltb}
use lib.ListN.{length}
use native.Mathlib.Omega.{arith}
use borrow.Author.Tests.{eq-eqb, eqb-true, ltb-false, lt-ltb}
use Rattle.engine.specs.Book.{strike_number, has_number}
use Rattle.engine.specs.BookClaims.{one, count}

pub one_self : (x : ℕ) → one x x ≡ 1
one_self x = simp (eq-eqb x x refl)

pub one_le : (x y : ℕ) → one x y ≤ 1
one_le x y = go (eqb y x)
  where
    go : (t : Bool) → cond t 1 0 ≤ 1
    go true = omega arith
    go false = omega arith

pub count_strike : (x y : ℕ) (l : List ℕ) → 1 ≤ count x l → count y (strike_number x l) + one y x ≡ count y l
count_strike x y [] h = omega arith
count_strike x y (z ∷ l) h = go (eqb z x) refl (count_strike x y l)
  where
    go : (t : Bool) → eqb z x ≡ t → (1 ≤ count x l → count y (strike_number x l) + one y x ≡ count y l) → count y (strike_number x (z ∷ l)) + one y x ≡ count y (z ∷ l)
    go true e ih = rw e (rw (eqb-true z x e) (omega arith))
    go false e ih = let h'' : 1 ≤ 0 + count x l = rw e at h in
        let h' : 1 ≤ count x l = omega arith in
        let k = ih h' in rw e (omega arith)

pub length_strike : (x : ℕ) (l : List ℕ) → 1 ≤ count x l → suc (length (strike_number x l)) ≡ length l
length_strike x [] h = omega arith
length_strike x (z ∷ l) h = go (eqb z x) refl (length_strike x l)
  where
    go : (t : Bool) → eqb z x ≡ t → (1 ≤ count x l → suc (length (strike_number x l)) ≡ length l) → suc (length (strike_number x (z ∷ l))) ≡ length (z ∷ l)
    go true e ih = rw e
    go false e ih = let h'' : 1 ≤ 0 + count x l = rw e at h in
        let h' : 1 ≤ count x l = omega arith in
        rw e (ap suc (ih h'))

-- a list that holds x once more than R says: with x struck out it holds what R says, and is one shorter
module _ (x : ℕ) (l : List ℕ) (R : ℕ → ℕ) (same : (y : ℕ) → count y l ≡ one y x + R y) where
  there : 1 ≤ count x l
  there = omega (arith, same x, one_self x)

  pub struck : (y : ℕ) → count y (strike_number x l) ≡ R y
  struck y = omega (arith, same y, count_strike x y l there)

  pub shorter : suc (length (strike_number x l)) ≡ length l
  shorter = length_strike x l there

pub has_count : (x : ℕ) (l : List ℕ) → has_number x l ≡ ltb 0 (count x l)
has_count x [] = refl
has_count x (y ∷ l) = go (eqb y x) refl (has_count x l)
  where
    go : (t : Bool) → eqb y x ≡ t → has_number x l ≡ ltb 0 (count x l) → has_number x (y ∷ l) ≡ ltb 0 (count x (y ∷ l))
    go true e ih = rw e (sym (lt-ltb 0 (1 + count x l) (omega arith)))
    go false e ih = let p : count x l ≡ 0 + count x l = omega arith in rw e (ih ∙ ap (ltb 0) p)

pub none_there : (x : ℕ) (l : List ℕ) → has_number x l ≡ false → count x l ≡ 0
none_there x l h = omega (arith, ltb-false 0 (count x l) (sym (has_count x l) ∙ h))

pub still_once : (x y : ℕ) (l : List ℕ) → count x l ≡ 0 → count y l ≤ 1 → count y (x ∷ l) ≤ 1
still_once x y l n h = go (eqb x y) refl
  where
    go : (t : Bool) → eqb x y ≡ t → count y (x ∷ l) ≤ 1
    go true e = let k : count y l ≡ 0 = rw (eqb-true x y e) at n in rw e (omega arith)
    go false e = rw e (omega arith)
