-- The test of two byte lists.
-- Assumes nothing.
use Prim.Native.Nat.{ℕ}
use mathlib.Core.Path.{◌≡◌, refl, sym, ap, ◌∙◌}
use mathlib.Core.Bool.{true, ◌&&◌}
use mathlib.Core.List.{List, [], ◌∷◌}
use lib.Dec.{eqb}
use Rattle.std.proofs.lemmas.Slice.Eq.{bytes_eq-Decides}
use Rattle.std.specs.Cmp.Lexicographic.{pointwise}
use Rattle.std.specs.Prelude.{nat_eq}
use Rattle.state_bytes.specs.Valid.{same_list}

-- what `==` says of two slices
pub same_list_is : (a b : List ℕ) → same_list a b ≡ pointwise nat_eq a b
unfolding same_list
same_list_is [] [] = refl
same_list_is [] (y ∷ ys) = refl
same_list_is (x ∷ xs) [] = refl
same_list_is (x ∷ xs) (y ∷ ys) = ap (λ b. eqb x y && b) (same_list_is xs ys)

pub same_true : (a b : List ℕ) → same_list a b ≡ true → a ≡ b
same_true a b h = (bytes_eq-Decides a b).0 (sym (same_list_is a b) ∙ h)

pub same_refl : (a : List ℕ) → same_list a a ≡ true
same_refl a = same_list_is a a ∙ (bytes_eq-Decides a a).1 refl
