-- What the loops of writing and of reading have done so far, on plain lists.
-- Assumes nothing.
use Rattle.std.proofs.Common.{Option, Some, None, ◌&&◌, ℕ, zero, suc, ◌≡◌, ◌+◌, ◌-◌, ◌<◌, ◌≤◌, min, List, [], ◌∷◌, ◌++◌, map, length, get_or, take, drop, replicate, append_assoc, refl, sym, ap, ◌∙◌, arith}
pub use Rattle.std.proofs.Common.{append-nil}
pub use Rattle.std.proofs.lemmas.List.{length_push}
pub use borrow.Author.Tests.{lt-leb}
use Rattle.std.specs.List.{flat_map}
use Rattle.std.proofs.lemmas.List.{take_min, drop_min, take_all}
use lib.Seq.{get_or-take, take-append_seam, drop-append_seam}
use borrow.Author.Tests.{eq-eqb, ne_eqb}
use Rattle.std.specs.Prelude.{slice_get}
use Rattle.tasks.specs.declared.Request.{Request}
use Rattle.tasks.specs.declared.State.{State}
use Rattle.util.specs.Bytes.{number_at}
use Rattle.line_bytes.specs.Layout.{record_bytes, free_bytes, written_line, request_at, read_records}
use Rattle.line_bytes.specs.Valid.{request_fits, line_fits}

-- the records of all requests, and free ones behind them
all_records : (qs : List Request) → length qs ≤ 4 → flat_map (λ x. x) (map record_bytes qs ++ replicate (4 - length qs) free_bytes) ≡ written_line qs
unfolding written_line
all_records [] h = refl
all_records (a ∷ []) h = refl
all_records (a ∷ b ∷ []) h = refl
all_records (a ∷ b ∷ c ∷ []) h = refl
all_records (a ∷ b ∷ c ∷ d ∷ []) h = refl
all_records (a ∷ b ∷ c ∷ d ∷ e ∷ qs) h = absurd (omega arith)

pub all_written : (qs : List Request) (i : ℕ) → length qs ≤ i → i ≤ length qs → length qs ≤ 4
    → flat_map (λ x. x) (map record_bytes (take i qs) ++ replicate (4 - i) free_bytes) ≡ written_line qs
all_written qs i a b h = let e : i ≡ length qs = omega arith in rw (take_all i qs a, e) (all_records qs h)

-- a front that has all bytes of a number gives the same number
number_in_front : (bytes : List ℕ) (w k n : ℕ) → k + n ≤ w → number_at (take w bytes) k n ≡ number_at bytes k n
unfolding number_at
number_in_front bytes w k zero h = refl
number_in_front bytes w k (suc n) h = rw (get_or-take w bytes k 0 (omega arith), number_in_front bytes w (k + 1) n (omega arith))

-- .. and a front that has a whole record the same request
request_of_front : (bytes : List ℕ) (w : ℕ) → 24 ≤ w → request_at (take w bytes) ≡ request_at bytes
unfolding request_at
request_of_front bytes w h = grind (arith, number_in_front, get_or-take)

-- ---- Reading: bytes cut into their front record and what is behind it
module _ (front rest : List ℕ) where
  cut : length front ≡ min 24 (length (front ++ rest)) → (front ≡ take 24 (front ++ rest)) × (rest ≡ drop 24 (front ++ rest))
  cut n =
      let a : take (length front) (front ++ rest) ≡ front = take-append_seam front rest in
      let b : drop (length front) (front ++ rest) ≡ rest = drop-append_seam front rest in
      (sym a ∙ rw n (take_min 24 (front ++ rest)), sym b ∙ rw n (drop_min 24 (front ++ rest)))

  kind_in_front : length front ≡ min 24 (length (front ++ rest)) → get_or (front ++ rest) 0 0 ≡ get_or front 0 0
  kind_in_front n = sym (get_or-take 24 (front ++ rest) 0 0 (omega arith)) ∙ ap (λ xs. get_or xs 0 0) (sym (cut n).0)

  -- the request of a record that is not free, and what is behind it
  one_read : (left after : ℕ) → left ≡ suc after → length front ≡ min 24 (length (front ++ rest)) → (get_or front 0 0 ≡ 0 → ⊥)
      → read_records left (front ++ rest) ≡ request_at front ∷ read_records after rest
  unfolding read_records
  one_read left after s n k =
      let c = cut n in
      let q : request_at front ≡ request_at (front ++ rest) = ap request_at c.0 ∙ request_of_front (front ++ rest) 24 (omega arith) in
      rw (s, ne_eqb (get_or (front ++ rest) 0 0) 0 (λ z. k (sym (kind_in_front n) ∙ z)), q, ← c.1) refl

  pub read_more : (left : ℕ) → 0 < left → length front ≡ min 24 (length (front ++ rest)) → (get_or front 0 0 ≡ 0 → ⊥)
      → read_records left (front ++ rest) ≡ request_at front ∷ read_records (left - 1) rest
  read_more left s n k = one_read left (left - 1) (omega arith) n k

  -- none is read of a free record, or of those behind it
  pub free_ends : (left : ℕ) → length front ≡ min 24 (length (front ++ rest)) → get_or front 0 0 ≡ 0 → read_records left (front ++ rest) ≡ []
  unfolding read_records
  free_ends zero n h = refl
  free_ends (suc left) n h = rw (eq-eqb (get_or (front ++ rest) 0 0) 0 (kind_in_front n ∙ h))

-- nor where no bytes are left
pub none_left : (left : ℕ) (bytes : List ℕ) → length bytes ≡ 0 → read_records left bytes ≡ []
unfolding read_records
none_left zero bytes h = refl
none_left (suc left) [] h = refl
none_left (suc left) (b ∷ bytes) h = absurd (omega arith)

pub none_wanted : (left : ℕ) (bytes : List ℕ) → left ≡ 0 → read_records left bytes ≡ []
unfolding read_records
none_wanted left bytes h = rw h

-- one more request at the end of the line
pub one_more : {A : Type 0} (xs : List A) (x : A) (ys : List A) → (xs ++ x ∷ []) ++ ys ≡ xs ++ x ∷ ys
one_more xs x ys = append_assoc xs (x ∷ []) ys

-- what the search is given for the loop of line_at
pub ruleset reading = (read_more, free_ends, none_left, none_wanted, one_more, append-nil, length_push, lt-leb)

-- ---- Which requests fit: the one at a place with those behind it, and then those

module _ (s : State) where
  pub fits_turn : (qs : List Request) (i : ℕ) (q : Request) → slice_get qs i ≡ Some q
      → line_fits s (drop i qs) ≡ request_fits s q (drop (suc i) qs) && line_fits s (drop (suc i) qs)
  unfolding line_fits
  fits_turn [] i q h = absurd (let z : ◌≡◌ {A = Option Request} None (Some q) = h in cc)
  fits_turn (r ∷ qs) zero q h = let same : r ≡ q = cc in rw same refl
  fits_turn (r ∷ qs) (suc i) q h = fits_turn qs i q h
