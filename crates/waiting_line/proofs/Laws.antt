-- Facts on the line as a list and on runs of records, and the laws that specs/Line.antt states.
-- Assumes nothing.
use Rattle.std.proofs.Common.{ℕ, zero, suc, ◌≡◌, ◌+◌, ◌<◌, ◌≤◌, Bool, true, false, cond, not, List, [], ◌∷◌, ◌++◌, length, take, get_or, leb, refl, None, Some, append-nil, add-one, length-set, ap, sym, ◌∙◌, arith}
use Rattle.std.specs.Prelude.{remove, position, find, slice_get, slice_set}
use Rattle.std.specs.List.{position_or_len}
use Rattle.std.specs.Set.{remove_key}
use Rattle.std.proofs.lemmas.Grind.{common_steps}
use Rattle.std.proofs.lemmas.Option.{slice_get_past}
use Rattle.std.proofs.lemmas.List.{take_all, take_more, take_more_set}
use Rattle.std.proofs.lemmas.List.Folds.{find_at}
use Rattle.tasks.specs.declared.Request.{Request}
use Rattle.tasks.specs.declared.Starts.{Starts}
use Rattle.tasks.specs.declared.Task.{Task}
use Rattle.requests.specs.Requests.{allow, start_allowed, not_allowed}
use Rattle.waiting_line.specs.declared.Place.{Place}
use Rattle.waiting_line.specs.declared.RequestRecord.{RequestRecord}
use Rattle.waiting_line.specs.Line.{waits_at, waiting, records, place_for, is_transmit, RecordsKeepLine, TxExactly}

-- ---- The first that passes a test, by its place

module _ {X : Type 0} (p : X → Bool) where
  removed_at : (xs : List X) → position_or_len p xs < length xs → remove xs (position_or_len p xs) ≡ remove_key p xs
  removed_at [] h = absurd (omega arith)
  removed_at (x ∷ xs) h = go (p x) (removed_at xs) h
    where
      go : (b : Bool) → (position_or_len p xs < length xs → remove xs (position_or_len p xs) ≡ remove_key p xs)
          → cond (not b) (1 + position_or_len p xs) 0 < length (x ∷ xs)
          → remove (x ∷ xs) (cond (not b) (1 + position_or_len p xs) 0) ≡ cond b xs (x ∷ remove_key p xs)
      go true rest h = refl
      go false rest h =
          let e : 1 + position_or_len p xs ≡ suc (position_or_len p xs) = omega arith in
          rw e (ap (λ ys. x ∷ ys) (rest (omega arith)))

  -- nothing leaves where none passes
  pub none_leaves : (xs : List X) → find p xs ≡ None → remove_key p xs ≡ xs
  none_leaves [] e = refl
  none_leaves (x ∷ xs) e = go (p x) (none_leaves xs) e
    where
      go : (b : Bool) → (find p xs ≡ None → remove_key p xs ≡ xs) → cond b (Some x) (find p xs) ≡ None
          → cond b xs (x ∷ remove_key p xs) ≡ x ∷ xs
      go true rest e = cc
      go false rest e = ap (λ ys. x ∷ ys) (rest e)

  pub first_found : (xs : List X) (i : ℕ) → position p xs ≡ Some i → slice_get xs i ≡ find p xs
  first_found xs i e = grind (arith, common_steps, find_at p xs)

  pub first_leaves : (xs : List X) (i : ℕ) → position p xs ≡ Some i → remove xs i ≡ remove_key p xs
  first_leaves xs i e = grind (arith, common_steps, removed_at xs)

  pub none_found : (xs : List X) → position p xs ≡ None → find p xs ≡ None
  none_found xs e = find_at p xs ∙ slice_get_past xs _ (grind (arith, common_steps))

  pub no_place : (xs : List X) → position p xs ≡ None → remove_key p xs ≡ xs
  no_place xs e = none_leaves xs (none_found xs e)

-- ---- Runs of records

-- one record more
waiting_more : (rs : List RequestRecord) (i : ℕ) (d : RequestRecord) → i < length rs
    → waiting (take (suc i) rs) ≡ waiting (take i rs) ++ waits_at (get_or rs i d).place []
waiting_more [] i d h = absurd (omega arith)
waiting_more (r ∷ rs) zero d h = refl
waiting_more (r ∷ rs) (suc i) d h = go r.place (waiting_more rs i d (omega arith))
  where
    go : (p : Place) → waiting (take (suc i) rs) ≡ waiting (take i rs) ++ waits_at (get_or rs i d).place []
        → waits_at p (waiting (take (suc i) rs)) ≡ waits_at p (waiting (take i rs)) ++ waits_at (get_or rs i d).place []
    go Place.Free e = e
    go (Place.Waits q) e = ap (λ qs. q ∷ qs) e

-- a line, with what waits at a place
abbrev pub with_place : List Request → Place → List Request
with_place qs Place.Free = qs
with_place qs (Place.Waits q) = cond (leb 4 (length qs)) qs (qs ++ q ∷ [])

four_more : (qs : List Request) (p : Place) → take 4 (qs ++ waits_at p []) ≡ with_place (take 4 qs) p
four_more qs Place.Free = ap (take 4) (append-nil qs)
four_more [] (Place.Waits q) = refl
four_more (a ∷ []) (Place.Waits q) = refl
four_more (a ∷ b ∷ []) (Place.Waits q) = refl
four_more (a ∷ b ∷ c ∷ []) (Place.Waits q) = refl
four_more (a ∷ b ∷ c ∷ d ∷ qs) (Place.Waits q) = refl

pub placed_more : (rs : List RequestRecord) (i : ℕ) (d : RequestRecord) → i < length rs
    → with_place (take 4 (waiting (take i rs))) (get_or rs i d).place ≡ take 4 (waiting (take (i + 1) rs))
placed_more rs i d h =
    sym (rw add-one (ap (take 4) (waiting_more rs i d h) ∙ four_more (waiting (take i rs)) (get_or rs i d).place))

length-waiting : (rs : List RequestRecord) → length (waiting rs) ≤ length rs
length-waiting [] = omega arith
length-waiting (r ∷ rs) = go r.place (length-waiting rs)
  where
    go : (p : Place) → length (waiting rs) ≤ length rs → length (waits_at p (waiting rs)) ≤ length (r ∷ rs)
    go Place.Free h = omega arith
    go (Place.Waits q) h = omega arith

-- a line has room for all that waits in four records
pub all_waiting : (rs : List RequestRecord) → length rs ≤ 4 → take 4 (waiting rs) ≡ waiting rs
all_waiting rs h = take_all 4 (waiting rs) (omega (arith, length-waiting rs))

pub length_records : (n : ℕ) (qs : List Request) → length (records n qs) ≡ n
length_records zero qs = refl
length_records (suc n) [] = ap (λ m. suc m) (length_records n [])
length_records (suc n) (q ∷ qs) = ap (λ m. suc m) (length_records n qs)

pub record_at : (n : ℕ) (qs : List Request) (i : ℕ) (d : RequestRecord) → i < n → get_or (records n qs) i d ≡ record { place = place_for (slice_get qs i) }
record_at zero qs i d h = absurd (omega arith)
record_at (suc n) [] zero d h = refl
record_at (suc n) [] (suc i) d h = record_at n [] i d (omega arith)
record_at (suc n) (q ∷ qs) zero d h = refl
record_at (suc n) (q ∷ qs) (suc i) d h = record_at n qs i d (omega arith)

-- one record more of a run that a line is written into
pub record_more : (rs : List RequestRecord) (qs : List Request) (i : ℕ) (r : RequestRecord) → i < length rs
    → take i rs ≡ take i (records (length rs) qs) → r.place ≡ place_for (slice_get qs i)
    → take (i + 1) (records (length (slice_set rs i r)) qs) ≡ take (i + 1) (slice_set rs i r)
record_more rs qs i r h before e =
    let last = record_at (length rs) qs i r h in
    sym (rw (length-set, take_more_set rs i r h, take_more (records (length rs) qs) i r (rw length_records h), last, before, ← e))

-- ---- The laws

pub records_keep_line : RecordsKeepLine
records_keep_line [] h = refl
records_keep_line (a ∷ []) h = refl
records_keep_line (a ∷ b ∷ []) h = refl
records_keep_line (a ∷ b ∷ c ∷ []) h = refl
records_keep_line (a ∷ b ∷ c ∷ d ∷ []) h = refl
records_keep_line (a ∷ b ∷ c ∷ d ∷ e ∷ qs) h = absurd (omega arith)

pub tx_exactly : TxExactly
unfolding not_allowed start_allowed
tx_exactly q = go q.task
  where
    go : (task : Task) → not (not_allowed (allow Starts.Any Starts.Never) q.start task) ≡ is_transmit task
    go (Task.Tx n cca) = refl
    go Task.Rx = refl
