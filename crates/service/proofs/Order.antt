-- Requests of one kind leave in the order of their arrival: an arrival that leaves is the first of its kind among those that wait, so
-- those that have left and those that wait are, of each kind, the same list before and after.
-- Assumes nothing.
use Rattle.std.proofs.lemmas.Bool.{and_parts, false≢true}
use Prim.Native.Nat.{ℕ, suc, ◌<◌}
use mathlib.Core.Path.{◌≡◌, refl, sym, ◌∙◌, ap}
use mathlib.Core.Bool.{Bool, true, false, cond, not, beq}
use mathlib.Core.List.{List, [], ◌∷◌, ◌++◌}
use native.Mathlib.Omega.{arith}
use Rattle.tasks.specs.declared.Allowed.{Allowed}
use Rattle.tasks.specs.declared.Request.{Request}
use Rattle.tasks.specs.declared.Starts.{Starts}
use Rattle.tasks.specs.declared.Task.{Task}
use Rattle.tasks.specs.declared.Timestamp.{Timestamp}
use Rattle.requests.specs.Requests.{timed, start_allowed, not_allowed}
use Rattle.engine.specs.Asks.{Asks, no_ask, ask, listens}
use Rattle.waiting_line.specs.Line.{is_transmit}
use Rattle.service.specs.LineBook.{Arrival, earliest_in, others_in, allowed_by}
use Rattle.service.specs.LineClaims.{of_kind, places_of, AllOf, Rising}

-- ---- Places of lists that are put together

places_append : (p : Request → Bool) (xs ys : List Arrival) → places_of p (xs ++ ys) ≡ places_of p xs ++ places_of p ys
places_append p [] ys = refl
places_append p (a ∷ xs) ys = go (p a.request) (places_append p xs ys)
  where
    go : (t : Bool) → places_of p (xs ++ ys) ≡ places_of p xs ++ places_of p ys
        → cond t (a.place ∷ places_of p (xs ++ ys)) (places_of p (xs ++ ys)) ≡ cond t (a.place ∷ places_of p xs) (places_of p xs) ++ places_of p ys
    go true ih = ap (λ (l : List ℕ). a.place ∷ l) ih
    go false ih = ih

-- ---- A test that is the same for all requests of a kind

pub record ByKind (kind p : Request → Bool) : Type 0 where
  pub same : (q r : Request) → kind q ≡ true → kind r ≡ true → p q ≡ p r

-- the one that leaves, then those that stay behind: of the kind, the same as before
pub leaves_in_order : (kind p : Request → Bool) (rest : List Arrival) → ByKind kind p
    → places_of kind (earliest_in p rest) ++ places_of kind (others_in p rest) ≡ places_of kind rest
leaves_in_order kind p [] B = refl
leaves_in_order kind p (a ∷ rest) B = go (p a.request) refl (kind a.request) refl (leaves_in_order kind p rest B)
  where
    none_first : (xs : List Arrival) → p a.request ≡ false → kind a.request ≡ true → places_of kind (earliest_in p xs) ≡ []
    none_first [] e k = refl
    none_first (x ∷ xs) e k = at (p x.request) refl (kind x.request) refl (none_first xs e k)
      where
        at : (t : Bool) → p x.request ≡ t → (u : Bool) → kind x.request ≡ u → places_of kind (earliest_in p xs) ≡ []
            → places_of kind (earliest_in p (x ∷ xs)) ≡ []
        at true f true g ih = absurd (false≢true (sym e ∙ B.same a.request x.request k g ∙ f))
        at true f false g ih = simp (f, g)
        at false f u g ih = simp (f, ih)

    go : (t : Bool) → p a.request ≡ t → (u : Bool) → kind a.request ≡ u
        → places_of kind (earliest_in p rest) ++ places_of kind (others_in p rest) ≡ places_of kind rest
        → places_of kind (earliest_in p (a ∷ rest)) ++ places_of kind (others_in p (a ∷ rest)) ≡ places_of kind (a ∷ rest)
    go true e true k ih = simp (e, k)
    go true e false k ih = simp (e, k)
    go false e true k ih =
        let first = none_first rest e k in
        let others : places_of kind (others_in p rest) ≡ places_of kind rest = rw first at ih in
        simp (e, k, first, others)
    go false e false k ih = simp (e, k, ih)

-- ---- What a wait allows is the same for all requests of a kind

beq_true : (x y : Bool) → beq x y ≡ true → x ≡ y
beq_true true true h = refl
beq_true true false h = absurd (false≢true h)
beq_true false true h = absurd (false≢true h)
beq_true false false h = refl

start_by_kind : (w : Starts) (s t : Timestamp) → timed s ≡ timed t → start_allowed w s ≡ start_allowed w t
unfolding start_allowed
start_by_kind Starts.Never s t e = refl
start_by_kind Starts.BestEffort s t e = ap not e
start_by_kind Starts.Any s t e = refl

task_by_kind : (w : Allowed) (s t : Timestamp) (x y : Task) → timed s ≡ timed t → is_transmit x ≡ is_transmit y → not_allowed w s x ≡ not_allowed w t y
unfolding not_allowed
task_by_kind w s t (Task.Tx n c) (Task.Tx m d) e f = ap not (start_by_kind w.tx s t e)
task_by_kind w s t (Task.Tx n c) Task.Rx e f = absurd (false≢true (sym f))
task_by_kind w s t Task.Rx (Task.Tx m d) e f = absurd (false≢true f)
task_by_kind w s t Task.Rx Task.Rx e f = ap not (start_by_kind w.rx s t e)

pub allowed_by_kind : (x : Asks) (transmit at-a-time : Bool) → ByKind (of_kind transmit at-a-time) (allowed_by x)
allowed_by_kind no_ask transmit at-a-time = record { same = λ q r k l. refl }
allowed_by_kind listens transmit at-a-time = record { same = λ q r k l. refl }
allowed_by_kind (ask w) transmit at-a-time =
    record {
      same =
          λ q r k l.
          let kq = and_parts _ _ k in
          let kr = and_parts _ _ l in
          ap not
          (task_by_kind w q.start r.start q.task r.task
          (beq_true _ _ kq.1 ∙ sym (beq_true _ _ kr.1))
          (beq_true _ _ kq.0 ∙ sym (beq_true _ _ kr.0)));
    }

-- ---- Rising lists

all_append : (P : ℕ → Type 0) (ks ms : List ℕ) → AllOf P ks → AllOf P ms → AllOf P (ks ++ ms)
all_append P [] ms A B = B
all_append P (k ∷ ks) ms A B = (A.0, all_append P ks ms A.1 B)

-- a number at the end, above all
rising_end : (n : ℕ) (ms : List ℕ) → Rising ms → AllOf (λ m. m < n) ms → Rising (ms ++ n ∷ [])
rising_end n [] R B = (tt, tt)
rising_end n (m ∷ ms) R B = (all_append (λ k. m < k) ms (n ∷ []) R.0 (B.0, tt), rising_end n ms R.1 B.1)

below_more : (n : ℕ) (ms : List ℕ) → AllOf (λ m. m < n) ms → AllOf (λ m. m < suc n) ms
below_more n [] B = tt
below_more n (m ∷ ms) B = (let h = B.0 in omega arith, below_more n ms B.1)

-- ---- What the book says of the order, and how it stays so

-- of each kind: the places of those that have left and of those that wait rise, and are below the next arrival's
pub record Ordered (left waiting : List Arrival) (arrivals : ℕ) : Type 0 where
  pub rising : (transmit at-a-time : Bool) → Rising (places_of (of_kind transmit at-a-time) (left ++ waiting))
  pub below : (transmit at-a-time : Bool) → AllOf (λ m. m < arrivals) (places_of (of_kind transmit at-a-time) (left ++ waiting))

arrivals_assoc : (xs ys zs : List Arrival) → (xs ++ ys) ++ zs ≡ xs ++ (ys ++ zs)
arrivals_assoc [] ys zs = refl
arrivals_assoc (x ∷ xs) ys zs = ap (λ (l : List Arrival). x ∷ l) (arrivals_assoc xs ys zs)

-- one more at the end
places_end : (p : Request → Bool) (xs : List Arrival) (a : Arrival)
    → places_of p (xs ++ a ∷ []) ≡ cond (p a.request) (places_of p xs ++ a.place ∷ []) (places_of p xs)
places_end p [] a = refl
places_end p (x ∷ xs) a = go (p x.request) (p a.request) (places_end p xs a)
  where
    go : (t u : Bool) → places_of p (xs ++ a ∷ []) ≡ cond u (places_of p xs ++ a.place ∷ []) (places_of p xs)
        → cond t (x.place ∷ places_of p (xs ++ a ∷ [])) (places_of p (xs ++ a ∷ []))
        ≡ cond u (cond t (x.place ∷ places_of p xs) (places_of p xs) ++ a.place ∷ []) (cond t (x.place ∷ places_of p xs) (places_of p xs))
    go true true ih = ap (λ (l : List ℕ). x.place ∷ l) ih
    go true false ih = ap (λ (l : List ℕ). x.place ∷ l) ih
    go false true ih = ih
    go false false ih = ih

pub arrival_ordered : (left waiting : List Arrival) (n : ℕ) (q : Request) → Ordered left waiting n
    → Ordered left (waiting ++ record { place = n; request = q } ∷ []) (suc n)
arrival_ordered left waiting n q O =
    record {
      rising = λ t u. rw (place t u) (go (of_kind t u q) (places_of (of_kind t u) (left ++ waiting)) (O.rising t u) (O.below t u)).0;
      below = λ t u. rw (place t u) (go (of_kind t u q) (places_of (of_kind t u) (left ++ waiting)) (O.rising t u) (O.below t u)).1;
    }
  where
    a : Arrival
    a = record { place = n; request = q }

    place : (t u : Bool)
        → places_of (of_kind t u) (left ++ (waiting ++ record { place = n; request = q } ∷ []))
        ≡ cond (of_kind t u q) (places_of (of_kind t u) (left ++ waiting) ++ n ∷ []) (places_of (of_kind t u) (left ++ waiting))
    place t u =
        ap (places_of (of_kind t u)) (sym (arrivals_assoc left waiting (record { place = n; request = q } ∷ [])))
        ∙ places_end (of_kind t u) (left ++ waiting) (record { place = n; request = q })

    go : (v : Bool) (ms : List ℕ) → Rising ms → AllOf (λ m. m < n) ms
        → Rising (cond v (ms ++ n ∷ []) ms) × AllOf (λ m. m < suc n) (cond v (ms ++ n ∷ []) ms)
    go true ms R B = (rising_end n ms R B, all_append (λ m. m < suc n) ms (n ∷ []) (below_more n ms B) (omega arith, tt))
    go false ms R B = (R, below_more n ms B)

-- the one that leaves is put behind those that have left
pub leaving_ordered : (x : Asks) (left waiting : List Arrival) (n : ℕ) (a : Arrival) → earliest_in (allowed_by x) waiting ≡ a ∷ []
    → Ordered left waiting n → Ordered (left ++ a ∷ []) (others_in (allowed_by x) waiting) n
leaving_ordered x left waiting n a e O =
    record { rising = λ t u. rw (same t u) (O.rising t u); below = λ t u. rw (same t u) (O.below t u) }
  where
    same : (t u : Bool)
        → places_of (of_kind t u) ((left ++ a ∷ []) ++ others_in (allowed_by x) waiting) ≡ places_of (of_kind t u) (left ++ waiting)
    same t u =
        ap (places_of (of_kind t u)) (arrivals_assoc left (a ∷ []) (others_in (allowed_by x) waiting))
        ∙ places_append (of_kind t u) left (a ∷ others_in (allowed_by x) waiting)
        ∙ ap (λ (l : List ℕ). places_of (of_kind t u) left ++ l)
        (places_append (of_kind t u) (a ∷ []) (others_in (allowed_by x) waiting)
        ∙ ap (λ (l : List Arrival). places_of (of_kind t u) l ++ places_of (of_kind t u) (others_in (allowed_by x) waiting)) (sym e)
        ∙ leaves_in_order (of_kind t u) (allowed_by x) waiting (allowed_by_kind x t u))
        ∙ sym (places_append (of_kind t u) left waiting)

-- a list without one of its arrivals
all_without : (P : ℕ → Type 0) (kind p : Request → Bool) (xs : List Arrival) → AllOf P (places_of kind xs) → AllOf P (places_of kind (others_in p xs))
all_without P kind p [] A = tt
all_without P kind p (x ∷ xs) A = go (p x.request) (kind x.request) refl A (all_without P kind p xs)
  where
    go : (t u : Bool) → kind x.request ≡ u → AllOf P (cond u (x.place ∷ places_of kind xs) (places_of kind xs))
        → (AllOf P (places_of kind xs) → AllOf P (places_of kind (others_in p xs)))
        → AllOf P (places_of kind (cond t xs (x ∷ others_in p xs)))
    go true true e A ih = A.1
    go true false e A ih = A
    go false true e A ih = rw e (A.0, ih A.1)
    go false false e A ih = rw e (ih A)

rising_without : (kind p : Request → Bool) (xs : List Arrival) → Rising (places_of kind xs) → Rising (places_of kind (others_in p xs))
rising_without kind p [] R = tt
rising_without kind p (x ∷ xs) R = go (p x.request) (kind x.request) refl R (rising_without kind p xs)
  where
    go : (t u : Bool) → kind x.request ≡ u → Rising (cond u (x.place ∷ places_of kind xs) (places_of kind xs))
        → (Rising (places_of kind xs) → Rising (places_of kind (others_in p xs)))
        → Rising (places_of kind (cond t xs (x ∷ others_in p xs)))
    go true true e R ih = R.1
    go true false e R ih = R
    go false true e R ih = rw e (all_without (λ m. x.place < m) kind p xs R.0, ih R.1)
    go false false e R ih = rw e (ih R)

-- .. of those that wait
all_but : (P : ℕ → Type 0) (kind p : Request → Bool) (left waiting : List Arrival) → AllOf P (places_of kind (left ++ waiting))
    → AllOf P (places_of kind (left ++ others_in p waiting))
all_but P kind p [] waiting A = all_without P kind p waiting A
all_but P kind p (x ∷ left) waiting A = go (kind x.request) A (all_but P kind p left waiting)
  where
    go : (u : Bool) → AllOf P (cond u (x.place ∷ places_of kind (left ++ waiting)) (places_of kind (left ++ waiting)))
        → (AllOf P (places_of kind (left ++ waiting)) → AllOf P (places_of kind (left ++ others_in p waiting)))
        → AllOf P (cond u (x.place ∷ places_of kind (left ++ others_in p waiting)) (places_of kind (left ++ others_in p waiting)))
    go true A ih = (A.0, ih A.1)
    go false A ih = ih A

rising_but : (kind p : Request → Bool) (left waiting : List Arrival) → Rising (places_of kind (left ++ waiting))
    → Rising (places_of kind (left ++ others_in p waiting))
rising_but kind p [] waiting R = rising_without kind p waiting R
rising_but kind p (x ∷ left) waiting R = go (kind x.request) R (rising_but kind p left waiting)
  where
    go : (u : Bool) → Rising (cond u (x.place ∷ places_of kind (left ++ waiting)) (places_of kind (left ++ waiting)))
        → (Rising (places_of kind (left ++ waiting)) → Rising (places_of kind (left ++ others_in p waiting)))
        → Rising (cond u (x.place ∷ places_of kind (left ++ others_in p waiting)) (places_of kind (left ++ others_in p waiting)))
    go true R ih = (all_but (λ m. x.place < m) kind p left waiting R.0, ih R.1)
    go false R ih = ih R

pub withdrawal_ordered : (p : Request → Bool) (left waiting : List Arrival) (n : ℕ) → Ordered left waiting n
    → Ordered left (others_in p waiting) n
withdrawal_ordered p left waiting n O =
    record {
      rising = λ t u. rising_but (of_kind t u) p left waiting (O.rising t u);
      below = λ t u. all_but (λ m. m < n) (of_kind t u) p left waiting (O.below t u);
    }
