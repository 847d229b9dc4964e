-- Lists of arrivals: the earliest that passes a test, those that stay behind, and what both hold.
-- Assumes nothing.
use Prim.Native.Nat.{ℕ, suc, ◌+◌}
use mathlib.Core.Path.{◌≡◌, refl, sym, ◌∙◌, ap}
use mathlib.Core.Bool.{Bool, true, false, cond, ◌||◌}
use mathlib.Core.List.{List, [], ◌∷◌, ◌++◌}
use lib.Dec.{eqb}
use lib.ListN.{length}
use native.Mathlib.Omega.{arith}
use Rattle.std.specs.Prelude.{Some, None}
use Rattle.tasks.specs.declared.Request.{Request}
use Rattle.engine.specs.Book.{has_number}
use Rattle.engine.specs.BookClaims.{one, count}
use Rattle.waiting_line.specs.Line.{has_token, has_buffer, any_passes, earliest_of, without_earliest}
use Rattle.service.specs.LineBook.{Arrival, earliest_in, others_in}
use Rattle.service.specs.LineClaims.{waiting_tokens, waiting_buffers}
use Rattle.service.specs.Lists.{requests_in}

-- ---- What the arrivals' requests are

pub others_are : (p : Request → Bool) (rest : List Arrival) → requests_in (others_in p rest) ≡ without_earliest p (requests_in rest)
others_are p [] = refl
others_are p (a ∷ rest) = go (p a.request) (others_are p rest)
  where
    go : (t : Bool) → requests_in (others_in p rest) ≡ without_earliest p (requests_in rest)
        → requests_in (cond t rest (a ∷ others_in p rest)) ≡ cond t (requests_in rest) (a.request ∷ without_earliest p (requests_in rest))
    go true ih = refl
    go false ih = ap (λ (l : List Request). a.request ∷ l) ih

pub one_more_is : (rest : List Arrival) (a : Arrival) → requests_in (rest ++ a ∷ []) ≡ requests_in rest ++ a.request ∷ []
one_more_is [] a = refl
one_more_is (c ∷ rest) a = ap (λ (l : List Request). c.request ∷ l) (one_more_is rest a)

pub length_is : (rest : List Arrival) → length (requests_in rest) ≡ length rest
length_is [] = refl
length_is (a ∷ rest) = ap suc (length_is rest)

pub token_waits : (t : ℕ) (rest : List Arrival) → any_passes (has_token t) (requests_in rest) ≡ has_number t (waiting_tokens rest)
token_waits t [] = refl
token_waits t (a ∷ rest) = ap (λ (x : Bool). eqb a.request.token t || x) (token_waits t rest)

pub buffer_waits : (x : ℕ) (rest : List Arrival) → any_passes (has_buffer x) (requests_in rest) ≡ has_number x (waiting_buffers rest)
buffer_waits x [] = refl
buffer_waits x (a ∷ rest) = ap (λ (y : Bool). eqb a.request.buffer x || y) (buffer_waits x rest)

-- ---- Nothing passes, or one arrival is the earliest that does

pub record NoneIn (p : Request → Bool) (rest : List Arrival) : Type 0 where
  pub earliest : earliest_in p rest ≡ []
  pub any : any_passes p (requests_in rest) ≡ false
  pub found : earliest_of p (requests_in rest) ≡ None

pub record OneIn (p : Request → Bool) (rest : List Arrival) (a : Arrival) : Type 0 where
  pub earliest : earliest_in p rest ≡ a ∷ []
  pub any : any_passes p (requests_in rest) ≡ true
  pub found : earliest_of p (requests_in rest) ≡ Some a.request
  pub passes : p a.request ≡ true
  pub tokens : (t : ℕ) → count t (waiting_tokens rest) ≡ one t a.request.token + count t (waiting_tokens (others_in p rest))
  pub buffers : (x : ℕ) → count x (waiting_buffers rest) ≡ one x a.request.buffer + count x (waiting_buffers (others_in p rest))
  pub size : length rest ≡ suc (length (others_in p rest))

pub data Search (p : Request → Bool) (rest : List Arrival) : Type 0 where
  none : NoneIn p rest → Search p rest
  found_one : (a : Arrival) → OneIn p rest a → Search p rest

pub search_in : (p : Request → Bool) (rest : List Arrival) → Search p rest
search_in p [] = none (record { earliest = refl; any = refl; found = refl })
search_in p (a ∷ rest) = go (p a.request) refl (search_in p rest)
  where
    go : (t : Bool) → p a.request ≡ t → Search p rest → Search p (a ∷ rest)
    go true e s =
        found_one a
        (record {
          earliest = simp e;
          any = simp e;
          found = simp e;
          passes = e;
          tokens = λ t. rw e (omega arith);
          buffers = λ x. rw e (omega arith);
          size = simp e;
        })
    go false e (none n) =
        none (record { earliest = simp (e, n.earliest); any = simp (e, n.any); found = simp (e, n.found) })
    go false e (found_one c o) =
        found_one c
        (record {
          earliest = simp (e, o.earliest);
          any = simp (e, o.any);
          found = simp (e, o.found);
          passes = o.passes;
          tokens = λ t. rw e (omega (arith, o.tokens t));
          buffers = λ x. rw e (omega (arith, o.buffers x));
          size = rw e (ap suc o.size);
        })

-- ---- One more at the end

pub tokens_end : (t : ℕ) (rest : List Arrival) (a : Arrival) → count t (waiting_tokens (rest ++ a ∷ [])) ≡ count t (waiting_tokens rest) + one t a.request.token
tokens_end t [] a = omega arith
tokens_end t (x ∷ rest) a = omega (arith, tokens_end t rest a)

pub buffers_end : (x : ℕ) (rest : List Arrival) (a : Arrival) → count x (waiting_buffers (rest ++ a ∷ [])) ≡ count x (waiting_buffers rest) + one x a.request.buffer
buffers_end x [] a = omega arith
buffers_end x (y ∷ rest) a = omega (arith, buffers_end x rest a)

pub length_end : (rest : List Arrival) (a : Arrival) → length (rest ++ a ∷ []) ≡ suc (length rest)
length_end [] a = refl
length_end (x ∷ rest) a = ap suc (length_end rest a)

-- ---- The earliest stays the earliest: when one arrives behind it, and when another is withdrawn

pub earliest_end : (p : Request → Bool) (rest : List Arrival) (a c : Arrival) → earliest_in p rest ≡ a ∷ [] → earliest_in p (rest ++ c ∷ []) ≡ a ∷ []
earliest_end p [] a c e = absurd (let z : ◌≡◌ {A = ℕ} 0 1 = ap (λ (l : List Arrival). length l) e in omega arith)
earliest_end p (x ∷ rest) a c e = go (p x.request) e (earliest_end p rest a c)
  where
    go : (t : Bool) → cond t (x ∷ []) (earliest_in p rest) ≡ a ∷ [] → (earliest_in p rest ≡ a ∷ [] → earliest_in p (rest ++ c ∷ []) ≡ a ∷ [])
        → cond t (x ∷ []) (earliest_in p (rest ++ c ∷ [])) ≡ a ∷ []
    go true e ih = e
    go false e ih = ih e

abbrev first_or : Arrival → List Arrival → Arrival
first_or d [] = d
first_or d (x ∷ rest) = x

pub earliest_others : (p r : Request → Bool) (rest : List Arrival) (a : Arrival) → earliest_in p rest ≡ a ∷ [] → r a.request ≡ false
    → earliest_in p (others_in r rest) ≡ a ∷ []
earliest_others p r [] a e f = e
earliest_others p r (x ∷ rest) a e f = go (p x.request) refl (r x.request) refl (λ h. earliest_others p r rest a h f)
  where
    go : (t : Bool) → p x.request ≡ t → (u : Bool) → r x.request ≡ u → (earliest_in p rest ≡ a ∷ [] → earliest_in p (others_in r rest) ≡ a ∷ [])
        → earliest_in p (others_in r (x ∷ rest)) ≡ a ∷ []
    go true g true h ih =
        let same : x ≡ a = ap (first_or a) (rw g at e) in
        absurd (let z : ◌≡◌ {A = ℕ} 0 1 = ap (λ (b : Bool). cond b 1 0) (sym f ∙ ap (λ (c : Arrival). r c.request) (sym same) ∙ h) in omega arith)
    go true g false h ih = let same : x ∷ [] ≡ a ∷ [] = rw g at e in simp (h, g, same)
    go false g true h ih = let back : earliest_in p rest ≡ a ∷ [] = rw g at e in rw h back
    go false g false h ih = let back : earliest_in p rest ≡ a ∷ [] = rw g at e in simp (h, g, ih back)
