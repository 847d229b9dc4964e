-- The invariant of the book: it says of the unanswered requests what the wait says, and each answer so far was right.
-- Assumes nothing.
use Rattle.std.proofs.Common.{Some, ℕ}
use Prim.Native.Nat.{ℕ, suc, ◌+◌, ◌≤◌}
use mathlib.Core.Path.{◌≡◌, refl, sym, ◌∙◌, ap}
use mathlib.Core.Bool.{Bool, true, false, cond, not, beq}
use mathlib.Core.List.{List, [], ◌∷◌, ◌++◌}
use lib.Dec.{eqb}
use lib.ListN.{length}
use native.Mathlib.Omega.{arith}
use borrow.Author.Tests.{eq-eqb, lt-ltb}
use Rattle.radio_frame.specs.declared.Settings.{Settings}
use Rattle.tasks.specs.declared.Action.{Action}
use Rattle.tasks.specs.declared.Answer.{Answer}
use Rattle.tasks.specs.declared.Call.{Call}
use Rattle.engine.specs.Book.{Entry, Book, told, told_all, tell, older, answers_transmit, has_number, take_answer}
use Rattle.engine.specs.Answered.{AnsweredRight, AllAnsweredRight}
use Rattle.engine.specs.Agreement.{Standing, AgreesOne, Agrees}
use Rattle.engine.specs.BookClaims.{one, count}
use Rattle.engine.proofs.Count.{one_self, struck, shorter, has_count}

-- a number of each request: its token or its buffer
abbrev pub numbers : (ℕ → ℕ → ℕ) → List Standing → List ℕ
numbers pick [] = []
numbers pick (o ∷ os) = pick o.token o.buffer ∷ numbers pick os

abbrev pub token : ℕ → ℕ → ℕ
token t b = t

abbrev pub buffer : ℕ → ℕ → ℕ
buffer t b = b

abbrev pub buffers : List Standing → List ℕ
buffers os = numbers buffer os

abbrev pub own : Settings → List ℕ
own set = set.ack_buffer ∷ set.spare_buffer ∷ []

-- ---- One more accepted call has followed
abbrev pub later : Standing → Standing
later o =
    record {
      token = o.token;
      buffer = o.buffer;
      transmit = o.transmit;
      wants = o.wants;
      number = o.number;
      progress = o.progress;
      limit = suc o.limit;
    }

abbrev pub raised : List Standing → List Standing
raised [] = []
raised (o ∷ os) = later o ∷ raised os

pub older_agrees : (os : List Standing) (es : List Entry) → Agrees os es → Agrees (raised os) (older es)
older_agrees [] [] A = tt
older_agrees [] (e ∷ es) A = absurd A
older_agrees (o ∷ os) [] A = absurd A
older_agrees (o ∷ os) (e ∷ es) A = (
  record {
    token = A.0.token;
    transmit = A.0.transmit;
    wants = A.0.wants;
    number = A.0.number;
    progress = A.0.progress;
    age = λ t. let h = A.0.age t in omega arith;
  },
  older_agrees os es A.1,
)

pub append_agrees : (os : List Standing) (es : List Entry) (o : Standing) (e : Entry) → Agrees os es → AgreesOne o e
    → Agrees (os ++ o ∷ []) (es ++ e ∷ [])
append_agrees [] [] o e A f = (f, tt)
append_agrees [] (e' ∷ es) o e A f = absurd A
append_agrees (o' ∷ os) [] o e A f = absurd A
append_agrees (o' ∷ os) (e' ∷ es) o e A f = (A.0, append_agrees os es o e A.1 f)

-- ---- What the call says of them
abbrev pub informed : Call → Action → Standing → Standing
informed c action o =
    record {
      token = o.token;
      buffer = o.buffer;
      transmit = o.transmit;
      wants = o.wants;
      number = o.number;
      progress = cond o.transmit (told c action o.progress) o.progress;
      limit = o.limit;
    }

abbrev pub all_informed : Call → Action → List Standing → List Standing
all_informed c action [] = []
all_informed c action (o ∷ os) = informed c action o ∷ all_informed c action os

told_agrees : (c : Call) (action : Action) (os : List Standing) (es : List Entry) → Agrees os es
    → Agrees (all_informed c action os) (told_all c action es)
told_agrees c action [] [] A = tt
told_agrees c action [] (e ∷ es) A = absurd A
told_agrees c action (o ∷ os) [] A = absurd A
told_agrees c action (o ∷ os) (e ∷ es) A = (
  record {
    token = A.0.token;
    transmit = A.0.transmit;
    wants = A.0.wants;
    number = A.0.number;
    progress = λ t. rw (A.0.transmit, t) (ap (told c action) (A.0.progress t));
    age = A.0.age;
  },
  told_agrees c action os es A.1,
)

-- ---- The same requests as the next wait has them: limits that are no lower, no number that was not noted
pub record LooserOne (o o' : Standing) : Type 0 where
  pub token : o.token ≡ o'.token
  pub transmit : o.transmit ≡ o'.transmit
  pub wants : o.wants ≡ o'.wants
  pub number : (k : ℕ) → o'.number ≡ Some k → o.number ≡ Some k
  pub progress : o'.transmit ≡ true → o.progress ≡ o'.progress
  pub limit : o'.transmit ≡ true → o.limit ≤ o'.limit

abbrev pub Looser : List Standing → List Standing → Type 0
Looser [] [] = Unit {0}
Looser [] (o ∷ os) = ⊥
Looser (o ∷ os) [] = ⊥
Looser (o ∷ os) (o' ∷ os') = LooserOne o o' × Looser os os'

pub looser_agrees : (os os' : List Standing) (es : List Entry) → Looser os os' → Agrees os es → Agrees os' es
looser_agrees [] [] [] L A = tt
looser_agrees [] [] (e ∷ es) L A = absurd A
looser_agrees [] (o ∷ os) es L A = absurd L
looser_agrees (o ∷ os) [] es L A = absurd L
looser_agrees (o ∷ os) (o' ∷ os') [] L A = absurd A
looser_agrees (o ∷ os) (o' ∷ os') (e ∷ es) L A = (
  record {
    token = A.0.token ∙ L.0.token;
    transmit = A.0.transmit ∙ L.0.transmit;
    wants = A.0.wants ∙ L.0.wants;
    number = λ k h. A.0.number k (L.0.number k h);
    progress = λ t. A.0.progress (L.0.transmit ∙ t) ∙ L.0.progress t;
    age = λ t. let h = L.0.limit t in let k = A.0.age (L.0.transmit ∙ t) in omega arith;
  },
  looser_agrees os os' es L.1 A.1,
)

pub looser_refl : (os : List Standing) → Looser os os
looser_refl [] = tt
looser_refl (o ∷ os) = (
  record {
    token = refl;
    transmit = refl;
    wants = refl;
    number = λ k h. h;
    progress = λ t. refl;
    limit = λ t. omega arith;
  },
  looser_refl os,
)

pub raised_append : (xs ys : List Standing) → raised (xs ++ ys) ≡ raised xs ++ raised ys
raised_append [] ys = refl
raised_append (o ∷ xs) ys = ap (λ (l : List Standing). later o ∷ l) (raised_append xs ys)

-- ---- The whole book
pub record Holds (k : List ℕ) (os : List Standing) (b : Book) : Type 0 where
  pub requests : Agrees os b.requests
  pub same : (x : ℕ) → count x b.held ≡ count x k + count x (buffers os)
  pub once : (x : ℕ) → count x b.held ≤ 1
  pub one_each : (t : ℕ) → count t (numbers token os) ≤ 1
  pub size : length b.held ≡ 2 + length b.requests
  pub stray : b.stray ≡ false
  pub unheld : b.unheld ≡ false
  pub right : AllAnsweredRight b.set b.settled

pub length_told : (c : Call) (action : Action) (es : List Entry) → length (told_all c action es) ≡ length es
length_told c action [] = refl
length_told c action (e ∷ es) = ap suc (length_told c action es)

pub numbers_informed : (pick : ℕ → ℕ → ℕ) (c : Call) (action : Action) (os : List Standing)
    → numbers pick (all_informed c action os) ≡ numbers pick os
numbers_informed pick c action [] = refl
numbers_informed pick c action (o ∷ os) = ap (λ (l : List ℕ). pick o.token o.buffer ∷ l) (numbers_informed pick c action os)

pub told_holds : (c : Call) (action : Action) (k : List ℕ) (os : List Standing) (b : Book) → Holds k os b
    → Holds k (all_informed c action os) (tell c action b)
told_holds c action k os b H =
    record {
      requests = told_agrees c action os b.requests H.requests;
      same = λ x. H.same x ∙ ap (λ (l : List ℕ). count x k + count x l) (sym (numbers_informed buffer c action os));
      once = H.once;
      one_each = λ t. rw (numbers_informed token c action os) (H.one_each t);
      size = rw (length_told c action b.requests) H.size;
      stray = H.stray;
      unheld = H.unheld;
      right = H.right;
    }

-- ---- An answer to the first request

-- it is that request's, and right whatever the book says of the request, as long as it agrees
pub record PaysOne (head : ℕ) (pool : List ℕ) (c : Call) (a : Answer) (o : Standing) : Type 0 where
  pub token : a.token ≡ o.token
  pub buffer : a.buffer ≡ o.buffer
  pub transmit : answers_transmit a.response ≡ o.transmit
  pub right : (set : Settings) → set.headroom ≡ head → (e : Entry) → AgreesOne o e
      → AnsweredRight set (record { entry = e; pool = pool; call = c; response = a.response })

beq_true : (x y : Bool) → x ≡ y → beq x y ≡ true
beq_true true true p = refl
beq_true true false p = sym p
beq_true false true p = p
beq_true false false p = refl

pub pay_one : (head : ℕ) (pool : List ℕ) (c : Call) (a : Answer) (k : List ℕ) (o : Standing) (os : List Standing) (es : List Entry) (b : Book)
    → b.requests ≡ es → b.set.headroom ≡ head → Holds k (o ∷ os) b → PaysOne head pool c a o → Holds k os (take_answer pool c a b)
pay_one head pool c a k o os [] b p h H P = absurd (rw p at H.requests)
pay_one head pool c a k o os (e ∷ es) b p h H P =
    let A : AgreesOne o e × Agrees os es = rw p at H.requests in
    let F : AgreesOne o e = A.0 in
    let te : eqb e.token a.token ≡ true = eq-eqb _ _ (F.token ∙ sym P.token) in
    let be : beq e.transmit (answers_transmit a.response) ≡ true = beq_true _ _ (F.transmit ∙ sym P.transmit) in
    let R : ℕ → ℕ = λ (y : ℕ). count y k + count y (buffers os) in
    let same : (y : ℕ) → count y b.held ≡ one y a.buffer + R y = λ y. rw P.buffer (omega (arith, H.same y)) in
    let there : 1 ≤ count a.buffer b.held = omega (arith, same a.buffer, one_self a.buffer) in
    let hn : has_number a.buffer b.held ≡ true = has_count a.buffer b.held ∙ lt-ltb 0 (count a.buffer b.held) (omega arith) in
    let size : length b.held ≡ 2 + suc (length es) = rw p at H.size in
    record {
      requests = rw p (rw te A.1);
      same = struck a.buffer b.held R same;
      once = λ y. omega (arith, H.once y, same y, struck a.buffer b.held R same y);
      one_each = λ t. omega (arith, H.one_each t);
      size = rw p (rw te (omega (arith, size, shorter a.buffer b.held R same)));
      stray = rw p (rw (H.stray, te, be));
      unheld = rw H.unheld (ap not hn);
      right = rw p (rw te (P.right b.set h e F, H.right));
    }
