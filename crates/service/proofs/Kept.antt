-- What state, line and book say of each other after every call, and that each call keeps it.
-- Assumes nothing.
use Prim.Native.Nat.{ℕ, ◌+◌, ◌≤◌, ◌<◌}
use mathlib.Core.Path.{◌≡◌, refl, sym, ◌∙◌, ap}
use mathlib.Core.Bool.{Bool, true, false, cond, ◌||◌}
use mathlib.Core.List.{List, [], ◌∷◌, ◌++◌}
use lib.Dec.{eqb, ltb}
use lib.ListN.{length}
use native.Mathlib.Omega.{arith}
use borrow.Author.Tests.{eqb-false}
use Rattle.radio_frame.specs.declared.Settings.{Settings}
use Rattle.tasks.specs.declared.Action.{Action}
use Rattle.tasks.specs.declared.Answers.{Answers}
use Rattle.tasks.specs.declared.Call.{Call}
use Rattle.tasks.specs.declared.Request.{Request}
use Rattle.tasks.specs.declared.Reply.{Reply}
use Rattle.tasks.specs.declared.State.{State}
use Rattle.requests.specs.Requests.{token_held, buffer_held, tx_length_unfit}
use Rattle.moves.specs.Move.{Move}
use Rattle.engine.specs.Asks.{asks_after, outbound_after}
use Rattle.engine.specs.Actions.{asks_of, outbound_open}
use Rattle.engine.specs.Agreement.{standing}
use Rattle.engine.specs.Book.{Entry, Book, older, enter, strike, strike_number, take_answers, told_all, book_step, requests_entered, held_entered, has_token, has_number}
use Rattle.engine.specs.BookClaims.{one, count, tokens}
use Rattle.engine.proofs.Count.{has_count}
use Rattle.engine.proofs.Standing.{own, buffers}
use Rattle.engine.proofs.Kept.{Kept, token_has, held_has, fits_token, count_own}
use Rattle.engine.proofs.Table.{Legal, refuse, stay, swap, enters}
use Rattle.waiting_line.specs.Line.{is_tx}
use Rattle.service.specs.LineBook.{Arrival, LineBook, earliest_in}
use Rattle.service.specs.LineClaims.{waiting_tokens, waiting_buffers}
use Rattle.service.specs.Lists.{requests_in}
use Rattle.service.proofs.Order.{Ordered}

-- ---- A call takes no number into the book that it does not enter

strike_fewer : (x y : ℕ) (l : List ℕ) → count y (strike_number x l) ≤ count y l
strike_fewer x y [] = omega arith
strike_fewer x y (z ∷ l) = go (eqb z x) (strike_fewer x y l)
  where
    go : (t : Bool) → count y (strike_number x l) ≤ count y l → count y (cond t l (z ∷ strike_number x l)) ≤ one y z + count y l
    go true ih = omega arith
    go false ih = omega arith

strike_token : (t u : ℕ) (es : List Entry) → count u (tokens (strike t es)) ≤ count u (tokens es)
strike_token t u [] = omega arith
strike_token t u (e ∷ es) = go (eqb e.token t) (strike_token t u es)
  where
    go : (v : Bool) → count u (tokens (strike t es)) ≤ count u (tokens es) → count u (tokens (cond v es (e ∷ strike t es))) ≤ one u e.token + count u (tokens es)
    go true ih = omega arith
    go false ih = omega arith

tokens_told : (c : Call) (action : Action) (es : List Entry) → tokens (told_all c action es) ≡ tokens es
tokens_told c action [] = refl
tokens_told c action (e ∷ es) = ap (λ (l : List ℕ). e.token ∷ l) (tokens_told c action es)

pub tokens_older : (es : List Entry) → tokens (older es) ≡ tokens es
tokens_older [] = refl
tokens_older (e ∷ es) = ap (λ (l : List ℕ). e.token ∷ l) (tokens_older es)

module _ (pool : List ℕ) (c : Call) where
  answers_fewer : (x : Answers) (b : Book) (y : ℕ) → count y (take_answers pool c x b).held ≤ count y b.held
  answers_fewer Answers.None b y = omega arith
  answers_fewer (Answers.One a) b y = strike_fewer a.buffer y b.held
  answers_fewer (Answers.Two a d) b y =
      omega (arith, strike_fewer a.buffer y b.held, strike_fewer d.buffer y (strike_number a.buffer b.held))

  answers_tokens : (x : Answers) (b : Book) (t : ℕ) → count t (tokens (take_answers pool c x b).requests) ≤ count t (tokens b.requests)
  answers_tokens Answers.None b t = omega arith
  answers_tokens (Answers.One a) b t = strike_token a.token t b.requests
  answers_tokens (Answers.Two a d) b t =
      omega (arith, strike_token a.token t b.requests, strike_token d.token t (strike a.token b.requests))

  -- an accepted call
  pub held_fewer : (b : Book) (r : Reply) (y : ℕ) → count y (book_step b pool c 0 r).held ≤ count y (held_entered c b.held)
  unfolding book_step
  held_fewer b r y = answers_fewer r.answers (enter pool c b) y

  pub tokens_fewer : (b : Book) (r : Reply) (t : ℕ)
      → count t (tokens (book_step b pool c 0 r).requests) ≤ count t (tokens (requests_entered b.set pool c b.requests))
  unfolding book_step
  tokens_fewer b r t =
      rw (tokens_told c r.action (take_answers pool c r.answers (enter pool c b)).requests) (answers_tokens r.answers (enter pool c b) t)

  pub set_same : (b : Book) (r : Reply) → (book_step b pool c 0 r).set ≡ b.set
  unfolding book_step
  set_same b r = go r.answers
    where
      go : (x : Answers) → (take_answers pool c x (enter pool c b)).set ≡ b.set
      go Answers.None = refl
      go (Answers.One a) = refl
      go (Answers.Two a d) = refl

-- ---- State, line and book

-- a request that waits has passed 7's range and 8
pub record Fit (set : Settings) (q : Request) : Type 0 where
  pub buffer : q.buffer < set.count
  pub length_fits : tx_length_unfit set q.task ≡ false

abbrev pub AllFit : Settings → List Arrival → Type 0
AllFit set [] = Unit {0}
AllFit set (a ∷ rest) = Fit set a.request × AllFit set rest

-- the Tx that OutboundSeen named is the earliest, as long as its stop or the ask after its window ended is open
abbrev pub NamedFits : Bool → List Arrival → List Arrival → Type 0
NamedFits true named waiting = (a : Arrival) × ((named ≡ a ∷ []) × (earliest_in is_tx waiting ≡ a ∷ []))
NamedFits false named waiting = named ≡ []

pub record LineKept (s : State) (qs : List Request) (b : LineBook) : Type 0 where
  pub kept : Kept s b.book
  pub line : qs ≡ requests_in b.waiting
  pub asks : b.asks ≡ asks_of s.wait
  pub outbound : b.outbound ≡ outbound_open s.wait
  pub named : NamedFits b.outbound b.named b.waiting
  pub once : (x : ℕ) → count x b.book.held + count x (waiting_buffers b.waiting) ≤ 1
  pub one_each : (t : ℕ) → count t (tokens b.book.requests) + count t (waiting_tokens b.waiting) ≤ 1
  pub low : (x : ℕ) → 1 ≤ count x b.book.held + count x (waiting_buffers b.waiting) → x < b.book.set.count
  pub four : length b.waiting ≤ 4
  pub order : Ordered b.left b.waiting b.arrivals
  pub fit : AllFit b.book.set b.waiting

-- ---- What refusals 6 and 7 look at in a state is what the book says of those that have left

pub has_tokens : (t : ℕ) (es : List Entry) → has_token t es ≡ has_number t (tokens es)
has_tokens t [] = refl
has_tokens t (e ∷ es) = ap (λ (x : Bool). eqb e.token t || x) (has_tokens t es)

module _ (s : State) (b : Book) (K : Kept s b) where
  pub token_by_book : (t : ℕ) → token_held s.wait t ≡ has_token t b.requests
  token_by_book t = token_has s.set s.wait t ∙ sym (fits_token (standing s) b.requests t K.holds.requests)

  pub buffer_by_book : (x : ℕ) → buffer_held s x ≡ has_number x b.held
  buffer_by_book x =
      held_has s x
      ∙ has_count x (own s.set ++ buffers (standing s))
      ∙ ap (ltb 0) (count_own s.set (buffers (standing s)) x ∙ sym (K.holds.same x))
      ∙ sym (has_count x b.held)

pub none_has : (x : ℕ) (l : List ℕ) → count x l ≡ 0 → has_number x l ≡ false
none_has x l h = has_count x l ∙ ap (ltb 0) h

-- ---- What an accepted move says of the ask and of the Tx that OutboundSeen named

pub record Asked-next (s : State) (c : Call) (m : Move) : Type 0 where
  pub asks : asks_of m.state.wait ≡ asks_after c m.reply.action
  pub outbound : outbound_open m.state.wait ≡ outbound_after c (outbound_open s.wait)

pub asked_next : (s : State) (pool : List ℕ) (c : Call) (m : Move) → Legal s pool c m → m.refusal ≡ 0 → Asked-next s c m
asked_next s pool c m (refuse k e) z = absurd (eqb-false k 0 e z)
asked_next s pool c m (stay w' x rest R other P L same A) z = record { asks = A.asks; outbound = A.outbound }
asked_next s pool c m (swap set' w' x rest R other P L same head A) z = record { asks = A.asks; outbound = A.outbound }
asked_next s pool c m (enters l o rest R P L same A e) z = record { asks = A.asks; outbound = A.outbound }
