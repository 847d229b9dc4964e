-- Lists of calls, and what is claimed after every one of them: what BookClaims.antt claims of the book, and that book and state agree.
-- Assumes nothing.
use Rattle.std.specs.Prelude.{ℕ, ◌≤◌, ◌≡◌, Bool, true, false, ◌&&◌, ◌||◌, List, [], ◌∷◌, ◌⊎◌, ◌↔◌, eqb, length}
use Rattle.radio_frame.specs.declared.Settings.{Settings}
use Rattle.radio_frame.specs.Settings.{settings_refusal}
use Rattle.tasks.specs.declared.Answers.{Answers}
use Rattle.tasks.specs.declared.Call.{Call}
use Rattle.tasks.specs.declared.Request.{Request}
use Rattle.tasks.specs.declared.State.{State}
use Rattle.engine.specs.Step.{Outcome}
use Rattle.engine.specs.Step.{step_of}
use Rattle.engine.specs.Refusals.{fits}
use Rattle.engine.specs.Book.{Entry, Book, book_step, start_book, has_token, has_number}
use Rattle.engine.specs.BookClaims.{BookSound}
use Rattle.engine.specs.Agreement.{standing, Agrees}
use Rattle.engine.specs.Actions.{Spaced, ReceivesIn}

-- ---- Lists of calls

-- one call of a list, and the pool's bytes as it finds them, which are anything
pub record CallMade : Type 0 where
  pub pool : List ℕ
  pub call : Call

-- the state that the last call left, and the book
pub record Moment : Type 0 where
  pub state : State
  pub book : Book

unfoldable pub after_call : Moment → CallMade → Moment
after_call m t =
    let o = step_of m.state t.pool t.call in
    record { state = o.state; book = book_step m.book t.pool t.call o.refusal o.reply }

-- the moment after a list of calls
unfoldable pub after : Moment → List CallMade → Moment
after m [] = m
after m (t ∷ ts) = after (after_call m t) ts

-- ---- The claims

-- a request with the one token was accepted before one with the other
abbrev pub earlier : ℕ → ℕ → List Entry → Bool
earlier t u [] = false
earlier t u (e ∷ es) = (eqb e.token t && has_token u es) || earlier t u es

-- "up to two answers, the earlier request's first"
abbrev pub EarlierFirst : List Entry → Answers → Type 0
EarlierFirst es Answers.None = Unit {0}
EarlierFirst es (Answers.One x) = Unit {0}
EarlierFirst es (Answers.Two x y) = earlier x.token y.token es ≡ true

-- of a Request that fits its wait, with settings and a pool that pass 2 to 4
pub record RequestFits (m : Moment) (pool : List ℕ) (q : Request) : Type 0 where
  pub settings : settings_refusal m.state.set (length pool) ≡ 0
  pub wait : fits (Call.Request q) m.state.wait ≡ true

-- what holds after every call
pub record Sound (m : Moment) : Type 0 where
  -- of the book alone: the third demand, and the hazard
  pub book : BookSound m.book
  -- "What 6 calls unanswered and 7 calls held is, at each call of the list, what the book says before it."
  pub six :
      (pool : List ℕ) (q : Request) →
      RequestFits m pool q →
      (step_of m.state pool (Call.Request q)).refusal ≡ 6 ↔ has_token q.token m.book.requests ≡ true
  pub seven :
      (pool : List ℕ) (q : Request) →
      RequestFits m pool q →
      has_token q.token m.book.requests ≡ false →
      (step_of m.state pool (Call.Request q)).refusal ≡ 7
      ↔ ((m.book.set.count ≤ q.buffer) ⊎ (has_number q.buffer m.book.held ≡ true))
  -- the state says of the unanswered requests what the book says
  pub agrees : Agrees (standing m.state) m.book.requests
  -- received bytes are taken from the buffer that the last Rx action named
  pub receives : ReceivesIn m.state.set m.book.radio.buffer m.state.wait
  -- of the reply of whatever call is accepted next: the spacing of its action, and the order of its answers
  pub spaced :
      (pool : List ℕ) (c : Call) →
      (step_of m.state pool c).refusal ≡ 0 →
      Spaced m.book.radio c (step_of m.state pool c).reply.action
  pub earlier_first :
      (pool : List ℕ) (c : Call) →
      (step_of m.state pool c).refusal ≡ 0 →
      EarlierFirst m.book.requests (step_of m.state pool c).reply.answers

-- THE THIRD DEMAND, of what a start returned: if it was accepted, then after every list of calls, refused ones included, each
-- on the state that the last one left and on a pool that holds anything, the book is sound. Every prefix of a list is a list.
unfoldable pub AlwaysSound : Settings → Outcome → Type 0
AlwaysSound set o =
    o.refusal ≡ 0 → (ts : List CallMade) → Sound (after (record { state = o.state; book = start_book set }) ts)
