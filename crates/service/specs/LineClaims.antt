-- What is claimed of the book alone after every call: the request's third demand with the waiting line, and the order of leaving. No state
-- and no wait is among the imports.
-- Assumes nothing.
use Rattle.std.specs.Prelude.{ℕ, ◌+◌, ◌≤◌, ◌<◌, ◌≡◌, Bool, false, cond, ◌&&◌, List, [], ◌∷◌, ◌++◌, length}
use Rattle.std.specs.Bool.{beq}
use Rattle.tasks.specs.declared.Request.{Request}
use Rattle.requests.specs.Requests.{timed}
use Rattle.engine.specs.BookClaims.{count, tokens, InTime}
use Rattle.engine.specs.Answered.{AllAnsweredRight}
use Rattle.waiting_line.specs.Line.{is_transmit}
use Rattle.service.specs.LineBook.{Arrival, LineBook}

abbrev pub waiting_tokens : List Arrival → List ℕ
waiting_tokens [] = []
waiting_tokens (a ∷ rest) = a.request.token ∷ waiting_tokens rest

abbrev pub waiting_buffers : List Arrival → List ℕ
waiting_buffers [] = []
waiting_buffers (a ∷ rest) = a.request.buffer ∷ waiting_buffers rest

-- "A waiting request's buffer is held from arrival and counts in the held total": the own buffers and those of requests that have left,
-- then those of requests that wait
abbrev pub held_in : LineBook → List ℕ
held_in b = b.book.held ++ waiting_buffers b.waiting

-- ---- "Requests of one direction and one kind of start leave in arrival order, none twice"

-- a request of a direction (transmit or not) and of a kind of start (a time or best effort)
abbrev pub of_kind : Bool → Bool → Request → Bool
of_kind transmit at-a-time q = beq (is_transmit q.task) transmit && beq (timed q.start) at-a-time

-- the places in the order of arrival that those of a kind have
abbrev pub places_of : (Request → Bool) → List Arrival → List ℕ
places_of p [] = []
places_of p (a ∷ rest) = cond (p a.request) (a.place ∷ places_of p rest) (places_of p rest)

-- something holds of all numbers of a list
abbrev pub AllOf : (ℕ → Type 0) → List ℕ → Type 0
AllOf P [] = Unit {0}
AllOf P (n ∷ ns) = P n × AllOf P ns

-- each number is below all that come after it
abbrev pub Rising : List ℕ → Type 0
Rising [] = Unit {0}
Rising (n ∷ ns) = AllOf (λ m. n < m) ns × Rising ns

-- those that have left, in the order of leaving, then those that wait
abbrev pub LeaveInOrder : LineBook → Type 0
LeaveInOrder b = (transmit at-a-time : Bool) → Rising (places_of (of_kind transmit at-a-time) (b.left ++ b.waiting))

pub record LineBookSound (b : LineBook) : Type 0 where
  -- each answer so far was right: the hazard's claim
  pub right : AllAnsweredRight b.book.set b.book.settled
  -- "the six calls, or the three, run from leaving, calls on the line not counted"
  pub in_time : InTime b.book.requests
  -- "Each answer goes to an accepted request that had none yet, in that request's direction": accepted is left
  pub to_its_request : b.book.stray ≡ false
  -- "each answer returns one [buffer] that was held"
  pub returns_held : b.book.unheld ≡ false
  -- "those held number exactly the service's two plus one for each unanswered request", waiting ones among them, "all different"
  pub held_number : length (held_in b) ≡ 2 + (length b.book.requests + length b.waiting)
  pub different : (x : ℕ) → count x (held_in b) ≤ 1
  -- .. and below n
  pub in_range : (x : ℕ) → 1 ≤ count x (held_in b) → x < b.book.set.count
  -- no two requests, left and unanswered or waiting, have one token
  pub one_each : (t : ℕ) → count t (tokens b.book.requests ++ waiting_tokens b.waiting) ≤ 1
  -- `DRIVER_CHANNEL_CAPACITY` is 4
  pub at_most_four : length b.waiting ≤ 4
  pub leave_in_order : LeaveInOrder b
