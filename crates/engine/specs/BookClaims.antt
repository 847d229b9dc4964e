-- What is claimed of the book alone after every call: the request's third demand, and the hazard of a stray acknowledgement
-- (Answered.antt). No state and no wait is among the imports.
-- Assumes nothing.
use Rattle.std.specs.Prelude.{ℕ, ◌+◌, ◌≤◌, ◌<◌, ◌≡◌, Bool, true, false, cond, List, [], ◌∷◌, eqb, length}
use Rattle.engine.specs.Book.{is_number, Entry, Book}
use Rattle.engine.specs.Answered.{AllAnsweredRight}

-- 1 if two numbers are equal, else 0; and how often a number stands in a list
abbrev pub one : ℕ → ℕ → ℕ
one x y = cond (eqb y x) 1 0

abbrev pub count : ℕ → List ℕ → ℕ
count x [] = 0
count x (y ∷ ys) = one x y + count x ys

-- "No accepted transmit request is still unanswered once six accepted calls have followed its own (three if its frame wants
-- no acknowledgement)."
abbrev pub calls_allowed : Bool → ℕ
calls_allowed true = 6
calls_allowed false = 3

abbrev pub InTime : List Entry → Type 0
InTime [] = Unit {0}
InTime (e ∷ es) = (e.transmit ≡ true → e.age < calls_allowed (is_number e.number)) × InTime es

-- the tokens of the unanswered requests
abbrev pub tokens : List Entry → List ℕ
tokens [] = []
tokens (e ∷ es) = e.token ∷ tokens es

pub record BookSound (b : Book) : Type 0 where
  -- each answer so far was right: the hazard's claim
  pub right : AllAnsweredRight b.set b.settled
  pub in_time : InTime b.requests
  -- "Each answer goes to an accepted request that had none yet, in that request's direction."
  pub to_its_request : b.stray ≡ false
  -- "each answer returns one [buffer] that was held"
  pub returns_held : b.unheld ≡ false
  -- "those held number exactly the service's two plus one for each unanswered request, all different"
  pub held_number : length b.held ≡ 2 + length b.requests
  pub different : (x : ℕ) → count x b.held ≤ 1
  -- no two unanswered requests have one token, so that an answer's token names one of them
  pub one_each : (t : ℕ) → count t (tokens b.requests) ≤ 1
