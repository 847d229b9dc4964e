-- The third demand's book with the waiting line: document 02, E1. It is kept from start, the calls, the pool as each call finds it, and the
-- replies alone: no state, no wait and no line is among the types that it uses.
-- Assumes nothing.
use Rattle.std.specs.Prelude.{ℕ, suc, Bool, false, cond, List, [], ◌∷◌, ◌++◌, eqb}
use Rattle.radio_frame.specs.declared.Settings.{Settings}
use Rattle.tasks.specs.declared.Call.{Call}
use Rattle.tasks.specs.declared.Reply.{Reply}
use Rattle.tasks.specs.declared.Request.{Request}
use Rattle.tasks.specs.declared.Starts.TheVariants.{Any}
use Rattle.requests.specs.Requests.{allow}
use Rattle.engine.specs.Asks.{Asks, no_ask, ask, listens, asks_after, outbound_after}
use Rattle.engine.specs.Book.{Book, take_answers, book_step, start_book}
use Rattle.waiting_line.specs.Line.{allows, has_token, is_tx}
use Rattle.service.specs.declared.ServiceCall.{ServiceCall}

-- an arrival: which one it is of all that were accepted, counted from 0, and its request
pub record Arrival : Type 0 where
  pub place : ℕ
  pub request : Request

-- the earliest of some arrivals whose request passes a test (none, or one), and those that stay behind
abbrev pub earliest_in : (Request → Bool) → List Arrival → List Arrival
earliest_in p [] = []
earliest_in p (a ∷ rest) = cond (p a.request) (a ∷ []) (earliest_in p rest)

abbrev pub others_in : (Request → Bool) → List Arrival → List Arrival
others_in p [] = []
others_in p (a ∷ rest) = cond (p a.request) rest (a ∷ others_in p rest)

-- the arrivals that wait, in their order; those that have left, in the order of leaving; how many there were; what is asked for now, and
-- the Tx that OutboundSeen named as long as its stop, or the ask after its window ended, is open; and document 01's book, of the requests
-- that have left
pub record LineBook : Type 0 where
  pub waiting : List Arrival
  pub left : List Arrival
  pub arrivals : ℕ
  pub asks : Asks
  pub outbound : Bool
  pub named : List Arrival
  pub book : Book

-- start: nothing waits, and "Idle: Request, any direction and start"
abbrev pub start_line_book : Settings → LineBook
start_line_book set =
    record {
      waiting = [];
      left = [];
      arrivals = 0;
      asks = ask (allow Any Any);
      outbound = false;
      named = [];
      book = start_book set;
    }

-- "which one a Request takes, it finds among its own waiting entries by the rule above, in the wait that document 01 gives for the calls
-- so far"
abbrev pub allowed_by : Asks → Request → Bool
allowed_by no_ask q = false
allowed_by (ask w) q = allows w q
allowed_by listens q = false

abbrev pub leaving : LineBook → List Arrival
leaving b = earliest_in (allowed_by b.asks) b.waiting

abbrev pub staying : LineBook → List Arrival
staying b = others_in (allowed_by b.asks) b.waiting

-- ---- The calls on the line: they tell no wait anything, and no request that has left ages. "Then the call's answers are taken in order":
-- of these calls too, though they have none.

-- "The book enters a request once, at arrival."
abbrev pub arrives : List ℕ → Reply → Request → LineBook → LineBook
arrives pool r q b =
    record {
      waiting = b.waiting ++ record { place = b.arrivals; request = q } ∷ [];
      left = b.left;
      arrivals = suc b.arrivals;
      asks = b.asks;
      outbound = b.outbound;
      named = b.named;
      book = take_answers pool Call.None r.answers b.book;
    }

-- "withdrawal frees it [the buffer], and the withdrawn request no longer counts as unanswered"
abbrev pub withdraws : List ℕ → Reply → ℕ → LineBook → LineBook
withdraws pool r token b =
    record {
      waiting = others_in (has_token token) b.waiting;
      left = b.left;
      arrivals = b.arrivals;
      asks = b.asks;
      outbound = b.outbound;
      named = b.named;
      book = take_answers pool Call.None r.answers b.book;
    }

-- ---- The other calls: what the waits are told

-- the Tx that OutboundSeen names is the earliest; it stays named as long as `outbound` says
abbrev pub named_after : Call → Bool → LineBook → List Arrival
named_after (Call.OutboundSeen start cca) stays b = earliest_in is_tx b.waiting
named_after (Call.Request q) stays b = []
named_after Call.None stays b = []
named_after Call.FrameStart stays b = []
named_after (Call.Stopped r) stays b = cond stays b.named []
named_after (Call.Header arrived length) stays b = []
named_after (Call.Entered r entry) stays b = []
named_after (Call.Fallback r cause) stays b = []
named_after Call.Rollback stays b = []

-- a call that a wait is told, with those that wait on and those that have left then: document 01's book takes the call, and the request
-- that leaves is accepted by it
abbrev pub told : List ℕ → Reply → Call → List Arrival → List Arrival → LineBook → LineBook
told pool r c waiting left b =
    record {
      waiting = waiting;
      left = left;
      arrivals = b.arrivals;
      asks = asks_after c r.action;
      outbound = outbound_after c b.outbound;
      named = named_after c (outbound_after c b.outbound) b;
      book = book_step b.book pool c 0 r;
    }

-- "Acceptance .. is leaving." A Request that nothing leaves by changes nothing: no such Request is accepted (`request_by_book_lem`).
abbrev pub takes : List ℕ → Reply → List Arrival → LineBook → LineBook
takes pool r [] b = b
takes pool r (a ∷ rest) b = told pool r (Call.Request a.request) (staying b) (b.left ++ a ∷ []) b

abbrev pub passes : List ℕ → Reply → Call → LineBook → LineBook
passes pool r c b = told pool r c b.waiting b.left b

-- an accepted call
unfoldable pub accepts : List ℕ → ServiceCall → Reply → LineBook → LineBook
accepts pool (ServiceCall.Arrive q) r b = arrives pool r q b
accepts pool (ServiceCall.Withdraw token) r b = withdraws pool r token b
accepts pool ServiceCall.Request r b = takes pool r (leaving b) b
accepts pool ServiceCall.None r b = passes pool r Call.None b
accepts pool ServiceCall.FrameStart r b = passes pool r Call.FrameStart b
accepts pool (ServiceCall.OutboundSeen start cca) r b = passes pool r (Call.OutboundSeen start cca) b
accepts pool (ServiceCall.Stopped x) r b = passes pool r (Call.Stopped x) b
accepts pool (ServiceCall.Header arrived length) r b = passes pool r (Call.Header arrived length) b
accepts pool (ServiceCall.Entered x entry) r b = passes pool r (Call.Entered x entry) b
accepts pool (ServiceCall.Fallback x cause) r b = passes pool r (Call.Fallback x cause) b
accepts pool ServiceCall.Rollback r b = passes pool r Call.Rollback b

-- "A refused call changes nothing."
unfoldable pub line_book_step : LineBook → List ℕ → ServiceCall → ℕ → Reply → LineBook
line_book_step b pool c refusal r = cond (eqb refusal 0) (accepts pool c r b) b
