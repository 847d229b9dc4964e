-- Lists of the eleven calls, and what is claimed after every one of them: what LineClaims.antt claims of the book, that book, state and
-- line agree, and that there is a way on.
-- Assumes nothing.
use Rattle.std.specs.Prelude.{ℕ, ◌≡◌, Bool, true, false, cond, not, ◌&&◌, ◌||◌, List, [], ◌∷◌, eqb, leb, length}
use Rattle.radio_frame.specs.declared.Settings.{Settings}
use Rattle.radio_frame.specs.Settings.{settings_refusal}
use Rattle.tasks.specs.declared.Asked.{Asked}
use Rattle.tasks.specs.declared.Call.{Call}
use Rattle.tasks.specs.declared.Left.{Left}
use Rattle.tasks.specs.declared.Request.{Request}
use Rattle.tasks.specs.declared.RxResult.{RxResult}
use Rattle.tasks.specs.declared.State.{State}
use Rattle.tasks.specs.declared.Starts.{Starts}
use Rattle.tasks.specs.declared.Starts.TheVariants.{Never, Any}
use Rattle.tasks.specs.declared.StopResult.{StopResult}
use Rattle.tasks.specs.declared.Task.{Task}
use Rattle.tasks.specs.declared.TaskResult.{TaskResult}
use Rattle.tasks.specs.declared.Timestamp.{Timestamp}
use Rattle.tasks.specs.declared.Transition.{Transition}
use Rattle.tasks.specs.declared.Wait.{Wait}
use Rattle.requests.specs.Requests.{allow, tx_length_unfit}
use Rattle.engine.specs.Asks.{Asks, no_ask, ask, listens}
use Rattle.engine.specs.Book.{has_token, has_number}
use Rattle.engine.specs.Agreement.{standing, Agrees}
use Rattle.engine.specs.Actions.{TaskDone, ReceivesIn, Spaced, asks_of}
use Rattle.engine.specs.AckTurns.{AckTurns}
use Rattle.engine.specs.Lists.{EarlierFirst}
use Rattle.waiting_line.specs.Line.{is_tx, same_start_of, same_flag_of}
use Rattle.service.specs.declared.ServiceCall.{ServiceCall}
use Rattle.service.specs.Service.{Served, outcome_in, allowed_waits, service_of}
use Rattle.service.specs.Heard.{heard}
use Rattle.service.specs.LineBook.{Arrival, earliest_in, LineBook, start_line_book, leaving, line_book_step}
use Rattle.service.specs.LineClaims.{waiting_tokens, held_in, LineBookSound}

-- ---- Lists of calls

-- one call of a list, and the pool's bytes as it finds them, which are anything
pub record ServiceCallMade : Type 0 where
  pub pool : List ℕ
  pub call : ServiceCall

-- the state and the line that the last call left, and the book: "It counts as state: each call is made on the line the last one left"
pub record ServiceMoment : Type 0 where
  pub state : State
  pub line : List Request
  pub book : LineBook

unfoldable pub after_call : ServiceMoment → ServiceCallMade → ServiceMoment
after_call m t =
    let r = service_of m.state m.line t.pool t.call in
    record {
      state = r.state;
      line = r.line;
      book = line_book_step m.book t.pool t.call r.refusal r.reply;
    }

unfoldable pub after : ServiceMoment → List ServiceCallMade → ServiceMoment
after m [] = m
after m (t ∷ ts) = after (after_call m t) ts

-- ---- What the refusals call unanswered, held and waiting, and what a Request would take, by the book

unfoldable pub arrive_by_book : LineBook → Request → ℕ
arrive_by_book b q =
    -- "6 .. looks at requests that have left the line"
    cond (has_token q.token b.book.requests) 6
    (cond (leb b.book.set.count q.buffer || has_number q.buffer (held_in b)) 7
    (cond (tx_length_unfit b.book.set q.task) 8
    (cond (leb 4 (length b.waiting)) 12
    (cond (has_number q.token (waiting_tokens b.waiting)) 13 0))))

-- whether the Tx that OutboundSeen named has a token
abbrev pub named_has : ℕ → List Arrival → Bool
named_has token [] = false
named_has token (a ∷ rest) = eqb a.request.token token

unfoldable pub withdraw_by_book : LineBook → ℕ → ℕ
withdraw_by_book b token = cond (not (has_number token (waiting_tokens b.waiting)) || named_has token b.named) 13 0

abbrev pub taken_or : ℕ → List Arrival → ℕ
taken_or refusal [] = refusal
taken_or refusal (a ∷ rest) = 0

unfoldable pub request_by_book : LineBook → Asks → ℕ
request_by_book b no_ask = 5
request_by_book b (ask w) = taken_or 9 (leaving b)
request_by_book b listens = 5

-- "where a wait takes None, it now fits exactly if the line holds no such arrival": not in idle, where an Rx may have any start, nor at the
-- ask for an outbound request, which allows no Rx
abbrev pub none_asked : List Arrival → Starts → ℕ
none_asked leave Starts.Any = 5
none_asked leave Starts.Never = 5
none_asked [] Starts.BestEffort = 0
none_asked (a ∷ rest) Starts.BestEffort = 5

unfoldable pub none_by_book : LineBook → Asks → ℕ
none_by_book b no_ask = 5
none_by_book b (ask w) = none_asked (leaving b) w.rx
none_by_book b listens = 5

-- "OutboundSeen fits only with the start and flag of its earliest Tx", while it is listened
abbrev pub named_by : Timestamp → Bool → List Arrival → Bool
named_by start cca [] = false
named_by start cca (a ∷ rest) = same_start_of a.request.start start && same_flag_of cca a.request.task

unfoldable pub outbound_by_book : LineBook → Timestamp → Bool → Asks → ℕ
outbound_by_book b start cca no_ask = 5
outbound_by_book b start cca (ask w) = 5
outbound_by_book b start cca listens = cond (named_by start cca (earliest_in is_tx b.waiting)) 0 5

-- ---- No dead end: the call that is accepted next

-- a result of the task that the radio leaves
abbrev pub some_result : Left → TaskResult
some_result Left.Off = TaskResult.Off
some_result (Left.Receiving q) = TaskResult.Rx (RxResult.CrcError 0 0)
some_result (Left.Sending q) = TaskResult.Sent 0
some_result Left.SendingAck = TaskResult.Sent 0
some_result (Left.ReceivingAck a) = TaskResult.Rx (RxResult.CrcError 0 0)

-- each transition can be entered
abbrev pub entered_next : Transition → ServiceCall
entered_next (Transition.Request l n) = ServiceCall.Entered (some_result l) 0
entered_next (Transition.Rearm q) = ServiceCall.Entered (some_result (Left.Receiving q)) 0
entered_next (Transition.AckTurn q i) = ServiceCall.Entered (some_result (Left.Receiving q)) 0
entered_next (Transition.AckWait q k) = ServiceCall.Entered (some_result (Left.Sending q)) 0

-- idle with an empty line: an Arrive, of a receive request in the lowest buffer that is not the service's own
abbrev pub free_buffer : Settings → ℕ
free_buffer set =
    cond (not (eqb set.ack_buffer 0 || eqb set.spare_buffer 0)) 0
    (cond (not (eqb set.ack_buffer 1 || eqb set.spare_buffer 1)) 1 2)

abbrev pub some_arrival : Settings → ServiceCall
some_arrival set =
    ServiceCall.Arrive (record { token = 0; start = Timestamp.BestEffort; buffer = free_buffer set; task = Task.Rx })

abbrev pub is_empty : List Request → Bool
is_empty [] = true
is_empty (q ∷ qs) = false

-- a wait that asks takes what it allows, and None if it allows nothing that waits; the others go on as the radio goes on. No Arrive and no
-- Withdraw, but idle with an empty line.
abbrev pub way_on_of : Settings → (empty allowed : Bool) → Wait → ServiceCall
way_on_of set empty allowed (Wait.Asking Asked.Idle) = cond empty (some_arrival set) ServiceCall.Request
way_on_of set empty allowed (Wait.Asking (Asked.AfterWindow q)) = ServiceCall.Request
way_on_of set empty allowed (Wait.Asking (Asked.AfterAckWindow q t)) = cond allowed ServiceCall.Request ServiceCall.None
way_on_of set empty allowed (Wait.Asking (Asked.Receiving q i)) = cond allowed ServiceCall.Request ServiceCall.None
way_on_of set empty allowed (Wait.Asking (Asked.Sending q)) = cond allowed ServiceCall.Request ServiceCall.None
way_on_of set empty allowed (Wait.Asking (Asked.SendingAck i)) = cond allowed ServiceCall.Request ServiceCall.None
way_on_of set empty allowed (Wait.Asking (Asked.ReceivingAck a)) = cond allowed ServiceCall.Request ServiceCall.None
way_on_of set empty allowed (Wait.Entering e) = entered_next e
way_on_of set empty allowed (Wait.Listening q) = ServiceCall.FrameStart
way_on_of set empty allowed (Wait.Stopping p) = ServiceCall.Stopped StopResult.FrameStarted
way_on_of set empty allowed (Wait.Reading q) = ServiceCall.Header 0 0

-- ---- The claims

-- the call as the wait is told it, where the request q leaves; Arrive and Withdraw are told to no wait, and have no action and no answer
abbrev pub wait_call : Request → ServiceCall → Call
wait_call q (ServiceCall.Arrive p) = Call.None
wait_call q (ServiceCall.Withdraw token) = Call.None
wait_call q ServiceCall.Request = Call.Request q
wait_call q ServiceCall.None = Call.None
wait_call q ServiceCall.FrameStart = Call.FrameStart
wait_call q (ServiceCall.OutboundSeen start cca) = Call.OutboundSeen start cca
wait_call q (ServiceCall.Stopped r) = Call.Stopped r
wait_call q (ServiceCall.Header arrived len) = Call.Header arrived len
wait_call q (ServiceCall.Entered r entry) = Call.Entered r entry
wait_call q (ServiceCall.Fallback r cause) = Call.Fallback r cause
wait_call q ServiceCall.Rollback = Call.Rollback

-- the requests of some arrivals
abbrev pub requests_in : List Arrival → List Request
requests_in [] = []
requests_in (a ∷ rest) = a.request ∷ requests_in rest

-- a pool that start's settings pass with, as the one given to start did
abbrev pub PoolFits : ServiceMoment → List ℕ → Type 0
PoolFits m pool = settings_refusal m.book.book.set (length pool) ≡ 0

-- what holds after every call
pub record ServiceSound (m : ServiceMoment) : Type 0 where
  -- of the book alone: the third demand, the hazard, and the order of leaving
  pub book : LineBookSound m.book
  -- before each call, what 6 calls unanswered, what 7 calls held, what 12 counts and what 13 calls waiting are the book's ..
  pub arrive_by_book_lem :
      (pool : List ℕ) (q : Request) →
      PoolFits m pool →
      (service_of m.state m.line pool (ServiceCall.Arrive q)).refusal ≡ arrive_by_book m.book q
  pub withdraw_by_book_lem :
      (pool : List ℕ) (token : ℕ) →
      PoolFits m pool →
      (service_of m.state m.line pool (ServiceCall.Withdraw token)).refusal ≡ withdraw_by_book m.book token
  -- .. and so is what a Request would take: the radio is told to do just that ..
  pub request_by_book_lem :
      (pool : List ℕ) →
      PoolFits m pool →
      (service_of m.state m.line pool ServiceCall.Request).refusal ≡ request_by_book m.book m.book.asks
  pub request_takes :
      (pool : List ℕ) (a : Arrival) →
      PoolFits m pool →
      leaving m.book ≡ a ∷ [] →
      TaskDone a.request a.request.task (service_of m.state m.line pool ServiceCall.Request).reply.action
  -- .. and where None and OutboundSeen fit
  pub none_by_book_lem :
      (pool : List ℕ) →
      PoolFits m pool →
      (service_of m.state m.line pool ServiceCall.None).refusal ≡ none_by_book m.book m.book.asks
  pub outbound_by_book_lem :
      (pool : List ℕ) (start : Timestamp) (cca : Bool) →
      PoolFits m pool →
      (service_of m.state m.line pool (ServiceCall.OutboundSeen start cca)).refusal ≡ outbound_by_book m.book start cca m.book.asks
  -- the request that OutboundSeen named is the one that leaves at the ask after its window ended; so that ask is never met by 9
  pub named_leaves :
      m.book.asks ≡ ask (allow Any Never) →
      (a : Arrival) × ((m.book.named ≡ a ∷ []) × (leaving m.book ≡ a ∷ []))
  -- the line holds what waits in the book, and the wait asks for what the book says
  pub line_agrees : m.line ≡ requests_in m.book.waiting
  pub asks_agree : m.book.asks ≡ asks_of m.state.wait
  -- the state says of the requests that have left and are unanswered what the book says
  pub agrees : Agrees (standing m.state) m.book.book.requests
  -- received bytes are taken from the buffer that the last Rx action named
  pub receives : ReceivesIn m.state.set m.book.book.radio.buffer m.state.wait
  -- of the reply of whatever call is accepted next: the spacing of its action, and the order of its answers
  pub spaced :
      (pool : List ℕ) (c : ServiceCall) (q : Request) →
      (service_of m.state m.line pool c).refusal ≡ 0 →
      Spaced m.book.book.radio (wait_call q c) (service_of m.state m.line pool c).reply.action
  pub earlier_first :
      (pool : List ℕ) (c : ServiceCall) →
      (service_of m.state m.line pool c).refusal ≡ 0 →
      EarlierFirst m.book.book.requests (service_of m.state m.line pool c).reply.answers
  -- a received frame is acknowledged exactly where it is due, and no other call sends from the ACK buffer or writes a byte: E4
  pub ack_turns :
      (pool : List ℕ) (c : ServiceCall) (d : Call) →
      heard m.state m.line c ≡ d ∷ [] →
      AckTurns m.state pool d (outcome_in (service_of m.state m.line pool c)) (service_of m.state m.line pool c).pool
  -- no dead end: with a pool of the right length this call is accepted
  pub way_on :
      (pool : List ℕ) →
      PoolFits m pool →
      (service_of m.state m.line pool
      (way_on_of m.state.set (is_empty m.line) (allowed_waits m.line m.state.wait) m.state.wait)).refusal
      ≡ 0

-- THE THIRD DEMAND ("The third demand's list takes in the calls on the line"), of what a start returned: if it was accepted, then after
-- every list of the eleven calls, refused ones included, each on the state and the line that the last one left and on a pool that holds
-- anything, the book is sound. Every prefix of a list is a list.
unfoldable pub AlwaysServed : Settings → Served → Type 0
AlwaysServed set r =
    r.refusal ≡ 0 →
    (ts : List ServiceCallMade) →
    ServiceSound (after (record { state = r.state; line = r.line; book = start_line_book set }) ts)
