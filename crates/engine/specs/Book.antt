-- The third demand's book: document 01, "The third demand's book".
-- "It is kept from start, the calls, the pool as each call finds it, and the replies alone, never from the state." The imports show
-- it: no state and no wait is among them.
-- Assumes nothing.
use Rattle.std.specs.Prelude.{ℕ, suc, ◌+◌, Bool, true, false, cond, not, ◌&&◌, ◌||◌, List, [], ◌∷◌, ◌++◌, eqb, Option, Some, None}
use Rattle.std.specs.Bool.{beq}
use Rattle.radio_frame.specs.declared.Settings.{Settings}
use Rattle.radio_frame.specs.RadioFrame.{frame_head, ack_seq_num_of}
use Rattle.tasks.specs.declared.Action.{Action}
use Rattle.tasks.specs.declared.Answer.{Answer}
use Rattle.tasks.specs.declared.Answers.{Answers}
use Rattle.tasks.specs.declared.Call.{Call}
use Rattle.tasks.specs.declared.Reply.{Reply}
use Rattle.tasks.specs.declared.Request.{Request}
use Rattle.tasks.specs.declared.Response.{Response}
use Rattle.tasks.specs.declared.StopResult.{StopResult}
use Rattle.tasks.specs.declared.Task.{Task}
use Rattle.tasks.specs.declared.TaskResult.{TaskResult}

-- ---- What the calls so far say of a transmit request

-- the buffer that an action tells the radio to receive in
pub data Named : Type 0 where
  no_buffer_of : Named
  in_buffer_of : ℕ → Named

abbrev pub rx_named : Action → Named
rx_named Action.Nothing = no_buffer_of
rx_named Action.ReceiveRequest = no_buffer_of
rx_named (Action.TryReceiveRequest d) = no_buffer_of
rx_named Action.Listen = no_buffer_of
rx_named (Action.Stop how) = no_buffer_of
rx_named Action.ReadHeader = no_buffer_of
rx_named (Action.Tx b n cca start ifs rollback) = no_buffer_of
rx_named (Action.Rx b start ifs rollback) = in_buffer_of b
rx_named (Action.Off rollback) = no_buffer_of

pub data Progress : Type 0 where
  -- the call at hand requests it
  requested : Progress
  -- it was accepted
  accepted : Progress
  -- the radio entered sending its frame; the action of that call may have named a buffer, to receive the frame's ACK in
  entered : Named → Progress
  -- its frame was told sent, at a time, and its ACK is awaited in that buffer
  sent : ℕ → ℕ → Progress
  -- .. and the window for its ACK ended
  window_ended : ℕ → Progress
  -- .. or a frame started in it, in that buffer
  frame_started : ℕ → ℕ → Progress
  -- a call was accepted that has no place here: no answer is right any more
  astray : Progress

-- Request, and None: the line is asked while the frame is sent, or while what may be its ACK is received
abbrev pub told_asked : Progress → Progress
told_asked requested = accepted
told_asked accepted = astray
told_asked (entered n) = entered n
told_asked (sent t b) = astray
told_asked (window_ended t) = astray
told_asked (frame_started t b) = frame_started t b
told_asked astray = astray

-- Entered: the radio enters sending what was accepted; of a frame whose ACK will be received it tells the time sent
abbrev pub told_entered : Action → TaskResult → Progress → Progress
told_entered action r requested = astray
told_entered action r accepted = entered (rx_named action)
told_entered action r (entered no_buffer_of) = astray
told_entered action TaskResult.Off (entered (in_buffer_of b)) = astray
told_entered action (TaskResult.Sent t) (entered (in_buffer_of b)) = sent t b
told_entered action (TaskResult.Rx r) (entered (in_buffer_of b)) = astray
told_entered action r (sent t b) = astray
told_entered action r (window_ended t) = astray
told_entered action r (frame_started t b) = astray
told_entered action r astray = astray

-- Stopped: what came of the window for its ACK; "failed once, stop without a time"
abbrev pub told_stopped : StopResult → Progress → Progress
told_stopped r requested = astray
told_stopped r accepted = astray
told_stopped r (entered n) = astray
told_stopped StopResult.FrameStarted (sent t b) = frame_started t b
told_stopped (StopResult.RxWindowEnded r) (sent t b) = window_ended t
told_stopped StopResult.Failed (sent t b) = sent t b
told_stopped r (window_ended t) = astray
told_stopped r (frame_started t b) = astray
told_stopped r astray = astray

-- what an accepted call, with the action of its reply, says of a transmit request that it does not answer
abbrev pub told : Call → Action → Progress → Progress
told (Call.Request q) action p = told_asked p
told Call.None action p = told_asked p
told Call.FrameStart action p = astray
told (Call.OutboundSeen start cca) action p = astray
told (Call.Stopped r) action p = told_stopped r p
told (Call.Header arrived length) action p = astray
told (Call.Entered r entry) action p = told_entered action r p
told (Call.Fallback r cause) action p = astray
told Call.Rollback action p = astray

-- ---- What the calls so far say of the radio

-- whether it is on; the length with checksum of the last data frame, sent or received; the buffer that the last Rx action named
pub record Radio : Type 0 where
  pub on : Bool
  pub length : ℕ
  pub buffer : ℕ

-- idle: the action of a call after which the radio is off
abbrev pub is_idle : Action → Bool
is_idle Action.Nothing = false
is_idle Action.ReceiveRequest = true
is_idle (Action.TryReceiveRequest d) = false
is_idle Action.Listen = false
is_idle (Action.Stop how) = false
is_idle Action.ReadHeader = false
is_idle (Action.Tx buffer n cca start ifs rollback) = false
is_idle (Action.Rx buffer start ifs rollback) = false
is_idle (Action.Off rollback) = false

-- the radio enters a task, or off; it is off too once a window has ended, and where it could not enter sending
abbrev pub on_after : Call → Action → Bool → Bool
on_after (Call.Request q) action on = on
on_after Call.None action on = on
on_after Call.FrameStart action on = on
on_after (Call.OutboundSeen start cca) action on = on
on_after (Call.Stopped StopResult.FrameStarted) action on = on
on_after (Call.Stopped (StopResult.RxWindowEnded r)) action on = false
on_after (Call.Stopped StopResult.Failed) action on = on
on_after (Call.Header arrived length) action on = on
on_after (Call.Entered r entry) action on = not (is_idle action)
on_after (Call.Fallback r cause) action on = false
on_after Call.Rollback action on = on

-- a data frame to be sent has its length without checksum, a received one, in its header's call, with it
abbrev pub task_length : ℕ → Task → ℕ → ℕ
task_length fcs (Task.Tx length cca) before = length + fcs
task_length fcs Task.Rx before = before

abbrev pub length_after : ℕ → Call → ℕ → ℕ
length_after fcs (Call.Request q) before = task_length fcs q.task before
length_after fcs Call.None before = before
length_after fcs Call.FrameStart before = before
length_after fcs (Call.OutboundSeen start cca) before = before
length_after fcs (Call.Stopped r) before = before
length_after fcs (Call.Header arrived length) before = length
length_after fcs (Call.Entered r entry) before = before
length_after fcs (Call.Fallback r cause) before = before
length_after fcs Call.Rollback before = before

abbrev pub buffer_after : Named → ℕ → ℕ
buffer_after no_buffer_of before = before
buffer_after (in_buffer_of b) before = b

abbrev pub radio_after : ℕ → Call → Action → Radio → Radio
radio_after fcs c action r =
    record { on = on_after c action r.on; length = length_after fcs c r.length; buffer = buffer_after (rx_named action) r.buffer }

-- ---- The book

-- whether a number was noted
abbrev pub is_number : Option ℕ → Bool
is_number (Some k) = true
is_number None = false

-- an unanswered request: its token, whether it is a transmit request, the number noted at acceptance if its frame wanted an ACK,
-- what the calls so far say of it (a receive request stays as it was accepted), and how many accepted calls have followed its own
pub record Entry : Type 0 where
  pub token : ℕ
  pub transmit : Bool
  pub number : Option ℕ
  pub progress : Progress
  pub age : ℕ

-- an answered request: its entry, with the progress before the call that answered it; that call, the pool as the call found it, and
-- what was answered
pub record Settled : Type 0 where
  pub entry : Entry
  pub pool : List ℕ
  pub call : Call
  pub response : Response

-- the unanswered requests in the order of their acceptance, the held buffers, the answered requests, the radio, the settings that
-- start was given; and whether an answer so far had no unanswered request of its token and direction, or returned a buffer that was
-- not held
pub record Book : Type 0 where
  pub requests : List Entry
  pub held : List ℕ
  pub settled : List Settled
  pub radio : Radio
  pub set : Settings
  pub stray : Bool
  pub unheld : Bool

-- "Start enters the own buffers as held." The radio is off.
abbrev pub start_book : Settings → Book
start_book set =
    record {
      requests = [];
      held = set.ack_buffer ∷ set.spare_buffer ∷ [];
      settled = [];
      radio = record { on = false; length = 0; buffer = 0 };
      set = set;
      stray = false;
      unheld = false;
    }

-- "A Tx frame wants an ACK if its control at acceptance has bit 5 and its number is not suppressed; that number .. is noted."
abbrev pub entry_of : Settings → List ℕ → Request → Task → Entry
entry_of set pool q (Task.Tx length cca) =
    record {
      token = q.token;
      transmit = true;
      number = ack_seq_num_of (frame_head set pool q.buffer);
      progress = requested;
      age = 0;
    }
entry_of set pool q Task.Rx =
    record { token = q.token; transmit = false; number = None; progress = accepted; age = 0 }

-- one more accepted call has followed each of them
abbrev pub older : List Entry → List Entry
older [] = []
older (e ∷ es) =
    record {
      token = e.token;
      transmit = e.transmit;
      number = e.number;
      progress = e.progress;
      age = suc e.age;
    }
    ∷ older es

-- "An accepted Request enters its token, its direction and, as held, its buffer; it is unanswered from then on."
abbrev pub requests_entered : Settings → List ℕ → Call → List Entry → List Entry
requests_entered set pool (Call.Request q) es = older es ++ entry_of set pool q q.task ∷ []
requests_entered set pool Call.None es = older es
requests_entered set pool Call.FrameStart es = older es
requests_entered set pool (Call.OutboundSeen start cca) es = older es
requests_entered set pool (Call.Stopped r) es = older es
requests_entered set pool (Call.Header arrived length) es = older es
requests_entered set pool (Call.Entered r entry) es = older es
requests_entered set pool (Call.Fallback r cause) es = older es
requests_entered set pool Call.Rollback es = older es

abbrev pub held_entered : Call → List ℕ → List ℕ
held_entered (Call.Request q) held = q.buffer ∷ held
held_entered Call.None held = held
held_entered Call.FrameStart held = held
held_entered (Call.OutboundSeen start cca) held = held
held_entered (Call.Stopped r) held = held
held_entered (Call.Header arrived length) held = held
held_entered (Call.Entered r entry) held = held
held_entered (Call.Fallback r cause) held = held
held_entered Call.Rollback held = held

abbrev pub enter : List ℕ → Call → Book → Book
enter pool c b =
    record {
      requests = requests_entered b.set pool c b.requests;
      held = held_entered c b.held;
      settled = b.settled;
      radio = b.radio;
      set = b.set;
      stray = b.stray;
      unheld = b.unheld;
    }

-- "Sent, Nack and error answer a transmit request; a receive result or "window ended" answers a receive request."
abbrev pub answers_transmit : Response → Bool
answers_transmit (Response.Sent t) = true
answers_transmit (Response.Nack t) = true
answers_transmit (Response.Error cause) = true
answers_transmit (Response.Received r) = false

-- whether an unanswered request has a token, and is of a direction
abbrev pub asks : ℕ → Bool → List Entry → Bool
asks t transmit [] = false
asks t transmit (e ∷ es) = (eqb e.token t && beq e.transmit transmit) || asks t transmit es

abbrev pub has_token : ℕ → List Entry → Bool
has_token t [] = false
has_token t (e ∷ es) = eqb e.token t || has_token t es

abbrev pub has_number : ℕ → List ℕ → Bool
has_number x [] = false
has_number x (y ∷ ys) = eqb y x || has_number x ys

-- "each strikes out the unanswered request with its token, and the buffer it returns"
abbrev pub strike : ℕ → List Entry → List Entry
strike t [] = []
strike t (e ∷ es) = cond (eqb e.token t) es (e ∷ strike t es)

abbrev pub strike_number : ℕ → List ℕ → List ℕ
strike_number x [] = []
strike_number x (y ∷ ys) = cond (eqb y x) ys (y ∷ strike_number x ys)

-- the request that an answer strikes out is settled by it
abbrev pub settle : List ℕ → Call → Answer → List Entry → List Settled → List Settled
settle pool c a [] settled = settled
settle pool c a (e ∷ es) settled =
    cond (eqb e.token a.token)
    (record { entry = e; pool = pool; call = c; response = a.response } ∷ settled)
    (settle pool c a es settled)

abbrev pub take_answer : List ℕ → Call → Answer → Book → Book
take_answer pool c a b =
    record {
      requests = strike a.token b.requests;
      held = strike_number a.buffer b.held;
      settled = settle pool c a b.requests b.settled;
      radio = b.radio;
      set = b.set;
      stray = b.stray || not (asks a.token (answers_transmit a.response) b.requests);
      unheld = b.unheld || not (has_number a.buffer b.held);
    }

-- "Then the call's answers are taken in order"
abbrev pub take_answers : List ℕ → Call → Answers → Book → Book
take_answers pool c Answers.None b = b
take_answers pool c (Answers.One x) b = take_answer pool c x b
take_answers pool c (Answers.Two x y) b = take_answer pool c y (take_answer pool c x b)

-- what the call says of those that are still unanswered, and of the radio
abbrev pub told_all : Call → Action → List Entry → List Entry
told_all c action [] = []
told_all c action (e ∷ es) =
    record {
      token = e.token;
      transmit = e.transmit;
      number = e.number;
      progress = cond e.transmit (told c action e.progress) e.progress;
      age = e.age;
    }
    ∷ told_all c action es

abbrev pub tell : Call → Action → Book → Book
tell c action b =
    record {
      requests = told_all c action b.requests;
      held = b.held;
      settled = b.settled;
      radio = radio_after b.set.fcs_length c action b.radio;
      set = b.set;
      stray = b.stray;
      unheld = b.unheld;
    }

-- "Accepted means not refused." "A refused call changes nothing."
unfoldable pub book_step : Book → List ℕ → Call → ℕ → Reply → Book
book_step b pool c refusal r =
    cond (eqb refusal 0) (tell c r.action (take_answers pool c r.answers (enter pool c b))) b
