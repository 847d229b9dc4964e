-- Start and the eleven calls on state, line and pool: document 02, E1, over document 01's calls on a wait (crates/engine/specs/Step.antt).
-- Assumes nothing.
use Rattle.std.specs.Prelude.{ℕ, ◌≡◌, Bool, true, false, cond, not, ◌&&◌, ◌||◌, List, [], ◌∷◌, ◌++◌, eqb, leb, length, Option, Some, None}
use Rattle.radio_frame.specs.declared.Settings.{Settings}
use Rattle.radio_frame.specs.Settings.{settings_refusal}
use Rattle.tasks.specs.declared.Asked.{Asked}
use Rattle.tasks.specs.declared.Call.{Call}
use Rattle.tasks.specs.declared.Reply.{Reply}
use Rattle.tasks.specs.declared.Request.{Request}
use Rattle.tasks.specs.declared.State.{State}
use Rattle.tasks.specs.declared.Timestamp.{Timestamp}
use Rattle.tasks.specs.declared.Wait.{Wait}
use Rattle.requests.specs.Requests.{arrival_refusal, allowed_of}
use Rattle.asking.specs.Asking.{taken_of}
use Rattle.engine.specs.Step.{Outcome}
use Rattle.engine.specs.Step.{step_of, step_pool, start_of, start_pool}
use Rattle.engine.specs.Refusals.{no_reply}
use Rattle.engine.specs.Actions.{outbound_open}
use Rattle.waiting_line.specs.Line.{allows, has_token, has_buffer, is_tx, any_passes, earliest_of, without_earliest, names_tx, is_token}
use Rattle.service.specs.declared.ServiceCall.{ServiceCall}

-- what a call returns, and the line and every byte of the pool after it; the line is its requests in the order of their arrival
pub record Served : Type 0 where
  pub refusal : ℕ
  pub state : State
  pub line : List Request
  pub reply : Reply
  pub pool : List ℕ

-- what is returned, but for the line
abbrev pub outcome_in : Served → Outcome
outcome_in r = record { refusal = r.refusal; state = r.state; reply = r.reply }

-- ---- "Requests arrive and may be withdrawn by token in every wait": what a call on the line is refused by

module _ (s : State) (qs : List Request) where
  unfoldable pub arrive_refusal : Request → ℕ
  arrive_refusal q =
      arrival_refusal s q (any_passes (has_buffer q.buffer) qs) (leb 4 (length qs)) (any_passes (has_token q.token) qs)

  -- "the Tx OutboundSeen named, its stop or the ask after its window ended still open": none has left or come before it since, so it is
  -- the earliest Tx still
  unfoldable pub is_named : ℕ → Bool
  is_named token = outbound_open s.wait && is_token token (earliest_of is_tx qs)

  -- "13 .. for a withdrawal, [when the token] does not [wait] or is the Tx OutboundSeen named"
  unfoldable pub withdraw_refusal : ℕ → ℕ
  withdraw_refusal token = cond (not (any_passes (has_token token) qs) || is_named token) 13 0

-- whether the line holds an arrival that the wait allows
unfoldable pub allowed_waits : List Request → Wait → Bool
allowed_waits qs (Wait.Asking a) = any_passes (allows (allowed_of a)) qs
allowed_waits qs (Wait.Entering e) = false
allowed_waits qs (Wait.Listening q) = false
allowed_waits qs (Wait.Stopping p) = false
allowed_waits qs (Wait.Reading q) = false

-- what a call finds
module _ (s : State) (qs : List Request) (pool : List ℕ) where
  -- "a refusal keeps its bytes"
  abbrev pub refused_by : ℕ → Served
  refused_by refusal = record { refusal = refusal; state = s; line = qs; reply = no_reply; pool = pool }

  -- the call that the wait is given, on the line as it is
  abbrev pub wait_given : Call → Served
  wait_given c =
      record {
        refusal = (step_of s pool c).refusal;
        state = (step_of s pool c).state;
        line = qs;
        reply = (step_of s pool c).reply;
        pool = step_pool s pool c;
      }

  -- a call on the line: another line, no action and no answer, the wait stays
  abbrev pub line_now : List Request → Served
  line_now line = record { refusal = 0; state = s; line = line; reply = no_reply; pool = pool }

  unfoldable pub unless_refused : ℕ → Served → Served
  unless_refused refusal r = cond (eqb refusal 0) r (refused_by refusal)

  -- ---- Calls on the line

  unfoldable pub arrive_of : Request → Served
  arrive_of q = unless_refused (arrive_refusal s qs q) (line_now (qs ++ q ∷ []))

  unfoldable pub withdraw_of : ℕ → Served
  withdraw_of token = unless_refused (withdraw_refusal s qs token) (line_now (without_earliest (has_token token) qs))

  -- ---- "and leave when the service asks"

  -- "An ask takes the earliest arrival whose direction and start the wait allows"; "a Request .. that finds none such is 9". The frame's
  -- bytes are noted now, from the pool as this call finds it; "on leaving the buffer is no ground for 7".
  unfoldable pub take_of : Asked → Option Request → Served
  take_of a None = refused_by 9
  take_of a (Some q) =
      record {
        refusal = 0;
        state = (taken_of s.set pool a q).state;
        line = without_earliest (allows (allowed_of a)) qs;
        reply = (taken_of s.set pool a q).reply;
        pool = pool;
      }

  unfoldable pub request_of : Wait → Served
  request_of (Wait.Asking a) = take_of a (earliest_of (allows (allowed_of a)) qs)
  request_of (Wait.Entering e) = refused_by 5
  request_of (Wait.Listening q) = refused_by 5
  request_of (Wait.Stopping p) = refused_by 5
  request_of (Wait.Reading q) = refused_by 5

  -- "where a wait takes None, it now fits exactly if the line holds no such arrival"
  unfoldable pub none_of : Served
  none_of = cond (allowed_waits qs s.wait) (refused_by 5) (wait_given Call.None)

  -- "OutboundSeen fits only with the start and flag of its earliest Tx"
  unfoldable pub outbound_seen_of : Timestamp → Bool → Served
  outbound_seen_of start cca =
      cond (names_tx start cca (earliest_of is_tx qs)) (wait_given (Call.OutboundSeen start cca)) (refused_by 5)

  -- ---- A call

  unfoldable pub call_of : ServiceCall → Served
  call_of (ServiceCall.Arrive q) = arrive_of q
  call_of (ServiceCall.Withdraw token) = withdraw_of token
  call_of ServiceCall.Request = request_of s.wait
  call_of ServiceCall.None = none_of
  call_of ServiceCall.FrameStart = wait_given Call.FrameStart
  call_of (ServiceCall.OutboundSeen start cca) = outbound_seen_of start cca
  call_of (ServiceCall.Stopped r) = wait_given (Call.Stopped r)
  call_of (ServiceCall.Header arrived length) = wait_given (Call.Header arrived length)
  call_of (ServiceCall.Entered r entry) = wait_given (Call.Entered r entry)
  call_of (ServiceCall.Fallback r cause) = wait_given (Call.Fallback r cause)
  call_of ServiceCall.Rollback = wait_given Call.Rollback

  -- 2 to 4 come before all others, in every call
  unfoldable pub service_of : ServiceCall → Served
  service_of c = unless_refused (settings_refusal s.set (length pool)) (call_of c)

-- ---- The calls on the line, "Arrive" and "Withdraw"
unfoldable pub is_on_line : ServiceCall → Bool
is_on_line (ServiceCall.Arrive q) = true
is_on_line (ServiceCall.Withdraw token) = true
is_on_line ServiceCall.Request = false
is_on_line ServiceCall.None = false
is_on_line ServiceCall.FrameStart = false
is_on_line (ServiceCall.OutboundSeen start cca) = false
is_on_line (ServiceCall.Stopped r) = false
is_on_line (ServiceCall.Header arrived length) = false
is_on_line (ServiceCall.Entered r entry) = false
is_on_line (ServiceCall.Fallback r cause) = false
is_on_line ServiceCall.Rollback = false

-- .. and with the one by which a request leaves, all that change the line (`LineStays`)
unfoldable pub changes_line : ServiceCall → Bool
changes_line (ServiceCall.Arrive q) = true
changes_line (ServiceCall.Withdraw token) = true
changes_line ServiceCall.Request = true
changes_line ServiceCall.None = false
changes_line ServiceCall.FrameStart = false
changes_line (ServiceCall.OutboundSeen start cca) = false
changes_line (ServiceCall.Stopped r) = false
changes_line (ServiceCall.Header arrived length) = false
changes_line (ServiceCall.Entered r entry) = false
changes_line (ServiceCall.Fallback r cause) = false
changes_line ServiceCall.Rollback = false

unfoldable pub LineStays : Type 0
LineStays =
    (s : State) (qs : List Request) (pool : List ℕ) (c : ServiceCall) → changes_line c ≡ false → (service_of s qs pool c).line ≡ qs

-- ---- "Start empties it"; a refused start keeps the line
unfoldable pub service_start : Settings → List Request → List ℕ → Served
service_start set qs pool =
    record {
      refusal = (start_of set pool).refusal;
      state = (start_of set pool).state;
      line = cond (eqb (start_of set pool).refusal 0) [] qs;
      reply = (start_of set pool).reply;
      pool = start_pool set pool;
    }
