-- The link quality decides nothing in the eleven calls either: document 02, E6.
-- Assumes nothing.
use Rattle.std.specs.Prelude.{ℕ, ◌≡◌, List}
use Rattle.tasks.specs.declared.Request.{Request}
use Rattle.tasks.specs.declared.State.{State}
use Rattle.engine.specs.Qualities.{task_with, stop_with, answers_with_of}
use Rattle.service.specs.declared.ServiceCall.{ServiceCall}
use Rattle.service.specs.Service.{Served, service_of}

-- a call with all qualities replaced
abbrev pub service_call_with : (ℕ → ℕ) → ServiceCall → ServiceCall
service_call_with f (ServiceCall.Arrive q) = ServiceCall.Arrive q
service_call_with f (ServiceCall.Withdraw token) = ServiceCall.Withdraw token
service_call_with f ServiceCall.Request = ServiceCall.Request
service_call_with f ServiceCall.None = ServiceCall.None
service_call_with f ServiceCall.FrameStart = ServiceCall.FrameStart
service_call_with f (ServiceCall.OutboundSeen start cca) = ServiceCall.OutboundSeen start cca
service_call_with f (ServiceCall.Stopped r) = ServiceCall.Stopped (stop_with f r)
service_call_with f (ServiceCall.Header arrived length) = ServiceCall.Header arrived length
service_call_with f (ServiceCall.Entered r entry) = ServiceCall.Entered (task_with f r) entry
service_call_with f (ServiceCall.Fallback r cause) = ServiceCall.Fallback (task_with f r) cause
service_call_with f ServiceCall.Rollback = ServiceCall.Rollback

-- what a call comes to, with the qualities of its answers replaced
abbrev pub served_with : (ℕ → ℕ) → Served → Served
served_with f r =
    record {
      refusal = r.refusal;
      state = r.state;
      line = r.line;
      reply = record { action = r.reply.action; answers = answers_with_of f r.reply.answers };
      pool = r.pool;
    }

-- told other qualities, a call has the same refusal, state, line, action and pool bytes, and the same answers but for their qualities,
-- which are those others
unfoldable pub QualityDecidesNoCall : Type 0
QualityDecidesNoCall =
    (f : ℕ → ℕ) (s : State) (qs : List Request) (pool : List ℕ) (c : ServiceCall) →
    service_of s qs pool (service_call_with f c) ≡ served_with f (service_of s qs pool c)
