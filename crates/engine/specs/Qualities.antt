-- The link quality decides nothing: document 02, E6. "For comparison with the Rust the new byte is left aside": it can be, as a call
-- does the same whatever the qualities are, but for handing them on.
-- Assumes nothing.
use Rattle.std.specs.Prelude.{ℕ, ◌≡◌, List}
use Rattle.tasks.specs.declared.Answer.{Answer}
use Rattle.tasks.specs.declared.Answers.{Answers}
use Rattle.tasks.specs.declared.Call.{Call}
use Rattle.tasks.specs.declared.Response.{Response}
use Rattle.tasks.specs.declared.RxResult.{RxResult}
use Rattle.tasks.specs.declared.State.{State}
use Rattle.tasks.specs.declared.StopResult.{StopResult}
use Rattle.tasks.specs.declared.TaskResult.{TaskResult}
use Rattle.engine.specs.Step.{Outcome}
use Rattle.engine.specs.Step.{step_of, step_pool}

-- ---- Every link quality k replaced by f k, in what a call tells and in what it gives; all else stays

abbrev pub rx_with : (ℕ → ℕ) → RxResult → RxResult
rx_with f (RxResult.Frame length time k) = RxResult.Frame length time (f k)
rx_with f RxResult.RxWindowEnded = RxResult.RxWindowEnded
rx_with f (RxResult.CrcError time k) = RxResult.CrcError time (f k)

abbrev pub task_with : (ℕ → ℕ) → TaskResult → TaskResult
task_with f TaskResult.Off = TaskResult.Off
task_with f (TaskResult.Sent time) = TaskResult.Sent time
task_with f (TaskResult.Rx r) = TaskResult.Rx (rx_with f r)

abbrev pub stop_with : (ℕ → ℕ) → StopResult → StopResult
stop_with f StopResult.FrameStarted = StopResult.FrameStarted
stop_with f (StopResult.RxWindowEnded r) = StopResult.RxWindowEnded (rx_with f r)
stop_with f StopResult.Failed = StopResult.Failed

abbrev pub call_with : (ℕ → ℕ) → Call → Call
call_with f (Call.Request q) = Call.Request q
call_with f Call.None = Call.None
call_with f Call.FrameStart = Call.FrameStart
call_with f (Call.OutboundSeen start cca) = Call.OutboundSeen start cca
call_with f (Call.Stopped r) = Call.Stopped (stop_with f r)
call_with f (Call.Header arrived length) = Call.Header arrived length
call_with f (Call.Entered r entry) = Call.Entered (task_with f r) entry
call_with f (Call.Fallback r cause) = Call.Fallback (task_with f r) cause
call_with f Call.Rollback = Call.Rollback

abbrev pub response_with : (ℕ → ℕ) → Response → Response
response_with f (Response.Sent time) = Response.Sent time
response_with f (Response.Nack time) = Response.Nack time
response_with f (Response.Error cause) = Response.Error cause
response_with f (Response.Received r) = Response.Received (rx_with f r)

abbrev pub answer_with : (ℕ → ℕ) → Answer → Answer
answer_with f x = record { token = x.token; buffer = x.buffer; response = response_with f x.response }

abbrev pub answers_with_of : (ℕ → ℕ) → Answers → Answers
answers_with_of f Answers.None = Answers.None
answers_with_of f (Answers.One x) = Answers.One (answer_with f x)
answers_with_of f (Answers.Two x y) = Answers.Two (answer_with f x) (answer_with f y)

abbrev pub outcome_with : (ℕ → ℕ) → Outcome → Outcome
outcome_with f o =
    record {
      refusal = o.refusal;
      state = o.state;
      reply = record { action = o.reply.action; answers = answers_with_of f o.reply.answers };
    }

-- ---- The claim

-- Told other qualities, a call has the same refusal, the same next state, the same action, the same answers but for their qualities,
-- which are those others, and writes the same bytes. So no state holds a quality.
unfoldable pub QualityDecidesNothing : Type 0
QualityDecidesNothing =
    (f : ℕ → ℕ) (s : State) (pool : List ℕ) (c : Call) →
    (step_of s pool (call_with f c) ≡ outcome_with f (step_of s pool c)) × (step_pool s pool (call_with f c) ≡ step_pool s pool c)
