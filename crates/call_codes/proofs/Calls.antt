-- Every call of the service has numbers that stand for it.
-- Assumes nothing.
use Prim.Native.Nat.{ℕ}
use mathlib.Core.Path.{◌≡◌, refl}
use mathlib.Core.Bool.{true, false}
use Rattle.tasks.specs.declared.Cause.{Cause}
use Rattle.tasks.specs.declared.RxResult.{RxResult}
use Rattle.tasks.specs.declared.StopResult.{StopResult}
use Rattle.tasks.specs.declared.Task.{Task}
use Rattle.tasks.specs.declared.TaskResult.{TaskResult}
use Rattle.tasks.specs.declared.Timestamp.{Timestamp}
use Rattle.service.specs.declared.ServiceCall.{ServiceCall}
use Rattle.call_codes.specs.declared.ExportedCall.{ExportedCall}
use Rattle.call_codes.specs.Codes.{timestamp_of, task_of, stop_of, result_of, cause_of, known_of, call_of, arrival_numbers, stop_numbers, result_numbers, fallback_numbers, EveryCallHasNumbers}

abbrev Stands : ExportedCall → ServiceCall → Type 0
Stands x c = (known_of x ≡ true) × (call_of x ≡ c)

arrival : (token buffer : ℕ) (start : Timestamp) (task : Task)
    → Stands (arrival_numbers (record { token = token; start = start; buffer = buffer; task = task }) task) (ServiceCall.Arrive (record { token = token; start = start; buffer = buffer; task = task }))
unfolding known_of call_of timestamp_of task_of
arrival token buffer Timestamp.BestEffort (Task.Tx length true) = (refl, refl)
arrival token buffer Timestamp.BestEffort (Task.Tx length false) = (refl, refl)
arrival token buffer Timestamp.BestEffort Task.Rx = (refl, refl)
arrival token buffer (Timestamp.Scheduled t) (Task.Tx length true) = (refl, refl)
arrival token buffer (Timestamp.Scheduled t) (Task.Tx length false) = (refl, refl)
arrival token buffer (Timestamp.Scheduled t) Task.Rx = (refl, refl)

stopped : (r : StopResult) → Stands (stop_numbers r) (ServiceCall.Stopped r)
unfolding known_of call_of stop_of
stopped StopResult.FrameStarted = (refl, refl)
stopped StopResult.Failed = (refl, refl)
stopped (StopResult.RxWindowEnded (RxResult.Frame length time quality)) = (refl, refl)
stopped (StopResult.RxWindowEnded RxResult.RxWindowEnded) = (refl, refl)
stopped (StopResult.RxWindowEnded (RxResult.CrcError time quality)) = (refl, refl)

entered : (entry : ℕ) (r : TaskResult) → Stands (result_numbers (λ code length time quality. ExportedCall.Entered code length time entry quality) r) (ServiceCall.Entered r entry)
unfolding known_of call_of result_of
entered entry TaskResult.Off = (refl, refl)
entered entry (TaskResult.Sent time) = (refl, refl)
entered entry (TaskResult.Rx (RxResult.Frame length time quality)) = (refl, refl)
entered entry (TaskResult.Rx RxResult.RxWindowEnded) = (refl, refl)
entered entry (TaskResult.Rx (RxResult.CrcError time quality)) = (refl, refl)

fell_back : (cause : Cause) (r : TaskResult) → Stands (fallback_numbers r cause) (ServiceCall.Fallback r cause)
unfolding known_of call_of result_of cause_of
fell_back (Cause.Scheduling Timestamp.BestEffort) TaskResult.Off = (refl, refl)
fell_back (Cause.Scheduling Timestamp.BestEffort) (TaskResult.Sent time) = (refl, refl)
fell_back (Cause.Scheduling Timestamp.BestEffort) (TaskResult.Rx (RxResult.Frame length time quality)) = (refl, refl)
fell_back (Cause.Scheduling Timestamp.BestEffort) (TaskResult.Rx RxResult.RxWindowEnded) = (refl, refl)
fell_back (Cause.Scheduling Timestamp.BestEffort) (TaskResult.Rx (RxResult.CrcError time quality)) = (refl, refl)
fell_back (Cause.Scheduling (Timestamp.Scheduled t)) TaskResult.Off = (refl, refl)
fell_back (Cause.Scheduling (Timestamp.Scheduled t)) (TaskResult.Sent time) = (refl, refl)
fell_back (Cause.Scheduling (Timestamp.Scheduled t)) (TaskResult.Rx (RxResult.Frame length time quality)) = (refl, refl)
fell_back (Cause.Scheduling (Timestamp.Scheduled t)) (TaskResult.Rx RxResult.RxWindowEnded) = (refl, refl)
fell_back (Cause.Scheduling (Timestamp.Scheduled t)) (TaskResult.Rx (RxResult.CrcError time quality)) = (refl, refl)
fell_back Cause.Task TaskResult.Off = (refl, refl)
fell_back Cause.Task (TaskResult.Sent time) = (refl, refl)
fell_back Cause.Task (TaskResult.Rx (RxResult.Frame length time quality)) = (refl, refl)
fell_back Cause.Task (TaskResult.Rx RxResult.RxWindowEnded) = (refl, refl)
fell_back Cause.Task (TaskResult.Rx (RxResult.CrcError time quality)) = (refl, refl)

pub every_call_has_numbers : EveryCallHasNumbers
unfolding known_of call_of timestamp_of
every_call_has_numbers (ServiceCall.Arrive q) = arrival q.token q.buffer q.start q.task
every_call_has_numbers (ServiceCall.Withdraw token) = (refl, refl)
every_call_has_numbers ServiceCall.Request = (refl, refl)
every_call_has_numbers ServiceCall.None = (refl, refl)
every_call_has_numbers ServiceCall.FrameStart = (refl, refl)
every_call_has_numbers (ServiceCall.OutboundSeen Timestamp.BestEffort true) = (refl, refl)
every_call_has_numbers (ServiceCall.OutboundSeen Timestamp.BestEffort false) = (refl, refl)
every_call_has_numbers (ServiceCall.OutboundSeen (Timestamp.Scheduled t) true) = (refl, refl)
every_call_has_numbers (ServiceCall.OutboundSeen (Timestamp.Scheduled t) false) = (refl, refl)
every_call_has_numbers (ServiceCall.Stopped r) = stopped r
every_call_has_numbers (ServiceCall.Header arrived length) = (refl, refl)
every_call_has_numbers (ServiceCall.Entered r entry) = entered entry r
every_call_has_numbers (ServiceCall.Fallback r cause) = fell_back cause r
every_call_has_numbers ServiceCall.Rollback = (refl, refl)
