-- What the numbers of an exported call stand for: docs/LAYOUTS.md, "Codes of the numbers".
-- Assumes nothing.
use Rattle.std.specs.Prelude.{ℕ, ◌≡◌, Bool, true, false, ◌&&◌, ◌||◌, List, [], ◌∷◌, ltb, eqb, get_or, length, Option, Some, None}
use Rattle.util.specs.Bytes.{flag_number}
use Rattle.radio_frame.specs.declared.Settings.{Settings}
use Rattle.service.specs.declared.ServiceCall.{ServiceCall}
use Rattle.tasks.specs.declared.Cause.{Cause}
use Rattle.tasks.specs.declared.Request.{Request}
use Rattle.tasks.specs.declared.RxResult.{RxResult}
use Rattle.tasks.specs.declared.StopResult.{StopResult}
use Rattle.tasks.specs.declared.Task.{Task}
use Rattle.tasks.specs.declared.TaskResult.{TaskResult}
use Rattle.tasks.specs.declared.Timestamp.{Timestamp}
use Rattle.call_codes.specs.declared.ExportedCall.{ExportedCall}
use Rattle.call_codes.specs.declared.StartNumbers.{StartNumbers}

-- Each table has its cases in the order of their codes, from 0 on. A code past its end stands for nothing: `known_of` says so by
-- the table's length, and the call is refused, so that it does not matter that such a code is read as the last case.

-- start: "0 best effort, 1 at `time`"
abbrev pub timestamp_table : ℕ → List Timestamp
timestamp_table time = Timestamp.BestEffort ∷ Timestamp.Scheduled time ∷ []

unfoldable pub timestamp_of : ℕ → ℕ → Timestamp
timestamp_of time code = get_or (timestamp_table time) code (Timestamp.Scheduled time)

-- direction: "0 Tx, 1 Rx"; cca: "0 no, 1 yes"
abbrev pub task_table : ℕ → ℕ → List Task
task_table length cca = Task.Tx length (eqb cca 1) ∷ Task.Rx ∷ []

unfoldable pub task_of : ℕ → ℕ → ℕ → Task
task_of length cca code = get_or (task_table length cca) code Task.Rx

-- of outcome and result alike: 2 a frame, 3 "window ended", 4 a CRC error
unfoldable pub received_of : ℕ → ℕ → ℕ → ℕ → Option RxResult
received_of length time quality code =
    get_or
    (None ∷ None ∷ Some (RxResult.Frame length time quality) ∷ Some RxResult.RxWindowEnded ∷ Some (RxResult.CrcError time quality) ∷ [])
    code
    None

-- outcome: "0 frame started, 1 failed, 2 window ended with a frame, 3 .. with "window ended", 4 .. with a CRC error"
abbrev pub stop_table : ℕ → ℕ → ℕ → List StopResult
stop_table length time quality =
    StopResult.FrameStarted
    ∷ StopResult.Failed
    ∷ StopResult.RxWindowEnded (RxResult.Frame length time quality)
    ∷ StopResult.RxWindowEnded RxResult.RxWindowEnded
    ∷ StopResult.RxWindowEnded (RxResult.CrcError time quality)
    ∷ []

unfoldable pub stop_of : ℕ → ℕ → ℕ → ℕ → StopResult
stop_of length time quality code = get_or (stop_table length time quality) code (StopResult.RxWindowEnded (RxResult.CrcError time quality))

-- result: "0 off, 1 sent, 2 a frame, 3 window ended, 4 CRC error"
abbrev pub result_table : ℕ → ℕ → ℕ → List TaskResult
result_table length time quality =
    TaskResult.Off
    ∷ TaskResult.Sent time
    ∷ TaskResult.Rx (RxResult.Frame length time quality)
    ∷ TaskResult.Rx RxResult.RxWindowEnded
    ∷ TaskResult.Rx (RxResult.CrcError time quality)
    ∷ []

unfoldable pub result_of : ℕ → ℕ → ℕ → ℕ → TaskResult
result_of length time quality code = get_or (result_table length time quality) code (TaskResult.Rx (RxResult.CrcError time quality))

-- cause: "0 scheduling without a time, 1 scheduling with the time `cause_time`, 2 task"
abbrev pub cause_table : ℕ → List Cause
cause_table time = Cause.Scheduling Timestamp.BestEffort ∷ Cause.Scheduling (Timestamp.Scheduled time) ∷ Cause.Task ∷ []

unfoldable pub cause_of : ℕ → ℕ → Cause
cause_of time code = get_or (cause_table time) code Cause.Task

-- a code stands for something: it is one of its table's
abbrev pub known : {A : Type 0} → List A → ℕ → Bool
known table code = ltb code (length table)

-- a flag: "0 no, 1 yes"
abbrev pub known_flag : ℕ → Bool
known_flag flag = ltb flag 2

-- every code that the call uses stands for something; a number that the codes leave unused, as the flag of an Rx, is ignored
unfoldable pub known_of : ExportedCall → Bool
known_of (ExportedCall.Arrive token direction start time buffer length cca) =
    known (timestamp_table time) start && (known (task_table length cca) direction && (eqb direction 1 || known_flag cca))
known_of (ExportedCall.Withdraw token) = true
known_of ExportedCall.Request = true
known_of ExportedCall.None = true
known_of ExportedCall.FrameStart = true
known_of (ExportedCall.OutboundSeen start time cca) = known (timestamp_table time) start && known_flag cca
known_of (ExportedCall.Stopped outcome length time quality) = known (stop_table length time quality) outcome
known_of (ExportedCall.Header arrived length) = true
known_of (ExportedCall.Entered result length time entry quality) = known (result_table length time quality) result
known_of (ExportedCall.Fallback result length time cause causeTime quality) =
    known (result_table length time quality) result && known (cause_table causeTime) cause
known_of ExportedCall.Rollback = true

-- the service's call
unfoldable pub call_of : ExportedCall → ServiceCall
call_of (ExportedCall.Arrive token direction start time buffer length cca) =
    ServiceCall.Arrive
    (record { token = token; start = timestamp_of time start; buffer = buffer; task = task_of length cca direction })
call_of (ExportedCall.Withdraw token) = ServiceCall.Withdraw token
call_of ExportedCall.Request = ServiceCall.Request
call_of ExportedCall.None = ServiceCall.None
call_of ExportedCall.FrameStart = ServiceCall.FrameStart
call_of (ExportedCall.OutboundSeen start time cca) = ServiceCall.OutboundSeen (timestamp_of time start) (eqb cca 1)
call_of (ExportedCall.Stopped outcome length time quality) = ServiceCall.Stopped (stop_of length time quality outcome)
call_of (ExportedCall.Header arrived length) = ServiceCall.Header arrived length
call_of (ExportedCall.Entered result length time entry quality) = ServiceCall.Entered (result_of length time quality result) entry
call_of (ExportedCall.Fallback result length time cause causeTime quality) =
    ServiceCall.Fallback (result_of length time quality result) (cause_of causeTime cause)
call_of ExportedCall.Rollback = ServiceCall.Rollback

-- the settings of a start
unfoldable pub settings_of : StartNumbers → Settings
settings_of n =
    record {
      count = n.count;
      headroom = n.headroom;
      tailroom = n.tailroom;
      fcs_length = n.fcs_length;
      hardware_addr = n.hardware_addr;
      pan_id = n.pan_id;
      implicit_broadcast = eqb n.implicit_broadcast 1;
      ack_buffer = n.ack_buffer;
      spare_buffer = n.spare_buffer;
    }

-- ---- Laws of these definitions; proofs/Calls.antt and proofs/Qualities.antt have their proofs.

-- The numbers that each call of the service is passed as, so that none is left without: code by code, and 0 for a number that the code
-- leaves unused.

abbrev pub start_code : Timestamp → ℕ
start_code Timestamp.BestEffort = 0
start_code (Timestamp.Scheduled t) = 1

abbrev pub start_time : Timestamp → ℕ
start_time Timestamp.BestEffort = 0
start_time (Timestamp.Scheduled t) = t

abbrev pub arrival_numbers : Request → Task → ExportedCall
arrival_numbers q (Task.Tx length cca) =
    ExportedCall.Arrive q.token 0 (start_code q.start) (start_time q.start) q.buffer length (flag_number cca)
arrival_numbers q Task.Rx = ExportedCall.Arrive q.token 1 (start_code q.start) (start_time q.start) q.buffer 0 0

-- code, length, time and quality of what a receive task came to; `make` is the call
abbrev pub received_numbers : (ℕ → ℕ → ℕ → ℕ → ExportedCall) → RxResult → ExportedCall
received_numbers make (RxResult.Frame length time quality) = make 2 length time quality
received_numbers make RxResult.RxWindowEnded = make 3 0 0 0
received_numbers make (RxResult.CrcError time quality) = make 4 0 time quality

abbrev pub stop_numbers : StopResult → ExportedCall
stop_numbers StopResult.FrameStarted = ExportedCall.Stopped 0 0 0 0
stop_numbers StopResult.Failed = ExportedCall.Stopped 1 0 0 0
stop_numbers (StopResult.RxWindowEnded r) =
    received_numbers (λ code length time quality. ExportedCall.Stopped code length time quality) r

abbrev pub result_numbers : (ℕ → ℕ → ℕ → ℕ → ExportedCall) → TaskResult → ExportedCall
result_numbers make TaskResult.Off = make 0 0 0 0
result_numbers make (TaskResult.Sent time) = make 1 0 time 0
result_numbers make (TaskResult.Rx r) = received_numbers make r

abbrev pub fallback_numbers : TaskResult → Cause → ExportedCall
fallback_numbers r (Cause.Scheduling start) =
    result_numbers (λ code length time quality. ExportedCall.Fallback code length time (start_code start) (start_time start) quality) r
fallback_numbers r Cause.Task = result_numbers (λ code length time quality. ExportedCall.Fallback code length time 2 0 quality) r

abbrev pub numbers_of : ServiceCall → ExportedCall
numbers_of (ServiceCall.Arrive q) = arrival_numbers q q.task
numbers_of (ServiceCall.Withdraw token) = ExportedCall.Withdraw token
numbers_of ServiceCall.Request = ExportedCall.Request
numbers_of ServiceCall.None = ExportedCall.None
numbers_of ServiceCall.FrameStart = ExportedCall.FrameStart
numbers_of (ServiceCall.OutboundSeen start cca) = ExportedCall.OutboundSeen (start_code start) (start_time start) (flag_number cca)
numbers_of (ServiceCall.Stopped r) = stop_numbers r
numbers_of (ServiceCall.Header arrived length) = ExportedCall.Header arrived length
numbers_of (ServiceCall.Entered r entry) =
    result_numbers (λ code length time quality. ExportedCall.Entered code length time entry quality) r
numbers_of (ServiceCall.Fallback r cause) = fallback_numbers r cause
numbers_of ServiceCall.Rollback = ExportedCall.Rollback

-- every call of the service has numbers, whose codes stand for something, and which stand for it
abbrev pub EveryCallHasNumbers : Type 0
EveryCallHasNumbers = (c : ServiceCall) → (known_of (numbers_of c) ≡ true) × (call_of (numbers_of c) ≡ c)

-- the same call with another number for the link quality
abbrev pub with_quality : ℕ → ExportedCall → ExportedCall
with_quality k (ExportedCall.Arrive token direction start time buffer length cca) =
    ExportedCall.Arrive token direction start time buffer length cca
with_quality k (ExportedCall.Withdraw token) = ExportedCall.Withdraw token
with_quality k ExportedCall.Request = ExportedCall.Request
with_quality k ExportedCall.None = ExportedCall.None
with_quality k ExportedCall.FrameStart = ExportedCall.FrameStart
with_quality k (ExportedCall.OutboundSeen start time cca) = ExportedCall.OutboundSeen start time cca
with_quality k (ExportedCall.Stopped outcome length time quality) = ExportedCall.Stopped outcome length time k
with_quality k (ExportedCall.Header arrived length) = ExportedCall.Header arrived length
with_quality k (ExportedCall.Entered result length time entry quality) = ExportedCall.Entered result length time entry k
with_quality k (ExportedCall.Fallback result length time cause causeTime quality) =
    ExportedCall.Fallback result length time cause causeTime k
with_quality k ExportedCall.Rollback = ExportedCall.Rollback

-- "A frame has `length` .., `time` and `quality`, a CRC error `time` and `quality`": codes 2 and 4, of outcome and result alike
abbrev pub uses_quality : ℕ → Bool
uses_quality code = eqb code 2 || eqb code 4

abbrev pub quality_used : ExportedCall → Bool
quality_used (ExportedCall.Arrive token direction start time buffer length cca) = false
quality_used (ExportedCall.Withdraw token) = false
quality_used ExportedCall.Request = false
quality_used ExportedCall.None = false
quality_used ExportedCall.FrameStart = false
quality_used (ExportedCall.OutboundSeen start time cca) = false
quality_used (ExportedCall.Stopped outcome length time quality) = uses_quality outcome
quality_used (ExportedCall.Header arrived length) = false
quality_used (ExportedCall.Entered result length time entry quality) = uses_quality result
quality_used (ExportedCall.Fallback result length time cause causeTime quality) = uses_quality result
quality_used ExportedCall.Rollback = false

-- "A number that the codes leave unused is ignored, whatever it is": of the link quality
abbrev pub UnusedQualityIgnored : Type 0
UnusedQualityIgnored =
    (x : ExportedCall) (k : ℕ) →
    known_of x ≡ true →
    quality_used x ≡ false →
    call_of (with_quality k x) ≡ call_of x
