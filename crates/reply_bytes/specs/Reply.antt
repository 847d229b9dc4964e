-- The reply's 48 bytes: docs/LAYOUTS.md, "The reply's 48 bytes".
-- Assumes nothing.
use Rattle.std.specs.Prelude.{ℕ, ◌+◌, ◌-◌, ◌*◌, ◌/◌, ◌%◌, ◌^◌, ◌<◌, ◌≡◌, Bool, false, cond, List, [], ◌∷◌, ◌++◌, eqb, get_or, Option, Some, None}
use Rattle.util.specs.Bytes.{number_at, bytes_of}
use Rattle.phy.specs.declared.Ifs.{Ifs}
use Rattle.phy.specs.Phy.{ifs_code}
use Rattle.tasks.specs.declared.Action.{Action}
use Rattle.tasks.specs.declared.Answer.{Answer}
use Rattle.tasks.specs.declared.Answers.{Answers}
use Rattle.tasks.specs.declared.Cause.{Cause}
use Rattle.tasks.specs.declared.Reply.{Reply}
use Rattle.tasks.specs.declared.Response.{Response}
use Rattle.tasks.specs.declared.RxResult.{RxResult}
use Rattle.tasks.specs.declared.StopListening.{StopListening}
use Rattle.tasks.specs.declared.TaskDirection.{TaskDirection}
use Rattle.tasks.specs.declared.Timestamp.{Timestamp}
use Rattle.tasks.specs.Quality.{Quality, no_quality, link_quality, response_quality}
use Rattle.reply_bytes.specs.declared.ActionFields.{ActionFields}
use Rattle.reply_bytes.specs.declared.CameTo.{CameTo}
use Rattle.reply_bytes.specs.declared.AnswerFields.{AnswerFields}

-- ---- The action

-- "bits 3 and 4 spacing: 0 none, 1 ACK, 2 short, 3 long"
unfoldable pub spacing_bits : Option Ifs → ℕ
spacing_bits None = 0
spacing_bits (Some i) = 8 * (1 + ifs_code i)

-- "bit 2 the start is a time"
unfoldable pub start_bit : Timestamp → ℕ
start_bit Timestamp.BestEffort = 0
start_bit (Timestamp.Scheduled t) = 4

unfoldable pub start_time : Timestamp → ℕ
start_time Timestamp.BestEffort = 0
start_time (Timestamp.Scheduled t) = t

-- "bit 0 channel check, bit 1 rollback", then the two above
abbrev pub task_flags : Bool → Bool → Timestamp → Option Ifs → ℕ
task_flags cca rollback start spacing = cond cca 1 0 + cond rollback 2 0 + start_bit start + spacing_bits spacing

unfoldable pub direction_code : TaskDirection → ℕ
direction_code TaskDirection.Any = 2
direction_code TaskDirection.Outbound = 3

-- code, buffer, length, flags, time
abbrev pub action_of : ℕ → ℕ → ℕ → ℕ → ℕ → ActionFields
action_of code buffer length flags time =
    record { code = code; buffer = buffer; length = length; flags = flags; time = time }

-- an action with nothing but its code
abbrev pub plain_action : ℕ → ActionFields
plain_action code = action_of code 0 0 0 0

unfoldable pub stop_fields : StopListening → ActionFields
stop_fields StopListening.Now = plain_action 5
stop_fields (StopListening.At t) = action_of 6 0 0 0 t
stop_fields (StopListening.Before t cca) = action_of 7 0 0 (cond cca 1 0) t

unfoldable pub action_fields : Action → ActionFields
action_fields Action.Nothing = plain_action 0
action_fields Action.ReceiveRequest = plain_action 1
action_fields (Action.TryReceiveRequest d) = plain_action (direction_code d)
action_fields Action.Listen = plain_action 4
action_fields (Action.Stop p) = stop_fields p
action_fields Action.ReadHeader = plain_action 8
action_fields (Action.Tx b n cca start spacing rollback) =
    action_of 9 b (n % 256) (task_flags cca rollback start spacing) (start_time start)
action_fields (Action.Rx b start spacing rollback) =
    action_of 10 b 0 (task_flags false rollback start spacing) (start_time start)
action_fields (Action.Off rollback) = action_of 11 0 0 (cond rollback 2 0) 0

-- ---- The answers

-- code, length, time, link quality
abbrev pub came_to : ℕ → ℕ → ℕ → ℕ → CameTo
came_to code length time quality = record { code = code; length = length; time = time; quality = quality }

unfoldable pub scheduling_fields : Timestamp → CameTo
scheduling_fields Timestamp.BestEffort = came_to 3 0 0 0
scheduling_fields (Timestamp.Scheduled t) = came_to 4 0 t 0

unfoldable pub cause_fields : Cause → CameTo
cause_fields (Cause.Scheduling start) = scheduling_fields start
cause_fields Cause.Task = came_to 5 0 0 0

unfoldable pub received_fields : RxResult → CameTo
received_fields (RxResult.Frame n t quality) = came_to 6 (n % 256) t quality
received_fields RxResult.RxWindowEnded = came_to 7 0 0 0
received_fields (RxResult.CrcError t quality) = came_to 8 0 t quality

unfoldable pub response_fields : Response → CameTo
response_fields (Response.Sent t) = came_to 1 0 t 0
response_fields (Response.Nack t) = came_to 2 0 t 0
response_fields (Response.Error cause) = cause_fields cause
response_fields (Response.Received x) = received_fields x

-- "0 no answer; all its bytes are 0"
abbrev pub no_answer : AnswerFields
no_answer = record { token = 0; buffer = 0; response = came_to 0 0 0 0 }

unfoldable pub answer_fields : Answer → AnswerFields
answer_fields a = record { token = a.token; buffer = a.buffer; response = response_fields a.response }

-- "With one answer it is the first, and the second is all 0."
unfoldable pub first_fields : Answers → AnswerFields
first_fields Answers.None = no_answer
first_fields (Answers.One a) = answer_fields a
first_fields (Answers.Two a b) = answer_fields a

unfoldable pub second_fields : Answers → AnswerFields
second_fields Answers.None = no_answer
second_fields (Answers.One a) = no_answer
second_fields (Answers.Two a b) = answer_fields b

-- ---- The bytes

-- an answer's 18 bytes
abbrev pub written_answer : AnswerFields → List ℕ
written_answer x =
    x.response.code
    ∷ bytes_of 4 x.token
    ++ x.buffer
    ∷ x.response.length
    ∷ bytes_of 8 x.response.time
    ++ x.response.quality
    ∷ 0
    ∷ 0
    ∷ []

unfoldable pub written_fields : ActionFields → AnswerFields → AnswerFields → List ℕ
written_fields a x y =
    a.code ∷ a.buffer ∷ a.length ∷ a.flags ∷ bytes_of 8 a.time ++ written_answer x ++ written_answer y

unfoldable pub written_reply : Reply → List ℕ
written_reply r = written_fields (action_fields r.action) (first_fields r.answers) (second_fields r.answers)

-- ---- The reply as it is read from the bytes

-- bit k of the flags, and the spacing in bits 3 and 4
abbrev pub bit : ℕ → ℕ → Bool
bit k flags = eqb (flags / 2 ^ k % 2) 1

abbrev pub spacing_at : ℕ → Option Ifs
spacing_at flags =
    get_or (None ∷ Some Ifs.Aifs ∷ Some Ifs.Sifs ∷ Some Ifs.Lifs ∷ []) (flags / 8) None

abbrev pub start_at : ℕ → ℕ → Timestamp
start_at flags time = cond (bit 2 flags) (Timestamp.Scheduled time) Timestamp.BestEffort

-- the actions in the order of their codes; a code past the end, which no reply has, is read as nothing
unfoldable pub action_from : ActionFields → Action
action_from a =
    get_or
    (Action.Nothing
    ∷ Action.ReceiveRequest
    ∷ Action.TryReceiveRequest TaskDirection.Any
    ∷ Action.TryReceiveRequest TaskDirection.Outbound
    ∷ Action.Listen
    ∷ Action.Stop StopListening.Now
    ∷ Action.Stop (StopListening.At a.time)
    ∷ Action.Stop (StopListening.Before a.time (bit 0 a.flags))
    ∷ Action.ReadHeader
    ∷ Action.Tx a.buffer a.length (bit 0 a.flags) (start_at a.flags a.time) (spacing_at a.flags) (bit 1 a.flags)
    ∷ Action.Rx a.buffer (start_at a.flags a.time) (spacing_at a.flags) (bit 1 a.flags)
    ∷ Action.Off (bit 1 a.flags)
    ∷ [])
    a.code
    Action.Nothing

unfoldable pub action_at : List ℕ → Action
action_at bytes =
    action_from
    (record {
      code = get_or bytes 0 0;
      buffer = get_or bytes 1 0;
      length = get_or bytes 2 0;
      flags = get_or bytes 3 0;
      time = number_at bytes 4 8;
    })

-- what an answer's codes from 1 on stand for, with the length, the time and the link quality beside them; a code past the end,
-- which no reply has, is read as the last
unfoldable pub response_at : ℕ → ℕ → ℕ → ℕ → Response
response_at code length time quality =
    get_or
    (Response.Sent time
    ∷ Response.Nack time
    ∷ Response.Error (Cause.Scheduling Timestamp.BestEffort)
    ∷ Response.Error (Cause.Scheduling (Timestamp.Scheduled time))
    ∷ Response.Error Cause.Task
    ∷ Response.Received (RxResult.Frame length time quality)
    ∷ Response.Received RxResult.RxWindowEnded
    ∷ [])
    (code - 1)
    (Response.Received (RxResult.CrcError time quality))

abbrev pub answer_at : List ℕ → ℕ → Answer
answer_at bytes at =
    record {
      token = number_at bytes (at + 1) 4;
      buffer = get_or bytes (at + 5) 0;
      response = response_at (get_or bytes at 0) (get_or bytes (at + 6) 0) (number_at bytes (at + 7) 8) (get_or bytes (at + 15) 0);
    }

-- the first answer stands at 12, the second at 30
unfoldable pub answers_at : List ℕ → Answers
answers_at bytes =
    cond (eqb (get_or bytes 12 0) 0) Answers.None
    (cond (eqb (get_or bytes 30 0) 0) (Answers.One (answer_at bytes 12)) (Answers.Two (answer_at bytes 12) (answer_at bytes 30)))

unfoldable pub reply_at : List ℕ → Reply
reply_at bytes = record { action = action_at bytes; answers = answers_at bytes }

-- ---- Laws of these definitions; proofs/ReadBack.antt and proofs/Qualities.antt have their proofs.

-- the numbers of a reply fit the bytes that hold them: lengths one byte
abbrev pub TimestampFits : Timestamp → Type 0
TimestampFits Timestamp.BestEffort = Unit {0}
TimestampFits (Timestamp.Scheduled t) = t < 2 ^ 64

abbrev pub ActionFits : Action → Type 0
ActionFits Action.Nothing = Unit {0}
ActionFits Action.ReceiveRequest = Unit {0}
ActionFits (Action.TryReceiveRequest d) = Unit {0}
ActionFits Action.Listen = Unit {0}
ActionFits (Action.Stop StopListening.Now) = Unit {0}
ActionFits (Action.Stop (StopListening.At t)) = t < 2 ^ 64
ActionFits (Action.Stop (StopListening.Before t cca)) = t < 2 ^ 64
ActionFits Action.ReadHeader = Unit {0}
ActionFits (Action.Tx b n cca start spacing rollback) = (n < 256) × TimestampFits start
ActionFits (Action.Rx b start spacing rollback) = TimestampFits start
ActionFits (Action.Off rollback) = Unit {0}

abbrev pub CauseFits : Cause → Type 0
CauseFits (Cause.Scheduling Timestamp.BestEffort) = Unit {0}
CauseFits (Cause.Scheduling (Timestamp.Scheduled t)) = t < 2 ^ 64
CauseFits Cause.Task = Unit {0}

abbrev pub ReceivedFits : RxResult → Type 0
ReceivedFits (RxResult.Frame n t quality) = (n < 256) × (t < 2 ^ 64)
ReceivedFits RxResult.RxWindowEnded = Unit {0}
ReceivedFits (RxResult.CrcError t quality) = t < 2 ^ 64

abbrev pub ResponseFits : Response → Type 0
ResponseFits (Response.Sent t) = t < 2 ^ 64
ResponseFits (Response.Nack t) = t < 2 ^ 64
ResponseFits (Response.Error cause) = CauseFits cause
ResponseFits (Response.Received x) = ReceivedFits x

pub record AnswerFits (a : Answer) : Type 0 where
  pub token : a.token < 2 ^ 32
  pub response : ResponseFits a.response

abbrev pub AnswersFit : Answers → Type 0
AnswersFit Answers.None = Unit {0}
AnswersFit (Answers.One a) = AnswerFits a
AnswersFit (Answers.Two a b) = AnswerFits a × AnswerFits b

pub record ReplyFits (r : Reply) : Type 0 where
  pub action : ActionFits r.action
  pub answers : AnswersFit r.answers

-- a reply is read back from its bytes
abbrev pub ReplyReadsBack : Type 0
ReplyReadsBack = (r : Reply) → ReplyFits r → reply_at (written_reply r) ≡ r

-- the link quality of the first answer, and of the second
abbrev pub first_quality : Answers → Quality
first_quality Answers.None = no_quality
first_quality (Answers.One x) = response_quality x.response
first_quality (Answers.Two x y) = response_quality x.response

abbrev pub second_quality : Answers → Quality
second_quality Answers.None = no_quality
second_quality (Answers.One x) = no_quality
second_quality (Answers.Two x y) = response_quality y.response

abbrev pub quality_byte : Quality → ℕ
quality_byte no_quality = 0
quality_byte (link_quality k) = k

-- byte 15 of an answer is its quality, and 0 where it has none
abbrev pub QualityInItsByte : Type 0
QualityInItsByte =
    (r : Reply) →
    (get_or (written_reply r) (12 + 15) 0 ≡ quality_byte (first_quality r.answers))
    × (get_or (written_reply r) (30 + 15) 0 ≡ quality_byte (second_quality r.answers))
