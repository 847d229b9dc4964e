-- Why each answer is given: document 01, "Waits" and "What I won't take"; and which link quality it carries: document 02, E6. On
-- every state, every answer names a request that the state holds and has its reason. How the state came to hold it is the book's
-- matter (Answered.antt).
-- Assumes nothing.
use Rattle.std.specs.Prelude.{ℕ, ◌≡◌, true, false, cond, List, Option}
use Rattle.phy.specs.declared.Ifs.{Ifs}
use Rattle.tasks.specs.declared.Answer.{Answer}
use Rattle.tasks.specs.declared.Answers.{Answers}
use Rattle.tasks.specs.declared.Asked.{Asked}
use Rattle.tasks.specs.declared.AwaitedAck.{AwaitedAck}
use Rattle.tasks.specs.declared.Call.{Call}
use Rattle.tasks.specs.declared.Cause.{Cause}
use Rattle.tasks.specs.declared.Left.{Left}
use Rattle.tasks.specs.declared.Next.{Next}
use Rattle.tasks.specs.declared.Request.{Request}
use Rattle.tasks.specs.declared.Response.{Response}
use Rattle.tasks.specs.declared.RxResult.{RxResult}
use Rattle.tasks.specs.declared.RxTask.{RxTask}
use Rattle.tasks.specs.declared.State.{State}
use Rattle.tasks.specs.declared.TaskResult.{TaskResult}
use Rattle.tasks.specs.declared.Transition.{Transition}
use Rattle.tasks.specs.declared.TxTask.{TxTask}
use Rattle.tasks.specs.declared.Wait.{Wait}
use Rattle.tasks.specs.Answers.{to_tx, to_rx}
use Rattle.tasks.specs.Quality.{Quality, no_quality, result_quality, response_quality}
use Rattle.engine.specs.Step.{step_of}
use Rattle.engine.specs.Book.{answers_transmit}
use Rattle.engine.specs.Answered.{Tells, is_ack}

-- why a call gives an answer
pub data Reason (s : State) (pool : List ℕ) (c : Call) : Answer → Type 0 where
  -- "window ended": a listening window was ended for an outbound request, and the call is the Request that the ask was for
  listening_ended : (q : RxTask) (p : Request) → s.wait ≡ Wait.Asking (Asked.AfterWindow q) → c ≡ Call.Request p
      → Reason s pool c (to_rx q (Response.Received RxResult.RxWindowEnded))
  -- a receive result: the radio left receiving for that request, and tells in this call that very result, length, time and quality
  received : (q : RxTask) (n : Next) (r : RxResult) → s.wait ≡ Wait.Entering (Transition.Request (Left.Receiving q) n)
      → Tells c (TaskResult.Rx r) → Reason s pool c (to_rx q (Response.Received r))
  received_acknowledged : (q : RxTask) (i : Ifs) (r : RxResult) → s.wait ≡ Wait.Entering (Transition.AckTurn q i)
      → Tells c (TaskResult.Rx r) → Reason s pool c (to_rx q (Response.Received r))
  -- an error: the radio could not enter sending that request's frame
  failed : (l : Left) (q : TxTask) (k : Option ℕ) (r : TaskResult) (cause : Cause)
      → s.wait ≡ Wait.Entering (Transition.Request l (Next.Tx q k)) → c ≡ Call.Fallback r cause → Reason s pool c (to_tx q (Response.Error cause))
  -- Sent, for a frame that wanted no ACK: the radio left sending it, at that time
  sent : (q : TxTask) (n : Next) (t : ℕ) → s.wait ≡ Wait.Entering (Transition.Request (Left.Sending q) n) → Tells c (TaskResult.Sent t)
      → Reason s pool c (to_tx q (Response.Sent t))
  -- Sent and Nack, for a frame that wants one: by whether what was received is its ACK
  acknowledged : (a : AwaitedAck) (n : Next) (r : RxResult) → s.wait ≡ Wait.Entering (Transition.Request (Left.ReceivingAck a) n)
      → Tells c (TaskResult.Rx r) → is_ack s.set pool s.set.spare_buffer a.number r ≡ true → Reason s pool c (to_tx a.task (Response.Sent a.time))
  unacknowledged : (a : AwaitedAck) (n : Next) (r : RxResult) → s.wait ≡ Wait.Entering (Transition.Request (Left.ReceivingAck a) n)
      → Tells c (TaskResult.Rx r) → is_ack s.set pool s.set.spare_buffer a.number r ≡ false → Reason s pool c (to_tx a.task (Response.Nack a.time))
  -- Nack: the ACK's window ended
  ack_window_ended : (q : TxTask) (t : ℕ) → s.wait ≡ Wait.Asking (Asked.AfterAckWindow q t) → Reason s pool c (to_tx q (Response.Nack t))

abbrev pub Reasons : State → List ℕ → Call → Answers → Type 0
Reasons s pool c Answers.None = Unit {0}
Reasons s pool c (Answers.One x) = Reason s pool c x
Reasons s pool c (Answers.Two x y) = Reason s pool c x × Reason s pool c y

unfoldable pub EveryAnswerHasItsReason : Type 0
EveryAnswerHasItsReason = (s : State) (pool : List ℕ) (c : Call) → Reasons s pool c (step_of s pool c).reply.answers

-- ---- Which link quality an answer carries

-- the quality of what the task came to that the radio left
abbrev pub left_quality : TaskResult → Quality
left_quality TaskResult.Off = no_quality
left_quality (TaskResult.Sent t) = no_quality
left_quality (TaskResult.Rx r) = result_quality r

-- the quality that a call tells of the task that the radio left; Stopped tells of a window, and leaves none
abbrev pub told_quality : Call → Quality
told_quality (Call.Request q) = no_quality
told_quality Call.None = no_quality
told_quality Call.FrameStart = no_quality
told_quality (Call.OutboundSeen start cca) = no_quality
told_quality (Call.Stopped r) = no_quality
told_quality (Call.Header arrived length) = no_quality
told_quality (Call.Entered r entry) = left_quality r
told_quality (Call.Fallback r cause) = left_quality r
told_quality Call.Rollback = no_quality

-- "the receive answers made from them, no others, carry it unaltered": a receive answer has the quality that is told in the very
-- call that answers, and none if none is told; an answer to a transmit request has none. It follows from the reasons.
abbrev pub CarriesTold : Call → Answer → Type 0
CarriesTold c x = response_quality x.response ≡ cond (answers_transmit x.response) no_quality (told_quality c)

abbrev pub AllCarryTold : Call → Answers → Type 0
AllCarryTold c Answers.None = Unit {0}
AllCarryTold c (Answers.One x) = CarriesTold c x
AllCarryTold c (Answers.Two x y) = CarriesTold c x × CarriesTold c y

unfoldable pub EveryQualityIsTold : Type 0
EveryQualityIsTold = (s : State) (pool : List ℕ) (c : Call) → AllCarryTold c (step_of s pool c).reply.answers
