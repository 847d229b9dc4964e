-- Waits for a transition of the radio: document 01, "Waits".
-- Assumes nothing.
use Rattle.std.specs.Prelude.{ℕ, List, Option, Some, None}
use Rattle.tasks.specs.declared.Answers.{Answers}
use Rattle.tasks.specs.declared.Call.{Call}
use Rattle.tasks.specs.declared.Cause.{Cause}
use Rattle.tasks.specs.declared.Left.{Left}
use Rattle.tasks.specs.declared.Next.{Next}
use Rattle.tasks.specs.declared.Response.{Response}
use Rattle.tasks.specs.declared.RxTask.{RxTask}
use Rattle.tasks.specs.declared.State.{State}
use Rattle.tasks.specs.declared.TaskResult.{TaskResult}
use Rattle.tasks.specs.declared.Transition.{Transition}
use Rattle.tasks.specs.declared.TxTask.{TxTask}
use Rattle.tasks.specs.Answers.{to_tx}
use Rattle.results.specs.Results.{leave_of}
use Rattle.moves.specs.Move.{Move}
use Rattle.moves.specs.Move.{unfit, guarded_of, to_idle, listen_on}
use Rattle.entered.specs.Entered.{entered_of}
use Rattle.tasks.specs.declared.Answer.{Answer}

-- ---- Fallback: "After any ask Fallback fits with a Tx only, adds the next request's error and goes idle."

unfoldable pub then_error : TxTask → Cause → Option Answer → Answers
then_error q cause None = Answers.One (to_tx q (Response.Error cause))
then_error q cause (Some a) = Answers.Two a (to_tx q (Response.Error cause))

unfoldable pub request_fell_back : State → List ℕ → Left → TaskResult → Cause → Next → Move
request_fell_back s pool l r cause (Next.Tx q number) =
    let left = leave_of s.set pool r l in
    guarded_of s left.refusal (to_idle s.set (then_error q cause left.owed))
request_fell_back s pool l r cause (Next.Rx q) = unfit s
request_fell_back s pool l r cause Next.Off = unfit s

unfoldable pub fell_back_of : State → List ℕ → TaskResult → Cause → Transition → Move
fell_back_of s pool r cause (Transition.Request l n) = request_fell_back s pool l r cause n
fell_back_of s pool r cause (Transition.Rearm q) = unfit s
fell_back_of s pool r cause (Transition.AckTurn q i) = unfit s
fell_back_of s pool r cause (Transition.AckWait q k) = unfit s

-- ---- Rollback: "In every wait it fits only where rollback is on."

-- "Rollback listens on with the same token": rollback is on where a reception goes off ..
unfoldable pub off_rolled_back : State → RxTask → Next → Move
off_rolled_back s q (Next.Tx p number) = unfit s
off_rolled_back s q (Next.Rx p) = unfit s
off_rolled_back s q Next.Off = listen_on s.set q Answers.None

unfoldable pub request_rolled_back : State → Next → Left → Move
request_rolled_back s n Left.Off = unfit s
request_rolled_back s n (Left.Receiving q) = off_rolled_back s q n
request_rolled_back s n (Left.Sending q) = unfit s
request_rolled_back s n Left.SendingAck = unfit s
request_rolled_back s n (Left.ReceivingAck a) = unfit s

-- .. and in an ACK turn: "Rollback listens on"
unfoldable pub rolled_back_of : State → Transition → Move
rolled_back_of s (Transition.Request l n) = request_rolled_back s n l
rolled_back_of s (Transition.Rearm q) = unfit s
rolled_back_of s (Transition.AckTurn q i) = listen_on s.set q Answers.None
rolled_back_of s (Transition.AckWait q k) = unfit s

-- a wait for a transition
unfoldable pub entering_of : State → List ℕ → Transition → Call → Move
entering_of s pool e (Call.Request q) = unfit s
entering_of s pool e Call.None = unfit s
entering_of s pool e Call.FrameStart = unfit s
entering_of s pool e (Call.OutboundSeen start cca) = unfit s
entering_of s pool e (Call.Stopped r) = unfit s
entering_of s pool e (Call.Header arrived length) = unfit s
entering_of s pool e (Call.Entered r entry) = entered_of s pool r entry e
entering_of s pool e (Call.Fallback r cause) = fell_back_of s pool r cause e
entering_of s pool e Call.Rollback = rolled_back_of s e
