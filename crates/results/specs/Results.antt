-- Results of radio tasks and the answers made from them: document 01, "Calls", "Waits" and refusals 5 and 10.
-- Assumes nothing.
use Rattle.std.specs.Prelude.{ℕ, ◌+◌, Bool, false, cond, ◌||◌, List, ltb, eqb, ◌≡◌, Option, Some, None, Result, Ok, Err}
use Rattle.phy.specs.Phy.{phy_max_packet_size}
use Rattle.radio_frame.specs.declared.Settings.{Settings}
use Rattle.radio_frame.specs.RadioFrame.{frame_head}
use Rattle.ack.specs.Ack.{acknowledges}
use Rattle.tasks.specs.declared.RxResult.{RxResult}
use Rattle.tasks.specs.declared.TaskResult.{TaskResult}
use Rattle.tasks.specs.declared.Response.{Response}
use Rattle.tasks.specs.declared.TxTask.{TxTask}
use Rattle.tasks.specs.declared.RxTask.{RxTask}
use Rattle.tasks.specs.declared.AwaitedAck.{AwaitedAck}
use Rattle.tasks.specs.declared.Left.{Left}
use Rattle.tasks.specs.Answers.{to_tx, to_rx}
use Rattle.tasks.specs.declared.Answer.{Answer}
use Rattle.refusals.specs.declared.Refusal.{Refusal}
use Rattle.refusals.specs.Refusals.{refusal_number}

-- "10. A received length is 0 or above 127 − F"
unfoldable pub received_unfit : Settings → RxResult → Bool
received_unfit set (RxResult.Frame length time quality) = eqb length 0 || ltb phy_max_packet_size (length + set.fcs_length)
received_unfit set RxResult.RxWindowEnded = false
received_unfit set (RxResult.CrcError time quality) = false

unfoldable pub received_refusal : Settings → RxResult → ℕ
received_refusal set r = cond (received_unfit set r) 10 0

-- what leaving a task comes to: its refusal, or 0, and the answer that is owed
pub record Leave : Type 0 where
  pub refusal : ℕ
  pub owed : Option Answer

-- as what it is returned: the answer that is owed, or the refusal
abbrev pub Leaves : Leave → Result (Option Answer) Refusal → Type 0
Leaves l (Ok owed) = l ≡ record { refusal = 0; owed = owed }
Leaves l (Err refusal) = l.refusal ≡ refusal_number refusal

-- "5. The call, or its outcome kind, does not fit the wait": the result is not one of the task that is left
abbrev pub unfit_result : Leave
unfit_result = record { refusal = 5; owed = None }

abbrev pub nothing_owed : Leave
nothing_owed = record { refusal = 0; owed = None }

-- an answer that is owed, unless it is refused
abbrev pub owed_answer : ℕ → Answer → Leave
owed_answer refusal answer = record { refusal = refusal; owed = Some answer }

-- "Off has no result."
unfoldable pub leave_off : TaskResult → Leave
leave_off TaskResult.Off = nothing_owed
leave_off (TaskResult.Sent t) = unfit_result
leave_off (TaskResult.Rx r) = unfit_result

-- "Entered takes any receive result unless a wait says otherwise." It is the answer.
unfoldable pub leave_receiving : Settings → RxTask → TaskResult → Leave
leave_receiving set q TaskResult.Off = unfit_result
leave_receiving set q (TaskResult.Sent t) = unfit_result
leave_receiving set q (TaskResult.Rx r) = owed_answer (received_refusal set r) (to_rx q (Response.Received r))

-- "a transmit result is the time sent"; "Sending otherwise: .. the outcome answers Sent"
unfoldable pub leave_sending : TxTask → TaskResult → Leave
leave_sending q TaskResult.Off = unfit_result
leave_sending q (TaskResult.Sent t) = owed_answer 0 (to_tx q (Response.Sent t))
leave_sending q (TaskResult.Rx r) = unfit_result

-- ".. or nothing after an ACK turn"
unfoldable pub leave_sending_ack : TaskResult → Leave
leave_sending_ack TaskResult.Off = unfit_result
leave_sending_ack (TaskResult.Sent t) = nothing_owed
leave_sending_ack (TaskResult.Rx r) = unfit_result

-- "Sent for such a frame exactly if, after frame started, the received frame is 3 bytes, .." It stands in the spare buffer.
unfoldable pub ack_response : Settings → List ℕ → AwaitedAck → ℕ → Response
ack_response set pool a length =
    cond (acknowledges (frame_head set pool set.spare_buffer) length a.number)
    (Response.Sent a.time)
    (Response.Nack a.time)

-- "the outcome answers Sent or Nack, and "window ended" does not fit"
unfoldable pub ack_received : Settings → List ℕ → AwaitedAck → RxResult → Leave
ack_received set pool a (RxResult.Frame length time quality) =
    owed_answer (received_refusal set (RxResult.Frame length time quality)) (to_tx a.task (ack_response set pool a length))
ack_received set pool a RxResult.RxWindowEnded = unfit_result
ack_received set pool a (RxResult.CrcError time quality) = owed_answer 0 (to_tx a.task (Response.Nack a.time))

unfoldable pub leave_receiving_ack : Settings → List ℕ → AwaitedAck → TaskResult → Leave
leave_receiving_ack set pool a TaskResult.Off = unfit_result
leave_receiving_ack set pool a (TaskResult.Sent t) = unfit_result
leave_receiving_ack set pool a (TaskResult.Rx r) = ack_received set pool a r

-- what leaving a task with a result comes to
unfoldable pub leave_of : Settings → List ℕ → TaskResult → Left → Leave
leave_of set pool r Left.Off = leave_off r
leave_of set pool r (Left.Receiving q) = leave_receiving set q r
leave_of set pool r (Left.Sending q) = leave_sending q r
leave_of set pool r Left.SendingAck = leave_sending_ack r
leave_of set pool r (Left.ReceivingAck a) = leave_receiving_ack set pool a r
