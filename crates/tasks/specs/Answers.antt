-- The one form of answers: document 01, "Waits".
-- Assumes nothing.
use Rattle.std.specs.Prelude.{Option, Some, None}
use Rattle.tasks.specs.declared.TxTask.{TxTask}
use Rattle.tasks.specs.declared.RxTask.{RxTask}
use Rattle.tasks.specs.declared.Slot.{Slot}
use Rattle.tasks.specs.declared.Response.{Response}
use Rattle.tasks.specs.declared.Answer.{Answer}
use Rattle.tasks.specs.declared.Answers.{Answers}
use Rattle.tasks.specs.Pending.{tx_holds, rx_holds}

-- "Every answer returns one buffer": the request's, under its token
abbrev pub answer_to : Slot → Response → Answer
answer_to s response = record { token = s.token; buffer = s.buffer; response = response }

abbrev pub to_tx : TxTask → Response → Answer
to_tx q response = answer_to (tx_holds q) response

abbrev pub to_rx : RxTask → Response → Answer
to_rx q response = answer_to (rx_holds q) response

-- what is owed, where a call gives no other answer
unfoldable pub answers_of : Option Answer → Answers
answers_of None = Answers.None
answers_of (Some a) = Answers.One a
