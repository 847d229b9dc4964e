-- The unanswered requests of a wait, the token and the buffer of each: document 01, "Waits".
-- Assumes nothing.
use Rattle.std.specs.Prelude.{Option, Some, None}
use Rattle.tasks.specs.declared.TxTask.{TxTask}
use Rattle.tasks.specs.declared.RxTask.{RxTask}
use Rattle.tasks.specs.declared.Left.{Left}
use Rattle.tasks.specs.declared.Next.{Next}
use Rattle.tasks.specs.declared.Asked.{Asked}
use Rattle.tasks.specs.declared.Transition.{Transition}
use Rattle.tasks.specs.declared.Stop.{Stop}
use Rattle.tasks.specs.declared.Wait.{Wait}
use Rattle.tasks.specs.declared.Slot.{Slot}
use Rattle.tasks.specs.declared.Pending.{Pending}

abbrev pub tx_holds : TxTask → Slot
tx_holds q = record { token = q.token; buffer = q.buffer }

abbrev pub rx_holds : RxTask → Slot
rx_holds q = record { token = q.token; buffer = q.buffer }

abbrev pub tx_slot : TxTask → Option Slot
tx_slot q = Some (tx_holds q)

abbrev pub rx_slot : RxTask → Option Slot
rx_slot q = Some (rx_holds q)

unfoldable pub left_slot : Left → Option Slot
left_slot Left.Off = None
left_slot (Left.Receiving q) = rx_slot q
left_slot (Left.Sending q) = tx_slot q
left_slot Left.SendingAck = None
left_slot (Left.ReceivingAck a) = tx_slot a.task

unfoldable pub next_slot : Next → Option Slot
next_slot (Next.Tx q k) = tx_slot q
next_slot (Next.Rx q) = rx_slot q
next_slot Next.Off = None

unfoldable pub asked_slot : Asked → Option Slot
asked_slot Asked.Idle = None
asked_slot (Asked.AfterWindow q) = rx_slot q
asked_slot (Asked.AfterAckWindow q t) = tx_slot q
asked_slot (Asked.Receiving q i) = rx_slot q
asked_slot (Asked.Sending q) = tx_slot q
asked_slot (Asked.SendingAck i) = None
asked_slot (Asked.ReceivingAck a) = tx_slot a.task

unfoldable pub stop_slot : Stop → Option Slot
stop_slot (Stop.Frame q) = rx_slot q
stop_slot (Stop.Outbound q) = rx_slot q
stop_slot (Stop.Ack a) = tx_slot a.task
stop_slot (Stop.AckAgain a) = tx_slot a.task

abbrev pub alone : Option Slot → Pending
alone h = record { first = h; second = None }

unfoldable pub transition_slots : Transition → Pending
transition_slots (Transition.Request l n) = record { first = left_slot l; second = next_slot n }
transition_slots (Transition.Rearm q) = alone (rx_slot q)
transition_slots (Transition.AckTurn q i) = alone (rx_slot q)
transition_slots (Transition.AckWait q k) = alone (tx_slot q)

unfoldable pub pending_of : Wait → Pending
pending_of (Wait.Asking a) = alone (asked_slot a)
pending_of (Wait.Entering e) = transition_slots e
pending_of (Wait.Listening q) = alone (rx_slot q)
pending_of (Wait.Stopping p) = alone (stop_slot p)
pending_of (Wait.Reading q) = alone (rx_slot q)
