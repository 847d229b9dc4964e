-- A wait as numbers: docs/LAYOUTS.md, "The state's 64 bytes", the tables of kinds and cases. Each table is written twice: which
-- numbers a case is written as, and, as a list in the codes' order, which case the codes stand for.
-- Assumes nothing.
use Rattle.std.specs.Prelude.{ℕ, ◌^◌, ◌<◌, ◌≡◌, List, [], ◌∷◌, get_or, Option, Some, None}
use Rattle.phy.specs.declared.Ifs.{Ifs}
use Rattle.phy.specs.Phy.{ifs_code}
use Rattle.tasks.specs.declared.Asked.{Asked}
use Rattle.tasks.specs.declared.AwaitedAck.{AwaitedAck}
use Rattle.tasks.specs.declared.Left.{Left}
use Rattle.tasks.specs.declared.Next.{Next}
use Rattle.tasks.specs.declared.RxTask.{RxTask}
use Rattle.tasks.specs.declared.Stop.{Stop}
use Rattle.tasks.specs.declared.Transition.{Transition}
use Rattle.tasks.specs.declared.TxTask.{TxTask}
use Rattle.tasks.specs.declared.Wait.{Wait}
use Rattle.wait_parts.specs.declared.Part.{Part}
use Rattle.wait_parts.specs.declared.Parts.{Parts}

-- ---- Writing

-- "Bytes that a code leaves unused are 0"
abbrev pub no_task : TxTask
no_task = record { token = 0; buffer = 0; length = 0 }

abbrev pub rx_task : RxTask → TxTask
rx_task q = record { token = q.token; buffer = q.buffer; length = 0 }

-- code, request, number of an ACK, spacing, time sent
abbrev pub part_of : ℕ → TxTask → ℕ → ℕ → ℕ → Part
part_of code task number spacing time = record { code = code; task = task; number = number; spacing = spacing; time = time }

unfoldable pub asked_part : Asked → Part
asked_part Asked.Idle = part_of 0 no_task 0 0 0
asked_part (Asked.AfterWindow q) = part_of 1 (rx_task q) 0 0 0
asked_part (Asked.AfterAckWindow q t) = part_of 2 q 0 0 t
asked_part (Asked.Receiving q i) = part_of 3 (rx_task q) 0 (ifs_code i) 0
asked_part (Asked.Sending q) = part_of 4 q 0 0 0
asked_part (Asked.SendingAck i) = part_of 5 no_task 0 (ifs_code i) 0
asked_part (Asked.ReceivingAck a) = part_of 6 a.task a.number 0 a.time

unfoldable pub left_part : Left → Part
left_part Left.Off = part_of 0 no_task 0 0 0
left_part (Left.Receiving q) = part_of 1 (rx_task q) 0 0 0
left_part (Left.Sending q) = part_of 2 q 0 0 0
left_part Left.SendingAck = part_of 3 no_task 0 0 0
left_part (Left.ReceivingAck a) = part_of 4 a.task a.number 0 a.time

unfoldable pub tx_part : TxTask → Option ℕ → Part
tx_part q None = part_of 1 q 0 0 0
tx_part q (Some k) = part_of 2 q k 0 0

unfoldable pub next_part : Next → Part
next_part Next.Off = part_of 0 no_task 0 0 0
next_part (Next.Tx q number) = tx_part q number
next_part (Next.Rx q) = part_of 3 (rx_task q) 0 0 0

unfoldable pub stop_part : Stop → Part
stop_part (Stop.Frame q) = part_of 0 (rx_task q) 0 0 0
stop_part (Stop.Outbound q) = part_of 1 (rx_task q) 0 0 0
stop_part (Stop.Ack a) = part_of 2 a.task a.number 0 a.time
stop_part (Stop.AckAgain a) = part_of 3 a.task a.number 0 a.time

-- a wait without a request whose task is entered
abbrev pub alone_parts : ℕ → Part → Parts
alone_parts kind case = record { kind = kind; case = case; next = part_of 0 no_task 0 0 0 }

unfoldable pub transition_parts : Transition → Parts
transition_parts (Transition.Request l n) = record { kind = 1; case = left_part l; next = next_part n }
transition_parts (Transition.Rearm q) = alone_parts 2 (part_of 0 (rx_task q) 0 0 0)
transition_parts (Transition.AckTurn q i) = alone_parts 2 (part_of 1 (rx_task q) 0 (ifs_code i) 0)
transition_parts (Transition.AckWait q k) = alone_parts 2 (part_of 2 q k 0 0)

unfoldable pub wait_parts_of : Wait → Parts
wait_parts_of (Wait.Asking a) = alone_parts 0 (asked_part a)
wait_parts_of (Wait.Entering e) = transition_parts e
wait_parts_of (Wait.Listening q) = alone_parts 3 (part_of 0 (rx_task q) 0 0 0)
wait_parts_of (Wait.Stopping p) = alone_parts 4 (stop_part p)
wait_parts_of (Wait.Reading q) = alone_parts 5 (part_of 0 (rx_task q) 0 0 0)

-- ---- Reading: the cases in the order of their codes, from 0 on. A code past the end of its table is read as the last case; what is
-- written for that case has another code, so such bytes are not those of any state.

abbrev pub ifs_table : List Ifs
ifs_table = Ifs.Aifs ∷ Ifs.Sifs ∷ []

unfoldable pub ifs_at : ℕ → Ifs
ifs_at code = get_or ifs_table code Ifs.Lifs

abbrev pub rx_at : Part → RxTask
rx_at p = record { token = p.task.token; buffer = p.task.buffer }

abbrev pub ack_at : Part → AwaitedAck
ack_at p = record { task = p.task; number = p.number; time = p.time }

abbrev pub asked_table : Part → List Asked
asked_table p =
    Asked.Idle
    ∷ Asked.AfterWindow (rx_at p)
    ∷ Asked.AfterAckWindow p.task p.time
    ∷ Asked.Receiving (rx_at p) (ifs_at p.spacing)
    ∷ Asked.Sending p.task
    ∷ Asked.SendingAck (ifs_at p.spacing)
    ∷ []

unfoldable pub asked_at : Part → ℕ → Asked
asked_at p code = get_or (asked_table p) code (Asked.ReceivingAck (ack_at p))

abbrev pub left_table : Part → List Left
left_table p =
    Left.Off ∷ Left.Receiving (rx_at p) ∷ Left.Sending p.task ∷ Left.SendingAck ∷ []

unfoldable pub left_at : Part → ℕ → Left
left_at p code = get_or (left_table p) code (Left.ReceivingAck (ack_at p))

abbrev pub next_table : Part → List Next
next_table p =
    Next.Off ∷ Next.Tx p.task None ∷ Next.Tx p.task (Some p.number) ∷ []

unfoldable pub next_at : Part → ℕ → Next
next_at p code = get_or (next_table p) code (Next.Rx (rx_at p))

abbrev pub transition_table : Part → List Transition
transition_table p =
    Transition.Rearm (rx_at p) ∷ Transition.AckTurn (rx_at p) (ifs_at p.spacing) ∷ []

unfoldable pub transition_at : Part → ℕ → Transition
transition_at p code = get_or (transition_table p) code (Transition.AckWait p.task p.number)

abbrev pub stop_table : Part → List Stop
stop_table p =
    Stop.Frame (rx_at p) ∷ Stop.Outbound (rx_at p) ∷ Stop.Ack (ack_at p) ∷ []

unfoldable pub stop_at : Part → ℕ → Stop
stop_at p code = get_or (stop_table p) code (Stop.AckAgain (ack_at p))

abbrev pub wait_table : Parts → List Wait
wait_table p =
    Wait.Asking (asked_at p.case p.case.code)
    ∷ Wait.Entering (Transition.Request (left_at p.case p.case.code) (next_at p.next p.next.code))
    ∷ Wait.Entering (transition_at p.case p.case.code)
    ∷ Wait.Listening (rx_at p.case)
    ∷ Wait.Stopping (stop_at p.case p.case.code)
    ∷ []

unfoldable pub wait_at : Parts → ℕ → Wait
wait_at p kind = get_or (wait_table p) kind (Wait.Reading (rx_at p.case))

-- ---- Laws of these definitions; proofs/RoundTrip.antt has their proofs.

-- the numbers of a case fit the widths of their types
abbrev pub PartFit : Part → Type 0
PartFit p =
    (p.task.token < 2 ^ 32) × (p.task.buffer < 2 ^ 8) × (p.task.length < 2 ^ 16) × (p.number < 2 ^ 8) × (p.time < 2 ^ 64)

-- what is written of the task that is entered: no case of it has a spacing or a time
abbrev pub entered_part : Part → Part
entered_part p = record { code = p.code; task = p.task; number = p.number; spacing = 0; time = 0 }

-- a wait is read back from what is written of its numbers
abbrev pub WaitReadsBack : Type 0
WaitReadsBack =
    (w : Wait) →
    wait_at (record { kind = (wait_parts_of w).kind; case = (wait_parts_of w).case; next = entered_part (wait_parts_of w).next }) (wait_parts_of w).kind ≡ w

-- numbers that fit are read as a wait whose numbers fit
abbrev pub WaitFits : Type 0
WaitFits =
    (p : Parts) →
    PartFit p.case →
    PartFit p.next →
    PartFit (wait_parts_of (wait_at p p.kind)).case × PartFit (wait_parts_of (wait_at p p.kind)).next
