-- Waits that ask for a request: document 01, "Waits" and "Spacing and time".
-- Assumes nothing.
use Rattle.std.specs.Prelude.{ℕ, Bool, true, false, List, Option, Some, None}
use Rattle.radio_frame.specs.declared.Settings.{Settings}
use Rattle.radio_frame.specs.RadioFrame.{frame_head, sdu_length, ack_seq_num_of}
use Rattle.phy.specs.Phy.{ifs_of}
use Rattle.tasks.specs.declared.Action.{Action}
use Rattle.tasks.specs.declared.Answers.{Answers}
use Rattle.tasks.specs.declared.Asked.{Asked}
use Rattle.tasks.specs.declared.Call.{Call}
use Rattle.tasks.specs.declared.Left.{Left}
use Rattle.tasks.specs.declared.Next.{Next}
use Rattle.tasks.specs.declared.Request.{Request}
use Rattle.tasks.specs.declared.Response.{Response}
use Rattle.tasks.specs.declared.RxResult.{RxResult}
use Rattle.tasks.specs.declared.State.{State}
use Rattle.tasks.specs.declared.Task.{Task}
use Rattle.tasks.specs.declared.Transition.{Transition}
use Rattle.tasks.specs.declared.TxTask.{TxTask}
use Rattle.tasks.specs.declared.Wait.{Wait}
use Rattle.tasks.specs.Answers.{to_tx, to_rx, answers_of}
use Rattle.requests.specs.Requests.{request_refusal}
use Rattle.moves.specs.Move.{Move}
use Rattle.moves.specs.Move.{unfit, accepted_of, guarded_of, to_idle}
use Rattle.asking.specs.declared.PreviousTask.{PreviousTask}
use Rattle.phy.specs.declared.Ifs.{Ifs}
use Rattle.tasks.specs.declared.Answer.{Answer}

-- ".. carries the spacing of the last data frame": of a sent one, by its length with checksum
unfoldable pub tx_spacing : Settings → TxTask → Option Ifs
tx_spacing set q = Some (ifs_of (sdu_length set q.length))

abbrev pub leaving : Option Answer → Left → Option Ifs → PreviousTask
leaving owed left spacing = record { owed = owed; left = left; spacing = spacing }

-- What an ask leaves: the answer that a request, or None, brings at once, the task that the radio is on, and the spacing before the next one.
-- "A Tx or Rx scheduled out of receiving or sending carries the spacing of the last data frame; .. whatever starts from off
-- carr[ies] none."
unfoldable pub previous_task_of : Settings → Asked → PreviousTask
previous_task_of set Asked.Idle = leaving None Left.Off None
-- "Window ended there: .. answer "window ended" and go off-to-Tx, whatever the receive result was."
previous_task_of set (Asked.AfterWindow q) = leaving (Some (to_rx q (Response.Received RxResult.RxWindowEnded))) Left.Off None
-- "Window ended: ask; whatever the receive result was, the Request .. or None answers Nack and goes on from off."
previous_task_of set (Asked.AfterAckWindow q t) = leaving (Some (to_tx q (Response.Nack t))) Left.Off None
previous_task_of set (Asked.Receiving q i) = leaving None (Left.Receiving q) (Some i)
previous_task_of set (Asked.Sending q) = leaving None (Left.Sending q) (tx_spacing set q)
-- after an ACK turn: the spacing of the received data frame, not of the ACK
previous_task_of set (Asked.SendingAck i) = leaving None Left.SendingAck (Some i)
previous_task_of set (Asked.ReceivingAck a) = leaving None (Left.ReceivingAck a) (tx_spacing set a.task)

-- "A Tx frame wants an ACK if its control at acceptance has bit 5 and its number is not suppressed; that number .. is noted."
unfoldable pub next_of : Settings → List ℕ → Request → Task → Next
next_of set pool q (Task.Tx length cca) =
    Next.Tx (record { token = q.token; buffer = q.buffer; length = length }) (ack_seq_num_of (frame_head set pool q.buffer))
next_of set pool q Task.Rx = Next.Rx (record { token = q.token; buffer = q.buffer })

-- the task is scheduled at the request's start; "rollback off"
unfoldable pub request_action : Request → Option Ifs → Task → Action
request_action q spacing (Task.Tx length cca) = Action.Tx q.buffer length cca q.start spacing false
request_action q spacing Task.Rx = Action.Rx q.buffer q.start spacing false

-- a request is taken: what it is to enter, out of what is left
unfoldable pub taken_of : Settings → List ℕ → Asked → Request → Move
taken_of set pool a q =
    let d = previous_task_of set a in
    accepted_of set (Wait.Entering (Transition.Request d.left (next_of set pool q q.task)))
    (request_action q d.spacing q.task)
    (answers_of d.owed)

-- "Request": 6 to 9, then what it is to enter, out of what is left
unfoldable pub request_of : State → List ℕ → Asked → Request → Move
request_of s pool a q = guarded_of s (request_refusal s a q) (taken_of s.set pool a q)

-- going off
abbrev pub to_off : Settings → Left → Bool → Move
to_off set left rollback =
    accepted_of set (Wait.Entering (Transition.Request left Next.Off)) (Action.Off rollback) Answers.None

-- "None: no request waits."
unfoldable pub none_of : State → Asked → Move
-- "Idle: Request"
none_of s Asked.Idle = unfit s
-- "Window ended there: .. (None does not fit)"
none_of s (Asked.AfterWindow q) = unfit s
-- ".. or None answers Nack and goes on from off"
none_of s (Asked.AfterAckWindow q t) = to_idle s.set (Answers.One (to_tx q (Response.Nack t)))
-- "Receiving, asked: .. None goes off, rollback on"
none_of s (Asked.Receiving q i) = to_off s.set (Left.Receiving q) true
-- "Sending otherwise: .. None goes off"
none_of s (Asked.Sending q) = to_off s.set (Left.Sending q) false
none_of s (Asked.SendingAck i) = to_off s.set Left.SendingAck false
-- "Frame started: ask as when receiving, but rollback always off" (a departure from the Rust)
none_of s (Asked.ReceivingAck a) = to_off s.set (Left.ReceivingAck a) false

-- a wait that asks
unfoldable pub asking_of : State → List ℕ → Asked → Call → Move
asking_of s pool a (Call.Request q) = request_of s pool a q
asking_of s pool a Call.None = none_of s a
asking_of s pool a Call.FrameStart = unfit s
asking_of s pool a (Call.OutboundSeen start cca) = unfit s
asking_of s pool a (Call.Stopped r) = unfit s
asking_of s pool a (Call.Header arrived length) = unfit s
asking_of s pool a (Call.Entered r entry) = unfit s
asking_of s pool a (Call.Fallback r cause) = unfit s
asking_of s pool a Call.Rollback = unfit s
