-- What comes after the task that was left: document 01, "Waits", Entered.
-- Assumes nothing.
use Rattle.std.specs.Prelude.{ℕ, false, List, Option, Some, None}
use Rattle.radio_frame.specs.declared.Settings.{Settings}
use Rattle.phy.specs.declared.Ifs.{Ifs}
use Rattle.phy.specs.Phy.{latest_ack_start_of}
use Rattle.tasks.specs.declared.Action.{Action}
use Rattle.tasks.specs.declared.Answers.{Answers}
use Rattle.tasks.specs.declared.Asked.{Asked}
use Rattle.tasks.specs.declared.AwaitedAck.{AwaitedAck}
use Rattle.tasks.specs.declared.Left.{Left}
use Rattle.tasks.specs.declared.Next.{Next}
use Rattle.tasks.specs.declared.RxTask.{RxTask}
use Rattle.tasks.specs.declared.State.{State}
use Rattle.tasks.specs.declared.Stop.{Stop}
use Rattle.tasks.specs.declared.StopListening.{StopListening}
use Rattle.tasks.specs.declared.TaskResult.{TaskResult}
use Rattle.tasks.specs.declared.Timestamp.{Timestamp}
use Rattle.tasks.specs.declared.Transition.{Transition}
use Rattle.tasks.specs.declared.TxTask.{TxTask}
use Rattle.tasks.specs.declared.Wait.{Wait}
use Rattle.tasks.specs.Answers.{answers_of}
use Rattle.results.specs.Results.{leave_of, leave_receiving}
use Rattle.moves.specs.Move.{Move}
use Rattle.moves.specs.Move.{unfit, refused_of, accepted_of, guarded_of, to_idle, ask_any, listen_on, stop_move}

-- "Sending, frame wants an ACK: listen with the spare buffer after ACK spacing"; "Sending otherwise: ask"
unfoldable pub sending_move : Settings → TxTask → Answers → Option ℕ → Move
sending_move set q answers (Some k) =
    accepted_of set (Wait.Entering (Transition.AckWait q k))
    (Action.Rx set.spare_buffer Timestamp.BestEffort (Some Ifs.Aifs) false)
    answers
sending_move set q answers None = ask_any set (Asked.Sending q) answers

-- "Off-to-Tx: Entered, to sending"; "Off-to-Rx: Entered, to listening"; and so out of receiving and sending
unfoldable pub arrival_of : Settings → Answers → Next → Move
arrival_of set answers (Next.Tx q number) = sending_move set q answers number
arrival_of set answers (Next.Rx q) = listen_on set q answers
arrival_of set answers Next.Off = to_idle set answers

unfoldable pub request_entered : State → List ℕ → Left → Next → TaskResult → Move
request_entered s pool l n r =
    let left = leave_of s.set pool r l in guarded_of s left.refusal (arrival_of s.set (answers_of left.owed) n)

-- the settings with another spare buffer
abbrev pub with_spare : Settings → ℕ → Settings
with_spare set buffer =
    record {
      count = set.count;
      headroom = set.headroom;
      tailroom = set.tailroom;
      fcs_length = set.fcs_length;
      hardware_addr = set.hardware_addr;
      pan_id = set.pan_id;
      implicit_broadcast = set.implicit_broadcast;
      ack_buffer = set.ack_buffer;
      spare_buffer = buffer;
    }

-- "re-arm with the spare buffer ..; on Entered the old buffer is the spare, token kept, listening"
unfoldable pub rearm_entered : State → RxTask → TaskResult → Move
rearm_entered s q r =
    guarded_of s (leave_receiving s.set q r).refusal
    (listen_on (with_spare s.set q.buffer) (record { token = q.token; buffer = s.set.spare_buffer }) Answers.None)

-- "ACK turn: Entered answers the receive result, then sending without a token"
unfoldable pub ack_turn_entered : State → RxTask → Ifs → TaskResult → Move
ack_turn_entered s q i r =
    let left = leave_receiving s.set q r in
    guarded_of s left.refusal (ask_any s.set (Asked.SendingAck i) (answers_of left.owed))

-- "stop at latest ACK start"; "11. A measured entry that begins an ACK wait plus 10,000 exceeds 64 bits."
unfoldable pub ack_wait_started : State → AwaitedAck → Option ℕ → Move
ack_wait_started s a (Some t) = stop_move s.set (Stop.Ack a) (StopListening.At t)
ack_wait_started s a None = refused_of s 11

-- the data frame was sent
unfoldable pub ack_wait_entered : State → TxTask → ℕ → ℕ → TaskResult → Move
ack_wait_entered s q k entry TaskResult.Off = unfit s
ack_wait_entered s q k entry (TaskResult.Sent t) =
    ack_wait_started s (record { task = q; number = k; time = t }) (latest_ack_start_of entry)
ack_wait_entered s q k entry (TaskResult.Rx r) = unfit s

unfoldable pub entered_of : State → List ℕ → TaskResult → ℕ → Transition → Move
entered_of s pool r entry (Transition.Request l n) = request_entered s pool l n r
entered_of s pool r entry (Transition.Rearm q) = rearm_entered s q r
entered_of s pool r entry (Transition.AckTurn q i) = ack_turn_entered s q i r
entered_of s pool r entry (Transition.AckWait q k) = ack_wait_entered s q k entry r
