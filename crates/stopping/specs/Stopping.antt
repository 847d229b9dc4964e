-- Waits for the end of listening: document 01, "Waits".
-- Assumes nothing.
use Rattle.std.specs.Prelude.{Bool, true, false, cond}
use Rattle.radio_frame.specs.declared.Settings.{Settings}
use Rattle.tasks.specs.declared.Action.{Action}
use Rattle.tasks.specs.declared.Answers.{Answers}
use Rattle.tasks.specs.declared.Asked.{Asked}
use Rattle.tasks.specs.declared.AwaitedAck.{AwaitedAck}
use Rattle.tasks.specs.declared.Call.{Call}
use Rattle.tasks.specs.declared.RxTask.{RxTask}
use Rattle.tasks.specs.declared.State.{State}
use Rattle.tasks.specs.declared.Stop.{Stop}
use Rattle.tasks.specs.declared.StopListening.{StopListening}
use Rattle.tasks.specs.declared.StopResult.{StopResult}
use Rattle.tasks.specs.declared.TaskDirection.{TaskDirection}
use Rattle.tasks.specs.declared.Wait.{Wait}
use Rattle.results.specs.Results.{received_refusal}
use Rattle.moves.specs.Move.{Move}
use Rattle.moves.specs.Move.{unfit, accepted_of, guarded_of, ask_any, listen_on, stop_move}

abbrev pub read_header : Settings → RxTask → Move
read_header set q = accepted_of set (Wait.Reading q) Action.ReadHeader Answers.None

-- "FrameStart, .. only "frame started" fits"
unfoldable pub frame_stopped : State → RxTask → StopResult → Move
frame_stopped s q StopResult.FrameStarted = read_header s.set q
frame_stopped s q (StopResult.RxWindowEnded r) = unfit s
frame_stopped s q StopResult.Failed = unfit s

-- "Window ended there: ask for an outbound request"
abbrev pub ask_outbound : Settings → RxTask → Move
ask_outbound set q =
    accepted_of set (Wait.Asking (Asked.AfterWindow q)) (Action.TryReceiveRequest TaskDirection.Outbound) Answers.None

-- "OutboundSeen, .. and failed returns to listening"
unfoldable pub outbound_stopped : State → RxTask → StopResult → Move
outbound_stopped s q StopResult.FrameStarted = read_header s.set q
outbound_stopped s q (StopResult.RxWindowEnded r) = guarded_of s (received_refusal s.set r) (ask_outbound s.set q)
outbound_stopped s q StopResult.Failed = listen_on s.set q Answers.None

-- "failed once, stop without a time"; a second time it does not fit
unfoldable pub ack_failed : State → AwaitedAck → Bool → Move
ack_failed s a again = cond again (unfit s) (stop_move s.set (Stop.AckAgain a) StopListening.Now)

-- "Window ended: ask; .." "Frame started: ask as when receiving, .."
unfoldable pub ack_stopped : State → AwaitedAck → Bool → StopResult → Move
ack_stopped s a again StopResult.FrameStarted = ask_any s.set (Asked.ReceivingAck a) Answers.None
ack_stopped s a again (StopResult.RxWindowEnded r) =
    guarded_of s (received_refusal s.set r) (ask_any s.set (Asked.AfterAckWindow a.task a.time) Answers.None)
ack_stopped s a again StopResult.Failed = ack_failed s a again

unfoldable pub stopped_of : State → StopResult → Stop → Move
stopped_of s r (Stop.Frame q) = frame_stopped s q r
stopped_of s r (Stop.Outbound q) = outbound_stopped s q r
stopped_of s r (Stop.Ack a) = ack_stopped s a false r
stopped_of s r (Stop.AckAgain a) = ack_stopped s a true r

-- a wait for the end of listening
unfoldable pub stopping_of : State → Stop → Call → Move
stopping_of s p (Call.Request q) = unfit s
stopping_of s p Call.None = unfit s
stopping_of s p Call.FrameStart = unfit s
stopping_of s p (Call.OutboundSeen start cca) = unfit s
stopping_of s p (Call.Stopped r) = stopped_of s r p
stopping_of s p (Call.Header arrived length) = unfit s
stopping_of s p (Call.Entered r entry) = unfit s
stopping_of s p (Call.Fallback r cause) = unfit s
stopping_of s p Call.Rollback = unfit s
