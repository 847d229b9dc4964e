-- Listening: document 01, "Waits".
-- Assumes nothing.
use Rattle.std.specs.Prelude.{Bool}
use Rattle.tasks.specs.declared.Call.{Call}
use Rattle.tasks.specs.declared.RxTask.{RxTask}
use Rattle.tasks.specs.declared.State.{State}
use Rattle.tasks.specs.declared.Stop.{Stop}
use Rattle.tasks.specs.declared.StopListening.{StopListening}
use Rattle.tasks.specs.declared.Timestamp.{Timestamp}
use Rattle.moves.specs.Move.{Move}
use Rattle.moves.specs.Move.{unfit, stop_move}

-- "stop before that start (best effort: without a time)"
unfoldable pub stop_before : Bool → Timestamp → StopListening
stop_before cca Timestamp.BestEffort = StopListening.Now
stop_before cca (Timestamp.Scheduled t) = StopListening.Before t cca

-- "Listening: FrameStart, stop without a time, ..; OutboundSeen, stop before that start"
unfoldable pub listening_of : State → RxTask → Call → Move
listening_of s q (Call.Request r) = unfit s
listening_of s q Call.None = unfit s
listening_of s q Call.FrameStart = stop_move s.set (Stop.Frame q) StopListening.Now
listening_of s q (Call.OutboundSeen start cca) = stop_move s.set (Stop.Outbound q) (stop_before cca start)
listening_of s q (Call.Stopped r) = unfit s
listening_of s q (Call.Header arrived length) = unfit s
listening_of s q (Call.Entered r entry) = unfit s
listening_of s q (Call.Fallback r cause) = unfit s
listening_of s q Call.Rollback = unfit s
