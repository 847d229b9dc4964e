-- Which requests the service asks for, by what the last accepted call and its action say: document 01, "Waits". No state and no wait is
-- among the imports, so that a book can be kept by it.
-- Assumes nothing.
use Rattle.std.specs.Prelude.{Bool, true, false}
use Rattle.tasks.specs.declared.Action.{Action}
use Rattle.tasks.specs.declared.Allowed.{Allowed}
use Rattle.tasks.specs.declared.Call.{Call}
use Rattle.tasks.specs.declared.Starts.TheVariants.{Never, BestEffort, Any}
use Rattle.tasks.specs.declared.StopResult.{StopResult}
use Rattle.tasks.specs.declared.TaskDirection.{TaskDirection}
use Rattle.requests.specs.Requests.{allow}

-- whether a request is asked for, and then which starts are allowed, by direction; or it is listened
pub data Asks : Type 0 where
  no_ask : Asks
  ask : Allowed → Asks
  listens : Asks

-- an ask for any direction, by the call that led to it: Header "Receiving, asked: Tx any start, Rx best effort"; Stopped "Window ended:
-- ask; .. the Request (Tx any start, Rx best effort)" and "Frame started: ask as when receiving"; Entered "Sending otherwise: ask; Tx and
-- Rx best effort only". No other call leads to one.
abbrev pub asked_by : Call → Allowed
asked_by (Call.Request q) = allow Never Never
asked_by Call.None = allow Never Never
asked_by Call.FrameStart = allow Never Never
asked_by (Call.OutboundSeen start cca) = allow Never Never
asked_by (Call.Stopped r) = allow Any BestEffort
asked_by (Call.Header arrived length) = allow Any BestEffort
asked_by (Call.Entered r entry) = allow BestEffort BestEffort
asked_by (Call.Fallback r cause) = allow Never Never
asked_by Call.Rollback = allow Never Never

abbrev pub asks_after : Call → Action → Asks
asks_after c Action.Nothing = no_ask
-- "Idle: Request, any direction and start"
asks_after c Action.ReceiveRequest = ask (allow Any Any)
asks_after c (Action.TryReceiveRequest TaskDirection.Any) = ask (asked_by c)
-- "Window ended there: ask for an outbound request"
asks_after c (Action.TryReceiveRequest TaskDirection.Outbound) = ask (allow Any Never)
-- "Listening: FrameStart, ..; OutboundSeen"
asks_after c Action.Listen = listens
asks_after c (Action.Stop how) = no_ask
asks_after c Action.ReadHeader = no_ask
asks_after c (Action.Tx buffer n cca start ifs rollback) = no_ask
asks_after c (Action.Rx buffer start ifs rollback) = no_ask
asks_after c (Action.Off rollback) = no_ask

-- whether the stop that OutboundSeen asked for, or the ask after its window ended, is open after a call, by whether it was before
abbrev pub outbound_after : Call → Bool → Bool
outbound_after (Call.Request q) before = false
outbound_after Call.None before = false
outbound_after Call.FrameStart before = false
outbound_after (Call.OutboundSeen start cca) before = true
outbound_after (Call.Stopped StopResult.FrameStarted) before = false
outbound_after (Call.Stopped (StopResult.RxWindowEnded r)) before = before
outbound_after (Call.Stopped StopResult.Failed) before = false
outbound_after (Call.Header arrived length) before = false
outbound_after (Call.Entered r entry) before = false
outbound_after (Call.Fallback r cause) before = false
outbound_after Call.Rollback before = false
