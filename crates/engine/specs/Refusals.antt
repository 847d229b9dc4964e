-- The first demand: which refusal a call meets, as document 01's list has it, and that a refused call changes nothing.
-- Here each refusal's condition stands by itself; that the calls refuse by them, in this order, is the theorem `in_order`.
-- Assumes nothing.
use Rattle.std.specs.Prelude.{ℕ, ◌+◌, ◌^◌, ◌≡◌, Bool, true, false, cond, not, ◌&&◌, ◌||◌, List, ltb, leb, length}
use Rattle.phy.specs.Phy.{phy_max_packet_size}
use Rattle.radio_frame.specs.declared.Settings.{Settings}
use Rattle.radio_frame.specs.Settings.{pool_unfit, rooms_unfit, own_buffers_unfit}
use Rattle.tasks.specs.declared.Action.{Action}
use Rattle.tasks.specs.declared.Answers.{Answers}
use Rattle.tasks.specs.declared.Asked.{Asked}
use Rattle.tasks.specs.declared.Call.{Call}
use Rattle.tasks.specs.declared.Left.{Left}
use Rattle.tasks.specs.declared.Next.{Next}
use Rattle.tasks.specs.declared.Reply.{Reply}
use Rattle.tasks.specs.declared.Request.{Request}
use Rattle.tasks.specs.declared.RxResult.{RxResult}
use Rattle.tasks.specs.declared.State.{State}
use Rattle.tasks.specs.declared.Stop.{Stop}
use Rattle.tasks.specs.declared.StopResult.{StopResult}
use Rattle.tasks.specs.declared.TaskResult.{TaskResult}
use Rattle.tasks.specs.declared.Transition.{Transition}
use Rattle.tasks.specs.declared.Wait.{Wait}
use Rattle.requests.specs.Requests.{token_held, buffer_held, tx_length_unfit, allowed_of, not_allowed}
use Rattle.results.specs.Results.{received_unfit}
use Rattle.engine.specs.Step.{step_of, step_pool}

-- ---- 5: which calls, and which kinds of outcome, fit a wait

-- None does not fit in idle, nor after a listening window ended
unfoldable pub none_fits : Asked → Bool
none_fits Asked.Idle = false
none_fits (Asked.AfterWindow q) = false
none_fits (Asked.AfterAckWindow q t) = true
none_fits (Asked.Receiving q i) = true
none_fits (Asked.Sending q) = true
none_fits (Asked.SendingAck i) = true
none_fits (Asked.ReceivingAck a) = true

-- the results of the task that is left: off none, sending the time sent, receiving any receive result, and an awaited ACK
-- frame any but "window ended"
unfoldable pub result_fits : Left → TaskResult → Bool
result_fits Left.Off TaskResult.Off = true
result_fits Left.Off (TaskResult.Sent t) = false
result_fits Left.Off (TaskResult.Rx r) = false
result_fits (Left.Receiving q) TaskResult.Off = false
result_fits (Left.Receiving q) (TaskResult.Sent t) = false
result_fits (Left.Receiving q) (TaskResult.Rx r) = true
result_fits (Left.Sending q) TaskResult.Off = false
result_fits (Left.Sending q) (TaskResult.Sent t) = true
result_fits (Left.Sending q) (TaskResult.Rx r) = false
result_fits Left.SendingAck TaskResult.Off = false
result_fits Left.SendingAck (TaskResult.Sent t) = true
result_fits Left.SendingAck (TaskResult.Rx r) = false
result_fits (Left.ReceivingAck a) TaskResult.Off = false
result_fits (Left.ReceivingAck a) (TaskResult.Sent t) = false
result_fits (Left.ReceivingAck a) (TaskResult.Rx (RxResult.Frame n t quality)) = true
result_fits (Left.ReceivingAck a) (TaskResult.Rx RxResult.RxWindowEnded) = false
result_fits (Left.ReceivingAck a) (TaskResult.Rx (RxResult.CrcError t quality)) = true

-- Entered: the re-arm and the ACK turn leave a reception, the ACK wait leaves sending
unfoldable pub entered_fits : Transition → TaskResult → Bool
entered_fits (Transition.Request l n) r = result_fits l r
entered_fits (Transition.Rearm q) r = result_fits (Left.Receiving q) r
entered_fits (Transition.AckTurn q i) r = result_fits (Left.Receiving q) r
entered_fits (Transition.AckWait q k) r = result_fits (Left.Sending q) r

-- "Fallback fits with a Tx only"
unfoldable pub fallback_fits : Transition → TaskResult → Bool
fallback_fits (Transition.Request l (Next.Tx q k)) r = result_fits l r
fallback_fits (Transition.Request l (Next.Rx q)) r = false
fallback_fits (Transition.Request l Next.Off) r = false
fallback_fits (Transition.Rearm q) r = false
fallback_fits (Transition.AckTurn q i) r = false
fallback_fits (Transition.AckWait q k) r = false

-- "it fits only where rollback is on": a reception that goes off, and an ACK turn
unfoldable pub goes_off : Next → Bool
goes_off (Next.Tx q k) = false
goes_off (Next.Rx q) = false
goes_off Next.Off = true

unfoldable pub rollback_fits : Transition → Bool
rollback_fits (Transition.Request Left.Off n) = false
rollback_fits (Transition.Request (Left.Receiving q) n) = goes_off n
rollback_fits (Transition.Request (Left.Sending q) n) = false
rollback_fits (Transition.Request Left.SendingAck n) = false
rollback_fits (Transition.Request (Left.ReceivingAck a) n) = false
rollback_fits (Transition.Rearm q) = false
rollback_fits (Transition.AckTurn q i) = true
rollback_fits (Transition.AckWait q k) = false

-- after FrameStart only "frame started" fits, and a second failure in an ACK wait does not
unfoldable pub stop_fits : Stop → StopResult → Bool
stop_fits p StopResult.FrameStarted = true
stop_fits (Stop.Frame q) (StopResult.RxWindowEnded r) = false
stop_fits (Stop.Outbound q) (StopResult.RxWindowEnded r) = true
stop_fits (Stop.Ack a) (StopResult.RxWindowEnded r) = true
stop_fits (Stop.AckAgain a) (StopResult.RxWindowEnded r) = true
stop_fits (Stop.Frame q) StopResult.Failed = false
stop_fits (Stop.Outbound q) StopResult.Failed = true
stop_fits (Stop.Ack a) StopResult.Failed = true
stop_fits (Stop.AckAgain a) StopResult.Failed = false

-- each call has its kind of wait
unfoldable pub fits : Call → Wait → Bool
fits (Call.Request q) (Wait.Asking a) = true
fits (Call.Request q) (Wait.Entering e) = false
fits (Call.Request q) (Wait.Listening p) = false
fits (Call.Request q) (Wait.Stopping p) = false
fits (Call.Request q) (Wait.Reading p) = false
fits Call.None (Wait.Asking a) = none_fits a
fits Call.None (Wait.Entering e) = false
fits Call.None (Wait.Listening p) = false
fits Call.None (Wait.Stopping p) = false
fits Call.None (Wait.Reading p) = false
fits Call.FrameStart (Wait.Asking a) = false
fits Call.FrameStart (Wait.Entering e) = false
fits Call.FrameStart (Wait.Listening p) = true
fits Call.FrameStart (Wait.Stopping p) = false
fits Call.FrameStart (Wait.Reading p) = false
fits (Call.OutboundSeen start cca) (Wait.Asking a) = false
fits (Call.OutboundSeen start cca) (Wait.Entering e) = false
fits (Call.OutboundSeen start cca) (Wait.Listening p) = true
fits (Call.OutboundSeen start cca) (Wait.Stopping p) = false
fits (Call.OutboundSeen start cca) (Wait.Reading p) = false
fits (Call.Stopped r) (Wait.Asking a) = false
fits (Call.Stopped r) (Wait.Entering e) = false
fits (Call.Stopped r) (Wait.Listening p) = false
fits (Call.Stopped r) (Wait.Stopping p) = stop_fits p r
fits (Call.Stopped r) (Wait.Reading p) = false
fits (Call.Header arrived len) (Wait.Asking a) = false
fits (Call.Header arrived len) (Wait.Entering e) = false
fits (Call.Header arrived len) (Wait.Listening p) = false
fits (Call.Header arrived len) (Wait.Stopping p) = false
fits (Call.Header arrived len) (Wait.Reading p) = true
fits (Call.Entered r entry) (Wait.Asking a) = false
fits (Call.Entered r entry) (Wait.Entering e) = entered_fits e r
fits (Call.Entered r entry) (Wait.Listening p) = false
fits (Call.Entered r entry) (Wait.Stopping p) = false
fits (Call.Entered r entry) (Wait.Reading p) = false
fits (Call.Fallback r cause) (Wait.Asking a) = false
fits (Call.Fallback r cause) (Wait.Entering e) = fallback_fits e r
fits (Call.Fallback r cause) (Wait.Listening p) = false
fits (Call.Fallback r cause) (Wait.Stopping p) = false
fits (Call.Fallback r cause) (Wait.Reading p) = false
fits Call.Rollback (Wait.Asking a) = false
fits Call.Rollback (Wait.Entering e) = rollback_fits e
fits Call.Rollback (Wait.Listening p) = false
fits Call.Rollback (Wait.Stopping p) = false
fits Call.Rollback (Wait.Reading p) = false

-- ---- 10 and 11

-- "10. A received length is 0 or above 127 − F"
unfoldable pub result_unfit : Settings → TaskResult → Bool
result_unfit set TaskResult.Off = false
result_unfit set (TaskResult.Sent t) = false
result_unfit set (TaskResult.Rx r) = received_unfit set r

unfoldable pub stop_unfit : Settings → StopResult → Bool
stop_unfit set StopResult.FrameStarted = false
stop_unfit set (StopResult.RxWindowEnded r) = received_unfit set r
stop_unfit set StopResult.Failed = false

-- "11. A measured entry that begins an ACK wait plus 10,000 exceeds 64 bits."
unfoldable pub begins_ack_wait : Wait → Bool
begins_ack_wait (Wait.Asking a) = false
begins_ack_wait (Wait.Entering (Transition.Request l n)) = false
begins_ack_wait (Wait.Entering (Transition.Rearm q)) = false
begins_ack_wait (Wait.Entering (Transition.AckTurn q i)) = false
begins_ack_wait (Wait.Entering (Transition.AckWait q k)) = true
begins_ack_wait (Wait.Listening q) = false
begins_ack_wait (Wait.Stopping p) = false
begins_ack_wait (Wait.Reading q) = false

-- ---- What a call that fits its wait still has to pass: 6 to 9 for a request, 10 and 11 for outcomes

-- "9. The direction or start is not allowed in this wait."
unfoldable pub not_allowed_in : Wait → Request → Bool
not_allowed_in (Wait.Asking a) q = not_allowed (allowed_of a) q.start q.task
not_allowed_in (Wait.Entering e) q = false
not_allowed_in (Wait.Listening p) q = false
not_allowed_in (Wait.Stopping p) q = false
not_allowed_in (Wait.Reading p) q = false

unfoldable pub later_refusal : State → Call → ℕ
later_refusal s (Call.Request q) =
    cond (token_held s.wait q.token) 6
    (cond (leb s.set.count q.buffer || buffer_held s q.buffer) 7
    (cond (tx_length_unfit s.set q.task) 8
    (cond (not_allowed_in s.wait q) 9 0)))
later_refusal s Call.None = 0
later_refusal s Call.FrameStart = 0
later_refusal s (Call.OutboundSeen start cca) = 0
later_refusal s (Call.Stopped r) = cond (stop_unfit s.set r) 10 0
later_refusal s (Call.Header arrived len) = cond (ltb phy_max_packet_size (arrived + s.set.fcs_length)) 10 0
later_refusal s (Call.Entered r entry) =
    cond (result_unfit s.set r) 10 (cond (begins_ack_wait s.wait && not (ltb (entry + 10000) (2 ^ 64))) 11 0)
later_refusal s (Call.Fallback r cause) = cond (result_unfit s.set r) 10 0
later_refusal s Call.Rollback = 0

-- ---- "Refusals, in checking order": the first that holds, or 0
unfoldable pub refusal_of : State → List ℕ → Call → ℕ
refusal_of s pool c =
    cond (pool_unfit s.set (length pool)) 2
    (cond (rooms_unfit s.set) 3
    (cond (own_buffers_unfit s.set) 4
    (cond (not (fits c s.wait)) 5
    (later_refusal s c))))

unfoldable pub InOrder : Type 0
InOrder = (s : State) (pool : List ℕ) (c : Call) → (step_of s pool c).refusal ≡ refusal_of s pool c

-- ---- "an unfit call gets its number from document 01 and changes neither state nor pool"
abbrev pub no_reply : Reply
no_reply = record { action = Action.Nothing; answers = Answers.None }

pub record Unchanged (s : State) (pool : List ℕ) (c : Call) : Type 0 where
  pub state : (step_of s pool c).state ≡ s
  pub reply : (step_of s pool c).reply ≡ no_reply
  pub pool_bytes : step_pool s pool c ≡ pool

unfoldable pub RefusedUnchanged : Type 0
RefusedUnchanged = (s : State) (pool : List ℕ) (c : Call) → ((step_of s pool c).refusal ≡ 0 → ⊥) → Unchanged s pool c
