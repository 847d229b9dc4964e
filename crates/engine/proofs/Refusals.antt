-- The first demand: the calls refuse by document 01's conditions, in its order, and a refused call changes nothing.
-- Assumes nothing.
use Rattle.std.proofs.Common.{Option, Some, None, ℕ}
use Prim.Native.Nat.{ℕ, ◌+◌, ◌^◌}
use mathlib.Core.Path.{◌≡◌, refl, sym, ◌∙◌}
use mathlib.Core.Bool.{Bool, true, false, cond, not, ◌&&◌}
use mathlib.Core.List.{List}
use lib.Dec.{eqb, ltb}
use lib.ListN.{length}
use borrow.Author.Tests.{eqb-true}
use Rattle.radio_frame.specs.declared.Settings.{Settings}
use Rattle.radio_frame.specs.Settings.{pool_unfit, rooms_unfit, own_buffers_unfit, settings_refusal}
use Rattle.phy.specs.Phy.{ifs_of, latest_ack_start_of}
use Rattle.header.specs.declared.PreliminaryFrameInfo.{PreliminaryFrameInfo}
use Rattle.filter.specs.Filter.{for_us}
use Rattle.tasks.specs.declared.Answers.{Answers}
use Rattle.tasks.specs.declared.Asked.{Asked}
use Rattle.tasks.specs.declared.Call.{Call}
use Rattle.tasks.specs.declared.Cause.{Cause}
use Rattle.tasks.specs.declared.Left.{Left}
use Rattle.tasks.specs.declared.Next.{Next}
use Rattle.tasks.specs.declared.RxResult.{RxResult}
use Rattle.tasks.specs.declared.RxTask.{RxTask}
use Rattle.tasks.specs.declared.State.{State}
use Rattle.tasks.specs.declared.Stop.{Stop}
use Rattle.tasks.specs.declared.StopResult.{StopResult}
use Rattle.tasks.specs.declared.TaskResult.{TaskResult}
use Rattle.tasks.specs.declared.Transition.{Transition}
use Rattle.tasks.specs.declared.TxTask.{TxTask}
use Rattle.tasks.specs.declared.Wait.{Wait}
use Rattle.requests.specs.Requests.{request_refusal}
use Rattle.results.specs.Results.{received_unfit, received_refusal, leave_off, leave_receiving, leave_sending, leave_sending_ack, ack_received, leave_receiving_ack, leave_of}
use Rattle.moves.specs.Move.{Move}
use Rattle.moves.specs.Move.{refused_of, guarded_of}
use Rattle.asking.specs.Asking.{taken_of, request_of, none_of, asking_of}
use Rattle.entered.specs.Entered.{sending_move, arrival_of, request_entered, rearm_entered, ack_turn_entered, ack_wait_started, ack_wait_entered, entered_of}
use Rattle.entering.specs.Entering.{request_fell_back, fell_back_of, off_rolled_back, request_rolled_back, rolled_back_of, entering_of}
use Rattle.listening.specs.Listening.{listening_of}
use Rattle.stopping.specs.Stopping.{frame_stopped, outbound_stopped, ack_failed, ack_stopped, stopped_of, stopping_of}
use Rattle.reading.specs.Reading.{requested, number_to_acknowledge, rearm_move, receive_move, header_move_of, arrived_refusal, header_of, reading_of}
use Rattle.engine.specs.Step.{wait_move, move_of, written_by, step_of, step_pool}
use Rattle.engine.specs.Refusals.{none_fits, result_fits, entered_fits, fallback_fits, goes_off, rollback_fits, stop_fits, fits, result_unfit, stop_unfit, begins_ack_wait, not_allowed_in, later_refusal, refusal_of, InOrder, Unchanged, RefusedUnchanged}
use Rattle.engine.proofs.Kept.{state_at}
use Rattle.engine.proofs.Table.{Legal, refuse, stay, swap, enters, step_legal}

-- ---- A refused call changes nothing
pub refused_unchanged : RefusedUnchanged
unfolding RefusedUnchanged step_of step_pool written_by
refused_unchanged s pool c h = go (move_of s pool c) refl (step_legal s pool c)
  where
    go : (m : Move) → move_of s pool c ≡ m → Legal s pool c m → Unchanged s pool c
    go m e (refuse k n) = record { state = rw e; reply = rw e; pool_bytes = rw e }
    go m e (stay w' x rest R other P L same A) = absurd (h (rw e))
    go m e (swap set' w' x rest R other P L same head A) = absurd (h (rw e))
    go m e (enters l x rest R P L same A f) = absurd (h (rw e))

-- ---- The refusal of a guarded move
guard_zero : (s : State) (k : ℕ) (m : Move) → m.refusal ≡ 0 → (guarded_of s k m).refusal ≡ k
unfolding guarded_of
guard_zero s k m z = go (eqb k 0) refl
  where
    go : (t : Bool) → eqb k 0 ≡ t → (cond (eqb k 0) m (refused_of s k)).refusal ≡ k
    go true e = rw e (z ∙ sym (eqb-true k 0 e))
    go false e = rw e

settings_then : (s : State) (m : Move) (x y z : Bool) (r : ℕ) → m.refusal ≡ r
    → (guarded_of s (cond x 2 (cond y 3 (cond z 4 0))) m).refusal ≡ cond x 2 (cond y 3 (cond z 4 r))
unfolding guarded_of
settings_then s m true y z r e = refl
settings_then s m false true z r e = refl
settings_then s m false false true r e = refl
settings_then s m false false false r e = e

module _ (set : Settings) (pool : List ℕ) where
  arrival_accepted : (x : Answers) (n : Next) → (arrival_of set x n).refusal ≡ 0
  unfolding arrival_of sending_move
  arrival_accepted x (Next.Tx q (Some k)) = refl
  arrival_accepted x (Next.Tx q None) = refl
  arrival_accepted x (Next.Rx q) = refl
  arrival_accepted x Next.Off = refl

  leave_refusal : (l : Left) (r : TaskResult) → (leave_of set pool r l).refusal ≡ cond (not (result_fits l r)) 5 (cond (result_unfit set r) 10 0)
  unfolding leave_of leave_off leave_receiving leave_sending leave_sending_ack leave_receiving_ack ack_received received_refusal result_fits result_unfit received_unfit
  leave_refusal Left.Off TaskResult.Off = refl
  leave_refusal Left.Off (TaskResult.Sent t) = refl
  leave_refusal Left.Off (TaskResult.Rx r) = refl
  leave_refusal (Left.Receiving q) TaskResult.Off = refl
  leave_refusal (Left.Receiving q) (TaskResult.Sent t) = refl
  leave_refusal (Left.Receiving q) (TaskResult.Rx r) = refl
  leave_refusal (Left.Sending q) TaskResult.Off = refl
  leave_refusal (Left.Sending q) (TaskResult.Sent t) = refl
  leave_refusal (Left.Sending q) (TaskResult.Rx r) = refl
  leave_refusal Left.SendingAck TaskResult.Off = refl
  leave_refusal Left.SendingAck (TaskResult.Sent t) = refl
  leave_refusal Left.SendingAck (TaskResult.Rx r) = refl
  leave_refusal (Left.ReceivingAck a) TaskResult.Off = refl
  leave_refusal (Left.ReceivingAck a) (TaskResult.Sent t) = refl
  leave_refusal (Left.ReceivingAck a) (TaskResult.Rx (RxResult.Frame n t quality)) = refl
  leave_refusal (Left.ReceivingAck a) (TaskResult.Rx RxResult.RxWindowEnded) = refl
  leave_refusal (Left.ReceivingAck a) (TaskResult.Rx (RxResult.CrcError t quality)) = refl

  none_refusal : (a : Asked) → (none_of (state_at set (Wait.Asking a)) a).refusal ≡ cond (not (none_fits a)) 5 0
  unfolding none_of none_fits
  none_refusal Asked.Idle = refl
  none_refusal (Asked.AfterWindow q) = refl
  none_refusal (Asked.AfterAckWindow q t) = refl
  none_refusal (Asked.Receiving q i) = refl
  none_refusal (Asked.Sending q) = refl
  none_refusal (Asked.SendingAck i) = refl
  none_refusal (Asked.ReceivingAck a) = refl

  ack_wait_refusal : (q : TxTask) (k entry : ℕ) (r : TaskResult)
      → (ack_wait_entered (state_at set (Wait.Entering (Transition.AckWait q k))) q k entry r).refusal
      ≡ cond (not (result_fits (Left.Sending q) r)) 5 (cond (result_unfit set r) 10 (cond (not (ltb (entry + 10000) (2 ^ 64))) 11 0))
  unfolding ack_wait_entered ack_wait_started latest_ack_start_of result_fits result_unfit
  ack_wait_refusal q k entry TaskResult.Off = refl
  ack_wait_refusal q k entry (TaskResult.Sent t) = go (ltb (entry + 10000) (2 ^ 64))
    where
      go : (b : Bool) → (ack_wait_started (state_at set (Wait.Entering (Transition.AckWait q k))) (record { task = q; number = k; time = t }) (cond b (Some (entry + 10000)) None)).refusal ≡ cond (not b) 11 0
      go true = refl
      go false = refl
  ack_wait_refusal q k entry (TaskResult.Rx r) = refl

  entered_refusal : (e : Transition) (r : TaskResult) (entry : ℕ)
      → (entered_of (state_at set (Wait.Entering e)) pool r entry e).refusal
      ≡ cond (not (entered_fits e r)) 5 (cond (result_unfit set r) 10 (cond (begins_ack_wait (Wait.Entering e) && not (ltb (entry + 10000) (2 ^ 64))) 11 0))
  unfolding entered_of request_entered rearm_entered ack_turn_entered entered_fits begins_ack_wait leave_of
  entered_refusal (Transition.Request l n) r entry = guard_zero _ _ _ (arrival_accepted _ n) ∙ leave_refusal l r
  entered_refusal (Transition.Rearm q) r entry = guard_zero _ _ _ refl ∙ leave_refusal (Left.Receiving q) r
  entered_refusal (Transition.AckTurn q i) r entry = guard_zero _ _ _ refl ∙ leave_refusal (Left.Receiving q) r
  entered_refusal (Transition.AckWait q k) r entry = ack_wait_refusal q k entry r

  fallback_refusal : (e : Transition) (r : TaskResult) (cause : Cause)
      → (fell_back_of (state_at set (Wait.Entering e)) pool r cause e).refusal ≡ cond (not (fallback_fits e r)) 5 (cond (result_unfit set r) 10 0)
  unfolding fell_back_of request_fell_back fallback_fits
  fallback_refusal (Transition.Request l (Next.Tx q k)) r cause = guard_zero _ _ _ refl ∙ leave_refusal l r
  fallback_refusal (Transition.Request l (Next.Rx q)) r cause = refl
  fallback_refusal (Transition.Request l Next.Off) r cause = refl
  fallback_refusal (Transition.Rearm q) r cause = refl
  fallback_refusal (Transition.AckTurn q i) r cause = refl
  fallback_refusal (Transition.AckWait q k) r cause = refl

  rollback_refusal : (e : Transition) → (rolled_back_of (state_at set (Wait.Entering e)) e).refusal ≡ cond (not (rollback_fits e)) 5 0
  unfolding rolled_back_of request_rolled_back off_rolled_back rollback_fits goes_off
  rollback_refusal (Transition.Request Left.Off n) = refl
  rollback_refusal (Transition.Request (Left.Receiving q) (Next.Tx p k)) = refl
  rollback_refusal (Transition.Request (Left.Receiving q) (Next.Rx p)) = refl
  rollback_refusal (Transition.Request (Left.Receiving q) Next.Off) = refl
  rollback_refusal (Transition.Request (Left.Sending q) n) = refl
  rollback_refusal (Transition.Request Left.SendingAck n) = refl
  rollback_refusal (Transition.Request (Left.ReceivingAck a) n) = refl
  rollback_refusal (Transition.Rearm q) = refl
  rollback_refusal (Transition.AckTurn q i) = refl
  rollback_refusal (Transition.AckWait q k) = refl

  stop_refusal : (p : Stop) (r : StopResult)
      → (stopped_of (state_at set (Wait.Stopping p)) r p).refusal ≡ cond (not (stop_fits p r)) 5 (cond (stop_unfit set r) 10 0)
  unfolding stopped_of frame_stopped outbound_stopped ack_stopped ack_failed stop_fits stop_unfit received_refusal
  stop_refusal (Stop.Frame q) StopResult.FrameStarted = refl
  stop_refusal (Stop.Outbound q) StopResult.FrameStarted = refl
  stop_refusal (Stop.Ack a) StopResult.FrameStarted = refl
  stop_refusal (Stop.AckAgain a) StopResult.FrameStarted = refl
  stop_refusal (Stop.Frame q) (StopResult.RxWindowEnded r) = refl
  stop_refusal (Stop.Outbound q) (StopResult.RxWindowEnded r) = guard_zero _ _ _ refl
  stop_refusal (Stop.Ack a) (StopResult.RxWindowEnded r) = guard_zero _ _ _ refl
  stop_refusal (Stop.AckAgain a) (StopResult.RxWindowEnded r) = guard_zero _ _ _ refl
  stop_refusal (Stop.Frame q) StopResult.Failed = refl
  stop_refusal (Stop.Outbound q) StopResult.Failed = refl
  stop_refusal (Stop.Ack a) StopResult.Failed = refl
  stop_refusal (Stop.AckAgain a) StopResult.Failed = refl

  header_accepted : (q : RxTask) (info : PreliminaryFrameInfo) (len : ℕ) → (header_move_of set q info len).refusal ≡ 0
  unfolding header_move_of receive_move
  header_accepted q info len = ours (for_us set.hardware_addr set.pan_id set.implicit_broadcast info) (number_to_acknowledge info.addressing_fields (requested info.frame_control info.seq_nr))
    where
      ours : (t : Bool) (k : Option ℕ) → (cond t (receive_move set q (ifs_of len) k) (rearm_move set q)).refusal ≡ 0
      ours true (Some k) = refl
      ours true None = refl
      ours false k = refl

  -- what a wait refuses
  wait_refusal : (w : Wait) (c : Call)
      → (wait_move (state_at set w) pool c w).refusal ≡ cond (not (fits c w)) 5 (later_refusal (state_at set w) c)
  unfolding wait_move asking_of request_of taken_of request_refusal entering_of listening_of stopping_of reading_of header_of arrived_refusal fits later_refusal not_allowed_in
  wait_refusal (Wait.Asking a) (Call.Request q) = guard_zero _ _ _ refl
  wait_refusal (Wait.Asking a) Call.None = none_refusal a
  wait_refusal (Wait.Asking a) Call.FrameStart = refl
  wait_refusal (Wait.Asking a) (Call.OutboundSeen start cca) = refl
  wait_refusal (Wait.Asking a) (Call.Stopped r) = refl
  wait_refusal (Wait.Asking a) (Call.Header arrived len) = refl
  wait_refusal (Wait.Asking a) (Call.Entered r entry) = refl
  wait_refusal (Wait.Asking a) (Call.Fallback r cause) = refl
  wait_refusal (Wait.Asking a) Call.Rollback = refl
  wait_refusal (Wait.Entering e) (Call.Request q) = refl
  wait_refusal (Wait.Entering e) Call.None = refl
  wait_refusal (Wait.Entering e) Call.FrameStart = refl
  wait_refusal (Wait.Entering e) (Call.OutboundSeen start cca) = refl
  wait_refusal (Wait.Entering e) (Call.Stopped r) = refl
  wait_refusal (Wait.Entering e) (Call.Header arrived len) = refl
  wait_refusal (Wait.Entering e) (Call.Entered r entry) = entered_refusal e r entry
  wait_refusal (Wait.Entering e) (Call.Fallback r cause) = fallback_refusal e r cause
  wait_refusal (Wait.Entering e) Call.Rollback = rollback_refusal e
  wait_refusal (Wait.Listening p) (Call.Request q) = refl
  wait_refusal (Wait.Listening p) Call.None = refl
  wait_refusal (Wait.Listening p) Call.FrameStart = refl
  wait_refusal (Wait.Listening p) (Call.OutboundSeen start cca) = refl
  wait_refusal (Wait.Listening p) (Call.Stopped r) = refl
  wait_refusal (Wait.Listening p) (Call.Header arrived len) = refl
  wait_refusal (Wait.Listening p) (Call.Entered r entry) = refl
  wait_refusal (Wait.Listening p) (Call.Fallback r cause) = refl
  wait_refusal (Wait.Listening p) Call.Rollback = refl
  wait_refusal (Wait.Stopping p) (Call.Request q) = refl
  wait_refusal (Wait.Stopping p) Call.None = refl
  wait_refusal (Wait.Stopping p) Call.FrameStart = refl
  wait_refusal (Wait.Stopping p) (Call.OutboundSeen start cca) = refl
  wait_refusal (Wait.Stopping p) (Call.Stopped r) = stop_refusal p r
  wait_refusal (Wait.Stopping p) (Call.Header arrived len) = refl
  wait_refusal (Wait.Stopping p) (Call.Entered r entry) = refl
  wait_refusal (Wait.Stopping p) (Call.Fallback r cause) = refl
  wait_refusal (Wait.Stopping p) Call.Rollback = refl
  wait_refusal (Wait.Reading p) (Call.Request q) = refl
  wait_refusal (Wait.Reading p) Call.None = refl
  wait_refusal (Wait.Reading p) Call.FrameStart = refl
  wait_refusal (Wait.Reading p) (Call.OutboundSeen start cca) = refl
  wait_refusal (Wait.Reading p) (Call.Stopped r) = refl
  wait_refusal (Wait.Reading p) (Call.Header arrived len) = guard_zero _ _ _ (header_accepted p _ len)
  wait_refusal (Wait.Reading p) (Call.Entered r entry) = refl
  wait_refusal (Wait.Reading p) (Call.Fallback r cause) = refl
  wait_refusal (Wait.Reading p) Call.Rollback = refl

pub in_order : InOrder
unfolding InOrder step_of move_of settings_refusal refusal_of
in_order s pool c =
    settings_then s _ (pool_unfit s.set (length pool)) (rooms_unfit s.set) (own_buffers_unfit s.set) _
    (wait_refusal s.set pool s.wait c)
