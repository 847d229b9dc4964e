-- The link quality decides nothing (specs/Qualities.antt): told other qualities, every wait makes the same move with other qualities.
-- Assumes nothing.
use Rattle.std.proofs.Common.{Option, Some, None, ℕ}
use Prim.Native.Nat.{ℕ}
use mathlib.Core.Path.{◌≡◌, refl, ap, ◌∙◌}
use mathlib.Core.Bool.{Bool, true, false, cond}
use mathlib.Core.List.{List}
use lib.Dec.{eqb}
use lib.ListN.{length}
use Rattle.radio_frame.specs.RadioFrame.{frame_head}
use Rattle.phy.specs.declared.Ifs.{Ifs}
use Rattle.phy.specs.Phy.{ifs_of, latest_ack_start_of}
use Rattle.ack.specs.Ack.{acknowledges}
use Rattle.header.specs.declared.PreliminaryFrameInfo.{PreliminaryFrameInfo}
use Rattle.filter.specs.Filter.{for_us}
use Rattle.tasks.specs.declared.Answers.{Answers}
use Rattle.tasks.specs.declared.Asked.{Asked}
use Rattle.tasks.specs.declared.AwaitedAck.{AwaitedAck}
use Rattle.tasks.specs.declared.Call.{Call}
use Rattle.tasks.specs.declared.Cause.{Cause}
use Rattle.tasks.specs.declared.Left.{Left}
use Rattle.tasks.specs.declared.Next.{Next}
use Rattle.tasks.specs.declared.Request.{Request}
use Rattle.tasks.specs.declared.Response.{Response}
use Rattle.tasks.specs.declared.RxResult.{RxResult}
use Rattle.tasks.specs.declared.RxTask.{RxTask}
use Rattle.tasks.specs.declared.State.{State}
use Rattle.tasks.specs.declared.Stop.{Stop}
use Rattle.tasks.specs.declared.StopResult.{StopResult}
use Rattle.tasks.specs.declared.TaskResult.{TaskResult}
use Rattle.tasks.specs.declared.Transition.{Transition}
use Rattle.tasks.specs.declared.TxTask.{TxTask}
use Rattle.tasks.specs.declared.Wait.{Wait}
use Rattle.tasks.specs.Answers.{to_tx, answers_of}
use Rattle.moves.specs.Move.{Move}
use Rattle.moves.specs.Move.{refused_of, guarded_of}
use Rattle.results.specs.Results.{Leave}
use Rattle.results.specs.Results.{received_unfit, received_refusal, leave_off, leave_receiving, leave_sending, leave_sending_ack, ack_response, ack_received, leave_receiving_ack, leave_of}
use Rattle.asking.specs.Asking.{previous_task_of, taken_of, request_of, none_of, asking_of}
use Rattle.entered.specs.Entered.{sending_move, arrival_of, request_entered, rearm_entered, ack_turn_entered, ack_wait_started, ack_wait_entered, entered_of}
use Rattle.entering.specs.Entering.{then_error, request_fell_back, fell_back_of, off_rolled_back, request_rolled_back, rolled_back_of, entering_of}
use Rattle.listening.specs.Listening.{listening_of}
use Rattle.stopping.specs.Stopping.{frame_stopped, outbound_stopped, ack_failed, ack_stopped, stopped_of, stopping_of}
use Rattle.reading.specs.Reading.{requested, number_to_acknowledge, rearm_move, receive_move, header_move_of, header_of, reading_of}
use Rattle.engine.specs.Step.{wait_move, move_of, outcome_of, written_by, step_of, step_pool}
use Rattle.engine.specs.Qualities.{rx_with, task_with, stop_with, call_with, answer_with, answers_with_of, QualityDecidesNothing}
use Rattle.tasks.specs.declared.Answer.{Answer}

module _ (f : ℕ → ℕ) where
  abbrev move_with : Move → Move
  move_with m =
      record {
        refusal = m.refusal;
        state = m.state;
        reply = record { action = m.reply.action; answers = answers_with_of f m.reply.answers };
        number = m.number;
      }

  abbrev owed_with : Option Answer → Option Answer
  owed_with None = None
  owed_with (Some x) = Some (answer_with f x)

  abbrev leave_with : Leave → Leave
  leave_with x = record { refusal = x.refusal; owed = owed_with x.owed }

  guarded : (s : State) (k : ℕ) (m m' : Move) → m' ≡ move_with m → guarded_of s k m' ≡ move_with (guarded_of s k m)
  unfolding guarded_of
  guarded s k m m' e = go (eqb k 0)
    where
      go : (t : Bool) → cond t m' (refused_of s k) ≡ move_with (cond t m (refused_of s k))
      go true = e
      go false = refl

  -- ---- What leaving a task owes

  refusal_with : (s : State) (r : RxResult) → received_refusal s.set (rx_with f r) ≡ received_refusal s.set r
  unfolding received_refusal received_unfit
  refusal_with s (RxResult.Frame n t k) = refl
  refusal_with s RxResult.RxWindowEnded = refl
  refusal_with s (RxResult.CrcError t k) = refl

  module _ (s : State) (pool : List ℕ) where
    ack_with : (a : AwaitedAck) (n : ℕ)
        → to_tx a.task (ack_response s.set pool a n) ≡ answer_with f (to_tx a.task (ack_response s.set pool a n))
    unfolding ack_response
    ack_with a n = go (acknowledges (frame_head s.set pool s.set.spare_buffer) n a.number)
      where
        go : (t : Bool)
            → to_tx a.task (cond t (Response.Sent a.time) (Response.Nack a.time))
            ≡ answer_with f (to_tx a.task (cond t (Response.Sent a.time) (Response.Nack a.time)))
        go true = refl
        go false = refl

    leave_with_lem : (l : Left) (r : TaskResult) → leave_of s.set pool (task_with f r) l ≡ leave_with (leave_of s.set pool r l)
    unfolding leave_of leave_off leave_receiving leave_sending leave_sending_ack leave_receiving_ack ack_received received_refusal received_unfit
    leave_with_lem Left.Off TaskResult.Off = refl
    leave_with_lem Left.Off (TaskResult.Sent t) = refl
    leave_with_lem Left.Off (TaskResult.Rx r) = refl
    leave_with_lem (Left.Receiving q) TaskResult.Off = refl
    leave_with_lem (Left.Receiving q) (TaskResult.Sent t) = refl
    leave_with_lem (Left.Receiving q) (TaskResult.Rx (RxResult.Frame n t k)) = refl
    leave_with_lem (Left.Receiving q) (TaskResult.Rx RxResult.RxWindowEnded) = refl
    leave_with_lem (Left.Receiving q) (TaskResult.Rx (RxResult.CrcError t k)) = refl
    leave_with_lem (Left.Sending q) TaskResult.Off = refl
    leave_with_lem (Left.Sending q) (TaskResult.Sent t) = refl
    leave_with_lem (Left.Sending q) (TaskResult.Rx r) = refl
    leave_with_lem Left.SendingAck TaskResult.Off = refl
    leave_with_lem Left.SendingAck (TaskResult.Sent t) = refl
    leave_with_lem Left.SendingAck (TaskResult.Rx r) = refl
    leave_with_lem (Left.ReceivingAck a) TaskResult.Off = refl
    leave_with_lem (Left.ReceivingAck a) (TaskResult.Sent t) = refl
    leave_with_lem (Left.ReceivingAck a) (TaskResult.Rx (RxResult.Frame n t k)) =
        ap (λ x. record { refusal = received_refusal s.set (RxResult.Frame n t k); owed = Some x }) (ack_with a n)
    leave_with_lem (Left.ReceivingAck a) (TaskResult.Rx RxResult.RxWindowEnded) = refl
    leave_with_lem (Left.ReceivingAck a) (TaskResult.Rx (RxResult.CrcError t k)) = refl

    answers_with : (o : Option Answer) → answers_of (owed_with o) ≡ answers_with_of f (answers_of o)
    unfolding answers_of
    answers_with None = refl
    answers_with (Some x) = refl

    -- ---- Entered, Fallback, Rollback

    arrival_with : (x : Answers) (n : Next) → arrival_of s.set (answers_with_of f x) n ≡ move_with (arrival_of s.set x n)
    unfolding arrival_of sending_move
    arrival_with x (Next.Tx q (Some k)) = refl
    arrival_with x (Next.Tx q None) = refl
    arrival_with x (Next.Rx q) = refl
    arrival_with x Next.Off = refl

    request_entered_lem : (l : Left) (n : Next) (r : TaskResult) → request_entered s pool l n (task_with f r) ≡ move_with (request_entered s pool l n r)
    unfolding request_entered
    request_entered_lem l n r =
        let x = leave_of s.set pool r l in
        rw (leave_with_lem l r) (guarded s x.refusal _ _ (ap (λ (a : Answers). arrival_of s.set a n) (answers_with x.owed) ∙ arrival_with (answers_of x.owed) n))

    rearm_entered_lem : (q : RxTask) (r : TaskResult) → rearm_entered s q (task_with f r) ≡ move_with (rearm_entered s q r)
    unfolding rearm_entered leave_of
    rearm_entered_lem q r = rw (leave_with_lem (Left.Receiving q) r) (guarded s (leave_receiving s.set q r).refusal _ _ refl)

    ack_turn_entered_lem : (q : RxTask) (i : Ifs) (r : TaskResult) → ack_turn_entered s q i (task_with f r) ≡ move_with (ack_turn_entered s q i r)
    unfolding ack_turn_entered leave_of
    ack_turn_entered_lem q i r =
        let x = leave_receiving s.set q r in
        rw (leave_with_lem (Left.Receiving q) r, answers_with x.owed) (guarded s x.refusal _ _ refl)

    ack_wait_entered_lem : (q : TxTask) (k entry : ℕ) (r : TaskResult) → ack_wait_entered s q k entry (task_with f r) ≡ move_with (ack_wait_entered s q k entry r)
    unfolding ack_wait_entered ack_wait_started
    ack_wait_entered_lem q k entry TaskResult.Off = refl
    ack_wait_entered_lem q k entry (TaskResult.Sent t) = go (latest_ack_start_of entry)
      where
        go : (x : Option ℕ)
            → ack_wait_started s (record { task = q; number = k; time = t }) x ≡ move_with (ack_wait_started s (record { task = q; number = k; time = t }) x)
        go (Some u) = refl
        go None = refl
    ack_wait_entered_lem q k entry (TaskResult.Rx r) = refl

    error_with : (q : TxTask) (cause : Cause) (o : Option Answer) → then_error q cause (owed_with o) ≡ answers_with_of f (then_error q cause o)
    unfolding then_error
    error_with q cause None = refl
    error_with q cause (Some x) = refl

    fell_back : (l : Left) (r : TaskResult) (cause : Cause) (n : Next)
        → request_fell_back s pool l (task_with f r) cause n ≡ move_with (request_fell_back s pool l r cause n)
    unfolding request_fell_back
    fell_back l r cause (Next.Tx q k) =
        let x = leave_of s.set pool r l in
        rw (leave_with_lem l r, error_with q cause x.owed) (guarded s x.refusal _ _ refl)
    fell_back l r cause (Next.Rx q) = refl
    fell_back l r cause Next.Off = refl

    rolled_back : (e : Transition) → rolled_back_of s e ≡ move_with (rolled_back_of s e)
    unfolding rolled_back_of request_rolled_back off_rolled_back
    rolled_back (Transition.Request Left.Off n) = refl
    rolled_back (Transition.Request (Left.Receiving q) (Next.Tx p k)) = refl
    rolled_back (Transition.Request (Left.Receiving q) (Next.Rx p)) = refl
    rolled_back (Transition.Request (Left.Receiving q) Next.Off) = refl
    rolled_back (Transition.Request (Left.Sending q) n) = refl
    rolled_back (Transition.Request Left.SendingAck n) = refl
    rolled_back (Transition.Request (Left.ReceivingAck a) n) = refl
    rolled_back (Transition.Rearm q) = refl
    rolled_back (Transition.AckTurn q i) = refl
    rolled_back (Transition.AckWait q k) = refl

    -- ---- The waits

    asked_with : (a : Asked) (q : Request) → request_of s pool a q ≡ move_with (request_of s pool a q)
    unfolding request_of taken_of previous_task_of answers_of
    asked_with Asked.Idle q = guarded s _ _ _ refl
    asked_with (Asked.AfterWindow p) q = guarded s _ _ _ refl
    asked_with (Asked.AfterAckWindow p t) q = guarded s _ _ _ refl
    asked_with (Asked.Receiving p i) q = guarded s _ _ _ refl
    asked_with (Asked.Sending p) q = guarded s _ _ _ refl
    asked_with (Asked.SendingAck i) q = guarded s _ _ _ refl
    asked_with (Asked.ReceivingAck a) q = guarded s _ _ _ refl

    none_with : (a : Asked) → none_of s a ≡ move_with (none_of s a)
    unfolding none_of
    none_with Asked.Idle = refl
    none_with (Asked.AfterWindow q) = refl
    none_with (Asked.AfterAckWindow q t) = refl
    none_with (Asked.Receiving q i) = refl
    none_with (Asked.Sending q) = refl
    none_with (Asked.SendingAck i) = refl
    none_with (Asked.ReceivingAck a) = refl

    entered_with : (r : TaskResult) (entry : ℕ) (e : Transition) → entered_of s pool (task_with f r) entry e ≡ move_with (entered_of s pool r entry e)
    unfolding entered_of
    entered_with r entry (Transition.Request l n) = request_entered_lem l n r
    entered_with r entry (Transition.Rearm q) = rearm_entered_lem q r
    entered_with r entry (Transition.AckTurn q i) = ack_turn_entered_lem q i r
    entered_with r entry (Transition.AckWait q k) = ack_wait_entered_lem q k entry r

    fell_back_with : (r : TaskResult) (cause : Cause) (e : Transition) → fell_back_of s pool (task_with f r) cause e ≡ move_with (fell_back_of s pool r cause e)
    unfolding fell_back_of
    fell_back_with r cause (Transition.Request l n) = fell_back l r cause n
    fell_back_with r cause (Transition.Rearm q) = refl
    fell_back_with r cause (Transition.AckTurn q i) = refl
    fell_back_with r cause (Transition.AckWait q k) = refl

    stopped_with : (x : StopResult) (p : Stop) → stopped_of s (stop_with f x) p ≡ move_with (stopped_of s x p)
    unfolding stopped_of frame_stopped outbound_stopped ack_stopped ack_failed
    stopped_with StopResult.FrameStarted (Stop.Frame q) = refl
    stopped_with StopResult.FrameStarted (Stop.Outbound q) = refl
    stopped_with StopResult.FrameStarted (Stop.Ack a) = refl
    stopped_with StopResult.FrameStarted (Stop.AckAgain a) = refl
    stopped_with (StopResult.RxWindowEnded r) (Stop.Frame q) = refl
    stopped_with (StopResult.RxWindowEnded r) (Stop.Outbound q) = rw (refusal_with s r) (guarded s (received_refusal s.set r) _ _ refl)
    stopped_with (StopResult.RxWindowEnded r) (Stop.Ack a) = rw (refusal_with s r) (guarded s (received_refusal s.set r) _ _ refl)
    stopped_with (StopResult.RxWindowEnded r) (Stop.AckAgain a) = rw (refusal_with s r) (guarded s (received_refusal s.set r) _ _ refl)
    stopped_with StopResult.Failed (Stop.Frame q) = refl
    stopped_with StopResult.Failed (Stop.Outbound q) = refl
    stopped_with StopResult.Failed (Stop.Ack a) = refl
    stopped_with StopResult.Failed (Stop.AckAgain a) = refl

    header_move_lem : (q : RxTask) (info : PreliminaryFrameInfo) (length : ℕ) → header_move_of s.set q info length ≡ move_with (header_move_of s.set q info length)
    unfolding header_move_of receive_move
    header_move_lem q info length =
        go (for_us s.set.hardware_addr s.set.pan_id s.set.implicit_broadcast info)
        (number_to_acknowledge info.addressing_fields (requested info.frame_control info.seq_nr))
      where
        go : (t : Bool) (k : Option ℕ)
            → cond t (receive_move s.set q (ifs_of length) k) (rearm_move s.set q)
            ≡ move_with (cond t (receive_move s.set q (ifs_of length) k) (rearm_move s.set q))
        go true (Some k) = refl
        go true None = refl
        go false k = refl

    header_with : (q : RxTask) (arrived length : ℕ) → header_of s pool q arrived length ≡ move_with (header_of s pool q arrived length)
    unfolding header_of
    header_with q arrived length = guarded s _ _ _ (header_move_lem q _ length)

    wait_with : (w : Wait) (c : Call) → wait_move s pool (call_with f c) w ≡ move_with (wait_move s pool c w)
    unfolding wait_move asking_of entering_of listening_of stopping_of reading_of
    wait_with (Wait.Asking a) (Call.Request q) = asked_with a q
    wait_with (Wait.Asking a) Call.None = none_with a
    wait_with (Wait.Asking a) Call.FrameStart = refl
    wait_with (Wait.Asking a) (Call.OutboundSeen start cca) = refl
    wait_with (Wait.Asking a) (Call.Stopped x) = refl
    wait_with (Wait.Asking a) (Call.Header arrived length) = refl
    wait_with (Wait.Asking a) (Call.Entered r entry) = refl
    wait_with (Wait.Asking a) (Call.Fallback r cause) = refl
    wait_with (Wait.Asking a) Call.Rollback = refl
    wait_with (Wait.Entering e) (Call.Request q) = refl
    wait_with (Wait.Entering e) Call.None = refl
    wait_with (Wait.Entering e) Call.FrameStart = refl
    wait_with (Wait.Entering e) (Call.OutboundSeen start cca) = refl
    wait_with (Wait.Entering e) (Call.Stopped x) = refl
    wait_with (Wait.Entering e) (Call.Header arrived length) = refl
    wait_with (Wait.Entering e) (Call.Entered r entry) = entered_with r entry e
    wait_with (Wait.Entering e) (Call.Fallback r cause) = fell_back_with r cause e
    wait_with (Wait.Entering e) Call.Rollback = rolled_back e
    wait_with (Wait.Listening p) (Call.Request q) = refl
    wait_with (Wait.Listening p) Call.None = refl
    wait_with (Wait.Listening p) Call.FrameStart = refl
    wait_with (Wait.Listening p) (Call.OutboundSeen start cca) = refl
    wait_with (Wait.Listening p) (Call.Stopped x) = refl
    wait_with (Wait.Listening p) (Call.Header arrived length) = refl
    wait_with (Wait.Listening p) (Call.Entered r entry) = refl
    wait_with (Wait.Listening p) (Call.Fallback r cause) = refl
    wait_with (Wait.Listening p) Call.Rollback = refl
    wait_with (Wait.Stopping p) (Call.Request q) = refl
    wait_with (Wait.Stopping p) Call.None = refl
    wait_with (Wait.Stopping p) Call.FrameStart = refl
    wait_with (Wait.Stopping p) (Call.OutboundSeen start cca) = refl
    wait_with (Wait.Stopping p) (Call.Stopped x) = stopped_with x p
    wait_with (Wait.Stopping p) (Call.Header arrived length) = refl
    wait_with (Wait.Stopping p) (Call.Entered r entry) = refl
    wait_with (Wait.Stopping p) (Call.Fallback r cause) = refl
    wait_with (Wait.Stopping p) Call.Rollback = refl
    wait_with (Wait.Reading p) (Call.Request q) = refl
    wait_with (Wait.Reading p) Call.None = refl
    wait_with (Wait.Reading p) Call.FrameStart = refl
    wait_with (Wait.Reading p) (Call.OutboundSeen start cca) = refl
    wait_with (Wait.Reading p) (Call.Stopped x) = refl
    wait_with (Wait.Reading p) (Call.Header arrived length) = header_with p arrived length
    wait_with (Wait.Reading p) (Call.Entered r entry) = refl
    wait_with (Wait.Reading p) (Call.Fallback r cause) = refl
    wait_with (Wait.Reading p) Call.Rollback = refl

    move_with_lem : (c : Call) → move_of s pool (call_with f c) ≡ move_with (move_of s pool c)
    unfolding move_of
    move_with_lem c = guarded s _ _ _ (wait_with s.wait c)

pub quality_decides_nothing : QualityDecidesNothing
unfolding QualityDecidesNothing step_of step_pool
quality_decides_nothing f s pool c =
    (ap outcome_of (move_with_lem f s pool c), ap (λ (m : Move). written_by s.set pool m.number) (move_with_lem f s pool c))
