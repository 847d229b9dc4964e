-- An ACK turn is begun exactly where an ACK is due (specs/AckTurns.antt).
-- Assumes nothing.
use Rattle.std.proofs.lemmas.Bool.{or_parts, true≢false}
use Rattle.std.proofs.Common.{Option, Some, None, ℕ}
use Prim.Native.Nat.{ℕ}
use mathlib.Core.Path.{◌≡◌, refl, sym, ◌∙◌, ap}
use mathlib.Core.Logic.{inl, inr}
use mathlib.Core.Bool.{Bool, true, false, cond, ◌||◌, and-false}
use mathlib.Core.List.{List}
use lib.Dec.{eqb, leb}
use native.Mathlib.Omega.{arith}
use borrow.Author.Tests.{eqb-true, eqb-false, eq-eqb, ne_eqb}
use Rattle.radio_frame.specs.declared.Settings.{Settings}
use Rattle.phy.specs.Phy.{ifs_of, latest_ack_start_of}
use Rattle.frame_control.specs.declared.FrameControl.{FrameControl}
use Rattle.header.specs.declared.AddressingFields.{AddressingFields}
use Rattle.header.specs.declared.PreliminaryFrameInfo.{PreliminaryFrameInfo}
use Rattle.filter.specs.Filter.{control_passes, addressing_for_us, for_us}
use Rattle.tasks.specs.declared.Action.{Action}
use Rattle.tasks.specs.declared.Answers.{Answers}
use Rattle.tasks.specs.declared.Asked.{Asked}
use Rattle.tasks.specs.declared.AwaitedAck.{AwaitedAck}
use Rattle.tasks.specs.declared.Call.{Call}
use Rattle.tasks.specs.declared.Cause.{Cause}
use Rattle.tasks.specs.declared.Left.{Left}
use Rattle.tasks.specs.declared.Next.{Next}
use Rattle.tasks.specs.declared.Reply.{Reply}
use Rattle.tasks.specs.declared.Request.{Request}
use Rattle.tasks.specs.declared.RxTask.{RxTask}
use Rattle.tasks.specs.declared.State.{State}
use Rattle.tasks.specs.declared.Stop.{Stop}
use Rattle.tasks.specs.declared.StopResult.{StopResult}
use Rattle.tasks.specs.declared.Task.{Task}
use Rattle.tasks.specs.declared.TaskResult.{TaskResult}
use Rattle.tasks.specs.declared.Transition.{Transition}
use Rattle.tasks.specs.declared.Wait.{Wait}
use Rattle.moves.specs.Move.{Move}
use Rattle.moves.specs.Move.{unfit, refused_of, accepted_of, guarded_of}
use Rattle.requests.specs.Requests.{token_held, buffer_held, request_refusal}
use Rattle.requests.proofs.Laws.{buffer_held_exactly}
use Rattle.asking.specs.Asking.{previous_task_of, request_action, taken_of, request_of, none_of, asking_of}
use Rattle.entered.specs.Entered.{sending_move, arrival_of, request_entered, rearm_entered, ack_turn_entered, ack_wait_started, ack_wait_entered, entered_of}
use Rattle.entering.specs.Entering.{request_fell_back, fell_back_of, off_rolled_back, request_rolled_back, rolled_back_of, entering_of}
use Rattle.listening.specs.Listening.{listening_of}
use Rattle.stopping.specs.Stopping.{frame_stopped, outbound_stopped, ack_failed, ack_stopped, stopped_of, stopping_of}
use Rattle.reading.specs.Reading.{broadcast_destination, broadcast, requested, number_to_acknowledge, rearm_move, ack_turn_move, receive_move, header_move_of, header_of, reading_of}
use Rattle.reading.proofs.Laws.{destination_broadcast, others_acknowledged}
use Rattle.engine.specs.Step.{wait_move, move_of, outcome_of, written_by, step_of, step_pool}
use Rattle.engine.specs.Refusals.{RefusedUnchanged}
use Rattle.engine.specs.AckTurns.{arrived_info, AckDue, NoAck, AckTurns, EveryAckTurnIsDue}
use Rattle.engine.proofs.Table.{passed}
use Rattle.engine.proofs.Refusals.{refused_unchanged}

-- ---- Where an ACK is due, and the call is accepted, it is turned to

-- a guarded move that is accepted is the move
guard_open : (s : State) (k : ℕ) (m : Move) → (guarded_of s k m).refusal ≡ 0 → guarded_of s k m ≡ m
unfolding guarded_of
guard_open s k m = go (eqb k 0) refl
  where
    go : (t : Bool) → eqb k 0 ≡ t → (cond (eqb k 0) m (refused_of s k)).refusal ≡ 0 → cond (eqb k 0) m (refused_of s k) ≡ m
    go true e z = rw e refl
    go false e z = absurd (eqb-false k 0 e (rw e at z))

reached : (s : State) (pool : List ℕ) (w : Wait) (c : Call) (q : RxTask) (arrived length : ℕ) → (wait_move s pool c w).refusal ≡ 0
    → w ≡ Wait.Reading q → c ≡ Call.Header arrived length
    → wait_move s pool c w ≡ header_move_of s.set q (arrived_info s.set pool q arrived) length
unfolding wait_move reading_of header_of
reached s pool w c q arrived length z e₀ e₁ = rw (e₀, e₁) (guard_open s _ _ (rw (e₀, e₁) at z))

turned : (s : State) (pool : List ℕ) (c : Call) (q : RxTask) (arrived length k : ℕ) → AckDue s pool c q arrived length k
    → (move_of s pool c).refusal ≡ 0 → move_of s pool c ≡ ack_turn_move s.set q (ifs_of length) k
unfolding move_of
turned s pool c q arrived length k D ok = guard_open s _ _ ok ∙ here (ap (λ (m : Move). m.refusal) (sym (guard_open s _ _ ok)) ∙ ok)
  where
    headed : header_move_of s.set q (arrived_info s.set pool q arrived) length ≡ ack_turn_move s.set q (ifs_of length) k
    headed = others_acknowledged s.set q (arrived_info s.set pool q arrived) length D.addressing D.control k
        D.is_addressing D.not_broadcast D.not_absent D.is_for_us D.is_control D.requests D.number

    here : (wait_move s pool c s.wait).refusal ≡ 0 → wait_move s pool c s.wait ≡ ack_turn_move s.set q (ifs_of length) k
    here z = reached s pool s.wait c q arrived length z D.reading D.header ∙ headed

-- ---- Moves that are no ACK turn

-- whether a wait is for the ACK turn
abbrev pub turning : Wait → Bool
turning (Wait.Asking a) = false
turning (Wait.Entering (Transition.Request l n)) = false
turning (Wait.Entering (Transition.Rearm q)) = false
turning (Wait.Entering (Transition.AckTurn q i)) = true
turning (Wait.Entering (Transition.AckWait q k)) = false
turning (Wait.Listening q) = false
turning (Wait.Stopping p) = false
turning (Wait.Reading q) = false

-- whether an action sends from a buffer
abbrev pub sends : ℕ → Action → Bool
sends b Action.Nothing = false
sends b Action.ReceiveRequest = false
sends b (Action.TryReceiveRequest d) = false
sends b Action.Listen = false
sends b (Action.Stop how) = false
sends b Action.ReadHeader = false
sends b (Action.Tx buffer n cca start ifs rollback) = eqb b buffer
sends b (Action.Rx buffer start ifs rollback) = false
sends b (Action.Off rollback) = false

-- no ACK turn, where b is the ACK buffer
pub record QuietIn (b : ℕ) (m : Move) : Type 0 where
  pub number : m.number ≡ None
  pub wait : m.refusal ≡ 0 → turning m.state.wait ≡ false
  pub action : sends b m.reply.action ≡ false

module _ (s : State) (pool : List ℕ) where
  abbrev pub Quiet : Move → Type 0
  Quiet m = QuietIn s.set.ack_buffer m

  quiet : (set : Settings) (w : Wait) (action : Action) (x : Answers) → turning w ≡ false → sends s.set.ack_buffer action ≡ false
      → Quiet (accepted_of set w action x)
  quiet set w action x e f = record { number = refl; wait = λ z. e; action = f }

  refused_quiet : (k : ℕ) → (k ≡ 0 → ⊥) → Quiet (refused_of s k)
  refused_quiet k h = record { number = refl; wait = λ z. absurd (h z); action = refl }

  unfit_quiet : Quiet (unfit s)
  unfit_quiet = refused_quiet 5 (λ z. omega arith)

  guard_quiet : (k : ℕ) (m : Move) → (k ≡ 0 → Quiet m) → Quiet (guarded_of s k m)
  unfolding guarded_of
  guard_quiet k m Q = go (eqb k 0) refl
    where
      go : (t : Bool) → eqb k 0 ≡ t → Quiet (cond (eqb k 0) m (refused_of s k))
      go true e = rw e (Q (eqb-true k 0 e))
      go false e = rw e (refused_quiet k (eqb-false k 0 e))

  -- refusals 6 to 9 are passed, so the buffer is not held
  free : (a : Asked) (q : Request) → request_refusal s a q ≡ 0 → buffer_held s q.buffer ≡ false
  unfolding request_refusal
  free a q h =
      let t = passed (token_held s.wait q.token) 6 _ (omega arith) h in
      (or_parts (leb s.set.count q.buffer) _
      (passed (leb s.set.count q.buffer || buffer_held s q.buffer) 7 _ (omega arith) t.1).0).1

  -- a request whose buffer is not held has another buffer
  pub taken_quiet : (a : Asked) (q : Request) → buffer_held s q.buffer ≡ false → Quiet (taken_of s.set pool a q)
  unfolding taken_of request_action
  taken_quiet a q f = quiet _ _ _ _ refl (go q.task f)
    where
      go : (task : Task) → buffer_held s q.buffer ≡ false
          → sends s.set.ack_buffer (request_action q (previous_task_of s.set a).spacing task) ≡ false
      go (Task.Tx n cca) h = ne_eqb s.set.ack_buffer q.buffer (λ e. true≢false (sym ((buffer_held_exactly s q.buffer).1 (inl (inl e))) ∙ h))
      go Task.Rx h = refl

  request_quiet : (a : Asked) (q : Request) → Quiet (request_of s pool a q)
  unfolding request_of taken_of
  request_quiet a q = guard_quiet _ _ (λ ok. taken_quiet a q (free a q ok))

  none_quiet : (a : Asked) → Quiet (none_of s a)
  unfolding none_of
  none_quiet Asked.Idle = unfit_quiet
  none_quiet (Asked.AfterWindow q) = unfit_quiet
  none_quiet (Asked.AfterAckWindow q t) = quiet _ _ _ _ refl refl
  none_quiet (Asked.Receiving q i) = quiet _ _ _ _ refl refl
  none_quiet (Asked.Sending q) = quiet _ _ _ _ refl refl
  none_quiet (Asked.SendingAck i) = quiet _ _ _ _ refl refl
  none_quiet (Asked.ReceivingAck a) = quiet _ _ _ _ refl refl

  arrival_quiet : (x : Answers) (n : Next) → Quiet (arrival_of s.set x n)
  unfolding arrival_of sending_move
  arrival_quiet x (Next.Tx q (Some k)) = quiet _ _ _ _ refl refl
  arrival_quiet x (Next.Tx q None) = quiet _ _ _ _ refl refl
  arrival_quiet x (Next.Rx q) = quiet _ _ _ _ refl refl
  arrival_quiet x Next.Off = quiet _ _ _ _ refl refl

  started_quiet : (a : AwaitedAck) (l : Option ℕ) → Quiet (ack_wait_started s a l)
  unfolding ack_wait_started
  started_quiet a (Some t) = quiet _ _ _ _ refl refl
  started_quiet a None = refused_quiet 11 (λ z. omega arith)

  entered_quiet : (e : Transition) (r : TaskResult) (entry : ℕ) → Quiet (entered_of s pool r entry e)
  unfolding entered_of request_entered rearm_entered ack_turn_entered ack_wait_entered
  entered_quiet (Transition.Request l n) r entry = guard_quiet _ _ (λ ok. arrival_quiet _ n)
  entered_quiet (Transition.Rearm q) r entry = guard_quiet _ _ (λ ok. quiet _ _ _ _ refl refl)
  entered_quiet (Transition.AckTurn q i) r entry = guard_quiet _ _ (λ ok. quiet _ _ _ _ refl refl)
  entered_quiet (Transition.AckWait q k) TaskResult.Off entry = unfit_quiet
  entered_quiet (Transition.AckWait q k) (TaskResult.Sent t) entry = started_quiet _ (latest_ack_start_of entry)
  entered_quiet (Transition.AckWait q k) (TaskResult.Rx r) entry = unfit_quiet

  fallback_quiet : (e : Transition) (r : TaskResult) (cause : Cause) → Quiet (fell_back_of s pool r cause e)
  unfolding fell_back_of request_fell_back
  fallback_quiet (Transition.Request l (Next.Tx q k)) r cause = guard_quiet _ _ (λ ok. quiet _ _ _ _ refl refl)
  fallback_quiet (Transition.Request l (Next.Rx q)) r cause = unfit_quiet
  fallback_quiet (Transition.Request l Next.Off) r cause = unfit_quiet
  fallback_quiet (Transition.Rearm q) r cause = unfit_quiet
  fallback_quiet (Transition.AckTurn q i) r cause = unfit_quiet
  fallback_quiet (Transition.AckWait q k) r cause = unfit_quiet

  rollback_quiet : (e : Transition) → Quiet (rolled_back_of s e)
  unfolding rolled_back_of request_rolled_back off_rolled_back
  rollback_quiet (Transition.Request Left.Off n) = unfit_quiet
  rollback_quiet (Transition.Request (Left.Receiving q) (Next.Tx p k)) = unfit_quiet
  rollback_quiet (Transition.Request (Left.Receiving q) (Next.Rx p)) = unfit_quiet
  rollback_quiet (Transition.Request (Left.Receiving q) Next.Off) = quiet _ _ _ _ refl refl
  rollback_quiet (Transition.Request (Left.Sending q) n) = unfit_quiet
  rollback_quiet (Transition.Request Left.SendingAck n) = unfit_quiet
  rollback_quiet (Transition.Request (Left.ReceivingAck a) n) = unfit_quiet
  rollback_quiet (Transition.Rearm q) = unfit_quiet
  rollback_quiet (Transition.AckTurn q i) = quiet _ _ _ _ refl refl
  rollback_quiet (Transition.AckWait q k) = unfit_quiet

  stopped_quiet : (p : Stop) (r : StopResult) → Quiet (stopped_of s r p)
  unfolding stopped_of frame_stopped outbound_stopped ack_stopped ack_failed
  stopped_quiet (Stop.Frame q) StopResult.FrameStarted = quiet _ _ _ _ refl refl
  stopped_quiet (Stop.Frame q) (StopResult.RxWindowEnded r) = unfit_quiet
  stopped_quiet (Stop.Frame q) StopResult.Failed = unfit_quiet
  stopped_quiet (Stop.Outbound q) StopResult.FrameStarted = quiet _ _ _ _ refl refl
  stopped_quiet (Stop.Outbound q) (StopResult.RxWindowEnded r) = guard_quiet _ _ (λ ok. quiet _ _ _ _ refl refl)
  stopped_quiet (Stop.Outbound q) StopResult.Failed = quiet _ _ _ _ refl refl
  stopped_quiet (Stop.Ack a) StopResult.FrameStarted = quiet _ _ _ _ refl refl
  stopped_quiet (Stop.Ack a) (StopResult.RxWindowEnded r) = guard_quiet _ _ (λ ok. quiet _ _ _ _ refl refl)
  stopped_quiet (Stop.Ack a) StopResult.Failed = quiet _ _ _ _ refl refl
  stopped_quiet (Stop.AckAgain a) StopResult.FrameStarted = quiet _ _ _ _ refl refl
  stopped_quiet (Stop.AckAgain a) (StopResult.RxWindowEnded r) = guard_quiet _ _ (λ ok. quiet _ _ _ _ refl refl)
  stopped_quiet (Stop.AckAgain a) StopResult.Failed = unfit_quiet

  -- ---- The header: where no ACK is due, none is turned to
  module _ (q : RxTask) (arrived length : ℕ) (here : s.wait ≡ Wait.Reading q)
      (none_due : (k : ℕ) → AckDue s pool (Call.Header arrived length) q arrived length k → ⊥) where
    abbrev info : PreliminaryFrameInfo
    info = arrived_info s.set pool q arrived

    abbrev ours : Bool
    ours = for_us s.set.hardware_addr s.set.pan_id s.set.implicit_broadcast info

    missing_foreign : info.addressing_fields ≡ None → ours ≡ false
    unfolding for_us addressing_for_us
    missing_foreign e = rw e (and-false (control_passes info.frame_control))

    module _ (is_for_us : ours ≡ true) where
      no_bit : (fc : FrameControl) (k : ℕ) (f : AddressingFields) → info.frame_control ≡ Some fc
          → info.seq_nr ≡ Some k → info.addressing_fields ≡ Some f → broadcast_destination f.dst_address ≡ false
          → (t : Bool) → fc.ack_request ≡ t → cond fc.ack_request (Some k) None ≡ None
      no_bit fc k f control number addressing other false e = rw e refl
      no_bit fc k f control number addressing other true e =
          absurd (none_due k
          (record {
            reading = here;
            header = refl;
            is_for_us = is_for_us;
            control = fc;
            is_control = control;
            requests = e;
            number = number;
            addressing = f;
            is_addressing = addressing;
            not_broadcast = λ d. true≢false (sym (destination_broadcast f.dst_address (inl d)) ∙ other);
            not_absent = λ d. true≢false (sym (destination_broadcast f.dst_address (inr d)) ∙ other);
          }))

      not_wanted : (f : AddressingFields) → info.addressing_fields ≡ Some f → broadcast_destination f.dst_address ≡ false
          → (control : Option FrameControl) (number : Option ℕ) → info.frame_control ≡ control → info.seq_nr ≡ number
          → requested control number ≡ None
      unfolding requested
      not_wanted f addressing other (Some fc) (Some k) e₀ e₁ = no_bit fc k f e₀ e₁ addressing other fc.ack_request refl
      not_wanted f addressing other (Some fc) None e₀ e₁ = refl
      not_wanted f addressing other None number e₀ e₁ = refl

      no_number : (addressing : Option AddressingFields) → info.addressing_fields ≡ addressing
          → number_to_acknowledge addressing (requested info.frame_control info.seq_nr) ≡ None
      unfolding number_to_acknowledge broadcast
      no_number None e = absurd (true≢false (sym is_for_us ∙ missing_foreign e))
      no_number (Some f) e = go (broadcast_destination f.dst_address) refl
        where
          go : (t : Bool) → broadcast_destination f.dst_address ≡ t
              → cond (broadcast_destination f.dst_address) None (requested info.frame_control info.seq_nr) ≡ None
          go true d = rw d refl
          go false d = rw d (not_wanted f e d info.frame_control info.seq_nr refl refl)

    header_quiet : Quiet (header_move_of s.set q info length)
    unfolding header_move_of receive_move
    header_quiet = go ours refl
      where
        go : (t : Bool) → ours ≡ t
            → Quiet (cond ours (receive_move s.set q (ifs_of length) (number_to_acknowledge info.addressing_fields (requested info.frame_control info.seq_nr))) (rearm_move s.set q))
        go true e = rw (e, no_number e info.addressing_fields refl) (quiet _ _ _ _ refl refl)
        go false e = rw e (quiet _ _ _ _ refl refl)

  -- ---- A call in each kind of wait
  asking_quiet : (a : Asked) (c : Call) → Quiet (asking_of s pool a c)
  unfolding asking_of
  asking_quiet a (Call.Request q) = request_quiet a q
  asking_quiet a Call.None = none_quiet a
  asking_quiet a Call.FrameStart = unfit_quiet
  asking_quiet a (Call.OutboundSeen start cca) = unfit_quiet
  asking_quiet a (Call.Stopped r) = unfit_quiet
  asking_quiet a (Call.Header arrived length) = unfit_quiet
  asking_quiet a (Call.Entered r entry) = unfit_quiet
  asking_quiet a (Call.Fallback r cause) = unfit_quiet
  asking_quiet a Call.Rollback = unfit_quiet

  entering_quiet : (e : Transition) (c : Call) → Quiet (entering_of s pool e c)
  unfolding entering_of
  entering_quiet e (Call.Request q) = unfit_quiet
  entering_quiet e Call.None = unfit_quiet
  entering_quiet e Call.FrameStart = unfit_quiet
  entering_quiet e (Call.OutboundSeen start cca) = unfit_quiet
  entering_quiet e (Call.Stopped r) = unfit_quiet
  entering_quiet e (Call.Header arrived length) = unfit_quiet
  entering_quiet e (Call.Entered r entry) = entered_quiet e r entry
  entering_quiet e (Call.Fallback r cause) = fallback_quiet e r cause
  entering_quiet e Call.Rollback = rollback_quiet e

  listening_quiet : (q : RxTask) (c : Call) → Quiet (listening_of s q c)
  unfolding listening_of
  listening_quiet q (Call.Request r) = unfit_quiet
  listening_quiet q Call.None = unfit_quiet
  listening_quiet q Call.FrameStart = quiet _ _ _ _ refl refl
  listening_quiet q (Call.OutboundSeen start cca) = quiet _ _ _ _ refl refl
  listening_quiet q (Call.Stopped r) = unfit_quiet
  listening_quiet q (Call.Header arrived length) = unfit_quiet
  listening_quiet q (Call.Entered r entry) = unfit_quiet
  listening_quiet q (Call.Fallback r cause) = unfit_quiet
  listening_quiet q Call.Rollback = unfit_quiet

  stopping_quiet : (p : Stop) (c : Call) → Quiet (stopping_of s p c)
  unfolding stopping_of
  stopping_quiet p (Call.Request q) = unfit_quiet
  stopping_quiet p Call.None = unfit_quiet
  stopping_quiet p Call.FrameStart = unfit_quiet
  stopping_quiet p (Call.OutboundSeen start cca) = unfit_quiet
  stopping_quiet p (Call.Stopped r) = stopped_quiet p r
  stopping_quiet p (Call.Header arrived length) = unfit_quiet
  stopping_quiet p (Call.Entered r entry) = unfit_quiet
  stopping_quiet p (Call.Fallback r cause) = unfit_quiet
  stopping_quiet p Call.Rollback = unfit_quiet

  reading_quiet : (q : RxTask) (c : Call) → s.wait ≡ Wait.Reading q
      → ((arrived length k : ℕ) → AckDue s pool c q arrived length k → ⊥) → Quiet (reading_of s pool q c)
  unfolding reading_of header_of
  reading_quiet q (Call.Request r) here H = unfit_quiet
  reading_quiet q Call.None here H = unfit_quiet
  reading_quiet q Call.FrameStart here H = unfit_quiet
  reading_quiet q (Call.OutboundSeen start cca) here H = unfit_quiet
  reading_quiet q (Call.Stopped r) here H = unfit_quiet
  reading_quiet q (Call.Header arrived length) here H = guard_quiet _ _ (λ ok. header_quiet q arrived length here (H arrived length))
  reading_quiet q (Call.Entered r entry) here H = unfit_quiet
  reading_quiet q (Call.Fallback r cause) here H = unfit_quiet
  reading_quiet q Call.Rollback here H = unfit_quiet

  wait_quiet : (w : Wait) (c : Call) → s.wait ≡ w → ((q : RxTask) (arrived length k : ℕ) → AckDue s pool c q arrived length k → ⊥)
      → Quiet (wait_move s pool c w)
  unfolding wait_move
  wait_quiet (Wait.Asking a) c e H = asking_quiet a c
  wait_quiet (Wait.Entering t) c e H = entering_quiet t c
  wait_quiet (Wait.Listening q) c e H = listening_quiet q c
  wait_quiet (Wait.Stopping p) c e H = stopping_quiet p c
  wait_quiet (Wait.Reading q) c e H = reading_quiet q c e (H q)

move_quiet : (s : State) (pool : List ℕ) (c : Call) → ((q : RxTask) (arrived length k : ℕ) → AckDue s pool c q arrived length k → ⊥)
    → QuietIn s.set.ack_buffer (move_of s pool c)
unfolding move_of
move_quiet s pool c H = guard_quiet s pool _ _ (λ ok. wait_quiet s pool s.wait c refl H)

pub no_ack : (s : State) (pool : List ℕ) (m : Move) → QuietIn s.set.ack_buffer m → NoAck s pool (outcome_of m) (written_by s.set pool m.number)
unfolding written_by
no_ack s pool m Q =
    record {
      wait = λ ok q i e. true≢false (sym (ap turning e) ∙ Q.wait ok);
      action = λ n cca start ifs rollback e. true≢false (sym (ap (sends s.set.ack_buffer) e ∙ eq-eqb s.set.ack_buffer _ refl) ∙ Q.action);
      pool_bytes = rw Q.number;
    }

-- a refused call has no action and writes nothing
refused_no_ack : (s : State) (pool : List ℕ) (c : Call) → ((step_of s pool c).refusal ≡ 0 → ⊥) → NoAck s pool (step_of s pool c) (step_pool s pool c)
unfolding RefusedUnchanged
refused_no_ack s pool c h =
    let kept = refused_unchanged s pool c h in
    record {
      wait = λ ok. absurd (h ok);
      action =
          λ n cca start ifs rollback e.
          true≢false (sym (ap (sends s.set.ack_buffer) (sym (ap (λ (r : Reply). r.action) kept.reply) ∙ e) ∙ eq-eqb s.set.ack_buffer _ refl));
      pool_bytes = kept.pool_bytes;
    }

pub every_ack_turn_is_due : EveryAckTurnIsDue
unfolding EveryAckTurnIsDue step_of step_pool written_by
every_ack_turn_is_due s pool c =
    record {
      due = λ q arrived length k ok D.
          let e = turned s pool c q arrived length k D ok in record { state = rw e; reply = rw e; pool_bytes = rw e };
      only = λ H. go H (eqb (move_of s pool c).refusal 0) refl;
    }
  where
    go : ((q : RxTask) (arrived length k : ℕ) → (move_of s pool c).refusal ≡ 0 → AckDue s pool c q arrived length k → ⊥)
        → (t : Bool) → eqb (move_of s pool c).refusal 0 ≡ t → NoAck s pool (step_of s pool c) (step_pool s pool c)
    go H true e = no_ack s pool (move_of s pool c) (move_quiet s pool c (λ q arrived length k D. H q arrived length k (eqb-true _ _ e) D))
    go H false e = refused_no_ack s pool c (eqb-false _ _ e)

-- ---- A request that is taken, and a refusal

-- only Header turns to an ACK
abbrev is_header : Call → Bool
is_header (Call.Request q) = false
is_header Call.None = false
is_header Call.FrameStart = false
is_header (Call.OutboundSeen start cca) = false
is_header (Call.Stopped r) = false
is_header (Call.Header arrived length) = true
is_header (Call.Entered r entry) = false
is_header (Call.Fallback r cause) = false
is_header Call.Rollback = false

pub taken_turns : (s : State) (pool : List ℕ) (a : Asked) (q : Request) → buffer_held s q.buffer ≡ false
    → AckTurns s pool (Call.Request q) (outcome_of (taken_of s.set pool a q)) (written_by s.set pool (taken_of s.set pool a q).number)
taken_turns s pool a q f =
    record {
      due = λ p arrived length k ok D. absurd (true≢false (sym (ap is_header D.header)));
      only = λ H. no_ack s pool (taken_of s.set pool a q) (taken_quiet s pool a q f);
    }

pub refused_turns : (s : State) (pool : List ℕ) (c : Call) (k : ℕ) → (k ≡ 0 → ⊥)
    → AckTurns s pool c (outcome_of (refused_of s k)) (written_by s.set pool (refused_of s k).number)
refused_turns s pool c k h =
    record { due = λ q arrived length n ok D. absurd (h ok); only = λ H. no_ack s pool (refused_of s k) (refused_quiet s pool k h) }
