-- Every number of a state stays in its range, and so does every number of a call's reply.
-- Assumes nothing.
use Rattle.std.proofs.lemmas.Bool.{or_parts}
use Rattle.std.proofs.Common.{Option, Some, None, ℕ}
use Prim.Native.Nat.{ℕ, ◌+◌, ◌^◌, ◌<◌, ◌≤◌}
use mathlib.Core.Path.{◌≡◌, refl}
use mathlib.Core.Bool.{Bool, true, false, cond, not, ◌&&◌, ◌||◌}
use mathlib.Core.Logic.{◌⊎◌}
use mathlib.Core.List.{List}
use lib.Dec.{eqb, ltb, leb}
use lib.ListN.{length, get_or, take, drop}
use native.Mathlib.Omega.{arith}
use borrow.Author.Tests.{eqb-true, ltb-true, ltb-false, leb-false}
use Rattle.util.specs.Bytes.{AllBytes}
use Rattle.util.proofs.Numbers.{byte_at, take_bytes, drop_bytes}
use Rattle.phy.specs.declared.Ifs.{Ifs}
use Rattle.phy.specs.Phy.{ifs_of, latest_ack_start_of}
use Rattle.frame_control.specs.FrameControl.{frame_control_of}
use Rattle.radio_frame.specs.declared.Settings.{Settings}
use Rattle.radio_frame.specs.RadioFrame.{frame_start, frame_head, ack_seq_num_of}
use Rattle.ack.specs.Ack.{acknowledges}
use Rattle.header.specs.declared.PreliminaryFrameInfo.{PreliminaryFrameInfo}
use Rattle.header.specs.Header.{info_of}
use Rattle.filter.specs.Filter.{for_us}
use Rattle.tasks.specs.declared.Action.{Action}
use Rattle.tasks.specs.declared.Answers.{Answers}
use Rattle.tasks.specs.declared.Asked.{Asked}
use Rattle.tasks.specs.declared.AwaitedAck.{AwaitedAck}
use Rattle.tasks.specs.declared.Call.{Call}
use Rattle.tasks.specs.declared.Cause.{Cause}
use Rattle.tasks.specs.declared.Left.{Left}
use Rattle.tasks.specs.declared.Next.{Next}
use Rattle.tasks.specs.declared.Request.{Request}
use Rattle.tasks.specs.declared.Response.{Response}
use Rattle.tasks.specs.declared.RxResult.{RxResult}
use Rattle.tasks.specs.declared.RxTask.{RxTask}
use Rattle.tasks.specs.declared.State.{State}
use Rattle.tasks.specs.declared.Stop.{Stop}
use Rattle.tasks.specs.declared.StopResult.{StopResult}
use Rattle.tasks.specs.declared.Task.{Task}
use Rattle.tasks.specs.declared.TaskResult.{TaskResult}
use Rattle.tasks.specs.declared.Timestamp.{Timestamp}
use Rattle.tasks.specs.declared.Transition.{Transition}
use Rattle.tasks.specs.declared.TxTask.{TxTask}
use Rattle.tasks.specs.declared.Wait.{Wait}
use Rattle.requests.specs.Requests.{token_held, buffer_held, tx_length_unfit, request_refusal}
use Rattle.results.specs.Results.{received_unfit, received_refusal, leave_off, leave_receiving, leave_sending, leave_sending_ack, ack_response, ack_received, leave_receiving_ack, leave_of}
use Rattle.moves.specs.Move.{Move}
use Rattle.moves.specs.Move.{refused_of, guarded_of}
use Rattle.asking.specs.Asking.{previous_task_of, next_of, request_action, taken_of, request_of, none_of, asking_of}
use Rattle.tasks.specs.Answers.{answers_of}
use Rattle.entered.specs.Entered.{sending_move, arrival_of, request_entered, rearm_entered, ack_turn_entered, ack_wait_started, ack_wait_entered, entered_of}
use Rattle.entering.specs.Entering.{then_error, request_fell_back, fell_back_of, off_rolled_back, request_rolled_back, rolled_back_of, entering_of}
use Rattle.listening.specs.Listening.{stop_before, listening_of}
use Rattle.stopping.specs.Stopping.{frame_stopped, outbound_stopped, ack_failed, ack_stopped, stopped_of, stopping_of}
use Rattle.reading.specs.Reading.{requested, number_to_acknowledge, rearm_move, receive_move, header_move_of, header_of, reading_of}
use Rattle.engine.specs.Step.{wait_move, move_of}
use Rattle.engine.proofs.Kept.{state_at}
use Rattle.engine.proofs.Table.{move_to, passed}
use Rattle.wait_parts.specs.declared.Part.{Part}
use Rattle.wait_parts.specs.Parts.{no_task, rx_task, part_of, asked_part, left_part, tx_part, next_part, stop_part, transition_parts, wait_parts_of}
use Rattle.reply_bytes.specs.Reply.{TimestampFits, ActionFits, CauseFits, ReceivedFits, AnswerFits, AnswersFit, ReplyFits}
use Rattle.tasks.specs.declared.Answer.{Answer}

-- ---- Ranges

-- the buffer below the count, the rest within their widths
abbrev pub PartIn : ℕ → Part → Type 0
PartIn n p =
    (p.task.token < 2 ^ 32) × (p.task.buffer < n) × (p.task.length < 2 ^ 16) × (p.number < 2 ^ 8) × (p.time < 2 ^ 64)

abbrev pub WaitIn : ℕ → Wait → Type 0
WaitIn n w = PartIn n (wait_parts_of w).case × PartIn n (wait_parts_of w).next

pub record SettingsIn (set : Settings) : Type 0 where
  pub low : 3 ≤ set.count
  pub high : set.count ≤ 32
  pub headroom : set.headroom ≤ 8
  pub tailroom : set.tailroom ≤ 8
  pub fcs : (set.fcs_length ≡ 2) ⊎ (set.fcs_length ≡ 4)
  pub address : set.hardware_addr < 2 ^ 64
  pub pan : set.pan_id < 2 ^ 16
  pub ack : set.ack_buffer < set.count
  pub spare : set.spare_buffer < set.count

pub record StateIn (s : State) : Type 0 where
  pub set : SettingsIn s.set
  pub wait : WaitIn s.set.count s.wait

pub record MoveIn (m : Move) : Type 0 where
  pub state : StateIn m.state
  pub reply : ReplyFits m.reply

-- the numbers of a call
abbrev pub ReceivedIn : RxResult → Type 0
ReceivedIn (RxResult.Frame n t quality) = t < 2 ^ 64
ReceivedIn RxResult.RxWindowEnded = Unit {0}
ReceivedIn (RxResult.CrcError t quality) = t < 2 ^ 64

abbrev pub ResultIn : TaskResult → Type 0
ResultIn TaskResult.Off = Unit {0}
ResultIn (TaskResult.Sent t) = t < 2 ^ 64
ResultIn (TaskResult.Rx r) = ReceivedIn r

abbrev pub CallIn : Call → Type 0
CallIn (Call.Request q) = (q.token < 2 ^ 32) × TimestampFits q.start
CallIn Call.None = Unit {0}
CallIn Call.FrameStart = Unit {0}
CallIn (Call.OutboundSeen start cca) = TimestampFits start
CallIn (Call.Stopped r) = Unit {0}
CallIn (Call.Header arrived length) = Unit {0}
CallIn (Call.Entered r entry) = ResultIn r
CallIn (Call.Fallback r cause) = ResultIn r × CauseFits cause
CallIn Call.Rollback = Unit {0}

-- ---- Refusals
refused_in : (s : State) (k : ℕ) → StateIn s → MoveIn (refused_of s k)
refused_in s k S = record { state = S; reply = record { action = tt; answers = tt } }

guard_in : (s : State) (k : ℕ) (m : Move) → StateIn s → (k ≡ 0 → MoveIn m) → MoveIn (guarded_of s k m)
unfolding guarded_of
guard_in s k m S f = go (eqb k 0) refl
  where
    go : (t : Bool) → eqb k 0 ≡ t → MoveIn (cond (eqb k 0) m (refused_of s k))
    go true e = rw e (f (eqb-true k 0 e))
    go false e = rw e (refused_in s k S)

received_fits : (set : Settings) (x : RxResult) → ReceivedIn x → received_refusal set x ≡ 0 → ReceivedFits x
unfolding received_refusal received_unfit
received_fits set (RxResult.Frame n t quality) F h =
    let p = passed (eqb n 0 || ltb 127 (n + set.fcs_length)) 10 0 (omega arith) h in
    let q = or_parts (eqb n 0) (ltb 127 (n + set.fcs_length)) p.0 in
    (omega (arith, ltb-false 127 (n + set.fcs_length) q.1), F)
received_fits set RxResult.RxWindowEnded F h = tt
received_fits set (RxResult.CrcError t quality) F h = F

module _ (set : Settings) (S : SettingsIn set) (pool : List ℕ) (A : AllBytes pool) where
  abbrev n : ℕ
  n = set.count

  -- ---- Parts of waits
  nothing : (code spacing : ℕ) → PartIn n (part_of code no_task 0 spacing 0)
  nothing code spacing = (omega arith, omega (arith, S.low), omega arith, omega arith, omega arith)

  receives : (q : RxTask) (code spacing : ℕ) → q.token < 2 ^ 32 → q.buffer < n → PartIn n (part_of code (rx_task q) 0 spacing 0)
  receives q code spacing t b = (t, b, omega arith, omega arith, omega arith)

  to : {action : Action} {k : Option ℕ} (w : Wait) (x : Answers) → ActionFits action → WaitIn n w → AnswersFit x → MoveIn (move_to set w action x k)
  to w x a W F = record { state = record { set = S; wait = W }; reply = record { action = a; answers = F } }

  module _ (w : Wait) (W : WaitIn n w) where
    here : StateIn (state_at set w)
    here = record { set = S; wait = W }

    refuse : (k : ℕ) → MoveIn (refused_of (state_at set w) k)
    refuse k = refused_in (state_at set w) k here

    guard : (k : ℕ) (m : Move) → (k ≡ 0 → MoveIn m) → MoveIn (guarded_of (state_at set w) k m)
    guard k m f = guard_in (state_at set w) k m here f

  -- ---- Waits that ask
  left_in : (a : Asked) → PartIn n (asked_part a) → PartIn n (left_part (previous_task_of set a).left)
  unfolding previous_task_of asked_part left_part
  left_in Asked.Idle K = nothing 0 0
  left_in (Asked.AfterWindow q) K = nothing 0 0
  left_in (Asked.AfterAckWindow q t) K = nothing 0 0
  left_in (Asked.Receiving q i) K = K
  left_in (Asked.Sending q) K = K
  left_in (Asked.SendingAck i) K = nothing 3 0
  left_in (Asked.ReceivingAck a) K = K

  given_in : (a : Asked) → PartIn n (asked_part a) → AnswersFit (answers_of (previous_task_of set a).owed)
  unfolding previous_task_of asked_part answers_of
  given_in Asked.Idle K = tt
  given_in (Asked.AfterWindow q) K = record { token = K.0; response = tt }
  given_in (Asked.AfterAckWindow q t) K = record { token = K.0; response = K.4 }
  given_in (Asked.Receiving q i) K = tt
  given_in (Asked.Sending q) K = tt
  given_in (Asked.SendingAck i) K = tt
  given_in (Asked.ReceivingAck a) K = tt

  tx_in : (q : TxTask) (frame : List ℕ) → AllBytes frame → q.token < 2 ^ 32 → q.buffer < n → q.length < 2 ^ 16 → PartIn n (tx_part q (ack_seq_num_of frame))
  unfolding ack_seq_num_of tx_part
  tx_in q frame B t b l =
      let fc = frame_control_of (get_or frame 0 0) (get_or frame 1 0) in go (leb 3 (length frame) && (fc.ack_request && not fc.sequence_number_suppression))
    where
      go : (f : Bool) → PartIn n (tx_part q (cond f (Some (get_or frame 2 0)) None))
      go true = (t, b, l, byte_at frame B 2, omega arith)
      go false = (t, b, l, omega arith, omega arith)

  next_in : (q : Request) (task : Task) → q.token < 2 ^ 32 → q.buffer < n → tx_length_unfit set task ≡ false → PartIn n (next_part (next_of set pool q task))
  unfolding next_of next_part tx_length_unfit
  next_in q (Task.Tx l cca) t b h =
      let long = (or_parts (ltb l 3) (ltb 127 (l + set.fcs_length)) h).1 in
      tx_in (record { token = q.token; buffer = q.buffer; length = l }) (frame_head set pool q.buffer) (take_bytes 3 (drop (frame_start set q.buffer) pool) (drop_bytes (frame_start set q.buffer) pool A)) t b
      (omega (arith, ltb-false 127 (l + set.fcs_length) long))
  next_in q Task.Rx t b h = (t, b, omega arith, omega arith, omega arith)

  action_in : (q : Request) (spacing : Option Ifs) (task : Task) → TimestampFits q.start → tx_length_unfit set task ≡ false → ActionFits (request_action q spacing task)
  unfolding request_action tx_length_unfit
  action_in q spacing (Task.Tx l cca) t h =
      (omega (arith, ltb-false 127 (l + set.fcs_length) (or_parts (ltb l 3) (ltb 127 (l + set.fcs_length)) h).1), t)
  action_in q spacing Task.Rx t h = t

  taken_in : (a : Asked) (q : Request) → PartIn n (asked_part a) → q.token < 2 ^ 32 → TimestampFits q.start → q.buffer < n → tx_length_unfit set q.task ≡ false
      → MoveIn (taken_of set pool a q)
  unfolding taken_of wait_parts_of transition_parts
  taken_in a q K t st below fit =
      to (Wait.Entering (Transition.Request (previous_task_of set a).left (next_of set pool q q.task))) (answers_of (previous_task_of set a).owed) (action_in q (previous_task_of set a).spacing q.task st fit)
      (left_in a K, next_in q q.task t below fit)
      (given_in a K)

  request_in : (a : Asked) (q : Request) → PartIn n (asked_part a) → q.token < 2 ^ 32 → TimestampFits q.start → MoveIn (request_of (state_at set (Wait.Asking a)) pool a q)
  unfolding request_of request_refusal wait_parts_of taken_of
  request_in a q K t st =
      guard (Wait.Asking a) (K, nothing 0 0) _ _
      (λ ok.
      let six = passed (token_held (Wait.Asking a) q.token) 6 _ (omega arith) ok in
      let seven = passed (leb n q.buffer || buffer_held (state_at set (Wait.Asking a)) q.buffer) 7 _ (omega arith) six.1 in
      let eight = passed (tx_length_unfit set q.task) 8 _ (omega arith) seven.1 in
      let below = leb-false n q.buffer (or_parts (leb n q.buffer) _ seven.0).0 in
      taken_in a q K t st (omega (arith, below)) eight.0)

  none_in : (a : Asked) → PartIn n (asked_part a) → MoveIn (none_of (state_at set (Wait.Asking a)) a)
  unfolding none_of asked_part left_part next_part wait_parts_of transition_parts
  none_in Asked.Idle K = refuse (Wait.Asking Asked.Idle) (K, nothing 0 0) 5
  none_in (Asked.AfterWindow q) K = refuse (Wait.Asking (Asked.AfterWindow q)) (K, nothing 0 0) 5
  none_in (Asked.AfterAckWindow q t) K = to (Wait.Asking Asked.Idle) _ tt (nothing 0 0, nothing 0 0) (record { token = K.0; response = K.4 })
  none_in (Asked.Receiving q i) K = to (Wait.Entering (Transition.Request (Left.Receiving q) Next.Off)) _ tt (K, nothing 0 0) tt
  none_in (Asked.Sending q) K = to (Wait.Entering (Transition.Request (Left.Sending q) Next.Off)) _ tt (K, nothing 0 0) tt
  none_in (Asked.SendingAck i) K = to (Wait.Entering (Transition.Request Left.SendingAck Next.Off)) _ tt (nothing 3 0, nothing 0 0) tt
  none_in (Asked.ReceivingAck a) K = to (Wait.Entering (Transition.Request (Left.ReceivingAck a) Next.Off)) _ tt (K, nothing 0 0) tt

  asking_in : (a : Asked) (c : Call) → PartIn n (asked_part a) → CallIn c → MoveIn (asking_of (state_at set (Wait.Asking a)) pool a c)
  unfolding asking_of wait_parts_of
  asking_in a (Call.Request q) K C = request_in a q K C.0 C.1
  asking_in a Call.None K C = none_in a K
  asking_in a Call.FrameStart K C = refuse (Wait.Asking a) (K, nothing 0 0) 5
  asking_in a (Call.OutboundSeen start cca) K C = refuse (Wait.Asking a) (K, nothing 0 0) 5
  asking_in a (Call.Stopped r) K C = refuse (Wait.Asking a) (K, nothing 0 0) 5
  asking_in a (Call.Header arrived length) K C = refuse (Wait.Asking a) (K, nothing 0 0) 5
  asking_in a (Call.Entered r entry) K C = refuse (Wait.Asking a) (K, nothing 0 0) 5
  asking_in a (Call.Fallback r cause) K C = refuse (Wait.Asking a) (K, nothing 0 0) 5
  asking_in a Call.Rollback K C = refuse (Wait.Asking a) (K, nothing 0 0) 5

  -- ---- Transitions
  ack_response_in : (a : AwaitedAck) (l : ℕ) → a.task.token < 2 ^ 32 → a.time < 2 ^ 64
      → AnswerFits (record { token = a.task.token; buffer = a.task.buffer; response = ack_response set pool a l })
  unfolding ack_response
  ack_response_in a l t u = go (acknowledges (frame_head set pool set.spare_buffer) l a.number)
    where
      go : (f : Bool) → AnswerFits (record { token = a.task.token; buffer = a.task.buffer; response = cond f (Response.Sent a.time) (Response.Nack a.time) })
      go true = record { token = t; response = u }
      go false = record { token = t; response = u }

  leave_in : (l : Left) (r : TaskResult) → PartIn n (left_part l) → ResultIn r → (leave_of set pool r l).refusal ≡ 0 → AnswersFit (answers_of (leave_of set pool r l).owed)
  unfolding answers_of leave_of leave_off leave_receiving leave_sending leave_sending_ack leave_receiving_ack ack_received left_part
  leave_in Left.Off TaskResult.Off K R h = tt
  leave_in Left.Off (TaskResult.Sent t) K R h = tt
  leave_in Left.Off (TaskResult.Rx x) K R h = tt
  leave_in (Left.Receiving q) TaskResult.Off K R h = tt
  leave_in (Left.Receiving q) (TaskResult.Sent t) K R h = tt
  leave_in (Left.Receiving q) (TaskResult.Rx x) K R h = record { token = K.0; response = received_fits set x R h }
  leave_in (Left.Sending q) TaskResult.Off K R h = tt
  leave_in (Left.Sending q) (TaskResult.Sent t) K R h = record { token = K.0; response = R }
  leave_in (Left.Sending q) (TaskResult.Rx x) K R h = tt
  leave_in Left.SendingAck TaskResult.Off K R h = tt
  leave_in Left.SendingAck (TaskResult.Sent t) K R h = tt
  leave_in Left.SendingAck (TaskResult.Rx x) K R h = tt
  leave_in (Left.ReceivingAck a) TaskResult.Off K R h = tt
  leave_in (Left.ReceivingAck a) (TaskResult.Sent t) K R h = tt
  leave_in (Left.ReceivingAck a) (TaskResult.Rx (RxResult.Frame l t quality)) K R h = ack_response_in a l K.0 K.4
  leave_in (Left.ReceivingAck a) (TaskResult.Rx RxResult.RxWindowEnded) K R h = tt
  leave_in (Left.ReceivingAck a) (TaskResult.Rx (RxResult.CrcError t quality)) K R h = record { token = K.0; response = K.4 }

  arrive_in : (m : Next) (x : Answers) → PartIn n (next_part m) → AnswersFit x → MoveIn (arrival_of set x m)
  unfolding arrival_of sending_move next_part tx_part wait_parts_of transition_parts asked_part
  arrive_in (Next.Tx q (Some k)) x K F = to (Wait.Entering (Transition.AckWait q k)) x tt (K, nothing 0 0) F
  arrive_in (Next.Tx q None) x K F = to (Wait.Asking (Asked.Sending q)) x tt (K, nothing 0 0) F
  arrive_in (Next.Rx q) x K F = to (Wait.Listening q) x tt (K, nothing 0 0) F
  arrive_in Next.Off x K F = to (Wait.Asking Asked.Idle) x tt (nothing 0 0, nothing 0 0) F

  then_in : (q : TxTask) (cause : Cause) (x : Option Answer) → q.token < 2 ^ 32 → CauseFits cause → AnswersFit (answers_of x) → AnswersFit (then_error q cause x)
  unfolding then_error answers_of
  then_in q cause None t C F = record { token = t; response = C }
  then_in q cause (Some a) t C F = (F, record { token = t; response = C })

  entered_in : (e : Transition) (r : TaskResult) (entry : ℕ) → WaitIn n (Wait.Entering e) → ResultIn r → MoveIn (entered_of (state_at set (Wait.Entering e)) pool r entry e)
  unfolding entered_of request_entered rearm_entered ack_turn_entered ack_wait_entered ack_wait_started latest_ack_start_of leave_of leave_receiving wait_parts_of transition_parts asked_part stop_part left_part
  entered_in (Transition.Request l m) r entry W R =
      guard (Wait.Entering (Transition.Request l m)) W _ _ (λ ok. arrive_in m (answers_of (leave_of set pool r l).owed) W.1 (leave_in l r W.0 R ok))
  entered_in (Transition.Rearm q) r entry W R =
      guard (Wait.Entering (Transition.Rearm q)) W _ _
      (λ ok.
      record {
        state =
            record {
              set = record { low = S.low; high = S.high; headroom = S.headroom; tailroom = S.tailroom; fcs = S.fcs; address = S.address; pan = S.pan; ack = S.ack; spare = W.0.1 };
              wait = ((W.0.0, S.spare, omega arith, omega arith, omega arith), nothing 0 0);
            };
        reply = record { action = tt; answers = tt };
      })
  entered_in (Transition.AckTurn q i) r entry W R =
      guard (Wait.Entering (Transition.AckTurn q i)) W _ _
      (λ ok. to (Wait.Asking (Asked.SendingAck i)) (answers_of (leave_receiving set q r).owed) tt (nothing 5 0, nothing 0 0) (leave_in (Left.Receiving q) r W.0 R ok))
  entered_in (Transition.AckWait q k) TaskResult.Off entry W R = refuse (Wait.Entering (Transition.AckWait q k)) W 5
  entered_in (Transition.AckWait q k) (TaskResult.Sent t) entry W R = go (ltb (entry + 10000) (2 ^ 64)) refl
    where
      go : (f : Bool) → ltb (entry + 10000) (2 ^ 64) ≡ f
          → MoveIn (ack_wait_started (state_at set (Wait.Entering (Transition.AckWait q k))) (record { task = q; number = k; time = t }) (cond f (Some (entry + 10000)) None))
      go true u =
          to (Wait.Stopping (Stop.Ack (record { task = q; number = k; time = t }))) Answers.None (ltb-true (entry + 10000) (2 ^ 64) u) ((W.0.0, W.0.1, W.0.2, W.0.3, R), nothing 0 0) tt
      go false u = refuse (Wait.Entering (Transition.AckWait q k)) W 11
  entered_in (Transition.AckWait q k) (TaskResult.Rx x) entry W R = refuse (Wait.Entering (Transition.AckWait q k)) W 5

  fell_back_in : (e : Transition) (r : TaskResult) (cause : Cause) → WaitIn n (Wait.Entering e) → ResultIn r → CauseFits cause → MoveIn (fell_back_of (state_at set (Wait.Entering e)) pool r cause e)
  unfolding fell_back_of request_fell_back wait_parts_of transition_parts next_part tx_part asked_part
  fell_back_in (Transition.Request l (Next.Tx q None)) r cause W R C =
      guard (Wait.Entering (Transition.Request l (Next.Tx q None))) W _ _
      (λ ok. to (Wait.Asking Asked.Idle) _ tt (nothing 0 0, nothing 0 0) (then_in q cause _ W.1.0 C (leave_in l r W.0 R ok)))
  fell_back_in (Transition.Request l (Next.Tx q (Some k))) r cause W R C =
      guard (Wait.Entering (Transition.Request l (Next.Tx q (Some k)))) W _ _
      (λ ok. to (Wait.Asking Asked.Idle) _ tt (nothing 0 0, nothing 0 0) (then_in q cause _ W.1.0 C (leave_in l r W.0 R ok)))
  fell_back_in (Transition.Request l (Next.Rx q)) r cause W R C = refuse (Wait.Entering (Transition.Request l (Next.Rx q))) W 5
  fell_back_in (Transition.Request l Next.Off) r cause W R C = refuse (Wait.Entering (Transition.Request l Next.Off)) W 5
  fell_back_in (Transition.Rearm q) r cause W R C = refuse (Wait.Entering (Transition.Rearm q)) W 5
  fell_back_in (Transition.AckTurn q i) r cause W R C = refuse (Wait.Entering (Transition.AckTurn q i)) W 5
  fell_back_in (Transition.AckWait q k) r cause W R C = refuse (Wait.Entering (Transition.AckWait q k)) W 5

  rolled_back_in : (e : Transition) → WaitIn n (Wait.Entering e) → MoveIn (rolled_back_of (state_at set (Wait.Entering e)) e)
  unfolding rolled_back_of request_rolled_back off_rolled_back wait_parts_of transition_parts left_part
  rolled_back_in (Transition.Request Left.Off m) W = refuse (Wait.Entering (Transition.Request Left.Off m)) W 5
  rolled_back_in (Transition.Request (Left.Receiving q) (Next.Tx p k)) W = refuse (Wait.Entering (Transition.Request (Left.Receiving q) (Next.Tx p k))) W 5
  rolled_back_in (Transition.Request (Left.Receiving q) (Next.Rx p)) W = refuse (Wait.Entering (Transition.Request (Left.Receiving q) (Next.Rx p))) W 5
  rolled_back_in (Transition.Request (Left.Receiving q) Next.Off) W = to (Wait.Listening q) Answers.None tt (W.0, nothing 0 0) tt
  rolled_back_in (Transition.Request (Left.Sending q) m) W = refuse (Wait.Entering (Transition.Request (Left.Sending q) m)) W 5
  rolled_back_in (Transition.Request Left.SendingAck m) W = refuse (Wait.Entering (Transition.Request Left.SendingAck m)) W 5
  rolled_back_in (Transition.Request (Left.ReceivingAck a) m) W = refuse (Wait.Entering (Transition.Request (Left.ReceivingAck a) m)) W 5
  rolled_back_in (Transition.Rearm q) W = refuse (Wait.Entering (Transition.Rearm q)) W 5
  rolled_back_in (Transition.AckTurn q i) W = to (Wait.Listening q) Answers.None tt (W.0, nothing 0 0) tt
  rolled_back_in (Transition.AckWait q k) W = refuse (Wait.Entering (Transition.AckWait q k)) W 5

  entering_in : (e : Transition) (c : Call) → WaitIn n (Wait.Entering e) → CallIn c → MoveIn (entering_of (state_at set (Wait.Entering e)) pool e c)
  unfolding entering_of
  entering_in e (Call.Request q) W C = refuse (Wait.Entering e) W 5
  entering_in e Call.None W C = refuse (Wait.Entering e) W 5
  entering_in e Call.FrameStart W C = refuse (Wait.Entering e) W 5
  entering_in e (Call.OutboundSeen start cca) W C = refuse (Wait.Entering e) W 5
  entering_in e (Call.Stopped r) W C = refuse (Wait.Entering e) W 5
  entering_in e (Call.Header arrived length) W C = refuse (Wait.Entering e) W 5
  entering_in e (Call.Entered r entry) W C = entered_in e r entry W C
  entering_in e (Call.Fallback r cause) W C = fell_back_in e r cause W C.0 C.1
  entering_in e Call.Rollback W C = rolled_back_in e W

  -- ---- Listening, its end, and the header
  stop_before_in : (cca : Bool) (start : Timestamp) → TimestampFits start → ActionFits (Action.Stop (stop_before cca start))
  unfolding stop_before
  stop_before_in cca Timestamp.BestEffort F = tt
  stop_before_in cca (Timestamp.Scheduled t) F = F

  listening_in : (q : RxTask) (c : Call) → WaitIn n (Wait.Listening q) → CallIn c → MoveIn (listening_of (state_at set (Wait.Listening q)) q c)
  unfolding listening_of wait_parts_of stop_part
  listening_in q (Call.Request r) W C = refuse (Wait.Listening q) W 5
  listening_in q Call.None W C = refuse (Wait.Listening q) W 5
  listening_in q Call.FrameStart W C = to (Wait.Stopping (Stop.Frame q)) Answers.None tt (W.0, nothing 0 0) tt
  listening_in q (Call.OutboundSeen start cca) W C = to (Wait.Stopping (Stop.Outbound q)) Answers.None (stop_before_in cca start C) (W.0, nothing 0 0) tt
  listening_in q (Call.Stopped r) W C = refuse (Wait.Listening q) W 5
  listening_in q (Call.Header arrived length) W C = refuse (Wait.Listening q) W 5
  listening_in q (Call.Entered r entry) W C = refuse (Wait.Listening q) W 5
  listening_in q (Call.Fallback r cause) W C = refuse (Wait.Listening q) W 5
  listening_in q Call.Rollback W C = refuse (Wait.Listening q) W 5

  stopped_in : (p : Stop) (r : StopResult) → WaitIn n (Wait.Stopping p) → MoveIn (stopped_of (state_at set (Wait.Stopping p)) r p)
  unfolding stopped_of frame_stopped outbound_stopped ack_stopped ack_failed wait_parts_of stop_part asked_part
  stopped_in (Stop.Frame q) StopResult.FrameStarted W = to (Wait.Reading q) Answers.None tt (W.0, nothing 0 0) tt
  stopped_in (Stop.Frame q) (StopResult.RxWindowEnded x) W = refuse (Wait.Stopping (Stop.Frame q)) W 5
  stopped_in (Stop.Frame q) StopResult.Failed W = refuse (Wait.Stopping (Stop.Frame q)) W 5
  stopped_in (Stop.Outbound q) StopResult.FrameStarted W = to (Wait.Reading q) Answers.None tt (W.0, nothing 0 0) tt
  stopped_in (Stop.Outbound q) (StopResult.RxWindowEnded x) W =
      guard (Wait.Stopping (Stop.Outbound q)) W _ _ (λ ok. to (Wait.Asking (Asked.AfterWindow q)) Answers.None tt (W.0, nothing 0 0) tt)
  stopped_in (Stop.Outbound q) StopResult.Failed W = to (Wait.Listening q) Answers.None tt (W.0, nothing 0 0) tt
  stopped_in (Stop.Ack a) StopResult.FrameStarted W = to (Wait.Asking (Asked.ReceivingAck a)) Answers.None tt (W.0, nothing 0 0) tt
  stopped_in (Stop.Ack a) (StopResult.RxWindowEnded x) W =
      guard (Wait.Stopping (Stop.Ack a)) W _ _
      (λ ok. to (Wait.Asking (Asked.AfterAckWindow a.task a.time)) Answers.None tt ((W.0.0, W.0.1, W.0.2, omega arith, W.0.4), nothing 0 0) tt)
  stopped_in (Stop.Ack a) StopResult.Failed W = to (Wait.Stopping (Stop.AckAgain a)) Answers.None tt (W.0, nothing 0 0) tt
  stopped_in (Stop.AckAgain a) StopResult.FrameStarted W = to (Wait.Asking (Asked.ReceivingAck a)) Answers.None tt (W.0, nothing 0 0) tt
  stopped_in (Stop.AckAgain a) (StopResult.RxWindowEnded x) W =
      guard (Wait.Stopping (Stop.AckAgain a)) W _ _
      (λ ok. to (Wait.Asking (Asked.AfterAckWindow a.task a.time)) Answers.None tt ((W.0.0, W.0.1, W.0.2, omega arith, W.0.4), nothing 0 0) tt)
  stopped_in (Stop.AckAgain a) StopResult.Failed W = refuse (Wait.Stopping (Stop.AckAgain a)) W 5

  stopping_in : (p : Stop) (c : Call) → WaitIn n (Wait.Stopping p) → MoveIn (stopping_of (state_at set (Wait.Stopping p)) p c)
  unfolding stopping_of
  stopping_in p (Call.Request q) W = refuse (Wait.Stopping p) W 5
  stopping_in p Call.None W = refuse (Wait.Stopping p) W 5
  stopping_in p Call.FrameStart W = refuse (Wait.Stopping p) W 5
  stopping_in p (Call.OutboundSeen start cca) W = refuse (Wait.Stopping p) W 5
  stopping_in p (Call.Stopped r) W = stopped_in p r W
  stopping_in p (Call.Header arrived length) W = refuse (Wait.Stopping p) W 5
  stopping_in p (Call.Entered r entry) W = refuse (Wait.Stopping p) W 5
  stopping_in p (Call.Fallback r cause) W = refuse (Wait.Stopping p) W 5
  stopping_in p Call.Rollback W = refuse (Wait.Stopping p) W 5

  receive_in : (q : RxTask) (i : Ifs) (k : Option ℕ) → WaitIn n (Wait.Reading q) → MoveIn (receive_move set q i k)
  unfolding receive_move wait_parts_of transition_parts asked_part
  receive_in q i (Some k) W = to (Wait.Entering (Transition.AckTurn q i)) Answers.None (omega arith, tt) (W.0, nothing 0 0) tt
  receive_in q i None W = to (Wait.Asking (Asked.Receiving q i)) Answers.None tt (W.0, nothing 0 0) tt

  reading_in : (q : RxTask) (c : Call) → WaitIn n (Wait.Reading q) → MoveIn (reading_of (state_at set (Wait.Reading q)) pool q c)
  unfolding reading_of header_of header_move_of wait_parts_of transition_parts
  reading_in q (Call.Request r) W = refuse (Wait.Reading q) W 5
  reading_in q Call.None W = refuse (Wait.Reading q) W 5
  reading_in q Call.FrameStart W = refuse (Wait.Reading q) W 5
  reading_in q (Call.OutboundSeen start cca) W = refuse (Wait.Reading q) W 5
  reading_in q (Call.Stopped r) W = refuse (Wait.Reading q) W 5
  reading_in q (Call.Header arrived length) W = guard (Wait.Reading q) W _ _ (λ ok. go (for_us set.hardware_addr set.pan_id set.implicit_broadcast facts) (number_to_acknowledge facts.addressing_fields (requested facts.frame_control facts.seq_nr)))
    where
      facts : PreliminaryFrameInfo
      facts = info_of (take arrived (drop (frame_start set q.buffer) pool))

      go : (f : Bool) (k : Option ℕ) → MoveIn (cond f (receive_move set q (ifs_of length) k) (rearm_move set q))
      go true k = receive_in q (ifs_of length) k W
      go false k = to (Wait.Entering (Transition.Rearm q)) Answers.None tt (W.0, nothing 0 0) tt
  reading_in q (Call.Entered r entry) W = refuse (Wait.Reading q) W 5
  reading_in q (Call.Fallback r cause) W = refuse (Wait.Reading q) W 5
  reading_in q Call.Rollback W = refuse (Wait.Reading q) W 5

  wait_in : (w : Wait) (c : Call) → WaitIn n w → CallIn c → MoveIn (wait_move (state_at set w) pool c w)
  unfolding wait_move wait_parts_of
  wait_in (Wait.Asking a) c W C = asking_in a c W.0 C
  wait_in (Wait.Entering e) c W C = entering_in e c W C
  wait_in (Wait.Listening q) c W C = listening_in q c W C
  wait_in (Wait.Stopping p) c W C = stopping_in p c W
  wait_in (Wait.Reading q) c W C = reading_in q c W

  -- a request that leaves the line
  pub leaves_in : (w : Wait) (a : Asked) (q : Request) → w ≡ Wait.Asking a → WaitIn n w → q.token < 2 ^ 32 → TimestampFits q.start → q.buffer < n
      → tx_length_unfit set q.task ≡ false → MoveIn (taken_of set pool a q)
  unfolding wait_parts_of
  leaves_in w a q e W t st below fit = let K : WaitIn n (Wait.Asking a) = rw e at W in taken_in a q K.0 t st below fit

pub step_in : (s : State) (pool : List ℕ) (c : Call) → StateIn s → AllBytes pool → CallIn c → MoveIn (move_of s pool c)
unfolding move_of
step_in s pool c S A C = guard_in s _ _ S (λ ok. wait_in s.set S.set pool A s.wait c S.wait C)
