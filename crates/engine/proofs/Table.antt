-- What a call can come to: one table of waits and calls, from which each property of all calls is proved.
-- Assumes nothing.
use Rattle.std.proofs.Common.{Option, Some, None, ℕ}
use Rattle.std.proofs.lemmas.Bool.{or_parts}
use Prim.Native.Nat.{ℕ, suc, ◌+◌, ◌<◌}
use mathlib.Core.Path.{◌≡◌, refl, ◌∙◌, ap}
use mathlib.Core.Bool.{Bool, true, false, cond, ◌||◌}
use mathlib.Core.List.{List, [], ◌∷◌, ◌++◌}
use lib.Dec.{eqb, leb}
use lib.ListN.{take, drop}
use native.Mathlib.Omega.{arith}
use borrow.Author.Tests.{eqb-true}
use Rattle.radio_frame.specs.declared.Settings.{Settings}
use Rattle.radio_frame.specs.RadioFrame.{frame_head, frame_start}
use Rattle.ack.specs.Ack.{acknowledges}
use Rattle.phy.specs.declared.Ifs.{Ifs}
use Rattle.phy.specs.Phy.{ifs_of, latest_ack_start_of}
use Rattle.header.specs.declared.PreliminaryFrameInfo.{PreliminaryFrameInfo}
use Rattle.header.specs.Header.{info_of}
use Rattle.filter.specs.Filter.{for_us}
use Rattle.tasks.specs.declared.Action.{Action}
use Rattle.tasks.specs.declared.Answer.{Answer}
use Rattle.tasks.specs.declared.Answers.{Answers}
use Rattle.tasks.specs.declared.Asked.{Asked}
use Rattle.tasks.specs.declared.AwaitedAck.{AwaitedAck}
use Rattle.tasks.specs.declared.Call.{Call}
use Rattle.tasks.specs.declared.Cause.{Cause}
use Rattle.tasks.specs.declared.Left.{Left}
use Rattle.tasks.specs.declared.Next.{Next}
use Rattle.tasks.specs.declared.Request.{Request}
use Rattle.tasks.specs.declared.Response.{Response}
use Rattle.tasks.specs.declared.RxResult.{RxResult}
use Rattle.tasks.specs.declared.RxTask.{RxTask}
use Rattle.tasks.specs.declared.State.{State}
use Rattle.tasks.specs.declared.Stop.{Stop}
use Rattle.tasks.specs.declared.StopResult.{StopResult}
use Rattle.tasks.specs.declared.Task.{Task}
use Rattle.tasks.specs.declared.TaskResult.{TaskResult}
use Rattle.tasks.specs.declared.Transition.{Transition}
use Rattle.tasks.specs.declared.TxTask.{TxTask}
use Rattle.tasks.specs.declared.Wait.{Wait}
use Rattle.tasks.specs.Answers.{to_tx, to_rx, answers_of}
use Rattle.requests.specs.Requests.{token_held, buffer_held, request_refusal, allowed_of}
use Rattle.results.specs.Results.{leave_off, leave_receiving, leave_sending, leave_sending_ack, ack_response, ack_received, leave_receiving_ack, leave_of}
use Rattle.moves.specs.Move.{Move}
use Rattle.moves.specs.Move.{refused_of, guarded_of}
use Rattle.asking.specs.Asking.{previous_task_of, tx_spacing, next_of, request_action, taken_of, request_of, none_of, asking_of}
use Rattle.entered.specs.Entered.{sending_move, arrival_of, request_entered, with_spare, rearm_entered, ack_turn_entered, ack_wait_started, ack_wait_entered, entered_of}
use Rattle.entering.specs.Entering.{then_error, request_fell_back, fell_back_of, off_rolled_back, request_rolled_back, rolled_back_of, entering_of}
use Rattle.listening.specs.Listening.{listening_of}
use Rattle.stopping.specs.Stopping.{frame_stopped, outbound_stopped, ack_failed, ack_stopped, stopped_of, stopping_of}
use Rattle.reading.specs.Reading.{requested, number_to_acknowledge, rearm_move, receive_move, header_move_of, header_of, reading_of}
use Rattle.engine.specs.Step.{wait_move, move_of}
use Rattle.engine.specs.Refusals.{goes_off, rollback_fits, fits}
use Rattle.engine.specs.Book.{Progress, frame_started, is_number, Entry, Radio, Book, answers_transmit, enter}
use Rattle.engine.specs.Answered.{Tells, is_ack, AnsweredRight}
use Rattle.engine.specs.Reasons.{Reason, listening_ended, received, received_acknowledged, failed, sent, acknowledged, unacknowledged, ack_window_ended, Reasons}
use Rattle.engine.specs.Agreement.{Standing, tx_standing, rx_standing, awaiting, left_standing, next_standing, wait_standing, standing, AgreesOne}
use Rattle.engine.specs.Asks.{asks_after, outbound_after}
use Rattle.engine.specs.Actions.{rollback_on, RequestDone, request_ifs, Spaced, asks_of, outbound_open}
use Rattle.engine.specs.BookClaims.{count}
use Rattle.engine.proofs.Standing.{buffers, own, later, raised, all_informed, LooserOne, Looser, looser_refl, raised_append, PaysOne}
use Rattle.engine.proofs.Right.{same_ack, received_right, window_right, sent_right, error_right, acknowledged_right, unacknowledged_right}
use Rattle.engine.proofs.Radio.{AskedFits, RadioFits, same_spacing}
use Rattle.engine.proofs.Kept.{aged, new_standing, Pays, RadioMoves, state_at}

-- the answer is the one owed, by its own words
paid : {head : ℕ} {pool : List ℕ} {c : Call} {a : Answer} {o : Standing} → a.token ≡ o.token → a.buffer ≡ o.buffer
    → answers_transmit a.response ≡ o.transmit
    → ((set : Settings) → set.headroom ≡ head → (e : Entry) → AgreesOne o e → AnsweredRight set (record { entry = e; pool = pool; call = c; response = a.response }))
    → PaysOne head pool c a o
paid p q r right = record { token = p; buffer = q; transmit = r; right = right }

-- the same request one call later: a receive request at any limit, a transmit request at one that is higher
rx_later : (q q' : RxTask) {p : Progress} → q.token ≡ q'.token
    → LooserOne
    (record {
      token = q.token;
      buffer = q.buffer;
      transmit = false;
      wants = false;
      number = None;
      progress = p;
      limit = 1;
    })
    (rx_standing q')
rx_later q q' e =
    record {
      token = e;
      transmit = refl;
      wants = refl;
      number = λ k h. h;
      progress = λ t. let z : ◌≡◌ {A = ℕ} 0 1 = cc in absurd (omega arith);
      limit = λ t. let z : ◌≡◌ {A = ℕ} 0 1 = cc in omega arith;
    }

tx_later : (q : TxTask) (wants : Bool) (n n' : Option ℕ) (p p' : Progress) (l l' : ℕ) → l < l'
    → ((k : ℕ) → n' ≡ Some k → n ≡ Some k) → p ≡ p'
    → LooserOne (tx_standing q wants n p (suc l)) (tx_standing q wants n' p' l')
tx_later q wants n n' p p' l l' h keeps e =
    record { token = refl; transmit = refl; wants = refl; number = keeps; progress = λ t. e; limit = λ t. omega arith }

no_number : (k : ℕ) {n : Option ℕ} → None ≡ Some k → n ≡ Some k
no_number k h = let z : ◌≡◌ {A = ℕ} 0 1 = ap (λ (m : Option ℕ). cond (is_number m) 1 0) h in absurd (omega arith)

-- ---- What a call can come to

abbrev pub move_to : Settings → Wait → Action → Answers → Option ℕ → Move
move_to set wait action x k =
    record { refusal = 0; state = state_at set wait; reply = record { action = action; answers = x }; number = k }

-- no action: a refusal's
abbrev pub is_nothing : Action → Bool
is_nothing Action.Nothing = true
is_nothing Action.ReceiveRequest = false
is_nothing (Action.TryReceiveRequest d) = false
is_nothing Action.Listen = false
is_nothing (Action.Stop how) = false
is_nothing Action.ReadHeader = false
is_nothing (Action.Tx buffer n cca start ifs rollback) = false
is_nothing (Action.Rx buffer start ifs rollback) = false
is_nothing (Action.Off rollback) = false

-- what the action means: the spacing it carries, what the book then has of the radio, whether Rollback fits
pub record Acts (s : State) (c : Call) (action : Action) (set' : Settings) (w' : Wait) : Type 0 where
  pub spaced : (r : Radio) → RadioFits s.set s.wait r → Spaced r c action
  pub radio : RadioMoves s c action set' w'
  pub rollback : fits Call.Rollback w' ≡ rollback_on action
  pub something : is_nothing action ≡ false
  pub request : RequestDone c action
  pub asks : asks_of w' ≡ asks_after c action
  pub outbound : outbound_open w' ≡ outbound_after c (outbound_open s.wait)

acts : {s : State} {c : Call} {action : Action} {set' : Settings} {w' : Wait}
    → ((r : Radio) → RadioFits s.set s.wait r → Spaced r c action) → RadioMoves s c action set' w'
    → fits Call.Rollback w' ≡ rollback_on action → is_nothing action ≡ false → RequestDone c action
    → asks_of w' ≡ asks_after c action → outbound_open w' ≡ outbound_after c (outbound_open s.wait) → Acts s c action set' w'
acts spaced radio rollback something request asks outbound =
    record { spaced = spaced; radio = radio; rollback = rollback; something = something; request = request; asks = asks; outbound = outbound }

-- Either the call is refused; or it enters no request, pays what is owed first, and leaves the rest to the next wait, with the
-- own buffers as they were or with another spare one; or it enters a request. Each answer has its reason.
pub data Legal (s : State) (pool : List ℕ) (c : Call) : Move → Type 0 where
  refuse : (k : ℕ) → eqb k 0 ≡ false → Legal s pool c (refused_of s k)
  stay : {action : Action} {k : Option ℕ} (w' : Wait) (x : Answers) (rest : List Standing) → Reasons s pool c x
      → ((b : Book) → enter pool c b ≡ aged b)
      → Pays s.set.headroom pool c x (raised (standing s)) rest → Looser (all_informed c action rest) (wait_standing s.set w')
      → buffers rest ≡ buffers (wait_standing s.set w') → Acts s c action s.set w'
      → Legal s pool c (move_to s.set w' action x k)
  swap : {action : Action} {k : Option ℕ} (set' : Settings) (w' : Wait) (x : Answers) (rest : List Standing)
      → Reasons s pool c x → ((b : Book) → enter pool c b ≡ aged b) → Pays s.set.headroom pool c x (raised (standing s)) rest
      → Looser (all_informed c action rest) (wait_standing set' w')
      → ((y : ℕ) → count y (own s.set) + count y (buffers rest) ≡ count y (own set') + count y (buffers (wait_standing set' w')))
      → set' ≡ with_spare s.set set'.spare_buffer → Acts s c action set' w' → Legal s pool c (move_to set' w' action x k)
  enters : {q : Request} {action : Action} {k : Option ℕ} (l : Left) (o : Option Answer) (rest : List Standing) → Reasons s pool c (answers_of o)
      → Pays s.set.headroom pool c (answers_of o) (raised (standing s) ++ new_standing (next_of s.set pool q q.task)) rest
      → Looser (all_informed c action rest) (wait_standing s.set (Wait.Entering (Transition.Request l (next_of s.set pool q q.task))))
      → buffers rest ≡ buffers (wait_standing s.set (Wait.Entering (Transition.Request l (next_of s.set pool q q.task))))
      → Acts s c action s.set (Wait.Entering (Transition.Request l (next_of s.set pool q q.task)))
      → c ≡ Call.Request q
      → Legal s pool c (move_to s.set (Wait.Entering (Transition.Request l (next_of s.set pool q q.task))) action (answers_of o) k)

five : {s : State} {pool : List ℕ} {c : Call} → Legal s pool c (refused_of s 5)
five = refuse 5 refl

guard_legal : (s : State) (pool : List ℕ) (c : Call) (k : ℕ) (m : Move) → (k ≡ 0 → Legal s pool c m) → Legal s pool c (guarded_of s k m)
unfolding guarded_of
guard_legal s pool c k m f = go (eqb k 0) refl
  where
    go : (t : Bool) → eqb k 0 ≡ t → Legal s pool c (cond (eqb k 0) m (refused_of s k))
    go true e = rw e (f (eqb-true k 0 e))
    go false e = rw e (refuse k e)

-- a refusal number that is 0: the test does not hold, and the later ones are 0
pub passed : (t : Bool) (k r : ℕ) → 0 < k → cond t k r ≡ 0 → (t ≡ false) × (r ≡ 0)
passed true k r p h = absurd (omega arith)
passed false k r p h = (refl, h)

-- ---- Rollback does not fit where a request's task is entered
tx_stays : (l : Left) (q : TxTask) (k : Option ℕ) → fits Call.Rollback (Wait.Entering (Transition.Request l (Next.Tx q k))) ≡ false
unfolding fits rollback_fits goes_off
tx_stays Left.Off q k = refl
tx_stays (Left.Receiving p) q k = refl
tx_stays (Left.Sending p) q k = refl
tx_stays Left.SendingAck q k = refl
tx_stays (Left.ReceivingAck a) q k = refl

rx_stays : (l : Left) (q : RxTask) → fits Call.Rollback (Wait.Entering (Transition.Request l (Next.Rx q))) ≡ false
unfolding fits rollback_fits goes_off
rx_stays Left.Off q = refl
rx_stays (Left.Receiving p) q = refl
rx_stays (Left.Sending p) q = refl
rx_stays Left.SendingAck q = refl
rx_stays (Left.ReceivingAck a) q = refl

module _ (set : Settings) (pool : List ℕ) where
  H : ℕ
  H = set.headroom

  -- ---- Waits that ask
  asked_spaced : (a : Asked) (r : Radio) → AskedFits set a r → (previous_task_of set a).spacing ≡ request_ifs r
  unfolding previous_task_of tx_spacing
  asked_spaced Asked.Idle r f = rw f
  asked_spaced (Asked.AfterWindow q) r f = rw f
  asked_spaced (Asked.AfterAckWindow q t) r f = rw f
  asked_spaced (Asked.Receiving q i) r f = rw f.0.0 (ap Some f.1)
  asked_spaced (Asked.Sending q) r f = rw f.0 (ap Some f.1)
  asked_spaced (Asked.SendingAck i) r f = rw f.0 (ap Some f.1)
  asked_spaced (Asked.ReceivingAck a) r f = rw f.0 (ap Some f.2)

  module _ (q : Request) where
    N : List Standing
    N = new_standing (next_of set pool q q.task)

    -- refusals 6 to 9 are passed, so the buffer is not held
    pub free : (s : State) (a : Asked) → request_refusal s a q ≡ 0
        → (buffer_held s q.buffer ≡ false) × (token_held s.wait q.token ≡ false)
    unfolding request_refusal
    free s a h =
        let t = passed (token_held s.wait q.token) 6 _ (omega arith) h in (
          (or_parts (leb s.set.count q.buffer) _
              (passed (leb s.set.count q.buffer || buffer_held s q.buffer) 7 _ (omega arith) t.1).0).1,
          t.0,
        )

    -- the request that is entered, once the call is told
    accepts : (action : Action) (task : Task)
        → Looser (all_informed (Call.Request q) action (new_standing (next_of set pool q task))) (next_standing (next_of set pool q task))
    unfolding next_of
    accepts action (Task.Tx n cca) = ((looser_refl (next_standing (next_of set pool q (Task.Tx n cca)))).0, tt)
    accepts action Task.Rx = ((looser_refl (next_standing (next_of set pool q Task.Rx))).0, tt)

    its_buffer : (task : Task) → buffers (new_standing (next_of set pool q task)) ≡ buffers (next_standing (next_of set pool q task))
    unfolding next_of
    its_buffer (Task.Tx n cca) = refl
    its_buffer Task.Rx = refl

    request_acts : (a : Asked) (l : Left)
        → Acts (state_at set (Wait.Asking a)) (Call.Request q) (request_action q (previous_task_of set a).spacing q.task) set (Wait.Entering (Transition.Request l (next_of set pool q q.task)))
    unfolding request_action next_of
    request_acts a l = go q.task refl
      where
        go : (task : Task) → q.task ≡ task
            → Acts (state_at set (Wait.Asking a)) (Call.Request q) (request_action q (previous_task_of set a).spacing task) set (Wait.Entering (Transition.Request l (next_of set pool q task)))
        go (Task.Tx n cca) e =
            record {
              spaced = λ r f. asked_spaced a r f;
              radio = λ r f. rw e (same_spacing set n);
              rollback = tx_stays l _ _;
              something = refl;
              request = rw e ((previous_task_of set a).spacing, refl);
              asks = refl;
              outbound = refl;
            }
        go Task.Rx e =
            record { spaced = λ r f. asked_spaced a r f; radio = λ r f. refl; rollback = rx_stays l _; something = refl; request = rw e ((previous_task_of set a).spacing, refl); asks = refl; outbound = refl }

    -- the action that takes the request
    abbrev asked_action : Asked → Action
    asked_action a = request_action q (previous_task_of set a).spacing q.task

    pub taken_legal : (a : Asked) → Legal (state_at set (Wait.Asking a)) pool (Call.Request q) (taken_of set pool a q)
    unfolding taken_of previous_task_of answers_of N H
    taken_legal Asked.Idle = enters Left.Off None N tt refl (accepts (asked_action Asked.Idle) q.task) (its_buffer q.task) (request_acts Asked.Idle Left.Off) refl
    taken_legal (Asked.AfterWindow p) =
        enters Left.Off (previous_task_of set (Asked.AfterWindow p)).owed N (listening_ended p q refl refl)
        (paid refl refl refl (λ set' h e A. received_right set' pool _ _ e A RxResult.RxWindowEnded refl), refl)
        (accepts (asked_action (Asked.AfterWindow p)) q.task) (its_buffer q.task) (request_acts (Asked.AfterWindow p) Left.Off) refl
    taken_legal (Asked.AfterAckWindow p t) =
        enters Left.Off (previous_task_of set (Asked.AfterAckWindow p t)).owed N (ack_window_ended p t refl)
        (paid refl refl refl (λ set' h e A. window_right set' pool _ _ e A t refl refl refl), refl)
        (accepts (asked_action (Asked.AfterAckWindow p t)) q.task) (its_buffer q.task) (request_acts (Asked.AfterAckWindow p t) Left.Off) refl
    taken_legal (Asked.Receiving p i) =
        enters (Left.Receiving p) None _ tt refl (rx_later p p refl, accepts (asked_action (Asked.Receiving p i)) q.task) (ap (λ (l : List ℕ). p.buffer ∷ l) (its_buffer q.task))
        (request_acts (Asked.Receiving p i) (Left.Receiving p)) refl
    taken_legal (Asked.Sending p) =
        enters (Left.Sending p) None _ tt refl
        (tx_later p false _ _ _ _ 1 2 (omega arith) (λ k h. h) refl, accepts (asked_action (Asked.Sending p)) q.task) (ap (λ (l : List ℕ). p.buffer ∷ l) (its_buffer q.task))
        (request_acts (Asked.Sending p) (Left.Sending p)) refl
    taken_legal (Asked.SendingAck i) =
        enters Left.SendingAck None N tt refl (accepts (asked_action (Asked.SendingAck i)) q.task) (its_buffer q.task) (request_acts (Asked.SendingAck i) Left.SendingAck) refl
    taken_legal (Asked.ReceivingAck a) =
        enters (Left.ReceivingAck a) None _ tt refl
        (tx_later a.task true _ _ _ _ 4 5 (omega arith) (λ k h. h) refl, accepts (asked_action (Asked.ReceivingAck a)) q.task) (ap (λ (l : List ℕ). a.task.buffer ∷ l) (its_buffer q.task))
        (request_acts (Asked.ReceivingAck a) (Left.ReceivingAck a)) refl

    request_legal : (a : Asked) → Legal (state_at set (Wait.Asking a)) pool (Call.Request q) (request_of (state_at set (Wait.Asking a)) pool a q)
    unfolding request_of taken_of
    request_legal a = guard_legal (state_at set (Wait.Asking a)) pool (Call.Request q) _ _ (λ ok. taken_legal a)

  none_legal : (a : Asked) → Legal (state_at set (Wait.Asking a)) pool Call.None (none_of (state_at set (Wait.Asking a)) a)
  unfolding none_of fits rollback_fits goes_off allowed_of
  none_legal Asked.Idle = five
  none_legal (Asked.AfterWindow q) = five
  none_legal (Asked.AfterAckWindow q t) =
      stay (Wait.Asking Asked.Idle) (Answers.One (to_tx q (Response.Nack t))) [] (ack_window_ended q t refl) (λ b. refl)
      (paid refl refl refl (λ set' h e A. window_right set' pool _ _ e A t refl refl refl), refl) tt refl
      (acts (λ r f. tt) (λ r f. f) refl refl tt refl refl)
  none_legal (Asked.Receiving q i) =
      stay (Wait.Entering (Transition.Request (Left.Receiving q) Next.Off)) Answers.None _ tt (λ b. refl) refl (rx_later q q refl, tt) refl
      (acts (λ r f. tt) (λ r f. f.0) refl refl tt refl refl)
  none_legal (Asked.Sending q) =
      stay (Wait.Entering (Transition.Request (Left.Sending q) Next.Off)) Answers.None _ tt (λ b. refl) refl
      (tx_later q false _ _ _ _ 1 2 (omega arith) (λ k h. h) refl, tt) refl
      (acts (λ r f. tt) (λ r f. tt) refl refl tt refl refl)
  none_legal (Asked.SendingAck i) =
      stay (Wait.Entering (Transition.Request Left.SendingAck Next.Off)) Answers.None [] tt (λ b. refl) refl tt refl
      (acts (λ r f. tt) (λ r f. tt) refl refl tt refl refl)
  none_legal (Asked.ReceivingAck a) =
      stay (Wait.Entering (Transition.Request (Left.ReceivingAck a) Next.Off)) Answers.None _ tt (λ b. refl) refl
      (tx_later a.task true _ _ _ _ 4 5 (omega arith) (λ k h. h) refl, tt) refl
      (acts (λ r f. tt) (λ r f. tt) refl refl tt refl refl)

  asking_legal : (a : Asked) (c : Call) → Legal (state_at set (Wait.Asking a)) pool c (asking_of (state_at set (Wait.Asking a)) pool a c)
  unfolding asking_of
  asking_legal a (Call.Request q) = request_legal q a
  asking_legal a Call.None = none_legal a
  asking_legal a Call.FrameStart = five
  asking_legal a (Call.OutboundSeen start cca) = five
  asking_legal a (Call.Stopped r) = five
  asking_legal a (Call.Header arrived length) = five
  asking_legal a (Call.Entered r entry) = five
  asking_legal a (Call.Fallback r cause) = five
  asking_legal a Call.Rollback = five

  -- ---- Waits for a transition

  -- Sent or Nack, where an ACK was awaited
  ack_transmit : (a : AwaitedAck) (n : ℕ) → answers_transmit (ack_response set pool a n) ≡ true
  unfolding ack_response
  ack_transmit a n = go (acknowledges (frame_head set pool set.spare_buffer) n a.number) a.time
    where
      go : (t : Bool) (u : ℕ) → answers_transmit (cond t (Response.Sent u) (Response.Nack u)) ≡ true
      go true u = refl
      go false u = refl

  module _ (c : Call) (a : AwaitedAck) where
    -- the request as the wait has it when the answer comes
    abbrev awaited : Standing
    awaited = later (awaiting a (frame_started a.time set.spare_buffer) 5)

    heard_right : (r : RxResult) (response : Response) → Tells c (TaskResult.Rx r)
        → response ≡ cond (is_ack set pool set.spare_buffer a.number r) (Response.Sent a.time) (Response.Nack a.time)
        → (set' : Settings) → set'.headroom ≡ set.headroom → (e : Entry) → AgreesOne awaited e
        → AnsweredRight set' (record { entry = e; pool = pool; call = c; response = response })
    heard_right r response tells is set' h e A = go (is_ack set pool set.spare_buffer a.number r) refl
      where
        here : (t : Bool) → is_ack set pool set.spare_buffer a.number r ≡ t → is_ack set' pool set.spare_buffer a.number r ≡ t
        here t p = same_ack set' set pool set.spare_buffer a.number r h ∙ p

        go : (t : Bool) → is_ack set pool set.spare_buffer a.number r ≡ t
            → AnsweredRight set' (record { entry = e; pool = pool; call = c; response = response })
        go true p = rw is (rw p (acknowledged_right set' pool c awaited e A a.number a.time set.spare_buffer r refl refl refl tells (here true p)))
        go false p = rw is (rw p (unacknowledged_right set' pool c awaited e A a.number a.time set.spare_buffer r refl refl refl tells (here false p)))

  -- what is left answers what is owed for it, and no more
  leave_pays : (c : Call) (l : Left) (r : TaskResult) (M : List Standing) → Tells c r → (leave_of set pool r l).refusal ≡ 0
      → Pays set.headroom pool c (answers_of (leave_of set pool r l).owed) (raised (left_standing set l) ++ M) M
  unfolding leave_of leave_off leave_receiving leave_sending leave_sending_ack leave_receiving_ack ack_received ack_response answers_of
  leave_pays c Left.Off TaskResult.Off M tells h = refl
  leave_pays c Left.Off (TaskResult.Sent t) M tells h = absurd (omega arith)
  leave_pays c Left.Off (TaskResult.Rx r) M tells h = absurd (omega arith)
  leave_pays c (Left.Receiving q) TaskResult.Off M tells h = absurd (omega arith)
  leave_pays c (Left.Receiving q) (TaskResult.Sent t) M tells h = absurd (omega arith)
  leave_pays c (Left.Receiving q) (TaskResult.Rx r) M tells h =
      (paid refl refl refl (λ set' g e A. received_right set' pool c _ e A r refl), refl)
  leave_pays c (Left.Sending q) TaskResult.Off M tells h = absurd (omega arith)
  leave_pays c (Left.Sending q) (TaskResult.Sent t) M tells h =
      (paid refl refl refl (λ set' g e A. sent_right set' pool c _ e A t refl refl refl tells), refl)
  leave_pays c (Left.Sending q) (TaskResult.Rx r) M tells h = absurd (omega arith)
  leave_pays c Left.SendingAck TaskResult.Off M tells h = absurd (omega arith)
  leave_pays c Left.SendingAck (TaskResult.Sent t) M tells h = refl
  leave_pays c Left.SendingAck (TaskResult.Rx r) M tells h = absurd (omega arith)
  leave_pays c (Left.ReceivingAck a) TaskResult.Off M tells h = absurd (omega arith)
  leave_pays c (Left.ReceivingAck a) (TaskResult.Sent t) M tells h = absurd (omega arith)
  leave_pays c (Left.ReceivingAck a) (TaskResult.Rx (RxResult.Frame n t k)) M tells h =
      (paid refl refl (ack_transmit a n) (heard_right c a (RxResult.Frame n t k) _ tells refl), refl)
  leave_pays c (Left.ReceivingAck a) (TaskResult.Rx RxResult.RxWindowEnded) M tells h = absurd (omega arith)
  leave_pays c (Left.ReceivingAck a) (TaskResult.Rx (RxResult.CrcError t k)) M tells h =
      (paid refl refl refl (heard_right c a (RxResult.CrcError t k) _ tells refl), refl)

  -- what is left answers for its reason
  receiving_reasons : (s : State) (c : Call) (q : RxTask) (r : TaskResult)
      → ((x : RxResult) → r ≡ TaskResult.Rx x → Reason s pool c (to_rx q (Response.Received x)))
      → Reasons s pool c (answers_of (leave_receiving set q r).owed)
  unfolding leave_receiving answers_of
  receiving_reasons s c q TaskResult.Off why = tt
  receiving_reasons s c q (TaskResult.Sent t) why = tt
  receiving_reasons s c q (TaskResult.Rx x) why = why x refl

  leave_reasons : (w : Wait) (c : Call) (l : Left) (n : Next) (r : TaskResult) → w ≡ Wait.Entering (Transition.Request l n) → Tells c r
      → Reasons (state_at set w) pool c (answers_of (leave_of set pool r l).owed)
  unfolding leave_of leave_off leave_sending leave_sending_ack leave_receiving_ack ack_received ack_response answers_of
  leave_reasons w c Left.Off n TaskResult.Off e h = tt
  leave_reasons w c Left.Off n (TaskResult.Sent t) e h = tt
  leave_reasons w c Left.Off n (TaskResult.Rx r) e h = tt
  leave_reasons w c (Left.Receiving q) n r e h =
      receiving_reasons (state_at set w) c q r (λ x p. received q n x e (rw p at h))
  leave_reasons w c (Left.Sending q) n TaskResult.Off e h = tt
  leave_reasons w c (Left.Sending q) n (TaskResult.Sent t) e h = sent q n t e h
  leave_reasons w c (Left.Sending q) n (TaskResult.Rx r) e h = tt
  leave_reasons w c Left.SendingAck n TaskResult.Off e h = tt
  leave_reasons w c Left.SendingAck n (TaskResult.Sent t) e h = tt
  leave_reasons w c Left.SendingAck n (TaskResult.Rx r) e h = tt
  leave_reasons w c (Left.ReceivingAck a) n TaskResult.Off e h = tt
  leave_reasons w c (Left.ReceivingAck a) n (TaskResult.Sent t) e h = tt
  leave_reasons w c (Left.ReceivingAck a) n (TaskResult.Rx (RxResult.Frame len t k)) e h =
      heard (is_ack set pool set.spare_buffer a.number (RxResult.Frame len t k)) refl
    where
      heard : (b : Bool) → is_ack set pool set.spare_buffer a.number (RxResult.Frame len t k) ≡ b
          → Reason (state_at set w) pool c (to_tx a.task (cond (is_ack set pool set.spare_buffer a.number (RxResult.Frame len t k)) (Response.Sent a.time) (Response.Nack a.time)))
      heard true p = rw p (acknowledged a n (RxResult.Frame len t k) e h p)
      heard false p = rw p (unacknowledged a n (RxResult.Frame len t k) e h p)
  leave_reasons w c (Left.ReceivingAck a) n (TaskResult.Rx RxResult.RxWindowEnded) e h = tt
  leave_reasons w c (Left.ReceivingAck a) n (TaskResult.Rx (RxResult.CrcError t k)) e h = unacknowledged a n (RxResult.CrcError t k) e h refl

  then_reasons : (s : State) (c : Call) (x : Option Answer) (q : TxTask) (cause : Cause) → Reasons s pool c (answers_of x)
      → Reason s pool c (to_tx q (Response.Error cause)) → Reasons s pool c (then_error q cause x)
  unfolding then_error answers_of
  then_reasons s c None q cause R why = why
  then_reasons s c (Some a) q cause R why = (R, why)

  module _ (r : TaskResult) where
    arrive_legal : (entry : ℕ) (l : Left) (w : Wait) (n : Next) (x : Answers) → w ≡ Wait.Entering (Transition.Request l n)
        → Reasons (state_at set w) pool (Call.Entered r entry) x
        → Pays set.headroom pool (Call.Entered r entry) x (raised (wait_standing set w)) (raised (next_standing n))
        → Legal (state_at set w) pool (Call.Entered r entry) (arrival_of set x n)
    unfolding arrival_of sending_move fits rollback_fits allowed_of
    arrive_legal entry l w (Next.Tx q (Some k)) x e R P =
        stay (Wait.Entering (Transition.AckWait q k)) x _ R (λ b. refl) P
        (tx_later q true _ _ _ _ 0 1 (omega arith) (λ j h. h) refl, tt) refl
        (acts (λ r f. refl) (λ r f. (refl, rw e at f)) refl refl tt refl refl)
    arrive_legal entry l w (Next.Tx q None) x e R P =
        stay (Wait.Asking (Asked.Sending q)) x _ R (λ b. refl) P
        (tx_later q false _ _ _ _ 0 1 (omega arith) (λ j h. h) refl, tt) refl
        (acts (λ r f. tt) (λ r f. (refl, rw e at f)) refl refl tt refl refl)
    arrive_legal entry l w (Next.Rx q) x e R P =
        stay (Wait.Listening q) x _ R (λ b. refl) P (rx_later q q refl, tt) refl
        (acts (λ r f. tt) (λ r f. (refl, rw e at f)) refl refl tt refl refl)
    arrive_legal entry l w Next.Off x e R P =
        stay (Wait.Asking Asked.Idle) x [] R (λ b. refl) P tt refl
        (acts (λ r f. tt) (λ r f. refl) refl refl tt refl refl)

    module _ (l : Left) where
      request_entered_legal : (n : Next) (entry : ℕ) → Legal (state_at set (Wait.Entering (Transition.Request l n))) pool (Call.Entered r entry) (request_entered (state_at set (Wait.Entering (Transition.Request l n))) pool l n r)
      unfolding request_entered
      request_entered_legal n entry =
          guard_legal (state_at set (Wait.Entering (Transition.Request l n))) pool (Call.Entered r entry) _ _
          (λ ok. arrive_legal entry l (Wait.Entering (Transition.Request l n)) n (answers_of (leave_of set pool r l).owed) refl
          (leave_reasons (Wait.Entering (Transition.Request l n)) (Call.Entered r entry) l n r refl refl)
          (rw (raised_append (left_standing set l) (next_standing n)) (leave_pays (Call.Entered r entry) l r (raised (next_standing n)) refl ok)))

      -- the error of the next request comes after what was owed for the task that is left
      then_pays : (x : Option Answer) (q : TxTask) (k : Option ℕ) (cause : Cause) (os : List Standing)
          → Pays set.headroom pool (Call.Fallback r cause) (answers_of x) os (raised (next_standing (Next.Tx q k)))
          → Pays set.headroom pool (Call.Fallback r cause) (then_error q cause x) os []
      unfolding then_error answers_of
      then_pays None q k cause os P =
          rw P (paid refl refl refl (λ set' g e A. error_right set' pool _ _ e A r cause refl refl refl), refl)
      then_pays (Some a) q k cause [] P = absurd P
      then_pays (Some a) q k cause (o ∷ os) P =
          rw P.1 (P.0, (paid refl refl refl (λ set' g e A. error_right set' pool _ _ e A r cause refl refl refl), refl))

      request_fell_back_legal : (n : Next) (cause : Cause) → Legal (state_at set (Wait.Entering (Transition.Request l n))) pool (Call.Fallback r cause) (request_fell_back (state_at set (Wait.Entering (Transition.Request l n))) pool l r cause n)
      unfolding request_fell_back fits allowed_of
      request_fell_back_legal (Next.Tx q k) cause =
          guard_legal (state_at set (Wait.Entering (Transition.Request l (Next.Tx q k)))) pool (Call.Fallback r cause) _ _
          (λ ok.
          stay (Wait.Asking Asked.Idle) (then_error q cause (leave_of set pool r l).owed) []
          (then_reasons (state_at set (Wait.Entering (Transition.Request l (Next.Tx q k)))) (Call.Fallback r cause) (leave_of set pool r l).owed q cause
          (leave_reasons (Wait.Entering (Transition.Request l (Next.Tx q k))) (Call.Fallback r cause) l (Next.Tx q k) r refl refl)
          (failed l q k r cause refl refl))
          (λ b. refl)
          (rw (raised_append (left_standing set l) (next_standing (Next.Tx q k)))
          (then_pays (leave_of set pool r l).owed q k cause (raised (left_standing set l) ++ raised (next_standing (Next.Tx q k)))
          (leave_pays (Call.Fallback r cause) l r (raised (next_standing (Next.Tx q k))) refl ok)))
          tt refl
          (acts (λ r f. tt) (λ r f. refl) refl refl tt refl refl))
      request_fell_back_legal (Next.Rx q) cause = five
      request_fell_back_legal Next.Off cause = five

    rearm_legal : (q : RxTask) (entry : ℕ) → Legal (state_at set (Wait.Entering (Transition.Rearm q))) pool (Call.Entered r entry) (rearm_entered (state_at set (Wait.Entering (Transition.Rearm q))) q r)
    unfolding rearm_entered fits
    rearm_legal q entry =
        guard_legal (state_at set (Wait.Entering (Transition.Rearm q))) pool (Call.Entered r entry) _ _
        (λ ok. swap (with_spare set q.buffer) (Wait.Listening (record { token = q.token; buffer = set.spare_buffer })) Answers.None
        (raised (rx_standing q ∷ []))
        tt
        (λ b. refl)
        refl
        (rx_later q (record { token = q.token; buffer = set.spare_buffer }) refl, tt)
        (λ y. omega arith)
        refl
        (acts (λ r f. tt) (λ r f. (refl, f)) refl refl tt refl refl))

    ack_turn_legal : (q : RxTask) (i : Ifs) (entry : ℕ) → Legal (state_at set (Wait.Entering (Transition.AckTurn q i))) pool (Call.Entered r entry) (ack_turn_entered (state_at set (Wait.Entering (Transition.AckTurn q i))) q i r)
    unfolding ack_turn_entered leave_of fits allowed_of
    ack_turn_legal q i entry =
        guard_legal (state_at set (Wait.Entering (Transition.AckTurn q i))) pool (Call.Entered r entry) _ _
        (λ ok. stay (Wait.Asking (Asked.SendingAck i)) (answers_of (leave_receiving set q r).owed) []
        (receiving_reasons (state_at set (Wait.Entering (Transition.AckTurn q i))) (Call.Entered r entry) q r (λ x p. received_acknowledged q i x refl p))
        (λ b. refl) (leave_pays (Call.Entered r entry) (Left.Receiving q) r [] refl ok) tt refl
        (acts (λ r f. tt) (λ r f. (refl, f.1)) refl refl tt refl refl))

    ack_wait_legal : (q : TxTask) (k entry : ℕ) → Legal (state_at set (Wait.Entering (Transition.AckWait q k))) pool (Call.Entered r entry) (ack_wait_entered (state_at set (Wait.Entering (Transition.AckWait q k))) q k entry r)
    unfolding ack_wait_entered ack_wait_started fits
    ack_wait_legal q k entry = go r
      where
        started : (t : ℕ) (l : Option ℕ)
            → Legal (state_at set (Wait.Entering (Transition.AckWait q k))) pool (Call.Entered (TaskResult.Sent t) entry) (ack_wait_started (state_at set (Wait.Entering (Transition.AckWait q k))) (record { task = q; number = k; time = t }) l)
        started t (Some u) =
            stay (Wait.Stopping (Stop.Ack (record { task = q; number = k; time = t }))) Answers.None
            (raised (wait_standing set (Wait.Entering (Transition.AckWait q k)))) tt (λ b. refl) refl
            (tx_later q true (Some k) (Some k) _ _ 1 2 (omega arith) (λ j h. h) refl, tt) refl
            (acts (λ r f. tt) (λ r f. (refl, f.0, f.1)) refl refl tt refl refl)
        started t None = refuse 11 refl

        go : (x : TaskResult) → Legal (state_at set (Wait.Entering (Transition.AckWait q k))) pool (Call.Entered x entry) (ack_wait_entered (state_at set (Wait.Entering (Transition.AckWait q k))) q k entry x)
        go TaskResult.Off = five
        go (TaskResult.Sent t) = started t (latest_ack_start_of entry)
        go (TaskResult.Rx y) = five

  entered_legal : (e : Transition) (r : TaskResult) (entry : ℕ) → Legal (state_at set (Wait.Entering e)) pool (Call.Entered r entry) (entered_of (state_at set (Wait.Entering e)) pool r entry e)
  unfolding entered_of
  entered_legal (Transition.Request l n) r entry = request_entered_legal r l n entry
  entered_legal (Transition.Rearm q) r entry = rearm_legal r q entry
  entered_legal (Transition.AckTurn q i) r entry = ack_turn_legal r q i entry
  entered_legal (Transition.AckWait q k) r entry = ack_wait_legal r q k entry

  fell_back_legal : (e : Transition) (r : TaskResult) (cause : Cause) → Legal (state_at set (Wait.Entering e)) pool (Call.Fallback r cause) (fell_back_of (state_at set (Wait.Entering e)) pool r cause e)
  unfolding fell_back_of
  fell_back_legal (Transition.Request l n) r cause = request_fell_back_legal r l n cause
  fell_back_legal (Transition.Rearm q) r cause = five
  fell_back_legal (Transition.AckTurn q i) r cause = five
  fell_back_legal (Transition.AckWait q k) r cause = five

  -- ---- From one wait of a receive request, or of a transmit request whose ACK is awaited, to another
  module _ (w : Wait) (c : Call) (other : (b : Book) → enter pool c b ≡ aged b) where
    rx_moves : {action : Action} {k : Option ℕ} (q : RxTask) (w' : Wait) → wait_standing set w ≡ rx_standing q ∷ []
        → wait_standing set w' ≡ rx_standing q ∷ [] → Acts (state_at set w) c action set w'
        → Legal (state_at set w) pool c (move_to set w' action Answers.None k)
    rx_moves {action} q w' e e' A =
        stay {action = action} w' Answers.None (raised (rx_standing q ∷ [])) tt other (rw e) (rw e' (rx_later q q refl, tt)) (rw e') A

  rolled_back_legal : (e : Transition) → Legal (state_at set (Wait.Entering e)) pool Call.Rollback (rolled_back_of (state_at set (Wait.Entering e)) e)
  unfolding rolled_back_of request_rolled_back off_rolled_back fits
  rolled_back_legal (Transition.Request Left.Off n) = five
  rolled_back_legal (Transition.Request (Left.Receiving q) (Next.Tx p k)) = five
  rolled_back_legal (Transition.Request (Left.Receiving q) (Next.Rx p)) = five
  rolled_back_legal (Transition.Request (Left.Receiving q) Next.Off) =
      rx_moves _ _ (λ b. refl) q (Wait.Listening q) refl refl (acts (λ r f. tt) (λ r f. f) refl refl tt refl refl)
  rolled_back_legal (Transition.Request (Left.Sending q) n) = five
  rolled_back_legal (Transition.Request Left.SendingAck n) = five
  rolled_back_legal (Transition.Request (Left.ReceivingAck a) n) = five
  rolled_back_legal (Transition.Rearm q) = five
  rolled_back_legal (Transition.AckTurn q i) =
      rx_moves _ _ (λ b. refl) q (Wait.Listening q) refl refl (acts (λ r f. tt) (λ r f. f.0) refl refl tt refl refl)
  rolled_back_legal (Transition.AckWait q k) = five

  entering_legal : (e : Transition) (c : Call) → Legal (state_at set (Wait.Entering e)) pool c (entering_of (state_at set (Wait.Entering e)) pool e c)
  unfolding entering_of
  entering_legal e (Call.Request q) = five
  entering_legal e Call.None = five
  entering_legal e Call.FrameStart = five
  entering_legal e (Call.OutboundSeen start cca) = five
  entering_legal e (Call.Stopped r) = five
  entering_legal e (Call.Header arrived length) = five
  entering_legal e (Call.Entered r entry) = entered_legal e r entry
  entering_legal e (Call.Fallback r cause) = fell_back_legal e r cause
  entering_legal e Call.Rollback = rolled_back_legal e

  -- ---- Listening, and waits for the end of it
  listening_legal : (q : RxTask) (c : Call) → Legal (state_at set (Wait.Listening q)) pool c (listening_of (state_at set (Wait.Listening q)) q c)
  unfolding listening_of fits
  listening_legal q (Call.Request r) = five
  listening_legal q Call.None = five
  listening_legal q Call.FrameStart =
      rx_moves _ _ (λ b. refl) q (Wait.Stopping (Stop.Frame q)) refl refl (acts (λ r f. tt) (λ r f. f) refl refl tt refl refl)
  listening_legal q (Call.OutboundSeen start cca) =
      rx_moves _ _ (λ b. refl) q (Wait.Stopping (Stop.Outbound q)) refl refl (acts (λ r f. tt) (λ r f. f) refl refl tt refl refl)
  listening_legal q (Call.Stopped r) = five
  listening_legal q (Call.Header arrived length) = five
  listening_legal q (Call.Entered r entry) = five
  listening_legal q (Call.Fallback r cause) = five
  listening_legal q Call.Rollback = five

  stopped_legal : (p : Stop) (r : StopResult) → Legal (state_at set (Wait.Stopping p)) pool (Call.Stopped r) (stopped_of (state_at set (Wait.Stopping p)) r p)
  unfolding stopped_of frame_stopped outbound_stopped ack_stopped ack_failed fits allowed_of
  stopped_legal (Stop.Frame q) StopResult.FrameStarted =
      rx_moves _ _ (λ b. refl) q (Wait.Reading q) refl refl (acts (λ r f. tt) (λ r f. f) refl refl tt refl refl)
  stopped_legal (Stop.Frame q) (StopResult.RxWindowEnded y) = five
  stopped_legal (Stop.Frame q) StopResult.Failed = five
  stopped_legal (Stop.Outbound q) StopResult.FrameStarted =
      rx_moves _ _ (λ b. refl) q (Wait.Reading q) refl refl (acts (λ r f. tt) (λ r f. f) refl refl tt refl refl)
  stopped_legal (Stop.Outbound q) (StopResult.RxWindowEnded y) =
      guard_legal _ pool (Call.Stopped (StopResult.RxWindowEnded y)) _ _
      (λ ok. rx_moves _ _ (λ b. refl) q (Wait.Asking (Asked.AfterWindow q)) refl refl (acts (λ r f. tt) (λ r f. refl) refl refl tt refl refl))
  stopped_legal (Stop.Outbound q) StopResult.Failed =
      rx_moves _ _ (λ b. refl) q (Wait.Listening q) refl refl (acts (λ r f. tt) (λ r f. f) refl refl tt refl refl)
  stopped_legal (Stop.Ack a) StopResult.FrameStarted =
      stay (Wait.Asking (Asked.ReceivingAck a)) Answers.None _ tt (λ b. refl) refl
      (tx_later a.task true _ _ _ _ 2 4 (omega arith) (λ k h. h) refl, tt) refl
      (acts (λ r f. tt) (λ r f. f) refl refl tt refl refl)
  stopped_legal (Stop.Ack a) (StopResult.RxWindowEnded y) =
      guard_legal _ pool (Call.Stopped (StopResult.RxWindowEnded y)) _ _
      (λ ok. stay (Wait.Asking (Asked.AfterAckWindow a.task a.time)) Answers.None _ tt (λ b. refl) refl
      (tx_later a.task true _ None _ _ 2 4 (omega arith) (λ k h. no_number k h) refl, tt) refl
      (acts (λ r f. tt) (λ r f. refl) refl refl tt refl refl))
  stopped_legal (Stop.Ack a) StopResult.Failed =
      stay (Wait.Stopping (Stop.AckAgain a)) Answers.None _ tt (λ b. refl) refl
      (tx_later a.task true _ _ _ _ 2 3 (omega arith) (λ k h. h) refl, tt) refl
      (acts (λ r f. tt) (λ r f. f) refl refl tt refl refl)
  stopped_legal (Stop.AckAgain a) StopResult.FrameStarted =
      stay (Wait.Asking (Asked.ReceivingAck a)) Answers.None _ tt (λ b. refl) refl
      (tx_later a.task true _ _ _ _ 3 4 (omega arith) (λ k h. h) refl, tt) refl
      (acts (λ r f. tt) (λ r f. f) refl refl tt refl refl)
  stopped_legal (Stop.AckAgain a) (StopResult.RxWindowEnded y) =
      guard_legal _ pool (Call.Stopped (StopResult.RxWindowEnded y)) _ _
      (λ ok. stay (Wait.Asking (Asked.AfterAckWindow a.task a.time)) Answers.None _ tt (λ b. refl) refl
      (tx_later a.task true _ None _ _ 3 4 (omega arith) (λ k h. no_number k h) refl, tt) refl
      (acts (λ r f. tt) (λ r f. refl) refl refl tt refl refl))
  stopped_legal (Stop.AckAgain a) StopResult.Failed = five

  stopping_legal : (p : Stop) (c : Call) → Legal (state_at set (Wait.Stopping p)) pool c (stopping_of (state_at set (Wait.Stopping p)) p c)
  unfolding stopping_of
  stopping_legal p (Call.Request q) = five
  stopping_legal p Call.None = five
  stopping_legal p Call.FrameStart = five
  stopping_legal p (Call.OutboundSeen start cca) = five
  stopping_legal p (Call.Stopped r) = stopped_legal p r
  stopping_legal p (Call.Header arrived length) = five
  stopping_legal p (Call.Entered r entry) = five
  stopping_legal p (Call.Fallback r cause) = five
  stopping_legal p Call.Rollback = five

  -- ---- The header of a frame that is being received
  header_legal : (q : RxTask) (arrived length : ℕ) → Legal (state_at set (Wait.Reading q)) pool (Call.Header arrived length) (header_of (state_at set (Wait.Reading q)) pool q arrived length)
  unfolding header_of header_move_of receive_move fits rollback_fits allowed_of
  header_legal q arrived length =
      guard_legal _ pool (Call.Header arrived length) _ _
      (λ ok. ours (for_us set.hardware_addr set.pan_id set.implicit_broadcast facts) (number_to_acknowledge facts.addressing_fields (requested facts.frame_control facts.seq_nr)))
    where
      facts : PreliminaryFrameInfo
      facts = info_of (take arrived (drop (frame_start set q.buffer) pool))

      received : (k : Option ℕ) → Legal (state_at set (Wait.Reading q)) pool (Call.Header arrived length) (receive_move set q (ifs_of length) k)
      received (Some k) =
          rx_moves (Wait.Reading q) (Call.Header arrived length) (λ b. refl) q (Wait.Entering (Transition.AckTurn q (ifs_of length))) refl refl
          (acts (λ r f. refl) (λ r f. (f, refl)) refl refl tt refl refl)
      received None =
          rx_moves (Wait.Reading q) (Call.Header arrived length) (λ b. refl) q (Wait.Asking (Asked.Receiving q (ifs_of length))) refl refl
          (acts (λ r f. tt) (λ r f. (f, refl)) refl refl tt refl refl)

      ours : (t : Bool) (k : Option ℕ) → Legal (state_at set (Wait.Reading q)) pool (Call.Header arrived length) (cond t (receive_move set q (ifs_of length) k) (rearm_move set q))
      ours true k = received k
      ours false k =
          rx_moves (Wait.Reading q) (Call.Header arrived length) (λ b. refl) q (Wait.Entering (Transition.Rearm q)) refl refl
          (acts (λ r f. refl) (λ r f. refl) refl refl tt refl refl)

  reading_legal : (q : RxTask) (c : Call) → Legal (state_at set (Wait.Reading q)) pool c (reading_of (state_at set (Wait.Reading q)) pool q c)
  unfolding reading_of
  reading_legal q (Call.Request r) = five
  reading_legal q Call.None = five
  reading_legal q Call.FrameStart = five
  reading_legal q (Call.OutboundSeen start cca) = five
  reading_legal q (Call.Stopped r) = five
  reading_legal q (Call.Header arrived length) = header_legal q arrived length
  reading_legal q (Call.Entered r entry) = five
  reading_legal q (Call.Fallback r cause) = five
  reading_legal q Call.Rollback = five

  pub wait_legal : (w : Wait) (c : Call) → Legal (state_at set w) pool c (wait_move (state_at set w) pool c w)
  unfolding wait_move
  wait_legal (Wait.Asking a) c = asking_legal a c
  wait_legal (Wait.Entering e) c = entering_legal e c
  wait_legal (Wait.Listening q) c = listening_legal q c
  wait_legal (Wait.Stopping p) c = stopping_legal p c
  wait_legal (Wait.Reading q) c = reading_legal q c

pub step_legal : (s : State) (pool : List ℕ) (c : Call) → Legal s pool c (move_of s pool c)
unfolding move_of
step_legal s pool c = guard_legal s pool c _ _ (λ ok. wait_legal s.set pool s.wait c)
