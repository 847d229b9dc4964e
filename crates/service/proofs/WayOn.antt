-- No dead end: in every wait the call that `way_on_of` names is accepted.
-- Assumes nothing.
use Prim.Native.Nat.{ℕ, ◌+◌, ◌≤◌, ◌<◌}
use mathlib.Core.Path.{◌≡◌, refl, sym, ◌∙◌, ap}
use mathlib.Core.Bool.{Bool, true, false, cond, not, ◌||◌}
use mathlib.Core.List.{List, [], ◌∷◌}
use mathlib.Core.Logic.{◌⊎◌, inl, inr}
use lib.Dec.{eqb, ltb, leb}
use lib.ListN.{length}
use native.Mathlib.Omega.{arith}
use borrow.Author.Tests.{eqb-true, ne_eqb, le-ltb, lt-leb}
use Rattle.radio_frame.specs.declared.Settings.{Settings}
use Rattle.radio_frame.specs.Settings.{settings_refusal, Fit}
use Rattle.radio_frame.proofs.Laws.{zero_if_fit}
use Rattle.phy.specs.Phy.{phy_max_packet_size}
use Rattle.tasks.specs.declared.Asked.{Asked}
use Rattle.tasks.specs.declared.Call.{Call}
use Rattle.tasks.specs.declared.Left.{Left}
use Rattle.tasks.specs.declared.Request.{Request}
use Rattle.tasks.specs.declared.RxTask.{RxTask}
use Rattle.tasks.specs.declared.State.{State}
use Rattle.tasks.specs.declared.Stop.{Stop}
use Rattle.tasks.specs.declared.StopResult.{StopResult}
use Rattle.tasks.specs.declared.Task.{Task}
use Rattle.tasks.specs.declared.Transition.{Transition}
use Rattle.tasks.specs.declared.Wait.{Wait}
use Rattle.tasks.specs.Pending.{pending_of, asked_slot}
use Rattle.requests.specs.Requests.{slot_has_token, slot_has_buffer, token_held, buffer_held, tx_length_unfit, allowed_of, start_allowed, not_allowed}
use Rattle.results.specs.Results.{received_unfit}
use Rattle.engine.specs.Refusals.{none_fits, result_fits, entered_fits, stop_fits, fits, result_unfit, stop_unfit, begins_ack_wait, later_refusal}
use Rattle.engine.specs.Actions.{outbound_open}
use Rattle.engine.proofs.Kept.{state_at}
use Rattle.waiting_line.specs.Line.{allows, is_tx, any_passes}
use Rattle.service.specs.declared.ServiceCall.{ServiceCall}
use Rattle.service.specs.Service.{allowed_waits, service_of}
use Rattle.service.specs.Refusals.{is_asking, service_fits, service_later}
use Rattle.service.specs.LineBook.{Arrival, LineBook}
use Rattle.service.specs.Lists.{some_result, entered_next, free_buffer, some_arrival, is_empty, way_on_of}
use Rattle.service.proofs.Arrivals.{Search, none, found_one, search_in}
use Rattle.service.proofs.Kept.{LineKept}
use Rattle.service.proofs.Refusals.{service_refusal_lem}
use Rattle.service.proofs.Sound.{named_is_earliest}

-- idle takes any request
any_allowed : (q : Request) → allows (allowed_of Asked.Idle) q ≡ true
unfolding allowed_of not_allowed start_allowed
any_allowed q = go q.task
  where
    go : (task : Task) → not (not_allowed (allowed_of Asked.Idle) q.start task) ≡ true
    go (Task.Tx n c) = refl
    go Task.Rx = refl

-- neither of the own buffers is the free one
not_own : (x y : ℕ) → ((eqb x 0 || eqb y 0) ≡ true) → ((eqb x 1 || eqb y 1) ≡ true) → (eqb x 2 || eqb y 2) ≡ false
not_own x y f g = at (eqb x 0) refl (eqb y 0) refl (eqb x 1) refl (eqb y 1) refl f g
  where
    is : (m n : ℕ) → eqb m n ≡ true → m ≡ n
    is m n e = eqb-true m n e

    two_not : (m n : ℕ) → m ≡ 0 → n ≡ 1 → (eqb m 2 ≡ false) × (eqb n 2 ≡ false)
    two_not m n e h = (ne_eqb m 2 (λ z. omega arith), ne_eqb n 2 (λ z. omega arith))

    at : (a : Bool) → eqb x 0 ≡ a → (b : Bool) → eqb y 0 ≡ b → (c : Bool) → eqb x 1 ≡ c → (d : Bool) → eqb y 1 ≡ d
        → (eqb x 0 || eqb y 0) ≡ true → (eqb x 1 || eqb y 1) ≡ true → (eqb x 2 || eqb y 2) ≡ false
    at true p b q true r d t f g = absurd (let m = is x 0 p in let n = is x 1 r in omega arith)
    at true p b q false r true t f g = let h = two_not x y (is x 0 p) (is y 1 t) in simp (h.0, h.1)
    at true p b q false r false t f g = absurd (let z : ◌≡◌ {A = ℕ} 0 1 = ap (λ (v : Bool). cond v 1 0) (rw (r, t) at g) in omega arith)
    at false p true q true r d t f g = let h = two_not y x (is y 0 q) (is x 1 r) in simp (h.0, h.1)
    at false p true q false r true t f g = absurd (let m = is y 0 q in let n = is y 1 t in omega arith)
    at false p true q false r false t f g = absurd (let z : ◌≡◌ {A = ℕ} 0 1 = ap (λ (v : Bool). cond v 1 0) (rw (r, t) at g) in omega arith)
    at false p false q c r d t f g = absurd (let z : ◌≡◌ {A = ℕ} 0 1 = ap (λ (v : Bool). cond v 1 0) (rw (p, q) at f) in omega arith)

free_not_own : (set : Settings) → (eqb set.ack_buffer (free_buffer set) || eqb set.spare_buffer (free_buffer set)) ≡ false
free_not_own set = go (eqb set.ack_buffer 0 || eqb set.spare_buffer 0) refl (eqb set.ack_buffer 1 || eqb set.spare_buffer 1) refl
  where
    go : (t : Bool) → (eqb set.ack_buffer 0 || eqb set.spare_buffer 0) ≡ t
        → (u : Bool) → (eqb set.ack_buffer 1 || eqb set.spare_buffer 1) ≡ u
        → (eqb set.ack_buffer (free_buffer set) || eqb set.spare_buffer (free_buffer set)) ≡ false
    go true e true f = rw (e, f) (not_own set.ack_buffer set.spare_buffer e f)
    go true e false f = rw (e, f) f
    go false e u f = rw e e

free_low : (set : Settings) → free_buffer set < 3
free_low set = go (not (eqb set.ack_buffer 0 || eqb set.spare_buffer 0)) (not (eqb set.ack_buffer 1 || eqb set.spare_buffer 1))
  where
    go : (t u : Bool) → cond t 0 (cond u 1 2) < 3
    go true u = omega arith
    go false true = omega arith
    go false false = omega arith

module _ (set : Settings) (qs : List Request) (pool : List ℕ) (ok : settings_refusal set (length pool) ≡ 0) where
  numbers : Fit set (length pool)
  numbers = (zero_if_fit set (length pool)).0 ok

  -- a wait that asks takes what it allows, and None if it allows nothing that waits
  asked_on : (a : Asked) (allowed : Bool) → allowed_waits qs (Wait.Asking a) ≡ allowed → none_fits a ≡ true
      → (service_of (state_at set (Wait.Asking a)) qs pool (cond allowed ServiceCall.Request ServiceCall.None)).refusal ≡ 0
  unfolding service_fits service_later is_asking fits
  asked_on a true e n = service_refusal_lem (state_at set (Wait.Asking a)) qs pool ok ServiceCall.Request ∙ simp e
  asked_on a false e n = service_refusal_lem (state_at set (Wait.Asking a)) qs pool ok ServiceCall.None ∙ simp (e, n)

  request_on : (a : Asked) → allowed_waits qs (Wait.Asking a) ≡ true
      → (service_of (state_at set (Wait.Asking a)) qs pool ServiceCall.Request).refusal ≡ 0
  unfolding service_fits service_later is_asking
  request_on a e = service_refusal_lem (state_at set (Wait.Asking a)) qs pool ok ServiceCall.Request ∙ simp e

  -- a result of what is left is accepted
  result_on : (l : Left) → (result_fits l (some_result l) ≡ true) × (result_unfit set (some_result l) ≡ false)
  unfolding result_fits result_unfit received_unfit
  result_on Left.Off = (refl, refl)
  result_on (Left.Receiving q) = (refl, refl)
  result_on (Left.Sending q) = (refl, refl)
  result_on Left.SendingAck = (refl, refl)
  result_on (Left.ReceivingAck a) = (refl, refl)

  entered_on : (e : Transition) → (service_of (state_at set (Wait.Entering e)) qs pool (entered_next e)).refusal ≡ 0
  unfolding service_fits service_later fits entered_fits later_refusal begins_ack_wait
  entered_on (Transition.Request l n) =
      service_refusal_lem (state_at set (Wait.Entering (Transition.Request l n))) qs pool ok (ServiceCall.Entered (some_result l) 0)
      ∙ simp ((result_on l).0, (result_on l).1)
  entered_on (Transition.Rearm q) =
      service_refusal_lem (state_at set (Wait.Entering (Transition.Rearm q))) qs pool ok (ServiceCall.Entered (some_result (Left.Receiving q)) 0)
      ∙ simp ((result_on (Left.Receiving q)).0, (result_on (Left.Receiving q)).1)
  entered_on (Transition.AckTurn q i) =
      service_refusal_lem (state_at set (Wait.Entering (Transition.AckTurn q i))) qs pool ok (ServiceCall.Entered (some_result (Left.Receiving q)) 0)
      ∙ simp ((result_on (Left.Receiving q)).0, (result_on (Left.Receiving q)).1)
  entered_on (Transition.AckWait q k) =
      service_refusal_lem (state_at set (Wait.Entering (Transition.AckWait q k))) qs pool ok (ServiceCall.Entered (some_result (Left.Sending q)) 0)
      ∙ simp ((result_on (Left.Sending q)).0, (result_on (Left.Sending q)).1)

  stopped_on : (p : Stop) → (service_of (state_at set (Wait.Stopping p)) qs pool (ServiceCall.Stopped StopResult.FrameStarted)).refusal ≡ 0
  unfolding service_fits service_later fits stop_fits later_refusal stop_unfit
  stopped_on p = service_refusal_lem (state_at set (Wait.Stopping p)) qs pool ok (ServiceCall.Stopped StopResult.FrameStarted)

  listening_on : (q : RxTask) → (service_of (state_at set (Wait.Listening q)) qs pool ServiceCall.FrameStart).refusal ≡ 0
  unfolding service_fits service_later fits
  listening_on q = service_refusal_lem (state_at set (Wait.Listening q)) qs pool ok ServiceCall.FrameStart

  header_on : (w : Wait) → fits (Call.Header 0 0) w ≡ true → (service_of (state_at set w) qs pool (ServiceCall.Header 0 0)).refusal ≡ 0
  unfolding service_fits service_later later_refusal
  header_on w f =
      let short : ltb phy_max_packet_size (0 + set.fcs_length) ≡ false = le-ltb 127 (0 + set.fcs_length) (few numbers.fcs) in
      service_refusal_lem (state_at set w) qs pool ok (ServiceCall.Header 0 0) ∙ simp (f, short)
    where
      few : (set.fcs_length ≡ 2) ⊎ (set.fcs_length ≡ 4) → 0 + set.fcs_length ≤ 127
      few (inl e) = omega arith
      few (inr e) = omega arith

-- idle with an empty line
arrival_on : (set : Settings) (pool : List ℕ) (ok : settings_refusal set (length pool) ≡ 0)
    → (service_of (state_at set (Wait.Asking Asked.Idle)) [] pool (some_arrival set)).refusal ≡ 0
unfolding service_fits service_later token_held buffer_held pending_of asked_slot slot_has_token slot_has_buffer tx_length_unfit
arrival_on set pool ok =
    let low : leb set.count (free_buffer set) ≡ false =
    lt-leb set.count (free_buffer set) (omega (arith, free_low set, (numbers set [] pool ok).low)) in
    service_refusal_lem (state_at set (Wait.Asking Asked.Idle)) [] pool ok (some_arrival set) ∙ simp (low, free_not_own set)

-- ---- Every wait

named_waits : (s : State) (qs : List Request) (b : LineBook) → LineKept s qs b → outbound_open s.wait ≡ true → any_passes is_tx qs ≡ true
named_waits s qs b K o = go (search_in is_tx b.waiting)
  where
    go : Search is_tx b.waiting → any_passes is_tx qs ≡ true
    go (none n) =
        absurd (let z : ◌≡◌ {A = ℕ} 0 1 = ap (λ (l : List Arrival). length l) (sym n.earliest ∙ (named_is_earliest s qs b K o).1.1) in omega arith)
    go (found_one x O) = ap (any_passes is_tx) K.line ∙ O.any

module _ (set : Settings) (pool : List ℕ) (ok : settings_refusal set (length pool) ≡ 0) (b : LineBook) where
  idle_on : (qs : List Request) → (service_of (state_at set (Wait.Asking Asked.Idle)) qs pool (cond (is_empty qs) (some_arrival set) ServiceCall.Request)).refusal ≡ 0
  unfolding allowed_waits
  idle_on [] = arrival_on set pool ok
  idle_on (q ∷ qs) = request_on set (q ∷ qs) pool ok Asked.Idle (simp (any_allowed q))

  wait_on : (w : Wait) (qs : List Request) → LineKept (state_at set w) qs b
      → (service_of (state_at set w) qs pool (way_on_of set (is_empty qs) (allowed_waits qs w) w)).refusal ≡ 0
  unfolding allowed_waits none_fits allowed_of fits
  wait_on (Wait.Asking Asked.Idle) qs K = idle_on qs
  wait_on (Wait.Asking (Asked.AfterWindow q)) qs K =
      request_on set qs pool ok (Asked.AfterWindow q) (named_waits (state_at set (Wait.Asking (Asked.AfterWindow q))) qs b K refl)
  wait_on (Wait.Asking (Asked.AfterAckWindow q t)) qs K = asked_on set qs pool ok (Asked.AfterAckWindow q t) _ refl refl
  wait_on (Wait.Asking (Asked.Receiving q i)) qs K = asked_on set qs pool ok (Asked.Receiving q i) _ refl refl
  wait_on (Wait.Asking (Asked.Sending q)) qs K = asked_on set qs pool ok (Asked.Sending q) _ refl refl
  wait_on (Wait.Asking (Asked.SendingAck i)) qs K = asked_on set qs pool ok (Asked.SendingAck i) _ refl refl
  wait_on (Wait.Asking (Asked.ReceivingAck a)) qs K = asked_on set qs pool ok (Asked.ReceivingAck a) _ refl refl
  wait_on (Wait.Entering e) qs K = entered_on set qs pool ok e
  wait_on (Wait.Listening q) qs K = listening_on set qs pool ok q
  wait_on (Wait.Stopping p) qs K = stopped_on set qs pool ok p
  wait_on (Wait.Reading q) qs K = header_on set qs pool ok (Wait.Reading q) refl

pub way_on_is : (s : State) (qs : List Request) (b : LineBook) (pool : List ℕ) → LineKept s qs b → settings_refusal s.set (length pool) ≡ 0
    → (service_of s qs pool (way_on_of s.set (is_empty qs) (allowed_waits qs s.wait) s.wait)).refusal ≡ 0
way_on_is s qs b pool K ok = wait_on s.set pool ok b s.wait qs K
