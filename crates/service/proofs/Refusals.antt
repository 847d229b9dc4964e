-- The first demand: the calls refuse by the documents' conditions, in their order, and a refused call changes nothing. And which calls
-- leave the line.
-- Assumes nothing.
use Prim.Native.Nat.{ℕ}
use mathlib.Core.Path.{◌≡◌, refl, sym, ◌∙◌}
use mathlib.Core.Bool.{Bool, true, false, true≢false, cond, not, ◌&&◌, ◌||◌}
use mathlib.Core.List.{List, [], ◌∷◌}
use lib.Dec.{eqb}
use lib.ListN.{length}
use native.Mathlib.Omega.{arith}
use borrow.Author.Tests.{eqb-true}
use Rattle.std.specs.Prelude.{Some}
use Rattle.radio_frame.specs.Settings.{pool_unfit, rooms_unfit, own_buffers_unfit, settings_refusal}
use Rattle.tasks.specs.declared.Asked.{Asked}
use Rattle.tasks.specs.declared.Call.{Call}
use Rattle.tasks.specs.declared.Request.{Request}
use Rattle.tasks.specs.declared.State.{State}
use Rattle.tasks.specs.declared.Wait.{Wait}
use Rattle.requests.specs.Requests.{allowed_of, arrival_refusal}
use Rattle.engine.specs.Step.{step_of}
use Rattle.engine.specs.Refusals.{fits, later_refusal, refusal_of, InOrder, no_reply, RefusedUnchanged}
use Rattle.engine.proofs.Refusals.{in_order, refused_unchanged}
use Rattle.waiting_line.specs.Line.{allows, is_tx, any_passes, earliest_of, names_tx}
use Rattle.service.specs.declared.ServiceCall.{ServiceCall}
use Rattle.service.specs.Service.{Served, refused_by, unless_refused, arrive_refusal, arrive_of, withdraw_refusal, withdraw_of, take_of, request_of, allowed_waits, none_of, outbound_seen_of, call_of, service_of, changes_line, LineStays}
use Rattle.service.proofs.Cases.{arrives, withdraws, Case, refused, on_line, given, taken, service_case}
use Rattle.service.specs.Refusals.{is_asking, service_fits, service_later, service_refusal, ServiceInOrder, ServiceRefusedUnchanged}

module _ (s : State) (qs : List Request) (pool : List ℕ) where
  -- ---- The refusal of what is done unless it is refused

  unless_zero : (k : ℕ) (r : Served) → r.refusal ≡ 0 → (unless_refused s qs pool k r).refusal ≡ k
  unfolding unless_refused
  unless_zero k r z = go (eqb k 0) refl
    where
      go : (t : Bool) → eqb k 0 ≡ t → (cond (eqb k 0) r (refused_by s qs pool k)).refusal ≡ k
      go true e = rw e (z ∙ sym (eqb-true k 0 e))
      go false e = rw e

  settings_then : (x y z : Bool) (r : Served) (k : ℕ) → (◌≡◌ {A = ℕ} (cond x 2 (cond y 3 (cond z 4 0))) 0 → r.refusal ≡ k)
      → (unless_refused s qs pool (cond x 2 (cond y 3 (cond z 4 0))) r).refusal ≡ cond x 2 (cond y 3 (cond z 4 k))
  unfolding unless_refused
  settings_then true y z r k e = refl
  settings_then false true z r k e = refl
  settings_then false false true r k e = refl
  settings_then false false false r k e = e refl

  settings_pass : (x y z : Bool) (k : ℕ) → ◌≡◌ {A = ℕ} (cond x 2 (cond y 3 (cond z 4 0))) 0 → cond x 2 (cond y 3 (cond z 4 k)) ≡ k
  settings_pass true y z k h = absurd (omega arith)
  settings_pass false true z k h = absurd (omega arith)
  settings_pass false false true k h = absurd (omega arith)
  settings_pass false false false k h = refl

  -- ---- Each call, where the settings pass

  module _ (ok : settings_refusal s.set (length pool) ≡ 0) where
    -- the call that the wait is given
    pub given_refusal : (c : Call) → (step_of s pool c).refusal ≡ cond (not (fits c s.wait)) 5 (later_refusal s c)
    unfolding InOrder refusal_of settings_refusal
    given_refusal c =
        in_order s pool c
        ∙ settings_pass (pool_unfit s.set (length pool)) (rooms_unfit s.set) (own_buffers_unfit s.set) (cond (not (fits c s.wait)) 5 (later_refusal s c)) ok

    take_refusal : (a : Asked) → (take_of s qs pool a (earliest_of (allows (allowed_of a)) qs)).refusal ≡ cond (any_passes (allows (allowed_of a)) qs) 0 9
    unfolding take_of
    take_refusal a = go qs
      where
        go : (rs : List Request) → (take_of s qs pool a (earliest_of (allows (allowed_of a)) rs)).refusal ≡ cond (any_passes (allows (allowed_of a)) rs) 0 9
        go [] = refl
        go (r ∷ rs) = at (allows (allowed_of a) r) (go rs)
          where
            at : (t : Bool) → (take_of s qs pool a (earliest_of (allows (allowed_of a)) rs)).refusal ≡ cond (any_passes (allows (allowed_of a)) rs) 0 9
                → (take_of s qs pool a (cond t (Some r) (earliest_of (allows (allowed_of a)) rs))).refusal ≡ cond (t || any_passes (allows (allowed_of a)) rs) 0 9
            at true ih = refl
            at false ih = ih

    request_refusal_lem : (w : Wait) → (request_of s qs pool w).refusal ≡ cond (not (is_asking w)) 5 (cond (allowed_waits qs w) 0 9)
    unfolding request_of is_asking allowed_waits
    request_refusal_lem (Wait.Asking a) = take_refusal a
    request_refusal_lem (Wait.Entering e) = refl
    request_refusal_lem (Wait.Listening q) = refl
    request_refusal_lem (Wait.Stopping p) = refl
    request_refusal_lem (Wait.Reading q) = refl

    -- None and OutboundSeen: 5 by the line, or by the wait
    barred : (by-line fitting : Bool) (r : Served) → r.refusal ≡ cond (not fitting) 5 0
        → (cond by-line (refused_by s qs pool 5) r).refusal ≡ cond (not (fitting && not by-line)) 5 0
    barred true true r e = refl
    barred true false r e = refl
    barred false true r e = e
    barred false false r e = e

    allowed : (by-line fitting : Bool) (r : Served) → r.refusal ≡ cond (not fitting) 5 0
        → (cond by-line r (refused_by s qs pool 5)).refusal ≡ cond (not (fitting && by-line)) 5 0
    allowed true true r e = e
    allowed true false r e = e
    allowed false true r e = refl
    allowed false false r e = refl

    call_refusal : (c : ServiceCall) → (call_of s qs pool c).refusal ≡ cond (not (service_fits s qs pool c)) 5 (service_later s qs pool c)
    unfolding call_of arrive_of arrive_refusal arrival_refusal withdraw_of withdraw_refusal none_of outbound_seen_of service_fits service_later later_refusal
    call_refusal (ServiceCall.Arrive q) = unless_zero _ _ refl
    call_refusal (ServiceCall.Withdraw token) = unless_zero _ _ refl
    call_refusal ServiceCall.Request = request_refusal_lem s.wait
    call_refusal ServiceCall.None = barred (allowed_waits qs s.wait) (fits Call.None s.wait) _ (given_refusal Call.None)
    call_refusal ServiceCall.FrameStart = given_refusal Call.FrameStart
    call_refusal (ServiceCall.OutboundSeen start cca) =
        allowed (names_tx start cca (earliest_of is_tx qs)) (fits (Call.OutboundSeen start cca) s.wait) _ (given_refusal (Call.OutboundSeen start cca))
    call_refusal (ServiceCall.Stopped r) = given_refusal (Call.Stopped r)
    call_refusal (ServiceCall.Header arrived len) = given_refusal (Call.Header arrived len)
    call_refusal (ServiceCall.Entered r entry) = given_refusal (Call.Entered r entry)
    call_refusal (ServiceCall.Fallback r cause) = given_refusal (Call.Fallback r cause)
    call_refusal ServiceCall.Rollback = given_refusal Call.Rollback

    -- of a whole call, where the settings pass
    pub service_refusal_lem : (c : ServiceCall) → (service_of s qs pool c).refusal ≡ cond (not (service_fits s qs pool c)) 5 (service_later s qs pool c)
    unfolding service_of unless_refused
    service_refusal_lem c = rw ok (call_refusal c)

pub service_in_order : ServiceInOrder
unfolding ServiceInOrder service_of service_refusal settings_refusal
service_in_order s qs pool c =
    settings_then s qs pool (pool_unfit s.set (length pool)) (rooms_unfit s.set) (own_buffers_unfit s.set) (call_of s qs pool c) _
    (λ ok. call_refusal s qs pool ok c)

-- ---- A refused call changes nothing

module _ (s : State) (qs : List Request) (pool : List ℕ) where
  -- what is refused, or is accepted, or is the wait's
  abbrev Same : Served → Type 0
  Same r = (r.refusal ≡ 0 → ⊥) → ((r.state ≡ s) × (r.line ≡ qs)) × ((r.reply ≡ no_reply) × (r.pool ≡ pool))

  case_same : (c : ServiceCall) (r : Served) → Case s qs pool c r → Same r
  unfolding RefusedUnchanged take_of
  case_same c r (refused x k e) h = ((refl, refl), (refl, refl))
  case_same c r (on_line x line L) h = absurd (h refl)
  case_same c r (given x d e g L) h = let u = refused_unchanged s pool d h in ((u.state, refl), (u.reply, u.pool_bytes))
  case_same c r (taken a q w f) h = absurd (h refl)

pub service_refused_unchanged : ServiceRefusedUnchanged
unfolding ServiceRefusedUnchanged
service_refused_unchanged s qs pool c h =
    let u = case_same s qs pool c (service_of s qs pool c) (service_case s qs pool c) h in
    record { state = u.0.0; line = u.0.1; reply = u.1.0; pool_bytes = u.1.1 }

-- ---- Which calls leave the line

case_line : (s : State) (qs : List Request) (pool : List ℕ) (c : ServiceCall) (r : Served) → Case s qs pool c r → changes_line c ≡ false → r.line ≡ qs
unfolding changes_line
case_line s qs pool c r (refused x k e) h = refl
case_line s qs pool c r (on_line x line (arrives q z)) h = absurd (true≢false h)
case_line s qs pool c r (on_line x line (withdraws token z)) h = absurd (true≢false h)
case_line s qs pool c r (given x d e g L) h = refl
case_line s qs pool c r (taken a q w f) h = absurd (true≢false h)

pub line_stays : LineStays
unfolding LineStays
line_stays s qs pool c h = case_line s qs pool c (service_of s qs pool c) (service_case s qs pool c) h
