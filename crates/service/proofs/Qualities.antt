-- The link quality decides nothing in the eleven calls: the calls that a wait is given have it from the engine's law, and the others tell
-- none and answer with none.
-- Assumes nothing.
use Prim.Native.Nat.{ℕ}
use mathlib.Core.Path.{◌≡◌, refl}
use mathlib.Core.Bool.{Bool, true, false, cond}
use mathlib.Core.List.{List}
use lib.Dec.{eqb}
use lib.ListN.{length}
use Rattle.std.specs.Prelude.{Option, Some, None}
use Rattle.radio_frame.specs.Settings.{settings_refusal}
use Rattle.tasks.specs.declared.Asked.{Asked}
use Rattle.tasks.specs.declared.Call.{Call}
use Rattle.tasks.specs.declared.Request.{Request}
use Rattle.tasks.specs.declared.State.{State}
use Rattle.tasks.specs.declared.Wait.{Wait}
use Rattle.tasks.specs.Answers.{answers_of}
use Rattle.requests.specs.Requests.{allowed_of}
use Rattle.asking.specs.Asking.{previous_task_of, taken_of}
use Rattle.engine.specs.Qualities.{call_with, QualityDecidesNothing}
use Rattle.engine.proofs.Qualities.{quality_decides_nothing}
use Rattle.waiting_line.specs.Line.{allows, is_tx, earliest_of, names_tx}
use Rattle.service.specs.declared.ServiceCall.{ServiceCall}
use Rattle.service.specs.Service.{Served, refused_by, wait_given, unless_refused, arrive_refusal, arrive_of, withdraw_refusal, withdraw_of, take_of, request_of, allowed_waits, none_of, outbound_seen_of, call_of, service_of}
use Rattle.service.specs.Qualities.{service_call_with, served_with, QualityDecidesNoCall}

module _ (f : ℕ → ℕ) (s : State) (qs : List Request) (pool : List ℕ) where
  given_with : (c : Call) → wait_given s qs pool (call_with f c) ≡ served_with f (wait_given s qs pool c)
  unfolding QualityDecidesNothing
  given_with c = let q = quality_decides_nothing f s pool c in rw (q.0, q.1)

  either_with : (t : Bool) (w x y z : Served) → w ≡ served_with f x → y ≡ served_with f z → cond t w y ≡ served_with f (cond t x z)
  either_with true w x y z e g = e
  either_with false w x y z e g = g

  unless_with : (k : ℕ) (w x : Served) → w ≡ served_with f x → unless_refused s qs pool k w ≡ served_with f (unless_refused s qs pool k x)
  unfolding unless_refused
  unless_with k w x e = either_with (eqb k 0) w x (refused_by s qs pool k) (refused_by s qs pool k) e refl

  -- what a Request answers at once has no quality
  taken_with : (a : Asked) (q : Request) → take_of s qs pool a (Some q) ≡ served_with f (take_of s qs pool a (Some q))
  unfolding take_of taken_of previous_task_of answers_of
  taken_with Asked.Idle q = refl
  taken_with (Asked.AfterWindow p) q = refl
  taken_with (Asked.AfterAckWindow p t) q = refl
  taken_with (Asked.Receiving p i) q = refl
  taken_with (Asked.Sending p) q = refl
  taken_with (Asked.SendingAck i) q = refl
  taken_with (Asked.ReceivingAck b) q = refl

  take_with : (a : Asked) (x : Option Request) → take_of s qs pool a x ≡ served_with f (take_of s qs pool a x)
  unfolding take_of
  take_with a None = refl
  take_with a (Some q) = taken_with a q

  request_with : (w : Wait) → request_of s qs pool w ≡ served_with f (request_of s qs pool w)
  unfolding request_of
  request_with (Wait.Asking a) = take_with a (earliest_of (allows (allowed_of a)) qs)
  request_with (Wait.Entering e) = refl
  request_with (Wait.Listening q) = refl
  request_with (Wait.Stopping p) = refl
  request_with (Wait.Reading q) = refl

  call_with_lem : (c : ServiceCall) → call_of s qs pool (service_call_with f c) ≡ served_with f (call_of s qs pool c)
  unfolding call_of arrive_of withdraw_of none_of outbound_seen_of
  call_with_lem (ServiceCall.Arrive q) = unless_with (arrive_refusal s qs q) _ _ refl
  call_with_lem (ServiceCall.Withdraw token) = unless_with (withdraw_refusal s qs token) _ _ refl
  call_with_lem ServiceCall.Request = request_with s.wait
  call_with_lem ServiceCall.None = either_with (allowed_waits qs s.wait) _ _ _ _ refl (given_with Call.None)
  call_with_lem ServiceCall.FrameStart = given_with Call.FrameStart
  call_with_lem (ServiceCall.OutboundSeen start cca) =
      either_with (names_tx start cca (earliest_of is_tx qs)) _ _ _ _ (given_with (Call.OutboundSeen start cca)) refl
  call_with_lem (ServiceCall.Stopped r) = given_with (Call.Stopped r)
  call_with_lem (ServiceCall.Header arrived len) = given_with (Call.Header arrived len)
  call_with_lem (ServiceCall.Entered r entry) = given_with (Call.Entered r entry)
  call_with_lem (ServiceCall.Fallback r cause) = given_with (Call.Fallback r cause)
  call_with_lem ServiceCall.Rollback = given_with Call.Rollback

pub quality_decides_no_call : QualityDecidesNoCall
unfolding QualityDecidesNoCall service_of
quality_decides_no_call f s qs pool c = unless_with f s qs pool (settings_refusal s.set (length pool)) _ _ (call_with_lem f s qs pool c)
