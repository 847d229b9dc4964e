-- What a call can come to: one table of the eleven calls, from which each property of all calls is proved.
-- Assumes nothing.
use Prim.Native.Nat.{ℕ}
use mathlib.Core.Path.{◌≡◌, refl}
use mathlib.Core.Bool.{Bool, true, false, cond}
use mathlib.Core.List.{List, [], ◌∷◌, ◌++◌}
use lib.Dec.{eqb}
use lib.ListN.{length}
use borrow.Author.Tests.{eqb-true}
use Rattle.std.specs.Prelude.{Option, Some, None}
use Rattle.radio_frame.specs.Settings.{settings_refusal}
use Rattle.tasks.specs.declared.Asked.{Asked}
use Rattle.tasks.specs.declared.Call.{Call}
use Rattle.tasks.specs.declared.Request.{Request}
use Rattle.tasks.specs.declared.State.{State}
use Rattle.tasks.specs.declared.Wait.{Wait}
use Rattle.requests.specs.Requests.{allowed_of}
use Rattle.waiting_line.specs.Line.{allows, has_token, is_tx, earliest_of, without_earliest, names_tx}
use Rattle.service.specs.declared.ServiceCall.{ServiceCall}
use Rattle.service.specs.Service.{Served, refused_by, wait_given, line_now, unless_refused, arrive_refusal, arrive_of, withdraw_refusal, withdraw_of, take_of, request_of, allowed_waits, none_of, outbound_seen_of, call_of, service_of}
use Rattle.service.specs.Heard.{heard}
use Rattle.service.specs.Lists.{wait_call}

module _ (s : State) (qs : List Request) (pool : List ℕ) where
  -- a call on the line that is accepted, and the line after it
  pub data OnLine : ServiceCall → List Request → Type 0 where
    arrives : (q : Request) → arrive_refusal s qs q ≡ 0 → OnLine (ServiceCall.Arrive q) (qs ++ q ∷ [])
    withdraws : (token : ℕ) → withdraw_refusal s qs token ≡ 0 → OnLine (ServiceCall.Withdraw token) (without_earliest (has_token token) qs)

  -- what the line says where it lets OutboundSeen through
  abbrev pub LetThrough : Call → Type 0
  LetThrough (Call.Request q) = Unit {0}
  LetThrough Call.None = Unit {0}
  LetThrough Call.FrameStart = Unit {0}
  LetThrough (Call.OutboundSeen start cca) = names_tx start cca (earliest_of is_tx qs) ≡ true
  LetThrough (Call.Stopped r) = Unit {0}
  LetThrough (Call.Header arrived len) = Unit {0}
  LetThrough (Call.Entered r entry) = Unit {0}
  LetThrough (Call.Fallback r cause) = Unit {0}
  LetThrough Call.Rollback = Unit {0}

  -- refused; a call on the line; a call that the wait is given; a request that leaves
  pub data Case : ServiceCall → Served → Type 0 where
    refused : (c : ServiceCall) (k : ℕ) → eqb k 0 ≡ false → Case c (refused_by s qs pool k)
    on_line : (c : ServiceCall) (line : List Request) → OnLine c line → Case c (line_now s qs pool line)
    given : (c : ServiceCall) (d : Call) → heard s qs c ≡ d ∷ [] → ((q : Request) → wait_call q c ≡ d) → LetThrough d → Case c (wait_given s qs pool d)
    taken : (a : Asked) (q : Request) → s.wait ≡ Wait.Asking a → earliest_of (allows (allowed_of a)) qs ≡ Some q
        → Case ServiceCall.Request (take_of s qs pool a (Some q))

  either_case : (c : ServiceCall) (t : Bool) (x y : Served) → (t ≡ true → Case c x) → (t ≡ false → Case c y) → Case c (cond t x y)
  either_case c true x y A B = A refl
  either_case c false x y A B = B refl

  unless_case : (c : ServiceCall) (k : ℕ) (r : Served) → (k ≡ 0 → Case c r) → Case c (unless_refused s qs pool k r)
  unfolding unless_refused
  unless_case c k r f = either_case c (eqb k 0) r (refused_by s qs pool k) (λ e. f (eqb-true k 0 e)) (refused c k)

  take_case : (a : Asked) → s.wait ≡ Wait.Asking a → (f : Option Request) → earliest_of (allows (allowed_of a)) qs ≡ f → Case ServiceCall.Request (take_of s qs pool a f)
  unfolding take_of
  take_case a w None e = refused ServiceCall.Request 9 refl
  take_case a w (Some q) e = taken a q w e

  request_case : (w : Wait) → s.wait ≡ w → Case ServiceCall.Request (request_of s qs pool w)
  unfolding request_of
  request_case (Wait.Asking a) w = take_case a w (earliest_of (allows (allowed_of a)) qs) refl
  request_case (Wait.Entering e) w = refused ServiceCall.Request 5 refl
  request_case (Wait.Listening q) w = refused ServiceCall.Request 5 refl
  request_case (Wait.Stopping p) w = refused ServiceCall.Request 5 refl
  request_case (Wait.Reading q) w = refused ServiceCall.Request 5 refl

  call_case : (c : ServiceCall) → Case c (call_of s qs pool c)
  unfolding call_of arrive_of withdraw_of none_of outbound_seen_of
  call_case (ServiceCall.Arrive q) = unless_case (ServiceCall.Arrive q) (arrive_refusal s qs q) _ (λ z. on_line (ServiceCall.Arrive q) _ (arrives q z))
  call_case (ServiceCall.Withdraw token) =
      unless_case (ServiceCall.Withdraw token) (withdraw_refusal s qs token) _ (λ z. on_line (ServiceCall.Withdraw token) _ (withdraws token z))
  call_case ServiceCall.Request = request_case s.wait refl
  call_case ServiceCall.None =
      either_case ServiceCall.None (allowed_waits qs s.wait) _ _ (λ e. refused ServiceCall.None 5 refl) (λ e. given ServiceCall.None Call.None refl (λ q. refl) tt)
  call_case ServiceCall.FrameStart = given ServiceCall.FrameStart Call.FrameStart refl (λ q. refl) tt
  call_case (ServiceCall.OutboundSeen start cca) =
      either_case (ServiceCall.OutboundSeen start cca) (names_tx start cca (earliest_of is_tx qs)) _ _
      (λ e. given (ServiceCall.OutboundSeen start cca) (Call.OutboundSeen start cca) refl (λ q. refl) e) (λ e. refused (ServiceCall.OutboundSeen start cca) 5 refl)
  call_case (ServiceCall.Stopped r) = given (ServiceCall.Stopped r) (Call.Stopped r) refl (λ q. refl) tt
  call_case (ServiceCall.Header arrived len) = given (ServiceCall.Header arrived len) (Call.Header arrived len) refl (λ q. refl) tt
  call_case (ServiceCall.Entered r entry) = given (ServiceCall.Entered r entry) (Call.Entered r entry) refl (λ q. refl) tt
  call_case (ServiceCall.Fallback r cause) = given (ServiceCall.Fallback r cause) (Call.Fallback r cause) refl (λ q. refl) tt
  call_case ServiceCall.Rollback = given ServiceCall.Rollback Call.Rollback refl (λ q. refl) tt

  pub service_case : (c : ServiceCall) → Case c (service_of s qs pool c)
  unfolding service_of
  service_case c = unless_case c (settings_refusal s.set (length pool)) (call_of s qs pool c) (λ z. call_case c)
