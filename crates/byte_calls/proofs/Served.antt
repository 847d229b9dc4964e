-- Every number of what a call of the service comes to, line included, stays in its range.
-- Assumes nothing.
use Rattle.std.proofs.Common.{Option, Some, None, ℕ}
use Prim.Native.Nat.{ℕ, ◌^◌, ◌<◌}
use mathlib.Core.Path.{◌≡◌, refl}
use mathlib.Core.Bool.{Bool, true, false, cond}
use mathlib.Core.List.{List, [], ◌∷◌, ◌++◌}
use Rattle.util.specs.Bytes.{AllBytes}
use Rattle.tasks.specs.declared.Call.{Call}
use Rattle.tasks.specs.declared.Request.{Request}
use Rattle.tasks.specs.declared.State.{State}
use Rattle.tasks.specs.declared.Timestamp.{Timestamp}
use Rattle.tasks.specs.declared.Wait.{Wait}
use Rattle.requests.specs.Requests.{allowed_of, tx_length_unfit}
use Rattle.engine.specs.Step.{step_of}
use Rattle.waiting_line.specs.Line.{allows, earliest_of, without_earliest}
use Rattle.service.specs.declared.ServiceCall.{ServiceCall}
use Rattle.service.specs.Service.{Served, take_of, service_of}
use Rattle.service.specs.Heard.{request_found, request_heard, heard}
use Rattle.service.proofs.Cases.{OnLine, arrives, withdraws, Case, refused, on_line, given, taken, service_case}
use Rattle.reply_bytes.specs.Reply.{TimestampFits, CauseFits, ReplyFits}
use Rattle.line_bytes.specs.Layout.{start_fields}
use Rattle.line_bytes.specs.Valid.{Every, RequestSized, FitsInWords}
use Rattle.byte_calls.proofs.Ranges.{ResultIn, CallIn, StateIn, step_in, leaves_in}

-- ---- Something holds of every request

module _ (P : Request → Type 0) where
  every_end : (qs : List Request) (q : Request) → Every P qs → P q → Every P (qs ++ q ∷ [])
  every_end [] q E h = (h, tt)
  every_end (r ∷ qs) q E h = (E.0, every_end qs q E.1 h)

  module _ (p : Request → Bool) where
    every_without : (qs : List Request) → Every P qs → Every P (without_earliest p qs)
    every_without [] E = tt
    every_without (r ∷ qs) E = go (p r) (every_without qs E.1)
      where
        go : (t : Bool) → Every P (without_earliest p qs) → Every P (cond t qs (r ∷ without_earliest p qs))
        go true ih = E.1
        go false ih = (E.0, ih)

    every_found : (qs : List Request) (q : Request) → earliest_of p qs ≡ Some q → Every P qs → P q
    every_found [] q e E = absurd (let z : ◌≡◌ {A = Option Request} None (Some q) = e in cc)
    every_found (r ∷ qs) q e E = go (p r) e (λ h. every_found qs q h E.1)
      where
        go : (t : Bool) → cond t (Some r) (earliest_of p qs) ≡ Some q → (earliest_of p qs ≡ Some q → P q) → P q
        go true h ih = let same : r ≡ q = cc in rw same at E.0
        go false h ih = ih h

-- ---- The numbers of a call

abbrev pub ServiceCallIn : ServiceCall → Type 0
ServiceCallIn (ServiceCall.Arrive q) = RequestSized q
ServiceCallIn (ServiceCall.Withdraw token) = Unit {0}
ServiceCallIn ServiceCall.Request = Unit {0}
ServiceCallIn ServiceCall.None = Unit {0}
ServiceCallIn ServiceCall.FrameStart = Unit {0}
ServiceCallIn (ServiceCall.OutboundSeen start cca) = TimestampFits start
ServiceCallIn (ServiceCall.Stopped r) = Unit {0}
ServiceCallIn (ServiceCall.Header arrived length) = Unit {0}
ServiceCallIn (ServiceCall.Entered r entry) = ResultIn r
ServiceCallIn (ServiceCall.Fallback r cause) = ResultIn r × CauseFits cause
ServiceCallIn ServiceCall.Rollback = Unit {0}

start_fits : (start : Timestamp) → (start_fields start).time < 2 ^ 64 → TimestampFits start
unfolding start_fields
start_fits Timestamp.BestEffort h = tt
start_fits (Timestamp.Scheduled t) h = h

-- the call that the wait is told
abbrev AllIn : List Call → Type 0
AllIn [] = Unit {0}
AllIn (d ∷ ds) = CallIn d

module _ (s : State) (qs : List Request) (Q : Every RequestSized qs) where
  found_in : (p : Request → Bool) (f : Option Request) → earliest_of p qs ≡ f → AllIn (request_found f)
  found_in p None e = tt
  found_in p (Some q) e = let F = every_found RequestSized p qs q e Q in (F.token, start_fits q.start F.time)

  request_in : (w : Wait) → AllIn (request_heard qs w)
  request_in (Wait.Asking a) = found_in (allows (allowed_of a)) (earliest_of (allows (allowed_of a)) qs) refl
  request_in (Wait.Entering e) = tt
  request_in (Wait.Listening q) = tt
  request_in (Wait.Stopping p) = tt
  request_in (Wait.Reading q) = tt

  heard_in : (c : ServiceCall) → ServiceCallIn c → AllIn (heard s qs c)
  heard_in (ServiceCall.Arrive q) C = tt
  heard_in (ServiceCall.Withdraw token) C = tt
  heard_in ServiceCall.Request C = request_in s.wait
  heard_in ServiceCall.None C = tt
  heard_in ServiceCall.FrameStart C = tt
  heard_in (ServiceCall.OutboundSeen start cca) C = C
  heard_in (ServiceCall.Stopped r) C = tt
  heard_in (ServiceCall.Header arrived length) C = tt
  heard_in (ServiceCall.Entered r entry) C = C
  heard_in (ServiceCall.Fallback r cause) C = C
  heard_in ServiceCall.Rollback C = tt

-- ---- What it comes to

pub record ServedIn (r : Served) : Type 0 where
  pub state : StateIn r.state
  pub line : Every RequestSized r.line
  pub reply : ReplyFits r.reply

module _ (s : State) (qs : List Request) (pool : List ℕ) (S : StateIn s) (Q : Every RequestSized qs) (F : FitsInWords s qs) (A : AllBytes pool) where
  line_in : (c : ServiceCall) (line : List Request) → OnLine s qs pool c line → ServiceCallIn c → Every RequestSized line
  line_in c line (arrives q z) C = every_end RequestSized qs q Q C
  line_in c line (withdraws token z) C = every_without RequestSized _ qs Q

  case_in : (c : ServiceCall) (r : Served) → Case s qs pool c r → ServiceCallIn c → ServedIn r
  unfolding step_of take_of
  case_in c r (refused x k e) C = record { state = S; line = Q; reply = record { action = tt; answers = tt } }
  case_in c r (on_line x line L) C = record { state = S; line = line_in x line L C; reply = record { action = tt; answers = tt } }
  case_in c r (given x d e g L) C =
      let M = step_in s pool d S A (rw e at (heard_in s qs Q x C)) in
      record { state = M.state; line = Q; reply = M.reply }
  case_in c r (taken a q w f) C =
      let z = every_found RequestSized (allows (allowed_of a)) qs q f Q in
      let M = leaves_in s.set S.set pool A s.wait a q w S.wait z.token (start_fits q.start z.time)
      (every_found (λ r. r.buffer < s.set.count) (allows (allowed_of a)) qs q f F.buffers_in_range)
      (every_found (λ r. tx_length_unfit s.set r.task ≡ false) (allows (allowed_of a)) qs q f F.lengths) in
      record { state = M.state; line = every_without RequestSized (allows (allowed_of a)) qs Q; reply = M.reply }

  pub service_in : (c : ServiceCall) → ServiceCallIn c → ServedIn (service_of s qs pool c)
  service_in c C = case_in c (service_of s qs pool c) (service_case s qs pool c) C
