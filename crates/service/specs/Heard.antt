-- What the wait is told at a call, and what the laws of a call on a wait then say of it: an accepted call has its action, each answer has
-- its reason, and carries the link quality that the call tells, or none.
-- Assumes nothing.
use Rattle.std.specs.Prelude.{ℕ, ◌≡◌, List, [], ◌∷◌, Option, Some, None}
use Rattle.tasks.specs.declared.Call.{Call}
use Rattle.tasks.specs.declared.Request.{Request}
use Rattle.tasks.specs.declared.State.{State}
use Rattle.tasks.specs.declared.Wait.{Wait}
use Rattle.requests.specs.Requests.{allowed_of}
use Rattle.engine.specs.Actions.{ActsRight}
use Rattle.engine.specs.Reasons.{Reasons, AllCarryTold}
use Rattle.engine.specs.Refusals.{no_reply}
use Rattle.waiting_line.specs.Line.{allows, earliest_of}
use Rattle.service.specs.declared.ServiceCall.{ServiceCall}
use Rattle.service.specs.Service.{Served, outcome_in, service_of}

-- the request that leaves at a Request, if one does
abbrev pub request_found : Option Request → List Call
request_found None = []
request_found (Some q) = Call.Request q ∷ []

abbrev pub request_heard : List Request → Wait → List Call
request_heard qs (Wait.Asking a) = request_found (earliest_of (allows (allowed_of a)) qs)
request_heard qs (Wait.Entering e) = []
request_heard qs (Wait.Listening q) = []
request_heard qs (Wait.Stopping p) = []
request_heard qs (Wait.Reading q) = []

-- the call that the wait is told: none for a call on the line, and for a Request the one with the request that leaves
abbrev pub heard : State → List Request → ServiceCall → List Call
heard s qs (ServiceCall.Arrive q) = []
heard s qs (ServiceCall.Withdraw token) = []
heard s qs ServiceCall.Request = request_heard qs s.wait
heard s qs ServiceCall.None = Call.None ∷ []
heard s qs ServiceCall.FrameStart = Call.FrameStart ∷ []
heard s qs (ServiceCall.OutboundSeen start cca) = Call.OutboundSeen start cca ∷ []
heard s qs (ServiceCall.Stopped r) = Call.Stopped r ∷ []
heard s qs (ServiceCall.Header arrived length) = Call.Header arrived length ∷ []
heard s qs (ServiceCall.Entered r entry) = Call.Entered r entry ∷ []
heard s qs (ServiceCall.Fallback r cause) = Call.Fallback r cause ∷ []
heard s qs ServiceCall.Rollback = Call.Rollback ∷ []

pub record HeardRight (s : State) (pool : List ℕ) (d : Call) (r : Served) : Type 0 where
  pub acts : r.refusal ≡ 0 → ActsRight d (outcome_in r)
  pub reasons : Reasons s pool d r.reply.answers
  pub qualities : AllCarryTold d r.reply.answers

-- of a call that the wait is told, and of one that it is not, which has no action and no answer, and keeps state and pool
pub record AllHeard (s : State) (qs : List Request) (pool : List ℕ) (c : ServiceCall) (r : Served) : Type 0 where
  pub told : (d : Call) → heard s qs c ≡ d ∷ [] → HeardRight s pool d r
  pub untold : heard s qs c ≡ [] → (r.reply ≡ no_reply) × ((r.state ≡ s) × (r.pool ≡ pool))

unfoldable pub EveryCallHeard : Type 0
EveryCallHeard = (s : State) (qs : List Request) (pool : List ℕ) (c : ServiceCall) → AllHeard s qs pool c (service_of s qs pool c)
