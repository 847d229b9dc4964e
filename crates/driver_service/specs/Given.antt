-- A definition that only inner contracts and proofs cite: which call the wait is given.
-- Assumes nothing.
use Rattle.std.specs.Prelude.{cond, List, Option, Some, None}
use Rattle.tasks.specs.declared.Call.{Call}
use Rattle.tasks.specs.declared.Request.{Request}
use Rattle.tasks.specs.declared.Wait.{Wait}
use Rattle.waiting_line.specs.Line.{is_tx, earliest_of, names_tx}
use Rattle.service.specs.declared.ServiceCall.{ServiceCall}
use Rattle.service.specs.Service.{allowed_waits}

-- None and OutboundSeen may be barred by the line; a call on the line, and Request, are no calls of a wait
unfoldable pub given_of : List Request → Wait → ServiceCall → Option Call
given_of qs w (ServiceCall.Arrive q) = None
given_of qs w (ServiceCall.Withdraw token) = None
given_of qs w ServiceCall.Request = None
given_of qs w ServiceCall.None = cond (allowed_waits qs w) None (Some Call.None)
given_of qs w ServiceCall.FrameStart = Some Call.FrameStart
given_of qs w (ServiceCall.OutboundSeen start cca) =
    cond (names_tx start cca (earliest_of is_tx qs)) (Some (Call.OutboundSeen start cca)) None
given_of qs w (ServiceCall.Stopped r) = Some (Call.Stopped r)
given_of qs w (ServiceCall.Header arrived length) = Some (Call.Header arrived length)
given_of qs w (ServiceCall.Entered r entry) = Some (Call.Entered r entry)
given_of qs w (ServiceCall.Fallback r cause) = Some (Call.Fallback r cause)
given_of qs w ServiceCall.Rollback = Some Call.Rollback
