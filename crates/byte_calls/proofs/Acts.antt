-- What an accepted call on the line leaves, and that every other has an action, by their bytes.
-- Assumes nothing.
use Prim.Native.Nat.{ℕ}
use mathlib.Core.Path.{◌≡◌, refl, sym, ◌∙◌, ap}
use mathlib.Core.Bool.{Bool, true, false, true≢false, cond}
use mathlib.Core.List.{List, [], ◌∷◌}
use lib.Dec.{eqb}
use lib.ListN.{length, get_or, replicate}
use native.Mathlib.Omega.{arith}
use borrow.Author.Tests.{eqb-false}
use Rattle.radio_frame.specs.Settings.{settings_refusal}
use Rattle.tasks.specs.declared.Action.{Action}
use Rattle.tasks.specs.declared.Call.{Call}
use Rattle.tasks.specs.declared.Reply.{Reply}
use Rattle.tasks.specs.declared.Request.{Request}
use Rattle.tasks.specs.declared.State.{State}
use Rattle.tasks.specs.declared.StopListening.{StopListening}
use Rattle.tasks.specs.declared.TaskDirection.{TaskDirection}
use Rattle.engine.specs.Refusals.{no_reply}
use Rattle.service.specs.declared.ServiceCall.{ServiceCall}
use Rattle.service.specs.Service.{Served, is_on_line, service_of}
use Rattle.service.specs.Heard.{request_found, request_heard, heard, EveryCallHeard}
use Rattle.service.proofs.Cases.{arrives, withdraws, Case, refused, on_line, given, taken, service_case}
use Rattle.service.proofs.Heard.{every_call_heard}
use Rattle.reply_bytes.specs.Reply.{direction_code, stop_fields, action_fields, first_fields, second_fields, written_fields, written_reply}
use Rattle.call_codes.specs.declared.ExportedCall.{ExportedCall}
use Rattle.call_codes.specs.Codes.{known_of, call_of}
use Rattle.outcomes.specs.Outcomes.{or_five, unknown_of, made_of}

module _ (s : State) (qs : List Request) (po : List ℕ) where
  abbrev Silent : Served → Type 0
  Silent r = (r.reply ≡ no_reply) × ((r.state ≡ s) × (r.pool ≡ po))

  -- the wait is told nothing of a call on the line
  untold : (c : ServiceCall) → is_on_line c ≡ true → heard s qs c ≡ []
  unfolding is_on_line
  untold (ServiceCall.Arrive q) h = refl
  untold (ServiceCall.Withdraw token) h = refl
  untold ServiceCall.Request h = absurd (true≢false (sym h))
  untold ServiceCall.None h = absurd (true≢false (sym h))
  untold ServiceCall.FrameStart h = absurd (true≢false (sym h))
  untold (ServiceCall.OutboundSeen start cca) h = absurd (true≢false (sym h))
  untold (ServiceCall.Stopped r) h = absurd (true≢false (sym h))
  untold (ServiceCall.Header arrived length) h = absurd (true≢false (sym h))
  untold (ServiceCall.Entered r entry) h = absurd (true≢false (sym h))
  untold (ServiceCall.Fallback r cause) h = absurd (true≢false (sym h))
  untold ServiceCall.Rollback h = absurd (true≢false (sym h))

  pub line_silent : (x : ExportedCall) → is_on_line (call_of x) ≡ true → Silent (made_of s qs po x)
  unfolding made_of unknown_of EveryCallHeard
  line_silent x h = go (known_of x)
    where
      go : (t : Bool) → Silent (cond t (service_of s qs po (call_of x)) (unknown_of s qs po))
      go true = (every_call_heard s qs po (call_of x)).untold (untold (call_of x) h)
      go false = (refl, (refl, refl))

  -- an accepted call that is not on the line is told to the wait
  record Told (c : ServiceCall) : Type 0 where
    call : Call
    heard_it : heard s qs c ≡ call ∷ []

  told : (c : ServiceCall) (r : Served) → Case s qs po c r → is_on_line c ≡ false → r.refusal ≡ 0 → Told c
  unfolding is_on_line
  told c r (refused x k e) h z = absurd (eqb-false k 0 e z)
  told c r (on_line x line (arrives q w)) h z = absurd (true≢false h)
  told c r (on_line x line (withdraws token w)) h z = absurd (true≢false h)
  told c r (given x d e g L) h z = record { call = d; heard_it = e }
  told c r (taken a q w f) h z = record { call = Call.Request q; heard_it = ap (request_heard qs) w ∙ ap request_found f }

  pub call_acts : (x : ExportedCall) → is_on_line (call_of x) ≡ false → (made_of s qs po x).refusal ≡ 0 → (made_of s qs po x).reply.action ≡ Action.Nothing → ⊥
  unfolding made_of unknown_of EveryCallHeard
  call_acts x h = go (known_of x)
    where
      five : (k : ℕ) → or_five k ≡ 0 → ⊥
      five k = at (eqb k 0) refl
        where
          at : (t : Bool) → eqb k 0 ≡ t → cond (eqb k 0) 5 k ≡ 0 → ⊥
          at true e z = let n : ◌≡◌ {A = ℕ} 5 0 = rw e at z in absurd (omega arith)
          at false e z = eqb-false k 0 e (rw e at z)

      go : (t : Bool) → (cond t (service_of s qs po (call_of x)) (unknown_of s qs po)).refusal ≡ 0
          → (cond t (service_of s qs po (call_of x)) (unknown_of s qs po)).reply.action ≡ Action.Nothing → ⊥
      go true z a =
          let T = told (call_of x) (service_of s qs po (call_of x)) (service_case s qs po (call_of x)) h z in
          (((every_call_heard s qs po (call_of x)).told T.call T.heard_it).acts z).something a
      go false z a = five (settings_refusal s.set (length po)) z

-- ---- In bytes

pub silent_bytes : (r : Reply) → r ≡ no_reply → written_reply r ≡ replicate 48 0
unfolding written_reply written_fields action_fields first_fields second_fields
silent_bytes r e = rw e refl

-- only the action "nothing" has the code 0
no_action : (a : Action) → (action_fields a).code ≡ 0 → a ≡ Action.Nothing
unfolding action_fields direction_code stop_fields
no_action Action.Nothing h = refl
no_action Action.ReceiveRequest h = absurd (omega (arith, h))
no_action (Action.TryReceiveRequest TaskDirection.Any) h = absurd (omega (arith, h))
no_action (Action.TryReceiveRequest TaskDirection.Outbound) h = absurd (omega (arith, h))
no_action Action.Listen h = absurd (omega (arith, h))
no_action (Action.Stop StopListening.Now) h = absurd (omega (arith, h))
no_action (Action.Stop (StopListening.At t)) h = absurd (omega (arith, h))
no_action (Action.Stop (StopListening.Before t cca)) h = absurd (omega (arith, h))
no_action Action.ReadHeader h = absurd (omega (arith, h))
no_action (Action.Tx b n cca start spacing rollback) h = absurd (omega (arith, h))
no_action (Action.Rx b start spacing rollback) h = absurd (omega (arith, h))
no_action (Action.Off rollback) h = absurd (omega (arith, h))

pub action_there : (r : Reply) → (r.action ≡ Action.Nothing → ⊥) → get_or (written_reply r) 0 0 ≡ 0 → ⊥
unfolding written_reply written_fields
action_there r h z = h (no_action r.action z)
