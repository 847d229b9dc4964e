-- What a call and a start of the driver service promise: the first demand, the second, and of a start the third.
-- Assumes nothing.
use Rattle.std.specs.Prelude.{ℕ, ◌≡◌, List, length}
use Rattle.radio_frame.specs.declared.Settings.{Settings}
use Rattle.radio_frame.specs.Settings.{settings_refusal}
use Rattle.tasks.specs.declared.Action.{Action}
use Rattle.tasks.specs.declared.Request.{Request}
use Rattle.tasks.specs.declared.State.{State}
use Rattle.engine.specs.Step.{Outcome}
use Rattle.engine.specs.Refusals.{no_reply}
use Rattle.service.specs.declared.ServiceCall.{ServiceCall}
use Rattle.service.specs.Service.{Served, service_of, service_start}
use Rattle.service.specs.Refusals.{service_refusal}
use Rattle.service.specs.Heard.{AllHeard}
use Rattle.service.specs.Lists.{AlwaysServed}

-- what is returned, with the line and the pool's bytes after it; the line, as its requests in the order of their arrival
abbrev pub served : Outcome → List Request → List ℕ → Served
served r line written = record { refusal = r.refusal; state = r.state; line = line; reply = r.reply; pool = written }

-- a call on a state, a line and a pool
pub record ServiceStepped (s : State) (qs : List Request) (pool : List ℕ) (c : ServiceCall) (r : Outcome) (line : List Request) (written : List ℕ) : Type 0 where
  -- the second demand: reply, state, line and every byte of the pool are the definition's
  pub returns : served r line written ≡ service_of s qs pool c
  -- the first demand: the refusal is the first of the documents' lists that holds, and a refusal keeps state, line and pool and has no
  -- action and no answer
  pub refuses : r.refusal ≡ service_refusal s qs pool c
  pub unchanged : (r.refusal ≡ 0 → ⊥) → ((r.state ≡ s) × (line ≡ qs)) × ((r.reply ≡ no_reply) × (written ≡ pool))
  -- of the call that the wait is told: an accepted one has its action, each answer has its reason, and carries the link quality that the
  -- call tells, or none; a call on the line has no action and no answer
  pub heard : AllHeard s qs pool c (service_of s qs pool c)

-- a start
pub record ServiceStarted (set : Settings) (qs : List Request) (pool : List ℕ) (r : Outcome) (line : List Request) (written : List ℕ) : Type 0 where
  pub returns : served r line written ≡ service_start set qs pool
  pub refuses : r.refusal ≡ settings_refusal set (length pool)
  pub unchanged : (r.refusal ≡ 0 → ⊥) → (line ≡ qs) × ((r.reply ≡ no_reply) × (written ≡ pool))
  pub acts : r.refusal ≡ 0 → r.reply.action ≡ Action.Nothing → ⊥
  -- the third demand, and the hazard of a stray acknowledgement: on every list of the eleven calls that follows
  pub always_served : AlwaysServed set (service_start set qs pool)
