-- What `step` and `start` promise: the three demands together, when a received frame is acknowledged, and which link quality an
-- answer carries.
-- Assumes nothing.
use Rattle.std.specs.Prelude.{ℕ, ◌≡◌, List, length}
use Rattle.radio_frame.specs.declared.Settings.{Settings}
use Rattle.radio_frame.specs.Settings.{settings_refusal}
use Rattle.tasks.specs.declared.Action.{Action}
use Rattle.tasks.specs.declared.Call.{Call}
use Rattle.tasks.specs.declared.State.{State}
use Rattle.tasks.specs.declared.Asked.{Asked}
use Rattle.tasks.specs.declared.Wait.{Wait}
use Rattle.engine.specs.Step.{Outcome, step_of, step_pool, start_of, start_pool}
use Rattle.engine.specs.Refusals.{refusal_of, no_reply}
use Rattle.engine.specs.Reasons.{Reasons, AllCarryTold}
use Rattle.engine.specs.Actions.{ActsRight}
use Rattle.engine.specs.AckTurns.{AckTurns}
use Rattle.engine.specs.Lists.{AlwaysSound}

-- a call on a state and a pool, what it returns and the pool's bytes after it
pub record Stepped (s : State) (pool : List ℕ) (c : Call) (r : Outcome) (written : List ℕ) : Type 0 where
  -- the second demand: reply, state and every byte of the pool are the definitions'
  pub returns : r ≡ step_of s pool c
  pub writes : written ≡ step_pool s pool c
  -- the first demand: the refusal is the first of document 01's list that holds ..
  pub refuses : r.refusal ≡ refusal_of s pool c
  -- .. "A refusal returns its number, no action and no answer; state, pool .. keep their bytes" ..
  pub unchanged : (r.refusal ≡ 0 → ⊥) → (r.state ≡ s) × (r.reply ≡ no_reply) × (written ≡ pool)
  -- .. and "An accepted call gives .. one radio or queue action": a Request's is what it asks for, and Rollback fits next exactly if
  -- it had rollback on
  pub acts : r.refusal ≡ 0 → ActsRight c r
  -- each answer has its reason
  pub reasons : Reasons s pool c r.reply.answers
  -- a receive answer carries the link quality that the radio tells in this call, every other answer none: E6
  pub qualities : AllCarryTold c r.reply.answers
  -- a received frame is acknowledged exactly where it is due: E4, a broadcast never
  pub ack_turns : AckTurns s pool c r written

-- the state that an accepted start returns; a refused one returns none
abbrev pub idle_of : Settings → State
idle_of set = record { set = set; wait = Wait.Asking Asked.Idle }

-- on it the same pool is refused again, whatever the call, by the number that the start was refused by
unfoldable pub RefusedAgain : Settings → Type 0
RefusedAgain set =
    (pool : List ℕ) (c : Call) → (settings_refusal set (length pool) ≡ 0 → ⊥)
    → (step_of (idle_of set) pool c).refusal ≡ settings_refusal set (length pool)

-- a start
pub record Started (set : Settings) (pool : List ℕ) (r : Outcome) (written : List ℕ) : Type 0 where
  pub returns : r ≡ start_of set pool
  pub writes : written ≡ start_pool set pool
  -- the first demand: the refusal is the first of 2, 3 and 4 that holds, a refused start says and writes nothing, and an accepted
  -- one has an action
  pub refuses : r.refusal ≡ settings_refusal set (length pool)
  pub unchanged : (r.refusal ≡ 0 → ⊥) → (r.reply ≡ no_reply) × (written ≡ pool)
  pub acts : r.refusal ≡ 0 → r.reply.action ≡ Action.Nothing → ⊥
  -- the third demand, and the hazard of a stray acknowledgement: on every list of calls that follows
  pub always_sound : AlwaysSound set r
