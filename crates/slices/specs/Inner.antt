-- Definitions that only inner contracts and proofs cite: how the slices are read and written.
-- Assumes nothing.
use Rattle.std.specs.Prelude.{ℕ, ◌≡◌, cond, List, Option, Some, None}
use Rattle.engine.specs.Step.{Outcome}
use Rattle.state_bytes.specs.Layout.{state_at, written_state}
use Rattle.reply_bytes.specs.Reply.{written_reply}
use Rattle.util.specs.Bytes.{stored_over}
use Rattle.slices.specs.Slices.{form_ok, if_accepted}
use Rattle.tasks.specs.declared.State.{State}

-- the state that the slices hold, unless they are refused
unfoldable pub read_of : List ℕ → List ℕ → ℕ → Option State
read_of st li reply = cond (form_ok st li reply) (Some (state_at st)) None

-- what is written for an outcome
pub record Finished (o : Outcome) (st re : List ℕ) (r : ℕ) (st' re' : List ℕ) : Type 0 where
  pub result : r ≡ o.refusal
  pub state : st' ≡ if_accepted o.refusal (stored_over (written_state o.state) st) st
  pub reply : re' ≡ if_accepted o.refusal (stored_over (written_reply o.reply) re) re
