-- What the action of an accepted call says: there is one, and Rollback fits exactly where it had rollback on.
-- Assumes nothing.
use Prim.Native.Nat.{ℕ}
use mathlib.Core.Path.{◌≡◌, sym, ◌∙◌, ap}
use mathlib.Core.Bool.{Bool, false, cond}
use mathlib.Core.List.{List}
use native.Mathlib.Omega.{arith}
use borrow.Author.Tests.{eqb-false}
use Rattle.tasks.specs.declared.Action.{Action}
use Rattle.tasks.specs.declared.Call.{Call}
use Rattle.tasks.specs.declared.State.{State}
use Rattle.moves.specs.Move.{Move}
use Rattle.engine.specs.Step.{move_of, outcome_of, step_of}
use Rattle.engine.specs.Actions.{ActsRight, AcceptedActs}
use Rattle.engine.proofs.Table.{is_nothing, Legal, refuse, stay, swap, enters, step_legal}

something : (action : Action) → is_nothing action ≡ false → action ≡ Action.Nothing → ⊥
something action e h =
    let z : ◌≡◌ {A = ℕ} 0 1 = ap (λ (t : Bool). cond t 1 0) (sym e ∙ ap is_nothing h) in absurd (omega arith)

pub legal_acts : (s : State) (pool : List ℕ) (c : Call) (m : Move) → m.refusal ≡ 0 → Legal s pool c m → ActsRight c (outcome_of m)
legal_acts s pool c m z (refuse k e) = absurd (eqb-false k 0 e z)
legal_acts s pool c m z (stay {action} w' x rest R other P L same A) =
    record { something = something action A.something; rollback = A.rollback; request = A.request }
legal_acts s pool c m z (swap {action} set' w' x rest R other P L same spare A) =
    record { something = something action A.something; rollback = A.rollback; request = A.request }
legal_acts s pool c m z (enters {q} {action} l o rest R P L same A e) =
    record { something = something action A.something; rollback = A.rollback; request = A.request }

pub accepted_acts : AcceptedActs
unfolding AcceptedActs step_of
accepted_acts s pool c ok = legal_acts s pool c (move_of s pool c) ok (step_legal s pool c)
