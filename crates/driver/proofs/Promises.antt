-- The promises of a call and of a start, from what they return and write.
-- Assumes nothing.
use Rattle.tasks.specs.declared.Answers.{Answers}
use Rattle.refusals.specs.declared.Refusal.{Refusal}
use Rattle.refusals.specs.Refusals.{refusal_number}
use Rattle.refusals.proofs.Refusals.{not_zero}
use Rattle.moves.specs.declared.Accepted.{Accepted}
use Rattle.moves.specs.Move.{made, to_idle, refused_of}
use Rattle.ack.specs.Ack.{imm_ack_frame_at}
use Rattle.radio_frame.specs.RadioFrame.{frame_start}
use Rattle.driver.specs.Promises.{idle_of}
use Prim.Native.Nat.{ℕ}
use mathlib.Core.Path.{◌≡◌, refl, sym, ◌∙◌, ap}
use mathlib.Core.Bool.{Bool, true, false, cond}
use mathlib.Core.List.{List}
use lib.Dec.{eqb}
use lib.ListN.{length}
use borrow.Author.Tests.{eqb-true, eqb-false}
use native.Mathlib.Omega.{arith}
use Rattle.radio_frame.specs.declared.Settings.{Settings}
use Rattle.radio_frame.specs.Settings.{settings_refusal}
use Rattle.moves.specs.Move.{guarded_of}
use Rattle.tasks.specs.declared.Action.{Action}
use Rattle.tasks.specs.declared.Call.{Call}
use Rattle.tasks.specs.declared.State.{State}
use Rattle.engine.specs.Step.{Outcome, outcome_of}
use Rattle.engine.specs.Step.{move_of, step_of, step_pool, start_of, start_pool}
use Rattle.engine.specs.Refusals.{InOrder, RefusedUnchanged, Unchanged, no_reply}
use Rattle.engine.specs.Actions.{AcceptedActs}
use Rattle.engine.specs.Book.{is_idle}
use Rattle.engine.proofs.Actions.{accepted_acts}
use Rattle.engine.specs.AckTurns.{EveryAckTurnIsDue}
use Rattle.engine.proofs.AckTurns.{every_ack_turn_is_due}
use Rattle.engine.specs.Reasons.{EveryAnswerHasItsReason, EveryQualityIsTold}
use Rattle.driver.specs.Promises.{Stepped, Started, RefusedAgain}
use Rattle.engine.proofs.History.{history}
use Rattle.engine.proofs.Refusals.{in_order, refused_unchanged}
use Rattle.engine.proofs.Reasons.{every_answer_has_its_reason, every_quality_is_told}

pub stepped : (s : State) (pool : List ℕ) (c : Call) (r : Outcome) (written : List ℕ) → r ≡ step_of s pool c → written ≡ step_pool s pool c
    → Stepped s pool c r written
unfolding InOrder RefusedUnchanged EveryAnswerHasItsReason EveryQualityIsTold AcceptedActs EveryAckTurnIsDue
stepped s pool c r written e w =
    record {
      returns = e;
      writes = w;
      refuses = ap (λ (o : Outcome). o.refusal) e ∙ in_order s pool c;
      unchanged =
          λ h.
          let kept : Unchanged s pool c = refused_unchanged s pool c (rw e at h) in
          (ap (λ (o : Outcome). o.state) e ∙ kept.state, ap (λ (o : Outcome). o.reply) e ∙ kept.reply, w ∙ kept.pool_bytes);
      acts = λ z. rw e (accepted_acts s pool c (rw e at z));
      reasons = rw e (every_answer_has_its_reason s pool c);
      qualities = rw e (every_quality_is_told s pool c);
      ack_turns = rw (e, w) (every_ack_turn_is_due s pool c);
    }

-- what a start comes to: its refusal, and then no reply, or idle
start_cases : (set : Settings) (pool : List ℕ)
    → ((start_of set pool).refusal ≡ settings_refusal set (length pool))
    × ((settings_refusal set (length pool) ≡ 0 → ⊥) → ((start_of set pool).reply ≡ no_reply) × (start_pool set pool ≡ pool))
    × (settings_refusal set (length pool) ≡ 0 → (start_of set pool).reply.action ≡ Action.ReceiveRequest)
unfolding start_of start_pool guarded_of
start_cases set pool = go (eqb (settings_refusal set (length pool)) 0) refl
  where
    go : (t : Bool) → eqb (settings_refusal set (length pool)) 0 ≡ t
        → ((start_of set pool).refusal ≡ settings_refusal set (length pool))
        × ((settings_refusal set (length pool) ≡ 0 → ⊥) → ((start_of set pool).reply ≡ no_reply) × (start_pool set pool ≡ pool))
        × (settings_refusal set (length pool) ≡ 0 → (start_of set pool).reply.action ≡ Action.ReceiveRequest)
    go true e = (rw e (sym (eqb-true (settings_refusal set (length pool)) 0 e)), λ h. absurd (h (eqb-true _ _ e)), λ z. rw e)
    go false e = (rw e, λ h. (rw e, rw e), λ z. absurd (eqb-false _ _ e z))

waits_for_request : (action : Action) → action ≡ Action.ReceiveRequest → action ≡ Action.Nothing → ⊥
waits_for_request action p q = absurd (let z : ◌≡◌ {A = ℕ} 1 0 = ap flag (sym p ∙ q) in omega arith)
  where
    flag : Action → ℕ
    flag a = cond (is_idle a) 1 0

pub start_promises : (set : Settings) (pool : List ℕ) (r : Outcome) (written : List ℕ) → r ≡ start_of set pool → written ≡ start_pool set pool
    → Started set pool r written
start_promises set pool r written e w =
    let cases = start_cases set pool in
    let refuses : r.refusal ≡ settings_refusal set (length pool) = ap (λ (o : Outcome). o.refusal) e ∙ cases.0 in
    record {
      returns = e;
      writes = w;
      refuses = refuses;
      unchanged = λ h. let kept = cases.1 (rw refuses at h) in (ap (λ (o : Outcome). o.reply) e ∙ kept.0, w ∙ kept.1);
      acts = λ z. waits_for_request _ (ap (λ (o : Outcome). o.reply.action) e ∙ cases.2 (sym refuses ∙ z));
      always_sound = rw e (history set pool);
    }

-- ---- What a start returns and writes is the definitions': it is accepted where nothing refuses, and else refused with nothing written.
module _ (set : Settings) (pool : List ℕ) where
  pub started : (m : Accepted) (written : List ℕ) → 0 ≡ settings_refusal set (length pool) → made m ≡ to_idle set Answers.None
      → written ≡ imm_ack_frame_at pool (frame_start set set.ack_buffer) → Started set pool (outcome_of (made m)) written
  unfolding start_of guarded_of start_pool
  started m written e f w = start_promises set pool _ _ (rw (sym e) (ap outcome_of f)) (rw (sym e) w)

  pub start_refused : (refusal : Refusal) → refusal_number refusal ≡ settings_refusal set (length pool)
      → Started set pool (outcome_of (refused_of (idle_of set) (refusal_number refusal))) pool
  unfolding start_of guarded_of start_pool
  start_refused refusal e = start_promises set pool _ _ (rw (sym e, not_zero refusal) refl) (rw (sym e, not_zero refusal) refl)

-- ---- On the idle state the settings that refused a start refuse again.
pub refused_again : (set : Settings) → RefusedAgain set
unfolding RefusedAgain step_of move_of guarded_of
refused_again set pool c h = go (eqb (settings_refusal set (length pool)) 0) refl
  where
    go : (t : Bool) → eqb (settings_refusal set (length pool)) 0 ≡ t
        → (step_of (idle_of set) pool c).refusal ≡ settings_refusal set (length pool)
    go true e = absurd (h (eqb-true _ _ e))
    go false e = rw e
