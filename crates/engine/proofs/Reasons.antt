-- Every answer has its reason, and carries the link quality that the call tells.
-- Assumes nothing.
use Prim.Native.Nat.{ℕ}
use mathlib.Core.Path.{◌≡◌, refl, sym, ap}
use mathlib.Core.List.{List}
use Rattle.tasks.specs.declared.Answer.{Answer}
use Rattle.tasks.specs.declared.Answers.{Answers}
use Rattle.tasks.specs.declared.Call.{Call}
use Rattle.tasks.specs.declared.State.{State}
use Rattle.tasks.specs.declared.TaskResult.{TaskResult}
use Rattle.moves.specs.Move.{Move}
use Rattle.engine.specs.Step.{move_of, step_of}
use Rattle.engine.specs.Answered.{Tells}
use Rattle.engine.specs.Reasons.{Reason, listening_ended, received, received_acknowledged, failed, sent, acknowledged, unacknowledged, ack_window_ended, Reasons, EveryAnswerHasItsReason, left_quality, told_quality, CarriesTold, AllCarryTold, EveryQualityIsTold}
use Rattle.engine.proofs.Table.{Legal, refuse, stay, swap, enters, step_legal}

pub legal_reasons : (s : State) (pool : List ℕ) (c : Call) (m : Move) → Legal s pool c m → Reasons s pool c m.reply.answers
legal_reasons s pool c m (refuse k e) = tt
legal_reasons s pool c m (stay w' x rest R other P L same A) = R
legal_reasons s pool c m (swap set' w' x rest R other P L same head A) = R
legal_reasons s pool c m (enters l x rest R P L same A e) = R

pub every_answer_has_its_reason : EveryAnswerHasItsReason
unfolding EveryAnswerHasItsReason step_of
every_answer_has_its_reason s pool c = legal_reasons s pool c (move_of s pool c) (step_legal s pool c)

-- the quality of the result that a call tells is the one that it tells
tells_quality : (c : Call) (r : TaskResult) → Tells c r → left_quality r ≡ told_quality c
tells_quality (Call.Request q) r h = absurd h
tells_quality Call.None r h = absurd h
tells_quality Call.FrameStart r h = absurd h
tells_quality (Call.OutboundSeen start cca) r h = absurd h
tells_quality (Call.Stopped x) r h = absurd h
tells_quality (Call.Header arrived len) r h = absurd h
tells_quality (Call.Entered x entry) r h = sym (ap (λ (y : TaskResult). left_quality y) h)
tells_quality (Call.Fallback x cause) r h = sym (ap (λ (y : TaskResult). left_quality y) h)
tells_quality Call.Rollback r h = absurd h

reason_carries : (s : State) (pool : List ℕ) (c : Call) (x : Answer) → Reason s pool c x → CarriesTold c x
reason_carries s pool c x (listening_ended q p w h) = sym (ap (λ (d : Call). told_quality d) h)
reason_carries s pool c x (received q n r w t) = tells_quality c (TaskResult.Rx r) t
reason_carries s pool c x (received_acknowledged q i r w t) = tells_quality c (TaskResult.Rx r) t
reason_carries s pool c x (failed l q k r cause w h) = refl
reason_carries s pool c x (sent q n t w h) = refl
reason_carries s pool c x (acknowledged a n r w t h) = refl
reason_carries s pool c x (unacknowledged a n r w t h) = refl
reason_carries s pool c x (ack_window_ended q t w) = refl

pub reasons_carry : (s : State) (pool : List ℕ) (c : Call) (x : Answers) → Reasons s pool c x → AllCarryTold c x
reasons_carry s pool c Answers.None R = tt
reasons_carry s pool c (Answers.One x) R = reason_carries s pool c x R
reasons_carry s pool c (Answers.Two x y) R = (reason_carries s pool c x R.0, reason_carries s pool c y R.1)

pub every_quality_is_told : EveryQualityIsTold
unfolding EveryQualityIsTold EveryAnswerHasItsReason
every_quality_is_told s pool c = reasons_carry s pool c (step_of s pool c).reply.answers (every_answer_has_its_reason s pool c)
