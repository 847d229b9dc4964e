-- The laws of a call on a wait hold of every call that the wait is told.
-- Assumes nothing.
use Prim.Native.Nat.{ℕ}
use mathlib.Core.Path.{◌≡◌, refl, sym, ◌∙◌, ap}
use mathlib.Core.List.{List, [], ◌∷◌}
use lib.ListN.{length}
use native.Mathlib.Omega.{arith}
use borrow.Author.Tests.{eqb-false}
use Rattle.std.specs.Prelude.{Some}
use Rattle.tasks.specs.declared.Asked.{Asked}
use Rattle.tasks.specs.declared.Call.{Call}
use Rattle.tasks.specs.declared.Request.{Request}
use Rattle.tasks.specs.declared.State.{State}
use Rattle.tasks.specs.declared.Wait.{Wait}
use Rattle.requests.specs.Requests.{allowed_of}
use Rattle.moves.specs.Move.{Move}
use Rattle.asking.specs.Asking.{taken_of}
use Rattle.engine.specs.Actions.{AcceptedActs}
use Rattle.engine.specs.Reasons.{EveryAnswerHasItsReason, EveryQualityIsTold}
use Rattle.engine.proofs.Table.{Legal}
use Rattle.engine.proofs.Actions.{legal_acts, accepted_acts}
use Rattle.engine.proofs.Reasons.{legal_reasons, reasons_carry, every_answer_has_its_reason, every_quality_is_told}
use Rattle.waiting_line.specs.Line.{allows, earliest_of}
use Rattle.service.specs.declared.ServiceCall.{ServiceCall}
use Rattle.service.specs.Service.{Served, wait_given, take_of, service_of}
use Rattle.service.specs.Heard.{request_found, request_heard, heard, HeardRight, AllHeard, EveryCallHeard}
use Rattle.service.proofs.Cases.{OnLine, arrives, withdraws, Case, refused, on_line, given, taken, service_case}
use Rattle.service.proofs.Steps.{legal_taken, taken_zero}

-- a list of one is another's
pub head_is : (c d : Call) → c ∷ [] ≡ d ∷ [] → c ≡ d
head_is c d e = ap first e
  where
    first : List Call → Call
    first [] = c
    first (x ∷ xs) = x

pub one_not_none : (c : Call) → c ∷ [] ≡ [] → ⊥
one_not_none c e = let z : ◌≡◌ {A = ℕ} 1 0 = ap (λ (l : List Call). length l) e in omega arith

module _ (s : State) (qs : List Request) (pool : List ℕ) where
  -- the call that is told is the one that the wait is given
  given_right : (d x : Call) → d ≡ x → HeardRight s pool x (wait_given s qs pool d)
  unfolding AcceptedActs EveryAnswerHasItsReason EveryQualityIsTold
  given_right d x e =
      rw (sym e)
      (record { acts = λ z. accepted_acts s pool d z; reasons = every_answer_has_its_reason s pool d; qualities = every_quality_is_told s pool d })

  -- the request that leaves
  taken_right : (a : Asked) (q : Request) → s.wait ≡ Wait.Asking a → HeardRight s pool (Call.Request q) (take_of s qs pool a (Some q))
  unfolding take_of taken_of
  taken_right a q w =
      let m : Move = taken_of s.set pool a q in
      let legal : Legal s pool (Call.Request q) m = legal_taken s pool a q w in
      let R = legal_reasons s pool (Call.Request q) m legal in
      record {
        acts = λ z. legal_acts s pool (Call.Request q) m (taken_zero s.set pool a q) legal;
        reasons = R;
        qualities = reasons_carry s pool (Call.Request q) m.reply.answers R;
      }

  pub taken_told : (a : Asked) (q : Request) (d : Call) → s.wait ≡ Wait.Asking a → earliest_of (allows (allowed_of a)) qs ≡ Some q
      → heard s qs ServiceCall.Request ≡ d ∷ [] → Call.Request q ≡ d
  taken_told a q d w f h = head_is (Call.Request q) d (sym (ap (request_heard qs) w ∙ ap request_found f) ∙ h)

  unheard : (c : ServiceCall) (line : List Request) → OnLine s qs pool c line → heard s qs c ≡ []
  unheard c line (arrives q z) = refl
  unheard c line (withdraws token z) = refl

  case_heard : (c : ServiceCall) (r : Served) → Case s qs pool c r → AllHeard s qs pool c r
  case_heard c r (refused x k e) =
      record { told = λ d h. record { acts = λ z. absurd (eqb-false k 0 e z); reasons = tt; qualities = tt }; untold = λ h. (refl, (refl, refl)) }
  case_heard c r (on_line x line L) = record { told = λ d h. absurd (one_not_none d (sym h ∙ unheard x line L)); untold = λ h. (refl, (refl, refl)) }
  case_heard c r (given x d e g L) = record { told = λ y h. given_right d y (head_is d y (sym e ∙ h)); untold = λ h. absurd (one_not_none d (sym e ∙ h)) }
  case_heard c r (taken a q w f) =
      record {
        told = λ d h. rw (sym (taken_told a q d w f h)) (taken_right a q w);
        untold = λ h. absurd (one_not_none (Call.Request q) (sym (ap (request_heard qs) w ∙ ap request_found f) ∙ h));
      }

pub every_call_heard : EveryCallHeard
unfolding EveryCallHeard
every_call_heard s qs pool c = case_heard s qs pool c (service_of s qs pool c) (service_case s qs pool c)
