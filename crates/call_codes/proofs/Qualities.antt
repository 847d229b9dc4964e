-- A link quality that the codes leave unused is ignored.
-- Assumes nothing.
use Prim.Native.Nat.{ℕ, zero, suc, ◌<◌}
use mathlib.Core.Path.{◌≡◌, refl, ap}
use mathlib.Core.Bool.{true, false}
use mathlib.Core.List.{[], ◌∷◌}
use lib.Dec.{ltb}
use lib.ListN.{get_or}
use native.Mathlib.Omega.{arith}
use borrow.Author.Tests.{ltb-true}
use Rattle.std.proofs.lemmas.Bool.{and_parts}
use Rattle.service.specs.declared.ServiceCall.{ServiceCall}
use Rattle.tasks.specs.declared.StopResult.{StopResult}
use Rattle.tasks.specs.declared.TaskResult.{TaskResult}
use Rattle.call_codes.specs.declared.ExportedCall.{ExportedCall}
use Rattle.call_codes.specs.Codes.{stop_of, result_of, cause_table, cause_of, known, known_of, call_of, uses_quality, UnusedQualityIgnored}

-- two tables of five cases that agree in those whose codes leave the quality unused
unused_same : {A : Type 0} (a b c d e c' e' last last' : A) (code : ℕ) → ltb code 5 ≡ true → uses_quality code ≡ false
    → get_or (a ∷ b ∷ c ∷ d ∷ e ∷ []) code last ≡ get_or (a ∷ b ∷ c' ∷ d ∷ e' ∷ []) code last'
unused_same a b c d e c' e' last last' zero h u = refl
unused_same a b c d e c' e' last last' (suc zero) h u = refl
unused_same a b c d e c' e' last last' (suc (suc zero)) h u = cc
unused_same a b c d e c' e' last last' (suc (suc (suc zero))) h u = refl
unused_same a b c d e c' e' last last' (suc (suc (suc (suc zero)))) h u = cc
unused_same a b c d e c' e' last last' (suc (suc (suc (suc (suc n))))) h u =
    let z : suc (suc (suc (suc (suc n)))) < 5 = ltb-true _ _ h in absurd (omega arith)

stop_ignores : (length time k j code : ℕ) → ltb code 5 ≡ true → uses_quality code ≡ false → stop_of length time k code ≡ stop_of length time j code
unfolding stop_of
stop_ignores length time k j code h u = unused_same _ _ _ _ _ _ _ _ _ code h u

result_ignores : (length time k j code : ℕ) → ltb code 5 ≡ true → uses_quality code ≡ false → result_of length time k code ≡ result_of length time j code
unfolding result_of
result_ignores length time k j code h u = unused_same _ _ _ _ _ _ _ _ _ code h u

pub unused_quality_ignored : UnusedQualityIgnored
unfolding known_of call_of
unused_quality_ignored (ExportedCall.Arrive token direction start time buffer length cca) k h u = refl
unused_quality_ignored (ExportedCall.Withdraw token) k h u = refl
unused_quality_ignored ExportedCall.Request k h u = refl
unused_quality_ignored ExportedCall.None k h u = refl
unused_quality_ignored ExportedCall.FrameStart k h u = refl
unused_quality_ignored (ExportedCall.OutboundSeen start time cca) k h u = refl
unused_quality_ignored (ExportedCall.Stopped outcome length time j) k h u =
    ap (λ (r : StopResult). ServiceCall.Stopped r) (stop_ignores length time k j outcome h u)
unused_quality_ignored (ExportedCall.Header arrived length) k h u = refl
unused_quality_ignored (ExportedCall.Entered result length time entry j) k h u =
    ap (λ (r : TaskResult). ServiceCall.Entered r entry) (result_ignores length time k j result h u)
unused_quality_ignored (ExportedCall.Fallback result length time cause causeTime j) k h u =
    ap (λ (r : TaskResult). ServiceCall.Fallback r (cause_of causeTime cause))
    (result_ignores length time k j result (and_parts (ltb result 5) (known (cause_table causeTime) cause) h).0 u)
unused_quality_ignored ExportedCall.Rollback k h u = refl
