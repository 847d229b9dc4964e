-- No refusal has the number 0, and `?` hands a refusal on.
-- Assumes nothing.
use Rattle.std.proofs.Common.{◌≡◌, false, refl, ap}
use Rattle.std.specs.Prelude.{eqb, Result, Ok, Err, IsErrAnd}
use Rattle.refusals.specs.declared.Refusal.{Refusal}
use Rattle.refusals.specs.Refusals.{refusal_number}

pub not_zero : (refusal : Refusal) → eqb (refusal_number refusal) 0 ≡ false
not_zero Refusal.Slices = refl
not_zero Refusal.Pool = refl
not_zero Refusal.Lengths = refl
not_zero Refusal.OwnBuffers = refl
not_zero Refusal.Unfit = refl
not_zero Refusal.TokenHeld = refl
not_zero Refusal.BufferHeld = refl
not_zero Refusal.TxLength = refl
not_zero Refusal.NotAllowed = refl
not_zero Refusal.ReceivedLength = refl
not_zero Refusal.LatestAckStart = refl
not_zero Refusal.LineFull = refl
not_zero Refusal.TokenWaits = refl
not_zero Refusal.FrameLength = refl

-- what the exit of a `?` returns: the refusal that it met
pub handed_on : {T : Type 0} {refusal : Refusal} (r : Result T Refusal) → IsErrAnd r (λ e. e ≡ refusal) → r ≡ Err refusal
handed_on (Ok x) h = absurd h
handed_on (Err e) h = ap Err h
