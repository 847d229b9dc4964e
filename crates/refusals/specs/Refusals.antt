-- The numbers of the refusals: document 01, "Refusals, in checking order", and document 02, E1 and E5.
-- Assumes nothing.
use Rattle.std.specs.Prelude.{ℕ, Result, Ok, Err}
use Rattle.refusals.specs.declared.Refusal.{Refusal}

abbrev pub refusal_number : Refusal → ℕ
-- "1. In the exported form, the state slice is not 64 bytes, the reply slice not 48, or .. the state bytes are not what some state .. is
-- written as."
refusal_number Refusal.Slices = 1
-- "2. The count is outside 3 to 32 or the pool is not 144 × n bytes."
refusal_number Refusal.Pool = 2
-- "3. H, T or F is out of range."
refusal_number Refusal.Lengths = 3
-- "4. The two own buffers are equal or not below n."
refusal_number Refusal.OwnBuffers = 4
-- "5. The call, or its outcome kind, does not fit the wait; in the exported form also a code that stands for nothing."
refusal_number Refusal.Unfit = 5
-- "6. The token is held by an unanswered request."
refusal_number Refusal.TokenHeld = 6
-- "7. The buffer is not below n or is held."
refusal_number Refusal.BufferHeld = 7
-- "8. A Tx length is below 3 or above 127 − F."
refusal_number Refusal.TxLength = 8
-- "9. The direction or start is not allowed in this wait."
refusal_number Refusal.NotAllowed = 9
-- "10. A received length is 0 or above 127 − F, or arrived bytes are above 127 − F."
refusal_number Refusal.ReceivedLength = 10
-- "11. A measured entry that begins an ACK wait plus 10,000 exceeds 64 bits."
refusal_number Refusal.LatestAckStart = 11
-- E1: "12 for an arrival when four wait"
refusal_number Refusal.LineFull = 12
-- E1: "13 when the token already waits or, for a withdrawal, does not .."
refusal_number Refusal.TokenWaits = 13
-- E5: "14 by the check for under 3 or over 127 bytes"
refusal_number Refusal.FrameLength = 14

-- a refusal, if there is one, as its number, and else 0
abbrev pub number_of : {A : Type 0} → Result A Refusal → ℕ
number_of (Ok a) = 0
number_of (Err refusal) = refusal_number refusal
