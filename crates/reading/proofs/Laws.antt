-- The laws of specs/Reading.antt: what request E4 asks for, from the definitions.
-- Assumes nothing.
use Prim.Native.Nat.{ℕ}
use mathlib.Core.Path.{◌≡◌, refl, ap}
use mathlib.Core.Logic.{◌⊎◌, inl, inr}
use mathlib.Core.Bool.{true, false}
use borrow.Author.Tests.{ne_eqb}
use Rattle.header.specs.declared.Address.{Address}
use Rattle.reading.specs.Reading.{broadcast_destination, broadcast, requested, number_to_acknowledge, receive_move, header_move_of, BroadcastNotAcknowledged, OthersAcknowledged}

pub destination_broadcast : (a : Address) → (a ≡ Address.Short 65535) ⊎ (a ≡ Address.Absent) → broadcast_destination a ≡ true
unfolding broadcast_destination
destination_broadcast a (inl e) = rw e refl
destination_broadcast a (inr e) = rw e refl

destination_other : (a : Address) → (a ≡ Address.Short 65535 → ⊥) → (a ≡ Address.Absent → ⊥) → broadcast_destination a ≡ false
unfolding broadcast_destination
destination_other (Address.Short n) h g = ne_eqb n 65535 (λ e. h (ap (λ (k : ℕ). Address.Short k) e))
destination_other Address.Absent h g = absurd (g refl)
destination_other (Address.Extended n) h g = refl

pub broadcast_not_acknowledged : BroadcastNotAcknowledged
unfolding header_move_of number_to_acknowledge broadcast receive_move
broadcast_not_acknowledged set q info length f e d = rw (e, destination_broadcast f.dst_address d) refl

pub others_acknowledged : OthersAcknowledged
unfolding header_move_of number_to_acknowledge broadcast requested receive_move
others_acknowledged set q info length f fc k e h g ours control bit number =
    rw (ours, e, destination_other f.dst_address h g, control, number, bit) refl
