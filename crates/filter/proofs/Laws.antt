-- The laws of specs/Filter.antt.
-- Assumes nothing.
use Prim.Native.Nat.{ℕ}
use mathlib.Core.Path.{◌≡◌, refl}
use mathlib.Core.Bool.{false, and-false}
use native.Mathlib.Omega.{arith}
use Rattle.header.specs.declared.Address.{Address}
use Rattle.filter.specs.Filter.{hardware_byte, short_address_of, control_passes, pan_id_for_us, address_for_us, addressing_for_us, for_us, OnlyControlAndAddressing, ShortAddressIsLow, AbsentNeedsImplicit}

pub only_control_and_addressing : OnlyControlAndAddressing
unfolding for_us
only_control_and_addressing hardware pan implicit info other e f = rw (e, f)

pub short_address_is_low : ShortAddressIsLow
unfolding short_address_of hardware_byte
short_address_is_low hardware = omega arith

absent_foreign : (hardware : ℕ) → address_for_us hardware false Address.Absent ≡ false
unfolding address_for_us
absent_foreign hardware = refl

pub absent_needs_implicit : AbsentNeedsImplicit
unfolding for_us addressing_for_us
absent_needs_implicit hardware pan info f e d =
    rw (e, d, absent_foreign hardware, and-false (pan_id_for_us pan f.dst_pan_id)) (and-false (control_passes info.frame_control))
