-- "For us": document 01, "Header facts"; IEEE 802.15.4-2024, 6.6.2, as the Rust cites it.
-- Assumes nothing.
use Rattle.std.specs.Prelude.{ℕ, ◌+◌, ◌*◌, ◌-◌, ◌/◌, ◌%◌, ◌^◌, ◌≡◌, Bool, true, false, ◌&&◌, ◌||◌, eqb, Option, Some, None}
use Rattle.frame_control.specs.FrameControl.{well_formed}
use Rattle.header.specs.declared.Address.{Address}
use Rattle.header.specs.declared.AddressingFields.{AddressingFields}
use Rattle.header.specs.declared.PreliminaryFrameInfo.{PreliminaryFrameInfo}
use Rattle.frame_control.specs.declared.FrameControl.{FrameControl}

-- FFFF: the broadcast PAN
abbrev pub broadcast_pan_id : ℕ
broadcast_pan_id = 65535

-- FFFF: the broadcast address, a short one
abbrev pub broadcast_address : ℕ
broadcast_address = 65535

-- "hardware address (8 bytes, highest first)": byte i of it, counted from 0
unfoldable pub hardware_byte : ℕ → ℕ → ℕ
hardware_byte hardware i = hardware / 256 ^ (7 - i) % 256

-- "hardware bytes 6 and 7 (counted from 0) read as one number high byte first"
unfoldable pub short_address_of : ℕ → ℕ
short_address_of hardware = 256 * hardware_byte hardware 6 + hardware_byte hardware 7

-- "frame control [is] there and well formed"
unfoldable pub control_passes : Option FrameControl → Bool
control_passes (Some fc) = well_formed fc
control_passes None = false

-- "the destination PAN is omitted by the rules above, ours or FFFF (hexadecimal)"
unfoldable pub pan_id_for_us : ℕ → Option ℕ → Bool
pan_id_for_us pan None = true
pan_id_for_us pan (Some id) = eqb id pan || eqb id broadcast_pan_id

-- "the destination is short FFFF, or absent with implicit broadcast on, or short equal to hardware bytes 6 and 7 ..,
-- or extended equal to the hardware address"
unfoldable pub address_for_us : ℕ → Bool → Address → Bool
address_for_us hardware implicit Address.Absent = implicit
address_for_us hardware implicit (Address.Short a) = eqb a broadcast_address || eqb a (short_address_of hardware)
address_for_us hardware implicit (Address.Extended a) = eqb a hardware

-- "addressing [is] there"
unfoldable pub addressing_for_us : ℕ → ℕ → Bool → Option AddressingFields → Bool
addressing_for_us hardware pan implicit (Some f) =
    pan_id_for_us pan f.dst_pan_id && address_for_us hardware implicit f.dst_address
addressing_for_us hardware pan implicit None = false

-- "For us: frame control and addressing are there and well formed; .." No other fact is looked at.
unfoldable pub for_us : ℕ → ℕ → Bool → PreliminaryFrameInfo → Bool
for_us hardware pan implicit info =
    control_passes info.frame_control && addressing_for_us hardware pan implicit info.addressing_fields

-- Laws, proved in proofs/Laws.antt.

-- The filter looks at nothing but control and addressing. So no source fact changes its answer: of two records of facts that agree in
-- control and addressing both are for us or both are not, whatever source PAN, source address, end of the address fields and sequence
-- number are, there or missing.
abbrev pub OnlyControlAndAddressing : Type 0
OnlyControlAndAddressing =
    (hardware pan : ℕ) (implicit : Bool) (info other : PreliminaryFrameInfo) →
    info.frame_control ≡ other.frame_control →
    info.addressing_fields ≡ other.addressing_fields →
    for_us hardware pan implicit info ≡ for_us hardware pan implicit other

-- the short address is the lowest 16 bits of the hardware address, whose bytes stand highest first
abbrev pub ShortAddressIsLow : Type 0
ShortAddressIsLow = (hardware : ℕ) → hardware % 65536 ≡ short_address_of hardware

-- A frame without a destination that is for us passed by implicit broadcast: with that off, none is for us.
abbrev pub AbsentNeedsImplicit : Type 0
AbsentNeedsImplicit =
    (hardware pan : ℕ) (info : PreliminaryFrameInfo) (f : AddressingFields) →
    info.addressing_fields ≡ Some f →
    f.dst_address ≡ Address.Absent →
    for_us hardware pan false info ≡ false
