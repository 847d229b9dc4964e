-- The frame control field: document 01, "Header facts".
-- Assumes nothing.
use Rattle.std.specs.Prelude.{ℕ, ◌+◌, ◌*◌, ◌/◌, ◌%◌, ◌^◌, ◌≡◌, Bool, true, false, cond, not, ◌&&◌, leb, eqb}
use Rattle.frame_control.specs.declared.AddressingMode.{AddressingMode}
use Rattle.frame_control.specs.declared.AddressingMode.TheVariants.{Absent, Unknown, Short, Extended}
use Rattle.frame_control.specs.declared.FrameControl.{FrameControl}

-- "Mode 0 none, 1 reserved, 2 short (2 bytes), 3 extended (8 bytes)."
unfoldable pub mode_of : ℕ → AddressingMode
mode_of n = cond (eqb n 0) Absent (cond (eqb n 2) Short (cond (eqb n 3) Extended Unknown))

-- the number that the `width` bits from bit `low` on form
abbrev pub bits : ℕ → ℕ → ℕ → ℕ
bits low width control = control / 2 ^ low % 2 ^ width

-- whether a bit is set
abbrev pub bit : ℕ → ℕ → Bool
bit place control = eqb (bits place 1 control) 1

-- "Bits 0-2 type, 3 security, 4 pending, 5 acknowledgement request, 6 PAN compression, 8 sequence number suppressed
-- (version 2 only), 9 elements, 10-11 destination mode, 12-13 version, 14-15 source mode."
unfoldable pub fields_of : ℕ → FrameControl
fields_of control =
    record {
      frame_type = bits 0 3 control;
      security_enabled = bit 3 control;
      frame_pending = bit 4 control;
      ack_request = bit 5 control;
      pan_id_compression = bit 6 control;
      sequence_number_suppression = eqb (bits 12 2 control) 2 && bit 8 control;
      information_elements_present = bit 9 control;
      dst_addressing_mode = mode_of (bits 10 2 control);
      frame_version = bits 12 2 control;
      src_addressing_mode = mode_of (bits 14 2 control);
    }

-- "Frame control is two bytes, low byte first."
unfoldable pub frame_control_of : ℕ → ℕ → FrameControl
frame_control_of low high = fields_of (low + 256 * high)

-- whether a mode is reserved
unfoldable pub reserved : AddressingMode → Bool
reserved Absent = false
reserved Unknown = true
reserved Short = false
reserved Extended = false

-- "It is well formed if type is 0 to 3, version 0 to 2 and neither mode is 1."
unfoldable pub well_formed : FrameControl → Bool
well_formed fc =
    leb fc.frame_type 3
    && (leb fc.frame_version 2
    && (not (reserved fc.dst_addressing_mode) && not (reserved fc.src_addressing_mode)))

-- Laws, proved in proofs/Laws.antt.

-- "8 sequence number suppressed (version 2 only)"
abbrev pub SuppressedIsVersionTwo : Type 0
SuppressedIsVersionTwo =
    (low high : ℕ) → (frame_control_of low high).sequence_number_suppression ≡ true → (frame_control_of low high).frame_version ≡ 2
