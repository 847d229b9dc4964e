-- The leaves' answers as numbers.
-- Assumes nothing.
use Rattle.std.specs.Prelude.{ℕ, ◌+◌, ◌*◌, not, List, eqb, Option, Some, None}
use Rattle.util.specs.Bytes.{flag_number}
use Rattle.frame_control.specs.FrameControl.{fields_of, well_formed}
use Rattle.addressing.specs.declared.AddressingFieldsLengths.{AddressingFieldsLengths}
use Rattle.addressing.specs.Addressing.{lengths_of}
use Rattle.header.specs.Header.{info_of}
use Rattle.filter.specs.Filter.{for_us}
use Rattle.phy.specs.Phy.{ifs_of, ifs_code}
use Rattle.ack.specs.Ack.{acknowledges}
use Rattle.radio_frame.specs.RadioFrame.{ack_seq_num_of}

-- one byte each, the destination PAN's length in the lowest
unfoldable pub lengths_number : AddressingFieldsLengths → ℕ
lengths_number l = l.dst_pan_id + 256 * (l.dst_address + 256 * (l.src_pan_id + 256 * l.src_address))

-- 256 stands for none
unfoldable pub ack_seq_num_number : Option ℕ → ℕ
ack_seq_num_number (Some number) = number
ack_seq_num_number None = 256

-- The exported functions.
abbrev pub is_valid_of : ℕ → ℕ
is_valid_of control = flag_number (well_formed (fields_of control))

abbrev pub addressing_fields_lengths_of : ℕ → ℕ
addressing_fields_lengths_of control = lengths_number (lengths_of (fields_of control))

-- 0 turns implicit broadcast off, any other number on
abbrev pub for_us_of : List ℕ → ℕ → ℕ → ℕ → ℕ
for_us_of frame hardware pan implicit = flag_number (for_us hardware pan (not (eqb implicit 0)) (info_of frame))

abbrev pub ack_seq_num_of_frame : List ℕ → ℕ
ack_seq_num_of_frame frame = ack_seq_num_number (ack_seq_num_of frame)

abbrev pub is_ack_for_of : List ℕ → ℕ → ℕ → ℕ
is_ack_for_of frame length number = flag_number (acknowledges frame length number)

abbrev pub from_mpdu_length_of : ℕ → ℕ
from_mpdu_length_of length = ifs_code (ifs_of length)
