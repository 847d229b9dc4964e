-- Definitions that only the reader's inner contracts and proofs cite: one field by itself. What the reader promises is Header.antt.
-- Assumes nothing.
use Rattle.std.specs.Prelude.{ℕ, ◌+◌, Bool, true, false, cond, ◌&&◌, ◌||◌, List, ltb, leb, eqb, length, get_or, Option, Some, None}
use Rattle.frame_control.specs.declared.AddressingMode.{AddressingMode}
use Rattle.frame_control.specs.declared.AddressingMode.TheVariants.{Absent, Unknown, Short, Extended}
use Rattle.frame_control.specs.declared.FrameControl.{FrameControl}
use Rattle.header.specs.declared.Address.{Address}
use Rattle.header.specs.declared.PreliminaryFrameInfo.{PreliminaryFrameInfo}
use Rattle.header.specs.Header.{pan_id_of}

-- the sequence number with the place after it
unfoldable pub number_step : List ℕ → Bool → Option (Option ℕ × ℕ)
number_step frame true = Some (None, 2)
number_step frame false =
    cond (leb 3 (length frame)) (Some (Some (get_or frame 2 0), 3)) None

unfoldable pub pan_id_found : List ℕ → ℕ → ℕ → Option (Option ℕ)
pan_id_found frame at len = cond (eqb len 0 || leb (at + 2) (length frame)) (Some (pan_id_of frame at len)) None

-- a source address before which the reading ends
unfoldable pub unread_address : AddressingMode → Option Address
unread_address Absent = Some Address.Absent
unread_address Unknown = Some Address.Absent
unread_address Short = None
unread_address Extended = None

-- what a source without its own PAN has, by the lengths of its PAN and its address, and the destination PAN
unfoldable pub inherited_pan_id : ℕ → ℕ → Option ℕ → Option ℕ
inherited_pan_id own address None = None
inherited_pan_id own address (Some n) = cond (eqb own 0 && ltb 0 address) (Some n) None

-- the facts where an address byte is missing
abbrev pub before_gap : FrameControl → Option ℕ → Option ℕ → Option Address → PreliminaryFrameInfo
before_gap fc number pan address =
    record {
      frame_control = Some fc;
      seq_nr = number;
      addressing_fields = None;
      src_pan_id = pan;
      src_address = address;
      addressing_end = None;
    }
