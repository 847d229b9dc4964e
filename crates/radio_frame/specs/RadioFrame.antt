-- The frame record as numbers beside the pool: document 01, "Settings and pool" and "Calls"; radio_frame.rs.
-- Assumes nothing.
use Rattle.std.specs.Prelude.{ℕ, ◌+◌, ◌-◌, ◌*◌, ◌≤◌, ◌<◌, cond, not, ◌&&◌, List, ◌≡◌, ltb, leb, length, get_or, take, drop, Option, Some, None}
use Rattle.frame_control.specs.FrameControl.{frame_control_of}
use Rattle.phy.specs.Phy.{phy_max_packet_size}
use Rattle.radio_frame.specs.declared.Settings.{Settings}
use Rattle.radio_frame.specs.declared.RadioFrame.{RadioFrame}
use Rattle.radio_frame.specs.Settings.{buffer_length, settings_refusal}

-- "buffer b begins at 144 × b"
abbrev pub buffer_start_of : ℕ → ℕ
buffer_start_of buffer = buffer_length * buffer

-- "A frame begins H bytes into its buffer."
unfoldable pub frame_start : Settings → ℕ → ℕ
frame_start s buffer = buffer_start_of buffer + s.headroom

-- the first three bytes of a buffer's frame: control and the sequence number
abbrev pub frame_head : Settings → List ℕ → ℕ → List ℕ
frame_head s pool buffer = take 3 (drop (frame_start s buffer) pool)

-- the length with checksum, at most 65,535
unfoldable pub sdu_length : Settings → ℕ → ℕ
sdu_length s length = cond (ltb (length + s.fcs_length) 65536) (length + s.fcs_length) 65535

-- headroom, frame, checksum and tailroom, one after the other
unfoldable pub radio_frame_of : Settings → ℕ → ℕ → RadioFrame
radio_frame_of s buffer length =
    let sdu = buffer_start_of buffer + s.headroom in
    let fcs = sdu + length in
    let tailroom = fcs + s.fcs_length in
    record {
      headroom = record { start = buffer_start_of buffer; end = sdu };
      sdu = record { start = sdu; end = fcs };
      fcs = record { start = fcs; end = tailroom };
      tailroom = record { start = tailroom; end = tailroom + s.tailroom };
    }

-- "A Tx frame wants an ACK if its control at acceptance has bit 5 and its number is not suppressed; that number, its third
-- byte, is noted." A suppressed number counts in version 2 only. `frame` is what is at hand of the frame's bytes.
unfoldable pub ack_seq_num_of : List ℕ → Option ℕ
ack_seq_num_of frame =
    let fc = frame_control_of (get_or frame 0 0) (get_or frame 1 0) in
    cond (leb 3 (length frame) && (fc.ack_request && not fc.sequence_number_suppression)) (Some (get_or frame 2 0)) None

-- Laws of these definitions; proofs/Laws.antt has their proofs.

-- fewer than three bytes have no number
abbrev pub ShortFramesNever : Type 0
ShortFramesNever = (frame : List ℕ) → length frame < 3 → ack_seq_num_of frame ≡ None

-- the four parts follow one another from the buffer's beginning on, inside its bytes, and those inside the pool;
-- "The longest frame with checksum is 127 bytes."
pub record Placed (s : Settings) (pool buffer : ℕ) (f : RadioFrame) : Type 0 where
  pub begins : f.headroom.start ≡ buffer_start_of buffer
  pub frame : (f.headroom.end ≡ f.sdu.start) × (f.sdu.start ≡ frame_start s buffer)
  pub checksum : f.sdu.end ≡ f.fcs.start
  pub rest : f.fcs.end ≡ f.tailroom.start
  pub in_order :
      (f.headroom.start ≤ f.headroom.end)
      × (f.sdu.start ≤ f.sdu.end)
      × (f.fcs.start ≤ f.fcs.end)
      × (f.tailroom.start ≤ f.tailroom.end)
  pub longest : f.fcs.end ≤ f.sdu.start + phy_max_packet_size
  pub in_buffer : f.tailroom.end ≤ buffer_start_of buffer + buffer_length
  pub in_pool : buffer_start_of buffer + buffer_length ≤ pool

abbrev pub PartsPlaced : Type 0
PartsPlaced =
    (s : Settings) (pool buffer len : ℕ) →
    settings_refusal s pool ≡ 0 →
    buffer < s.count →
    len ≤ phy_max_packet_size - s.fcs_length →
    Placed s pool buffer (radio_frame_of s buffer len)
