-- The immediate acknowledgement: document 01, "Settings and pool" and "Waits".
-- Assumes nothing.
use Rattle.std.specs.Prelude.{ℕ, ◌+◌, ◌*◌, ◌^◌, ◌≤◌, ◌<◌, Bool, true, false, ◌&&◌, ◌≡◌, ◌⊎◌, List, eqb, leb, length, get_or, set, take, drop}
use Rattle.std.specs.Int.Bits.{bit_and}

-- "Start writes 02 10 00 into the ACK buffer's frame and no other byte."
unfoldable pub imm_ack_frame_at : List ℕ → ℕ → List ℕ
imm_ack_frame_at pool begin = set (set (set pool begin 2) (begin + 1) 16) (begin + 2) 0

-- "write it in the ACK frame": the sequence number, the frame's third byte
unfoldable pub seq_nr_set_at : List ℕ → ℕ → ℕ → List ℕ
seq_nr_set_at pool begin number = set pool (begin + 2) number

-- "control & EFFF": every bit but bit 12
unfoldable pub mask_efff : ℕ → ℕ
mask_efff control = bit_and control 0xEFFF

-- "the received frame is 3 bytes": in the length that the radio tells, and all three are at hand
unfoldable pub three_bytes : List ℕ → ℕ → Bool
three_bytes frame len = eqb len 3 && leb 3 (length frame)

-- ", (control & EFFF) = 0002 hexadecimal, and the third byte is the number noted at acceptance"
unfoldable pub acknowledges : List ℕ → ℕ → ℕ → Bool
acknowledges frame len number =
    three_bytes frame len
    && (eqb (mask_efff (get_or frame 0 0 + 256 * get_or frame 1 0)) 0x0002 && eqb (get_or frame 2 0) number)

-- Laws of these definitions; proofs/Laws.antt has their proofs.

-- a frame acknowledges one number, and it has three bytes
abbrev pub OneNumber : Type 0
OneNumber =
    (frame : List ℕ) (len j k : ℕ) → acknowledges frame len j ≡ true → acknowledges frame len k ≡ true → j ≡ k

abbrev pub ThreeBytes : Type 0
ThreeBytes = (frame : List ℕ) (len k : ℕ) → acknowledges frame len k ≡ true → len ≡ 3

-- fewer than three bytes never acknowledge, whatever length the radio tells
abbrev pub ShortFramesNever : Type 0
ShortFramesNever = (frame : List ℕ) (len k : ℕ) → length frame < 3 → acknowledges frame len k ≡ false

-- it has one of two controls: 0002 and 1002
abbrev pub TwoControls : Type 0
TwoControls = (control : ℕ) → control < 2 ^ 16 → mask_efff control ≡ 0x0002 → (control ≡ 0x0002) ⊎ (control ≡ 0x1002)

-- what is written reads back: the frame at its place acknowledges the number set and no other
abbrev pub ReadBack : Type 0
ReadBack =
    (pool : List ℕ) (begin number n k : ℕ) →
    begin + 3 ≤ length pool →
    3 ≤ n →
    acknowledges (take n (drop begin (seq_nr_set_at (imm_ack_frame_at pool begin) begin number))) 3 k ≡ eqb number k

-- "and no other byte": the length and every other byte are kept
pub record KeptBut (pool : List ℕ) (written : List ℕ) (touched : ℕ → Type 0) : Type 0 where
  pub same_length : length written ≡ length pool
  pub elsewhere : (at : ℕ) → (touched at → ⊥) → get_or written at 0 ≡ get_or pool at 0

abbrev pub ThreePlaces : Type 0
ThreePlaces = (pool : List ℕ) (begin : ℕ) → KeptBut pool (imm_ack_frame_at pool begin) (λ (at : ℕ). (begin ≤ at) × (at ≤ begin + 2))

abbrev pub OnePlace : Type 0
OnePlace = (pool : List ℕ) (begin number : ℕ) → KeptBut pool (seq_nr_set_at pool begin number) (λ (at : ℕ). at ≡ begin + 2)
