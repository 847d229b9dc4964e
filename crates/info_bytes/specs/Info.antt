-- The facts' 32 bytes: docs/LAYOUTS.md, "The facts' 32 bytes".
-- Assumes nothing.
use Rattle.std.specs.Prelude.{ℕ, ◌+◌, ◌≡◌, cond, List, [], ◌∷◌, ◌++◌, eqb, length, get_or, Option, Some, None, unwrap_or}
use Rattle.util.specs.Bytes.{number_at, bytes_of, AllBytes}
use Rattle.frame_control.specs.FrameControl.{frame_control_of}
use Rattle.header.specs.declared.Address.{Address}
use Rattle.header.specs.declared.PreliminaryFrameInfo.{PreliminaryFrameInfo}
use Rattle.header.specs.Header.{info_of}
use Rattle.info_bytes.specs.declared.AddressFields.{AddressFields}
use Rattle.frame_control.specs.declared.FrameControl.{FrameControl}
use Rattle.header.specs.declared.AddressingFields.{AddressingFields}

-- ---- Each fact as numbers

-- a fact "0 missing, 1 there"; a PAN "0 omitted, 1 there"
abbrev pub there : {A : Type 0} → Option A → ℕ
there None = 0
there (Some x) = 1

-- "All bytes of a missing fact are 0": a number beside a fact, where that is there
abbrev pub beside : {A : Type 0} → Option A → ℕ → ℕ
beside None n = 0
beside (Some x) n = n

-- "0 absent, 2 short, 3 extended"
unfoldable pub address_fields : Address → AddressFields
address_fields Address.Absent = record { mode = 0; number = 0 }
address_fields (Address.Short a) = record { mode = 2; number = a }
address_fields (Address.Extended a) = record { mode = 3; number = a }

-- "All bytes of a missing fact are 0": missing addressing has the bytes of no PAN and an absent address
abbrev pub destination : Option AddressingFields → AddressingFields
destination f = unwrap_or f (record { dst_pan_id = None; dst_address = Address.Absent })

abbrev pub source : Option Address → Address
source f = unwrap_or f Address.Absent

-- ---- The bytes

-- the bytes of facts, in the order of the table, low byte first; control's own bytes are beside them: "as its two bytes stand in the
-- frame"
unfoldable pub written_facts : ℕ → ℕ → PreliminaryFrameInfo → List ℕ
written_facts low high info =
    let dst = destination info.addressing_fields in
    let dst_address = address_fields dst.dst_address in
    let src_address = address_fields (source info.src_address) in
    -- "frame control: 0 missing, 1 there"
    there info.frame_control
    ∷ beside info.frame_control low
    ∷ beside info.frame_control high
    -- "sequence number: 0 missing .., 1 there"
    ∷ there info.seq_nr
    ∷ unwrap_or info.seq_nr 0
    -- "addressing: 0 missing, 1 there"
    ∷ there info.addressing_fields
    -- "destination PAN: 0 omitted, 1 there"
    ∷ there dst.dst_pan_id
    ∷ bytes_of 2 (unwrap_or dst.dst_pan_id 0)
    ++ dst_address.mode
    ∷ bytes_of 8 dst_address.number
    -- "source PAN: 0 missing .., 1 there"
    ++ there info.src_pan_id
    ∷ bytes_of 2 (unwrap_or info.src_pan_id 0)
    -- "source address: 0 missing, 1 there"
    ++ there info.src_address
    ∷ src_address.mode
    ∷ bytes_of 8 src_address.number
    -- "where the address fields end ..: 0 missing, else 2 to 23"
    ++ unwrap_or info.addressing_end 0
    ∷ []

-- the bytes of the facts of a frame
unfoldable pub written_info : List ℕ → List ℕ
written_info frame = written_facts (get_or frame 0 0) (get_or frame 1 0) (info_of frame)

-- ---- The facts as they are read from the bytes

abbrev pub control_at : List ℕ → Option FrameControl
control_at bytes =
    cond (eqb (get_or bytes 0 0) 1) (Some (frame_control_of (get_or bytes 1 0) (get_or bytes 2 0))) None

abbrev pub seq_nr_at : List ℕ → Option ℕ
seq_nr_at bytes = cond (eqb (get_or bytes 3 0) 1) (Some (get_or bytes 4 0)) None

abbrev pub pan_id_at : List ℕ → ℕ → Option ℕ
pan_id_at bytes at = cond (eqb (get_or bytes at 0) 1) (Some (number_at bytes (at + 1) 2)) None

abbrev pub address_at : List ℕ → ℕ → Address
address_at bytes at =
    let number = number_at bytes (at + 1) 8 in
    cond (eqb (get_or bytes at 0) 2) (Address.Short number) (cond (eqb (get_or bytes at 0) 3) (Address.Extended number) Address.Absent)

abbrev pub addressing_at : List ℕ → Option AddressingFields
addressing_at bytes =
    cond (eqb (get_or bytes 5 0) 1)
    (Some (record { dst_pan_id = pan_id_at bytes 6; dst_address = address_at bytes 9 }))
    None

abbrev pub src_pan_id_at : List ℕ → Option ℕ
src_pan_id_at bytes = cond (eqb (get_or bytes 18 0) 1) (Some (number_at bytes 19 2)) None

abbrev pub src_address_at : List ℕ → Option Address
src_address_at bytes = cond (eqb (get_or bytes 21 0) 1) (Some (address_at bytes 22)) None

abbrev pub end_at : List ℕ → Option ℕ
end_at bytes = cond (eqb (get_or bytes 31 0) 0) None (Some (get_or bytes 31 0))

unfoldable pub info_at : List ℕ → PreliminaryFrameInfo
info_at bytes =
    record {
      frame_control = control_at bytes;
      seq_nr = seq_nr_at bytes;
      addressing_fields = addressing_at bytes;
      src_pan_id = src_pan_id_at bytes;
      src_address = src_address_at bytes;
      addressing_end = end_at bytes;
    }

-- the law: the facts of a frame are read back from their bytes; proofs/ReadBack.antt has its proof
abbrev pub InfoReadsBack : Type 0
InfoReadsBack = (frame : List ℕ) → AllBytes frame → info_at (written_info frame) ≡ info_of frame

-- ---- What the exported function promises, of the frame's bytes, the facts' slice before and after, and the returned number
pub record InfoCalled (frame info : List ℕ) (r : ℕ) (info' : List ℕ) : Type 0 where
  -- "It returns 0, or 1 where the facts' slice is not 32 bytes, and then writes nothing."
  pub number : r ≡ cond (eqb (length info) 32) 0 1
  pub bytes : info' ≡ cond (eqb (length info) 32) (written_info frame) info
  -- where it is 32 bytes, the slice holds the frame's facts
  pub reads_back : length info ≡ 32 → AllBytes frame → info_at info' ≡ info_of frame
