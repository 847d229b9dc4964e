-- The facts that the arrived bytes of a frame give: document 01, "Header facts", and document 02, E2. `frame` is the list of the
-- arrived bytes.
-- Assumes nothing.
use Rattle.std.specs.Prelude.{ℕ, ◌+◌, ◌≤◌, ◌≡◌, Bool, true, false, cond, List, [], ◌∷◌, ◌++◌, leb, eqb, length, get_or, Option, Some, None}
use Rattle.util.specs.Bytes.{number_at}
use Rattle.frame_control.specs.declared.AddressingMode.{AddressingMode}
use Rattle.frame_control.specs.declared.AddressingMode.TheVariants.{Absent, Unknown, Short, Extended}
use Rattle.frame_control.specs.declared.FrameControl.{FrameControl}
use Rattle.frame_control.specs.FrameControl.{frame_control_of, well_formed}
use Rattle.addressing.specs.Addressing.{present, pan_ids_of, lengths_of}
use Rattle.header.specs.declared.Address.{Address}
use Rattle.header.specs.declared.AddressingFields.{AddressingFields}
use Rattle.header.specs.declared.PreliminaryFrameInfo.{PreliminaryFrameInfo}

-- ---- Where the fields stand

-- where the addressing fields begin: after control and, unless it is suppressed, the sequence number
unfoldable pub addressing_begin : FrameControl → ℕ
addressing_begin fc = cond fc.sequence_number_suppression 2 3

-- "After the sequence number stand destination PAN, destination, source PAN, source": where the last three begin
abbrev pub dst_address_begin : FrameControl → ℕ
dst_address_begin fc = addressing_begin fc + (lengths_of fc).dst_pan_id

abbrev pub src_pan_id_begin : FrameControl → ℕ
src_pan_id_begin fc = dst_address_begin fc + (lengths_of fc).dst_address

abbrev pub src_address_begin : FrameControl → ℕ
src_address_begin fc = src_pan_id_begin fc + (lengths_of fc).src_pan_id

-- the bytes of the header up to the end of the addresses
abbrev pub header_length : FrameControl → ℕ
header_length fc = src_address_begin fc + (lengths_of fc).src_address

-- ---- The facts, each by itself

-- "A fact whose bytes have not all arrived is missing": whether the bytes before a place have all arrived
abbrev pub arrived : List ℕ → ℕ → Bool
arrived frame place = leb place (length frame)

-- control
unfoldable pub frame_control_fact : List ℕ → Option FrameControl
frame_control_fact frame =
    cond (arrived frame 2) (Some (frame_control_of (get_or frame 0 0) (get_or frame 1 0))) None

-- the sequence number; a suppressed one has no byte
unfoldable pub seq_nr_fact : List ℕ → FrameControl → Option ℕ
seq_nr_fact frame fc =
    cond fc.sequence_number_suppression None
    (cond (arrived frame 3) (Some (get_or frame 2 0)) None)

-- "each low byte first": a PAN of a length, 0 or 2
unfoldable pub pan_id_of : List ℕ → ℕ → ℕ → Option ℕ
pan_id_of frame at len = cond (eqb len 0) None (Some (number_at frame at 2))

-- an address of a mode
unfoldable pub address_of : List ℕ → ℕ → AddressingMode → Address
address_of frame at Absent = Address.Absent
address_of frame at Unknown = Address.Absent
address_of frame at Short = Address.Short (number_at frame at 2)
address_of frame at Extended = Address.Extended (number_at frame at 8)

-- "addressing is one fact, there when the sequence number, unless suppressed, and every PAN and address byte that control names have
-- arrived"
unfoldable pub addressing_fact : List ℕ → FrameControl → Option AddressingFields
addressing_fact frame fc =
    cond (arrived frame (header_length fc))
    (Some (record {
      dst_pan_id = pan_id_of frame (addressing_begin fc) (lengths_of fc).dst_pan_id;
      dst_address = address_of frame (dst_address_begin fc) fc.dst_addressing_mode;
    }))
    None

-- the two bytes of a PAN from a place on
abbrev pub pan_id_bytes : List ℕ → ℕ → Option ℕ
pan_id_bytes frame at = cond (arrived frame (at + 2)) (Some (number_at frame at 2)) None

-- E2: "source PAN, .. missing when its bytes have not all arrived. A source without its own PAN has the destination PAN, missing if that
-- is left out too." A frame without a source address has no source PAN; that stands first here. Then its own two bytes, where control
-- has them; where control leaves them out, those of the destination PAN, as soon as they have arrived.
unfoldable pub src_pan_id_fact : List ℕ → FrameControl → Option ℕ
src_pan_id_fact frame fc =
    cond (present fc.src_addressing_mode)
    (cond (pan_ids_of fc).src (pan_id_bytes frame (src_pan_id_begin fc))
    (cond (pan_ids_of fc).dst (pan_id_bytes frame (addressing_begin fc))
    None))
    None

-- an address of a mode from a place on, there when its own bytes have all arrived: an absent one has none
unfoldable pub address_fact : List ℕ → ℕ → AddressingMode → Option Address
address_fact frame at Absent = Some Address.Absent
address_fact frame at Unknown = Some Address.Absent
address_fact frame at Short = cond (arrived frame (at + 2)) (Some (address_of frame at Short)) None
address_fact frame at Extended = cond (arrived frame (at + 8)) (Some (address_of frame at Extended)) None

-- E2: "source address .., missing when its bytes have not all arrived"
abbrev pub src_address_fact : List ℕ → FrameControl → Option Address
src_address_fact frame fc = address_fact frame (src_address_begin fc) fc.src_addressing_mode

-- E2: "the place where the address fields end", counted from the frame's first byte, missing until every byte before it has arrived
unfoldable pub addressing_end_fact : List ℕ → FrameControl → Option ℕ
addressing_end_fact frame fc = cond (arrived frame (header_length fc)) (Some (header_length fc)) None

-- ---- The facts together

abbrev pub control_alone : Option FrameControl → PreliminaryFrameInfo
control_alone control =
    record {
      frame_control = control;
      seq_nr = None;
      addressing_fields = None;
      src_pan_id = None;
      src_address = None;
      addressing_end = None;
    }

-- with a sequence number, there or missing
abbrev pub numbered_info : List ℕ → FrameControl → Option ℕ → PreliminaryFrameInfo
numbered_info frame fc number =
    record {
      frame_control = Some fc;
      seq_nr = number;
      addressing_fields = addressing_fact frame fc;
      src_pan_id = src_pan_id_fact frame fc;
      src_address = src_address_fact frame fc;
      addressing_end = addressing_end_fact frame fc;
    }

-- "Control that is not well formed is the last fact given."
unfoldable pub after_control : List ℕ → Option FrameControl → PreliminaryFrameInfo
after_control frame None = control_alone None
after_control frame (Some fc) =
    cond (well_formed fc) (numbered_info frame fc (seq_nr_fact frame fc)) (control_alone (Some fc))

-- the facts of the arrived bytes
unfoldable pub info_of : List ℕ → PreliminaryFrameInfo
info_of frame = after_control frame (frame_control_fact frame)

-- ---- Laws, proved in proofs/Laws.antt and proofs/FieldsInOrder.antt.

-- a header, to the end of its addresses, has 2 to 23 bytes, well formed or not
abbrev pub HeaderLengthBounded : Type 0
HeaderLengthBounded = (fc : FrameControl) → (2 ≤ header_length fc) × (header_length fc ≤ 23)

-- once the header's bytes have arrived, no byte after them changes a fact
abbrev pub HeaderBytesDecide : Type 0
HeaderBytesDecide =
    (frame more : List ℕ) (fc : FrameControl) →
    frame_control_fact frame ≡ Some fc →
    header_length fc ≤ length frame →
    info_of (frame ++ more) ≡ info_of frame

-- addressing is there only once the header's bytes have arrived
abbrev pub AddressingNeedsHeader : Type 0
AddressingNeedsHeader =
    (frame : List ℕ) (fc : FrameControl) (fields : AddressingFields) →
    frame_control_fact frame ≡ Some fc →
    (info_of frame).addressing_fields ≡ Some fields →
    header_length fc ≤ length frame

-- where the address fields end, if it is there: at the length of the header that control names, all of which has arrived
pub record EndsHeader (frame : List ℕ) (end : ℕ) : Type 0 where
  pub control : FrameControl
  pub there : (info_of frame).frame_control ≡ Some control
  pub end_is : end ≡ header_length control
  pub two_at_least : 2 ≤ end
  pub at_most : end ≤ 23
  pub all_arrived : end ≤ length frame

abbrev pub EndIsHeaderLength : Type 0
EndIsHeaderLength = (frame : List ℕ) (end : ℕ) → (info_of frame).addressing_end ≡ Some end → EndsHeader frame end

-- A header put together from its fields gives them back, each as soon as its own bytes are there; by `FactsOnlyGrow` so does every frame
-- that begins with them. `to_dst_pan_id` and `to_src_pan_id` are the bytes up to the end of these fields.
pub record FieldsRead (fc : FrameControl) (dst_pan_id dst_address src_pan_id src_address to_dst_pan_id to_src_pan_id header : List ℕ) : Type 0 where
  -- the source PAN: its own,
  pub own_pan_id : (pan_ids_of fc).src ≡ true → (info_of to_src_pan_id).src_pan_id ≡ Some (number_at src_pan_id 0 2)
  -- or else, if there is a source, the destination's, before the destination has arrived
  pub pan_id_of_destination :
      (pan_ids_of fc).src ≡ false →
      present fc.src_addressing_mode ≡ true →
      (pan_ids_of fc).dst ≡ true →
      (info_of to_dst_pan_id).src_pan_id ≡ Some (number_at dst_pan_id 0 2)
  pub source : (info_of header).src_address ≡ Some (address_of src_address 0 fc.src_addressing_mode)
  -- the destination, with the last byte of the source
  pub destination :
      (info_of header).addressing_fields
      ≡ Some (record {
        dst_pan_id = pan_id_of dst_pan_id 0 (length dst_pan_id);
        dst_address = address_of dst_address 0 fc.dst_addressing_mode;
      })
  -- the end is where the header ends
  pub ends : (info_of header).addressing_end ≡ Some (length header)

-- "After the sequence number stand destination PAN, destination, source PAN, source": each as long as control says
abbrev pub FieldsInOrder : Type 0
FieldsInOrder =
    (low high : ℕ) (number dst_pan_id dst_address src_pan_id src_address : List ℕ) →
    let fc = frame_control_of low high in
    well_formed fc ≡ true →
    length number ≡ cond fc.sequence_number_suppression 0 1 →
    length dst_pan_id ≡ (lengths_of fc).dst_pan_id →
    length dst_address ≡ (lengths_of fc).dst_address →
    length src_pan_id ≡ (lengths_of fc).src_pan_id →
    length src_address ≡ (lengths_of fc).src_address →
    let to_dst_pan_id = low ∷ high ∷ number ++ dst_pan_id in
    let to_src_pan_id = (to_dst_pan_id ++ dst_address) ++ src_pan_id in
    FieldsRead fc dst_pan_id dst_address src_pan_id src_address to_dst_pan_id to_src_pan_id (to_src_pan_id ++ src_address)

-- an absent source address has no bytes, so it is there with control
abbrev pub AbsentSourceThere : Type 0
AbsentSourceThere =
    (low high : ℕ) →
    well_formed (frame_control_of low high) ≡ true →
    present (frame_control_of low high).src_addressing_mode ≡ false →
    (info_of (low ∷ high ∷ [])).src_address ≡ Some Address.Absent

-- The six facts, by name,
pub data Fact : Type 0 where
  control : Fact
  number : Fact
  addressing : Fact
  src_pan_id : Fact
  src_address : Fact
  end : Fact

-- what each of them says,
abbrev pub Says : Fact → Type 0
Says Fact.control = FrameControl
Says Fact.number = ℕ
Says Fact.addressing = AddressingFields
Says Fact.src_pan_id = ℕ
Says Fact.src_address = Address
Says Fact.end = ℕ

-- and what it says in a record of facts: none if it is missing
abbrev pub said : (fact : Fact) → PreliminaryFrameInfo → Option (Says fact)
said Fact.control info = info.frame_control
said Fact.number info = info.seq_nr
said Fact.addressing info = info.addressing_fields
said Fact.src_pan_id info = info.src_pan_id
said Fact.src_address info = info.src_address
said Fact.end info = info.addressing_end

-- Facts only grow: a fact that is there for the arrived bytes is there, and the same, when more bytes have arrived.
abbrev pub FactsOnlyGrow : Type 0
FactsOnlyGrow =
    (fact : Fact) (frame more : List ℕ) (v : Says fact) →
    said fact (info_of frame) ≡ Some v →
    said fact (info_of (frame ++ more)) ≡ Some v
