-- The addressing fields: document 01, "Header facts"; IEEE 802.15.4-2024, 7.2.2.6, as the Rust cites it.
-- Assumes nothing.
use Rattle.std.specs.Prelude.{ℕ, ◌≤◌, ◌≡◌, Bool, true, false, cond, not, ◌&&◌, List, [], ◌∷◌, ◌++◌, ltb, eqb, length}
use Rattle.util.specs.Bytes.{flag_number}
use Rattle.frame_control.specs.declared.AddressingMode.{AddressingMode}
use Rattle.frame_control.specs.declared.AddressingMode.TheVariants.{Absent, Unknown, Short, Extended}
use Rattle.frame_control.specs.declared.FrameControl.{FrameControl}
use Rattle.addressing.specs.declared.PanIdsPresent.{PanIdsPresent}
use Rattle.addressing.specs.declared.AddressingFieldsLengths.{AddressingFieldsLengths}
use Rattle.addressing.specs.PanIdCompression.{AddressEntry, PanEntry, Row, compression_table}

-- "Mode 0 none, 1 reserved, 2 short (2 bytes), 3 extended (8 bytes)." The reserved mode counts as no address.
unfoldable pub address_length : AddressingMode → ℕ
address_length Absent = 0
address_length Unknown = 0
address_length Short = 2
address_length Extended = 8

-- whether an address is present
unfoldable pub present : AddressingMode → Bool
present Absent = false
present Unknown = false
present Short = true
present Extended = true

unfoldable pub extended : AddressingMode → Bool
extended Absent = false
extended Unknown = false
extended Short = false
extended Extended = true

-- "Versions 0 and 1: a PAN before each address present; with both present and bit 6 set, no source PAN."
unfoldable pub legacy_pan_ids : Bool → Bool → Bool → PanIdsPresent
legacy_pan_ids dst src compression = record { dst = dst; src = src && not (dst && compression) }

-- Version 2: the standard's table (PanIdCompression.antt).

-- whether a mode is what the table says of an address, by its length; the reserved mode counts as not present
abbrev pub fits : AddressEntry → AddressingMode → Bool
fits AddressEntry.not_present mode = eqb (address_length mode) 0
fits AddressEntry.present mode = ltb 0 (address_length mode)
fits AddressEntry.short mode = eqb (address_length mode) 2
fits AddressEntry.extended mode = eqb (address_length mode) 8

abbrev pub stands : PanEntry → Bool
stands PanEntry.not_present = false
stands PanEntry.present = true

-- whether a destination mode, a source mode and bit 6 are those of a row
abbrev pub is_in : AddressingMode → AddressingMode → Bool → Row → Bool
is_in dst src compression row = fits row.dst_address dst && (fits row.src_address src && eqb row.bit_six (flag_number compression))

-- the rows that have them, in the table's order
abbrev pub rows_of : AddressingMode → AddressingMode → Bool → List Row → List Row
rows_of dst src compression [] = []
rows_of dst src compression (row ∷ rows) =
    cond (is_in dst src compression row) (row ∷ rows_of dst src compression rows) (rows_of dst src compression rows)

-- the PANs of the first of them; that there is one, and no second, is the law `OneRowEach`
abbrev pub pan_ids_in : List Row → PanIdsPresent
pan_ids_in [] = record { dst = false; src = false }
pan_ids_in (row ∷ rows) = record { dst = stands row.dst_pan; src = stands row.src_pan }

unfoldable pub current_pan_ids : AddressingMode → AddressingMode → Bool → PanIdsPresent
current_pan_ids dst src compression = pan_ids_in (rows_of dst src compression compression_table)

-- the PANs that stand in the header, by version; version 3, which is not well formed, counts as version 2
unfoldable pub pan_ids_of : FrameControl → PanIdsPresent
pan_ids_of fc =
    let dst = fc.dst_addressing_mode in
    let src = fc.src_addressing_mode in
    cond (ltb fc.frame_version 2)
    (legacy_pan_ids (present dst) (present src) fc.pan_id_compression)
    (current_pan_ids dst src fc.pan_id_compression)

-- a PAN is two bytes long
unfoldable pub pan_id_length : Bool → ℕ
pan_id_length true = 2
pan_id_length false = 0

-- "After the sequence number stand destination PAN, destination, source PAN, source": their lengths
unfoldable pub lengths_of : FrameControl → AddressingFieldsLengths
lengths_of fc =
    record {
      dst_pan_id = pan_id_length (pan_ids_of fc).dst;
      dst_address = address_length fc.dst_addressing_mode;
      src_pan_id = pan_id_length (pan_ids_of fc).src;
      src_address = address_length fc.src_addressing_mode;
    }

-- Laws, proved in proofs/Laws.antt and proofs/PanIdCompression.antt.

-- the rows of combinations, one after the other
abbrev pub rows_of_each : List (AddressingMode × AddressingMode × Bool) → List Row
rows_of_each [] = []
rows_of_each (c ∷ cs) = rows_of c.0 c.1 c.2 compression_table ++ rows_of_each cs

abbrev pub numbers : List Row → List ℕ
numbers [] = []
numbers (row ∷ rows) = row.number ∷ numbers rows

-- The table's rows and the combinations of two modes and bit 6 belong together:
pub record OneRowEach : Type 0 where
  -- Every combination is in exactly one row, also where a mode is the reserved one. None is missing, and none is in a second row.
  pub combinations : (dst src : AddressingMode) (compression : Bool) → length (rows_of dst src compression compression_table) ≡ 1
  -- There are combinations whose rows, one after the other, are the whole table: none of its rows is hidden by an earlier one.
  pub rows : (examples : List (AddressingMode × AddressingMode × Bool)) × (rows_of_each examples ≡ compression_table)
  pub fourteen : numbers compression_table ≡ 1 ∷ 2 ∷ 3 ∷ 4 ∷ 5 ∷ 6 ∷ 7 ∷ 8 ∷ 9 ∷ 10 ∷ 11 ∷ 12 ∷ 13 ∷ 14 ∷ []

-- "Version 2" in document 01's sentences, by destination present, source present, both extended, bit 6. No contract cites them: they
-- state the law below.
unfoldable pub current_sentences : Bool → Bool → Bool → Bool → PanIdsPresent
-- "no addresses: destination PAN only if bit 6 is set."
current_sentences false false both compression = record { dst = compression; src = false }
-- "One address: its PAN only if bit 6 is clear."
current_sentences true false both compression = record { dst = not compression; src = false }
current_sentences false true both compression = record { dst = false; src = not compression }
-- "Both extended: destination PAN only, and only if bit 6 is clear."
current_sentences true true true compression = record { dst = not compression; src = false }
-- "Both present otherwise: destination PAN always, source PAN only if bit 6 is clear."
current_sentences true true false compression = record { dst = true; src = not compression }

-- "Every header keeps its reading": of every control, the PANs are those of document 01's sentences. (Those of versions 0 and 1 are
-- `legacy_pan_ids` itself.)
abbrev pub KeepsReading : Type 0
KeepsReading =
    (fc : FrameControl)
    → let dst = fc.dst_addressing_mode in
    let src = fc.src_addressing_mode in
    pan_ids_of fc
    ≡ cond (ltb fc.frame_version 2)
    (legacy_pan_ids (present dst) (present src) fc.pan_id_compression)
    (current_sentences (present dst) (present src) (extended dst && extended src) fc.pan_id_compression)

-- a PAN is at most 2 bytes long and an address at most 8
pub record Bounded (l : AddressingFieldsLengths) : Type 0 where
  pub dst_pan : l.dst_pan_id ≤ 2
  pub dst_address : l.dst_address ≤ 8
  pub src_pan : l.src_pan_id ≤ 2
  pub src_address : l.src_address ≤ 8

abbrev pub LengthsBounded : Type 0
LengthsBounded = (fc : FrameControl) → Bounded (lengths_of fc)

-- in every version a source PAN stands only before a source address
abbrev pub SourcePanNeedsSource : Type 0
SourcePanNeedsSource = (fc : FrameControl) → (pan_ids_of fc).src ≡ true → present fc.src_addressing_mode ≡ true
