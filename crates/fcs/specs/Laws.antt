-- What the checksum and its check are for, as laws of the definitions; proofs/Check.antt and proofs/Found.antt have their proofs.
-- Assumes nothing.
use Rattle.std.specs.Prelude.{ℕ, ◌≤◌, ◌<◌, ◌≡◌, ◌⊎◌, ◌↔◌, true, false, Ok, List, [], ◌∷◌, ◌++◌, length, get_or, set}
use Rattle.util.specs.Bytes.{AllBytes}
use Rattle.fcs.specs.Fcs.{fcs_bytes}
use Rattle.fcs.specs.Check.{last_two, rest_of, check_of, check_number}

-- "The frame 02 00 6A has checksum bytes E4 79."
abbrev pub MarkedRow : Type 0
MarkedRow = fcs_bytes (0x02 ∷ 0x00 ∷ 0x6A ∷ []) ≡ (0xE4 ∷ 0x79 ∷ [])

-- "Refused: 14 by the check for under 3 or over 127 bytes, its only test"
abbrev pub RefusedExactly : Type 0
RefusedExactly = (frame : List ℕ) → check_number (check_of frame) ≡ 14 ↔ (length frame < 3) ⊎ (127 < length frame)

-- "A check says yes exactly if the last two bytes are those of the rest", of the frames that it does not refuse.
abbrev pub YesExactly : Type 0
YesExactly =
    (frame : List ℕ) → 3 ≤ length frame → length frame ≤ 127
    → check_number (check_of frame) ≡ 0 ↔ last_two frame ≡ fcs_bytes (rest_of frame)

-- Appending the two bytes of a frame's own checksum makes the check say yes, for the lengths that it takes.
abbrev pub OwnChecksumIsRight : Type 0
OwnChecksumIsRight =
    (bytes : List ℕ) → 1 ≤ length bytes → length bytes ≤ 125 → check_of (bytes ++ fcs_bytes bytes) ≡ Ok true

-- Any one wrong bit is found, and so is any one byte with several. Where the check says yes, and so of a frame of 3 to 127 bytes,
-- it says no with any other byte in the place of any one, be it of the checksum or of the rest.
abbrev pub OneWrongByteIsFound : Type 0
OneWrongByteIsFound =
    (frame : List ℕ) → AllBytes frame → check_of frame ≡ Ok true
    → (place wrong : ℕ) → place < length frame → wrong < 256 → (wrong ≡ get_or frame place 0 → ⊥)
    → check_of (set frame place wrong) ≡ Ok false
