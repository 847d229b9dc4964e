-- The check of a frame with its checksum.
-- Assumes nothing.
use Rattle.std.specs.Prelude.{ℕ, ◌-◌, ◌≡◌, Bool, true, false, cond, ◌&&◌, ◌||◌, Result, Ok, Err, List, eqb, ltb, length, get_or, take, drop}
use Rattle.refusals.specs.declared.Refusal.{Refusal}
use Rattle.refusals.specs.Refusals.{refusal_number}
use Rattle.fcs.specs.Fcs.{fcs_bytes}

-- "under 3 or over 127 bytes"
abbrev pub unfit_length : List ℕ → Bool
unfit_length frame = ltb (length frame) 3 || ltb 127 (length frame)

-- the last two bytes of a frame, and the rest
abbrev pub last_two : List ℕ → List ℕ
last_two frame = drop (length frame - 2) frame

abbrev pub rest_of : List ℕ → List ℕ
rest_of frame = take (length frame - 2) frame

-- two lists of two bytes are the same
abbrev pub same_two : List ℕ → List ℕ → Bool
same_two xs ys = eqb (get_or xs 0 0) (get_or ys 0 0) && eqb (get_or xs 1 0) (get_or ys 1 0)

-- "the last two bytes are those of the rest"
abbrev pub ends_in_own_fcs : List ℕ → Bool
ends_in_own_fcs frame = same_two (last_two frame) (fcs_bytes (rest_of frame))

-- "A check says yes exactly if the last two bytes are those of the rest. Refused: 14 by the check for under 3 or over 127 bytes,
-- its only test"
unfoldable pub check_of : List ℕ → Result Bool Refusal
check_of frame = cond (unfit_length frame) (Err Refusal.FrameLength) (Ok (ends_in_own_fcs frame))

-- The number of each case: a refusal's own, which is document 02's 14, and in the exported form (docs/LAYOUTS.md) 0 for yes, which
-- says there as everywhere that all is well, and 255 for no: no refusal has the number 255.
abbrev pub check_number : Result Bool Refusal → ℕ
check_number (Ok true) = 0
check_number (Ok false) = 255
check_number (Err refusal) = refusal_number refusal

-- what check_fcs answers: the case, and the number for it
pub record FcsChecked (frame : List ℕ) (r : Result Bool Refusal) : Type 0 where
  pub case : r ≡ check_of frame
  pub number : check_number r ≡ cond (unfit_length frame) 14 (cond (ends_in_own_fcs frame) 0 255)
