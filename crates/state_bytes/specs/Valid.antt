-- Which bytes are a state: document 01, refusal 1.
-- Assumes nothing.
use Rattle.std.specs.Prelude.{ℕ, ◌*◌, ◌^◌, ◌<◌, ◌≡◌, ◌↔◌, Bool, true, false, cond, not, ◌&&◌, List, [], ◌∷◌, ltb, eqb, Option, Some, None}
use Rattle.util.specs.Bytes.{AllBytes}
use Rattle.radio_frame.specs.declared.Settings.{Settings}
use Rattle.radio_frame.specs.Settings.{buffer_length, settings_refusal}
use Rattle.tasks.specs.declared.Slot.{Slot}
use Rattle.tasks.specs.declared.State.{State}
use Rattle.tasks.specs.Pending.{pending_of}
use Rattle.wait_parts.specs.Parts.{wait_parts_of, PartFit}
use Rattle.state_bytes.specs.Layout.{written_state, state_at}

-- ---- "some state with settings that pass 2 to 4, in-range buffers all different and open tokens different"

-- an unanswered request's buffer is in range and none of the own ones (which 4 has in range and different)
unfoldable pub slot_fits : Settings → Option Slot → Bool
slot_fits set None = true
slot_fits set (Some s) = ltb s.buffer set.count && (not (eqb s.buffer set.ack_buffer) && not (eqb s.buffer set.spare_buffer))

-- two unanswered requests have different tokens and different buffers
unfoldable pub differs_from : ℕ → ℕ → Option Slot → Bool
differs_from token buffer None = true
differs_from token buffer (Some s) = not (eqb token s.token) && not (eqb buffer s.buffer)

unfoldable pub slots_differ : Option Slot → Option Slot → Bool
slots_differ second None = true
slots_differ second (Some s) = differs_from s.token s.buffer second

-- settings pass 2 to 4 with a pool of their own size: the length of the pool at hand is no part of a state
unfoldable pub valid_state : State → Bool
valid_state s =
    eqb (settings_refusal s.set (buffer_length * s.set.count)) 0
    && ((slot_fits s.set (pending_of s.wait).first && slot_fits s.set (pending_of s.wait).second)
    && slots_differ (pending_of s.wait).second (pending_of s.wait).first)

-- ---- ".. is written as"

unfoldable pub same_list : List ℕ → List ℕ → Bool
same_list [] [] = true
same_list [] (y ∷ ys) = false
same_list (x ∷ xs) [] = false
same_list (x ∷ xs) (y ∷ ys) = eqb x y && same_list xs ys

-- the bytes read as a valid state, and that state is written as them
unfoldable pub holds_state : List ℕ → Bool
holds_state bytes = valid_state (state_at bytes) && same_list (written_state (state_at bytes)) bytes

unfoldable pub decoded_of : List ℕ → Option State
decoded_of bytes = cond (holds_state bytes) (Some (state_at bytes)) None

-- document 01's refusal number of each case: "1. .. the state bytes are not what some state .. is written as."
unfoldable pub decoded_refusal : Option State → ℕ
decoded_refusal (Some s) = 0
decoded_refusal None = 1

-- what decode answers: the case, and document 01's number for it
pub record Decodes (bytes : List ℕ) (r : Option State) : Type 0 where
  pub case : r ≡ decoded_of bytes
  pub refusal : decoded_refusal r ≡ cond (holds_state bytes) 0 1

-- ---- Laws of these definitions; proofs/RoundTrip.antt has their proofs.

-- the numbers of a state fit the widths that the state's types have
pub record SettingsFit (set : Settings) : Type 0 where
  pub count : set.count < 2 ^ 8
  pub headroom : set.headroom < 2 ^ 8
  pub tailroom : set.tailroom < 2 ^ 8
  pub fcs : set.fcs_length < 2 ^ 8
  pub address : set.hardware_addr < 2 ^ 64
  pub pan : set.pan_id < 2 ^ 16
  pub ack : set.ack_buffer < 2 ^ 8
  pub spare : set.spare_buffer < 2 ^ 8

pub record StateFits (s : State) : Type 0 where
  pub settings : SettingsFit s.set
  pub case : PartFit (wait_parts_of s.wait).case
  pub next : PartFit (wait_parts_of s.wait).next

-- writing a state and reading the bytes gives the state back; so two states with the same bytes are the same
abbrev pub ReadsBack : Type 0
ReadsBack = (s : State) → StateFits s → state_at (written_state s) ≡ s

-- bytes that some valid state is written as
pub record WrittenFrom (bytes : List ℕ) : Type 0 where
  pub state : State
  pub fits : StateFits state
  pub valid : valid_state state ≡ true
  pub written : written_state state ≡ bytes

-- bytes are accepted exactly if some valid state is written as them
abbrev pub HeldExactly : Type 0
HeldExactly =
    (bytes : List ℕ) →
    AllBytes bytes →
    holds_state bytes ≡ true ↔ WrittenFrom bytes
