-- What an exported call or start returns, and every byte of the four slices after it: document 01, "Refusals, in checking order", and
-- document 02, E1.
-- Assumes nothing.
use Rattle.std.specs.Prelude.{ℕ, ◌+◌, ◌≡◌, ◌↔◌, Bool, true, false, cond, not, ◌||◌, List, [], eqb, length, get_or, set, replicate}
use Rattle.util.specs.Bytes.{AllBytes}
use Rattle.radio_frame.specs.Settings.{pool_unfit, rooms_unfit, own_buffers_unfit}
use Rattle.tasks.specs.declared.Request.{Request}
use Rattle.tasks.specs.declared.State.{State}
use Rattle.tasks.specs.Quality.{Quality, no_quality, link_quality}
use Rattle.service.specs.Service.{Served, service_of, is_on_line}
use Rattle.service.specs.Refusals.{service_fits, service_later}
use Rattle.state_bytes.specs.Layout.{state_at, written_state}
use Rattle.state_bytes.specs.Valid.{valid_state, StateFits}
use Rattle.line_bytes.specs.Layout.{line_at, written_line}
use Rattle.line_bytes.specs.Valid.{line_fits, LineSized}
use Rattle.reply_bytes.specs.Reply.{written_reply}
use Rattle.call_codes.specs.declared.ExportedCall.{ExportedCall}
use Rattle.call_codes.specs.declared.StartNumbers.{StartNumbers}
use Rattle.call_codes.specs.Codes.{known_flag, known_of, call_of, settings_of, with_quality, uses_quality, quality_used}
use Rattle.slices.specs.Slices.{slices_fit, form_ok, if_accepted, RightForm}
use Rattle.outcomes.specs.Outcomes.{made_of, begun_of}

-- ---- A call: the service's, between reading and writing

-- the slices as a call finds them: state, line, reply and pool; and its numbers
module _ (st li re po : List ℕ) (x : ExportedCall) where
  -- "Refusals, in checking order": the first that holds, or 0. 5 has two conditions here, the second of which is the service's; what a
  -- call that fits its wait and the line still has to pass, 6 to 13, is the service's too.
  unfoldable pub exported_refusal : ℕ
  exported_refusal =
      let s = state_at st in
      cond (not (form_ok st li (length re))) 1
      (cond (pool_unfit s.set (length po)) 2
      (cond (rooms_unfit s.set) 3
      (cond (own_buffers_unfit s.set) 4
      (cond (not (known_of x) || not (service_fits s (line_at li) po (call_of x))) 5 (service_later s (line_at li) po (call_of x))))))

  -- what the call comes to on the state and the line that the slices hold
  abbrev pub made_on : Served
  made_on = made_of (state_at st) (line_at li) po x

  unfoldable pub call_result : ℕ
  call_result = cond (form_ok st li (length re)) made_on.refusal 1

  unfoldable pub call_state : List ℕ
  call_state = if_accepted call_result (written_state made_on.state) st

  unfoldable pub call_line : List ℕ
  call_line = if_accepted call_result (written_line made_on.line) li

  unfoldable pub call_reply : List ℕ
  call_reply = if_accepted call_result (written_reply made_on.reply) re

  unfoldable pub call_pool : List ℕ
  call_pool = if_accepted call_result made_on.pool po

-- ---- The link quality: document 02, E6

-- the link quality that a call tells of the task that the radio left, or none
abbrev pub told_number : ExportedCall → Quality
told_number (ExportedCall.Arrive token direction start time buffer length cca) = no_quality
told_number (ExportedCall.Withdraw token) = no_quality
told_number ExportedCall.Request = no_quality
told_number ExportedCall.None = no_quality
told_number ExportedCall.FrameStart = no_quality
told_number (ExportedCall.OutboundSeen start time cca) = no_quality
told_number (ExportedCall.Stopped outcome length time quality) = no_quality
told_number (ExportedCall.Header arrived length) = no_quality
told_number (ExportedCall.Entered result length time entry quality) = cond (uses_quality result) (link_quality quality) no_quality
told_number (ExportedCall.Fallback result length time cause causeTime quality) =
    cond (uses_quality result) (link_quality quality) no_quality
told_number ExportedCall.Rollback = no_quality

-- the codes of answers that have one: "6 a frame was received", "8 CRC error"; of receive answers: these and "7 window ended"
abbrev pub has_quality : ℕ → Bool
has_quality code = eqb code 6 || eqb code 8

abbrev pub answers_receive : ℕ → Bool
answers_receive code = has_quality code || eqb code 7

-- the answer that stands at a place of the reply: what it carries in byte 15
abbrev pub quality_at : List ℕ → ℕ → Quality
quality_at re at = cond (has_quality (get_or re at 0)) (link_quality (get_or re (at + 15) 0)) no_quality

pub record CarriesQuality (x : ExportedCall) (re : List ℕ) (at : ℕ) : Type 0 where
  -- a receive answer carries what this very call tells, and none if none is told; every other answer carries none ..
  pub carried : quality_at re at ≡ cond (answers_receive (get_or re at 0)) (told_number x) no_quality
  -- .. and where there is none, byte 15 is 0
  pub else_zero : has_quality (get_or re at 0) ≡ false → get_or re (at + 15) 0 ≡ 0

-- ---- The promise

-- the promise of an exported call: of the state, line, reply and pool slices and the numbers at entry, the returned number and the
-- slices at exit
pub record Called (st li re po : List ℕ) (x : ExportedCall) (r : ℕ) (st' li' re' po' : List ℕ) : Type 0 where
  pub result : r ≡ call_result st li re po x
  pub state : st' ≡ call_state st li re po x
  pub line : li' ≡ call_line st li re po x
  pub reply : re' ≡ call_reply st li re po x
  pub pool : po' ≡ call_pool st li re po x
  -- the refusal is the first of the documents' list that holds ..
  pub refuses : r ≡ exported_refusal st li re po x
  -- .. 1 exactly if, in the documents' own words, a length is wrong or the bytes are not what some valid state, and some line that fits
  -- it, are written as ..
  pub refuses_one :
      AllBytes st → AllBytes li → r ≡ 1 ↔ (RightForm st li (length re) → ⊥)
  -- .. and "state, pool, state slice and reply slice keep their bytes", and the line's slice its own
  pub unchanged : (r ≡ 0 → ⊥) → ((st' ≡ st) × (li' ≡ li)) × ((re' ≡ re) × (po' ≡ po))
  -- a call on the line that is accepted changes "the line alone: no action for the radio, no answer, the wait stays"; every other accepted
  -- call has an action
  pub on_line : r ≡ 0 → is_on_line (call_of x) ≡ true → (st' ≡ st) × ((re' ≡ replicate 48 0) × (po' ≡ po))
  pub acts : r ≡ 0 → is_on_line (call_of x) ≡ false → get_or re' 0 0 ≡ 0 → ⊥
  -- both answers of an accepted call carry the link quality that was told in it, where they have one
  pub qualities : r ≡ 0 → CarriesQuality x re' 12 × CarriesQuality x re' 30

-- ---- A start: what stood in the line slice is not looked at

module _ (n : StartNumbers) (st li re po : List ℕ) where
  unfoldable pub start_result : ℕ
  start_result = cond (slices_fit (length st) (length li) (length re)) (begun_of n [] po).refusal 1

  unfoldable pub start_state : List ℕ
  start_state = if_accepted start_result (written_state (begun_of n [] po).state) st

  -- "Start empties it"
  unfoldable pub start_line : List ℕ
  start_line = if_accepted start_result (written_line []) li

  unfoldable pub start_reply : List ℕ
  start_reply = if_accepted start_result (written_reply (begun_of n [] po).reply) re

  unfoldable pub start_pool_after : List ℕ
  start_pool_after = if_accepted start_result (begun_of n [] po).pool po

  -- "Refusals, in checking order", of start: each condition by itself
  unfoldable pub start_refusal : ℕ
  start_refusal =
      cond (not (slices_fit (length st) (length li) (length re))) 1
      (cond (pool_unfit (settings_of n) (length po)) 2
      (cond (rooms_unfit (settings_of n) || not (known_flag n.implicit_broadcast)) 3
      (cond (own_buffers_unfit (settings_of n)) 4 0)))

-- ---- Laws of these definitions; proofs/Laws.antt and proofs/Qualities.antt have their proofs.

-- a call whose codes stand for something, on the bytes of a valid state and of a line that fits it, is the service's call between reading
-- and writing
pub record ServicesCall (s : State) (qs : List Request) (re po : List ℕ) (x : ExportedCall) : Type 0 where
  pub result : call_result (written_state s) (written_line qs) re po x ≡ (service_of s qs po (call_of x)).refusal
  pub state : call_state (written_state s) (written_line qs) re po x ≡ written_state (service_of s qs po (call_of x)).state
  pub line : call_line (written_state s) (written_line qs) re po x ≡ written_line (service_of s qs po (call_of x)).line
  pub reply :
      call_reply (written_state s) (written_line qs) re po x
      ≡ if_accepted (service_of s qs po (call_of x)).refusal (written_reply (service_of s qs po (call_of x)).reply) re
  pub pool : call_pool (written_state s) (written_line qs) re po x ≡ (service_of s qs po (call_of x)).pool

abbrev pub Between : Type 0
Between =
    (s : State) (qs : List Request) (re po : List ℕ) (x : ExportedCall) →
    StateFits s →
    valid_state s ≡ true →
    LineSized qs →
    line_fits s qs ≡ true →
    length re ≡ 48 →
    known_of x ≡ true →
    ServicesCall s qs re po x

-- a reply with the two answers' bytes 15 of another
abbrev pub but_qualities : List ℕ → List ℕ → List ℕ
but_qualities re re' = set (set re (12 + 15) (get_or re' (12 + 15) 0)) (30 + 15) (get_or re' (30 + 15) 0)

-- Passed another number for the link quality, a call returns the same number and leaves the same state, line and pool; its reply is the
-- same but for the two bytes, and the same where the code leaves the quality unused.
pub record QualityApart (st li re po : List ℕ) (x : ExportedCall) (k : ℕ) : Type 0 where
  pub result : call_result st li re po (with_quality k x) ≡ call_result st li re po x
  pub state : call_state st li re po (with_quality k x) ≡ call_state st li re po x
  pub line : call_line st li re po (with_quality k x) ≡ call_line st li re po x
  pub pool : call_pool st li re po (with_quality k x) ≡ call_pool st li re po x
  pub reply :
      call_result st li re po x ≡ 0 →
      call_reply st li re po (with_quality k x) ≡ but_qualities (call_reply st li re po x) (call_reply st li re po (with_quality k x))
  pub ignored : quality_used x ≡ false → call_reply st li re po (with_quality k x) ≡ call_reply st li re po x

abbrev pub QualityChangesNoOtherByte : Type 0
QualityChangesNoOtherByte = (st li re po : List ℕ) (x : ExportedCall) (k : ℕ) → QualityApart st li re po x k
