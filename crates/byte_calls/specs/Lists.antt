-- The third demand in the exported form: lists of exported calls, and the book that is kept from start's numbers, the calls'
-- numbers, the pool as found, the returned number and the reply's bytes alone.
-- Assumes nothing.
use Rattle.std.specs.Prelude.{ℕ, ◌^◌, ◌<◌, ◌≡◌, true, false, List, [], ◌∷◌, length}
use Rattle.util.specs.Bytes.{AllBytes}
use Rattle.tasks.specs.declared.Request.{Request}
use Rattle.tasks.specs.declared.State.{State}
use Rattle.radio_frame.specs.Settings.{settings_refusal}
use Rattle.service.specs.Service.{service_of, allowed_waits}
use Rattle.service.specs.LineBook.{LineBook, start_line_book, line_book_step}
use Rattle.service.specs.Lists.{is_empty, way_on_of, ServiceSound}
use Rattle.state_bytes.specs.Layout.{state_at}
use Rattle.line_bytes.specs.Layout.{line_at}
use Rattle.reply_bytes.specs.Reply.{reply_at}
use Rattle.call_codes.specs.declared.ExportedCall.{ExportedCall}
use Rattle.call_codes.specs.declared.StartNumbers.{StartNumbers}
use Rattle.call_codes.specs.Codes.{call_of, numbers_of, settings_of}
use Rattle.byte_calls.specs.Calls.{call_result, call_state, call_line, call_reply}
use Rattle.slices.specs.Slices.{form_ok}

-- the state and line slices that a call is handed: those that the last call left ("each call is made on the line the last one left"), or
-- others
pub data Handed : Type 0 where
  last : Handed
  others : List ℕ → List ℕ → Handed

abbrev pub handed_state : List ℕ → Handed → List ℕ
handed_state state last = state
handed_state state (others st li) = st

abbrev pub handed_line : List ℕ → Handed → List ℕ
handed_line line last = line
handed_line line (others st li) = li

-- the state slice, or the line slice, after a call that left `written` in the one that it was handed: another is not the service's
abbrev pub left_by : List ℕ → List ℕ → Handed → List ℕ
left_by bytes written last = written
left_by bytes written (others st li) = bytes

-- one call of a list: its numbers, and the slices as it finds them, of any length and content
pub record ExportedCallMade : Type 0 where
  pub call : ExportedCall
  pub slices : Handed
  pub reply : List ℕ
  pub pool : List ℕ

-- the state and line slices as the last call left them, and the book
pub record ByteMoment : Type 0 where
  pub state : List ℕ
  pub line : List ℕ
  pub book : LineBook

-- the book takes the call's numbers, the pool as found, the returned number and the reply's bytes, read by docs/LAYOUTS.md
unfoldable pub after_exported_call : ByteMoment → ExportedCallMade → ByteMoment
after_exported_call m t =
    let st = handed_state m.state t.slices in
    let li = handed_line m.line t.slices in
    record {
      state = left_by m.state (call_state st li t.reply t.pool t.call) t.slices;
      line = left_by m.line (call_line st li t.reply t.pool t.call) t.slices;
      book =
          line_book_step m.book t.pool (call_of t.call) (call_result st li t.reply t.pool t.call)
          (reply_at (call_reply st li t.reply t.pool t.call));
    }

unfoldable pub after_bytes : ByteMoment → List ExportedCallMade → ByteMoment
after_bytes m [] = m
after_bytes m (t ∷ ts) = after_bytes (after_exported_call m t) ts

-- ---- Numbers are any that the arguments' types hold, and pools hold bytes; nothing more is asked of a list, but that slices other than
-- the last call's are wrong ones: one of them of another length, or with bytes that no valid state, or no line that fits it, is written as

abbrev pub NumbersFit : ExportedCall → Type 0
NumbersFit (ExportedCall.Arrive token direction start time buffer length cca) =
    (token < 2 ^ 32) × (time < 2 ^ 64) × (buffer < 2 ^ 8) × (length < 2 ^ 16)
NumbersFit (ExportedCall.Withdraw token) = token < 2 ^ 32
NumbersFit ExportedCall.Request = Unit {0}
NumbersFit ExportedCall.None = Unit {0}
NumbersFit ExportedCall.FrameStart = Unit {0}
NumbersFit (ExportedCall.OutboundSeen start time cca) = time < 2 ^ 64
NumbersFit (ExportedCall.Stopped outcome length time quality) = (length < 2 ^ 16) × (time < 2 ^ 64)
NumbersFit (ExportedCall.Header arrived length) = (arrived < 2 ^ 16) × (length < 2 ^ 16)
NumbersFit (ExportedCall.Entered result length time entry quality) = (length < 2 ^ 16) × (time < 2 ^ 64) × (entry < 2 ^ 64)
NumbersFit (ExportedCall.Fallback result length time cause causeTime quality) =
    (length < 2 ^ 16) × (time < 2 ^ 64) × (causeTime < 2 ^ 64)
NumbersFit ExportedCall.Rollback = Unit {0}

abbrev pub SlicesFit : Handed → Type 0
SlicesFit last = Unit {0}
SlicesFit (others st li) = form_ok st li 48 ≡ false

abbrev pub MadeFits : ExportedCallMade → Type 0
MadeFits t = NumbersFit t.call × SlicesFit t.slices × AllBytes t.pool

abbrev pub AllMadeFit : List ExportedCallMade → Type 0
AllMadeFit [] = Unit {0}
AllMadeFit (t ∷ ts) = MadeFits t × AllMadeFit ts

pub record StartFits (n : StartNumbers) : Type 0 where
  pub count : n.count < 2 ^ 8
  pub headroom : n.headroom < 2 ^ 8
  pub tailroom : n.tailroom < 2 ^ 8
  pub fcs : n.fcs_length < 2 ^ 8
  pub address : n.hardware_addr < 2 ^ 64
  pub pan : n.pan_id < 2 ^ 16
  pub ack : n.ack_buffer < 2 ^ 8
  pub spare : n.spare_buffer < 2 ^ 8

-- ---- The claims

-- the numbers of the call that is accepted next (`way_on_of`)
abbrev pub way_on_numbers : State → List Request → ExportedCall
way_on_numbers s qs = numbers_of (way_on_of s.set (is_empty qs) (allowed_waits qs s.wait) s.wait)

-- after every call the slices hold a valid state and a line that fits it; of these and the book holds what the service's theorem claims;
-- and the reply of whatever call is accepted next is read back from its bytes, so that they lose nothing of it
pub record ByteSound (m : ByteMoment) : Type 0 where
  pub valid : form_ok m.state m.line 48 ≡ true
  pub sound : ServiceSound (record { state = state_at m.state; line = line_at m.line; book = m.book })
  pub replies :
      (re po : List ℕ) (x : ExportedCall) →
      NumbersFit x →
      AllBytes po →
      call_result m.state m.line re po x ≡ 0 →
      reply_at (call_reply m.state m.line re po x) ≡ (service_of (state_at m.state) (line_at m.line) po (call_of x)).reply
  -- no dead end: with a reply slice and a pool of the right length the exported call with these numbers returns 0
  pub way_on :
      (re po : List ℕ) →
      length re ≡ 48 →
      settings_refusal m.book.book.set (length po) ≡ 0 →
      call_result m.state m.line re po (way_on_numbers (state_at m.state) (line_at m.line)) ≡ 0

-- THE THIRD DEMAND in the exported form, of the state bytes st and the line bytes li that a start with the numbers n left and the number
-- r that it returned: if it was accepted, then after every list of exported calls, wrong slices and codes that stand for nothing among
-- them, each on the state and line slices that the last one left, the book is sound
unfoldable pub AlwaysByteSound : StartNumbers → ℕ → List ℕ → List ℕ → Type 0
AlwaysByteSound n r st li =
    StartFits n →
    r ≡ 0 →
    (ts : List ExportedCallMade) →
    AllMadeFit ts →
    ByteSound (after_bytes (record { state = st; line = li; book = start_line_book (settings_of n) }) ts)
