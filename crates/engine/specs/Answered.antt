-- What an answer to a transmit request says: the hazard that the customer came with, "takes a stray frame for its own
-- acknowledgement", as one claim in the book's words. `AnsweredRight` is the claim; Lists.antt makes it of every answer of every list of
-- calls.
-- Assumes nothing.
use Rattle.std.specs.Prelude.{ℕ, ◌≡◌, Bool, true, false, List, [], ◌∷◌, ◌⊎◌, ◌↔◌, Some, None}
use Rattle.radio_frame.specs.declared.Settings.{Settings}
use Rattle.radio_frame.specs.RadioFrame.{frame_head}
use Rattle.ack.specs.Ack.{acknowledges}
use Rattle.tasks.specs.declared.Call.{Call}
use Rattle.tasks.specs.declared.Cause.{Cause}
use Rattle.tasks.specs.declared.Response.{Response}
use Rattle.tasks.specs.declared.RxResult.{RxResult}
use Rattle.tasks.specs.declared.TaskResult.{TaskResult}
use Rattle.engine.specs.Book.{no_buffer_of, accepted, entered, window_ended, frame_started, Settled}

-- the call tells what the task that the radio left came to
abbrev pub Tells : Call → TaskResult → Type 0
Tells (Call.Request q) r = ⊥
Tells Call.None r = ⊥
Tells Call.FrameStart r = ⊥
Tells (Call.OutboundSeen start cca) r = ⊥
Tells (Call.Stopped x) r = ⊥
Tells (Call.Header arrived len) r = ⊥
Tells (Call.Entered x entry) r = x ≡ r
Tells (Call.Fallback x cause) r = x ≡ r
Tells Call.Rollback r = ⊥

-- "the received frame is 3 bytes, (control & EFFF) = 0002 hexadecimal, and the third byte is the number noted at acceptance":
-- of a receive result, with the frame in a buffer; a damaged frame is none
abbrev pub is_ack : Settings → List ℕ → ℕ → ℕ → RxResult → Bool
is_ack set pool buffer number (RxResult.Frame len t quality) = acknowledges (frame_head set pool buffer) len number
is_ack set pool buffer number RxResult.RxWindowEnded = false
is_ack set pool buffer number (RxResult.CrcError t quality) = false

-- In the very call that answers the request, whose frame was told sent at a time, the radio tells what it received after "frame
-- started" in the request's own ACK wait, in the buffer that was named for it; and whether that is the ACK with the number is `ack`.
pub record Heard (set : Settings) (x : Settled) (number time : ℕ) (ack : Bool) : Type 0 where
  pub buffer : ℕ
  pub started : x.entry.progress ≡ frame_started time buffer
  pub result : RxResult
  pub received : Tells x.call (TaskResult.Rx result)
  pub its_ack : is_ack set x.pool buffer number result ≡ ack

-- one answer, with the settings that start was given
pub record AnsweredRight (set : Settings) (x : Settled) : Type 0 where
  -- A request whose frame wanted an ACK, with the number noted at acceptance, is answered Sent exactly if its ACK was received; the
  -- time is the one at which its frame was told sent.
  pub sent_exactly :
      (number : ℕ) →
      x.entry.number ≡ Some number →
      (time : ℕ) →
      x.response ≡ Response.Sent time ↔ Heard set x number time true
  -- Nack is answered only if its frame wanted an ACK and was told sent at that time, and then its window ended or what the radio tells
  -- of the frame that started there is not its ACK.
  pub nack_only :
      (time : ℕ) →
      x.response ≡ Response.Nack time →
      (number : ℕ) × (x.entry.number ≡ Some number)
      × ((x.entry.progress ≡ window_ended time) ⊎ Heard set x number time false)
  -- An error is answered only if the radio could not enter sending its frame.
  pub error_only :
      (cause : Cause) →
      x.response ≡ Response.Error cause →
      (x.entry.progress ≡ accepted) × (result : TaskResult) × (x.call ≡ Call.Fallback result cause)
  -- One whose frame wanted none is answered Sent only if the radio had entered sending it and tells in this call that it was sent, at
  -- that time.
  pub sent_only :
      x.entry.number ≡ None →
      (time : ℕ) →
      x.response ≡ Response.Sent time →
      (x.entry.progress ≡ entered no_buffer_of) × Tells x.call (TaskResult.Sent time)

-- every one of them
abbrev pub AllAnsweredRight : Settings → List Settled → Type 0
AllAnsweredRight set [] = Unit {0}
AllAnsweredRight set (x ∷ xs) = AnsweredRight set x × AllAnsweredRight set xs
