-- The starred marked rows of document 01, as one table.
-- Assumes nothing.
use Rattle.std.specs.Prelude.{ℕ, ◌*◌, ◌-◌, ◌/◌, ◌%◌, ◌≡◌, Bool, true, false, List, [], ◌∷◌, ◌++◌, length, take, replicate, Option, Some, None}
use Rattle.header.specs.Header.{info_of}
use Rattle.phy.specs.declared.Ifs.{Ifs}
use Rattle.phy.specs.Phy.{ifs_of, latest_ack_start_of}
use Rattle.radio_frame.specs.Settings.{buffer_length}
use Rattle.tasks.specs.declared.Answers.{Answers}
use Rattle.tasks.specs.declared.AwaitedAck.{AwaitedAck}
use Rattle.tasks.specs.declared.Call.{Call}
use Rattle.tasks.specs.declared.Left.{Left}
use Rattle.tasks.specs.declared.Next.{Next}
use Rattle.tasks.specs.declared.Response.{Response}
use Rattle.tasks.specs.declared.RxResult.{RxResult}
use Rattle.tasks.specs.declared.State.{State}
use Rattle.tasks.specs.declared.TaskResult.{TaskResult}
use Rattle.tasks.specs.declared.Transition.{Transition}
use Rattle.tasks.specs.declared.Wait.{Wait}
use Rattle.engine.specs.Step.{step_of}
use Rattle.header.specs.declared.AddressingFields.{AddressingFields}

-- "Controls are hexadecimal numbers; header bytes run to the end of the addresses." "For number 7": a frame's three bytes.
pub data Row : Type 0 where
  control : ℕ → ℕ → Row
  spacing : ℕ → Ifs → Row
  for_seven : ℕ → ℕ → ℕ → (ℕ → Response) → Row
  entry : ℕ → ℕ → Row

-- the first bytes of a frame with a control, low byte first; its other bytes are 0
abbrev pub first_bytes : ℕ → ℕ → List ℕ
first_bytes n c = take n (c % 256 ∷ c / 256 ∷ replicate 125 0)

-- whether addressing is there: "when .. every PAN and address byte that control names have arrived"
abbrev pub is_there : Option AddressingFields → Bool
is_there (Some fields) = true
is_there None = false

-- a station of three buffers, the ACK's 0 and the spare 1, that sent the frame in buffer 2 at a time with number 7, and now
-- receives what may be its ACK
abbrev pub awaited : AwaitedAck
awaited = record { task = record { token = 1; buffer = 2; length = 15 }; number = 7; time = 640000 }

abbrev pub receiving_ack : State
receiving_ack =
    record {
      set =
          record {
            count = 3;
            headroom = 0;
            tailroom = 0;
            fcs_length = 2;
            hardware_addr = 0;
            pan_id = 0;
            implicit_broadcast = false;
            ack_buffer = 0;
            spare_buffer = 1;
          };
      wait = Wait.Entering (Transition.Request (Left.ReceivingAck awaited) Next.Off);
    }

-- the pool, with what was received in the spare buffer
abbrev pub pool_with : List ℕ → List ℕ
pool_with frame = replicate buffer_length 0 ++ (frame ++ replicate (2 * buffer_length - length frame) 0)

-- what the call answers with which the radio tells that it received these three bytes, with a link quality
abbrev pub answers_for : ℕ → ℕ → ℕ → ℕ → Answers
answers_for quality a b c =
    (step_of receiving_ack (pool_with (a ∷ b ∷ c ∷ [])) (Call.Entered (TaskResult.Rx (RxResult.Frame 3 900000 quality)) 1000000)).reply.answers

-- what a row says: so many header bytes are enough and one less is not; the other rows give a definition's value, those of an ACK
-- whatever its link quality
unfoldable pub Right : Row → Type 0
Right (control c bytes) =
    (is_there (info_of (first_bytes bytes c)).addressing_fields ≡ true)
    × (is_there (info_of (first_bytes (bytes - 1) c)).addressing_fields ≡ false)
Right (spacing len ifs) = ifs_of len ≡ ifs
Right (for_seven a b c response) =
    (quality : ℕ) → answers_for quality a b c ≡ Answers.One (record { token = 1; buffer = 2; response = response awaited.time })
Right (entry e t) = latest_ack_start_of e ≡ Some t

unfoldable pub AllRight : List Row → Type 0
AllRight [] = Unit {0}
AllRight (r ∷ rs) = Right r × AllRight rs

abbrev pub rows : List Row
rows =
    control 0x8861 9
    ∷ control 0xEC01 21
    ∷ control 0xEC41 19
    ∷ control 0xDC01 23
    ∷ spacing 18 Ifs.Sifs
    ∷ spacing 19 Ifs.Lifs
    ∷ for_seven 0x02 0x00 0x07 Response.Sent
    ∷ for_seven 0x02 0x10 0x07 Response.Sent
    ∷ for_seven 0x12 0x00 0x07 Response.Nack
    ∷ for_seven 0x02 0x20 0x07 Response.Nack
    ∷ for_seven 0x02 0x00 0x08 Response.Nack
    ∷ entry 1000000 1010000
    ∷ []

-- the claim: every row is right
abbrev pub EveryRow : Type 0
EveryRow = AllRight rows
