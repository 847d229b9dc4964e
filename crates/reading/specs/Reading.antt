-- The header of a frame that is being received: document 01, "Waits", as document 02 changes it (E4).
-- Assumes nothing.
use Rattle.std.specs.Prelude.{ℕ, ◌+◌, ◌≡◌, ◌⊎◌, Bool, true, false, cond, List, ltb, eqb, take, drop, Option, Some, None}
use Rattle.radio_frame.specs.declared.Settings.{Settings}
use Rattle.radio_frame.specs.RadioFrame.{frame_start}
use Rattle.phy.specs.declared.Ifs.{Ifs}
use Rattle.phy.specs.Phy.{ifs_of, phy_max_packet_size}
use Rattle.frame_control.specs.declared.FrameControl.{FrameControl}
use Rattle.header.specs.declared.Address.{Address}
use Rattle.header.specs.declared.AddressingFields.{AddressingFields}
use Rattle.header.specs.declared.PreliminaryFrameInfo.{PreliminaryFrameInfo}
use Rattle.header.specs.Header.{info_of}
use Rattle.filter.specs.Filter.{broadcast_address, for_us}
use Rattle.tasks.specs.declared.Action.{Action}
use Rattle.tasks.specs.declared.Answers.{Answers}
use Rattle.tasks.specs.declared.Asked.{Asked}
use Rattle.tasks.specs.declared.Call.{Call}
use Rattle.tasks.specs.declared.RxTask.{RxTask}
use Rattle.tasks.specs.declared.State.{State}
use Rattle.tasks.specs.declared.Timestamp.{Timestamp}
use Rattle.tasks.specs.declared.Transition.{Transition}
use Rattle.tasks.specs.declared.Wait.{Wait}
use Rattle.moves.specs.Move.{Move}
use Rattle.moves.specs.Move.{unfit, accepted_of, guarded_of, ask_any}

-- the destination alone decides: not the PAN, not the hardware address
unfoldable pub broadcast_destination : Address → Bool
broadcast_destination (Address.Short a) = eqb a broadcast_address
broadcast_destination Address.Absent = true
broadcast_destination (Address.Extended a) = false

-- E4: "a frame for us whose destination is short FFFF, or which passed by implicit broadcast". It is asked of frames for us; of these
-- one without a destination passed by implicit broadcast (filter, `AbsentNeedsImplicit`), and none has its addressing missing.
unfoldable pub broadcast : Option AddressingFields → Bool
broadcast (Some f) = broadcast_destination f.dst_address
broadcast None = false

-- "with request bit and sequence number": the number that is wanted back
unfoldable pub requested : Option FrameControl → Option ℕ → Option ℕ
requested (Some fc) (Some k) = cond fc.ack_request (Some k) None
requested (Some fc) None = None
requested None number = None

-- the number to acknowledge: the one that is wanted, but none of a broadcast
unfoldable pub number_to_acknowledge : Option AddressingFields → Option ℕ → Option ℕ
number_to_acknowledge addressing wanted = cond (broadcast addressing) None wanted

-- "not for us, re-arm with the spare buffer and no spacing"
abbrev pub rearm_move : Settings → RxTask → Move
rearm_move set q =
    accepted_of set (Wait.Entering (Transition.Rearm q))
    (Action.Rx set.spare_buffer Timestamp.BestEffort None false)
    Answers.None

-- "write it in the ACK frame, send it, rollback on": three bytes after the ACK spacing
abbrev pub ack_turn_move : Settings → RxTask → Ifs → ℕ → Move
ack_turn_move set q i k =
    record {
      refusal = 0;
      state = record { set = set; wait = Wait.Entering (Transition.AckTurn q i) };
      reply =
          record {
            action = Action.Tx set.ack_buffer 3 false Timestamp.BestEffort (Some Ifs.Aifs) true;
            answers = Answers.None;
          };
      number = Some k;
    }

-- by whether there is a number to acknowledge; "Else ask, any direction."
unfoldable pub receive_move : Settings → RxTask → Ifs → Option ℕ → Move
receive_move set q i (Some k) = ack_turn_move set q i k
receive_move set q i None = ask_any set (Asked.Receiving q i) Answers.None

-- "For us with request bit and sequence number: write it in the ACK frame, send it, rollback on. Else ask, any direction." Of this E4
-- changes: a broadcast "is received without an ACK turn". The spacing is by the data frame's length with checksum.
unfoldable pub header_move_of : Settings → RxTask → PreliminaryFrameInfo → ℕ → Move
header_move_of set q info length =
    cond (for_us set.hardware_addr set.pan_id set.implicit_broadcast info)
    (receive_move set q (ifs_of length) (number_to_acknowledge info.addressing_fields (requested info.frame_control info.seq_nr)))
    (rearm_move set q)

-- "10. .. or arrived bytes are above 127 − F."
unfoldable pub arrived_refusal : Settings → ℕ → ℕ
arrived_refusal set arrived = cond (ltb phy_max_packet_size (arrived + set.fcs_length)) 10 0

-- "Header: how many bytes have arrived in the listening buffer's frame, length with checksum (any 16 bits)."
unfoldable pub header_of : State → List ℕ → RxTask → ℕ → ℕ → Move
header_of s pool q arrived length =
    guarded_of s (arrived_refusal s.set arrived)
    (header_move_of s.set q (info_of (take arrived (drop (frame_start s.set q.buffer) pool))) length)

-- a wait for the header
unfoldable pub reading_of : State → List ℕ → RxTask → Call → Move
reading_of s pool q (Call.Request r) = unfit s
reading_of s pool q Call.None = unfit s
reading_of s pool q Call.FrameStart = unfit s
reading_of s pool q (Call.OutboundSeen start cca) = unfit s
reading_of s pool q (Call.Stopped r) = unfit s
reading_of s pool q (Call.Header arrived length) = header_of s pool q arrived length
reading_of s pool q (Call.Entered r entry) = unfit s
reading_of s pool q (Call.Fallback r cause) = unfit s
reading_of s pool q Call.Rollback = unfit s

-- Laws, proved in proofs/Laws.antt: what E4 asks for, said of the destination itself. Each settles the whole move: state, reply and the
-- byte that is written into the ACK frame. (engine, `EveryAckTurnIsDue`, is of the call.)

-- A frame whose destination is short FFFF or absent never leads to the ACK turn, whatever its other facts are. If it is for us, the
-- engine asks: "Else ask, any direction"; if not, it is re-armed. No number is written.
abbrev pub BroadcastNotAcknowledged : Type 0
BroadcastNotAcknowledged =
    (set : Settings) (q : RxTask) (info : PreliminaryFrameInfo) (length : ℕ) (f : AddressingFields) →
    info.addressing_fields ≡ Some f →
    (f.dst_address ≡ Address.Short 65535) ⊎ (f.dst_address ≡ Address.Absent) →
    header_move_of set q info length ≡
    cond (for_us set.hardware_addr set.pan_id set.implicit_broadcast info)
    (ask_any set (Asked.Receiving q (ifs_of length)) Answers.None)
    (rearm_move set q)

-- Every other frame for us with request bit and sequence number does.
abbrev pub OthersAcknowledged : Type 0
OthersAcknowledged =
    (set : Settings) (q : RxTask) (info : PreliminaryFrameInfo) (length : ℕ) (f : AddressingFields) (fc : FrameControl) (k : ℕ) →
    info.addressing_fields ≡ Some f →
    (f.dst_address ≡ Address.Short 65535 → ⊥) →
    (f.dst_address ≡ Address.Absent → ⊥) →
    for_us set.hardware_addr set.pan_id set.implicit_broadcast info ≡ true →
    info.frame_control ≡ Some fc →
    fc.ack_request ≡ true →
    info.seq_nr ≡ Some k →
    header_move_of set q info length ≡ ack_turn_move set q (ifs_of length) k
