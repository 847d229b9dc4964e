-- When an acknowledgement is sent, said of a whole call on every state and pool: document 01, "Waits", Header, as document 02 changes
-- it (E4). The definitions of the Header call are crates/reading/specs/Reading.antt; here is what they come to.
-- Assumes nothing.
use Rattle.std.specs.Prelude.{ℕ, ◌≡◌, Bool, true, false, List, take, drop, Option, Some}
use Rattle.radio_frame.specs.declared.Settings.{Settings}
use Rattle.radio_frame.specs.RadioFrame.{frame_start}
use Rattle.phy.specs.declared.Ifs.{Ifs}
use Rattle.phy.specs.Phy.{ifs_of}
use Rattle.ack.specs.Ack.{seq_nr_set_at}
use Rattle.frame_control.specs.declared.FrameControl.{FrameControl}
use Rattle.header.specs.declared.Address.{Address}
use Rattle.header.specs.declared.AddressingFields.{AddressingFields}
use Rattle.header.specs.declared.PreliminaryFrameInfo.{PreliminaryFrameInfo}
use Rattle.header.specs.Header.{info_of}
use Rattle.filter.specs.Filter.{for_us}
use Rattle.tasks.specs.declared.Action.{Action}
use Rattle.tasks.specs.declared.Answers.{Answers}
use Rattle.tasks.specs.declared.Call.{Call}
use Rattle.tasks.specs.declared.RxTask.{RxTask}
use Rattle.tasks.specs.declared.State.{State}
use Rattle.tasks.specs.declared.Timestamp.{Timestamp}
use Rattle.tasks.specs.declared.Transition.{Transition}
use Rattle.tasks.specs.declared.Wait.{Wait}
use Rattle.engine.specs.Step.{Outcome}
use Rattle.engine.specs.Step.{step_of, step_pool}

-- "how many bytes have arrived in the listening buffer's frame": what these say
abbrev pub arrived_info : Settings → List ℕ → RxTask → ℕ → PreliminaryFrameInfo
arrived_info set pool q arrived = info_of (take arrived (drop (frame_start set q.buffer) pool))

-- a Header call, accepted or not, at which the frame that is being received is to be acknowledged, with the number k
pub record AckDue (s : State) (pool : List ℕ) (c : Call) (q : RxTask) (arrived length k : ℕ) : Type 0 where
  -- the call is Header, in the wait for it
  pub reading : s.wait ≡ Wait.Reading q
  pub header : c ≡ Call.Header arrived length
  -- "For us ..
  pub is_for_us : for_us s.set.hardware_addr s.set.pan_id s.set.implicit_broadcast (arrived_info s.set pool q arrived) ≡ true
  -- .. with request bit ..
  pub control : FrameControl
  pub is_control : (arrived_info s.set pool q arrived).frame_control ≡ Some control
  pub requests : control.ack_request ≡ true
  -- .. and sequence number"
  pub number : (arrived_info s.set pool q arrived).seq_nr ≡ Some k
  -- E4: no frame "whose destination is short FFFF, or which passed by implicit broadcast", as one for us without a destination did
  pub addressing : AddressingFields
  pub is_addressing : (arrived_info s.set pool q arrived).addressing_fields ≡ Some addressing
  pub not_broadcast : addressing.dst_address ≡ Address.Short 65535 → ⊥
  pub not_absent : addressing.dst_address ≡ Address.Absent → ⊥

-- "write it in the ACK frame, send it, rollback on": three bytes from the ACK buffer, "before an ACK: the ACK spacing". The wait keeps
-- the data frame's spacing for what follows; the settings are kept, nothing is answered yet, and one byte is written.
pub record TurnsToAck (s : State) (pool : List ℕ) (q : RxTask) (length k : ℕ) (o : Outcome) (written : List ℕ) : Type 0 where
  pub state : o.state ≡ record { set = s.set; wait = Wait.Entering (Transition.AckTurn q (ifs_of length)) }
  pub reply :
      o.reply
      ≡ record { action = Action.Tx s.set.ack_buffer 3 false Timestamp.BestEffort (Some Ifs.Aifs) true; answers = Answers.None }
  pub pool_bytes : written ≡ seq_nr_set_at pool (frame_start s.set s.set.ack_buffer) k

-- nothing is sent from the ACK buffer, an accepted call leads to another wait, and no byte is written
pub record NoAck (s : State) (pool : List ℕ) (o : Outcome) (written : List ℕ) : Type 0 where
  pub wait : o.refusal ≡ 0 → (q : RxTask) (i : Ifs) → o.state.wait ≡ Wait.Entering (Transition.AckTurn q i) → ⊥
  pub action :
      (n : ℕ) (cca : Bool) (start : Timestamp) (ifs : Option Ifs) (rollback : Bool) →
      o.reply.action ≡ Action.Tx s.set.ack_buffer n cca start ifs rollback → ⊥
  pub pool_bytes : written ≡ pool

-- what a call comes to, and the pool's bytes after it
pub record AckTurns (s : State) (pool : List ℕ) (c : Call) (o : Outcome) (written : List ℕ) : Type 0 where
  -- an accepted call at which an ACK is due turns to it ..
  pub due :
      (q : RxTask) (arrived length k : ℕ) → o.refusal ≡ 0 → AckDue s pool c q arrived length k →
      TurnsToAck s pool q length k o written
  -- .. and no other call does: so a broadcast is never acknowledged
  pub only :
      ((q : RxTask) (arrived length k : ℕ) → o.refusal ≡ 0 → AckDue s pool c q arrived length k → ⊥) →
      NoAck s pool o written

unfoldable pub EveryAckTurnIsDue : Type 0
EveryAckTurnIsDue = (s : State) (pool : List ℕ) (c : Call) → AckTurns s pool c (step_of s pool c) (step_pool s pool c)
