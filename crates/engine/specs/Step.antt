-- Start and the nine calls: document 01, "Settings and pool", "Waits" and "Refusals, in checking order".
-- Assumes nothing.
use Rattle.std.specs.Prelude.{ℕ, cond, List, eqb, length, Option, Some, None, Result, Ok, Err}
use Rattle.refusals.specs.declared.Refusal.{Refusal}
use Rattle.refusals.specs.Refusals.{refusal_number}
use Rattle.radio_frame.specs.declared.Settings.{Settings}
use Rattle.radio_frame.specs.Settings.{settings_refusal}
use Rattle.radio_frame.specs.RadioFrame.{frame_start}
use Rattle.ack.specs.Ack.{imm_ack_frame_at, seq_nr_set_at}
use Rattle.tasks.specs.declared.Answers.{Answers}
use Rattle.tasks.specs.declared.Asked.{Asked}
use Rattle.tasks.specs.declared.Call.{Call}
use Rattle.tasks.specs.declared.Reply.{Reply}
use Rattle.tasks.specs.declared.State.{State}
use Rattle.tasks.specs.declared.Wait.{Wait}
use Rattle.moves.specs.Move.{Move}
use Rattle.moves.specs.Move.{refused_of, guarded_of, to_idle}
use Rattle.asking.specs.Asking.{asking_of}
use Rattle.entering.specs.Entering.{entering_of}
use Rattle.listening.specs.Listening.{listening_of}
use Rattle.stopping.specs.Stopping.{stopping_of}
use Rattle.reading.specs.Reading.{reading_of}

-- what a call returns: its refusal, or 0; the next state, which a refusal leaves as it was; the reply
pub record Outcome : Type 0 where
  pub refusal : ℕ
  pub state : State
  pub reply : Reply

-- what the wait does with the call
unfoldable pub wait_move : State → List ℕ → Call → Wait → Move
wait_move s pool c (Wait.Asking a) = asking_of s pool a c
wait_move s pool c (Wait.Entering e) = entering_of s pool e c
wait_move s pool c (Wait.Listening q) = listening_of s q c
wait_move s pool c (Wait.Stopping p) = stopping_of s p c
wait_move s pool c (Wait.Reading q) = reading_of s pool q c

-- 2 to 4 come before 5 to 11, in every call
unfoldable pub move_of : State → List ℕ → Call → Move
move_of s pool c = guarded_of s (settings_refusal s.set (length pool)) (wait_move s pool c s.wait)

abbrev pub outcome_of : Move → Outcome
outcome_of m = record { refusal = m.refusal; state = m.state; reply = m.reply }

-- an outcome as it is returned, of a call on a state: the next state and the reply, or the refusal
abbrev pub outcome_told : State → Result (State × Reply) Refusal → Outcome
outcome_told s (Ok (state, reply)) = record { refusal = 0; state = state; reply = reply }
outcome_told s (Err refusal) = outcome_of (refused_of s (refusal_number refusal))

-- "write it in the ACK frame": the one byte that a call may write
unfoldable pub written_by : Settings → List ℕ → Option ℕ → List ℕ
written_by set pool (Some k) = seq_nr_set_at pool (frame_start set set.ack_buffer) k
written_by set pool None = pool

-- a call: what it returns, and every byte of the pool after it
unfoldable pub step_of : State → List ℕ → Call → Outcome
step_of s pool c = outcome_of (move_of s pool c)

unfoldable pub step_pool : State → List ℕ → Call → List ℕ
step_pool s pool c = written_by s.set pool (move_of s pool c).number

-- start: 2 to 4, then idle, and "02 10 00 into the ACK buffer's frame and no other byte"
unfoldable pub start_of : Settings → List ℕ → Outcome
start_of set pool =
    outcome_of
    (guarded_of (record { set = set; wait = Wait.Asking Asked.Idle }) (settings_refusal set (length pool)) (to_idle set Answers.None))

unfoldable pub start_pool : Settings → List ℕ → List ℕ
start_pool set pool =
    cond (eqb (settings_refusal set (length pool)) 0) (imm_ack_frame_at pool (frame_start set set.ack_buffer)) pool
