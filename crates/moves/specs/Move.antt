-- What a call does: document 01, "Waits" and "Refusals, in checking order".
-- Assumes nothing.
use Rattle.std.specs.Prelude.{ℕ, cond, eqb, Option, Result, Ok, Err, None}
use Rattle.radio_frame.specs.declared.Settings.{Settings}
use Rattle.tasks.specs.declared.Action.{Action}
use Rattle.tasks.specs.declared.Answers.{Answers}
use Rattle.tasks.specs.declared.Asked.{Asked}
use Rattle.tasks.specs.declared.RxTask.{RxTask}
use Rattle.tasks.specs.declared.State.{State}
use Rattle.tasks.specs.declared.Stop.{Stop}
use Rattle.tasks.specs.declared.StopListening.{StopListening}
use Rattle.tasks.specs.declared.TaskDirection.{TaskDirection}
use Rattle.tasks.specs.declared.Wait.{Wait}
use Rattle.tasks.specs.declared.Reply.{Reply}
use Rattle.refusals.specs.declared.Refusal.{Refusal}
use Rattle.refusals.specs.Refusals.{refusal_number}
use Rattle.moves.specs.declared.Accepted.{Accepted}

-- what a call does: its refusal, or 0; the next state; the reply; the number that it writes into the ACK frame, if any
pub record Move : Type 0 where
  pub refusal : ℕ
  pub state : State
  pub reply : Reply
  pub number : Option ℕ

-- "A refusal returns its number, no action and no answer; state, pool .. keep their bytes."
abbrev pub refused_of : State → ℕ → Move
refused_of s refusal =
    record {
      refusal = refusal;
      state = s;
      reply = record { action = Action.Nothing; answers = Answers.None };
      number = None;
    }

-- "5. The call, or its outcome kind, does not fit the wait"
abbrev pub unfit : State → Move
unfit s = refused_of s 5

-- "An accepted call gives the next state, one radio or queue action and up to two answers, the earlier request's first."
abbrev pub accepted_of : Settings → Wait → Action → Answers → Move
accepted_of set wait action answers =
    record {
      refusal = 0;
      state = record { set = set; wait = wait };
      reply = record { action = action; answers = answers };
      number = None;
    }

-- the move, unless a refusal is found
unfoldable pub guarded_of : State → ℕ → Move → Move
guarded_of s refusal m = cond (eqb refusal 0) m (refused_of s refusal)

-- ---- As what a move is returned

-- an accepted call
abbrev pub made : Accepted → Move
made a = record { refusal = 0; state = a.state; reply = a.reply; number = a.number }

-- a call on a state: accepted, or refused with what a refusal keeps
abbrev pub told : State → Result Accepted Refusal → Move
told s (Ok a) = made a
told s (Err refusal) = refused_of s (refusal_number refusal)

-- ---- Moves that several waits make

-- idle: the next request is waited for
abbrev pub to_idle : Settings → Answers → Move
to_idle set answers = accepted_of set (Wait.Asking Asked.Idle) Action.ReceiveRequest answers

-- "ask": the line is asked for a request, which may be None
abbrev pub ask_any : Settings → Asked → Answers → Move
ask_any set a answers = accepted_of set (Wait.Asking a) (Action.TryReceiveRequest TaskDirection.Any) answers

-- listening: a frame's start or an outbound request is waited for
abbrev pub listen_on : Settings → RxTask → Answers → Move
listen_on set q answers = accepted_of set (Wait.Listening q) Action.Listen answers

-- "stop": the end of listening is waited for
abbrev pub stop_move : Settings → Stop → StopListening → Move
stop_move set p how = accepted_of set (Wait.Stopping p) (Action.Stop how) Answers.None
