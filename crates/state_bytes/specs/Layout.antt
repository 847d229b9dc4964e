-- The state's 64 bytes: docs/LAYOUTS.md, "The state's 64 bytes".
-- Assumes nothing.
use Rattle.std.specs.Prelude.{ℕ, ◌+◌, List, ◌∷◌, ◌++◌, eqb, get_or, replicate}
use Rattle.util.specs.Bytes.{flag_number, number_at, bytes_of}
use Rattle.radio_frame.specs.declared.Settings.{Settings}
use Rattle.tasks.specs.declared.State.{State}
use Rattle.tasks.specs.declared.TxTask.{TxTask}
use Rattle.wait_parts.specs.declared.Parts.{Parts}
use Rattle.wait_parts.specs.Parts.{wait_parts_of, wait_at}

-- token, buffer, Tx length: 7 bytes
abbrev pub written_task : TxTask → List ℕ
written_task q = bytes_of 4 q.token ++ q.buffer ∷ bytes_of 2 q.length

-- bytes 0 to 16: the settings; 17 to 44: the wait; the rest 0
unfoldable pub written_parts : Settings → Parts → List ℕ
written_parts set p =
    set.count
    ∷ set.headroom
    ∷ set.tailroom
    ∷ set.fcs_length
    ∷ bytes_of 8 set.hardware_addr
    ++ bytes_of 2 set.pan_id
    ++ flag_number set.implicit_broadcast
    ∷ set.ack_buffer
    ∷ set.spare_buffer
    ∷ p.kind
    ∷ p.case.code
    ∷ p.next.code
    ∷ written_task p.case.task
    ++ written_task p.next.task
    ++ p.case.number
    ∷ p.next.number
    ∷ p.case.spacing
    ∷ bytes_of 8 p.case.time
    ++ replicate 19 0

unfoldable pub written_state : State → List ℕ
written_state s = written_parts s.set (wait_parts_of s.wait)

-- the same table, read

abbrev pub byte_at : List ℕ → ℕ → ℕ
byte_at bytes at = get_or bytes at 0

unfoldable pub settings_at : List ℕ → Settings
settings_at bytes =
    record {
      count = byte_at bytes 0;
      headroom = byte_at bytes 1;
      tailroom = byte_at bytes 2;
      fcs_length = byte_at bytes 3;
      hardware_addr = number_at bytes 4 8;
      pan_id = number_at bytes 12 2;
      implicit_broadcast = eqb (byte_at bytes 14) 1;
      ack_buffer = byte_at bytes 15;
      spare_buffer = byte_at bytes 16;
    }

unfoldable pub task_at : List ℕ → ℕ → TxTask
task_at bytes at = record { token = number_at bytes at 4; buffer = byte_at bytes (at + 4); length = number_at bytes (at + 5) 2 }

unfoldable pub parts_at : List ℕ → Parts
parts_at bytes =
    record {
      kind = byte_at bytes 17;
      case =
          record {
            code = byte_at bytes 18;
            task = task_at bytes 20;
            number = byte_at bytes 34;
            spacing = byte_at bytes 36;
            time = number_at bytes 37 8;
          };
      next = record { code = byte_at bytes 19; task = task_at bytes 27; number = byte_at bytes 35; spacing = 0; time = 0 };
    }

unfoldable pub state_at : List ℕ → State
state_at bytes = record { set = settings_at bytes; wait = wait_at (parts_at bytes) (parts_at bytes).kind }
