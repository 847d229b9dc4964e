-- The line's 96 bytes: docs/LAYOUTS.md, "The line's 96 bytes".
-- Assumes nothing.
use Rattle.std.specs.Prelude.{ℕ, zero, suc, cond, List, [], ◌∷◌, ◌++◌, eqb, drop, replicate}
use Rattle.util.specs.Bytes.{flag_number, number_at, bytes_of}
use Rattle.tasks.specs.declared.Request.{Request}
use Rattle.tasks.specs.declared.Task.{Task}
use Rattle.tasks.specs.declared.Timestamp.{Timestamp}
use Rattle.state_bytes.specs.Layout.{byte_at}
use Rattle.line_bytes.specs.declared.StartFields.{StartFields}
use Rattle.line_bytes.specs.declared.TaskFields.{TaskFields}

-- ---- Writing

-- "start: 0 best effort, 1 at the time", and the time, "0 where best effort"
unfoldable pub start_fields : Timestamp → StartFields
start_fields Timestamp.BestEffort = record { code = 0; time = 0 }
start_fields (Timestamp.Scheduled t) = record { code = 1; time = t }

-- "1 a Tx waits, 2 an Rx waits"; the channel-check flag and the length without checksum, both "0 for Rx"
unfoldable pub task_fields : Task → TaskFields
task_fields (Task.Tx n c) = record { kind = 1; cca = flag_number c; length = n }
task_fields Task.Rx = record { kind = 2; cca = 0; length = 0 }

-- the 24 bytes of a record: kind, start, flag, buffer, token, time, length, then 6 that are 0
abbrev pub record_bytes : Request → List ℕ
record_bytes q =
    (task_fields q.task).kind
    ∷ (start_fields q.start).code
    ∷ (task_fields q.task).cca
    ∷ q.buffer
    ∷ bytes_of 4 q.token
    ++ bytes_of 8 (start_fields q.start).time
    ++ bytes_of 2 (task_fields q.task).length
    ++ replicate 6 0

-- "free records .. are all 0"
abbrev pub free_bytes : List ℕ
free_bytes = replicate 24 0

-- n records: "in the order of arrival; free records come last"
abbrev pub written_records : ℕ → List Request → List ℕ
written_records zero qs = []
written_records (suc n) [] = free_bytes ++ written_records n []
written_records (suc n) (q ∷ qs) = record_bytes q ++ written_records n qs

-- "4 records of 24 bytes"; a line has at most four requests, and of a longer list, which no line is, the first four are written
unfoldable pub written_line : List Request → List ℕ
written_line qs = written_records 4 qs

-- ---- The same table, read. A code that stands for nothing is read as the last of its kind; what is written for that has another code,
-- so such bytes are not those of any line.

unfoldable pub start_at : ℕ → ℕ → Timestamp
start_at code time = cond (eqb code 0) Timestamp.BestEffort (Timestamp.Scheduled time)

unfoldable pub task_at : ℕ → ℕ → ℕ → Task
task_at kind cca length = cond (eqb kind 1) (Task.Tx length (eqb cca 1)) Task.Rx

-- the request of the record that bytes begin with
unfoldable pub request_at : List ℕ → Request
request_at bytes =
    record {
      token = number_at bytes 4 4;
      start = start_at (byte_at bytes 1) (number_at bytes 8 8);
      buffer = byte_at bytes 3;
      task = task_at (byte_at bytes 0) (byte_at bytes 2) (number_at bytes 16 2);
    }

-- n records, before the first one that is free: what stands behind a gap is not read, and so not what is written for the line
unfoldable pub read_records : ℕ → List ℕ → List Request
read_records zero bytes = []
read_records (suc n) bytes = cond (eqb (byte_at bytes 0) 0) [] (request_at bytes ∷ read_records n (drop 24 bytes))

unfoldable pub line_at : List ℕ → List Request
line_at bytes = read_records 4 bytes
