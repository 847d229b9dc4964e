-- Writing a line and reading it gives it back; so bytes are accepted exactly if some line that fits is written as them.
-- Assumes nothing.
use Prim.Native.Nat.{ℕ, zero, suc, ◌^◌, ◌<◌, ◌≤◌}
use mathlib.Core.Path.{◌≡◌, refl, ◌∙◌, ap}
use mathlib.Core.Bool.{Bool, true, false, cond}
use mathlib.Core.List.{List, [], ◌∷◌, ◌++◌}
use lib.Dec.{eqb}
use lib.ListN.{get_or, length, drop}
use native.Mathlib.Omega.{arith}
use Rattle.util.specs.Bytes.{number_at, AllBytes}
use Rattle.util.proofs.Numbers.{read_back, byte_at, fits_bytes, drop_bytes}
use Rattle.tasks.specs.declared.Request.{Request}
use Rattle.tasks.specs.declared.State.{State}
use Rattle.tasks.specs.declared.Task.{Task}
use Rattle.tasks.specs.declared.Timestamp.{Timestamp}
use Rattle.state_bytes.specs.Valid.{same_list}
use Rattle.std.proofs.lemmas.Bool.{and_parts}
use Rattle.state_bytes.proofs.Same.{same_true, same_refl}
use Rattle.line_bytes.proofs.InWords.{fits_exactly}
use Rattle.line_bytes.specs.Layout.{start_fields, task_fields, record_bytes, written_records, written_line, start_at, task_at, request_at, read_records, line_at}
use Rattle.line_bytes.specs.Valid.{line_fits, holds_line, Every, RequestSized, LineSized, LineReadsBack, LinePasses, LineWrittenFrom, LineHeldExactly}

-- ---- A record

start_back : (start : Timestamp) → start_at (start_fields start).code (start_fields start).time ≡ start
unfolding start_at start_fields
start_back Timestamp.BestEffort = refl
start_back (Timestamp.Scheduled t) = refl

task_back : (task : Task) → task_at (task_fields task).kind (task_fields task).cca (task_fields task).length ≡ task
unfolding task_at task_fields
task_back (Task.Tx n true) = refl
task_back (Task.Tx n false) = refl
task_back Task.Rx = refl

abbrev made : ℕ → Timestamp → ℕ → Task → Request
made token start buffer task = record { token = token; start = start; buffer = buffer; task = task }

same_request : {token token' time time' length length' : ℕ} (code buffer kind cca : ℕ) → token ≡ token' → time ≡ time' → length ≡ length'
    → made token (start_at code time) buffer (task_at kind cca length) ≡ made token' (start_at code time') buffer (task_at kind cca length')
same_request code buffer kind cca e f g = rw (e, f, g)

record_back : (q : Request) (rest : List ℕ) → RequestSized q → request_at (record_bytes q ++ rest) ≡ q
unfolding request_at number_at
record_back q rest F =
    let start = start_fields q.start in
    let task = task_fields q.task in
    same_request start.code q.buffer task.kind task.cca
    (read_back 4 q.token F.token) (read_back 8 start.time F.time) (read_back 2 task.length F.length)
    ∙ ap (λ (x : Timestamp). made q.token x q.buffer (task_at task.kind task.cca task.length)) (start_back q.start)
    ∙ ap (λ (x : Task). made q.token q.start q.buffer x) (task_back q.task)

-- the kind of a record that is not free is not 0
kind_not_0 : (x y : List Request) (task : Task) → cond (eqb (task_fields task).kind 0) x y ≡ y
unfolding task_fields
kind_not_0 x y (Task.Tx n c) = refl
kind_not_0 x y Task.Rx = refl

records_back : (n : ℕ) (qs : List Request) → length qs ≤ n → Every RequestSized qs → read_records n (written_records n qs) ≡ qs
unfolding read_records
records_back zero [] h F = refl
records_back zero (q ∷ qs) h F = absurd (omega arith)
records_back (suc n) [] h F = refl
records_back (suc n) (q ∷ qs) h F =
    kind_not_0 _ _ q.task
    ∙ ap (λ (r : Request). r ∷ read_records n (written_records n qs)) (record_back q (written_records n qs) F.0)
    ∙ ap (λ (rs : List Request). q ∷ rs) (records_back n qs (omega arith) F.1)

-- ---- The laws

pub line_reads_back : LineReadsBack
unfolding line_at written_line
line_reads_back l F = records_back 4 l F.0 F.1

pub line_passes : LinePasses
unfolding holds_line
line_passes s l F f = simp (line_reads_back l F, f, same_refl (written_line l))

-- ---- What bytes are read as fits its widths

start_sized : (code time : ℕ) → time < 2 ^ 64 → (start_fields (start_at code time)).time < 2 ^ 64
unfolding start_at start_fields
start_sized code time h = go (eqb code 0)
  where
    go : (z : Bool) → (start_fields (cond z Timestamp.BestEffort (Timestamp.Scheduled time))).time < 2 ^ 64
    go true = omega arith
    go false = h

task_sized : (kind cca length : ℕ) → length < 2 ^ 16 → (task_fields (task_at kind cca length)).length < 2 ^ 16
unfolding task_at task_fields
task_sized kind cca length h = go (eqb kind 1)
  where
    go : (z : Bool) → (task_fields (cond z (Task.Tx length (eqb cca 1)) Task.Rx)).length < 2 ^ 16
    go true = h
    go false = omega arith

request_sized : (bytes : List ℕ) → AllBytes bytes → RequestSized (request_at bytes)
unfolding request_at
request_sized bytes A =
    record {
      token = fits_bytes bytes A 4 4;
      time = start_sized (get_or bytes 1 0) (number_at bytes 8 8) (fits_bytes bytes A 8 8);
      buffer = byte_at bytes A 3;
      length = task_sized (get_or bytes 0 0) (get_or bytes 2 0) (number_at bytes 16 2) (fits_bytes bytes A 16 2);
    }

sized : (n : ℕ) (bytes : List ℕ) → AllBytes bytes → (length (read_records n bytes) ≤ n) × Every RequestSized (read_records n bytes)
unfolding read_records
sized zero bytes A = (omega arith, tt)
sized (suc n) bytes A = go _ (sized n (drop 24 bytes) (drop_bytes 24 bytes A))
  where
    rest : List Request
    rest = read_records n (drop 24 bytes)

    go : (z : Bool) → (length rest ≤ n) × Every RequestSized rest
        → (length (cond z [] (request_at bytes ∷ rest)) ≤ suc n) × Every RequestSized (cond z [] (request_at bytes ∷ rest))
    go true h = (omega arith, tt)
    go false h = (omega (arith, h.0), (request_sized bytes A, h.1))

line_sized : (bytes : List ℕ) → AllBytes bytes → LineSized (line_at bytes)
unfolding line_at
line_sized bytes A = sized 4 bytes A

read_from : (s : State) (bytes : List ℕ) → AllBytes bytes → holds_line s bytes ≡ true → LineWrittenFrom s bytes
unfolding holds_line
read_from s bytes A h =
    let l = line_at bytes in
    let fits = line_fits s l in
    let written = same_list (written_line l) bytes in
    record {
      line = l;
      sized = line_sized bytes A;
      fits = (fits_exactly s l).0 (and_parts fits written h).0;
      written = same_true (written_line l) bytes ((and_parts fits written h).1);
    }

pub line_held_exactly : LineHeldExactly
line_held_exactly s bytes A = (read_from s bytes A, λ w. rw (← w.written) (line_passes s w.line w.sized ((fits_exactly s w.line).1 w.fits)))
