-- The waiting line as a lent run of request records: document 02, E1, "a lent run of four request records".
-- Assumes nothing.
use Rattle.std.specs.Prelude.{ℕ, ◌≤◌, ◌≡◌, cond, List, eqb, length}
use Rattle.radio_frame.specs.declared.Settings.{Settings}
use Rattle.tasks.specs.declared.Asked.{Asked}
use Rattle.tasks.specs.declared.Request.{Request}
use Rattle.tasks.specs.declared.State.{State}
use Rattle.tasks.specs.declared.Wait.{Wait}
use Rattle.engine.specs.Step.{Outcome}
use Rattle.waiting_line.specs.declared.RequestRecord.{RequestRecord}
use Rattle.waiting_line.specs.Line.{waiting, records}
use Rattle.service.specs.declared.ServiceCall.{ServiceCall}
use Rattle.service.specs.Service.{Served, outcome_in, refused_by, service_of, service_start}

-- the run after a call: a refusal keeps it; else the line's requests stand in front, and the places after them are free
abbrev pub run_after : List RequestRecord → Served → List RequestRecord
run_after xs r = cond (eqb r.refusal 0) (records 4 r.line) xs

-- ---- A call on a run of any length. What waits is what the records hold in their order, a free place among them passed over. A run of
-- another number of records than four is refused by 1, as a slice of a wrong length is in the exported form.

unfoldable pub lent_served : State → List RequestRecord → List ℕ → ServiceCall → Served
lent_served s xs pool c = cond (eqb (length xs) 4) (service_of s (waiting xs) pool c) (refused_by s (waiting xs) pool 1)

unfoldable pub lent_outcome : State → List RequestRecord → List ℕ → ServiceCall → Outcome
lent_outcome s xs pool c = outcome_in (lent_served s xs pool c)

unfoldable pub lent_line : State → List RequestRecord → List ℕ → ServiceCall → List RequestRecord
lent_line s xs pool c = run_after xs (lent_served s xs pool c)

unfoldable pub lent_pool : State → List RequestRecord → List ℕ → ServiceCall → List ℕ
lent_pool s xs pool c = (lent_served s xs pool c).pool

-- ---- A start on a run of any length

unfoldable pub lent_begun : Settings → List RequestRecord → List ℕ → Served
lent_begun set xs pool =
    cond (eqb (length xs) 4) (service_start set (waiting xs) pool)
    (refused_by (record { set = set; wait = Wait.Asking Asked.Idle }) (waiting xs) pool 1)

unfoldable pub lent_start : Settings → List RequestRecord → List ℕ → Outcome
lent_start set xs pool = outcome_in (lent_begun set xs pool)

unfoldable pub lent_start_line : Settings → List RequestRecord → List ℕ → List RequestRecord
lent_start_line set xs pool = run_after xs (lent_begun set xs pool)

unfoldable pub lent_start_pool : Settings → List RequestRecord → List ℕ → List ℕ
lent_start_pool set xs pool = (lent_begun set xs pool).pool

-- ---- Laws of these definitions; proofs/Lent.antt has their proofs.

-- on the records that a line is written as, a call is the call on that line, and it leaves the records of the line after it: so a list of
-- calls on a lent run is the list of them on a line
pub record OnRecords (s : State) (qs : List Request) (pool : List ℕ) (c : ServiceCall) : Type 0 where
  pub outcome : lent_outcome s (records 4 qs) pool c ≡ outcome_in (service_of s qs pool c)
  pub line : lent_line s (records 4 qs) pool c ≡ records 4 (service_of s qs pool c).line
  pub pool_bytes : lent_pool s (records 4 qs) pool c ≡ (service_of s qs pool c).pool

abbrev pub LentIsLine : Type 0
LentIsLine = (s : State) (qs : List Request) (pool : List ℕ) (c : ServiceCall) → length qs ≤ 4 → OnRecords s qs pool c
