-- The law of specs/Lent.antt.
-- Assumes nothing.
use Prim.Native.Nat.{ℕ, ◌≤◌}
use mathlib.Core.Path.{◌≡◌, refl, sym, ◌∙◌, ap}
use mathlib.Core.Bool.{Bool, true, false, cond}
use mathlib.Core.List.{List}
use lib.Dec.{eqb}
use lib.ListN.{length}
use borrow.Author.Tests.{eq-eqb, eqb-false}
use Rattle.tasks.specs.declared.Request.{Request}
use Rattle.tasks.specs.declared.State.{State}
use Rattle.waiting_line.specs.Line.{records}
use Rattle.waiting_line.proofs.Laws.{length_records, records_keep_line}
use Rattle.service.specs.declared.ServiceCall.{ServiceCall}
use Rattle.service.specs.Service.{Served, outcome_in, service_of}
use Rattle.service.specs.Refusals.{ServiceRefusedUnchanged}
use Rattle.service.proofs.Refusals.{service_refused_unchanged}
use Rattle.driver_service.specs.Lent.{run_after, lent_served, lent_outcome, lent_line, lent_pool, OnRecords, LentIsLine}

module _ (s : State) (qs : List Request) (pool : List ℕ) (c : ServiceCall) (h : length qs ≤ 4) where
  abbrev r : Served
  r = service_of s qs pool c

  served_so : lent_served s (records 4 qs) pool c ≡ r
  unfolding lent_served
  served_so = rw (eq-eqb _ 4 (length_records 4 qs), records_keep_line qs h)

  line_so : (t : Bool) → eqb r.refusal 0 ≡ t → cond (eqb r.refusal 0) (records 4 r.line) (records 4 qs) ≡ records 4 r.line
  unfolding ServiceRefusedUnchanged
  line_so true e = rw e
  line_so false e = rw e (ap (records 4) (sym (service_refused_unchanged s qs pool c (eqb-false _ 0 e)).line))

  on_records : OnRecords s qs pool c
  unfolding lent_outcome lent_line lent_pool
  on_records =
      record {
        outcome = ap (λ (x : Served). outcome_in x) served_so;
        line = ap (λ (x : Served). run_after (records 4 qs) x) served_so ∙ line_so (eqb r.refusal 0) refl;
        pool_bytes = ap (λ (x : Served). x.pool) served_so;
      }

pub lent_is_line : LentIsLine
lent_is_line s qs pool c h = on_records s qs pool c h
