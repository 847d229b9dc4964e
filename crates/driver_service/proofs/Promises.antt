-- The promises of a call and of a start, from what they give.
-- Assumes nothing.
use Prim.Native.Nat.{ℕ}
use mathlib.Core.Path.{◌≡◌, ◌∙◌, ap}
use mathlib.Core.Bool.{Bool, false, cond, ◌||◌}
use mathlib.Core.List.{List, []}
use lib.Dec.{leb, eqb}
use lib.ListN.{length, take}
use native.Mathlib.Omega.{arith}
use borrow.Author.Tests.{ne_eqb}
use Rattle.radio_frame.specs.declared.Settings.{Settings}
use Rattle.tasks.specs.declared.Request.{Request}
use Rattle.tasks.specs.declared.State.{State}
use Rattle.requests.specs.Requests.{token_held, buffer_held, tx_length_unfit, arrival_refusal}
use Rattle.engine.specs.Step.{Outcome}
use Rattle.engine.proofs.Table.{passed}
use Rattle.driver.specs.Promises.{Started, idle_of}
use Rattle.waiting_line.specs.declared.RequestRecord.{RequestRecord}
use Rattle.waiting_line.specs.Line.{waiting}
use Rattle.waiting_line.proofs.Laws.{all_waiting}
use Rattle.service.specs.declared.ServiceCall.{ServiceCall}
use Rattle.service.specs.Service.{Served, refused_by, service_of, service_start}
use Rattle.service.specs.Refusals.{ServiceInOrder, ServiceRefusedUnchanged}
use Rattle.service.proofs.Refusals.{service_in_order, service_refused_unchanged}
use Rattle.service.specs.Heard.{EveryCallHeard}
use Rattle.service.proofs.Heard.{every_call_heard}
use Rattle.service.proofs.History.{service_history}
use Rattle.driver_service.specs.Promises.{served, ServiceStepped, ServiceStarted}
use Rattle.driver_service.specs.Lent.{lent_served, lent_begun}

-- an arrival that is accepted finds room
pub room : (s : State) (q : Request) (buffer full token : Bool) → arrival_refusal s q buffer full token ≡ 0 → full ≡ false
unfolding arrival_refusal
room s q buffer full token z =
    let six = passed (token_held s.wait q.token) 6 _ (omega arith) z in
    let seven = passed (leb s.set.count q.buffer || (buffer_held s q.buffer || buffer)) 7 _ (omega arith) six.1 in
    let eight = passed (tx_length_unfit s.set q.task) 8 _ (omega arith) seven.1 in
    (passed full 12 _ (omega arith) eight.1).0

pub stepped : (s : State) (qs : List Request) (pool : List ℕ) (c : ServiceCall) (r : Outcome) (line : List Request) (written : List ℕ)
    → served r line written ≡ service_of s qs pool c → ServiceStepped s qs pool c r line written
unfolding ServiceInOrder ServiceRefusedUnchanged EveryCallHeard
stepped s qs pool c r line written g =
    let refusal : r.refusal ≡ (service_of s qs pool c).refusal = ap (λ (x : Served). x.refusal) g in
    record {
      returns = g;
      refuses = refusal ∙ service_in_order s qs pool c;
      unchanged =
          λ h.
          let u = service_refused_unchanged s qs pool c (λ z. h (refusal ∙ z)) in
          ((ap (λ (x : Served). x.state) g ∙ u.state, ap (λ (x : Served). x.line) g ∙ u.line), (ap (λ (x : Served). x.reply) g ∙ u.reply, ap (λ (x : Served). x.pool) g ∙ u.pool_bytes));
      heard = every_call_heard s qs pool c;
    }

pub begun : (set : Settings) (qs next : List Request) (pool written : List ℕ) (r : Outcome) → Started set pool r written
    → next ≡ cond (eqb r.refusal 0) [] qs → ServiceStarted set qs pool r next written
unfolding service_start
begun set qs next pool written r S n =
    record {
      returns = rw (n, S.writes, S.returns);
      refuses = S.refuses;
      unchanged = λ h. (n ∙ ap (λ (t : Bool). cond t [] qs) (ne_eqb r.refusal 0 h), S.unchanged h);
      acts = S.acts;
      always_served = service_history set qs pool;
    }

-- ---- On a run of records: of four of them, and of another number

pub served_four : (s : State) (xs : List RequestRecord) (pool : List ℕ) (c : ServiceCall) → length xs ≡ 4 → lent_served s xs pool c ≡ service_of s (take 4 (waiting xs)) pool c
unfolding lent_served
served_four s xs pool c h = rw (h, all_waiting xs (omega arith))

pub served_other : (s : State) (xs : List RequestRecord) (pool : List ℕ) (c : ServiceCall) → (length xs ≡ 4 → ⊥) → lent_served s xs pool c ≡ refused_by s (waiting xs) pool 1
unfolding lent_served
served_other s xs pool c h = rw (ne_eqb (length xs) 4 h)

pub begun_four : (set : Settings) (xs : List RequestRecord) (pool : List ℕ) → length xs ≡ 4 → lent_begun set xs pool ≡ service_start set (take 4 (waiting xs)) pool
unfolding lent_begun
begun_four set xs pool h = rw (h, all_waiting xs (omega arith))

pub begun_other : (set : Settings) (xs : List RequestRecord) (pool : List ℕ) → (length xs ≡ 4 → ⊥) → lent_begun set xs pool ≡ refused_by (idle_of set) (waiting xs) pool 1
unfolding lent_begun
begun_other set xs pool h = rw (ne_eqb (length xs) 4 h)
