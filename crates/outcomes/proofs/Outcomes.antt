-- The refusals of a call or a start where a code may stand for nothing, that a refused one leaves state, line and pool, and which calls
-- leave the line.
-- Assumes nothing.
use Prim.Native.Nat.{ℕ}
use mathlib.Core.Path.{◌≡◌, refl}
use mathlib.Core.Bool.{Bool, true, false, cond, not, ◌||◌}
use mathlib.Core.List.{List, []}
use lib.Dec.{eqb}
use lib.ListN.{length}
use Rattle.radio_frame.specs.Settings.{pool_unfit, rooms_unfit, own_buffers_unfit, settings_refusal}
use Rattle.tasks.specs.declared.Request.{Request}
use Rattle.tasks.specs.declared.State.{State}
use Rattle.moves.specs.Move.{guarded_of}
use Rattle.engine.specs.Step.{start_of, start_pool}
use Rattle.service.specs.Service.{service_of, changes_line, LineStays, service_start}
use Rattle.service.specs.Refusals.{service_fits, service_later, service_refusal, ServiceInOrder, ServiceRefusedUnchanged}
use Rattle.service.proofs.Refusals.{service_in_order, service_refused_unchanged, line_stays}
use Rattle.call_codes.specs.declared.ExportedCall.{ExportedCall}
use Rattle.call_codes.specs.declared.StartNumbers.{StartNumbers}
use Rattle.call_codes.specs.Codes.{known_flag, known_of, call_of, settings_of}
use Rattle.outcomes.specs.Outcomes.{or_five, unknown_of, made_of, unknown_start, begun_of}

-- ---- A call
module _ (s : State) (qs : List Request) (po : List ℕ) (x : ExportedCall) where
  pub record Unchanged : Type 0 where
    pub state : (made_of s qs po x).state ≡ s
    pub line : (made_of s qs po x).line ≡ qs
    pub pool : (made_of s qs po x).pool ≡ po

  -- refused, it leaves state, line and pool; its refusal is the first of the list
  pub made_unchanged : ((made_of s qs po x).refusal ≡ 0 → ⊥) → Unchanged
  unfolding made_of unknown_of ServiceRefusedUnchanged
  made_unchanged h = go (known_of x) refl
    where
      go : (t : Bool) → known_of x ≡ t → Unchanged
      go true e =
          let K = service_refused_unchanged s qs po (call_of x) (rw e at h) in
          record { state = rw e K.state; line = rw e K.line; pool = rw e K.pool_bytes }
      go false e = record { state = rw e; line = rw e; pool = rw e }

  -- a code that stands for nothing: 2 to 4, then 5
  five_after : (a b c : Bool) → or_five (cond a 2 (cond b 3 (cond c 4 0))) ≡ cond a 2 (cond b 3 (cond c 4 5))
  five_after true b c = refl
  five_after false true c = refl
  five_after false false true = refl
  five_after false false false = refl

  pub made_refusal : (made_of s qs po x).refusal
      ≡ cond (pool_unfit s.set (length po)) 2 (cond (rooms_unfit s.set) 3 (cond (own_buffers_unfit s.set) 4 (cond (not (known_of x) || not (service_fits s qs po (call_of x))) 5 (service_later s qs po (call_of x)))))
  unfolding made_of unknown_of settings_refusal ServiceInOrder service_refusal
  made_refusal = go (known_of x)
    where
      go : (t : Bool) → (cond t (service_of s qs po (call_of x)) (unknown_of s qs po)).refusal
          ≡ cond (pool_unfit s.set (length po)) 2 (cond (rooms_unfit s.set) 3 (cond (own_buffers_unfit s.set) 4 (cond (not t || not (service_fits s qs po (call_of x))) 5 (service_later s qs po (call_of x)))))
      go true = service_in_order s qs po (call_of x)
      go false = five_after (pool_unfit s.set (length po)) (rooms_unfit s.set) (own_buffers_unfit s.set)

-- ---- The line, which only three calls change

pub line_stays_as : (s : State) (qs : List Request) (po : List ℕ) (x : ExportedCall) → changes_line (call_of x) ≡ false → (made_of s qs po x).line ≡ qs
unfolding made_of unknown_of LineStays
line_stays_as s qs po x h = go (known_of x)
  where
    go : (t : Bool) → (cond t (service_of s qs po (call_of x)) (unknown_of s qs po)).line ≡ qs
    go true = line_stays s qs po (call_of x) h
    go false = refl

-- ---- A start
module _ (n : StartNumbers) (po : List ℕ) where
  -- a refused start leaves the pool
  pub begun_unchanged : ((begun_of n [] po).refusal ≡ 0 → ⊥) → (begun_of n [] po).pool ≡ po
  unfolding begun_of unknown_start service_start start_of start_pool guarded_of
  begun_unchanged h = go (known_flag n.implicit_broadcast) refl
    where
      inner : (t : Bool) → eqb (settings_refusal (settings_of n) (length po)) 0 ≡ t → known_flag n.implicit_broadcast ≡ true → start_pool (settings_of n) po ≡ po
      inner true e l = absurd (h (rw (l, e)))
      inner false e l = rw e

      go : (t : Bool) → known_flag n.implicit_broadcast ≡ t → (begun_of n [] po).pool ≡ po
      go true l = rw l (inner (eqb (settings_refusal (settings_of n) (length po)) 0) refl l)
      go false l = rw l

  -- the line is empty after an empty one, whatever start comes to
  pub begun_line : (begun_of n [] po).line ≡ []
  unfolding begun_of unknown_start service_start
  begun_line = go (known_flag n.implicit_broadcast)
    where
      go : (t : Bool) → (cond t (service_start (settings_of n) [] po) (unknown_start (settings_of n) [] po)).line ≡ []
      go true = inner (eqb (start_of (settings_of n) po).refusal 0)
        where
          inner : (v : Bool) → ◌≡◌ {A = List Request} (cond v [] []) []
          inner true = refl
          inner false = refl
      go false = refl
