-- Start's refusals in their order.
-- Assumes nothing.
use Prim.Native.Nat.{ℕ}
use mathlib.Core.Path.{◌≡◌, refl, ◌∙◌}
use mathlib.Core.Bool.{Bool, true, false, cond, not, ◌||◌}
use mathlib.Core.List.{List, []}
use lib.Dec.{eqb}
use lib.ListN.{length}
use Rattle.radio_frame.specs.Settings.{pool_unfit, rooms_unfit, own_buffers_unfit, settings_refusal}
use Rattle.moves.specs.Move.{Move}
use Rattle.moves.specs.Move.{refused_of, guarded_of}
use Rattle.tasks.specs.declared.State.{State}
use Rattle.engine.specs.Step.{start_of}
use Rattle.call_codes.specs.declared.StartNumbers.{StartNumbers}
use Rattle.call_codes.specs.Codes.{known_flag, settings_of}
use Rattle.service.specs.Service.{service_start}
use Rattle.slices.specs.Slices.{slices_fit}
use Rattle.outcomes.specs.Outcomes.{unknown_start, begun_of}
use Rattle.byte_calls.specs.Calls.{start_result, start_refusal}

-- the first of 2, 3 and 4, each by its flag
abbrev first : Bool → Bool → Bool → ℕ
first a b c = cond a 2 (cond b 3 (cond c 4 0))

-- .. and with a code that is known or not
with_code : (a b c d : Bool) → cond d (cond (eqb (first a b c) 0) 0 (first a b c)) (cond (eqb (first a b c) 2) 2 3) ≡ first a (b || not d) c
with_code true b c true = refl
with_code true b c false = refl
with_code false true c true = refl
with_code false true c false = refl
with_code false false true true = refl
with_code false false true false = refl
with_code false false false true = refl
with_code false false false false = refl

guarded_refusal : (s : State) (k : ℕ) (m : Move) → m.refusal ≡ 0 → (guarded_of s k m).refusal ≡ cond (eqb k 0) 0 k
unfolding guarded_of
guarded_refusal s k m e = go (eqb k 0)
  where
    go : (t : Bool) → (cond t m (refused_of s k)).refusal ≡ cond t 0 k
    go true = e
    go false = refl

module _ (n : StartNumbers) (st li re po : List ℕ) where
  abbrev k : ℕ
  k = settings_refusal (settings_of n) (length po)

  begun : (begun_of n [] po).refusal ≡ cond (known_flag n.implicit_broadcast) (cond (eqb k 0) 0 k) (cond (eqb k 2) 2 3)
  unfolding begun_of unknown_start service_start start_of
  begun = go (known_flag n.implicit_broadcast)
    where
      go : (t : Bool) → (cond t (service_start (settings_of n) [] po) (unknown_start (settings_of n) [] po)).refusal ≡ cond t (cond (eqb k 0) 0 k) (cond (eqb k 2) 2 3)
      go true = guarded_refusal _ k _ refl
      go false = refl

  in_order : (begun_of n [] po).refusal
      ≡ cond (pool_unfit (settings_of n) (length po)) 2 (cond (rooms_unfit (settings_of n) || not (known_flag n.implicit_broadcast)) 3 (cond (own_buffers_unfit (settings_of n)) 4 0))
  unfolding settings_refusal
  in_order = begun ∙ with_code (pool_unfit (settings_of n) (length po)) (rooms_unfit (settings_of n)) (own_buffers_unfit (settings_of n)) (known_flag n.implicit_broadcast)

  pub start_order : start_result n st li re po ≡ start_refusal n st li re po
  unfolding start_result start_refusal
  start_order = go (slices_fit (length st) (length li) (length re))
    where
      go : (t : Bool) → cond t (begun_of n [] po).refusal 1
          ≡ cond (not t) 1 (cond (pool_unfit (settings_of n) (length po)) 2 (cond (rooms_unfit (settings_of n) || not (known_flag n.implicit_broadcast)) 3 (cond (own_buffers_unfit (settings_of n)) 4 0)))
      go true = in_order
      go false = refl
