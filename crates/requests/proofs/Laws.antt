-- The laws of refusals 6 and 7 that specs/Requests.antt states.
-- Assumes nothing.
use Rattle.std.proofs.Common.{Option, ℕ, Some, None}
use Prim.Native.Nat.{ℕ}
use mathlib.Core.Path.{◌≡◌, refl, ap, sym}
use mathlib.Core.Logic.{◌⊎◌, inl, inr, ◌↔◌}
use mathlib.Core.Bool.{Bool, true, false, true≢false, ◌||◌}
use lib.Dec.{eqb}
use borrow.Author.Tests.{eqb-true, eq-eqb}
use Rattle.tasks.specs.declared.Slot.{Slot}
use Rattle.tasks.specs.Pending.{pending_of}
use Rattle.requests.specs.Requests.{slot_has_token, slot_has_buffer, token_held, buffer_held}
use Rattle.requests.specs.Requests.{HasToken, HasBuffer, TokenHeldExactly, BufferHeldExactly}

-- a test is true exactly if something holds
abbrev Exactly : Bool → Type 0 → Type 0
Exactly test holds = test ≡ true ↔ holds

-- two tests, each with what it says, joined
or : {A B : Type 0} (a b : Bool) → Exactly a A → Exactly b B → Exactly (a || b) (A ⊎ B)
or {A = A} {B = B} a b p q = (to a p.0, back a p.1)
  where
    to : (a : Bool) → (a ≡ true → A) → (a || b) ≡ true → A ⊎ B
    to true f h = inl (f refl)
    to false f h = inr (q.0 h)

    back : (a : Bool) → (A → a ≡ true) → A ⊎ B → (a || b) ≡ true
    back true f h = refl
    back false f (inl x) = absurd (true≢false (sym (f x)))
    back false f (inr y) = q.1 y

equal : (x y : ℕ) → Exactly (eqb x y) (x ≡ y)
equal x y = (eqb-true x y, eq-eqb x y)

abbrev slot : ℕ → ℕ → Slot
slot t b = record { token = t; buffer = b }

has_token_lem : (h : Option Slot) (token : ℕ) → Exactly (slot_has_token h token) (HasToken h token)
unfolding slot_has_token
has_token_lem h token = (to h, λ x. rw x.held (eq-eqb token token refl))
  where
    to : (h : Option Slot) → slot_has_token h token ≡ true → HasToken h token
    to None e = absurd (true≢false (sym e))
    to (Some s) e = record { buffer = s.buffer; held = ap (λ (k : ℕ). Some (slot k s.buffer)) (eqb-true s.token token e) }

has_buffer_lem : (h : Option Slot) (buffer : ℕ) → Exactly (slot_has_buffer h buffer) (HasBuffer h buffer)
unfolding slot_has_buffer
has_buffer_lem h buffer = (to h, λ x. rw x.held (eq-eqb buffer buffer refl))
  where
    to : (h : Option Slot) → slot_has_buffer h buffer ≡ true → HasBuffer h buffer
    to None e = absurd (true≢false (sym e))
    to (Some s) e = record { token = s.token; held = ap (λ (k : ℕ). Some (slot s.token k)) (eqb-true s.buffer buffer e) }

pub token_held_exactly : TokenHeldExactly
unfolding token_held
token_held_exactly w token =
    or (slot_has_token (pending_of w).first token) (slot_has_token (pending_of w).second token)
    (has_token_lem (pending_of w).first token) (has_token_lem (pending_of w).second token)

pub buffer_held_exactly : BufferHeldExactly
unfolding buffer_held
buffer_held_exactly s buffer =
    let ack = s.set.ack_buffer in
    let spare = s.set.spare_buffer in
    let first = (pending_of s.wait).first in
    let second = (pending_of s.wait).second in
    or (eqb ack buffer || eqb spare buffer) (slot_has_buffer first buffer || slot_has_buffer second buffer)
    (or (eqb ack buffer) (eqb spare buffer) (equal ack buffer) (equal spare buffer))
    (or (slot_has_buffer first buffer) (slot_has_buffer second buffer) (has_buffer_lem first buffer) (has_buffer_lem second buffer))
