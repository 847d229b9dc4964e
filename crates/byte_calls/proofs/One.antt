-- Refusal 1, in the documents' own words.
-- Assumes nothing.
use Rattle.std.proofs.lemmas.Bool.{false_from_ne_true}
use Prim.Native.Nat.{ℕ, ◌+◌, ◌^◌}
use mathlib.Core.Path.{◌≡◌, sym, ◌∙◌}
use mathlib.Core.Bool.{Bool, true, false, cond, not, ◌&&◌, ◌||◌}
use mathlib.Core.List.{List}
use lib.Dec.{ltb, leb}
use lib.ListN.{length}
use native.Mathlib.Omega.{arith}
use borrow.Author.Tests.{eq-eqb}
use Rattle.util.specs.Bytes.{AllBytes}
use Rattle.radio_frame.specs.Settings.{pool_unfit, rooms_unfit, own_buffers_unfit}
use Rattle.tasks.specs.declared.Call.{Call}
use Rattle.tasks.specs.declared.Request.{Request}
use Rattle.tasks.specs.declared.State.{State}
use Rattle.requests.specs.Requests.{token_held, buffer_held, tx_length_unfit}
use Rattle.engine.specs.Refusals.{not_allowed_in, result_unfit, stop_unfit, begins_ack_wait, later_refusal}
use Rattle.waiting_line.specs.Line.{has_token, has_buffer, any_passes}
use Rattle.service.specs.declared.ServiceCall.{ServiceCall}
use Rattle.service.specs.Service.{is_named, allowed_waits}
use Rattle.service.specs.Refusals.{service_fits, service_later}
use Rattle.state_bytes.specs.Layout.{state_at}
use Rattle.line_bytes.specs.Layout.{line_at}
use Rattle.call_codes.specs.declared.ExportedCall.{ExportedCall}
use Rattle.call_codes.specs.declared.StartNumbers.{StartNumbers}
use Rattle.call_codes.specs.Codes.{known_flag, known_of, call_of, settings_of}
use Rattle.slices.specs.Slices.{slices_fit, form_ok, RightForm}
use Rattle.slices.proofs.Laws.{form_exactly}
use Rattle.slices.proofs.Slices.{lengths}
use Rattle.byte_calls.specs.Calls.{exported_refusal, start_refusal}

-- a number other than 1 in front of what is not 1
not_one : (t : Bool) (k : ℕ) {rest : ℕ} → (k ≡ 1 → ⊥) → (rest ≡ 1 → ⊥) → cond t k rest ≡ 1 → ⊥
not_one true k h g e = h e
not_one false k h g e = g e

none : ◌≡◌ {A = ℕ} 0 1 → ⊥
none h = absurd (omega arith)

ten : ◌≡◌ {A = ℕ} 10 1 → ⊥
ten h = absurd (omega arith)

-- the refusals from 6 on
later_not_one : (s : State) (c : Call) → later_refusal s c ≡ 1 → ⊥
unfolding later_refusal
later_not_one s (Call.Request q) =
    not_one (token_held s.wait q.token) 6 (λ h. absurd (omega arith))
    (not_one (leb s.set.count q.buffer || buffer_held s q.buffer) 7 (λ h. absurd (omega arith))
    (not_one (tx_length_unfit s.set q.task) 8 (λ h. absurd (omega arith))
    (not_one (not_allowed_in s.wait q) 9 (λ h. absurd (omega arith)) none)))
later_not_one s Call.None = none
later_not_one s Call.FrameStart = none
later_not_one s (Call.OutboundSeen start cca) = none
later_not_one s (Call.Stopped r) = not_one (stop_unfit s.set r) 10 ten none
later_not_one s (Call.Header arrived len) = not_one (ltb 127 (arrived + s.set.fcs_length)) 10 ten none
later_not_one s (Call.Entered r entry) =
    not_one (result_unfit s.set r) 10 ten
    (not_one (begins_ack_wait s.wait && not (ltb (entry + 10000) (2 ^ 64))) 11 (λ h. absurd (omega arith)) none)
later_not_one s (Call.Fallback r cause) = not_one (result_unfit s.set r) 10 ten none
later_not_one s Call.Rollback = none

-- a chain of refusals whose first is 1: it is 1 exactly if the first test fails
module _ (form : Bool) (rest : ℕ) (other : rest ≡ 1 → ⊥) where
  pub one_exactly : (cond (not form) 1 rest ≡ 1 → form ≡ true → ⊥) × (form ≡ false → cond (not form) 1 rest ≡ 1)
  one_exactly = (λ h e. other (rw e at h), λ e. rw e)

service_later_not_one : (s : State) (qs : List Request) (po : List ℕ) (c : ServiceCall) → service_later s qs po c ≡ 1 → ⊥
unfolding service_later
service_later_not_one s qs po (ServiceCall.Arrive q) =
    not_one (token_held s.wait q.token) 6 (λ h. absurd (omega arith))
    (not_one (leb s.set.count q.buffer || (buffer_held s q.buffer || any_passes (has_buffer q.buffer) qs)) 7 (λ h. absurd (omega arith))
    (not_one (tx_length_unfit s.set q.task) 8 (λ h. absurd (omega arith))
    (not_one (leb 4 (length qs)) 12 (λ h. absurd (omega arith)) (not_one (any_passes (has_token q.token) qs) 13 (λ h. absurd (omega arith)) none))))
service_later_not_one s qs po (ServiceCall.Withdraw token) =
    not_one (not (any_passes (has_token token) qs) || is_named s qs token) 13 (λ h. absurd (omega arith)) none
service_later_not_one s qs po ServiceCall.Request = not_one (allowed_waits qs s.wait) 0 none (λ h. absurd (omega arith))
service_later_not_one s qs po ServiceCall.None = none
service_later_not_one s qs po ServiceCall.FrameStart = none
service_later_not_one s qs po (ServiceCall.OutboundSeen start cca) = none
service_later_not_one s qs po (ServiceCall.Stopped r) = later_not_one s (Call.Stopped r)
service_later_not_one s qs po (ServiceCall.Header arrived len) = later_not_one s (Call.Header arrived len)
service_later_not_one s qs po (ServiceCall.Entered r entry) = later_not_one s (Call.Entered r entry)
service_later_not_one s qs po (ServiceCall.Fallback r cause) = later_not_one s (Call.Fallback r cause)
service_later_not_one s qs po ServiceCall.Rollback = none

module _ (st li re po : List ℕ) (x : ExportedCall) {r : ℕ} (e : r ≡ exported_refusal st li re po x) where
  abbrev rest : ℕ
  rest =
      cond (pool_unfit (state_at st).set (length po)) 2
      (cond (rooms_unfit (state_at st).set) 3
      (cond (own_buffers_unfit (state_at st).set) 4
      (cond (not (known_of x) || not (service_fits (state_at st) (line_at li) po (call_of x))) 5 (service_later (state_at st) (line_at li) po (call_of x)))))

  later : rest ≡ 1 → ⊥
  later =
      not_one (pool_unfit (state_at st).set (length po)) 2 (λ h. absurd (omega arith))
      (not_one (rooms_unfit (state_at st).set) 3 (λ h. absurd (omega arith))
      (not_one (own_buffers_unfit (state_at st).set) 4 (λ h. absurd (omega arith))
      (not_one (not (known_of x) || not (service_fits (state_at st) (line_at li) po (call_of x))) 5 (λ h. absurd (omega arith)) (service_later_not_one (state_at st) (line_at li) po (call_of x)))))

  pub call_one : AllBytes st → AllBytes li → (r ≡ 1 → RightForm st li (length re) → ⊥) × ((RightForm st li (length re) → ⊥) → r ≡ 1)
  unfolding exported_refusal
  call_one A B =
      let F = form_exactly st li (length re) A B in
      let O = one_exactly (form_ok st li (length re)) rest later in
      (λ h R. O.0 (sym e ∙ h) (F.1 R), λ h. e ∙ O.1 (false_from_ne_true (form_ok st li (length re)) (λ t. h (F.0 t))))

module _ (n : StartNumbers) (st li re po : List ℕ) {r : ℕ} (e : r ≡ start_refusal n st li re po) where
  abbrev start_rest : ℕ
  start_rest =
      cond (pool_unfit (settings_of n) (length po)) 2
      (cond (rooms_unfit (settings_of n) || not (known_flag n.implicit_broadcast)) 3 (cond (own_buffers_unfit (settings_of n)) 4 0))

  start_later : start_rest ≡ 1 → ⊥
  start_later =
      not_one (pool_unfit (settings_of n) (length po)) 2 (λ h. absurd (omega arith))
      (not_one (rooms_unfit (settings_of n) || not (known_flag n.implicit_broadcast)) 3 (λ h. absurd (omega arith))
      (not_one (own_buffers_unfit (settings_of n)) 4 (λ h. absurd (omega arith)) none))

  abbrev Right : Type 0
  Right = (length st ≡ 64) × ((length li ≡ 96) × (length re ≡ 48))

  fit : Right → slices_fit (length st) (length li) (length re) ≡ true
  unfolding slices_fit
  fit L = simp (eq-eqb _ _ L.0, eq-eqb _ _ L.1.0, eq-eqb _ _ L.1.1)

  pub start_one : (r ≡ 1 → Right → ⊥) × ((Right → ⊥) → r ≡ 1)
  unfolding start_refusal
  start_one =
      let O = one_exactly (slices_fit (length st) (length li) (length re)) start_rest start_later in
      (λ h L. O.0 (sym e ∙ h) (fit L), λ h. e ∙ O.1 (false_from_ne_true (slices_fit (length st) (length li) (length re)) (λ t. h (lengths _ _ _ t))))
