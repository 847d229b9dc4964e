-- The law of specs/Calls.antt.
-- Assumes nothing.
use Prim.Native.Nat.{ℕ}
use mathlib.Core.Path.{◌≡◌, refl, sym, ap}
use mathlib.Core.Bool.{Bool, true, false, cond}
use mathlib.Core.List.{List}
use lib.Dec.{eqb}
use lib.ListN.{length}
use borrow.Author.Tests.{eq-eqb, eqb-false}
use Rattle.tasks.specs.declared.Request.{Request}
use Rattle.tasks.specs.declared.State.{State}
use Rattle.service.specs.Service.{Served, service_of}
use Rattle.service.specs.Refusals.{ServiceRefusedUnchanged}
use Rattle.service.proofs.Refusals.{service_refused_unchanged}
use Rattle.state_bytes.specs.Layout.{state_at, written_state}
use Rattle.state_bytes.specs.Valid.{valid_state, StateFits}
use Rattle.state_bytes.proofs.RoundTrip.{reads_back, held}
use Rattle.line_bytes.specs.Layout.{line_at, written_line}
use Rattle.line_bytes.specs.Valid.{line_fits, LineSized}
use Rattle.line_bytes.proofs.ReadBack.{line_reads_back, line_passes}
use Rattle.call_codes.specs.declared.ExportedCall.{ExportedCall}
use Rattle.call_codes.specs.Codes.{known_of, call_of}
use Rattle.slices.specs.Slices.{slices_fit, form_ok}
use Rattle.outcomes.specs.Outcomes.{made_of}
use Rattle.byte_calls.specs.Calls.{call_result, call_state, call_line, call_reply, call_pool, ServicesCall, Between}
use Rattle.slices.proofs.Lengths.{state_length, line_length}

-- ---- The bytes of a valid state and of a line that fits it

module _ (s : State) (qs : List Request) (F : StateFits s) (v : valid_state s ≡ true) (Q : LineSized qs) (f : line_fits s qs ≡ true) where
  pub right_form : (n : ℕ) → n ≡ 48 → form_ok (written_state s) (written_line qs) n ≡ true
  unfolding form_ok slices_fit
  right_form n l =
      simp (state_length s, line_length qs, eq-eqb _ _ l, held s F v, reads_back s F, line_passes s qs Q f)

  -- ---- The service's call between reading and writing
  module _ (re po : List ℕ) (x : ExportedCall) (l : length re ≡ 48) (k : known_of x ≡ true) where
    abbrev r : Served
    r = service_of s qs po (call_of x)

    form : form_ok (written_state s) (written_line qs) (length re) ≡ true
    form = right_form (length re) l

    made : made_of (state_at (written_state s)) (line_at (written_line qs)) po x ≡ r
    unfolding made_of
    made = simp (reads_back s F, line_reads_back qs Q, k)

    result : call_result (written_state s) (written_line qs) re po x ≡ r.refusal
    unfolding call_result
    result = simp (form, made)

    -- a refused call's state, line and pool are the old ones
    settled : {A : Type 0} (new old : A) → ((r.refusal ≡ 0 → ⊥) → new ≡ old) → cond (eqb r.refusal 0) new old ≡ new
    settled new old h = go (eqb r.refusal 0) refl
      where
        go : (t : Bool) → eqb r.refusal 0 ≡ t → cond (eqb r.refusal 0) new old ≡ new
        go true e = rw e
        go false e = rw e (sym (h (eqb-false _ 0 e)))

    services_call : ServicesCall s qs re po x
    unfolding call_state call_line call_reply call_pool ServiceRefusedUnchanged
    services_call =
        record {
          result = result;
          state =
              simp (result, made)
              (settled (written_state r.state) (written_state s) (λ h. ap written_state (service_refused_unchanged s qs po (call_of x) h).state));
          line =
              simp (result, made)
              (settled (written_line r.line) (written_line qs) (λ h. ap written_line (service_refused_unchanged s qs po (call_of x) h).line));
          reply = simp (result, made);
          pool = simp (result, made) (settled r.pool po (λ h. (service_refused_unchanged s qs po (call_of x) h).pool_bytes));
        }

pub between : Between
between s qs re po x F v Q f l k = services_call s qs F v Q f re po x l k
