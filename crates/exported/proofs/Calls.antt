-- From what reading, the service's call and writing ensure to what the call ensures; over plain values.
-- Assumes nothing.
use Prim.Native.Nat.{ℕ}
use mathlib.Core.Path.{◌≡◌, refl, sym, ◌∙◌, ap}
use mathlib.Core.Bool.{Bool, true, false, ◌&&◌}
use mathlib.Core.List.{List, []}
use lib.Dec.{eqb}
use lib.ListN.{length, get_or}
use native.Mathlib.Omega.{arith}
use borrow.Author.Tests.{eq-eqb, eqb-false, ne_eqb}
use Rattle.std.proofs.lemmas.Bool.{and_parts}
use Rattle.util.specs.Bytes.{stored_over}
use Rattle.tasks.specs.declared.Request.{Request}
use Rattle.tasks.specs.declared.State.{State}
use Rattle.driver_service.specs.Promises.{served}
use Rattle.engine.specs.Step.{Outcome}
use Rattle.service.specs.Service.{Served, changes_line}
use Rattle.state_bytes.specs.Layout.{state_at, written_state}
use Rattle.state_bytes.specs.Valid.{valid_state, holds_state, same_list}
use Rattle.state_bytes.proofs.Same.{same_true}
use Rattle.line_bytes.specs.Layout.{line_at, written_line}
use Rattle.line_bytes.specs.Valid.{line_fits, holds_line}
use Rattle.reply_bytes.specs.Reply.{written_reply}
use Rattle.call_codes.specs.declared.ExportedCall.{ExportedCall}
use Rattle.call_codes.specs.declared.StartNumbers.{StartNumbers}
use Rattle.call_codes.specs.Codes.{call_of}
use Rattle.slices.specs.Slices.{slices_fit, form_ok, if_accepted}
use Rattle.slices.specs.Inner.{Finished}
use Rattle.slices.proofs.Slices.{settled, line_stored, form_lengths}
use Rattle.outcomes.specs.Outcomes.{unknown_of, made_of, begun_of}
use Rattle.outcomes.proofs.Outcomes.{made_unchanged, made_refusal, line_stays_as, begun_unchanged, begun_line}
use Rattle.byte_calls.specs.Calls.{exported_refusal, made_on, call_result, call_state, call_line, call_reply, call_pool, Called, start_result, start_state, start_line, start_reply, start_pool_after}
use Rattle.byte_calls.specs.Lists.{AlwaysByteSound}
use Rattle.byte_calls.specs.Start.{StartCalled}
use Rattle.byte_calls.proofs.Order.{start_order}
use Rattle.byte_calls.proofs.One.{call_one, start_one}
use Rattle.byte_calls.proofs.Qualities.{made_carries}
use Rattle.byte_calls.proofs.Acts.{line_silent, call_acts, silent_bytes, action_there}

kept : (r : ℕ) (new old : List ℕ) → (r ≡ 0 → ⊥) → if_accepted r new old ≡ old
kept r new old h = simp (ne_eqb r 0 h)

-- where a refused outcome's pool is the old one, the pool is what an accepted one leaves
pool_settled : (po : List ℕ) (r : ℕ) (new : List ℕ) → ((r ≡ 0 → ⊥) → new ≡ po) → new ≡ if_accepted r new po
pool_settled po r new h = go (eqb r 0) refl
  where
    go : (t : Bool) → eqb r 0 ≡ t → new ≡ if_accepted r new po
    go true e = rw e
    go false e = rw e (h (eqb-false r 0 e))

module _ (st li re po : List ℕ) (x : ExportedCall) where
  -- an accepted call's reply is the service's
  written : call_result st li re po x ≡ 0 → call_reply st li re po x ≡ written_reply (made_of (state_at st) (line_at li) po x).reply
  unfolding call_reply
  written z = simp (eq-eqb _ 0 z)

  next_state : call_result st li re po x ≡ 0 → call_state st li re po x ≡ written_state (made_on st li re po x).state
  unfolding call_state
  next_state z = simp (eq-eqb _ 0 z)

  -- the state that is read is written as the bytes that it was read from
  state_same : form_ok st li (length re) ≡ true → written_state (state_at st) ≡ st
  unfolding form_ok holds_state
  state_same ok =
      let f = and_parts (slices_fit (length st) (length li) (length re)) (holds_state st && holds_line (state_at st) li) ok in
      let g = and_parts (holds_state st) (holds_line (state_at st) li) f.1 in
      same_true (written_state (state_at st)) st (and_parts (valid_state (state_at st)) (same_list (written_state (state_at st)) st) g.0).1

  called : (o : Outcome) (qs : List Request) → form_ok st li (length re) ≡ true → (r : ℕ) (st' li' re' po' : List ℕ)
      → served o qs po' ≡ made_on st li re po x → Finished o st re r st' re' → li' ≡ call_line st li re po x → Called st li re po x r st' li' re' po'
  unfolding call_result call_state call_line call_reply call_pool exported_refusal unknown_of
  called o qs ok r st' li' re' po' e F L =
      let m = made_on st li re po x in
      let S = settled st li re (form_lengths st li (length re) ok) o r st' re' F in
      let refusal : o.refusal ≡ m.refusal = ap (λ (y : Served). y.refusal) e in
      let state : o.state ≡ m.state = ap (λ (y : Served). y.state) e in
      let reply : o.reply ≡ m.reply = ap (λ (y : Served). y.reply) e in
      let pool : po' ≡ m.pool = ap (λ (y : Served). y.pool) e in
      let R : r ≡ call_result st li re po x = S.result ∙ simp (ok, refusal) in
      let T : st' ≡ call_state st li re po x = S.state ∙ simp (ok, refusal, state) in
      let Y : re' ≡ call_reply st li re po x = S.reply ∙ simp (ok, refusal, reply) in
      let Q : po' ≡ call_pool st li re po x = pool ∙ pool_settled po m.refusal m.pool (λ h. (made_unchanged (state_at st) (line_at li) po x h).pool) ∙ simp ok in
      let W : r ≡ exported_refusal st li re po x = R ∙ simp (ok, made_refusal (state_at st) (line_at li) po x) in
      let k = call_result st li re po x in
      record {
        result = R;
        state = T;
        line = L;
        reply = Y;
        pool = Q;
        refuses = W;
        refuses_one = call_one st li re po x W;
        unchanged = λ h. ((T ∙ kept k _ st (rw R at h), L ∙ kept k _ li (rw R at h)), (Y ∙ kept k _ re (rw R at h), Q ∙ kept k _ po (rw R at h)));
        on_line =
            λ z h.
            let q = line_silent (state_at st) (line_at li) po x h in
            (T ∙ next_state (sym R ∙ z) ∙ ap written_state q.1.0 ∙ state_same ok, (Y ∙ written (sym R ∙ z) ∙ silent_bytes m.reply q.0, pool ∙ q.1.1));
        acts =
            λ z h n.
            let accepted : m.refusal ≡ 0 = sym refusal ∙ sym S.result ∙ z in
            action_there m.reply (call_acts (state_at st) (line_at li) po x h accepted) (ap (λ (l : List ℕ). get_or l 0 0) (sym (Y ∙ written (sym R ∙ z))) ∙ n);
        qualities = λ z. rw (Y ∙ written (sym R ∙ z)) (made_carries x (state_at st) (line_at li) po);
      }

  -- the line slice: kept where the call is refused, or changes no line; else written
  module _ (ok : form_ok st li (length re) ≡ true) where
    by_made : call_result st li re po x ≡ (made_on st li re po x).refusal
    unfolding call_result
    by_made = simp ok

    line_refused : ((made_on st li re po x).refusal ≡ 0 → ⊥) → li ≡ call_line st li re po x
    unfolding call_line
    line_refused h = sym (kept (call_result st li re po x) _ li (rw by_made h))

    line_written : (made_on st li re po x).refusal ≡ 0 → written_line (made_on st li re po x).line ≡ call_line st li re po x
    unfolding call_line
    line_written z = simp (by_made, z)

    line_same : (made_on st li re po x).refusal ≡ 0 → changes_line (call_of x) ≡ false → li ≡ call_line st li re po x
    unfolding form_ok holds_line
    line_same z h =
        let f = and_parts (slices_fit (length st) (length li) (length re)) (holds_state st && holds_line (state_at st) li) ok in
        let g = and_parts (holds_state st) (holds_line (state_at st) li) f.1 in
        let w = and_parts (line_fits (state_at st) (line_at li)) (same_list (written_line (line_at li)) li) g.1 in
        sym (same_true (written_line (line_at li)) li w.1) ∙ ap written_line (sym (line_stays_as (state_at st) (line_at li) po x h)) ∙ line_written z

  -- what reading gives
  module _ {s : State} {ws : List Request} (K : (form_ok st li (length re) ≡ true) × (s ≡ state_at st)) (w : ws ≡ line_at li) (o : Outcome) (qs : List Request) where
    abbrev Made : List ℕ → Type 0
    Made po' = served o qs po' ≡ made_of s ws po x

    made_so : (po' : List ℕ) → Made po' → served o qs po' ≡ made_on st li re po x
    made_so po' e = rw (K.1, w) at e

    refusal_is : (po' : List ℕ) → Made po' → o.refusal ≡ (made_on st li re po x).refusal
    refusal_is po' e = ap (λ (y : Served). y.refusal) (made_so po' e)

    pub done_refused : (r : ℕ) (st' re' po' : List ℕ) → Made po' → Finished o st re r st' re' → (r ≡ 0 → ⊥) → Called st li re po x r st' li re' po'
    done_refused r st' re' po' e F n =
        called o qs K.0 r st' li re' po' (made_so po' e) F (line_refused K.0 (λ z. n (F.result ∙ refusal_is po' e ∙ z)))

    pub done_changed : (st' li' re' po' : List ℕ) → Made po' → Finished o st re 0 st' re' → li' ≡ stored_over (written_line qs) li → Called st li re po x 0 st' li' re' po'
    done_changed st' li' re' po' e F L =
        called o qs K.0 0 st' li' re' po' (made_so po' e) F
        (L
        ∙ line_stored st li re (form_lengths st li (length re) K.0) qs
        ∙ ap (λ (y : Served). written_line y.line) (made_so po' e)
        ∙ line_written K.0 (sym (refusal_is po' e) ∙ sym F.result))

    pub done_same : (st' re' po' : List ℕ) → Made po' → Finished o st re 0 st' re' → changes_line (call_of x) ≡ false → Called st li re po x 0 st' li re' po'
    done_same st' re' po' e F h =
        called o qs K.0 0 st' li re' po' (made_so po' e) F (line_same K.0 (sym (refusal_is po' e) ∙ sym F.result) h)

  pub not_done : form_ok st li (length re) ≡ false → Called st li re po x 1 st li re po
  unfolding call_result call_state call_line call_reply call_pool exported_refusal
  not_done bad =
      record {
        result = simp bad;
        state = simp bad;
        line = simp bad;
        reply = simp bad;
        pool = simp bad;
        refuses = simp bad;
        refuses_one = call_one st li re po x (simp bad);
        unchanged = λ h. ((refl, refl), (refl, refl));
        on_line = λ z. absurd (omega arith);
        acts = λ z. absurd (omega arith);
        qualities = λ z. absurd (omega arith);
      }

-- ---- A start
sound_of : (n : StartNumbers) {r r' : ℕ} {st st' li li' : List ℕ} → r ≡ r' → st ≡ st' → li ≡ li' → AlwaysByteSound n r' st' li' → AlwaysByteSound n r st li
sound_of n e f g A = rw (e, f, g) A

module _ (n : StartNumbers) (st li re po : List ℕ) where
  start_line_kept : (start_result n st li re po ≡ 0 → ⊥) → start_line n st li re po ≡ li
  unfolding start_line
  start_line_kept h = kept (start_result n st li re po) _ li h

  start_line_written : start_result n st li re po ≡ 0 → written_line [] ≡ start_line n st li re po
  unfolding start_line
  start_line_written z = simp z

module _ (n : StartNumbers) (st li re po : List ℕ) (A : AlwaysByteSound n (start_result n st li re po) (start_state n st li re po) (start_line n st li re po)) where
  module _ (ok : slices_fit (length st) (length li) (length re) ≡ true) (o : Outcome) (qs : List Request) where
    begun_so : (r : ℕ) (st' li' re' po' : List ℕ) → served o qs po' ≡ begun_of n [] po → Finished o st re r st' re' → li' ≡ start_line n st li re po
        → StartCalled n st li re po r st' li' re' po'
    unfolding start_result start_state start_reply start_pool_after
    begun_so r st' li' re' po' e F L =
        let m = begun_of n [] po in
        let S = settled st li re ok o r st' re' F in
        let refusal : o.refusal ≡ m.refusal = ap (λ (y : Served). y.refusal) e in
        let state : o.state ≡ m.state = ap (λ (y : Served). y.state) e in
        let reply : o.reply ≡ m.reply = ap (λ (y : Served). y.reply) e in
        let pool : po' ≡ m.pool = ap (λ (y : Served). y.pool) e in
        let z = start_result n st li re po in
        let R : r ≡ z = S.result ∙ simp (ok, refusal) in
        let T : st' ≡ start_state n st li re po = S.state ∙ simp (ok, refusal, state) in
        let Y : re' ≡ start_reply n st li re po = S.reply ∙ simp (ok, refusal, reply) in
        let Q : po' ≡ start_pool_after n st li re po = pool ∙ pool_settled po m.refusal m.pool (begun_unchanged n po) ∙ simp ok in
        record {
          result = R;
          state = T;
          line = L;
          reply = Y;
          pool = Q;
          unchanged = λ h. ((T ∙ kept z _ st (rw R at h), L ∙ start_line_kept n st li re po (rw R at h)), (Y ∙ kept z _ re (rw R at h), Q ∙ kept z _ po (rw R at h)));
          refuses = R ∙ start_order n st li re po;
          refuses_one = start_one n st li re po (R ∙ start_order n st li re po);
          always_sound = sound_of n R T L A;
        }

    started : (r : ℕ) (st' re' po' : List ℕ) → served o qs po' ≡ begun_of n [] po → Finished o st re r st' re' → r ≡ start_result n st li re po
    unfolding start_result
    started r st' re' po' e F = F.result ∙ ap (λ (y : Served). y.refusal) e ∙ simp ok

    pub start_not_done : (r : ℕ) (st' re' po' : List ℕ) → served o qs po' ≡ begun_of n [] po → Finished o st re r st' re' → (r ≡ 0 → ⊥)
        → StartCalled n st li re po r st' li re' po'
    start_not_done r st' re' po' e F h = begun_so r st' li re' po' e F (sym (start_line_kept n st li re po (rw (started r st' re' po' e F) at h)))

    pub start_done : (st' li' re' po' : List ℕ) → served o qs po' ≡ begun_of n [] po → Finished o st re 0 st' re' → li' ≡ stored_over (written_line qs) li
        → StartCalled n st li re po 0 st' li' re' po'
    start_done st' li' re' po' e F L =
        begun_so 0 st' li' re' po' e F
        (L
        ∙ line_stored st li re ok qs
        ∙ ap (λ (y : Served). written_line y.line) e
        ∙ ap written_line (begun_line n po)
        ∙ start_line_written n st li re po (sym (started 0 st' re' po' e F)))

  pub start_refused : slices_fit (length st) (length li) (length re) ≡ false → StartCalled n st li re po 1 st li re po
  unfolding start_result start_state start_line start_reply start_pool_after
  start_refused bad =
      let R : 1 ≡ start_result n st li re po = simp bad in
      let T : st ≡ start_state n st li re po = simp bad in
      let L : li ≡ start_line n st li re po = simp bad in
      record {
        result = R;
        state = T;
        line = L;
        reply = simp bad;
        pool = simp bad;
        unchanged = λ h. ((refl, refl), (refl, refl));
        refuses = R ∙ start_order n st li re po;
        refuses_one = start_one n st li re po (R ∙ start_order n st li re po);
        always_sound = sound_of n R T L A;
      }
