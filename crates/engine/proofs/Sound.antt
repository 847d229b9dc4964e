-- The claims follow from the invariant.
-- Assumes nothing.
use Rattle.std.proofs.lemmas.Bool.{or_cases, or_right}
use Rattle.std.proofs.Common.{Option, Some, None, ℕ}
use Prim.Native.Nat.{ℕ, ◌≤◌}
use mathlib.Core.Path.{◌≡◌, refl, sym, ◌∙◌, ap}
use mathlib.Core.Bool.{Bool, true, false, cond, ◌||◌}
use mathlib.Core.List.{List, ◌++◌}
use mathlib.Core.Logic.{◌⊎◌, inl, inr, ◌↔◌}
use lib.Dec.{leb, ltb}
use lib.ListN.{length}
use native.Mathlib.Omega.{arith}
use borrow.Author.Tests.{eqb-false, leb-true, le-leb}
use Rattle.radio_frame.specs.declared.Settings.{Settings}
use Rattle.radio_frame.specs.Settings.{pool_unfit, rooms_unfit, own_buffers_unfit, settings_refusal}
use Rattle.tasks.specs.declared.Call.{Call}
use Rattle.tasks.specs.declared.Request.{Request}
use Rattle.tasks.specs.declared.State.{State}
use Rattle.tasks.specs.Answers.{answers_of}
use Rattle.requests.specs.Requests.{token_held, buffer_held, tx_length_unfit}
use Rattle.moves.specs.Move.{Move}
use Rattle.engine.specs.Step.{move_of, step_of}
use Rattle.engine.specs.Refusals.{not_allowed_in, later_refusal, refusal_of, InOrder}
use Rattle.engine.specs.Book.{Entry, Book, has_token, has_number}
use Rattle.engine.specs.Agreement.{standing}
use Rattle.engine.specs.Actions.{Spaced}
use Rattle.engine.specs.Lists.{EarlierFirst, RequestFits, Sound}
use Rattle.engine.proofs.Count.{has_count}
use Rattle.engine.proofs.Standing.{own, buffers}
use Rattle.engine.proofs.Radio.{receives}
use Rattle.engine.proofs.Kept.{Kept, token_has, held_has, fits_token, fits_tokens, count_own, in_time, limits, pays_in_order}
use Rattle.engine.proofs.Table.{Legal, refuse, stay, swap, enters, passed, step_legal}
use Rattle.engine.proofs.Refusals.{in_order}
use Rattle.tasks.specs.declared.Answer.{Answer}

-- ---- Refusals 6 and 7 are the book's
six_exactly : (t u v w : Bool) (n : ℕ) → n ≡ cond t 6 (cond u 7 (cond v 8 (cond w 9 0))) → n ≡ 6 ↔ t ≡ true
six_exactly true u v w n e = (λ h. refl, λ h. e)
six_exactly false true v w n e = (λ h. absurd (omega arith), λ h. let z : ◌≡◌ {A = ℕ} 0 1 = cc in absurd (omega arith))
six_exactly false false true w n e = (λ h. absurd (omega arith), λ h. let z : ◌≡◌ {A = ℕ} 0 1 = cc in absurd (omega arith))
six_exactly false false false true n e = (λ h. absurd (omega arith), λ h. let z : ◌≡◌ {A = ℕ} 0 1 = cc in absurd (omega arith))
six_exactly false false false false n e = (λ h. absurd (omega arith), λ h. let z : ◌≡◌ {A = ℕ} 0 1 = cc in absurd (omega arith))

seven_exactly : (u v w : Bool) (n : ℕ) → n ≡ cond u 7 (cond v 8 (cond w 9 0)) → n ≡ 7 ↔ u ≡ true
seven_exactly true v w n e = (λ h. refl, λ h. e)
seven_exactly false true w n e = (λ h. absurd (omega arith), λ h. let z : ◌≡◌ {A = ℕ} 0 1 = cc in absurd (omega arith))
seven_exactly false false true n e = (λ h. absurd (omega arith), λ h. let z : ◌≡◌ {A = ℕ} 0 1 = cc in absurd (omega arith))
seven_exactly false false false n e = (λ h. absurd (omega arith), λ h. let z : ◌≡◌ {A = ℕ} 0 1 = cc in absurd (omega arith))

-- of a Request that fits its wait: 6, then 7, by the book
module _ (s : State) (b : Book) (K : Kept s b) (pool : List ℕ) (q : Request) (F : RequestFits (record { state = s; book = b }) pool q) where
  count_is : s.set.count ≡ b.set.count
  count_is = ap (λ (t : Settings). t.count) K.settings

  token_is : token_held s.wait q.token ≡ has_token q.token b.requests
  token_is = token_has s.set s.wait q.token ∙ sym (fits_token (standing s) b.requests q.token K.holds.requests)

  buffer_is : buffer_held s q.buffer ≡ has_number q.buffer b.held
  buffer_is =
      held_has s q.buffer
      ∙ has_count q.buffer (own s.set ++ buffers (standing s))
      ∙ ap (ltb 0) (count_own s.set (buffers (standing s)) q.buffer ∙ sym (K.holds.same q.buffer))
      ∙ sym (has_count q.buffer b.held)

  fitting : refusal_of s pool (Call.Request q) ≡ later_refusal s (Call.Request q)
  unfolding refusal_of settings_refusal
  fitting =
      let p = passed (pool_unfit s.set (length pool)) 2 _ (omega arith) F.settings in
      let r = passed (rooms_unfit s.set) 3 _ (omega arith) p.1 in
      let o = passed (own_buffers_unfit s.set) 4 _ (omega arith) r.1 in simp (p.0, r.0, o.0, F.wait)

  refused_by_lem : (step_of s pool (Call.Request q)).refusal
      ≡ cond (has_token q.token b.requests) 6
      (cond (leb b.set.count q.buffer || has_number q.buffer b.held) 7
      (cond (tx_length_unfit s.set q.task) 8 (cond (not_allowed_in s.wait q) 9 0)))
  unfolding InOrder later_refusal
  refused_by_lem = rw (sym token_is, sym buffer_is, sym count_is) (in_order s pool (Call.Request q) ∙ fitting)

  -- the buffer is out of range, or the book holds it
  abbrev unfit : Bool
  unfit = leb b.set.count q.buffer || has_number q.buffer b.held

  six_is : (step_of s pool (Call.Request q)).refusal ≡ 6 ↔ has_token q.token b.requests ≡ true
  six_is = six_exactly (has_token q.token b.requests) unfit (tx_length_unfit s.set q.task) (not_allowed_in s.wait q) _ refused_by_lem

  seven_is : has_token q.token b.requests ≡ false
      → (step_of s pool (Call.Request q)).refusal ≡ 7 ↔ ((b.set.count ≤ q.buffer) ⊎ (has_number q.buffer b.held ≡ true))
  seven_is none =
      let e = seven_exactly unfit (tx_length_unfit s.set q.task) (not_allowed_in s.wait q) _ (rw none at refused_by_lem) in (
        λ h. two (or_cases (leb b.set.count q.buffer) (has_number q.buffer b.held) (e.0 h)),
        λ g. e.1 (back g),
      )
    where
      two : (leb b.set.count q.buffer ≡ true) ⊎ (has_number q.buffer b.held ≡ true)
          → (b.set.count ≤ q.buffer) ⊎ (has_number q.buffer b.held ≡ true)
      two (inl p) = inl (leb-true _ _ p)
      two (inr p) = inr p

      back : (b.set.count ≤ q.buffer) ⊎ (has_number q.buffer b.held ≡ true)
          → (leb b.set.count q.buffer || has_number q.buffer b.held) ≡ true
      back (inl p) = simp (le-leb _ _ p)
      back (inr p) = or_right (leb b.set.count q.buffer) (has_number q.buffer b.held) p

-- ---- The next reply
pub legal_spaced : (s : State) (b : Book) → Kept s b → (pool : List ℕ) (c : Call) (m : Move) → m.refusal ≡ 0 → Legal s pool c m
    → Spaced b.radio c m.reply.action
legal_spaced s b K pool c m z (refuse k e) = absurd (eqb-false k 0 e z)
legal_spaced s b K pool c m z (stay w' x rest R other P L same A) = A.spaced b.radio K.radio
legal_spaced s b K pool c m z (swap set' w' x rest R other P L same head A) = A.spaced b.radio K.radio
legal_spaced s b K pool c m z (enters l o rest R P L same A e) = A.spaced b.radio K.radio

pub next_spaced : (s : State) (b : Book) → Kept s b → (pool : List ℕ) (c : Call) → (step_of s pool c).refusal ≡ 0
    → Spaced b.radio c (step_of s pool c).reply.action
unfolding step_of
next_spaced s b K pool c ok = legal_spaced s b K pool c (move_of s pool c) ok (step_legal s pool c)

-- an answer that is owed at once is one
one_owed : (es : List Entry) (o : Option Answer) → EarlierFirst es (answers_of o)
unfolding answers_of
one_owed es None = tt
one_owed es (Some a) = tt

pub legal_in_order : (s : State) (b : Book) → Kept s b → (pool : List ℕ) (c : Call) (m : Move) → m.refusal ≡ 0 → Legal s pool c m
    → EarlierFirst b.requests m.reply.answers
legal_in_order s b K pool c m z (refuse k e) = absurd (eqb-false k 0 e z)
legal_in_order s b K pool c m z (stay w' x rest R other P L same A) =
    pays_in_order s.set.headroom pool c x (standing s) rest b.requests P K.holds.requests
legal_in_order s b K pool c m z (swap set' w' x rest R other P L same head A) =
    pays_in_order s.set.headroom pool c x (standing s) rest b.requests P K.holds.requests
legal_in_order s b K pool c m z (enters l o rest R P L same A e) = one_owed b.requests o

pub next_in_order : (s : State) (b : Book) → Kept s b → (pool : List ℕ) (c : Call) → (step_of s pool c).refusal ≡ 0
    → EarlierFirst b.requests (step_of s pool c).reply.answers
unfolding step_of
next_in_order s b K pool c ok = legal_in_order s b K pool c (move_of s pool c) ok (step_legal s pool c)

pub sound : (s : State) (b : Book) → Kept s b → Sound (record { state = s; book = b })
sound s b K =
    let H = K.holds in
    record {
      book =
          record {
            right = H.right;
            in_time = in_time (standing s) b.requests H.requests (limits s.set s.wait);
            to_its_request = H.stray;
            returns_held = H.unheld;
            held_number = H.size;
            different = H.once;
            one_each = λ t. rw (fits_tokens (standing s) b.requests H.requests) (H.one_each t);
          };
      six = six_is s b K;
      seven = seven_is s b K;
      agrees = H.requests;
      receives = receives s.set s.wait b.radio K.radio;
      spaced = next_spaced s b K;
      earlier_first = next_in_order s b K;
    }
