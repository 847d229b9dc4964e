-- A line fits exactly if all that the document says of it holds.
-- Assumes nothing.
use Prim.Native.Nat.{ℕ}
use mathlib.Core.Path.{◌≡◌, refl, sym}
use mathlib.Core.Bool.{Bool, true, false, true≢false, cond, ◌||◌}
use mathlib.Core.List.{List, [], ◌∷◌}
use lib.Dec.{leb, eqb}
use Rattle.std.proofs.lemmas.Bool.{and_parts, or_parts}
use borrow.Author.Tests.{leb-false, lt-leb, eqb-false, ne_eqb}
use Rattle.tasks.specs.declared.Request.{Request}
use Rattle.tasks.specs.declared.State.{State}
use Rattle.requests.specs.Requests.{token_held, buffer_held, tx_length_unfit, arrival_refusal}
use Rattle.waiting_line.specs.Line.{any_passes, has_token, has_buffer}
use Rattle.line_bytes.specs.Valid.{request_fits, line_fits, Every, FitsInWords, FitsExactly}

-- no refusal is met exactly if no test is true
abbrev refusal : Bool → Bool → Bool → Bool → Bool → Bool → ℕ
refusal token range held buffer unfit waits =
    cond token 6 (cond (range || (held || buffer)) 7 (cond unfit 8 (cond false 12 (cond waits 13 0))))

abbrev pub NoneTrue : Bool → Bool → Bool → Bool → Bool → Bool → Type 0
NoneTrue token range held buffer unfit waits =
    (token ≡ false) × (range ≡ false) × (held ≡ false) × (buffer ≡ false) × (unfit ≡ false) × (waits ≡ false)

no_refusal : (token range held buffer unfit waits : Bool) → eqb (refusal token range held buffer unfit waits) 0 ≡ true → NoneTrue token range held buffer unfit waits
no_refusal true range held buffer unfit waits h = absurd (true≢false (sym h))
no_refusal false true held buffer unfit waits h = absurd (true≢false (sym h))
no_refusal false false true buffer unfit waits h = absurd (true≢false (sym h))
no_refusal false false false true unfit waits h = absurd (true≢false (sym h))
no_refusal false false false false true waits h = absurd (true≢false (sym h))
no_refusal false false false false false true h = absurd (true≢false (sym h))
no_refusal false false false false false false h = (refl, refl, refl, refl, refl, refl)

none_true : (token range held buffer unfit waits : Bool) → NoneTrue token range held buffer unfit waits → eqb (refusal token range held buffer unfit waits) 0 ≡ true
none_true token range held buffer unfit waits n = rw (n.0, n.1, n.2, n.3, n.4, n.5)

-- no request has the number exactly if each has another
module _ (number : Request → ℕ) (n : ℕ) where
  abbrev has : Request → Bool
  has q = eqb (number q) n

  no_other : (qs : List Request) → any_passes has qs ≡ false → Every (λ other. number other ≡ n → ⊥) qs
  no_other [] h = tt
  no_other (q ∷ qs) h =
      let k = or_parts (has q) (any_passes has qs) h in (eqb-false (number q) n k.0, no_other qs k.1)

  others : (qs : List Request) → Every (λ other. number other ≡ n → ⊥) qs → any_passes has qs ≡ false
  others [] h = refl
  others (q ∷ qs) h = rw (ne_eqb (number q) n h.0, others qs h.1)

module _ (s : State) where
  abbrev pub passes : Request → List Request → Type 0
  passes q qs =
      NoneTrue (token_held s.wait q.token) (leb s.set.count q.buffer) (buffer_held s q.buffer) (any_passes (has_buffer q.buffer) qs)
      (tx_length_unfit s.set q.task) (any_passes (has_token q.token) qs)

  request_passes : (q : Request) (qs : List Request) → request_fits s q qs ≡ true → passes q qs
  unfolding request_fits arrival_refusal
  request_passes q qs h =
      no_refusal (token_held s.wait q.token) (leb s.set.count q.buffer) (buffer_held s q.buffer) (any_passes (has_buffer q.buffer) qs)
      (tx_length_unfit s.set q.task) (any_passes (has_token q.token) qs) h

  pub passes_fits : (q : Request) (qs : List Request) → passes q qs → request_fits s q qs ≡ true
  unfolding request_fits arrival_refusal
  passes_fits q qs h =
      none_true (token_held s.wait q.token) (leb s.set.count q.buffer) (buffer_held s q.buffer) (any_passes (has_buffer q.buffer) qs)
      (tx_length_unfit s.set q.task) (any_passes (has_token q.token) qs) h

  in_words : (qs : List Request) → line_fits s qs ≡ true → FitsInWords s qs
  unfolding line_fits
  in_words [] h =
      record { lengths = tt; buffers_in_range = tt; buffers_not_held = tt; tokens_not_held = tt; buffers_differ = tt; tokens_differ = tt }
  in_words (q ∷ qs) h =
      let p = request_passes q qs (and_parts (request_fits s q qs) (line_fits s qs) h).0 in
      let w = in_words qs (and_parts (request_fits s q qs) (line_fits s qs) h).1 in
      record {
        lengths = (p.4, w.lengths);
        buffers_in_range = (leb-false s.set.count q.buffer p.1, w.buffers_in_range);
        buffers_not_held = (p.2, w.buffers_not_held);
        tokens_not_held = (p.0, w.tokens_not_held);
        buffers_differ = (no_other (λ r. r.buffer) q.buffer qs p.3, w.buffers_differ);
        tokens_differ = (no_other (λ r. r.token) q.token qs p.5, w.tokens_differ);
      }

  words_fit : (qs : List Request) → FitsInWords s qs → line_fits s qs ≡ true
  unfolding line_fits
  words_fit [] w = refl
  words_fit (q ∷ qs) w =
      let p : passes q qs = (
        w.tokens_not_held.0,
        lt-leb s.set.count q.buffer w.buffers_in_range.0,
        w.buffers_not_held.0,
        others (λ r. r.buffer) q.buffer qs w.buffers_differ.0,
        w.lengths.0,
        others (λ r. r.token) q.token qs w.tokens_differ.0,
      ) in
      let rest : FitsInWords s qs =
      record {
        lengths = w.lengths.1;
        buffers_in_range = w.buffers_in_range.1;
        buffers_not_held = w.buffers_not_held.1;
        tokens_not_held = w.tokens_not_held.1;
        buffers_differ = w.buffers_differ.1;
        tokens_differ = w.tokens_differ.1;
      } in
      rw (passes_fits q qs p, words_fit qs rest)

pub fits_exactly : FitsExactly
fits_exactly s qs = (in_words s qs, words_fit s qs)
