-- What the book's invariant says of a state and a line: buffers and open tokens are different; so the state is valid, and the line fits it.
-- Assumes nothing.
use Rattle.std.proofs.Common.{Option, Some, None, ℕ}
use Prim.Native.Nat.{ℕ, ◌+◌, ◌*◌, ◌<◌, ◌≤◌}
use mathlib.Core.Path.{◌≡◌, refl, ◌∙◌, ap}
use mathlib.Core.Bool.{true, not, ◌&&◌}
use mathlib.Core.List.{List, [], ◌∷◌, ◌++◌}
use mathlib.Core.Logic.{◌⊎◌, inl, inr}
use lib.Dec.{eqb}
use lib.ListN.{length}
use native.Mathlib.Omega.{arith}
use borrow.Author.Tests.{eq-eqb, ne_eqb, lt-ltb, lt-leb}
use Rattle.radio_frame.specs.declared.Settings.{Settings}
use Rattle.radio_frame.specs.Settings.{buffer_length, settings_refusal}
use Rattle.radio_frame.proofs.Laws.{zero_if_fit}
use Rattle.tasks.specs.declared.Asked.{Asked}
use Rattle.tasks.specs.declared.Left.{Left}
use Rattle.tasks.specs.declared.Next.{Next}
use Rattle.tasks.specs.declared.Request.{Request}
use Rattle.tasks.specs.declared.State.{State}
use Rattle.tasks.specs.declared.Stop.{Stop}
use Rattle.tasks.specs.declared.Task.{Task}
use Rattle.tasks.specs.declared.Transition.{Transition}
use Rattle.tasks.specs.declared.Wait.{Wait}
use Rattle.tasks.specs.declared.Slot.{Slot}
use Rattle.tasks.specs.Pending.{left_slot, next_slot, asked_slot, stop_slot, transition_slots, pending_of}
use Rattle.requests.specs.Requests.{tx_length_unfit}
use Rattle.entered.specs.Entered.{with_spare}
use Rattle.engine.specs.Book.{Book}
use Rattle.engine.specs.Agreement.{left_standing, next_standing, wait_standing}
use Rattle.engine.specs.BookClaims.{one, count, tokens}
use Rattle.engine.proofs.Count.{one_self}
use Rattle.engine.proofs.Standing.{numbers, token, buffer, own}
use Rattle.engine.proofs.Kept.{Kept}
use Rattle.service.specs.LineBook.{Arrival, LineBook}
use Rattle.service.specs.LineClaims.{waiting_tokens, waiting_buffers}
use Rattle.service.specs.Lists.{requests_in}
use Rattle.service.proofs.Arrivals.{length_is, token_waits, buffer_waits}
use Rattle.service.proofs.Kept.{AllFit, LineKept, has_tokens, token_by_book, buffer_by_book, none_has}
use Rattle.line_bytes.specs.Valid.{line_fits}
use Rattle.line_bytes.proofs.InWords.{passes_fits}
use Rattle.wait_parts.specs.Parts.{asked_part, left_part, tx_part, next_part, stop_part, transition_parts, wait_parts_of}
use Rattle.state_bytes.specs.Valid.{slot_fits, differs_from, slots_differ, valid_state, StateFits}
use Rattle.byte_calls.proofs.Ranges.{PartIn, WaitIn, SettingsIn, StateIn}

-- ---- The slots of a wait are what it owes
abbrev slot_numbers : (ℕ → ℕ → ℕ) → Option Slot → List ℕ
slot_numbers pick None = []
slot_numbers pick (Some s) = pick s.token s.buffer ∷ []

module _ (set : Settings) (pick : ℕ → ℕ → ℕ) where
  next_slots : (n : Next) → slot_numbers pick (next_slot n) ≡ numbers pick (next_standing n)
  unfolding next_slot
  next_slots (Next.Tx q k) = refl
  next_slots (Next.Rx q) = refl
  next_slots Next.Off = refl

  request_slots : (l : Left) (n : Next) → slot_numbers pick (left_slot l) ++ slot_numbers pick (next_slot n) ≡ numbers pick (left_standing set l ++ next_standing n)
  unfolding left_slot
  request_slots Left.Off n = next_slots n
  request_slots (Left.Receiving q) n = ap (λ (l : List ℕ). pick q.token q.buffer ∷ l) (next_slots n)
  request_slots (Left.Sending q) n = ap (λ (l : List ℕ). pick q.token q.buffer ∷ l) (next_slots n)
  request_slots Left.SendingAck n = next_slots n
  request_slots (Left.ReceivingAck a) n = ap (λ (l : List ℕ). pick a.task.token a.task.buffer ∷ l) (next_slots n)

  pub slots : (w : Wait) → slot_numbers pick (pending_of w).first ++ slot_numbers pick (pending_of w).second ≡ numbers pick (wait_standing set w)
  unfolding pending_of asked_slot transition_slots stop_slot
  slots (Wait.Asking Asked.Idle) = refl
  slots (Wait.Asking (Asked.AfterWindow q)) = refl
  slots (Wait.Asking (Asked.AfterAckWindow q t)) = refl
  slots (Wait.Asking (Asked.Receiving q i)) = refl
  slots (Wait.Asking (Asked.Sending q)) = refl
  slots (Wait.Asking (Asked.SendingAck i)) = refl
  slots (Wait.Asking (Asked.ReceivingAck a)) = refl
  slots (Wait.Entering (Transition.Request l n)) = request_slots l n
  slots (Wait.Entering (Transition.Rearm q)) = refl
  slots (Wait.Entering (Transition.AckTurn q i)) = refl
  slots (Wait.Entering (Transition.AckWait q k)) = refl
  slots (Wait.Listening q) = refl
  slots (Wait.Stopping (Stop.Frame q)) = refl
  slots (Wait.Stopping (Stop.Outbound q)) = refl
  slots (Wait.Stopping (Stop.Ack a)) = refl
  slots (Wait.Stopping (Stop.AckAgain a)) = refl
  slots (Wait.Reading q) = refl

-- ---- and their buffers are in range
abbrev SlotIn : ℕ → Option Slot → Type 0
SlotIn n None = Unit {0}
SlotIn n (Some s) = s.buffer < n

module _ (n : ℕ) where
  left_slot_in : (l : Left) → PartIn n (left_part l) → SlotIn n (left_slot l)
  unfolding left_part left_slot
  left_slot_in Left.Off K = tt
  left_slot_in (Left.Receiving q) K = K.1
  left_slot_in (Left.Sending q) K = K.1
  left_slot_in Left.SendingAck K = tt
  left_slot_in (Left.ReceivingAck a) K = K.1

  next_slot_in : (m : Next) → PartIn n (next_part m) → SlotIn n (next_slot m)
  unfolding next_part tx_part next_slot
  next_slot_in (Next.Tx q None) K = K.1
  next_slot_in (Next.Tx q (Some k)) K = K.1
  next_slot_in (Next.Rx q) K = K.1
  next_slot_in Next.Off K = tt

  pub slots_in : (w : Wait) → WaitIn n w → SlotIn n (pending_of w).first × SlotIn n (pending_of w).second
  unfolding wait_parts_of transition_parts asked_part stop_part pending_of asked_slot transition_slots stop_slot
  slots_in (Wait.Asking Asked.Idle) W = (tt, tt)
  slots_in (Wait.Asking (Asked.AfterWindow q)) W = (W.0.1, tt)
  slots_in (Wait.Asking (Asked.AfterAckWindow q t)) W = (W.0.1, tt)
  slots_in (Wait.Asking (Asked.Receiving q i)) W = (W.0.1, tt)
  slots_in (Wait.Asking (Asked.Sending q)) W = (W.0.1, tt)
  slots_in (Wait.Asking (Asked.SendingAck i)) W = (tt, tt)
  slots_in (Wait.Asking (Asked.ReceivingAck a)) W = (W.0.1, tt)
  slots_in (Wait.Entering (Transition.Request l m)) W = (left_slot_in l W.0, next_slot_in m W.1)
  slots_in (Wait.Entering (Transition.Rearm q)) W = (W.0.1, tt)
  slots_in (Wait.Entering (Transition.AckTurn q i)) W = (W.0.1, tt)
  slots_in (Wait.Entering (Transition.AckWait q k)) W = (W.0.1, tt)
  slots_in (Wait.Listening q) W = (W.0.1, tt)
  slots_in (Wait.Stopping (Stop.Frame q)) W = (W.0.1, tt)
  slots_in (Wait.Stopping (Stop.Outbound q)) W = (W.0.1, tt)
  slots_in (Wait.Stopping (Stop.Ack a)) W = (W.0.1, tt)
  slots_in (Wait.Stopping (Stop.AckAgain a)) W = (W.0.1, tt)
  slots_in (Wait.Reading q) W = (W.0.1, tt)

-- ---- Different numbers

-- a number that stands once in a list with another in front is not that other
differs : (x y : ℕ) → one x y ≤ 0 → not (eqb x y) ≡ true
differs x y h = simp (ne_eqb x y other)
  where
    other : x ≡ y → ⊥
    other e = let z : one x y ≡ 1 = rw e (one_self y) in absurd (omega arith)

module _ (set : Settings) where
  -- one request's buffer, the other own ones and possibly one more
  slot_fits_lem : (s : Slot) (rest : ℕ) → s.buffer < set.count → count s.buffer (own set) + (one s.buffer s.buffer + rest) ≤ 1 → slot_fits set (Some s) ≡ true
  unfolding slot_fits
  slot_fits_lem s rest below h =
      simp (
        lt-ltb s.buffer set.count below,
        differs s.buffer set.ack_buffer (omega (arith, one_self s.buffer)),
        differs s.buffer set.spare_buffer (omega (arith, one_self s.buffer)),
      )

  pub valid_slots : (f g : Option Slot) → SlotIn set.count f → SlotIn set.count g
      → ((x : ℕ) → count x (own set) + count x (slot_numbers buffer f ++ slot_numbers buffer g) ≤ 1)
      → ((x : ℕ) → count x (slot_numbers token f ++ slot_numbers token g) ≤ 1)
      → ((slot_fits set f && slot_fits set g) && slots_differ g f) ≡ true
  unfolding slots_differ differs_from slot_fits
  valid_slots None None F G B T = refl
  valid_slots (Some s) None F G B T = simp (slot_fits_lem s 0 F (B s.buffer))
  valid_slots None (Some s) F G B T = simp (slot_fits_lem s 0 G (B s.buffer))
  valid_slots (Some s) (Some r) F G B T =
      simp (
        slot_fits_lem s (one s.buffer r.buffer + 0) F (B s.buffer),
        slot_fits_lem r (one r.buffer s.buffer) G (omega (arith, B r.buffer)),
        differs s.token r.token (omega (arith, T s.token, one_self s.token)),
        differs s.buffer r.buffer (omega (arith, B s.buffer, one_self s.buffer)),
      )

-- ---- So a state that the book is kept of, with its numbers in range, is valid
settings_pass : (set : Settings) → SettingsIn set → ((x : ℕ) → count x (own set) ≤ 1) → settings_refusal set (buffer_length * set.count) ≡ 0
settings_pass set S h =
    (zero_if_fit set (buffer_length * set.count)).1
    (record {
      low = S.low;
      high = S.high;
      pool_length = refl;
      headroom = S.headroom;
      tailroom = S.tailroom;
      fcs = S.fcs;
      ack = S.ack;
      spare = S.spare;
      different = same;
    })
  where
    same : set.ack_buffer ≡ set.spare_buffer → ⊥
    same e =
        let x = set.spare_buffer in
        let z : one x set.ack_buffer ≡ 1 = rw e (one_self x) in
        absurd (omega (arith, h x, one_self x))

pub valid : (s : State) (b : Book) → StateIn s → Kept s b → valid_state s ≡ true
unfolding valid_state
valid s b S K =
    let H = K.holds in
    let I = slots_in s.set.count s.wait S.wait in
    let pass = settings_pass s.set S.set (λ x. omega (arith, H.same x, H.once x)) in
    let apart = valid_slots s.set (pending_of s.wait).first (pending_of s.wait).second I.0 I.1
    (λ x. rw (slots s.set buffer s.wait) (omega (arith, H.same x, H.once x)))
    (λ x. rw (slots s.set token s.wait) (H.one_each x)) in
    simp (eq-eqb _ 0 pass, apart)

fcs_fits : (x : ℕ) → (x ≡ 2) ⊎ (x ≡ 4) → x < 256
fcs_fits x (inl e) = omega arith
fcs_fits x (inr e) = omega arith

pub fits : (s : State) → StateIn s → StateFits s
fits s S =
    let n = S.set.high in
    record {
      settings =
          record {
            count = omega arith;
            headroom = omega (arith, S.set.headroom);
            tailroom = omega (arith, S.set.tailroom);
            fcs = fcs_fits s.set.fcs_length S.set.fcs;
            address = S.set.address;
            pan = S.set.pan;
            ack = omega (arith, S.set.ack);
            spare = omega (arith, S.set.spare);
          };
      case = (S.wait.0.0, omega (arith, S.wait.0.1), S.wait.0.2, S.wait.0.3, S.wait.0.4);
      next = (S.wait.1.0, omega (arith, S.wait.1.1), S.wait.1.2, S.wait.1.3, S.wait.1.4);
    }

-- ---- and a line that the book is kept of fits the state

module _ (s : State) (qs : List Request) (b : LineBook) (K : LineKept s qs b) where
  same_length : (task : Task) → tx_length_unfit s.set task ≡ tx_length_unfit b.book.set task
  unfolding tx_length_unfit
  same_length task = ap (λ (set : Settings). tx_length_unfit set task) K.kept.settings ∙ go task
    where
      go : (x : Task) → tx_length_unfit (with_spare b.book.set s.set.spare_buffer) x ≡ tx_length_unfit b.book.set x
      go (Task.Tx l cca) = refl
      go Task.Rx = refl

  same_count : s.set.count ≡ b.book.set.count
  same_count = ap (λ (set : Settings). set.count) K.kept.settings

  all_fit : (rest : List Arrival) → AllFit b.book.set rest → ((x : ℕ) → count x b.book.held + count x (waiting_buffers rest) ≤ 1)
      → ((t : ℕ) → count t (tokens b.book.requests) + count t (waiting_tokens rest) ≤ 1) → line_fits s (requests_in rest) ≡ true
  unfolding line_fits
  all_fit [] F B T = refl
  all_fit (a ∷ rest) F B T =
      let q = a.request in
      let x = q.buffer in
      let t = q.token in
      let below : x < s.set.count = rw same_count F.0.buffer in
      let p = passes_fits s q (requests_in rest) (
        token_by_book s b.book K.kept t ∙ has_tokens t b.book.requests ∙ none_has t (tokens b.book.requests) (omega (arith, T t, one_self t)),
        lt-leb s.set.count x below,
        buffer_by_book s b.book K.kept x ∙ none_has x b.book.held (omega (arith, B x, one_self x)),
        buffer_waits x rest ∙ none_has x (waiting_buffers rest) (omega (arith, B x, one_self x)),
        same_length q.task ∙ F.0.length_fits,
        token_waits t rest ∙ none_has t (waiting_tokens rest) (omega (arith, T t, one_self t)),
      ) in
      rw (p, all_fit rest F.1 (λ y. omega (arith, B y)) (λ u. omega (arith, T u)))

  pub line_valid : line_fits s qs ≡ true
  line_valid = rw K.line (all_fit b.waiting K.fit K.once K.one_each)

  pub at_most_four : length qs ≤ 4
  at_most_four = rw (K.line, length_is b.waiting) K.four
