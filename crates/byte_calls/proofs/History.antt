-- The whole list in the exported form: after every list of exported calls the slices hold a valid state and a line that fits it, and the
-- book that is kept from the numbers and the reply's bytes is sound.
-- Assumes nothing.
use Rattle.std.proofs.lemmas.Bool.{and_right}
use Prim.Native.Nat.{ℕ, ◌^◌, ◌<◌}
use mathlib.Core.Path.{◌≡◌, refl, sym, ◌∙◌, ap}
use mathlib.Core.Bool.{Bool, true, false, cond, ◌&&◌}
use mathlib.Core.List.{List, [], ◌∷◌}
use lib.Dec.{eqb}
use lib.ListN.{length}
use native.Mathlib.Omega.{arith}
use borrow.Author.Tests.{eqb-true, eqb-false}
use Rattle.util.specs.Bytes.{AllBytes}
use Rattle.radio_frame.specs.Settings.{settings_refusal}
use Rattle.radio_frame.proofs.Laws.{zero_if_fit}
use Rattle.tasks.specs.declared.Asked.{Asked}
use Rattle.tasks.specs.declared.Cause.{Cause}
use Rattle.tasks.specs.declared.Request.{Request}
use Rattle.tasks.specs.declared.State.{State}
use Rattle.tasks.specs.declared.Task.{Task}
use Rattle.tasks.specs.declared.TaskResult.{TaskResult}
use Rattle.tasks.specs.declared.Timestamp.{Timestamp}
use Rattle.tasks.specs.declared.Wait.{Wait}
use Rattle.engine.specs.Step.{start_of}
use Rattle.engine.proofs.History.{accepted_start}
use Rattle.service.specs.Service.{Served, service_of, service_start, allowed_waits}
use Rattle.service.specs.LineBook.{LineBook, start_line_book, line_book_step}
use Rattle.service.specs.Lists.{is_empty, way_on_of}
use Rattle.service.proofs.Kept.{LineKept}
use Rattle.service.proofs.History.{service_keeps, begun, sound}
use Rattle.state_bytes.specs.Layout.{state_at, written_state}
use Rattle.state_bytes.specs.Valid.{holds_state}
use Rattle.wait_parts.specs.Parts.{wait_parts_of, asked_part}
use Rattle.wait_parts.proofs.Picked.{picked}
use Rattle.state_bytes.proofs.RoundTrip.{reads_back}
use Rattle.line_bytes.specs.Layout.{start_fields, task_fields, line_at, written_line}
use Rattle.line_bytes.specs.Valid.{holds_line, Every, RequestSized, LineSized}
use Rattle.line_bytes.proofs.ReadBack.{line_reads_back}
use Rattle.line_bytes.proofs.InWords.{fits_exactly}
use Rattle.reply_bytes.specs.Reply.{reply_at, written_reply, TimestampFits, CauseFits}
use Rattle.reply_bytes.proofs.ReadBack.{reply_reads_back}
use Rattle.call_codes.specs.declared.ExportedCall.{ExportedCall}
use Rattle.call_codes.specs.declared.StartNumbers.{StartNumbers}
use Rattle.call_codes.specs.Codes.{known_flag, timestamp_table, timestamp_of, task_table, task_of, result_table, result_of, cause_table, cause_of, known_of, call_of, numbers_of, settings_of}
use Rattle.call_codes.proofs.Calls.{every_call_has_numbers}
use Rattle.slices.specs.Slices.{slices_fit, form_ok}
use Rattle.outcomes.specs.Outcomes.{or_five, unknown_of, made_of, unknown_start, begun_of}
use Rattle.byte_calls.specs.Calls.{call_result, call_state, call_line, call_reply, start_result, start_state, start_line}
use Rattle.byte_calls.specs.Lists.{Handed, last, others, handed_state, handed_line, left_by, ExportedCallMade, ByteMoment, after_exported_call, after_bytes, NumbersFit, SlicesFit, MadeFits, AllMadeFit, StartFits, ByteSound, AlwaysByteSound}
use Rattle.byte_calls.proofs.Ranges.{ResultIn, SettingsIn, StateIn}
use Rattle.byte_calls.proofs.Served.{ServiceCallIn, ServedIn, service_in}
use Rattle.byte_calls.proofs.Apart.{valid, fits, line_valid, at_most_four}
use Rattle.byte_calls.proofs.Laws.{right_form, between}

-- ---- The numbers of an exported call are in range as the service's
result_in : (length time quality code : ℕ) → time < 2 ^ 64 → ResultIn (result_of length time quality code)
unfolding result_of
result_in length time quality code t =
    picked (λ (r : TaskResult). ResultIn r) (result_table length time quality) _ code (tt, (t, (t, (tt, (t, tt))))) t

start_in : (time code : ℕ) → time < 2 ^ 64 → TimestampFits (timestamp_of time code)
unfolding timestamp_of
start_in time code t = picked (λ (x : Timestamp). TimestampFits x) (timestamp_table time) (Timestamp.Scheduled time) code (tt, (t, tt)) t

cause_in : (time code : ℕ) → time < 2 ^ 64 → CauseFits (cause_of time code)
unfolding cause_of
cause_in time code t = picked (λ (x : Cause). CauseFits x) (cause_table time) Cause.Task code (tt, (t, (tt, tt))) tt

time_sized : (start : Timestamp) → TimestampFits start → (start_fields start).time < 2 ^ 64
unfolding start_fields
time_sized Timestamp.BestEffort F = omega arith
time_sized (Timestamp.Scheduled t) F = F

length_sized : (length cca code : ℕ) → length < 2 ^ 16 → (task_fields (task_of length cca code)).length < 2 ^ 16
unfolding task_of task_fields
length_sized length cca code l = picked (λ (x : Task). (task_fields x).length < 2 ^ 16) (task_table length cca) Task.Rx code (l, (omega arith, tt)) (omega arith)

call_in : (x : ExportedCall) → NumbersFit x → ServiceCallIn (call_of x)
unfolding call_of
call_in (ExportedCall.Arrive token direction start time buffer length cca) N =
    record { token = N.0; time = time_sized (timestamp_of time start) (start_in time start N.1); buffer = N.2; length = length_sized length cca direction N.3 }
call_in (ExportedCall.Withdraw token) N = tt
call_in ExportedCall.Request N = tt
call_in ExportedCall.None N = tt
call_in ExportedCall.FrameStart N = tt
call_in (ExportedCall.OutboundSeen start time cca) N = start_in time start N
call_in (ExportedCall.Stopped outcome length time quality) N = tt
call_in (ExportedCall.Header arrived length) N = tt
call_in (ExportedCall.Entered result length time entry quality) N = result_in length time quality result N.1
call_in (ExportedCall.Fallback result length time cause causeTime quality) N = (result_in length time quality result N.1, cause_in causeTime cause N.2)
call_in ExportedCall.Rollback N = tt

-- ---- What every call keeps: the slices are those of a state and a line, of which the book is kept
record Inv (m : ByteMoment) : Type 0 where
  state : State
  line : List Request
  state_written : m.state ≡ written_state state
  line_written : m.line ≡ written_line line
  inside : StateIn state
  sized : Every RequestSized line
  kept : LineKept state line m.book

-- a refused call leaves the slices and the book
left_alone : (m : ByteMoment) (t : ExportedCallMade) → eqb (call_result (handed_state m.state t.slices) (handed_line m.line t.slices) t.reply t.pool t.call) 0 ≡ false
    → after_exported_call m t ≡ m
unfolding after_exported_call call_state call_line line_book_step
left_alone m t e = rw e (go t.slices)
  where
    go : (h : Handed)
        → record { state = left_by m.state (handed_state m.state h) h; line = left_by m.line (handed_line m.line h) h; book = m.book } ≡ m
    go last = refl
    go (others st li) = refl

-- wrong slices are refused
wrong_slices : (st li re po : List ℕ) (x : ExportedCall) → form_ok st li 48 ≡ false → call_result st li re po x ≡ 1
unfolding call_result form_ok slices_fit
wrong_slices st li re po x h = go (eqb (length re) 48) refl
  where
    go : (t : Bool) → eqb (length re) 48 ≡ t → call_result st li re po x ≡ 1
    go true e =
        let w : ((eqb (length st) 64 && (eqb (length li) 96 && true)) && (holds_state st && holds_line (state_at st) li)) ≡ false = h in
        simp (e, w)
    go false e = simp (e, and_right (eqb (length li) 96) false refl, and_right (eqb (length st) 64) false refl)

five_or_more : (k : ℕ) → or_five k ≡ 0 → ⊥
five_or_more k = go (eqb k 0) refl
  where
    go : (t : Bool) → eqb k 0 ≡ t → cond (eqb k 0) 5 k ≡ 0 → ⊥
    go true e h = let z : ◌≡◌ {A = ℕ} 5 0 = rw e at h in absurd (omega arith)
    go false e h = eqb-false k 0 e (rw e at h)

-- an accepted call has a form that is right and codes that stand for something
accepted_form : (st li re po : List ℕ) (x : ExportedCall) → call_result st li re po x ≡ 0 → form_ok st li (length re) ≡ true
unfolding call_result
accepted_form st li re po x h = go (form_ok st li (length re)) refl
  where
    go : (t : Bool) → form_ok st li (length re) ≡ t → form_ok st li (length re) ≡ true
    go true e = e
    go false e = let z : ◌≡◌ {A = ℕ} 1 0 = rw e at h in absurd (omega arith)

right_code : (s : State) (qs : List Request) (po : List ℕ) (x : ExportedCall) → (made_of s qs po x).refusal ≡ 0 → known_of x ≡ true
unfolding made_of unknown_of
right_code s qs po x h = go (known_of x) refl
  where
    go : (t : Bool) → known_of x ≡ t → known_of x ≡ true
    go true e = e
    go false e = absurd (five_or_more (settings_refusal s.set (length po)) (rw e at h))

module _ (s : State) (qs : List Request) (b : LineBook) (S : StateIn s) (Q : Every RequestSized qs) (K : LineKept s qs b) where
  sized_line : LineSized qs
  sized_line = (at_most_four s qs b K, Q)

  form : (n : ℕ) → n ≡ 48 → form_ok (written_state s) (written_line qs) n ≡ true
  form n l = right_form s qs (fits s S) (valid s b.book S K.kept) sized_line (line_valid s qs b K) n l

  state_back : state_at (written_state s) ≡ s
  state_back = reads_back s (fits s S)

  line_back : line_at (written_line qs) ≡ qs
  line_back = line_reads_back qs sized_line

  one_call : (re po : List ℕ) (x : ExportedCall) → length re ≡ 48 → known_of x ≡ true
      → call_result (written_state s) (written_line qs) re po x ≡ (service_of s qs po (call_of x)).refusal
  one_call re po x l k = (between s qs re po x (fits s S) (valid s b.book S K.kept) sized_line (line_valid s qs b K) l k).result

  module _ (re po : List ℕ) (x : ExportedCall) (N : NumbersFit x) (A : AllBytes po) (h : call_result (written_state s) (written_line qs) re po x ≡ 0) where
    abbrev r : Served
    r = service_of s qs po (call_of x)

    right : form_ok (written_state s) (written_line qs) (length re) ≡ true
    right = accepted_form (written_state s) (written_line qs) re po x h

    made : call_result (written_state s) (written_line qs) re po x ≡ (made_of s qs po x).refusal
    unfolding call_result
    made = simp (right, state_back, line_back)

    outcome : made_of (state_at (written_state s)) (line_at (written_line qs)) po x ≡ r
    unfolding made_of
    outcome = simp (state_back, line_back, right_code s qs po x (sym made ∙ h))

    comes_in : ServedIn r
    comes_in = service_in s qs po S Q ((fits_exactly s qs).0 (line_valid s qs b K)) A (call_of x) (call_in x N)

    next_state : call_state (written_state s) (written_line qs) re po x ≡ written_state r.state
    unfolding call_state
    next_state = simp (h, outcome)

    next_line : call_line (written_state s) (written_line qs) re po x ≡ written_line r.line
    unfolding call_line
    next_line = simp (h, outcome)

    next_reply : call_reply (written_state s) (written_line qs) re po x ≡ written_reply r.reply
    unfolding call_reply
    next_reply = simp (h, outcome)

    refusal : call_result (written_state s) (written_line qs) re po x ≡ r.refusal
    unfolding call_result
    refusal = simp (right, outcome)

    read_back : reply_at (call_reply (written_state s) (written_line qs) re po x) ≡ r.reply
    read_back = ap reply_at next_reply ∙ reply_reads_back r.reply comes_in.reply

    keeps : Inv (record { state = call_state (written_state s) (written_line qs) re po x; line = call_line (written_state s) (written_line qs) re po x; book = line_book_step b po (call_of x) (call_result (written_state s) (written_line qs) re po x) (reply_at (call_reply (written_state s) (written_line qs) re po x)) })
    keeps =
        record {
          state = r.state;
          line = r.line;
          state_written = next_state;
          line_written = next_line;
          inside = comes_in.state;
          sized = comes_in.line;
          kept = rw (refusal, read_back) (service_keeps s qs b po K (call_of x));
        }

-- a call on the slices that the last one left
last_keeps : (m : ByteMoment) (x : ExportedCall) (re po : List ℕ) → Inv m → NumbersFit x → AllBytes po
    → Inv (after_exported_call m (record { call = x; slices = last; reply = re; pool = po }))
unfolding after_exported_call
last_keeps m x re po I N A = go (eqb (call_result m.state m.line re po x) 0) refl
  where
    go : (f : Bool) → eqb (call_result m.state m.line re po x) 0 ≡ f → Inv (after_exported_call m (record { call = x; slices = last; reply = re; pool = po }))
    go true e =
        rw (I.state_written, I.line_written)
        (keeps I.state I.line m.book I.inside I.sized I.kept re po x N A
        (rw (I.state_written, I.line_written) at (eqb-true (call_result m.state m.line re po x) 0 e)))
    go false e = rw (left_alone m (record { call = x; slices = last; reply = re; pool = po }) e) I

call_keeps : (m : ByteMoment) (t : ExportedCallMade) → Inv m → MadeFits t → Inv (after_exported_call m t)
call_keeps m t I F = go t.slices F.1
  where
    go : (h : Handed) → SlicesFit h → Inv (after_exported_call m (record { call = t.call; slices = h; reply = t.reply; pool = t.pool }))
    go last w = last_keeps m t.call t.reply t.pool I F.0 F.2
    go (others st li) w =
        let one : call_result st li t.reply t.pool t.call ≡ 1 = wrong_slices st li t.reply t.pool t.call w in
        rw (left_alone m (record { call = t.call; slices = others st li; reply = t.reply; pool = t.pool }) (rw one)) I

list_keeps : (ts : List ExportedCallMade) (m : ByteMoment) → Inv m → AllMadeFit ts → Inv (after_bytes m ts)
unfolding after_bytes
list_keeps [] m I F = I
list_keeps (t ∷ ts) m I F = list_keeps ts (after_exported_call m t) (call_keeps m t I F.0) F.1

-- ---- The claims follow
byte_sound : (m : ByteMoment) → Inv m → ByteSound m
byte_sound m I =
    let s = I.state in
    let qs = I.line in
    let back : state_at m.state ≡ s = ap state_at I.state_written ∙ state_back s qs m.book I.inside I.sized I.kept in
    let line : line_at m.line ≡ qs = ap line_at I.line_written ∙ line_back s qs m.book I.inside I.sized I.kept in
    record {
      valid = rw (I.state_written, I.line_written) (form s qs m.book I.inside I.sized I.kept 48 refl);
      sound = rw (back, line) (sound (record { state = s; line = qs; book = m.book }) I.kept);
      replies =
          λ re po x N A h.
          rw (back, line)
          (rw (I.state_written, I.line_written)
          (read_back s qs m.book I.inside I.sized I.kept re po x N A (rw (I.state_written, I.line_written) at h)));
      way_on =
          λ re po l p.
          let c = way_on_of s.set (is_empty qs) (allowed_waits qs s.wait) s.wait in
          let N = every_call_has_numbers c in
          let W = (sound (record { state = s; line = qs; book = m.book }) I.kept).way_on po p in
          rw (back, line, I.state_written, I.line_written) (one_call s qs m.book I.inside I.sized I.kept re po (numbers_of c) l N.0 ∙ rw N.1 W);
    }

-- ---- Start
settings_in : (n : StartNumbers) (pool : ℕ) → StartFits n → settings_refusal (settings_of n) pool ≡ 0 → SettingsIn (settings_of n)
unfolding settings_of
settings_in n pool F h =
    let fit = (zero_if_fit (settings_of n) pool).0 h in
    record {
      low = fit.low;
      high = fit.high;
      headroom = fit.headroom;
      tailroom = fit.tailroom;
      fcs = fit.fcs;
      address = F.address;
      pan = F.pan;
      ack = fit.ack;
      spare = fit.spare;
    }

two_or_three : (t : Bool) → ◌≡◌ {A = ℕ} (cond t 2 3) 0 → ⊥
two_or_three true h = absurd (omega arith)
two_or_three false h = absurd (omega arith)

module _ (n : StartNumbers) (st li re po : List ℕ) (h : start_result n st li re po ≡ 0) where
  start_form : slices_fit (length st) (length li) (length re) ≡ true
  unfolding start_result
  start_form = go (slices_fit (length st) (length li) (length re)) refl
    where
      go : (t : Bool) → slices_fit (length st) (length li) (length re) ≡ t → slices_fit (length st) (length li) (length re) ≡ true
      go true e = e
      go false e = let z : ◌≡◌ {A = ℕ} 1 0 = rw e at h in absurd (omega arith)

  start_begun : (begun_of n [] po).refusal ≡ 0
  unfolding start_result
  start_begun = rw start_form at h

  start_code : known_flag n.implicit_broadcast ≡ true
  unfolding begun_of unknown_start
  start_code = go (known_flag n.implicit_broadcast) refl
    where
      go : (t : Bool) → known_flag n.implicit_broadcast ≡ t → known_flag n.implicit_broadcast ≡ true
      go true e = e
      go false e = absurd (two_or_three (eqb (settings_refusal (settings_of n) (length po)) 2) (rw e at start_begun))

  start_outcome : begun_of n [] po ≡ service_start (settings_of n) [] po
  unfolding begun_of
  start_outcome = simp start_code

  start_accepted : (start_of (settings_of n) po).refusal ≡ 0
  unfolding service_start
  start_accepted = rw start_outcome at start_begun

  start_keeps : StartFits n → Inv (record { state = start_state n st li re po; line = start_line n st li re po; book = start_line_book (settings_of n) })
  unfolding start_state start_line service_start wait_parts_of asked_part
  start_keeps F =
      let set = settings_of n in
      let begin = accepted_start set po start_accepted in
      let S = settings_in n (length po) F begin.1 in
      let w : StateIn (record { set = set; wait = Wait.Asking Asked.Idle }) =
      record {
        set = S;
        wait = (
          (omega arith, omega (arith, S.low), omega arith, omega arith, omega arith),
          (omega arith, omega (arith, S.low), omega arith, omega arith, omega arith),
        );
      } in
      record {
        state = record { set = set; wait = Wait.Asking Asked.Idle };
        line = [];
        state_written = simp (h, start_outcome, begin.0);
        line_written = simp h;
        inside = w;
        sized = tt;
        kept = begun set (length po) begin.1;
      }

-- THE THIRD DEMAND in the exported form
pub always_byte_sound : (n : StartNumbers) (st li re po : List ℕ) → AlwaysByteSound n (start_result n st li re po) (start_state n st li re po) (start_line n st li re po)
unfolding AlwaysByteSound
always_byte_sound n st li re po F h ts T = byte_sound _ (list_keeps ts _ (start_keeps n st li re po h F) T)
