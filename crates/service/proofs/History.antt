-- The whole list: every call keeps what state, line and book say of each other.
-- Assumes nothing.
use Prim.Native.Nat.{ℕ, ◌+◌, ◌≤◌, ◌<◌}
use mathlib.Core.Path.{◌≡◌, refl, sym, ◌∙◌, ap}
use mathlib.Core.Bool.{Bool, true, false, cond}
use mathlib.Core.List.{List, [], ◌∷◌}
use lib.Dec.{eqb}
use lib.ListN.{length}
use native.Mathlib.Omega.{arith}
use borrow.Author.Tests.{eqb-true, eqb-false}
use Rattle.radio_frame.specs.declared.Settings.{Settings}
use Rattle.radio_frame.specs.Settings.{settings_refusal, Fit}
use Rattle.radio_frame.proofs.Laws.{zero_if_fit}
use Rattle.tasks.specs.declared.Asked.{Asked}
use Rattle.tasks.specs.declared.Call.{Call}
use Rattle.tasks.specs.declared.Reply.{Reply}
use Rattle.tasks.specs.declared.Request.{Request}
use Rattle.tasks.specs.declared.State.{State}
use Rattle.tasks.specs.declared.StopResult.{StopResult}
use Rattle.tasks.specs.declared.Task.{Task}
use Rattle.tasks.specs.declared.Timestamp.{Timestamp}
use Rattle.tasks.specs.declared.Wait.{Wait}
use Rattle.requests.specs.Requests.{allowed_of}
use Rattle.asking.specs.Asking.{taken_of}
use Rattle.engine.specs.Step.{step_of, start_of}
use Rattle.engine.specs.Refusals.{RefusedUnchanged}
use Rattle.engine.specs.Asks.{Asks, ask, outbound_after}
use Rattle.engine.specs.Actions.{asks_of}
use Rattle.engine.specs.Book.{Entry, older, requests_entered, held_entered}
use Rattle.engine.specs.BookClaims.{one}
use Rattle.engine.proofs.Radio.{receives}
use Rattle.engine.proofs.Kept.{state_at}
use Rattle.engine.proofs.Refusals.{refused_unchanged}
use Rattle.engine.proofs.History.{own_differ, started, accepted_start}
use Rattle.waiting_line.specs.Line.{allows, is_tx, earliest_of, names_tx}
use Rattle.service.specs.declared.ServiceCall.{ServiceCall}
use Rattle.service.specs.Service.{Served, refused_by, wait_given, unless_refused, arrive_refusal, arrive_of, withdraw_refusal, withdraw_of, take_of, request_of, allowed_waits, none_of, outbound_seen_of, call_of, service_of, service_start}
use Rattle.service.specs.LineBook.{Arrival, LineBook, start_line_book, earliest_in, others_in, allowed_by, leaving, staying, named_after, takes, passes, accepts, line_book_step}
use Rattle.service.specs.Lists.{ServiceCallMade, ServiceMoment, after_call, after, requests_in, PoolFits, ServiceSound, AlwaysServed}
use Rattle.service.proofs.Arrivals.{Search, none, found_one, search_in, OneIn}
use Rattle.service.proofs.Kept.{NamedFits, LineKept, tokens_older}
use Rattle.service.proofs.Steps.{EntersNone, passes_keeps, arrive_keeps, withdraw_keeps, takes_keeps}
use Rattle.service.proofs.Sound.{book_sound, arrives_by_book, withdraws_by_book, request_is_by_book, request_does, none_is_by_book, seen_is_by_book, settings_pass, named_leave, service_replies, service_turns}
use Rattle.service.proofs.WayOn.{way_on_is}

-- ---- Calls that enter no request

-- a Request, by a test
abbrev is_request : Call → Bool
is_request (Call.Request q) = true
is_request Call.None = false
is_request Call.FrameStart = false
is_request (Call.OutboundSeen start cca) = false
is_request (Call.Stopped r) = false
is_request (Call.Header arrived len) = false
is_request (Call.Entered r entry) = false
is_request (Call.Fallback r cause) = false
is_request Call.Rollback = false

enters_none : (c : Call) → is_request c ≡ false → ((set : Settings) (pool : List ℕ) (es : List Entry) → requests_entered set pool c es ≡ older es) → ((l : List ℕ) → held_entered c l ≡ l) → EntersNone c
enters_none c n e f =
    record {
      tokens_same = λ b pool t. rw (e b.set pool b.requests, tokens_older b.requests) (omega arith);
      held_same = f;
      no_request = λ q h. let z : ◌≡◌ {A = ℕ} 0 1 = ap (λ (b : Bool). cond b 1 0) (sym n ∙ ap is_request h) in omega arith;
    }

-- ---- A call keeps it: refused or accepted

-- what a call comes to, and the book after it
abbrev KeptBy : LineBook → List ℕ → ServiceCall → Served → Type 0
KeptBy b pool c r = LineKept r.state r.line (line_book_step b pool c r.refusal r.reply)

module _ (s : State) (qs : List Request) (b : LineBook) (pool : List ℕ) (K : LineKept s qs b) where
  refused_keeps : (c : ServiceCall) (k : ℕ) → eqb k 0 ≡ false → KeptBy b pool c (refused_by s qs pool k)
  unfolding line_book_step
  refused_keeps c k e = rw e K

  unless_keeps : (c : ServiceCall) (k : ℕ) (r : Served) → (k ≡ 0 → KeptBy b pool c r) → KeptBy b pool c (unless_refused s qs pool k r)
  unfolding unless_refused
  unless_keeps c k r f = go (eqb k 0) refl
    where
      go : (t : Bool) → eqb k 0 ≡ t → KeptBy b pool c (cond (eqb k 0) r (refused_by s qs pool k))
      go true e = rw e (f (eqb-true k 0 e))
      go false e = rw e (refused_keeps c k e)

  -- a call that the wait is given
  given_keeps : (c : ServiceCall) (d : Call) → ((r : Reply) → accepts pool c r b ≡ passes pool r d b) → EntersNone d
      → NamedFits (outbound_after d b.outbound) (named_after d (outbound_after d b.outbound) b) b.waiting
      → KeptBy b pool c (wait_given s qs pool d)
  unfolding line_book_step RefusedUnchanged
  given_keeps c d same E N = go (eqb (step_of s pool d).refusal 0) refl
    where
      go : (t : Bool) → eqb (step_of s pool d).refusal 0 ≡ t → KeptBy b pool c (wait_given s qs pool d)
      go true e = rw (e, same (step_of s pool d).reply) (passes_keeps s qs b pool d K E N (eqb-true _ 0 e))
      go false e = rw (e, (refused_unchanged s pool d (eqb-false _ 0 e)).state) K

  -- what is found in the line is found in the book
  found_in : (p : Request → Bool) → earliest_of p qs ≡ earliest_of p (requests_in b.waiting)
  found_in p = ap (earliest_of p) K.line

  -- OutboundSeen names the earliest Tx
  outbound_keeps : (start : Timestamp) (cca : Bool) → KeptBy b pool (ServiceCall.OutboundSeen start cca) (outbound_seen_of s qs pool start cca)
  unfolding outbound_seen_of names_tx accepts
  outbound_keeps start cca = go (search_in is_tx b.waiting)
    where
      c : ServiceCall
      c = ServiceCall.OutboundSeen start cca

      seen : (x : Arrival) → OneIn is_tx b.waiting x → (t : Bool) → KeptBy b pool c (cond t (wait_given s qs pool (Call.OutboundSeen start cca)) (refused_by s qs pool 5))
      seen x O true =
          given_keeps c (Call.OutboundSeen start cca) (λ r. refl) (enters_none (Call.OutboundSeen start cca) refl (λ set p es. refl) (λ l. refl))
          (x, (O.earliest, O.earliest))
      seen x O false = refused_keeps c 5 refl

      go : Search is_tx b.waiting
          → KeptBy b pool c (cond (names_tx start cca (earliest_of is_tx qs)) (wait_given s qs pool (Call.OutboundSeen start cca)) (refused_by s qs pool 5))
      go (none n) = rw (found_in is_tx ∙ n.found) (refused_keeps c 5 refl)
      go (found_one x O) = seen x O (names_tx start cca (earliest_of is_tx qs))

  -- what was named stays named only as long as its ask is open
  stopped_named : (r : StopResult)
      → NamedFits (outbound_after (Call.Stopped r) b.outbound) (named_after (Call.Stopped r) (outbound_after (Call.Stopped r) b.outbound) b) b.waiting
  stopped_named StopResult.FrameStarted = refl
  stopped_named (StopResult.RxWindowEnded y) = go b.outbound K.named
    where
      go : (t : Bool) → NamedFits t b.named b.waiting → NamedFits t (cond t b.named []) b.waiting
      go true N = N
      go false N = refl
  stopped_named StopResult.Failed = refl

  -- the earliest that the wait allows leaves
  takes_is : (a : Asked) (x : Arrival) (r : Reply) → b.asks ≡ ask (allowed_of a) → earliest_in (allows (allowed_of a)) b.waiting ≡ x ∷ []
      → takes pool r (leaving b) b ≡ takes pool r (x ∷ []) b
  takes_is a x r e f = ap (λ (l : List Arrival). takes pool r l b) (ap (λ (y : Asks). earliest_in (allowed_by y) b.waiting) e ∙ f)

  stays_is : (a : Asked) → b.asks ≡ ask (allowed_of a) → staying b ≡ others_in (allows (allowed_of a)) b.waiting
  stays_is a e = ap (λ (y : Asks). others_in (allowed_by y) b.waiting) e

  request_keeps : (w : Wait) → s.wait ≡ w → KeptBy b pool ServiceCall.Request (request_of s qs pool w)
  unfolding request_of take_of line_book_step accepts
  request_keeps (Wait.Asking a) w = go (search_in (allows (allowed_of a)) b.waiting)
    where
      asks_is : b.asks ≡ ask (allowed_of a)
      asks_is = K.asks ∙ ap asks_of w

      go : Search (allows (allowed_of a)) b.waiting → KeptBy b pool ServiceCall.Request (take_of s qs pool a (earliest_of (allows (allowed_of a)) qs))
      go (none n) = rw (found_in (allows (allowed_of a)) ∙ n.found) (refused_keeps ServiceCall.Request 9 refl)
      go (found_one x O) =
          rw (found_in (allows (allowed_of a)) ∙ O.found)
          (rw (takes_is a x (taken_of s.set pool a x.request).reply asks_is O.earliest, stays_is a asks_is) (takes_keeps s qs b pool a x w K O))
  request_keeps (Wait.Entering e) w = refused_keeps ServiceCall.Request 5 refl
  request_keeps (Wait.Listening q) w = refused_keeps ServiceCall.Request 5 refl
  request_keeps (Wait.Stopping p) w = refused_keeps ServiceCall.Request 5 refl
  request_keeps (Wait.Reading q) w = refused_keeps ServiceCall.Request 5 refl

  none_keeps : KeptBy b pool ServiceCall.None (none_of s qs pool)
  unfolding none_of accepts
  none_keeps = go (allowed_waits qs s.wait)
    where
      go : (t : Bool) → KeptBy b pool ServiceCall.None (cond t (refused_by s qs pool 5) (wait_given s qs pool Call.None))
      go true = refused_keeps ServiceCall.None 5 refl
      go false = given_keeps ServiceCall.None Call.None (λ r. refl) (enters_none Call.None refl (λ set p es. refl) (λ l. refl)) refl

  call_keeps : (c : ServiceCall) → KeptBy b pool c (call_of s qs pool c)
  unfolding call_of arrive_of withdraw_of line_book_step accepts
  call_keeps (ServiceCall.Arrive q) =
      unless_keeps (ServiceCall.Arrive q) (arrive_refusal s qs q) _ (λ z. arrive_keeps s qs b pool q K z)
  call_keeps (ServiceCall.Withdraw token) =
      unless_keeps (ServiceCall.Withdraw token) (withdraw_refusal s qs token) _ (λ z. withdraw_keeps s qs b pool token K z)
  call_keeps ServiceCall.Request = request_keeps s.wait refl
  call_keeps ServiceCall.None = none_keeps
  call_keeps ServiceCall.FrameStart =
      given_keeps ServiceCall.FrameStart Call.FrameStart (λ r. refl) (enters_none Call.FrameStart refl (λ set p es. refl) (λ l. refl)) refl
  call_keeps (ServiceCall.OutboundSeen start cca) = outbound_keeps start cca
  call_keeps (ServiceCall.Stopped x) =
      given_keeps (ServiceCall.Stopped x) (Call.Stopped x) (λ r. refl) (enters_none (Call.Stopped x) refl (λ set p es. refl) (λ l. refl)) (stopped_named x)
  call_keeps (ServiceCall.Header arrived len) =
      given_keeps (ServiceCall.Header arrived len) (Call.Header arrived len) (λ r. refl)
      (enters_none (Call.Header arrived len) refl (λ set p es. refl) (λ l. refl)) refl
  call_keeps (ServiceCall.Entered x entry) =
      given_keeps (ServiceCall.Entered x entry) (Call.Entered x entry) (λ r. refl)
      (enters_none (Call.Entered x entry) refl (λ set p es. refl) (λ l. refl)) refl
  call_keeps (ServiceCall.Fallback x cause) =
      given_keeps (ServiceCall.Fallback x cause) (Call.Fallback x cause) (λ r. refl)
      (enters_none (Call.Fallback x cause) refl (λ set p es. refl) (λ l. refl)) refl
  call_keeps ServiceCall.Rollback =
      given_keeps ServiceCall.Rollback Call.Rollback (λ r. refl) (enters_none Call.Rollback refl (λ set p es. refl) (λ l. refl)) refl

  pub service_keeps : (c : ServiceCall) → KeptBy b pool c (service_of s qs pool c)
  unfolding service_of
  service_keeps c = unless_keeps c (settings_refusal s.set (length pool)) (call_of s qs pool c) (λ z. call_keeps c)

-- ---- Every list of calls

kept_after : (ts : List ServiceCallMade) (m : ServiceMoment) → LineKept m.state m.line m.book
    → LineKept (after m ts).state (after m ts).line (after m ts).book
unfolding after after_call
kept_after [] m K = K
kept_after (t ∷ ts) m K = kept_after ts (after_call m t) (service_keeps m.state m.line m.book t.pool K t.call)

-- ---- Start

pub begun : (set : Settings) (n : ℕ) → settings_refusal set n ≡ 0 → LineKept (state_at set (Wait.Asking Asked.Idle)) [] (start_line_book set)
unfolding allowed_of
begun set n ok =
    let K = started set (own_differ set n ok) in
    record {
      kept = K;
      line = refl;
      asks = refl;
      outbound = refl;
      named = refl;
      once = λ x. omega (arith, K.holds.once x);
      one_each = λ t. omega arith;
      low = λ x h. own_low x (omega (arith, h));
      four = omega arith;
      order = record { rising = λ t u. tt; below = λ t u. tt };
      fit = tt;
    }
  where
    numbers : Fit set n
    numbers = (zero_if_fit set n).0 ok

    is_one : (x y : ℕ) → y < set.count → 1 ≤ one x y → x < set.count
    is_one x y l h = go (eqb y x) refl
      where
        go : (t : Bool) → eqb y x ≡ t → x < set.count
        go true e = rw (eqb-true y x e) at l
        go false e = absurd (let z : ◌≤◌ 1 0 = rw e at h in omega arith)

    own_low : (x : ℕ) → 1 ≤ one x set.ack_buffer + one x set.spare_buffer → x < set.count
    own_low x h = go (eqb set.ack_buffer x) refl
      where
        go : (t : Bool) → eqb set.ack_buffer x ≡ t → x < set.count
        go true e = rw (eqb-true set.ack_buffer x e) at numbers.ack
        go false e = is_one x set.spare_buffer numbers.spare (let z : 1 ≤ 0 + one x set.spare_buffer = rw e at h in omega arith)

-- ---- What holds after every call

-- any request: the order of answers has nothing to do with the one that leaves
some_request : Request
some_request = record { token = 0; start = Timestamp.BestEffort; buffer = 0; task = Task.Rx }

pub sound : (m : ServiceMoment) → LineKept m.state m.line m.book → ServiceSound m
sound m K =
    record {
      book = book_sound m.state m.line m.book K;
      arrive_by_book_lem = λ pool q ok. arrives_by_book m.state m.line m.book K pool (passing pool ok) q;
      withdraw_by_book_lem = λ pool token ok. withdraws_by_book m.state m.line m.book K pool (passing pool ok) token;
      request_by_book_lem = λ pool ok. request_is_by_book m.state m.line m.book K pool (passing pool ok);
      request_takes = λ pool a ok l. request_does m.state m.line m.book K pool a (passing pool ok) l;
      none_by_book_lem = λ pool ok. none_is_by_book m.state m.line m.book K pool (passing pool ok);
      outbound_by_book_lem = λ pool start cca ok. seen_is_by_book m.state m.line m.book K pool (passing pool ok) start cca;
      named_leaves = named_leave m.state m.line m.book K;
      line_agrees = K.line;
      asks_agree = K.asks;
      agrees = K.kept.holds.requests;
      receives = receives m.state.set m.state.wait m.book.book.radio K.kept.radio;
      spaced = λ pool c q z. (service_replies m.state m.line m.book K pool q c z).0;
      earlier_first = λ pool c z. (service_replies m.state m.line m.book K pool some_request c z).1;
      ack_turns = λ pool c d h. service_turns m.state m.line m.book K pool c d h;
      way_on = λ pool ok. way_on_is m.state m.line m.book pool K (passing pool ok);
    }
  where
    passing : (pool : List ℕ) → PoolFits m pool → settings_refusal m.state.set (length pool) ≡ 0
    passing pool ok = settings_pass m.state m.line m.book K (length pool) ok

-- THE THIRD DEMAND: whatever start is accepted, and whatever calls follow, the book is sound after every one of them
pub service_history : (set : Settings) (qs : List Request) (pool : List ℕ) → AlwaysServed set (service_start set qs pool)
unfolding AlwaysServed service_start
service_history set qs pool ok ts =
    let begin = accepted_start set pool ok in
    let K : LineKept (start_of set pool).state (cond (eqb (start_of set pool).refusal 0) [] qs) (start_line_book set) =
    rw (begin.0, ok) (begun set (length pool) begin.1) in
    sound _ (kept_after ts (record { state = (start_of set pool).state; line = cond (eqb (start_of set pool).refusal 0) [] qs; book = start_line_book set }) K)
