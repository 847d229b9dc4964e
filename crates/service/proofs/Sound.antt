-- The claims follow from what state, line and book say of each other.
-- Assumes nothing.
use Rattle.std.proofs.lemmas.List.{length-append}
use Prim.Native.Nat.{ℕ, suc, ◌+◌, ◌≤◌}
use mathlib.Core.Path.{◌≡◌, refl, sym, ◌∙◌, ap}
use mathlib.Core.Bool.{Bool, true, false, cond, not, ◌&&◌, ◌||◌, or_assoc}
use mathlib.Core.List.{List, [], ◌∷◌, ◌++◌}
use lib.Dec.{eqb}
use lib.ListN.{length}
use native.Mathlib.Omega.{arith}
use borrow.Author.Tests.{eqb-false}
use Rattle.std.specs.Prelude.{Option, Some, None}
use Rattle.radio_frame.specs.declared.Settings.{Settings}
use Rattle.radio_frame.specs.Settings.{settings_refusal, Fit}
use Rattle.radio_frame.proofs.Laws.{zero_if_fit}
use Rattle.entered.specs.Entered.{with_spare}
use Rattle.engine.proofs.Count.{one_self}
use Rattle.engine.proofs.Standing.{buffers}
use Rattle.tasks.specs.declared.Action.{Action}
use Rattle.tasks.specs.declared.Asked.{Asked}
use Rattle.tasks.specs.declared.Call.{Call}
use Rattle.tasks.specs.declared.Request.{Request}
use Rattle.tasks.specs.declared.Starts.{Starts}
use Rattle.tasks.specs.declared.State.{State}
use Rattle.tasks.specs.declared.Timestamp.{Timestamp}
use Rattle.tasks.specs.declared.Wait.{Wait}
use Rattle.requests.specs.Requests.{buffer_held, allow, allowed_of}
use Rattle.asking.specs.Asking.{taken_of}
use Rattle.moves.specs.Move.{Move}
use Rattle.engine.specs.Step.{written_by}
use Rattle.engine.specs.AckTurns.{AckTurns, EveryAckTurnIsDue}
use Rattle.engine.specs.Asks.{Asks, no_ask, ask, listens}
use Rattle.engine.specs.Refusals.{fits, none_fits}
use Rattle.engine.specs.Actions.{TaskDone, asks_of, outbound_open, Spaced}
use Rattle.engine.specs.Agreement.{standing}
use Rattle.engine.specs.Book.{Radio, has_number}
use Rattle.engine.specs.BookClaims.{one, count, tokens}
use Rattle.engine.specs.Lists.{EarlierFirst}
use Rattle.engine.proofs.Kept.{in_time, limits, count_own, count_append}
use Rattle.engine.proofs.Table.{Legal}
use Rattle.engine.proofs.History.{Fresh}
use Rattle.engine.proofs.AckTurns.{taken_turns, refused_turns, every_ack_turn_is_due}
use Rattle.engine.proofs.Sound.{legal_spaced, legal_in_order, next_spaced, next_in_order}
use Rattle.waiting_line.specs.Line.{allows, has_token, has_buffer, is_tx, any_passes, earliest_of, same_start_of, same_flag_of, names_tx, is_token}
use Rattle.service.specs.declared.ServiceCall.{ServiceCall}
use Rattle.service.specs.Service.{Served, outcome_in, line_now, is_named, take_of, allowed_waits, service_of}
use Rattle.service.specs.Heard.{request_found, request_heard, heard, EveryCallHeard}
use Rattle.service.specs.Refusals.{is_asking, service_fits, service_later}
use Rattle.service.specs.LineBook.{Arrival, LineBook, earliest_in, allowed_by, leaving}
use Rattle.service.specs.LineClaims.{waiting_tokens, waiting_buffers, held_in, LineBookSound}
use Rattle.service.specs.Lists.{arrive_by_book, named_has, withdraw_by_book, taken_or, request_by_book, none_asked, none_by_book, named_by, outbound_by_book, wait_call, requests_in}
use Rattle.service.proofs.Arrivals.{length_is, token_waits, buffer_waits, Search, none, found_one, search_in}
use Rattle.service.proofs.Kept.{NamedFits, LineKept, token_by_book, buffer_by_book}
use Rattle.service.proofs.Cases.{OnLine, arrives, withdraws, Case, refused, on_line, given, taken, service_case}
use Rattle.service.proofs.Heard.{head_is, one_not_none, taken_told, every_call_heard}
use Rattle.service.proofs.Steps.{length_same, fresh_taken, legal_taken, taken_zero}
use Rattle.service.proofs.Refusals.{service_refusal_lem}

has_append : (x : ℕ) (l m : List ℕ) → has_number x (l ++ m) ≡ (has_number x l || has_number x m)
has_append x [] m = refl
has_append x (y ∷ l) m = ap (λ (t : Bool). eqb y x || t) (has_append x l m) ∙ sym (or_assoc (eqb y x) (has_number x l) (has_number x m))

length_buffers : (rest : List Arrival) → length (waiting_buffers rest) ≡ length rest
length_buffers [] = refl
length_buffers (a ∷ rest) = ap suc (length_buffers rest)

-- what an ask allows of an Rx, as a number
abbrev rx_of : Starts → ℕ
rx_of Starts.Never = 0
rx_of Starts.BestEffort = 1
rx_of Starts.Any = 2

abbrev asked_rx : Asks → ℕ
asked_rx no_ask = 3
asked_rx (ask w) = rx_of w.rx
asked_rx listens = 3

module _ (s : State) (qs : List Request) (b : LineBook) (K : LineKept s qs b) where
  -- ---- Of the book alone

  pub book_sound : LineBookSound b
  book_sound =
      let H = K.kept.holds in
      record {
        right = H.right;
        in_time = in_time (standing s) b.book.requests H.requests (limits s.set s.wait);
        to_its_request = H.stray;
        returns_held = H.unheld;
        held_number = omega (arith, length-append b.book.held (waiting_buffers b.waiting), length_buffers b.waiting, H.size);
        different = λ x. omega (arith, count_append x b.book.held (waiting_buffers b.waiting), K.once x);
        in_range = λ x h. K.low x (omega (arith, h, count_append x b.book.held (waiting_buffers b.waiting)));
        one_each = λ t. omega (arith, count_append t (tokens b.book.requests) (waiting_tokens b.waiting), K.one_each t);
        at_most_four = K.four;
        leave_in_order = K.order.rising;
      }

  -- ---- The refusals are the book's

  module _ (pool : List ℕ) (ok : settings_refusal s.set (length pool) ≡ 0) where
    pub arrives_by_book : (q : Request) → (service_of s qs pool (ServiceCall.Arrive q)).refusal ≡ arrive_by_book b q
    unfolding service_fits service_later arrive_by_book
    arrives_by_book q =
        let settings = K.kept.settings in
        let line = K.line in
        let six = token_by_book s b.book K.kept q.token in
        let same_count : s.set.count ≡ b.book.set.count = ap (λ (t : Settings). t.count) settings in
        let seven : (buffer_held s q.buffer || any_passes (has_buffer q.buffer) qs) ≡ has_number q.buffer (held_in b) =
        ap (λ (l : List Request). buffer_held s q.buffer || any_passes (has_buffer q.buffer) l) line
        ∙ ap (λ (t : Bool). buffer_held s q.buffer || t) (buffer_waits q.buffer b.waiting)
        ∙ ap (λ (t : Bool). t || has_number q.buffer (waiting_buffers b.waiting)) (buffer_by_book s b.book K.kept q.buffer)
        ∙ sym (has_append q.buffer b.book.held (waiting_buffers b.waiting)) in
        let eight = length_same s.set b.book.set q.task (ap (λ (t : Settings). t.fcs_length) settings) in
        let twelve : length qs ≡ length b.waiting = ap length line ∙ length_is b.waiting in
        let thirteen : any_passes (has_token q.token) qs ≡ has_number q.token (waiting_tokens b.waiting) =
        ap (any_passes (has_token q.token)) line ∙ token_waits q.token b.waiting in
        service_refusal_lem s qs pool ok (ServiceCall.Arrive q) ∙ simp (six, same_count, seven, eight, twelve, thirteen)

    -- the Tx that OutboundSeen named is the earliest of the line
    named_by_book : (token : ℕ) → is_named s qs token ≡ named_has token b.named
    unfolding is_named is_token
    named_by_book token = ap (λ (t : Bool). t && is_token token (earliest_of is_tx qs)) (sym K.outbound) ∙ go b.outbound K.named
      where
        go : (x : Bool) → NamedFits x b.named b.waiting → (x && is_token token (earliest_of is_tx qs)) ≡ named_has token b.named
        go true N = at (search_in is_tx b.waiting)
          where
            at : Search is_tx b.waiting → is_token token (earliest_of is_tx qs) ≡ named_has token b.named
            at (none n) = absurd (let z : ◌≡◌ {A = ℕ} 0 1 = ap (λ (l : List Arrival). length l) (sym n.earliest ∙ N.1.1) in omega arith)
            at (found_one x O) =
                ap (is_token token) (ap (earliest_of is_tx) K.line ∙ O.found)
                ∙ ap (named_has token) (sym O.earliest ∙ N.1.1 ∙ sym N.1.0)
        go false N = ap (named_has token) (sym N)

    pub withdraws_by_book : (token : ℕ) → (service_of s qs pool (ServiceCall.Withdraw token)).refusal ≡ withdraw_by_book b token
    unfolding service_fits service_later withdraw_by_book
    withdraws_by_book token =
        let waits : any_passes (has_token token) qs ≡ has_number token (waiting_tokens b.waiting) =
        ap (any_passes (has_token token)) K.line ∙ token_waits token b.waiting in
        service_refusal_lem s qs pool ok (ServiceCall.Withdraw token) ∙ simp (waits, named_by_book token)

    requests_by_book : (w : Wait) → b.asks ≡ asks_of w → cond (not (is_asking w)) 5 (cond (allowed_waits qs w) 0 9) ≡ request_by_book b b.asks
    unfolding is_asking allowed_waits request_by_book
    requests_by_book (Wait.Asking a) e = at (search_in (allows (allowed_of a)) b.waiting) ∙ ap (request_by_book b) (sym e)
      where
        leaves : leaving b ≡ earliest_in (allows (allowed_of a)) b.waiting
        leaves = ap (λ (y : Asks). earliest_in (allowed_by y) b.waiting) e

        in_line : any_passes (allows (allowed_of a)) qs ≡ any_passes (allows (allowed_of a)) (requests_in b.waiting)
        in_line = ap (any_passes (allows (allowed_of a))) K.line

        at : Search (allows (allowed_of a)) b.waiting → cond (any_passes (allows (allowed_of a)) qs) 0 9 ≡ taken_or 9 (leaving b)
        at (none n) = ap (λ (t : Bool). cond t 0 9) (in_line ∙ n.any) ∙ sym (ap (taken_or 9) (leaves ∙ n.earliest))
        at (found_one x O) = ap (λ (t : Bool). cond t 0 9) (in_line ∙ O.any) ∙ sym (ap (taken_or 9) (leaves ∙ O.earliest))
    requests_by_book (Wait.Entering x) e = ap (request_by_book b) (sym e)
    requests_by_book (Wait.Listening q) e = ap (request_by_book b) (sym e)
    requests_by_book (Wait.Stopping p) e = ap (request_by_book b) (sym e)
    requests_by_book (Wait.Reading q) e = ap (request_by_book b) (sym e)

    pub request_is_by_book : (service_of s qs pool ServiceCall.Request).refusal ≡ request_by_book b b.asks
    unfolding service_fits service_later
    request_is_by_book = service_refusal_lem s qs pool ok ServiceCall.Request ∙ requests_by_book s.wait K.asks

    -- an ask at which None fits if nothing leaves
    none_asked_lem : (a : Asked) → b.asks ≡ ask (allowed_of a) → cond (not (not (any_passes (allows (allowed_of a)) qs))) 5 0 ≡ none_asked (leaving b) Starts.BestEffort
    none_asked_lem a e = at (search_in (allows (allowed_of a)) b.waiting)
      where
        leaves : leaving b ≡ earliest_in (allows (allowed_of a)) b.waiting
        leaves = ap (λ (y : Asks). earliest_in (allowed_by y) b.waiting) e

        in_line : any_passes (allows (allowed_of a)) qs ≡ any_passes (allows (allowed_of a)) (requests_in b.waiting)
        in_line = ap (any_passes (allows (allowed_of a))) K.line

        at : Search (allows (allowed_of a)) b.waiting → cond (not (not (any_passes (allows (allowed_of a)) qs))) 5 0 ≡ none_asked (leaving b) Starts.BestEffort
        at (none n) = rw (in_line ∙ n.any, leaves ∙ n.earliest) refl
        at (found_one x O) = rw (in_line ∙ O.any, leaves ∙ O.earliest) refl

    -- None fits where the book says so
    none_is : (w : Wait) → b.asks ≡ asks_of w → cond (not (fits Call.None w && not (allowed_waits qs w))) 5 0 ≡ none_by_book b b.asks
    unfolding fits none_fits allowed_waits allowed_of none_by_book
    none_is (Wait.Asking Asked.Idle) e = ap (none_by_book b) (sym e)
    none_is (Wait.Asking (Asked.AfterWindow q)) e = ap (none_by_book b) (sym e)
    none_is (Wait.Asking (Asked.AfterAckWindow q t)) e = none_asked_lem (Asked.AfterAckWindow q t) e ∙ ap (none_by_book b) (sym e)
    none_is (Wait.Asking (Asked.Receiving q i)) e = none_asked_lem (Asked.Receiving q i) e ∙ ap (none_by_book b) (sym e)
    none_is (Wait.Asking (Asked.Sending q)) e = none_asked_lem (Asked.Sending q) e ∙ ap (none_by_book b) (sym e)
    none_is (Wait.Asking (Asked.SendingAck i)) e = none_asked_lem (Asked.SendingAck i) e ∙ ap (none_by_book b) (sym e)
    none_is (Wait.Asking (Asked.ReceivingAck a)) e = none_asked_lem (Asked.ReceivingAck a) e ∙ ap (none_by_book b) (sym e)
    none_is (Wait.Entering x) e = ap (none_by_book b) (sym e)
    none_is (Wait.Listening q) e = ap (none_by_book b) (sym e)
    none_is (Wait.Stopping p) e = ap (none_by_book b) (sym e)
    none_is (Wait.Reading q) e = ap (none_by_book b) (sym e)

    pub none_is_by_book : (service_of s qs pool ServiceCall.None).refusal ≡ none_by_book b b.asks
    unfolding service_fits service_later
    none_is_by_book = service_refusal_lem s qs pool ok ServiceCall.None ∙ none_is s.wait K.asks

    -- OutboundSeen fits where the book says so
    seen_is : (start : Timestamp) (cca : Bool) (w : Wait) → b.asks ≡ asks_of w
        → cond (not (fits (Call.OutboundSeen start cca) w && names_tx start cca (earliest_of is_tx qs))) 5 0 ≡ outbound_by_book b start cca b.asks
    unfolding fits outbound_by_book names_tx
    seen_is start cca (Wait.Asking a) e = ap (outbound_by_book b start cca) (sym e)
    seen_is start cca (Wait.Entering x) e = ap (outbound_by_book b start cca) (sym e)
    seen_is start cca (Wait.Listening q) e = go (search_in is_tx b.waiting) ∙ ap (outbound_by_book b start cca) (sym e)
      where
        swapped : (t : Bool) → ◌≡◌ {A = ℕ} (cond (not t) 5 0) (cond t 0 5)
        swapped true = refl
        swapped false = refl

        in_line : earliest_of is_tx qs ≡ earliest_of is_tx (requests_in b.waiting)
        in_line = ap (earliest_of is_tx) K.line

        go : Search is_tx b.waiting
            → ◌≡◌ {A = ℕ} (cond (not (names_tx start cca (earliest_of is_tx qs))) 5 0) (cond (named_by start cca (earliest_in is_tx b.waiting)) 0 5)
        go (none n) = rw (in_line ∙ n.found, n.earliest) refl
        go (found_one x O) = rw (in_line ∙ O.found, O.earliest) (swapped (same_start_of x.request.start start && same_flag_of cca x.request.task))
    seen_is start cca (Wait.Stopping p) e = ap (outbound_by_book b start cca) (sym e)
    seen_is start cca (Wait.Reading q) e = ap (outbound_by_book b start cca) (sym e)

    pub seen_is_by_book : (start : Timestamp) (cca : Bool)
        → (service_of s qs pool (ServiceCall.OutboundSeen start cca)).refusal ≡ outbound_by_book b start cca b.asks
    unfolding service_fits service_later
    seen_is_by_book start cca = service_refusal_lem s qs pool ok (ServiceCall.OutboundSeen start cca) ∙ seen_is start cca s.wait K.asks

  -- ---- The ask after the window of the Tx that OutboundSeen named

  -- no other wait asks for a Tx alone
  asks_outbound : (w : Wait) → asks_of w ≡ ask (allow Starts.Any Starts.Never) → outbound_open w ≡ true
  unfolding allowed_of
  asks_outbound (Wait.Asking Asked.Idle) e = absurd (let z : ◌≡◌ {A = ℕ} 2 0 = ap asked_rx e in omega arith)
  asks_outbound (Wait.Asking (Asked.AfterWindow q)) e = refl
  asks_outbound (Wait.Asking (Asked.AfterAckWindow q t)) e = absurd (let z : ◌≡◌ {A = ℕ} 1 0 = ap asked_rx e in omega arith)
  asks_outbound (Wait.Asking (Asked.Receiving q i)) e = absurd (let z : ◌≡◌ {A = ℕ} 1 0 = ap asked_rx e in omega arith)
  asks_outbound (Wait.Asking (Asked.Sending q)) e = absurd (let z : ◌≡◌ {A = ℕ} 1 0 = ap asked_rx e in omega arith)
  asks_outbound (Wait.Asking (Asked.SendingAck i)) e = absurd (let z : ◌≡◌ {A = ℕ} 1 0 = ap asked_rx e in omega arith)
  asks_outbound (Wait.Asking (Asked.ReceivingAck a)) e = absurd (let z : ◌≡◌ {A = ℕ} 1 0 = ap asked_rx e in omega arith)
  asks_outbound (Wait.Entering x) e = absurd (let z : ◌≡◌ {A = ℕ} 3 0 = ap asked_rx e in omega arith)
  asks_outbound (Wait.Listening q) e = absurd (let z : ◌≡◌ {A = ℕ} 3 0 = ap asked_rx e in omega arith)
  asks_outbound (Wait.Stopping p) e = absurd (let z : ◌≡◌ {A = ℕ} 3 0 = ap asked_rx e in omega arith)
  asks_outbound (Wait.Reading q) e = absurd (let z : ◌≡◌ {A = ℕ} 3 0 = ap asked_rx e in omega arith)

  open_named : (t : Bool) → t ≡ true → NamedFits t b.named b.waiting → NamedFits true b.named b.waiting
  open_named t e N = rw e at N

  pub named_is_earliest : outbound_open s.wait ≡ true → NamedFits true b.named b.waiting
  named_is_earliest o = open_named b.outbound (K.outbound ∙ o) K.named

  pub named_leave : b.asks ≡ ask (allow Starts.Any Starts.Never) → (a : Arrival) × ((b.named ≡ a ∷ []) × (leaving b ≡ a ∷ []))
  named_leave e =
      let N = named_is_earliest (asks_outbound s.wait (sym K.asks ∙ e)) in
      (N.0, (N.1.0, ap (λ (y : Asks). earliest_in (allowed_by y) b.waiting) e ∙ N.1.1))

  -- ---- What a Request would take is what the radio is told to do

  nothing_leaves : (waiting : List Arrival) → earliest_in (λ q. false) waiting ≡ []
  nothing_leaves [] = refl
  nothing_leaves (x ∷ waiting) = nothing_leaves waiting

  one_there : {A : Type 0} (a : Arrival) → [] ≡ a ∷ [] → A
  one_there a e = absurd (let z : ◌≡◌ {A = ℕ} 0 1 = ap (λ (l : List Arrival). length l) e in omega arith)

  request_told : (a : Arrival) → leaving b ≡ a ∷ [] → (w : Wait) → s.wait ≡ w → heard s qs ServiceCall.Request ≡ Call.Request a.request ∷ []
  request_told a l (Wait.Asking x) w = go (search_in (allows (allowed_of x)) b.waiting)
    where
      leaves : earliest_in (allows (allowed_of x)) b.waiting ≡ a ∷ []
      leaves = ap (λ (y : Asks). earliest_in (allowed_by y) b.waiting) (sym (K.asks ∙ ap asks_of w)) ∙ l

      go : Search (allows (allowed_of x)) b.waiting → request_heard qs s.wait ≡ Call.Request a.request ∷ []
      go (none n) = one_there a (sym n.earliest ∙ leaves)
      go (found_one y O) =
          ap (request_heard qs) w
          ∙ ap request_found (ap (earliest_of (allows (allowed_of x))) K.line ∙ O.found)
          ∙ ap calls (sym O.earliest ∙ leaves)
        where
          calls : List Arrival → List Call
          calls [] = []
          calls (z ∷ rest) = Call.Request z.request ∷ []
  request_told a l (Wait.Entering e) w = one_there a (sym (nothing_leaves b.waiting) ∙ ap (λ (y : Asks). earliest_in (allowed_by y) b.waiting) (sym (K.asks ∙ ap asks_of w)) ∙ l)
  request_told a l (Wait.Listening q) w = one_there a (sym (nothing_leaves b.waiting) ∙ ap (λ (y : Asks). earliest_in (allowed_by y) b.waiting) (sym (K.asks ∙ ap asks_of w)) ∙ l)
  request_told a l (Wait.Stopping p) w = one_there a (sym (nothing_leaves b.waiting) ∙ ap (λ (y : Asks). earliest_in (allowed_by y) b.waiting) (sym (K.asks ∙ ap asks_of w)) ∙ l)
  request_told a l (Wait.Reading q) w = one_there a (sym (nothing_leaves b.waiting) ∙ ap (λ (y : Asks). earliest_in (allowed_by y) b.waiting) (sym (K.asks ∙ ap asks_of w)) ∙ l)

  asked_one : (a : Arrival) → leaving b ≡ a ∷ [] → (y : Asks) → b.asks ≡ y → request_by_book b y ≡ 0
  unfolding request_by_book
  asked_one a l no_ask e = one_there a (sym (nothing_leaves b.waiting) ∙ ap (λ (y : Asks). earliest_in (allowed_by y) b.waiting) (sym e) ∙ l)
  asked_one a l (ask w) e = ap (taken_or 9) l
  asked_one a l listens e = one_there a (sym (nothing_leaves b.waiting) ∙ ap (λ (y : Asks). earliest_in (allowed_by y) b.waiting) (sym e) ∙ l)

  pub request_does : (pool : List ℕ) (a : Arrival) → settings_refusal s.set (length pool) ≡ 0 → leaving b ≡ a ∷ []
      → TaskDone a.request a.request.task (service_of s qs pool ServiceCall.Request).reply.action
  unfolding EveryCallHeard
  request_does pool a ok l =
      (((every_call_heard s qs pool ServiceCall.Request).told (Call.Request a.request) (request_told a l s.wait refl)
      ).acts (request_is_by_book pool ok ∙ asked_one a l b.asks refl)).request

  -- ---- Start's settings pass with a pool exactly if the state's do

  pub settings_pass : (n : ℕ) → settings_refusal b.book.set n ≡ 0 → settings_refusal s.set n ≡ 0
  settings_pass n h =
      let F : Fit b.book.set n = (zero_if_fit b.book.set n).0 h in
      let e = K.kept.settings in
      let H = K.kept.holds in
      let spare : ℕ = s.set.spare_buffer in
      let ack : s.set.ack_buffer ≡ b.book.set.ack_buffer = ap (λ (t : Settings). t.ack_buffer) e in
      let there : 1 ≤ count spare b.book.held + count spare (waiting_buffers b.waiting) =
      omega (arith, H.same spare, count_own s.set (buffers (standing s)) spare, one_self spare) in
      let G : Fit (with_spare b.book.set spare) n =
      record {
        low = F.low;
        high = F.high;
        pool_length = F.pool_length;
        headroom = F.headroom;
        tailroom = F.tailroom;
        fcs = F.fcs;
        ack = F.ack;
        spare = K.low spare there;
        different = λ same. twice (ack ∙ same);
      } in
      ap (λ (t : Settings). settings_refusal t n) e ∙ (zero_if_fit (with_spare b.book.set spare) n).1 G
    where
      twice : s.set.ack_buffer ≡ s.set.spare_buffer → ⊥
      twice same =
          let x : ℕ = s.set.ack_buffer in
          let again : one x s.set.spare_buffer ≡ 1 = ap (one x) (sym same) ∙ one_self x in
          omega (arith, K.once x, K.kept.holds.same x, one_self x, again)

  -- ---- The next reply: the spacing of its action and the order of its answers

  spaced_any : (r : Radio) (p q : Request) (action : Action) → Spaced r (Call.Request p) action → Spaced r (Call.Request q) action
  spaced_any r p q Action.Nothing h = h
  spaced_any r p q Action.ReceiveRequest h = h
  spaced_any r p q (Action.TryReceiveRequest d) h = h
  spaced_any r p q Action.Listen h = h
  spaced_any r p q (Action.Stop how) h = h
  spaced_any r p q Action.ReadHeader h = h
  spaced_any r p q (Action.Tx x n cca start ifs rollback) h = h
  spaced_any r p q (Action.Rx x start ifs rollback) h = h
  spaced_any r p q (Action.Off rollback) h = h

  -- the request that leaves is fresh
  taken_one : (a : Asked) (q : Request) → s.wait ≡ Wait.Asking a → earliest_of (allows (allowed_of a)) qs ≡ Some q
      → Fresh s (Call.Request q)
  taken_one a q w f = go (search_in (allows (allowed_of a)) b.waiting)
    where
      in_line : earliest_of (allows (allowed_of a)) (requests_in b.waiting) ≡ Some q
      in_line = ap (earliest_of (allows (allowed_of a))) (sym K.line) ∙ f

      found : Option Request → Request
      found None = q
      found (Some p) = p

      is_found : Option Request → ℕ
      is_found None = 0
      is_found (Some p) = 1

      go : Search (allows (allowed_of a)) b.waiting → Fresh s (Call.Request q)
      go (none n) = absurd (let z : ◌≡◌ {A = ℕ} 0 1 = ap is_found (sym n.found ∙ in_line) in omega arith)
      go (found_one x O) =
          let same : x.request ≡ q = ap found (sym O.found ∙ in_line) in
          rw (sym same) (fresh_taken s qs b a x K O)

  module _ (pool : List ℕ) where
    -- what an accepted call has in its reply, q being any request
    abbrev Replies : Request → ServiceCall → Served → Type 0
    Replies q c r = r.refusal ≡ 0 → Spaced b.book.radio (wait_call q c) r.reply.action × EarlierFirst b.book.requests r.reply.answers

    line_replies : (q : Request) (c : ServiceCall) (line : List Request) → OnLine s qs pool c line → Replies q c (line_now s qs pool line)
    line_replies q c line (arrives p z) ok = (tt, tt)
    line_replies q c line (withdraws token z) ok = (tt, tt)

    case_replies : (q : Request) (c : ServiceCall) (r : Served) → Case s qs pool c r → Replies q c r
    unfolding take_of
    case_replies q c r (refused x k e) z = (tt, tt)
    case_replies q c r (on_line x line L) z = line_replies q x line L z
    case_replies q c r (given x d e g L) z =
        rw (g q) (next_spaced s b.book K.kept pool d z, next_in_order s b.book K.kept pool d z)
    case_replies q c r (taken a p w f) z =
        let m : Move = taken_of s.set pool a p in
        let legal : Legal s pool (Call.Request p) m = legal_taken s pool a p w in
        let ok : m.refusal ≡ 0 = taken_zero s.set pool a p in (
          spaced_any b.book.radio p q m.reply.action (legal_spaced s b.book K.kept pool (Call.Request p) m ok legal),
          legal_in_order s b.book K.kept pool (Call.Request p) m ok legal,
        )

    pub service_replies : (q : Request) (c : ServiceCall) → Replies q c (service_of s qs pool c)
    service_replies q c = case_replies q c (service_of s qs pool c) (service_case s qs pool c)

    -- ---- When a received frame is acknowledged

    abbrev Turns : ServiceCall → Served → Type 0
    Turns c r = (d : Call) → heard s qs c ≡ d ∷ [] → AckTurns s pool d (outcome_in r) r.pool

    line_turns : (c : ServiceCall) (line : List Request) → OnLine s qs pool c line → Turns c (line_now s qs pool line)
    line_turns c line (arrives q z) d h = absurd (one_not_none d (sym h))
    line_turns c line (withdraws token z) d h = absurd (one_not_none d (sym h))

    case_turns : (c : ServiceCall) (r : Served) → Case s qs pool c r → Turns c r
    unfolding take_of taken_of written_by EveryAckTurnIsDue
    case_turns c r (refused x k e) d h = refused_turns s pool d k (eqb-false k 0 e)
    case_turns c r (on_line x line L) d h = line_turns x line L d h
    case_turns c r (given x e same g L) d h = rw (sym (head_is e d (sym same ∙ h))) (every_ack_turn_is_due s pool e)
    case_turns c r (taken a q w f) d h =
        rw (sym (taken_told s qs pool a q d w f h)) (taken_turns s pool a q (taken_one a q w f q refl).0)

    pub service_turns : (c : ServiceCall) → Turns c (service_of s qs pool c)
    service_turns c = case_turns c (service_of s qs pool c) (service_case s qs pool c)
