-- Each of the eleven calls keeps what state, line and book say of each other.
-- Assumes nothing.
use Rattle.std.proofs.lemmas.Bool.{or_parts}
use Prim.Native.Nat.{ℕ, suc, ◌+◌, ◌≤◌, ◌<◌}
use mathlib.Core.Path.{◌≡◌, refl, sym, ◌∙◌, ap}
use mathlib.Core.Bool.{Bool, true, false, cond, not, ◌&&◌, ◌||◌}
use mathlib.Core.List.{List, [], ◌∷◌, ◌++◌}
use lib.Dec.{eqb, leb}
use lib.ListN.{length}
use native.Mathlib.Omega.{arith}
use borrow.Author.Tests.{eqb-true, leb-false}
use Rattle.radio_frame.specs.declared.Settings.{Settings}
use Rattle.tasks.specs.declared.Asked.{Asked}
use Rattle.tasks.specs.declared.Call.{Call}
use Rattle.tasks.specs.declared.Request.{Request}
use Rattle.tasks.specs.declared.Reply.{Reply}
use Rattle.tasks.specs.declared.State.{State}
use Rattle.tasks.specs.declared.Task.{Task}
use Rattle.tasks.specs.declared.Wait.{Wait}
use Rattle.requests.specs.Requests.{token_held, buffer_held, tx_length_unfit, arrival_refusal, allowed_of}
use Rattle.moves.specs.Move.{Move}
use Rattle.asking.specs.Asking.{taken_of}
use Rattle.engine.specs.Step.{move_of, step_of}
use Rattle.engine.specs.Refusals.{no_reply}
use Rattle.engine.specs.Asks.{ask, outbound_after}
use Rattle.engine.specs.Actions.{outbound_open}
use Rattle.engine.specs.Book.{Entry, Book, older, entry_of, requests_entered, held_entered, book_step}
use Rattle.engine.specs.BookClaims.{one, count, tokens}
use Rattle.engine.proofs.Count.{none_there, one_self}
use Rattle.engine.proofs.Kept.{state_at, count_append}
use Rattle.engine.proofs.Table.{Legal, passed, step_legal, taken_legal}
use Rattle.engine.proofs.History.{Fresh, legal_keeps}
use Rattle.waiting_line.specs.Line.{allows, has_token, has_buffer, is_tx, any_passes, earliest_of, without_earliest, is_token}
use Rattle.service.specs.LineBook.{Arrival, LineBook, others_in, arrives, withdraws, named_after, told, passes}
use Rattle.service.specs.LineClaims.{waiting_tokens, waiting_buffers}
use Rattle.service.specs.Lists.{requests_in}
use Rattle.service.specs.Service.{arrive_refusal, withdraw_refusal, is_named}
use Rattle.service.proofs.Arrivals.{others_are, one_more_is, length_is, token_waits, buffer_waits, OneIn, Search, none, found_one, search_in, tokens_end, buffers_end, length_end, earliest_end, earliest_others}
use Rattle.service.proofs.Order.{arrival_ordered, leaving_ordered, withdrawal_ordered}
use Rattle.service.proofs.Kept.{held_fewer, tokens_fewer, tokens_older, set_same, Fit, AllFit, NamedFits, LineKept, has_tokens, token_by_book, buffer_by_book, none_has, asked_next}

-- ---- A call that the wait is given, and no request leaves

-- neither a request nor a buffer is entered
pub record EntersNone (c : Call) : Type 0 where
  pub tokens_same : (b : Book) (pool : List ℕ) (t : ℕ) → count t (tokens (requests_entered b.set pool c b.requests)) ≤ count t (tokens b.requests)
  pub held_same : (l : List ℕ) → held_entered c l ≡ l
  pub no_request : (q : Request) → c ≡ Call.Request q → ⊥

pub passes_keeps : (s : State) (qs : List Request) (b : LineBook) (pool : List ℕ) (c : Call) → LineKept s qs b → EntersNone c
    → NamedFits (outbound_after c b.outbound) (named_after c (outbound_after c b.outbound) b) b.waiting
    → (step_of s pool c).refusal ≡ 0 → LineKept (step_of s pool c).state qs (passes pool (step_of s pool c).reply c b)
unfolding step_of
passes_keeps s qs b pool c K E N z =
    let m = move_of s pool c in
    let next = asked_next s pool c m (step_legal s pool c) z in
    let r : Reply = m.reply in
    record {
      kept = rw z at (legal_keeps s b.book pool c K.kept m (λ y q e. absurd (E.no_request q e)) (step_legal s pool c));
      line = K.line;
      asks = sym next.asks;
      outbound = ap (outbound_after c) K.outbound ∙ sym next.outbound;
      named = N;
      once = λ x. let e = E.held_same b.book.held in
          let f : count x (book_step b.book pool c 0 r).held ≤ count x b.book.held = rw e at (held_fewer pool c b.book r x) in
          omega (arith, f, K.once x);
      low = λ x h. let e = E.held_same b.book.held in
          let f : count x (book_step b.book pool c 0 r).held ≤ count x b.book.held = rw e at (held_fewer pool c b.book r x) in
          rw (set_same pool c b.book r) (K.low x (omega (arith, f, h)));
      one_each = λ t. omega (arith, tokens_fewer pool c b.book r t, E.tokens_same b.book pool t, K.one_each t);
      four = K.four;
      order = K.order;
      fit = rw (set_same pool c b.book r) K.fit;
    }

-- ---- A request arrives

-- one more of a number that was not there
one_new : (f : ℕ → ℕ) (y : ℕ) → f y ≡ 0 → (x : ℕ) → f x ≤ 1 → f x + one x y ≤ 1
one_new f y n x h = go (eqb y x) refl
  where
    go : (t : Bool) → eqb y x ≡ t → f x + cond (eqb y x) 1 0 ≤ 1
    go true e = let k : f x ≡ 0 = rw (eqb-true y x e) at n in rw e (omega arith)
    go false e = rw e (omega arith)

all_fit_end : (set : Settings) (rest : List Arrival) (a : Arrival) → AllFit set rest → Fit set a.request → AllFit set (rest ++ a ∷ [])
all_fit_end set [] a A F = (F, tt)
all_fit_end set (x ∷ rest) a A F = (A.0, all_fit_end set rest a A.1 F)

pub length_same : (set set' : Settings) (task : Task) → set.fcs_length ≡ set'.fcs_length → tx_length_unfit set task ≡ tx_length_unfit set' task
unfolding tx_length_unfit
length_same set set' (Task.Tx n c) e = rw e
length_same set set' Task.Rx e = refl

named_end : (x : Bool) (named waiting : List Arrival) (a : Arrival) → NamedFits x named waiting → NamedFits x named (waiting ++ a ∷ [])
named_end true named waiting a N = (N.0, (N.1.0, earliest_end is_tx waiting N.0 a N.1.1))
named_end false named waiting a N = N

-- a number that is there was there, or is the new one
arrived_low : (f : ℕ → ℕ) (y n : ℕ) → ((x : ℕ) → 1 ≤ f x → x < n) → y < n → (x : ℕ) → 1 ≤ f x + one x y → x < n
arrived_low f y n low h x p = go (eqb y x) refl
  where
    go : (t : Bool) → eqb y x ≡ t → x < n
    go true e = rw (eqb-true y x e) at h
    go false e = low x (let z : 1 ≤ f x + 0 = rw e at p in omega arith)

pub arrive_keeps : (s : State) (qs : List Request) (b : LineBook) (pool : List ℕ) (q : Request) → LineKept s qs b → arrive_refusal s qs q ≡ 0
    → LineKept s (qs ++ q ∷ []) (arrives pool no_reply q b)
unfolding arrive_refusal arrival_refusal
arrive_keeps s qs b pool q K z =
    let six = passed (token_held s.wait q.token) 6 _ (omega arith) z in
    let seven = passed (leb s.set.count q.buffer || (buffer_held s q.buffer || any_passes (has_buffer q.buffer) qs)) 7 _ (omega arith) six.1 in
    let range = or_parts (leb s.set.count q.buffer) _ seven.0 in
    let held = or_parts (buffer_held s q.buffer) _ range.1 in
    let eight = passed (tx_length_unfit s.set q.task) 8 _ (omega arith) seven.1 in
    let twelve = passed (leb 4 (length qs)) 12 _ (omega arith) eight.1 in
    let thirteen = passed (any_passes (has_token q.token) qs) 13 0 (omega arith) twelve.1 in
    let a : Arrival = record { place = b.arrivals; request = q } in
    let line = K.line in
    let settings = K.kept.settings in
    let same_count : s.set.count ≡ b.book.set.count = ap (λ (t : Settings). t.count) settings in
    let same_fcs : s.set.fcs_length ≡ b.book.set.fcs_length = ap (λ (t : Settings). t.fcs_length) settings in
    let free : count q.buffer b.book.held ≡ 0 = none_there q.buffer b.book.held (sym (buffer_by_book s b.book K.kept q.buffer) ∙ held.0) in
    let waits_not : count q.buffer (waiting_buffers b.waiting) ≡ 0 =
    none_there q.buffer (waiting_buffers b.waiting) (sym (buffer_waits q.buffer b.waiting) ∙ rw line at held.1) in
    let new : count q.token (tokens b.book.requests) ≡ 0 =
    none_there q.token (tokens b.book.requests) (sym (has_tokens q.token b.book.requests) ∙ sym (token_by_book s b.book K.kept q.token) ∙ six.0) in
    let token_not : count q.token (waiting_tokens b.waiting) ≡ 0 =
    none_there q.token (waiting_tokens b.waiting) (sym (token_waits q.token b.waiting) ∙ rw line at thirteen.0) in
    let in_range : (x : ℕ) → 1 ≤ (count x b.book.held + count x (waiting_buffers b.waiting)) + one x q.buffer → x < b.book.set.count =
    λ x h. arrived_low (λ y. count y b.book.held + count y (waiting_buffers b.waiting)) q.buffer b.book.set.count K.low
    (rw same_count at (leb-false s.set.count q.buffer range.0)) x h in
    let few : length qs < 4 = leb-false 4 (length qs) twelve.0 in
    record {
      kept = K.kept;
      line = rw line (sym (one_more_is b.waiting a));
      asks = K.asks;
      outbound = K.outbound;
      named = named_end b.outbound b.named b.waiting a K.named;
      once = λ x. omega (arith, buffers_end x b.waiting a, one_new (λ y. count y b.book.held + count y (waiting_buffers b.waiting)) q.buffer (omega (arith, free, waits_not)) x (K.once x));
      one_each = λ t. omega (arith, tokens_end t b.waiting a, one_new (λ y. count y (tokens b.book.requests) + count y (waiting_tokens b.waiting)) q.token (omega (arith, new, token_not)) t (K.one_each t));
      low = λ x h. in_range x (omega (arith, h, buffers_end x b.waiting a));
      four = omega (arith, length_end b.waiting a, length_is b.waiting, ap length line, few);
      order = arrival_ordered b.left b.waiting b.arrivals q K.order;
      fit =
          all_fit_end b.book.set b.waiting a K.fit
          (record {
            buffer = rw same_count at (leb-false s.set.count q.buffer range.0);
            length_fits = sym (length_same s.set b.book.set q.task same_fcs) ∙ eight.0;
          });
    }

-- ---- A request is withdrawn

others_tokens : (p : Request → Bool) (rest : List Arrival) (t : ℕ) → count t (waiting_tokens (others_in p rest)) ≤ count t (waiting_tokens rest)
others_tokens p [] t = omega arith
others_tokens p (a ∷ rest) t = go (p a.request) (others_tokens p rest t)
  where
    go : (u : Bool) → count t (waiting_tokens (others_in p rest)) ≤ count t (waiting_tokens rest)
        → count t (waiting_tokens (cond u rest (a ∷ others_in p rest))) ≤ one t a.request.token + count t (waiting_tokens rest)
    go true ih = omega arith
    go false ih = omega arith

others_buffers : (p : Request → Bool) (rest : List Arrival) (x : ℕ) → count x (waiting_buffers (others_in p rest)) ≤ count x (waiting_buffers rest)
others_buffers p [] x = omega arith
others_buffers p (a ∷ rest) x = go (p a.request) (others_buffers p rest x)
  where
    go : (u : Bool) → count x (waiting_buffers (others_in p rest)) ≤ count x (waiting_buffers rest)
        → count x (waiting_buffers (cond u rest (a ∷ others_in p rest))) ≤ one x a.request.buffer + count x (waiting_buffers rest)
    go true ih = omega arith
    go false ih = omega arith

others_length : (p : Request → Bool) (rest : List Arrival) → length (others_in p rest) ≤ length rest
others_length p [] = omega arith
others_length p (a ∷ rest) = go (p a.request) (others_length p rest)
  where
    go : (u : Bool) → length (others_in p rest) ≤ length rest → length (cond u rest (a ∷ others_in p rest)) ≤ suc (length rest)
    go true ih = omega arith
    go false ih = omega arith

others_fit : (set : Settings) (p : Request → Bool) (rest : List Arrival) → AllFit set rest → AllFit set (others_in p rest)
others_fit set p [] A = tt
others_fit set p (a ∷ rest) A = go (p a.request) (others_fit set p rest A.1)
  where
    go : (u : Bool) → AllFit set (others_in p rest) → AllFit set (cond u rest (a ∷ others_in p rest))
    go true ih = A.1
    go false ih = (A.0, ih)

-- the one that was named is another one
named_others : (x : Bool) (token : ℕ) (named waiting : List Arrival) → NamedFits x named waiting
    → (x && is_token token (earliest_of is_tx (requests_in waiting))) ≡ false → NamedFits x named (others_in (has_token token) waiting)
unfolding is_token
named_others true token named waiting N h = go (search_in is_tx waiting)
  where
    go : Search is_tx waiting → NamedFits true named (others_in (has_token token) waiting)
    go (none n) = absurd (let z : ◌≡◌ {A = ℕ} 0 1 = ap (λ (l : List Arrival). length l) (sym n.earliest ∙ N.1.1) in omega arith)
    go (found_one c o) =
        let other : eqb c.request.token token ≡ false = rw o.found at h in
        (c, (N.1.0 ∙ sym N.1.1 ∙ o.earliest, earliest_others is_tx (has_token token) waiting c o.earliest other))
named_others false token named waiting N h = N

pub withdraw_keeps : (s : State) (qs : List Request) (b : LineBook) (pool : List ℕ) (token : ℕ) → LineKept s qs b → withdraw_refusal s qs token ≡ 0
    → LineKept s (without_earliest (has_token token) qs) (withdraws pool no_reply token b)
unfolding withdraw_refusal is_named
withdraw_keeps s qs b pool token K z =
    let thirteen = passed (not (any_passes (has_token token) qs) || (outbound_open s.wait && is_token token (earliest_of is_tx qs))) 13 0 (omega arith) z in
    let other = (or_parts (not (any_passes (has_token token) qs)) _ thirteen.0).1 in
    let line = K.line in
    let not_named : (b.outbound && is_token token (earliest_of is_tx (requests_in b.waiting))) ≡ false = rw K.outbound (rw line at other) in
    record {
      kept = K.kept;
      line = rw line (sym (others_are (has_token token) b.waiting));
      asks = K.asks;
      outbound = K.outbound;
      named = named_others b.outbound token b.named b.waiting K.named not_named;
      once = λ x. omega (arith, others_buffers (has_token token) b.waiting x, K.once x);
      one_each = λ t. omega (arith, others_tokens (has_token token) b.waiting t, K.one_each t);
      low = λ x h. K.low x (omega (arith, h, others_buffers (has_token token) b.waiting x));
      four = omega (arith, others_length (has_token token) b.waiting, K.four);
      order = withdrawal_ordered (has_token token) b.left b.waiting b.arrivals K.order;
      fit = others_fit b.book.set (has_token token) b.waiting K.fit;
    }

-- ---- A request leaves

tokens_append : (es fs : List Entry) → tokens (es ++ fs) ≡ tokens es ++ tokens fs
tokens_append [] fs = refl
tokens_append (e ∷ es) fs = ap (λ (l : List ℕ). e.token ∷ l) (tokens_append es fs)

entry_token : (set : Settings) (pool : List ℕ) (q : Request) (task : Task) → (entry_of set pool q task).token ≡ q.token
entry_token set pool q (Task.Tx n c) = refl
entry_token set pool q Task.Rx = refl

entered_tokens : (b : Book) (pool : List ℕ) (q : Request) (t : ℕ)
    → count t (tokens (requests_entered b.set pool (Call.Request q) b.requests)) ≡ count t (tokens b.requests) + one t q.token
entered_tokens b pool q t =
    let e = entry_of b.set pool q q.task in
    ap (count t) (tokens_append (older b.requests) (e ∷ []))
    ∙ count_append t (tokens (older b.requests)) (e.token ∷ [])
    ∙ rw (tokens_older b.requests, entry_token b.set pool q q.task) (omega arith)

-- what leaves was held by the line alone
pub fresh_taken : (s : State) (qs : List Request) (b : LineBook) (a : Asked) (x : Arrival) → LineKept s qs b → OneIn (allows (allowed_of a)) b.waiting x
    → Fresh s (Call.Request x.request)
fresh_taken s qs b a x K O p e =
    let q : Request = x.request in
    let free : buffer_held s q.buffer ≡ false =
    buffer_by_book s b.book K.kept q.buffer
    ∙ none_has q.buffer b.book.held (omega (arith, K.once q.buffer, O.buffers q.buffer, one_self q.buffer)) in
    let new : token_held s.wait q.token ≡ false =
    token_by_book s b.book K.kept q.token
    ∙ has_tokens q.token b.book.requests
    ∙ none_has q.token (tokens b.book.requests) (omega (arith, K.one_each q.token, O.tokens q.token, one_self q.token)) in
    let same : q ≡ p = ap requested e in
    (sym (ap (λ (r : Request). buffer_held s r.buffer) same) ∙ free, sym (ap (λ (r : Request). token_held s.wait r.token) same) ∙ new)
  where
    requested : Call → Request
    requested (Call.Request r) = r
    requested Call.None = x.request
    requested Call.FrameStart = x.request
    requested (Call.OutboundSeen start cca) = x.request
    requested (Call.Stopped r) = x.request
    requested (Call.Header arrived len) = x.request
    requested (Call.Entered r entry) = x.request
    requested (Call.Fallback r cause) = x.request
    requested Call.Rollback = x.request

-- in the wait that the state is in
pub legal_taken : (s : State) (pool : List ℕ) (a : Asked) (q : Request) → s.wait ≡ Wait.Asking a → Legal s pool (Call.Request q) (taken_of s.set pool a q)
legal_taken s pool a q w = go s.wait w
  where
    go : (v : Wait) → v ≡ Wait.Asking a → Legal (state_at s.set v) pool (Call.Request q) (taken_of s.set pool a q)
    go v e = rw e (taken_legal s.set pool q a)

pub taken_zero : (set : Settings) (pool : List ℕ) (a : Asked) (q : Request) → (taken_of set pool a q).refusal ≡ 0
unfolding taken_of
taken_zero set pool a q = refl

pub takes_keeps : (s : State) (qs : List Request) (b : LineBook) (pool : List ℕ) (a : Asked) (x : Arrival) → s.wait ≡ Wait.Asking a → LineKept s qs b
    → OneIn (allows (allowed_of a)) b.waiting x
    → LineKept (taken_of s.set pool a x.request).state (without_earliest (allows (allowed_of a)) qs)
    (told pool (taken_of s.set pool a x.request).reply (Call.Request x.request) (others_in (allows (allowed_of a)) b.waiting) (b.left ++ x ∷ []) b)
unfolding taken_of
takes_keeps s qs b pool a x w K O =
    let q : Request = x.request in
    let m : Move = taken_of s.set pool a q in
    let r : Reply = m.reply in
    let p : Request → Bool = allows (allowed_of a) in
    let legal : Legal s pool (Call.Request q) m = legal_taken s pool a q w in
    let next = asked_next s pool (Call.Request q) m legal refl in
    record {
      kept = legal_keeps s b.book pool (Call.Request q) K.kept m (λ z. fresh_taken s qs b a x K O) legal;
      line = rw K.line (sym (others_are p b.waiting));
      asks = sym next.asks;
      outbound = sym next.outbound;
      named = refl;
      once = λ y. omega (arith, held_fewer pool (Call.Request q) b.book r y, O.buffers y, K.once y);
      one_each = λ t. omega (arith, tokens_fewer pool (Call.Request q) b.book r t, entered_tokens b.book pool q t, O.tokens t, K.one_each t);
      low = λ y h. rw (set_same pool (Call.Request q) b.book r) (K.low y (omega (arith, h, held_fewer pool (Call.Request q) b.book r y, O.buffers y)));
      four = omega (arith, O.size, K.four);
      order = leaving_ordered (ask (allowed_of a)) b.left b.waiting b.arrivals x O.earliest K.order;
      fit = rw (set_same pool (Call.Request q) b.book r) (others_fit b.book.set p b.waiting K.fit);
    }
