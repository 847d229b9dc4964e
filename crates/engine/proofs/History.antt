-- The whole list: after every list of calls on a state that an accepted start returned, the book is sound.
-- Assumes nothing.
use Rattle.std.proofs.lemmas.Bool.{or_parts}
use Prim.Native.Nat.{ℕ, ◌+◌}
use mathlib.Core.Path.{◌≡◌, refl, sym, ◌∙◌, ap}
use mathlib.Core.Bool.{Bool, true, false, not, ◌||◌}
use mathlib.Core.List.{List, [], ◌∷◌}
use lib.Dec.{eqb, leb}
use lib.ListN.{length}
use native.Mathlib.Omega.{arith}
use borrow.Author.Tests.{eqb-true, eqb-false, ne_eqb}
use Rattle.radio_frame.specs.declared.Settings.{Settings}
use Rattle.radio_frame.specs.Settings.{pool_unfit, rooms_unfit, own_buffers_unfit, settings_refusal}
use Rattle.tasks.specs.declared.Action.{Action}
use Rattle.tasks.specs.declared.Answers.{Answers}
use Rattle.tasks.specs.declared.Asked.{Asked}
use Rattle.tasks.specs.declared.Call.{Call}
use Rattle.tasks.specs.declared.Request.{Request}
use Rattle.tasks.specs.declared.State.{State}
use Rattle.tasks.specs.declared.Wait.{Wait}
use Rattle.tasks.specs.Answers.{answers_of}
use Rattle.requests.specs.Requests.{token_held, buffer_held}
use Rattle.moves.specs.Move.{Move}
use Rattle.moves.specs.Move.{guarded_of}
use Rattle.engine.specs.Step.{move_of, step_of, start_of}
use Rattle.engine.specs.Refusals.{fits, later_refusal, refusal_of, InOrder}
use Rattle.engine.specs.Book.{Book, enter, take_answers, tell, book_step, start_book}
use Rattle.engine.specs.Agreement.{standing}
use Rattle.engine.specs.BookClaims.{count}
use Rattle.engine.specs.Lists.{CallMade, Moment, after_call, after, AlwaysSound}
use Rattle.engine.proofs.Count.{one_le, still_once}
use Rattle.engine.proofs.Standing.{own, raised}
use Rattle.engine.proofs.Kept.{Kept, After, aged, state_at, aged_holds, entered_holds, reached}
use Rattle.engine.proofs.Sound.{sound}
use Rattle.engine.proofs.Table.{Legal, refuse, stay, swap, enters, passed, step_legal}
use Rattle.engine.proofs.Refusals.{in_order}

-- ---- Every call, and every list of them

-- a call that is a Request enters what that Request enters
same_call : (s : State) (b : Book) (pool : List ℕ) (c d : Call) (action : Action) (x : Answers) → c ≡ d
    → Kept s (tell c action (take_answers pool c x (enter pool d b))) → Kept s (tell c action (take_answers pool c x (enter pool c b)))
same_call s b pool c d action x e K = rw (sym e) at K

-- a request that is entered has a token and a buffer that are not held
abbrev pub Fresh : State → Call → Type 0
Fresh s c = (q : Request) → c ≡ Call.Request q → (buffer_held s q.buffer ≡ false) × (token_held s.wait q.token ≡ false)

pub legal_keeps : (s : State) (b : Book) (pool : List ℕ) (c : Call) → Kept s b → (m : Move) → (m.refusal ≡ 0 → Fresh s c) → Legal s pool c m → After b pool c m
unfolding book_step
legal_keeps s b pool c K m F (refuse k e) = rw e K
legal_keeps s b pool c K m F (stay {action} w' x rest R other P L same A) =
    rw (other b) (reached s b (aged b) pool c action s.set w' x (raised (standing s)) rest K (aged_holds s b K) refl refl P L
    (λ y. ap (λ (l : List ℕ). count y (own s.set) + count y l) same) refl A.radio)
legal_keeps s b pool c K m F (swap {action} set' w' x rest R other P L same spare A) =
    rw (other b) (reached s b (aged b) pool c action set' w' x (raised (standing s)) rest K (aged_holds s b K) refl refl P L same spare A.radio)
legal_keeps s b pool c K m F (enters {q} {action} l o rest R P L same A e) =
    same_call _ b pool c (Call.Request q) action (answers_of o) e
    (reached s b (enter pool (Call.Request q) b) pool c action s.set _ (answers_of o) _ rest K (entered_holds s b pool q K (F refl q e).0 (F refl q e).1) refl refl P L
    (λ y. ap (λ (l : List ℕ). count y (own s.set) + count y l) same) refl A.radio)

-- an accepted Request has passed 6 and 7
free : (s : State) (pool : List ℕ) (c : Call) → (step_of s pool c).refusal ≡ 0 → Fresh s c
unfolding InOrder refusal_of later_refusal
free s pool c z q e =
    let h : (step_of s pool (Call.Request q)).refusal ≡ 0 = rw e at z in
    let two = passed (pool_unfit s.set (length pool)) 2 _ (omega arith) (sym (in_order s pool (Call.Request q)) ∙ h) in
    let three = passed (rooms_unfit s.set) 3 _ (omega arith) two.1 in
    let four = passed (own_buffers_unfit s.set) 4 _ (omega arith) three.1 in
    let five = passed (not (fits (Call.Request q) s.wait)) 5 _ (omega arith) four.1 in
    let six = passed (token_held s.wait q.token) 6 _ (omega arith) five.1 in
    let seven = passed (leb s.set.count q.buffer || buffer_held s q.buffer) 7 _ (omega arith) six.1 in
    ((or_parts (leb s.set.count q.buffer) _ seven.0).1, six.0)

pub step_keeps : (s : State) (b : Book) (pool : List ℕ) (c : Call) → Kept s b → After b pool c (move_of s pool c)
unfolding step_of
step_keeps s b pool c K = legal_keeps s b pool c K (move_of s pool c) (free s pool c) (step_legal s pool c)

kept_after : (ts : List CallMade) (m : Moment) → Kept m.state m.book → Kept (after m ts).state (after m ts).book
unfolding after after_call step_of
kept_after [] m K = K
kept_after (t ∷ ts) m K = kept_after ts (after_call m t) (step_keeps m.state m.book t.pool t.call K)

-- ---- Start
pub own_differ : (set : Settings) (n : ℕ) → settings_refusal set n ≡ 0 → eqb set.ack_buffer set.spare_buffer ≡ false
unfolding settings_refusal own_buffers_unfit
own_differ set n h =
    let p = passed (pool_unfit set n) 2 _ (omega arith) h in
    let q = passed (rooms_unfit set) 3 _ (omega arith) p.1 in
    let o = passed (own_buffers_unfit set) 4 _ (omega arith) q.1 in
    (or_parts (eqb set.ack_buffer set.spare_buffer) _ o.0).0

pub started : (set : Settings) → eqb set.ack_buffer set.spare_buffer ≡ false → Kept (state_at set (Wait.Asking Asked.Idle)) (start_book set)
started set differ =
    record {
      holds =
          record {
            requests = tt;
            same = λ x. omega arith;
            once = λ x. still_once set.ack_buffer x (set.spare_buffer ∷ []) (simp other) (omega (arith, one_le x set.spare_buffer));
            one_each = λ t. omega arith;
            size = refl;
            stray = refl;
            unheld = refl;
            right = tt;
          };
      settings = refl;
      radio = refl;
    }
  where
    other : eqb set.spare_buffer set.ack_buffer ≡ false
    other = ne_eqb set.spare_buffer set.ack_buffer (λ e. eqb-false set.ack_buffer set.spare_buffer differ (sym e))

pub accepted_start : (set : Settings) (pool : List ℕ) → (start_of set pool).refusal ≡ 0
    → ((start_of set pool).state ≡ state_at set (Wait.Asking Asked.Idle)) × (settings_refusal set (length pool) ≡ 0)
unfolding start_of guarded_of
accepted_start set pool h = go (eqb (settings_refusal set (length pool)) 0) refl
  where
    go : (t : Bool) → eqb (settings_refusal set (length pool)) 0 ≡ t
        → ((start_of set pool).state ≡ state_at set (Wait.Asking Asked.Idle)) × (settings_refusal set (length pool) ≡ 0)
    go true e = (rw e, eqb-true _ _ e)
    go false e = absurd (eqb-false _ _ e (rw e at h))

-- THE THIRD DEMAND: whatever start is accepted, and whatever calls follow, the book is sound after every one of them
pub history : (set : Settings) (pool : List ℕ) → AlwaysSound set (start_of set pool)
unfolding AlwaysSound
history set pool ok ts =
    let begin = accepted_start set pool ok in
    let K : Kept (start_of set pool).state (start_book set) = rw begin.0 (started set (own_differ set (length pool) begin.1)) in
    sound _ _ (kept_after ts (record { state = (start_of set pool).state; book = start_book set }) K)
