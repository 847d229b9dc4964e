-- What an accepted call does to the book, and what the invariant says of it.
-- Assumes nothing.
use Rattle.std.proofs.Common.{Option, Some, None, ℕ}
use Prim.Native.Nat.{ℕ, suc, ◌+◌, ◌<◌, ◌≤◌}
use mathlib.Core.Path.{◌≡◌, refl, sym, ◌∙◌, ap}
use mathlib.Core.Bool.{Bool, true, false, ◌||◌, or_assoc, or-false}
use mathlib.Core.List.{List, [], ◌∷◌, ◌++◌}
use lib.Dec.{eqb}
use lib.ListN.{length}
use native.Mathlib.Omega.{arith}
use borrow.Author.Tests.{eq-eqb}
use Rattle.radio_frame.specs.declared.Settings.{Settings}
use Rattle.radio_frame.specs.RadioFrame.{frame_start}
use Rattle.tasks.specs.declared.Action.{Action}
use Rattle.tasks.specs.declared.Answers.{Answers}
use Rattle.tasks.specs.declared.Asked.{Asked}
use Rattle.tasks.specs.declared.Call.{Call}
use Rattle.tasks.specs.declared.Left.{Left}
use Rattle.tasks.specs.declared.Next.{Next}
use Rattle.tasks.specs.declared.Request.{Request}
use Rattle.tasks.specs.declared.State.{State}
use Rattle.tasks.specs.declared.Stop.{Stop}
use Rattle.tasks.specs.declared.Task.{Task}
use Rattle.tasks.specs.declared.Transition.{Transition}
use Rattle.tasks.specs.declared.Wait.{Wait}
use Rattle.tasks.specs.declared.Slot.{Slot}
use Rattle.tasks.specs.Pending.{left_slot, next_slot, asked_slot, stop_slot, transition_slots, pending_of}
use Rattle.requests.specs.Requests.{slot_has_token, slot_has_buffer, token_held, buffer_held}
use Rattle.moves.specs.Move.{Move}
use Rattle.asking.specs.Asking.{next_of}
use Rattle.entered.specs.Entered.{with_spare}
use Rattle.engine.specs.Book.{requested, is_number, Entry, Radio, Book, entry_of, older, enter, has_token, has_number, take_answers, tell, radio_after, book_step}
use Rattle.engine.specs.Agreement.{Standing, tx_standing, rx_standing, left_standing, next_standing, asked_standing, stop_standing, transition_standing, wait_standing, standing, AgreesOne, Agrees}
use Rattle.engine.specs.BookClaims.{tokens, count, calls_allowed, InTime}
use Rattle.engine.specs.Lists.{EarlierFirst}
use Rattle.engine.proofs.Count.{none_there, still_once}
use Rattle.engine.proofs.Standing.{numbers, token, buffer, buffers, own, raised, older_agrees, append_agrees, all_informed, Looser, looser_agrees, Holds, told_holds, PaysOne, pay_one, numbers_informed}
use Rattle.engine.proofs.Radio.{RadioFits}

-- the book b says what the state s holds and owes, and what its radio does; but for the spare buffer the settings are start's
pub record Kept (s : State) (b : Book) : Type 0 where
  pub holds : Holds (own s.set) (standing s) b
  pub settings : s.set ≡ with_spare b.set s.set.spare_buffer
  pub radio : RadioFits s.set s.wait b.radio

abbrev pub After : Book → List ℕ → Call → Move → Type 0
After b pool c m = Kept m.state (book_step b pool c m.refusal m.reply)

-- ---- A call that enters no request
abbrev pub aged : Book → Book
aged b =
    record {
      requests = older b.requests;
      held = b.held;
      settled = b.settled;
      radio = b.radio;
      set = b.set;
      stray = b.stray;
      unheld = b.unheld;
    }

numbers_raised : (pick : ℕ → ℕ → ℕ) (os : List Standing) → numbers pick (raised os) ≡ numbers pick os
numbers_raised pick [] = refl
numbers_raised pick (o ∷ os) = ap (λ (l : List ℕ). pick o.token o.buffer ∷ l) (numbers_raised pick os)

length_older : (es : List Entry) → length (older es) ≡ length es
length_older [] = refl
length_older (e ∷ es) = ap suc (length_older es)

aged_keeps : (k : List ℕ) (os : List Standing) (b : Book) → Holds k os b → Holds k (raised os) (aged b)
aged_keeps k os b H =
    record {
      requests = older_agrees os b.requests H.requests;
      same = λ x. H.same x ∙ ap (λ (l : List ℕ). count x k + count x l) (sym (numbers_raised buffer os));
      once = H.once;
      one_each = λ t. rw (numbers_raised token os) (H.one_each t);
      size = rw (length_older b.requests) H.size;
      stray = H.stray;
      unheld = H.unheld;
      right = H.right;
    }

-- ---- The answers are those owed first
abbrev pub Pays : ℕ → List ℕ → Call → Answers → List Standing → List Standing → Type 0
Pays head pool c Answers.None os rest = os ≡ rest
Pays head pool c (Answers.One a) [] rest = ⊥
Pays head pool c (Answers.One a) (o ∷ os) rest = PaysOne head pool c a o × (os ≡ rest)
Pays head pool c (Answers.Two a b) [] rest = ⊥
Pays head pool c (Answers.Two a b) (o ∷ []) rest = ⊥
Pays head pool c (Answers.Two a b) (o ∷ p ∷ os) rest = PaysOne head pool c a o × (PaysOne head pool c b p × (os ≡ rest))

pays_keeps : (head : ℕ) (pool : List ℕ) (c : Call) (x : Answers) (k : List ℕ) (os rest : List Standing) (b : Book)
    → b.set.headroom ≡ head → Pays head pool c x os rest → Holds k os b → Holds k rest (take_answers pool c x b)
pays_keeps head pool c Answers.None k os rest b h P H = rw P at H
pays_keeps head pool c (Answers.One a) k [] rest b h P H = absurd P
pays_keeps head pool c (Answers.One a) k (o ∷ os) rest b h P H =
    rw P.1 at (pay_one head pool c a k o os b.requests b refl h H P.0)
pays_keeps head pool c (Answers.Two a d) k [] rest b h P H = absurd P
pays_keeps head pool c (Answers.Two a d) k (o ∷ []) rest b h P H = absurd P
pays_keeps head pool c (Answers.Two a d) k (o ∷ p ∷ os) rest b h P H =
    let first = pay_one head pool c a k o (p ∷ os) b.requests b refl h H P.0 in
    rw P.1.1 at (pay_one head pool c d k p os _ _ refl h first P.1.0)

set_kept : (pool : List ℕ) (c : Call) (x : Answers) (b : Book) → ((take_answers pool c x b).set ≡ b.set) × ((take_answers pool c x b).radio ≡ b.radio)
set_kept pool c Answers.None b = (refl, refl)
set_kept pool c (Answers.One a) b = (refl, refl)
set_kept pool c (Answers.Two a d) b = (refl, refl)

looser_tokens : (os os' : List Standing) → Looser os os' → numbers token os ≡ numbers token os'
looser_tokens [] [] L = refl
looser_tokens [] (o ∷ os) L = absurd L
looser_tokens (o ∷ os) [] L = absurd L
looser_tokens (o ∷ os) (o' ∷ os') L = rw (L.0.token, looser_tokens os os' L.1)

-- the rest is what the next wait owes
settles : (k k' : List ℕ) (rest os' : List Standing) (b : Book) → Holds k rest b → Looser rest os'
    → ((x : ℕ) → count x k + count x (buffers rest) ≡ count x k' + count x (buffers os')) → Holds k' os' b
settles k k' rest os' b H L same =
    record {
      requests = looser_agrees rest os' b.requests L H.requests;
      same = λ x. H.same x ∙ same x;
      once = H.once;
      one_each = λ t. rw (looser_tokens rest os' L) at (H.one_each t);
      size = H.size;
      stray = H.stray;
      unheld = H.unheld;
      right = H.right;
    }

abbrev pub state_at : Settings → Wait → State
state_at set w = record { set = set; wait = w }

-- what the action means for the radio
abbrev pub RadioMoves : State → Call → Action → Settings → Wait → Type 0
RadioMoves s c action set' w' =
    (r : Radio) → RadioFits s.set s.wait r → RadioFits set' w' (radio_after s.set.fcs_length c action r)

-- from the book in which the call is entered, to the one after it
module _ (s : State) (b e : Book) (pool : List ℕ) (c : Call) (action : Action) (set' : Settings) (w' : Wait) (x : Answers) (os rest : List Standing)
    (K : Kept s b) (H : Holds (own s.set) os e) (eset : e.set ≡ b.set) (eradio : e.radio ≡ b.radio)
    (P : Pays s.set.headroom pool c x os rest) (L : Looser (all_informed c action rest) (wait_standing set' w'))
    (same : (y : ℕ) → count y (own s.set) + count y (buffers rest) ≡ count y (own set') + count y (buffers (wait_standing set' w')))
    (spare : set' ≡ with_spare s.set set'.spare_buffer) (R : RadioMoves s c action set' w') where
  head : e.set.headroom ≡ s.set.headroom
  head = ap (λ (t : Settings). t.headroom) eset ∙ sym (ap (λ (t : Settings). t.headroom) K.settings)

  taken : Holds (own s.set) rest (take_answers pool c x e)
  taken = pays_keeps s.set.headroom pool c x (own s.set) os rest e head P H

  final : Book
  final = tell c action (take_answers pool c x e)

  final_set : (take_answers pool c x e).set ≡ b.set
  final_set = (set_kept pool c x e).0 ∙ eset

  final_radio : (take_answers pool c x e).radio ≡ b.radio
  final_radio = (set_kept pool c x e).1 ∙ eradio

  pub reached : Kept (state_at set' w') (tell c action (take_answers pool c x e))
  reached =
      let fcs : s.set.fcs_length ≡ b.set.fcs_length = ap (λ (t : Settings). t.fcs_length) K.settings in
      let moved : RadioFits set' w' (radio_after b.set.fcs_length c action b.radio) = rw fcs at (R b.radio K.radio) in
      record {
        holds =
            settles (own s.set) (own set') (all_informed c action rest) (wait_standing set' w') (tell c action (take_answers pool c x e))
            (told_holds c action (own s.set) rest (take_answers pool c x e) taken) L
            (λ y. ap (λ (l : List ℕ). count y (own s.set) + count y l) (numbers_informed buffer c action rest) ∙ same y);
        settings = spare ∙ ap (λ (t : Settings). with_spare t set'.spare_buffer) (K.settings ∙ ap (λ (t : Settings). with_spare t s.set.spare_buffer) (sym final_set));
        radio = rw (final_set, final_radio) moved;
      }

-- ---- What refusals 6 and 7 look at is what is owed
slot_has : (ℕ → ℕ → ℕ) → Option Slot → ℕ → Bool
slot_has pick None x = false
slot_has pick (Some s) x = eqb (pick s.token s.buffer) x

module _ (set : Settings) (pick : ℕ → ℕ → ℕ) (x : ℕ) where
  next_has : (n : Next) → slot_has pick (next_slot n) x ≡ has_number x (numbers pick (next_standing n))
  unfolding slot_has next_slot
  next_has (Next.Tx q k) = sym (or-false _)
  next_has (Next.Rx q) = sym (or-false _)
  next_has Next.Off = refl

  request_has : (l : Left) (n : Next)
      → (slot_has pick (left_slot l) x || slot_has pick (next_slot n) x) ≡ has_number x (numbers pick (left_standing set l ++ next_standing n))
  unfolding slot_has left_slot
  request_has Left.Off n = next_has n
  request_has (Left.Receiving q) n = ap (λ (t : Bool). eqb (pick q.token q.buffer) x || t) (next_has n)
  request_has (Left.Sending q) n = ap (λ (t : Bool). eqb (pick q.token q.buffer) x || t) (next_has n)
  request_has Left.SendingAck n = next_has n
  request_has (Left.ReceivingAck a) n =
      ap (λ (t : Bool). eqb (pick a.task.token a.task.buffer) x || t) (next_has n)

  transition_has : (e : Transition)
      → (slot_has pick (transition_slots e).first x || slot_has pick (transition_slots e).second x)
      ≡ has_number x (numbers pick (transition_standing set e))
  unfolding slot_has transition_slots
  transition_has (Transition.Request l n) = request_has l n
  transition_has (Transition.Rearm q) = refl
  transition_has (Transition.AckTurn q i) = refl
  transition_has (Transition.AckWait q k) = refl

  asked_has : (a : Asked) → (slot_has pick (asked_slot a) x || false) ≡ has_number x (numbers pick (asked_standing set a))
  unfolding slot_has asked_slot
  asked_has Asked.Idle = refl
  asked_has (Asked.AfterWindow q) = refl
  asked_has (Asked.AfterAckWindow q t) = refl
  asked_has (Asked.Receiving q i) = refl
  asked_has (Asked.Sending q) = refl
  asked_has (Asked.SendingAck i) = refl
  asked_has (Asked.ReceivingAck a) = refl

  stop_has : (p : Stop) → (slot_has pick (stop_slot p) x || false) ≡ has_number x (numbers pick (stop_standing set p))
  unfolding slot_has stop_slot
  stop_has (Stop.Frame q) = refl
  stop_has (Stop.Outbound q) = refl
  stop_has (Stop.Ack a) = refl
  stop_has (Stop.AckAgain a) = refl

  pending_has : (w : Wait)
      → (slot_has pick (pending_of w).first x || slot_has pick (pending_of w).second x) ≡ has_number x (numbers pick (wait_standing set w))
  unfolding slot_has pending_of
  pending_has (Wait.Asking a) = asked_has a
  pending_has (Wait.Entering e) = transition_has e
  pending_has (Wait.Listening q) = refl
  pending_has (Wait.Stopping p) = stop_has p
  pending_has (Wait.Reading q) = refl

slot_token : (h : Option Slot) (x : ℕ) → slot_has_token h x ≡ slot_has token h x
unfolding slot_has_token slot_has
slot_token None x = refl
slot_token (Some s) x = refl

slot_buffer : (h : Option Slot) (x : ℕ) → slot_has_buffer h x ≡ slot_has buffer h x
unfolding slot_has_buffer slot_has
slot_buffer None x = refl
slot_buffer (Some s) x = refl

pub token_has : (set : Settings) (w : Wait) (t : ℕ) → token_held w t ≡ has_number t (numbers token (wait_standing set w))
unfolding token_held
token_has set w t = rw (slot_token (pending_of w).first t, slot_token (pending_of w).second t) (pending_has set token t w)

pub held_has : (s : State) (x : ℕ) → buffer_held s x ≡ has_number x (own s.set ++ buffers (standing s))
unfolding buffer_held
held_has s x =
    rw (slot_buffer (pending_of s.wait).first x, slot_buffer (pending_of s.wait).second x, pending_has s.set buffer x s.wait)
    (or_assoc (eqb s.set.ack_buffer x) (eqb s.set.spare_buffer x) (has_number x (buffers (standing s))))

-- ---- A request that is entered
pub count_own : (set : Settings) (l : List ℕ) (x : ℕ) → count x (own set ++ l) ≡ count x (own set) + count x l
count_own set l x = omega arith

pub count_append : (x : ℕ) (l m : List ℕ) → count x (l ++ m) ≡ count x l + count x m
count_append x [] m = omega arith
count_append x (y ∷ l) m = omega (arith, count_append x l m)

numbers_append : (pick : ℕ → ℕ → ℕ) (os ps : List Standing) → numbers pick (os ++ ps) ≡ numbers pick os ++ numbers pick ps
numbers_append pick [] ps = refl
numbers_append pick (o ∷ os) ps = ap (λ (l : List ℕ). pick o.token o.buffer ∷ l) (numbers_append pick os ps)

length_one_more : (es : List Entry) (e : Entry) → length (es ++ e ∷ []) ≡ suc (length es)
length_one_more [] e = refl
length_one_more (f ∷ es) e = ap suc (length_one_more es e)

-- one more request: a number of it stands once more
counted : (pick : ℕ → ℕ → ℕ) (x : ℕ) (os : List Standing) (o : Standing)
    → count x (numbers pick (raised os ++ o ∷ [])) ≡ count x (numbers pick os) + count x (pick o.token o.buffer ∷ [])
counted pick x os o =
    ap (count x) (numbers_append pick (raised os) (o ∷ []))
    ∙ count_append x (numbers pick (raised os)) (pick o.token o.buffer ∷ [])
    ∙ ap (λ (l : List ℕ). count x l + count x (pick o.token o.buffer ∷ [])) (numbers_raised pick os)

-- a book in which a request with the buffer is entered
abbrev with_entry : Book → Entry → ℕ → Book
with_entry b e x =
    record {
      requests = older b.requests ++ e ∷ [];
      held = x ∷ b.held;
      settled = b.settled;
      radio = b.radio;
      set = b.set;
      stray = b.stray;
      unheld = b.unheld;
    }

one_more : (k : List ℕ) (os : List Standing) (b : Book) (o : Standing) (e : Entry) → Holds k os b → AgreesOne o e
    → count o.buffer b.held ≡ 0 → count o.token (numbers token os) ≡ 0
    → Holds k (raised os ++ o ∷ []) (with_entry b e o.buffer)
one_more k os b o e H F free new =
    record {
      requests = append_agrees (raised os) (older b.requests) o e (older_agrees os b.requests H.requests) F;
      same = λ x. omega (arith, H.same x, counted buffer x os o);
      once = λ x. still_once o.buffer x b.held free (H.once x);
      one_each = λ t. omega (arith, counted token t os o, still_once o.token t (numbers token os) new (H.one_each t));
      size = omega (arith, H.size, length_one_more (older b.requests) e, length_older b.requests);
      stray = H.stray;
      unheld = H.unheld;
      right = H.right;
    }

-- the request that a call enters, before the call is told
abbrev pub new_standing : Next → List Standing
new_standing (Next.Tx q number) = tx_standing q (is_number number) number requested 0 ∷ []
new_standing (Next.Rx q) = rx_standing q ∷ []
new_standing Next.Off = []

enter_task : (set : Settings) (b : Book) (pool : List ℕ) (q : Request) (k : List ℕ) (os : List Standing) (task : Task)
    → Holds k os b → b.set.headroom ≡ set.headroom → count q.buffer b.held ≡ 0 → count q.token (numbers token os) ≡ 0
    → Holds k (raised os ++ new_standing (next_of set pool q task)) (with_entry b (entry_of b.set pool q task) q.buffer)
unfolding next_of frame_start
enter_task set b pool q k os (Task.Tx n c) H head free new =
    one_more k os b _ _ H
    (record {
      token = refl;
      transmit = refl;
      wants = rw head;
      number = λ j h. rw head h;
      progress = λ t. refl;
      age = λ t. omega arith;
    })
    free
    new
enter_task set b pool q k os Task.Rx H head free new =
    one_more k os b _ _ H
    (record {
      token = refl;
      transmit = refl;
      wants = refl;
      number = λ j h. h;
      progress = λ t. refl;
      age = λ t. omega arith;
    })
    free
    new

pub entered_holds : (s : State) (b : Book) (pool : List ℕ) (q : Request) → Kept s b → buffer_held s q.buffer ≡ false
    → token_held s.wait q.token ≡ false
    → Holds (own s.set) (raised (standing s) ++ new_standing (next_of s.set pool q q.task)) (enter pool (Call.Request q) b)
entered_holds s b pool q K free new =
    let H = K.holds in
    let none : count q.buffer b.held ≡ 0 =
    H.same q.buffer
    ∙ sym (count_own s.set (buffers (standing s)) q.buffer)
    ∙ none_there q.buffer (own s.set ++ buffers (standing s)) (sym (held_has s q.buffer) ∙ free)
    in
    let fresh : count q.token (numbers token (standing s)) ≡ 0 =
    none_there q.token (numbers token (standing s)) (sym (token_has s.set s.wait q.token) ∙ new)
    in
    enter_task s.set b pool q _ (standing s) q.task H (sym (ap (λ (t : Settings). t.headroom) K.settings)) none fresh

pub aged_holds : (s : State) (b : Book) → Kept s b → Holds (own s.set) (raised (standing s)) (aged b)
aged_holds s b K = aged_keeps _ _ b K.holds

-- ---- The order of two answers
pub pays_in_order : (head : ℕ) (pool : List ℕ) (c : Call) (x : Answers) (os rest : List Standing) (es : List Entry)
    → Pays head pool c x (raised os) rest → Agrees os es → EarlierFirst es x
pays_in_order head pool c Answers.None os rest es P A = tt
pays_in_order head pool c (Answers.One a) os rest es P A = tt
pays_in_order head pool c (Answers.Two a d) [] rest es P A = absurd P
pays_in_order head pool c (Answers.Two a d) (o ∷ []) rest es P A = absurd P
pays_in_order head pool c (Answers.Two a d) (o ∷ p ∷ os) rest [] P A = absurd A
pays_in_order head pool c (Answers.Two a d) (o ∷ p ∷ os) rest (e ∷ []) P A = absurd A.1
pays_in_order head pool c (Answers.Two a d) (o ∷ p ∷ os) rest (e ∷ f ∷ es) P A =
    let first : eqb e.token a.token ≡ true = eq-eqb _ _ (A.0.token ∙ sym P.0.token) in
    let second : eqb f.token d.token ≡ true = eq-eqb _ _ (A.1.0.token ∙ sym P.1.0.token) in
    simp (first, second)

pub fits_token : (os : List Standing) (es : List Entry) (t : ℕ) → Agrees os es → has_token t es ≡ has_number t (numbers token os)
fits_token [] [] t F = refl
fits_token [] (e ∷ es) t F = absurd F
fits_token (o ∷ os) [] t F = absurd F
fits_token (o ∷ os) (e ∷ es) t F = rw (F.0.token, fits_token os es t F.1)

-- ---- The claims follow from the invariant

-- no limit is above what the third demand allows
abbrev pub Limits : List Standing → Type 0
Limits [] = Unit {0}
Limits (o ∷ os) = (o.transmit ≡ true → o.limit < calls_allowed o.wants) × Limits os

pub in_time : (os : List Standing) (es : List Entry) → Agrees os es → Limits os → InTime es
in_time [] [] F L = tt
in_time [] (e ∷ es) F L = absurd F
in_time (o ∷ os) [] F L = absurd F
in_time (o ∷ os) (e ∷ es) F L = (one_in_time, in_time os es F.1 L.1)
  where
    one_in_time : e.transmit ≡ true → e.age < calls_allowed (is_number e.number)
    one_in_time t =
        let u : o.transmit ≡ true = sym F.0.transmit ∙ t in
        let a : e.age ≤ o.limit = F.0.age u in
        let m : o.limit < calls_allowed o.wants = L.0 u in rw F.0.wants (omega arith)

next_limits : (n : Next) → Limits (next_standing n)
next_limits (Next.Tx q (Some k)) = (λ t. omega arith, tt)
next_limits (Next.Tx q None) = (λ t. omega arith, tt)
next_limits (Next.Rx q) = (λ t. omega arith, tt)
next_limits Next.Off = tt

request_limits : (set : Settings) (l : Left) (n : Next) → Limits (left_standing set l ++ next_standing n)
request_limits set Left.Off n = next_limits n
request_limits set (Left.Receiving q) n = (λ t. omega arith, next_limits n)
request_limits set (Left.Sending q) n = (λ t. omega arith, next_limits n)
request_limits set Left.SendingAck n = next_limits n
request_limits set (Left.ReceivingAck a) n = (λ t. omega arith, next_limits n)

pub limits : (set : Settings) (w : Wait) → Limits (wait_standing set w)
limits set (Wait.Asking Asked.Idle) = tt
limits set (Wait.Asking (Asked.AfterWindow q)) = (λ t. omega arith, tt)
limits set (Wait.Asking (Asked.AfterAckWindow q u)) = (λ t. omega arith, tt)
limits set (Wait.Asking (Asked.Receiving q i)) = (λ t. omega arith, tt)
limits set (Wait.Asking (Asked.Sending q)) = (λ t. omega arith, tt)
limits set (Wait.Asking (Asked.SendingAck i)) = tt
limits set (Wait.Asking (Asked.ReceivingAck a)) = (λ t. omega arith, tt)
limits set (Wait.Entering (Transition.Request l n)) = request_limits set l n
limits set (Wait.Entering (Transition.Rearm q)) = (λ t. omega arith, tt)
limits set (Wait.Entering (Transition.AckTurn q i)) = (λ t. omega arith, tt)
limits set (Wait.Entering (Transition.AckWait q k)) = (λ t. omega arith, tt)
limits set (Wait.Listening q) = (λ t. omega arith, tt)
limits set (Wait.Stopping (Stop.Frame q)) = (λ t. omega arith, tt)
limits set (Wait.Stopping (Stop.Outbound q)) = (λ t. omega arith, tt)
limits set (Wait.Stopping (Stop.Ack a)) = (λ t. omega arith, tt)
limits set (Wait.Stopping (Stop.AckAgain a)) = (λ t. omega arith, tt)
limits set (Wait.Reading q) = (λ t. omega arith, tt)

pub fits_tokens : (os : List Standing) (es : List Entry) → Agrees os es → tokens es ≡ numbers token os
fits_tokens [] [] F = refl
fits_tokens [] (e ∷ es) F = absurd F
fits_tokens (o ∷ os) [] F = absurd F
fits_tokens (o ∷ os) (e ∷ es) F = rw (F.0.token, fits_tokens os es F.1)
