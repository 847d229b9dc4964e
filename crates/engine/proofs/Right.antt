-- Each kind of answer is right, whatever the book says of the request, as long as it agrees with the wait.
-- Assumes nothing.
use Rattle.std.proofs.lemmas.Bool.{true≢false}
use Rattle.std.proofs.Common.{Option, Some, None, ℕ}
use Prim.Native.Nat.{ℕ}
use mathlib.Core.Path.{◌≡◌, refl, sym, ◌∙◌, ap}
use mathlib.Core.Bool.{Bool, true, false}
use mathlib.Core.List.{List}
use mathlib.Core.Logic.{inl, inr}
use native.Mathlib.Omega.{arith}
use Rattle.radio_frame.specs.declared.Settings.{Settings}
use Rattle.radio_frame.specs.RadioFrame.{frame_start}
use Rattle.tasks.specs.declared.Call.{Call}
use Rattle.tasks.specs.declared.Cause.{Cause}
use Rattle.tasks.specs.declared.Response.{Response}
use Rattle.tasks.specs.declared.RxResult.{RxResult}
use Rattle.tasks.specs.declared.TaskResult.{TaskResult}
use Rattle.engine.specs.Book.{no_buffer_of, Progress, requested, accepted, entered, sent, window_ended, frame_started, astray, is_number, Entry, Settled}
use Rattle.engine.specs.Answered.{Tells, is_ack, Heard, AnsweredRight}
use Rattle.engine.specs.Agreement.{Standing, AgreesOne}

-- ---- Cases that differ, and what they hold
abbrev response_case : Response → ℕ
response_case (Response.Sent t) = 0
response_case (Response.Nack t) = 1
response_case (Response.Error cause) = 2
response_case (Response.Received r) = 3

abbrev response_time : Response → ℕ
response_time (Response.Sent t) = t
response_time (Response.Nack t) = t
response_time (Response.Error cause) = 0
response_time (Response.Received r) = 0

abbrev response_cause : Cause → Response → Cause
response_cause other (Response.Sent t) = other
response_cause other (Response.Nack t) = other
response_cause other (Response.Error cause) = cause
response_cause other (Response.Received r) = other

abbrev progress_case : Progress → ℕ
progress_case requested = 5
progress_case accepted = 0
progress_case (entered n) = 1
progress_case (sent t b) = 2
progress_case (window_ended t) = 3
progress_case (frame_started t b) = 4
progress_case astray = 6

abbrev progress_time : Progress → ℕ
progress_time requested = 0
progress_time accepted = 0
progress_time (entered n) = 0
progress_time (sent t b) = t
progress_time (window_ended t) = t
progress_time (frame_started t b) = t
progress_time astray = 0

abbrev progress_buffer : Progress → ℕ
progress_buffer requested = 0
progress_buffer accepted = 0
progress_buffer (entered n) = 0
progress_buffer (sent t b) = b
progress_buffer (window_ended t) = 0
progress_buffer (frame_started t b) = b
progress_buffer astray = 0

abbrev the_number : Option ℕ → ℕ
the_number (Some k) = k
the_number None = 0

abbrev the_result : RxResult → TaskResult → RxResult
the_result other TaskResult.Off = other
the_result other (TaskResult.Sent t) = other
the_result other (TaskResult.Rx r) = r

noted : (n : Option ℕ) → is_number n ≡ true → (k : ℕ) × (n ≡ Some k)
noted (Some k) h = (k, refl)
noted None h = absurd (true≢false (sym h))

-- no number is noted for a request whose frame wants no ACK
not_noted : (n : Option ℕ) (k : ℕ) → is_number n ≡ false → n ≡ Some k → ⊥
not_noted n k h p = true≢false (sym (ap is_number p) ∙ h)

-- one call tells one result
tells_one : (c : Call) (r r' : TaskResult) → Tells c r → Tells c r' → r ≡ r'
tells_one (Call.Request q) r r' p p' = absurd p
tells_one Call.None r r' p p' = absurd p
tells_one Call.FrameStart r r' p p' = absurd p
tells_one (Call.OutboundSeen start cca) r r' p p' = absurd p
tells_one (Call.Stopped x) r r' p p' = absurd p
tells_one (Call.Header arrived len) r r' p p' = absurd p
tells_one (Call.Entered x entry) r r' p p' = sym p ∙ p'
tells_one (Call.Fallback x cause) r r' p p' = sym p ∙ p'
tells_one Call.Rollback r r' p p' = absurd p

-- the headroom alone decides where a frame stands
pub same_ack : (set set' : Settings) (pool : List ℕ) (b k : ℕ) (r : RxResult) → set.headroom ≡ set'.headroom
    → is_ack set pool b k r ≡ is_ack set' pool b k r
unfolding frame_start
same_ack set set' pool b k (RxResult.Frame len t quality) h = rw h
same_ack set set' pool b k RxResult.RxWindowEnded h = refl
same_ack set set' pool b k (RxResult.CrcError t quality) h = refl

module _ (set : Settings) (pool : List ℕ) (c : Call) (o : Standing) (e : Entry) (A : AgreesOne o e) where
  abbrev answered : Response → Settled
  answered response = record { entry = e; pool = pool; call = c; response = response }

  -- a receive result
  pub received_right : (r : RxResult) → o.wants ≡ false → AnsweredRight set (answered (Response.Received r))
  received_right r w =
      record {
        sent_exactly = λ k h t. absurd (not_noted e.number k (A.wants ∙ w) h);
        nack_only = λ t p. let z : ◌≡◌ {A = ℕ} 3 1 = ap response_case p in absurd (omega arith);
        error_only = λ cause p. let z : ◌≡◌ {A = ℕ} 3 2 = ap response_case p in absurd (omega arith);
        sent_only = λ h t p. let z : ◌≡◌ {A = ℕ} 3 0 = ap response_case p in absurd (omega arith);
      }

  -- Nack after the window for the ACK ended
  pub window_right : (t : ℕ) → o.transmit ≡ true → o.wants ≡ true → o.progress ≡ window_ended t → AnsweredRight set (answered (Response.Nack t))
  window_right t tx w p =
      let ended : e.progress ≡ window_ended t = A.progress tx ∙ p in
      let n = noted e.number (A.wants ∙ w) in
      record {
        sent_exactly = λ k h u. (
          λ q. let z : ◌≡◌ {A = ℕ} 1 0 = ap response_case q in absurd (omega arith),
          λ H. let z : ◌≡◌ {A = ℕ} 3 4 = ap progress_case (sym ended ∙ H.started) in absurd (omega arith),
        );
        nack_only = λ u q. (n.0, n.1, inl (ended ∙ ap window_ended (ap response_time q)));
        error_only = λ cause q. let z : ◌≡◌ {A = ℕ} 1 2 = ap response_case q in absurd (omega arith);
        sent_only = λ h u q. let z : ◌≡◌ {A = ℕ} 1 0 = ap response_case q in absurd (omega arith);
      }

  -- Sent, for a frame that wanted no ACK
  pub sent_right : (t : ℕ) → o.transmit ≡ true → o.wants ≡ false → o.progress ≡ entered no_buffer_of → Tells c (TaskResult.Sent t)
      → AnsweredRight set (answered (Response.Sent t))
  sent_right t tx w p tells =
      record {
        sent_exactly = λ k h u. absurd (not_noted e.number k (A.wants ∙ w) h);
        nack_only = λ u q. let z : ◌≡◌ {A = ℕ} 0 1 = ap response_case q in absurd (omega arith);
        error_only = λ cause q. let z : ◌≡◌ {A = ℕ} 0 2 = ap response_case q in absurd (omega arith);
        sent_only = λ h u q. (A.progress tx ∙ p, rw (ap response_time q) at tells);
      }

  -- an error
  pub error_right : (r : TaskResult) (cause : Cause) → o.transmit ≡ true → o.progress ≡ accepted → c ≡ Call.Fallback r cause
      → AnsweredRight set (answered (Response.Error cause))
  error_right r cause tx p fell =
      let waiting : e.progress ≡ accepted = A.progress tx ∙ p in
      record {
        sent_exactly = λ k h u. (
          λ q. let z : ◌≡◌ {A = ℕ} 2 0 = ap response_case q in absurd (omega arith),
          λ H. let z : ◌≡◌ {A = ℕ} 0 4 = ap progress_case (sym waiting ∙ H.started) in absurd (omega arith),
        );
        nack_only = λ u q. let z : ◌≡◌ {A = ℕ} 2 1 = ap response_case q in absurd (omega arith);
        error_only = λ cause' q. (waiting, r, fell ∙ ap (Call.Fallback r) (ap (response_cause cause) q));
        sent_only = λ h u q. let z : ◌≡◌ {A = ℕ} 2 0 = ap response_case q in absurd (omega arith);
      }

  -- Sent and Nack, by what was received where the ACK was awaited
  module _ (k t b : ℕ) (r : RxResult) (tx : o.transmit ≡ true) (n : o.number ≡ Some k) (p : o.progress ≡ frame_started t b) (tells : Tells c (TaskResult.Rx r)) where
    mine : e.number ≡ Some k
    mine = A.number k n

    begun : e.progress ≡ frame_started t b
    begun = A.progress tx ∙ p

    heard : (ack : Bool) (response : Response) (k' t' : ℕ) → k ≡ k' → t ≡ t' → is_ack set pool b k r ≡ ack
        → Heard set (answered response) k' t' ack
    heard ack response k' t' ke te a =
        record {
          buffer = b;
          started = begun ∙ ap (λ (u : ℕ). frame_started u b) te;
          result = r;
          received = tells;
          its_ack = rw ke at a;
        }

    -- what is heard is what the call tells
    the_same : (ack : Bool) (response : Response) (k' t' : ℕ) → k ≡ k' → Heard set (answered response) k' t' ack
        → (t ≡ t') × (is_ack set pool b k r ≡ ack)
    the_same ack response k' t' ke H =
        let q : frame_started t b ≡ frame_started t' H.buffer = sym begun ∙ H.started in
        let be : b ≡ H.buffer = ap progress_buffer q in
        let re : r ≡ H.result = ap (the_result r) (tells_one c _ _ tells H.received) in
        (ap progress_time q, rw (ke, be, re) H.its_ack)

    number_is : (k' : ℕ) → e.number ≡ Some k' → k ≡ k'
    number_is k' h = ap the_number (sym mine ∙ h)

    pub acknowledged_right : is_ack set pool b k r ≡ true → AnsweredRight set (answered (Response.Sent t))
    acknowledged_right a =
        record {
          sent_exactly = λ k' h u. (
            λ q. heard true (Response.Sent t) k' u (number_is k' h) (ap response_time q) a,
            λ H. ap Response.Sent (the_same true (Response.Sent t) k' u (number_is k' h) H).0,
          );
          nack_only = λ u q. let z : ◌≡◌ {A = ℕ} 0 1 = ap response_case q in absurd (omega arith);
          error_only = λ cause q. let z : ◌≡◌ {A = ℕ} 0 2 = ap response_case q in absurd (omega arith);
          sent_only = λ h u q. absurd (true≢false (ap is_number (sym mine ∙ h)));
        }

    pub unacknowledged_right : is_ack set pool b k r ≡ false → AnsweredRight set (answered (Response.Nack t))
    unacknowledged_right a =
        record {
          sent_exactly = λ k' h u. (
            λ q. let z : ◌≡◌ {A = ℕ} 1 0 = ap response_case q in absurd (omega arith),
            λ H. absurd (true≢false (sym (the_same true (Response.Nack t) k' u (number_is k' h) H).1 ∙ a)),
          );
          nack_only = λ u q. (k, mine, inr (heard false (Response.Nack t) k u refl (ap response_time q) a));
          error_only = λ cause q. let z : ◌≡◌ {A = ℕ} 1 2 = ap response_case q in absurd (omega arith);
          sent_only = λ h u q. let z : ◌≡◌ {A = ℕ} 1 0 = ap response_case q in absurd (omega arith);
        }
