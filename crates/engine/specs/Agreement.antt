-- What each wait says of the unanswered requests, in the book's words. That the book, which is kept without the state, says the same
-- after every list of calls is a claim (Lists.antt).
-- Assumes nothing.
use Rattle.std.specs.Prelude.{ℕ, ◌≤◌, ◌≡◌, Bool, true, false, List, [], ◌∷◌, ◌++◌, Option, Some, None}
use Rattle.radio_frame.specs.declared.Settings.{Settings}
use Rattle.tasks.specs.declared.Asked.{Asked}
use Rattle.tasks.specs.declared.AwaitedAck.{AwaitedAck}
use Rattle.tasks.specs.declared.Left.{Left}
use Rattle.tasks.specs.declared.Next.{Next}
use Rattle.tasks.specs.declared.RxTask.{RxTask}
use Rattle.tasks.specs.declared.State.{State}
use Rattle.tasks.specs.declared.Stop.{Stop}
use Rattle.tasks.specs.declared.Transition.{Transition}
use Rattle.tasks.specs.declared.TxTask.{TxTask}
use Rattle.tasks.specs.declared.Wait.{Wait}
use Rattle.engine.specs.Book.{no_buffer_of, in_buffer_of, Progress, accepted, entered, sent, window_ended, frame_started, is_number, Entry}

-- an unanswered request as a wait has it: token, buffer, direction; of a transmit request whether its frame wants an ACK, the number
-- noted as far as the wait still holds it, what the calls said of it, and how many accepted calls can have followed it at most
pub record Standing : Type 0 where
  pub token : ℕ
  pub buffer : ℕ
  pub transmit : Bool
  pub wants : Bool
  pub number : Option ℕ
  pub progress : Progress
  pub limit : ℕ

abbrev pub tx_standing : TxTask → Bool → Option ℕ → Progress → ℕ → Standing
tx_standing q wants number progress limit =
    record {
      token = q.token;
      buffer = q.buffer;
      transmit = true;
      wants = wants;
      number = number;
      progress = progress;
      limit = limit;
    }

abbrev pub rx_standing : RxTask → Standing
rx_standing q =
    record {
      token = q.token;
      buffer = q.buffer;
      transmit = false;
      wants = false;
      number = None;
      progress = accepted;
      limit = 0;
    }

-- a frame that wants no ACK, while it is sent: nothing is received for it
abbrev pub sending : TxTask → ℕ → Standing
sending q limit = tx_standing q false None (entered no_buffer_of) limit

-- a frame whose ACK is awaited, in the spare buffer
abbrev pub awaiting : AwaitedAck → Progress → ℕ → Standing
awaiting a progress limit = tx_standing a.task true (Some a.number) progress limit

abbrev pub left_standing : Settings → Left → List Standing
left_standing set Left.Off = []
left_standing set (Left.Receiving q) = rx_standing q ∷ []
left_standing set (Left.Sending q) = sending q 2 ∷ []
left_standing set Left.SendingAck = []
left_standing set (Left.ReceivingAck a) = awaiting a (frame_started a.time set.spare_buffer) 5 ∷ []

abbrev pub next_standing : Next → List Standing
next_standing (Next.Tx q number) = tx_standing q (is_number number) number accepted 0 ∷ []
next_standing (Next.Rx q) = rx_standing q ∷ []
next_standing Next.Off = []

abbrev pub asked_standing : Settings → Asked → List Standing
asked_standing set Asked.Idle = []
asked_standing set (Asked.AfterWindow q) = rx_standing q ∷ []
asked_standing set (Asked.AfterAckWindow q t) = tx_standing q true None (window_ended t) 4 ∷ []
asked_standing set (Asked.Receiving q i) = rx_standing q ∷ []
asked_standing set (Asked.Sending q) = sending q 1 ∷ []
asked_standing set (Asked.SendingAck i) = []
asked_standing set (Asked.ReceivingAck a) = awaiting a (frame_started a.time set.spare_buffer) 4 ∷ []

abbrev pub stop_standing : Settings → Stop → List Standing
stop_standing set (Stop.Frame q) = rx_standing q ∷ []
stop_standing set (Stop.Outbound q) = rx_standing q ∷ []
stop_standing set (Stop.Ack a) = awaiting a (sent a.time set.spare_buffer) 2 ∷ []
stop_standing set (Stop.AckAgain a) = awaiting a (sent a.time set.spare_buffer) 3 ∷ []

abbrev pub transition_standing : Settings → Transition → List Standing
transition_standing set (Transition.Request l n) = left_standing set l ++ next_standing n
transition_standing set (Transition.Rearm q) = rx_standing q ∷ []
transition_standing set (Transition.AckTurn q i) = rx_standing q ∷ []
transition_standing set (Transition.AckWait q k) = tx_standing q true (Some k) (entered (in_buffer_of set.spare_buffer)) 1 ∷ []

abbrev pub wait_standing : Settings → Wait → List Standing
wait_standing set (Wait.Asking a) = asked_standing set a
wait_standing set (Wait.Entering e) = transition_standing set e
wait_standing set (Wait.Listening q) = rx_standing q ∷ []
wait_standing set (Wait.Stopping p) = stop_standing set p
wait_standing set (Wait.Reading q) = rx_standing q ∷ []

abbrev pub standing : State → List Standing
standing s = wait_standing s.set s.wait

-- ---- Agreement

pub record AgreesOne (o : Standing) (e : Entry) : Type 0 where
  pub token : e.token ≡ o.token
  pub transmit : e.transmit ≡ o.transmit
  pub wants : is_number e.number ≡ o.wants
  pub number : (k : ℕ) → o.number ≡ Some k → e.number ≡ Some k
  pub progress : o.transmit ≡ true → e.progress ≡ o.progress
  pub age : o.transmit ≡ true → e.age ≤ o.limit

-- the same requests in the same order
abbrev pub Agrees : List Standing → List Entry → Type 0
Agrees [] [] = Unit {0}
Agrees [] (e ∷ es) = ⊥
Agrees (o ∷ os) [] = ⊥
Agrees (o ∷ os) (e ∷ es) = AgreesOne o e × Agrees os es
