-- What the book says of the radio agrees with the wait: whether it is on, the spacing after the last data frame, and the buffer that
-- is received in.
-- Assumes nothing.
use Prim.Native.Nat.{ℕ, ◌+◌}
use mathlib.Core.Path.{◌≡◌, refl}
use mathlib.Core.Bool.{Bool, true, false}
use lib.Dec.{ltb}
use native.Mathlib.Omega.{arith}
use borrow.Author.Tests.{ltb-false, lt-leb}
use Rattle.phy.specs.Phy.{ifs_of}
use Rattle.radio_frame.specs.declared.Settings.{Settings}
use Rattle.radio_frame.specs.RadioFrame.{sdu_length}
use Rattle.tasks.specs.declared.Asked.{Asked}
use Rattle.tasks.specs.declared.AwaitedAck.{AwaitedAck}
use Rattle.tasks.specs.declared.Left.{Left}
use Rattle.tasks.specs.declared.Next.{Next}
use Rattle.tasks.specs.declared.RxTask.{RxTask}
use Rattle.tasks.specs.declared.Stop.{Stop}
use Rattle.tasks.specs.declared.Transition.{Transition}
use Rattle.tasks.specs.declared.TxTask.{TxTask}
use Rattle.tasks.specs.declared.Wait.{Wait}
use Rattle.engine.specs.Book.{Radio}
use Rattle.engine.specs.Actions.{ReceivesIn}

-- the last data frame is the request's, and so is the spacing after it
abbrev pub SpacingOf : Settings → TxTask → Radio → Type 0
SpacingOf set q r = ifs_of (sdu_length set q.length) ≡ ifs_of r.length

-- receiving for a request
abbrev pub Listens : RxTask → Radio → Type 0
Listens q r = (r.on ≡ true) × (q.buffer ≡ r.buffer)

-- waiting for an ACK in the spare buffer
abbrev pub Awaits : Settings → AwaitedAck → Radio → Type 0
Awaits set a r = (r.on ≡ true) × (set.spare_buffer ≡ r.buffer) × SpacingOf set a.task r

abbrev pub AskedFits : Settings → Asked → Radio → Type 0
AskedFits set Asked.Idle r = r.on ≡ false
AskedFits set (Asked.AfterWindow q) r = r.on ≡ false
AskedFits set (Asked.AfterAckWindow q t) r = r.on ≡ false
AskedFits set (Asked.Receiving q i) r = Listens q r × (i ≡ ifs_of r.length)
AskedFits set (Asked.Sending q) r = (r.on ≡ true) × SpacingOf set q r
AskedFits set (Asked.SendingAck i) r = (r.on ≡ true) × (i ≡ ifs_of r.length)
AskedFits set (Asked.ReceivingAck a) r = Awaits set a r

-- a reception that goes off may be rolled back
abbrev pub NextFits : Settings → Next → Left → Radio → Type 0
NextFits set (Next.Tx q k) l r = SpacingOf set q r
NextFits set (Next.Rx q) l r = q.buffer ≡ r.buffer
NextFits set Next.Off Left.Off r = Unit {0}
NextFits set Next.Off (Left.Receiving q) r = Listens q r
NextFits set Next.Off (Left.Sending q) r = Unit {0}
NextFits set Next.Off Left.SendingAck r = Unit {0}
NextFits set Next.Off (Left.ReceivingAck a) r = Unit {0}

abbrev pub RadioFits : Settings → Wait → Radio → Type 0
RadioFits set (Wait.Asking a) r = AskedFits set a r
RadioFits set (Wait.Entering (Transition.Request l n)) r = NextFits set n l r
RadioFits set (Wait.Entering (Transition.Rearm q)) r = set.spare_buffer ≡ r.buffer
RadioFits set (Wait.Entering (Transition.AckTurn q i)) r = Listens q r × (i ≡ ifs_of r.length)
RadioFits set (Wait.Entering (Transition.AckWait q k)) r = (set.spare_buffer ≡ r.buffer) × SpacingOf set q r
RadioFits set (Wait.Listening q) r = Listens q r
RadioFits set (Wait.Stopping (Stop.Frame q)) r = Listens q r
RadioFits set (Wait.Stopping (Stop.Outbound q)) r = Listens q r
RadioFits set (Wait.Stopping (Stop.Ack a)) r = Awaits set a r
RadioFits set (Wait.Stopping (Stop.AckAgain a)) r = Awaits set a r
RadioFits set (Wait.Reading q) r = Listens q r

-- a length that saturates is long
pub same_spacing : (set : Settings) (n : ℕ) → ifs_of (sdu_length set n) ≡ ifs_of (n + set.fcs_length)
unfolding sdu_length ifs_of
same_spacing set n = go (ltb (n + set.fcs_length) 65536) refl
  where
    go : (t : Bool) → ltb (n + set.fcs_length) 65536 ≡ t → ifs_of (sdu_length set n) ≡ ifs_of (n + set.fcs_length)
    go true e = rw e
    go false e = let big = ltb-false (n + set.fcs_length) 65536 e in simp (e, lt-leb (n + set.fcs_length) 18 (omega arith))

asked_receives : (set : Settings) (a : Asked) (r : Radio) → AskedFits set a r → ReceivesIn set r.buffer (Wait.Asking a)
asked_receives set Asked.Idle r f = tt
asked_receives set (Asked.AfterWindow q) r f = tt
asked_receives set (Asked.AfterAckWindow q t) r f = tt
asked_receives set (Asked.Receiving q i) r f = f.0.1
asked_receives set (Asked.Sending q) r f = tt
asked_receives set (Asked.SendingAck i) r f = tt
asked_receives set (Asked.ReceivingAck a) r f = f.1

pub receives : (set : Settings) (w : Wait) (r : Radio) → RadioFits set w r → ReceivesIn set r.buffer w
receives set (Wait.Asking a) r f = asked_receives set a r f
receives set (Wait.Entering (Transition.Request l n)) r f = tt
receives set (Wait.Entering (Transition.Rearm q)) r f = f
receives set (Wait.Entering (Transition.AckTurn q i)) r f = f.0.1
receives set (Wait.Entering (Transition.AckWait q k)) r f = f.0
receives set (Wait.Listening q) r f = f.1
receives set (Wait.Stopping (Stop.Frame q)) r f = f.1
receives set (Wait.Stopping (Stop.Outbound q)) r f = f.1
receives set (Wait.Stopping (Stop.Ack a)) r f = f.1
receives set (Wait.Stopping (Stop.AckAgain a)) r f = f.1
receives set (Wait.Reading q) r f = f.1
