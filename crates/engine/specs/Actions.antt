-- Laws of the actions, in words of their own: the calls and the definitions of the waits mirror each other, so a misreading in both
-- would go unseen. Document 01, "Spacing and time" and "Waits".
-- Assumes nothing.
use Rattle.std.specs.Prelude.{ℕ, ◌≡◌, Bool, true, false, cond, List, Option, Some, None}
use Rattle.radio_frame.specs.declared.Settings.{Settings}
use Rattle.phy.specs.declared.Ifs.{Ifs}
use Rattle.phy.specs.Phy.{ifs_of}
use Rattle.tasks.specs.declared.Action.{Action}
use Rattle.tasks.specs.declared.Asked.{Asked}
use Rattle.tasks.specs.declared.Call.{Call}
use Rattle.tasks.specs.declared.Request.{Request}
use Rattle.tasks.specs.declared.State.{State}
use Rattle.tasks.specs.declared.Stop.{Stop}
use Rattle.tasks.specs.declared.Task.{Task}
use Rattle.tasks.specs.declared.Transition.{Transition}
use Rattle.tasks.specs.declared.Wait.{Wait}
use Rattle.requests.specs.Requests.{allowed_of}
use Rattle.engine.specs.Step.{Outcome}
use Rattle.engine.specs.Step.{step_of}
use Rattle.engine.specs.Refusals.{fits}
use Rattle.engine.specs.Book.{Radio}
use Rattle.engine.specs.Asks.{Asks, no_ask, ask, listens}

-- ---- "In every wait it fits only where rollback is on."

-- whether an action had rollback on
abbrev pub rollback_on : Action → Bool
rollback_on Action.Nothing = false
rollback_on Action.ReceiveRequest = false
rollback_on (Action.TryReceiveRequest d) = false
rollback_on Action.Listen = false
rollback_on (Action.Stop how) = false
rollback_on Action.ReadHeader = false
rollback_on (Action.Tx buffer n cca start ifs rollback) = rollback
rollback_on (Action.Rx buffer start ifs rollback) = rollback
rollback_on (Action.Off rollback) = rollback

-- ---- What a Request asks for

-- "Request: token .., direction, start .., buffer, and for Tx the length without checksum and a channel-check flag": the radio is told
-- to do just that, with some spacing, rollback off
abbrev pub TaskDone : Request → Task → Action → Type 0
TaskDone q (Task.Tx length cca) action = (ifs : Option Ifs) × (action ≡ Action.Tx q.buffer length cca q.start ifs false)
TaskDone q Task.Rx action = (ifs : Option Ifs) × (action ≡ Action.Rx q.buffer q.start ifs false)

abbrev pub RequestDone : Call → Action → Type 0
RequestDone (Call.Request q) action = TaskDone q q.task action
RequestDone Call.None action = Unit {0}
RequestDone Call.FrameStart action = Unit {0}
RequestDone (Call.OutboundSeen start cca) action = Unit {0}
RequestDone (Call.Stopped x) action = Unit {0}
RequestDone (Call.Header arrived length) action = Unit {0}
RequestDone (Call.Entered x entry) action = Unit {0}
RequestDone (Call.Fallback x cause) action = Unit {0}
RequestDone Call.Rollback action = Unit {0}

-- the action of an accepted call: there is one; after it Rollback fits exactly if it had rollback on; a Request is done
pub record ActsRight (c : Call) (o : Outcome) : Type 0 where
  pub something : o.reply.action ≡ Action.Nothing → ⊥
  pub rollback : fits Call.Rollback o.state.wait ≡ rollback_on o.reply.action
  pub request : RequestDone c o.reply.action

unfoldable pub AcceptedActs : Type 0
AcceptedActs = (s : State) (pool : List ℕ) (c : Call) → (step_of s pool c).refusal ≡ 0 → ActsRight c (step_of s pool c)

-- ---- The spacing that a Tx or an Rx action carries, by the radio as the book has it and by the call

-- "A Tx or Rx scheduled out of receiving or sending carries the spacing of the last data frame; .. whatever starts from off carr[ies]
-- none."
abbrev pub request_ifs : Radio → Option Ifs
request_ifs r = cond r.on (Some (ifs_of r.length)) None

-- a Tx; no other call leads to one
abbrev pub TxSpaced : Radio → Option Ifs → Call → Type 0
TxSpaced r ifs (Call.Request q) = ifs ≡ request_ifs r
-- "before an ACK: the ACK spacing"
TxSpaced r ifs (Call.Header arrived length) = ifs ≡ Some Ifs.Aifs
TxSpaced r ifs Call.None = ⊥
TxSpaced r ifs Call.FrameStart = ⊥
TxSpaced r ifs (Call.OutboundSeen start cca) = ⊥
TxSpaced r ifs (Call.Stopped x) = ⊥
TxSpaced r ifs (Call.Entered x entry) = ⊥
TxSpaced r ifs (Call.Fallback x cause) = ⊥
TxSpaced r ifs Call.Rollback = ⊥

-- an Rx; no other call leads to one
abbrev pub RxSpaced : Radio → Option Ifs → Call → Type 0
RxSpaced r ifs (Call.Request q) = ifs ≡ request_ifs r
-- "the re-arm .. carr[ies] none"
RxSpaced r ifs (Call.Header arrived length) = ifs ≡ None
-- "listen with the spare buffer after ACK spacing"
RxSpaced r ifs (Call.Entered x entry) = ifs ≡ Some Ifs.Aifs
RxSpaced r ifs Call.None = ⊥
RxSpaced r ifs Call.FrameStart = ⊥
RxSpaced r ifs (Call.OutboundSeen start cca) = ⊥
RxSpaced r ifs (Call.Stopped x) = ⊥
RxSpaced r ifs (Call.Fallback x cause) = ⊥
RxSpaced r ifs Call.Rollback = ⊥

abbrev pub Spaced : Radio → Call → Action → Type 0
Spaced r c Action.Nothing = Unit {0}
Spaced r c Action.ReceiveRequest = Unit {0}
Spaced r c (Action.TryReceiveRequest d) = Unit {0}
Spaced r c Action.Listen = Unit {0}
Spaced r c (Action.Stop how) = Unit {0}
Spaced r c Action.ReadHeader = Unit {0}
Spaced r c (Action.Tx b n cca start ifs rollback) = TxSpaced r ifs c
Spaced r c (Action.Rx b start ifs rollback) = RxSpaced r ifs c
Spaced r c (Action.Off rollback) = Unit {0}

-- ---- The buffer that the last Rx action named: where it is listened, a header is read, a reception answered, or an ACK awaited

abbrev pub TransitionReceivesIn : Settings → ℕ → Transition → Type 0
TransitionReceivesIn set buffer (Transition.Request l n) = Unit {0}
-- "re-arm with the spare buffer"
TransitionReceivesIn set buffer (Transition.Rearm q) = set.spare_buffer ≡ buffer
TransitionReceivesIn set buffer (Transition.AckTurn q i) = q.buffer ≡ buffer
-- "listen with the spare buffer"
TransitionReceivesIn set buffer (Transition.AckWait q k) = set.spare_buffer ≡ buffer

abbrev pub ReceivesIn : Settings → ℕ → Wait → Type 0
ReceivesIn set buffer (Wait.Asking Asked.Idle) = Unit {0}
ReceivesIn set buffer (Wait.Asking (Asked.AfterWindow q)) = Unit {0}
ReceivesIn set buffer (Wait.Asking (Asked.AfterAckWindow q t)) = Unit {0}
ReceivesIn set buffer (Wait.Asking (Asked.Receiving q i)) = q.buffer ≡ buffer
ReceivesIn set buffer (Wait.Asking (Asked.Sending q)) = Unit {0}
ReceivesIn set buffer (Wait.Asking (Asked.SendingAck i)) = Unit {0}
ReceivesIn set buffer (Wait.Asking (Asked.ReceivingAck a)) = set.spare_buffer ≡ buffer
ReceivesIn set buffer (Wait.Entering e) = TransitionReceivesIn set buffer e
ReceivesIn set buffer (Wait.Listening q) = q.buffer ≡ buffer
ReceivesIn set buffer (Wait.Stopping (Stop.Frame q)) = q.buffer ≡ buffer
ReceivesIn set buffer (Wait.Stopping (Stop.Outbound q)) = q.buffer ≡ buffer
ReceivesIn set buffer (Wait.Stopping (Stop.Ack a)) = set.spare_buffer ≡ buffer
ReceivesIn set buffer (Wait.Stopping (Stop.AckAgain a)) = set.spare_buffer ≡ buffer
ReceivesIn set buffer (Wait.Reading q) = q.buffer ≡ buffer

-- ---- What a wait asks for, and whether it is open for the Tx that OutboundSeen named

abbrev pub asks_of : Wait → Asks
asks_of (Wait.Asking a) = ask (allowed_of a)
asks_of (Wait.Entering e) = no_ask
asks_of (Wait.Listening q) = listens
asks_of (Wait.Stopping p) = no_ask
asks_of (Wait.Reading q) = no_ask

abbrev pub outbound_open : Wait → Bool
outbound_open (Wait.Asking Asked.Idle) = false
outbound_open (Wait.Asking (Asked.AfterWindow q)) = true
outbound_open (Wait.Asking (Asked.AfterAckWindow q t)) = false
outbound_open (Wait.Asking (Asked.Receiving q i)) = false
outbound_open (Wait.Asking (Asked.Sending q)) = false
outbound_open (Wait.Asking (Asked.SendingAck i)) = false
outbound_open (Wait.Asking (Asked.ReceivingAck a)) = false
outbound_open (Wait.Entering e) = false
outbound_open (Wait.Listening q) = false
outbound_open (Wait.Stopping (Stop.Frame q)) = false
outbound_open (Wait.Stopping (Stop.Outbound q)) = true
outbound_open (Wait.Stopping (Stop.Ack a)) = false
outbound_open (Wait.Stopping (Stop.AckAgain a)) = false
outbound_open (Wait.Reading q) = false
