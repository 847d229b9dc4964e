-- What a state holds, and the refusals of a request: document 01, "Refusals, in checking order", 6 to 9.
-- Assumes nothing.
use Rattle.std.specs.Prelude.{ℕ, ◌+◌, ◌≡◌, ◌⊎◌, ◌↔◌, Bool, true, false, cond, not, ◌||◌, ltb, leb, eqb, Option, Some, None}
use Rattle.phy.specs.Phy.{phy_max_packet_size}
use Rattle.radio_frame.specs.declared.Settings.{Settings}
use Rattle.tasks.specs.declared.Timestamp.{Timestamp}
use Rattle.tasks.specs.declared.Task.{Task}
use Rattle.tasks.specs.declared.Request.{Request}
use Rattle.tasks.specs.declared.Asked.{Asked}
use Rattle.tasks.specs.declared.Slot.{Slot}
use Rattle.tasks.specs.declared.Wait.{Wait}
use Rattle.tasks.specs.declared.State.{State}
use Rattle.tasks.specs.declared.Starts.{Starts}
use Rattle.tasks.specs.declared.Starts.TheVariants.{Never, BestEffort, Any}
use Rattle.tasks.specs.declared.Allowed.{Allowed}
use Rattle.tasks.specs.Pending.{pending_of}

-- ---- 6 and 7

unfoldable pub slot_has_token : Option Slot → ℕ → Bool
slot_has_token None token = false
slot_has_token (Some s) token = eqb s.token token

unfoldable pub slot_has_buffer : Option Slot → ℕ → Bool
slot_has_buffer None buffer = false
slot_has_buffer (Some s) buffer = eqb s.buffer buffer

-- "6. The token is held by an unanswered request."
unfoldable pub token_held : Wait → ℕ → Bool
token_held w token = slot_has_token (pending_of w).first token || slot_has_token (pending_of w).second token

-- "7. .. or is held": by the service as one of its own two, or by an unanswered request
unfoldable pub buffer_held : State → ℕ → Bool
buffer_held s buffer =
    (eqb s.set.ack_buffer buffer || eqb s.set.spare_buffer buffer)
    || (slot_has_buffer (pending_of s.wait).first buffer || slot_has_buffer (pending_of s.wait).second buffer)

-- ---- 8 and 9

-- "8. A Tx length is below 3 or above 127 − F."
unfoldable pub tx_length_unfit : Settings → Task → Bool
tx_length_unfit set (Task.Tx length cca) = ltb length 3 || ltb phy_max_packet_size (length + set.fcs_length)
tx_length_unfit set Task.Rx = false

-- whether a start is a time, and not best effort
unfoldable pub timed : Timestamp → Bool
timed Timestamp.BestEffort = false
timed (Timestamp.Scheduled t) = true

-- "9. The direction or start is not allowed in this wait." First the starts allowed of a Tx, then those of an Rx.
abbrev pub allow : Starts → Starts → Allowed
allow tx rx = record { tx = tx; rx = rx }

unfoldable pub allowed_of : Asked → Allowed
-- "Idle: Request, any direction and start"
allowed_of Asked.Idle = allow Any Any
-- "Window ended there: ask for an outbound request"
allowed_of (Asked.AfterWindow q) = allow Any Never
-- "Window ended: ask; .. the Request (Tx any start, Rx best effort)"
allowed_of (Asked.AfterAckWindow q t) = allow Any BestEffort
-- "Receiving, asked: Tx any start, Rx best effort"
allowed_of (Asked.Receiving q i) = allow Any BestEffort
-- "Sending otherwise: ask; Tx and Rx best effort only"
allowed_of (Asked.Sending q) = allow BestEffort BestEffort
allowed_of (Asked.SendingAck i) = allow BestEffort BestEffort
-- "Frame started: ask as when receiving"
allowed_of (Asked.ReceivingAck a) = allow Any BestEffort

-- whether a start is one of those allowed
unfoldable pub start_allowed : Starts → Timestamp → Bool
start_allowed Never start = false
start_allowed BestEffort start = not (timed start)
start_allowed Any start = true

unfoldable pub not_allowed : Allowed → Timestamp → Task → Bool
not_allowed w start (Task.Tx length cca) = not (start_allowed w.tx start)
not_allowed w start Task.Rx = not (start_allowed w.rx start)

-- 6 to 9, each tested before the next
unfoldable pub request_refusal : State → Asked → Request → ℕ
request_refusal s a q =
    cond (token_held s.wait q.token) 6
    (cond (leb s.set.count q.buffer || buffer_held s q.buffer) 7
    (cond (tx_length_unfit s.set q.task) 8
    (cond (not_allowed (allowed_of a) q.start q.task) 9 0)))

-- The refusals of an arrival (document 02, E1), each tested before the next: 6 looks at requests that have left the line; 7 also at the
-- buffers of those that wait; "Arrival skips 9"; "12 for an arrival when four wait; 13 when the token already waits ..; both after 8".
-- Of the line: whether it holds the buffer, whether four wait, whether the token waits.
unfoldable pub arrival_refusal : State → Request → Bool → Bool → Bool → ℕ
arrival_refusal s q buffer full token =
    cond (token_held s.wait q.token) 6
    (cond (leb s.set.count q.buffer || (buffer_held s q.buffer || buffer)) 7
    (cond (tx_length_unfit s.set q.task) 8
    (cond full 12 (cond token 13 0))))

-- Laws of 6 and 7, in the paper's words; proofs/Laws.antt has their proofs.

-- an unanswered request with a token, and one with a buffer
pub record HasToken (h : Option Slot) (token : ℕ) : Type 0 where
  pub buffer : ℕ
  pub held : h ≡ Some (record { token = token; buffer = buffer })

pub record HasBuffer (h : Option Slot) (buffer : ℕ) : Type 0 where
  pub token : ℕ
  pub held : h ≡ Some (record { token = token; buffer = buffer })

-- a token is held exactly if one of the unanswered requests has it
abbrev pub TokenHeldExactly : Type 0
TokenHeldExactly =
    (w : Wait) (token : ℕ) →
    token_held w token ≡ true ↔ (HasToken (pending_of w).first token ⊎ HasToken (pending_of w).second token)

-- a buffer is held exactly if it is the ACK buffer or the spare one, or one of the unanswered requests has it
abbrev pub BufferHeldExactly : Type 0
BufferHeldExactly =
    (s : State) (buffer : ℕ) →
    buffer_held s buffer ≡ true
    ↔ (((s.set.ack_buffer ≡ buffer) ⊎ (s.set.spare_buffer ≡ buffer))
    ⊎ (HasBuffer (pending_of s.wait).first buffer ⊎ HasBuffer (pending_of s.wait).second buffer))
