-- The first demand, of the eleven calls: which refusal a call meets, as the documents' lists have it, and that a refused call changes
-- nothing. Here each refusal's condition stands by itself; that the calls refuse by them, in this order, is the theorem `service_in_order`.
-- Assumes nothing.
use Rattle.std.specs.Prelude.{ℕ, ◌≡◌, Bool, true, false, cond, not, ◌&&◌, ◌||◌, List, leb, length}
use Rattle.radio_frame.specs.Settings.{pool_unfit, rooms_unfit, own_buffers_unfit}
use Rattle.tasks.specs.declared.Call.{Call}
use Rattle.tasks.specs.declared.Request.{Request}
use Rattle.tasks.specs.declared.State.{State}
use Rattle.tasks.specs.declared.Wait.{Wait}
use Rattle.requests.specs.Requests.{token_held, buffer_held, tx_length_unfit}
use Rattle.engine.specs.Refusals.{fits, later_refusal, no_reply}
use Rattle.waiting_line.specs.Line.{has_token, has_buffer, is_tx, any_passes, earliest_of, names_tx}
use Rattle.service.specs.declared.ServiceCall.{ServiceCall}
use Rattle.service.specs.Service.{is_named, allowed_waits, service_of}

-- a wait that asks
unfoldable pub is_asking : Wait → Bool
is_asking (Wait.Asking a) = true
is_asking (Wait.Entering e) = false
is_asking (Wait.Listening q) = false
is_asking (Wait.Stopping p) = false
is_asking (Wait.Reading q) = false

module _ (s : State) (qs : List Request) (pool : List ℕ) where
  -- ---- 5: which calls, and which kinds of outcome, fit the wait and the line

  unfoldable pub service_fits : ServiceCall → Bool
  -- "Requests arrive and may be withdrawn by token in every wait"
  service_fits (ServiceCall.Arrive q) = true
  service_fits (ServiceCall.Withdraw token) = true
  service_fits ServiceCall.Request = is_asking s.wait
  -- "where a wait takes None, it now fits exactly if the line holds no such arrival"
  service_fits ServiceCall.None = fits Call.None s.wait && not (allowed_waits qs s.wait)
  service_fits ServiceCall.FrameStart = fits Call.FrameStart s.wait
  -- "OutboundSeen fits only with the start and flag of its earliest Tx"
  service_fits (ServiceCall.OutboundSeen start cca) =
      fits (Call.OutboundSeen start cca) s.wait && names_tx start cca (earliest_of is_tx qs)
  service_fits (ServiceCall.Stopped r) = fits (Call.Stopped r) s.wait
  service_fits (ServiceCall.Header arrived len) = fits (Call.Header arrived len) s.wait
  service_fits (ServiceCall.Entered r entry) = fits (Call.Entered r entry) s.wait
  service_fits (ServiceCall.Fallback r cause) = fits (Call.Fallback r cause) s.wait
  service_fits ServiceCall.Rollback = fits Call.Rollback s.wait

  -- ---- What a call that fits still has to pass

  unfoldable pub service_later : ServiceCall → ℕ
  -- "Arrival skips 9. 6 is for arrivals only and looks at requests that have left the line." "12 for an arrival when four wait; 13 when
  -- the token already waits ..; both after 8."
  service_later (ServiceCall.Arrive q) =
      cond (token_held s.wait q.token) 6
      (cond (leb s.set.count q.buffer || (buffer_held s q.buffer || any_passes (has_buffer q.buffer) qs)) 7
      (cond (tx_length_unfit s.set q.task) 8
      (cond (leb 4 (length qs)) 12
      (cond (any_passes (has_token q.token) qs) 13 0))))
  service_later (ServiceCall.Withdraw token) = cond (not (any_passes (has_token token) qs) || is_named s qs token) 13 0
  -- "a Request .. that finds none such is 9"
  service_later ServiceCall.Request = cond (allowed_waits qs s.wait) 0 9
  service_later ServiceCall.None = 0
  service_later ServiceCall.FrameStart = 0
  service_later (ServiceCall.OutboundSeen start cca) = 0
  service_later (ServiceCall.Stopped r) = later_refusal s (Call.Stopped r)
  service_later (ServiceCall.Header arrived len) = later_refusal s (Call.Header arrived len)
  service_later (ServiceCall.Entered r entry) = later_refusal s (Call.Entered r entry)
  service_later (ServiceCall.Fallback r cause) = later_refusal s (Call.Fallback r cause)
  service_later ServiceCall.Rollback = 0

  -- ---- "Refusals, in checking order": the first that holds, or 0
  unfoldable pub service_refusal : ServiceCall → ℕ
  service_refusal c =
      cond (pool_unfit s.set (length pool)) 2
      (cond (rooms_unfit s.set) 3
      (cond (own_buffers_unfit s.set) 4
      (cond (not (service_fits c)) 5 (service_later c))))

  -- ---- "an unfit call gets its number from document 01 and changes neither state nor pool", nor the line
  pub record ServiceUnchanged (c : ServiceCall) : Type 0 where
    pub state : (service_of s qs pool c).state ≡ s
    pub line : (service_of s qs pool c).line ≡ qs
    pub reply : (service_of s qs pool c).reply ≡ no_reply
    pub pool_bytes : (service_of s qs pool c).pool ≡ pool

unfoldable pub ServiceInOrder : Type 0
ServiceInOrder =
    (s : State) (qs : List Request) (pool : List ℕ) (c : ServiceCall) → (service_of s qs pool c).refusal ≡ service_refusal s qs pool c

unfoldable pub ServiceRefusedUnchanged : Type 0
ServiceRefusedUnchanged =
    (s : State) (qs : List Request) (pool : List ℕ) (c : ServiceCall) → ((service_of s qs pool c).refusal ≡ 0 → ⊥) → ServiceUnchanged s qs pool c
