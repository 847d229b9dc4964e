-- A wait is read back from its numbers, and numbers that fit are read as a wait whose numbers fit.
-- Assumes nothing.
use Rattle.std.proofs.Common.{Some, None}
use Prim.Native.Nat.{ℕ}
use mathlib.Core.Path.{◌≡◌, refl, ◌∙◌, ap}
use native.Mathlib.Omega.{arith}
use Rattle.phy.specs.declared.Ifs.{Ifs}
use Rattle.phy.specs.Phy.{ifs_code}
use Rattle.tasks.specs.declared.Asked.{Asked}
use Rattle.tasks.specs.declared.Left.{Left}
use Rattle.tasks.specs.declared.Next.{Next}
use Rattle.tasks.specs.declared.Stop.{Stop}
use Rattle.tasks.specs.declared.Transition.{Transition}
use Rattle.tasks.specs.declared.Wait.{Wait}
use Rattle.wait_parts.specs.declared.Part.{Part}
use Rattle.wait_parts.specs.Parts.{no_task, rx_task, part_of, asked_part, left_part, tx_part, next_part, stop_part, transition_parts, wait_parts_of, ifs_at, rx_at, ack_at, asked_table, asked_at, left_table, left_at, next_table, next_at, transition_table, transition_at, stop_table, stop_at, wait_table, wait_at, PartFit, entered_part, WaitReadsBack, WaitFits}
use Rattle.wait_parts.proofs.Picked.{picked}

-- ---- The codes

ifs_back : (i : Ifs) → ifs_at (ifs_code i) ≡ i
unfolding ifs_at ifs_code
ifs_back Ifs.Aifs = refl
ifs_back Ifs.Sifs = refl
ifs_back Ifs.Lifs = refl

asked_back : (a : Asked) → asked_at (asked_part a) (asked_part a).code ≡ a
unfolding asked_at asked_part
asked_back Asked.Idle = refl
asked_back (Asked.AfterWindow q) = refl
asked_back (Asked.AfterAckWindow q t) = refl
asked_back (Asked.Receiving q i) = ap (λ (j : Ifs). Asked.Receiving q j) (ifs_back i)
asked_back (Asked.Sending q) = refl
asked_back (Asked.SendingAck i) = ap (λ (j : Ifs). Asked.SendingAck j) (ifs_back i)
asked_back (Asked.ReceivingAck a) = refl

left_back : (l : Left) → left_at (left_part l) (left_part l).code ≡ l
unfolding left_at left_part
left_back Left.Off = refl
left_back (Left.Receiving q) = refl
left_back (Left.Sending q) = refl
left_back Left.SendingAck = refl
left_back (Left.ReceivingAck a) = refl

next_back : (n : Next) → next_at (entered_part (next_part n)) (next_part n).code ≡ n
unfolding next_at next_part tx_part
next_back Next.Off = refl
next_back (Next.Tx q None) = refl
next_back (Next.Tx q (Some k)) = refl
next_back (Next.Rx q) = refl

stop_back : (p : Stop) → stop_at (stop_part p) (stop_part p).code ≡ p
unfolding stop_at stop_part
stop_back (Stop.Frame q) = refl
stop_back (Stop.Outbound q) = refl
stop_back (Stop.Ack a) = refl
stop_back (Stop.AckAgain a) = refl

pub wait_back : WaitReadsBack
unfolding wait_at wait_parts_of transition_parts transition_at
wait_back (Wait.Asking a) = ap (λ (b : Asked). Wait.Asking b) (asked_back a)
wait_back (Wait.Entering (Transition.Request l n)) =
    ap (λ (k : Left). Wait.Entering (Transition.Request k (next_at (entered_part (next_part n)) (next_part n).code))) (left_back l)
    ∙ ap (λ (m : Next). Wait.Entering (Transition.Request l m)) (next_back n)
wait_back (Wait.Entering (Transition.Rearm q)) = refl
wait_back (Wait.Entering (Transition.AckTurn q i)) = ap (λ (j : Ifs). Wait.Entering (Transition.AckTurn q j)) (ifs_back i)
wait_back (Wait.Entering (Transition.AckWait q k)) = refl
wait_back (Wait.Listening q) = refl
wait_back (Wait.Stopping p) = ap (λ (x : Stop). Wait.Stopping x) (stop_back p)
wait_back (Wait.Reading q) = refl

-- ---- What numbers are read as fits

module _ (p : Part) (F : PartFit p) where
  nothing : (code spacing : ℕ) → PartFit (part_of code no_task 0 spacing 0)
  nothing code spacing = (omega arith, omega arith, omega arith, omega arith, omega arith)

  receives : (code spacing : ℕ) → PartFit (part_of code (rx_task (rx_at p)) 0 spacing 0)
  receives code spacing = (F.0, F.1, omega arith, omega arith, omega arith)

  sends : (code : ℕ) → PartFit (part_of code p.task 0 0 0)
  sends code = (F.0, F.1, F.2, omega arith, omega arith)

  asked_fits : PartFit (asked_part (asked_at p p.code))
  unfolding asked_at asked_part
  asked_fits =
      picked (λ (a : Asked). PartFit (asked_part a)) (asked_table p) (Asked.ReceivingAck (ack_at p)) p.code
      (nothing 0 0, (receives 1 0, ((F.0, F.1, F.2, omega arith, F.4), (receives 3 0, (sends 4, (nothing 5 0, tt))))))
      F

  left_fits : PartFit (left_part (left_at p p.code))
  unfolding left_at left_part
  left_fits =
      picked (λ (l : Left). PartFit (left_part l)) (left_table p) (Left.ReceivingAck (ack_at p)) p.code
      (nothing 0 0, (receives 1 0, (sends 2, (nothing 3 0, tt))))
      F

  next_fits : PartFit (next_part (next_at p p.code))
  unfolding next_at next_part tx_part
  next_fits =
      picked (λ (n : Next). PartFit (next_part n)) (next_table p) (Next.Rx (rx_at p)) p.code
      (nothing 0 0, (sends 1, ((F.0, F.1, F.2, F.3, omega arith), tt)))
      (receives 3 0)

  turn_fits : PartFit (transition_parts (transition_at p p.code)).case × PartFit (transition_parts (transition_at p p.code)).next
  unfolding transition_at transition_parts
  turn_fits =
      picked (λ (e : Transition). PartFit (transition_parts e).case × PartFit (transition_parts e).next) (transition_table p) (Transition.AckWait p.task p.number) p.code
      ((receives 0 0, nothing 0 0), ((receives 1 0, nothing 0 0), tt))
      ((F.0, F.1, F.2, F.3, omega arith), nothing 0 0)

  stop_fits_lem : PartFit (stop_part (stop_at p p.code))
  unfolding stop_at stop_part
  stop_fits_lem =
      picked (λ (x : Stop). PartFit (stop_part x)) (stop_table p) (Stop.AckAgain (ack_at p)) p.code
      (receives 0 0, (receives 1 0, (F, tt)))
      F

pub wait_fits : WaitFits
unfolding wait_at wait_parts_of transition_parts
wait_fits p F G =
    let none = nothing p.case F 0 0 in
    picked (λ (w : Wait). PartFit (wait_parts_of w).case × PartFit (wait_parts_of w).next) (wait_table p) (Wait.Reading (rx_at p.case)) p.kind
    ((asked_fits p.case F, none), ((left_fits p.case F, next_fits p.next G), (turn_fits p.case F, ((receives p.case F 0 0, none), ((stop_fits_lem p.case F, none), tt)))))
    (receives p.case F 0 0, none)
