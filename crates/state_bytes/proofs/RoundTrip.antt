-- Writing a state and reading it gives it back; so bytes are accepted exactly if some valid state is written as them.
-- Assumes nothing.
use Prim.Native.Nat.{ℕ}
use mathlib.Core.Path.{◌≡◌, refl, ◌∙◌, ap}
use mathlib.Core.Bool.{Bool, true, false}
use mathlib.Core.List.{List}
use lib.Dec.{eqb}
use native.Mathlib.Omega.{arith}
use Rattle.util.specs.Bytes.{flag_number, number_at, AllBytes}
use Rattle.util.proofs.Numbers.{read_back, byte_at, fits_bytes}
use Rattle.radio_frame.specs.declared.Settings.{Settings}
use Rattle.tasks.specs.declared.State.{State}
use Rattle.tasks.specs.declared.TxTask.{TxTask}
use Rattle.tasks.specs.declared.Wait.{Wait}
use Rattle.wait_parts.specs.declared.Parts.{Parts}
use Rattle.wait_parts.specs.Parts.{wait_parts_of, wait_at, PartFit, entered_part}
use Rattle.state_bytes.specs.Layout.{written_parts, written_state, settings_at, task_at, parts_at, state_at}
use Rattle.state_bytes.specs.Valid.{valid_state, same_list, holds_state, SettingsFit, StateFits, ReadsBack, WrittenFrom, HeldExactly}
use Rattle.wait_parts.proofs.RoundTrip.{wait_back, wait_fits}
use Rattle.std.proofs.lemmas.Bool.{and_parts}
use Rattle.state_bytes.proofs.Same.{same_true, same_refl}

-- ---- The bytes

flag_back : (f : Bool) → eqb (flag_number f) 1 ≡ f
flag_back true = refl
flag_back false = refl

settings_back : (set : Settings) (p : Parts) → SettingsFit set → settings_at (written_parts set p) ≡ set
unfolding settings_at written_parts number_at
settings_back set p F =
    let mk : ℕ → ℕ → Bool → Settings =
    λ address pan implicit. record {
      count = set.count;
      headroom = set.headroom;
      tailroom = set.tailroom;
      fcs_length = set.fcs_length;
      hardware_addr = address;
      pan_id = pan;
      implicit_broadcast = implicit;
      ack_buffer = set.ack_buffer;
      spare_buffer = set.spare_buffer;
    } in
    ap (λ (a : ℕ). mk a (number_at (written_parts set p) 12 2) (eqb (flag_number set.implicit_broadcast) 1)) (read_back 8 set.hardware_addr F.address)
    ∙ ap (λ (a : ℕ). mk set.hardware_addr a (eqb (flag_number set.implicit_broadcast) 1)) (read_back 2 set.pan_id F.pan)
    ∙ ap (λ (f : Bool). mk set.hardware_addr set.pan_id f) (flag_back set.implicit_broadcast)

module _ (set : Settings) (p : Parts) where
  case_task : PartFit p.case → task_at (written_parts set p) 20 ≡ p.case.task
  unfolding task_at written_parts number_at
  case_task F =
      ap (λ (t : ℕ). record { token = t; buffer = p.case.task.buffer; length = number_at (written_parts set p) 25 2 }) (read_back 4 p.case.task.token F.0)
      ∙ ap (λ (l : ℕ). record { token = p.case.task.token; buffer = p.case.task.buffer; length = l }) (read_back 2 p.case.task.length F.2)

  next_task : PartFit p.next → task_at (written_parts set p) 27 ≡ p.next.task
  unfolding task_at written_parts number_at
  next_task F =
      ap (λ (t : ℕ). record { token = t; buffer = p.next.task.buffer; length = number_at (written_parts set p) 32 2 }) (read_back 4 p.next.task.token F.0)
      ∙ ap (λ (l : ℕ). record { token = p.next.task.token; buffer = p.next.task.buffer; length = l }) (read_back 2 p.next.task.length F.2)

  time_back : PartFit p.case → number_at (written_parts set p) 37 8 ≡ p.case.time
  unfolding written_parts number_at
  time_back F = read_back 8 p.case.time F.4

  parts_back : PartFit p.case → PartFit p.next → parts_at (written_parts set p) ≡ record { kind = p.kind; case = p.case; next = entered_part p.next }
  unfolding parts_at written_parts
  parts_back F G =
      let mk : TxTask → TxTask → ℕ → Parts =
      λ case next time. record {
        kind = p.kind;
        case = record { code = p.case.code; task = case; number = p.case.number; spacing = p.case.spacing; time = time };
        next = record { code = p.next.code; task = next; number = p.next.number; spacing = 0; time = 0 };
      } in
      ap (λ (t : TxTask). mk t (task_at (written_parts set p) 27) (number_at (written_parts set p) 37 8)) (case_task F)
      ∙ ap (λ (t : TxTask). mk p.case.task t (number_at (written_parts set p) 37 8)) (next_task G)
      ∙ ap (λ (t : ℕ). mk p.case.task p.next.task t) (time_back F)

-- ---- The laws

pub reads_back : ReadsBack
unfolding state_at written_state
reads_back s F =
    let p = wait_parts_of s.wait in
    ap (λ (set : Settings). record { set = set; wait = wait_at (parts_at (written_parts s.set p)) (parts_at (written_parts s.set p)).kind }) (settings_back s.set p F.settings)
    ∙ ap (λ (q : Parts). record { set = s.set; wait = wait_at q q.kind }) (parts_back s.set p F.case F.next)
    ∙ ap (λ (w : Wait). record { set = s.set; wait = w }) (wait_back s.wait)

pub held : (s : State) → StateFits s → valid_state s ≡ true → holds_state (written_state s) ≡ true
unfolding holds_state
held s F v = simp (reads_back s F, v, same_refl (written_state s))

-- ---- What bytes are read as fits

module _ (bytes : List ℕ) (A : AllBytes bytes) where
  settings_fit : SettingsFit (settings_at bytes)
  unfolding settings_at
  settings_fit =
      record {
        count = byte_at bytes A 0;
        headroom = byte_at bytes A 1;
        tailroom = byte_at bytes A 2;
        fcs = byte_at bytes A 3;
        address = fits_bytes bytes A 4 8;
        pan = fits_bytes bytes A 12 2;
        ack = byte_at bytes A 15;
        spare = byte_at bytes A 16;
      }

  parts_fit : PartFit (parts_at bytes).case × PartFit (parts_at bytes).next
  unfolding parts_at task_at
  parts_fit = (
    (fits_bytes bytes A 20 4, byte_at bytes A 24, fits_bytes bytes A 25 2, byte_at bytes A 34, fits_bytes bytes A 37 8),
    (fits_bytes bytes A 27 4, byte_at bytes A 31, fits_bytes bytes A 32 2, byte_at bytes A 35, omega arith),
  )

  state_fits : StateFits (state_at bytes)
  unfolding state_at
  state_fits =
      let W = wait_fits (parts_at bytes) parts_fit.0 parts_fit.1 in
      record { settings = settings_fit; case = W.0; next = W.1 }

read_from : (bytes : List ℕ) → AllBytes bytes → holds_state bytes ≡ true → WrittenFrom bytes
unfolding holds_state
read_from bytes A h =
    let s = state_at bytes in
    let both = and_parts (valid_state s) (same_list (written_state s) bytes) h in
    record {
      state = s;
      fits = state_fits bytes A;
      valid = both.0;
      written = same_true (written_state s) bytes both.1;
    }

pub held_exactly : HeldExactly
held_exactly bytes A = (read_from bytes A, λ w. rw (← w.written) (held w.state w.fits w.valid))
