-- The laws of settings and of the frame record that specs/Settings.antt and specs/RadioFrame.antt state.
-- Assumes nothing.
use Rattle.std.proofs.Common.{Some, None, ℕ}
use Prim.Native.Nat.{ℕ, ◌*◌, ◌≤◌}
use mathlib.Core.Path.{◌≡◌, refl, ap}
use mathlib.Core.Logic.{◌⊎◌, inl, inr, ⊎_elim}
use mathlib.Core.Bool.{Bool, true, false, cond, not, ◌&&◌, ◌||◌}
use native.Mathlib.Omega.{arith}
use Rattle.std.proofs.lemmas.Bool.{or_parts, or_cases}
use borrow.Author.Tests.{ltb-false, leb-false, eqb-true, eqb-false, not-false, le-ltb, lt-leb, eq-eqb, ne_eqb}
use lib.Dec.{ltb, leb, eqb}
use lib.ListN.{length, get_or}
use Rattle.frame_control.specs.FrameControl.{frame_control_of}
use Rattle.radio_frame.specs.declared.Settings.{Settings}
use Rattle.radio_frame.specs.Settings.{buffer_length, pool_unfit, rooms_unfit, own_buffers_unfit, settings_refusal}
use Rattle.radio_frame.specs.Settings.{Unrefused, Fit, OneOfFour, ZeroIfNone, ZeroIfFit}
use Rattle.radio_frame.specs.RadioFrame.{frame_start, radio_frame_of, ack_seq_num_of, PartsPlaced, ShortFramesNever}

-- the first of three flags
abbrev first : Bool → Bool → Bool → ℕ
first a b c = cond a 2 (cond b 3 (cond c 4 0))

answer : (a b c : Bool) → (first a b c ≡ 0) ⊎ (first a b c ≡ 2) ⊎ (first a b c ≡ 3) ⊎ (first a b c ≡ 4)
answer true b c = inr (inl refl)
answer false true c = inr (inr (inl refl))
answer false false true = inr (inr (inr refl))
answer false false false = inl refl

none : (a b c : Bool) → first a b c ≡ 0 → (a ≡ false) × (b ≡ false) × (c ≡ false)
none true b c h = absurd (omega arith)
none false true c h = absurd (omega arith)
none false false true h = absurd (omega arith)
none false false false h = (refl, refl, refl)

pub one_of_four : OneOfFour
unfolding settings_refusal
one_of_four s pool = answer (pool_unfit s pool) (rooms_unfit s) (own_buffers_unfit s)

pub zero_if_none : ZeroIfNone
unfolding settings_refusal
zero_if_none s pool = (
  λ h.
      let n = none (pool_unfit s pool) (rooms_unfit s) (own_buffers_unfit s) h in
      record { two = n.0; three = n.1; four = n.2 },
  λ u. rw (u.two, u.three, u.four),
)

-- each flag that does not hold
fit : (s : Settings) (pool : ℕ) → Unrefused s pool → Fit s pool
unfolding pool_unfit rooms_unfit own_buffers_unfit
fit s pool u =
    let outside = or_parts (ltb s.count 3 || ltb 32 s.count) (not (eqb pool (buffer_length * s.count))) u.two in
    let count = or_parts (ltb s.count 3) (ltb 32 s.count) outside.0 in
    let two-or-four = eqb s.fcs_length 2 || eqb s.fcs_length 4 in
    let lengths = or_parts (ltb 8 s.headroom || ltb 8 s.tailroom) (not two-or-four) u.three in
    let rooms = or_parts (ltb 8 s.headroom) (ltb 8 s.tailroom) lengths.0 in
    let above = leb s.count s.ack_buffer || leb s.count s.spare_buffer in
    let own = or_parts (eqb s.ack_buffer s.spare_buffer) above u.four in
    let below = or_parts (leb s.count s.ack_buffer) (leb s.count s.spare_buffer) own.1 in
    record {
      low = ltb-false _ _ count.0;
      high = ltb-false _ _ count.1;
      pool_length = eqb-true _ _ (not-false _ outside.1);
      headroom = ltb-false _ _ rooms.0;
      tailroom = ltb-false _ _ rooms.1;
      fcs =
          ⊎_elim (λ e. inl (eqb-true _ _ e)) (λ e. inr (eqb-true _ _ e))
          (or_cases (eqb s.fcs_length 2) (eqb s.fcs_length 4) (not-false _ lengths.1));
      ack = leb-false _ _ below.0;
      spare = leb-false _ _ below.1;
      different = eqb-false _ _ own.0;
    }

unrefused : (s : Settings) (pool : ℕ) → Fit s pool → Unrefused s pool
unfolding pool_unfit rooms_unfit own_buffers_unfit
unrefused s pool f =
    let
    fcs : (eqb s.fcs_length 2 || eqb s.fcs_length 4) ≡ true =
    ⊎_elim (λ e. rw e) (λ e. rw e) f.fcs
    in
    record {
      two = rw (le-ltb _ _ f.low, le-ltb _ _ f.high, eq-eqb _ _ f.pool_length);
      three = rw (le-ltb _ _ f.headroom, le-ltb _ _ f.tailroom, fcs);
      four = rw (ne_eqb _ _ f.different, lt-leb _ _ f.ack, lt-leb _ _ f.spare);
    }

pub zero_if_fit : ZeroIfFit
zero_if_fit s pool =
    (λ h. fit s pool ((zero_if_none s pool).0 h), λ f. (zero_if_none s pool).1 (unrefused s pool f))

pub parts_placed : PartsPlaced
unfolding radio_frame_of frame_start
parts_placed s pool buffer len h b l =
    let f = (zero_if_fit s pool).0 h in
    let four : s.fcs_length ≤ 4 = ⊎_elim (λ e. omega arith) (λ e. omega arith) f.fcs in
    record {
      begins = refl;
      frame = (refl, refl);
      checksum = refl;
      rest = refl;
      in_order = (omega arith, omega arith, omega arith, omega arith);
      longest = omega arith;
      in_buffer = omega arith;
      in_pool = omega arith;
    }

pub short_frames_never : ShortFramesNever
unfolding ack_seq_num_of
short_frames_never frame h =
    let fc = frame_control_of (get_or frame 0 0) (get_or frame 1 0) in
    ap
    (λ (three : Bool).
    cond (three && (fc.ack_request && not fc.sequence_number_suppression)) (Some (get_or frame 2 0)) None)
    (lt-leb 3 (length frame) h)
