-- The laws of the acknowledgement that specs/Ack.antt states.
-- Assumes nothing.
use Prim.Native.Nat.{ℕ, ◌+◌, ◌*◌, ◌/◌, ◌%◌, ◌^◌, ◌≤◌, ◌<◌}
use mathlib.Core.Path.{◌≡◌, ◌∙◌, sym, ap}
use mathlib.Core.Bool.{Bool, true, false, ◌&&◌, and-false}
use Rattle.std.specs.Cmp.{first_so, second_so}
use mathlib.Core.Logic.{inl, inr, ⊎_elim}
use mathlib.Core.List.{List}
use native.Mathlib.Nat.{eq-or-lt_of_le, mod-mod}
use native.Mathlib.Omega.{arith}
use borrow.Author.Tests.{eqb-true, le-leb, lt-leb}
use lib.Bits.{and_mask, and_mod, and_shr}
use lib.Dec.{eqb}
use lib.ListN.{length, get_or, set, take, drop, length-set, length-take, length-drop}
use lib.Seq.{get_or-set_same, get_or-set_other, get_or-take, get_or-drop}
use Rattle.ack.specs.Ack.{imm_ack_frame_at, seq_nr_set_at, mask_efff, three_bytes, acknowledges}
use Rattle.ack.specs.Ack.{OneNumber, ThreeBytes, ShortFramesNever, TwoControls, ReadBack, ThreePlaces, OnePlace}

third_byte : (frame : List ℕ) (len k : ℕ) → acknowledges frame len k ≡ true → get_or frame 2 0 ≡ k
unfolding acknowledges
third_byte frame len k h =
    let control = eqb (mask_efff (get_or frame 0 0 + 256 * get_or frame 1 0)) 2 in
    let number = eqb (get_or frame 2 0) k in
    eqb-true _ _ (second_so control number (second_so (three_bytes frame len) (control && number) h))

pub one_number : OneNumber
one_number frame len j k p q = sym (third_byte frame len j p) ∙ third_byte frame len k q

pub three_bytes_lem : ThreeBytes
unfolding acknowledges three_bytes
three_bytes_lem frame len k h =
    let control = eqb (mask_efff (get_or frame 0 0 + 256 * get_or frame 1 0)) 2 in
    eqb-true _ _ (first_so (eqb len 3) _ (first_so (three_bytes frame len) (control && eqb (get_or frame 2 0) k) h))

not_three : (frame : List ℕ) (len : ℕ) → length frame < 3 → three_bytes frame len ≡ false
unfolding three_bytes
not_three frame len h = ap (λ (b : Bool). eqb len 3 && b) (lt-leb 3 (length frame) h) ∙ and-false (eqb len 3)

pub short_frames_never : ShortFramesNever
unfolding acknowledges
short_frames_never frame len k h = rw (not_three frame len h)

-- bits 0 to 11 and bits 13 to 15 pass
low_bits : (control : ℕ) → mask_efff control % 2 ^ 12 ≡ control % 2 ^ 12
unfolding mask_efff
low_bits control = and_mod control _ 12 ∙ and_mask (control % 2 ^ 12) 12 ∙ mod-mod control (2 ^ 12)

high_bits : (control : ℕ) → mask_efff control / 2 ^ 13 ≡ control / 2 ^ 13 % 2 ^ 3
unfolding mask_efff
high_bits control = and_shr control _ 13 ∙ and_mask (control / 2 ^ 13) 3

pub two_controls : TwoControls
two_controls control h e =
    let low : 2 ≡ control % 2 ^ 12 = rw e at (low_bits control) in
    let high : 0 ≡ control / 2 ^ 13 % 2 ^ 3 = rw e at (high_bits control) in
    let below : control < 2 ^ 13 = omega arith in
    let at_least : 2 ≤ control = omega arith in
    ⊎_elim (λ same. inl (sym same)) (λ more. inr (omega arith)) (eq-or-lt_of_le at_least)

pub three_places : ThreePlaces
unfolding imm_ack_frame_at
three_places pool begin =
    record {
      same_length = simp length-set;
      elsewhere =
          λ at h.
          let one = set pool begin 2 in
          let two = set one (begin + 1) 16 in
          get_or-set_other two (begin + 2) at 0 0 (λ e. h (omega arith, omega arith))
          ∙ get_or-set_other one (begin + 1) at 16 0 (λ e. h (omega arith, omega arith))
          ∙ get_or-set_other pool begin at 2 0 (λ e. h (omega arith, omega arith));
    }

pub one_place : OnePlace
unfolding seq_nr_set_at
one_place pool begin number =
    record { same_length = simp length-set; elsewhere = λ at h. get_or-set_other pool (begin + 2) at number 0 h }

-- a byte of the frame is a byte of the pool
byte_of : (l : List ℕ) (begin n i : ℕ) → i < n → get_or (take n (drop begin l)) i 0 ≡ get_or l (begin + i) 0
byte_of l begin n i h = get_or-take n (drop begin l) i 0 h ∙ get_or-drop begin l i 0

module _ (pool : List ℕ) (begin number : ℕ) (h : begin + 3 ≤ length pool) where
  abbrev one : List ℕ
  one = set pool begin 2

  abbrev two : List ℕ
  two = set one (begin + 1) 16

  abbrev three : List ℕ
  three = set two (begin + 2) 0

  low : get_or (set three (begin + 2) number) (begin + 0) 0 ≡ 2
  low =
      let e : begin + 0 ≡ begin = omega arith in
      rw e
      (get_or-set_other three (begin + 2) begin number 0 (λ d. omega arith)
      ∙ get_or-set_other two (begin + 2) begin 0 0 (λ d. omega arith)
      ∙ get_or-set_other one (begin + 1) begin 16 0 (λ d. omega arith)
      ∙ get_or-set_same pool begin 2 0 (omega arith))

  high : get_or (set three (begin + 2) number) (begin + 1) 0 ≡ 16
  high =
      get_or-set_other three (begin + 2) (begin + 1) number 0 (λ d. omega arith)
      ∙ get_or-set_other two (begin + 2) (begin + 1) 0 0 (λ d. omega arith)
      ∙ get_or-set_same one (begin + 1) 16 0 (simp length-set (omega arith))

  third : get_or (set three (begin + 2) number) (begin + 2) 0 ≡ number
  third = get_or-set_same three (begin + 2) number 0 (simp length-set (omega arith))

pub read_back : ReadBack
unfolding acknowledges three_bytes mask_efff seq_nr_set_at imm_ack_frame_at
read_back pool begin number n k h m =
    let l = seq_nr_set_at (imm_ack_frame_at pool begin) begin number in
    let whole : 3 ≤ length (take n (drop begin l)) = simp (length-take, length-drop, length-set) (omega arith) in
    rw (
      le-leb 3 (length (take n (drop begin l))) whole,
      byte_of l begin n 0 (omega arith) ∙ low pool begin number h,
      byte_of l begin n 1 (omega arith) ∙ high pool begin number h,
      byte_of l begin n 2 (omega arith) ∙ third pool begin number h,
    )
