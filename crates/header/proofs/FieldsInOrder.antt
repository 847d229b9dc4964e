-- A header put together from its fields gives them back; an absent source is there with control.
-- Assumes nothing.
use Rattle.std.proofs.Common.{Some, ℕ}
use Prim.Native.Nat.{ℕ, zero, suc, ◌+◌, ◌≤◌}
use mathlib.Core.Bool.{Bool, true, false, cond}
use mathlib.Core.Path.{◌≡◌, refl, ◌∙◌, ap}
use mathlib.Core.List.{List, [], ◌∷◌, ◌++◌}
use native.Mathlib.Omega.{arith}
use lib.ListN.{length, length-append, get_or}
use borrow.Author.Tests.{le-leb}
use Rattle.util.specs.Bytes.{number_at}
use Rattle.frame_control.specs.declared.AddressingMode.{AddressingMode}
use Rattle.frame_control.specs.declared.AddressingMode.TheVariants.{Absent, Unknown, Short, Extended}
use Rattle.frame_control.specs.declared.FrameControl.{FrameControl}
use Rattle.frame_control.specs.FrameControl.{frame_control_of, well_formed}
use Rattle.addressing.specs.Addressing.{address_length, present, pan_id_length, pan_ids_of, lengths_of}
use Rattle.addressing.proofs.Laws.{source_pan_needs_source}
use Rattle.header.specs.declared.Address.{Address}
use Rattle.header.specs.declared.PreliminaryFrameInfo.{PreliminaryFrameInfo}
use Rattle.header.specs.Header.{addressing_begin, dst_address_begin, src_pan_id_begin, src_address_begin, header_length, frame_control_fact, seq_nr_fact, pan_id_of, address_of, addressing_fact, src_pan_id_fact, address_fact, addressing_end_fact, numbered_info, after_control, info_of, FieldsInOrder, AbsentSourceThere}
use Rattle.header.proofs.Laws.{pan_stays, address_stays}

-- ---- What stands after a list

byte_after : (xs ys : List ℕ) (k : ℕ) → get_or (xs ++ ys) (k + length xs) 0 ≡ get_or ys k 0
byte_after [] ys k = let e : k + length {A = ℕ} [] ≡ k = omega arith in ap (λ (i : ℕ). get_or ys i 0) e
byte_after (x ∷ xs) ys k =
    let e : k + length (x ∷ xs) ≡ suc (k + length xs) = omega arith in
    ap (λ (i : ℕ). get_or (x ∷ xs ++ ys) i 0) e ∙ byte_after xs ys k

number_after : (xs ys : List ℕ) (k n : ℕ) → number_at (xs ++ ys) (k + length xs) n ≡ number_at ys k n
unfolding number_at
number_after xs ys k zero = refl
number_after xs ys k (suc n) =
    let e : k + length xs + 1 ≡ k + 1 + length xs = omega arith in
    rw (byte_after xs ys k, e, number_after xs ys (k + 1) n)

-- at the place where it ends
number_next : (xs ys : List ℕ) (at n : ℕ) → at ≡ length xs → number_at (xs ++ ys) at n ≡ number_at ys 0 n
number_next xs ys at n e = let f : at ≡ 0 + length xs = omega (arith, e) in rw (f, number_after xs ys 0 n)

pan_next : (xs ys : List ℕ) (at len : ℕ) → at ≡ length xs → pan_id_of (xs ++ ys) at len ≡ pan_id_of ys 0 len
unfolding pan_id_of
pan_next xs ys at len e = rw (number_next xs ys at 2 e)

address_next : (xs ys : List ℕ) (at : ℕ) (mode : AddressingMode) → at ≡ length xs → address_of (xs ++ ys) at mode ≡ address_of ys 0 mode
unfolding address_of
address_next xs ys at Absent e = refl
address_next xs ys at Unknown e = refl
address_next xs ys at Short e = rw (number_next xs ys at 2 e)
address_next xs ys at Extended e = rw (number_next xs ys at 8 e)

-- an address whose bytes have arrived is there
address_there : (frame : List ℕ) (at : ℕ) (mode : AddressingMode) → at + address_length mode ≤ length frame → address_fact frame at mode ≡ Some (address_of frame at mode)
unfolding address_fact address_of address_length
address_there frame at Absent h = refl
address_there frame at Unknown h = refl
address_there frame at Short h = rw (le-leb (at + 2) (length frame) h)
address_there frame at Extended h = rw (le-leb (at + 8) (length frame) h)

-- the facts after control
read : (low high : ℕ) → well_formed (frame_control_of low high) ≡ true → (rest : List ℕ)
    → info_of (low ∷ high ∷ rest) ≡ numbered_info (low ∷ high ∷ rest) (frame_control_of low high) (seq_nr_fact (low ∷ high ∷ rest) (frame_control_of low high))
unfolding info_of after_control frame_control_fact
read low high v rest = rw (le-leb 2 (length (low ∷ high ∷ rest)) (omega arith), v)

module _ (low high : ℕ) (number dp da sp sa : List ℕ) where
  abbrev fc : FrameControl
  fc = frame_control_of low high

  abbrev head : List ℕ
  head = low ∷ high ∷ number

  -- the frame up to each field's end
  abbrev to_dst_pan : List ℕ
  to_dst_pan = head ++ dp

  abbrev to_dst : List ℕ
  to_dst = to_dst_pan ++ da

  abbrev to_src_pan : List ℕ
  to_src_pan = to_dst ++ sp

  abbrev whole : List ℕ
  whole = to_src_pan ++ sa

  module _ (v : well_formed fc ≡ true) (ln : length number ≡ cond fc.sequence_number_suppression 0 1) (ld : length dp ≡ (lengths_of fc).dst_pan_id)
      (la : length da ≡ (lengths_of fc).dst_address) (lp : length sp ≡ (lengths_of fc).src_pan_id) (ls : length sa ≡ (lengths_of fc).src_address) where
    head_length : addressing_begin fc ≡ length head
    unfolding addressing_begin
    head_length = go fc.sequence_number_suppression ln
      where
        go : (s : Bool) → length number ≡ cond s 0 1 → cond s 2 3 ≡ length head
        go true e = omega (arith, e)
        go false e = omega (arith, e)

    dst_pan_length : dst_address_begin fc ≡ length to_dst_pan
    dst_pan_length = let e : length to_dst_pan ≡ length head + length dp = length-append head dp in omega (arith, e, head_length, ld)

    dst_length : src_pan_id_begin fc ≡ length to_dst
    dst_length = let e : length to_dst ≡ length to_dst_pan + length da = length-append to_dst_pan da in omega (arith, e, dst_pan_length, la)

    src_pan_length : src_address_begin fc ≡ length to_src_pan
    src_pan_length = let e : length to_src_pan ≡ length to_dst + length sp = length-append to_dst sp in omega (arith, e, dst_length, lp)

    whole_length : header_length fc ≡ length whole
    whole_length = let e : length whole ≡ length to_src_pan + length sa = length-append to_src_pan sa in omega (arith, e, src_pan_length, ls)

    own_pan_id : (pan_ids_of fc).src ≡ true → (info_of to_src_pan).src_pan_id ≡ Some (number_at sp 0 2)
    unfolding src_pan_id_fact lengths_of pan_id_length
    own_pan_id o =
        let two : (lengths_of fc).src_pan_id ≡ 2 = rw o in
        let k : src_pan_id_begin fc + 2 ≤ length to_src_pan = omega (arith, two, src_pan_length) in
        ap (λ (i : PreliminaryFrameInfo). i.src_pan_id) (read low high v (((number ++ dp) ++ da) ++ sp))
        ∙ rw (source_pan_needs_source fc o, o, le-leb (src_pan_id_begin fc + 2) (length to_src_pan) k, number_next to_dst sp (src_pan_id_begin fc) 2 dst_length)

    pan_id_of_destination : (pan_ids_of fc).src ≡ false → present fc.src_addressing_mode ≡ true → (pan_ids_of fc).dst ≡ true → (info_of to_dst_pan).src_pan_id ≡ Some (number_at dp 0 2)
    unfolding src_pan_id_fact lengths_of pan_id_length
    pan_id_of_destination o s d =
        let two : (lengths_of fc).dst_pan_id ≡ 2 = rw d in
        let k : addressing_begin fc + 2 ≤ length to_dst_pan = omega (arith, two, dst_pan_length) in
        ap (λ (i : PreliminaryFrameInfo). i.src_pan_id) (read low high v (number ++ dp))
        ∙ rw (s, o, d, le-leb (addressing_begin fc + 2) (length to_dst_pan) k, number_next head dp (addressing_begin fc) 2 head_length)

    source : (info_of whole).src_address ≡ Some (address_of sa 0 fc.src_addressing_mode)
    unfolding lengths_of
    source =
        ap (λ (i : PreliminaryFrameInfo). i.src_address) (read low high v ((((number ++ dp) ++ da) ++ sp) ++ sa))
        ∙ address_there whole (src_address_begin fc) fc.src_addressing_mode (omega (arith, whole_length))
        ∙ ap Some (address_next to_src_pan sa (src_address_begin fc) fc.src_addressing_mode src_pan_length)

    destination : (info_of whole).addressing_fields ≡ Some (record { dst_pan_id = pan_id_of dp 0 (length dp); dst_address = address_of da 0 fc.dst_addressing_mode })
    unfolding addressing_fact lengths_of
    destination =
        let begin = addressing_begin fc in
        let pan = (pan_ids_of fc).dst in
        let mode = fc.dst_addressing_mode in
        let at = dst_address_begin fc in
        let i : begin + pan_id_length pan ≤ length to_dst_pan = omega (arith, dst_pan_length) in
        let j : at + address_length mode ≤ length to_dst = omega (arith, dst_length) in
        let k : length to_dst_pan ≤ length to_dst = omega (arith, dst_length, dst_pan_length) in
        let l : length to_dst ≤ length to_src_pan = omega (arith, dst_length, src_pan_length) in
        let p : pan_id_of whole begin (pan_id_length pan) ≡ pan_id_of dp 0 (pan_id_length pan) =
        pan_stays to_src_pan sa begin pan (omega (arith, i, k, l)) ∙ pan_stays to_dst sp begin pan (omega (arith, i, k)) ∙ pan_stays to_dst_pan da begin pan i ∙ pan_next head dp begin (pan_id_length pan) head_length in
        let a : address_of whole at mode ≡ address_of da 0 mode =
        address_stays to_src_pan sa at mode (omega (arith, j, l)) ∙ address_stays to_dst sp at mode j ∙ address_next to_dst_pan da at mode dst_pan_length in
        ap (λ (i : PreliminaryFrameInfo). i.addressing_fields) (read low high v ((((number ++ dp) ++ da) ++ sp) ++ sa))
        ∙ rw (le-leb (header_length fc) (length whole) (omega (arith, whole_length)), p, a, ld)

    ends : (info_of whole).addressing_end ≡ Some (length whole)
    unfolding addressing_end_fact
    ends =
        ap (λ (i : PreliminaryFrameInfo). i.addressing_end) (read low high v ((((number ++ dp) ++ da) ++ sp) ++ sa))
        ∙ rw (le-leb (header_length fc) (length whole) (omega (arith, whole_length)), whole_length)

pub fields_in_order : FieldsInOrder
fields_in_order low high number dp da sp sa v ln ld la lp ls =
    record {
      own_pan_id = own_pan_id low high number dp da sp sa v ln ld la lp ls;
      pan_id_of_destination = pan_id_of_destination low high number dp da sp sa v ln ld la lp ls;
      source = source low high number dp da sp sa v ln ld la lp ls;
      destination = destination low high number dp da sp sa v ln ld la lp ls;
      ends = ends low high number dp da sp sa v ln ld la lp ls;
    }

absent : (frame : List ℕ) (at : ℕ) (mode : AddressingMode) → present mode ≡ false → address_fact frame at mode ≡ Some Address.Absent
unfolding address_fact present
absent frame at Absent e = refl
absent frame at Unknown e = refl
absent frame at Short e = absurd (let z : ◌≡◌ {A = ℕ} 0 1 = cc in omega arith)
absent frame at Extended e = absurd (let z : ◌≡◌ {A = ℕ} 0 1 = cc in omega arith)

pub absent_source_there : AbsentSourceThere
absent_source_there low high v s =
    ap (λ (i : PreliminaryFrameInfo). i.src_address) (read low high v [])
    ∙ absent (low ∷ high ∷ []) (src_address_begin (frame_control_of low high)) (frame_control_of low high).src_addressing_mode s
