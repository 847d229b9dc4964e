-- The laws of specs/Header.antt.
-- Assumes nothing.
use Rattle.std.proofs.lemmas.Option.{none-some}
use Rattle.std.proofs.Common.{Option, Some, None, ℕ}
use Prim.Native.Nat.{ℕ, zero, suc, ◌+◌, ◌≤◌, ◌<◌}
use mathlib.Core.Bool.{Bool, true, false, cond}
use mathlib.Core.Path.{◌≡◌, refl}
use mathlib.Core.List.{List, ◌++◌}
use native.Mathlib.Omega.{arith}
use lib.ListN.{length, length-append, get_or, get_or-append}
use borrow.Author.Tests.{leb-true, le-leb}
use Rattle.util.specs.Bytes.{number_at}
use Rattle.frame_control.specs.declared.AddressingMode.{AddressingMode}
use Rattle.frame_control.specs.declared.AddressingMode.TheVariants.{Absent, Unknown, Short, Extended}
use Rattle.frame_control.specs.declared.FrameControl.{FrameControl}
use Rattle.frame_control.specs.FrameControl.{well_formed}
use Rattle.addressing.specs.Addressing.{address_length, present, pan_id_length, pan_ids_of, lengths_of}
use Rattle.addressing.proofs.Laws.{lengths_bounded}
use Rattle.header.specs.declared.AddressingFields.{AddressingFields}
use Rattle.header.specs.Header.{addressing_begin, dst_address_begin, src_pan_id_begin, src_address_begin, header_length, arrived, frame_control_fact, seq_nr_fact, pan_id_of, address_of, addressing_fact, pan_id_bytes, src_pan_id_fact, address_fact, addressing_end_fact, control_alone, numbered_info, after_control, info_of, HeaderLengthBounded, HeaderBytesDecide, AddressingNeedsHeader, EndsHeader, EndIsHeaderLength, Fact, Says, said, FactsOnlyGrow}
use Rattle.header.proofs.Fields.{chose_first, control_there, begin_bounded}

pub header_length_bounded : HeaderLengthBounded
header_length_bounded fc =
    let b = begin_bounded fc in
    let l = lengths_bounded fc in
    (omega arith, omega arith)

-- a fact after control says that control is well formed
module _ (frame : List ℕ) where
  addressing_there : (fc : FrameControl) (fields : AddressingFields) → frame_control_fact frame ≡ Some fc → (info_of frame).addressing_fields ≡ Some fields → header_length fc ≤ length frame
  unfolding info_of after_control addressing_fact
  addressing_there fc fields there e = go (well_formed fc) (rw there at e)
    where
      go : (w : Bool) → (cond w (numbered_info frame fc (seq_nr_fact frame fc)) (control_alone (Some fc))).addressing_fields ≡ Some fields → header_length fc ≤ length frame
      go true f = leb-true _ _ (chose_first (arrived frame (header_length fc)) f (none-some _)).0
      go false f = absurd (none-some _ f)

  ends : (end : ℕ) (c : Option FrameControl) → frame_control_fact frame ≡ c → (after_control frame c).addressing_end ≡ Some end → EndsHeader frame end
  unfolding info_of after_control addressing_end_fact
  ends end None there e = absurd (none-some _ e)
  ends end (Some fc) there e = go (well_formed fc) refl e
    where
      go : (w : Bool) → well_formed fc ≡ w → (cond w (numbered_info frame fc (seq_nr_fact frame fc)) (control_alone (Some fc))).addressing_end ≡ Some end → EndsHeader frame end
      go false v f = absurd (none-some _ f)
      go true v f =
          let b = chose_first (arrived frame (header_length fc)) f (none-some _) in
          let g : Some (header_length fc) ≡ Some end = b.1 in
          let h : end ≡ header_length fc = cc in
          let k = header_length_bounded fc in
          let l = leb-true (header_length fc) (length frame) b.0 in
          record { control = fc; there = rw (there, v); end_is = h; two_at_least = rw h k.0; at_most = rw h k.1; all_arrived = rw h l }

pub addressing_needs_header : AddressingNeedsHeader
addressing_needs_header = addressing_there

pub end_is_header_length : EndIsHeaderLength
unfolding info_of
end_is_header_length frame end e = ends frame end (frame_control_fact frame) refl e

-- ---- What the arrived bytes hold, more bytes or not
module _ (frame more : List ℕ) where
  abbrev later : List ℕ
  later = frame ++ more

  longer : length frame ≤ length later
  longer = simp length-append (omega arith)

  -- a test of arrived bytes that decides between a fact and its being missing: if they have arrived, more bytes change nothing
  stays : {A : Type 0} (missing : A) (place : ℕ) {there after : A} → place ≤ length frame → after ≡ there → cond (arrived later place) after missing ≡ cond (arrived frame place) there missing
  stays missing place h e = rw (e, le-leb place (length frame) h, le-leb place (length later) (omega (arith, longer)))

  -- and a fact that is there stays there
  grows : {A : Type 0} (place : ℕ) {there after : Option A} {v : A} → (place ≤ length frame → after ≡ there)
      → cond (arrived frame place) there None ≡ Some v → cond (arrived later place) after None ≡ Some v
  grows {A} place {there} {after} {v} same e = go (arrived frame place) refl e
    where
      go : (b : Bool) → arrived frame place ≡ b → cond b there None ≡ Some v → cond (arrived later place) after None ≡ Some v
      go true p f =
          let k = leb-true place (length frame) p in
          rw (same k, le-leb place (length later) (omega (arith, longer))) f
      go false p f = absurd (none-some _ f)

  pub number_stays : (at n : ℕ) → at + n ≤ length frame → number_at later at n ≡ number_at frame at n
  unfolding number_at
  number_stays at zero h = refl
  number_stays at (suc n) h =
      let k : at < length frame = omega arith in
      rw (get_or-append frame more 0 at k, number_stays (at + 1) n (omega arith))

  pub pan_stays : (at : ℕ) (stands : Bool) → at + pan_id_length stands ≤ length frame → pan_id_of later at (pan_id_length stands) ≡ pan_id_of frame at (pan_id_length stands)
  unfolding pan_id_of pan_id_length
  pan_stays at true h = rw (number_stays at 2 h)
  pan_stays at false h = refl

  pub address_stays : (at : ℕ) (mode : AddressingMode) → at + address_length mode ≤ length frame → address_of later at mode ≡ address_of frame at mode
  unfolding address_of address_length
  address_stays at Absent h = refl
  address_stays at Unknown h = refl
  address_stays at Short h = rw (number_stays at 2 h)
  address_stays at Extended h = rw (number_stays at 8 h)

  control_stays : 2 ≤ length frame → frame_control_fact later ≡ frame_control_fact frame
  unfolding frame_control_fact
  control_stays h = stays None 2 h (rw (get_or-append frame more 0 0 (omega arith), get_or-append frame more 0 1 (omega arith)))

  byte_stays : 3 ≤ length frame → Some (get_or later 2 0) ≡ Some (get_or frame 2 0)
  byte_stays h = rw (get_or-append frame more 0 2 (omega arith))

  pan_bytes_stay : (at : ℕ) → at + 2 ≤ length frame → Some (number_at later at 2) ≡ Some (number_at frame at 2)
  pan_bytes_stay at h = rw (number_stays at 2 h)

  module _ (fc : FrameControl) where
    fields_stay : header_length fc ≤ length frame
        → ◌≡◌ {A = Option AddressingFields} (Some (record { dst_pan_id = pan_id_of later (addressing_begin fc) (lengths_of fc).dst_pan_id; dst_address = address_of later (dst_address_begin fc) fc.dst_addressing_mode }))
        (Some (record { dst_pan_id = pan_id_of frame (addressing_begin fc) (lengths_of fc).dst_pan_id; dst_address = address_of frame (dst_address_begin fc) fc.dst_addressing_mode }))
    unfolding lengths_of
    fields_stay h = rw (pan_stays (addressing_begin fc) (pan_ids_of fc).dst (omega arith), address_stays (dst_address_begin fc) fc.dst_addressing_mode (omega arith))

    -- Once the header's bytes have arrived, each fact stays as it is.
    seq_nr_stays : header_length fc ≤ length frame → seq_nr_fact later fc ≡ seq_nr_fact frame fc
    unfolding seq_nr_fact addressing_begin
    seq_nr_stays h = go fc.sequence_number_suppression refl
      where
        go : (s : Bool) → fc.sequence_number_suppression ≡ s → cond s None (cond (arrived later 3) (Some (get_or later 2 0)) None) ≡ cond s None (cond (arrived frame 3) (Some (get_or frame 2 0)) None)
        go true e = refl
        go false e =
            let b : addressing_begin fc ≡ 3 = rw e in
            let k : 3 ≤ length frame = omega arith in
            stays None 3 k (byte_stays k)

    src_pan_stays : header_length fc ≤ length frame → src_pan_id_fact later fc ≡ src_pan_id_fact frame fc
    unfolding src_pan_id_fact lengths_of pan_id_length
    src_pan_stays h = go (present fc.src_addressing_mode) (pan_ids_of fc).src refl (pan_ids_of fc).dst refl
      where
        go : (source own : Bool) → (pan_ids_of fc).src ≡ own → (dst : Bool) → (pan_ids_of fc).dst ≡ dst
            → cond source (cond own (pan_id_bytes later (src_pan_id_begin fc)) (cond dst (pan_id_bytes later (addressing_begin fc)) None)) None
            ≡ cond source (cond own (pan_id_bytes frame (src_pan_id_begin fc)) (cond dst (pan_id_bytes frame (addressing_begin fc)) None)) None
        go false own o dst d = refl
        go true true o dst d =
            let w : (lengths_of fc).src_pan_id ≡ 2 = rw o in
            let k : src_pan_id_begin fc + 2 ≤ length frame = omega arith in
            stays None (src_pan_id_begin fc + 2) k (pan_bytes_stay (src_pan_id_begin fc) k)
        go true false o true d =
            let w : (lengths_of fc).dst_pan_id ≡ 2 = rw d in
            let k : addressing_begin fc + 2 ≤ length frame = omega arith in
            stays None (addressing_begin fc + 2) k (pan_bytes_stay (addressing_begin fc) k)
        go true false o false d = refl

    address_fact_stays : (at : ℕ) (mode : AddressingMode) → at + address_length mode ≤ length frame → address_fact later at mode ≡ address_fact frame at mode
    unfolding address_fact address_of address_length
    address_fact_stays at Absent h = refl
    address_fact_stays at Unknown h = refl
    address_fact_stays at Short h = stays None (at + 2) h (rw (number_stays at 2 h))
    address_fact_stays at Extended h = stays None (at + 8) h (rw (number_stays at 8 h))

    info_stays : header_length fc ≤ length frame → numbered_info later fc (seq_nr_fact later fc) ≡ numbered_info frame fc (seq_nr_fact frame fc)
    unfolding addressing_fact addressing_end_fact lengths_of
    info_stays h =
        rw (
          seq_nr_stays h,
          stays None (header_length fc) h (fields_stay h),
          src_pan_stays h,
          address_fact_stays (src_address_begin fc) fc.src_addressing_mode h,
          stays None (header_length fc) {there = Some (header_length fc)} h refl,
        )

    -- Each fact that is there stays there.
    seq_nr_grows : {v : ℕ} → seq_nr_fact frame fc ≡ Some v → seq_nr_fact later fc ≡ Some v
    unfolding seq_nr_fact
    seq_nr_grows {v} e = go fc.sequence_number_suppression e
      where
        go : (s : Bool) → (cond s None (cond (arrived frame 3) (Some (get_or frame 2 0)) None)) ≡ Some v → (cond s None (cond (arrived later 3) (Some (get_or later 2 0)) None)) ≡ Some v
        go true f = f
        go false f = grows 3 byte_stays f

    src_pan_grows : {v : ℕ} → src_pan_id_fact frame fc ≡ Some v → src_pan_id_fact later fc ≡ Some v
    unfolding src_pan_id_fact
    src_pan_grows {v} e = go (present fc.src_addressing_mode) (pan_ids_of fc).src (pan_ids_of fc).dst e
      where
        go : (source own dst : Bool) → (cond source (cond own (pan_id_bytes frame (src_pan_id_begin fc)) (cond dst (pan_id_bytes frame (addressing_begin fc)) None)) None) ≡ Some v
            → (cond source (cond own (pan_id_bytes later (src_pan_id_begin fc)) (cond dst (pan_id_bytes later (addressing_begin fc)) None)) None) ≡ Some v
        go false own dst f = f
        go true true dst f = grows (src_pan_id_begin fc + 2) (pan_bytes_stay (src_pan_id_begin fc)) f
        go true false true f = grows (addressing_begin fc + 2) (pan_bytes_stay (addressing_begin fc)) f
        go true false false f = f

    address_grows : (at : ℕ) (mode : AddressingMode) {v : _} → address_fact frame at mode ≡ Some v → address_fact later at mode ≡ Some v
    unfolding address_fact address_of
    address_grows at Absent e = e
    address_grows at Unknown e = e
    address_grows at Short e = grows (at + 2) (λ h. rw (number_stays at 2 h)) e
    address_grows at Extended e = grows (at + 8) (λ h. rw (number_stays at 8 h)) e

    info_grows : (fact : Fact) (v : Says fact) → said fact (numbered_info frame fc (seq_nr_fact frame fc)) ≡ Some v → said fact (numbered_info later fc (seq_nr_fact later fc)) ≡ Some v
    unfolding addressing_fact addressing_end_fact
    info_grows Fact.control v e = e
    info_grows Fact.number v e = seq_nr_grows e
    info_grows Fact.addressing v e = grows (header_length fc) fields_stay e
    info_grows Fact.src_pan_id v e = src_pan_grows e
    info_grows Fact.src_address v e = address_grows (src_address_begin fc) fc.src_addressing_mode e
    info_grows Fact.end v e = grows (header_length fc) (λ h. refl) e

pub header_bytes_decide : HeaderBytesDecide
unfolding info_of after_control
header_bytes_decide frame more fc there h = rw (control_stays frame more (control_there frame there), there, info_stays frame more fc h)

-- without control there is no fact
nothing_said : (fact : Fact) (v : Says fact) → said fact (control_alone None) ≡ Some v → ⊥
nothing_said Fact.control v e = none-some _ e
nothing_said Fact.number v e = none-some _ e
nothing_said Fact.addressing v e = none-some _ e
nothing_said Fact.src_pan_id v e = none-some _ e
nothing_said Fact.src_address v e = none-some _ e
nothing_said Fact.end v e = none-some _ e

pub facts_only_grow : FactsOnlyGrow
unfolding info_of after_control
facts_only_grow fact frame more v e = go (frame_control_fact frame) refl e
  where
    known : (fc : FrameControl) (w : Bool) → said fact (cond w (numbered_info frame fc (seq_nr_fact frame fc)) (control_alone (Some fc))) ≡ Some v
        → said fact (cond w (numbered_info (frame ++ more) fc (seq_nr_fact (frame ++ more) fc)) (control_alone (Some fc))) ≡ Some v
    known fc true f = info_grows frame more fc fact v f
    known fc false f = f

    go : (c : Option FrameControl) → frame_control_fact frame ≡ c → said fact (after_control frame c) ≡ Some v → said fact (after_control (frame ++ more) (frame_control_fact (frame ++ more))) ≡ Some v
    go None there f = absurd (nothing_said fact v f)
    go (Some fc) there f = rw (control_stays frame more (control_there frame there), there) (known fc (well_formed fc) f)
