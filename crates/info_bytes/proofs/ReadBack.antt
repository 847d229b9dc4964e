-- The facts of a frame are read back from their bytes.
-- Assumes nothing.
use Rattle.std.proofs.lemmas.Option.{none-some}
use Rattle.std.proofs.Common.{Option, Some, None, ℕ}
use Rattle.std.specs.Option.{unwrap_or}
use Prim.Native.Nat.{ℕ, ◌+◌, ◌^◌, ◌<◌}
use mathlib.Core.Path.{◌≡◌, refl, sym, ap}
use mathlib.Core.Bool.{Bool, true, false, cond}
use mathlib.Core.List.{List}
use native.Mathlib.Omega.{arith}
use lib.Dec.{eqb}
use lib.ListN.{get_or}
use borrow.Author.Tests.{ne_eqb}
use Rattle.util.specs.Bytes.{number_at, bytes_of, AllBytes}
use Rattle.util.proofs.Numbers.{read_back, fits_bytes}
use Rattle.frame_control.specs.declared.AddressingMode.{AddressingMode}
use Rattle.frame_control.specs.declared.AddressingMode.TheVariants.{Absent, Unknown, Short, Extended}
use Rattle.frame_control.specs.declared.FrameControl.{FrameControl}
use Rattle.frame_control.specs.FrameControl.{frame_control_of, well_formed}
use Rattle.header.specs.declared.Address.{Address}
use Rattle.header.specs.declared.PreliminaryFrameInfo.{PreliminaryFrameInfo}
use Rattle.addressing.specs.Addressing.{present, pan_ids_of}
use Rattle.header.specs.Header.{addressing_begin, src_pan_id_begin, arrived, header_length, frame_control_fact, pan_id_of, address_of, addressing_fact, src_pan_id_fact, address_fact, addressing_end_fact, after_control, info_of}
use Rattle.header.proofs.Fields.{chose_first}
use Rattle.header.proofs.Laws.{header_length_bounded}
use Rattle.info_bytes.specs.declared.AddressFields.{AddressFields}
use Rattle.info_bytes.specs.Info.{there, beside, address_fields, destination, source, written_facts, written_info, info_at, InfoReadsBack}
use Rattle.header.specs.declared.AddressingFields.{AddressingFields}

-- ---- What the bytes can hold

abbrev ControlFits : ℕ → ℕ → Option FrameControl → Type 0
ControlFits low high (Some fc) = fc ≡ frame_control_of low high
ControlFits low high None = Unit {0}

abbrev PanIdFits : Option ℕ → Type 0
PanIdFits None = Unit {0}
PanIdFits (Some n) = n < 256 ^ 2

abbrev AddressFits : Address → Type 0
AddressFits Address.Absent = Unit {0}
AddressFits (Address.Short a) = a < 256 ^ 8
AddressFits (Address.Extended a) = a < 256 ^ 8

abbrev AddressingFits : Option AddressingFields → Type 0
AddressingFits (Some f) = PanIdFits f.dst_pan_id × AddressFits f.dst_address
AddressingFits None = Unit {0}

abbrev SrcAddressFits : Option Address → Type 0
SrcAddressFits (Some a) = AddressFits a
SrcAddressFits None = Unit {0}

abbrev EndFits : Option ℕ → Type 0
EndFits (Some place) = 0 < place
EndFits None = Unit {0}

record Fits (low high : ℕ) (info : PreliminaryFrameInfo) : Type 0 where
  control : ControlFits low high info.frame_control
  addressing : AddressingFits info.addressing_fields
  src_pan_id : PanIdFits info.src_pan_id
  src_address : SrcAddressFits info.src_address
  end : EndFits info.addressing_end

-- ---- Each fact by itself, from its numbers

control_back : (low high : ℕ) (f : Option FrameControl) → ControlFits low high f
    → cond (eqb (there f) 1) (Some (frame_control_of (beside f low) (beside f high))) None ≡ f
control_back low high (Some fc) e = ap (λ (x : FrameControl). Some x) (sym e)
control_back low high None e = refl

seq_nr_back : (f : Option ℕ) → cond (eqb (there f) 1) (Some (unwrap_or f 0)) None ≡ f
seq_nr_back (Some n) = refl
seq_nr_back None = refl

abbrev pan_id_from : Option ℕ → Option ℕ
pan_id_from x = cond (eqb (there x) 1) (Some (number_at (bytes_of 2 (unwrap_or x 0)) 0 2)) None

abbrev address_from : AddressFields → Address
address_from x =
    let number = number_at (bytes_of 8 x.number) 0 8 in
    cond (eqb x.mode 2) (Address.Short number) (cond (eqb x.mode 3) (Address.Extended number) Address.Absent)

pan_id_back : (x : Option ℕ) → PanIdFits x → pan_id_from x ≡ x
pan_id_back None F = refl
pan_id_back (Some n) F = ap (λ (k : ℕ). Some k) (read_back 2 n F)

address_back : (x : Address) → AddressFits x → address_from (address_fields x) ≡ x
unfolding address_fields
address_back Address.Absent F = refl
address_back (Address.Short a) F = ap (λ (k : ℕ). Address.Short k) (read_back 8 a F)
address_back (Address.Extended a) F = ap (λ (k : ℕ). Address.Extended k) (read_back 8 a F)

dst_back : (f : Option AddressingFields) → AddressingFits f
    → cond (eqb (there f) 1) (Some (record { dst_pan_id = pan_id_from (destination f).dst_pan_id; dst_address = address_from (address_fields (destination f).dst_address) })) None ≡ f
dst_back (Some f) F =
    let p = pan_id_back f.dst_pan_id F.0 in
    let a = address_back f.dst_address F.1 in
    λ i. Some (record { dst_pan_id = p i; dst_address = a i })
dst_back None F = refl

src_address_back : (f : Option Address) → SrcAddressFits f
    → cond (eqb (there f) 1) (Some (address_from (address_fields (source f)))) None ≡ f
src_address_back (Some a) F = ap (λ (x : Address). Some x) (address_back a F)
src_address_back None F = refl

end_back : (f : Option ℕ) → EndFits f → cond (eqb (unwrap_or f 0) 0) None (Some (unwrap_or f 0)) ≡ f
end_back (Some place) F = simp (ne_eqb place 0 (λ (e : place ≡ 0). omega (arith, F, e)))
end_back None F = refl

facts_back : (low high : ℕ) (info : PreliminaryFrameInfo) → Fits low high info → info_at (written_facts low high info) ≡ info
unfolding info_at written_facts number_at
facts_back low high info F =
    let c = control_back low high info.frame_control F.control in
    let n = seq_nr_back info.seq_nr in
    let d = dst_back info.addressing_fields F.addressing in
    let p = pan_id_back info.src_pan_id F.src_pan_id in
    let s = src_address_back info.src_address F.src_address in
    let e = end_back info.addressing_end F.end in
    λ i. record { frame_control = c i; seq_nr = n i; addressing_fields = d i; src_pan_id = p i; src_address = s i; addressing_end = e i }

-- ---- The facts of bytes fit

-- what holds of both values of a test
of_both : {A : Type 0} (P : A → Type 0) (b : Bool) {x y : A} → P x → P y → P (cond b x y)
of_both P true p q = p
of_both P false p q = q

module _ (frame : List ℕ) (bytes : AllBytes frame) where
  pan_fits : (at len : ℕ) → PanIdFits (pan_id_of frame at len)
  unfolding pan_id_of
  pan_fits at len = of_both PanIdFits (eqb len 0) tt (fits_bytes frame bytes at 2)

  address_fits : (at : ℕ) (mode : AddressingMode) → AddressFits (address_of frame at mode)
  unfolding address_of
  address_fits at Absent = tt
  address_fits at Unknown = tt
  address_fits at Short = let k = fits_bytes frame bytes at 2 in omega (arith, k)
  address_fits at Extended = fits_bytes frame bytes at 8

  src_address_fits : (at : ℕ) (mode : AddressingMode) → SrcAddressFits (address_fact frame at mode)
  unfolding address_fact
  src_address_fits at Absent = tt
  src_address_fits at Unknown = tt
  src_address_fits at Short = of_both SrcAddressFits (arrived frame (at + 2)) (address_fits at Short) tt
  src_address_fits at Extended = of_both SrcAddressFits (arrived frame (at + 8)) (address_fits at Extended) tt

  two_bytes_fit : (at : ℕ) → PanIdFits (cond (arrived frame (at + 2)) (Some (number_at frame at 2)) None)
  two_bytes_fit at = of_both PanIdFits (arrived frame (at + 2)) (fits_bytes frame bytes at 2) tt

  src_pan_id_fits : (fc : FrameControl) → PanIdFits (src_pan_id_fact frame fc)
  unfolding src_pan_id_fact
  src_pan_id_fits fc =
      of_both PanIdFits (present fc.src_addressing_mode)
      (of_both PanIdFits (pan_ids_of fc).src (two_bytes_fit (src_pan_id_begin fc))
      (of_both PanIdFits (pan_ids_of fc).dst (two_bytes_fit (addressing_begin fc)) tt))
      tt

  abbrev Fit : PreliminaryFrameInfo → Type 0
  Fit = Fits (get_or frame 0 0) (get_or frame 1 0)

  facts_fit : (c : Option FrameControl) → frame_control_fact frame ≡ c → Fit (after_control frame c)
  unfolding after_control frame_control_fact addressing_fact addressing_end_fact
  facts_fit None there = record { control = tt; addressing = tt; src_pan_id = tt; src_address = tt; end = tt }
  facts_fit (Some fc) there =
      let f : Some (frame_control_of (get_or frame 0 0) (get_or frame 1 0)) ≡ Some fc = (chose_first (arrived frame 2) there (none-some _)).1 in
      let e : fc ≡ frame_control_of (get_or frame 0 0) (get_or frame 1 0) = cc in
      let k = header_length_bounded fc in
      of_both Fit (well_formed fc)
      (record {
        control = e;
        addressing = of_both AddressingFits (arrived frame (header_length fc)) (pan_fits _ _, address_fits _ _) tt;
        src_pan_id = src_pan_id_fits fc;
        src_address = src_address_fits _ _;
        end = of_both EndFits (arrived frame (header_length fc)) (omega (arith, k.0)) tt;
      })
      (record { control = e; addressing = tt; src_pan_id = tt; src_address = tt; end = tt })

pub info_reads_back : InfoReadsBack
unfolding written_info info_of
info_reads_back frame bytes = facts_back _ _ _ (facts_fit frame bytes (frame_control_fact frame) refl)
