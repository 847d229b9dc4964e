-- What a field that was read, or was missing, says of the bytes that have arrived: the steps of the header reader.
-- Assumes nothing.
use Rattle.std.proofs.lemmas.Option.{none-some}
use Rattle.std.specs.Option.{option_or}
use Rattle.std.proofs.Common.{ap, Option, Some, None, ℕ}
use Prim.Native.Nat.{ℕ, ◌+◌, ◌<◌, ◌≤◌}
use mathlib.Core.Bool.{Bool, true, false, cond, ◌||◌}
use mathlib.Core.Path.{◌≡◌, refl, sym}
use mathlib.Core.List.{List}
use native.Mathlib.Omega.{arith}
use lib.Dec.{eqb, leb}
use lib.ListN.{length, get_or}
use borrow.Author.Tests.{leb-true, leb-false, le-leb, lt-leb}
use Rattle.frame_control.specs.declared.AddressingMode.{AddressingMode}
use Rattle.frame_control.specs.declared.AddressingMode.TheVariants.{Absent, Unknown, Short, Extended}
use Rattle.frame_control.specs.declared.FrameControl.{FrameControl}
use Rattle.frame_control.specs.FrameControl.{well_formed}
use Rattle.addressing.specs.declared.AddressingFieldsLengths.{AddressingFieldsLengths}
use Rattle.addressing.specs.Addressing.{address_length, present, pan_id_length, pan_ids_of, lengths_of, Bounded}
use Rattle.addressing.proofs.Laws.{lengths_bounded, source_pan_needs_source}
use Rattle.header.specs.declared.Address.{Address}
use Rattle.header.specs.Header.{addressing_begin, dst_address_begin, src_pan_id_begin, src_address_begin, header_length, frame_control_fact, seq_nr_fact, pan_id_of, address_of, addressing_fact, pan_id_bytes, src_pan_id_fact, address_fact, src_address_fact, addressing_end_fact, after_control, info_of}
use Rattle.header.specs.Steps.{number_step, pan_id_found, unread_address, inherited_pan_id, before_gap}

-- a test that chose one of two different values
pub chose_first : {A : Type 0} {x y z : A} (b : Bool) → cond b x y ≡ z → (y ≡ z → ⊥) → (b ≡ true) × (x ≡ z)
chose_first true e h = (refl, e)
chose_first false e h = absurd (h e)

pub chose_second : {A : Type 0} {x y : A} (b : Bool) → cond b x y ≡ y → (x ≡ y → ⊥) → b ≡ false
chose_second true e h = absurd (h e)
chose_second false e h = refl

pub begin_bounded : (fc : FrameControl) → (2 ≤ addressing_begin fc) × (addressing_begin fc ≤ 3)
unfolding addressing_begin
begin_bounded fc = go fc.sequence_number_suppression
  where
    go : (s : Bool) → (2 ≤ cond s 2 3) × (cond s 2 3 ≤ 3)
    go true = (omega arith, omega arith)
    go false = (omega arith, omega arith)

module _ (frame : List ℕ) where
  pub control_there : {fc : FrameControl} → frame_control_fact frame ≡ Some fc → 2 ≤ length frame
  unfolding frame_control_fact
  control_there e = leb-true _ _ (chose_first _ e (none-some _)).0

  -- what a passed number says, once control has arrived
  pub record NumberPassed (fc : FrameControl) (n : Option ℕ) (at : ℕ) : Type 0 where
    pub fact : n ≡ seq_nr_fact frame fc
    pub early : at < 4
    pub place : at ≡ addressing_begin fc
    pub arrived : at ≤ length frame

  pub number_there : (fc : FrameControl) {n : Option ℕ} {at : ℕ} → 2 ≤ length frame → number_step frame fc.sequence_number_suppression ≡ Some (n, at) → NumberPassed fc n at
  unfolding number_step seq_nr_fact addressing_begin
  number_there fc {n} {at} h e = go fc.sequence_number_suppression refl e
    where
      go : (s : Bool) → fc.sequence_number_suppression ≡ s → number_step frame s ≡ Some (n, at) → NumberPassed fc n at
      go true q f =
          let q' : ◌≡◌ {A = Option ℕ × ℕ} (None, 2) (n, at) = cc in
          let p : at ≡ 2 = ap (λ (x : Option ℕ × ℕ). x.1) (sym q') in
          let g : n ≡ None = ap (λ (x : Option ℕ × ℕ). x.0) (sym q') in
          record { fact = rw q g; early = omega arith; place = rw q p; arrived = omega arith }
      go false q f =
          let b = chose_first (leb 3 (length frame)) f (none-some _) in
          let k = leb-true 3 (length frame) b.0 in
          let g : ◌≡◌ {A = Option (Option ℕ × ℕ)} (Some (Some (get_or frame 2 0), 3)) (Some (n, at)) = b.1 in
          let q' : ◌≡◌ {A = Option ℕ × ℕ} (Some (get_or frame 2 0), 3) (n, at) = cc in
          let p : at ≡ 3 = ap (λ (x : Option ℕ × ℕ). x.1) (sym q') in
          let i : n ≡ Some (get_or frame 2 0) = ap (λ (x : Option ℕ × ℕ). x.0) (sym q') in
          record { fact = rw (q, b.0) i; early = omega arith; place = rw q p; arrived = omega arith }

  pub number_missing : (s : Bool) → number_step frame s ≡ None → (s ≡ false) × (length frame < 3)
  unfolding number_step
  number_missing true e = absurd (none-some _ (sym e))
  number_missing false e = (refl, leb-false _ _ (chose_second _ e (λ f. none-some _ (sym f))))

  pub pan_there : (at : ℕ) (stands : Bool) {p : Option ℕ} → at ≤ length frame → pan_id_found frame at (pan_id_length stands) ≡ Some p → at + pan_id_length stands ≤ length frame
  unfolding pan_id_found pan_id_length
  pan_there at true h e = leb-true _ _ (chose_first _ e (none-some _)).0
  pan_there at false h e = omega arith

  pub pan_missing : (at : ℕ) (stands : Bool) → pan_id_found frame at (pan_id_length stands) ≡ None → (stands ≡ true) × (length frame < at + 2)
  unfolding pan_id_found pan_id_length
  pan_missing at true e = (refl, leb-false _ _ (chose_second _ e (λ f. none-some _ (sym f))))
  pan_missing at false e = absurd (none-some _ (sym e))

  pub address_there : (at : ℕ) (mode : AddressingMode) {a : Address} → at ≤ length frame → address_fact frame at mode ≡ Some a → at + address_length mode ≤ length frame
  unfolding address_fact address_length
  address_there at Absent h e = omega arith
  address_there at Unknown h e = omega arith
  address_there at Short h e = leb-true _ _ (chose_first _ e (none-some _)).0
  address_there at Extended h e = leb-true _ _ (chose_first _ e (none-some _)).0

  pub address_missing : (at : ℕ) (mode : AddressingMode) → address_fact frame at mode ≡ None → length frame < at + address_length mode
  unfolding address_fact address_length
  address_missing at Absent e = absurd (none-some _ (sym e))
  address_missing at Unknown e = absurd (none-some _ (sym e))
  address_missing at Short e = leb-false _ _ (chose_second _ e (λ f. none-some _ (sym f)))
  address_missing at Extended e = leb-false _ _ (chose_second _ e (λ f. none-some _ (sym f)))

  -- a field that was found is the one that its place holds
  pub pan_is : (at len : ℕ) {p : Option ℕ} → pan_id_found frame at len ≡ Some p → p ≡ pan_id_of frame at len
  unfolding pan_id_found
  pan_is at len {p} e = let f : Some (pan_id_of frame at len) ≡ Some p = (chose_first (eqb len 0 || leb (at + 2) (length frame)) e (none-some _)).1 in cc

  pub address_is : (at : ℕ) (mode : AddressingMode) {a : Address} → address_fact frame at mode ≡ Some a → a ≡ address_of frame at mode
  unfolding address_fact address_of
  address_is at Absent e = cc
  address_is at Unknown e = cc
  address_is at Short {a} e = let f : Some (address_of frame at Short) ≡ Some a = (chose_first (leb (at + 2) (length frame)) e (none-some _)).1 in cc
  address_is at Extended {a} e = let f : Some (address_of frame at Extended) ≡ Some a = (chose_first (leb (at + 8) (length frame)) e (none-some _)).1 in cc

  -- before its place an address is there exactly if it has no bytes
  pub unread : (at : ℕ) (mode : AddressingMode) → length frame ≤ at → unread_address mode ≡ address_fact frame at mode
  unfolding unread_address address_fact
  unread at Absent h = refl
  unread at Unknown h = refl
  unread at Short h = rw (lt-leb (at + 2) (length frame) (omega arith))
  unread at Extended h = rw (lt-leb (at + 8) (length frame) (omega arith))

  -- The source PAN, by whether a PAN stands before the source (own) and before the destination (dst), and where. `abbrev` as in the
  -- definition of the fact.
  abbrev src_pan_of : Bool → Bool → AddressingMode → ℕ → ℕ → Option ℕ
  src_pan_of own dst mode begin place =
      cond (present mode) (cond own (pan_id_bytes frame place) (cond dst (pan_id_bytes frame begin) None)) None

  -- neither PAN has arrived
  no_pan_yet : (own dst : Bool) (mode : AddressingMode) (begin place : ℕ) → begin ≤ place → length frame < begin + 2 → None ≡ src_pan_of own dst mode begin place
  no_pan_yet own dst mode begin place h k = go own dst (present mode)
    where
      go : (own dst source : Bool) → None ≡ cond source (cond own (pan_id_bytes frame place) (cond dst (pan_id_bytes frame begin) None)) None
      go own dst false = refl
      go true dst true = rw (lt-leb (place + 2) (length frame) (omega arith))
      go false true true = rw (lt-leb (begin + 2) (length frame) k)
      go false false true = refl

  -- the destination's was read; the source's own, if it stands, has not arrived
  inherited : (own dst : Bool) (mode : AddressingMode) (begin place : ℕ) {p : Option ℕ} → begin ≤ length frame → pan_id_found frame begin (pan_id_length dst) ≡ Some p → (own ≡ true → length frame < place + 2)
      → inherited_pan_id (pan_id_length own) (address_length mode) p ≡ src_pan_of own dst mode begin place
  unfolding inherited_pan_id pan_id_of pan_id_length address_length present
  inherited own dst mode begin place {p} h e k = rw (pan_is begin (pan_id_length dst) e) (go own dst mode k (pan_there begin dst h e))
    where
      go : (own dst : Bool) (mode : AddressingMode) → (own ≡ true → length frame < place + 2) → begin + pan_id_length dst ≤ length frame
          → inherited_pan_id (pan_id_length own) (address_length mode) (pan_id_of frame begin (pan_id_length dst)) ≡ src_pan_of own dst mode begin place
      go own false Absent k l = refl
      go own false Unknown k l = refl
      go true false Short k l = rw (lt-leb (place + 2) (length frame) (k refl))
      go true false Extended k l = rw (lt-leb (place + 2) (length frame) (k refl))
      go false false Short k l = refl
      go false false Extended k l = refl
      go true true Absent k l = refl
      go true true Unknown k l = refl
      go true true Short k l = rw (lt-leb (place + 2) (length frame) (k refl))
      go true true Extended k l = rw (lt-leb (place + 2) (length frame) (k refl))
      go false true Absent k l = refl
      go false true Unknown k l = refl
      go false true Short k l = rw (le-leb (begin + 2) (length frame) l)
      go false true Extended k l = rw (le-leb (begin + 2) (length frame) l)

  -- both were read
  own_or_inherited : (own dst : Bool) (mode : AddressingMode) (begin place : ℕ) {p q : Option ℕ} → (own ≡ true → present mode ≡ true) → begin ≤ length frame → place ≤ length frame
      → pan_id_found frame begin (pan_id_length dst) ≡ Some p → pan_id_found frame place (pan_id_length own) ≡ Some q
      → option_or q (inherited_pan_id (pan_id_length own) (address_length mode) p) ≡ src_pan_of own dst mode begin place
  unfolding pan_id_length pan_id_of
  own_or_inherited true dst mode begin place s h i e f =
      let k = pan_there place true i f in
      rw (pan_is place 2 f, s refl, le-leb (place + 2) (length frame) k)
  own_or_inherited false dst mode begin place s h i e f =
      rw (pan_is place 0 f) (inherited false dst mode begin place h e (λ z. let y : ◌≡◌ {A = ℕ} 0 1 = cc in omega arith))

-- The reader's steps in their order, each on the bytes from where the fields begin: the facts of the address fields where the reading
-- ends.
module _ (frame : List ℕ) (fc : FrameControl) where
  abbrev mode : AddressingMode
  mode = fc.src_addressing_mode

  abbrev begin : ℕ
  begin = addressing_begin fc

  -- where an address byte is missing, addressing and its end are missing too
  short : length frame < header_length fc → (addressing_fact frame fc ≡ None) × (addressing_end_fact frame fc ≡ None)
  unfolding addressing_fact addressing_end_fact
  short k = (rw (lt-leb (header_length fc) (length frame) k), rw (lt-leb (header_length fc) (length frame) k))

  -- .. and so is the source PAN, before the first field
  pub early_gap : length frame < begin + 2 → length frame < src_address_begin fc
      → (src_pan_id_fact frame fc ≡ None) × (src_address_fact frame fc ≡ unread_address mode) × (addressing_fact frame fc ≡ None) × (addressing_end_fact frame fc ≡ None)
  unfolding src_pan_id_fact
  early_gap k l =
      let m = short (omega arith) in (
        sym (no_pan_yet frame (pan_ids_of fc).src (pan_ids_of fc).dst mode begin (src_pan_id_begin fc) (omega arith) k),
        sym (unread frame (src_address_begin fc) mode (omega arith)),
        m.0,
        m.1,
      )

  pub first_gap : pan_id_found frame begin (lengths_of fc).dst_pan_id ≡ None
      → (src_pan_id_fact frame fc ≡ None) × (src_address_fact frame fc ≡ unread_address mode) × (addressing_fact frame fc ≡ None) × (addressing_end_fact frame fc ≡ None)
  unfolding lengths_of pan_id_length
  first_gap e =
      let k = pan_missing frame begin (pan_ids_of fc).dst e in
      early_gap k.1 (rw k.0 (omega (arith, k.1)))

  abbrev inherited_here : Option ℕ → Option ℕ
  inherited_here p = inherited_pan_id (lengths_of fc).src_pan_id (lengths_of fc).src_address p

  inherited_here_lem : {p : Option ℕ} → begin ≤ length frame → pan_id_found frame begin (lengths_of fc).dst_pan_id ≡ Some p → ((pan_ids_of fc).src ≡ true → length frame < src_pan_id_begin fc + 2) → inherited_here p ≡ src_pan_id_fact frame fc
  unfolding src_pan_id_fact lengths_of
  inherited_here_lem h e k = inherited frame (pan_ids_of fc).src (pan_ids_of fc).dst mode begin (src_pan_id_begin fc) h e k

  pub second_gap : {p : Option ℕ} → begin ≤ length frame → pan_id_found frame begin (lengths_of fc).dst_pan_id ≡ Some p → address_fact frame (dst_address_begin fc) fc.dst_addressing_mode ≡ None
      → (src_pan_id_fact frame fc ≡ inherited_here p) × (src_address_fact frame fc ≡ unread_address mode) × (addressing_fact frame fc ≡ None) × (addressing_end_fact frame fc ≡ None)
  unfolding lengths_of
  second_gap h e f =
      let k = address_missing frame (dst_address_begin fc) fc.dst_addressing_mode f in
      let l = short (omega arith) in
      (sym (inherited_here_lem h e (λ s. omega arith)), sym (unread frame (src_address_begin fc) mode (omega arith)), l.0, l.1)

  pub third_gap : {p : Option ℕ} → begin ≤ length frame → pan_id_found frame begin (lengths_of fc).dst_pan_id ≡ Some p → pan_id_found frame (src_pan_id_begin fc) (lengths_of fc).src_pan_id ≡ None
      → (src_pan_id_fact frame fc ≡ inherited_here p) × (src_address_fact frame fc ≡ unread_address mode) × (addressing_fact frame fc ≡ None) × (addressing_end_fact frame fc ≡ None)
  unfolding lengths_of pan_id_length
  third_gap h e f =
      let k = pan_missing frame (src_pan_id_begin fc) (pan_ids_of fc).src f in
      let l : length frame < src_address_begin fc = rw k.0 (omega (arith, k.1)) in
      let m = short (omega arith) in
      (sym (inherited_here_lem h e (λ s. k.1)), sym (unread frame (src_address_begin fc) mode (omega arith)), m.0, m.1)

  -- the places that have been passed
  dst_passed : {p : Option ℕ} → begin ≤ length frame → pan_id_found frame begin (lengths_of fc).dst_pan_id ≡ Some p → dst_address_begin fc ≤ length frame
  unfolding lengths_of
  dst_passed h e = pan_there frame begin (pan_ids_of fc).dst h e

  address_passed : {a : Address} → dst_address_begin fc ≤ length frame → address_fact frame (dst_address_begin fc) fc.dst_addressing_mode ≡ Some a → src_pan_id_begin fc ≤ length frame
  unfolding lengths_of
  address_passed h e = address_there frame (dst_address_begin fc) fc.dst_addressing_mode h e

  src_passed : {q : Option ℕ} → src_pan_id_begin fc ≤ length frame → pan_id_found frame (src_pan_id_begin fc) (lengths_of fc).src_pan_id ≡ Some q → src_address_begin fc ≤ length frame
  unfolding lengths_of
  src_passed h e = pan_there frame (src_pan_id_begin fc) (pan_ids_of fc).src h e

  read_pan : {p q : Option ℕ} → begin ≤ length frame → src_pan_id_begin fc ≤ length frame → pan_id_found frame begin (lengths_of fc).dst_pan_id ≡ Some p → pan_id_found frame (src_pan_id_begin fc) (lengths_of fc).src_pan_id ≡ Some q
      → option_or q (inherited_here p) ≡ src_pan_id_fact frame fc
  unfolding src_pan_id_fact lengths_of
  read_pan h i e f = own_or_inherited frame (pan_ids_of fc).src (pan_ids_of fc).dst mode begin (src_pan_id_begin fc) (source_pan_needs_source fc) h i e f

  module _ {p q : Option ℕ} {a : Address} (h : begin ≤ length frame) (e1 : pan_id_found frame begin (lengths_of fc).dst_pan_id ≡ Some p)
      (e2 : address_fact frame (dst_address_begin fc) fc.dst_addressing_mode ≡ Some a)
      (e3 : pan_id_found frame (src_pan_id_begin fc) (lengths_of fc).src_pan_id ≡ Some q) where
    before : src_pan_id_begin fc ≤ length frame
    before = address_passed (dst_passed h e1) e2

    pub fourth_gap : address_fact frame (src_address_begin fc) fc.src_addressing_mode ≡ None
        → (option_or q (inherited_here p) ≡ src_pan_id_fact frame fc) × (addressing_fact frame fc ≡ None) × (addressing_end_fact frame fc ≡ None)
    unfolding lengths_of
    fourth_gap e4 =
        let m = short (address_missing frame (src_address_begin fc) mode e4) in
        (read_pan h before e1 e3, m.0, m.1)

    pub whole : {b : Address} → address_fact frame (src_address_begin fc) fc.src_addressing_mode ≡ Some b
        → (option_or q (inherited_here p) ≡ src_pan_id_fact frame fc)
        × (addressing_fact frame fc ≡ Some (record { dst_pan_id = p; dst_address = a }))
        × (addressing_end_fact frame fc ≡ Some (header_length fc))
    unfolding addressing_fact addressing_end_fact lengths_of
    whole e4 =
        let k : header_length fc ≤ length frame = address_there frame (src_address_begin fc) mode (src_passed before e3) e4 in (
          read_pan h before e1 e3,
          rw (pan_is frame begin (lengths_of fc).dst_pan_id e1, address_is frame (dst_address_begin fc) fc.dst_addressing_mode e2, le-leb (header_length fc) (length frame) k),
          rw (le-leb (header_length fc) (length frame) k),
        )

-- The facts so far, at each place where the reading ends before the address fields.
module _ (frame : List ℕ) {fc : FrameControl} (there : frame_control_fact frame ≡ Some fc) where
  pub number_gap : well_formed fc ≡ true → number_step frame fc.sequence_number_suppression ≡ None → before_gap fc None None (unread_address fc.src_addressing_mode) ≡ info_of frame
  unfolding info_of after_control seq_nr_fact addressing_begin
  number_gap v e =
      let g = number_missing frame _ e in
      let k : length frame < addressing_begin fc = rw g.0 g.1 in
      let m = early_gap frame fc (omega arith) (omega arith) in
      rw (there, v, m.0, m.1, m.2, m.3, g.0, lt-leb 3 (length frame) g.1)

-- the lengths that were told are small
pub bounded : (fc : FrameControl) {l : AddressingFieldsLengths} → l ≡ lengths_of fc → Bounded l
bounded fc told = rw told (lengths_bounded fc)
