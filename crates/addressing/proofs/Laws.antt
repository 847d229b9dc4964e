-- The laws of specs/Addressing.antt.
-- Assumes nothing.
use Prim.Native.Nat.{◌≤◌}
use mathlib.Core.Bool.{Bool, true, false, cond}
use mathlib.Core.Path.{◌≡◌, refl, sym, ◌∙◌, ap}
use native.Mathlib.Omega.{arith}
use lib.Dec.{ltb}
use Rattle.frame_control.specs.declared.AddressingMode.{AddressingMode}
use Rattle.frame_control.specs.declared.AddressingMode.TheVariants.{Absent, Unknown, Short, Extended}
use Rattle.std.specs.Cmp.{first_so}
use Rattle.addressing.specs.declared.PanIdsPresent.{PanIdsPresent}
use Rattle.addressing.proofs.PanIdCompression.{keeps_reading}
use Rattle.addressing.specs.Addressing.{address_length, pan_id_length, legacy_pan_ids, current_sentences, lengths_of, LengthsBounded, SourcePanNeedsSource}

pan_bounded : (stands : Bool) → pan_id_length stands ≤ 2
unfolding pan_id_length
pan_bounded true = omega arith
pan_bounded false = omega arith

address_bounded : (mode : AddressingMode) → address_length mode ≤ 8
unfolding address_length
address_bounded Absent = omega arith
address_bounded Unknown = omega arith
address_bounded Short = omega arith
address_bounded Extended = omega arith

pub lengths_bounded : LengthsBounded
unfolding lengths_of
lengths_bounded fc =
    record {
      dst_pan = pan_bounded _;
      dst_address = address_bounded _;
      src_pan = pan_bounded _;
      src_address = address_bounded _;
    }

sentence_source : (dst src both compression : Bool) → (current_sentences dst src both compression).src ≡ true → src ≡ true
unfolding current_sentences
sentence_source false false both compression e = e
sentence_source true false both compression e = e
sentence_source false true both compression e = refl
sentence_source true true true compression e = refl
sentence_source true true false compression e = refl

either_source : (legacy dst src both compression : Bool) → (cond legacy (legacy_pan_ids dst src compression) (current_sentences dst src both compression)).src ≡ true → src ≡ true
unfolding legacy_pan_ids
either_source true dst src both compression e = first_so _ _ e
either_source false dst src both compression e = sentence_source dst src both compression e

pub source_pan_needs_source : SourcePanNeedsSource
source_pan_needs_source fc e = either_source (ltb fc.frame_version 2) _ _ _ _ (sym (ap (λ (p : PanIdsPresent). p.src) (keeps_reading fc)) ∙ e)
