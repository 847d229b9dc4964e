-- The laws of the standard's table, each by one test that is computed for every combination.
-- Assumes nothing.
use mathlib.Core.Bool.{Bool, true, false, cond, ◌&&◌, beq}
use mathlib.Core.Path.{◌≡◌, refl, ap}
use mathlib.Core.List.{List, [], ◌∷◌}
use lib.Dec.{T, eqb, ltb, eqb→eq}
use lib.ListN.{length}
use mir.Facts.{and_yes}
use Rattle.frame_control.specs.declared.AddressingMode.{AddressingMode}
use Rattle.frame_control.specs.declared.AddressingMode.TheVariants.{Absent, Unknown, Short, Extended}
use Rattle.addressing.specs.declared.PanIdsPresent.{PanIdsPresent}
use Rattle.addressing.specs.PanIdCompression.{compression_table}
use Rattle.addressing.specs.Addressing.{address_length, present, extended, rows_of, current_pan_ids, legacy_pan_ids, pan_ids_of, current_sentences, OneRowEach, KeepsReading}

-- a test of all four modes, and of all combinations
abbrev pub modes : (AddressingMode → Bool) → Bool
modes test = test Absent && (test Unknown && (test Short && test Extended))

abbrev pub both_bits : (Bool → Bool) → Bool
both_bits test = test false && test true

abbrev pub everywhere : (AddressingMode → AddressingMode → Bool → Bool) → Bool
everywhere test = modes (λ dst. modes (λ src. both_bits (test dst src)))

of_four : (a b c d : Bool) → T (a && (b && (c && d))) → T a × T b × T c × T d
of_four a b c d t =
    let first = and_yes a (b && (c && d)) t in
    let second = and_yes b (c && d) first.1 in
    let last = and_yes c d second.1 in
    (first.0, second.0, last.0, last.1)

at_mode : (test : AddressingMode → Bool) → T (modes test) → (mode : AddressingMode) → T (test mode)
at_mode test t Absent = (of_four (test Absent) (test Unknown) (test Short) (test Extended) t).0
at_mode test t Unknown = (of_four (test Absent) (test Unknown) (test Short) (test Extended) t).1
at_mode test t Short = (of_four (test Absent) (test Unknown) (test Short) (test Extended) t).2
at_mode test t Extended = (of_four (test Absent) (test Unknown) (test Short) (test Extended) t).3

at_bit : (test : Bool → Bool) → T (both_bits test) → (bit : Bool) → T (test bit)
at_bit test t false = (and_yes (test false) (test true) t).0
at_bit test t true = (and_yes (test false) (test true) t).1

-- a test that is computed of all combinations holds of each
pub at_every : (test : AddressingMode → AddressingMode → Bool → Bool) → T (everywhere test)
    → (dst src : AddressingMode) (compression : Bool) → T (test dst src compression)
at_every test t dst src =
    at_bit (test dst src) (at_mode (λ s. both_bits (test dst s)) (at_mode (λ d. modes (λ s. both_bits (test d s))) t dst) src)

-- one combination for each row
abbrev examples : List (AddressingMode × AddressingMode × Bool)
examples =
    (Absent, Absent, false)
    ∷ (Absent, Absent, true)
    ∷ (Short, Absent, false)
    ∷ (Short, Absent, true)
    ∷ (Absent, Short, false)
    ∷ (Absent, Short, true)
    ∷ (Extended, Extended, false)
    ∷ (Extended, Extended, true)
    ∷ (Short, Short, false)
    ∷ (Short, Extended, false)
    ∷ (Extended, Short, false)
    ∷ (Short, Extended, true)
    ∷ (Extended, Short, true)
    ∷ (Short, Short, true)
    ∷ []

pub one_row_each : OneRowEach
unfolding address_length
one_row_each =
    record {
      combinations = λ dst src compression.
          eqb→eq _ 1 (at_every (λ d s c. eqb (length (rows_of d s c compression_table)) 1) tt dst src compression);
      rows = (examples, refl);
      fourteen = refl;
    }

-- whether the same PANs stand
abbrev pub same_pan_ids : PanIdsPresent → PanIdsPresent → Bool
same_pan_ids p q = beq p.dst q.dst && beq p.src q.src

same_flag : (a b : Bool) → T (beq a b) → a ≡ b
same_flag true true t = refl
same_flag true false t = absurd t
same_flag false true t = absurd t
same_flag false false t = refl

pub same_pan_ids_lem : (p q : PanIdsPresent) → T (same_pan_ids p q) → p ≡ q
same_pan_ids_lem p q t =
    let both = and_yes (beq p.dst q.dst) (beq p.src q.src) t in
    let dst = same_flag p.dst q.dst both.0 in
    let src = same_flag p.src q.src both.1 in
    λ i. record { dst = dst i; src = src i }

sentences_hold : (dst src : AddressingMode) (compression : Bool)
    → current_pan_ids dst src compression ≡ current_sentences (present dst) (present src) (extended dst && extended src) compression
unfolding current_pan_ids current_sentences address_length present extended
sentences_hold dst src compression =
    same_pan_ids_lem _ _
    (at_every (λ d s c. same_pan_ids (current_pan_ids d s c) (current_sentences (present d) (present s) (extended d && extended s) c)) tt dst src compression)

pub keeps_reading : KeepsReading
unfolding pan_ids_of
keeps_reading fc =
    let dst = fc.dst_addressing_mode in
    let src = fc.src_addressing_mode in
    ap (cond (ltb fc.frame_version 2) (legacy_pan_ids (present dst) (present src) fc.pan_id_compression))
    (sentences_hold dst src fc.pan_id_compression)
