-- Reading and writing the slices; over plain values.
-- Assumes nothing.
use Rattle.refusals.specs.declared.Refusal.{Refusal}
use Rattle.refusals.specs.Refusals.{number_of}
use Rattle.std.specs.Prelude.{Ok, Err, ok_or}
use Rattle.std.proofs.Common.{Option, Some, None, ℕ, arith}
use Prim.Native.Nat.{ℕ}
use mathlib.Core.Path.{◌≡◌, refl, sym, ◌∙◌, ap}
use mathlib.Core.Bool.{Bool, true, false, ◌&&◌}
use mathlib.Core.List.{List}
use lib.Dec.{eqb}
use lib.ListN.{length}
use borrow.Author.Tests.{eqb-true}
use Rattle.util.specs.Bytes.{stored_over}
use Rattle.util.proofs.Stores.{over}
use Rattle.engine.specs.Step.{Outcome}
use Rattle.state_bytes.specs.Layout.{state_at, written_state}
use Rattle.state_bytes.specs.Valid.{holds_state}
use Rattle.line_bytes.specs.Layout.{written_line}
use Rattle.line_bytes.specs.Valid.{holds_line}
use Rattle.std.proofs.lemmas.Bool.{and_parts}
use Rattle.reply_bytes.specs.Reply.{written_reply}
use Rattle.slices.specs.Slices.{slices_fit, form_ok, if_accepted}
use Rattle.slices.specs.Inner.{read_of, Finished}
use Rattle.slices.proofs.Lengths.{state_length, line_length, reply_length}
use Rattle.tasks.specs.declared.Request.{Request}
use Rattle.tasks.specs.declared.State.{State}

pub lengths : (state line reply : ℕ) → slices_fit state line reply ≡ true → (state ≡ 64) × ((line ≡ 96) × (reply ≡ 48))
unfolding slices_fit
lengths state line reply h =
    let f = and_parts (eqb state 64) (eqb line 96 && eqb reply 48) h in
    let g = and_parts (eqb line 96) (eqb reply 48) f.1 in
    (eqb-true _ _ f.0, (eqb-true _ _ g.0, eqb-true _ _ g.1))

-- where the lengths are right, an accepted outcome is written and a refused one is not
pub record Settled (o : Outcome) (st re : List ℕ) (r : ℕ) (st' re' : List ℕ) : Type 0 where
  pub result : r ≡ o.refusal
  pub state : st' ≡ if_accepted o.refusal (written_state o.state) st
  pub reply : re' ≡ if_accepted o.refusal (written_reply o.reply) re

module _ (st li re : List ℕ) (ok : slices_fit (length st) (length li) (length re) ≡ true) where
  pub settled : (o : Outcome) (r : ℕ) (st' re' : List ℕ) → Finished o st re r st' re' → Settled o st re r st' re'
  settled o r st' re' F =
      let L = lengths (length st) (length li) (length re) ok in
      record {
        result = F.result;
        state = F.state ∙ ap (λ (l : List ℕ). if_accepted o.refusal l st) (over (written_state o.state) st (state_length o.state ∙ sym L.0));
        reply = F.reply ∙ ap (λ (l : List ℕ). if_accepted o.refusal l re) (over (written_reply o.reply) re (reply_length o.reply ∙ sym L.1.1));
      }

  pub line_stored : (qs : List Request) → stored_over (written_line qs) li ≡ written_line qs
  line_stored qs = let L = lengths (length st) (length li) (length re) ok in over (written_line qs) li (line_length qs ∙ sym L.1.0)

-- ---- Reading
pub form_lengths : (st li : List ℕ) (n : ℕ) → form_ok st li n ≡ true → slices_fit (length st) (length li) n ≡ true
unfolding form_ok
form_lengths st li n h = (and_parts (slices_fit (length st) (length li) n) (holds_state st && holds_line (state_at st) li) h).0

-- the number of what is read, or of the refusal
abbrev pub none_is_1 : Option State → ℕ
none_is_1 (Some s) = 0
none_is_1 None = 1

pub number_of_or : (o : Option State) → number_of (ok_or o Refusal.Slices) ≡ none_is_1 o
number_of_or (Some s) = refl
number_of_or None = refl

-- what a read state, and a refusal, say of the bytes
module _ (st li : List ℕ) (n : ℕ) where
  pub read_ok : {s : State} → Ok s ≡ ok_or (read_of st li n) Refusal.Slices → (form_ok st li n ≡ true) × (s ≡ state_at st)
  unfolding read_of
  read_ok {s} e = go (form_ok st li n) refl
    where
      go : (t : Bool) → form_ok st li n ≡ t → (form_ok st li n ≡ true) × (s ≡ state_at st)
      go true f =
          let h : Ok s ≡ ok_or (Some (state_at st)) Refusal.Slices = rw f at e in
          let same : s ≡ state_at st = cc in (f, same)
      go false f =
          let h : Ok s ≡ ok_or None Refusal.Slices = rw f at e in
          absurd (let z : ◌≡◌ {A = ℕ} 0 1 = cc in omega arith)

  pub read_err : {refusal : Refusal} → Err refusal ≡ ok_or (read_of st li n) Refusal.Slices → (form_ok st li n ≡ false) × (refusal ≡ Refusal.Slices)
  unfolding read_of
  read_err {refusal} e = go (form_ok st li n) refl
    where
      go : (t : Bool) → form_ok st li n ≡ t → (form_ok st li n ≡ false) × (refusal ≡ Refusal.Slices)
      go true f =
          let h : Err refusal ≡ ok_or (Some (state_at st)) Refusal.Slices = rw f at e in
          absurd (let z : ◌≡◌ {A = ℕ} 0 1 = cc in omega arith)
      go false f =
          let h : Err refusal ≡ ok_or None Refusal.Slices = rw f at e in
          let same : refusal ≡ Refusal.Slices = cc in (f, same)
