-- The law of specs/Slices.antt.
-- Assumes nothing.
use mathlib.Core.Path.{◌≡◌, sym, ◌∙◌, ap}
use mathlib.Core.Bool.{true, ◌&&◌}
use lib.ListN.{length}
use borrow.Author.Tests.{eq-eqb}
use Rattle.state_bytes.specs.Layout.{state_at}
use Rattle.state_bytes.specs.Valid.{holds_state}
use Rattle.line_bytes.specs.Valid.{holds_line, LineWrittenFrom}
use Rattle.std.proofs.lemmas.Bool.{and_parts}
use Rattle.state_bytes.proofs.RoundTrip.{reads_back, held_exactly}
use Rattle.line_bytes.proofs.ReadBack.{line_held_exactly}
use Rattle.slices.specs.Slices.{slices_fit, form_ok, RightForm, FormExactly}
use Rattle.slices.proofs.Slices.{lengths}

pub form_exactly : FormExactly
unfolding form_ok slices_fit
form_exactly st li reply A B = (right, λ r. rw (fit r, (held_exactly st A).1 r.written, line_held r))
  where
    right : form_ok st li reply ≡ true → RightForm st li reply
    right h =
        let f = and_parts (slices_fit (length st) (length li) reply) (holds_state st && holds_line (state_at st) li) h in
        let b = and_parts (holds_state st) (holds_line (state_at st) li) f.1 in
        let L = lengths (length st) (length li) reply f.0 in
        let W = (held_exactly st A).0 b.0 in
        let same : state_at st ≡ W.state = ap state_at (sym W.written) ∙ reads_back W.state W.fits in
        let from : LineWrittenFrom (state_at st) li = (line_held_exactly (state_at st) li B).0 b.1 in
        record {
          state_length = L.0;
          line_length = L.1.0;
          reply_length = L.1.1;
          written = W;
          line_written = rw same at from;
        }

    fit : RightForm st li reply → slices_fit (length st) (length li) reply ≡ true
    fit r = simp (eq-eqb _ _ r.state_length, eq-eqb _ _ r.line_length, eq-eqb _ _ r.reply_length)

    line_held : (r : RightForm st li reply) → holds_line (state_at st) li ≡ true
    line_held r =
        let W = r.written in
        let same : state_at st ≡ W.state = ap state_at (sym W.written) ∙ reads_back W.state W.fits in
        rw same ((line_held_exactly W.state li B).1 r.line_written)
