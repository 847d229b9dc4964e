-- The slices of an exported call, but for the pool: refusal 1, document 01's with document 02's E1, and what an accepted call writes.
-- Assumes nothing.
use Rattle.std.specs.Prelude.{ℕ, ◌≡◌, ◌↔◌, Bool, true, cond, ◌&&◌, List, eqb, length}
use Rattle.util.specs.Bytes.{AllBytes}
use Rattle.state_bytes.specs.Layout.{state_at}
use Rattle.state_bytes.specs.Valid.{holds_state, WrittenFrom}
use Rattle.line_bytes.specs.Valid.{holds_line, LineWrittenFrom}

-- not refused by "the state slice is not 64 bytes, the reply slice not 48", nor by the line's: "refusal 1 also tests its slice's length,
-- which docs/ gives": of the slices' lengths
unfoldable pub slices_fit : ℕ → ℕ → ℕ → Bool
slices_fit state line reply = eqb state 64 && (eqb line 96 && eqb reply 48)

-- nor by ".. or (except at start) the state bytes are not what some state .. is written as", "and its bytes" [the line's]
unfoldable pub form_ok : List ℕ → List ℕ → ℕ → Bool
form_ok st li reply = slices_fit (length st) (length li) reply && (holds_state st && holds_line (state_at st) li)

-- the new bytes of a slice where the call is accepted, the old ones where it is refused
abbrev pub if_accepted : ℕ → List ℕ → List ℕ → List ℕ
if_accepted refusal new old = cond (eqb refusal 0) new old

-- ---- A law of these definitions; proofs/Laws.antt has its proof.

-- 64, 96 and 48 bytes, some valid state is written as the state's, and some line that fits that state as the line's
pub record RightForm (st li : List ℕ) (reply : ℕ) : Type 0 where
  pub state_length : length st ≡ 64
  pub line_length : length li ≡ 96
  pub reply_length : reply ≡ 48
  pub written : WrittenFrom st
  pub line_written : LineWrittenFrom written.state li

-- refusal 1 is passed exactly if the form is right
abbrev pub FormExactly : Type 0
FormExactly =
    (st li : List ℕ) (reply : ℕ) →
    AllBytes st →
    AllBytes li →
    form_ok st li reply ≡ true ↔ RightForm st li reply
