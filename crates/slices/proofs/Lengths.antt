-- A written state has 64 bytes, a written line 96, a written reply 48.
-- Assumes nothing.
use mathlib.Core.Path.{◌≡◌, refl}
use mathlib.Core.List.{List, [], ◌∷◌}
use lib.ListN.{length}
use Rattle.tasks.specs.declared.Reply.{Reply}
use Rattle.tasks.specs.declared.Request.{Request}
use Rattle.tasks.specs.declared.State.{State}
use Rattle.state_bytes.specs.Layout.{written_state, written_parts}
use Rattle.line_bytes.specs.Layout.{written_line}
use Rattle.reply_bytes.specs.Reply.{written_reply, written_fields}

pub state_length : (s : State) → length (written_state s) ≡ 64
unfolding written_state written_parts
state_length s = refl

pub line_length : (qs : List Request) → length (written_line qs) ≡ 96
unfolding written_line
line_length [] = refl
line_length (a ∷ []) = refl
line_length (a ∷ b ∷ []) = refl
line_length (a ∷ b ∷ c ∷ []) = refl
line_length (a ∷ b ∷ c ∷ d ∷ qs) = refl

pub reply_length : (r : Reply) → length (written_reply r) ≡ 48
unfolding written_reply written_fields
reply_length r = refl
