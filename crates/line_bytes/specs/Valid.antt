-- Which bytes are a line's, in a state: document 02, E1, refusal 1.
-- Assumes nothing.
use Rattle.std.specs.Prelude.{ℕ, ◌^◌, ◌<◌, ◌≤◌, ◌≡◌, ◌↔◌, ◌≢◌, Bool, true, false, ◌&&◌, List, [], ◌∷◌, eqb, length}
use Rattle.util.specs.Bytes.{AllBytes}
use Rattle.tasks.specs.declared.Request.{Request}
use Rattle.tasks.specs.declared.State.{State}
use Rattle.requests.specs.Requests.{token_held, buffer_held, tx_length_unfit, arrival_refusal}
use Rattle.waiting_line.specs.Line.{any_passes, has_token, has_buffer}
use Rattle.state_bytes.specs.Valid.{same_list}
use Rattle.line_bytes.specs.Layout.{start_fields, task_fields, written_line, line_at}

-- ---- "Tx lengths pass 8, buffers are in range and, like tokens, all different over state and line"

-- what an arrival of the request would have to pass, 12 aside, if those behind it waited
unfoldable pub request_fits : State → Request → List Request → Bool
request_fits s q behind =
    eqb (arrival_refusal s q (any_passes (has_buffer q.buffer) behind) false (any_passes (has_token q.token) behind)) 0

unfoldable pub line_fits : State → List Request → Bool
line_fits s [] = true
line_fits s (q ∷ qs) = request_fits s q qs && line_fits s qs

-- ---- Refusal 1 "also tests .. its bytes"

-- the bytes read as a line that fits, and that line is written as them
unfoldable pub holds_line : State → List ℕ → Bool
holds_line s bytes = line_fits s (line_at bytes) && same_list (written_line (line_at bytes)) bytes

-- ---- Laws of these definitions; proofs/ReadBack.antt and proofs/InWords.antt have their proofs.

-- something holds of every request
abbrev pub Every : (Request → Type 0) → List Request → Type 0
Every P [] = Unit {0}
Every P (q ∷ qs) = P q × Every P qs

-- the numbers of a request fit the widths that its types have
pub record RequestSized (q : Request) : Type 0 where
  pub token : q.token < 2 ^ 32
  pub time : (start_fields q.start).time < 2 ^ 64
  pub buffer : q.buffer < 2 ^ 8
  pub length : (task_fields q.task).length < 2 ^ 16

-- .. and of a line, which has at most four requests
abbrev pub LineSized : List Request → Type 0
LineSized l = (length l ≤ 4) × Every RequestSized l

-- writing a line and reading the bytes gives the line back; so two lines with the same bytes are the same
abbrev pub LineReadsBack : Type 0
LineReadsBack = (l : List Request) → LineSized l → line_at (written_line l) ≡ l

-- a line that fits is held by its bytes
abbrev pub LinePasses : Type 0
LinePasses =
    (s : State) (l : List Request) →
    LineSized l →
    line_fits s l ≡ true →
    holds_line s (written_line l) ≡ true

-- no two requests have the same number
abbrev pub Different : (Request → ℕ) → List Request → Type 0
Different number [] = Unit {0}
Different number (q ∷ qs) = Every (λ other. number other ≢ number q) qs × Different number qs

-- the document's words, one by one
pub record FitsInWords (s : State) (qs : List Request) : Type 0 where
  -- "Tx lengths pass 8"
  pub lengths : Every (λ q. tx_length_unfit s.set q.task ≡ false) qs
  -- "buffers are in range"
  pub buffers_in_range : Every (λ q. q.buffer < s.set.count) qs
  -- ".. and, like tokens, all different over state and line": no request has a buffer or a token that the state holds ..
  pub buffers_not_held : Every (λ q. buffer_held s q.buffer ≡ false) qs
  pub tokens_not_held : Every (λ q. token_held s.wait q.token ≡ false) qs
  -- .. and none one of another
  pub buffers_differ : Different (λ q. q.buffer) qs
  pub tokens_differ : Different (λ q. q.token) qs

abbrev pub FitsExactly : Type 0
FitsExactly = (s : State) (qs : List Request) → line_fits s qs ≡ true ↔ FitsInWords s qs

-- bytes that some line which fits, in the document's words, is written as
pub record LineWrittenFrom (s : State) (bytes : List ℕ) : Type 0 where
  pub line : List Request
  pub sized : LineSized line
  pub fits : FitsInWords s line
  pub written : written_line line ≡ bytes

-- bytes are accepted exactly if some line that fits is written as them
abbrev pub LineHeldExactly : Type 0
LineHeldExactly =
    (s : State) (bytes : List ℕ) →
    AllBytes bytes →
    holds_line s bytes ≡ true ↔ LineWrittenFrom s bytes
