-- A reply is read back from its bytes.
-- Assumes nothing.
use Rattle.std.proofs.Common.{Option, Some, None, ℕ}
use Prim.Native.Nat.{ℕ, ◌%◌, ◌^◌, ◌<◌}
use mathlib.Core.Path.{◌≡◌, refl, ◌∙◌, ap}
use mathlib.Core.Bool.{Bool, true, false, cond}
use lib.Dec.{eqb}
use native.Mathlib.Omega.{arith}
use Rattle.util.specs.Bytes.{number_at}
use Rattle.util.proofs.Numbers.{read_back}
use Rattle.phy.specs.declared.Ifs.{Ifs}
use Rattle.phy.specs.Phy.{ifs_code}
use Rattle.tasks.specs.declared.Action.{Action}
use Rattle.tasks.specs.declared.StopListening.{StopListening}
use Rattle.tasks.specs.declared.TaskDirection.{TaskDirection}
use Rattle.tasks.specs.declared.Answer.{Answer}
use Rattle.tasks.specs.declared.Answers.{Answers}
use Rattle.tasks.specs.declared.Cause.{Cause}
use Rattle.tasks.specs.declared.Reply.{Reply}
use Rattle.tasks.specs.declared.Response.{Response}
use Rattle.tasks.specs.declared.RxResult.{RxResult}
use Rattle.tasks.specs.declared.Timestamp.{Timestamp}
use Rattle.reply_bytes.specs.declared.ActionFields.{ActionFields}
use Rattle.reply_bytes.specs.declared.AnswerFields.{AnswerFields}
use Rattle.reply_bytes.specs.declared.CameTo.{CameTo}
use Rattle.reply_bytes.specs.Reply.{action_fields, no_answer, scheduling_fields, cause_fields, received_fields, response_fields, answer_fields, first_fields, second_fields, written_fields, written_reply, response_at, answer_at, answers_at, ResponseFits, AnswerFits, AnswersFit, spacing_bits, start_bit, start_time, task_flags, direction_code, stop_fields, bit, spacing_at, start_at, action_from, action_at, reply_at, TimestampFits, ActionFits, ReplyReadsBack}

-- a response from its code, length, time and link quality
abbrev read : CameTo → Response
read x = response_at x.code x.length x.time x.quality

response_back : (x : Response) → ResponseFits x → read (response_fields x) ≡ x
unfolding response_at response_fields cause_fields scheduling_fields received_fields
response_back (Response.Sent t) F = refl
response_back (Response.Nack t) F = refl
response_back (Response.Error (Cause.Scheduling Timestamp.BestEffort)) F = refl
response_back (Response.Error (Cause.Scheduling (Timestamp.Scheduled t))) F = refl
response_back (Response.Error Cause.Task) F = refl
response_back (Response.Received (RxResult.Frame n t q)) F =
    let e : n % 256 ≡ n = omega (arith, F.0) in ap (λ (k : ℕ). Response.Received (RxResult.Frame k t q)) e
response_back (Response.Received RxResult.RxWindowEnded) F = refl
response_back (Response.Received (RxResult.CrcError t q)) F = refl

-- the time of a response fits
time_fits : (x : Response) → ResponseFits x → (response_fields x).time < 2 ^ 64
unfolding response_fields cause_fields scheduling_fields received_fields
time_fits (Response.Sent t) F = F
time_fits (Response.Nack t) F = F
time_fits (Response.Error (Cause.Scheduling Timestamp.BestEffort)) F = omega arith
time_fits (Response.Error (Cause.Scheduling (Timestamp.Scheduled t))) F = F
time_fits (Response.Error Cause.Task) F = omega arith
time_fits (Response.Received (RxResult.Frame n t q)) F = F.1
time_fits (Response.Received RxResult.RxWindowEnded) F = omega arith
time_fits (Response.Received (RxResult.CrcError t q)) F = F

-- an answer from its fields
abbrev from_fields : AnswerFields → Answer
from_fields x = record { token = x.token; buffer = x.buffer; response = read x.response }

fields_back : (a : Answer) → AnswerFits a → from_fields (answer_fields a) ≡ a
unfolding answer_fields
fields_back a F = ap (λ (r : Response). record { token = a.token; buffer = a.buffer; response = r }) (response_back a.response F.response)

module _ (a : ActionFields) (x y : AnswerFields) where
  first_back : x.token < 2 ^ 32 → x.response.time < 2 ^ 64 → answer_at (written_fields a x y) 12 ≡ from_fields x
  unfolding written_fields number_at
  first_back t u =
      ap (λ (k : ℕ). record { token = k; buffer = x.buffer; response = response_at x.response.code x.response.length (number_at (written_fields a x y) 19 8) x.response.quality }) (read_back 4 x.token t)
      ∙ ap (λ (k : ℕ). record { token = x.token; buffer = x.buffer; response = response_at x.response.code x.response.length k x.response.quality }) (read_back 8 x.response.time u)

  second_back : y.token < 2 ^ 32 → y.response.time < 2 ^ 64 → answer_at (written_fields a x y) 30 ≡ from_fields y
  unfolding written_fields number_at
  second_back t u =
      ap (λ (k : ℕ). record { token = k; buffer = y.buffer; response = response_at y.response.code y.response.length (number_at (written_fields a x y) 37 8) y.response.quality }) (read_back 4 y.token t)
      ∙ ap (λ (k : ℕ). record { token = y.token; buffer = y.buffer; response = response_at y.response.code y.response.length k y.response.quality }) (read_back 8 y.response.time u)

-- an answer's code is not 0
code_not_0 : (A : Type 0) (x y : A) (r : Response) → cond (eqb (response_fields r).code 0) x y ≡ y
unfolding response_fields cause_fields scheduling_fields received_fields
code_not_0 A x y (Response.Sent t) = refl
code_not_0 A x y (Response.Nack t) = refl
code_not_0 A x y (Response.Error (Cause.Scheduling Timestamp.BestEffort)) = refl
code_not_0 A x y (Response.Error (Cause.Scheduling (Timestamp.Scheduled t))) = refl
code_not_0 A x y (Response.Error Cause.Task) = refl
code_not_0 A x y (Response.Received (RxResult.Frame n t q)) = refl
code_not_0 A x y (Response.Received RxResult.RxWindowEnded) = refl
code_not_0 A x y (Response.Received (RxResult.CrcError t q)) = refl

module _ (a : ActionFields) where
  one_back : (x : Answer) → AnswerFits x → answers_at (written_fields a (answer_fields x) no_answer) ≡ Answers.One x
  unfolding answers_at written_fields answer_fields
  one_back x F =
      code_not_0 Answers _ _ x.response
      ∙ ap (λ (y : Answer). Answers.One y) (first_back a (answer_fields x) no_answer F.token (time_fits x.response F.response) ∙ fields_back x F)

  two_back : (x y : Answer) → AnswerFits x → AnswerFits y → answers_at (written_fields a (answer_fields x) (answer_fields y)) ≡ Answers.Two x y
  unfolding answers_at written_fields answer_fields
  two_back x y F G =
      code_not_0 Answers _ _ x.response
      ∙ code_not_0 Answers _ _ y.response
      ∙ ap (λ (z : Answer). Answers.Two z (answer_at (written_fields a (answer_fields x) (answer_fields y)) 30)) (first_back a (answer_fields x) (answer_fields y) F.token (time_fits x.response F.response) ∙ fields_back x F)
      ∙ ap (λ (z : Answer). Answers.Two x z) (second_back a (answer_fields x) (answer_fields y) G.token (time_fits y.response G.response) ∙ fields_back y G)

answers_back : (r : Reply) → AnswersFit r.answers → answers_at (written_reply r) ≡ r.answers
unfolding written_reply first_fields second_fields answers_at written_fields
answers_back r F = go r.answers F
  where
    go : (x : Answers) → AnswersFit x → answers_at (written_fields (action_fields r.action) (first_fields x) (second_fields x)) ≡ x
    go Answers.None G = refl
    go (Answers.One x) G = one_back (action_fields r.action) x G
    go (Answers.Two x y) G = two_back (action_fields r.action) x y G.0 G.1

-- ---- The action

-- the flags hold what they are made of
flags_back : (cca rollback : Bool) (start : Timestamp) (spacing : Option Ifs)
    → (bit 0 (task_flags cca rollback start spacing) ≡ cca)
    × (bit 1 (task_flags cca rollback start spacing) ≡ rollback)
    × (start_at (task_flags cca rollback start spacing) (start_time start) ≡ start)
    × (spacing_at (task_flags cca rollback start spacing) ≡ spacing)
unfolding start_bit start_time spacing_bits ifs_code
flags_back true true Timestamp.BestEffort None = (refl, refl, refl, refl)
flags_back true true Timestamp.BestEffort (Some Ifs.Aifs) = (refl, refl, refl, refl)
flags_back true true Timestamp.BestEffort (Some Ifs.Sifs) = (refl, refl, refl, refl)
flags_back true true Timestamp.BestEffort (Some Ifs.Lifs) = (refl, refl, refl, refl)
flags_back true true (Timestamp.Scheduled t) None = (refl, refl, refl, refl)
flags_back true true (Timestamp.Scheduled t) (Some Ifs.Aifs) = (refl, refl, refl, refl)
flags_back true true (Timestamp.Scheduled t) (Some Ifs.Sifs) = (refl, refl, refl, refl)
flags_back true true (Timestamp.Scheduled t) (Some Ifs.Lifs) = (refl, refl, refl, refl)
flags_back true false Timestamp.BestEffort None = (refl, refl, refl, refl)
flags_back true false Timestamp.BestEffort (Some Ifs.Aifs) = (refl, refl, refl, refl)
flags_back true false Timestamp.BestEffort (Some Ifs.Sifs) = (refl, refl, refl, refl)
flags_back true false Timestamp.BestEffort (Some Ifs.Lifs) = (refl, refl, refl, refl)
flags_back true false (Timestamp.Scheduled t) None = (refl, refl, refl, refl)
flags_back true false (Timestamp.Scheduled t) (Some Ifs.Aifs) = (refl, refl, refl, refl)
flags_back true false (Timestamp.Scheduled t) (Some Ifs.Sifs) = (refl, refl, refl, refl)
flags_back true false (Timestamp.Scheduled t) (Some Ifs.Lifs) = (refl, refl, refl, refl)
flags_back false true Timestamp.BestEffort None = (refl, refl, refl, refl)
flags_back false true Timestamp.BestEffort (Some Ifs.Aifs) = (refl, refl, refl, refl)
flags_back false true Timestamp.BestEffort (Some Ifs.Sifs) = (refl, refl, refl, refl)
flags_back false true Timestamp.BestEffort (Some Ifs.Lifs) = (refl, refl, refl, refl)
flags_back false true (Timestamp.Scheduled t) None = (refl, refl, refl, refl)
flags_back false true (Timestamp.Scheduled t) (Some Ifs.Aifs) = (refl, refl, refl, refl)
flags_back false true (Timestamp.Scheduled t) (Some Ifs.Sifs) = (refl, refl, refl, refl)
flags_back false true (Timestamp.Scheduled t) (Some Ifs.Lifs) = (refl, refl, refl, refl)
flags_back false false Timestamp.BestEffort None = (refl, refl, refl, refl)
flags_back false false Timestamp.BestEffort (Some Ifs.Aifs) = (refl, refl, refl, refl)
flags_back false false Timestamp.BestEffort (Some Ifs.Sifs) = (refl, refl, refl, refl)
flags_back false false Timestamp.BestEffort (Some Ifs.Lifs) = (refl, refl, refl, refl)
flags_back false false (Timestamp.Scheduled t) None = (refl, refl, refl, refl)
flags_back false false (Timestamp.Scheduled t) (Some Ifs.Aifs) = (refl, refl, refl, refl)
flags_back false false (Timestamp.Scheduled t) (Some Ifs.Sifs) = (refl, refl, refl, refl)
flags_back false false (Timestamp.Scheduled t) (Some Ifs.Lifs) = (refl, refl, refl, refl)

tx_back : {n m : ℕ} {c c' r r' : Bool} {s s' : Timestamp} {p p' : Option Ifs} (b : ℕ) → n ≡ m → c ≡ c' → s ≡ s' → p ≡ p' → r ≡ r' → Action.Tx b n c s p r ≡ Action.Tx b m c' s' p' r'
tx_back b e f g h i = rw (e, f, g, h, i)

rx_back : {r r' : Bool} {s s' : Timestamp} {p p' : Option Ifs} (b : ℕ) → s ≡ s' → p ≡ p' → r ≡ r' → Action.Rx b s p r ≡ Action.Rx b s' p' r'
rx_back b g h i = rw (g, h, i)

fields_action : (a : Action) → ActionFits a → action_from (action_fields a) ≡ a
unfolding action_from action_fields stop_fields direction_code
fields_action Action.Nothing F = refl
fields_action Action.ReceiveRequest F = refl
fields_action (Action.TryReceiveRequest TaskDirection.Any) F = refl
fields_action (Action.TryReceiveRequest TaskDirection.Outbound) F = refl
fields_action Action.Listen F = refl
fields_action (Action.Stop StopListening.Now) F = refl
fields_action (Action.Stop (StopListening.At t)) F = refl
fields_action (Action.Stop (StopListening.Before t true)) F = refl
fields_action (Action.Stop (StopListening.Before t false)) F = refl
fields_action Action.ReadHeader F = refl
fields_action (Action.Tx b n cca start spacing rollback) F =
    let f = flags_back cca rollback start spacing in
    let e : n % 256 ≡ n = omega (arith, F.0) in
    tx_back b e f.0 f.2 f.3 f.1
fields_action (Action.Rx b start spacing rollback) F = let f = flags_back false rollback start spacing in rx_back b f.2 f.3 f.1
fields_action (Action.Off true) F = refl
fields_action (Action.Off false) F = refl

start_time_lem : (t : Timestamp) → TimestampFits t → start_time t < 2 ^ 64
unfolding start_time
start_time_lem Timestamp.BestEffort F = omega arith
start_time_lem (Timestamp.Scheduled t) F = F

action_time : (a : Action) → ActionFits a → (action_fields a).time < 2 ^ 64
unfolding action_fields stop_fields
action_time Action.Nothing F = omega arith
action_time Action.ReceiveRequest F = omega arith
action_time (Action.TryReceiveRequest d) F = omega arith
action_time Action.Listen F = omega arith
action_time (Action.Stop StopListening.Now) F = omega arith
action_time (Action.Stop (StopListening.At t)) F = F
action_time (Action.Stop (StopListening.Before t cca)) F = F
action_time Action.ReadHeader F = omega arith
action_time (Action.Tx b n cca start spacing rollback) F = start_time_lem start F.1
action_time (Action.Rx b start spacing rollback) F = start_time_lem start F
action_time (Action.Off rollback) F = omega arith

action_at_lem : (a : ActionFields) (x y : AnswerFields) → a.time < 2 ^ 64 → action_at (written_fields a x y) ≡ action_from a
unfolding action_at written_fields number_at
action_at_lem a x y t =
    ap (λ (k : ℕ). action_from (record { code = a.code; buffer = a.buffer; length = a.length; flags = a.flags; time = k })) (read_back 8 a.time t)

action_back : (r : Reply) → ActionFits r.action → action_at (written_reply r) ≡ r.action
unfolding written_reply
action_back r F = action_at_lem (action_fields r.action) (first_fields r.answers) (second_fields r.answers) (action_time r.action F) ∙ fields_action r.action F

pub reply_reads_back : ReplyReadsBack
unfolding reply_at
reply_reads_back r F =
    ap (λ (a : Action). record { action = a; answers = answers_at (written_reply r) }) (action_back r F.action)
    ∙ ap (λ (x : Answers). record { action = r.action; answers = x }) (answers_back r F.answers)
