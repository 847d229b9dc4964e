-- The link quality in the exported form: each answer of an accepted call carries what was told in it, and another quality changes no
-- other byte.
-- Assumes nothing.
use Prim.Native.Nat.{ℕ, zero, suc, ◌<◌, ◌≤◌}
use mathlib.Core.Path.{◌≡◌, refl, sym, ◌∙◌, ap}
use mathlib.Core.Bool.{Bool, true, false, true≢false, cond}
use mathlib.Core.List.{List, [], ◌∷◌}
use lib.Dec.{ltb, eqb}
use lib.ListN.{length, get_or-map}
use native.Mathlib.Omega.{arith}
use borrow.Author.Tests.{eq-eqb, ltb-true}
use Rattle.tasks.specs.declared.Answer.{Answer}
use Rattle.tasks.specs.declared.Answers.{Answers}
use Rattle.tasks.specs.declared.Call.{Call}
use Rattle.tasks.specs.declared.Cause.{Cause}
use Rattle.tasks.specs.declared.Reply.{Reply}
use Rattle.tasks.specs.declared.Request.{Request}
use Rattle.tasks.specs.declared.Response.{Response}
use Rattle.tasks.specs.declared.RxResult.{RxResult}
use Rattle.tasks.specs.declared.State.{State}
use Rattle.tasks.specs.declared.StopResult.{StopResult}
use Rattle.tasks.specs.declared.TaskResult.{TaskResult}
use Rattle.tasks.specs.declared.Timestamp.{Timestamp}
use Rattle.tasks.specs.declared.Wait.{Wait}
use Rattle.tasks.specs.Quality.{Quality, no_quality, link_quality, response_quality}
use Rattle.std.specs.Prelude.{Option, Some, None}
use Rattle.requests.specs.Requests.{allowed_of}
use Rattle.engine.specs.Book.{answers_transmit}
use Rattle.engine.specs.Refusals.{no_reply}
use Rattle.engine.specs.Reasons.{left_quality, told_quality, CarriesTold, AllCarryTold}
use Rattle.engine.specs.Qualities.{task_with, stop_with, response_with, answers_with_of}
use Rattle.waiting_line.specs.Line.{allows, earliest_of}
use Rattle.service.specs.declared.ServiceCall.{ServiceCall}
use Rattle.service.specs.Service.{Served, service_of}
use Rattle.service.specs.Heard.{request_found, request_heard, heard, EveryCallHeard}
use Rattle.service.specs.Qualities.{service_call_with, served_with, QualityDecidesNoCall}
use Rattle.service.proofs.Heard.{every_call_heard}
use Rattle.service.proofs.Qualities.{quality_decides_no_call}
use Rattle.state_bytes.specs.Layout.{state_at}
use Rattle.line_bytes.specs.Layout.{line_at}
use Rattle.std.proofs.lemmas.Bool.{and_parts}
use Rattle.reply_bytes.specs.declared.ActionFields.{ActionFields}
use Rattle.reply_bytes.specs.declared.AnswerFields.{AnswerFields}
use Rattle.reply_bytes.specs.declared.CameTo.{CameTo}
use Rattle.reply_bytes.specs.Reply.{action_fields, scheduling_fields, cause_fields, received_fields, response_fields, answer_fields, first_fields, second_fields, written_fields, written_reply}
use Rattle.call_codes.specs.declared.ExportedCall.{ExportedCall}
use Rattle.call_codes.specs.Codes.{stop_table, stop_of, result_table, result_of, cause_table, cause_of, known, known_of, call_of, with_quality, uses_quality, quality_used}
use Rattle.call_codes.proofs.Qualities.{unused_quality_ignored}
use Rattle.outcomes.specs.Outcomes.{unknown_of, made_of}
use Rattle.byte_calls.specs.Calls.{call_result, call_state, call_line, call_reply, call_pool, told_number, has_quality, answers_receive, CarriesQuality, but_qualities, QualityApart, QualityChangesNoOtherByte}

-- ---- Each answer carries what was told

-- the quality of a result that is read from its code
result_told : (length time k code : ℕ) → ltb code 5 ≡ true → left_quality (result_of length time k code) ≡ cond (uses_quality code) (link_quality k) no_quality
unfolding result_of
result_told length time k zero h = refl
result_told length time k (suc zero) h = refl
result_told length time k (suc (suc zero)) h = refl
result_told length time k (suc (suc (suc zero))) h = refl
result_told length time k (suc (suc (suc (suc zero)))) h = refl
result_told length time k (suc (suc (suc (suc (suc n))))) h =
    let z : suc (suc (suc (suc (suc n)))) < 5 = ltb-true _ _ h in absurd (omega arith)

-- the quality that the call which the wait is told tells, or none
abbrev heard_quality : List Call → Quality
heard_quality [] = no_quality
heard_quality (d ∷ ds) = told_quality d

module _ (s : State) (qs : List Request) where
  found_told : (f : Option Request) → heard_quality (request_found f) ≡ no_quality
  found_told None = refl
  found_told (Some q) = refl

  request_told : (w : Wait) → heard_quality (request_heard qs w) ≡ no_quality
  request_told (Wait.Asking a) = found_told (earliest_of (allows (allowed_of a)) qs)
  request_told (Wait.Entering e) = refl
  request_told (Wait.Listening q) = refl
  request_told (Wait.Stopping p) = refl
  request_told (Wait.Reading q) = refl

  call_told : (x : ExportedCall) → known_of x ≡ true → heard_quality (heard s qs (call_of x)) ≡ told_number x
  unfolding known_of call_of
  call_told (ExportedCall.Arrive token direction start time buffer length cca) h = refl
  call_told (ExportedCall.Withdraw token) h = refl
  call_told ExportedCall.Request h = request_told s.wait
  call_told ExportedCall.None h = refl
  call_told ExportedCall.FrameStart h = refl
  call_told (ExportedCall.OutboundSeen start time cca) h = refl
  call_told (ExportedCall.Stopped outcome length time k) h = refl
  call_told (ExportedCall.Header arrived length) h = refl
  call_told (ExportedCall.Entered result length time entry k) h = result_told length time k result h
  call_told (ExportedCall.Fallback result length time cause causeTime k) h =
      result_told length time k result ((and_parts (ltb result 5) (known (cause_table causeTime) cause) h).0)
  call_told ExportedCall.Rollback h = refl

-- the wait is told one call at most
two_not_heard : (s : State) (qs : List Request) (c : ServiceCall) (d e : Call) (l : List Call) → heard s qs c ≡ d ∷ e ∷ l → ⊥
two_not_heard s qs c d e l h = let z : length (heard s qs c) ≡ suc (suc (length l)) = ap (λ (k : List Call). length k) h in omega (arith, one_heard c)
  where
    found_once : (f : Option Request) → length (request_found f) ≤ 1
    found_once None = omega arith
    found_once (Some q) = omega arith

    request_once : (w : Wait) → length (request_heard qs w) ≤ 1
    request_once (Wait.Asking a) = found_once (earliest_of (allows (allowed_of a)) qs)
    request_once (Wait.Entering x) = omega arith
    request_once (Wait.Listening q) = omega arith
    request_once (Wait.Stopping p) = omega arith
    request_once (Wait.Reading q) = omega arith

    one_heard : (x : ServiceCall) → length (heard s qs x) ≤ 1
    one_heard (ServiceCall.Arrive q) = omega arith
    one_heard (ServiceCall.Withdraw token) = omega arith
    one_heard ServiceCall.Request = request_once s.wait
    one_heard ServiceCall.None = omega arith
    one_heard ServiceCall.FrameStart = omega arith
    one_heard (ServiceCall.OutboundSeen start cca) = omega arith
    one_heard (ServiceCall.Stopped r) = omega arith
    one_heard (ServiceCall.Header arrived len) = omega arith
    one_heard (ServiceCall.Entered r entry) = omega arith
    one_heard (ServiceCall.Fallback r cause) = omega arith
    one_heard ServiceCall.Rollback = omega arith

module _ (x : ExportedCall) where
  -- what the bytes of an answer say, by its code and its quality
  record Carried (y : CameTo) : Type 0 where
    carried : cond (has_quality y.code) (link_quality y.quality) no_quality ≡ cond (answers_receive y.code) (told_number x) no_quality
    else_zero : has_quality y.code ≡ false → y.quality ≡ 0

  none : Carried (record { code = 0; length = 0; time = 0; quality = 0 })
  none = record { carried = refl; else_zero = λ h. refl }

  -- of a call that the wait is told
  module _ (d : Call) (t : told_quality d ≡ told_number x) where
    response_carries : (a : Answer) → CarriesTold d a → Carried (response_fields a.response)
    unfolding response_fields cause_fields scheduling_fields received_fields
    response_carries a h = go a.response (rw t at h)
      where
        go : (r : Response) → response_quality r ≡ cond (answers_transmit r) no_quality (told_number x) → Carried (response_fields r)
        go (Response.Sent t) h = record { carried = refl; else_zero = λ z. refl }
        go (Response.Nack t) h = record { carried = refl; else_zero = λ z. refl }
        go (Response.Error (Cause.Scheduling Timestamp.BestEffort)) h = record { carried = refl; else_zero = λ z. refl }
        go (Response.Error (Cause.Scheduling (Timestamp.Scheduled t))) h = record { carried = refl; else_zero = λ z. refl }
        go (Response.Error Cause.Task) h = record { carried = refl; else_zero = λ z. refl }
        go (Response.Received (RxResult.Frame n t k)) h = record { carried = h; else_zero = λ z. absurd (true≢false z) }
        go (Response.Received RxResult.RxWindowEnded) h = record { carried = h; else_zero = λ z. refl }
        go (Response.Received (RxResult.CrcError t k)) h = record { carried = h; else_zero = λ z. absurd (true≢false z) }

    reply_carries : (a : Answers) → AllCarryTold d a → Carried (first_fields a).response × Carried (second_fields a).response
    unfolding first_fields second_fields answer_fields
    reply_carries Answers.None h = (none, none)
    reply_carries (Answers.One a) h = (response_carries a h, none)
    reply_carries (Answers.Two a b) h = (response_carries a h.0, response_carries b h.1)

  abbrev BothCarried : Answers → Type 0
  BothCarried a = Carried (first_fields a).response × Carried (second_fields a).response

  nothing_carried : (r : Reply) → r ≡ no_reply → BothCarried r.answers
  unfolding first_fields second_fields
  nothing_carried r e = rw e (none, none)

  -- the service's reply, also where a code stands for nothing
  module _ (s : State) (qs : List Request) (po : List ℕ) where
    known_carries : known_of x ≡ true → BothCarried (service_of s qs po (call_of x)).reply.answers
    unfolding EveryCallHeard
    known_carries k = go (heard s qs (call_of x)) refl
      where
        go : (l : List Call) → heard s qs (call_of x) ≡ l → BothCarried (service_of s qs po (call_of x)).reply.answers
        go [] e = nothing_carried (service_of s qs po (call_of x)).reply ((every_call_heard s qs po (call_of x)).untold e).0
        go (d ∷ []) e =
            reply_carries d (ap heard_quality (sym e) ∙ call_told s qs x k) (service_of s qs po (call_of x)).reply.answers
            ((every_call_heard s qs po (call_of x)).told d e).qualities
        go (d ∷ c ∷ l) e = absurd (two_not_heard s qs (call_of x) d c l e)

    pub made_carries : CarriesQuality x (written_reply (made_of s qs po x).reply) 12 × CarriesQuality x (written_reply (made_of s qs po x).reply) 30
    unfolding written_reply written_fields made_of unknown_of first_fields second_fields
    made_carries =
        let C = go (known_of x) refl in
        (record { carried = C.0.carried; else_zero = C.0.else_zero }, record { carried = C.1.carried; else_zero = C.1.else_zero })
      where
        go : (t : Bool) → known_of x ≡ t → BothCarried (made_of s qs po x).reply.answers
        go true e = rw e (known_carries e)
        go false e = rw e (none, none)

-- ---- Another quality changes no other byte

module _ (k : ℕ) where
  stop_with_lem : (length time j code : ℕ) → stop_of length time k code ≡ stop_with (λ _. k) (stop_of length time j code)
  unfolding stop_of
  stop_with_lem length time j code = get_or-map (stop_with (λ _. k)) (stop_table length time j) code _

  result_with : (length time j code : ℕ) → result_of length time k code ≡ task_with (λ _. k) (result_of length time j code)
  unfolding result_of
  result_with length time j code = get_or-map (task_with (λ _. k)) (result_table length time j) code _

  -- the call is the service's with that quality, and its codes are known or not as before
  call_with_lem : (x : ExportedCall) → (call_of (with_quality k x) ≡ service_call_with (λ _. k) (call_of x)) × (known_of (with_quality k x) ≡ known_of x)
  unfolding call_of known_of
  call_with_lem (ExportedCall.Arrive token direction start time buffer length cca) = (refl, refl)
  call_with_lem (ExportedCall.Withdraw token) = (refl, refl)
  call_with_lem ExportedCall.Request = (refl, refl)
  call_with_lem ExportedCall.None = (refl, refl)
  call_with_lem ExportedCall.FrameStart = (refl, refl)
  call_with_lem (ExportedCall.OutboundSeen start time cca) = (refl, refl)
  call_with_lem (ExportedCall.Stopped outcome length time j) = (ap (λ (r : StopResult). ServiceCall.Stopped r) (stop_with_lem length time j outcome), refl)
  call_with_lem (ExportedCall.Header arrived length) = (refl, refl)
  call_with_lem (ExportedCall.Entered result length time entry j) = (ap (λ (r : TaskResult). ServiceCall.Entered r entry) (result_with length time j result), refl)
  call_with_lem (ExportedCall.Fallback result length time cause causeTime j) =
      (ap (λ (r : TaskResult). ServiceCall.Fallback r (cause_of causeTime cause)) (result_with length time j result), refl)
  call_with_lem ExportedCall.Rollback = (refl, refl)

  made_with : (s : State) (qs : List Request) (po : List ℕ) (x : ExportedCall) → made_of s qs po (with_quality k x) ≡ served_with (λ _. k) (made_of s qs po x)
  unfolding made_of unknown_of QualityDecidesNoCall
  made_with s qs po x = rw ((call_with_lem x).0, (call_with_lem x).1) (go (known_of x))
    where
      go : (t : Bool)
          → cond t (service_of s qs po (service_call_with (λ _. k) (call_of x))) (unknown_of s qs po)
          ≡ served_with (λ _. k) (cond t (service_of s qs po (call_of x)) (unknown_of s qs po))
      go true = quality_decides_no_call (λ _. k) s qs po (call_of x)
      go false = refl

-- an answer's fields with another quality
abbrev fields_with : AnswerFields → ℕ → AnswerFields
fields_with x q =
    record {
      token = x.token;
      buffer = x.buffer;
      response = record { code = x.response.code; length = x.response.length; time = x.response.time; quality = q };
    }

module _ (f : ℕ → ℕ) where
  answer_with_lem : (token buffer : ℕ) (r : Response)
      → answer_fields (record { token = token; buffer = buffer; response = response_with f r })
      ≡ fields_with (answer_fields (record { token = token; buffer = buffer; response = r })) (response_fields (response_with f r)).quality
  unfolding answer_fields response_fields cause_fields scheduling_fields received_fields
  answer_with_lem token buffer (Response.Sent t) = refl
  answer_with_lem token buffer (Response.Nack t) = refl
  answer_with_lem token buffer (Response.Error (Cause.Scheduling Timestamp.BestEffort)) = refl
  answer_with_lem token buffer (Response.Error (Cause.Scheduling (Timestamp.Scheduled t))) = refl
  answer_with_lem token buffer (Response.Error Cause.Task) = refl
  answer_with_lem token buffer (Response.Received (RxResult.Frame n t k)) = refl
  answer_with_lem token buffer (Response.Received RxResult.RxWindowEnded) = refl
  answer_with_lem token buffer (Response.Received (RxResult.CrcError t k)) = refl

  first_with : (x : Answers) → first_fields (answers_with_of f x) ≡ fields_with (first_fields x) (first_fields (answers_with_of f x)).response.quality
  unfolding first_fields answer_fields
  first_with Answers.None = refl
  first_with (Answers.One x) = answer_with_lem x.token x.buffer x.response
  first_with (Answers.Two x y) = answer_with_lem x.token x.buffer x.response

  second_with : (x : Answers) → second_fields (answers_with_of f x) ≡ fields_with (second_fields x) (second_fields (answers_with_of f x)).response.quality
  unfolding second_fields answer_fields
  second_with Answers.None = refl
  second_with (Answers.One x) = refl
  second_with (Answers.Two x y) = answer_with_lem y.token y.buffer y.response

  fields_set : (a : ActionFields) (x y x' y' : AnswerFields) → x' ≡ fields_with x x'.response.quality → y' ≡ fields_with y y'.response.quality
      → written_fields a x' y' ≡ but_qualities (written_fields a x y) (written_fields a x' y')
  unfolding written_fields
  fields_set a x y x' y' e g =
      ap (λ (z : AnswerFields). written_fields a z y') e ∙ ap (λ (z : AnswerFields). written_fields a (fields_with x x'.response.quality) z) g

  reply_with : (r : Reply)
      → written_reply (record { action = r.action; answers = answers_with_of f r.answers })
      ≡ but_qualities (written_reply r) (written_reply (record { action = r.action; answers = answers_with_of f r.answers }))
  unfolding written_reply
  reply_with r = fields_set (action_fields r.action) (first_fields r.answers) (second_fields r.answers) _ _ (first_with r.answers) (second_with r.answers)

module _ (st li re po : List ℕ) (x : ExportedCall) (k : ℕ) where
  abbrev made : Served
  made = made_of (state_at st) (line_at li) po x

  same_result : call_result st li re po (with_quality k x) ≡ call_result st li re po x
  unfolding call_result
  same_result = rw (made_with k (state_at st) (line_at li) po x)

  pub quality_apart : QualityApart st li re po x k
  unfolding call_state call_line call_reply call_pool made_of unknown_of
  quality_apart =
      let M = made_with k (state_at st) (line_at li) po x in
      record {
        result = same_result;
        state = rw (same_result, M);
        line = rw (same_result, M);
        pool = rw (same_result, M);
        reply = λ z. simp (same_result, M, eq-eqb _ 0 z) (reply_with (λ _. k) made.reply);
        ignored = λ u. rw same_result (unused u (known_of x) refl);
      }
    where
      unused : quality_used x ≡ false → (t : Bool) → known_of x ≡ t
          → cond (eqb (call_result st li re po x) 0) (written_reply (made_of (state_at st) (line_at li) po (with_quality k x)).reply) re
          ≡ cond (eqb (call_result st li re po x) 0) (written_reply (made_of (state_at st) (line_at li) po x).reply) re
      unused u true e = rw ((call_with_lem k x).1, unused_quality_ignored x k e u)
      unused u false e = rw ((call_with_lem k x).1, e)

pub quality_changes_no_other_byte : QualityChangesNoOtherByte
quality_changes_no_other_byte st li re po x k = quality_apart st li re po x k
