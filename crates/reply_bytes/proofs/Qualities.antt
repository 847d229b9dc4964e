-- Byte 15 of an answer is its link quality, and 0 where it has none.
-- Assumes nothing.
use mathlib.Core.Path.{◌≡◌, refl}
use Rattle.tasks.specs.declared.Answers.{Answers}
use Rattle.tasks.specs.declared.Cause.{Cause}
use Rattle.tasks.specs.declared.Response.{Response}
use Rattle.tasks.specs.declared.RxResult.{RxResult}
use Rattle.tasks.specs.declared.Timestamp.{Timestamp}
use Rattle.tasks.specs.Quality.{response_quality}
use Rattle.reply_bytes.specs.Reply.{scheduling_fields, cause_fields, received_fields, response_fields, answer_fields, first_fields, second_fields, first_quality, second_quality, quality_byte, written_fields, written_reply, QualityInItsByte}

response_quality_lem : (x : Response) → (response_fields x).quality ≡ quality_byte (response_quality x)
unfolding response_fields cause_fields scheduling_fields received_fields
response_quality_lem (Response.Sent t) = refl
response_quality_lem (Response.Nack t) = refl
response_quality_lem (Response.Error (Cause.Scheduling Timestamp.BestEffort)) = refl
response_quality_lem (Response.Error (Cause.Scheduling (Timestamp.Scheduled t))) = refl
response_quality_lem (Response.Error Cause.Task) = refl
response_quality_lem (Response.Received (RxResult.Frame n t k)) = refl
response_quality_lem (Response.Received RxResult.RxWindowEnded) = refl
response_quality_lem (Response.Received (RxResult.CrcError t k)) = refl

pub quality_in_its_byte : QualityInItsByte
unfolding written_reply written_fields first_fields second_fields answer_fields
quality_in_its_byte r = (first r.answers, second r.answers)
  where
    first : (x : Answers) → (first_fields x).response.quality ≡ quality_byte (first_quality x)
    first Answers.None = refl
    first (Answers.One x) = response_quality_lem x.response
    first (Answers.Two x y) = response_quality_lem x.response

    second : (x : Answers) → (second_fields x).response.quality ≡ quality_byte (second_quality x)
    second Answers.None = refl
    second (Answers.One x) = refl
    second (Answers.Two x y) = response_quality_lem y.response
