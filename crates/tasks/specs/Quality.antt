-- The link quality of what was received: document 02, E6.
-- Assumes nothing.
use Rattle.std.specs.Prelude.{ℕ}
use Rattle.tasks.specs.declared.RxResult.{RxResult}
use Rattle.tasks.specs.declared.Response.{Response}

-- a link quality, or none
pub data Quality : Type 0 where
  no_quality : Quality
  link_quality : ℕ → Quality

-- "The receive results "frame" and "CRC error" gain the standard's link quality, one byte"
abbrev pub result_quality : RxResult → Quality
result_quality (RxResult.Frame length time k) = link_quality k
result_quality RxResult.RxWindowEnded = no_quality
result_quality (RxResult.CrcError time k) = link_quality k

-- ".. and the receive answers made from them, no others, carry it"
abbrev pub response_quality : Response → Quality
response_quality (Response.Sent time) = no_quality
response_quality (Response.Nack time) = no_quality
response_quality (Response.Error cause) = no_quality
response_quality (Response.Received r) = result_quality r
