-- What an exported call or start comes to, line and pool included: document 01, "Refusals, in checking order", where a code may stand
-- for nothing.
-- Assumes nothing.
use Rattle.std.specs.Prelude.{ℕ, cond, List, eqb, length}
use Rattle.radio_frame.specs.declared.Settings.{Settings}
use Rattle.radio_frame.specs.Settings.{settings_refusal}
use Rattle.tasks.specs.declared.Request.{Request}
use Rattle.tasks.specs.declared.State.{State}
use Rattle.driver.specs.Promises.{idle_of}
use Rattle.service.specs.Service.{Served, refused_by, service_of, service_start}
use Rattle.call_codes.specs.declared.ExportedCall.{ExportedCall}
use Rattle.call_codes.specs.declared.StartNumbers.{StartNumbers}
use Rattle.call_codes.specs.Codes.{known_flag, known_of, call_of, settings_of}

-- ---- A call

-- "5. .. in the exported form also a code that stands for nothing": after 2 to 4
abbrev pub or_five : ℕ → ℕ
or_five refusal = cond (eqb refusal 0) 5 refusal

unfoldable pub unknown_of : State → List Request → List ℕ → Served
unknown_of s qs po = refused_by s qs po (or_five (settings_refusal s.set (length po)))

unfoldable pub made_of : State → List Request → List ℕ → ExportedCall → Served
made_of s qs po x = cond (known_of x) (service_of s qs po (call_of x)) (unknown_of s qs po)

-- ---- A start

-- "(at start that is 3)": after 2
unfoldable pub unknown_start : Settings → List Request → List ℕ → Served
unknown_start set qs po = refused_by (idle_of set) qs po (cond (eqb (settings_refusal set (length po)) 2) 2 3)

unfoldable pub begun_of : StartNumbers → List Request → List ℕ → Served
begun_of n qs po =
    cond (known_flag n.implicit_broadcast) (service_start (settings_of n) qs po) (unknown_start (settings_of n) qs po)
