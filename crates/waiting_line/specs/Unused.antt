-- What stands at the places of a line where no request waits.
-- Assumes nothing.
use Rattle.std.specs.Prelude.{ℕ, ◌-◌, List, ◌++◌, length, replicate}
use Rattle.tasks.specs.declared.Request.{Request}
use Rattle.tasks.specs.declared.Task.{Task}
use Rattle.tasks.specs.declared.Timestamp.{Timestamp}

-- so many places where no request waits
abbrev pub unused : ℕ → List Request
unused n = replicate n (record { token = 0; start = Timestamp.BestEffort; buffer = 0; task = Task.Rx })

-- the four places of a line
abbrev pub filled : List Request → List Request
filled qs = qs ++ unused (4 - length qs)
