-- The last arm of a wait that is taken apart by call: all calls that do not fit are refused with 5. Shared by all five kinds of wait.
-- Assumes nothing.
use Prim.Native.Nat.{ℕ}
use mathlib.Core.Path.{◌≡◌, refl}
use mathlib.Core.Bool.{Bool, true, false}
use mathlib.Core.List.{List}
use mir.Val.{has_key}
use types.Run.{OneOf, miss}
use denote.Enum.Declared.{tag_of}
use Rattle.tasks.specs.contracts.Call as call
use Rattle.tasks.specs.declared.Call.{Call}
use Rattle.tasks.specs.declared.Cause.{Cause}
use Rattle.tasks.specs.declared.Request.{Request}
use Rattle.tasks.specs.declared.State.{State}
use Rattle.tasks.specs.declared.StopResult.{StopResult}
use Rattle.tasks.specs.declared.TaskResult.{TaskResult}
use Rattle.tasks.specs.declared.Timestamp.{Timestamp}
use Rattle.moves.specs.Move.{Move}
use Rattle.moves.specs.Move.{unfit}

-- something to show where a test holds, and nothing where it does not
abbrev pub Where : Bool → Type 0 → Type 0
Where true A = A
Where false A = Unit {0}

-- of each call, in the enum's order: if it is among the others, the definition refuses it with 5
abbrev pub RefusesOthers : List ℕ → State → (Call → Move) → Type 0
RefusesOthers others s f =
    Where (has_key others 0) ((q : Request) → unfit s ≡ f (Call.Request q))
    × Where (has_key others 1) (unfit s ≡ f Call.None)
    × Where (has_key others 2) (unfit s ≡ f Call.FrameStart)
    × Where (has_key others 3) ((start : Timestamp) (cca : Bool) → unfit s ≡ f (Call.OutboundSeen start cca))
    × Where (has_key others 4) ((r : StopResult) → unfit s ≡ f (Call.Stopped r))
    × Where (has_key others 5) ((arrived length : ℕ) → unfit s ≡ f (Call.Header arrived length))
    × Where (has_key others 6) ((r : TaskResult) (entry : ℕ) → unfit s ≡ f (Call.Entered r entry))
    × Where (has_key others 7) ((r : TaskResult) (cause : Cause) → unfit s ≡ f (Call.Fallback r cause))
    × Where (has_key others 8) (unfit s ≡ f Call.Rollback)

given : (ks : List ℕ) (x : ℕ) {A : Type 0} → Where (has_key ks x) A → OneOf ks x → A
given ks x {A} w h = go (has_key ks x) refl w
  where
    go : (t : Bool) → has_key ks x ≡ t → Where t A → A
    go true e a = a
    go false e a = absurd (miss ks x (rw e tt) h)

pub rest : (others : List ℕ) (s : State) (f : Call → Move) → RefusesOthers others s f → (c : Call)
    → OneOf others (tag_of call.the_type c) → unfit s ≡ f c
rest others s f R (Call.Request q) h = given others 0 R.0 h q
rest others s f R Call.None h = given others 1 R.1 h
rest others s f R Call.FrameStart h = given others 2 R.2 h
rest others s f R (Call.OutboundSeen start cca) h = given others 3 R.3 h start cca
rest others s f R (Call.Stopped r) h = given others 4 R.4 h r
rest others s f R (Call.Header arrived length) h = given others 5 R.5 h arrived length
rest others s f R (Call.Entered r entry) h = given others 6 R.6 h r entry
rest others s f R (Call.Fallback r cause) h = given others 7 R.7 h r cause
rest others s f R Call.Rollback h = given others 8 R.8 h
