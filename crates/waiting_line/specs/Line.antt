-- The waiting line as a list of requests in the order of their arrival, and as a run of records: document 02, E1.
-- Assumes nothing.
use Rattle.std.specs.Prelude.{ℕ, zero, suc, ◌≡◌, ◌≤◌, Bool, true, false, not, ◌&&◌, List, [], ◌∷◌, eqb, length, Option, Some, None, find}
use Rattle.std.specs.Bool.{beq}
use Rattle.std.specs.List.{list_any}
use Rattle.std.specs.Set.{remove_key}
use Rattle.tasks.specs.declared.Allowed.{Allowed}
use Rattle.tasks.specs.declared.Request.{Request}
use Rattle.tasks.specs.declared.Starts.TheVariants.{Never, Any}
use Rattle.tasks.specs.declared.Task.{Task}
use Rattle.tasks.specs.declared.Timestamp.{Timestamp}
use Rattle.requests.specs.Requests.{allow, not_allowed}
use Rattle.waiting_line.specs.declared.Place.{Place}
use Rattle.waiting_line.specs.declared.RequestRecord.{RequestRecord}

-- ---- Runs of records

-- "a lent run of four request records": what waits in a run of records; a place that is free is passed over
abbrev pub waits_at : Place → List Request → List Request
waits_at Place.Free qs = qs
waits_at (Place.Waits q) qs = q ∷ qs

abbrev pub waiting : List RequestRecord → List Request
waiting [] = []
waiting (r ∷ rs) = waits_at r.place (waiting rs)

-- the run of n records that a line is written as: its requests in front, the places after them free
abbrev pub records : ℕ → List Request → List RequestRecord
records zero qs = []
records (suc n) [] = record { place = Place.Free } ∷ records n []
records (suc n) (q ∷ qs) = record { place = Place.Waits q } ∷ records n qs

-- the place of a run where the i-th of a line stands
abbrev pub place_for : Option Request → Place
place_for None = Place.Free
place_for (Some q) = Place.Waits q

-- ---- Tests of a request

-- "whose direction and start the wait allows"
abbrev pub allows : Allowed → Request → Bool
allows w q = not (not_allowed w q.start q.task)

abbrev pub has_token : ℕ → Request → Bool
has_token token q = eqb q.token token

abbrev pub has_buffer : ℕ → Request → Bool
has_buffer buffer q = eqb q.buffer buffer

abbrev pub is_transmit : Task → Bool
is_transmit (Task.Tx length cca) = true
is_transmit Task.Rx = false

-- a Tx, of any start: what an ask for an outbound request allows
abbrev pub is_tx : Request → Bool
is_tx = allows (allow Any Never)

-- ---- Which request leaves, and the line that it leaves behind

-- whether a request that waits passes a test
abbrev pub any_passes : (Request → Bool) → List Request → Bool
any_passes p qs = list_any p qs

-- "the earliest arrival" that passes a test
abbrev pub earliest_of : (Request → Bool) → List Request → Option Request
earliest_of p qs = find p qs

-- the line without it: the others keep their order, and no gap is left
abbrev pub without_earliest : (Request → Bool) → List Request → List Request
without_earliest p qs = remove_key p qs

-- ---- Of what was found

unfoldable pub same_start_of : Timestamp → Timestamp → Bool
same_start_of Timestamp.BestEffort Timestamp.BestEffort = true
same_start_of Timestamp.BestEffort (Timestamp.Scheduled u) = false
same_start_of (Timestamp.Scheduled t) Timestamp.BestEffort = false
same_start_of (Timestamp.Scheduled t) (Timestamp.Scheduled u) = eqb u t

unfoldable pub same_flag_of : Bool → Task → Bool
same_flag_of cca (Task.Tx length flag) = beq flag cca
same_flag_of cca Task.Rx = false

-- "OutboundSeen fits only with the start and flag of its earliest Tx"
unfoldable pub names_tx : Timestamp → Bool → Option Request → Bool
names_tx start cca None = false
names_tx start cca (Some q) = same_start_of q.start start && same_flag_of cca q.task

unfoldable pub is_token : ℕ → Option Request → Bool
is_token token None = false
is_token token (Some q) = eqb q.token token

-- ---- Laws of these definitions; proofs/Laws.antt has their proofs.

-- a line, of at most four requests, that is written into four records and read again is the same
abbrev pub RecordsKeepLine : Type 0
RecordsKeepLine = (qs : List Request) → length qs ≤ 4 → waiting (records 4 qs) ≡ qs

-- a Tx is a request whose task is one
abbrev pub TxExactly : Type 0
TxExactly = (q : Request) → is_tx q ≡ is_transmit q.task
