-- The spacings, the latest start of an acknowledgement, the longest frame: document 01, "Spacing and time" and "Settings and pool".
-- Assumes nothing.
use Rattle.std.specs.Prelude.{ℕ, ◌+◌, ◌^◌, cond, ◌≡◌, ltb, leb, Option, Some, None}
use Rattle.phy.specs.declared.Ifs.{Ifs}

-- "The longest frame with checksum is 127 bytes."
abbrev pub phy_max_packet_size : ℕ
phy_max_packet_size = 127

-- "Length with checksum up to 18: short; 19 and over: long; before an ACK: the ACK spacing" (Aifs).
unfoldable pub ifs_of : ℕ → Ifs
ifs_of length = cond (leb length 18) Ifs.Sifs Ifs.Lifs

-- the code of a spacing in the exported form: "0 ACK, 1 short, 2 long" (docs/LAYOUTS.md)
unfoldable pub ifs_code : Ifs → ℕ
ifs_code Ifs.Aifs = 0
ifs_code Ifs.Sifs = 1
ifs_code Ifs.Lifs = 2

-- "Time is 64-bit nanoseconds. Latest ACK start is the measured entry + 10,000."
unfoldable pub latest_ack_start_of : ℕ → Option ℕ
latest_ack_start_of entry = cond (ltb (entry + 10000) (2 ^ 64)) (Some (entry + 10000)) None

-- document 01's refusal number of each case: "11. A measured entry that begins an ACK wait plus 10,000 exceeds 64 bits."
unfoldable pub latest_ack_start_refusal : Option ℕ → ℕ
latest_ack_start_refusal (Some t) = 0
latest_ack_start_refusal None = 11

-- what latest_ack_start answers: the case, and document 01's number for it
pub record LatestAckStarts (entry : ℕ) (r : Option ℕ) : Type 0 where
  pub case : r ≡ latest_ack_start_of entry
  pub refusal : latest_ack_start_refusal r ≡ cond (ltb (entry + 10000) (2 ^ 64)) 0 11
