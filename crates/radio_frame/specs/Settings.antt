-- Refusals of settings: document 01, "Settings and pool" and "Refusals, in checking order".
-- Assumes nothing.
use Rattle.std.specs.Prelude.{ℕ, ◌*◌, ◌≤◌, ◌<◌, Bool, false, cond, not, ◌||◌, ◌⊎◌, ◌↔◌, ◌≡◌, ltb, leb, eqb}
use Rattle.radio_frame.specs.declared.Settings.{Settings}

-- "The pool is one lent slice of 144 × n bytes": the bytes of one buffer
abbrev pub buffer_length : ℕ
buffer_length = 144

-- "2. The count is outside 3 to 32 or the pool is not 144 × n bytes."
unfoldable pub pool_unfit : Settings → ℕ → Bool
pool_unfit s pool = (ltb s.count 3 || ltb 32 s.count) || not (eqb pool (buffer_length * s.count))

-- "3. H, T or F is out of range." "Headroom H is 0 to 8, tailroom T 0 to 8, checksum length F 2 or 4."
unfoldable pub rooms_unfit : Settings → Bool
rooms_unfit s = (ltb 8 s.headroom || ltb 8 s.tailroom) || not (eqb s.fcs_length 2 || eqb s.fcs_length 4)

-- "4. The two own buffers are equal or not below n."
unfoldable pub own_buffers_unfit : Settings → Bool
own_buffers_unfit s = eqb s.ack_buffer s.spare_buffer || (leb s.count s.ack_buffer || leb s.count s.spare_buffer)

-- "Refusals, in checking order": the first of 2, 3 and 4 that holds, or 0
unfoldable pub settings_refusal : Settings → ℕ → ℕ
settings_refusal s pool = cond (pool_unfit s pool) 2 (cond (rooms_unfit s) 3 (cond (own_buffers_unfit s) 4 0))

-- Laws of these definitions; proofs/Laws.antt has their proofs.

-- settings that none of the three conditions refuses
pub record Unrefused (s : Settings) (pool : ℕ) : Type 0 where
  pub two : pool_unfit s pool ≡ false
  pub three : rooms_unfit s ≡ false
  pub four : own_buffers_unfit s ≡ false

-- what their numbers then are
pub record Fit (s : Settings) (pool : ℕ) : Type 0 where
  pub low : 3 ≤ s.count
  pub high : s.count ≤ 32
  pub pool_length : pool ≡ buffer_length * s.count
  pub headroom : s.headroom ≤ 8
  pub tailroom : s.tailroom ≤ 8
  pub fcs : (s.fcs_length ≡ 2) ⊎ (s.fcs_length ≡ 4)
  pub ack : s.ack_buffer < s.count
  pub spare : s.spare_buffer < s.count
  pub different : s.ack_buffer ≡ s.spare_buffer → ⊥

abbrev pub OneOfFour : Type 0
OneOfFour =
    (s : Settings) (pool : ℕ) →
    (settings_refusal s pool ≡ 0)
    ⊎ (settings_refusal s pool ≡ 2)
    ⊎ (settings_refusal s pool ≡ 3)
    ⊎ (settings_refusal s pool ≡ 4)

-- 0 exactly if none of the three holds
abbrev pub ZeroIfNone : Type 0
ZeroIfNone =
    (s : Settings) (pool : ℕ) →
    settings_refusal s pool ≡ 0 ↔ Unrefused s pool

-- and exactly if the numbers are as the paper wants them
abbrev pub ZeroIfFit : Type 0
ZeroIfFit =
    (s : Settings) (pool : ℕ) →
    settings_refusal s pool ≡ 0 ↔ Fit s pool
