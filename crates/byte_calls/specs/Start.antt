-- What an exported start promises.
-- Assumes nothing.
use Rattle.std.specs.Prelude.{ℕ, ◌≡◌, ◌↔◌, List, length}
use Rattle.call_codes.specs.declared.StartNumbers.{StartNumbers}
use Rattle.byte_calls.specs.Calls.{start_result, start_state, start_line, start_reply, start_pool_after, start_refusal}
use Rattle.byte_calls.specs.Lists.{AlwaysByteSound}

pub record StartCalled (n : StartNumbers) (st li re po : List ℕ) (r : ℕ) (st' li' re' po' : List ℕ) : Type 0 where
  pub result : r ≡ start_result n st li re po
  pub state : st' ≡ start_state n st li re po
  pub line : li' ≡ start_line n st li re po
  pub reply : re' ≡ start_reply n st li re po
  pub pool : po' ≡ start_pool_after n st li re po
  -- its refusal is the first of 1 to 4 that holds ..
  pub refuses : r ≡ start_refusal n st li re po
  -- .. 1 exactly if a length is wrong ..
  pub refuses_one :
      r ≡ 1 ↔ ((length st ≡ 64) × ((length li ≡ 96) × (length re ≡ 48)) → ⊥)
  -- .. and a refused start writes nothing
  pub unchanged : (r ≡ 0 → ⊥) → ((st' ≡ st) × (li' ≡ li)) × ((re' ≡ re) × (po' ≡ po))
  -- the third demand, on every list of exported calls that follows
  pub always_sound : AlwaysByteSound n r st' li'
