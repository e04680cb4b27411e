-- What a recall gives its caller: why it is refused, if it is, and the record as a part of the caller's own pool, by its bytes and its place in
-- memory.
use Rattle.std.specs.Prelude.{◌≡◌, List, ℕ, ◌+◌, ◌≤◌, length}
use Rattle.std.specs.Borrow.{Bor}
use Rattle.bank.specs.Calls.{recall, shown}
use Rattle.bank.specs.declared.recalling.Place.{Place}
use Rattle.bank.specs.declared.recalling.Recalled.{Recalled}

-- where the part starts and ends; it lies within the pool
pub record Finds (bs bank : List ℕ) (piston : ℕ) (r : Place) : Type 0 where
  pub is : r ≡ recall bs bank piston
  pub rises : r.from ≤ r.to
  pub inside : r.to ≤ length bs

-- the part that starts and ends there: its bytes, and its place in memory
pub record Cuts (r pool : Bor (List ℕ)) (p : Place) : Type 0 where
  pub bytes : r.now ≡ shown pool.now p
  pub place : r.ref_ptr ≡ (pool.ref_ptr.0, pool.ref_ptr.1 + p.from)

pub record Recalls (r : Recalled) (pool : Bor (List ℕ)) (bank : List ℕ) (piston : ℕ) : Type 0 where
  pub refusal : r.refusal ≡ (recall pool.now bank piston).refusal
  pub bytes : r.part.now ≡ shown pool.now (recall pool.now bank piston)
  pub place : r.part.ref_ptr ≡ (pool.ref_ptr.0, pool.ref_ptr.1 + (recall pool.now bank piston).from)
