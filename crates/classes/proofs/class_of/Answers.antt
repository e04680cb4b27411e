-- classes::class_of meets its contract: at the two ends by the first class and the last, and between them by the bits of payload - 1.
-- What it answers comes first, and then that no step leaves its range.
use Prim.Native.Nat.{ℕ, ◌-◌, ◌<◌, ◌≤◌}
use native.Mathlib.Omega.{arith}
use Rattle.classes.proofs.Class.{first-class, no-class}
use Rattle.classes.proofs.TopBits.{TopBits, top-bits, class-by-bits}
use Rattle.classes.proofs.class_of.Goals as goal

bits : (payload : ℕ) → 8 < payload → payload ≤ 65536 → TopBits 32 (payload - 1)
bits payload least most = top-bits 32 (payload - 1) (omega arith) (omega arith)

pub returns-then-payload-le-LEAST : goal.returns-then-payload-le-LEAST
returns-then-payload-le-LEAST c = omega (arith, first-class c.args.payload (omega arith))

pub returns-then-payload-gt-GREATEST : goal.returns-then-payload-gt-GREATEST
returns-then-payload-gt-GREATEST c = omega (arith, no-class c.args.payload (omega arith))

pub overflow_sub-place : goal.overflow_sub-place
overflow_sub-place c = omega (arith, (bits c.args.payload (omega arith) (omega arith)).long)

pub overflow_add-result : goal.overflow_add-result
overflow_add-result c = record { fits = omega (arith, (bits c.args.payload (omega arith) (omega arith)).to-7) }

pub overflow_sub-result : goal.overflow_sub-result
overflow_sub-result c = omega (arith, class-by-bits 32 c.args.payload (omega arith) (omega arith) (omega arith))

pub returns : goal.returns
returns c = omega (arith, class-by-bits 32 c.args.payload (omega arith) (omega arith) (omega arith))
