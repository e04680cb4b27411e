-- No list has as many members as the pool has words of 8 bytes: each member is a free block, which takes at least 8 bytes, and stands there once.
-- By recursion over the blocks: a free block's start leaves the list.
use mathlib.Core.List.{List, [], ◌∷◌}
use mathlib.Core.Path.{◌∙◌, ◌≡◌, ap}
use Prim.Native.Nat.{◌*◌, ◌+◌, ◌≤◌, suc, ℕ}
use native.Mathlib.Omega.{arith}
use lib.ListN.{length}
use Rattle.paper.proofs.bins.BinLaws.{count-leave}
use Rattle.paper.proofs.bins.Bins.{count-nil, count-there, nil-of}
use Rattle.paper.specs.Bins.{count, leave}
use Rattle.paper.specs.Blocks.{Block, block, free, held, remainder, total}
use Rattle.paper.specs.Sound.{Sized, free_at}
use Rattle.words.specs.Choice.{by=, if=, if=-no, if=-yes}

leave-shorter : (q : ℕ) (xs : List ℕ) → 1 ≤ count q xs → suc (length (leave q xs)) ≡ length xs
unfolding leave
leave-shorter q [] o = absurd (omega (arith, count-nil q))
leave-shorter q (x ∷ xs) o =
    by= x q
    (λ e. ap (λ (l : List ℕ). suc (length l)) (if=-yes x q _ _ e))
    (λ n. ap (λ (l : List ℕ). suc (length l)) (if=-no x q _ _ n) ∙ ap suc (leave-shorter q xs (omega (arith, count-there x q xs n))))

pub few-listed : (bl : List Block) (p y : ℕ) (xs : List ℕ) → Sized bl → ((q : ℕ) → count q xs ≤ free_at bl p y q) → 8 * length xs ≤ total bl
unfolding free_at
few-listed [] p y xs S h = omega (arith, ap length (nil-of xs (λ q. omega (arith, h q))))
few-listed (block z held ∷ bl) p y xs S h = omega (arith, few-listed bl (p + z) y xs S.1 h)
few-listed (block z remainder ∷ bl) p y xs S h = omega (arith, few-listed bl (p + z) y xs S.1 h)
few-listed (block z free ∷ bl) p y xs S h =
    by= z y
    (λ e. by= (count p xs) 0
    (λ o. omega (
      arith,
      few-listed bl (p + z) y xs S.1
          (λ q. by= p q
          (λ k. omega (arith, ap (λ (v : ℕ). count v xs) k))
          (λ k. omega (arith, h q, if=-yes {A = ℕ} z y (if= p q 1 0) 0 e, if=-no {A = ℕ} p q 1 0 k))),
    ))
    (λ o. omega (
      arith,
      S.0,
      leave-shorter p xs (omega arith),
      few-listed bl (p + z) y (leave p xs) S.1
          (λ q. omega (arith, h q, if=-yes {A = ℕ} z y (if= p q 1 0) 0 e, count-leave p q xs (omega arith))),
    )))
    (λ e. omega (arith, few-listed bl (p + z) y xs S.1 (λ q. omega (arith, h q, if=-no {A = ℕ} z y (if= p q 1 0) 0 e))))
