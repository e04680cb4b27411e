-- The walk to the block that an address is in, for the loop: the whole walk is the walk from here, and each way out or on is one law.
use mathlib.Core.Path.{◌≡◌, refl, sym, ap, ◌∙◌}
use mathlib.Core.Logic.{◌≢◌}
use mathlib.Core.List.{List}
use Prim.Native.Nat.{ℕ, zero, suc, max, ◌+◌, ◌≤◌, ◌<◌}
use Rattle.std.proofs.Common.{Some, None, ⊎_elim}
use native.Mathlib.Omega.{arith}
use Rattle.words.specs.Choice.{if<, if=, if=-yes, if=-no, if<-yes, if<-no}
use Rattle.heads.specs.declared.head.Head.{Head}
use Rattle.paper.specs.declared.Found.TheVariants.{Nothing}
use Rattle.walk.specs.declared.blocks.Block.{Block}
use Rattle.walk.specs.declared.blocks.Blocks.{Blocks}
use Rattle.walk.specs.Blocks.{head_at}
use Rattle.walk.specs.Steps.{Between, Steps}
use Rattle.walk.specs.LookUp.{found_at, block_in, block_at}

-- the walk from `from` has come to `at`, which is past the address only where `from` is, with enough steps left
pub record Looking (bs : List ℕ) (a from at : ℕ) : Type 0 where
  pub steps : ℕ
  pub enough : a ≤ steps + at
  pub low : at ≤ max from a
  pub same : block_at bs a from ≡ block_in bs a (suc steps) at

begins : (bs : List ℕ) (a from : ℕ) → Looking bs a from from
unfolding block_at
begins bs a from = record { steps = a; enough = omega arith; low = omega arith; same = refl }

module _ {bs : List ℕ} {a from at : ℕ} (L : Looking bs a from at) (h : Head) (e : h ≡ head_at bs at) where
  opened : block_at bs a from ≡ if= h.size 0 Nothing (if< a (at + h.size) (found_at h at) (block_in bs a L.steps (at + h.size)))
  unfolding block_in
  opened = rw e L.same

  stuck : h.size ≡ 0 → block_at bs a from ≡ Nothing
  stuck z = opened ∙ if=-yes h.size 0 _ _ z

  module _ (n : h.size ≢ 0) where
    inside : a < at + h.size → block_at bs a from ≡ found_at h at
    inside l = opened ∙ if=-no h.size 0 _ _ n ∙ if<-yes a (at + h.size) _ _ l

    goes_on : at + h.size ≤ a → Looking bs a from (at + h.size)
    goes_on l = go L.steps L.enough (opened ∙ if=-no h.size 0 _ _ n ∙ if<-no a (at + h.size) _ _ l)
      where
        go : (k : ℕ) → a ≤ k + at → block_at bs a from ≡ block_in bs a k (at + h.size) → Looking bs a from (at + h.size)
        go zero k g = absurd (omega arith)
        go (suc k) j g = record { steps = k; enough = omega arith; low = omega arith; same = g }

-- the same, where the iterator w stands
pub record LookingOn (bs : List ℕ) (a from : ℕ) (w : Blocks) : Type 0 where
  pub way : Looking bs a from w.at
  pub pool : w.pool.now ≡ bs
  pub end : w.end ≡ max from a + 1

pub sets_out : {bs : List ℕ} {a from : ℕ} {v w : Blocks} → Between bs from (max from a + 1) v → w ≡ v → LookingOn bs a from w
sets_out {bs} {a} {from} {v} {w} b e =
    record {
      way = rw (ap (λ (s : Blocks). s.at) e, b.at) (begins bs a from);
      pool = ap (λ (s : Blocks). s.pool.now) e ∙ b.pool;
      end = ap (λ (s : Blocks). s.end) e ∙ b.end;
    }

module _ {bs : List ℕ} {a from : ℕ} {w : Blocks} (L : LookingOn bs a from w) where
  pub finds_none : {t : Blocks} → Steps w None t → block_at bs a from ≡ Nothing
  finds_none S =
      ⊎_elim
      (λ l. absurd (omega (arith, l, L.end, L.way.low)))
      (λ (l, z). stuck L.way (head_at bs w.at) refl (rw (← L.pool) z))
      S.gives

  module _ {b : Block} {t : Blocks} (S : Steps w (Some b) t) where
    here : b.head ≡ head_at bs w.at
    here = S.gives.head ∙ ap (λ (v : List ℕ). head_at v w.at) L.pool

    pub finds : a < b.start + b.head.size → block_at bs a from ≡ found_at b.head b.start
    finds l =
        inside L.way b.head here S.gives.sized (omega (arith, S.gives.start))
        ∙ ap (found_at b.head) (sym S.gives.start)

    pub looks_on : b.start + b.head.size ≤ a → LookingOn bs a from t
    looks_on l =
        record {
          way = rw S.gives.on (goes_on L.way b.head here S.gives.sized (omega (arith, S.gives.start)));
          pool = S.pool ∙ L.pool;
          end = S.end ∙ L.end;
        }
