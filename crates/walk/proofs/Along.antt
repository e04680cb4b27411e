-- A walk along the blocks, for the loops over walk::Blocks: the whole walk is the walk from here, and each way out or on is one law.
use mathlib.Core.Path.{◌≡◌, refl, sym, ap, ◌∙◌}
use mathlib.Core.Logic.{◌≢◌}
use mathlib.Core.List.{List}
use Prim.Native.Nat.{ℕ, zero, suc, ◌+◌, ◌≤◌, ◌<◌}
use native.Mathlib.Omega.{arith}
use Rattle.words.specs.Choice.{if=, if=-yes, if=-no, if<-yes, if<-no}
use Rattle.heads.specs.declared.head.Head.{Head}
use Rattle.std.proofs.Common.{Some, None, ⊎_elim}
use Rattle.walk.specs.declared.blocks.Block.{Block}
use Rattle.walk.specs.declared.blocks.Blocks.{Blocks}
use Rattle.walk.specs.Blocks.{head_at, along, blocks_from}
use Rattle.walk.specs.Steps.{Between, Steps}

-- x₀ was worked out before the walk from `from`; at `at` it has become x
pub record Along {A : Type 0} (f : A → Head → A) (bs : List ℕ) (from to : ℕ) (x₀ : A) (at : ℕ) (x : A) : Type 0 where
  pub fuel : ℕ
  pub enough : to < fuel + at
  pub same : blocks_from f bs from to x₀ ≡ along f bs fuel at to x

pub begins : {A : Type 0} (f : A → Head → A) (bs : List ℕ) (from to : ℕ) (x : A) → Along f bs from to x from x
unfolding blocks_from
begins f bs from to x = record { fuel = suc to; enough = omega arith; same = refl }

module _ {A : Type 0} {f : A → Head → A} {bs : List ℕ} {from to : ℕ} {x₀ : A} {at : ℕ} {x : A} (W : Along f bs from to x₀ at x) where
  pub ends : to ≤ at → blocks_from f bs from to x₀ ≡ x
  unfolding along
  ends h = go W.fuel W.same
    where
      go : (k : ℕ) → blocks_from f bs from to x₀ ≡ along f bs k at to x → blocks_from f bs from to x₀ ≡ x
      go zero e = e
      go (suc k) e = e ∙ if<-no at to _ _ h

  module _ (l : at < to) (h : Head) (e : h ≡ head_at bs at) where
    opened : (k : ℕ) × (to < suc k + at)
        × (blocks_from f bs from to x₀ ≡ if= h.size 0 x (along f bs k (at + h.size) to (f x h)))
    unfolding along
    opened = go W.fuel W.enough W.same
      where
        go : (k : ℕ) → to < k + at → blocks_from f bs from to x₀ ≡ along f bs k at to x
            → (k : ℕ) × (to < suc k + at) × (blocks_from f bs from to x₀ ≡ if= h.size 0 x (along f bs k (at + h.size) to (f x h)))
        go zero m g = absurd (omega arith)
        go (suc k) m g = (k, m, rw e (g ∙ if<-yes at to _ _ l))

    pub stuck : h.size ≡ 0 → blocks_from f bs from to x₀ ≡ x
    stuck z = opened.2 ∙ if=-yes h.size 0 _ _ z

    pub goes_on : h.size ≢ 0 → (y : A) → y ≡ f x h → Along f bs from to x₀ (at + h.size) y
    goes_on n y g =
        record {
          fuel = opened.0;
          enough = omega (arith, opened.1);
          same = opened.2 ∙ if=-no h.size 0 _ _ n ∙ ap (along f bs opened.0 (at + h.size) to) (sym g);
        }

-- the same, where the iterator w stands
pub record Going {A : Type 0} (f : A → Head → A) (bs : List ℕ) (from to : ℕ) (x₀ : A) (w : Blocks) (x : A) : Type 0 where
  pub way : Along f bs from to x₀ w.at x
  pub pool : w.pool.now ≡ bs
  pub end : w.end ≡ to

pub sets_out : {A : Type 0} (f : A → Head → A) {bs : List ℕ} {from to : ℕ} (x : A) {v w : Blocks} → Between bs from to v → w ≡ v
    → Going f bs from to x w x
sets_out f {bs} {from} {to} x {v} {w} b e =
    record {
      way = rw (ap (λ (s : Blocks). s.at) e, b.at) (begins f bs from to x);
      pool = ap (λ (s : Blocks). s.pool.now) e ∙ b.pool;
      end = ap (λ (s : Blocks). s.end) e ∙ b.end;
    }

module _ {A : Type 0} {f : A → Head → A} {bs : List ℕ} {from to : ℕ} {x₀ : A} {w : Blocks} {x : A} (G : Going f bs from to x₀ w x) where
  pub arrives : {t : Blocks} → Steps w None t → blocks_from f bs from to x₀ ≡ x
  arrives S =
      ⊎_elim
      (λ l. ends G.way (omega (arith, l, G.end)))
      (λ (l, z). stuck G.way (omega (arith, l, G.end)) (head_at bs w.at) refl (rw (← G.pool) z))
      S.gives

  pub steps : {b : Block} {t : Blocks} → Steps w (Some b) t → (y : A) → y ≡ f x b.head → Going f bs from to x₀ t y
  steps {b} S y e =
      record {
        way = rw S.gives.on (goes_on G.way (omega (arith, S.gives.below, G.end)) b.head
            (S.gives.head ∙ ap (λ (v : List ℕ). head_at v w.at) G.pool) S.gives.sized y e);
        pool = S.pool ∙ G.pool;
        end = S.end ∙ G.end;
      }
