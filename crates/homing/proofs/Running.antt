-- Along the free blocks, for the loop of homing::free_run over walk::Blocks: the whole run is the run from here, and each way out or on is one law.
use mathlib.Core.Bool.{Bool, false, true}
use mathlib.Core.List.{List}
use mathlib.Core.Logic.{◌≢◌}
use mathlib.Core.Path.{◌≡◌, refl, sym, ap, ◌∙◌}
use Prim.Native.Nat.{ℕ, zero, suc, ◌+◌, ◌^◌, ◌≤◌, ◌<◌}
use native.Mathlib.Omega.{arith}
use lib.ListN.{length}
use Rattle.words.specs.Choice.{by<, if<-no, if<-yes, if=, if=-no, if=-yes, when, when-no, when-yes}
use Rattle.words.specs.Sums.{plus}
use Rattle.heads.specs.declared.head.Head.{Head}
use Rattle.std.proofs.Common.{Some, None, ⊎_elim}
use Rattle.walk.specs.declared.blocks.Block.{Block}
use Rattle.walk.specs.declared.blocks.Blocks.{Blocks}
use Rattle.walk.specs.Blocks.{head_at, pool_end}
use Rattle.walk.specs.Steps.{Between, Steps}
use Rattle.homing.specs.Homing.{ended, free_run, run_from}
use Rattle.homing.specs.declared.Run.{Run}

-- each block takes at least a byte, so the fuel suffices
pub record Running (bs : List ℕ) (from to at k : ℕ) : Type 0 where
  pub short : to ≤ 65536
  pub fuel : ℕ
  pub enough : to < fuel + at
  pub same : free_run bs from ≡ run_from fuel bs to at k

pub no_longer : (bs : List ℕ) → pool_end bs ≤ 65536
unfolding pool_end
no_longer bs =
    by< (length bs) 65536
    (λ l. omega (arith, if<-yes {A = ℕ} (length bs) 65536 (length bs) 65536 l))
    (λ l. omega (arith, if<-no {A = ℕ} (length bs) 65536 (length bs) 65536 l))

begins : (bs : List ℕ) (from to : ℕ) → to ≡ pool_end bs → Running bs from to from 0
unfolding free_run
begins bs from to e =
    record {
      short = omega (arith, e, no_longer bs);
      fuel = suc to;
      enough = omega arith;
      same = λ i. run_from (suc (sym e i)) bs (sym e i) from 0;
    }

when-same : {A : Type 0} (b : Bool) (x : A) → when b x x ≡ x
unfolding when
when-same true x = refl
when-same false x = refl

module _ {bs : List ℕ} {from to at k : ℕ} (W : Running bs from to at k) where
  -- the pool ends here
  ends : to ≤ at → ended at k ≡ free_run bs from
  unfolding run_from
  ends l = sym (go W.fuel W.same)
    where
      go : (f : ℕ) → free_run bs from ≡ run_from f bs to at k → free_run bs from ≡ ended at k
      go zero e = e
      go (suc f) e = e ∙ if<-no at to _ _ l

  module _ (l : at < to) (h : Head) (is : h ≡ head_at bs at) where
    abbrev next : ℕ → Run
    next f = run_from f bs to (plus at h.size) (plus k 1)

    opened : (f : ℕ) × (to < suc f + at) × (free_run bs from ≡ when h.held (ended at k) (if= h.size 0 (ended at k) (next f)))
    unfolding run_from
    opened = go W.fuel W.enough W.same
      where
        go : (f : ℕ) → to < f + at → free_run bs from ≡ run_from f bs to at k
            → (f : ℕ) × (to < suc f + at) × (free_run bs from ≡ when h.held (ended at k) (if= h.size 0 (ended at k) (next f)))
        go zero m g = absurd (omega arith)
        go (suc f) m g = (f, m, rw is (g ∙ if<-yes at to _ _ l))

    -- a held block ends the run, and so does a size of 0
    held-here : h.held ≡ true → ended at k ≡ free_run bs from
    held-here e = sym (opened.2 ∙ when-yes h.held _ _ e)

    stuck : h.size ≡ 0 → ended at k ≡ free_run bs from
    stuck z = sym (opened.2 ∙ ap (when h.held (ended at k)) (if=-yes h.size 0 _ _ z) ∙ when-same h.held (ended at k))

    -- no place in a pool and no size comes near 2^32
    goes_on : h.held ≡ false → h.size ≢ 0 → h.size < 2 ^ 30 → {at' k' : ℕ} → at' ≡ plus at h.size → k' ≡ plus k 1
        → (at' ≡ at + h.size) × Running bs from to at' k'
    goes_on free n s {at'} {k'} ea ek =
        let plain : plus at h.size ≡ at + h.size = omega (arith, W.short) in (
          ea ∙ plain,
          record {
            short = W.short;
            fuel = opened.0;
            enough = omega (arith, opened.1, ea, plain);
            same = opened.2 ∙ when-no h.held _ _ free ∙ if=-no h.size 0 _ _ n ∙ (λ i. run_from opened.0 bs to (sym ea i) (sym ek i));
          },
        )

-- the same, where the iterator w stands, and with what was found so far
pub record RunningOn (bs : List ℕ) (from : ℕ) (w : Blocks) (r : Run) : Type 0 where
  pub way : Running bs from w.end w.at r.blocks
  pub pool : w.pool.now ≡ bs
  pub at : r.end ≡ w.at

pub sets_out : {bs : List ℕ} {from to : ℕ} → to ≡ pool_end bs → {v w : Blocks} → Between bs from to v → w ≡ v → RunningOn bs from w (ended from 0)
sets_out {bs} {from} {to} p {v} {w} b e =
    let at : w.at ≡ from = ap (λ (s : Blocks). s.at) e ∙ b.at in
    let end : w.end ≡ to = ap (λ (s : Blocks). s.end) e ∙ b.end in
    record {
      way = rw (at, end) (begins bs from to p);
      pool = ap (λ (s : Blocks). s.pool.now) e ∙ b.pool;
      at = sym at;
    }

module _ {bs : List ℕ} {from : ℕ} {w : Blocks} {r : Run} (R : RunningOn bs from w r) where
  here : ended w.at r.blocks ≡ free_run bs from → r ≡ free_run bs from
  here g = ap (λ (e : ℕ). ended e r.blocks) R.at ∙ g

  pub arrives : {t : Blocks} → Steps w None t → r ≡ free_run bs from
  arrives S =
      ⊎_elim
      (λ l. here (ends R.way l))
      (λ (l, z). here (stuck R.way l (head_at bs w.at) refl (rw (← R.pool) z)))
      S.gives

  module _ {b : Block} {t : Blocks} (S : Steps w (Some b) t) where
    head-here : b.head ≡ head_at bs w.at
    head-here = S.gives.head ∙ ap (λ (v : List ℕ). head_at v w.at) R.pool

    pub held-there : b.head.held ≡ true → r ≡ free_run bs from
    held-there e = here (held-here R.way S.gives.below b.head head-here e)

    pub runs_on : b.head.held ≡ false → {end blocks : ℕ} → end ≡ plus b.start b.head.size → blocks ≡ plus r.blocks 1 → RunningOn bs from t (ended end blocks)
    runs_on free {end} {blocks} ea ek =
        let on = goes_on R.way S.gives.below b.head head-here free S.gives.sized S.gives.short
        (ea ∙ ap (λ (a : ℕ). plus a b.head.size) S.gives.start) ek in
        record {
          way = rw (S.end, S.gives.on, ← on.0) on.1;
          pool = S.pool ∙ R.pool;
          at = on.0 ∙ sym S.gives.on;
        }
