-- The pass from bin to bin, for the loop of moving::pass: the whole pass is the pass from here, and each way out or on is one law.
use mathlib.Core.List.{List}
use mathlib.Core.Logic.{◌≢◌}
use mathlib.Core.Path.{◌≡◌, refl, sym, ap, ◌∙◌, subst}
use Prim.Native.Nat.{ℕ, zero, suc, ◌+◌, ◌-◌, ◌≤◌, ◌<◌}
use native.Mathlib.Omega.{arith}
use lib.ListN.{length}
use Rattle.words.specs.Choice.{if<, if<-no, if<-yes, if=, if=-no, if=-yes}
use Rattle.bins.specs.Find.{linked_at, size_at}
use Rattle.paper.specs.Governed.{height}
use Rattle.paper.specs.Layout.{chain_at, false_block, level_at, levels}
use Rattle.words.specs.Words.{put_at}
use Rattle.moving.specs.Move.{Moving, moving, stand, pass, passed, sizes, closed, moved}

-- the sizes rise and no size is past 32 bits, so the fuel suffices
pub record Passing (t first : ℕ) (old : Moving) (bs ls : List ℕ) (y f : ℕ) : Type 0 where
  pub fuel : ℕ
  pub enough : sizes ≤ fuel + y
  pub near : y < sizes
  pub long : length bs ≡ length old.bytes
  pub same : pass sizes t 64 first old ≡ pass fuel t y f (moving bs ls)

pub begins : (t first : ℕ) (old : Moving) → Passing t first old old.bytes old.lasts 64 first
begins t first old = record { fuel = sizes; enough = omega arith; near = omega arith; long = refl; same = refl }

module _ {t first : ℕ} {old : Moving} {bs ls : List ℕ} {y f : ℕ} (P : Passing t first old bs ls y f) where
  abbrev next : ℕ → Moving
  next k =
      let m = stand (height t (size_at bs f)) f (moving bs ls) in
      pass k t (size_at bs f) (linked_at m.bytes f chain_at) m

  opened : (k : ℕ) × (sizes ≤ suc k + y) × (pass sizes t 64 first old ≡ if= f 0 (moving bs ls) (if< y (size_at bs f) (next k) (moving bs ls)))
  unfolding pass
  opened = go P.fuel P.enough P.same
    where
      go : (k : ℕ) → sizes ≤ k + y → pass sizes t 64 first old ≡ pass k t y f (moving bs ls)
          → (k : ℕ) × (sizes ≤ suc k + y) × (pass sizes t 64 first old ≡ if= f 0 (moving bs ls) (if< y (size_at bs f) (next k) (moving bs ls)))
      go zero h e = absurd (omega (arith, P.near))
      go (suc k) h e = (k, h, e)

  -- where the pass begins, as it was read
  from : {first' : ℕ} → first ≡ first' → {m : Moving} → m ≡ pass sizes t 64 first old → m ≡ pass sizes t 64 first' old
  from e g = g ∙ ap (λ (k : ℕ). pass sizes t 64 k old) e

  pub passed-all : {first' : ℕ} → first ≡ first' → f ≡ 0 → moving bs ls ≡ pass sizes t 64 first' old
  passed-all b e = from b (sym (opened.2 ∙ if=-yes f 0 _ _ e))

  module _ (n : f ≢ 0) {z : ℕ} (ez : z ≡ size_at bs f) where
    pub no-rise : {first' : ℕ} → first ≡ first' → z ≤ y → moving bs ls ≡ pass sizes t 64 first' old
    no-rise b l = from b (sym (opened.2 ∙ if=-no f 0 _ _ n ∙ if<-no y (size_at bs f) _ _ (subst (λ (k : ℕ). k ≤ y) ez l)))

    pub goes_on : y < z → z < sizes → {h f' : ℕ} {bs' ls' : List ℕ} → h ≡ height t z → length bs' ≡ length bs
        → moving bs' ls' ≡ stand h f (moving bs ls) → f' ≡ linked_at bs' f chain_at → Passing t first old bs' ls' z f'
    goes_on l near {h} {f'} {bs'} {ls'} eh long em ef =
        let m : stand (height t (size_at bs f)) f (moving bs ls) ≡ moving bs' ls' =
        ap (λ (k : ℕ). stand k f (moving bs ls)) (sym (eh ∙ ap (height t) ez)) ∙ sym em in
        record {
          fuel = opened.0;
          enough = omega (arith, opened.1);
          near = near;
          long = long ∙ P.long;
          same = opened.2 ∙ if=-no f 0 _ _ n ∙ if<-yes y (size_at bs f) _ _ (subst (λ (k : ℕ). y < k) ez l)
              ∙ (λ i. pass opened.0 t (sym ez i) (linked_at (m i).bytes f chain_at) (m i))
              ∙ ap (λ (k : ℕ). pass opened.0 t z k (moving bs' ls')) (sym ef);
        }

-- ---- the whole move, by its three steps
pub all_moved : (bs : List ℕ) (t : ℕ) {bs₁ bs₂ bs₃ ls : List ℕ} → moving bs₁ ls ≡ passed bs t → bs₂ ≡ closed (levels - 1) 2 ls bs₁
    → bs₃ ≡ put_at 4 bs₂ (false_block + level_at) t → bs₃ ≡ moved bs t
unfolding moved
all_moved bs t p c e =
    e ∙ ap (λ (b : List ℕ). put_at 4 b (false_block + level_at) t) (c ∙ (λ i. closed (levels - 1) 2 (p i).lasts (p i).bytes))
