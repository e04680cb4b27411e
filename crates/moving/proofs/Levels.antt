-- The loops along the levels: the whole is what is left from here, and each way out or on is one law.
use mathlib.Core.List.{List}
use mathlib.Core.Path.{◌≡◌, refl, sym, ap, ◌∙◌}
use Prim.Native.Nat.{ℕ, suc, ◌+◌, ◌-◌, ◌≤◌, ◌<◌}
use native.Mathlib.Omega.{arith}
use lib.ListN.{length, set}
use Rattle.words.proofs.Laws.{put-length}
use Rattle.words.specs.Choice.{if<-no, if<-yes}
use Rattle.words.specs.Words.{put_at}
use Rattle.heads.specs.Links.{link_word}
use Rattle.levels.specs.Levels.{word_of}
use Rattle.paper.specs.Layout.{level_at, levels}
use Rattle.moving.specs.Move.{Moving, moving, last_on, lead, climb, stand, closed}

-- ---- nothing comes past the last ones

pub record Closing (ls old new : List ℕ) (level : ℕ) : Type 0 where
  pub low : 2 ≤ level
  pub long : length new ≡ length old
  pub same : closed (levels - 1) 2 ls old ≡ closed (suc levels - level) level ls new

pub closing : (ls old : List ℕ) → Closing ls old old 2
closing ls old = record { low = omega arith; long = refl; same = refl }

module _ {ls old new : List ℕ} {level : ℕ} (C : Closing ls old new level) where
  pub closes : level ≤ levels → {next : List ℕ} {w o : ℕ} → w ≡ last_on level ls → o ≡ word_of level → next ≡ put_at 4 new (w + o) 0
      → Closing ls old next (level + 1)
  unfolding closed
  closes l {next} {w} {o} ew eo e =
      let is : next ≡ put_at 4 new (last_on level ls + word_of level) 0 = e ∙ ap (λ (a : ℕ). put_at 4 new a 0) (λ i. ew i + eo i) in
      record {
        low = omega (arith, C.low);
        long = ap length e ∙ put-length 4 new (w + o) 0 ∙ C.long;
        same = C.same ∙ ap (λ (c : ℕ). closed c level ls new) step ∙ ap (closed (suc levels - (level + 1)) (level + 1) ls) (sym is);
      }
    where
      step : suc levels - level ≡ suc (suc levels - (level + 1))
      step = omega arith

  pub all_closed : levels < level → new ≡ closed (levels - 1) 2 ls old
  unfolding closed
  all_closed l = sym (C.same ∙ ap (λ (c : ℕ). closed c level ls new) done)
    where
      done : suc levels - level ≡ 0
      done = omega arith

-- ---- a first block stands on its levels

pub record Climbing (old : Moving) (h f : ℕ) (bs ls : List ℕ) (level : ℕ) : Type 0 where
  pub low : 2 ≤ level
  pub long : length bs ≡ length old.bytes
  pub same : climb (h - 1) 2 f old ≡ climb (suc h - level) level f (moving bs ls)

pub too-high : (m : Moving) (h f : ℕ) → levels < h → m ≡ stand h f m
unfolding stand
too-high m h f l = sym (if<-yes levels h _ _ l)

pub climbing : (old : Moving) (h f : ℕ) → Climbing old h f old.bytes old.lasts 2
climbing old h f = record { low = omega arith; long = refl; same = ap (λ (c : ℕ). climb c 2 f old) (omega arith) }

module _ {old : Moving} {h f : ℕ} {bs ls : List ℕ} {level : ℕ} (C : Climbing old h f bs ls level) where
  pub climbs : level ≤ h → {next : List ℕ} {o v : ℕ} → o ≡ word_of level → v ≡ link_word (last_on level ls) f → next ≡ put_at 4 bs (last_on level ls + o) v
      → Climbing old h f next (set ls (level - 2) f) (level + 1)
  unfolding climb lead
  climbs l {next} {o} {v} eo ev e =
      let is : next ≡ put_at 4 bs (last_on level ls + word_of level) (link_word (last_on level ls) f) = e ∙ (λ i. put_at 4 bs (last_on level ls + eo i) (ev i)) in
      record {
        low = omega (arith, C.low);
        long = ap length e ∙ put-length 4 bs (last_on level ls + o) v ∙ C.long;
        same = C.same ∙ ap (λ (c : ℕ). climb c level f (moving bs ls)) step
            ∙ ap (λ (t : List ℕ). climb (suc h - (level + 1)) (level + 1) f (moving t (set ls (level - 2) f))) (sym is);
      }
    where
      step : suc h - level ≡ suc (suc h - (level + 1))
      step = omega arith

  -- past the last level; the level word was stored before
  pub climbed : h < level → h ≤ levels → (bs₀ : List ℕ) → old.bytes ≡ put_at 4 bs₀ (f + level_at) h → moving bs ls ≡ stand h f (moving bs₀ old.lasts)
  unfolding climb stand
  climbed l k bs₀ e =
      sym (if<-no levels h _ _ k ∙ ap (λ (t : List ℕ). climb (h - 1) 2 f (moving t old.lasts)) (sym e) ∙ C.same
      ∙ ap (λ (c : ℕ). climb c level f (moving bs ls)) done)
    where
      done : suc h - level ≡ 0
      done = omega arith
