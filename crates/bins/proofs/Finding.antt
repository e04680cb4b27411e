-- The walk along a level, for the loop of bins::along: the whole walk is the walk from here, and each way out or on is one law.
use mathlib.Core.Path.{◌≡◌, refl, sym, ap, ◌∙◌, subst}
use mathlib.Core.Logic.{◌≢◌}
use mathlib.Core.List.{List}
use Prim.Native.Nat.{ℕ, zero, suc, ◌+◌, ◌≤◌, ◌<◌}
use native.Mathlib.Omega.{arith}
use Rattle.words.specs.Choice.{if<, if=, if=-yes, if=-no, if<-yes, if<-no}
use Rattle.levels.specs.Levels.{word_of}
use Rattle.bins.specs.declared.chain.Bin.{Bin}
use Rattle.bins.specs.Find.{size_at, linked_at, found, walk, along}

-- the sizes rise towards `least`, so the fuel suffices
pub record Finding (bs : List ℕ) (level : ℕ) (bin : Bin) (least before below first : ℕ) : Type 0 where
  pub fuel : ℕ
  pub enough : least < fuel + below
  pub under : below ≤ least
  pub same : along bs level bin least ≡ walk fuel bs level bin least before below first

pub begins : (bs : List ℕ) (level : ℕ) (bin : Bin) (least index first : ℕ) → index ≡ word_of level → first ≡ linked_at bs bin.before index
    → Finding bs level bin least bin.before 0 first
unfolding along
begins bs level bin least index first w e =
    record {
      fuel = suc least;
      enough = omega arith;
      under = omega arith;
      same = ap (walk (suc least) bs level bin least bin.before 0) (sym (e ∙ ap (linked_at bs bin.before) w));
    }

module _ {bs : List ℕ} {level : ℕ} {bin : Bin} {least before below first : ℕ} (F : Finding bs level bin least before below first) where
  -- one step of the walk
  abbrev step : Bin → Bin
  step on =
      if= first bin.first
      (found level before bin.first bin.size)
      (if< (size_at bs first) least
      (if< below (size_at bs first) on (found level before 0 0))
      (found level before first (size_at bs first)))

  abbrev rest : ℕ → Bin
  rest k = walk k bs level bin least first (size_at bs first) (linked_at bs first (word_of level))

  opened : (k : ℕ) × (least < suc k + below) × (along bs level bin least ≡ step (rest k))
  unfolding walk
  opened = go F.fuel F.enough F.same
    where
      go : (k : ℕ) → least < k + below → along bs level bin least ≡ walk k bs level bin least before below first
          → (k : ℕ) × (least < suc k + below) × (along bs level bin least ≡ step (rest k))
      go zero h e = absurd (omega (arith, F.under))
      go (suc k) h e = (k, h, e)

  pub at-the-stop : first ≡ bin.first → found level before bin.first bin.size ≡ along bs level bin least
  at-the-stop e = sym (opened.2 ∙ if=-yes first bin.first _ _ e)

  module _ (n : first ≢ bin.first) (z : ℕ) (e : z ≡ size_at bs first) where
    pub at-a-bin : least ≤ z → found level before first z ≡ along bs level bin least
    at-a-bin h =
        ap (found level before first) e
        ∙ sym (opened.2 ∙ if=-no first bin.first _ _ n ∙ if<-no (size_at bs first) least _ _ (subst (λ (t : ℕ). least ≤ t) e h))

    module _ (s : z < least) where
      past : (x y w : Bin) → if= first bin.first w (if< (size_at bs first) least x y) ≡ x
      past x y w = if=-no first bin.first _ _ n ∙ if<-yes (size_at bs first) least _ _ (subst (λ (t : ℕ). t < least) e s)

      pub at-no-rise : z ≤ below → found level before 0 0 ≡ along bs level bin least
      at-no-rise h = sym (opened.2 ∙ past _ _ _ ∙ if<-no below (size_at bs first) _ _ (subst (λ (t : ℕ). t ≤ below) e h))

      pub goes_on : below < z → (index f : ℕ) → index ≡ word_of level → f ≡ linked_at bs first index → Finding bs level bin least first z f
      goes_on h index f w g =
          record {
            fuel = opened.0;
            enough = omega (arith, opened.1);
            under = omega arith;
            same = opened.2 ∙ past _ _ _ ∙ if<-yes below (size_at bs first) _ _ (subst (λ (t : ℕ). below < t) e h)
                ∙ subst (λ (t : ℕ). rest opened.0 ≡ walk opened.0 bs level bin least first t (linked_at bs first (word_of level))) (sym e) refl
                ∙ ap (walk opened.0 bs level bin least first z) (sym (g ∙ ap (linked_at bs first) w));
          }
