-- What is found, as the paper's bins: the bin of exactly a size, or on the lowest level the smallest of at least a size.
use mathlib.Core.Bool.{false, true}
use mathlib.Core.List.{List}
use mathlib.Core.Logic.{◌≢◌, inl, inr}
use mathlib.Core.Path.{◌∙◌, ◌≡◌, refl, subst, sym}
use Prim.Native.Nat.{◌<◌, ◌≤◌, ℕ}
use native.Mathlib.Omega.{arith}
use borrow.Author.Tests.{eqb-false, eqb-true}
use Rattle.bins.proofs.Found.{Found, Names, next-is}
use Rattle.bins.proofs.Index.{Index}
use Rattle.bins.specs.Find.{empty, none, size}
use Rattle.bins.specs.declared.chain.Bin.{Bin}
use Rattle.paper.proofs.bins.Listed.{Loose}
use Rattle.paper.proofs.bins.Smallest.{smallest-is, smallest-none}
use Rattle.paper.proofs.reads.LooseReads.{above-none, height-pos, reach-in}
use Rattle.paper.proofs.steps.First.{OnLevel, Pred, reach-at}
use Rattle.paper.specs.Bins.{first}
use Rattle.paper.specs.Blocks.{State, end}
use Rattle.paper.specs.Governed.{above, height, reach}
use Rattle.paper.specs.Granting.{smallest_bin}
use Rattle.paper.specs.Layout.{false_block, large}
use Rattle.words.specs.Choice.{by<, by=}

-- bin z, which is not empty, on one of its levels, and what stands before it there
pub record Led (s : State) (z : ℕ) (bin : Bin) : Type 0 where
  pub big : large ≤ z
  pub sized : bin.size ≡ z
  pub leads : bin.first ≡ first (s.bins z)
  pub some : bin.first ≢ 0
  pub y : ℕ
  pub pred : Pred s z bin.level y bin.before

-- where nothing comes past the false block on the lowest level every large bin is empty
pub empty-none : (s : State) (W : Loose s) (cs : List ℕ) → Index s s.top cs → empty cs ≡ true → (z : ℕ) → large ≤ z → first (s.bins z) ≡ 0
unfolding empty
empty-none s W cs I t z l =
    let none-past : above s.top (end s) s.bins 1 64 ≡ 0 =
    sym (I.word 1 64 false_block (omega arith) W.top1 (inl (refl, refl))) ∙ eqb-true _ 0 t in
    sym (reach-at s.top (end s) s.bins 1 z (height-pos s W z)) ∙ above-none s W 1 64 none-past z (omega arith)

module _ (s : State) (W : Loose s) (i least : ℕ) (big : large ≤ least) (bin : Bin) (F : Found s i least 0 bin) where
  abbrev reaches : ℕ → ℕ
  reaches = reach s.top (end s) s.bins i

  -- no bin stands on that level between it and what stands before it
  module _ (b : (reaches bin.size ≡ bin.first) × (bin.first ≢ 0) × (least ≤ bin.size)) where
    past : (u : ℕ) → F.y < u → u < bin.size → reaches u ≡ 0
    past = (next-is s W i F.y bin.size (λ o. b.1 (sym b.0 ∙ o)) (sym F.next ∙ sym b.0)).1

  none-past : bin.first ≡ 0 → (u : ℕ) → F.y < u → reaches u ≡ 0
  none-past e = above-none s W i F.y (sym F.next ∙ e)

  none-size : bin.first ≡ 0 → bin.size ≡ 0
  none-size e = go F.names
    where
      go : Names s i least 0 bin → bin.size ≡ 0
      go (inl b) = b.1
      go (inr b) = absurd (b.1 e)

  some_at : bin.first ≢ 0 → (reaches bin.size ≡ bin.first) × (bin.first ≢ 0) × (least ≤ bin.size)
  some_at n = go F.names
    where
      go : Names s i least 0 bin → (reaches bin.size ≡ bin.first) × (bin.first ≢ 0) × (least ≤ bin.size)
      go (inl b) = absurd (n b.0)
      go (inr b) = b

  pub found-led : bin.first ≢ 0 → Led s bin.size bin
  found-led n =
      let b = some_at n in
      record {
        big = omega (arith, b.2);
        sized = refl;
        leads = sym (reach-in s W i bin.size bin.first b.0 n).0;
        some = n;
        y = F.y;
        pred = record {
          below = omega (arith, F.pred.below, b.2);
          gap = λ u a c. subst (λ (k : ℕ). reach s.top (end s) s.bins k u ≡ 0) (sym F.level) (past b u a c);
          who = subst (λ (k : ℕ). OnLevel s k F.y bin.before) (sym F.level) F.pred.who;
        };
      }

  -- ---- the bin of that size, where it stands on the level
  module _ (high : i ≤ height s.top least) where
    at_least : reaches least ≡ first (s.bins least)
    at_least = reach-at s.top (end s) s.bins i least high

    pub found-exact : first (s.bins least) ≢ 0 → bin.size ≡ least
    found-exact n = go F.names
      where
        go : Names s i least 0 bin → bin.size ≡ least
        go (inl b) = absurd (n (sym at_least ∙ none-past b.0 least F.pred.below))
        go (inr b) =
            by< least bin.size (λ l. absurd (n (sym at_least ∙ past b least F.pred.below l))) (λ l. omega (arith, b.2))

    pub found-empty : bin.size ≢ least → first (s.bins least) ≡ 0
    found-empty d = by= (first (s.bins least)) 0 (λ e. e) (λ n. absurd (d (found-exact n)))

    pub exact-led : bin.size ≡ least → Led s least bin
    exact-led e = subst (λ (z : ℕ). Led s z bin) e (found-led (λ o. omega (arith, none-size o)))

  -- ---- on the lowest level every bin stands
  module _ (lowest : i ≡ 1) where
    at_first : (u : ℕ) → reaches u ≡ first (s.bins u)
    at_first u = reach-at s.top (end s) s.bins i u (omega (arith, height-pos s W u))

    pub found-size : size bin ≡ smallest_bin s least
    unfolding size
    found-size = go F.names
      where
        go : Names s i least 0 bin → bin.size ≡ smallest_bin s least
        go (inl b) =
            b.1 ∙ sym (smallest-none s least (λ u a. sym (at_first u) ∙ none-past b.0 u (omega (arith, F.pred.below))))
        go (inr b) =
            sym (smallest-is s least W (omega arith) bin.size b.2 (λ o. b.1 (sym b.0 ∙ at_first bin.size ∙ o))
            (λ u a c. sym (at_first u) ∙ past b u (omega (arith, F.pred.below)) c))

    pub found_none : none bin ≡ true → smallest_bin s least ≡ 0
    unfolding none size
    found_none t = sym found-size ∙ none-size (eqb-true bin.first 0 t)

    pub found_some : none bin ≡ false → Led s (smallest_bin s least) bin
    unfolding none size
    found_some t = subst (λ (z : ℕ). Led s z bin) found-size (found-led (eqb-false bin.first 0 t))
