-- The small lists of the state in which the blocks are gone, as stores, whether or not a free block goes home: where none does, no list has a member
-- below the edge, since the blocks below it are held.
use mathlib.Core.List.{List, [], ◌++◌, ◌∷◌, append_assoc}
use mathlib.Core.Logic.{◌≢◌, inr}
use mathlib.Core.Path.{◌∙◌, ◌≡◌, ap, fun_ext, refl, sym}
use Prim.Native.Nat.{◌%◌, ◌+◌, ◌<◌, ◌≤◌, ℕ}
use native.Mathlib.Omega.{arith}
use lib.ListN.{length}
use Rattle.homing.proofs.Home.{listed}
use Rattle.homing.proofs.ListFrame.{list-frame}
use Rattle.homing.proofs.ListGood.{all_links, lists-elsewhere, lists-good}
use Rattle.homing.proofs.ListsPruned.{lists-pruned}
use Rattle.homing.specs.Homing.{ended}
use Rattle.paper.proofs.bins.Listed.{Loose, free_at-append, free_at-below, loose, start}
use Rattle.paper.proofs.home.Below.{large-not-below, none_below, small-not-below}
use Rattle.paper.proofs.home.Edged.{edged, edged-shaped, low-no-small}
use Rattle.paper.proofs.honest.AllHeld.{AllHeld, held-not-listed}
use Rattle.paper.proofs.keeps.Kept.{free_at-runs}
use Rattle.paper.proofs.reads.LooseReads.{listed-size}
use Rattle.paper.proofs.reads.Readings.{end-big}
use Rattle.paper.proofs.runs.Walk.{total-append}
use Rattle.paper.proofs.sheet.Stores.{Elsewhere, Good, puts}
use Rattle.paper.proofs.steps.Leave.{NothingNew, with-bins}
use Rattle.paper.specs.Bins.{count}
use Rattle.paper.specs.Blocks.{Block, State, end, total}
use Rattle.paper.specs.Governed.{sheet}
use Rattle.paper.specs.Granting.{E}
use Rattle.paper.specs.Layout.{blocks_at, large, small_bins}
use Rattle.paper.specs.Sheet.{Holds}
use Rattle.paper.specs.Sound.{WellFormed, free_at}
use Rattle.words.specs.Choice.{by<, by=, if=-no, if=-yes}

-- `pre`, held, and `run` are gone, `above` stays
module _ (s : State) (bs : List ℕ) (W : WellFormed s) (l : end s ≡ length bs) (h : Holds (sheet s) bs)
    (pre run above : List Block) (is : s.high ≡ (pre ++ run) ++ above) where
  abbrev N : State
  N = edged s (pre ++ run) above

  abbrev edge : ℕ
  edge = E s + total (pre ++ run)

  N-loose : Loose N
  N-loose = loose N (edged-shaped s W (pre ++ run) above is).well_formed

  pub home-long : 176 ≤ end N
  home-long = omega (arith, (edged-shaped s W (pre ++ run) above is).ends, end-big bs s W (sym l) h)

  -- the large lists are as they were
  same-large : (y : ℕ) → 64 < y → N.bins y ≡ s.bins y
  same-large y m =
      by< y large
      (λ k. small-not-below edge s.bins y k ∙ none_below edge (s.bins y) (λ q o. absurd (omega (arith, listed-size s (loose s W) q y o))))
      (λ k. large-not-below edge s.bins y k)

  -- and so are the small ones where only held blocks are below the edge
  none-leaves : AllHeld pre → total run ≡ 0 → (y : ℕ) → N.bins y ≡ s.bins y
  none-leaves H e y =
      by< y large
      (λ k. small-not-below edge s.bins y k ∙ none_below edge (s.bins y) (λ q o. by< q edge (λ b. absurd (none-there q k o b)) (λ b. b)))
      (λ k. large-not-below edge s.bins y k)
    where
      none-there : (q : ℕ) → y < large → 1 ≤ count q (s.bins y) → q < edge → ⊥
      none-there q k o b =
          omega (
            arith,
            W.listed y q,
            free_at-runs s y q,
            low-no-small s.low blocks_at y q W.low_ok k,
            ap (λ (xs : List Block). free_at xs (E s) y q) (is ∙ append_assoc pre run above),
            free_at-append pre (run ++ above) (E s) y q,
            held-not-listed pre H (E s) y q,
            free_at-below (run ++ above) (E s + total pre) y q (omega (arith, total-append pre run)),
          )

  -- the small lists as stores
  pub record Lists : Type 0 where
    pub stores : List (ℕ × ℕ)
    pub made : listed bs (ended edge (length run)) ≡ puts stores bs
    pub good : Good (sheet N) (end N) stores
    pub apart : (a : ℕ) → a < small_bins + 8 → Elsewhere a stores
    pub frame : (a : ℕ) → a % 4 ≡ 0 → Elsewhere a stores → NothingNew (sheet (with-bins s N.bins) a) (sheet s a)

  pub home-lists : AllHeld pre → Lists
  home-lists H = by= (length run) 0 none some_go
    where
      no_bytes : (xs : List Block) → length xs ≡ 0 → total xs ≡ 0
      no_bytes [] e = refl
      no_bytes (b ∷ xs) e = absurd (omega arith)

      none : length run ≡ 0 → Lists
      none e =
          record {
            stores = [];
            made = if=-yes (length run) 0 _ _ e;
            good = tt;
            apart = λ a m. tt;
            frame = λ a al o. inr (ap (λ (b : ℕ → List ℕ). sheet (with-bins s b) a) (fun_ext (none-leaves H (no_bytes run e))));
          }

      some_go : length run ≢ 0 → Lists
      some_go n =
          record {
            stores = all_links N.bins 8 8;
            made = if=-no (length run) 0 _ _ n
                ∙ lists-pruned s bs W l h N N-loose home-long edge (λ z m. small-not-below edge s.bins z m);
            good = lists-good N N-loose home-long 8 8 (omega arith) (omega arith) refl;
            apart = λ a m. lists-elsewhere N.bins 8 8 a m (λ y x o. omega (arith, start N N-loose y x o));
            frame = λ a al o. list-frame s (loose s W) N.bins same-large a al o;
          }
