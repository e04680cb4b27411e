-- The eight lists one after the other, as stores: what one list stores is at no word that another one reads.
use mathlib.Core.List.{List, [], ◌∷◌}
use mathlib.Core.Logic.{◌≢◌}
use mathlib.Core.Path.{◌∙◌, ◌≡◌, ap, refl, subst, sym}
use Prim.Native.Nat.{◌%◌, ◌*◌, ◌+◌, ◌/◌, ◌<◌, ◌≤◌, suc, zero, ℕ}
use native.Mathlib.Nat.{add_comm}
use native.Mathlib.Omega.{arith}
use lib.ListN.{length}
use Rattle.homing.proofs.Chain.{links, links-elsewhere}
use Rattle.homing.proofs.ListGood.{all_links, list-good, word-elsewhere}
use Rattle.homing.proofs.ListRead.{list-leads, list-short, list-starts}
use Rattle.homing.proofs.Pruned.{Leads, prune-is}
use Rattle.homing.specs.Homing.{prune, pruned, pruned_from}
use Rattle.paper.proofs.bins.Bins.{count-cons, count-here}
use Rattle.paper.proofs.bins.Listed.{Loose, loose, start}
use Rattle.paper.proofs.home.Below.{count-not-below, not_below}
use Rattle.paper.proofs.reads.LooseReads.{bin-unique}
use Rattle.paper.proofs.reads.Readings.{small-reads}
use Rattle.paper.proofs.sheet.FreeWordLast.{puts-append}
use Rattle.paper.proofs.sheet.Stores.{length-puts, puts}
use Rattle.paper.specs.Bins.{count, first}
use Rattle.paper.specs.Blocks.{State, end}
use Rattle.paper.specs.Governed.{sheet}
use Rattle.paper.specs.Layout.{large, small_bins, small_next_at}
use Rattle.paper.specs.Sheet.{Holds}
use Rattle.paper.specs.Sound.{WellFormed}
use Rattle.words.specs.Choice.{by<, if<-no, if<-yes}
use Rattle.words.specs.Words.{word_at}

-- other bytes with the same words there lead along it too
leads-still : (bs cs : List ℕ) (xs : List ℕ) → ((q : ℕ) → 1 ≤ count q xs → word_at 4 cs (q + small_next_at) ≡ word_at 4 bs (q + small_next_at))
    → Leads bs xs → Leads cs xs
leads-still bs cs [] same L = tt
leads-still bs cs (x ∷ xs) same L = (
  same x (omega (arith, count-here x xs)) ∙ L.0,
  leads-still bs cs xs (λ q o. same q (omega (arith, count-cons q x xs))) L.1,
)

-- N is s with its small lists without what lies below the edge
module _ (s : State) (bs : List ℕ) (W : WellFormed s) (l : end s ≡ length bs) (h : Holds (sheet s) bs)
    (N : State) (L : Loose N) (long : 176 ≤ end N) (edge : ℕ) (is : (z : ℕ) → z < large → N.bins z ≡ not_below edge (s.bins z)) where
  -- what stays was there before
  stays : (z q : ℕ) → z < large → 1 ≤ count q (N.bins z) → 1 ≤ count q (s.bins z)
  stays z q m o =
      by< q edge
      (λ b. absurd (omega (arith, ap (count q) (is z m), count-not-below edge q (s.bins z), if<-yes {A = ℕ} q edge 0 (count q (s.bins z)) b)))
      (λ b. omega (arith, ap (count q) (is z m), count-not-below edge q (s.bins z), if<-no {A = ℕ} q edge 0 (count q (s.bins z)) b))

  -- list y is read as it was
  abbrev Ready : List ℕ → ℕ → Type 0
  Ready cs y = (word_at 4 cs (small_bins + y) ≡ first (s.bins y)) × Leads cs (s.bins y)

  ready-first : (y : ℕ) → 8 ≤ y → y ≤ 64 → y % 8 ≡ 0 → Ready bs y
  ready-first y a b c =
      (ap (word_at 4 bs) (add_comm small_bins y) ∙ small-reads bs s W (sym l) h y a b c, list-leads s bs W l h y (omega arith))

  module _ (z : ℕ) (z8 : 8 ≤ z) (z64 : z ≤ 64) (ze : z % 8 ≡ 0) (cs : List ℕ) where
    abbrev stores : List (ℕ × ℕ)
    stores = links (small_bins + z) (N.bins z)

    one_list : length cs ≡ length bs → Ready cs z → pruned cs (small_bins + z) edge ≡ puts stores cs
    unfolding pruned
    one_list len R =
        ap (prune (length cs / 8) cs edge (small_bins + z)) R.0
        ∙ prune-is (length cs / 8) cs edge (small_bins + z) (s.bins z) (omega (arith, list-short s bs W l h z, ap (λ (k : ℕ). k / 8) len))
        (omega arith) (list-starts s (loose s W) W.fits z) (λ q o. omega (arith, start s (loose s W) z q o)) R.1
        ∙ ap (λ (ys : List ℕ). puts (links (small_bins + z) ys) cs) (sym (is z (omega arith)))

    still-ready : (y : ℕ) → y ≤ 64 → y % 8 ≡ 0 → y ≢ z → Ready cs y → Ready (puts stores cs) y
    still-ready y y64 ye n R = (
      kept (small_bins + y) (omega arith) (omega arith) (λ x o. omega (arith, start N L z x o)) ∙ R.0,
      leads-still cs (puts stores cs) (s.bins y)
          (λ q o. kept (q + small_next_at) (omega (arith, start s (loose s W) y q o)) (omega (arith, start s (loose s W) y q o))
          (λ x k e. n (bin-unique s (loose s W) q y z o (stays z q (omega arith) (subst (λ (v : ℕ). 1 ≤ count v (N.bins z)) (omega arith) k))))) R.1,
    )
      where
        kept : (a : ℕ) → a % 4 ≡ 0 → a ≢ small_bins + z → ((x : ℕ) → 1 ≤ count x (N.bins z) → a ≢ x + small_next_at)
            → word_at 4 (puts stores cs) a ≡ word_at 4 cs a
        kept a al m k =
            word-elsewhere (sheet N) (end N) stores cs a al (list-good N L long z z8 z64 ze) (links-elsewhere a (small_bins + z) (N.bins z) m k)

  lists-are : (c z : ℕ) (cs : List ℕ) → 8 ≤ z → z + 8 * c ≤ large → z % 8 ≡ 0 → length cs ≡ length bs
      → ((y : ℕ) → z ≤ y → y ≤ 64 → y % 8 ≡ 0 → Ready cs y) → pruned_from c cs (small_bins + z) edge ≡ puts (all_links N.bins c z) cs
  unfolding pruned_from all_links
  lists-are zero z cs a b e len R = refl
  lists-are (suc c) z cs a b e len R =
      let z64 : z ≤ 64 = omega arith in
      let next : small_bins + z + 8 ≡ small_bins + (z + 8) = omega arith in
      (λ i. pruned_from c (one_list z a z64 e cs len (R z (omega arith) z64 e) i) (next i) edge)
      ∙ lists-are c (z + 8) (puts (stores z a z64 e cs) cs) (omega arith) (omega arith) (omega arith)
      (length-puts (stores z a z64 e cs) cs ∙ len)
      (λ y m y64 ye. still-ready z a z64 e cs y y64 ye (omega arith) (R y (omega arith) y64 ye))
      ∙ sym (puts-append (stores z a z64 e cs) (all_links N.bins c (z + 8)) cs)

  pub lists-pruned : pruned_from 8 bs 32 edge ≡ puts (all_links N.bins 8 8) bs
  lists-pruned = lists-are 8 8 bs (omega arith) (omega arith) refl refl (λ y a b c. ready-first y a b c)
