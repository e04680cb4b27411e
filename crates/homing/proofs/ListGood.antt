-- The words that lead along the small lists of a state are those of its sheet: all eight lists as stores, which fit it.
use mathlib.Core.List.{List, [], ◌++◌, ◌∷◌}
use mathlib.Core.Logic.{◌≢◌, inl, inr}
use mathlib.Core.Option.{some}
use mathlib.Core.Path.{◌∙◌, ◌≡◌, ap, refl}
use Prim.Native.Nat.{◌%◌, ◌*◌, ◌+◌, ◌-◌, ◌/◌, ◌<◌, ◌≤◌, suc, zero, ℕ}
use native.Mathlib.Omega.{arith}
use Rattle.homing.proofs.Chain.{Fits, chain-of, links, links-elsewhere, links-good, next-listed}
use Rattle.paper.proofs.bins.Listed.{Loose, start}
use Rattle.paper.proofs.reads.LooseReads.{listed-size}
use Rattle.paper.proofs.sheet.Fields.{at_block}
use Rattle.paper.proofs.sheet.StoreRuns.{elsewhere-append, good-append}
use Rattle.paper.proofs.sheet.Stores.{Elsewhere, Good, puts}
use Rattle.paper.specs.Bins.{count, first, next_in}
use Rattle.paper.specs.Blocks.{State, block, end, free}
use Rattle.paper.specs.Governed.{header_word, sheet, small_word}
use Rattle.paper.specs.Layout.{large, small_bins, small_next_at}
use Rattle.paper.specs.Sheet.{Sheet}
use Rattle.words.proofs.Laws.{word-apart}
use Rattle.words.specs.Choice.{by<, by=, if<-yes, if=-no, if=-yes, ifs}
use Rattle.words.specs.Words.{put_at, word_at}

-- the lists of sizes z, z + 8, .. , c of them
unfoldable pub all_links : (ℕ → List ℕ) → ℕ → ℕ → List (ℕ × ℕ)
all_links b zero z = []
all_links b (suc c) z = links (small_bins + z) (b z) ++ all_links b c (z + 8)

pub elsewhere-each : (b : ℕ → List ℕ) (c z a : ℕ) → Elsewhere a (all_links b c z) → (y : ℕ) → z ≤ y → y + 8 ≤ z + 8 * c → (y - z) % 8 ≡ 0
    → Elsewhere a (links (small_bins + y) (b y))
unfolding all_links
elsewhere-each b zero z a o y l m e = absurd (omega arith)
elsewhere-each b (suc c) z a o y l m e =
    let r = elsewhere-append a (links (small_bins + z) (b z)) (all_links b c (z + 8)) o in
    by= y z (λ k. rw k r.0) (λ n. elsewhere-each b c (z + 8) a r.1 y (omega arith) (omega arith) (omega arith))

-- a word at which nothing is stored
pub word-elsewhere : (g : Sheet) (n : ℕ) (ps : List (ℕ × ℕ)) (bs : List ℕ) (a : ℕ) → a % 4 ≡ 0 → Good g n ps → Elsewhere a ps
    → word_at 4 (puts ps bs) a ≡ word_at 4 bs a
word-elsewhere g n [] bs a al G o = refl
word-elsewhere g n (p ∷ ps) bs a al G o =
    word-elsewhere g n ps (put_at 4 bs p.0 p.1) a al G.1 o.1
    ∙ word-apart 4 bs a 4 p.0 p.1 (by< a p.0 (λ l. inl (omega (arith, G.0.0))) (λ l. inr (omega (arith, G.0.0, o.0))))

module _ (s : State) (L : Loose s) (long : 176 ≤ end s) where
  -- the first of a small list
  first_fits : (z : ℕ) → 8 ≤ z → z ≤ 64 → z % 8 ≡ 0 → Fits (sheet s) (end s) (small_bins + z) (first (s.bins z))
  unfolding sheet header_word
  first_fits z a b c =
      let k : 24 + z < 96 = omega arith in let d : (24 + z) % 8 ≡ 0 = omega arith in
      let n0 : (24 + z) / 8 ≢ 0 = omega arith in let n1 : (24 + z) / 8 ≢ 1 = omega arith in let n2 : (24 + z) / 8 ≢ 2 = omega arith in
      let n3 : (24 + z) / 8 ≢ 3 = omega arith in
      let e : 8 * ((24 + z) / 8 - 3) ≡ z = omega arith in
      (omega arith, omega arith, simp ifs (ap (λ (v : ℕ). some (first (s.bins v))) e))

  -- and the next of each
  next_fits : (z q v : ℕ) → z ≤ 64 → next_in (s.bins z) q ≡ some v → Fits (sheet s) (end s) (q + small_next_at) v
  unfolding small_word
  next_fits z q v m e =
      let o = next-listed (s.bins z) q v e in
      let f = L.found z q o in
      let st = start s L z q o in
      let Z = listed-size s L q z o in (
        omega arith,
        omega arith,
        at_block s q (block z free) f.0 4 f.1 (omega arith) ∙ if=-no 4 0 _ _ (omega arith) ∙ if<-yes z 72 _ _ (omega arith)
            ∙ if=-yes 4 4 _ _ refl ∙ e,
      )

  pub list-good : (z : ℕ) → 8 ≤ z → z ≤ 64 → z % 8 ≡ 0 → Good (sheet s) (end s) (links (small_bins + z) (s.bins z))
  list-good z a b c =
      links-good (sheet s) (end s) (small_bins + z) (s.bins z) (first_fits z a b c)
      (chain-of (λ q v. Fits (sheet s) (end s) (q + small_next_at) v) (s.bins z) (L.once z) (λ q v e. next_fits z q v b e))

  pub lists-good : (c z : ℕ) → 8 ≤ z → z + 8 * c ≤ large → z % 8 ≡ 0 → Good (sheet s) (end s) (all_links s.bins c z)
  unfolding all_links
  lists-good zero z a b e = tt
  lists-good (suc c) z a b e =
      good-append (sheet s) (end s) (links (small_bins + z) (s.bins z)) (all_links s.bins c (z + 8)) (list-good z a (omega arith) e)
      (lists-good c (z + 8) (omega arith) (omega arith) (omega arith))

-- they are in the header from z on, and in the members
pub lists-elsewhere : (b : ℕ → List ℕ) (c z a : ℕ) → a < small_bins + z → ((y x : ℕ) → 1 ≤ count x (b y) → a ≢ x + small_next_at)
    → Elsewhere a (all_links b c z)
unfolding all_links
lists-elsewhere b zero z a l h = tt
lists-elsewhere b (suc c) z a l h =
    both (links (small_bins + z) (b z)) (all_links b c (z + 8)) (links-elsewhere a (small_bins + z) (b z) (omega arith) (h z))
    (lists-elsewhere b c (z + 8) a (omega arith) h)
  where
    both : (ps qs : List (ℕ × ℕ)) → Elsewhere a ps → Elsewhere a qs → Elsewhere a (ps ++ qs)
    both [] qs o k = k
    both (p ∷ ps) qs o k = (o.0, both ps qs o.1 k)
