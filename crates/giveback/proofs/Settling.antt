-- The run becomes one free block, and that enters its bin, in bytes that hold the sheet of the state before: the paper's step of joining,
-- and then the bins' law of entering.
use mathlib.Core.List.{List, [], ◌++◌, ◌∷◌}
use mathlib.Core.Logic.{inl, inr}
use mathlib.Core.Option.{some}
use mathlib.Core.Path.{◌∙◌, ◌≡◌, ap, refl, subst, sym}
use Prim.Native.Nat.{◌%◌, ◌+◌, ◌-◌, ◌≤◌, ℕ}
use native.Mathlib.Omega.{arith}
use Rattle.bins.proofs.Between.{Between, free-word-read}
use Rattle.bins.proofs.Entered.{entered-alone, entered-word, entered-written, free-heads}
use Rattle.bins.specs.Enter.{enter}
use Rattle.giveback.proofs.Earning.{earned-is}
use Rattle.giveback.specs.GiveBack.{earned}
use Rattle.giveback.specs.Large.{settle}
use Rattle.paper.proofs.bins.Listed.{Loose}
use Rattle.paper.proofs.runs.Splitting.{free_sum-mid}
use Rattle.paper.proofs.runs.Walk.{In, flag_past, free_sum-append, free_sum-le, in-high, in_left, in-mid}
use Rattle.paper.proofs.sheet.FreeWordLast.{Past}
use Rattle.paper.proofs.sheet.Phases.{Step}
use Rattle.paper.proofs.sheet.Stores.{Good, puts}
use Rattle.paper.proofs.steps.Join.{end-join, join-good, join-puts, join_step, joined, unjoined}
use Rattle.paper.specs.Bins.{count, rebin, enter as enter-list}
use Rattle.paper.specs.Blocks.{Block, State, block, blocks, end, free, free_sum, held, remainder, total}
use Rattle.paper.specs.Governed.{head_word, sheet}
use Rattle.paper.specs.Layout.{blocks_at, free_word_at, large}
use Rattle.paper.specs.Sheet.{write}
use Rattle.words.specs.Choice.{by=}
use Rattle.words.specs.Sums.{minus}
use Rattle.words.specs.Words.{put_at}

module _ (t rest : ℕ) (xs ms ys high : List Block) (y : ℕ) (b : ℕ → List ℕ) where
  abbrev O : (ℕ → List ℕ) → State
  O = unjoined t rest xs ms ys high y

  abbrev N : (ℕ → List ℕ) → State
  N = joined t rest xs ms ys high y

  abbrev a : ℕ
  a = blocks_at + total xs

  abbrev m : ℕ
  m = total ms

  -- the bins with the run
  abbrev b' : ℕ → List ℕ
  b' = rebin b m (enter-list a (b m))

  abbrev tail : List Block
  tail = block y held ∷ (ys ++ block rest remainder ∷ high)

  abbrev pub free-after : ℕ
  free-after = free_sum xs + (m + free_sum tail) - 4

  abbrev pub run-stores : List (ℕ × ℕ)
  run-stores = free-heads a m ++ (free_word_at, free-after) ∷ []

  module _ (W' : Loose (N b')) where
    unlisted-before : count a (b m) ≡ 0
    unlisted-before = entered-alone (N b) a m W'

    module _ (big : large ≤ m) (y8 : 8 ≤ y) (pz : m % 8 ≡ 0) (px : a % 8 ≡ 0) (flag : flag_past 1 xs ≡ 1) where
      -- the paper's step in the model's order, with the head above the run: held, its P cleared
      abbrev pub above-store : List (ℕ × ℕ)
      above-store = (a + m, head_word y held 0) ∷ []

      pub good-above : (c : ℕ → List ℕ) → Good (sheet (N c)) (end (N c)) (above-store ++ run-stores)
      unfolding join-puts
      good-above c =
          let g = join-good t rest xs ms ys high y big y8 pz px c in
          subst (λ (P : ℕ). Good (sheet (N c)) (end (N c))
          ((a + m, head_word y held 0) ∷ (a, head_word m free P) ∷ (a + (m - 4), head_word m free P) ∷ (free_word_at, free-after) ∷ [])) flag
          (g.1.1.1.0, (g.1.0, (g.1.1.0, (g.0, tt))))

      pub step-above : Step (end (N b)) (sheet (O b)) (sheet (N b)) (above-store ++ run-stores)
      unfolding join-puts
      step-above =
          let S = join_step t rest xs ms ys high y big y8 pz px b unlisted-before in
          record {
            good = good-above b;
            frame = λ k al n o. S.frame k al n (o.1.1.1.0, (o.1.0, (o.1.1.0, (o.0, tt))));
          }

      -- the same, where P of the head above is 0 already
      pub step-quiet : sheet (O b) (a + m) ≡ sheet (N b) (a + m) → Step (end (N b)) (sheet (O b)) (sheet (N b)) run-stores
      step-quiet e =
          record {
            good = (good-above b).1;
            frame = λ k al n o. by= k (a + m) (λ f. inr (ap (sheet (N b)) f ∙ sym e ∙ ap (sheet (O b)) (sym f)))
                (λ f. step-above.frame k al n (f, o));
          }

      pub head-above : (c : ℕ → List ℕ) → sheet (N c) (a + m) ≡ some (head_word y held 0)
      head-above c = (good-above c).0.2

      module _ (cs : List ℕ) (B : Between (O b) cs) (z : ℕ) (gain : free_sum ms + z ≡ m) (rest8 : 8 ≤ rest) where
        free-sum : free_sum (blocks (O b)) ≡ free_sum xs + (free_sum ms + free_sum tail)
        free-sum = omega (
          arith,
          free_sum-append (xs ++ (ms ++ block y held ∷ ys)) (block rest remainder ∷ high),
          free_sum-mid xs ms (block y held ∷ ys),
          free_sum-append ys (block rest remainder ∷ high),
        )

        sum-after : free_sum (blocks (O b)) - 4 + z ≡ free-after
        sum-after = omega (arith, free-sum, free_sum-append ys (block rest remainder ∷ high))

        ends : end (N b) ≡ end (O b)
        ends = end-join t rest xs ms ys high y b

        run_in : In (blocks (N b)) blocks_at 1 a (block m free) (flag_past 1 xs)
        run_in =
            in_left (xs ++ block m free ∷ block y held ∷ ys) (block rest remainder ∷ high) blocks_at 1 a (block m free) (flag_past 1 xs)
            (in-mid xs (block m free ∷ block y held ∷ ys) blocks_at 1 a (block m free) (flag_past 1 xs) (inl (refl, refl, refl)))

        inside : a + m ≤ 65536
        inside = omega (arith, ends, B.fits, in-high (blocks (N b)) blocks_at 1 a (block m free) (flag_past 1 xs) run_in)

        module _ (ps : List (ℕ × ℕ)) (past : Past ps) (S : Step (end (N b)) (sheet (O b)) (sheet (N b)) (ps ++ run-stores))
            (G : Good (sheet (N b')) (end (N b')) (ps ++ run-stores)) where
          made : settle (puts ps cs) a (a + m) ≡ enter (puts ps cs) a m
          unfolding settle
          made = let d : minus (a + m) a ≡ m = omega (arith, inside) in rw d

          pub settled : earned (settle (puts ps cs) a (a + m)) z ≡ write (sheet (N b')) cs
          settled =
              ap (λ (k : List ℕ). earned k z) made
              ∙ earned-is (enter (puts ps cs) a m) z (free_sum (blocks (O b)) - 4)
              (entered-word (O b) cs B (N b) refl ends a m (flag_past 1 xs) big run_in ps past W' free-after S ∙ free-word-read (O b) cs B)
              (omega (arith, inside, free_sum-le (blocks (O b)), B.fits))
              ∙ ap (put_at 4 (enter (puts ps cs) a m) free_word_at) sum-after
              ∙ entered-written (O b) cs B (N b) refl ends a m (flag_past 1 xs) big run_in ps past W' free-after S G
