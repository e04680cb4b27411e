-- A small block given back on bytes is the paper's: at E it goes home with the free blocks above it, elsewhere it is put at the front of its bin.
use mathlib.Core.List.{List, [], ◌++◌, ◌∷◌}
use mathlib.Core.Option.{some}
use mathlib.Core.Path.{◌∙◌, ◌≡◌, ap, refl, subst, sym}
use Prim.Native.Nat.{◌+◌, ◌-◌, ◌≤◌, ℕ}
use native.Mathlib.Omega.{arith}
use Rattle.giveback.proofs.Earning.{earned-is}
use Rattle.giveback.proofs.FrontBytes.{front_bytes}
use Rattle.giveback.specs.GiveBack.{earned}
use Rattle.giveback.specs.Small.{give_back_small}
use Rattle.homing.proofs.HomeBytes.{home-bytes-then, home-free-word}
use Rattle.homing.specs.Homing.{homed}
use Rattle.paper.proofs.home.BackHome.{back-home, back-stays}
use Rattle.paper.proofs.home.Edged.{edged}
use Rattle.paper.proofs.home.GoneHome.{free-run-free, free-run-splits, free_run, past-free-held, past_free}
use Rattle.paper.proofs.keeps.Kept.{sized-high, sized-rest}
use Rattle.paper.proofs.reads.HeaderReads.{end-near, end_read, free-near, free-read}
use Rattle.paper.proofs.reads.Stands.{Stands}
use Rattle.paper.proofs.runs.HeldPlaces.{HeldHigh}
use Rattle.paper.proofs.runs.Splitting.{sized-mid-parts}
use Rattle.paper.proofs.runs.Walk.{free_sum-append}
use Rattle.paper.specs.Blocks.{Block, State, block, blocks, free, free_sum, held, remainder, total}
use Rattle.paper.specs.GivingBack.{give_back_small as give_back_small-state}
use Rattle.paper.specs.GoingHome.{go_home}
use Rattle.paper.specs.Governed.{header_word, sheet}
use Rattle.paper.specs.Granting.{E}
use Rattle.paper.specs.Layout.{end_at, free_word_at}
use Rattle.paper.specs.Sheet.{write}
use Rattle.paper.specs.Sound.{HeldFirst, High, Sized}
use Rattle.words.specs.Choice.{by=, if<, if=, if=-no, if=-yes}
use Rattle.words.specs.Sums.{plus}
use Rattle.words.specs.Words.{word_at}

-- ---- at E

free_all : (xs : List Block) → free_sum (free_run xs) ≡ total (free_run xs)
free_all [] = refl
free_all (block z held ∷ xs) = refl
free_all (block z remainder ∷ xs) = refl
free_all (block z free ∷ xs) = ap (λ (k : ℕ). z + k) (free_all xs)

module _ (s : State) (bs : List ℕ) (S : Stands s bs) (z : ℕ) (after : List Block) (is : s.high ≡ block z held ∷ after) where
  abbrev gone : List Block
  gone = block z held ∷ free_run after

  abbrev N : State
  N = edged s gone (past_free after)

  -- the block and the free ones above it
  splits : s.high ≡ gone ++ past_free after
  splits = is ∙ ap (λ (l : List Block). block z held ∷ l) (free-run-splits after)

  -- the block was held, and the free ones above it were free before
  free-sum : free_sum (blocks N) ≡ free_sum (blocks s) + z
  free-sum = omega (
    arith,
    free_sum-append s.low (block s.rest remainder ∷ s.high),
    free_sum-append s.low (block N.rest remainder ∷ past_free after),
    ap free_sum splits,
    free_sum-append (free_run after) (past_free after),
    free_all after,
  )

  free-least : 8 ≤ free_sum (blocks s)
  free-least = omega (arith, free_sum-append s.low (block s.rest remainder ∷ s.high), (sized-rest s S.well_formed).0)

  free-is : sheet N free_word_at ≡ some (free_sum (blocks s) - 4 + z)
  unfolding sheet header_word if< if=
  free-is = ap some (omega (arith, free-sum, free-least))

  stops : HeldFirst (past_free after)
  stops = past-free-held after (subst High is S.well_formed.high_ok).1

  from_is : plus (E s) z ≡ E s + (z + 0)
  from_is = omega (arith, end-near s bs S, (subst High is S.well_formed.high_ok).0)

  pub edge-bytes : earned (homed bs (plus (E s) z)) z ≡ write (sheet (go_home (give_back_small-state s (E s) z))) bs
  edge-bytes =
      ap (λ (k : ℕ). earned (homed bs k) z) from_is
      ∙ earned-is (homed bs (E s + (z + 0))) z (free_sum (blocks s) - 4)
      (home-free-word s bs S.well_formed S.ends S.holds (block z held ∷ []) (free_run after) (past_free after) splits tt (free-run-free after) stops
      ∙ free-read s bs S)
      (omega (arith, free-near s bs S, (subst High is S.well_formed.high_ok).0))
      ∙ home-bytes-then s bs S.well_formed S.ends S.holds (block z held ∷ []) (free_run after) (past_free after) splits tt (free-run-free after) stops
      (free_sum (blocks s) - 4 + z) free-is
      ∙ ap (λ (k : State). write (sheet k) bs) (sym (back-home s S.well_formed z after is))

-- ---- at E or elsewhere

module _ (s : State) (bs : List ℕ) (S : Stands s bs) (q z : ℕ) (H : HeldHigh s q z) where
  -- nothing stands below a block at E
  nothing-below : q ≡ E s → H.before ≡ []
  nothing-below e = go H.before (sized-mid-parts H.before (block z held ∷ []) H.after (subst Sized H.is (sized-high s S.well_formed))).0 H.starts
    where
      go : (us : List Block) → Sized us → E s + total us ≡ q → us ≡ []
      go [] h k = refl
      go (b ∷ us) h k = absurd (omega (arith, h.0))

  at_edge : q ≡ E s → s.high ≡ block z held ∷ H.after
  at_edge e = H.is ∙ ap (λ (l : List Block). l ++ block z held ∷ H.after) (nothing-below e)

  pub small_bytes : earned (give_back_small bs q z) z ≡ write (sheet (go_home (give_back_small-state s q z))) bs
  unfolding give_back_small
  small_bytes =
      by= q (E s)
      (λ e. ap (λ (k : List ℕ). earned k z) (if=-yes q (word_at 4 bs end_at) _ _ (e ∙ sym (end_read s bs S)))
      ∙ ap (λ (k : ℕ). earned (homed bs (plus k z)) z) e
      ∙ edge-bytes s bs S z H.after (at_edge e)
      ∙ ap (λ (k : ℕ). write (sheet (go_home (give_back_small-state s k z))) bs) (sym e))
      (λ n. ap (λ (k : List ℕ). earned k z) (if=-no q (word_at 4 bs end_at) _ _ (λ e. n (e ∙ end_read s bs S)))
      ∙ front_bytes s bs S q z H
      ∙ ap (λ (k : State). write (sheet k) bs) (sym (back-stays s S.well_formed S.edge q z H n)))
