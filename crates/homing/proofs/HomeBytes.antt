-- Going home on bytes is the paper's: from the bytes of a pool it makes those of the state in which the blocks are gone. What the free blocks sum up to
-- may change with what was below them, so the free word is stored by the caller, or is as it was.
use mathlib.Core.List.{List, [], ◌++◌, ◌∷◌}
use mathlib.Core.Logic.{inl}
use mathlib.Core.Option.{some}
use mathlib.Core.Path.{◌∙◌, ◌≡◌, ap, refl, subst, sym}
use Prim.Native.Nat.{◌%◌, ◌+◌, ◌≤◌, ℕ}
use native.Mathlib.Omega.{arith}
use lib.ListN.{length}
use Rattle.heads.specs.Heads.{free_head}
use Rattle.homing.proofs.EdgeFrame.{edge-frame}
use Rattle.homing.proofs.Home.{listed}
use Rattle.homing.proofs.HomeLists.{Lists, home-lists, home-long}
use Rattle.homing.proofs.ListGood.{word-elsewhere}
use Rattle.homing.proofs.RunRead.{free-run-is}
use Rattle.homing.specs.Homing.{ended, ends_at_edge, free_run, homed, homes}
use Rattle.homing.specs.declared.Run.{Run}
use Rattle.paper.proofs.home.Edged.{edged, edged-shaped}
use Rattle.paper.proofs.home.GoneHome.{AllFree}
use Rattle.paper.proofs.honest.AllHeld.{AllHeld}
use Rattle.paper.proofs.keeps.Kept.{Shaped, end-runs, sized-rest}
use Rattle.paper.proofs.reads.HeadWords.{free_head-is}
use Rattle.paper.proofs.reads.Readings.{low_reads}
use Rattle.paper.proofs.runs.Flags.{low-flag}
use Rattle.paper.proofs.runs.Walk.{In, in-aligned, in-high, in-mid, total-append}
use Rattle.paper.proofs.sheet.Fields.{at_head}
use Rattle.paper.proofs.sheet.FreeWordLast.{puts-append}
use Rattle.paper.proofs.sheet.StoreRuns.{elsewhere-append, good-append}
use Rattle.paper.proofs.sheet.Stores.{Elsewhere, Good, finish, puts}
use Rattle.paper.proofs.steps.Leave.{NothingNew, nothing-new-trans, with-bins}
use Rattle.paper.specs.Blocks.{Block, State, block, blocks, end, free_sum, remainder, total}
use Rattle.paper.specs.Governed.{head_word, header_word, sheet}
use Rattle.paper.specs.Granting.{E, R}
use Rattle.paper.specs.Layout.{blocks_at, end_at, free_word_at, start_at}
use Rattle.paper.specs.Sheet.{Holds, write}
use Rattle.paper.specs.Sound.{HeldFirst, WellFormed}
use Rattle.words.specs.Choice.{if<, if=}
use Rattle.words.specs.Sums.{minus}
use Rattle.words.specs.Words.{put_at, word_at}

module _ (s : State) (bs : List ℕ) (W : WellFormed s) (l : end s ≡ length bs) (h : Holds (sheet s) bs)
    (pre run above : List Block) (is : s.high ≡ (pre ++ run) ++ above) (H : AllHeld pre) (F : AllFree run) (K : HeldFirst above) where
  abbrev N : State
  N = edged s (pre ++ run) above

  abbrev from : ℕ
  from = E s + total pre

  abbrev edge : ℕ
  edge = E s + total (pre ++ run)

  run_is : free_run bs from ≡ ended edge (length run)
  run_is = free-run-is s bs W l h pre run above is F K

  pub homes-is : homes bs from ≡ length run
  unfolding homes
  homes-is = ap (λ (r : Run). r.blocks) run_is

  D : Lists s bs W l h pre run above is
  D = home-lists s bs W l h pre run above is H

  -- after the lists, E and the remainder's head
  abbrev stores : List (ℕ × ℕ)
  stores = D.stores ++ (end_at, edge) ∷ (R s, head_word N.rest remainder 1) ∷ []

  kept : Shaped s N
  kept = edged-shaped s W (pre ++ run) above is

  long : 176 ≤ end N
  long = home-long s bs W l h pre run above is

  near : edge ≤ 65536
  near = omega (arith, W.fits, end-runs s, ap total is, total-append (pre ++ run) above)

  made : homed bs from ≡ puts stores bs
  unfolding homed ends_at_edge
  made =
      ap (λ (r : Run). ends_at_edge (listed bs r) r.end) run_is
      ∙ ap (λ (cs : List ℕ). ends_at_edge cs edge) D.made
      ∙ ap (λ (r : ℕ). put_at 4 (put_at 4 (puts D.stores bs) end_at edge) r (free_head (minus edge r))) starts
      ∙ ap (put_at 4 (put_at 4 (puts D.stores bs) end_at edge) (R s)) head
      ∙ sym (puts-append D.stores ((end_at, edge) ∷ (R s, head_word N.rest remainder 1) ∷ []) bs)
    where
      starts : word_at 4 (puts D.stores bs) start_at ≡ R s
      starts = word-elsewhere (sheet N) (end N) D.stores bs start_at refl D.good (D.apart start_at (omega arith)) ∙ low_reads bs s W (sym l) h

      rest : minus edge (R s) ≡ N.rest
      rest = omega (arith, near)

      head : free_head (minus edge (R s)) ≡ head_word N.rest remainder 1
      head = ap free_head rest ∙ free_head-is N.rest (omega (arith, near))

  -- ---- each store fits

  at-R : In (blocks N) blocks_at 1 (R s) (block N.rest remainder) 1
  at-R = in-mid s.low (block N.rest remainder ∷ above) blocks_at 1 (R s) (block N.rest remainder) 1
      (inl (refl, refl, sym (low-flag s.low W.low_ok)))

  end_is : sheet N end_at ≡ some edge
  unfolding sheet header_word if< if=
  end_is = ap some (omega arith)

  good : Good (sheet N) (end N) stores
  good =
      let sz = kept.well_formed.sized in
      let hi = in-high (blocks N) blocks_at 1 (R s) (block N.rest remainder) 1 at-R in
      let al = in-aligned (blocks N) blocks_at 1 (R s) (block N.rest remainder) 1 sz refl at-R in
      let least : 8 ≤ N.rest = omega (arith, (sized-rest s W).0) in
      good-append (sheet N) (end N) D.stores ((end_at, edge) ∷ (R s, head_word N.rest remainder 1) ∷ []) D.good
      ((refl, omega (arith, long), end_is), ((omega arith, omega arith, at_head N (R s) N.rest remainder 1 at-R (omega arith)), tt))

  -- ---- nothing is new elsewhere

  frame : (a : ℕ) → a % 4 ≡ 0 → Elsewhere a stores → (a ≡ free_word_at → free_sum (blocks N) ≡ free_sum (blocks s)) → NothingNew (sheet N a) (sheet s a)
  frame a al o f =
      let r = elsewhere-append a D.stores ((end_at, edge) ∷ (R s, head_word N.rest remainder 1) ∷ []) o in
      nothing-new-trans (sheet N a) (sheet (with-bins s N.bins) a) (sheet s a)
      (edge-frame (with-bins s N.bins) (pre ++ run) above is W.high_ok a al r.1.0 r.1.1.0 f)
      (D.frame a al r.0)

  to-length : (ps : List (ℕ × ℕ)) → Good (sheet N) (end N) ps → Good (sheet N) (length bs) ps
  to-length ps G = subst (λ (n : ℕ). Good (sheet N) n ps) (kept.ends ∙ l) G

  -- ---- the bytes

  pub home-bytes : free_sum (blocks N) ≡ free_sum (blocks s) → homed bs from ≡ write (sheet N) bs
  home-bytes f = made ∙ finish (sheet s) (sheet N) bs stores h (to-length stores good) (λ a al m o. frame a al o (λ _. f))

  -- the free word is not touched
  pub home-free-word : word_at 4 (homed bs from) free_word_at ≡ word_at 4 bs free_word_at
  home-free-word =
      ap (λ (cs : List ℕ). word_at 4 cs free_word_at) made
      ∙ word-elsewhere (sheet N) (end N) stores bs free_word_at refl good
      (both D.stores (D.apart free_word_at (omega arith)))
    where
      both : (ps : List (ℕ × ℕ)) → Elsewhere free_word_at ps → Elsewhere free_word_at (ps ++ (end_at, edge) ∷ (R s, head_word N.rest remainder 1) ∷ [])
      both [] o = (omega arith, (omega arith, tt))
      both (p ∷ ps) o = (o.0, both ps o.1)

  pub home-bytes-then : (v : ℕ) → sheet N free_word_at ≡ some v → put_at 4 (homed bs from) free_word_at v ≡ write (sheet N) bs
  home-bytes-then v e =
      ap (λ (cs : List ℕ). put_at 4 cs free_word_at v) made ∙ sym (puts-append stores ((free_word_at, v) ∷ []) bs)
      ∙ finish (sheet s) (sheet N) bs (stores ++ (free_word_at, v) ∷ []) h
      (to-length (stores ++ (free_word_at, v) ∷ []) (good-append (sheet N) (end N) stores ((free_word_at, v) ∷ []) good ((refl, omega (arith, long), e), tt)))
      (λ a al m o. let r = elsewhere-append a stores ((free_word_at, v) ∷ []) o in frame a al r.0 (λ k. absurd (r.1.0 k)))
