-- All together, for homing::go_home: which lists are gone along, and then the remainder up to the edge.
use mathlib.Core.List.{List}
use mathlib.Core.Logic.{◌≢◌}
use mathlib.Core.Path.{◌≡◌, sym, ap, ◌∙◌}
use Prim.Native.Nat.{ℕ}
use Rattle.words.specs.Choice.{if=, if=-no, if=-yes}
use Rattle.words.specs.Sums.{minus}
use Rattle.words.specs.Words.{put_at, word_at}
use Rattle.heads.specs.Heads.{free_head}
use Rattle.paper.specs.Layout.{end_at, start_at}
use Rattle.homing.specs.Homing.{ends_at_edge, free_run, homed, pruned_from}
use Rattle.homing.specs.declared.Run.{Run}

-- the bytes after the lists are gone along, or not
abbrev pub listed : List ℕ → Run → List ℕ
listed bs run = if= run.blocks 0 bs (pruned_from 8 bs 32 run.end)

module _ (bs : List ℕ) (run : Run) {ps : List ℕ} where
  pub lists-pruned : run.blocks ≢ 0 → ps ≡ pruned_from 8 bs 32 run.end → ps ≡ listed bs run
  lists-pruned n e = e ∙ sym (if=-no run.blocks 0 _ _ n)

  pub lists-left : run.blocks ≡ 0 → ps ≡ bs → ps ≡ listed bs run
  lists-left n e = e ∙ sym (if=-yes run.blocks 0 _ _ n)

  pub home-is : (from : ℕ) {es new : List ℕ} {start rest head : ℕ} → run ≡ free_run bs from → ps ≡ listed bs run → start ≡ word_at 4 ps start_at
      → es ≡ put_at 4 ps end_at run.end → rest ≡ minus run.end start → head ≡ free_head rest → new ≡ put_at 4 es start head → new ≡ homed bs from
  unfolding homed ends_at_edge
  home-is from er ep st ee ed eh en =
      let h = eh ∙ ap free_head (ed ∙ ap (minus run.end) st) in
      en ∙ (λ i. put_at 4 (ee i) (st i) (h i))
      ∙ ap (λ (b : List ℕ). ends_at_edge b run.end) ep ∙ ap (λ (r : Run). ends_at_edge (listed bs r) r.end) er
