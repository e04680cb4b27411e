-- Asking about a list of offsets in the bytes of a pool answers as the paper does: the marks are the held blocks, and each offset uses up its own.
use mathlib.Core.List.{List}
use mathlib.Core.Path.{◌∙◌, ◌≡◌, ap, sym}
use Prim.Native.Nat.{◌-◌, ◌<◌, min, ℕ}
use native.Mathlib.Omega.{arith}
use borrow.Author.Tests.{le-ltb, lt-ltb}
use Rattle.asking.proofs.MarksRead.{held-marked}
use Rattle.asking.proofs.UsedUp.{Marks, Offsets, used-up-each-once}
use Rattle.asking.specs.AllHeld.{held_marks}
use Rattle.asking.specs.AllHeld as model
use Rattle.marks.specs.MarkSets.{mark_at}
use Rattle.paper.proofs.reads.Stands.{Stands}
use Rattle.paper.proofs.runs.Asking.{ask-held, ask-none}
use Rattle.paper.proofs.runs.HeldPlaces.{held_at}
use Rattle.paper.proofs.runs.Splitting.{starts-past}
use Rattle.paper.specs.AskingAll.{is_done}
use Rattle.paper.specs.AskingAll as paper
use Rattle.paper.specs.Blocks.{State, blocks}
use Rattle.paper.specs.GivingBack.{ask}
use Rattle.paper.specs.Layout.{blocks_at}
use Rattle.paper.specs.Runs.{held_size, starts_at}
use Rattle.words.specs.Choice.{by<, by=, if<-no, if<-yes}
use Rattle.words.specs.Sums.{minus}

module _ (s : State) (bs : List ℕ) (S : Stands s bs) where
  -- the mark 4 below an offset says whether its payload is held; 4 below an offset less than 4 is past every pool
  mark-below : (o : ℕ) → o < 4294967296 → mark_at (held_marks bs) (minus o 4) ≡ min 1 (held_at s o)
  unfolding held_at
  mark-below o l =
      held-marked s bs S (minus o 4)
      ∙ by< o 4
      (λ h. ap (min 1)
      (starts-past held_size (blocks s) blocks_at (minus o 4) S.well_formed.sized (omega (arith, S.well_formed.fits)) ∙ sym (if<-yes o 4 _ _ h)))
      (λ h. let e : minus o 4 ≡ o - 4 = omega arith in
      ap (λ (q : ℕ). min 1 (starts_at held_size (blocks s) blocks_at q)) e ∙ ap (min 1) (sym (if<-no o 4 _ _ h)))

  held-marks : Marks (held_marks bs) (λ o. is_done (ask s o))
  held-marks o l =
      by= (held_at s o) 0
      (λ e. le-ltb 0 (mark_at (held_marks bs) (minus o 4)) (omega (arith, mark-below o l)) ∙ ap is_done (sym (ask-none s S.well_formed o e)))
      (λ n. lt-ltb 0 (mark_at (held_marks bs) (minus o 4)) (omega (arith, mark-below o l)) ∙ ap is_done (sym (ask-held s S.well_formed o n)))

  pub all-held-read : (offsets : List ℕ) → Offsets offsets → model.all_held bs offsets ≡ paper.all_held s offsets
  unfolding model.all_held paper.all_held
  all-held-read offsets w = used-up-each-once offsets (held_marks bs) (λ o. is_done (ask s o)) w held-marks
