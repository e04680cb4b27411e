-- Counting serves: the seven figures, and the counters of the classes, are sums over the blocks.
use mathlib.Core.List.{List}
use mathlib.Core.Path.{◌≡◌, ◌∙◌, ap₂, sym}
use Prim.Native.Nat.{ℕ}
use lib.ListN.{length}
use Rattle.words.specs.Choice.{by=, if=-no, if=-yes}
use Rattle.paper.proofs.reads.Stands.{Stands}
use Rattle.paper.specs.Blocks.{State}
use Rattle.paper.specs.Calls as paper
use Rattle.paper.specs.Counting.{figures}
use Rattle.walk.proofs.ClassesRead.{held-counted, classes-counted}
use Rattle.walk.proofs.FiguresRead.{figures-read}
use Rattle.serving.specs.Models as model
use Rattle.std.specs.declared.result.Result.TheVariants.{Ok}
use Rattle.paper.specs.Answers.{out}

module _ (s : State) (bs : List ℕ) (S : Stands s bs) where
  pub figures-serve : model.figures bs ≡ figures s
  figures-serve = figures-read s bs S

  pub class-count-serves : (cs : List ℕ) → model.class_count bs cs ≡ paper.class_count s cs
  unfolding model.class_count paper.class_count
  class-count-serves cs =
      by= (length cs) 53
      (λ e. if=-yes (length cs) 53 _ _ e
      ∙ ap₂ (λ (a : ℕ) (b : List ℕ). out (Ok a) b) (held-counted s bs S cs e) (classes-counted s bs S cs e)
      ∙ sym (if=-yes (length cs) 53 _ _ e))
      (λ n. if=-no (length cs) 53 _ _ n ∙ sym (if=-no (length cs) 53 _ _ n))
