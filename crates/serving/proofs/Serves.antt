-- A call serves a pool that stands for a state: it answers as the paper does and writes the state after over the old bytes, which then stand for it.
use mathlib.Core.Path.{◌≡◌, ap, subst, sym}
use mathlib.Core.List.{List}
use Prim.Native.Nat.{ℕ}
use Rattle.paper.specs.Blocks.{State}
use Rattle.paper.specs.Calls.{leaves}
use Rattle.paper.specs.Granting.{Result}
use Rattle.paper.proofs.keeps.Kept.{Kept}
use Rattle.paper.proofs.keeps.KeptStands.{kept-stands}
use Rattle.paper.proofs.reads.Stands.{Stands}
use Rattle.paper.specs.Answers.{Out}

pub record Serves (o : Out) (r : Result) (bs : List ℕ) : Type 0 where
  pub by-paper : o ≡ leaves r bs
  pub stands : Stands r.state o.after

pub kept-serves : (s : State) (bs : List ℕ) → Stands s bs → {o : Out} (r : Result) → Kept s r.state → o ≡ leaves r bs → Serves o r bs
kept-serves s bs S r k e =
    record {
      by-paper = e;
      stands = subst (Stands r.state) (ap (λ (x : Out). x.after) (sym e)) (kept-stands s r.state bs S k);
    }
