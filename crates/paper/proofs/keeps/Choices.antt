-- What may be chosen for a payload: a refusal, or one of the five clauses of the rule, with what the rule has asked before it.
use mathlib.Core.Logic.{◌≢◌}
use mathlib.Core.Path.{◌≡◌}
use Prim.Native.Nat.{◌+◌, ◌<◌, ◌≤◌, ℕ}
use Rattle.heads.specs.Heads.{block_size}
use Rattle.paper.proofs.bins.Smallest.{smallest-found}
use Rattle.paper.specs.Bins.{first}
use Rattle.paper.specs.Blocks.{State}
use Rattle.paper.specs.Granting.{Choice, choose, choose_large, choose_small, exact_bin, first_of_bin, high_end, larger_bin, low_end, refusal, smallest_bin}
use Rattle.paper.specs.Layout.{large}
use Rattle.words.specs.Choice.{by<, by=, ifs}
use Rattle.paper.specs.declared.Refusal.TheVariants.{NoRoom, NoSize}

pub record Choices (s : State) (payload b : ℕ) (P : Choice → Type 0) : Type 0 where
  pub without-size : payload ≡ 0 → P (refusal NoSize)
  pub without-room : payload ≢ 0 → first (s.bins b) ≡ 0 → s.rest < b + 8 → P (refusal NoRoom)
  pub from-its-bin : b < large → first (s.bins b) ≢ 0 → P (first_of_bin b)
  pub from-high-end : b < large → b + 8 ≤ s.rest → P (high_end b)
  pub from-exact : large ≤ b → first (s.bins b) ≢ 0 → P (exact_bin b)
  pub from-larger : large ≤ b → (z : ℕ) → b + large ≤ z → first (s.bins z) ≢ 0 → P (larger_bin z b)
  pub from-low-end : large ≤ b → b + 8 ≤ s.rest → P (low_end b)

pub by-choices : (s : State) (payload : ℕ) (P : Choice → Type 0) → Choices s payload (block_size payload) P → P (choose s payload)
unfolding choose choose_small choose_large
by-choices s payload P c =
    let b = block_size payload in
    by= payload 0 (λ z. simp ifs (c.without-size z))
    (λ n. by< b large
    (λ l. by= (first (s.bins b)) 0
    (λ e. by< s.rest (b + 8) (λ r. simp ifs (c.without-room n e r)) (λ r. simp ifs (c.from-high-end l r)))
    (λ f. simp ifs (c.from-its-bin l f)))
    (λ l. by= (first (s.bins b)) 0
    (λ e. by= (smallest_bin s (b + large)) 0
    (λ o. by< s.rest (b + 8) (λ r. simp ifs (c.without-room n e r)) (λ r. simp ifs (c.from-low-end l r)))
    (λ o. let f = smallest-found s (b + large) o in simp ifs (c.from-larger l (smallest_bin s (b + large)) f.0 f.1)))
    (λ f. simp ifs (c.from-exact l f))))
