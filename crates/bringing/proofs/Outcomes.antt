-- What the code does is what the call's definition says, for each way out: refused as the reading says, or the free run at E gone home.
use mathlib.Core.List.{List, [], ◌∷◌}
use mathlib.Core.Path.{◌∙◌, ◌≡◌, ap, refl, sym}
use Prim.Native.Nat.{◌+◌, suc, ℕ}
use native.Mathlib.Omega.{arith}
use lib.ListN.{length}
use Rattle.bringing.specs.BringingIn.{bring_in}
use Rattle.homing.proofs.HomeBytes.{home-bytes, homes-is}
use Rattle.homing.specs.Homing.{homed, homes}
use Rattle.paper.proofs.home.GoneHome.{free-run-free, free-run-splits, free_run, go_home-edged, past-free-held, past_free}
use Rattle.paper.proofs.home.HomeFree.{go_home-free-sum}
use Rattle.paper.proofs.reads.HeaderReads.{end_read}
use Rattle.paper.proofs.reads.Stands.{OldStands}
use Rattle.paper.specs.Blocks.{Block, State, block, blocks, free, free_sum, held, remainder}
use Rattle.paper.specs.GoingHome.{free_first, go_home}
use Rattle.paper.specs.Governed.{sheet}
use Rattle.paper.specs.Granting.{E}
use Rattle.paper.specs.Layout.{end_at}
use Rattle.paper.specs.Sheet.{write}
use Rattle.reading.proofs.Asked.{old-refused, old-served}
use Rattle.reading.specs.Read.{old_checked}
use Rattle.words.specs.Words.{word_at}
use Rattle.std.specs.declared.result.Result.TheVariants.{Ok, Err}
use Rattle.std.specs.declared.result.Result.{Result}
use Rattle.paper.specs.declared.Refusal.{Refusal}
use Rattle.paper.specs.Answers.{out}

-- the blocks of the free run are counted one by one
pub run-counted : (xs : List Block) → length (free_run xs) ≡ free_first xs
run-counted [] = refl
run-counted (block z held ∷ xs) = refl
run-counted (block z remainder ∷ xs) = refl
run-counted (block z free ∷ xs) = ap suc (run-counted xs)

module _ (s : State) (bs : List ℕ) (S : OldStands s bs) where
  abbrev run : List Block
  run = free_run s.high

  abbrev above : List Block
  above = past_free s.high

  from-edge : word_at 4 bs end_at ≡ E s + 0
  from-edge = end_read s bs S ∙ plain (E s)
    where
      plain : (k : ℕ) → k ≡ k + 0
      plain k = omega arith

  home-count : homes bs (word_at 4 bs end_at) ≡ free_first s.high
  home-count =
      ap (homes bs) from-edge
      ∙ homes-is s bs S.well_formed S.ends S.holds [] run above (free-run-splits s.high) tt (free-run-free s.high)
      (past-free-held s.high S.well_formed.high_ok)
      ∙ run-counted s.high

  home-written : homed bs (word_at 4 bs end_at) ≡ write (sheet (go_home s)) bs
  home-written =
      ap (homed bs) from-edge
      ∙ home-bytes s bs S.well_formed S.ends S.holds [] run above (free-run-splits s.high) tt (free-run-free s.high)
      (past-free-held s.high S.well_formed.high_ok)
      (ap (λ (t : State). free_sum (blocks t)) (sym (go_home-edged s S.well_formed)) ∙ go_home-free-sum s)
      ∙ ap (λ (t : State). write (sheet t) bs) (sym (go_home-edged s S.well_formed))

module _ (bs : List ℕ) {r : Result (Unit {0}) Refusal} (asked : r ≡ old_checked bs) where
  pub refused-with : {k : Refusal} → r ≡ Err k → bring_in bs ≡ out (Err k) bs
  unfolding bring_in
  refused-with n = old-refused bs asked _ _ n

  pub done-with : {v : Unit {0}} → r ≡ Ok v → {e k : ℕ} {after : List ℕ} → e ≡ word_at 4 bs end_at → after ≡ homed bs e → k ≡ homes bs e
      → bring_in bs ≡ out (Ok k) after
  unfolding bring_in
  done-with z {e} {k} {after} ee ea ek =
      old-served bs asked _ _ z
      (λ s S B. λ i. out (Ok (sym (count s S) i)) (sym (bytes s S) i))
    where
      count : (s : State) (S : OldStands s bs) → k ≡ free_first s.high
      count s S = ek ∙ ap (homes bs) ee ∙ home-count s bs S

      bytes : (s : State) (S : OldStands s bs) → after ≡ write (sheet (go_home s)) bs
      bytes s S = ea ∙ ap (homed bs) ee ∙ home-written s bs S
