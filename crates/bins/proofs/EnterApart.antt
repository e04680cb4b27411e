-- Entering a bin stores past the header, and the same in two pools that differ in the header alone: the free word may be stored before it or after it.
use mathlib.Core.List.{List, [], ◌∷◌}
use mathlib.Core.Logic.{inr}
use mathlib.Core.Path.{◌∙◌, ◌≡◌, ap, sym}
use Prim.Native.Nat.{◌+◌, ◌≤◌, ℕ}
use native.Mathlib.Omega.{arith}
use Rattle.bins.proofs.Between.{Between}
use Rattle.bins.proofs.EnterBytes.{enter_bin-stores, entering-past, entering-puts}
use Rattle.bins.proofs.Index.{between-index, index-past}
use Rattle.bins.proofs.LinkRead.{next-in}
use Rattle.bins.specs.Enter.{enter_bin}
use Rattle.bins.specs.Find.{linked_at}
use Rattle.heads.specs.Links.{followed}
use Rattle.paper.proofs.bins.Bins.{count-here}
use Rattle.paper.proofs.bins.Listed.{start}
use Rattle.paper.proofs.runs.Walk.{In}
use Rattle.paper.proofs.sheet.FreeWordLast.{past-put, past_word}
use Rattle.paper.proofs.sheet.Stores.{puts}
use Rattle.paper.specs.Bins.{count, first}
use Rattle.paper.specs.Blocks.{State, block, blocks, free}
use Rattle.paper.specs.Layout.{blocks_at, false_block, free_word_at, large, next_at}
use Rattle.words.proofs.Laws.{word-apart}
use Rattle.words.specs.Words.{put_at, word_at}

-- bs are the bytes cs with the free word stored
module _ (s : State) (bs : List ℕ) (B : Between s bs) (cs : List ℕ) (v : ℕ) (stored : bs ≡ put_at 4 cs free_word_at v)
    (q z P : ℕ) (at : In (blocks s) blocks_at 1 q (block z free) P) (un : count q (s.bins z) ≡ 0) (big : large ≤ z) where
  abbrev L : List (ℕ × ℕ)
  L = entering-puts s q z (s.bins z)

  agree : (a : ℕ) → false_block ≤ a → word_at 4 cs a ≡ word_at 4 bs a
  agree a l = sym (ap (λ (k : List ℕ). word_at 4 k a) stored ∙ word-apart 4 cs a 4 free_word_at v (inr (omega arith)))

  on : (f : ℕ) (vs : List ℕ) → s.bins z ≡ f ∷ vs → linked_at cs f next_at ≡ first vs
  unfolding linked_at
  on f vs e =
      let l = (start s B.loose z f (omega (arith, ap (count f) e, count-here f vs))).0 in
      ap (followed f) (agree (f + next_at) (omega arith)) ∙ next-in s bs B f z [] vs big e

  made : enter_bin cs q z ≡ puts L cs
  made = enter_bin-stores s B.loose q z P at un big cs (index-past s B.loose s.top bs cs agree (between-index s bs B)) on B.fits

  pub enter-last : put_at 4 (enter_bin cs q z) free_word_at v ≡ enter_bin bs q z
  enter-last =
      ap (λ (k : List ℕ). put_at 4 k free_word_at v) made
      ∙ past-put L cs v (entering-past s B.loose q z P at un big (s.bins z))
      ∙ ap (puts L) (sym stored)
      ∙ sym (enter_bin-stores s B.loose q z P at un big bs (between-index s bs B) (λ f vs e. next-in s bs B f z [] vs big e) B.fits)

  -- and entering leaves it
  pub enter-free-word : word_at 4 (enter_bin cs q z) free_word_at ≡ word_at 4 cs free_word_at
  enter-free-word = ap (λ (k : List ℕ). word_at 4 k free_word_at) made ∙ past_word L cs (entering-past s B.loose q z P at un big (s.bins z))
