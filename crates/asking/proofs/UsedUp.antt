-- Offsets that use up their marks name each a marked start, and each once: an offset takes its mark away, and no other mark.
use mathlib.Core.Bool.{Bool, false, true}
use mathlib.Core.List.{List, [], ◌∷◌}
use mathlib.Core.Logic.{◌≢◌}
use mathlib.Core.Path.{◌∙◌, ◌≡◌, ap, refl, sym}
use Prim.Native.Nat.{◌<◌, suc, ℕ}
use native.Mathlib.Omega.{arith}
use lib.Dec.{ltb}
use lib.ListN.{get_or}
use borrow.Author.Tests.{le-ltb, ltb-true}
use Rattle.asking.proofs.EachOnce.{once-without, without}
use Rattle.asking.specs.AllHeld.{used_up}
use Rattle.marks.proofs.StartMarks.{mark-put, marked-place}
use Rattle.marks.specs.MarkSets.{bit_marks, mark_at}
use Rattle.paper.specs.AskingAll.{each_once}
use Rattle.paper.specs.Bins.{count}
use Rattle.words.specs.Choice.{by=, if=, if=-no, if=-same, if=-yes, when}
use Rattle.words.specs.Sums.{minus}

-- every offset is one of 32 bits
abbrev pub Offsets : List ℕ → Type 0
Offsets os = (i : ℕ) → get_or os i 0 < 4294967296

-- the marked starts are those that are 4 below an offset that h has
abbrev pub Marks : List ℕ → (ℕ → Bool) → Type 0
Marks m h = (o : ℕ) → o < 4294967296 → ltb 0 (mark_at m (minus o 4)) ≡ h o

-- one mark taken away
dropped : (m : List ℕ) (h : ℕ → Bool) (o : ℕ) → o < 4294967296 → Marks m h → h o ≡ true → Marks (bit_marks.drop m (minus o 4)) (without h o)
dropped m h o l k t p w =
    let i = marked-place m (minus o 4) (ltb-true 0 (mark_at m (minus o 4)) (k o l ∙ t)) in
    let d = mark-put m (minus o 4) 0 (minus p 4) (omega arith) i.1 i.0 in
    by= o p
    (λ e. ap (ltb 0) (d ∙ if=-yes (minus o 4) (minus p 4) _ _ (ap (λ (x : ℕ). minus x 4) e)) ∙ le-ltb 0 0 (omega arith)
    ∙ sym (if=-yes o p _ _ e))
    (λ n. ap (ltb 0) (d ∙ if=-no (minus o 4) (minus p 4) _ _ (λ e. n (omega arith))) ∙ k p w ∙ sym (if=-no o p _ _ n))

pub used-up-each-once : (os m : List ℕ) (h : ℕ → Bool) → Offsets os → Marks m h → used_up m os ≡ each_once h os
unfolding used_up each_once when
used-up-each-once [] m h w k = refl
used-up-each-once (o ∷ os) m h w k =
    by= o 0 (λ z. if=-yes o 0 _ _ z ∙ used-up-each-once os m h (λ i. w (suc i)) k ∙ sym (if=-yes o 0 _ _ z))
    (λ n. if=-no o 0 _ _ n ∙ ap (λ (b : Bool). when b (used_up (bit_marks.drop m (minus o 4)) os) false) (k o (w 0))
    ∙ asked n (h o) (λ e. used-up-each-once os (bit_marks.drop m (minus o 4)) (without h o) (λ i. w (suc i)) (dropped m h o (w 0) k e))
    ∙ sym (if=-no o 0 _ _ n))
  where
    asked : o ≢ 0 → (b : Bool) → (b ≡ true → used_up (bit_marks.drop m (minus o 4)) os ≡ each_once (without h o) os)
        → when b (used_up (bit_marks.drop m (minus o 4)) os) false ≡ if= (count o os) 0 (when b (each_once h os) false) false
    asked n true r = r refl ∙ once-without h o n os
    asked n false r = sym (if=-same (count o os) 0 false)
