-- "A refusal returns 0 beside its number and changes nothing", of every public call, by one theorem over their definitions: a call is
-- refused by what it reads or by its own rule, and either way the lent bytes stay. Refused figures are seven zeros.
use mathlib.Core.Path.{◌≡◌, refl, ap, ◌∙◌}
use mathlib.Core.Bool.{Bool, true, false}
use mathlib.Core.List.{List, [], ◌∷◌}
use Prim.Native.Nat.{ℕ}
use native.Mathlib.Omega.{arith}
use lib.ListN.{length}
use Rattle.words.specs.Choice.{when-yes, when-no, if=-yes, if=-no, by=}
use Rattle.paper.specs.Allowed.{allowed}
use Rattle.paper.specs.Blocks.{State}
use Rattle.paper.specs.Calls.{Reading, misfit, broken, sound, laying_out, lay_out_call, take_call, give_back_call, class_count as class_count_of, class_count_call}
use Rattle.paper.specs.Fresh.{layout_top}
use Rattle.paper.specs.Governed.{sheet}
use Rattle.paper.specs.Sheet.{Holds, write}
use Rattle.paper.proofs.keeps.BackKeeps.{give_back-refused}
use Rattle.paper.proofs.keeps.TakeKeeps.{take-refused}
use Rattle.paper.proofs.reads.Stands.{Stands}
use Rattle.pool.specs.Calls.{lay_out, inspect, take, give_back, ask, ask_all, figures, class_count}
use Rattle.reading.specs.Read.{read}
use Rattle.reading.proofs.Asked.{read-sound}
use Rattle.std.specs.declared.result.Result.TheVariants.{Ok, Err}
use Rattle.paper.specs.Answers.{code, figures_of, number, out, Out, seven_of, Tally, tally_number, value}
use Rattle.paper.specs.declared.Refusal.{Refusal}

-- a public call on a pool of lent bytes, with its number or its list
pub data Call : Type 0 where
  inspects : Call
  lays takes gives asks : ℕ → Call
  asks_all : List ℕ → ℕ → Call
  counts : List ℕ → Call

-- what the call is lent for writing: the pool, or its list of counters; a call that only reads leaves the pool as it is
abbrev pub lent : List ℕ → Call → List ℕ
lent bs (counts cs) = cs
lent bs (lays layout) = bs
lent bs inspects = bs
lent bs (takes size) = bs
lent bs (gives offset) = bs
lent bs (asks offset) = bs
lent bs (asks_all offsets place) = bs

-- what it answers, and what was lent afterwards
abbrev pub outcome : List ℕ → Call → Out
outcome bs (lays layout) = lay_out bs layout
outcome bs inspects = out (inspect bs) bs
outcome bs (takes size) = take bs size
outcome bs (gives offset) = give_back bs offset
outcome bs (asks offset) = out (ask bs offset) bs
outcome bs (asks_all offsets place) = out (ask_all bs offsets place) bs
outcome bs (counts cs) = class_count bs cs

-- an outcome that is refused changes nothing
abbrev Unchanged : List ℕ → Out → Type 0
Unchanged bs o = (k : Refusal) → o.answer ≡ Err k → o.after ≡ bs

done-unchanged : (bs : List ℕ) (v : ℕ) (after : List ℕ) → Unchanged bs (out (Ok v) after)
done-unchanged bs v after k e = absurd (let z : ◌≡◌ {A = ℕ} 0 1 = cc in omega arith)

lays-unchanged : (bs : List ℕ) (layout : ℕ) → Unchanged bs (lay_out bs layout)
unfolding lay_out lay_out_call laying_out
lays-unchanged bs layout = go (allowed (length bs)) refl
  where
    by-top : Unchanged bs (laying_out bs (layout_top layout))
    by-top =
        by= (layout_top layout) 0 (λ z. rw (if=-yes (layout_top layout) 0 _ _ z) (λ k f. refl))
        (λ n. rw (if=-no (layout_top layout) 0 _ _ n) (done-unchanged bs _ _))

    go : (b : Bool) → allowed (length bs) ≡ b → Unchanged bs (lay_out_call bs layout)
    go true e = rw (when-yes (allowed (length bs)) _ _ e) by-top
    go false e = rw (when-no (allowed (length bs)) _ _ e) (λ k f. refl)

-- the state of a sound pool, written over it, is the pool
same-written : (bs : List ℕ) (s s' : State) → Stands s bs → s' ≡ s → write (sheet s') bs ≡ bs
unfolding Holds
same-written bs s s' S e = ap (λ (t : State). write (sheet t) bs) e ∙ S.holds

takes-unchanged : (bs : List ℕ) (size : ℕ) (x : Reading) → read bs ≡ x → Unchanged bs (take_call x bs size)
takes-unchanged bs size misfit r k e = refl
takes-unchanged bs size broken r k e = refl
takes-unchanged bs size (sound s) r k e = same-written bs s _ (read-sound bs s r).stands (take-refused s size k e)

gives-unchanged : (bs : List ℕ) (offset : ℕ) (x : Reading) → read bs ≡ x → Unchanged bs (give_back_call x bs offset)
gives-unchanged bs offset misfit r k e = refl
gives-unchanged bs offset broken r k e = refl
gives-unchanged bs offset (sound s) r k e = let S = (read-sound bs s r).stands in same-written bs s _ S (give_back-refused s S.well_formed offset k e).0

counts-unchanged : (cs : List ℕ) (x : Reading) → Unchanged cs (class_count_call x cs)
unfolding class_count_of
counts-unchanged cs misfit = λ k e. refl
counts-unchanged cs broken = λ k e. refl
counts-unchanged cs (sound s) =
    by= (length cs) 53 (λ l. rw (if=-yes (length cs) 53 _ _ l) (done-unchanged cs _ _)) (λ l. rw (if=-no (length cs) 53 _ _ l) (λ k e. refl))

stays : (bs : List ℕ) (c : Call) → Unchanged (lent bs c) (outcome bs c)
unfolding take give_back class_count
stays bs (lays layout) = lays-unchanged bs layout
stays bs inspects = λ k e. refl
stays bs (takes size) = takes-unchanged bs size (read bs) refl
stays bs (gives offset) = gives-unchanged bs offset (read bs) refl
stays bs (asks offset) = λ k e. refl
stays bs (asks_all offsets place) = λ k e. refl
stays bs (counts cs) = counts-unchanged cs (read bs)

-- "A refusal returns 0 beside its number and changes nothing."
pub refused-changes-nothing : (bs : List ℕ) (c : Call) (k : Refusal) → (outcome bs c).answer ≡ Err k
    → (number (outcome bs c).answer ≡ code k) × (value (outcome bs c).answer ≡ 0) × ((outcome bs c).after ≡ lent bs c)
refused-changes-nothing bs c k e = (ap number e, ap value e, stays bs c k e)

-- "Refused figures are seven zeros": the answer's figures, as the list that a caller hears
pub refused-figures : (bs : List ℕ) (k : Refusal) → figures bs ≡ Err k
    → (tally_number (figures bs) ≡ code k) × (seven_of (figures_of (figures bs)) ≡ 0 ∷ 0 ∷ 0 ∷ 0 ∷ 0 ∷ 0 ∷ 0 ∷ [])
refused-figures bs k e = (ap tally_number e, ap (λ (t : Tally). seven_of (figures_of t)) e)
