-- The promise of the figures (request 2026-01), on the bytes of any pool: the largest grant that they tell is granted by a take, every
-- greater size is refused with 4 and changes nothing, and it is 0 exactly if every size from 1 on is refused.
use mathlib.Core.List.{List}
use mathlib.Core.Logic.{◌≢◌}
use mathlib.Core.Path.{◌≡◌, ◌∙◌, ap, refl, sym}
use Prim.Native.Nat.{ℕ, ◌≤◌, ◌<◌}
use native.Mathlib.Omega.{arith}
use Rattle.paper.specs.declared.Figures.{Figures}
use Rattle.paper.specs.Blocks.{State}
use Rattle.paper.specs.Calls.{Reading, misfit, broken, sound, take_call, figures_call, leaves}
use Rattle.paper.specs.Counting.{figures as figures_of}
use Rattle.paper.specs.Granting.{Result, take as take_of}
use Rattle.paper.specs.LargestGrant.{largest_grant}
use Rattle.paper.specs.Sheet.{Holds}
use Rattle.paper.proofs.keeps.LargestGrant.{largest-granted, greater-refused, refused_none}
use Rattle.paper.proofs.reads.Stands.{Stands}
use Rattle.pool.specs.Calls.{take, figures}
use Rattle.reading.specs.Read.{read}
use Rattle.reading.proofs.Asked.{read-sound}
use Rattle.std.specs.declared.result.Result.TheVariants.{Ok, Err}
use Rattle.paper.specs.declared.Refusal.TheVariants.{NoRoom}
use Rattle.paper.specs.Answers.{out, Out}
use Rattle.paper.specs.declared.Refusal.{Refusal}

-- figures that are counted are those of the state that was read
record CountedOf (bs : List ℕ) (f : Figures) : Type 0 where
  state : State
  reading : read bs ≡ sound state
  stands : Stands state bs
  largest-is : f.largest ≡ largest_grant state

figures-largest : (s : State) → (figures_of s).largest ≡ largest_grant s
unfolding figures_of
figures-largest s = refl

counted_of : (bs : List ℕ) (f : Figures) → figures bs ≡ Ok f → CountedOf bs f
unfolding figures
counted_of bs f = go (read bs) refl
  where
    never : {A : Type 0} (k : Refusal) → Err k ≡ Ok f → A
    never k e = absurd (let z : ◌≡◌ {A = ℕ} 0 1 = cc in omega arith)

    largest-of : (s : State) → f ≡ figures_of s → f.largest ≡ largest_grant s
    largest-of s e = ap (λ (g : Figures). g.largest) e ∙ figures-largest s

    go : (x : Reading) → read bs ≡ x → figures_call x ≡ Ok f → CountedOf bs f
    go misfit r e = never _ e
    go broken r e = never _ e
    go (sound s) r e = record { state = s; reading = r; stands = (read-sound bs s r).stands; largest-is = largest-of s cc }

module _ (bs : List ℕ) (f : Figures) (counted : figures bs ≡ Ok f) where
  by : CountedOf bs f
  by = counted_of bs f counted

  taken : (size : ℕ) → take bs size ≡ leaves (take_of by.state size) bs
  unfolding take
  taken size = ap (λ (x : Reading). take_call x bs size) by.reading

  pub largest-is-granted : f.largest ≢ 0 → (offset : ℕ) × ((take bs f.largest).answer ≡ Ok offset)
  largest-is-granted n =
      let g = largest-granted by.state by.stands.well_formed (λ z. n (by.largest-is ∙ z)) in (
        g.0,
        ap (λ (o : Out). o.answer) (taken f.largest) ∙ ap (λ (k : ℕ). (take_of by.state k).answer) by.largest-is ∙ g.1,
      )

  pub greater-is-refused : (size : ℕ) → f.largest < size → take bs size ≡ out (Err NoRoom) bs
  unfolding Holds
  greater-is-refused size l =
      taken size
      ∙ ap (λ (r : Result). leaves r bs) (greater-refused by.state by.stands.well_formed size (omega (arith, by.largest-is)))
      ∙ ap (out (Err NoRoom)) by.stands.holds

  pub zero-refuses-all : f.largest ≡ 0 → (size : ℕ) → 1 ≤ size → take bs size ≡ out (Err NoRoom) bs
  zero-refuses-all z size l = greater-is-refused size (omega arith)

  pub all-refused-is-zero : ((size : ℕ) → 1 ≤ size → size < 4294967296 → (k : Refusal) × ((take bs size).answer ≡ Err k)) → f.largest ≡ 0
  all-refused-is-zero r =
      by.largest-is
      ∙ refused_none by.state by.stands.well_formed
      (λ size l m. let k = r size l m in (k.0, sym (ap (λ (o : Out). o.answer) (taken size)) ∙ k.1))
