-- Each refusal, exactly when the rule says so, in the order 1, 8, 2, 13; and a refusal returns 0 beside its number and changes nothing.
use mathlib.Core.List.{List}
use mathlib.Core.Logic.{◌≢◌, ◌⊎◌, inl, inr}
use mathlib.Core.Path.{◌≡◌, refl, ap, ◌∙◌}
use Prim.Native.Nat.{ℕ}
use native.Mathlib.Omega.{arith}
use lib.ListN.{length}
use Rattle.words.specs.Choice.{by=, if=, if=-no, if=-yes}
use Rattle.words.specs.Words.{Bytes}
use Rattle.paper.specs.Allowed.{Allowed}
use Rattle.paper.specs.Calls.{Reading, Reads, broken, misfit, sound}
use Rattle.paper.specs.Fresh.{layout_top}
use Rattle.paper.specs.Sound.{Sound}
use Rattle.reading.specs.Read.{read}
use Rattle.reading.proofs.Readings.{reading-unique, reads}
use Rattle.convert.specs.Converting.{convert, convert_call, moves}
use Rattle.std.specs.declared.result.Result.TheVariants.{Err}
use Rattle.paper.specs.declared.Refusal.TheVariants.{NoLayout, NotAllowed, NotSound, OtherLayout}
use Rattle.paper.specs.Answers.{code, number, out, Out, value}
use Rattle.paper.specs.declared.Refusal.{Refusal}

-- the two numbers that name a layout
abbrev pub Named : ℕ → Type 0
Named old = (old ≡ 1) ⊎ (old ≡ 2)

named-top : (old : ℕ) → Named old → layout_top old ≢ 0
unfolding layout_top if=
named-top old (inl e) = λ z. omega (arith, ap layout_top e)
named-top old (inr e) = λ z. omega (arith, ap layout_top e)

unnamed-top : (old : ℕ) → (Named old → ⊥) → layout_top old ≡ 0
unfolding layout_top
unnamed-top old n = if=-no old 1 _ _ (λ e. n (inl e)) ∙ if=-no old 2 _ _ (λ e. n (inr e))

module _ (bs : List ℕ) (bytes : Bytes bs) (old : ℕ) where
  -- the outcome is the one of the pool's only reading
  by-reading : (x : Reading) → Reads bs x → convert bs old ≡ convert_call x bs old
  unfolding convert
  by-reading x k = ap (λ (y : Reading). convert_call y bs old) (reading-unique bs (read bs) x (reads bs bytes) k)

  pub refused-1 : (Allowed (length bs) → ⊥) → convert bs old ≡ out (Err NotAllowed) bs
  refused-1 h = by-reading misfit h

  module _ (a : Allowed (length bs)) where
    pub refused-8 : (Named old → ⊥) → convert bs old ≡ out (Err NoLayout) bs
    unfolding convert
    refused-8 n = go (read bs) (reads bs bytes)
      where
        go : (x : Reading) → Reads bs x → convert_call x bs old ≡ out (Err NoLayout) bs
        go misfit k = absurd (k a)
        go broken k = if=-yes (layout_top old) 0 _ _ (unnamed-top old n)
        go (sound s) k = if=-yes (layout_top old) 0 _ _ (unnamed-top old n)

    pub refused-2 : Named old → (Sound bs → ⊥) → convert bs old ≡ out (Err NotSound) bs
    refused-2 n h = by-reading broken (a, h) ∙ if=-no (layout_top old) 0 _ _ (named-top old n)

  module _ (n : Named old) (S : Sound bs) where
    pub refused-13 : S.state.top ≢ layout_top old → convert bs old ≡ out (Err OtherLayout) bs
    refused-13 d =
        by-reading (sound S.state) (S, refl) ∙ if=-no (layout_top old) 0 _ _ (named-top old n) ∙ if=-no S.state.top (layout_top old) _ _ d

    pub moved-else : S.state.top ≡ layout_top old → convert bs old ≡ moves S.state bs old
    moved-else e =
        by-reading (sound S.state) (S, refl) ∙ if=-no (layout_top old) 0 _ _ (named-top old n) ∙ if=-yes S.state.top (layout_top old) _ _ e

-- an outcome that is refused changes nothing
abbrev Unchanged : List ℕ → Out → Type 0
Unchanged bs o = (k : Refusal) → o.answer ≡ Err k → o.after ≡ bs

stays : (bs : List ℕ) (old : ℕ) (x : Reading) → Unchanged bs (convert_call x bs old)
stays bs old misfit = λ k e. refl
stays bs old broken =
    by= (layout_top old) 0 (λ z. rw (if=-yes {A = Out} (layout_top old) 0 _ _ z) (λ k e. refl)) (λ z. rw (if=-no {A = Out} (layout_top old) 0 _ _ z) (λ k e. refl))
stays bs old (sound s) =
    by= (layout_top old) 0 (λ z. rw (if=-yes {A = Out} (layout_top old) 0 _ _ z) (λ k e. refl))
    (λ z. rw (if=-no {A = Out} (layout_top old) 0 _ _ z)
    (by= s.top (layout_top old)
    (λ e. rw (if=-yes {A = Out} s.top (layout_top old) _ _ e) (λ k f. absurd (let z : ◌≡◌ {A = ℕ} 0 1 = cc in omega arith)))
    (λ e. rw (if=-no {A = Out} s.top (layout_top old) _ _ e) (λ k f. refl))))

-- "A refusal returns 0 beside its number and changes nothing."
pub refused-changes-nothing : (bs : List ℕ) (old : ℕ) (k : Refusal) → (convert bs old).answer ≡ Err k
    → (number (convert bs old).answer ≡ code k) × (value (convert bs old).answer ≡ 0) × ((convert bs old).after ≡ bs)
unfolding convert
refused-changes-nothing bs old k e = (ap number e, ap value e, stays bs old (read bs) k e)
