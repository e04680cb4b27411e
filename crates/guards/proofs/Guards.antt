-- What a list of tests before an answer says: all pass, or the answer is the refusal.
use mathlib.Core.Bool.{Bool, false, not, true}
use mathlib.Core.List.{List, [], ◌∷◌}
use mathlib.Core.Logic.{◌≢◌}
use mathlib.Core.Path.{◌∙◌, ◌≡◌, refl, sym}
use Prim.Native.Nat.{◌<◌, ℕ}
use native.Mathlib.Omega.{arith}
use borrow.Author.Tests.{not-false, not-true}
use Rattle.guards.specs.Tests.{Test, guard, holds, less, pass, same}
use Rattle.words.specs.Choice.{by<, by=, if<-no, if<-yes, if=-no, if=-yes}

abbrev pub All : List Test → Type 0
All [] = Unit {0}
All (same a b ∷ ts) = (a ≡ b) × All ts
All (less a b ∷ ts) = (a < b) × All ts
All (holds c ∷ ts) = (c ≡ true) × All ts

module _ {A : Type 0} where
  -- all pass
  pub guard-yes : (ts : List Test) (bad x : A) → All ts → guard ts bad x ≡ x
  guard-yes [] bad x h = refl
  guard-yes (same a b ∷ ts) bad x h = if=-yes a b _ _ h.0 ∙ guard-yes ts bad x h.1
  guard-yes (less a b ∷ ts) bad x h = if<-yes a b _ _ h.0 ∙ guard-yes ts bad x h.1
  guard-yes (holds true ∷ ts) bad x h = guard-yes ts bad x h.1
  guard-yes (holds false ∷ ts) bad x h = absurd (let z : ◌≡◌ {A = ℕ} 0 1 = cc h.0 in omega arith)

  -- the answer is not the refusal: all have passed
  pub guard-inv : (ts : List Test) (bad x y : A) → (bad ≢ y) → guard ts bad x ≡ y → All ts × (x ≡ y)
  guard-inv [] bad x y n h = (tt, h)
  guard-inv (same a b ∷ ts) bad x y n h =
      by= a b (λ e. let r = guard-inv ts bad x y n (sym (if=-yes a b _ _ e) ∙ h) in ((e, r.0), r.1)) (λ e. absurd (n (sym (if=-no a b _ _ e) ∙ h)))
  guard-inv (less a b ∷ ts) bad x y n h =
      by< a b (λ e. let r = guard-inv ts bad x y n (sym (if<-yes a b _ _ e) ∙ h) in ((e, r.0), r.1)) (λ e. absurd (n (sym (if<-no a b _ _ e) ∙ h)))
  guard-inv (holds true ∷ ts) bad x y n h = let r = guard-inv ts bad x y n h in ((refl, r.0), r.1)
  guard-inv (holds false ∷ ts) bad x y n h = absurd (n h)

pub no_both : false ≢ true
no_both e = let z : ◌≡◌ {A = ℕ} 0 1 = cc in omega arith

module _ {A : Type 0} where
  pub guard-pass : (ts : List Test) (bad x : A) → pass ts ≡ true → guard ts bad x ≡ x
  guard-pass ts bad x h = guard-yes ts bad x (guard-inv ts false true true no_both h).0

  pub guard-fail : (ts : List Test) (bad x : A) → pass ts ≡ false → guard ts bad x ≡ bad
  guard-fail [] bad x h = absurd (no_both (sym h))
  guard-fail (same a b ∷ ts) bad x h = by= a b (λ e. if=-yes a b _ _ e ∙ guard-fail ts bad x (sym (if=-yes a b _ _ e) ∙ h)) (λ e. if=-no a b _ _ e)
  guard-fail (less a b ∷ ts) bad x h = by< a b (λ e. if<-yes a b _ _ e ∙ guard-fail ts bad x (sym (if<-yes a b _ _ e) ∙ h)) (λ e. if<-no a b _ _ e)
  guard-fail (holds true ∷ ts) bad x h = guard-fail ts bad x h
  guard-fail (holds false ∷ ts) bad x h = refl

-- a test that fails refuses, whatever stands before it; and an answer that says what they say is theirs
pub pass-no : (ts : List Test) → (All ts → ⊥) → false ≡ pass ts
pass-no ts h = go (pass ts) refl
  where
    go : (b : Bool) → pass ts ≡ b → false ≡ b
    go true e = absurd (h (guard-inv ts false true true no_both e).0)
    go false e = refl

pub pass-is : (ts : List Test) (b : Bool) → (b ≡ true → All ts) → (All ts → b ≡ true) → b ≡ pass ts
pass-is ts true f g = sym (guard-yes ts false true (f refl))
pass-is ts false f g = pass-no ts (λ a. no_both (g a))

pub guard-same : {A : Type 0} (ts : List Test) (bad x : A) → x ≡ bad → guard ts bad x ≡ bad
guard-same [] bad x h = h
guard-same (same a b ∷ ts) bad x h = by= a b (λ e. if=-yes a b _ _ e ∙ guard-same ts bad x h) (λ e. if=-no a b _ _ e)
guard-same (less a b ∷ ts) bad x h = by< a b (λ e. if<-yes a b _ _ e ∙ guard-same ts bad x h) (λ e. if<-no a b _ _ e)
guard-same (holds true ∷ ts) bad x h = guard-same ts bad x h
guard-same (holds false ∷ ts) bad x h = refl

-- ---- a test of the code, which goes on where `not b` is false

pub passed : {b c : Bool} → b ≡ c → not b ≡ false → c ≡ true
passed e f = sym e ∙ not-false _ f

pub off : {b : Bool} → b ≡ true → not b ≡ true → ⊥
off {b} e h = no_both (sym (not-true b h) ∙ e)
