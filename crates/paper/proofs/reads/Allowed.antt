-- The test of a length says exactly whether it is allowed.
use mathlib.Core.Bool.{false, true}
use mathlib.Core.Path.{◌∙◌, ◌≡◌, sym}
use Prim.Native.Nat.{◌%◌, ℕ}
use native.Mathlib.Omega.{arith}
use Rattle.paper.specs.Allowed.{Allowed, allowed}
use Rattle.words.specs.Choice.{by<, by=, if<-no, if<-yes, if=-no, if=-yes}

pub allowed-yes : (n : ℕ) → Allowed n → allowed n ≡ true
unfolding allowed
allowed-yes n h = if<-no n 176 _ _ h.least ∙ if<-no 65536 n _ _ h.most ∙ if=-yes (n % 8) 0 _ _ h.eights

pub allowed-inv : (n : ℕ) → allowed n ≡ true → Allowed n
unfolding allowed
allowed-inv n h =
    by< n 176 (λ l. absurd (never (sym (if<-yes n 176 _ _ l) ∙ h)))
    (λ l. by< 65536 n (λ m. absurd (never (sym (if<-no n 176 _ _ l ∙ if<-yes 65536 n _ _ m) ∙ h)))
    (λ m. by= (n % 8) 0 (λ e. record { least = l; most = m; eights = e })
    (λ e. absurd (never (sym (if<-no n 176 _ _ l ∙ if<-no 65536 n _ _ m ∙ if=-no (n % 8) 0 _ _ e) ∙ h)))))
  where
    never : false ≡ true → ⊥
    never e = let z : ◌≡◌ {A = ℕ} 0 1 = cc in omega arith
