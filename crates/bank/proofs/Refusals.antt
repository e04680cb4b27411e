-- What every call of the bank asks first: on an accepted pool, with a bank that names held payloads, each once, it refuses a piston above 31 and
-- nothing else.
use mathlib.Core.List.{List}
use mathlib.Core.Logic.{◌≢◌, ◌⊎◌, inl, inr}
use mathlib.Core.Path.{◌≡◌, refl, ap, ap₂, sym, ◌∙◌}
use Prim.Native.Nat.{ℕ, ◌<◌, ◌≤◌}
use native.Mathlib.Omega.{arith}
use lib.ListN.{length}
use Rattle.words.specs.Choice.{by<, if<-no, if<-yes}
use Rattle.pool.proofs.Accepting.{Accepted}
use Rattle.pool.proofs.Named.{Names, ask-all-either, ask-all-refused, inspect-numbers, inspect-value, names-asked}
use Rattle.pool.specs.Calls.{ask_all, inspect}
use Rattle.bank.specs.Calls.{named, or_else, past, refusal, refused}
use Rattle.std.specs.declared.option.Option.{Option}
use Rattle.std.specs.declared.option.Option.TheVariants.{None, Some}
use Rattle.std.specs.declared.result.Result.TheVariants.{Ok, Err}
use Rattle.paper.specs.declared.Refusal.TheVariants.{NoPiston, NotAllowed, NotHeld, NotNamed, NotSound}
use Rattle.paper.specs.Answers.{Answer}
use Rattle.paper.specs.declared.Refusal.{Refusal}

-- a refusal is one
pub some-none : {A : Type 0} (k : Refusal) → ◌≡◌ {A = Option Refusal} (Some k) None → A
some-none k e = absurd (let z : ◌≡◌ {A = ℕ} 0 1 = cc in omega arith)

module _ (bs bank : List ℕ) (piston : ℕ) where
  -- by what inspecting and asking about the whole bank answer
  pub by-both : (a b : Answer) → inspect bs ≡ a → ask_all bs bank piston ≡ b → refusal bs bank piston ≡ or_else (refused a) (past piston (named b))
  unfolding refusal
  by-both a b e f = ap₂ (λ (x y : Answer). or_else (refused x) (past piston (named y))) e f

module _ (bs bank : List ℕ) (A : Accepted bs) (N : Names bs bank) (piston : ℕ) where
  pub by-piston : refusal bs bank piston ≡ past piston None
  by-piston = let d = names-asked bs bank A N piston in by-both bs bank piston (Ok (length bs)) (Ok d.0) A.inspected d.1

  pub none-refused : piston < 32 → refusal bs bank piston ≡ None
  unfolding past
  none-refused l = by-piston ∙ if<-yes piston 32 _ _ l

  pub past-refused : 32 ≤ piston → refusal bs bank piston ≡ Some NoPiston
  unfolding past
  past-refused l = by-piston ∙ if<-no piston 32 _ _ l

-- ---- what the code finds, by what asking about the whole bank answers

module _ (bs bank : List ℕ) (piston : ℕ) where
  -- it names held payloads, each once
  pub refusal-named : (v : ℕ) → ask_all bs bank piston ≡ Ok v → refusal bs bank piston ≡ past piston None
  refusal-named v e = go (inspect bs) refl
    where
      go : (a : Answer) → inspect bs ≡ a → refusal bs bank piston ≡ past piston None
      go (Err k) f =
          let g : Err k ≡ Ok v = sym (ask-all-refused bs bank piston k f) ∙ e in
          absurd (let z : ◌≡◌ {A = ℕ} 0 1 = cc in omega arith)
      go (Ok w) f = by-both bs bank piston (Ok w) (Ok v) f e

  -- it does not
  pub refusal-unnamed : ask_all bs bank piston ≡ Err NotHeld → refusal bs bank piston ≡ past piston (Some NotNamed)
  refusal-unnamed e = go (inspect bs) refl
    where
      go : (a : Answer) → inspect bs ≡ a → refusal bs bank piston ≡ past piston (Some NotNamed)
      go (Err j) f = other (inspect-numbers bs j f)
        where
          other : (j ≡ NotAllowed) ⊎ (j ≡ NotSound) → refusal bs bank piston ≡ past piston (Some NotNamed)
          other h =
              let g : Err j ≡ Err NotHeld = sym (ask-all-refused bs bank piston j f) ∙ e in
              let same : j ≡ NotHeld = cc in
              absurd (not-held same h)
            where
              not-held : j ≡ NotHeld → (j ≡ NotAllowed) ⊎ (j ≡ NotSound) → ⊥
              not-held x (inl y) = let z : ◌≡◌ {A = ℕ} 0 1 = cc in omega arith
              not-held x (inr y) = let z : ◌≡◌ {A = ℕ} 0 1 = cc in omega arith
      go (Ok w) f = by-both bs bank piston (Ok w) (Err NotHeld) f e

  -- the pool was not read
  pub refusal-unread : (k : Refusal) → ask_all bs bank piston ≡ Err k → k ≢ NotHeld → refusal bs bank piston ≡ Some k
  refusal-unread k e n = go (inspect bs) refl
    where
      go : (a : Answer) → inspect bs ≡ a → refusal bs bank piston ≡ Some k
      go (Err j) f =
          let g : Err j ≡ Err k = sym (ask-all-refused bs bank piston j f) ∙ e in
          let same : j ≡ k = cc in
          by-both bs bank piston (Err j) (Err k) f e ∙ ap Some same
      go (Ok w) f = other (ask-all-either bs bank piston w f)
        where
          other : ((v : ℕ) × (ask_all bs bank piston ≡ Ok v)) ⊎ (ask_all bs bank piston ≡ Err NotHeld) → refusal bs bank piston ≡ Some k
          other (inl g) = absurd (let x : Err k ≡ Ok g.0 = sym e ∙ g.1 in let z : ◌≡◌ {A = ℕ} 0 1 = cc in omega arith)
          other (inr g) = let x : Err k ≡ Err NotHeld = sym e ∙ g in let same : k ≡ NotHeld = cc in absurd (n same)

-- ---- by what is asked of the piston alone

past-none : (p : ℕ) (k : Option Refusal) → past p k ≡ None → (p < 32) × (k ≡ None)
unfolding past
past-none p k e =
    by< p 32 (λ l. (l, sym (if<-yes p 32 k (Some NoPiston) l) ∙ e)) (λ l. some-none NoPiston (sym (if<-no p 32 k (Some NoPiston) l) ∙ e))

pub past-next : (p : ℕ) (k : Option Refusal) → past p None ≡ None → past p k ≡ k
unfolding past
past-next p k e = if<-yes p 32 _ _ (past-none p None e).0

pub past-first : (p : ℕ) (k : Option Refusal) (j : Refusal) → past p None ≡ Some j → past p k ≡ Some j
unfolding past
past-first p k j e =
    by< p 32 (λ l. some-none j (sym e ∙ if<-yes p 32 None (Some NoPiston) l))
    (λ l. if<-no p 32 k (Some NoPiston) l ∙ sym (if<-no p 32 None (Some NoPiston) l) ∙ e)

-- ---- where nothing refuses

pub record Passed (bs bank : List ℕ) (piston : ℕ) : Type 0 where
  pub below : piston < 32
  pub inspected : inspect bs ≡ Ok (length bs)
  pub asked : (w : ℕ) × (ask_all bs bank piston ≡ Ok w)

module _ (bs bank : List ℕ) (piston : ℕ) where
  pub nothing-refuses : refusal bs bank piston ≡ None → Passed bs bank piston
  nothing-refuses z = go (inspect bs) (ask_all bs bank piston) refl refl
    where
      go : (a b : Answer) → inspect bs ≡ a → ask_all bs bank piston ≡ b → Passed bs bank piston
      go (Err k) b f g = some-none k (sym (by-both bs bank piston (Err k) b f g) ∙ z)
      go (Ok v) (Err k) f g = some-none NotNamed (past-none piston (Some NotNamed) (sym (by-both bs bank piston (Ok v) (Err k) f g) ∙ z)).1
      go (Ok v) (Ok w) f g =
          record {
            below = (past-none piston None (sym (by-both bs bank piston (Ok v) (Ok w) f g) ∙ z)).0;
            inspected = inspect-value bs v f;
            asked = (w, g);
          }
