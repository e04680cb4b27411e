-- A choice by a test of two numbers or by a flag, and what it gives. The choice stays shut, so that the four laws speak and nothing computes.
use Rattle.std.specs.Prelude.{◌≡◌, ℕ, ◌<◌, ◌≤◌, Bool, true, false, T, ◌≢◌, ◌⊎◌, ◌==◌, nat_lt}
use Rattle.std.proofs.Math.Path.{refl, ap}
use Rattle.std.proofs.Common.{subst, inl, inr, arith, lt→ltb, eqb→eq}
use Rattle.std.proofs.Math.Decide.{dec_lt, ℕ_discrete}
use Rattle.std.proofs.Math.Dec.{ltb→lt, eqb_refl}

-- ---- the choice

module _ {ℓ} {A : Type ℓ} where
  unfoldable pub if< : ℕ → ℕ → A → A → A
  if< a b x y = elim (nat_lt a b) [ true ↦ x | false ↦ y ]

  unfoldable pub if= : ℕ → ℕ → A → A → A
  if= a b x y = elim (a == b) [ true ↦ x | false ↦ y ]

  unfoldable pub when : Bool → A → A → A
  when true x y = x
  when false x y = y

-- ---- its laws

T_true : (c : Bool) → T c → c ≡ true
T_true true t = refl
T_true false t = absurd t

T_false : (c : Bool) → (T c → ⊥) → c ≡ false
T_false true f = absurd (f tt)
T_false false f = refl

module _ {ℓ} {A : Type ℓ} where
  pub if<-yes : (a b : ℕ) (x y : A) → a < b → if< a b x y ≡ x
  unfolding if<
  if<-yes a b x y h = ap (λ (c : Bool). elim c [ true ↦ x | false ↦ y ]) (T_true (nat_lt a b) (lt→ltb a b h))

  pub if<-no : (a b : ℕ) (x y : A) → b ≤ a → if< a b x y ≡ y
  unfolding if<
  if<-no a b x y h = ap (λ (c : Bool). elim c [ true ↦ x | false ↦ y ]) (T_false (nat_lt a b) (λ t. omega (arith, ltb→lt a b t)))

  pub if=-yes : (a b : ℕ) (x y : A) → a ≡ b → if= a b x y ≡ x
  unfolding if=
  if=-yes a b x y h =
      ap (λ (c : Bool). elim c [ true ↦ x | false ↦ y ]) (T_true (a == b) (subst (λ (k : ℕ). T (a == k)) h (eqb_refl a)))

  pub if=-no : (a b : ℕ) (x y : A) → a ≢ b → if= a b x y ≡ y
  unfolding if=
  if=-no a b x y h = ap (λ (c : Bool). elim c [ true ↦ x | false ↦ y ]) (T_false (a == b) (λ t. h (eqb→eq a b t)))

  pub when-yes : (c : Bool) (x y : A) → c ≡ true → when c x y ≡ x
  unfolding when
  when-yes c x y h = rw h

  pub when-no : (c : Bool) (x y : A) → c ≡ false → when c x y ≡ y
  unfolding when
  when-no c x y h = rw h

  -- the same either way
  pub if=-same : (a b : ℕ) (x : A) → if= a b x x ≡ x
  unfolding if=
  if=-same a b x = go (a == b)
    where
      go : (c : Bool) → elim c [ true ↦ x | false ↦ x ] ≡ x
      go true = refl
      go false = refl

  pub when-same : (c : Bool) (x : A) → when c x x ≡ x
  unfolding when
  when-same true x = refl
  when-same false x = refl

pub ruleset ifs = (if=-yes, if=-no, if<-yes, if<-no)

-- ---- cases

pub lt? : (a b : ℕ) → (a < b) ⊎ (b ≤ a)
lt? a b = go (dec_lt a b)
  where
    go : Dec (a < b) → (a < b) ⊎ (b ≤ a)
    go (yes h) = inl h
    go (no h) = inr (omega arith)

pub eq? : (a b : ℕ) → (a ≡ b) ⊎ (a ≢ b)
eq? a b = go (ℕ_discrete a b)
  where
    go : Dec (a ≡ b) → (a ≡ b) ⊎ (a ≢ b)
    go (yes h) = inl h
    go (no h) = inr h

pub by= {ℓ} : {A : Type ℓ} (a b : ℕ) → (a ≡ b → A) → (a ≢ b → A) → A
by= {A = A} a b f g = go (eq? a b)
  where
    go : (a ≡ b) ⊎ (a ≢ b) → A
    go (inl h) = f h
    go (inr h) = g h

pub by< {ℓ} : {A : Type ℓ} (a b : ℕ) → (a < b → A) → (b ≤ a → A) → A
by< {A = A} a b f g = go (lt? a b)
  where
    go : (a < b) ⊎ (b ≤ a) → A
    go (inl h) = f h
    go (inr h) = g h
