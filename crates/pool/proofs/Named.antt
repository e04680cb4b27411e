-- Asking about a list of offsets, in the words of asking about one: it is done exactly if the pool is accepted, each offset but 0 is that of a
-- held payload, and none of them stands in the list at two places; and then it tells what asking tells of the one that is meant.
use mathlib.Core.Bool.{Bool, true, false}
use mathlib.Core.List.{List, [], ◌∷◌}
use mathlib.Core.Logic.{◌≢◌, ◌⊎◌, inl, inr}
use mathlib.Core.Path.{◌≡◌, refl, ap, ◌∙◌, sym}
use Prim.Native.Nat.{ℕ, zero, suc}
use native.Mathlib.Omega.{arith}
use lib.ListN.{get_or, length}
use Rattle.words.specs.Choice.{by=, if=, if=-no, if=-yes, when, when-no, when-yes}
use Rattle.words.specs.Words.{Bytes}
use Rattle.paper.proofs.runs.Asking.{ask-done}
use Rattle.paper.specs.AskingAll.{all_held, ask_one, each_once, is_done}
use Rattle.paper.specs.Bins.{count}
use Rattle.paper.specs.Calls.{Reading, Reads, misfit, broken, sound, ask_call, ask_all_call, inspect_call}
use Rattle.pool.specs.Calls.{ask, ask_all, inspect}
use Rattle.pool.proofs.Accepting.{Accepted}
use Rattle.pool.proofs.Holding.{Held, by-held, payload_of, reads-stands}
use Rattle.reading.specs.Read.{read}
use Rattle.reading.proofs.Readings.{reads}
use Rattle.std.specs.declared.result.Result.TheVariants.{Ok, Err}
use Rattle.paper.specs.declared.Refusal.TheVariants.{NotAllowed, NotHeld, NotSound}
use Rattle.paper.specs.Answers.{Answer}
use Rattle.paper.specs.declared.Refusal.{Refusal}

-- ---- a list that names each once

no_both : false ≡ true → ⊥
no_both e = let z : ◌≡◌ {A = ℕ} 0 1 = cc in omega arith

none-there : (o : ℕ) → o ≢ 0 → (os : List ℕ) → count o os ≡ 0 → (i : ℕ) → get_or os i 0 ≢ o
unfolding count
none-there o n [] c i e = n (sym e)
none-there o n (x ∷ os) c zero e = omega (arith, if=-yes {A = ℕ} x o 1 0 e)
none-there o n (x ∷ os) c (suc i) e = none-there o n os (omega arith) i e

there-none : (o : ℕ) (os : List ℕ) → ((i : ℕ) → get_or os i 0 ≢ o) → count o os ≡ 0
unfolding count
there-none o [] h = refl
there-none o (x ∷ os) h = omega (arith, if=-no {A = ℕ} x o 1 0 (h 0), there-none o os (λ i. h (suc i)))

-- what h has is had at each place, and one place has each
pub record Once (h : ℕ → Bool) (os : List ℕ) : Type 0 where
  pub had : (i : ℕ) → get_or os i 0 ≢ 0 → h (get_or os i 0) ≡ true
  pub apart : (i j : ℕ) → get_or os i 0 ≢ 0 → get_or os i 0 ≡ get_or os j 0 → i ≡ j

module _ (h : ℕ → Bool) where
  module _ (o : ℕ) (os : List ℕ) (r : Once h os) where
    past-empty : o ≡ 0 → Once h (o ∷ os)
    past-empty z =
        record {
          had = elim [ zero ↦ λ n. absurd (n z) | suc i ↦ λ n. r.had i n ];
          apart = elim [
            | zero ↦ λ j n k. absurd (n z)
            | suc i ↦ elim [ zero ↦ λ n k. absurd (n (k ∙ z)) | suc j ↦ λ n k. ap suc (r.apart i j n k) ]
          ];
        }

    past-named : h o ≡ true → ((i : ℕ) → get_or os i 0 ≢ o) → Once h (o ∷ os)
    past-named x other =
        record {
          had = elim [ zero ↦ λ n. x | suc i ↦ λ n. r.had i n ];
          apart = elim [
            | zero ↦ elim [ zero ↦ λ n k. refl | suc j ↦ λ n k. absurd (other j (sym k)) ]
            | suc i ↦ elim [ zero ↦ λ n k. absurd (other i k) | suc j ↦ λ n k. ap suc (r.apart i j n k) ]
          ];
        }

  by_flag : (b : Bool) (e : Bool) → when b e false ≡ true → (b ≡ true) × (e ≡ true)
  unfolding when
  by_flag true e f = (refl, f)
  by_flag false e f = absurd (no_both f)

  pub each-once : (os : List ℕ) → each_once h os ≡ true → Once h os
  unfolding each_once
  each-once [] e = record { had = λ i n. absurd (n refl); apart = λ i j n. absurd (n refl) }
  each-once (o ∷ os) e =
      by= o 0 (λ z. past-empty o os (each-once os (sym (if=-yes o 0 _ _ z) ∙ e)) z)
      (λ n. let f = sym (if=-no o 0 _ _ n) ∙ e in
      by= (count o os) 0
      (λ c. let g = by_flag (h o) (each_once h os) (sym (if=-yes (count o os) 0 _ _ c) ∙ f) in
      past-named o os (each-once os g.1) g.0 (none-there o n os c))
      (λ c. absurd (no_both (sym (if=-no (count o os) 0 _ _ c) ∙ f))))

  pub once-each : (os : List ℕ) → Once h os → each_once h os ≡ true
  unfolding each_once
  once-each [] r = refl
  once-each (o ∷ os) r =
      let rest = once-each os (record { had = λ i. r.had (suc i); apart = λ i j n e. let k = r.apart (suc i) (suc j) n e in omega arith }) in
      by= o 0 (λ z. if=-yes o 0 _ _ z ∙ rest)
      (λ n. if=-no o 0 _ _ n
      ∙ if=-yes (count o os) 0 _ _ (there-none o os (λ i e. let k = r.apart 0 (suc i) n (sym e) in omega arith))
      ∙ when-yes (h o) _ _ (r.had 0 n) ∙ rest)

-- ---- the call

pub inspect-numbers : (bs : List ℕ) (k : Refusal) → inspect bs ≡ Err k → (k ≡ NotAllowed) ⊎ (k ≡ NotSound)
unfolding inspect
inspect-numbers bs k e = go (read bs) e
  where
    go : (x : Reading) → inspect_call x bs ≡ Err k → (k ≡ NotAllowed) ⊎ (k ≡ NotSound)
    go misfit f = inl cc
    go broken f = inr cc
    go (sound s) f = absurd (let z : ◌≡◌ {A = ℕ} 0 1 = cc in omega arith)

-- done, it answers the length
pub inspect-value : (bs : List ℕ) (v : ℕ) → inspect bs ≡ Ok v → inspect bs ≡ Ok (length bs)
unfolding inspect
inspect-value bs v e = go (read bs) e
  where
    go : (x : Reading) → inspect_call x bs ≡ Ok v → inspect_call x bs ≡ Ok (length bs)
    go misfit f = absurd (let z : ◌≡◌ {A = ℕ} 0 1 = cc in omega arith)
    go broken f = absurd (let z : ◌≡◌ {A = ℕ} 0 1 = cc in omega arith)
    go (sound s) f = refl

done-is : (a : Answer) → is_done a ≡ true → (v : ℕ) × (a ≡ Ok v)
done-is (Ok v) e = (v, refl)
done-is (Err k) e = absurd (no_both e)

-- what is told of the one that is meant
abbrev pub told : List ℕ → ℕ → Answer
told bs o = if= o 0 (Ok 0) (ask bs o)

module _ (bs offsets : List ℕ) where
  -- whether the list names each once, of those that asking finds
  abbrev named : Bool
  named = each_once (λ o. is_done (ask bs o)) offsets

  -- then the one that is meant is told
  named-told : named ≡ true → (place : ℕ) → (w : ℕ) × (told bs (get_or offsets place 0) ≡ Ok w)
  named-told e place =
      by= (get_or offsets place 0) 0 (λ z. (0, if=-yes _ 0 _ _ z))
      (λ n. let d = done-is (ask bs (get_or offsets place 0)) ((each-once (λ o. is_done (ask bs o)) offsets e).had place n) in
      (d.0, if=-no _ 0 _ _ n ∙ d.1))

  module _ (place : ℕ) where
    -- 1 and 2 are inspection's
    pub ask-all-refused : (k : Refusal) → inspect bs ≡ Err k → ask_all bs offsets place ≡ Err k
    unfolding inspect ask_all
    ask-all-refused k e = go (read bs) e
      where
        go : (x : Reading) → inspect_call x bs ≡ Err k → ask_all_call x offsets place ≡ Err k
        go misfit f = f
        go broken f = f
        go (sound s) f = absurd (let z : ◌≡◌ {A = ℕ} 0 1 = cc in omega arith)

    -- else it goes by what asking says of each
    ask-all-is : (v : ℕ) → inspect bs ≡ Ok v → ask_all bs offsets place ≡ when named (told bs (get_or offsets place 0)) (Err NotHeld)
    unfolding inspect ask_all ask all_held ask_one
    ask-all-is v e = go (read bs) e
      where
        go : (x : Reading) → inspect_call x bs ≡ Ok v → ask_all_call x offsets place
            ≡ when (each_once (λ o. is_done (ask_call x o)) offsets) (if= (get_or offsets place 0) 0 (Ok 0) (ask_call x (get_or offsets place 0))) (Err NotHeld)
        go misfit f = absurd (let z : ◌≡◌ {A = ℕ} 0 1 = cc in omega arith)
        go broken f = absurd (let z : ◌≡◌ {A = ℕ} 0 1 = cc in omega arith)
        go (sound s) f = refl

    pub ask-all-either : (v : ℕ) → inspect bs ≡ Ok v → ((w : ℕ) × (ask_all bs offsets place ≡ Ok w)) ⊎ (ask_all bs offsets place ≡ Err NotHeld)
    ask-all-either v e = go named refl
      where
        go : (b : Bool) → named ≡ b → ((w : ℕ) × (ask_all bs offsets place ≡ Ok w)) ⊎ (ask_all bs offsets place ≡ Err NotHeld)
        go true f = let t = named-told f place in inl (t.0, ask-all-is v e ∙ when-yes named _ _ f ∙ t.1)
        go false f = inr (ask-all-is v e ∙ when-no named _ _ f)

-- ---- in the words of what is held

pub record Names (bs offsets : List ℕ) : Type 0 where
  pub held : (i : ℕ) → get_or offsets i 0 ≢ 0 → (payload : List ℕ) × Held bs (get_or offsets i 0) payload
  pub apart : (i j : ℕ) → get_or offsets i 0 ≢ 0 → get_or offsets i 0 ≡ get_or offsets j 0 → i ≡ j

-- a payload is held where asking is done
pub asked-held : (bs : List ℕ) → Bytes bs → (o v : ℕ) → ask bs o ≡ Ok v → (payload : List ℕ) × Held bs o payload
unfolding ask
asked-held bs bytes o v e = go (read bs) (reads bs bytes) e
  where
    never : {A : Type 0} (k : Refusal) → Err k ≡ Ok v → A
    never k f = absurd (let z : ◌≡◌ {A = ℕ} 0 1 = cc in omega arith)

    go : (x : Reading) → Reads bs x → ask_call x o ≡ Ok v → (payload : List ℕ) × Held bs o payload
    go misfit r f = never _ f
    go broken r f = never _ f
    go (sound s) r f =
        let S = reads-stands bs s r in
        (payload_of s bs o, by-held bs o bytes s r (omega (arith, (ask-done s S.well_formed o v f).0)))

module _ (bs offsets : List ℕ) where
  pub names-asked : Accepted bs → Names bs offsets → (place : ℕ) → (w : ℕ) × (ask_all bs offsets place ≡ Ok w)
  names-asked A N place =
      let e : named bs offsets ≡ true =
      once-each (λ o. is_done (ask bs o)) offsets (record { had = λ i n. ap is_done (N.held i n).1.asked; apart = N.apart }) in
      let t = named-told bs offsets e place in
      (t.0, ask-all-is bs offsets place _ A.inspected ∙ when-yes (named bs offsets) _ _ e ∙ t.1)

  module _ (place v : ℕ) (e : ask_all bs offsets place ≡ Ok v) where
    inspected : inspect bs ≡ Ok (length bs)
    inspected = go (inspect bs) refl
      where
        go : (a : Answer) → inspect bs ≡ a → inspect bs ≡ Ok (length bs)
        go (Err k) f =
            absurd (let g : Err k ≡ Ok v = sym (ask-all-refused bs offsets place k f) ∙ e in let z : ◌≡◌ {A = ℕ} 0 1 = cc in omega arith)
        go (Ok w) f = inspect-value bs w f

    is-named : named bs offsets ≡ true
    is-named = go (named bs offsets) refl
      where
        go : (b : Bool) → named bs offsets ≡ b → named bs offsets ≡ true
        go true f = f
        go false f =
            let g : Err NotHeld ≡ Ok v = sym (ask-all-is bs offsets place _ inspected ∙ when-no (named bs offsets) _ _ f) ∙ e in
            absurd (let z : ◌≡◌ {A = ℕ} 0 1 = cc in omega arith)

    pub asked-accepted : Bytes bs → Accepted bs
    asked-accepted bytes = record { bytes = bytes; inspected = inspected }

    pub asked-names : Bytes bs → Names bs offsets
    asked-names bytes =
        let r = each-once (λ o. is_done (ask bs o)) offsets is-named in
        record {
          held = λ i n. let d = done-is (ask bs (get_or offsets i 0)) (r.had i n) in asked-held bs bytes (get_or offsets i 0) d.0 d.1;
          apart = r.apart;
        }

    -- and the one that is meant is told
    pub asked-told : told bs (get_or offsets place 0) ≡ Ok v
    asked-told = sym (ask-all-is bs offsets place _ inspected ∙ when-yes (named bs offsets) _ _ is-named) ∙ e
