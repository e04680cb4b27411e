-- The statement of each call determines its outcome: of two that it allows the answers are equal, every byte of the pool and every number of the
-- bank; of recalling why it is refused, if it is, and the part's bytes and place.
use mathlib.Core.Path.{◌≡◌, ap, sym, ◌∙◌}
use mathlib.Core.List.{List}
use Prim.Native.Nat.{ℕ}
use denote.Ref.{Bor}
use Rattle.bank.specs.Calls.{After, after, asked, clear, recall, set}
use Rattle.bank.specs.Recalls.{Finds, Recalls}
use Rattle.bank.specs.declared.recalling.Place.{Place}
use Rattle.bank.specs.declared.recalling.Recalled.{Recalled}
use Rattle.paper.specs.Answers.{Answer}

same_outcome : (o : After) (r r' : Answer) (p p' b b' : List ℕ) → o ≡ after r p b → o ≡ after r' p' b' → (r ≡ r') × (p ≡ p') × (b ≡ b')
same_outcome o r r' p p' b b' e f =
    let g : after r p b ≡ after r' p' b' = sym e ∙ f in
    (ap (λ (x : After). x.answer) g, ap (λ (x : After). x.pool) g, ap (λ (x : After). x.bank) g)

module _ (bs bank : List ℕ) (piston : ℕ) where
  pub set-determined : (kind : ℕ) (body : List ℕ) (r r' : Answer) (p p' b b' : List ℕ) → set bs bank piston kind body ≡ after r p b
      → set bs bank piston kind body ≡ after r' p' b' → (r ≡ r') × (p ≡ p') × (b ≡ b')
  set-determined kind body = same_outcome (set bs bank piston kind body)

  pub clear-determined : (r r' : Answer) (p p' b b' : List ℕ) → clear bs bank piston ≡ after r p b → clear bs bank piston ≡ after r' p' b'
      → (r ≡ r') × (p ≡ p') × (b ≡ b')
  clear-determined = same_outcome (clear bs bank piston)

  pub find-determined : (r r' : Place) → Finds bs bank piston r → Finds bs bank piston r' → r ≡ r'
  find-determined r r' f f' = f.is ∙ sym f'.is

  pub ask-determined : (r r' : Answer) → r ≡ asked (recall bs bank piston) → r' ≡ asked (recall bs bank piston) → r ≡ r'
  ask-determined r r' e f = e ∙ sym f

pub recall-determined : (pool : Bor (List ℕ)) (bank : List ℕ) (piston : ℕ) (r r' : Recalled) → Recalls r pool bank piston → Recalls r' pool bank piston
    → (r.refusal ≡ r'.refusal) × (r.part.now ≡ r'.part.now) × (r.part.ref_ptr ≡ r'.part.ref_ptr)
recall-determined pool bank piston r r' e e' = (e.refusal ∙ sym e'.refusal, e.bytes ∙ sym e'.bytes, e.place ∙ sym e'.place)
