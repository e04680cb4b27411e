-- The statement of each public call determines its outcome: two outcomes that it allows are equal, the answer and every lent byte; of lending, the part's bytes and place.
use mathlib.Core.Path.{◌≡◌, ap, sym, ◌∙◌}
use mathlib.Core.List.{List}
use Prim.Native.Nat.{ℕ}
use Rattle.std.specs.Borrow.{Bor, MutBor}
use Rattle.pool.specs.Calls.{lay_out, inspect, take, give_back, ask, ask_all, Lent, LentMut, figures, class_count}
use Rattle.paper.specs.Answers.{Answer, out, Out, Tally}

-- an outcome is an answer and the bytes afterwards
same_outcome : (o : Out) (r r' : Answer) (a a' : List ℕ) → o ≡ out r a → o ≡ out r' a' → (r ≡ r') × (a ≡ a')
same_outcome o r r' a a' e f = let g : out r a ≡ out r' a' = sym e ∙ f in (ap (λ (x : Out). x.answer) g, ap (λ (x : Out). x.after) g)

same_answer : {A : Type 0} (x r r' : A) → r ≡ x → r' ≡ x → r ≡ r'
same_answer x r r' e f = e ∙ sym f

module _ (bs : List ℕ) where
  pub lay-out-determined : (layout : ℕ) (r r' : Answer) (a a' : List ℕ) → lay_out bs layout ≡ out r a → lay_out bs layout ≡ out r' a' → (r ≡ r') × (a ≡ a')
  lay-out-determined layout = same_outcome (lay_out bs layout)

  pub inspect-determined : (r r' : Answer) → r ≡ inspect bs → r' ≡ inspect bs → r ≡ r'
  inspect-determined = same_answer (inspect bs)

  pub take-determined : (size : ℕ) (r r' : Answer) (a a' : List ℕ) → take bs size ≡ out r a → take bs size ≡ out r' a' → (r ≡ r') × (a ≡ a')
  take-determined size = same_outcome (take bs size)

  pub give-back-determined : (offset : ℕ) (r r' : Answer) (a a' : List ℕ) → give_back bs offset ≡ out r a → give_back bs offset ≡ out r' a'
      → (r ≡ r') × (a ≡ a')
  give-back-determined offset = same_outcome (give_back bs offset)

  pub ask-determined : (offset : ℕ) (r r' : Answer) → r ≡ ask bs offset → r' ≡ ask bs offset → r ≡ r'
  ask-determined offset = same_answer (ask bs offset)

  pub ask-all-determined : (offsets : List ℕ) (place : ℕ) (r r' : Answer) → r ≡ ask_all bs offsets place → r' ≡ ask_all bs offsets place → r ≡ r'
  ask-all-determined offsets place = same_answer (ask_all bs offsets place)

  pub figures-determined : (r r' : Tally) → r ≡ figures bs → r' ≡ figures bs → r ≡ r'
  figures-determined = same_answer (figures bs)

  pub class-count-determined : (cs : List ℕ) (r r' : Answer) (a a' : List ℕ) → class_count bs cs ≡ out r a → class_count bs cs ≡ out r' a'
      → (r ≡ r') × (a ≡ a')
  class-count-determined cs = same_outcome (class_count bs cs)

-- of lend and of lend_mut: the part's bytes and its place
pub lend-determined : (pool : Bor (List ℕ)) (offset : ℕ) (r r' : Bor (List ℕ)) → Lent r pool offset → Lent r' pool offset
    → (r.now ≡ r'.now) × (r.ref_ptr ≡ r'.ref_ptr)
lend-determined pool offset r r' l l' = (l.bytes ∙ sym l'.bytes, l.place ∙ sym l'.place)

pub lend_mut-determined : (pool : MutBor (List ℕ)) (offset : ℕ) (r r' : MutBor (List ℕ)) → LentMut r pool offset → LentMut r' pool offset
    → (r.now ≡ r'.now) × (r.ref_ptr ≡ r'.ref_ptr)
lend_mut-determined pool offset r r' l l' = (l.bytes ∙ sym l'.bytes, l.place ∙ sym l'.place)
