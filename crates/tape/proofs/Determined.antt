-- The statement of `run` determines its outcome: two that it allows are equal, the answer and every lent byte.
use mathlib.Core.Path.{◌≡◌, sym, ap, ◌∙◌}
use mathlib.Core.List.{List}
use Prim.Native.Nat.{ℕ}
use Rattle.tape.specs.Run.{Left, left, leaves, run_of}

pub run-determined : (tape buffer out : List ℕ) (r r' : ℕ) (b b' o o' : List ℕ) → leaves (run_of tape buffer) out ≡ left r b o
    → leaves (run_of tape buffer) out ≡ left r' b' o'
    → (r ≡ r') × (b ≡ b') × (o ≡ o')
run-determined tape buffer out r r' b b' o o' e f =
    let g : left r b o ≡ left r' b' o' = sym e ∙ f in
    (ap (λ (l : Left). l.count) g, ap (λ (l : Left). l.buffer) g, ap (λ (l : Left). l.out) g)
