-- The statement of the call determines its outcome: two outcomes that it allows are equal, the answer and every byte.
use mathlib.Core.List.{List}
use mathlib.Core.Path.{◌≡◌, ap, sym, ◌∙◌}
use Prim.Native.Nat.{ℕ}
use Rattle.convert.specs.Converting.{convert}
use Rattle.paper.specs.Answers.{Answer, out, Out}

pub convert-determined : (bs : List ℕ) (old : ℕ) (r r' : Answer) (a a' : List ℕ) → convert bs old ≡ out r a → convert bs old ≡ out r' a'
    → (r ≡ r') × (a ≡ a')
convert-determined bs old r r' a a' e f =
    let g : out r a ≡ out r' a' = sym e ∙ f in (ap (λ (x : Out). x.answer) g, ap (λ (x : Out). x.after) g)
