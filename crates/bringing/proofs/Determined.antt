-- The statement of the call determines its outcome: two outcomes that it allows are equal, the answer and every byte.
use mathlib.Core.List.{List}
use mathlib.Core.Path.{◌≡◌, ap, sym, ◌∙◌}
use Prim.Native.Nat.{ℕ}
use Rattle.bringing.specs.BringingIn.{bring_in}
use Rattle.paper.specs.Answers.{Answer, out, Out}

pub bring-in-determined : (bs : List ℕ) (r r' : Answer) (a a' : List ℕ) → bring_in bs ≡ out r a → bring_in bs ≡ out r' a' → (r ≡ r') × (a ≡ a')
bring-in-determined bs r r' a a' e f =
    let g : out r a ≡ out r' a' = sym e ∙ f in (ap (λ (x : Out). x.answer) g, ap (λ (x : Out). x.after) g)
