-- What a caller of a run needs: its lines are bytes of `out`.
use mathlib.Core.Path.{◌≡◌, ap}
use mathlib.Core.List.{List, ◌++◌}
use Prim.Native.Nat.{ℕ, ◌≤◌}
use native.Mathlib.Omega.{arith}
use lib.ListN.{length, drop, length-append}
use Rattle.tape.specs.Run.{Run, Left, left, leaves}

pub count-within : (r : Run) (before : List ℕ) {count : ℕ} {buffer out : List ℕ} → leaves r before ≡ left count buffer out → count ≤ length out
unfolding leaves
count-within r before {count} {buffer} {out} e =
    let c : length r.text ≡ count = ap (λ (l : Left). l.count) e in
    let o : r.text ++ drop (length r.text) before ≡ out = ap (λ (l : Left). l.out) e in
    omega (arith, simp length-append at (ap length o))
