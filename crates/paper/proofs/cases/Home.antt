-- Going home, by computing the definition: of four small blocks from E on the first two are free and go, the third is held, and the fourth stays,
-- though it is free. Its list loses one that went and keeps the other.
use mathlib.Core.List.{List, [], ◌∷◌}
use mathlib.Core.Path.{◌≡◌, refl}
use Prim.Native.Nat.{ℕ}
use Rattle.words.specs.Choice.{if=}
use Rattle.paper.specs.Bins.{leave, rebin}
use Rattle.paper.specs.Blocks.{State, block, free, held}
use Rattle.paper.specs.GoingHome.{free_first, go_home, one_home}
use Rattle.paper.specs.Granting.{E}

-- E is 184
abbrev before : State
before =
    record {
      top = 1;
      low = [];
      rest = 16;
      high = block 16 free ∷ block 8 free ∷ block 24 held ∷ block 8 free ∷ [];
      bins = λ z. if= z 8 (232 ∷ 200 ∷ []) (if= z 16 (184 ∷ []) []);
    }

pub two-go : free_first before.high ≡ 2
two-go = refl

pub edge-after : E (go_home before) ≡ 208
unfolding go_home one_home
edge-after = refl

pub blocks-after : (go_home before).high ≡ block 24 held ∷ block 8 free ∷ []
unfolding go_home one_home
blocks-after = refl

pub lists-after : ◌≡◌ {A = List (List ℕ)} ((go_home before).bins 8 ∷ (go_home before).bins 16 ∷ []) ((232 ∷ []) ∷ [] ∷ [])
unfolding go_home one_home rebin leave if=
lists-after = refl
