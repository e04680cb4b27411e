-- "P is 1 unless the block next below is a free large block", along a run of blocks: past a low run, and past a high one, P is 1.
use mathlib.Core.List.{List, [], ◌++◌, ◌∷◌}
use mathlib.Core.Path.{◌∙◌, ◌≡◌, ap, refl}
use Prim.Native.Nat.{ℕ}
use native.Mathlib.Omega.{arith}
use Rattle.paper.proofs.runs.Walk.{flag_past}
use Rattle.paper.specs.Blocks.{Block, block, free, held, remainder}
use Rattle.paper.specs.Governed.{flag_above}
use Rattle.paper.specs.Sound.{High, Low}
use Rattle.words.specs.Choice.{if<-yes}

pub flag-append : (P : ℕ) (us vs : List Block) → flag_past P (us ++ vs) ≡ flag_past (flag_past P us) vs
flag-append P [] vs = refl
flag-append P (b ∷ us) vs = flag-append (flag_above b) us vs

-- the last of a low run is held
pub low-flag : (us : List Block) → Low us → flag_past 1 us ≡ 1
low-flag [] h = refl
low-flag (block z held ∷ us) h = low-flag us h.1
low-flag (block z remainder ∷ us) h = absurd h
low-flag (block z free ∷ []) h = absurd h
low-flag (block z free ∷ block y held ∷ us) h = low-flag us h.2
low-flag (block z free ∷ block y free ∷ us) h = absurd h
low-flag (block z free ∷ block y remainder ∷ us) h = absurd h

-- small blocks never clear it
pub high-flag : (us : List Block) → High us → flag_past 1 us ≡ 1
high-flag [] h = refl
high-flag (block z held ∷ us) h = high-flag us h.1
high-flag (block z free ∷ us) h = ap (λ (k : ℕ). flag_past k us) (if<-yes z 72 1 0 (omega (arith, h.0))) ∙ high-flag us h.1
high-flag (block z remainder ∷ us) h = absurd h
