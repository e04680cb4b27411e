-- Writes inside held payloads keep a sound pool sound, with the same blocks and lists: a held block governs its head word only, so at a
-- byte of its payload the sheet has nothing.
use mathlib.Core.List.{List}
use mathlib.Core.Logic.{◌≢◌, ◌⊎◌, inl, inr}
use mathlib.Core.Option.{Option, none, some}
use mathlib.Core.Path.{◌∙◌, ◌≡◌, ap, refl, sym}
use Prim.Native.Nat.{◌*◌, ◌+◌, ◌-◌, ◌/◌, ◌<◌, ◌≤◌, ℕ}
use native.Mathlib.Omega.{arith}
use lib.ListN.{drop, get_or, length, take as firsts}
use Rattle.paper.proofs.keeps.BackKeeps.{held-sized}
use Rattle.paper.proofs.sheet.Fields.{at_block}
use Rattle.paper.proofs.runs.HeldPlaces.{held-at-lies, held_place, held_at}
use Rattle.paper.proofs.runs.HeldWalk.{held_in, held-within}
use Rattle.paper.proofs.reads.Standing.{sound-stands, stands-sound}
use Rattle.paper.proofs.reads.Stands.{Stands, StandsBy}
use Rattle.paper.proofs.runs.Places.{in-apart}
use Rattle.paper.proofs.runs.Walk.{In, in-aligned, in-high}
use Rattle.words.proofs.Parts.{part_same, replaced-below, replaced-length, replaced-past}
use Rattle.words.specs.Parts.{replaced_part}
use Rattle.paper.proofs.sheet.Within.{governed-is-some}
use Rattle.paper.proofs.sheet.Written.{holds-through, length-write, write_keeps}
use Rattle.paper.specs.Blocks.{State, block, blocks, end, held}
use Rattle.paper.specs.Governed.{sheet}
use Rattle.paper.specs.Layout.{blocks_at}
use Rattle.paper.specs.Sheet.{write}
use Rattle.paper.specs.Sound.{Sized, Sound, WellFormed}
use Rattle.words.specs.Choice.{by<, if=-no}

-- byte i is in the payload of the held block of size z at q
pub record InPayload (s : State) (i : ℕ) : Type 0 where
  pub start : ℕ
  pub size : ℕ
  pub flag : ℕ
  pub at : In (blocks s) blocks_at 1 start (block size held) flag
  pub past_head : start + 4 ≤ i
  pub before-end : i < start + size

pub payload-ungoverned : (s : State) → Sized (blocks s) → (i : ℕ) → InPayload s i → sheet s (i / 4 * 4) ≡ none
payload-ungoverned s S i p =
    let a = in-aligned (blocks s) blocks_at 1 p.start (block p.size held) p.flag S refl p.at in
    let e : i / 4 * 4 ≡ p.start + (i / 4 * 4 - p.start) = omega (arith, p.past_head, a) in
    ap (sheet s) e
    ∙ at_block s p.start (block p.size held) p.flag (i / 4 * 4 - p.start) p.at (omega (arith, p.before-end, p.past_head, a))
    ∙ if=-no (i / 4 * 4 - p.start) 0 _ _ (omega (arith, p.past_head, a))

-- the two buffers agree at every byte outside the held payloads
abbrev pub SameOutside : State → List ℕ → List ℕ → Type 0
SameOutside s bs bs' = (i : ℕ) → i < length bs → (InPayload s i → ⊥) → get_or bs' i 0 ≡ get_or bs i 0

pub stands-same-outside : {Rule : State → Type 0} (s : State) (bs bs' : List ℕ) → StandsBy Rule s bs → length bs' ≡ length bs → SameOutside s bs bs' → StandsBy Rule s bs'
stands-same-outside s bs bs' S l k =
    record {
      well_formed = S.well_formed;
      edge = S.edge;
      ends = S.ends ∙ sym l;
      holds = holds-through (sheet s) bs bs' l S.holds (λ i b. at i b (sheet s (i / 4 * 4)) refl);
    }
  where
    at : (i : ℕ) → i < length bs → (o : Option ℕ) → sheet s (i / 4 * 4) ≡ o → (sheet s (i / 4 * 4) ≡ none) ⊎ (get_or bs' i 0 ≡ get_or bs i 0)
    at i b none e = inl e
    at i b (some v) e = inr (k i b (λ p. governed-is-some v (sym e ∙ payload-ungoverned s S.well_formed.sized i p)))

-- a part in one held payload is replaced by another, as long
pub stands-part-replaced : (s : State) (bs : List ℕ) → Stands s bs → (q z P : ℕ) → In (blocks s) blocks_at 1 q (block z held) P
    → (a : ℕ) (part : List ℕ) → q + 4 ≤ a → a + length part ≤ q + z
    → Stands s (replaced_part bs a part)
stands-part-replaced s bs S q z P h a part l m =
    let n : a + length part ≤ length bs = omega (arith, S.ends, in-high (blocks s) blocks_at 1 q (block z held) P h) in
    stands-same-outside s bs (replaced_part bs a part) S (replaced-length bs a part n)
    (λ i b p. by< i a (λ c. replaced-below bs a part n i c)
    (λ c. by< i (a + length part)
    (λ d. absurd (p (record { start = q; size = z; flag = P; at = h; past_head = omega arith; before-end = omega arith })))
    (λ d. replaced-past bs a part n i d)))

-- ---- the payload of an offset, which is lent

pub stands-payload-replaced : (s : State) (bs : List ℕ) → Stands s bs → (offset : ℕ) → 1 ≤ held_at s offset
    → (a : ℕ) (part : List ℕ) → offset ≤ a → a + length part ≤ offset + (held_at s offset - 4) → Stands s (replaced_part bs a part)
stands-payload-replaced s bs S offset l a part b e =
    let h = held_in s (offset - 4) (held_at s offset) (held-at-lies s S.well_formed offset l) in
    let o = (held_place s offset l).0 in
    stands-part-replaced s bs S (offset - 4) (held_at s offset) h.0 h.1 a part (omega arith)
    (omega (arith, held-sized s S.well_formed offset l))

-- the payloads of two offsets have no byte in common
pub payloads-apart : (s : State) → WellFormed s → (offset other : ℕ) → 1 ≤ held_at s offset → 1 ≤ held_at s other → offset ≢ other
    → (offset + (held_at s offset - 4) ≤ other) ⊎ (other + (held_at s other - 4) ≤ offset)
payloads-apart s W offset other l m n =
    let h = held_in s (offset - 4) (held_at s offset) (held-at-lies s W offset l) in
    let k = held_in s (other - 4) (held_at s other) (held-at-lies s W other m) in
    go (in-apart (blocks s) blocks_at 1 (offset - 4) (block (held_at s offset) held) h.0 (other - 4) (block (held_at s other) held) k.0 h.1 k.1)
  where
    go : ((offset - 4 ≡ other - 4) × (block (held_at s offset) held ≡ block (held_at s other) held))
        ⊎ (offset - 4 + held_at s offset ≤ other - 4)
        ⊎ (other - 4 + held_at s other ≤ offset - 4)
        → (offset + (held_at s offset - 4) ≤ other) ⊎ (other + (held_at s other - 4) ≤ offset)
    go (inl e) = absurd (n (omega (arith, e.0, (held_place s offset l).0, (held_place s other m).0)))
    go (inr (inl e)) = inl (omega (arith, (held_place s offset l).0, (held_place s other m).0))
    go (inr (inr e)) = inr (omega (arith, (held_place s offset l).0, (held_place s other m).0))

-- byte i of the payload at an offset
pub held-in-payload : (s : State) → WellFormed s → (offset : ℕ) → 1 ≤ held_at s offset → (i : ℕ) → i < held_at s offset - 4 → InPayload s (offset + i)
held-in-payload s W offset l i b =
    let h = held_in s (offset - 4) (held_at s offset) (held-at-lies s W offset l) in
    let o = (held_place s offset l).0 in
    record { start = offset - 4; size = held_at s offset; flag = h.0; at = h.1; past_head = omega arith; before-end = omega arith }

-- what a state writes over some bytes leaves the payloads of its held blocks as they are
pub written-payload : (s : State) → WellFormed s → (bs : List ℕ) → end s ≡ length bs → (offset : ℕ) → 1 ≤ held_at s offset
    → firsts (held_at s offset - 4) (drop offset (write (sheet s) bs)) ≡ firsts (held_at s offset - 4) (drop offset bs)
written-payload s W bs e offset l =
    let m = held-within s W offset (omega arith) in
    part_same offset (held_at s offset - 4) bs (write (sheet s) bs) (length-write (sheet s) bs) (omega (arith, m.ends))
    (λ i b. write_keeps (sheet s) bs (offset + i) (omega (arith, m.ends))
    (payload-ungoverned s W.sized (offset + i) (held-in-payload s W offset l i b)))

-- ---- of a sound pool

pub sound-same-outside : (bs bs' : List ℕ) (S : Sound bs) → length bs' ≡ length bs → SameOutside S.state bs bs'
    → (S' : Sound bs') × (S'.state ≡ S.state)
sound-same-outside bs bs' S l k =
    stands-sound S.state bs' (stands-same-outside S.state bs bs' (sound-stands bs S) l k)
