-- The sheet of the other layout over the bytes of a pool, and its own sheet over that again: which bytes are as they were. Layout 2 has index words where layout 1 has
-- none, and the way back leaves what they said. Layout 1 has no word that layout 2 lacks, so from layout 2 nothing differs.
use mathlib.Core.List.{List}
use mathlib.Core.Logic.{◌≢◌, ◌⊎◌, inl, inr}
use mathlib.Core.Option.{Option, none, some}
use mathlib.Core.Path.{◌∙◌, ◌≡◌, ap, refl, sym}
use Prim.Native.Nat.{◌%◌, ◌*◌, ◌+◌, ◌-◌, ◌/◌, ◌<◌, ◌≤◌, ℕ}
use native.Mathlib.Omega.{arith}
use lib.ListN.{get_or, length, length-set, set}
use lib.Seq.{get_or-set_other, get_or-set_same}
use Rattle.paper.proofs.bins.Bins.{first_count}
use Rattle.paper.proofs.bins.Listed.{loose, start}
use Rattle.paper.proofs.reads.RoundTrip.{holds-governed, write-governed, write-stands}
use Rattle.paper.proofs.reads.Stands.{Stands}
use Rattle.paper.proofs.runs.Walk.{In, in-aligned, in-low}
use Rattle.paper.proofs.sheet.Fields.{at_level, at-word, false-level, false-word, height-le}
use Rattle.paper.proofs.sheet.Written.{holds-through, length-write, write_keeps, write-unique}
use Rattle.paper.specs.Bins.{first}
use Rattle.paper.specs.Blocks.{State, block, blocks, end, free, with_top}
use Rattle.paper.specs.Governed.{height, sheet}
use Rattle.paper.specs.Layout.{blocks_at, false_block, large}
use Rattle.paper.specs.Sheet.{octet, write}
use Rattle.paper.specs.Sound.{WellFormed}
use Rattle.moving.proofs.Relaid.{Relaid, Upper, false-clear, formed, in-false, in-first, past-height, same-elsewhere}
use Rattle.convert.specs.Reserved.{Reserved}
use Rattle.words.proofs.Digits.{set-bytes}
use Rattle.words.specs.Choice.{by<, by=}
use Rattle.words.specs.Words.{Bytes}

-- the bytes of s in an index t high, and those of s again, written over them
abbrev pub there : State → ℕ → List ℕ → List ℕ
there s t bs = write (sheet (with_top t s)) bs

abbrev pub back : State → ℕ → List ℕ → List ℕ
back s t bs = write (sheet s) (there s t bs)

-- no index word stands below +16
pub reserved-within : (s : State) (i : ℕ) (r : Reserved s i) → (r.1 + 16 ≤ i) × (i < r.1 + 64)
reserved-within s i r = (omega (arith, height-le 13 r.0, r.5), r.6)

-- ---- words

-- a is the index word of level j, above level 1, of q, the first block of bin z, which reaches that level in an index t high
record IndexWord (s : State) (t a : ℕ) : Type 0 where
  z : ℕ
  q : ℕ
  P : ℕ
  j : ℕ
  is-in : In (blocks s) blocks_at 1 q (block z free) P
  is-large : large ≤ z
  is-first : first (s.bins z) ≡ q
  upper : 2 ≤ j
  reached : j ≤ height t z
  is_at : a ≡ q + (68 - 4 * j)

module _ (s : State) where
  -- layout 2 governs it
  index-governed : (a : ℕ) → IndexWord s 13 a → (v : ℕ) × (sheet (with_top 13 s) a ≡ some v)
  index-governed a w = (
    _,
    ap (sheet (with_top 13 s)) w.is_at
        ∙ at-word (with_top 13 s) w.q w.z w.P w.is-in w.is-large w.is-first w.j (omega (arith, w.upper)) w.reached (omega arith),
  )

  -- layout 1 does not
  index-ungoverned : s.top ≡ 1 → (a : ℕ) → IndexWord s 13 a → sheet s a ≡ none
  index-ungoverned e a w =
      ap (sheet s) w.is_at
      ∙ past-height s s.top w.q w.z w.P w.is-in w.is-large w.is-first w.j
      (omega (arith, height-le s.top w.z, w.upper)) (omega (arith, height-le 13 w.z, w.reached))

  -- the reserved bytes are those of such words
  word-reserved : (i : ℕ) → IndexWord s 13 (i / 4 * 4) → Reserved s i
  word-reserved i w =
      let j13 : w.j ≤ 13 = omega (arith, height-le 13 w.z, w.reached) in (
        w.z,
        w.q,
        w.is-large,
        w.is-first,
        omega (arith, in-low (blocks s) blocks_at 1 w.q (block w.z free) w.P w.is-in),
        omega (arith, w.is_at, w.reached),
        omega (arith, w.is_at, w.upper),
      )

  module _ (W : WellFormed s) where
    reserved-word : (i : ℕ) → Reserved s i → IndexWord s 13 (i / 4 * 4)
    reserved-word i r =
        let f = (loose s W).found r.0 r.1 (first_count (s.bins r.0) r.1 r.3 r.4) in
        let al = in-aligned (blocks s) blocks_at 1 r.1 (block r.0 free) f.0 W.sized refl f.1 in
        let w = reserved-within s i r in
        record {
          z = r.0;
          q = r.1;
          P = f.0;
          j = 17 - (i - r.1) / 4;
          is-in = f.1;
          is-large = r.2;
          is-first = r.3;
          upper = omega (arith, w.0, w.1);
          reached = omega (arith, height-le 13 r.0, r.5, w.1);
          is_at = omega (arith, al, w.0, w.1);
        }

    reserved-inside : (i : ℕ) → Reserved s i → i < end s
    reserved-inside i r =
        omega (arith, r.2, r.6, start s (loose s W) r.0 r.1 (first_count (s.bins r.0) r.1 r.3 r.4))

    -- the false block's words are governed in either layout
    false-governed : (o : ℕ) → Upper o → (v : ℕ) × (sheet s (false_block + o) ≡ some v)
    false-governed o (inl e) = (s.top, ap (λ (k : ℕ). sheet s (false_block + k)) e ∙ false-level s)
    false-governed o (inr u) =
        by< s.top u.0
        (λ l. (0, ap (λ (k : ℕ). sheet s (false_block + k)) u.3 ∙ false-clear s s.top u.0 l u.2))
        (λ l. (_, ap (λ (k : ℕ). sheet s (false_block + k)) u.3 ∙ false-word s u.0 (omega (arith, u.1)) l (loose s W).top13))

    -- where s governs nothing, an index of another height has index words at most
    beside : (t : ℕ) → 1 ≤ t → t ≤ 13 → (a : ℕ) → a % 4 ≡ 0 → sheet s a ≡ none → (sheet (with_top t s) a ≡ none) ⊎ IndexWord s t a
    beside t t1 t13 a al n = go (same-elsewhere s W.sized t t1 t13 (loose s W).top1 (loose s W).top13 a al)
      where
        governed : (v : ℕ) → sheet s a ≡ some v → ⊥
        governed v e = let z : ◌≡◌ {A = ℕ} 0 1 = cc in omega arith

        go : (sheet (with_top t s) a ≡ sheet s a) ⊎ Relaid s a → (sheet (with_top t s) a ≡ none) ⊎ IndexWord s t a
        go (inl e) = inl (e ∙ n)
        go (inr (in-false o e u)) = let g = false-governed o u in absurd (governed g.0 (ap (sheet s) e ∙ g.1))
        go (inr (in-first q z P o i m f e (inl u))) =
            absurd (governed (height s.top z) (ap (sheet s) (e ∙ ap (λ (k : ℕ). q + k) u) ∙ at_level s q z P i m f))
        go (inr (in-first q z P o i m f e (inr u))) =
            let is : a ≡ q + (68 - 4 * u.0) = e ∙ ap (λ (k : ℕ). q + k) u.3 in
            by< (height t z) u.0
            (λ l. inl (ap (sheet (with_top t s)) is ∙ past-height s t q z P i m f u.0 l u.2))
            (λ l. inr (record {
              z = z;
              q = q;
              P = P;
              j = u.0;
              is-in = i;
              is-large = m;
              is-first = f;
              upper = u.1;
              reached = l;
              is_at = is;
            }))

-- ---- bytes

module _ (s : State) (bs : List ℕ) (S : Stands s bs) where
  -- on the way the pool stands for the same blocks and lists
  pub there-stands : (t : ℕ) → (t ≡ 1) ⊎ (t ≡ 13) → Stands (with_top t s) (there s t bs)
  there-stands t e = write-stands (with_top t s) (formed s S.well_formed t e) S.edge bs S.ends

  there-long : (t : ℕ) → length (there s t bs) ≡ length bs
  there-long t = length-write (sheet (with_top t s)) bs

  -- a byte that s governs is as it was
  pub governed-back : (t i v : ℕ) → i < length bs → sheet s (i / 4 * 4) ≡ some v → get_or (back s t bs) i 0 ≡ get_or bs i 0
  governed-back t i v l e =
      write-governed (sheet s) (there s t bs) i v (omega (arith, there-long t)) e ∙ sym (holds-governed (sheet s) bs i v S.holds l e)

  -- one that it does not is as the way there left it
  ungoverned-back : (t i : ℕ) → i < length bs → sheet s (i / 4 * 4) ≡ none → get_or (back s t bs) i 0 ≡ get_or (there s t bs) i 0
  ungoverned-back t i l n = write_keeps (sheet s) (there s t bs) i (omega (arith, there-long t)) n

  -- through layout 1 and back: nothing differs, for an index 1 high has no words above level 1
  pub through-1 : back s 1 bs ≡ bs
  through-1 =
      sym (write-unique (sheet s) (there s 1 bs) bs (sym (there-long 1)) S.holds
      (λ i l n. let m : i < length bs = omega (arith, there-long 1) in
      sym (keeps i m (beside s S.well_formed 1 (omega arith) (omega arith) (i / 4 * 4) (omega arith) n))))
    where
      keeps : (i : ℕ) → i < length bs → (sheet (with_top 1 s) (i / 4 * 4) ≡ none) ⊎ IndexWord s 1 (i / 4 * 4) → get_or (there s 1 bs) i 0 ≡ get_or bs i 0
      keeps i l (inl n) = write_keeps (sheet (with_top 1 s)) bs i l n
      keeps i l (inr w) = absurd (omega (arith, height-le 1 w.z, w.upper, w.reached))

  -- through layout 2 and back: nothing differs but reserved bytes
  pub through-2 : (i : ℕ) → i < length bs → Reserved s i ⊎ (get_or (back s 13 bs) i 0 ≡ get_or bs i 0)
  through-2 i l = go (sheet s (i / 4 * 4)) refl
    where
      kept : sheet s (i / 4 * 4) ≡ none → (sheet (with_top 13 s) (i / 4 * 4) ≡ none) ⊎ IndexWord s 13 (i / 4 * 4)
          → Reserved s i ⊎ (get_or (back s 13 bs) i 0 ≡ get_or bs i 0)
      kept n (inl m) = inr (ungoverned-back 13 i l n ∙ write_keeps (sheet (with_top 13 s)) bs i l m)
      kept n (inr w) = inl (word-reserved s i w)

      go : (x : Option ℕ) → sheet s (i / 4 * 4) ≡ x → Reserved s i ⊎ (get_or (back s 13 bs) i 0 ≡ get_or bs i 0)
      go none n = kept n (beside s S.well_formed 13 (omega arith) (omega arith) (i / 4 * 4) (omega arith) n)
      go (some v) e = inr (governed-back 13 i v l e)

  module _ (one : s.top ≡ 1) (i : ℕ) (r : Reserved s i) where
    inside : i < length bs
    inside = omega (arith, S.ends, reserved-inside s S.well_formed i r)

    ungoverned : sheet s (i / 4 * 4) ≡ none
    ungoverned = index-ungoverned s one (i / 4 * 4) (reserved-word s S.well_formed i r)

    left-byte : (v : ℕ) → sheet (with_top 13 s) (i / 4 * 4) ≡ some v → get_or (back s 13 bs) i 0 ≡ octet v (i % 4)
    left-byte v e = ungoverned-back 13 i inside ungoverned ∙ write-governed (sheet (with_top 13 s)) bs i v inside e

    -- a reserved byte has the value that layout 2 gave it, which the state fixes
    pub reserved-back : (v : ℕ) × (sheet (with_top 13 s) (i / 4 * 4) ≡ some v) × (get_or (back s 13 bs) i 0 ≡ octet v (i % 4))
    reserved-back =
        let g = index-governed s (i / 4 * 4) (reserved-word s S.well_formed i r) in
        (g.0, g.1, left-byte g.0 g.1)

-- bytes that stand for s as bs do, and are the same but for byte i, which does not come back
pub record Lost (s : State) (bs : List ℕ) (i : ℕ) : Type 0 where
  pub bytes : List ℕ
  pub stands : Stands s bytes
  pub as_long : length bytes ≡ length bs
  pub alike : (k : ℕ) → k ≢ i → get_or bytes k 0 ≡ get_or bs k 0
  pub are-bytes : Bytes bs → Bytes bytes
  pub differs : get_or (back s 13 bytes) i 0 ≢ get_or bytes i 0

-- no reserved byte is spared
pub lost : (s : State) (bs : List ℕ) → Stands s bs → s.top ≡ 1 → (i : ℕ) → Reserved s i → Lost s bs i
lost s bs S one i r = record {
  bytes = other;
  stands = other-stands;
  as_long = length-set bs i x;
  alike = λ k n. get_or-set_other bs i k x 0 n;
  are-bytes = λ h. set-bytes bs i x h (omega arith);
  differs = λ e. apart (octet v (i % 4)) (sym (left-byte s other other-stands one i r v g.1) ∙ e ∙ get_or-set_same bs i x 0 (inside s bs S one i r));
}
  where
    g : (v : ℕ) × (sheet (with_top 13 s) (i / 4 * 4) ≡ some v)
    g = index-governed s (i / 4 * 4) (reserved-word s S.well_formed i r)

    v : ℕ
    v = g.0

    x : ℕ
    x = (octet v (i % 4) + 1) % 256

    apart : (w : ℕ) → w ≡ (w + 1) % 256 → ⊥
    apart w e = omega arith

    other : List ℕ
    other = set bs i x

    other-stands : Stands s other
    other-stands = record {
      well_formed = S.well_formed;
      edge = S.edge;
      ends = S.ends ∙ sym (length-set bs i x);
      holds = holds-through (sheet s) bs other (length-set bs i x) S.holds
          (λ k l. by= k i (λ e. inl (ap (λ (h : ℕ). sheet s (h / 4 * 4)) e ∙ ungoverned s bs S one i r)) (λ n. inr (get_or-set_other bs i k x 0 n)));
    }
