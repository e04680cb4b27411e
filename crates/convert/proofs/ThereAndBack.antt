-- "There and back gives the same governed bytes; only reserved words of a bin's first block may differ" (request 2026-05), over the public call. From layout 2
-- the very same bytes come back. From layout 1 the reserved bytes come back with what layout 2 wrote there, and every other byte as it was; and no
-- reserved byte is spared: there is a pool with the same blocks and lists of which it does not come back.
use mathlib.Core.List.{List}
use mathlib.Core.Logic.{◌≢◌, ◌⊎◌, inl, inr}
use mathlib.Core.Option.{some}
use mathlib.Core.Path.{◌≡◌, refl, sym, ap, ◌∙◌}
use Prim.Native.Nat.{ℕ, ◌<◌, ◌%◌, ◌*◌, ◌/◌}
use native.Mathlib.Omega.{arith}
use lib.ListN.{get_or, length}
use Rattle.words.specs.Choice.{if=, if=-no, if=-yes}
use Rattle.words.specs.Words.{Bytes}
use Rattle.paper.proofs.reads.Standing.{sound-stands, stands-sound}
use Rattle.paper.proofs.reads.Stands.{Stands}
use Rattle.paper.proofs.sheet.Written.{length-write}
use Rattle.paper.proofs.sheet.WrittenBytes.{write_bytes}
use Rattle.paper.specs.Blocks.{State, with_top}
use Rattle.paper.specs.Calls.{Reading}
use Rattle.paper.specs.Fresh.{layout_top}
use Rattle.paper.specs.Governed.{sheet}
use Rattle.paper.specs.Sheet.{octet, write}
use Rattle.paper.specs.Sound.{Sound}
use Rattle.pool.proofs.Holding.{read_is}
use Rattle.convert.specs.Converting.{convert, convert_call, moves, other}
use Rattle.convert.specs.Reserved.{Reserved}
use Rattle.convert.proofs.BothWays.{back, governed-back, lost, reserved-back, there, there-stands, through-1, through-2}
use Rattle.std.specs.declared.result.Result.TheVariants.{Ok}
use Rattle.paper.specs.Answers.{out, Out}

-- a pool of the layout that is named is moved
module _ (bs : List ℕ) (bytes : Bytes bs) (s : State) (S : Stands s bs) (old : ℕ) where
  moved_by : layout_top old ≢ 0 → s.top ≡ layout_top old → convert bs old ≡ moves s bs old
  unfolding convert
  moved_by n e =
      ap (λ (x : Reading). convert_call x bs old) (read_is bs bytes s (stands-sound s bs S))
      ∙ if=-no (layout_top old) 0 _ _ n ∙ if=-yes s.top (layout_top old) _ _ e

-- there, and back again
abbrev pub returned : List ℕ → ℕ → List ℕ
returned bs old = (convert (convert bs old).after (other old)).after

-- both moves are done, and every byte is known
pub record Both (bs : List ℕ) (s : State) (old t : ℕ) : Type 0 where
  pub there-done : convert bs old ≡ out (Ok (length bs)) (there s t bs)
  pub back_done : convert (convert bs old).after (other old) ≡ out (Ok (length bs)) (back s t bs)

module _ (bs : List ℕ) (bytes : Bytes bs) (S : Sound bs) where
  abbrev s : State
  s = S.state

  stands : Stands s bs
  stands = sound-stands bs S

  both : (old t : ℕ) → layout_top old ≢ 0 → s.top ≡ layout_top old → layout_top (other old) ≡ t → (t ≡ 1) ⊎ (t ≡ 13) → layout_top (other (other old)) ≡ s.top
      → Both bs s old t
  both old t n named to either home =
      record { there-done = went; back_done = ap (λ (o : Out). convert o.after (other old)) went ∙ came }
    where
      went : convert bs old ≡ out (Ok (length bs)) (there s t bs)
      went = moved_by bs bytes s stands old n named ∙ ap (λ (k : ℕ). out (Ok (length bs)) (there s k bs)) to

      came : convert (there s t bs) (other old) ≡ out (Ok (length bs)) (back s t bs)
      came =
          moved_by (there s t bs) (write_bytes _ bs bytes) (with_top t s) (there-stands s bs stands t either) (other old) (not_none either) (sym to)
          ∙ (λ i. out (Ok (length-write (sheet (with_top t s)) bs i)) (write (sheet (with_top (home i) s)) (there s t bs)))
        where
          not_none : (t ≡ 1) ⊎ (t ≡ 13) → layout_top (other old) ≢ 0
          not_none (inl e) = λ z. omega (arith, to)
          not_none (inr e) = λ z. omega (arith, to)

  -- ---- from layout 2: every byte comes back
  pub from-2 : s.top ≡ 13 → ((convert bs 2).answer ≡ Ok (length bs)) × (convert (convert bs 2).after 1 ≡ out (Ok (length bs)) bs)
  unfolding layout_top other if=
  from-2 e =
      let b = both 2 1 (omega arith) e refl (inl refl) (sym e) in
      (ap (λ (o : Out). o.answer) b.there-done, b.back_done ∙ ap (out (Ok (length bs))) (through-1 s bs stands))

  -- ---- from layout 1
  module _ (one : s.top ≡ 1) where
    both-1 : Both bs s 1 13
    unfolding layout_top other if=
    both-1 = both 1 13 (omega arith) one refl (inr refl) (sym one)

    returned-is : returned bs 1 ≡ back s 13 bs
    returned-is = ap (λ (o : Out). o.after) both-1.back_done

    pub from-1 : ((convert bs 1).answer ≡ Ok (length bs)) × ((convert (convert bs 1).after 2).answer ≡ Ok (length bs))
    unfolding other if=
    from-1 = (ap (λ (o : Out). o.answer) both-1.there-done, ap (λ (o : Out). o.answer) both-1.back_done)

    -- a byte is reserved, or comes back
    pub all-others-back : (i : ℕ) → i < length bs → Reserved s i ⊎ (get_or (returned bs 1) i 0 ≡ get_or bs i 0)
    all-others-back i l = go (through-2 s bs stands i l)
      where
        go : Reserved s i ⊎ (get_or (back s 13 bs) i 0 ≡ get_or bs i 0) → Reserved s i ⊎ (get_or (returned bs 1) i 0 ≡ get_or bs i 0)
        go (inl r) = inl r
        go (inr e) = inr (ap (λ (l : List ℕ). get_or l i 0) returned-is ∙ e)

    -- governed bytes come back
    pub all-governed-back : (i v : ℕ) → i < length bs → sheet s (i / 4 * 4) ≡ some v → get_or (returned bs 1) i 0 ≡ get_or bs i 0
    all-governed-back i v l e = ap (λ (l : List ℕ). get_or l i 0) returned-is ∙ governed-back s bs stands 13 i v l e

    -- a reserved byte is the one that layout 2 wrote there
    pub reserved-as-written : (i : ℕ) → Reserved s i
        → (v : ℕ) × (sheet (with_top 13 s) (i / 4 * 4) ≡ some v) × (get_or (returned bs 1) i 0 ≡ octet v (i % 4))
    reserved-as-written i r =
        let b = reserved-back s bs stands one i r in
        (b.0, b.1, ap (λ (l : List ℕ). get_or l i 0) returned-is ∙ b.2)

-- ---- no reserved byte is spared
-- a sound pool with the same blocks and lists, and the same bytes but for byte i, which does not come back
pub record NotBack (bs : List ℕ) (S : Sound bs) (i : ℕ) : Type 0 where
  pub pool : List ℕ
  pub are-bytes : Bytes pool
  pub is_sound : Sound pool
  pub same-state : is_sound.state ≡ S.state
  pub as_long : length pool ≡ length bs
  pub alike : (k : ℕ) → k ≢ i → get_or pool k 0 ≡ get_or bs k 0
  pub differs : get_or (returned pool 1) i 0 ≢ get_or pool i 0

pub no-reserved-spared : (bs : List ℕ) → Bytes bs → (S : Sound bs) → S.state.top ≡ 1 → (i : ℕ) → Reserved S.state i → NotBack bs S i
no-reserved-spared bs bytes S one i r =
    let l = lost S.state bs (sound-stands bs S) one i r in
    let T = stands-sound S.state l.bytes l.stands in
    record {
      pool = l.bytes;
      are-bytes = l.are-bytes bytes;
      is_sound = T.0;
      same-state = T.1;
      as_long = l.as_long;
      alike = l.alike;
      differs = λ e. l.differs (sym (came-back l.bytes (l.are-bytes bytes) l.stands) ∙ e);
    }
  where
    came-back : (p : List ℕ) → Bytes p → (P : Stands S.state p) → get_or (returned p 1) i 0 ≡ get_or (back S.state 13 p) i 0
    came-back p h P =
        let T = stands-sound S.state p P in
        ap (λ (k : List ℕ). get_or k i 0) (returned-is p h T.0 (ap (λ (u : State). u.top) T.1 ∙ one) ∙ ap (λ (u : State). back u 13 p) T.1)
