-- What a pool is that was brought in: its state is the old one with the free run at E gone home, and nothing else moved. It is accepted and honest,
-- every held payload is where it was, and to bring it in again changes nothing.
use mathlib.Core.List.{List, [], ◌++◌, ◌∷◌}
use mathlib.Core.Logic.{◌⊎◌}
use mathlib.Core.Path.{◌≡◌, refl, sym, ap, ◌∙◌, subst}
use Prim.Native.Nat.{ℕ, ◌+◌, ◌-◌, ◌≤◌, ◌<◌}
use native.Mathlib.Omega.{arith}
use lib.ListN.{drop, get_or, length, take as firsts}
use Rattle.words.specs.Words.{Bytes}
use Rattle.inspect.proofs.Decide.{less}
use Rattle.paper.proofs.home.Below.{large-not-below, not_below, small-not-below}
use Rattle.paper.proofs.home.GoneHome.{AllFree, free-run-free, free-run-splits, free_run, go_home-edge, go_home-edged, go_home-same, go_home-shaped}
use Rattle.paper.proofs.home.HomeHeld.{go_home-held_at}
use Rattle.paper.proofs.honest.Accepted.{sound-level}
use Rattle.paper.proofs.keeps.Kept.{end-runs, sized-rest}
use Rattle.paper.proofs.reads.PayloadWrites.{written-payload}
use Rattle.paper.proofs.reads.Readings.{top-reads}
use Rattle.paper.proofs.reads.RoundTrip.{write-stands}
use Rattle.paper.proofs.reads.Standing.{sound-same, stands-sound}
use Rattle.paper.proofs.reads.Stands.{Stands}
use Rattle.paper.proofs.runs.HeldPlaces.{held_at}
use Rattle.paper.proofs.sheet.Written.{length-write, write_keeps}
use Rattle.paper.proofs.sheet.WrittenBytes.{write_bytes}
use Rattle.paper.specs.Blocks.{Block, State, block, free, held, remainder, total}
use Rattle.paper.specs.Calls.{Reading, ReadsBy, broken, misfit, sound}
use Rattle.paper.specs.Fresh.{layout_top}
use Rattle.paper.specs.GoingHome.{free_first, go_home}
use Rattle.paper.specs.Governed.{sheet}
use Rattle.paper.specs.Granting.{E}
use Rattle.paper.specs.Honest.{Honest}
use Rattle.paper.specs.Layout.{large}
use Rattle.paper.specs.Sheet.{Holds, write}
use Rattle.paper.specs.Sound.{HeldFirst, OldEdge, OldSound, Sound, WellFormed, level_word}
use Rattle.pool.proofs.Demand3.{accepted-is-honest, accepted-sound-pools}
use Rattle.pool.proofs.Holding.{Held, by-held, payload_of}
use Rattle.pool.specs.Calls.{inspect}
use Rattle.reading.proofs.Readings.{old-reads}
use Rattle.reading.specs.Read.{old_read}
use Rattle.bringing.specs.BringingIn.{bring_in}
use Rattle.bringing.proofs.GoneBytes.{inside-remainder}
use Rattle.bringing.proofs.Outcomes.{run-counted}
use Rattle.bringing.proofs.Refused.{brought-in-else, refused-1, refused-2}
use Rattle.std.specs.declared.result.Result.TheVariants.{Ok}
use Rattle.paper.specs.Answers.{out, Out}

-- ---- the state

-- t is s without the free run at E, which joined the remainder; nothing else moved
pub record Without (run : List Block) (s t : State) : Type 0 where
  pub are-free : AllFree run
  pub others-stay : s.high ≡ run ++ t.high
  pub remainder-grows : t.rest ≡ s.rest + total run
  pub same_low : t.low ≡ s.low
  pub same_layout : t.top ≡ s.top
  -- a small bin has those that are not below the new E, in their order; a large bin has all
  pub small_bins : (z : ℕ) → z < large → t.bins z ≡ not_below (E t) (s.bins z)
  pub large-bins : (z : ℕ) → large ≤ z → t.bins z ≡ s.bins z

pub gone-home : (s : State) → WellFormed s → Without (free_run s.high) s (go_home s)
gone-home s W =
    subst (Without (free_run s.high) s) (sym (go_home-edged s W))
    (record {
      are-free = free-run-free s.high;
      others-stay = free-run-splits s.high;
      remainder-grows = refl;
      same_low = refl;
      same_layout = refl;
      small_bins = λ z m. small-not-below (E s + total (free_run s.high)) s.bins z m
          ∙ ap (λ (e : ℕ). not_below e (s.bins z)) (ends (total s.low) s.rest (total (free_run s.high)));
      large-bins = λ z m. large-not-below (E s + total (free_run s.high)) s.bins z m;
    })
  where
    ends : (a b c : ℕ) → 168 + a + b + c ≡ 168 + a + (b + c)
    ends a b c = omega arith

-- ---- the pool

module _ (bs : List ℕ) (bytes : Bytes bs) (S : OldSound bs) where
  abbrev s : State
  s = S.state

  abbrev after : List ℕ
  after = (bring_in bs).after

  done : bring_in bs ≡ out (Ok (free_first s.high)) (write (sheet (go_home s)) bs)
  done = brought-in-else bs bytes S

  -- it answers how many blocks went home
  pub answers-blocks : (bring_in bs).answer ≡ Ok (length (free_run s.high))
  answers-blocks = ap (λ (o : Out). o.answer) done ∙ ap Ok (sym (run-counted s.high))

  pub after_is : after ≡ write (sheet (go_home s)) bs
  after_is = ap (λ (o : Out). o.after) done

  pub as_long : length after ≡ length bs
  as_long = ap length after_is ∙ length-write _ bs

  after-bytes : Bytes after
  after-bytes = subst Bytes (sym after_is) (write_bytes _ bs bytes)

  formed : WellFormed (go_home s)
  formed = (go_home-shaped s S.well_formed).well_formed

  after-stands : Stands (go_home s) after
  after-stands =
      subst (Stands (go_home s)) (sym after_is)
      (write-stands (go_home s) formed (go_home-edge s S.well_formed) bs ((go_home-shaped s S.well_formed).ends ∙ S.ends))

  pub brought-in-sound : Sound after
  brought-in-sound = (stands-sound (go_home s) after after-stands).0

  -- its state, however it is read, is the old one with the free run at E gone home
  pub brought-in-state : (T : Sound after) → T.state ≡ go_home s
  brought-in-state T = sound-same (go_home s) after after-stands T

  pub brought-in-accepted : inspect after ≡ Ok (length after)
  brought-in-accepted = accepted-sound-pools after after-bytes brought-in-sound

  pub same-level : level_word after ≡ level_word bs
  same-level =
      sound-level after brought-in-sound ∙ ap (λ (t : State). t.top) (brought-in-state brought-in-sound)
      ∙ (go_home-shaped s S.well_formed).same-top ∙ sym (top-reads bs s S.well_formed (sym S.ends) S.holds)

  pub brought-in-honest : (layout : ℕ) → (layout ≡ 1) ⊎ (layout ≡ 2) → level_word bs ≡ layout_top layout → Honest layout after
  brought-in-honest layout named e = accepted-is-honest after after-bytes layout named brought-in-accepted (same-level ∙ e)

  -- every held payload is held still, at its offset, with its length and its bytes; and no other is
  pub keeps-held : (offset : ℕ) → 1 ≤ held_at s offset → Held after offset (payload_of s bs offset)
  keeps-held offset one =
      subst (Held after offset)
      (ap (λ (l : List ℕ). payload_of (go_home s) l offset) after_is
      ∙ written-payload (go_home s) formed bs ((go_home-shaped s S.well_formed).ends ∙ S.ends) offset one'
      ∙ ap (λ (k : ℕ). firsts (k - 4) (drop offset bs)) (go_home-held_at s S.well_formed offset))
      (by-held after offset after-bytes (go_home s) (stands-sound (go_home s) after after-stands) one')
    where
      one' : 1 ≤ held_at (go_home s) offset
      one' = omega (arith, go_home-held_at s S.well_formed offset)

  pub holds-no-other : (offset : ℕ) → held_at (go_home s) offset ≡ held_at s offset
  holds-no-other = go_home-held_at s S.well_formed

  -- what went home keeps its bytes
  pub gone-bytes-stay : (i : ℕ) → E s ≤ i → i < E (go_home s) → get_or after i 0 ≡ get_or bs i 0
  gone-bytes-stay i l m =
      ap (λ (b : List ℕ). get_or b i 0) after_is
      ∙ write_keeps (sheet (go_home s)) bs i
      (omega (arith, end-runs (go_home s), (go_home-shaped s S.well_formed).ends, S.ends))
      (inside-remainder (go_home s) formed i
      (omega (arith, ap total (gone-home s S.well_formed).same_low, sized-rest s S.well_formed)) m)

-- ---- where nothing is to be done

none_first : (xs : List Block) → HeldFirst xs → free_first xs ≡ 0
none_first [] h = refl
none_first (block z held ∷ xs) h = refl
none_first (block z free ∷ xs) h = absurd h
none_first (block z remainder ∷ xs) h = absurd h

-- a pool that is sound by the rule in force
pub already-in : (bs : List ℕ) → Bytes bs → Sound bs → bring_in bs ≡ out (Ok 0) bs
unfolding Holds
already-in bs bytes S =
    brought-in-else bs bytes (less bs S)
    ∙ ap (λ (k : ℕ). out (Ok k) (write (sheet (go_home S.state)) bs)) (none_first S.state.high S.edge)
    ∙ ap (out (Ok 0)) (ap (λ (t : State). write (sheet t) bs) (go_home-same S.state S.edge) ∙ S.holds)

-- brought in twice is brought in once
pub again : (bs : List ℕ) → Bytes bs → OldSound bs → bring_in (bring_in bs).after ≡ out (Ok 0) (bring_in bs).after
again bs bytes S = already-in (bring_in bs).after (after-bytes bs bytes S) (brought-in-sound bs bytes S)

-- refused or not
pub twice-is-once : (bs : List ℕ) → Bytes bs → (bring_in (bring_in bs).after).after ≡ (bring_in bs).after
twice-is-once bs bytes = go (old_read bs) (old-reads bs bytes)
  where
    unchanged : (bring_in bs).after ≡ bs → (bring_in (bring_in bs).after).after ≡ (bring_in bs).after
    unchanged e = ap (λ (l : List ℕ). (bring_in l).after) e

    go : (x : Reading) → ReadsBy OldEdge bs x → (bring_in (bring_in bs).after).after ≡ (bring_in bs).after
    go misfit k = unchanged (ap (λ (o : Out). o.after) (refused-1 bs bytes k))
    go broken k = unchanged (ap (λ (o : Out). o.after) (refused-2 bs bytes k.0 k.1))
    go (sound t) k = ap (λ (o : Out). o.after) (again bs bytes k.0)
