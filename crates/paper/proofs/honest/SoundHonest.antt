-- Every sound pool came about honestly, byte for byte: one call after the other is undone, by the weight of the state, down to one that
-- laying out gives. A state before governs no other words; so over a pool with its words, the call puts back every byte that differs.
use mathlib.Core.List.{List, [], ◌++◌, ◌∷◌}
use mathlib.Core.Logic.{◌⊎◌, inl, inr}
use mathlib.Core.Path.{◌∙◌, ◌≡◌, ap, refl, subst, sym}
use Prim.Native.Nat.{◌*◌, ◌-◌, ◌/◌, ◌<◌, ◌^◌, suc, zero, ℕ}
use native.Mathlib.Omega.{arith}
use Rattle.paper.proofs.honest.HonestSound.{laid-out-writes}
use Rattle.paper.proofs.keeps.Kept.{end-runs}
use Rattle.paper.proofs.reads.RoundTrip.{write-stands}
use Rattle.paper.proofs.reads.Standing.{sound-stands, stands-allowed, stands-sound}
use Rattle.paper.proofs.reads.Stands.{Stands}
use Rattle.paper.proofs.honest.Undoing.{Bare, undo}
use Rattle.paper.proofs.honest.Undone.{Undone, state_after, weight}
use Rattle.paper.proofs.sheet.Written.{length-write, write_keeps, write-unique}
use Rattle.paper.proofs.sheet.WrittenBytes.{write_bytes}
use Rattle.paper.specs.Blocks.{State, end, total}
use Rattle.paper.specs.Calls.{Reading, Reads, lay_out_call, sound}
use Rattle.paper.specs.Fresh.{fresh, layout_top}
use Rattle.paper.specs.Governed.{sheet}
use Rattle.paper.specs.Honest.{Call, Ends, Honest, gives, number_of, outcome, takes}
use Rattle.paper.specs.Sheet.{Holds, write}
use Rattle.paper.specs.Sound.{SoundTo}
use Rattle.words.specs.Words.{Bytes}

-- ---- the end: laid out

pub bare-fresh : (s : State) → Bare s → (t : ℕ) → s.top ≡ t → s ≡ fresh t (end s)
unfolding fresh
bare-fresh s b t e =
    let r : s.rest ≡ end s - 168 = omega (arith, end-runs s, ap total b.no-low, ap total b.no-high) in
    λ i. record { top = e i; low = b.no-low i; rest = r i; high = b.no-high i; bins = λ y. b.no-bins y i }

-- from here on in one layout
module _ (layout : ℕ) (named : (layout ≡ 1) ⊎ (layout ≡ 2)) where
  bare-laid-out : (s : State) (p : List ℕ) → Stands s p → s.top ≡ layout_top layout → Bare s → (lay_out_call p layout).after ≡ p
  unfolding Holds
  bare-laid-out s p S t b =
      laid-out-writes p (stands-allowed s p S) layout named
      ∙ ap (λ (n : ℕ). write (sheet (fresh (layout_top layout) n)) p) (sym S.ends)
      ∙ ap (λ (u : State). write (sheet u) p) (sym (bare-fresh s b (layout_top layout) t))
      ∙ S.holds

-- ---- one more call

outcome-writes : (s : State) (bs : List ℕ) (c : Call) → (outcome (sound s) bs c).after ≡ write (sheet (state_after s c)) bs
outcome-writes s bs (takes size) = refl
outcome-writes s bs (gives offset) = refl

ends_with : (bs : List ℕ) (cs : List Call) (p : List ℕ) (c : Call) (r : Reading) (p' : List ℕ) → Ends bs cs p → number_of c < 2 ^ 32
    → Reads p r → (outcome r p c).after ≡ p' → Ends bs (cs ++ c ∷ []) p'
ends_with bs [] p c r p' e f k h = (f, r, subst (λ (b : List ℕ). Reads b r) (sym e) k, ap (λ (b : List ℕ). (outcome r b c).after) e ∙ h)
ends_with bs (d ∷ cs) p c r p' e f k h = (e.0, e.1, e.2, ends_with (outcome e.1 bs d).after cs p c r p' e.3 f k h)

module _ (s : State) (p : List ℕ) (S : Stands s p) (u : Undone s) where
  abbrev earlier : List ℕ
  earlier = write (sheet u.before) p

  earlier-stands : Stands u.before earlier
  earlier-stands = write-stands u.before u.kept.well_formed (u.kept.edge S.edge) p (u.kept.ends ∙ S.ends)

  -- the words of s over it are these very bytes
  written-again : write (sheet s) earlier ≡ p
  written-again =
      sym (write-unique (sheet s) earlier p (sym (length-write (sheet u.before) p)) S.holds
      (λ i b e. sym (write_keeps (sheet u.before) p i (omega (arith, length-write (sheet u.before) p)) (u.within (i / 4 * 4) e))))

  call_ends : (outcome (sound u.before) earlier u.call).after ≡ p
  call_ends =
      outcome-writes u.before earlier u.call ∙ ap (λ (t : State). write (sheet t) earlier) u.leads-back ∙ written-again

  one_more : (layout : ℕ) → Honest layout earlier → Honest layout p
  one_more layout h =
      record {
        buffer = h.buffer;
        bytes = h.bytes;
        as_long = h.as_long ∙ length-write (sheet u.before) p;
        length_allowed = h.length_allowed;
        layout_named = h.layout_named;
        calls = h.calls ++ u.call ∷ [];
        ends =
            ends_with (lay_out_call h.buffer layout).after h.calls earlier u.call (sound u.before) p h.ends u.number_fits
            (stands-sound u.before earlier earlier-stands) call_ends;
      }

-- ---- by the weight, in one layout

module _ (layout : ℕ) (named : (layout ≡ 1) ⊎ (layout ≡ 2)) where
  bare-honest : (s : State) (p : List ℕ) → Stands s p → s.top ≡ layout_top layout → Bytes p → Bare s → Honest layout p
  bare-honest s p S t h b =
      record {
        buffer = p;
        bytes = h;
        as_long = refl;
        length_allowed = stands-allowed s p S;
        layout_named = named;
        calls = [];
        ends = bare-laid-out layout named s p S t b;
      }

  -- every lighter pool is honest
  abbrev HonestUnder : ℕ → Type 0
  HonestUnder m = (s : State) (p : List ℕ) → suc (weight s) ≡ m → Stands s p → s.top ≡ layout_top layout → Bytes p → Honest layout p

  by-weight : (m : ℕ) → HonestUnder m → (s : State) (p : List ℕ) → weight s ≡ m → Stands s p → s.top ≡ layout_top layout → Bytes p → Honest layout p
  by-weight m below s p w S t h = go (undo s S.well_formed S.edge)
    where
      go : Undone s ⊎ Bare s → Honest layout p
      go (inl u) =
          one_more s p S u layout
          (below u.before (write (sheet u.before) p) (u.lighter ∙ w) (earlier-stands s p S u) (u.kept.same-top ∙ t)
          (write_bytes (sheet u.before) p h))
      go (inr b) = bare-honest s p S t h b

  stands-honest : (m : ℕ) (s : State) (p : List ℕ) → weight s ≡ m → Stands s p → s.top ≡ layout_top layout → Bytes p → Honest layout p
  stands-honest zero = by-weight zero (λ s p w S t h. absurd (omega arith))
  stands-honest (suc m) = by-weight (suc m) (λ s p w S t h. stands-honest m s p (omega arith) S t h)

  pub sound-honest : (p : List ℕ) → Bytes p → SoundTo (layout_top layout) p → Honest layout p
  sound-honest p h S = stands-honest (weight S.is_sound.state) S.is_sound.state p refl (sound-stands p S.is_sound) S.is_top h
