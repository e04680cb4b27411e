-- Every honest pool is sound, and all its bytes are bytes: laying out gives a sound pool, and each take and give-back keeps it one,
-- refused or not.
use mathlib.Core.List.{List, [], ◌∷◌}
use mathlib.Core.Logic.{◌≢◌, ◌⊎◌, inl, inr}
use mathlib.Core.Path.{◌∙◌, ◌≡◌, ap, refl, subst, sym}
use native.Mathlib.Omega.{arith}
use Prim.Native.Nat.{ℕ}
use lib.ListN.{length}
use Rattle.paper.proofs.reads.Allowed.{allowed-yes}
use Rattle.paper.proofs.keeps.BackKeeps.{give_back-keeps}
use Rattle.paper.proofs.keeps.FreshSound.{fresh-edge, fresh-ends, fresh-well-formed}
use Rattle.paper.proofs.keeps.Kept.{Kept}
use Rattle.paper.proofs.keeps.KeptStands.{kept-stands}
use Rattle.paper.proofs.reads.RoundTrip.{write-stands}
use Rattle.paper.proofs.reads.Standing.{sound-same, sound-stands, stands-sound}
use Rattle.paper.proofs.reads.Stands.{Stands}
use Rattle.paper.proofs.keeps.TakeKeeps.{take-keeps}
use Rattle.paper.proofs.sheet.WrittenBytes.{write_bytes}
use Rattle.paper.specs.Allowed.{Allowed, allowed}
use Rattle.paper.specs.Blocks.{State}
use Rattle.paper.specs.Calls.{Reading, Reads, broken, laying_out, lay_out_call, misfit, sound}
use Rattle.paper.specs.Fresh.{fresh, layout_top}
use Rattle.paper.specs.Governed.{sheet}
use Rattle.paper.specs.Honest.{Call, Ends, Honest, gives, outcome, takes}
use Rattle.paper.specs.Sheet.{write}
use Rattle.paper.specs.Sound.{SoundTo}
use Rattle.words.specs.Choice.{if=-no, if=-yes, when-yes}
use Rattle.words.specs.Words.{Bytes}
use Rattle.paper.specs.Answers.{Out}

-- a sound pool of bytes, with an index t high
pub record SoundBytes (t : ℕ) (p : List ℕ) : Type 0 where
  pub is_sound : SoundTo t p
  pub bytes : Bytes p

stands-to : (s : State) (bs : List ℕ) → Stands s bs → Bytes bs → (t : ℕ) → s.top ≡ t → SoundBytes t bs
stands-to s bs S h t e =
    let x = stands-sound s bs S in
    record { is_sound = record { is_sound = x.0; is_top = ap (λ (u : State). u.top) x.1 ∙ e }; bytes = h }

-- ---- laid out

-- a number that names a layout
pub named-top : (layout : ℕ) → (layout ≡ 1) ⊎ (layout ≡ 2) → (layout_top layout ≡ 1) ⊎ (layout_top layout ≡ 13)
unfolding layout_top
named-top layout (inl e) = inl (if=-yes layout 1 _ _ e)
named-top layout (inr e) = inr (if=-no layout 1 _ _ (omega arith) ∙ if=-yes layout 2 _ _ e)

pub laid-out-writes : (bs : List ℕ) → Allowed (length bs) → (layout : ℕ) → (layout ≡ 1) ⊎ (layout ≡ 2)
    → (lay_out_call bs layout).after ≡ write (sheet (fresh (layout_top layout) (length bs))) bs
unfolding lay_out_call laying_out
laid-out-writes bs a layout l =
    ap (λ (o : Out). o.after)
    (when-yes (allowed (length bs)) _ _ (allowed-yes (length bs) a) ∙ if=-no (layout_top layout) 0 _ _ (some (named-top layout l)))
  where
    some : (layout_top layout ≡ 1) ⊎ (layout_top layout ≡ 13) → layout_top layout ≢ 0
    some (inl e) = omega arith
    some (inr e) = omega arith

pub laid-out-sound : (bs : List ℕ) → Allowed (length bs) → Bytes bs → (layout : ℕ) → (layout ≡ 1) ⊎ (layout ≡ 2)
    → SoundBytes (layout_top layout) (lay_out_call bs layout).after
unfolding fresh
laid-out-sound bs a h layout l =
    let t = layout_top layout in
    subst (SoundBytes t) (sym (laid-out-writes bs a layout l))
    (stands-to (fresh t (length bs)) (write (sheet (fresh t (length bs))) bs)
    (write-stands (fresh t (length bs)) (fresh-well-formed t (length bs) a (named-top layout l)) (fresh-edge t (length bs)) bs (fresh-ends t (length bs) a))
    (write_bytes (sheet (fresh t (length bs))) bs h) t refl)

-- ---- a call

kept-sound : (t : ℕ) (s s' : State) (bs : List ℕ) → Stands s bs → s.top ≡ t → Bytes bs → Kept s s' → SoundBytes t (write (sheet s') bs)
kept-sound t s s' bs S e h k = stands-to s' (write (sheet s') bs) (kept-stands s s' bs S k) (write_bytes (sheet s') bs h) t (k.same-top ∙ e)

reads-stands : (bs : List ℕ) (s : State) → Reads bs (sound s) → Stands s bs
reads-stands bs s r = subst (λ (t : State). Stands t bs) r.1 (sound-stands bs r.0)

-- however the pool was read, its layout is the one that it has
reads-top : (t : ℕ) (bs : List ℕ) (s : State) → Reads bs (sound s) → SoundTo t bs → s.top ≡ t
reads-top t bs s r S = ap (λ (u : State). u.top) (sym (sound-same s bs (reads-stands bs s r) S.is_sound)) ∙ S.is_top

pub call-sound : (t : ℕ) (bs : List ℕ) (r : Reading) (c : Call) → Reads bs r → SoundBytes t bs → SoundBytes t (outcome r bs c).after
call-sound t bs misfit (takes size) k h = h
call-sound t bs misfit (gives offset) k h = h
call-sound t bs broken (takes size) k h = h
call-sound t bs broken (gives offset) k h = h
call-sound t bs (sound s) (takes size) k h =
    let S = reads-stands bs s k in kept-sound t s _ bs S (reads-top t bs s k h.is_sound) h.bytes (take-keeps s S.well_formed size)
call-sound t bs (sound s) (gives offset) k h =
    let S = reads-stands bs s k in kept-sound t s _ bs S (reads-top t bs s k h.is_sound) h.bytes (give_back-keeps s S.well_formed offset)

calls-sound : (t : ℕ) (bs : List ℕ) (cs : List Call) (p : List ℕ) → SoundBytes t bs → Ends bs cs p → SoundBytes t p
calls-sound t bs [] p h e = subst (SoundBytes t) e h
calls-sound t bs (c ∷ cs) p h e = calls-sound t (outcome e.1 bs c).after cs p (call-sound t bs e.1 c e.2 h) e.3

pub honest-sound : (layout : ℕ) (p : List ℕ) → Honest layout p → SoundBytes (layout_top layout) p
honest-sound layout p h =
    calls-sound (layout_top layout) (lay_out_call h.buffer layout).after h.calls p
    (laid-out-sound h.buffer h.length_allowed h.bytes layout h.layout_named) h.ends
