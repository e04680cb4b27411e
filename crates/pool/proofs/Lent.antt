-- The part that is lent, by what asking answers: at a refusal the empty one at the pool's end, else the payload, which ends within the pool.
use mathlib.Core.Path.{◌≡◌, refl, sym, ◌∙◌, ap, ap₂}
use mathlib.Core.List.{List}
use mathlib.Core.Logic.{◌≢◌}
use Prim.Native.Nat.{ℕ, ◌+◌, ◌-◌, ◌≤◌}
use native.Mathlib.Nat.{add_comm}
use native.Mathlib.Omega.{arith}
use lib.ListN.{length, take, drop}
use Rattle.std.specs.Borrow.{Bor, MutBor}
use Rattle.paper.specs.Calls.{Reading, misfit, broken, sound, ask_call, lend_from, lend_to}
use Rattle.paper.proofs.runs.Asking.{ask-done, ask-refused}
use Rattle.paper.proofs.runs.HeldPlaces.{held_at}
use Rattle.paper.proofs.runs.LookedUp.{look_up-held, look_up-none}
use Rattle.reading.specs.Read.{read}
use Rattle.reading.proofs.Asked.{read-sound}
use Rattle.std.specs.declared.ops.Range.{Range}
use Rattle.pool.specs.Parts.{Bounds}
use Rattle.pool.specs.Calls.{Lent, LentMut, part_from, part_to}
use Rattle.pool.specs.Calls as call
use Rattle.std.specs.declared.result.Result.TheVariants.{Ok, Err}
use Rattle.paper.specs.declared.Refusal.{Refusal}

module _ (bs : List ℕ) (offset : ℕ) where
  refused-part : (x : Reading) (k : Refusal) → read bs ≡ x → ask_call x offset ≡ Err k → (lend_from x bs offset ≡ length bs) × (lend_to x bs offset ≡ length bs)
  refused-part misfit k r e = (refl, refl)
  refused-part broken k r e = (refl, refl)
  refused-part (sound s) k r e =
      let W = (read-sound bs s r).stands.well_formed in
      let n = ask-refused s W offset k e in
      (look_up-none offset _ _ s W.sized n, look_up-none offset _ _ s W.sized n)

  held-part : (x : Reading) (v : ℕ) → read bs ≡ x → ask_call x offset ≡ Ok v
      → (lend_from x bs offset ≡ offset) × (lend_to x bs offset ≡ offset + v) × (offset + v ≤ length bs)
  held-part misfit v r e = absurd (let z : ◌≡◌ {A = ℕ} 0 1 = cc in omega arith)
  held-part broken v r e = absurd (let z : ◌≡◌ {A = ℕ} 0 1 = cc in omega arith)
  held-part (sound s) v r e =
      let S = (read-sound bs s r).stands in
      let h = ask-done s S.well_formed offset v e in
      let n : held_at s offset ≢ 0 = λ z. omega (arith, h.0) in
      let w : held_at s offset - 4 ≡ v = omega (arith, h.0) in (
        look_up-held offset _ _ s S.well_formed.sized n,
        look_up-held offset _ _ s S.well_formed.sized n ∙ ap (λ (y : ℕ). offset + y) w,
        omega (arith, h.1, S.ends),
      )

  -- ---- the code's bounds

  pub bounds-refused : (k : Refusal) → call.ask bs offset ≡ Err k → Bounds bs offset (record { start = length bs; end = length bs })
  unfolding call.ask part_from part_to
  bounds-refused k e =
      let p = refused-part (read bs) k refl e in record { starts = sym p.0; ends = sym p.1; rises = omega arith; inside = omega arith }

  pub bounds-held : (v : ℕ) → call.ask bs offset ≡ Ok v → Bounds bs offset (record { start = offset; end = offset + v })
  unfolding call.ask part_from part_to
  bounds-held v e =
      let p = held-part (read bs) v refl e in record { starts = sym p.0; ends = sym p.1; rises = omega arith; inside = p.2 }

-- what is made of the bounds is lent
pub lent-part : (r pool : Bor (List ℕ)) (offset : ℕ) (s : Range ℕ) → Bounds pool.now offset s
    → r.now ≡ take (s.end - s.start) (drop s.start pool.now) → r.ref_ptr ≡ (pool.ref_ptr.0, s.start + pool.ref_ptr.1) → Lent r pool offset
lent-part r pool offset s w e p =
    record {
      bytes = e ∙ ap₂ (λ (x y : ℕ). take (y - x) (drop x pool.now)) w.starts w.ends;
      place = p ∙ ap (λ (x : ℕ). (pool.ref_ptr.0, x)) (add_comm s.start pool.ref_ptr.1 ∙ ap (λ (x : ℕ). pool.ref_ptr.1 + x) w.starts);
    }

pub lent-mut-part : (r pool : MutBor (List ℕ)) (offset : ℕ) (s : Range ℕ) → Bounds pool.now offset s
    → r.now ≡ take (s.end - s.start) (drop s.start pool.now) → r.ref_ptr ≡ (pool.ref_ptr.0, s.start + pool.ref_ptr.1) → LentMut r pool offset
lent-mut-part r pool offset s w e p =
    record {
      bytes = e ∙ ap₂ (λ (x y : ℕ). take (y - x) (drop x pool.now)) w.starts w.ends;
      place = p ∙ ap (λ (x : ℕ). (pool.ref_ptr.0, x)) (add_comm s.start pool.ref_ptr.1 ∙ ap (λ (x : ℕ). pool.ref_ptr.1 + x) w.starts);
    }
