-- What the call does with what it asks, in its order: each way out is the definition's. The pool's level word is the height that was read.
use mathlib.Core.List.{List}
use mathlib.Core.Logic.{◌≢◌, ◌⊎◌, inl, inr}
use mathlib.Core.Path.{◌≡◌, refl, sym, ap, ◌∙◌}
use Prim.Native.Nat.{ℕ}
use native.Mathlib.Omega.{arith}
use lib.ListN.{length}
use Rattle.moving.proofs.MoveBytes.{move-bytes}
use Rattle.moving.specs.Move.{moved}
use Rattle.words.specs.Choice.{by=, if=, if=-no, if=-yes}
use Rattle.bins.proofs.Between.{stands-between}
use Rattle.bins.proofs.LinkRead.{top_read}
use Rattle.levels.specs.Levels.{top_of}
use Rattle.paper.proofs.reads.Standing.{stands-allowed}
use Rattle.paper.proofs.reads.Stands.{Stands}
use mathlib.Core.Bool.{false, true}
use Rattle.paper.proofs.reads.Allowed.{allowed-yes}
use Rattle.paper.specs.Allowed.{Allowed, allowed}
use Rattle.paper.specs.Blocks.{State}
use Rattle.paper.specs.Calls.{Reading, Reads, misfit, broken, sound}
use Rattle.paper.specs.Fresh.{layout_top}
use Rattle.paper.specs.Governed.{sheet}
use Rattle.paper.specs.Sheet.{write}
use Rattle.reading.specs.Read.{read, checked as read_checked, said as read_said}
use Rattle.reading.proofs.Readings.{reads}
use Rattle.convert.proofs.Refused.{refused-changes-nothing}
use Rattle.words.specs.Words.{Bytes}
use Rattle.reading.proofs.Asked.{read-sound}
use Rattle.convert.specs.Converting.{checked, convert, convert_call, moves, other, relaid, said}
use Rattle.std.specs.declared.result.Result.TheVariants.{Ok, Err}
use Rattle.std.specs.declared.result.Result.{Result}
use Rattle.paper.specs.declared.Refusal.{Refusal}
use Rattle.paper.specs.declared.Refusal.TheVariants.{NoLayout, NotAllowed, NotSound, OtherLayout}
use Rattle.paper.specs.Answers.{Answer, out, Out}

-- of either layout the other one is 1 or 13 high
pub other-top : (old : ℕ) → (layout_top (other old) ≡ 1) ⊎ (layout_top (other old) ≡ 13)
unfolding layout_top other if=
other-top old =
    by= old 1 (λ e. inr (ap layout_top (if=-yes old 1 2 1 e))) (λ n. inl (ap layout_top (if=-no old 1 2 1 n)))

module _ (bs : List ℕ) (old : ℕ) where
  abbrev outcome : Reading → Out
  outcome x = convert_call x bs old

  abbrev told : Reading → Result (Unit {0}) Refusal
  told x = said (outcome x).answer

  same : {x y : Out} → x ≡ y → said x.answer ≡ said y.answer
  same e = ap (λ (o : Out). said o.answer) e

  -- ---- the five ways out of `check`

  module _ (bytes : Bytes bs) where
    pub refused-length : allowed (length bs) ≡ false → Err NotAllowed ≡ checked bs old
    unfolding checked convert
    refused-length f = go (read bs) (reads bs bytes)
      where
        n : Allowed (length bs) → ⊥
        n a = let e : false ≡ true = sym f ∙ allowed-yes (length bs) a in let z : ◌≡◌ {A = ℕ} 0 1 = cc in omega arith

        go : (x : Reading) → Reads bs x → Err NotAllowed ≡ told x
        go misfit k = refl
        go broken k = absurd (n k.0)
        go (sound s) k = absurd (n k.0.length_allowed)

    pub refused-name : Allowed (length bs) → layout_top old ≡ 0 → Err NoLayout ≡ checked bs old
    unfolding checked convert
    refused-name a z = go (read bs) (reads bs bytes)
      where
        go : (x : Reading) → Reads bs x → Err NoLayout ≡ told x
        go misfit k = absurd (k a)
        go broken k = sym (same (if=-yes (layout_top old) 0 _ _ z))
        go (sound s) k = sym (same (if=-yes (layout_top old) 0 _ _ z))

  -- by what reading the pool says, of a number that names a layout
  module _ {r : Result (Unit {0}) Refusal} (asked : r ≡ read_checked bs) (z : layout_top old ≢ 0) where
    pub refused-reading : {k : Refusal} → r ≡ Err k → Err k ≡ checked bs old
    unfolding read_checked checked convert
    refused-reading {k} f = go (read bs) (sym asked ∙ f)
      where
        go : (x : Reading) → read_said x ≡ Err k → Err k ≡ told x
        go misfit e = sym e
        go broken e = sym e ∙ sym (same (if=-no (layout_top old) 0 _ _ z))
        go (sound s) e = absurd (let y : ◌≡◌ {A = ℕ} 0 1 = cc in omega arith)

    module _ {v : Unit {0}} (f : r ≡ Ok v) {top : ℕ} (e : top ≡ top_of bs) where
      height : (s : State) → read bs ≡ sound s → top ≡ s.top
      height s q = e ∙ top_read s bs (stands-between s bs (read-sound bs s q).stands)

      pub refused-layout : top ≢ layout_top old → Err OtherLayout ≡ checked bs old
      unfolding read_checked checked convert
      refused-layout n = go (read bs) refl (sym asked ∙ f)
        where
          go : (x : Reading) → read bs ≡ x → read_said x ≡ Ok v → Err OtherLayout ≡ told x
          go misfit q k = absurd (let y : ◌≡◌ {A = ℕ} 0 1 = cc in omega arith)
          go broken q k = absurd (let y : ◌≡◌ {A = ℕ} 0 1 = cc in omega arith)
          go (sound s) q k =
              sym (same (if=-no (layout_top old) 0 _ _ z ∙ if=-no s.top (layout_top old) _ _ (λ i. n (height s q ∙ i))))

      pub not-refused : top ≡ layout_top old → Ok tt ≡ checked bs old
      unfolding read_checked checked convert
      not-refused n = go (read bs) refl (sym asked ∙ f)
        where
          go : (x : Reading) → read bs ≡ x → read_said x ≡ Ok v → Ok tt ≡ told x
          go misfit q k = absurd (let y : ◌≡◌ {A = ℕ} 0 1 = cc in omega arith)
          go broken q k = absurd (let y : ◌≡◌ {A = ℕ} 0 1 = cc in omega arith)
          go (sound s) q k =
              sym (same (if=-no (layout_top old) 0 _ _ z ∙ if=-yes s.top (layout_top old) _ _ (sym (height s q) ∙ n)))

  -- ---- refused, or done on a pool that stands for the state that was read

  err-is : (a : Answer) (k : Refusal) → said a ≡ Err k → a ≡ Err k
  err-is (Ok v) k e = absurd (let y : ◌≡◌ {A = ℕ} 0 1 = cc in omega arith)
  err-is (Err j) k e = let d : j ≡ k = cc in ap Err d

  pub refused-with : {r : Result (Unit {0}) Refusal} {k : Refusal} → r ≡ checked bs old → r ≡ Err k → convert bs old ≡ out (Err k) bs
  unfolding checked
  refused-with {k = k} e f =
      let a : (convert bs old).answer ≡ Err k = err-is (convert bs old).answer k (sym e ∙ f) in
      λ i. out (a i) ((refused-changes-nothing bs old k a).2 i)

  -- where nothing refuses, the pool is sound and has the layout that was named
  pub record Served : Type 0 where
    pub state : State
    pub reading : read bs ≡ sound state
    pub stands : Stands state bs
    pub named : state.top ≡ layout_top old
    pub by-paper : convert bs old ≡ moves state bs old

  serving : {v : Unit {0}} (x : Reading) → read bs ≡ x → told x ≡ Ok v → Served
  unfolding convert
  serving misfit r e = absurd (let y : ◌≡◌ {A = ℕ} 0 1 = cc in omega arith)
  serving {v} broken r e =
      by= (layout_top old) 0
      (λ z. let d : Err NoLayout ≡ Ok v = sym (same (if=-yes (layout_top old) 0 _ _ z)) ∙ e in absurd (let y : ◌≡◌ {A = ℕ} 0 1 = cc in omega arith))
      (λ z. let d : Err NotSound ≡ Ok v = sym (same (if=-no (layout_top old) 0 _ _ z)) ∙ e in absurd (let y : ◌≡◌ {A = ℕ} 0 1 = cc in omega arith))
  serving {v} (sound s) r e =
      by= (layout_top old) 0
      (λ z. let d : Err NoLayout ≡ Ok v = sym (same (if=-yes (layout_top old) 0 _ _ z)) ∙ e in absurd (let y : ◌≡◌ {A = ℕ} 0 1 = cc in omega arith))
      (λ z. by= s.top (layout_top old)
      (λ k. record {
        state = s;
        reading = r;
        stands = (read-sound bs s r).stands;
        named = k;
        by-paper = ap outcome r ∙ if=-no (layout_top old) 0 _ _ z ∙ if=-yes s.top (layout_top old) _ _ k;
      })
      (λ k. let d : Err OtherLayout ≡ Ok v = sym (same (if=-no (layout_top old) 0 _ _ z ∙ if=-no s.top (layout_top old) _ _ k)) ∙ e in
      absurd (let y : ◌≡◌ {A = ℕ} 0 1 = cc in omega arith)))

  pub served : {v : Unit {0}} → checked bs old ≡ Ok v → Served
  unfolding checked convert
  served e = serving (read bs) refl e

  module _ {r : Result (Unit {0}) Refusal} (e : r ≡ checked bs old) {v : Unit {0}} (z : r ≡ Ok v) where
    pub served-allowed : Allowed (length bs)
    served-allowed = let S = served (sym e ∙ z) in stands-allowed S.state bs S.stands

    pub done-with : {t : ℕ} {after : List ℕ} → t ≡ layout_top (other old) → after ≡ moved bs t → length after ≡ length bs
        → convert bs old ≡ out (Ok (length after)) after
    done-with {after = after} k m l =
        let S = served (sym e ∙ z) in
        S.by-paper
        ∙ (λ i. out (Ok (sym l i)) (write (sheet (relaid S.state old)) bs))
        ∙ ap (out (Ok (length after)))
        (sym (m ∙ ap (moved bs) k ∙ move-bytes S.state bs S.stands (layout_top (other old)) (other-top old)))
