-- Where each way out of a walk over blocks leads, and that the walk goes on.
use mathlib.Core.Bool.{Bool, false, true}
use mathlib.Core.List.{List}
use mathlib.Core.Path.{◌∙◌, ◌≡◌, ap, refl, sym}
use Prim.Native.Nat.{◌%◌, ◌*◌, ◌+◌, ◌-◌, ◌/◌, ◌<◌, ◌≤◌, suc, zero, ℕ}
use native.Mathlib.Omega.{arith}
use lib.Dec.{eqb, leb, ltb}
use lib.ListN.{length}
use borrow.Author.Tests.{eq-eqb, eqb-true, le-leb, leb-true, lt-ltb, ltb-true}
use Rattle.guards.proofs.Guards.{guard-fail, guard-inv, guard-pass, guard-yes, no_both, pass-is, pass-no}
use Rattle.guards.specs.Tests.{pass}
use Rattle.heads.specs.Heads.{flags_at, flags_of, free_flags, held_flags, size_at, size_of}
use Rattle.marks.proofs.Laws.{length-put}
use Rattle.marks.specs.MarkSets.{bit_marks}
use Rattle.marks.specs.Marks.{put_bit_at}
use Rattle.paper.specs.Layout.{large}
use Rattle.runs.specs.Contract.{of_kind}
use Rattle.runs.specs.Runs.{Scanned, fit_size, fit_tests, foot_of, free_at, free_tests, scan, seen, small, stray}
use Rattle.words.specs.Choice.{by<, if<-no, if<-yes, if=-no, if=-yes}
use Rattle.words.specs.Words.{word_at}

-- ---- the tests of a head

pub small-is : (z : ℕ) → 8 ≤ z → ltb z large ≡ pass (of_kind z 1)
small-is z a =
    pass-is (of_kind z 1) (ltb z large) (λ h. (omega arith, (if<-yes z large _ _ (ltb-true z large h), tt)))
    (λ t. lt-ltb z large (by< z large (λ l. l) (λ l. absurd (omega (arith, t.1.0, if<-no {A = ℕ} z large 1 0 l)))))

pub large-is : (z : ℕ) → leb large z ≡ pass (of_kind z 0)
large-is z =
    pass-is (of_kind z 0) (leb large z) (λ h. (omega (arith, leb-true large z h), (if<-no z large _ _ (leb-true large z h), tt)))
    (λ t. le-leb large z (by< z large (λ l. absurd (omega (arith, t.1.0, if<-yes {A = ℕ} z large 1 0 l))) (λ l. l)))

-- another size is refused; where the size is one of theirs, the room decides
module _ (z c e p : ℕ) {b : Bool} (eb : b ≡ pass (of_kind z c)) where
  pub not_theirs : b ≡ false → false ≡ pass (fit_size z c e p)
  not_theirs h =
      pass-no (fit_size z c e p) (λ t. no_both (sym h ∙ eb ∙ guard-yes (of_kind z c) false true (t.0, (t.1.0, tt))))

  pub fit-last : b ≡ true → z % 8 ≡ 0 → leb (p + z) e ≡ pass (fit_size z c e p)
  fit-last h z8 =
      let k = (guard-inv (of_kind z c) false true true no_both (sym eb ∙ h)).0 in
      pass-is (fit_size z c e p) (leb (p + z) e) (λ i. (k.0, (k.1.0, (z8, (omega (arith, leb-true (p + z) e i), tt)))))
      (λ t. le-leb (p + z) e (omega (arith, t.1.1.1.0)))

-- what has passed
pub record Fits (z c e p : ℕ) : Type 0 where
  pub eight : 8 ≤ z
  pub kind : small z ≡ c
  pub room : p + z ≤ e

pub fit_facts : (z c e p : ℕ) {b : Bool} → b ≡ pass (fit_size z c e p) → b ≡ true → Fits z c e p
fit_facts z c e p h i =
    let r = (guard-inv (fit_size z c e p) false true true no_both (sym h ∙ i)).0 in
    record { eight = omega (arith, r.0); kind = r.1.0; room = omega (arith, r.1.1.1.0) }

-- the kind of a head's size that fits
pub fits-kind : (w z c e p : ℕ) {b : Bool} → z ≡ size_of w → b ≡ pass (fit_size z c e p) → b ≡ true → small (size_of w) ≡ c
fits-kind w z c e p ez h i = ap small (sym ez) ∙ (fit_facts z c e p h i).kind

-- a small block has no footer
pub small-ends : (s : List ℕ) (w p : ℕ) → small (size_of w) ≡ 1 → true ≡ eqb (foot_of s w p) w
small-ends s w p k =
    sym (eq-eqb _ _ (if<-yes (size_of w) large w _
    (by< (size_of w) large (λ l. l) (λ l. absurd (omega (arith, k, if<-no {A = ℕ} (size_of w) large 1 0 l))))))

pub at-least-large : (z : ℕ) → small z ≡ 0 → large ≤ z
at-least-large z k = by< z large (λ l. absurd (omega (arith, k, if<-yes {A = ℕ} z large 1 0 l))) (λ l. l)

pub large-ends : (s : List ℕ) (w p : ℕ) {z u : ℕ} → small (size_of w) ≡ 0 → z ≡ size_of w → u ≡ word_at 4 s (p + (z - 4))
    → eqb u w ≡ eqb (foot_of s w p) w
large-ends s w p {z} {u} k ez e =
    let foot : foot_of s w p ≡ u =
    if<-no (size_of w) large _ _ (at-least-large (size_of w) k) ∙ ap (λ (v : ℕ). word_at 4 s (p + (v - 4))) (sym ez) ∙ sym e in
    ap (λ (v : ℕ). eqb v w) (sym foot)

pub not_free : (s : List ℕ) (w due p : ℕ) → (flags_of w ≡ free_flags → ⊥) → false ≡ pass (free_at s w due p)
not_free s w due p n = pass-no (free_at s w due p) (λ t. n t.1.0)

pub free-last : (s : List ℕ) (w due p : ℕ) {b : Bool} → due ≡ held_flags → flags_of w ≡ free_flags → b ≡ eqb (foot_of s w p) w
    → b ≡ pass (free_at s w due p)
free-last s w due p {b} h f e =
    pass-is (free_at s w due p) b (λ i. (h, (f, (eqb-true _ _ (sym e ∙ i), tt)))) (λ t. e ∙ eq-eqb _ _ t.1.1.0)

-- ---- the loop: the whole walk is the walk from here

pub record Scanning (s m₀ : List ℕ) (c e from n0 sum0 : ℕ) (m : List ℕ) (p due n sum : ℕ) : Type 0 where
  pub long : length m ≡ length m₀
  pub small-p : p < 4294967296
  pub small-due : due < 4294967296
  pub few : n ≤ n0 + p
  pub less_sum : sum ≤ sum0 + p
  pub fuel : ℕ
  pub enough : e < p + fuel
  pub all : scan bit_marks s (suc e) c e from held_flags n0 m₀ sum0 ≡ scan bit_marks s fuel c e p due n m sum

pub begin : (s m : List ℕ) (c e from n0 sum0 : ℕ) → from < 4294967296 → Scanning s m c e from n0 sum0 m from held_flags n0 sum0
begin s m c e from n0 sum0 a =
    record {
      long = refl;
      small-p = a;
      small-due = omega arith;
      few = omega arith;
      less_sum = omega arith;
      fuel = suc e;
      enough = omega arith;
      all = refl;
    }

module _ (s : List ℕ) (c e : ℕ) where
  at-end : (k p due n : ℕ) (m : List ℕ) (sum : ℕ) → p ≡ e → e < p + k → due ≡ held_flags → scan bit_marks s k c e p due n m sum ≡ seen n m sum
  unfolding scan
  at-end zero p due n m sum h l i = absurd (omega arith)
  at-end (suc k) p due n m sum h l i = if=-yes p e _ _ h ∙ if=-yes due held_flags _ _ i

  -- a free block is the last one
  below-end : (k p due n : ℕ) (m : List ℕ) (sum : ℕ) → p ≡ e → (due ≡ held_flags → ⊥) → scan bit_marks s k c e p due n m sum ≡ stray
  unfolding scan
  below-end zero p due n m sum h i = refl
  below-end (suc k) p due n m sum h i = if=-yes p e _ _ h ∙ if=-no due held_flags _ _ i

  unfit : (k p due n : ℕ) (m : List ℕ) (sum : ℕ) → (p ≡ e → ⊥) → pass (fit_tests s c e p) ≡ false → scan bit_marks s k c e p due n m sum ≡ stray
  unfolding scan
  unfit zero p due n m sum h i = refl
  unfit (suc k) p due n m sum h i = if=-no p e _ _ h ∙ guard-fail (fit_tests s c e p) stray _ i

  unfree : (k p due n : ℕ) (m : List ℕ) (sum : ℕ) → (p ≡ e → ⊥) → pass (fit_tests s c e p) ≡ true → (flags_at s p ≡ due → ⊥)
      → pass (free_tests s due p) ≡ false → scan bit_marks s k c e p due n m sum ≡ stray
  unfolding scan
  unfree zero p due n m sum h i j l = refl
  unfree (suc k) p due n m sum h i j l =
      if=-no p e _ _ h ∙ guard-pass (fit_tests s c e p) stray _ i ∙ if=-no (flags_at s p) due _ _ j
      ∙ guard-fail (free_tests s due p) stray _ l

  past-held : (k p due n : ℕ) (m : List ℕ) (sum : ℕ) → (p ≡ e → ⊥) → pass (fit_tests s c e p) ≡ true → flags_at s p ≡ due
      → scan bit_marks s (suc k) c e p due n m sum ≡ scan bit_marks s k c e (p + size_at s p) held_flags n m sum
  unfolding scan
  past-held k p due n m sum h i j = if=-no p e _ _ h ∙ guard-pass (fit_tests s c e p) stray _ i ∙ if=-yes (flags_at s p) due _ _ j

  past-free : (k p due n : ℕ) (m : List ℕ) (sum : ℕ) → (p ≡ e → ⊥) → pass (fit_tests s c e p) ≡ true → (flags_at s p ≡ due → ⊥)
      → pass (free_tests s due p) ≡ true
      → scan bit_marks s (suc k) c e p due n m sum ≡ scan bit_marks s k c e (p + size_at s p) (2 * c + 1) (suc n) (put_bit_at m (p / 8) 1)
      (sum + size_at s p)
  unfolding scan
  past-free k p due n m sum h i j l =
      if=-no p e _ _ h ∙ guard-pass (fit_tests s c e p) stray _ i ∙ if=-no (flags_at s p) due _ _ j
      ∙ guard-pass (free_tests s due p) stray _ l

-- the code's test of a head is of the word that it read
free_of : (s : List ℕ) (due p : ℕ) {b : Bool} {w : ℕ} → w ≡ word_at 4 s p → b ≡ pass (free_at s w due p) → b ≡ pass (free_tests s due p)
free_of s due p k h = h ∙ ap (λ (v : ℕ). pass (free_at s v due p)) k

module _ {s m₀ : List ℕ} {c e from n0 sum0 : ℕ} {m : List ℕ} {p due n sum : ℕ} (g : Scanning s m₀ c e from n0 sum0 m p due n sum) where
  abbrev Run : Scanned (List ℕ)
  Run = scan bit_marks s (suc e) c e from held_flags n0 m₀ sum0

  pub scan-done : p ≡ e → due ≡ held_flags → seen n m sum ≡ Run
  scan-done h i = sym (g.all ∙ at-end s c e g.fuel p due n m sum h g.enough i)

  pub scan-due : p ≡ e → (due ≡ held_flags → ⊥) → stray ≡ Run
  scan-due h i = sym (g.all ∙ below-end s c e g.fuel p due n m sum h i)

  -- the head w at p, and whether its size z fits
  module _ (ne : p ≡ e → ⊥) {w z : ℕ} (ew : w ≡ word_at 4 s p) (ez : z ≡ size_of w) {b : Bool} (eb : b ≡ pass (fit_size z c e p)) where
    size : z ≡ size_at s p
    size = ez ∙ ap (λ (v : ℕ). size_of v) ew

    fit_at : b ≡ pass (fit_tests s c e p)
    fit_at = eb ∙ ap (λ (v : ℕ). pass (fit_size v c e p)) size

    pub scan-unfit : b ≡ false → stray ≡ Run
    scan-unfit j = sym (g.all ∙ unfit s c e g.fuel p due n m sum ne (sym fit_at ∙ j))

    -- it does; its flags are f
    module _ (j : b ≡ true) {f : ℕ} (ef : f ≡ flags_of w) where
      fits : pass (fit_tests s c e p) ≡ true
      fits = sym fit_at ∙ j

      fit : Fits z c e p
      fit = fit_facts z c e p eb j

      flags : f ≡ flags_at s p
      flags = ef ∙ ap (λ (v : ℕ). flags_of v) ew

      pub scan-held : e < 4294967296 → f ≡ due → Scanning s m₀ c e from n0 sum0 m (p + z) held_flags n sum
      scan-held e32 l =
          record {
            long = g.long;
            small-p = omega (arith, fit);
            small-due = omega arith;
            few = omega (arith, g.few);
            less_sum = omega (arith, g.less_sum);
            fuel = g.fuel - 1;
            enough = omega (arith, fit, g.enough);
            all = g.all ∙ ap (λ (v : ℕ). scan bit_marks s v c e p due n m sum) (omega (arith, g.enough, fit))
                ∙ past-held s c e (g.fuel - 1) p due n m sum ne fits (sym flags ∙ l)
                ∙ ap (λ (v : ℕ). scan bit_marks s (g.fuel - 1) c e (p + v) held_flags n m sum) (sym size);
          }

      -- it is not held as is due
      module _ (l : f ≡ due → ⊥) {d : Bool} (ed : d ≡ pass (free_at s w due p)) where
        not_held : flags_at s p ≡ due → ⊥
        not_held v = l (flags ∙ v)

        pub scan-unfree : d ≡ false → stray ≡ Run
        scan-unfree r = sym (g.all ∙ unfree s c e g.fuel p due n m sum ne fits not_held (sym (free_of s due p ew ed) ∙ r))

        pub scan-free : {m' : List ℕ} {t : ℕ} → e < 4294967296 → d ≡ true → m' ≡ put_bit_at m (p / 8) 1 → t ≡ 2 * c + 1 → t < 4294967296
            → Scanning s m₀ c e from n0 sum0 m' (p + z) t (n + 1) (sum + z)
        scan-free {m'} {t} e32 r em et t32 =
            record {
              long = ap length em ∙ length-put m (p / 8) 1 ∙ g.long;
              small-p = omega (arith, fit);
              small-due = t32;
              few = omega (arith, g.few, fit);
              less_sum = omega (arith, g.less_sum);
              fuel = g.fuel - 1;
              enough = omega (arith, fit, g.enough);
              all = g.all ∙ ap (λ (v : ℕ). scan bit_marks s v c e p due n m sum) (omega (arith, g.enough, fit))
                  ∙ past-free s c e (g.fuel - 1) p due n m sum ne fits not_held (sym (free_of s due p ew ed) ∙ r)
                  ∙ (λ i. scan bit_marks s (g.fuel - 1) c e (p + sym size i) (sym et i) (next n i) (sym em i) (sum + sym size i));
            }
          where
            next : (n : ℕ) → suc n ≡ n + 1
            next n = omega arith
