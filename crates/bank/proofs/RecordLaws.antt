-- A record is known by its first byte: what makes one reads as one, wherever it starts a payload that is long enough.
use mathlib.Core.Bool.{Bool, true, false}
use mathlib.Core.List.{List, [], ◌∷◌}
use mathlib.Core.Logic.{◌≢◌}
use mathlib.Core.Path.{◌≡◌, refl, ap, sym, ◌∙◌}
use Prim.Native.Nat.{ℕ, suc, ◌+◌, ◌<◌, ◌≤◌}
use native.Mathlib.Omega.{arith}
use borrow.Author.Tests.{eq-eqb, eqb-true, ne_eqb}
use lib.Dec.{eqb}
use lib.ListN.{get_or, length}
use Rattle.std.specs.List.{slice_get}
use Rattle.words.specs.Choice.{by<, if<-no, if<-yes, when-no, when-yes}
use Rattle.bank.specs.Calls.{no_record}
use Rattle.bank.specs.declared.kinds.Kind.{Kind}
use Rattle.bank.specs.declared.kinds.Kind.TheVariants.{Eight, Sixteen, ThirtyTwo}
use Rattle.bank.specs.declared.kinds.UnknownKind.{UnknownKind}
use Rattle.bank.specs.Records.{Known, body_of, fits, is_record, kind_of, reads, record_in}
use Rattle.paper.specs.declared.Refusal.TheVariants.{NoRecord}
use Rattle.std.specs.declared.option.Option.{Option}
use Rattle.std.specs.declared.option.Option.TheVariants.{None, Some}
use Rattle.std.specs.declared.result.Result.TheVariants.{Ok, Err}

pub body-short : (k : Kind) → body_of k ≤ 32
body-short Eight = omega arith
body-short Sixteen = omega arith
body-short ThirtyTwo = omega arith

module _ (long : ℕ) where
  -- a body that fits its kind
  fit : (k : Known) → fits k long ≡ true → (j : Kind) × (k ≡ Ok j) × (long ≡ body_of j)
  fit (Ok j) e = (j, refl, eqb-true long (body_of j) e)
  fit (Err u) e = absurd (let z : ◌≡◌ {A = ℕ} 0 1 = cc in omega arith)

module _ (kind : ℕ) (body : List ℕ) (e : is_record kind body ≡ true) where
  known : (j : Kind) × (kind_of kind ≡ Ok j) × (length body ≡ body_of j)
  unfolding is_record
  known = fit (length body) (kind_of kind) e

  pub record-short : length body ≤ 32
  record-short = omega (arith, known.2, body-short known.0)

  -- it reads at the start of a payload
  pub record-reads : (payload : List ℕ) → get_or payload 0 0 ≡ kind → suc (length body) ≤ length payload
      → record_in payload ≡ Some (length (kind ∷ body))
  unfolding record_in
  record-reads payload first fits =
      ap (λ (k : ℕ). reads (kind_of k) (length payload)) first ∙ ap (λ (k : Known). reads k (length payload)) known.1
      ∙ if<-no (length payload) (suc (body_of known.0)) _ _ (omega (arith, known.2))
      ∙ ap (λ (n : ℕ). Some (suc n)) (sym known.2)

-- a body that is refused by none makes a record with its kind
pub is-one : (kind : ℕ) (body : List ℕ) → no_record kind body ≡ None → is_record kind body ≡ true
unfolding no_record
is-one kind body e = go (is_record kind body) refl
  where
    go : (b : Bool) → is_record kind body ≡ b → is_record kind body ≡ true
    go true f = f
    go false f =
        let g : Some NoRecord ≡ None = sym (when-no (is_record kind body) None (Some NoRecord) f) ∙ e in
        absurd (let z : ◌≡◌ {A = ℕ} 0 1 = cc in omega arith)

-- what reads is not empty, no longer than the payload, and has 33 bytes at most
pub record Reads (payload : List ℕ) (size : ℕ) : Type 0 where
  pub within : size ≤ length payload
  pub few : size ≤ 33
  pub not-empty : 1 ≤ size

pub record-reads-within : (payload : List ℕ) (size : ℕ) → record_in payload ≡ Some size → Reads payload size
unfolding record_in
record-reads-within payload size e = go (kind_of (get_or payload 0 0)) e
  where
    never : {A : Type 0} → ◌≡◌ {A = Option ℕ} None (Some size) → A
    never f = absurd (let z : ◌≡◌ {A = ℕ} 0 1 = cc in omega arith)

    go : (k : Known) → reads k (length payload) ≡ Some size → Reads payload size
    go (Ok j) f =
        by< (length payload) (suc (body_of j)) (λ l. never (sym (if<-yes (length payload) (suc (body_of j)) None (Some (suc (body_of j))) l) ∙ f))
        (λ l. let g = sym (if<-no (length payload) (suc (body_of j)) None (Some (suc (body_of j))) l) ∙ f in
        let n : suc (body_of j) ≡ size = cc in
        record { within = omega (arith, n); few = omega (arith, n, body-short j); not-empty = omega (arith, n) })
    go (Err u) f = never f

-- ---- what the code finds

module _ (kind : ℕ) (body : List ℕ) {k : Known} (e : k ≡ kind_of kind) where
  pub is-unknown : (u : UnknownKind) → k ≡ Err u → Some NoRecord ≡ no_record kind body
  unfolding no_record is_record
  is-unknown u f = sym (when-no _ None (Some NoRecord) (ap (λ (x : Known). fits x (length body)) (sym e ∙ f)))

  module _ (j : Kind) (f : k ≡ Ok j) where
    by-length : is_record kind body ≡ eqb (length body) (body_of j)
    unfolding is_record
    by-length = ap (λ (x : Known). fits x (length body)) (sym e ∙ f)

    pub other-length : length body ≢ body_of j → Some NoRecord ≡ no_record kind body
    unfolding no_record
    other-length n = sym (when-no _ None (Some NoRecord) (by-length ∙ ne_eqb (length body) (body_of j) n))

    pub same-length : length body ≡ body_of j → None ≡ no_record kind body
    unfolding no_record
    same-length l = sym (when-yes _ None (Some NoRecord) (by-length ∙ eq-eqb (length body) (body_of j) l))

-- the first byte, as the code reads it
pub first-byte : (payload : List ℕ) (x : ℕ) → Some x ≡ slice_get payload 0 → x ≡ get_or payload 0 0
first-byte [] x e = absurd (let z : ◌≡◌ {A = ℕ} 0 1 = cc in omega arith)
first-byte (y ∷ ys) x e = cc

pub no-byte : (payload : List ℕ) → None ≡ slice_get payload 0 → length payload ≡ 0
no-byte [] e = refl
no-byte (y ∷ ys) e = absurd (let z : ◌≡◌ {A = ℕ} 0 1 = cc in omega arith)

module _ (payload : List ℕ) where
  -- an empty payload has none
  pub none-in : length payload ≡ 0 → None ≡ record_in payload
  none-in z = go (record_in payload) refl
    where
      go : (r : Option ℕ) → record_in payload ≡ r → None ≡ record_in payload
      go None f = sym f
      go (Some size) f = let r = record-reads-within payload size f in absurd (omega (arith, r.within, r.not-empty))

  module _ {k : Known} (e : k ≡ kind_of (get_or payload 0 0)) where
    pub in-unknown : (u : UnknownKind) → k ≡ Err u → None ≡ record_in payload
    unfolding record_in
    in-unknown u f = sym (ap (λ (x : Known). reads x (length payload)) (sym e ∙ f))

    module _ (j : Kind) (f : k ≡ Ok j) where
      is-in : record_in payload ≡ reads (Ok j) (length payload)
      unfolding record_in
      is-in = ap (λ (x : Known). reads x (length payload)) (sym e ∙ f)

      pub in-short : length payload < 1 + body_of j → None ≡ record_in payload
      in-short m = sym (is-in ∙ if<-yes (length payload) (suc (body_of j)) _ _ (omega arith))

      pub in-whole : 1 + body_of j ≤ length payload → Some (1 + body_of j) ≡ record_in payload
      in-whole m =
          let n : suc (body_of j) ≡ 1 + body_of j = omega arith in
          sym (is-in ∙ if<-no (length payload) (suc (body_of j)) _ _ (omega arith) ∙ ap (λ (z : ℕ). Some z) n)
