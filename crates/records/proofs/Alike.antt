-- A turned tape has the same records as the tape, but for the layout of each lay out. Along the records: what is turned at a place leaves
-- every record past it as it is, and what is turned past a record leaves the record.
use mathlib.Core.List.{List}
use mathlib.Core.Logic.{◌≢◌}
use mathlib.Core.Path.{◌≡◌, refl, subst, sym, ap, ◌∙◌}
use Prim.Native.Nat.{ℕ, zero, suc, ◌+◌, ◌-◌, ◌≤◌, ◌<◌}
use native.Mathlib.Omega.{arith}
use lib.ListN.{length, get_or, set, length-set}
use lib.Seq.{get_or-set_same, get_or-set_other}
use Rattle.std.specs.Prelude.{None, Some}
use Rattle.words.proofs.Laws.{word_in, word_over}
use Rattle.words.specs.Choice.{by<}
use Rattle.words.specs.Words.{digits_at, word_at}
use Rattle.records.specs.declared.request.Request.{Request}
use Rattle.records.specs.declared.request.Request.TheVariants.{LayOut, LayOutIndexed, Take, GiveBack, Figures}
use Rattle.records.specs.Records.{Record, whole, kind_of, read_at}
use Rattle.records.specs.Turned.{other, turn, turned_from}
use Rattle.records.proofs.Records.{onward, same, never, no_body, short, laid, taken, given, indexed}

abbrev pub other_record : Record → Record
other_record (Some (request, next)) = whole (other request) next
other_record None = None

-- two tapes whose records are the same from a place on, but for the layout of each lay out
abbrev pub Alike : (left : ℕ) (tape tape' : List ℕ) (at : ℕ) → Type 0
Alike zero tape tape' at = Unit {0}
Alike (suc left) tape tape' at =
    (read_at tape' at ≡ other_record (read_at tape at)) × ((request : Request) (next : ℕ) → read_at tape at ≡ whole request next → Alike left tape tape' next)

-- ---- a record, by the bytes from its place on

module _ (tape tape' : List ℕ) (at : ℕ) (long : length tape' ≡ length tape) where
  -- the body, by its four bytes
  same_body : ((i : ℕ) → at < i → i ≤ at + 4 → get_or tape' i 0 ≡ get_or tape i 0) → word_at 4 tape' (at + 1) ≡ word_at 4 tape (at + 1)
  unfolding digits_at
  same_body h =
      let a : get_or tape' (at + 1) 0 ≡ get_or tape (at + 1) 0 = h (at + 1) (omega arith) (omega arith) in
      let b : get_or tape' (at + 1 + 1) 0 ≡ get_or tape (at + 1 + 1) 0 = h (at + 1 + 1) (omega arith) (omega arith) in
      let c : get_or tape' (at + 1 + 1 + 1) 0 ≡ get_or tape (at + 1 + 1 + 1) 0 = h (at + 1 + 1 + 1) (omega arith) (omega arith) in
      let d : get_or tape' (at + 1 + 1 + 1 + 1) 0 ≡ get_or tape (at + 1 + 1 + 1 + 1) 0 = h (at + 1 + 1 + 1 + 1) (omega arith) (omega arith) in
      let e : digits_at 4 tape' (at + 1) ≡ digits_at 4 tape (at + 1) = rw (a, b, c, d) in
      by< (length tape) (at + 1 + 4)
      (λ l. word_over 4 tape' (at + 1) (omega arith) ∙ sym (word_over 4 tape (at + 1) l))
      (λ l. word_in 4 tape' (at + 1) (omega arith) ∙ e ∙ sym (word_in 4 tape (at + 1) l))

  pub same-record : ((i : ℕ) → at ≤ i → get_or tape' i 0 ≡ get_or tape i 0) → read_at tape' at ≡ read_at tape at
  unfolding read_at
  same-record h = rw (long, h at (omega arith), same_body (λ i a b. h i (omega arith)))

-- what is set below a place leaves the records from there on
set_below : (tape : List ℕ) (i v at : ℕ) → i < at → read_at (set tape i v) at ≡ read_at tape at
set_below tape i v at l = same-record tape (set tape i v) at (length-set tape i v) (λ k m. get_or-set_other tape i k v 0 (omega arith))

alike_set : (left : ℕ) (tape tape' : List ℕ) (i v at : ℕ) → i < at → Alike left tape tape' at → Alike left tape (set tape' i v) at
alike_set zero tape tape' i v at l a = tt
alike_set (suc left) tape tape' i v at l a = (
  set_below tape' i v at l ∙ a.0,
  λ request next e. alike_set left tape tape' i v next (omega (arith, (onward tape at e).past-this)) (a.1 request next e),
)

-- ---- the turned tape

pub turned-long : (left : ℕ) (tape : List ℕ) (at : ℕ) → length (turned_from left tape at) ≡ length tape
unfolding turned_from
turned-long zero tape at = refl
turned-long (suc left) tape at = go (turned-long left tape) (read_at tape at)
  where
    go : ((next : ℕ) → length (turned_from left tape next) ≡ length tape) → (x : Record)
        → length (turn x (λ request next. set (turned_from left tape next) at (kind_of (other request))) tape) ≡ length tape
    go on None = refl
    go on (Some (request, next)) = length-set (turned_from left tape next) at (kind_of (other request)) ∙ on next

-- nothing below the place is turned
turned-below : (left : ℕ) (tape : List ℕ) (at i : ℕ) → i < at → get_or (turned_from left tape at) i 0 ≡ get_or tape i 0
unfolding turned_from
turned-below zero tape at i l = refl
turned-below (suc left) tape at i l = go (λ next m. turned-below left tape next i m) (read_at tape at) refl
  where
    go : ((next : ℕ) → i < next → get_or (turned_from left tape next) i 0 ≡ get_or tape i 0) → (x : Record) → read_at tape at ≡ x
        → get_or (turn x (λ request next. set (turned_from left tape next) at (kind_of (other request))) tape) i 0 ≡ get_or tape i 0
    go on None e = refl
    go on (Some (request, next)) e =
        get_or-set_other (turned_from left tape next) at i (kind_of (other request)) 0 (omega arith) ∙ on next (omega (arith, (onward tape at e).past-this))

-- a whole record on another tape, which has its body and the other kind
module _ (tape tape' : List ℕ) (at : ℕ) (long : length tape' ≡ length tape) where
  -- of a record with a body
  module _ (request : Request) (next : ℕ) (e : read_at tape at ≡ whole request next) (n4 : get_or tape at 0 ≢ 4) where
    inside : at < length tape
    inside = omega (arith, onward tape at e)

    room : 4 ≤ length tape - (at + 1)
    room = by< (length tape - (at + 1)) 4 (λ l. absurd (never (short tape at inside n4 l ∙ e))) (λ l. l)

    -- the body is the request's number n, and the next record is past it
    module _ (make : ℕ → Request) (n : ℕ) (is : whole (make (word_at 4 tape (at + 1))) (at + 1 + 4) ≡ whole request next → word_at 4 tape (at + 1) ≡ n)
        (was : whole (make (word_at 4 tape (at + 1))) (at + 1 + 4) ≡ read_at tape at) (h : (i : ℕ) → at < i → i < next → get_or tape' i 0 ≡ get_or tape i 0)
        (made : ℕ → Request) (now : (v : ℕ) → v ≡ word_at 4 tape' (at + 1) → at < length tape' → 4 ≤ length tape' - (at + 1)
        → whole (made v) (at + 1 + 4) ≡ read_at tape' at) where
      with-body : read_at tape' at ≡ whole (made n) next
      with-body =
          let w : whole (make (word_at 4 tape (at + 1))) (at + 1 + 4) ≡ whole request next = was ∙ e in
          let place : at + 1 + 4 ≡ next = (same w).1 in
          let body : word_at 4 tape' (at + 1) ≡ n = same_body tape tape' at long (λ i a b. h i a (omega arith)) ∙ is w in
          sym (now n (sym body) (omega (arith, inside)) (omega (arith, room))) ∙ ap (whole (made n)) place

  turned-record : (request : Request) (next : ℕ) → read_at tape at ≡ whole request next → get_or tape' at 0 ≡ kind_of (other request)
      → ((i : ℕ) → at < i → i < next → get_or tape' i 0 ≡ get_or tape i 0) → read_at tape' at ≡ whole (other request) next
  turned-record (LayOut n) next e k h =
      let o = (onward tape at e).kind in let n4 : get_or tape at 0 ≢ 4 = omega arith in
      with-body (LayOut n) next e n4 LayOut n (λ w. cc ((same w).0))
      (laid tape at _ refl (inside (LayOut n) next e n4) n4 (room (LayOut n) next e n4) o) h LayOutIndexed
      (λ v q l m. indexed tape' at v q l (omega arith) m (omega arith) (omega arith) (omega arith) k)
  turned-record (LayOutIndexed n) next e k h =
      let o = (onward tape at e).kind in let n4 : get_or tape at 0 ≢ 4 = omega arith in
      with-body (LayOutIndexed n) next e n4 LayOutIndexed n (λ w. cc ((same w).0))
      (indexed tape at _ refl (inside (LayOutIndexed n) next e n4) n4 (room (LayOutIndexed n) next e n4) (omega arith) (omega arith) (omega arith) o) h LayOut
      (λ v q l m. laid tape' at v q l (omega arith) m k)
  turned-record (Take n) next e k h =
      let o = (onward tape at e).kind in let n4 : get_or tape at 0 ≢ 4 = omega arith in
      with-body (Take n) next e n4 Take n (λ w. cc ((same w).0))
      (taken tape at _ refl (inside (Take n) next e n4) n4 (room (Take n) next e n4) (omega arith) o) h Take
      (λ v q l m. taken tape' at v q l (omega arith) m (omega arith) k)
  turned-record (GiveBack n) next e k h =
      let o = (onward tape at e).kind in let n4 : get_or tape at 0 ≢ 4 = omega arith in
      with-body (GiveBack n) next e n4 GiveBack n (λ w. cc ((same w).0))
      (given tape at _ refl (inside (GiveBack n) next e n4) n4 (room (GiveBack n) next e n4) (omega arith) (omega arith) o) h GiveBack
      (λ v q l m. given tape' at v q l (omega arith) m (omega arith) (omega arith) k)
  turned-record Figures next e k h =
      let o = onward tape at e in
      let w : whole Figures (at + 1) ≡ whole Figures next = no_body tape at (omega arith) o.kind ∙ e in
      let place : at + 1 ≡ next = (same w).1 in
      sym (no_body tape' at (omega (arith, o)) k) ∙ ap (whole Figures) place

pub turned-alike : (left : ℕ) (tape : List ℕ) (at : ℕ) → Alike left tape (turned_from left tape at) at
unfolding turned_from
turned-alike zero tape at = tt
turned-alike (suc left) tape at = go (turned-alike left tape) (read_at tape at) refl
  where
    go : ((next : ℕ) → Alike left tape (turned_from left tape next) next) → (x : Record) → read_at tape at ≡ x
        → Alike (suc left) tape (turn x (λ request next. set (turned_from left tape next) at (kind_of (other request))) tape) at
    go on None e = (e ∙ sym (ap other_record e), λ request next f. absurd (never (sym e ∙ f)))
    go on (Some (request, next)) e =
        let T : List ℕ = turned_from left tape next in
        let o = onward tape at e in (
          turned-record tape (set T at (kind_of (other request))) at (length-set T at (kind_of (other request)) ∙ turned-long left tape next) request next e
              (get_or-set_same T at (kind_of (other request)) 0 (omega (arith, turned-long left tape next, o)))
              (λ i a b. get_or-set_other T at i (kind_of (other request)) 0 (omega arith) ∙ turned-below left tape next i b)
              ∙ sym (ap other_record e),
          λ r n f. let w : whole request next ≡ whole r n = sym e ∙ f in let m : next ≡ n = (same w).1 in
              subst (Alike left tape (set T at (kind_of (other request)))) m (alike_set left tape T at (kind_of (other request)) next o.past-this (on next)),
        )
