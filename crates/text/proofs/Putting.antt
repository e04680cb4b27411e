-- Texts on a page: two texts put one after the other are their join, and a text that fits stands in its place, with all other bytes as they were.
use mathlib.Core.Path.{◌≡◌, refl, sym, ap, ◌∙◌}
use mathlib.Core.List.{List, [], ◌∷◌, ◌++◌}
use Prim.Native.Nat.{ℕ, ◌+◌, ◌≤◌, ◌<◌}
use native.Mathlib.Nat.{add-zero, zero-add}
use native.Mathlib.Numerals.{add-one}
use native.Mathlib.Omega.{arith}
use lib.ListN.{length, get_or, set, take, drop, length-set}
use lib.Seq.{sets, sets-eq}
use Rattle.words.specs.Choice.{if<-yes, if<-no, by<}
use Rattle.std.proofs.Math.Seq.{take-suc}
use Rattle.text.specs.Page.{Page, page, put_one, put}
use Rattle.text.specs.declared.Page.{Page as Lent}
use Rattle.text.specs.Lent.{shown, Puts}

pub put-append : (p : Page) (t u : List ℕ) → put p (t ++ u) ≡ put (put p t) u
unfolding put
put-append p [] u = refl
put-append p (b ∷ t) u = put-append (put_one p b) t u

pub put_one-length : (p : Page) (b : ℕ) → length (put_one p b).bytes ≡ length p.bytes
unfolding put_one
put_one-length p b =
    by< p.place (length p.bytes)
    (λ h. ap (λ (q : Page). length q.bytes) (if<-yes _ _ _ _ h) ∙ length-set p.bytes p.place b)
    (λ h. ap (λ (q : Page). length q.bytes) (if<-no _ _ _ _ h))

pub put-length : (p : Page) (t : List ℕ) → length (put p t).bytes ≡ length p.bytes
unfolding put
put-length p [] = refl
put-length p (b ∷ t) = put-length (put_one p b) t ∙ put_one-length p b

-- a text that fits, as stores
put-sets : (t bytes : List ℕ) (at : ℕ) → at + length t ≤ length bytes → put (page at bytes) t ≡ page (at + length t) (sets bytes at t)
unfolding put put_one
put-sets [] bytes at h = ap (λ (k : ℕ). page k bytes) (sym (add-zero at))
put-sets (b ∷ t) bytes at h =
    let e : put_one (page at bytes) b ≡ page (at + 1) (set bytes at b) = if<-yes at (length bytes) _ _ (omega arith) in
    let n : at + 1 + length t ≡ at + length (b ∷ t) = omega arith in
    rw (e, put-sets t (set bytes at b) (at + 1) (rw length-set (omega arith)), n, add-one at)

-- a text that fits stands in its place
pub put-fits : (t bytes : List ℕ) (at : ℕ)
    → at + length t ≤ length bytes
    → put (page at bytes) t ≡ page (at + length t) (take at bytes ++ t ++ drop (at + length t) bytes)
put-fits t bytes at h = put-sets t bytes at h ∙ ap (λ (l : List ℕ). page (at + length t) l) (sets-eq t bytes at h)

-- a text put on a whole page
pub put_front : (t bytes : List ℕ) → length t ≤ length bytes → put (page 0 bytes) t ≡ page (length t) (t ++ drop (length t) bytes)
put_front t bytes h = rw zero-add at (put-fits t bytes 0 (omega arith))

-- ---- a lent page

pub puts-none : (p : Lent) → Puts p [] p
unfolding put
puts-none p = record { same_bytes = refl; shows = refl }

pub puts-append : {p q r : Lent} {t u : List ℕ} → Puts p t q → Puts q u r → Puts p (t ++ u) r
puts-append {p} {q} {r} {t} {u} f g =
    record { same_bytes = g.same_bytes ∙ f.same_bytes; shows = put-append (shown p) t u ∙ ap (λ (x : Page). put x u) f.shows ∙ g.shows }

-- one byte more of a text
pub puts-more : {p q r : Lent} (text : List ℕ) (i : ℕ) → i < length text → Puts p (take i text) q → Puts q (get_or text i 0 ∷ []) r
    → Puts p (take (i + 1) text) r
puts-more text i h f g = rw (add-one i, take-suc text i 0 h) (puts-append f g)
