-- Laying out writes exactly the governed bytes of a fresh pool: the stores make a sheet, and it has the paper's value at every word.
use mathlib.Core.List.{List, []}
use mathlib.Core.Logic.{◌≢◌, ◌⊎◌}
use mathlib.Core.Option.{none, some}
use mathlib.Core.Path.{◌∙◌, ◌≡◌, ap, refl, subst, sym}
use Prim.Native.Nat.{◌%◌, ◌*◌, ◌+◌, ◌-◌, ◌/◌, ◌<◌, ◌≤◌, ℕ}
use native.Mathlib.Omega.{arith}
use lib.ListN.{length}
use Rattle.heads.specs.Heads.{free_head, word_of}
use Rattle.heads.specs.Links.{link_word}
use Rattle.paper.proofs.bins.Seek.{seek-zero}
use Rattle.paper.proofs.keeps.FreshSound.{fresh-edge, fresh-ends, fresh-well-formed}
use Rattle.paper.proofs.reads.RoundTrip.{write-stands}
use Rattle.paper.proofs.reads.Stands.{Stands}
use Rattle.paper.specs.Allowed.{Allowed}
use Rattle.paper.specs.Bins.{first}
use Rattle.paper.specs.Fresh.{fresh}
use Rattle.paper.specs.Governed.{above, header_word, index, reach, sheet, walk}
use Rattle.paper.specs.Layout.{blocks_at, end_at, false_block, false_word_at, free_word_at, level_at, start_at}
use Rattle.paper.specs.Sheet.{Sheet, write}
use Rattle.laying.proofs.StoredSheet.{cleared-zeros, over, put-over, put-over-8, write_same, zeros}
use Rattle.laying.specs.LayingOut.{lay_out}
use Rattle.words.specs.Choice.{by<, by=, if<, if<-no, if<-yes, if=, if=-no, if=-yes}

-- the sheet that the stores make, the last one outermost
unfoldable stored : ℕ → ℕ → Sheet
stored t n =
    over blocks_at (4 * (n - blocks_at) + 2)
    (over (false_block + level_at) t
    (over (end_at + 4) 0 (over end_at n (over (start_at + 4) 0 (over start_at blocks_at
    (over (false_word_at + 4) 0 (over false_word_at false_block (over (free_word_at + 4) 0 (over free_word_at (n - 172) (zeros 42))))))))))

module _ (t n : ℕ) (A : Allowed n) where
  -- ---- the stores
  stores : (bs : List ℕ) → length bs ≡ n → lay_out bs n t ≡ write (stored t n) bs
  unfolding lay_out stored free_head word_of
  stores bs l =
      let rest : (n + 4294967296 - 168) % 4294967296 ≡ n - 168 = omega (arith, A.least, A.most) in
      let word : (n - 168 + 4294967296 - 4) % 4294967296 ≡ n - 172 = omega (arith, A.least, A.most) in
      let head : 4 * (n - 168) % 4294967296 + 2 * 1 + 0 ≡ 4 * (n - 168) + 2 = omega (arith, A.least, A.most) in
      rw (
        rest,
        word,
        head,
        cleared-zeros 42 bs (omega (arith, A.least)),
        put-over-8 (zeros 42) bs 0 (n - 172) refl (omega (arith, A.least)) (omega (arith, A.most)),
        put-over-8 _ bs 8 96 refl (omega (arith, A.least)) (omega arith),
        put-over-8 _ bs 16 168 refl (omega (arith, A.least)) (omega arith),
        put-over-8 _ bs 24 n refl (omega (arith, A.least)) (omega (arith, A.most)),
        put-over _ bs 108 t refl (omega (arith, A.least)),
        put-over _ bs 168 (4 * (n - 168) + 2) refl (omega (arith, A.least)),
      )

  -- ---- the paper's words
  no-bins : (j y : ℕ) → above t (blocks_at + (n - blocks_at + 0)) (λ z. []) j y ≡ 0
  unfolding above reach first
  no-bins j y = seek-zero _ _ _ (λ w l. by< _ j (λ h. if<-yes _ j 0 0 h) (λ h. if<-no _ j 0 0 h))

  header-zero : (a : ℕ) → a % 4 ≡ 0 → a < false_block → a ≢ free_word_at → a ≢ false_word_at → a ≢ start_at → a ≢ end_at → sheet (fresh t n) a ≡ some 0
  unfolding sheet fresh header_word first
  header-zero a al l n0 n1 n2 n3 =
      if<-yes a 96 _ _ l
      ∙ by= (a % 8) 0
      (λ e. if=-yes (a % 8) 0 _ _ e ∙ ap some (if=-no (a / 8) 0 _ _ (omega arith) ∙ if=-no (a / 8) 1 _ _ (omega arith)
      ∙ if=-no (a / 8) 2 _ _ (omega arith) ∙ if=-no (a / 8) 3 _ _ (omega arith)))
      (λ m. if=-no (a % 8) 0 _ _ m)

  false-zero : (a : ℕ) → false_block ≤ a → a < blocks_at → a ≢ false_block + level_at → sheet (fresh t n) a ≡ some 0
  unfolding sheet fresh index link_word
  false-zero a l h m =
      if<-no a 96 _ _ l ∙ if<-yes a 168 _ _ h ∙ if=-no (a - 96) 12 _ _ (omega arith)
      ∙ by< (a - 96) (68 - 4 * t) (λ b. if<-yes (a - 96) (68 - 4 * t) _ _ b)
      (λ b. if<-no (a - 96) (68 - 4 * t) _ _ b
      ∙ by< 64 (a - 96) (λ c. if<-yes 64 (a - 96) _ _ c)
      (λ c. if<-no 64 (a - 96) _ _ c ∙ ap some (if=-yes _ 0 _ _ (no-bins ((68 - (a - 96)) / 4) 64))))

  head-word : sheet (fresh t n) blocks_at ≡ some (4 * (n - blocks_at) + 2)
  unfolding sheet fresh walk if=
  head-word =
      let e : 4 * (n - 168) + 2 + 0 ≡ 4 * (n - 168) + 2 = omega arith in
      if<-no 168 96 _ _ (omega arith) ∙ if<-no 168 168 _ _ (omega arith) ∙ if<-yes 168 (168 + (n - 168)) _ _ (omega (arith, A.least)) ∙ ap some e

  ungoverned : (a : ℕ) → blocks_at ≤ a → a ≢ blocks_at → a < n → sheet (fresh t n) a ≡ none
  unfolding sheet fresh walk
  ungoverned a l m h =
      if<-no a 96 _ _ (omega arith) ∙ if<-no a 168 _ _ (omega arith) ∙ if<-yes a (168 + (n - 168)) _ _ (omega arith)
      ∙ if=-no (a - 168) 0 _ _ (omega arith)

  -- ---- both are one
  Same : ℕ → Type 0
  Same a = stored t n a ≡ sheet (fresh t n) a

  -- at the words that are stored one by one, by computing
  same-each : Same 0 × Same 4 × Same 8 × Same 12 × Same 16 × Same 20 × Same 24 × Same 28 × Same 108
  unfolding Same stored over zeros if= if< sheet fresh header_word index first
  same-each = (ap some word, refl, refl, refl, refl, refl, ap some last, refl, refl)
    where
      word : n - 172 ≡ n - 168 + 0 - 4
      word = omega (arith, A.least)

      last : n ≡ 168 + 0 + (n - 168)
      last = omega (arith, A.least)

  same_head : Same blocks_at
  unfolding Same stored over
  same_head = if=-yes 168 168 _ _ refl ∙ sym head-word

  -- at all others
  module _ (a : ℕ) (al : a % 4 ≡ 0) (l : a < n) (n168 : a ≢ 168) (n108 : a ≢ 108) (n28 : a ≢ 28) (n24 : a ≢ 24) (n20 : a ≢ 20) (n16 : a ≢ 16)
      (n12 : a ≢ 12) (n8 : a ≢ 8) (n4 : a ≢ 4) (n0 : a ≢ 0) where
    no_store : stored t n a ≡ zeros 42 a
    unfolding stored over
    no_store =
        if=-no a 168 _ _ n168 ∙ if=-no a 108 _ _ n108 ∙ if=-no a 28 _ _ n28 ∙ if=-no a 24 _ _ n24 ∙ if=-no a 20 _ _ n20 ∙ if=-no a 16 _ _ n16
        ∙ if=-no a 12 _ _ n12 ∙ if=-no a 8 _ _ n8 ∙ if=-no a 4 _ _ n4 ∙ if=-no a 0 _ _ n0

    same-else : Same a
    unfolding Same zeros
    same-else =
        no_store
        ∙ by< a 168
        (λ h. if<-yes a 168 _ _ h
        ∙ sym (by< a 96 (λ m. header-zero a al m n0 n8 n16 n24) (λ m. false-zero a m h n108)))
        (λ h. if<-no a 168 _ _ h ∙ sym (ungoverned a h n168 l))

  agree : (a : ℕ) → a % 4 ≡ 0 → a < n → Same a
  agree a al l =
      by= a 168 (at 168 same_head) (λ n168. by= a 108 (at 108 same-each.8) (λ n108. by= a 28 (at 28 same-each.7) (λ n28.
      by= a 24 (at 24 same-each.6) (λ n24. by= a 20 (at 20 same-each.5) (λ n20. by= a 16 (at 16 same-each.4) (λ n16.
      by= a 12 (at 12 same-each.3) (λ n12. by= a 8 (at 8 same-each.2) (λ n8. by= a 4 (at 4 same-each.1) (λ n4.
      by= a 0 (at 0 same-each.0) (λ n0. same-else a al l n168 n108 n28 n24 n20 n16 n12 n8 n4 n0))))))))))
    where
      at : (c : ℕ) → Same c → a ≡ c → Same a
      at c h e = subst Same (sym e) h

  laid-out-as : (bs : List ℕ) → length bs ≡ n → lay_out bs n t ≡ write (sheet (fresh t n)) bs
  unfolding Same
  laid-out-as bs l = stores bs l ∙ write_same (stored t n) (sheet (fresh t n)) bs (λ a al b. agree a al (omega arith))

-- what is laid out is the fresh pool of that length, and stands for it
module _ (bs : List ℕ) (A : Allowed (length bs)) (t : ℕ) where
  pub laid_out : lay_out bs (length bs) t ≡ write (sheet (fresh t (length bs))) bs
  laid_out = laid-out-as t (length bs) A bs refl

  pub laid-out-stands : (t ≡ 1) ⊎ (t ≡ 13) → Stands (fresh t (length bs)) (lay_out bs (length bs) t)
  laid-out-stands l =
      subst (Stands (fresh t (length bs))) (sym laid_out)
      (write-stands (fresh t (length bs)) (fresh-well-formed t (length bs) A l) (fresh-edge t (length bs)) bs (fresh-ends t (length bs) A))
