-- The loop along level 1 of the index: where each way out leads, and that it goes on. Each bin that was followed took a mark, so it ends.
use mathlib.Core.Bool.{Bool, false, true}
use mathlib.Core.List.{List, [], ◌∷◌}
use mathlib.Core.Path.{◌∙◌, ◌≡◌, ap, refl, sym}
use Prim.Native.Nat.{◌+◌, ◌-◌, ◌/◌, ◌<◌, ◌≤◌, suc, zero, ℕ}
use native.Mathlib.Omega.{arith}
use lib.ListN.{length, replicate}
use Rattle.std.proofs.Common.{Option, Some, None}
use Rattle.heads.specs.Heads.{size_at}
use Rattle.heads.specs.Links.{followed}
use Rattle.guards.proofs.Guards.{guard-inv, pass-is, pass-no}
use Rattle.guards.specs.Tests.{Test, holds, less, pass, same}
use Rattle.levels.specs.Levels.{top_of}
use Rattle.lists.proofs.Following.{lost-left}
use Rattle.lists.specs.Contract.{to_awaited, to_left}
use Rattle.lists.specs.Index.{Awaited, astray, awaiting, ended, false_indexed, first_indexed, if_awaiting, indexed, next_on}
use Rattle.lists.specs.Lists.{Left, chain, follow, if_left, large_tests, left, lists, lost, next_large, smalls}
use Rattle.marks.specs.MarkSets.{bit_marks, mark_at}
use Rattle.marks.specs.Marks.{put_bit_at}
use Rattle.paper.specs.Layout.{chain_at, false_block, levels}
use Rattle.words.specs.Choice.{by=, if=-no, if=-yes}
use Rattle.words.specs.Words.{word_at}

pub record Chained (t : ℕ) (s m₀ ws₀ : List ℕ) (k f0 : ℕ) (m ws : List ℕ) (n y f : ℕ) : Type 0 where
  pub long : length m ≡ length m₀
  pub small : f < 4294967296
  pub fuel : ℕ
  pub enough : n < fuel
  pub all : chain bit_marks t s (suc k) k m₀ 64 f0 ws₀ ≡ chain bit_marks t s fuel n m y f ws

pub chain-start : (t : ℕ) (s m ws : List ℕ) (k f0 : ℕ) → f0 < 4294967296 → Chained t s m ws k f0 m ws k 64 f0
chain-start t s m ws k f0 h = record { long = refl; small = h; fuel = suc k; enough = omega arith; all = refl }

abbrev end-tests : ℕ → ℕ → List ℕ → List Test
end-tests t n ws = same n 0 ∷ holds (ended t ws) ∷ []

module _ (t : ℕ) (s m : List ℕ) where
  chain-end : (c n y f : ℕ) (ws : List ℕ) → f ≡ 0 → n < c → chain bit_marks t s c n m y f ws ≡ pass (end-tests t n ws)
  unfolding chain
  chain-end zero n y f ws e l = absurd (omega arith)
  chain-end (suc c) n y f ws e l = if=-yes f 0 _ _ e

  chain-astray : (c n y f z : ℕ) (ws : List ℕ) → (f ≡ 0 → ⊥) → z ≡ size_at s f → astray ≡ first_indexed s t y z f ws → chain bit_marks t s c n m y f ws ≡ false
  unfolding chain
  chain-astray zero n y f z ws e ez h = refl
  chain-astray (suc c) n y f z ws e ez h =
      if=-no f 0 _ _ e
      ∙ ap (λ (v : Awaited). if_awaiting v false (λ ws'. if_left (follow bit_marks (large_tests s (size_at s f)) (next_large s) n m 0 f) false
      (λ k' ms'. chain bit_marks t s c k' ms' (size_at s f) (next_on s 1 f) ws'))) (ap (λ (v : ℕ). first_indexed s t y v f ws) (sym ez) ∙ sym h)

  chain_next : (c n y f z : ℕ) (ws ws' : List ℕ) → (f ≡ 0 → ⊥) → z ≡ size_at s f → awaiting ws' ≡ first_indexed s t y z f ws → (x : Left (List ℕ))
      → x ≡ follow bit_marks (large_tests s z) (next_large s) n m 0 f
      → chain bit_marks t s (suc c) n m y f ws ≡ if_left x false (λ k' ms'. chain bit_marks t s c k' ms' z (next_on s 1 f) ws')
  unfolding chain
  chain_next c n y f z ws ws' e ez h x ex =
      if=-no f 0 _ _ e
      ∙ ap (λ (u : ℕ). if_awaiting (first_indexed s t y u f ws) false (λ ws''. if_left (follow bit_marks (large_tests s u) (next_large s) n m 0 f) false
      (λ k' ms'. chain bit_marks t s c k' ms' u (next_on s 1 f) ws''))) (sym ez)
      ∙ ap (λ (v : Awaited). if_awaiting v false (λ ws''. if_left (follow bit_marks (large_tests s z) (next_large s) n m 0 f) false
      (λ k' ms'. chain bit_marks t s c k' ms' z (next_on s 1 f) ws''))) (sym h)
      ∙ ap (λ (v : Left (List ℕ)). if_left v false (λ k' ms'. chain bit_marks t s c k' ms' z (next_on s 1 f) ws')) (sym ex)

-- a list that has a member takes a mark
follow-le : (tests : ℕ → ℕ → List Test) (next : ℕ → ℕ) (k : ℕ) (m : List ℕ) (p q k' : ℕ) (m' : List ℕ)
    → follow bit_marks tests next k m p q ≡ left k' m' → k' ≤ k
unfolding follow
follow-le tests next zero m p q k' m' h =
    by= q 0 (λ e. let a : left zero m ≡ left k' m' = sym (if=-yes q 0 _ _ e) ∙ h in let b : zero ≡ k' = cc in omega arith)
    (λ e. absurd (lost-left k' m' (sym (if=-no q 0 _ _ e) ∙ h)))
follow-le tests next (suc k) m p q k' m' h =
    by= q 0 (λ e. let a : left (suc k) m ≡ left k' m' = sym (if=-yes q 0 _ _ e) ∙ h in let b : suc k ≡ k' = cc in omega arith)
    (λ e. let r = guard-inv (less 0 (mark_at m q) ∷ tests p q) lost (follow bit_marks tests next k (put_bit_at m (q / 8) 0) q (next q)) (left k' m')
    (lost-left k' m') (sym (if=-no q 0 _ _ e) ∙ h) in
    omega (arith, follow-le tests next k (put_bit_at m (q / 8) 0) q (next q) k' m' r.1))

follow-lt : (tests : ℕ → ℕ → List Test) (next : ℕ → ℕ) (k : ℕ) (m : List ℕ) (p q k' : ℕ) (m' : List ℕ) → (q ≡ 0 → ⊥)
    → follow bit_marks tests next k m p q ≡ left k' m' → k' < k
unfolding follow
follow-lt tests next zero m p q k' m' e h = absurd (lost-left k' m' (sym (if=-no q 0 _ _ e) ∙ h))
follow-lt tests next (suc k) m p q k' m' e h =
    let r = guard-inv (less 0 (mark_at m q) ∷ tests p q) lost (follow bit_marks tests next k (put_bit_at m (q / 8) 0) q (next q)) (left k' m')
    (lost-left k' m') (sym (if=-no q 0 _ _ e) ∙ h) in
    omega (arith, follow-le tests next k (put_bit_at m (q / 8) 0) q (next q) k' m' r.1)

module _ {t : ℕ} {s m₀ ws₀ : List ℕ} {k f0 : ℕ} {m ws : List ℕ} {n y f : ℕ} (g : Chained t s m₀ ws₀ k f0 m ws n y f) where
  abbrev All-bins : Bool
  All-bins = chain bit_marks t s (suc k) k m₀ 64 f0 ws₀

  pub marks-left : f ≡ 0 → (n ≡ 0 → ⊥) → false ≡ All-bins
  marks-left e h = pass-no (end-tests t n ws) (λ p. h p.0) ∙ sym (g.all ∙ chain-end t s m g.fuel n y f ws e g.enough)

  pub ended-decides : {b : Bool} → f ≡ 0 → n ≡ 0 → b ≡ ended t ws → b ≡ All-bins
  ended-decides {b} e h eb =
      pass-is (end-tests t n ws) b (λ i. (h, (sym eb ∙ i, tt))) (λ p. eb ∙ p.1.0) ∙ sym (g.all ∙ chain-end t s m g.fuel n y f ws e g.enough)

  -- what the tests of the first block f, of size z, answered
  module _ (ne : f ≡ 0 → ⊥) {z : ℕ} (ez : z ≡ size_at s f) (b : Bool) (ws' : List ℕ) (eb : to_awaited b ws' ≡ first_indexed s t y z f ws) where
    pub chain-bad : b ≡ false → false ≡ All-bins
    chain-bad i =
        sym (g.all ∙ chain-astray t s m g.fuel n y f z ws ne ez (ap (λ (v : Bool). to_awaited v ws') (sym i) ∙ eb))

    -- and its list, which was followed
    module _ (i : b ≡ true) (r : Option ℕ) (m' : List ℕ) (ex : to_left r m' ≡ follow bit_marks (large_tests s z) (next_large s) n m 0 f) where
      abbrev on-bins : Left (List ℕ) → Bool
      on-bins x = if_left x false (λ k' ms'. chain bit_marks t s (g.fuel - 1) k' ms' z (next_on s 1 f) ws')

      chain-step : All-bins ≡ on-bins (to_left r m')
      chain-step =
          g.all ∙ ap (λ (x : ℕ). chain bit_marks t s x n m y f ws) (omega (arith, g.enough))
          ∙ chain_next t s m (g.fuel - 1) n y f z ws ws' ne ez (ap (λ (v : Bool). to_awaited v ws') (sym i) ∙ eb) (to_left r m') ex

      pub chain-lost : r ≡ None → false ≡ All-bins
      chain-lost j = sym (chain-step ∙ ap (λ (v : Option ℕ). on-bins (to_left v m')) j)

      module _ {n' : ℕ} (j : r ≡ Some n') where
        pub bin-less : n' < n
        bin-less =
            follow-lt (large_tests s z) (next_large s) n m 0 f n' m' ne (sym ex ∙ ap (λ (v : Option ℕ). to_left v m') j)

        pub chain-on : {x u : ℕ} → length m' ≡ length m → u ≡ word_at 4 s (f + chain_at) → x ≡ followed f u → x < 4294967296
            → Chained t s m₀ ws₀ k f0 m' ws' n' z x
        chain-on {x} lm eu et ts =
            record {
              long = lm ∙ g.long;
              small = ts;
              fuel = g.fuel - 1;
              enough = omega (arith, g.enough, bin-less);
              all = chain-step ∙ ap (λ (v : Option ℕ). on-bins (to_left v m')) j
                  ∙ ap (λ (v : ℕ). chain bit_marks t s (g.fuel - 1) n' m' z v ws') (sym (et ∙ ap (followed f) eu));
            }

-- ---- all of them

module _ (s m m' : List ℕ) (k : ℕ) (r : Option ℕ) (e : to_left r m' ≡ smalls bit_marks s 8 8 k m) where
  abbrev on-index : ℕ → List ℕ → Awaited → Bool
  on-index k' ms' v = if_awaiting v false (λ ws. chain bit_marks (top_of s) s (suc k') k' ms' 64 (next_on s 1 false_block) ws)

  abbrev on_chain : Left (List ℕ) → Bool
  on_chain v = if_left v false (λ k' ms'. on-index k' ms' (false_indexed s))

  pub lists-lost : r ≡ None → false ≡ lists bit_marks s k m
  unfolding lists
  lists-lost h = sym (ap on_chain (sym e) ∙ ap (λ (v : Option ℕ). on_chain (to_left v m')) h)

  module _ {n : ℕ} (h : r ≡ Some n) {t : ℕ} (et : t ≡ top_of s) (b : Bool) (ws : List ℕ)
      (eb : to_awaited b ws ≡ indexed s t false_block (replicate (levels - 1) false_block)) where
    lists_at : lists bit_marks s k m ≡ on-index n m' (to_awaited b ws)
    unfolding lists
    lists_at =
        ap on_chain (sym e) ∙ ap (λ (v : Option ℕ). on_chain (to_left v m')) h
        ∙ ap (on-index n m') (ap (λ (v : ℕ). indexed s v false_block (replicate (levels - 1) false_block)) (sym et) ∙ sym eb)

    pub lists-astray : b ≡ false → false ≡ lists bit_marks s k m
    lists-astray i = sym (lists_at ∙ ap (λ (v : Bool). on-index n m' (to_awaited v ws)) i)

    pub lists-on : {w f : ℕ} {x : Bool} → b ≡ true → w ≡ word_at 4 s (false_block + chain_at) → f ≡ followed false_block w
        → x ≡ chain bit_marks t s (suc n) n m' 64 f ws → x ≡ lists bit_marks s k m
    lists-on {f = f} i ew ef ex =
        ex ∙ ap (λ (v : ℕ). chain bit_marks v s (suc n) n m' 64 f ws) et
        ∙ ap (λ (v : ℕ). chain bit_marks (top_of s) s (suc n) n m' 64 v ws) (ef ∙ ap (followed false_block) ew)
        ∙ sym (lists_at ∙ ap (λ (v : Bool). on-index n m' (to_awaited v ws)) i)
