-- Every change of blocks has one form: past xs, the run ms becomes ms', as long, below zs. So one frame law serves all.
use mathlib.Core.List.{List, [], ◌++◌, ◌∷◌}
use mathlib.Core.Logic.{inr}
use mathlib.Core.Option.{Option, some}
use mathlib.Core.Path.{◌∙◌, ◌≡◌, ap, refl, subst, sym}
use Prim.Native.Nat.{◌%◌, ◌+◌, ◌-◌, ◌/◌, ◌<◌, ◌≤◌, ℕ}
use native.Mathlib.Omega.{arith}
use Rattle.paper.proofs.steps.Leave.{NothingNew}
use Rattle.paper.proofs.runs.Walk.{flag_past}
use Rattle.paper.specs.Blocks.{Block, State, blocks, end, size, total}
use Rattle.paper.specs.Governed.{block_word, flag_above, header_word, index, sheet, walk}
use Rattle.paper.specs.Layout.{blocks_at, false_block}
use Rattle.words.specs.Choice.{by<, by=, ifs}

-- two lists that differ past xs
pub walk-mid : (Q : Option ℕ → Option ℕ → Type 0) → ((x : Option ℕ) → Q x x) → (f : ℕ → Block → ℕ → ℕ → Option ℕ) (xs ys ys' : List Block) (p P a : ℕ)
    → p ≤ a
    → (p + total xs ≤ a → Q (walk f ys (p + total xs) (flag_past P xs) a) (walk f ys' (p + total xs) (flag_past P xs) a))
    → Q (walk f (xs ++ ys) p P a) (walk f (xs ++ ys') p P a)
unfolding walk
walk-mid Q r f [] ys ys' p P a l h =
    subst (λ (k : ℕ). k ≤ a → Q (walk f ys k P a) (walk f ys' k P a)) (omega arith) h l
walk-mid Q r f (c ∷ xs) ys ys' p P a l h =
    by< a (p + size c) (λ m. simp ifs (r _))
    (λ m. simp ifs (walk-mid Q r f xs ys ys' (p + size c) (flag_above c) a m
    (subst (λ (k : ℕ). k ≤ a → Q (walk f ys k (flag_past (flag_above c) xs) a) (walk f ys' k (flag_past (flag_above c) xs) a)) (omega arith) h)))

pub walk-skip : (f : ℕ → Block → ℕ → ℕ → Option ℕ) (ms ys : List Block) (p P a : ℕ) → p + total ms ≤ a
    → walk f (ms ++ ys) p P a ≡ walk f ys (p + total ms) (flag_past P ms) a
unfolding walk
walk-skip f [] ys p P a l = ap (λ (k : ℕ). walk f ys k P a) (omega arith)
walk-skip f (c ∷ ms) ys p P a l =
    let m : p + size c ≤ a = omega arith in
    simp ifs (walk-skip f ms ys (p + size c) (flag_above c) a (omega arith) ∙ ap (λ (k : ℕ). walk f ys k (flag_past (flag_above c) ms) a) (omega arith))

walk-left : (f : ℕ → Block → ℕ → ℕ → Option ℕ) (ms ys : List Block) (p P a : ℕ) → p ≤ a → a < p + total ms → walk f (ms ++ ys) p P a ≡ walk f ms p P a
unfolding walk
walk-left f [] ys p P a l m = absurd (omega arith)
walk-left f (c ∷ ms) ys p P a l m =
    by< a (p + size c) (λ i. simp ifs) (λ i. simp ifs (walk-left f ms ys (p + size c) (flag_above c) a i (omega arith)))

-- past the run: the same, where the flag is
pub after_same : (f : ℕ → Block → ℕ → ℕ → Option ℕ) (zs : List Block) (q P P' a : ℕ) → P' ≡ P → NothingNew (walk f zs q P' a) (walk f zs q P a)
after_same f zs q P P' a e = inr (ap (λ (k : ℕ). walk f zs q k a) e)

pub seg-walk : (f : ℕ → Block → ℕ → ℕ → Option ℕ) (xs ms ms' zs : List Block) (a : ℕ) → total ms' ≡ total ms → blocks_at ≤ a
    → (blocks_at + total xs + total ms ≤ a
    → NothingNew (walk f zs (blocks_at + total xs + total ms) (flag_past (flag_past 1 xs) ms') a)
    (walk f zs (blocks_at + total xs + total ms) (flag_past (flag_past 1 xs) ms) a))
    -- in the run itself: nothing, or as before
    → (blocks_at + total xs ≤ a → a < blocks_at + total xs + total ms
    → NothingNew (walk f ms' (blocks_at + total xs) (flag_past 1 xs) a) (walk f ms (blocks_at + total xs) (flag_past 1 xs) a))
    → NothingNew (walk f (xs ++ (ms' ++ zs)) blocks_at 1 a) (walk f (xs ++ (ms ++ zs)) blocks_at 1 a)
seg-walk f xs ms ms' zs a tot l past inside =
    walk-mid NothingNew (λ x. inr refl) f xs (ms' ++ zs) (ms ++ zs) blocks_at 1 a l
    (λ m. by< a (blocks_at + total xs + total ms)
    (λ i. rw (walk-left f ms' zs (blocks_at + total xs) (flag_past 1 xs) a m (omega arith), walk-left f ms zs (blocks_at + total xs) (flag_past 1 xs) a m i)
    (inside m i))
    (λ i. rw (walk-skip f ms' zs (blocks_at + total xs) (flag_past 1 xs) a (omega arith), walk-skip f ms zs (blocks_at + total xs) (flag_past 1 xs) a i, tot)
    (past i)))

-- two states that differ so, and in header words
pub seg-frame : (s s' : State) (xs ms ms' zs : List Block) (a : ℕ)
    → s'.top ≡ s.top → s'.bins ≡ s.bins → blocks s ≡ xs ++ (ms ++ zs) → blocks s' ≡ xs ++ (ms' ++ zs) → end s' ≡ end s → total ms' ≡ total ms
    → (a < false_block → a % 8 ≡ 0 → header_word s' (a / 8) ≡ header_word s (a / 8))
    → ((n : ℕ) → blocks_at + total xs + total ms ≤ a
    → NothingNew (walk (block_word s.top n s.bins) zs (blocks_at + total xs + total ms) (flag_past (flag_past 1 xs) ms') a)
    (walk (block_word s.top n s.bins) zs (blocks_at + total xs + total ms) (flag_past (flag_past 1 xs) ms) a))
    → ((n : ℕ) → blocks_at + total xs ≤ a → a < blocks_at + total xs + total ms
    → NothingNew (walk (block_word s.top n s.bins) ms' (blocks_at + total xs) (flag_past 1 xs) a)
    (walk (block_word s.top n s.bins) ms (blocks_at + total xs) (flag_past 1 xs) a))
    → NothingNew (sheet s' a) (sheet s a)
unfolding sheet
seg-frame s s' xs ms ms' zs a te be e e' ee tot hd past inside =
    by< a false_block
    (λ l. inr (simp ifs (by= (a % 8) 0 (λ z. simp ifs (ap some (hd l z))) (λ z. simp ifs))))
    (λ l. by< a blocks_at
    (λ m. inr (simp ifs (λ i. index (te i) (ee i) (be i) (some 0) (te i) false_block 64 (a - false_block))))
    (λ m. simp ifs
    (subst (λ (x : Option ℕ). NothingNew x (walk (block_word s.top (end s) s.bins) (blocks s) blocks_at 1 a))
    (sym (λ i. walk (block_word (te i) (ee i) (be i)) (e' i) blocks_at 1 a))
    (subst (λ (x : Option ℕ). NothingNew (walk (block_word s.top (end s) s.bins) (xs ++ (ms' ++ zs)) blocks_at 1 a) x)
    (sym (λ i. walk (block_word s.top (end s) s.bins) (e i) blocks_at 1 a))
    (seg-walk (block_word s.top (end s) s.bins) xs ms ms' zs a tot m (past (end s)) (inside (end s)))))))
