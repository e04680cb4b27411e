-- "One tape answers alike on both" (request 2026-04): no rule looks at the height of the index, so each call answers the same in either layout,
-- and leaves the same blocks and lists.
use mathlib.Core.List.{List, [], ◌∷◌}
use mathlib.Core.Path.{◌≡◌, refl, ap, sym, ◌∙◌}
use Prim.Native.Nat.{ℕ, zero, suc, ◌+◌, ◌-◌}
use Rattle.paper.specs.declared.Found.{Found}
use Rattle.paper.specs.declared.Found.TheVariants.{Held, Free, Remainder, Nothing}
use Rattle.paper.specs.Blocks.{Block, State, block, blocks, free, free_sum, held, remainder, with_top}
use Rattle.paper.specs.Counting.{figures, free_large_one, free_small_one, held_one}
use Rattle.paper.specs.GivingBack.{give_back, give_back_large, give_back_small, settle}
use Rattle.paper.specs.GoingHome.{go_home, home_by, one_home}
use Rattle.paper.specs.Granting.{Choice, R, Result, carry_out, choose, choose_large, choose_small, cut_high, cut_low, exact_bin, first_of_bin, high_end, larger_bin, low_end, refusal, refused, smallest_bin, take, take_first, take_part, take_whole}
use Rattle.paper.specs.LargestGrant.{greatest_grant, if_granted, largest_grant}
use Rattle.paper.specs.Layout.{large}
use Rattle.paper.specs.LookingUp.{by_offset, look_up}
use Rattle.paper.specs.Runs.{held_size, sum_of}
use Rattle.words.specs.Choice.{by<, by=, if<, if<-no, if<-yes, if=-no, if=-yes}
use Rattle.std.specs.declared.result.Result.TheVariants.{Ok}

-- the same answer, and the same blocks and lists
abbrev pub retopped : ℕ → Result → Result
retopped t r = record { answer = r.answer; state = with_top t r.state }

home-by-any : (t : ℕ) (xs : List Block) (s : State) → home_by xs (with_top t s) ≡ with_top t (home_by xs s)
unfolding one_home
home-by-any t [] s = refl
home-by-any t (block z held ∷ xs) s = refl
home-by-any t (block z remainder ∷ xs) s = refl
home-by-any t (block z free ∷ xs) s = home-by-any t xs (one_home s z xs)

pub home-any : (t : ℕ) (s : State) → go_home (with_top t s) ≡ with_top t (go_home s)
unfolding go_home
home-any t s = home-by-any t s.high s

module _ (t : ℕ) (s : State) where
  choose-any : (size : ℕ) → choose (with_top t s) size ≡ choose s size
  unfolding choose choose_large choose_small smallest_bin
  choose-any size = refl

  carry-out-any : (c : Choice) → carry_out (with_top t s) c ≡ retopped t (carry_out s c)
  unfolding take_first cut_high take_whole take_part cut_low
  carry-out-any (first_of_bin b) = refl
  carry-out-any (high_end b) = refl
  carry-out-any (exact_bin b) = refl
  carry-out-any (larger_bin z b) = refl
  carry-out-any (low_end b) = refl
  carry-out-any (refusal k) = refl

  pub take-any : (size : ℕ) → take (with_top t s) size ≡ retopped t (take s size)
  unfolding take
  take-any size = ap (carry_out (with_top t s)) (choose-any size) ∙ carry-out-any (choose s size)

  settle_any : (bins : ℕ → List ℕ) (a e : ℕ) → settle (with_top t s) bins a e ≡ with_top t (settle s bins a e)
  unfolding settle
  settle_any bins a e =
      by= e (R s) (λ h. if=-yes e (R s) _ _ h ∙ ap (with_top t) (sym (if=-yes e (R s) _ _ h)))
      (λ h. if=-no e (R s) _ _ h ∙ ap (with_top t) (sym (if=-no e (R s) _ _ h)))

  back_any : (q z : ℕ) → if< z large (go_home (give_back_small (with_top t s) q z)) (give_back_large (with_top t s) q z)
      ≡ with_top t (if< z large (go_home (give_back_small s q z)) (give_back_large s q z))
  unfolding give_back_small give_back_large
  back_any q z =
      by< z large (λ h. if<-yes z large _ _ h ∙ home-any t (give_back_small s q z) ∙ ap (with_top t) (sym (if<-yes z large _ _ h)))
      (λ h. if<-no z large _ _ h ∙ settle_any _ _ _ ∙ ap (with_top t) (sym (if<-no z large _ _ h)))

  abbrev given : State → ℕ → ℕ → Result
  given u q z = record { answer = Ok (z - 4); state = if< z large (go_home (give_back_small u q z)) (give_back_large u q z) }

  pub give-back-any : (offset : ℕ) → give_back (with_top t s) offset ≡ retopped t (give_back s offset)
  unfolding give_back look_up
  give-back-any offset = go (look_up s offset)
    where
      go : (x : Found) → by_offset x offset (λ k. refused k (with_top t s)) (given (with_top t s)) ≡ retopped t (by_offset x offset (λ k. refused k s) (given s))
      go (Held q z) =
          by= offset (q + 4)
          (λ e. if=-yes offset (q + 4) _ _ e ∙ ap (λ (u : State). record { answer = Ok (z - 4); state = u }) (back_any q z)
          ∙ ap (retopped t) (sym (if=-yes offset (q + 4) _ _ e)))
          (λ e. if=-no offset (q + 4) _ _ e ∙ ap (retopped t) (sym (if=-no offset (q + 4) _ _ e)))
      go (Free q z) = refl
      go (Remainder q z) = refl
      go Nothing = refl

  greatest-any : (m : ℕ) → greatest_grant (with_top t s) m ≡ greatest_grant s m
  unfolding greatest_grant
  greatest-any zero = refl
  greatest-any (suc m) =
      ap (λ (r : Result). if_granted r.answer (suc m) (greatest_grant (with_top t s) m)) (take-any (suc m))
      ∙ ap (if_granted (take s (suc m)).answer (suc m)) (greatest-any m)

  pub figures-any : figures (with_top t s) ≡ figures s
  unfolding figures largest_grant
  figures-any =
      ap (λ (k : ℕ). record {
        held_blocks = sum_of held_one (blocks s);
        held_bytes = sum_of held_size (blocks s);
        free_small = sum_of free_small_one (blocks s);
        free_large = sum_of free_large_one (blocks s);
        remainder = s.rest;
        free_word = free_sum (blocks s) - 4;
        largest = k;
      }) (greatest-any 4294967295)

-- so the layout stays
pub take-top : (s : State) (size : ℕ) → (take s size).state.top ≡ s.top
take-top s size = ap (λ (r : Result). r.state.top) (take-any s.top s size)

pub give-back-top : (s : State) (offset : ℕ) → (give_back s offset).state.top ≡ s.top
give-back-top s offset = ap (λ (r : Result). r.state.top) (give-back-any s.top s offset)
