-- The worked tape of "The request tape", by the rules on states: what each take and give-back answers, and the figures at the end.
use mathlib.Core.Logic.{inl}
use mathlib.Core.Path.{◌≡◌, ap, refl}
use mathlib.Core.List.{List, [], ◌∷◌}
use Prim.Native.Nat.{ℕ}
use native.Mathlib.Omega.{arith}
use Rattle.words.specs.Choice.{if<, if=}
use Rattle.heads.specs.Heads.{block_size}
use Rattle.classes.specs.Class.{size, least_from, class_of}
use Rattle.paper.proofs.keeps.BackKeeps.{give_back-keeps}
use Rattle.paper.proofs.keeps.FreshSound.{fresh-well-formed}
use Rattle.paper.proofs.keeps.Givable.{greatest_givable}
use Rattle.paper.proofs.keeps.LargestGrant.{plain-rule}
use Rattle.paper.proofs.keeps.TakeKeeps.{take-well-formed}
use Rattle.paper.specs.Blocks.{State}
use Rattle.paper.specs.Bins.{first, seek, rebin, enter, leave, used}
use Rattle.paper.specs.Runs.{under, from, replace, starts_at, ends_at, sum_of}
use Rattle.paper.specs.Fresh.{fresh}
use Rattle.paper.specs.Sound.{WellFormed}
use Rattle.paper.specs.Granting.{Result, choose_small, smallest_bin, choose_large, choose, take_first, cut_high, take_whole, take_part, cut_low, take}
use Rattle.paper.specs.GivingBack.{give_back_small, left, settle, give_back_large, give_back}
use Rattle.paper.specs.LookingUp.{block_at, look_up}
use Rattle.paper.specs.Counting.{figures, counters_from, class_counters}
use Rattle.std.specs.declared.result.Result.TheVariants.{Ok, Err}
use Rattle.paper.specs.Answers.{Answer}
use Rattle.paper.specs.declared.Refusal.TheVariants.{NotHeld}

pub data Request : Type 0 where
  T G : ℕ → Request

abbrev pub serve : State → Request → Result
serve s (T payload) = take s payload
serve s (G offset) = give_back s offset

abbrev pub answers : State → List Request → List Answer
answers s [] = []
answers s (r ∷ rs) = (serve s r).answer ∷ answers (serve s r).state rs

abbrev pub last : State → List Request → State
last s [] = s
last s (r ∷ rs) = last (serve s r).state rs

unfoldable pub requests : List Request
requests = T 10 ∷ T 100 ∷ T 61 ∷ T 200 ∷ G 172 ∷ T 32 ∷ T 72 ∷ G 172 ∷ G 276 ∷ T 100 ∷ G 556 ∷ []

pub worked-answers : answers (fresh 1 1024) requests
    ≡ Ok 1012 ∷ Ok 172 ∷ Ok 276 ∷ Ok 348 ∷ Ok 100 ∷ Ok 972 ∷ Ok 556 ∷ Err NotHeld ∷ Ok 68 ∷ Ok 172 ∷ Ok 76 ∷ []
unfolding requests if< if= block_size first seek rebin enter leave used under from replace starts_at ends_at sum_of fresh choose_small smallest_bin choose_large choose take_first cut_high take_whole take_part cut_low take block_at look_up give_back_small left settle give_back_large give_back
worked-answers = refl

-- the state is well formed, so that its largest grant is found by the plain rule
last-well-formed : (s : State) → WellFormed s → (rs : List Request) → WellFormed (last s rs)
last-well-formed s W [] = W
last-well-formed s W (T payload ∷ rs) = last-well-formed (take s payload).state (take-well-formed s W payload) rs
last-well-formed s W (G offset ∷ rs) = last-well-formed (give_back s offset).state (give_back-keeps s W offset).well_formed rs

pub worked-figures : figures (last (fresh 1 1024) requests)
    ≡ record { held_blocks = 4; held_bytes = 368; free_small = 0; free_large = 1; remainder = 416; free_word = 484; largest = 404 }
unfolding requests if< if= block_size first seek rebin enter leave used under from replace starts_at ends_at sum_of fresh choose_small smallest_bin choose_large choose take_first cut_high take_whole take_part cut_low take block_at look_up give_back_small left settle give_back_large give_back greatest_givable figures
worked-figures =
    ap
    (λ (largest : ℕ). record {
      held_blocks = 4;
      held_bytes = 368;
      free_small = 0;
      free_large = 1;
      remainder = 416;
      free_word = 484;
      largest = largest;
    })
    (plain-rule (last (fresh 1 1024) requests)
    (last-well-formed (fresh 1 1024) (fresh-well-formed 1 1024 (record { least = omega arith; most = omega arith; eights = refl }) (inl refl)) requests))

-- the held blocks by class: payloads of 12, 36, 100 and 204 bytes
pub worked-classes : class_counters (last (fresh 1 1024) requests)
    ≡ 0 ∷ 0 ∷ 1 ∷ 0 ∷ 0 ∷ 0 ∷ 0 ∷ 0 ∷ 0 ∷ 1 ∷ 0 ∷ 0 ∷ 0 ∷ 0 ∷ 0 ∷ 1 ∷ 0 ∷ 0 ∷ 0 ∷ 1 ∷ 0 ∷ 0 ∷ 0 ∷ 0 ∷ 0 ∷ 0 ∷ 0 ∷ 0 ∷ 0 ∷ 0 ∷ 0 ∷ 0 ∷ 0 ∷ 0 ∷ 0 ∷ 0 ∷ 0 ∷ 0 ∷ 0 ∷ 0 ∷ 0 ∷ 0 ∷ 0 ∷ 0 ∷ 0 ∷ 0 ∷ 0 ∷ 0 ∷ 0 ∷ 0 ∷ 0 ∷ 0 ∷ 0 ∷ []
unfolding requests if< if= block_size first seek rebin enter leave used under from replace starts_at ends_at sum_of fresh choose_small smallest_bin choose_large choose take_first cut_high take_whole take_part cut_low take block_at look_up give_back_small left settle give_back_large give_back size least_from class_of counters_from class_counters
worked-classes = refl
