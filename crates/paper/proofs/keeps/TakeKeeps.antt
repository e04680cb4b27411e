-- A take keeps every well_formed state well formed, whatever is asked for, and a refused one changes nothing: by the cases of its rule.
use mathlib.Core.Logic.{◌≢◌}
use mathlib.Core.Path.{◌≡◌, refl}
use Prim.Native.Nat.{◌%◌, ◌≤◌, ℕ}
use native.Mathlib.Omega.{arith}
use Rattle.heads.specs.Heads.{block_size}
use Rattle.paper.proofs.keeps.Choices.{by-choices}
use Rattle.paper.proofs.keeps.Kept.{Kept, kept_same}
use Rattle.paper.proofs.keeps.TakeLargeKeeps.{cut_low-keeps, take_part-keeps, take_whole-keeps}
use Rattle.paper.proofs.keeps.TakeSmallKeeps.{cut_high-keeps, take_first-keeps}
use Rattle.paper.specs.Blocks.{State, end}
use Rattle.paper.specs.Granting.{Result, carry_out, cut_high, cut_low, granted, take, take_first, take_part, take_whole}
use Rattle.paper.specs.Sound.{WellFormed}
use Rattle.std.specs.declared.result.Result.TheVariants.{Err}
use Rattle.paper.specs.declared.Refusal.TheVariants.{NoRoom}
use Rattle.paper.specs.declared.Refusal.{Refusal}

-- ---- the block that a payload needs
pub block_size-least : (payload : ℕ) → 8 ≤ block_size payload
unfolding block_size
block_size-least payload = omega arith

pub block_size-eights : (payload : ℕ) → block_size payload % 8 ≡ 0
unfolding block_size
block_size-eights payload = omega arith

-- ---- kept
pub take-keeps : (s : State) → WellFormed s → (payload : ℕ) → Kept s (take s payload).state
unfolding take
take-keeps s W payload =
    let b = block_size payload in
    let least = block_size-least payload in
    let eights = block_size-eights payload in
    by-choices s payload (λ c. Kept s (carry_out s c).state)
    (record {
      without-size = λ e. kept_same s W;
      without-room = λ n e r. kept_same s W;
      from-its-bin = λ l n. take_first-keeps s W b l least eights n;
      from-high-end = λ l r. cut_high-keeps s W b l least eights r;
      from-exact = λ l n. take_whole-keeps s W b l eights n;
      from-larger = λ l z m n. take_part-keeps s W b l eights z m n;
      from-low-end = λ l r. cut_low-keeps s W b l eights r;
    })

pub take-well-formed : (s : State) → WellFormed s → (payload : ℕ) → WellFormed (take s payload).state
take-well-formed s W payload = (take-keeps s W payload).well_formed

pub take_ends : (s : State) → WellFormed s → (payload : ℕ) → end (take s payload).state ≡ end s
take_ends s W payload = (take-keeps s W payload).ends

pub take-same-top : (s : State) → WellFormed s → (payload : ℕ) → (take s payload).state.top ≡ s.top
take-same-top s W payload = (take-keeps s W payload).same-top

-- ---- refused: nothing changes, and a size that is not 0 lacks room
abbrev IfRefused : State → ℕ → Result → Type 0
IfRefused s payload r = (k : Refusal) → r.answer ≡ Err k → (r.state ≡ s) × (payload ≢ 0 → k ≡ NoRoom)

granted-not : (s : State) (payload q : ℕ) (s' : State) → IfRefused s payload (granted q s')
granted-not s payload q s' k e = absurd (let z : ◌≡◌ {A = ℕ} 0 1 = cc in omega arith)

if-refused : (s : State) (payload : ℕ) → IfRefused s payload (take s payload)
unfolding take take_first cut_high take_whole take_part cut_low
if-refused s payload =
    by-choices s payload (λ c. IfRefused s payload (carry_out s c))
    (record {
      without-size = λ z k e. (refl, λ n. absurd (n z));
      without-room = λ n f r k e. (refl, λ m. cc);
      from-its-bin = λ l n. granted-not s payload _ _;
      from-high-end = λ l r. granted-not s payload _ _;
      from-exact = λ l n. granted-not s payload _ _;
      from-larger = λ l z m n. granted-not s payload _ _;
      from-low-end = λ l r. granted-not s payload _ _;
    })

pub take-refused : (s : State) (payload : ℕ) (k : Refusal) → (take s payload).answer ≡ Err k → (take s payload).state ≡ s
take-refused s payload k e = (if-refused s payload k e).0

pub take-refused-for-room : (s : State) (payload : ℕ) (k : Refusal) → payload ≢ 0 → (take s payload).answer ≡ Err k → k ≡ NoRoom
take-refused-for-room s payload k n e = (if-refused s payload k e).1 n
