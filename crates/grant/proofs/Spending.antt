-- What every grant ends with: the free word falls, last in the model and first in the paper's stores, and the payload's offset is answered.
use mathlib.Core.List.{List, ◌∷◌}
use mathlib.Core.Path.{◌∙◌, ◌≡◌}
use Prim.Native.Nat.{◌+◌, ◌-◌, ◌≤◌, ℕ}
use native.Mathlib.Omega.{arith}
use Rattle.grant.specs.Granted.{granted, spent}
use Rattle.paper.proofs.sheet.FreeWordLast.{Past, past-put, past_word}
use Rattle.paper.proofs.sheet.Stores.{puts}
use Rattle.paper.specs.Blocks.{State}
use Rattle.paper.specs.Calls.{leaves}
use Rattle.paper.specs.Governed.{sheet}
use Rattle.paper.specs.Granting.{granted as granted-state}
use Rattle.paper.specs.Layout.{free_word_at}
use Rattle.paper.specs.Sheet.{write}
use Rattle.words.specs.Sums.{minus, plus}
use Rattle.words.specs.Words.{put_at, word_at}
use Rattle.std.specs.declared.result.Result.TheVariants.{Ok}
use Rattle.paper.specs.Answers.{out}

pub spent-is : (bs : List ℕ) (b f : ℕ) → word_at 4 bs free_word_at ≡ f → f ≤ 65536 → b ≤ f → spent bs b ≡ put_at 4 bs free_word_at (f - b)
unfolding spent
spent-is bs b f e m l = let d : minus f b ≡ f - b = omega arith in rw (e, d)

-- stores past the free word can be made before it or after it
pub spent-stores : (ps : List (ℕ × ℕ)) (bs : List ℕ) (b f : ℕ) → Past ps → word_at 4 bs free_word_at ≡ f → f ≤ 65536 → b ≤ f
    → spent (puts ps bs) b ≡ puts ((free_word_at, f - b) ∷ ps) bs
spent-stores ps bs b f h e m l = spent-is (puts ps bs) b f (past_word ps bs h ∙ e) m l ∙ past-put ps bs (f - b) h

pub granted-leaves : (cs : List ℕ) (q b : ℕ) (s : State) (bs : List ℕ) → q ≤ 65536 → spent cs b ≡ write (sheet s) bs
    → granted cs q b ≡ leaves (granted-state q s) bs
unfolding granted
granted-leaves cs q b s bs near e = let p : plus q 4 ≡ q + 4 = omega arith in λ i. out (Ok (p i)) (e i)
