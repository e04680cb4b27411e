-- A run of calls on a bank, and what a dealer expects each piston to show after it: "each piston shows its latest accepted setting" (request
-- 2026-03).
use Rattle.std.specs.Prelude.{List, [], ◌∷◌, ◌≢◌, ◌⊎◌, ◌≡◌, ℕ, ◌+◌, ◌<◌, ◌≤◌, Option, Some, None, get_or, length, replicate}
use Rattle.words.specs.Choice.{if=}
use Rattle.words.specs.Parts.{replaced_part}
use Rattle.words.specs.Words.{Bytes}
use Rattle.pool.specs.Calls.{take, give_back, ask}
use Rattle.bank.specs.Calls.{by_refusal, refused, set, clear, recall, shown}
use Rattle.std.specs.declared.result.Result.TheVariants.{Ok}
use Rattle.paper.specs.declared.Refusal.{Refusal}
use Rattle.paper.specs.declared.Refusal.TheVariants.{NoPiston, NoRecord, NoRoom}

pub data Call : Type 0 where
  sets : (piston kind : ℕ) (body : List ℕ) → Call
  clears recalls : (piston : ℕ) → Call

-- ---- by the list of calls and their answers alone

-- a call, and what it answered: why it was refused, if it was
pub record Line : Type 0 where
  pub call : Call
  pub refusal : Option Refusal

-- what the piston shows after a call that was accepted: the record that it was set to, nothing where it was cleared, else what it showed
abbrev pub accepted : ℕ → List ℕ → Call → List ℕ
accepted piston old (sets p kind body) = if= p piston (kind ∷ body) old
accepted piston old (clears p) = if= p piston [] old
accepted piston old (recalls p) = old

-- down the list, from what it showed before: a refused call changes nothing
unfoldable pub latest : ℕ → List ℕ → List Line → List ℕ
latest piston old [] = old
latest piston old (l ∷ ls) = latest piston (by_refusal l.refusal (λ k. old) (accepted piston old l.call)) ls

-- ---- by the calls

-- "an empty bank"
unfoldable pub empty : List ℕ
empty = replicate 32 0

abbrev pub pool_after : List ℕ → List ℕ → Call → List ℕ
pool_after bs bank (sets p kind body) = (set bs bank p kind body).pool
pool_after bs bank (clears p) = (clear bs bank p).pool
pool_after bs bank (recalls p) = bs

abbrev pub bank_after : List ℕ → List ℕ → Call → List ℕ
bank_after bs bank (sets p kind body) = (set bs bank p kind body).bank
bank_after bs bank (clears p) = (clear bs bank p).bank
bank_after bs bank (recalls p) = bank

abbrev pub answered : List ℕ → List ℕ → Call → Option Refusal
answered bs bank (sets p kind body) = refused (set bs bank p kind body).answer
answered bs bank (clears p) = refused (clear bs bank p).answer
answered bs bank (recalls p) = (recall bs bank p).refusal

-- ---- beside other users of the pool

-- what another user does: a take, a give-back, and a write of some bytes from place a on
pub data Act : Type 0 where
  takes gives : ℕ → Act
  writes : (a : ℕ) (part : List ℕ) → Act

abbrev pub acted : List ℕ → Act → List ℕ
acted bs (takes size) = (take bs size).after
acted bs (gives offset) = (give_back bs offset).after
acted bs (writes a part) = replaced_part bs a part

-- no piston names the offset
abbrev pub Unnamed : List ℕ → ℕ → Type 0
Unnamed bank offset = (i : ℕ) → get_or bank i 0 ≢ 0 → get_or bank i 0 ≢ offset

-- the bytes stand inside a held payload that no piston names
pub record Inside (bs bank : List ℕ) (a : ℕ) (part : List ℕ) : Type 0 where
  pub offset : ℕ
  pub unnamed : Unnamed bank offset
  pub long : ℕ
  pub asked : ask bs offset ≡ Ok long
  pub from : offset ≤ a
  pub to : a + length part ≤ offset + long
  pub bytes : Bytes part

-- a well-behaved neighbour gives back and writes to no block that the bank names
abbrev pub Behaved : List ℕ → List ℕ → Act → Type 0
Behaved bs bank (takes size) = Unit {0}
Behaved bs bank (gives offset) = Unnamed bank offset
Behaved bs bank (writes a part) = Inside bs bank a part

-- a call is made with bytes
abbrev pub Made : Call → Type 0
Made (sets p kind body) = (kind < 256) × Bytes body
Made (clears p) = Unit {0}
Made (recalls p) = Unit {0}

-- ---- the run

-- the bank's step, or a neighbour's
pub data Step : Type 0 where
  calls : Call → Step
  acts : Act → Step

pub record Ran : Type 0 where
  pub pool : List ℕ
  pub bank : List ℕ
  pub lines : List Line

abbrev pub noting : Line → Ran → Ran
noting l r = record { pool = r.pool; bank = r.bank; lines = l ∷ r.lines }

unfoldable pub run : List ℕ → List ℕ → List Step → Ran
run bs bank [] = record { pool = bs; bank = bank; lines = [] }
run bs bank (calls c ∷ xs) =
    noting (record { call = c; refusal = answered bs bank c }) (run (pool_after bs bank c) (bank_after bs bank c) xs)
run bs bank (acts a ∷ xs) = run (acted bs a) bank xs

-- each step is one that can be made, and every neighbour behaves well as things stand then
unfoldable pub Behaves : List ℕ → List ℕ → List Step → Type 0
Behaves bs bank [] = Unit {0}
Behaves bs bank (calls c ∷ xs) = Made c × Behaves (pool_after bs bank c) (bank_after bs bank c) xs
Behaves bs bank (acts a ∷ xs) = Behaved bs bank a × Behaves (acted bs a) bank xs

-- the answers that a run beside well-behaved neighbours has: neither 1 nor 2, and no 12
abbrev pub Fair : List Line → Type 0
Fair [] = Unit {0}
Fair (l ∷ ls) = ((l.refusal ≡ None) ⊎ (l.refusal ≡ Some NoRoom) ⊎ (l.refusal ≡ Some NoPiston) ⊎ (l.refusal ≡ Some NoRecord)) × Fair ls

-- ---- what a run shows

-- each piston's recall is not refused and shows what the list of calls and answers says
pub record Shows (r : Ran) : Type 0 where
  pub accepted_recall : (piston : ℕ) → piston < 32 → (recall r.pool r.bank piston).refusal ≡ None
  pub latest_setting : (piston : ℕ) → piston < 32 → shown r.pool (recall r.pool r.bank piston) ≡ latest piston [] r.lines
  pub fair_answers : Fair r.lines

-- ".. that only the bank uses": a run without neighbours
abbrev pub alone : List Call → List Step
alone [] = []
alone (c ∷ cs) = calls c ∷ alone cs

abbrev pub AllMade : List Call → Type 0
AllMade [] = Unit {0}
AllMade (c ∷ cs) = Made c × AllMade cs
