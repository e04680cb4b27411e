-- A refusal changes nothing, neither a byte of the pool nor a number of the bank, on every pool and every bank; a refused recall gives the empty
-- part at the pool's end. And a clear of an empty piston changes nothing either.
use mathlib.Core.List.{List, ◌∷◌}
use mathlib.Core.Logic.{◌≢◌}
use mathlib.Core.Path.{◌≡◌, refl, ap, sym, subst, ◌∙◌}
use Prim.Native.Nat.{ℕ}
use lib.ListN.{get_or, length, set as put}
use lib.Seq.{set-get_or}
use Rattle.words.specs.Choice.{by=, if=, if=-no, if=-yes}
use Rattle.pool.specs.Calls.{part, take}
use Rattle.bank.specs.Calls.{After, after, by_refusal, clear, no_record, nothing, or_else, recall, record_at, refusal, refused, set, store, stored}
use Rattle.bank.specs.declared.recalling.Place.{Place}
use Rattle.bank.specs.Records.{record_in}
use Rattle.bank.proofs.Outcomes.{clear-done, released-none}
use Rattle.bank.specs.Run.{Call, answered, bank_after, clears, pool_after, recalls, sets}
use Rattle.std.specs.declared.option.Option.{Option}
use Rattle.std.specs.declared.option.Option.TheVariants.{None, Some}
use Rattle.std.specs.declared.result.Result.TheVariants.{Ok, Err}
use Rattle.paper.specs.Answers.{Answer}
use Rattle.paper.specs.declared.Refusal.{Refusal}

module _ (bs bank : List ℕ) where
  -- an outcome that is refused leaves both
  abbrev Unchanged : After → Type 0
  Unchanged a = refused a.answer ≢ None → (a.pool ≡ bs) × (a.bank ≡ bank)

  store-unchanged : (piston : ℕ) (r : List ℕ) → Unchanged (store bs bank piston r)
  unfolding store
  store-unchanged piston r = go (take bs (length r)).answer (take bs (length r)).after
    where
      go : (a : Answer) (taken : List ℕ) → Unchanged (stored bs bank piston r a taken)
      go (Ok q) taken n = absurd (n refl)
      go (Err k) taken n = (refl, refl)

  first-unchanged : (w : Option Refusal) (done : After) → Unchanged done → Unchanged (by_refusal w (λ k. after (Err k) bs bank) done)
  first-unchanged (Some k) done u n = (refl, refl)
  first-unchanged None done u n = u n

  pub refused-changes-nothing : (c : Call) → answered bs bank c ≢ None → (pool_after bs bank c ≡ bs) × (bank_after bs bank c ≡ bank)
  unfolding set clear
  refused-changes-nothing (sets piston kind body) n =
      first-unchanged (or_else (refusal bs bank piston) (no_record kind body)) _ (store-unchanged piston (kind ∷ body)) n
  refused-changes-nothing (clears piston) n = first-unchanged (refusal bs bank piston) _ (λ m. absurd (m refl)) n
  refused-changes-nothing (recalls piston) n = (refl, refl)

  -- a place that is refused is the empty part
  abbrev Empty : Place → Type 0
  Empty p = p.refusal ≢ None → p ≡ nothing bs p.refusal

  abbrev by_payload : ℕ → Place
  by_payload o = if= o 0 (nothing bs None) (record_at bs o (record_in (part bs o)))

  pub refused-recall : (piston : ℕ) → (recall bs bank piston).refusal ≢ None → recall bs bank piston ≡ nothing bs (recall bs bank piston).refusal
  unfolding recall
  refused-recall piston = first (refusal bs bank piston)
    where
      reads : (o : ℕ) (r : Option ℕ) → Empty (record_at bs o r)
      reads o None n = refl
      reads o (Some size) n = absurd (n refl)

      payload : (o : ℕ) → Empty (by_payload o)
      payload o =
          by= o 0 (λ z. subst Empty (sym (if=-yes o 0 _ _ z)) (λ n. absurd (n refl)))
          (λ m. subst Empty (sym (if=-no o 0 _ _ m)) (reads o (record_in (part bs o))))

      first : (w : Option Refusal) → Empty (by_refusal w (λ k. nothing bs (Some k)) (by_payload (get_or bank piston 0)))
      first (Some k) = λ n. refl
      first None = payload (get_or bank piston 0)

  -- "clear of one 0 and no byte changed"
  pub clear-of-empty : (piston : ℕ) → refusal bs bank piston ≡ None → get_or bank piston 0 ≡ 0 → clear bs bank piston ≡ after (Ok (length bs)) bs bank
  clear-of-empty piston z e =
      clear-done bs bank piston z bs (released-none bs (get_or bank piston 0) e)
      ∙ ap (after (Ok (length bs)) bs) (ap (put bank piston) (sym e) ∙ set-get_or bank piston 0)
