-- The ways out of finding a piston's record, as the code takes them. A record that is found lies within the payload that the piston names, and so
-- within the pool.
use mathlib.Core.List.{List}
use mathlib.Core.Logic.{◌≢◌}
use mathlib.Core.Path.{◌≡◌, refl, ap, sym, subst, ◌∙◌}
use Prim.Native.Nat.{ℕ, ◌+◌, ◌-◌, ◌≤◌}
use native.Mathlib.Omega.{arith}
use lib.ListN.{get_or, length}
use Rattle.words.specs.Choice.{by=, if=, if=-no, if=-yes}
use Rattle.words.specs.Words.{Bytes}
use Rattle.pool.proofs.Holding.{held-there}
use Rattle.pool.proofs.Named.{asked-names}
use Rattle.pool.specs.Calls.{part}
use Rattle.bank.specs.Calls.{asked, by_refusal, nothing, recall, record_at, refusal}
use Rattle.bank.specs.declared.recalling.Place.{Place}
use Rattle.bank.specs.Recalls.{Finds}
use Rattle.bank.specs.Records.{record_in}
use Rattle.bank.proofs.Outcomes.{passed-short}
use Rattle.bank.proofs.RecordLaws.{record-reads-within}
use Rattle.bank.proofs.Refusals.{nothing-refuses}
use Rattle.paper.specs.declared.Refusal.{Refusal}
use Rattle.paper.specs.declared.Refusal.TheVariants.{NotNamed}
use Rattle.std.specs.declared.option.Option.{Option}
use Rattle.std.specs.declared.option.Option.TheVariants.{None, Some}
use Rattle.std.specs.declared.result.Result.TheVariants.{Ok, Err}

module _ (bs bank : List ℕ) (piston : ℕ) where
  abbrev o : ℕ
  o = get_or bank piston 0

  -- where nothing refuses, it goes by the payload
  abbrev by_payload : Place
  by_payload = if= o 0 (nothing bs None) (record_at bs o (record_in (part bs o)))

  pub by-first : (w : Option Refusal) → refusal bs bank piston ≡ w → recall bs bank piston ≡ by_refusal w (λ k. nothing bs (Some k)) by_payload
  unfolding recall
  by-first w e = ap (λ (v : Option Refusal). by_refusal v (λ k. nothing bs (Some k)) by_payload) e

  -- the empty part is one
  finds-nothing : (k : Option Refusal) (r : Place) → r ≡ nothing bs k → recall bs bank piston ≡ nothing bs k → Finds bs bank piston r
  finds-nothing k r f g =
      subst (Finds bs bank piston) (sym f) (record { is = sym g; rises = omega arith; inside = omega arith })

  pub finds-refused : (k : Refusal) → refusal bs bank piston ≡ Some k → (r : Place) → r ≡ nothing bs (Some k) → Finds bs bank piston r
  finds-refused k e r f = finds-nothing (Some k) r f (by-first (Some k) e)

  module _ (z : refusal bs bank piston ≡ None) where
    pub finds-empty : o ≡ 0 → (r : Place) → r ≡ nothing bs None → Finds bs bank piston r
    finds-empty y r f = finds-nothing None r f (by-first None z ∙ if=-yes o 0 _ _ y)

    module _ (n : o ≢ 0) where
      pub by-record : recall bs bank piston ≡ record_at bs o (record_in (part bs o))
      by-record = by-first None z ∙ if=-no o 0 _ _ n

      pub finds-unread : None ≡ record_in (part bs o) → (r : Place) → r ≡ nothing bs (Some NotNamed) → Finds bs bank piston r
      finds-unread l r f = finds-nothing (Some NotNamed) r f (by-record ∙ ap (record_at bs o) (sym l))

      module _ (size : ℕ) (l : Some size ≡ record_in (part bs o)) (bytes : Bytes bs) where
        -- the record ends within the pool
        found_within : o + size ≤ length bs
        found_within =
            let h = (asked-names bs bank piston _ (nothing-refuses bs bank piston z).asked.1 bytes).held piston n in
            let r = record-reads-within h.0 size (ap record_in (sym h.1.lent) ∙ sym l) in
            omega (arith, (held-there bs bytes o h.0 h.1).within, r.within)

        pub found-fits : o + size ≤ 65536
        found-fits = omega (arith, found_within, passed-short bs bank piston z bytes)

        pub finds-record : Finds bs bank piston (record { refusal = None; from = o; to = o + size })
        finds-record = record { is = sym (by-record ∙ ap (record_at bs o) (sym l)); rises = omega arith; inside = found_within }

-- ---- how long it is

pub recall-short : (bs bank : List ℕ) (piston : ℕ) → (recall bs bank piston).to - (recall bs bank piston).from ≤ 33
recall-short bs bank piston = first (refusal bs bank piston) refl
  where
    short : {x y : Place} → x ≡ y → y.to - y.from ≤ 33 → x.to - x.from ≤ 33
    short {x} {y} f l = subst (λ (p : Place). p.to - p.from ≤ 33) (sym f) l

    none : (k : Option Refusal) → length bs - length bs ≤ 33
    none k = omega arith

    reads : (r : Option ℕ) → record_in (part bs (get_or bank piston 0)) ≡ r
        → (record_at bs (get_or bank piston 0) r).to - (record_at bs (get_or bank piston 0) r).from ≤ 33
    reads None f = none (Some NotNamed)
    reads (Some size) f = omega (arith, (record-reads-within (part bs (get_or bank piston 0)) size f).few)

    first : (w : Option Refusal) → refusal bs bank piston ≡ w → (recall bs bank piston).to - (recall bs bank piston).from ≤ 33
    first (Some k) e = short (by-first bs bank piston (Some k) e) (none (Some k))
    first None e =
        by= (get_or bank piston 0) 0
        (λ z. short (by-first bs bank piston None e ∙ if=-yes (get_or bank piston 0) 0 _ _ z) (none None))
        (λ n. short (by-record bs bank piston e n) (reads (record_in (part bs (get_or bank piston 0))) refl))

module _ (bs bank : List ℕ) (piston : ℕ) (p : Place) (F : Finds bs bank piston p) where
  pub found-short : p.to - p.from ≤ 33
  found-short = subst (λ (x : Place). x.to - x.from ≤ 33) (sym F.is) (recall-short bs bank piston)

  pub asked-refused : (k : Refusal) → p.refusal ≡ Some k → Err k ≡ asked (recall bs bank piston)
  asked-refused k e = sym (ap (λ (w : Option Refusal). by_refusal w Err (Ok (p.to - p.from))) e) ∙ ap asked F.is

  pub asked-done : p.refusal ≡ None → Ok (p.to - p.from) ≡ asked (recall bs bank piston)
  asked-done e = sym (ap (λ (w : Option Refusal). by_refusal w Err (Ok (p.to - p.from))) e) ∙ ap asked F.is
