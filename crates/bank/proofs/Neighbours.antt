-- A well-behaved neighbour leaves every recall as it is: why it is refused, if it is, its part and the part's bytes. It takes, gives back and
-- writes only to blocks that the bank does not name, and the pool's laws keep every other one.
use mathlib.Core.List.{List}
use mathlib.Core.Logic.{◌≢◌}
use mathlib.Core.Path.{◌≡◌, refl, ap, sym, subst, ◌∙◌}
use Prim.Native.Nat.{ℕ, ◌+◌, ◌≤◌}
use native.Mathlib.Omega.{arith}
use lib.ListN.{get_or, length}
use Rattle.words.proofs.Parts.{replaced-length}
use Rattle.words.specs.Choice.{by=, if=-yes}
use Rattle.words.specs.Words.{Bytes}
use Rattle.pool.proofs.Accepting.{Accepted, give-back-accepted, give-back-long, take-accepted, take_long, write-accepted}
use Rattle.pool.proofs.Holding.{Held, give-back-keeps-held, payload-inside, take-keeps-held, write-keeps-held}
use Rattle.pool.proofs.Named.{Names, asked-accepted, asked-held, asked-names}
use Rattle.pool.specs.Calls.{ask_all, part}
use Rattle.bank.specs.Calls.{nothing, recall, record_at, refusal, shown}
use Rattle.bank.specs.declared.recalling.Place.{Place}
use Rattle.bank.specs.Records.{record_in}
use Rattle.bank.specs.Run.{Act, Behaved, acted, gives, takes, writes}
use Rattle.bank.proofs.Banks.{Stays}
use Rattle.bank.proofs.Finding.{by-first, by-record}
use Rattle.bank.proofs.RecordLaws.{record-reads-within}
use Rattle.bank.proofs.Refusals.{by-piston}
use Rattle.bank.proofs.Shown.{nothing-shown, record-shown}
use Rattle.std.specs.declared.result.Result.TheVariants.{Ok}
use Rattle.paper.specs.declared.Refusal.{Refusal}
use Rattle.paper.specs.declared.Refusal.TheVariants.{NotNamed}
use Rattle.std.specs.declared.option.Option.{Option}
use Rattle.std.specs.declared.option.Option.TheVariants.{None, Some}

-- what an act leaves: an accepted pool, as long, in which what the bank names is held as before
pub record Leaves (bs bank bs' : List ℕ) : Type 0 where
  pub accepted : Accepted bs'
  pub long : length bs' ≡ length bs
  pub stays : (i : ℕ) → get_or bank i 0 ≢ 0 → Stays bs bs' (get_or bank i 0)

pub act-leaves : (bs bank : List ℕ) → Accepted bs → (a : Act) → Behaved bs bank a → Leaves bs bank (acted bs a)
act-leaves bs bank A (takes size) b =
    record {
      accepted = take-accepted bs A size;
      long = take_long bs size;
      stays = λ i n payload h. take-keeps-held bs A.bytes (get_or bank i 0) payload h size;
    }
act-leaves bs bank A (gives offset) b =
    record {
      accepted = give-back-accepted bs A offset;
      long = give-back-long bs offset;
      stays = λ i n payload h. give-back-keeps-held bs A.bytes (get_or bank i 0) payload h offset (b i n);
    }
act-leaves bs bank A (writes a new) b =
    record {
      accepted = write-accepted bs A b.offset own.0 own.1 a new b.bytes b.from inside;
      long = replaced-length bs a new (payload-inside bs A.bytes b.offset own.0 own.1 a new b.bytes b.from inside);
      stays = λ i n payload h.
          write-keeps-held bs A.bytes b.offset own.0 own.1 a new b.bytes b.from inside (get_or bank i 0) payload h (b.unnamed i n);
    }
  where
    own : (payload : List ℕ) × Held bs b.offset payload
    own = asked-held bs A.bytes b.offset b.long b.asked

    inside : a + length new ≤ b.offset + length own.0
    inside = let k : Ok (length own.0) ≡ Ok b.long = sym own.1.asked ∙ b.asked in let e : length own.0 ≡ b.long = cc in omega (arith, b.to)

-- ---- a recall

module _ (bs bank : List ℕ) (bytes : Bytes bs) (p v : ℕ) (asked : ask_all bs bank p ≡ Ok v) (a : Act) (b : Behaved bs bank a) where
  A : Accepted bs
  A = asked-accepted bs bank p v asked bytes

  N : Names bs bank
  N = asked-names bs bank p v asked bytes

  L : Leaves bs bank (acted bs a)
  L = act-leaves bs bank A a b

  N' : Names (acted bs a) bank
  N' = record { held = λ i n. let h = N.held i n in (h.0, L.stays i n h.0 h.1); apart = N.apart }

  abbrev o : ℕ
  o = get_or bank p 0

  same-part : o ≢ 0 → part (acted bs a) o ≡ part bs o
  same-part n = let h = N.held p n in (L.stays p n h.0 h.1).lent ∙ sym h.1.lent

  same-refusal : refusal (acted bs a) bank p ≡ refusal bs bank p
  same-refusal = by-piston (acted bs a) bank L.accepted N' p ∙ sym (by-piston bs bank A N p)

  -- the empty part and a record at o stand at the same place in both pools, which are as long
  same-nothing : (k : Option Refusal) → nothing (acted bs a) k ≡ nothing bs k
  same-nothing k = ap (λ (n : ℕ). record { refusal = k; from = n; to = n }) L.long

  same-record : (r : Option ℕ) → record_at (acted bs a) o r ≡ record_at bs o r
  same-record None = same-nothing (Some NotNamed)
  same-record (Some size) = refl

  pub same-recall : recall (acted bs a) bank p ≡ recall bs bank p
  same-recall = first (refusal bs bank p) refl
    where
      first : (w : Option Refusal) → refusal bs bank p ≡ w → recall (acted bs a) bank p ≡ recall bs bank p
      first (Some k) e = by-first (acted bs a) bank p (Some k) (same-refusal ∙ e) ∙ same-nothing (Some k) ∙ sym (by-first bs bank p (Some k) e)
      first None e =
          by= o 0
          (λ z. by-first (acted bs a) bank p None (same-refusal ∙ e) ∙ if=-yes o 0 _ _ z ∙ same-nothing None
          ∙ sym (by-first bs bank p None e ∙ if=-yes o 0 _ _ z))
          (λ n. by-record (acted bs a) bank p (same-refusal ∙ e) n ∙ ap (λ (l : List ℕ). record_at (acted bs a) o (record_in l)) (same-part n)
          ∙ same-record (record_in (part bs o))
          ∙ sym (by-record bs bank p e n))

  abbrev Same : Place → Type 0
  Same x = shown (acted bs a) x ≡ shown bs x

  pub same-shown : shown (acted bs a) (recall (acted bs a) bank p) ≡ shown bs (recall bs bank p)
  same-shown = ap (shown (acted bs a)) same-recall ∙ first (refusal bs bank p) refl
    where
      same : {x y : Place} → x ≡ y → Same y → Same x
      same e s = subst Same (sym e) s

      none : (n : ℕ) (k : Option Refusal) → Same (record { refusal = k; from = n; to = n })
      none n k = nothing-shown (acted bs a) n k ∙ sym (nothing-shown bs n k)

      reads : o ≢ 0 → (r : Option ℕ) → record_in (part bs o) ≡ r → Same (record_at bs o r)
      reads n None e = none (length bs) (Some NotNamed)
      reads n (Some size) e =
          let h = N.held p n in
          let l = (record-reads-within h.0 size (ap record_in (sym h.1.lent) ∙ e)).within in
          record-shown (acted bs a) L.accepted.bytes o h.0 (L.stays p n h.0 h.1) size None l ∙ sym (record-shown bs bytes o h.0 h.1 size None l)

      first : (w : Option Refusal) → refusal bs bank p ≡ w → Same (recall bs bank p)
      first (Some k) e = same (by-first bs bank p (Some k) e) (none (length bs) (Some k))
      first None e =
          by= o 0 (λ z. same (by-first bs bank p None e ∙ if=-yes o 0 _ _ z) (none (length bs) None))
          (λ n. same (by-record bs bank p e n) (reads n (record_in (part bs o)) refl))
