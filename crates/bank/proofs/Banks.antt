-- A bank that shows what it should: each piston is empty, or names a held payload of its own that starts with the record.
-- One law for every change: what is held stays held, and at most one piston gets another setting.
use mathlib.Core.List.{List, []}
use mathlib.Core.Logic.{◌≢◌, ◌⊎◌, inl, inr}
use mathlib.Core.Path.{◌≡◌, refl, ap, sym, subst, ◌∙◌}
use Prim.Native.Nat.{ℕ, ◌+◌, ◌<◌, ◌≤◌}
use native.Mathlib.Omega.{arith}
use lib.ListN.{get_or, length, length-set, set as put, take as firsts}
use lib.Seq.{get_or-set_other, get_or-set_same}
use Rattle.words.specs.Choice.{by=, if=, if=-no, if=-yes}
use Rattle.pool.proofs.Accepting.{Accepted}
use Rattle.pool.proofs.Holding.{Held}
use Rattle.pool.proofs.Named.{Names}
use Rattle.pool.specs.Calls.{part}
use Rattle.bank.specs.Calls.{recall, record_at, refusal, shown}
use Rattle.bank.specs.declared.recalling.Place.{Place}
use Rattle.bank.specs.Records.{record_in}
use Rattle.bank.proofs.Finding.{by-first, by-record}
use Rattle.bank.proofs.Refusals.{none-refused}
use Rattle.std.specs.declared.option.Option.TheVariants.{None, Some}
use Rattle.bank.proofs.Shown.{nothing-shown, record-shown}

-- the record r stands at the start of a held payload
pub record Setting (bs : List ℕ) (offset : ℕ) (r : List ℕ) : Type 0 where
  pub payload : List ℕ
  pub held : Held bs offset payload
  pub not-zero : offset ≢ 0
  pub reads : record_in payload ≡ Some (length r)
  pub starts : firsts (length r) payload ≡ r
  pub fits : length r ≤ length payload

-- a piston that names an offset, and what it shows
abbrev pub Piston : List ℕ → ℕ → List ℕ → Type 0
Piston bs offset r = ((offset ≡ 0) × (r ≡ [])) ⊎ Setting bs offset r

pub record Bank (bs bank : List ℕ) (shows : ℕ → List ℕ) : Type 0 where
  pub accepted : Accepted bs
  pub pistons : length bank ≡ 32
  pub each : (i : ℕ) → Piston bs (get_or bank i 0) (shows i)
  pub apart : (i j : ℕ) → get_or bank i 0 ≢ 0 → get_or bank i 0 ≡ get_or bank j 0 → i ≡ j

-- what is held at an offset before is held there afterwards
abbrev pub Stays : List ℕ → List ℕ → ℕ → Type 0
Stays bs bs' offset = (payload : List ℕ) → Held bs offset payload → Held bs' offset payload

pub setting-stays : (bs bs' : List ℕ) (offset : ℕ) (r : List ℕ) → Stays bs bs' offset → Setting bs offset r → Setting bs' offset r
setting-stays bs bs' offset r k S =
    record {
      payload = S.payload;
      held = k S.payload S.held;
      not-zero = S.not-zero;
      reads = S.reads;
      starts = S.starts;
      fits = S.fits;
    }

piston-stays : (bs bs' : List ℕ) (offset : ℕ) (r : List ℕ) → (offset ≢ 0 → Stays bs bs' offset) → Piston bs offset r → Piston bs' offset r
piston-stays bs bs' offset r k (inl e) = inl e
piston-stays bs bs' offset r k (inr S) = inr (setting-stays bs bs' offset r (k S.not-zero) S)

-- ---- the bank's own questions

module _ (bs bank : List ℕ) (shows : ℕ → List ℕ) (B : Bank bs bank shows) where
  pub bank-names : Names bs bank
  bank-names = record { held = λ i n. go i n (B.each i); apart = B.apart }
    where
      go : (i : ℕ) → get_or bank i 0 ≢ 0 → Piston bs (get_or bank i 0) (shows i) → (payload : List ℕ) × Held bs (get_or bank i 0) payload
      go i n (inl e) = absurd (n e.0)
      go i n (inr S) = (S.payload, S.held)

  -- what a recall answers, and the bytes of its part
  pub record Recalls (piston : ℕ) (r : List ℕ) : Type 0 where
    pub accepted : (recall bs bank piston).refusal ≡ None
    pub bytes : shown bs (recall bs bank piston) ≡ r

  module _ (piston : ℕ) (l : piston < 32) where
    first : refusal bs bank piston ≡ None
    first = none-refused bs bank B.accepted bank-names piston l

    pub recalls : Recalls piston (shows piston)
    recalls = go (B.each piston)
      where
        go : Piston bs (get_or bank piston 0) (shows piston) → Recalls piston (shows piston)
        go (inl e) =
            let k = by-first bs bank piston None first ∙ if=-yes (get_or bank piston 0) 0 _ _ e.0 in
            record { accepted = ap (λ (p : Place). p.refusal) k; bytes = ap (shown bs) k ∙ nothing-shown bs (length bs) None ∙ sym e.1 }
        go (inr S) =
            let o = get_or bank piston 0 in
            let z : record_in (part bs o) ≡ Some (length (shows piston)) = ap record_in S.held.lent ∙ S.reads in
            let k : recall bs bank piston ≡ record { refusal = None; from = o; to = o + length (shows piston) } =
            by-record bs bank piston first S.not-zero ∙ ap (record_at bs o) z in
            record {
              accepted = ap (λ (p : Place). p.refusal) k;
              bytes = ap (shown bs) k ∙ record-shown bs B.accepted.bytes o S.payload S.held (length (shows piston)) None S.fits ∙ S.starts;
            }

-- ---- a change

module _ (bs bank : List ℕ) (shows : ℕ → List ℕ) (B : Bank bs bank shows) (bs' : List ℕ) (A : Accepted bs') where
  -- the pool alone changes
  pub bank-stays : ((i : ℕ) → get_or bank i 0 ≢ 0 → Stays bs bs' (get_or bank i 0)) → Bank bs' bank shows
  bank-stays k =
      record {
        accepted = A;
        pistons = B.pistons;
        each = λ i. piston-stays bs bs' (get_or bank i 0) (shows i) (k i) (B.each i);
        apart = B.apart;
      }

  -- piston p gets another offset, which no other piston has, or 0
  module _ (p : ℕ) (l : p < 32) (o : ℕ) (r : List ℕ) (P : Piston bs' o r)
      (others : (i : ℕ) → i ≢ p → get_or bank i 0 ≢ 0 → Stays bs bs' (get_or bank i 0))
      (own : (i : ℕ) → i ≢ p → get_or bank i 0 ≢ 0 → get_or bank i 0 ≢ o) where
    here : get_or (put bank p o) p 0 ≡ o
    here = get_or-set_same bank p o 0 (omega (arith, B.pistons))

    there : (i : ℕ) → i ≢ p → get_or (put bank p o) i 0 ≡ get_or bank i 0
    there i n = get_or-set_other bank p i o 0 n

    pub bank-changes : Bank bs' (put bank p o) (λ i. if= p i r (shows i))
    bank-changes =
        record {
          accepted = A;
          pistons = length-set bank p o ∙ B.pistons;
          each = λ i. by= p i
              (λ e. subst (λ (j : ℕ). Piston bs' (get_or (put bank p o) j 0) (if= p j r (shows j))) e
              (subst (λ (x : ℕ). Piston bs' x (if= p p r (shows p))) (sym here)
              (subst (Piston bs' o) (sym (if=-yes p p _ _ refl)) P)))
              (λ n. subst (λ (x : ℕ). Piston bs' x (if= p i r (shows i))) (sym (there i (λ e. n (sym e))))
              (subst (Piston bs' (get_or bank i 0)) (sym (if=-no p i _ _ n))
              (piston-stays bs bs' (get_or bank i 0) (shows i) (others i (λ e. n (sym e))) (B.each i))));
          apart = λ i j n e. by= i p
              (λ a. by= j p (λ b. a ∙ sym b) (λ b. absurd (own j b (λ z. n (e ∙ there j b ∙ z)) (sym (there j b) ∙ sym e ∙ ap (λ (k : ℕ). get_or (put bank p o) k 0) a ∙ here))))
              (λ a. by= j p
              (λ b. absurd (own i a (λ z. n (there i a ∙ z)) (sym (there i a) ∙ e ∙ ap (λ (k : ℕ). get_or (put bank p o) k 0) b ∙ here)))
              (λ b. B.apart i j (λ z. n (there i a ∙ z)) (sym (there i a) ∙ e ∙ there j b)));
        }

-- the same by another account of what is shown
pub bank-shows : (bs bank : List ℕ) (shows shows' : ℕ → List ℕ) → ((i : ℕ) → shows i ≡ shows' i) → Bank bs bank shows → Bank bs bank shows'
bank-shows bs bank shows shows' e B =
    record { accepted = B.accepted; pistons = B.pistons; each = λ i. subst (Piston bs (get_or bank i 0)) (e i) (B.each i); apart = B.apart }
