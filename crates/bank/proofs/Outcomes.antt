-- The ways out of each call, as the code takes them: refused by what is asked first, or served.
use mathlib.Core.List.{List, ◌∷◌, ◌++◌}
use mathlib.Core.Logic.{◌≢◌}
use mathlib.Core.Path.{◌≡◌, refl, ap, ap₂, sym, ◌∙◌}
use Prim.Native.Nat.{ℕ, suc, ◌+◌, ◌-◌, ◌≤◌}
use native.Mathlib.Omega.{arith}
use borrow.Rule.Slice.PartMut.{mid_len, mid_of, Post-is, put_mid}
use lib.ListN.{drop, get_or, length, set as put, take as firsts}
use Rattle.words.proofs.Parts.{replaced-length}
use Rattle.words.specs.Choice.{by=, if=-no, if=-yes}
use Rattle.words.specs.Parts.{replaced_part}
use Rattle.words.specs.Words.{Bytes}
use Rattle.pool.proofs.Accepting.{Accepted, accepted-allowed, give-back-long, take-accepted, take_long}
use Rattle.pool.proofs.Granted.{granted-held}
use Rattle.pool.proofs.Holding.{held-there}
use Rattle.pool.proofs.Refused.{refused-changes-nothing, takes}
use Rattle.pool.specs.Calls.{give_back, take}
use Rattle.bank.specs.Calls.{After, after, by_refusal, clear, no_record, or_else, refusal, released, set, store, stored}
use Rattle.bank.proofs.Refusals.{nothing-refuses}
use Rattle.std.specs.declared.option.Option.{Option}
use Rattle.std.specs.declared.option.Option.TheVariants.{None, Some}
use Rattle.std.specs.declared.result.Result.TheVariants.{Ok, Err}
use Rattle.paper.specs.Answers.{Answer, out, Out}
use Rattle.paper.specs.declared.Refusal.{Refusal}

-- ---- writing the record into the part of the pool that starts with the new payload

pub record-put : (taken : List ℕ) (q kind : ℕ) (body part : List ℕ) → q + (length body + 1) ≤ length taken
    → (length (mid_of q (q + (length body + 1) - q) taken) ≡ suc (length body) → part ≡ kind ∷ body)
    → put_mid q (q + (length body + 1) - q) taken part ≡ replaced_part taken q (kind ∷ body)
record-put taken q kind body part l w =
    let e : q + (length body + 1) ≡ q + length (kind ∷ body) = omega arith in
    let long : length (mid_of q (q + (length body + 1) - q) taken) ≡ suc (length body) =
    mid_len q (q + (length body + 1)) taken l ∙ omega arith in
    ap₂ (λ (x y : List ℕ). firsts q taken ++ (x ++ y)) (w long)
    (Post-is q (q + (length body + 1)) taken (omega arith) ∙ ap (λ (n : ℕ). drop n taken) e)

-- ---- giving the old block back

module _ (bs : List ℕ) (old : ℕ) where
  pub released-old : old ≢ 0 → (a : Answer) (bs' : List ℕ) → give_back bs old ≡ record { answer = a; after = bs' } → bs' ≡ released bs old
  unfolding released
  released-old n a bs' e = sym (if=-no old 0 _ _ n ∙ ap (λ (o : Out). o.after) e)

  pub released-none : old ≡ 0 → bs ≡ released bs old
  unfolding released
  released-none z = sym (if=-yes old 0 _ _ z)

  pub released-long : length (released bs old) ≡ length bs
  unfolding released
  released-long =
      by= old 0 (λ z. ap length (if=-yes old 0 _ _ z)) (λ n. ap length (if=-no old 0 _ _ n) ∙ give-back-long bs old)

module _ (bs bank : List ℕ) (piston : ℕ) where
  -- what has passed is an accepted pool of bytes
  module _ (z : refusal bs bank piston ≡ None) (bytes : Bytes bs) where
    pub passed-accepted : Accepted bs
    passed-accepted = record { bytes = bytes; inspected = (nothing-refuses bs bank piston z).inspected }

    pub passed-short : length bs ≤ 65536
    passed-short = (accepted-allowed bs passed-accepted).most

  -- ---- clear

  pub clear-refused : (k : Refusal) → refusal bs bank piston ≡ Some k → clear bs bank piston ≡ after (Err k) bs bank
  unfolding clear
  clear-refused k e = rw e

  abbrev cleared : After
  cleared = after (Ok (length bs)) (released bs (get_or bank piston 0)) (put bank piston 0)

  module _ (z : refusal bs bank piston ≡ None) (bs' : List ℕ) (f : bs' ≡ released bs (get_or bank piston 0)) where
    pub clear-short : Bytes bs → length bs' ≤ 65536
    clear-short bytes = omega (arith, passed-short z bytes, ap length f ∙ released-long bs (get_or bank piston 0))

    pub clear-done : clear bs bank piston ≡ after (Ok (length bs')) bs' (put bank piston 0)
    unfolding clear
    clear-done =
        ap (λ (w : Option Refusal). by_refusal w (λ k. after (Err k) bs bank) cleared) z
        ∙ ap₂ (λ (n : ℕ) (l : List ℕ). after (Ok n) l (put bank piston 0)) (sym (ap length f ∙ released-long bs (get_or bank piston 0))) (sym f)

  -- ---- set

  module _ (kind : ℕ) (body : List ℕ) where
    by-first : (w v : Option Refusal) → refusal bs bank piston ≡ w → no_record kind body ≡ v
        → set bs bank piston kind body ≡ by_refusal (or_else w v) (λ k. after (Err k) bs bank) (store bs bank piston (kind ∷ body))
    unfolding set
    by-first w v e f =
        ap₂ (λ (x y : Option Refusal). by_refusal (or_else x y) (λ k. after (Err k) bs bank) (store bs bank piston (kind ∷ body))) e f

    pub set-refused : (k : Refusal) → refusal bs bank piston ≡ Some k → set bs bank piston kind body ≡ after (Err k) bs bank
    set-refused k e = by-first (Some k) (no_record kind body) e refl

    module _ (z : refusal bs bank piston ≡ None) where
      pub set-no-record : (k : Refusal) → no_record kind body ≡ Some k → set bs bank piston kind body ≡ after (Err k) bs bank
      set-no-record k f = by-first None (Some k) z f

      module _ (is : no_record kind body ≡ None) where
        pub set-stores : set bs bank piston kind body ≡ store bs bank piston (kind ∷ body)
        set-stores = by-first None None z is

        module _ (a : Answer) (taken : List ℕ) (t : take bs (length body + 1) ≡ out a taken) where
          asked-for : take bs (length (kind ∷ body)) ≡ out a taken
          asked-for = let n : length (kind ∷ body) ≡ length body + 1 = omega arith in ap (take bs) n ∙ t

          -- with no room, the old setting stays
          pub set-no-room : (k : Refusal) → a ≡ Err k → set bs bank piston kind body ≡ after (Err k) taken bank
          unfolding store
          set-no-room k r =
              let same : taken ≡ bs =
              ap (λ (o : Out). o.after) (sym asked-for) ∙ (refused-changes-nothing bs (takes (length (kind ∷ body))) k (ap (λ (o : Out). o.answer) asked-for ∙ r)).2 in
              set-stores ∙ ap (λ (o : Out). stored bs bank piston (kind ∷ body) o.answer o.after) asked-for
              ∙ ap (λ (x : Answer). stored bs bank piston (kind ∷ body) x taken) r
              ∙ ap (λ (l : List ℕ). after (Err k) l bank) (sym same)

          module _ (q : ℕ) (r : a ≡ Ok q) (bytes : Bytes bs) where
            granted : (take bs (length (kind ∷ body))).answer ≡ Ok q
            granted = ap (λ (o : Out). o.answer) asked-for ∙ r

            -- the record has room in the new payload, and so in the pool
            pub set-fits : q + (length body + 1) ≤ length taken
            set-fits =
                let A = passed-accepted z bytes in
                let g = granted-held bs A (length (kind ∷ body)) q granted in
                let T = take-accepted bs A (length (kind ∷ body)) in
                omega (
                  arith,
                  (held-there (take bs (length (kind ∷ body))).after T.bytes q g.payload g.held).within,
                  g.long-enough,
                  ap (λ (o : Out). length o.after) asked-for,
                )

            module _ (written : List ℕ) (w : written ≡ replaced_part taken q (kind ∷ body)) (bs' : List ℕ) (f : bs' ≡ released written (get_or bank piston 0)) where
              as_long : length bs' ≡ length bs
              as_long =
                  ap length f ∙ released-long written (get_or bank piston 0) ∙ ap length w
                  ∙ replaced-length taken q (kind ∷ body) (omega (arith, set-fits))
                  ∙ ap (λ (o : Out). length o.after) (sym asked-for)
                  ∙ take_long bs (length (kind ∷ body))

              pub set-short : length bs' ≤ 65536
              set-short = omega (arith, as_long, passed-short z bytes)

              pub set-done : set bs bank piston kind body ≡ after (Ok (length bs')) bs' (put bank piston q)
              unfolding store
              set-done =
                  set-stores ∙ ap (λ (o : Out). stored bs bank piston (kind ∷ body) o.answer o.after) asked-for
                  ∙ ap (λ (x : Answer). stored bs bank piston (kind ∷ body) x taken) r
                  ∙ ap₂ (λ (n : ℕ) (l : List ℕ). after (Ok n) l (put bank piston q)) (sym as_long)
                  (ap (λ (l : List ℕ). released l (get_or bank piston 0)) (sym w) ∙ sym f)
