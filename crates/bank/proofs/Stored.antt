-- A record is stored in a new block and the old one is given back: afterwards the piston shows the record, and every other what it showed.
-- By the pool's laws, step by step: take, write, give back.
use mathlib.Core.Bool.{true}
use mathlib.Core.List.{List, ◌∷◌}
use mathlib.Core.Logic.{◌≢◌, inr}
use mathlib.Core.Path.{◌≡◌, refl, sym, subst}
use Prim.Native.Nat.{ℕ, suc, ◌+◌, ◌-◌, ◌<◌, ◌≤◌}
use native.Mathlib.Omega.{arith}
use lib.ListN.{drop, get_or, length, set as put}
use lib.Seq.{take-append_seam}
use Rattle.words.proofs.Parts.{replaced-length}
use Rattle.words.specs.Choice.{by=, if=, if=-no, if=-yes}
use Rattle.words.specs.Parts.{replaced_part}
use Rattle.words.specs.Words.{Bytes}
use Rattle.pool.proofs.Accepting.{Accepted, give-back-accepted, take-accepted, write-accepted}
use Rattle.pool.proofs.Granted.{granted-held, granted-new}
use Rattle.pool.proofs.Holding.{Held, give-back-keeps-held, held-there, take-keeps-held, write-held, write-keeps-held}
use Rattle.pool.specs.Calls.{take}
use Rattle.bank.specs.Calls.{released}
use Rattle.bank.specs.Records.{is_record}
use Rattle.bank.proofs.Banks.{Bank, Setting, Stays, bank-changes, bank-names, setting-stays}
use Rattle.bank.proofs.RecordLaws.{record-reads}
use Rattle.std.specs.declared.result.Result.TheVariants.{Ok}

-- ---- the old block is given back

module _ (bs : List ℕ) (A : Accepted bs) (old : ℕ) where
  pub released-accepted : Accepted (released bs old)
  unfolding released
  released-accepted =
      by= old 0 (λ z. subst Accepted (sym (if=-yes old 0 _ _ z)) A) (λ n. subst Accepted (sym (if=-no old 0 _ _ n)) (give-back-accepted bs A old))

  -- every other payload stays
  pub released-stays : (offset : ℕ) → (old ≢ 0 → offset ≢ old) → Stays bs (released bs old) offset
  unfolding released
  released-stays offset other payload h =
      by= old 0 (λ z. subst (λ (l : List ℕ). Held l offset payload) (sym (if=-yes old 0 _ _ z)) h)
      (λ n. subst (λ (l : List ℕ). Held l offset payload) (sym (if=-no old 0 _ _ n))
      (give-back-keeps-held bs A.bytes offset payload h old (other n)))

-- ---- the record stands at the start of the new payload

module _ (kind : ℕ) (body : List ℕ) (is : is_record kind body ≡ true) where
  -- the payload with the record put over its start
  module _ (payload : List ℕ) (l : suc (length body) ≤ length payload) where
    pub written-setting : (bs : List ℕ) (q : ℕ) → q ≢ 0 → Held bs q (replaced_part payload 0 (kind ∷ body)) → Setting bs q (kind ∷ body)
    written-setting bs q n h =
        record {
          payload = replaced_part payload 0 (kind ∷ body);
          held = h;
          not-zero = n;
          reads = record-reads kind body is (replaced_part payload 0 (kind ∷ body)) refl (omega (arith, long));
          starts = take-append_seam (kind ∷ body) (drop (0 + length (kind ∷ body)) payload);
          fits = omega (arith, long);
        }
      where
        long : length (replaced_part payload 0 (kind ∷ body)) ≡ length payload
        long = replaced-length payload 0 (kind ∷ body) (omega arith)

-- ---- the three steps

module _ (bs bank : List ℕ) (shows : ℕ → List ℕ) (B : Bank bs bank shows) (p : ℕ) (below : p < 32)
    (kind : ℕ) (body : List ℕ) (is : is_record kind body ≡ true) (bytes : Bytes (kind ∷ body))
    (q : ℕ) (e : (take bs (length (kind ∷ body))).answer ≡ Ok q) where
  taken : List ℕ
  taken = (take bs (length (kind ∷ body))).after

  written : List ℕ
  written = replaced_part taken q (kind ∷ body)

  taken-accepted : Accepted taken
  unfolding taken
  taken-accepted = take-accepted bs B.accepted (length (kind ∷ body))

  -- the new payload, before it is written
  payload : List ℕ
  payload = (granted-held bs B.accepted (length (kind ∷ body)) q e).payload

  granted : Held taken q payload
  unfolding taken payload
  granted = (granted-held bs B.accepted (length (kind ∷ body)) q e).held

  long-enough : length (kind ∷ body) ≤ length payload
  unfolding payload
  long-enough = (granted-held bs B.accepted (length (kind ∷ body)) q e).long-enough

  fits : q + length (kind ∷ body) ≤ q + length payload
  fits = omega (arith, long-enough)

  written-accepted : Accepted written
  unfolding written
  written-accepted = write-accepted taken taken-accepted q payload granted q (kind ∷ body) bytes (omega arith) fits

  -- what was held before is held when the record is written
  written-stays : (offset : ℕ) → Stays bs written offset
  unfolding taken written
  written-stays offset old h =
      write-keeps-held taken taken-accepted.bytes q payload granted q (kind ∷ body) bytes (omega arith) fits offset old
      (take-keeps-held bs B.accepted.bytes offset old h (length (kind ∷ body)))
      (λ same. granted-new bs B.accepted (length (kind ∷ body)) q e old (subst (λ (o : ℕ). Held bs o old) same h))

  -- and the new payload starts with it
  written-there : Setting written q (kind ∷ body)
  unfolding written
  written-there =
      let self : q - q ≡ 0 = omega arith in
      written-setting kind body is payload long-enough written q (held-there taken taken-accepted.bytes q payload granted).not-zero
      (subst (λ (a : ℕ). Held written q (replaced_part payload a (kind ∷ body))) self
      (write-held taken taken-accepted.bytes q payload granted q (kind ∷ body) bytes (omega arith) fits))

  -- no piston names the new one
  unnamed : (i : ℕ) → get_or bank i 0 ≢ 0 → get_or bank i 0 ≢ q
  unnamed i n same =
      let h = (bank-names bs bank shows B).held i n in
      granted-new bs B.accepted (length (kind ∷ body)) q e h.0 (subst (λ (o : ℕ). Held bs o h.0) same h.1)

  old : ℕ
  old = get_or bank p 0

  pub stored-keeps : Bank (released (replaced_part (take bs (length (kind ∷ body))).after q (kind ∷ body)) (get_or bank p 0)) (put bank p q)
      (λ i. if= p i (kind ∷ body) (shows i))
  unfolding taken written old
  stored-keeps =
      bank-changes bs bank shows B (released written old) (released-accepted written written-accepted old) p below q (kind ∷ body)
      (inr (setting-stays written (released written old) q (kind ∷ body)
      (released-stays written written-accepted old q (λ n same. unnamed p n (sym same))) written-there))
      (λ i n m payload h. released-stays written written-accepted old (get_or bank i 0) (λ k same. n (B.apart i p m same)) payload (written-stays (get_or bank i 0) payload h))
      (λ i n m. unnamed i m)
