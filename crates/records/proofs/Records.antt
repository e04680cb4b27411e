-- Reading a record: where each test of `read` leads; and what a whole record is: its kind is its request's, and it ends within the tape.
use mathlib.Core.Path.{◌≡◌, sym, ap, ◌∙◌}
use mathlib.Core.Logic.{◌≢◌}
use mathlib.Core.List.{List}
use Prim.Native.Nat.{ℕ, ◌+◌, ◌-◌, ◌≤◌, ◌<◌}
use native.Mathlib.Omega.{arith}
use lib.ListN.{length, get_or}
use Rattle.std.specs.Prelude.{None}
use Rattle.words.specs.Choice.{if<-yes, if<-no, if=-yes, if=-no, by<, by=}
use Rattle.words.specs.Words.{word_at}
use Rattle.records.specs.declared.request.Request.{Request}
use Rattle.records.specs.declared.request.Request.TheVariants.{LayOut, LayOutIndexed, Take, GiveBack, Figures}
use Rattle.records.specs.Records.{whole, kind_of, with_body, read_at}

module _ (tape : List ℕ) (at : ℕ) where
  pub past : length tape ≤ at → None ≡ read_at tape at
  unfolding read_at
  past h = sym (if<-no _ _ _ _ h)

  pub no_body : at < length tape → get_or tape at 0 ≡ 4 → whole Figures (at + 1) ≡ read_at tape at
  unfolding read_at
  no_body h k = sym (if<-yes _ _ _ _ h ∙ if=-yes _ _ _ _ k)

  pub short : at < length tape → get_or tape at 0 ≢ 4 → length tape - (at + 1) < 4 → None ≡ read_at tape at
  unfolding read_at
  short h k l = sym (if<-yes _ _ _ _ h ∙ if=-no _ _ _ _ k ∙ if<-yes _ _ _ _ l)

  body : at < length tape → get_or tape at 0 ≢ 4 → 4 ≤ length tape - (at + 1)
      → read_at tape at ≡ with_body (get_or tape at 0) (word_at 4 tape (at + 1)) (at + 1 + 4)
  unfolding read_at
  body h k l = if<-yes _ _ _ _ h ∙ if=-no _ _ _ _ k ∙ if<-no _ _ _ _ l

  module _ (v : ℕ) (e : v ≡ word_at 4 tape (at + 1)) (h : at < length tape) (k : get_or tape at 0 ≢ 4) (l : 4 ≤ length tape - (at + 1)) where
    pub laid : get_or tape at 0 ≡ 1 → whole (LayOut v) (at + 1 + 4) ≡ read_at tape at
    unfolding with_body
    laid a = rw e (sym (body h k l ∙ if=-yes _ _ _ _ a))

    pub taken : get_or tape at 0 ≢ 1 → get_or tape at 0 ≡ 2 → whole (Take v) (at + 1 + 4) ≡ read_at tape at
    unfolding with_body
    taken a b = rw e (sym (body h k l ∙ if=-no _ _ _ _ a ∙ if=-yes _ _ _ _ b))

    pub given : get_or tape at 0 ≢ 1 → get_or tape at 0 ≢ 2 → get_or tape at 0 ≡ 3 → whole (GiveBack v) (at + 1 + 4) ≡ read_at tape at
    unfolding with_body
    given a b d = rw e (sym (body h k l ∙ if=-no _ _ _ _ a ∙ if=-no _ _ _ _ b ∙ if=-yes _ _ _ _ d))

    module _ (a : get_or tape at 0 ≢ 1) (b : get_or tape at 0 ≢ 2) (d : get_or tape at 0 ≢ 3) where
      pub indexed : get_or tape at 0 ≡ 5 → whole (LayOutIndexed v) (at + 1 + 4) ≡ read_at tape at
      unfolding with_body
      indexed f = rw e (sym (body h k l ∙ if=-no _ _ _ _ a ∙ if=-no _ _ _ _ b ∙ if=-no _ _ _ _ d ∙ if=-yes _ _ _ _ f))

      pub other : get_or tape at 0 ≢ 5 → None ≡ read_at tape at
      unfolding with_body
      other f = sym (body h k l ∙ if=-no _ _ _ _ a ∙ if=-no _ _ _ _ b ∙ if=-no _ _ _ _ d ∙ if=-no _ _ _ _ f)

-- ---- a whole record

pub same : {r r' : Request} {n n' : ℕ} → whole r n ≡ whole r' n' → (r ≡ r') × (n ≡ n')
same {r} {r'} {n} {n'} e = let p : ◌≡◌ {A = Request × ℕ} (r, n) (r', n') = cc in (ap (λ (x : Request × ℕ). x.0) p, ap (λ (x : Request × ℕ). x.1) p)

pub never : {request : Request} {next : ℕ} → None ≡ whole request next → ⊥
never e = let z : ◌≡◌ {A = ℕ} 0 1 = cc in omega arith

-- a whole record has its request's kind, and the next one stands past it and within the tape
pub record Onward (tape : List ℕ) (at : ℕ) (request : Request) (next : ℕ) : Type 0 where
  pub kind : get_or tape at 0 ≡ kind_of request
  pub past-this : at < next
  pub within : next ≤ length tape

-- of a record with a body
record Bodied (kind m : ℕ) (request : Request) (next : ℕ) : Type 0 where
  pub of-kind : kind ≡ kind_of request
  pub place : m ≡ next

bodied : {kind m : ℕ} (read : Request) {request : Request} {next : ℕ} → kind ≡ kind_of read → whole read m ≡ whole request next → Bodied kind m request next
bodied {kind} {m} read {request} {next} a e =
    record { of-kind = a ∙ ap kind_of (same e).0; place = (same e).1 }

body_is : (kind v m : ℕ) {request : Request} {next : ℕ} → with_body kind v m ≡ whole request next → Bodied kind m request next
unfolding with_body
body_is kind v m e =
    by= kind 1 (λ a. bodied (LayOut v) a (sym (if=-yes _ _ _ _ a) ∙ e))
    (λ a. by= kind 2 (λ b. bodied (Take v) b (sym (if=-no _ _ _ _ a ∙ if=-yes _ _ _ _ b) ∙ e))
    (λ b. by= kind 3 (λ d. bodied (GiveBack v) d (sym (if=-no _ _ _ _ a ∙ if=-no _ _ _ _ b ∙ if=-yes _ _ _ _ d) ∙ e))
    (λ d. by= kind 5 (λ f. bodied (LayOutIndexed v) f (sym (if=-no _ _ _ _ a ∙ if=-no _ _ _ _ b ∙ if=-no _ _ _ _ d ∙ if=-yes _ _ _ _ f) ∙ e))
    (λ f. absurd (never (sym (if=-no _ _ _ _ a ∙ if=-no _ _ _ _ b ∙ if=-no _ _ _ _ d ∙ if=-no _ _ _ _ f) ∙ e))))))

pub onward : (tape : List ℕ) (at : ℕ) {request : Request} {next : ℕ} → read_at tape at ≡ whole request next → Onward tape at request next
onward tape at {request} {next} e =
    by< at (length tape)
    (λ h. by= (get_or tape at 0) (kind_of Figures) (λ k. bare h (bodied Figures k (no_body tape at h k ∙ e)))
    (λ k. by< (length tape - (at + 1)) 4 (λ l. absurd (never (short tape at h k l ∙ e)))
    (λ l. whole l (body_is _ _ _ (sym (body tape at h k l) ∙ e)))))
    (λ h. absurd (never (past tape at h ∙ e)))
  where
    bare : at < length tape → Bodied (get_or tape at 0) (at + 1) request next → Onward tape at request next
    bare h b = record { kind = b.of-kind; past-this = omega (arith, b.place); within = omega (arith, b.place) }

    whole : 4 ≤ length tape - (at + 1) → Bodied (get_or tape at 0) (at + 1 + 4) request next → Onward tape at request next
    whole l b = record { kind = b.of-kind; past-this = omega (arith, b.place); within = omega (arith, b.place) }
