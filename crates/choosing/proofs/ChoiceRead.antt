-- The code's choice is the paper's, on a pool that stands for a state: the bin that is found is the one that the rule names. And what the
-- choice carries is what the state has there.
use mathlib.Core.Bool.{Bool, false, true}
use mathlib.Core.List.{List, ◌∷◌}
use mathlib.Core.Logic.{◌≢◌}
use mathlib.Core.Path.{◌∙◌, ◌≡◌, ap, refl, subst, sym}
use Prim.Native.Nat.{◌%◌, ◌+◌, ◌<◌, ◌≤◌, ℕ}
use native.Mathlib.Omega.{arith}
use Rattle.bins.proofs.Between.{Between, stands-between}
use Rattle.bins.proofs.Found.{Found, exact-found, find-on-found}
use Rattle.bins.proofs.Index.{between-index}
use Rattle.bins.proofs.Led.{Led, empty-none, exact-led, found-empty, found_none, found-size, found_some}
use Rattle.bins.specs.Find.{empty, exact, find_on, none, size}
use Rattle.bins.specs.declared.chain.Bin.{Bin}
use Rattle.choosing.proofs.RestRead.{rest_read, rest_is}
use Rattle.choosing.specs.Choosing.{an_end, choose_larger, high_end_choice, low_end_choice, room, choose as choose-model, choose_large as choose_large-model, choose_small as choose_small-model}
use Rattle.choosing.specs.declared.Choice.{Choice}
use Rattle.choosing.specs.declared.Choice.TheVariants.{ExactBin, FirstOfBin, HighEnd, LargerBin, LowEnd}
use Rattle.choosing.specs.declared.remainder.Rest.{Rest}
use Rattle.heads.specs.Heads.{block_size}
use Rattle.paper.proofs.bins.Smallest.{no-bin-past, smallest-found, smallest-none}
use Rattle.paper.proofs.keeps.TakeKeeps.{block_size-eights, block_size-least}
use Rattle.paper.proofs.reads.HeaderReads.{bin-read, end-near}
use Rattle.paper.proofs.reads.LooseReads.{height-pos}
use Rattle.paper.proofs.reads.Stands.{Stands}
use Rattle.paper.proofs.sheet.Fields.{height-le}
use Rattle.paper.proofs.steps.EnterStep.{split-first}
use Rattle.paper.specs.Bins.{first}
use Rattle.paper.specs.Blocks.{State}
use Rattle.paper.specs.Governed.{height}
use Rattle.paper.specs.Granting.{choose, choose_large, choose_small, exact_bin, first_of_bin, high_end, if_room, larger_bin, low_end, refusal, smallest_bin, Choice as PaperChoice}
use Rattle.paper.specs.Layout.{large, small_bins}
use Rattle.words.specs.Choice.{by<, by=, if<, if<-no, if<-yes, if=, if=-no, if=-yes, when, when-no, when-yes}
use Rattle.words.specs.Sums.{plus}
use Rattle.words.specs.Words.{word_at}
use Rattle.std.specs.declared.result.Result.{Result}
use Rattle.std.specs.declared.result.Result.TheVariants.{Ok, Err}
use Rattle.paper.specs.declared.Refusal.{Refusal}
use Rattle.paper.specs.declared.Refusal.TheVariants.{NoRoom, NoSize}

-- as the paper says it
abbrev pub said : Result Choice Refusal → PaperChoice
said (Ok (FirstOfBin q b)) = first_of_bin b
said (Ok (HighEnd rest b)) = high_end b
said (Ok (ExactBin bin b)) = exact_bin b
said (Ok (LargerBin bin b)) = larger_bin (size bin) b
said (Ok (LowEnd rest b)) = low_end b
said (Err k) = refusal k

-- what it carries, in the state that it was chosen for
abbrev pub Carries : State → Result Choice Refusal → Type 0
Carries s (Ok (FirstOfBin q b)) = (8 ≤ b) × (b % 8 ≡ 0) × (b < large) × (l : List ℕ) × (s.bins b ≡ q ∷ l)
Carries s (Ok (HighEnd rest b)) = (8 ≤ b) × (b % 8 ≡ 0) × (b < large) × (rest ≡ rest_is s) × (b + 8 ≤ s.rest)
Carries s (Ok (ExactBin bin b)) = (b % 8 ≡ 0) × (large ≤ b) × Led s b bin
Carries s (Ok (LargerBin bin b)) = (b % 8 ≡ 0) × (large ≤ b) × (b + large ≤ size bin) × Led s (size bin) bin
Carries s (Ok (LowEnd rest b)) = (b % 8 ≡ 0) × (large ≤ b) × (rest ≡ rest_is s) × (b + 8 ≤ s.rest)
Carries s (Err k) = Unit {0}

pub record Reads (s : State) (c : Result Choice Refusal) (d : PaperChoice) : Type 0 where
  pub says : said c ≡ d
  pub carries : Carries s c

refusal-reads : (s : State) (k : Refusal) → Reads s (Err k) (refusal k)
refusal-reads s k = record { says = refl; carries = tt }

reads-by : (s : State) (c c' : Result Choice Refusal) (d d' : PaperChoice) → c ≡ c' → d ≡ d' → Reads s c' d' → Reads s c d
reads-by s c c' d d' p q r = subst (λ (k : Result Choice Refusal). Reads s k d) (sym p) (subst (Reads s c') (sym q) r)

-- by a flag
by_flag : {A : Type 0} (t : Bool) → (t ≡ true → A) → (t ≡ false → A) → A
by_flag true f g = f refl
by_flag false f g = g refl

module _ (s : State) (bs : List ℕ) (S : Stands s bs) (b : ℕ) (eights : b % 8 ≡ 0) where
  -- an end of the remainder
  end_reads : (end : Rest → Choice) (d : PaperChoice) → (b + 8 ≤ s.rest → Reads s (Ok (end (rest_is s))) d)
      → Reads s (an_end end (room bs b)) (if_room s b d)
  unfolding room
  end_reads end d f =
      subst (λ (r : Rest). Reads s (an_end end (if< r.size (b + 8) (Err NoRoom) (Ok r))) (if_room s b d)) (sym (rest_read s bs S))
      (by< s.rest (b + 8)
      (λ l. reads-by s _ (Err NoRoom) _ (refusal NoRoom) (ap (an_end end) (if<-yes s.rest (b + 8) _ _ l)) (if<-yes s.rest (b + 8) _ _ l) (refusal-reads s NoRoom))
      (λ l. reads-by s _ (Ok (end (rest_is s))) _ d (ap (an_end end) (if<-no s.rest (b + 8) _ _ l)) (if<-no s.rest (b + 8) _ _ l) (f l)))

  -- ---- small
  module _ (least : 8 ≤ b) (small : b < large) where
    high-reads : Reads s (high_end_choice bs b) (if_room s b (high_end b))
    unfolding high_end_choice
    high-reads =
        end_reads (λ r. HighEnd r b) (high_end b) (λ l. record { says = refl; carries = (least, eights, small, refl, l) })

    small_at : (q : ℕ) → q ≡ first (s.bins b) → Reads s (if= q 0 (high_end_choice bs b) (Ok (FirstOfBin q b))) (choose_small s b)
    unfolding choose_small
    small_at q e =
        by= q 0
        (λ o. reads-by s _ _ _ _ (if=-yes q 0 _ _ o) (if=-yes (first (s.bins b)) 0 _ _ (sym e ∙ o)) high-reads)
        (λ n. reads-by s _ _ _ _ (if=-no q 0 _ _ n) (if=-no (first (s.bins b)) 0 _ _ (λ o. n (e ∙ o)))
        (let c = split-first (s.bins b) q (sym e) n in record { says = refl; carries = (least, eights, small, c.0, c.1) }))

    small-reads : Reads s (choose_small-model bs b) (choose_small s b)
    unfolding choose_small-model
    small-reads = small_at (word_at 4 bs (small_bins + b)) (bin-read s bs S b least (omega arith) eights)

  -- ---- large
  module _ (b-large : large ≤ b) (near : b ≤ 65536) where
    B : Between s bs
    B = stands-between s bs S

    low_reads : Reads s (low_end_choice bs b) (if_room s b (low_end b))
    unfolding low_end_choice
    low_reads =
        end_reads (λ r. LowEnd r b) (low_end b) (λ l. record { says = refl; carries = (eights, b-large, refl, l) })

    abbrev larger-way : PaperChoice
    larger-way = if= (smallest_bin s (b + large)) 0 (if_room s b (low_end b)) (larger_bin (smallest_bin s (b + large)) b)

    larger-at : (bin : Bin) → Found s 1 (b + large) 0 bin → Reads s (when (none bin) (low_end_choice bs b) (Ok (LargerBin bin b))) larger-way
    larger-at bin F =
        let z : size bin ≡ smallest_bin s (b + large) = found-size s B.loose 1 (b + large) (omega arith) bin F refl in
        by_flag (none bin)
        (λ t. reads-by s _ _ _ _ (when-yes (none bin) _ _ t)
        (if=-yes (smallest_bin s (b + large)) 0 _ _ (found_none s B.loose 1 (b + large) (omega arith) bin F refl t)) low_reads)
        (λ t. let L : Led s (smallest_bin s (b + large)) bin = found_some s B.loose 1 (b + large) (omega arith) bin F refl t in
        let n : smallest_bin s (b + large) ≢ 0 = omega (arith, L.big) in
        reads-by s _ _ _ _ (when-no (none bin) _ _ t) (if=-no (smallest_bin s (b + large)) 0 _ _ n)
        (record {
          says = ap (λ (k : ℕ). larger_bin k b) z;
          carries = (eights, b-large, omega (arith, (smallest-found s (b + large) n).0), subst (λ (k : ℕ). Led s k bin) (sym z) L);
        }))

    larger-reads : (at : Bin) → Found s (height s.top b) b 0 at → Reads s (choose_larger bs at b) larger-way
    unfolding choose_larger
    larger-reads at F =
        let p : plus b large ≡ b + large = omega arith in
        subst (λ (k : ℕ). Reads s (when (none (find_on bs at k)) (low_end_choice bs b) (Ok (LargerBin (find_on bs at k) b))) larger-way) (sym p)
        (larger-at (find_on bs at (b + large))
        (find-on-found s B.loose bs (between-index s bs B) (height s.top b) b (b + large) at (height-pos s B.loose b) (height-le s.top b) F (omega arith)))

    large-at : (at : Bin) → Found s (height s.top b) b 0 at → Reads s (if= (size at) b (Ok (ExactBin at b)) (choose_larger bs at b)) (choose_large s b)
    unfolding choose_large size
    large-at at F =
        by= at.size b
        (λ e. let L : Led s b at = exact-led s B.loose (height s.top b) b b-large at F (omega arith) e in
        reads-by s _ _ _ _ (if=-yes at.size b _ _ e) (if=-no (first (s.bins b)) 0 _ _ (λ o. L.some (L.leads ∙ o)))
        (record { says = refl; carries = (eights, b-large, L) }))
        (λ d. reads-by s _ _ _ _ (if=-no at.size b _ _ d)
        (if=-yes (first (s.bins b)) 0 _ _ (found-empty s B.loose (height s.top b) b b-large at F (omega arith) d)) (larger-reads at F))

    -- there is no bin at all
    empty-reads : empty bs ≡ true → Reads s (low_end_choice bs b) (choose_large s b)
    unfolding choose_large
    empty-reads t =
        let all : (z : ℕ) → large ≤ z → first (s.bins z) ≡ 0 = empty-none s B.loose bs (between-index s bs B) t in
        reads-by s _ _ _ _ refl
        (if=-yes (first (s.bins b)) 0 _ _ (all b b-large)
        ∙ if=-yes (smallest_bin s (b + large)) 0 _ _ (smallest-none s (b + large) (λ u l. all u (omega arith)))) low_reads

    large-reads : Reads s (choose_large-model bs b) (choose_large s b)
    unfolding choose_large-model
    large-reads =
        by_flag (empty bs)
        (λ t. reads-by s _ _ _ _ (when-yes (empty bs) _ _ t) refl (empty-reads t))
        (λ t. reads-by s _ _ _ _ (when-no (empty bs) _ _ t) refl (large-at (exact bs b) (exact-found s B.loose bs (between-index s bs B) b b-large near)))

-- ---- any payload: a block of more than 65,536 bytes is refused by both
module _ (s : State) (bs : List ℕ) (S : Stands s bs) where
  -- no bin is larger than the pool, and the remainder is not
  no-bin : (z : ℕ) → 65536 < z → first (s.bins z) ≡ 0
  no-bin z l = no-bin-past s (stands-between s bs S).loose z (omega (arith, S.well_formed.fits))

  too_large : (b : ℕ) → 65536 < b → choose_large s b ≡ refusal NoRoom
  unfolding choose_large
  too_large b l =
      if=-yes (first (s.bins b)) 0 _ _ (no-bin b l)
      ∙ if=-yes (smallest_bin s (b + large)) 0 _ _ (smallest-none s (b + large) (λ u m. no-bin u (omega arith)))
      ∙ if<-yes s.rest (b + 8) _ _ (omega (arith, end-near s bs S))

  pub choose-reads : (payload : ℕ) → Reads s (choose-model bs payload) (choose s payload)
  unfolding choose-model choose
  choose-reads payload =
      let b = block_size payload in
      let least = block_size-least payload in
      let eights = block_size-eights payload in
      by= payload 0
      (λ e. reads-by s _ _ _ _ (if=-yes payload 0 _ _ e) (if=-yes payload 0 _ _ e) (refusal-reads s NoSize))
      (λ n. by< 65536 b
      (λ l. reads-by s _ _ _ _ (if=-no payload 0 _ _ n ∙ if<-yes 65536 b _ _ l)
      (if=-no payload 0 _ _ n ∙ if<-no b large _ _ (omega arith) ∙ too_large b l) (refusal-reads s NoRoom))
      (λ l. by< b large
      (λ m. reads-by s _ _ _ _ (if=-no payload 0 _ _ n ∙ if<-no 65536 b _ _ l ∙ if<-yes b large _ _ m)
      (if=-no payload 0 _ _ n ∙ if<-yes b large _ _ m) (small-reads s bs S b eights least m))
      (λ m. reads-by s _ _ _ _ (if=-no payload 0 _ _ n ∙ if<-no 65536 b _ _ l ∙ if<-no b large _ _ m)
      (if=-no payload 0 _ _ n ∙ if<-no b large _ _ m) (large-reads s bs S b eights m l))))

  -- the paper's choice is read from the bytes
  pub choose-says : (payload : ℕ) → said (choose-model bs payload) ≡ choose s payload
  choose-says payload = (choose-reads payload).says
