-- Parts of a list of bytes: two are the same where each byte is, and what stands where after some bytes were replaced by as many others.
use Rattle.std.proofs.Common.{◌≡◌, ℕ, ◌+◌, ◌-◌, ◌<◌, ◌≤◌, List, ◌++◌, length, get_or, take as firsts, drop, sym, ap, ◌∙◌, arith, length-append, length-drop, length-take-le, get_or-drop, get_or-take, get_or-append-add, ext_get_or}
use lib.ListN.{get_or-append}
use Rattle.words.specs.Choice.{by<}
use Rattle.words.specs.Parts.{replaced_part}
use Rattle.words.specs.Words.{Bytes}

-- k bytes from a on are the same if each of them is
pub part_same : (a k : ℕ) (bs cs : List ℕ) → length cs ≡ length bs → a + k ≤ length bs → ((i : ℕ) → i < k → get_or cs (a + i) 0 ≡ get_or bs (a + i) 0)
    → firsts k (drop a cs) ≡ firsts k (drop a bs)
part_same a k bs cs l m h =
    let p : length (firsts k (drop a cs)) ≡ k = length-take-le k (drop a cs) (omega (arith, length-drop a cs)) in
    let q : length (firsts k (drop a bs)) ≡ k = length-take-le k (drop a bs) (omega (arith, length-drop a bs)) in
    ext_get_or 0 (firsts k (drop a cs)) (firsts k (drop a bs)) (p ∙ sym q)
    (λ i b. let c : i < k = omega arith in
    get_or-take k (drop a cs) i 0 c ∙ get_or-drop a cs i 0 ∙ h i c ∙ sym (get_or-take k (drop a bs) i 0 c ∙ get_or-drop a bs i 0))

-- ---- some bytes from a on replaced by others, as many

module _ (bs : List ℕ) (a : ℕ) (part : List ℕ) (m : a + length part ≤ length bs) where
  pub replaced-length : length (replaced_part bs a part) ≡ length bs
  replaced-length =
      omega (
        arith,
        length-append (firsts a bs) (part ++ drop (a + length part) bs),
        length-append part (drop (a + length part) bs),
        length-drop (a + length part) bs,
        length-take-le a bs (omega arith),
      )

  pub replaced-below : (i : ℕ) → i < a → get_or (replaced_part bs a part) i 0 ≡ get_or bs i 0
  replaced-below i l =
      let f : length (firsts a bs) ≡ a = length-take-le a bs (omega arith) in
      get_or-append (firsts a bs) (part ++ drop (a + length part) bs) 0 i (omega arith) ∙ get_or-take a bs i 0 l

  pub replaced-past : (i : ℕ) → a + length part ≤ i → get_or (replaced_part bs a part) i 0 ≡ get_or bs i 0
  replaced-past i l =
      let f : length (firsts a bs) ≡ a = length-take-le a bs (omega arith) in
      let e : i ≡ length (firsts a bs) + (length part + (i - (a + length part))) = omega arith in
      ap (λ (k : ℕ). get_or (replaced_part bs a part) k 0) e
      ∙ get_or-append-add (firsts a bs) (part ++ drop (a + length part) bs) (length part + (i - (a + length part))) 0
      ∙ get_or-append-add part (drop (a + length part) bs) (i - (a + length part)) 0
      ∙ get_or-drop (a + length part) bs (i - (a + length part)) 0
      ∙ ap (λ (k : ℕ). get_or bs k 0) (omega arith)

  pub replaced-inside : (i : ℕ) → i < length part → get_or (replaced_part bs a part) (a + i) 0 ≡ get_or part i 0
  replaced-inside i l =
      let f : length (firsts a bs) ≡ a = length-take-le a bs (omega arith) in
      ap (λ (k : ℕ). get_or (replaced_part bs a part) (k + i) 0) (sym f) ∙ get_or-append-add (firsts a bs) (part ++ drop (a + length part) bs) i 0
      ∙ get_or-append part (drop (a + length part) bs) 0 i l

  pub replaced-bytes : Bytes bs → Bytes part → Bytes (replaced_part bs a part)
  replaced-bytes g h i =
      by< i a (λ l. omega (arith, replaced-below i l, g i))
      (λ l. by< i (a + length part)
      (λ k. let e : i ≡ a + (i - a) = omega arith in
      omega (arith, ap (λ (j : ℕ). get_or (replaced_part bs a part) j 0) e, replaced-inside (i - a) (omega arith), h (i - a)))
      (λ k. omega (arith, replaced-past i k, g i)))

-- a part of what was replaced inside it is that part, replaced there
pub part-replaced : (bs : List ℕ) (o k a : ℕ) (part : List ℕ) → o ≤ a → a + length part ≤ o + k → o + k ≤ length bs
    → firsts k (drop o (replaced_part bs a part)) ≡ replaced_part (firsts k (drop o bs)) (a - o) part
part-replaced bs o k a part l m n =
    let f : length (firsts k (drop o bs)) ≡ k = length-take-le k (drop o bs) (omega (arith, length-drop o bs)) in
    let r = replaced-length bs a part (omega arith) in
    let g : length (firsts k (drop o (replaced_part bs a part))) ≡ k =
    length-take-le k (drop o (replaced_part bs a part)) (omega (arith, length-drop o (replaced_part bs a part))) in
    ext_get_or 0 (firsts k (drop o (replaced_part bs a part))) (replaced_part (firsts k (drop o bs)) (a - o) part)
    (g ∙ sym (replaced-length (firsts k (drop o bs)) (a - o) part (omega arith) ∙ f))
    (λ i b. let c : i < k = omega arith in
    get_or-take k (drop o (replaced_part bs a part)) i 0 c ∙ get_or-drop o (replaced_part bs a part) i 0
    ∙ by< i (a - o)
    (λ d. replaced-below bs a part (omega arith) (o + i) (omega arith) ∙ sym (replaced-below (firsts k (drop o bs)) (a - o) part (omega arith) i d ∙ old i c))
    (λ d. by< i (a - o + length part)
    (λ e. let j : ℕ = i - (a - o) in
    let x : o + i ≡ a + j = omega arith in
    let y : a - o + j ≡ i = omega arith in
    ap (λ (t : ℕ). get_or (replaced_part bs a part) t 0) x ∙ replaced-inside bs a part (omega arith) j (omega arith)
    ∙ sym (ap (λ (t : ℕ). get_or (replaced_part (firsts k (drop o bs)) (a - o) part) t 0) (sym y)
    ∙ replaced-inside (firsts k (drop o bs)) (a - o) part (omega arith) j (omega arith)))
    (λ e. replaced-past bs a part (omega arith) (o + i) (omega arith) ∙ sym (replaced-past (firsts k (drop o bs)) (a - o) part (omega arith) i e ∙ old i c))))
  where
    old : (i : ℕ) → i < k → get_or (firsts k (drop o bs)) i 0 ≡ get_or bs (o + i) 0
    old i c = get_or-take k (drop o bs) i 0 c ∙ get_or-drop o bs i 0
