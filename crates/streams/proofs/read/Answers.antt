-- streams::read meets its contract: what one reading gives stands behind what stood in `to` before it.
use Rattle.std.proofs.Common.{◌≡◌, ℕ, ◌+◌, ◌≤◌, List, ◌++◌, rules, length, take, sym, ap, ◌∙◌, subst, length-take-le}
use Rattle.std.proofs.Math.Seq.{take-append-add}
use Rattle.std.proofs.lemmas.List.{take-append-le}
use Rattle.std.specs.Io.KnownBytes.{Consumes}
use Rattle.std.proofs.KnownBytes.{Consumes-trans}
use borrow.Rule.Slice.PartMut.{put_mid, post_of}
use Rattle.streams.proofs.read.Goals as goal

-- the first n bytes of a part that begins at a, behind what stands before it
joined : (a k n : ℕ) (bs part : List ℕ) → a ≤ length bs → n ≤ length part → take a bs ++ take n part ≡ take (a + n) (put_mid a k bs part)
joined a k n bs part within fits =
    let front : length (take a bs) ≡ a = length-take-le a bs within in
    ap (λ (l : List ℕ). take a bs ++ l) (sym (take-append-le n part (post_of a k bs) fits))
    ∙ sym (take-append-add (take a bs) (part ++ post_of a k bs) n)
    ∙ ap (λ (m : ℕ). take (m + n) (put_mid a k bs part)) front

pub loop-done-preserved : goal.loop-done-preserved
loop-done-preserved g c =
    let a = c.loop-done.done in
    let n = c.in-Ok.more in
    let gives = c.in-Ok.ensures in
    (search rules, subst (Consumes _ _) (joined a _ n c.loop-done.to c.read.new.buf c.loop-done.invariant.0 gives.bound.0) (Consumes-trans _ _ _ _ _ c.loop-done.invariant.1 gives.bytes.0))
