-- A call on the first n bytes of a buffer: one law for each way, over the call.
use mathlib.Core.Path.{◌≡◌, ap, ◌∙◌}
use mathlib.Core.List.{List, ◌++◌}
use Prim.Native.Nat.{ℕ, ◌≤◌, ◌<◌}
use lib.ListN.{length, take, drop}
use Rattle.words.specs.Choice.{if<-yes, if<-no}
use Rattle.std.specs.Prelude.{Err}
use Rattle.paper.specs.Answers.{Answer, Out, out}
use Rattle.paper.specs.declared.Refusal.TheVariants.{NotAllowed}
use Rattle.tape.specs.Serve.{before, on_first}

pub past-the-buffer : (call : List ℕ → Out) (n : ℕ) (buffer : List ℕ) → length buffer < n → on_first call n buffer ≡ out (Err NotAllowed) buffer
unfolding on_first
past-the-buffer call n buffer h = if<-yes _ _ _ _ h

pub in-the-buffer : (call : List ℕ → Out) (n : ℕ) (buffer : List ℕ) {a : Answer} {after : List ℕ}
    → n ≤ length buffer
    → call (take n buffer) ≡ out a after
    → on_first call n buffer ≡ out a (after ++ drop n buffer)
unfolding on_first
in-the-buffer call n buffer h e = if<-no _ _ _ _ h ∙ ap (before n buffer) e

-- where the part ends is n
pub up-to : (call : List ℕ → Out) (n : ℕ) (buffer : List ℕ) {a : Answer} {after : List ℕ} {end : ℕ}
    → (end ≡ n) × (n ≤ length buffer)
    → call (take end buffer) ≡ out a after
    → on_first call n buffer ≡ out a (after ++ drop end buffer)
up-to call n buffer {a} {after} {end} w d = rw (w.0) (in-the-buffer call n buffer w.1 (rw (w.0) at d))
