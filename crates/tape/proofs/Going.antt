-- The loop of a run: the lines so far, then the run from the record at hand on, are the whole run. One law for each way out and one for going on.
use mathlib.Core.Path.{◌≡◌, refl, sym, ap, ◌∙◌}
use mathlib.Core.List.{List, [], ◌++◌, append_assoc, append-nil}
use Prim.Native.Nat.{ℕ, zero, suc, ◌+◌, ◌*◌, ◌≤◌, ◌<◌}
use native.Mathlib.Omega.{arith}
use lib.ListN.{length, length-append}
use Rattle.words.specs.Choice.{if<-yes, if<-no}
use Rattle.std.specs.Prelude.{None}
use Rattle.text.specs.declared.Page.{Page as Lent}
use Rattle.text.specs.Lent.{shown}
use Rattle.text.specs.Page.{Page, page, put}
use Rattle.text.proofs.Putting.{put-append, put_front}
use Rattle.records.specs.declared.request.Request.{Request}
use Rattle.records.specs.Records.{Record, whole, read_at}
use Rattle.records.proofs.Records.{Onward, onward}
use Rattle.lines.specs.Lines.{line_of, letter_of}
use Rattle.lines.specs.Printed.{Printed}
use Rattle.tape.specs.declared.calls.RunPool.{RunPool}
use Rattle.tape.specs.Called.{held}
use Rattle.tape.specs.Serve.{Pool, pool, serve}
use Rattle.tape.specs.Step.{Stepped}
use Rattle.tape.specs.Run.{Run, run, then, x_line, longest, run_from, run_of, left, leaves}

-- the length of `out`: 96 bytes for each record of the longest tape
abbrev room : ℕ
room = 3145728

-- ---- one turn of the recursion

run_ends : (k : ℕ) (tape : List ℕ) (at nth : ℕ) (p : Pool) → length tape ≤ at → run_from k tape at nth p ≡ run [] p
unfolding run_from
run_ends zero tape at nth p h = refl
run_ends (suc k) tape at nth p h = if<-no _ _ _ _ h

run-stops : (k : ℕ) (tape : List ℕ) (at nth : ℕ) (p : Pool) → at < length tape → length tape ≤ at + k → read_at tape at ≡ None
    → run_from k tape at nth p ≡ run (x_line nth) p
unfolding run_from
run-stops zero tape at nth p h f e = absurd (omega arith)
run-stops (suc k) tape at nth p h f e = if<-yes _ _ _ _ h ∙ rw e

run-serves : (k : ℕ) (tape : List ℕ) (at nth : ℕ) (p : Pool) {request : Request} {next : ℕ} → at < length tape
    → read_at tape at ≡ whole request next
    → run_from (suc k) tape at nth p
    ≡ then (line_of nth (letter_of request) (serve p request).numbers) (run_from k tape next (nth + 1) (serve p request).after)
unfolding run_from
run-serves k tape at nth p h e = if<-yes _ _ _ _ h ∙ rw e

then-then : (t u : List ℕ) (r : Run) → then t (then u r) ≡ then (t ++ u) r
then-then t u r = ap (λ (l : List ℕ). run l r.last) (sym (append_assoc t u r.text))

-- ---- the end

-- lines that fit, put at the start of `out`, are what a run leaves
all-put : (text out₀ : List ℕ) (p : Pool) (q : Page) → length text ≤ length out₀ → put (page 0 out₀) text ≡ q
    → leaves (run text p) out₀ ≡ left q.place p.buffer q.bytes
unfolding leaves
all-put text out₀ p q h e = ap (λ (q : Page). left q.place p.buffer q.bytes) (sym (put_front text out₀ h) ∙ e)

-- a tape that is too long
pub too_long : (tape buffer : List ℕ) (before after : Lent) → longest < length tape → length before.out.now ≡ room → before.at ≡ 0
    → Printed before (x_line 0) after
    → leaves (run_of tape buffer) before.out.now ≡ left after.at buffer after.out.now
unfolding run_of
too_long tape buffer before after h r z p =
    ap (λ (r : Run). leaves r before.out.now) (if<-yes longest (length tape) _ _ h)
    ∙ all-put (x_line 0) before.out.now (pool 0 buffer) (shown after) (omega (arith, p.short))
    (ap (λ (k : ℕ). put (page k before.out.now) (x_line 0)) (sym z) ∙ p.same.shows)

-- ---- the loop

pub record Going (tape buffer₀ out₀ : List ℕ) (now : RunPool) (lines : Lent) (at nth : ℕ) : Type 0 where
  pub few : length tape ≤ longest
  pub inside : at ≤ length tape
  pub counted : nth ≤ at + 1
  pub left : ℕ
  pub enough : length tape ≤ at + left
  pub text : List ℕ
  pub short : length text ≤ 96 * at
  pub fits : length text ≤ length out₀
  pub same : run_of tape buffer₀ ≡ then text (run_from left tape at nth (held now))
  pub printed : put (page 0 out₀) text ≡ shown lines

pub start : (tape : List ℕ) (now : RunPool) (lines : Lent) → length tape ≤ longest → now.n ≡ 0 → lines.at ≡ 0
    → Going tape now.buffer.now lines.out.now now lines 0 1
unfolding run_of put
start tape now lines h e f =
    record {
      few = h;
      inside = omega arith;
      counted = omega arith;
      left = length tape;
      enough = omega arith;
      text = [];
      short = omega arith;
      fits = omega arith;
      same =
          if<-no longest (length tape) _ _ h ∙ ap (λ (k : ℕ). run_from (length tape) tape 0 1 (pool k now.buffer.now)) (sym e);
      printed = ap (λ (k : ℕ). page k lines.out.now) (sym f);
    }

module _ {tape buffer₀ out₀ : List ℕ} {now : RunPool} {lines : Lent} {at nth : ℕ} (g : Going tape buffer₀ out₀ now lines at nth) where
  -- there is room for one more line
  more_room : (line : List ℕ) → at < length tape → length out₀ ≡ room → length line ≤ 96 → length (g.text ++ line) ≤ length out₀
  more_room line h r l = rw length-append (omega (arith, g.short, g.few))

  pub ends : length tape ≤ at → leaves (run_of tape buffer₀) out₀ ≡ left lines.at now.buffer.now lines.out.now
  ends h =
      ap (λ (r : Run). leaves r out₀)
      (g.same ∙ ap (then g.text) (run_ends g.left tape at nth (held now) h) ∙ ap (λ (l : List ℕ). run l (held now)) (append-nil g.text))
      ∙ all-put g.text out₀ (held now) (shown lines) g.fits g.printed

  pub stops : {r : Record} {after : Lent} → at < length tape → length out₀ ≡ room → r ≡ read_at tape at → r ≡ None
      → Printed lines (x_line nth) after
      → leaves (run_of tape buffer₀) out₀ ≡ left after.at now.buffer.now after.out.now
  stops {after = after} h w e f p =
      ap (λ (r : Run). leaves r out₀)
      (g.same ∙ ap (then g.text) (run-stops g.left tape at nth (held now) h g.enough (sym e ∙ f)))
      ∙ all-put (g.text ++ x_line nth) out₀ (held now) (shown after) (more_room (x_line nth) h w p.short)
      (put-append (page 0 out₀) g.text (x_line nth) ∙ ap (λ (q : Page). put q (x_line nth)) g.printed ∙ p.same.shows)

  pub goes_on : {r : Record} {request : Request} {next : ℕ} {after : RunPool} {lines' : Lent}
      → at < length tape
      → length out₀ ≡ room
      → r ≡ read_at tape at
      → r ≡ whole request next
      → Stepped now request nth lines after lines'
      → Going tape buffer₀ out₀ after lines' next (nth + 1)
  goes_on {r} {request} {next} {after} {lines'} h w e f s = go g.left g.enough g.same
    where
      line : List ℕ
      line = line_of nth (letter_of request) (serve (held now) request).numbers

      on : Onward tape at request next
      on = onward tape at (sym e ∙ f)

      go : (k : ℕ) → length tape ≤ at + k → run_of tape buffer₀ ≡ then g.text (run_from k tape at nth (held now))
          → Going tape buffer₀ out₀ after lines' next (nth + 1)
      go zero en q = absurd (omega arith)
      go (suc k) en q =
          record {
            few = g.few;
            inside = on.within;
            counted = omega (arith, g.counted, on.past-this);
            left = k;
            enough = omega (arith, on.past-this);
            text = g.text ++ line;
            short = rw length-append (omega (arith, g.short, s.printed.short, on.past-this));
            fits = more_room line h w s.printed.short;
            same =
                q ∙ ap (then g.text) (run-serves k tape at nth (held now) h (sym e ∙ f)) ∙ then-then g.text line _
                ∙ ap (λ (p : Pool). then (g.text ++ line) (run_from k tape next (nth + 1) p)) s.kept;
            printed =
                put-append (page 0 out₀) g.text line ∙ ap (λ (q : Page). put q line) g.printed ∙ s.printed.same.shows;
          }
