-- bins::leave_both meets its contract, by its text: no height is past 13, so the words have room.
use Rattle.bins.proofs.KeptWords.{room, kept-part}
use Rattle.bins.specs.Leave.{restored, leave_both}
use Rattle.levels.proofs.Levels.{height-le}
use Prim.Native.Nat.{◌≤◌}
use lib.Seq.{length-take-le}
use mathlib.Core.Path.{sym}
use Rattle.bins.proofs.leaving.leave_both.Goals as goal

pub slice_bounds-index_words-end : goal.slice_bounds-index_words-end
slice_bounds-index_words-end c = rw (c.height-height.ensures, c.top.ensures) (height-le _ _)

pub slice_bounds-keep-end-2 : goal.slice_bounds-keep-end-2
slice_bounds-keep-end-2 c = sym (length-take-le _ _ (rw (c.height-height.ensures, c.top.ensures) (height-le _ _)))

pub slice_bounds-index_words-end-2 : goal.slice_bounds-index_words-end-2
slice_bounds-index_words-end-2 c = room _ _ c.keep-2.new.kept (rw (c.height-height.ensures, c.top.ensures) (height-le _ _)) c.keep-2.auto.kept

pub slice_bounds-put_back-end-2 : goal.slice_bounds-put_back-end-2
slice_bounds-put_back-end-2 c = sym (length-take-le _ _ (room _ _ c.keep-2.new.kept (rw (c.height-height.ensures, c.top.ensures) (height-le _ _)) c.keep-2.auto.kept))

pub returns : goal.returns
unfolding leave_both restored
returns c =
    let has_room : c.height-height.result ≤ 13 = rw (c.height-height.ensures, c.top.ensures) (height-le _ _) in
    rw (
      c.put_back-2.ensures,
      kept-part _ _ _ has_room c.keep-2.auto.kept _ _ _ c.keep-2.ensures,
      c.put_back.ensures,
      c.keep.ensures,
      c.leave-2.ensures,
      c.leave.ensures,
      c.word-index.ensures,
      c.height-height.ensures,
      c.size_of.ensures,
      c.top.ensures,
    )
