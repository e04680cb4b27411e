-- A page as the code has it, with the bytes lent: what it shows, and what putting a text on it does.
use Rattle.std.specs.Prelude.{◌≡◌, List, ℕ}
use Rattle.text.specs.declared.Page.{Page as Lent}
use Rattle.text.specs.Page.{Page, page, put}

abbrev pub shown : Lent → Page
shown p = page p.at p.out.now

-- the text was put on the page, and its bytes are the same lent ones
pub record Puts (before : Lent) (text : List ℕ) (after : Lent) : Type 0 where
  pub same_bytes : after.out.ghost_name ≡ before.out.ghost_name
  pub shows : put (shown before) text ≡ shown after
