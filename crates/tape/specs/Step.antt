-- One step of a run: a request is served, and its line printed.
use Rattle.std.specs.Prelude.{◌≡◌, ℕ}
use Rattle.records.specs.declared.request.Request.{Request}
use Rattle.text.specs.declared.Page.{Page}
use Rattle.lines.specs.Lines.{line_of, letter_of}
use Rattle.lines.specs.Printed.{Printed}
use Rattle.tape.specs.declared.calls.RunPool.{RunPool}
use Rattle.tape.specs.Serve.{serve}
use Rattle.tape.specs.Called.{held}

-- the pool after the request stands in the same buffer, and the line is on the page
pub record Stepped (before : RunPool) (request : Request) (nth : ℕ) (page : Page) (after : RunPool) (page' : Page) : Type 0 where
  pub same_bytes : after.buffer.ghost_name ≡ before.buffer.ghost_name
  pub kept : (serve (held before) request).after ≡ held after
  pub printed : Printed page (line_of nth (letter_of request) (serve (held before) request).numbers) page'
