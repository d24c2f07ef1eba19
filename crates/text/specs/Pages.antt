-- What it means to put a text on a page.
use Rattle.std.specs.Prelude.{◌≡◌, ℕ, ◌+◌, ◌≤◌, List, length, Ok, OnErr, Result}
use Rattle.std.specs.Result.{result_and}
use Rattle.text.specs.Puts.{Put}
use Rattle.text.specs.declared.page.Page.{Page}
use Rattle.text.specs.declared.room.TooShort.{TooShort}

-- so many bytes fit where the next text begins
abbrev pub HasRoom : Page → ℕ → Type 0
HasRoom page n = page.at + n ≤ length page.bytes.now

-- ys was put where the next text begins, and the text after it begins at its end; a refused page stays as it was.
-- Its bytes are still those that the caller lent.
pub record PutOn (before : Page) (ys : List ℕ) (after : Page) (r : Result (Unit {0}) TooShort) : Type 0 where
  pub put : Put before.bytes.now before.at ys after.bytes.now (result_and r (Ok after.at))
  pub stays : OnErr r (after.at ≡ before.at)
  pub lent : after.bytes.ghost_name ≡ before.bytes.ghost_name
