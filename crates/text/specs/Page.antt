-- What is put on a page, a lent buffer with the place up to which it is filled.
use Rattle.std.specs.Prelude.{ℕ, ◌+◌, ◌≤◌, ◌≡◌, List, length}
use Rattle.text.specs.declared.Page.{Page}
use Rattle.text.specs.laws.Written.{Written}

-- so many bytes fit
abbrev pub HasRoom : Page → ℕ → Type 0
HasRoom p k = p.at + k ≤ length p.buffer.now

-- the page is the same buffer with the piece after what it held, the bytes beyond it as they were
pub record Put (p : Page) (piece : List ℕ) (q : Page) : Type 0 where
  pub same : q.buffer.ghost_name ≡ p.buffer.ghost_name
  pub written : Written p.buffer.now p.at piece q.buffer.now q.at
  pub length-is : length q.buffer.now ≡ length p.buffer.now
