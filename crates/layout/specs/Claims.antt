-- What is claimed of worlds as bytes. The proofs are in laws/.
use Rattle.std.specs.Prelude.{ℕ, ◌≤◌, ◌<◌, true, List, ◌≡◌, length, get_or}
use Rattle.world.specs.declared.World.{World}
use Rattle.world.specs.Worlds.{site_of}
use Rattle.layout.specs.Layout.{world_bytes, put_world, world_at, in_layout}

-- what the bytes can hold: sixteen sites with vectors of sixteen codes, sixteen weights of a byte each, and numbers that fit their fields
pub record Fits (w : World) : Type 0 where
  pub sites : length w.sites ≡ 16
  pub codes : (j : ℕ) → j < 16 → length (site_of w j).codes ≡ 16
  pub joined : (j : ℕ) → j < 16 → length (site_of w j).joined ≡ 16
  pub weights : length w.weights ≡ 16
  pub weights-fit : (j : ℕ) → j < 16 → get_or w.weights j 0 < 256
  pub n-fits : w.n < 256
  pub commit-fits : w.commit.0 < 65536
  pub abort-fits : w.abort.0 < 65536
  pub willing-fits : w.willing < 65536
  pub rows_fit : w.rows < 65536
  pub news_fits_lem : w.news < 4294967296

-- a world written and read is the same world
abbrev pub WorldReadBack : Type 0
WorldReadBack = (b : List ℕ) (w : World) → world_bytes ≤ length b → Fits w → world_at (put_world b w) ≡ w

-- bytes inside the layout, read and written again, are the same bytes; a byte is below 256
abbrev pub BytesWrittenBack : Type 0
BytesWrittenBack = (b : List ℕ) → in_layout b ≡ true → ((i : ℕ) → get_or b i 0 < 256) → put_world b (world_at b) ≡ b

-- every world written into bytes of the layout's length is inside the layout
abbrev pub WrittenInside : Type 0
WrittenInside = (b : List ℕ) (w : World) → length b ≡ world_bytes → in_layout (put_world b w) ≡ true
