-- Sets of sites as 16 bits.
use Rattle.std.specs.Prelude.{ℕ, ◌-◌, ◌/◌, ◌%◌, ◌^◌, Bool, eqb}

-- the site's bit is set
unfoldable pub has_bit : ℕ → ℕ → Bool
has_bit bits site = eqb (bits / 2 ^ site % 2) 1

-- the set of one site
unfoldable pub only_site : ℕ → ℕ
only_site site = 2 ^ site

-- all sites below n
unfoldable pub every_site : ℕ → ℕ
every_site n = 2 ^ n - 1

-- all sites below n but one
unfoldable pub other_sites : ℕ → ℕ → ℕ
other_sites n own = every_site n - 2 ^ own
