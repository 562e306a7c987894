-- The quiet day as a list: a first-edition header in which every site is willing, and the day's commands; and the call that writes it.
-- The call's refusals, all at place 0: 3 and 4 of the sizes; 20 a buffer shorter than the list.
use Rattle.std.specs.Prelude.{ℕ, List, eqb}
use Rattle.choice.specs.Choice.{pick}
use Rattle.bits.specs.Bits.{every_site}
use Rattle.site.specs.declared.CommitQuorum.{CommitQuorum}
use Rattle.site.specs.declared.AbortQuorum.{AbortQuorum}
use Rattle.header.specs.declared.Header.{Header}
use Rattle.header.specs.Headers.{first_sizes}
use Rattle.spelling.specs.WriteRead.{Output, refuse, put_out, bytes_of}
use Rattle.quiet.specs.Quiet.{quiet}

-- every site is willing
unfoldable pub quiet_header : ℕ → CommitQuorum → AbortQuorum → Header
quiet_header n c a = record { n = n; commit = c; abort = a; willing = every_site n }

-- the list, header and all
unfoldable pub quiet_list : ℕ → CommitQuorum → AbortQuorum → List ℕ
quiet_list n c a = bytes_of (quiet_header n c a) (quiet n)

-- WRITING THE QUIET DAY: 3 or 4, else the list from the buffer's beginning, or 20
unfoldable pub write_quiet : ℕ → CommitQuorum → AbortQuorum → List ℕ → Output
write_quiet n c a buffer =
    pick (eqb (first_sizes (quiet_header n c a)) 0) (put_out 0 (quiet_list n c a) buffer)
    (refuse (first_sizes (quiet_header n c a)) 0 buffer)
