-- A network of members. Each has its own machine and takes its steps alone; a row that one has sent reaches another any number of times, in any order,
-- or never.
use Rattle.std.specs.Prelude.{ℕ, ◌<◌, true, List, [], ◌∷◌, ◌++◌, ◌≡◌, eqb, length, get_or}
use Rattle.choice.specs.Choice.{pick}
use Rattle.bits.specs.Bits.{has_bit}
use Rattle.row.specs.declared.Row.{Row}
use Rattle.row.specs.Rows.{no_row}
use Rattle.site.specs.declared.Site.{Site}
use Rattle.site.specs.declared.CommitQuorum.{CommitQuorum}
use Rattle.site.specs.declared.AbortQuorum.{AbortQuorum}
use Rattle.site.specs.Fields.{blank_site}
use Rattle.site.specs.Records.{Written}
use Rattle.member.specs.declared.Member.{Member}
use Rattle.member.specs.declared.Order.TheVariants as Order·
use Rattle.std.specs.Prelude.{Ok}
use Rattle.member.specs.Orders.{row_in, read_order}
use Rattle.member.specs.Steps.{Answer, site_step}

-- a competition: what its members share, and which of them are willing
pub record Competition : Type 0 where
  pub n : ℕ
  pub weights : List ℕ
  pub commit : CommitQuorum
  pub abort : AbortQuorum
  pub willing : ℕ

-- member i of it
unfoldable pub member_of : Competition → ℕ → Member
member_of z i =
    record { n = z.n; weights = z.weights; commit = z.commit; abort = z.abort; own = i; willing = has_bit z.willing i }

-- every site by its number, and the rows sent so far, the oldest first
pub record Network : Type 0 where
  pub site : ℕ → Site
  pub sent : List Row

-- sites start fresh, and nothing is sent
unfoldable pub fresh_network : Network
fresh_network = record { site = λ i. blank_site true; sent = [] }

-- a step: which site takes it, and the bytes of its command
pub record Told : Type 0 where
  pub at : ℕ
  pub command : List ℕ

unfoldable pub answer_of : Competition → Network → Told → Answer
answer_of z net x = site_step (member_of z x.at) (net.site x.at) x.command

-- one site changed
unfoldable pub put_site : ℕ → Site → (ℕ → Site) → ℕ → Site
put_site i s sites j = pick (eqb j i) s (sites j)

-- a row, if there is one, sent after the others
unfoldable pub sending : Row → List Row → List Row
sending row sent = pick (eqb row.kind 0) sent (sent ++ (row ∷ []))

-- the network after an answer at a site
unfoldable pub answered : ℕ → Answer → Network → Network
answered i a net = record { site = put_site i a.site net.site; sent = sending a.row net.sent }

unfoldable pub after_step : Competition → Network → Told → Network
after_step z net x = answered x.at (answer_of z net x) net

-- a row was sent
pub record WasSent (sent : List Row) (row : Row) : Type 0 where
  pub number : ℕ
  pub below : number < length sent
  pub same : get_or sent number no_row ≡ row

-- the row of an accepted delivery was sent before
unfoldable pub Genuine : Competition → Network → Told → Type 0
Genuine z net x =
    read_order x.command ≡ Ok Order·.Deliver → (answer_of z net x).number ≡ 0 →
    WasSent net.sent (row_in x.command)

-- A HISTORY: any list of steps in which every accepted delivery is of a row that was sent before it
unfoldable pub IsHistory : Competition → Network → List Told → Type 0
IsHistory z net [] = Unit
IsHistory z net (x ∷ steps) = Genuine z net x × IsHistory z (after_step z net x) steps

-- the network after steps, and all records written over them, in order
pub record Passed : Type 0 where
  pub network : Network
  pub records : List Written

unfoldable pub after_answer : Answer → Passed → Passed
after_answer a p = record { network = p.network; records = a.records ++ p.records }

unfoldable pub pass : Competition → Network → List Told → Passed
pass z net [] = record { network = net; records = [] }
pass z net (x ∷ steps) = after_answer (answer_of z net x) (pass z (after_step z net x) steps)
