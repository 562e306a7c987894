-- Networks that are alike at their n sites and have sent the same rows take the same steps.
use Rattle.std.specs.Prelude.{ℕ, ◌<◌, List, ◌≡◌, eqb, length, get_or}
use Rattle.std.proofs.Math.Path.{ap, subst}
use Rattle.std.proofs.Common.{sym, ◌∙◌}
use Rattle.choice.specs.Choice.{pick}
use Rattle.row.specs.Rows.{no_row}
use Rattle.site.specs.Records.{Written}
use Rattle.member.specs.Orders.{row_in}
use Rattle.member.specs.Steps.{Answer, site_step}
use Rattle.history.specs.Network.{Competition, member_of, Network, Told, answer_of, put_site, sending, answered, after_step, WasSent, Genuine}
use Rattle.history.proofs.laws.Truth.{TrueSite, TrueRow}
use Rattle.history.proofs.laws.TrueNetwork.{TrueNetwork}

pub record Alike (n : ℕ) (a b : Network) : Type 0 where
  pub sites : (j : ℕ) → j < n → a.site j ≡ b.site j
  pub sent : a.sent ≡ b.sent

pub alike_then : {n : ℕ} {a b c : Network} → Alike n a b → Alike n b c → Alike n a c
alike_then p q = record { sites = λ j h. p.sites j h ∙ q.sites j h; sent = p.sent ∙ q.sent }

module _ (z : Competition) (a b : Network) (alike : Alike z.n a b) where
  -- what is true of one is true of the other
  pub alike_true : {H : List Written} → TrueNetwork z a H → TrueNetwork z b H
  alike_true {H} t =
      record {
        history = t.history;
        sites = λ j h. subst (TrueSite z.n j H) (alike.sites j h) (t.sites j h);
        rows = subst (λ sent. (k : ℕ) → k < length sent → TrueRow z.n H (get_or sent k no_row)) alike.sent t.rows;
        few = t.few;
      }

  -- one step of both
  module _ (x : Told) (below : x.at < z.n) where
    pub alike-answer : answer_of z a x ≡ answer_of z b x
    unfolding answer_of
    alike-answer = ap (λ s. site_step (member_of z x.at) s x.command) (alike.sites x.at below)

    pub alike-genuine : Genuine z b x → Genuine z a x
    unfolding Genuine
    alike-genuine g e accepted =
        subst (λ sent. WasSent sent (row_in x.command)) (sym alike.sent) (g e (ap (λ y. y.number) (sym alike-answer) ∙ accepted))

    both-answered : (y : Answer) → Alike z.n (answered x.at y a) (answered x.at y b)
    unfolding answered put_site
    both-answered y =
        record {
          sites = λ j h. ap (λ s. pick (eqb j x.at) y.site s) (alike.sites j h);
          sent = ap (sending y.row) alike.sent;
        }

    pub alike-step : Alike z.n (after_step z a x) (after_step z b x)
    unfolding after_step
    alike-step =
        subst (λ y. Alike z.n (answered x.at y a) (answered x.at (answer_of z b x) b)) (sym alike-answer)
        (both-answered (answer_of z b x))
