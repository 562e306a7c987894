use Rattle.site.specs.Fields.{with_codes}
use Rattle.rules.specs.Rules.{adopt, hear, after_hearing, deliver}
use Rattle.participant.proofs.Participant.deliver.Goals as goal

pub returns : goal.returns
unfolding deliver after_hearing hear with_codes
returns c =
    let a = c.args in
    rw (c.adopt-heard.ensures, c.merge-merged.ensures) at
    (c.answer.ensures (adopt a.self.own a.self.n (hear a.self.own a.self.n a.row a.self.site)).records)
