-- What the code hands back of a rule, as the rule gives it.
use Rattle.row.specs.Messages.{row_sent}
use Rattle.rules.specs.declared.Step.{Step}
use Rattle.rules.specs.Rules.{Stepped}

abbrev pub stepped : Step → Stepped
stepped s = record { site = s.site; row = row_sent s.sent; news = s.news }
