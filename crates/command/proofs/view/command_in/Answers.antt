use Rattle.std.proofs.Common.{ap, ◌∙◌}
use Rattle.command.specs.Commands.{refusal_of}
use Rattle.command.specs.laws.CommandLaws.{reading_refusal}
use Rattle.command.proofs.view.command_in.Goals as goal

pub returns : goal.returns
returns c = (c.read_at.ensures, ap refusal_of c.read_at.ensures ∙ reading_refusal c.args.v.list.now c.args.v.at)
