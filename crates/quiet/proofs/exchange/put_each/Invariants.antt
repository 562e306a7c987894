use Rattle.std.proofs.Common.{ℕ, ◌≡◌, ◌+◌, ◌*◌, length}
use Rattle.command.specs.declared.Command.{Command}
use Rattle.text.specs.Page.{Put}
use Rattle.quiet.specs.laws.QuietLaws.{Delivers, bytes, each}
use Rattle.quiet.proofs.exchange.put_each.Given as goal

abbrev pub invariant-loop-k : goal.invariant-loop-k
invariant-loop-k g l = record {
  value : l.page.at ≡ l.initial.page.at + 4 * l.k;
  length_kept : length l.page.buffer.now ≡ length l.initial.page.buffer.now;
  put : (rule : ℕ → Command) → Delivers (goal.F-post g l.fn.delivery) rule → Put l.initial.page (bytes (each rule l.k)) l.page;
}
