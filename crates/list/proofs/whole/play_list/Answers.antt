use mathlib.Core.Path.{sym, ◌∙◌}
use borrow.Author.Tests.{lt-ltb, le-ltb, eq-eqb}
use Rattle.refusals.specs.laws.RefusalLaws.{number-test}
use Rattle.header.specs.Headers.{header_world}
use Rattle.list.specs.Play.{play_list, refused_list, stopped}
use Rattle.list.proofs.whole.play_list.Goals as goal

pub returns-then-store-lt-STORE_BYTES : goal.returns-then-store-lt-STORE_BYTES
unfolding play_list refused_list stopped
returns-then-store-lt-STORE_BYTES c =
    record {
      played = simp (lt-ltb _ _ c.if-store-lt-STORE_BYTES.true) c.refused_list.ensures;
      stored = simp (lt-ltb _ _ c.if-store-lt-STORE_BYTES.true);
    }

pub play_commands-requires : goal.play_commands-requires
unfolding header_world
play_commands-requires c = (
  rw c.in-Ok.ensures.ok at c.fresh.ensures,
  c.header_length.ensures,
  sym c.in-Ok.ensures.number,
  c.if-store-lt-STORE_BYTES.false,
)

pub returns-in-Err : goal.returns-in-Err
unfolding play_list refused_list stopped
returns-in-Err c =
    let e = c.in-Err.ensures.number in
    record {
      played = simp (le-ltb _ _ c.if-store-lt-STORE_BYTES.false, ← e, number-test c.in-Err.reason) c.refused_list-in-Err.ensures;
      stored = simp (le-ltb _ _ c.if-store-lt-STORE_BYTES.false, ← e, number-test c.in-Err.reason);
    }
