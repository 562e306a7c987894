use mathlib.Core.Path.{sym, ◌∙◌}
use Rattle.layout.proofs.laws.LayoutLaws.{inside-length}
use Rattle.calls.specs.Calls.{leave}
use Rattle.calls.specs.laws.CallLaws.{command_16, command-17-result, command-17-world}
use Rattle.calls.specs.laws.CommandLaws.{command_17_valid}
use Rattle.quorum.proofs.qc_play_command.Goals as goal

pub returns-then-store-lt-STORE_BYTES : goal.returns-then-store-lt-STORE_BYTES
unfolding leave
returns-then-store-lt-STORE_BYTES c = let e = command_16 c.args.world.now c.args.store.now c.args.list.now c.args.at c.args.res.now c.if-store-lt-STORE_BYTES.true in record { value = rw e c.from.ensures; store_after = rw e; world_after = rw e; res_after = rw e }

pub returns-then-res-ne-RESULT_BYTES : goal.returns-then-res-ne-RESULT_BYTES
unfolding leave
returns-then-res-ne-RESULT_BYTES c = let e = command-17-result c.args.world.now c.args.store.now c.args.list.now c.args.at c.args.res.now c.if-store-lt-STORE_BYTES.false c.if-res-ne-RESULT_BYTES.true in record { value = rw e c.from-then-res-ne-RESULT_BYTES.ensures; store_after = rw e; world_after = rw e; res_after = rw e }

pub returns-then-not-in_layout : goal.returns-then-not-in_layout
unfolding leave
returns-then-not-in_layout c = let e = command-17-world c.args.world.now c.args.store.now c.args.list.now c.args.at c.args.res.now c.if-store-lt-STORE_BYTES.false c.if-res-ne-RESULT_BYTES.false (sym c.in_layout.ensures.inside ∙ c.if-not-in_layout.true) in record { value = rw e c.from-then-not-in_layout.ensures; store_after = rw e; world_after = rw e; res_after = rw e }

pub valid_at-requires : goal.valid_at-requires
valid_at-requires c = inside-length _ (sym c.in_layout.ensures.inside ∙ c.if-not-in_layout.false)

pub returns-then-not-valid_at : goal.returns-then-not-valid_at
unfolding leave
returns-then-not-valid_at c = let e = command_17_valid c.args.world.now c.args.store.now c.args.list.now c.args.at c.args.res.now c.if-store-lt-STORE_BYTES.false c.if-res-ne-RESULT_BYTES.false (sym c.in_layout.ensures.inside ∙ c.if-not-in_layout.false) (sym c.valid_at.ensures ∙ c.if-not-valid_at.true) in record { value = rw e c.from-then-not-valid_at.ensures; store_after = rw e; world_after = rw e; res_after = rw e }

pub play_at-requires : goal.play_at-requires
play_at-requires c = record {
  room = c.if-store-lt-STORE_BYTES.false;
  eight = c.if-res-ne-RESULT_BYTES.false;
  inside = sym c.in_layout.ensures.inside ∙ c.if-not-in_layout.false;
  bytes = c.in_layout.ensures.bytes;
  valid = sym c.valid_at.ensures ∙ c.if-not-valid_at.false;
}
