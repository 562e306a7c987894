use native.Mathlib.Omega.{arith}
use borrow.Author.Tests.{lt-ltb, le-ltb}
use Prim.Native.Nat.{◌≤◌}
use lib.ListN.{length}
use mathlib.Core.Path.{sym, ◌∙◌}
use Rattle.world.specs.Sizes.{store_bytes}
use Rattle.play.specs.Calls.{refuse, played_of}
use Rattle.play.specs.Commands.{one_command}
use Rattle.play.proofs.laws.CallLaws.{ready}
use Rattle.perform.proofs.one_command.Goals as goal

pub returns-then-store-lt-STORE_BYTES : goal.returns-then-store-lt-STORE_BYTES
unfolding one_command played_of refuse
returns-then-store-lt-STORE_BYTES c =
    let short = lt-ltb _ _ c.if-store-lt-STORE_BYTES.true in
    record { played = simp (short, c.at.ensures); stored = simp short }

pub returns-then-not-valid_world : goal.returns-then-not-valid_world
unfolding one_command played_of refuse
returns-then-not-valid_world c =
    let room : store_bytes ≤ length c.args.store.now = omega arith in
    record {
      played = simp (c.if-not-valid_world.true, le-ltb _ _ room, ← c.valid_world.ensures, c.at-then-not-valid_world.ensures);
      stored = simp (c.if-not-valid_world.true, le-ltb _ _ room, ← c.valid_world.ensures);
    }

pub play_command-requires : goal.play_command-requires
play_command-requires c = ready c.args.world c.args.store.now (omega arith) (sym c.valid_world.ensures ∙ c.if-not-valid_world.false)

pub returns : goal.returns
unfolding one_command
returns c =
    let room : store_bytes ≤ length c.args.store.now = omega arith in
    record {
      played = simp (c.if-not-valid_world.false, le-ltb _ _ room, ← c.valid_world.ensures) c.play_command.ensures.played;
      stored = simp (c.if-not-valid_world.false, le-ltb _ _ room, ← c.valid_world.ensures) c.play_command.ensures.stored;
    }
