-- The calls offered to C: number, and every byte of every buffer that is lent.
-- 16: a store shorter than 20,480; 17: bytes or lengths outside the layout, or a world that fails the check behind 17;
-- for one command also, last, a delivery whose news would pass the limit.
use Rattle.std.specs.Prelude.{ℕ, List, ltb, eqb, length}
use Rattle.choice.specs.Choice.{pick, both}
use Rattle.world.specs.Sizes.{store_bytes}
use Rattle.play.specs.Calls.{Call}
use Rattle.play.specs.Commands.{one_command}
use Rattle.list.specs.Play.{Play, play_list}
use Rattle.report.specs.Report.{Report, report}
use Rattle.layout.specs.Numbers.{put_number}
use Rattle.layout.specs.Layout.{world_bytes, put_world, world_at, in_layout}

-- the length of every result buffer
abbrev pub result_bytes : ℕ
result_bytes = 8

-- what a call that plays leaves
pub record PlayLeft : Type 0 where
  pub number : ℕ
  pub store : List ℕ
  pub world : List ℕ
  pub result : List ℕ

-- a number, and no buffer touched
unfoldable pub leave : ℕ → List ℕ → List ℕ → List ℕ → PlayLeft
leave number store world result = record { number = number; store = store; world = world; result = result }

-- a play's store, world, events (32 bits) and place (32 bits)
unfoldable pub leave_play : Play → List ℕ → List ℕ → PlayLeft
leave_play p world result =
    record {
      number = p.played.number;
      store = p.store;
      world = put_world world p.played.world;
      result = put_number 4 (put_number 4 result 0 p.played.events) 4 p.played.place;
    }

-- for a store of so many bytes, where another buffer has not the length of the layout: 16, then 17
unfoldable pub unfit_number : ℕ → ℕ
unfit_number bytes = pick (ltb bytes store_bytes) 16 17

-- A WHOLE LIST: 16, then 17, then the list's own numbers. At 16 too the play's answer, the world of zeros, is written where it fits
unfoldable pub list_call : List ℕ → List ℕ → List ℕ → List ℕ → PlayLeft
list_call list store world result =
    pick (both (eqb (length world) world_bytes) (eqb (length result) result_bytes))
    (leave_play (play_list store list) world result)
    (leave (unfit_number (length store)) store world result)

-- an accepted command's store, world and next place (64 bits); a refused command leaves every buffer
unfoldable pub leave_command : Call → List ℕ → List ℕ → List ℕ → PlayLeft
leave_command call store world result =
    pick (eqb call.number 0)
    (record {
      number = 0;
      store = call.store;
      world = put_world world call.world;
      result = put_number 8 result 0 call.place;
    })
    (leave call.number store world result)

-- ONE COMMAND: 16, then 17, then the command's own numbers
unfoldable pub command_call : List ℕ → List ℕ → List ℕ → ℕ → List ℕ → PlayLeft
command_call world store list at result =
    pick (ltb (length store) store_bytes) (leave 16 store world result)
    (pick (eqb (length result) result_bytes)
    (pick (in_layout world) (leave_command (one_command (world_at world) store list at) store world result)
    (leave 17 store world result))
    (leave 17 store world result))

-- what the report leaves
pub record ReportLeft : Type 0 where
  pub number : ℕ
  pub buffer : List ℕ
  pub result : List ℕ

unfoldable pub leave_buffer : ℕ → List ℕ → List ℕ → ReportLeft
leave_buffer number buffer result = record { number = number; buffer = buffer; result = result }

-- an accepted report's text and its length (64 bits); a refused report leaves both buffers
unfoldable pub leave_report : Report → List ℕ → List ℕ → ReportLeft
leave_report r buffer result =
    pick (eqb r.reported.number 0)
    (record { number = 0; buffer = r.buffer; result = put_number 8 result 0 r.reported.length })
    (leave_buffer r.reported.number buffer result)

-- THE REPORT: 17, then 18
unfoldable pub report_call : List ℕ → ℕ → ℕ → ℕ → List ℕ → List ℕ → ReportLeft
report_call world events number place buffer result =
    pick (eqb (length result) result_bytes)
    (pick (in_layout world) (leave_report (report (world_at world) events number place buffer) buffer result)
    (leave_buffer 17 buffer result))
    (leave_buffer 17 buffer result)
