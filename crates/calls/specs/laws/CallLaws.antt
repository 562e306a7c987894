-- Laws of the calls: what each return of the code leaves.
use Rattle.std.specs.Prelude.{ℕ, ◌≤◌, ◌<◌, Bool, true, false, List, ◌≡◌, refl, ltb, leb, length}
use borrow.Author.Tests.{lt-ltb, le-ltb, lt-leb, eq-eqb, ne_eqb}
use Rattle.choice.specs.Choice.{both}
use Rattle.choice.specs.laws.Cases.{by_test}
use Rattle.world.specs.declared.World.{World}
use Rattle.world.specs.Sizes.{store_bytes}
use Rattle.world.specs.Valid.{valid_world}
use Rattle.play.specs.Commands.{one_command}
use Rattle.safety.proofs.laws.Unchanging.{refused_changes_nothing}
use Rattle.list.specs.Play.{play_list}
use Rattle.report.specs.Report.{last_number, report_valid, untouched, report}
use Rattle.report.specs.laws.ReportLaws.{report-refused}
use Rattle.layout.specs.Numbers.{put_number}
use Rattle.layout.specs.Layout.{world_bytes, put_world, world_at, in_layout}
use Rattle.calls.specs.Calls.{result_bytes, leave, leave_play, unfit_number, list_call, leave_command, command_call, leave_buffer, leave_report, report_call}

-- the list

module _ (list store world result : List ℕ) where
  pub list_unfit_world :
      (length world ≡ world_bytes → ⊥) → list_call list store world result ≡ leave (unfit_number (length store)) store world result
  unfolding list_call
  list_unfit_world other = rw (ne_eqb (length world) world_bytes other)

  pub list_unfit_result :
      length world ≡ world_bytes → (length result ≡ result_bytes → ⊥) →
      list_call list store world result ≡ leave (unfit_number (length store)) store world result
  unfolding list_call
  list_unfit_result same other = rw (eq-eqb (length world) world_bytes same, ne_eqb (length result) result_bytes other)

  pub list_plays :
      length world ≡ world_bytes → length result ≡ result_bytes →
      list_call list store world result ≡ leave_play (play_list store list) world result
  unfolding list_call
  list_plays same eight = rw (eq-eqb (length world) world_bytes same, eq-eqb (length result) result_bytes eight)

-- one command

module _ (world store list : List ℕ) (at : ℕ) (result : List ℕ) where
  pub command_16 : length store < store_bytes → command_call world store list at result ≡ leave 16 store world result
  unfolding command_call
  command_16 short = rw (lt-ltb (length store) store_bytes short)

  module _ (room : store_bytes ≤ length store) where
    pub command-17-result :
        (length result ≡ result_bytes → ⊥) → command_call world store list at result ≡ leave 17 store world result
    unfolding command_call
    command-17-result other = rw (le-ltb (length store) store_bytes room, ne_eqb (length result) result_bytes other)

    pub command-17-world :
        length result ≡ result_bytes → in_layout world ≡ false →
        command_call world store list at result ≡ leave 17 store world result
    unfolding command_call
    command-17-world eight outside =
        rw (le-ltb (length store) store_bytes room, eq-eqb (length result) result_bytes eight, outside)

    pub command-plays :
        length result ≡ result_bytes → in_layout world ≡ true →
        command_call world store list at result ≡ leave_command (one_command (world_at world) store list at) store world result
    unfolding command_call
    command-plays eight inside =
        rw (le-ltb (length store) store_bytes room, eq-eqb (length result) result_bytes eight, inside)

    pub command-refused :
        length result ≡ result_bytes → in_layout world ≡ true → ((one_command (world_at world) store list at).number ≡ 0 → ⊥) →
        command_call world store list at result
        ≡ leave (one_command (world_at world) store list at).number (one_command (world_at world) store list at).store world result
    unfolding leave_command
    command-refused eight inside refused =
        rw
        (command-plays eight inside, ne_eqb (one_command (world_at world) store list at).number 0 refused, (refused_changes_nothing (world_at world) store list at refused).store_same)

    pub command-accepted :
        length result ≡ result_bytes → in_layout world ≡ true → (one_command (world_at world) store list at).number ≡ 0 →
        command_call world store list at result
        ≡ leave 0 (one_command (world_at world) store list at).store (put_world world (one_command (world_at world) store list at).world)
        (put_number 8 result 0 (one_command (world_at world) store list at).place)
    unfolding leave_command leave
    command-accepted eight inside accepted =
        rw (command-plays eight inside, eq-eqb (one_command (world_at world) store list at).number 0 accepted)

-- the report

-- a stop number above the last is 17
above-last : (w : World) (events number place : ℕ) → last_number < number → report_valid w events number place ≡ false
unfolding report_valid
above-last w events number place h =
    rw (lt-leb number last_number h) (none (valid_world w) (leb events 32768) (leb place 32768))
  where
    none : (a b c : Bool) → both a (both b (both c false)) ≡ false
    none false b c = refl
    none true false c = refl
    none true true false = refl
    none true true true = refl

-- a refused report leaves the buffer
refused-buffer :
    (w : World) (events number place : ℕ) (b : List ℕ) → ((report w events number place b).reported.number ≡ 0 → ⊥) →
    (report w events number place b).buffer ≡ b
unfolding report untouched
refused-buffer w events number place b refused =
    by_test (report_valid w events number place)
    (λ valid.
    by_test (ltb (length b) 1024) (λ short. rw (valid, short)) (λ long. absurd (refused (rw (valid, long)))))
    (λ wrong. rw wrong)

module _ (world : List ℕ) (events number place : ℕ) (buffer result : List ℕ) where
  pub report_17_result :
      (length result ≡ result_bytes → ⊥) →
      report_call world events number place buffer result ≡ leave_buffer 17 buffer result
  unfolding report_call
  report_17_result other = rw (ne_eqb (length result) result_bytes other)

  module _ (eight : length result ≡ result_bytes) where
    pub report-17-world :
        in_layout world ≡ false → report_call world events number place buffer result ≡ leave_buffer 17 buffer result
    unfolding report_call
    report-17-world outside = rw (eq-eqb (length result) result_bytes eight, outside)

    pub report-17-number :
        in_layout world ≡ true → last_number < number →
        report_call world events number place buffer result ≡ leave_buffer 17 buffer result
    unfolding report_call leave_report untouched
    report-17-number inside above =
        rw
        (eq-eqb (length result) result_bytes eight, inside, report-refused (world_at world) events number place buffer (above-last (world_at world) events number place above))

    pub report-writes :
        in_layout world ≡ true →
        report_call world events number place buffer result
        ≡ leave_report (report (world_at world) events number place buffer) buffer result
    unfolding report_call
    report-writes inside = rw (eq-eqb (length result) result_bytes eight, inside)

    pub report-not-written :
        in_layout world ≡ true → ((report (world_at world) events number place buffer).reported.number ≡ 0 → ⊥) →
        report_call world events number place buffer result
        ≡ leave_buffer (report (world_at world) events number place buffer).reported.number
        (report (world_at world) events number place buffer).buffer result
    unfolding leave_report
    report-not-written inside refused =
        rw
        (report-writes inside, ne_eqb (report (world_at world) events number place buffer).reported.number 0 refused, refused-buffer (world_at world) events number place buffer refused)

    pub report-accepted :
        in_layout world ≡ true → (report (world_at world) events number place buffer).reported.number ≡ 0 →
        report_call world events number place buffer result
        ≡ leave_buffer 0 (report (world_at world) events number place buffer).buffer
        (put_number 8 result 0 (report (world_at world) events number place buffer).reported.length)
    unfolding leave_report leave_buffer
    report-accepted inside accepted =
        rw
        (report-writes inside, eq-eqb (report (world_at world) events number place buffer).reported.number 0 accepted)

-- the law by which the code's test of a stop number settles the report's call
pub ruleset numbers = (report-17-number)
