-- TIMEOUT and DELIVER as calls, in a world with which the rounds go on.
use Prim.Native.Nat.{ℕ, ◌+◌, ◌-◌, ◌≤◌, ◌<◌}
use Rattle.std.specs.Prelude.{true, ◌≡◌, get_or}
use mathlib.Core.List.{List, [], append-nil}
use Rattle.std.proofs.Math.Path.{ap}
use Rattle.std.proofs.Common.{sym, ◌∙◌}
use native.Mathlib.Omega.{arith}
use Rattle.std.proofs.Math.ListN.{length}
use borrow.Author.Tests.{lt-ltb}
use Rattle.bits.specs.Bits.{has_bit}
use Rattle.merging.specs.Merging.{merge_entry}
use Rattle.merging.proofs.NewsLaws.{merging-news}
use Rattle.row.specs.declared.Row.{Row}
use Rattle.row.specs.Rows.{get_row, row_known}
use Rattle.rules.specs.Rules.{Move, timeout, bringing, after_hearing, deliver}
use Rattle.command.specs.declared.Command.{Command}
use Rattle.command.specs.Commands.{found}
use Rattle.world.specs.declared.World.{World}
use Rattle.world.specs.Sizes.{max_rows}
use Rattle.world.specs.Worlds.{site_of, is_willing}
use Rattle.world.specs.laws.WorldLaws.{valid_parts}
use Rattle.play.specs.Calls.{enter}
use Rattle.play.specs.Commands.{timeout_call, deliver_row, deliver_call, perform, perform_read, play_command}
use Rattle.play.specs.Run.{call_of}
use Rattle.play.proofs.laws.CallLaws.{one-is_play}
use Rattle.safety.proofs.laws.News.{quiet-timeout, entry-after}
use Rattle.spelling.specs.Spelling.{command_bytes}
use Rattle.spelling.specs.Ranges.{InRange}
use Rattle.spelling.specs.laws.BytesBack.{command-reads}
use Rattle.quiet.specs.Quiet.{row_to}
use Rattle.quiet_run.specs.Claims.{ask_of}
use Rattle.termination.specs.Schedule.{waited_at}
use Rattle.termination.proofs.laws.Codes.{merge-grows}
use Rattle.termination.proofs.laws.Known.{known, news-known, known_same}
use Rattle.termination.proofs.laws.Timeouts.{Stays, Commands, Aborts, timeout-commands, timeout-aborts}
use Rattle.termination.proofs.laws.Answers.{deliver-stays}
use Rattle.termination.proofs.laws.Fine.{Fine, few, Went, went, code_at, entry_at}

module _ (o w : World) (store : List ℕ) (fine : Fine o w store) where
  -- a command's call is the command
  call-is : (c : Command) → InRange c → call_of w store (ask_of c) ≡ perform c w store 0 (0 + length (command_bytes c))
  unfolding call_of play_command perform_read found
  call-is c low =
      one-is_play w store (command_bytes c) 0 fine.room fine.valid
      ∙ ap (λ x. perform_read x w store 0) (command-reads (command_bytes c) 0 c [] low (sym (append-nil (command_bytes c))))

  -- TIMEOUT at site i
  module _ (i : ℕ) (below : i < o.n) where
    abbrev pub timeout_move : Move
    timeout_move = timeout i w.n w.weights w.commit w.abort (site_of w i)

    timeout-is : call_of w store (ask_of (waited_at i)) ≡ enter w store 0 (0 + length (command_bytes (waited_at i))) i timeout_move
    unfolding perform timeout_call waited_at InRange
    timeout-is =
        call-is (waited_at i) (omega (arith, below, few o w store fine))
        ∙ rw (lt-ltb i w.n (omega (arith, below, fine.sizes)), fine.up i below)

    -- no entry but its own is another then
    tells_none : ((k : ℕ) → (k ≡ i → ⊥) → get_or timeout_move.step.site.codes k 0 ≡ entry_at w i k) →
        timeout_move.step.news + known i (site_of w i).codes o.n ≤ known i timeout_move.step.site.codes o.n
    tells_none same =
        omega (
          arith,
          quiet-timeout i w.n w.weights w.commit w.abort (site_of w i),
          known_same i (site_of w i).codes timeout_move.step.site.codes o.n (λ k _ other. same k other),
        )

    pub timeout-active : code_at w i ≡ 0 → Went o w store i timeout_move (call_of w store (ask_of (waited_at i)))
    unfolding call_of
    timeout-active none =
        let a : Aborts i (site_of w i) timeout_move = timeout-aborts i w.n w.weights w.commit w.abort (site_of w i) none in
        went o w store fine (command_bytes (waited_at i)) 0 (0 + length (command_bytes (waited_at i))) i timeout_move below timeout-is (λ some. absurd (some a.none))
        (tells_none a.rest.entries)
        a.rest.stays.up (λ e. a.rest.stays.role ∙ e) (λ k _ other. omega (arith, a.rest.entries k other))

    pub timeout-other : 1 ≤ code_at w i → w.rows < max_rows → Went o w store i timeout_move (call_of w store (ask_of (waited_at i)))
    unfolding call_of
    timeout-other some free =
        let a : Commands i w.n w.weights w.commit w.abort (site_of w i) timeout_move =
        timeout-commands i w.n w.weights w.commit w.abort (site_of w i) some in
        went o w store fine (command_bytes (waited_at i)) 0 (0 + length (command_bytes (waited_at i))) i timeout_move below timeout-is (λ _. free) (tells_none a.entries)
        a.up (λ e. a.leads) (λ k _ other. omega (arith, a.entries k other))

  -- DELIVER of row k to site j
  module _ (k j : ℕ) (below : j < o.n) (there : k < w.rows) (passes : row_known w.n (get_row store k) ≡ true)
      (sent : has_bit (get_row store k).destinations j ≡ true) where
    abbrev pub deliver_move : Move
    deliver_move = deliver j w.n (is_willing w j) (get_row store k) (site_of w j)

    long : w.n ≤ length (site_of w j).codes
    long = omega (arith, few o w store fine, fine.sizes, fine.shaped.codes j (omega (arith, below, few o w store fine)))

    deliver-is : call_of w store (ask_of (row_to k j)) ≡ enter w store 0 (0 + length (command_bytes (row_to k j))) j deliver_move
    unfolding perform deliver_call deliver_row row_to InRange
    deliver-is =
        call-is (row_to k j) (omega (arith, there, (valid_parts w fine.valid).rows), omega (arith, below, few o w store fine))
        ∙ rw (lt-ltb j w.n (omega (arith, below, fine.sizes)), lt-ltb k w.rows there, passes, sent, fine.up j below)

    -- an entry of another site after it
    entry-then : (x : ℕ) → x < o.n → (x ≡ j → ⊥) →
        get_or deliver_move.step.site.codes x 0 ≡ merge_entry (entry_at w j x) (get_or (get_row store k).codes x 0)
    entry-then x less other = entry-after j w.n (is_willing w j) (get_row store k) (site_of w j) x long (omega (arith, less, fine.sizes)) other

    -- its news is what it tells
    tells-news : deliver_move.step.news + known j (site_of w j).codes o.n ≤ known j deliver_move.step.site.codes o.n
    unfolding deliver after_hearing bringing
    tells-news =
        let row : Row = get_row store k in
        let v : List ℕ = (site_of w j).codes in
        omega (
          arith,
          merging-news w.n j row.sender row.codes v o.n (omega (arith, fine.sizes)),
          news-known j w.n row.codes v deliver_move.step.site.codes o.n (omega (arith, fine.sizes)) entry-then,
        )

    pub delivered : ((deliver_move.step.row.kind ≡ 0 → ⊥) → w.rows < max_rows) → Went o w store j deliver_move (call_of w store (ask_of (row_to k j)))
    unfolding call_of
    delivered free =
        let row : Row = get_row store k in
        let s : Stays (site_of w j) deliver_move.step.site = deliver-stays j w.n (is_willing w j) row (site_of w j) in
        went o w store fine (command_bytes (row_to k j)) 0 (0 + length (command_bytes (row_to k j))) j deliver_move below deliver-is free tells-news
        s.up (λ e. s.role ∙ e)
        (λ x less other. omega (arith, entry-then x less other, merge-grows (entry_at w j x) (get_or row.codes x 0)))
