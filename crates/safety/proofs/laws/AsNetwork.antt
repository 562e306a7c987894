-- A world as a network: its sites, and the rows in its store. An accepted call is a step of this network.
use Prim.Native.Nat.{ℕ, zero, suc, ◌+◌, ◌≤◌, ◌<◌}
use Rattle.std.specs.Prelude.{Bool, true, false, ◌≡◌, ltb, eqb, length}
use Rattle.std.proofs.Common.{true≢false, ◌∙◌, zero-add, add-one, arith, length-append}
use mathlib.Core.List.{List, [], ◌∷◌, ◌++◌}
use Rattle.std.proofs.Math.Path.{refl, ap, sym, subst}
use Rattle.std.proofs.Math.ListN.{get_or, drop, length-drop, get_or-append}
use Rattle.std.proofs.Math.Pow.{pow_pos}
use Rattle.std.proofs.Math.Seq.{get_or-append_seam, get_or-drop}
use borrow.Author.Tests.{lt-ltb, eq-eqb, ne_eqb}
use Rattle.choice.specs.Choice.{pick}
use Rattle.choice.specs.laws.ChoiceLaws.{pick-on, pick_off, both-on}
use Rattle.choice.specs.laws.Cases.{by_equal}
use Rattle.row.specs.declared.Row.{Row}
use Rattle.row.specs.Rows.{no_row, get_row, put_row, row_place}
use Rattle.row.specs.laws.KnownLaws.{known-sender}
use Rattle.row.specs.laws.RowLaws.{row_at-same, row_at_behind, get_row_else, get_row-same}
use Rattle.site.specs.declared.Site.{Site}
use Rattle.site.specs.State.{state_of, is_active}
use Rattle.rules.specs.Rules.{Move, start, timeout, crash, recover}
use Rattle.world.specs.declared.World.{World}
use Rattle.world.specs.Sizes.{sizes_number, max_rows, store_bytes}
use Rattle.world.specs.Worlds.{site_of, is_willing, with_site, with_rows, with_news}
use Rattle.world.specs.Valid.{valid_site, valid_world}
use Rattle.world.specs.laws.SizesLaws.{Sized, fitting}
use Rattle.world.specs.laws.WorldLaws.{valid_parts, valid-sized, put_ind}
use Rattle.play.specs.Calls.{Call, put_back, enter_silent, enter_row}
use Rattle.member.specs.declared.Order.{Order}
use Rattle.member.specs.declared.Order.TheVariants as Order·
use Rattle.member.specs.Hearings.{Heard}
use Rattle.std.specs.Prelude.{Ok, Err}
use Rattle.member.specs.Orders.{row_in, order_of, read_order}
use Rattle.member.specs.Steps.{take, start_step, timeout_step, crash_step, recover_step, deliver_step, step_by, step_heard, valid_member, site_step}
use Rattle.member.specs.Claims.{Long}
use Rattle.member.specs.laws.Sent.{bytes-deliver, Sends, sends-start, sends-timeout, sends-deliver, sends-crash, sends-recover}
use Rattle.history.specs.Network.{Competition, member_of, Network, Told, answer_of, put_site, sending, answered, after_step, Genuine}
use Rattle.history.proofs.laws.Alike.{Alike}
use Rattle.safety.proofs.laws.View.{Turn, by-start, by-timeout, by-deliver, by-crash, by-recover, Granted}

-- the competition of a world
abbrev pub competition_of : World → Competition
competition_of w = record { n = w.n; weights = w.weights; commit = w.commit; abort = w.abort; willing = w.willing }

-- the first k rows of a store
unfoldable pub rows_of : ℕ → List ℕ → List Row
rows_of zero store = []
rows_of (suc k) store = rows_of k store ++ (get_row store k ∷ [])

abbrev pub network_of : World → List ℕ → Network
network_of w store = record { site = site_of w; sent = rows_of w.rows store }

-- its rows

pub rows-length : (k : ℕ) (store : List ℕ) → length (rows_of k store) ≡ k
unfolding rows_of
rows-length zero store = refl
rows-length (suc k) store = omega (arith, length-append (rows_of k store) (get_row store k ∷ []), rows-length k store)

pub rows_at : (k j : ℕ) (store : List ℕ) → j < k → get_or (rows_of k store) j no_row ≡ get_row store j
unfolding rows_of
rows_at zero j store h = absurd (omega arith)
rows_at (suc k) j store h =
    by_equal j k
    (λ e. ap (λ x. get_or (rows_of k store ++ (get_row store k ∷ [])) x no_row) (e ∙ sym (rows-length k store))
    ∙ get_or-append_seam (rows_of k store) (get_row store k) [] no_row ∙ ap (get_row store) (sym e))
    (λ other. get_or-append (rows_of k store) (get_row store k ∷ []) no_row j (omega (arith, rows-length k store))
    ∙ rows_at k j store (omega arith))

rows_same : (k : ℕ) (s t : List ℕ) → ((j : ℕ) → j < k → get_row s j ≡ get_row t j) → rows_of k s ≡ rows_of k t
unfolding rows_of
rows_same zero s t h = refl
rows_same (suc k) s t h =
    rw (rows_same k s t (λ j l. h j (omega arith)), h k (omega arith))

-- a row put after the last
rows-put : (store : List ℕ) (k : ℕ) (r : Row) → get_row (put_row store k r) k ≡ r → rows_of (k + 1) (put_row store k r) ≡ rows_of k store ++ (r ∷ [])
unfolding rows_of
rows-put store k r e =
    rw add-one
    (ap (λ x. rows_of k (put_row store k r) ++ (x ∷ [])) e
    ∙ ap (λ l. l ++ (r ∷ [])) (rows_same k (put_row store k r) store (λ j h. get_row_else store k r j (omega arith))))

-- a turn is a step

-- what a turn of site `own` is told
pub record StepOf (w : World) (store : List ℕ) (own : ℕ) (m : Move) : Type 0 where
  pub command : List ℕ
  pub answer : answer_of (competition_of w) (network_of w store) (record { at = own; command = command }) ≡ take m
  pub genuine : Genuine (competition_of w) (network_of w store) (record { at = own; command = command })

-- no order but a delivery is one
delivers : Heard → Bool
delivers (Err r) = false
delivers (Ok Order·.Start) = false
delivers (Ok Order·.Deliver) = true
delivers (Ok Order·.Timeout) = false
delivers (Ok Order·.Crash) = false
delivers (Ok Order·.Recover) = false

none-delivered : (h : Heard) → delivers h ≡ false → h ≡ Ok Order·.Deliver → ⊥
unfolding delivers
none-delivered h none e = true≢false (sym (ap delivers e) ∙ none)

module _ (w : World) (store : List ℕ) (valid : valid_world w ≡ true) where
  member-valid : (i : ℕ) → i < w.n → valid_member (member_of (competition_of w) i) (site_of w i) ≡ true
  unfolding valid_member member_of
  member-valid i below =
      let z : Sized w.n w.weights w.commit w.abort w.willing = valid-sized w valid in
      both-on (eqb (sizes_number w.n w.weights w.commit w.abort 0) 0) (pick (ltb i w.n) (valid_site i w.n (site_of w i)) true)
      (eq-eqb _ 0 (fitting w.n w.weights w.commit w.abort 0
      (record {
        low = z.low;
        high = z.high;
        weighed = z.weighed;
        commit-most = z.commit-most;
        abort-most = z.abort-most;
        quorums_meet = z.quorums_meet;
        willing-below = pow_pos w.n;
      })))
      (rw (lt-ltb i w.n below) ((valid_parts w valid).sites i below))

  -- a command that is read as an order is taken by it
  by_order : (i : ℕ) (bytes : List ℕ) (o : Order) → i < w.n → read_order bytes ≡ Ok o →
      answer_of (competition_of w) (network_of w store) (record { at = i; command = bytes }) ≡ step_by o bytes (member_of (competition_of w) i) (site_of w i)
  unfolding answer_of site_step step_heard member_of
  by_order i bytes o below e = rw (member-valid i below, e, lt-ltb i w.n below)

  told : (i : ℕ) (m : Move) (bytes : List ℕ) (o : Order) → i < w.n → read_order bytes ≡ Ok o → delivers (Ok o) ≡ false →
      step_by o bytes (member_of (competition_of w) i) (site_of w i) ≡ take m → StepOf w store i m
  unfolding Genuine
  told i m bytes o below e none step =
      record {
        command = bytes;
        answer = by_order i bytes o below e ∙ step;
        genuine = λ said accepted. absurd (none-delivered (read_order bytes) (ap delivers e ∙ none) said);
      }

  -- the row where it lies in the store, after a 2
  row_read : (k : ℕ) → row_place (k + 1) ≤ length store → read_order (2 ∷ drop (row_place k) store) ≡ Ok Order·.Deliver
  unfolding row_place
  row_read k room = bytes-deliver (drop (row_place k) store) (omega (arith, length-drop (row_place k) store))

  row_same : (k : ℕ) → row_in (2 ∷ drop (row_place k) store) ≡ get_row store k
  unfolding row_in get_row
  row_same k =
      row_at_behind 2 (drop (row_place k) store) 0
      ∙ row_at-same (drop (row_place k) store) store 0 (row_place k)
      (λ i h. ap (λ x. get_or (drop (row_place k) store) x 0) (zero-add i) ∙ get_or-drop (row_place k) store i 0)

  starts : (site_of w 0).up ≡ true → is_active (state_of (site_of w 0)) ≡ true →
      start_step (member_of (competition_of w) 0) (site_of w 0) ≡ take (start w.n (is_willing w 0) (site_of w 0))
  unfolding start_step member_of is_willing is_active take state_of start
  starts up active = rw (up, both-on (eqb 0 0) (is_active (state_of (site_of w 0))) refl active)

  pub turn_step : (own : ℕ) (m : Move) → own < w.n → w.rows ≤ max_rows → store_bytes ≤ length store → Turn w store own m → StepOf w store own m
  unfolding read_order order_of delivers step_by start_step timeout_step crash_step recover_step deliver_step is_willing member_of Genuine row_place
  turn_step own m below few room (by-start up active) =
      told 0 (start w.n (is_willing w 0) (site_of w 0)) (1 ∷ []) Order·.Start below refl refl (starts up active)
  turn_step own m below few room (by-timeout i up) =
      told i (timeout i w.n w.weights w.commit w.abort (site_of w i)) (3 ∷ []) Order·.Timeout below refl refl (rw up)
  turn_step own m below few room (by-deliver i k up there known goes) =
      let bytes : List ℕ = 2 ∷ drop (row_place k) store in
      record {
        command = bytes;
        answer =
            by_order i bytes Order·.Deliver below (row_read k (omega arith))
            ∙ ap (λ row. deliver_step row (member_of (competition_of w) i) (site_of w i)) (row_same k) ∙ rw (known, goes, up);
        genuine = λ said accepted.
            record {
              number = k;
              below = omega (arith, rows-length w.rows store);
              same = rows_at w.rows k store there ∙ sym (row_same k);
            };
      }
  turn_step own m below few room (by-crash i up) = told i (crash i (site_of w i)) (4 ∷ []) Order·.Crash below refl refl (rw up)
  turn_step own m below few room (by-recover i down) = told i (recover i (site_of w i)) (5 ∷ []) Order·.Recover below refl refl (rw down)

-- a call is a step

-- the row that a turn sends reads back
turn-sends : (w : World) (store : List ℕ) (own : ℕ) (m : Move) → w.n ≤ 16 → Turn w store own m → Sends own m
turn-sends w store own m few (by-start up active) = sends-start w.n (is_willing w 0) (site_of w 0) few
turn-sends w store own m few (by-timeout i up) = sends-timeout i w.n few w.weights w.commit w.abort (site_of w i)
turn-sends w store own m few (by-deliver i k up there known goes) =
    sends-deliver i w.n (is_willing w i) (get_row store k) (site_of w i) few (known-sender w.n (get_row store k) known)
turn-sends w store own m few (by-crash i up) = sends-crash i (site_of w i)
turn-sends w store own m few (by-recover i down) = sends-recover i (site_of w i)

row_back :
    (w : World) (store : List ℕ) (own : ℕ) (m : Move) → Granted w store own m → Long m.step.site → (m.step.row.kind ≡ 0 → ⊥) →
    w.rows < max_rows → get_row (put_row store w.rows m.step.row) w.rows ≡ m.step.row
unfolding row_place
row_back w store own m g long some free =
    let few : w.n ≤ 16 = (valid-sized w g.valid).high in
    let sent : Sends own m = turn-sends w store own m few g.turn in
    get_row-same store w.rows m.step.row (omega (arith, g.room))
    (omega (arith, sent.sender some, g.below)) (sent.destinations some) (ap length (sent.codes some) ∙ long.codes)

-- the site put back
site-back : (w : World) (own : ℕ) (s : Site) (j : ℕ) → own < length w.sites → put_site own s (site_of w) j ≡ site_of (with_site own s w) j
unfolding put_site
site-back w own s j room =
    put_ind (λ x. pick (eqb j own) s (site_of w j) ≡ x) w own s j room
    (λ e. pick-on (eqb j own) s (site_of w j) (eq-eqb j own e)) (λ other. pick_off (eqb j own) s (site_of w j) (ne_eqb j own other))

-- the step that an accepted call is, and the network after it
pub record CallStep (w : World) (store : List ℕ) (r : Call) : Type 0 where
  pub told : Told
  pub below : told.at < w.n
  pub genuine : Genuine (competition_of w) (network_of w store) told
  pub records : (answer_of (competition_of w) (network_of w store) told).records ≡ r.records
  pub alike : Alike w.n (after_step (competition_of w) (network_of w store) told) (network_of r.world r.store)

module _ (w : World) (store : List ℕ) (sixteen : length w.sites ≡ 16) (own : ℕ) (m : Move) (g : Granted w store own m) where
  granted_step : StepOf w store own m
  granted_step =
      turn_step w store g.valid own m g.below (valid_parts w g.valid).rows g.room g.turn

  call-told : Told
  call-told = record { at = own; command = granted_step.command }

  -- the network after the step is that of the move
  after-move : after_step (competition_of w) (network_of w store) call-told ≡ answered own (take m) (network_of w store)
  unfolding after_step call-told
  after-move = ap (λ a. answered own a (network_of w store)) granted_step.answer

  pub silent-step : (next : ℕ) → m.step.row.kind ≡ 0 → CallStep w store (enter_silent w store next own m)
  unfolding enter_silent put_back with_site with_news take answered sending call-told site_of
  silent-step next none =
      record {
        told = call-told;
        below = g.below;
        genuine = granted_step.genuine;
        records = ap (λ a. a.records) granted_step.answer;
        alike =
            subst (λ net. Alike w.n net (network_of (put_back own m w) store)) (sym after-move)
            (record {
              sites = λ j h. site-back w own m.step.site j (omega (arith, valid-sized w g.valid, g.below));
              sent = pick-on (eqb m.step.row.kind 0) (rows_of w.rows store) _ (eq-eqb m.step.row.kind 0 none);
            });
      }

  pub row_step : (next : ℕ) → (m.step.row.kind ≡ 0 → ⊥) → w.rows < max_rows → Long m.step.site →
      CallStep w store (enter_row w store next own m)
  unfolding enter_row put_back with_news with_rows take answered sending call-told site_of
  row_step next some free long =
      record {
        told = call-told;
        below = g.below;
        genuine = granted_step.genuine;
        records = ap (λ a. a.records) granted_step.answer;
        alike =
            subst (λ net. Alike w.n net (network_of (with_rows (w.rows + 1) (put_back own m w)) (put_row store w.rows m.step.row))) (sym after-move)
            (record {
              sites = λ j h. site-back w own m.step.site j (omega (arith, valid-sized w g.valid, g.below));
              sent =
                  pick_off (eqb m.step.row.kind 0) (rows_of w.rows store) _ (ne_eqb m.step.row.kind 0 some)
                  ∙ sym (rows-put store w.rows m.step.row (row_back w store own m g long some free));
            });
      }
