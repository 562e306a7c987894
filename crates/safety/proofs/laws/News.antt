-- Theorems 9 and 10: the world's news is the sum of the calls' news, and a call's news is what it changed.
use Rattle.std.specs.Prelude.{ℕ, zero, suc, ◌+◌, ◌≤◌, ◌<◌, Bool, true, false, List, [], ◌∷◌, ◌≡◌, ltb, eqb, length, get_or}
use Rattle.std.proofs.Math.Path.{refl}
use Rattle.std.proofs.Common.{ap, sym, ◌∙◌, arith, get_or-set_other, eq-eqb, ne_eqb}
use Rattle.choice.specs.Choice.{pick, either}
use Rattle.choice.specs.laws.Cases.{by_test, by_equal}
use Rattle.choice.specs.Places.{sum_to}
use Rattle.merging.specs.Merging.{rises, merge_entry, is_other, merging}
use Rattle.merging.proofs.Orders.{other-on, other-own}
use Rattle.merging.proofs.MergeLaws.{merging-at, entry-changed, entry_kept}
use Rattle.merging.specs.laws.News.{gain, share, risen}
use Rattle.merging.proofs.NewsLaws.{merging-news}
use Rattle.row.specs.declared.Row.{Row}
use Rattle.row.specs.Rows.{get_row}
use Rattle.site.specs.declared.Site.{Site}
use Rattle.site.specs.declared.State.TheVariants as State·
use Rattle.site.specs.declared.State.{State}
use Rattle.site.specs.declared.CommitQuorum.{CommitQuorum}
use Rattle.site.specs.declared.AbortQuorum.{AbortQuorum}
use Rattle.site.specs.Fields.{with_prepared, with_group, with_outcome, with_codes}
use Rattle.site.specs.State.{state_of}
use Rattle.site.specs.Records.{Written, with_own, write_prepare, join_group, write_outcome}
use Rattle.rules.specs.Rules.{
  Move,
  silent,
  commanding,
  start,
  take_over,
  choose_group,
  decide_commit,
  decide_abort,
  timeout_in,
  timeout,
  hear,
  adopt,
  bringing,
  after_hearing,
  deliver,
  crash,
  restart,
  recover,
}
use Rattle.refusals.specs.Refusals.{number_of}
use Rattle.command.specs.declared.Command.{Command}
use Rattle.command.specs.declared.Command.TheVariants as Command·
use Rattle.command.specs.declared.Delivery.{Delivery}
use Rattle.command.specs.Readings.{Reading}
use Rattle.std.specs.Prelude.{Ok, Err}
use Rattle.command.specs.Commands.{found, read_command}
use Rattle.world.specs.declared.World.{World}
use Rattle.world.specs.Sizes.{max_news, store_bytes, sizes_number}
use Rattle.world.specs.Worlds.{site_of, is_willing, fresh_world, zero_world}
use Rattle.world.specs.Valid.{valid_world}
use Rattle.world.specs.laws.WorldLaws.{valid-sized, put_ind}
use Rattle.play.specs.Calls.{Call, refuse, enter_silent, enter_row, within_news, enter}
use Rattle.play.specs.Commands.{start_call, timeout_call, crash_call, recover_call, perform, perform_read, play_command, one_command}
use Rattle.play.specs.Run.{Ask, run, call_of, after_call}
use Rattle.safety.specs.Claims.{Shaped, NewsIsSum, entries_changed, CallTells}
use Rattle.member.specs.laws.Steady.{Writes, Moved, Held, keeps_adopt, keeps_answer}
use Rattle.safety.proofs.laws.Unchanging.{refused_changes_nothing, accepted_keeps_the_rest}
use Rattle.safety.proofs.laws.Deliveries.{Delivering, delivering, delivery_of, delivery-past}
use Rattle.safety.proofs.laws.Fresh.{new_world, fresh-new, fresh-zero}

-- a call adds its news to the world's, refused or not
call_adds : (w : World) (store : List ℕ) (a : Ask) → (call_of w store a).world.news ≡ w.news + (call_of w store a).news
unfolding call_of
call_adds w store a =
    by_equal (one_command w store a.list a.place).number 0
    (λ e. (accepted_keeps_the_rest w store a.list a.place e).news-added)
    (λ e. omega (
      arith,
      ap (λ x. x.news) (refused_changes_nothing w store a.list a.place e).world_same,
      (refused_changes_nothing w store a.list a.place e).no_news,
    ))

pub run_adds : (w : World) (store : List ℕ) (asks : List Ask) → (run w store asks).world.news ≡ w.news + (run w store asks).news
unfolding run after_call
run_adds w store [] = omega arith
run_adds w store (a ∷ asks) =
    omega (arith, call_adds w store a, run_adds (call_of w store a).world (call_of w store a).store asks)

-- the maker's world has none
pub fresh-none : (n : ℕ) (weights : List ℕ) (c : CommitQuorum) (a : AbortQuorum) (willing : ℕ) → (fresh_world n weights c a willing).news ≡ 0
unfolding new_world zero_world
fresh-none n weights c a willing =
    by_equal (sizes_number n weights c a willing) 0
    (λ e. ap (λ w. w.news) (fresh-new n weights c a willing e)) (λ e. ap (λ w. w.news) (fresh-zero n weights c a willing e))

pub news-is_sum : NewsIsSum
news-is_sum n weights c a willing store asks =
    omega (arith, run_adds (fresh_world n weights c a willing) store asks, fresh-none n weights c a willing)

-- the entries that a merge raises are those of other sites that differ after it

entry-counted :
    (n own k held said code : ℕ) → k < n → ((k ≡ own → ⊥) → code ≡ merge_entry held said) →
    ◌≡◌ {A = ℕ} (pick (either (eqb k own) (eqb held code)) 0 1) (pick (is_other n own k) (pick (rises held said) 1 0) 0)
entry-counted n own k held said code below then =
    by_equal k own
    (λ q. rw (q, eq-eqb own own refl, other-own n own))
    (λ q. by_test (rises held said)
    (λ e. rw (e, other-on n own k below q, ne_eqb k own q, ne_eqb held code (λ same. entry-changed held said e (same ∙ then q))))
    (λ e. rw (e, other-on n own k below q, ne_eqb k own q, eq-eqb held code (entry_kept held said e ∙ sym (then q)))))

risen-changed :
    (k n own : ℕ) (said v u : List ℕ) → k ≤ n →
    ((j : ℕ) → j < k → (j ≡ own → ⊥) → get_or u j 0 ≡ merge_entry (get_or v j 0) (get_or said j 0)) →
    risen k n own said v ≡ entries_changed k own v u
unfolding risen sum_to share gain entries_changed
risen-changed zero n own said v u few then = refl
risen-changed (suc k) n own said v u few then =
    omega (
      arith,
      risen-changed k n own said v u (omega arith) (λ j h. then j (omega arith)),
      entry-counted n own k (get_or v k 0) (get_or said k 0) (get_or u k 0) (omega arith) (then k (omega arith)),
    )

-- and the news is how many
merging-changed :
    (n own sender : ℕ) (said v u : List ℕ) →
    ((j : ℕ) → j < n → (j ≡ own → ⊥) → get_or u j 0 ≡ merge_entry (get_or v j 0) (get_or said j 0)) →
    (merging n own sender said v).news ≡ entries_changed n own v u
merging-changed n own sender said v u then =
    merging-news n own sender said v n (omega arith) ∙ risen-changed n n own said v u (omega arith) then

-- after the merge a site's own writes leave the entries of the others
elsewhere : (own k code : ℕ) → (k ≡ own → ⊥) → Writes own (λ s H. get_or s.codes k 0 ≡ code)
unfolding write_prepare join_group write_outcome with_own with_prepared with_group with_outcome with_codes
elsewhere own k code other =
    record {
      prepares = λ s H e q. get_or-set_other s.codes own k _ 0 other ∙ q;
      joins = λ kind s H e g q. get_or-set_other s.codes own k _ 0 other ∙ q;
      decides = λ kind s H e q. get_or-set_other s.codes own k _ 0 other ∙ q;
    }

-- an entry of another site after a delivery
pub entry-after :
    (own n : ℕ) (willing : Bool) (row : Row) (s : Site) (k : ℕ) → n ≤ length s.codes → k < n → (k ≡ own → ⊥) →
    get_or (deliver own n willing row s).step.site.codes k 0 ≡ merge_entry (get_or s.codes k 0) (get_or row.codes k 0)
unfolding deliver after_hearing bringing hear with_codes Moved Held
entry-after own n willing row s k room below other =
    let code : ℕ = merge_entry (get_or s.codes k 0) (get_or row.codes k 0) in
    let Q : Site → List Written → Type 0 = λ x H. get_or x.codes k 0 ≡ code in
    keeps_answer own n Q (elsewhere own k code other) row.kind row.sender willing (adopt own n (hear own n row s))
    (keeps_adopt own n Q (elsewhere own k code other) (hear own n row s)
    (merging-at n own row.sender row.codes s.codes k (omega arith) below other))

deliver_tells :
    (own n : ℕ) (willing : Bool) (row : Row) (s : Site) → n ≤ length s.codes →
    (deliver own n willing row s).step.news ≡ entries_changed n own s.codes (deliver own n willing row s).step.site.codes
unfolding deliver after_hearing bringing
deliver_tells own n willing row s room =
    merging-changed n own row.sender row.codes s.codes (deliver own n willing row s).step.site.codes
    (λ j h q. entry-after own n willing row s j room h q)

-- an accepted delivery
delivery_tells :
    (w : World) (store list : List ℕ) (at : ℕ) (d : Delivery) (next : ℕ) → Shaped w →
    read_command list at ≡ found (Command·.Deliver d) next → (one_command w store list at).number ≡ 0 →
    (one_command w store list at).news
    ≡ entries_changed w.n d.site (site_of w d.site).codes (site_of (one_command w store list at).world d.site).codes
delivery_tells w store list at d next shaped reading accepted =
    let g : Delivering w store d.row d.site (one_command w store list at) =
    delivering w store list at d next reading accepted in
    let m : Move = delivery_of w store d.row d.site in
    let most : w.n ≤ 16 = (valid-sized w g.valid).high in
    let here : site_of (one_command w store list at).world d.site ≡ m.step.site =
    g.entered.site
    ∙ put_ind (λ s. s ≡ m.step.site) w d.site m.step.site d.site (omega (arith, g.site-below, shaped.sites))
    (λ _. refl) (λ other. absurd (other refl)) in
    g.entered.news
    ∙ deliver_tells d.site w.n (is_willing w d.site) (get_row store d.row) (site_of w d.site)
    (omega (arith, shaped.codes d.site (omega (arith, g.site-below))))
    ∙ ap (λ s. entries_changed w.n d.site (site_of w d.site).codes s.codes) (sym here)

-- a delivery that is refused for its news
past_tells :
    (w : World) (store list : List ℕ) (at : ℕ) (d : Delivery) (next : ℕ) → Shaped w →
    read_command list at ≡ found (Command·.Deliver d) next → valid_world w ≡ true → (one_command w store list at).number ≡ 17 →
    max_news
    < w.news
    + entries_changed w.n d.site (site_of w d.site).codes
    (hear d.site w.n (get_row store d.row) (site_of w d.site)).codes
unfolding deliver after_hearing bringing hear with_codes
past_tells w store list at d next shaped reading valid e =
    let site : Site = site_of w d.site in
    let row : Row = get_row store d.row in
    let p : (d.site < w.n) × (max_news < w.news + (delivery_of w store d.row d.site).step.news) =
    delivery-past w store list at d next reading valid e in
    let most : w.n ≤ 16 = (valid-sized w valid).high in
    let room : w.n ≤ length site.codes = omega (arith, shaped.codes d.site (omega (arith, p.0))) in
    rw (← merging-changed w.n d.site row.sender row.codes site.codes
    (merging w.n d.site row.sender row.codes site.codes).codes
    (λ j h e. merging-at w.n d.site row.sender row.codes site.codes j (omega arith) h e)) p.1

-- the other rules merge nothing

quiet-pick : (t : Bool) (a b : Move) → a.step.news ≡ 0 → b.step.news ≡ 0 → (pick t a b).step.news ≡ 0
quiet-pick true a b p q = p
quiet-pick false a b p q = q

pub quiet-start : (n : ℕ) (willing : Bool) (s : Site) → (start n willing s).step.news ≡ 0
unfolding start commanding
quiet-start n willing s = search (quiet-pick, refl)

quiet-timeout_in : (st : State) (own n : ℕ) (weights : List ℕ) (c : CommitQuorum) (a : AbortQuorum) (s : Site) → (timeout_in st own n weights c a s).step.news ≡ 0
unfolding timeout_in silent take_over choose_group decide_commit decide_abort commanding
quiet-timeout_in State·.Active own n weights c a s = refl
quiet-timeout_in State·.Prepared own n weights c a s = search (quiet-pick, refl)
quiet-timeout_in State·.CommitGroup own n weights c a s = search (quiet-pick, refl)
quiet-timeout_in State·.AbortGroup own n weights c a s = search (quiet-pick, refl)
quiet-timeout_in State·.Committed own n weights c a s = refl
quiet-timeout_in State·.Aborted own n weights c a s = refl

pub quiet-timeout : (own n : ℕ) (weights : List ℕ) (c : CommitQuorum) (a : AbortQuorum) (s : Site) → (timeout own n weights c a s).step.news ≡ 0
unfolding timeout
quiet-timeout own n weights c a s = quiet-timeout_in (state_of s) own n weights c a s

pub quiet-crash : (own : ℕ) (s : Site) → (crash own s).step.news ≡ 0
unfolding crash silent
quiet-crash own s = refl

pub quiet-recover : (own : ℕ) (s : Site) → (recover own s).step.news ≡ 0
unfolding recover restart silent
quiet-recover own s = search (quiet-pick, refl)

call-pick : (t : Bool) (a b : Call) → a.news ≡ 0 → b.news ≡ 0 → (pick t a b).news ≡ 0
call-pick true a b p q = p
call-pick false a b p q = q

module _ (w : World) (store : List ℕ) (at : ℕ) where
  quiet-refused : (number place : ℕ) → (refuse number w store place).news ≡ 0
  unfolding refuse
  quiet-refused number place = refl

  quiet-enter : (next own : ℕ) (m : Move) → m.step.news ≡ 0 → (enter w store at next own m).news ≡ 0
  unfolding enter within_news enter_silent enter_row
  quiet-enter next own m e = search (call-pick, quiet-refused, e)

  quiet-perform :
      (c : Command) (next : ℕ) → ((d : Delivery) → c ≡ Command·.Deliver d → ⊥) → (perform c w store at next).news ≡ 0
  unfolding perform start_call timeout_call crash_call recover_call
  quiet-perform Command·.Start next h = search (call-pick, quiet-refused, quiet-enter, quiet-start)
  quiet-perform (Command·.Deliver d) next h = absurd (h d refl)
  quiet-perform (Command·.Timeout t) next h = search (call-pick, quiet-refused, quiet-enter, quiet-timeout)
  quiet-perform (Command·.Crash t) next h = search (call-pick, quiet-refused, quiet-enter, quiet-crash)
  quiet-perform (Command·.Recover t) next h = search (call-pick, quiet-refused, quiet-enter, quiet-recover)

  quiet_read :
      (r : Reading) → ((d : Delivery) (next : ℕ) → r ≡ found (Command·.Deliver d) next → ⊥) → (perform_read r w store at).news ≡ 0
  unfolding perform_read found
  quiet_read (Err r) h = quiet-refused (number_of r.reason) r.place
  quiet_read (Ok p) h =
      quiet-perform p.command p.next
      (λ d e. h d p.next (ap (λ c. Ok (record { command = c; next = p.next })) e))

pub call_tells : CallTells
unfolding one_command play_command
call_tells w store list at shaped =
    record {
      delivery = λ d next reading. delivery_tells w store list at d next shaped reading;
      other = λ h.
          call-pick (ltb (length store) store_bytes) (refuse 16 w store at)
          (pick (valid_world w) (play_command w store list at) (refuse 17 w store at)) (quiet-refused w store at 16 at)
          (call-pick (valid_world w) (play_command w store list at) (refuse 17 w store at)
          (quiet_read w store at (read_command list at) h) (quiet-refused w store at 17 at));
      past = λ d next reading valid e. past_tells w store list at d next shaped reading valid e;
    }
