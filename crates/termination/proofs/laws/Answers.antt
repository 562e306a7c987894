-- What DELIVER does at a site: a command is answered, and takes the site into a group or to its outcome; a reply is not answered.
use Prim.Native.Nat.{ℕ, zero, suc, ◌≤◌, ◌<◌}
use Rattle.std.specs.Prelude.{Bool, true, false, List, [], ◌∷◌, ◌≡◌, eqb, length, get_or}
use Rattle.std.proofs.Common.{true≢false, sym, ◌∙◌, eq-eqb, ne_eqb}
use Rattle.std.proofs.lemmas.Bool.{false≢true}
use Rattle.std.proofs.Math.Path.{refl, ap}
use native.Mathlib.Omega.{arith}
use Rattle.choice.specs.Choice.{pick}
use Rattle.choice.specs.laws.Cases.{by_test, by_equal}
use Rattle.choice.specs.laws.ChoiceLaws.{pick_ind}
use Rattle.vector.specs.Codes.{is_outcome}
use Rattle.vector.specs.Vector.{first_outcome, lowest_outcome}
use Rattle.merging.specs.Merging.{merge_entry}
use Rattle.merging.proofs.MergeLaws.{merging-at}
use Rattle.row.specs.declared.Row.{Row}
use Rattle.row.specs.Rows.{no_row}
use Rattle.site.specs.declared.Site.{Site}
use Rattle.site.specs.declared.State.{State}
use Rattle.site.specs.declared.State.TheVariants as State·
use Rattle.site.specs.State.{state_of, code_of, is_terminated}
use Rattle.site.specs.Fields.{with_prepared, with_group, with_outcome, with_codes}
use Rattle.site.specs.Records.{commit, abort, wrote, outcome_record, record_code, with_own, write_prepare, join_group, write_outcome}
use Rattle.rules.specs.Rules.{
  Move,
  Noted,
  silent,
  reply_row,
  replying,
  hear,
  adopt_code,
  adopt,
  join_commit_in,
  join_abort_in,
  after,
  answer,
  bringing,
  after_hearing,
  deliver,
}
use Rattle.member.specs.laws.SoundSites.{merged_small}
use Rattle.member.specs.laws.Steady.{Writes, Moved, Held, undecided, keeps_adopt, keeps_answer}
use Rattle.quiet_run.proofs.laws.Vectors.{lowest_of_none}
use Rattle.termination.proofs.laws.Codes.{merge-outcome}
use Rattle.termination.proofs.laws.Timeouts.{Stays, code_in, command_of, joined_code, decided-high}

-- the kinds of commands and of replies
pub data IsCommand : ℕ → Type 0 where
  prepare : IsCommand 1
  join-commit : IsCommand 3
  join_abort_lem : IsCommand 4
  outcome : IsCommand 6

pub data IsReply : ℕ → Type 0 where
  vote : IsReply 2
  in_group : IsReply 5
  ack : IsReply 7

pub is-command : (code : ℕ) → IsCommand (command_of code)
unfolding command_of
is-command code =
    pick_ind IsCommand (eqb code 1) 1 (pick (eqb code 2) 3 (pick (eqb code 3) 4 6)) (λ _. prepare)
    (λ _. pick_ind IsCommand (eqb code 2) 3 (pick (eqb code 3) 4 6) (λ _. join-commit)
    (λ _. pick_ind IsCommand (eqb code 3) 4 6 (λ _. join_abort_lem) (λ _. outcome)))

-- ADOPTING an outcome

-- where some entry shows an outcome, so does the lowest
lowest-some : (n : ℕ) (v : List ℕ) (i : ℕ) → i < n → is_outcome (get_or v i 0) ≡ true → is_outcome (lowest_outcome n v) ≡ true
unfolding lowest_outcome first_outcome
lowest-some zero v i h e = absurd (omega (arith, h))
lowest-some (suc k) v i h e =
    pick_ind (λ x. is_outcome x ≡ true) (is_outcome (lowest_outcome k v)) (lowest_outcome k v) (pick (is_outcome (get_or v k 0)) (get_or v k 0) 0)
    (λ p. p)
    (λ p. pick_ind (λ x. is_outcome x ≡ true) (is_outcome (get_or v k 0)) (get_or v k 0) 0 (λ q. q)
    (λ q. by_equal i k
    (λ same. absurd (true≢false (sym e ∙ ap (λ x. is_outcome (get_or v x 0)) same ∙ q)))
    (λ other. absurd (true≢false (sym (lowest-some k v i (omega (arith, h, other)) e) ∙ p)))))

terminated-high : (st : State) → is_terminated st ≡ true → 4 ≤ code_of st
unfolding is_terminated code_of
terminated-high State·.Active e = absurd (false≢true e)
terminated-high State·.Prepared e = absurd (false≢true e)
terminated-high State·.CommitGroup e = absurd (false≢true e)
terminated-high State·.AbortGroup e = absurd (false≢true e)
terminated-high State·.Committed e = omega arith
terminated-high State·.Aborted e = omega arith

adopt_code_lem : (code own : ℕ) (s : Site) → is_outcome code ≡ true → 4 ≤ code_in (adopt_code code own s).site
unfolding adopt_code is_outcome
adopt_code_lem code own s e =
    by_test (eqb code 4)
    (λ p. rw p (decided-high commit own s))
    (λ p. by_test (eqb code 5) (λ q. rw (p, q) (decided-high abort own s)) (λ q. absurd (false≢true (rw (p, q) at e))))

-- some entry shows an outcome: the site has one then
adopts : (own n : ℕ) (s : Site) (i : ℕ) → i < n → is_outcome (get_or s.codes i 0) ≡ true → 4 ≤ code_in (adopt own n s).site
unfolding adopt
adopts own n s i h e =
    pick_ind (λ m. 4 ≤ code_in m.site) (is_terminated (state_of s)) (record { site = s; records = [] }) (adopt_code (lowest_outcome n s.codes) own s)
    (λ t. terminated-high (state_of s) t) (λ _. adopt_code_lem (lowest_outcome n s.codes) own s (lowest-some n s.codes i h e))

-- none does: nothing is adopted
adopts-none :
    (own n : ℕ) (s : Site) → ((i : ℕ) → i < n → is_outcome (get_or s.codes i 0) ≡ false) → (adopt own n s).site ≡ s
unfolding adopt adopt_code
adopts-none own n s none =
    pick_ind (λ m. m.site ≡ s) (is_terminated (state_of s)) (record { site = s; records = [] }) (adopt_code (lowest_outcome n s.codes) own s)
    (λ _. refl) (λ _. rw (lowest_of_none n s.codes none))

-- 4 and 5 are outcomes
outcome-on : (x : ℕ) → 4 ≤ x → x ≤ 5 → is_outcome x ≡ true
unfolding is_outcome
outcome-on x low high =
    by_equal x 4 (λ e. rw e) (λ e. rw (ne_eqb x 4 e, eq-eqb x 5 (omega (arith, low, high, e))))

-- whatever is adopted, the code of the state does not fall
adopt-grows : (own n : ℕ) (s : Site) (x : ℕ) → x ≤ 4 → x ≤ code_in s → x ≤ code_in (adopt own n s).site
unfolding adopt adopt_code
adopt-grows own n s x few h =
    let same : Noted = record { site = s; records = [] } in
    let code : ℕ = lowest_outcome n s.codes in
    let commits : Noted = record { site = write_outcome commit own s; records = wrote own (outcome_record commit) ∷ [] } in
    let aborts : Noted = record { site = write_outcome abort own s; records = wrote own (outcome_record abort) ∷ [] } in
    pick_ind (λ m. x ≤ code_in m.site) (is_terminated (state_of s)) same (adopt_code code own s) (λ _. h)
    (λ _. pick_ind (λ m. x ≤ code_in m.site) (eqb code 4) commits (pick (eqb code 5) aborts same)
    (λ _. omega (arith, few, decided-high commit own s))
    (λ _. pick_ind (λ m. x ≤ code_in m.site) (eqb code 5) aborts same (λ _. omega (arith, few, decided-high abort own s)) (λ _. h)))

-- JOINING a group

join_commit_in_lem : (st : State) (own : ℕ) (s : Site) → state_of s ≡ st → 1 ≤ code_of st → 2 ≤ code_in (join_commit_in st own s).site
unfolding join_commit_in code_of is_terminated record_code
join_commit_in_lem State·.Active own s e h = absurd (omega (arith, h))
join_commit_in_lem State·.Prepared own s e h = omega (arith, joined_code commit own s (undecided s State·.Prepared e refl))
join_commit_in_lem State·.CommitGroup own s e h = omega (arith, ap code_of e)
join_commit_in_lem State·.AbortGroup own s e h = omega (arith, ap code_of e)
join_commit_in_lem State·.Committed own s e h = omega (arith, ap code_of e)
join_commit_in_lem State·.Aborted own s e h = omega (arith, ap code_of e)

join_abort_in_lem : (st : State) (own : ℕ) (s : Site) → state_of s ≡ st → 2 ≤ code_in (join_abort_in st own s).site
unfolding join_abort_in code_of is_terminated record_code
join_abort_in_lem State·.Active own s e = omega (arith, joined_code abort own s (undecided s State·.Active e refl))
join_abort_in_lem State·.Prepared own s e = omega (arith, joined_code abort own s (undecided s State·.Prepared e refl))
join_abort_in_lem State·.CommitGroup own s e = omega (arith, ap code_of e)
join_abort_in_lem State·.AbortGroup own s e = omega (arith, ap code_of e)
join_abort_in_lem State·.Committed own s e = omega (arith, ap code_of e)
join_abort_in_lem State·.Aborted own s e = omega (arith, ap code_of e)

-- joining a group is no outcome

join-commit_open : (st : State) (own : ℕ) (s : Site) → state_of s ≡ st → code_in s < 4 → code_in (join_commit_in st own s).site < 4
unfolding join_commit_in is_terminated record_code
join-commit_open State·.Active own s e h = h
join-commit_open State·.Prepared own s e h = omega (arith, joined_code commit own s (undecided s State·.Prepared e refl))
join-commit_open State·.CommitGroup own s e h = h
join-commit_open State·.AbortGroup own s e h = h
join-commit_open State·.Committed own s e h = h
join-commit_open State·.Aborted own s e h = h

join_abort_open : (st : State) (own : ℕ) (s : Site) → state_of s ≡ st → code_in s < 4 → code_in (join_abort_in st own s).site < 4
unfolding join_abort_in is_terminated record_code
join_abort_open State·.Active own s e h = omega (arith, joined_code abort own s (undecided s State·.Active e refl))
join_abort_open State·.Prepared own s e h = omega (arith, joined_code abort own s (undecided s State·.Prepared e refl))
join_abort_open State·.CommitGroup own s e h = h
join_abort_open State·.AbortGroup own s e h = h
join_abort_open State·.Committed own s e h = h
join_abort_open State·.Aborted own s e h = h

-- ANSWERING

-- a move that sends a reply to a site
pub record Replies (own to : ℕ) (m : Move) : Type 0 where
  pub kind : ℕ
  pub is : IsReply kind
  pub row : m.step.row ≡ reply_row kind own to m.step.site

-- a command is answered
answer-replies : (kind : ℕ) → IsCommand kind → (own sender : ℕ) (willing : Bool) (m : Noted) → Replies own sender (answer kind own sender willing m)
unfolding answer replying
answer-replies kind prepare own sender willing m = record { kind = 2; is = vote; row = refl }
answer-replies kind join-commit own sender willing m = record { kind = 5; is = in_group; row = refl }
answer-replies kind join_abort_lem own sender willing m = record { kind = 5; is = in_group; row = refl }
answer-replies kind outcome own sender willing m = record { kind = 7; is = ack; row = refl }

-- a reply is not
answer-silent : (kind : ℕ) → IsReply kind → (own sender : ℕ) (willing : Bool) (m : Noted) → answer kind own sender willing m ≡ silent m.site m.records
unfolding answer
answer-silent kind vote own sender willing m = refl
answer-silent kind in_group own sender willing m = refl
answer-silent kind ack own sender willing m = refl

-- a join takes into a group whoever has prepared; a join abort anybody; an outcome is adopted before
answer-group :
    (kind : ℕ) → IsCommand kind → (kind ≡ 1 → ⊥) → (own sender : ℕ) (willing : Bool) (m : Noted) →
    (kind ≡ 3 → 1 ≤ code_in m.site) → (kind ≡ 6 → 4 ≤ code_in m.site) → 2 ≤ code_in (answer kind own sender willing m).step.site
unfolding answer replying after
answer-group kind prepare no_one own sender willing m prepared decided = absurd (no_one refl)
answer-group kind join-commit no_one own sender willing m prepared decided =
    join_commit_in_lem (state_of m.site) own m.site refl (prepared refl)
answer-group kind join_abort_lem no_one own sender willing m prepared decided = join_abort_in_lem (state_of m.site) own m.site refl
answer-group kind outcome no_one own sender willing m prepared decided = let h : 4 ≤ code_in m.site = decided refl in omega (arith, h)

answer-outcome : (kind : ℕ) → kind ≡ 6 → (own sender : ℕ) (willing : Bool) (m : Noted) → (answer kind own sender willing m).step.site ≡ m.site
unfolding answer replying
answer-outcome kind e own sender willing m = rw e

-- but for prepare, what is not adopted is not written in answer
answer_open :
    (kind : ℕ) → IsCommand kind → (kind ≡ 1 → ⊥) → (own sender : ℕ) (willing : Bool) (m : Noted) → code_in m.site < 4 →
    code_in (answer kind own sender willing m).step.site < 4
unfolding answer replying after
answer_open kind prepare no_one own sender willing m going = absurd (no_one refl)
answer_open kind join-commit no_one own sender willing m going = join-commit_open (state_of m.site) own m.site refl going
answer_open kind join_abort_lem no_one own sender willing m going = join_abort_open (state_of m.site) own m.site refl going
answer_open kind outcome no_one own sender willing m going = going

-- DELIVERING

-- role and up stay
stays-writes : (own : ℕ) (s : Site) → Writes own (λ t H. Stays s t)
unfolding write_prepare join_group write_outcome with_own with_prepared with_group with_outcome with_codes
stays-writes own s =
    record {
      prepares = λ t H e q. record { role = q.role; up = q.up };
      joins = λ k t H e g q. record { role = q.role; up = q.up };
      decides = λ k t H e q. record { role = q.role; up = q.up };
    }

module _ (own n : ℕ) (willing : Bool) (row : Row) (s : Site) where
  abbrev heard : Site
  heard = hear own n row s

  heard_code : code_in heard ≡ code_in s
  unfolding hear with_codes state_of
  heard_code = refl

  pub deliver-stays : Stays s (deliver own n willing row s).step.site
  unfolding deliver after_hearing bringing Moved Held hear with_codes
  deliver-stays =
      keeps_answer own n (λ t H. Stays s t) (stays-writes own s) row.kind row.sender willing (adopt own n heard)
      (keeps_adopt own n (λ t H. Stays s t) (stays-writes own s) heard (record { role = refl; up = refl }))

  pub deliver-replies : IsCommand row.kind → Replies own row.sender (deliver own n willing row s)
  unfolding deliver after_hearing bringing
  deliver-replies is =
      let r : Replies own row.sender (answer row.kind own row.sender willing (adopt own n heard)) =
      answer-replies row.kind is own row.sender willing (adopt own n heard) in
      record { kind = r.kind; is = r.is; row = r.row }

  pub deliver-silent : IsReply row.kind → (deliver own n willing row s).step.row.kind ≡ 0
  unfolding deliver after_hearing bringing silent no_row
  deliver-silent is = ap (λ m. m.step.row.kind) (answer-silent row.kind is own row.sender willing (adopt own n heard))

  -- into a group
  pub deliver-group :
      IsCommand row.kind → (row.kind ≡ 1 → ⊥) → (row.kind ≡ 3 → 1 ≤ code_in s) →
      (row.kind ≡ 6 → 4 ≤ code_in (adopt own n heard).site) → 2 ≤ code_in (deliver own n willing row s).step.site
  unfolding deliver after_hearing bringing
  deliver-group is no_one prepared decided =
      answer-group row.kind is no_one own row.sender willing (adopt own n heard)
      (λ e. adopt-grows own n heard 1 (omega arith) (omega (arith, heard_code, prepared e))) decided

  -- to the outcome that the sender has
  shown : row.sender < n → (row.sender ≡ own → ⊥) → n ≤ length s.codes → get_or s.codes row.sender 0 ≤ 5 →
      4 ≤ get_or row.codes row.sender 0 → get_or row.codes row.sender 0 ≤ 5 → is_outcome (get_or heard.codes row.sender 0) ≡ true
  unfolding hear with_codes
  shown below other room held said most =
      let x : ℕ = merge_entry (get_or s.codes row.sender 0) (get_or row.codes row.sender 0) in
      ap is_outcome (merging-at n own row.sender row.codes s.codes row.sender (omega (arith, room, below)) below other)
      ∙ outcome-on x (merge-outcome (get_or s.codes row.sender 0) (get_or row.codes row.sender 0) said)
      (merged_small (get_or s.codes row.sender 0) (get_or row.codes row.sender 0) held most)

  pub adopts-sender :
      row.sender < n → (row.sender ≡ own → ⊥) → n ≤ length s.codes → get_or s.codes row.sender 0 ≤ 5 →
      4 ≤ get_or row.codes row.sender 0 → get_or row.codes row.sender 0 ≤ 5 → 4 ≤ code_in (adopt own n heard).site
  adopts-sender below other room held said most = adopts own n heard row.sender below (shown below other room held said most)

  pub deliver-outcome : row.kind ≡ 6 → 4 ≤ code_in (adopt own n heard).site → 4 ≤ code_in (deliver own n willing row s).step.site
  unfolding deliver after_hearing bringing
  deliver-outcome e h = omega (arith, h, ap code_in (answer-outcome row.kind e own row.sender willing (adopt own n heard)))

  -- nobody shows an outcome: none is written, but for the answer to a prepare
  pub deliver_open :
      ((i : ℕ) → i < n → is_outcome (get_or heard.codes i 0) ≡ false) → code_in s < 4 → IsCommand row.kind → (row.kind ≡ 1 → ⊥) →
      code_in (deliver own n willing row s).step.site < 4
  unfolding deliver after_hearing bringing
  deliver_open none going is no_one =
      answer_open row.kind is no_one own row.sender willing (adopt own n heard)
      (omega (arith, ap code_in (adopts-none own n heard none), heard_code, going))

  pub reply_open :
      ((i : ℕ) → i < n → is_outcome (get_or heard.codes i 0) ≡ false) → code_in s < 4 → IsReply row.kind →
      code_in (deliver own n willing row s).step.site < 4
  unfolding deliver after_hearing bringing silent
  reply_open none going is =
      omega (
        arith,
        ap (λ m. code_in m.step.site) (answer-silent row.kind is own row.sender willing (adopt own n heard)),
        ap code_in (adopts-none own n heard none),
        heard_code,
        going,
      )
