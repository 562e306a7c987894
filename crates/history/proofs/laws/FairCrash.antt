-- CRASH and RECOVER are fair.
use Rattle.std.specs.Prelude.{ℕ, ◌≤◌, true, false, List, [], ◌∷◌, set}
use Rattle.std.proofs.Common.{arith}
use Rattle.choice.specs.laws.ChoiceLaws.{pick_ind}
use Rattle.site.specs.declared.Group.{Group}
use Rattle.site.specs.declared.Group.TheVariants as Group·
use Rattle.site.specs.declared.State.TheVariants as State·
use Rattle.site.specs.declared.Site.{Site}
use Rattle.site.specs.State.{state_of, code_of, is_active}
use Rattle.site.specs.Fields.{with_up, with_coordinator, with_codes}
use Rattle.site.specs.Records.{Written, wrote, outcome_record, abort, write_outcome}
use Rattle.rules.specs.Rules.{silent, kept_vector, crash, restart, recover}
use Rattle.history.proofs.laws.Truth.{Terms, TrueVector, Says}
use Rattle.history.proofs.laws.TruthLaws.{zero_true, vector_set, says, says_code, says_active}
use Rattle.history.proofs.laws.Writing.{unprepared, write_record}
use Rattle.history.proofs.laws.Fair.{Standing, FairMove, fair-stay, fair-write, standing-coordinator, standing-up, standing-codes, fair-coordinator, fair-up, fair-silent}

-- what a crash leaves of the vector is true
kept_true : (n : ℕ) (H : List Written) (g : Group) (v : List ℕ) → n ≤ 16 → TrueVector n H v → TrueVector n H (kept_vector g v)
unfolding kept_vector
kept_true n H Group·.None v few true-v = zero_true n H few
kept_true n H Group·.Commit v few true-v = true-v
kept_true n H Group·.Abort v few true-v = true-v

pub fair-crash : {t : Terms} {own : ℕ} {H : List Written} {s : Site} → Standing t own H s → FairMove t own H (crash own s)
unfolding crash
fair-crash {t} {own} {H} {s} st =
    let v : List ℕ = set (kept_vector s.group s.joined) own (code_of (state_of s)) in
    fair-silent (with_up false (with_coordinator false (with_codes v s))) []
    (fair-stay (standing-up false (standing-coordinator false
    (standing-codes v (vector_set (kept_vector s.group s.joined) own (code_of (state_of s)) (omega arith)
    (kept_true t.n H s.group s.joined st.few st.site.joined)
    (says_code (state_of s) own H (says st.site))) st))))

-- with an empty log the site has not prepared, so it may abort
fair-restart : {t : Terms} {own : ℕ} {H : List Written} {s : Site} → Standing t own H s → Says State·.Active own H →
    FairMove t own H (restart own s)
unfolding restart write_record
fair-restart {own = own} {s = s} st (p, g, o) =
    fair-silent (with_up true (with_coordinator false (write_outcome abort own s))) (wrote own (outcome_record abort) ∷ [])
    (fair-up true (fair-coordinator false (fair-write st (outcome_record abort) (o, unprepared p))))

pub fair-recover : {t : Terms} {own : ℕ} {H : List Written} {s : Site} → Standing t own H s → FairMove t own H (recover own s)
unfolding recover
fair-recover {t} {own} {H} {s} st =
    pick_ind (FairMove t own H) (is_active (state_of s)) (restart own s) (silent (with_up true s) [])
    (λ e. fair-restart st (says_active (state_of s) own H e (says st.site)))
    (λ _. fair-silent (with_up true s) [] (fair-up true (fair-stay st)))
