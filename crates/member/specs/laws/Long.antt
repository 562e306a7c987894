-- A site with two vectors of sixteen codes, as the site's type has them: every rule keeps it.
use Rattle.std.specs.Prelude.{ℕ, Bool, List, ◌≡◌, refl, length}
use Rattle.std.proofs.Common.{◌∙◌, length-set}
use Rattle.merging.proofs.MergeLaws.{merging-length}
use Rattle.site.specs.declared.Group.{Group}
use Rattle.site.specs.declared.Group.TheVariants as Group·
use Rattle.site.specs.Fields.{zero_vector, blank_site, with_up, with_coordinator, with_prepared, with_group, with_outcome, with_codes}
use Rattle.site.specs.Records.{with_own, write_prepare, join_group, write_outcome}
use Rattle.rules.specs.Rules.{hear, kept_vector}
use Rattle.member.specs.Claims.{Long}
use Rattle.member.specs.laws.Steady.{Steady}

pub long-blank : (b : Bool) → Long (blank_site b)
unfolding blank_site zero_vector
long-blank b = record { codes = refl; joined = refl }

pub kept-length : (g : Group) (v : List ℕ) → length v ≡ 16 → length (kept_vector g v) ≡ 16
unfolding kept_vector zero_vector
kept-length Group·.None v l = refl
kept-length Group·.Commit v l = l
kept-length Group·.Abort v l = l

pub long_steady : (own n : ℕ) → Steady own n (λ s H. Long s)
unfolding with_up with_coordinator with_prepared with_group with_outcome with_codes with_own write_prepare join_group write_outcome hear
long_steady own n =
    record {
      up = λ b s H q. record { codes = q.codes; joined = q.joined };
      role = λ b s H q. record { codes = q.codes; joined = q.joined };
      writes =
          record {
            prepares = λ s H e q. record { codes = simp length-set q.codes; joined = q.joined };
            joins = λ k s H e g q. record { codes = simp length-set q.codes; joined = simp length-set q.codes };
            decides = λ k s H e q. record { codes = simp length-set q.codes; joined = q.joined };
          };
      hears = λ row s H e q.
          record { codes = merging-length n own row.sender row.codes s.codes ∙ q.codes; joined = q.joined };
      forgets = λ s H q. record { codes = simp length-set (kept-length s.group s.joined q.joined); joined = q.joined };
    }
