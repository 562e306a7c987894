-- A call's answer stands for the same where its refusal is told by its number.
use Rattle.std.specs.Prelude.{Result, Ok, Err, ◌≡◌, refl, MatchResult, IsErrAnd}
use Rattle.std.proofs.lemmas.Result.{err_from_is_err_and}
use Rattle.refusals.specs.declared.Refusal.{Refusal}
use Rattle.refusals.specs.declared.Numbered.{Numbered}
use Rattle.refusals.specs.Refusals.{by_number}
use Rattle.spelling.specs.declared.Spelled.{Spelled}
use Rattle.spelling.specs.Answers.{answer_of}
use Rattle.spelled_out.specs.Shown.{answer_numbered}

pub answer_told :
    (r : Result Spelled Refusal) (told : Result Spelled Numbered) →
    MatchResult r (λ s. told ≡ Ok s) (λ e. IsErrAnd told (λ n. n ≡ by_number e)) → answer_numbered told ≡ answer_of r
answer_told (Ok s) told e = rw e refl
answer_told (Err r) told e = let p = err_from_is_err_and told e in rw (p.1, p.2) refl
