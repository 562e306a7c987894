-- What each return of the code leaves, and the laws by which that is what the call does.
use Rattle.std.specs.Prelude.{ℕ, true, false, List, ◌≡◌, Result, eqb, length}
use Rattle.std.proofs.Common.{ap, ◌∙◌}
use Rattle.choice.specs.laws.Cases.{by_test}
use Rattle.refusals.specs.declared.Refusal.{Refusal}
use Rattle.spelling.specs.declared.Spelled.{Spelled}
use Rattle.spelling.specs.Answers.{answer_of}
use Rattle.layout.specs.Numbers.{put_number}
use Rattle.spelling.specs.WriteRead.{Output}
use Rattle.line_calls.specs.LineCalls.{lines_result_bytes, leave_lines, lines_call}

-- what a call left, by what its work on the buffer answers and leaves: 17 and no work at a result of another length
abbrev pub AnsweredBy : (Result Spelled Refusal → List ℕ → Type 0) → List ℕ → List ℕ → ℕ → List ℕ → List ℕ → Type 0
AnsweredBy Works buffer result number after left =
    (eqb (length result) lines_result_bytes ≡ false → (number ≡ 17) × (after ≡ buffer) × (left ≡ result))
    × (eqb (length result) lines_result_bytes ≡ true →
    (answer : _) × Works answer after × (number ≡ (answer_of answer).number)
    × (left ≡ put_number 8 (put_number 8 result 0 (answer_of answer).length) 8 (answer_of answer).place))

module _ (call : List ℕ → Output) (buffer result : List ℕ) where
  pub lines_17 :
      eqb (length result) lines_result_bytes ≡ false →
      lines_call call buffer result ≡ record { number = 17; buffer = buffer; result = result }
  unfolding lines_call
  lines_17 other = rw other

  pub lines_left :
      eqb (length result) lines_result_bytes ≡ true → lines_call call buffer result ≡ leave_lines (call buffer) result
  unfolding lines_call
  lines_left same = rw same

  -- the work does what the call says: so the whole call does
  pub lines_answered :
      (number : ℕ) (after left : List ℕ) →
      AnsweredBy (λ answer then. (answer_of answer ≡ (call buffer).answer) × (then ≡ (call buffer).buffer)) buffer result number after left →
      (number ≡ (lines_call call buffer result).number) × (after ≡ (lines_call call buffer result).buffer) × (left ≡ (lines_call call buffer result).result)
  unfolding leave_lines
  lines_answered number after left by =
      by_test (eqb (length result) lines_result_bytes)
      (λ same. let (answer, did, gives, leaves) = by.1 same in
      let (told, done) = did in
      rw (lines_left same) (gives ∙ ap (λ a. a.number) told, done, leaves ∙ ap (λ a. put_number 8 (put_number 8 result 0 a.length) 8 a.place) told))
      (λ other. rw (lines_17 other) (by.0 other))
