-- What a call leaves that refuses with a number unless it is 0, and one that puts something out.
use Rattle.std.specs.Prelude.{ℕ, ◌≤◌, List, refl, ltb, eqb, length}
use Rattle.std.proofs.Math.Path.{◌≡◌}
use native.Mathlib.Omega.{arith}
use Rattle.std.proofs.lemmas.List.Edits.{sets}
use borrow.Author.Tests.{le-ltb, ltb-false, eqb-true, eqb-false}
use Rattle.choice.specs.Choice.{pick}
use Rattle.choice.specs.laws.Cases.{by_test}
use Rattle.text.specs.laws.Written.{Written, written_front}
use Rattle.spelling.specs.WriteRead.{Output, refuse, put_out}
use Rattle.round_trip.specs.Claims.{output, Gives}

-- accepted: the number was 0, and the call leaves what comes after
pub passed :
    (number place : ℕ) (b : List ℕ) (o : Output) →
    (pick (eqb number 0) o (refuse number place b)).answer.number ≡ 0 →
    (number ≡ 0) × (pick (eqb number 0) o (refuse number place b) ≡ o)
unfolding refuse
passed number place b o e =
    by_test (eqb number 0) (λ on. (eqb-true number 0 on, rw on)) (λ off. absurd (eqb-false number 0 off (rw off at e)))

module _ (place : ℕ) (out b : List ℕ) where
  -- what is put out has room
  pub put-room : (put_out place out b).answer.number ≡ 0 → length out ≤ length b
  unfolding put_out refuse
  put-room e =
      by_test (ltb (length b) (length out)) (λ on. let z : ◌≡◌ {A = ℕ} 20 0 = rw on at e in absurd (omega arith))
      (λ off. ltb-false (length b) (length out) off)

  module _ (room : length out ≤ length b) where
    -- with room it is put from the beginning, and stands there
    pub put-done :
        put_out place out b
        ≡ record { answer = record { number = 0; place = place; length = length out }; buffer = sets b 0 out }
    unfolding put_out
    put-done = rw (le-ltb (length b) (length out) room)

    pub put-gives : Gives (put_out place out b) place out
    unfolding output
    put-gives =
        let w : Written b 0 out (sets b 0 out) (length out) = record { holds = refl; ends = omega arith } in
        rw put-done (record { accepted = refl; place_is = refl; length-is = refl; put = written_front w room })
