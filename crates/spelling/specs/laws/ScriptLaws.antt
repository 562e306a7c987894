-- Laws of commands read one after the other: the bound on their number is never met, and what is left at a place decides the rest.
use Prim.Native.Nat.{ℕ, zero, suc, ◌-◌, ◌<◌, ◌≤◌}
use Rattle.std.specs.Prelude.{List, [], ◌∷◌, ◌++◌, ◌≡◌, ltb}
use Rattle.std.proofs.Common.{append_assoc, sym, ◌∙◌, arith, lt-ltb, le-ltb, ltb-true, ltb-false}
use Rattle.std.proofs.Math.Path.{refl, ap}
use Rattle.choice.specs.laws.Cases.{by_test}
use Rattle.command.specs.declared.Command.{Command}
use Rattle.command.specs.declared.Parsed.{Parsed}
use Rattle.refusals.specs.Refusals.{number_of}
use Rattle.refusals.specs.declared.Refusal.{Refusal}
use Rattle.command.specs.Readings.{Reading}
use Rattle.std.specs.Prelude.{Ok, Err}
use Rattle.spelling.specs.Script.{Script, stop, first, read_on, script_from, spelled_by}

-- a reading goes forward
abbrev pub Forward : (ℕ → Reading) → ℕ → Type 0
Forward read end = (at : ℕ) (p : Parsed) → at < end → read at ≡ Ok p → at < p.next

-- the commands that are left at a place
unfoldable pub rest : (ℕ → Reading) → ℕ → ℕ → Script
rest read end at = script_from (end - at) read end at

module _ (read : ℕ → Reading) (end : ℕ) where
  -- at the end nothing is left
  pub none_left : (fuel at : ℕ) → end ≤ at → script_from fuel read end at ≡ stop 0 at
  unfolding script_from
  none_left zero at h = refl
  none_left (suc fuel) at h = rw (le-ltb at end h)

  -- one reading, and the others
  step : (fuel at : ℕ) → at < end →
      script_from (suc fuel) read end at ≡ read_on (read at) (λ next. script_from fuel read end next)
  unfolding script_from
  step fuel at h = rw (lt-ltb at end h)

  pub step-refused : (fuel at : ℕ) (r : Refusal) → at < end → read at ≡ Err r →
      script_from (suc fuel) read end at ≡ stop (number_of r.reason) r.place
  step-refused fuel at r h e = step fuel at h ∙ rw e

  pub step-found : (fuel at : ℕ) (p : Parsed) → at < end → read at ≡ Ok p →
      script_from (suc fuel) read end at ≡ first p.command (script_from fuel read end p.next)
  step-found fuel at p h e = step fuel at h ∙ rw e

  -- any bound that is not met gives the same
  pub enough : Forward read end → (f g at : ℕ) → end - at ≤ f → end - at ≤ g →
      script_from f read end at ≡ script_from g read end at
  enough forward zero g at p q = none_left zero at (omega arith) ∙ sym (none_left g at (omega arith))
  enough forward (suc f) zero at p q = none_left (suc f) at (omega arith) ∙ sym (none_left zero at (omega arith))
  enough forward (suc f) (suc g) at p q =
      by_test (ltb at end)
      (λ t. inside (λ next u v. enough forward f g next u v) (ltb-true at end t) (read at) refl)
      (λ e. none_left (suc f) at (ltb-false at end e) ∙ sym (none_left (suc g) at (ltb-false at end e)))
    where
      inside :
          ((next : ℕ) → end - next ≤ f → end - next ≤ g → script_from f read end next ≡ script_from g read end next) →
          at < end → (x : Reading) → read at ≡ x → script_from (suc f) read end at ≡ script_from (suc g) read end at
      inside others h (Err r) e = step-refused f at r h e ∙ sym (step-refused g at r h e)
      inside others h (Ok k) e =
          step-found f at k h e
          ∙ ap (λ s. first k.command s)
          (others k.next (omega (arith, forward at k h e)) (omega (arith, forward at k h e)))
          ∙ sym (step-found g at k h e)

  -- a script ends inside, where every reading does
  pub script_inside :
      ((at : ℕ) (r : Refusal) → at < end → read at ≡ Err r → r.place ≤ end) →
      ((at : ℕ) (p : Parsed) → at < end → read at ≡ Ok p → p.next ≤ end) →
      (fuel at : ℕ) → at ≤ end → (script_from fuel read end at).place ≤ end
  unfolding stop first script_from
  script_inside refusing finding zero at h = h
  script_inside refusing finding (suc fuel) at h =
      by_test (ltb at end)
      (λ t. by-reading (λ next q. script_inside refusing finding fuel next q) (ltb-true at end t) (read at) refl)
      (λ e. rw (none_left (suc fuel) at (ltb-false at end e)) h)
    where
      by-reading :
          ((next : ℕ) → next ≤ end → (script_from fuel read end next).place ≤ end) → at < end → (x : Reading) → read at ≡ x →
          (script_from (suc fuel) read end at).place ≤ end
      by-reading others q (Err r) e = rw (step-refused fuel at r q e) (refusing at r q e)
      by-reading others q (Ok p) e = rw (step-found fuel at p q e) (others p.next (finding at p q e))

  module _ (forward : Forward read end) where
    -- what is left at a place, by what is read there
    pub rest_end : (at : ℕ) → end ≤ at → rest read end at ≡ stop 0 at
    unfolding rest
    rest_end at h = none_left (end - at) at h

    pub rest-refused : (at : ℕ) (r : Refusal) → at < end → read at ≡ Err r →
        rest read end at ≡ stop (number_of r.reason) r.place
    unfolding rest
    rest-refused at r h e =
        enough forward (end - at) (suc (end - at)) at (omega arith) (omega arith) ∙ step-refused (end - at) at r h e

    pub rest-found : (at : ℕ) (p : Parsed) → at < end → read at ≡ Ok p →
        rest read end at ≡ first p.command (rest read end p.next)
    unfolding rest
    rest-found at p h e =
        enough forward (end - at) (suc (end - at)) at (omega arith) (omega arith) ∙ step-found (end - at) at p h e
        ∙ ap (λ s. first p.command s)
        (enough forward (end - at) (end - p.next) p.next (omega (arith, forward at p h e)) (omega arith))

    -- a whole script is what is left at its beginning
    pub whole-rest : (at : ℕ) → script_from end read end at ≡ rest read end at
    unfolding rest
    whole-rest at = enough forward end (end - at) at (omega arith) (omega arith)

-- commands after other commands
pub spelled_append : (spell : Command → List ℕ) (cs ds : List Command) → spelled_by spell (cs ++ ds) ≡ spelled_by spell cs ++ spelled_by spell ds
unfolding spelled_by
spelled_append spell [] ds = refl
spelled_append spell (c ∷ cs) ds =
    ap (λ s. spell c ++ s) (spelled_append spell cs ds)
    ∙ sym (append_assoc (spell c) (spelled_by spell cs) (spelled_by spell ds))
