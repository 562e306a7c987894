-- Commands one after the other, spelled and read back, in whichever spelling.
use Prim.Native.Nat.{ℕ, zero, suc, ◌+◌, ◌-◌, ◌<◌, ◌≤◌}
use mathlib.Core.List.{List, [], ◌∷◌, ◌++◌, append_assoc, append-nil}
use Rattle.std.specs.Prelude.{◌≡◌, ltb}
use Rattle.std.proofs.Math.Path.{refl, ap}
use Rattle.std.proofs.Common.{sym, ◌∙◌, length-drop}
use native.Mathlib.Omega.{arith}
use Rattle.std.proofs.Math.ListN.{length, length-append, drop}
use Rattle.std.proofs.Math.Seq.{drop-length}
use borrow.Author.Tests.{ltb-true, ltb-false}
use Rattle.choice.specs.laws.Cases.{by_test}
use Rattle.scan.specs.laws.ReadBack.{word_left}
use Rattle.command.specs.declared.Command.{Command}
use Rattle.command.specs.declared.Parsed.{Parsed}
use Rattle.refusals.specs.Refusals.{number_of}
use Rattle.refusals.specs.declared.Refusal.{Refusal}
use Rattle.command.specs.Readings.{Reading}
use Rattle.std.specs.Prelude.{Ok, Err}
use Rattle.command.specs.Commands.{found}
use Rattle.spelling.specs.Ranges.{InRange, AllInRange}
use Rattle.spelling.specs.Script.{Script, stop, first, script_from, spelled_by}
use Rattle.spelling.specs.laws.ScriptLaws.{none_left, step-refused, step-found}
use Rattle.spelling.specs.laws.Spelt.{Spelt}

-- the script of commands that were all read
abbrev pub whole : ℕ → List Command → Script
whole end commands = record { number = 0; place = end; commands = commands }

module _ (spell : Command → List ℕ) (s : List ℕ) (read : ℕ → Reading) where
  -- a script ends at the text's end, or where a refusal is read
  pub data Ended (upto : ℕ) (x : Script) : Type 0 where
    at-end : x.number ≡ 0 → x.place ≡ upto → upto ≡ length s → Ended upto x
    at-refusal :
        (r : Refusal) → read upto ≡ Err r → x.number ≡ number_of r.reason → x.place ≡ r.place →
        upto < length s → Ended upto x

  -- its commands are what is left at its beginning, up to there
  pub record ScriptSpelt (at : ℕ) (x : Script) : Type 0 where
    pub upto : ℕ
    pub left : drop at s ≡ spelled_by spell x.commands ++ drop upto s
    pub upto_is : upto ≡ at + length (spelled_by spell x.commands)
    pub in_range : AllInRange x.commands
    pub ended : Ended upto x

  -- no command, and one more
  none_spelt : (at : ℕ) (x : Script) → x.commands ≡ [] → Ended at x → ScriptSpelt at x
  unfolding spelled_by
  none_spelt at x e ended =
      record { upto = at; left = rw e; upto_is = rw e (omega arith); in_range = rw e AllInRange.none; ended = ended }

  first_ended : (c : Command) (upto : ℕ) (x : Script) → Ended upto x → Ended upto (first c x)
  unfolding first
  first_ended c upto x (Ended.at-end e f g) = Ended.at-end e f g
  first_ended c upto x (Ended.at-refusal r e f g h) = Ended.at-refusal r e f g h

  first_spelt :
      (at : ℕ) (c : Command) (next : ℕ) (x : Script) → Spelt spell s at c next → ScriptSpelt next x →
      ScriptSpelt at (first c x)
  unfolding first spelled_by
  first_spelt at c next x p q =
      record {
        upto = q.upto;
        left = p.left ∙ rw (q.left, ← append_assoc);
        upto_is = omega (arith, length-append (spell c) (spelled_by spell x.commands));
        in_range = AllInRange.more p.in_range q.in_range;
        ended = first_ended c q.upto x q.ended;
      }

  -- a script whose number is 0 is all that is left, if refusals have numbers
  pub whole_spelt :
      (at : ℕ) (x : Script) → ((at : ℕ) (r : Refusal) → read at ≡ Err r → 1 ≤ number_of r.reason) →
      ScriptSpelt at x → x.number ≡ 0 → drop at s ≡ spelled_by spell x.commands
  whole_spelt at x numbered p e = go p.ended
    where
      go : Ended p.upto x → drop at s ≡ spelled_by spell x.commands
      go (Ended.at-end z place end) = p.left ∙ rw (end, drop-length) (append-nil (spelled_by spell x.commands))
      go (Ended.at-refusal r refused number place inside) = absurd (omega (arith, numbered p.upto r refused))

  -- a script's number is 0 or a refusal's
  pub script_below :
      (n at : ℕ) (x : Script) → ((at : ℕ) (r : Refusal) → read at ≡ Err r → number_of r.reason ≤ n) →
      ScriptSpelt at x → x.number ≤ n
  script_below n at x below p = go p.ended
    where
      go : Ended p.upto x → x.number ≤ n
      go (Ended.at-end z place end) = omega arith
      go (Ended.at-refusal r refused number place inside) = omega (arith, below p.upto r refused)

  -- where a script ends, no more is read
  end_reads :
      (upto : ℕ) (x : Script) → Ended upto x → (fuel : ℕ) → length s - upto ≤ fuel →
      script_from fuel read (length s) upto ≡ stop x.number x.place
  end_reads upto x (Ended.at-end number place end) fuel enough =
      none_left read (length s) fuel upto (omega arith) ∙ rw (number, place)
  end_reads upto x (Ended.at-refusal r refused number place inside) zero enough = absurd (omega arith)
  end_reads upto x (Ended.at-refusal r refused number place inside) (suc fuel) enough =
      step-refused read (length s) fuel upto r inside refused ∙ rw (number, place)

  module _ (longer : (c : Command) → 1 ≤ length (spell c)) where
    -- COMMANDS THAT ARE READ are spelled there
    pub script-spelt :
        ((at : ℕ) (p : Parsed) → at ≤ length s → read at ≡ Ok p → Spelt spell s at p.command p.next) →
        (fuel at : ℕ) → length s - at ≤ fuel → at ≤ length s → ScriptSpelt at (script_from fuel read (length s) at)
    unfolding script_from stop
    script-spelt spelt zero at enough inside = none_spelt at (stop 0 at) refl (Ended.at-end refl refl (omega arith))
    script-spelt spelt (suc fuel) at enough inside =
        by_test (ltb at (length s))
        (λ on. step-spelt (λ next p q. script-spelt spelt fuel next p q) (ltb-true at (length s) on) (read at) refl)
        (λ off. rw off (none_spelt at (stop 0 at) refl (Ended.at-end refl refl (omega (arith, ltb-false at (length s) off)))))
      where
        step-spelt :
            ((next : ℕ) → length s - next ≤ fuel → next ≤ length s → ScriptSpelt next (script_from fuel read (length s) next)) →
            at < length s → (x : Reading) → read at ≡ x → ScriptSpelt at (script_from (suc fuel) read (length s) at)
        step-spelt others room (Err r) e =
            rw (step-refused read (length s) fuel at r room e)
            (none_spelt at (stop (number_of r.reason) r.place) refl (Ended.at-refusal r e refl refl room))
        step-spelt others room (Ok p) e =
            let h : Spelt spell s at p.command p.next = spelt at p inside e in
            rw (step-found read (length s) fuel at p room e)
            (first_spelt at p.command p.next _ h (others p.next (omega (arith, longer p.command)) h.inside))

    -- COMMANDS THAT ARE SPELLED are read
    module _ (reads : (at : ℕ) (c : Command) (t : List ℕ) → InRange c → drop at s ≡ spell c ++ t → read at ≡ found c (at + length (spell c))) where
      -- up to where a script ends
      commands-read :
          (upto : ℕ) (x : Script) → Ended upto x → (fuel at : ℕ) (commands : List Command) → AllInRange commands →
          length s - at ≤ fuel → drop at s ≡ spelled_by spell commands ++ drop upto s →
          upto ≡ at + length (spelled_by spell commands) →
          script_from fuel read (length s) at ≡ record { number = x.number; place = x.place; commands = commands }
      unfolding spelled_by stop first found
      commands-read upto x ended fuel at [] ok enough e f =
          let here : at ≡ upto = omega arith in
          rw here (end_reads upto x ended fuel (omega arith))
      commands-read upto x ended zero at (c ∷ commands) ok enough e f =
          absurd (omega (arith, longer c, simp (length-drop, length-append) at (ap length e)))
      commands-read upto x ended (suc fuel) at (c ∷ commands) (AllInRange.more low ok) enough e f =
          let t : List ℕ = spelled_by spell commands ++ drop upto s in
          let g : drop at s ≡ spell c ++ t = e ∙ append_assoc (spell c) (spelled_by spell commands) (drop upto s) in
          step-found read (length s) fuel at _ (omega (arith, longer c, simp (length-drop, length-append) at (ap length g))) (reads at c t low g)
          ∙ ap (λ y. first c y)
          (commands-read upto x ended fuel (at + length (spell c)) commands ok (omega (arith, longer c)) (word_left (spell c) s at t g)
          (omega (arith, length-append (spell c) (spelled_by spell commands))))

      -- a script that is spelt there is the one that is read
      pub spelt-reads :
          (fuel at : ℕ) (x : Script) → length s - at ≤ fuel → ScriptSpelt at x → script_from fuel read (length s) at ≡ x
      spelt-reads fuel at x enough p =
          commands-read p.upto x p.ended fuel at x.commands p.in_range enough p.left p.upto_is

      -- so commands to the end are a whole script
      pub script-reads :
          (fuel at : ℕ) (commands : List Command) → AllInRange commands → length s - at ≤ fuel → at ≤ length s →
          drop at s ≡ spelled_by spell commands → script_from fuel read (length s) at ≡ whole (length s) commands
      script-reads fuel at commands ok enough inside e =
          spelt-reads fuel at (whole (length s) commands) enough
          (record {
            upto = length s;
            left = rw drop-length (e ∙ sym (append-nil (spelled_by spell commands)));
            upto_is = omega (arith, simp length-drop at (ap length e));
            in_range = ok;
            ended = Ended.at-end refl refl refl;
          })
