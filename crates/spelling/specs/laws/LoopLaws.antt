-- The two loops over commands: measuring what they are spelled with, and putting it into a buffer.
use Rattle.std.specs.Prelude.{ℕ, ◌+◌, ◌<◌, ◌≤◌, List, [], ◌++◌, ◌≡◌}
use Rattle.std.proofs.Math.Path.{refl, ap}
use Rattle.std.proofs.Common.{sym, ◌∙◌}
use native.Mathlib.Omega.{arith}
use Rattle.std.proofs.Math.ListN.{length, length-append}
use Rattle.std.proofs.lemmas.List.Edits.{sets}
use Rattle.text.specs.declared.Page.{Page}
use Rattle.text.specs.Page.{Put}
use Rattle.text.specs.laws.Written.{Written, sets_join, written-length}
use Rattle.command.specs.declared.Command.{Command}
use Rattle.command.specs.declared.Parsed.{Parsed}
use Rattle.refusals.specs.Refusals.{number_of}
use Rattle.refusals.specs.declared.Refusal.{Refusal}
use Rattle.command.specs.Readings.{Reading}
use Rattle.std.specs.Prelude.{Ok, Err}
use Rattle.spelling.specs.Script.{Script, stop, first, script_from, spelled_by}
use Rattle.spelling.specs.laws.ScriptLaws.{Forward, rest, rest_end, rest-refused, rest-found, whole-rest}

-- the bytes that the commands left at a place are spelled with
unfoldable pub left : (Command → List ℕ) → (ℕ → Reading) → ℕ → ℕ → List ℕ
left spell read end at = spelled_by spell (rest read end at).commands

-- MEASURING: the script's end is that of what is left, and its output's length what was measured and what is left
pub record Measuring (spell : Command → List ℕ) (read : ℕ → Reading) (end : ℕ) (whole : Script) (total at measured : ℕ) : Type 0 where
  pub number-left : whole.number ≡ (rest read end at).number
  pub place-left : whole.place ≡ (rest read end at).place
  pub length-left : total ≡ measured + length (left spell read end at)

-- PUTTING: the output put at once is what was put and what is left
pub record Putting (spell : Command → List ℕ) (read : ℕ → Reading) (end : ℕ) (out before : List ℕ) (from : ℕ) (now : List ℕ) (at next : ℕ) : Type 0 where
  pub bytes_left : sets before from out ≡ sets now next (left spell read end at)
  pub room-left : from + length out ≡ next + length (left spell read end at)
  pub same_length : length now ≡ length before

module _ (spell : Command → List ℕ) (read : ℕ → Reading) (end : ℕ) (forward : Forward read end) where
  -- what is left, by what is read
  pub left_end : (at : ℕ) → end ≤ at → left spell read end at ≡ []
  unfolding left stop spelled_by
  left_end at h = rw (rest_end read end forward at h)

  pub left-refused : (at : ℕ) (r : Refusal) → at < end → read at ≡ Err r → left spell read end at ≡ []
  unfolding left stop spelled_by
  left-refused at r h e = rw (rest-refused read end forward at r h e)

  pub left-found : (at : ℕ) (p : Parsed) → at < end → read at ≡ Ok p →
      left spell read end at ≡ spell p.command ++ left spell read end p.next
  unfolding left first spelled_by
  left-found at p h e = rw (rest-found read end forward at p h e)

  -- measuring begins after the header
  pub measuring_begins : (start total measured : ℕ) → total ≡ measured + length (spelled_by spell (script_from end read end start).commands) →
      Measuring spell read end (script_from end read end start) total start measured
  unfolding left
  measuring_begins start total measured e =
      record {
        number-left = ap (λ s. s.number) (whole-rest read end forward start);
        place-left = ap (λ s. s.place) (whole-rest read end forward start);
        length-left = e ∙ ap (λ s. measured + length (spelled_by spell s.commands)) (whole-rest read end forward start);
      }

  module _ (whole : Script) (total at measured : ℕ) (m : Measuring spell read end whole total at measured) where
    -- a command more
    pub measuring-on : (p : Parsed) → at < end → read at ≡ Ok p →
        Measuring spell read end whole total p.next (measured + length (spell p.command))
    unfolding first
    measuring-on p h e =
        record {
          number-left = m.number-left ∙ ap (λ s. s.number) (rest-found read end forward at p h e);
          place-left = m.place-left ∙ ap (λ s. s.place) (rest-found read end forward at p h e);
          length-left =
              m.length-left ∙ ap (λ l. measured + length l) (left-found at p h e)
              ∙ omega (arith, length-append (spell p.command) (left spell read end p.next));
        }

    -- a refusal is the script's
    pub measuring-refused : (r : Refusal) → at < end → read at ≡ Err r → (whole.number ≡ number_of r.reason) × (whole.place ≡ r.place)
    unfolding stop
    measuring-refused r h e = (
      m.number-left ∙ ap (λ s. s.number) (rest-refused read end forward at r h e),
      m.place-left ∙ ap (λ s. s.place) (rest-refused read end forward at r h e),
    )

    -- at the end all is measured
    pub measuring-ends : end ≤ at → (whole.number ≡ 0) × (total ≡ measured)
    unfolding stop
    measuring-ends h = (
      m.number-left ∙ ap (λ s. s.number) (rest_end read end forward at h),
      m.length-left ∙ ap (λ l. measured + length l) (left_end at h) ∙ omega arith,
    )

  -- putting begins after the header
  pub putting_begins : (start : ℕ) (before : List ℕ) (from : ℕ) →
      Putting spell read end (spelled_by spell (script_from end read end start).commands) before from before start from
  unfolding left
  putting_begins start before from =
      rw (whole-rest read end forward start) (record { bytes_left = refl; room-left = refl; same_length = refl })

  module _ (out before : List ℕ) (from : ℕ) (now : List ℕ) (at next : ℕ) (p : Putting spell read end out before from now at next) where
    -- a command more
    pub putting-on : (k : Parsed) (after : List ℕ) (then : ℕ) → at < end → read at ≡ Ok k →
        Written now next (spell k.command) after then → Putting spell read end out before from after k.next then
    putting-on k after then h e w =
        record {
          bytes_left =
              p.bytes_left ∙ ap (λ l. sets now next l) (left-found at k h e)
              ∙ sym (sets_join now next (spell k.command) (left spell read end k.next)) ∙ rw (w.holds, w.ends);
          room-left =
              omega (arith, p.room-left, ap length (left-found at k h e), length-append (spell k.command) (left spell read end k.next), w.ends);
          same_length = written-length w ∙ p.same_length;
        }

    -- it has room
    pub putting-room : (k : Parsed) → at < end → read at ≡ Ok k → from + length out ≤ length before →
        next + length (spell k.command) ≤ length now
    putting-room k h e room =
        omega (arith, p.room-left, p.same_length, ap length (left-found at k h e), length-append (spell k.command) (left spell read end k.next))

    -- nothing is left: all is put
    pub putting-ends : left spell read end at ≡ [] → Written before from out now next
    putting-ends e =
        record {
          holds = sym (p.bytes_left ∙ ap (λ l. sets now next l) e);
          ends = omega (arith, p.room-left, ap length e);
        }

  -- the same of a page
  pub putting-page :
      {p q : Page} (out : List ℕ) (at : ℕ) → Putting spell read end out p.buffer.now p.at q.buffer.now at q.at →
      q.buffer.ghost_name ≡ p.buffer.ghost_name → left spell read end at ≡ [] → Put p out q
  putting-page {p} {q} out at m same e =
      record {
        same = same;
        written = putting-ends out p.buffer.now p.at q.buffer.now at q.at m e;
        length-is = m.same_length;
      }

-- after a piece that was put there is room for the other, if there was for both
pub room_after :
    {p q : Page} {head : List ℕ} (others : List ℕ) → Put p head q → p.at + length (head ++ others) ≤ length p.buffer.now →
    q.at + length others ≤ length q.buffer.now
room_after {head = head} others w room = omega (arith, w.written.ends, w.length-is, length-append head others)
