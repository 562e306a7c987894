-- How pieces that are put on a page join.
use Rattle.std.specs.Prelude.{ℕ, ◌+◌, ◌/◌, ◌%◌, ◌<◌, ◌≤◌, List, [], ◌∷◌, ◌++◌, ◌≡◌, refl, length, take}
use Rattle.std.proofs.Common.{ap, ◌∙◌, arith, subst, le-leb}
use Rattle.std.proofs.lemmas.Bool.{lt-leb}
use Rattle.std.proofs.lemmas.List.Edits.{sets}
use Rattle.text.specs.declared.Page.{Page}
use Rattle.text.specs.Page.{Put}
use Rattle.text.specs.Text.{digit_at}
use Rattle.text.specs.laws.Written as written

-- a piece, and one right after it
pub joined : {p q r : Page} {s t : List ℕ} → Put p s q → Put q t r → Put p (s ++ t) r
joined a b =
    record {
      same = b.same ∙ a.same;
      written = written.joined a.written b.written;
      length-is = b.length-is ∙ a.length-is;
    }

-- nothing put
pub nothing : (p : Page) → Put p [] p
nothing p = record { same = refl; written = written.nothing p.buffer.now p.at; length-is = refl }

-- a number below the unit leaves out its digit
pub digit_out : (p : Page) (unit x : ℕ) → x < unit → Put p (digit_at unit x) p
unfolding digit_at
digit_out p unit x h = rw (lt-leb unit x h) (nothing p)

-- a number that reaches the unit has its digit
pub digit_in : {p q : Page} (unit x : ℕ) → unit ≤ x → Put p ((48 + x / unit % 10) ∷ []) q → Put p (digit_at unit x) q
unfolding digit_at
digit_in unit x h put = rw (le-leb unit x h) put

-- a piece put at a page's beginning stands there
pub put_front : {p q : Page} {s : List ℕ} → Put p s q → p.at ≡ 0 → q.at ≤ length p.buffer.now → take q.at q.buffer.now ≡ s
put_front {p} {q} {s} put begin room =
    written.written_front (subst (λ k. written.Written p.buffer.now k s q.buffer.now q.at) begin put.written)
    (omega (arith, put.written.ends))

-- a piece put on a page of its own, and copied from there
pub copied :
    {p r o q : Page} {s line : List ℕ} → Put p (take q.at line) r → Put o s q → o.at ≡ 0 → q.at ≤ length o.buffer.now →
    line ≡ q.buffer.now → Put p s r
copied {p} {r} {o} {q} {s} {line} copy put begin room same =
    subst (λ l. Put p l r) (ap (λ l. take q.at l) same ∙ put_front put begin room) copy

-- a page that was filled from its buffer's beginning
pub put_whole :
    {p q : Page} {s b : List ℕ} → Put p s q → p.buffer.now ≡ b → p.at ≡ 0 → written.Written b 0 s q.buffer.now q.at
put_whole {p} {q} {s} {b} put same begin =
    record {
      holds = put.written.holds ∙ ap (λ x. sets x p.at s) same ∙ ap (λ k. sets b k s) begin;
      ends = omega (arith, put.written.ends);
    }
