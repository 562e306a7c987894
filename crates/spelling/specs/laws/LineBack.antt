-- A header's and a command's line read back, both ways.
use Rattle.std.specs.Prelude.{ℕ, ◌+◌, ◌*◌, ◌<◌, ◌≤◌, true, false, List, [], ◌++◌, ◌≡◌, refl, length, drop, get_or, Option, Some, None}
use Prim.Native.String.{String}
use Rattle.std.proofs.Common.{append_assoc, ap, subst, ◌∙◌, arith, length-append, length-drop}
use Rattle.choice.specs.laws.Cases.{by_test}
use Rattle.text.specs.Text.{text, decimal, named}
use Rattle.text.specs.laws.DecimalLaws.{decimal-below}
use Rattle.text.specs.laws.DigitLaws.{decimal-some}
use Rattle.scan.specs.declared.Number.{Number}
use Rattle.scan.specs.Scan.{begins_with, word_at, is_digit, number, number_at, named_at}
use Rattle.scan.specs.laws.ReadBack.{word_reads, word_spelt, word_left, named-reads, NamedSpelt, named_spelt}
use Rattle.command.specs.declared.Target.{Target}
use Rattle.command.specs.declared.Delivery.{Delivery}
use Rattle.command.specs.declared.Command.{Command}
use Rattle.command.specs.declared.Command.TheVariants as Command·
use Rattle.refusals.specs.declared.Reason.TheVariants as Reason·
use Rattle.refusals.specs.declared.Refusal.{Refusal}
use Rattle.command.specs.Readings.{Reading}
use Rattle.std.specs.Prelude.{Err}
use Rattle.command.specs.Commands.{found, refused}
use Rattle.header.specs.declared.Header.{Header}
use Rattle.spelling.specs.declared.HeaderLine.{HeaderLine}
use Rattle.spelling.specs.Spelling.{header_line, command_line, command_bytes}
use Rattle.spelling.specs.LineReading.{bad_line, end_line, site_end, row_end, read_line, header_numbers, read_header_line}
use Rattle.spelling.specs.Ranges.{HeaderInRange, InRange}
use Rattle.spelling.specs.laws.Spelt.{Spelt, Says}

-- the shortest line is `start`
pub line_longer : (c : Command) → 6 ≤ length (command_line c)
unfolding command_line named text
line_longer Command·.Start = omega arith
line_longer (Command·.Deliver d) = simp length-append (omega arith)
line_longer (Command·.Timeout t) = simp length-append (omega arith)
line_longer (Command·.Crash t) = simp length-append (omega (arith, decimal-some t.site))
line_longer (Command·.Recover t) = simp length-append (omega arith)

-- so a command has no more bytes than its line
pub bytes-fewer : (c : Command) → length (command_bytes c) ≤ length (command_line c)
unfolding command_bytes
bytes-fewer Command·.Start = omega (arith, line_longer Command·.Start)
bytes-fewer (Command·.Deliver d) = omega (arith, line_longer (Command·.Deliver d))
bytes-fewer (Command·.Timeout t) = omega (arith, line_longer (Command·.Timeout t))
bytes-fewer (Command·.Crash t) = omega (arith, line_longer (Command·.Crash t))
bytes-fewer (Command·.Recover t) = omega (arith, line_longer (Command·.Recover t))

three_digits : (x : ℕ) → x < 256 → length (decimal x) ≤ 3
three_digits x h = decimal-below 3 x (omega arith) (omega arith)

-- a line has at most six bytes for each of its command's
pub line_fits : (c : Command) → InRange c → length (command_line c) ≤ 6 * length (command_bytes c)
unfolding command_line command_bytes named text InRange
line_fits Command·.Start ok = omega arith
line_fits (Command·.Deliver d) ok =
    simp length-append (omega (arith, decimal-below 5 d.row (omega arith) (omega arith), three_digits d.site ok.1))
line_fits (Command·.Timeout t) ok = simp length-append (omega (arith, three_digits t.site ok))
line_fits (Command·.Crash t) ok = simp length-append (omega (arith, three_digits t.site ok))
line_fits (Command·.Recover t) ok = simp length-append (omega (arith, three_digits t.site ok))

-- a header's line has four words and a digit or more after each
pub header_line-longer : (h : Header) → 35 ≤ length (header_line h)
unfolding header_line named text
header_line-longer h =
    simp length-append
    (omega (arith, decimal-some h.n, decimal-some h.commit.0, decimal-some h.abort.0, decimal-some h.willing))

-- a word and a number that the text goes on with are found, the words being quoted
name_reads :
    (word : String) (limit x : ℕ) (s : List ℕ) (at : ℕ) (t : List ℕ) → x ≤ limit → x < 100000 →
    drop at s ≡ named word x ++ t → is_digit (get_or t 0 0) ≡ false →
    named_at (text word) limit s at ≡ Some (number x (at + length (named word x)))
unfolding named
name_reads word limit x s at t low high e end = named-reads (text word) limit x s at t low high e end

-- which line it is goes by the word that the text goes on with
module _ (s : List ℕ) (at : ℕ) (t : List ℕ) where
  start_line : drop at s ≡ text "start\n" ++ t → read_line s at ≡ found Command·.Start (at + 6)
  unfolding read_line word_at begins_with text
  start_line e = rw e

  deliver_line : drop at s ≡ text "deliver " ++ t → read_line s at ≡ row_end s at (named_at (text "deliver ") 65535 s at)
  unfolding read_line named_at word_at begins_with text
  deliver_line e = rw e

  timeout_line :
      drop at s ≡ text "timeout " ++ t → read_line s at ≡ site_end Command·.Timeout s at (named_at (text "timeout ") 255 s at)
  unfolding read_line named_at word_at begins_with text
  timeout_line e = rw e

  crash_line :
      drop at s ≡ text "crash " ++ t → read_line s at ≡ site_end Command·.Crash s at (named_at (text "crash ") 255 s at)
  unfolding read_line named_at word_at begins_with text
  crash_line e = rw e

  recover_line :
      drop at s ≡ text "recover " ++ t → read_line s at ≡ site_end Command·.Recover s at (named_at (text "recover ") 255 s at)
  unfolding read_line named_at word_at begins_with text
  recover_line e = rw e

-- a site number and the line feed after it
site-reads :
    (word : String) (command : Target → Command) (s : List ℕ) (start at x : ℕ) (t : List ℕ) → x < 256 →
    drop at s ≡ named word x ++ text "\n" ++ t →
    site_end command s start (named_at (text word) 255 s at)
    ≡ found (command (record { site = x })) (at + length (named word x ++ text "\n"))
unfolding site_end end_line number text is_digit
site-reads word command s start at x t low e =
    let f : drop at s ≡ named word x ++ (text "\n" ++ t) = rw append_assoc at e in
    let g : at + length (named word x ++ text "\n") ≡ at + length (named word x) + 1 = simp length-append (omega arith) in
    rw (name_reads word 255 x s at (text "\n" ++ t) (omega arith) (omega arith) f refl, g)
    (rw (word_reads (text "\n") s (at + length (named word x)) t (word_left (named word x) s at (text "\n" ++ t) f)))

-- a row number before them
row_reads :
    (s : List ℕ) (at : ℕ) (d : Delivery) (t : List ℕ) → d.row < 65536 → d.site < 256 →
    drop at s ≡ named "deliver " d.row ++ named " " d.site ++ text "\n" ++ t →
    row_end s at (named_at (text "deliver ") 65535 s at)
    ≡ found (Command·.Deliver d) (at + length (named "deliver " d.row ++ named " " d.site ++ text "\n"))
unfolding row_end number text named is_digit
row_reads s at d t low high e =
    let row : List ℕ = named "deliver " d.row in
    let rest : List ℕ = named " " d.site ++ text "\n" ++ t in
    let f : drop at s ≡ row ++ rest = simp append_assoc (simp append_assoc at e) in
    let g : at + length (row ++ named " " d.site ++ text "\n") ≡ at + length row + length (named " " d.site ++ text "\n") =
    simp length-append (omega arith) in
    rw (name_reads "deliver " 65535 d.row s at rest (omega arith) (omega arith) f refl, g)
    (site-reads " " (λ x. Command·.Deliver (record { row = d.row; site = x.site })) s at (at + length row) d.site t high
    (word_left row s at rest f))

-- a line that the text goes on with is read as its command
pub line_reads :
    (s : List ℕ) (at : ℕ) (c : Command) (t : List ℕ) → InRange c → drop at s ≡ command_line c ++ t →
    read_line s at ≡ found c (at + length (command_line c))
unfolding command_line InRange text named
line_reads s at Command·.Start t ok e = start_line s at t e
line_reads s at (Command·.Deliver d) t ok e =
    deliver_line s at (decimal d.row ++ named " " d.site ++ text "\n" ++ t) e ∙ row_reads s at d t ok.0 ok.1 e
line_reads s at (Command·.Timeout x) t ok e =
    timeout_line s at (decimal x.site ++ text "\n" ++ t) e
    ∙ site-reads "timeout " Command·.Timeout s at at x.site t ok e
line_reads s at (Command·.Crash x) t ok e =
    crash_line s at (decimal x.site ++ text "\n" ++ t) e ∙ site-reads "crash " Command·.Crash s at at x.site t ok e
line_reads s at (Command·.Recover x) t ok e =
    recover_line s at (decimal x.site ++ text "\n" ++ t) e
    ∙ site-reads "recover " Command·.Recover s at at x.site t ok e

-- a piece of text stands at a place, up to the next
record Stands (s : List ℕ) (at : ℕ) (piece : List ℕ) (next : ℕ) : Type 0 where
  pub left : drop at s ≡ piece ++ drop next s
  pub next-is : next ≡ at + length piece

-- nothing, a word, a word and a number
nothing-stands : (s : List ℕ) (at : ℕ) → Stands s at [] at
nothing-stands s at = record { left = refl; next-is = omega arith }

word_stands : (w s : List ℕ) (at : ℕ) → word_at w s at ≡ true → Stands s at w (at + length w)
word_stands w s at e = record { left = word_spelt w s at e; next-is = refl }

name_stands :
    (word : String) (limit : ℕ) (s : List ℕ) (at : ℕ) (n : Number) → named_at (text word) limit s at ≡ Some n →
    Stands s at (named word n.value) n.next
unfolding named
name_stands word limit s at n e =
    let r : NamedSpelt (text word) limit s at n = named_spelt (text word) limit s at n e in
    record { left = r.left; next-is = r.next-is }

-- and one piece after another
stands_on :
    {s : List ℕ} {at m next : ℕ} {p q : List ℕ} → Stands s at p m → Stands s m q next → Stands s at (p ++ q) next
stands_on {p = p} {q = q} a b =
    record { left = rw (append_assoc, ← b.left) a.left; next-is = omega (arith, length-append p q) }

-- the number at a place is one or is missing
by_numeral {ℓ} :
    {P : Type ℓ} (k : Option Number) → (k ≡ None → P) → ((n : Number) → k ≡ Some n → P) → P
by_numeral None f g = f refl
by_numeral (Some n) f g = g n refl

-- a line that was read is what the text goes on with
abbrev pub LineSpelt : List ℕ → ℕ → Command → ℕ → Type 0
LineSpelt = Spelt command_line

-- an answer says so of its command; a refusal is 19 at the line's place
abbrev LineSays : List ℕ → ℕ → Reading → Type 0
LineSays s at = Says command_line (λ r. (r.reason ≡ Reason·.BadLine) × (r.place ≡ at)) s at

bad_says : (s : List ℕ) (at : ℕ) → LineSays s at (bad_line at)
unfolding Says bad_line refused
bad_says s at = (refl, refl)

found-says :
    (s : List ℕ) (at : ℕ) (c : Command) (next : ℕ) → InRange c → Stands s at (command_line c) next →
    LineSays s at (found c next)
unfolding Says found
found-says s at c next ok r =
    record {
      left = r.left;
      next-is = r.next-is;
      in_range = ok;
      inside = omega (arith, line_longer c, simp (length-append, length-drop) at (ap length r.left));
    }

-- the line feed is the last piece
end-says :
    (s : List ℕ) (at : ℕ) (c : Command) (next : ℕ) (piece : List ℕ) → InRange c → command_line c ≡ piece ++ text "\n" →
    Stands s at piece next → LineSays s at (end_line s at c next)
unfolding end_line text
end-says s at c next piece ok e r =
    by_test (word_at (text "\n") s next)
    (λ on. rw on
    (found-says s at c (next + 1) ok (rw e (stands_on r (word_stands (text "\n") s next on)))))
    (λ off. rw off (bad_says s at))

-- a site number is the last but one
site-says :
    (word : String) (command : Target → Command) (s : List ℕ) (start at : ℕ) (before : List ℕ) →
    ((t : Target) → command_line (command t) ≡ before ++ named word t.site ++ text "\n") →
    ((t : Target) → t.site < 256 → InRange (command t)) → Stands s start before at →
    LineSays s start (site_end command s start (named_at (text word) 255 s at))
unfolding site_end
site-says word command s start at before spells range r =
    by_numeral (named_at (text word) 255 s at) (λ e. rw e (bad_says s start)) λ n e.
    let c : Target = record { site = n.value } in
    rw e
    (end-says s start (command c) n.next (before ++ named word n.value)
    (range c (omega (arith, (named_spelt (text word) 255 s at n e).low))) (spells c)
    (stands_on r (name_stands word 255 s at n e)))

-- a row number stands before it
row-says : (s : List ℕ) (at : ℕ) → LineSays s at (row_end s at (named_at (text "deliver ") 65535 s at))
unfolding row_end command_line InRange
row-says s at =
    by_numeral (named_at (text "deliver ") 65535 s at) (λ e. rw e (bad_says s at)) λ r e.
    rw e
    (site-says " " (λ t. Command·.Deliver (record { row = r.value; site = t.site })) s at r.next
    (named "deliver " r.value) (λ t. refl) (λ t h. (omega (arith, (named_spelt (text "deliver ") 65535 s at r e).low), h))
    (name_stands "deliver " 65535 s at r e))

-- the number after a word that stands there
named_here :
    (w : List ℕ) (limit : ℕ) (s : List ℕ) (at : ℕ) → word_at w s at ≡ true →
    named_at w limit s at ≡ number_at limit s (at + length w)
unfolding named_at
named_here w limit s at e = rw e

-- whichever line is read
line_says : (s : List ℕ) (at : ℕ) → LineSays s at (read_line s at)
unfolding read_line text command_line InRange named
line_says s at =
    by_test (word_at (text "start\n") s at)
    (λ on. rw on (found-says s at Command·.Start (at + 6) tt (word_stands (text "start\n") s at on))) λ n1. rw n1
    (by_test (word_at (text "deliver ") s at)
    (λ on. rw (on, ← named_here (text "deliver ") 65535 s at on) (row-says s at)) λ n2. rw n2
    (by_test (word_at (text "timeout ") s at)
    (λ on. rw (on, ← named_here (text "timeout ") 255 s at on)
    (site-says "timeout " Command·.Timeout s at at [] (λ t. refl) (λ t h. h) (nothing-stands s at))) λ n3. rw n3
    (by_test (word_at (text "crash ") s at)
    (λ on. rw (on, ← named_here (text "crash ") 255 s at on)
    (site-says "crash " Command·.Crash s at at [] (λ t. refl) (λ t h. h) (nothing-stands s at))) λ n4. rw n4
    (by_test (word_at (text "recover ") s at)
    (λ on. rw (on, ← named_here (text "recover ") 255 s at on)
    (site-says "recover " Command·.Recover s at at [] (λ t. refl) (λ t h. h) (nothing-stands s at))) λ n5. rw n5
    (bad_says s at)))))

-- a command that is read has its line there
pub line_spelt :
    (s : List ℕ) (at : ℕ) (c : Command) (next : ℕ) → at ≤ length s → read_line s at ≡ found c next →
    LineSpelt s at c next
unfolding Says found
line_spelt s at c next inside e = subst (LineSays s at) e (line_says s at)

-- a line that is not in its form is refused with 19 at its first byte
pub line_refused :
    (s : List ℕ) (at : ℕ) (r : Refusal) → read_line s at ≡ Err r → (r.reason ≡ Reason·.BadLine) × (r.place ≡ at)
unfolding Says
line_refused s at r e = subst (LineSays s at) e (line_says s at)

-- five pieces and the rest, one after the other
five : (a b c d e t : List ℕ) → a ++ b ++ c ++ d ++ e ++ t ≡ a ++ (b ++ (c ++ (d ++ (e ++ t))))
five a b c d e t = simp append_assoc

-- the header's line that a text begins with is read as its header
pub header_line-reads :
    (s : List ℕ) (h : Header) (t : List ℕ) → HeaderInRange h → s ≡ header_line h ++ t →
    read_header_line s ≡ Some (record { header = h; next = length (header_line h) })
unfolding read_header_line header_line header_numbers number text named is_digit
header_line-reads s h t ok e =
    let n : List ℕ = named "sites " h.n in
    let c : List ℕ = named " commit " h.commit.0 in
    let a : List ℕ = named " abort " h.abort.0 in
    let w : List ℕ = named " willing " h.willing in
    let l : List ℕ = text "\n" ++ t in
    let p : ℕ = 0 + length n in
    let q : ℕ = p + length c in
    let r : ℕ = q + length a in
    let here : drop 0 s ≡ n ++ (c ++ (a ++ (w ++ l))) = e ∙ five n c a w (text "\n") t in
    let at_p : drop p s ≡ c ++ (a ++ (w ++ l)) = word_left n s 0 (c ++ (a ++ (w ++ l))) here in
    let at-q : drop q s ≡ a ++ (w ++ l) = word_left c s p (a ++ (w ++ l)) at_p in
    let at-r : drop r s ≡ w ++ l = word_left a s q (w ++ l) at-q in
    let place : length (n ++ c ++ a ++ w ++ text "\n") ≡ r + length w + 1 = simp length-append (omega arith) in
    rw (
      name_reads "sites " 255 h.n s 0 (c ++ (a ++ (w ++ l))) (omega arith) (omega arith) here refl,
      name_reads " commit " 255 h.commit.0 s p (a ++ (w ++ l)) (omega arith) (omega arith) at_p refl,
      name_reads " abort " 255 h.abort.0 s q (w ++ l) (omega arith) (omega arith) at-q refl,
      name_reads " willing " 65535 h.willing s r l (omega arith) (omega arith) at-r refl,
      word_reads (text "\n") s (r + length w) t (word_left w s r l at-r),
      place,
    )

-- a first line that was read is what the text begins with
pub record HeaderLineSpelt (s : List ℕ) (l : HeaderLine) : Type 0 where
  pub left : s ≡ header_line l.header ++ drop l.next s
  pub next-is : l.next ≡ length (header_line l.header)
  pub in_range : HeaderInRange l.header
  pub inside : l.next ≤ length s

-- an answer says so of its header
HeaderSays : List ℕ → Option HeaderLine → Type 0
HeaderSays s None = Unit
HeaderSays s (Some l) = HeaderLineSpelt s l

header-found :
    (s : List ℕ) (l : HeaderLine) → HeaderInRange l.header → Stands s 0 (header_line l.header) l.next →
    HeaderSays s (Some l)
unfolding HeaderSays
header-found s l ok r =
    record {
      left = r.left;
      next-is = omega arith;
      in_range = ok;
      inside =
          omega (arith, header_line-longer l.header, simp (length-append, length-drop) at (ap length r.left));
    }

-- four numbers after their words, and the line feed
numbers_say :
    (s : List ℕ) (n c a w : Number) → named_at (text "sites ") 255 s 0 ≡ Some n →
    named_at (text " commit ") 255 s n.next ≡ Some c →
    named_at (text " abort ") 255 s c.next ≡ Some a →
    named_at (text " willing ") 65535 s a.next ≡ Some w → word_at (text "\n") s w.next ≡ true →
    HeaderSays s (Some (header_numbers n c a w))
unfolding header_numbers header_line text
numbers_say s n c a w e₁ e₂ e₃ e₄ on =
    header-found s (header_numbers n c a w)
    (record {
      sites = omega (arith, (named_spelt (text "sites ") 255 s 0 n e₁).low);
      commit = omega (arith, (named_spelt (text " commit ") 255 s n.next c e₂).low);
      abort = omega (arith, (named_spelt (text " abort ") 255 s c.next a e₃).low);
      willing = omega (arith, (named_spelt (text " willing ") 65535 s a.next w e₄).low);
    })
    (stands_on
    (stands_on
    (stands_on
    (stands_on (name_stands "sites " 255 s 0 n e₁) (name_stands " commit " 255 s n.next c e₂))
    (name_stands " abort " 255 s c.next a e₃))
    (name_stands " willing " 65535 s a.next w e₄))
    (word_stands (text "\n") s w.next on))

-- whatever is read
header-says : (s : List ℕ) → HeaderSays s (read_header_line s)
unfolding HeaderSays read_header_line header_numbers header_line
header-says s =
    by_numeral (named_at (text "sites ") 255 s 0) (λ e. rw e tt) λ n e₁. rw e₁
    (by_numeral (named_at (text " commit ") 255 s n.next) (λ e. rw e tt) λ c e₂. rw e₂
    (by_numeral (named_at (text " abort ") 255 s c.next) (λ e. rw e tt) λ a e₃. rw e₃
    (by_numeral (named_at (text " willing ") 65535 s a.next) (λ e. rw e tt) λ w e₄. rw e₄
    (by_test (word_at (text "\n") s w.next)
    (λ on. rw on (numbers_say s n c a w e₁ e₂ e₃ e₄ on)) (λ off. rw off tt)))))

-- a header that is read has its line there
pub header_line_spelt : (s : List ℕ) (l : HeaderLine) → read_header_line s ≡ Some l → HeaderLineSpelt s l
unfolding HeaderSays
header_line_spelt s l e = subst (HeaderSays s) e (header-says s)
