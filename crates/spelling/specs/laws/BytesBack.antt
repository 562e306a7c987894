-- A header's and a command's bytes read back, both ways.
use Rattle.std.specs.Prelude.{ℕ, suc, ◌+◌, ◌*◌, ◌/◌, ◌%◌, ◌<◌, ◌≤◌, List, [], ◌∷◌, ◌++◌, ◌≡◌, refl, ltb, leb, eqb, length, drop, get_or}
use Rattle.std.proofs.Common.{sym, ap, ◌∙◌, add-zero, add-suc, mod-eq_of_lt, add-one, arith, length-append, length-drop, drop-cons, get_or-drop}
use Rattle.std.proofs.Math.Path.{subst}
use Rattle.std.proofs.Math.Nat.{div-add-mod, add-mul-mod_self_left}
use borrow.Author.Tests.{lt-ltb, ltb-true, le-leb, leb-true, eqb-true}
use Rattle.choice.specs.Choice.{pick}
use Rattle.choice.specs.laws.Cases.{by_test}
use Rattle.word.specs.Words.{word_at}
use Rattle.command.specs.declared.Target.{Target}
use Rattle.command.specs.declared.Delivery.{Delivery}
use Rattle.command.specs.declared.Command.{Command}
use Rattle.command.specs.declared.Command.TheVariants as Command·
use Rattle.refusals.specs.Refusals.{number_of}
use Rattle.refusals.specs.declared.Reason.TheVariants as Reason·
use Rattle.refusals.specs.declared.Refusal.{Refusal}
use Rattle.command.specs.Readings.{Reading}
use Rattle.std.specs.Prelude.{Err}
use Rattle.command.specs.Commands.{found, refused, target, delivery, read_target, read_delivery, read_byte, read_command}
use Rattle.header.specs.declared.Header.{Header}
use Rattle.header.specs.Headers.{first_header}
use Rattle.spelling.specs.Spelling.{header_bytes, command_bytes}
use Rattle.spelling.specs.Ranges.{HeaderInRange, InRange}
use Rattle.spelling.specs.Script.{spelled_by}
use Rattle.spelling.specs.WriteRead.{bytes_of}
use Rattle.spelling.specs.laws.Spelt.{Spelt, Says}

-- a number of two bytes, the low byte first
pub whole : (x : ℕ) → x % 256 + 256 * (x / 256) ≡ x
whole x = omega (arith, div-add-mod x 256)

pub low_byte : (low high : ℕ) → low < 256 → (low + 256 * high) % 256 ≡ low
low_byte low high h = add-mul-mod_self_left low 256 high ∙ mod-eq_of_lt h

pub high_byte : (low high : ℕ) → low < 256 → (low + 256 * high) / 256 ≡ high
high_byte low high h = omega (arith, div-add-mod (low + 256 * high) 256, low_byte low high h)

-- a byte inside a list is the first of what is left there
first_byte : (list : List ℕ) (at : ℕ) → at < length list → drop at list ≡ get_or list at 0 ∷ drop (at + 1) list
first_byte list at h = rw add-one (drop-cons list at 0 h)

pub later_byte :
    (list : List ℕ) (at i : ℕ) → at + i < length list →
    drop (at + i) list ≡ get_or list (at + i) 0 ∷ drop (at + suc i) list
later_byte list at i h = rw add-suc (drop-cons list (at + i) 0 h)

-- a header has five bytes
pub length-header : (h : Header) → length (header_bytes h) ≡ 5
unfolding header_bytes
length-header h = refl

-- and a list those of its commands after them
pub list_length : (h : Header) (commands : List Command) → length (bytes_of h commands) ≡ 5 + length (spelled_by command_bytes commands)
unfolding bytes_of
list_length h commands = omega (arith, length-append (header_bytes h) (spelled_by command_bytes commands), length-header h)

-- the bytes that a list begins with are read as their header
pub header-reads : (h : Header) (t : List ℕ) → HeaderInRange h → first_header (header_bytes h ++ t) ≡ h
unfolding header_bytes first_header word_at
header-reads h t ok = rw (whole h.willing)

-- a header that is read is what the list begins with
pub header_spelt :
    (list : List ℕ) → ((i : ℕ) → get_or list i 0 < 256) → 5 ≤ length list →
    list ≡ header_bytes (first_header list) ++ drop 5 list
unfolding header_bytes first_header word_at
header_spelt list bytes room =
    rw (low_byte (get_or list 3 0) (get_or list 4 0) (bytes 3))
    (rw (high_byte (get_or list 3 0) (get_or list 4 0) (bytes 3))
    (later_byte list 0 0 (omega arith)
    ∙ (rw (later_byte list 0 1 (omega arith), later_byte list 0 2 (omega arith), later_byte list 0 3 (omega arith), later_byte list 0 4 (omega arith)))))

-- and its numbers are in range
pub header_in_range : (list : List ℕ) → ((i : ℕ) → get_or list i 0 < 256) → HeaderInRange (first_header list)
unfolding first_header word_at
header_in_range list bytes =
    record { sites = bytes 0; commit = bytes 1; abort = bytes 2; willing = omega (arith, bytes 3, bytes 4) }

-- every command has bytes
pub command-longer : (c : Command) → 1 ≤ length (command_bytes c)
unfolding command_bytes
command-longer Command·.Start = omega arith
command-longer (Command·.Deliver d) = omega arith
command-longer (Command·.Timeout t) = omega arith
command-longer (Command·.Crash t) = omega arith
command-longer (Command·.Recover t) = omega arith

-- what is left at a place are the list's bytes from there on, and they lie inside the list
byte_left : (list : List ℕ) (at i : ℕ) (l : List ℕ) → drop at list ≡ l → get_or list (at + i) 0 ≡ get_or l i 0
byte_left list at i l e = sym (get_or-drop at list i 0) ∙ ap (λ m. get_or m i 0) e

room-left : (list : List ℕ) (at b : ℕ) (l : List ℕ) → drop at list ≡ b ∷ l → at + suc (length l) ≤ length list
room-left list at b l e = omega (arith, simp length-drop at (ap length e))

-- the first byte that is left is the command's
byte_reads :
    (list : List ℕ) (at b : ℕ) (l : List ℕ) → drop at list ≡ b ∷ l → read_command list at ≡ read_byte b list at
unfolding read_command
byte_reads list at b l e =
    let f : get_or list at 0 ≡ b = rw add-zero at (byte_left list at 0 (b ∷ l) e) in
    rw (lt-ltb at (length list) (omega (arith, room-left list at b l e)), f)

-- those after it are its operands
target-reads :
    (command : Target → Command) (list : List ℕ) (at b site : ℕ) (t : List ℕ) → drop at list ≡ b ∷ site ∷ t →
    read_target command list at ≡ found (command (record { site = site })) (at + 2)
unfolding read_target target
target-reads command list at b site t e =
    let room : at + 2 ≤ length list = omega (arith, room-left list at b (site ∷ t) e) in
    rw (le-leb (at + 2) (length list) room, byte_left list at 1 (b ∷ site ∷ t) e)

delivery-reads :
    (list : List ℕ) (at : ℕ) (d : Delivery) (t : List ℕ) →
    drop at list ≡ 2 ∷ d.row % 256 ∷ d.row / 256 ∷ d.site ∷ t →
    read_delivery list at ≡ found (Command·.Deliver d) (at + 4)
unfolding read_delivery delivery
delivery-reads list at d t e =
    let l : List ℕ = d.row % 256 ∷ d.row / 256 ∷ d.site ∷ t in
    let room : at + 4 ≤ length list = omega (arith, room-left list at 2 l e) in
    rw (le-leb (at + 4) (length list) room, byte_left list at 1 (2 ∷ l) e, byte_left list at 2 (2 ∷ l) e, byte_left list at 3 (2 ∷ l) e)
    (rw (whole d.row))

-- the bytes that a list goes on with are read as their command
pub command-reads :
    (list : List ℕ) (at : ℕ) (c : Command) (t : List ℕ) → InRange c → drop at list ≡ command_bytes c ++ t →
    read_command list at ≡ found c (at + length (command_bytes c))
unfolding command_bytes read_byte
command-reads list at Command·.Start t ok e = byte_reads list at 1 t e
command-reads list at (Command·.Deliver d) t ok e =
    byte_reads list at 2 (d.row % 256 ∷ d.row / 256 ∷ d.site ∷ t) e ∙ delivery-reads list at d t e
command-reads list at (Command·.Timeout x) t ok e =
    byte_reads list at 3 (x.site ∷ t) e ∙ target-reads Command·.Timeout list at 3 x.site t e
command-reads list at (Command·.Crash x) t ok e =
    byte_reads list at 4 (x.site ∷ t) e ∙ target-reads Command·.Crash list at 4 x.site t e
command-reads list at (Command·.Recover x) t ok e =
    byte_reads list at 5 (x.site ∷ t) e ∙ target-reads Command·.Recover list at 5 x.site t e

-- a command that was read is what the list goes on with
abbrev pub CommandSpelt : List ℕ → ℕ → Command → ℕ → Type 0
CommandSpelt = Spelt command_bytes

-- an answer says so of its command; a refusal has a number up to 7, at the command's place
abbrev BytesSay : List ℕ → ℕ → Reading → Type 0
BytesSay list at = Says command_bytes (λ r. (1 ≤ number_of r.reason) × (r.place ≡ at) × (number_of r.reason ≤ 7)) list at

-- a command whose operands are not cut short
fits_say :
    (list : List ℕ) (at n : ℕ) (c : Command) → (at + n ≤ length list → CommandSpelt list at c (at + n)) →
    BytesSay list at (pick (leb (at + n) (length list)) (found c (at + n)) (refused Reason·.OperandsCut at))
unfolding Says found refused
fits_say list at n c spelt =
    by_test (leb (at + n) (length list)) (λ on. rw on (spelt (leb-true (at + n) (length list) on))) (λ off. rw off (omega arith))

-- the command of the byte 1, and of the byte 2
start_spelt : (list : List ℕ) (at : ℕ) → at < length list → get_or list at 0 ≡ 1 → CommandSpelt list at Command·.Start (at + 1)
unfolding command_bytes InRange
start_spelt list at room e =
    record { left = rw (first_byte list at room, e); next-is = refl; in_range = tt; inside = omega arith }

module _ (list : List ℕ) (bytes : (i : ℕ) → get_or list i 0 < 256) (at : ℕ) where
  delivery_spelt :
      get_or list at 0 ≡ 2 → at + 4 ≤ length list → CommandSpelt list at (Command·.Deliver (delivery list at)) (at + 4)
  unfolding command_bytes InRange delivery
  delivery_spelt e room =
      record {
        left =
            rw (low_byte (get_or list (at + 1) 0) (get_or list (at + 2) 0) (bytes (at + 1)))
            (rw (high_byte (get_or list (at + 1) 0) (get_or list (at + 2) 0) (bytes (at + 1)))
            (rw (first_byte list at (omega arith), e, later_byte list at 1 (omega arith), later_byte list at 2 (omega arith), later_byte list at 3 (omega arith))));
        next-is = refl;
        in_range = (omega (arith, bytes (at + 1), bytes (at + 2)), bytes (at + 3));
        inside = room;
      }

  -- the three commands that name a site alone
  target-says :
      (command : Target → Command) (b : ℕ) → ((t : Target) → command_bytes (command t) ≡ b ∷ t.site ∷ []) →
      ((t : Target) → t.site < 256 → InRange (command t)) → get_or list at 0 ≡ b →
      BytesSay list at (read_target command list at)
  unfolding read_target target
  target-says command b spells range e =
      fits_say list at 2 (command (target list at)) λ room.
      record {
        left = rw (spells (target list at), first_byte list at (omega arith), e, later_byte list at 1 (omega arith));
        next-is = rw (spells (target list at));
        in_range = range (target list at) (bytes (at + 1));
        inside = room;
      }

  -- whichever command is read
  byte_says : (b : ℕ) → at < length list → get_or list at 0 ≡ b → BytesSay list at (read_byte b list at)
  unfolding Says found refused read_byte read_delivery command_bytes InRange
  byte_says b room e =
      by_test (eqb b 1) (λ f. rw f (start_spelt list at room (e ∙ eqb-true b 1 f))) λ n1. rw n1
      (by_test (eqb b 2)
      (λ f. rw f (fits_say list at 4 (Command·.Deliver (delivery list at)) (delivery_spelt (e ∙ eqb-true b 2 f)))) λ n2. rw n2
      (by_test (eqb b 3) (λ f. rw f (target-says Command·.Timeout 3 (λ t. refl) (λ t h. h) (e ∙ eqb-true b 3 f))) λ n3. rw n3
      (by_test (eqb b 4) (λ f. rw f (target-says Command·.Crash 4 (λ t. refl) (λ t h. h) (e ∙ eqb-true b 4 f))) λ n4. rw n4
      (by_test (eqb b 5) (λ f. rw f (target-says Command·.Recover 5 (λ t. refl) (λ t h. h) (e ∙ eqb-true b 5 f))) λ n5.
      rw n5 (omega arith)))))

  command-says : BytesSay list at (read_command list at)
  unfolding Says refused read_command
  command-says =
      by_test (ltb at (length list))
      (λ on. rw on (byte_says (get_or list at 0) (ltb-true at (length list) on) refl)) (λ off. rw off (omega arith))

  -- a command that is read has its bytes there
  pub command_spelt : (c : Command) (next : ℕ) → read_command list at ≡ found c next → CommandSpelt list at c next
  unfolding Says found
  command_spelt c next e = subst (BytesSay list at) e command-says

  -- what cannot be read is refused with a number up to 7, at its first byte
  pub command-refused :
      (r : Refusal) → read_command list at ≡ Err r → (1 ≤ number_of r.reason) × (r.place ≡ at) × (number_of r.reason ≤ 7)
  unfolding Says
  command-refused r e = subst (BytesSay list at) e command-says
