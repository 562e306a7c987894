-- What is claimed of writing a list as lines and of reading lines as a list: each gives back what the other took.
use Rattle.std.specs.Prelude.{ℕ, ◌<◌, ◌≤◌, List, ◌++◌, ◌≡◌, length, get_or, take, drop, replicate}
use Rattle.world.specs.Sizes.{list_bytes, text_bytes}
use Rattle.command.specs.declared.Command.{Command}
use Rattle.header.specs.declared.Header.{Header}
use Rattle.spelling.specs.Spelling.{header_line, command_line, header_bytes}
use Rattle.spelling.specs.Ranges.{HeaderInRange, InRange, AllInRange}
use Rattle.spelling.specs.WriteRead.{Output, lines_of, write_lines, read_lines}

-- what a call has put out
unfoldable pub output : Output → List ℕ
output o = take o.answer.length o.buffer

-- bytes, as every list and text in a program is made of
abbrev pub Bytes : List ℕ → Type 0
Bytes s = (i : ℕ) → get_or s i 0 < 256

-- accepted, with the place and these bytes put out
pub record Gives (o : Output) (place : ℕ) (bytes : List ℕ) : Type 0 where
  pub accepted : o.answer.number ≡ 0
  pub place_is : o.answer.place ≡ place
  pub length-is : o.answer.length ≡ length bytes
  pub put : output o ≡ bytes

-- writing, then reading, gives the list back
abbrev pub WriteThenRead : Type 0
WriteThenRead =
    (list b c : List ℕ) → Bytes list → (write_lines list b).answer.number ≡ 0 → length list ≤ length c →
    Gives (read_lines (output (write_lines list b)) c) (length (output (write_lines list b))) list

-- reading, then writing, gives the text back
abbrev pub ReadThenWrite : Type 0
ReadThenWrite =
    (s b c : List ℕ) → (read_lines s b).answer.number ≡ 0 → length s ≤ length c →
    Gives (write_lines (output (read_lines s b)) c) (length (output (read_lines s b))) s

-- so two accepted texts of one list are the same text
abbrev pub OneSpelling : Type 0
OneSpelling =
    (s t b c : List ℕ) → (read_lines s b).answer.number ≡ 0 → (read_lines t c).answer.number ≡ 0 →
    output (read_lines s b) ≡ output (read_lines t c) → s ≡ t

-- a text is the writing of a list
pub record Writing (s : List ℕ) : Type 0 where
  pub list : List ℕ
  pub bytes : Bytes list
  pub written : (c : List ℕ) → length s ≤ length c → Gives (write_lines list c) (length list) s

-- a text is accepted exactly if it is the writing of some list, with room
abbrev pub AcceptedIsWriting : Type 0
AcceptedIsWriting = (s b : List ℕ) → (read_lines s b).answer.number ≡ 0 → Writing s

abbrev pub WritingIsAccepted : Type 0
WritingIsAccepted =
    (s b : List ℕ) (w : Writing s) → length w.list ≤ length b → (read_lines s b).answer.number ≡ 0

-- the first line that is not in its form: a text begins with no header's line, or with one and commands' lines up to a place where none stands
pub data BadLine (s : List ℕ) : ℕ → Type 0 where
  first_line : ((h : Header) (t : List ℕ) → HeaderInRange h → s ≡ header_line h ++ t → ⊥) → BadLine s 0
  later_line :
      (h : Header) (commands : List Command) (at : ℕ) → HeaderInRange h → AllInRange commands →
      s ≡ lines_of h commands ++ drop at s → at ≡ length (lines_of h commands) → at < length s →
      ((c : Command) (t : List ℕ) → InRange c → drop at s ≡ command_line c ++ t → ⊥) → BadLine s at

-- 19 is given at the first line that is not in its form
abbrev pub FirstBadLine : Type 0
FirstBadLine = (s b : List ℕ) → (read_lines s b).answer.number ≡ 19 → BadLine s (read_lines s b).answer.place

-- and wherever there is such a line, 19 is given there, before every other number
abbrev pub BadLineRefused : Type 0
BadLineRefused =
    (s b : List ℕ) (at : ℕ) → BadLine s at → ((read_lines s b).answer.number ≡ 19) × ((read_lines s b).answer.place ≡ at)

-- a refusal leaves the buffer; past the output's end the buffer is always untouched
pub record Untouched (o : Output) (b : List ℕ) : Type 0 where
  pub refused-same : (o.answer.number ≡ 0 → ⊥) → (o.buffer ≡ b) × (o.answer.length ≡ 0)
  pub beyond-same : (k : ℕ) → o.answer.length ≤ k → get_or o.buffer k 0 ≡ get_or b k 0
  pub same_length : length o.buffer ≡ length b

-- for both calls
abbrev pub BufferKept : Type 0
BufferKept = (s b : List ℕ) → Untouched (write_lines s b) b × Untouched (read_lines s b) b

-- the longest text of a list has 196,620 bytes
abbrev pub TextFits : Type 0
TextFits =
    (list b : List ℕ) → Bytes list → (write_lines list b).answer.number ≡ 0 →
    (write_lines list b).answer.length ≤ text_bytes

-- and one has as many: sixteen sites, both quorums 15, all willing, and a start in each byte after the header
unfoldable pub longest_list : List ℕ
longest_list =
    header_bytes (record { n = 16; commit = record { 0 = 15 }; abort = record { 0 = 15 }; willing = 65535 })
    ++ replicate 32763 1

abbrev pub LongestText : Type 0
LongestText =
    (b : List ℕ) → text_bytes ≤ length b →
    ((write_lines longest_list b).answer.number ≡ 0) × ((write_lines longest_list b).answer.length ≡ text_bytes)

-- so a buffer of as many bytes always has room for a text, and one of 32,768 for a list: 20 is not met
abbrev pub RoomEnough : Type 0
RoomEnough =
    (s b : List ℕ) → Bytes s →
    (text_bytes ≤ length b → (write_lines s b).answer.number ≡ 20 → ⊥)
    × (list_bytes ≤ length b → (read_lines s b).answer.number ≡ 20 → ⊥)
