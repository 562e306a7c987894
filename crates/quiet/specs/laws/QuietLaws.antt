-- Laws of the quiet day's list: its length, how it grows by pieces, and what each return of the call leaves.
use Prim.Native.Nat.{ℕ, zero, suc, ◌+◌, ◌-◌, ◌*◌, ◌<◌, ◌≤◌}
use Rattle.std.specs.Prelude.{List, [], ◌∷◌, ◌++◌, ◌≡◌, refl, length}
use Rattle.std.proofs.Common.{append-nil, ap, ◌∙◌, arith, length-append}
use Rattle.std.proofs.Math.Numerals.{add-one}
use borrow.Author.Tests.{lt-ltb, le-ltb, le-leb, lt-leb, eq-eqb, ne_eqb}
use Rattle.bits.specs.Bits.{every_site}
use Rattle.bits.specs.laws.BitLaws.{bits_below}
use Rattle.site.specs.declared.CommitQuorum.{CommitQuorum}
use Rattle.site.specs.declared.AbortQuorum.{AbortQuorum}
use Rattle.weights.specs.Weights.{even_weights}
use Rattle.world.specs.Sizes.{sites_fit, sizes_number}
use Rattle.command.specs.declared.Delivery.{Delivery}
use Rattle.command.specs.declared.Command.{Command}
use Rattle.command.specs.declared.Command.TheVariants as Command·
use Rattle.header.specs.Headers.{header_sizes, first_sizes}
use Rattle.header.specs.laws.FirstLaws.{FirstSized, first-sized}
use Rattle.text.specs.declared.Page.{Page}
use Rattle.text.specs.Page.{Put}
use Rattle.text.specs.laws.Written.{Written}
use Rattle.text.specs.laws.PageLaws.{joined}
use Rattle.spelling.specs.Spelling.{header_bytes, command_bytes}
use Rattle.spelling.specs.Ranges.{HeaderInRange}
use Rattle.spelling.specs.Script.{spelled_by}
use Rattle.spelling.specs.WriteRead.{refuse, put_out, bytes_of}
use Rattle.spelling.specs.laws.ScriptLaws.{spelled_append}
use Rattle.spelling.specs.laws.BytesBack.{list_length}
use Rattle.quiet.specs.Quiet.{row_to, waited, to_each, from_each, replies_after, exchange, quiet_in, quiet}
use Rattle.quiet.specs.QuietList.{quiet_header, quiet_list, write_quiet}

-- commands as bytes
abbrev pub bytes : List Command → List ℕ
bytes commands = spelled_by command_bytes commands

-- commands, and one more
bytes-more : (cs : List Command) (c : Command) → bytes (cs ++ (c ∷ [])) ≡ bytes cs ++ command_bytes c
unfolding spelled_by
bytes-more cs c = spelled_append command_bytes cs (c ∷ []) ∙ ap (λ s. bytes cs ++ s) (append-nil (command_bytes c))

more-length : (cs : List Command) (k j : ℕ) → length (bytes (cs ++ (row_to k j ∷ []))) ≡ length (bytes cs) + 4
unfolding row_to command_bytes
more-length cs k j = ap length (bytes-more cs (row_to k j)) ∙ length-append (bytes cs) (command_bytes (row_to k j))

-- deliveries have four bytes each
pub to-length : (k m : ℕ) → length (bytes (to_each k m)) ≡ 4 * m
unfolding spelled_by to_each
to-length k zero = refl
to-length k (suc m) = omega (arith, more-length (to_each k m) k (suc m), to-length k m)

pub from-length : (k m : ℕ) → length (bytes (from_each k m)) ≡ 4 * m
unfolding spelled_by from_each
from-length k zero = refl
from-length k (suc m) = omega (arith, more-length (from_each k m) (k + suc m) 0, from-length k m)

-- an exchange: the opening, the deliveries, the replies
pub exchange-bytes :
    (opening : Command) (k m : ℕ) →
    bytes (exchange replies_after opening k m) ≡ command_bytes opening ++ (bytes (to_each k m) ++ bytes (from_each k m))
unfolding spelled_by exchange replies_after
exchange-bytes opening k m =
    ap (λ s. command_bytes opening ++ s) (spelled_append command_bytes (to_each k m) (from_each k m))

pub exchange-length :
    (opening : Command) (k m : ℕ) →
    length (bytes (exchange replies_after opening k m)) ≡ length (command_bytes opening) + 8 * m
exchange-length opening k m =
    omega (arith, ap length (exchange-bytes opening k m), length-append (command_bytes opening) (bytes (to_each k m) ++ bytes (from_each k m)), length-append (bytes (to_each k m)) (bytes (from_each k m)), to-length k m, from-length k m)

-- the whole: three exchanges
pub quiet-bytes :
    (n : ℕ) →
    bytes (quiet n)
    ≡ bytes (exchange replies_after Command·.Start 0 (n - 1)) ++ bytes (exchange replies_after waited n (n - 1))
    ++ bytes (exchange replies_after waited (2 * n) (n - 1))
unfolding quiet quiet_in
quiet-bytes n =
    let one : List Command = exchange replies_after Command·.Start 0 (n - 1) in
    let two : List Command = exchange replies_after waited n (n - 1) in
    let three : List Command = exchange replies_after waited (2 * n) (n - 1) in
    spelled_append command_bytes (one ++ two) three
    ∙ ap (λ s. s ++ bytes three) (spelled_append command_bytes one two)

-- THEOREM: the list's length
pub quiet_list-length : (n : ℕ) (c : CommitQuorum) (a : AbortQuorum) → 1 ≤ n → length (quiet_list n c a) ≡ 10 + 24 * (n - 1)
unfolding quiet_list waited command_bytes
quiet_list-length n c a some =
    let one : List ℕ = bytes (exchange replies_after Command·.Start 0 (n - 1)) in
    let two : List ℕ = bytes (exchange replies_after waited n (n - 1)) in
    let three : List ℕ = bytes (exchange replies_after waited (2 * n) (n - 1)) in
    omega (arith, list_length (quiet_header n c a) (quiet n), ap length (quiet-bytes n), length-append (one ++ two) three, length-append one two, exchange-length Command·.Start 0 (n - 1), exchange-length waited n (n - 1), exchange-length waited (2 * n) (n - 1))

-- deliveries by a rule, to the first m sites
unfoldable pub each : (ℕ → Command) → ℕ → List Command
each rule zero = []
each rule (suc m) = each rule m ++ (rule (suc m) ∷ [])

-- what gives a delivery for a site follows the rule
abbrev pub Delivers : (ℕ → Delivery → Type 0) → (ℕ → Command) → Type 0
Delivers post rule = (k : ℕ) (d : Delivery) → post k d → Command·.Deliver d ≡ rule k

to_is : (k m : ℕ) → each (row_to k) m ≡ to_each k m
unfolding each to_each
to_is k zero = refl
to_is k (suc m) = ap (λ cs. cs ++ (row_to k (suc m) ∷ [])) (to_is k m)

from_is : (k m : ℕ) → each (λ j. row_to (k + j) 0) m ≡ from_each k m
unfolding each from_each
from_is k zero = refl
from_is k (suc m) = ap (λ cs. cs ++ (row_to (k + suc m) 0 ∷ [])) (from_is k m)

-- a delivery more
pub each-more :
    {p q r : Page} (rule : ℕ → Command) (j : ℕ) (c : Command) → c ≡ rule (j + 1) → Put p (bytes (each rule j)) q →
    Put q (command_bytes c) r → Put p (bytes (each rule (j + 1))) r
unfolding each
each-more {q = q} {r = r} rule j c e w v =
    let one : Put q (command_bytes (rule (suc j))) r = rw (e, add-one) at v in
    rw (add-one, bytes-more (each rule j) (rule (suc j))) (joined w one)

-- a whole exchange
pub exchanged :
    {p q r s : Page} (opening : Command) (k j : ℕ) → Put p (command_bytes opening) q → Put q (bytes (each (row_to k) j)) r →
    Put r (bytes (each (λ i. row_to (k + i) 0) j)) s → Put p (bytes (exchange replies_after opening k j)) s
exchanged opening k j w v u =
    rw (exchange-bytes opening k j) (joined w (joined (rw (to_is k j) at v) (rw (from_is k j) at u)))

-- the whole list: the header, and three exchanges
pub all-put :
    {p q r s t : Page} (n : ℕ) (c : CommitQuorum) (a : AbortQuorum) → Put p (header_bytes (quiet_header n c a)) q →
    Put q (bytes (exchange replies_after Command·.Start 0 (n - 1))) r →
    Put r (bytes (exchange replies_after waited n (n - 1))) s →
    Put s (bytes (exchange replies_after waited (2 * n) (n - 1))) t → Put p (quiet_list n c a) t
unfolding quiet_list bytes_of
all-put n c a w x y z = rw (quiet-bytes n) (joined w (joined (joined x y) z))

-- the sizes' number is the header's, where every site weighs 1
pub quiet-number :
    (n : ℕ) (c : CommitQuorum) (a : AbortQuorum) (number willing : ℕ) (weights : List ℕ) → number ≡ sizes_number n weights c a willing →
    weights ≡ even_weights n → willing ≡ every_site n → number ≡ first_sizes (quiet_header n c a)
unfolding first_sizes header_sizes quiet_header
quiet-number n c a number willing weights e even same = e ∙ ap (λ x. sizes_number n x c a willing) even ∙ ap (λ w. sizes_number n (even_weights n) c a w) same

-- sizes that meet no refusal
module _ (n : ℕ) (c : CommitQuorum) (a : AbortQuorum) (good : first_sizes (quiet_header n c a) ≡ 0) where
  pub quiet-sized : FirstSized n c a (every_site n)
  unfolding quiet_header
  quiet-sized = first-sized (quiet_header n c a) good

  -- are in range
  pub quiet_in-range : HeaderInRange (quiet_header n c a)
  unfolding quiet_header
  quiet_in-range =
      let z : FirstSized n c a (every_site n) = quiet-sized in
      record {
        sites = omega (arith, z.high);
        commit = omega (arith, z.high, z.commit-below);
        abort = omega (arith, z.high, z.abort-below);
        willing = omega (arith, z.willing-below, bits_below n z.high);
      }

-- what each return of the call leaves
module _ (n : ℕ) (c : CommitQuorum) (a : AbortQuorum) (b : List ℕ) where
  pub quiet_many : 16 < n → write_quiet n c a b ≡ refuse 3 0 b
  unfolding write_quiet first_sizes header_sizes quiet_header sizes_number sites_fit
  quiet_many h = rw (le-leb 3 n (omega arith), lt-leb n 16 h)

  pub quiet-refused : (first_sizes (quiet_header n c a) ≡ 0 → ⊥) → write_quiet n c a b ≡ refuse (first_sizes (quiet_header n c a)) 0 b
  unfolding write_quiet
  quiet-refused bad = rw (ne_eqb (first_sizes (quiet_header n c a)) 0 bad)

  module _ (good : first_sizes (quiet_header n c a) ≡ 0) where
    long : length (quiet_list n c a) ≡ 10 + 24 * (n - 1)
    long = quiet_list-length n c a (omega (arith, (quiet-sized n c a good).low))

    pub quiet-room : length b < 10 + 24 * (n - 1) → write_quiet n c a b ≡ refuse 20 0 b
    unfolding write_quiet put_out
    quiet-room short =
        rw
        (eq-eqb (first_sizes (quiet_header n c a)) 0 good, lt-ltb (length b) (length (quiet_list n c a)) (omega (arith, long)))

    pub quiet-done :
        (after : List ℕ) (next : ℕ) → 10 + 24 * (n - 1) ≤ length b → Written b 0 (quiet_list n c a) after next →
        write_quiet n c a b ≡ record { answer = record { number = 0; place = 0; length = 10 + 24 * (n - 1) }; buffer = after }
    unfolding write_quiet put_out
    quiet-done after next room w =
        rw
        (eq-eqb (first_sizes (quiet_header n c a)) 0 good, le-ltb (length b) (length (quiet_list n c a)) (omega (arith, long)), w.holds, long)
