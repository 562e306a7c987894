-- Words and numbers at a place read back, both ways: what is left of the text there begins with what was found.
use Rattle.std.specs.Prelude.{ℕ, zero, suc, ◌+◌, ◌*◌, ◌-◌, ◌^◌, ◌<◌, ◌≤◌, Bool, true, false, List, [], ◌∷◌, ◌++◌, ◌≡◌, refl, eqb, ltb, leb, length, drop, get_or, Option, Some, None}
use Rattle.std.proofs.lemmas.Bool.{false≢true}
use Rattle.std.proofs.Common.{append_assoc, sym, ap, subst, ◌∙◌, add-one, zero-add, arith, length-append, length-drop, drop-cons, drop-drop, get_or-drop, eq-eqb, eqb-true, lt-ltb, ltb-true, le-leb, leb-true}
use Rattle.std.proofs.Math.Seq.{append_snoc, drop-append_seam}
use Rattle.choice.specs.Choice.{pick, both}
use Rattle.choice.specs.laws.Cases.{by_equal}
use Rattle.choice.specs.laws.ChoiceLaws.{pick_ind, both-on, both_first, both-second}
use Rattle.text.specs.Text.{decimal}
use Rattle.text.specs.Claims.{read_from}
use Rattle.text.specs.laws.DecimalLaws.{decimal-below, decimal-reads}
use Rattle.text.specs.laws.DigitLaws.{Digits, more, decimal-one, decimal-more, decimal_digits, decimal-some, nought_alone}
use Rattle.scan.specs.declared.Number.{Number}
use Rattle.scan.specs.Scan.{begins_with, word_at, is_digit, number, digits_from, up_to, number_at, named_at}
use Rattle.scan.specs.laws.NumberLaws.{digit_low, digit_high, digit_inside, digit_fits, digits_small, number-found}

-- a text that is a word and more begins with the word, and only such a text
begins : (w t : List ℕ) → begins_with w (w ++ t) ≡ true
unfolding begins_with
begins [] t = refl
begins (b ∷ w) t = both-on (eqb b b) (begins_with w (w ++ t)) (eq-eqb b b refl) (begins w t)

begun : (w s : List ℕ) → begins_with w s ≡ true → s ≡ w ++ drop (length w) s
unfolding begins_with
begun [] s e = refl
begun (b ∷ w) [] e = absurd (false≢true e)
begun (b ∷ w) (a ∷ s) e =
    let p : a ≡ b = eqb-true a b (both_first (eqb a b) (begins_with w s) e) in
    let q : s ≡ w ++ drop (length w) s = begun w s (both-second (eqb a b) (begins_with w s) e) in
    cc

-- a word that the text goes on with stands there
pub word_reads : (w s : List ℕ) (at : ℕ) (t : List ℕ) → drop at s ≡ w ++ t → word_at w s at ≡ true
unfolding word_at
word_reads w s at t e = rw e (begins w t)

-- a word that stands at a place is what the text goes on with
pub word_spelt : (w s : List ℕ) (at : ℕ) → word_at w s at ≡ true → drop at s ≡ w ++ drop (at + length w) s
unfolding word_at
word_spelt w s at e = begun w (drop at s) e ∙ ap (λ l. w ++ l) (drop-drop (length w) at s)

-- what is left after a word
pub word_left : (w s : List ℕ) (at : ℕ) (t : List ℕ) → drop at s ≡ w ++ t → drop (at + length w) s ≡ t
word_left w s at t e = sym (drop-drop (length w) at s) ∙ ap (λ l. drop (length w) l) e ∙ drop-append_seam w t

-- a word ends inside the text
pub word_inside : (w s : List ℕ) (at : ℕ) → at ≤ length s → word_at w s at ≡ true → at + length w ≤ length s
word_inside w s at h e = omega (arith, simp (length-append, length-drop) at (ap length (word_spelt w s at e)))

-- the byte at a place is the first of what is left there
first-left : (s : List ℕ) (at : ℕ) (t : List ℕ) → drop at s ≡ t → get_or s at 0 ≡ get_or t 0 0
first-left s at t e = let f : at ≡ at + 0 = omega arith in ap (λ i. get_or s i 0) f ∙ rw (← get_or-drop, e)

-- a byte of 48 to 57 is a digit
digit_byte : (b : ℕ) → 48 ≤ b → b ≤ 57 → is_digit b ≡ true
unfolding is_digit
digit_byte b low high = both-on (leb 48 b) (leb b 57) (le-leb 48 b low) (le-leb b 57 high)

-- a number ends where no digit follows
digits_stop : (k : ℕ) (s : List ℕ) (at v : ℕ) → is_digit (get_or s at 0) ≡ false → digits_from k s at v ≡ number v at
unfolding digits_from
digits_stop zero s at v e = refl
digits_stop (suc k) s at v e =
    pick_ind (λ n. n ≡ number v at) (both (ltb 0 v) (is_digit (get_or s at 0)))
    (digits_from k s (at + 1) (10 * v + (get_or s at 0 - 48))) (number v at)
    (λ on. absurd (false≢true (sym e ∙ both-second (ltb 0 v) (is_digit (get_or s at 0)) on))) (λ off. refl)

-- digits that the text goes on with are read one after the other; after a nought there are none
digits_read :
    (ds : List ℕ) (k : ℕ) (s : List ℕ) (at v : ℕ) (t : List ℕ) → Digits ds → length ds ≤ k → (v ≡ 0 → ds ≡ []) →
    drop at s ≡ ds ++ t → is_digit (get_or t 0 0) ≡ false → digits_from k s at v ≡ number (read_from v ds) (at + length ds)
unfolding read_from digits_from
digits_read [] k s at v t ok fits some e end =
    let f : at + 0 ≡ at = omega arith in rw f (digits_stop k s at v (rw (first-left s at t e) end))
digits_read (b ∷ ds) zero s at v t ok fits some e end = absurd (omega arith)
digits_read (b ∷ ds) (suc k) s at v t (more low high ok) fits some e end =
    let f : at + suc (length ds) ≡ at + 1 + length ds = omega arith in
    let pos : 0 < v =
    by_equal v 0 (λ z. let l : suc (length ds) ≡ 0 = ap length (some z) in omega arith) (λ z. omega arith) in
    let go : digits_from k s (at + 1) (10 * v + (b - 48)) ≡ number (read_from (10 * v + (b - 48)) ds) (at + 1 + length ds) =
    digits_read ds k s (at + 1) (10 * v + (b - 48)) t ok (omega arith) (λ z. absurd (omega arith))
    (word_left (b ∷ []) s at (ds ++ t) e) end in
    rw (f, first-left s at (b ∷ ds ++ t) e, digit_byte b low high, lt-ltb 0 v pos) go

-- the number that the text goes on with is found
pub number-reads :
    (limit x : ℕ) (s : List ℕ) (at : ℕ) (t : List ℕ) → x ≤ limit → x < 100000 → drop at s ≡ decimal x ++ t →
    is_digit (get_or t 0 0) ≡ false → number_at limit s at ≡ Some (number x (at + length (decimal x)))
unfolding read_from number
number-reads limit x s at t low high e end = go (decimal x) refl (decimal_digits x)
  where
    go :
        (ds : List ℕ) → decimal x ≡ ds → Digits ds →
        number_at limit s at ≡ Some (number x (at + length (decimal x)))
    go [] f ok = absurd (omega (arith, decimal-some x, ap length f))
    go (b ∷ ds) f (more least most ok) =
        let g : drop at s ≡ b ∷ ds ++ t = e ∙ ap (λ l. l ++ t) f in
        let there : get_or s at 0 ≡ b = first-left s at (b ∷ ds ++ t) g in
        let digit : is_digit (get_or s at 0) ≡ true = ap is_digit there ∙ digit_byte b least most in
        let read : read_from (b - 48) ds ≡ x =
        ap (λ v. read_from v ds) (sym (zero-add (b - 48))) ∙ sym (ap (read_from 0) f) ∙ decimal-reads x (omega arith) in
        let place : at + length (decimal x) ≡ at + 1 + length ds = omega (arith, ap length f) in
        let all : digits_from 4 s (at + 1) (b - 48) ≡ number (read_from (b - 48) ds) (at + 1 + length ds) =
        digits_read ds 4 s (at + 1) (b - 48) t ok
        (omega (arith, ap length f, decimal-below 5 x (omega arith) (omega arith)))
        (λ z. nought_alone x b ds (omega arith) f (omega arith)) (word_left (b ∷ []) s at (ds ++ t) g) end in
        sym (number-found limit s at (number x (at + length (decimal x))) digit (rw (there, all, read, place)) low)

-- what a digit stands for
digit_less : (b : ℕ) → is_digit b ≡ true → b - 48 < 10
digit_less b e = omega (arith, digit_high b e)

digit_back : (b : ℕ) → is_digit b ≡ true → 48 + (b - 48) ≡ b
digit_back b e = omega (arith, digit_low b e)

-- the decimal of a digit, alone and after a number
digit_alone : (b : ℕ) → is_digit b ≡ true → decimal (b - 48) ≡ b ∷ []
digit_alone b e = decimal-one (b - 48) (digit_less b e) ∙ ap (λ d. d ∷ []) (digit_back b e)

digit_after :
    (v b : ℕ) → 1 ≤ v → v < 100000 → is_digit b ≡ true → decimal (10 * v + (b - 48)) ≡ decimal v ++ (b ∷ [])
digit_after v b some high e =
    decimal-more v (b - 48) some high (digit_less b e) ∙ ap (λ d. decimal v ++ (d ∷ [])) (digit_back b e)

-- a digit at a place is what the text goes on with
digit_spelt : (s : List ℕ) (at : ℕ) → is_digit (get_or s at 0) ≡ true → drop at s ≡ get_or s at 0 ∷ drop (at + 1) s
digit_spelt s at e = rw add-one (drop-cons s at 0 (digit_inside s at e))

-- digits read after a number: what was read and what is left are the same text as before
record DigitsSpelt (s : List ℕ) (at v : ℕ) (n : Number) : Type 0 where
  pub same : decimal v ++ drop at s ≡ decimal n.value ++ drop n.next s
  pub next-is : n.next + length (decimal v) ≡ at + length (decimal n.value)
  pub inside : at ≤ length s → n.next ≤ length s

-- no digit more, and one more
digits_none : (s : List ℕ) (at v : ℕ) → DigitsSpelt s at v (number v at)
unfolding number
digits_none s at v = record { same = refl; next-is = refl; inside = λ h. h }

digits_one :
    (s : List ℕ) (at v : ℕ) (n : Number) → 1 ≤ v → v < 100000 → is_digit (get_or s at 0) ≡ true →
    DigitsSpelt s (at + 1) (10 * v + (get_or s at 0 - 48)) n → DigitsSpelt s at v n
digits_one s at v n some high e r =
    let longer : decimal (10 * v + (get_or s at 0 - 48)) ≡ decimal v ++ (get_or s at 0 ∷ []) =
    digit_after v (get_or s at 0) some high e in
    record {
      same = rw (digit_spelt s at e, ← append_snoc, ← longer) r.same;
      next-is = omega (arith, simp length-append at (ap length longer));
      inside = λ h. r.inside (omega (arith, digit_inside s at e));
    }

-- all of them, with j digits read after the first and at most k to come
digits_spelt :
    (k j : ℕ) (s : List ℕ) (at v : ℕ) → k + j ≡ 4 → v < 10 ^ (j + 1) → DigitsSpelt s at v (digits_from k s at v)
unfolding digits_from
digits_spelt zero j s at v e h = digits_none s at v
digits_spelt (suc k) j s at v e h =
    pick_ind (DigitsSpelt s at v) (both (ltb 0 v) (is_digit (get_or s at 0)))
    (digits_from k s (at + 1) (10 * v + (get_or s at 0 - 48))) (number v at)
    (λ on. let some : 0 < v = ltb-true 0 v (both_first (ltb 0 v) (is_digit (get_or s at 0)) on) in
    let digit : is_digit (get_or s at 0) ≡ true = both-second (ltb 0 v) (is_digit (get_or s at 0)) on in
    digits_one s at v (digits_from k s (at + 1) (10 * v + (get_or s at 0 - 48))) some
    (omega (arith, digits_small v j (omega arith) h)) digit
    (digits_spelt k (j + 1) s (at + 1) (10 * v + (get_or s at 0 - 48)) (omega arith) (digit_fits v (get_or s at 0) j h digit)))
    (λ off. digits_none s at v)

-- what a test has let through
let_through :
    (t : Bool) (a : Option Number) (n : Number) → pick t a None ≡ Some n →
    (t ≡ true) × (a ≡ Some n)
let_through true a n e = (refl, e)
let_through false a n e = let z : ◌≡◌ {A = ℕ} 0 1 = cc in absurd (omega arith)

-- a number that is found is what the text goes on with
pub record NumberSpelt (limit : ℕ) (s : List ℕ) (at : ℕ) (n : Number) : Type 0 where
  pub left : drop at s ≡ decimal n.value ++ drop n.next s
  pub next-is : n.next ≡ at + length (decimal n.value)
  pub low : n.value ≤ limit
  pub inside : n.next ≤ length s

first_spelt :
    (limit : ℕ) (s : List ℕ) (at : ℕ) (n : Number) → is_digit (get_or s at 0) ≡ true → n.value ≤ limit →
    DigitsSpelt s (at + 1) (get_or s at 0 - 48) n → NumberSpelt limit s at n
first_spelt limit s at n e low r =
    let one : decimal (get_or s at 0 - 48) ≡ get_or s at 0 ∷ [] = digit_alone (get_or s at 0) e in
    record {
      left = digit_spelt s at e ∙ (rw one at r.same);
      next-is = omega (arith, ap length one);
      low = low;
      inside = r.inside (omega (arith, digit_inside s at e));
    }

pub number_spelt :
    (limit : ℕ) (s : List ℕ) (at : ℕ) (n : Number) → number_at limit s at ≡ Some n → NumberSpelt limit s at n
unfolding number_at up_to
number_spelt limit s at n e =
    let m : Number = digits_from 4 s (at + 1) (get_or s at 0 - 48) in
    let p : (is_digit (get_or s at 0) ≡ true) × (up_to limit m ≡ Some n) =
    let_through (is_digit (get_or s at 0)) (up_to limit m) n e in
    let q : (leb m.value limit ≡ true) × (Some m ≡ Some n) =
    let_through (leb m.value limit) (Some m) n p.1 in
    subst (NumberSpelt limit s at) (cc)
    (first_spelt limit s at m p.0 (leb-true m.value limit q.0)
    (digits_spelt 4 0 s (at + 1) (get_or s at 0 - 48) refl (digit_less (get_or s at 0) p.0)))

-- a word and a number that the text goes on with are found
pub named-reads :
    (w : List ℕ) (limit x : ℕ) (s : List ℕ) (at : ℕ) (t : List ℕ) → x ≤ limit → x < 100000 →
    drop at s ≡ (w ++ decimal x) ++ t → is_digit (get_or t 0 0) ≡ false →
    named_at w limit s at ≡ Some (number x (at + length (w ++ decimal x)))
unfolding named_at
named-reads w limit x s at t low high e end =
    let f : drop at s ≡ w ++ (decimal x ++ t) = rw append_assoc at e in
    let g : at + length (w ++ decimal x) ≡ at + length w + length (decimal x) = simp length-append (omega arith) in
    rw (word_reads w s at (decimal x ++ t) f, g)
    (number-reads limit x s (at + length w) t low high (word_left w s at (decimal x ++ t) f) end)

-- a number found after a word: the word and the number are what the text goes on with
pub record NamedSpelt (w : List ℕ) (limit : ℕ) (s : List ℕ) (at : ℕ) (n : Number) : Type 0 where
  pub left : drop at s ≡ (w ++ decimal n.value) ++ drop n.next s
  pub next-is : n.next ≡ at + length (w ++ decimal n.value)
  pub low : n.value ≤ limit
  pub inside : n.next ≤ length s

pub named_spelt :
    (w : List ℕ) (limit : ℕ) (s : List ℕ) (at : ℕ) (n : Number) → named_at w limit s at ≡ Some n →
    NamedSpelt w limit s at n
unfolding named_at
named_spelt w limit s at n e =
    let p : (word_at w s at ≡ true) × (number_at limit s (at + length w) ≡ Some n) =
    let_through (word_at w s at) (number_at limit s (at + length w)) n e in
    let r : NumberSpelt limit s (at + length w) n = number_spelt limit s (at + length w) n p.1 in
    record {
      left = rw (append_assoc, ← r.left) (word_spelt w s at p.0);
      next-is = omega (arith, length-append w (decimal n.value));
      low = r.low;
      inside = r.inside;
    }
