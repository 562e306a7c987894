-- Laws of the table: where a row lies, that a new row takes no other's place, and that there is a free place where there is room.
use Rattle.std.specs.Prelude.{ℕ, zero, suc, ◌+◌, ◌-◌, ◌*◌, ◌/◌, ◌%◌, ◌≤◌, ◌<◌, Bool, true, false, List, [], ◌∷◌, ◌≡◌, refl, ltb, eqb, length, get_or, set}
use Rattle.std.proofs.Common.{ap, sym, subst, ◌∙◌, one-add, div-lt_iff_lt-mul, mod-lt, arith, length-set, ltb-true, ltb-false, eqb-true, lt-ltb, le-ltb, eq-eqb, ne_eqb}
use Rattle.std.proofs.Math.Nat.{div-add-mod}
use Rattle.choice.specs.Choice.{pick, both}
use Rattle.choice.specs.Places.{sum_to, all_below}
use Rattle.choice.specs.laws.Cases.{by_test, by_equal}
use Rattle.choice.specs.laws.ChoiceLaws.{both-on, both_first, both-second, set_ind}
use Rattle.choice.specs.laws.Stores.{sum_same, sum_least, sum_more, all-each, all-on}
use Rattle.table.specs.Table.{held_as, place_of, times, held_well, nothing_else, every_once, valid_table}

-- one where a test holds
abbrev pub once : Bool → ℕ
once t = pick t 1 0

pub once-on : (t : Bool) → t ≡ true → once t ≡ 1
once-on t e = rw e

pub once_off : (t : Bool) → t ≡ false → once t ≡ 0
once_off t e = rw e

-- what is held somewhere is held at its place
pub place_held : (x : ℕ) (held : List ℕ) → 1 ≤ times x held → (place_of x held < length held) × (get_or held (place_of x held) 0 ≡ x)
unfolding place_of times
place_held x [] h = absurd (omega arith)
place_held x (y ∷ held) h =
    by_test (eqb y x) (λ e. rw e (omega arith, eqb-true y x e))
    (λ e. let rest : (place_of x held < length held) × (get_or held (place_of x held) 0 ≡ x) = place_held x held (omega (arith, rw e at h)) in
    rw e (omega (arith, rest.0), rest.1))

-- a place's value changed, neither from x nor to x
pub place_else :
    (x y : ℕ) (held : List ℕ) (p : ℕ) → (get_or held p 0 ≡ x → ⊥) → (y ≡ x → ⊥) → place_of x (set held p y) ≡ place_of x held
unfolding place_of
place_else x y [] p was new = refl
place_else x y (z ∷ held) zero was new = rw (ne_eqb y x new, ne_eqb z x was)
place_else x y (z ∷ held) (suc p) was new = ap (λ k. pick (eqb z x) 0 (suc k)) (place_else x y held p was new)

-- x put where there was none
pub place-new : (x : ℕ) (held : List ℕ) (p : ℕ) → p < length held → times x held ≡ 0 → place_of x (set held p x) ≡ p
unfolding place_of times
place-new x [] p h none = absurd (omega arith)
place-new x (z ∷ held) zero h none = rw (eq-eqb x x refl)
place-new x (z ∷ held) (suc p) h none =
    by_test (eqb z x) (λ e. absurd (omega (arith, rw e at none)))
    (λ e. rw (e, place-new x held p (omega arith) (omega (arith, rw e at none))))

-- how often x is held, after a place's value was changed
pub times-set :
    (x y : ℕ) (held : List ℕ) (p : ℕ) → p < length held →
    times x (set held p y) + pick (eqb (get_or held p 0) x) 1 0 ≡ times x held + pick (eqb y x) 1 0
unfolding times
times-set x y [] p h = absurd (omega arith)
times-set x y (z ∷ held) zero h = omega arith
times-set x y (z ∷ held) (suc p) h = omega (arith, times-set x y held p (omega arith))

-- how many places hold a row below so many of competition c, and of the competitions below some number
rows_held : ℕ → ℕ → List ℕ → ℕ
rows_held rows c held = sum_to (λ k. times (held_as c k) held) rows

all_held : ℕ → ℕ → List ℕ → ℕ
all_held rows count held = sum_to (λ c. rows_held rows c held) count

-- a number of the table is 0 or some competition's
record Decoded (x : ℕ) : Type 0 where
  competition : ℕ
  row : ℕ
  competition-below : competition < 16
  row_below : row < 1024
  same : held_as competition row ≡ x

decoded : (x : ℕ) → (x ≡ 0 → ⊥) → x ≤ 1024 * 16 → Decoded x
unfolding held_as
decoded x some few =
    record {
      competition = (x - 1) / 1024;
      row = (x - 1) % 1024;
      competition-below = (div-lt_iff_lt-mul {k = 1024} (omega arith)).1 (omega arith);
      row_below = mod-lt (x - 1) (omega arith);
      same = omega (arith, div-add-mod (x - 1) 1024);
    }

-- every place is counted
all-counted :
    (held : List ℕ) → ((p : ℕ) → p < length held → get_or held p 0 ≤ 1024 * 16) → length held ≤ times 0 held + all_held 1024 16 held
unfolding times all_held rows_held
all-counted [] low = omega arith
all-counted (y ∷ held) low =
    let rest : length held ≤ times 0 held + all_held 1024 16 held = all-counted held (λ p h. low (suc p) (omega arith)) in
    let more : (x : ℕ) → times x held ≤ times x (y ∷ held) = λ x. omega arith in
    by_equal y 0
    (λ e. omega (arith, rest, ap once (eq-eqb y 0 e), sum_least _ _ 16 (λ c _. sum_least _ _ 1024 (λ k _. more (held_as c k)))))
    (λ e. let d : Decoded y = decoded y e (low 0 (omega arith)) in
    omega (
      arith,
      rest,
      more 0,
      sum_more (λ c. rows_held 1024 c held) (λ c. rows_held 1024 c (y ∷ held)) d.competition 16 d.competition-below (λ c _. sum_least _ _ 1024 (λ k _. more (held_as c k)))
          (sum_more _ _ d.row 1024 d.row_below (λ k _. more (held_as d.competition k)) (rw (eq-eqb y (held_as d.competition d.row) (sym d.same)) (omega arith))),
    ))

-- different rows are held as different numbers
pub held_some : (c k : ℕ) → held_as c k ≡ 0 → ⊥
unfolding held_as
held_some c k e = omega arith

held_low : (c k : ℕ) → c < 16 → k < 1024 → held_as c k ≤ 1024 * 16
unfolding held_as
held_low c k h l = omega arith

-- what a place holds is held
held_times : (held : List ℕ) (p : ℕ) → p < length held → 1 ≤ times (get_or held p 0) held
unfolding times
held_times [] p h = absurd (omega arith)
held_times (y ∷ held) zero h = rw (eq-eqb y y refl) (omega arith)
held_times (y ∷ held) (suc p) h = omega (arith, held_times held p (omega arith))

-- THE TABLE as it is used: 1,024 places; of each competition every row number below its count once, and no other; nothing else
pub record Tabled (rows : ℕ → ℕ) (held : List ℕ) : Type 0 where
  pub whole : length held ≡ 1024
  pub each : (c k : ℕ) → c < 16 → k < 1024 → times (held_as c k) held ≡ pick (ltb k (rows c)) 1 0
  pub low : (p : ℕ) → p < 1024 → get_or held p 0 ≤ 1024 * 16

-- a number that is held somewhere is held well
else_held : (rows : ℕ → ℕ) (x : ℕ) (held : List ℕ) → nothing_else rows held ≡ true → 1 ≤ times x held → held_well rows x ≡ true
unfolding nothing_else times
else_held rows x [] e h = absurd (omega arith)
else_held rows x (y ∷ held) e h =
    by_test (eqb y x) (λ q. ap (held_well rows) (sym (eqb-true y x q)) ∙ both_first (held_well rows y) (nothing_else rows held) e)
    (λ q. else_held rows x held (both-second (held_well rows y) (nothing_else rows held) e) (omega (arith, rw q at h)))

pub else_at : (rows : ℕ → ℕ) (held : List ℕ) → nothing_else rows held ≡ true → (p : ℕ) → p < length held → held_well rows (get_or held p 0) ≡ true
unfolding nothing_else
else_at rows [] e p h = absurd (omega arith)
else_at rows (y ∷ held) e zero h = both_first (held_well rows y) (nothing_else rows held) e
else_at rows (y ∷ held) e (suc p) h = else_at rows held (both-second (held_well rows y) (nothing_else rows held) e) p (omega arith)

pub else_on : (rows : ℕ → ℕ) (held : List ℕ) → ((p : ℕ) → p < length held → held_well rows (get_or held p 0) ≡ true) → nothing_else rows held ≡ true
unfolding nothing_else
else_on rows [] each = refl
else_on rows (y ∷ held) each =
    both-on (held_well rows y) (nothing_else rows held) (each 0 (omega arith)) (else_on rows held (λ p h. each (suc p) (omega arith)))

-- a competition's row as it is decoded
decodes : (c k : ℕ) → k < 1024 → ((1024 * c + k) / 1024 ≡ c) × ((1024 * c + k) % 1024 ≡ k)
decodes c k h =
    let less : (1024 * c + k) % 1024 < 1024 = mod-lt (1024 * c + k) (omega arith) in
    (omega (arith, div-add-mod (1024 * c + k) 1024, less), omega (arith, div-add-mod (1024 * c + k) 1024, less))

-- what is held well
well-is : (rows : ℕ → ℕ) (c k : ℕ) → k < 1024 → held_well rows (held_as c k) ≡ both (ltb c 16) (ltb k (rows c))
unfolding held_well held_as
well-is rows c k h =
    ap (held_well rows) (one-add (1024 * c + k))
    ∙ ap (λ q. both (ltb q 16) (ltb ((1024 * c + k) % 1024) (rows q))) (decodes c k h).0
    ∙ ap (λ q. both (ltb c 16) (ltb q (rows c))) (decodes c k h).1

well-row : (rows : ℕ → ℕ) (c k : ℕ) → k < 1024 → held_well rows (held_as c k) ≡ true → k < rows c
well-row rows c k h e = ltb-true k (rows c) (both-second (ltb c 16) (ltb k (rows c)) (sym (well-is rows c k h) ∙ e))

-- and what is held well is nothing or some competition's row
pub well-low : (rows : ℕ → ℕ) (x : ℕ) → held_well rows x ≡ true → x ≤ 1024 * 16
unfolding held_well
well-low rows zero e = omega arith
well-low rows (suc x) e =
    let less : x % 1024 < 1024 = mod-lt x (omega arith) in
    omega (arith, ltb-true (x / 1024) 16 (both_first (ltb (x / 1024) 16) (ltb (x % 1024) (rows (x / 1024))) e), div-add-mod x 1024, less)

pub tabled : (rows : ℕ → ℕ) (held : List ℕ) → length held ≡ 1024 → valid_table rows held ≡ true → Tabled rows held
unfolding valid_table every_once
tabled rows held whole e =
    let once-each : every_once rows held ≡ true = both_first (every_once rows held) (nothing_else rows held) e in
    let none_else : nothing_else rows held ≡ true = both-second (every_once rows held) (nothing_else rows held) e in
    record {
      whole = whole;
      each = λ c k h l.
          by_test (ltb k (rows c))
          (λ t. eqb-true (times (held_as c k) held) 1
          (all-each (λ j. eqb (times (held_as c j) held) 1) (rows c)
          (all-each (λ d. all_below (λ j. eqb (times (held_as d j) held) 1) (rows d)) 16 once-each c h) k (ltb-true k (rows c) t))
          ∙ sym (once-on (ltb k (rows c)) t))
          (λ f. let none : (1 ≤ times (held_as c k) held → ⊥) =
          λ some. omega (arith, well-row rows c k l (else_held rows (held_as c k) held none_else some), ltb-false k (rows c) f) in
          omega (arith, none, once_off (ltb k (rows c)) f));
      low = λ p h. well-low rows (get_or held p 0) (else_at rows held none_else p (subst (λ n. p < n) (sym whole) h));
    }

pub table-valid : (rows : ℕ → ℕ) (held : List ℕ) → ((c : ℕ) → c < 16 → rows c ≤ 1024) → Tabled rows held → valid_table rows held ≡ true
unfolding valid_table every_once held_well
table-valid rows held few t =
    both-on (every_once rows held) (nothing_else rows held)
    (all-on (λ c. all_below (λ k. eqb (times (held_as c k) held) 1) (rows c)) 16
    (λ c h. all-on (λ k. eqb (times (held_as c k) held) 1) (rows c)
    (λ k l. eq-eqb (times (held_as c k) held) 1 (t.each c k h (omega (arith, few c h, l)) ∙ once-on (ltb k (rows c)) (lt-ltb k (rows c) l)))))
    (else_on rows held
    (λ p h. by_equal (get_or held p 0) 0 (λ q. ap (held_well rows) q)
    (λ q. let d : Decoded (get_or held p 0) = decoded (get_or held p 0) q (t.low p (subst (λ n. p < n) t.whole h)) in
    let there : 1 ≤ times (held_as d.competition d.row) held = rw d.same (held_times held p h) in
    ap (held_well rows) (sym d.same) ∙ well-is rows d.competition d.row d.row_below
    ∙ both-on (ltb d.competition 16) (ltb d.row (rows d.competition)) (lt-ltb d.competition 16 d.competition-below)
    (lt-ltb d.row (rows d.competition) (below_rows d.competition d.row d.competition-below d.row_below there)))))
  where
    below_rows : (c k : ℕ) → c < 16 → k < 1024 → 1 ≤ times (held_as c k) held → k < rows c
    below_rows c k h l some =
        by_test (ltb k (rows c)) (λ y. ltb-true k (rows c) y) (λ n. absurd (omega (arith, t.each c k h l, once_off (ltb k (rows c)) n, some)))

-- the numbers below r, among those below n
below-count : (r n : ℕ) → (sum_to (λ k. pick (ltb k r) 1 0) n ≤ n) × (sum_to (λ k. pick (ltb k r) 1 0) n ≤ r)
unfolding sum_to
below-count r zero = (omega arith, omega arith)
below-count r (suc n) =
    let rest : (sum_to (λ k. pick (ltb k r) 1 0) n ≤ n) × (sum_to (λ k. pick (ltb k r) 1 0) n ≤ r) = below-count r n in
    by_test (ltb n r) (λ e. rw e (omega (arith, rest.0), omega (arith, rest.0, ltb-true n r e)))
    (λ e. rw e (omega (arith, rest.0), omega (arith, rest.1)))

-- A FREE PLACE where fewer than 1,024 rows are held in all
pub free-place :
    (rows : ℕ → ℕ) (held : List ℕ) → Tabled rows held → sum_to rows 16 < 1024 →
    (place_of 0 held < 1024) × (get_or held (place_of 0 held) 0 ≡ 0)
unfolding all_held rows_held
free-place rows held t few =
    let all : length held ≤ times 0 held + all_held 1024 16 held =
    all-counted held (λ p h. t.low p (subst (λ n. p < n) t.whole h)) in
    let most : all_held 1024 16 held ≤ sum_to rows 16 =
    sum_least (λ c. rows_held 1024 c held) rows 16
    (λ c h. subst (λ n. n ≤ rows c) (sym (sum_same (λ k. times (held_as c k) held) (λ k. pick (ltb k (rows c)) 1 0) 1024 (λ k l. t.each c k h l)))
    (below-count (rows c) 1024).1) in
    let there : (place_of 0 held < length held) × (get_or held (place_of 0 held) 0 ≡ 0) =
    place_held 0 held (omega (arith, all, most, t.whole, few)) in
    (subst (λ n. place_of 0 held < n) t.whole there.0, there.1)

-- WHERE A ROW LIES: somewhere, and the place holds it
pub row_place_lem :
    (rows : ℕ → ℕ) (held : List ℕ) → Tabled rows held → (c k : ℕ) → c < 16 → k < 1024 → k < rows c →
    (place_of (held_as c k) held < 1024) × (get_or held (place_of (held_as c k) held) 0 ≡ held_as c k)
row_place_lem rows held t c k h l there =
    let one : times (held_as c k) held ≡ 1 = t.each c k h l ∙ once-on (ltb k (rows c)) (lt-ltb k (rows c) there) in
    let found : (place_of (held_as c k) held < length held) × (get_or held (place_of (held_as c k) held) 0 ≡ held_as c k) =
    place_held (held_as c k) held (omega (arith, one)) in
    (subst (λ n. place_of (held_as c k) held < n) t.whole found.0, found.1)

pub held_same : (c d k j : ℕ) → k < 1024 → j < 1024 → held_as c k ≡ held_as d j → (c ≡ d) × (k ≡ j)
unfolding held_as
held_same c d k j h l e = (omega arith, omega arith)

-- THE TABLE AFTER A NEW ROW of competition c at a free place
pub table_kept :
    (rows now : ℕ → ℕ) (held : List ℕ) (c p : ℕ) → Tabled rows held → c < 16 → rows c < 1024 → p < 1024 → get_or held p 0 ≡ 0 →
    now c ≡ rows c + 1 → ((d : ℕ) → (d ≡ c → ⊥) → now d ≡ rows d) → Tabled now (set held p (held_as c (rows c)))
table_kept rows now held c p t below few inside empty grown others =
    record {
      whole = length-set held p (held_as c (rows c)) ∙ t.whole;
      each = each-now;
      low = λ q h.
          set_ind (λ x. x ≤ 1024 * 16) held p q (held_as c (rows c)) 0 (rw t.whole inside) (λ _. last) (λ _. t.low q h);
    }
  where
    last : held_as c (rows c) ≤ 1024 * 16
    last = held_low c (rows c) below few

    -- how often row k of competition d is held now
    changed-by :
        (d k : ℕ) →
        times (held_as d k) (set held p (held_as c (rows c))) ≡ times (held_as d k) held + pick (eqb (held_as c (rows c)) (held_as d k)) 1 0
    changed-by d k =
        let z : once (eqb (get_or held p 0) (held_as d k)) ≡ 0 =
        once_off (eqb (get_or held p 0) (held_as d k)) (ne_eqb (get_or held p 0) (held_as d k) (λ e. held_some d k (sym e ∙ empty))) in
        omega (arith, times-set (held_as d k) (held_as c (rows c)) held p (rw t.whole inside), z)

    each-now : (d k : ℕ) → d < 16 → k < 1024 → times (held_as d k) (set held p (held_as c (rows c))) ≡ pick (ltb k (now d)) 1 0
    each-now d k h l =
        by_equal d c
        (λ e. by_equal k (rows c)
        (λ q. changed-by d k
        ∙ omega (
          arith,
          t.each d k h l,
          once_off (ltb k (rows d)) (le-ltb k (rows d) (omega (arith, ap rows e))),
          once-on (eqb (held_as c (rows c)) (held_as d k)) (eq-eqb (held_as c (rows c)) (held_as d k) (ap (λ x. held_as x (rows c)) (sym e) ∙ ap (held_as d) (sym q))),
          once-on (ltb k (now d)) (lt-ltb k (now d) (omega (arith, grown, ap now e))),
        ))
        (λ q. stay d k h l (λ s. q (sym (held_same c d (rows c) k few l s).1))
        (by_test (ltb k (rows c))
        (λ y. ap (λ x. ltb k x) (ap rows e) ∙ y ∙ sym (lt-ltb k (now d) (omega (arith, grown, ap now e, ltb-true k (rows c) y))))
        (λ y. ap (λ x. ltb k x) (ap rows e) ∙ y ∙ sym (le-ltb k (now d) (omega (arith, grown, ap now e, ltb-false k (rows c) y, q)))))))
        (λ e. stay d k h l (λ s. e (sym (held_same c d (rows c) k few l s).0)) (ap (λ x. ltb k x) (sym (others d e))))
      where
        stay : (d k : ℕ) → d < 16 → k < 1024 → (held_as c (rows c) ≡ held_as d k → ⊥) → ltb k (rows d) ≡ ltb k (now d) →
            times (held_as d k) (set held p (held_as c (rows c))) ≡ pick (ltb k (now d)) 1 0
        stay d k h l other same =
            changed-by d k
            ∙ omega (
              arith,
              t.each d k h l,
              once_off (eqb (held_as c (rows c)) (held_as d k)) (ne_eqb (held_as c (rows c)) (held_as d k) other),
              ap once same,
            )
