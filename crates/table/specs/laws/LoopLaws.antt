-- What loops over the table need: how a scan finds a place, and how 17's check is made in one pass with marks.
use Rattle.std.specs.Prelude.{ℕ, zero, suc, ◌+◌, ◌-◌, ◌*◌, ◌/◌, ◌%◌, ◌≤◌, ◌<◌, Bool, true, false, List, [], ◌∷◌, ◌++◌, ◌≡◌, refl, ltb, eqb, length, get_or, set, take, drop, replicate}
use Rattle.std.proofs.lemmas.Bool.{false≢true, eqb-false}
use Rattle.std.proofs.Common.{ap, sym, ◌∙◌, one-add, arith, length-set, take-append-drop, take-suc, get_or-set_same, get_or-set_other, ltb-true, eqb-true, eq-eqb, ne_eqb}
use Rattle.std.proofs.Math.Nat.{div-add-mod}
use Rattle.std.proofs.lemmas.List.{length-replicate, get_or-replicate}
use Rattle.std.proofs.Math.Seq.{take-length}
use Rattle.choice.specs.Choice.{pick, both}
use Rattle.choice.specs.Places.{all_below}
use Rattle.choice.specs.laws.Cases.{by_test, by_equal}
use Rattle.choice.specs.laws.ChoiceLaws.{both_first, both-second}
use Rattle.choice.specs.laws.Stores.{all-each, all_same}
use Rattle.table.specs.Table.{held_as, place_of, times, held_well, nothing_else, every_once, valid_table}
use Rattle.table.specs.laws.Marks.{is_new, with_mark, rows_marked, all_marked}
use Rattle.table.specs.laws.TableLaws.{once-on, once_off, else_at, else_on, well-low}

-- A SCAN: nothing found below q, and x there. With a hint below which every place is held, it begins at the hint
pub scan_finds :
    (x : ℕ) (held : List ℕ) (q : ℕ) → ((p : ℕ) → p < q → get_or held p 0 ≡ x → ⊥) → q < length held → get_or held q 0 ≡ x → place_of x held ≡ q
unfolding place_of
scan_finds x [] q below inside here = absurd (omega arith)
scan_finds x (y ∷ held) zero below inside here = rw (eq-eqb y x here)
scan_finds x (y ∷ held) (suc q) below inside here =
    rw (ne_eqb y x (below 0 (omega arith)), scan_finds x held q (λ p h. below (suc p) (omega arith)) (omega arith) here)

pub scan_fails : (x : ℕ) (held : List ℕ) → ((p : ℕ) → p < length held → get_or held p 0 ≡ x → ⊥) → place_of x held ≡ length held
unfolding place_of
scan_fails x [] none = refl
scan_fails x (y ∷ held) none = rw (ne_eqb y x (none 0 (omega arith)), scan_fails x held (λ p h. none (suc p) (omega arith)))

-- MARKS. After the first i places each number but 0 is marked as often as it is held there, at most once, and all of it is held well
times-append : (x : ℕ) (l m : List ℕ) → times x (l ++ m) ≡ times x l + times x m
unfolding times
times-append x [] m = omega arith
times-append x (y ∷ l) m = omega (arith, times-append x l m)

times-next : (x : ℕ) (held : List ℕ) (i : ℕ) → i < length held → times x (take (suc i) held) ≡ times x (take i held) + pick (eqb (get_or held i 0) x) 1 0
unfolding times
times-next x held i h = ap (times x) (take-suc held i 0 h) ∙ times-append x (take i held) (get_or held i 0 ∷ []) ∙ omega arith

pub record Marked (rows : ℕ → ℕ) (held marks : List ℕ) (i : ℕ) : Type 0 where
  pub marks_are : (x : ℕ) → x < 16384 → get_or marks x 0 ≡ times (suc x) (take i held)
  pub at_most-once : (x : ℕ) → x < 16384 → get_or marks x 0 ≤ 1
  pub well : (p : ℕ) → p < i → held_well rows (get_or held p 0) ≡ true
  pub whole : length marks ≡ 16384

module _ (rows : ℕ → ℕ) (held marks : List ℕ) (i : ℕ) (m : Marked rows held marks i) (inside : i < length held) where
  well-next : held_well rows (get_or held i 0) ≡ true → (p : ℕ) → p < suc i → held_well rows (get_or held p 0) ≡ true
  well-next e p h = by_equal p i (λ q. ap (λ n. held_well rows (get_or held n 0)) q ∙ e) (λ q. m.well p (omega arith))

  -- a free place
  mark-free : get_or held i 0 ≡ 0 → Marked rows held marks (suc i)
  unfolding held_well
  mark-free e =
      record {
        marks_are = λ x h. m.marks_are x h
            ∙ omega (arith, times-next (suc x) held i inside, once_off (eqb (get_or held i 0) (suc x)) (ne_eqb (get_or held i 0) (suc x) (λ q. omega (arith, q, e))));
        at_most-once = m.at_most-once;
        well = well-next (ap (held_well rows) e);
        whole = m.whole;
      }

  -- a row that is held well and not marked yet
  mark-one : (y : ℕ) → get_or held i 0 ≡ suc y → held_well rows (suc y) ≡ true → y < 16384 → get_or marks y 0 ≡ 0 → Marked rows held (set marks y 1) (suc i)
  mark-one y e good low none =
      record {
        marks_are = λ x h.
            by_equal x y
            (λ q. ap (λ z. get_or (set marks y 1) z 0) q ∙ get_or-set_same marks y 1 0 (rw m.whole low)
            ∙ omega (
              arith,
              times-next (suc x) held i inside,
              m.marks_are x h,
              none,
              ap (λ z. get_or marks z 0) q,
              once-on (eqb (get_or held i 0) (suc x)) (eq-eqb (get_or held i 0) (suc x) (e ∙ ap suc (sym q))),
            ))
            (λ q. get_or-set_other marks y x 1 0 q ∙ m.marks_are x h
            ∙ omega (arith, times-next (suc x) held i inside, once_off (eqb (get_or held i 0) (suc x)) (ne_eqb (get_or held i 0) (suc x) (λ z. q (omega (arith, z, e))))));
        at_most-once = λ x h.
            by_equal x y (λ q. omega (arith, ap (λ z. get_or (set marks y 1) z 0) q ∙ get_or-set_same marks y 1 0 (rw m.whole low)))
            (λ q. omega (arith, get_or-set_other marks y x 1 0 q, m.at_most-once x h));
        well = well-next (ap (held_well rows) e ∙ good);
        whole = length-set marks y 1 ∙ m.whole;
      }

-- refused in the pass: a place that is not held well, or a second mark
pass_bad : (rows : ℕ → ℕ) (held : List ℕ) (i : ℕ) → i < length held → held_well rows (get_or held i 0) ≡ false → valid_table rows held ≡ false
unfolding valid_table
pass_bad rows held i inside e =
    by_test (valid_table rows held)
    (λ t. absurd (false≢true (sym e ∙ else_at rows held (both-second (every_once rows held) (nothing_else rows held) t) i inside)))
    (λ f. f)

-- a number is held no less often in all places than in the first ones
times-take : (x : ℕ) (held : List ℕ) (i : ℕ) → times x (take i held) ≤ times x held
times-take x held i = omega (arith, times-append x (take i held) (drop i held), ap (times x) (take-append-drop i held))

pass-twice :
    (rows : ℕ → ℕ) (held marks : List ℕ) (i y : ℕ) → Marked rows held marks i → i < length held → get_or held i 0 ≡ suc y → held_well rows (suc y) ≡ true →
    y < 16384 → get_or marks y 0 ≡ 1 → valid_table rows held ≡ false
unfolding valid_table every_once held_well held_as
pass-twice rows held marks i y m inside here good low marked =
    let twice : 2 ≤ times (suc y) held =
    omega (
      arith,
      times-take (suc y) held (suc i),
      times-next (suc y) held i inside,
      m.marks_are y low,
      marked,
      once-on (eqb (get_or held i 0) (suc y)) (eq-eqb (get_or held i 0) (suc y) here),
    ) in
    let code : 1 + (1024 * (y / 1024) + y % 1024) ≡ suc y = omega (arith, div-add-mod y 1024) in
    by_test (every_once rows held)
    (λ t. absurd (omega (
      arith,
      twice,
      ap (λ x. times x held) code,
      eqb-true (times (1 + (1024 * (y / 1024) + y % 1024)) held) 1
          (all-each (λ j. eqb (times (held_as (y / 1024) j) held) 1) (rows (y / 1024))
          (all-each (λ d. all_below (λ j. eqb (times (held_as d j) held) 1) (rows d)) 16 t (y / 1024)
          (ltb-true (y / 1024) 16 (both_first (ltb (y / 1024) 16) (ltb (y % 1024) (rows (y / 1024))) good)))
          (y % 1024) (ltb-true (y % 1024) (rows (y / 1024)) (both-second (ltb (y / 1024) 16) (ltb (y % 1024) (rows (y / 1024))) good))),
    )))
    (λ f. ap (λ t. both t (nothing_else rows held)) f)

-- A TURN of the pass at a place that is not free: what it asks, and what it marks
pub new_row :
    (rows : ℕ → ℕ) (marks : List ℕ) (x : ℕ) → (x ≡ 0 → ⊥) →
    is_new rows marks x
    ≡ both (both (ltb ((x - 1) / 1024) 16) (ltb ((x - 1) % 1024) (rows ((x - 1) / 1024)))) (eqb (get_or marks (x - 1) 0) 0)
unfolding is_new held_well
new_row rows marks zero some = absurd (some refl)
new_row rows marks (suc y) some = let e : suc y - 1 ≡ y = omega arith in rw e

pub mark-row : (marks : List ℕ) (x : ℕ) → (x ≡ 0 → ⊥) → with_mark marks x ≡ set marks (x - 1) 1
unfolding with_mark
mark-row marks zero some = absurd (some refl)
mark-row marks (suc y) some = let e : suc y - 1 ≡ y = omega arith in rw e

-- a turn at any place goes on
pub mark_on :
    (rows : ℕ → ℕ) (held marks : List ℕ) (i x : ℕ) → Marked rows held marks i → i < length held → get_or held i 0 ≡ x →
    is_new rows marks x ≡ true → Marked rows held (with_mark marks x) (suc i)
unfolding is_new with_mark
mark_on rows held marks i zero m inside here new = mark-free rows held marks i m inside here
mark_on rows held marks i (suc y) m inside here new =
    let good : held_well rows (suc y) ≡ true = both_first (held_well rows (suc y)) (eqb (get_or marks y 0) 0) new in
    mark-one rows held marks i m inside y here good (omega (arith, well-low rows (suc y) good))
    (eqb-true (get_or marks y 0) 0 (both-second (held_well rows (suc y)) (eqb (get_or marks y 0) 0) new))

-- or refuses
pub mark_fails :
    (rows : ℕ → ℕ) (held marks : List ℕ) (i x : ℕ) → Marked rows held marks i → i < length held → get_or held i 0 ≡ x →
    is_new rows marks x ≡ false → valid_table rows held ≡ false
unfolding is_new
mark_fails rows held marks i zero m inside here new = absurd (false≢true (sym new))
mark_fails rows held marks i (suc y) m inside here new =
    by_test (held_well rows (suc y))
    (λ good. let low : y < 16384 = omega (arith, well-low rows (suc y) good) in
    let some : eqb (get_or marks y 0) 0 ≡ false = rw good at new in
    pass-twice rows held marks i y m inside here good low (omega (arith, m.at_most-once y low, eqb-false (get_or marks y 0) 0 some)))
    (λ bad. pass_bad rows held i inside (ap (held_well rows) here ∙ bad))

-- before the pass no number is marked
pub none_marked : (rows : ℕ → ℕ) (held marks : List ℕ) → marks ≡ replicate 16384 0 → Marked rows held marks 0
unfolding times
none_marked rows held marks e =
    record {
      marks_are = λ x h. none x h;
      at_most-once = λ x h. omega (arith, none x h);
      well = λ p h. absurd (omega arith);
      whole = ap length e ∙ length-replicate {A = ℕ} 16384 0;
    }
  where
    none : (x : ℕ) → x < 16384 → get_or marks x 0 ≡ 0
    none x h = ap (λ l. get_or l x 0) e ∙ get_or-replicate {A = ℕ} 16384 x 0 0 h

-- the pass is over: what is left to ask is that every row is marked
pub marks_decide :
    (rows : ℕ → ℕ) (held marks : List ℕ) → ((c : ℕ) → c < 16 → rows c ≤ 1024) → Marked rows held marks (length held) →
    valid_table rows held ≡ all_marked rows marks
unfolding valid_table every_once held_as rows_marked all_marked
marks_decide rows held marks few m =
    ap (both (every_once rows held)) (else_on rows held m.well) ∙ both_true (every_once rows held)
    ∙ all_same _ _ 16 (λ c h. all_same _ _ (rows c) (λ k l. ap (λ t. eqb t 1) (as-often c k (omega (arith, few c h, h, l)))))
  where
    both_true : (t : Bool) → both t true ≡ t
    both_true true = refl
    both_true false = refl

    as-often : (c k : ℕ) → 1024 * c + k < 16384 → times (1 + (1024 * c + k)) held ≡ get_or marks (1024 * c + k) 0
    as-often c k h =
        ap (λ x. times x held) (one-add (1024 * c + k)) ∙ sym (ap (times (suc (1024 * c + k))) (take-length held))
        ∙ sym (m.marks_are (1024 * c + k) h)
