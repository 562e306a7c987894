-- Laws of a list with a value stored at each of its first places, of a sum over places and of a test at each: what loops over a list leave.
use Rattle.std.specs.Prelude.{ℕ, zero, suc, ◌+◌, ◌*◌, ◌-◌, ◌++◌, drop, ltb, ◌≤◌, ◌<◌, Bool, true, false, List, ◌≡◌, refl, length, get_or, set}
use Rattle.std.proofs.lemmas.Bool.{false≢true}
use Rattle.std.proofs.lemmas.Grind.{same_number_lists}
use Rattle.std.proofs.Math.ListN.{get_or-append}
use Rattle.std.proofs.lemmas.List.{get_or-append-add, get_or-drop}
use Rattle.std.proofs.Common.{ap, sym, ◌∙◌, suc-mul, arith, ltb-true, ltb-false, length-append, length-drop, length-set, get_or-set_same, get_or-set_other}
use Rattle.std.proofs.Math.Seq.{set_out}
use Rattle.choice.specs.Choice.{both}
use Rattle.choice.specs.laws.Cases.{by_test, by_equal}
use Rattle.choice.specs.Places.{sum_to, all_below, stored_to}
use Rattle.choice.specs.laws.ChoiceLaws.{both-on, both_first, both-second}

-- one more
pub stored_on :
    (f : ℕ → ℕ) (k x : ℕ) (l now : List ℕ) → now ≡ stored_to f k l → x ≡ f k → set now k x ≡ stored_to f (suc k) l
unfolding stored_to
stored_on f k x l now e q = rw (e, q)

pub stored_length : (f : ℕ → ℕ) (k : ℕ) (l : List ℕ) → length (stored_to f k l) ≡ length l
unfolding stored_to
stored_length f zero l = refl
stored_length f (suc k) l = simp length-set (stored_length f k l)

pub stored_else : (f : ℕ → ℕ) (k : ℕ) (l : List ℕ) (i : ℕ) → k ≤ i → get_or (stored_to f k l) i 0 ≡ get_or l i 0
unfolding stored_to
stored_else f zero l i h = refl
stored_else f (suc k) l i h =
    get_or-set_other (stored_to f k l) k i (f k) 0 (omega arith) ∙ stored_else f k l i (omega arith)

pub stored_at : (f : ℕ → ℕ) (k : ℕ) (l : List ℕ) (i : ℕ) → i < k → i < length l → get_or (stored_to f k l) i 0 ≡ f i
unfolding stored_to
stored_at f zero l i h room = absurd (omega arith)
stored_at f (suc k) l i h room =
    by_equal i k
    (λ e. ap (λ j. get_or (set (stored_to f k l) k (f k)) j 0) e
    ∙ get_or-set_same (stored_to f k l) k (f k) 0 (rw stored_length (omega arith)) ∙ ap f (sym e))
    (λ e. get_or-set_other (stored_to f k l) k i (f k) 0 e ∙ stored_at f k l i (omega arith) room)

-- values that are the same below k are stored the same
pub stored_same :
    (f g : ℕ → ℕ) (k : ℕ) (l : List ℕ) → ((i : ℕ) → i < k → f i ≡ g i) → stored_to f k l ≡ stored_to g k l
unfolding stored_to
stored_same f g zero l each = refl
stored_same f g (suc k) l each =
    ap (λ m. set m k (f k)) (stored_same f g k l (λ i h. each i (omega arith)))
    ∙ ap (λ x. set (stored_to g k l) k x) (each k (omega arith))

-- places past the list's end hold nothing
pub stored_past : (f : ℕ → ℕ) (k : ℕ) (l : List ℕ) → length l ≤ k → stored_to f k l ≡ stored_to f (length l) l
unfolding stored_to
stored_past f zero l past = let e : 0 ≡ length l = omega arith in ap (λ n. stored_to f n l) e
stored_past f (suc k) l past =
    by_equal (length l) (suc k) (λ e. ap (λ n. stored_to f n l) (sym e))
    (λ e. set_out (stored_to f k l) k (f k) (rw stored_length (omega arith)) ∙ stored_past f k l (omega arith))

-- and a list whose values are f's, followed by the rest, is what storing makes
pub stored_before :
    (f : ℕ → ℕ) (k : ℕ) (l now : List ℕ) → length now ≡ k → ((i : ℕ) → i < k → get_or now i 0 ≡ f i) → k ≤ length l →
    now ++ drop k l ≡ stored_to f k l
stored_before f k l now size each room =
    same_number_lists (now ++ drop k l) (stored_to f k l)
    (length-append now (drop k l) ∙ rw (length-drop k l, stored_length f k l) (omega arith))
    (λ i h. by_test (ltb i k)
    (λ e. let below : i < k = ltb-true i k e in
    get_or-append now (drop k l) 0 i (omega arith) ∙ each i below ∙ sym (stored_at f k l i below (omega arith)))
    (λ e. let past : k ≤ i = ltb-false i k e in
    let at_end : length now + (i - k) ≡ i = omega arith in
    let in_list : k + (i - k) ≡ i = omega arith in
    ap (λ j. get_or (now ++ drop k l) j 0) (sym at_end) ∙ get_or-append-add now (drop k l) (i - k) 0 ∙ get_or-drop k l (i - k) 0
    ∙ ap (λ j. get_or l j 0) in_list ∙ sym (stored_else f k l i past)))

pub sum_same : (f g : ℕ → ℕ) (k : ℕ) → ((i : ℕ) → i < k → f i ≡ g i) → sum_to f k ≡ sum_to g k
unfolding sum_to
sum_same f g zero each = refl
sum_same f g (suc k) each = omega (arith, sum_same f g k (λ i h. each i (omega arith)), each k (omega arith))

-- a sum that is no less at each place, and one that is also more at some place
pub sum_least : (f g : ℕ → ℕ) (k : ℕ) → ((i : ℕ) → i < k → f i ≤ g i) → sum_to f k ≤ sum_to g k
unfolding sum_to
sum_least f g zero each = omega arith
sum_least f g (suc k) each = omega (arith, sum_least f g k (λ i h. each i (omega arith)), each k (omega arith))

pub sum_more : (f g : ℕ → ℕ) (i k : ℕ) → i < k → ((j : ℕ) → j < k → f j ≤ g j) → f i < g i → sum_to f k < sum_to g k
unfolding sum_to
sum_more f g i zero h each more = absurd (omega arith)
sum_more f g i (suc k) h each more =
    by_equal i k (λ e. omega (arith, sum_least f g k (λ j l. each j (omega arith)), ap f e, ap g e, more))
    (λ e. omega (arith, sum_more f g i k (omega arith) (λ j l. each j (omega arith)) more, each k (omega arith)))

-- two sums that differ at one place
pub sum_but :
    (f g : ℕ → ℕ) (i k : ℕ) → i < k → ((j : ℕ) → j < k → (j ≡ i → ⊥) → f j ≡ g j) → sum_to f k + g i ≡ sum_to g k + f i
unfolding sum_to
sum_but f g i zero inside there = absurd (omega arith)
sum_but f g i (suc k) inside there =
    by_equal i k
    (λ e. omega (arith, sum_same f g k (λ j h. there j (omega arith) (λ q. omega arith)), ap f e, ap g e))
    (λ e. omega (arith, sum_but f g i k (omega arith) (λ j h. there j (omega arith)), there k (omega arith) (λ q. e (sym q))))

-- the sum of one number, k times
pub sum_times : (x k : ℕ) → sum_to (λ _. x) k ≡ k * x
unfolding sum_to
sum_times x zero = omega arith
sum_times x (suc k) = omega (arith, sum_times x k, suc-mul k x)

-- a sum over places beyond which there is nothing
pub sum_cut : (f : ℕ → ℕ) (n k : ℕ) → n ≤ k → ((i : ℕ) → n ≤ i → i < k → f i ≡ 0) → sum_to f k ≡ sum_to f n
unfolding sum_to
sum_cut f n zero h none = let e : 0 ≡ n = omega arith in ap (sum_to f) e
sum_cut f n (suc k) h none =
    by_equal n (suc k) (λ e. ap (sum_to f) (sym e))
    (λ e. omega (arith, sum_cut f n k (omega arith) (λ i p q. none i p (omega arith)), none k (omega arith) (omega arith)))

-- a test that holds at each place, place by place
pub all-each : (test : ℕ → Bool) (k : ℕ) → all_below test k ≡ true → (i : ℕ) → i < k → test i ≡ true
unfolding all_below
all-each test zero e i h = absurd (omega arith)
all-each test (suc k) e i h =
    by_equal i k (λ q. ap test q ∙ both-second (all_below test k) (test k) e)
    (λ q. all-each test k (both_first (all_below test k) (test k) e) i (omega arith))

pub all-on : (test : ℕ → Bool) (k : ℕ) → ((i : ℕ) → i < k → test i ≡ true) → all_below test k ≡ true
unfolding all_below
all-on test zero each = refl
all-on test (suc k) each =
    both-on (all_below test k) (test k) (all-on test k (λ i h. each i (omega arith))) (each k (omega arith))

-- a test that fails at one place
pub all_not : (test : ℕ → Bool) (k i : ℕ) → i < k → test i ≡ false → all_below test k ≡ false
all_not test k i h e =
    by_test (all_below test k) (λ t. absurd (false≢true (sym e ∙ all-each test k t i h))) (λ f. f)

-- tests that agree below k
pub all_same : (f g : ℕ → Bool) (k : ℕ) → ((i : ℕ) → i < k → f i ≡ g i) → all_below f k ≡ all_below g k
unfolding all_below
all_same f g zero each = refl
all_same f g (suc k) each =
    ap (λ t. both t (f k)) (all_same f g k (λ i h. each i (omega arith))) ∙ ap (both (all_below g k)) (each k (omega arith))
