-- Laws of the lines: what a valid vector's codes are.
use Rattle.std.specs.Prelude.{ℕ, zero, suc, ◌-◌, ◌≤◌, ◌<◌, true, List, ◌++◌, ◌≡◌, eqb, get_or}
use Rattle.std.proofs.Common.{arith, leb-true, lt-ltb, eq-eqb, ne_eqb}
use Rattle.choice.specs.Choice.{both}
use Rattle.choice.specs.laws.ChoiceLaws.{both_first, both-second}
use Rattle.choice.specs.laws.Cases.{by_equal}
use Rattle.text.specs.Text.{text, named}
use Rattle.weights.specs.Weights.{total_weight, largest_weight}
use Rattle.weights.specs.laws.WeightLaws.{weighed, rest-most}
use Rattle.vector.specs.Vector.{valid_entry, valid_entries, valid_vector}
use Rattle.site.specs.State.{state_of, code_of}
use Rattle.world.specs.declared.World.{World}
use Rattle.world.specs.Sizes.{max_news}
use Rattle.world.specs.Worlds.{site_of}
use Rattle.world.specs.Valid.{valid_group, valid_site, valid_world}
use Rattle.world.specs.laws.SizesLaws.{Sized}
use Rattle.world.specs.laws.WorldLaws.{valid_parts, valid-sized}
use Rattle.lines.specs.Lines.{last_line}

-- a valid entry below n is at most 5
entry-small : (n k code : ℕ) → k < n → valid_entry n k code ≡ true → code ≤ 5
unfolding valid_entry
entry-small n k code h e = leb-true code 5 (rw (lt-ltb k n h) at e)

entries-small : (n m : ℕ) (v : List ℕ) → valid_entries n m v ≡ true → (k : ℕ) → k < m → k < n → get_or v k 0 ≤ 5
unfolding valid_entries
entries-small n zero v e k h l = absurd (omega arith)
entries-small n (suc m) v e k h l =
    by_equal k m
    (λ q. rw q (entry-small n m (get_or v m 0) (omega arith) (both-second (valid_entries n m v) (valid_entry n m (get_or v m 0)) e)))
    (λ q. entries-small n m v (both_first (valid_entries n m v) (valid_entry n m (get_or v m 0)) e) k (omega arith) l)

-- a code of a valid vector is one digit
pub valid_code : (n : ℕ) (v : List ℕ) → valid_vector n v ≡ true → n ≤ 16 → (k : ℕ) → k < n → get_or v k 0 ≤ 5
unfolding valid_vector
valid_code n v e m k h = entries-small n 16 v e k (omega arith) h

-- the codes of a valid world's site
pub site-codes : (w : World) → valid_world w ≡ true → (k : ℕ) → k < w.n → valid_vector w.n (site_of w k).codes ≡ true
unfolding valid_site
site-codes w e k h =
    both_first (valid_vector w.n (site_of w k).codes)
    (both (eqb (get_or (site_of w k).codes k 0) (code_of (state_of (site_of w k))))
    (valid_group (site_of w k).group k w.n (site_of w k).joined)) ((valid_parts w e).sites k h)

-- the numbers of a valid world's sizes line
pub record SmallSizes (w : World) : Type 0 where
  pub sites-small : w.n ≤ 16
  pub commit-small : w.commit.0 ≤ 3825
  pub abort-small : w.abort.0 ≤ 3825
  pub rows-small : w.rows ≤ 1024
  pub news-small : w.news ≤ max_news

pub small-sizes : (w : World) → valid_world w ≡ true → SmallSizes w
small-sizes w e =
    let s : Sized w.n w.weights w.commit w.abort w.willing = valid-sized w e in
    let most : total_weight w.weights - largest_weight w.weights ≤ 3825 = rest-most w.n w.weights (weighed w.n w.weights s.weighed) in
    record {
      sites-small = s.high;
      commit-small = omega (arith, s.commit-most);
      abort-small = omega (arith, s.abort-most);
      rows-small = (valid_parts w e).rows;
      news-small = (valid_parts w e).news;
    }

-- the two last lines
pub last_end : (number place : ℕ) → number ≡ 0 → last_line number place ≡ named "end " place ++ text "\n"
unfolding last_line
last_end number place h = rw (eq-eqb number 0 h)

pub last-refused :
    (number place : ℕ) → (number ≡ 0 → ⊥) → last_line number place ≡ named "refused " number ++ named " at " place ++ text "\n"
unfolding last_line
last-refused number place h = rw (ne_eqb number 0 h)
