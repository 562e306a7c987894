-- Worlds in which the rounds go on: what is seen of them, that it only grows, and that an accepted move leaves such a world again.
use Rattle.std.specs.Prelude.{ℕ, ◌+◌, ◌-◌, ◌*◌, ◌≤◌, ◌<◌, true, List, ◌++◌, ◌≡◌, refl, length}
use Rattle.std.proofs.Math.Path.{ap, sym, subst}
use Rattle.std.proofs.Common.{◌∙◌}
use native.Mathlib.Omega.{arith}
use Rattle.std.proofs.Math.ListN.{get_or}
use borrow.Author.Tests.{lt-ltb, le-leb, eq-eqb, ne_eqb}
use Rattle.choice.specs.laws.Cases.{by_equal}
use Rattle.row.specs.declared.Row.{Row}
use Rattle.row.specs.Rows.{get_row, row_place}
use Rattle.row.specs.laws.RowLaws.{get_row-same}
use Rattle.site.specs.State.{state_of}
use Rattle.site.specs.Records.{Written}
use Rattle.rules.specs.Rules.{Move}
use Rattle.world.specs.declared.World.{World}
use Rattle.world.specs.Sizes.{max_rows, max_news, store_bytes}
use Rattle.world.specs.Worlds.{site_of, with_site, with_rows, with_news}
use Rattle.world.specs.Valid.{valid_world}
use Rattle.world.specs.laws.WorldLaws.{valid-sized, put_ind}
use Rattle.play.specs.Calls.{Call, put_back, enter_silent, enter_row, within_news, enter}
use Rattle.play.specs.Commands.{one_command}
use Rattle.safety.specs.Claims.{Shaped, Kept}
use Rattle.history.proofs.laws.HistoryLaws.{grown_append}
use Rattle.history.proofs.laws.TruthLaws.{says}
use Rattle.safety.proofs.laws.Invariant.{Invariant, call_keeps}
use Rattle.safety.proofs.laws.ViewLaws.{view}
use Rattle.safety.proofs.laws.Unchanging.{other-site, accepted_keeps_the_rest}
use Rattle.safety.proofs.laws.Shape.{shaped-kept}
use Rattle.safety.proofs.laws.Validity.{valid-stays-valid}
use Rattle.termination.proofs.laws.Known.{known, known_in, known-room, known-moved}
use Rattle.termination.proofs.laws.Codes.{Rises, rises-none, rises-then, state-rises}
use Rattle.termination.proofs.laws.Timeouts.{code_in}

-- WHAT IS SEEN of a world: the code of each site's state, and each entry; and whether a site leads
abbrev pub code_at : World → ℕ → ℕ
code_at w j = code_in (site_of w j)

abbrev pub entry_at : World → ℕ → ℕ → ℕ
entry_at w j k = get_or (site_of w j).codes k 0

-- of the same sizes as the world `o` from which the rounds set out
pub record SameSizes (o w : World) : Type 0 where
  pub same-n : w.n ≡ o.n
  pub same_weights_lem : w.weights ≡ o.weights
  pub same-commit : w.commit ≡ o.commit
  pub same-abort : w.abort ≡ o.abort

-- a world and a store with which the rounds go on: a history bears them out, they meet neither 16 nor 17, all sites are up, and with what there is left
-- to know the news does not pass its limit
pub record Fine (o w : World) (store : List ℕ) : Type 0 where
  pub sizes : SameSizes o w
  pub history : List Written
  pub inv : Invariant w store history
  pub shaped : Shaped w
  pub valid : valid_world w ≡ true
  pub room : store_bytes ≤ length store
  pub up : (j : ℕ) → j < o.n → (site_of w j).up ≡ true
  pub low : w.news + 3 * (o.n * (o.n - 1)) ≤ max_news + known_in o.n w

pub few : (o w : World) (store : List ℕ) → Fine o w store → o.n ≤ 16
few o w store fine = omega (arith, valid-sized w fine.valid, fine.sizes)

-- what is seen only grows
pub record Grows (o w v : World) : Type 0 where
  pub codes : (j : ℕ) → j < o.n → Rises (code_at w j) (code_at v j)
  pub entries : (j k : ℕ) → j < o.n → k < o.n → (k ≡ j → ⊥) → entry_at w j k ≤ entry_at v j k
  pub roles : (j : ℕ) → j < o.n → (site_of w j).coordinator ≡ true → (site_of v j).coordinator ≡ true

pub grows_none : (o w : World) → Grows o w w
grows_none o w = record { codes = λ j _. rises-none (code_at w j); entries = λ j k _ _ _. omega arith; roles = λ j _ e. e }

pub grows_then : {o : World} (u v w : World) → Grows o u v → Grows o v w → Grows o u w
grows_then u v w p q =
    record {
      codes = λ j h. rises-then (code_at u j) (code_at v j) (code_at w j) (p.codes j h) (q.codes j h);
      entries = λ j k h l other. omega (arith, p.entries j k h l other, q.entries j k h l other);
      roles = λ j h e. q.roles j h (p.roles j h e);
    }

-- a row that reads back as it was written
pub record RowFits (r : Row) : Type 0 where
  pub sender : r.sender < 256
  pub destinations : r.destinations < 65536
  pub long : length r.codes ≡ 16

-- WHAT AN ACCEPTED MOVE of site `own` leaves
pub record Went (o w : World) (store : List ℕ) (own : ℕ) (m : Move) (c : Call) : Type 0 where
  pub accepted : c.number ≡ 0
  pub fine : Fine o c.world c.store
  pub grows : Grows o w c.world
  pub site : site_of c.world own ≡ m.step.site
  pub others : (j : ℕ) → (j ≡ own → ⊥) → site_of c.world j ≡ site_of w j
  pub silent : m.step.row.kind ≡ 0 → c.world.rows ≡ w.rows
  pub sent : (m.step.row.kind ≡ 0 → ⊥) → c.world.rows ≡ w.rows + 1
  pub reads : (m.step.row.kind ≡ 0 → ⊥) → RowFits m.step.row → get_row c.store w.rows ≡ m.step.row
  pub rows_stay : (k : ℕ) → k < w.rows → get_row c.store k ≡ get_row store k

-- a move that is entered
module _ (o w : World) (store : List ℕ) (fine : Fine o w store) (list : List ℕ) (at next own : ℕ) (m : Move) (below : own < o.n)
    (same : one_command w store list at ≡ enter w store at next own m) (free : (m.step.row.kind ≡ 0 → ⊥) → w.rows < max_rows)
    (tells : m.step.news + known own (site_of w own).codes o.n ≤ known own m.step.site.codes o.n) where
  abbrev call : Call
  call = one_command w store list at

  -- what it tells was not known before
  low : w.news + m.step.news ≤ max_news
  low = omega (arith, fine.low, tells, known-room o.n own w m.step.site.codes below)

  by-silent : m.step.row.kind ≡ 0 → enter w store at next own m ≡ enter_silent w store next own m
  unfolding enter within_news
  by-silent e = rw (eq-eqb m.step.row.kind 0 e, le-leb (w.news + m.step.news) max_news low)

  by_row : (m.step.row.kind ≡ 0 → ⊥) → enter w store at next own m ≡ enter_row w store next own m
  unfolding enter within_news
  by_row e = rw (ne_eqb m.step.row.kind 0 e, lt-ltb w.rows max_rows (free e), le-leb (w.news + m.step.news) max_news low)

  entered : (P : Call → Type 0) → (m.step.row.kind ≡ 0 → P (enter_silent w store next own m)) →
      ((m.step.row.kind ≡ 0 → ⊥) → P (enter_row w store next own m)) → P call
  entered P f g =
      subst P (sym same)
      (by_equal m.step.row.kind 0 (λ e. subst P (sym (by-silent e)) (f e)) (λ e. subst P (sym (by_row e)) (g e)))

  is-accepted : call.number ≡ 0
  unfolding enter_silent enter_row
  is-accepted = entered (λ c. c.number ≡ 0) (λ _. refl) (λ _. refl)

  inside : own < length w.sites
  inside = omega (arith, fine.shaped.sites, few o w store fine, below)

  put-own : site_of (with_site own m.step.site w) own ≡ m.step.site
  put-own = put_ind (λ s. s ≡ m.step.site) w own m.step.site own inside (λ _. refl) (λ other. absurd (other refl))

  own-site : site_of call.world own ≡ m.step.site
  unfolding enter_silent enter_row put_back with_rows with_news site_of
  own-site = entered (λ c. site_of c.world own ≡ m.step.site) (λ _. put-own) (λ _. put-own)

  other_sites_lem : (j : ℕ) → (j ≡ own → ⊥) → site_of call.world j ≡ site_of w j
  unfolding enter_silent enter_row put_back with_rows with_news site_of
  other_sites_lem j other =
      entered (λ c. site_of c.world j ≡ site_of w j)
      (λ _. other-site w own j m.step.site other) (λ _. other-site w own j m.step.site other)

  kept : Kept w store call
  kept = accepted_keeps_the_rest w store list at is-accepted

  abbrev after : List Written
  after = fine.history ++ call.records

  still_true : Invariant call.world call.store after
  still_true = call_keeps w store fine.history fine.inv call (view w store list at)

  kept-news : call.world.news ≡ w.news + m.step.news
  unfolding enter_silent enter_row put_back with_site with_rows with_news
  kept-news = entered (λ c. c.world.news ≡ w.news + m.step.news) (λ _. refl) (λ _. refl)

  -- the history bears out that codes only rise
  code_rises : (j : ℕ) → j < o.n → Rises (code_at w j) (code_at call.world j)
  code_rises j h =
      state-rises j after (still_true.history.each j).one-group (still_true.history.each j).one-outcome fine.history
      (grown_append fine.history call.records) (state_of (site_of w j)) (state_of (site_of call.world j))
      (says (fine.inv.sites j (omega (arith, h, fine.sizes)))) (says (still_true.sites j (omega (arith, h, fine.sizes, kept))))

  pub went :
      m.step.site.up ≡ (site_of w own).up → ((site_of w own).coordinator ≡ true → m.step.site.coordinator ≡ true) →
      ((k : ℕ) → k < o.n → (k ≡ own → ⊥) → entry_at w own k ≤ get_or m.step.site.codes k 0) → Went o w store own m call
  unfolding enter_silent enter_row put_back with_site with_rows with_news row_place
  went up role entries =
      record {
        accepted = is-accepted;
        fine =
            record {
              sizes =
                  record {
                    same-n = kept.same-n ∙ fine.sizes.same-n;
                    same_weights_lem = kept.same_weights_lem ∙ fine.sizes.same_weights_lem;
                    same-commit = kept.same-commit ∙ fine.sizes.same-commit;
                    same-abort = kept.same-abort ∙ fine.sizes.same-abort;
                  };
              history = after;
              inv = still_true;
              shaped = shaped-kept w store list at fine.shaped;
              valid = valid-stays-valid w store list at fine.shaped fine.valid is-accepted;
              room = omega (arith, kept.same_length, fine.room);
              up = λ j h.
                  by_equal j own
                  (λ e. ap (λ x. (site_of call.world x).up) e ∙ ap (λ s. s.up) own-site ∙ up ∙ fine.up own below)
                  (λ e. ap (λ s. s.up) (other_sites_lem j e) ∙ fine.up j h);
              low =
                  omega (
                    arith,
                    fine.low,
                    tells,
                    kept-news,
                    known-moved o.n own w m.step.site.codes below call.world (ap (λ s. s.codes) own-site) other_sites_lem,
                  );
            };
        grows =
            record {
              codes = code_rises;
              entries = λ j k h l other.
                  by_equal j own
                  (λ e. subst (λ x. entry_at w x k ≤ entry_at call.world x k) (sym e)
                  (omega (arith, entries k l (λ q. other (q ∙ sym e)), ap (λ s. get_or s.codes k 0) own-site)))
                  (λ e. omega (arith, ap (λ s. get_or s.codes k 0) (other_sites_lem j e)));
              roles = λ j h e.
                  by_equal j own
                  (λ q. ap (λ x. (site_of call.world x).coordinator) q ∙ ap (λ s. s.coordinator) own-site
                  ∙ role (ap (λ x. (site_of w x).coordinator) (sym q) ∙ e))
                  (λ q. ap (λ s. s.coordinator) (other_sites_lem j q) ∙ e);
            };
        site = own-site;
        others = other_sites_lem;
        silent = λ none. entered (λ c. c.world.rows ≡ w.rows) (λ _. refl) (λ some. absurd (some none));
        sent = λ some. entered (λ c. c.world.rows ≡ w.rows + 1) (λ none. absurd (some none)) (λ _. refl);
        reads = λ some fits.
            entered (λ c. get_row c.store w.rows ≡ m.step.row) (λ none. absurd (some none))
            (λ _. get_row-same store w.rows m.step.row (omega (arith, fine.room, free some)) fits.sender fits.destinations fits.long);
        rows_stay = kept.rows-below;
      }
