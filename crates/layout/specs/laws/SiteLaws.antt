-- Laws of one site in bytes: what is written reads back, what is read is written back, and nothing else changes.
use Rattle.std.specs.Prelude.{ℕ, zero, suc, ◌+◌, ◌≤◌, ◌<◌, Bool, true, false, List, ◌≢◌, ◌≡◌, refl, leb, eqb, set}
use Rattle.std.proofs.Math.Path.{sym}
use Rattle.std.proofs.Common.{◌∙◌, add-zero, lt-length-set, get_or-set_other, leb-true, le-leb}
use Rattle.std.proofs.Math.Nat.{add_assoc}
use native.Mathlib.Omega.{arith}
use Rattle.std.proofs.Math.ListN.{length, get_or, length-set}
use Rattle.std.proofs.Math.Seq.{get_or-set_same, ext_get_or}
use Rattle.std.proofs.lemmas.List.{set-get_or}
use Rattle.choice.specs.Choice.{both}
use Rattle.choice.specs.laws.ChoiceLaws.{both-on, both_first, both-second}
use Rattle.choice.specs.laws.Cases.{by_equal}
use Rattle.code_bytes.specs.CodeBytes.{put_codes, codes_from}
use Rattle.code_bytes.specs.laws.CodeBytesLaws.{put_codes-length, put_codes_else, put_codes-at, codes_from-length, codes_from-at, codes_from-same}
use Rattle.site.specs.declared.Group.{Group}
use Rattle.site.specs.declared.Group.TheVariants as Group·
use Rattle.site.specs.declared.Outcome.{Outcome}
use Rattle.site.specs.declared.Outcome.TheVariants as Outcome·
use Rattle.site.specs.declared.Site.{Site}
use Rattle.layout.specs.Numbers.{shifted, put_number}
use Rattle.layout.specs.laws.NumberLaws.{put_number-length, put_number_else, put_number-at, put_number-same}
use Rattle.layout.specs.Layout.{flag_byte, group_byte, outcome_byte, put_flags, put_site, group_of, outcome_of, site_at, at_most, site_in_layout}

-- the values of a byte

flag-back : (f : Bool) → eqb (flag_byte f) 1 ≡ f
unfolding flag_byte
flag-back true = refl
flag-back false = refl

group-back : (g : Group) → group_of (group_byte g) ≡ g
unfolding group_of group_byte
group-back Group·.None = refl
group-back Group·.Commit = refl
group-back Group·.Abort = refl

outcome-back : (o : Outcome) → outcome_of (outcome_byte o) ≡ o
unfolding outcome_of outcome_byte
outcome-back Outcome·.None = refl
outcome-back Outcome·.Commit = refl
outcome-back Outcome·.Abort = refl

flag_held : (x : ℕ) → x ≤ 1 → flag_byte (eqb x 1) ≡ x
unfolding flag_byte
flag_held x h =
    by_equal x 0 (λ e. rw e)
    (λ n. let e : ◌≡◌ {A = ℕ} x 1 = omega arith in rw e)

group_held : (x : ℕ) → x ≤ 2 → group_byte (group_of x) ≡ x
unfolding group_of group_byte
group_held x h =
    by_equal x 0 (λ e. rw e)
    (λ n. by_equal x 1 (λ e. rw e) (λ m. let e : ◌≡◌ {A = ℕ} x 2 = omega arith in rw e))

outcome_held : (x : ℕ) → x ≤ 2 → outcome_byte (outcome_of x) ≡ x
unfolding outcome_of outcome_byte
outcome_held x h =
    by_equal x 0 (λ e. rw e)
    (λ n. by_equal x 1 (λ e. rw e) (λ m. let e : ◌≡◌ {A = ℕ} x 2 = omega arith in rw e))

-- five bytes in a row

unfoldable five : List ℕ → ℕ → ℕ → ℕ → ℕ → ℕ → ℕ → List ℕ
five b at u v w x y = set (set (set (set (set b at u) (at + 1) v) (at + 2) w) (at + 3) x) (at + 4) y

five-length : (b : List ℕ) (at u v w x y : ℕ) → length (five b at u v w x y) ≡ length b
unfolding five
five-length b at u v w x y = simp length-set

five_else :
    (b : List ℕ) (at u v w x y p : ℕ) → ((i : ℕ) → i < 5 → p ≡ at + i → ⊥) → get_or (five b at u v w x y) p 0 ≡ get_or b p 0
unfolding five
five_else b at u v w x y p h =
    let p0 : p ≢ at = λ e. h 0 (omega arith) (omega arith) in
    let p1 : p ≢ at + 1 = h 1 (omega arith) in
    let p2 : p ≢ at + 2 = h 2 (omega arith) in
    let p3 : p ≢ at + 3 = h 3 (omega arith) in
    let p4 : p ≢ at + 4 = h 4 (omega arith) in
    simp get_or-set_other

five-same :
    (b : List ℕ) (at u v w x y : ℕ) → u ≡ get_or b at 0 → v ≡ get_or b (at + 1) 0 → w ≡ get_or b (at + 2) 0 →
    x ≡ get_or b (at + 3) 0 → y ≡ get_or b (at + 4) 0 → five b at u v w x y ≡ b
unfolding five
five-same b at u v w x y a c d e f = rw (a, c, d, e, f) (simp set-get_or)

module _ (b : List ℕ) (at u v w x y : ℕ) (room : at + 8 ≤ length b) where
  five_0 : get_or (five b at u v w x y) at 0 ≡ u
  unfolding five
  five_0 =
      let p1 : at ≢ at + 1 = omega arith in
      let p2 : at ≢ at + 2 = omega arith in
      let p3 : at ≢ at + 3 = omega arith in
      let p4 : at ≢ at + 4 = omega arith in
      let l : at < length b = omega arith in
      simp (get_or-set_other, get_or-set_same)

  five_1 : get_or (five b at u v w x y) (at + 1) 0 ≡ v
  unfolding five
  five_1 =
      let p2 : at + 1 ≢ at + 2 = omega arith in
      let p3 : at + 1 ≢ at + 3 = omega arith in
      let p4 : at + 1 ≢ at + 4 = omega arith in
      let l : at + 1 < length b = omega arith in
      simp (get_or-set_other, get_or-set_same, lt-length-set)

  five_2 : get_or (five b at u v w x y) (at + 2) 0 ≡ w
  unfolding five
  five_2 =
      let p3 : at + 2 ≢ at + 3 = omega arith in
      let p4 : at + 2 ≢ at + 4 = omega arith in
      let l : at + 2 < length b = omega arith in
      simp (get_or-set_other, get_or-set_same, lt-length-set)

  five_3 : get_or (five b at u v w x y) (at + 3) 0 ≡ x
  unfolding five
  five_3 =
      let p4 : at + 3 ≢ at + 4 = omega arith in
      let l : at + 3 < length b = omega arith in
      simp (get_or-set_other, get_or-set_same, lt-length-set)

  five_4 : get_or (five b at u v w x y) (at + 4) 0 ≡ y
  unfolding five
  five_4 =
      get_or-set_same (set (set (set (set b at u) (at + 1) v) (at + 2) w) (at + 3) x) (at + 4) y 0 (simp length-set (omega arith))

-- the flags

pub put_flags-length : (b : List ℕ) (at : ℕ) (s : Site) → length (put_flags b at s) ≡ length b
unfolding put_flags
put_flags-length b at s = simp (put_number-length, length-set)

pub put_flags_else :
    (b : List ℕ) (at : ℕ) (s : Site) (p : ℕ) → ((i : ℕ) → i < 8 → p ≡ at + i → ⊥) →
    get_or (put_flags b at s) p 0 ≡ get_or b p 0
unfolding put_flags five
put_flags_else b at s p h =
    put_number_else 3
    (five b at (flag_byte s.up) (flag_byte s.coordinator) (flag_byte s.prepared) (group_byte s.group)
    (outcome_byte s.outcome))
    (at + 5) 0 p (λ i l e. h (5 + i) (omega arith) (omega arith))
    ∙ five_else b at (flag_byte s.up) (flag_byte s.coordinator) (flag_byte s.prepared) (group_byte s.group)
    (outcome_byte s.outcome) p (λ i l e. h i (omega arith) e)

-- the five flags lie before the zeros
put_flags-five :
    (b : List ℕ) (at : ℕ) (s : Site) (p : ℕ) → p < at + 5 →
    get_or (put_flags b at s) p 0
    ≡ get_or
    (five b at (flag_byte s.up) (flag_byte s.coordinator) (flag_byte s.prepared) (group_byte s.group)
    (outcome_byte s.outcome))
    p 0
unfolding put_flags five
put_flags-five b at s p h =
    put_number_else 3
    (five b at (flag_byte s.up) (flag_byte s.coordinator) (flag_byte s.prepared) (group_byte s.group)
    (outcome_byte s.outcome))
    (at + 5) 0 p (λ i l e. omega arith)

-- the site

pub put_site-length : (b : List ℕ) (at : ℕ) (s : Site) → length (put_site b at s) ≡ length b
unfolding put_site
put_site-length b at s = simp (put_codes-length, put_flags-length)

pub put_site_else :
    (b : List ℕ) (at : ℕ) (s : Site) (p : ℕ) → ((i : ℕ) → i < 40 → p ≡ at + i → ⊥) →
    get_or (put_site b at s) p 0 ≡ get_or b p 0
unfolding put_site
put_site_else b at s p h =
    put_codes_else 16 (put_codes 16 (put_flags b at s) (at + 8) s.codes) (at + 24) s.joined p
    (λ i l e. h (24 + i) (omega arith) (omega arith))
    ∙ put_codes_else 16 (put_flags b at s) (at + 8) s.codes p (λ i l e. h (8 + i) (omega arith) (omega arith))
    ∙ put_flags_else b at s p (λ i l e. h i (omega arith) e)

pub site_at-same :
    (b d : List ℕ) (at : ℕ) → ((i : ℕ) → i < 40 → get_or b (at + i) 0 ≡ get_or d (at + i) 0) → site_at b at ≡ site_at d at
unfolding site_at
site_at-same b d at h =
    let k : get_or b at 0 ≡ get_or d at 0 = rw add-zero at (h 0 (omega arith)) in
    let c : codes_from 16 b (at + 8) ≡ codes_from 16 d (at + 8) =
    codes_from-same 16 b d (at + 8) (at + 8) (λ i l. rw add_assoc (h (8 + i) (omega arith))) in
    let j : codes_from 16 b (at + 24) ≡ codes_from 16 d (at + 24) =
    codes_from-same 16 b d (at + 24) (at + 24) (λ i l. rw add_assoc (h (24 + i) (omega arith))) in
    rw (k, h 1 (omega arith), h 2 (omega arith), h 3 (omega arith), h 4 (omega arith), c, j)

site-same :
    (s t : Site) → s.up ≡ t.up → s.coordinator ≡ t.coordinator → s.prepared ≡ t.prepared → s.group ≡ t.group →
    s.joined ≡ t.joined → s.outcome ≡ t.outcome → s.codes ≡ t.codes → s ≡ t
site-same s t a b c d e f g =
    let z : ◌≡◌ {A = Site}
    (record {
      up = s.up;
      coordinator = s.coordinator;
      prepared = s.prepared;
      group = s.group;
      joined = s.joined;
      outcome = s.outcome;
      codes = s.codes;
    })
    (record {
      up = t.up;
      coordinator = t.coordinator;
      prepared = t.prepared;
      group = t.group;
      joined = t.joined;
      outcome = t.outcome;
      codes = t.codes;
    }) = cc in
    z

-- a site written and read
module _ (b : List ℕ) (at : ℕ) (s : Site) (room : at + 40 ≤ length b) where
  head : (p : ℕ) → p < at + 8 → get_or (put_site b at s) p 0 ≡ get_or (put_flags b at s) p 0
  unfolding put_site
  head p h =
      put_codes_else 16 (put_codes 16 (put_flags b at s) (at + 8) s.codes) (at + 24) s.joined p (λ i l e. omega arith)
      ∙ put_codes_else 16 (put_flags b at s) (at + 8) s.codes p (λ i l e. omega arith)

  flag : (p : ℕ) → p < at + 5 →
      get_or (put_site b at s) p 0
      ≡ get_or
      (five b at (flag_byte s.up) (flag_byte s.coordinator) (flag_byte s.prepared) (group_byte s.group)
      (outcome_byte s.outcome))
      p 0
  flag p h = head p (omega arith) ∙ put_flags-five b at s p h

  codes-read : length s.codes ≡ 16 → codes_from 16 (put_site b at s) (at + 8) ≡ s.codes
  unfolding put_site
  codes-read l =
      ext_get_or 0 (codes_from 16 (put_site b at s) (at + 8)) s.codes (codes_from-length 16 (put_site b at s) (at + 8) ∙ sym l)
      (λ i h.
      let small : i < 16 = omega (arith, codes_from-length 16 (put_site b at s) (at + 8)) in
      codes_from-at 16 (put_site b at s) (at + 8) i small (omega arith)
      ∙ put_codes_else 16 (put_codes 16 (put_flags b at s) (at + 8) s.codes) (at + 24) s.joined (at + 8 + i)
      (λ j k e. omega arith)
      ∙ put_codes-at 16 (put_flags b at s) (at + 8) s.codes i small (rw put_flags-length (omega arith)))

  joined-read : length s.joined ≡ 16 → codes_from 16 (put_site b at s) (at + 24) ≡ s.joined
  unfolding put_site
  joined-read l =
      ext_get_or 0 (codes_from 16 (put_site b at s) (at + 24)) s.joined
      (codes_from-length 16 (put_site b at s) (at + 24) ∙ sym l)
      (λ i h.
      let small : i < 16 = omega (arith, codes_from-length 16 (put_site b at s) (at + 24)) in
      codes_from-at 16 (put_site b at s) (at + 24) i small (omega arith)
      ∙ put_codes-at 16 (put_codes 16 (put_flags b at s) (at + 8) s.codes) (at + 24) s.joined i small
      (simp (put_codes-length, put_flags-length) (omega arith)))

  pub site-read-back : length s.codes ≡ 16 → length s.joined ≡ 16 → site_at (put_site b at s) at ≡ s
  unfolding site_at
  site-read-back l m =
      site-same (site_at (put_site b at s) at) s
      (rw (flag at (omega arith), five_0 b at _ _ _ _ _ (omega arith)) (flag-back s.up))
      (rw (flag (at + 1) (omega arith), five_1 b at _ _ _ _ _ (omega arith)) (flag-back s.coordinator))
      (rw (flag (at + 2) (omega arith), five_2 b at _ _ _ _ _ (omega arith)) (flag-back s.prepared))
      (rw (flag (at + 3) (omega arith), five_3 b at _ _ _ _ _ (omega arith)) (group-back s.group))
      (joined-read m)
      (rw (flag (at + 4) (omega arith), five_4 b at _ _ _ _ _ (omega arith)) (outcome-back s.outcome))
      (codes-read l)

-- what the layout says of each byte

pub most-each :
    (k : ℕ) (b : List ℕ) (at limit : ℕ) → at_most k b at limit ≡ true → (i : ℕ) → i < k → get_or b (at + i) 0 ≤ limit
unfolding at_most
most-each zero b at limit e i h = absurd (omega arith)
most-each (suc k) b at limit e i h =
    by_equal i k
    (λ q. rw q (leb-true (get_or b (at + k) 0) limit (both-second (at_most k b at limit) (leb (get_or b (at + k) 0) limit) e)))
    (λ q. most-each k b at limit (both_first (at_most k b at limit) (leb (get_or b (at + k) 0) limit) e) i (omega arith))

-- bytes that are there already

shifted-zero : (k : ℕ) → shifted k 0 ≡ 0
unfolding shifted
shifted-zero zero = refl
shifted-zero (suc k) = rw (shifted-zero k)

pub zeros_held : (k : ℕ) (b : List ℕ) (at : ℕ) → at_most k b at 0 ≡ true → put_number k b at 0 ≡ b
zeros_held k b at e =
    put_number-same k b at 0
    (λ i h. rw (shifted-zero i) (let z : get_or b (at + i) 0 ≤ 0 = most-each k b at 0 e i h in omega arith))

pub codes_held : (k : ℕ) (b : List ℕ) (at : ℕ) → k ≤ 16 → put_codes k b at (codes_from 16 b at) ≡ b
unfolding put_codes
codes_held zero b at h = refl
codes_held (suc k) b at h =
    rw (codes_held k b at (omega arith), codes_from-at 16 b at k (omega arith) (omega arith)) (set-get_or b (at + k) 0)

flags_held : (b : List ℕ) (at : ℕ) → site_in_layout b at ≡ true → put_flags b at (site_at b at) ≡ b
unfolding put_flags site_at site_in_layout five
flags_held b at e =
    let rest : both (at_most 2 b (at + 3) 2) (at_most 3 b (at + 5) 0) ≡ true =
    both-second (at_most 3 b at 1) (both (at_most 2 b (at + 3) 2) (at_most 3 b (at + 5) 0)) e in
    let flags : (i : ℕ) → i < 3 → get_or b (at + i) 0 ≤ 1 =
    most-each 3 b at 1 (both_first (at_most 3 b at 1) (both (at_most 2 b (at + 3) 2) (at_most 3 b (at + 5) 0)) e) in
    let kinds : (i : ℕ) → i < 2 → get_or b (at + 3 + i) 0 ≤ 2 =
    most-each 2 b (at + 3) 2 (both_first (at_most 2 b (at + 3) 2) (at_most 3 b (at + 5) 0) rest) in
    rw
    (five-same b at (flag_byte (eqb (get_or b at 0) 1)) (flag_byte (eqb (get_or b (at + 1) 0) 1))
    (flag_byte (eqb (get_or b (at + 2) 0) 1)) (group_byte (group_of (get_or b (at + 3) 0)))
    (outcome_byte (outcome_of (get_or b (at + 4) 0))) (flag_held (get_or b at 0) (rw add-zero at (flags 0 (omega arith))))
    (flag_held (get_or b (at + 1) 0) (flags 1 (omega arith))) (flag_held (get_or b (at + 2) 0) (flags 2 (omega arith)))
    (group_held (get_or b (at + 3) 0) (rw add-zero at (kinds 0 (omega arith))))
    (outcome_held (get_or b (at + 4) 0) (rw add_assoc at (kinds 1 (omega arith)))))
    (zeros_held 3 b (at + 5) (both-second (at_most 2 b (at + 3) 2) (at_most 3 b (at + 5) 0) rest))

-- a site read and written
pub site-written-back : (b : List ℕ) (at : ℕ) → site_in_layout b at ≡ true → put_site b at (site_at b at) ≡ b
unfolding put_site site_at
site-written-back b at e =
    rw (flags_held b at e, codes_held 16 b (at + 8) (omega arith)) (codes_held 16 b (at + 24) (omega arith))

-- what is written is inside the layout

pub most-all :
    (k : ℕ) (b : List ℕ) (at limit : ℕ) → ((i : ℕ) → i < k → get_or b (at + i) 0 ≤ limit) → at_most k b at limit ≡ true
unfolding at_most
most-all zero b at limit h = refl
most-all (suc k) b at limit h =
    both-on (at_most k b at limit) (leb (get_or b (at + k) 0) limit) (most-all k b at limit (λ i l. h i (omega arith)))
    (le-leb (get_or b (at + k) 0) limit (h k (omega arith)))

pub most-same :
    (k : ℕ) (b d : List ℕ) (at limit : ℕ) → ((i : ℕ) → i < k → get_or b (at + i) 0 ≡ get_or d (at + i) 0) →
    at_most k b at limit ≡ at_most k d at limit
unfolding at_most
most-same zero b d at limit h = refl
most-same (suc k) b d at limit h = rw (most-same k b d at limit (λ i l. h i (omega arith)), h k (omega arith))

-- zeros written
pub zero-at :
    (k : ℕ) (b : List ℕ) (at i : ℕ) → i < k → at + k ≤ length b → get_or (put_number k b at 0) (at + i) 0 ≡ 0
zero-at k b at i h room = put_number-at k b at 0 i h room ∙ rw (shifted-zero i)

pub site_in_layout-same :
    (b d : List ℕ) (at : ℕ) → ((i : ℕ) → i < 40 → get_or b (at + i) 0 ≡ get_or d (at + i) 0) →
    site_in_layout b at ≡ site_in_layout d at
unfolding site_in_layout
site_in_layout-same b d at h =
    rw
    (most-same 3 b d at 1 (λ i l. h i (omega arith)), most-same 2 b d (at + 3) 2 (λ i l. rw add_assoc (h (3 + i) (omega arith))), most-same 3 b d (at + 5) 0 (λ i l. rw add_assoc (h (5 + i) (omega arith))))

flag_small : (f : Bool) → leb (flag_byte f) 1 ≡ true
unfolding flag_byte
flag_small true = refl
flag_small false = refl

group-small : (g : Group) → leb (group_byte g) 2 ≡ true
unfolding group_byte
group-small Group·.None = refl
group-small Group·.Commit = refl
group-small Group·.Abort = refl

outcome-small : (o : Outcome) → leb (outcome_byte o) 2 ≡ true
unfolding outcome_byte
outcome-small Outcome·.None = refl
outcome-small Outcome·.Commit = refl
outcome-small Outcome·.Abort = refl

module _ (b : List ℕ) (at : ℕ) (s : Site) (room : at + 40 ≤ length b) where
  flags_inside : at_most 3 (put_site b at s) at 1 ≡ true
  unfolding at_most
  flags_inside =
      rw
      (add-zero, flag b at s room at (omega arith), five_0 b at _ _ _ _ _ (omega arith), flag_small s.up, flag b at s room (at + 1) (omega arith), five_1 b at _ _ _ _ _ (omega arith), flag_small s.coordinator, flag b at s room (at + 2) (omega arith), five_2 b at _ _ _ _ _ (omega arith), flag_small s.prepared)

  kinds_inside : at_most 2 (put_site b at s) (at + 3) 2 ≡ true
  unfolding at_most
  kinds_inside =
      let last : get_or (put_site b at s) (at + 3 + 1) 0 ≡ outcome_byte s.outcome =
      rw add_assoc (flag b at s room (at + 4) (omega arith) ∙ five_4 b at _ _ _ _ _ (omega arith)) in
      rw
      (add-zero, flag b at s room (at + 3) (omega arith), five_3 b at _ _ _ _ _ (omega arith), group-small s.group, last, outcome-small s.outcome)

  zeros-inside : at_most 3 (put_site b at s) (at + 5) 0 ≡ true
  unfolding put_flags five
  zeros-inside =
      most-all 3 (put_site b at s) (at + 5) 0
      (λ i h.
      let z : get_or (put_site b at s) (at + 5 + i) 0 ≡ 0 =
      head b at s room (at + 5 + i) (omega arith)
      ∙ zero-at 3
      (five b at (flag_byte s.up) (flag_byte s.coordinator) (flag_byte s.prepared) (group_byte s.group)
      (outcome_byte s.outcome))
      (at + 5) i h
      (omega (arith, five-length b at (flag_byte s.up) (flag_byte s.coordinator) (flag_byte s.prepared) (group_byte s.group) (outcome_byte s.outcome))) in
      omega arith)

  pub site-inside : site_in_layout (put_site b at s) at ≡ true
  unfolding site_in_layout
  site-inside = rw (flags_inside, kinds_inside, zeros-inside)
