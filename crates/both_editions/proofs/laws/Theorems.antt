-- The theorems of carrying a list from one edition to the other.
use Rattle.std.specs.Prelude.{ℕ, ◌+◌, ◌-◌, ◌≤◌, ◌<◌, Bool, false, List, ◌++◌, ◌≡◌, ltb, length}
use Rattle.std.proofs.Math.Bool.{true}
use Rattle.std.proofs.Math.Path.{refl, sym, ap}
use Rattle.std.proofs.Common.{subst, ◌∙◌, arith, length-drop}
use Rattle.std.proofs.Math.Dec.{eqb}
use Rattle.std.proofs.Math.ListN.{get_or, drop}
use Rattle.std.proofs.lemmas.List.Edits.{sets}
use borrow.Author.Tests.{lt-ltb, eq-eqb, ne_eqb, eqb-true, ltb-true, ltb-false}
use Rattle.choice.specs.Choice.{pick}
use Rattle.choice.specs.laws.Cases.{by_test}
use Rattle.choice.specs.laws.Stores.{all-each, all-on}
use Rattle.weights.specs.Weights.{weight_of, even_weights}
use Rattle.weights.specs.laws.WeightLaws.{weight_listed, even_one}
use Rattle.world.specs.declared.World.{World}
use Rattle.world.specs.Sizes.{store_bytes}
use Rattle.world.specs.Worlds.{fresh_world}
use Rattle.header.specs.Headers.{second_header, is_second, header_of, header_weights, header_length, header_number, header_world}
use Rattle.header.specs.laws.HeaderLaws.{headed}
use Rattle.spelling.specs.Spelling.{header_bytes}
use Rattle.spelling.specs.WriteRead.{Output, refuse, put_out}
use Rattle.spelling.specs.laws.BytesBack.{header_spelt}
use Rattle.round_trip.specs.Claims.{output, Bytes, Gives}
use Rattle.round_trip.proofs.laws.Outputs.{passed, put-room, put-gives}
use Rattle.round_trip.proofs.laws.Buffers.{refuse-untouched, pick-untouched, put-untouched}
use Rattle.play.specs.Run.{run}
use Rattle.list.specs.Play.{Play, stopped, refused_list, play_from, play_list}
use Rattle.list.specs.laws.PlayLaws.{rest}
use Rattle.list.specs.laws.HeaderLaws.{whole}
use Rattle.list.specs.laws.ListTheorems.{short-refused}
use Rattle.conversion.specs.Conversion.{second_bytes, converted, all_one, edition_number, convert_number, convert}
use Rattle.conversion.specs.laws.NumberLaws.{accepted-high, back-ones, convert_edition, convert-fits}
use Rattle.conversion.specs.laws.ConversionLaws.{carried, back, back-length, converts, converting, convert-room}
use Rattle.both_editions.specs.Claims.{AllWeighOne, BackExactly, CarriedTo, WrittenIsCarried, ThereAndBack, PlaysAlike, SamePlay, ConvertKeeps, ConvertHasRoom}
use Rattle.both_editions.proofs.laws.HeaderBack.{second_spelt}
use Rattle.both_editions.proofs.laws.ShiftedPlay.{Further, further}
use Rattle.both_editions.proofs.laws.Carrying.{
  Begins,
  back_shape,
  forward_shape,
  back-header,
  forward_header,
  back_from,
  forward_from,
  back-begins,
  back-accepted,
  forward-begins,
  back-is-first,
  forward-is-second,
  is_carried,
}

-- AN ACCEPTED CALL has written the converted list

record Accepted (list b : List ℕ) : Type 0 where
  good : convert_number list ≡ 0
  written : output (convert list b) ≡ converted list

accepted : (list b : List ℕ) → (convert list b).answer.number ≡ 0 → Accepted list b
unfolding convert
accepted list b e =
    let p : (convert_number list ≡ 0) × (convert list b ≡ put_out (length list) (converted list) b) =
    passed (convert_number list) 0 b (put_out (length list) (converted list) b) e in
    let room : length (converted list) ≤ length b = put-room (length list) (converted list) b (sym (ap (λ o. o.answer.number) p.1) ∙ e) in
    record { good = p.0; written = ap output p.1 ∙ (put-gives (length list) (converted list) b room).put }

-- and with room a list is converted
done : (list b : List ℕ) → convert_number list ≡ 0 → length (converted list) ≤ length b → Gives (convert list b) (length list) (converted list)
unfolding convert
done list b good room = rw (eq-eqb (convert_number list) 0 good) (put-gives (length list) (converted list) b room)

-- THEOREM: what it has written is carried
pub written-is-carried : WrittenIsCarried
written-is-carried list b e =
    let a : Accepted list b = accepted list b e in rw a.written (is_carried list a.good)

-- GOING BACK where all weights are 1

carried-ones : (list : List ℕ) → is_second list ≡ true → convert_number list ≡ 0 → all_one (header_of list).n (header_weights list) ≡ true
unfolding edition_number
carried-ones list second good = (back list (rw second at (converts list good).carries)).ones

module _ (list : List ℕ) (second : is_second list ≡ true) (head : header_number list ≡ 0) where
  -- a weight of the header is the byte at its place
  weight_is : (i : ℕ) → i < (header_of list).n → weight_of (header_weights list) i ≡ get_or list (8 + i) 0
  unfolding header_weights
  weight_is i below = rw second (weight_listed (λ j. get_or list (8 + j) 0) (header_of list).n i below (omega (arith, accepted-high list head)))

  ones-weigh : all_one (header_of list).n (header_weights list) ≡ true → AllWeighOne list
  unfolding all_one
  ones-weigh e i below =
      sym (weight_is i below)
      ∙ eqb-true (weight_of (header_weights list) i) 1 (all-each (λ j. eqb (weight_of (header_weights list) j) 1) (header_of list).n e i below)

  weigh-ones : AllWeighOne list → all_one (header_of list).n (header_weights list) ≡ true
  unfolding all_one
  weigh-ones each =
      all-on (λ j. eqb (weight_of (header_weights list) j) 1) (header_of list).n λ i below.
      eq-eqb (weight_of (header_weights list) i) 1 (weight_is i below ∙ each i below)

  -- the number of its edition: 0 or 22, by its weights
  edition_by : (ones : Bool) → all_one (header_of list).n (header_weights list) ≡ ones → edition_number list ≡ pick ones 0 22
  unfolding edition_number
  edition_by ones e = rw second (sym (back-ones list (header_of list) (header_weights list) ones head refl refl (sym e)))

  even_converts : AllWeighOne list → convert_number list ≡ 0
  even_converts each =
      sym (convert-fits list (edition_by true (weigh-ones each)) (omega (arith, back-length list second, (headed list head).small, (headed list head).some, (headed list head).whole)))

  uneven_number : (AllWeighOne list → ⊥) → convert_number list ≡ 22
  uneven_number uneven =
      by_test (all_one (header_of list).n (header_weights list)) (λ e. absurd (uneven (ones-weigh e)))
      (λ e. let n : edition_number list ≡ 22 = edition_by false e in
      sym (convert_edition list (edition_number list) refl (λ z. omega (arith, n, z))) ∙ n)

-- THEOREM: exactly then
pub back_exactly : BackExactly
unfolding convert refuse
back_exactly list b second head room =
    record {
      accepted_even = λ e.
          ones-weigh list second head (carried-ones list second (accepted list b e).good);
      even_accepted = λ each.
          (done list b (even_converts list second head each)
          (omega (arith, back-length list second, back_from list second, (headed list head).whole))).accepted;
      uneven_refused = λ uneven.
          let n : convert_number list ≡ 22 = uneven_number list second head uneven in
          rw (ne_eqb (convert_number list) 0 (λ z. omega (arith, n, z))) n;
    }

-- FORTH AND BACK

even_ones : (n : ℕ) → n ≤ 16 → all_one n (even_weights n) ≡ true
unfolding all_one
even_ones n high =
    all-on (λ i. eqb (weight_of (even_weights n) i) 1) n λ i below. eq-eqb (weight_of (even_weights n) i) 1 (even_one n i below (omega arith))

module _ (list : List ℕ) (good : convert_number list ≡ 0) where
  head : header_number list ≡ 0
  head = (carried list (converts list good).carries).accepted

  other : List ℕ
  other = converted list

  -- back, and then forth
  module _ (second : is_second list ≡ true) where
    back-carries : edition_number other ≡ 0
    unfolding edition_number other
    back-carries = rw (back-is-first list good second) (back-accepted list good second)

    second-begin : Bytes list → list ≡ second_bytes (header_of list) ++ drop (header_length list) list
    second-begin bytes =
        let same : header_of list ≡ second_header list = back-header list second in
        let each : AllWeighOne list = ones-weigh list second head (carried-ones list second good) in
        rw (back_from list second)
        (rw same
        (second_spelt list bytes second (omega (arith, (headed list head).whole, back_from list second, ap (λ h. h.n) same))
        (λ i below. each i (omega (arith, below, ap (λ h. h.n) same)))))

    forth-again : Bytes list → converted other ≡ list
    unfolding other
    forth-again bytes =
        let b : Begins other (header_of list) 5 (drop (header_length list) list) = back-begins list good second in
        forward_shape other (back-is-first list good second)
        ∙ ap (λ h. second_bytes h ++ drop (header_length other) other) b.header_is
        ∙ ap (λ t. second_bytes (header_of list) ++ t) b.left
        ∙ sym (second-begin bytes)

  -- forth, and then back
  module _ (first : is_second list ≡ false) where
    begun : Begins other (header_of list) (8 + (header_of list).n) (drop (header_length list) list)
    unfolding other
    begun = forward-begins list good first

    forth-carries : edition_number other ≡ 0
    unfolding other
    forth-carries =
        let high : (header_of list).n ≤ 16 = accepted-high list head in
        let ones : all_one (header_of other).n (header_weights other) ≡ true =
        ap (λ h. all_one h.n (header_weights other)) begun.header_is ∙ ap (all_one (header_of list).n) begun.weights_are ∙ even_ones (header_of list).n high in
        edition_by other (forward-is-second list good first) begun.accepted true ones

    first-begin : Bytes list → list ≡ header_bytes (header_of list) ++ drop (header_length list) list
    first-begin bytes =
        rw (forward_from list first, forward_header list first) (header_spelt list bytes (headed list head).header)

    back-again : Bytes list → converted other ≡ list
    unfolding other
    back-again bytes =
        back_shape other (forward-is-second list good first)
        ∙ ap (λ h. header_bytes h ++ drop (header_length other) other) begun.header_is
        ∙ ap (λ t. header_bytes (header_of list) ++ t) begun.left
        ∙ sym (first-begin bytes)

  -- whichever way first
  again : Bytes list → converted other ≡ list
  again bytes = by_test (is_second list) (λ second. forth-again second bytes) (λ first. back-again first bytes)

  again-good : Bytes list → convert_number other ≡ 0
  again-good bytes =
      converting other
      (record {
        carries = by_test (is_second list) back-carries forth-carries;
        fits = rw (again bytes) (headed list head).small;
      })

-- THEOREM: there and back
pub there_and_back : ThereAndBack
unfolding other
there_and_back list b c bytes e room =
    let a : Accepted list b = accepted list b e in
    let same : converted (converted list) ≡ list = again list a.good bytes in
    rw a.written
    (subst (Gives (convert (converted list) c) (length (converted list))) same
    (done (converted list) c (again-good list a.good bytes) (rw same room)))

-- THE SAME PLAY

-- of a list that begins after the header
tail : World → List ℕ → List ℕ → Play
tail w store t = play_from (length t) w store t 0 0

header-further :
    (store list : List ℕ) → header_number list ≡ 0 → store_bytes ≤ length store →
    Further (header_length list) (header_world list) store (play_list store list) (tail (header_world list) store (drop (header_length list) list))
unfolding tail rest
header-further store list e room =
    rw (whole store list e room, length-drop (header_length list) list)
    (further list (header_length list) (headed list e).whole (length list - header_length list) (header_world list) store 0 (header_length list) 0 (omega arith))

-- the same header and weights make the same world
world_same : (list other : List ℕ) → header_of other ≡ header_of list → header_weights other ≡ header_weights list → header_world other ≡ header_world list
unfolding header_world
world_same list other same-header same_weights_lem =
    ap (λ h. fresh_world h.n (header_weights other) h.commit h.abort h.willing) same-header
    ∙ ap (λ v. fresh_world (header_of list).n v (header_of list).commit (header_of list).abort (header_of list).willing) same_weights_lem

module _ (store list other : List ℕ) (head : header_number list ≡ 0) (to : CarriedTo list other) where
  same-world : header_world other ≡ header_world list
  same-world = world_same list other to.same-header to.same_weights_lem

  -- with a store that is long enough
  alike-room : store_bytes ≤ length store → PlaysAlike store list other
  alike-room room =
      let t : Play = tail (header_world list) store (drop (header_length list) list) in
      let p : Further (header_length list) (header_world list) store (play_list store list) t = header-further store list head room in
      let q : Further (header_length other) (header_world list) store (play_list store other) t =
      subst (λ x. Further (header_length other) (header_world list) store (play_list store other) (tail (header_world list) store x)) to.same-commands
      (subst (λ x. Further (header_length other) x store (play_list store other) (tail x store (drop (header_length other) other))) same-world
      (header-further store other to.accepted room)) in
      record {
        same-world = p.world_same ∙ sym q.world_same;
        same_store = p.store_same ∙ sym q.store_same;
        same-events = p.events-same ∙ sym q.events-same;
        same_number = p.number_same ∙ sym q.number_same;
        same-records =
            p.records-same ∙ sym q.records-same ∙ ap (λ x. (run x store (play_list store other).asks).records) (sym same-world);
        shifted = λ _. omega (arith, p.place-on, q.place-on);
        short = λ short. absurd (omega arith);
      }

  -- and with one that is too short
  alike-short : length store < store_bytes → PlaysAlike store list other
  unfolding refused_list stopped run
  alike-short short =
      let e : play_list store list ≡ refused_list 16 store = short-refused store list (lt-ltb (length store) store_bytes short) in
      let f : play_list store other ≡ refused_list 16 store = short-refused store other (lt-ltb (length store) store_bytes short) in
      record {
        same-world = ap (λ p. p.played.world) (e ∙ sym f);
        same_store = ap (λ p. p.store) (e ∙ sym f);
        same-events = ap (λ p. p.played.events) (e ∙ sym f);
        same_number = ap (λ p. p.played.number) (e ∙ sym f);
        same-records =
            ap (λ p. (run (header_world list) store p.asks).records) e
            ∙ sym (ap (λ p. (run (header_world other) store p.asks).records) f);
        shifted = λ room. absurd (omega arith);
        short = λ _. (ap (λ p. p.played.number) e, ap (λ p. p.played.place) e, ap (λ p. p.played.place) f);
      }

  alike : PlaysAlike store list other
  alike = by_test (ltb (length store) store_bytes) (λ s. alike-short (ltb-true (length store) store_bytes s)) (λ r. alike-room (ltb-false (length store) store_bytes r))

-- THEOREM: a list and what is written of it are played alike
pub same_play : SamePlay
same_play store list b e =
    let a : Accepted list b = accepted list b e in
    alike store list (output (convert list b)) (carried list (converts list a.good).carries).accepted (written-is-carried list b e)

-- THE BUFFER, and the place of a refusal

abbrev AtStart : Output → Type 0
AtStart o = (o.answer.number ≡ 0 → ⊥) → o.answer.place ≡ 0

pick-at-start : (t : Bool) (x y : Output) → AtStart x → AtStart y → AtStart (pick t x y)
pick-at-start true x y p q = p
pick-at-start false x y p q = q

put-at-start : (place : ℕ) (out b : List ℕ) → AtStart (put_out place out b)
unfolding put_out refuse
put-at-start place out b =
    pick-at-start (ltb (length b) (length out)) (refuse 20 0 b)
    (record { answer = record { number = 0; place = place; length = length out }; buffer = sets b 0 out }) (λ _. refl) (λ bad. absurd (bad refl))

-- THEOREM: a refusal leaves the buffer, at place 0
pub convert_keeps : ConvertKeeps
unfolding convert refuse
convert_keeps list b =
    let put : Output = put_out (length list) (converted list) b in
    let refused : Output = refuse (convert_number list) 0 b in
    record {
      untouched =
          pick-untouched (eqb (convert_number list) 0) put refused b (put-untouched (length list) (converted list) b)
          (refuse-untouched (convert_number list) 0 b);
      at-start = pick-at-start (eqb (convert_number list) 0) put refused (put-at-start (length list) (converted list) b) (λ _. refl);
    }

-- THEOREM: 32,768 bytes are room enough
pub convert_has_room : ConvertHasRoom
convert_has_room = convert-room
