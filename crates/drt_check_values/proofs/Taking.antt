-- Releases taken in one after another in order of their offsets, and queries answered in order of their times.
use Rattle.std.proofs.Common.{◌≡◌, ◌≢◌, ℕ, ◌+◌, ◌-◌, ◌<◌, ◌≤◌, Bool, true, false, cond, eqb, ltb, List, [], ◌∷◌, ◌++◌, length, map, take, drop, All, get_or, set, replicate, ◌⊎◌, inl, inr}
use Rattle.std.proofs.Common.{refl, sym, ap, subst, arith, ◌∙◌}
use Rattle.std.specs.Prelude.{◌&&◌, slice_range}
use Rattle.std.specs.List.{range_with_len}
use Rattle.std.proofs.lemmas.Bool.{cases_lt, cases_eq, eqb-true, eqb-false, eq-eqb, ne_eqb, lt-ltb, le-ltb}
use Rattle.std.proofs.lemmas.List.{map-id, ext_get_or, get_or-map, get_or-drop, get_or-replicate, length-set, length-map, length-drop, length-replicate, get_or-set_same, get_or-set_other}
use Rattle.std.proofs.lemmas.List.FromFn.{map-range_with_len_more, length-range_with_len, length-map-range_with_len, get_or-range_with_len, get_or-map-range_with_len}
use Rattle.std.proofs.lemmas.List.Elements.{All-from_get_or, All-more, All-head, All-tail, All-nil, All-weaker}
use Rattle.std.proofs.lemmas.List.Sums.{sum_by-cons, sum_by_more, sum_by_more_le, sum_by-take-drop}
use Rattle.std.proofs.lemmas.List.Sorted.{All-permutation, IsPermutation-sym}
use Rattle.std.proofs.lemmas.Map.Keys.{IsDistinct-IsPermutation, IsDistinct-from_apart, apart_from_distinct}
use Rattle.std.specs.List.{IsDistinct}
use Rattle.drt_check_values.specs.declared.query.Query.{Query}
use Rattle.drt_check_values.specs.declared.rises.Rise.{Rise}
use Rattle.drt_check_values.specs.Rises.{added, risen_at_place}
use Rattle.drt_check_values.specs.Values.{AreLeft, AreValuesWithin}
use Rattle.drt_check_values.specs.Sweeps.{AreReady, HasRunOfPlaces, IsInOrder, IsTaken, answer, heights, no_query, no_rise, query_time, total_at_place, totals, whole_rise}

totals_at : (rises : List Rise) (count p : ℕ) → p < count → get_or (totals rises count) p 0 ≡ total_at_place rises p
totals_at rises count p l = get_or-map-range_with_len (λ p. total_at_place rises p) 0 count p p 0 l (omega arith)

totals_count : (rises : List Rise) (count : ℕ) → length (totals rises count) ≡ count
totals_count rises count = length-map-range_with_len (λ p. total_at_place rises p) 0 count

on_here : (b : Bool) (n : ℕ) → (b ≡ false → ⊥) → cond b n 0 ≡ n
on_here true n no_way = refl
on_here false n no_way = absurd (no_way refl)

off_here : (b : Bool) (n : ℕ) → (b ≡ true → ⊥) → cond b n 0 ≡ 0
off_here true n no_way = absurd (no_way refl)
off_here false n no_way = refl

whole_here : (r : Rise) → whole_rise r.place r ≡ r.work
whole_here r = on_here (eqb r.place r.place) r.work (λ e. eqb-false r.place r.place e refl)

whole_other : (r : Rise) (p : ℕ) → p ≢ r.place → whole_rise p r ≡ 0
whole_other r p differ = off_here (eqb r.place p) r.work (λ e. differ (sym (eqb-true r.place p e)))

-- No release is taken in at first.
totals_none : (count : ℕ) → replicate count 0 ≡ totals [] count
totals_none count = ext_get_or 0 zeros (totals [] count) (length-replicate count 0 ∙ sym (totals_count [] count)) (λ p l. go p (omega (arith, length-replicate {A = ℕ} count 0)))
  where
    zeros : List ℕ
    zeros = replicate count 0

    go : (p : ℕ) → p < count → get_or zeros p 0 ≡ get_or (totals [] count) p 0
    go p m = get_or-replicate count p 0 0 m ∙ sym (totals_at [] count p m)

-- The release that is next.
abbrev pub rise_of : List Rise → ℕ → Rise
rise_of rises k = get_or rises k no_rise

-- It keeps a place's value within what all releases add there.
pub rise_fits : (rises : List Rise) (taken t count : ℕ) (values : List ℕ) → taken < length rises → AreReady count rises → count ≡ length values → IsTaken rises taken t values
    → ((rise_of rises taken).place < length values) × (get_or values (rise_of rises taken).place 0 + (rise_of rises taken).work ≤ 1000000000000)
rise_fits rises taken t count values l ready same is =
    let r = rise_of rises taken in
    let inside = ready.places taken no_rise l in
    let m : r.place < length values = omega (arith, inside, same) in
    let at = ap (λ (vs : List ℕ). get_or vs r.place 0) is.sums ∙ totals_at (take taken rises) (length values) r.place m in
    let more = sum_by_more_le (λ x. whole_rise r.place x) rises taken no_rise l in
    let here = whole_here r in
    let most = ready.most r.place inside in
    (m, omega (arith, at, more, here, most))

-- The next release is taken in.
pub rise_taken : (rises : List Rise) (taken t : ℕ) (values : List ℕ) → taken < length rises → (rise_of rises taken).offset < t → (rise_of rises taken).place < length values
    → IsTaken rises taken t values
    → IsTaken rises (taken + 1) t (set values (rise_of rises taken).place (get_or values (rise_of rises taken).place 0 + (rise_of rises taken).work))
rise_taken rises taken t values l soon inside is = record {
  within = omega arith;
  early = All-more (λ (r : Rise). r.offset < t) rises taken no_rise l is.early soon;
  sums = ext_get_or 0 next (totals (take (taken + 1) rises) (length next)) (sym (totals_count (take (taken + 1) rises) (length next))) (λ p m. go p m (cases_eq p r.place));
}
  where
    r : Rise
    r = rise_of rises taken

    next : List ℕ
    next = set values r.place (get_or values r.place 0 + r.work)

    count : length next ≡ length values
    count = length-set values r.place (get_or values r.place 0 + r.work)

    was : (p : ℕ) → p < length values → get_or values p 0 ≡ total_at_place (take taken rises) p
    was p m = ap (λ (vs : List ℕ). get_or vs p 0) is.sums ∙ totals_at (take taken rises) (length values) p m

    go : (p : ℕ) → p < length next → (p ≡ r.place) ⊎ (p ≢ r.place) → get_or next p 0 ≡ get_or (totals (take (taken + 1) rises) (length next)) p 0
    go p m (inl e) =
        let at = totals_at (take (taken + 1) rises) (length next) p m in
        let more = sum_by_more (λ x. whole_rise p x) rises taken no_rise l in
        let here : whole_rise p r ≡ r.work = rw e (whole_here r) in
        let old = was p (omega (arith, count, m)) in
        let new : get_or next p 0 ≡ get_or values p 0 + r.work = rw e (get_or-set_same values r.place (get_or values r.place 0 + r.work) 0 inside) in
        omega (arith, at, more, here, old, new)
    go p m (inr differ) =
        let at = totals_at (take (taken + 1) rises) (length next) p m in
        let more = sum_by_more (λ x. whole_rise p x) rises taken no_rise l in
        let other = whole_other r p differ in
        let old = was p (omega (arith, count, m)) in
        let new = get_or-set_other values r.place p (get_or values r.place 0 + r.work) 0 differ in
        omega (arith, at, more, other, old, new)

-- What comes before t adds before t all that it adds.
pub early_sum : (t p : ℕ) (rises : List Rise) → All (λ r. r.offset < t) rises → risen_at_place rises t p ≡ total_at_place rises p
early_sum t p [] early = refl
early_sum t p (r ∷ rises) early =
    let e = sum_by-cons (λ x. added t p x) r rises in
    let f = sum_by-cons (λ x. whole_rise p x) r rises in
    let rest = early_sum t p rises (All-tail (λ (x : Rise). x.offset < t) r rises early) in
    let one = go (eqb r.place p) (lt-ltb r.offset t (All-head (λ (x : Rise). x.offset < t) r rises early)) in
    omega (arith, e, f, rest, one)
  where
    go : (b : Bool) → ltb r.offset t ≡ true → cond (b && ltb r.offset t) r.work 0 ≡ cond b r.work 0
    go true g = rw g refl
    go false g = refl

-- What comes later adds nothing.
late_sum : (t p : ℕ) (rises : List Rise) → All (λ r. t ≤ r.offset) rises → risen_at_place rises t p ≡ 0
late_sum t p [] late = refl
late_sum t p (r ∷ rises) late =
    let e = sum_by-cons (λ x. added t p x) r rises in
    let rest = late_sum t p rises (All-tail (λ (x : Rise). t ≤ x.offset) r rises late) in
    let one = go (eqb r.place p) (le-ltb r.offset t (All-head (λ (x : Rise). t ≤ x.offset) r rises late)) in
    omega (arith, e, rest, one)
  where
    go : (b : Bool) → ltb r.offset t ≡ false → cond (b && ltb r.offset t) r.work 0 ≡ 0
    go true g = rw g refl
    go false g = refl

-- Where those that come before t are taken in and no other, the places have what all releases add before t.
pub all_early : (rises : List Rise) (taken t count : ℕ) (values : List ℕ) → AreReady count rises → IsTaken rises taken t values → count ≡ length values
    → (taken < length rises → t ≤ (rise_of rises taken).offset) → values ≡ heights rises count t
all_early rises taken t count values ready is same late =
    ext_get_or 0 values (heights rises count t) (omega (arith, same, length-map-range_with_len (λ p. risen_at_place rises t p) 0 count)) each
  where
    later : All (λ r. t ≤ r.offset) (drop taken rises)
    later = All-from_get_or (λ (r : Rise). t ≤ r.offset) (drop taken rises) no_rise go
      where
        go : (k : ℕ) → k < length (drop taken rises) → t ≤ (get_or (drop taken rises) k no_rise).offset
        go k l =
            let n = length-drop taken rises in
            let o = ready.order taken (taken + k) no_rise (omega arith) (omega (arith, n)) in
            let e = ap (λ (r : Rise). r.offset) (get_or-drop taken rises k no_rise) in
            let f = late (omega (arith, n)) in
            omega (arith, o, e, f)

    each : (p : ℕ) → p < length values → get_or values p 0 ≡ get_or (heights rises count t) p 0
    each p l =
        let at = get_or-map-range_with_len (λ p. risen_at_place rises t p) 0 count p p 0 (omega (arith, same)) (omega arith) in
        let old = ap (λ (vs : List ℕ). get_or vs p 0) is.sums ∙ totals_at (take taken rises) (length values) p l in
        let early = early_sum t p (take taken rises) is.early in
        let none = late_sum t p (drop taken rises) later in
        let both = sum_by-take-drop (λ r. added t p r) rises taken in
        omega (arith, at, old, early, none, both)

-- What is taken in before one time is so before a later one.
pub taken_later : (rises : List Rise) (taken t u : ℕ) (values : List ℕ) → t ≤ u → IsTaken rises taken t values → IsTaken rises taken u values
taken_later rises taken t u values l is = record {
  within = is.within;
  early = All-weaker (λ (r : Rise). r.offset < t) (λ (r : Rise). r.offset < u) (λ r m. omega arith) (take taken rises) is.early;
  sums = is.sums;
}

-- The query that is answered at turn j.
abbrev pub turn : List Query → List ℕ → ℕ → Query
turn queries order j = get_or queries (get_or order j 0) no_query

-- After k turns, where the rooms were those before.
pub record IsSwept (queries : List Query) (order firsts sizes : List ℕ) (count : ℕ) (rises : List Rise) (before : List ℕ) (k done : ℕ) (reached rooms : List ℕ) : Type 0 where
  pub width : length reached ≡ count
  pub taken : (j : ℕ) → k ≤ j → j < length order → IsTaken rises done (query_time queries (get_or order j 0)) reached
  pub many : length rooms ≡ length before
  pub left : (j : ℕ) → j < k → j < length order → get_or rooms (get_or order j 0) 0 + answer firsts sizes count rises (turn queries order j) ≡ get_or before (get_or order j 0) 0
  pub same : (j : ℕ) → k ≤ j → j < length order → get_or rooms (get_or order j 0) 0 ≡ get_or before (get_or order j 0) 0

all_range : (n : ℕ) → All (λ k. k < n) (range_with_len 0 n)
all_range n = All-from_get_or (λ k. k < n) (range_with_len 0 n) 0 (λ i l. (let m : i < n = omega (arith, length-range_with_len 0 n) in omega (arith, get_or-range_with_len 0 n i 0 m)))

-- Each turn has a query.
pub turn_within : (queries : List Query) (order : List ℕ) → IsInOrder queries order → (j : ℕ) → j < length order → get_or order j 0 < length queries
turn_within queries order is j l = All-permutation (λ k. k < length queries) (range_with_len 0 (length queries)) order is.all (all_range (length queries)) j 0 l

eqb_flips : (x y : ℕ) → eqb x y ≡ eqb y x
eqb_flips x y = go (cases_eq x y)
  where
    go : (x ≡ y) ⊎ (x ≢ y) → eqb x y ≡ eqb y x
    go (inl e) = eq-eqb x y e ∙ sym (eq-eqb y x (sym e))
    go (inr differ) = ne_eqb x y differ ∙ sym (ne_eqb y x (λ e. differ (sym e)))

-- No two turns have the same query.
turn_once : (queries : List Query) (order : List ℕ) → IsInOrder queries order → (i j : ℕ) → i < j → j < length order → get_or order i 0 ≢ get_or order j 0
turn_once queries order is i j l m = eqb-false (get_or order i 0) (get_or order j 0) (apart_from_distinct eqb order i j 0 once l m)
  where
    n : ℕ
    n = length queries

    apart : (i j d : ℕ) → i < j → j < length (range_with_len 0 n) → eqb (get_or (range_with_len 0 n) i d) (get_or (range_with_len 0 n) j d) ≡ false
    apart i j d l m = ne_eqb (get_or (range_with_len 0 n) i d) (get_or (range_with_len 0 n) j d) (λ same. (
        let k : j < n = omega (arith, m, length-range_with_len 0 n) in
        omega (arith, same, get_or-range_with_len 0 n i d (omega arith), get_or-range_with_len 0 n j d k)))

    once : IsDistinct eqb order
    once = IsDistinct-IsPermutation eqb eqb_flips (range_with_len 0 n) order is.all (IsDistinct-from_apart eqb (range_with_len 0 n) apart)

pub swept_first : (queries : List Query) (order firsts sizes : List ℕ) (count : ℕ) (rises : List Rise) (before reached : List ℕ) → reached ≡ replicate count 0
    → IsSwept queries order firsts sizes count rises before 0 0 reached before
swept_first queries order firsts sizes count rises before reached e = record {
  width = wide;
  taken = λ j l m. record {
    within = omega arith;
    early = All-nil (λ (r : Rise). r.offset < query_time queries (get_or order j 0));
    sums = e ∙ (totals_none count ∙ ap (totals []) (sym wide));
  };
  many = refl;
  left = λ j l m. absurd (omega arith);
  same = λ j l m. refl;
}
  where
    wide : length reached ≡ count
    wide = ap length e ∙ length-replicate count 0

-- What is found at a turn is the answer to its query.
pub answer_found : (queries : List Query) (order firsts sizes : List ℕ) (count : ℕ) (rises : List Rise) (before : List ℕ) (k taken taken' value : ℕ) (reached reached' rooms : List ℕ)
    → AreReady count rises → IsSwept queries order firsts sizes count rises before k taken reached rooms
    → IsTaken rises taken' (query_time queries (get_or order k 0)) reached' → length reached' ≡ length reached
    → (taken' < length rises → query_time queries (get_or order k 0) ≤ (rise_of rises taken').offset)
    → (reached' ≡ heights rises count (query_time queries (get_or order k 0)) → value ≡ answer firsts sizes count rises (turn queries order k))
    → value ≡ answer firsts sizes count rises (turn queries order k)
answer_found queries order firsts sizes count rises before k taken taken' value reached reached' rooms ready swept new same late answers =
    answers (all_early rises taken' (query_time queries (get_or order k 0)) count reached' ready new (sym (same ∙ swept.width)) late)

-- One turn more, at which the answer is taken from its room.
pub swept_next : (queries : List Query) (order firsts sizes : List ℕ) (count : ℕ) (rises : List Rise) (before : List ℕ) (k taken taken' value room : ℕ) (reached reached' rooms : List ℕ)
    → IsInOrder queries order → length before ≡ length queries → k < length order → IsSwept queries order firsts sizes count rises before k taken reached rooms
    → IsTaken rises taken' (query_time queries (get_or order k 0)) reached' → length reached' ≡ length reached
    → value ≡ answer firsts sizes count rises (turn queries order k) → room + value ≡ get_or rooms (get_or order k 0) 0
    → IsSwept queries order firsts sizes count rises before (k + 1) taken' reached' (set rooms (get_or order k 0) room)
swept_next queries order firsts sizes count rises before k taken taken' value room reached reached' rooms is many l swept new same found spent = record {
  width = same ∙ swept.width;
  taken = λ j p q. taken_later rises taken' (query_time queries (get_or order k 0)) (query_time queries (get_or order j 0)) reached' (is.times k j 0 (omega arith) q) new;
  many = length-set rooms (get_or order k 0) room ∙ swept.many;
  left = λ j p q. go j p q (cases_lt j k);
  same = λ j p q. get_or-set_other rooms (get_or order k 0) (get_or order j 0) room 0 (λ e. turn_once queries order is k j (omega arith) q (sym e)) ∙ swept.same j (omega arith) q;
}
  where
    go : (j : ℕ) → j < k + 1 → j < length order → (j < k) ⊎ (k ≤ j)
        → get_or (set rooms (get_or order k 0) room) (get_or order j 0) 0 + answer firsts sizes count rises (turn queries order j) ≡ get_or before (get_or order j 0) 0
    go j p q (inl less) =
        let other = get_or-set_other rooms (get_or order k 0) (get_or order j 0) room 0 (turn_once queries order is j k less l) in
        omega (arith, other, swept.left j less q)
    go j p q (inr last) =
        let e : j ≡ k = omega arith in
        let inside : get_or order k 0 < length rooms = (let w = turn_within queries order is k l in omega (arith, w, swept.many, many)) in
        let at = get_or-set_same rooms (get_or order k 0) room 0 inside in
        let here : get_or (set rooms (get_or order k 0) room) (get_or order k 0) 0 + answer firsts sizes count rises (turn queries order k) ≡ get_or before (get_or order k 0) 0 =
        omega (arith, at, found, spent, swept.same k (omega arith) l) in
        rw e here

-- Where an answer doesn't fit into its room, not all do.
pub swept_stops : (queries : List Query) (order firsts sizes : List ℕ) (count : ℕ) (rises : List Rise) (before : List ℕ) (k taken value : ℕ) (reached rooms : List ℕ) → IsInOrder queries order
    → k < length order → IsSwept queries order firsts sizes count rises before k taken reached rooms → value ≡ answer firsts sizes count rises (turn queries order k)
    → AreValuesWithin (map (answer firsts sizes count rises) queries) before → value ≤ get_or rooms (get_or order k 0) 0
swept_stops queries order firsts sizes count rises before k taken value reached rooms is l swept found within =
    let inside = turn_within queries order is k l in
    let at = get_or-map (answer firsts sizes count rises) queries (get_or order k 0) no_query 0 inside in
    let fits = within (get_or order k 0) (omega (arith, inside, length-map queries (answer firsts sizes count rises))) in
    omega (arith, found, at, fits, swept.same k (omega arith) l)

-- After all turns each query's answer is taken from its room.
pub swept_all : (queries : List Query) (order firsts sizes : List ℕ) (count : ℕ) (rises : List Rise) (before : List ℕ) (k taken : ℕ) (reached rooms : List ℕ) → IsInOrder queries order
    → length order ≤ k → IsSwept queries order firsts sizes count rises before k taken reached rooms → AreLeft (map (answer firsts sizes count rises) queries) before rooms
swept_all queries order firsts sizes count rises before k taken reached rooms is l swept n m =
    omega (arith, found, get_or-map (answer firsts sizes count rises) queries n no_query 0 inside)
  where
    Spent : ℕ → Type 0
    Spent i = get_or rooms i 0 + answer firsts sizes count rises (get_or queries i no_query) ≡ get_or before i 0

    turns : All Spent order
    turns = All-from_get_or Spent order 0 (λ j m. swept.left j (omega arith) m)

    all : All Spent (range_with_len 0 (length queries))
    all = All-permutation Spent order (range_with_len 0 (length queries)) (IsPermutation-sym (range_with_len 0 (length queries)) order is.all) turns

    inside : n < length queries
    inside = omega (arith, m, length-map queries (answer firsts sizes count rises))

    found : Spent n
    found =
        let at : get_or (range_with_len 0 (length queries)) n 0 ≡ n = (let e = get_or-range_with_len 0 (length queries) n 0 inside in omega (arith, e)) in
        subst Spent at (all n 0 (omega (arith, inside, length-range_with_len 0 (length queries))))

-- What was taken fits.
pub within_left : (values rooms left : List ℕ) → AreLeft values rooms left → AreValuesWithin values rooms
within_left values rooms left are k l = omega (arith, are k l)

pub range_more : (n : ℕ) → range_with_len 0 (n + 1) ≡ range_with_len 0 n ++ n ∷ []
range_more n =
    sym (map-id (range_with_len 0 (n + 1)))
    ∙ (map-range_with_len_more (λ (k : ℕ). k) 0 n n (omega arith) ∙ ap (λ (xs : List ℕ). xs ++ n ∷ []) (map-id (range_with_len 0 n)))

-- The query of a turn has its places among those that there are.
pub turn_run : (queries : List Query) (order firsts sizes : List ℕ) (count j : ℕ) → IsInOrder queries order → j < length order → All (HasRunOfPlaces firsts sizes count) queries
    → HasRunOfPlaces firsts sizes count (turn queries order j)
turn_run queries order firsts sizes count j is l runs = runs (get_or order j 0) no_query (turn_within queries order is j l)

-- A run from its first place to its end, by its size.
pub run_sized : (values : List ℕ) (first size : ℕ) → slice_range values first (first + size) ≡ take size (drop first values)
run_sized values first size = ap (λ n. take n (drop first values)) (plain first size)
  where
    plain : (m n : ℕ) → m + n - m ≡ n
    plain m n = omega arith
