-- Each kind of step keeps the rule of a lane.
use Rattle.std.proofs.Common.{◌≡◌, ◌≢◌, ℕ, zero, suc, ◌+◌, ◌<◌, ◌≤◌, max, List, [], ◌∷◌}
use Rattle.std.proofs.Common.{length, get_or, set, sym, refl, ap, ◌∙◌, subst, inl, inr, ◌⊎◌, ⊎_elim, arith, length-set}
use mathlib.Core.Logic.{dite}
use mathlib.Core.Option.{some, none, some-ne-none}
use native.Mathlib.Decide.{ℕ_discrete, dec_le}
use lib.ListN.{get_elem?}
use lib.Seq.{set-get_or}
use Rattle.atomic_table.specs.Table.{State, Me, step, keeps, Allows, Splits, Joins, opening, Final, Seen}
use Rattle.atomic_table.proofs.Lists.{at_snoc, set_here, set_else}
use Rattle.drt_wave.specs.Net.{Net, IsNet, Among, Reaches, Reached, IsGreatestReaching}
use Rattle.drt_wave.specs.Sums.{greatest_by}
use Rattle.drt_wave.specs.Lanes.{most, fresh_lane, spent_lane, lane_left, lane_right, lane_joined, lane_raised, lane_knowing, Settled, Knows, IsRead, InLane, glanced, raises}
use Rattle.drt_wave.specs.declared.view.LaneView.{LaneView}
use Rattle.drt_wave.proofs.Sums.{total-append, total-set, greatest-append, greatest-set, greatest-drop, greatest_term, greatest_at, among-append}
use Rattle.drt_wave.proofs.Sums.{most_more, most-append, most_among, among_most, at_inside, all_set, word_here, word_there}
use Rattle.drt_wave.proofs.Bests.{positive, best_of, best_same}

-- what holds of a pair's numbers holds of those of an equal one
same_pair : (P : ℕ → ℕ → Type 0) (o x d y : ℕ) → P o x → ◌≡◌ {A = ℕ × ℕ} (o, x) (d, y) → P d y
same_pair P o x d y holds e = subst (λ (q : ℕ × ℕ). P q.0 q.1) e holds

module _ {F : Type 0} where
  -- where a seat contributes nothing
  same_raised : (views : List (LaneView F)) (id : ℕ) (v w : LaneView F) (o : ℕ) → get_elem? views id ≡ some v → w.raised ≡ v.raised
      → greatest_by (λ u. most o u.raised) (set views id w) ≡ greatest_by (λ u. most o u.raised) views
  same_raised views id v w o me e =
      let same : most o w.raised ≡ most o v.raised = ap (most o) e in
      omega (arith, greatest-set (λ (u : LaneView F). most o u.raised) views id 0 v w me (omega arith))

module _ {F : Type 0} (net : F → Net) (first count : F → ℕ) (key : F) where
  -- words grow, and not beyond their greatest work
  abbrev Grows : List ℕ → List ℕ → Type 0
  Grows old new = (o : ℕ) → o < count key → IsGreatestReaching (net key) (first key + o) (get_or old o 0) → get_or new o 0 ≡ get_or old o 0

  -- each word of the first n whose cell is of a wave up to j is final
  abbrev AreBest : List ℕ → ℕ → ℕ → Type 0
  AreBest ws j n = (o : ℕ) → o < n → (net key).wave (first key + o) ≤ j → IsGreatestReaching (net key) (first key + o) (get_or ws o 0)

  knows_later : (old new : List ℕ) (v : LaneView F) → Grows old new → Knows net first count key old v → Knows net first count key new v
  knows_later old new v grows k = record {
    some = k.some;
    idle = k.idle;
    same = k.same;
    reached = k.reached;
    final = λ o lt low. let best = k.final o lt low in subst (IsGreatestReaching (net key) (first key + o)) (sym (grows o lt best)) best;
  }

module _ {S F : Type 0} (net : F → Net) (first count : F → ℕ) (key : F) where
  abbrev Holds : State S (LaneView F) → Type 0
  Holds = InLane net first count key

  module _ (s : State S (LaneView F)) (h : Holds s) where
    -- a cell that is not 0 holds the work of a chain
    cell_reached : (o : ℕ) → o < count key → get_or s.words o 0 ≢ 0 → Reached (net key) (first key + o) (get_or s.words o 0)
    cell_reached o lt ne =
        let most_of : LaneView F → ℕ = λ v. most o v.raised in let c : ℕ = first key + o in
        let is : get_or s.words o 0 ≡ max ((net key).opens c) (greatest_by most_of s.views) = h.cell o lt in
        let within = h.within in
        dite (dec_le (greatest_by most_of s.views) ((net key).opens c))
        (λ le. (zero, (omega (arith, within, lt), omega arith, omega (arith, is))))
        (λ nle.
        let at = greatest_at most_of s.views (omega arith) in
        let whole : most o at.1.raised ≡ get_or s.words o 0 = omega (arith, at.3, is) in
        subst (Reached (net key) c) whole ((h.each at.0 at.1 at.2).reached o (most o at.1.raised) (most_among o at.1.raised (omega arith))))

    contribution_le : (i : ℕ) (v : LaneView F) (o x : ℕ) → get_elem? s.views i ≡ some v → o < count key → Among (o, x) v.raised → x ≤ get_or s.words o 0
    contribution_le i v o x at lt a =
        let most_of : LaneView F → ℕ = λ v. most o v.raised in
        omega (arith, h.cell o lt, greatest_term most_of s.views i v at, among_most o x v.raised a)

    -- where a seat passed on all that a cell gets, the cell has its greatest work
    settled_best : (i : ℕ) (v : LaneView F) (o j : ℕ) → get_elem? s.views i ≡ some v → o < count key → Settled net first count key v j
        → (net key).wave (first key + o) ≤ j + 1 → IsGreatestReaching (net key) (first key + o) (get_or s.words o 0)
    settled_best i v o j at lt settled low = (cell_reached o lt, λ y r. least y r.0 r.1) where
      least : (y n : ℕ) → Reaches (net key) n (first key + o) y → y ≤ get_or s.words o 0
      least y zero r = omega (arith, h.cell o lt, r.2)
      least y (suc n) r =
          let b = r.0 in let x = r.1 in let w = r.2 in
          let on = h.lawful.onward b (first key + o) w r.3 r.5 in
          let d = settled b r.3 (omega (arith, on.2, low)) in
          let le : x ≤ d.0 = d.1.1 x (n, r.4) in
          let some_work = positive (net key) n b x r.4 in
          let passed = contribution_le i v o (d.0 + w) at lt (d.2 (omega arith) o w lt r.5) in
          omega (arith, r.6)

  -- a step of the seat id, which goes from v to w
  moved : (s : State S (LaneView F)) (h : Holds s) (id : ℕ) (v w : LaneView F) (ws : List ℕ) → get_elem? s.views id ≡ some v
      → w.parts ≡ v.parts → length ws ≡ length s.words
      → ((o : ℕ) → o < count key → get_or ws o 0 ≡ max ((net key).opens (first key + o)) (greatest_by (λ u. most o u.raised) (set s.views id w)))
      → Grows net first count key s.words ws → Knows net first count key ws w
      → Holds record { words = ws; homes = s.homes; views = set s.views id w }
  moved s h id v w ws me same_parts same_length cell grows mine = record {
    lawful = h.lawful;
    wide = same_length ∙ h.wide;
    within = h.within;
    parts = omega (arith, h.parts, total-set (λ (u : LaneView F). u.parts) s.views id v w me);
    cell = cell;
    each = all_set (λ u. Knows net first count key ws u) s.views id w mine (λ j u at. knows_later net first count key s.words ws u grows (h.each j u at));
  }

  pub raised_to : (slots id o x : ℕ) (m : Me S (LaneView F)) → 0 < m.0.parts → o < count key → Reached (net key) (first key + o) x
      → Allows Holds slots id m o (λ n. max n x) (raises (step slots o x 0 none) m)
  raised_to slots id o x m part lt reached s h long me small =
      let g = net key in
      let v : LaneView F = m.0 in let w : LaneView F = lane_raised v o x in let n : ℕ = get_or s.words o 0 in let ws : List ℕ = set s.words o (max n x) in let k = h.each id v me in
      let inside : o < length s.words = omega (arith, h.wide, lt) in
      let most_of : ℕ → LaneView F → ℕ = λ d u. most d u.raised in
      let grows : Grows net first count key s.words ws = λ d ltd best. dite (ℕ_discrete d o)
      (λ e. let now : get_or ws d 0 ≡ max n x = ap (λ i. get_or ws i 0) e ∙ word_here s.words o (max n x) inside in let old : get_or s.words d 0 ≡ n = ap (λ i. get_or s.words i 0) e in
      let le = best.1 x (subst (λ i. Reached g (first key + i) x) (sym e) reached) in omega arith)
      (λ ne. word_there s.words o d (max n x) ne) in (
        w,
        keeps,
        tt,
        moved s h id v w ws me refl (length-set s.words o _)
            (λ d ltd. let more = most_more d o x v.raised in dite (ℕ_discrete d o)
            (λ e. let now : get_or ws d 0 ≡ max n x = ap (λ i. get_or ws i 0) e ∙ word_here s.words o (max n x) inside in let old : get_or s.words d 0 ≡ n = ap (λ i. get_or s.words i 0) e in
            omega (arith, h.cell d ltd, greatest-set (most_of d) s.views id x v w me (more.0 e)))
            (λ ne. let same : most_of d w ≡ max (most_of d v) 0 = omega (arith, more.1 ne) in
            omega (arith, word_there s.words o d (max n x) ne, h.cell d ltd, greatest-set (most_of d) s.views id 0 v w me same)))
            grows
            record {
              some = λ _ _. part;
              idle = λ none. absurd (omega arith);
              same = k.same;
              reached = λ d y a. ⊎_elim (same_pair (λ i z. Reached g (first key + i) z) o x d y reached) (k.reached d y) a;
              final = λ d ltd low. let best = k.final d ltd low in subst (IsGreatestReaching g (first key + d)) (sym (grows d ltd best)) best;
            },
        refl,
      )

  -- a load, after which the seat knows this
  looked : (s : State S (LaneView F)) (h : Holds s) (id o : ℕ) (v w : LaneView F) → get_elem? s.views id ≡ some v → w.parts ≡ v.parts → w.raised ≡ v.raised → Knows net first count key s.words w
      → Holds record { words = set s.words o (get_or s.words o 0); homes = s.homes; views = set s.views id w }
  looked s h id o v w me parts raised mine =
      subst (λ ws. Holds record { words = ws; homes = s.homes; views = set s.views id w }) (sym (set-get_or s.words o 0))
      (moved s h id v w s.words me parts refl (λ d ltd. omega (arith, h.cell d ltd, same_raised s.views id v w d me raised)) (λ d ltd best. refl) mine)

  -- whether they are
  are_best : (s : State S (LaneView F)) → Holds s → (j n : ℕ) → n ≤ count key → AreBest net first count key s.words j n ⊎ (AreBest net first count key s.words j n → ⊥)
  are_best s h j zero le = inl (λ o lt low. absurd (omega arith))
  are_best s h j (suc n) le = ⊎_elim
      (λ (yes : AreBest net first count key s.words j n). dite (dec_le ((net key).wave (first key + n)) j)
      (λ low.
      let b = best_of (net key) h.lawful (first key + n) (omega (arith, h.within)) in
      dite (ℕ_discrete (get_or s.words n 0) b.0)
      (λ e. inl (λ o lt low'. dite (ℕ_discrete o n)
      (λ same. subst (λ i. IsGreatestReaching (net key) (first key + i) (get_or s.words i 0)) (sym same) (subst (IsGreatestReaching (net key) (first key + n)) (sym e) b.1))
      (λ ne. yes o (omega (arith, ne)) low')))
      (λ ne. inr (λ all. ne (best_same (net key) (first key + n) (get_or s.words n 0) b.0 (all n (omega arith) low) b.1))))
      (λ high. inl (λ o lt low'. dite (ℕ_discrete o n)
      (λ same. absurd (high (subst (λ i. (net key).wave (first key + i) ≤ j) same low')))
      (λ ne. yes o (omega (arith, ne)) low'))))
      (λ (no : AreBest net first count key s.words j n → ⊥). inr (λ all. no (λ o lt low. all o (omega arith) low)))
      (are_best s h j n (omega arith))

  -- What a seat knows after it read a cell of wave j: also wave j + 1, where that is final.
  learns : (s : State S (LaneView F)) (h : Holds s) (id j : ℕ) (v : LaneView F) → get_elem? s.views id ≡ some v
      → (k : ℕ) × Knows net first count key s.words (lane_knowing v k) × (v.known ≤ k) × (Settled net first count key v j → j + 1 ≤ k)
  learns s h id j v me =
      let k = h.each id v me in
      ⊎_elim
      (λ (yes : AreBest net first count key s.words (j + 1) (count key)). (
        max v.known (j + 1),
        record {
          some = k.some;
          idle = k.idle;
          same = k.same;
          reached = k.reached;
          final = λ o lt low. dite (dec_le ((net key).wave (first key + o)) v.known) (λ le. k.final o lt le) (λ nle. yes o lt (omega arith));
        },
        omega arith,
        λ _. omega arith,
      ))
      (λ (no : AreBest net first count key s.words (j + 1) (count key) → ⊥). (
        v.known,
        record { some = k.some; idle = k.idle; same = k.same; reached = k.reached; final = k.final },
        omega arith,
        λ settled. absurd (no (λ o lt low. settled_best s h id v o j me lt settled low)),
      ))
      (are_best s h (j + 1) (count key) (omega arith))

  pub glances : (slots id o : ℕ) (m : Me S (LaneView F)) → o < count key → Allows Holds slots id m o (λ n. n) (glanced net first count (step slots o 0 0 none) m)
  glances slots id o m lt s h long me small =
      let v : LaneView F = m.0 in let j : ℕ = (net key).wave (first key + o) in let n : ℕ = get_or s.words o 0 in let k = h.each id v me in
      let knows = learns s h id j v me in let a : ℕ = knows.0 in let w : LaneView F = lane_knowing v a in
      let read : IsRead net first key v o n = record {
        opened = omega (arith, h.cell o lt);
        own = λ x c. contribution_le s h id v o x me lt c;
        reached = cell_reached s h o lt;
        best = λ low. k.final o lt low;
      } in (
        w,
        keeps,
        tt,
        looked s h id o v w me refl refl knows.1,
        (
          a,
          refl,
          knows.2,
          λ f e. subst (λ f. IsRead net first f v o n × (Settled net first count f v ((net f).wave (first f + o)) → (net f).wave (first f + o) + 1 ≤ a)) (sym (k.same f e)) (read, knows.3),
        ),
      )

  pub splits : (id : ℕ) (v : LaneView F) → 1 < v.parts → Splits Holds id v (lane_left v) (lane_right v)
  splits id v two s h me =
      let l : LaneView F = lane_left v in let r : LaneView F = lane_right v in let vs : List (LaneView F) = set s.views id l in let k = h.each id v me in
      let most_of : ℕ → LaneView F → ℕ = λ d u. most d u.raised in
      let knows : (i : ℕ) (u : LaneView F) → get_elem? vs i ≡ some u → Knows net first count key s.words u = all_set (λ u. Knows net first count key s.words u) s.views id l
      record {
        some = λ _ _. omega (arith, two);
        idle = λ none. absurd (omega arith);
        same = k.same;
        reached = k.reached;
        final = k.final;
      }
      h.each in
      record {
        lawful = h.lawful;
        wide = h.wide;
        within = h.within;
        parts = omega (arith, h.parts, total-append (λ (u : LaneView F). u.parts) vs (r ∷ []), total-set (λ (u : LaneView F). u.parts) s.views id v l me);
        cell = λ d ltd. omega (arith, h.cell d ltd, greatest-append (most_of d) vs (r ∷ []), same_raised s.views id v l d me refl);
        each = λ i u at. ⊎_elim (λ (was : get_elem? vs i ≡ some u). knows i u was)
            (λ (e : r ≡ u). subst (Knows net first count key s.words) e
            record {
              some = λ _ _. omega arith;
              idle = λ _. refl;
              same = k.same;
              reached = λ o x a. absurd a;
              final = k.final;
            })
            (at_snoc vs r u i at);
      }

  pub joins : (id : ℕ) (v : LaneView F) (other : ℕ) (w : LaneView F) → 0 < v.parts → Joins Holds id v other w (lane_joined v w) spent_lane
  joins id v other w part s h me ne at' =
      let b : LaneView F = lane_joined v w in let e : LaneView F = spent_lane in let vs : List (LaneView F) = set s.views id b in let us : List (LaneView F) = set vs other e in
      let k = h.each id v me in
      let was : get_elem? s.views other ≡ some w = sym (set_else s.views id other b ne) ∙ at' in
      let kw = h.each other w was in
      let most_of : ℕ → LaneView F → ℕ = λ d u. most d u.raised in
      let here_now : get_elem? vs id ≡ some b = set_here s.views id b (at_inside s.views id v me) in
      record {
        lawful = h.lawful;
        wide = h.wide;
        within = h.within;
        parts = omega (arith, h.parts, total-set (λ (u : LaneView F). u.parts) s.views id v b me, total-set (λ (u : LaneView F). u.parts) vs other w e at');
        cell = λ d ltd.
            let sum : most_of d b ≡ max (most_of d v) (most_of d w) = omega (arith, most-append d w.raised v.raised) in
            let grown = greatest-set (most_of d) s.views id (most_of d w) v b me sum in
            let dropped = greatest-drop (most_of d) vs other id w e b (λ p. ne (sym p)) at' here_now (omega arith) (omega arith) in
            omega (arith, h.cell d ltd, grown, dropped, greatest_term (most_of d) s.views other w was);
        each = all_set (λ u. Knows net first count key s.words u) vs other e
            record {
              some = λ f no. cc;
              idle = λ _. refl;
              same = λ f no. cc;
              reached = λ o x a. absurd a;
              final = λ o lt low. k.final o lt (omega arith);
            }
            (all_set (λ u. Knows net first count key s.words u) s.views id b
            record {
              some = λ _ _. omega (arith, part);
              idle = λ none. absurd (omega arith);
              same = k.same;
              reached = λ o x a. ⊎_elim (λ (p : Among (o, x) w.raised). kw.reached o x p) (λ (q : Among (o, x) v.raised). k.reached o x q) (among-append (o, x) w.raised v.raised a);
              final = λ o lt low. dite (dec_le ((net key).wave (first key + o)) v.known) (λ le. k.final o lt le) (λ nle. kw.final o lt (omega arith));
            }
            h.each);
      }

  -- the lane at the start
  pub opens_so : (ws : List ℕ) → IsNet (net key) → length ws ≡ count key → first key + count key ≤ (net key).cells → ((o : ℕ) → o < count key → get_or ws o 0 ≡ (net key).opens (first key + o))
      → Holds (opening ws [] (fresh_lane key 1024))
  opens_so ws lawful wide within cells = let first_view : LaneView F = fresh_lane key 1024 in record {
    lawful = lawful;
    wide = wide;
    within = within;
    parts = refl;
    cell = λ o lt. omega (arith, cells o lt);
    each = λ i v at. ⊎_elim (λ (x : get_elem? [] i ≡ some v). absurd (some-ne-none v (sym x)))
        (λ (e : first_view ≡ v). subst (Knows net first count key ws) e
        record {
          some = λ _ _. omega arith;
          idle = λ _. refl;
          same = λ f e. cc;
          reached = λ o x a. absurd a;
          final = λ o lt low. (
            (λ ne. (zero, (omega arith, omega arith, cells o lt))),
            (λ y r. least o lt low y r.0 r.1),
          );
        })
        (at_snoc [] first_view v i at);
  } where
    least : (o : ℕ) → o < count key → (net key).wave (first key + o) ≤ 0 → (y n : ℕ) → Reaches (net key) n (first key + o) y → y ≤ get_or ws o 0
    least o lt low y zero r = omega (arith, cells o lt, r.2)
    least o lt low y (suc n) r = let on = lawful.onward r.0 (first key + o) r.2 r.3 r.5 in absurd (omega (arith, on.2))

  -- at the end each word that the seat knows as final is the greatest work of its cell
  pub closes_known : (id : ℕ) (v : LaneView F) (ws : List ℕ) (xs : List S) → ((o : ℕ) → o < count key → (net key).wave (first key + o) ≤ v.known) → Final (Seen Holds id v) ws xs
      → (o : ℕ) → o < length ws → IsGreatestReaching (net key) (first key + o) (get_or ws o 0)
  closes_known id v ws xs known fin o lt =
      let s = fin.0 in let h = fin.1.0 in let me = fin.1.1 in
      let inside : o < count key = subst (λ n. o < n) (sym (ap length fin.2) ∙ h.wide) lt in
      subst (λ (l : List ℕ). IsGreatestReaching (net key) (first key + o) (get_or l o 0)) fin.2 ((h.each id v me).final o inside (known o inside))
