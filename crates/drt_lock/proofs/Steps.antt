-- Each kind of step keeps the rule.
use Rattle.std.proofs.Common.{◌≡◌, ◌≢◌, ℕ, ◌+◌, ◌%◌, ◌^◌, ◌<◌, ◌≤◌, ◌==◌, List, [], ◌∷◌, length, get_or, set, sym, refl, ap, ◌∙◌, subst, ⊎_elim, arith, Some, length-set, get_or-set_same, get_or-set_other}
use Rattle.std.proofs.Math.Nat.{mod-eq_of_lt}
use mathlib.Core.Logic.{dite}
use mathlib.Core.Option.{Option, some, none, some-injective, some-ne-none}
use native.Mathlib.Decide.{ℕ_discrete}
use lib.ListN.{get_elem?}
use prog.Atomic.{either}
use lib.Seq.{set-get_or}
use Rattle.atomic_table.specs.Table.{State, Me, step, keeps, takes, gives, put_back, Allows, Splits, Joins, rest, opening, Final, Seen}
use Rattle.atomic_table.proofs.Lists.{at_set, at_snoc, set_here, set_again}
use Rattle.drt_worklist.specs.Places.{total}
use Rattle.drt_worklist.proofs.Lists.{total_join}
use Rattle.drt_lock.specs.Rule.{locking, working, Fits, locks, works, with_grip, fresh, spent, split_left, split_right, joined, working_at, one_more, IsKnown, IsLocked, grabbed, took, counted, left}
use Rattle.drt_lock.specs.declared.view.SeatView.{SeatView}
use Rattle.drt_lock.specs.declared.view.Grip.{Grip}
use Rattle.drt_lock.specs.declared.view.Grip.TheVariants.{Away, Locked, Working}
use Rattle.drt_lock.proofs.Sums.{total-set, term_le, terms_le, total-zero, total-one}

-- a seat that has no lock
fits_free : (count count' read : ℕ) (t : Grip) → locking t ≡ 0 → Fits count read t → Fits count' read t
fits_free count count' read Away e f = tt
fits_free count count' read Locked e f = tt
fits_free count count' read Working e f = absurd (omega (arith, e))

few_works : (t : Grip) → locking t ≡ 0 → working t ≡ 0
few_works Away e = refl
few_works Locked e = refl
few_works Working e = absurd (omega (arith, e))

module _ {S F : Type 0} (fixed : S → F) (entries : S → ℕ) (key : F) where
  abbrev Holds : State S (SeatView F) → Type 0
  Holds = IsLocked fixed entries key

  abbrev HomeAt : List (Option S) → ℕ → Type 0
  HomeAt hs count = (y : S) × (get_elem? hs 0 ≡ some (some y)) × (fixed y ≡ key) × (entries y ≡ count)

  all_set : (P : ℕ → SeatView F → Type 0) (views : List (SeatView F)) (id : ℕ) (w : SeatView F) → P id w → ((j : ℕ) (u : SeatView F) → j ≢ id → get_elem? views j ≡ some u → P j u)
      → (j : ℕ) (u : SeatView F) → get_elem? (set views id w) j ≡ some u → P j u
  all_set P views id w mine others j u e = ⊎_elim (λ (x : (j ≡ id) × (w ≡ u)). subst (λ (y : ℕ × SeatView F). P y.0 y.1) (λ i. (sym x.0 i, x.1 i)) mine)
      (λ (x : (j ≢ id) × (get_elem? views j ≡ some u)). others j u x.0 x.1) (at_set views id j w u e)

  -- a step of the seat id, which goes from v to w
  moved : (s : State S (SeatView F)) (h : Holds s) (id : ℕ) (v w : SeatView F) (ws : List ℕ) (hs : List (Option S)) (held count : ℕ) → get_elem? s.views id ≡ some v
      → w.parts ≡ v.parts → w.fixed ≡ v.fixed → 0 < v.parts → locks w ≤ 1
      → length ws ≡ 2 → get_or ws 0 0 ≡ held → held ≤ 1 → get_or ws 1 0 ≡ count
      → held + locks v ≡ get_or s.words 0 0 + locks w
      → count + v.count ≡ get_or s.words 1 0 + w.count
      → Fits count w.read w.grip
      → ((j : ℕ) (u : SeatView F) → j ≢ id → get_elem? s.views j ≡ some u → Fits (get_or s.words 1 0) u.read u.grip → Fits count u.read u.grip)
      → (total works (set s.views id w) ≡ 0 → HomeAt hs count)
      → Holds record { words = ws; homes = hs; views = set s.views id w }
  moved s h id v w ws hs held count me same_parts same_fixed some_part few wide w0 small w1 between counts fits others home = record {
    wide = wide;
    single = omega (arith, w0, small);
    held = omega (arith, h.held, w0, between, total-set locks s.views id v w me);
    parts = omega (arith, h.parts, total-set (λ (u : SeatView F). u.parts) s.views id v w me);
    counts = omega (arith, h.counts, total-set (λ (u : SeatView F). u.count) s.views id v w me);
    each = all_set (λ j u. IsKnown key (get_or ws 1 0) u) s.views id w
        record { part = omega arith; idle = λ none. absurd (omega arith); same = λ f e. (h.each id v me).same f (sym same_fixed ∙ e); fits = subst (λ c. Fits c w.read w.grip) (sym w1) fits }
        (λ j u ne at. let k = h.each j u at in record { part = k.part; idle = k.idle; same = k.same; fits = subst (λ c. Fits c u.read u.grip) (sym w1) (others j u ne at k.fits) });
    home = λ z. let t = home z in (t.0, t.1, t.2, t.3 ∙ sym w1);
  }

  here : (ws : List ℕ) (i x : ℕ) → i < length ws → get_or (set ws i x) i 0 ≡ x
  here ws i x h = get_or-set_same ws i x 0 h

  there : (ws : List ℕ) (i j x : ℕ) → j ≢ i → get_or (set ws i x) j 0 ≡ get_or ws j 0
  there ws i j x n = get_or-set_other ws i j x 0 n

  -- a load leaves the words
  same_words : (ws : List ℕ) (i : ℕ) → set ws i (get_or ws i 0) ≡ ws
  same_words ws i = set-get_or ws i 0

  -- while a seat has the lock, no other has
  alone : (s : State S (SeatView F)) (h : Holds s) (id : ℕ) (v : SeatView F) → get_elem? s.views id ≡ some v → locks v ≡ 1 → (j : ℕ) (u : SeatView F) → j ≢ id
      → get_elem? s.views j ≡ some u → locks u ≡ 0
  alone s h id v me one j u ne at = omega (arith, terms_le locks s.views id j v u ne me at, h.held, h.single)

  others_rest : (s : State S (SeatView F)) (h : Holds s) (id : ℕ) (v : SeatView F) → get_elem? s.views id ≡ some v → locks v ≡ 1 → works v ≡ 0 → total works s.views ≡ 0
  others_rest s h id v me one idle = total-zero works s.views (λ j u at. dite (ℕ_discrete j id)
      (λ e. let same : v ≡ u = some-injective v u (sym me ∙ ap (get_elem? s.views) (sym e) ∙ at) in ap works (sym same) ∙ idle)
      (λ ne. few_works u.grip (alone s h id v me one j u ne at)))

  pub grabs : (slots id : ℕ) (m : Me S (SeatView F)) → m.0.grip ≡ Away → 0 < m.0.parts → Allows Holds slots id m 0 (λ n. either (n == 0) 1 n) (grabbed (step slots 0 0 1 none) m)
  grabs slots id m away part s h long me small =
      let v : SeatView F = m.0 in let n : ℕ = get_or s.words 0 0 in let w : SeatView F = with_grip v Locked in
      let none-yet : locks v ≡ 0 = ap locking away in
      dite (ℕ_discrete n 0)
      (λ e. let one : either (n == 0) 1 n ≡ 1 = ap (λ (x : ℕ). either (x == 0) 1 x) e in (
        w,
        keeps,
        tt,
        moved s h id v w (set s.words 0 (either (n == 0) 1 n)) s.homes 1 (get_or s.words 1 0) me refl refl part (omega arith)
            (length-set s.words 0 _ ∙ h.wide)
            (here s.words 0 _ (omega (arith, h.wide)) ∙ one)
            (omega arith)
            (there s.words 0 1 _ (λ e. omega arith))
            (omega (arith, e, none-yet)) refl
            tt
            (λ j u ne at f. f)
            (λ z. h.home (omega (arith, total-set works s.views id v w me, ap working away))),
        (λ _. refl, λ ne. absurd (ne e)),
      ))
      (λ ne. let is : n ≡ 1 = omega (arith, h.single, ne) in let one : either (n == 0) 1 n ≡ n = ap (λ (x : ℕ). either (x == 0) 1 x) is ∙ sym is in
      let words : set s.words 0 (either (n == 0) 1 n) ≡ s.words = ap (set s.words 0) one ∙ same_words s.words 0 in (
        v,
        keeps,
        tt,
        subst Holds (λ i. record { words = sym words i; homes = s.homes; views = sym (set_again s.views id v me) i }) h,
        (λ e. absurd (ne e), λ _. refl),
      ))

  pub takes_out : (slots id : ℕ) (m : Me S (SeatView F)) → m.0.grip ≡ Locked → Allows Holds slots id m 1 (λ n. n) (took fixed entries (step slots 1 0 0 none) m)
  takes_out slots id m is s h long me small =
      let v : SeatView F = m.0 in let n : ℕ = get_or s.words 1 0 in let k = h.each id v me in
      let one : locks v ≡ 1 = ap locking is in
      let w : SeatView F = working_at v n in
      let home = h.home (others_rest s h id v me one (ap working is)) in (
        w,
        takes 0 home.0,
        home.1,
        moved s h id v w (set s.words 1 n) (set s.homes 0 none) (get_or s.words 0 0) n me refl refl (omega (arith, k.part)) (omega arith)
            (length-set s.words 1 _ ∙ h.wide)
            (there s.words 1 0 _ (λ e. omega arith))
            h.single
            (here s.words 1 _ (omega (arith, h.wide)))
            (omega arith) refl
            refl
            (λ j u ne at f. f)
            (λ z. absurd (omega (arith, total-set works s.views id v w me, ap working is))),
        (home.0, refl, (λ f e. home.2 ∙ sym (k.same f e)), home.3, omega (arith, h.counts, term_le (λ (u : SeatView F). u.count) s.views id v me)),
      )

  pub counts_one : (slots id : ℕ) (m : Me S (SeatView F)) → m.0.grip ≡ Working → m.0.read + 1 < 2 ^ 64 → Allows Holds slots id m 1 (λ n. (n + 1) % 2 ^ 64) (counted (step slots 1 1 0 none) m)
  counts_one slots id m is room s h long me small =
      let v : SeatView F = m.0 in let n : ℕ = get_or s.words 1 0 in let k = h.each id v me in
      let fits : v.read ≡ n = subst (Fits n v.read) is k.fits in
      let one : locks v ≡ 1 = ap locking is in
      let w : SeatView F = one_more v in
      let next : (n + 1) % 2 ^ 64 ≡ n + 1 = mod-eq_of_lt {n = n + 1} {m = 2 ^ 64} (omega (arith, fits)) in (
        w,
        keeps,
        tt,
        moved s h id v w (set s.words 1 ((n + 1) % 2 ^ 64)) s.homes (get_or s.words 0 0) (n + 1) me refl refl (omega (arith, k.part)) (omega arith)
            (length-set s.words 1 _ ∙ h.wide)
            (there s.words 1 0 _ (λ e. omega arith))
            h.single
            (here s.words 1 _ (omega (arith, h.wide)) ∙ next)
            refl (omega arith)
            (subst (Fits (n + 1) (v.read + 1)) (sym is) (ap (λ (x : ℕ). x + 1) fits))
            (λ j u ne at f. fits_free n (n + 1) u.read u.grip (alone s h id v me one j u ne at) f)
            (λ z. absurd (omega (arith, total-set works s.views id v w me, term_le works s.views id v me, ap working is))),
        refl,
      )

  pub leaves : (slots id : ℕ) (m : Me S (SeatView F)) (f : F) (y : S) (more : List (ℕ × S)) → m.0.grip ≡ Working → m.0.fixed ≡ Some f → m.1 ≡ (0, y) ∷ more → fixed y ≡ f → entries y ≡ m.0.read
      → 0 < slots → Allows Holds slots id m 0 (λ _. 0) (λ _. left (step slots 0 0 0 none) m 0)
  leaves slots id m f y more is known held same long-enough some_slots s h long me small =
      let v : SeatView F = m.0 in let n : ℕ = get_or s.words 1 0 in let k = h.each id v me in
      let fits : v.read ≡ n = subst (Fits n v.read) is k.fits in
      let one : locks v ≡ 1 = ap locking is in
      let w : SeatView F = with_grip v Away in
      let put : put_back s.homes m.1 ≡ set s.homes 0 (some y) = ap (put_back s.homes) held in
      let at_home : get_elem? (put_back s.homes m.1) 0 ≡ some (some y) = ap (λ l. get_elem? l 0) put ∙ set_here s.homes 0 (some y) (omega arith) in (
        w,
        gives,
        tt,
        moved s h id v w (set s.words 0 0) (put_back s.homes m.1) 0 n me refl refl (omega (arith, k.part)) (omega arith)
            (length-set s.words 0 _ ∙ h.wide)
            (here s.words 0 _ (omega (arith, h.wide)))
            (omega arith)
            (there s.words 0 1 _ (λ e. omega arith))
            (omega (arith, one, h.held, h.single, term_le locks s.views id v me)) refl
            tt
            (λ j u ne at g. g)
            (λ z. (y, at_home, same ∙ k.same f known, long-enough ∙ fits)),
        refl,
      )

  pub splits : (id : ℕ) (v : SeatView F) → 1 < v.parts → v.grip ≡ Away → Splits Holds id v (split_left v) (split_right v)
  splits id v two away s h me =
      let none-yet : locks v ≡ 0 = ap locking away in let l : SeatView F = split_left v in let r : SeatView F = split_right v in let vs : List (SeatView F) = set s.views id l in
      let k = h.each id v me in
      let known : (i : ℕ) (u : SeatView F) → get_elem? vs i ≡ some u → IsKnown key (get_or s.words 1 0) u =
      all_set (λ j u. IsKnown key (get_or s.words 1 0) u) s.views id l
      record { part = omega arith; idle = λ none. absurd (omega arith); same = k.same; fits = k.fits } (λ j u ne at. h.each j u at) in
      record {
        wide = h.wide;
        single = h.single;
        held = omega (arith, h.held, total_join locks vs (r ∷ []), total-set locks s.views id v l me);
        parts = omega (arith, h.parts, total_join (λ (u : SeatView F). u.parts) vs (r ∷ []), total-set (λ (u : SeatView F). u.parts) s.views id v l me);
        counts = omega (arith, h.counts, total_join (λ (u : SeatView F). u.count) vs (r ∷ []), total-set (λ (u : SeatView F). u.count) s.views id v l me);
        each = λ i u at. ⊎_elim (λ (was : get_elem? vs i ≡ some u). known i u was)
            (λ (e : r ≡ u). subst (IsKnown key (get_or s.words 1 0)) e record { part = omega arith; idle = λ none. absurd (omega arith); same = k.same; fits = tt }) (at_snoc vs r u i at);
        home = λ z. h.home (omega (arith, total_join works vs (r ∷ []), total-set works s.views id v l me));
      }

  pub joins : (id : ℕ) (v : SeatView F) (other : ℕ) (w : SeatView F) → 0 < v.parts → w.grip ≡ Away → Joins Holds id v other w (joined v w) spent
  joins id v other w part away s h me ne at' =
      let b : SeatView F = joined v w in let e : SeatView F = spent in let vs : List (SeatView F) = set s.views id b in let us : List (SeatView F) = set vs other e in
      let k = h.each id v me in let none-yet : locks w ≡ 0 = ap locking away in let home-yet : works w ≡ 0 = ap working away in
      record {
        wide = h.wide;
        single = h.single;
        held = omega (arith, h.held, total-set locks s.views id v b me, total-set locks vs other w e at');
        parts = omega (arith, h.parts, total-set (λ (u : SeatView F). u.parts) s.views id v b me, total-set (λ (u : SeatView F). u.parts) vs other w e at');
        counts = omega (arith, h.counts, total-set (λ (u : SeatView F). u.count) s.views id v b me, total-set (λ (u : SeatView F). u.count) vs other w e at');
        each = all_set (λ j u. IsKnown key (get_or s.words 1 0) u) vs other e record { part = omega arith; idle = λ _. refl; same = λ f no. cc; fits = tt }
            (λ j u nej at. all_set (λ j u. IsKnown key (get_or s.words 1 0) u) s.views id b
            record { part = omega (arith, k.part); idle = λ none. absurd (omega arith); same = k.same; fits = k.fits } (λ j u ne at. h.each j u at) j u at);
        home = λ z. h.home (omega (arith, total-set works s.views id v b me, total-set works vs other w e at'));
      }

  pub opens : (y : S) → fixed y ≡ key → entries y ≡ 0 → Holds (opening (0 ∷ 0 ∷ []) (y ∷ []) (fresh key 1024))
  opens y same empty = let first : SeatView F = fresh key 1024 in record {
    wide = refl;
    single = omega arith;
    held = refl;
    parts = refl;
    counts = refl;
    each = λ i v at. ⊎_elim (λ (x : get_elem? [] i ≡ some v). absurd (some-ne-none v (sym x)))
        (λ (e : first ≡ v). subst (IsKnown key 0) e record { part = omega arith; idle = λ _. refl; same = λ f e. cc; fits = tt }) (at_snoc [] first v i at);
    home = λ _. (y, refl, same, empty);
  }

  -- once one seat has every part, the machine is at home, and its log has the length that the seat counted
  pub closes : (id : ℕ) (v : SeatView F) (ws : List ℕ) (xs : List S) (z : S) → v.parts ≡ 1024 → v.grip ≡ Away → Final (Seen Holds id v) ws xs → get_elem? xs 0 ≡ some z
      → (fixed z ≡ key) × (entries z ≡ v.count)
  closes id v ws xs z whole away fin here =
      let s = fin.0 in let h = fin.1.0 in let me = fin.1.1 in
      let parts_of : SeatView F → ℕ = λ u. u.parts in
      let all = h.parts ∙ sym whole in
      let mine = total-one parts_of (λ (u : SeatView F). u.count) s.views id v me all (λ i u at z. (h.each i u at).idle z) in
      let out = total-one parts_of works s.views id v me all (λ i u at z. few_works u.grip (omega (arith, (h.each i u at).part))) in
      let home = h.home (omega (arith, out, ap working away)) in
      let same : home.0 ≡ z = some-injective home.0 z (sym (fin.4 0 home.0 home.1) ∙ here) in
      (ap fixed (sym same) ∙ home.2, ap entries (sym same) ∙ omega (arith, home.3, mine, h.counts))

-- the slot that a seat holds is the one that it is lent
pub held_is : {S : Type 0} (l : List (ℕ × S)) (y z : S) → l ≡ (0, y) ∷ [] → l ≡ (0, z) ∷ rest l → z ≡ y
held_is l y z a b = ap (λ (k : List (ℕ × _)). (get_or k 0 (0, y)).1) (sym b ∙ a)
