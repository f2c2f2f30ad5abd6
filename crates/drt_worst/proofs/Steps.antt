-- HoldsOfEach kind of step keeps the rule.
use Rattle.std.proofs.Common.{◌≡◌, ◌≢◌, ℕ, zero, suc, ◌+◌, ◌<◌, ◌≤◌, ◌⊎◌, max, List, [], ◌∷◌, ◌++◌, get_or, set, sym, refl, ap, ◌∙◌, subst, inl, inr, arith, length-set, get_or-set_same}
use Rattle.std.proofs.lemmas.Bool.{cases_lt}
use mathlib.Core.Logic.{dite}
use mathlib.Core.Option.{some, none, some-injective, some-ne-none}
use native.Mathlib.Decide.{ℕ_discrete}
use lib.ListN.{get_elem?}
use lib.Seq.{set-get_or}
use Rattle.atomic_table.specs.Table.{State, Me, step, keeps, Allows, Splits, Joins, opening, Final, Seen}
use Rattle.atomic_table.proofs.Lists.{at_set, at_snoc, set_else, at_longer}
use Rattle.drt_worst.specs.Rising.{HoldsOfEach, IsInList, total_parts, fresh_view, spent, split_left, split_right, joined_views, with_raised, with_noted, Knows, IsRaisedIn, IsRisen, Raised, Glanced}
use Rattle.drt_worst.specs.Closing.{IsWordClosed}
use Rattle.drt_worst.specs.declared.view.View.{View}

pub each_weaker : (P Q : ℕ → Type 0) → ((n : ℕ) → P n → Q n) → (ns : List ℕ) → HoldsOfEach P ns → HoldsOfEach Q ns
each_weaker P Q f [] h = tt
each_weaker P Q f (n ∷ ns) h = (f n h.0, each_weaker P Q f ns h.1)

pub each_join : (P : ℕ → Type 0) (ms ns : List ℕ) → HoldsOfEach P ms → HoldsOfEach P ns → HoldsOfEach P (ms ++ ns)
each_join P [] ns h g = g
each_join P (m ∷ ms) ns h g = (h.0, each_join P ms ns h.1 g)

pub each_in : (P : ℕ → Type 0) (x : ℕ) (ns : List ℕ) → HoldsOfEach P ns → IsInList x ns → P x
each_in P x [] h i = elim i [ ]
each_in P x (n ∷ ns) h (inl e) = subst P (sym e) h.0
each_in P x (n ∷ ns) h (inr i) = each_in P x ns h.1 i

pub in_left : (x : ℕ) (ms ns : List ℕ) → IsInList x ms → IsInList x (ms ++ ns)
in_left x [] ns i = elim i [ ]
in_left x (m ∷ ms) ns (inl e) = inl e
in_left x (m ∷ ms) ns (inr i) = inr (in_left x ms ns i)

pub in_right : (x : ℕ) (ms ns : List ℕ) → IsInList x ns → IsInList x (ms ++ ns)
in_right x [] ns i = i
in_right x (m ∷ ms) ns i = inr (in_right x ms ns i)

parts_append : (l m : List View) → total_parts (l ++ m) ≡ total_parts l + total_parts m
parts_append [] m = omega arith
parts_append (x ∷ xs) m = omega (arith, parts_append xs m)

parts_set : (l : List View) (j : ℕ) (v w : View) → get_elem? l j ≡ some v → total_parts (set l j w) + v.parts ≡ total_parts l + w.parts
parts_set [] j v w e = absurd (some-ne-none v (sym e))
parts_set (x ∷ xs) zero v w e = omega (arith, ap (λ (u : View). u.parts) (some-injective x v e))
parts_set (x ∷ xs) (suc j) v w e = omega (arith, parts_set xs j v w e)

parts_le : (l : List View) (j : ℕ) (v : View) → get_elem? l j ≡ some v → v.parts ≤ total_parts l
parts_le [] j v e = absurd (some-ne-none v (sym e))
parts_le (x ∷ xs) zero v e = omega (arith, ap (λ (u : View). u.parts) (some-injective x v e))
parts_le (x ∷ xs) (suc j) v e = omega (arith, parts_le xs j v e)

-- two views have together at most the parts of all
two_parts : (l : List View) (j k : ℕ) (v u : View) → k ≢ j → get_elem? l j ≡ some v → get_elem? l k ≡ some u → v.parts + u.parts ≤ total_parts l
two_parts [] j k v u n e d = absurd (some-ne-none v (sym e))
two_parts (x ∷ xs) zero zero v u n e d = absurd (n refl)
two_parts (x ∷ xs) zero (suc k) v u n e d = omega (arith, ap (λ (u : View). u.parts) (some-injective x v e), parts_le xs k u d)
two_parts (x ∷ xs) (suc j) zero v u n e d = omega (arith, ap (λ (u : View). u.parts) (some-injective x u d), parts_le xs j v e)
two_parts (x ∷ xs) (suc j) (suc k) v u n e d = omega (arith, two_parts xs j k v u (λ h. n (ap suc h)) e d)

-- what stands at a place that was written
here_set : (l : List View) (j : ℕ) (v w : View) → get_elem? l j ≡ some v → get_elem? (set l j w) j ≡ some w
here_set [] j v w e = absurd (some-ne-none v (sym e))
here_set (x ∷ xs) zero v w e = refl
here_set (x ∷ xs) (suc j) v w e = here_set xs j v w e

same_view : (l : List View) (j : ℕ) (v u : View) → get_elem? l j ≡ some v → get_elem? l j ≡ some u → v ≡ u
same_view l j v u e d = some-injective v u (sym e ∙ d)

all_set : (Q : ℕ → View → Type 0) (views : List View) (id : ℕ) (w : View) → Q id w → ((j : ℕ) (u : View) → get_elem? views j ≡ some u → Q j u)
    → (j : ℕ) (u : View) → get_elem? (set views id w) j ≡ some u → Q j u
all_set Q views id w mine others j u e = elim (at_set views id j w u e) as (λ _. Q j u) [
  | inl x ↦ subst (λ (y : ℕ × View). Q y.0 y.1) (λ i. (sym x.0 i, x.1 i)) mine
  | inr x ↦ others j u x.1
]

-- a number that a view raised is still raised once one view has more
still_raised : (views : List View) (id x : ℕ) (v w : View) → get_elem? views id ≡ some v → (IsInList x v.raised → IsInList x w.raised) → IsRaisedIn x views → IsRaisedIn x (set views id w)
still_raised views id x v w me more r = dite (ℕ_discrete r.0 id)
    (λ e. (id, w, here_set views id v w me, more (subst (λ (u : View). IsInList x u.raised) (same_view views id r.1 v (ap (λ i. get_elem? views i) (sym e) ∙ r.2) me) r.3)))
    (λ ne. (r.0, r.1, set_else views id r.0 w ne ∙ r.2, r.3))

knows_higher : (P : ℕ → Type 0) (a b : ℕ) (v : View) → a ≤ b → Knows P a v → Knows P b v
knows_higher P a b v le k = record {
  idle = k.idle;
  raised = each_weaker (λ n. (n ≤ a) × P n) (λ n. (n ≤ b) × P n) (λ n h. ((let g : n ≤ a = h.0 in omega arith), h.1)) v.raised k.raised;
  noted = each_weaker (λ n. n ≤ a) (λ n. n ≤ b) (λ n h. omega arith) v.noted k.noted;
}

raised_top : (views : List View) (id k n : ℕ) (v : View) → get_elem? views id ≡ some v → (n ≡ 0) ⊎ IsRaisedIn n views → (max n k ≡ 0) ⊎ IsRaisedIn (max n k) (set views id (with_raised v k))
raised_top views id k n v me top = elim (cases_lt n k) as (λ _. (max n k ≡ 0) ⊎ IsRaisedIn (max n k) (set views id (with_raised v k))) [
  | inl lt ↦ inr (id, with_raised v k, here_set views id v (with_raised v k) me, inl (omega arith))
  | inr le ↦ elim top as (λ _. (max n k ≡ 0) ⊎ IsRaisedIn (max n k) (set views id (with_raised v k))) [
    | inl z ↦ inl (omega arith)
    | inr r ↦ (let same : n ≡ max n k = omega arith in inr (subst (λ (x : ℕ). IsRaisedIn x (set views id (with_raised v k))) same (still_raised views id n v (with_raised v k) me (λ i. inr i) r)))
  ]
]

joined_top : (views : List View) (id x other : ℕ) (v w : View) → get_elem? views id ≡ some v → other ≢ id → get_elem? (set views id (joined_views v w)) other ≡ some w → IsRaisedIn x views
    → IsRaisedIn x (set (set views id (joined_views v w)) other spent)
joined_top views id x other v w me ne at r =
    let b : View = joined_views v w in
    let vs : List View = set views id b in
    let first : get_elem? (set vs other spent) id ≡ some b = set_else vs other id spent (λ e. ne (sym e)) ∙ here_set views id v b me in
    dite (ℕ_discrete r.0 id)
    (λ e. (id, b, first, in_left x v.raised w.raised (subst (λ (u : View). IsInList x u.raised) (same_view views id r.1 v (ap (λ i. get_elem? views i) (sym e) ∙ r.2) me) r.3)))
    (λ not_id. dite (ℕ_discrete r.0 other)
    (λ e. (
      id,
      b,
      first,
      in_right x v.raised w.raised
          (subst (λ (u : View). IsInList x u.raised) (same_view vs other r.1 w (ap (λ i. get_elem? vs i) (sym e) ∙ (set_else views id r.0 b not_id ∙ r.2)) at) r.3),
    ))
    (λ not_other. (r.0, r.1, set_else vs other r.0 spent not_other ∙ (set_else views id r.0 b not_id ∙ r.2), r.3)))

nobody : (x : ℕ) (u : View) → u.raised ≡ [] → IsInList x u.raised → ⊥
nobody x u e i = (let j : IsInList x [] = subst (λ (l : List ℕ). IsInList x l) e i in j)

first_word : (ws : List ℕ) (r : ℕ) → get_elem? ws 0 ≡ some r → get_or ws 0 0 ≡ r
first_word [] r e = absurd (some-ne-none r (sym e))
first_word (w ∷ ws) r e = some-injective w r e

module _ {S : Type 0} (P : ℕ → Type 0) where
  abbrev Holds : State S View → Type 0
  Holds = IsRisen P

  pub raises : (slots id k : ℕ) (m : Me S View) → 0 < m.0.parts → P k → Allows Holds slots id m 0 (λ n. max n k) (Raised (step slots 0 k 0 none) m)
  raises slots id k m part reached s h long me small =
      let v : View = m.0 in
      let w : View = with_raised v k in
      let n : ℕ = get_or s.words 0 0 in
      let ws : List ℕ = set s.words 0 (max n k) in
      let word : get_or ws 0 0 ≡ max n k = get_or-set_same s.words 0 (max n k) 0 (omega (arith, h.wide)) in
      let mine : Knows P n v = h.each id v me in
      let higher : Knows P (max n k) v = knows_higher P n (max n k) v (omega arith) mine in
      let new : Knows P (max n k) w = record { idle = λ none. absurd (omega arith); raised = ((omega arith, reached), higher.raised); noted = higher.noted } in (
        w,
        keeps,
        tt,
        record {
          wide = length-set s.words 0 (max n k) ∙ h.wide;
          parts = omega (arith, h.parts, parts_set s.views id v w me);
          each = λ j u at. subst (λ (x : ℕ). Knows P x u) (sym word)
              (all_set (λ j u. Knows P (max n k) u) s.views id w new (λ j u at. knows_higher P n (max n k) u (omega arith) (h.each j u at)) j u at);
          top = subst (λ (x : ℕ). (x ≡ 0) ⊎ IsRaisedIn x (set s.views id w)) (sym word) (raised_top s.views id k n v me h.top);
        },
        refl,
      )

  pub glances : (slots id : ℕ) (m : Me S View) → 0 < m.0.parts → Allows Holds slots id m 0 (λ n. n) (Glanced (step slots 0 0 0 none) m)
  glances slots id m part s h long me small =
      let v : View = m.0 in
      let n : ℕ = get_or s.words 0 0 in
      let w : View = with_noted v n in
      let ws : List ℕ = set s.words 0 n in
      let same : ws ≡ s.words = set-get_or s.words 0 0 in
      let word : get_or ws 0 0 ≡ n = ap (λ (l : List ℕ). get_or l 0 0) same in
      let mine : Knows P n v = h.each id v me in
      let new : Knows P n w = record { idle = λ none. absurd (omega arith); raised = mine.raised; noted = (omega arith, mine.noted) } in (
        w,
        keeps,
        tt,
        record {
          wide = length-set s.words 0 n ∙ h.wide;
          parts = omega (arith, h.parts, parts_set s.views id v w me);
          each = λ j u at. subst (λ (x : ℕ). Knows P x u) (sym word) (all_set (λ j u. Knows P n u) s.views id w new (λ j u at. h.each j u at) j u at);
          top = subst (λ (x : ℕ). (x ≡ 0) ⊎ IsRaisedIn x (set s.views id w)) (sym word)
              (elim h.top as (λ _. (n ≡ 0) ⊎ IsRaisedIn n (set s.views id w)) [ inl z ↦ inl z | inr r ↦ inr (still_raised s.views id n v w me (λ i. i) r) ]);
        },
        (refl, each_weaker (λ x. (x ≤ n) × P x) (λ x. x ≤ n) (λ x g. g.0) v.raised mine.raised, mine.noted),
      )

  pub splits : (id : ℕ) (v : View) → 1 < v.parts → Splits Holds id v (split_left v) (split_right v)
  splits id v two s h me =
      let n : ℕ = get_or s.words 0 0 in
      let l : View = split_left v in
      let r : View = split_right v in
      let vs : List View = set s.views id l in
      let mine : Knows P n v = h.each id v me in
      let left : Knows P n l = record { idle = λ none. absurd (omega arith); raised = mine.raised; noted = mine.noted } in
      let right : Knows P n r = record { idle = λ none. (refl, refl); raised = tt; noted = tt } in
      record {
        wide = h.wide;
        parts = omega (arith, h.parts, parts_append vs (r ∷ []), parts_set s.views id v l me);
        each = λ j u at. elim (at_snoc vs r u j at) as (λ _. Knows P n u) [
          | inl was ↦ all_set (λ j u. Knows P n u) s.views id l left (λ j u at. h.each j u at) j u was
          | inr e ↦ subst (λ (u : View). Knows P n u) e right
        ];
        top = elim h.top as (λ _. (n ≡ 0) ⊎ IsRaisedIn n (vs ++ r ∷ [])) [
          | inl z ↦ inl z
          | inr x ↦ (let y : IsRaisedIn n vs = still_raised s.views id n v l me (λ i. i) x in inr (y.0, y.1, at_longer vs (r ∷ []) y.0 y.1 y.2, y.3))
        ];
      }

  pub joins : (id : ℕ) (v : View) (other : ℕ) (w : View) → 0 < v.parts → Joins Holds id v other w (joined_views v w) spent
  joins id v other w part s h me ne at =
      let n : ℕ = get_or s.words 0 0 in
      let b : View = joined_views v w in
      let vs : List View = set s.views id b in
      let mine : Knows P n v = h.each id v me in
      let was : get_elem? s.views other ≡ some w = sym (set_else s.views id other b ne) ∙ at in
      let theirs : Knows P n w = h.each other w was in
      let both : Knows P n b = record {
        idle = λ none. absurd (omega arith);
        raised = each_join (λ x. (x ≤ n) × P x) v.raised w.raised mine.raised theirs.raised;
        noted = each_join (λ x. x ≤ n) v.noted w.noted mine.noted theirs.noted;
      } in
      let over : Knows P n spent = record { idle = λ none. (refl, refl); raised = tt; noted = tt } in
      record {
        wide = h.wide;
        parts = omega (arith, h.parts, parts_set s.views id v b me, parts_set vs other w spent at);
        each = all_set (λ j u. Knows P n u) vs other spent over (all_set (λ j u. Knows P n u) s.views id b both (λ j u at. h.each j u at));
        top = elim h.top as (λ _. (n ≡ 0) ⊎ IsRaisedIn n (set vs other spent)) [ inl z ↦ inl z | inr r ↦ inr (joined_top s.views id n other v w me ne at r) ];
      }

  pub opens : Holds (opening (0 ∷ []) [] (fresh_view 1024))
  opens = record {
    wide = refl;
    parts = refl;
    each = λ i v at. elim (at_snoc [] (fresh_view 1024) v i at) as (λ _. Knows P 0 v) [
      | inl x ↦ absurd (some-ne-none v (sym x))
      | inr e ↦ subst (λ (u : View). Knows P 0 u) e (record { idle = λ none. (refl, refl); raised = tt; noted = tt })
    ];
    top = inl refl;
  }

  pub closes : (id : ℕ) (v : View) (ws : List ℕ) (xs : List S) → v.parts ≡ 1024 → Final (Seen Holds id v) ws xs → IsWordClosed P (get_or ws 0 0) v
  closes id v ws xs whole fin =
      let s = fin.0 in
      let h = fin.1.0 in
      let me = fin.1.1 in
      let n : ℕ = get_or s.words 0 0 in
      let word : n ≡ get_or ws 0 0 = ap (λ (l : List ℕ). get_or l 0 0) fin.2 in
      let k : Knows P n v = h.each id v me in
      let at_end : IsWordClosed P n v = record {
        top = elim h.top as (λ _. (n ≡ 0) ⊎ IsInList n v.raised) [
          | inl z ↦ inl z
          | inr r ↦ dite (ℕ_discrete r.0 id)
              (λ e. inr (subst (λ (u : View). IsInList n u.raised) (same_view s.views id r.1 v (ap (λ i. get_elem? s.views i) (sym e) ∙ r.2) me) r.3))
              (λ ne. absurd (nobody n r.1 (((h.each r.0 r.1 r.2).idle (let t = two_parts s.views id r.0 v r.1 ne me r.2 in omega (arith, h.parts))).0) r.3))
        ];
        raised = k.raised;
        noted = k.noted;
      } in
      subst (λ (x : ℕ). IsWordClosed P x v) word at_end

  -- by the word that the closed table shows
  pub closes_at : (id : ℕ) (v : View) (ws : List ℕ) (xs : List S) (word : ℕ) → v.parts ≡ 1024 → Final (Seen Holds id v) ws xs → get_elem? ws 0 ≡ some word → IsWordClosed P word v
  closes_at id v ws xs word whole fin at = subst (λ (n : ℕ). IsWordClosed P n v) (first_word ws word at) (closes id v ws xs whole fin)
