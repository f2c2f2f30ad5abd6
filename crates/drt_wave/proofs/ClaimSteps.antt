-- Each kind of step keeps the rule of the claim words.
use Rattle.std.proofs.Common.{◌≡◌, ◌≢◌, ◌==◌, ℕ, zero, suc, ◌+◌, ◌%◌, ◌^◌, ◌<◌, List, [], ◌∷◌, ◌++◌}
use Rattle.std.proofs.Common.{length, get_or, set, replicate, sym, refl, ap, ◌∙◌, subst, ⊎_elim, arith, if◌then◌else◌, eq-eqb, ne_eqb, length-set}
use Rattle.std.proofs.Math.Nat.{add-mod}
use mathlib.Core.Logic.{dite}
use mathlib.Core.Option.{some, none, some-ne-none}
use native.Mathlib.Decide.{ℕ_discrete, dec_lt}
use lib.ListN.{get_elem?}
use Rattle.atomic_table.specs.Table.{State, Me, step, keeps, Allows, Splits, Joins, opening}
use Rattle.atomic_table.proofs.Lists.{at_snoc}
use Rattle.drt_wave.specs.Net.{Among}
use Rattle.drt_wave.specs.Sums.{total_by}
use Rattle.drt_wave.specs.Claims.{times, fresh_claims, spent_claims, claims_left, claims_right, claims_joined, with_draw, InClaims, claim_said}
use Rattle.drt_wave.specs.declared.view.ClaimView.{ClaimView}
use Rattle.drt_wave.proofs.Sums.{total-append, total-set, total-one, term_le, among_times, times_among, times_more, times-append, all_set, word_here, word_there}

mod-succ : (a : ℕ) → (a % 2 ^ 64 + 1) % 2 ^ 64 ≡ (a + 1) % 2 ^ 64
mod-succ a = sym (add-mod a 1 (2 ^ 64))

-- one more number of wave j is drawn
abbrev bump : (ℕ → ℕ) → ℕ → ℕ → ℕ
bump drawn j i = if i == j then drawn i + 1 else drawn i

bump_same : (drawn : ℕ → ℕ) (j i : ℕ) → i ≡ j → bump drawn j i ≡ drawn i + 1
bump_same drawn j i e = ap (λ b. if b then drawn i + 1 else drawn i) (eq-eqb i j e)

bump_else : (drawn : ℕ → ℕ) (j i : ℕ) → i ≢ j → bump drawn j i ≡ drawn i
bump_else drawn j i ne = ap (λ b. if b then drawn i + 1 else drawn i) (ne_eqb i j ne)

-- where a seat draws nothing
same_draws : (views : List ClaimView) (id : ℕ) (v w : ClaimView) (j k : ℕ) → get_elem? views id ≡ some v → w.draws ≡ v.draws
    → total_by (λ u. times j k u.draws) (set views id w) ≡ total_by (λ u. times j k u.draws) views
same_draws views id v w j k me e = let same : times j k w.draws ≡ times j k v.draws = ap (times j k) e in omega (arith, total-set (λ (u : ClaimView). times j k u.draws) views id v w me)

-- a seat with no part has drawn nothing
abbrev IsIdle : ClaimView → Type 0
IsIdle v = v.parts ≡ 0 → v.draws ≡ []

module _ {S : Type 0} (waves : ℕ) where
  abbrev Holds : State S ClaimView → Type 0
  Holds = InClaims waves

  -- the seat with every part has drawn each number of a wave that was drawn
  whole_draws : (s : State S ClaimView) (h : Holds s) (id : ℕ) (v : ClaimView) → get_elem? s.views id ≡ some v → v.parts ≡ 1024 → (j k : ℕ) → k < h.drawn j → Among (j, k) v.draws
  whole_draws s h id v me whole j k lt =
      let parts_of : ClaimView → ℕ = λ u. u.parts in let drawn_of : ClaimView → ℕ = λ u. times j k u.draws in
      let all = total-one parts_of drawn_of s.views id v me (h.parts ∙ sym whole) (λ i u at z. ap (times j k) (h.idle i u at z)) in
      times_among j k v.draws (omega (arith, all, h.once j k lt))

  -- no seat has drawn a number that is not below the claims of its wave
  draws_below : (s : State S ClaimView) (h : Holds s) (id : ℕ) (v : ClaimView) → get_elem? s.views id ≡ some v → (j k : ℕ) → Among (j, k) v.draws → k < h.drawn j
  draws_below s h id v me j k a = dite (dec_lt k (h.drawn j)) (λ lt. lt)
      (λ nlt. let some_draw = among_times j k v.draws a in absurd (omega (arith, h.never j k (omega arith), term_le (λ (u : ClaimView). times j k u.draws) s.views id v me)))

  -- a number of wave j is drawn
  drew : (s : State S ClaimView) (h : Holds s) (id j : ℕ) (v : ClaimView) → get_elem? s.views id ≡ some v → 0 < v.parts → j < waves
      → Holds record { words = set s.words j ((get_or s.words j 0 + 1) % 2 ^ 64); homes = s.homes; views = set s.views id (with_draw v j (h.drawn j)) }
  drew s h id j v me part ltj =
      let t : ℕ = h.drawn j in let n : ℕ = get_or s.words j 0 in
      let w : ClaimView = with_draw v j t in let ws : List ℕ = set s.words j ((n + 1) % 2 ^ 64) in
      let inside : j < length s.words = omega (arith, h.wide, ltj) in
      let drawn_of : ℕ → ℕ → ClaimView → ℕ = λ a b u. times a b u.draws in
      -- a draw that is not this one
      let other : (a b : ℕ) → ((j ≡ a) × (t ≡ b) → ⊥) → total_by (drawn_of a b) (set s.views id w) ≡ total_by (drawn_of a b) s.views =
      λ a b no. omega (arith, total-set (drawn_of a b) s.views id v w me, (times_more a b j t v.draws).1 no) in
      record {
        wide = length-set s.words j _ ∙ h.wide;
        drawn = bump h.drawn j;
        parts = omega (arith, h.parts, total-set (λ (u : ClaimView). u.parts) s.views id v w me);
        claims = λ a lta. dite (ℕ_discrete a j)
            (λ e. ap (λ b. get_or ws b 0) e ∙ word_here s.words j ((n + 1) % 2 ^ 64) inside ∙ ap (λ (x : ℕ). (x + 1) % 2 ^ 64) (h.claims j ltj) ∙ mod-succ t
            ∙ ap (λ x. x % 2 ^ 64) (sym (bump_same h.drawn j j refl)) ∙ ap (λ b. bump h.drawn j b % 2 ^ 64) (sym e))
            (λ ne. word_there s.words j a _ ne ∙ h.claims a lta ∙ ap (λ x. x % 2 ^ 64) (sym (bump_else h.drawn j a ne)));
        once = λ a b lt. dite (ℕ_discrete a j)
            (λ e. let up = bump_same h.drawn j a e in let same : h.drawn a ≡ t = ap h.drawn e in dite (ℕ_discrete b t)
            (λ f. omega (arith, total-set (drawn_of a b) s.views id v w me, (times_more a b j t v.draws).0 (sym e, sym f), h.never a b (omega arith)))
            (λ nf. other a b (λ p. nf (sym p.1)) ∙ h.once a b (omega arith)))
            (λ ne. let up = bump_else h.drawn j a ne in other a b (λ p. ne (sym p.0)) ∙ h.once a b (omega arith));
        never = λ a b le. dite (ℕ_discrete a j)
            (λ e. let up = bump_same h.drawn j a e in let same : h.drawn a ≡ t = ap h.drawn e in other a b (λ p. let q = p.1 in omega arith) ∙ h.never a b (omega arith))
            (λ ne. let up = bump_else h.drawn j a ne in other a b (λ p. ne (sym p.0)) ∙ h.never a b (omega arith));
        idle = all_set IsIdle s.views id w (λ none. absurd (omega arith)) h.idle;
      }

  pub claims_one : (slots id j : ℕ) (m : Me S ClaimView) → 0 < m.0.parts → j < waves → Allows Holds slots id m j (λ n. (n + 1) % 2 ^ 64) (claim_said (step slots j 1 0 none) m)
  claims_one slots id j m part ltj s h long me small =
      let v : ClaimView = m.0 in let t : ℕ = h.drawn j in (
        with_draw v j t,
        keeps,
        tt,
        drew s h id j v me part ltj,
        ((t, h.claims j ltj, refl, (λ whole k lt. whole_draws s h id v me whole j k lt), (λ k a. draws_below s h id v me j k a)), refl),
      )

  pub splits : (id : ℕ) (v : ClaimView) → 1 < v.parts → Splits Holds id v (claims_left v) (claims_right v)
  splits id v two s h me =
      let l : ClaimView = claims_left v in let r : ClaimView = claims_right v in let vs : List ClaimView = set s.views id l in
      let drawn_of : ℕ → ℕ → ClaimView → ℕ = λ a b u. times a b u.draws in
      let same : (a b : ℕ) → total_by (drawn_of a b) (vs ++ r ∷ []) ≡ total_by (drawn_of a b) s.views =
      λ a b. omega (arith, total-append (drawn_of a b) vs (r ∷ []), same_draws s.views id v l a b me refl) in
      record {
        wide = h.wide;
        drawn = h.drawn;
        parts = omega (arith, h.parts, total-append (λ (u : ClaimView). u.parts) vs (r ∷ []), total-set (λ (u : ClaimView). u.parts) s.views id v l me);
        claims = h.claims;
        once = λ a b lt. same a b ∙ h.once a b lt;
        never = λ a b le. same a b ∙ h.never a b le;
        idle = λ i u at. ⊎_elim (λ (was : get_elem? vs i ≡ some u). all_set IsIdle s.views id l (λ none. absurd (omega arith)) h.idle i u was)
            (λ (e : r ≡ u). subst IsIdle e (λ _. refl)) (at_snoc vs r u i at);
      }

  pub joins : (id : ℕ) (v : ClaimView) (other : ℕ) (w : ClaimView) → 0 < v.parts → Joins Holds id v other w (claims_joined v w) spent_claims
  joins id v other w part s h me ne at' =
      let b : ClaimView = claims_joined v w in let e : ClaimView = spent_claims in let vs : List ClaimView = set s.views id b in let us : List ClaimView = set vs other e in
      let drawn_of : ℕ → ℕ → ClaimView → ℕ = λ i j u. times i j u.draws in
      let same : (i j : ℕ) → total_by (drawn_of i j) us ≡ total_by (drawn_of i j) s.views =
      λ i j. omega (arith, total-set (drawn_of i j) s.views id v b me, total-set (drawn_of i j) vs other w e at', times-append i j w.draws v.draws) in
      record {
        wide = h.wide;
        drawn = h.drawn;
        parts = omega (arith, h.parts, total-set (λ (u : ClaimView). u.parts) s.views id v b me, total-set (λ (u : ClaimView). u.parts) vs other w e at');
        claims = h.claims;
        once = λ i j lt. same i j ∙ h.once i j lt;
        never = λ i j le. same i j ∙ h.never i j le;
        idle = all_set IsIdle vs other e (λ _. refl) (all_set IsIdle s.views id b (λ none. absurd (omega arith)) h.idle);
      }

  -- the words at their start
  pub opens : (ws : List ℕ) → length ws ≡ waves → ((j : ℕ) → get_or ws j 0 ≡ 0) → Holds (opening ws [] (fresh_claims 1024))
  opens ws wide zeros = let first : ClaimView = fresh_claims 1024 in record {
    wide = wide;
    drawn = λ j. 0;
    parts = refl;
    claims = λ j lt. zeros j;
    once = λ j k lt. absurd (omega arith);
    never = λ j k le. refl;
    idle = λ i v at. ⊎_elim (λ (x : get_elem? [] i ≡ some v). absurd (some-ne-none v (sym x))) (λ (e : first ≡ v). subst IsIdle e (λ none. absurd (omega arith))) (at_snoc [] first v i at);
  }

-- a list of zeros
pub zeros_at : (n c : ℕ) → get_or {A = ℕ} (replicate n 0) c 0 ≡ 0
zeros_at zero c = refl
zeros_at (suc n) zero = refl
zeros_at (suc n) (suc c) = zeros_at n c
