-- Walks that are cut at a time.
use Rattle.std.proofs.Common.{inl, inr, ◌≡◌, ℕ, zero, suc, ◌+◌, ◌<◌, ◌≤◌, false, cond, ltb, List, [], ◌∷◌, refl, sym, ap, ◌∙◌, arith, filter}
use Rattle.std.proofs.lemmas.Bool.{cases_Bool, ltb-true, ltb-false, lt-ltb, le-ltb}
use Rattle.drt_model.specs.declared.tasks.Task.{Task}
use Rattle.drt_model.specs.declared.jobs.Release.{Release}
use Rattle.drt_model.specs.Digraph.{Digraph}
use Rattle.drt_model.specs.Walk.{gap, wcet, IsPath, requested_from, IsWalk, request_of}
use Rattle.drt_model.proofs.Neighbours.{filter-yes, filter-no}
use Rattle.drt_busy.specs.Choice.{AreWalks, graph_at, requests}
use Rattle.drt_busy.specs.WalkReleases.{release_at, releases_from, releases_of}
use Rattle.drt_busy.specs.Response.{cut_from, cut}

module _ (g : Digraph) where
  cut_path : (t x u : ℕ) (vs : List ℕ) → IsPath g u vs → IsPath g u (cut_from g t x u vs)
  unfolding cut_from
  cut_path t x u [] p = tt
  cut_path t x u (v ∷ vs) p = elim (cases_Bool (ltb (x + gap g u v) t)) [
    | inl early ↦ rw early (p.0, cut_path t (x + gap g u v) v vs p.1)
    | inr late ↦ rw late tt
  ]

  pub cut_walk : (t : ℕ) (walk : List ℕ) → IsWalk g walk → IsWalk g (cut g t walk)
  cut_walk t [] w = w
  cut_walk t (u ∷ vs) w = (w.0, cut_path t 0 u vs w.1)

  -- releases at t or later ask for nothing before s
  late_requests : (s x u : ℕ) (vs : List ℕ) → s ≤ x → requested_from g x u vs s ≡ 0
  unfolding requested_from
  late_requests s x u [] h = let late : ltb x s ≡ false = le-ltb x s h in rw late refl
  late_requests s x u (v ∷ vs) h =
      let late : ltb x s ≡ false = le-ltb x s h in
      let more : requested_from g (x + gap g u v) v vs s ≡ 0 = late_requests s (x + gap g u v) v vs (omega arith) in
      rw (late, more) refl

  cut_requests : (t s x u : ℕ) (vs : List ℕ) → s ≤ t → requested_from g x u (cut_from g t x u vs) s ≡ requested_from g x u vs s
  unfolding requested_from cut_from
  cut_requests t s x u [] h = refl
  cut_requests t s x u (v ∷ vs) h = elim (cases_Bool (ltb (x + gap g u v) t)) [
    | inl early ↦ rw early (ap (λ n. cond (ltb x s) (wcet g u) 0 + n) (cut_requests t s (x + gap g u v) v vs h))
    | inr late ↦
        (let from : t ≤ x + gap g u v = ltb-false (x + gap g u v) t late in
        let none : requested_from g (x + gap g u v) v vs s ≡ 0 = late_requests s (x + gap g u v) v vs (omega arith) in
        rw (late, none) (omega arith))
  ]

  pub cut_request : (t s : ℕ) (walk : List ℕ) → s ≤ t → request_of g (cut g t walk) s ≡ request_of g walk s
  cut_request t s [] h = refl
  cut_request t s (u ∷ vs) h = cut_requests t s 0 u vs h

  -- each later release comes no earlier
  none_early : (k t x u : ℕ) (vs : List ℕ) → t ≤ x → filter (λ (r : Release). ltb r.time t) (releases_from g k x u vs) ≡ []
  unfolding releases_from
  none_early k t x u [] h = filter-no (λ (r : Release). ltb r.time t) (release_at g k x u) [] (le-ltb x t h)
  none_early k t x u (v ∷ vs) h =
      filter-no (λ (r : Release). ltb r.time t) (release_at g k x u) (releases_from g k (x + gap g u v) v vs) (le-ltb x t h)
      ∙ none_early k t (x + gap g u v) v vs (omega arith)

  cut_releases_from : (k t x u : ℕ) (vs : List ℕ) → x < t → releases_from g k x u (cut_from g t x u vs) ≡ filter (λ (r : Release). ltb r.time t) (releases_from g k x u vs)
  unfolding releases_from cut_from
  cut_releases_from k t x u [] h = sym (filter-yes (λ (r : Release). ltb r.time t) (release_at g k x u) [] (lt-ltb x t h))
  cut_releases_from k t x u (v ∷ vs) h =
      let first = filter-yes (λ (r : Release). ltb r.time t) (release_at g k x u) (releases_from g k (x + gap g u v) v vs) (lt-ltb x t h) in
      elim (cases_Bool (ltb (x + gap g u v) t)) [
        | inl early ↦ rw early (ap (λ (rs : List Release). release_at g k x u ∷ rs) (cut_releases_from k t (x + gap g u v) v vs (ltb-true (x + gap g u v) t early)) ∙ sym first)
        | inr late ↦ rw late (ap (λ (rs : List Release). release_at g k x u ∷ rs) (sym (none_early k t (x + gap g u v) v vs (ltb-false (x + gap g u v) t late))) ∙ sym first)
      ]

  pub cut_releases : (k t : ℕ) (walk : List ℕ) → 1 ≤ t → releases_of g k (cut g t walk) ≡ filter (λ (r : Release). ltb r.time t) (releases_of g k walk)
  cut_releases k t [] h = refl
  cut_releases k t (u ∷ vs) h = cut_releases_from k t 0 u vs (omega arith)

module _ (tasks : List Task) (walks : ℕ → List ℕ) (t : ℕ) where
  abbrev pub cut_walks : ℕ → List ℕ
  cut_walks i = cut (graph_at tasks i) t (walks i)

  pub are_cut : AreWalks tasks walks → AreWalks tasks cut_walks
  are_cut are i h = cut_walk (graph_at tasks i) t (walks i) (are i h)

  pub cut_sums : (p n s : ℕ) → s ≤ t → requests tasks cut_walks p n s ≡ requests tasks walks p n s
  unfolding requests
  cut_sums p zero s h = refl
  cut_sums p (suc i) s h =
      let before : requests tasks cut_walks p i s ≡ requests tasks walks p i s = cut_sums p i s h in
      let here : request_of (graph_at tasks i) (cut_walks i) s ≡ request_of (graph_at tasks i) (walks i) s = cut_request (graph_at tasks i) t s (walks i) h in
      rw (before, here) refl
