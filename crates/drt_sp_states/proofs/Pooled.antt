-- Walks of the places of a search, walk by walk.
use Rattle.std.proofs.Common.{◌≡◌, ℕ, ◌+◌, ◌<◌, ◌≤◌, List, [], ◌∷◌, ◌++◌, length, refl, sym, ap, ◌∙◌, arith, length-append}
use Rattle.std.specs.Prelude.{map, slice_index, slice_index_or, take}
use Rattle.std.specs.List.{AllZip}
use Rattle.std.proofs.lemmas.List.{get_or-map, get_or_append_left, get_or_push, length-map, take_more}
use Rattle.drt_check_states.specs.Places.{graphs_at}
use Rattle.drt_graph.specs.Graphs.{graph_of, no_graph}
use Rattle.drt_model.specs.Digraph.{Digraph}
use Rattle.drt_model.specs.Walk.{IsWalk, request_of}
use Rattle.drt_states_laws.specs.Laws.{asked_together}
use Rattle.drt_steps.specs.Time.{AreChosen, IsLeastTime, Passes, sum_at}
use Rattle.drt_steps.specs.Values.{value_at}
use Rattle.drt_sp_states.specs.Misses.{AreMissing, AreReachingWalks}
use Rattle.drt_sp_states.specs.Trials.{ArePooled}
use Rattle.drt_sp_states.specs.Walks.{IsMadeWalk}
use Rattle.drt_sp_states.specs.declared.trials.Pool.{Pool}
use Rattle.drt_sp_states.specs.declared.walks.Made.{Made}

walks_more : (gs : List Digraph) (walks : List (List ℕ)) (g : Digraph) (w : List ℕ) → AllZip IsWalk gs walks → IsWalk g w → AllZip IsWalk (gs ++ g ∷ []) (walks ++ w ∷ [])
walks_more [] [] g w all is = (is, tt)
walks_more [] (x ∷ walks) g w all is = absurd all
walks_more (h ∷ gs) [] g w all is = absurd all
walks_more (h ∷ gs) (x ∷ walks) g w all is = (all.0, walks_more gs walks g w all.1 is)

asked_more : (gs : List Digraph) (walks : List (List ℕ)) (g : Digraph) (w : List ℕ) (t : ℕ) → AllZip IsWalk gs walks
    → asked_together (gs ++ g ∷ []) (walks ++ w ∷ []) t ≡ asked_together gs walks t + request_of g w t
unfolding asked_together
asked_more [] [] g w t all = omega arith
asked_more [] (x ∷ walks) g w t all = absurd all
asked_more (h ∷ gs) [] g w t all = absurd all
asked_more (h ∷ gs) (x ∷ walks) g w t all = omega (arith, asked_more gs walks g w t all.1)

-- The k-th function of a longer pool.
same_at : (pool : List (List ℕ)) (x : List ℕ) (k : ℕ) → k < length pool → slice_index_or (pool ++ x ∷ []) k [] ≡ slice_index_or pool k []
same_at pool x k lt = get_or_append_left pool (x ∷ []) [] k lt

chosen_more : (deadline : ℕ) (pool : List (List ℕ)) (x : List ℕ) (chosen : List ℕ) → deadline ≤ length x → AreChosen deadline pool chosen
    → AreChosen deadline (pool ++ x ∷ []) (chosen ++ length pool ∷ [])
chosen_more deadline pool x [] long all =
    (omega (arith, length-append pool (x ∷ [])), rw (get_or_push pool x [] (length pool) refl) long, tt)
chosen_more deadline pool x (k ∷ chosen) long all =
    let lt : k < length pool = all.0 in
    (omega (arith, length-append pool (x ∷ [])), rw (same_at pool x k lt) all.1, chosen_more deadline pool x chosen long all.2)

sum_more : (deadline : ℕ) (pool : List (List ℕ)) (x : List ℕ) (chosen : List ℕ) (t : ℕ) → AreChosen deadline pool chosen
    → sum_at (pool ++ x ∷ []) (chosen ++ length pool ∷ []) t ≡ sum_at pool chosen t + value_at x t
sum_more deadline pool x [] t all =
    let e : value_at (slice_index_or (pool ++ x ∷ []) (length pool) []) t ≡ value_at x t = ap (λ (f : List ℕ). value_at f t) (get_or_push pool x [] (length pool) refl) in
    omega arith
sum_more deadline pool x (k ∷ chosen) t all =
    let lt : k < length pool = all.0 in
    let e : value_at (slice_index_or (pool ++ x ∷ []) k []) t ≡ value_at (slice_index_or pool k []) t = ap (λ (f : List ℕ). value_at f t) (same_at pool x k lt) in
    omega (arith, sum_more deadline pool x chosen t all.2)

pub none_pooled : (deadline : ℕ) (pool : Pool) → pool.walks.items ≡ [] → pool.functions.items ≡ [] → pool.chosen.items ≡ [] → ArePooled deadline [] pool
unfolding asked_together
none_pooled deadline pool walks functions chosen = record {
  count = rw functions refl;
  numbers = rw chosen refl;
  each = rw walks tt;
  chosen = rw chosen tt;
  sums = λ t from to. rw chosen refl;
}

-- A pool with a further walk.
pub added : (g : Digraph) (deadline : ℕ) (graphs : List Digraph) (pool longer : Pool) (made : Made) → IsMadeWalk g deadline made → ArePooled deadline graphs pool
    → longer.chosen.items ≡ pool.chosen.items ++ length pool.functions.items ∷ []
    → longer.functions.items ≡ pool.functions.items ++ made.label.values ∷ []
    → longer.walks.items ≡ pool.walks.items ++ made.walk.items ∷ []
    → ArePooled deadline (graphs ++ g ∷ []) longer
added g deadline graphs pool longer made m p chosen functions walks = record {
  count = rw functions (length-append pool.functions.items (made.label.values ∷ []) ∙ (ap (λ n. n + 1) p.count ∙ sym (length-append graphs (g ∷ []))));
  numbers = rw chosen (length-append pool.chosen.items (length pool.functions.items ∷ []) ∙ (ap (λ n. n + 1) p.numbers ∙ sym (length-append graphs (g ∷ []))));
  each = rw walks (walks_more graphs pool.walks.items g made.walk.items p.each is_walk);
  chosen = rw (chosen, functions) (chosen_more deadline pool.functions.items made.label.values pool.chosen.items long p.chosen);
  sums = λ t from to.
      let a : sum_at (pool.functions.items ++ made.label.values ∷ []) (pool.chosen.items ++ length pool.functions.items ∷ []) t
      ≡ sum_at pool.functions.items pool.chosen.items t + value_at made.label.values t
      = sum_more deadline pool.functions.items made.label.values pool.chosen.items t p.chosen in
      let b : asked_together (graphs ++ g ∷ []) (pool.walks.items ++ made.walk.items ∷ []) t ≡ asked_together graphs pool.walks.items t + request_of g made.walk.items t
      = asked_more graphs pool.walks.items g made.walk.items t p.each in
      let s : sum_at pool.functions.items pool.chosen.items t ≡ asked_together graphs pool.walks.items t = p.sums t from to in
      let v : value_at made.label.values t ≡ request_of g made.walk.items t = m.label_is.values t from to ∙ sym (ap (λ (w : List ℕ). request_of g w t) m.walk_is) in
      rw (chosen, functions, walks) (omega arith);
}
  where
    is_walk : IsWalk g made.walk.items
    is_walk = rw m.walk_is (m.vertex, m.path)

    long : deadline ≤ length made.label.values
    long = let e : length made.label.values ≡ deadline = m.label_is.long in omega arith

-- Where no time passes for the functions, none passes for the walks.
pub missing : (graphs : List Digraph) (wcet deadline : ℕ) (pool : Pool) → ArePooled deadline graphs pool
    → ((s : ℕ) → Passes wcet deadline pool.functions.items pool.chosen.items s → ⊥) → AreMissing graphs wcet deadline pool.walks.items
missing graphs wcet deadline pool p none = record {
  each = p.each;
  none = λ t from to.
      let s : sum_at pool.functions.items pool.chosen.items t ≡ asked_together graphs pool.walks.items t = p.sums t from to in
      let no : wcet + sum_at pool.functions.items pool.chosen.items t ≤ t → ⊥ = λ h. none t (record { from = from; to = to; passes = h }) in
      omega arith;
}

-- The least time that passes for the functions is the least one for the walks.
pub reaching : (graphs : List Digraph) (wcet deadline time : ℕ) (pool : Pool) → ArePooled deadline graphs pool
    → IsLeastTime wcet deadline pool.functions.items pool.chosen.items time → AreReachingWalks graphs wcet deadline time pool.walks.items
reaching graphs wcet deadline time pool p is = record {
  each = p.each;
  some = is.passes.from;
  most = is.passes.to;
  fits =
      let s : sum_at pool.functions.items pool.chosen.items time ≡ asked_together graphs pool.walks.items time = p.sums time is.passes.from is.passes.to in
      let h : wcet + sum_at pool.functions.items pool.chosen.items time ≤ time = is.passes.passes in
      omega arith;
  none = λ t from before.
      let end : time ≤ deadline = is.passes.to in
      let to : t ≤ deadline = omega arith in
      let s : sum_at pool.functions.items pool.chosen.items t ≡ asked_together graphs pool.walks.items t = p.sums t from to in
      let no : wcet + sum_at pool.functions.items pool.chosen.items t ≤ t → ⊥ =
      λ h. let late : time ≤ t = is.least t (record { from = from; to = to; passes = h }) in absurd (omega arith) in
      omega arith;
}

-- The graphs of one place more.
pub graphs_more : (graphs : List Digraph) (order : List ℕ) (i : ℕ) → i < length order
    → take (i + 1) (graphs_at graphs order) ≡ take i (graphs_at graphs order) ++ graph_of graphs (slice_index order i) ∷ []
graphs_more graphs order i lt =
    let m : i < length (map (λ k. graph_of graphs k) order) = omega (arith, length-map order (λ k. graph_of graphs k)) in
    let e : slice_index_or (map (λ k. graph_of graphs k) order) i no_graph ≡ graph_of graphs (slice_index order i) = get_or-map (λ k. graph_of graphs k) order i 0 no_graph lt in
    take_more (graphs_at graphs order) i no_graph m ∙ ap (λ (g : Digraph). take i (graphs_at graphs order) ++ g ∷ []) e
