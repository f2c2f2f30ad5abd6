-- The items of a vertex's proof, which are due for nodes of a forest, are due for nodes of the claimed trees: first over the trees of the
-- tasks of higher priority, and then over more trees. For the assembly: `items_due` and `due_more`.
use Rattle.std.proofs.Common.{◌≡◌, ℕ, suc, zero, ◌-◌, ◌≤◌, ◌<◌, Option, None, Some, List, [], ◌∷◌, ◌++◌, map, length, set, get_or, All, refl, sym, ap, ◌∙◌, subst, arith}
use Rattle.std.specs.Prelude.{slice_get}
use Rattle.std.proofs.lemmas.List.Elements.{All-head, All-tail}
use Rattle.std.proofs.lemmas.Option.{none-some, same_Some, slice_get-get_or, slice_get_within}
use Rattle.drt_model.specs.Digraph.{Digraph}
use Rattle.drt_model.specs.Walk.{wcet, deadline}
use Rattle.drt_steps.specs.Time.{Passes, sum_at as forest_sum}
use Rattle.drt_tree.specs.Tree.{IsForest, Plain, leaves}
use Rattle.drt_tree.proofs.Trees.{get_front}
use Rattle.drt_refine.specs.Eager.{IsWidest}
use Rattle.drt_claims.specs.Proofs.{HasPassingTime, after, tree_sum_at}
use Rattle.drt_claims.specs.Trees.{IsTree, root}
use Rattle.drt_claims.specs.declared.evidence.Item.{Item}
use Rattle.drt_claims.specs.declared.evidence.Item.TheVariants.{Pass, Split}
use Rattle.drt_claims.specs.declared.evidence.TreeClaim.{TreeClaim}
use Rattle.drt_sp.specs.Claims.{AreClaimsOf}
use Rattle.drt_sp.specs.Items.{AreItems, none, pass, split}
use Rattle.drt_sp.specs.Written.{AreEagerItems, IsEagerItem, IsWidestPlace, count_at, count_in}
use Rattle.drt_sp.proofs.Counted.{counts_are}
use Rattle.drt_sp.proofs.Extended.{AreNarrow, IsNarrow, after_more, after_narrow, sum_more}
use Rattle.drt_sp.proofs.Translated.{AllIn, AreIn, IsSplitOf, again, halves_of, inside, lower, lower_all, passed, split_after, sums_are, tops_in, tops_low}

module _ (bound : ℕ) (f : Plain) where
  -- A combination has as many nodes with either numbers.
  lower_length : (graphs : List Digraph) (claims : List TreeClaim) (lows nodes : List ℕ) → AreIn bound f graphs claims lows nodes → length (lower lows nodes) ≡ length nodes
  lower_length graphs claims lows [] h = refl
  lower_length (g ∷ graphs) (claim ∷ claims) (low ∷ lows) (n ∷ nodes) h = ap suc (lower_length graphs claims lows nodes h.1)
  lower_length graphs claims lows (n ∷ nodes) h = elim h [ ]

  -- A node of a combination has as many walks below it as leaves.
  count_is : IsForest f → (graphs : List Digraph) (claims : List TreeClaim) (lows nodes : List ℕ) → AreIn bound f graphs claims lows nodes → All IsTree claims
      → (place n : ℕ) → slice_get nodes place ≡ Some n → count_at claims (lower lows nodes) place ≡ leaves f n
  count_is forest graphs claims lows [] h trees place n at = absurd (none-some n at)
  count_is forest (g ∷ graphs) (claim ∷ claims) (low ∷ lows) (m ∷ nodes) h trees zero n at =
      counts_are g bound f low h.0.top claim forest (All-head IsTree claim claims trees) h.0.claim_is (m - low) (inside bound f g claim low m h.0)
      ∙ (ap (leaves f) (again bound f g claim low m h.0) ∙ ap (leaves f) (same_Some m n at))
  count_is forest (g ∷ graphs) (claim ∷ claims) (low ∷ lows) (m ∷ nodes) h trees (suc place) n at =
      count_is forest graphs claims lows nodes h.1 (All-tail IsTree claim claims trees) place n at
  count_is forest graphs claims lows (m ∷ nodes) h trees place n at = elim h [ ]

  module _ (graphs : List Digraph) (claims : List TreeClaim) (lows : List ℕ) (forest : IsForest f) (trees : All IsTree claims) where
    -- The place with the most leaves is the one with the most walks.
    widest_is : (nodes : List ℕ) (place : ℕ) → AreIn bound f graphs claims lows nodes → IsWidest f nodes place → IsWidestPlace claims (lower lows nodes) place
    widest_is nodes place h w = record {
      within = omega (arith, long, slice_get_within nodes place w.node w.at);
      most = λ q l.
          let at : slice_get nodes q ≡ Some (get_or nodes q 0) = slice_get-get_or nodes q 0 (omega (arith, l, long)) in
          omega (arith, w.most q (get_or nodes q 0) at, here, count_is forest graphs claims lows nodes h trees q (get_or nodes q 0) at);
      least = λ q l.
          let at : slice_get nodes q ≡ Some (get_or nodes q 0) = slice_get-get_or nodes q 0 (omega (arith, l, slice_get_within nodes place w.node w.at)) in
          omega (arith, w.least q (get_or nodes q 0) l at, here, count_is forest graphs claims lows nodes h trees q (get_or nodes q 0) at);
    }
      where
        long : length (lower lows nodes) ≡ length nodes
        long = lower_length graphs claims lows nodes h

        here : count_at claims (lower lows nodes) place ≡ leaves f w.node
        here = count_is forest graphs claims lows nodes h trees place w.node w.at

    module _ (g : Digraph) (v : ℕ) (near : deadline g v ≤ bound) where
      -- A time that passes on the claimed trees passes on the forest.
      passes_back : (nodes : List ℕ) (t : ℕ) → AreIn bound f graphs claims lows nodes → HasPassingTime graphs claims g v (lower lows nodes, t) → Passes (wcet g v) (deadline g v) f.pool nodes t
      passes_back nodes t h p =
          let sum : tree_sum_at graphs claims (lower lows nodes) t ≡ forest_sum f.pool nodes t
          = sums_are bound f graphs claims lows nodes t h p.some (let w = p.within in omega (arith, w, near)) in
          record { from = p.some; to = p.within; passes = (let e = p.fits in omega (arith, e, sum)) }

      -- Items that are due for a stack of the forest's nodes are due for that of the claimed trees'.
      due_of : (items : List Item) (stack : List (List ℕ)) → AreItems f (wcet g v) (deadline g v) items stack → AllIn bound f graphs claims lows stack
          → AreEagerItems graphs claims g v items (Some (lower_all lows stack))
      unfolding AreEagerItems
      due_of items stack none h = refl
      due_of items stack (pass t more nodes rest least are) h = (
        (
          passed bound f graphs claims lows g v near nodes t h.0 least.passes,
          λ s l p. let e = least.least s (passes_back nodes s h.0 p) in absurd (omega (arith, e, l)),
        ),
        due_of more rest are h.1,
      )
      due_of items stack (split place l r more nodes rest hopeless place_is halves are) h =
          let s : IsSplitOf bound f graphs claims lows nodes place l r = halves_of bound f graphs claims lows (wcet g v) (deadline g v) nodes place l r h.0 halves in (
            (λ t p. hopeless t (passes_back nodes t h.0 p), widest_is nodes place h.0 place_is.0),
            subst (AreEagerItems graphs claims g v more) (sym (split_after bound f graphs claims lows nodes rest place l r s))
                (due_of more (set nodes place l ∷ set nodes place r ∷ rest) are (s.left_in, (s.right_in, h.1))),
          )

-- The items of a proof from the tops on are due one after another on the claimed trees.
pub items_due : (bound : ℕ) (f : Plain) → IsForest f → (graphs : List Digraph) (lows tops : List ℕ) (claims : List TreeClaim) → AreClaimsOf bound f graphs lows tops claims → All IsTree claims
    → (g : Digraph) (v : ℕ) → deadline g v ≤ bound → (items : List Item) → AreItems f (wcet g v) (deadline g v) items (tops ∷ [])
    → AreEagerItems graphs claims g v items (Some (map root claims ∷ []))
items_due bound f forest graphs lows tops claims are trees g v near items is =
    subst (λ (nodes : List ℕ). AreEagerItems graphs claims g v items (Some (nodes ∷ []))) (sym (tops_low bound f graphs lows tops claims are))
    (due_of bound f graphs claims lows forest trees g v near items (tops ∷ []) is (tops_in bound f graphs lows tops claims are, tt))

-- A node's number of walks takes the first trees alone.
count_more : (trees more : List TreeClaim) (nodes : List ℕ) (place : ℕ) → place < length trees → count_at (trees ++ more) nodes place ≡ count_at trees nodes place
count_more trees more nodes place l = ap (λ tree. count_in tree (slice_get nodes place)) (get_front trees more place l)

-- The widest place of a combination over the first trees is that over more.
widest_more : (trees more : List TreeClaim) (nodes : List ℕ) (place : ℕ) → length nodes ≤ length trees → IsWidestPlace trees nodes place → IsWidestPlace (trees ++ more) nodes place
widest_more trees more nodes place narrow w = record {
  within = w.within;
  most = λ q l. omega (arith, w.most q l, here, count_more trees more nodes q (omega (arith, l, narrow)));
  least = λ q l. omega (arith, w.least q l, here, count_more trees more nodes q (omega (arith, l, narrow, within)));
}
  where
    within : place < length nodes
    within = w.within

    here : count_at (trees ++ more) nodes place ≡ count_at trees nodes place
    here = count_more trees more nodes place (omega (arith, within, narrow))

module _ (graphs others : List Digraph) (trees more : List TreeClaim) (m : ℕ) (graph_count : length graphs ≡ m) (tree_count : length trees ≡ m) (g : Digraph) (v : ℕ) where
  -- A time passes over the first trees exactly where it passes over more.
  passed_on : (nodes : List ℕ) (t : ℕ) → length nodes ≤ m → HasPassingTime graphs trees g v (nodes, t) → HasPassingTime (graphs ++ others) (trees ++ more) g v (nodes, t)
  passed_on nodes t narrow p = record {
    some = p.some;
    within = p.within;
    fits = (let e = p.fits in omega (arith, e, sum_more graphs others trees more nodes t (omega (arith, narrow, graph_count)) (omega (arith, narrow, tree_count))));
  }

  passed_before : (nodes : List ℕ) (t : ℕ) → length nodes ≤ m → HasPassingTime (graphs ++ others) (trees ++ more) g v (nodes, t) → HasPassingTime graphs trees g v (nodes, t)
  passed_before nodes t narrow p = record {
    some = p.some;
    within = p.within;
    fits = (let e = p.fits in omega (arith, e, sum_more graphs others trees more nodes t (omega (arith, narrow, graph_count)) (omega (arith, narrow, tree_count))));
  }

  -- An item that is due for a combination over the first trees is due for it over more.
  item_more : (item : Item) (nodes : List ℕ) → length nodes ≤ m → IsEagerItem graphs trees g v item nodes → IsEagerItem (graphs ++ others) (trees ++ more) g v item nodes
  item_more (Pass t) nodes narrow is = (passed_on nodes t narrow is.0, λ s l p. is.1 s l (passed_before nodes s narrow p))
  item_more (Split place) nodes narrow is = (λ t p. is.0 t (passed_before nodes t narrow p), widest_more trees more nodes place (omega (arith, narrow, tree_count)) is.1)

  -- Items that are due one after another over the first trees are due over more.
  pub due_more : (items : List Item) (stack : List (List ℕ)) → AreNarrow m stack → AreEagerItems graphs trees g v items (Some stack)
      → AreEagerItems (graphs ++ others) (trees ++ more) g v items (Some stack)
  unfolding AreEagerItems
  due_more [] stack narrow due = due
  due_more (item ∷ items) [] narrow due = due
  due_more (item ∷ items) (nodes ∷ stack) narrow due =
      (item_more item nodes narrow.0 due.0, go (after trees item (nodes ∷ stack)) refl due.1 (after_narrow m trees item (nodes ∷ stack) narrow) (λ next thin. due_more items next thin))
    where
      go : (next : Option (List (List ℕ))) → after trees item (nodes ∷ stack) ≡ next → AreEagerItems graphs trees g v items next → IsNarrow m next
          → ((next : List (List ℕ)) → AreNarrow m next → AreEagerItems graphs trees g v items (Some next) → AreEagerItems (graphs ++ others) (trees ++ more) g v items (Some next))
          → AreEagerItems (graphs ++ others) (trees ++ more) g v items (after (trees ++ more) item (nodes ∷ stack))
      go None e rest thin on = absurd rest
      go (Some next) e rest thin on =
          subst (AreEagerItems (graphs ++ others) (trees ++ more) g v items) (sym (after_more trees more item (nodes ∷ stack) next e ∙ e)) (on next thin rest)
