-- A run of the frontier machine on the tree of TreeRows, and a spent budget.
use Rattle.std.proofs.Common.{◌≡◌, ℕ, zero, suc, ◌<◌, Bool, true, false, cond, List, []}
use Rattle.std.proofs.Common.{◌∷◌, Some, None, length, refl, sym, ap, ◌∙◌, subst, lit<, lit≤, arith}
use Rattle.std.proofs.lemmas.Option.{none-some, same_Some}
use Rattle.drt_steps.specs.Values.{value_at}
use Rattle.drt_tree.specs.Tree.{AreApart, IsForest, IsPair, IsUnder, LeadsToLeaf, Plain, children, leaves, node_values_in, plain}
use Rattle.drt_tree.specs.declared.node.Node.{Node}
use Rattle.drt_tree.proofs.Trees.{leaf_below}
use Rattle.drt_refine.specs.Combination.{Combination, is_combination_held_by, is_held_state}
use Rattle.drt_refine.specs.Facts.{IsPassed}
use Rattle.drt_refine.specs.Machine.{FrontierSetting, FrontierState, CanStep, IsRun, NonePasses}
use Rattle.drt_refine.specs.Machine.{PassesFor, replay, is_finished, step_of, opening_state}
use Rattle.drt_refine.specs.declared.step.CombinationState.{CombinationState}
use Rattle.drt_refine.specs.declared.step.CombinationState.TheVariants.{Taken as TakenBy, Passed as PassedAt, Split as SplitAt}
use Rattle.drt_refine.specs.declared.step.FrontierEntry.{FrontierEntry}
use Rattle.drt_refine.specs.declared.step.FrontierReply.{FrontierReply}
use Rattle.drt_refine.specs.declared.step.FrontierReply.TheVariants.{Taken, Busy, Finished, Passed, Halved, Spent}
use Rattle.drt_refine.specs.declared.step.FrontierStep.{FrontierStep}
use Rattle.drt_refine.specs.declared.step.FrontierStep.TheVariants.{Take, Pass, Split}
use Rattle.drt_refine.proofs.Runs.{finished_passed, run_facts}
use Rattle.drt_worklist.specs.Places.{first}
use Rattle.drt_worklist.proofs.Lists.{none_found}

-- The nodes 0, 1 and 2 are the walks y, x and y y, node 3 is the pair of 0 and 1, and node 4, the root, that of 3 and 2.
abbrev walk_node : List ℕ → Node
walk_node walk = record { children = None; leaves = 1; walk = walk }

abbrev pair_node : ℕ → ℕ → ℕ → Node
pair_node left right count = record { children = Some (left, right); leaves = count; walk = [] }

-- What each asks for before 1 to 5: y for 2, x for 3, y y for 2 up to 4 and for 4 at 5, and a pair for the greater one of its parts.
abbrev pub forest : Plain
forest =
    plain
    (walk_node (1 ∷ []) ∷ walk_node (0 ∷ []) ∷ walk_node (1 ∷ 1 ∷ []) ∷ pair_node 0 1 2 ∷ pair_node 3 2 3 ∷ [])
    (
    (2 ∷ 2 ∷ 2 ∷ 2 ∷ 2 ∷ []) ∷ (3 ∷ 3 ∷ 3 ∷ 3 ∷ 3 ∷ []) ∷ (2 ∷ 2 ∷ 2 ∷ 2 ∷ 4 ∷ []) ∷ (3 ∷ 3 ∷ 3 ∷ 3 ∷ 3 ∷ [])
    ∷ (3 ∷ 3 ∷ 3 ∷ 3 ∷ 4 ∷ []) ∷ []
    )

-- These are a forest: each pair has the leaves of its parts, at each time the greater one of their values, and no leaf below both.
only_leaf : (n leaf : ℕ) (turns : List Bool) → children forest n ≡ None → LeadsToLeaf forest n turns leaf → n ≡ leaf
only_leaf n leaf [] none p = p.0
only_leaf n leaf (b ∷ turns) none (l, r, e, rest) = absurd (none-some (l, r) (sym none ∙ e))

left_or_right : (leaf : ℕ) (b : Bool) (turns : List Bool) → LeadsToLeaf forest (cond b 0 1) turns leaf → leaf < 2
left_or_right leaf true turns p = let e = only_leaf 0 leaf turns refl p in omega (arith, e)
left_or_right leaf false turns p = let e = only_leaf 1 leaf turns refl p in omega (arith, e)

below_3 : (leaf : ℕ) (turns : List Bool) → LeadsToLeaf forest 3 turns leaf → leaf < 2
below_3 leaf [] p = absurd (none-some (0, 1) (sym p.1))
below_3 leaf (b ∷ turns) (l, r, e, rest) =
    left_or_right leaf b turns (subst (λ p. LeadsToLeaf forest (cond b p.0 p.1) turns leaf) (sym (same_Some (0, 1) (l, r) e)) rest)

pub forest_is : IsForest forest
forest_is = record { same = refl; pairs = pairs; ones = ones; bound = λ m n h i. five m h ∙ sym (five n i); apart = apart }
  where
    pairs : (n l r : ℕ) → children forest n ≡ Some (l, r) → IsPair forest n l r
    pairs zero l r e = absurd (none-some (l, r) e)
    pairs (suc zero) l r e = absurd (none-some (l, r) e)
    pairs (suc (suc zero)) l r e = absurd (none-some (l, r) e)
    pairs (suc (suc (suc zero))) l r e =
        subst (λ p. IsPair forest 3 p.0 p.1) (same_Some (0, 1) (l, r) e) (record { left = lit< tt; right = lit< tt; count = refl; most = refl })
    pairs (suc (suc (suc (suc zero)))) l r e =
        subst (λ p. IsPair forest 4 p.0 p.1) (same_Some (3, 2) (l, r) e) (record { left = lit< tt; right = lit< tt; count = refl; most = refl })
    pairs (suc (suc (suc (suc (suc n))))) l r e = absurd (none-some (l, r) e)

    ones : (n : ℕ) → children forest n ≡ None → leaves forest n ≡ 1
    ones zero e = refl
    ones (suc zero) e = refl
    ones (suc (suc zero)) e = refl
    ones (suc (suc (suc zero))) e = absurd (none-some (0, 1) (sym e))
    ones (suc (suc (suc (suc zero)))) e = absurd (none-some (3, 2) (sym e))
    ones (suc (suc (suc (suc (suc n))))) e = refl

    five : (n : ℕ) → n < 5 → length (node_values_in forest n) ≡ 5
    five zero h = refl
    five (suc zero) h = refl
    five (suc (suc zero)) h = refl
    five (suc (suc (suc zero))) h = refl
    five (suc (suc (suc (suc zero)))) h = refl
    five (suc (suc (suc (suc (suc n))))) h = absurd (omega (arith, h))

    apart : AreApart forest
    apart zero l r leaf e = absurd (none-some (l, r) e)
    apart (suc zero) l r leaf e = absurd (none-some (l, r) e)
    apart (suc (suc zero)) l r leaf e = absurd (none-some (l, r) e)
    apart (suc (suc (suc zero))) l r leaf e =
        subst (λ p. IsUnder forest leaf p.0 → ¬ IsUnder forest leaf p.1) (same_Some (0, 1) (l, r) e)
        (λ u v. omega (arith, only_leaf 0 leaf u.0 refl u.1, only_leaf 1 leaf v.0 refl v.1))
    apart (suc (suc (suc (suc zero)))) l r leaf e =
        subst (λ p. IsUnder forest leaf p.0 → ¬ IsUnder forest leaf p.1) (same_Some (3, 2) (l, r) e)
        (λ u v. omega (arith, below_3 leaf u.0 u.1, only_leaf 2 leaf v.0 refl v.1))
    apart (suc (suc (suc (suc (suc n))))) l r leaf e = absurd (none-some (l, r) e)

-- z needs 2 ticks by 5, and the budget is ample.
abbrev pub setting : FrontierSetting
setting = record { forest = forest; roots = 4 ∷ []; wcet = 2; deadline = 5; budget = 100 }

abbrev pub by : ℕ → FrontierStep → FrontierEntry
by w s = record { worker = w; step = s }

-- The worker takes the root and splits it, and takes each half, which passes at 5 and at 4.
abbrev pub log : List FrontierEntry
log = by 0 Take ∷ by 0 (Split 0 0) ∷ by 0 Take ∷ by 0 (Pass 1 5) ∷ by 0 Take ∷ by 0 (Pass 2 4) ∷ []

-- A combination of one node.
abbrev combination : ℕ → CombinationState → Combination
combination node state = record { nodes = node ∷ []; state = state }

-- A worker that holds no combination may take.
may_take : (s : FrontierState) → first (is_combination_held_by 0) s.combinations ≡ None → CanStep setting s 0 Take
may_take s e id c at held =
    let none : is_combination_held_by 0 c ≡ false = none_found (is_combination_held_by 0) s.combinations e id c at in
    let one : is_combination_held_by 0 c ≡ true = ap (is_held_state 0) held in
    absurd (cc)

-- No time up to 5 passes for the root: 2 + 3 is more than each up to 4, and 2 + 4 is more than 5.
pub none_passes_root : NonePasses setting (4 ∷ [])
unfolding value_at
none_passes_root zero p = omega (arith, p.from)
none_passes_root (suc zero) p = omega (arith, p.passes)
none_passes_root (suc (suc zero)) p = omega (arith, p.passes)
none_passes_root (suc (suc (suc zero))) p = omega (arith, p.passes)
none_passes_root (suc (suc (suc (suc zero)))) p = omega (arith, p.passes)
none_passes_root (suc (suc (suc (suc (suc zero))))) p = omega (arith, p.passes)
none_passes_root (suc (suc (suc (suc (suc (suc t)))))) p = omega (arith, p.to)

-- Its left half passes at 5, as 2 + 3 is 5, and its right half at 4, as 2 + 2 is 4.
pub left_passes : PassesFor setting (3 ∷ []) 5
unfolding value_at
left_passes = record { from = lit≤ tt; to = lit≤ tt; passes = lit≤ tt }

pub right_passes : PassesFor setting (2 ∷ []) 4
unfolding value_at
right_passes = record { from = lit≤ tt; to = lit≤ tt; passes = lit≤ tt }

-- The states in which the worker takes a half.
abbrev after_split : FrontierState
after_split = replay setting (by 0 Take ∷ by 0 (Split 0 0) ∷ [])

abbrev after_left : FrontierState
after_left = replay setting (by 0 Take ∷ by 0 (Split 0 0) ∷ by 0 Take ∷ by 0 (Pass 1 5) ∷ [])

-- Each entry meets its conditions and is logged.
pub run_is : IsRun setting log
run_is = (
  may_take (opening_state setting) refl,
  refl,
  (
    (combination 4 (TakenBy 0), record { at = refl; held = refl }, record { node = 4; left = 3; right = 2; at = refl; children = refl }),
    refl,
    (
      may_take after_split refl,
      refl,
      (
        (combination 3 (TakenBy 0), record { at = refl; held = refl }, left_passes),
        refl,
        (may_take after_left refl, refl, ((combination 2 (TakenBy 0), record { at = refl; held = refl }, right_passes), refl, tt)),
      ),
    ),
  ),
)

-- The root was split into the combinations 1 and 2, which passed at 5 and at 4.
pub combinations_are :
    (replay setting log).combinations ≡ combination 4 (SplitAt 0 1 2) ∷ combination 3 (PassedAt 5) ∷ combination 2 (PassedAt 4) ∷ []
combinations_are = refl

-- It finishes: no combination is pending, none is taken and none has failed. The next Take is answered so.
pub run_finishes : is_finished setting (replay setting log) ≡ true
run_finishes = refl

pub next_reply : (step_of setting (replay setting log) 0 Take).reply ≡ Finished
next_reply = refl

-- So by the machine's law each walk of the tree is below a combination that passed, whose time passes for the walk too.
pub each_walk_passes : (leaf : ℕ) → IsUnder forest leaf 4 → IsPassed setting (replay setting log).combinations (leaf ∷ [])
each_walk_passes leaf under =
    finished_passed setting (replay setting log) (run_facts setting forest_is (lit< tt, lit≤ tt, tt) log run_is)
    (λ l n u h. leaf_below forest n h.0 l u forest_is h.1) run_finishes (leaf ∷ []) (under, tt)

-- Before it, the first half is still pending, and the frontier isn't finished.
pub split_unfinished : is_finished setting after_split ≡ false
split_unfinished = refl

-- The replies to entries, one after another.
abbrev pub replies : FrontierState → List FrontierEntry → List FrontierReply
replies s [] = []
replies s (e ∷ es) = (step_of setting s e.worker e.step).reply ∷ replies (step_of setting s e.worker e.step).state es

pub replies_are : replies (opening_state setting) log ≡ Taken 0 ∷ Halved 1 2 ∷ Taken 1 ∷ Passed ∷ Taken 2 ∷ Passed ∷ []
replies_are = refl

-- Another worker that takes while the root is taken is answered Busy.
pub busy_reply : replies (opening_state setting) (by 0 Take ∷ by 1 Take ∷ []) ≡ Taken 0 ∷ Busy 0 ∷ []
busy_reply = refl

-- With a budget of 1 the first step spends it: the log has one entry, and the next step is refused.
abbrev pub tight : FrontierSetting
tight = record { forest = forest; roots = 4 ∷ []; wcet = 2; deadline = 5; budget = 1 }

pub spent_log : length (replay tight (by 0 Take ∷ [])).log ≡ 1
spent_log = refl

pub spent_reply : (step_of tight (replay tight (by 0 Take ∷ [])) 0 (Split 0 0)).reply ≡ Spent
spent_reply = refl
