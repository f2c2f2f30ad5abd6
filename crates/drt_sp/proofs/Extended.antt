-- A proof over the first trees is one over all trees.
use Rattle.std.proofs.Common.{◌≡◌, ℕ, ◌+◌, ◌≤◌, Option, Some, None, List, [], ◌∷◌, ◌++◌, length, get_or, All, refl, sym, ap, ◌∙◌, arith}
use Rattle.std.specs.Prelude.{slice_get}
use Rattle.std.proofs.lemmas.List.{length-set}
use Rattle.std.proofs.lemmas.List.Elements.{All-cons, All-nil}
use Rattle.std.proofs.lemmas.Option.{none-some, slice_get_within}
use Rattle.drt_model.specs.Digraph.{Digraph}
use Rattle.drt_tree.proofs.Trees.{get_front}
use Rattle.drt_claims.specs.Proofs.{HasPassingTime, after, after_all, halved, parts_in, passes, tree_sum_at}
use Rattle.drt_claims.specs.Trees.{node_values}
use Rattle.drt_claims.specs.declared.evidence.Item.{Item}
use Rattle.drt_claims.specs.declared.evidence.Item.TheVariants.{Pass, Split}
use Rattle.drt_claims.specs.declared.evidence.TreeClaim.{TreeClaim}

-- Each combination of the stack has at most m nodes.
abbrev pub AreNarrow : ℕ → List (List ℕ) → Type 0
AreNarrow m [] = Unit {0}
AreNarrow m (nodes ∷ stack) = (length nodes ≤ m) × AreNarrow m stack

-- Where there is a stack after an item, it is narrow too.
abbrev pub IsNarrow : ℕ → Option (List (List ℕ)) → Type 0
IsNarrow m None = Unit {0}
IsNarrow m (Some stack) = AreNarrow m stack

halved_narrow : (m : ℕ) (nodes : List ℕ) (place : ℕ) (stack : List (List ℕ)) (p : Option (ℕ × ℕ)) → length nodes ≤ m → AreNarrow m stack → IsNarrow m (halved nodes place stack p)
halved_narrow m nodes place stack None l is = tt
halved_narrow m nodes place stack (Some p) l is = (omega (arith, length-set nodes place p.0), (omega (arith, length-set nodes place p.1), is))

pub after_narrow : (m : ℕ) (trees : List TreeClaim) (item : Item) (stack : List (List ℕ)) → AreNarrow m stack → IsNarrow m (after trees item stack)
after_narrow m trees item [] is = tt
after_narrow m trees (Pass t) (nodes ∷ stack) is = is.1
after_narrow m trees (Split place) (nodes ∷ stack) is = halved_narrow m nodes place stack (parts_in (slice_get trees place) (slice_get nodes place)) is.0 is.1

all_none : (trees : List TreeClaim) (items : List Item) → after_all trees items None ≡ None
unfolding after_all
all_none trees [] = refl
all_none trees (item ∷ items) = refl

module _ (trees more : List TreeClaim) where
  parts_more : (place : ℕ) (t : Option TreeClaim) (n : Option ℕ) (p : ℕ × ℕ) → slice_get trees place ≡ t → parts_in t n ≡ Some p → slice_get (trees ++ more) place ≡ t
  parts_more place None n p e h = absurd (none-some p h)
  parts_more place (Some tree) n p e h = get_front trees more place (slice_get_within trees place tree e) ∙ e

  halved_some : (nodes : List ℕ) (place : ℕ) (stack next : List (List ℕ)) (p : Option (ℕ × ℕ)) → halved nodes place stack p ≡ Some next → (q : ℕ × ℕ) × (p ≡ Some q)
  halved_some nodes place stack next None h = absurd (none-some next h)
  halved_some nodes place stack next (Some q) h = (q, refl)

  pub after_more : (item : Item) (stack next : List (List ℕ)) → after trees item stack ≡ Some next → after (trees ++ more) item stack ≡ after trees item stack
  after_more item [] next h = refl
  after_more (Pass t) (nodes ∷ stack) next h = refl
  after_more (Split place) (nodes ∷ stack) next h =
      let q = halved_some nodes place stack next (parts_in (slice_get trees place) (slice_get nodes place)) h in
      ap (λ t. halved nodes place stack (parts_in t (slice_get nodes place))) (parts_more place (slice_get trees place) (slice_get nodes place) q.0 refl q.1)

  pub all_more : (items : List Item) (stack last : List (List ℕ)) → after_all trees items (Some stack) ≡ Some last → after_all (trees ++ more) items (Some stack) ≡ Some last
  unfolding after_all
  all_more [] stack last h = h
  all_more (item ∷ items) stack last h = go (after trees item stack) refl (λ next k. all_more items next last k)
    where
      go : (next : Option (List (List ℕ))) → after trees item stack ≡ next
          → ((next : List (List ℕ)) → after_all trees items (Some next) ≡ Some last → after_all (trees ++ more) items (Some next) ≡ Some last)
          → after_all (trees ++ more) items (after (trees ++ more) item stack) ≡ Some last
      go None e rest = absurd (none-some last (sym (all_none trees items) ∙ (sym (ap (after_all trees items) e) ∙ h)))
      go (Some next) e rest =
          ap (after_all (trees ++ more) items) (after_more item stack next e ∙ e) ∙ rest next (sym (ap (after_all trees items) e) ∙ h)

  pub passes_more : (items : List Item) (stack last : List (List ℕ)) → after_all trees items (Some stack) ≡ Some last → passes (trees ++ more) items (Some stack) ≡ passes trees items (Some stack)
  unfolding after_all passes
  passes_more [] stack last h = refl
  passes_more (item ∷ items) [] last h = refl
  passes_more (Pass t ∷ items) (nodes ∷ stack) last h = ap (λ xs. (nodes, t) ∷ xs) (passes_more items stack last h)
  passes_more (Split place ∷ items) (nodes ∷ stack) last h = go (after trees (Split place) (nodes ∷ stack)) refl (λ next k. passes_more items next last k)
    where
      go : (next : Option (List (List ℕ))) → after trees (Split place) (nodes ∷ stack) ≡ next
          → ((next : List (List ℕ)) → after_all trees items (Some next) ≡ Some last → passes (trees ++ more) items (Some next) ≡ passes trees items (Some next))
          → passes (trees ++ more) items (after (trees ++ more) (Split place) (nodes ∷ stack)) ≡ passes trees items (after trees (Split place) (nodes ∷ stack))
      go None e rest = absurd (none-some last (sym (all_none trees items) ∙ (sym (ap (after_all trees items) e) ∙ h)))
      go (Some next) e rest =
          ap (passes (trees ++ more) items) (after_more (Split place) (nodes ∷ stack) next e ∙ e)
          ∙ (rest next (sym (ap (after_all trees items) e) ∙ h) ∙ sym (ap (passes trees items) e))

-- The combinations of the items that pass have at most m nodes.
pub passes_narrow : (m : ℕ) (trees : List TreeClaim) (items : List Item) (stack : Option (List (List ℕ))) → IsNarrow m stack → All (λ at. length at.0 ≤ m) (passes trees items stack)
unfolding passes
passes_narrow m trees [] None is = All-nil (λ (at : List ℕ × ℕ). length at.0 ≤ m)
passes_narrow m trees [] (Some stack) is = All-nil (λ (at : List ℕ × ℕ). length at.0 ≤ m)
passes_narrow m trees (item ∷ items) None is = All-nil (λ (at : List ℕ × ℕ). length at.0 ≤ m)
passes_narrow m trees (item ∷ items) (Some []) is = All-nil (λ (at : List ℕ × ℕ). length at.0 ≤ m)
passes_narrow m trees (Pass t ∷ items) (Some (nodes ∷ stack)) is =
    All-cons (λ (at : List ℕ × ℕ). length at.0 ≤ m) (nodes, t) (passes trees items (Some stack)) is.0 (passes_narrow m trees items (Some stack) is.1)
passes_narrow m trees (Split place ∷ items) (Some (nodes ∷ stack)) is = passes_narrow m trees items (after trees (Split place) (nodes ∷ stack)) (after_narrow m trees (Split place) (nodes ∷ stack) is)

-- A combination's sum takes the first graphs and trees alone.
pub sum_more : (graphs others : List Digraph) (trees more : List TreeClaim) (nodes : List ℕ) (t : ℕ) → length nodes ≤ length graphs → length nodes ≤ length trees
    → tree_sum_at (graphs ++ others) (trees ++ more) nodes t ≡ tree_sum_at graphs trees nodes t
unfolding tree_sum_at
sum_more graphs others trees more [] t l m = refl
sum_more [] others trees more (n ∷ nodes) t l m = absurd (omega arith)
sum_more (g ∷ graphs) others [] more (n ∷ nodes) t l m = absurd (omega arith)
sum_more (g ∷ graphs) others (tree ∷ trees) more (n ∷ nodes) t l m = ap (λ x. get_or (node_values g tree t) n 0 + x) (sum_more graphs others trees more nodes t (omega arith) (omega arith))

pub passed_more : (graphs others : List Digraph) (trees more : List TreeClaim) (m : ℕ) → length graphs ≡ m → length trees ≡ m → (g : Digraph) (v : ℕ) (ats : List (List ℕ × ℕ))
    → All (λ at. length at.0 ≤ m) ats → All (HasPassingTime graphs trees g v) ats → All (HasPassingTime (graphs ++ others) (trees ++ more) g v) ats
passed_more graphs others trees more m l n g v ats narrow are i d h =
    let at : List ℕ × ℕ = get_or ats i d in
    let p : HasPassingTime graphs trees g v at = are i d h in
    let le : length at.0 ≤ m = narrow i d h in
    record {
      some = p.some;
      within = p.within;
      fits = omega (arith, p.fits, sum_more graphs others trees more at.0 at.1 (omega arith) (omega arith));
    }
