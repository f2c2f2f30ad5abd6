-- One more item of a list, where what was done so far and what is left to do are all.
use Rattle.std.proofs.Common.{◌≡◌, ℕ, ◌+◌, ◌<◌, ◌≤◌, List, [], ◌∷◌, ◌++◌, length, map, get_or, drop, refl, sym, ap, ◌∙◌}
use Rattle.std.specs.Prelude.{◌↔◌, Option, Some, None, slice_get}
use Rattle.std.proofs.lemmas.Bool.{le-ltb, lt-ltb}
use Rattle.std.specs.List.{AllByRecursion, flat_map}
use Rattle.std.proofs.lemmas.List.{append-nil, append_assoc, at_drop_more, drop_all, drop_more, map-append}
use Rattle.drt_claims.specs.declared.evidence.Item.{Item}
use Rattle.drt_claims.specs.declared.evidence.Item.TheVariants.{Pass, Split}
use Rattle.drt_claims.specs.declared.evidence.TreeClaim.{TreeClaim}
use Rattle.drt_claims.specs.declared.evidence.ProofClaim.{ProofClaim}
use Rattle.drt_claims.specs.Trees.{higher_count, root}
use Rattle.drt_model.specs.declared.tasks.Task.{Task}
use Rattle.drt_model.specs.Digraph.{digraph_of}
use Rattle.drt_model.specs.Walk.{deadline, wcet}
use Rattle.drt_check_proofs.specs.Passing.{asks_at, blank, passes_at, queries_of, passing_times}
use Rattle.drt_check_proofs.specs.Points.{make_mark, marks_in, marks_of}
use Rattle.drt_check_proofs.specs.Places.{after_at}
use Rattle.drt_check_proofs.proofs.Turns.{item_at}

-- What was added so far and what is left to add, one step on.
pub added_more : {X : Type 0} (seen next step rest left all : List X) → left ≡ step ++ rest → next ≡ seen ++ step → seen ++ left ≡ all → next ++ rest ≡ all
added_more seen next step rest left all split added so_far = ap (λ xs. xs ++ rest) added ∙ (append_assoc seen step rest ∙ (ap (λ xs. seen ++ xs) (sym split) ∙ so_far))

-- And at the end, where nothing is left.
pub added_all : {X : Type 0} (seen left all : List X) → left ≡ [] → seen ++ left ≡ all → seen ≡ all
added_all seen left all none so_far = sym (append-nil seen) ∙ (ap (λ xs. seen ++ xs) (sym none) ∙ so_far)

pub flat_turned : {X Y : Type 0} (f : X → List Y) (xs : List X) (i : ℕ) (x : X) → i < length xs → x ≡ get_or xs i x → flat_map f (drop i xs) ≡ f x ++ flat_map f (drop (i + 1) xs)
flat_turned {X} f xs i x l is = ap (flat_map f) (drop_more xs i x l) ∙ ap (λ (y : X). f y ++ flat_map f (drop (i + 1) xs)) (sym is)

pub flat_ended : {X Y : Type 0} (f : X → List Y) (xs : List X) (i : ℕ) → length xs ≤ i → flat_map f (drop i xs) ≡ []
flat_ended f xs i l = ap (flat_map f) (drop_all i xs l)

times_first : (item : Item) (items : List Item) → passing_times (item ∷ items) ≡ passing_times (item ∷ []) ++ passing_times items
unfolding passing_times
times_first (Pass t) items = refl
times_first (Split place) items = refl

pub times_turned : {Y : Type 0} (f : ℕ → Y) (items : List Item) (i : ℕ) → i < length items
    → map f (passing_times (drop i items)) ≡ map f (passing_times (item_at items i ∷ [])) ++ map f (passing_times (drop (i + 1) items))
times_turned f items i l =
    ap (λ xs. map f (passing_times xs)) (drop_more items i (Pass 0) l)
    ∙ (ap (map f) (times_first (item_at items i) (drop (i + 1) items)) ∙ map-append f (passing_times (item_at items i ∷ [])) (passing_times (drop (i + 1) items)))

pub times_ended : {Y : Type 0} (f : ℕ → Y) (items : List Item) (i : ℕ) → length items ≤ i → map f (passing_times (drop i items)) ≡ []
unfolding passing_times
times_ended f items i l = ap (λ xs. map f (passing_times xs)) (drop_all i items l)

pub passes_turned : (tree : TreeClaim) (place : ℕ) (items : List Item) (i : ℕ) (nodes : List ℕ) (o : Option (List ℕ)) → i < length items → after_at tree place (item_at items i) nodes ≡ o
    → passes_at tree place (drop i items) (Some nodes) ≡ asks_at (item_at items i) nodes ++ passes_at tree place (drop (i + 1) items) o
unfolding passes_at
passes_turned tree place items i nodes o l e =
    at_drop_more (λ xs. passes_at tree place xs (Some nodes)) items i (Pass 0) l ∙ ap (λ next. asks_at (item_at items i) nodes ++ passes_at tree place (drop (i + 1) items) next) e

pub passes_none : (tree : TreeClaim) (place : ℕ) (items : List Item) → passes_at tree place items None ≡ []
unfolding passes_at
passes_none tree place items = refl

pub passes_ended : (tree : TreeClaim) (place : ℕ) (items : List Item) (i : ℕ) (nodes : List ℕ) → length items ≤ i → passes_at tree place (drop i items) (Some nodes) ≡ []
unfolding passes_at
passes_ended tree place items i nodes l = ap (λ xs. passes_at tree place xs (Some nodes)) (drop_all i items l)

-- What holds of all of a list holds of both of its parts, and the other way round.
pub all_parts : {X : Type 0} (P : X → Type 0) (xs ys : List X) → AllByRecursion P (xs ++ ys) ↔ (AllByRecursion P xs × AllByRecursion P ys)
all_parts P [] ys = (λ all. (tt, all), λ both. both.1)
all_parts P (x ∷ xs) ys =
    let rest = all_parts P xs ys in
    (λ all. ((all.0, (rest.0 all.1).0), (rest.0 all.1).1), λ both. (both.0.0, rest.1 (both.0.1, both.1)))

-- What is left decides, one step on.
pub left_more : {X : Type 0} (P : X → Type 0) (A : Type 0) (left step rest : List X) → left ≡ step ++ rest → AllByRecursion P step → (A ↔ AllByRecursion P left) → A ↔ AllByRecursion P rest
left_more P A left step rest split is decides =
    let parts = rw (sym split) at (all_parts P step rest) in
    (λ a. (parts.0 (decides.0 a)).1, λ all. decides.1 (parts.1 (is, all)))

pub left_fails : {X : Type 0} (P : X → Type 0) (A : Type 0) (left step rest : List X) → left ≡ step ++ rest → (AllByRecursion P step → ⊥) → (A ↔ AllByRecursion P left) → A → ⊥
left_fails P A left step rest split not decides a =
    let parts = rw (sym split) at (all_parts P step rest) in
    not (parts.0 (decides.0 a)).0

pub left_none : {X : Type 0} (P : X → Type 0) (A : Type 0) (left : List X) → left ≡ [] → (A ↔ AllByRecursion P left) → A
left_none P A left none decides = (rw none at decides).1 tt

-- What a proof asks for at a place for which it has a tree, and at one for which it has none.
pub queries_above : (tasks : List Task) (tree : TreeClaim) (i : ℕ) (proof : ProofClaim) (t : Task) → slice_get tasks proof.task ≡ Some t → i < higher_count tasks t.priority
    → passes_at tree i proof.items (Some (root tree ∷ [])) ≡ queries_of tasks tree i proof
queries_above tasks tree i proof t at l = rw (at, lt-ltb i (higher_count tasks t.priority) l) refl

pub queries_past : (tasks : List Task) (tree : TreeClaim) (i : ℕ) (proof : ProofClaim) (t : Task) → slice_get tasks proof.task ≡ Some t → higher_count tasks t.priority ≤ i
    → map blank (passing_times proof.items) ≡ queries_of tasks tree i proof
queries_past tasks tree i proof t at l = rw (at, le-ltb i (higher_count tasks t.priority) l) refl

-- The marks of a proof, by the numbers of its vertex.
pub marks_are : (tasks : List Task) (proof : ProofClaim) (t : Task) (c d : ℕ) → slice_get tasks proof.task ≡ Some t → c ≡ wcet (digraph_of t) proof.vertex → d ≡ deadline (digraph_of t) proof.vertex
    → map (make_mark c d) (passing_times proof.items) ≡ marks_of tasks proof
marks_are tasks proof t c d at e f =
    ap (λ (n : ℕ). map (make_mark n d) (passing_times proof.items)) e
    ∙ (ap (λ (n : ℕ). map (make_mark (wcet (digraph_of t) proof.vertex) n) (passing_times proof.items)) f ∙ sym (ap (marks_in proof) at))
