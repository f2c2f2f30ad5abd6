-- Names name one place.
use Rattle.std.proofs.Common.{◌≡◌, ℕ, ◌+◌, ◌<◌, ◌≤◌, inl, inr, List, length, Some, slice_get, sym, ap, ◌∙◌, subst, arith}
use Rattle.std.proofs.lemmas.Bool.{cases_lt}
use Rattle.std.proofs.lemmas.Option.{same_Some, slice_get_within}
use Rattle.drt_model.specs.declared.tasks.Task.{Task}
use Rattle.drt_model.specs.declared.tasks.Vertex.{Vertex}
use Rattle.drt_command_files.specs.Spots.{IsFirstNamed, IsSpot}

named_place : {X : Type 0} (name_of : X → List ℕ) (xs : List X) (name : List ℕ) (i j : ℕ) (x y : X) → IsFirstNamed name_of xs name i x → IsFirstNamed name_of xs name j y → i ≡ j
named_place name_of xs name i j x y h k = elim (cases_lt i j) [
  | inl lt ↦ absurd (k.first i x lt h.here h.is)
  | inr le ↦ elim (cases_lt j i) [ inl lt ↦ absurd (h.first j y lt k.here k.is) | inr ge ↦ omega arith ]
]

named_one : {X : Type 0} (name_of : X → List ℕ) (xs : List X) (name : List ℕ) (i j : ℕ) (x y : X) → IsFirstNamed name_of xs name i x → IsFirstNamed name_of xs name j y → x ≡ y
named_one name_of xs name i j x y h k = same_Some x y (sym h.here ∙ ap (slice_get xs) (named_place name_of xs name i j x y h k) ∙ k.here)

-- Names have one spot.
pub spot_one : (tasks : List Task) (task vertex : List ℕ) (k v l w : ℕ) → IsSpot tasks task vertex k v → IsSpot tasks task vertex l w → (k ≡ l) × (v ≡ w)
spot_one tasks task vertex k v l w a b =
    let same : a.of ≡ b.of = named_one (λ (t : Task). t.name) tasks task k l a.of b.of a.task_is b.task_is in (
      named_place (λ (t : Task). t.name) tasks task k l a.of b.of a.task_is b.task_is,
      named_place (λ u. u.name) b.of.vertices vertex v w a.at b.at (subst (λ (t : Task). IsFirstNamed (λ u. u.name) t.vertices vertex v a.at) same a.vertex_is) b.vertex_is,
    )

-- Names that no task has, or no vertex of the task, have no spot.
pub no_task_spot : (tasks : List Task) (task vertex : List ℕ) → ((k : ℕ) (t : Task) → IsFirstNamed (λ u. u.name) tasks task k t → ⊥) → (k v : ℕ) → IsSpot tasks task vertex k v → ⊥
no_task_spot tasks task vertex none k v s = none k s.of s.task_is

pub no_vertex_spot : (tasks : List Task) (task vertex : List ℕ) (k : ℕ) (t : Task) → IsFirstNamed (λ u. u.name) tasks task k t
    → ((v : ℕ) (w : Vertex) → IsFirstNamed (λ u. u.name) t.vertices vertex v w → ⊥) → (l v : ℕ) → IsSpot tasks task vertex l v → ⊥
no_vertex_spot tasks task vertex k t is none l v s =
    none v s.at (subst (λ (u : Task). IsFirstNamed (λ w. w.name) u.vertices vertex v s.at) (named_one (λ (u : Task). u.name) tasks task l k s.of t s.task_is is) s.vertex_is)

-- The value at the end of a search is the named one.
pub named_here : {X : Type 0} (name_of : X → List ℕ) (xs : List X) (name : List ℕ) (i : ℕ) (x : X) → slice_get xs i ≡ Some x → name_of x ≡ name
    → ((j : ℕ) (y : X) → j < i → slice_get xs j ≡ Some y → name_of y ≡ name → ⊥) → IsFirstNamed name_of xs name i x
named_here name_of xs name i x here is first = record { here = here; is = is; first = first }

pub named_none : {X : Type 0} (name_of : X → List ℕ) (xs : List X) (name : List ℕ) (i : ℕ) → length xs ≤ i
    → ((j : ℕ) (y : X) → j < i → slice_get xs j ≡ Some y → name_of y ≡ name → ⊥) → (k : ℕ) (x : X) → IsFirstNamed name_of xs name k x → ⊥
named_none name_of xs name i le none k x s =
    let lt = slice_get_within xs k x s.here in
    none k x (omega (arith, lt, le)) s.here s.is

-- One more value that isn't the named one.
pub none_more : {X : Type 0} (name_of : X → List ℕ) (xs : List X) (name : List ℕ) (i : ℕ) (x : X) → slice_get xs i ≡ Some x → (name_of x ≡ name → ⊥)
    → ((j : ℕ) (y : X) → j < i → slice_get xs j ≡ Some y → name_of y ≡ name → ⊥) → (j : ℕ) (y : X) → j < i + 1 → slice_get xs j ≡ Some y → name_of y ≡ name → ⊥
none_more name_of xs name i x here other none j y lt at e = elim (cases_lt j i) [
  | inl before ↦ none j y before at e
  | inr late ↦
      (let place : j ≡ i = omega arith in
      let same : y ≡ x = same_Some y x (sym at ∙ ap (slice_get xs) place ∙ here) in
      other (sym (ap name_of same) ∙ e))
]
