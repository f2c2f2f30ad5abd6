-- The searches of a task's vertices, and those of the tasks after it.
use Rattle.std.proofs.Common.{◌≡◌, ℕ, ◌+◌, ◌-◌, ◌<◌, ◌≤◌, List, [], ◌∷◌, ◌++◌, length, map, take, drop, get_or, refl, sym, ap, ◌∙◌, arith}
use Rattle.std.specs.Prelude.{◌↔◌}
use Rattle.std.specs.List.{range_with_len}
use Rattle.std.proofs.lemmas.List.{drop-drop, drop_all, drop_more, get_or-map, get_or-take, length-append, length-drop, length-map, length-take-le, map-append, take-append-drop}
use Rattle.std.proofs.lemmas.List.FromFn.{fill_by_all, get_or-map-range_with_len, length-map-range_with_len}
use Rattle.drt_claims.specs.Proofs.{subjects_from}
use Rattle.drt_states.specs.declared.claims.SearchClaim.{SearchClaim}
use Rattle.drt_model.specs.declared.tasks.Task.{Task}
use Rattle.drt_check_searches.specs.Subjects.{subject_of_search}

-- What stands for a search past the last one.
no_search : Unit {0} → SearchClaim
no_search u = record { task = 0; vertex = 0; states = [] }

-- Two lists whose first halves are as long are equal where their halves are.
same_halves : {X : Type 0} (xs ys zs ws : List X) → length xs ≡ length ys → xs ++ zs ≡ ys ++ ws → (xs ≡ ys) × (zs ≡ ws)
same_halves [] [] zs ws l e = (refl, e)
same_halves [] (y ∷ ys) zs ws l e = absurd (omega arith)
same_halves (x ∷ xs) [] zs ws l e = absurd (omega arith)
same_halves (x ∷ xs) (y ∷ ys) zs ws l e =
    let tails : xs ++ zs ≡ ys ++ ws = cc in
    let heads : x ≡ y = cc in
    let rest = same_halves xs ys zs ws (omega arith) tails in
    (cc (heads, rest.0), rest.1)

-- The numbers of a task and its vertices.
abbrev pub of_task : ℕ → ℕ → List (ℕ × ℕ)
of_task k count = map (λ v. (k, v)) (range_with_len 0 count)

subjects_split : (searches : List SearchClaim) (n : ℕ) → map subject_of_search (take n searches) ++ map subject_of_search (drop n searches) ≡ map subject_of_search searches
subjects_split searches n = sym (map-append subject_of_search (take n searches) (drop n searches)) ∙ ap (map subject_of_search) (take-append-drop n searches)

-- Searches are those of a task and the tasks after it where the first of them are the task's and the rest those of the others.
pub task_first : (searches : List SearchClaim) (k : ℕ) (t : Task) (tasks : List Task) → length t.vertices ≤ length searches
    → (map subject_of_search searches ≡ subjects_from k (t ∷ tasks))
    ↔ ((map subject_of_search (take (length t.vertices) searches) ≡ of_task k (length t.vertices)) × (map subject_of_search (drop (length t.vertices) searches) ≡ subjects_from (k + 1) tasks))
unfolding subjects_from
task_first searches k t tasks l =
    let n = length t.vertices in
    let long : length (map subject_of_search (take n searches)) ≡ length (of_task k n) =
    length-map (take n searches) subject_of_search ∙ (length-take-le n searches l ∙ sym (length-map-range_with_len (λ v. (k, v)) 0 n)) in (
      λ e. same_halves (map subject_of_search (take n searches)) (of_task k n) (map subject_of_search (drop n searches)) (subjects_from (k + 1) tasks) long (subjects_split searches n ∙ e),
      λ both. sym (subjects_split searches n) ∙ cc (both.0, both.1),
    )

-- Too few searches for the task.
pub too_few : (searches : List SearchClaim) (k : ℕ) (t : Task) (tasks : List Task) → length searches < length t.vertices → map subject_of_search searches ≡ subjects_from k (t ∷ tasks) → ⊥
unfolding subjects_from
too_few searches k t tasks l e =
    let n = length t.vertices in
    let long : length (map subject_of_search searches) ≡ length (of_task k n) + length (subjects_from (k + 1) tasks) = ap length e ∙ length-append (of_task k n) (subjects_from (k + 1) tasks) in
    let own : length (of_task k n) ≡ n = length-map-range_with_len (λ v. (k, v)) 0 n in
    omega (arith, long, own, length-map searches subject_of_search)

-- Searches that are of the task's vertices one by one are so all together.
pub are_all : (searches : List SearchClaim) (task n : ℕ) → n ≤ length searches → ((k : ℕ) (d : SearchClaim) → k < n → subject_of_search (get_or searches k d) ≡ (task, k))
    → map subject_of_search (take n searches) ≡ of_task task n
are_all searches task n l each =
    let long : length (take n searches) ≡ n = length-take-le n searches l in
    fill_by_all (λ v. (task, v)) (map subject_of_search (take n searches)) n (0, 0) (length-map (take n searches) subject_of_search ∙ long)
    (λ k m. get_or-map subject_of_search (take n searches) k (no_search tt) (0, 0) (omega arith) ∙ (ap subject_of_search (get_or-take n searches k (no_search tt) m) ∙ each k (no_search tt) m))

-- Searches that are so all together are so one by one.
pub are_each : (searches : List SearchClaim) (task n k : ℕ) (p : SearchClaim) → n ≤ length searches → k < n → p ≡ get_or searches k p
    → map subject_of_search (take n searches) ≡ of_task task n → subject_of_search p ≡ (task, k)
are_each searches task n k p l m at e =
    let long : length (take n searches) ≡ n = length-take-le n searches l in
    let here : get_or (map subject_of_search (take n searches)) k (0, 0) ≡ subject_of_search (get_or (take n searches) k p) = get_or-map subject_of_search (take n searches) k p (0, 0) (omega arith) in
    let same : get_or (take n searches) k p ≡ p = get_or-take n searches k p m ∙ sym at in
    let there : get_or (of_task task n) k (0, 0) ≡ (task, k) = get_or-map-range_with_len (λ v. (task, v)) 0 n k k (0, 0) m (omega arith) in
    sym (ap subject_of_search same) ∙ (sym here ∙ (ap (λ (xs : List (ℕ × ℕ)). get_or xs k (0, 0)) e ∙ there))

-- What is left of the searches is to be what is left of the tasks.
abbrev pub AreLeft : List SearchClaim → ℕ → List Task → ℕ → Type 0
AreLeft searches first tasks k = map subject_of_search (drop first searches) ≡ subjects_from k (drop k tasks)

left_split : (searches : List SearchClaim) (first k : ℕ) (t : Task) (tasks : List Task) → k < length tasks → t ≡ get_or tasks k t → length t.vertices ≤ length (drop first searches)
    → AreLeft searches first tasks k
    ↔ ((map subject_of_search (take (length t.vertices) (drop first searches)) ≡ of_task k (length t.vertices)) × AreLeft searches (first + length t.vertices) tasks (k + 1))
left_split searches first k t tasks l is few =
    let here : drop k tasks ≡ t ∷ drop (k + 1) tasks = drop_more tasks k t l ∙ ap (λ (x : Task). x ∷ drop (k + 1) tasks) (sym is) in
    let split = task_first (drop first searches) k t (drop (k + 1) tasks) few in
    let rest : drop (length t.vertices) (drop first searches) ≡ drop (first + length t.vertices) searches = drop-drop (length t.vertices) first searches in (
      λ e. (let both = split.0 (e ∙ ap (subjects_from k) here) in (both.0, sym (ap (map subject_of_search) rest) ∙ both.1)),
      λ both. split.1 (both.0, ap (map subject_of_search) rest ∙ both.1) ∙ sym (ap (subjects_from k) here),
    )

-- One more task has its searches.
pub next_task : (A : Type 0) (searches : List SearchClaim) (first k n : ℕ) (t : Task) (tasks : List Task) → k < length tasks → t ≡ get_or tasks k t → length t.vertices ≡ n
    → first ≤ length searches → n ≤ length searches - first → map subject_of_search (take n (drop first searches)) ≡ of_task k n → (A ↔ AreLeft searches first tasks k)
    → A ↔ AreLeft searches (first + n) tasks (k + 1)
next_task A searches first k n t tasks l is n_is within few own left =
    let m : length t.vertices ≤ length (drop first searches) = omega (arith, length-drop first searches) in
    let split = rw n_is at (left_split searches first k t tasks l is m) in
    (λ a. (split.0 (left.0 a)).1, λ e. left.1 (split.1 (own, e)))

-- A task hasn't its searches.
pub not_next : (A : Type 0) (searches : List SearchClaim) (first k n : ℕ) (t : Task) (tasks : List Task) → k < length tasks → t ≡ get_or tasks k t → length t.vertices ≡ n
    → first ≤ length searches → n ≤ length searches - first → (map subject_of_search (take n (drop first searches)) ≡ of_task k n → ⊥) → (A ↔ AreLeft searches first tasks k)
    → A → ⊥
not_next A searches first k n t tasks l is n_is within few not left a =
    let m : length t.vertices ≤ length (drop first searches) = omega (arith, length-drop first searches) in
    let split = rw n_is at (left_split searches first k t tasks l is m) in
    not (split.0 (left.0 a)).0

-- There are too few searches left for a task.
pub too_few_left : (A : Type 0) (searches : List SearchClaim) (first k n : ℕ) (t : Task) (tasks : List Task) → k < length tasks → t ≡ get_or tasks k t → length t.vertices ≡ n
    → length searches - first < n → (A ↔ AreLeft searches first tasks k) → A → ⊥
too_few_left A searches first k n t tasks l is n_is few left a =
    let here : drop k tasks ≡ t ∷ drop (k + 1) tasks = drop_more tasks k t l ∙ ap (λ (x : Task). x ∷ drop (k + 1) tasks) (sym is) in
    too_few (drop first searches) k t (drop (k + 1) tasks) (omega (arith, length-drop first searches)) (left.0 a ∙ ap (subjects_from k) here)

-- No task is left: no search is to be left.
pub none_left : (searches : List SearchClaim) (first k : ℕ) (tasks : List Task) → length tasks ≤ k → AreLeft searches first tasks k → length searches ≤ first
unfolding subjects_from
none_left searches first k tasks l e =
    let f : map subject_of_search (drop first searches) ≡ [] = e ∙ ap (subjects_from k) (drop_all k tasks l) in
    omega (arith, length-drop first searches, sym (length-map (drop first searches) subject_of_search) ∙ ap length f)

pub all_left : (searches : List SearchClaim) (first k : ℕ) (tasks : List Task) → length tasks ≤ k → length searches ≤ first → AreLeft searches first tasks k
unfolding subjects_from
all_left searches first k tasks l m = ap (map subject_of_search) (drop_all first searches m) ∙ sym (ap (subjects_from k) (drop_all k tasks l))
