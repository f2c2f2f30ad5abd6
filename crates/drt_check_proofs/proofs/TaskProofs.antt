-- The proofs of a task's vertices, and those of the tasks after it.
use Rattle.std.proofs.Common.{◌≡◌, ℕ, ◌+◌, ◌-◌, ◌<◌, ◌≤◌, List, [], ◌∷◌, ◌++◌, length, map, take, drop, get_or, refl, sym, ap, ◌∙◌, arith}
use Rattle.std.specs.Prelude.{◌↔◌}
use Rattle.std.specs.List.{range_with_len}
use Rattle.std.proofs.lemmas.List.{drop-drop, drop_all, drop_more, get_or-map, get_or-take, length-append, length-drop, length-map, length-take-le, map-append, take-append-drop}
use Rattle.std.proofs.lemmas.List.FromFn.{fill_by_all, get_or-map-range_with_len, length-map-range_with_len}
use Rattle.drt_claims.specs.Proofs.{subjects_from}
use Rattle.drt_claims.specs.declared.evidence.ProofClaim.{ProofClaim}
use Rattle.drt_model.specs.declared.tasks.Task.{Task}
use Rattle.drt_check_proofs.specs.Subjects.{subject_of_proof}

-- What stands for a proof past the last one.
no_proof : Unit {0} → ProofClaim
no_proof u = record { task = 0; vertex = 0; items = [] }

-- Two lists whose first halves are as long are equal where their halves are.
same_halves : {X : Type 0} (xs ys zs ws : List X) → length xs ≡ length ys → xs ++ zs ≡ ys ++ ws → (xs ≡ ys) × (zs ≡ ws)
same_halves [] [] zs ws l e = (refl, e)
same_halves [] (y ∷ ys) zs ws l e = absurd (omega arith)
same_halves (x ∷ xs) [] zs ws l e = absurd (omega arith)
same_halves (x ∷ xs) (y ∷ ys) zs ws l e =
    let tails : xs ++ zs ≡ ys ++ ws = cc in
    let heads : x ≡ y = cc in
    let rest = same_halves xs ys zs ws (omega arith) tails in
    (cc (heads, rest.0), rest.1)

-- The numbers of a task and its vertices.
abbrev pub of_task : ℕ → ℕ → List (ℕ × ℕ)
of_task k count = map (λ v. (k, v)) (range_with_len 0 count)

subjects_split : (proofs : List ProofClaim) (n : ℕ) → map subject_of_proof (take n proofs) ++ map subject_of_proof (drop n proofs) ≡ map subject_of_proof proofs
subjects_split proofs n = sym (map-append subject_of_proof (take n proofs) (drop n proofs)) ∙ ap (map subject_of_proof) (take-append-drop n proofs)

-- Proofs are those of a task and the tasks after it where the first of them are the task's and the rest those of the others.
pub task_first : (proofs : List ProofClaim) (k : ℕ) (t : Task) (tasks : List Task) → length t.vertices ≤ length proofs
    → (map subject_of_proof proofs ≡ subjects_from k (t ∷ tasks))
    ↔ ((map subject_of_proof (take (length t.vertices) proofs) ≡ of_task k (length t.vertices)) × (map subject_of_proof (drop (length t.vertices) proofs) ≡ subjects_from (k + 1) tasks))
unfolding subjects_from
task_first proofs k t tasks l =
    let n = length t.vertices in
    let long : length (map subject_of_proof (take n proofs)) ≡ length (of_task k n) =
    length-map (take n proofs) subject_of_proof ∙ (length-take-le n proofs l ∙ sym (length-map-range_with_len (λ v. (k, v)) 0 n)) in (
      λ e. same_halves (map subject_of_proof (take n proofs)) (of_task k n) (map subject_of_proof (drop n proofs)) (subjects_from (k + 1) tasks) long (subjects_split proofs n ∙ e),
      λ both. sym (subjects_split proofs n) ∙ cc (both.0, both.1),
    )

-- Too few proofs for the task.
pub too_few : (proofs : List ProofClaim) (k : ℕ) (t : Task) (tasks : List Task) → length proofs < length t.vertices → map subject_of_proof proofs ≡ subjects_from k (t ∷ tasks) → ⊥
unfolding subjects_from
too_few proofs k t tasks l e =
    let n = length t.vertices in
    let long : length (map subject_of_proof proofs) ≡ length (of_task k n) + length (subjects_from (k + 1) tasks) = ap length e ∙ length-append (of_task k n) (subjects_from (k + 1) tasks) in
    let own : length (of_task k n) ≡ n = length-map-range_with_len (λ v. (k, v)) 0 n in
    omega (arith, long, own, length-map proofs subject_of_proof)

-- Proofs that are of the task's vertices one by one are so all together.
pub are_all : (proofs : List ProofClaim) (task n : ℕ) → n ≤ length proofs → ((k : ℕ) (d : ProofClaim) → k < n → subject_of_proof (get_or proofs k d) ≡ (task, k))
    → map subject_of_proof (take n proofs) ≡ of_task task n
are_all proofs task n l each =
    let long : length (take n proofs) ≡ n = length-take-le n proofs l in
    fill_by_all (λ v. (task, v)) (map subject_of_proof (take n proofs)) n (0, 0) (length-map (take n proofs) subject_of_proof ∙ long)
    (λ k m. get_or-map subject_of_proof (take n proofs) k (no_proof tt) (0, 0) (omega arith) ∙ (ap subject_of_proof (get_or-take n proofs k (no_proof tt) m) ∙ each k (no_proof tt) m))

-- Proofs that are so all together are so one by one.
pub are_each : (proofs : List ProofClaim) (task n k : ℕ) (p : ProofClaim) → n ≤ length proofs → k < n → p ≡ get_or proofs k p
    → map subject_of_proof (take n proofs) ≡ of_task task n → subject_of_proof p ≡ (task, k)
are_each proofs task n k p l m at e =
    let long : length (take n proofs) ≡ n = length-take-le n proofs l in
    let here : get_or (map subject_of_proof (take n proofs)) k (0, 0) ≡ subject_of_proof (get_or (take n proofs) k p) = get_or-map subject_of_proof (take n proofs) k p (0, 0) (omega arith) in
    let same : get_or (take n proofs) k p ≡ p = get_or-take n proofs k p m ∙ sym at in
    let there : get_or (of_task task n) k (0, 0) ≡ (task, k) = get_or-map-range_with_len (λ v. (task, v)) 0 n k k (0, 0) m (omega arith) in
    sym (ap subject_of_proof same) ∙ (sym here ∙ (ap (λ (xs : List (ℕ × ℕ)). get_or xs k (0, 0)) e ∙ there))

-- What is left of the proofs is to be what is left of the tasks.
abbrev pub AreLeft : List ProofClaim → ℕ → List Task → ℕ → Type 0
AreLeft proofs first tasks k = map subject_of_proof (drop first proofs) ≡ subjects_from k (drop k tasks)

left_split : (proofs : List ProofClaim) (first k : ℕ) (t : Task) (tasks : List Task) → k < length tasks → t ≡ get_or tasks k t → length t.vertices ≤ length (drop first proofs)
    → AreLeft proofs first tasks k
    ↔ ((map subject_of_proof (take (length t.vertices) (drop first proofs)) ≡ of_task k (length t.vertices)) × AreLeft proofs (first + length t.vertices) tasks (k + 1))
left_split proofs first k t tasks l is few =
    let here : drop k tasks ≡ t ∷ drop (k + 1) tasks = drop_more tasks k t l ∙ ap (λ (x : Task). x ∷ drop (k + 1) tasks) (sym is) in
    let split = task_first (drop first proofs) k t (drop (k + 1) tasks) few in
    let rest : drop (length t.vertices) (drop first proofs) ≡ drop (first + length t.vertices) proofs = drop-drop (length t.vertices) first proofs in (
      λ e. (let both = split.0 (e ∙ ap (subjects_from k) here) in (both.0, sym (ap (map subject_of_proof) rest) ∙ both.1)),
      λ both. split.1 (both.0, ap (map subject_of_proof) rest ∙ both.1) ∙ sym (ap (subjects_from k) here),
    )

-- One more task has its proofs.
pub next_task : (A : Type 0) (proofs : List ProofClaim) (first k n : ℕ) (t : Task) (tasks : List Task) → k < length tasks → t ≡ get_or tasks k t → length t.vertices ≡ n
    → first ≤ length proofs → n ≤ length proofs - first → map subject_of_proof (take n (drop first proofs)) ≡ of_task k n → (A ↔ AreLeft proofs first tasks k)
    → A ↔ AreLeft proofs (first + n) tasks (k + 1)
next_task A proofs first k n t tasks l is n_is within few own left =
    let m : length t.vertices ≤ length (drop first proofs) = omega (arith, length-drop first proofs) in
    let split = rw n_is at (left_split proofs first k t tasks l is m) in
    (λ a. (split.0 (left.0 a)).1, λ e. left.1 (split.1 (own, e)))

-- A task hasn't its proofs.
pub not_next : (A : Type 0) (proofs : List ProofClaim) (first k n : ℕ) (t : Task) (tasks : List Task) → k < length tasks → t ≡ get_or tasks k t → length t.vertices ≡ n
    → first ≤ length proofs → n ≤ length proofs - first → (map subject_of_proof (take n (drop first proofs)) ≡ of_task k n → ⊥) → (A ↔ AreLeft proofs first tasks k)
    → A → ⊥
not_next A proofs first k n t tasks l is n_is within few not left a =
    let m : length t.vertices ≤ length (drop first proofs) = omega (arith, length-drop first proofs) in
    let split = rw n_is at (left_split proofs first k t tasks l is m) in
    not (split.0 (left.0 a)).0

-- There are too few proofs left for a task.
pub too_few_left : (A : Type 0) (proofs : List ProofClaim) (first k n : ℕ) (t : Task) (tasks : List Task) → k < length tasks → t ≡ get_or tasks k t → length t.vertices ≡ n
    → length proofs - first < n → (A ↔ AreLeft proofs first tasks k) → A → ⊥
too_few_left A proofs first k n t tasks l is n_is few left a =
    let here : drop k tasks ≡ t ∷ drop (k + 1) tasks = drop_more tasks k t l ∙ ap (λ (x : Task). x ∷ drop (k + 1) tasks) (sym is) in
    too_few (drop first proofs) k t (drop (k + 1) tasks) (omega (arith, length-drop first proofs)) (left.0 a ∙ ap (subjects_from k) here)

-- No task is left: no proof is to be left.
pub none_left : (proofs : List ProofClaim) (first k : ℕ) (tasks : List Task) → length tasks ≤ k → AreLeft proofs first tasks k → length proofs ≤ first
unfolding subjects_from
none_left proofs first k tasks l e =
    let f : map subject_of_proof (drop first proofs) ≡ [] = e ∙ ap (subjects_from k) (drop_all k tasks l) in
    omega (arith, length-drop first proofs, sym (length-map (drop first proofs) subject_of_proof) ∙ ap length f)

pub all_left : (proofs : List ProofClaim) (first k : ℕ) (tasks : List Task) → length tasks ≤ k → length proofs ≤ first → AreLeft proofs first tasks k
unfolding subjects_from
all_left proofs first k tasks l m = ap (map subject_of_proof) (drop_all first proofs m) ∙ sym (ap (subjects_from k) (drop_all k tasks l))
