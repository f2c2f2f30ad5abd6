-- The vertices of the first tasks of a set, counted from its start and from its end.
use Rattle.std.proofs.Common.{◌≡◌, ℕ, zero, suc, ◌+◌, ◌≤◌, List, [], ◌∷◌, ◌++◌, length, take, get_or, refl, sym, ap, ◌∙◌, append_assoc}
use Rattle.std.proofs.Common.{append-nil, arith, length-take-le}
use Rattle.std.proofs.lemmas.Grind.{take_at_read}
use Rattle.std.proofs.lemmas.List.{take_all}
use Rattle.drt_model.specs.declared.tasks.Task.{Task}
use Rattle.drt_busy.specs.Choice.{no_task}
use Rattle.drt_response.specs.Answers.{vertices_of}
use Rattle.drt_sp.specs.Vertices.{subjects}
use Rattle.drt_command_response.specs.Verdict.{vertices_in_order}

both : (k : ℕ) (first second : List Task) → vertices_in_order k (first ++ second) ≡ vertices_in_order k first ++ vertices_in_order (k + length first) second
both k [] second = let e : k ≡ k + 0 = omega arith in ap (λ n. vertices_in_order n second) e
both k (t ∷ first) second =
    let e : k + 1 + length first ≡ k + length (t ∷ first) = omega arith in
    ap (λ ps. subjects k (length t.vertices) ++ ps) (both (k + 1) first second ∙ ap (λ n. vertices_in_order (k + 1) first ++ vertices_in_order n second) e)
    ∙ sym (append_assoc (subjects k (length t.vertices)) (vertices_in_order (k + 1) first) (vertices_in_order (k + length (t ∷ first)) second))

first_are : (tasks : List Task) (n : ℕ) → n ≤ length tasks → vertices_of tasks n ≡ vertices_in_order 0 (take n tasks)
first_are tasks zero le = refl
first_are tasks (suc n) le =
    let t = get_or tasks n no_task in
    let last : length (take n tasks) ≡ n = length-take-le n tasks (omega (arith, le)) in
    let number : 0 + length (take n tasks) ≡ n = omega (arith, last) in
    let here : vertices_in_order (0 + length (take n tasks)) (t ∷ []) ≡ subjects n (length t.vertices)
    = append-nil (subjects (0 + length (take n tasks)) (length t.vertices)) ∙ ap (λ k. subjects k (length t.vertices)) number in
    let e : suc n ≡ n + 1 = omega arith in
    sym (
    ap (λ k. vertices_in_order 0 (take k tasks)) e
    ∙ ap (vertices_in_order 0) (take_at_read tasks n no_task (omega (arith, le))).1
    ∙ both 0 (take n tasks) (t ∷ [])
    ∙ ap (λ ps. vertices_in_order 0 (take n tasks) ++ ps) here
    ∙ ap (λ ps. ps ++ subjects n (length t.vertices)) (sym (first_are tasks n (omega (arith, le))))
    )

-- The vertices of all of them.
pub vertices_are : (tasks : List Task) → vertices_of tasks (length tasks) ≡ vertices_in_order 0 tasks
vertices_are tasks = first_are tasks (length tasks) (omega arith) ∙ ap (vertices_in_order 0) (take_all (length tasks) tasks (omega arith))
