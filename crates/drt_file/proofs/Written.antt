-- What the lines of a task write, in the words of the reader: its numbers, each line that says something, and its priority.
use Rattle.std.proofs.Common.{◌≡◌, ◌≤◌, ◌==◌, ℕ, true, cond, List, [], ◌∷◌, ◌++◌, length, Option, Some, None, ◌∙◌, sym, refl, arith}
use Rattle.std.specs.Prelude.{slice_get}
use Rattle.std.specs.Net.Grammar.{IsNumber}
use Rattle.drt_model.specs.declared.tasks.Vertex.{Vertex}
use Rattle.drt_model.specs.declared.tasks.Edge.{Edge}
use Rattle.drt_file.specs.trusted.Words.{is_number, value, vertex_word, edge_word, priority_word}
use Rattle.drt_file.specs.trusted.Reading.{Says, vertex, edge, priority}
use Rattle.drt_file.proofs.Digits.{numerals}

-- A field passes the test of a number, and is read as this one.
abbrev pub Means : List ℕ → ℕ → Type 0
Means word n = (is_number word ≡ true) × (value word ≡ n)

pub means_number : (word : List ℕ) (n : ℕ) → IsNumber 10 word n → Means word n
unfolding is_number
means_number word n is = let digits = numerals.from word is.0.1 in (grind (arith, is.0.0, digits), numerals.same word is.0.1 ∙ is.1)

pub number_means : (word : List ℕ) (n : ℕ) → Means word n → IsNumber 10 word n
unfolding is_number
number_means word n is =
    let some : 1 ≤ length word = grind (arith, is.0) in
    let digits = numerals.to word (grind (arith, is.0)) in
    ((omega (arith, some), digits), sym (numerals.same word digits) ∙ is.1)

-- A line says a vertex, an edge between two of these vertices, a priority.
abbrev pub SaysVertex : List (List ℕ) → Vertex → Type 0
SaysVertex words v = (wcet : List ℕ) × (deadline : List ℕ) × (words ≡ vertex_word ∷ v.name ∷ wcet ∷ deadline ∷ []) × Means wcet v.wcet × Means deadline v.deadline

abbrev pub SaysEdge : List Vertex → List (List ℕ) → Edge → Type 0
SaysEdge vs words e = (from : Vertex) × (to : Vertex) × (sep : List ℕ) × (slice_get vs e.from ≡ Some from) × (slice_get vs e.to ≡ Some to)
    × (words ≡ edge_word ∷ from.name ∷ to.name ∷ sep ∷ []) × Means sep e.sep

abbrev pub SaysPriority : List (List ℕ) → ℕ → Type 0
SaysPriority words n = (number : List ℕ) × (words ≡ priority_word ∷ number ∷ []) × Means number n

pub says_vertex : (body : List (List (List ℕ))) (vs : List Vertex) (es : List Edge) (p : Option ℕ) (words : List (List ℕ)) (v : Vertex) → Says body vs es p → SaysVertex words v
    → Says (body ++ words ∷ []) (vs ++ v ∷ []) es p
says_vertex body vs es p words v says (wcet, deadline, are, mw, ml) = rw are (vertex body vs es p v wcet deadline says (number_means wcet v.wcet mw) (number_means deadline v.deadline ml))

pub says_edge : (body : List (List (List ℕ))) (vs : List Vertex) (es : List Edge) (p : Option ℕ) (words : List (List ℕ)) (e : Edge) → Says body vs es p → SaysEdge vs words e
    → Says (body ++ words ∷ []) vs (es ++ e ∷ []) p
says_edge body vs es p words e says (from, to, sep, at_from, at_to, are, m) = rw are (edge body vs es p e from to sep says at_from at_to (number_means sep e.sep m))

pub says_priority : (body : List (List (List ℕ))) (vs : List Vertex) (es : List Edge) (words : List (List ℕ)) (n : ℕ) → Says body vs es None → SaysPriority words n
    → Says (body ++ words ∷ []) vs es (Some n)
says_priority body vs es words n says (number, are, m) = rw are (priority body vs es number n says (number_means number n m))

-- In version 2 a task's lines write its priority, in version 1 none.
unfoldable pub written_priority : ℕ → Option ℕ → Option ℕ
written_priority version p = cond (version == 2) p None

pub written_is : (version : ℕ) (p : Option ℕ) → written_priority version p ≡ cond (version == 2) p None
unfolding written_priority
written_is version p = refl
