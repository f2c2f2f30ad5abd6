-- The digraphs of tasks and the times of fields, built one after the other as a loop does.
use Rattle.std.proofs.Common.{◌≡◌, ℕ, zero, suc, ◌+◌, ◌<◌, ◌≤◌, Bool, true, false, ◌&&◌}
use Rattle.std.proofs.Common.{List, [], ◌∷◌, ◌++◌, length, map, take, drop, get_or, Bor, refl, sym, ap, subst, ◌∙◌, arith, append_assoc}
use Rattle.std.specs.Prelude.{IsTrue}
use Rattle.std.specs.List.{list_all, range_with_len}
use Rattle.std.proofs.lemmas.List.{at_drop_more, at_drop_all, append-nil, take_all, map_more}
use Rattle.drt_model.specs.declared.tasks.Vertex.{Vertex}
use Rattle.drt_model.specs.declared.tasks.Edge.{Edge}
use Rattle.drt_model.specs.declared.tasks.Task.{Task}
use Rattle.drt_file.specs.trusted.Line.{is_in_range}
use Rattle.drt_file.specs.trusted.Words.{value}
use Rattle.drt_classic.specs.declared.classic.Frame.{Frame}
use Rattle.drt_classic.specs.declared.classic.Classic.{Classic}
use Rattle.drt_classic.specs.Digraphs.{frame_name, vertices_from, frame_edges, digraph_of_classic, tasks_from}

range_from : (a n j : ℕ) → a + n ≡ j → range_with_len a (suc n) ≡ range_with_len a n ++ j ∷ []
range_from a zero j e = let z : a ≡ j = omega (arith, e) in ap (λ k. k ∷ []) z
range_from a (suc n) j e = ap (λ l. a ∷ l) (range_from (a + 1) n j (omega (arith, e)))

-- The numbers below the next one.
pub range_more : (n : ℕ) → range_with_len 0 (n + 1) ≡ range_with_len 0 n ++ n ∷ []
range_more n = let z : n + 1 ≡ suc n = omega arith in ap (range_with_len 0) z ∙ range_from 0 n n (omega arith)

-- Some items, then another and the rest.
behind : {X : Type 0} (done : List X) (x : X) (rest all total : List X) → all ≡ x ∷ rest → done ++ all ≡ total → (done ++ x ∷ []) ++ rest ≡ total
behind done x rest all total e so_far = append_assoc done (x ∷ []) rest ∙ ap (λ l. done ++ l) (sym e) ∙ so_far

pub vertices_more : (done : List Vertex) (frames : List Frame) (i : ℕ) (f : Frame) (total : List Vertex) → i < length frames → done ++ vertices_from i (drop i frames) ≡ total
    → (done ++ record { name = frame_name i; wcet = (get_or frames i f).wcet; deadline = (get_or frames i f).deadline } ∷ []) ++ vertices_from (i + 1) (drop (i + 1) frames) ≡ total
unfolding vertices_from
vertices_more done frames i f total lt so_far =
    behind done _ (vertices_from (i + 1) (drop (i + 1) frames)) (vertices_from i (drop i frames)) total (at_drop_more (vertices_from i) frames i f lt) so_far

pub vertices_all : (done : List Vertex) (frames : List Frame) (i : ℕ) (total : List Vertex) → length frames ≤ i → done ++ vertices_from i (drop i frames) ≡ total → done ≡ total
unfolding vertices_from
vertices_all done frames i total le so_far = sym (append-nil done) ∙ ap (λ l. done ++ l) (sym (at_drop_all (vertices_from i) frames i le)) ∙ so_far

pub edges_more : (after : ℕ → List ℕ) (done : List Edge) (frames : List Frame) (i : ℕ) (f : Frame) (total : List Edge) → i < length frames → done ++ frame_edges after i (drop i frames) ≡ total
    → (done ++ map (λ j. record { from = i; to = j; sep = (get_or frames i f).sep }) (after i)) ++ frame_edges after (i + 1) (drop (i + 1) frames) ≡ total
unfolding frame_edges
edges_more after done frames i f total lt so_far =
    append_assoc done (map (λ j. record { from = i; to = j; sep = (get_or frames i f).sep }) (after i)) (frame_edges after (i + 1) (drop (i + 1) frames))
    ∙ ap (λ l. done ++ l) (sym (at_drop_more (frame_edges after i) frames i f lt)) ∙ so_far

pub edges_all : (after : ℕ → List ℕ) (done : List Edge) (frames : List Frame) (i : ℕ) (total : List Edge) → length frames ≤ i → done ++ frame_edges after i (drop i frames) ≡ total → done ≡ total
unfolding frame_edges
edges_all after done frames i total le so_far = sym (append-nil done) ∙ ap (λ l. done ++ l) (sym (at_drop_all (frame_edges after i) frames i le)) ∙ so_far

pub tasks_more : (done : List Task) (ts : List Classic) (i : ℕ) (t : Classic) (total : List Task) → i < length ts → t ≡ get_or ts i t → done ++ tasks_from (i + 1) (drop i ts) ≡ total
    → (done ++ digraph_of_classic (i + 1) t ∷ []) ++ tasks_from (i + 1 + 1) (drop (i + 1) ts) ≡ total
unfolding tasks_from
tasks_more done ts i t total lt is so_far =
    behind done (digraph_of_classic (i + 1) t) (tasks_from (i + 1 + 1) (drop (i + 1) ts)) (tasks_from (i + 1) (drop i ts)) total
    (at_drop_more (tasks_from (i + 1)) ts i t lt ∙ ap (λ u. tasks_from (i + 1) (u ∷ drop (i + 1) ts)) (sym is)) so_far

pub tasks_all : (done : List Task) (ts : List Classic) (i : ℕ) (total : List Task) → length ts ≤ i → done ++ tasks_from (i + 1) (drop i ts) ≡ total → done ≡ total
unfolding tasks_from
tasks_all done ts i total le so_far = sym (append-nil done) ∙ ap (λ l. done ++ l) (sym (at_drop_all (tasks_from (i + 1)) ts i le)) ∙ so_far

-- What items give, behind what stood there: one more, and all.
pub mapped_more : {X Y : Type 0} (f : X → Y) (start was now : List Y) (xs : List X) (i : ℕ) (d : X) → i < length xs → was ≡ start ++ map f (take i xs)
    → now ≡ was ++ f (get_or xs i d) ∷ [] → now ≡ start ++ map f (take (i + 1) xs)
mapped_more f start was now xs i d lt so_far more =
    more ∙ ap (λ l. l ++ f (get_or xs i d) ∷ []) so_far ∙ append_assoc start (map f (take i xs)) (f (get_or xs i d) ∷ [])
    ∙ ap (λ l. start ++ l) (sym (map_more f xs i d lt))

pub mapped_all : {X Y : Type 0} (f : X → Y) (start now : List Y) (xs : List X) (i : ℕ) → length xs ≤ i → now ≡ start ++ map f (take i xs)
    → now ≡ start ++ map f xs
mapped_all f start now xs i le so_far = so_far ∙ ap (λ l. start ++ map f l) (take_all i xs le)

-- What fields point to.
abbrev texts : List (Bor (List ℕ)) → List (List ℕ)
texts words = map (λ w. w.now) words

both_true : (a b : Bool) → IsTrue (a && b) → IsTrue a × IsTrue b
both_true true b h = (refl, h)
both_true false b h = absurd (cc)

-- Where the rest of the fields is in range, so are the next one and the rest behind it.
pub next_in_range : (words : List (Bor (List ℕ))) (i : ℕ) (d : Bor (List ℕ)) → i < length words → IsTrue (list_all is_in_range (texts (drop i words)))
    → IsTrue (is_in_range (get_or words i d).now) × IsTrue (list_all is_in_range (texts (drop (i + 1) words)))
next_in_range words i d lt are =
    both_true (is_in_range (get_or words i d).now) (list_all is_in_range (texts (drop (i + 1) words)))
    (subst IsTrue (at_drop_more (λ ws. list_all is_in_range (texts ws)) words i d lt) are)

pub times_more : (done : List ℕ) (words : List (Bor (List ℕ))) (i : ℕ) (d : Bor (List ℕ)) (total : List ℕ) → i < length words
    → done ++ map value (texts (drop i words)) ≡ total
    → (done ++ value (get_or words i d).now ∷ []) ++ map value (texts (drop (i + 1) words)) ≡ total
times_more done words i d total lt so_far =
    behind done _ (map value (texts (drop (i + 1) words))) (map value (texts (drop i words))) total
    (at_drop_more (λ ws. map value (texts ws)) words i d lt) so_far

pub times_all : (done : List ℕ) (words : List (Bor (List ℕ))) (i : ℕ) (total : List ℕ) → length words ≤ i
    → done ++ map value (texts (drop i words)) ≡ total → done ≡ total
times_all done words i total le so_far = sym (append-nil done) ∙ ap (λ l. done ++ l) (sym (at_drop_all (λ ws. map value (texts ws)) words i le)) ∙ so_far
