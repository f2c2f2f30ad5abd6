-- The set in the middle of a text.
use Rattle.std.proofs.Common.{◌≡◌, ◌≢◌, ℕ, zero, suc, ◌+◌, ◌≤◌, ◌<◌, ◌⊎◌, inl, inr, Bool, true, false, ◌==◌, cond, List, [], ◌∷◌, ◌++◌, length, take, drop, refl, sym, ap, subst, ◌∙◌, append_assoc, arith, rules, length-append, lit≤, Some}
use Rattle.std.specs.Prelude.{AllPairs, slice_get}
use Rattle.std.specs.List.{AllByRecursion}
use Rattle.std.proofs.lemmas.List.{append-nil, take-append-drop}
use Rattle.std.proofs.lemmas.List.Elements.{All-nil, All-cons}
use Rattle.std.proofs.Math.Seq.{take-append_seam}
use Rattle.drt_model.specs.Contents.{Contents}
use Rattle.drt_model.specs.Limits.{IsEdgeAmong, IsName, IsNameByte, IsTask, IsVertex}
use Rattle.drt_model.specs.declared.tasks.Edge.{Edge}
use Rattle.drt_model.specs.declared.tasks.Task.{Task}
use Rattle.drt_model.specs.declared.tasks.Vertex.{Vertex}
use Rattle.drt_file.specs.trusted.Canonical.{canonical}
use Rattle.drt_file.specs.trusted.CanonicalPrefix.{BeginsWith, Breaks, HasCanonicalFault, first_lines, line_count}
use Rattle.drt_file.specs.trusted.Cutting.{fed, HasNoFeed}
use Rattle.drt_file.proofs.Agreed.{print_of}
use Rattle.drt_file.proofs.Again.{all_of_both}
use Rattle.drt_file.proofs.Feeds.{count_fed, fed_push, first_fed, no_lines}
use Rattle.drt_file.proofs.Fronts.{one_front}
use Rattle.drt_evidence.specs.Blocks.{IsBehind, IsSet, IsStop, ReadsBlock, RefusesLine, Stops}
use Rattle.drt_evidence.specs.declared.reading.text.Stop.TheVariants as stops

-- A set of one task of one vertex.
abbrev letter : List ℕ
letter = 97 ∷ []

abbrev one_vertex : Vertex
one_vertex = record { name = letter; wcet = 1; deadline = 1 }

abbrev one_task : Task
one_task = record { name = letter; priority = 1; vertices = one_vertex ∷ []; edges = [] }

abbrev pub some_set : Contents
some_set = record { version = 1; tasks = one_task ∷ [] }

letter_name : IsName letter
letter_name = record { not_empty = lit≤ tt; at_most_32 = lit≤ tt; bytes = All-cons IsNameByte 97 [] (search rules) (All-nil IsNameByte) }

no_pairs : {X : Type 0} (R : X → X → Type 0) (x : X) → AllPairs R (x ∷ [])
no_pairs R x = λ i j d lt le. absurd (omega arith)

no_edges : {X : Type 0} (R : X → X → Type 0) → AllPairs R []
no_edges R = λ i j d lt le. absurd (omega arith)

task_is : IsTask 1 one_task
task_is = record {
  name = letter_name;
  priority = (lit≤ tt, lit≤ tt);
  has_vertex = lit≤ tt;
  few_vertices = lit≤ tt;
  vertices = All-cons IsVertex one_vertex [] (record { name = letter_name; wcet = (lit≤ tt, lit≤ tt); deadline = (lit≤ tt, lit≤ tt) }) (All-nil IsVertex);
  distinct_names = no_pairs (λ (u : Vertex) v. u.name ≢ v.name) one_vertex;
  at_most_256_edges = lit≤ tt;
  edges = All-nil (IsEdgeAmong 1);
  one_edge_each_way = no_edges (λ (e : Edge) f. e.from ≡ f.from → e.to ≢ f.to);
}

first_in_order : (i : ℕ) (t : Task) → slice_get (one_task ∷ []) i ≡ Some t → t.priority ≡ i + 1
first_in_order zero t e = let same : one_task ≡ t = cc in ap (λ (x : Task). x.priority) (sym same)
first_in_order (suc i) t e = absurd (cc)

pub some_set_is : IsSet some_set
some_set_is = record {
  known = inl refl;
  has_task = lit≤ tt;
  few_tasks = lit≤ tt;
  each = All-cons (IsTask 1) one_task [] task_is (All-nil (IsTask 1));
  distinct_names = no_pairs (λ (s : Task) t. s.name ≢ t.name) one_task;
  distinct_priorities = no_pairs (λ (s : Task) t. s.priority ≢ t.priority) one_task;
  in_order = λ v. first_in_order;
}

-- A text with the canonical text of a set at its front.
begins : (bytes t : List ℕ) (set : Contents) → IsSet set → bytes ≡ canonical set ++ t → BeginsWith bytes set (length (canonical set))
begins bytes t set is e = record {
  limits = is;
  within = let size = ap length e ∙ length-append (canonical set) t in omega (arith, size);
  front = ap (take (length (canonical set))) e ∙ take-append_seam (canonical set) t;
}

pub set_read : (bytes : List ℕ) (set : Contents) (count : ℕ) → BeginsWith bytes set count → ReadsBlock canonical IsSet bytes set (drop count bytes)
set_read bytes set count b =
    let p = print_of set b.limits in
    record {
      is = b.limits;
      stands = sym (take-append-drop count bytes) ∙ ap (λ t. t ++ drop count bytes) b.front;
      lines = record { ls = p.ls; no_feeds = p.no_feeds; are = sym p.fed_is };
      only = λ other s t is e. one_front set other s t b.limits is e;
    }

-- How many lines a text has.
unfed : (t : List ℕ) → line_count t ≡ 0 → HasNoFeed t
unfolding line_count
unfed [] none = tt
unfed (b ∷ bs) none = go (b == 10) refl none (unfed bs)
  where
    go : (f : Bool) → (b == 10) ≡ f → (cond f 1 0) + line_count bs ≡ 0 → (line_count bs ≡ 0 → HasNoFeed bs) → HasNoFeed (b ∷ bs)
    go true isf e on = absurd (omega (arith, e))
    go false isf e on = ((λ same. absurd (grind (arith, isf, same))), on (omega (arith, e)))

-- The first line of a text.
pub record FirstLine (t : List ℕ) : Type 0 where
  pub line : List ℕ
  pub others : List ℕ
  pub cut : t ≡ line ++ 10 ∷ others
  pub no_feed : HasNoFeed line

first_line_of : (t : List ℕ) → 1 ≤ line_count t → FirstLine t
unfolding line_count
first_line_of [] some = absurd (omega (arith, some))
first_line_of (b ∷ bs) some = go (b == 10) refl some (first_line_of bs)
  where
    go : (f : Bool) → (b == 10) ≡ f → 1 ≤ (cond f 1 0) + line_count bs → (1 ≤ line_count bs → FirstLine bs) → FirstLine (b ∷ bs)
    go true isf e on = let same : b ≡ 10 = grind (arith, isf) in record { line = []; others = bs; cut = ap (λ x. x ∷ bs) same; no_feed = tt }
    go false isf e on =
        let r = on (omega (arith, e)) in
        record { line = b ∷ r.line; others = r.others; cut = ap (λ x. b ∷ x) r.cut; no_feed = ((λ same. absurd (grind (arith, isf, same))), r.no_feed) }

-- Of two texts at the front of one, one goes on from the other.
pub either_way : (a b s t : List ℕ) → a ++ s ≡ b ++ t → ((m : List ℕ) × (b ≡ a ++ m)) ⊎ ((m : List ℕ) × (a ≡ b ++ m))
either_way [] b s t e = inl (b, refl)
either_way (x ∷ a) [] s t e = inr (x ∷ a, refl)
either_way (x ∷ a) (y ∷ b) s t e = go (either_way a b s t (cc))
  where
    go : ((m : List ℕ) × (b ≡ a ++ m)) ⊎ ((m : List ℕ) × (a ≡ b ++ m)) → ((m : List ℕ) × (y ∷ b ≡ (x ∷ a) ++ m)) ⊎ ((m : List ℕ) × (x ∷ a ≡ (y ∷ b) ++ m))
    go (inl (m, is)) = let same : x ≡ y = cc in inl (m, cc)
    go (inr (m, is)) = let same : x ≡ y = cc in inr (m, cc)

-- The line of a fault is one of the text's, or the one behind its last.
pub fault_above_0 : (bytes : List ℕ) (line : ℕ) (missing : Bool) → HasCanonicalFault bytes line missing → 0 < line
fault_above_0 bytes zero missing f = go f.here
  where
    go : Breaks bytes 0 → 0 < 0
    go (inl few) = absurd (omega (arith, few))
    go (inr begun) = absurd (begun (some_set, canonical some_set, some_set_is, ap (λ t. t ++ canonical some_set) (first_fed [] bytes tt)))
fault_above_0 bytes (suc line) missing f = omega arith

at_most : (m n : ℕ) → (n < m → ⊥) → m ≤ n
at_most m n never = omega (arith, never)

pub fault_within : (bytes : List ℕ) (line : ℕ) (missing : Bool) → HasCanonicalFault bytes line missing → line ≤ line_count bytes + 1
fault_within bytes line missing f = go (f.least (line_count bytes + 1))
  where
    go : (line_count bytes + 1 < line → Breaks bytes (line_count bytes + 1) → ⊥) → line ≤ line_count bytes + 1
    go never = at_most line (line_count bytes + 1) (λ lt. never lt (inl (omega arith)))

-- One line more.
pub line_more : (bytes : List ℕ) (ls : List (List ℕ)) (line others : List ℕ) → AllByRecursion HasNoFeed ls → HasNoFeed line → bytes ≡ fed ls ++ (line ++ 10 ∷ others)
    → first_lines (length ls + 1) bytes ≡ fed ls ++ (line ++ 10 ∷ [])
line_more bytes ls line others none free are =
    let all = ls ++ line ∷ [] in
    let grown : length ls + 1 ≡ length all = sym (length-append ls (line ∷ [])) in
    ap (λ n. first_lines n bytes) grown ∙ ap (first_lines (length all)) (are ∙ sym (fed_push ls line others))
    ∙ first_fed all others (all_of_both HasNoFeed ls (line ∷ []) none (free, tt)) ∙ sym (append-nil (fed all)) ∙ fed_push ls line []

pub set_stop : (bytes : List ℕ) (line left : ℕ) (missing : Bool) → ((set : Contents) (count : ℕ) → BeginsWith bytes set count → ⊥) → HasCanonicalFault bytes line missing → IsBehind bytes line left
    → Stops canonical IsSet bytes left missing
set_stop bytes line left missing never f b = record {
  front = fed b.ls;
  tail = b.tail;
  stands = b.stands;
  left_is = b.left_is;
  lines = record { ls = b.ls; no_feeds = b.no_feeds; are = refl };
  begins = λ no. f.least (length b.ls) (let e = b.line_is in omega (arith, e)) (inr (λ p. no p.0 p.1 p.2 (sym p.3 ∙ ap (λ t. t ++ p.1) front)));
  none = none;
  is_missing = λ m. let few = f.is_missing.0 m in let e = b.line_is in unfed b.tail (omega (arith, few, e, count));
  is_there = λ m. there (some m) (first_line_of b.tail (some m));
}
  where
    front : first_lines (length b.ls) bytes ≡ fed b.ls
    front = ap (first_lines (length b.ls)) b.stands ∙ first_fed b.ls b.tail b.no_feeds

    count : line_count bytes ≡ length b.ls + line_count b.tail
    count = ap line_count b.stands ∙ count_fed b.ls b.tail b.no_feeds

    none : (x : Contents) (t : List ℕ) → IsSet x → bytes ≡ canonical x ++ t → ⊥
    none x t is e = never x (length (canonical x)) (begins bytes t x is e)

    some : missing ≡ false → 1 ≤ line_count b.tail
    some m =
        let le = at_most line (line_count bytes) (λ few. let there = f.is_missing.1 few in cc) in
        let e = b.line_is in
        omega (arith, le, e, count)

    there : 1 ≤ line_count b.tail → FirstLine b.tail → RefusesLine canonical IsSet (fed b.ls) b.tail
    there has l = record {
      line = l.line;
      others = l.others;
      cut = l.cut;
      no_feed = l.no_feed;
      refused = λ x s t is e. denied x s t is e f.here (either_way (fed b.ls ++ (l.line ++ 10 ∷ [])) (canonical x) s t e);
    }
      where
        whole : bytes ≡ (fed b.ls ++ (l.line ++ 10 ∷ [])) ++ l.others
        whole = b.stands ∙ ap (λ t. fed b.ls ++ t) (l.cut ∙ sym (append_assoc l.line (10 ∷ []) l.others)) ∙ sym (append_assoc (fed b.ls) (l.line ++ 10 ∷ []) l.others)

        more : first_lines line bytes ≡ fed b.ls ++ (l.line ++ 10 ∷ [])
        more = ap (λ n. first_lines n bytes) (sym b.line_is) ∙ line_more bytes b.ls l.line l.others b.no_feeds l.no_feed (b.stands ∙ ap (λ t. fed b.ls ++ t) l.cut)

        denied : (x : Contents) (s t : List ℕ) → IsSet x → (fed b.ls ++ (l.line ++ 10 ∷ [])) ++ s ≡ canonical x ++ t → Breaks bytes line
            → ((m : List ℕ) × (canonical x ≡ (fed b.ls ++ (l.line ++ 10 ∷ [])) ++ m)) ⊎ ((m : List ℕ) × (fed b.ls ++ (l.line ++ 10 ∷ []) ≡ canonical x ++ m)) → ⊥
        denied x s t is e (inl few) w = let at = b.line_is in omega (arith, few, at, count, has)
        denied x s t is e (inr begun) (inl (m, same)) = begun (x, m, is, ap (λ q. q ++ m) more ∙ sym same)
        denied x s t is e (inr begun) (inr (m, same)) = none x (m ++ l.others) is (whole ∙ ap (λ q. q ++ l.others) same ∙ append_assoc (canonical x) m l.others)

-- What a loop has skipped.
pub record Skipped (bytes : List ℕ) (line : ℕ) (rest : List ℕ) : Type 0 where
  pub ls : List (List ℕ)
  pub no_feeds : AllByRecursion HasNoFeed ls
  pub stands : bytes ≡ fed ls ++ rest
  pub line_is : length ls + 1 ≡ line

pub skip_none : (bytes : List ℕ) → Skipped bytes 1 bytes
skip_none bytes = record { ls = []; no_feeds = tt; stands = refl; line_is = refl }

pub skip_more : (bytes rest line others : List ℕ) (n : ℕ) → Skipped bytes n rest → rest ≡ line ++ 10 ∷ others → HasNoFeed line → Skipped bytes (n + 1) others
skip_more bytes rest line others n s cut none = record {
  ls = s.ls ++ line ∷ [];
  no_feeds = all_of_both HasNoFeed s.ls (line ∷ []) s.no_feeds (none, tt);
  stands = s.stands ∙ ap (λ t. fed s.ls ++ t) cut ∙ sym (fed_push s.ls line others);
  line_is = let e = s.line_is in let grown = length-append s.ls (line ∷ []) in omega (arith, e, grown);
}

pub skip_all : (bytes rest : List ℕ) (n : ℕ) → Skipped bytes n rest → IsBehind bytes n (length rest)
skip_all bytes rest n s = record { ls = s.ls; tail = rest; no_feeds = s.no_feeds; stands = s.stands; left_is = refl; line_is = s.line_is }

pub skip_over : (bytes rest : List ℕ) (n line : ℕ) → Skipped bytes n rest → HasNoFeed rest → n < line → line ≤ line_count bytes + 1 → ⊥
skip_over bytes rest n line s none lt le =
    let count = ap line_count s.stands ∙ count_fed s.ls rest s.no_feeds in
    let zero_lines = no_lines rest none in
    let e = s.line_is in
    omega (arith, count, zero_lines, e, lt, le)

pub set_stopped : (bytes : List ℕ) (line left : ℕ) (missing : Bool) → ((set : Contents) (count : ℕ) → BeginsWith bytes set count → ⊥) → HasCanonicalFault bytes line missing → IsBehind bytes line left
    → IsStop canonical IsSet bytes (stops.Fault left missing)
set_stopped bytes line left missing never f b = record {
  at = λ other told is.
      let size : left ≡ other = cc in
      let same : missing ≡ told = cc in
      subst (λ n. Stops canonical IsSet bytes n told) size (subst (Stops canonical IsSet bytes left) same (set_stop bytes line left missing never f b));
}
