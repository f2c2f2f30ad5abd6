-- What is known after a `task` line.
use Rattle.std.proofs.Common.{◌≡◌, ◌≢◌, ℕ, ◌+◌, ◌≤◌, ◌<◌, Bool, true, false, List, [], ◌∷◌, ◌++◌, length, map, Option, Some, None, refl, sym, ap, subst, ◌∙◌, arith, inl, inr, cond, length-append}
use Rattle.std.specs.Prelude.{bytes_eq, ◌==◌}
use Rattle.std.specs.List.{AllByRecursion}
use Rattle.std.proofs.lemmas.List.{map_push, length-map}
use Rattle.drt_model.specs.Limits.{IsVersion, IsName, most_tasks}
use Rattle.drt_file.specs.declared.state.Draft.{Draft}
use Rattle.drt_file.specs.declared.state.State.{State}
use Rattle.drt_file.specs.trusted.Words.{task_word}
use Rattle.drt_file.specs.trusted.Canonical.{version_line}
use Rattle.drt_file.specs.internal.StateFaults.{is_outside, task_count}
use Rattle.drt_file.specs.internal.Steps.{narrow, with_last, opening_priority}
use Rattle.drt_file.specs.trusted.Reading.{Says, nothing}
use Rattle.drt_file.proofs.Written.{written_priority}
use Rattle.drt_file.proofs.Snoc.{every_push, every_weaker, every_map}
use Rattle.drt_file.proofs.Meanings.{differ, every_of_any}
use Rattle.drt_file.proofs.Names.{is_a_name}
use Rattle.drt_file.proofs.Table.{TaskPassed, at_task}
use Rattle.drt_file.proofs.Keys.{key_of, Differ, Keys, no_keys, keys_push, numbered_new, none_new}
use Rattle.drt_file.proofs.Kept.{SaysDrafts, none, more, Inside, Stands}

-- In version 1 a task opens with its number, and in version 2 with no priority.
pub record Opens (version count : ℕ) (o : Option ℕ) : Type 0 where
  pub in_order : version ≡ 1 → o ≡ Some (1 + count)
  pub not_yet : version ≡ 2 → o ≡ None

pub most_32 : (version : ℕ) → most_tasks version ≤ 32
most_32 version = go (version == 1)
  where
    go : (b : Bool) → cond b 16 32 ≤ 32
    go true = omega arith
    go false = omega arith

pub opening_opens : (s : State) → IsVersion s.version → task_count s < most_tasks s.version → Opens s.version (task_count s) (opening_priority s)
unfolding opening_priority task_count is_outside
opening_opens s known room =
    let few : task_count s < 32 = let most = most_32 s.version in omega (arith, most, room) in
    let same : narrow (task_count s + 1) ≡ 1 + task_count s = omega (arith, few) in
    record {
      in_order = λ one. rw one (ap (λ n. Some n) same);
      not_yet = λ two. rw two refl;
    }

opens_differ : (version : ℕ) (closed : List Draft) (o : Option ℕ) → IsVersion version → Opens version (length closed) o → Keys version (map key_of closed)
    → AllByRecursion (λ a. Differ a.1 o) (map key_of closed)
opens_differ version closed o (inl one) opens keys =
    numbered_new 1 (map key_of closed) o (keys.in_order one) (opens.in_order one ∙ ap (λ n. Some (1 + n)) (sym (length-map closed key_of)))
opens_differ version closed o (inr two) opens keys = none_new (map key_of closed) o (opens.not_yet two)

writes_none : (version count : ℕ) (o : Option ℕ) → IsVersion version → Opens version count o → written_priority version o ≡ None
unfolding written_priority
writes_none version count o (inl one) opens = rw one refl
writes_none version count o (inr two) opens = rw two (opens.not_yet two)

-- A task that opens below tasks that are known.
opened : (ws done : List (List (List ℕ))) (version : ℕ) (closed : List Draft) (name : List ℕ) (n : ℕ) (o : Option ℕ) → IsVersion version → ws ≡ version_line version ∷ done
    → SaysDrafts version done closed → Keys version (map key_of closed) → AllByRecursion (λ c. c.name ≢ name) closed → IsName name → length closed + 1 ≤ most_tasks version
    → Opens version (length closed) o
    → Inside (ws ++ (task_word ∷ name ∷ []) ∷ []) version closed (record { name = name; line = n; priority = o; vertices = []; edges = [] })
opened ws done version closed name n o known are says keys new is few opens = record {
  known = known;
  done = done;
  own = (task_word ∷ name ∷ []) ∷ [];
  says_closed = says;
  says_last = record {
    body = [];
    own_is = refl;
    says = subst (Says [] [] []) (sym (writes_none version (length closed) o known opens)) nothing;
    name = is;
    priority = λ k e. in_range known opens k e;
    few_vertices = omega arith;
    vertices = tt;
    distinct_names = tt;
    few_edges = omega arith;
    edges = tt;
    one_edge = tt;
  };
  ws_are = ap (λ l. l ++ (task_word ∷ name ∷ []) ∷ []) are;
  few = few;
  keys = keys_push version (map key_of closed) (name, o) keys (every_map (λ a. a.0 ≢ name) key_of closed new) (opens_differ version closed o known opens keys)
      (λ one. opens.in_order one ∙ ap (λ c. Some (1 + c)) (sym (length-map closed key_of)));
}
  where
    in_range : IsVersion version → Opens version (length closed) o → (k : ℕ) → o ≡ Some k → (1 ≤ k) × (k ≤ 1000000)
    in_range (inl one) opens k e =
        let at = opens.in_order one in
        let same : 1 + length closed ≡ k = cc in
        let most = most_32 version in
        (omega (arith, same), omega (arith, same, most, few))
    in_range (inr two) opens k e = let at = opens.not_yet two in absurd (cc)

count_at : (s : State) (d : Draft) → s.current ≡ Some d → task_count s ≡ length s.closed + 1
unfolding task_count is_outside
count_at s d at = rw at refl

count_none : (s : State) → s.current ≡ None → task_count s ≡ length s.closed
unfolding task_count is_outside
count_none s at = rw at (omega arith)

pub task_goes : (ws : List (List (List ℕ))) (n : ℕ) (s : State) (words : List (List ℕ)) (p : TaskPassed s words) → p.word ≡ task_word → (o : Option Draft) → s.current ≡ o
    → Stands ws s.version s.closed o
    → Inside (ws ++ words ∷ []) s.version (with_last s.closed o) (record { name = p.name; line = n; priority = opening_priority s; vertices = []; edges = [] })
unfolding with_last
task_goes ws n s words p is None at stands =
    let count = count_none s at in
    let room = p.room in
    let opens = opening_opens s stands.2 room in
    let none_said : SaysDrafts s.version [] s.closed = subst (SaysDrafts s.version []) (sym stands.0) none in
    let keys : Keys s.version (map key_of s.closed) = subst (λ ds. Keys s.version (map key_of ds)) (sym stands.0) (no_keys s.version) in
    let new = every_weaker (λ c. bytes_eq c.name p.name ≡ false) (λ c. c.name ≢ p.name) (λ c h. differ c.name p.name h) s.closed (every_of_any (λ c. bytes_eq c.name p.name) s.closed p.new_above) in
    let line : words ≡ task_word ∷ p.name ∷ [] = p.words_are ∙ ap (λ w. w ∷ p.name ∷ []) is in
    subst (λ l. Inside (ws ++ l ∷ []) s.version s.closed (record { name = p.name; line = n; priority = opening_priority s; vertices = []; edges = [] })) (sym line)
    (opened ws [] s.version s.closed p.name n (opening_priority s) stands.2 stands.1 none_said keys new (is_a_name p.name p.is_named) (omega (arith, count, room))
    (subst (λ c. Opens s.version c (opening_priority s)) count opens))
task_goes ws n s words p is (Some d) at stands =
    let count = count_at s d at in
    let room = p.room in
    let opens = opening_opens s stands.known room in
    let all = s.closed ++ d ∷ [] in
    let grown : length all ≡ length s.closed + 1 = length-append s.closed (d ∷ []) in
    let keys : Keys s.version (map key_of all) = subst (Keys s.version) (sym (map_push key_of s.closed d)) stands.keys in
    let here : bytes_eq d.name p.name ≡ false = sym (at_task (λ c. bytes_eq c.name p.name) s d at) ∙ p.new_here in
    let new = every_push (λ c. c.name ≢ p.name) s.closed d
    (every_weaker (λ c. bytes_eq c.name p.name ≡ false) (λ c. c.name ≢ p.name) (λ c h. differ c.name p.name h) s.closed (every_of_any (λ c. bytes_eq c.name p.name) s.closed p.new_above))
    (differ d.name p.name here) in
    let line : words ≡ task_word ∷ p.name ∷ [] = p.words_are ∙ ap (λ w. w ∷ p.name ∷ []) is in
    subst (λ l. Inside (ws ++ l ∷ []) s.version all (record { name = p.name; line = n; priority = opening_priority s; vertices = []; edges = [] })) (sym line)
    (opened ws (stands.done ++ stands.own) s.version all p.name n (opening_priority s) stands.known stands.ws_are
    (more stands.done s.closed stands.own d stands.says_closed stands.says_last) keys new (is_a_name p.name p.is_named) (omega (arith, grown, count, room))
    (subst (λ c. Opens s.version c (opening_priority s)) (count ∙ sym grown) opens))
