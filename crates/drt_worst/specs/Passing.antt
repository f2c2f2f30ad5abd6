-- What a pass is between two turns.
use Rattle.std.specs.Prelude.{◌≡◌, ℕ, ◌≤◌, ◌⊎◌, List, [], ◌∷◌, length, map, reverse, IfSome}
use Rattle.drt_model.specs.Numbers.{most_time}
use Rattle.atomic_table.specs.Seated.{TableId}
use Rattle.drt_tree.specs.Tree.{IsForest}
use Rattle.drt_refine.specs.Below.{AreBelow}
use Rattle.drt_worst.specs.Splitting.{Search, IsPart, IsReached, PassesFor}
use Rattle.drt_worst.specs.Runs.{Choice, skips, reaches, splits, PassEntry, combination_of, stack_after, known_after, IsRunFrom}
use Rattle.drt_worst.specs.Rising.{HoldsOfEach, IsInList, with_raised}
use Rattle.drt_worst.specs.declared.view.View.{View}
use Rattle.drt_worst.specs.Splitting.{search_for}
use Rattle.drt_worst.specs.Plans.{CanTake}
use Rattle.drt_worst.specs.declared.pass.Question.{Question}
use Rattle.drt_worst.specs.declared.pass.Pass.{Pass}

-- The search that the word is about.
abbrev pub search_of_question : Question → Search
search_of_question q = search_for q.forest.value q.wcet q.deadline

-- What a seat knows once it has put into the word what was reached.
abbrev pub announced : View → Choice → View
announced v skips = v
announced v (reaches t) = with_raised v t
announced v (splits l r) = v

-- The greatest value that the pass itself reached.
abbrev pub best_after : ℕ → Choice → ℕ
best_after best skips = best
best_after best (reaches t) = t
best_after best (splits l r) = best

-- The combination that has it.
abbrev pub leaves_after : List ℕ → List ℕ → Choice → List ℕ
leaves_after leaves combination skips = leaves
leaves_after leaves combination (reaches t) = combination
leaves_after leaves combination (splits l r) = leaves

-- The number is 0, or the seat raised or noted it.
abbrev pub IsNotedIn : ℕ → View → Type 0
IsNotedIn n v = (n ≡ 0) ⊎ (IsInList n v.raised ⊎ IsInList n v.noted)

-- The pass has a seat of the table, with one part.
abbrev pub IsSeatOf : TableId → Pass → Type 0
IsSeatOf id p = (p.seat.table_id ≡ id) × (p.seat.me.0.parts ≡ 1) × (p.seat.me.1 ≡ [])

-- The greatest number that a seat raised, and the tuple that has it.
pub record IsGreatestRaised (s : Search) (roots : List ℕ) (best : ℕ) (leaves : List ℕ) (v : View) : Type 0 where
  pub most : HoldsOfEach (λ n. n ≤ best) v.raised
  pub is : (best ≡ 0) ⊎ (IsInList best v.raised × IsReached s roots best leaves)

-- What the pass took, and these combinations that are left, are those of a run from what was dealt to it.
pub record HasRunWith (s : Search) (roots : List ℕ) (left : List (List ℕ)) (p : Pass) : Type 0 where
  pub part : IsPart s.forest roots p.start
  pub entries : List PassEntry
  pub run : IsRunFrom s 0 (p.start ∷ []) entries
  pub stack : stack_after (p.start ∷ []) entries ≡ left
  pub count : length entries ≡ p.taken.count
  pub told : IfSome p.taken.told (λ v. map combination_of entries ≡ v.items)
  pub known : known_after 0 entries ≡ p.known
  pub noted : IsNotedIn p.known p.seat.me.0
  pub best : IsGreatestRaised s roots p.best p.leaves p.seat.me.0

-- What is left is on its stack, the next one last.
abbrev pub HasRun : Search → List ℕ → Pass → Type 0
HasRun s roots p = HasRunWith s roots (reverse p.stack.items) p

-- What a search supposes: a forest, roots whose least time can be looked for, and a time that passes for each tuple below them.
pub record IsSearchReady (s : Search) (roots : List ℕ) : Type 0 where
  pub forest : IsForest s.forest
  pub wcet : s.wcet ≤ most_time
  pub take : CanTake s.forest s.deadline roots
  pub passes : (tuple : List ℕ) → AreBelow s.forest tuple roots → (t : ℕ) × PassesFor s tuple t
