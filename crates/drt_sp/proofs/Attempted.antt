-- What is known of a task's vertices after the attempts, and what the parts of a spent attempt prove.
use Rattle.std.proofs.Common.{◌≡◌, ℕ, ◌+◌, ◌<◌, ◌≤◌, Option, None, Some, List, [], ◌∷◌, ◌++◌, All, length, inl, inr, sym, ap, subst, arith, ◌∙◌}
use Rattle.std.specs.Prelude.{slice_get, slice_set}
use Rattle.std.proofs.lemmas.List.Elements.{All-pop, All-push}
use Rattle.std.proofs.lemmas.Option.{get_or_from_slice_get, none-some, same_Some, slice_get_within}
use Rattle.drt_model.specs.Numbers.{most_time}
use Rattle.drt_table.proofs.Linking.{at_pushed, get_last}
use Rattle.drt_worklist.proofs.Lists.{after_join, get_within, length_join}
use Rattle.drt_worklist.proofs.Writes.{length_set, set_at}
use Rattle.drt_model.specs.Digraph.{Digraph}
use Rattle.drt_model.specs.Walk.{deadline, wcet}
use Rattle.drt_steps.specs.Time.{AreChosen}
use Rattle.drt_steps.specs.Values.{value_at}
use Rattle.drt_tree.specs.Tree.{IsForest, IsUnder, Plain, node_values_in}
use Rattle.drt_claims.specs.Ranges.{IsCounted, IsInRangeItem}
use Rattle.drt_claims.specs.declared.evidence.Item.{Item}
use Rattle.drt_refine.specs.Combination.{Combination}
use Rattle.drt_refine.specs.Facts.{Facts}
use Rattle.drt_refine.specs.Machine.{IsRun, FrontierSetting, FrontierState, replay}
use Rattle.drt_refine.specs.View.{setting_of}
use Rattle.drt_refine.specs.declared.step.FrontierEntry.{FrontierEntry}
use Rattle.drt_sp.specs.Attempts.{AreGiven, AreTables, AreWith, CanBeEnded, HaveParts, IsAttempt, IsPartOf, Table}
use Rattle.drt_sp.specs.Items.{IsFailure, IsProofOf, IsVertexProof}
use Rattle.drt_sp.specs.Parts.{AreEndOf, HasParts}
use Rattle.drt_sp.specs.declared.attempts.Attempt.{Attempt}
use Rattle.drt_sp.specs.declared.parts.Part.{Part}
use Rattle.drt_sp.specs.declared.proving.VertexProof.{VertexProof}
use Rattle.drt_sp.specs.declared.proving.VertexProof.TheVariants.{Passes as PassesBy, Fails as FailsAt}
use Rattle.drt_sp.proofs.Joining.{items_prove, parts_put}

-- The laws of a frontier and of a forest that the parts stand on.
abbrev pub FactsHold : Type 0
FactsHold = (t : FrontierSetting) (log : List FrontierEntry) → IsForest t.forest → AreChosen t.deadline t.forest.pool t.roots → IsRun t log → Facts t (replay t log).combinations

abbrev pub AreAbove : Plain → Type 0
AreAbove f = (leaf n t : ℕ) → IsUnder f leaf n → value_at (node_values_in f leaf) t ≤ value_at (node_values_in f n) t

module _ (f : Plain) (roots : List ℕ) (g : Digraph) where
  -- What becomes of vertex v, whatever the budget.
  abbrev IsFound : ℕ → VertexProof → Type 0
  IsFound v proof = (budget : ℕ) → IsVertexProof f (wcet g v) (deadline g v) roots budget proof

  given_none : AreGiven f roots g []
  given_none v proof at = absurd (none-some (Some proof) at)

  given_push : (old : List (Option VertexProof)) (one : Option VertexProof) → AreGiven f roots g old → ((proof : VertexProof) → one ≡ Some proof → IsFound (length old) proof)
      → AreGiven f roots g (old ++ one ∷ [])
  given_push old one given is v proof at = elim (at_pushed old one v (Some proof) at) as (λ _. IsFound v proof) [
    | inl before ↦ given v proof before.1
    | inr here ↦ subst (λ (n : ℕ). IsFound n proof) (sym here.0) (is proof (sym here.1))
  ]

  pub given_with : (v : ℕ) (proof : VertexProof) (old new : List (Option VertexProof)) → AreGiven f roots g old → AreWith v proof old new → IsFound v proof → AreGiven f roots g new
  given_with v proof old new given with is k other at = elim (with k other at) as (λ _. IsFound k other) [
    | inl before ↦ given k other before
    | inr here ↦ subst (λ (n : ℕ). IsFound n other) (sym here.0) (subst (λ (p : VertexProof). IsFound v p) (sym here.1) is)
  ]

  -- What is known after the attempts at the first n vertices.
  pub record AreAttempted (n : ℕ) (proofs : List (Option VertexProof)) (spent : List Attempt) : Type 0 where
    pub count : length proofs ≡ n
    pub given : AreGiven f roots g proofs
    pub each : All (IsAttempt f roots g) spent

  module _ (n : ℕ) (proofs : List (Option VertexProof)) (spent : List Attempt) (h : AreAttempted n proofs spent) where
    longer : (one : Option VertexProof) → length (proofs ++ one ∷ []) ≡ n + 1
    longer one = let e : length (proofs ++ one ∷ []) ≡ length proofs + 1 = length_join proofs (one ∷ []) in omega (arith, h.count)

    found : (proof : VertexProof) → IsFound n proof → AreGiven f roots g (proofs ++ Some proof ∷ [])
    found proof is = given_push proofs (Some proof) h.given (λ other same.
        subst (λ (p : VertexProof). IsFound (length proofs) p) (same_Some proof other same) (subst (λ (k : ℕ). IsFound k proof) (sym h.count) is))

    pub attempt_passes : (items : List Item) → IsProofOf f (wcet g n) (deadline g n) roots items → All IsInRangeItem items → IsCounted items
        → AreAttempted (n + 1) (proofs ++ Some (PassesBy items) ∷ []) spent
    attempt_passes items is each counted = record { count = longer (Some (PassesBy items)); given = found (PassesBy items) (λ budget. (is, each, counted)); each = h.each }

    pub attempt_fails : (tuple : List ℕ) → IsFailure f (wcet g n) (deadline g n) roots tuple → AreGiven f roots g (proofs ++ Some (FailsAt tuple) ∷ [])
    attempt_fails tuple is = found (FailsAt tuple) (λ budget. is)

    pub attempt_spends : (a : Attempt) → IsAttempt f roots g a → AreAttempted (n + 1) (proofs ++ None ∷ []) (spent ++ a ∷ [])
    attempt_spends a is = record {
      count = longer None;
      given = given_push proofs None h.given (λ proof same. absurd (none-some proof same));
      each = All-push (IsAttempt f roots g) spent a h.each is;
    }

  module _ (a : Attempt) (h : IsAttempt f roots g a) where
    roots_are : a.frontier.roots ≡ roots
    roots_are = ap (λ (t : FrontierSetting). t.roots) h.spent.setting

    wcet_are : a.frontier.wcet ≡ a.wcet
    wcet_are = ap (λ (t : FrontierSetting). t.wcet) h.spent.setting

    deadline_are : a.frontier.deadline ≡ a.deadline
    deadline_are = ap (λ (t : FrontierSetting). t.deadline) h.spent.setting

    pub deadline_small : a.frontier.deadline ≤ most_time
    deadline_small = subst (λ (d : ℕ). d ≤ most_time) (sym deadline_are) h.deadline_small

    pub can_be_ended : FactsHold → CanBeEnded f a
    can_be_ended law = record {
      wcet_small = h.wcet_small;
      deadline_small = h.deadline_small;
      can = λ id c at.
          let v = a.frontier in
          let t = setting_of f v in
          let front = h.spent.frontier in
          let facts : Facts t v.combinations = subst (λ (s : FrontierState). Facts t s.combinations) (sym front.state) (law t v.log front.forest front.roots front.run) in
          let place = facts.nodes id c at in
          let few_nodes : length c.nodes ≤ 31 = let few : length v.roots ≤ 31 = subst (λ (l : List ℕ). length l ≤ 31) (sym roots_are) h.few_roots in omega (arith, place.1, few) in
          record { few = few_nodes; chosen = subst (λ (d : ℕ). AreChosen d f.pool c.nodes) deadline_are place.0 };
    }

    -- the parts of its frontier, said by the frontier's own numbers
    pub own_parts : (parts : List (Option (List Item))) → HasParts f a.wcet a.deadline a.frontier.combinations parts → HasParts f a.frontier.wcet a.frontier.deadline a.frontier.combinations parts
    own_parts parts has = subst (λ (w : ℕ). HasParts f w a.frontier.deadline a.frontier.combinations parts) (sym wcet_are)
        (subst (λ (d : ℕ). HasParts f a.wcet d a.frontier.combinations parts) (sym deadline_are) has)

    pub parts_pass : (items : List Item) → AreAbove f → AreEndOf f a.frontier.wcet a.frontier.deadline a.frontier.roots items → IsCounted items → IsFound a.vertex (PassesBy items)
    parts_pass items above is counted budget =
        let proves : IsProofOf f a.frontier.wcet a.frontier.deadline a.frontier.roots items = items_prove f a.frontier.wcet a.frontier.deadline above a.frontier.roots items is.items_are in
        let own : IsProofOf f a.wcet a.deadline roots items =
        subst (λ (w : ℕ). IsProofOf f w a.deadline roots items) wcet_are
        (subst (λ (d : ℕ). IsProofOf f a.frontier.wcet d roots items) deadline_are (subst (λ (l : List ℕ). IsProofOf f a.frontier.wcet a.frontier.deadline l items) roots_are proves)) in
        let its : IsProofOf f (wcet g a.vertex) (deadline g a.vertex) roots items =
        subst (λ (w : ℕ). IsProofOf f w (deadline g a.vertex) roots items) h.wcet_is (subst (λ (d : ℕ). IsProofOf f a.wcet d roots items) h.deadline_is own) in
        (its, is.in_range, counted)

-- places without parts
pub no_parts_yet : (f : Plain) (w d : ℕ) (cs : List Combination) (parts : List (Option (List Item))) → length parts ≡ length cs → All (λ part. part ≡ None) parts → HasParts f w d cs parts
no_parts_yet f w d cs parts count none = record {
  count = count;
  are = λ id items at. absurd (none-some items (sym (none id None (slice_get_within parts id (Some items) at)) ∙ get_or_from_slice_get parts id (Some items) None at));
}

-- one more table
pub tables_push : (f : Plain) (spent : List Attempt) (tables : List Table) (table : Table) → AreTables f spent tables
    → ((a : Attempt) → slice_get spent (length tables) ≡ Some a → HasParts f a.wcet a.deadline a.frontier.combinations table.items) → AreTables f spent (tables ++ table ∷ [])
tables_push f spent tables table have is place a its at tat = elim (at_pushed tables table place its tat) as (λ _. HasParts f a.wcet a.deadline a.frontier.combinations its.items) [
  | inl before ↦ have place a its at before.1
  | inr here ↦ subst (λ (t : Table). HasParts f a.wcet a.deadline a.frontier.combinations t.items) (sym here.1) (is a (ap (λ n. slice_get spent n) (sym here.0) ∙ at))
]

-- the last frontier and its table, and those before it
pub tables_pop : (f : Plain) (spent : List Attempt) (tables : List Table) (a : Attempt) (table : Table) → HaveParts f (spent ++ a ∷ []) (tables ++ table ∷ [])
    → HaveParts f spent tables × HasParts f a.wcet a.deadline a.frontier.combinations table.items
tables_pop f spent tables a table have =
    let s : length (spent ++ a ∷ []) ≡ length spent + 1 = length_join spent (a ∷ []) in
    let t : length (tables ++ table ∷ []) ≡ length tables + 1 = length_join tables (table ∷ []) in
    let same : length tables ≡ length spent = (let c = have.count in omega (arith, s, t, c)) in (
      record { count = same; are = λ place b its at tat. have.are place b its (after_join spent (a ∷ []) place b at) (after_join tables (table ∷ []) place its tat) },
      have.are (length tables) a table (ap (λ n. slice_get (spent ++ a ∷ []) n) same ∙ get_last spent a) (get_last tables table),
    )

-- a part comes to its place in the table of its attempt
pub tables_put : (f : Plain) (spent : List Attempt) (tables new : List Table) (part : Part) (table own : Table) → HaveParts f spent tables → IsPartOf f spent part
    → slice_get tables part.place ≡ Some table → own.items ≡ slice_set table.items part.id (Some part.items) → new ≡ slice_set tables part.place own → HaveParts f spent new
tables_put f spent tables new part table own have is tat e same = let IsEnded : Attempt → Table → Type 0 = λ a its. HasParts f a.wcet a.deadline a.frontier.combinations its.items in record {
  count = ap length same ∙ (length_set tables part.place own ∙ have.count);
  are = λ place a its at nat. elim (set_at tables part.place own place its (sym (ap (λ l. slice_get l place) same) ∙ nat)) as (λ _. IsEnded a its) [
    | inl here ↦ (
        let mine : slice_get spent part.place ≡ Some a = ap (λ n. slice_get spent n) (sym here.0) ∙ at in
        let has : HasParts f a.wcet a.deadline a.frontier.combinations table.items = have.are part.place a table mine tat in
        parts_put f a.wcet a.deadline a.frontier.combinations table.items its.items part has (is.ends a mine) (ap (λ (t : Table). t.items) here.1 ∙ e))
    | inr other ↦ have.are place a its at other.1
  ];
}

-- the place of a part in the table of its attempt
pub part_within : (f : Plain) (spent : List Attempt) (tables : List Table) (part : Part) (table : Table) → HaveParts f spent tables → IsPartOf f spent part
    → slice_get tables part.place ≡ Some table → part.id < length table.items
part_within f spent tables part table have is tat =
    let a : (a : Attempt) × (slice_get spent part.place ≡ Some a) = get_within spent part.place is.place in
    let has = have.are part.place a.0 table a.1 tat in
    omega (arith, has.count, (is.ends a.0 a.1).0)

-- The last attempt with its table, and the others.
pub record HasLast (f : Plain) (roots : List ℕ) (g : Digraph) (spent : List Attempt) (tables : List Table) (a : Attempt) (table : Table) : Type 0 where
  pub each : All (IsAttempt f roots g) spent
  pub have : HaveParts f spent tables
  pub attempt : IsAttempt f roots g a
  pub parts : HasParts f a.frontier.wcet a.frontier.deadline a.frontier.combinations table.items

pub last_of : (f : Plain) (roots : List ℕ) (g : Digraph) (all spent : List Attempt) (both tables : List Table) (a : Attempt) (table : Table)
    → all ≡ spent ++ a ∷ [] → both ≡ tables ++ table ∷ [] → All (IsAttempt f roots g) all → HaveParts f all both → HasLast f roots g spent tables a table
last_of f roots g all spent both tables a table same tables_same each have =
    let two : All (IsAttempt f roots g) spent × IsAttempt f roots g a = All-pop (IsAttempt f roots g) all spent (Some a) same each in
    let parted : HaveParts f (spent ++ a ∷ []) (tables ++ table ∷ []) =
    subst (λ (l : List Attempt). HaveParts f l (tables ++ table ∷ [])) same (subst (λ (l : List Table). HaveParts f all l) tables_same have) in
    let popped = tables_pop f spent tables a table parted in
    record { each = two.0; have = popped.0; attempt = two.1; parts = own_parts f roots g a two.1 table.items popped.1 }
