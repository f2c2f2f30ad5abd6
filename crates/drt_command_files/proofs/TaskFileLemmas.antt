-- A file has one fault, or is accepted as one set.
use Rattle.std.proofs.Common.{◌≡◌, ℕ, ◌<◌, List, length, take, get_or, All, inl, inr, refl, sym, ap, ◌∙◌, subst, arith, Option, Some, None, IsSomeAnd, slice_get}
use Rattle.std.proofs.lemmas.Bool.{cases_lt}
use Rattle.std.proofs.lemmas.List.{length-take-le, get_or-take}
use Rattle.std.proofs.lemmas.Option.{same_Some, slice_get_within, get_or_from_slice_get}
use Rattle.drt_model.specs.Contents.{Contents}
use Rattle.drt_model.specs.Constrained.{AreConstrained, IsConstrainedEdge}
use Rattle.drt_model.specs.Digraph.{no_edge}
use Rattle.drt_model.specs.declared.tasks.Edge.{Edge}
use Rattle.drt_model.specs.declared.tasks.Task.{Task}
use Rattle.drt_model.specs.declared.tasks.Vertex.{Vertex}
use Rattle.drt_file.specs.trusted.Laws.{TextsReadAsOneSet}
use Rattle.drt_file.specs.trusted.Reading.{HasFault}
use Rattle.drt_graph.specs.Past.{IsFirstPast, IsFirstPastEdge}
use Rattle.drt_outcome.specs.declared.fault.Fault.{Fault}
use Rattle.drt_outcome.specs.declared.fault.Fault.TheVariants.{Nothing, File, Limit, Probe, Rule, Dossier}
use Rattle.drt_outcome.specs.declared.fault.Fault.TheVariants as fault
use Rattle.drt_outcome.specs.declared.fault.PastEdge.{PastEdge}
use Rattle.drt_command.specs.Inputs.{IsLonger}
use Rattle.drt_command_files.specs.Edges.{Describes}
use Rattle.drt_command_files.specs.TaskFiles.{IsAccepted, IsFileFault, file_input}
use Rattle.drt_check.proofs.Pasts.{clash, edge_past, past_breaks}

pub accepted_one : TextsReadAsOneSet → (bytes : List ℕ) (a b : Contents) → IsAccepted bytes a → IsAccepted bytes b → a ≡ b
accepted_one law bytes a b h k = law bytes a b h.reads k.reads

edge_before : (t : Task) (j k : ℕ) → IsFirstPastEdge t j → IsFirstPastEdge t k → j < k → ⊥
edge_before t j k h g lt =
    let e = get_or t.edges j no_edge in
    let long : length (take k t.edges) ≡ k = length-take-le k t.edges (omega (arith, g.there)) in
    let ok : IsConstrainedEdge t (get_or (take k t.edges) j no_edge) = g.first j no_edge (omega (arith, long)) in
    clash (slice_get t.vertices e.from) e.sep h.past (subst (IsConstrainedEdge t) (get_or-take k t.edges j no_edge lt) ok)

edge_one : (t : Task) (j k : ℕ) → IsFirstPastEdge t j → IsFirstPastEdge t k → j ≡ k
edge_one t j k h g = elim (cases_lt j k) [
  | inl lt ↦ absurd (edge_before t j k h g lt)
  | inr le ↦ elim (cases_lt k j) [ inl lt ↦ absurd (edge_before t k j g h lt) | inr ge ↦ omega arith ]
]

-- the task of a past edge
record PastAt (tasks : List Task) (i k : ℕ) : Type 0 where
  task : Task
  at : slice_get tasks i ≡ Some task
  edge : IsFirstPastEdge task k

past_in : (tasks : List Task) (i k : ℕ) (o : Option Task) → slice_get tasks i ≡ o → IsSomeAnd o (λ t. IsFirstPastEdge t k) → PastAt tasks i k
past_in tasks i k None e h = absurd h
past_in tasks i k (Some t) e h = record { task = t; at = e; edge = h }

past_at : (tasks : List Task) (i k : ℕ) → IsFirstPast tasks i k → PastAt tasks i k
past_at tasks i k h = past_in tasks i k (slice_get tasks i) refl h.edge

task_before : (tasks : List Task) (i j k l : ℕ) → IsFirstPast tasks i k → IsFirstPast tasks j l → i < j → ⊥
task_before tasks i j k l h g lt =
    let p = past_at tasks i k h in
    let q = past_at tasks j l g in
    let within = slice_get_within tasks j q.task q.at in
    let long : length (take j tasks) ≡ j = length-take-le j tasks (omega arith) in
    let is : get_or (take j tasks) i p.task ≡ p.task = get_or-take j tasks i p.task lt ∙ get_or_from_slice_get tasks i p.task p.task p.at in
    edge_past p.task k p.edge (subst (λ t. All (IsConstrainedEdge t) t.edges) is (g.first i p.task (omega (arith, long))))

task_one : (tasks : List Task) (i j k l : ℕ) → IsFirstPast tasks i k → IsFirstPast tasks j l → i ≡ j
task_one tasks i j k l h g = elim (cases_lt i j) [
  | inl lt ↦ absurd (task_before tasks i j k l h g lt)
  | inr le ↦ elim (cases_lt j i) [ inl lt ↦ absurd (task_before tasks j i l k g h lt) | inr ge ↦ omega arith ]
]

same_edge : (tasks : List Task) (i j k l : ℕ) → IsFirstPast tasks i k → IsFirstPast tasks j l → (i ≡ j) × (k ≡ l)
same_edge tasks i j k l h g =
    let p = past_at tasks i k h in
    let q = past_at tasks j l g in
    let e : i ≡ j = task_one tasks i j k l h g in
    let same : p.task ≡ q.task = same_Some p.task q.task (sym p.at ∙ ap (slice_get tasks) e ∙ q.at) in
    (e, edge_one q.task k l (subst (λ t. IsFirstPastEdge t k) same p.edge) q.edge)

-- an edge has one description
described_one : (tasks : List Task) (i k : ℕ) (p q : PastEdge) → Describes tasks i k p → Describes tasks i k q → p ≡ q
described_one tasks i k p q d e =
    let of : d.of ≡ e.of = same_Some d.of e.of (sym d.task_is ∙ e.task_is) in
    let at : d.at ≡ e.at = same_Some d.at e.at (sym d.edge_is ∙ ap (λ (t : Task). slice_get t.edges k) of ∙ e.edge_is) in
    let source : d.source ≡ e.source =
    same_Some d.source e.source (sym d.source_is ∙ ap (λ (t : Task). slice_get t.vertices d.at.from) of ∙ ap (λ (x : Edge). slice_get e.of.vertices x.from) at ∙ e.source_is) in
    let target : d.target ≡ e.target =
    same_Some d.target e.target (sym d.target_is ∙ ap (λ (t : Task). slice_get t.vertices d.at.to) of ∙ ap (λ (x : Edge). slice_get e.of.vertices x.to) at ∙ e.target_is) in
    d.is ∙ described of at source target ∙ sym e.is
  where
    described : {s t : Task} {x y : Edge} {u v a b : Vertex} → s ≡ t → x ≡ y → u ≡ v → a ≡ b
        → ◌≡◌ {A = PastEdge} (record { task = s.name; from = u.name; to = a.name; separation = x.sep; deadline = u.deadline })
        (record { task = t.name; from = v.name; to = b.name; separation = y.sep; deadline = v.deadline })
    described s x u a = cc

same_past : (tasks : List Task) (i j k l : ℕ) (p q : PastEdge) → IsFirstPast tasks i k → Describes tasks i k p → IsFirstPast tasks j l → Describes tasks j l q
    → fault.Edge i k p ≡ fault.Edge j l q
same_past tasks i j k l p q h d g e =
    let same = same_edge tasks i j k l h g in
    let moved : Describes tasks j l p = subst (λ (m : ℕ). Describes tasks j m p) same.1 (subst (λ (m : ℕ). Describes tasks m k p) same.0 d) in
    let one : p ≡ q = described_one tasks j l p q moved e in
    let first = same.0 in
    let second = same.1 in
    cc

same_place : (l c m d : ℕ) → l ≡ m → c ≡ d → File l c ≡ File m d
same_place l c m d p q = cc

same_text : (bytes : List ℕ) (l c m d : ℕ) → HasFault bytes l c → HasFault bytes m d → File l c ≡ File m d
same_text bytes l c m d h k =
    let one : ◌≡◌ {A = ℕ × ℕ} (l, c) (m, d) = same_Some (l, c) (m, d) (sym h.first ∙ k.first) in
    same_place l c m d (ap (λ (x : ℕ × ℕ). x.0) one) (ap (λ (x : ℕ × ℕ). x.1) one)

-- an accepted file has no fault
pub accepted_well : TextsReadAsOneSet → (bytes : List ℕ) (set : Contents) (f : Fault) → IsAccepted bytes set → IsFileFault bytes f → ⊥
accepted_well law bytes set Nothing a h = h
accepted_well law bytes set (Limit c) a h = h
accepted_well law bytes set (Probe n c) a h = h
accepted_well law bytes set (Rule n) a h = h
accepted_well law bytes set (Dossier l c) a h = h
accepted_well law bytes set (File l c) a (inl big) = omega (arith, a.small, big.0)
accepted_well law bytes set (File l c) a (inr text) = text.1.reads_as_none set a.reads
accepted_well law bytes set (fault.Edge t e p) a h =
    past_breaks h.set.tasks t e h.first (subst (λ (s : Contents). AreConstrained s.tasks) (law bytes set h.set a.reads h.reads) a.constrained)

-- a file has one fault
pub fault_one : TextsReadAsOneSet → (bytes : List ℕ) (f g : Fault) → IsFileFault bytes f → IsFileFault bytes g → f ≡ g
fault_one law bytes Nothing g h k = absurd h
fault_one law bytes (Limit c) g h k = absurd h
fault_one law bytes (Probe n c) g h k = absurd h
fault_one law bytes (Rule n) g h k = absurd h
fault_one law bytes (Dossier l c) g h k = absurd h
fault_one law bytes (File l c) Nothing h k = absurd k
fault_one law bytes (File l c) (Limit d) h k = absurd k
fault_one law bytes (File l c) (Probe n d) h k = absurd k
fault_one law bytes (File l c) (Rule n) h k = absurd k
fault_one law bytes (File l c) (Dossier m d) h k = absurd k
fault_one law bytes (File l c) (File m d) (inl big) (inl more) = same_place l c m d (big.1 ∙ sym more.1) (big.2 ∙ sym more.2)
fault_one law bytes (File l c) (File m d) (inl big) (inr text) = absurd (omega (arith, big.0, text.0))
fault_one law bytes (File l c) (File m d) (inr text) (inl big) = absurd (omega (arith, big.0, text.0))
fault_one law bytes (File l c) (File m d) (inr text) (inr other) = same_text bytes l c m d text.1 other.1
fault_one law bytes (File l c) (fault.Edge t e p) (inl big) k = absurd (omega (arith, big.0, k.small))
fault_one law bytes (File l c) (fault.Edge t e p) (inr text) k = absurd (text.1.reads_as_none k.set k.reads)
fault_one law bytes (fault.Edge t e p) Nothing h k = absurd k
fault_one law bytes (fault.Edge t e p) (Limit d) h k = absurd k
fault_one law bytes (fault.Edge t e p) (Probe n d) h k = absurd k
fault_one law bytes (fault.Edge t e p) (Rule n) h k = absurd k
fault_one law bytes (fault.Edge t e p) (Dossier m d) h k = absurd k
fault_one law bytes (fault.Edge t e p) (File l c) h (inl big) = absurd (omega (arith, big.0, h.small))
fault_one law bytes (fault.Edge t e p) (File l c) h (inr text) = absurd (text.1.reads_as_none h.set h.reads)
fault_one law bytes (fault.Edge t e p) (fault.Edge u f q) h k =
    let one : h.set ≡ k.set = law bytes h.set k.set h.reads k.reads in
    same_past k.set.tasks t u e f p q (subst (λ (s : Contents). IsFirstPast s.tasks t e) one h.first) (subst (λ (s : Contents). Describes s.tasks t e p) one h.describes) k.first k.describes

-- a file that is too long is refused
pub long_file : (bytes : List ℕ) (f : Fault) → IsLonger file_input bytes f → IsFileFault bytes f
long_file bytes f h = subst (IsFileFault bytes) (sym h.1) (inl (h.0, refl, refl))
