-- How many steps the search of a graph's walks takes.
use Rattle.std.proofs.Common.{◌≡◌, ℕ, suc, ◌+◌, ◌*◌, ◌<◌, ◌≤◌, ◌⊎◌, inl, inr, false, List, [], ◌∷◌, ◌++◌, length, append_assoc, sym, ap, arith, ◌∙◌, mul-le-mul_left}
use Rattle.std.specs.Prelude.{IsTrue}
use Rattle.std.proofs.lemmas.Bool.{cases_lt, leb-true}
use Rattle.std.proofs.lemmas.List.{append-nil}
use Rattle.drt_graph.specs.Degrees.{most_out}
use Rattle.drt_model.specs.Digraph.{Digraph, IsSoundGraph, vertex_count, out_degree, edge_of}
use Rattle.drt_model.specs.Walk.{deadline}
use Rattle.drt_graph.specs.declared.front.FrontEntry.{FrontEntry}
use Rattle.drt_graph.proofs.MostOut.{most_least, most_row}
use Rattle.drt_demand.specs.Demand.{demand_algebra}
use Rattle.drt_demand.proofs.Comparable.{comparable}
use Rattle.drt_table.specs.Machine.{Setting, State, step_of, opening_state, replay_from, IsRun, IsRunFrom, replay, is_finished, in_range, search_of}
use Rattle.drt_table.specs.View.{View, IsTable, setting_of, state_of}
use Rattle.drt_table.specs.Walk.{WalkTo, IsWalkLabel}
use Rattle.drt_table.specs.Work.{IsBounded, IsDegree, IsShort, AreSlots, kept_count}
use Rattle.drt_table.specs.declared.step.Entry.{Entry}
use Rattle.drt_edf_fronts.specs.Bounded.{SearchesAreBounded}
use Rattle.drt_edf_fronts.specs.Needs.{table_need}

-- The label of an in-range walk to v is of v, which is a vertex, and is in range.
pub label_of : (t : Setting) (v : ℕ) (before : List ℕ) (l : FrontEntry) → IsSoundGraph t.graph
    → WalkTo demand_algebra t v before l → (l.vertex ≡ v) × (v < vertex_count t.graph) × IsTrue (in_range demand_algebra t l)
label_of t v [] l sound w = (ap (λ x. x.vertex) w.1, w.0, w.2)
label_of t v (u ∷ before) l sound w =
    let h = label_of t u before w.1 sound w.2 in
    let same : l.vertex ≡ (edge_of t.graph w.1.vertex w.0).to = ap (λ x. x.vertex) w.5 in
    let e : (edge_of t.graph w.1.vertex w.0).to ≡ (edge_of t.graph u w.0).to = ap (λ x. (edge_of t.graph x w.0).to) h.0 in
    let to = sound.to u w.0 h.1 w.3 in
    (same ∙ (e ∙ w.4), rw w.4 at to, w.6)

-- So its offset is at most the bound.
label_within : (t : Setting) (l : FrontEntry) → IsSoundGraph t.graph → IsWalkLabel demand_algebra t l → (l.vertex < vertex_count t.graph) × (l.offset ≤ t.bound)
label_within t l sound w =
    let h = label_of t w.0 w.1 l sound w.2 in
    let d : l.offset + deadline t.graph l.vertex ≤ t.bound = leb-true (l.offset + deadline t.graph l.vertex) t.bound h.2 in
    (omega (arith, h.0, h.1), omega (arith, d))

-- The slot of a label: its place among all vertices and offsets up to the bound.
abbrev pub slot : ℕ → FrontEntry → ℕ
slot bound x = x.vertex * (bound + 1) + x.offset

slot_below : (v o count bound : ℕ) → v < count → o ≤ bound → v * (bound + 1) + o < count * (bound + 1)
slot_below v o count bound l m =
    let x : (bound + 1) * suc v ≤ (bound + 1) * count = mul-le-mul_left (bound + 1) l in
    omega arith

slot_less : (v w o p bound : ℕ) → v < w → o ≤ bound → v * (bound + 1) + o ≡ w * (bound + 1) + p → ⊥
slot_less v w o p bound l m e =
    let x : (bound + 1) * suc v ≤ (bound + 1) * w = mul-le-mul_left (bound + 1) l in
    omega arith

-- One slot is that of one vertex and one offset.
slot_same : (v w o p bound : ℕ) → o ≤ bound → p ≤ bound → v * (bound + 1) + o ≡ w * (bound + 1) + p → (v ≡ w) × (o ≡ p)
slot_same v w o p bound l m e = go (cases_lt v w) (cases_lt w v)
  where
    go : (v < w) ⊎ (w ≤ v) → (w < v) ⊎ (v ≤ w) → (v ≡ w) × (o ≡ p)
    go (inl less) h = absurd (slot_less v w o p bound less l e)
    go (inr h) (inl less) = absurd (slot_less w v p o bound less m (sym e))
    go (inr h) (inr k) =
        let q : v ≡ w = omega (arith, h, k) in
        let r = ap (λ n. n * (bound + 1)) q in
        (q, omega (arith, r, e))

slots_are : (t : Setting) → IsSoundGraph t.graph → AreSlots demand_algebra t (slot t.bound) (vertex_count t.graph * (t.bound + 1))
slots_are t sound = record {
  within = λ l w. (let h = label_within t l sound w in slot_below l.vertex l.offset (vertex_count t.graph) t.bound h.0 h.1);
  alone = λ l m w x e. (let h = label_within t l sound w in let k = label_within t m sound x in let s = slot_same l.vertex m.vertex l.offset m.offset t.bound h.1 k.1 e in comparable l m s.0 s.1);
}

pub most_row_of : (g : Digraph) (v : ℕ) → out_degree g v ≤ most_out g.out
most_row_of g v = most_row g.out v

pub most_of : (g : Digraph) (m : ℕ) → length g.out ≡ vertex_count g → ((v : ℕ) → v < vertex_count g → out_degree g v ≤ m) → most_out g.out ≤ m
most_of g m rows all = most_least g.out m (λ v lt. all v (omega arith))

-- What holds after each run, of its log's length and of the kept nodes.
abbrev pub AreShort : Type 0
AreShort = (t : Setting) (log : List Entry) (g : ℕ) → IsSoundGraph t.graph → IsTrue (demand_algebra.takes_bound t.bound)
    → IsRun demand_algebra t log → IsDegree demand_algebra t g → IsShort demand_algebra t g (replay demand_algebra t log)

abbrev pub AreFew : Type 0
AreFew = (t : Setting) (log : List Entry) (slot : FrontEntry → ℕ) (many : ℕ) → IsSoundGraph t.graph → IsTrue (demand_algebra.takes_bound t.bound)
    → IsRun demand_algebra t log → AreSlots demand_algebra t slot many → kept_count (replay demand_algebra t log).nodes ≤ many

abbrev pub AreOnce : Type 0
AreOnce = (t : Setting) (log : List Entry) → IsSoundGraph t.graph → IsTrue (demand_algebra.takes_bound t.bound) → IsRun demand_algebra t log → IsBounded (replay demand_algebra t log)

scaled : (n kept many g : ℕ) → n < kept * (g + 2) → kept ≤ many → n < many * (g + 2)
scaled n kept many g l m =
    let x : (g + 2) * kept ≤ (g + 2) * many = mul-le-mul_left (g + 2) m in
    omega arith

-- An unfinished table has fewer steps than the search needs.
pub unfinished_short : AreShort → AreFew → (v : View FrontEntry) → IsTable demand_algebra v → is_finished demand_algebra (setting_of v) (state_of v) ≡ false → length v.log < table_need v.graph v.bound
unfinished_short short few v is unfinished =
    let t = setting_of v in
    let s = short t v.log (most_out v.graph.out) is.sound is.bound is.run (λ u l. most_row v.graph.out u) in
    let k = few t v.log (slot v.bound) (vertex_count v.graph * (v.bound + 1)) is.sound is.bound is.run (slots_are t is.sound) in
    let log = ap (λ x. length x.log) is.state in
    let u : is_finished demand_algebra t (replay demand_algebra t v.log) ≡ false = ap (λ x. is_finished demand_algebra t x) (sym is.state) ∙ unfinished in
    let m = s.unfinished u in
    scaled (length v.log) (kept_count (replay demand_algebra t v.log).nodes) (vertex_count v.graph * (v.bound + 1)) (most_out v.graph.out) (omega (arith, log, m)) k

scaled_most : (n kept many g : ℕ) → n ≤ kept * (g + 2) → kept ≤ many → n ≤ many * (g + 2)
scaled_most n kept many g l m =
    let x : (g + 2) * kept ≤ (g + 2) * many = mul-le-mul_left (g + 2) m in
    omega arith

-- The log of the state after a run is the run.
module _ (t : Setting) where
  run_log_from : (es : List Entry) (s : State FrontEntry) → IsRunFrom demand_algebra t s es → (replay_from demand_algebra t s es).log ≡ s.log ++ es
  run_log_from [] s run = sym (append-nil s.log)
  run_log_from (e ∷ es) s run =
      let h = run_log_from es (step_of demand_algebra t s e.worker e.step).state run.2 in
      h ∙ (ap (λ l. l ++ es) run.1 ∙ append_assoc s.log (e ∷ []) es)

run_log : (t : Setting) (log : List Entry) → IsRun demand_algebra t log → length (replay demand_algebra t log).log ≡ length log
run_log t log run = ap length (run_log_from t log (opening_state demand_algebra t) run)

-- Each run of a search is bounded.
pub every_search : AreOnce → AreShort → AreFew → SearchesAreBounded
every_search once short few g bound budget log sound takes run =
    let t = search_of g bound budget in
    let s = short t log (most_out g.out) sound takes run (λ u l. most_row g.out u) in
    let k = few t log (slot bound) (vertex_count g * (bound + 1)) sound takes run (slots_are t sound) in
    let o = once t log sound takes run in
    record {
      most = scaled_most (length log) (kept_count (replay demand_algebra t log).nodes) (vertex_count g * (bound + 1)) (most_out g.out) (omega (arith, run_log t log run, s.log)) k;
      unfinished = λ u. scaled (length log) (kept_count (replay demand_algebra t log).nodes)
          (vertex_count g * (bound + 1)) (most_out g.out) (let m = s.unfinished u in omega (arith, run_log t log run, m)) k;
      once = o.once;
      each = s.each;
      kept = k;
    }
