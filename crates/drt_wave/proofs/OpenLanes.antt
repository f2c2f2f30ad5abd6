-- The words of a lane at its start.
use Rattle.std.proofs.Common.{◌≡◌, ℕ, ◌+◌, ◌*◌, ◌/◌, ◌%◌, ◌<◌, ◌≤◌, false, nat_le, ◌==◌, ◌&&◌, if◌then◌else◌, List, []}
use Rattle.std.proofs.Common.{length, get_or, set, sym, ap, ◌∙◌, subst, arith, get_or-set_same, get_or-set_other}
use Rattle.std.proofs.lemmas.Bool.Decides.{nat_tests}
use mathlib.Core.Logic.{dite}
use native.Mathlib.Decide.{ℕ_discrete, dec_le}
use Rattle.drt_model.specs.Digraph.{vertex_count}
use Rattle.drt_model.specs.Walk.{wcet, deadline}
use Rattle.drt_wave.specs.declared.plan.Plan.{Plan}
use Rattle.drt_wave.specs.declared.view.LaneKey.{LaneKey}
use Rattle.drt_wave.specs.Net.{IsNet}
use Rattle.drt_wave.specs.Cells.{width, cell_at, net_of, IsWavePlan}
use Rattle.drt_wave.specs.Keys.{lane_net, lane_first, lane_count}
use Rattle.drt_wave.specs.Lanes.{InLane, fresh_lane}
use Rattle.atomic_table.specs.Table.{opening}
use Rattle.drt_wave.proofs.LaneSteps.{opens_so}
use Rattle.drt_wave.proofs.Cells.{is_net, cell_lt, cell_vertex, cell_offset, opening_of}

-- Each word is what its cell opens with.
abbrev pub AreOpen : Plan → ℕ → List ℕ → Type 0
AreOpen p v ws = (o : ℕ) → o < width p → get_or ws o 0 ≡ (net_of p).opens (cell_at p v o)

module _ (p : Plan) where
  -- a cell that no walk of one vertex ends at opens with 0
  opens_zero : (c : ℕ) → (c % width p ≡ 0 → deadline p.graph (c / width p) ≤ p.bound → ⊥) → (net_of p).opens c ≡ 0
  opens_zero c h =
      let test : ((c % width p == 0) && nat_le (deadline p.graph (c / width p)) p.bound) ≡ false =
      dite (ℕ_discrete (c % width p) 0) (λ e. dite (dec_le (deadline p.graph (c / width p)) p.bound) (λ le. absurd (h e le)) (λ nle. grind (arith, nat_tests))) (λ ne. grind (arith, nat_tests)) in
      ap (λ b. if b then wcet p.graph (c / width p) else 0) test

  -- what the first cell opens with
  abbrev pub IsOpening : ℕ → ℕ → Type 0
  IsOpening v x = (deadline p.graph v ≤ p.bound → x ≡ wcet p.graph v) × ((deadline p.graph v ≤ p.bound → ⊥) → x ≡ 0)

  pub opening_yes : (v x : ℕ) → x ≡ wcet p.graph v → deadline p.graph v ≤ p.bound → IsOpening v x
  opening_yes v x is due = ((λ _. is), (λ nle. absurd (nle due)))

  pub opening_no : (v x : ℕ) → x ≡ 0 → (deadline p.graph v ≤ p.bound → ⊥) → IsOpening v x
  opening_no v x none late = ((λ le. absurd (late le)), (λ _. none))

  first_opens : (v x : ℕ) → IsOpening v x → x ≡ (net_of p).opens (cell_at p v 0)
  first_opens v x is = dite (dec_le (deadline p.graph v) p.bound)
      (λ le. is.0 le ∙ sym (opening_of p v le))
      (λ nle. is.1 nle ∙ sym (opens_zero (cell_at p v 0) (λ z due. nle (subst (λ u. deadline p.graph u ≤ p.bound) (cell_vertex p v 0 (omega arith)) due))))

  -- zeros of which the first is written
  pub open_words : (v x : ℕ) (ws : List ℕ) → IsOpening v x → length ws ≡ width p → ((k : ℕ) → 0 < k → get_or ws k 0 ≡ 0) → AreOpen p v (set ws 0 x)
  open_words v x ws is wide zeros o lt = dite (ℕ_discrete o 0)
      (λ e. ap (λ i. get_or (set ws 0 x) i 0) e ∙ get_or-set_same ws 0 x 0 (omega (arith, wide)) ∙ first_opens v x is ∙ ap (λ i. (net_of p).opens (cell_at p v i)) (sym e))
      (λ ne. get_or-set_other ws 0 o x 0 ne ∙ zeros o (omega arith) ∙ sym (opens_zero (cell_at p v o) (λ z due. ne (sym (cell_offset p v o (omega arith)) ∙ z))))

  -- a lane lies within the cells
  lane_within : (v : ℕ) → v < vertex_count p.graph → v * width p + width p ≤ vertex_count p.graph * width p
  lane_within v lt =
      let m : ℕ = v * width p in let n : ℕ = vertex_count p.graph * width p in
      let last : m + p.bound < n = cell_lt p v p.bound lt (omega arith) in omega arith

-- a lane at its start keeps the rule
pub start_holds : (p : Plan) (key : LaneKey) (ws : List ℕ) → key.plan.value ≡ p → IsWavePlan p → key.vertex < vertex_count p.graph → length ws ≡ width p → AreOpen p key.vertex ws
    → InLane lane_net lane_first lane_count {S = Unit {0}} key (opening ws [] (fresh_lane key 1024))
start_holds p key ws is plan lt wide open_cells = opens_so lane_net lane_first lane_count key ws
    (subst (λ q. IsNet (net_of q)) (sym is) (is_net p plan))
    (wide ∙ ap width (sym is))
    (subst (λ q. key.vertex * width q + width q ≤ vertex_count q.graph * width q) (sym is) (lane_within p key.vertex lt))
    (subst (λ q. AreOpen q key.vertex ws) (sym is) open_cells)
