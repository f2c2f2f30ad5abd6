use Rattle.std.proofs.Common.{ℕ, ◌≤◌, subst, ap, ◌∙◌, arith, length-set}
use Rattle.drt_model.specs.declared.tasks.Vertex.{Vertex}
use Rattle.drt_wave.proofs.OpenLanes.{IsOpening, opening_yes, opening_no, open_words, start_holds}
use Rattle.drt_wave.proofs.lane.Lane.open.Goals.{then-task_vertex-plan, else-task_vertex-plan}
use Rattle.drt_wave.proofs.lane.Lane.open.Goals as goal

pub of_words-requires : goal.of_words-requires
of_words-requires c =
    let p = c.args.plan.now in let v : ℕ = c.args.vertex in let x : ℕ = c.if-task_vertex-plan.words in let found = c.vertex-task_vertex.ensures in
    let is : IsOpening p v x = elim c.if-task_vertex-plan.branch [
      | then-task_vertex-plan w ↦ opening_yes p v x (w.words-is ∙ ap (λ (y : Vertex). y.wcet) found) (subst (λ (y : Vertex). y.deadline ≤ p.bound) found w.if-task_vertex-plan.true)
      | else-task_vertex-plan w ↦ opening_no p v x w.words-is (subst (λ (y : Vertex). y.deadline ≤ p.bound → ⊥) found (λ le. omega (arith, le, w.if-task_vertex-plan.false)))
    ] in
    start_holds p _ _ c.of.ensures c.requires.planned c.requires.vertex (length-set c.args.words.now 0 x ∙ c.requires.count) (open_words p v x c.args.words.now is c.requires.count c.requires.zeros)
