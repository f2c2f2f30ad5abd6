use Rattle.std.proofs.Common.{ℕ, List, ap}
use Rattle.drt_claims.specs.declared.evidence.Item.{Item}
use Rattle.drt_evidence.proofs.Forms.{line_is, line_broken}
use Rattle.drt_evidence.proofs.Shapes.{proof_shape}
use Rattle.drt_evidence.proofs.reading.list_lines.proof_of.Goals as goal

pub returns-in-Some-2 : goal.returns-in-Some-2
returns-in-Some-2 c =
    let pair : List Item → ℕ × (ℕ × List Item) = λ xs. (c.in-Some-2.task, (c.in-Some-2.vertex, xs)) in
    line_is proof_shape c.args.line.now c.in-Some.rest.now (c.in-Some-2.task, (c.in-Some-2.vertex, c.in-Some-2.items.items))
    (record { task = c.in-Some-2.task; vertex = c.in-Some-2.vertex; items = c.from_vec.result }) c.in-Some.ensures (rw c.in-Some-2.is at c.in_ok-task.ensures) (ap pair c.from_vec.ensures)

pub returns-in-None-2 : goal.returns-in-None-2
returns-in-None-2 c = line_broken proof_shape c.args.line.now c.in-Some.rest.now c.in-Some.ensures (rw c.in-None-2.is at c.in_ok-task.ensures)
