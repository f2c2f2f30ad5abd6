use Rattle.std.proofs.Common.{◌≡◌, ◌≤◌, Some, arith, length, rules, slice_get}
use Rattle.std.proofs.lemmas.Option.{slice_get-get_or}
use Rattle.drt_model.specs.declared.tasks.Vertex.{Vertex}
use Rattle.drt_command_files.proofs.SpotLemmas.{named_here, named_none, none_more}
use Rattle.drt_command_files.proofs.spots.vertex_named.Goals as goal

pub returns-then-eq : goal.returns-then-eq
returns-then-eq c =
    let here : slice_get c.args.vertices.now c.loop-v.v ≡ Some c.index-vertices-v.result = search (rules, slice_get-get_or) in
    let is : c.index-vertices-v.result.name ≡ c.args.name.now = search rules in
    (c.index-vertices-v.result, named_here (λ (x : Vertex). x.name) c.args.vertices.now c.args.name.now c.loop-v.v c.index-vertices-v.result here is c.loop-v.invariant)

pub loop-v-preserved : goal.loop-v-preserved
loop-v-preserved c =
    let here : slice_get c.args.vertices.now c.loop-v.v ≡ Some c.index-vertices-v.result = search (rules, slice_get-get_or) in
    let other : c.index-vertices-v.result.name ≡ c.args.name.now → ⊥ = search rules in
    none_more (λ (x : Vertex). x.name) c.args.vertices.now c.args.name.now c.loop-v.v c.index-vertices-v.result here other c.loop-v.invariant

pub returns : goal.returns
returns c =
    let past : length c.args.vertices.now ≤ c.loop-v.v = omega arith in
    named_none (λ (x : Vertex). x.name) c.args.vertices.now c.args.name.now c.loop-v.v past c.loop-v.invariant
