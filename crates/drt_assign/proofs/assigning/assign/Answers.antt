use Rattle.std.proofs.Common.{◌≡◌, ℕ, List, length, refl, sym, subst, ap, ◌∙◌}
use Rattle.std.proofs.lemmas.List.{length-map}
use Rattle.drt_model.specs.declared.jobs.Policy.TheVariants.{Fixed}
use Rattle.drt_model.specs.declared.tasks.Task.{Task}
use Rattle.drt_model.specs.Constrained.{AreConstrained}
use Rattle.drt_model.specs.Contents.{Contents}
use Rattle.drt_model.specs.Limits.{IsTaskSet}
use Rattle.drt_model.specs.Schedulable.{Schedulable}
use Rattle.drt_claims.specs.Claims.{graphs_of}
use Rattle.drt_priorities.proofs.Prioritised.{graphs_stay}
use Rattle.drt_assign.specs.Assign.{IsAssigned, with_priorities}
use Rattle.drt_assign.specs.Steps.{IsAnalysis}
use Rattle.drt_assign.proofs.Ends.{as_many_in, course_of, for_answer, none, old_is, ordered_is, ranking_of, restored, restored_limits}
use Rattle.drt_assign.proofs.Ends.{whole_assigned, whole_constrained, whole_limits, whole_schedulable}
use Rattle.drt_assign.proofs.assigning.assign.Goals as goal

pub rank_all-requires-clause-course : goal.rank_all-requires-clause-course
rank_all-requires-clause-course g c κs within =
    let set : Contents = c.args.set.now in
    let old : List ℕ = c.as_slice.result.now in
    let same : c.in_ok-own.own ≡ set = c.in_ok-own.ensures ∙ c.set.ensures.set in
    let old_are = old_is c.as_slice.ensures.value c.in_ok-old.ensures c.tasks.ensures.tasks in
    course_of c.in_ok-own.own set c.graphs.result.now old same old_are c.keep_limits.ensures.limits c.keep_limits.ensures.constrained c.graphs.ensures.graphs

pub prioritise-requires-clause-limits : goal.prioritise-requires-clause-limits
prioritise-requires-clause-limits g c =
    let set : Contents = c.args.set.now in
    let old : List ℕ = c.as_slice.result.now in
    let same : c.in_ok-own.own ≡ set = c.in_ok-own.ensures ∙ c.set.ensures.set in
    let old_are = old_is c.as_slice.ensures.value c.in_ok-old.ensures c.tasks.ensures.tasks in
    let said = ranking_of c.args.crew.now.effort.budget same old_are c.in-Whole.is c.in_ok-set.ensures in
    let is = ordered_is set.tasks old c.in-Whole.ranks c.as_slice-in-Whole.result.now c.in-Whole.set (with_priorities c.in-Whole.set.tasks c.as_slice-in-Whole.result.now) said.0
    said.1.as_many c.as_slice-in-Whole.ensures refl in
    subst (λ (s : Contents). IsTaskSet 2 s.tasks) (sym is) (whole_limits c.times_decide.ensures set.version set.tasks c.keep_limits.ensures.limits
    c.keep_limits.ensures.constrained c.in-Whole.ranks said.1 said.2)

pub prioritise-requires-clause-as_many : goal.prioritise-requires-clause-as_many
prioritise-requires-clause-as_many g c =
    let set : Contents = c.args.set.now in
    let old : List ℕ = c.as_slice.result.now in
    let same : c.in_ok-own.own ≡ set = c.in_ok-own.ensures ∙ c.set.ensures.set in
    let old_are = old_is c.as_slice.ensures.value c.in_ok-old.ensures c.tasks.ensures.tasks in
    let said = ranking_of c.args.crew.now.effort.budget same old_are c.in-Whole.is c.in_ok-set.ensures in
    ap length c.as_slice-in-Whole.ensures ∙ (said.1.as_many ∙ as_many_in set.tasks old c.in-Whole.set said.0)

pub analyse_order-requires-clause-constrained : goal.analyse_order-requires-clause-constrained
analyse_order-requires-clause-constrained g c κs within =
    let set : Contents = c.args.set.now in
    let old : List ℕ = c.as_slice.result.now in
    let same : c.in_ok-own.own ≡ set = c.in_ok-own.ensures ∙ c.set.ensures.set in
    let old_are = old_is c.as_slice.ensures.value c.in_ok-old.ensures c.tasks.ensures.tasks in
    let said = ranking_of c.args.crew.now.effort.budget same old_are c.in-Whole.is c.in_ok-set.ensures in
    let is = ordered_is set.tasks old c.in-Whole.ranks c.as_slice-in-Whole.result.now c.in-Whole.set c.prioritise.result said.0 said.1.as_many
    c.as_slice-in-Whole.ensures c.prioritise.ensures in
    subst (λ (s : Contents). AreConstrained s.tasks) (sym is) (whole_constrained c.times_decide.ensures set.version set.tasks c.keep_limits.ensures.limits
    c.keep_limits.ensures.constrained c.in-Whole.ranks said.1 said.2)

pub analyse_order-requires-clause-graphs : goal.analyse_order-requires-clause-graphs
analyse_order-requires-clause-graphs g c κs within =
    let set : Contents = c.args.set.now in
    let old : List ℕ = c.as_slice.result.now in
    let same : c.in_ok-own.own ≡ set = c.in_ok-own.ensures ∙ c.set.ensures.set in
    let old_are = old_is c.as_slice.ensures.value c.in_ok-old.ensures c.tasks.ensures.tasks in
    let said = ranking_of c.args.crew.now.effort.budget same old_are c.in-Whole.is c.in_ok-set.ensures in
    let is = ordered_is set.tasks old c.in-Whole.ranks c.as_slice-in-Whole.result.now c.in-Whole.set c.prioritise.result said.0 said.1.as_many
    c.as_slice-in-Whole.ensures c.prioritise.ensures in
    c.graphs.ensures.graphs ∙ (sym (graphs_stay set.tasks c.in-Whole.ranks) ∙ ap (λ (s : Contents). graphs_of s.tasks) (sym is))

pub analyse_order-requires-clause-schedulable : goal.analyse_order-requires-clause-schedulable
analyse_order-requires-clause-schedulable g c κs within =
    let set : Contents = c.args.set.now in
    let old : List ℕ = c.as_slice.result.now in
    let same : c.in_ok-own.own ≡ set = c.in_ok-own.ensures ∙ c.set.ensures.set in
    let old_are = old_is c.as_slice.ensures.value c.in_ok-old.ensures c.tasks.ensures.tasks in
    let said = ranking_of c.args.crew.now.effort.budget same old_are c.in-Whole.is c.in_ok-set.ensures in
    let is = ordered_is set.tasks old c.in-Whole.ranks c.as_slice-in-Whole.result.now c.in-Whole.set c.prioritise.result said.0 said.1.as_many
    c.as_slice-in-Whole.ensures c.prioritise.ensures in
    subst (λ (s : Contents). Schedulable s.tasks Fixed) (sym is) (whole_schedulable c.times_decide.ensures set.version set.tasks c.keep_limits.ensures.limits
    c.keep_limits.ensures.constrained c.in-Whole.ranks said.1 said.2)

pub returns-in-Whole : goal.returns-in-Whole
returns-in-Whole g c =
    let set : Contents = c.args.set.now in
    let old : List ℕ = c.as_slice.result.now in
    let same : c.in_ok-own.own ≡ set = c.in_ok-own.ensures ∙ c.set.ensures.set in
    let old_are = old_is c.as_slice.ensures.value c.in_ok-old.ensures c.tasks.ensures.tasks in
    let said = ranking_of c.args.crew.now.effort.budget same old_are c.in-Whole.is c.in_ok-set.ensures in
    let is = ordered_is set.tasks old c.in-Whole.ranks c.as_slice-in-Whole.result.now c.in-Whole.set c.prioritise.result said.0 said.1.as_many
    c.as_slice-in-Whole.ensures c.prioritise.ensures in
    let budget : ℕ = c.args.crew.now.effort.budget in
    for_answer (IsAnalysis c.prioritise.result budget) (IsAssigned set budget) c.analyse_order.result
    (whole_assigned c.times_decide.ensures set.version set.tasks c.keep_limits.ensures.limits c.keep_limits.ensures.constrained c.in-Whole.ranks said.1 said.2 budget
    c.prioritise.result is) c.analyse_order.ensures

pub prioritise-requires-in-AllStuck-clause-limits : goal.prioritise-requires-in-AllStuck-clause-limits
prioritise-requires-in-AllStuck-clause-limits g c =
    let set : Contents = c.args.set.now in
    let old : List ℕ = c.as_slice.result.now in
    let same : c.in_ok-own.own ≡ set = c.in_ok-own.ensures ∙ c.set.ensures.set in
    let old_are = old_is c.as_slice.ensures.value c.in_ok-old.ensures c.tasks.ensures.tasks in
    let said = ranking_of c.args.crew.now.effort.budget same old_are c.in-AllStuck.is c.in_ok-set.ensures in
    let version : c.version-version.result ≡ set.version = c.version-version.ensures.version ∙ ap (λ (s : Contents). s.version) same in
    restored_limits set c.in-AllStuck.set c.version-version.result old c.deref.result.now version (c.deref.ensures.value ∙ sym c.as_slice.ensures.value) said.0
    c.keep_limits.ensures.limits

pub prioritise-requires-in-AllStuck-clause-as_many : goal.prioritise-requires-in-AllStuck-clause-as_many
prioritise-requires-in-AllStuck-clause-as_many g c =
    let set : Contents = c.args.set.now in
    let old : List ℕ = c.as_slice.result.now in
    let same : c.in_ok-own.own ≡ set = c.in_ok-own.ensures ∙ c.set.ensures.set in
    let old_are = old_is c.as_slice.ensures.value c.in_ok-old.ensures c.tasks.ensures.tasks in
    let said = ranking_of c.args.crew.now.effort.budget same old_are c.in-AllStuck.is c.in_ok-set.ensures in
    ap length (c.deref.ensures.value ∙ sym c.as_slice.ensures.value ∙ old_are)
    ∙ (length-map set.tasks (λ (t : Task). t.priority) ∙ as_many_in set.tasks old c.in-AllStuck.set said.0)

pub returns-in-AllStuck : goal.returns-in-AllStuck
returns-in-AllStuck g c =
    let set : Contents = c.args.set.now in
    let old : List ℕ = c.as_slice.result.now in
    let same : c.in_ok-own.own ≡ set = c.in_ok-own.ensures ∙ c.set.ensures.set in
    let old_are = old_is c.as_slice.ensures.value c.in_ok-old.ensures c.tasks.ensures.tasks in
    let said = ranking_of c.args.crew.now.effort.budget same old_are c.in-AllStuck.is c.in_ok-set.ensures in
    let version : c.version-version.result ≡ set.version = c.version-version.ensures.version ∙ ap (λ (s : Contents). s.version) same in
    record {
      same_is = restored set c.in-AllStuck.set c.prioritise-in-AllStuck.result c.version-version.result old c.deref.result.now version
          (c.deref.ensures.value ∙ sym c.as_slice.ensures.value) said.0 c.prioritise-in-AllStuck.ensures;
      none = none c.times_decide.ensures set.version set.tasks c.keep_limits.ensures.limits c.keep_limits.ensures.constrained c.in-AllStuck.stuck said.1;
      ended = said.1;
    }

pub prioritise-requires-in-Spent-clause-limits : goal.prioritise-requires-in-Spent-clause-limits
prioritise-requires-in-Spent-clause-limits g c =
    let set : Contents = c.args.set.now in
    let old : List ℕ = c.as_slice.result.now in
    let same : c.in_ok-own.own ≡ set = c.in_ok-own.ensures ∙ c.set.ensures.set in
    let old_are = old_is c.as_slice.ensures.value c.in_ok-old.ensures c.tasks.ensures.tasks in
    let said = ranking_of c.args.crew.now.effort.budget same old_are c.in-Spent.is c.in_ok-set.ensures in
    let version : c.version-version.result ≡ set.version = c.version-version.ensures.version ∙ ap (λ (s : Contents). s.version) same in
    restored_limits set c.in-Spent.set c.version-version.result old c.deref-in-Spent.result.now version (c.deref-in-Spent.ensures.value ∙ sym c.as_slice.ensures.value) said.0
    c.keep_limits.ensures.limits

pub prioritise-requires-in-Spent-clause-as_many : goal.prioritise-requires-in-Spent-clause-as_many
prioritise-requires-in-Spent-clause-as_many g c =
    let set : Contents = c.args.set.now in
    let old : List ℕ = c.as_slice.result.now in
    let same : c.in_ok-own.own ≡ set = c.in_ok-own.ensures ∙ c.set.ensures.set in
    let old_are = old_is c.as_slice.ensures.value c.in_ok-old.ensures c.tasks.ensures.tasks in
    let said = ranking_of c.args.crew.now.effort.budget same old_are c.in-Spent.is c.in_ok-set.ensures in
    ap length (c.deref-in-Spent.ensures.value ∙ sym c.as_slice.ensures.value ∙ old_are)
    ∙ (length-map set.tasks (λ (t : Task). t.priority) ∙ as_many_in set.tasks old c.in-Spent.set said.0)

pub returns : goal.returns
returns g c =
    let set : Contents = c.args.set.now in
    let old : List ℕ = c.as_slice.result.now in
    let same : c.in_ok-own.own ≡ set = c.in_ok-own.ensures ∙ c.set.ensures.set in
    let old_are = old_is c.as_slice.ensures.value c.in_ok-old.ensures c.tasks.ensures.tasks in
    let said = ranking_of c.args.crew.now.effort.budget same old_are c.in-Spent.is c.in_ok-set.ensures in
    let version : c.version-version.result ≡ set.version = c.version-version.ensures.version ∙ ap (λ (s : Contents). s.version) same in
    record {
      same_is = restored set c.in-Spent.set c.prioritise-in-Spent.result c.version-version.result old c.deref-in-Spent.result.now version
          (c.deref-in-Spent.ensures.value ∙ sym c.as_slice.ensures.value) said.0 c.prioritise-in-Spent.ensures;
      ended = said.1;
    }
