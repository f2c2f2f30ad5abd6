use Rattle.std.proofs.Common.{sym, ap, ◌∙◌}
use Rattle.std.specs.Prelude.{is_none}
use Rattle.drt_table.specs.Node.{Held, is_kept}
use Rattle.drt_table.specs.Stage.{dropper}
use Rattle.drt_table.proofs.node.Node.is_kept.Goals as goal

pub returns-in-Pending : goal.returns-in-Pending
returns-in-Pending g c = ap (λ s. is_none (dropper s)) (sym c.in-Pending.is) ∙ ap (λ (h : Held _). is_kept h.node) c.self.view_is

pub returns-in-Taken : goal.returns-in-Taken
returns-in-Taken g c = ap (λ s. is_none (dropper s)) (sym c.in-Taken.is) ∙ ap (λ (h : Held _). is_kept h.node) c.self.view_is

pub returns-in-Done : goal.returns-in-Done
returns-in-Done g c = ap (λ s. is_none (dropper s)) (sym c.in-Done.is) ∙ ap (λ (h : Held _). is_kept h.node) c.self.view_is

pub returns-in-Dropped : goal.returns-in-Dropped
returns-in-Dropped g c = ap (λ s. is_none (dropper s)) (sym c.in-Dropped.is) ∙ ap (λ (h : Held _). is_kept h.node) c.self.view_is
