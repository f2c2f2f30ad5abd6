use Rattle.std.proofs.Common.{ap, ◌∙◌}
use Rattle.std.specs.Prelude.{bytes_eq}
use Rattle.std.specs.List.{list_any}
use Rattle.drt_file.specs.internal.StateFaults.{in_some_task}
use Rattle.drt_file.proofs.NamesAbove.{task_among}
use Rattle.drt_file.proofs.reader.Reader.has_task.Goals as goal

pub returns : goal.returns
returns c =
    c.has.ensures ∙ ap (λ ns. list_any (λ n. bytes_eq n c.args.name.now) ns) c.self.invariant.of_tasks
    ∙ task_among c.self.inside.state c.args.name.now ∙ ap (λ s. in_some_task (λ d. bytes_eq d.name c.args.name.now) s) c.self.view_is
