use Rattle.drt_model.proofs.limits.is_task_set.Goals as goal

pub returns-then-are_distinct : goal.returns-then-are_distinct
returns-then-are_distinct c = (
  λ ordered.
      let count = c.has_count.ensures.0 c.if-not-has_count.false in
      let distinct = c.are_distinct.ensures.0 c.if-are_distinct.true in
      record {
        known = count.0;
        has_task = count.1;
        few_tasks = count.2;
        each = c.all_tasks.ensures.0 c.if-not-all_tasks.false;
        distinct_names = distinct.0;
        distinct_priorities = distinct.1;
        in_order = c.are_in_order.ensures.0 ordered;
      },
  λ set. c.are_in_order.ensures.1 set.in_order,
)
