-- A room between a number that is within and one that isn't: how it opens, gets smaller, and what it gives at last.
use Rattle.std.proofs.Common.{◌≡◌, ℕ, ◌+◌, ◌-◌, ◌<◌, ◌≤◌, Some, None, ap, subst, arith}
use Rattle.drt_model.specs.Numbers.{most_time}
use Rattle.drt_model.specs.Contents.{Contents}
use Rattle.drt_model.specs.declared.jobs.Policy.{Policy}
use Rattle.drt_claims.specs.declared.evidence.Evidence.{Evidence}
use Rattle.drt_margin.specs.Answers.{IsFoundMargin, IsMarginAnswer, IsNextShown, IsOtherFor, IsNumberReached, IsYesFor}
use Rattle.drt_margin.specs.Margin.{IsWithinMargin, between, deadline_at, last, lowers, middle, opens, plus_set, raises, wcet_at}
use Rattle.drt_margin.specs.Steps.{IsAsked, IsLastShown, IsLeast, IsHalvingRoom, answer_of}
use Rattle.drt_margin.specs.declared.answer.Next.{Next}
use Rattle.drt_margin.specs.declared.halving.Last.{Last}
use Rattle.drt_margin.specs.declared.halving.Last.TheVariants as lasts
use Rattle.drt_margin.specs.declared.halving.Room.{Room}
use Rattle.drt_margin.specs.declared.question.Question.{Question}
use Rattle.drt_margin.proofs.Limits.{wcet_most}
use Rattle.drt_margin.proofs.Timed.{plus_none}
use Rattle.drt_margin.proofs.Verdicts.{other_past, yes_within}
use Rattle.drt_margin.proofs.Within.{IsSubject, margin_is, opens_in_time, past_deadline}

-- A set of which the question can be asked is a subject.
pub asked_subject : (set : Contents) (q : Question) → IsAsked set q → IsSubject set q.task q.vertex
asked_subject set q is = record { limits = is.limits; constrained = is.constrained; vertex = is.vertex }

-- S + 0 is S.
pub none_more : (set : Contents) (k v : ℕ) → plus_set set k v 0 ≡ set
none_more set k v = ap (λ ts. record { version = set.version; tasks = ts }) (plus_none set.tasks k v)

module _ (set : Contents) (policy : Policy) (k v : ℕ) (s : IsSubject set k v) where
  few_ticks : wcet_at set.tasks k v + 0 ≤ most_time
  few_ticks = omega (arith, (wcet_most set.version set.tasks k v s.limits s.vertex.0 s.vertex.1).1)

  -- Where S is a yes, 0 is within.
  pub none_within : (evidence : Evidence) → IsYesFor policy (plus_set set k v 0) evidence → IsWithinMargin set policy k v 0
  none_within evidence shown = yes_within set k v s policy 0 evidence few_ticks shown

  -- So the vertex is done by its deadline.
  pub in_time : (evidence : Evidence) → IsYesFor policy (plus_set set k v 0) evidence → wcet_at set.tasks k v ≤ deadline_at set.tasks k v
  in_time evidence shown = opens_in_time set k v s policy (none_within evidence shown)

  -- The room at first.
  pub room_opens : (evidence : Evidence) → deadline_at set.tasks k v ≤ most_time → IsYesFor policy (plus_set set k v 0) evidence
      → IsHalvingRoom set policy k v (record { low = 0; high = deadline_at set.tasks k v - wcet_at set.tasks k v + 1; within = evidence; past = None })
  room_opens evidence few evident =
      let some = (wcet_most set.version set.tasks k v s.limits s.vertex.0 s.vertex.1).0 in
      let fits = in_time evidence evident in
      let is = none_within evidence evident in
      record {
        order = omega arith;
        most = omega arith;
        limit = omega arith;
        halves = opens;
        is_in = is;
        first = is;
        past = past_deadline set k v s policy (deadline_at set.tasks k v - wcet_at set.tasks k v + 1) (omega arith);
        yes = evident;
        shown = tt;
      }

  module _ (room : Room) (is : IsHalvingRoom set policy k v room) where
    -- The number in the middle of a wide room.
    pub between_both : 1 < room.high - room.low → (room.low < middle room.low room.high) × (middle room.low room.high < room.high)
    between_both wide = (omega arith, omega arith)

    pub middle_few : 1 < room.high - room.low → wcet_at set.tasks k v + middle room.low room.high ≤ most_time
    middle_few wide = omega (arith, is.limit, (between_both wide).1)

    -- It was tried.
    pub middle_reached : 1 < room.high - room.low → IsNumberReached set policy k v (middle room.low room.high)
    middle_reached wide = record { tried = between room.low room.high is.first is.halves wide; limit = middle_few wide }

    -- The room after a yes.
    pub room_raised : (wide : 1 < room.high - room.low) (evidence : Evidence) → IsYesFor policy (plus_set set k v (middle room.low room.high)) evidence
        → IsHalvingRoom set policy k v (record { low = middle room.low room.high; high = room.high; within = evidence; past = room.past })
    room_raised wide evidence evident =
        let here = yes_within set k v s policy (middle room.low room.high) evidence (middle_few wide) evident in
        record {
          order = (between_both wide).1;
          most = is.most;
          limit = is.limit;
          halves = raises room.low room.high is.halves wide here;
          is_in = here;
          first = is.first;
          past = is.past;
          yes = evident;
          shown = is.shown;
        }

    -- The room after another answer.
    pub room_lowered : (wide : 1 < room.high - room.low) (evidence : Evidence) → IsOtherFor policy (plus_set set k v (middle room.low room.high)) evidence
        → IsHalvingRoom set policy k v (record { low = room.low; high = middle room.low room.high; within = room.within; past = Some evidence })
    room_lowered wide evidence other =
        let past = other_past set k v s policy (middle room.low room.high) evidence other in
        record {
          order = (between_both wide).0;
          most = omega (arith, is.most, (between_both wide).1);
          limit = omega (arith, is.limit, (between_both wide).1);
          halves = lowers room.low room.high is.halves wide (λ within. past (middle room.low room.high) (omega arith) within);
          is_in = is.is_in;
          first = is.first;
          past = past;
          yes = is.yes;
          shown = (middle_few wide, other);
        }

    -- The least number that isn't within.
    pub room_least : room.high - room.low ≤ 1 → IsLeast set policy k v room.high
    room_least near = record { low = room.low; halves = is.halves; near = near; first = is.first; past = is.past; limit = is.limit }

    -- The margin.
    pub room_found : room.high - room.low ≤ 1 → (next : Next) → IsNextShown set policy k v room.high next → IsFoundMargin set policy k v room.low room.within next
    room_found near next shown =
        let e : room.high ≡ room.low + 1 = omega (arith, is.order) in
        record {
          margin = margin_is set k v s policy room.low room.high is.order near is.is_in is.past;
          limit = omega (arith, is.limit, is.order);
          yes = is.yes;
          shows = subst (λ (n : ℕ). IsNextShown set policy k v n next) e shown;
        }

-- The least number that isn't within is tried where the limits allow.
pub least_reached : (set : Contents) (policy : Policy) (k v high : ℕ) → IsLeast set policy k v high → wcet_at set.tasks k v + high ≤ most_time → IsNumberReached set policy k v high
least_reached set policy k v high is few = record { tried = last is.low high is.first is.halves is.near few; limit = few }

-- What is shown of the number after the margin makes the answer.
pub room_answered : (set : Contents) (policy : Policy) (k v budget : ℕ) → IsSubject set k v → (room : Room) → IsHalvingRoom set policy k v room → room.high - room.low ≤ 1 → (shown : Last)
    → IsLastShown set policy k v budget room.high shown → IsMarginAnswer set policy k v budget (answer_of room.low room.within shown)
room_answered set policy k v budget s room is near (lasts.Next next) shows = room_found set policy k v s room is near next shows
room_answered set policy k v budget s room is near (lasts.Ended answer) says = says
