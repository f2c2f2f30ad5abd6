use Rattle.std.proofs.Common.{◌≡◌, ◌+◌, ◌<◌, ◌≤◌, ℕ, List, length, get_or, arith}
use Rattle.drt_claims.specs.declared.evidence.Pair.{Pair}
use Rattle.std.proofs.lemmas.Option.{slice_get-get_or, slice_get_within}
use Rattle.drt_check_trees.specs.Marks.{IsLowerPair, marked, names}
use Rattle.drt_check_trees.proofs.Naming.{lower_more, named_end, named_more}
use Rattle.drt_check_trees.proofs.shapes.name_all.Goals as goal

pub returns-then-not-name_pair-clause-broken : goal.returns-then-not-name_pair-clause-broken
returns-then-not-name_pair-clause-broken c = λ e both.
    let pairs : List Pair = c.args.pairs.now in
    let i = c.loop-i.i in
    let d : Pair = record { left = 0; right = 0 } in
    let lower : IsLowerPair (c.args.walks + i) (get_or pairs i d) = both.0 i (get_or pairs i d) (slice_get-get_or pairs i d c.loop-i-test.true) in
    let twice : (n : ℕ) × (n < c.args.walks + i) × (2 ≤ marked c.loop-i.marks n + names (get_or pairs i d) n) = c.name_pair.ensures.broken c.if-not-name_pair.true lower in
    let l : twice.0 < length c.args.marks.now = omega (arith, twice.1, c.requires.room, c.loop-i-test.true) in
    let more = named_more pairs i d twice.0 c.loop-i-test.true in
    let counts = c.loop-i.invariant.1 twice.0 (omega (arith, l, c.loop-i.auto.marks)) in
    omega (arith, both.1 twice.0 l, twice.2, more, counts)

pub loop-i-preserved : goal.loop-i-preserved
loop-i-preserved c =
    let pairs : List Pair = c.args.pairs.now in
    let i = c.loop-i.i in
    let d : Pair = record { left = 0; right = 0 } in
    let kept : IsLowerPair (c.args.walks + i) (get_or pairs i d) × ((n : ℕ) → marked c.name_pair.new.marks n ≡ marked c.loop-i.marks n + names (get_or pairs i d) n)
    = c.name_pair.ensures.kept c.if-not-name_pair.false in (
      lower_more c.args.walks pairs i d c.loop-i-test.true c.loop-i.invariant.0 kept.0,
      λ n l.
          let more = named_more pairs i d n c.loop-i-test.true in
          let counts = c.loop-i.invariant.1 n (omega (arith, l, c.name_pair.auto.marks)) in
          omega (arith, kept.1 n, more, counts),
    )

pub returns-clause-kept : goal.returns-clause-kept
returns-clause-kept c = λ e. (
  λ i p at. c.loop-i.invariant.0 i p (omega (arith, slice_get_within c.args.pairs.now i p at, c.loop-i-test.false)) at,
  λ n l. omega (arith, c.loop-i.invariant.1 n (omega (arith, l, c.loop-i.auto.marks)), named_end c.args.pairs.now c.loop-i.i n c.loop-i-test.false),
)
