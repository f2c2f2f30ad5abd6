use Rattle.std.proofs.Common.{◌≡◌, ◌+◌, ◌*◌, ◌<◌, ◌≤◌, ℕ, List, length, sym, ap, subst, arith, ◌∙◌}
use Rattle.drt_claims.specs.Trees.{named}
use Rattle.drt_claims.specs.declared.evidence.Pair.{Pair}
use Rattle.drt_check_trees.specs.Marks.{AreLower, marked}
use Rattle.drt_check_trees.proofs.Naming.{lower_tree, once_each, tree_once}
use Rattle.drt_check_trees.proofs.shapes.is_tree.Goals as goal

pub returns-then-not-name_all : goal.returns-then-not-name_all
returns-then-not-name_all c =
    let tree = c.args.tree.now in
    let w = c.as_slice-walks.ensures in
    let p : c.as_slice-pairs.result.now ≡ tree.pairs = c.as_slice-pairs.ensures in
    let some : 1 ≤ length tree.walks = omega (arith, c.if-walks-eq0.false, ap length w) in
    let count : length tree.pairs + 1 ≡ length tree.walks = omega (arith, c.if-pairs-walks.false, some, ap length w, ap length p) in
    let long : length c.as_mut_slice-slots.result.now ≡ 2 * length tree.pairs = omega (arith, ap length c.as_mut_slice-slots.ensures.value, c.in_ok-marks.ensures.0, ap length p) in (
      λ e. absurd (cc),
      λ is.
          let lower : AreLower (length c.as_slice-walks.result.now) c.as_slice-pairs.result.now
          = subst (λ (ps : List Pair). AreLower (length c.as_slice-walks.result.now) ps) (sym p) (subst (λ (n : ℕ). AreLower n tree.pairs) (sym (ap length w)) (lower_tree tree some count is)) in
          absurd (c.name_all.ensures.broken c.if-not-name_all.true (
            lower,
            λ n l. omega (arith, ap (λ (ps : List Pair). named ps n) p, once_each tree some count is n (omega (arith, l, long))),
          )),
    )

pub returns : goal.returns
returns c =
    let tree = c.args.tree.now in
    let w = c.as_slice-walks.ensures in
    let p : c.as_slice-pairs.result.now ≡ tree.pairs = c.as_slice-pairs.ensures in
    let some : 1 ≤ length tree.walks = omega (arith, c.if-walks-eq0.false, ap length w) in
    let count : length tree.pairs + 1 ≡ length tree.walks = omega (arith, c.if-pairs-walks.false, some, ap length w, ap length p) in
    let long : length c.as_mut_slice-slots.result.now ≡ 2 * length tree.pairs = omega (arith, ap length c.as_mut_slice-slots.ensures.value, c.in_ok-marks.ensures.0, ap length p) in
    let same : length c.name_all.new.marks ≡ length c.as_mut_slice-slots.result.now = c.name_all.auto.marks in
    let kept = c.name_all.ensures.kept c.if-not-name_all.false in
    let lower : AreLower (length tree.walks) tree.pairs = subst (λ (ps : List Pair). AreLower (length tree.walks) ps) p
    (subst (λ (n : ℕ). AreLower n c.as_slice-pairs.result.now) (ap length w) kept.0) in
    let counts : (n : ℕ) → n < 2 * length tree.pairs → marked c.name_all.new.marks n ≡ named tree.pairs n
    = (λ n l. kept.1 n (omega (arith, l, long)) ∙ ap (λ (ps : List Pair). named ps n) p) in (
      λ e. tree_once tree some count lower (λ n l. sym (counts n l) ∙ c.all_marked.ensures.0 e n (omega (arith, l, long, same))),
      λ is. c.all_marked.ensures.1 (λ n l. (let m : n < 2 * length tree.pairs = omega (arith, l, long, same) in counts n m ∙ once_each tree some count is n m)),
    )
