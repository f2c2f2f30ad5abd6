-- One more release is counted.
use Rattle.std.proofs.Common.{◌≡◌, ◌<◌, ◌+◌, [], ◌∷◌, ◌++◌, length, eqb, get_or, take, sym, ap, ◌∙◌, subst, arith}
use Rattle.std.proofs.lemmas.List.{get_or_read, length-set, length-take, length_push}
use Rattle.std.proofs.lemmas.List.Sums.{count_by-le-length}
use Rattle.drt_model.proofs.JobLemmas.{no_release}
use Rattle.drt_timeline.specs.Text.{release_in}
use Rattle.drt_timeline.proofs.NameLemmas.{count_of, counts_more, indices_are, indices_more}
use Rattle.drt_timeline.proofs.names.indices_of.Goals as goal

pub overflow_add-index_mut : goal.overflow_add-index_mut
overflow_add-index_mut c =
    let releases = c.args.releases.now in
    let i = c.loop-release.release-index in
    let counts = c.loop-release.counts.items in
    let task = (release_in releases i).task in
    let below : task < length counts = omega (arith, c.requires i no_release c.loop-release-test.true, c.loop-release.invariant.counted) in
    let was : c.index_mut.result.now ≡ get_or counts task 0 = get_or_read counts task c.index_mut.result.now below c.index_mut.ensures.value 0 in
    let counted : c.index_mut.result.now ≡ count_of releases task i = was ∙ c.loop-release.invariant.counts task below in
    omega (
      arith,
      counted,
      count_by-le-length (λ r. eqb r.task task) (take i releases),
      length-take i releases,
      c.loop-release.invariant.as_many,
      c.loop-release.indices.small,
      c.loop-release.indices.ok.0,
      c.loop-release.indices.ok.1,
    )

pub loop-release-preserved : goal.loop-release-preserved
loop-release-preserved c =
    let releases = c.args.releases.now in
    let i = c.loop-release.release-index in
    let counts = c.loop-release.counts.items in
    let indices = c.loop-release.indices.items in
    let so_far = c.loop-release.invariant in
    let task = (release_in releases i).task in
    let x = c.index_mut.result.now in
    let y = c.index.result.now in
    let below : task < length counts = omega (arith, c.requires i no_release c.loop-release-test.true, so_far.counted) in
    let was : x ≡ get_or counts task 0 = get_or_read counts task x below c.index_mut.ensures.value 0 in
    let is : y ≡ count_of releases task i = get_or_read counts task y below c.index.ensures 0 ∙ so_far.counts task below in
    let pushed : c.push.new.self.items ≡ indices ++ y ∷ [] = c.in_ok-push.ensures.items in
    record {
      counted = length-set counts task (x + 1) ∙ so_far.counted;
      counts = λ t l. counts_more releases counts i x _ c.loop-release-test.true below so_far.counts was t (omega (arith, l, length-set counts task (x + 1)));
      as_many = ap length pushed ∙ length_push indices y ∙ ap (λ n. n + 1) so_far.as_many;
      each = λ j h. subst (λ xs. get_or xs j 0 ≡ count_of releases (release_in releases j).task j) (sym pushed) (indices_more releases indices i y so_far.as_many is so_far.each j h);
    }

pub returns : goal.returns
returns c =
    let end : c.loop-release.release-index ≡ length c.args.releases.now = omega arith in
    indices_are c.args.tasks.now c.args.releases.now c.loop-release.indices.items (c.loop-release.invariant.as_many ∙ end)
    (λ j h. c.loop-release.invariant.each j (omega (arith, h, end)))
