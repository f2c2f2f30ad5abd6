use Rattle.std.proofs.Common.{◌≡◌, ℕ, ◌≤◌, ◌++◌, List, length, take, drop, sym, ap, ◌∙◌, subst, arith}
use Rattle.std.proofs.Math.Seq.{take-append_seam}
use Rattle.drt_pool.specs.Turns.{EachPlace}
use Rattle.drt_wave.specs.Openers.{IsOpener}
use Rattle.drt_wave.specs.declared.opening.Opener.{Opener}
use Rattle.drt_wave.proofs.opening.open_together.Goals as goal

-- what is written back is what the workers left
left_by_workers : {A : Type 0} (n : ℕ) (xs ys : List A) → length xs ≡ n → take n (xs ++ ys) ≡ xs
left_by_workers n xs ys long = subst (λ m. take m (xs ++ ys) ≡ xs) long (take-append_seam xs ys)

few_openers : (m n workers : ℕ) → m ≡ n → n ≡ workers → workers ≤ 16 → m ≤ 16
few_openers m n workers same count few = omega arith

pub run_all-requires-clause-count : goal.run_all-requires-clause-count
run_all-requires-clause-count g c κs within = few_openers _ _ _ (ap length c.as_mut_slice.ensures.value) c.in_ok-openers.ensures.count c.requires.workers

pub run_all-requires-clause-fits : goal.run_all-requires-clause-fits
run_all-requires-clause-fits g c κs within i d lt =
    let each = subst (λ (xs : List Opener). EachPlace (λ (place : ℕ) (opener : Opener). IsOpener c.args.plan.now opener) xs) (sym c.as_mut_slice.ensures.value) c.in_ok-openers.ensures.each in
    each i d lt

pub collect_lanes-requires-clause-each : goal.collect_lanes-requires-clause-each
collect_lanes-requires-clause-each g c =
    let passes : List Opener = c.run_all.new.passes in
    let given : List Opener = c.in_ok-openers.openers.items in
    let long : length passes ≡ length given = c.run_all.ensures.count ∙ ap length c.as_mut_slice.ensures.value in
    let same : take c.in_ok-openers.openers.len (passes ++ drop (length passes) given) ≡ passes =
    left_by_workers c.in_ok-openers.openers.len passes (drop (length passes) given) (long ∙ sym c.in_ok-openers.openers.ok.0) in
    subst (λ (xs : List Opener). EachPlace (λ (place : ℕ) (opener : Opener). IsOpener c.args.plan.now opener) xs) (sym same) (λ i d lt. c.run_all.ensures.fits i d lt)
