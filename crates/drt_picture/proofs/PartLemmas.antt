-- The parts of time that a picture shows, as a walk over what happens makes them.
use Rattle.std.proofs.Common.{refl, ◌≡◌, ℕ, ◌+◌, ◌-◌, ◌/◌, ◌<◌, ◌≤◌, ◌⊎◌, inl, inr, List, [], ◌∷◌}
use Rattle.std.proofs.Common.{◌++◌, length, get_or, max, subst, sym, arith, length-append, IsPermutation}
use Rattle.std.specs.Prelude.{All}
use Rattle.std.specs.List.Sorted.{IsNonDecreasingBy}
use Rattle.std.proofs.lemmas.Bool.{cases_lt}
use Rattle.std.proofs.lemmas.List.Elements.{All-nil, All-push}
use Rattle.std.proofs.lemmas.List.Sorted.{All-permutation, IsPermutation-sym}
use Rattle.std.proofs.Math.Seq.{get_or-append_seam}
use Rattle.drt_model.specs.Legal.{AllNeighbours}
use Rattle.drt_model.proofs.Neighbours.{AllNeighbours-nil}
use Rattle.drt_picture.specs.declared.moments.Moment.{Moment}
use Rattle.drt_picture.specs.declared.scale.Part.{Part}
use Rattle.drt_picture.specs.Moments.{IsBesideGap, IsGap, IsPart, IsMomentWithin}
use Rattle.drt_picture.proofs.Orders.{neighbours_push, neighbours_weaker}
use Rattle.drt_picture.proofs.ReachLemmas.{BeginsAt, begins_more}

-- The part that isn't closed yet, as far as a cut before it tells it.
abbrev pub open_at : ℕ → Part
open_at start = record { start = start; end = start }

-- After i moments: they end by `reached`, and there are cuts between the parts so far and between the last of them and the open one.
pub record IsSoFar (moments : List Moment) (from until i start reached : ℕ) (parts : List Part) : Type 0 where
  pub passed : (k : ℕ) (d : Moment) → k < i → (get_or moments k d).end ≤ reached
  pub in_time : reached ≤ until
  pub started : start ≤ reached
  pub few : length parts ≤ 16
  pub each : All (IsPart until) parts
  pub begins : BeginsAt from start parts
  pub cuts : AllNeighbours (IsGap moments) parts
  pub last : (k : ℕ) (d : Part) → k + 1 ≡ length parts → IsGap moments (get_or parts k d) (open_at start)

pub so_far_none : (moments : List Moment) (until from : ℕ) → from ≤ until → IsSoFar moments from until 0 from from []
so_far_none moments until from h = record {
  passed = λ k d l. absurd (omega arith);
  in_time = h;
  started = omega arith;
  few = omega arith;
  each = All-nil (IsPart until);
  begins = refl;
  cuts = AllNeighbours-nil (IsGap moments);
  last = λ k d e. absurd (omega arith);
}

-- What ended by then ends by a later time, and the next moment too.
passed_more : (moments : List Moment) (i reached : ℕ) (m : Moment) → ((d : Moment) → m ≡ get_or moments i d) → ((k : ℕ) (d : Moment) → k < i → (get_or moments k d).end ≤ reached)
    → (k : ℕ) (d : Moment) → k < i + 1 → (get_or moments k d).end ≤ max reached m.end
passed_more moments i reached m is passed k d l = go (cases_lt k i)
  where
    go : (k < i) ⊎ (i ≤ k) → (get_or moments k d).end ≤ max reached m.end
    go (inl q) = omega (arith, passed k d q)
    go (inr q) = (let e : i ≡ k = omega arith in
        subst (λ (j : ℕ). (get_or moments j d).end ≤ max reached m.end) e (subst (λ (n : Moment). n.end ≤ max reached m.end) (is d) (omega arith)))

-- The next moment comes soon.
pub so_far_more : (moments : List Moment) (from until i start reached : ℕ) (parts : List Part) (m : Moment) → ((d : Moment) → m ≡ get_or moments i d)
    → IsMomentWithin from until m → IsSoFar moments from until i start reached parts → IsSoFar moments from until (i + 1) start (max reached m.end) parts
so_far_more moments from until i start reached parts m is within h = record {
  passed = passed_more moments i reached m is h.passed;
  in_time = omega (arith, within.in_time, h.in_time);
  started = omega (arith, h.started);
  few = h.few;
  each = h.each;
  begins = h.begins;
  cuts = h.cuts;
  last = h.last;
}

-- The next moment is far.
pub so_far_cut : (moments : List Moment) (from until i start reached longest : ℕ) (parts : List Part) (m : Moment) → ((d : Moment) → m ≡ get_or moments i d)
    → i < length moments → IsNonDecreasingBy (λ m. m.start) moments → IsMomentWithin from until m → length parts < 16 → reached + longest < m.start
    → IsSoFar moments from until i start reached parts
    → IsSoFar moments from until (i + 1) (m.start - longest / 2) (max reached m.end) (parts ++ record { start = start; end = reached + longest / 2 } ∷ [])
so_far_cut moments from until i start reached longest parts m is here order within few far h =
    let half : longest / 2 + longest / 2 ≤ longest = omega arith in
    record {
      passed = passed_more moments i reached m is h.passed;
      in_time = omega (arith, within.in_time, h.in_time);
      started = omega (arith, within.some);
      few = omega (arith, length-append parts (record { start = start; end = reached + longest / 2 } ∷ []));
      each = All-push (IsPart until) parts (record { start = start; end = reached + longest / 2 }) h.each
          (record { ordered = omega (arith, h.started); in_time = omega (arith, within.some, within.in_time) });
      begins = begins_more from start (reached + longest / 2) (m.start - longest / 2) parts h.begins;
      cuts = neighbours_push (IsGap moments) parts (record { start = start; end = reached + longest / 2 }) h.cuts h.last;
      last = λ k d e. last k d (omega (arith, length-append parts (record { start = start; end = reached + longest / 2 } ∷ [])));
    }
  where
    closed : Part
    closed = record { start = start; end = reached + longest / 2 }

    clear : (k : ℕ) (d : Moment) → k < length moments → IsBesideGap (record { start = start; end = reached + longest / 2 }) (open_at (m.start - longest / 2)) (get_or moments k d)
    clear k d l = go (cases_lt k i)
      where
        go : (k < i) ⊎ (i ≤ k) → IsBesideGap (record { start = start; end = reached + longest / 2 }) (open_at (m.start - longest / 2)) (get_or moments k d)
        go (inl q) = inl (omega (arith, h.passed k d q))
        go (inr q) = (let rise = order i k d q l in
            let rise' = subst (λ (n : Moment). n.start ≤ (get_or moments k d).start) (sym (is d)) rise in
            inr (omega (arith, rise')))

    last : (k : ℕ) (d : Part) → k ≡ length parts → IsGap moments (get_or (parts ++ record { start = start; end = reached + longest / 2 } ∷ []) k d) (open_at (m.start - longest / 2))
    last k d e = rw (e, get_or-append_seam parts (record { start = start; end = reached + longest / 2 }) [] d) (omega arith, clear)

-- Behind the last moment the open part is closed.
pub so_far_all : (moments : List Moment) (from until i start reached : ℕ) (parts : List Part) → IsSoFar moments from until i start reached parts
    → AllNeighbours (IsGap moments) (parts ++ record { start = start; end = until } ∷ [])
so_far_all moments from until i start reached parts h = neighbours_push (IsGap moments) parts (record { start = start; end = until }) h.cuts h.last

-- A cut between parts is the same for the same moments in another order.
pub cuts_of_all : (all moments : List Moment) (parts : List Part) → IsPermutation all moments → AllNeighbours (IsGap moments) parts → AllNeighbours (IsGap all) parts
cuts_of_all all moments parts perm h =
    neighbours_weaker (IsGap moments) (IsGap all) parts (λ p q cut. (cut.0, All-permutation (IsBesideGap p q) moments all (IsPermutation-sym all moments perm) cut.1)) h
