-- Which release of a classic task may come after which, and which edges of its digraph lead there.
use Rattle.std.proofs.Common.{◌≡◌, ◌↔◌, ℕ, zero, suc, ◌+◌, ◌<◌, ◌≤◌, ◌⊎◌, List, [], ◌∷◌, ◌++◌, length, map, inl, inr, refl, sym, ap, ◌∙◌, subst, arith, IsSomeAnd, slice_get}
use Rattle.std.specs.Prelude.{Any}
use Rattle.std.specs.List.{range_with_len}
use Rattle.drt_model.specs.declared.tasks.Edge.{Edge}
use Rattle.drt_model.specs.declared.jobs.Release.{Release}
use Rattle.drt_model.specs.Legal.{Leads, Follows, IsReleaseOf}
use Rattle.drt_classic.specs.declared.classic.Frame.{Frame}
use Rattle.drt_classic.specs.declared.classic.Classic.{Classic}
use Rattle.drt_classic.specs.declared.classic.Classic.TheVariants.{Sporadic, Multiframe, Cyclic, Free}
use Rattle.drt_classic.specs.Classics.{frames_of, frames_of_period}
use Rattle.drt_classic.specs.ClassicLegal.{next_frame, IsApart, MayFollow, IsFrameRelease}
use Rattle.drt_classic.specs.Digraphs.{vertices_from, frame_edges, frames_after, digraph_of_classic}
use Rattle.drt_classic.proofs.SomeOf.{SomeOf, some_any, any_some, some_split, some_left, some_right, Has, range_has}

-- A vertex has the execution time of its frame.
pub frame_there : (P : ℕ → Type 0) (i : ℕ) (frames : List Frame) (k : ℕ) → IsSomeAnd (slice_get (vertices_from i frames) k) (λ v. P v.wcet) → IsSomeAnd (slice_get frames k) (λ f. P f.wcet)
unfolding vertices_from
frame_there P i [] k h = h
frame_there P i (f ∷ frames) zero h = h
frame_there P i (f ∷ frames) (suc k) h = frame_there P (i + 1) frames k h

pub vertex_there : (P : ℕ → Type 0) (i : ℕ) (frames : List Frame) (k : ℕ) → IsSomeAnd (slice_get frames k) (λ f. P f.wcet) → IsSomeAnd (slice_get (vertices_from i frames) k) (λ v. P v.wcet)
unfolding vertices_from
vertex_there P i [] k h = h
vertex_there P i (f ∷ frames) zero h = h
vertex_there P i (f ∷ frames) (suc k) h = vertex_there P (i + 1) frames k h

-- The edges from frame i to some frames.
abbrev row_of : ℕ → ℕ → List ℕ → List Edge
row_of i sep js = map (λ j. record { from = i; to = j; sep = sep }) js

-- What an edge of a row says.
record LeadsIn (i sep : ℕ) (js : List ℕ) (r s : Release) : Type 0 where
  from : i ≡ r.vertex
  to : Has s.vertex js
  apart : r.time + sep ≤ s.time

leads_in : (i sep : ℕ) (js : List ℕ) (r s : Release) → SomeOf (λ e. Leads e r s) (row_of i sep js) → LeadsIn i sep js r s
leads_in i sep [] r s h = absurd h
leads_in i sep (j ∷ js) r s (inl h) = record { from = h.0; to = inl h.1; apart = h.2 }
leads_in i sep (j ∷ js) r s (inr h) = let l = leads_in i sep js r s h in record { from = l.from; to = inr l.to; apart = l.apart }

leads_again : (i sep : ℕ) (js : List ℕ) (r s : Release) → i ≡ r.vertex → r.time + sep ≤ s.time → Has s.vertex js → SomeOf (λ e. Leads e r s) (row_of i sep js)
leads_again i sep [] r s from apart h = absurd h
leads_again i sep (j ∷ js) r s from apart (inl to) = inl (from, to, apart)
leads_again i sep (j ∷ js) r s from apart (inr h) = inr (leads_again i sep js r s from apart h)

-- Frame k of these has its separation between the releases, and leads to the second.
record Comes (after : ℕ → List ℕ) (i : ℕ) (frames : List Frame) (r s : Release) : Type 0 where
  k : ℕ
  at : r.vertex ≡ i + k
  apart : IsSomeAnd (slice_get frames k) (λ f. r.time + f.sep ≤ s.time)
  to : Has s.vertex (after r.vertex)

comes : (after : ℕ → List ℕ) (i : ℕ) (frames : List Frame) (r s : Release) → SomeOf (λ e. Leads e r s) (frame_edges after i frames) → Comes after i frames r s
unfolding frame_edges
comes after i [] r s h = absurd h
comes after i (f ∷ frames) r s h = elim (some_split (λ e. Leads e r s) (row_of i f.sep (after i)) (frame_edges after (i + 1) frames) h) [
  | inl here ↦
      let l = leads_in i f.sep (after i) r s here in
      record { k = 0; at = omega (arith, l.from); apart = l.apart; to = subst (λ v. Has s.vertex (after v)) l.from l.to }
  | inr there ↦
      let c = comes after (i + 1) frames r s there in
      record { k = suc c.k; at = omega (arith, c.at); apart = c.apart; to = c.to }
]

comes_again : (after : ℕ → List ℕ) (i : ℕ) (frames : List Frame) (r s : Release) (k : ℕ) → r.vertex ≡ i + k → IsSomeAnd (slice_get frames k) (λ f. r.time + f.sep ≤ s.time)
    → Has s.vertex (after r.vertex) → SomeOf (λ e. Leads e r s) (frame_edges after i frames)
unfolding frame_edges
comes_again after i [] r s k at apart to = absurd apart
comes_again after i (f ∷ frames) r s zero at apart to =
    let e : i ≡ r.vertex = omega (arith, at) in
    some_left (λ e. Leads e r s) (row_of i f.sep (after i)) (frame_edges after (i + 1) frames)
    (leads_again i f.sep (after i) r s e apart (subst (λ v. Has s.vertex (after v)) (sym e) to))
comes_again after i (f ∷ frames) r s (suc k) at apart to =
    some_right (λ e. Leads e r s) (row_of i f.sep (after i)) (frame_edges after (i + 1) frames)
    (comes_again after (i + 1) frames r s k (omega (arith, at)) apart to)

-- Both ways for a task whose frames are these.
apart_of : (after : ℕ → List ℕ) (frames : List Frame) (r s : Release) → Any (λ e. Leads e r s) (frame_edges after 0 frames) → IsApart frames r s × Has s.vertex (after r.vertex)
apart_of after frames r s h =
    let c = comes after 0 frames r s (some_any (λ e. Leads e r s) (frame_edges after 0 frames) h) in
    let e : c.k ≡ r.vertex = omega (arith, c.at) in
    (subst (λ k. IsSomeAnd (slice_get frames k) (λ f. r.time + f.sep ≤ s.time)) e c.apart, c.to)

edge_of : (after : ℕ → List ℕ) (frames : List Frame) (r s : Release) → IsApart frames r s → Has s.vertex (after r.vertex) → Any (λ e. Leads e r s) (frame_edges after 0 frames)
edge_of after frames r s apart to =
    any_some (λ e. Leads e r s) (frame_edges after 0 frames) (comes_again after 0 frames r s r.vertex (omega arith) apart to)

only : (j k : ℕ) → Has j (k ∷ []) → j ≡ k
only j k (inl e) = sym e
only j k (inr h) = absurd h

-- A frame of a multiframe task has the period.
period_there : (deadline period : ℕ) (wcets : List ℕ) (k : ℕ) (a b : ℕ) → IsSomeAnd (slice_get (frames_of_period deadline period wcets) k) (λ f. a + f.sep ≤ b) → a + period ≤ b
period_there deadline period [] k a b h = absurd h
period_there deadline period (w ∷ wcets) zero a b h = h
period_there deadline period (w ∷ wcets) (suc k) a b h = period_there deadline period wcets k a b h

period_again : (P : Frame → Type 0) (deadline period : ℕ) (wcets : List ℕ) (k : ℕ) (a b : ℕ) → IsSomeAnd (slice_get (frames_of_period deadline period wcets) k) P → a + period ≤ b
    → IsSomeAnd (slice_get (frames_of_period deadline period wcets) k) (λ f. a + f.sep ≤ b)
period_again P deadline period [] k a b h le = absurd h
period_again P deadline period (w ∷ wcets) zero a b h le = le
period_again P deadline period (w ∷ wcets) (suc k) a b h le = period_again P deadline period wcets k a b h le

-- A list of one element has it at place 0 alone.
first_alone : {X : Type 0} (P : X → Type 0) (x : X) (k : ℕ) → IsSomeAnd (slice_get (x ∷ []) k) P → (k ≡ 0) × P x
first_alone P x zero h = (refl, h)
first_alone P x (suc k) h = absurd h

-- A place where something is lies within the list.
within : {X : Type 0} (P : X → Type 0) (xs : List X) (k : ℕ) → IsSomeAnd (slice_get xs k) P → k < length xs
within P [] k h = absurd h
within P (x ∷ xs) zero h = omega arith
within P (x ∷ xs) (suc k) h = let lt = within P xs k h in omega (arith, lt)

-- Of two releases of a task the second may come after the first exactly where an edge of the digraph leads there.
pub step_of_edge : (p : ℕ) (t : Classic) (r s : Release) → Follows (digraph_of_classic p t) r s → MayFollow t r s
step_of_edge p (Sporadic name frame) r s h =
    let a = apart_of (frames_after (Sporadic name frame)) (frame ∷ []) r s h in
    (first_alone (λ f. r.time + f.sep ≤ s.time) frame r.vertex a.0).1
step_of_edge p (Multiframe name deadline period wcets) r s h =
    let a = apart_of (frames_after (Multiframe name deadline period wcets)) (frames_of_period deadline period wcets) r s h in
    (only s.vertex (next_frame (length wcets) r.vertex) a.1, period_there deadline period wcets r.vertex r.time s.time a.0)
step_of_edge p (Cyclic name frames) r s h =
    let a = apart_of (frames_after (Cyclic name frames)) frames r s h in
    (only s.vertex (next_frame (length frames) r.vertex) a.1, a.0)
step_of_edge p (Free name frames) r s h = (apart_of (frames_after (Free name frames)) frames r s h).0

pub edge_of_step : (p : ℕ) (t : Classic) (r s : Release) → IsFrameRelease t r → IsFrameRelease t s → MayFollow t r s → Follows (digraph_of_classic p t) r s
edge_of_step p (Sporadic name frame) r s hr hs h =
    let P = λ (v : Release) (f : Frame). (1 ≤ v.need) × (v.need ≤ f.wcet) in
    let er : r.vertex ≡ 0 = (first_alone (P r) frame r.vertex hr).0 in
    let es : s.vertex ≡ 0 = (first_alone (P s) frame s.vertex hs).0 in
    edge_of (frames_after (Sporadic name frame)) (frame ∷ []) r s (subst (λ k. IsSomeAnd (slice_get (frame ∷ []) k) (λ f. r.time + f.sep ≤ s.time)) (sym er) h) (inl (sym es))
edge_of_step p (Multiframe name deadline period wcets) r s hr hs h =
    edge_of (frames_after (Multiframe name deadline period wcets)) (frames_of_period deadline period wcets) r s
    (period_again (λ f. (1 ≤ r.need) × (r.need ≤ f.wcet)) deadline period wcets r.vertex r.time s.time hr h.1) (inl (sym h.0))
edge_of_step p (Cyclic name frames) r s hr hs h = edge_of (frames_after (Cyclic name frames)) frames r s h.1 (inl (sym h.0))
edge_of_step p (Free name frames) r s hr hs h =
    edge_of (frames_after (Free name frames)) frames r s h
    (range_has 0 (length frames) s.vertex (omega arith) (let lt = within (λ f. (1 ≤ s.need) × (s.need ≤ f.wcet)) frames s.vertex hs in omega (arith, lt)))

-- A release is one of the digraph exactly where it is one of a frame.
pub release_there : (p : ℕ) (t : Classic) (r : Release) → IsReleaseOf (digraph_of_classic p t) r → IsFrameRelease t r
release_there p t r h = frame_there (λ w. (1 ≤ r.need) × (r.need ≤ w)) 0 (frames_of t) r.vertex h

pub release_again : (p : ℕ) (t : Classic) (r : Release) → IsFrameRelease t r → IsReleaseOf (digraph_of_classic p t) r
release_again p t r h = vertex_there (λ w. (1 ≤ r.need) × (r.need ≤ w)) 0 (frames_of t) r.vertex h
