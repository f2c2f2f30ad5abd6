-- Seats are split off for workers and joined again, and the owner goes on from wave to wave.
use Rattle.std.proofs.Common.{◌≡◌, ℕ, ◌+◌, ◌/◌, ◌<◌, ◌≤◌, sym, ◌∙◌, subst, ⊎_elim, arith}
use Rattle.drt_wave.specs.declared.plan.Plan.{Plan}
use Rattle.drt_wave.specs.declared.seat.WaveSeat.{WaveSeat}
use Rattle.drt_wave.specs.declared.table.WaveTable.{WaveTable}
use Rattle.drt_wave.specs.Net.{Among}
use Rattle.drt_wave.specs.Cells.{net_of}
use Rattle.drt_wave.specs.Seats.{parts_held, draws_of, KnowsTo, IsOfTable, IsSeatKept, Turned, IsSeatCut, IsGlued, AllExpanded, HasDrawnBelow}
use Rattle.drt_wave.specs.Shifts.{IsShift, IsWaveOwner}
use Rattle.drt_wave.proofs.Going.{expanded_on, all_on, all_none, below_on}

module _ (p : Plan) where
  expanded_glued : (s other n : WaveSeat) → IsGlued s other n → AllExpanded p s → AllExpanded p other → AllExpanded p n
  expanded_glued s other n glued all others j k lt a = ⊎_elim
      (λ (l : Among (j, k / 64) (draws_of other)). expanded_on p other n ((net_of p).cell j k) glued.other_raised (others j k lt l))
      (λ (r : Among (j, k / 64) (draws_of s)). expanded_on p s n ((net_of p).cell j k) glued.raised (all j k lt r))
      (glued.no_more j (k / 64) a)

module _ (t : WaveTable) (j : ℕ) where
  -- The wave went on.
  pub shift_turned : (s n : WaveSeat) → IsShift t j s → IsOfTable t n → Turned s n → AllExpanded t.plan n → IsShift t j n
  shift_turned s n h of turned all = (
    h.0,
    record {
      of = of;
      parts = turned.parts ∙ h.1.parts;
      known = turned.known j h.1.known;
      all = all;
    },
  )

module _ (t : WaveTable) (j a waves : ℕ) where
  -- A seat is split off.
  pub owner_left : (b : ℕ) (s left right : WaveSeat) → IsWaveOwner t j a waves s → a ≡ b + 1 → 0 < b → IsOfTable t left → IsSeatCut s left right → IsWaveOwner t j b waves left
  owner_left b s left right o is some of cut = let few = o.few in let was = o.work.parts in let parts = cut.parts in record {
    work = record { of = of; parts = omega arith; known = cut.known j o.work.known; all = all_on t.plan s left cut.draws cut.raised o.work.all };
    some = some;
    few = omega arith;
    waves_are = o.waves_are;
    within = o.within;
    drawn = λ i n lt fits. subst (Among (i, n / 64)) (sym cut.draws) (o.drawn i n lt fits);
  }

  -- It is a worker's.
  pub shift_right : (s left right : WaveSeat) → IsWaveOwner t j a waves s → j < waves → IsOfTable t right → IsSeatCut s left right → IsShift t j right
  shift_right s left right o lt of cut = (
    subst (λ z. j < z) o.waves_are lt,
    record {
      of = of;
      parts = cut.right_parts;
      known = cut.right_known j o.work.known;
      all = all_none t.plan right cut.right_draws;
    },
  )

  -- A worker's seat is joined. It may have worked another wave.
  pub owner_joined : (i : ℕ) (s other n : WaveSeat) → IsWaveOwner t j a waves s → IsShift t i other → a < 1024 → IsOfTable t n → IsGlued s other n → IsWaveOwner t j (a + 1) waves n
  owner_joined i s other n o w lt of glued =
      let was = o.work.parts in let one = w.1.parts in let parts = glued.parts in
      record {
        work = record { of = of; parts = omega arith; known = glued.known j o.work.known; all = expanded_glued t.plan s other n glued o.work.all w.1.all };
        some = omega arith;
        few = omega arith;
        waves_are = o.waves_are;
        within = o.within;
        drawn = λ k m ltk fits. glued.draws k (m / 64) (o.drawn k m ltk fits);
      }

  -- The whole seat has worked the open wave, and the next one is open.
  pub owner_next : (s n : WaveSeat) → IsWaveOwner t j a waves s → 1024 ≤ a → j < waves → IsOfTable t n → parts_held n ≡ 1024 → AllExpanded t.plan n
      → HasDrawnBelow (net_of t.plan) (j + 1) n → KnowsTo (j + 1) n → IsWaveOwner t (j + 1) a waves n
  owner_next s n o whole lt of parts all drawn known = let few = o.few in record {
    work = record { of = of; parts = omega arith; known = known; all = all };
    some = o.some;
    few = o.few;
    waves_are = o.waves_are;
    within = omega arith;
    drawn = drawn;
  }

  -- The seat has read some cells.
  pub owner_kept : (s n : WaveSeat) → IsWaveOwner t j a waves s → IsOfTable t n → IsSeatKept s n → IsWaveOwner t j a waves n
  owner_kept s n o of kept = record {
    work = record { of = of; parts = kept.parts ∙ o.work.parts; known = kept.known j o.work.known; all = all_on t.plan s n kept.draws kept.raised o.work.all };
    some = o.some;
    few = o.few;
    waves_are = o.waves_are;
    within = o.within;
    drawn = below_on (net_of t.plan) s n j kept.draws o.drawn;
  }

  -- Where no wave is left the seat knows the last one as final.
  pub owner_done : (s : WaveSeat) → IsWaveOwner t j a waves s → waves ≤ j → KnowsTo (net_of t.plan).waves s
  owner_done s o end = let within = o.within in let same : j ≡ waves = omega arith in subst (λ z. KnowsTo z s) (same ∙ o.waves_are) o.work.known
