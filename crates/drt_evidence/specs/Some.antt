-- Some value in range of each kind that has a block.
use Rattle.std.specs.Prelude.{ℕ, List, []}
use Rattle.drt_model.specs.declared.jobs.Release.{Release}
use Rattle.drt_claims.specs.Ranges.{IsInRangeCurve, IsInRangeEntry, IsInRangeFront, IsInRangePair, IsInRangeProof, IsInRangeRatio, IsInRangeRelease}
use Rattle.drt_claims.specs.Ranges.{IsInRangeSearch, IsInRangeState, IsInRangeTail, IsInRangeTree, IsInRangeWalk}
use Rattle.drt_evidence.specs.Cuts.{IsSpaced, entry_form, jump_form}
use Rattle.drt_graph.specs.declared.front.FrontEntry.{FrontEntry}
use Rattle.drt_claims.specs.declared.evidence.Pair.{Pair}
use Rattle.drt_claims.specs.declared.evidence.ProofClaim.{ProofClaim}
use Rattle.drt_rates.specs.declared.ratio_claim.RatioClaim.{RatioClaim}
use Rattle.drt_claims.specs.declared.evidence.TreeClaim.{TreeClaim}
use Rattle.drt_states.specs.declared.claims.Jump.{Jump}
use Rattle.drt_states.specs.declared.claims.SearchClaim.{SearchClaim}
use Rattle.drt_states.specs.declared.claims.StateClaim.{StateClaim}
use Rattle.drt_states.specs.declared.claims.StateEnd.TheVariants.{Passes}
use Rattle.drt_states.specs.declared.claims.StateEntry.{StateEntry}
use Rattle.drt_states.specs.declared.claims.TailClaim.{TailClaim}
use Rattle.std.proofs.Common.{lit≤, refl, ◌++◌}
use Rattle.std.proofs.lemmas.List.Elements.{All-nil}

pub some_entry : (x : FrontEntry) × IsInRangeEntry x
some_entry = (record { vertex = 0; offset = 0; work = 0 }, record { vertex = lit≤ tt; offset = lit≤ tt; work = lit≤ tt })

pub some_front : (x : List FrontEntry) × IsInRangeFront x
some_front = ([], (All-nil IsInRangeEntry, lit≤ tt))

pub some_release : (x : Release) × IsInRangeRelease x
some_release = (record { task = 0; vertex = 0; time = 0; need = 0 }, record { task = lit≤ tt; vertex = lit≤ tt; time = lit≤ tt; need = lit≤ tt })

pub some_walk : (x : List ℕ) × IsInRangeWalk x
some_walk = ([], (All-nil _, lit≤ tt))

pub some_pair : (x : Pair) × IsInRangePair x
some_pair = (record { left = 0; right = 0 }, (lit≤ tt, lit≤ tt))

pub some_ratio : (x : RatioClaim) × IsInRangeRatio x
some_ratio = (
  record { num = 0; den = 1; cycle = []; potentials = [] },
  record { num = lit≤ tt; some = lit≤ tt; den = lit≤ tt; cycle = All-nil _; cycle_counted = lit≤ tt; potentials = All-nil _; potentials_counted = lit≤ tt },
)

pub some_tree : (x : TreeClaim) × IsInRangeTree x
some_tree = (
  record { walks = []; pairs = [] },
  record { walks = All-nil _; walks_counted = lit≤ tt; pairs = All-nil _; pairs_counted = lit≤ tt },
)

pub some_proof : (x : ProofClaim) × IsInRangeProof x
some_proof = (
  record { task = 0; vertex = 0; items = [] },
  record { task = lit≤ tt; vertex = lit≤ tt; items = All-nil _; counted = lit≤ tt },
)

pub some_curve : (x : List Jump) × IsInRangeCurve x
some_curve = ([], (All-nil _, lit≤ tt))

pub some_tail : (x : TailClaim) × IsInRangeTail x
some_tail = (record { curves = [] }, (All-nil _, lit≤ tt))

pub some_state : (x : StateClaim) × IsInRangeState x
some_state = (record { entries = []; work = 0; end = Passes 0 }, record { entries = All-nil _; counted = lit≤ tt; work = lit≤ tt; end = lit≤ tt })

pub some_search : (x : SearchClaim) × IsInRangeSearch x
some_search = (
  record { task = 0; vertex = 0; states = [] },
  record { task = lit≤ tt; vertex = lit≤ tt; states = All-nil _; counted = lit≤ tt },
)

-- The fields of a jump and of an entry begin with a space.
pub jump_spaced : (j : Jump) (t : List ℕ) → IsSpaced (jump_form j ++ t)
jump_spaced j t = refl

pub entry_spaced : (e : StateEntry) (t : List ℕ) → IsSpaced (entry_form e ++ t)
entry_spaced e t = refl
