-- One worker's run of the search of p(1,1), q(2,1), m(1,1) with the edges p-m 1, q-m 1, m-m 3 up to the bound 5: labels of walks, which covers
-- which, and the front.
use Rattle.std.proofs.Common.{◌≡◌, ℕ, List, [], ◌∷◌, ◌++◌, Option, Some, None, false, true, length, refl, sym, ap, subst, lit<}
use Rattle.drt_graph.specs.declared.front.FrontEntry.{FrontEntry}
use Rattle.drt_demand.specs.Demand.{entry_dominates, demand_algebra}
use Rattle.drt_demand.specs.Laws.{demand_laws}
use Rattle.drt_table.specs.Cover.{IsFront, IsNonDominated}
use Rattle.drt_table.specs.Machine.{Setting, State, CanStep, IsRun, IsRunFrom, replay, replay_from, is_finished, step_of, opening_state}
use Rattle.drt_table.specs.Node.{NodeOf, is_held_by, is_taken_by}
use Rattle.drt_worklist.specs.Places.{first}
use Rattle.drt_table.specs.Walk.{IsWalkOf}
use Rattle.drt_table.specs.declared.node.NodeState.TheVariants.{Pending, Taken as TakenBy, Done}
use Rattle.drt_table.specs.declared.step.Entry.{Entry}
use Rattle.drt_table.specs.declared.step.TableReply.TheVariants.{Spent}
use Rattle.drt_table.specs.declared.step.TableStep.TheVariants.{Take, Offer, Close}
use Rattle.drt_table.proofs.Finished.{run_front}
use Rattle.drt_worklist.proofs.Lists.{none_found}
use Rattle.drt_table.proofs.Runs.{run_keeps}
use Rattle.drt_rows.specs.Row.{graph, setting, by, kept_labels}

abbrev pub label : ℕ → ℕ → ℕ → FrontEntry
label v o w = record { vertex = v; offset = o; work = w }

-- The walk q m has the label (m, 1, 3), and its last job is due within 5.
pub walk_qm : IsWalkOf demand_algebra setting (1 ∷ 2 ∷ []) (label 2 1 3)
walk_qm = (0, label 1 0 2, (lit< tt, refl, refl), lit< tt, refl, refl, refl)

-- It covers the label (m, 1, 2) of p m and (m, 3, 2) of m m, and not (m, 0, 1) of m, which is earlier.
pub covers_pm : entry_dominates (label 2 1 3) (label 2 1 2) ≡ true
covers_pm = refl

pub covers_mm : entry_dominates (label 2 1 3) (label 2 3 2) ≡ true
covers_mm = refl

pub not_earlier : entry_dominates (label 2 1 3) (label 2 0 1) ≡ false
not_earlier = refl

-- The worker takes a node, offers its one edge and closes it.
abbrev pub turn : ℕ → List Entry
turn id = by 0 Take ∷ by 0 (Offer id 0) ∷ by 0 (Close id) ∷ []

-- The run: nodes 0, 1, 2 are (p, 0, 1), (q, 0, 2), (m, 0, 1).
abbrev pub log : List Entry
log = turn 0 ++ (turn 1 ++ (turn 2 ++ (turn 4 ++ turn 5)))

-- A worker that holds no node may take.
may_take : (t : Setting) (s : State FrontEntry) → first (is_held_by 0) s.nodes ≡ None → CanStep demand_algebra t s 0 Take
may_take t s e id n at held =
    let none : is_held_by 0 n ≡ false = none_found (is_held_by 0) s.nodes e id n at in
    let one : is_held_by 0 n ≡ true = ap (is_taken_by 0) held in
    absurd (cc)

-- Nodes that wait, that the worker has taken, and that are done with their one edge offered.
abbrev waiting : FrontEntry → Option ℕ → NodeOf FrontEntry
waiting l parent = record { label = l; parent = parent; offered = 0; state = Pending; dropped_by = None }

abbrev taken : FrontEntry → Option ℕ → ℕ → NodeOf FrontEntry
taken l parent offered = record { label = l; parent = parent; offered = offered; state = TakenBy 0; dropped_by = None }

abbrev done : FrontEntry → Option ℕ → NodeOf FrontEntry
done l parent = record { label = l; parent = parent; offered = 1; state = Done; dropped_by = None }

-- The node of p m is dropped by that of q m.
abbrev dropped : NodeOf FrontEntry
dropped = record { label = label 2 1 2; parent = Some 0; offered = 0; state = Done; dropped_by = Some 4 }

-- The states between the turns.
abbrev start : State FrontEntry
start = record { nodes = waiting (label 0 0 1) None ∷ waiting (label 1 0 2) None ∷ waiting (label 2 0 1) None ∷ []; log = [] }

abbrev after_p : State FrontEntry
after_p = record {
  nodes = done (label 0 0 1) None ∷ waiting (label 1 0 2) None ∷ waiting (label 2 0 1) None ∷ waiting (label 2 1 2) (Some 0) ∷ [];
  log = turn 0;
}

abbrev after_q : State FrontEntry
after_q = record {
  nodes = done (label 0 0 1) None ∷ done (label 1 0 2) None ∷ waiting (label 2 0 1) None ∷ dropped ∷ waiting (label 2 1 3) (Some 1) ∷ [];
  log = turn 0 ++ turn 1;
}

abbrev after_m : State FrontEntry
after_m = record {
  nodes = done (label 0 0 1) None ∷ done (label 1 0 2) None ∷ done (label 2 0 1) None ∷ dropped ∷ waiting (label 2 1 3) (Some 1) ∷ [];
  log = turn 0 ++ (turn 1 ++ turn 2);
}

abbrev after_qm : State FrontEntry
after_qm = record {
  nodes = done (label 0 0 1) None ∷ done (label 1 0 2) None ∷ done (label 2 0 1) None ∷ dropped ∷ done (label 2 1 3) (Some 1) ∷ waiting (label 2 4 4) (Some 4) ∷ [];
  log = turn 0 ++ (turn 1 ++ (turn 2 ++ turn 4));
}

-- A run, and another from where it ends, are one.
joined : (s end : State FrontEntry) (es fs : List Entry) → IsRunFrom demand_algebra setting s es → replay_from demand_algebra setting s es ≡ end
    → IsRunFrom demand_algebra setting end fs → IsRunFrom demand_algebra setting s (es ++ fs)
joined s end [] fs run e more = subst (λ x. IsRunFrom demand_algebra setting x fs) (sym e) more
joined s end (e ∷ es) fs run is more =
    (run.0, run.1, joined (step_of demand_algebra setting s e.worker e.step).state end es fs run.2 is more)

turn_p : IsRunFrom demand_algebra setting start (turn 0)
turn_p = (
  may_take setting start refl,
  refl,
  (
    (taken (label 0 0 1) None 0, record { at = refl; held = refl }, refl, lit< tt),
    refl,
    ((taken (label 0 0 1) None 1, record { at = refl; held = refl }, refl), refl, tt),
  ),
)

turn_q : IsRunFrom demand_algebra setting after_p (turn 1)
turn_q = (
  may_take setting after_p refl,
  refl,
  (
    (taken (label 1 0 2) None 0, record { at = refl; held = refl }, refl, lit< tt),
    refl,
    ((taken (label 1 0 2) None 1, record { at = refl; held = refl }, refl), refl, tt),
  ),
)

turn_m : IsRunFrom demand_algebra setting after_q (turn 2)
turn_m = (
  may_take setting after_q refl,
  refl,
  (
    (taken (label 2 0 1) None 0, record { at = refl; held = refl }, refl, lit< tt),
    refl,
    ((taken (label 2 0 1) None 1, record { at = refl; held = refl }, refl), refl, tt),
  ),
)

turn_qm : IsRunFrom demand_algebra setting after_m (turn 4)
turn_qm = (
  may_take setting after_m refl,
  refl,
  (
    (taken (label 2 1 3) (Some 1) 0, record { at = refl; held = refl }, refl, lit< tt),
    refl,
    ((taken (label 2 1 3) (Some 1) 1, record { at = refl; held = refl }, refl), refl, tt),
  ),
)

turn_qmm : IsRunFrom demand_algebra setting after_qm (turn 5)
turn_qmm = (
  may_take setting after_qm refl,
  refl,
  (
    (taken (label 2 4 4) (Some 4) 0, record { at = refl; held = refl }, refl, lit< tt),
    refl,
    ((taken (label 2 4 4) (Some 4) 1, record { at = refl; held = refl }, refl), refl, tt),
  ),
)

-- Each step meets its conditions and is logged.
pub run_is : IsRun demand_algebra setting log
run_is =
    joined start after_p (turn 0) (turn 1 ++ (turn 2 ++ (turn 4 ++ turn 5))) turn_p refl
    (joined after_p after_q (turn 1) (turn 2 ++ (turn 4 ++ turn 5)) turn_q refl
    (joined after_q after_m (turn 2) (turn 4 ++ turn 5) turn_m refl
    (joined after_m after_qm (turn 4) (turn 5) turn_qm refl turn_qmm)))

-- It finishes: no node is pending and none is taken.
pub run_finishes : is_finished demand_algebra setting (replay demand_algebra setting log) ≡ true
run_finishes = refl

-- The kept labels.
pub kept_are : kept_labels (replay demand_algebra setting log) ≡ label 0 0 1 ∷ label 1 0 2 ∷ label 2 0 1 ∷ label 2 1 3 ∷ label 2 4 4 ∷ []
kept_are = refl

-- They are the front: exactly the labels of walks due within 5 that no other one covers.
pub front_is : IsFront demand_algebra setting (replay demand_algebra setting log).nodes
front_is = run_front demand_algebra demand_laws setting refl (replay demand_algebra setting log) (run_keeps demand_algebra demand_laws setting log run_is) run_finishes

-- So no other label covers (m, 4, 4), that of q m m.
pub last_is_alone : IsNonDominated demand_algebra setting (label 2 4 4)
last_is_alone = front_is.sound 5 (done (label 2 4 4) (Some 4)) (record { at = refl; kept = refl })

-- The same search with a budget of 1.
abbrev pub tight : Setting
tight = record { graph = graph; bound = 5; budget = 1 }

-- With a budget of 1 the first step spends it: the log has one entry, the search isn't finished, and the next step is refused.
abbrev pub spent : State FrontEntry
spent = replay demand_algebra tight (by 0 Take ∷ [])

pub spent_is_run : IsRun demand_algebra tight (by 0 Take ∷ [])
spent_is_run = (may_take tight (opening_state demand_algebra tight) refl, refl, tt)

pub spent_log : length spent.log ≡ 1
spent_log = refl

pub spent_unfinished : is_finished demand_algebra tight spent ≡ false
spent_unfinished = refl

pub spent_reply : (step_of demand_algebra tight spent 0 (Offer 0 0)).reply ≡ Spent
spent_reply = refl
