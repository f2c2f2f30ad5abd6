-- The entry of a front that has all the demand of a time, and its walk.
use Rattle.std.proofs.Common.{◌≡◌, ℕ, suc, ◌<◌, ◌≤◌, ◌⊎◌, inl, inr, Bool, true, false, cond, List, [], ◌∷◌, Some, None, length, get_or, refl, sym, ap, ◌∙◌, subst, arith}
use Rattle.std.specs.Prelude.{max, nat_le, Contains}
use Rattle.std.proofs.lemmas.Bool.{cases_lt, leb-true}
use Rattle.drt_model.specs.Digraph.{Digraph}
use Rattle.drt_graph.specs.declared.front.FrontEntry.{FrontEntry}
use Rattle.drt_graph.proofs.Paths.{work_none}
use Rattle.drt_graph.specs.FrontEntry.{due}
use Rattle.drt_graph.specs.WalkLabel.{demand_of}
use Rattle.drt_graph.proofs.WalkLabels.{parts_of}
use Rattle.drt_demand.specs.Dbf.{dbf_at}
use Rattle.drt_edf_fronts.specs.DemandWalk.{IsGreatestDue, IsDemandWalkTo}
use Rattle.drt_edf_fronts.specs.LabelFronts.{IsDemandWalk}

-- Some entry that is due by t has this work.
abbrev HasWork : Digraph → List FrontEntry → ℕ → ℕ → Type 0
HasWork g xs t n = (x : FrontEntry) × Contains xs x × (due g x ≤ t) × (x.work ≡ n)

contains_later : (x : FrontEntry) (xs : List FrontEntry) (y : FrontEntry) → Contains xs y → Contains (x ∷ xs) y
contains_later x xs y c = (suc c.0, (let l = c.1 in omega (arith, l)), c.2)

-- The demand of a time is 0, or the work of an entry that is due by then.
demand_reached : (g : Digraph) (xs : List FrontEntry) (t : ℕ) → (dbf_at g xs t ≡ 0) ⊎ HasWork g xs t (dbf_at g xs t)
demand_reached g [] t = inl refl
demand_reached g (x ∷ xs) t = go (nat_le (due g x) t) refl (cases_lt (dbf_at g xs t) x.work) (demand_reached g xs t)
  where
    value : (b : Bool) → nat_le (due g x) t ≡ b → dbf_at g (x ∷ xs) t ≡ max (cond b x.work 0) (dbf_at g xs t)
    value b e = ap (λ c. max (cond c x.work 0) (dbf_at g xs t)) e

    left : (a b : ℕ) → b < a → max a b ≡ a
    left a b l = grind arith

    right : (a b : ℕ) → a ≤ b → max a b ≡ b
    right a b l = grind arith

    on : dbf_at g (x ∷ xs) t ≡ dbf_at g xs t → (dbf_at g xs t ≡ 0) ⊎ HasWork g xs t (dbf_at g xs t) → (dbf_at g (x ∷ xs) t ≡ 0) ⊎ HasWork g (x ∷ xs) t (dbf_at g (x ∷ xs) t)
    on same (inl z) = inl (same ∙ z)
    on same (inr r) = inr (r.0, contains_later x xs r.0 r.1, r.2, r.3 ∙ sym same)

    go : (b : Bool) → nat_le (due g x) t ≡ b → (dbf_at g xs t < x.work) ⊎ (x.work ≤ dbf_at g xs t) → (dbf_at g xs t ≡ 0) ⊎ HasWork g xs t (dbf_at g xs t)
        → (dbf_at g (x ∷ xs) t ≡ 0) ⊎ HasWork g (x ∷ xs) t (dbf_at g (x ∷ xs) t)
    go true e (inl l) rest = inr (x, (0, omega arith, refl), leb-true (due g x) t e, sym (value true e ∙ left x.work (dbf_at g xs t) l))
    go true e (inr l) rest = on (value true e ∙ right x.work (dbf_at g xs t) l) rest
    go false e l rest = on (value false e ∙ right 0 (dbf_at g xs t) (omega arith)) rest

-- No entry up to a place is due by t with all the demand.
abbrev pub HaveLess : Digraph → List FrontEntry → ℕ → ℕ → Type 0
HaveLess g front t i = (k : ℕ) (d : FrontEntry) → k < i → due g (get_or front k d) ≤ t → (get_or front k d).work ≡ dbf_at g front t → ⊥

-- Where none is, the demand is 0.
pub none_due : (g : Digraph) (front : List FrontEntry) (t i : ℕ) → length front ≤ i → HaveLess g front t i → dbf_at g front t ≡ 0
none_due g front t i all less = go (demand_reached g front t)
  where
    go : (dbf_at g front t ≡ 0) ⊎ HasWork g front t (dbf_at g front t) → dbf_at g front t ≡ 0
    go (inl z) = z
    go (inr r) =
        let c = r.1 in
        let at = c.2 in
        let l : c.0 < i = (let m = c.1 in omega (arith, m, all)) in
        absurd (less c.0 r.0 l (subst (λ (x : FrontEntry). due g x ≤ t) (sym at) r.2) (ap (λ (x : FrontEntry). x.work) at ∙ r.3))

-- The walk of the entry that has all the demand.
pub some_walk : (g : Digraph) (front : List FrontEntry) (t : ℕ) (last : FrontEntry) → IsGreatestDue g front t (Some last) → (walk : List ℕ) → IsDemandWalkTo g last walk → IsDemandWalk g front t walk
some_walk g front t last is [] w = absurd w
some_walk g front t last is (u ∷ others) w =
    let near : due g (demand_of g u others) ≤ t = subst (λ x. due g x ≤ t) w.is is.1 in
    record { walk_is = (w.is_vertex, w.path); due = omega (arith, near); all = sym (parts_of w).works ∙ is.2 }

-- No walk, where there is no demand.
pub no_walk : (g : Digraph) (front : List FrontEntry) (t : ℕ) → IsGreatestDue g front t None → IsDemandWalk g front t []
no_walk g front t is = record { walk_is = tt; due = omega arith; all = work_none g ∙ sym is }
