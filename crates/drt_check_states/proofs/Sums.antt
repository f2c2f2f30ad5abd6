-- What the places ask for, place by place, and the greatest value of some functions.
use Rattle.std.proofs.Common.{◌≡◌, ℕ, zero, suc, ◌+◌, ◌<◌, ◌≤◌, max, All, List, [], ◌∷◌, length, get_or, drop, refl, sym, ap, arith, ◌∙◌}
use Rattle.std.specs.Prelude.{Some, None}
use Rattle.std.proofs.lemmas.Bool.{cond-false, cond-true}
use Rattle.std.proofs.lemmas.List.{drop_more, drop_all}
use Rattle.drt_states.specs.States.{asked_from, asked_of, entry_at}
use Rattle.drt_states.specs.Tails.{EachTail, IsTail, Place, greatest_before, last_work, value_before}
use Rattle.drt_states.specs.declared.claims.Jump.{Jump}
use Rattle.drt_states.specs.declared.claims.StateEntry.{StateEntry}
use Rattle.drt_states.specs.declared.claims.TailClaim.{TailClaim}
use Rattle.drt_check_states.specs.Curves.{HasRisingCurves}
use Rattle.drt_check_states.proofs.Cuts.{equal, unequal}
use Rattle.drt_check_states.proofs.Zips.{zip_at, zip_long}

-- One more place.
pub asked_more : (tails : List TailClaim) (entries : List StateEntry) (t i : ℕ) (x : TailClaim) → i < length tails → x ≡ get_or tails i x
    → asked_from i (drop i tails) entries t ≡ asked_of x (entry_at entries i) t + asked_from (i + 1) (drop (i + 1) tails) entries t
unfolding asked_from
asked_more tails entries t i x l at =
    ap (λ (ts : List TailClaim). asked_from i ts entries t) (drop_more tails i x l)
    ∙ ap (λ (y : TailClaim). asked_of y (entry_at entries i) t + asked_from (i + 1) (drop (i + 1) tails) entries t) (sym at)

pub asked_end : (tails : List TailClaim) (entries : List StateEntry) (t i : ℕ) → length tails ≤ i → asked_from i (drop i tails) entries t ≡ 0
unfolding asked_from
asked_end tails entries t i l = ap (λ (ts : List TailClaim). asked_from i ts entries t) (drop_all i tails l)

-- One more function.
pub greatest_more : (curves : List (List Jump)) (t i : ℕ) (x : List Jump) → i < length curves → x ≡ get_or curves i x
    → greatest_before (drop i curves) t ≡ max (value_before x t) (greatest_before (drop (i + 1) curves) t)
unfolding greatest_before
greatest_more curves t i x l at =
    ap (λ (cs : List (List Jump)). greatest_before cs t) (drop_more curves i x l) ∙ ap (λ (y : List Jump). max (value_before y t) (greatest_before (drop (i + 1) curves) t)) (sym at)

pub greatest_end : (curves : List (List Jump)) (t i : ℕ) → length curves ≤ i → greatest_before (drop i curves) t ≡ 0
unfolding greatest_before
greatest_end curves t i l = ap (λ (cs : List (List Jump)). greatest_before cs t) (drop_all i curves l)

-- A vertex without a function asks for nothing.
pub none_past : (curves : List (List Jump)) (v t : ℕ) → length curves ≤ v → 0 ≡ value_before (get_or curves v []) t
unfolding last_work
none_past [] v t l = refl
none_past (jumps ∷ curves) zero t l = absurd (omega arith)
none_past (jumps ∷ curves) (suc v) t l = none_past curves v t (omega arith)

-- The entry at a place, entry by entry.
pub entry_here : (entries : List StateEntry) (place k : ℕ) (d : StateEntry) → k < length entries → (get_or entries k d).place ≡ place → entry_at (drop k entries) place ≡ Some (get_or entries k d)
unfolding entry_at
entry_here entries place k d l e =
    ap (λ (es : List StateEntry). entry_at es place) (drop_more entries k d l)
    ∙ cond-true _ (Some (get_or entries k d)) (entry_at (drop (k + 1) entries) place) (equal (get_or entries k d).place place e)

pub entry_later : (entries : List StateEntry) (place k : ℕ) (d : StateEntry) → k < length entries → ((get_or entries k d).place ≡ place → ⊥)
    → entry_at (drop k entries) place ≡ entry_at (drop (k + 1) entries) place
unfolding entry_at
entry_later entries place k d l e =
    ap (λ (es : List StateEntry). entry_at es place) (drop_more entries k d l)
    ∙ cond-false _ (Some (get_or entries k d)) (entry_at (drop (k + 1) entries) place) (unequal (get_or entries k d).place place e)

pub entry_end : (entries : List StateEntry) (place k : ℕ) → length entries ≤ k → entry_at (drop k entries) place ≡ None
unfolding entry_at
entry_end entries place k l = ap (λ (es : List StateEntry). entry_at es place) (drop_all k entries l)

-- The functions of tails rise.
pub tails_rise : (places : List Place) (tails : List TailClaim) → EachTail IsTail places tails → All HasRisingCurves tails
tails_rise places tails each k d l =
    let first : Place = record { graph = record { vertices = []; out = [] }; bound = 0 } in
    let long = zip_long (λ (p : Place) (tail : TailClaim). IsTail p.bound p.graph tail) places tails each in
    let is = zip_at (λ (p : Place) (tail : TailClaim). IsTail p.bound p.graph tail) places tails k first d each (omega arith) in
    λ i e m. (is.each i e m).rising
