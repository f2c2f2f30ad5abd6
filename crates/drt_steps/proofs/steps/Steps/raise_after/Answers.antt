use Rattle.std.proofs.Common.{◌≡◌, ℕ, ◌+◌, ◌<◌, ◌≤◌, length, List, [], ◌++◌, ◌∷◌, sym, ap, ◌∙◌, subst, arith, IfOk}
use Rattle.drt_steps.specs.declared.jump.Jump.{Jump}
use Rattle.drt_steps.specs.declared.rises.Rises.{Rises}
use Rattle.drt_steps.specs.Values.{raise, value_at}
use Rattle.drt_steps.specs.Jumps.{total_rise, values, AreKept, AreMarks, IsPlaceReached, up_to, past}
use Rattle.drt_steps.proofs.Jumps.{raise_out, base_raised}
use Rattle.drt_steps.proofs.Kept.{long, top, base_kept, placed_kept, placed_is}
use Rattle.drt_steps.proofs.Behind.{behind_kept, behind_is}
use Rattle.drt_steps.proofs.Samples.{marks_small}
use Rattle.drt_steps.proofs.steps.Steps.raise_after.Goals as goal

pub returns-then-offset-self : goal.returns-then-offset-self
returns-then-offset-self c =
    let n : c.self.inside.bound ≡ length c.args.self.now = long c.self.inside.bound c.self.inside.base c.self.inside.rises.value.jumps.items c.args.self.now c.self.view_is in
    let e : raise c.args.offset c.args.work c.args.self.now ≡ c.args.self.now = raise_out c.args.offset c.args.work c.args.self.now (omega (arith, c.if-offset-self.true)) in
    subst (λ (xs : List ℕ). IfOk c.copy.result (λ s. s ≡ xs)) (sym e) c.copy.ensures

pub raised_marks-marks-requires-clause-marks : goal.raised_marks-marks-requires-clause-marks
raised_marks-marks-requires-clause-marks c = marks_small c.self.inside.bound c.self.inside.base c.self.inside.rises.value.jumps.items c.self.inside.marks c.self.invariant.0.kept c.self.invariant.1

pub raised_marks-marks-requires-clause-work : goal.raised_marks-marks-requires-clause-work
raised_marks-marks-requires-clause-work c =
    let n : ℕ = c.self.inside.bound in
    let is : n ≡ length c.args.self.now = long n c.self.inside.base c.self.inside.rises.value.jumps.items c.args.self.now c.self.view_is in
    let small : value_at c.args.self.now n + c.args.work ≤ 1000000000000 = c.requires n c.if-offset-self.false (omega arith) in
    omega (arith, small)

pub from_marked-requires-clause-kept : goal.from_marked-requires-clause-kept
from_marked-requires-clause-kept c =
    let n : ℕ = c.self.inside.bound in
    let js : List Jump = c.self.inside.rises.value.jumps.items in
    let is : n ≡ length c.args.self.now = long n c.self.inside.base js c.args.self.now c.self.view_is in
    let t : value_at c.args.self.now n ≡ c.self.inside.base + total_rise js = top n c.self.inside.base js c.args.self.now c.self.view_is c.self.invariant.0.kept in
    let from : 1 ≤ n = c.self.invariant.0.kept.from in
    let small : value_at c.args.self.now n + c.args.work ≤ 1000000000000 = c.requires n (omega (arith, c.if-offset-eq0.true)) (omega arith) in
    let e : js ≡ c.in_ok-jumps.jumps.items = sym (c.in_ok-jumps.ensures.items ∙ c.jumps_of-own.ensures) in
    subst (λ (ks : List Jump). AreKept n (c.self.inside.base + c.args.work) ks) e (base_kept n c.self.inside.base c.args.work js c.self.invariant.0.kept (omega arith))

-- the function with the greater base
higher : (n p offset work : ℕ) (js jumps : List Jump) (xs : List ℕ) → jumps ≡ js → offset ≡ 0 → values n p js ≡ xs → values n (p + work) jumps ≡ raise offset work xs
higher n p offset work js jumps xs e zero_is view =
    ap (λ ks. values n (p + work) ks) e ∙ (base_raised n p work js ∙ (ap (λ k. raise k work (values n p js)) (sym zero_is) ∙ ap (λ ys. raise offset work ys) view))

pub from_marked-requires-clause-marks : goal.from_marked-requires-clause-marks
from_marked-requires-clause-marks c =
    let n : ℕ = c.self.inside.bound in
    let p : ℕ = c.self.inside.base in
    let js : List Jump = c.self.inside.rises.value.jumps.items in
    let is : n ≡ length c.args.self.now = long n p js c.args.self.now c.self.view_is in
    let r : values n (p + c.args.work) c.in_ok-jumps.jumps.items ≡ raise c.args.offset c.args.work c.args.self.now =
    higher n p c.args.offset c.args.work js c.in_ok-jumps.jumps.items c.args.self.now (c.in_ok-jumps.ensures.items ∙ c.jumps_of-own.ensures) c.if-offset-eq0.true c.self.view_is in
    subst (λ (xs : List ℕ). AreMarks n xs c.raised_marks-marks.result) (sym r)
    (c.raised_marks-marks.ensures c.args.self.now is (subst (λ (xs : List ℕ). AreMarks n xs c.self.inside.marks) c.self.view_is c.self.invariant.1))

pub returns-then-offset-eq0 : goal.returns-then-offset-eq0
returns-then-offset-eq0 c =
    let n : ℕ = c.self.inside.bound in
    let p : ℕ = c.self.inside.base in
    let js : List Jump = c.self.inside.rises.value.jumps.items in
    let r : values n (p + c.args.work) c.in_ok-jumps.jumps.items ≡ raise c.args.offset c.args.work c.args.self.now =
    higher n p c.args.offset c.args.work js c.in_ok-jumps.jumps.items c.args.self.now (c.in_ok-jumps.ensures.items ∙ c.jumps_of-own.ensures) c.if-offset-eq0.true c.self.view_is in
    subst (λ (xs : List ℕ). IfOk c.from_marked.result (λ s. s ≡ xs)) r c.from_marked.ensures

pub from_marked-requires-2-clause-kept : goal.from_marked-requires-2-clause-kept
from_marked-requires-2-clause-kept c =
    let n : ℕ = c.self.inside.bound in
    let js : List Jump = c.self.inside.rises.value.jumps.items in
    let new : Jump = record { after = c.args.offset; rise = c.args.work } in
    let is : n ≡ length c.args.self.now = long n c.self.inside.base js c.args.self.now c.self.view_is in
    let t : value_at c.args.self.now n ≡ c.self.inside.base + total_rise js = top n c.self.inside.base js c.args.self.now c.self.view_is c.self.invariant.0.kept in
    let lt : c.args.offset < n = c.if-offset-self.false in
    let small : value_at c.args.self.now n + c.args.work ≤ 1000000000000 = c.requires n lt (omega arith) in
    let e : c.in_ok-jumps-2.jumps.items ≡ up_to c.args.offset js ++ new ∷ past c.args.offset js = c.in_ok-jumps-2.ensures
    ∙ ap (λ ks. up_to c.args.offset ks ++ new ∷ past c.args.offset ks) c.jumps_of-own.ensures in
    subst (λ (ks : List Jump). AreKept n c.self.inside.base ks) (sym e) (placed_kept n c.self.inside.base js new c.self.invariant.0.kept (omega arith) (omega (arith, c.if-offset-eq0.false)) lt)

-- the function with one more jump in its place
with_place : (n p : ℕ) (new : Jump) (js own jumps : List Jump) (xs : List ℕ) → jumps ≡ up_to new.after own ++ new ∷ past new.after own → own ≡ js
    → values n p js ≡ xs → values n p jumps ≡ raise new.after new.rise xs
with_place n p new js own jumps xs e own_is view =
    ap (λ ks. values n p ks) (e ∙ ap (λ ks. up_to new.after ks ++ new ∷ past new.after ks) own_is) ∙ (placed_is n p js new ∙ ap (λ ys. raise new.after new.rise ys) view)

pub from_marked-requires-2-clause-marks : goal.from_marked-requires-2-clause-marks
from_marked-requires-2-clause-marks c =
    let n : ℕ = c.self.inside.bound in
    let p : ℕ = c.self.inside.base in
    let js : List Jump = c.self.inside.rises.value.jumps.items in
    let new : Jump = record { after = c.args.offset; rise = c.args.work } in
    let is : n ≡ length c.args.self.now = long n p js c.args.self.now c.self.view_is in
    let r : values n p c.in_ok-jumps-2.jumps.items ≡ raise c.args.offset c.args.work c.args.self.now =
    with_place n p new js c.jumps_of-own.result.now c.in_ok-jumps-2.jumps.items c.args.self.now c.in_ok-jumps-2.ensures c.jumps_of-own.ensures c.self.view_is in
    subst (λ (xs : List ℕ). AreMarks n xs c.raised_marks-marks.result) (sym r)
    (c.raised_marks-marks.ensures c.args.self.now is (subst (λ (xs : List ℕ). AreMarks n xs c.self.inside.marks) c.self.view_is c.self.invariant.1))

pub returns : goal.returns
returns c =
    let n : ℕ = c.self.inside.bound in
    let p : ℕ = c.self.inside.base in
    let js : List Jump = c.self.inside.rises.value.jumps.items in
    let new : Jump = record { after = c.args.offset; rise = c.args.work } in
    let r : values n p c.in_ok-jumps-2.jumps.items ≡ raise c.args.offset c.args.work c.args.self.now =
    with_place n p new js c.jumps_of-own.result.now c.in_ok-jumps-2.jumps.items c.args.self.now c.in_ok-jumps-2.ensures c.jumps_of-own.ensures c.self.view_is in
    subst (λ (xs : List ℕ). IfOk c.from_marked-2.result (λ s. s ≡ xs)) r c.from_marked-2.ensures

pub one_more-requires-clause-small : goal.one_more-requires-clause-small
one_more-requires-clause-small c =
    let n : ℕ = c.self.inside.bound in
    let js : List Jump = c.self.inside.rises.value.jumps.items in
    let is : n ≡ length c.args.self.now = long n c.self.inside.base js c.args.self.now c.self.view_is in
    let t : value_at c.args.self.now n ≡ c.self.inside.base + total_rise js = top n c.self.inside.base js c.args.self.now c.self.view_is c.self.invariant.0.kept in
    let small : value_at c.args.self.now n + c.args.work ≤ 1000000000000 = c.requires n c.if-offset-self.false (omega arith) in
    let e : total_rise c.deref.result.now.jumps.items ≡ total_rise js = ap (λ (r : Rises). total_rise r.jumps.items) c.deref.ensures in
    omega arith

pub from_rises-requires-clause-kept : goal.from_rises-requires-clause-kept
from_rises-requires-clause-kept c =
    let n : ℕ = c.self.inside.bound in
    let js : List Jump = c.self.inside.rises.value.jumps.items in
    let new : Jump = record { after = c.args.offset; rise = c.args.work } in
    let is : n ≡ length c.args.self.now = long n c.self.inside.base js c.args.self.now c.self.view_is in
    let t : value_at c.args.self.now n ≡ c.self.inside.base + total_rise js = top n c.self.inside.base js c.args.self.now c.self.view_is c.self.invariant.0.kept in
    let lt : c.args.offset < n = c.if-offset-self.false in
    let small : value_at c.args.self.now n + c.args.work ≤ 1000000000000 = c.requires n lt (omega arith) in
    let last : IsPlaceReached js (c.args.offset + 1) (length js) = subst (λ (ks : List Jump). IsPlaceReached ks (c.args.offset + 1) (length ks)) c.jumps_of-own.ensures
    (c.is_reached.ensures c.if-is_reached.true) in
    let e : c.in_ok-rises.rises.jumps.items ≡ js ++ new ∷ [] = c.in_ok-rises.ensures.jumps ∙ ap (λ (r : Rises). r.jumps.items ++ new ∷ []) c.deref.ensures in
    record {
      kept = subst (λ (ks : List Jump). AreKept n c.self.inside.base ks) (sym e)
          (behind_kept n c.self.inside.base js new c.self.invariant.0.kept (omega arith) (omega (arith, c.if-offset-eq0.false)) lt last);
      levels_are = c.in_ok-rises.ensures.levels;
    }

-- the function with one more jump behind all others
with_last : (n p : ℕ) (new : Jump) (before seen : Rises) (jumps : List Jump) (xs : List ℕ) → jumps ≡ seen.jumps.items ++ new ∷ [] → seen ≡ before
    → values n p before.jumps.items ≡ xs → values n p jumps ≡ raise new.after new.rise xs
with_last n p new before seen jumps xs e seen_is view =
    ap (λ ks. values n p ks) (e ∙ ap (λ (r : Rises). r.jumps.items ++ new ∷ []) seen_is) ∙ (behind_is n p before.jumps.items new ∙ ap (λ ys. raise new.after new.rise ys) view)

pub from_rises-requires-clause-marks : goal.from_rises-requires-clause-marks
from_rises-requires-clause-marks c =
    let n : ℕ = c.self.inside.bound in
    let p : ℕ = c.self.inside.base in
    let js : List Jump = c.self.inside.rises.value.jumps.items in
    let new : Jump = record { after = c.args.offset; rise = c.args.work } in
    let is : n ≡ length c.args.self.now = long n p js c.args.self.now c.self.view_is in
    let r : values n p c.in_ok-rises.rises.jumps.items ≡ raise c.args.offset c.args.work c.args.self.now =
    with_last n p new c.self.inside.rises.value c.deref.result.now c.in_ok-rises.rises.jumps.items c.args.self.now c.in_ok-rises.ensures.jumps c.deref.ensures c.self.view_is in
    subst (λ (xs : List ℕ). AreMarks n xs c.raised_marks-marks.result) (sym r)
    (c.raised_marks-marks.ensures c.args.self.now is (subst (λ (xs : List ℕ). AreMarks n xs c.self.inside.marks) c.self.view_is c.self.invariant.1))

pub returns-then-is_reached : goal.returns-then-is_reached
returns-then-is_reached c =
    let n : ℕ = c.self.inside.bound in
    let p : ℕ = c.self.inside.base in
    let new : Jump = record { after = c.args.offset; rise = c.args.work } in
    let r : values n p c.in_ok-rises.rises.jumps.items ≡ raise c.args.offset c.args.work c.args.self.now =
    with_last n p new c.self.inside.rises.value c.deref.result.now c.in_ok-rises.rises.jumps.items c.args.self.now c.in_ok-rises.ensures.jumps c.deref.ensures c.self.view_is in
    subst (λ (xs : List ℕ). IfOk c.from_rises.result (λ s. s ≡ xs)) r c.from_rises.ensures
