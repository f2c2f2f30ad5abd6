use Rattle.std.proofs.Common.{◌≡◌, ℕ, List, sym, ap, ◌∙◌, subst, IfOk}
use Rattle.drt_steps.specs.declared.jump.Jump.{Jump}
use Rattle.drt_steps.specs.Values.{max_of}
use Rattle.drt_steps.specs.Jumps.{values, AreKept, AreMost}
use Rattle.drt_steps.proofs.Kept.{long, most_along, most_kept, most_is}
use Rattle.drt_steps.proofs.Covering.{most_own, most_other}
use Rattle.drt_steps.proofs.steps.Steps.max_of.Goals as goal

pub from_jumps-requires : goal.from_jumps-requires
from_jumps-requires c =
    let p : ℕ = c.a.inside.base in
    let q : ℕ = c.b.inside.base in
    let own : List Jump = c.a.inside.rises.value.jumps.items in
    let other : List Jump = c.b.inside.rises.value.jumps.items in
    let most : List Jump = c.in_ok-jumps.jumps.items in
    let same : c.a.inside.bound ≡ c.b.inside.bound = long c.a.inside.bound p own c.args.a.now c.a.view_is ∙ (c.requires ∙ sym (long c.b.inside.bound q other c.args.b.now c.b.view_is)) in
    let h : AreMost p own q other most = most_along p q c.jumps_of-own.result.now own c.jumps_of-other.result.now other most c.jumps_of-own.ensures c.jumps_of-other.ensures c.in_ok-jumps.ensures in
    subst (λ (z : ℕ). AreKept c.a.inside.bound z most) (sym c.max.ensures) (most_kept c.a.inside.bound c.b.inside.bound p q own other most same c.a.invariant.0.kept c.b.invariant.0.kept h)

pub returns : goal.returns
returns c =
    let p : ℕ = c.a.inside.base in
    let q : ℕ = c.b.inside.base in
    let own : List Jump = c.a.inside.rises.value.jumps.items in
    let other : List Jump = c.b.inside.rises.value.jumps.items in
    let most : List Jump = c.in_ok-jumps.jumps.items in
    let same : c.a.inside.bound ≡ c.b.inside.bound = long c.a.inside.bound p own c.args.a.now c.a.view_is ∙ (c.requires ∙ sym (long c.b.inside.bound q other c.args.b.now c.b.view_is)) in
    let h : AreMost p own q other most = most_along p q c.jumps_of-own.result.now own c.jumps_of-other.result.now other most c.jumps_of-own.ensures c.jumps_of-other.ensures c.in_ok-jumps.ensures in
    let e : values c.a.inside.bound c.max.result most ≡ max_of c.args.a.now c.args.b.now =
    ap (λ z. values c.a.inside.bound z most) c.max.ensures
    ∙ (most_is c.a.inside.bound c.b.inside.bound p q own other most same h
    ∙ (ap (λ xs. max_of xs (values c.b.inside.bound q other)) c.a.view_is ∙ ap (λ ys. max_of c.args.a.now ys) c.b.view_is)) in
    subst (λ (xs : List ℕ). IfOk c.from_jumps.result (λ s. s ≡ xs)) e c.from_jumps.ensures

pub returns-then-covers : goal.returns-then-covers
returns-then-covers c =
    let e : max_of c.args.a.now c.args.b.now ≡ c.args.a.now = most_own c.args.a.now c.args.b.now (sym c.covers.ensures ∙ c.if-covers.true) in
    subst (λ (xs : List ℕ). IfOk c.copy.result (λ s. s ≡ xs)) (sym e) c.copy.ensures

pub returns-then-covers-2 : goal.returns-then-covers-2
returns-then-covers-2 c =
    let e : max_of c.args.a.now c.args.b.now ≡ c.args.b.now = most_other c.args.a.now c.args.b.now (sym c.covers-2.ensures ∙ c.if-covers-2.true) in
    subst (λ (xs : List ℕ). IfOk c.copy-then-covers-2.result (λ s. s ≡ xs)) (sym e) c.copy-then-covers-2.ensures
