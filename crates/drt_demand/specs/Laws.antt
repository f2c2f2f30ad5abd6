-- Demand labels keep the laws of labels.
use Rattle.std.specs.Prelude.{◌≡◌, ◌≤◌, ◌<◌, ◌⊎◌, IsTrue, refl}
use Rattle.std.proofs.Common.{inl, inr, arith, ap, ◌∙◌}
use Rattle.std.proofs.lemmas.Bool.Decides.{nat_tests}
use Rattle.drt_label.specs.Algebra.{IsChain, Laws}
use Rattle.drt_graph.specs.declared.front.FrontEntry.{FrontEntry}
use Rattle.drt_demand.specs.Demand.{entry_dominates, demand_algebra}

-- Two labels with the same parts are equal.
same_demand : (x y : FrontEntry) → x.vertex ≡ y.vertex → x.offset ≡ y.offset → x.work ≡ y.work → x ≡ y
same_demand x y p q r =
    ap (λ v. record { vertex = v; offset = x.offset; work = x.work }) p
    ∙ (ap (λ o. record { vertex = y.vertex; offset = o; work = x.work }) q
    ∙ ap (λ w. record { vertex = y.vertex; offset = y.offset; work = w }) r)

-- Two labels that dominate each other are equal.
antisymmetric : (x y : FrontEntry) → IsTrue (entry_dominates x y) → IsTrue (entry_dominates y x) → x ≡ y
antisymmetric x y h k = same_demand x y (grind (arith, nat_tests)) (grind (arith, nat_tests)) (grind (arith, nat_tests))

by_work : (x y z : FrontEntry) → x.vertex ≡ y.vertex → y.vertex ≡ z.vertex → x.offset ≤ y.offset → y.offset ≤ z.offset → IsTrue (entry_dominates x z)
    → (y.work ≤ x.work) ⊎ (x.work < y.work) → IsTrue (entry_dominates x y) ⊎ IsTrue (entry_dominates y z)
by_work x y z p q r s h (inl le) = inl (grind (arith, nat_tests))
by_work x y z p q r s h (inr lt) = inr (grind (arith, nat_tests))

-- The work of the middle label is at most that of the first one, or at least that of the last one.
chain : IsChain demand_algebra
chain x y z p q r s h = by_work x y z p q r s h (grind arith)

-- The laws.
pub demand_laws : Laws demand_algebra
demand_laws = record {
  reflexive = λ x. grind (arith, nat_tests);
  transitive = λ x y z h k. grind (arith, nat_tests);
  antisymmetric = antisymmetric;
  extends = λ x y h k. grind (arith, nat_tests);
  monotone = λ x y sep target wcet h k. grind (arith, nat_tests);
  ranges = λ x y deadline bound h k. grind (arith, nat_tests);
  same_vertex = λ x y h. grind (arith, nat_tests);
  no_later = λ x y h. grind (arith, nat_tests);
  sampled = λ x y bound k own others h. omega arith;
  chain = λ h. chain;
  opening_vertex = λ number wcet bound. refl;
  opening_offset = λ number wcet bound. refl;
  extended_vertex = λ x sep target wcet. refl;
  extended_offset = λ x sep target wcet. refl;
  opening_of = λ number wcet bound h. h;
  extended_of = λ x sep target wcet bound h. h;
  extendable = λ x deadline bound h k. grind (arith, nat_tests);
}
