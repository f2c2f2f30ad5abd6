-- The heads and links of the lists, as what callers see of them: the first kept node of a vertex, and the next one of a kept node.
use Rattle.std.proofs.Common.{◌≡◌, ℕ, suc, ◌+◌, ◌*◌, ◌-◌, ◌<◌, ◌≤◌, ◌⊎◌, inl, inr, true, Option, Some, None, List, length, map, refl, sym, ap, ◌∙◌, subst, arith}
use Rattle.std.specs.Prelude.{slice_get, option_map, is_none}
use Rattle.std.proofs.Math.Nat.{mul-le-mul_right}
use Rattle.std.proofs.lemmas.Option.{none-some, same_Some, slice_get-map, slice_get_within}
use Rattle.drt_label.specs.Algebra.{Algebra}
use Rattle.drt_table.specs.Node.{NodeOf, Held}
use Rattle.drt_table.specs.Links.{rank, IsKeptAt, IsNext}
use Rattle.drt_table.specs.KeptOrder.{ComesBefore, IsKeptOf, IsFirstKept, IsNextKept, left_at, left_from}
use Rattle.drt_table.proofs.Ranks.{above_or_same, above, stands_lower}

none_is : {A : Type 0} (o : Option A) → is_none o ≡ true → o ≡ None
none_is None e = refl
none_is (Some x) e = absurd (cc)

module _ {L : Type 0} (a : Algebra L) (nodes : List (Held L)) (few : length nodes ≤ 4294967296) where
  abbrev seen : List (NodeOf L)
  seen = map (λ (h : Held L). h.node) nodes

  within : (v k : ℕ) (h : Held L) → IsKeptAt a nodes v k h → k < 4294967296
  within v k h is = let l = slice_get_within nodes k h is.at in omega (arith, l, few)

  -- a kept node of the list is one that callers see
  shown : (v k : ℕ) (h : Held L) → IsKeptAt a nodes v k h → IsKeptOf a seen v k h.node
  shown v k h is = record {
    at = slice_get-map (λ (x : Held L). x.node) nodes k ∙ ap (λ o. option_map (λ (x : Held L). x.node) o) is.at;
    kept = none_is h.node.dropped_by is.kept;
    vertex = is.vertex;
  }

  -- and the other way round
  pub held_at : (k : ℕ) (n : NodeOf L) → slice_get seen k ≡ Some n → (h : Held L) × (slice_get nodes k ≡ Some h) × (h.node ≡ n)
  held_at k n at = go (slice_get nodes k) refl (sym (slice_get-map (λ (x : Held L). x.node) nodes k) ∙ at)
    where
      go : (o : Option (Held L)) → slice_get nodes k ≡ o → option_map (λ (x : Held L). x.node) o ≡ Some n → (h : Held L) × (slice_get nodes k ≡ Some h) × (h.node ≡ n)
      go None e f = absurd (none-some n f)
      go (Some h) e f = (h, e, same_Some h.node n f)

  meant : (v k : ℕ) (n : NodeOf L) → IsKeptOf a seen v k n → (h : Held L) × IsKeptAt a nodes v k h × (h.node ≡ n)
  meant v k n is =
      let x = held_at k n is.at in (
        x.0,
        record { at = x.1; kept = ap (λ (o : Option ℕ). is_none o) (ap (λ (m : NodeOf L). m.dropped_by) x.2 ∙ is.kept); vertex = ap (λ (m : NodeOf L). a.vertex m.label) x.2 ∙ is.vertex },
        x.2,
      )

  -- who stands no higher is the same node or comes later
  later : (v i k : ℕ) (g h : Held L) (n : NodeOf L) → h.node ≡ n → IsKeptAt a nodes v i g → IsKeptAt a nodes v k h → rank a k h ≤ rank a i g → (k ≡ i) ⊎ ComesBefore a i g.node k n
  later v i k g h n e p q le =
      subst (λ (m : NodeOf L). (k ≡ i) ⊎ ComesBefore a i g.node k m) e (above_or_same (a.offset h.node.label) (a.offset g.node.label) k i (within v k h q) (within v i g p) le)

  -- and who comes later stands lower
  lower_for : (v i k : ℕ) (g h : Held L) (m n : NodeOf L) → g.node ≡ m → h.node ≡ n → IsKeptAt a nodes v k h → ComesBefore a i m k n → rank a k h < rank a i g
  lower_for v i k g h m n e f q before =
      stands_lower (a.offset h.node.label) (a.offset g.node.label) k i (within v k h q)
      (subst (λ (x : NodeOf L). ComesBefore a i x k h.node) (sym e) (subst (λ (x : NodeOf L). ComesBefore a i m k x) (sym f) before))

  pub first_is : (v : ℕ) (o : Option ℕ) → IsNext a nodes v None o → IsFirstKept a seen v o
  first_is v None next = λ k n is. let x = meant v k n is in next k x.0 x.1 tt
  first_is v (Some i) next =
      (next.held.node, shown v i next.held next.is, λ k n is. let x = meant v k n is in later v i k next.held x.0 n x.2 next.is x.1 (next.most k x.0 x.1 tt))

  pub next_is : (id : ℕ) (g : Held L) (o : Option ℕ) → slice_get nodes id ≡ Some g → IsNext a nodes (a.vertex g.node.label) (Some (rank a id g)) o
      → IsNextKept a seen (a.vertex g.node.label) id g.node o
  next_is id g None at next = λ k n is before. let x = meant (a.vertex g.node.label) k n is in next k x.0 x.1 (lower_for (a.vertex g.node.label) id k g x.0 g.node n refl x.2 x.1 before)
  next_is id g (Some i) at next =
      let v = a.vertex g.node.label in
      let own : id < 4294967296 = (let l = slice_get_within nodes id g at in omega (arith, l, few)) in (
        next.held.node,
        shown v i next.held next.is,
        above (a.offset next.held.node.label) (a.offset g.node.label) i id (within v i next.held next.is) own next.below,
        λ k n is before. (
            let x = meant v k n is in
            later v i k next.held x.0 n x.2 next.is x.1 (next.most k x.0 x.1 (lower_for v id k g x.0 g.node n refl x.2 x.1 before))
            ),
      )

-- fewer are left after each node of the walk of a vertex
pub less_left : {L : Type 0} (a : Algebra L) (nodes : List (NodeOf L)) (v id : ℕ) (n : NodeOf L) (o : Option ℕ) → slice_get nodes id ≡ Some n
    → IsNextKept a nodes v id n o → left_from a nodes o < left_from a nodes (Some id)
less_left a nodes v id n None at next =
    let here : left_from a nodes (Some id) ≡ left_at a nodes id (Some n) = ap (left_at a nodes id) at in
    let within : id < length nodes = slice_get_within nodes id n at in
    omega (arith, here, within)
less_left {L} a nodes v id n (Some j) at next =
    let here : left_from a nodes (Some id) ≡ left_at a nodes id (Some n) = ap (left_at a nodes id) at in
    let there : left_from a nodes (Some j) ≡ left_at a nodes j (Some next.0) = ap (left_at a nodes j) next.1.at in
    let less : left_at a nodes j (Some next.0) < left_at a nodes id (Some n) = fewer (a.offset next.0.label) (a.offset n.label) (length nodes) (slice_get_within nodes id n at) next.2 in
    omega (arith, here, there, less)
  where
    fewer : (p o many : ℕ) → id < many → (p < o) ⊎ ((p ≡ o) × (id < j)) → p * many + (many - j) < o * many + (many - id)
    fewer p o many within (inl l) =
        let h : suc p * many ≤ o * many = mul-le-mul_right many l in
        let e : suc p * many ≡ p * many + many = grind arith in
        omega (arith, h, e, within)
    fewer p o many within (inr l) = let b = l.1 in subst (λ (q : ℕ). q * many + (many - j) < o * many + (many - id)) (sym l.0) (omega (arith, b, within))
