-- Going over edges for the least separation.
use Rattle.std.proofs.Common.{◌≡◌, ℕ, suc, zero, ◌+◌, ◌<◌, ◌≤◌, true, Option, Some, None, List, [], ◌∷◌, length, drop, refl, sym, ap, ◌∙◌, arith}
use Rattle.std.specs.Prelude.{slice_get, min}
use Rattle.std.proofs.lemmas.Option.{none-some, same_Some, slice_get-get_or}
use Rattle.std.proofs.lemmas.List.{drop_all}
use Rattle.drt_model.specs.Digraph.{Digraph, IsSoundGraph, out_edges, out_degree, edge_of, no_edge}
use Rattle.drt_model.specs.declared.tasks.Edge.{Edge}
use Rattle.drt_table.specs.Machine.{shortest}
use Rattle.drt_table.specs.Earliest.{smaller, least_of}

smaller-none : (o : Option ℕ) → smaller o None ≡ o
smaller-none None = refl
smaller-none (Some m) = refl

min-assoc : (a b c : ℕ) → min (min a b) c ≡ min a (min b c)
min-assoc a b c = grind arith

smaller-assoc : (a b c : Option ℕ) → smaller (smaller a b) c ≡ smaller a (smaller b c)
smaller-assoc None b c = refl
smaller-assoc (Some x) None c = refl
smaller-assoc (Some x) (Some y) None = refl
smaller-assoc (Some x) (Some y) (Some z) = ap (λ m. Some m) (min-assoc x y z)

drop-at : {A : Type 0} (xs : List A) (k : ℕ) (x : A) → slice_get xs k ≡ Some x → drop k xs ≡ x ∷ drop (k + 1) xs
drop-at xs k x h = with_suc xs k x h ∙ ap (λ j. x ∷ drop j xs) (let e : suc k ≡ k + 1 = omega arith in e)
  where
    with_suc : {A : Type 0} (xs : List A) (k : ℕ) (x : A) → slice_get xs k ≡ Some x → drop k xs ≡ x ∷ drop (suc k) xs
    with_suc [] k x h = absurd (none-some x h)
    with_suc (z ∷ xs) zero x h = ap (λ y. y ∷ xs) (same_Some z x h)
    with_suc (z ∷ xs) (suc k) x h = with_suc xs k x h

module _ (g : Digraph) where
  pub edge_more : (v k : ℕ) (least : Option ℕ) (s : ℕ) → k < out_degree g v → s ≡ (edge_of g v k).sep
      → smaller least (least_of (λ (e : Edge). true) (λ e. e.sep) (drop k (out_edges g v))) ≡ least_of (λ (e : Edge). true) (λ e. e.sep) (out_edges g v)
      → smaller (smaller least (Some s)) (least_of (λ (e : Edge). true) (λ e. e.sep) (drop (k + 1) (out_edges g v))) ≡ least_of (λ (e : Edge). true) (λ e. e.sep) (out_edges g v)
  edge_more v k least s lt e h =
      let at : slice_get (out_edges g v) k ≡ Some (edge_of g v k) = slice_get-get_or (out_edges g v) k no_edge lt in
      let rest : Option ℕ = least_of (λ (e : Edge). true) (λ e. e.sep) (drop (k + 1) (out_edges g v)) in
      smaller-assoc least (Some s) rest
      ∙ (ap (λ n. smaller least (smaller (Some n) rest)) e
      ∙ (ap (λ xs. smaller least (least_of (λ (e : Edge). true) (λ e. e.sep) xs)) (sym (drop-at (out_edges g v) k (edge_of g v k) at)) ∙ h))

  pub edge_end : (v k : ℕ) (least : Option ℕ) → out_degree g v ≤ k
      → smaller least (least_of (λ (e : Edge). true) (λ e. e.sep) (drop k (out_edges g v))) ≡ least_of (λ (e : Edge). true) (λ e. e.sep) (out_edges g v)
      → least ≡ least_of (λ (e : Edge). true) (λ e. e.sep) (out_edges g v)
  edge_end v k least le h = sym (smaller-none least) ∙ (ap (λ xs. smaller least (least_of (λ (e : Edge). true) (λ e. e.sep) xs)) (sym (drop_all k (out_edges g v) le)) ∙ h)

  pub row_more : IsSoundGraph g → (v : ℕ) (least o : Option ℕ) → v < length g.vertices → o ≡ least_of (λ (e : Edge). true) (λ e. e.sep) (out_edges g v)
      → smaller least (shortest (drop v g.out)) ≡ shortest g.out → smaller (smaller least o) (shortest (drop (v + 1) g.out)) ≡ shortest g.out
  row_more sound v least o lt e h =
      let rows : length g.out ≡ length g.vertices = sound.rows in
      let at : slice_get g.out v ≡ Some (out_edges g v) = slice_get-get_or g.out v [] (omega arith) in
      smaller-assoc least o (shortest (drop (v + 1) g.out))
      ∙ (ap (λ n. smaller least (smaller n (shortest (drop (v + 1) g.out)))) e
      ∙ (ap (λ xs. smaller least (shortest xs)) (sym (drop-at g.out v (out_edges g v) at)) ∙ h))

  pub row_end : IsSoundGraph g → (v : ℕ) (least : Option ℕ) → length g.vertices ≤ v → smaller least (shortest (drop v g.out)) ≡ shortest g.out → least ≡ shortest g.out
  row_end sound v least le h =
      let rows : length g.out ≡ length g.vertices = sound.rows in
      sym (smaller-none least) ∙ (ap (λ xs. smaller least (shortest xs)) (sym (drop_all v g.out (omega arith))) ∙ h)
