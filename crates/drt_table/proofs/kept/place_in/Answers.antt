use Rattle.std.proofs.Common.{◌<◌, List, length, sym, subst}
use Rattle.std.specs.Prelude.{IsTrue}
use Rattle.drt_table.specs.Held.{AllOf}
use Rattle.drt_table.specs.Links.{AreAlone, AreLinked}
use Rattle.drt_table.specs.Node.{Held}
use Rattle.drt_table.specs.Sampled.{IsShelf}
use Rattle.drt_table.proofs.kept.place_in.Goals as goal

pub in_range-requires-clause-of : goal.in_range-requires-clause-of
in_range-requires-clause-of g c = subst (λ l. IsTrue (g.L.Label.algebra.is_of l c.args.origin.bound)) (sym c.twin.view_is) c.requires.of

pub first_above-requires-clause-linked : goal.first_above-requires-clause-linked
first_above-requires-clause-linked g c κs within =
    let a = g.L.Label.algebra in
    subst (λ xs. AreLinked a xs c.as_slice-2.result.now c.args.heads.now) (sym c.as_slice.ensures.value)
    (subst (λ ls. AreLinked a c.args.nodes.now.items ls c.args.heads.now) (sym c.as_slice-2.ensures.value) c.requires.linked)

pub first_above-requires-clause-sampled : goal.first_above-requires-clause-sampled
first_above-requires-clause-sampled g c κs within =
    subst (λ (xs : List (Held _)). IsShelf g.L.Label.algebra xs (length c.args.heads.now) c.args.columns.now.room c.args.columns.now) (sym c.as_slice.ensures.value) c.requires.sampled

pub first_above-requires-clause-vertex : goal.first_above-requires-clause-vertex
first_above-requires-clause-vertex g c κs within = subst (λ l. g.L.Label.algebra.vertex l < length c.args.heads.now) (sym c.twin.view_is) c.requires.vertex

pub first_above-requires-clause-of : goal.first_above-requires-clause-of
first_above-requires-clause-of g c κs within =
    let a = g.L.Label.algebra in (
      c.args.origin.bound,
      subst (λ l. IsTrue (a.is_of l c.args.origin.bound)) (sym c.twin.view_is) c.requires.of,
      subst (λ (xs : List (Held _)). AllOf (λ (h : Held _). IsTrue (a.is_of h.node.label c.args.origin.bound)) xs) (sym c.as_slice.ensures.value) c.requires.all_of,
    )

pub first_above-requires-clause-alone : goal.first_above-requires-clause-alone
first_above-requires-clause-alone g c κs within = subst (λ (xs : List (Held _)). AreAlone g.L.Label.algebra xs) (sym c.as_slice.ensures.value) c.requires.alone

pub add-requires-clause-linked : goal.add-requires-clause-linked
add-requires-clause-linked g c κs within = c.requires.linked

pub add-requires-clause-vertex : goal.add-requires-clause-vertex
add-requires-clause-vertex g c κs within = c.requires.vertex

pub add-requires-clause-room : goal.add-requires-clause-room
add-requires-clause-room g c κs within = c.requires.room

pub add-requires-clause-few : goal.add-requires-clause-few
add-requires-clause-few g c κs within = c.requires.few

pub add-requires-clause-of : goal.add-requires-clause-of
add-requires-clause-of g c κs within = (c.args.origin.bound, c.requires.of, c.requires.all_of)
