use Rattle.std.proofs.Common.{◌≡◌, ◌<◌, ℕ, Some, Option, List, [], ◌∷◌, ◌++◌, length, sym, ap, ◌∙◌, subst, arith, rules}
use Rattle.std.specs.Option.{ForSome}
use Rattle.drt_table.specs.Links.{AreLinked, IsLink, links_after, heads_after}
use Rattle.drt_table.specs.Node.{Held}
use Rattle.drt_table.proofs.Linking.{pushed_linked, written_back, place_within}
use Rattle.drt_table.proofs.kept.push_node.Goals as goal

pub link_after-next-requires-clause-last : goal.link_after-next-requires-clause-last
link_after-next-requires-clause-last g c =
    let a = g.L.Label.algebra in
    let nodes = c.args.nodes.now.items in
    let links = c.args.links.now.items in
    let z : Held _ = c.args.node in
    subst (λ (xs : List (Option ℕ)). ForSome c.args.last (λ p. p < length xs)) (sym c.as_slice.ensures.value)
    (place_within a nodes links c.args.heads.now c.requires.linked (a.vertex z.node.label) (a.offset z.node.label) c.args.last c.requires.last)

pub returns-clause-linked : goal.returns-clause-linked
returns-clause-linked g c =
    let a = g.L.Label.algebra in
    let nodes = c.args.nodes.now.items in
    let links = c.args.links.now.items in
    let heads = c.args.heads.now in
    let z : Held _ = c.args.node in
    let n : ℕ = length nodes in
    let q : Option ℕ = c.link_after-next.result in
    let room : length nodes < 4294967296 = omega (arith, c.requires.few) in
    let after : IsLink (a.vertex z.node.label) c.args.last q links heads =
    subst (λ v. IsLink v c.args.last q links heads) c.vertex-vertex.ensures (subst (λ xs. IsLink c.vertex-vertex.result c.args.last q xs heads) c.as_slice.ensures.value c.link_after-next.ensures) in
    let ok : AreLinked a (nodes ++ z ∷ []) (links_after c.args.last (Some n) links ++ q ∷ []) (heads_after (a.vertex z.node.label) c.args.last (Some n) heads) =
    pushed_linked a nodes links heads c.requires.linked z c.requires.kept room c.args.last q c.requires.last after in
    let nodes_are : c.push_within.new.items.items ≡ nodes ++ z ∷ [] = c.push_within.ensures.items in
    let number : c.len-number.result ≡ n = search rules in
    let links_are : c.push_within-2.new.items.items ≡ links_after c.args.last (Some n) links ++ q ∷ [] =
    c.push_within-2.ensures.items ∙ ap (λ xs. xs ++ q ∷ []) (written_back c.args.links.now.len c.link.new.links _ (search rules)
    ∙ (c.link.ensures.links ∙ (ap (λ xs. links_after c.args.last (Some c.len-number.result) xs) c.as_mut_slice.ensures.value ∙ ap (λ m. links_after c.args.last (Some m) links) number))) in
    let heads_are : c.link.new.heads ≡ heads_after (a.vertex z.node.label) c.args.last (Some n) heads =
    c.link.ensures.heads ∙ (ap (λ v. heads_after v c.args.last (Some c.len-number.result) heads) c.vertex-vertex.ensures
    ∙ ap (λ m. heads_after (a.vertex z.node.label) c.args.last (Some m) heads) number) in
    subst (λ xs. AreLinked a xs c.push_within-2.new.items.items c.link.new.heads) (sym nodes_are)
    (subst (λ xs. AreLinked a (nodes ++ z ∷ []) xs c.link.new.heads) (sym links_are)
    (subst (λ xs. AreLinked a (nodes ++ z ∷ []) (links_after c.args.last (Some n) links ++ q ∷ []) xs) (sym heads_are) ok))
