use Rattle.std.proofs.Common.{◌≡◌, ℕ, ◌<◌, [], ◌∷◌, ◌++◌, map, take, get_or, length, sym, ap, ◌∙◌, arith}
use Rattle.std.proofs.lemmas.List.{map-append, take_more}
use Rattle.serde_json.specs.Data.{Data, number, unsigned}
use Rattle.serde_json.specs.View.{view}
use Rattle.drt_summary.proofs.printing.make_numbers.Goals as goal

pub loop-n-preserved : goal.loop-n-preserved
loop-n-preserved c =
    let numbers = c.args.numbers.now in
    let i = c.loop-n.n-index in
    let l : i < length numbers = omega (arith, c.loop-n-test.true) in
    let f : ℕ → Data = λ n. number (unsigned n) in
    let one : view c.from.result ≡ f (get_or numbers i 0) = c.from.ensures in
    let values = c.loop-n.values.items in
    ap (map view) c.in_ok-push.ensures.items ∙ (map-append view values (c.from.result ∷ []) ∙ ((λ j. c.loop-n.invariant j ++ one j ∷ [])
    ∙ sym (ap (map f) (take_more numbers i 0 l) ∙ map-append f (take i numbers) (get_or numbers i 0 ∷ []))))
