use Rattle.std.proofs.Common.{Global, Vec, ◌≡◌, ℕ, ◌+◌, ◌-◌, ◌<◌, List, [], arith, get_or, length, set, subst, sym, ap, ◌∙◌}
use Rattle.std.proofs.lemmas.List.{get_or_default}
use Rattle.drt_check_trees.specs.Entries.{AreWalkEntries, IsEntryOf, IsWalkOver}
use Rattle.drt_check_trees.specs.declared.entries.Entry.{Entry}
use Rattle.drt_check_trees.proofs.Thinning.{IsThinned, thinned_end, thinned_here, thinned_in, thinned_out, thinned_start}
use Rattle.drt_check_trees.proofs.entries.thinned.Goals.{then-not-is_over, else-not-is_over}
use Rattle.drt_check_trees.proofs.entries.thinned.Goals as goal

pub loop-i-init : goal.loop-i-init
loop-i-init c = thinned_start c.args.bounded.now.bound c.args.bounded.now.graph.now c.args.tree.now.walks c.requires.short c.args.all.items c.requires.all

pub loop-i-preserved : goal.loop-i-preserved
loop-i-preserved c =
    let bound = c.args.bounded.now.bound in
    let g = c.args.bounded.now.graph.now in
    let walks : List (List ℕ) = c.args.tree.now.walks in
    let all : List Entry = c.args.all.items in
    let now : List Entry = c.loop-i.entries.items in
    let i : ℕ = c.loop-i.i in
    let kept : ℕ = c.loop-i.kept in
    let none : Entry = record { last = 0; work = record { 0 = 0 }; span = 0; digest = 0; number = 0 } in
    let is = c.loop-i.invariant in
    let l : i < length all = omega (arith, c.loop-i-test.true, c.len-i-end.ensures) in
    let here : c.index-entry.result.now ≡ get_or now i none = c.index-entry.ensures ∙ get_or_default now i c.index-entry.result.now none (omega (arith, l, is.long)) in
    let last : c.index-last.result.now ≡ get_or now (kept - 1) none
    = c.index-last.ensures ∙ get_or_default now (kept - 1) c.index-last.result.now none (omega (arith, l, is.few, is.some, is.long)) in
    let of : IsEntryOf g walks c.index-entry.result.now = subst (IsEntryOf g walks) (sym here) (thinned_here bound g walks c.requires.short all c.requires.all now kept i is l none) in
    let walk : c.walk_at-walk.result.now ≡ get_or walks (get_or now i none).number []
    = c.walk_at-walk.ensures ∙ ap (λ (x : Entry). get_or walks x.number []) here in
    elim c.if-not-is_over.branch [
      | then-not-is_over w ↦ (
          let items : c.if-not-is_over.entries.items ≡ set now kept (get_or now i none) = ap (λ (v : Vec Entry Global). v.items) w.entries-is ∙ ap (λ (x : Entry). set now kept x) here in
          subst (λ (es : List Entry). IsThinned bound g walks all es c.if-not-is_over.kept (i + 1)) (sym items)
          (subst (λ (k : ℕ). IsThinned bound g walks all (set now kept (get_or now i none)) k (i + 1)) (sym w.kept-is)
          (thinned_in bound g walks c.requires.short all c.requires.all now kept i is l)))
      | else-not-is_over w ↦ (
          let items : c.if-not-is_over.entries.items ≡ now = ap (λ (v : Vec Entry Global). v.items) w.entries-is in
          let over : IsWalkOver bound g c.walk_at-walk.result.now (get_or walks c.index-last.result.now.number []) = c.is_over.ensures.0 w.if-not-is_over.false in
          let over' : IsWalkOver bound g (get_or walks (get_or now i none).number []) (get_or walks (get_or now (kept - 1) none).number [])
          = subst (λ (x : Entry). IsWalkOver bound g (get_or walks (get_or now i none).number []) (get_or walks x.number [])) last
          (subst (λ (x : List ℕ). IsWalkOver bound g x (get_or walks c.index-last.result.now.number [])) walk over) in
          subst (λ (es : List Entry). IsThinned bound g walks all es c.if-not-is_over.kept (i + 1)) (sym items)
          (subst (λ (k : ℕ). IsThinned bound g walks all now k (i + 1)) (sym w.kept-is)
          (thinned_out bound g walks c.requires.short all c.requires.all now kept i is l over')))
    ]

pub returns : goal.returns
returns c =
    subst (λ (es : List Entry). AreWalkEntries c.args.bounded.now.bound c.args.bounded.now.graph.now c.args.tree.now.walks es) (sym c.truncate.ensures.items)
    (thinned_end c.args.bounded.now.bound c.args.bounded.now.graph.now c.args.tree.now.walks c.requires.short c.args.all.items c.requires.all
    c.loop-i.entries.items c.loop-i.kept c.loop-i.i c.loop-i.invariant
    (omega (arith, c.loop-i-test.false, c.loop-i.auto.i-end, c.len-i-end.ensures)))
