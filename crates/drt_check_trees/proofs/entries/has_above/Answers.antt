use Rattle.std.proofs.Common.{◌≡◌, ℕ, ◌-◌, ◌<◌, ◌≤◌, inl, inr, true, false, List, [], length, ap, arith, get_or, refl, subst, sym, ◌∙◌}
use Rattle.std.proofs.lemmas.Bool.{cases_lt}
use Rattle.std.proofs.lemmas.List.{get_or_default}
use Rattle.drt_check_trees.specs.Asking.{AsksNoLess}
use Rattle.drt_check_trees.specs.Entries.{IsEntryOf, IsWalkOver, last_in}
use Rattle.drt_check_trees.specs.declared.entries.Entry.{Entry}
use Rattle.drt_check_trees.proofs.Dominators.{entry_over, over_entry, over_parts, short_last, short_within}
use Rattle.drt_check_trees.proofs.entries.has_above.Goals as goal

pub digest_of-requires-clause-within : goal.digest_of-requires-clause-within
digest_of-requires-clause-within c = short_within c.args.bounded.now.graph.now c.keep_limits.ensures c.args.bounded.now.bound c.args.walk.now c.requires.bounded.bound c.requires.walk

pub bounds-hints-last : goal.bounds-hints-last
bounds-hints-last c =
    let l = short_last c.args.bounded.now.graph.now c.keep_limits.ensures c.args.bounded.now.bound c.args.walk.now c.requires.walk in
    omega (arith, l, c.last_in-last.ensures, c.keep_limits.ensures.few)

pub bounds-hints-last-then-is_over_at-2 : goal.bounds-hints-last-then-is_over_at-2
bounds-hints-last-then-is_over_at-2 c =
    let l = short_last c.args.bounded.now.graph.now c.keep_limits.ensures c.args.bounded.now.bound c.args.walk.now c.requires.walk in
    omega (arith, l, c.last_in-last.ensures, c.keep_limits.ensures.few)

pub bounds-hints-last-then-is_no_less : goal.bounds-hints-last-then-is_no_less
bounds-hints-last-then-is_no_less c =
    let l = short_last c.args.bounded.now.graph.now c.keep_limits.ensures c.args.bounded.now.bound c.args.walk.now c.requires.walk in
    omega (arith, l, c.last_in-last.ensures, c.keep_limits.ensures.few)

pub returns-then-is_no_less : goal.returns-then-is_no_less
returns-then-is_no_less c =
    let g = c.args.bounded.now.graph.now in
    let k : ℕ = c.loop-k.k - 1 in
    let entries : List Entry = c.args.catalogue.now.entries.now in
    let d : Entry = record { last = 0; work = record { 0 = 0 }; span = 0; digest = 0; number = 0 } in
    let e : Entry = get_or entries k d in
    let l : k < length entries = omega (arith, c.loop-k-test.true, c.loop-k.invariant.0, c.first_below-k.ensures.within) in
    let of : IsEntryOf g c.args.catalogue.now.tree.now.walks e = c.requires.catalogue.entries.each k d l in
    let low : c.last_in-last.result ≤ e.last = c.first_to-from.ensures.after k d (omega (arith, c.loop-k-test.true)) l in
    let high : e.last ≤ c.last_in-last.result = c.first_below-k.ensures.before k d (omega (arith, c.loop-k-test.true, c.loop-k.invariant.0)) in
    let last : e.last ≡ last_in c.args.walk.now = omega (arith, low, high, c.last_in-last.ensures) in
    let both : (e.span ≤ c.args.extent.span) × AsksNoLess c.args.bounded.now.bound g c.args.walk.now (get_or c.args.catalogue.now.tree.now.walks e.number [])
    = c.is_no_less.ensures.0 c.if-is_no_less.true in (
      λ t. entry_over c.args.bounded.now.bound g c.args.catalogue.now.tree.now.walks c.requires.catalogue.short c.args.walk.now c.requires.walk e of last
          (omega (arith, both.0, c.requires.span)) both.1,
      λ any. refl,
    )

pub loop-k-preserved : goal.loop-k-preserved
loop-k-preserved c =
    let g = c.args.bounded.now.graph.now in
    let k : ℕ = c.loop-k.k - 1 in
    let entries : List Entry = c.args.catalogue.now.entries.now in
    let d : Entry = record { last = 0; work = record { 0 = 0 }; span = 0; digest = 0; number = 0 } in
    let e : Entry = get_or entries k d in
    let l : k < length entries = omega (arith, c.loop-k-test.true, c.loop-k.invariant.0, c.first_below-k.ensures.within) in
    let of : IsEntryOf g c.args.catalogue.now.tree.now.walks e = c.requires.catalogue.entries.each k d l in
    let not : IsWalkOver c.args.bounded.now.bound g c.args.walk.now (get_or c.args.catalogue.now.tree.now.walks e.number []) → ⊥
    = (λ over.
    let parts = over_parts c.args.bounded.now.bound g c.args.walk.now (get_or c.args.catalogue.now.tree.now.walks e.number []) over in
    let r : c.is_no_less.result ≡ true = c.is_no_less.ensures.1 (omega (arith, parts.1, of.span, c.requires.span), parts.2) in
    let s : c.is_no_less.result ≡ false = c.if-is_no_less.false in
    cc) in (
      omega (arith, c.loop-k.invariant.0),
      λ j f m n same_last more over.
          elim (cases_lt j c.loop-k.k) [
            | inl q ↦ (
                let s : j ≡ k = omega (arith, m, q) in
                let same : get_or entries j f ≡ e = ap (λ (i : ℕ). get_or entries i f) s ∙ get_or_default entries k f d l in
                not (subst (λ (x : Entry). IsWalkOver c.args.bounded.now.bound g c.args.walk.now (get_or c.args.catalogue.now.tree.now.walks x.number [])) same over))
            | inr q ↦ c.loop-k.invariant.1 j f q n same_last more over
          ],
    )

pub returns : goal.returns
returns c =
    let g = c.args.bounded.now.graph.now in
    let entries : List Entry = c.args.catalogue.now.entries.now in (
      λ t. absurd (cc),
      λ any.
          let h = over_entry c.args.bounded.now.bound g c.args.catalogue.now.tree.now.walks c.requires.catalogue.short c.args.walk.now c.requires.walk entries c.requires.catalogue.entries any in
          let at_last = ap (λ (x : Entry). x.last) h.at in
          let at_work = ap (λ (x : Entry). x.work.0) h.at in
          let past : c.loop-k.k ≤ h.place = elim (cases_lt h.place c.loop-k.k) [
            | inl q ↦ (
                let b = c.first_to-from.ensures.before h.place h.entry (omega (arith, q, c.loop-k-test.false)) in
                absurd (omega (arith, b, h.last, at_last, c.last_in-last.ensures)))
            | inr q ↦ q
          ] in
          absurd (c.loop-k.invariant.1 h.place h.entry past h.within (omega (arith, h.last, at_last)) (omega (arith, h.more, at_work))
          (subst (λ (x : Entry). IsWalkOver c.args.bounded.now.bound g c.args.walk.now (get_or c.args.catalogue.now.tree.now.walks x.number [])) (sym h.at) h.over)),
    )
