use Rattle.std.proofs.Common.{◌+◌, ◌-◌, ◌<◌, List, drop, length, take, arith, subst, sym}
use Rattle.std.specs.List.{AllZip}
use Rattle.drt_states.specs.States.{IsEntryAbove}
use Rattle.drt_states.specs.declared.claims.StateEntry.{StateEntry}
use Rattle.drt_check_states.specs.Places.{no_entry}
use Rattle.drt_check_states.proofs.Splits.{above_join, above_parts, above_reaches, rest_of}
use Rattle.drt_check_states.proofs.children.is_above.Goals as goal

pub returns-then-own-cut : goal.returns-then-own-cut
returns-then-own-cut c = (
  λ e. absurd (cc),
  λ all. (let l = above_reaches c.args.own.now c.args.other.now c.args.cut c.args.entry c.requires all in absurd (omega (arith, l, c.if-own-cut.true))),
)

pub returns-then-not-is_entry_above : goal.returns-then-not-is_entry_above
returns-then-not-is_entry_above c = (
  λ e. absurd (cc),
  λ all.
      let parts = above_parts c.args.own.now c.args.other.now c.args.cut c.args.entry c.requires no_entry (omega (arith, c.if-own-cut.false)) all in
      let t = c.is_entry_above.ensures.1 parts.1 in
      absurd (cc),
)

pub returns-then-not-are_above : goal.returns-then-not-are_above
returns-then-not-are_above c = (
  λ e. absurd (cc),
  λ all.
      let parts = above_parts c.args.own.now c.args.other.now c.args.cut c.args.entry c.requires no_entry (omega (arith, c.if-own-cut.false)) all in
      let t = c.are_above.ensures.1 parts.0 in
      absurd (cc),
)

pub returns : goal.returns
returns c =
    let own = c.args.own.now in
    let other = c.args.other.now in
    let cut = c.args.cut in
    let l : cut.at < length own = omega (arith, c.if-own-cut.false) in
    let r = rest_of (cut.at + 1) own in
    let s = rest_of cut.rest other in (
      λ e.
          let tail : AllZip IsEntryAbove (drop (cut.at + 1) own) (drop cut.rest other)
          = subst (λ (xs : List StateEntry). AllZip IsEntryAbove xs (drop cut.rest other)) r
          (subst (λ (ys : List StateEntry). AllZip IsEntryAbove (take (length own - (cut.at + 1)) (drop (cut.at + 1) own)) ys) s (c.are_above-2.ensures.0 e)) in
          above_join own other cut c.args.entry c.requires no_entry l (c.are_above.ensures.0 c.if-not-are_above.false) (c.is_entry_above.ensures.0 c.if-not-is_entry_above.false) tail,
      λ all.
          let parts = above_parts own other cut c.args.entry c.requires no_entry l all in
          c.are_above-2.ensures.1
          (subst (λ (ys : List StateEntry). AllZip IsEntryAbove (take (length own - (cut.at + 1)) (drop (cut.at + 1) own)) ys) (sym s)
          (subst (λ (xs : List StateEntry). AllZip IsEntryAbove xs (drop cut.rest other)) (sym r) parts.2)),
    )
