-- A table that is driven on keeps its log.
use Rattle.std.proofs.Common.{◌≡◌, ℕ, ◌+◌, ◌≤◌, length, ap, ◌∙◌, arith, length-append}
use Rattle.std.specs.Prelude.{Result, Ok, Err, IfOk}
use Rattle.drt_label.specs.Algebra.{Algebra}
use Rattle.drt_table.specs.Drive.{Drives}
use Rattle.drt_table.specs.View.{View}
use Rattle.drt_table.specs.declared.step.TableReply.{TableReply}

module _ {L : Type 0} (a : Algebra L) (old : View L) (count : ℕ) (is : length old.log ≡ count) where
  longer : (new : View L) → Drives a 0 old new → count ≤ length new.log
  longer new d =
      let e : length new.log ≡ length old.log + length d.more = ap length d.log ∙ length-append old.log d.more in
      omega (arith, e, is)

  pub keeps_log : {E : Type 0} (end : Result (View L × TableReply) E) → IfOk end (λ e. Drives a 0 old e.0) → IfOk end (λ e. count ≤ length e.0.log)
  keeps_log (Ok e) d = longer e.0 d
  keeps_log (Err e) d = tt
