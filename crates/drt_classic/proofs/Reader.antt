-- Reading lines one after the other, as a loop does.
use Rattle.std.proofs.Common.{◌≡◌, ℕ, ◌+◌, ◌≤◌, ◌<◌, Bool, true, false, List, [], ◌∷◌, length, drop, get_or, Option, Some, None, Result, Ok, Err, refl, sym, ap, ◌∙◌, arith}
use Rattle.std.proofs.lemmas.List.{at_drop_more, at_drop_all}
use Rattle.drt_file.specs.trusted.Cutting.{lines, lines_after, with_run}
use Rattle.drt_classic.specs.declared.state.Draft.{Draft}
use Rattle.drt_classic.specs.declared.state.State.{State}
use Rattle.drt_classic.specs.declared.fault.ClassicFault.{ClassicFault}
use Rattle.drt_classic.specs.declared.fault.ClassicError.{ClassicError}
use Rattle.drt_classic.specs.declared.fault.ClassicError.TheVariants as errors
use Rattle.drt_classic.specs.ClassicFaults.{classic_step, classic_steps, has_no_frame, first_without_frame}
use Rattle.drt_classic.specs.Gives.{FailsClassic}

pub line_read : (n : ℕ) (above below : Option State) (line rest others : List ℕ) (total : Result (ℕ × Option State) ClassicFault) → lines rest ≡ line ∷ lines others
    → classic_step n above line ≡ Ok below
    → classic_steps n above (lines rest) ≡ total → classic_steps (n + 1) below (lines others) ≡ total
unfolding classic_steps
line_read n above below line rest others total cut ok so_far =
    let one : classic_steps n above (lines rest) ≡ classic_steps (n + 1) below (lines others) = rw (cut, ok) refl in
    sym one ∙ so_far

pub line_fails : (e : ClassicError) (n : ℕ) (above : Option State) (line rest others : List ℕ) (total : Result (ℕ × Option State) ClassicFault) → lines rest ≡ line ∷ lines others
    → FailsClassic e (classic_step n above line)
    → classic_steps n above (lines rest) ≡ total → FailsClassic e total
unfolding classic_steps
line_fails errors.Memory n above line rest others total cut fails so_far = tt
line_fails (errors.Fault f) n above line rest others total cut fails so_far =
    let one : classic_steps n above (lines rest) ≡ Err f = rw (cut, fails) refl in
    sym so_far ∙ one

pub no_line : (n : ℕ) (above : Option State) (rest : List ℕ) (total : Result (ℕ × Option State) ClassicFault) → length rest ≡ 0
    → classic_steps n above (lines rest) ≡ total → total ≡ Ok (n, above)
unfolding classic_steps lines_after with_run
no_line n above [] total none so_far = sym so_far
no_line n above (b ∷ bs) total none so_far = absurd (omega arith)

pub found_here : (ds : List Draft) (i : ℕ) (d : Draft) → i < length ds → d ≡ get_or ds i d → true ≡ has_no_frame d → first_without_frame (drop i ds) ≡ Some d.line
unfolding first_without_frame
found_here ds i d lt is e =
    let here : has_no_frame d ≡ true = sym e in
    at_drop_more first_without_frame ds i d lt ∙ ap (λ x. first_without_frame (x ∷ drop (i + 1) ds)) (sym is) ∙ rw here refl

pub goes_past : (ds : List Draft) (i : ℕ) (d : Draft) → i < length ds → d ≡ get_or ds i d → false ≡ has_no_frame d → first_without_frame (drop i ds) ≡ first_without_frame (drop (i + 1) ds)
unfolding first_without_frame
goes_past ds i d lt is e =
    let here : has_no_frame d ≡ false = sym e in
    at_drop_more first_without_frame ds i d lt ∙ ap (λ x. first_without_frame (x ∷ drop (i + 1) ds)) (sym is) ∙ rw here refl

pub none_left : (ds : List Draft) (i : ℕ) → length ds ≤ i → first_without_frame (drop i ds) ≡ None
unfolding first_without_frame
none_left ds i le = at_drop_all first_without_frame ds i le
