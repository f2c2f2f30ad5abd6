-- Reading lines one after the other, as a loop does.
use Rattle.std.proofs.Common.{◌≡◌, ℕ, ◌+◌, ◌≤◌, ◌<◌, Bool, true, false, List, [], ◌∷◌, length, drop, get_or, Option, Some, None, Result, Ok, Err, refl, sym, ap, ◌∙◌, arith}
use Rattle.std.proofs.lemmas.List.{at_drop_more, at_drop_all}
use Rattle.drt_file.specs.declared.state.Draft.{Draft}
use Rattle.drt_file.specs.declared.state.State.{State}
use Rattle.drt_file.specs.declared.fault.FileFault.{FileFault}
use Rattle.drt_file.specs.declared.fault.FileError.{FileError}
use Rattle.drt_file.specs.declared.fault.FileError.TheVariants as errors
use Rattle.drt_file.specs.trusted.Cutting.{lines, lines_after, with_run}
use Rattle.drt_file.specs.internal.Steps.{Fails, step, steps, first_line}

pub line_read : (n : ℕ) (above below : Option State) (line rest others : List ℕ) (total : Result (ℕ × Option State) FileFault) → lines rest ≡ line ∷ lines others → step n above line ≡ Ok below
    → steps n above (lines rest) ≡ total → steps (n + 1) below (lines others) ≡ total
unfolding steps
line_read n above below line rest others total cut ok so_far =
    let one : steps n above (lines rest) ≡ steps (n + 1) below (lines others) = rw (cut, ok) refl in
    sym one ∙ so_far

pub line_fails : (e : FileError) (n : ℕ) (above : Option State) (line rest others : List ℕ) (total : Result (ℕ × Option State) FileFault)
    → lines rest ≡ line ∷ lines others → Fails e (step n above line)
    → steps n above (lines rest) ≡ total → Fails e total
unfolding steps
line_fails errors.Memory n above line rest others total cut fails so_far = tt
line_fails (errors.Fault f) n above line rest others total cut fails so_far =
    let one : steps n above (lines rest) ≡ Err f = rw (cut, fails) refl in
    sym so_far ∙ one

pub no_line : (n : ℕ) (above : Option State) (rest : List ℕ) (total : Result (ℕ × Option State) FileFault) → length rest ≡ 0
    → steps n above (lines rest) ≡ total → total ≡ Ok (n, above)
unfolding steps lines_after with_run
no_line n above [] total none so_far = sym so_far
no_line n above (b ∷ bs) total none so_far = absurd (omega arith)

pub found_here : (test : Draft → Bool) (ds : List Draft) (i : ℕ) (d : Draft) → i < length ds → d ≡ get_or ds i d → true ≡ test d → first_line test (drop i ds) ≡ Some d.line
unfolding first_line
found_here test ds i d lt is e =
    let here : test d ≡ true = sym e in
    at_drop_more (first_line test) ds i d lt ∙ ap (λ x. first_line test (x ∷ drop (i + 1) ds)) (sym is) ∙ rw here refl

pub goes_past : (test : Draft → Bool) (ds : List Draft) (i : ℕ) (d : Draft) → i < length ds → d ≡ get_or ds i d → false ≡ test d → first_line test (drop i ds) ≡ first_line test (drop (i + 1) ds)
unfolding first_line
goes_past test ds i d lt is e =
    let here : test d ≡ false = sym e in
    at_drop_more (first_line test) ds i d lt ∙ ap (λ x. first_line test (x ∷ drop (i + 1) ds)) (sym is) ∙ rw here refl

pub none_left : (test : Draft → Bool) (ds : List Draft) (i : ℕ) → length ds ≤ i → first_line test (drop i ds) ≡ None
unfolding first_line
none_left test ds i le = at_drop_all (first_line test) ds i le
