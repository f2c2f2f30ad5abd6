-- The steps of a text are the steps of what its lines say.
use Rattle.std.proofs.Common.{◌≡◌, ℕ, ◌+◌, ◌<◌, ◌≤◌, ◌⊎◌, inl, inr, Bool, true, false, not, List, [], ◌∷◌, ◌++◌}
use Rattle.std.proofs.Common.{length, map, Option, Some, None, Result, Ok, Err, refl, sym, ap, ◌∙◌, subst, arith, cond, filter}
use Rattle.std.specs.List.{AllZip}
use Rattle.std.proofs.lemmas.Bool.{cases_Bool}
use Rattle.drt_file.specs.trusted.Cutting.{fields}
use Rattle.drt_file.specs.trusted.Line.{is_skipped}
use Rattle.drt_classic.specs.declared.classic.Classic.{Classic}
use Rattle.drt_classic.specs.declared.fault.ClassicFault.{ClassicFault}
use Rattle.drt_classic.specs.declared.state.Draft.{Draft}
use Rattle.drt_classic.specs.declared.state.State.{State}
use Rattle.drt_classic.specs.declared.state.Line.{Line}
use Rattle.drt_classic.specs.ClassicReading.{SaysClassic}
use Rattle.drt_file.specs.internal.Steps.{◌>>=◌}
use Rattle.drt_classic.specs.ClassicFaults.{with_last_classic, task_of_draft, after_classic_line, classic_line_step, classic_step, classic_steps}
use Rattle.drt_classic.proofs.Fits.{Fits, SaysOwn, SaysNone, says_none}
use Rattle.drt_classic.proofs.Lines.{Goes, Stepped, stepped, steps_again}

-- The fields of the lines that aren't skipped.
abbrev pub kept : List (List ℕ) → List (List (List ℕ))
kept ls = filter (λ words. not (is_skipped words)) (map fields ls)

-- The tasks that the lines above leave.
abbrev pub tasks_in : State → List Classic
tasks_in s = map task_of_draft (with_last_classic s.closed s.last)

-- From one state these lines, of which each fits, lead to another.
abbrev pub Runs : State → List Line → State → Type 0
Runs s [] t = s ≡ t
Runs s (l ∷ ls) t = (s.ended ≡ false) × SaysNone l × Fits s l × ((n : ℕ) × Runs (after_classic_line n s l) ls t)

-- What steps without a fault are: what the lines say leads from the one state to the other.
pub record Ran (s : State) (words : List (List (List ℕ))) (above : Option State) : Type 0 where
  pub said : List Line
  pub says : AllZip SaysClassic words said
  pub end : State
  pub is : above ≡ Some end
  pub runs : Runs s said end

pub ran : (ls : List (List ℕ)) (n m : ℕ) (s : State) (above : Option State) → classic_steps n (Some s) ls ≡ Ok (m, above) → Ran s (kept ls) above
unfolding classic_steps classic_step
ran [] n m s above e =
    let same : Some s ≡ above = ap (λ (x : ℕ × Option State). x.1) (ok_same (n, Some s) (m, above) e) in
    record { said = []; says = tt; end = s; is = sym same; runs = refl }
  where
    ok_same : (x y : ℕ × Option State) → ◌≡◌ {A = Result (ℕ × Option State) ClassicFault} (Ok x) (Ok y) → x ≡ y
    ok_same x y e = cc
ran (line ∷ ls) n m s above e = elim (cases_Bool (is_skipped (fields line))) [
  | inl skipped ↦
      let go : classic_steps (n + 1) (Some s) ls ≡ Ok (m, above) = rw skipped at e in
      rw skipped (ran ls (n + 1) m s above go)
  | inr not_skipped ↦
      let go : (classic_line_step n (Some s) line (fields line) >>= λ below. classic_steps (n + 1) below ls) ≡ Ok (m, above) = rw not_skipped at e in
      rw not_skipped (next (λ k t h. ran ls k m t above h) (classic_line_step n (Some s) line (fields line)) refl go)
]
  where
    next : ((k : ℕ) (t : State) → classic_steps k (Some t) ls ≡ Ok (m, above) → Ran t (kept ls) above) → (r : Result (Option State) ClassicFault) → classic_line_step n (Some s) line (fields line) ≡ r
        → (r >>= λ below. classic_steps (n + 1) below ls) ≡ Ok (m, above) → Ran s (fields line ∷ kept ls) above
    next later (Err f) at h = absurd (cc)
    next later (Ok below) at h =
        let p = stepped n s line (fields line) below at in
        let go : classic_steps (n + 1) (Some (after_classic_line n s p.said)) ls ≡ Ok (m, above) = ap (λ b. classic_steps (n + 1) b ls) (sym p.is) ∙ h in
        let r = later (n + 1) (after_classic_line n s p.said) go in
        record {
          said = p.said ∷ r.said;
          says = (p.goes.passed.says, r.says);
          end = r.end;
          is = r.is;
          runs = (p.goes.still, says_none (fields line) p.said p.goes.passed.says, p.goes.passed.fits, (n, r.runs));
        }

-- Below a state exactly these lines lead to `end` and to these tasks.
abbrev pub Leads : List Classic → State → List Line → Type 0
Leads tasks s [] = (s.ended ≡ true) × (tasks_in s ≡ tasks)
Leads tasks s (l ∷ ls) = (s.ended ≡ false) × SaysOwn l × Fits s l × ((n : ℕ) → Leads tasks (after_classic_line n s l) ls)

pub record Led (tasks : List Classic) (r : Result (ℕ × Option State) ClassicFault) : Type 0 where
  pub n : ℕ
  pub end : State
  pub is : r ≡ Ok (n, Some end)
  pub at_end : end.ended ≡ true
  pub tasks_are : tasks_in end ≡ tasks

pub led : (tasks : List Classic) (ls : List (List ℕ)) (said : List Line) (n : ℕ) (s : State) → AllZip SaysClassic (kept ls) said → Leads tasks s said → Led tasks (classic_steps n (Some s) ls)
unfolding classic_steps classic_step
led tasks [] [] n s says leads = record { n = n; end = s; is = refl; at_end = leads.0; tasks_are = leads.1 }
led tasks [] (l ∷ said) n s says leads = absurd says
led tasks (line ∷ ls) said n s says leads = elim (cases_Bool (is_skipped (fields line))) [
  | inl skipped ↦
      let h : AllZip SaysClassic (kept ls) said = rw skipped at says in
      rw skipped (led tasks ls said (n + 1) s h leads)
  | inr not_skipped ↦
      let h : AllZip SaysClassic (fields line ∷ kept ls) said = rw not_skipped at says in
      rw not_skipped (next (λ others t h l. led tasks ls others (n + 1) t h l) said h leads)
]
  where
    next : ((others : List Line) (t : State) → AllZip SaysClassic (kept ls) others → Leads tasks t others → Led tasks (classic_steps (n + 1) (Some t) ls)) → (said : List Line)
        → AllZip SaysClassic (fields line ∷ kept ls) said → Leads tasks s said → Led tasks (classic_line_step n (Some s) line (fields line) >>= λ below. classic_steps (n + 1) below ls)
    next later [] h leads = absurd h
    next later (l ∷ said) h leads =
        let one = steps_again n s line (fields line) l refl leads.0 h.0 leads.1 leads.2 in
        rw one (later said (after_classic_line n s l) h.1 (leads.3 n))
