-- Strict steps over lines.
use Rattle.std.proofs.Common.{◌≡◌, ℕ, ◌+◌, Bool, true, false, ◌&&◌, List, [], ◌∷◌, ◌++◌, Option, Some, None, Result, Ok, Err, refl, sym, ap, ◌∙◌, arith, cond}
use Rattle.std.specs.Prelude.{bytes_eq, ◌==◌, option_and_then}
use Rattle.std.specs.List.{AllByRecursion, list_all, join_with_byte}
use Rattle.std.proofs.lemmas.Slice.Eq.{bytes_eq-Decides}
use Rattle.drt_file.specs.declared.state.State.{State}
use Rattle.drt_file.specs.declared.state.Kind.{Kind}
use Rattle.drt_file.specs.declared.fault.FileFault.{FileFault}
use Rattle.drt_file.specs.trusted.Cutting.{fields}
use Rattle.drt_file.specs.internal.Kinds.{kind, first_word}
use Rattle.drt_file.specs.trusted.Line.{is_text, is_skipped}
use Rattle.drt_file.specs.internal.StateFaults.{kind_fault, line_fault}
use Rattle.drt_file.specs.internal.Steps.{after_kind, head, headed, judged, line_step, step, steps}
use Rattle.drt_file.specs.internal.Strict.{fits, fits_below, left_by, strict_step, strict_steps, has_ended}
use Rattle.drt_file.proofs.Again.{IsField, joined_again}
use Rattle.drt_file.proofs.Leads.{text_again, takes}
use Rattle.drt_file.proofs.Follows.{LinePassed, line_passed}

-- What a line that is taken is.
pub record Taken (n : ℕ) (above : Option State) (line : List ℕ) (s : State) : Type 0 where
  pub joined : join_with_byte 32 (fields line) ≡ line
  pub fits : fits_below above (fields line) ≡ true
  pub goes : line_step n above line (fields line) ≡ Ok (Some s)

pub step_taken : (n : ℕ) (above : Option State) (line : List ℕ) (s : State) → strict_step n above line ≡ Some s → Taken n above line s
unfolding strict_step left_by
step_taken n above line s e = go (bytes_eq (join_with_byte 32 (fields line)) line) refl (fits_below above (fields line)) refl (line_step n above line (fields line)) refl e
  where
    go : (j : Bool) → bytes_eq (join_with_byte 32 (fields line)) line ≡ j → (f : Bool) → fits_below above (fields line) ≡ f → (r : Result (Option State) FileFault)
        → line_step n above line (fields line) ≡ r
        → cond (j && f) (left_by r) None ≡ Some s → Taken n above line s
    go true isj true isf (Ok below) isr h = record { joined = (bytes_eq-Decides (join_with_byte 32 (fields line)) line).0 isj; fits = isf; goes = isr ∙ ap (λ o. Ok o) h }
    go true isj true isf (Err f) isr h = absurd (cc)
    go true isj false isf r isr h = absurd (cc)
    go false isj f isf r isr h = absurd (cc)

pub step_again : (n : ℕ) (above : Option State) (line : List ℕ) (words : List (List ℕ)) (s : State) → fields line ≡ words → join_with_byte 32 words ≡ line → fits_below above words ≡ true
    → line_step n above line words ≡ Ok (Some s) → strict_step n above line ≡ Some s
unfolding strict_step left_by
step_again n above line words s cut joined fitting goes =
    let j : bytes_eq (join_with_byte 32 words) line ≡ true = (bytes_eq-Decides (join_with_byte 32 words) line).1 joined in
    ap (λ ws. cond (bytes_eq (join_with_byte 32 ws) line && fits_below above ws) (left_by (line_step n above line ws)) None) cut
    ∙ ap (λ b. cond (b && fits_below above words) (left_by (line_step n above line words)) None) j
    ∙ ap (λ b. cond b (left_by (line_step n above line words)) None) fitting
    ∙ ap left_by goes

-- What a line below other lines leaves.
pub record Left (n : ℕ) (s : State) (line : List ℕ) (words : List (List ℕ)) (below : State) : Type 0 where
  pub passed : LinePassed s line words
  pub is : below ≡ after_kind (kind s.version (first_word words)) n s words

pub left_below : (n : ℕ) (s : State) (line : List ℕ) (words : List (List ℕ)) (below : State) → line_step n (Some s) line words ≡ Ok (Some below) → Left n s line words below
unfolding line_step judged
left_below n s line words below e = go (line_fault s line words) refl e
  where
    go : (o : Option ℕ) → line_fault s line words ≡ o → judged n o (after_kind (kind s.version (first_word words)) n s words) ≡ Ok (Some below) → Left n s line words below
    go (Some code) at h = absurd (cc)
    go None at h = record { passed = line_passed s line words at; is = cc }

-- A line that goes on leaves something.
pub line_some : (n : ℕ) (above : Option State) (line : List ℕ) (words : List (List ℕ)) (below : Option State) → line_step n above line words ≡ Ok below → (s : State) × (below ≡ Some s)
unfolding line_step judged headed
line_some n None line words below e = go (head words) e
  where
    go : (o : Option State) → headed n o ≡ Ok below → (s : State) × (below ≡ Some s)
    go None h = absurd (cc)
    go (Some s) h = (s, cc)
line_some n (Some t) line words below e = go (line_fault t line words) e
  where
    go : (o : Option ℕ) → judged n o (after_kind (kind t.version (first_word words)) n t words) ≡ Ok below → (s : State) × (below ≡ Some s)
    go (Some code) h = absurd (cc)
    go None h = (after_kind (kind t.version (first_word words)) n t words, cc)

-- No line follows the end.
pub open_above : (n : ℕ) (above : Option State) (line : List ℕ) (s : State) → strict_step n above line ≡ Some s → has_ended above ≡ false
unfolding has_ended
open_above n None line s e = refl
open_above n (Some t) line s e = (left_below n t line (fields line) s (step_taken n (Some t) line s e).goes).passed.is_open

-- A line that is taken isn't skipped.
none_in_head : (n : ℕ) (words : List (List ℕ)) (s : State) → is_skipped words ≡ true → headed n (head words) ≡ Ok (Some s) → ⊥
unfolding headed head is_skipped
none_in_head n [] s e h = cc
none_in_head n ([] ∷ words) s e h = cc
none_in_head n ((b ∷ bs) ∷ []) s e h = cc
none_in_head n ((b ∷ bs) ∷ v ∷ []) s e h = go (b == 35) refl e h
  where
    go : (t : Bool) → (b == 35) ≡ t → t ≡ true → headed n (head ((b ∷ bs) ∷ v ∷ [])) ≡ Ok (Some s) → ⊥
    go false at f g = cc
    go true at f g =
        let is : b ≡ 35 = grind (arith, at) in
        let none : head ((b ∷ bs) ∷ v ∷ []) ≡ None = rw is refl in
        let g2 : headed n None ≡ Ok (Some s) = ap (headed n) (sym none) ∙ g in
        cc
none_in_head n ((b ∷ bs) ∷ v ∷ w ∷ more) s e h = cc

no_kind : (n : ℕ) (s : State) (words : List (List ℕ)) → is_skipped words ≡ true → kind_fault (kind s.version (first_word words)) s words ≡ None → ⊥
unfolding kind kind_fault is_skipped
no_kind n s [] e h = cc
no_kind n s ([] ∷ words) e h = cc
no_kind n s ((b ∷ bs) ∷ words) e h =
    let is : b ≡ 35 = grind (arith, e) in
    let some : kind_fault (kind s.version (b ∷ bs)) s ((b ∷ bs) ∷ words) ≡ Some 3 = rw is refl in
    cc

stays : (n : ℕ) (above : Option State) (line : List ℕ) (words : List (List ℕ)) (s : State) → line_step n above line words ≡ Ok (Some s) → is_skipped words ≡ false
unfolding line_step
stays n None line words s e = go (is_skipped words) refl
  where
    go : (b : Bool) → is_skipped words ≡ b → is_skipped words ≡ false
    go false at = at
    go true at = absurd (none_in_head n words s at e)
stays n (Some t) line words s e = go (is_skipped words) refl
  where
    go : (b : Bool) → is_skipped words ≡ b → is_skipped words ≡ false
    go false at = at
    go true at = absurd (no_kind n t words at (left_below n t line words s e).passed.passes)

pub plain_step : (n : ℕ) (above : Option State) (line : List ℕ) (s : State) → strict_step n above line ≡ Some s → step n above line ≡ Ok (Some s)
unfolding step
plain_step n above line s e =
    let goes = (step_taken n above line s e).goes in
    let not_skipped = stays n above line (fields line) s goes in
    rw not_skipped goes

-- Lines that are taken are read.
pub plain_steps : (ls : List (List ℕ)) (n m : ℕ) (above below : Option State) → strict_steps n above ls ≡ Some (m, below) → steps n above ls ≡ Ok (m, below)
unfolding strict_steps steps
plain_steps [] n m above below e =
    let same : (n, above) ≡ (m, below) = cc in
    ap (λ (x : ℕ × Option State). Ok x) same
plain_steps (line ∷ ls) n m above below e = go (λ s h. plain_steps ls (n + 1) m (Some s) below h) (strict_step n above line) refl e
  where
    go : ((s : State) → strict_steps (n + 1) (Some s) ls ≡ Some (m, below) → steps (n + 1) (Some s) ls ≡ Ok (m, below))
        → (o : Option State) → strict_step n above line ≡ o → option_and_then (λ t. strict_steps (n + 1) (Some t) ls) o ≡ Some (m, below) → steps n above (line ∷ ls) ≡ Ok (m, below)
    go on None at h = absurd (cc)
    go on (Some s) at h = let one = plain_step n above line s at in rw one (on s h)

-- The first of lines that are taken, and the others.
pub first_taken : (n : ℕ) (above : Option State) (line : List ℕ) (ls : List (List ℕ)) (r : ℕ × Option State) → strict_steps n above (line ∷ ls) ≡ Some r
    → (s : State) × (strict_step n above line ≡ Some s) × (strict_steps (n + 1) (Some s) ls ≡ Some r)
unfolding strict_steps
first_taken n above line ls r e = go (strict_step n above line) refl e
  where
    go : (o : Option State) → strict_step n above line ≡ o → option_and_then (λ t. strict_steps (n + 1) (Some t) ls) o ≡ Some r
        → (s : State) × (strict_step n above line ≡ Some s) × (strict_steps (n + 1) (Some s) ls ≡ Some r)
    go None at h = absurd (cc)
    go (Some s) at h = (s, at, h)

pub taken_first : (n : ℕ) (above : Option State) (line : List ℕ) (ls : List (List ℕ)) (s : State) → strict_step n above line ≡ Some s
    → strict_steps n above (line ∷ ls) ≡ strict_steps (n + 1) (Some s) ls
unfolding strict_steps
taken_first n above line ls s e = ap (option_and_then (λ t. strict_steps (n + 1) (Some t) ls)) e

pub none_taken : (n : ℕ) (above : Option State) → strict_steps n above [] ≡ Some (n, above)
unfolding strict_steps
none_taken n above = refl

-- Lines in two parts.
pub taken_both : (xs ys : List (List ℕ)) (n m : ℕ) (above below : Option State) → strict_steps n above xs ≡ Some (m, below) → strict_steps n above (xs ++ ys) ≡ strict_steps m below ys
unfolding strict_steps
taken_both [] ys n m above below e =
    let same : (n, above) ≡ (m, below) = cc in
    ap (λ (x : ℕ × Option State). strict_steps x.0 x.1 ys) same
taken_both (line ∷ xs) ys n m above below e =
    let f = first_taken n above line xs (m, below) e in
    taken_first n above line (xs ++ ys) f.0 f.1 ∙ taken_both xs ys (n + 1) m (Some f.0) below f.2

pub split_taken : (xs ys : List (List ℕ)) (n : ℕ) (above : Option State) (r : ℕ × Option State) → strict_steps n above (xs ++ ys) ≡ Some r
    → (m : ℕ) × (mid : Option State) × (strict_steps n above xs ≡ Some (m, mid)) × (strict_steps m mid ys ≡ Some r)
split_taken [] ys n above r e = (n, above, none_taken n above, e)
split_taken (line ∷ xs) ys n above r e =
    let f = first_taken n above line (xs ++ ys) r e in
    let s = split_taken xs ys (n + 1) (Some f.0) r f.2 in
    (s.0, s.1, taken_first n above line xs f.0 f.1 ∙ s.2, s.3)

-- A line of these fields that fits and has no fault is taken.
pub accepts : (n : ℕ) (s : State) (words : List (List ℕ)) (k : Kind) → AllByRecursion IsField words → list_all (list_all is_text) words ≡ true → s.ended ≡ false
    → kind s.version (first_word words) ≡ k → kind_fault k s words ≡ None → fits k s words ≡ true → strict_step n (Some s) (join_with_byte 32 words) ≡ Some (after_kind k n s words)
unfolding fits_below
accepts n s words k fielded text still is none fitting =
    let line = join_with_byte 32 words in
    let cut = joined_again words fielded in
    step_again n (Some s) line words (after_kind k n s words) cut refl (ap (λ c. fits c s words) is ∙ fitting)
    (takes n s line words k (text_again line words cut text) still is none)
