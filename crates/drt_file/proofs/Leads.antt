-- Lines that lead from known states to known states without a fault.
use Rattle.std.proofs.Common.{◌≡◌, ℕ, ◌+◌, Bool, true, false, not, ◌&&◌, ◌||◌, List, [], ◌∷◌, ◌++◌, map, Option, Some, None, Result, Ok, Err, refl, sym, ap, ◌∙◌, cond}
use Rattle.std.specs.Prelude.{filter}
use Rattle.std.specs.List.{list_all}
use Rattle.std.proofs.lemmas.List.Folds.{list_all-append}
use Rattle.drt_file.specs.declared.state.State.{State}
use Rattle.drt_file.specs.declared.state.Kind.{Kind}
use Rattle.drt_file.specs.declared.fault.FileFault.{FileFault}
use Rattle.drt_file.specs.trusted.Cutting.{is_blank, with_run, fields_after, fields}
use Rattle.drt_file.specs.trusted.Words.{is_between}
use Rattle.drt_file.specs.internal.Kinds.{kind, first_word}
use Rattle.drt_file.specs.trusted.Line.{is_text, is_skipped}
use Rattle.drt_file.specs.internal.StateFaults.{kind_fault, line_fault}
use Rattle.drt_file.specs.internal.Steps.{◌>>=◌, after_kind, judged, line_step, step, steps}
use Rattle.drt_file.proofs.Meanings.{both}

-- The fields of those lines that aren't skipped.
abbrev pub kept : List (List ℕ) → List (List (List ℕ))
kept ls = filter (λ words. not (is_skipped words)) (map fields ls)

-- Whatever lines have these fields, they lead from states with P to states with Q.
abbrev pub Leads : (Option State → Type 0) → List (List (List ℕ)) → (Option State → Type 0) → Type 0
Leads P ws Q = (ls : List (List ℕ)) → kept ls ≡ ws → (n : ℕ) (above : Option State) → P above → (m : ℕ) × (below : Option State) × (steps n above ls ≡ Ok (m, below)) × Q below

pub leads_none : (P : Option State → Type 0) → Leads P [] P
unfolding steps step
leads_none P [] e n above p = (n, above, refl, p)
leads_none P (line ∷ ls) e n above p = go (λ h. leads_none P ls h (n + 1) above p) (is_skipped (fields line)) refl e
  where
    go : (kept ls ≡ [] → (m : ℕ) × (below : Option State) × (steps (n + 1) above ls ≡ Ok (m, below)) × P below) → (b : Bool) → is_skipped (fields line) ≡ b
        → cond (not b) (fields line ∷ kept ls) (kept ls) ≡ []
        → (m : ℕ) × (below : Option State) × (steps n above (line ∷ ls) ≡ Ok (m, below)) × P below
    go on false at h = absurd (cc)
    go on true at h =
        let r = on h in
        (r.0, r.1, rw at r.2, r.3)

pub leads_one : (P Q : Option State → Type 0) (w : List (List ℕ))
    → ((n : ℕ) (above : Option State) (line : List ℕ) → P above → fields line ≡ w → (below : Option State) × (line_step n above line w ≡ Ok below) × Q below) → Leads P (w ∷ []) Q
unfolding steps step
leads_one P Q w goes [] e n above p = absurd (cc)
leads_one P Q w goes (line ∷ ls) e n above p = go (λ h. leads_one P Q w goes ls h (n + 1) above p) (is_skipped (fields line)) refl e
  where
    go : (kept ls ≡ w ∷ [] → (m : ℕ) × (below : Option State) × (steps (n + 1) above ls ≡ Ok (m, below)) × Q below)
        → (b : Bool) → is_skipped (fields line) ≡ b → cond (not b) (fields line ∷ kept ls) (kept ls) ≡ w ∷ []
        → (m : ℕ) × (below : Option State) × (steps n above (line ∷ ls) ≡ Ok (m, below)) × Q below
    go on true at h =
        let r = on h in
        (r.0, r.1, rw at r.2, r.3)
    go on false at h =
        let is : fields line ≡ w = cc in
        let none_left : kept ls ≡ [] = cc in
        let one = goes n above line p is in
        let ok : line_step n above line (fields line) ≡ Ok one.0 = ap (line_step n above line) is ∙ one.1 in
        let r = leads_none Q ls none_left (n + 1) one.0 one.2 in
        (r.0, r.1, rw (at, ok) r.2, r.3)

-- Lines of fields, cut where their fields are.
split_kept : (ls : List (List ℕ)) (xs ys : List (List (List ℕ))) → kept ls ≡ xs ++ ys
    → (front : List (List ℕ)) × (back : List (List ℕ)) × (ls ≡ front ++ back) × (kept front ≡ xs) × (kept back ≡ ys)
split_kept ls [] ys e = ([], ls, refl, refl, e)
split_kept [] (x ∷ xs) ys e = absurd (cc)
split_kept (line ∷ ls) (x ∷ xs) ys e = go (λ h. split_kept ls (x ∷ xs) ys h) (λ h. split_kept ls xs ys h) (is_skipped (fields line)) refl e
  where
    go : (kept ls ≡ (x ∷ xs) ++ ys → (front : List (List ℕ)) × (back : List (List ℕ)) × (ls ≡ front ++ back) × (kept front ≡ x ∷ xs) × (kept back ≡ ys))
        → (kept ls ≡ xs ++ ys → (front : List (List ℕ)) × (back : List (List ℕ)) × (ls ≡ front ++ back) × (kept front ≡ xs) × (kept back ≡ ys))
        → (b : Bool) → is_skipped (fields line) ≡ b → cond (not b) (fields line ∷ kept ls) (kept ls) ≡ x ∷ (xs ++ ys)
        → (front : List (List ℕ)) × (back : List (List ℕ)) × (line ∷ ls ≡ front ++ back) × (kept front ≡ x ∷ xs) × (kept back ≡ ys)
    go over on true at h =
        let r = over h in
        (line ∷ r.0, r.1, ap (λ l. line ∷ l) r.2, rw at r.3, r.4)
    go over on false at h =
        let is : fields line ≡ x = cc in
        let others : kept ls ≡ xs ++ ys = cc in
        let r = on others in
        (line ∷ r.0, r.1, ap (λ l. line ∷ l) r.2, rw at (ap (λ f. f ∷ kept r.0) is ∙ ap (λ l. x ∷ l) r.3), r.4)

steps_append : (front back : List (List ℕ)) (n m : ℕ) (above below : Option State) → steps n above front ≡ Ok (m, below) → steps n above (front ++ back) ≡ steps m below back
unfolding steps
steps_append [] back n m above below e =
    let same : (n, above) ≡ (m, below) = cc in
    ap (λ (x : ℕ × Option State). steps x.0 x.1 back) same
steps_append (line ∷ front) back n m above below e = go (λ mid h. steps_append front back (n + 1) m mid below h) (step n above line) refl e
  where
    go : ((mid : Option State) → steps (n + 1) mid front ≡ Ok (m, below) → steps (n + 1) mid (front ++ back) ≡ steps m below back)
        → (r : Result (Option State) FileFault) → step n above line ≡ r → (r >>= λ mid. steps (n + 1) mid front) ≡ Ok (m, below)
        → (step n above line >>= λ mid. steps (n + 1) mid (front ++ back)) ≡ steps m below back
    go on (Ok mid) at h = rw at (on mid h)
    go on (Err f) at h = absurd (cc)

pub leads_then : (P Q R : Option State → Type 0) (xs ys : List (List (List ℕ))) → Leads P xs Q → Leads Q ys R → Leads P (xs ++ ys) R
leads_then P Q R xs ys first second ls e n above p =
    let c = split_kept ls xs ys e in
    let a = first c.0 c.3 n above p in
    let b = second c.1 c.4 a.0 a.1 a.3 in
    (b.0, b.1, ap (steps n above) c.2 ∙ steps_append c.0 c.1 n a.0 above a.1 a.2 ∙ b.2, b.3)

pub leads_to : (P Q R : Option State → Type 0) (xs : List (List (List ℕ))) → ((o : Option State) → Q o → R o) → Leads P xs Q → Leads P xs R
leads_to P Q R xs so first ls e n above p =
    let a = first ls e n above p in
    (a.0, a.1, a.2, so a.1 a.3)

-- A line whose fields may stand in a line is text.
blank_text : (b : ℕ) → is_blank b ≡ true → is_text b ≡ true
unfolding is_text
blank_text b e = ap (λ t. t || is_between 33 126 b) e

run_text : (run : List ℕ) (others : List (List ℕ)) → list_all (list_all is_text) (with_run run others) ≡ true → (list_all is_text run ≡ true) × (list_all (list_all is_text) others ≡ true)
unfolding with_run
run_text [] others e = (refl, e)
run_text (c ∷ cs) others e = both (list_all is_text (c ∷ cs)) (list_all (list_all is_text) others) e

fields_text : (line begun : List ℕ) → list_all (list_all is_text) (fields_after begun line) ≡ true → (list_all is_text begun ≡ true) × (list_all is_text line ≡ true)
unfolding fields_after
fields_text [] begun e = ((run_text begun [] e).0, refl)
fields_text (b ∷ line) begun e = go (fields_text line []) (fields_text line (begun ++ b ∷ [])) (is_blank b) refl e
  where
    go : (list_all (list_all is_text) (fields_after [] line) ≡ true → (list_all is_text [] ≡ true) × (list_all is_text line ≡ true))
        → (list_all (list_all is_text) (fields_after (begun ++ b ∷ []) line) ≡ true → (list_all is_text (begun ++ b ∷ []) ≡ true) × (list_all is_text line ≡ true))
        → (t : Bool) → is_blank b ≡ t → list_all (list_all is_text) (cond t (with_run begun (fields_after [] line)) (fields_after (begun ++ b ∷ []) line)) ≡ true
        → (list_all is_text begun ≡ true) × (list_all is_text (b ∷ line) ≡ true)
    go blank other true at h =
        let r = run_text begun (fields_after [] line) h in
        let rest = blank r.1 in
        (r.0, ap (λ t. t && list_all is_text line) (blank_text b at) ∙ rest.1)
    go blank other false at h =
        let rest = other h in
        let parts = both (list_all is_text begun) (list_all is_text (b ∷ [])) (sym (list_all-append is_text begun (b ∷ [])) ∙ rest.0) in
        let one = both (is_text b) true parts.1 in
        (parts.0, ap (λ t. t && list_all is_text line) one.0 ∙ rest.1)

pub text_again : (line : List ℕ) (words : List (List ℕ)) → fields line ≡ words → list_all (list_all is_text) words ≡ true → list_all is_text line ≡ true
text_again line words is e = (fields_text line [] (ap (list_all (list_all is_text)) is ∙ e)).1

-- A line without a fault is taken.
pub takes : (n : ℕ) (s : State) (line : List ℕ) (words : List (List ℕ)) (k : Kind) → list_all is_text line ≡ true → s.ended ≡ false
    → kind s.version (first_word words) ≡ k → kind_fault k s words ≡ None
    → line_step n (Some s) line words ≡ Ok (Some (after_kind k n s words))
unfolding line_step line_fault judged
takes n s line words k text still is none =
    let fault : line_fault s line words ≡ None
    = ap (λ t. cond (not t) (Some 2) (cond s.ended (Some 19) (kind_fault (kind s.version (first_word words)) s words))) text
    ∙ ap (λ b. cond b (Some 19) (kind_fault (kind s.version (first_word words)) s words)) still ∙ ap (λ c. kind_fault c s words) is ∙ none in
    ap (λ o. judged n o (after_kind (kind s.version (first_word words)) n s words)) fault ∙ ap (λ c. Ok (Some (after_kind c n s words))) is
