-- No text begins with the blocks of two values.
use Rattle.std.proofs.Common.{◌≡◌, ℕ, true, get_or, ◌*◌, ◌+◌, ◌≤◌, ◌<◌, ◌^◌, List, [], ◌∷◌, ◌++◌, All, length, map, refl, sym, ap, subst, ◌∙◌, append_assoc, arith, pos, negsuc}
use Rattle.std.specs.Prelude.{ℤ, codes, decimal}
use Rattle.std.specs.Fmt.{signed_decimal}
use Rattle.std.specs.List.{AllByRecursion, join_with_byte}
use Rattle.std.proofs.lemmas.Fmt.{signed_decimal_injective}
use Rattle.std.specs.Int.Signed.{mag}
use Rattle.std.proofs.lemmas.List.{append-nil, append_cancel_left}
use Rattle.std.proofs.lemmas.List.Elements.{All-head, All-nil, All-tail, recursion_from_All}
use Rattle.drt_model.specs.declared.jobs.Policy.{Policy}
use Rattle.drt_model.specs.declared.jobs.Policy.TheVariants as policies
use Rattle.drt_file.specs.trusted.Canonical.{canonical, written, written_line}
use Rattle.drt_file.specs.trusted.Words.{value}
use Rattle.drt_file.proofs.Digits.{value_decimal}
use Rattle.drt_file.proofs.Feeds.{line_same}
use Rattle.drt_file.proofs.Fronts.{one_front}
use Rattle.drt_evidence.specs.Blocks.{AreNamed, IsOfKind, IsSet, close_block, count_and_blocks, in_turn, named_block}
use Rattle.drt_evidence.specs.Cuts.{AreStateParts, IsSpaced, counted_form, end_form, entry_form, join_form, jump_form, spaced_form, state_form}
use Rattle.drt_evidence.specs.Fields.{behind}
use Rattle.drt_evidence.specs.LineForms.{AreBoth, AreItemsCounted, IsAny, IsFieldForm, kind_line, IsInRangeWritten, IsInRangeWrittenSearch, itself, kind_of, list_form}
use Rattle.drt_evidence.specs.LineForms.{numbers_line, pair_form, policy_line, potentials_line, written_ratio_line}
use Rattle.drt_claims.specs.Ranges.{IsEvidenceInRange, IsInRangeEntry, IsInRangeFront, IsInRangeItem, IsInRangeMiss, IsInRangePair, IsInRangePotential, IsInRangeProof, IsInRangeRatio, IsInRangeRelease, IsInRangeTree, IsInRangeWalk, IsNumber, IsTick}
use Rattle.drt_claims.specs.Ranges.{IsInRangeCurve, IsInRangeEnd, IsInRangeJump, IsInRangeSearch, IsInRangeState, IsInRangeStateEntry, IsInRangeTail, IsWork}
use Rattle.drt_evidence.specs.Reading.{IsDossierText}
use Rattle.drt_evidence.specs.Some.{entry_spaced, jump_spaced}
use Rattle.drt_claims.specs.Statement.{IsStated, Statement}
use Rattle.drt_evidence.specs.Text.{body_lines, count_line, entry_line, evidence_lines, front_block, front_lines, head_lines, item_field, miss_line, pair_line, proof_block, proof_line, ratio_block, ratio_lines, release_line, text, tree_block, tree_lines, walk_line}
use Rattle.drt_evidence.specs.Text.{curve_line, search_block, search_lines, tail_block, tail_lines}
use Rattle.drt_claims.specs.declared.evidence.Evidence.{Evidence}
use Rattle.drt_claims.specs.declared.evidence.Evidence.TheVariants.{Undecided}
use Rattle.drt_claims.specs.declared.evidence.Item.{Item}
use Rattle.drt_claims.specs.declared.evidence.Item.TheVariants.{Pass, Split}
use Rattle.drt_evidence.specs.declared.reading.line_forms.KindOfEvidence.{KindOfEvidence}
use Rattle.drt_evidence.specs.declared.reading.line_forms.KindOfEvidence.TheVariants as kinds
use Rattle.drt_evidence.specs.declared.reading.line_forms.WrittenSearch.{WrittenSearch}
use Rattle.drt_states.specs.declared.claims.SearchClaim.{SearchClaim}
use Rattle.drt_states.specs.declared.claims.StateEnd.{StateEnd}
use Rattle.drt_states.specs.declared.claims.StateEnd.TheVariants.{Passes, Splits}
use Rattle.drt_evidence.proofs.Claims.{end_opened, end_split, entry_made, item_in_range, item_of, jump_made, number_form, numbers_form, numbers_of, one_number, two_numbers, work_and_end}
use Rattle.drt_evidence.proofs.Cuts.{IsMade, IsOpened, turn_opened}
use Rattle.drt_evidence.proofs.Forms.{IsShape, bounded_no_space, number_no_space}
use Rattle.drt_evidence.proofs.Leaves.{IsLine, is_plain, plain_word}
use Rattle.drt_evidence.proofs.Numerals.{item_no_space, potential_no_space, range_above, range_below}
use Rattle.drt_evidence.proofs.Parts.{One, Two}
use Rattle.drt_evidence.proofs.Plain.{count_kind, curve_kind, entry_kind, kind_kind, miss_kind, numbers_kind, pair_kind, policy_kind, potentials_kind, proof_kind}
use Rattle.drt_evidence.proofs.Plain.{ratio_kind, release_kind, search_kind, state_kind}
use Rattle.drt_evidence.proofs.Records.{edf_no_part, edf_yes_parts, fixed_no_part, fixed_states_parts, fixed_yes_parts, front_same, fronts_same, head_parts, kind_parts}
use Rattle.drt_evidence.proofs.Records.{one_part, only_undecided, proofs_same, ratio_parts, ratios_same, release_parts, ratio_rest_parts, tree_parts, trees_same}
use Rattle.drt_evidence.proofs.Records.{one_state, opening_block, opening_of, search_parts, search_with, searches_same, tail_part, tails_same}
use Rattle.drt_evidence.proofs.Dossiers.{below_parts, dossier_parts}
use Rattle.drt_evidence.proofs.Shapes.{bare_list, bare_state, count_shape, curve_shape, entry_shape, miss_shape, AreParts, numbers_shape, pair_shape, potentials_shape}
use Rattle.drt_evidence.proofs.Shapes.{proof_shape, ratio_shape, release_shape, search_shape, state_shape}
use Rattle.drt_evidence.proofs.Spaces.{cut_same, fields_behind}

-- Two values with one form are one.
abbrev pub Tells : {A : Type 0} → (A → List ℕ) → (A → Type 0) → Type 0
Tells {A} f P = (x y : A) → P x → P y → f x ≡ f y → y ≡ x

-- Two values whose blocks stand at the front of one text are one.
abbrev pub Alone : {A : Type 0} → (A → List ℕ) → (A → Type 0) → Type 0
Alone {A} T D = (x y : A) (s t : List ℕ) → D x → D y → T x ++ s ≡ T y ++ t → y ≡ x

decimal_tells : (most : ℕ) → most < 2 ^ 64 → Tells decimal (λ n. n ≤ most)
decimal_tells most small x y lx ly e =
    let vx = value_decimal x (omega (arith, lx, small)) in
    let vy = value_decimal y (omega (arith, ly, small)) in
    sym vy ∙ ap value (sym e) ∙ vx

number_tells : Tells decimal IsNumber
number_tells = decimal_tells 4294967295 (omega arith)

tick_tells : Tells decimal IsTick
tick_tells = decimal_tells 1000000000000000000 (omega arith)

pair_tells : {A B : Type 0} (f : A → List ℕ) (P : A → Type 0) (g : B → List ℕ) (Q : B → Type 0) → IsFieldForm f P → Tells f P → Tells g Q → Tells (pair_form f g) (AreBoth P Q)
pair_tells f P g Q none first second x y ix iy e =
    let r = cut_same (f x.0) (f y.0) (32 ∷ g x.1) (32 ∷ g y.1) (none x.0 ix.0) (none y.0 iy.0) refl refl e in
    let tail : g x.1 ≡ g y.1 = cc in
    ap (λ a. (a, y.1)) (first x.0 y.0 ix.0 iy.0 r.0) ∙ ap (λ b. (x.0, b)) (second x.1 y.1 ix.1 iy.1 tail)

each_tells : {A : Type 0} (f : A → List ℕ) (P : A → Type 0) → IsFieldForm f P → Tells f P → (xs ys : List A) → All P xs → All P ys → behind (map f xs) ≡ behind (map f ys) → ys ≡ xs
each_tells f P none one [] [] ix iy e = refl
each_tells f P none one [] (y ∷ ys) ix iy e = absurd (cc)
each_tells f P none one (x ∷ xs) [] ix iy e = absurd (cc)
each_tells f P none one (x ∷ xs) (y ∷ ys) ix iy e =
    let tail : f x ++ behind (map f xs) ≡ f y ++ behind (map f ys) = cc in
    let px = All-head P x xs ix in
    let py = All-head P y ys iy in
    let r = cut_same (f x) (f y) (behind (map f xs)) (behind (map f ys)) (none x px) (none y py) (fields_behind (map f xs)) (fields_behind (map f ys)) tail in
    ap (λ z. z ∷ ys) (one x y px py r.0) ∙ ap (λ zs. x ∷ zs) (each_tells f P none one xs ys (All-tail P x xs ix) (All-tail P y ys iy) r.1)

list_tells : {A : Type 0} (f : A → List ℕ) (P : A → Type 0) → IsFieldForm f P → Tells f P → Tells (list_form f) (AreItemsCounted P)
list_tells f P none one xs ys ix iy e =
    let r = cut_same (decimal (length xs)) (decimal (length ys)) (behind (map f xs)) (behind (map f ys)) (number_no_space (length xs) ix.1) (number_no_space (length ys) iy.1)
    (fields_behind (map f xs)) (fields_behind (map f ys)) e in
    each_tells f P none one xs ys ix.0 iy.0 r.1

signed_tells : Tells signed_decimal IsInRangePotential
signed_tells x y ix iy e = sym (signed_decimal_injective x y (small x ix) (small y iy) e)
  where
    small : (z : ℤ) → IsInRangePotential z → mag z < 2 ^ 63
    small (pos n) is = let le = range_above n is in omega (arith, le)
    small (negsuc n) is = let le = range_below n is in omega (arith, le)

item_tells : Tells item_field IsInRangeItem
item_tells (Pass x) (Pass y) ix iy e = let tail : decimal x ≡ decimal y = cc in ap Pass (tick_tells x y ix iy tail)
item_tells (Split x) (Split y) ix iy e = let tail : decimal x ≡ decimal y = cc in ap Split (number_tells x y ix iy tail)
item_tells (Pass x) (Split y) ix iy e = let wrong : ◌≡◌ {A = ℕ} 112 115 = cc in absurd (omega (arith, wrong))
item_tells (Split x) (Pass y) ix iy e = let wrong : ◌≡◌ {A = ℕ} 115 112 = cc in absurd (omega (arith, wrong))

-- Forms at the front of what is left of a line.
abbrev pub TellsCut : {A : Type 0} → (A → List ℕ) → (A → Type 0) → Type 0
TellsCut {A} f P = Tells (join_form f itself) (AreBoth P IsSpaced)

one_tells : {A : Type 0} (f : A → List ℕ) (P : A → Type 0) → IsFieldForm f P → Tells f P → TellsCut (spaced_form f) P
one_tells f P none one (x, s) (y, t) ix iy e =
    let tail : f x ++ s ≡ f y ++ t = cc in
    let r = cut_same (f x) (f y) s t (none x ix.0) (none y iy.0) ix.1 iy.1 tail in
    ap (λ a. (a, t)) (one x y ix.0 iy.0 r.0) ∙ ap (λ b. (x, b)) (sym r.1)

join_tells : {A B : Type 0} (f : A → List ℕ) (P : A → Type 0) (g : B → List ℕ) (Q : B → Type 0) → ((y : B) → Q y → IsSpaced (g y)) → TellsCut f P → Tells g Q
    → Tells (join_form f g) (AreBoth P Q)
join_tells {A} f P g Q opened first second (x, u) (y, v) ix iy e =
    let same = first (x, g u) (y, g v) (ix.0, opened u ix.1) (iy.0, opened v iy.1) e in
    ap (λ (p : A × List ℕ). (p.0, v)) same ∙ ap (λ w. (x, w)) (second u v ix.1 iy.1 (sym (ap (λ (p : A × List ℕ). p.1) same)))

made_tells : {A T : Type 0} {form : T → List ℕ} {In : T → Type 0} {f : A → List ℕ} {P : A → Type 0} {parts : A → T} → IsMade form In f P parts → Tells form In → Tells f P
made_tells {A} {T} {form} {In} {f} {P} {parts} made one x y ix iy e =
    made.one x y (one (parts x) (parts y) (made.ranges x ix) (made.ranges y iy) (sym (made.form_is x) ∙ e ∙ made.form_is y))

ended_tells : {A : Type 0} (f : A → List ℕ) (P : A → Type 0) → TellsCut f P → Tells f P
ended_tells {A} f P one x y ix iy e =
    ap (λ (p : A × List ℕ). p.0) (one (x, []) (y, []) (ix, tt) (iy, tt) (append-nil (f x) ∙ e ∙ sym (append-nil (f y))))

bare_tells : {A : Type 0} (f : A → List ℕ) (P : A → Type 0) → Tells (spaced_form f) P → Tells f P
bare_tells f P one x y ix iy e = one x y ix iy (ap (λ t. 32 ∷ t) e)

turn_tells : {A : Type 0} (f : A → List ℕ) (P : A → Type 0) → IsOpened f → TellsCut f P → (xs ys : List A) (s t : List ℕ) → length xs ≡ length ys → AllByRecursion P xs → AllByRecursion P ys
    → IsSpaced s → IsSpaced t → in_turn f xs ++ s ≡ in_turn f ys ++ t → (ys ≡ xs) × (t ≡ s)
turn_tells f P opened one [] [] s t size ix iy bs bt e = (refl, sym e)
turn_tells f P opened one [] (y ∷ ys) s t size ix iy bs bt e = absurd (omega (arith, size))
turn_tells f P opened one (x ∷ xs) [] s t size ix iy bs bt e = absurd (omega (arith, size))
turn_tells {A} f P opened one (x ∷ xs) (y ∷ ys) s t size ix iy bs bt e =
    let cut : f x ++ (in_turn f xs ++ s) ≡ f y ++ (in_turn f ys ++ t) = sym (append_assoc (f x) (in_turn f xs) s) ∙ e ∙ append_assoc (f y) (in_turn f ys) t in
    let same = one (x, in_turn f xs ++ s) (y, in_turn f ys ++ t) (ix.0, turn_opened f opened xs s bs) (iy.0, turn_opened f opened ys t bt) cut in
    let first : y ≡ x = ap (λ (p : A × List ℕ). p.0) same in
    let tail : in_turn f xs ++ s ≡ in_turn f ys ++ t = sym (ap (λ (p : A × List ℕ). p.1) same) in
    let r = turn_tells f P opened one xs ys s t (omega (arith, size)) ix.1 iy.1 bs bt tail in
    (ap (λ z. z ∷ ys) first ∙ ap (λ zs. x ∷ zs) r.0, r.1)

-- Two pairs are one where both their parts are.
both_same : {A B : Type 0} {x y : A} {s t : B} → (y ≡ x) × (t ≡ s) → ◌≡◌ {A = A × B} (y, t) (x, s)
both_same {x = x} {t = t} (first, second) = ap (λ a. (a, t)) first ∙ ap (λ b. (x, b)) second

counted_tells : {A : Type 0} (f : A → List ℕ) (P : A → Type 0) → IsOpened f → TellsCut f P → TellsCut (counted_form f) (AreItemsCounted P)
counted_tells {A} f P opened one (xs, s) (ys, t) ix iy e =
    let count = λ (zs : List A). 32 ∷ decimal (length zs) in
    let cut : count xs ++ (in_turn f xs ++ s) ≡ count ys ++ (in_turn f ys ++ t) = sym (append_assoc (count xs) (in_turn f xs) s) ∙ e ∙ append_assoc (count ys) (in_turn f ys) t in
    let same = one_tells decimal IsNumber number_no_space number_tells (length xs, in_turn f xs ++ s) (length ys, in_turn f ys ++ t)
    (ix.0.1, turn_opened f opened xs s ix.1) (iy.0.1, turn_opened f opened ys t iy.1) cut in
    let size : length xs ≡ length ys = sym (ap (λ (p : ℕ × List ℕ). p.0) same) in
    let tail : in_turn f xs ++ s ≡ in_turn f ys ++ t = sym (ap (λ (p : ℕ × List ℕ). p.1) same) in
    both_same (turn_tells f P opened one xs ys s t size (recursion_from_All P xs ix.0.0) (recursion_from_All P ys iy.0.0) ix.1 iy.1 tail)

-- A line.
line_alone : {A : Type 0} (fields : A → List (List ℕ)) (In : A → Type 0) → IsLine fields In → Tells (λ x. join_with_byte 32 (fields x)) In → Alone (λ x. written_line (fields x)) In
unfolding written_line
line_alone fields In kind one x y s t ix iy e =
    let both : join_with_byte 32 (fields x) ++ 10 ∷ s ≡ join_with_byte 32 (fields y) ++ 10 ∷ t
    = sym (append_assoc (join_with_byte 32 (fields x)) (10 ∷ []) s) ∙ e ∙ append_assoc (join_with_byte 32 (fields y)) (10 ∷ []) t in
    one x y ix iy (line_same (join_with_byte 32 (fields x)) (join_with_byte 32 (fields y)) s t (kind.no_feed x ix) (kind.no_feed y iy) both).0

shape_alone : {A T : Type 0} {word : List ℕ} {form : T → List ℕ} {In : T → Type 0} {fields : A → List (List ℕ)} {InLine : A → Type 0} {parts : A → T}
    → IsShape word form In fields InLine parts → IsLine fields InLine → Tells form In → Alone (λ x. written_line (fields x)) InLine
shape_alone {A} {T} {word} {form} {In} {fields} {InLine} {parts} shape kind one = line_alone fields InLine kind tells
  where
    tells : (x y : A) → InLine x → InLine y → join_with_byte 32 (fields x) ≡ join_with_byte 32 (fields y) → y ≡ x
    tells x y ix iy e =
        let both : 32 ∷ form (parts x) ≡ 32 ∷ form (parts y) = append_cancel_left word (32 ∷ form (parts x)) (32 ∷ form (parts y)) (sym (shape.fields_are x) ∙ e ∙ shape.fields_are y) in
        let tail : form (parts x) ≡ form (parts y) = cc in
        shape.one x y (one (parts x) (parts y) (shape.ranges x ix) (shape.ranges y iy) tail)

-- Two parts, and one.
two_alone : {X V W : Type 0} {T : X → List ℕ} {D : X → Type 0} {A : V → List ℕ} {F : V → Type 0} {B : W → List ℕ} {G : W → Type 0} → Two T D A F B G → Alone A F → Alone B G → Alone T D
two_alone {X} {V} {W} {T} {D} {A} {F} {B} {G} two one other x y s t ix iy e =
    let cut : A (two.first x) ++ (B (two.second x) ++ s) ≡ A (two.first y) ++ (B (two.second y) ++ t)
    = sym (append_assoc (A (two.first x)) (B (two.second x)) s) ∙ ap (λ w. w ++ s) (sym (two.block_is x ix)) ∙ e ∙ ap (λ w. w ++ t) (two.block_is y iy)
    ∙ append_assoc (A (two.first y)) (B (two.second y)) t in
    let first : two.first y ≡ two.first x = one (two.first x) (two.first y) (B (two.second x) ++ s) (B (two.second y) ++ t) (two.first_is x ix) (two.first_is y iy) cut in
    let tail : B (two.second x) ++ s ≡ B (two.second y) ++ t
    = append_cancel_left (A (two.first x)) (B (two.second x) ++ s) (B (two.second y) ++ t) (cut ∙ ap (λ v. A v ++ (B (two.second y) ++ t)) first) in
    let second : two.second y ≡ two.second x = other (two.second x) (two.second y) s t (two.second_is x ix) (two.second_is y iy) tail in
    two.made y iy ∙ ap (λ v. two.make v (two.second y)) first ∙ ap (λ w. two.make (two.first x) w) second ∙ sym (two.made x ix)

one_alone : {X V : Type 0} {T : X → List ℕ} {D : X → Type 0} {A : V → List ℕ} {F : V → Type 0} → One T D A F → Alone A F → Alone T D
one_alone part alone x y s t ix iy e =
    part.made y iy ∙ ap part.make
    (alone (part.part x) (part.part y) s t (part.part_is x ix) (part.part_is y iy)
    (ap (λ w. w ++ s) (sym (part.block_is x ix)) ∙ e ∙ ap (λ w. w ++ t) (part.block_is y iy))) ∙ sym (part.made x ix)

-- Blocks one after another.
turn_alone : {X : Type 0} (T : X → List ℕ) (D : X → Type 0) → Alone T D → (xs ys : List X) (s t : List ℕ) → length xs ≡ length ys → AllByRecursion D xs
    → AllByRecursion D ys → in_turn T xs ++ s ≡ in_turn T ys ++ t → ys ≡ xs
turn_alone T D alone [] [] s t size ix iy e = refl
turn_alone T D alone [] (y ∷ ys) s t size ix iy e = absurd (omega (arith, size))
turn_alone T D alone (x ∷ xs) [] s t size ix iy e = absurd (omega (arith, size))
turn_alone T D alone (x ∷ xs) (y ∷ ys) s t size ix iy e =
    let cut : T x ++ (in_turn T xs ++ s) ≡ T y ++ (in_turn T ys ++ t) = sym (append_assoc (T x) (in_turn T xs) s) ∙ e ∙ append_assoc (T y) (in_turn T ys) t in
    let first : y ≡ x = alone x y (in_turn T xs ++ s) (in_turn T ys ++ t) ix.0 iy.0 cut in
    let tail : in_turn T xs ++ s ≡ in_turn T ys ++ t = append_cancel_left (T x) (in_turn T xs ++ s) (in_turn T ys ++ t) (cut ∙ ap (λ z. T z ++ (in_turn T ys ++ t)) first) in
    ap (λ z. z ∷ ys) first ∙ ap (λ zs. x ∷ zs) (turn_alone T D alone xs ys s t (omega (arith, size)) ix.1 iy.1 tail)

count_alone : (word : List ℕ) → IsLine (count_line word) IsNumber → Alone (λ n. written_line (count_line word n)) IsNumber
count_alone word kind = shape_alone (count_shape word) kind number_tells

counted_alone : {X : Type 0} (word : List ℕ) (T : X → List ℕ) (D : X → Type 0) → IsLine (count_line word) IsNumber → Alone T D → Alone (count_and_blocks word T) (AreItemsCounted D)
counted_alone word T D kind alone xs ys s t ix iy e =
    let line = λ (n : ℕ). written_line (count_line word n) in
    let cut : line (length xs) ++ (in_turn T xs ++ s) ≡ line (length ys) ++ (in_turn T ys ++ t) = sym (append_assoc (line (length xs)) (in_turn T xs) s) ∙ e
    ∙ append_assoc (line (length ys)) (in_turn T ys) t in
    let size : length ys ≡ length xs = count_alone word kind (length xs) (length ys) (in_turn T xs ++ s) (in_turn T ys ++ t) ix.1 iy.1 cut in
    let tail : in_turn T xs ++ s ≡ in_turn T ys ++ t = append_cancel_left (line (length xs)) (in_turn T xs ++ s) (in_turn T ys ++ t) (cut ∙ ap (λ n. line n ++ (in_turn T ys ++ t)) size) in
    turn_alone T D alone xs ys s t (sym size) (recursion_from_All D xs ix.0) (recursion_from_All D ys iy.0) tail

-- The lines of each kind.
tick_no_space : IsFieldForm decimal IsTick
tick_no_space = bounded_no_space 1000000000000000000 (omega arith)

policy_tells : (x y : Policy) → IsAny x → IsAny y → join_with_byte 32 (policy_line x) ≡ join_with_byte 32 (policy_line y) → y ≡ x
policy_tells policies.Edf policies.Edf ix iy e = refl
policy_tells policies.Fixed policies.Fixed ix iy e = refl
policy_tells policies.Edf policies.Fixed ix iy e = let wrong : ◌≡◌ {A = ℕ} 10 12 = ap length e in absurd (omega (arith, wrong))
policy_tells policies.Fixed policies.Edf ix iy e = let wrong : ◌≡◌ {A = ℕ} 12 10 = ap length e in absurd (omega (arith, wrong))

policy_alone : Alone (λ p. written_line (policy_line p)) IsAny
policy_alone = line_alone policy_line IsAny policy_kind policy_tells

entry_alone : Alone (λ e. written_line (entry_line e)) IsInRangeEntry
entry_alone =
    shape_alone entry_shape entry_kind
    (pair_tells decimal IsNumber (pair_form decimal decimal) (AreBoth IsTick (λ n. n ≤ 2000000000000000000)) number_no_space number_tells
    (pair_tells decimal IsTick decimal (λ n. n ≤ 2000000000000000000) tick_no_space tick_tells (decimal_tells 2000000000000000000 (omega arith))))

release_alone : Alone (λ r. written_line (release_line r)) IsInRangeRelease
release_alone =
    shape_alone release_shape release_kind
    (pair_tells decimal IsNumber (pair_form decimal (pair_form decimal decimal)) (AreBoth IsNumber (AreBoth IsTick IsTick)) number_no_space number_tells
    (pair_tells decimal IsNumber (pair_form decimal decimal) (AreBoth IsTick IsTick) number_no_space number_tells (pair_tells decimal IsTick decimal IsTick tick_no_space tick_tells tick_tells)))

miss_alone : Alone (λ m. written_line (miss_line m)) IsInRangeMiss
miss_alone =
    shape_alone miss_shape miss_kind
    (pair_tells decimal IsNumber (pair_form decimal decimal) (AreBoth IsNumber IsTick) number_no_space number_tells
    (pair_tells decimal IsNumber decimal IsTick number_no_space number_tells tick_tells))

pair_alone : Alone (λ p. written_line (pair_line p)) IsInRangePair
pair_alone = shape_alone pair_shape pair_kind (pair_tells decimal IsNumber decimal IsNumber number_no_space number_tells number_tells)

numbers_alone : (word : List ℕ) → IsLine (numbers_line word) (AreItemsCounted IsNumber) → Alone (λ xs. written_line (numbers_line word xs)) (AreItemsCounted IsNumber)
numbers_alone word kind = shape_alone (numbers_shape word) kind (list_tells decimal IsNumber number_no_space number_tells)

potentials_alone : Alone (λ xs. written_line (potentials_line xs)) (AreItemsCounted IsInRangePotential)
potentials_alone = shape_alone potentials_shape potentials_kind (list_tells signed_decimal IsInRangePotential potential_no_space signed_tells)

proof_alone : Alone (λ p. written_line (proof_line p)) IsInRangeProof
proof_alone =
    shape_alone proof_shape proof_kind
    (pair_tells decimal IsNumber (pair_form decimal (list_form item_field)) (AreBoth IsNumber (AreItemsCounted IsInRangeItem)) number_no_space number_tells
    (pair_tells decimal IsNumber (list_form item_field) (AreItemsCounted IsInRangeItem) number_no_space number_tells (list_tells item_field IsInRangeItem item_no_space item_tells)))

-- The lines of tails and searches.
cut_number_tells : TellsCut (spaced_form decimal) IsNumber
cut_number_tells = one_tells decimal IsNumber number_no_space number_tells

cut_tick_tells : TellsCut (spaced_form decimal) IsTick
cut_tick_tells = one_tells decimal IsTick tick_no_space tick_tells

cut_work_tells : TellsCut (spaced_form decimal) IsWork
cut_work_tells = one_tells decimal IsWork (bounded_no_space 2000000000000000000 (omega arith)) (decimal_tells 2000000000000000000 (omega arith))

jump_tells : TellsCut jump_form IsInRangeJump
jump_tells = made_tells jump_made (join_tells number_form IsTick one_number (AreBoth IsWork IsSpaced) (λ y is. refl) cut_tick_tells cut_work_tells)

entry_tells : TellsCut entry_form IsInRangeStateEntry
entry_tells =
    made_tells entry_made
    (join_tells number_form IsNumber two_numbers (AreBoth IsNumber (AreBoth IsTick IsSpaced)) (λ y is. refl) cut_number_tells
    (join_tells number_form IsNumber one_number (AreBoth IsTick IsSpaced) (λ y is. refl) cut_number_tells cut_tick_tells))

one_end : (x y : StateEnd) → item_of y ≡ item_of x → numbers_of y ≡ numbers_of x → y ≡ x
one_end (Passes a) (Passes b) e f = let same : b ≡ a = cc in ap Passes same
one_end (Passes a) (Splits q ds) e f = absurd (cc)
one_end (Splits p cs) (Passes b) e f = absurd (cc)
one_end (Splits p cs) (Splits q ds) e f = let same : q ≡ p = cc in ap (λ r. Splits r ds) same ∙ ap (λ ns. Splits p ns) f

numbers_in_range : (e : StateEnd) → IsInRangeEnd e → All IsNumber (numbers_of e)
numbers_in_range (Passes t) is = All-nil IsNumber
numbers_in_range (Splits place children) is = is.1

end_tells : Tells end_form IsInRangeEnd
end_tells x y ix iy e =
    let cut : join_form (spaced_form item_field) numbers_form (item_of x, numbers_of x) ≡ join_form (spaced_form item_field) numbers_form (item_of y, numbers_of y)
    = sym (end_split x) ∙ e ∙ end_split y in
    let same = one_tells item_field IsInRangeItem item_no_space item_tells (item_of x, numbers_form (numbers_of x)) (item_of y, numbers_form (numbers_of y))
    (item_in_range x ix, fields_behind (map decimal (numbers_of x))) (item_in_range y iy, fields_behind (map decimal (numbers_of y))) cut in
    one_end x y (ap (λ (p : Item × List ℕ). p.0) same)
    (each_tells decimal IsNumber number_no_space number_tells (numbers_of x) (numbers_of y) (numbers_in_range x ix) (numbers_in_range y iy) (sym (ap (λ (p : Item × List ℕ). p.1) same)))

curve_alone : Alone (λ c. written_line (curve_line c)) IsInRangeCurve
curve_alone =
    shape_alone curve_shape curve_kind
    (bare_tells (bare_list jump_form) IsInRangeCurve (ended_tells (counted_form jump_form) IsInRangeCurve (counted_tells jump_form IsInRangeJump jump_spaced jump_tells)))

state_tells : Tells state_form AreStateParts
state_tells =
    join_tells (counted_form entry_form) (AreItemsCounted IsInRangeStateEntry) work_and_end (AreBoth IsWork IsInRangeEnd) (λ y is. refl)
    (counted_tells entry_form IsInRangeStateEntry entry_spaced entry_tells) (join_tells (spaced_form decimal) IsWork end_form IsInRangeEnd end_opened cut_work_tells end_tells)

state_alone : Alone one_state IsInRangeState
state_alone = shape_alone state_shape state_kind (bare_tells bare_state AreStateParts state_tells)

opening_alone : Alone opening_block IsInRangeWrittenSearch
opening_alone =
    shape_alone search_shape search_kind
    (pair_tells decimal IsNumber (pair_form decimal decimal) (AreBoth IsNumber IsNumber) number_no_space number_tells
    (pair_tells decimal IsNumber decimal IsNumber number_no_space number_tells number_tells))

ratio_tells : Tells (pair_form decimal decimal) AreParts
ratio_tells x y ix iy e =
    let r = cut_same (decimal x.0) (decimal y.0) (32 ∷ decimal x.1) (32 ∷ decimal y.1) (part_no_space x.0 ix.0) (part_no_space y.0 iy.0) refl refl e in
    let tail : decimal x.1 ≡ decimal y.1 = cc in
    ap (λ a. (a, y.1)) (decimal_tells 1000000000 (omega arith) x.0 y.0 ix.0 iy.0 r.0) ∙ ap (λ b. (x.0, b)) (decimal_tells 1000000000 (omega arith) x.1 y.1 ix.1.1 iy.1.1 tail)
  where
    part_no_space : IsFieldForm decimal (λ n. n ≤ 1000000000)
    part_no_space = bounded_no_space 1000000000 (omega arith)

fraction_alone : Alone (λ r. written_line (written_ratio_line r)) IsInRangeWritten
fraction_alone = shape_alone ratio_shape ratio_kind ratio_tells

-- The blocks.
word_count : (word : List ℕ) → is_plain word ≡ true → IsLine (count_line word) IsNumber
word_count word is = count_kind word (plain_word word is)

ratio_alone : Alone (λ c. written (ratio_lines c)) IsInRangeRatio
ratio_alone = two_alone ratio_parts fraction_alone (two_alone ratio_rest_parts (numbers_alone (codes "cycle") (numbers_kind (codes "cycle") (plain_word (codes "cycle") refl))) potentials_alone)

alone_as : {X : Type 0} {T U : X → List ℕ} {D : X → Type 0} → T ≡ U → Alone T D → Alone U D
alone_as {X} {T} {U} {D} same alone = subst (λ (W : X → List ℕ). Alone W D) same alone

front_alone : Alone (λ f. written (front_lines f)) IsInRangeFront
front_alone = alone_as front_same (counted_alone (codes "front") (λ e. written_line (entry_line e)) IsInRangeEntry (word_count (codes "front") refl) entry_alone)

walk_alone : Alone (λ w. written_line (walk_line w)) IsInRangeWalk
walk_alone = numbers_alone (codes "walk") (numbers_kind (codes "walk") (plain_word (codes "walk") refl))

tree_alone : Alone (λ t. written (tree_lines t)) IsInRangeTree
tree_alone =
    two_alone tree_parts (counted_alone (codes "tree") (λ w. written_line (walk_line w)) IsInRangeWalk (word_count (codes "tree") refl) walk_alone)
    (counted_alone (codes "pairs") (λ p. written_line (pair_line p)) IsInRangePair (word_count (codes "pairs") refl) pair_alone)

tail_alone : Alone (λ t. written (tail_lines t)) IsInRangeTail
tail_alone = one_alone tail_part (counted_alone (codes "tail") (λ c. written_line (curve_line c)) IsInRangeCurve (word_count (codes "tail") refl) curve_alone)

search_alone : Alone (λ s. written (search_lines s)) IsInRangeSearch
search_alone x y s t ix iy e =
    let below = λ (z : SearchClaim). in_turn one_state z.states in
    let cut : opening_block (opening_of x) ++ (below x ++ s) ≡ opening_block (opening_of y) ++ (below y ++ t)
    = sym (append_assoc (opening_block (opening_of x)) (below x) s) ∙ ap (λ w. w ++ s) (sym (search_parts x ix).1) ∙ e ∙ ap (λ w. w ++ t) (search_parts y iy).1
    ∙ append_assoc (opening_block (opening_of y)) (below y) t in
    let first : opening_of y ≡ opening_of x
    = opening_alone (opening_of x) (opening_of y) (below x ++ s) (below y ++ t) (search_parts x ix).0 (search_parts y iy).0 cut in
    let tail : below x ++ s ≡ below y ++ t
    = append_cancel_left (opening_block (opening_of x)) (below x ++ s) (below y ++ t) (cut ∙ ap (λ o. opening_block o ++ (below y ++ t)) first) in
    let size : length x.states ≡ length y.states = sym (ap (λ (o : WrittenSearch). o.count) first) in
    let states : y.states ≡ x.states
    = turn_alone one_state IsInRangeState state_alone x.states y.states s t size (recursion_from_All IsInRangeState x.states ix.states) (recursion_from_All IsInRangeState y.states iy.states) tail in
    ap (λ (o : WrittenSearch). search_with o y.states) first ∙ ap (λ zs. search_with (opening_of x) zs) states

tails_alone : Alone (λ ts. written (tail_block ts)) (AreItemsCounted IsInRangeTail)
tails_alone = alone_as tails_same (counted_alone (codes "tails") (λ t. written (tail_lines t)) IsInRangeTail (word_count (codes "tails") refl) tail_alone)

searches_alone : Alone (λ ss. written (search_block ss)) (AreItemsCounted IsInRangeSearch)
searches_alone = alone_as searches_same (counted_alone (codes "searches") (λ s. written (search_lines s)) IsInRangeSearch (word_count (codes "searches") refl) search_alone)

ratios_alone : Alone (λ rs. written (ratio_block rs)) (AreItemsCounted IsInRangeRatio)
ratios_alone = alone_as ratios_same (counted_alone (codes "ratios") (λ c. written (ratio_lines c)) IsInRangeRatio (word_count (codes "ratios") refl) ratio_alone)

fronts_alone : Alone (λ fs. written (front_block fs)) (AreItemsCounted IsInRangeFront)
fronts_alone = alone_as fronts_same (counted_alone (codes "fronts") (λ f. written (front_lines f)) IsInRangeFront (word_count (codes "fronts") refl) front_alone)

trees_alone : Alone (λ ts. written (tree_block ts)) (AreItemsCounted IsInRangeTree)
trees_alone = alone_as trees_same (counted_alone (codes "trees") (λ t. written (tree_lines t)) IsInRangeTree (word_count (codes "trees") refl) tree_alone)

proofs_alone : Alone (λ ps. written (proof_block ps)) (AreItemsCounted IsInRangeProof)
proofs_alone = alone_as proofs_same (counted_alone (codes "proofs") (λ p. written_line (proof_line p)) IsInRangeProof (word_count (codes "proofs") refl) proof_alone)

named_alone : Alone named_block AreNamed
named_alone = two_alone release_parts (counted_alone (codes "releases") (λ r. written_line (release_line r)) IsInRangeRelease (word_count (codes "releases") refl) release_alone) miss_alone

body_alone : (k : KindOfEvidence) → Alone (λ e. written (body_lines e)) (IsOfKind k)
body_alone kinds.EdfYes = two_alone edf_yes_parts ratios_alone fronts_alone
body_alone kinds.EdfNo = one_alone edf_no_part named_alone
body_alone kinds.UtilisationOne = one_alone one_part ratios_alone
body_alone kinds.FixedYes = two_alone fixed_yes_parts trees_alone proofs_alone
body_alone kinds.FixedStates = two_alone fixed_states_parts tails_alone searches_alone
body_alone kinds.FixedNo = one_alone fixed_no_part named_alone
body_alone kinds.Undecided = λ x y s t ix iy e. only_undecided (λ z. z ≡ x) (sym (only_undecided (λ z. z ≡ Undecided) refl x ix.1)) y iy.1

-- The length of a line and its tenth byte, in one number.
abbrev mark : List ℕ → ℕ
mark line = length line * 1000 + get_or line 9 0

kind_tells : (x y : KindOfEvidence) → IsAny x → IsAny y → join_with_byte 32 (kind_line x) ≡ join_with_byte 32 (kind_line y) → y ≡ x
kind_tells kinds.EdfYes kinds.EdfYes ix iy e = refl
kind_tells kinds.EdfYes kinds.EdfNo ix iy e = let wrong : ◌≡◌ {A = ℕ} 16101 15101 = ap mark e in absurd (omega (arith, wrong))
kind_tells kinds.EdfYes kinds.UtilisationOne ix iy e = let wrong : ◌≡◌ {A = ℕ} 16101 24117 = ap mark e in absurd (omega (arith, wrong))
kind_tells kinds.EdfYes kinds.FixedYes ix iy e = let wrong : ◌≡◌ {A = ℕ} 16101 18102 = ap mark e in absurd (omega (arith, wrong))
kind_tells kinds.EdfYes kinds.FixedStates ix iy e = let wrong : ◌≡◌ {A = ℕ} 16101 21102 = ap mark e in absurd (omega (arith, wrong))
kind_tells kinds.EdfYes kinds.FixedNo ix iy e = let wrong : ◌≡◌ {A = ℕ} 16101 17102 = ap mark e in absurd (omega (arith, wrong))
kind_tells kinds.EdfYes kinds.Undecided ix iy e = let wrong : ◌≡◌ {A = ℕ} 16101 18117 = ap mark e in absurd (omega (arith, wrong))
kind_tells kinds.EdfNo kinds.EdfYes ix iy e = let wrong : ◌≡◌ {A = ℕ} 15101 16101 = ap mark e in absurd (omega (arith, wrong))
kind_tells kinds.EdfNo kinds.EdfNo ix iy e = refl
kind_tells kinds.EdfNo kinds.UtilisationOne ix iy e = let wrong : ◌≡◌ {A = ℕ} 15101 24117 = ap mark e in absurd (omega (arith, wrong))
kind_tells kinds.EdfNo kinds.FixedYes ix iy e = let wrong : ◌≡◌ {A = ℕ} 15101 18102 = ap mark e in absurd (omega (arith, wrong))
kind_tells kinds.EdfNo kinds.FixedStates ix iy e = let wrong : ◌≡◌ {A = ℕ} 15101 21102 = ap mark e in absurd (omega (arith, wrong))
kind_tells kinds.EdfNo kinds.FixedNo ix iy e = let wrong : ◌≡◌ {A = ℕ} 15101 17102 = ap mark e in absurd (omega (arith, wrong))
kind_tells kinds.EdfNo kinds.Undecided ix iy e = let wrong : ◌≡◌ {A = ℕ} 15101 18117 = ap mark e in absurd (omega (arith, wrong))
kind_tells kinds.UtilisationOne kinds.EdfYes ix iy e = let wrong : ◌≡◌ {A = ℕ} 24117 16101 = ap mark e in absurd (omega (arith, wrong))
kind_tells kinds.UtilisationOne kinds.EdfNo ix iy e = let wrong : ◌≡◌ {A = ℕ} 24117 15101 = ap mark e in absurd (omega (arith, wrong))
kind_tells kinds.UtilisationOne kinds.UtilisationOne ix iy e = refl
kind_tells kinds.UtilisationOne kinds.FixedYes ix iy e = let wrong : ◌≡◌ {A = ℕ} 24117 18102 = ap mark e in absurd (omega (arith, wrong))
kind_tells kinds.UtilisationOne kinds.FixedStates ix iy e = let wrong : ◌≡◌ {A = ℕ} 24117 21102 = ap mark e in absurd (omega (arith, wrong))
kind_tells kinds.UtilisationOne kinds.FixedNo ix iy e = let wrong : ◌≡◌ {A = ℕ} 24117 17102 = ap mark e in absurd (omega (arith, wrong))
kind_tells kinds.UtilisationOne kinds.Undecided ix iy e = let wrong : ◌≡◌ {A = ℕ} 24117 18117 = ap mark e in absurd (omega (arith, wrong))
kind_tells kinds.FixedYes kinds.EdfYes ix iy e = let wrong : ◌≡◌ {A = ℕ} 18102 16101 = ap mark e in absurd (omega (arith, wrong))
kind_tells kinds.FixedYes kinds.EdfNo ix iy e = let wrong : ◌≡◌ {A = ℕ} 18102 15101 = ap mark e in absurd (omega (arith, wrong))
kind_tells kinds.FixedYes kinds.UtilisationOne ix iy e = let wrong : ◌≡◌ {A = ℕ} 18102 24117 = ap mark e in absurd (omega (arith, wrong))
kind_tells kinds.FixedYes kinds.FixedYes ix iy e = refl
kind_tells kinds.FixedYes kinds.FixedStates ix iy e = let wrong : ◌≡◌ {A = ℕ} 18102 21102 = ap mark e in absurd (omega (arith, wrong))
kind_tells kinds.FixedYes kinds.FixedNo ix iy e = let wrong : ◌≡◌ {A = ℕ} 18102 17102 = ap mark e in absurd (omega (arith, wrong))
kind_tells kinds.FixedYes kinds.Undecided ix iy e = let wrong : ◌≡◌ {A = ℕ} 18102 18117 = ap mark e in absurd (omega (arith, wrong))
kind_tells kinds.FixedStates kinds.EdfYes ix iy e = let wrong : ◌≡◌ {A = ℕ} 21102 16101 = ap mark e in absurd (omega (arith, wrong))
kind_tells kinds.FixedStates kinds.EdfNo ix iy e = let wrong : ◌≡◌ {A = ℕ} 21102 15101 = ap mark e in absurd (omega (arith, wrong))
kind_tells kinds.FixedStates kinds.UtilisationOne ix iy e = let wrong : ◌≡◌ {A = ℕ} 21102 24117 = ap mark e in absurd (omega (arith, wrong))
kind_tells kinds.FixedStates kinds.FixedYes ix iy e = let wrong : ◌≡◌ {A = ℕ} 21102 18102 = ap mark e in absurd (omega (arith, wrong))
kind_tells kinds.FixedStates kinds.FixedStates ix iy e = refl
kind_tells kinds.FixedStates kinds.FixedNo ix iy e = let wrong : ◌≡◌ {A = ℕ} 21102 17102 = ap mark e in absurd (omega (arith, wrong))
kind_tells kinds.FixedStates kinds.Undecided ix iy e = let wrong : ◌≡◌ {A = ℕ} 21102 18117 = ap mark e in absurd (omega (arith, wrong))
kind_tells kinds.FixedNo kinds.EdfYes ix iy e = let wrong : ◌≡◌ {A = ℕ} 17102 16101 = ap mark e in absurd (omega (arith, wrong))
kind_tells kinds.FixedNo kinds.EdfNo ix iy e = let wrong : ◌≡◌ {A = ℕ} 17102 15101 = ap mark e in absurd (omega (arith, wrong))
kind_tells kinds.FixedNo kinds.UtilisationOne ix iy e = let wrong : ◌≡◌ {A = ℕ} 17102 24117 = ap mark e in absurd (omega (arith, wrong))
kind_tells kinds.FixedNo kinds.FixedYes ix iy e = let wrong : ◌≡◌ {A = ℕ} 17102 18102 = ap mark e in absurd (omega (arith, wrong))
kind_tells kinds.FixedNo kinds.FixedStates ix iy e = let wrong : ◌≡◌ {A = ℕ} 17102 21102 = ap mark e in absurd (omega (arith, wrong))
kind_tells kinds.FixedNo kinds.FixedNo ix iy e = refl
kind_tells kinds.FixedNo kinds.Undecided ix iy e = let wrong : ◌≡◌ {A = ℕ} 17102 18117 = ap mark e in absurd (omega (arith, wrong))
kind_tells kinds.Undecided kinds.EdfYes ix iy e = let wrong : ◌≡◌ {A = ℕ} 18117 16101 = ap mark e in absurd (omega (arith, wrong))
kind_tells kinds.Undecided kinds.EdfNo ix iy e = let wrong : ◌≡◌ {A = ℕ} 18117 15101 = ap mark e in absurd (omega (arith, wrong))
kind_tells kinds.Undecided kinds.UtilisationOne ix iy e = let wrong : ◌≡◌ {A = ℕ} 18117 24117 = ap mark e in absurd (omega (arith, wrong))
kind_tells kinds.Undecided kinds.FixedYes ix iy e = let wrong : ◌≡◌ {A = ℕ} 18117 18102 = ap mark e in absurd (omega (arith, wrong))
kind_tells kinds.Undecided kinds.FixedStates ix iy e = let wrong : ◌≡◌ {A = ℕ} 18117 21102 = ap mark e in absurd (omega (arith, wrong))
kind_tells kinds.Undecided kinds.FixedNo ix iy e = let wrong : ◌≡◌ {A = ℕ} 18117 17102 = ap mark e in absurd (omega (arith, wrong))
kind_tells kinds.Undecided kinds.Undecided ix iy e = refl

kind_alone : Alone (λ k. written_line (kind_line k)) IsAny
kind_alone = line_alone kind_line IsAny kind_kind kind_tells

evidence_alone : Alone (λ e. written (evidence_lines e)) IsEvidenceInRange
evidence_alone x y s t ix iy e =
    let line = λ (k : KindOfEvidence). written_line (kind_line k) in
    let below = λ (z : Evidence). written (body_lines z) ++ close_block tt in
    let cut : line (kind_of x) ++ (below x ++ s) ≡ line (kind_of y) ++ (below y ++ t)
    = sym (append_assoc (line (kind_of x)) (below x) s) ∙ ap (λ w. w ++ s) (sym (kind_parts x ix).1) ∙ e ∙ ap (λ w. w ++ t) (kind_parts y iy).1 ∙ append_assoc (line (kind_of y)) (below y) t in
    let kind : kind_of y ≡ kind_of x = kind_alone (kind_of x) (kind_of y) (below x ++ s) (below y ++ t) tt tt cut in
    let tail : below x ++ s ≡ below y ++ t = append_cancel_left (line (kind_of x)) (below x ++ s) (below y ++ t) (cut ∙ ap (λ k. line k ++ (below y ++ t)) kind) in
    body_alone (kind_of x) x y (close_block tt ++ s) (close_block tt ++ t) (ix, refl) (iy, kind)
    (sym (append_assoc (written (body_lines x)) (close_block tt) s) ∙ tail ∙ append_assoc (written (body_lines y)) (close_block tt) t)

set_alone : Alone canonical IsSet
set_alone x y s t ix iy e = one_front x y s t ix iy e

head_alone : Alone (λ p. written (head_lines p)) IsAny
head_alone = two_alone head_parts (λ x y s t ix iy e. refl) policy_alone

pub text_alone : Alone text IsStated
text_alone = two_alone dossier_parts head_alone (two_alone below_parts set_alone evidence_alone)

-- Bytes are the text of one dossier at most.
pub one_dossier : (bytes : List ℕ) (first second : Statement) → IsDossierText first bytes → IsDossierText second bytes → first ≡ second
one_dossier bytes first second a b = sym (text_alone first second [] [] a.stated b.stated (ap (λ w. w ++ []) (sym a.is ∙ b.is)))
