-- Forms of pairs, of lines behind a keyword, and of lists.
use Rattle.std.proofs.Common.{◌≡◌, ◌≢◌, ℕ, ◌<◌, ◌≤◌, List, [], ◌∷◌, ◌++◌, length, map, All, Option, Some, None, MatchOption, Bor, refl, sym, ap, subst, ◌∙◌, append_assoc, arith}
use Rattle.std.specs.Prelude.{decimal, option_map}
use Rattle.std.specs.List.{join_with_byte}
use Rattle.std.proofs.lemmas.List.{append-nil, append_cancel_left, map_push}
use Rattle.std.proofs.lemmas.List.Concat.{flat_map-append}
use Rattle.std.proofs.lemmas.List.Elements.{All-nil, All-head, All-tail, All-push}
use Rattle.drt_file.proofs.Digits.{decimal_field}
use Rattle.drt_evidence.specs.Cuts.{left}
use Rattle.drt_evidence.specs.Fields.{behind}
use Rattle.drt_claims.specs.Ranges.{IsNumber}
use Rattle.drt_evidence.specs.LineForms.{HasNoSpace, IsFieldForm, IsForm, IsNoForm, IsLineOf, IsNoLine, spaced, pair_form, AreBoth, IsAny, itself, list_form, AreItemsCounted}
use Rattle.drt_evidence.proofs.Spaces.{cut_same, cut_spaced, no_cut, fields_behind, spaced_behind, field_no_space}

-- A number has no space.
pub decimal_no_space : (n : ℕ) → n < 18446744073709551616 → HasNoSpace (decimal n)
decimal_no_space n lt = field_no_space (decimal n) (decimal_field n (omega (arith, lt)))

pub number_no_space : IsFieldForm decimal IsNumber
number_no_space n le = decimal_no_space n (omega (arith, le))

-- Two values with a space between.
pub pair_is : {A B : Type 0} (f : A → List ℕ) (P : A → Type 0) (g : B → List ℕ) (Q : B → Type 0) → IsFieldForm f P
    → (bytes field rest : List ℕ) (a : A) (b : B) → HasNoSpace field → bytes ≡ field ++ 32 ∷ rest → IsForm f P field a → IsForm g Q rest b
    → IsForm (pair_form f g) (AreBoth P Q) bytes (a, b)
pair_is {A} {B} f P g Q none bytes field rest a b alone cut first second = record {
  in_range = (first.in_range, second.in_range);
  is = cut ∙ ap (λ t. t ++ 32 ∷ rest) first.is ∙ ap (λ t. f a ++ 32 ∷ t) second.is;
  only = only;
}
  where
    only : (y : A × B) → AreBoth P Q y → bytes ≡ pair_form f g y → y ≡ (a, b)
    only (x, y) ranges e =
        let r = cut_same field (f x) (32 ∷ rest) (32 ∷ g y) alone (none x ranges.0) refl refl (sym cut ∙ e) in
        let tail : rest ≡ g y = cc in
        ap (λ t. (t, y)) (first.only x ranges.0 r.0) ∙ ap (λ t. (a, t)) (second.only y ranges.1 tail)

pub pair_alone : {A B : Type 0} (f : A → List ℕ) (P : A → Type 0) (g : B → List ℕ) (Q : B → Type 0) → IsFieldForm f P
    → (bytes field : List ℕ) → HasNoSpace field → bytes ≡ field → IsNoForm (pair_form f g) (AreBoth P Q) bytes
pair_alone f P g Q none bytes field alone is y ranges e = no_cut field (f y.0) (g y.1) alone (none y.0 ranges.0) (sym is ∙ e)

pub pair_first : {A B : Type 0} (f : A → List ℕ) (P : A → Type 0) (g : B → List ℕ) (Q : B → Type 0) → IsFieldForm f P
    → (bytes field rest : List ℕ) → HasNoSpace field → bytes ≡ field ++ 32 ∷ rest → IsNoForm f P field → IsNoForm (pair_form f g) (AreBoth P Q) bytes
pair_first f P g Q none bytes field rest alone cut not y ranges e =
    not y.0 ranges.0 (cut_same field (f y.0) (32 ∷ rest) (32 ∷ g y.1) alone (none y.0 ranges.0) refl refl (sym cut ∙ e)).0

pub pair_second : {A B : Type 0} (f : A → List ℕ) (P : A → Type 0) (g : B → List ℕ) (Q : B → Type 0) → IsFieldForm f P
    → (bytes field rest : List ℕ) → HasNoSpace field → bytes ≡ field ++ 32 ∷ rest → IsNoForm g Q rest → IsNoForm (pair_form f g) (AreBoth P Q) bytes
pair_second f P g Q none bytes field rest alone cut not y ranges e =
    let r = cut_same field (f y.0) (32 ∷ rest) (32 ∷ g y.1) alone (none y.0 ranges.0) refl refl (sym cut ∙ e) in
    let tail : rest ≡ g y.1 = cc in
    not y.1 ranges.1 tail

-- A value and the bytes behind it, and the form of those.
pub rest_is : {A B : Type 0} (f : A → List ℕ) (P : A → Type 0) (g : B → List ℕ) (Q : B → Type 0) → (bytes rest : List ℕ) (a : A) (b : B)
    → IsForm (pair_form f itself) (AreBoth P IsAny) bytes (a, rest) → IsForm g Q rest b → IsForm (pair_form f g) (AreBoth P Q) bytes (a, b)
rest_is {A} {B} f P g Q bytes rest a b first second = record {
  in_range = (first.in_range.0, second.in_range);
  is = first.is ∙ ap (λ t. f a ++ 32 ∷ t) second.is;
  only = only;
}
  where
    only : (y : A × B) → AreBoth P Q y → bytes ≡ pair_form f g y → y ≡ (a, b)
    only (x, y) ranges e =
        let same = first.only (x, g y) (ranges.0, tt) e in
        let tail : g y ≡ rest = ap (λ (p : A × List ℕ). p.1) same in
        ap (λ (p : A × List ℕ). (p.0, y)) same ∙ ap (λ t. (a, t)) (second.only y ranges.1 (sym tail))

pub rest_none : {A B : Type 0} (f : A → List ℕ) (P : A → Type 0) (g : B → List ℕ) (Q : B → Type 0) → (bytes : List ℕ)
    → IsNoForm (pair_form f itself) (AreBoth P IsAny) bytes → IsNoForm (pair_form f g) (AreBoth P Q) bytes
rest_none f P g Q bytes not y ranges e = not (y.0, g y.1) (ranges.0, tt) e

pub rest_broken : {A B : Type 0} (f : A → List ℕ) (P : A → Type 0) (g : B → List ℕ) (Q : B → Type 0) → (bytes rest : List ℕ) (a : A)
    → IsForm (pair_form f itself) (AreBoth P IsAny) bytes (a, rest) → IsNoForm g Q rest → IsNoForm (pair_form f g) (AreBoth P Q) bytes
rest_broken {A} {B} f P g Q bytes rest a first not y ranges e =
    let same = first.only (y.0, g y.1) (ranges.0, tt) e in
    let tail : g y.1 ≡ rest = ap (λ (p : A × List ℕ). p.1) same in
    not y.1 ranges.1 (sym tail)

-- Bytes are their own form.
pub itself_is : (bytes : List ℕ) → IsForm itself IsAny bytes bytes
itself_is bytes = record { in_range = tt; is = refl; only = λ y r e. sym e }

-- A line is a keyword, a space, and the form of its parts.
pub record IsShape {A T : Type 0} (word : List ℕ) (form : T → List ℕ) (In : T → Type 0) (fields : A → List (List ℕ)) (InLine : A → Type 0) (parts : A → T) : Type 0 where
  pub fields_are : (y : A) → join_with_byte 32 (fields y) ≡ word ++ 32 ∷ form (parts y)
  pub ranges : (y : A) → InLine y → In (parts y)
  pub back : (y : A) → In (parts y) → InLine y
  pub one : (x y : A) → parts y ≡ parts x → y ≡ x

pub line_is : {A T : Type 0} {word : List ℕ} {form : T → List ℕ} {In : T → Type 0} {fields : A → List (List ℕ)} {InLine : A → Type 0} {parts : A → T}
    → IsShape word form In fields InLine parts → (line rest : List ℕ) (t : T) (x : A) → line ≡ word ++ 32 ∷ rest → IsForm form In rest t → parts x ≡ t → IsLineOf fields InLine line x
line_is {A} {T} {word} {form} {In} {fields} {InLine} {parts} shape line rest t x opens is same = record {
  in_range = shape.back x (subst In (sym same) is.in_range);
  is = opens ∙ ap (λ r. word ++ 32 ∷ r) (is.is ∙ ap form (sym same)) ∙ sym (shape.fields_are x);
  only = only;
}
  where
    only : (y : A) → InLine y → line ≡ join_with_byte 32 (fields y) → y ≡ x
    only y ranges e =
        let both : 32 ∷ rest ≡ 32 ∷ form (parts y) = append_cancel_left word (32 ∷ rest) (32 ∷ form (parts y)) (sym opens ∙ e ∙ shape.fields_are y) in
        let tail : rest ≡ form (parts y) = cc in
        shape.one x y (is.only (parts y) (shape.ranges y ranges) tail ∙ sym same)

pub line_other : {A T : Type 0} {word : List ℕ} {form : T → List ℕ} {In : T → Type 0} {fields : A → List (List ℕ)} {InLine : A → Type 0} {parts : A → T}
    → IsShape word form In fields InLine parts → (line : List ℕ) → ((rest : List ℕ) → ¬ (line ≡ word ++ 32 ∷ rest)) → IsNoLine fields InLine line
line_other {A} {T} {word} {form} {In} {fields} {InLine} {parts} shape line not y ranges e = not (form (parts y)) (e ∙ shape.fields_are y)

pub line_broken : {A T : Type 0} {word : List ℕ} {form : T → List ℕ} {In : T → Type 0} {fields : A → List (List ℕ)} {InLine : A → Type 0} {parts : A → T}
    → IsShape word form In fields InLine parts → (line rest : List ℕ) → line ≡ word ++ 32 ∷ rest → IsNoForm form In rest → IsNoLine fields InLine line
line_broken {A} {T} {word} {form} {In} {fields} {InLine} {parts} shape line rest opens not y ranges e =
    let both : 32 ∷ rest ≡ 32 ∷ form (parts y) = append_cancel_left word (32 ∷ rest) (32 ∷ form (parts y)) (sym opens ∙ e ∙ shape.fields_are y) in
    let tail : rest ≡ form (parts y) = cc in
    not (parts y) (shape.ranges y ranges) tail

-- The items of a list are found one after the other: these were, and others stand in the rest.
pub record IsBegun {A : Type 0} (f : A → List ℕ) (P : A → Type 0) (all rest : List ℕ) (found : List A) : Type 0 where
  pub in_range : All P found
  pub is : all ≡ behind (map f found) ++ rest
  pub only : (ys : List A) → All P ys → all ≡ behind (map f ys) → (zs : List A) × (ys ≡ found ++ zs) × All P zs × (rest ≡ behind (map f zs))

pub begun : {A : Type 0} (f : A → List ℕ) (P : A → Type 0) (all : List ℕ) → IsBegun f P all all []
begun f P all = record { in_range = All-nil P; is = refl; only = λ ys are e. (ys, refl, are, e) }

-- What a field and the rest say of items that are left.
left_over : {A : Type 0} (f : A → List ℕ) (P : A → Type 0) → IsFieldForm f P → (field : List ℕ) (others : Option (List ℕ)) (zs : List A) → HasNoSpace field → All P zs
    → 32 ∷ (field ++ spaced others) ≡ behind (map f zs) → (z : A) × (ws : List A) × (zs ≡ z ∷ ws) × P z × All P ws × (field ≡ f z) × (spaced others ≡ behind (map f ws))
left_over f P none field others [] alone are e = cc
left_over f P none field others (z ∷ zs) alone are e =
    let tail : field ++ spaced others ≡ f z ++ behind (map f zs) = cc in
    let in_range = All-head P z zs are in
    let r = cut_same field (f z) (spaced others) (behind (map f zs)) alone (none z in_range) (spaced_behind others) (fields_behind (map f zs)) tail in
    (z, zs, refl, in_range, All-tail P z zs are, r.0, r.1)

pub begun_more : {A : Type 0} (f : A → List ℕ) (P : A → Type 0) → IsFieldForm f P → (all bytes field : List ℕ) (others : Option (List ℕ)) (found : List A) (x : A)
    → IsBegun f P all (32 ∷ bytes) found → HasNoSpace field → bytes ≡ field ++ spaced others → IsForm f P field x → IsBegun f P all (spaced others) (found ++ x ∷ [])
begun_more {A} f P none all bytes field others found x so_far alone cut is = record {
  in_range = All-push P found x so_far.in_range is.in_range;
  is = so_far.is ∙ ap (λ t. behind (map f found) ++ 32 ∷ t) (cut ∙ ap (λ t. t ++ spaced others) is.is) ∙ sym pushed;
  only = only;
}
  where
    pushed : behind (map f (found ++ x ∷ [])) ++ spaced others ≡ behind (map f found) ++ 32 ∷ (f x ++ spaced others)
    pushed = ap (λ ws. behind ws ++ spaced others) (map_push f found x) ∙ ap (λ t. t ++ spaced others) (flat_map-append (λ w. 32 ∷ w) (map f found) (f x ∷ []))
        ∙ append_assoc (behind (map f found)) (behind (f x ∷ [])) (spaced others) ∙ ap (λ t. behind (map f found) ++ 32 ∷ (t ++ spaced others)) (append-nil (f x))

    only : (ys : List A) → All P ys → all ≡ behind (map f ys) → (zs : List A) × (ys ≡ (found ++ x ∷ []) ++ zs) × All P zs × (spaced others ≡ behind (map f zs))
    only ys are e =
        let (zs, same, in_range, left) = so_far.only ys are e in
        let (z, ws, zs_are, z_in, ws_in, first, more) = left_over f P none field others zs alone in_range (ap (λ t. 32 ∷ t) (sym cut) ∙ left) in
        (ws, same ∙ ap (λ t. found ++ t) (zs_are ∙ ap (λ t. t ∷ ws) (is.only z z_in first)) ∙ sym (append_assoc found (x ∷ []) ws), ws_in, more)

pub begun_broken : {A : Type 0} (f : A → List ℕ) (P : A → Type 0) → IsFieldForm f P → (all bytes field : List ℕ) (others : Option (List ℕ)) (found : List A)
    → IsBegun f P all (32 ∷ bytes) found → HasNoSpace field → bytes ≡ field ++ spaced others → IsNoForm f P field → IsNoForm (λ xs. behind (map f xs)) (All P) all
begun_broken f P none all bytes field others found so_far alone cut not ys are e =
    let (zs, same, in_range, left) = so_far.only ys are e in
    let (z, ws, zs_are, z_in, ws_in, first, more) = left_over f P none field others zs alone in_range (ap (λ t. 32 ∷ t) (sym cut) ∙ left) in
    not z z_in first

none_left : {A : Type 0} (f : A → List ℕ) (zs : List A) → [] ≡ behind (map f zs) → zs ≡ []
none_left f [] e = refl
none_left f (z ∷ zs) e = cc

pub begun_done : {A : Type 0} (f : A → List ℕ) (P : A → Type 0) (all : List ℕ) (found : List A) → IsBegun f P all [] found → IsForm (λ xs. behind (map f xs)) (All P) all found
begun_done f P all found so_far = record {
  in_range = so_far.in_range;
  is = so_far.is ∙ append-nil (behind (map f found));
  only = λ ys are e.
      let (zs, same, in_range, left) = so_far.only ys are e in
      same ∙ ap (λ t. found ++ t) (none_left f zs left) ∙ append-nil found;
}

-- A list with its count.
pub list_is : {A : Type 0} (f : A → List ℕ) (P : A → Type 0) (bytes field : List ℕ) (others : Option (List ℕ)) (count : ℕ) (xs : List A) → HasNoSpace field → bytes ≡ field ++ spaced others
    → IsForm decimal IsNumber field count → IsForm (λ ys. behind (map f ys)) (All P) (spaced others) xs → length xs ≡ count → IsForm (list_form f) (AreItemsCounted P) bytes xs
list_is {A} f P bytes field others count xs alone cut counted is size = record {
  in_range = (is.in_range, subst IsNumber (sym size) counted.in_range);
  is = cut ∙ ap (λ t. t ++ spaced others) (counted.is ∙ ap decimal (sym size)) ∙ ap (λ t. decimal (length xs) ++ t) is.is;
  only = only;
}
  where
    only : (ys : List A) → AreItemsCounted P ys → bytes ≡ list_form f ys → ys ≡ xs
    only ys are e =
        let r = cut_same field (decimal (length ys)) (spaced others) (behind (map f ys)) alone (number_no_space (length ys) are.1) (spaced_behind others) (fields_behind (map f ys)) (sym cut ∙ e) in
        is.only ys are.0 r.1

pub list_uncounted : {A : Type 0} (f : A → List ℕ) (P : A → Type 0) (bytes field : List ℕ) (others : Option (List ℕ)) → HasNoSpace field → bytes ≡ field ++ spaced others
    → IsNoForm decimal IsNumber field → IsNoForm (list_form f) (AreItemsCounted P) bytes
list_uncounted f P bytes field others alone cut not ys are e =
    not (length ys) are.1
    (cut_same field (decimal (length ys)) (spaced others) (behind (map f ys)) alone (number_no_space (length ys) are.1) (spaced_behind others) (fields_behind (map f ys)) (sym cut ∙ e)).0

pub list_broken : {A : Type 0} (f : A → List ℕ) (P : A → Type 0) (bytes field : List ℕ) (others : Option (List ℕ)) → HasNoSpace field → bytes ≡ field ++ spaced others
    → IsNoForm (λ ys. behind (map f ys)) (All P) (spaced others) → IsNoForm (list_form f) (AreItemsCounted P) bytes
list_broken f P bytes field others alone cut not ys are e =
    not ys are.0 (cut_same field (decimal (length ys)) (spaced others) (behind (map f ys)) alone (number_no_space (length ys) are.1) (spaced_behind others) (fields_behind (map f ys)) (sym cut ∙ e)).1

pub list_miscounted : {A : Type 0} (f : A → List ℕ) (P : A → Type 0) (bytes field : List ℕ) (others : Option (List ℕ)) (count : ℕ) (xs : List A) → HasNoSpace field → bytes ≡ field ++ spaced others
    → IsForm decimal IsNumber field count → IsForm (λ ys. behind (map f ys)) (All P) (spaced others) xs → length xs ≢ count → IsNoForm (list_form f) (AreItemsCounted P) bytes
list_miscounted f P bytes field others count xs alone cut counted is size ys are e =
    let r = cut_same field (decimal (length ys)) (spaced others) (behind (map f ys)) alone (number_no_space (length ys) are.1) (spaced_behind others) (fields_behind (map f ys)) (sym cut ∙ e) in
    size (sym (ap length (is.only ys are.0 r.1)) ∙ counted.only (length ys) are.1 r.0)

-- A number up to a bound of 64 bits has no space.
pub bounded_no_space : (most : ℕ) → most < 18446744073709551616 → IsFieldForm decimal (λ n. n ≤ most)
bounded_no_space most fits n le = decimal_no_space n (omega (arith, le, fits))

-- A line whose value is its one part.
pub line_found : {A : Type 0} {word : List ℕ} {form : A → List ℕ} {In : A → Type 0} {fields : A → List (List ℕ)} → IsShape word form In fields In (λ x. x)
    → (line rest : List ℕ) (o : Option A) → line ≡ word ++ 32 ∷ rest → MatchOption o (IsNoForm form In rest) (λ x. IsForm form In rest x)
    → MatchOption o (IsNoLine fields In line) (λ x. IsLineOf fields In line x)
line_found {A} {word} {form} {In} {fields} shape line rest None opens not = line_broken shape line rest opens not
line_found {A} {word} {form} {In} {fields} shape line rest (Some x) opens is = line_is shape line rest x x opens is refl

-- As a loop finds one item more, one that is none, and no further.
pub loop_more : {A : Type 0} (f : A → List ℕ) (P : A → Type 0) → IsFieldForm f P → (all field : List ℕ) (rest others : Option (Bor (List ℕ))) (bytes : Bor (List ℕ)) (found now : List A) (x : A)
    → IsBegun f P all (left rest) found → rest ≡ Some bytes → HasNoSpace field → MatchOption others (bytes.now ≡ field) (λ r. bytes.now ≡ field ++ 32 ∷ r.now)
    → IsForm f P field x → now ≡ found ++ x ∷ [] → IsBegun f P all (left others) now
loop_more f P none all field rest others bytes found now x so_far here alone cut is more =
    subst (λ xs. IsBegun f P all (left others) xs) (sym more)
    (begun_more f P none all bytes.now field (option_map (λ r. r.now) others) found x (subst (λ o. IsBegun f P all (left o) found) here so_far) alone (cut_spaced bytes.now field others cut) is)

pub loop_broken : {A : Type 0} (f : A → List ℕ) (P : A → Type 0) → IsFieldForm f P → (all field : List ℕ) (rest others : Option (Bor (List ℕ))) (bytes : Bor (List ℕ)) (found : List A)
    → IsBegun f P all (left rest) found → rest ≡ Some bytes → HasNoSpace field → MatchOption others (bytes.now ≡ field) (λ r. bytes.now ≡ field ++ 32 ∷ r.now)
    → IsNoForm f P field → IsNoForm (λ xs. behind (map f xs)) (All P) all
loop_broken f P none all field rest others bytes found so_far here alone cut not =
    begun_broken f P none all bytes.now field (option_map (λ r. r.now) others) found (subst (λ o. IsBegun f P all (left o) found) here so_far) alone (cut_spaced bytes.now field others cut) not

pub loop_done : {A : Type 0} (f : A → List ℕ) (P : A → Type 0) (all : List ℕ) (rest : Option (Bor (List ℕ))) (found : List A)
    → IsBegun f P all (left rest) found → rest ≡ None → IsForm (λ xs. behind (map f xs)) (All P) all found
loop_done f P all rest found so_far end = begun_done f P all found (subst (λ o. IsBegun f P all (left o) found) end so_far)
