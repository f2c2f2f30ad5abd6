-- Values at the front of what is left of a line: one field, values behind one another, and counted values.
use Rattle.std.proofs.Common.{◌≡◌, ℕ, ◌+◌, ◌<◌, List, [], ◌∷◌, ◌++◌, length, Option, Some, None, MatchOption, Bor, refl, sym, ap, subst, ◌∙◌, append_assoc, arith, length-append}
use Rattle.std.specs.Prelude.{decimal, option_map}
use Rattle.std.specs.List.{AllByRecursion}
use Rattle.std.proofs.lemmas.List.{append-nil}
use Rattle.std.proofs.lemmas.List.Elements.{All-from_recursion, recursion_from_All}
use Rattle.std.proofs.lemmas.Grind.{flat_map-append}
use Rattle.drt_file.proofs.Again.{all_of_both}
use Rattle.drt_evidence.specs.Blocks.{AreSoMany, in_turn}
use Rattle.drt_evidence.specs.Cuts.{IsFormCut, IsNoCut, IsSpaced, counted_form, join_form, left, spaced_form}
use Rattle.drt_evidence.specs.LineForms.{AreBoth, AreItemsCounted, HasNoSpace, IsFieldForm, IsForm, IsNoForm, itself}
use Rattle.drt_claims.specs.Ranges.{IsNumber}
use Rattle.drt_evidence.proofs.Blocks.{cut_at, empty_list, turn_push}
use Rattle.drt_evidence.proofs.Spaces.{cut_same, cut_spaced, spaced_behind}

-- A form that begins with a space where anything stands behind it.
abbrev pub IsOpened : {A : Type 0} → (A → List ℕ) → Type 0
IsOpened {A} f = (x : A) (t : List ℕ) → IsSpaced (f x ++ t)

-- One field. Nothing is none, and a field that is none isn't the first of any.
pub one_none : {A : Type 0} (f : A → List ℕ) (P : A → Type 0) (rest : Option (Bor (List ℕ))) → rest ≡ None → IsNoCut (spaced_form f) P (left rest)
one_none f P rest none y ranges e =
    let empty : [] ≡ 32 ∷ (f y.0 ++ y.1) = ap left (sym none) ∙ e in
    cc

-- What is left, as the field and what is left behind it.
field_left : (rest others : Option (Bor (List ℕ))) (bytes : Bor (List ℕ)) (field : List ℕ) → rest ≡ Some bytes
    → MatchOption others (bytes.now ≡ field) (λ r. bytes.now ≡ field ++ 32 ∷ r.now) → left rest ≡ 32 ∷ (field ++ left others)
field_left rest others bytes field here cut = ap left here ∙ ap (λ t. 32 ∷ t) (cut_spaced bytes.now field others cut)

-- The first field of a form with something behind it.
first_field : {A : Type 0} (f : A → List ℕ) (P : A → Type 0) → IsFieldForm f P → (all field : List ℕ) (others : Option (Bor (List ℕ))) (y : A × List ℕ) → HasNoSpace field
    → all ≡ 32 ∷ (field ++ left others) → AreBoth P IsSpaced y → all ≡ join_form (spaced_form f) itself y → (field ≡ f y.0) × (left others ≡ y.1)
first_field f P none all field others y alone is ranges e =
    let whole : 32 ∷ (field ++ left others) ≡ 32 ∷ (f y.0 ++ y.1) = sym is ∙ e in
    let tail : field ++ left others ≡ f y.0 ++ y.1 = cc in
    cut_same field (f y.0) (left others) y.1 alone (none y.0 ranges.0) (spaced_behind (option_map (λ r. r.now) others)) ranges.1 tail

pub one_other : {A : Type 0} (f : A → List ℕ) (P : A → Type 0) → IsFieldForm f P → (rest others : Option (Bor (List ℕ))) (bytes : Bor (List ℕ)) (field : List ℕ) → rest ≡ Some bytes
    → HasNoSpace field → MatchOption others (bytes.now ≡ field) (λ r. bytes.now ≡ field ++ 32 ∷ r.now) → IsNoForm f P field → IsNoCut (spaced_form f) P (left rest)
one_other f P none rest others bytes field here alone cut not y ranges e =
    not y.0 ranges.0 (first_field f P none (left rest) field others y alone (field_left rest others bytes field here cut) ranges e).0

pub one_is : {A : Type 0} (f : A → List ℕ) (P : A → Type 0) → IsFieldForm f P → (rest others : Option (Bor (List ℕ))) (bytes : Bor (List ℕ)) (field : List ℕ) (x : A) → rest ≡ Some bytes
    → HasNoSpace field → MatchOption others (bytes.now ≡ field) (λ r. bytes.now ≡ field ++ 32 ∷ r.now) → IsForm f P field x → IsFormCut (spaced_form f) P (left rest) x (left others)
one_is {A} f P none rest others bytes field x here alone cut is = record {
  in_range = (is.in_range, spaced_behind (option_map (λ r. r.now) others));
  is = stands ∙ ap (λ t. 32 ∷ (t ++ left others)) is.is;
  only = only;
}
  where
    stands : left rest ≡ 32 ∷ (field ++ left others)
    stands = field_left rest others bytes field here cut

    only : (y : A × List ℕ) → AreBoth P IsSpaced y → left rest ≡ join_form (spaced_form f) itself y → y ≡ (x, left others)
    only y ranges e =
        let r = first_field f P none (left rest) field others y alone stands ranges e in
        ap (λ t. (y.0, t)) (sym r.1) ∙ ap (λ t. (t, left others)) (is.only y.0 ranges.0 r.0)

-- A value, and another in what is left behind it.
pub join_is : {A B : Type 0} (f : A → List ℕ) (P : A → Type 0) (g : B → List ℕ) (Q : B → Type 0) → ((y : B) → Q y → IsSpaced (g y)) → (all mid : List ℕ) (a : A) (b : B)
    → IsFormCut f P all a mid → IsForm g Q mid b → IsForm (join_form f g) (AreBoth P Q) all (a, b)
join_is {A} {B} f P g Q opened all mid a b first second = record {
  in_range = (first.in_range.0, second.in_range);
  is = first.is ∙ ap (λ t. f a ++ t) second.is;
  only = only;
}
  where
    only : (y : A × B) → AreBoth P Q y → all ≡ join_form f g y → y ≡ (a, b)
    only (x, y) ranges e =
        let same = first.only (x, g y) (ranges.0, opened y ranges.1) e in
        let tail : g y ≡ mid = ap (λ (p : A × List ℕ). p.1) same in
        ap (λ (p : A × List ℕ). (p.0, y)) same ∙ ap (λ t. (a, t)) (second.only y ranges.1 (sym tail))

pub join_first : {A B : Type 0} (f : A → List ℕ) (P : A → Type 0) (g : B → List ℕ) (Q : B → Type 0) → ((y : B) → Q y → IsSpaced (g y)) → (all : List ℕ)
    → IsNoCut f P all → IsNoForm (join_form f g) (AreBoth P Q) all
join_first f P g Q opened all not y ranges e = not (y.0, g y.1) (ranges.0, opened y.1 ranges.1) e

pub join_second : {A B : Type 0} (f : A → List ℕ) (P : A → Type 0) (g : B → List ℕ) (Q : B → Type 0) → ((y : B) → Q y → IsSpaced (g y)) → (all mid : List ℕ) (a : A)
    → IsFormCut f P all a mid → IsNoForm g Q mid → IsNoForm (join_form f g) (AreBoth P Q) all
join_second {A} {B} f P g Q opened all mid a first not y ranges e =
    let same = first.only (y.0, g y.1) (ranges.0, opened y.1 ranges.1) e in
    let tail : g y.1 ≡ mid = ap (λ (p : A × List ℕ). p.1) same in
    not y.1 ranges.1 (sym tail)

-- A value is made of its parts.
pub record IsMade {A T : Type 0} (form : T → List ℕ) (In : T → Type 0) (f : A → List ℕ) (P : A → Type 0) (parts : A → T) : Type 0 where
  pub form_is : (y : A) → f y ≡ form (parts y)
  pub ranges : (y : A) → P y → In (parts y)
  pub back : (y : A) → In (parts y) → P y
  pub one : (x y : A) → parts y ≡ parts x → y ≡ x

pub made_is : {A T : Type 0} {form : T → List ℕ} {In : T → Type 0} {f : A → List ℕ} {P : A → Type 0} {parts : A → T} → IsMade form In f P parts
    → (bytes : List ℕ) (t : T) (x : A) → IsForm form In bytes t → parts x ≡ t → IsForm f P bytes x
made_is {A} {T} {form} {In} {f} {P} {parts} made bytes t x is same = record {
  in_range = made.back x (subst In (sym same) is.in_range);
  is = is.is ∙ ap form (sym same) ∙ sym (made.form_is x);
  only = λ y ranges e. made.one x y (is.only (parts y) (made.ranges y ranges) (e ∙ made.form_is y) ∙ sym same);
}

pub made_none : {A T : Type 0} {form : T → List ℕ} {In : T → Type 0} {f : A → List ℕ} {P : A → Type 0} {parts : A → T} → IsMade form In f P parts
    → (bytes : List ℕ) → IsNoForm form In bytes → IsNoForm f P bytes
made_none {A} {T} {form} {In} {f} {P} {parts} made bytes not y ranges e = not (parts y) (made.ranges y ranges) (e ∙ made.form_is y)

-- The end of a line behind a value, or no end.
pub ended : {A : Type 0} (f : A → List ℕ) (P : A → Type 0) (all : List ℕ) (x : A) → IsFormCut f P all x [] → IsForm f P all x
ended {A} f P all x is = record {
  in_range = is.in_range.0;
  is = is.is ∙ append-nil (f x);
  only = λ y ranges e. ap (λ (p : A × List ℕ). p.0) (is.only (y, []) (ranges, tt) (e ∙ sym (append-nil (f y))));
}

pub not_ended : {A : Type 0} (f : A → List ℕ) (P : A → Type 0) (all rest : List ℕ) (x : A) → IsFormCut f P all x (32 ∷ rest) → IsNoForm f P all
not_ended {A} f P all rest x is y ranges e =
    let same : [] ≡ 32 ∷ rest = ap (λ (p : A × List ℕ). p.1) (is.only (y, []) (ranges, tt) (e ∙ sym (append-nil (f y)))) in
    cc

pub ended_none : {A : Type 0} (f : A → List ℕ) (P : A → Type 0) (all : List ℕ) → IsNoCut f P all → IsNoForm f P all
ended_none f P all not y ranges e = not (y, []) (ranges, tt) (e ∙ sym (append-nil (f y)))

pub ends_there : {A : Type 0} (f : A → List ℕ) (P : A → Type 0) (all : List ℕ) (x : A) (rest : Option (Bor (List ℕ))) → IsFormCut f P all x (left rest) → rest ≡ None
    → IsForm f P all x
ends_there f P all x rest is end = ended f P all x (subst (λ o. IsFormCut f P all x (left o)) end is)

pub goes_on : {A : Type 0} (f : A → List ℕ) (P : A → Type 0) (all : List ℕ) (x : A) (rest : Option (Bor (List ℕ))) (more : Bor (List ℕ)) → IsFormCut f P all x (left rest)
    → rest ≡ Some more → IsNoForm f P all
goes_on f P all x rest more is here = not_ended f P all more.now x (subst (λ o. IsFormCut f P all x (left o)) here is)

-- A number of values, one behind another.
pub turn_opened : {A : Type 0} (f : A → List ℕ) → IsOpened f → (xs : List A) (t : List ℕ) → IsSpaced t → IsSpaced (in_turn f xs ++ t)
turn_opened f opened [] t is = is
turn_opened f opened (x ∷ xs) t is = subst IsSpaced (sym (append_assoc (f x) (in_turn f xs) t)) (opened x (in_turn f xs ++ t))

pub each_start : {A : Type 0} (f : A → List ℕ) (P : A → Type 0) (all : List ℕ) → IsSpaced all → IsFormCut (in_turn f) (AreSoMany 0 P) all [] all
each_start {A} f P all is = record {
  in_range = ((tt, refl), is);
  is = refl;
  only = only;
}
  where
    only : (y : List A × List ℕ) → AreBoth (AreSoMany 0 P) IsSpaced y → all ≡ join_form (in_turn f) itself y → y ≡ ([], all)
    only (ys, t) ranges e =
        let none = empty_list ys ranges.0.1 in
        let rest : all ≡ t = e ∙ ap (λ zs. in_turn f zs ++ t) none in
        ap (λ zs. (zs, t)) none ∙ ap (λ r. ([], r)) (sym rest)

turn_split : {A : Type 0} (f : A → List ℕ) (ys front : List A) (x : A) (more : List A) (t : List ℕ) → ys ≡ front ++ x ∷ more
    → in_turn f ys ++ t ≡ in_turn f front ++ (f x ++ (in_turn f more ++ t))
turn_split f ys front x more t are =
    ap (λ l. in_turn f l ++ t) are ∙ ap (λ w. w ++ t) (flat_map-append f front (x ∷ more))
    ∙ append_assoc (in_turn f front) (f x ++ in_turn f more) t ∙ ap (λ w. in_turn f front ++ w) (append_assoc (f x) (in_turn f more) t)

-- A list of more than n values whose form stands at the front, beside n of them that do.
record Further {A : Type 0} (f : A → List ℕ) (P : A → Type 0) (xs ys : List A) (mid t : List ℕ) : Type 0 where
  here : A
  more : List A
  are : ys ≡ xs ++ here ∷ more
  is : P here
  goes : mid ≡ f here ++ (in_turn f more ++ t)

further : {A : Type 0} (f : A → List ℕ) (P : A → Type 0) → IsOpened f → (n : ℕ) (all mid : List ℕ) (xs ys : List A) (t : List ℕ) → IsFormCut (in_turn f) (AreSoMany n P) all xs mid
    → n < length ys → AllByRecursion P ys → all ≡ in_turn f ys ++ t → Further f P xs ys mid t
further {A} f P opened n all mid xs ys t so_far lt are e =
    let c = cut_at P n ys lt are in
    let behind = in_turn f c.more ++ t in
    let split : in_turn f ys ++ t ≡ in_turn f c.front ++ (f c.here ++ behind) = turn_split f ys c.front c.here c.more t c.are in
    let same = so_far.only (c.front, f c.here ++ behind) (c.fronts, opened c.here behind) (e ∙ split) in
    record {
      here = c.here;
      more = c.more;
      are = c.are ∙ ap (λ (p : List A × List ℕ). p.0 ++ c.here ∷ c.more) same;
      is = c.is;
      goes = sym (ap (λ (p : List A × List ℕ). p.1) same);
    }

-- Where there are n + 1 values beside n, and the last of them is x, they are the n and x.
pushed : {A : Type 0} (f : A → List ℕ) (P : A → Type 0) (n : ℕ) (mid rest : List ℕ) (xs ys : List A) (t : List ℕ) (x : A) → length xs ≡ n → length ys ≡ n + 1 → IsSpaced t
    → IsFormCut f P mid x rest → Further f P xs ys mid t → ◌≡◌ {A = List A × List ℕ} (ys, t) (xs ++ x ∷ [], rest)
pushed {A} f P n mid rest xs ys t x before count behind is p =
    let size : length ys ≡ length xs + length (p.here ∷ p.more) = ap length p.are ∙ length-append xs (p.here ∷ p.more) in
    let none : p.more ≡ [] = empty_list p.more (omega (arith, size, count, before)) in
    let goes : mid ≡ f p.here ++ t = p.goes ∙ ap (λ zs. f p.here ++ (in_turn f zs ++ t)) none in
    let same = is.only (p.here, t) (p.is, behind) goes in
    ap (λ zs. (zs, t)) (p.are ∙ ap (λ zs. xs ++ p.here ∷ zs) none) ∙ ap (λ (q : A × List ℕ). (xs ++ q.0 ∷ [], q.1)) same

pub each_next : {A : Type 0} (f : A → List ℕ) (P : A → Type 0) → IsOpened f → (n : ℕ) (all mid rest : List ℕ) (xs : List A) (x : A) → IsFormCut (in_turn f) (AreSoMany n P) all xs mid
    → IsFormCut f P mid x rest → IsFormCut (in_turn f) (AreSoMany (n + 1) P) all (xs ++ x ∷ []) rest
each_next {A} f P opened n all mid rest xs x so_far is = record {
  in_range = (
    (all_of_both P xs (x ∷ []) so_far.in_range.0.0 (is.in_range.0, tt), let count = so_far.in_range.0.1 in let e = length-append xs (x ∷ []) in omega (arith, count, e)),
    is.in_range.1,
  );
  is = so_far.is ∙ ap (λ t. in_turn f xs ++ t) is.is ∙ sym (append_assoc (in_turn f xs) (f x) rest) ∙ ap (λ t. t ++ rest) (sym (turn_push f xs x));
  only = only;
}
  where
    only : (y : List A × List ℕ) → AreBoth (AreSoMany (n + 1) P) IsSpaced y → all ≡ join_form (in_turn f) itself y → y ≡ (xs ++ x ∷ [], rest)
    only (ys, t) ranges e =
        let count = ranges.0.1 in
        pushed f P n mid rest xs ys t x so_far.in_range.0.1 count ranges.1 is (further f P opened n all mid xs ys t so_far (omega (arith, count)) ranges.0.0 e)

pub each_broken : {A : Type 0} (f : A → List ℕ) (P : A → Type 0) → IsOpened f → (n count : ℕ) → n < count → (all mid : List ℕ) (xs : List A) → IsFormCut (in_turn f) (AreSoMany n P) all xs mid
    → IsNoCut f P mid → IsNoCut (in_turn f) (AreSoMany count P) all
each_broken f P opened n count lt all mid xs so_far not (ys, t) ranges e =
    let size = ranges.0.1 in
    let p = further f P opened n all mid xs ys t so_far (omega (arith, size, lt)) ranges.0.0 e in
    not (p.here, in_turn f p.more ++ t) (p.is, turn_opened f opened p.more t ranges.1) p.goes

-- Counted values.
list_first : {A : Type 0} (f : A → List ℕ) (P : A → Type 0) → IsOpened f → (all mid : List ℕ) (count : ℕ) (ys : List A) (t : List ℕ) → IsFormCut (spaced_form decimal) IsNumber all count mid
    → AreItemsCounted P ys → IsSpaced t → all ≡ counted_form f ys ++ t → (length ys ≡ count) × (mid ≡ in_turn f ys ++ t)
list_first f P opened all mid count ys t counted are behind e =
    let same = counted.only (length ys, in_turn f ys ++ t) (are.1, turn_opened f opened ys t behind) (e ∙ append_assoc (32 ∷ decimal (length ys)) (in_turn f ys) t) in
    (ap (λ (p : ℕ × List ℕ). p.0) same, sym (ap (λ (p : ℕ × List ℕ). p.1) same))

pub list_cut : {A : Type 0} (f : A → List ℕ) (P : A → Type 0) → IsOpened f → (all mid rest : List ℕ) (count : ℕ) (xs : List A) → IsFormCut (spaced_form decimal) IsNumber all count mid
    → IsFormCut (in_turn f) (AreSoMany count P) mid xs rest → IsFormCut (counted_form f) (AreItemsCounted P) all xs rest
list_cut {A} f P opened all mid rest count xs counted is = record {
  in_range = ((All-from_recursion P xs is.in_range.0.0, subst IsNumber (sym is.in_range.0.1) counted.in_range.0), is.in_range.1);
  is = counted.is ∙ ap (λ n. (32 ∷ decimal n) ++ mid) (sym is.in_range.0.1) ∙ ap (λ t. (32 ∷ decimal (length xs)) ++ t) is.is ∙ sym (append_assoc (32 ∷ decimal (length xs)) (in_turn f xs) rest);
  only = only;
}
  where
    only : (y : List A × List ℕ) → AreBoth (AreItemsCounted P) IsSpaced y → all ≡ join_form (counted_form f) itself y → y ≡ (xs, rest)
    only (ys, t) ranges e =
        let first = list_first f P opened all mid count ys t counted ranges.0 ranges.1 e in
        is.only (ys, t) ((recursion_from_All P ys ranges.0.0, first.0), ranges.1) first.1

pub list_none : {A : Type 0} (f : A → List ℕ) (P : A → Type 0) → IsOpened f → (all : List ℕ) → IsNoCut (spaced_form decimal) IsNumber all → IsNoCut (counted_form f) (AreItemsCounted P) all
list_none f P opened all not (ys, t) ranges e =
    not (length ys, in_turn f ys ++ t) (ranges.0.1, turn_opened f opened ys t ranges.1) (e ∙ append_assoc (32 ∷ decimal (length ys)) (in_turn f ys) t)

pub list_broken_off : {A : Type 0} (f : A → List ℕ) (P : A → Type 0) → IsOpened f → (all mid : List ℕ) (count : ℕ) → IsFormCut (spaced_form decimal) IsNumber all count mid
    → IsNoCut (in_turn f) (AreSoMany count P) mid → IsNoCut (counted_form f) (AreItemsCounted P) all
list_broken_off f P opened all mid count counted not (ys, t) ranges e =
    let first = list_first f P opened all mid count ys t counted ranges.0 ranges.1 e in
    not (ys, t) ((recursion_from_All P ys ranges.0.0, first.0), ranges.1) first.1
