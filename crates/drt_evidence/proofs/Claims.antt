-- The forms of jumps, of the entries of a state, of the end of a state, and of its parts.
use Rattle.std.proofs.Common.{◌≡◌, ℕ, List, [], ◌∷◌, ◌++◌, All, map, Option, Some, None, Bor, refl, sym, ap, subst, ◌∙◌, append_assoc}
use Rattle.std.specs.Prelude.{decimal}
use Rattle.std.specs.List.{flat_map}
use Rattle.std.proofs.lemmas.Grind.{flat_map-append}
use Rattle.drt_states.specs.declared.claims.Jump.{Jump}
use Rattle.drt_states.specs.declared.claims.StateEnd.{StateEnd}
use Rattle.drt_states.specs.declared.claims.StateEnd.TheVariants.{Passes, Splits}
use Rattle.drt_states.specs.declared.claims.StateEntry.{StateEntry}
use Rattle.drt_evidence.specs.Cuts.{AreStateParts, IsFormCut, IsNoCut, IsSpaced, counted_form, end_form, entry_form, join_form, jump_form, left, spaced_form, state_form}
use Rattle.drt_evidence.specs.Fields.{behind}
use Rattle.drt_evidence.specs.LineForms.{AreBoth, AreItemsCounted, IsForm, IsNoForm, itself}
use Rattle.drt_claims.specs.Ranges.{IsInRangeEnd, IsInRangeItem, IsInRangeJump, IsInRangeStateEntry, IsNumber, IsTick, IsWork}
use Rattle.drt_evidence.specs.Text.{item_field}
use Rattle.drt_claims.specs.declared.evidence.Item.{Item}
use Rattle.drt_claims.specs.declared.evidence.Item.TheVariants.{Pass, Split}
use Rattle.drt_evidence.proofs.Cuts.{IsMade, join_first, join_is, join_second, made_is, made_none}
use Rattle.drt_evidence.proofs.Spaces.{fields_behind}

-- A number with the space before it.
abbrev pub number_form : ℕ → List ℕ
number_form n = spaced_form decimal n

-- A number and what is left, and two numbers and what is left.
abbrev pub one_number : ℕ × List ℕ → List ℕ
one_number p = join_form number_form itself p

abbrev pub two_numbers : ℕ × (ℕ × List ℕ) → List ℕ
two_numbers p = join_form number_form one_number p

abbrev pub three_numbers : ℕ × (ℕ × (ℕ × List ℕ)) → List ℕ
three_numbers p = join_form number_form two_numbers p

-- A jump with what is left behind it.
pub jump_made : IsMade two_numbers (AreBoth IsTick (AreBoth IsWork IsSpaced)) (join_form jump_form itself) (AreBoth IsInRangeJump IsSpaced)
    (λ (p : Jump × List ℕ). (p.0.offset, (p.0.work, p.1)))
jump_made = record {
  form_is = λ y.
      append_assoc (number_form y.0.offset) (behind (decimal y.0.work ∷ [])) y.1
      ∙ ap (λ t. number_form y.0.offset ++ t) (append_assoc (number_form y.0.work) [] y.1);
  ranges = λ y r. (r.0.0, (r.0.1, r.1));
  back = λ y r. ((r.0, r.1.0), r.1.1);
  one = one;
}
  where
    build : ℕ × (ℕ × List ℕ) → Jump × List ℕ
    build t = (record { offset = t.0; work = t.1.0 }, t.1.1)

    one : (x y : Jump × List ℕ) → ◌≡◌ {A = ℕ × (ℕ × List ℕ)} (y.0.offset, (y.0.work, y.1)) (x.0.offset, (x.0.work, x.1)) → y ≡ x
    one x y e = ap build e

pub jump_first : (all : List ℕ) → IsNoCut (spaced_form decimal) IsTick all → IsNoCut jump_form IsInRangeJump all
jump_first all not = made_none jump_made all (join_first number_form IsTick one_number (AreBoth IsWork IsSpaced) (λ y is. refl) all not)

pub jump_second : (all mid : List ℕ) (offset : ℕ) → IsFormCut (spaced_form decimal) IsTick all offset mid → IsNoCut (spaced_form decimal) IsWork mid → IsNoCut jump_form IsInRangeJump all
jump_second all mid offset first not =
    made_none jump_made all (join_second number_form IsTick one_number (AreBoth IsWork IsSpaced) (λ y is. refl) all mid offset first not)

pub jump_is : (all mid rest : List ℕ) (offset work : ℕ) → IsFormCut (spaced_form decimal) IsTick all offset mid → IsFormCut (spaced_form decimal) IsWork mid work rest
    → IsFormCut jump_form IsInRangeJump all (record { offset = offset; work = work }) rest
jump_is all mid rest offset work first second =
    made_is jump_made all (offset, (work, rest)) (record { offset = offset; work = work }, rest)
    (join_is number_form IsTick one_number (AreBoth IsWork IsSpaced) (λ y is. refl) all mid offset (work, rest) first second) refl

-- An entry of a state with what is left behind it.
abbrev IsEntryTail : ℕ × (ℕ × List ℕ) → Type 0
IsEntryTail p = AreBoth IsNumber (AreBoth IsTick IsSpaced) p

pub entry_made : IsMade three_numbers (AreBoth IsNumber IsEntryTail) (join_form entry_form itself) (AreBoth IsInRangeStateEntry IsSpaced)
    (λ (p : StateEntry × List ℕ). (p.0.place, (p.0.vertex, (p.0.offset, p.1))))
entry_made = record {
  form_is = λ y.
      append_assoc (number_form y.0.place) (behind (decimal y.0.vertex ∷ decimal y.0.offset ∷ [])) y.1
      ∙ ap (λ t. number_form y.0.place ++ t)
      (append_assoc (number_form y.0.vertex) (behind (decimal y.0.offset ∷ [])) y.1
      ∙ ap (λ t. number_form y.0.vertex ++ t) (append_assoc (number_form y.0.offset) [] y.1));
  ranges = λ y r. (r.0.place, (r.0.vertex, (r.0.offset, r.1)));
  back = λ y r. (record { place = r.0; vertex = r.1.0; offset = r.1.1.0 }, r.1.1.1);
  one = one;
}
  where
    build : ℕ × (ℕ × (ℕ × List ℕ)) → StateEntry × List ℕ
    build t = (record { place = t.0; vertex = t.1.0; offset = t.1.1.0 }, t.1.1.1)

    one : (x y : StateEntry × List ℕ)
        → ◌≡◌ {A = ℕ × (ℕ × (ℕ × List ℕ))} (y.0.place, (y.0.vertex, (y.0.offset, y.1))) (x.0.place, (x.0.vertex, (x.0.offset, x.1))) → y ≡ x
    one x y e = ap build e

pub entry_first : (all : List ℕ) → IsNoCut (spaced_form decimal) IsNumber all → IsNoCut entry_form IsInRangeStateEntry all
entry_first all not = made_none entry_made all (join_first number_form IsNumber two_numbers IsEntryTail (λ y is. refl) all not)

pub entry_second : (all mid : List ℕ) (place : ℕ) → IsFormCut (spaced_form decimal) IsNumber all place mid → IsNoCut (spaced_form decimal) IsNumber mid
    → IsNoCut entry_form IsInRangeStateEntry all
entry_second all mid place first not =
    made_none entry_made all
    (join_second number_form IsNumber two_numbers IsEntryTail (λ y is. refl) all mid place first
    (join_first number_form IsNumber one_number (AreBoth IsTick IsSpaced) (λ y is. refl) mid not))

pub entry_third : (all mid last : List ℕ) (place vertex : ℕ) → IsFormCut (spaced_form decimal) IsNumber all place mid → IsFormCut (spaced_form decimal) IsNumber mid vertex last
    → IsNoCut (spaced_form decimal) IsTick last → IsNoCut entry_form IsInRangeStateEntry all
entry_third all mid last place vertex first second not =
    made_none entry_made all
    (join_second number_form IsNumber two_numbers IsEntryTail (λ y is. refl) all mid place first
    (join_second number_form IsNumber one_number (AreBoth IsTick IsSpaced) (λ y is. refl) mid last vertex second not))

pub entry_is : (all mid last rest : List ℕ) (place vertex offset : ℕ) → IsFormCut (spaced_form decimal) IsNumber all place mid → IsFormCut (spaced_form decimal) IsNumber mid vertex last
    → IsFormCut (spaced_form decimal) IsTick last offset rest → IsFormCut entry_form IsInRangeStateEntry all (record { place = place; vertex = vertex; offset = offset }) rest
entry_is all mid last rest place vertex offset first second third =
    made_is entry_made all (place, (vertex, (offset, rest))) (record { place = place; vertex = vertex; offset = offset }, rest)
    (join_is number_form IsNumber two_numbers IsEntryTail (λ y is. refl) all mid place (vertex, (offset, rest)) first
    (join_is number_form IsNumber one_number (AreBoth IsTick IsSpaced) (λ y is. refl) mid last vertex (offset, rest) second third)) refl

-- The end of a state is an item, and numbers behind it.
abbrev pub item_of : StateEnd → Item
item_of (Passes t) = Pass t
item_of (Splits place children) = Split place

abbrev pub numbers_of : StateEnd → List ℕ
numbers_of (Passes t) = []
numbers_of (Splits place children) = children

abbrev pub numbers_form : List ℕ → List ℕ
numbers_form xs = behind (map decimal xs)

pub end_split : (e : StateEnd) → end_form e ≡ join_form (spaced_form item_field) numbers_form (item_of e, numbers_of e)
end_split (Passes t) = refl
end_split (Splits place children) = refl

pub item_in_range : (e : StateEnd) → IsInRangeEnd e → IsInRangeItem (item_of e)
item_in_range (Passes t) is = is
item_in_range (Splits place children) is = is.0

pub end_opened : (e : StateEnd) → IsInRangeEnd e → IsSpaced (end_form e)
end_opened (Passes t) is = refl
end_opened (Splits place children) is = refl

pub end_none : (all : List ℕ) → IsNoCut (spaced_form item_field) IsInRangeItem all → IsNoForm end_form IsInRangeEnd all
end_none all not y ranges e = not (item_of y, numbers_form (numbers_of y)) (item_in_range y ranges, fields_behind (map decimal (numbers_of y))) (e ∙ end_split y)

-- What an item at the front says of an end.
end_item : (all rest : List ℕ) (item : Item) (y : StateEnd) → IsFormCut (spaced_form item_field) IsInRangeItem all item rest → IsInRangeEnd y → all ≡ end_form y
    → (item_of y ≡ item) × (numbers_form (numbers_of y) ≡ rest)
end_item all rest item y is ranges e =
    let same = is.only (item_of y, numbers_form (numbers_of y)) (item_in_range y ranges, fields_behind (map decimal (numbers_of y))) (e ∙ end_split y) in
    (ap (λ (p : Item × List ℕ). p.0) same, ap (λ (p : Item × List ℕ). p.1) same)

pub end_passes : (all : List ℕ) (t : ℕ) → IsFormCut (spaced_form item_field) IsInRangeItem all (Pass t) [] → IsForm end_form IsInRangeEnd all (Passes t)
end_passes all t is = record { in_range = is.in_range.0; is = is.is; only = λ y ranges e. one y ranges (end_item all [] (Pass t) y is ranges e).0 }
  where
    one : (y : StateEnd) → IsInRangeEnd y → item_of y ≡ Pass t → y ≡ Passes t
    one (Passes u) ranges same = let time : u ≡ t = cc in ap Passes time
    one (Splits place children) ranges same = absurd (cc)

pub end_goes_on : (all rest : List ℕ) (t : ℕ) → IsFormCut (spaced_form item_field) IsInRangeItem all (Pass t) (32 ∷ rest) → IsNoForm end_form IsInRangeEnd all
end_goes_on all rest t is y ranges e = never y (end_item all (32 ∷ rest) (Pass t) y is ranges e)
  where
    never : (y : StateEnd) → (item_of y ≡ Pass t) × (numbers_form (numbers_of y) ≡ 32 ∷ rest) → ⊥
    never (Passes u) (same, left) = cc
    never (Splits place children) (same, left) = cc

pub end_splits : (all rest : List ℕ) (place : ℕ) (children : List ℕ) → IsFormCut (spaced_form item_field) IsInRangeItem all (Split place) rest
    → IsForm numbers_form (All IsNumber) rest children → IsForm end_form IsInRangeEnd all (Splits place children)
end_splits all rest place children is numbers = record {
  in_range = (is.in_range.0, numbers.in_range);
  is = is.is ∙ ap (λ t. spaced_form item_field (Split place) ++ t) numbers.is;
  only = λ y ranges e. one y ranges (end_item all rest (Split place) y is ranges e);
}
  where
    one : (y : StateEnd) → IsInRangeEnd y → (item_of y ≡ Split place) × (numbers_form (numbers_of y) ≡ rest) → y ≡ Splits place children
    one (Passes u) ranges (same, left) = absurd (cc)
    one (Splits p cs) ranges (same, left) =
        let place_is : p ≡ place = cc in
        ap (λ q. Splits q cs) place_is ∙ ap (λ ns. Splits place ns) (numbers.only cs ranges.1 (sym left))

pub end_broken : (all rest : List ℕ) (place : ℕ) → IsFormCut (spaced_form item_field) IsInRangeItem all (Split place) rest → IsNoForm numbers_form (All IsNumber) rest
    → IsNoForm end_form IsInRangeEnd all
end_broken all rest place is not y ranges e = never y ranges (end_item all rest (Split place) y is ranges e)
  where
    never : (y : StateEnd) → IsInRangeEnd y → (item_of y ≡ Split place) × (numbers_form (numbers_of y) ≡ rest) → ⊥
    never (Passes u) ranges (same, left) = cc
    never (Splits p cs) ranges (same, left) = not cs ranges.1 (sym left)

-- As a match on an item and what is left behind it finds them.
end_of_item : (all rest : List ℕ) (item same : Item) → item ≡ same → IsFormCut (spaced_form item_field) IsInRangeItem all item rest → IsFormCut (spaced_form item_field) IsInRangeItem all same rest
end_of_item all rest item same is cut = subst (λ i. IsFormCut (spaced_form item_field) IsInRangeItem all i rest) is cut

pub passes_at : (all : List ℕ) (item : Item) (rest : Option (Bor (List ℕ))) (t : ℕ) → IsFormCut (spaced_form item_field) IsInRangeItem all item (left rest) → item ≡ Pass t → rest ≡ None
    → IsForm end_form IsInRangeEnd all (Passes t)
passes_at all item rest t cut is end =
    end_passes all t (subst (λ o. IsFormCut (spaced_form item_field) IsInRangeItem all (Pass t) (left o)) end (end_of_item all (left rest) item (Pass t) is cut))

pub goes_on_at : (all : List ℕ) (item : Item) (rest : Option (Bor (List ℕ))) (t : ℕ) (more : Bor (List ℕ)) → IsFormCut (spaced_form item_field) IsInRangeItem all item (left rest)
    → item ≡ Pass t → rest ≡ Some more → IsNoForm end_form IsInRangeEnd all
goes_on_at all item rest t more cut is here =
    end_goes_on all more.now t (subst (λ o. IsFormCut (spaced_form item_field) IsInRangeItem all (Pass t) (left o)) here (end_of_item all (left rest) item (Pass t) is cut))

pub splits_at : (all rest : List ℕ) (item : Item) (place : ℕ) (children now : List ℕ) → IsFormCut (spaced_form item_field) IsInRangeItem all item rest → item ≡ Split place
    → IsForm numbers_form (All IsNumber) rest children → now ≡ children → IsForm end_form IsInRangeEnd all (Splits place now)
splits_at all rest item place children now cut is numbers same =
    end_splits all rest place now (end_of_item all rest item (Split place) is cut) (subst (λ cs. IsForm numbers_form (All IsNumber) rest cs) (sym same) numbers)

pub broken_at : (all rest : List ℕ) (item : Item) (place : ℕ) → IsFormCut (spaced_form item_field) IsInRangeItem all item rest → item ≡ Split place
    → IsNoForm numbers_form (All IsNumber) rest → IsNoForm end_form IsInRangeEnd all
broken_at all rest item place cut is not = end_broken all rest place (end_of_item all rest item (Split place) is cut) not

-- The work of a state and its end, and its entries before these.
abbrev pub work_and_end : ℕ × StateEnd → List ℕ
work_and_end p = join_form (spaced_form decimal) end_form p

pub parts_first : (all : List ℕ) → IsNoCut (counted_form entry_form) (AreItemsCounted IsInRangeStateEntry) all → IsNoForm state_form AreStateParts all
parts_first all not = join_first (counted_form entry_form) (AreItemsCounted IsInRangeStateEntry) work_and_end (AreBoth IsWork IsInRangeEnd) (λ y is. refl) all not

pub parts_second : (all mid : List ℕ) (entries : List StateEntry) → IsFormCut (counted_form entry_form) (AreItemsCounted IsInRangeStateEntry) all entries mid
    → IsNoForm work_and_end (AreBoth IsWork IsInRangeEnd) mid → IsNoForm state_form AreStateParts all
parts_second all mid entries first not =
    join_second (counted_form entry_form) (AreItemsCounted IsInRangeStateEntry) work_and_end (AreBoth IsWork IsInRangeEnd) (λ y is. refl) all mid entries first not

pub parts_are : (all mid : List ℕ) (entries : List StateEntry) (others : ℕ × StateEnd) → IsFormCut (counted_form entry_form) (AreItemsCounted IsInRangeStateEntry) all entries mid
    → IsForm work_and_end (AreBoth IsWork IsInRangeEnd) mid others → IsForm state_form AreStateParts all (entries, others)
parts_are all mid entries others first second =
    join_is (counted_form entry_form) (AreItemsCounted IsInRangeStateEntry) work_and_end (AreBoth IsWork IsInRangeEnd) (λ y is. refl) all mid entries others first second

-- A form behind a space, and with it.
pub bare_is : {A : Type 0} (f : A → List ℕ) (P : A → Type 0) (bytes : List ℕ) (x : A) → IsForm (spaced_form f) P (32 ∷ bytes) x → IsForm f P bytes x
bare_is f P bytes x is = record {
  in_range = is.in_range;
  is = let whole : 32 ∷ bytes ≡ 32 ∷ f x = is.is in cc;
  only = λ y ranges e. is.only y ranges (ap (λ t. 32 ∷ t) e);
}

pub bare_none : {A : Type 0} (f : A → List ℕ) (P : A → Type 0) (bytes : List ℕ) → IsNoForm (spaced_form f) P (32 ∷ bytes) → IsNoForm f P bytes
bare_none f P bytes not y ranges e = not y ranges (ap (λ t. 32 ∷ t) e)

-- Fields of each value, each with a space before it.
pub behind_flat : {A : Type 0} (f : A → List (List ℕ)) (xs : List A) → behind (flat_map f xs) ≡ flat_map (λ x. behind (f x)) xs
behind_flat f [] = refl
behind_flat f (x ∷ xs) = flat_map-append (λ field. 32 ∷ field) (f x) (flat_map f xs) ∙ ap (λ t. behind (f x) ++ t) (behind_flat f xs)
