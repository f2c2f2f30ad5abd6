-- The shape of each line: its keyword, and the form of what stands behind it.
use Rattle.std.proofs.Common.{◌≡◌, ◌≢◌, ℕ, ◌≤◌, List, ◌∷◌, ◌++◌, length, map, refl, sym, ap, ◌∙◌, append_assoc, arith}
use Rattle.std.specs.Prelude.{codes, decimal}
use Rattle.std.specs.List.{flat_map, join_with_byte}
use Rattle.std.specs.Fmt.{signed_decimal}
use Rattle.std.proofs.lemmas.Grind.{flat_map-append}
use Rattle.std.proofs.lemmas.List.{length-map}
use Rattle.drt_model.specs.declared.jobs.Release.{Release}
use Rattle.drt_model.specs.declared.jobs.Miss.{Miss}
use Rattle.drt_graph.specs.declared.front.FrontEntry.{FrontEntry}
use Rattle.drt_claims.specs.declared.evidence.Item.{Item}
use Rattle.drt_claims.specs.declared.evidence.Pair.{Pair}
use Rattle.drt_claims.specs.declared.evidence.ProofClaim.{ProofClaim}
use Rattle.drt_evidence.specs.declared.reading.line_forms.WrittenRatio.{WrittenRatio}
use Rattle.drt_evidence.specs.declared.reading.line_forms.WrittenSearch.{WrittenSearch}
use Rattle.drt_states.specs.declared.claims.StateClaim.{StateClaim}
use Rattle.drt_evidence.specs.Cuts.{AreStateParts, StateParts, entry_form, jump_form}
use Rattle.drt_evidence.specs.Fields.{behind}
use Rattle.drt_claims.specs.Ranges.{IsNumber, IsTick, IsWork, IsInRangeEntry, IsInRangeItem, IsInRangeMiss, IsInRangePair, IsInRangePotential, IsInRangeProof, IsInRangeRelease}
use Rattle.drt_claims.specs.Ranges.{IsInRangeCurve, IsInRangeState}
use Rattle.drt_evidence.specs.Text.{count_line, curve_line, end_fields, entry_line, item_field, jump_fields, miss_line, pair_line, proof_line, release_line, state_entry_fields, state_line}
use Rattle.drt_evidence.specs.LineForms.{AreBoth, AreItemsCounted, IsForm, IsNoForm, IsInRangeWritten, IsInRangeWrittenSearch, list_form, numbers_line, pair_form}
use Rattle.drt_evidence.specs.LineForms.{potentials_line, written_ratio_line, written_search_line}
use Rattle.drt_evidence.proofs.Claims.{behind_flat, work_and_end}
use Rattle.drt_evidence.proofs.Joins.{join_behind}
use Rattle.drt_evidence.proofs.Forms.{IsShape}

pub count_shape : (word : List ℕ) → IsShape word decimal IsNumber (λ n. count_line word n) IsNumber (λ n. n)
count_shape word = record { fields_are = λ y. refl; ranges = λ y r. r; back = λ y r. r; one = λ x y e. e }

-- A part of a ratio is at most 10^9.
abbrev pub IsPart : ℕ → Type 0
IsPart n = n ≤ 1000000000

-- The parts of a ratio, of which the denominator isn't 0.
abbrev pub AreParts : ℕ × ℕ → Type 0
AreParts p = IsPart p.0 × ((1 ≤ p.1) × IsPart p.1)

pub ratio_shape : IsShape (codes "ratio") (pair_form decimal decimal) AreParts written_ratio_line IsInRangeWritten (λ (r : WrittenRatio). (r.num, r.den))
ratio_shape = record {
  fields_are = λ y. refl;
  ranges = λ y r. (r.num, (r.some, r.den));
  back = λ y r. record { num = r.0; some = r.1.0; den = r.1.1 };
  one = one;
}
  where
    build : ℕ × ℕ → WrittenRatio
    build t = record { num = t.0; den = t.1 }

    one : (x y : WrittenRatio) → ◌≡◌ {A = ℕ × ℕ} (y.num, y.den) (x.num, x.den) → y ≡ x
    one x y e = ap build e

-- Parts whose denominator is 0 are none of a ratio.
pub parts_are : (bytes : List ℕ) (p : ℕ × ℕ) → p.1 ≢ 0 → IsForm (pair_form decimal decimal) (AreBoth IsPart IsPart) bytes p → IsForm (pair_form decimal decimal) AreParts bytes p
parts_are bytes p some is = record {
  in_range = (is.in_range.0, (omega (arith, some), is.in_range.1));
  is = is.is;
  only = λ y r e. is.only y (r.0, r.1.1) e;
}

pub parts_without : (bytes : List ℕ) (p : ℕ × ℕ) → p.1 ≡ 0 → IsForm (pair_form decimal decimal) (AreBoth IsPart IsPart) bytes p → IsNoForm (pair_form decimal decimal) AreParts bytes
parts_without bytes p none is y r e =
    let same : y.1 ≡ p.1 = ap (λ (t : ℕ × ℕ). t.1) (is.only y (r.0, r.1.1) e) in
    let some : 1 ≤ y.1 = r.1.0 in
    absurd (omega (arith, same, some, none))

pub parts_other : (bytes : List ℕ) → IsNoForm (pair_form decimal decimal) (AreBoth IsPart IsPart) bytes → IsNoForm (pair_form decimal decimal) AreParts bytes
parts_other bytes not y r e = not y (r.0, r.1.1) e

pub pair_shape : IsShape (codes "pair") (pair_form decimal decimal) (AreBoth IsNumber IsNumber) pair_line IsInRangePair (λ (p : Pair). (p.left, p.right))
pair_shape = record { fields_are = λ y. refl; ranges = λ y r. r; back = λ y r. r; one = one }
  where
    build : ℕ × ℕ → Pair
    build t = record { left = t.0; right = t.1 }

    one : (x y : Pair) → ◌≡◌ {A = ℕ × ℕ} (y.left, y.right) (x.left, x.right) → y ≡ x
    one x y e = ap build e

pub entry_shape : IsShape (codes "label") (pair_form decimal (pair_form decimal decimal)) (AreBoth IsNumber (AreBoth IsTick IsWork)) entry_line IsInRangeEntry
    (λ (e : FrontEntry). (e.vertex, (e.offset, e.work)))
entry_shape = record {
  fields_are = λ y. refl;
  ranges = λ y r. (r.vertex, (r.offset, r.work));
  back = λ y r. record { vertex = r.0; offset = r.1.0; work = r.1.1 };
  one = one;
}
  where
    build : ℕ × (ℕ × ℕ) → FrontEntry
    build t = record { vertex = t.0; offset = t.1.0; work = t.1.1 }

    one : (x y : FrontEntry) → ◌≡◌ {A = ℕ × (ℕ × ℕ)} (y.vertex, (y.offset, y.work)) (x.vertex, (x.offset, x.work)) → y ≡ x
    one x y e = ap build e

pub miss_shape : IsShape (codes "miss") (pair_form decimal (pair_form decimal decimal)) (AreBoth IsNumber (AreBoth IsNumber IsTick)) miss_line IsInRangeMiss
    (λ (m : Miss). (m.task, (m.index, m.deadline)))
miss_shape = record {
  fields_are = λ y. refl;
  ranges = λ y r. (r.task, (r.index, r.deadline));
  back = λ y r. record { task = r.0; index = r.1.0; deadline = r.1.1 };
  one = one;
}
  where
    build : ℕ × (ℕ × ℕ) → Miss
    build t = record { task = t.0; index = t.1.0; deadline = t.1.1 }

    one : (x y : Miss) → ◌≡◌ {A = ℕ × (ℕ × ℕ)} (y.task, (y.index, y.deadline)) (x.task, (x.index, x.deadline)) → y ≡ x
    one x y e = ap build e

pub release_shape : IsShape (codes "release") (pair_form decimal (pair_form decimal (pair_form decimal decimal)))
    (AreBoth IsNumber (AreBoth IsNumber (AreBoth IsTick IsTick))) release_line IsInRangeRelease
    (λ (r : Release). (r.task, (r.vertex, (r.time, r.need))))
release_shape = record {
  fields_are = λ y. refl;
  ranges = λ y r. (r.task, (r.vertex, (r.time, r.need)));
  back = λ y r. record { task = r.0; vertex = r.1.0; time = r.1.1.0; need = r.1.1.1 };
  one = one;
}
  where
    build : ℕ × (ℕ × (ℕ × ℕ)) → Release
    build t = record { task = t.0; vertex = t.1.0; time = t.1.1.0; need = t.1.1.1 }

    one : (x y : Release) → ◌≡◌ {A = ℕ × (ℕ × (ℕ × ℕ))} (y.task, (y.vertex, (y.time, y.need))) (x.task, (x.vertex, (x.time, x.need))) → y ≡ x
    one x y e = ap build e

-- The fields of a list, joined.
listed : {A : Type 0} (f : A → List ℕ) (xs : List A) → join_with_byte 32 (decimal (length (map f xs)) ∷ map f xs) ≡ list_form f xs
listed f xs = join_behind (decimal (length (map f xs))) (map f xs) ∙ ap (λ n. decimal n ++ behind (map f xs)) (length-map xs f)

pub numbers_shape : (word : List ℕ) → IsShape word (list_form decimal) (AreItemsCounted IsNumber) (numbers_line word) (AreItemsCounted IsNumber) (λ xs. xs)
numbers_shape word = record { fields_are = λ y. ap (λ t. word ++ 32 ∷ t) (listed decimal y); ranges = λ y r. r; back = λ y r. r; one = λ x y e. e }

pub potentials_shape : IsShape (codes "potentials") (list_form signed_decimal) (AreItemsCounted IsInRangePotential) potentials_line (AreItemsCounted IsInRangePotential) (λ xs. xs)
potentials_shape = record { fields_are = λ y. ap (λ t. codes "potentials" ++ 32 ∷ t) (listed signed_decimal y); ranges = λ y r. r; back = λ y r. r; one = λ x y e. e }

pub proof_shape : IsShape (codes "proof") (pair_form decimal (pair_form decimal (list_form item_field))) (AreBoth IsNumber (AreBoth IsNumber (AreItemsCounted IsInRangeItem))) proof_line IsInRangeProof
    (λ (p : ProofClaim). (p.task, (p.vertex, p.items)))
proof_shape = record {
  fields_are = λ y. ap (λ t. codes "proof" ++ 32 ∷ (decimal y.task ++ 32 ∷ (decimal y.vertex ++ 32 ∷ t))) (join_behind (decimal (length y.items)) (map item_field y.items));
  ranges = λ y r. (r.task, (r.vertex, (r.items, r.counted)));
  back = λ y r. record { task = r.0; vertex = r.1.0; items = r.1.1.0; counted = r.1.1.1 };
  one = one;
}
  where
    build : ℕ × (ℕ × List Item) → ProofClaim
    build t = record { task = t.0; vertex = t.1.0; items = t.1.1 }

    one : (x y : ProofClaim) → ◌≡◌ {A = ℕ × (ℕ × List Item)} (y.task, (y.vertex, y.items)) (x.task, (x.vertex, x.items)) → y ≡ x
    one x y e = ap build e

-- The first line of a search.
pub search_shape : IsShape (codes "search") (pair_form decimal (pair_form decimal decimal)) (AreBoth IsNumber (AreBoth IsNumber IsNumber))
    written_search_line IsInRangeWrittenSearch (λ (s : WrittenSearch). (s.task, (s.vertex, s.count)))
search_shape = record {
  fields_are = λ y. refl;
  ranges = λ y r. (r.task, (r.vertex, r.count));
  back = λ y r. record { task = r.0; vertex = r.1.0; count = r.1.1 };
  one = one;
}
  where
    build : ℕ × (ℕ × ℕ) → WrittenSearch
    build t = record { task = t.0; vertex = t.1.0; count = t.1.1 }

    one : (x y : WrittenSearch) → ◌≡◌ {A = ℕ × (ℕ × ℕ)} (y.task, (y.vertex, y.count)) (x.task, (x.vertex, x.count)) → y ≡ x
    one x y e = ap build e

-- Counted values without the space before them.
abbrev pub bare_list : {A : Type 0} → (A → List ℕ) → List A → List ℕ
bare_list f xs = decimal (length xs) ++ flat_map f xs

-- The line of a vertex of a tail.
pub curve_shape : IsShape (codes "jumps") (bare_list jump_form) IsInRangeCurve curve_line IsInRangeCurve (λ jumps. jumps)
curve_shape = record {
  fields_are = λ y.
      ap (λ t. codes "jumps" ++ 32 ∷ t)
      (join_behind (decimal (length y)) (flat_map jump_fields y) ∙ ap (λ t. decimal (length y) ++ t) (behind_flat jump_fields y));
  ranges = λ y r. r;
  back = λ y r. r;
  one = λ x y e. e;
}

-- The parts of a state without the space before them.
abbrev pub bare_state : StateParts → List ℕ
bare_state p = bare_list entry_form p.0 ++ work_and_end p.1

pub state_shape : IsShape (codes "state") bare_state AreStateParts state_line IsInRangeState (λ (s : StateClaim). (s.entries, (s.work, s.end)))
state_shape = record {
  fields_are = fields_are;
  ranges = λ y r. ((r.entries, r.counted), (r.work, r.end));
  back = λ y r. record { entries = r.0.0; counted = r.0.1; work = r.1.0; end = r.1.1 };
  one = one;
}
  where
    build : StateParts → StateClaim
    build t = record { entries = t.0; work = t.1.0; end = t.1.1 }

    one : (x y : StateClaim) → ◌≡◌ {A = StateParts} (y.entries, (y.work, y.end)) (x.entries, (x.work, x.end)) → y ≡ x
    one x y e = ap build e

    fields_are : (y : StateClaim) → join_with_byte 32 (state_line y) ≡ codes "state" ++ 32 ∷ bare_state (y.entries, (y.work, y.end))
    fields_are y =
        let count = decimal (length y.entries) in
        let standing = flat_map state_entry_fields y.entries in
        let asked = decimal y.work ∷ end_fields y.end in
        ap (λ t. codes "state" ++ 32 ∷ t)
        (join_behind count (standing ++ asked)
        ∙ ap (λ t. count ++ t) (flat_map-append (λ field. 32 ∷ field) standing asked ∙ ap (λ t. t ++ behind asked) (behind_flat state_entry_fields y.entries))
        ∙ sym (append_assoc count (flat_map entry_form y.entries) (behind asked)))
