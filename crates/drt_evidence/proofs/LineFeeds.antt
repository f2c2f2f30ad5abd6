-- Each line's fields are runs of bytes above the space, so no line has a LF.
use Rattle.std.proofs.Common.{ℕ, suc, ◌≤◌, List, [], ◌∷◌, length, map, All, subst, sym, arith, rules}
use Rattle.std.specs.Prelude.{ℤ, pos, negsuc, codes, decimal}
use Rattle.std.specs.List.{AllByRecursion, flat_map, join_with_byte}
use Rattle.std.specs.Fmt.{signed_decimal}
use Rattle.std.proofs.lemmas.List.{length-map}
use Rattle.std.proofs.lemmas.List.Elements.{All-head, All-tail}
use Rattle.drt_model.specs.declared.jobs.Policy.{Policy}
use Rattle.drt_model.specs.declared.jobs.Policy.TheVariants as policies
use Rattle.drt_model.specs.declared.jobs.Release.{Release}
use Rattle.drt_model.specs.declared.jobs.Miss.{Miss}
use Rattle.drt_file.specs.trusted.Cutting.{HasNoFeed}
use Rattle.drt_file.proofs.Again.{IsField, all_of_both, joined_no_feed}
use Rattle.drt_file.proofs.Digits.{decimal_field}
use Rattle.drt_graph.specs.declared.front.FrontEntry.{FrontEntry}
use Rattle.drt_claims.specs.declared.evidence.Item.{Item}
use Rattle.drt_claims.specs.declared.evidence.Item.TheVariants.{Pass, Split}
use Rattle.drt_claims.specs.declared.evidence.Pair.{Pair}
use Rattle.drt_claims.specs.declared.evidence.ProofClaim.{ProofClaim}
use Rattle.drt_evidence.specs.declared.reading.line_forms.KindOfEvidence.{KindOfEvidence}
use Rattle.drt_evidence.specs.declared.reading.line_forms.KindOfEvidence.TheVariants as kinds
use Rattle.drt_evidence.specs.declared.reading.line_forms.WrittenRatio.{WrittenRatio}
use Rattle.drt_evidence.specs.declared.reading.line_forms.WrittenSearch.{WrittenSearch}
use Rattle.drt_states.specs.declared.claims.Jump.{Jump}
use Rattle.drt_states.specs.declared.claims.StateClaim.{StateClaim}
use Rattle.drt_states.specs.declared.claims.StateEnd.{StateEnd}
use Rattle.drt_states.specs.declared.claims.StateEnd.TheVariants.{Passes, Splits}
use Rattle.drt_states.specs.declared.claims.StateEntry.{StateEntry}
use Rattle.drt_claims.specs.Ranges.{IsNumber, IsInRangeEntry, IsInRangeItem, IsInRangeMiss, IsInRangePair, IsInRangePotential, IsInRangeProof, IsInRangeRelease}
use Rattle.drt_claims.specs.Ranges.{IsInRangeCurve, IsInRangeEnd, IsInRangeJump, IsInRangeState, IsInRangeStateEntry}
use Rattle.drt_evidence.specs.Text.{count_line, curve_line, end_fields, entry_line, item_field, jump_fields, miss_line, pair_line, proof_line, release_line}
use Rattle.drt_file.specs.trusted.Words.{policy_word}
use Rattle.drt_evidence.specs.Text.{state_entry_fields, state_line, word_line}
use Rattle.drt_evidence.specs.LineForms.{AreItemsCounted, IsInRangeWritten, IsInRangeWrittenSearch, kind_keyword, kind_line}
use Rattle.drt_evidence.specs.LineForms.{numbers_line, policy_line, potentials_line, written_ratio_line, written_search_line}
use Rattle.drt_evidence.proofs.Numerals.{range_above, range_below}

-- Each field of a line is a run of bytes above the space.
abbrev pub AreFields : List (List ℕ) → Type 0
AreFields fields = AllByRecursion IsField fields

-- So the line has no LF.
pub no_feed : (fields : List (List ℕ)) → AreFields fields → HasNoFeed (join_with_byte 32 fields)
no_feed fields are = joined_no_feed fields are

-- A number up to 2·10^18.
number : (n : ℕ) → n ≤ 2000000000000000000 → IsField (decimal n)
number n le = decimal_field n (omega (arith, le))

-- One more byte above the space, before a field.
byte_before : (b : ℕ) (field : List ℕ) → 33 ≤ b → IsField field → IsField (b ∷ field)
byte_before b field high is = record { has_byte = omega arith; bytes = (high, is.bytes) }

pub potential_field : (h : ℤ) → IsInRangePotential h → IsField (signed_decimal h)
potential_field (pos k) range = number k (omega (arith, range_above k range))
potential_field (negsuc k) range = byte_before 45 (decimal (suc k)) (omega arith) (number (suc k) (omega (arith, range_below k range)))

pub item_is_field : (item : Item) → IsInRangeItem item → IsField (item_field item)
item_is_field (Pass t) range = byte_before 112 (decimal t) (omega arith) (number t (omega (arith, range)))
item_is_field (Split p) range = byte_before 115 (decimal p) (omega arith) (number p (omega (arith, range)))

-- The fields of a list.
each_field : {A : Type 0} (f : A → List ℕ) (P : A → Type 0) → ((x : A) → P x → IsField (f x)) → (xs : List A) → All P xs → AreFields (map f xs)
each_field f P fields [] are = tt
each_field f P fields (x ∷ xs) are = (fields x (All-head P x xs are), each_field f P fields xs (All-tail P x xs are))

-- How many fields there are.
count_field : {A : Type 0} (f : A → List ℕ) (xs : List A) → IsNumber (length xs) → IsField (decimal (length (map f xs)))
count_field f xs counted = subst (λ n. IsField (decimal n)) (sym (length-map xs f)) (number (length xs) (omega (arith, counted)))

pub first_fields : AreFields (codes "drt-dossier" ∷ codes "1" ∷ [])
first_fields = (record { has_byte = omega arith; bytes = search rules }, (record { has_byte = omega arith; bytes = search rules }, tt))

pub last_fields : AreFields (word_line (codes "close"))
last_fields = (record { has_byte = omega arith; bytes = search rules }, tt)

policy_field : (policy : Policy) → IsField (policy_word policy)
policy_field policies.Edf = record { has_byte = omega arith; bytes = search rules }
policy_field policies.Fixed = record { has_byte = omega arith; bytes = search rules }

pub policy_fields : (policy : Policy) → AreFields (policy_line policy)
policy_fields policy = (record { has_byte = omega arith; bytes = search rules }, (policy_field policy, tt))

kind_field : (kind : KindOfEvidence) → IsField (kind_keyword kind)
kind_field kinds.EdfYes = record { has_byte = omega arith; bytes = search rules }
kind_field kinds.EdfNo = record { has_byte = omega arith; bytes = search rules }
kind_field kinds.UtilisationOne = record { has_byte = omega arith; bytes = search rules }
kind_field kinds.FixedYes = record { has_byte = omega arith; bytes = search rules }
kind_field kinds.FixedStates = record { has_byte = omega arith; bytes = search rules }
kind_field kinds.FixedNo = record { has_byte = omega arith; bytes = search rules }
kind_field kinds.Undecided = record { has_byte = omega arith; bytes = search rules }

pub kind_fields : (kind : KindOfEvidence) → AreFields (kind_line kind)
kind_fields kind = (record { has_byte = omega arith; bytes = search rules }, (kind_field kind, tt))

pub count_fields : (word : List ℕ) (n : ℕ) → IsField word → IsNumber n → AreFields (count_line word n)
count_fields word n is range = (is, (number n (omega (arith, range)), tt))

pub ratio_fields : (r : WrittenRatio) → IsInRangeWritten r → AreFields (written_ratio_line r)
ratio_fields r range = (
  record { has_byte = omega arith; bytes = search rules },
  (number r.num (omega (arith, range.num)), (number r.den (omega (arith, range.den)), tt)),
)

pub pair_fields : (p : Pair) → IsInRangePair p → AreFields (pair_line p)
pair_fields p range = (
  record { has_byte = omega arith; bytes = search rules },
  (number p.left (omega (arith, range.0)), (number p.right (omega (arith, range.1)), tt)),
)

pub entry_fields : (e : FrontEntry) → IsInRangeEntry e → AreFields (entry_line e)
entry_fields e range = (
  record { has_byte = omega arith; bytes = search rules },
  (number e.vertex (omega (arith, range.vertex)), (number e.offset (omega (arith, range.offset)), (number e.work range.work, tt))),
)

pub miss_fields : (m : Miss) → IsInRangeMiss m → AreFields (miss_line m)
miss_fields m range = (
  record { has_byte = omega arith; bytes = search rules },
  (number m.task (omega (arith, range.task)), (number m.index (omega (arith, range.index)), (number m.deadline (omega (arith, range.deadline)), tt))),
)

pub release_fields : (r : Release) → IsInRangeRelease r → AreFields (release_line r)
release_fields r range = (
  record { has_byte = omega arith; bytes = search rules },
  (
    number r.task (omega (arith, range.task)),
    (number r.vertex (omega (arith, range.vertex)), (number r.time (omega (arith, range.time)), (number r.need (omega (arith, range.need)), tt))),
  ),
)

pub numbers_fields : (word : List ℕ) (xs : List ℕ) → IsField word → AreItemsCounted IsNumber xs → AreFields (numbers_line word xs)
numbers_fields word xs is range =
    (is, (count_field decimal xs range.1, each_field decimal IsNumber (λ n le. number n (omega (arith, le))) xs range.0))

pub potentials_fields : (heights : List ℤ) → AreItemsCounted IsInRangePotential heights → AreFields (potentials_line heights)
potentials_fields heights range = (
  record { has_byte = omega arith; bytes = search rules },
  (count_field signed_decimal heights range.1, each_field signed_decimal IsInRangePotential potential_field heights range.0),
)

pub proof_fields : (p : ProofClaim) → IsInRangeProof p → AreFields (proof_line p)
proof_fields p range = (
  record { has_byte = omega arith; bytes = search rules },
  (
    number p.task (omega (arith, range.task)),
    (
      number p.vertex (omega (arith, range.vertex)),
      (number (length p.items) (omega (arith, range.counted)), each_field item_field IsInRangeItem item_is_field p.items range.items),
    ),
  ),
)

pub search_fields : (s : WrittenSearch) → IsInRangeWrittenSearch s → AreFields (written_search_line s)
search_fields s range = (
  record { has_byte = omega arith; bytes = search rules },
  (number s.task (omega (arith, range.task)), (number s.vertex (omega (arith, range.vertex)), (number s.count (omega (arith, range.count)), tt))),
)

-- The fields of each value of a list.
all_fields : {A : Type 0} (f : A → List (List ℕ)) (P : A → Type 0) → ((x : A) → P x → AreFields (f x)) → (xs : List A) → All P xs → AreFields (flat_map f xs)
all_fields f P fields [] are = tt
all_fields f P fields (x ∷ xs) are =
    all_of_both IsField (f x) (flat_map f xs) (fields x (All-head P x xs are)) (all_fields f P fields xs (All-tail P x xs are))

fields_of_jump : (j : Jump) → IsInRangeJump j → AreFields (jump_fields j)
fields_of_jump j range = (number j.offset (omega (arith, range.0)), (number j.work range.1, tt))

pub curve_fields : (jumps : List Jump) → IsInRangeCurve jumps → AreFields (curve_line jumps)
curve_fields jumps range = (
  record { has_byte = omega arith; bytes = search rules },
  (number (length jumps) (omega (arith, range.1)), all_fields jump_fields IsInRangeJump fields_of_jump jumps range.0),
)

fields_of_entry : (e : StateEntry) → IsInRangeStateEntry e → AreFields (state_entry_fields e)
fields_of_entry e range =
    (number e.place (omega (arith, range.place)), (number e.vertex (omega (arith, range.vertex)), (number e.offset (omega (arith, range.offset)), tt)))

fields_of_end : (e : StateEnd) → IsInRangeEnd e → AreFields (end_fields e)
fields_of_end (Passes t) range = (byte_before 112 (decimal t) (omega arith) (number t (omega (arith, range))), tt)
fields_of_end (Splits p children) range = (
  byte_before 115 (decimal p) (omega arith) (number p (omega (arith, range.0))),
  each_field decimal IsNumber (λ n le. number n (omega (arith, le))) children range.1,
)

pub state_fields : (s : StateClaim) → IsInRangeState s → AreFields (state_line s)
state_fields s range = (
  record { has_byte = omega arith; bytes = search rules },
  (
    number (length s.entries) (omega (arith, range.counted)),
    all_of_both IsField (flat_map state_entry_fields s.entries) (decimal s.work ∷ end_fields s.end)
        (all_fields state_entry_fields IsInRangeStateEntry fields_of_entry s.entries range.entries) (number s.work range.work, fields_of_end s.end range.end),
  ),
)
