-- The kinds of lines: some value has a line of each, and no line has a LF in it.
use Rattle.std.proofs.Common.{◌≢◌, ℕ, ◌≤◌, List, [], ◌∷◌, All, length, map, refl, arith, lit≤}
use Rattle.std.specs.Prelude.{codes, decimal}
use Rattle.std.specs.List.{AllByRecursion, join_with_byte}
use Rattle.std.proofs.lemmas.List.{length-map}
use Rattle.std.proofs.lemmas.List.Elements.{All-nil, recursion_from_All}
use Rattle.drt_model.specs.declared.jobs.Policy.TheVariants as policies
use Rattle.drt_file.specs.trusted.Cutting.{HasNoFeed}
use Rattle.drt_file.proofs.Again.{all_of_both}
use Rattle.drt_file.proofs.Digits.{decimal_field}
use Rattle.drt_file.proofs.Snoc.{every_map, every_weaker}
use Rattle.drt_evidence.specs.LineForms.{AreItemsCounted, IsAny, IsInRangeWritten, IsInRangeWrittenSearch, kind_line}
use Rattle.drt_evidence.specs.LineForms.{numbers_line, policy_line, potentials_line, written_ratio_line, written_search_line}
use Rattle.drt_claims.specs.Ranges.{IsInRangeCurve, IsInRangeEntry, IsInRangeMiss, IsInRangePair, IsInRangePotential, IsInRangeProof, IsInRangeRelease, IsInRangeState, IsNumber}
use Rattle.drt_evidence.specs.Some.{some_curve, some_entry, some_pair, some_proof, some_release, some_state, some_walk}
use Rattle.drt_evidence.specs.Text.{count_line, curve_line, entry_line, miss_line, pair_line, proof_line, release_line, state_line, word_line}
use Rattle.drt_evidence.specs.declared.reading.line_forms.KindOfEvidence.TheVariants as kinds
use Rattle.drt_evidence.proofs.Leaves.{IsLine, plain_word, word_kind}
use Rattle.drt_evidence.proofs.LineFeeds.{curve_fields, entry_fields, kind_fields, miss_fields, no_feed, pair_fields, policy_fields, potentials_fields, proof_fields}
use Rattle.drt_evidence.proofs.LineFeeds.{ratio_fields, release_fields, search_fields, state_fields}

high_plain : (word : List ℕ) → AllByRecursion (λ b. 33 ≤ b) word → HasNoFeed word
high_plain [] are = tt
high_plain (b ∷ word) are = ((λ e. absurd (omega (arith, e, are.0))), high_plain word are.1)

-- Fields parted by spaces.
fields_plain : (words : List (List ℕ)) → AllByRecursion HasNoFeed words → HasNoFeed (join_with_byte 32 words)
fields_plain [] are = tt
fields_plain (w ∷ []) are = are.0
fields_plain (w ∷ x ∷ ws) are =
    all_of_both (λ b. b ≢ 10) w (32 ∷ join_with_byte 32 (x ∷ ws)) are.0 ((λ e. absurd (omega (arith, e))), fields_plain (x ∷ ws) are.1)

number_plain : (n : ℕ) → IsNumber n → HasNoFeed (decimal n)
number_plain n le = high_plain (decimal n) (decimal_field n (omega (arith, le))).bytes

pub count_kind : (word : List ℕ) → HasNoFeed word → IsLine (count_line word) IsNumber
count_kind word none = record {
  value = 0;
  value_in = lit≤ tt;
  no_feed = λ n is. fields_plain (count_line word n) (none, (number_plain n is, tt));
}

numbers_plain : (xs : List ℕ) → All IsNumber xs → AllByRecursion HasNoFeed (map decimal xs)
numbers_plain xs are = every_map HasNoFeed decimal xs (every_weaker IsNumber (λ n. HasNoFeed (decimal n)) number_plain xs (recursion_from_All IsNumber xs are))

pub numbers_kind : (word : List ℕ) → HasNoFeed word → IsLine (numbers_line word) (AreItemsCounted IsNumber)
numbers_kind word none = record {
  value = some_walk.0;
  value_in = some_walk.1;
  no_feed = λ xs is.
      fields_plain (numbers_line word xs)
      (none, (number_plain (length (map decimal xs)) (let e = length-map xs decimal in let n = is.1 in omega (arith, e, n)), numbers_plain xs is.0));
}

pub first_kind : IsLine (λ (u : Unit {0}). codes "drt-dossier" ∷ codes "1" ∷ []) IsAny
first_kind = word_kind (codes "drt-dossier" ∷ codes "1" ∷ []) (plain_word (codes "drt-dossier 1") refl)

pub last_kind : IsLine (λ (u : Unit {0}). word_line (codes "close")) IsAny
last_kind = word_kind (word_line (codes "close")) (plain_word (codes "close") refl)

pub policy_kind : IsLine policy_line IsAny
policy_kind = record { value = policies.Edf; value_in = tt; no_feed = λ p is. no_feed (policy_line p) (policy_fields p) }

pub kind_kind : IsLine kind_line IsAny
kind_kind = record { value = kinds.Undecided; value_in = tt; no_feed = λ k is. no_feed (kind_line k) (kind_fields k) }

pub ratio_kind : IsLine written_ratio_line IsInRangeWritten
ratio_kind = record {
  value = record { num = 0; den = 1 };
  value_in = record { num = lit≤ tt; some = lit≤ tt; den = lit≤ tt };
  no_feed = λ r is. no_feed (written_ratio_line r) (ratio_fields r is);
}

pub entry_kind : IsLine entry_line IsInRangeEntry
entry_kind = record { value = some_entry.0; value_in = some_entry.1; no_feed = λ e is. no_feed (entry_line e) (entry_fields e is) }

pub release_kind : IsLine release_line IsInRangeRelease
release_kind = record { value = some_release.0; value_in = some_release.1; no_feed = λ r is. no_feed (release_line r) (release_fields r is) }

pub miss_kind : IsLine miss_line IsInRangeMiss
miss_kind = record {
  value = record { task = 0; index = 0; deadline = 0 };
  value_in = record { task = lit≤ tt; index = lit≤ tt; deadline = lit≤ tt };
  no_feed = λ m is. no_feed (miss_line m) (miss_fields m is);
}

pub pair_kind : IsLine pair_line IsInRangePair
pair_kind = record { value = some_pair.0; value_in = some_pair.1; no_feed = λ p is. no_feed (pair_line p) (pair_fields p is) }

pub potentials_kind : IsLine potentials_line (AreItemsCounted IsInRangePotential)
potentials_kind = record {
  value = [];
  value_in = (All-nil IsInRangePotential, lit≤ tt);
  no_feed = λ xs is. no_feed (potentials_line xs) (potentials_fields xs is);
}

pub proof_kind : IsLine proof_line IsInRangeProof
proof_kind = record { value = some_proof.0; value_in = some_proof.1; no_feed = λ p is. no_feed (proof_line p) (proof_fields p is) }

pub curve_kind : IsLine curve_line IsInRangeCurve
curve_kind = record { value = some_curve.0; value_in = some_curve.1; no_feed = λ c is. no_feed (curve_line c) (curve_fields c is) }

pub state_kind : IsLine state_line IsInRangeState
state_kind = record { value = some_state.0; value_in = some_state.1; no_feed = λ s is. no_feed (state_line s) (state_fields s is) }

pub search_kind : IsLine written_search_line IsInRangeWrittenSearch
search_kind = record {
  value = record { task = 0; vertex = 0; count = 0 };
  value_in = record { task = lit≤ tt; vertex = lit≤ tt; count = lit≤ tt };
  no_feed = λ s is. no_feed (written_search_line s) (search_fields s is);
}
