-- Of the text of responses, the lines that begin with `response` are those of the responses.
use Rattle.std.proofs.Common.{◌≡◌, ℕ, zero, suc, ◌+◌, ◌/◌, ◌%◌, ◌≤◌, Bool, true, false, not, cond, List, [], ◌∷◌, ◌++◌, length, map, codes, refl}
use Rattle.std.proofs.Common.{ap, ◌∙◌, arith, rules}
use Rattle.std.specs.Prelude.{bytes_eq, slice_index_or, decimal, filter, ◌==◌, nat_lt}
use Rattle.std.specs.Fmt.{digit_glyph, digits, digits_onto}
use Rattle.std.specs.List.{AllByRecursion, flat_map}
use Rattle.std.proofs.lemmas.List.{append-nil}
use Rattle.std.proofs.lemmas.List.Elements.{filter-append}
use Rattle.drt_model.specs.declared.jobs.Release.{Release}
use Rattle.drt_file.specs.trusted.Line.{is_skipped, said}
use Rattle.drt_file.proofs.Again.{IsField, all_of_both, written_again}
use Rattle.drt_file.proofs.Printed.{Stays, all_stay}
use Rattle.drt_evidence.specs.Text.{release_line}
use Rattle.drt_responses.specs.Text.{response_line, response_lines, response_text}
use Rattle.drt_responses.specs.declared.response.Response.{Response}

-- A line is that of a response: its first field is `response`.
abbrev is_response : List (List ℕ) → Bool
is_response words = bytes_eq (slice_index_or words 0 []) (codes "response")

-- A digit is a byte above the space.
glyph_high : (d : ℕ) → 33 ≤ digit_glyph false d
glyph_high d = go (nat_lt d 10)
  where
    go : (b : Bool) → 33 ≤ cond b (48 + d) (87 + d)
    go true = omega arith
    go false = omega arith

-- So are the digits of any number, and there is one at least.
onto_field : (k n : ℕ) (last : ℕ) (acc : List ℕ) → 33 ≤ last → AllByRecursion (λ b. 33 ≤ b) acc → IsField (digits_onto k 10 false n (last ∷ acc))
onto_field zero n last acc high are = record { has_byte = omega arith; bytes = (high, are) }
onto_field (suc k) n last acc high are =
    go (n / 10 == 0) (onto_field k (n / 10) (digit_glyph false (n % 10)) (last ∷ acc) (glyph_high (n % 10)) (high, are))
  where
    go : (b : Bool) → IsField (digits_onto k 10 false (n / 10) (digit_glyph false (n % 10) ∷ last ∷ acc))
        → IsField (cond b (digit_glyph false (n % 10) ∷ last ∷ acc) (digits_onto k 10 false (n / 10) (digit_glyph false (n % 10) ∷ last ∷ acc)))
    go true rest = record { has_byte = omega arith; bytes = (glyph_high (n % 10), (high, are)) }
    go false rest = rest

first_field : (k n : ℕ) → IsField (digits_onto (suc k) 10 false n [])
first_field k n = go (n / 10 == 0)
  where
    go : (b : Bool) → IsField (cond b (digit_glyph false (n % 10) ∷ []) (digits_onto k 10 false (n / 10) (digit_glyph false (n % 10) ∷ [])))
    go true = record { has_byte = omega arith; bytes = (glyph_high (n % 10), tt) }
    go false = onto_field k (n / 10) (digit_glyph false (n % 10)) [] (glyph_high (n % 10)) tt

number_field : (n : ℕ) → IsField (decimal n)
unfolding digits
number_field n = first_field 63 n

-- Lines whose fields stay as they are.
abbrev AreLines : List (List (List ℕ)) → Type 0
AreLines ls = AllByRecursion (AllByRecursion IsField) ls × AllByRecursion Stays ls

both : (xs ys : List (List (List ℕ))) → AreLines xs → AreLines ys → AreLines (xs ++ ys)
both xs ys are more = (all_of_both (AllByRecursion IsField) xs ys are.0 more.0, all_of_both Stays xs ys are.1 more.1)

word_field : IsField (codes "response")
word_field = record { has_byte = omega arith; bytes = search rules }

releases_field : IsField (codes "releases")
releases_field = record { has_byte = omega arith; bytes = search rules }

release_field : IsField (codes "release")
release_field = record { has_byte = omega arith; bytes = search rules }

name_field : IsField (codes "drt-response")
name_field = record { has_byte = omega arith; bytes = search rules }

one_field : IsField (codes "1")
one_field = record { has_byte = omega arith; bytes = search rules }

close_field : IsField (codes "close")
close_field = record { has_byte = omega arith; bytes = search rules }

releases_are : (releases : List Release) → AreLines (map release_line releases)
unfolding is_skipped
releases_are [] = (tt, tt)
releases_are (r ∷ releases) =
    let rest = releases_are releases in
    (((release_field, (number_field r.task, (number_field r.vertex, (number_field r.time, (number_field r.need, tt))))), rest.0), (refl, rest.1))

response_are : (r : Response) → AreLines (response_lines r)
unfolding is_skipped
response_are r =
    let rest = releases_are r.releases in (
      (
        (word_field, (number_field r.task, (number_field r.vertex, (number_field r.ticks, tt)))),
        ((releases_field, (number_field (length r.releases), tt)), rest.0),
      ),
      (refl, (refl, rest.1)),
    )

responses_are : (responses : List Response) → AreLines (flat_map response_lines responses)
responses_are [] = (tt, tt)
responses_are (r ∷ responses) = both (response_lines r) (flat_map response_lines responses) (response_are r) (responses_are responses)

abbrev all_lines : List Response → List (List (List ℕ))
all_lines responses = (codes "drt-response" ∷ codes "1" ∷ []) ∷ (flat_map response_lines responses ++ (codes "close" ∷ []) ∷ [])

all_are : (responses : List Response) → AreLines (all_lines responses)
unfolding is_skipped
all_are responses =
    let more = both (flat_map response_lines responses) ((codes "close" ∷ []) ∷ []) (responses_are responses) (((close_field, tt), tt), (refl, tt)) in
    (((name_field, (one_field, tt)), more.0), (refl, more.1))

-- What the text says are its lines.
said_is : (responses : List Response) → said (response_text responses) ≡ all_lines responses
said_is responses =
    let are = all_are responses in
    ap (filter (λ words. not (is_skipped words))) (written_again (all_lines responses) are.0) ∙ all_stay (all_lines responses) are.1

no_release : (releases : List Release) → filter is_response (map release_line releases) ≡ []
no_release [] = refl
no_release (r ∷ releases) = no_release releases

one_response : (r : Response) → filter is_response (response_lines r) ≡ response_line r ∷ []
one_response r = ap (λ ls. response_line r ∷ ls) (no_release r.releases)

each_response : (responses : List Response) → filter is_response (flat_map response_lines responses) ≡ map response_line responses
each_response [] = refl
each_response (r ∷ responses) =
    filter-append is_response (response_lines r) (flat_map response_lines responses)
    ∙ ap (λ ls. ls ++ filter is_response (flat_map response_lines responses)) (one_response r)
    ∙ ap (λ ls. response_line r ∷ ls) (each_response responses)

pub lines_are : (responses : List Response) → filter (λ words. bytes_eq (slice_index_or words 0 []) (codes "response")) (said (response_text responses)) ≡ map response_line responses
lines_are responses =
    ap (filter is_response) (said_is responses) ∙ filter-append is_response (flat_map response_lines responses) ((codes "close" ∷ []) ∷ [])
    ∙ ap (λ ls. ls ++ []) (each_response responses) ∙ append-nil (map response_line responses)
