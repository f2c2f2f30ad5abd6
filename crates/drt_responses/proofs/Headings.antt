-- The lines of a text of responses: their shapes and kinds.
use Rattle.std.proofs.Common.{◌≡◌, ℕ, ◌≤◌, List, [], ◌∷◌, get_or, refl, sym, ap, ◌∙◌, arith, rules}
use Rattle.std.specs.Prelude.{codes, decimal}
use Rattle.std.specs.List.{AllByRecursion, join_with_byte}
use Rattle.drt_file.specs.trusted.Cutting.{HasNoFeed}
use Rattle.drt_file.proofs.Again.{IsField}
use Rattle.drt_file.proofs.Digits.{decimal_field}
use Rattle.drt_evidence.specs.LineForms.{AreBoth, IsAny, IsLineOf, IsNoLine, pair_form}
use Rattle.drt_claims.specs.Ranges.{IsNumber}
use Rattle.drt_evidence.proofs.Forms.{IsShape}
use Rattle.drt_evidence.proofs.Leaves.{IsLine, plain_word, word_kind}
use Rattle.drt_evidence.proofs.LineFeeds.{no_feed}
use Rattle.drt_responses.specs.Rows.{IsInRangeHeading, IsInRangeOpening, first_words, heading_line, opening_line}
use Rattle.drt_responses.specs.declared.reading.lines.Heading.{Heading}
use Rattle.drt_responses.specs.declared.reading.lines.Heading.TheVariants.{Opens, Closes}
use Rattle.drt_responses.specs.declared.reading.lines.Opening.{Opening}

-- The first line of a response.
pub opening_shape : IsShape (codes "response") (pair_form decimal (pair_form decimal decimal)) (AreBoth IsNumber (AreBoth IsNumber (λ n. n ≤ 18446744073709551615)))
    opening_line IsInRangeOpening (λ (o : Opening). (o.task, (o.vertex, o.ticks)))
opening_shape = record {
  fields_are = λ y. refl;
  ranges = λ y r. (r.task, (r.vertex, r.ticks));
  back = λ y r. record { task = r.0; vertex = r.1.0; ticks = r.1.1 };
  one = one;
}
  where
    build : ℕ × (ℕ × ℕ) → Opening
    build t = record { task = t.0; vertex = t.1.0; ticks = t.1.1 }

    one : (x y : Opening) → ◌≡◌ {A = ℕ × (ℕ × ℕ)} (y.task, (y.vertex, y.ticks)) (x.task, (x.vertex, x.ticks)) → y ≡ x
    one x y e = ap build e

opening_fields : (o : Opening) → IsInRangeOpening o → AllByRecursion IsField (opening_line o)
opening_fields o range = (
  record { has_byte = omega arith; bytes = search rules },
  (decimal_field o.task (omega (arith, range.task)), (decimal_field o.vertex (omega (arith, range.vertex)), (decimal_field o.ticks (omega (arith, range.ticks)), tt))),
)

-- The line where a response or the end is due.
pub heading_kind : IsLine heading_line IsInRangeHeading
heading_kind = record { value = Closes; value_in = tt; no_feed = plain }
  where
    plain : (h : Heading) → IsInRangeHeading h → HasNoFeed (join_with_byte 32 (heading_line h))
    plain (Opens o) range = no_feed (opening_line o) (opening_fields o range)
    plain Closes range = plain_word (codes "close") refl

-- The first line of a text.
pub opens_kind : IsLine (λ (u : Unit {0}). first_words) IsAny
opens_kind = word_kind first_words (plain_word (codes "drt-response 1") refl)

-- The last line is no first line of a response.
apart : (o : Opening) → codes "close" ≡ join_with_byte 32 (opening_line o) → ⊥
apart o e = let first : 99 ≡ 114 = ap (λ (xs : List ℕ). get_or xs 0 0) e in omega (arith, first)

pub closes_line : (line : List ℕ) → line ≡ codes "close" → IsLineOf heading_line IsInRangeHeading line Closes
closes_line line is = record { in_range = tt; is = is; only = only }
  where
    only : (y : Heading) → IsInRangeHeading y → line ≡ join_with_byte 32 (heading_line y) → y ≡ Closes
    only (Opens o) range e = absurd (apart o (sym is ∙ e))
    only Closes range e = refl

pub opens_line : (line : List ℕ) (o : Opening) → (line ≡ codes "close" → ⊥) → IsLineOf opening_line IsInRangeOpening line o → IsLineOf heading_line IsInRangeHeading line (Opens o)
opens_line line o other said = record { in_range = said.in_range; is = said.is; only = only }
  where
    only : (y : Heading) → IsInRangeHeading y → line ≡ join_with_byte 32 (heading_line y) → y ≡ Opens o
    only (Opens p) range e = ap Opens (said.only p range e)
    only Closes range e = absurd (other e)

pub no_heading : (line : List ℕ) → (line ≡ codes "close" → ⊥) → IsNoLine opening_line IsInRangeOpening line → IsNoLine heading_line IsInRangeHeading line
no_heading line other none (Opens o) range e = none o range e
no_heading line other none Closes range e = other e
