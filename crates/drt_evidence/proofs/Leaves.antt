-- Blocks of one line.
use Rattle.std.proofs.Common.{◌≡◌, ℕ, Bool, true, false, not, ◌&&◌, ◌==◌, List, [], ◌∷◌, ◌++◌, length, refl, sym, ap, subst, ◌∙◌, append_assoc, arith}
use Rattle.std.specs.Bool.{then_some}
use Rattle.std.specs.Prelude.{Option, Some, None, MatchOption, Result, Ok, Err, IfOk, IfErr, IsErrAnd, IsTrue, ◌↔◌}
use Rattle.std.specs.List.{join_with_byte}
use Rattle.drt_file.specs.trusted.Canonical.{written_line}
use Rattle.drt_file.specs.trusted.Cutting.{HasNoFeed}
use Rattle.drt_file.proofs.Feeds.{line_same, no_line_here}
use Rattle.drt_evidence.specs.LineForms.{IsLineOf, IsNoLine}
use Rattle.drt_evidence.specs.Blocks.{AreLines, ReadsBlock, IsStop}
use Rattle.drt_evidence.specs.declared.reading.text.Stop.{Stop}
use Rattle.drt_evidence.specs.declared.reading.text.Stop.TheVariants as stops
use Rattle.drt_evidence.proofs.Blocks.{no_lines, one_line}

-- A kind of line: some value has a line, and no line has a LF in it.
pub record IsLine {X : Type 0} (fields : X → List (List ℕ)) (In : X → Type 0) : Type 0 where
  pub value : X
  pub value_in : In value
  pub no_feed : (x : X) → In x → HasNoFeed (join_with_byte 32 (fields x))

-- The block of a line.
abbrev pub line_block : {X : Type 0} → (X → List (List ℕ)) → X → List ℕ
line_block fields x = written_line (fields x)

written_is : (words : List (List ℕ)) (rest : List ℕ) → written_line words ++ rest ≡ join_with_byte 32 words ++ 10 ∷ rest
unfolding written_line
written_is words rest = append_assoc (join_with_byte 32 words) (10 ∷ []) rest

lines_of : (words : List (List ℕ)) → HasNoFeed (join_with_byte 32 words) → AreLines (written_line words)
unfolding written_line
lines_of words none = one_line (join_with_byte 32 words) none

line_read : {X : Type 0} (fields : X → List (List ℕ)) (In : X → Type 0) (rest line others : List ℕ) (x : X) → IsLine fields In → rest ≡ line ++ 10 ∷ others → HasNoFeed line
    → IsLineOf fields In line x → ReadsBlock (λ y. written_line (fields y)) In rest x others
line_read fields In rest line others x form cut none l = record {
  is = l.in_range;
  stands = cut ∙ ap (λ t. t ++ 10 ∷ others) l.is ∙ sym (written_is (fields x) others);
  lines = lines_of (fields x) (form.no_feed x l.in_range);
  only = λ y s t isy e.
      let both : join_with_byte 32 (fields x) ++ 10 ∷ s ≡ join_with_byte 32 (fields y) ++ 10 ∷ t = sym (written_is (fields x) s) ∙ e ∙ written_is (fields y) t in
      let same = line_same (join_with_byte 32 (fields x)) (join_with_byte 32 (fields y)) s t (form.no_feed x l.in_range) (form.no_feed y isy) both in
      l.only y isy (l.is ∙ same.0);
}

line_missing : {X : Type 0} (fields : X → List (List ℕ)) (In : X → Type 0) (rest : List ℕ) (e : Stop) → IsLine fields In → e ≡ stops.Fault (length rest) true → HasNoFeed rest
    → IsStop (λ y. written_line (fields y)) In rest e
line_missing fields In rest e form is none = record {
  at = λ left missing other.
      let same : stops.Fault (length rest) true ≡ stops.Fault left missing = sym is ∙ other in
      let size : length rest ≡ left = cc in
      let there : missing ≡ true = cc in
      record {
        front = [];
        tail = rest;
        stands = refl;
        left_is = size;
        lines = no_lines;
        begins = λ no. no form.value (written_line (fields form.value)) form.value_in refl;
        none = λ x t isx e. no_line_here rest (join_with_byte 32 (fields x)) t none (e ∙ written_is (fields x) t);
        is_missing = λ m. none;
        is_there = λ m. absurd (cc);
      };
}

line_refused : {X : Type 0} (fields : X → List (List ℕ)) (In : X → Type 0) (rest line others : List ℕ) (e : Stop) → IsLine fields In → e ≡ stops.Fault (length rest) false
    → rest ≡ line ++ 10 ∷ others → HasNoFeed line → IsNoLine fields In line → IsStop (λ y. written_line (fields y)) In rest e
line_refused {X} fields In rest line others e form is cut none denied = record {
  at = λ left missing other.
      let same : stops.Fault (length rest) false ≡ stops.Fault left missing = sym is ∙ other in
      let size : length rest ≡ left = cc in
      let there : missing ≡ false = cc in
      record {
        front = [];
        tail = rest;
        stands = refl;
        left_is = size;
        lines = no_lines;
        begins = λ no. no form.value (written_line (fields form.value)) form.value_in refl;
        none = λ x t isx e. never x others t isx (sym cut ∙ e);
        is_missing = λ m. absurd (cc);
        is_there = λ m. record {
          line = line;
          others = others;
          cut = cut;
          no_feed = none;
          refused = λ x s t isx e. never x s t isx (sym (append_assoc line (10 ∷ []) s) ∙ e);
        };
      };
}
  where
    never : (x : X) (s t : List ℕ) → In x → line ++ 10 ∷ s ≡ written_line (fields x) ++ t → ⊥
    never x s t isx e = denied x isx (line_same line (join_with_byte 32 (fields x)) s t none (form.no_feed x isx) (e ∙ written_is (fields x) t)).0

-- A word without a LF, as a test.
abbrev pub is_plain : List ℕ → Bool
is_plain [] = true
is_plain (b ∷ bs) = not (b == 10) && is_plain bs

pub plain_word : (word : List ℕ) → is_plain word ≡ true → HasNoFeed word
plain_word [] is = tt
plain_word (b ∷ bs) is = go (b == 10) refl is (plain_word bs)
  where
    go : (t : Bool) → (b == 10) ≡ t → (not t && is_plain bs) ≡ true → (is_plain bs ≡ true → HasNoFeed bs) → HasNoFeed (b ∷ bs)
    go true e h on = absurd (cc)
    go false e h on = ((λ same. absurd (grind (arith, e, same))), on h)

-- A line that is the only one of its kind, and what a test for it says.
pub word_kind : (words : List (List ℕ)) → HasNoFeed (join_with_byte 32 words) → IsLine (λ (u : Unit {0}). words) (λ u. Unit {0})
word_kind words plain = record { value = tt; value_in = tt; no_feed = λ u i. plain }

word_tested : (words : List (List ℕ)) (line : List ℕ) (t : Bool) → (IsTrue t ↔ (line ≡ join_with_byte 32 words))
    → MatchOption (then_some t tt) (IsNoLine (λ (u : Unit {0}). words) (λ u. Unit {0}) line) (IsLineOf (λ (u : Unit {0}). words) (λ u. Unit {0}) line)
word_tested words line true said = record { in_range = tt; is = said.0 refl; only = λ u i e. refl }
word_tested words line false said = λ u i e. let wrong = said.1 e in cc

pub word_said : (words : List (List ℕ)) (line : List ℕ) (t : Bool) (found : Option (Unit {0})) → (IsTrue t ↔ (line ≡ join_with_byte 32 words)) → found ≡ then_some t tt
    → MatchOption found (IsNoLine (λ (u : Unit {0}). words) (λ u. Unit {0}) line) (IsLineOf (λ (u : Unit {0}). words) (λ u. Unit {0}) line)
word_said words line t found said is = rw is (word_tested words line t said)

-- An error that is passed on.
passed : {T E : Type 0} (r : Result T E) (e : E) (P : E → Type 0) → IsErrAnd r (λ y. y ≡ e) → P e → IfErr r P
passed (Ok x) e P is p = tt
passed (Err y) e P is p = subst P (sym is) p

-- The first line is missing.
pub none_taken : {X T : Type 0} {fields : X → List (List ℕ)} {In : X → Type 0} → IsLine fields In → (rest : List ℕ) (e : Stop) (r : Result T Stop) → IsErrAnd r (λ y. y ≡ e)
    → (e ≡ stops.Fault (length rest) true) × HasNoFeed rest → IfErr r (IsStop (λ y. written_line (fields y)) In rest)
none_taken {X} {T} {fields} {In} kind rest e r is missing =
    passed r e (IsStop (λ y. written_line (fields y)) In rest) is (line_missing fields In rest e kind missing.0 missing.1)

-- What is found in the first line is taken, or the line is refused.
pub line_taken : {X : Type 0} {fields : X → List (List ℕ)} {In : X → Type 0} → IsLine fields In → (rest line others now : List ℕ) (found : Option X) (r : Result X Stop)
    → (rest ≡ line ++ 10 ∷ others) × HasNoFeed line → MatchOption found (IsNoLine fields In line) (IsLineOf fields In line)
    → IfOk r (λ x. (found ≡ Some x) × (now ≡ others)) → IfOk r (λ x. ReadsBlock (λ y. written_line (fields y)) In rest x now)
line_taken {X} {fields} {In} kind rest line others now found (Ok x) cut says is =
    subst (λ t. ReadsBlock (λ y. written_line (fields y)) In rest x t) (sym is.1)
    (line_read fields In rest line others x kind cut.0 cut.1 (subst (λ o. MatchOption o (IsNoLine fields In line) (IsLineOf fields In line)) is.0 says))
line_taken {X} {fields} {In} kind rest line others now found (Err e) cut says is = tt

pub line_left : {X : Type 0} {fields : X → List (List ℕ)} {In : X → Type 0} → IsLine fields In → (rest line others : List ℕ) (found : Option X) (r : Result X Stop)
    → (rest ≡ line ++ 10 ∷ others) × HasNoFeed line → MatchOption found (IsNoLine fields In line) (IsLineOf fields In line)
    → IfErr r (λ e. (found ≡ None) × (e ≡ stops.Fault (length rest) false)) → IfErr r (IsStop (λ y. written_line (fields y)) In rest)
line_left {X} {fields} {In} kind rest line others found (Ok x) cut says is = tt
line_left {X} {fields} {In} kind rest line others found (Err e) cut says is =
    line_refused fields In rest line others e kind is.1 cut.0 cut.1 (subst (λ o. MatchOption o (IsNoLine fields In line) (IsLineOf fields In line)) is.0 says)
