-- Where a text stops being a block: block by block, part by part, and one block after another.
use Rattle.std.proofs.Common.{◌≡◌, ℕ, ◌+◌, ◌-◌, ◌<◌, Bool, true, false, List, [], ◌∷◌, ◌++◌, length, refl, sym, ap, subst, ◌∙◌, append_assoc, arith, length-append}
use Rattle.std.specs.Prelude.{Option, Some, None, MatchOption, Result, Ok, Err, IfErr, IfOk, IsErrAnd}
use Rattle.std.specs.List.{AllByRecursion, join_with_byte}
use Rattle.std.proofs.Math.ListN.{replicate}
use Rattle.std.proofs.lemmas.List.{append-nil, append_cancel_left, length-replicate}
use Rattle.std.proofs.lemmas.List.Elements.{All-from_recursion, recursion_from_All, All-replicate}
use Rattle.std.proofs.lemmas.Grind.{flat_map-append}
use Rattle.drt_file.specs.trusted.Canonical.{written_line}
use Rattle.drt_file.specs.trusted.Cutting.{HasNoFeed}
use Rattle.drt_file.proofs.Again.{all_of_both}
use Rattle.drt_file.proofs.Feeds.{line_same, no_line_here}
use Rattle.drt_claims.specs.Ranges.{IsNumber}
use Rattle.drt_evidence.specs.Text.{count_line}
use Rattle.drt_evidence.specs.Blocks.{ReadsBlock, RefusesLine, Stops, in_turn, AreSoMany, count_and_blocks}
use Rattle.drt_evidence.specs.LineForms.{AreItemsCounted, IsLineOf, IsNoLine}
use Rattle.drt_evidence.proofs.Blocks.{At, both_lines, cut_at, next, no_lines, start}
use Rattle.drt_evidence.proofs.Leaves.{IsLine, line_taken as taken_line}
use Rattle.drt_evidence.proofs.Parts.{Two}
use Rattle.drt_responses.specs.Rows.{IsResponsesStop}
use Rattle.drt_responses.specs.declared.reading.text.Stop.{Stop}
use Rattle.drt_responses.specs.declared.reading.text.Stop.TheVariants as stops

-- A stop in a part behind the front is a stop of the whole, where each part begins what may be behind the front.
pub stop : {X V : Type 0} {T : X → List ℕ} {D E : X → Type 0} {U : X → List ℕ} {bytes mid : List ℕ} {B : V → List ℕ} {F : V → Type 0} {e : Stop}
    → (part : X → V) (behind : X → List ℕ) → ((x : X) → E x → F (part x) × (U x ≡ B (part x) ++ behind x)) → ((v : V) → F v → (x : X) × E x × (part x ≡ v))
    → At T D E U bytes mid → IsResponsesStop B F mid e → IsResponsesStop T D bytes e
stop {X} {V} {T} {D} {E} {U} {bytes} {mid} {B} {F} part behind parts some a i = record { at = λ left missing is. whole left missing (i.at left missing is) }
  where
    -- What a whole block that begins with the front has behind it.
    past : (x : X) (s t : List ℕ) → D x → a.front ++ s ≡ T x ++ t → (w : List ℕ) × F (part x) × (s ≡ B (part x) ++ w)
    past x s t is e =
        let here = a.only x s t is e in
        let p = parts x here in (
          behind x ++ t,
          p.0,
          append_cancel_left a.front s (U x ++ t) (e ∙ ap (λ w. w ++ t) (a.every x here).1 ∙ append_assoc a.front (U x) t)
              ∙ ap (λ w. w ++ t) p.1 ∙ append_assoc (B (part x)) (behind x) t,
        )

    refuses : (front tail : List ℕ) → RefusesLine B F front tail → RefusesLine T D (a.front ++ front) tail
    refuses front tail r = record {
      line = r.line;
      others = r.others;
      cut = r.cut;
      no_feed = r.no_feed;
      refused = λ x s t is e.
          let begun : a.front ++ ((front ++ (r.line ++ 10 ∷ [])) ++ s) ≡ T x ++ t
          = sym (append_assoc a.front (front ++ (r.line ++ 10 ∷ [])) s) ∙ ap (λ w. w ++ s) (sym (append_assoc a.front front (r.line ++ 10 ∷ []))) ∙ e in
          let p = past x ((front ++ (r.line ++ 10 ∷ [])) ++ s) t is begun in
          r.refused (part x) s p.0 p.1 p.2;
    }

    whole : (left : ℕ) (missing : Bool) → Stops B F mid left missing → Stops T D bytes left missing
    whole left missing h = record {
      front = a.front ++ h.front;
      tail = h.tail;
      stands = a.stands ∙ ap (λ t. a.front ++ t) h.stands ∙ sym (append_assoc a.front h.front h.tail);
      left_is = h.left_is;
      lines = both_lines a.lines h.lines;
      begins = λ no. h.begins (λ v after is e.
          let y = some v is in
          no y.0 (after ++ behind y.0) (a.every y.0 y.1).0
          ((a.every y.0 y.1).1 ∙ ap (λ w. a.front ++ w) ((parts y.0 y.1).1 ∙ ap (λ w. B w ++ behind y.0) y.2 ∙ ap (λ w. w ++ behind y.0) e ∙ append_assoc h.front after (behind y.0))
          ∙ sym (append_assoc a.front h.front (after ++ behind y.0))));
      none = λ x t is e.
          let p = past x mid t is (sym a.stands ∙ e) in
          h.none (part x) p.0 p.1 p.2;
      is_missing = h.is_missing;
      is_there = λ there. refuses h.front h.tail (h.is_there there);
    }

pub two_first : {X V W : Type 0} {T : X → List ℕ} {D : X → Type 0} {A : V → List ℕ} {F : V → Type 0} {B : W → List ℕ} {G : W → Type 0} {bytes : List ℕ} {e : Stop}
    → Two T D A F B G → IsResponsesStop A F bytes e → IsResponsesStop T D bytes e
two_first {X} {V} {W} {T} {D} {A} {F} {B} {G} {bytes} two i =
    stop two.first (λ x. B (two.second x)) (λ x is. (two.first_is x is, two.block_is x is))
    (λ v is. (two.make v two.other, two.make_is v two.other is two.other_is, two.make_first v two.other is two.other_is))
    (start T D bytes) i

two_at : {X V W : Type 0} {T : X → List ℕ} {D : X → Type 0} {A : V → List ℕ} {F : V → Type 0} {B : W → List ℕ} {G : W → Type 0} {bytes mid : List ℕ} {v : V}
    → (two : Two T D A F B G) → ReadsBlock A F bytes v mid → At T D (λ x. D x × (two.first x ≡ v)) (λ x. B (two.second x)) bytes mid
two_at {X} {V} {W} {T} {D} {A} {F} {B} {G} {bytes} two r = next two.first (λ x. B (two.second x)) (λ x is. (two.first_is x is, two.block_is x is)) (start T D bytes) r

pub two_second : {X V W : Type 0} {T : X → List ℕ} {D : X → Type 0} {A : V → List ℕ} {F : V → Type 0} {B : W → List ℕ} {G : W → Type 0} {bytes mid : List ℕ} {v : V} {e : Stop}
    → Two T D A F B G → ReadsBlock A F bytes v mid → IsResponsesStop B G mid e → IsResponsesStop T D bytes e
two_second {X} {V} {W} {T} {D} {A} {F} {B} {G} {bytes} {mid} {v} two r i =
    stop two.second (λ x. []) (λ x is. (two.second_is x is.0, sym (append-nil (B (two.second x)))))
    (λ w is. (two.make v w, (two.make_is v w r.is is, two.make_first v w r.is is), two.make_second v w r.is is))
    (two_at two r) i

-- Blocks that begin as those that were read have these first, and a block behind them.
record Peeled {X : Type 0} (T : X → List ℕ) (D : X → Type 0) (xs ys : List X) (s t : List ℕ) : Type 0 where
  here : X
  more : List X
  are : ys ≡ xs ++ here ∷ more
  is : D here
  goes : s ≡ T here ++ (in_turn T more ++ t)

peel : {X : Type 0} {T : X → List ℕ} {D : X → Type 0} {n : ℕ} {bytes mid : List ℕ} {xs : List X} → ReadsBlock (in_turn T) (AreSoMany n D) bytes xs mid
    → (ys : List X) (s t : List ℕ) → n < length ys → AllByRecursion D ys → in_turn T xs ++ s ≡ in_turn T ys ++ t → Peeled T D xs ys s t
peel {T = T} {D = D} {n = n} {xs = xs} r ys s t lt are e =
    let c = cut_at D n ys lt are in
    let behind = in_turn T c.more ++ t in
    let split : in_turn T ys ++ t ≡ in_turn T c.front ++ (T c.here ++ behind)
    = ap (λ l. in_turn T l ++ t) c.are ∙ ap (λ w. w ++ t) (flat_map-append T c.front (c.here ∷ c.more))
    ∙ append_assoc (in_turn T c.front) (T c.here ++ in_turn T c.more) t ∙ ap (λ w. in_turn T c.front ++ w) (append_assoc (T c.here) (in_turn T c.more) t) in
    let same : c.front ≡ xs = r.only c.front s (T c.here ++ behind) c.fronts (e ∙ split) in
    record {
      here = c.here;
      more = c.more;
      are = c.are ∙ ap (λ l. l ++ c.here ∷ c.more) same;
      is = c.is;
      goes = append_cancel_left (in_turn T xs) s (T c.here ++ behind) (e ∙ split ∙ ap (λ l. in_turn T l ++ (T c.here ++ behind)) same);
    }

all_same : {X : Type 0} (D : X → Type 0) (n : ℕ) (x : X) → D x → AllByRecursion D (replicate n x)
all_same D n x is = recursion_from_All D (replicate n x) (All-replicate D n x is)

pub each_stop : {X : Type 0} {T : X → List ℕ} {D : X → Type 0} {n : ℕ} {bytes mid : List ℕ} {xs : List X} {e : Stop} (count : ℕ) → n < count → (x : X) → D x
    → ReadsBlock (in_turn T) (AreSoMany n D) bytes xs mid → IsResponsesStop T D mid e → IsResponsesStop (in_turn T) (AreSoMany count D) bytes e
each_stop {X} {T} {D} {n} {bytes} {mid} {xs} {e} count lt some some_is r i = record { at = λ left missing is. whole left missing (i.at left missing is) }
  where
    refuses : (front tail : List ℕ) → RefusesLine T D front tail → RefusesLine (in_turn T) (AreSoMany count D) (in_turn T xs ++ front) tail
    refuses front tail h = record {
      line = h.line;
      others = h.others;
      cut = h.cut;
      no_feed = h.no_feed;
      refused = λ ys s t is e.
          let size = is.1 in
          let begun : in_turn T xs ++ ((front ++ (h.line ++ 10 ∷ [])) ++ s) ≡ in_turn T ys ++ t
          = sym (append_assoc (in_turn T xs) (front ++ (h.line ++ 10 ∷ [])) s) ∙ ap (λ w. w ++ s) (sym (append_assoc (in_turn T xs) front (h.line ++ 10 ∷ []))) ∙ e in
          let p = peel r ys ((front ++ (h.line ++ 10 ∷ [])) ++ s) t (omega (arith, size, lt)) is.0 begun in
          h.refused p.here s (in_turn T p.more ++ t) p.is p.goes;
    }

    others : ℕ
    others = count - (n + 1)

    whole : (left : ℕ) (missing : Bool) → Stops T D mid left missing → Stops (in_turn T) (AreSoMany count D) bytes left missing
    whole left missing h = record {
      front = in_turn T xs ++ h.front;
      tail = h.tail;
      stands = r.stands ∙ ap (λ t. in_turn T xs ++ t) h.stands ∙ sym (append_assoc (in_turn T xs) h.front h.tail);
      left_is = h.left_is;
      lines = both_lines r.lines h.lines;
      begins = λ no. h.begins (λ x after is e.
          let more = replicate (count - (n + 1)) some in
          let before = r.is.1 in
          let size : length (xs ++ x ∷ more) ≡ length xs + length (x ∷ more) = length-append xs (x ∷ more) in
          let rep : length more ≡ count - (n + 1) = length-replicate (count - (n + 1)) some in
          no (xs ++ x ∷ more) (after ++ in_turn T more) (all_of_both D xs (x ∷ more) r.is.0 (is, all_same D (count - (n + 1)) some some_is), omega (arith, size, rep, before, lt))
          (flat_map-append T xs (x ∷ more) ∙ ap (λ w. in_turn T xs ++ (w ++ in_turn T more)) e ∙ ap (λ w. in_turn T xs ++ w) (append_assoc h.front after (in_turn T more))
          ∙ sym (append_assoc (in_turn T xs) h.front (after ++ in_turn T more))));
      none = λ ys t is e.
          let size = is.1 in
          let p = peel r ys mid t (omega (arith, size, lt)) is.0 (sym r.stands ∙ e) in
          h.none p.here (in_turn T p.more ++ t) p.is p.goes;
      is_missing = h.is_missing;
      is_there = λ there. refuses h.front h.tail (h.is_there there);
    }

-- The line of a count, and so many blocks below it.
count_parts : {X : Type 0} (word : List ℕ) (T : X → List ℕ) (D : X → Type 0) (xs : List X) → AreItemsCounted D xs
    → IsNumber (length xs) × (count_and_blocks word T xs ≡ written_line (count_line word (length xs)) ++ in_turn T xs)
count_parts word T D xs is = (is.1, refl)

pub count_stop : {X : Type 0} {bytes : List ℕ} {e : Stop} (T : X → List ℕ) (D : X → Type 0) (word : List ℕ) → (x : X) → D x
    → IsResponsesStop (λ n. written_line (count_line word n)) IsNumber bytes e → IsResponsesStop (count_and_blocks word T) (AreItemsCounted D) bytes e
count_stop {X} {bytes} T D word x is i =
    stop (λ (xs : List X). length xs) (in_turn T) (count_parts word T D)
    (λ n num. (replicate n x, (All-replicate D n x is, subst IsNumber (sym (length-replicate n x)) num), length-replicate n x))
    (start (count_and_blocks word T) (AreItemsCounted D) bytes) i

counted_at : {X : Type 0} {n : ℕ} {bytes mid : List ℕ} (T : X → List ℕ) (D : X → Type 0) (word : List ℕ) → ReadsBlock (λ k. written_line (count_line word k)) IsNumber bytes n mid
    → At (count_and_blocks word T) (AreItemsCounted D) (λ (xs : List X). AreItemsCounted D xs × (length xs ≡ n)) (in_turn T) bytes mid
counted_at {X} {bytes = bytes} T D word r = next (λ (xs : List X). length xs) (in_turn T) (count_parts word T D) (start (count_and_blocks word T) (AreItemsCounted D) bytes) r

pub counted_stop : {X : Type 0} {n : ℕ} {bytes mid : List ℕ} {e : Stop} (T : X → List ℕ) (D : X → Type 0) (word : List ℕ) → ReadsBlock (λ k. written_line (count_line word k)) IsNumber bytes n mid
    → IsResponsesStop (in_turn T) (AreSoMany n D) mid e → IsResponsesStop (count_and_blocks word T) (AreItemsCounted D) bytes e
counted_stop {X} {n} T D word r i =
    stop (λ (xs : List X). xs) (λ xs. []) (λ xs is. ((recursion_from_All D xs is.0.0, is.1), sym (append-nil (in_turn T xs))))
    (λ xs is. (xs, ((All-from_recursion D xs is.0, subst IsNumber (sym is.1) r.is), is.1), refl)) (counted_at T D word r) i

written_is : (words : List (List ℕ)) (rest : List ℕ) → written_line words ++ rest ≡ join_with_byte 32 words ++ 10 ∷ rest
unfolding written_line
written_is words rest = append_assoc (join_with_byte 32 words) (10 ∷ []) rest

line_missing : {X : Type 0} (fields : X → List (List ℕ)) (In : X → Type 0) (rest : List ℕ) (e : Stop) → IsLine fields In → e ≡ stops.Fault (length rest) true → HasNoFeed rest
    → IsResponsesStop (λ y. written_line (fields y)) In rest e
line_missing fields In rest e form is none = record {
  at = λ left missing other.
      let same : stops.Fault (length rest) true ≡ stops.Fault left missing = sym is ∙ other in
      let size : length rest ≡ left = cc in
      let there : missing ≡ true = cc in
      record {
        front = [];
        tail = rest;
        stands = refl;
        left_is = size;
        lines = no_lines;
        begins = λ no. no form.value (written_line (fields form.value)) form.value_in refl;
        none = λ x t isx e. no_line_here rest (join_with_byte 32 (fields x)) t none (e ∙ written_is (fields x) t);
        is_missing = λ m. none;
        is_there = λ m. absurd (cc);
      };
}

line_refused : {X : Type 0} (fields : X → List (List ℕ)) (In : X → Type 0) (rest line others : List ℕ) (e : Stop) → IsLine fields In → e ≡ stops.Fault (length rest) false
    → rest ≡ line ++ 10 ∷ others → HasNoFeed line → IsNoLine fields In line → IsResponsesStop (λ y. written_line (fields y)) In rest e
line_refused {X} fields In rest line others e form is cut none denied = record {
  at = λ left missing other.
      let same : stops.Fault (length rest) false ≡ stops.Fault left missing = sym is ∙ other in
      let size : length rest ≡ left = cc in
      let there : missing ≡ false = cc in
      record {
        front = [];
        tail = rest;
        stands = refl;
        left_is = size;
        lines = no_lines;
        begins = λ no. no form.value (written_line (fields form.value)) form.value_in refl;
        none = λ x t isx e. never x others t isx (sym cut ∙ e);
        is_missing = λ m. absurd (cc);
        is_there = λ m. record {
          line = line;
          others = others;
          cut = cut;
          no_feed = none;
          refused = λ x s t isx e. never x s t isx (sym (append_assoc line (10 ∷ []) s) ∙ e);
        };
      };
}
  where
    never : (x : X) (s t : List ℕ) → In x → line ++ 10 ∷ s ≡ written_line (fields x) ++ t → ⊥
    never x s t isx e = denied x isx (line_same line (join_with_byte 32 (fields x)) s t none (form.no_feed x isx) (e ∙ written_is (fields x) t)).0

-- An error that is passed on.
passed : {T E : Type 0} (r : Result T E) (e : E) (P : E → Type 0) → IsErrAnd r (λ y. y ≡ e) → P e → IfErr r P
passed (Ok x) e P is p = tt
passed (Err y) e P is p = subst P (sym is) p

-- The first line is missing.
pub none_taken : {X T : Type 0} {fields : X → List (List ℕ)} {In : X → Type 0} → IsLine fields In → (rest : List ℕ) (e : Stop) (r : Result T Stop) → IsErrAnd r (λ y. y ≡ e)
    → (e ≡ stops.Fault (length rest) true) × HasNoFeed rest → IfErr r (IsResponsesStop (λ y. written_line (fields y)) In rest)
none_taken {X} {T} {fields} {In} kind rest e r is missing =
    passed r e (IsResponsesStop (λ y. written_line (fields y)) In rest) is (line_missing fields In rest e kind missing.0 missing.1)

-- A stop that is passed on.
pub passed_stop : {X R : Type 0} {T : X → List ℕ} {D : X → Type 0} {bytes : List ℕ} {e : Stop} → (r : Result R Stop) → IsErrAnd r (λ y. y ≡ e)
    → IsResponsesStop T D bytes e → IfErr r (IsResponsesStop T D bytes)
passed_stop {T = T} {D = D} {bytes = bytes} {e = e} r is stops_here = passed r e (IsResponsesStop T D bytes) is stops_here

-- What is found in the first line is taken.
pub line_taken : {X : Type 0} {fields : X → List (List ℕ)} {In : X → Type 0} → IsLine fields In → (rest line others now : List ℕ) (found : Option X) (r : Result X Stop)
    → (rest ≡ line ++ 10 ∷ others) × HasNoFeed line → MatchOption found (IsNoLine fields In line) (IsLineOf fields In line)
    → IfOk r (λ x. (found ≡ Some x) × (now ≡ others)) → IfOk r (λ x. ReadsBlock (λ y. written_line (fields y)) In rest x now)
line_taken kind rest line others now found (Ok x) cut says is = taken_line kind rest line others now found (Ok x) cut says is
line_taken kind rest line others now found (Err e) cut says is = tt

-- The line is refused.
pub line_left : {X : Type 0} {fields : X → List (List ℕ)} {In : X → Type 0} → IsLine fields In → (rest line others : List ℕ) (found : Option X) (r : Result X Stop)
    → (rest ≡ line ++ 10 ∷ others) × HasNoFeed line → MatchOption found (IsNoLine fields In line) (IsLineOf fields In line)
    → IfErr r (λ e. (found ≡ None) × (e ≡ stops.Fault (length rest) false)) → IfErr r (IsResponsesStop (λ y. written_line (fields y)) In rest)
line_left {X} {fields} {In} kind rest line others found (Ok x) cut says is = tt
line_left {X} {fields} {In} kind rest line others found (Err e) cut says is =
    line_refused fields In rest line others e kind is.1 cut.0 cut.1 (subst (λ o. MatchOption o (IsNoLine fields In line) (IsLineOf fields In line)) is.0 says)
