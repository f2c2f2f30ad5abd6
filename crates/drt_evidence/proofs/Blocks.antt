-- Reading a block part by part, and blocks one after another.
use Rattle.std.proofs.Common.{◌≡◌, ℕ, zero, suc, ◌+◌, ◌-◌, ◌≤◌, ◌<◌, Bool, List, [], ◌∷◌, ◌++◌, length, refl, sym, ap, subst, ◌∙◌, append_assoc, arith, length-append}
use Rattle.std.specs.List.{AllByRecursion}
use Rattle.std.proofs.Math.ListN.{replicate}
use Rattle.std.proofs.lemmas.List.{append-nil, append_cancel_left, length-replicate}
use Rattle.std.proofs.lemmas.List.Elements.{All-from_recursion, recursion_from_All, All-replicate}
use Rattle.std.proofs.lemmas.Grind.{flat_map-append}
use Rattle.drt_file.specs.trusted.Canonical.{written_line}
use Rattle.drt_file.specs.trusted.Cutting.{fed, HasNoFeed}
use Rattle.drt_file.proofs.Again.{all_of_both}
use Rattle.drt_file.proofs.Feeds.{fed_both}
use Rattle.drt_claims.specs.Ranges.{IsNumber}
use Rattle.drt_evidence.specs.Text.{count_line}
use Rattle.drt_evidence.specs.Blocks.{AreLines, ReadsBlock, RefusesLine, Stops, IsStop, in_turn, AreSoMany, count_and_blocks}
use Rattle.drt_evidence.specs.LineForms.{AreItemsCounted}
use Rattle.drt_evidence.specs.declared.reading.text.Stop.{Stop}
use Rattle.drt_evidence.specs.declared.reading.text.Stop.TheVariants as stops

-- Whole lines.
pub no_lines : AreLines []
no_lines = record { ls = []; no_feeds = tt; are = refl }

pub one_line : (line : List ℕ) → HasNoFeed line → AreLines (line ++ 10 ∷ [])
one_line line none = record { ls = line ∷ []; no_feeds = (none, tt); are = sym (append-nil (line ++ 10 ∷ [])) }

pub both_lines : {a b : List ℕ} → AreLines a → AreLines b → AreLines (a ++ b)
both_lines {a} {b} x y = record {
  ls = x.ls ++ y.ls;
  no_feeds = all_of_both HasNoFeed x.ls y.ls x.no_feeds y.no_feeds;
  are = ap (λ t. t ++ b) x.are ∙ ap (λ t. fed x.ls ++ t) y.are ∙ sym (fed_both x.ls y.ls);
}

-- Where a text has been read down to a rest: the blocks that begin with the front are those of E, and what they have behind it is U.
pub record At {X : Type 0} (T : X → List ℕ) (D E : X → Type 0) (U : X → List ℕ) (bytes rest : List ℕ) : Type 0 where
  pub front : List ℕ
  pub stands : bytes ≡ front ++ rest
  pub lines : AreLines front
  pub every : (x : X) → E x → D x × (T x ≡ front ++ U x)
  pub only : (x : X) (s t : List ℕ) → D x → front ++ s ≡ T x ++ t → E x

pub start : {X : Type 0} (T : X → List ℕ) (D : X → Type 0) (bytes : List ℕ) → At T D D T bytes bytes
start T D bytes = record { front = []; stands = refl; lines = no_lines; every = λ x is. (is, refl); only = λ x s t is e. is }

-- A part behind the front begins what is behind it.
pub next : {X V : Type 0} {T : X → List ℕ} {D E : X → Type 0} {U : X → List ℕ} {bytes mid rest : List ℕ} {B : V → List ℕ} {F : V → Type 0} {v : V}
    → (part : X → V) (behind : X → List ℕ) → ((x : X) → E x → F (part x) × (U x ≡ B (part x) ++ behind x))
    → At T D E U bytes mid → ReadsBlock B F mid v rest → At T D (λ x. E x × (part x ≡ v)) behind bytes rest
next {T = T} {U = U} {rest = rest} {B = B} {v = v} part behind parts a r = record {
  front = a.front ++ B v;
  stands = a.stands ∙ ap (λ t. a.front ++ t) r.stands ∙ sym (append_assoc a.front (B v) rest);
  lines = both_lines a.lines r.lines;
  every = λ x is. (
    (a.every x is.0).0,
    (a.every x is.0).1 ∙ ap (λ t. a.front ++ t) ((parts x is.0).1 ∙ ap (λ w. B w ++ behind x) is.1) ∙ sym (append_assoc a.front (B v) (behind x)),
  );
  only = λ x s t is e.
      let begun : a.front ++ (B v ++ s) ≡ T x ++ t = sym (append_assoc a.front (B v) s) ∙ e in
      let here = a.only x (B v ++ s) t is begun in
      let more : B v ++ s ≡ U x ++ t = append_cancel_left a.front (B v ++ s) (U x ++ t) (begun ∙ ap (λ w. w ++ t) (a.every x here).1 ∙ append_assoc a.front (U x) t) in
      let whole : B v ++ s ≡ B (part x) ++ (behind x ++ t) = more ∙ ap (λ w. w ++ t) (parts x here).1 ∙ append_assoc (B (part x)) (behind x) t in
      (here, r.only (part x) s (behind x ++ t) (parts x here).0 whole);
}

-- The end of a block.
pub done : {X : Type 0} {T : X → List ℕ} {D E : X → Type 0} {U : X → List ℕ} {bytes rest : List ℕ}
    → At T D E U bytes rest → (x : X) → E x → U x ≡ [] → ((y : X) → E y → y ≡ x) → ReadsBlock T D bytes x rest
done {T = T} {U = U} {rest = rest} a x is nothing one =
    let whole : T x ≡ a.front = (a.every x is).1 ∙ ap (λ t. a.front ++ t) nothing ∙ append-nil a.front in
    record {
      is = (a.every x is).0;
      stands = a.stands ∙ ap (λ t. t ++ rest) (sym whole);
      lines = subst AreLines (sym whole) a.lines;
      only = λ y s t isy e. one y (a.only y s t isy (ap (λ w. w ++ s) (sym whole) ∙ e));
    }

-- A stop in a part behind the front is a stop of the whole, where each part begins what may be behind the front.
pub stop : {X V : Type 0} {T : X → List ℕ} {D E : X → Type 0} {U : X → List ℕ} {bytes mid : List ℕ} {B : V → List ℕ} {F : V → Type 0} {e : Stop}
    → (part : X → V) (behind : X → List ℕ) → ((x : X) → E x → F (part x) × (U x ≡ B (part x) ++ behind x)) → ((v : V) → F v → (x : X) × E x × (part x ≡ v))
    → At T D E U bytes mid → IsStop B F mid e → IsStop T D bytes e
stop {X} {V} {T} {D} {E} {U} {bytes} {mid} {B} {F} part behind parts some a i = record { at = λ left missing is. whole left missing (i.at left missing is) }
  where
    -- What a whole block that begins with the front has behind it.
    past : (x : X) (s t : List ℕ) → D x → a.front ++ s ≡ T x ++ t → (w : List ℕ) × F (part x) × (s ≡ B (part x) ++ w)
    past x s t is e =
        let here = a.only x s t is e in
        let p = parts x here in (
          behind x ++ t,
          p.0,
          append_cancel_left a.front s (U x ++ t) (e ∙ ap (λ w. w ++ t) (a.every x here).1 ∙ append_assoc a.front (U x) t)
              ∙ ap (λ w. w ++ t) p.1 ∙ append_assoc (B (part x)) (behind x) t,
        )

    refuses : (front tail : List ℕ) → RefusesLine B F front tail → RefusesLine T D (a.front ++ front) tail
    refuses front tail r = record {
      line = r.line;
      others = r.others;
      cut = r.cut;
      no_feed = r.no_feed;
      refused = λ x s t is e.
          let begun : a.front ++ ((front ++ (r.line ++ 10 ∷ [])) ++ s) ≡ T x ++ t
          = sym (append_assoc a.front (front ++ (r.line ++ 10 ∷ [])) s) ∙ ap (λ w. w ++ s) (sym (append_assoc a.front front (r.line ++ 10 ∷ []))) ∙ e in
          let p = past x ((front ++ (r.line ++ 10 ∷ [])) ++ s) t is begun in
          r.refused (part x) s p.0 p.1 p.2;
    }

    whole : (left : ℕ) (missing : Bool) → Stops B F mid left missing → Stops T D bytes left missing
    whole left missing h = record {
      front = a.front ++ h.front;
      tail = h.tail;
      stands = a.stands ∙ ap (λ t. a.front ++ t) h.stands ∙ sym (append_assoc a.front h.front h.tail);
      left_is = h.left_is;
      lines = both_lines a.lines h.lines;
      begins = λ no. h.begins (λ v after is e.
          let y = some v is in
          no y.0 (after ++ behind y.0) (a.every y.0 y.1).0
          ((a.every y.0 y.1).1 ∙ ap (λ w. a.front ++ w) ((parts y.0 y.1).1 ∙ ap (λ w. B w ++ behind y.0) y.2 ∙ ap (λ w. w ++ behind y.0) e ∙ append_assoc h.front after (behind y.0))
          ∙ sym (append_assoc a.front h.front (after ++ behind y.0))));
      none = λ x t is e.
          let p = past x mid t is (sym a.stands ∙ e) in
          h.none (part x) p.0 p.1 p.2;
      is_missing = h.is_missing;
      is_there = λ there. refuses h.front h.tail (h.is_there there);
    }

-- Want of memory is no stop of a text.
pub no_memory : {X : Type 0} (T : X → List ℕ) (D : X → Type 0) (bytes : List ℕ) (e : Stop) → e ≡ stops.Memory → IsStop T D bytes e
no_memory T D bytes e is = record { at = λ left missing other. absurd (cc) }

-- The same blocks, written otherwise.
pub reads_as : {X : Type 0} {T U : X → List ℕ} {D : X → Type 0} {bytes rest : List ℕ} {x : X} → T ≡ U → ReadsBlock T D bytes x rest → ReadsBlock U D bytes x rest
reads_as {D = D} {bytes = bytes} {rest = rest} {x = x} same r = subst (λ W. ReadsBlock W D bytes x rest) same r

pub stop_as : {X : Type 0} {T U : X → List ℕ} {D : X → Type 0} {bytes : List ℕ} {e : Stop} → T ≡ U → IsStop T D bytes e → IsStop U D bytes e
stop_as {D = D} {bytes = bytes} {e = e} same i = subst (λ W. IsStop W D bytes e) same i

-- Blocks one after another.
pub empty_list : {X : Type 0} (xs : List X) → length xs ≡ 0 → xs ≡ []
empty_list [] e = refl
empty_list (x ∷ xs) e = absurd (omega (arith, e))

-- A list of more than n values, cut behind the first n.
pub record CutAt {X : Type 0} (D : X → Type 0) (n : ℕ) (ys : List X) : Type 0 where
  pub front : List X
  pub here : X
  pub more : List X
  pub are : ys ≡ front ++ here ∷ more
  pub fronts : AreSoMany n D front
  pub is : D here

pub cut_at : {X : Type 0} (D : X → Type 0) (n : ℕ) (ys : List X) → n < length ys → AllByRecursion D ys → CutAt D n ys
cut_at D n [] lt are = absurd (omega (arith, lt))
cut_at D zero (y ∷ ys) lt are = record { front = []; here = y; more = ys; are = refl; fronts = (tt, refl); is = are.0 }
cut_at D (suc n) (y ∷ ys) lt are =
    let r = cut_at D n ys (omega (arith, lt)) are.1 in
    record { front = y ∷ r.front; here = r.here; more = r.more; are = ap (λ l. y ∷ l) r.are; fronts = ((are.0, r.fronts.0), ap suc r.fronts.1); is = r.is }

-- Blocks that begin as those that were read have these first, and a block behind them.
record Peeled {X : Type 0} (T : X → List ℕ) (D : X → Type 0) (xs ys : List X) (s t : List ℕ) : Type 0 where
  here : X
  more : List X
  are : ys ≡ xs ++ here ∷ more
  is : D here
  goes : s ≡ T here ++ (in_turn T more ++ t)

peel : {X : Type 0} {T : X → List ℕ} {D : X → Type 0} {n : ℕ} {bytes mid : List ℕ} {xs : List X} → ReadsBlock (in_turn T) (AreSoMany n D) bytes xs mid
    → (ys : List X) (s t : List ℕ) → n < length ys → AllByRecursion D ys → in_turn T xs ++ s ≡ in_turn T ys ++ t → Peeled T D xs ys s t
peel {T = T} {D = D} {n = n} {xs = xs} r ys s t lt are e =
    let c = cut_at D n ys lt are in
    let behind = in_turn T c.more ++ t in
    let split : in_turn T ys ++ t ≡ in_turn T c.front ++ (T c.here ++ behind)
    = ap (λ l. in_turn T l ++ t) c.are ∙ ap (λ w. w ++ t) (flat_map-append T c.front (c.here ∷ c.more))
    ∙ append_assoc (in_turn T c.front) (T c.here ++ in_turn T c.more) t ∙ ap (λ w. in_turn T c.front ++ w) (append_assoc (T c.here) (in_turn T c.more) t) in
    let same : c.front ≡ xs = r.only c.front s (T c.here ++ behind) c.fronts (e ∙ split) in
    record {
      here = c.here;
      more = c.more;
      are = c.are ∙ ap (λ l. l ++ c.here ∷ c.more) same;
      is = c.is;
      goes = append_cancel_left (in_turn T xs) s (T c.here ++ behind) (e ∙ split ∙ ap (λ l. in_turn T l ++ (T c.here ++ behind)) same);
    }

pub turn_push : {X : Type 0} (T : X → List ℕ) (xs : List X) (x : X) → in_turn T (xs ++ x ∷ []) ≡ in_turn T xs ++ T x
turn_push T xs x = flat_map-append T xs (x ∷ []) ∙ ap (λ t. in_turn T xs ++ t) (append-nil (T x))

pub each_none : {X : Type 0} (T : X → List ℕ) (D : X → Type 0) (bytes : List ℕ) → ReadsBlock (in_turn T) (AreSoMany 0 D) bytes [] bytes
each_none T D bytes = record { is = (tt, refl); stands = refl; lines = no_lines; only = λ ys s t is e. empty_list ys is.1 }

pub each_more : {X : Type 0} {T : X → List ℕ} {D : X → Type 0} {n : ℕ} {bytes mid rest : List ℕ} {xs : List X} {x : X}
    → ReadsBlock (in_turn T) (AreSoMany n D) bytes xs mid → ReadsBlock T D mid x rest → ReadsBlock (in_turn T) (AreSoMany (n + 1) D) bytes (xs ++ x ∷ []) rest
each_more {X} {T} {D} {n} {bytes} {mid} {rest} {xs} {x} r q = record {
  is = (all_of_both D xs (x ∷ []) r.is.0 (q.is, tt), let count = r.is.1 in let e = length-append xs (x ∷ []) in omega (arith, count, e));
  stands = r.stands ∙ ap (λ t. in_turn T xs ++ t) q.stands ∙ sym (append_assoc (in_turn T xs) (T x) rest) ∙ ap (λ t. t ++ rest) (sym (turn_push T xs x));
  lines = subst AreLines (sym (turn_push T xs x)) (both_lines r.lines q.lines);
  only = only;
}
  where
    only : (ys : List X) (s t : List ℕ) → AreSoMany (n + 1) D ys → in_turn T (xs ++ x ∷ []) ++ s ≡ in_turn T ys ++ t → ys ≡ xs ++ x ∷ []
    only ys s t is e =
        let count = is.1 in
        let p = peel r ys (T x ++ s) t (omega (arith, count)) is.0 (sym (append_assoc (in_turn T xs) (T x) s) ∙ ap (λ w. w ++ s) (sym (turn_push T xs x)) ∙ e) in
        let same : p.here ≡ x = q.only p.here s (in_turn T p.more ++ t) p.is p.goes in
        let size : length ys ≡ length xs + length (p.here ∷ p.more) = ap length p.are ∙ length-append xs (p.here ∷ p.more) in
        let before = r.is.1 in
        let none : p.more ≡ [] = empty_list p.more (omega (arith, size, count, before)) in
        p.are ∙ ap (λ y. xs ++ y ∷ p.more) same ∙ ap (λ l. xs ++ x ∷ l) none

all_same : {X : Type 0} (D : X → Type 0) (n : ℕ) (x : X) → D x → AllByRecursion D (replicate n x)
all_same D n x is = recursion_from_All D (replicate n x) (All-replicate D n x is)

pub each_stop : {X : Type 0} {T : X → List ℕ} {D : X → Type 0} {n : ℕ} {bytes mid : List ℕ} {xs : List X} {e : Stop} (count : ℕ) → n < count → (x : X) → D x
    → ReadsBlock (in_turn T) (AreSoMany n D) bytes xs mid → IsStop T D mid e → IsStop (in_turn T) (AreSoMany count D) bytes e
each_stop {X} {T} {D} {n} {bytes} {mid} {xs} {e} count lt some some_is r i = record { at = λ left missing is. whole left missing (i.at left missing is) }
  where
    refuses : (front tail : List ℕ) → RefusesLine T D front tail → RefusesLine (in_turn T) (AreSoMany count D) (in_turn T xs ++ front) tail
    refuses front tail h = record {
      line = h.line;
      others = h.others;
      cut = h.cut;
      no_feed = h.no_feed;
      refused = λ ys s t is e.
          let size = is.1 in
          let begun : in_turn T xs ++ ((front ++ (h.line ++ 10 ∷ [])) ++ s) ≡ in_turn T ys ++ t
          = sym (append_assoc (in_turn T xs) (front ++ (h.line ++ 10 ∷ [])) s) ∙ ap (λ w. w ++ s) (sym (append_assoc (in_turn T xs) front (h.line ++ 10 ∷ []))) ∙ e in
          let p = peel r ys ((front ++ (h.line ++ 10 ∷ [])) ++ s) t (omega (arith, size, lt)) is.0 begun in
          h.refused p.here s (in_turn T p.more ++ t) p.is p.goes;
    }

    others : ℕ
    others = count - (n + 1)

    whole : (left : ℕ) (missing : Bool) → Stops T D mid left missing → Stops (in_turn T) (AreSoMany count D) bytes left missing
    whole left missing h = record {
      front = in_turn T xs ++ h.front;
      tail = h.tail;
      stands = r.stands ∙ ap (λ t. in_turn T xs ++ t) h.stands ∙ sym (append_assoc (in_turn T xs) h.front h.tail);
      left_is = h.left_is;
      lines = both_lines r.lines h.lines;
      begins = λ no. h.begins (λ x after is e.
          let more = replicate (count - (n + 1)) some in
          let before = r.is.1 in
          let size : length (xs ++ x ∷ more) ≡ length xs + length (x ∷ more) = length-append xs (x ∷ more) in
          let rep : length more ≡ count - (n + 1) = length-replicate (count - (n + 1)) some in
          no (xs ++ x ∷ more) (after ++ in_turn T more) (all_of_both D xs (x ∷ more) r.is.0 (is, all_same D (count - (n + 1)) some some_is), omega (arith, size, rep, before, lt))
          (flat_map-append T xs (x ∷ more) ∙ ap (λ w. in_turn T xs ++ (w ++ in_turn T more)) e ∙ ap (λ w. in_turn T xs ++ w) (append_assoc h.front after (in_turn T more))
          ∙ sym (append_assoc (in_turn T xs) h.front (after ++ in_turn T more))));
      none = λ ys t is e.
          let size = is.1 in
          let p = peel r ys mid t (omega (arith, size, lt)) is.0 (sym r.stands ∙ e) in
          h.none p.here (in_turn T p.more ++ t) p.is p.goes;
      is_missing = h.is_missing;
      is_there = λ there. refuses h.front h.tail (h.is_there there);
    }

-- The line of a count, and so many blocks below it.
count_parts : {X : Type 0} (word : List ℕ) (T : X → List ℕ) (D : X → Type 0) (xs : List X) → AreItemsCounted D xs
    → IsNumber (length xs) × (count_and_blocks word T xs ≡ written_line (count_line word (length xs)) ++ in_turn T xs)
count_parts word T D xs is = (is.1, refl)

pub count_stop : {X : Type 0} {bytes : List ℕ} {e : Stop} (T : X → List ℕ) (D : X → Type 0) (word : List ℕ) → (x : X) → D x
    → IsStop (λ n. written_line (count_line word n)) IsNumber bytes e → IsStop (count_and_blocks word T) (AreItemsCounted D) bytes e
count_stop {X} {bytes} T D word x is i =
    stop (λ (xs : List X). length xs) (in_turn T) (count_parts word T D)
    (λ n num. (replicate n x, (All-replicate D n x is, subst IsNumber (sym (length-replicate n x)) num), length-replicate n x))
    (start (count_and_blocks word T) (AreItemsCounted D) bytes) i

counted_at : {X : Type 0} {n : ℕ} {bytes mid : List ℕ} (T : X → List ℕ) (D : X → Type 0) (word : List ℕ) → ReadsBlock (λ k. written_line (count_line word k)) IsNumber bytes n mid
    → At (count_and_blocks word T) (AreItemsCounted D) (λ (xs : List X). AreItemsCounted D xs × (length xs ≡ n)) (in_turn T) bytes mid
counted_at {X} {bytes = bytes} T D word r = next (λ (xs : List X). length xs) (in_turn T) (count_parts word T D) (start (count_and_blocks word T) (AreItemsCounted D) bytes) r

pub counted_stop : {X : Type 0} {n : ℕ} {bytes mid : List ℕ} {e : Stop} (T : X → List ℕ) (D : X → Type 0) (word : List ℕ) → ReadsBlock (λ k. written_line (count_line word k)) IsNumber bytes n mid
    → IsStop (in_turn T) (AreSoMany n D) mid e → IsStop (count_and_blocks word T) (AreItemsCounted D) bytes e
counted_stop {X} {n} T D word r i =
    stop (λ (xs : List X). xs) (λ xs. []) (λ xs is. ((recursion_from_All D xs is.0.0, is.1), sym (append-nil (in_turn T xs))))
    (λ xs is. (xs, ((All-from_recursion D xs is.0, subst IsNumber (sym is.1) r.is), is.1), refl)) (counted_at T D word r) i

pub counted_read : {X : Type 0} {n : ℕ} {bytes mid rest : List ℕ} {xs : List X} (T : X → List ℕ) (D : X → Type 0) (word : List ℕ)
    → ReadsBlock (λ k. written_line (count_line word k)) IsNumber bytes n mid
    → ReadsBlock (in_turn T) (AreSoMany n D) mid xs rest → ReadsBlock (count_and_blocks word T) (AreItemsCounted D) bytes xs rest
counted_read {X} {n} {bytes} {mid} {rest} {xs} T D word r q =
    done (next (λ (ys : List X). ys) (λ ys. []) (λ ys is. ((recursion_from_All D ys is.0.0, is.1), sym (append-nil (in_turn T ys)))) (counted_at T D word r) q)
    xs (((All-from_recursion D xs q.is.0, subst IsNumber (sym q.is.1) r.is), q.is.1), refl) refl (λ ys is. is.1)

-- What is left is no longer than the text.
pub within : {X : Type 0} {T : X → List ℕ} {D : X → Type 0} {bytes rest : List ℕ} {x : X} → ReadsBlock T D bytes x rest → length rest ≤ length bytes
within {T = T} {rest = rest} {x = x} r = let total = ap length r.stands ∙ length-append (T x) rest in omega (arith, total)
