-- The laws of request labels.
use Rattle.std.proofs.Common.{◌≡◌, ℕ, suc, zero, ◌+◌, ◌≤◌, Bool, true, false, List, [], ◌∷◌, length, replicate, refl, arith, ap, ◌∙◌}
use Rattle.std.specs.Prelude.{◌==◌, nat_le, nat_lt, ◌&&◌}
use Rattle.std.proofs.lemmas.List.{length-replicate}
use Rattle.std.proofs.lemmas.Bool.Decides.{nat_tests}
use Rattle.drt_label.specs.Algebra.{Laws}
use Rattle.drt_steps.specs.Values.{raise, covers}
use Rattle.drt_steps.proofs.Values.{length-raise}
use Rattle.drt_steps.proofs.Samples.{samples_covered}
use Rattle.drt_request.specs.Request.{Request, request_dominates, request_algebra}

-- what a test of three parts tells
record Parts (x y : Request) : Type 0 where
  vertex : x.vertex ≡ y.vertex
  offset : x.offset ≤ y.offset
  values : covers x.values y.values ≡ true

and_left : (b c : Bool) → (b && c) ≡ true → b ≡ true
and_left true c h = refl
and_left false c h = absurd (cc)

and_right : (b c : Bool) → (b && c) ≡ true → c ≡ true
and_right true c h = h
and_right false c h = absurd (cc)

both : (b c : Bool) → b ≡ true → c ≡ true → (b && c) ≡ true
both b c p q = ap (λ x. x && c) p ∙ q

parts : (x y : Request) → request_dominates x y ≡ true → Parts x y
parts x y h =
    let v : (x.vertex == y.vertex) ≡ true = and_left (x.vertex == y.vertex) (nat_le x.offset y.offset && covers x.values y.values) h in
    let r : (nat_le x.offset y.offset && covers x.values y.values) ≡ true = and_right (x.vertex == y.vertex) (nat_le x.offset y.offset && covers x.values y.values) h in
    let o : nat_le x.offset y.offset ≡ true = and_left (nat_le x.offset y.offset) (covers x.values y.values) r in
    record { vertex = grind (arith, nat_tests); offset = grind (arith, nat_tests); values = and_right (nat_le x.offset y.offset) (covers x.values y.values) r }

whole : (x y : Request) → Parts x y → request_dominates x y ≡ true
whole x y p =
    let v : x.vertex ≡ y.vertex = p.vertex in
    let o : x.offset ≤ y.offset = p.offset in
    let tv : (x.vertex == y.vertex) ≡ true = grind (arith, nat_tests) in
    let to : nat_le x.offset y.offset ≡ true = grind (arith, nat_tests) in
    both (x.vertex == y.vertex) (nat_le x.offset y.offset && covers x.values y.values) tv (both (nat_le x.offset y.offset) (covers x.values y.values) to p.values)

covers_self : (xs : List ℕ) → covers xs xs ≡ true
covers_self [] = refl
covers_self (x ∷ xs) = both (nat_le x x) (covers xs xs) (let t : nat_le x x ≡ true = grind (arith, nat_tests) in t) (covers_self xs)

covers_trans : (xs ys zs : List ℕ) → covers xs ys ≡ true → covers ys zs ≡ true → covers xs zs ≡ true
covers_trans [] [] zs h k = k
covers_trans [] (y ∷ ys) zs h k = absurd (cc)
covers_trans (x ∷ xs) [] zs h k = absurd (cc)
covers_trans (x ∷ xs) (y ∷ ys) [] h k = absurd (cc)
covers_trans (x ∷ xs) (y ∷ ys) (z ∷ zs) h k =
    let p : nat_le y x ≡ true = and_left (nat_le y x) (covers xs ys) h in
    let q : nat_le z y ≡ true = and_left (nat_le z y) (covers ys zs) k in
    both (nat_le z x) (covers xs zs) (let t : nat_le z x ≡ true = grind (arith, nat_tests) in t)
    (covers_trans xs ys zs (and_right (nat_le y x) (covers xs ys) h) (and_right (nat_le z y) (covers ys zs) k))

covers_both : (xs ys : List ℕ) → covers xs ys ≡ true → covers ys xs ≡ true → xs ≡ ys
covers_both [] [] h k = refl
covers_both [] (y ∷ ys) h k = absurd (cc)
covers_both (x ∷ xs) [] h k = absurd (cc)
covers_both (x ∷ xs) (y ∷ ys) h k =
    let p : nat_le y x ≡ true = and_left (nat_le y x) (covers xs ys) h in
    let q : nat_le x y ≡ true = and_left (nat_le x y) (covers ys xs) k in
    let e : x ≡ y = grind (arith, nat_tests) in
    ap (λ z. z ∷ xs) e ∙ ap (λ zs. y ∷ zs) (covers_both xs ys (and_right (nat_le y x) (covers xs ys) h) (and_right (nat_le x y) (covers ys xs) k))

covers_length : (xs ys : List ℕ) → covers xs ys ≡ true → length xs ≡ length ys
covers_length [] [] h = refl
covers_length [] (y ∷ ys) h = absurd (cc)
covers_length (x ∷ xs) [] h = absurd (cc)
covers_length (x ∷ xs) (y ∷ ys) h = ap suc (covers_length xs ys (and_right (nat_le y x) (covers xs ys) h))

raise_covers : (k j w : ℕ) (xs ys : List ℕ) → k ≤ j → covers xs ys ≡ true → covers (raise k w xs) (raise j w ys) ≡ true
raise_covers k j w [] [] le h = refl
raise_covers k j w [] (y ∷ ys) le h = absurd (cc)
raise_covers k j w (x ∷ xs) [] le h = absurd (cc)
raise_covers zero zero w (x ∷ xs) (y ∷ ys) le h =
    let p : nat_le y x ≡ true = and_left (nat_le y x) (covers xs ys) h in
    both (nat_le (y + w) (x + w)) (covers (raise zero w xs) (raise zero w ys)) (let t : nat_le (y + w) (x + w) ≡ true = grind (arith, nat_tests) in t)
    (raise_covers zero zero w xs ys le (and_right (nat_le y x) (covers xs ys) h))
raise_covers zero (suc j) w (x ∷ xs) (y ∷ ys) le h =
    let p : nat_le y x ≡ true = and_left (nat_le y x) (covers xs ys) h in
    both (nat_le y (x + w)) (covers (raise zero w xs) (raise j w ys)) (let t : nat_le y (x + w) ≡ true = grind (arith, nat_tests) in t)
    (raise_covers zero j w xs ys (omega arith) (and_right (nat_le y x) (covers xs ys) h))
raise_covers (suc k) zero w (x ∷ xs) (y ∷ ys) le h = absurd (omega arith)
raise_covers (suc k) (suc j) w (x ∷ xs) (y ∷ ys) le h =
    both (nat_le y x) (covers (raise k w xs) (raise j w ys)) (and_left (nat_le y x) (covers xs ys) h) (raise_covers k j w xs ys (omega arith) (and_right (nat_le y x) (covers xs ys) h))

same_request : (x y : Request) → x.vertex ≡ y.vertex → x.offset ≡ y.offset → x.values ≡ y.values → x ≡ y
same_request x y p q r =
    ap (λ v. record { vertex = v; offset = x.offset; values = x.values }) p
    ∙ (ap (λ o. record { vertex = y.vertex; offset = o; values = x.values }) q
    ∙ ap (λ w. record { vertex = y.vertex; offset = y.offset; values = w }) r)

antisymmetric : (x y : Request) → request_dominates x y ≡ true → request_dominates y x ≡ true → x ≡ y
antisymmetric x y h k =
    let p : Parts x y = parts x y h in
    let q : Parts y x = parts y x k in
    let o : x.offset ≤ y.offset = p.offset in
    let u : y.offset ≤ x.offset = q.offset in
    same_request x y p.vertex (omega arith) (covers_both x.values y.values p.values q.values)

extends : (x y : Request) → request_dominates x y ≡ true → nat_lt y.offset (length y.values) ≡ true → nat_lt x.offset (length x.values) ≡ true
extends x y h k =
    let p : Parts x y = parts x y h in
    let o : x.offset ≤ y.offset = p.offset in
    let e : length x.values ≡ length y.values = covers_length x.values y.values p.values in
    grind (arith, nat_tests)

monotone : (x y : Request) (sep target wcet : ℕ) → request_dominates x y ≡ true → request_dominates (request_algebra.extend x sep target wcet) (request_algebra.extend y sep target wcet) ≡ true
monotone x y sep target wcet h =
    let p : Parts x y = parts x y h in
    let o : x.offset ≤ y.offset = p.offset in
    whole (request_algebra.extend x sep target wcet) (request_algebra.extend y sep target wcet)
    (record {
      vertex = refl;
      offset = let s : x.offset + sep ≤ y.offset + sep = omega arith in
          s;
      values = raise_covers (x.offset + sep) (y.offset + sep) wcet x.values y.values (omega arith) p.values;
    })

pub request_laws : Laws request_algebra
request_laws = record {
  reflexive = λ x. whole x x (record { vertex = refl; offset = omega arith; values = covers_self x.values });
  transitive = λ x y z h k.
      let p : Parts x y = parts x y h in
      let q : Parts y z = parts y z k in
      let o : x.offset ≤ y.offset = p.offset in
      let u : y.offset ≤ z.offset = q.offset in
      whole x z (record { vertex = p.vertex ∙ q.vertex; offset = omega arith; values = covers_trans x.values y.values z.values p.values q.values });
  antisymmetric = antisymmetric;
  extends = extends;
  monotone = λ x y sep target wcet h k. monotone x y sep target wcet h;
  ranges = λ x y deadline bound h k. let p : Parts x y = parts x y h in let o : x.offset ≤ y.offset = p.offset in grind (arith, nat_tests);
  same_vertex = λ x y h. (parts x y h).vertex;
  no_later = λ x y h. (parts x y h).offset;
  sampled = λ x y bound k own others h. let p : Parts x y = parts x y h in samples_covered x.values y.values k (covers_length x.values y.values p.values) p.values;
  chain = λ h. absurd (cc);
  opening_vertex = λ number wcet bound. refl;
  opening_offset = λ number wcet bound. refl;
  extended_vertex = λ x sep target wcet. refl;
  extended_offset = λ x sep target wcet. refl;
  opening_of = λ number wcet bound h. let e : length (replicate bound wcet) ≡ bound = length-replicate bound wcet in grind (arith, nat_tests);
  extended_of = λ x sep target wcet bound h. ap (λ n. n == bound) (length-raise (x.offset + sep) wcet x.values) ∙ h;
  extendable = λ x deadline bound h k. grind (arith, nat_tests);
}
