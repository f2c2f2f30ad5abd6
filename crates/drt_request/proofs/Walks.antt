-- The label of a walk has the walk's request function.
use Rattle.std.proofs.Common.{◌≡◌, ℕ, suc, zero, ◌+◌, ◌-◌, ◌≤◌, ◌<◌, Bool, true, false, cond, List, [], ◌∷◌, ◌++◌, length, replicate, refl, arith, ap, ◌∙◌, sym}
use Rattle.std.specs.Prelude.{nat_lt, slice_index}
use Rattle.std.proofs.lemmas.List.{length-replicate}
use Rattle.std.proofs.lemmas.Bool.Decides.{nat_tests}
use Rattle.drt_model.specs.Digraph.{Digraph}
use Rattle.drt_model.specs.Walk.{last_of, span, gap, wcet, request, requested_from}
use Rattle.drt_steps.specs.Values.{raise, value_at}
use Rattle.drt_steps.proofs.Values.{length-raise}
use Rattle.drt_request.specs.Request.{Request, request_algebra}
use Rattle.drt_request.specs.Walk.{IsRequestLabelOf, LabelWalks}

last_more : (u : ℕ) (vs : List ℕ) (v : ℕ) → last_of u (vs ++ v ∷ []) ≡ v
last_more u [] v = refl
last_more u (w ∷ vs) v = last_more w vs v

span_more : (g : Digraph) (u : ℕ) (vs : List ℕ) (v : ℕ) → span g u (vs ++ v ∷ []) ≡ span g u vs + gap g (last_of u vs) v
unfolding span
span_more g u [] v = omega arith
span_more g u (w ∷ vs) v = let e : span g w (vs ++ v ∷ []) ≡ span g w vs + gap g (last_of w vs) v = span_more g w vs v in omega arith

same_test : (a b t w : ℕ) → a ≡ b → cond (nat_lt a t) w 0 ≡ cond (nat_lt b t) w 0
same_test a b t w e = ap (λ z. cond (nat_lt z t) w 0) e

requested_more : (g : Digraph) (offset u : ℕ) (vs : List ℕ) (v t : ℕ)
    → requested_from g offset u (vs ++ v ∷ []) t ≡ requested_from g offset u vs t + cond (nat_lt (offset + (span g u vs + gap g (last_of u vs) v)) t) (wcet g v) 0
unfolding requested_from span
requested_more g offset u [] v t = ap (λ z. cond (nat_lt offset t) (wcet g u) 0 + z) (same_test (offset + gap g u v) (offset + (0 + gap g u v)) t (wcet g v) (omega arith))
requested_more g offset u (w ∷ vs) v t =
    let e : requested_from g (offset + gap g u w) w (vs ++ v ∷ []) t ≡ requested_from g (offset + gap g u w) w vs t + cond
    (nat_lt ((offset + gap g u w) + (span g w vs + gap g (last_of w vs) v)) t) (wcet g v) 0 = requested_more g (offset + gap g u w) w vs v t in
    let s : cond (nat_lt ((offset + gap g u w) + (span g w vs + gap g (last_of w vs) v)) t) (wcet g v) 0 ≡ cond
    (nat_lt (offset + ((gap g u w + span g w vs) + gap g (last_of w vs) v)) t) (wcet g v) 0 = same_test
    ((offset + gap g u w) + (span g w vs + gap g (last_of w vs) v)) (offset + ((gap g u w + span g w vs) + gap g (last_of w vs) v)) t (wcet g v) (omega arith) in
    omega arith

at_raised_all : (w : ℕ) (xs : List ℕ) (i : ℕ) → i < length xs → slice_index (raise 0 w xs) i ≡ slice_index xs i + w
at_raised_all w [] i lt = absurd (omega arith)
at_raised_all w (x ∷ xs) zero lt = refl
at_raised_all w (x ∷ xs) (suc i) lt = at_raised_all w xs i (omega arith)

when : (b : Bool) (w x : ℕ) → b ≡ true → x + w ≡ x + cond b w 0
when b w x e = ap (λ c. x + cond c w 0) (sym e)

unless : (b : Bool) (w x : ℕ) → b ≡ false → x ≡ x + cond b w 0
unless b w x e = (let z : x ≡ x + 0 = omega arith in z) ∙ ap (λ c. x + cond c w 0) (sym e)

same_suc : (a b c d : ℕ) → c ≡ suc a → d ≡ suc b → nat_lt a b ≡ nat_lt c d
same_suc a b c d e f = grind (arith, nat_tests)

at_raised : (k w : ℕ) (xs : List ℕ) (i : ℕ) → i < length xs → slice_index (raise k w xs) i ≡ slice_index xs i + cond (nat_lt k (i + 1)) w 0
at_raised k w [] i lt = absurd (omega arith)
at_raised zero w (x ∷ xs) i lt = at_raised_all w (x ∷ xs) i lt ∙ when (nat_lt 0 (i + 1)) w (slice_index (x ∷ xs) i) (grind (arith, nat_tests))
at_raised (suc k) w (x ∷ xs) zero lt = unless (nat_lt (suc k) (0 + 1)) w x (grind (arith, nat_tests))
at_raised (suc k) w (x ∷ xs) (suc i) lt =
    at_raised k w xs i (omega arith) ∙ ap (λ b. slice_index xs i + cond b w 0) (same_suc k (i + 1) (suc k) (suc i + 1) refl (omega arith))

raised_value : (k w : ℕ) (xs : List ℕ) (t : ℕ) → 1 ≤ t → t ≤ length xs → value_at (raise k w xs) t ≡ value_at xs t + cond (nat_lt k t) w 0
unfolding value_at
raised_value k w xs t from to =
    at_raised k w xs (t - 1) (omega arith) ∙ ap (λ z. slice_index xs (t - 1) + cond (nat_lt k z) w 0) (let e : (t - 1) + 1 ≡ t = omega arith in e)

pub at_flat : (n v i : ℕ) → i < n → slice_index (replicate n v) i ≡ v
at_flat zero v i lt = absurd (omega arith)
at_flat (suc n) v zero lt = refl
at_flat (suc n) v (suc i) lt = at_flat n v i (omega arith)

flat_value : (n v t : ℕ) → 1 ≤ t → t ≤ n → value_at (replicate n v) t ≡ v
unfolding value_at
flat_value n v t from to = at_flat n v (t - 1) (omega arith)

opening_value : (g : Digraph) (u t : ℕ) → 1 ≤ t → wcet g u ≡ request g u [] t
unfolding requested_from
opening_value g u t from = ap (λ b. cond b (wcet g u) 0) (let e : true ≡ nat_lt 0 t = grind (arith, nat_tests) in e)

span_none : (g : Digraph) (u : ℕ) → 0 ≡ span g u []
unfolding span
span_none g u = refl

extended : (g : Digraph) (bound u : ℕ) (vs : List ℕ) (v : ℕ) (x : Request) → IsRequestLabelOf g bound u vs x
    → IsRequestLabelOf g bound u (vs ++ v ∷ []) (request_algebra.extend x (gap g (last_of u vs) v) v (wcet g v))
extended g bound u vs v x h =
    let p : ℕ = gap g (last_of u vs) v in
    let e : x.offset ≡ span g u vs = h.offset in
    record {
      vertex = sym (last_more u vs v);
      offset = ap (λ z. z + p) e ∙ sym (span_more g u vs v);
      long = length-raise (x.offset + p) (wcet g v) x.values ∙ h.long;
      values = λ t from to.
          raised_value (x.offset + p) (wcet g v) x.values t from (let l : length x.values ≡ bound = h.long in omega arith)
          ∙ (ap (λ z. z + cond (nat_lt (x.offset + p) t) (wcet g v) 0) (h.values t from to)
          ∙ (ap (λ z. request g u vs t + z) (same_test (x.offset + p) (0 + (span g u vs + p)) t (wcet g v) (let z : x.offset + p ≡ 0 + (span g u vs + p) = omega arith in z))
          ∙ sym (requested_more g 0 u vs v t)));
    }

pub label_walks : (g : Digraph) (bound : ℕ) → LabelWalks g bound
label_walks g bound = record {
  opening = λ u. record {
    vertex = refl;
    offset = span_none g u;
    long = length-replicate bound (wcet g u);
    values = λ t from to. flat_value bound (wcet g u) t from to ∙ opening_value g u t from;
  };
  extended = λ u vs v x h. extended g bound u vs v x h;
}
