-- The greater value of two functions, jump by jump, and the greatest one of several.
use Rattle.std.proofs.Common.{◌≡◌, ℕ, ◌+◌, ◌<◌, ◌≤◌, ◌⊎◌, inl, inr, max, List, [], ◌∷◌, ◌++◌, length, get_or, take, drop, refl, sym, ap, subst, ◌∙◌, arith}
use Rattle.std.proofs.Math.Seq.{get_or-append_seam}
use Rattle.std.proofs.lemmas.Bool.{cases_lt}
use Rattle.std.proofs.lemmas.List.{get_or_append_left, get_or_default, take_all, take-append-drop}
use Rattle.drt_states.specs.Tails.{greatest_before, last_work, no_jump, value_before}
use Rattle.drt_states.specs.declared.claims.Jump.{Jump}
use Rattle.drt_states.specs.declared.claims.TailClaim.{TailClaim}
use Rattle.drt_check_states.specs.Crests.{AreUpTo, HasJump, IsCrest, IsGreatest, IsJoin}
use Rattle.drt_check_states.specs.Curves.{IsRising}
use Rattle.drt_check_states.proofs.Jumps.{up_more, value_more}

-- The list joins the jumps of two lists before these numbers, and lies at most at those of these numbers.
pub record IsJoining (a b joined : List Jump) (i j : ℕ) : Type 0 where
  pub first : i ≤ length a
  pub second : j ≤ length b
  pub rising : IsRising joined
  pub before_first : i < length a → AreUpTo (get_or a i no_jump).offset joined
  pub before_second : j < length b → AreUpTo (get_or b j no_jump).offset joined
  pub value : (t : ℕ) → value_before joined t ≡ max (value_before (take i a) t) (value_before (take j b) t)

pub joining_none : (a b : List Jump) → IsJoining a b [] 0 0
unfolding last_work
joining_none a b = record {
  first = omega arith;
  second = omega arith;
  rising = λ n d l. absurd (omega arith);
  before_first = λ h k d l. absurd (omega arith);
  before_second = λ h k d l. absurd (omega arith);
  value = λ t. omega arith;
}

joining_turn : (a b joined : List Jump) (i j : ℕ) → IsJoining a b joined i j → IsJoining b a joined j i
joining_turn a b joined i j is = record {
  first = is.second;
  second = is.first;
  rising = is.rising;
  before_first = is.before_second;
  before_second = is.before_first;
  value = λ t. omega (arith, is.value t);
}

-- One more jump of the first list.
pub joining_first : (a b joined new : List Jump) (i j : ℕ) (x : Jump) → IsRising a → IsJoining a b joined i j → i < length a → x ≡ get_or a i x
    → (j < length b → (get_or a i no_jump).offset ≤ (get_or b j no_jump).offset) → HasJump joined x new → IsJoining a b new (i + 1) j
joining_first a b joined new i j x rises is l at near has = record {
  first = omega arith;
  second = is.second;
  rising = has.rising;
  before_first = λ h. up_more x.offset (get_or a (i + 1) no_jump).offset new has.last (let r = rises i no_jump h in omega (arith, r.0, offset));
  before_second = λ h. up_more x.offset (get_or b j no_jump).offset new has.last (let n = near h in omega (arith, n, offset));
  value = λ t.
      let more = value_more a i t x rises l in
      let one = ap (λ (y : Jump). value_before (y ∷ []) t) at in
      omega (arith, has.value t, is.value t, more, one);
}
  where
    offset : x.offset ≡ (get_or a i no_jump).offset
    offset = ap (λ (y : Jump). y.offset) (at ∙ get_or_default a i x no_jump l)

-- One more jump of the second list.
pub joining_second : (a b joined new : List Jump) (i j : ℕ) (x : Jump) → IsRising b → IsJoining a b joined i j → j < length b → x ≡ get_or b j x
    → (i < length a → (get_or b j no_jump).offset ≤ (get_or a i no_jump).offset) → HasJump joined x new → IsJoining a b new i (j + 1)
joining_second a b joined new i j x rises is l at near has = joining_turn b a new (j + 1) i (joining_first b a joined new j i x rises (joining_turn a b joined i j is) l at near has)

-- The jump that comes next lies at or past all that are joined.
pub first_last : (a b joined : List Jump) (i j : ℕ) (x : Jump) → IsJoining a b joined i j → i < length a → x ≡ get_or a i x → AreUpTo x.offset joined
first_last a b joined i j x is l at = subst (λ (y : Jump). AreUpTo y.offset joined) (sym (at ∙ get_or_default a i x no_jump l)) (is.before_first l)

pub second_last : (a b joined : List Jump) (i j : ℕ) (x : Jump) → IsJoining a b joined i j → j < length b → x ≡ get_or b j x → AreUpTo x.offset joined
second_last a b joined i j x is l at = first_last b a joined j i x (joining_turn a b joined i j is) l at

pub joining_end : (a b joined : List Jump) (i j : ℕ) → IsJoining a b joined i j → length a ≤ i → length b ≤ j → IsJoin a b joined
joining_end a b joined i j is l m = record {
  rising = is.rising;
  value = λ t.
      let e = ap (λ (js : List Jump). value_before js t) (take_all i a l) in
      let f = ap (λ (js : List Jump). value_before js t) (take_all j b m) in
      omega (arith, is.value t, e, f);
}

-- The greatest value of no functions, of one, and of those before and after a number.
pub greatest_none : (curves : List (List Jump)) → length curves ≡ 0 → IsGreatest curves []
unfolding last_work greatest_before
greatest_none [] e = record { rising = λ n d l. absurd (omega arith); greatest = λ t. refl }
greatest_none (c ∷ curves) e = absurd (omega arith)

pub greatest_one : (curves : List (List Jump)) (c joined : List Jump) → length curves ≡ 1 → c ≡ get_or curves 0 c → IsJoin c [] joined → IsGreatest curves joined
unfolding last_work greatest_before
greatest_one [] c joined e at is = absurd (omega arith)
greatest_one (x ∷ []) c joined e at is = record {
  rising = is.rising;
  greatest = λ t. (let f = ap (λ (js : List Jump). value_before js t) at in omega (arith, is.value t, f));
}
greatest_one (x ∷ y ∷ curves) c joined e at is = absurd (omega arith)

greatest_parts : (xs ys : List (List Jump)) (t : ℕ) → greatest_before (xs ++ ys) t ≡ max (greatest_before xs t) (greatest_before ys t)
unfolding greatest_before
greatest_parts [] ys t = omega arith
greatest_parts (x ∷ xs) ys t = omega (arith, greatest_parts xs ys t)

pub greatest_both : (curves : List (List Jump)) (n : ℕ) (a b joined : List Jump) → IsGreatest (take n curves) a → IsGreatest (drop n curves) b → IsJoin a b joined → IsGreatest curves joined
greatest_both curves n a b joined front back is = record {
  rising = is.rising;
  greatest = λ t.
      let e = ap (λ (cs : List (List Jump)). greatest_before cs t) (take-append-drop n curves) in
      omega (arith, is.value t, front.greatest t, back.greatest t, greatest_parts (take n curves) (drop n curves) t, e);
}

-- The greatest value of one more tail.
pub crest_of : (tail : TailClaim) (curves : List (List Jump)) (crest joined : List Jump) → curves ≡ tail.curves → crest ≡ joined → IsGreatest curves joined → IsCrest tail crest
crest_of tail curves crest joined e f is = record {
  rising = subst IsRising (sym f) is.rising;
  greatest = λ t. ap (λ (js : List Jump). value_before js t) f ∙ (is.greatest t ∙ ap (λ (cs : List (List Jump)). greatest_before cs t) e);
}

pub crests_more : (tails : List TailClaim) (crests new : List (List Jump)) (i : ℕ) (x : TailClaim) (crest : List Jump) → length crests ≡ i → i < length tails → x ≡ get_or tails i x
    → IsCrest x crest → new ≡ crests ++ crest ∷ [] → ((k : ℕ) (d : TailClaim) (e : List Jump) → k < i → IsCrest (get_or tails k d) (get_or crests k e))
    → (k : ℕ) (d : TailClaim) (e : List Jump) → k < i + 1 → IsCrest (get_or tails k d) (get_or new k e)
crests_more tails crests new i x crest long l at is made so_far k d e m = go (cases_lt k i)
  where
    go : (k < i) ⊎ (i ≤ k) → IsCrest (get_or tails k d) (get_or new k e)
    go (inl q) =
        let same : get_or new k e ≡ get_or crests k e = ap (λ (cs : List (List Jump)). get_or cs k e) made ∙ get_or_append_left crests (crest ∷ []) e k (omega (arith, long, q)) in
        subst (λ (js : List Jump). IsCrest (get_or tails k d) js) (sym same) (so_far k d e q)
    go (inr q) =
        let here : k ≡ i = omega arith in
        let tail : get_or tails k d ≡ x = ap (λ (n : ℕ). get_or tails n d) here ∙ (get_or_default tails i d x l ∙ sym at) in
        let put : get_or new k e ≡ get_or (crests ++ crest ∷ []) k e = ap (λ (cs : List (List Jump)). get_or cs k e) made in
        let last : get_or new k e ≡ crest = put ∙ (ap (λ (n : ℕ). get_or (crests ++ crest ∷ []) n e) (here ∙ sym long) ∙ get_or-append_seam crests crest [] e) in
        subst (λ (js : List Jump). IsCrest (get_or tails k d) js) (sym last) (subst (λ (y : TailClaim). IsCrest y crest) (sym tail) is)
