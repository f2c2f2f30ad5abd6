-- Nodes that have the greater value of their two parts: a run of nodes is as great as the run of half as many nodes above it.
use Rattle.std.proofs.Common.{◌≡◌, ◌≢◌, ℕ, zero, suc, ◌+◌, ◌-◌, ◌*◌, ◌/◌, ◌%◌, ◌<◌, ◌≤◌, List, [], ◌∷◌, ◌++◌, length, get_or, take, drop, ◌⊎◌, inl, inr, refl, sym, ap, arith, ◌∙◌}
use Rattle.std.specs.Prelude.{max}
use Rattle.std.proofs.lemmas.List.{length-drop, drop_more, take_more, get_or-drop}
use Rattle.drt_check_values.specs.Greatest.{greatest, AreGreatestJoined}

pub greatest_none : greatest [] ≡ 0
unfolding greatest
greatest_none = refl

pub greatest_cons : (x : ℕ) (xs : List ℕ) → greatest (x ∷ xs) ≡ max x (greatest xs)
unfolding greatest
greatest_cons x xs = refl

pub greatest-append : (xs ys : List ℕ) → greatest (xs ++ ys) ≡ max (greatest xs) (greatest ys)
greatest-append [] ys = rw greatest_none (plain (greatest ys))
  where
    plain : (n : ℕ) → n ≡ max 0 n
    plain n = grind arith
greatest-append (x ∷ xs) ys =
    let e = greatest-append xs ys in
    greatest_cons x (xs ++ ys) ∙ (ap (λ n. max x n) e ∙ (grouped x (greatest xs) (greatest ys) ∙ ap (λ n. max n (greatest ys)) (sym (greatest_cons x xs))))
  where
    grouped : (a b c : ℕ) → max a (max b c) ≡ max (max a b) c
    grouped a b c = grind arith

-- The greatest of the n values from the one at l on.
abbrev pub run : List ℕ → ℕ → ℕ → ℕ
run nodes l n = greatest (take n (drop l nodes))

run_front : (nodes : List ℕ) (l n : ℕ) → l < length nodes → run nodes l (suc n) ≡ max (get_or nodes l 0) (run nodes (l + 1) n)
run_front nodes l n p = ap (λ (xs : List ℕ). greatest (take (suc n) xs)) (drop_more nodes l 0 p) ∙ greatest_cons (get_or nodes l 0) (take n (drop (l + 1) nodes))

run_back : (nodes : List ℕ) (l n : ℕ) → l + n < length nodes → run nodes l (n + 1) ≡ max (run nodes l n) (get_or nodes (l + n) 0)
run_back nodes l n p =
    let q : n < length (drop l nodes) = (let e = length-drop l nodes in omega (arith, e)) in
    ap greatest (take_more (drop l nodes) n 0 q)
    ∙ (greatest-append (take n (drop l nodes)) (get_or (drop l nodes) n 0 ∷ [])
    ∙ ap (λ m. max (run nodes l n) m) (one (get_or (drop l nodes) n 0) ∙ get_or-drop l nodes n 0))
  where
    one : (x : ℕ) → greatest (x ∷ []) ≡ x
    one x = greatest_cons x [] ∙ (ap (λ n. max x n) greatest_none ∙ plain x)
      where
        plain : (n : ℕ) → max n 0 ≡ n
        plain n = grind arith

run_halved : (nodes : List ℕ) (l n : ℕ) → AreGreatestJoined nodes → 1 ≤ l → 2 * (l + n) ≤ length nodes → run nodes (2 * l) (2 * n) ≡ run nodes l n
run_halved nodes l zero joined some within = refl
run_halved nodes l (suc n) joined some within =
    let here = joined l some (omega arith) in
    let rest = run_halved nodes (l + 1) n joined (omega arith) (omega arith) in
    let twice : 2 * suc n ≡ suc (suc (2 * n)) = omega arith in
    let next : 2 * l + 1 + 1 ≡ 2 * (l + 1) = omega arith in
    let one = run_front nodes (2 * l) (suc (2 * n)) (omega arith) in
    let two = run_front nodes (2 * l + 1) (2 * n) (omega arith) in
    let above = run_front nodes l n (omega arith) in
    let three : run nodes (2 * l + 1 + 1) (2 * n) ≡ run nodes (l + 1) n = ap (λ m. run nodes m (2 * n)) next ∙ rest in
    ap (λ m. run nodes (2 * l) m) twice
    ∙ (one ∙ (ap (λ m. max (get_or nodes (2 * l) 0) m) (two ∙ ap (λ m. max (get_or nodes (2 * l + 1) 0) m) three)
    ∙ (grouped (get_or nodes (2 * l) 0) (get_or nodes (2 * l + 1) 0) (run nodes (l + 1) n) ∙ (ap (λ m. max m (run nodes (l + 1) n)) (sym here) ∙ sym above))))
  where
    grouped : (a b c : ℕ) → max a (max b c) ≡ max (max a b) c
    grouped a b c = grind arith

-- The first of a run taken out.
front_out : (nodes : List ℕ) (l r most : ℕ) → l < r → r ≤ length nodes
    → max most (run nodes l (r - l)) ≡ max (max (get_or nodes l 0) most) (run nodes (l + 1) (r - (l + 1)))
front_out nodes l r most p q =
    let e : r - l ≡ suc (r - (l + 1)) = omega arith in
    let f = ap (λ n. run nodes l n) e ∙ run_front nodes l (r - (l + 1)) (omega arith) in
    ap (λ n. max most n) f ∙ grouped most (get_or nodes l 0) (run nodes (l + 1) (r - (l + 1)))
  where
    grouped : (a b c : ℕ) → max a (max b c) ≡ max (max b a) c
    grouped a b c = grind arith

-- The last of a run taken out.
back_out : (nodes : List ℕ) (l r most : ℕ) → l < r → r ≤ length nodes
    → max most (run nodes l (r - l)) ≡ max (max (get_or nodes (r - 1) 0) most) (run nodes l (r - 1 - l))
back_out nodes l r most p q =
    let e : r - l ≡ (r - 1 - l) + 1 = omega arith in
    let at : l + (r - 1 - l) ≡ r - 1 = omega arith in
    let f = ap (λ n. run nodes l n) e ∙ (run_back nodes l (r - 1 - l) (omega arith) ∙ ap (λ k. max (run nodes l (r - 1 - l)) (get_or nodes k 0)) at) in
    ap (λ n. max most n) f ∙ grouped most (run nodes l (r - 1 - l)) (get_or nodes (r - 1) 0)
  where
    grouped : (a b c : ℕ) → max a (max b c) ≡ max (max c a) b
    grouped a b c = grind arith

-- A run between even ends, and the one above it.
halved : (nodes : List ℕ) (l r : ℕ) → AreGreatestJoined nodes → 1 ≤ l → l ≤ r → r ≤ length nodes → l % 2 ≡ 0 → r % 2 ≡ 0
    → run nodes l (r - l) ≡ run nodes (l / 2) (r / 2 - l / 2)
halved nodes l r joined some order within le re =
    let a : l ≡ 2 * (l / 2) = omega arith in
    let b : r - l ≡ 2 * (r / 2 - l / 2) = omega arith in
    ap (λ n. run nodes l n) b ∙ (ap (λ k. run nodes k (2 * (r / 2 - l / 2))) a ∙ run_halved nodes (l / 2) (r / 2 - l / 2) joined (omega arith) (omega arith))

-- An end of a run that may be odd: there it is taken out.
abbrev pub TakenOut : ℕ → ℕ → ℕ → ℕ → ℕ → ℕ → Type 0
TakenOut side next past value before after = ((side % 2 ≡ 1) × (next ≡ past) × (after ≡ max value before)) ⊎ ((side % 2 ≢ 1) × (next ≡ side) × (after ≡ before))

-- The run that is left between two ends, of which what was found so far is most, is as great as the whole.
pub record IsLeft (nodes : List ℕ) (whole left right most : ℕ) : Type 0 where
  pub some : left < right → 1 ≤ left
  pub order : left ≤ right
  pub within : right ≤ length nodes
  pub found : max most (run nodes left (right - left)) ≡ whole

front_next : (nodes : List ℕ) (whole l r m l' m' : ℕ) → IsLeft nodes whole l r m → l < r → TakenOut l l' (l + 1) (get_or nodes l 0) m m' → max m' (run nodes l' (r - l')) ≡ whole
front_next nodes whole l r m l' m' is p (inl t) = rw (t.1, t.2) (sym (front_out nodes l r m p is.within) ∙ is.found)
front_next nodes whole l r m l' m' is p (inr t) = rw (t.1, t.2) is.found

back_next : (nodes : List ℕ) (whole l r m r' m' : ℕ) → max m (run nodes l (r - l)) ≡ whole → l ≤ r → r ≤ length nodes → (r % 2 ≡ 1 → l < r)
    → TakenOut r r' (r - 1) (get_or nodes (r - 1) 0) m m' → max m' (run nodes l (r' - l)) ≡ whole
back_next nodes whole l r m r' m' found order within less (inl t) = rw (t.1, t.2) (sym (back_out nodes l r m (less t.0) within) ∙ found)
back_next nodes whole l r m r' m' found order within less (inr t) = rw (t.1, t.2) found

front_facts : (l r l' value m m' : ℕ) → l < r → TakenOut l l' (l + 1) value m m' → (l' % 2 ≡ 0) × (l ≤ l') × (l' ≤ l + 1) × (l' ≤ r) × (r % 2 ≡ 1 → l' < r)
front_facts l r l' value m m' p (inl t) = (omega (arith, t.0, t.1), omega (arith, t.1), omega (arith, t.1), omega (arith, t.1), λ e. omega (arith, t.0, t.1, e))
front_facts l r l' value m m' p (inr t) = (omega (arith, t.0, t.1), omega (arith, t.1), omega (arith, t.1), omega (arith, t.1), λ e. omega (arith, t.1, e))

back_facts : (r r' value m m' : ℕ) → TakenOut r r' (r - 1) value m m' → (r' % 2 ≡ 0) × (r' ≤ r) × (r ≤ r' + 1) × (r % 2 ≡ 0 → r' ≡ r)
back_facts r r' value m m' (inl t) = (omega (arith, t.0, t.1), omega (arith, t.1), omega (arith, t.1), λ e. absurd (omega (arith, t.0, e)))
back_facts r r' value m m' (inr t) = (omega (arith, t.0, t.1), omega (arith, t.1), omega (arith, t.1), λ e. t.1)

-- Both ends are made even, and the run above is gone on with.
pub level_up : (nodes : List ℕ) (whole l r m l' m' r' m'' : ℕ) → AreGreatestJoined nodes → IsLeft nodes whole l r m → l < r
    → TakenOut l l' (l + 1) (get_or nodes l 0) m m' → TakenOut r r' (r - 1) (get_or nodes (r - 1) 0) m' m''
    → IsLeft nodes whole (l' / 2) (r' / 2) m''
level_up nodes whole l r m l' m' r' m'' joined is p front back =
    let f = front_facts l r l' (get_or nodes l 0) m m' p front in
    let b = back_facts r r' (get_or nodes (r - 1) 0) m' m'' back in
    let some = is.some p in
    let within = is.within in
    let le : l' ≤ r' = ordered f.0 f.3 f.4 b.0 b.1 b.2 b.3 in
    let one = front_next nodes whole l r m l' m' is p front in
    let two = back_next nodes whole l' r m' r' m'' one f.3 within f.4 back in
    let three = halved nodes l' r' joined (omega (arith, some, f.1)) le (omega (arith, b.1, within)) f.0 b.0 in
    record {
      some = λ q. omega (arith, some, f.0, f.1);
      order = omega (arith, le);
      within = omega (arith, b.1, within);
      found = ap (λ n. max m'' n) (sym three) ∙ two;
    }
  where
    ordered : l' % 2 ≡ 0 → l' ≤ r → (r % 2 ≡ 1 → l' < r) → r' % 2 ≡ 0 → r' ≤ r → r ≤ r' + 1 → (r % 2 ≡ 0 → r' ≡ r) → l' ≤ r'
    ordered a c d e f g h = omega arith

-- At first all of a run is left.
pub run_left : (nodes : List ℕ) (l r : ℕ) → (l < r → 1 ≤ l) → l ≤ r → r ≤ length nodes → IsLeft nodes (run nodes l (r - l)) l r 0
run_left nodes l r some order within = record { some = some; order = order; within = within; found = plain (run nodes l (r - l)) }
  where
    plain : (n : ℕ) → max 0 n ≡ n
    plain n = grind arith

-- Once the ends have met, what was found is the greatest.
pub nothing_left : (nodes : List ℕ) (whole l r most : ℕ) → IsLeft nodes whole l r most → r ≤ l → most ≡ whole
nothing_left nodes whole l r most is le =
    let e : r - l ≡ 0 = omega arith in
    let f = ap (λ n. max most (run nodes l n)) e ∙ (ap (λ n. max most n) greatest_none ∙ plain most) in
    sym f ∙ is.found
  where
    plain : (n : ℕ) → max n 0 ≡ n
    plain n = grind arith
