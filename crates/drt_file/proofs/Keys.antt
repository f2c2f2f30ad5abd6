-- Names and priorities of tasks, as they are added.
use Rattle.std.proofs.Common.{◌≡◌, ◌≢◌, ℕ, suc, ◌+◌, ◌<◌, List, [], ◌∷◌, ◌++◌, length, Option, Some, None, ap, ◌∙◌, arith}
use Rattle.std.specs.List.{AllByRecursion}
use Rattle.drt_file.specs.declared.state.Draft.{Draft}
use Rattle.drt_file.proofs.Snoc.{every_weaker, Pairwise, pairs_push, pairs_pop}

-- The name and the priority of a task.
abbrev pub key_of : Draft → List ℕ × Option ℕ
key_of d = (d.name, d.priority)

-- Two priorities that aren't the same one.
abbrev pub Differ : Option ℕ → Option ℕ → Type 0
Differ p q = (n : ℕ) → p ≡ Some n → q ≡ Some n → ⊥

-- The priorities are k, k + 1, .. in order.
abbrev pub Numbered : ℕ → List (List ℕ × Option ℕ) → Type 0
Numbered k [] = Unit {0}
Numbered k (x ∷ xs) = (x.1 ≡ Some k) × Numbered (k + 1) xs

-- Names are distinct, priorities too, and in version 1 they are 1, 2, .. in order.
pub record Keys (version : ℕ) (ks : List (List ℕ × Option ℕ)) : Type 0 where
  pub names : Pairwise (λ a b. a.0 ≢ b.0) ks
  pub priorities : Pairwise (λ a b. Differ a.1 b.1) ks
  pub in_order : version ≡ 1 → Numbered 1 ks

pub numbered_push : (k : ℕ) (xs : List (List ℕ × Option ℕ)) (y : List ℕ × Option ℕ) → Numbered k xs → y.1 ≡ Some (k + length xs) → Numbered k (xs ++ y ∷ [])
numbered_push k [] y are e = let z : k + 0 ≡ k = omega arith in (e ∙ ap (λ n. Some n) z, tt)
numbered_push k (x ∷ xs) y are e =
    let z : k + suc (length xs) ≡ k + 1 + length xs = omega arith in
    (are.0, numbered_push (k + 1) xs y are.1 (e ∙ ap (λ n. Some n) z))

same_number : (o : Option ℕ) (a b : ℕ) → o ≡ Some a → o ≡ Some b → a ≡ b
same_number o a b e f = cc

pub numbered_below : (k : ℕ) (xs : List (List ℕ × Option ℕ)) → Numbered k xs → AllByRecursion (λ x. (n : ℕ) → x.1 ≡ Some n → n < k + length xs) xs
numbered_below k [] are = tt
numbered_below k (x ∷ xs) are = (
  (λ n e. let same = same_number x.1 k n are.0 e in omega (arith, same)),
  every_weaker (λ y. (n : ℕ) → y.1 ≡ Some n → n < k + 1 + length xs) (λ y. (n : ℕ) → y.1 ≡ Some n → n < k + suc (length xs))
      (λ y h n e. let lt = h n e in omega (arith, lt)) xs (numbered_below (k + 1) xs are.1),
)

-- A number that follows differs from those above.
pub numbered_new : (k : ℕ) (xs : List (List ℕ × Option ℕ)) (o : Option ℕ) → Numbered k xs → o ≡ Some (k + length xs) → AllByRecursion (λ x. Differ x.1 o) xs
numbered_new k xs o are e =
    every_weaker (λ x. (n : ℕ) → x.1 ≡ Some n → n < k + length xs) (λ x. Differ x.1 o)
    (λ x h n p q. let same = same_number o (k + length xs) n e q in let lt = h n p in absurd (omega (arith, same, lt))) xs (numbered_below k xs are)

none_differs : (o : Option ℕ) → o ≡ None → (p : Option ℕ) → Differ p o
none_differs o e p n f g = cc

every_of : {X : Type 0} (P : X → Type 0) → ((x : X) → P x) → (xs : List X) → AllByRecursion P xs
every_of P all [] = tt
every_of P all (x ∷ xs) = (all x, every_of P all xs)

-- No priority differs from each.
pub none_new : (xs : List (List ℕ × Option ℕ)) (o : Option ℕ) → o ≡ None → AllByRecursion (λ x. Differ x.1 o) xs
none_new xs o e = every_of (λ x. Differ x.1 o) (λ x. none_differs o e x.1) xs

pub no_keys : (version : ℕ) → Keys version []
no_keys version = record { names = tt; priorities = tt; in_order = λ e. tt }

pub keys_push : (version : ℕ) (ks : List (List ℕ × Option ℕ)) (k : List ℕ × Option ℕ) → Keys version ks → AllByRecursion (λ a. a.0 ≢ k.0) ks → AllByRecursion (λ a. Differ a.1 k.1) ks
    → (version ≡ 1 → k.1 ≡ Some (1 + length ks)) → Keys version (ks ++ k ∷ [])
keys_push version ks k are name priority order = record {
  names = pairs_push (λ a b. a.0 ≢ b.0) ks k are.names name;
  priorities = pairs_push (λ a b. Differ a.1 b.1) ks k are.priorities priority;
  in_order = λ e. numbered_push 1 ks k (are.in_order e) (order e);
}

-- The last one may get a priority in version 2.
pub keys_last : (ks : List (List ℕ × Option ℕ)) (version n : ℕ) (name : List ℕ) (p : Option ℕ) → version ≡ 2 → Keys version (ks ++ (name, p) ∷ []) → AllByRecursion (λ a. Differ a.1 (Some n)) ks
    → Keys version (ks ++ (name, Some n) ∷ [])
keys_last ks version n name p two are priority =
    let names = pairs_pop (λ a b. a.0 ≢ b.0) ks (name, p) are.names in
    let priorities = pairs_pop (λ a b. Differ a.1 b.1) ks (name, p) are.priorities in
    record {
      names = pairs_push (λ a b. a.0 ≢ b.0) ks (name, Some n) names.0 names.1;
      priorities = pairs_push (λ a b. Differ a.1 b.1) ks (name, Some n) priorities.0 priority;
      in_order = λ e. absurd (omega (arith, two, e));
    }
