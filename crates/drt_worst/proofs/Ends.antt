-- What the passes show together.
use Rattle.std.proofs.Common.{◌≡◌, ◌≢◌, ℕ, suc, zero, ◌+◌, ◌<◌, ◌≤◌, ◌⊎◌, Some, List, [], ◌∷◌, ◌++◌, length, map, refl, sym, ap, ◌∙◌, subst, inl, inr, arith, set, append_assoc, length-append}
use Rattle.std.specs.Prelude.{slice_get, slice_index_or, reverse, Option, None, option_map, IfSome, IsSome}
use Rattle.std.proofs.lemmas.Bool.{cases_lt}
use Rattle.std.proofs.lemmas.List.{length-reverse}
use Rattle.drt_worst.specs.Closing.{WordOf}
use Rattle.drt_worst.specs.Gathering.{IsGathered}
use Rattle.drt_worst.specs.declared.pass.Question.{Question}
use Rattle.std.proofs.lemmas.Option.{none-some, same_Some, slice_get_within, get_or_from_slice_get}
use Rattle.drt_refine.specs.Below.{AreBelow}
use Rattle.drt_worst.specs.Splitting.{Search, AreParts, IsPart, IsSplit, IsBelowOne, IsReached, IsGreatest}
use Rattle.drt_worst.specs.Runs.{combination_of, stack_after, known_after, IsEnded, Run, AreEnded, IsDealtTo, AreDealt}
use Rattle.drt_worst.specs.Spent.{IsSpent}
use Rattle.drt_worst.proofs.Below.{part_more, below_parts}
use Rattle.drt_worst.proofs.Runs.{greatest, some_reached}
use Rattle.drt_worst.proofs.Different.{spent}
use Rattle.drt_worst.specs.Rising.{IsInList, joined_views}
use Rattle.drt_worst.specs.Closing.{IsWordClosed}
use Rattle.drt_worst.proofs.Steps.{each_in, each_join, each_weaker, in_left, in_right}
use Rattle.drt_worst.specs.declared.view.View.{View}
use Rattle.drt_worst.specs.Passing.{search_of_question, IsNotedIn, IsGreatestRaised, HasRun, IsSearchReady}
use Rattle.drt_pool.specs.Turns.{EachPlace}
use Rattle.drt_worst.specs.declared.pass.Pass.{Pass}

-- joined views
pub noted_left : (n : ℕ) (v w : View) → IsNotedIn n v → IsNotedIn n (joined_views v w)
noted_left n v w (inl z) = inl z
noted_left n v w (inr (inl i)) = inr (inl (in_left n v.raised w.raised i))
noted_left n v w (inr (inr i)) = inr (inr (in_left n v.noted w.noted i))

pub noted_right : (n : ℕ) (v w : View) → IsNotedIn n w → IsNotedIn n (joined_views v w)
noted_right n v w (inl z) = inl z
noted_right n v w (inr (inl i)) = inr (inl (in_right n v.raised w.raised i))
noted_right n v w (inr (inr i)) = inr (inr (in_right n v.noted w.noted i))

module _ (s : Search) (roots : List ℕ) where
  pub best_left : (a b : ℕ) (os bs : List ℕ) (v w : View) → b ≤ a → IsGreatestRaised s roots a os v → IsGreatestRaised s roots b bs w → IsGreatestRaised s roots a os (joined_views v w)
  best_left a b os bs v w le x y = record {
    most = each_join (λ n. n ≤ a) v.raised w.raised x.most (each_weaker (λ n. n ≤ b) (λ n. n ≤ a) (λ n h. omega arith) w.raised y.most);
    is = elim x.is as (λ _. (a ≡ 0) ⊎ (IsInList a (v.raised ++ w.raised) × IsReached s roots a os)) [ inl z ↦ inl z | inr i ↦ inr (in_left a v.raised w.raised i.0, i.1) ];
  }

  pub best_right : (a b : ℕ) (os bs : List ℕ) (v w : View) → a ≤ b → IsGreatestRaised s roots a os v → IsGreatestRaised s roots b bs w → IsGreatestRaised s roots b bs (joined_views v w)
  best_right a b os bs v w le x y = record {
    most = each_join (λ n. n ≤ b) v.raised w.raised (each_weaker (λ n. n ≤ a) (λ n. n ≤ b) (λ n h. omega arith) v.raised x.most) y.most;
    is = elim y.is as (λ _. (b ≡ 0) ⊎ (IsInList b (v.raised ++ w.raised) × IsReached s roots b bs)) [ inl z ↦ inl z | inr i ↦ inr (in_right b v.raised w.raised i.0, i.1) ];
  }

  -- the greatest number that was raised is the word
  pub best_word : (P : ℕ → Type 0) (word best : ℕ) (leaves : List ℕ) (v : View) → IsWordClosed P word v → IsGreatestRaised s roots best leaves v → word ≡ best
  best_word P word best leaves v c b =
      let low : word ≤ best = elim c.top as (λ _. word ≤ best) [ inl z ↦ omega arith | inr i ↦ each_in (λ n. n ≤ best) word v.raised b.most i ] in
      let high : best ≤ word = elim b.is as (λ _. best ≤ word) [ inl z ↦ omega arith | inr i ↦ (each_in (λ n. (n ≤ word) × P n) best v.raised c.raised i.0).0 ] in
      omega arith

  pub known_word : (P : ℕ → Type 0) (word n : ℕ) (v : View) → IsWordClosed P word v → IsNotedIn n v → n ≤ word
  known_word P word n v c (inl z) = omega arith
  known_word P word n v c (inr (inl i)) = (each_in (λ n. (n ≤ word) × P n) n v.raised c.raised i).0
  known_word P word n v c (inr (inr i)) = each_in (λ n. n ≤ word) n v.noted c.noted i

  -- a pass that has nothing left, and knows no more than the word
  pub record IsDone (word : ℕ) (p : Pass) : Type 0 where
    pub runs : HasRun s roots p
    pub empty : p.stack.items ≡ []
    pub within : p.known ≤ word

  run_of : (word : ℕ) (p : Pass) → IsDone word p → Run
  run_of word p d = record { start = p.start ∷ []; entries = d.runs.entries }

  run_ended : (word : ℕ) (p : Pass) (d : IsDone word p) → IsEnded s word (run_of word p d).start (run_of word p d).entries
  unfolding run_of
  run_ended word p d = record {
    run = d.runs.run;
    empty = d.runs.stack ∙ ap (λ (z : List (List ℕ)). reverse z) d.empty;
    within = (let e : known_after 0 d.runs.entries ≡ p.known = d.runs.known in let w : p.known ≤ word = d.within in omega arith);
  }

  run_start : (word : ℕ) (p : Pass) (d : IsDone word p) → (run_of word p d).start ≡ p.start ∷ []
  unfolding run_of
  run_start word p d = refl

  pub record Ended (word : ℕ) (ps : List Pass) : Type 0 where
    pub runs : List Run
    pub ended : AreEnded s word runs
    pub dealt : (tuple : List ℕ) (i : ℕ) (p : Pass) → slice_get ps i ≡ Some p → AreBelow s.forest tuple p.start → IsDealtTo s.forest tuple runs

  ended_more : (word : ℕ) (p : Pass) (ps : List Pass) (d : IsDone word p) (e : Ended word ps) → (tuple : List ℕ) (i : ℕ) (q : Pass)
      → slice_get (p ∷ ps) i ≡ Some q → AreBelow s.forest tuple q.start → IsDealtTo s.forest tuple (run_of word p d ∷ e.runs)
  ended_more word p ps d e tuple zero q at b =
      let same : AreBelow s.forest tuple p.start = subst (λ (x : Pass). AreBelow s.forest tuple x.start) (sym (same_Some p q at)) b in
      inl (subst (λ (x : List (List ℕ)). IsBelowOne s.forest tuple x) (sym (run_start word p d)) (inl same))
  ended_more word p ps d e tuple (suc i) q at b = inr (e.dealt tuple i q at b)

  pub all_ended : (word : ℕ) (ps : List Pass) → ((i : ℕ) (p : Pass) → slice_get ps i ≡ Some p → IsDone word p) → Ended word ps
  all_ended word [] h = record { runs = []; ended = tt; dealt = λ tuple i p at b. absurd (none-some p at) }
  all_ended word (p ∷ ps) h =
      let d : IsDone word p = h 0 p refl in
      let e : Ended word ps = all_ended word ps (λ i q at. h (suc i) q at) in
      record { runs = run_of word p d ∷ e.runs; ended = (run_ended word p d, e.ended); dealt = ended_more word p ps d e }

  -- which of the combinations a tuple is below
  pub below_which : (tuple : List ℕ) (dealt : List (List ℕ)) → IsBelowOne s.forest tuple dealt → (i : ℕ) × (c : List ℕ) × (slice_get dealt i ≡ Some c) × AreBelow s.forest tuple c
  below_which tuple [] b = elim b [ ]
  below_which tuple (c ∷ cs) (inl b) = (0, c, refl, b)
  below_which tuple (c ∷ cs) (inr b) = (let r = below_which tuple cs b in (suc r.0, r.1, r.2, r.3))

  pub all_dealt : (word : ℕ) (ps : List Pass) (dealt : List (List ℕ)) → Ended word ps → AreDealt s.forest roots dealt
      → ((i : ℕ) (c : List ℕ) → slice_get dealt i ≡ Some c → (p : Pass) × (slice_get ps i ≡ Some p) × (p.start ≡ c))
      → (e : Ended word ps) → (tuple : List ℕ) → AreBelow s.forest tuple roots → IsDealtTo s.forest tuple e.runs
  all_dealt word ps dealt unused d from e tuple b =
      let (i, c, at, below) = below_which tuple dealt (d.all tuple b) in
      let (p, there, is) = from i c at in
      e.dealt tuple i p there (subst (λ (x : List ℕ). AreBelow s.forest tuple x) (sym is) below)

  -- once all passes are done, the greatest value that was raised is the greatest least time
  pub settles : IsSearchReady s roots → (P : ℕ → Type 0) (word best : ℕ) (leaves : List ℕ) (v : View) (ps : List Pass) (dealt : List (List ℕ)) → IsWordClosed P word v
      → IsGreatestRaised s roots best leaves v
      → AreDealt s.forest roots dealt → ((i : ℕ) (c : List ℕ) → slice_get dealt i ≡ Some c → (p : Pass) × (slice_get ps i ≡ Some p) × (p.start ≡ c))
      → ((i : ℕ) (p : Pass) → slice_get ps i ≡ Some p → HasRun s roots p × (p.stack.items ≡ []) × IsNotedIn p.known v) → IsGreatest s roots best leaves
  settles ready P word best leaves v ps dealt c b d from each =
      let same : word ≡ best = best_word P word best leaves v c b in
      let done : (i : ℕ) (p : Pass) → slice_get ps i ≡ Some p → IsDone best p =
      λ i p at. (let h = each i p at in record { runs = h.0; empty = h.1; within = (let w : p.known ≤ word = known_word P word p.known v c h.2 in omega arith) }) in
      let e : Ended best ps = all_ended best ps done in
      let all : (tuple : List ℕ) → AreBelow s.forest tuple roots → IsDealtTo s.forest tuple e.runs = all_dealt best ps dealt e d from e in
      let some : best ≢ 0 = some_reached s ready.forest roots best e.runs e.ended all in
      let reached : IsReached s roots best leaves = elim b.is as (λ _. IsReached s roots best leaves) [ inl z ↦ absurd (some z) | inr i ↦ i.1 ] in
      greatest s ready.forest roots best e.runs e.ended all leaves reached

  -- a pass that took as many as the budget and has something left
  pub spends : IsSearchReady s roots → (budget : ℕ) (p : Pass) (list : List (List ℕ)) → p.stack.items ≢ [] → p.taken.count ≡ budget
      → (r : HasRun s roots p) → map combination_of r.entries ≡ list → IsSpent s roots budget list
  spends ready budget p list more count r same =
      let left : stack_after (p.start ∷ []) r.entries ≢ [] = λ e. more (reverse_none p.stack.items (sym r.stack ∙ e)) in
      let long : length r.entries ≡ budget = r.count ∙ count in
      subst (λ (z : List (List ℕ)). IsSpent s roots budget z) same (spent s ready.forest roots p.start 0 budget r.entries r.part r.run left long)
    where
      length_reverse : (xs : List (List ℕ)) → length (reverse xs) ≡ length xs
      length_reverse xs = length-reverse xs

      reverse_none : (xs : List (List ℕ)) → reverse xs ≡ [] → xs ≡ []
      reverse_none [] e = refl
      reverse_none (x ∷ xs) e =
          let a : length (reverse (x ∷ xs)) ≡ suc (length xs) = length_reverse (x ∷ xs) in
          let b : length (reverse (x ∷ xs)) ≡ 0 = ap (λ (z : List (List ℕ)). length z) e in
          absurd (omega (arith, a, b))

  -- a combination that gives way to its parts, at its place and at the end
  parts_put : (xs : List (List ℕ)) (i : ℕ) (c l r : List ℕ) → slice_get xs i ≡ Some c → IsSplit s.forest c l r → AreParts s.forest roots xs → AreParts s.forest roots (set xs i l ++ r ∷ [])
  parts_put [] i c l r at h ps = absurd (none-some c at)
  parts_put (x ∷ xs) zero c l r at h ps =
      let p : IsPart s.forest roots c = subst (λ (z : List ℕ). IsPart s.forest roots z) (same_Some x c at) ps.0 in
      (part_more s.forest roots c l p (r, inl h), parts_end xs r (part_more s.forest roots c r p (l, inr h)) ps.1)
    where
      parts_end : (xs : List (List ℕ)) (r : List ℕ) → IsPart s.forest roots r → AreParts s.forest roots xs → AreParts s.forest roots (xs ++ r ∷ [])
      parts_end [] r p ps = (p, tt)
      parts_end (x ∷ xs) r p ps = (ps.0, parts_end xs r p ps.1)
  parts_put (x ∷ xs) (suc i) c l r at h ps = (ps.0, parts_put xs i c l r at h ps.1)

  below_end : (tuple r : List ℕ) (xs : List (List ℕ)) → AreBelow s.forest tuple r → IsBelowOne s.forest tuple (xs ++ r ∷ [])
  below_end tuple r [] b = inl b
  below_end tuple r (x ∷ xs) b = inr (below_end tuple r xs b)

  below_front : (tuple r : List ℕ) (xs : List (List ℕ)) → IsBelowOne s.forest tuple xs → IsBelowOne s.forest tuple (xs ++ r ∷ [])
  below_front tuple r [] b = elim b [ ]
  below_front tuple r (x ∷ xs) (inl b) = inl b
  below_front tuple r (x ∷ xs) (inr b) = inr (below_front tuple r xs b)

  below_put : (tuple : List ℕ) (xs : List (List ℕ)) (i : ℕ) (c l r : List ℕ) → slice_get xs i ≡ Some c
      → IsSplit s.forest c l r → IsBelowOne s.forest tuple xs → IsBelowOne s.forest tuple (set xs i l ++ r ∷ [])
  below_put tuple [] i c l r at h b = absurd (none-some c at)
  below_put tuple (x ∷ xs) zero c l r at h (inl b) =
      elim (below_parts s.forest tuple c l r h (subst (λ (z : List ℕ). AreBelow s.forest tuple z) (same_Some x c at) b)) as (λ _. IsBelowOne s.forest tuple (l ∷ (xs ++ r ∷ []))) [
        | inl u ↦ inl u
        | inr u ↦ inr (below_end tuple r xs u)
      ]
  below_put tuple (x ∷ xs) zero c l r at h (inr b) = inr (below_front tuple r xs b)
  below_put tuple (x ∷ xs) (suc i) c l r at h (inl b) = inl b
  below_put tuple (x ∷ xs) (suc i) c l r at h (inr b) = inr (below_put tuple xs i c l r at h b)

  pub dealt_put : (xs : List (List ℕ)) (i : ℕ) (c l r : List ℕ) → slice_get xs i ≡ Some c → IsSplit s.forest c l r → AreDealt s.forest roots xs → AreDealt s.forest roots (set xs i l ++ r ∷ [])
  dealt_put xs i c l r at h d = record { parts = parts_put xs i c l r at h d.parts; all = λ tuple b. below_put tuple xs i c l r at h (d.all tuple b) }

  pub parts_at : (xs : List (List ℕ)) (i : ℕ) (c : List ℕ) → AreParts s.forest roots xs → slice_get xs i ≡ Some c → IsPart s.forest roots c
  parts_at [] i c ps at = absurd (none-some c at)
  parts_at (x ∷ xs) zero c ps at = subst (λ (z : List ℕ). IsPart s.forest roots z) (same_Some x c at) ps.0
  parts_at (x ∷ xs) (suc i) c ps at = parts_at xs i c ps.1 at

-- an item at its place
pub each_get : {X : Type 0} (P : ℕ → X → Type 0) (xs : List X) (i : ℕ) (x : X) → EachPlace P xs → slice_get xs i ≡ Some x → P i x
each_get P xs i x h at = subst (P i) (get_or_from_slice_get xs i x x at) (h i x (slice_get_within xs i x at))

pub from_places : (ps : List Pass) (dealt : List (List ℕ)) → length ps ≡ length dealt → EachPlace (λ place p. slice_get dealt place ≡ Some p.start) ps
    → (i : ℕ) (c : List ℕ) → slice_get dealt i ≡ Some c → (p : Pass) × (slice_get ps i ≡ Some p) × (p.start ≡ c)
from_places ps dealt same h i c at =
    let (p, there) = item_at ps i (let w : i < length dealt = slice_get_within dealt i c at in omega arith) in
    let is : slice_get dealt i ≡ Some p.start = each_get (λ place p. slice_get dealt place ≡ Some p.start) ps i p h there in
    (p, there, same_Some p.start c (sym is ∙ at))
  where
    item_at : (ps : List Pass) (i : ℕ) → i < length ps → (p : Pass) × (slice_get ps i ≡ Some p)
    item_at [] i lt = absurd (omega arith)
    item_at (p ∷ ps) zero lt = (p, refl)
    item_at (p ∷ ps) (suc i) lt = item_at ps i (omega arith)

-- what was taken from the end
pub popped_at : {X : Type 0} (all left rest done : List X) (x : X) → all ≡ left ++ done → left ≡ rest ++ x ∷ [] → slice_get all (length rest) ≡ Some x
popped_at all left rest done x e d = ap (λ z. slice_get z (length rest)) (e ∙ ap (λ z. z ++ done) d) ∙ here rest x done
  where
    here : {X : Type 0} (rest : List X) (x : X) (done : List X) → slice_get ((rest ++ x ∷ []) ++ done) (length rest) ≡ Some x
    here [] x done = refl
    here (y ∷ rest) x done = here rest x done

pub popped_split : {X : Type 0} (all left rest done : List X) (x : X) → all ≡ left ++ done → left ≡ rest ++ x ∷ [] → all ≡ rest ++ x ∷ done
popped_split all left rest done x e d = e ∙ (ap (λ z. z ++ done) d ∙ append_assoc rest (x ∷ []) done)

module _ (word : WordOf Question) (all rest : List Pass) (p : Pass) (best best' : ℕ) (leaves leaves' : List ℕ) (v w : View) where
  -- one more pass is taken in
  pub gather_more : (left : List Pass) → IsGathered word all left best leaves v → left ≡ rest ++ p ∷ [] → w.parts ≡ v.parts + 1 → IsNotedIn p.known w → ((n : ℕ) → IsNotedIn n v → IsNotedIn n w)
      → IsGreatestRaised (search_of_question word.about) word.about.roots.value best' leaves' w → IsGathered word all rest best' leaves' w
  gather_more left g e parts mine kept b = record {
    parts = (let a : v.parts + length left ≡ 1024 = g.parts in let c : length left ≡ length rest + 1 = ap length e ∙ length-append rest (p ∷ []) in omega arith);
    done = p ∷ g.done;
    split = popped_split all left rest g.done p g.split e;
    known = known_of;
    greatest = b;
  }
    where
      known_of : (i : ℕ) (q : Pass) → slice_get (p ∷ g.done) i ≡ Some q → IsNotedIn q.known w
      known_of zero q at = subst (λ (x : Pass). IsNotedIn x.known w) (same_Some p q at) mine
      known_of (suc i) q at = kept q.known (g.known i q at)

-- an item behind others
pub each_push : {X : Type 0} (P : ℕ → X → Type 0) (xs : List X) (x : X) → EachPlace P xs → P (length xs) x → EachPlace P (xs ++ x ∷ [])
each_push P xs x h p i d lt = elim (cases_lt i (length xs)) as (λ _. P i (slice_index_or (xs ++ x ∷ []) i d)) [
  | inl early ↦ subst (P i) (sym (front xs x i d early)) (h i d early)
  | inr late ↦ (let e : length xs ≡ i = (let l : length (xs ++ x ∷ []) ≡ length xs + 1 = length-append xs (x ∷ []) in omega arith) in
      subst (λ (k : ℕ). P k (slice_index_or (xs ++ x ∷ []) k d)) e (subst (P (length xs)) (sym (last xs x d)) p))
]
  where
    front : {X : Type 0} (xs : List X) (x : X) (i : ℕ) (d : X) → i < length xs → slice_index_or (xs ++ x ∷ []) i d ≡ slice_index_or xs i d
    front [] x i d lt = absurd (omega arith)
    front (y ∷ xs) x zero d lt = refl
    front (y ∷ xs) x (suc i) d lt = front xs x i d (omega arith)

    last : {X : Type 0} (xs : List X) (x : X) (d : X) → slice_index_or (xs ++ x ∷ []) (length xs) d ≡ x
    last [] x d = refl
    last (y ∷ xs) x d = last xs x d

-- what is made of a value, if there is one
pub IfSome_map : {A B : Type 0} (f : A → B) (o : Option A) (P : B → Type 0) → IfSome o (λ x. P (f x)) → IfSome (option_map f o) P
IfSome_map f None P h = tt
IfSome_map f (Some x) P h = h

pub IsSome_map : {A B : Type 0} (f : A → B) (o : Option A) → IsSome o → IsSome (option_map f o)
IsSome_map f None h = h
IsSome_map f (Some x) h = refl
