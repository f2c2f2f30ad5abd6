-- Lines with a LF behind each, at the front of a text.
use Rattle.std.proofs.Common.{◌≡◌, ◌≢◌, ℕ, suc, ◌+◌, ◌-◌, ◌<◌, ◌≤◌, ◌⊎◌, inl, inr, Bool, true, false, ◌==◌, List, [], ◌∷◌, ◌++◌, length, take, get_or, refl, sym, ap, ◌∙◌, append_assoc, arith}
use Rattle.std.specs.List.{AllByRecursion}
use Rattle.std.proofs.lemmas.List.{append-nil}
use Rattle.std.proofs.lemmas.Grind.{take_at_read}
use Rattle.std.proofs.lemmas.List.Concat.{flat_map-append}
use Rattle.drt_file.specs.trusted.Cutting.{lines, lines_after, with_run, fed, HasNoFeed}
use Rattle.drt_file.specs.trusted.CanonicalPrefix.{line_count, first_lines}
use Rattle.drt_file.proofs.Again.{line_again}
use Rattle.drt_file.proofs.Snoc.{every_push}

pub is_feed : (b : ℕ) → b ≢ 10 → (b == 10) ≡ false
is_feed b other = grind (arith, other)

-- Lines and one more.
pub fed_push : (ls : List (List ℕ)) (line rest : List ℕ) → fed (ls ++ line ∷ []) ++ rest ≡ fed ls ++ (line ++ 10 ∷ rest)
fed_push [] line rest = ap (λ l. l ++ rest) (append-nil (line ++ 10 ∷ [])) ∙ append_assoc line (10 ∷ []) rest
fed_push (l ∷ ls) line rest =
    append_assoc (l ++ 10 ∷ []) (fed (ls ++ line ∷ [])) rest ∙ ap (λ t. (l ++ 10 ∷ []) ++ t) (fed_push ls line rest) ∙ sym (append_assoc (l ++ 10 ∷ []) (fed ls) (line ++ 10 ∷ rest))

pub fed_cons : (line : List ℕ) (ls : List (List ℕ)) (rest : List ℕ) → fed (line ∷ ls) ++ rest ≡ line ++ 10 ∷ (fed ls ++ rest)
fed_cons line ls rest = append_assoc (line ++ 10 ∷ []) (fed ls) rest ∙ append_assoc line (10 ∷ []) (fed ls ++ rest)

pub fed_both : (xs ys : List (List ℕ)) → fed (xs ++ ys) ≡ fed xs ++ fed ys
fed_both xs ys = flat_map-append (λ line. line ++ 10 ∷ []) xs ys

-- Lines with a LF behind each are cut as they were.
pub fed_lines : (ls : List (List ℕ)) → AllByRecursion HasNoFeed ls → lines (fed ls) ≡ ls
unfolding lines_after with_run
fed_lines [] none = refl
fed_lines (line ∷ ls) none =
    ap lines (append_assoc line (10 ∷ []) (fed ls)) ∙ line_again [] line (fed ls) none.0 ∙ ap (λ others. line ∷ others) (fed_lines ls none.1)

-- How many lines there are.
pub no_lines : (bs : List ℕ) → HasNoFeed bs → line_count bs ≡ 0
unfolding line_count
no_lines [] none = refl
no_lines (b ∷ bs) none = let e = is_feed b none.0 in rw (e, no_lines bs none.1) refl

count_line : (line rest : List ℕ) → HasNoFeed line → line_count (line ++ 10 ∷ rest) ≡ 1 + line_count rest
unfolding line_count
count_line [] rest none = refl
count_line (b ∷ line) rest none = let e = is_feed b none.0 in rw (e, count_line line rest none.1) (omega arith)

pub count_fed : (ls : List (List ℕ)) (rest : List ℕ) → AllByRecursion HasNoFeed ls → line_count (fed ls ++ rest) ≡ length ls + line_count rest
count_fed [] rest none = omega arith
count_fed (line ∷ ls) rest none =
    let more = count_fed ls rest none.1 in
    ap line_count (fed_cons line ls rest) ∙ count_line line (fed ls ++ rest) none.0 ∙ (omega (arith, more))

-- The first lines.
first_none : (bytes : List ℕ) → first_lines 0 bytes ≡ []
unfolding first_lines
first_none [] = refl
first_none (b ∷ bs) = refl

pub first_line_of : (n : ℕ) (line rest : List ℕ) → HasNoFeed line → first_lines (suc n) (line ++ 10 ∷ rest) ≡ line ++ 10 ∷ first_lines n rest
unfolding first_lines
first_line_of n [] rest none = let e : suc n - 1 ≡ n = omega arith in let z : (suc n == 0) ≡ false = grind arith in rw (z, e) refl
first_line_of n (b ∷ line) rest none =
    let e = is_feed b none.0 in
    let z : (suc n == 0) ≡ false = grind arith in
    rw (z, e) (ap (λ t. b ∷ t) (first_line_of n line rest none.1))

pub first_fed : (ls : List (List ℕ)) (rest : List ℕ) → AllByRecursion HasNoFeed ls → first_lines (length ls) (fed ls ++ rest) ≡ fed ls
first_fed [] rest none = first_none rest
first_fed (line ∷ ls) rest none =
    ap (first_lines (suc (length ls))) (fed_cons line ls rest) ∙ first_line_of (length ls) line (fed ls ++ rest) none.0
    ∙ ap (λ t. line ++ 10 ∷ t) (first_fed ls rest none.1) ∙ sym (append_assoc line (10 ∷ []) (fed ls))

-- Fewer lines stand before more.
pub first_before : (n m : ℕ) (bytes : List ℕ) → n ≤ m → (rest : List ℕ) × (first_lines n bytes ++ rest ≡ first_lines m bytes)
unfolding first_lines
first_before n m [] le = ([], refl)
first_before n m (b ∷ bs) le = go (λ k l h. first_before k l bs h) (n == 0) refl (m == 0) refl (b == 10) refl
  where
    go : ((k l : ℕ) → k ≤ l → (rest : List ℕ) × (first_lines k bs ++ rest ≡ first_lines l bs)) → (z : Bool) → (n == 0) ≡ z → (y : Bool) → (m == 0) ≡ y → (f : Bool)
        → (b == 10) ≡ f → (rest : List ℕ) × (first_lines n (b ∷ bs) ++ rest ≡ first_lines m (b ∷ bs))
    go on true isz y isy f isf = (first_lines m (b ∷ bs), rw isz refl)
    go on false isz true isy f isf = absurd (grind (arith, isz, isy, le))
    go on false isz false isy true isf =
        let r = on (n - 1) (m - 1) (omega (arith, le)) in
        (r.0, rw (isz, isy, isf) (ap (λ t. b ∷ t) r.1))
    go on false isz false isy false isf =
        let r = on n m le in
        (r.0, rw (isz, isy, isf) (ap (λ t. b ∷ t) r.1))

-- Two ways to cut off a line are one.
pub line_same : (xs ys us ws : List ℕ) → HasNoFeed xs → HasNoFeed ys → xs ++ 10 ∷ us ≡ ys ++ 10 ∷ ws → (xs ≡ ys) × (us ≡ ws)
line_same [] [] us ws nx ny e = (refl, cc)
line_same [] (y ∷ ys) us ws nx ny e = let same : 10 ≡ y = cc in absurd (ny.0 (sym same))
line_same (x ∷ xs) [] us ws nx ny e = let same : x ≡ 10 = cc in absurd (nx.0 same)
line_same (x ∷ xs) (y ∷ ys) us ws nx ny e =
    let head : x ≡ y = cc in
    let tail : xs ++ 10 ∷ us ≡ ys ++ 10 ∷ ws = cc in
    let r = line_same xs ys us ws nx.1 ny.1 tail in
    (ap (λ t. t ∷ xs) head ∙ ap (λ t. y ∷ t) r.0, r.1)

-- A text without LF begins with no line.
pub no_line_here : (xs line rest : List ℕ) → HasNoFeed xs → xs ≡ line ++ 10 ∷ rest → ⊥
no_line_here [] [] rest none e = cc
no_line_here [] (l ∷ line) rest none e = cc
no_line_here (x ∷ xs) [] rest none e = let same : x ≡ 10 = cc in none.0 same
no_line_here (x ∷ xs) (l ∷ line) rest none e = let tail : xs ≡ line ++ 10 ∷ rest = cc in no_line_here xs line rest none.1 tail

-- One of two lists of lines at the front of a text goes on from the other.
pub either_front : (xs ys : List (List ℕ)) (us ws : List ℕ) → AllByRecursion HasNoFeed xs → AllByRecursion HasNoFeed ys → fed xs ++ us ≡ fed ys ++ ws
    → ((more : List (List ℕ)) × (xs ≡ ys ++ more)) ⊎ ((line : List ℕ) × (more : List (List ℕ)) × (ys ≡ xs ++ line ∷ more) × HasNoFeed line × (us ≡ line ++ 10 ∷ (fed more ++ ws)))
either_front xs [] us ws nx ny e = inl (xs, refl)
either_front [] (y ∷ ys) us ws nx ny e = inr (y, ys, refl, ny.0, e ∙ fed_cons y ys ws)
either_front (x ∷ xs) (y ∷ ys) us ws nx ny e = go (either_front xs ys us ws nx.1 ny.1 same.1)
  where
    same : (x ≡ y) × (fed xs ++ us ≡ fed ys ++ ws)
    same = line_same x y (fed xs ++ us) (fed ys ++ ws) nx.0 ny.0 (sym (fed_cons x xs us) ∙ e ∙ fed_cons y ys ws)

    go : ((more : List (List ℕ)) × (xs ≡ ys ++ more)) ⊎ ((line : List ℕ) × (more : List (List ℕ)) × (ys ≡ xs ++ line ∷ more) × HasNoFeed line × (us ≡ line ++ 10 ∷ (fed more ++ ws)))
        → ((more : List (List ℕ)) × (x ∷ xs ≡ y ∷ (ys ++ more))) ⊎
        ((line : List ℕ) × (more : List (List ℕ)) × (y ∷ ys ≡ x ∷ (xs ++ line ∷ more)) × HasNoFeed line × (us ≡ line ++ 10 ∷ (fed more ++ ws)))
    go (inl (more, is)) = inl (more, ap (λ t. t ∷ xs) same.0 ∙ ap (λ t. y ∷ t) is)
    go (inr (line, more, is, none, rest)) = inr (line, more, ap (λ t. t ∷ ys) (sym same.0) ∙ ap (λ t. x ∷ t) is, none, rest)

-- As a loop cuts off a line.
pub feed_next : (text : List ℕ) (i : ℕ) → i < length text → get_or text i 0 ≢ 10 → HasNoFeed (take i text) → HasNoFeed (take (i + 1) text)
feed_next text i lt other none = rw (take_at_read text i 0 lt).1 (every_push (λ b. b ≢ 10) (take i text) (get_or text i 0) none other)
