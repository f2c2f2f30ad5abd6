-- Lines of fields, written one after the other.
use Rattle.std.proofs.Common.{◌≡◌, ℕ, ◌+◌, ◌<◌, ◌≤◌, List, [], ◌∷◌, ◌++◌, length, map, take, get_or, refl, sym, ap, ◌∙◌, append_assoc, arith, Bor}
use Rattle.std.specs.List.{flat_map, join_with_byte}
use Rattle.std.proofs.lemmas.List.{append-nil, take_more, take_all, map_push}
use Rattle.std.proofs.lemmas.Grind.{common_steps}
use Rattle.std.proofs.Math.Seq.{take-append_seam}
use Rattle.std.proofs.lemmas.List.Concat.{flat_map-append}
use Rattle.drt_file.specs.trusted.Canonical.{written, written_line}

-- One more field behind others.
pub join_push : (ws : List (List ℕ)) (w : List ℕ) → 0 < length ws → join_with_byte 32 (ws ++ w ∷ []) ≡ join_with_byte 32 ws ++ 32 ∷ w
join_push [] w has = absurd (omega arith)
join_push (x ∷ []) w has = refl
join_push (x ∷ y ∷ ws) w has = ap (λ r. x ++ 32 ∷ r) (join_push (y ∷ ws) w (omega arith)) ∙ sym (append_assoc x (32 ∷ join_with_byte 32 (y ∷ ws)) (32 ∷ w))

-- What words point to.
abbrev pub texts : List (Bor (List ℕ)) → List (List ℕ)
texts words = map (λ w. w.now) words

-- One more word, behind others or as the first.
pub word_more : (start was mid now : List ℕ) (words : List (Bor (List ℕ))) (i : ℕ) (d : Bor (List ℕ)) → 0 < i → i < length words
    → was ≡ start ++ join_with_byte 32 (texts (take i words)) → mid ≡ was ++ 32 ∷ [] → now ≡ mid ++ (get_or words i d).now
    → now ≡ start ++ join_with_byte 32 (texts (take (i + 1) words))
word_more start was mid now words i d has lt so_far spaced more =
    let front = texts (take i words) in
    let w = (get_or words i d).now in
    let few : 0 < length front = grind (arith, common_steps) in
    let e : join_with_byte 32 (texts (take (i + 1) words)) ≡ join_with_byte 32 front ++ 32 ∷ w
    = ap (λ ws. join_with_byte 32 (texts ws)) (take_more words i d lt) ∙ ap (join_with_byte 32) (map_push (λ x. x.now) (take i words) (get_or words i d))
    ∙ join_push front w few in
    more ∙ ap (λ t. t ++ w) spaced ∙ ap (λ t. (t ++ 32 ∷ []) ++ w) so_far ∙ append_assoc (start ++ join_with_byte 32 front) (32 ∷ []) w
    ∙ append_assoc start (join_with_byte 32 front) (32 ∷ w) ∙ ap (λ r. start ++ r) (sym e)

pub word_first : (start was mid now : List ℕ) (words : List (Bor (List ℕ))) (i : ℕ) (d : Bor (List ℕ)) → i ≤ 0 → i < length words
    → was ≡ start ++ join_with_byte 32 (texts (take i words)) → mid ≡ was → now ≡ mid ++ (get_or words i d).now
    → now ≡ start ++ join_with_byte 32 (texts (take (i + 1) words))
word_first start was mid now words i d none lt so_far same more =
    let zero : i ≡ 0 = omega arith in
    let front = texts (take i words) in
    let empty : front ≡ [] = rw zero refl in
    let e : join_with_byte 32 (texts (take (i + 1) words)) ≡ (get_or words i d).now
    = ap (λ ws. join_with_byte 32 (texts ws)) (take_more words i d lt) ∙ ap (join_with_byte 32) (map_push (λ x. x.now) (take i words) (get_or words i d))
    ∙ ap (λ ws. join_with_byte 32 (ws ++ (get_or words i d).now ∷ [])) empty in
    more ∙ ap (λ t. t ++ (get_or words i d).now) (same ∙ so_far ∙ ap (λ ws. start ++ join_with_byte 32 ws) empty ∙ append-nil start) ∙ ap (λ r. start ++ r) (sym e)

-- All the words.
pub words_done : (start now : List ℕ) (words : List (Bor (List ℕ))) (i : ℕ) → length words ≤ i
    → now ≡ start ++ join_with_byte 32 (texts (take i words)) → now ≡ start ++ join_with_byte 32 (texts words)
words_done start now words i all so_far = so_far ∙ ap (λ ws. start ++ join_with_byte 32 (texts ws)) (take_all i words all)

-- What stood there stays in front of what is added.
pub kept_front : (start now more : List ℕ) → now ≡ start ++ more → take (length start) now ≡ start
kept_front start now more e = ap (take (length start)) e ∙ take-append_seam start more

pub kept_spaced : (start was now more : List ℕ) → was ≡ start ++ more → now ≡ was ++ 32 ∷ [] → take (length start) now ≡ start
kept_spaced start was now more e spaced = kept_front start now (more ++ 32 ∷ []) (spaced ∙ ap (λ t. t ++ 32 ∷ []) e ∙ append_assoc start more (32 ∷ []))

-- The words and the LF behind them.
pub line_done : (start was now : List ℕ) (words : List (Bor (List ℕ))) → was ≡ start ++ join_with_byte 32 (texts words) → now ≡ was ++ 10 ∷ []
    → now ≡ start ++ written_line (texts words)
unfolding written_line
line_done start was now words so_far more = more ∙ ap (λ t. t ++ 10 ∷ []) so_far ∙ append_assoc start (join_with_byte 32 (texts words)) (10 ∷ [])

-- One more line, of the item at i.
pub line_more : {X : Type 0} (f : X → List (List ℕ)) (start was now : List ℕ) (xs : List X) (i : ℕ) (x : X) → i < length xs → x ≡ get_or xs i x
    → was ≡ start ++ written (map f (take i xs)) → now ≡ was ++ written_line (f x) → now ≡ start ++ written (map f (take (i + 1) xs))
line_more f start was now xs i x lt at so_far more =
    let front = map f (take i xs) in
    let taken : take (i + 1) xs ≡ take i xs ++ x ∷ [] = take_more xs i x lt ∙ ap (λ y. take i xs ++ y ∷ []) (sym at) in
    let e : written (map f (take (i + 1) xs)) ≡ written front ++ written_line (f x)
    = ap (λ ys. written (map f ys)) taken ∙ ap written (map_push f (take i xs) x) ∙ flat_map-append written_line front (f x ∷ [])
    ∙ ap (λ r. written front ++ r) (append-nil (written_line (f x))) in
    more ∙ ap (λ t. t ++ written_line (f x)) so_far ∙ append_assoc start (written front) (written_line (f x)) ∙ ap (λ r. start ++ r) (sym e)

-- More lines, those of the item at i.
pub lines_more : {X : Type 0} (f : X → List (List (List ℕ))) (start was now : List ℕ) (xs : List X) (i : ℕ) (x : X) → i < length xs → x ≡ get_or xs i x
    → was ≡ start ++ written (flat_map f (take i xs)) → now ≡ was ++ written (f x) → now ≡ start ++ written (flat_map f (take (i + 1) xs))
lines_more f start was now xs i x lt at so_far more =
    let front = flat_map f (take i xs) in
    let taken : take (i + 1) xs ≡ take i xs ++ x ∷ [] = take_more xs i x lt ∙ ap (λ y. take i xs ++ y ∷ []) (sym at) in
    let e : written (flat_map f (take (i + 1) xs)) ≡ written front ++ written (f x)
    = ap (λ ys. written (flat_map f ys)) taken ∙ ap written (flat_map-append f (take i xs) (x ∷ [])) ∙ ap (λ r. written (front ++ r)) (append-nil (f x))
    ∙ flat_map-append written_line front (f x) in
    more ∙ ap (λ t. t ++ written (f x)) so_far ∙ append_assoc start (written front) (written (f x)) ∙ ap (λ r. start ++ r) (sym e)
