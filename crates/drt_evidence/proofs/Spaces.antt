-- Fields without a space, and cutting a line at its spaces.
use Rattle.std.proofs.Common.{◌≡◌, ◌≢◌, ℕ, ◌+◌, ◌<◌, ◌≤◌, List, [], ◌∷◌, ◌++◌, length, take, get_or, Option, Some, None, MatchOption, Bor, refl, sym, ap, ◌∙◌, arith}
use Rattle.std.specs.Prelude.{option_map}
use Rattle.std.specs.List.{AllByRecursion}
use Rattle.std.proofs.lemmas.List.{append-nil, append_cancel_left}
use Rattle.std.proofs.lemmas.Grind.{take_at_read}
use Rattle.drt_file.proofs.Snoc.{every_push}
use Rattle.drt_file.proofs.Again.{IsField}
use Rattle.drt_evidence.specs.Cuts.{IsSpaced}
use Rattle.drt_evidence.specs.Fields.{behind}
use Rattle.drt_evidence.specs.LineForms.{HasNoSpace, spaced}

-- As a loop looks for a space.
pub space_next : (bytes : List ℕ) (i : ℕ) → i < length bytes → get_or bytes i 0 ≢ 32 → HasNoSpace (take i bytes) → HasNoSpace (take (i + 1) bytes)
space_next bytes i lt other none = rw (take_at_read bytes i 0 lt).1 (every_push (λ b. b ≢ 32) (take i bytes) (get_or bytes i 0) none other)

-- Bytes above the space are none.
high_bytes : (word : List ℕ) → AllByRecursion (λ b. 33 ≤ b) word → HasNoSpace word
high_bytes [] are = are
high_bytes (b ∷ word) are = ((λ e. absurd (omega (arith, e, are.0))), high_bytes word are.1)

pub field_no_space : (word : List ℕ) → IsField word → HasNoSpace word
field_no_space word is = high_bytes word is.bytes

pub spaced_behind : (o : Option (List ℕ)) → IsSpaced (spaced o)
spaced_behind None = tt
spaced_behind (Some rest) = refl

pub fields_behind : (fields : List (List ℕ)) → IsSpaced (behind fields)
fields_behind [] = tt
fields_behind (w ∷ ws) = refl

-- Two ways to cut off a first field are one.
pub cut_same : (xs ys us ws : List ℕ) → HasNoSpace xs → HasNoSpace ys → IsSpaced us → IsSpaced ws → xs ++ us ≡ ys ++ ws → (xs ≡ ys) × (us ≡ ws)
cut_same [] [] us ws nx ny bu bw e = (refl, e)
cut_same [] (y ∷ ys) [] ws nx ny bu bw e = cc
cut_same [] (y ∷ ys) (u ∷ us) ws nx ny bu bw e = let same : u ≡ y = cc in absurd (ny.0 (sym same ∙ bu))
cut_same (x ∷ xs) [] us [] nx ny bu bw e = cc
cut_same (x ∷ xs) [] us (w ∷ ws) nx ny bu bw e = let same : x ≡ w = cc in absurd (nx.0 (same ∙ bw))
cut_same (x ∷ xs) (y ∷ ys) us ws nx ny bu bw e =
    let head : x ≡ y = cc in
    let tail : xs ++ us ≡ ys ++ ws = cc in
    let r = cut_same xs ys us ws nx.1 ny.1 bu bw tail in
    (ap (λ t. t ∷ xs) head ∙ ap (λ t. y ∷ t) r.0, r.1)

-- Bytes without a space have no field before one.
pub no_cut : (xs ys ws : List ℕ) → HasNoSpace xs → HasNoSpace ys → xs ≡ ys ++ 32 ∷ ws → ⊥
no_cut xs ys ws nx ny e =
    let r = cut_same xs ys [] (32 ∷ ws) nx ny tt refl (append-nil xs ∙ e) in
    let none : [] ≡ 32 ∷ ws = r.1 in
    cc

-- What cutting off a field says.
pub cut_spaced : (bytes field : List ℕ) (rest : Option (Bor (List ℕ))) → MatchOption rest (bytes ≡ field) (λ r. bytes ≡ field ++ 32 ∷ r.now)
    → bytes ≡ field ++ spaced (option_map (λ r. r.now) rest)
cut_spaced bytes field None is = is ∙ sym (append-nil field)
cut_spaced bytes field (Some r) is = is

-- A word, and then a space.
pub word_then_space : (line word rest : List ℕ) (o : Option (Bor (List ℕ))) → line ≡ word ++ rest
    → MatchOption o ((r : List ℕ) → ¬ (rest ≡ (32 ∷ []) ++ r)) (λ r. rest ≡ (32 ∷ []) ++ r.now)
    → MatchOption o ((r : List ℕ) → ¬ (line ≡ word ++ 32 ∷ r)) (λ r. line ≡ word ++ 32 ∷ r.now)
word_then_space line word rest None cut not = λ r e. not r (append_cancel_left word rest (32 ∷ r) (sym cut ∙ e))
word_then_space line word rest (Some r) cut is = cut ∙ ap (λ t. word ++ t) is
