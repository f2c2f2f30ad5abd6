-- A list that gives an option of a search, of `bench` or of `margin` a value out of its range is refused, wherever in the list that stands.
use Rattle.std.proofs.Common.{◌≡◌, ◌++◌, ◌&&◌, ℕ, Bool, cond, eqb, true, false, List, [], ◌∷◌, None, codes, refl, inl, length}
use Rattle.std.proofs.Common.{lt-ltb, arith}
use Rattle.clap.specs.ValueTests.{is_unsigned_in}
use Rattle.clap.specs.Walk.{Held, Text, Waiting, idle, arg_by_index, is_pending, next_position, nothing_held, positional_held, pushed, settled, takes_several, walked}
use Rattle.clap.specs.Faults.{repeat_fault}
use Rattle.drt_words.specs.Meaning.{meaning_of}
use Rattle.drt_effort.specs.Efforts.{most_budget, most_workers}
use Rattle.drt_words.specs.Plain.{Searcher, searcher_word, GivesBadNumber, HaveNoDashes, Spells}
use Rattle.drt_words.specs.Plain.{bad_workers, bad_budget, bad_bench, bad_margin_workers, bad_margin_budget}
use Rattle.drt_words.proofs.BadOptions.{IsRefused, IsStrict, anywhere, before, stuck}
use Rattle.drt_words.proofs.BadWalks.{Fails, Placed, nowhere, somewhere, later, level_fails, now}
use Rattle.drt_words.proofs.Entering.{bench_leaf, bench_means, first_name_built, margin_leaf, margin_means, number_built, refused_below, search_leaf, search_means, second_name_built}
use Rattle.drt_words.proofs.Options.{bench_workers, margin_budget, margin_workers, search_budget, search_workers}
use Rattle.drt_words.proofs.PlainWalks.{HasOption}
use Rattle.drt_words.proofs.WordWalks.{or_second, at}

-- ---- the commands that search, where no word is a name

searches_strictly : (k : Searcher) → IsStrict (search_leaf k)
searches_strictly k = record { no_short = λ x. refl; places = λ place. nowhere refl }

search_refuses : (k : Searcher) (name : Text) (most : ℕ) (standard : Text) → HasOption (search_leaf k) name most standard → (program text : Text) (front words back : List Text)
    → is_unsigned_in 1 most text ≡ false → Spells name text words → meaning_of (program ∷ searcher_word k ∷ (front ++ words ++ back)) ≡ None
search_refuses k name most standard o program text front words back bad spelled =
    let stray = λ (rest : Text) (more : List Text) (h : Held) (waiting : Waiting) (place : ℕ). now (search_leaf k) (at h waiting place true) (45 ∷ rest) more tt in
    let fails = anywhere (search_leaf k) (searches_strictly k) name most standard o text bad stray words back spelled front nothing_held idle 1 false in
    rw (search_means k program (front ++ words ++ back)) (refused_below (search_leaf k) (front ++ words ++ back) (level_fails (search_leaf k) (front ++ words ++ back) fails))

-- ---- `bench`, where a word that is no flag goes to the number

number_placed : (place : ℕ) → Placed (arg_by_index bench_leaf.rules place)
number_placed place = go (eqb 1 place) refl
  where
    go : (b : Bool) → eqb 1 place ≡ b → Placed (arg_by_index bench_leaf.rules place)
    go true e = somewhere number_built (rw e refl) refl refl
    go false e = nowhere (rw e refl)

benches_strictly : IsStrict bench_leaf
benches_strictly = record { no_short = λ x. refl; places = number_placed }

-- behind `--` the option's word goes to the number, and is none
no_number : (rest : Text) → is_unsigned_in 0 18446744073709551615 (45 ∷ rest) ≡ false
no_number rest = rw (lt-ltb 0 (length (45 ∷ rest)) (omega arith)) refl

placed_refused : (h : Held) (rest : Text) → IsRefused bench_leaf benches_strictly (positional_held bench_leaf.rules number_built (45 ∷ rest) h)
placed_refused h rest = go (is_pending number_built h.pending)
  where
    go : (b : Bool) → IsRefused bench_leaf benches_strictly (pushed (codes "number") (45 ∷ rest) (cond (b && takes_several number_built) h (settled bench_leaf.rules h)))
    go true = or_second (repeat_fault false (codes "number") (settled bench_leaf.rules h).rows) _ (rw (no_number rest) tt)
    go false = or_second (repeat_fault false (codes "number") (settled bench_leaf.rules h).rows) _ (rw (no_number rest) tt)

behind : (rest : Text) (back : List Text) (h : Held) (waiting : Waiting) (place : ℕ) → Fails bench_leaf (at h waiting place true) ((45 ∷ rest) ∷ back)
unfolding walked
behind rest back h waiting place = go (eqb 1 place) refl
  where
    word : Text
    word = 45 ∷ rest

    go : (b : Bool) → eqb 1 place ≡ b → Fails bench_leaf (at h waiting place true) (word ∷ back)
    go false e = now bench_leaf (at h waiting place true) word back (or_second [] _ (rw e tt))
    go true e =
        later bench_leaf (at h waiting place true) (at (positional_held bench_leaf.rules number_built word h) idle (next_position number_built place) true) word back (rw e refl)
        (stuck bench_leaf benches_strictly back (positional_held bench_leaf.rules number_built word h) idle (next_position number_built place) true (inl refl) (placed_refused h rest))

bench_refuses : (program text : Text) (front words back : List Text) → is_unsigned_in 1 most_workers text ≡ false → Spells (codes "workers") text words
    → meaning_of (program ∷ codes "bench" ∷ (front ++ words ++ back)) ≡ None
bench_refuses program text front words back bad spelled =
    let fails = anywhere bench_leaf benches_strictly (codes "workers") most_workers (codes "4") bench_workers text bad behind words back spelled front nothing_held idle 1 false in
    rw (bench_means program (front ++ words ++ back)) (refused_below bench_leaf (front ++ words ++ back) (level_fails bench_leaf (front ++ words ++ back) fails))

-- ---- `margin`, where a word that is no flag goes to one of two names

names_placed : (place : ℕ) → Placed (arg_by_index margin_leaf.rules place)
names_placed place = go (eqb 1 place) (eqb 2 place) refl refl
  where
    go : (a b : Bool) → eqb 1 place ≡ a → eqb 2 place ≡ b → Placed (arg_by_index margin_leaf.rules place)
    go true b e f = somewhere first_name_built (rw e refl) refl refl
    go false true e f = somewhere second_name_built (rw (e, f) refl) refl refl
    go false false e f = nowhere (rw (e, f) refl)

margins_strictly : IsStrict margin_leaf
margins_strictly = record { no_short = λ x. refl; places = names_placed }

margin_refuses : (name : Text) (most : ℕ) (standard : Text) → HasOption margin_leaf name most standard → (program text : Text) (front words back : List Text) → HaveNoDashes front
    → is_unsigned_in 1 most text ≡ false → Spells name text words → meaning_of (program ∷ codes "margin" ∷ (front ++ words ++ back)) ≡ None
margin_refuses name most standard o program text front words back none bad spelled =
    let fails = before margin_leaf margins_strictly name most standard o text bad words back spelled front none nothing_held idle 1 in
    rw (margin_means program (front ++ words ++ back)) (refused_below margin_leaf (front ++ words ++ back) (level_fails margin_leaf (front ++ words ++ back) fails))

-- ---- the whole list

pub bad_means : (words : List (List ℕ)) → GivesBadNumber words → meaning_of words ≡ None
bad_means words (bad_workers command program text front spelled back bad s) =
    search_refuses command (codes "workers") most_workers (codes "4") (search_workers command) program text front spelled back bad s
bad_means words (bad_budget command program text front spelled back bad s) =
    search_refuses command (codes "budget") most_budget (codes "100000") (search_budget command) program text front spelled back bad s
bad_means words (bad_bench program text front spelled back bad s) = bench_refuses program text front spelled back bad s
bad_means words (bad_margin_workers program text front spelled back none bad s) =
    margin_refuses (codes "workers") most_workers (codes "4") margin_workers program text front spelled back none bad s
bad_means words (bad_margin_budget program text front spelled back none bad s) =
    margin_refuses (codes "budget") most_budget (codes "100000") margin_budget program text front spelled back none bad s
