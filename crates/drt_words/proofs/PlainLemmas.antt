-- What the command says of plain lists.
use Rattle.std.proofs.Common.{◌≡◌, ◌<◌, ◌≤◌, ◌^◌, ◌==◌, ◌++◌, ℕ, List, [], ◌∷◌, Some, false, true, codes, decimal, refl, inl, inr, arith, ap, append-nil, fold, length, lt-ltb, lit<, lit≤}
use Rattle.std.proofs.lemmas.Bool.{le-leb}
use Rattle.std.specs.Str.Parse.{IsNumeral, digits_value, without_leading_plus}
use Rattle.std.proofs.lemmas.Fmt.{decimal_is_IsNumeral}
use Rattle.clap.proofs.OnLiterals.{clap_on_literals}
use Rattle.clap.specs.ValueTests.{is_unsigned_in}
use Rattle.clap.specs.Simple.{Shape}
use Rattle.clap.specs.Walk.{Held, Row, Rule, Text, has_row, idle, nothing_held, used, walk_from, with_default}
use Rattle.drt_words.specs.Number.{whole_in}
use Rattle.drt_effort.specs.Efforts.{most_workers}
use Rattle.drt_words.specs.Meaning.{meaning_at, meaning_of, effort_at}
use Rattle.drt_words.specs.Plain.{BeginsPlain, PlainOption, PlainOptions, left_out, given}
use Rattle.drt_words.proofs.OptionCases.{OptionCases, neither, workers, budget, both_workers, both_budget, cases_of, written}
use Rattle.drt_words.specs.Plain.{IsPlain, IsPlainAnswer, IsPlainMargin, IsPlainTool, Searcher, for_edf, for_sp, for_response, for_assign, searcher_word}
use Rattle.drt_words.specs.Plain.{plain_edf, plain_sp, plain_response, plain_assign}
use Rattle.drt_words.specs.Plain.{plain_upgrade, plain_util, plain_check, plain_bench, plain_convert, plain_timeline, plain_timeline_back}
use Rattle.drt_words.specs.Plain.{names_last, names_first}
use Rattle.drt_words.proofs.NumberLemmas.{digits_pass}
use Rattle.drt_words.proofs.Options.{bench_workers, search_budget, search_workers}
use Rattle.drt_words.proofs.PlainMargins.{margin_back_means, margin_front_means}
use Rattle.drt_words.proofs.PlainSearches.{after_options, budget_read, options_rows, other, read_of, workers_read, workers_used}
use Rattle.drt_words.proofs.PlainTimelines.{back_means, front_means}
use Rattle.drt_words.proofs.PlainWalks.{Settles, Ends, HasWord, after_option, after_word, below_ends, ends_here, last_fault, plainly}
use Rattle.drt_words.proofs.WordWalks.{at}
use Rattle.drt_words.proofs.Entering.{bench_leaf, bench_means, budget_built, meaning_below, number_built, search_leaf, search_means, workers_built}
use Rattle.drt_words.specs.declared.meaning.Meaning.{Meaning}
use Rattle.drt_words.specs.declared.meaning.Meaning.TheVariants.{Edf, Sp, Response, Assign, Upgrade, Util, Check, Bench, Convert}

-- ---- the commands that search

-- what such a command means with workers and a budget
abbrev searcher_meaning : Searcher → ℕ → ℕ → Meaning
searcher_meaning for_edf m n = Edf (record { workers = m; budget = n })
searcher_meaning for_sp m n = Sp (record { workers = m; budget = n })
searcher_meaning for_response m n = Response (record { workers = m; budget = n })
searcher_meaning for_assign m n = Assign (record { workers = m; budget = n })

abbrev both : List Rule
both = workers_built ∷ budget_built ∷ []

module _ (k : Searcher) where
  abbrev leaf : Shape
  leaf = search_leaf k

  -- the name, and the numbers that the rows have, are the meaning
  named : (rows : List Row) (m n : ℕ) → effort_at rows ≡ Some (record { workers = m; budget = n }) → meaning_at (searcher_word k) rows ≡ Some (searcher_meaning k m n)
  named rows m n e = go k
    where
      go : (k : Searcher) → meaning_at (searcher_word k) rows ≡ Some (searcher_meaning k m n)
      go for_edf = rw e refl
      go for_sp = rw e refl
      go for_response = rw e refl
      go for_assign = rw e refl

  -- what the rows of the options say
  record Says (rows : List Row) (m n : ℕ) : Type 0 where
    fine : last_fault leaf rows ≡ []
    numbers : effort_at (fold with_default rows both) ≡ Some (record { workers = m; budget = n })

  says : (words : List Text) (m n : ℕ) (o : OptionCases words m n) → Says (options_rows words m n o []) m n
  unfolding clap_on_literals
  says words m n neither = record { fine = refl; numbers = refl }
  says words m n (workers ws a l p x) = record { fine = refl; numbers = rw (workers_read a l p) refl }
  says words m n (budget ws b l p x) = record { fine = refl; numbers = rw (budget_read b l p) refl }
  says words m n (both_workers front back a b i j p q x y) = record { fine = refl; numbers = rw (workers_read a i p, budget_read b j q) refl }
  says words m n (both_budget front back a b i j p q x y) = record { fine = refl; numbers = rw (workers_read a i p, budget_read b j q) refl }

  options_mean : (words : List Text) (m n : ℕ) → OptionCases words m n → meaning_below leaf words ≡ Some (searcher_meaning k m n)
  options_mean words m n o =
      let rows = options_rows words m n o [] in
      let nothing : Settles leaf [] nothing_held = record { no_fault = refl; leaves = refl } in
      let ends = after_options leaf (search_workers k) (search_budget k) rows 1 words [] m n o [] refl refl nothing_held nothing (λ g it. ends_here leaf rows (at g idle 1 false) it) in
      let told = says words m n o in
      rw (below_ends leaf rows words (rw append-nil at ends) told.fine) (named (fold with_default rows both) m n told.numbers)

upgrade_means : (program : List ℕ) → meaning_of (program ∷ codes "upgrade" ∷ []) ≡ Some Upgrade
unfolding clap_on_literals
upgrade_means program = refl

util_means : (program : List ℕ) → meaning_of (program ∷ codes "util" ∷ []) ≡ Some Util
unfolding clap_on_literals
util_means program = refl

check_means : (program : List ℕ) → meaning_of (program ∷ codes "check" ∷ []) ≡ Some Check
unfolding clap_on_literals
check_means program = refl

convert_means : (program : List ℕ) → meaning_of (program ∷ codes "convert" ∷ []) ≡ Some Convert
unfolding clap_on_literals
convert_means program = refl

-- What clap and the reader find at a plain number of 64 bits.
record ReadWhole (text : List ℕ) (n : ℕ) : Type 0 where
  plain : BeginsPlain text
  passes : is_unsigned_in 0 18446744073709551615 text ≡ true
  number : whole_in text ≡ Some n

whole_of : (n : ℕ) (text : List ℕ) → n < 2 ^ 64 → IsNumeral 10 text × (digits_value 10 text ≡ n) → ReadWhole text n
whole_of n [] within p = absurd (omega (arith, p.0.0))
whole_of n (d ∷ ds) within p =
    let plus : (d == 43) ≡ false = other 43 d (lit≤ tt) p.0.1.0 in
    let minus : (d == 45) ≡ false = other 45 d (lit≤ tt) p.0.1.0 in
    let e : without_leading_plus (d ∷ ds) ≡ d ∷ ds = rw plus refl in
    let v = digits_value 10 (d ∷ ds) in
    let small : v < 2 ^ 64 = omega (arith, p.1, within) in
    let high : v ≤ 18446744073709551615 = omega (arith, small) in
    record {
      plain = record { no_dashes = rw minus refl; no_long = rw minus refl; no_short = rw minus refl };
      passes = rw (e, lt-ltb 0 (length (d ∷ ds)) p.0.0, digits_pass (d ∷ ds) p.0.1, lt-ltb v (2 ^ 64) small, le-leb 0 v (omega arith), le-leb v 18446744073709551615 high) refl;
      number = rw (e, lt-ltb 0 (length (d ∷ ds)) p.0.0, digits_pass (d ∷ ds) p.0.1, lt-ltb v (2 ^ 64) small) (ap Some p.1);
    }

-- ---- `bench`

takes_number : HasWord bench_leaf number_built 1
takes_number = record { by_place = refl; by_id = refl; single = refl; once = refl; no_tail = refl }

-- the walk over the number
over_number : (text : List ℕ) (n : ℕ) → ReadWhole text n → (rows : List Row) → has_row (codes "number") rows ≡ false → (h : Held) → Settles bench_leaf rows h
    → Ends bench_leaf (used number_built (text ∷ []) rows) (at h idle 1 false) (text ∷ [])
over_number text n r rows free h it =
    after_word bench_leaf number_built 1 takes_number text rows (rw (free, r.passes) refl) h it false (plainly r.plain) _ []
    (λ g more. ends_here bench_leaf _ (at g idle 2 false) more)

pays : Settles bench_leaf [] nothing_held
pays = record { no_fault = refl; leaves = refl }

number_means : (options : List (List ℕ)) (text : List ℕ) (m n : ℕ) → PlainOption (codes "workers") 4 most_workers options m → ReadWhole text n → meaning_below bench_leaf (options ++ text ∷ []) ≡ Some (Bench m n)
unfolding clap_on_literals
number_means options text m n left_out r = rw (below_ends bench_leaf _ (text ∷ []) (over_number text n r [] refl nothing_held pays) refl) (rw r.number refl)
number_means options text m n (given words l low high s) r =
    let a = decimal l in
    let u = read_of most_workers l a (lit< tt) (written most_workers l (lit< tt) low high) in
    let rows = used number_built (text ∷ []) (workers_used a []) in
    let ends : Ends bench_leaf rows (walk_from nothing_held) (words ++ text ∷ []) =
    after_option bench_leaf (codes "workers") most_workers (codes "4") bench_workers a u.passes [] refl nothing_held pays 1 words (text ∷ []) s u.plain rows
    (λ g it. over_number text n r (workers_used a []) refl g it) in
    rw (below_ends bench_leaf rows (words ++ text ∷ []) ends refl) (rw (u.number, r.number) refl)

searcher_means : (k : Searcher) (program : List ℕ) (options : List (List ℕ)) (m n : ℕ) → PlainOptions options m n
    → meaning_of (program ∷ searcher_word k ∷ options) ≡ Some (searcher_meaning k m n)
searcher_means k program options m n o = rw (search_means k program options) (options_mean k options m n (cases_of options m n o))

answer_means : (words : List (List ℕ)) (meaning : Meaning) → IsPlainAnswer words meaning → meaning_of words ≡ Some meaning
answer_means words meaning (plain_edf program options m n o) = searcher_means for_edf program options m n o
answer_means words meaning (plain_sp program options m n o) = searcher_means for_sp program options m n o
answer_means words meaning (plain_response program options m n o) = searcher_means for_response program options m n o
answer_means words meaning (plain_assign program options m n o) = searcher_means for_assign program options m n o
answer_means words meaning (plain_check program) = check_means program

named_means : (words : List (List ℕ)) (meaning : Meaning) → IsPlainMargin words meaning → meaning_of words ≡ Some meaning
named_means words meaning (names_last program options names fixed m n spot o x) = margin_front_means options fixed m n (cases_of options m n o) program names spot x
named_means words meaning (names_first program task vertex options fixed m n o t v) = margin_back_means options fixed m n (cases_of options m n o) program task vertex t v

tool_means : (words : List (List ℕ)) (meaning : Meaning) → IsPlainTool words meaning → meaning_of words ≡ Some meaning
tool_means words meaning (plain_upgrade program) = upgrade_means program
tool_means words meaning (plain_util program) = util_means program
tool_means words meaning (plain_convert program) = convert_means program
tool_means words meaning (plain_timeline program spots svg vertex s) = front_means program spots svg vertex s
tool_means words meaning (plain_timeline_back program spots svg vertex s) = back_means program spots svg vertex s
tool_means words meaning (plain_bench program options m n o p) =
    rw (bench_means program (options ++ decimal n ∷ [])) (number_means options (decimal n) m n o (whole_of n (decimal n) p (decimal_is_IsNumeral n p)))

pub plain_means : (words : List (List ℕ)) (meaning : Meaning) → IsPlain words meaning → meaning_of words ≡ Some meaning
plain_means words meaning (inl p) = answer_means words meaning p
plain_means words meaning (inr (inl p)) = named_means words meaning p
plain_means words meaning (inr (inr p)) = tool_means words meaning p
