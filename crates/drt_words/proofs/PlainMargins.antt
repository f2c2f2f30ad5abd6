-- What the command says of plain lists of `margin`, and of those with one name or none.
use Rattle.std.proofs.Common.{◌≡◌, ◌++◌, ◌||◌, ℕ, Bool, cond, true, false, not, List, [], ◌∷◌, Some, None, codes, refl, append-nil, bytes_eq, fold}
use Rattle.std.proofs.lemmas.Bool.{or_parts}
use Rattle.clap.proofs.OnLiterals.{clap_on_literals}
use Rattle.clap.specs.Takes.{is_given}
use Rattle.clap.specs.Faults.{turn_fault}
use Rattle.clap.specs.Walk.{Held, Row, Text, has_row, idle, nothing_held, used, walk_from, walked, with_default}
use Rattle.clap.specs.declared.error.kind.ErrorKind.TheVariants as kind
use Rattle.drt_words.specs.Meaning.{meaning_at, meaning_of}
use Rattle.drt_words.specs.Plain.{BeginsPlain, flag_words, PlainNames, names_alone, names_behind, MissesNames, no_name, one_name}
use Rattle.drt_words.proofs.OptionCases.{OptionCases, neither, workers, budget, both_workers, both_budget, cases_of}
use Rattle.drt_words.specs.declared.meaning.Meaning.TheVariants.{Margin}
use Rattle.drt_words.specs.declared.meaning.Meaning.{Meaning}
use Rattle.drt_words.specs.declared.spot.Spot.{Spot}
use Rattle.drt_words.proofs.Entering.{budget_built, first_name_built, fixed_built, margin_leaf, margin_means, meaning_below, second_name_built, workers_built}
use Rattle.drt_words.proofs.Options.{margin_budget, margin_workers}
use Rattle.drt_words.proofs.PlainSearches.{after_options, budget_read, free_default, free_options, free_used, options_rows, workers_read}
use Rattle.drt_words.proofs.PlainWalks.{Ends, HasFlag, HasWord, IsRead, Settles, after_flag, after_word, behind, below_ends, below_misses, ends_here, flag_rows, last_fault, one_more, plainly}
use Rattle.drt_words.proofs.WordWalks.{Faulty, at, or_second}

takes_fixed : HasFlag margin_leaf (codes "fixed")
takes_fixed = record { by_long = refl; plain = refl; long = refl }

takes_first : HasWord margin_leaf first_name_built 1
takes_first = record { by_place = refl; by_id = refl; single = refl; once = refl; no_tail = refl }

takes_second : HasWord margin_leaf second_name_built 2
takes_second = record { by_place = refl; by_id = refl; single = refl; once = refl; no_tail = refl }

nothing : Settles margin_leaf [] nothing_held
nothing = record { no_fault = refl; leaves = refl }

-- ---- the walk over the flag and the options

-- an argument other than the flag has no more rows than before
free_flag : (id : Text) → bytes_eq (codes "fixed") id ≡ false → (fixed : Bool) (rows : List Row)
    → has_row id rows ≡ false → has_row id (flag_rows (codes "fixed") fixed rows) ≡ false
free_flag id differs false rows free = free
free_flag id differs true rows free = free_used id (codes "fixed") differs _ _ rows free

module _ (options : List Text) (fixed : Bool) (m n : ℕ) (o : OptionCases options m n) where
  -- the rows with those of the flag and the options
  abbrev given_rows : List Row → List Row
  given_rows rows = options_rows options m n o (flag_rows (codes "fixed") fixed rows)

  free_given : (id : Text) → bytes_eq (codes "fixed") id ≡ false → bytes_eq (codes "workers") id ≡ false → bytes_eq (codes "budget") id ≡ false → (rows : List Row)
      → has_row id rows ≡ false → has_row id (given_rows rows) ≡ false
  free_given id x y z rows free = free_options id y z options m n o (flag_rows (codes "fixed") fixed rows) (free_flag id x fixed rows free)

  -- the flag and the options, and what follows them
  after_given : (place : ℕ) (rows : List Row) → has_row (codes "fixed") rows ≡ false → has_row (codes "workers") rows ≡ false → has_row (codes "budget") rows ≡ false
      → (h : Held) → Settles margin_leaf rows h → (out : List Row) (back : List Text)
      → ((g : Held) → Settles margin_leaf (given_rows rows) g → Ends margin_leaf out (at g idle place false) back) → Ends margin_leaf out (at h idle place false) (flag_words (codes "fixed") fixed ++ (options ++ back))
  after_given place rows x y z h it out back after =
      after_flag margin_leaf (codes "fixed") takes_fixed rows x h it place (options ++ back) fixed out
      (λ g held. after_options margin_leaf margin_workers margin_budget out place options back m n o (flag_rows (codes "fixed") fixed rows)
      (free_flag (codes "workers") refl fixed rows y) (free_flag (codes "budget") refl fixed rows z) g held after)

-- ---- the walk over the names

module _ (task vertex : Text) where
  -- the rows with those of the two names
  abbrev names_rows : List Row → List Row
  names_rows rows = used second_name_built (vertex ∷ []) (used first_name_built (task ∷ []) rows)

  -- the two names, and what follows them
  after_names : (is_trailing : Bool) → IsRead task is_trailing → IsRead vertex is_trailing → (rows : List Row) → has_row (codes "task") rows ≡ false
      → has_row (codes "vertex") rows ≡ false → (h : Held) → Settles margin_leaf rows h → (out : List Row) (back : List Text)
      → ((g : Held) → Settles margin_leaf (names_rows rows) g → Ends margin_leaf out (at g idle 3 is_trailing) back) → Ends margin_leaf out (at h idle 1 is_trailing) (task ∷ vertex ∷ back)
  after_names is_trailing t v rows free more h it out back after =
      let still : has_row (codes "vertex") (used first_name_built (task ∷ []) rows) ≡ false = free_used (codes "vertex") (codes "task") refl _ _ rows more in
      after_word margin_leaf first_name_built 1 takes_first task rows (rw free refl) h it is_trailing t out (vertex ∷ back)
      (λ g held. after_word margin_leaf second_name_built 2 takes_second vertex (used first_name_built (task ∷ []) rows) (rw still refl) g held is_trailing v out back after)

-- `--` says that no flag follows
dashes_turn : (h : Held) → turn_fault margin_leaf [] (at h idle 1 false) (codes "--") ≡ []
dashes_turn h = refl

dashes_walk : (h : Held) → walked margin_leaf.rules [] (at h idle 1 false) (codes "--") ≡ at h idle 1 true
unfolding walked
dashes_walk h = refl

-- ---- what the rows say

record Says (rows : List Row) (meaning : Meaning) : Type 0 where
  fine : last_fault margin_leaf rows ≡ []
  means : meaning_at (codes "margin") (fold with_default rows margin_leaf.rules) ≡ Some meaning

abbrev asks : Bool → Text → Text → ℕ → ℕ → Meaning
asks fixed task vertex m n = Margin fixed (record { task = task; vertex = vertex }) (record { workers = m; budget = n })

module _ (task vertex : Text) where
  -- with the names behind the options
  front_says : (options : List Text) (fixed : Bool) (m n : ℕ) (o : OptionCases options m n)
      → Says (names_rows task vertex (given_rows options fixed m n o [])) (asks fixed task vertex m n)
  unfolding clap_on_literals
  front_says options false m n neither = record { fine = refl; means = refl }
  front_says options true m n neither = record { fine = refl; means = refl }
  front_says options false m n (workers ws a l p x) = record { fine = refl; means = rw (workers_read a l p) refl }
  front_says options true m n (workers ws a l p x) = record { fine = refl; means = rw (workers_read a l p) refl }
  front_says options false m n (budget ws b l p x) = record { fine = refl; means = rw (budget_read b l p) refl }
  front_says options true m n (budget ws b l p x) = record { fine = refl; means = rw (budget_read b l p) refl }
  front_says options false m n (both_workers u v a b i j p q x y) = record { fine = refl; means = rw (workers_read a i p, budget_read b j q) refl }
  front_says options true m n (both_workers u v a b i j p q x y) = record { fine = refl; means = rw (workers_read a i p, budget_read b j q) refl }
  front_says options false m n (both_budget u v a b i j p q x y) = record { fine = refl; means = rw (workers_read a i p, budget_read b j q) refl }
  front_says options true m n (both_budget u v a b i j p q x y) = record { fine = refl; means = rw (workers_read a i p, budget_read b j q) refl }

  -- with the names before them
  back_says : (options : List Text) (fixed : Bool) (m n : ℕ) (o : OptionCases options m n)
      → Says (given_rows options fixed m n o (names_rows task vertex [])) (asks fixed task vertex m n)
  unfolding clap_on_literals
  back_says options false m n neither = record { fine = refl; means = refl }
  back_says options true m n neither = record { fine = refl; means = refl }
  back_says options false m n (workers ws a l p x) = record { fine = refl; means = rw (workers_read a l p) refl }
  back_says options true m n (workers ws a l p x) = record { fine = refl; means = rw (workers_read a l p) refl }
  back_says options false m n (budget ws b l p x) = record { fine = refl; means = rw (budget_read b l p) refl }
  back_says options true m n (budget ws b l p x) = record { fine = refl; means = rw (budget_read b l p) refl }
  back_says options false m n (both_workers u v a b i j p q x y) = record { fine = refl; means = rw (workers_read a i p, budget_read b j q) refl }
  back_says options true m n (both_workers u v a b i j p q x y) = record { fine = refl; means = rw (workers_read a i p, budget_read b j q) refl }
  back_says options false m n (both_budget u v a b i j p q x y) = record { fine = refl; means = rw (workers_read a i p, budget_read b j q) refl }
  back_says options true m n (both_budget u v a b i j p q x y) = record { fine = refl; means = rw (workers_read a i p, budget_read b j q) refl }

-- where the second name has no row, the end is refused
not_given : (id : Text) (rows : List Row) → has_row id rows ≡ false → is_given id rows ≡ false
not_given id [] free = refl
not_given id (r ∷ rows) free =
    let parts = or_parts (bytes_eq r.id id) (has_row id rows) free in
    rw parts.0 (not_given id rows parts.1)

lacks_second : (rows : List Row) → has_row (codes "vertex") rows ≡ false → Faulty (last_fault margin_leaf rows)
lacks_second rows free = or_second _ _ (go (not (is_given (codes "task") filled)))
  where
    filled : List Row
    filled = fold with_default rows margin_leaf.rules

    still : has_row (codes "vertex") filled ≡ false
    still =
        let first = with_default rows fixed_built in
        let second = with_default first workers_built in
        let third = with_default second budget_built in
        let last = with_default third first_name_built in
        let a : has_row (codes "vertex") first ≡ false = free_default (codes "vertex") fixed_built refl rows free in
        let b : has_row (codes "vertex") second ≡ false = free_default (codes "vertex") workers_built refl first a in
        let c : has_row (codes "vertex") third ≡ false = free_default (codes "vertex") budget_built refl second b in
        let d : has_row (codes "vertex") last ≡ false = free_default (codes "vertex") first_name_built refl third c in
        rw d d

    go : (b : Bool) → Faulty (cond (b || (not (is_given (codes "vertex") filled) || false)) (kind.MissingRequiredArgument ∷ []) [])
    go true = tt
    go false = rw (not_given (codes "vertex") filled still) tt

-- ---- the whole list

module _ (options : List Text) (fixed : Bool) (m n : ℕ) (o : OptionCases options m n) where
  abbrev rows_given : List Row
  rows_given = given_rows options fixed m n o []

  free_task : has_row (codes "task") rows_given ≡ false
  free_task = free_given options fixed m n o (codes "task") refl refl refl [] refl

  free_vertex : has_row (codes "vertex") rows_given ≡ false
  free_vertex = free_given options fixed m n o (codes "vertex") refl refl refl [] refl

  -- the walk over the flag and the options, from the start
  from_start : (out : List Row) (back : List Text) → ((g : Held) → Settles margin_leaf rows_given g → Ends margin_leaf out (at g idle 1 false) back)
      → Ends margin_leaf out (walk_from nothing_held) (flag_words (codes "fixed") fixed ++ (options ++ back))
  from_start out back after = after_given options fixed m n o 1 [] refl refl refl nothing_held nothing out back after

  module _ (task vertex : Text) where
    -- the names, and nothing behind them
    last_names : (is_trailing : Bool) → IsRead task is_trailing → IsRead vertex is_trailing → (g : Held) → Settles margin_leaf rows_given g
        → Ends margin_leaf (names_rows task vertex rows_given) (at g idle 1 is_trailing) (task ∷ vertex ∷ [])
    last_names is_trailing t v g it =
        after_names task vertex is_trailing t v rows_given free_task free_vertex g it _ [] (λ k held. ends_here margin_leaf _ (at k idle 3 is_trailing) held)

    ends_behind : (g : Held) → Settles margin_leaf rows_given g → Ends margin_leaf (names_rows task vertex rows_given) (at g idle 1 false) (codes "--" ∷ task ∷ vertex ∷ [])
    ends_behind g it = one_more margin_leaf _ _ _ (codes "--") (task ∷ vertex ∷ []) (dashes_turn g) (dashes_walk g) (last_names true behind behind g it)

    below_says : (words : List Text) → Ends margin_leaf (names_rows task vertex rows_given) (walk_from nothing_held) words → meaning_below margin_leaf words ≡ Some (asks fixed task vertex m n)
    below_says words ends =
        let told = front_says task vertex options fixed m n o in
        rw (below_ends margin_leaf _ words ends told.fine) told.means

  front_below : (names : List Text) (spot : Spot) → PlainNames names spot
      → meaning_below margin_leaf (flag_words (codes "fixed") fixed ++ (options ++ names)) ≡ Some (Margin fixed spot (record { workers = m; budget = n }))
  front_below names spot (names_alone task vertex t v) =
      below_says task vertex (flag_words (codes "fixed") fixed ++ (options ++ names)) (from_start _ names (last_names task vertex false (plainly t) (plainly v)))
  front_below names spot (names_behind task vertex) = below_says task vertex (flag_words (codes "fixed") fixed ++ (options ++ names)) (from_start _ names (ends_behind task vertex))

  pub margin_front_means : (program : Text) (names : List Text) (spot : Spot) → PlainNames names spot
      → meaning_of (program ∷ codes "margin" ∷ (flag_words (codes "fixed") fixed ++ (options ++ names))) ≡ Some (Margin fixed spot (record { workers = m; budget = n }))
  margin_front_means program names spot x = rw (margin_means program (flag_words (codes "fixed") fixed ++ (options ++ names))) (front_below names spot x)

  pub margin_back_means : (program task vertex : Text) → BeginsPlain task → BeginsPlain vertex
      → meaning_of (program ∷ codes "margin" ∷ task ∷ vertex ∷ (flag_words (codes "fixed") fixed ++ options)) ≡ Some (asks fixed task vertex m n)
  margin_back_means program task vertex t v =
      let rows = given_rows options fixed m n o (names_rows task vertex []) in
      let given : (g : Held) → Settles margin_leaf (names_rows task vertex []) g → Ends margin_leaf rows (at g idle 3 false) (flag_words (codes "fixed") fixed ++ options) =
      λ g it. rw append-nil at
      (after_given options fixed m n o 3 (names_rows task vertex []) refl refl refl g it rows [] (λ k held. ends_here margin_leaf rows (at k idle 3 false) held)) in
      let ends = after_names task vertex false (plainly t) (plainly v) [] refl refl nothing_held nothing rows (flag_words (codes "fixed") fixed ++ options) given in
      let told = back_says task vertex options fixed m n o in
      rw (margin_means program (task ∷ vertex ∷ (flag_words (codes "fixed") fixed ++ options)), below_ends margin_leaf rows (task ∷ vertex ∷ (flag_words (codes "fixed") fixed ++ options)) ends told.fine) told.means

  no_name_means : (program : Text) → meaning_of (program ∷ codes "margin" ∷ (flag_words (codes "fixed") fixed ++ options)) ≡ None
  no_name_means program =
      let ends = rw append-nil at (from_start rows_given [] (λ g it. ends_here margin_leaf rows_given (at g idle 1 false) it)) in
      rw (margin_means program (flag_words (codes "fixed") fixed ++ options)) (below_misses margin_leaf rows_given (flag_words (codes "fixed") fixed ++ options) ends (lacks_second rows_given free_vertex))

  one_name_means : (program name : Text) → BeginsPlain name → meaning_of (program ∷ codes "margin" ∷ (flag_words (codes "fixed") fixed ++ (options ++ name ∷ []))) ≡ None
  one_name_means program name t =
      let rows = used first_name_built (name ∷ []) rows_given in
      let ends = from_start rows (name ∷ [])
      (λ g it. after_word margin_leaf first_name_built 1 takes_first name rows_given (rw free_task refl) g it false (plainly t) rows []
      (λ k held. ends_here margin_leaf rows (at k idle 2 false) held)) in
      let free = free_used (codes "vertex") (codes "task") refl _ _ rows_given free_vertex in
      rw (margin_means program (flag_words (codes "fixed") fixed ++ (options ++ name ∷ []))) (below_misses margin_leaf rows (flag_words (codes "fixed") fixed ++ (options ++ name ∷ [])) ends (lacks_second rows free))

pub missing_means : (words : List Text) → MissesNames words → meaning_of words ≡ None
missing_means words (no_name program options fixed m n o) = no_name_means options fixed m n (cases_of options m n o) program
missing_means words (one_name program name options fixed m n o t) = one_name_means options fixed m n (cases_of options m n o) program name t
