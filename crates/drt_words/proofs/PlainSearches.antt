-- The walk of a command over the options of a search, where each is spelled plainly: it refuses none of them, and ends with their rows.
use Rattle.std.proofs.Common.{◌≡◌, ◌<◌, ◌≤◌, ◌^◌, ◌++◌, ◌==◌, ℕ, Bool, cond, true, false, List, [], ◌∷◌, Some, codes, refl, arith, ap, append_assoc, bytes_eq, length}
use Rattle.std.proofs.Common.{lt-ltb, lit<, lit≤}
use Rattle.std.specs.Char.{digit_value}
use Rattle.std.proofs.lemmas.Bool.{le-leb, ne_eqb, or_from, or_parts}
use Rattle.std.specs.Str.Parse.{digits_value, without_leading_plus}
use Rattle.clap.specs.ValueTests.{is_unsigned_in}
use Rattle.clap.specs.Simple.{Shape}
use Rattle.clap.specs.Walk.{Held, Row, Rule, Text, default_rows, has_row, idle, more_values, reading_by, used, with_default, with_values, without}
use Rattle.clap.specs.declared.builder.value_parser.Reading.{Reading}
use Rattle.clap.specs.declared.parser.matches.ValueSource.{ValueSource}
use Rattle.clap.specs.declared.parser.matches.ValueSource.TheVariants.{CommandLine, DefaultValue}
use Rattle.drt_words.specs.Number.{number_in}
use Rattle.drt_effort.specs.Efforts.{most_budget, most_workers}
use Rattle.drt_words.specs.Plain.{BeginsPlain, Spells}
use Rattle.drt_words.proofs.OptionCases.{IsWritten, OptionCases, neither, workers, budget, both_workers, both_budget}
use Rattle.drt_words.proofs.Entering.{budget_built, workers_built}
use Rattle.drt_words.proofs.NumberLemmas.{digits_pass}
use Rattle.drt_words.proofs.PlainWalks.{Settles, Ends, HasOption, after_option}
use Rattle.drt_words.proofs.WordWalks.{at}

-- ---- a plain number

-- what clap and the reader find at a plain number
pub record Read (most : ℕ) (text : List ℕ) (n : ℕ) : Type 0 where
  pub plain : BeginsPlain text
  pub passes : is_unsigned_in 1 most text ≡ true
  pub number : number_in most text ≡ Some n

-- a plain number is what both readers find
passes_of : (most n : ℕ) (text : List ℕ) → most < 2 ^ 64 → without_leading_plus text ≡ text → IsWritten most text n → is_unsigned_in 1 most text ≡ true
passes_of most n text fits e p =
    let v = digits_value 10 text in
    let low : 1 ≤ v = omega (arith, p.value, p.some) in
    let high : v ≤ most = omega (arith, p.value, p.within) in
    rw (e, lt-ltb 0 (length text) p.digits.0, digits_pass text p.digits.1, lt-ltb v (2 ^ 64) (omega arith), le-leb 1 v low, le-leb v most high) refl

number_is : (most n : ℕ) (text : List ℕ) → without_leading_plus text ≡ text → IsWritten most text n → number_in most text ≡ Some n
number_is most n text e p =
    let v = digits_value 10 text in
    let low : 1 ≤ v = omega (arith, p.value, p.some) in
    let high : v ≤ most = omega (arith, p.value, p.within) in
    rw (e, lt-ltb 0 (length text) p.digits.0, digits_pass text p.digits.1, le-leb 1 v low, le-leb v most high) (ap Some p.value)

digit_not : (c d : ℕ) → digit_value d < 10 → ((10 ≤ digit_value c) × (d ≡ c)) → ⊥
digit_not c d small h = let e : digit_value d ≡ digit_value c = ap digit_value h.1 in omega (arith, e, small, h.0)

pub other : (c d : ℕ) → 10 ≤ digit_value c → digit_value d < 10 → (d == c) ≡ false
other c d big small = ne_eqb d c (λ e. digit_not c d small (big, e))

pub read_of : (most n : ℕ) (text : List ℕ) → most < 2 ^ 64 → IsWritten most text n → Read most text n
read_of most n [] fits p = absurd (omega (arith, p.digits.0))
read_of most n (d ∷ ds) fits p =
    let plus : (d == 43) ≡ false = other 43 d (lit≤ tt) p.digits.1.0 in
    let minus : (d == 45) ≡ false = other 45 d (lit≤ tt) p.digits.1.0 in
    let e : without_leading_plus (d ∷ ds) ≡ d ∷ ds = rw plus refl in
    record {
      plain = record { no_dashes = rw minus refl; no_long = rw minus refl; no_short = rw minus refl };
      passes = passes_of most n (d ∷ ds) fits e p;
      number = number_is most n (d ∷ ds) e p;
    }

pub workers_read : (a : List ℕ) (m : ℕ) → IsWritten most_workers a m → number_in most_workers a ≡ Some m
workers_read a m p = (read_of most_workers m a (lit< tt) p).number

pub budget_read : (b : List ℕ) (n : ℕ) → IsWritten most_budget b n → number_in most_budget b ≡ Some n
budget_read b n p = (read_of most_budget n b (lit< tt) p).number

-- ---- an argument that has no row has none after another is used, or gets its default

module _ (id other : Text) (differs : bytes_eq other id ≡ false) where
  free_without : (rows : List Row) → has_row id rows ≡ false → has_row id (without other rows) ≡ false
  free_without [] free = refl
  free_without (r ∷ rows) free =
      let parts = or_parts (bytes_eq r.id id) (has_row id rows) free in
      go (free_without rows parts.1) parts (bytes_eq r.id other)
    where
      go : has_row id (without other rows) ≡ false → (bytes_eq r.id id ≡ false) × (has_row id rows ≡ false) → (b : Bool)
          → has_row id (cond b ([] ++ rows) (r ∷ without other rows)) ≡ false
      go after parts true = parts.1
      go after parts false = or_from _ _ parts.0 after

  free_with : (how : Reading) (source : ValueSource) (values : List Text) (rows : List Row) → has_row id rows ≡ false → has_row id (with_values other how source values rows) ≡ false
  free_with how source values [] free = or_from _ _ differs refl
  free_with how source values (r ∷ rows) free =
      let parts = or_parts (bytes_eq r.id id) (has_row id rows) free in
      go (free_with how source values rows parts.1) parts.0 (bytes_eq r.id other)
    where
      go : has_row id (with_values other how source values rows) ≡ false → bytes_eq r.id id ≡ false → (b : Bool)
          → has_row id (cond b (more_values source values r ++ rows) (r ∷ with_values other how source values rows)) ≡ false
      go after first true = free
      go after first false = or_from _ _ first after

  pub free_used : (how : Reading) (values : List Text) (rows : List Row) → has_row id rows ≡ false → has_row id (with_values other how CommandLine values (without other rows)) ≡ false
  free_used how values rows free = free_with how CommandLine values (without other rows) (free_without rows free)

  free_given : (how : Reading) (values : List Text) (rows : List Row) → has_row id rows ≡ false
      → has_row id (cond (has_row other rows) rows (default_rows other how values rows)) ≡ false
  free_given how values rows free = go (has_row other rows) values
    where
      go : (b : Bool) (values : List Text) → has_row id (cond b rows (default_rows other how values rows)) ≡ false
      go true values = free
      go false [] = free
      go false (v ∷ vs) = free_with how DefaultValue (v ∷ vs) rows free

pub free_default : (id : Text) (a : Rule) → bytes_eq a.id id ≡ false → (rows : List Row) → has_row id rows ≡ false → has_row id (with_default rows a) ≡ false
free_default id a differs rows free = free_given id a.id differs (reading_by a) a.defaults rows free

-- ---- the options of a search

abbrev pub workers_used : List ℕ → List Row → List Row
workers_used a = used workers_built (a ∷ [])

abbrev pub budget_used : List ℕ → List Row → List Row
budget_used b = used budget_built (b ∷ [])

-- the rows with those of the options that are given
abbrev pub options_rows : (words : List Text) (m n : ℕ) → OptionCases words m n → List Row → List Row
options_rows words m n neither rows = rows
options_rows words m n (workers ws a l p s) rows = workers_used a rows
options_rows words m n (budget ws b l p s) rows = budget_used b rows
options_rows words m n (both_workers front back a b i j p q s t) rows = budget_used b (workers_used a rows)
options_rows words m n (both_budget front back a b i j p q s t) rows = workers_used a (budget_used b rows)

-- an argument that is none of the two options has no more rows than before
pub free_options : (id : Text) → bytes_eq (codes "workers") id ≡ false → bytes_eq (codes "budget") id ≡ false → (words : List Text) (m n : ℕ) (o : OptionCases words m n)
    → (rows : List Row) → has_row id rows ≡ false → has_row id (options_rows words m n o rows) ≡ false
free_options id v w words m n neither rows free = free
free_options id v w words m n (workers ws a l p s) rows free = free_used id (codes "workers") v _ _ rows free
free_options id v w words m n (budget ws b l p s) rows free = free_used id (codes "budget") w _ _ rows free
free_options id v w words m n (both_workers front back a b i j p q s t) rows free =
    free_used id (codes "budget") w _ _ (workers_used a rows) (free_used id (codes "workers") v _ _ rows free)
free_options id v w words m n (both_budget front back a b i j p q s t) rows free =
    free_used id (codes "workers") v _ _ (budget_used b rows) (free_used id (codes "budget") w _ _ rows free)

module _ (s : Shape) (takes_workers : HasOption s (codes "workers") most_workers (codes "4")) (takes_budget : HasOption s (codes "budget") most_budget (codes "100000"))
    (out : List Row) (place : ℕ) where
  -- the walk over one option
  over_workers : (words back : List Text) (a : List ℕ) (m : ℕ) → IsWritten most_workers a m → Spells (codes "workers") a words → (rows : List Row)
      → has_row (codes "workers") rows ≡ false → (h : Held) → Settles s rows h → ((g : Held) → Settles s (workers_used a rows) g → Ends s out (at g idle place false) back)
      → Ends s out (at h idle place false) (words ++ back)
  over_workers words back a m p spelled rows free h it after =
      let r = read_of most_workers m a (lit< tt) p in
      after_option s (codes "workers") most_workers (codes "4") takes_workers a r.passes rows free h it place words back spelled r.plain out after

  over_budget : (words back : List Text) (b : List ℕ) (n : ℕ) → IsWritten most_budget b n → Spells (codes "budget") b words → (rows : List Row)
      → has_row (codes "budget") rows ≡ false → (h : Held) → Settles s rows h → ((g : Held) → Settles s (budget_used b rows) g → Ends s out (at g idle place false) back)
      → Ends s out (at h idle place false) (words ++ back)
  over_budget words back b n p spelled rows free h it after =
      let r = read_of most_budget n b (lit< tt) p in
      after_option s (codes "budget") most_budget (codes "100000") takes_budget b r.passes rows free h it place words back spelled r.plain out after

  -- the options, and what follows them
  pub after_options : (words back : List Text) (m n : ℕ) (o : OptionCases words m n) (rows : List Row) → has_row (codes "workers") rows ≡ false → has_row (codes "budget") rows ≡ false
      → (h : Held) → Settles s rows h → ((g : Held) → Settles s (options_rows words m n o rows) g → Ends s out (at g idle place false) back)
      → Ends s out (at h idle place false) (words ++ back)
  after_options words back m n neither rows v w h it after = after h it
  after_options words back m n (workers ws a l p s) rows v w h it after = over_workers ws back a l p s rows v h it after
  after_options words back m n (budget ws b l p s) rows v w h it after = over_budget ws back b l p s rows w h it after
  after_options words back m n (both_workers front tail a b i j p q s t) rows v w h it after =
      let free = free_used (codes "budget") (codes "workers") refl _ _ rows w in
      rw (append_assoc front tail back) (over_workers front (tail ++ back) a i p s rows v h it (λ g more. over_budget tail back b j q t (workers_used a rows) free g more after))
  after_options words back m n (both_budget front tail a b i j p q s t) rows v w h it after =
      let free = free_used (codes "workers") (codes "budget") refl _ _ rows v in
      rw (append_assoc front tail back) (over_budget front (tail ++ back) b j q s rows w h it (λ g more. over_workers tail back a i p t (budget_used b rows) free g more after))
