-- Which options of one number each command has.
use Rattle.std.proofs.Common.{codes, refl}
use Rattle.drt_effort.specs.Efforts.{most_budget, most_workers}
use Rattle.drt_words.specs.Plain.{Searcher}
use Rattle.drt_words.proofs.Entering.{bench_leaf, margin_leaf, search_leaf}
use Rattle.drt_words.proofs.PlainWalks.{HasOption}

pub search_workers : (k : Searcher) → HasOption (search_leaf k) (codes "workers") most_workers (codes "4")
search_workers k = record { by_long = refl; by_id = refl; own = refl; apart_plain = refl; apart_long = refl; joined_plain = λ text. refl; joined_long = λ text. refl }

pub search_budget : (k : Searcher) → HasOption (search_leaf k) (codes "budget") most_budget (codes "100000")
search_budget k = record { by_long = refl; by_id = refl; own = refl; apart_plain = refl; apart_long = refl; joined_plain = λ text. refl; joined_long = λ text. refl }

pub bench_workers : HasOption bench_leaf (codes "workers") most_workers (codes "4")
bench_workers = record { by_long = refl; by_id = refl; own = refl; apart_plain = refl; apart_long = refl; joined_plain = λ text. refl; joined_long = λ text. refl }

pub margin_workers : HasOption margin_leaf (codes "workers") most_workers (codes "4")
margin_workers = record { by_long = refl; by_id = refl; own = refl; apart_plain = refl; apart_long = refl; joined_plain = λ text. refl; joined_long = λ text. refl }

pub margin_budget : HasOption margin_leaf (codes "budget") most_budget (codes "100000")
margin_budget = record { by_long = refl; by_id = refl; own = refl; apart_plain = refl; apart_long = refl; joined_plain = λ text. refl; joined_long = λ text. refl }
