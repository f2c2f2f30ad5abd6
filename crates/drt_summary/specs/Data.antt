-- The JSON data of a summary.
use Rattle.std.specs.Prelude.{ℕ, List, map, codes}
use Rattle.serde_json.specs.Data.{Data, Items, member, no_members, number, object, array, string, unsigned}
use Rattle.serde_json.specs.View.{items_of}
use Rattle.drt_summary.specs.Line.{edf_word, fixed_word}
use Rattle.drt_summary.specs.declared.summary.Summary.{Summary}

-- Some numbers.
abbrev pub numbers_data : List ℕ → Items
numbers_data ns = items_of (map (λ n. number (unsigned n)) ns)

-- The object of a summary.
abbrev pub summary_data : Summary → Data
summary_data s =
    object (member (codes "edf") (string (edf_word s.edf)) (member (codes "fixed") (string (fixed_word s.fixed))
    (member (codes "kept") (array (numbers_data s.kept)) (member (codes "number") (number (unsigned s.number)) no_members))))
