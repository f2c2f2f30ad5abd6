-- The line of a summary, byte for byte.
use Rattle.std.specs.Prelude.{ℕ, List, [], ◌∷◌, ◌++◌, codes, decimal}
use Rattle.std.specs.List.{flat_map}
use Rattle.drt_summary.specs.declared.summary.EdfVerdict.{EdfVerdict}
use Rattle.drt_summary.specs.declared.summary.EdfVerdict.TheVariants as edf
use Rattle.drt_summary.specs.declared.summary.FixedVerdict.{FixedVerdict}
use Rattle.drt_summary.specs.declared.summary.FixedVerdict.TheVariants as fixed
use Rattle.drt_summary.specs.declared.summary.Summary.{Summary}

-- The word of a verdict under EDF.
abbrev pub edf_word : EdfVerdict → List ℕ
edf_word edf.Yes = codes "yes"
edf_word edf.No = codes "no"
edf_word edf.One = codes "one"
edf_word edf.Beyond = codes "beyond"
edf_word edf.Undecided = codes "undecided"

-- The word of a verdict under fixed priorities.
abbrev pub fixed_word : FixedVerdict → List ℕ
fixed_word fixed.Yes = codes "yes"
fixed_word fixed.No = codes "no"
fixed_word fixed.Undecided = codes "undecided"

-- Numbers in decimal digits, with a comma before each but the first.
abbrev pub numbers_text : List ℕ → List ℕ
numbers_text [] = []
numbers_text (n ∷ ns) = decimal n ++ flat_map (λ m. 44 ∷ decimal m) ns

-- The line, which ends with LF.
unfoldable pub summary_line : Summary → List ℕ
summary_line s =
    codes "{\"edf\":\"" ++ edf_word s.edf ++ codes "\",\"fixed\":\"" ++ fixed_word s.fixed ++ codes "\",\"kept\":[" ++ numbers_text s.kept
    ++ codes "],\"number\":" ++ decimal s.number ++ codes "}\n"
