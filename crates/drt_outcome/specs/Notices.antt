-- What the program says of an outcome on standard error.
use Rattle.std.specs.Prelude.{ℕ, List, [], ◌++◌, ◌==◌, ◌||◌, if◌then◌else◌, codes, decimal}
use Rattle.drt_outcome.specs.declared.fault.Fault.{Fault}
use Rattle.drt_outcome.specs.declared.fault.Fault.TheVariants.{Nothing, File, Edge, Limit, Probe, Rule, Dossier}

-- The line of a refused input: where its fault is, and its code. A separation below a deadline has code 20.
abbrev pub fault_notice : Fault → List ℕ
fault_notice Nothing = []
fault_notice (File line code) = codes "drt: line " ++ decimal line ++ codes ": fault " ++ decimal code ++ codes "\n"
fault_notice (Edge task edge past) = codes "drt: task " ++ decimal task ++ codes ": edge " ++ decimal edge ++ codes ": fault 20\n"
fault_notice (Limit code) = codes "drt: fault " ++ decimal code ++ codes "\n"
fault_notice (Probe add code) = codes "drt: add " ++ decimal add ++ codes ": fault " ++ decimal code ++ codes "\n"
fault_notice (Rule number) = codes "drt: evidence rejected by rule " ++ decimal number ++ codes "\n"
fault_notice (Dossier line code) = codes "drt: dossier line " ++ decimal line ++ codes ": fault " ++ decimal code ++ codes "\n"

-- The line of an outcome; an answer has none.
abbrev pub notice_of : ℕ → Fault → List ℕ
notice_of status fault =
    if status == 4 || status == 9 || status == 10 then fault_notice fault
    else if status == 5 then codes "drt: words refused\n"
    else if status == 6 then codes "drt: read failed\n"
    else if status == 7 then codes "drt: write failed\n"
    else if status == 8 then codes "drt: out of memory\n"
    else []
