-- The text of `util`, the canonical text of a set of either version, and two dossiers.
use Rattle.std.proofs.Common.{◌≡◌, ℕ, List, [], ◌∷◌, ◌++◌, length, codes, refl}
use Rattle.std.specs.Prelude.{pos}
use Rattle.std.specs.Fmt.{digits}
use Rattle.drt_model.specs.Contents.{Contents}
use Rattle.drt_model.specs.Utilisation.{Fraction}
use Rattle.drt_model.specs.declared.tasks.Task.{Task}
use Rattle.drt_file.specs.trusted.Canonical.{written, written_line, name_at, priority_lines, lines_of_body, task_lines, set_lines, canonical}
use Rattle.drt_command_util.specs.Util.{util_lines}
use Rattle.drt_sp.specs.Evidence.{under_fixed}
use Rattle.drt_claims.specs.Statement.{Statement}
use Rattle.drt_evidence.specs.Text.{text}
use Rattle.drt_claims.specs.declared.evidence.Evidence.TheVariants.{EdfYes, FixedYes}
use Rattle.drt_claims.specs.declared.evidence.Item.TheVariants.{Pass}
use Rattle.drt_claims.specs.declared.evidence.ProofClaim.{ProofClaim}
use Rattle.drt_model.specs.declared.jobs.Policy.TheVariants.{Edf}
use Rattle.drt_rows.proofs.Sets.{looped, short}

abbrev fraction : ℕ → ℕ → Fraction
fraction a b = record { num = a; den = b }

abbrev two : List Task
two = looped (codes "T1") 1 2 4 5 ∷ looped (codes "T2") 2 4 7 7 ∷ []

-- The ratios 2/5 and 4/7, and the utilisation 34/35.
pub util_text : written (util_lines two (fraction 2 5 ∷ fraction 4 7 ∷ []) (fraction 34 35)) ≡ codes "T1 2/5\nT2 4/7\ntotal 34/35\n"
unfolding written_line digits
util_text = refl

abbrev pub one : List Task
one = short ∷ []

-- The same set in version 1 and, with its priority, in version 2.
pub first_text : canonical (record { version = 1; tasks = one }) ≡ codes "drt 1\ntask T\nvertex a 2 5\nedge a a 5\nend\n"
unfolding digits written_line name_at priority_lines lines_of_body task_lines set_lines canonical
first_text = refl

pub second_text : canonical (record { version = 2; tasks = one }) ≡ codes "drt 2\ntask T\npriority 1\nvertex a 2 5\nedge a a 5\nend\n"
unfolding digits written_line name_at priority_lines lines_of_body task_lines set_lines canonical
second_text = refl

-- That set of version 1.
abbrev pub set : Contents
set = record { version = 1; tasks = one }

-- What `sp` writes of it: 12 lines, 125 bytes.
abbrev sp_dossier : List ℕ
sp_dossier =
    codes "drt-dossier 1\npolicy fixed\ndrt 1\ntask T\nvertex a 2 5\nedge a a 5\nend\n" ++ codes "evidence fixed-yes\ntrees 0\nproofs 1\nproof 0 0 1 p2\nclose\n"

abbrev sp_proof : ProofClaim
sp_proof = record { task = 0; vertex = 0; items = Pass 2 ∷ [] }

pub sp_text : text (under_fixed set (FixedYes [] (sp_proof ∷ []))) ≡ sp_dossier
unfolding text digits written_line name_at priority_lines lines_of_body task_lines set_lines canonical
sp_text = refl

pub sp_length : length sp_dossier ≡ 125
sp_length = refl

-- What `edf` writes of it: 150 bytes. The ratio is 2/5, the horizon 0, and the front is empty.
abbrev edf_dossier : List ℕ
edf_dossier =
    codes "drt-dossier 1\npolicy edf\ndrt 1\ntask T\nvertex a 2 5\nedge a a 5\nend\n"
    ++ codes "evidence edf-yes\nratios 1\nratio 2 5\ncycle 1 0\npotentials 1 0\nfronts 1\nfront 0\nclose\n"

abbrev pub edf_statement : Statement
edf_statement = record {
  policy = Edf;
  set = set;
  evidence = EdfYes (record { num = 2; den = 5; cycle = 0 ∷ []; potentials = pos 0 ∷ [] } ∷ []) ([] ∷ []);
}

pub edf_text : text edf_statement ≡ edf_dossier
unfolding text digits written_line name_at priority_lines lines_of_body task_lines set_lines canonical
edf_text = refl

pub edf_length : length edf_dossier ≡ 150
edf_length = refl
