-- The one text of a dossier, by blocks of lines. A line is the list of its fields.
use Rattle.drt_file.specs.trusted.Words.{policy_word}
use Rattle.std.specs.Prelude.{ℕ, List, [], ◌∷◌, ◌++◌, length, map, codes, decimal}
use Rattle.std.specs.List.{flat_map}
use Rattle.std.specs.Fmt.{signed_decimal}
use Rattle.drt_model.specs.declared.jobs.Policy.{Policy}
use Rattle.drt_model.specs.declared.jobs.Policy.TheVariants.{Edf, Fixed}
use Rattle.drt_model.specs.declared.jobs.Release.{Release}
use Rattle.drt_model.specs.declared.jobs.Miss.{Miss}
use Rattle.drt_file.specs.trusted.Canonical.{canonical, written}
use Rattle.drt_claims.specs.Statement.{Statement}
use Rattle.drt_claims.specs.declared.evidence.Evidence.{Evidence}
use Rattle.drt_claims.specs.declared.evidence.Evidence.TheVariants.{EdfYes, EdfNo, UtilisationOne, FixedYes, FixedStates, FixedNo, Undecided}
use Rattle.drt_graph.specs.declared.front.FrontEntry.{FrontEntry}
use Rattle.drt_claims.specs.declared.evidence.Item.{Item}
use Rattle.drt_claims.specs.declared.evidence.Item.TheVariants.{Pass, Split}
use Rattle.drt_claims.specs.declared.evidence.Pair.{Pair}
use Rattle.drt_claims.specs.declared.evidence.ProofClaim.{ProofClaim}
use Rattle.drt_rates.specs.declared.ratio_claim.RatioClaim.{RatioClaim}
use Rattle.drt_claims.specs.declared.evidence.TreeClaim.{TreeClaim}
use Rattle.drt_states.specs.declared.claims.Jump.{Jump}
use Rattle.drt_states.specs.declared.claims.SearchClaim.{SearchClaim}
use Rattle.drt_states.specs.declared.claims.StateClaim.{StateClaim}
use Rattle.drt_states.specs.declared.claims.StateEnd.{StateEnd}
use Rattle.drt_states.specs.declared.claims.StateEnd.TheVariants.{Passes, Splits}
use Rattle.drt_states.specs.declared.claims.StateEntry.{StateEntry}
use Rattle.drt_states.specs.declared.claims.TailClaim.{TailClaim}

-- A line of one keyword: it has no further field.
abbrev pub word_line : List ℕ → List (List ℕ)
word_line word = word ∷ []

-- The line of a count: a keyword and how many follow.
abbrev pub count_line : List ℕ → ℕ → List (List ℕ)
count_line word count = word ∷ decimal count ∷ []

-- The line of a list: a keyword, how many fields follow, and these.
abbrev pub list_line : List ℕ → List (List ℕ) → List (List ℕ)
list_line word fields = word ∷ decimal (length fields) ∷ fields

-- The line of a ratio: its numerator and its denominator.
abbrev pub ratio_line : RatioClaim → List (List ℕ)
ratio_line c = codes "ratio" ∷ decimal c.num ∷ decimal c.den ∷ []

-- The three lines of a claimed ratio: the ratio, its cycle, and the potentials, of which one below 0 begins with `-`.
abbrev pub ratio_lines : RatioClaim → List (List (List ℕ))
ratio_lines c = ratio_line c ∷ list_line (codes "cycle") (map decimal c.cycle) ∷ list_line (codes "potentials") (map signed_decimal c.potentials) ∷ []

-- The ratio block: how many ratios, and the lines of each.
abbrev pub ratio_block : List RatioClaim → List (List (List ℕ))
ratio_block ratios = count_line (codes "ratios") (length ratios) ∷ flat_map ratio_lines ratios

-- The line of a label of a front: its vertex, its offset and its work.
abbrev pub entry_line : FrontEntry → List (List ℕ)
entry_line e = codes "label" ∷ decimal e.vertex ∷ decimal e.offset ∷ decimal e.work ∷ []

-- The lines of a front: how many labels, and the line of each.
abbrev pub front_lines : List FrontEntry → List (List (List ℕ))
front_lines front = count_line (codes "front") (length front) ∷ map entry_line front

-- The front block: how many fronts, and the lines of each.
abbrev pub front_block : List (List FrontEntry) → List (List (List ℕ))
front_block fronts = count_line (codes "fronts") (length fronts) ∷ flat_map front_lines fronts

-- The line of a release: its task, its vertex, its time and its need.
abbrev pub release_line : Release → List (List ℕ)
release_line r = codes "release" ∷ decimal r.task ∷ decimal r.vertex ∷ decimal r.time ∷ decimal r.need ∷ []

-- How many releases there are, and the line of each.
abbrev pub release_lines : List Release → List (List (List ℕ))
release_lines releases = count_line (codes "releases") (length releases) ∷ map release_line releases

-- The line of a miss: its task, its index among the task's releases, and the deadline missed.
abbrev pub miss_line : Miss → List (List ℕ)
miss_line m = codes "miss" ∷ decimal m.task ∷ decimal m.index ∷ decimal m.deadline ∷ []

-- The release block: the releases, and the line of the job of theirs that misses.
abbrev pub release_block : List Release → Miss → List (List (List ℕ))
release_block releases miss = release_lines releases ++ miss_line miss ∷ []

-- The line of a walk of a tree: how many vertices, and these.
abbrev pub walk_line : List ℕ → List (List ℕ)
walk_line walk = list_line (codes "walk") (map decimal walk)

-- The line of a pair of a tree: the numbers of its two parts.
abbrev pub pair_line : Pair → List (List ℕ)
pair_line p = codes "pair" ∷ decimal p.left ∷ decimal p.right ∷ []

-- The lines of a tree: how many walks, the line of each, how many pairs, and the line of each.
abbrev pub tree_lines : TreeClaim → List (List (List ℕ))
tree_lines t =
    count_line (codes "tree") (length t.walks) ∷ (map walk_line t.walks ++ count_line (codes "pairs") (length t.pairs) ∷ map pair_line t.pairs)

-- The tree block: how many trees, and the lines of each.
abbrev pub tree_block : List TreeClaim → List (List (List ℕ))
tree_block trees = count_line (codes "trees") (length trees) ∷ flat_map tree_lines trees

-- The field of an item: `p` and the time at which the vertex has room, or `s` and the place that is split.
abbrev pub item_field : Item → List ℕ
item_field (Pass t) = codes "p" ++ decimal t
item_field (Split p) = codes "s" ++ decimal p

-- The line of a proof: its task, its vertex, how many items, and these.
abbrev pub proof_line : ProofClaim → List (List ℕ)
proof_line p = codes "proof" ∷ decimal p.task ∷ decimal p.vertex ∷ decimal (length p.items) ∷ map item_field p.items

-- The proof block: how many proofs, and the line of each.
abbrev pub proof_block : List ProofClaim → List (List (List ℕ))
proof_block proofs = count_line (codes "proofs") (length proofs) ∷ map proof_line proofs

-- The fields of a jump: its offset and its work.
abbrev pub jump_fields : Jump → List (List ℕ)
jump_fields j = decimal j.offset ∷ decimal j.work ∷ []

-- The line of a vertex of a tail: how many jumps, and the fields of each.
abbrev pub curve_line : List Jump → List (List ℕ)
curve_line jumps = codes "jumps" ∷ decimal (length jumps) ∷ flat_map jump_fields jumps

-- The lines of a tail: how many vertices, and the line of each.
abbrev pub tail_lines : TailClaim → List (List (List ℕ))
tail_lines t = count_line (codes "tail") (length t.curves) ∷ map curve_line t.curves

-- The tail block: how many tails, and the lines of each.
abbrev pub tail_block : List TailClaim → List (List (List ℕ))
tail_block tails = count_line (codes "tails") (length tails) ∷ flat_map tail_lines tails

-- The fields of an entry of a state: its place, its vertex and its offset.
abbrev pub state_entry_fields : StateEntry → List (List ℕ)
state_entry_fields e = decimal e.place ∷ decimal e.vertex ∷ decimal e.offset ∷ []

-- The fields of the end of a state: `p` and the time at which the vertex has room; or `s` and the place that is split, and the
-- numbers of states, as many as there are.
abbrev pub end_fields : StateEnd → List (List ℕ)
end_fields (Passes t) = (codes "p" ++ decimal t) ∷ []
end_fields (Splits place children) = (codes "s" ++ decimal place) ∷ map decimal children

-- The line of a state: how many entries, the fields of each, its work, and its end.
abbrev pub state_line : StateClaim → List (List ℕ)
state_line s = codes "state" ∷ decimal (length s.entries) ∷ (flat_map state_entry_fields s.entries ++ decimal s.work ∷ end_fields s.end)

-- The lines of a search: its task, its vertex, how many states, and the line of each.
abbrev pub search_lines : SearchClaim → List (List (List ℕ))
search_lines s = (codes "search" ∷ decimal s.task ∷ decimal s.vertex ∷ decimal (length s.states) ∷ []) ∷ map state_line s.states

-- The search block: how many searches, and the lines of each.
abbrev pub search_block : List SearchClaim → List (List (List ℕ))
search_block searches = count_line (codes "searches") (length searches) ∷ flat_map search_lines searches

-- The keyword of each kind of evidence.
abbrev pub kind_word : Evidence → List ℕ
kind_word (EdfYes ratios fronts) = codes "edf-yes"
kind_word (EdfNo releases miss) = codes "edf-no"
kind_word (UtilisationOne ratios) = codes "utilisation-one"
kind_word (FixedYes trees proofs) = codes "fixed-yes"
kind_word (FixedStates tails searches) = codes "fixed-states"
kind_word (FixedNo releases miss) = codes "fixed-no"
kind_word Undecided = codes "undecided"

-- The blocks of each kind of evidence.
abbrev pub body_lines : Evidence → List (List (List ℕ))
body_lines (EdfYes ratios fronts) = ratio_block ratios ++ front_block fronts
body_lines (EdfNo releases miss) = release_block releases miss
body_lines (UtilisationOne ratios) = ratio_block ratios
body_lines (FixedYes trees proofs) = tree_block trees ++ proof_block proofs
body_lines (FixedStates tails searches) = tail_block tails ++ search_block searches
body_lines (FixedNo releases miss) = release_block releases miss
body_lines Undecided = []

-- The lines above the set: the first one, and that of the policy.
abbrev pub head_lines : Policy → List (List (List ℕ))
head_lines policy = (codes "drt-dossier" ∷ codes "1" ∷ []) ∷ (codes "policy" ∷ policy_word policy ∷ []) ∷ []

-- The lines below the set: the kind of the evidence, its blocks, and the last one.
abbrev pub evidence_lines : Evidence → List (List (List ℕ))
evidence_lines evidence = (codes "evidence" ∷ kind_word evidence ∷ []) ∷ (body_lines evidence ++ word_line (codes "close") ∷ [])

-- The text of a dossier: the lines above the set, the set's canonical text, and the lines below it.
unfoldable pub text : Statement → List ℕ
text s = written (head_lines s.policy) ++ (canonical s.set ++ written (evidence_lines s.evidence))
