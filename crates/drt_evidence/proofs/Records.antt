-- The parts of each block.
use Rattle.std.proofs.Common.{◌≡◌, ℕ, List, [], ◌∷◌, ◌++◌, length, map, refl, sym, ap, subst, ◌∙◌, append_assoc, lit≤}
use Rattle.std.specs.Prelude.{ℤ, codes}
use Rattle.std.specs.List.{flat_map}
use Rattle.std.proofs.Math.Path.{fun_ext}
use Rattle.std.proofs.Math.ListN.{replicate}
use Rattle.std.proofs.lemmas.List.{append-nil, length-replicate}
use Rattle.std.proofs.lemmas.List.Elements.{All-from_recursion, All-nil, All-replicate, recursion_from_All}
use Rattle.drt_model.specs.declared.jobs.Policy.TheVariants as policies
use Rattle.drt_model.specs.declared.jobs.Release.{Release}
use Rattle.drt_model.specs.declared.jobs.Miss.{Miss}
use Rattle.drt_file.specs.trusted.Canonical.{written, written_line}
use Rattle.drt_evidence.specs.Blocks.{AreNamed, AreSoMany, NamedMiss, in_turn, ReadsBlock, IsStop, named_block, count_and_blocks, first_block, close_block, IsOfKind}
use Rattle.drt_evidence.specs.LineForms.{AreItemsCounted, IsAny, IsInRangeWritten, IsInRangeWrittenSearch, kind_keyword, kind_line, kind_of, numbers_line, policy_line}
use Rattle.drt_evidence.specs.LineForms.{potentials_line, written_ratio_line, written_search_line}
use Rattle.drt_claims.specs.Ranges.{AreInRangeReleases, IsEvidenceInRange, IsInRangeFront, IsInRangeMiss, IsInRangePair, IsInRangePotential, IsInRangeProof, IsInRangeRatio, IsInRangeRelease, IsInRangeTree, IsInRangeWalk, IsNumber}
use Rattle.drt_claims.specs.Ranges.{IsInRangeCurve, IsInRangeSearch, IsInRangeState, IsInRangeTail}
use Rattle.drt_evidence.specs.Some.{some_state}
use Rattle.drt_evidence.specs.Text.{body_lines, count_line, evidence_lines, kind_word, word_line, entry_line, front_block, front_lines, head_lines, miss_line, pair_line, proof_block, proof_line, ratio_block, ratio_lines, release_block, release_line, tree_block, tree_lines, walk_line}
use Rattle.drt_evidence.specs.Text.{curve_line, search_block, search_lines, state_line, tail_block, tail_lines}
use Rattle.drt_claims.specs.declared.evidence.Evidence.{Evidence}
use Rattle.drt_claims.specs.declared.evidence.Evidence.TheVariants.{EdfYes, EdfNo, UtilisationOne, FixedYes, FixedStates, FixedNo, Undecided}
use Rattle.drt_graph.specs.declared.front.FrontEntry.{FrontEntry}
use Rattle.drt_claims.specs.declared.evidence.ProofClaim.{ProofClaim}
use Rattle.drt_rates.specs.declared.ratio_claim.RatioClaim.{RatioClaim}
use Rattle.drt_claims.specs.declared.evidence.TreeClaim.{TreeClaim}
use Rattle.drt_evidence.specs.declared.reading.line_forms.KindOfEvidence.{KindOfEvidence}
use Rattle.drt_evidence.specs.declared.reading.line_forms.KindOfEvidence.TheVariants as kinds
use Rattle.drt_evidence.specs.declared.reading.line_forms.WrittenSearch.{WrittenSearch}
use Rattle.drt_evidence.specs.declared.reading.text.Stop.{Stop}
use Rattle.drt_states.specs.declared.claims.SearchClaim.{SearchClaim}
use Rattle.drt_states.specs.declared.claims.StateClaim.{StateClaim}
use Rattle.drt_states.specs.declared.claims.TailClaim.{TailClaim}
use Rattle.drt_evidence.proofs.Blocks.{At, start, next, done, stop}
use Rattle.drt_evidence.proofs.Parts.{Two, One, written_map, written_flat, written_both}

-- A list of lines below a count, and a list of blocks.
counted_lines : {X : Type 0} (word : List ℕ) (f : X → List (List ℕ)) → count_and_blocks word (λ x. written_line (f x)) ≡ (λ xs. written (count_line word (length xs) ∷ map f xs))
counted_lines word f = fun_ext (λ xs. ap (λ t. written_line (count_line word (length xs)) ++ t) (sym (written_map f xs)))

counted_blocks : {X : Type 0} (word : List ℕ) (f : X → List (List (List ℕ))) → count_and_blocks word (λ x. written (f x)) ≡ (λ xs. written (count_line word (length xs) ∷ flat_map f xs))
counted_blocks word f = fun_ext (λ xs. ap (λ t. written_line (count_line word (length xs)) ++ t) (sym (written_flat f xs)))

pub front_same : count_and_blocks (codes "front") (λ e. written_line (entry_line e)) ≡ (λ f. written (front_lines f))
front_same = counted_lines (codes "front") entry_line

pub ratios_same : count_and_blocks (codes "ratios") (λ c. written (ratio_lines c)) ≡ (λ rs. written (ratio_block rs))
ratios_same = counted_blocks (codes "ratios") ratio_lines

pub fronts_same : count_and_blocks (codes "fronts") (λ f. written (front_lines f)) ≡ (λ fs. written (front_block fs))
fronts_same = counted_blocks (codes "fronts") front_lines

pub trees_same : count_and_blocks (codes "trees") (λ t. written (tree_lines t)) ≡ (λ ts. written (tree_block ts))
trees_same = counted_blocks (codes "trees") tree_lines

pub proofs_same : count_and_blocks (codes "proofs") (λ p. written_line (proof_line p)) ≡ (λ ps. written (proof_block ps))
proofs_same = counted_lines (codes "proofs") proof_line

pub tails_same : count_and_blocks (codes "tails") (λ t. written (tail_lines t)) ≡ (λ ts. written (tail_block ts))
tails_same = counted_blocks (codes "tails") tail_lines

pub searches_same : count_and_blocks (codes "searches") (λ s. written (search_lines s)) ≡ (λ ss. written (search_block ss))
searches_same = counted_blocks (codes "searches") search_lines

-- A ratio is its numerator and denominator, and behind these its cycle and its potentials.
abbrev pub RatioRest : Type 0
RatioRest = List ℕ × List ℤ

abbrev pub ratio_rest : RatioRest → List ℕ
ratio_rest t = written_line (numbers_line (codes "cycle") t.0) ++ written_line (potentials_line t.1)

abbrev pub IsRatioRest : RatioRest → Type 0
IsRatioRest t = AreItemsCounted IsNumber t.0 × AreItemsCounted IsInRangePotential t.1

abbrev pub ratio_rest_parts : Two ratio_rest IsRatioRest (λ y. written_line (numbers_line (codes "cycle") y)) (AreItemsCounted IsNumber)
    (λ y. written_line (potentials_line y)) (AreItemsCounted IsInRangePotential)
ratio_rest_parts = record {
  first = λ t. t.0;
  second = λ t. t.1;
  make = λ v w. (v, w);
  first_is = λ t is. is.0;
  second_is = λ t is. is.1;
  block_is = λ t is. refl;
  made = λ t is. refl;
  make_is = λ v w f g. (f, g);
  make_first = λ v w f g. refl;
  make_second = λ v w f g. refl;
  other = [];
  other_is = (All-nil IsInRangePotential, lit≤ tt);
}

abbrev pub ratio_parts : Two (λ c. written (ratio_lines c)) IsInRangeRatio (λ y. written_line (written_ratio_line y)) IsInRangeWritten ratio_rest IsRatioRest
ratio_parts = record {
  first = λ c. record { num = c.num; den = c.den };
  second = λ c. (c.cycle, c.potentials);
  make = λ r t. record { num = r.num; den = r.den; cycle = t.0; potentials = t.1 };
  first_is = λ c is. record { num = is.num; some = is.some; den = is.den };
  second_is = λ c is. ((is.cycle, is.cycle_counted), (is.potentials, is.potentials_counted));
  block_is = λ c is.
      ap (λ t. written_line (written_ratio_line (record { num = c.num; den = c.den })) ++ (written_line (numbers_line (codes "cycle") c.cycle) ++ t))
      (append-nil (written_line (potentials_line c.potentials)));
  made = λ c is. refl;
  make_is = λ r t f g. record { num = f.num; some = f.some; den = f.den; cycle = g.0.0; cycle_counted = g.0.1; potentials = g.1.0; potentials_counted = g.1.1 };
  make_first = λ r t f g. refl;
  make_second = λ r t f g. refl;
  other = ([], []);
  other_is = ((All-nil IsNumber, lit≤ tt), (All-nil IsInRangePotential, lit≤ tt));
}

-- A tree is its walks and its pairs.
abbrev pub tree_parts : Two (λ t. written (tree_lines t)) IsInRangeTree (count_and_blocks (codes "tree") (λ w. written_line (walk_line w))) (AreItemsCounted IsInRangeWalk)
    (count_and_blocks (codes "pairs") (λ p. written_line (pair_line p))) (AreItemsCounted IsInRangePair)
tree_parts = record {
  first = λ t. t.walks;
  second = λ t. t.pairs;
  make = λ v w. record { walks = v; pairs = w };
  first_is = λ t is. (is.walks, is.walks_counted);
  second_is = λ t is. (is.pairs, is.pairs_counted);
  block_is = λ t is.
      ap (λ w. written_line (count_line (codes "tree") (length t.walks)) ++ w)
      (written_both (map walk_line t.walks) (count_line (codes "pairs") (length t.pairs) ∷ map pair_line t.pairs)
      ∙ ap (λ w. w ++ written (count_line (codes "pairs") (length t.pairs) ∷ map pair_line t.pairs)) (written_map walk_line t.walks)
      ∙ ap (λ w. flat_map (λ x. written_line (walk_line x)) t.walks ++ (written_line (count_line (codes "pairs") (length t.pairs)) ++ w)) (written_map pair_line t.pairs))
      ∙ sym
      (append_assoc (written_line (count_line (codes "tree") (length t.walks))) (flat_map (λ x. written_line (walk_line x)) t.walks)
      (count_and_blocks (codes "pairs") (λ p. written_line (pair_line p)) t.pairs));
  made = λ t is. refl;
  make_is = λ v w f g. record { walks = f.0; walks_counted = f.1; pairs = g.0; pairs_counted = g.1 };
  make_first = λ v w f g. refl;
  make_second = λ v w f g. refl;
  other = [];
  other_is = (All-nil IsInRangePair, lit≤ tt);
}

-- A tail is the lines of its vertices.
abbrev pub tail_part : One (λ t. written (tail_lines t)) IsInRangeTail (count_and_blocks (codes "tail") (λ c. written_line (curve_line c))) (AreItemsCounted IsInRangeCurve)
tail_part = record {
  part = λ t. t.curves;
  make = λ cs. record { curves = cs };
  part_is = λ t is. is;
  block_is = λ t is. ap (λ w. written_line (count_line (codes "tail") (length t.curves)) ++ w) (written_map curve_line t.curves);
  made = λ t is. refl;
  make_is = λ cs is. is;
  make_part = λ cs is. refl;
}

-- The block of a state.
abbrev pub one_state : StateClaim → List ℕ
one_state s = written_line (state_line s)

-- The block of what the first line of a search says.
abbrev pub opening_block : WrittenSearch → List ℕ
opening_block w = written_line (written_search_line w)

-- What the first line of a search says, and the states below it.
abbrev pub opening_of : SearchClaim → WrittenSearch
opening_of s = record { task = s.task; vertex = s.vertex; count = length s.states }

pub search_parts : (s : SearchClaim) → IsInRangeSearch s → IsInRangeWrittenSearch (opening_of s) × (written (search_lines s) ≡ opening_block (opening_of s) ++ in_turn one_state s.states)
search_parts s is = (
  record { task = is.task; vertex = is.vertex; count = is.counted },
  ap (λ w. opening_block (opening_of s) ++ w) (written_map state_line s.states),
)

-- The first line of a search with another count.
abbrev counted_as : WrittenSearch → ℕ → WrittenSearch
counted_as w n = record { task = w.task; vertex = w.vertex; count = n }

-- A search with that first line, and one state again and again.
some_states : (w : WrittenSearch) → IsInRangeWrittenSearch w → (s : SearchClaim) × IsInRangeSearch s × (opening_of s ≡ w)
some_states w is =
    let states = replicate w.count some_state.0 in
    let size : length states ≡ w.count = length-replicate w.count some_state.0 in (
      record { task = w.task; vertex = w.vertex; states = states },
      record {
        task = is.task;
        vertex = is.vertex;
        states = All-replicate IsInRangeState w.count some_state.0 some_state.1;
        counted = subst IsNumber (sym size) is.count;
      },
      ap (counted_as w) size,
    )

pub search_unopened : {bytes : List ℕ} {e : Stop} → IsStop opening_block IsInRangeWrittenSearch bytes e → IsStop (λ s. written (search_lines s)) IsInRangeSearch bytes e
search_unopened {bytes} i =
    stop opening_of (λ s. in_turn one_state s.states) search_parts some_states (start (λ s. written (search_lines s)) IsInRangeSearch bytes) i

search_at : {bytes mid : List ℕ} {w : WrittenSearch} → ReadsBlock opening_block IsInRangeWrittenSearch bytes w mid
    → At (λ s. written (search_lines s)) IsInRangeSearch (λ s. IsInRangeSearch s × (opening_of s ≡ w)) (λ s. in_turn one_state s.states) bytes mid
search_at {bytes} r = next opening_of (λ s. in_turn one_state s.states) search_parts (start (λ s. written (search_lines s)) IsInRangeSearch bytes) r

-- The states of a search with that first line.
states_of : (w : WrittenSearch) (s : SearchClaim) → IsInRangeSearch s × (opening_of s ≡ w) → AreSoMany w.count IsInRangeState s.states × (in_turn one_state s.states ≡ in_turn one_state s.states ++ [])
states_of w s is = (
  (recursion_from_All IsInRangeState s.states is.0.states, ap (λ (o : WrittenSearch). o.count) is.1),
  sym (append-nil (in_turn one_state s.states)),
)

abbrev pub search_with : WrittenSearch → List StateClaim → SearchClaim
search_with w xs = record { task = w.task; vertex = w.vertex; states = xs }

search_made : (w : WrittenSearch) → IsInRangeWrittenSearch w → (xs : List StateClaim) → AreSoMany w.count IsInRangeState xs
    → IsInRangeSearch (search_with w xs) × (opening_of (search_with w xs) ≡ w)
search_made w is xs are = (
  record { task = is.task; vertex = is.vertex; states = All-from_recursion IsInRangeState xs are.0; counted = subst IsNumber (sym are.1) is.count },
  ap (counted_as w) are.1,
)

pub search_stopped : {bytes mid : List ℕ} {w : WrittenSearch} {e : Stop} → ReadsBlock opening_block IsInRangeWrittenSearch bytes w mid
    → IsStop (in_turn one_state) (AreSoMany w.count IsInRangeState) mid e → IsStop (λ s. written (search_lines s)) IsInRangeSearch bytes e
search_stopped {w = w} r i =
    stop (λ (s : SearchClaim). s.states) (λ s. []) (states_of w) (λ xs are. (search_with w xs, search_made w r.is xs are, refl)) (search_at r) i

pub search_read : {bytes mid rest : List ℕ} {w : WrittenSearch} {xs : List StateClaim} → ReadsBlock opening_block IsInRangeWrittenSearch bytes w mid
    → ReadsBlock (in_turn one_state) (AreSoMany w.count IsInRangeState) mid xs rest → ReadsBlock (λ s. written (search_lines s)) IsInRangeSearch bytes (search_with w xs) rest
search_read {w = w} {xs = xs} r q =
    done (next (λ (s : SearchClaim). s.states) (λ s. []) (states_of w) (search_at r) q)
    (search_with w xs) (search_made w r.is xs q.is, refl) refl
    (λ y is. ap (λ (o : WrittenSearch). search_with o y.states) is.0.1 ∙ ap (λ ss. search_with w ss) is.1)

-- Releases and the miss of one of their jobs.
abbrev pub release_parts : Two named_block AreNamed (count_and_blocks (codes "releases") (λ r. written_line (release_line r))) (AreItemsCounted IsInRangeRelease)
    (λ m. written_line (miss_line m)) IsInRangeMiss
release_parts = record {
  first = λ p. p.0;
  second = λ p. p.1;
  make = λ v w. (v, w);
  first_is = λ p is. (is.each, is.counted);
  second_is = λ p is. is.named;
  block_is = λ p is.
      ap (λ w. written_line (count_line (codes "releases") (length p.0)) ++ w)
      (written_both (map release_line p.0) (miss_line p.1 ∷ [])
      ∙ ap (λ w. w ++ (written_line (miss_line p.1) ++ [])) (written_map release_line p.0)
      ∙ ap (λ w. flat_map (λ x. written_line (release_line x)) p.0 ++ w) (append-nil (written_line (miss_line p.1))))
      ∙ sym (append_assoc (written_line (count_line (codes "releases") (length p.0))) (flat_map (λ x. written_line (release_line x)) p.0) (written_line (miss_line p.1)));
  made = λ p is. refl;
  make_is = λ v w f g. record { each = f.0; counted = f.1; named = g };
  make_first = λ v w f g. refl;
  make_second = λ v w f g. refl;
  other = record { task = 0; index = 0; deadline = 0 };
  other_is = record { task = lit≤ tt; index = lit≤ tt; deadline = lit≤ tt };
}

-- The lines above the set.
abbrev pub head_parts : Two (λ p. written (head_lines p)) IsAny first_block IsAny (λ y. written_line (policy_line y)) IsAny
head_parts = record {
  first = λ p. tt;
  second = λ p. p;
  make = λ v w. w;
  first_is = λ p is. tt;
  second_is = λ p is. tt;
  block_is = λ p is. ap (λ t. first_block tt ++ t) (append-nil (written_line (policy_line p)));
  made = λ p is. refl;
  make_is = λ v w f g. tt;
  make_first = λ v w f g. refl;
  make_second = λ v w f g. refl;
  other = policies.Edf;
  other_is = tt;
}

-- Evidence of one kind is made of its blocks.
pub only_edf_yes : (P : Evidence → Type 0) → ((r : List RatioClaim) (f : List (List FrontEntry)) → P (EdfYes r f)) → (e : Evidence) → kind_of e ≡ kinds.EdfYes → P e
only_edf_yes P p (EdfYes r f) is = p r f
only_edf_yes P p (EdfNo r m) is = absurd (cc)
only_edf_yes P p (UtilisationOne r) is = absurd (cc)
only_edf_yes P p (FixedYes t q) is = absurd (cc)
only_edf_yes P p (FixedStates t q) is = absurd (cc)
only_edf_yes P p (FixedNo r m) is = absurd (cc)
only_edf_yes P p Undecided is = absurd (cc)

pub only_edf_no : (P : Evidence → Type 0) → ((r : List Release) (m : Miss) → P (EdfNo r m)) → (e : Evidence) → kind_of e ≡ kinds.EdfNo → P e
only_edf_no P p (EdfYes r f) is = absurd (cc)
only_edf_no P p (EdfNo r m) is = p r m
only_edf_no P p (UtilisationOne r) is = absurd (cc)
only_edf_no P p (FixedYes t q) is = absurd (cc)
only_edf_no P p (FixedStates t q) is = absurd (cc)
only_edf_no P p (FixedNo r m) is = absurd (cc)
only_edf_no P p Undecided is = absurd (cc)

pub only_one : (P : Evidence → Type 0) → ((r : List RatioClaim) → P (UtilisationOne r)) → (e : Evidence) → kind_of e ≡ kinds.UtilisationOne → P e
only_one P p (EdfYes r f) is = absurd (cc)
only_one P p (EdfNo r m) is = absurd (cc)
only_one P p (UtilisationOne r) is = p r
only_one P p (FixedYes t q) is = absurd (cc)
only_one P p (FixedStates t q) is = absurd (cc)
only_one P p (FixedNo r m) is = absurd (cc)
only_one P p Undecided is = absurd (cc)

pub only_fixed_yes : (P : Evidence → Type 0) → ((t : List TreeClaim) (q : List ProofClaim) → P (FixedYes t q)) → (e : Evidence) → kind_of e ≡ kinds.FixedYes → P e
only_fixed_yes P p (EdfYes r f) is = absurd (cc)
only_fixed_yes P p (EdfNo r m) is = absurd (cc)
only_fixed_yes P p (UtilisationOne r) is = absurd (cc)
only_fixed_yes P p (FixedYes t q) is = p t q
only_fixed_yes P p (FixedStates t q) is = absurd (cc)
only_fixed_yes P p (FixedNo r m) is = absurd (cc)
only_fixed_yes P p Undecided is = absurd (cc)

pub only_fixed_states : (P : Evidence → Type 0) → ((t : List TailClaim) (q : List SearchClaim) → P (FixedStates t q)) → (e : Evidence) → kind_of e ≡ kinds.FixedStates → P e
only_fixed_states P p (EdfYes r f) is = absurd (cc)
only_fixed_states P p (EdfNo r m) is = absurd (cc)
only_fixed_states P p (UtilisationOne r) is = absurd (cc)
only_fixed_states P p (FixedYes t q) is = absurd (cc)
only_fixed_states P p (FixedStates t q) is = p t q
only_fixed_states P p (FixedNo r m) is = absurd (cc)
only_fixed_states P p Undecided is = absurd (cc)

pub only_fixed_no : (P : Evidence → Type 0) → ((r : List Release) (m : Miss) → P (FixedNo r m)) → (e : Evidence) → kind_of e ≡ kinds.FixedNo → P e
only_fixed_no P p (EdfYes r f) is = absurd (cc)
only_fixed_no P p (EdfNo r m) is = absurd (cc)
only_fixed_no P p (UtilisationOne r) is = absurd (cc)
only_fixed_no P p (FixedYes t q) is = absurd (cc)
only_fixed_no P p (FixedStates t q) is = absurd (cc)
only_fixed_no P p (FixedNo r m) is = p r m
only_fixed_no P p Undecided is = absurd (cc)

pub only_undecided : (P : Evidence → Type 0) → P Undecided → (e : Evidence) → kind_of e ≡ kinds.Undecided → P e
only_undecided P p (EdfYes r f) is = absurd (cc)
only_undecided P p (EdfNo r m) is = absurd (cc)
only_undecided P p (UtilisationOne r) is = absurd (cc)
only_undecided P p (FixedYes t q) is = absurd (cc)
only_undecided P p (FixedStates t q) is = absurd (cc)
only_undecided P p (FixedNo r m) is = absurd (cc)
only_undecided P p Undecided is = p

abbrev pub ratios_of : Evidence → List RatioClaim
ratios_of (EdfYes r f) = r
ratios_of (EdfNo r m) = []
ratios_of (UtilisationOne r) = r
ratios_of (FixedYes t q) = []
ratios_of (FixedStates t q) = []
ratios_of (FixedNo r m) = []
ratios_of Undecided = []

abbrev pub fronts_of : Evidence → List (List FrontEntry)
fronts_of (EdfYes r f) = f
fronts_of (EdfNo r m) = []
fronts_of (UtilisationOne r) = []
fronts_of (FixedYes t q) = []
fronts_of (FixedStates t q) = []
fronts_of (FixedNo r m) = []
fronts_of Undecided = []

abbrev pub trees_of : Evidence → List TreeClaim
trees_of (EdfYes r f) = []
trees_of (EdfNo r m) = []
trees_of (UtilisationOne r) = []
trees_of (FixedYes t q) = t
trees_of (FixedStates t q) = []
trees_of (FixedNo r m) = []
trees_of Undecided = []

abbrev pub proofs_of : Evidence → List ProofClaim
proofs_of (EdfYes r f) = []
proofs_of (EdfNo r m) = []
proofs_of (UtilisationOne r) = []
proofs_of (FixedYes t q) = q
proofs_of (FixedStates t q) = []
proofs_of (FixedNo r m) = []
proofs_of Undecided = []

abbrev pub tails_of : Evidence → List TailClaim
tails_of (EdfYes r f) = []
tails_of (EdfNo r m) = []
tails_of (UtilisationOne r) = []
tails_of (FixedYes t q) = []
tails_of (FixedStates t q) = t
tails_of (FixedNo r m) = []
tails_of Undecided = []

abbrev pub searches_of : Evidence → List SearchClaim
searches_of (EdfYes r f) = []
searches_of (EdfNo r m) = []
searches_of (UtilisationOne r) = []
searches_of (FixedYes t q) = []
searches_of (FixedStates t q) = q
searches_of (FixedNo r m) = []
searches_of Undecided = []

abbrev no_job : NamedMiss
no_job = ([], record { task = 0; index = 0; deadline = 0 })

abbrev pub named_of : Evidence → NamedMiss
named_of (EdfYes r f) = no_job
named_of (EdfNo r m) = (r, m)
named_of (UtilisationOne r) = no_job
named_of (FixedYes t q) = no_job
named_of (FixedStates t q) = no_job
named_of (FixedNo r m) = (r, m)
named_of Undecided = no_job

abbrev pub edf_yes_parts : Two (λ e. written (body_lines e)) (IsOfKind kinds.EdfYes) (λ rs. written (ratio_block rs)) (AreItemsCounted IsInRangeRatio)
    (λ fs. written (front_block fs)) (AreItemsCounted IsInRangeFront)
edf_yes_parts = record {
  first = ratios_of;
  second = fronts_of;
  make = λ r f. EdfYes r f;
  first_is = λ e is. only_edf_yes (λ x. IsEvidenceInRange x → AreItemsCounted IsInRangeRatio (ratios_of x)) (λ r f i. i.0) e is.1 is.0;
  second_is = λ e is. only_edf_yes (λ x. IsEvidenceInRange x → AreItemsCounted IsInRangeFront (fronts_of x)) (λ r f i. i.1) e is.1 is.0;
  block_is = λ e is. only_edf_yes (λ x. written (body_lines x) ≡ written (ratio_block (ratios_of x)) ++ written (front_block (fronts_of x)))
      (λ r f. written_both (ratio_block r) (front_block f)) e is.1;
  made = λ e is. only_edf_yes (λ x. x ≡ EdfYes (ratios_of x) (fronts_of x)) (λ r f. refl) e is.1;
  make_is = λ r f i j. ((i, j), refl);
  make_first = λ r f i j. refl;
  make_second = λ r f i j. refl;
  other = [];
  other_is = (All-nil IsInRangeFront, lit≤ tt);
}

abbrev pub fixed_yes_parts : Two (λ e. written (body_lines e)) (IsOfKind kinds.FixedYes) (λ ts. written (tree_block ts)) (AreItemsCounted IsInRangeTree)
    (λ ps. written (proof_block ps)) (AreItemsCounted IsInRangeProof)
fixed_yes_parts = record {
  first = trees_of;
  second = proofs_of;
  make = λ t q. FixedYes t q;
  first_is = λ e is. only_fixed_yes (λ x. IsEvidenceInRange x → AreItemsCounted IsInRangeTree (trees_of x)) (λ t q i. i.0) e is.1 is.0;
  second_is = λ e is. only_fixed_yes (λ x. IsEvidenceInRange x → AreItemsCounted IsInRangeProof (proofs_of x)) (λ t q i. i.1) e is.1 is.0;
  block_is = λ e is. only_fixed_yes (λ x. written (body_lines x) ≡ written (tree_block (trees_of x)) ++ written (proof_block (proofs_of x)))
      (λ t q. written_both (tree_block t) (proof_block q)) e is.1;
  made = λ e is. only_fixed_yes (λ x. x ≡ FixedYes (trees_of x) (proofs_of x)) (λ t q. refl) e is.1;
  make_is = λ t q i j. ((i, j), refl);
  make_first = λ t q i j. refl;
  make_second = λ t q i j. refl;
  other = [];
  other_is = (All-nil IsInRangeProof, lit≤ tt);
}

abbrev pub fixed_states_parts : Two (λ e. written (body_lines e)) (IsOfKind kinds.FixedStates) (λ ts. written (tail_block ts)) (AreItemsCounted IsInRangeTail)
    (λ ss. written (search_block ss)) (AreItemsCounted IsInRangeSearch)
fixed_states_parts = record {
  first = tails_of;
  second = searches_of;
  make = λ t q. FixedStates t q;
  first_is = λ e is. only_fixed_states (λ x. IsEvidenceInRange x → AreItemsCounted IsInRangeTail (tails_of x)) (λ t q i. i.0) e is.1 is.0;
  second_is = λ e is. only_fixed_states (λ x. IsEvidenceInRange x → AreItemsCounted IsInRangeSearch (searches_of x)) (λ t q i. i.1) e is.1 is.0;
  block_is = λ e is.
      only_fixed_states (λ x. written (body_lines x) ≡ written (tail_block (tails_of x)) ++ written (search_block (searches_of x)))
      (λ t q. written_both (tail_block t) (search_block q)) e is.1;
  made = λ e is. only_fixed_states (λ x. x ≡ FixedStates (tails_of x) (searches_of x)) (λ t q. refl) e is.1;
  make_is = λ t q i j. ((i, j), refl);
  make_first = λ t q i j. refl;
  make_second = λ t q i j. refl;
  other = [];
  other_is = (All-nil IsInRangeSearch, lit≤ tt);
}

abbrev pub edf_no_part : One (λ e. written (body_lines e)) (IsOfKind kinds.EdfNo) named_block AreNamed
edf_no_part = record {
  part = named_of;
  make = λ p. EdfNo p.0 p.1;
  part_is = λ e is. only_edf_no (λ x. IsEvidenceInRange x → AreInRangeReleases (named_of x).0 (named_of x).1) (λ r m i. i) e is.1 is.0;
  block_is = λ e is. only_edf_no (λ x. written (body_lines x) ≡ written (release_block (named_of x).0 (named_of x).1)) (λ r m. refl) e is.1;
  made = λ e is. only_edf_no (λ x. x ≡ EdfNo (named_of x).0 (named_of x).1) (λ r m. refl) e is.1;
  make_is = λ p i. (i, refl);
  make_part = λ p i. refl;
}

abbrev pub fixed_no_part : One (λ e. written (body_lines e)) (IsOfKind kinds.FixedNo) named_block AreNamed
fixed_no_part = record {
  part = named_of;
  make = λ p. FixedNo p.0 p.1;
  part_is = λ e is. only_fixed_no (λ x. IsEvidenceInRange x → AreInRangeReleases (named_of x).0 (named_of x).1) (λ r m i. i) e is.1 is.0;
  block_is = λ e is. only_fixed_no (λ x. written (body_lines x) ≡ written (release_block (named_of x).0 (named_of x).1)) (λ r m. refl) e is.1;
  made = λ e is. only_fixed_no (λ x. x ≡ FixedNo (named_of x).0 (named_of x).1) (λ r m. refl) e is.1;
  make_is = λ p i. (i, refl);
  make_part = λ p i. refl;
}

abbrev pub one_part : One (λ e. written (body_lines e)) (IsOfKind kinds.UtilisationOne) (λ rs. written (ratio_block rs)) (AreItemsCounted IsInRangeRatio)
one_part = record {
  part = ratios_of;
  make = λ r. UtilisationOne r;
  part_is = λ e is. only_one (λ x. IsEvidenceInRange x → AreItemsCounted IsInRangeRatio (ratios_of x)) (λ r i. i) e is.1 is.0;
  block_is = λ e is. only_one (λ x. written (body_lines x) ≡ written (ratio_block (ratios_of x))) (λ r. refl) e is.1;
  made = λ e is. only_one (λ x. x ≡ UtilisationOne (ratios_of x)) (λ r. refl) e is.1;
  make_is = λ r i. (i, refl);
  make_part = λ r i. refl;
}

pub undecided_read : (bytes : List ℕ) → ReadsBlock (λ e. written (body_lines e)) (IsOfKind kinds.Undecided) bytes Undecided bytes
undecided_read bytes =
    done (start (λ e. written (body_lines e)) (IsOfKind kinds.Undecided) bytes) Undecided (tt, refl)
    refl (λ y is. only_undecided (λ x. x ≡ Undecided) refl y is.1)

-- The lines below the set: the kind, the blocks of that kind, and the last line.
keyword_is : (e : Evidence) → kind_word e ≡ kind_keyword (kind_of e)
keyword_is (EdfYes r f) = refl
keyword_is (EdfNo r m) = refl
keyword_is (UtilisationOne r) = refl
keyword_is (FixedYes t q) = refl
keyword_is (FixedStates t q) = refl
keyword_is (FixedNo r m) = refl
keyword_is Undecided = refl

abbrev pub below_kind : Evidence → List ℕ
below_kind e = written (body_lines e) ++ close_block tt

pub kind_parts : (e : Evidence) → IsEvidenceInRange e → IsAny (kind_of e) × (written (evidence_lines e) ≡ written_line (kind_line (kind_of e)) ++ below_kind e)
kind_parts e is = (
  tt,
  ap (λ w. written_line (codes "evidence" ∷ w ∷ []) ++ written (body_lines e ++ word_line (codes "close") ∷ [])) (keyword_is e)
      ∙ ap (λ t. written_line (kind_line (kind_of e)) ++ t) (written_both (body_lines e) (word_line (codes "close") ∷ []) ∙ ap (λ t. written (body_lines e) ++ t) (append-nil (close_block tt))),
)

some_of : (k : KindOfEvidence) → IsAny k → (e : Evidence) × IsEvidenceInRange e × (kind_of e ≡ k)
some_of kinds.EdfYes is = (EdfYes [] [], ((All-nil IsInRangeRatio, lit≤ tt), (All-nil IsInRangeFront, lit≤ tt)), refl)
some_of kinds.EdfNo is = (
  EdfNo [] (record { task = 0; index = 0; deadline = 0 }),
  record
      { each = All-nil IsInRangeRelease; counted = lit≤ tt; named = record { task = lit≤ tt; index = lit≤ tt; deadline = lit≤ tt } },
  refl,
)
some_of kinds.UtilisationOne is = (UtilisationOne [], (All-nil IsInRangeRatio, lit≤ tt), refl)
some_of kinds.FixedYes is = (FixedYes [] [], ((All-nil IsInRangeTree, lit≤ tt), (All-nil IsInRangeProof, lit≤ tt)), refl)
some_of kinds.FixedStates is = (FixedStates [] [], ((All-nil IsInRangeTail, lit≤ tt), (All-nil IsInRangeSearch, lit≤ tt)), refl)
some_of kinds.FixedNo
    is = (
      FixedNo [] (record { task = 0; index = 0; deadline = 0 }),
      record
          { each = All-nil IsInRangeRelease; counted = lit≤ tt; named = record { task = lit≤ tt; index = lit≤ tt; deadline = lit≤ tt } },
      refl,
    )
some_of kinds.Undecided is = (Undecided, tt, refl)

pub kind_stop : {bytes : List ℕ} {e : Stop} → IsStop (λ y. written_line (kind_line y)) IsAny bytes e → IsStop (λ x. written (evidence_lines x)) IsEvidenceInRange bytes e
kind_stop {bytes} i = stop kind_of below_kind kind_parts some_of (start (λ x. written (evidence_lines x)) IsEvidenceInRange bytes) i

kind_at : {bytes mid : List ℕ} {k : KindOfEvidence} → ReadsBlock (λ y. written_line (kind_line y)) IsAny bytes k mid
    → At (λ x. written (evidence_lines x)) IsEvidenceInRange (λ x. IsEvidenceInRange x × (kind_of x ≡ k)) below_kind bytes mid
kind_at {bytes} r = next kind_of below_kind kind_parts (start (λ x. written (evidence_lines x)) IsEvidenceInRange bytes) r

pub body_stop : {bytes mid : List ℕ} {k : KindOfEvidence} {e : Stop} → ReadsBlock (λ y. written_line (kind_line y)) IsAny bytes k mid → IsStop (λ x. written (body_lines x)) (IsOfKind k) mid e
    → IsStop (λ x. written (evidence_lines x)) IsEvidenceInRange bytes e
body_stop r i = stop (λ (x : Evidence). x) (λ x. close_block tt) (λ x is. (is, refl)) (λ v is. (v, is, refl)) (kind_at r) i

body_at : {bytes mid rest : List ℕ} {k : KindOfEvidence} {v : Evidence} → ReadsBlock (λ y. written_line (kind_line y)) IsAny bytes k mid
    → ReadsBlock (λ x. written (body_lines x)) (IsOfKind k) mid v rest
    → At (λ x. written (evidence_lines x)) IsEvidenceInRange (λ x. (IsEvidenceInRange x × (kind_of x ≡ k)) × (x ≡ v)) (λ x. close_block tt) bytes rest
body_at r q = next (λ (x : Evidence). x) (λ x. close_block tt) (λ x is. (is, refl)) (kind_at r) q

pub last_stop : {bytes mid rest : List ℕ} {k : KindOfEvidence} {v : Evidence} {e : Stop} → ReadsBlock (λ y. written_line (kind_line y)) IsAny bytes k mid
    → ReadsBlock (λ x. written (body_lines x)) (IsOfKind k) mid v rest
    → IsStop close_block IsAny rest e → IsStop (λ x. written (evidence_lines x)) IsEvidenceInRange bytes e
last_stop {v = v} r q i = stop (λ (x : Evidence). tt) (λ x. []) (λ x is. (tt, sym (append-nil (close_block tt)))) (λ u is. (v, (q.is, refl), refl)) (body_at r q) i

pub evidence_read : {bytes mid rest end : List ℕ} {k : KindOfEvidence} {v : Evidence} {u : Unit {0}} → ReadsBlock (λ y. written_line (kind_line y)) IsAny bytes k mid
    → ReadsBlock (λ x. written (body_lines x)) (IsOfKind k) mid v rest
    → ReadsBlock close_block IsAny rest u end → ReadsBlock (λ x. written (evidence_lines x)) IsEvidenceInRange bytes v end
evidence_read {v = v} r q l =
    done (next (λ (x : Evidence). tt) (λ x. []) (λ x is. (tt, sym (append-nil (close_block tt)))) (body_at r q) l) v ((q.is, refl), refl) refl (λ y is. is.0.1)

-- The kind that was read.
pub kind_read : {bytes rest : List ℕ} {v : Evidence} {k l : KindOfEvidence} → l ≡ k → ReadsBlock (λ x. written (body_lines x)) (IsOfKind k) bytes v rest
    → ReadsBlock (λ x. written (body_lines x)) (IsOfKind l) bytes v rest
kind_read {bytes} {rest} {v} same r = subst (λ j. ReadsBlock (λ x. written (body_lines x)) (IsOfKind j) bytes v rest) (sym same) r

pub kind_stopped : {bytes : List ℕ} {e : Stop} {k l : KindOfEvidence} → l ≡ k → IsStop (λ x. written (body_lines x)) (IsOfKind k) bytes e → IsStop (λ x. written (body_lines x)) (IsOfKind l) bytes e
kind_stopped {bytes} {e} same i = subst (λ j. IsStop (λ x. written (body_lines x)) (IsOfKind j) bytes e) (sym same) i
