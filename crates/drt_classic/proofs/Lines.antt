-- A line without a fault says one thing that fits, and a line that says something fitting has no fault.
use Rattle.std.proofs.Common.{◌≡◌, ℕ, ◌+◌, ◌<◌, ◌≤◌, ◌⊎◌, inl, inr, Bool, true, false, not, ◌&&◌, List, []}
use Rattle.std.proofs.Common.{◌∷◌, length, map, Option, Some, None, Result, Ok, Err, refl, sym, ap, ◌∙◌, subst, arith, cond}
use Rattle.std.specs.Prelude.{bytes_eq}
use Rattle.std.specs.List.{AllByRecursion, AllZip, list_all}
use Rattle.std.proofs.lemmas.Bool.{cases_Bool}
use Rattle.std.proofs.lemmas.Slice.Eq.{bytes_eq-Decides}
use Rattle.drt_file.specs.trusted.Cutting.{fields, is_blank}
use Rattle.drt_file.specs.trusted.Words.{is_name, is_number, end_word}
use Rattle.drt_file.specs.trusted.Line.{is_text}
use Rattle.std.specs.Net.Grammar.{IsNumber}
use Rattle.drt_file.proofs.Written.{means_number}
use Rattle.drt_file.proofs.Leads.{text_again}
use Rattle.drt_file.proofs.Meanings.{both, not_false, name_text, number_text}
use Rattle.drt_file.proofs.Names.{name_is}
use Rattle.drt_classic.specs.declared.classic.Classic.{Classic}
use Rattle.drt_classic.specs.declared.classic.Classic.TheVariants.{Sporadic, Multiframe, Cyclic, Free}
use Rattle.drt_classic.specs.declared.fault.ClassicFault.{ClassicFault}
use Rattle.drt_classic.specs.declared.state.State.{State}
use Rattle.drt_classic.specs.declared.state.Line.{Line}
use Rattle.drt_classic.specs.declared.state.Line.TheVariants as saying
use Rattle.drt_classic.specs.declared.state.Kind.{Kind}
use Rattle.drt_classic.specs.declared.state.Kind.TheVariants as kinds
use Rattle.drt_classic.specs.ClassicWords.{sporadic_word, multiframe_word, gmf_word, noncyclic_word, frame_word}
use Rattle.drt_classic.specs.ClassicReading.{SaysClassic, SaysSporadic, SaysMultiframe, SaysFrame}
use Rattle.drt_classic.specs.ClassicFaults.{first_field, classic_kind, classic_kind_fault, fault_of_line, classic_said_by, after_classic_line, unless, classic_line_step}
use Rattle.drt_classic.proofs.Fits.{Fits, SaysOwn, Passed, Again, sporadic_passed, sporadic_again, multiframe_passed, multiframe_again}
use Rattle.drt_classic.proofs.Fits.{gmf_passed, gmf_again, noncyclic_passed, noncyclic_again, frame_passed, frame_again, end_passed, end_again}

-- The keyword of a kind.
abbrev keyword : Kind → List ℕ
keyword kinds.Sporadic = sporadic_word
keyword kinds.Multiframe = multiframe_word
keyword kinds.Gmf = gmf_word
keyword kinds.Noncyclic = noncyclic_word
keyword kinds.Frame = frame_word
keyword kinds.End = end_word
keyword kinds.Other = []

-- The first field is the keyword of its kind, unless it is of none.
abbrev Keeps : List ℕ → Kind → Type 0
Keeps word kinds.Other = Unit {0}
Keeps word k = word ≡ keyword k

equal : (word other : List ℕ) → bytes_eq word other ≡ true → word ≡ other
equal word other e = (bytes_eq-Decides word other).0 e

kind_keeps : (word : List ℕ) → Keeps word (classic_kind word)
unfolding classic_kind
kind_keeps word = elim (cases_Bool (bytes_eq word sporadic_word)) [
  | inl t ↦ rw t (equal word sporadic_word t)
  | inr a ↦ rw a (elim (cases_Bool (bytes_eq word multiframe_word)) [
    | inl t ↦ rw t (equal word multiframe_word t)
    | inr b ↦ rw b (elim (cases_Bool (bytes_eq word gmf_word)) [
      | inl t ↦ rw t (equal word gmf_word t)
      | inr c ↦ rw c (elim (cases_Bool (bytes_eq word noncyclic_word)) [
        | inl t ↦ rw t (equal word noncyclic_word t)
        | inr d ↦ rw d (elim (cases_Bool (bytes_eq word frame_word)) [
          | inl t ↦ rw t (equal word frame_word t)
          | inr e ↦ rw e (elim (cases_Bool (bytes_eq word end_word)) [ inl t ↦ rw t (equal word end_word t) | inr f ↦ rw f tt ])
        ])
      ])
    ])
  ])
]

-- Fields whose first is this word, which isn't empty.
begins : (words : List (List ℕ)) (b : ℕ) (bs : List ℕ) → first_field words ≡ b ∷ bs → (rest : List (List ℕ)) × (words ≡ (b ∷ bs) ∷ rest)
begins [] b bs e = absurd (cc)
begins (word ∷ words) b bs e = (words, ap (λ w. w ∷ words) e)

kind_passed : (k : Kind) (s : State) (words : List (List ℕ)) → Keeps (first_field words) k → classic_kind_fault k s words ≡ None → Passed s words (classic_said_by k words)
unfolding classic_kind_fault
kind_passed kinds.Sporadic s words keeps e = let b = begins words _ _ keeps in sporadic_passed s words b.0 b.1 e
kind_passed kinds.Multiframe s words keeps e = let b = begins words _ _ keeps in multiframe_passed s words b.0 b.1 e
kind_passed kinds.Gmf s words keeps e = let b = begins words _ _ keeps in gmf_passed s words b.0 b.1 e
kind_passed kinds.Noncyclic s words keeps e = let b = begins words _ _ keeps in noncyclic_passed s words b.0 b.1 e
kind_passed kinds.Frame s words keeps e = let b = begins words _ _ keeps in frame_passed s words b.0 b.1 e
kind_passed kinds.End s words keeps e = let b = begins words _ _ keeps in end_passed s words b.0 b.1 e
kind_passed kinds.Other s words keeps e = absurd (cc)

-- A line without a fault stands above `end`, and what it says fits.
pub record Goes (s : State) (words : List (List ℕ)) (l : Line) : Type 0 where
  pub still : s.ended ≡ false
  pub passed : Passed s words l

line_passed : (s : State) (line : List ℕ) (words : List (List ℕ)) → fault_of_line s line words ≡ None → Goes s words (classic_said_by (classic_kind (first_field words)) words)
unfolding fault_of_line
line_passed s line words e = go (list_all is_text line) s.ended refl e
  where
    go : (t ended : Bool) → s.ended ≡ ended → cond (not t) (Some 32) (cond ended (Some 46) (classic_kind_fault (classic_kind (first_field words)) s words)) ≡ None
        → Goes s words (classic_said_by (classic_kind (first_field words)) words)
    go false ended at h = absurd (cc)
    go true true at h = absurd (cc)
    go true false at h = record { still = at; passed = kind_passed (classic_kind (first_field words)) s words (kind_keeps (first_field words)) h }

-- What a line leaves that has no fault: what it says, which fits.
pub record Stepped (n : ℕ) (s : State) (words : List (List ℕ)) (below : Option State) : Type 0 where
  pub said : Line
  pub goes : Goes s words said
  pub is : below ≡ Some (after_classic_line n s said)

pub stepped : (n : ℕ) (s : State) (line : List ℕ) (words : List (List ℕ)) (below : Option State) → classic_line_step n (Some s) line words ≡ Ok below → Stepped n s words below
unfolding classic_line_step unless
stepped n s line words below e = go (fault_of_line s line words) refl e
  where
    l : Line
    l = classic_said_by (classic_kind (first_field words)) words

    go : (o : Option ℕ) → fault_of_line s line words ≡ o
        → ◌≡◌ {A = Result (Option State) ClassicFault} (unless n o (Some (after_classic_line n s (classic_said_by (classic_kind (first_field words)) words)))) (Ok below) → Stepped n s words below
    go None at h = record { said = classic_said_by (classic_kind (first_field words)) words; goes = line_passed s line words at; is = cc }
    go (Some code) at h = absurd (cc)

-- The fields of a line that says something are printable.

all_text : (words : List (List ℕ)) → AllByRecursion (λ w. list_all is_text w ≡ true) words → list_all (list_all is_text) words ≡ true
all_text [] are = refl
all_text (w ∷ words) are = ap (λ t. t && list_all (list_all is_text) words) are.0 ∙ all_text words are.1

means_text : (word : List ℕ) (n : ℕ) → IsNumber 10 word n → list_all is_text word ≡ true
means_text word n m = number_text word (means_number word n m).0

means_texts : (words : List (List ℕ)) (ns : List ℕ) → AllZip (IsNumber 10) words ns → AllByRecursion (λ w. list_all is_text w ≡ true) words
means_texts [] ns m = tt
means_texts (w ∷ words) [] m = absurd m
means_texts (w ∷ words) (n ∷ ns) m = (means_text w n m.0, means_texts words ns m.1)

keyword_text : (k : Kind) → list_all is_text (keyword k) ≡ true
unfolding is_text is_blank
keyword_text kinds.Sporadic = refl
keyword_text kinds.Multiframe = refl
keyword_text kinds.Gmf = refl
keyword_text kinds.Noncyclic = refl
keyword_text kinds.Frame = refl
keyword_text kinds.End = refl
keyword_text kinds.Other = refl

abbrev AreText : List (List ℕ) → Type 0
AreText words = AllByRecursion (λ w. list_all is_text w ≡ true) words

said_text : (s : State) (words : List (List ℕ)) (l : Line) → SaysClassic words l → Fits s l → AreText words
said_text s words (saying.Task (Sporadic name frame)) says fits =
    subst AreText (sym says.spelled) (
      keyword_text kinds.Sporadic,
      (
        name_text name (name_is name fits.name),
        (means_text says.wcet frame.wcet says.times.0, (means_text says.deadline frame.deadline says.times.1, (means_text says.period frame.sep says.times.2, tt))),
      ),
    )
said_text s words (saying.Task (Multiframe name deadline period wcets)) says fits =
    subst AreText (sym says.spelled) (
      keyword_text kinds.Multiframe,
      (
        name_text name (name_is name fits.name),
        (means_text says.first deadline says.deadline_is, (means_text says.second period says.period_is, means_texts says.others wcets says.wcets_are)),
      ),
    )
said_text s words (saying.Task (Cyclic name frames)) says fits = subst AreText (sym says.0) (keyword_text kinds.Gmf, (name_text name (name_is name fits.name), tt))
said_text s words (saying.Task (Free name frames)) says fits = subst AreText (sym says.0) (keyword_text kinds.Noncyclic, (name_text name (name_is name fits.name), tt))
said_text s words (saying.Frame f) says fits =
    subst AreText (sym says.spelled) (
      keyword_text kinds.Frame,
      (means_text says.wcet f.wcet says.times.0, (means_text says.deadline f.deadline says.times.1, (means_text says.sep f.sep says.times.2, tt))),
    )
said_text s words saying.End says fits = subst AreText (sym says) (keyword_text kinds.End, tt)

-- Of this kind it has no code and says that.
record Has (k : Kind) (s : State) (words : List (List ℕ)) (l : Line) : Type 0 where
  of_kind : classic_kind (first_field words) ≡ k
  again : Again (classic_kind_fault k s words) (classic_said_by k words) l

kind_of_keyword : (words rest : List (List ℕ)) (k l : Kind) → words ≡ keyword k ∷ rest → classic_kind (keyword k) ≡ l → classic_kind (first_field words) ≡ l
kind_of_keyword words rest k l spelled e = rw spelled e

sporadic_kind : classic_kind sporadic_word ≡ kinds.Sporadic
unfolding classic_kind
sporadic_kind = refl

multiframe_kind : classic_kind multiframe_word ≡ kinds.Multiframe
unfolding classic_kind
multiframe_kind = refl

gmf_kind : classic_kind gmf_word ≡ kinds.Gmf
unfolding classic_kind
gmf_kind = refl

noncyclic_kind : classic_kind noncyclic_word ≡ kinds.Noncyclic
unfolding classic_kind
noncyclic_kind = refl

frame_kind : classic_kind frame_word ≡ kinds.Frame
unfolding classic_kind
frame_kind = refl

end_kind : classic_kind end_word ≡ kinds.End
unfolding classic_kind
end_kind = refl

said_again : (s : State) (words : List (List ℕ)) (l : Line) → SaysClassic words l → SaysOwn l → Fits s l → (k : Kind) × Has k s words l
unfolding classic_kind_fault
said_again s words (saying.Task (Sporadic name frame)) says own fits =
    (kinds.Sporadic, record { of_kind = kind_of_keyword words _ kinds.Sporadic kinds.Sporadic says.spelled sporadic_kind; again = sporadic_again s words name frame says fits })
said_again s words (saying.Task (Multiframe name deadline period wcets)) says own fits = (
  kinds.Multiframe,
  record {
    of_kind = kind_of_keyword words _ kinds.Multiframe kinds.Multiframe says.spelled multiframe_kind;
    again = multiframe_again s words name deadline period wcets says fits own;
  },
)
said_again s words (saying.Task (Cyclic name frames)) says own fits =
    (kinds.Gmf, record { of_kind = kind_of_keyword words _ kinds.Gmf kinds.Gmf says.0 gmf_kind; again = gmf_again s words name frames says.0 says.1 fits })
said_again s words (saying.Task (Free name frames)) says own fits =
    (kinds.Noncyclic, record { of_kind = kind_of_keyword words _ kinds.Noncyclic kinds.Noncyclic says.0 noncyclic_kind; again = noncyclic_again s words name frames says.0 says.1 fits })
said_again s words (saying.Frame f) says own fits =
    (kinds.Frame, record { of_kind = kind_of_keyword words _ kinds.Frame kinds.Frame says.spelled frame_kind; again = frame_again s words f says fits })
said_again s words saying.End says own fits =
    (kinds.End, record { of_kind = kind_of_keyword words _ kinds.End kinds.End says end_kind; again = end_again words says })

faultless_line : (s : State) (line : List ℕ) (words : List (List ℕ)) → list_all is_text line ≡ true → s.ended ≡ false → classic_kind_fault (classic_kind (first_field words)) s words ≡ None
    → fault_of_line s line words ≡ None
unfolding fault_of_line
faultless_line s line words text still none =
    let code = classic_kind_fault (classic_kind (first_field words)) s words in
    ap (λ t. cond (not t) (Some 32) (cond s.ended (Some 46) code)) text ∙ ap (λ e. cond e (Some 46) code) still ∙ none

leaves : (n : ℕ) (s : State) (o : Option ℕ) (m l : Line) → o ≡ None → m ≡ l → ◌≡◌ {A = Result (Option State) ClassicFault} (unless n o (Some (after_classic_line n s m)))
    (Ok (Some (after_classic_line n s l)))
unfolding unless
leaves n s o m l none is = rw (none, is) refl

pub steps_again : (n : ℕ) (s : State) (line : List ℕ) (words : List (List ℕ)) (l : Line) → fields line ≡ words → s.ended ≡ false → SaysClassic words l → SaysOwn l → Fits s l
    → classic_line_step n (Some s) line words ≡ Ok (Some (after_classic_line n s l))
unfolding classic_line_step
steps_again n s line words l cut still says own fits =
    let text : list_all is_text line ≡ true = text_again line words cut (all_text words (said_text s words l says fits)) in
    let h = said_again s words l says own fits in
    let has = h.1 in
    let none : classic_kind_fault (classic_kind (first_field words)) s words ≡ None = ap (λ k. classic_kind_fault k s words) has.of_kind ∙ has.again.none in
    let is : classic_said_by (classic_kind (first_field words)) words ≡ l = ap (λ k. classic_said_by k words) has.of_kind ∙ has.again.is in
    leaves n s (fault_of_line s line words) (classic_said_by (classic_kind (first_field words)) words) l (faultless_line s line words text still none) is
