-- Worked rows of classic files (docs/FORMATS.md), computed: a text for each code, with its line and its code, and the digraphs of each model.
use Rattle.std.proofs.Common.{◌≡◌, ℕ, List, [], ◌∷◌, ◌++◌, map, Option, Some, None, refl, ap, arith}
use Rattle.std.specs.Prelude.{codes, decimal}
use Rattle.std.specs.List.{flat_map}
use Rattle.std.proofs.lemmas.Fmt.{decimal_digit}
use Rattle.drt_model.specs.declared.tasks.Edge.{Edge}
use Rattle.drt_model.specs.declared.tasks.Vertex.{Vertex}
use Rattle.drt_file.specs.trusted.Cutting.{with_run, lines_after, is_blank, fields_after}
use Rattle.drt_file.specs.trusted.Line.{is_skipped, is_text}
use Rattle.drt_file.specs.trusted.Words.{is_digit, is_name_byte, is_name, is_number, value_after}
use Rattle.drt_classic.specs.declared.classic.Frame.{Frame}
use Rattle.drt_classic.specs.declared.classic.Classic.{Classic}
use Rattle.drt_classic.specs.declared.classic.Classic.TheVariants.{Sporadic, Multiframe, Cyclic, Free}
use Rattle.drt_classic.specs.ClassicFaults.{classic_kind, is_named, in_last, has_classic_task, classic_task_count, is_open, is_full, first_that_holds, sporadic_fault, multiframe_fault, open_fault, frame_fault, classic_end_fault, classic_kind_fault}
use Rattle.drt_classic.specs.ClassicFaults.{fault_of_line, classic_said_by, with_last_classic, with_frame, add_frame, after_classic_line, unless}
use Rattle.drt_classic.specs.ClassicFaults.{is_head, classic_line_step, classic_step, classic_steps, has_no_frame, first_without_frame, classic_closing, classic_finish}
use Rattle.drt_classic.specs.ClassicFaults.{read_classic_text, classic_fault_of}
use Rattle.drt_classic.specs.Digraphs.{vertices_from, frame_edges, digraph_of_classic}

-- A text, and its fault.
abbrev Row : Type 0
Row = List ℕ × Option (ℕ × ℕ)

-- Below `drt-classic 1` this text has that code at this line.
abbrev row : List ℕ → ℕ → ℕ → Row
row text line code = (codes "drt-classic 1\n" ++ text, Some (line, code))

-- The texts have those faults.
abbrev AreRight : List Row → Type 0
AreRight rows = map (λ r. classic_fault_of r.0) rows ≡ map (λ r. r.1) rows

-- One text for each code.
abbrev by_code : List Row
by_code =
    (codes "drt 1\n", Some (1, 31))
    ∷ row (codes "gmf \u{7f}\n") 2 32
    ∷ row (codes "task T\n") 2 33
    ∷ row (codes "sporadic s 2 5\n") 2 34
    ∷ row (codes "sporadic s 2 5.0 7\n") 2 35
    ∷ row (codes "multiframe m 5 10 1 0\n") 2 36
    ∷ row (codes "gmf a.b\n") 2 37
    ∷ row (codes "sporadic s 2 5 7\nnoncyclic s\n") 3 38
    ∷ row (codes "sporadic s 2 8 7\n") 2 39
    ∷ row (codes "sporadic s 2 5 7\nframe 1 4 4\n") 3 40
    ∷ row (codes "end\n") 3 43
    ∷ row (codes "gmf g\nnoncyclic n\nframe 1 4 4\nend\n") 2 44
    ∷ row (codes "sporadic s 2 5 7\n") 3 45
    ∷ row (codes "sporadic s 2 5 7\nend\n\nend\n") 5 46
    ∷ (codes "", Some (1, 31))
    ∷ (codes "drt-classic 1\nsporadic s 2 5 7\ngmf g\nframe 1 4 4\nframe 3 6 9\nend\n", None)
    ∷ []

-- The limits: the seventeenth task, and the first frame past the most of each model.
abbrev letters : List ℕ
letters = codes "ABCDEFGHIJKLMNOPQRSTUVWXYZabcdefghijklmnopqrstuvwxyz"

abbrev frames : List ℕ
frames = flat_map (λ b. codes "frame 1 1 1\n") letters

abbrev by_limit : List Row
by_limit =
    row (flat_map (λ b. codes "gmf " ++ b ∷ codes "\nframe 1 1 1\n") letters) 34 41
    ∷ row (codes "multiframe m 1 1" ++ flat_map (λ b. codes " 1") letters) 2 42
    ∷ row (codes "gmf g\n" ++ frames) 51 42
    ∷ row (codes "noncyclic n\n" ++ frames) 19 42
    ∷ []

-- The least code that fits a line counts, and after `end` only 32 and 46 are tried.
abbrev by_order : List Row
by_order =
    row (codes "sporadic s. 0 x 5\n") 2 35
    ∷ row (codes "multiframe s. 9 5 0\n") 2 36
    ∷ row (codes "sporadic s. 1 9 5\n") 2 37
    ∷ row (codes "gmf s\nsporadic s 1 9 5\n") 3 38
    ∷ row (codes "frame 1 9 5\n") 2 39
    ∷ row (codes "sporadic s 2 5 7\nend\nplan \u{7f}\n") 4 32
    ∷ row (codes "sporadic s 2 5 7\nend\nplan x\n") 4 46
    ∷ row (codes "gmf g\n") 2 44
    ∷ (codes "drt-classic 1", Some (2, 43))
    ∷ []

-- All of them are right.
pub codes_are_right : AreRight by_code × AreRight by_limit × AreRight by_order
unfolding with_run lines_after is_blank fields_after is_skipped is_text is_digit is_name_byte is_name is_number value_after
    classic_kind is_named in_last has_classic_task classic_task_count is_open is_full first_that_holds sporadic_fault multiframe_fault open_fault frame_fault classic_end_fault classic_kind_fault
    fault_of_line classic_said_by with_last_classic with_frame add_frame after_classic_line unless is_head classic_line_step classic_step classic_steps has_no_frame
    first_without_frame classic_closing classic_finish read_classic_text classic_fault_of
codes_are_right = (refl, refl, refl)

-- The frames of an example.
abbrev two_frames : List Frame
two_frames = record { wcet = 1; deadline = 4; sep = 4 } ∷ record { wcet = 3; deadline = 6; sep = 9 } ∷ []

-- An edge by its ends and its separation.
abbrev edge : ℕ → ℕ → ℕ → Edge
edge from to sep = record { from = from; to = to; sep = sep }

name : List ℕ
name = codes "t"

sporadic_edges : (digraph_of_classic 1 (Sporadic name (record { wcet = 2; deadline = 5; sep = 7 }))).edges ≡ edge 0 0 7 ∷ []
unfolding frame_edges
sporadic_edges = refl

sporadic_vertices : (digraph_of_classic 1 (Sporadic name (record { wcet = 2; deadline = 5; sep = 7 }))).vertices ≡ record { name = codes "f0"; wcet = 2; deadline = 5 } ∷ []
unfolding vertices_from
sporadic_vertices =
    let zero_digit : decimal 0 ≡ 48 ∷ [] = decimal_digit 0 (omega arith) in
    ap (λ digits. record { name = 102 ∷ digits; wcet = 2; deadline = 5 } ∷ []) zero_digit

cyclic_edges : (digraph_of_classic 1 (Cyclic name two_frames)).edges ≡ edge 0 1 4 ∷ edge 1 0 9 ∷ []
unfolding frame_edges
cyclic_edges = refl

free_edges : (digraph_of_classic 1 (Free name two_frames)).edges ≡ edge 0 0 4 ∷ edge 0 1 4 ∷ edge 1 0 9 ∷ edge 1 1 9 ∷ []
unfolding frame_edges
free_edges = refl

multiframe_edges : (digraph_of_classic 1 (Multiframe name 5 10 (1 ∷ 2 ∷ 3 ∷ []))).edges ≡ edge 0 1 10 ∷ edge 1 2 10 ∷ edge 2 0 10 ∷ []
unfolding frame_edges
multiframe_edges = refl
