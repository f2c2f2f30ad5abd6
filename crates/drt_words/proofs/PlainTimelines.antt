-- What the command says of plain lists of `timeline`, and of one that names a task alone. Each walk is computed, once it is known that the names are no flags.
use Rattle.std.proofs.Common.{◌≡◌, ◌++◌, Bool, true, false, List, [], ◌∷◌, Option, Some, None, codes, refl}
use Rattle.clap.proofs.OnLiterals.{clap_on_literals}
use Rattle.clap.specs.Walk.{Text}
use Rattle.drt_words.specs.Meaning.{meaning_of}
use Rattle.drt_words.specs.Plain.{BeginsPlain, flag_words, PlainSpot, vertex_absent, vertex_given}
use Rattle.drt_words.proofs.Entering.{meaning_below, timeline_leaf, timeline_means}
use Rattle.drt_words.specs.declared.meaning.Meaning.TheVariants.{Timeline}
use Rattle.drt_words.specs.declared.spot.Spot.{Spot}

flag_first : (spots : List Text) (svg : Bool) (vertex : Option Spot) → PlainSpot spots vertex
    → meaning_below timeline_leaf (flag_words (codes "svg") svg ++ spots) ≡ Some (Timeline svg vertex)
unfolding clap_on_literals
flag_first spots false vertex vertex_absent = refl
flag_first spots true vertex vertex_absent = refl
flag_first spots false vertex (vertex_given task name t n) = rw (t.no_dashes, t.no_long, t.no_short, n.no_dashes, n.no_long, n.no_short) refl
flag_first spots true vertex (vertex_given task name t n) = rw (t.no_dashes, t.no_long, t.no_short, n.no_dashes, n.no_long, n.no_short) refl

vertex_first : (spots : List Text) (svg : Bool) (vertex : Option Spot) → PlainSpot spots vertex
    → meaning_below timeline_leaf (spots ++ flag_words (codes "svg") svg) ≡ Some (Timeline svg vertex)
unfolding clap_on_literals
vertex_first spots false vertex vertex_absent = refl
vertex_first spots true vertex vertex_absent = refl
vertex_first spots false vertex (vertex_given task name t n) = rw (t.no_dashes, t.no_long, t.no_short, n.no_dashes, n.no_long, n.no_short) refl
vertex_first spots true vertex (vertex_given task name t n) = rw (t.no_dashes, t.no_long, t.no_short, n.no_dashes, n.no_long, n.no_short) refl

pub front_means : (program : Text) (spots : List Text) (svg : Bool) (vertex : Option Spot) → PlainSpot spots vertex
    → meaning_of (program ∷ codes "timeline" ∷ (flag_words (codes "svg") svg ++ spots)) ≡ Some (Timeline svg vertex)
front_means program spots svg vertex s = rw (timeline_means program (flag_words (codes "svg") svg ++ spots)) (flag_first spots svg vertex s)

pub back_means : (program : Text) (spots : List Text) (svg : Bool) (vertex : Option Spot) → PlainSpot spots vertex
    → meaning_of (program ∷ codes "timeline" ∷ (spots ++ flag_words (codes "svg") svg)) ≡ Some (Timeline svg vertex)
back_means program spots svg vertex s = rw (timeline_means program (spots ++ flag_words (codes "svg") svg)) (vertex_first spots svg vertex s)

one_name : (task : Text) → BeginsPlain task → meaning_below timeline_leaf (codes "--vertex" ∷ task ∷ []) ≡ None
unfolding clap_on_literals
one_name task t = rw (t.no_dashes, t.no_long, t.no_short) refl

pub one_name_means : (program task : Text) → BeginsPlain task → meaning_of (program ∷ codes "timeline" ∷ codes "--vertex" ∷ task ∷ []) ≡ None
one_name_means program task t = rw (timeline_means program (codes "--vertex" ∷ task ∷ [])) (one_name task t)
