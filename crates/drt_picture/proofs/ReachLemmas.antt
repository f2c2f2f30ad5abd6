-- Where the parts of a picture begin and end.
use Rattle.std.proofs.Common.{◌≡◌, ◌∙◌, ℕ, ◌+◌, ◌-◌, ◌<◌, ◌≤◌, List, [], ◌∷◌, ◌++◌, length, get_or, refl, subst, sym, ap, arith, length-append}
use Rattle.std.proofs.lemmas.List.{get_or_append_left}
use Rattle.std.proofs.Math.Seq.{get_or-append_seam}
use Rattle.drt_picture.specs.declared.scale.Part.{Part}
use Rattle.drt_picture.specs.Reach.{Reach}

-- The first of the parts and of one more that begins at `start`: it begins at `from`.
abbrev pub BeginsAt : ℕ → ℕ → List Part → Type 0
BeginsAt from start [] = start ≡ from
BeginsAt from start (p ∷ ps) = p.start ≡ from

-- One more part, and another one behind it.
pub begins_more : (from start end next : ℕ) (parts : List Part) → BeginsAt from start parts → BeginsAt from next (parts ++ record { start = start; end = end } ∷ [])
begins_more from start end next [] h = h
begins_more from start end next (p ∷ ps) h = h

begins_first : (from start end : ℕ) (parts : List Part) → BeginsAt from start parts → (d : Part) → (get_or (parts ++ record { start = start; end = end } ∷ []) 0 d).start ≡ from
begins_first from start end [] h d = h
begins_first from start end (p ∷ ps) h d = h

-- With a last part that ends at `until` the parts reach from `from` to it.
pub reach_all : (from until start : ℕ) (parts : List Part) → BeginsAt from start parts → Reach from until (parts ++ record { start = start; end = until } ∷ [])
reach_all from until start parts h =
    let closed : Part = record { start = start; end = until } in
    let more = length-append parts (closed ∷ []) in
    let e : length (parts ++ closed ∷ []) - 1 ≡ length parts = omega (arith, more) in
    record {
      some = omega (arith, more);
      first = begins_first from start until parts h;
      last = λ d. rw (e, get_or-append_seam parts closed [] d) refl;
    }
