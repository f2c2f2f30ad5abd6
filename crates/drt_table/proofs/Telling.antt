-- The look at a vertex's nodes by their samples, for the least one that dominates a label.
use Rattle.std.proofs.Common.{◌≡◌, ℕ, suc, zero, ◌+◌, ◌<◌, ◌≤◌, ◌⊎◌, Bool, true, false, Option, Some, None, List, ◌∷◌, ◌++◌, length, refl, sym, ap, ◌∙◌, subst, inl, inr, arith}
use Rattle.std.specs.Prelude.{slice_get, slice_index, option_map, IsTrue}
use Rattle.std.proofs.lemmas.Option.{none-some, same_Some, slice_get-map, slice_get_within}
use Rattle.drt_columns.specs.Entries.{KeptLabel, IsRuledOut, AreRuledOut}
use Rattle.drt_columns.specs.Seeking.{IsFoundLabel, IsFoundLabelAt, IsSeek, remaining}
use Rattle.drt_columns.specs.Shelf.{Shelf}
use Rattle.drt_columns.specs.declared.seek.Seek.{Seek}
use Rattle.drt_label.specs.Algebra.{Algebra, Laws}
use Rattle.drt_worklist.specs.Places.{first}
use Rattle.drt_worklist.proofs.Lists.{Joined, earlier, later, before_join, after_end, first_is, first_none, length_join}
use Rattle.drt_table.specs.Node.{Held, is_kept}
use Rattle.drt_table.specs.Held.{AllOf, dominates_held}
use Rattle.drt_table.specs.Sampled.{labels_of, sampled_from}
use Rattle.drt_table.proofs.Adding.{true_not_false}
use Rattle.drt_table.proofs.Earliest.{and_right}
use Rattle.drt_table.proofs.Sampled.{IsEntryOf, entry_of, has_entry, ascending as sampled_ascending}

-- the entry is that of a node
pub record IsNodes {L : Type 0} (a : Algebra L) (nodes : List (Held L)) (e : KeptLabel) : Type 0 where
  pub held : Held L
  pub at : slice_get nodes e.number ≡ Some held
  pub samples : e.samples ≡ a.samples held.node.label

-- an entry of that number stands there
pub record HasEntry (rest : List KeptLabel) (k : ℕ) : Type 0 where
  pub place : ℕ
  pub entry : KeptLabel
  pub at : slice_get rest place ≡ Some entry
  pub number : entry.number ≡ k

-- the entries that are left are those of nodes, in ascending order, and each node that dominates the label has one there
pub record IsTold {L : Type 0} (a : Algebra L) (l : L) (nodes : List (Held L)) (rest : List KeptLabel) : Type 0 where
  pub sound : (j : ℕ) (e : KeptLabel) → slice_get rest j ≡ Some e → IsNodes a nodes e
  pub all : (k : ℕ) (h : Held L) → slice_get nodes k ≡ Some h → dominates_held a l h ≡ true → HasEntry rest k
  pub ascending : (i j : ℕ) (e f : KeptLabel) → slice_get rest i ≡ Some e → slice_get rest j ≡ Some f → i < j → e.number < f.number

-- a look that found an entry
pub look_found : (shelf : Shelf) (seek : Seek) (samples : List ℕ) (rest : List KeptLabel) (o : Option ℕ) (number : ℕ) → IsFoundLabel shelf seek samples rest o → o ≡ Some number
    → IsFoundLabelAt shelf seek samples rest number
look_found shelf seek samples rest o number found is = subst (λ p. IsFoundLabel shelf seek samples rest p) is found

-- the node of a label
held_at : {L : Type 0} (nodes : List (Held L)) (k : ℕ) (l : L) → slice_get (labels_of nodes) k ≡ Some l → (h : Held L) × (slice_get nodes k ≡ Some h) × (l ≡ h.node.label)
held_at {L} nodes k l at = go (slice_get nodes k) refl (sym (slice_get-map (λ (x : Held L). x.node.label) nodes k) ∙ at)
  where
    go : (o : Option (Held L)) → slice_get nodes k ≡ o → option_map (λ (x : Held L). x.node.label) o ≡ Some l → (h : Held L) × (slice_get nodes k ≡ Some h) × (l ≡ h.node.label)
    go None is e = absurd (none-some l e)
    go (Some h) is e = (h, is, sym (same_Some h.node.label l e))

module _ {L : Type 0} (a : Algebra L) (laws : Laws a) (l : L) (nodes : List (Held L)) where
  dominates : (h : Held L) → dominates_held a l h ≡ true → IsTrue (a.dominates h.node.label l)
  dominates h t = and_right (is_kept h.node) (a.dominates h.node.label l) t

  -- a look that begins
  pub seek_first : (shelf : Shelf) (seek : Seek) (samples : List ℕ) (rest : List KeptLabel) → IsSeek shelf seek samples rest → samples ≡ a.samples l
      → IsSeek shelf seek (a.samples l) (remaining shelf seek)
  seek_first shelf seek samples rest is same = record { seeking = is.seeking; samples_is = is.samples_is ∙ same; rest_is = refl }

  -- all entries of the label's vertex are left at first
  pub told_first : (rest : List KeptLabel) → rest ≡ sampled_from a (a.vertex l) 0 (labels_of nodes) → IsTold a l nodes rest
  told_first rest is = subst (λ (es : List KeptLabel). IsTold a l nodes es) (sym is) (record {
    sound = λ j e at. sound e (entry_of a (a.vertex l) 0 (labels_of nodes) j e at);
    all = all;
    ascending = λ i j e f at_e at_f lt. sampled_ascending a (a.vertex l) 0 (labels_of nodes) i j e f at_e at_f lt;
  })
    where
      sound : (e : KeptLabel) → IsEntryOf a (a.vertex l) 0 (labels_of nodes) e → IsNodes a nodes e
      sound e is =
          let h = held_at nodes is.place is.label is.at in
          let n : e.number ≡ is.place = is.number ∙ (let z : 0 + is.place ≡ is.place = omega arith in z) in
          record { held = h.0; at = ap (λ k. slice_get nodes k) n ∙ h.1; samples = is.samples ∙ ap a.samples h.2 }

      all : (k : ℕ) (h : Held L) → slice_get nodes k ≡ Some h → dominates_held a l h ≡ true → HasEntry (sampled_from a (a.vertex l) 0 (labels_of nodes)) k
      all k h at t =
          let label : slice_get (labels_of nodes) k ≡ Some h.node.label = slice_get-map (λ (x : Held L). x.node.label) nodes k ∙ ap (λ o. option_map (λ (x : Held L). x.node.label) o) at in
          let r = has_entry a (a.vertex l) 0 (labels_of nodes) k h.node.label label (laws.same_vertex h.node.label l (dominates h t)) in
          record { place = r.0; entry = r.1; at = r.2; number = r.3 ∙ (let z : 0 + k ≡ k = omega arith in z) }

  module _ (bound : ℕ) (of : IsTrue (a.is_of l bound)) (all_of : AllOf (λ (h : Held L). IsTrue (a.is_of h.node.label bound)) nodes) where
    -- a node one of whose samples is less doesn't dominate the label
    below_not : (e : KeptLabel) → IsNodes a nodes e → IsRuledOut (a.samples l) e → (h : Held L) → slice_get nodes e.number ≡ Some h → dominates_held a l h ≡ true → ⊥
    below_not e is below h at t =
        let same : is.held ≡ h = same_Some is.held h (sym is.at ∙ at) in
        let samples : e.samples ≡ a.samples h.node.label = is.samples ∙ ap (λ (x : Held L). a.samples x.node.label) same in
        let less : slice_index (a.samples h.node.label) below.0 < slice_index (a.samples l) below.0 = subst (λ xs. slice_index xs below.0 < slice_index (a.samples l) below.0) samples below.1 in
        let most : slice_index (a.samples l) below.0 ≤ slice_index (a.samples h.node.label) below.0 = laws.sampled h.node.label l bound below.0 (all_of e.number h at) of (dominates h t) in
        omega arith

    -- each entry has a sample that is less
    none_above : (passed : List KeptLabel) → ((j : ℕ) (e : KeptLabel) → slice_get passed j ≡ Some e → IsNodes a nodes e) → AreRuledOut (a.samples l) passed
        → (k : ℕ) (h : Held L) → slice_get nodes k ≡ Some h → dominates_held a l h ≡ true → HasEntry passed k → ⊥
    none_above passed sound below k h at t has =
        below_not has.entry (sound has.place has.entry has.at) (below has.place has.entry has.at) h (ap (λ n. slice_get nodes n) has.number ∙ at) t

    -- at the end of the entries
    pub told_end : (rest : List KeptLabel) → IsTold a l nodes rest → AreRuledOut (a.samples l) rest → None ≡ first (dominates_held a l) nodes
    told_end rest told below = first_none (dominates_held a l) nodes (λ k y lt at. by_test k y at (dominates_held a l y) refl)
      where
        by_test : (k : ℕ) (y : Held L) → slice_get nodes k ≡ Some y → (b : Bool) → dominates_held a l y ≡ b → dominates_held a l y ≡ false
        by_test k y at false t = t
        by_test k y at true t = absurd (none_above rest told.sound below k y at t (told.all k y at t))

    -- at an entry, past others that have a sample that is less
    module _ (rest passed after : List KeptLabel) (e : KeptLabel) (told : IsTold a l nodes rest) (rest_is : rest ≡ passed ++ e ∷ after) (below : AreRuledOut (a.samples l) passed) where
      joined : IsTold a l nodes (passed ++ e ∷ after)
      joined = subst (λ (es : List KeptLabel). IsTold a l nodes es) rest_is told

      at_e : slice_get (passed ++ e ∷ after) (length passed + 0) ≡ Some e
      at_e = after_end passed (e ∷ after) 0 e refl

      at_after : (j : ℕ) (f : KeptLabel) → slice_get after j ≡ Some f → slice_get (passed ++ e ∷ after) (length passed + suc j) ≡ Some f
      at_after j f at = after_end passed (e ∷ after) (suc j) f at

      here : IsNodes a nodes e
      here = joined.sound (length passed + 0) e at_e

      pub told_within : e.number < length nodes
      told_within = slice_get_within nodes e.number here.held here.at

      -- the entry of a node that dominates is this one, or comes after it
      ahead : (k : ℕ) (h : Held L) → slice_get nodes k ≡ Some h → dominates_held a l h ≡ true → (k ≡ e.number) ⊎ HasEntry after k
      ahead k h at t = by_has (joined.all k h at t)
        where
          by_later : (f : KeptLabel) → f.number ≡ k → (i : ℕ) → slice_get (e ∷ after) i ≡ Some f → (k ≡ e.number) ⊎ HasEntry after k
          by_later f number zero at_f = inl (sym number ∙ ap (λ (g : KeptLabel). g.number) (sym (same_Some e f at_f)))
          by_later f number (suc i) at_f = inr (record { place = i; entry = f; at = at_f; number = number })

          by_joined : (j : ℕ) (f : KeptLabel) → slice_get (passed ++ e ∷ after) j ≡ Some f → f.number ≡ k → Joined passed (e ∷ after) j f → (k ≡ e.number) ⊎ HasEntry after k
          by_joined j f at_j number (earlier at_f) =
              absurd (below_not f (joined.sound j f at_j) (below j f at_f) h (ap (λ n. slice_get nodes n) number ∙ at) t)
          by_joined j f at_j number (later i j_is at_f) = by_later f number i at_f

          by_has : HasEntry (passed ++ e ∷ after) k → (k ≡ e.number) ⊎ HasEntry after k
          by_has has = by_joined has.place has.entry has.at has.number (before_join passed (e ∷ after) has.place has.entry has.at)

      module _ (h : Held L) (at_h : slice_get nodes e.number ≡ Some h) where
        -- where the entry's node dominates, it is the least that does
        pub told_found : dominates_held a l h ≡ true → Some e.number ≡ first (dominates_held a l) nodes
        told_found d = first_is (dominates_held a l) nodes e.number h at_h d (λ k y lt at. by_test k y lt at (dominates_held a l y) refl)
          where
            no_less : (k : ℕ) → k < e.number → (k ≡ e.number) ⊎ HasEntry after k → ⊥
            no_less k lt (inl same) = omega arith
            no_less k lt (inr has) =
                let more : e.number < has.entry.number = joined.ascending (length passed + 0) (length passed + suc has.place) e has.entry at_e (at_after has.place has.entry has.at) (omega arith) in
                let number : has.entry.number ≡ k = has.number in
                omega arith

            by_test : (k : ℕ) (y : Held L) → k < e.number → slice_get nodes k ≡ Some y → (b : Bool) → dominates_held a l y ≡ b → dominates_held a l y ≡ false
            by_test k y lt at false t = t
            by_test k y lt at true t = absurd (no_less k lt (ahead k y at t))

        -- where it doesn't, the entries after it are left
        pub told_more : dominates_held a l h ≡ false → IsTold a l nodes after
        told_more d = record {
          sound = λ j f at. joined.sound (length passed + suc j) f (at_after j f at);
          all = λ k y at t. by_place k y at t (ahead k y at t);
          ascending = λ i j f g at_f at_g lt. joined.ascending (length passed + suc i) (length passed + suc j) f g (at_after i f at_f) (at_after j g at_g) (omega arith);
        }
          where
            by_place : (k : ℕ) (y : Held L) → slice_get nodes k ≡ Some y → dominates_held a l y ≡ true → (k ≡ e.number) ⊎ HasEntry after k → HasEntry after k
            by_place k y at t (inl same) =
                absurd (true_not_false t (ap (λ (x : Held L). dominates_held a l x) (same_Some y h (sym at ∙ (ap (λ n. slice_get nodes n) same ∙ at_h))) ∙ d))
            by_place k y at t (inr has) = has

    -- at the entry that a look found
    module _ (shelf : Shelf) (seek : Seek) (rest : List KeptLabel) (number : ℕ) (told : IsTold a l nodes rest) (found : IsFoundLabelAt shelf seek (a.samples l) rest number) where
      pub found_within : number < length nodes
      found_within = subst (λ n. n < length nodes) found.number_is (told_within rest found.passed found.after found.entry told found.rest_is found.below)

      -- fewer entries are left
      pub found_less : length (remaining shelf seek) < length rest
      found_less =
          let left : length (remaining shelf seek) ≡ length found.after = ap length found.seek_is.rest_is in
          let all : length rest ≡ length found.passed + suc (length found.after) = ap length found.rest_is ∙ length_join found.passed (found.entry ∷ found.after) in
          omega arith

      pub found_seek : IsSeek shelf seek (a.samples l) (remaining shelf seek)
      found_seek = record { seeking = found.seek_is.seeking; samples_is = found.seek_is.samples_is; rest_is = refl }

      module _ (h : Held L) (at : slice_get nodes number ≡ Some h) where
        at_entry : slice_get nodes found.entry.number ≡ Some h
        at_entry = ap (λ n. slice_get nodes n) found.number_is ∙ at

        pub found_first : dominates_held a l h ≡ true → Some number ≡ first (dominates_held a l) nodes
        found_first d = ap (λ n. Some n) (sym found.number_is) ∙ told_found rest found.passed found.after found.entry told found.rest_is found.below h at_entry d

        pub found_more : dominates_held a l h ≡ false → IsTold a l nodes (remaining shelf seek)
        found_more d =
            subst (λ (es : List KeptLabel). IsTold a l nodes es) (sym found.seek_is.rest_is) (told_more rest found.passed found.after found.entry told found.rest_is found.below h at_entry d)

-- the look found node `number`: what each answer there rests on
pub record Looking {L : Type 0} (a : Algebra L) (l : L) (nodes : List (Held L)) (shelf : Shelf) (seek : Seek) (rest : List KeptLabel) (number : ℕ) : Type 0 where
  pub within : number < length nodes
  pub less : length (remaining shelf seek) < length rest
  pub seek_is : IsSeek shelf seek (a.samples l) (remaining shelf seek)
  pub is_first : (h : Held L) → slice_get nodes number ≡ Some h → dominates_held a l h ≡ true → Some number ≡ first (dominates_held a l) nodes
  pub more : (h : Held L) → slice_get nodes number ≡ Some h → dominates_held a l h ≡ false → IsTold a l nodes (remaining shelf seek)

pub looking : {L : Type 0} (a : Algebra L) (laws : Laws a) (l : L) (nodes : List (Held L)) (bound : ℕ) → IsTrue (a.is_of l bound)
    → AllOf (λ (h : Held L). IsTrue (a.is_of h.node.label bound)) nodes → (shelf : Shelf) (seek : Seek) (rest : List KeptLabel) (o : Option ℕ) (number : ℕ)
    → IsTold a l nodes rest → IsFoundLabel shelf seek (a.samples l) rest o → o ≡ Some number → Looking a l nodes shelf seek rest number
looking {L} a laws l nodes bound of all_of shelf seek rest o number told found is =
    let at : IsFoundLabelAt shelf seek (a.samples l) rest number = look_found shelf seek (a.samples l) rest o number found is in
    record {
      within = found_within a laws l nodes bound of all_of shelf seek rest number told at;
      less = found_less a laws l nodes bound of all_of shelf seek rest number told at;
      seek_is = found_seek a laws l nodes bound of all_of shelf seek rest number told at;
      is_first = found_first a laws l nodes bound of all_of shelf seek rest number told at;
      more = found_more a laws l nodes bound of all_of shelf seek rest number told at;
    }
