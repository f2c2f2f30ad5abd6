-- The items of the combinations on a stack, read one after another.
use Rattle.std.proofs.Common.{◌≡◌, ℕ, ◌+◌, ◌≤◌, ◌<◌, Option, None, Some, List, [], ◌∷◌, ◌++◌, length, All, refl, sym, ap, ◌∙◌, subst, arith, append_assoc}
use Rattle.std.specs.Prelude.{slice_get, slice_set}
use Rattle.std.proofs.lemmas.List.{append-nil}
use Rattle.std.proofs.lemmas.List.Elements.{All-append, All-cons, All-push, All-nil}
use Rattle.std.proofs.lemmas.Option.{slice_get_within}
use Rattle.drt_model.specs.Numbers.{most_time}
use Rattle.drt_worklist.proofs.Lists.{length_join}
use Rattle.drt_tree.specs.Tree.{Plain}
use Rattle.drt_claims.specs.Ranges.{IsInRangeItem, IsNumber}
use Rattle.drt_claims.specs.declared.evidence.Item.{Item}
use Rattle.drt_claims.specs.declared.evidence.Item.TheVariants.{Pass, Split}
use Rattle.drt_refine.specs.Combination.{Combination}
use Rattle.drt_refine.specs.Machine.{FrontierSetting}
use Rattle.drt_refine.specs.Settled.{AreSettled, CombinationHasNodes, IsSettled, IsSplitInto}
use Rattle.drt_refine.specs.declared.step.CombinationState.{CombinationState}
use Rattle.drt_refine.specs.declared.step.CombinationState.TheVariants.{Pending, Taken, Passed as PassedAt, Split as SplitAt, Failed}
use Rattle.drt_steps.specs.Time.{IsLeastTime}
use Rattle.drt_sp.specs.Items.{AreItems, AreHalves, IsItemOf, none, pass, split}
use Rattle.drt_sp.specs.Parts.{AreAdded, AreEndOf}
use Rattle.drt_sp.proofs.Joining.{items_join}
use Rattle.drt_sp.proofs.Visits.{IsVisit, top_within, visit_pass, visit_split, visit_start}

abbrev nodes_of : Option Combination → List ℕ
nodes_of None = []
nodes_of (Some c) = c.nodes

-- The nodes of the combinations on a stack, the topmost first. The top is the last of the numbers.
abbrev pub stacked : List Combination → List ℕ → List (List ℕ) → List (List ℕ)
stacked cs [] under = under
stacked cs (id ∷ ids) under = stacked cs ids (nodes_of (slice_get cs id) ∷ under)

stacked_push : (cs : List Combination) (ids : List ℕ) (id : ℕ) (under : List (List ℕ)) → stacked cs (ids ++ id ∷ []) under ≡ nodes_of (slice_get cs id) ∷ stacked cs ids under
stacked_push cs [] id under = refl
stacked_push cs (i ∷ ids) id under = stacked_push cs ids id (nodes_of (slice_get cs i) ∷ under)

stacked_two : (cs : List Combination) (ids : List ℕ) (a b : ℕ) (under : List (List ℕ))
    → stacked cs (ids ++ a ∷ b ∷ []) under ≡ nodes_of (slice_get cs b) ∷ nodes_of (slice_get cs a) ∷ stacked cs ids under
stacked_two cs [] a b under = refl
stacked_two cs (i ∷ ids) a b under = stacked_two cs ids a b (nodes_of (slice_get cs i) ∷ under)

has_nodes : (cs : List Combination) (id : ℕ) (nodes : List ℕ) → CombinationHasNodes cs id nodes → nodes_of (slice_get cs id) ≡ nodes
has_nodes cs id nodes h = ap nodes_of h.at ∙ h.are

-- The items so far, and whatever items end the stack, end the roots.
pub record IsRead (f : Plain) (wcet deadline : ℕ) (roots : List ℕ) (cs : List Combination) (items : List Item) (stack : List ℕ) : Type 0 where
  pub goes : (more : List Item) → AreItems f wcet deadline more (stacked cs stack []) → AreItems f wcet deadline (items ++ more) (roots ∷ [])
  pub in_range : All IsInRangeItem items

-- The same where each combination that was visited has one item.
pub record IsReading (f : Plain) (wcet deadline : ℕ) (roots : List ℕ) (cs : List Combination) (items : List Item) (stack : List ℕ) : Type 0 where
  pub read : IsRead f wcet deadline roots cs items stack
  pub visit : IsVisit cs stack (length items)

pub read_start : (t : FrontierSetting) (cs : List Combination) → AreSettled t cs → IsRead t.forest t.wcet t.deadline t.roots cs [] (0 ∷ [])
read_start t cs settled = record {
  goes = λ more h. subst (λ (nodes : List ℕ). AreItems t.forest t.wcet t.deadline more (nodes ∷ [])) (has_nodes cs 0 t.roots settled.opening) h;
  in_range = All-nil IsInRangeItem;
}

pub read_end : (t : FrontierSetting) (cs : List Combination) (items : List Item) → IsRead t.forest t.wcet t.deadline t.roots cs items []
    → AreItems t.forest t.wcet t.deadline items (t.roots ∷ [])
read_end t cs items r = subst (λ (l : List Item). AreItems t.forest t.wcet t.deadline l (t.roots ∷ [])) (append-nil items) (r.goes [] none)

pub reading_start : (t : FrontierSetting) (cs : List Combination) → AreSettled t cs → 1 ≤ length cs → IsReading t.forest t.wcet t.deadline t.roots cs [] (0 ∷ [])
reading_start t cs settled some = record { read = read_start t cs settled; visit = visit_start cs some }

pub reading_end : (t : FrontierSetting) (cs : List Combination) (items : List Item) → IsReading t.forest t.wcet t.deadline t.roots cs items []
    → AreItems t.forest t.wcet t.deadline items (t.roots ∷ [])
reading_end t cs items r = read_end t cs items r.read

module _ (t : FrontierSetting) (cs : List Combination) (settled : AreSettled t cs) (items : List Item) (rest : List ℕ) (id : ℕ) (c : Combination) (at : slice_get cs id ≡ Some c) where
  abbrev Reads : List Item → List ℕ → Type 0
  Reads items stack = IsReading t.forest t.wcet t.deadline t.roots cs items stack

  abbrev Read : List Item → List ℕ → Type 0
  Read items stack = IsRead t.forest t.wcet t.deadline t.roots cs items stack

  abbrev Are : List Item → List (List ℕ) → Type 0
  Are items stack = AreItems t.forest t.wcet t.deadline items stack

  longer : (item : Item) → length items + 1 ≡ length (items ++ item ∷ [])
  longer item = sym (length_join items (item ∷ []))

  on_top : c.nodes ∷ stacked cs rest [] ≡ stacked cs (rest ++ id ∷ []) []
  on_top = sym (stacked_push cs rest id [] ∙ ap (λ (nodes : List ℕ). nodes ∷ stacked cs rest []) (ap nodes_of at))

  -- what ends the stack with this item first
  with_item : Read items (rest ++ id ∷ []) → (item : Item) (more : List Item) → Are (item ∷ more) (c.nodes ∷ stacked cs rest []) → Are ((items ++ item ∷ []) ++ more) (t.roots ∷ [])
  with_item r item more h =
      subst (λ (l : List Item). Are l (t.roots ∷ [])) (sym (append_assoc items (item ∷ []) more)) (r.goes (item ∷ more) (subst (λ (s : List (List ℕ)). Are (item ∷ more) s) on_top h))

  read_pass : (time : ℕ) → t.deadline ≤ most_time → c.state ≡ PassedAt time → Read items (rest ++ id ∷ []) → Read (items ++ Pass time ∷ []) rest
  read_pass time small is r =
      let least : IsLeastTime t.wcet t.deadline t.forest.pool c.nodes time = subst (λ (s : CombinationState). IsSettled t cs id c.nodes s) is (settled.each id c at) in
      record {
        goes = λ more h. with_item r (Pass time) more (pass time more c.nodes (stacked cs rest []) least h);
        in_range = All-push IsInRangeItem items (Pass time) r.in_range (let le : time ≤ t.deadline = least.passes.to in omega (arith, small));
      }

  read_split : (place left right : ℕ) → IsNumber place → c.state ≡ SplitAt place left right → Read items (rest ++ id ∷ []) → Read (items ++ Split place ∷ []) (rest ++ right ∷ left ∷ [])
  read_split place left right number is r =
      let into : IsSplitInto t cs id c.nodes place left right = subst (λ (s : CombinationState). IsSettled t cs id c.nodes s) is (settled.each id c at) in
      let l = slice_set c.nodes place into.pair.left in
      let h = slice_set c.nodes place into.pair.right in
      let under = stacked cs rest [] in
      let two : stacked cs (rest ++ right ∷ left ∷ []) [] ≡ l ∷ h ∷ under =
      stacked_two cs rest right left []
      ∙ (ap (λ (nodes : List ℕ). nodes ∷ nodes_of (slice_get cs right) ∷ under) (has_nodes cs left l into.left_has)
      ∙ ap (λ (nodes : List ℕ). l ∷ nodes ∷ under) (has_nodes cs right h into.right_has)) in
      let halves : AreHalves t.forest t.wcet t.deadline c.nodes place into.pair.left into.pair.right = record { node = into.pair.node; at = into.pair.at; children = into.pair.children } in
      record {
        goes =
            λ more g. with_item r (Split place) more (split place into.pair.left into.pair.right more c.nodes under into.none into.place_is halves (subst (λ (s : List (List ℕ)). Are more s) two g));
        in_range = All-push IsInRangeItem items (Split place) r.in_range number;
      }

  read_part : (added : List Item) → AreEndOf t.forest t.wcet t.deadline c.nodes added → Read items (rest ++ id ∷ []) → Read (items ++ added) rest
  read_part added ends r = record {
    goes = λ more h. subst (λ (l : List Item). Are l (t.roots ∷ [])) (sym (append_assoc items added more)) (r.goes (added ++ more)
        (subst (λ (s : List (List ℕ)). Are (added ++ more) s) on_top (items_join t.forest t.wcet t.deadline added more (c.nodes ∷ []) (stacked cs rest []) ends.items_are h)));
    in_range = All-append IsInRangeItem items added r.in_range ends.in_range;
  }

  read_by : (s : CombinationState) (added : List Item) (new : List ℕ) → t.deadline ≤ most_time → c.state ≡ s → AreAdded t.forest t.wcet t.deadline s c.nodes added rest new
      → Read items (rest ++ id ∷ []) → Read (items ++ added) new
  read_by Pending added new small is h r = subst (λ (s : List ℕ). Read (items ++ added) s) (sym h.1) (read_part added h.0 r)
  read_by (Taken w) added new small is h r = subst (λ (s : List ℕ). Read (items ++ added) s) (sym h.1) (read_part added h.0 r)
  read_by (PassedAt time) added new small is h r =
      subst (λ (i : List Item). Read (items ++ i) new) (sym h.0) (subst (λ (s : List ℕ). Read (items ++ Pass time ∷ []) s) (sym h.1) (read_pass time small is r))
  read_by (SplitAt place left right) added new small is h r =
      subst (λ (i : List Item). Read (items ++ i) new) (sym h.0) (subst (λ (s : List ℕ). Read (items ++ Split place ∷ []) s) (sym h.2) (read_split place left right h.1 is r))
  read_by Failed added new small is h r = elim h [ ]

  -- the items of the topmost combination were added
  pub read_more : (added : List Item) (new : List ℕ) → t.deadline ≤ most_time → AreAdded t.forest t.wcet t.deadline c.state c.nodes added rest new → Read items (rest ++ id ∷ [])
      → Read (items ++ added) new
  read_more added new small h r = read_by c.state added new small refl h r

  within_by : (s : CombinationState) (added : List Item) (new : List ℕ) → c.state ≡ s → AreAdded t.forest t.wcet t.deadline s c.nodes added rest new → All (λ n. n < length cs) rest
      → All (λ n. n < length cs) new
  within_by Pending added new is h all = subst (λ (s : List ℕ). All (λ n. n < length cs) s) (sym h.1) all
  within_by (Taken w) added new is h all = subst (λ (s : List ℕ). All (λ n. n < length cs) s) (sym h.1) all
  within_by (PassedAt time) added new is h all = subst (λ (s : List ℕ). All (λ n. n < length cs) s) (sym h.1) all
  within_by (SplitAt place left right) added new is h all =
      let into : IsSplitInto t cs id c.nodes place left right = subst (λ (s : CombinationState). IsSettled t cs id c.nodes s) is (settled.each id c at) in
      let l : left < length cs = slice_get_within cs left into.left_has.combination into.left_has.at in
      let r : right < length cs = slice_get_within cs right into.right_has.combination into.right_has.at in
      subst (λ (s : List ℕ). All (λ n. n < length cs) s) (sym h.2)
      (All-append (λ n. n < length cs) rest (right ∷ left ∷ []) all
      (All-cons (λ n. n < length cs) right (left ∷ []) r (All-cons (λ n. n < length cs) left [] l (All-nil (λ n. n < length cs)))))
  within_by Failed added new is h all = elim h [ ]

  -- what stands new on the stack are numbers of combinations
  pub within_more : (added : List Item) (new : List ℕ) → AreAdded t.forest t.wcet t.deadline c.state c.nodes added rest new → All (λ n. n < length cs) rest → All (λ n. n < length cs) new
  within_more added new h all = within_by c.state added new refl h all

  reading_pass : (time : ℕ) → t.deadline ≤ most_time → c.state ≡ PassedAt time → Reads items (rest ++ id ∷ []) → Reads (items ++ Pass time ∷ []) rest
  reading_pass time small is r = record {
    read = read_pass time small is r.read;
    visit = subst (λ n. IsVisit cs rest n) (longer (Pass time)) (visit_pass cs rest id (length items) r.visit);
  }

  reading_split : (place left right : ℕ) → IsNumber place → c.state ≡ SplitAt place left right → Reads items (rest ++ id ∷ []) → Reads (items ++ Split place ∷ []) (rest ++ right ∷ left ∷ [])
  reading_split place left right number is r = record {
    read = read_split place left right number is r.read;
    visit = subst (λ n. IsVisit cs (rest ++ right ∷ left ∷ []) n) (longer (Split place)) (visit_split cs rest id (length items) r.visit t settled c at place left right is);
  }

  reading_by : (s : CombinationState) (item : Item) (new : List ℕ) → t.deadline ≤ most_time → c.state ≡ s → IsItemOf s item rest new → Reads items (rest ++ id ∷ [])
      → Reads (items ++ item ∷ []) new
  reading_by Pending item new small is h r = elim h [ ]
  reading_by (Taken w) item new small is h r = elim h [ ]
  reading_by (PassedAt time) item new small is h r =
      subst (λ (i : Item). Reads (items ++ i ∷ []) new) (sym h.0) (subst (λ (s : List ℕ). Reads (items ++ Pass time ∷ []) s) (sym h.1) (reading_pass time small is r))
  reading_by (SplitAt place left right) item new small is h r =
      subst (λ (i : Item). Reads (items ++ i ∷ []) new) (sym h.0) (subst (λ (s : List ℕ). Reads (items ++ Split place ∷ []) s) (sym h.2) (reading_split place left right h.1 is r))
  reading_by Failed item new small is h r = elim h [ ]

  -- one more item was read, that of the topmost combination
  pub reading_more : (item : Item) (new : List ℕ) → t.deadline ≤ most_time → IsItemOf c.state item rest new → Reads items (rest ++ id ∷ []) → Reads (items ++ item ∷ []) new
  reading_more item new small h r = reading_by c.state item new small refl h r

-- the topmost number is that of a combination
pub top : (cs : List Combination) (stack rest : List ℕ) (id k : ℕ) → stack ≡ rest ++ id ∷ [] → IsVisit cs stack k → id < length cs
top cs stack rest id k is v = top_within cs rest id k (subst (λ (l : List ℕ). IsVisit cs l k) is v)
